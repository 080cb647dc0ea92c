pub mod Growth
pub mod Intervals
pub mod Retention
pub mod Walk
