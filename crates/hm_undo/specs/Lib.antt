pub mod Entry
pub mod Log
pub mod Range
pub mod Recovered
