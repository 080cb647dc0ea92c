pub mod Seen
pub mod Step
pub mod Served
pub mod Next
pub mod Causes
pub mod Pruned
pub mod Cut
