pub mod Crash
pub mod Disk
pub mod Moments
pub mod Transfer
pub mod WriteLaws
