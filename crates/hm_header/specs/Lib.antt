pub mod Layout
pub mod Parts
pub mod Range
pub mod Slots
pub mod OnDisk
pub mod Change
