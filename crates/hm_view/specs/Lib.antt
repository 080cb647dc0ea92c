pub mod Trees
pub mod Pass
pub mod Volumes
pub mod Snapshots
