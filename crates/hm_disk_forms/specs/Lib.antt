pub mod FileDisk
pub mod MemDisk
pub mod MemLaws
pub mod Pages
pub mod PastLaws
pub mod Sound
