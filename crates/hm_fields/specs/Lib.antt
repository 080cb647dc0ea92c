pub mod Fields
pub mod Moves
pub mod Pages
pub mod States
pub mod MemPages
