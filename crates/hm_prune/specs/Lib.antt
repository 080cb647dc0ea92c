pub mod Dead
pub mod Prunes
