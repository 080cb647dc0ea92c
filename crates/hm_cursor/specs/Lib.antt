pub mod Shown
pub mod Version
pub mod Read
pub mod Told
pub mod Write
pub mod Views
pub mod Names
