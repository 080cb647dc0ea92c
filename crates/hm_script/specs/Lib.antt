pub mod Values
pub mod Texts
pub mod Lanes
pub mod PathForms
pub mod Commands
pub mod Gathering
pub mod Reading
