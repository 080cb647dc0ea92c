pub mod Chosen
pub mod Leaving
pub mod Unit
pub mod Way
