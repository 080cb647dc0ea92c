pub mod Contents
pub mod Layers
pub mod Steps
pub mod Volume
