pub mod Bytes
pub mod Close
pub mod Put
pub mod Write
pub mod Source
pub mod Nearest
