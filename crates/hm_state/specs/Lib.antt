pub mod Volume
pub mod Written
pub mod Free
pub mod AtRest
pub mod Flushing
pub mod Live
