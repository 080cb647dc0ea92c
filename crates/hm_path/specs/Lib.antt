pub mod Component
pub mod Path
