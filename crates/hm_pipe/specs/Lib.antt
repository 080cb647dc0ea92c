pub mod Counted
pub mod MemSink
pub mod MemSource
pub mod Pipe
