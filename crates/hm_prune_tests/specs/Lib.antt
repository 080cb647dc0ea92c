pub mod TreeStore
