pub mod LooseStore
