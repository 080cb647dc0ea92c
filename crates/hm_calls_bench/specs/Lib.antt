pub mod TableStore
