pub mod ByteLemmas
pub mod FieldLemmas
pub mod MoveLemmas
