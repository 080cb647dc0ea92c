pub mod MadeLemmas
pub mod RecordLemmas
