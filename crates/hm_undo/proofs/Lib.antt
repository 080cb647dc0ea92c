pub mod EntryLemmas
pub mod LogLemmas
pub mod PutBackLemmas
pub mod RangeLemmas
pub mod RecoveredLemmas
