pub mod ComponentLemmas
pub mod IdLemmas
pub mod PathLemmas
pub mod SplitLemmas
pub mod ReadLemmas
