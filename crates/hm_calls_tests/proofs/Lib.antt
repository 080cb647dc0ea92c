pub mod TestLemmas
mod NewSystemLemmas
