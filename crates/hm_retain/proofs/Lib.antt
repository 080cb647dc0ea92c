pub mod CutLemmas
mod FirstKeptLemmas
pub mod GrowthLemmas
pub mod ListedLemmas
pub mod SameLemmas
pub mod SearchLemmas
pub mod SetLemmas
pub mod UnionLemmas
pub mod WalkLemmas
