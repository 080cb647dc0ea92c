pub mod NewLemmas
pub mod ShownLemmas
pub mod SpaceLemmas
pub mod VersionLemmas
pub mod SizeLemmas
