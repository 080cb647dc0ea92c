pub mod ByteLemmas
mod PieceLemmas
mod ReadLemmas
mod NearLemmas
mod ClearLemmas
pub mod ShownLemmas
pub mod SpanLemmas
mod CloseLemmas
mod CloseToldLemmas
mod VersionLemmas
mod PutLemmas
mod CutLemmas
pub mod TellLemmas
mod CutToldLemmas
mod WriteLemmas
mod MergeLemmas
mod FollowLemmas
