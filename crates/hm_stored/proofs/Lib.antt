mod AdmitCallLemmas
mod AdmitLemmas
mod ApartLemmas
pub mod BasisLemmas
mod BeginLemmas
mod BookLemmas
mod CauseLemmas
mod ChangeLemmas
mod ExtentCallLemmas
mod FetchLemmas
mod FixedByteLemmas
mod FixedLemmas
mod HeldLemmas
pub mod KnownLemmas
mod LogLemmas
mod MapLemmas
mod MovingLemmas
mod NewNodeLemmas
mod NodeCallLemmas
mod NodeStepLemmas
mod PageLemmas
mod PayloadCallLemmas
mod PayloadStepLemmas
mod PlaceLemmas
mod PutCallLemmas
mod PutLemmas
mod ReferLemmas
mod RoomLemmas
mod SafeLemmas
pub mod SpotLemmas
mod RootLemmas
mod StandingLemmas
mod StoredLemmas
mod UseLemmas
mod TurnLemmas
pub mod UntoldLemmas
mod VolumeLemmas
mod TreeLemmas
mod MountLemmas
mod ToldLemmas
pub mod OpenedLemmas
mod DroppedLemmas
mod TreeCountLemmas
mod KeptLemmas
mod LookLemmas
mod FlushLemmas
