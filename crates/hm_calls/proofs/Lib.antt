pub mod SceneLemmas
pub mod RefusalLemmas
pub mod WordLemmas
pub mod KindLemmas
pub mod CheckLemmas
pub mod PlaceLemmas
pub mod TreeLemmas
pub mod EffectLemmas
pub mod LookLemmas
pub mod CatLemmas
pub mod ReadLemmas
pub mod TakeLemmas
pub mod FileLemmas
pub mod EditLemmas
pub mod NowLemmas
pub mod StageLemmas
pub mod RemoveLemmas
pub mod SpaceLemmas
pub mod StepLemmas
pub mod CauseLemmas
pub mod DropLemmas
pub mod NameStepLemmas
pub mod MakeLemmas
pub mod MadeLemmas
pub mod FrontLemmas
pub mod LinkLemmas
pub mod LinkCallLemmas
pub mod AnswerLemmas
pub mod MoveLemmas
pub mod ReachLemmas
mod MoveStageLemmas
pub mod KnownLemmas
pub mod GivenLemmas
pub mod MayReplyLemmas
pub mod SystemLemmas
mod NewNumberLemmas
mod NewSystemLemmas
mod NewCallLemmas
mod NewEffectLemmas
mod NewStageLemmas
pub mod RetentionLemmas
mod PruneCheckLemmas
pub mod PruneLemmas
mod PruneRecordLemmas
pub mod AnsweredLemmas
