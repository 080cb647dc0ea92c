mod AwayLemmas
mod CopyLemmas
mod LeftLemmas
mod LookLemmas
mod RelocateLemmas
mod StageLemmas
mod TwinLemmas
mod UnitLemmas
