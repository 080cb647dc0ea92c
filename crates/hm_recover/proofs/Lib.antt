pub mod AnswerLemmas
pub mod BoundaryLemmas
pub mod DamageLemmas
pub mod PageLemmas
pub mod PutLemmas
pub mod RecoverLemmas
