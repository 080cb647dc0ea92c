pub mod CrashLemmas
pub mod DiskLemmas
pub mod MomentLemmas
pub mod OverwriteLemmas
pub mod RangeLemmas
pub mod TransferLemmas
