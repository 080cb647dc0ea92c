mod CrashedLemmas
mod MemLemmas
mod PageLemmas
mod SoundLemmas
