mod KeyLemmas
mod MadeLemmas
mod RecordLemmas
mod SystemLemmas
mod UnusedLemmas
