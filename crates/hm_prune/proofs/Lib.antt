mod LookLemmas
mod PruneLemmas
