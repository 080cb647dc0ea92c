mod OlderLemmas
mod TestLemmas
