mod TreesLemmas
mod PassLemmas
mod OrderLemmas
mod ListingLemmas
mod SizeLemmas
mod LinkLemmas
mod NamedLemmas
mod SnapshotLemmas
