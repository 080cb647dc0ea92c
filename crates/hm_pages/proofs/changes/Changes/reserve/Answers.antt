use Rattle.std.proofs.Common.{◌∙◌, sym, option_map}
use Rattle.std.proofs.lemmas.Map.Entries.{sum_by_values_permutation}
use Rattle.hm_pages.specs.Counts.{page_count, bytes_of}
use Rattle.hm_pages.proofs.MapLemmas.{viewed_same}
use Rattle.hm_pages.proofs.changes.Changes.reserve.Goals as goal

pub invariant_of-self : goal.invariant_of-self
invariant_of-self c = record {
  counted = c.args.self.now.counted ∙ sym (sum_by_values_permutation page_count _ _ c.reserve.ensures.entries.0);
}

pub returns-clause-same : goal.returns-clause-same
returns-clause-same c = viewed_same (option_map bytes_of) c.args.self.now.places c.reserve.new.self c.reserve.ensures.entries.2
