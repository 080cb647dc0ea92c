use Rattle.std.proofs.Common.{◌≡◌, ◌+◌, ap, arith, unwrap_or, option_map, None}
use Rattle.std.specs.Map.{lookup}
use Rattle.std.specs.Prelude.{nat_eq}
use Rattle.std.proofs.lemmas.Map.Entries.{sum_by_values_permutation, sum_by-remove_entry}
use Rattle.hm_pages.specs.Counts.{page_count, pages_in, bytes_of}
use Rattle.hm_pages.proofs.CountLemmas.{pages_before}
use Rattle.hm_pages.proofs.MapLemmas.{viewed_update}
use Rattle.hm_pages.proofs.changes.Changes.forget.Goals as goal

-- the pages that stay, and the one that was there
abbrev pub Left : goal.After-count_before → Type 0
Left c = pages_in c.remove-before.new.self.entries + c.count_before.result ≡ c.args.self.now.pages

left : (c : goal.After-count_before) → Left c
left c =
    let entries = c.args.self.now.places.entries in
    let kept = sum_by_values_permutation page_count _ _ c.remove-before.ensures.entries in
    let gone = sum_by-remove_entry page_count (nat_eq c.args.at) entries in
    let value = ap (λ o. unwrap_or (option_map page_count o) 0) c.remove-before.ensures.value in
    omega (arith, kept, gone, value, c.args.self.now.counted, c.count_before.ensures)

pub overflow_sub-self : goal.overflow_sub-self
overflow_sub-self c = omega (arith, left c)

pub invariant_of-self : goal.invariant_of-self
invariant_of-self c = record { counted = omega (arith, left c) }

pub returns-clause-value : goal.returns-clause-value
returns-clause-value c = viewed_update (option_map bytes_of) c.args.self.now.places c.remove-before.new.self c.args.at None c.remove-before.ensures.updates

pub returns-clause-pages : goal.returns-clause-pages
returns-clause-pages c =
    let entries = c.args.self.now.places.entries in
    let value = ap (λ o. unwrap_or (option_map page_count o) 0) c.remove-before.ensures.value in
    let kept = sum_by_values_permutation page_count _ _ c.remove-before.ensures.entries in
    let gone = sum_by-remove_entry page_count (nat_eq c.args.at) entries in
    omega (arith, kept, gone, value, pages_before (lookup (nat_eq c.args.at) entries), c.args.self.now.counted, c.count_before.ensures)
