use Rattle.std.proofs.Common.{arith, option_map, Some, ap}
use Rattle.std.specs.Prelude.{nat_eq}
use Rattle.std.proofs.lemmas.Map.Entries.{sum_by_puts_entry}
use Rattle.hm_pages.specs.Counts.{page_count, bytes_of}
use Rattle.hm_pages.proofs.CountLemmas.{pages-le-length, pages_before, pages_put}
use Rattle.hm_pages.specs.Maps.{pages_at}
use Rattle.hm_pages.proofs.MapLemmas.{viewed_update}
use Rattle.hm_pages.proofs.changes.Changes.put.Goals as goal

pub prove-unreachable-requires : goal.prove-unreachable-requires
prove-unreachable-requires c = absurd (omega (arith, c.args.self.now.counted, pages-le-length c.args.self.now.places.entries))

pub overflow_sub-self : goal.overflow_sub-self
overflow_sub-self c =
    let put = sum_by_puts_entry page_count nat_eq c.args.self.now.places c.insert.new.self c.args.at c.args.page
    c.in_ok-before.before c.in_ok-before.ensures.old c.in_ok-before.ensures.entries in
    omega (arith, put, c.args.self.now.counted, c.count_before.ensures, c.count-puts.ensures)

pub invariant_of-self-2 : goal.invariant_of-self-2
invariant_of-self-2 c =
    let put = sum_by_puts_entry page_count nat_eq c.args.self.now.places c.insert.new.self c.args.at c.args.page
    c.in_ok-before.before c.in_ok-before.ensures.old c.in_ok-before.ensures.entries in
    record { counted = omega (arith, put, c.args.self.now.counted, c.count_before.ensures, c.count-puts.ensures) }

pub returns-clause-ok : goal.returns-clause-ok
returns-clause-ok c = viewed_update (option_map bytes_of) c.args.self.now.places c.insert.new.self c.args.at (Some c.args.page) c.in_ok-before.ensures.updates

pub returns-clause-pages : goal.returns-clause-pages
returns-clause-pages c =
    let put = sum_by_puts_entry page_count nat_eq c.args.self.now.places c.insert.new.self c.args.at c.args.page
    c.in_ok-before.before c.in_ok-before.ensures.old c.in_ok-before.ensures.entries in
    let before = pages_before c.in_ok-before.before in
    let same = ap (λ o. pages_at (option_map (option_map bytes_of) o)) c.in_ok-before.ensures.old in
    omega (arith, put, before, same, pages_put c.args.page, c.args.self.now.counted, c.count_before.ensures, c.count-puts.ensures)
