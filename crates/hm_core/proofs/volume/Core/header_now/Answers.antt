-- The header of the state of now.
use Rattle.std.proofs.Common.{◌≡◌, rules, refl, sym, ap, subst, ◌∙◌, length}
use Rattle.hm_pages.specs.Store.{contents}
use Rattle.hm_stored.specs.Heap.{heap_of}
use Rattle.hm_flush.specs.Calls.{IsTarget}
use Rattle.hm_core.proofs.TargetLemmas.{now_is_target}
use Rattle.hm_core.proofs.volume.Core.header_now.Goals as goal

pub returns-clause-value : goal.returns-clause-value
unfolding heap_of
returns-clause-value g c =
    let s = c.args.self.now in
    let append : c.append.result ≡ s.stored.space.books.append = c.append.ensures ∙ ap (λ x. x.books.append) c.space.ensures in
    λ i. record (c.header.ensures i) { last = s.last; root = c.root.ensures i; append = append i }

pub returns-clause-target : goal.returns-clause-target
unfolding heap_of
returns-clause-target g c =
    let s = c.args.self.now in
    let b = s.stored.space.books in
    let append : c.append.result ≡ b.append = c.append.ensures ∙ ap (λ x. x.books.append) c.space.ensures in
    let value : record s.flusher.header { last = s.last; root = s.stored.root; append = b.append }
    ≡ record c.header.result.now { last = s.last; root = c.root.result; append = c.append.result } =
    λ i. record (sym c.header.ensures i) { last = s.last; root = sym c.root.ensures i; append = sym append i } in
    let four : length c.append.result ≡ 4 = search rules in
    let h = heap_of (contents s.stored.space.pages.store) (g.D.Disk.told s.stored.space.disk) b in
    subst (IsTarget s.flusher) value
    (now_is_target s.flusher s.last.0 s.free s.stored.root h b s.history.items c.flush_is_sound.ensures
    (ap (λ l. length l) (sym append) ∙ four) refl c.changes_are_placed.ensures.root s.ordered)
