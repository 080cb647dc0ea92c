-- A change of the open call ended.
use Rattle.std.proofs.Common.{◌≡◌, ◌∙◌, Bool, ap, sym, subst}
use Rattle.std.specs.Prelude.{◌&&◌}
use Rattle.std.proofs.Math.Logic.{∥∥₁_map}
use Rattle.hm_pages.specs.Store.{contents}
use Rattle.hm_stored.specs.Heap.{heap_of}
use Rattle.hm_stored.specs.Held.{IsKept}
use Rattle.hm_stored.proofs.StoredLemmas.{ended_kept}
use Rattle.hm_stored.proofs.space.Space.end_change.Goals as goal
use Rattle.hm_stored.proofs.space.Space.end_change.Goals.{then-self, else-self}

pub invariant_of-self : goal.invariant_of-self
unfolding heap_of
invariant_of-self g c =
    let s = c.args.self.now in
    let b = s.books in
    let h = heap_of (contents s.pages.store) (g.D.Disk.told s.disk) b in
    let whole : c.if-self.whole ≡ (b.whole && c.args.done) = elim c.if-self.branch [
      | then-self w ↦ w.whole-is ∙ sym (ap (λ (t : Bool). t && c.args.done) w.if-self.true)
      | else-self w ↦ w.whole-is ∙ (w.if-self.false ∙ sym (ap (λ (t : Bool). t && c.args.done) w.if-self.false))
    ] in (
      (b.least, (b.most, (b.below, (b.begun_below, (b.distinct, (b.begun_distinct, (b.pool, (b.begun_pool, tt)))))))),
      (
        s.there,
        (
          ∥∥₁_map s.kept (λ k. subst (λ (t : Bool). IsKept (record h { whole = t })) (sym whole) (ended_kept c.args.done h k)),
          (∥∥₁_map s.of_volume (λ k. record { only = k.only; begun = k.begun; placed = k.placed }), tt),
        ),
      ),
    )

pub returns-clause-ends : goal.returns-clause-ends
unfolding heap_of
returns-clause-ends g c =
    let s = c.args.self.now in
    let whole : c.if-self.whole ≡ (s.books.whole && c.args.done) = elim c.if-self.branch [
      | then-self w ↦ w.whole-is ∙ sym (ap (λ (t : Bool). t && c.args.done) w.if-self.true)
      | else-self w ↦ w.whole-is ∙ (w.if-self.false ∙ sym (ap (λ (t : Bool). t && c.args.done) w.if-self.false))
    ] in
    ap (λ (t : Bool). record (heap_of (contents s.pages.store) (g.D.Disk.told s.disk) s.books) { whole = t }) whole
