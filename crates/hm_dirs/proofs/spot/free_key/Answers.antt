use Rattle.std.proofs.Common.{◌≡◌, ◌+◌, ◌<◌, ◌-◌, ◌∙◌, None, Some, Option, List, ap, arith, subst, sym}
use Rattle.std.specs.Prelude.{IfSome}
use Rattle.hm_key.specs.Counts.{Counts}
use Rattle.hm_key.specs.Key.{key_of}
use Rattle.hm_key.specs.declared.element.Element.{Element}
use Rattle.hm_cursor.specs.Told.{fulls}
use Rattle.hm_cursor.specs.Version.{IsFirst}
use Rattle.hm_cursor.proofs.StoreLemmas.{first_still, nothing_known, on_told}
use Rattle.hm_dirs.specs.Entries.{AreTaken, IsFreeKey}
use Rattle.hm_dirs.proofs.SpanLemmas.{free_here, taken_more}
use Rattle.hm_dirs.proofs.spot.free_key.Goals as goal
use Rattle.hm_dirs.proofs.spot.free_key.Goals.{in_default-via-in-Some+else-entry-key, in_default-via-in_default}

one_some : (a b : Element) → Some a ≡ Some b → a ≡ b
one_some a b is = cc

none_some : (a : Element) → None ≡ Some a → ⊥
none_some a is = cc

pub loop-key-preserved : goal.loop-key-preserved
loop-key-preserved g c =
    let invariant = c.loop-key.invariant in
    let at = key_of c.entry_base.result in
    let key = c.loop-key.key in
    let first = c.args.first in
    let last = first + 1024 - 1 in
    let t = c.args.as_of.0 in
    let es = g.T.HasElements.elements c.args.store.now in
    let xs = g.T.HasRoom.extents c.args.store.now in
    let e = c.in-Some.entry in
    let found = first_still (g.T.HasElements.elements c.loop-key.store) es at last t c.in_ok-entry.field-0 (Some e) invariant.keeps.elements c.in-Some.is
    c.in_ok-entry.ensures.ok in
    let still = c.in_ok-entry.ensures.keeps in
    record {
      from = omega arith;
      to = omega arith;
      taken = on_told es xs (λ list. IsFirst list at last t (Some e)) (λ _. Unit {0})
          (λ lists. AreTaken (Counts (fulls lists) t) c.args.pfs.0 c.args.directory first key)
          (λ lists. AreTaken (Counts (fulls lists) t) c.args.pfs.0 c.args.directory first (key + 1))
          (λ list extents balanced is known taken.
          taken_more list extents at c.args.pfs.0 c.args.directory key last t c.entry_base.ensures first e is c.if-entry-key.true taken)
          found (nothing_known xs) invariant.taken;
      keeps = record {
        elements = still.elements ∙ invariant.keeps.elements;
        mark = still.mark ∙ invariant.keeps.mark;
        extents = still.extents ∙ invariant.keeps.extents;
        room = still.room ∙ invariant.keeps.room;
        free = still.free ∙ invariant.keeps.free;
      };
      name = c.in_ok-entry.ensures.borrowed.0 ∙ invariant.name;
      frame = c.in_ok-entry.ensures.borrowed.1 ∙ invariant.frame;
      faults = omega (arith, invariant.faults, c.in_ok-entry.ensures.cause.counted.never_falls);
    }

pub returns-in_default-clause-ok : goal.returns-in_default-clause-ok
returns-in_default-clause-ok g c =
    let invariant = c.loop-key.invariant in
    let at = key_of c.entry_base.result in
    let key = c.loop-key.key in
    let first = c.args.first in
    let last = first + 1024 - 1 in
    let t = c.args.as_of.0 in
    let es = g.T.HasElements.elements c.args.store.now in
    let xs = g.T.HasRoom.extents c.args.store.now in
    let answer = c.in_ok-entry.field-0 in
    let found : IfSome es (λ list. IsFirst list at last t answer) =
    subst (λ (o : Option (List Element)). IfSome o (λ list. IsFirst list at last t answer)) invariant.keeps.elements c.in_ok-entry.ensures.ok in
    let other : (e : Element) → answer ≡ Some e → e.base.key ≡ key → ⊥ = λ e is same. elim c.in_default.branch [
      | in_default-via-in-Some+else-entry-key w ↦
          w.if-entry-key.false (ap (λ (x : Element). x.base.key) (one_some w.in-Some.entry e (sym w.in-Some.is ∙ is)) ∙ same)
      | in_default-via-in_default w ↦ none_some e (sym w.in_default.is ∙ is)
    ] in
    let from = invariant.from in
    let below : key < first + 1024 = omega (arith, c.loop-key-test.true) in
    on_told es xs (λ list. IsFirst list at last t answer) (λ _. Unit {0})
    (λ lists. AreTaken (Counts (fulls lists) t) c.args.pfs.0 c.args.directory first key)
    (IsFreeKey t c.args.pfs.0 c.args.directory first (Some key))
    (λ list extents balanced is known taken. (
      from,
      below,
      free_here list extents at c.args.pfs.0 c.args.directory key last t c.entry_base.ensures answer is (omega (arith, below)) other,
    ))
    found (nothing_known xs) invariant.taken
