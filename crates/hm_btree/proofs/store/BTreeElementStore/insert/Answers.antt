use Rattle.std.proofs.Common.{ℕ, ap, subst, Result, Err}
use Rattle.std.specs.Prelude.{Option, List, IsNone, is_some}
use Rattle.std.proofs.lemmas.Result.{err_from_is_err_and}
use Rattle.hm_types.specs.declared.fault.Fault.{Fault}
use Rattle.hm_key.specs.Elements.{element_at, inserted, last_id}
use Rattle.hm_key.specs.Extents.{Extent}
use Rattle.hm_key.specs.Key.{key_of}
use Rattle.hm_btree.specs.Marking.{Writes}
use Rattle.hm_search.specs.Descent.{HasSearchCause}
use Rattle.hm_search.specs.Tree.{root_place}
use Rattle.hm_btree.proofs.ReadingLemmas.{cause_in_store}
use Rattle.hm_btree.proofs.StoreLemmas.{store_changed, told_kept}
use Rattle.hm_btree.proofs.store.BTreeElementStore.insert.Goals as goal

pub returns-in_err-root-clause-cause : goal.returns-in_err-root-clause-cause
returns-in_err-root-clause-cause g c =
    let p = err_from_is_err_and c.from_residual-in_err-root.result c.from_residual-in_err-root.ensures.1 in
    let told = g.S.Pages.pages c.args.self.now.space in
    let old = g.S.Counted.faults c.args.self.now.space in
    let new = g.S.Counted.faults c.insert_uncounted.new.space in
    let fault = c.in_err-root.field-0.0 in
    let cause = subst (λ (r : Result ℕ Fault). HasSearchCause told (root_place c.args.self.now.root) old new r) c.in_err-root.was
    c.insert_uncounted.ensures.cause in
    let other : HasSearchCause {T = Unit {0}} told (root_place c.args.self.now.root) old new (Err fault) =
    record {
      counted = record { never_falls = cause.counted.never_falls; caused = cause.counted.caused };
      damage = cause.damage;
      undamaged = cause.undamaged;
    } in
    let whole = cause_in_store c.args.self.now.intact told c.args.self.now.root old new (Err fault) c.args.self.now.sound other in
    rw (p.1, p.2) whole

pub invariant_of-self-2 : goal.invariant_of-self-2
invariant_of-self-2 g c =
    let e = c.args.e.now in
    let key = key_of e.base in
    let changed = store_changed (inserted e) key (Writes (last_id e)) (λ es. IsNone (element_at key es)) c.args.self.now.intact
    (g.S.Pages.pages c.args.self.now.space) (g.S.Pages.pages c.insert_uncounted.new.space) c.args.self.now.root c.in_ok-root.root
    c.in_ok-require_intact.ensures.ok c.args.self.now.sound
    c.in_ok-root.ensures.done.kept.told c.requires.new c.in_ok-root.ensures.done.tree in
    record { sound = changed.sound }

pub returns-clause-ok : goal.returns-clause-ok
returns-clause-ok g c =
    let e = c.args.e.now in
    let key = key_of e.base in
    let changed = store_changed (inserted e) key (Writes (last_id e)) (λ es. IsNone (element_at key es)) c.args.self.now.intact
    (g.S.Pages.pages c.args.self.now.space) (g.S.Pages.pages c.insert_uncounted.new.space) c.args.self.now.root c.in_ok-root.root
    c.in_ok-require_intact.ensures.ok c.args.self.now.sound
    c.in_ok-root.ensures.done.kept.told c.requires.new c.in_ok-root.ensures.done.tree in
    record { elements = changed.elements; mark = changed.mark; extents = c.in_ok-root.ensures.done.kept.extents }

pub returns-clause-keeps : goal.returns-clause-keeps
returns-clause-keeps g c =
    let e = c.args.e.now in
    let key = key_of e.base in
    let changed = store_changed (inserted e) key (Writes (last_id e)) (λ es. IsNone (element_at key es)) c.args.self.now.intact
    (g.S.Pages.pages c.args.self.now.space) (g.S.Pages.pages c.insert_uncounted.new.space) c.args.self.now.root c.in_ok-root.root
    c.in_ok-require_intact.ensures.ok c.args.self.now.sound
    c.in_ok-root.ensures.done.kept.told c.requires.new c.in_ok-root.ensures.done.tree in
    record {
      elements = told_kept (inserted e) c.args.self.now.intact (g.S.Pages.pages c.args.self.now.space)
          (g.S.Pages.pages c.insert_uncounted.new.space) c.args.self.now.root c.in_ok-root.root changed.elements;
      extents = ap (λ (o : Option (List Extent)). is_some o) c.in_ok-root.ensures.done.kept.extents;
    }
