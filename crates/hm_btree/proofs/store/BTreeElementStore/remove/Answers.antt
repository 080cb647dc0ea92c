use Rattle.std.proofs.Common.{ℕ, ap, subst, Result}
use Rattle.std.specs.Prelude.{Option, List, IsSome, is_some}
use Rattle.std.proofs.lemmas.Result.{err_from_is_err_and}
use Rattle.hm_types.specs.declared.fault.Fault.{Fault}
use Rattle.hm_types.specs.Faults.{HasStoreCause}
use Rattle.hm_key.specs.Elements.{element_at, removed}
use Rattle.hm_key.specs.Extents.{Extent}
use Rattle.hm_key.specs.Key.{key_of}
use Rattle.hm_btree.specs.Marking.{TakesOut}
use Rattle.hm_btree.proofs.IntactLemmas.{intact_tree, intact_elements, cause_in_tree}
use Rattle.hm_btree.proofs.StoreLemmas.{store_changed, told_kept}
use Rattle.hm_btree.proofs.store.BTreeElementStore.remove.Goals as goal

pub remove_uncounted-requires-clause-tree : goal.remove_uncounted-requires-clause-tree
remove_uncounted-requires-clause-tree g c = intact_tree c.args.self.now.intact (g.S.Pages.pages c.args.self.now.space)
    c.args.self.now.root c.in_ok-require_intact.ensures.ok c.args.self.now.sound

pub remove_uncounted-requires-clause-there : goal.remove_uncounted-requires-clause-there
remove_uncounted-requires-clause-there g c =
    intact_elements (λ es. IsSome (element_at (key_of c.args.at.now) es)) c.args.self.now.intact
    (g.S.Pages.pages c.args.self.now.space) c.args.self.now.root c.in_ok-require_intact.ensures.ok c.requires.there

pub returns-in_err-root-clause-cause : goal.returns-in_err-root-clause-cause
returns-in_err-root-clause-cause g c =
    let p = err_from_is_err_and c.from_residual-in_err-root.result c.from_residual-in_err-root.ensures.1 in
    let told = g.S.Pages.pages c.args.self.now.space in
    let old = g.S.Counted.faults c.args.self.now.space in
    let new = g.S.Counted.faults c.remove_uncounted.new.space in
    let fault = c.in_err-root.field-0.0 in
    let whole = cause_in_tree c.args.self.now.intact told c.args.self.now.root old new fault
    (subst (λ (r : Result ℕ Fault). HasStoreCause told old new r) c.in_err-root.was c.remove_uncounted.ensures.cause) in
    rw (p.1, p.2) whole

pub invariant_of-self-2 : goal.invariant_of-self-2
invariant_of-self-2 g c =
    let key = key_of c.args.at.now in
    let changed = store_changed (removed key) key TakesOut (λ es. IsSome (element_at key es)) c.args.self.now.intact
    (g.S.Pages.pages c.args.self.now.space) (g.S.Pages.pages c.remove_uncounted.new.space) c.args.self.now.root c.in_ok-root.root
    c.in_ok-require_intact.ensures.ok c.args.self.now.sound
    c.in_ok-root.ensures.done.kept.told c.requires.there c.in_ok-root.ensures.done.tree in
    record { sound = changed.sound }

pub returns-clause-ok : goal.returns-clause-ok
returns-clause-ok g c =
    let key = key_of c.args.at.now in
    let changed = store_changed (removed key) key TakesOut (λ es. IsSome (element_at key es)) c.args.self.now.intact
    (g.S.Pages.pages c.args.self.now.space) (g.S.Pages.pages c.remove_uncounted.new.space) c.args.self.now.root c.in_ok-root.root
    c.in_ok-require_intact.ensures.ok c.args.self.now.sound
    c.in_ok-root.ensures.done.kept.told c.requires.there c.in_ok-root.ensures.done.tree in
    record { elements = changed.elements; mark = changed.mark; extents = c.in_ok-root.ensures.done.kept.extents }

pub returns-clause-keeps : goal.returns-clause-keeps
returns-clause-keeps g c =
    let key = key_of c.args.at.now in
    let changed = store_changed (removed key) key TakesOut (λ es. IsSome (element_at key es)) c.args.self.now.intact
    (g.S.Pages.pages c.args.self.now.space) (g.S.Pages.pages c.remove_uncounted.new.space) c.args.self.now.root c.in_ok-root.root
    c.in_ok-require_intact.ensures.ok c.args.self.now.sound
    c.in_ok-root.ensures.done.kept.told c.requires.there c.in_ok-root.ensures.done.tree in
    record {
      elements = told_kept (removed key) c.args.self.now.intact (g.S.Pages.pages c.args.self.now.space)
          (g.S.Pages.pages c.remove_uncounted.new.space) c.args.self.now.root c.in_ok-root.root changed.elements;
      extents = ap (λ (o : Option (List Extent)). is_some o) c.in_ok-root.ensures.done.kept.extents;
    }
