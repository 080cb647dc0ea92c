use Rattle.std.proofs.Common.{ap, subst, Result, Err, arith}
use Rattle.std.specs.Prelude.{Option, List, IsSome, is_some}
use Rattle.hm_key.specs.Extents.{Extent}
use Rattle.std.proofs.lemmas.Result.{err_from_is_err_and}
use Rattle.hm_types.specs.declared.fault.Fault.{Fault}
use Rattle.hm_key.specs.Elements.{element_at}
use Rattle.hm_key.specs.Key.{key_of}
use Rattle.hm_btree.specs.Marking.{Writes}
use Rattle.hm_btree.specs.Change.{with_change}
use Rattle.hm_search.specs.Descent.{HasSearchCause}
use Rattle.hm_search.specs.Tree.{root_place}
use Rattle.hm_btree.specs.declared.change.Change.TheVariants.{Close}
use Rattle.hm_btree.proofs.ReadingLemmas.{cause_in_store}
use Rattle.hm_btree.proofs.StoreLemmas.{store_changed, told_kept, room_kept}
use Rattle.hm_btree.proofs.store.BTreeElementStore.set_delete.Goals as goal

pub returns-in_err-change_uncounted-clause-space : goal.returns-in_err-change_uncounted-clause-space
returns-in_err-change_uncounted-clause-space g c =
    let same = g.met.S.NodeSpace.rests c.args.self.now.space c.change_uncounted.new.space c.change_uncounted.ensures.rest in
    record {
      room = λ zone. room_kept (g.S.HasRoom.room c.args.self.now.space) (g.S.HasRoom.room c.change_uncounted.new.space) zone
          same.0;
      free = omega (arith, same.1);
    }

pub returns-in_err-change_uncounted-clause-cause : goal.returns-in_err-change_uncounted-clause-cause
returns-in_err-change_uncounted-clause-cause g c =
    let p = err_from_is_err_and c.from_residual-in_err-change_uncounted.result c.from_residual-in_err-change_uncounted.ensures.1 in
    let told = g.S.Pages.pages c.args.self.now.space in
    let old = g.S.Counted.faults c.args.self.now.space in
    let new = g.S.Counted.faults c.change_uncounted.new.space in
    let fault = c.in_err-change_uncounted.field-0.0 in
    let cause = subst (λ (r : Result (Unit {0}) Fault). HasSearchCause told (root_place c.args.self.now.root) old new r)
    c.in_err-change_uncounted.was c.change_uncounted.ensures.cause in
    let whole = cause_in_store c.args.self.now.intact told c.args.self.now.root old new (Err fault) c.args.self.now.sound cause in
    rw (p.1, p.2) whole

pub invariant_of-self-2 : goal.invariant_of-self-2
invariant_of-self-2 g c =
    let key = key_of c.args.at.now in
    let changed = store_changed (with_change key (Close c.args.delete)) key (Writes c.args.delete) (λ es. IsSome (element_at key es)) c.args.self.now.intact
    (g.S.Pages.pages c.args.self.now.space) (g.S.Pages.pages c.change_uncounted.new.space) c.args.self.now.root c.args.self.now.root
    c.in_ok-require_intact.ensures.ok c.args.self.now.sound
    c.in_ok-change_uncounted.ensures.done.told c.requires.there c.in_ok-change_uncounted.ensures.done.tree in
    record { sound = changed.sound }

pub returns-clause-ok : goal.returns-clause-ok
returns-clause-ok g c =
    let key = key_of c.args.at.now in
    let changed = store_changed (with_change key (Close c.args.delete)) key (Writes c.args.delete) (λ es. IsSome (element_at key es)) c.args.self.now.intact
    (g.S.Pages.pages c.args.self.now.space) (g.S.Pages.pages c.change_uncounted.new.space) c.args.self.now.root c.args.self.now.root
    c.in_ok-require_intact.ensures.ok c.args.self.now.sound
    c.in_ok-change_uncounted.ensures.done.told c.requires.there c.in_ok-change_uncounted.ensures.done.tree in
    let same = g.met.S.NodeSpace.rests c.args.self.now.space c.change_uncounted.new.space c.change_uncounted.ensures.rest in
    record { elements = changed.elements; mark = changed.mark; extents = same.2 }

pub returns-clause-keeps : goal.returns-clause-keeps
returns-clause-keeps g c =
    let key = key_of c.args.at.now in
    let changed = store_changed (with_change key (Close c.args.delete)) key (Writes c.args.delete) (λ es. IsSome (element_at key es)) c.args.self.now.intact
    (g.S.Pages.pages c.args.self.now.space) (g.S.Pages.pages c.change_uncounted.new.space) c.args.self.now.root c.args.self.now.root
    c.in_ok-require_intact.ensures.ok c.args.self.now.sound
    c.in_ok-change_uncounted.ensures.done.told c.requires.there c.in_ok-change_uncounted.ensures.done.tree in
    let same = g.met.S.NodeSpace.rests c.args.self.now.space c.change_uncounted.new.space c.change_uncounted.ensures.rest in
    record {
      elements = told_kept (with_change key (Close c.args.delete)) c.args.self.now.intact (g.S.Pages.pages c.args.self.now.space)
          (g.S.Pages.pages c.change_uncounted.new.space) c.args.self.now.root c.args.self.now.root changed.elements;
      extents = ap (λ (o : Option (List Extent)). is_some o) same.2;
    }

pub returns-clause-space : goal.returns-clause-space
returns-clause-space g c =
    let same = g.met.S.NodeSpace.rests c.args.self.now.space c.change_uncounted.new.space c.change_uncounted.ensures.rest in
    record {
      room = λ zone. room_kept (g.S.HasRoom.room c.args.self.now.space) (g.S.HasRoom.room c.change_uncounted.new.space) zone
          same.0;
      free = omega (arith, same.1);
    }
