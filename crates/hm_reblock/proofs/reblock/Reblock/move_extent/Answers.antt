use Rattle.std.proofs.Common.{◌≡◌, ◌<◌, ℕ, List, length, get_or, Some, refl, rules, arith, subst, ◌∙◌}
use Rattle.std.specs.Prelude.{IfSome, slice_get}
use Rattle.std.proofs.lemmas.Option.{slice_get_read}
use Rattle.hm_key.specs.declared.element.Element.{Element}
use Rattle.hm_reblock.specs.Moving.{IsAway, Relocates}
use Rattle.hm_reblock.proofs.AwayLemmas.{all_begin, all_relocated}
use Rattle.hm_reblock.proofs.RelocateLemmas.{moves_extent, relocates_both, relocates_left}
use Rattle.hm_reblock.proofs.reblock.Reblock.move_extent.Goals as goal

pub loop-known-preserved : goal.loop-known-preserved
loop-known-preserved g c =
    let elements = g.T.HasElements.elements in
    let mark = g.T.HasElements.mark in
    let extents = g.T.HasRoom.extents in
    let from = c.args.first.now.payload in
    let to = c.in_ok-to.to in
    let invariant = c.loop-known.invariant in
    let last = c.in_ok-move_known.ensures in
    let same : c.in-Some.known.now.payload ≡ from = search rules in
    let step : Relocates elements mark extents from to c.loop-known.store c.move_known.new.store =
    subst (λ (a : ℕ). Relocates elements mark extents a to c.loop-known.store c.move_known.new.store) same last.ok in
    let known = c.args.self.now.known.items in
    let k = c.in-Some.known.now in
    let here : slice_get known c.loop-known.next ≡ Some k =
    slice_get_read known (length known) c.loop-known.next k refl
    (subst (λ (l : List Element). c.loop-known.next < length l) c.deref.ensures.value c.in-Some.ensures.lookup.3.0)
    (subst (λ (l : List Element). k ≡ get_or l c.loop-known.next k) c.deref.ensures.value c.in-Some.ensures.lookup.1) in
    let together = g.met.T.Extents.together c.loop-known.store in
    let balanced = (relocates_left elements mark extents from to c.args.store.now c.loop-known.store (g.met.T.Extents.together c.args.store.now)
    invariant.relocates c.requires.balanced).0 in
    let away : IfSome (elements c.move_known.new.store) (IsAway from k) =
    subst (λ (a : ℕ). IfSome (elements c.move_known.new.store) (IsAway a k)) same last.away in
    record {
      onward = omega (arith, invariant.onward);
      relocates = relocates_both elements mark extents from to c.args.store.now c.loop-known.store c.move_known.new.store invariant.relocates step;
      all = all_relocated elements mark extents from to known k c.args.at c.loop-known.next c.loop-known.store c.move_known.new.store together step balanced
          invariant.all here away;
      space = record {
        room = λ zone. omega (arith, invariant.space.room zone, last.space.room zone);
        free = omega (arith, invariant.space.free, last.space.free);
      };
      name = last.name ∙ invariant.name;
      frame = last.frame ∙ invariant.frame;
      faults = omega (arith, last.cause.counted.never_falls, invariant.faults);
    }

pub loop-known-init : goal.loop-known-init
loop-known-init g c =
    let first = c.in_ok-to.ensures in
    record {
      onward = omega arith;
      relocates = first.ok;
      all = all_begin c.args.self.now.choice c.args.self.now.known.items c.args.first.now c.args.at (g.T.HasElements.elements c.move_first.new.store)
          c.requires.known first.away;
      space = first.space;
      name = first.name;
      frame = first.frame;
      faults = omega (arith, first.cause.counted.never_falls);
    }

pub returns-clause-moves : goal.returns-clause-moves
returns-clause-moves g c =
    moves_extent g.T.HasElements.elements g.T.HasElements.mark g.T.HasRoom.extents c.args.first.now.payload c.in_ok-to.to c.args.store.now
    c.loop-known.store c.loop-known.invariant.relocates c.in_ok-to.ensures.place
