use Rattle.std.proofs.Common.{◌≡◌, ◌+◌, ◌<◌, ◌≤◌, ℕ, List, length, get_or, Option, Some, refl, sym, subst, inr}
use Rattle.std.specs.Prelude.{IfSome, slice_get}
use Rattle.std.proofs.lemmas.Option.{slice_get_read}
use Rattle.hm_types.specs.Offset.{zone_of}
use Rattle.hm_types.specs.Space.{Spends, in_zone}
use Rattle.hm_types.specs.declared.space.TheConstants.{PAYLOAD_RESERVE}
use Rattle.hm_key.specs.declared.element.Element.{Element}
use Rattle.hm_reblock.specs.Choice.{IsStill}
use Rattle.hm_reblock.specs.Stages.{HasReserveFor, most_for}
use Rattle.hm_reblock.proofs.RelocateLemmas.{moves_none}
use Rattle.hm_reblock.proofs.reblock.Reblock.move_at.Goals as goal

pub returns-in_default-clause-moves : goal.returns-in_default-clause-moves
returns-in_default-clause-moves g c =
    moves_none g.T.HasElements.elements g.T.HasElements.mark g.T.HasRoom.extents c.args.store.now c.args.store.now refl refl refl

pub returns-in_default-clause-further : goal.returns-in_default-clause-further
returns-in_default-clause-further g c =
    inr (subst (λ (l : List Element). length l ≤ c.args.at) c.deref.ensures.value c.in_default.ensures.lookup.3)

pub move_extent-requires-clause-room : goal.move_extent-requires-clause-room
move_extent-requires-clause-room g c =
    let known = c.args.self.now.known.items in
    let k = c.in-Some.known.now in
    let e = c.in-Some-2.element in
    let here : slice_get known c.args.at ≡ Some k =
    slice_get_read known (length known) c.args.at k refl (subst (λ (l : List Element). c.args.at < length l) c.deref.ensures.value c.in-Some.ensures.lookup.3.0)
    (subst (λ (l : List Element). k ≡ get_or l c.args.at k) c.deref.ensures.value c.in-Some.ensures.lookup.1) in
    let room : HasReserveFor (g.T.HasRoom.room c.args.store.now) (Some k) =
    subst (HasReserveFor (g.T.HasRoom.room c.args.store.now)) here c.requires.room in
    let found : IfSome (Some e) (IsStill c.args.self.now.choice k) =
    subst (λ (o : Option Element). IfSome o (IsStill c.args.self.now.choice k)) c.in-Some-2.is c.in_ok-element.ensures.found in
    let moved : PAYLOAD_RESERVE ≤ g.T.HasRoom.room c.args.store.now (zone_of e.payload) =
    subst (λ (at : ℕ). PAYLOAD_RESERVE ≤ g.T.HasRoom.room c.args.store.now (zone_of at)) (sym found.payload) room in
    subst (λ (room : ℕ → ℕ). PAYLOAD_RESERVE ≤ room (zone_of e.payload)) (sym c.still.ensures.keeps.room) moved

pub returns-in-Some-2-clause-space : goal.returns-in-Some-2-clause-space
returns-in-Some-2-clause-space g c =
    let known = c.args.self.now.known.items in
    let k = c.in-Some.known.now in
    let e = c.in-Some-2.element in
    let was = c.args.store.now in
    let now = c.move_extent.new.store in
    let here : slice_get known c.args.at ≡ Some k =
    slice_get_read known (length known) c.args.at k refl (subst (λ (l : List Element). c.args.at < length l) c.deref.ensures.value c.in-Some.ensures.lookup.3.0)
    (subst (λ (l : List Element). k ≡ get_or l c.args.at k) c.deref.ensures.value c.in-Some.ensures.lookup.1) in
    let found : IfSome (Some e) (IsStill c.args.self.now.choice k) =
    subst (λ (o : Option Element). IfSome o (IsStill c.args.self.now.choice k)) c.in-Some-2.is c.in_ok-element.ensures.found in
    let spent = c.move_extent.ensures.space in
    let keeps = c.still.ensures.keeps in
    subst (λ (o : Option Element). Spends g.T.HasRoom.room g.T.HasRoom.free (most_for o) was now) (sym here)
    (subst (λ (at : ℕ). Spends g.T.HasRoom.room g.T.HasRoom.free (in_zone (zone_of at) PAYLOAD_RESERVE) was now) found.payload (record {
      room = λ zone.
          subst (λ (room : ℕ → ℕ). room zone ≤ g.T.HasRoom.room now zone + in_zone (zone_of e.payload) PAYLOAD_RESERVE zone) keeps.room (spent.room zone);
      free = subst (λ (n : ℕ). n ≤ g.T.HasRoom.free now) keeps.free spent.free;
    }))

pub returns-in-None-clause-moves : goal.returns-in-None-clause-moves
returns-in-None-clause-moves g c =
    let keeps = c.still.ensures.keeps in
    moves_none g.T.HasElements.elements g.T.HasElements.mark g.T.HasRoom.extents c.args.store.now c.still.new.store keeps.elements keeps.mark keeps.extents
