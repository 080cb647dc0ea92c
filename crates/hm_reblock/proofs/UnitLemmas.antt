-- What a unit of a reblock leaves of a store, as a job may.
use Rattle.std.proofs.Common.{◌≡◌, ℕ, ◌≤◌, List, Option, Some, None, true, true≢false, ap, sym, subst, arith}
use Rattle.std.specs.Prelude.{IfSome, IsSomeAnd, OnOk, OnSome, Result, Err, Ok}
use Rattle.hm_types.specs.Elements.{Key}
use Rattle.hm_types.specs.declared.fault.Fault.{Fault}
use Rattle.hm_key.specs.Balance.{IsBalanced, LosesDead, Works, content_of, full_elements}
use Rattle.hm_key.specs.Calls.{UnitDone}
use Rattle.hm_key.specs.Extents.{Extent}
use Rattle.hm_key.specs.Marks.{MarksStay, NoneFall}
use Rattle.hm_key.specs.Stores.{Same}
use Rattle.hm_key.specs.declared.element.Element.{Element}
use Rattle.hm_key.proofs.BalanceLemmas.{LosesDead-refl}
use Rattle.hm_reblock.specs.Moving.{MovesPayloads, MovesExtent}
use Rattle.hm_reblock.specs.Stages.{MovesOne}
use Rattle.hm_reblock.specs.declared.reblock.Reblock.{Reblock}
use Rattle.hm_reblock.proofs.RelocateLemmas.{moves_none}

module _ {S : Type 0} (elements_of : S → Option (List Element)) (mark_of : S → Key → ℕ) (extents_of : S → Option (List Extent))
    (kept : ℕ → Option (List (ℕ × ℕ))) (old new : S) where
  works : (was : List Element × List Extent) (c : Option (List Element × List Extent)) → IsSomeAnd c (MovesExtent was) → IsSomeAnd c (Works kept was)
  works was None moved = moved
  works was (Some now) moved = record {
    balanced = moved.balanced;
    elements = subst (LosesDead kept (full_elements was.0 was.1)) (sym moved.full) (LosesDead-refl kept (full_elements was.0 was.1));
  }

  content : (o c : Option (List Element × List Extent)) → IfSome o (λ was. IsBalanced was.0 was.1 → IsSomeAnd c (MovesExtent was))
      → IfSome o (λ was. IsBalanced was.0 was.1 → IsSomeAnd c (Works kept was))
  content None c moves = tt
  content (Some was) c moves = λ balanced. works was c (moves balanced)

  marks : (o : Option (List Element)) → OnSome o (MarksStay (mark_of old) (mark_of new)) → OnSome o (NoneFall (mark_of old) (mark_of new))
  marks None stays = tt
  marks (Some es) stays = λ key. omega (arith, stays key)

  -- one extent moved at most
  pub unit_moves : {A : Type 0} {room_of : S → ℕ → ℕ} {free_of : S → ℕ} (result : Result A Fault)
      → OnOk result (MovesPayloads elements_of mark_of extents_of old new) → free_of old ≤ free_of new
      → UnitDone elements_of mark_of extents_of room_of free_of kept true old new result
  unit_moves (Err fault) moves free = record {
    content = tt;
    keeps = record { elements = tt; extents = tt };
    marks = tt;
    free = free;
    room = λ never. absurd (true≢false never);
  }
  unit_moves (Ok value) moves free = record {
    content = content (content_of (elements_of old) (extents_of old)) (content_of (elements_of new) (extents_of new)) moves.content;
    keeps = record { elements = moves.elements; extents = moves.extents };
    marks = marks (elements_of old) moves.marks;
    free = free;
    room = λ never. absurd (true≢false never);
  }

  on_ok : {A : Type 0} (result : Result A Fault) → MovesPayloads elements_of mark_of extents_of old new
      → OnOk result (MovesPayloads elements_of mark_of extents_of old new)
  on_ok (Err fault) moves = tt
  on_ok (Ok value) moves = moves

  -- or nothing changed
  pub unit_keeps : {A : Type 0} {room_of : S → ℕ → ℕ} {free_of : S → ℕ} (result : Result A Fault) → Same elements_of mark_of extents_of room_of free_of old new
      → UnitDone elements_of mark_of extents_of room_of free_of kept true old new result
  unit_keeps result same =
      unit_moves result (on_ok result (moves_none elements_of mark_of extents_of old new same.elements same.mark same.extents)) (omega (arith, same.free))

  -- which is what a unit of a reblock may do, too
  pub keeps_one : {A : Type 0} {room_of : S → ℕ → ℕ} {free_of : S → ℕ} (j k : Reblock) (result : Result A Fault) → k.choice ≡ j.choice
      → Same elements_of mark_of extents_of room_of free_of old new → MovesOne elements_of mark_of extents_of room_of free_of j k old new result
  keeps_one j k result choice same = record {
    choice = choice;
    moves = on_ok result (moves_none elements_of mark_of extents_of old new same.elements same.mark same.extents);
    space = record {
      room = λ zone. omega (arith, ap (λ (room : ℕ → ℕ). room zone) same.room);
      free = omega (arith, same.free);
    };
  }
