-- A fault of a call over a space that holds a volume tells no damage.
use Rattle.std.proofs.Common.{◌≡◌, ℕ, inl, inr, List, Option, None, Some, Result, Ok, Err, refl, sym, subst}
use Rattle.std.specs.Prelude.{IfErr, IfSome, IsSomeAnd}
use Rattle.std.specs.List.{All}
use Rattle.hm_types.specs.Elements.{FullElement}
use Rattle.hm_types.specs.Faults.{IsCaused}
use Rattle.hm_types.specs.declared.fault.Fault.{Fault}
use Rattle.hm_types.specs.declared.fault.Fault.TheVariants.{Damaged, Media, NoMemory}
use Rattle.hm_key.specs.Balance.{IsBalanced, content_of}
use Rattle.hm_key.specs.Extents.{Extent}
use Rattle.hm_key.specs.declared.element.Element.{Element}
use Rattle.hm_cursor.specs.Told.{HasReadingCause, IsPayloadDamage, Lists, fulls}
use Rattle.hm_records.specs.Payload.{IsPayload}
use Rattle.hm_stored.specs.Heap.{Heap}
use Rattle.hm_step.proofs.KnownLemmas.{none_broken}
use Rattle.hm_core.specs.Told.{TellsFailure, TellsHeld, reply_to}
use Rattle.hm_state.specs.Volume.{HoldsVolume}
use Rattle.hm_model.specs.Volume.{Volume}

module _ (old new : ℕ) where
  no_damage : (held : List FullElement) (o : Option Lists) (at kind : ℕ) → All IsPayload held
      → IsSomeAnd o (λ was. IsBalanced was.0 was.1 × (fulls was ≡ held))
      → IfSome o (λ was. IsBalanced was.0 was.1 → IsPayloadDamage was (Damaged at kind)) → ⊥
  no_damage held None at kind sound told damage = told
  no_damage held (Some was) at kind sound told damage =
      none_broken was at (subst (All IsPayload) (sym told.1) sound) (damage told.0).1

  by_fault : (held : List FullElement) (o : Option Lists) (fault : Fault) → All IsPayload held
      → IsSomeAnd o (λ was. IsBalanced was.0 was.1 × (fulls was ≡ held))
      → IfSome o (λ was. IsBalanced was.0 was.1 → IsPayloadDamage was fault) → IsCaused old new fault → TellsFailure old new (reply_to fault)
  by_fault held o (Media before after) sound told damage caused = inl (before, after, refl, caused)
  by_fault held o (Damaged at kind) sound told damage caused = absurd (no_damage held o at kind sound told damage)
  by_fault held o NoMemory sound told damage caused = inr refl

  pub no_damage_told : {T : Type 0} (es : Option (List Element)) (xs : Option (List Extent)) (h : Heap) (root last : ℕ) (volume : Volume)
      (result : Result T Fault) → HoldsVolume h root last volume → TellsHeld es xs h root → HasReadingCause es xs old new result
      → IfErr result (λ fault. TellsFailure old new (reply_to fault))
  no_damage_told es xs h root last volume (Ok value) holds tells cause = tt
  no_damage_told es xs h root last volume (Err fault) holds tells cause =
      by_fault holds.elements.0 (content_of es xs) fault holds.elements.2.payloads (tells holds.elements.0 holds.elements.1)
      cause.damage cause.counted.caused
