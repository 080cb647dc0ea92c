-- The causes of faults in calls after one another.
use Rattle.std.proofs.Common.{◌≡◌, ℕ, ◌≤◌, List, Option, Some, None, sym, ◌∙◌, arith}
use Rattle.std.specs.Prelude.{Result, Ok, Err, IfErr, IfSome, IsSomeAnd}
use Rattle.hm_types.specs.Faults.{HasFaultCause, HasStoreCause, IsCaused, IsUndamaged}
use Rattle.hm_types.specs.declared.fault.Fault.{Fault}
use Rattle.hm_types.specs.declared.fault.Fault.TheVariants.{Media, Damaged, NoMemory}
use Rattle.hm_key.specs.Balance.{IsBalanced, content_of, first_bytes, full_of, payload_of}
use Rattle.hm_key.specs.Extents.{Extent, extent_at}
use Rattle.hm_key.specs.declared.element.Element.{Element}
use Rattle.hm_cursor.specs.Told.{HasReadingCause, IsBroken, IsPayloadDamage, Lists, fulls}
use Rattle.hm_cursor.specs.Write.{KeepPlaces, StayPlaced, Writes}
use Rattle.hm_cursor.proofs.CallLemmas.{Change}
use Rattle.hm_calls.proofs.StepLemmas.{payload_kept}

-- ---- how far a count rose

fault_later : (old mid new : ℕ) (fault : Fault) → old ≤ mid → IsCaused mid new fault → IsCaused old new fault
fault_later old mid new (Media before after) grows cause = record { begin = omega (arith, cause.begin, grows); rose = cause.rose; end = cause.end }
fault_later old mid new (Damaged at kind) grows cause = tt
fault_later old mid new NoMemory grows cause = tt

counted_later : {T : Type 0} (old mid new : ℕ) (result : Result T Fault) → old ≤ mid → HasFaultCause mid new result → HasFaultCause old new result
counted_later old mid new (Ok x) grows cause = record { never_falls = omega (arith, grows, cause.never_falls); caused = tt }
counted_later old mid new (Err fault) grows cause =
    record { never_falls = omega (arith, grows, cause.never_falls); caused = fault_later old mid new fault grows cause.caused }

-- ---- calls that read no payload

undamaged : (lists : Lists) (fault : Fault) → IsUndamaged fault → IsPayloadDamage lists fault
undamaged lists (Media before after) is = tt
undamaged lists (Damaged at kind) is = absurd is
undamaged lists NoMemory is = tt

undamaged_result : {T : Type 0} (lists : Lists) (result : Result T Fault) → IfErr result IsUndamaged → IfErr result (IsPayloadDamage lists)
undamaged_result lists (Ok x) is = tt
undamaged_result lists (Err fault) is = undamaged lists fault is

none_read : {T : Type 0} (o : Option Lists) (result : Result T Fault) → IfSome o (λ _. IfErr result IsUndamaged)
    → IfSome o (λ lists. IsBalanced lists.0 lists.1 → IfErr result (IsPayloadDamage lists))
none_read None result is = tt
none_read (Some lists) result is = λ balanced. undamaged_result lists result is

-- such a call has its causes as one that reads
pub reading_cause : {T : Type 0} (es : Option (List Element)) (xs : Option (List Extent)) (old new : ℕ) (result : Result T Fault)
    → HasStoreCause (content_of es xs) old new result → HasReadingCause es xs old new result
reading_cause es xs old new result cause =
    record { counted = cause.counted; damage = none_read (content_of es xs) result cause.undamaged }

-- what a call did from one content to another
abbrev Does : Change → Option Lists → Option Lists → Type 0
Does A o p = IfSome o (λ was. IsBalanced was.0 was.1 → IsSomeAnd p (λ now. IsBalanced now.0 now.1 × A (fulls was) (fulls now)))

none_read_after : {T : Type 0} (A : Change) (o m : Option Lists) (result : Result T Fault) → Does A o m → IfSome m (λ _. IfErr result IsUndamaged)
    → IfSome o (λ lists. IsBalanced lists.0 lists.1 → IfErr result (IsPayloadDamage lists))
none_read_after A None m result does is = tt
none_read_after A (Some was) None result does is = λ balanced. absurd (does balanced)
none_read_after A (Some was) (Some mid) result does is = λ balanced. undamaged_result was result is

-- ---- payloads that stay where they were

same_bytes : (xs ys : List Extent) (e x : Element) → ys ≡ xs → x.payload ≡ e.payload → x.len ≡ e.len → payload_of xs e ≡ payload_of ys x
same_bytes xs ys e x same place len = λ j. first_bytes ((sym len) j) (extent_at ((sym place) j) ((sym same) j))

broken_before : (was now : Lists) (at : ℕ) → KeepPlaces was now → IsBroken now at → IsBroken was at
broken_before was now at placed broken =
    let old = placed.elements broken.element broken.there in
    record {
      element = old.0;
      there = old.1;
      place = sym old.3 ∙ broken.place;
      broken = λ is. broken.broken (payload_kept (full_of now.1 broken.element) (full_of was.1 old.0) old.2
          (sym (same_bytes was.1 now.1 old.0 broken.element placed.extents old.3 old.4)) is);
    }

damage_before : (was now : Lists) (fault : Fault) → KeepPlaces was now → IsPayloadDamage now fault → IsPayloadDamage was fault
damage_before was now (Media before after) placed damage = tt
damage_before was now (Damaged at kind) placed damage = (damage.0, broken_before was now at placed damage.1)
damage_before was now NoMemory placed damage = tt

damage_result : {T : Type 0} (was now : Lists) (result : Result T Fault) → KeepPlaces was now → IfErr result (IsPayloadDamage now)
    → IfErr result (IsPayloadDamage was)
damage_result was now (Ok x) placed damage = tt
damage_result was now (Err fault) placed damage = damage_before was now fault placed damage

read_after : {T : Type 0} (A : Change) (o m : Option Lists) (result : Result T Fault) → Does A o m → IfSome o (λ was. IsSomeAnd m (KeepPlaces was))
    → IfSome m (λ lists. IsBalanced lists.0 lists.1 → IfErr result (IsPayloadDamage lists))
    → IfSome o (λ lists. IsBalanced lists.0 lists.1 → IfErr result (IsPayloadDamage lists))
read_after A None m result does placed is = tt
read_after A (Some was) None result does placed is = λ balanced. absurd (does balanced)
read_after A (Some was) (Some mid) result does placed is = λ balanced. damage_result was mid result placed (is (does balanced).0)

module _ {S : Type 0} (elements_of : S → Option (List Element)) (extents_of : S → Option (List Extent)) where
  -- a call that reads no payload, after one that wrote
  pub store_cause_after : {T : Type 0} (A : Change) (old mid : S) (f g h : ℕ) (result : Result T Fault) → f ≤ g
      → Writes elements_of extents_of A old mid → HasStoreCause (content_of (elements_of mid) (extents_of mid)) g h result
      → HasReadingCause (elements_of old) (extents_of old) f h result
  store_cause_after A old mid f g h result grows writes cause = record {
    counted = counted_later f g h result grows cause.counted;
    damage = none_read_after A (content_of (elements_of old) (extents_of old)) (content_of (elements_of mid) (extents_of mid)) result writes cause.undamaged;
  }

  -- one that reads, after one that left each payload where it was
  pub reading_cause_after : {T : Type 0} (A : Change) (old mid : S) (f g h : ℕ) (result : Result T Fault) → f ≤ g
      → Writes elements_of extents_of A old mid → StayPlaced elements_of extents_of old mid
      → HasReadingCause (elements_of mid) (extents_of mid) g h result → HasReadingCause (elements_of old) (extents_of old) f h result
  reading_cause_after A old mid f g h result grows writes placed cause = record {
    counted = counted_later f g h result grows cause.counted;
    damage = read_after A (content_of (elements_of old) (extents_of old)) (content_of (elements_of mid) (extents_of mid)) result writes placed cause.damage;
  }
