-- Faults of the freemap in a space: none tells damage where the books are in order.
use Rattle.std.proofs.Common.{◌≡◌, Bool, true, false, true≢false, ℕ, ◌-◌, ◌≤◌, List, Option, Some, None, Result, Ok, Err, refl, sym, ap, subst, ◌∙◌}
use Rattle.std.proofs.Common.{arith, cond, is_some, map}
use Rattle.std.specs.Prelude.{IfSome, IsTrue, ◌&&◌, option_map}
use Rattle.std.specs.List.{list_any}
use Rattle.std.proofs.Math.Logic.{∥∥₁_elim}
use Rattle.std.proofs.Props.{props}
use Rattle.hm_types.specs.Faults.{HasAdmitCause, IsCaused, IsSpaceCaused, IsSpaceUndamaged, IsUndamaged}
use Rattle.hm_types.specs.Layout.{IsPool, block_of}
use Rattle.hm_types.specs.Offset.{byte_of}
use Rattle.hm_types.specs.References.{Reference}
use Rattle.hm_types.specs.Space.{rounded}
use Rattle.hm_types.specs.declared.fault.Fault.{Fault}
use Rattle.hm_types.specs.declared.fault.Fault.TheVariants.{Damaged, Media, NoMemory}
use Rattle.hm_types.specs.declared.fault.SpaceFault.{SpaceFault}
use Rattle.hm_types.specs.declared.fault.SpaceFault.TheVariants.{NoSpace, Fault as of_store}
use Rattle.hm_types.specs.declared.zone.TheConstants.{SMALL_ZONE, TREE_ZONE}
use Rattle.hm_fields.specs.Pages.{PageMap}
use Rattle.hm_freemap.specs.Admit.{HasAdmissionCause}
use Rattle.hm_freemap.specs.Extents.{is_extent, reference}
use Rattle.hm_freemap.specs.Faults.{IsExtentDamage, IsFreemapDamage}
use Rattle.hm_freemap.specs.Stand.{append_of, home_of}
use Rattle.hm_freemap.proofs.ExtentLemmas.{held_extent, placed_extent}
use Rattle.hm_freemap.proofs.GoodLemmas.{admission_undamaged, good_block}
use Rattle.hm_stored.specs.Basis.{Basis, nodes, states_of}
use Rattle.hm_stored.specs.Heap.{Heap, basis_with, bytes_of, begun_content, content_with, does_tell, extents_in, maps_of, pages_of, places_in}
use Rattle.hm_stored.specs.Log.{filled}
use Rattle.hm_stored.specs.Held.{Held, HeldBy, IsKept, with_refs}

-- what a space tells, where it is whole and has a content
pub tells_parts : (h : Heap) → IsTrue (does_tell h) → (h.whole ≡ true) × (is_some (begun_content h) ≡ true)
tells_parts h told = both h.whole (is_some (begun_content h)) told where
  both : (s t : Bool) → (s && t) ≡ true → (s ≡ true) × (t ≡ true)
  both true true is = (refl, refl)
  both true false is = absurd (true≢false (sym is))
  both false t is = absurd (true≢false (sym is))

-- a space that tells has books in order
pub on_begin : (h : Heap) (P : Type 0) → IsTrue (does_tell h) → Held h
    → ((begin : PageMap) (refs : List Reference) → HeldBy h (basis_with h begin) refs → P) → P
on_begin h P told held use_them = by_begin h.pages.begin refl (held told) where
  by_begin : (o : Option PageMap) → h.pages.begin ≡ o → IfSome o (λ begin. (refs : List Reference) × HeldBy h (basis_with h begin) refs) → P
  by_begin None none is =
      let empty : is_some (begun_content h) ≡ false =
      ap (λ (o : Option PageMap). is_some (content_with h.last (option_map (basis_with h) o) h.disk)) none in
      absurd (true≢false (sym ((tells_parts h told).1) ∙ empty))
  by_begin (Some begin) there is = use_them begin is.0 is.1

pub on_books : (h : Heap) (P : Type 0) → IsTrue (does_tell h) → Held h → ((b : Basis) (refs : List Reference) → HeldBy h b refs → P) → P
on_books h P told held use_them = on_begin h P told held (λ begin refs is. use_them (basis_with h begin) refs is)

-- no call on pages in memory fails for a device
pub memory_caused : (n : ℕ) (fault : Fault) → IsCaused 0 0 fault → IsCaused n n fault
memory_caused n (Media before after) is = absurd (omega (arith, is.begin, is.rose, is.end))
memory_caused n (Damaged at kind) is = tt
memory_caused n NoMemory is = tt

IsUndamaged-prop : (fault : Fault) → IsProp (IsUndamaged fault)
IsUndamaged-prop (Media before after) = hlevel props
IsUndamaged-prop (Damaged at kind) = hlevel props
IsUndamaged-prop NoMemory = hlevel props

-- a fact of all that a space tells, where its books show it
pub told_pages : (h : Heap) (fault : Fault) → ∥ Held h ∥₁ → (IsTrue (does_tell h) → (b : Basis) (refs : List Reference) → HeldBy h b refs → IsUndamaged fault)
    → IfSome (pages_of h) (λ _. IsUndamaged fault)
told_pages h fault held shows = by_test (does_tell h) refl where
  by_test : (t : Bool) → does_tell h ≡ t → IfSome (cond t (Some (nodes h.pages.current)) None) (λ _. IsUndamaged fault)
  by_test true told = ∥∥₁_elim held (IsUndamaged-prop fault) (λ is. on_books h (IsUndamaged fault) told is (shows told))
  by_test false told = tt

pub told_extents : (h : Heap) (fault : Fault) → ∥ Held h ∥₁
    → (IsTrue (does_tell h) → (b : Basis) (refs : List Reference) → HeldBy h b refs → IsUndamaged fault)
    → IfSome (extents_in h) (λ _. IsUndamaged fault)
told_extents h fault held shows = by_test (does_tell h) refl where
  by_test : (t : Bool) → does_tell h ≡ t → IfSome (cond t (Some (map (filled (bytes_of h.disk)) (places_in h))) None) (λ _. IsUndamaged fault)
  by_test true told = ∥∥₁_elim held (IsUndamaged-prop fault) (λ is. on_books h (IsUndamaged fault) told is (shows told))
  by_test false told = tt

pub held_of : (h : Heap) → ∥ IsKept h ∥₁ → ∥ Held h ∥₁
held_of h kept = ∥∥₁_elim kept squash₁ (λ k. ∣ k.held ∣₁)

-- a big-block that a zone appends to is good
pub take_undamaged : (h : Heap) (b : Basis) (refs : List Reference) (zone : ℕ) (fault : Fault) → TREE_ZONE ≤ zone → zone ≤ SMALL_ZONE → HeldBy h b refs
    → IsFreemapDamage h.bigblocks h.append (λ one. one ≡ append_of h.append zone) (maps_of h) fault → IsUndamaged fault
take_undamaged h b refs zone (Media before after) low high held bad = tt
take_undamaged h b refs zone NoMemory low high held bad = tt
take_undamaged h b refs zone (Damaged at kind) low high held bad =
    bad.bad (good_block h.bigblocks h.append (maps_of h) (with_refs refs (states_of b)) held.stand bad.block
    (subst (IsPool h.bigblocks) (sym bad.looked) (held.stand.appended.pool (zone - TREE_ZONE) (omega (arith, low, high)))))

-- an extent that is referred to is held
pub extent_undamaged : (h : Heap) (b : Basis) (refs : List Reference) (at len : ℕ) (fault : Fault) → HeldBy h b refs
    → list_any (is_extent (reference at len)) refs ≡ true
    → IsExtentDamage h.bigblocks h.append (block_of (byte_of at)) (rounded len) (maps_of h) fault → IsUndamaged fault
extent_undamaged h b refs at len (Media before after) held live bad = tt
extent_undamaged h b refs at len NoMemory held live bad = tt
extent_undamaged h b refs at len (Damaged at' kind) held live bad =
    let r = reference at len in
    let states = with_refs refs (states_of b) in
    bad.bad (good_block h.bigblocks h.append (maps_of h) states held.stand (home_of r) (placed_extent h.bigblocks h.append r
    (maps_of h) states held.stand live).pool)
    (held_extent h.bigblocks h.append r (maps_of h) states held.stand live)

-- The same of a call that needs room.
space_caused : (n : ℕ) (fault : SpaceFault) → IsSpaceCaused 0 0 fault → IsSpaceCaused n n fault
space_caused n (NoSpace free needed) is = tt
space_caused n (of_store fault) is = memory_caused n fault is

IsSpaceUndamaged-prop : (fault : SpaceFault) → IsProp (IsSpaceUndamaged fault)
IsSpaceUndamaged-prop (NoSpace free needed) = hlevel props
IsSpaceUndamaged-prop (of_store fault) = IsUndamaged-prop fault

told_room : (h : Heap) (fault : SpaceFault) → ∥ Held h ∥₁
    → (IsTrue (does_tell h) → (b : Basis) (refs : List Reference) → HeldBy h b refs → IsSpaceUndamaged fault)
    → IfSome (extents_in h) (λ _. IsSpaceUndamaged fault)
told_room h fault held shows = by_test (does_tell h) refl where
  by_test : (t : Bool) → does_tell h ≡ t → IfSome (cond t (Some (map (filled (bytes_of h.disk)) (places_in h))) None) (λ _. IsSpaceUndamaged fault)
  by_test true told = ∥∥₁_elim held (IsSpaceUndamaged-prop fault) (λ is. on_books h (IsSpaceUndamaged fault) told is (shows told))
  by_test false told = tt

silent : {A : Type 0} (o : Option A) → IfSome o (λ _. Unit {0})
silent None = tt
silent (Some x) = tt

pub admit_caused : (h : Heap) (n : ℕ) (result : Result (Unit {0}) SpaceFault) → ∥ IsKept h ∥₁
    → HasAdmissionCause h.bigblocks h.append (Some h.pages.committed) (Some h.pages.frozen) (Some h.pages.current) 0 0 result
    → HasAdmitCause (extents_in h) n n result
admit_caused h n (Ok one) kept cause = record { counted = record { never_falls = omega arith; caused = tt }; undamaged = silent (extents_in h) }
admit_caused h n (Err fault) kept cause = record {
  counted = record { never_falls = omega arith; caused = space_caused n fault cause.counted.caused };
  undamaged = told_room h fault (held_of h kept) (λ told b refs held.
      admission_undamaged h.bigblocks h.append (maps_of h) (with_refs refs (states_of b)) held.stand fault cause.damage);
}
