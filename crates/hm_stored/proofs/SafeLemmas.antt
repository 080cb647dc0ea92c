-- What was live as a call began is safe until the call gives something back.
use Rattle.std.proofs.Common.{◌≡◌, Bool, true, false, true≢false, ℕ, ◌≤◌, ⊎_elim, Option, Some, None, refl, sym, ap, subst, ◌∙◌, arith, ℤ, pos, negsuc, ◌-ℤ◌}
use Rattle.std.specs.Prelude.{All, IfSome, IsTrue, option_map, ◌&&◌, ◌<ℤ◌}
use Rattle.std.specs.Int.{w32, saturate_signed}
use Rattle.std.specs.List.{Contains}
use Rattle.std.proofs.lemmas.Bool.{cases_eq}
use Rattle.std.proofs.lemmas.Int.{ints}
use Rattle.std.proofs.lemmas.List.Elements.{All-contains, All-contains_itself, All-weaker}
use Rattle.hm_types.specs.References.{IsPlaced}
use Rattle.hm_types.specs.declared.limits.TheConstants.{BIGBLOCK_BYTES, MOST_BIGBLOCKS}
use Rattle.hm_disk.specs.Crash.{Told}
use Rattle.hm_fields.specs.Pages.{PageMap}
use Rattle.hm_freemap.specs.Change.{fewer, fitted}
use Rattle.hm_freemap.specs.Stand.{EntryChanged, entry_of, home_of}
use Rattle.hm_freemap.specs.declared.entry.Entry.{Entry}
use Rattle.hm_stored.specs.Basis.{Basis, states_of}
use Rattle.hm_stored.specs.Heap.{Heap, basis_with, does_hold, is_firm_with}
use Rattle.hm_stored.specs.Held.{IsInUse, IsSafe, Safe}
use Rattle.hm_stored.proofs.BasisLemmas.{SameBasis, bases_same, basis_same, begin_same}
use Rattle.hm_stored.proofs.BookLemmas.{Grows, below_grows}
use Rattle.hm_stored.proofs.MapLemmas.{SameFreemap, below_same, entry_same}

-- a big-block of which bytes are in use stays one
abbrev pub Uses : PageMap → PageMap → ℕ → Type 0
Uses old new block = (entry_of old block).bytes_free <ℤ pos BIGBLOCK_BYTES → (entry_of new block).bytes_free <ℤ pos BIGBLOCK_BYTES

pub uses_put : (old new : PageMap) (block : ℕ) (next : Entry → Entry) → EntryChanged block next old new
    → ((entry_of old block).bytes_free <ℤ pos BIGBLOCK_BYTES → (next (entry_of old block)).bytes_free <ℤ pos BIGBLOCK_BYTES) →
    (other : ℕ) → Uses old new other
uses_put old new block next put step other =
    ⊎_elim
    (λ (here : other ≡ block). subst (λ (n : ℕ). Uses old new n) (sym here)
    (λ used. subst (λ (e : Entry). e.bytes_free <ℤ pos BIGBLOCK_BYTES) (sym put.put) (step used)))
    (λ away. λ used. subst (λ (e : Entry). e.bytes_free <ℤ pos BIGBLOCK_BYTES) (sym (put.others other away)) used)
    (cases_eq other block)

-- with fewer free bytes it is one
pub fewer_used : (free : ℤ) (size : ℕ) → free <ℤ pos BIGBLOCK_BYTES → fewer free size <ℤ pos BIGBLOCK_BYTES
fewer_used free size used = by_value (free -ℤ pos (fitted size)) (omega (arith, ints, used)) where
  by_value : (y : ℤ) → y <ℤ pos BIGBLOCK_BYTES → saturate_signed w32 y <ℤ pos BIGBLOCK_BYTES
  by_value (pos n) low = omega (arith, ints, low)
  by_value (negsuc n) low = omega (arith, ints, low)

-- the books held as the call began, where the basis is the same
pub holds_same : (h h' : Heap) → SameBasis h h' → h'.disk ≡ h.disk → h'.whole ≡ h.whole → does_hold h' ≡ does_hold h
holds_same h h' same disk whole =
    ap (λ (t : Bool). t && is_firm_with (option_map (basis_with h') h'.pages.begin) h'.disk) whole
    ∙ (ap (λ (o : Option Basis). h.whole && is_firm_with o h'.disk) (bases_same h h' same)
    ∙ ap (λ (d : Option Told). h.whole && is_firm_with (option_map (basis_with h) h.pages.begin) d) disk)

pub holds_whole : (h : Heap) → IsTrue (does_hold h) → h.whole ≡ true
holds_whole h holds = left h.whole (is_firm_with (option_map (basis_with h) h.pages.begin) h.disk) holds where
  left : (s t : Bool) → (s && t) ≡ true → s ≡ true
  left true t is = refl
  left false t is = absurd (true≢false (sym is))

pub safe_map : (h h' : Heap) → SameBasis h h' → does_hold h' ≡ does_hold h → ((b : Basis) → IsSafe h b → IsSafe h' b) → Safe h → Safe h'
safe_map h h' same holds step safe held = subst (λ (o : Option PageMap). IfSome o (λ begin. IsSafe h' (basis_with h' begin))) (sym (begin_same h h' same))
    (by_begin h.pages.begin (safe (sym holds ∙ held))) where
      by_begin : (o : Option PageMap) → IfSome o (λ begin. IsSafe h (basis_with h begin)) → IfSome o (λ begin. IsSafe h' (basis_with h' begin))
      by_begin None is = tt
      by_begin (Some begin) is = subst (λ (b : Basis). IsSafe h' b) (sym (basis_same h h' same begin)) (step (basis_with h begin) is)

-- a call that lets big-blocks grow keeps it
pub safe_after : (h h' : Heap) (b : Basis) (now : PageMap) → h.bigblocks ≤ MOST_BIGBLOCKS → h'.bigblocks ≡ h.bigblocks → IsSafe h b
    → SameFreemap now h'.pages.current
    → ((block : ℕ) → Grows h.pages.current now block) → (h'.gave ≡ false → (h.gave ≡ false) × ((block : ℕ) → Uses h.pages.current now block)) → IsSafe h' b
safe_after h h' b now few bigblocks safe freemap grows uses = record {
  placed = subst (λ (n : ℕ). All (IsPlaced n) (states_of b).current) (sym bigblocks) safe.placed;
  below = below_same now h'.pages.current freemap h.bigblocks (states_of b).current few safe.placed
      (below_grows h.pages.current now (states_of b).current grows safe.below);
  used = λ none.
      let both = uses none in
      All-weaker (Contains (states_of b).current) (IsInUse h'.pages.current)
      (λ r there.
      let p = All-contains (IsPlaced h.bigblocks) (states_of b).current r safe.placed there in
      let u = All-contains (IsInUse h.pages.current) (states_of b).current r (safe.used both.0) there in
      let e = entry_same now h'.pages.current freemap (home_of r) (omega (arith, p.pool.1, few)) in
      subst (λ (x : Entry). x.bytes_free <ℤ pos BIGBLOCK_BYTES) (sym e) (both.1 (home_of r) u))
      (states_of b).current (All-contains_itself (states_of b).current);
}
