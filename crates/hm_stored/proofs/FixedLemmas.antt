-- Entries outside the pool keep their bytes through every call.
use Rattle.std.proofs.Common.{◌≡◌, ◌≢◌, Bool, true, false, true≢false, ℕ, zero, suc, ◌+◌, ◌-◌, ◌<◌, ◌≤◌, inl, inr, ◌⊎◌, ⊎_elim, List, Option, Some, None}
use Rattle.std.proofs.Common.{refl, sym, ap, subst, ◌∙◌, arith, is_some, pos, slice_index, slice_range}
use Rattle.std.specs.Prelude.{IfSome, IsSome, IsTrue}
use Rattle.std.specs.List.{list_any}
use Rattle.std.proofs.lemmas.Bool.{cases_eq}
use Rattle.std.proofs.lemmas.Int.{ints}
use Rattle.hm_types.specs.Layout.{IsPool}
use Rattle.hm_types.specs.References.{Reference, References}
use Rattle.hm_types.specs.declared.limits.TheConstants.{MOST_BIGBLOCKS}
use Rattle.hm_types.specs.declared.zone.TheConstants.{SMALL_ZONE, TREE_ZONE}
use Rattle.hm_types.specs.declared.zones.Zones.{Zones}
use Rattle.hm_fields.specs.Fields.{zero_page}
use Rattle.hm_fields.specs.Pages.{PageMap, page_in}
use Rattle.hm_fields.proofs.FieldLemmas.{get_zero}
use Rattle.hm_freemap.specs.Admit.{IsAdmitted, lacks_in}
use Rattle.hm_freemap.specs.Entry.{IsPoolEntry, SpellsEntry, entry_in}
use Rattle.hm_freemap.specs.Extents.{Changes, Takes, is_extent}
use Rattle.hm_freemap.specs.Places.{page_of, place_of}
use Rattle.hm_freemap.specs.Space.{space_of}
use Rattle.hm_freemap.specs.Stand.{EntryPut, HoldsPoolEntry, Maps, StandBy, append_of, entry_part, home_of}
use Rattle.hm_freemap.specs.declared.entry.Entry.{Entry}
use Rattle.hm_freemap.proofs.ExtentLemmas.{placed_extent}
use Rattle.hm_freemap.proofs.PlaceLemmas.{page_zone}
use Rattle.hm_stored.specs.Basis.{AreFixed, entry_outside}
use Rattle.hm_stored.proofs.MapLemmas.{SameFreemap}

-- a page that is not there tells of no big-block of the pool
free_zero : (at : ℕ) → (entry_in zero_page at).bytes_free ≡ pos 0
unfolding entry_in
free_zero at = rw (get_zero (at + 8) 4) refl

zone_zero : (at : ℕ) → (entry_in zero_page at).zone ≡ 0
unfolding entry_in
zone_zero at = get_zero at 4

no_pool_entry : (at : ℕ) → IsPoolEntry (entry_in zero_page at) → ⊥
no_pool_entry at (inl owned) = omega (arith, owned.zone, zone_zero at)
no_pool_entry at (inr unused) = omega (arith, ints, unused.free, free_zero at)

pool_there : (bigblocks : ℕ) (append : List ℕ) (maps : Maps) (states : References) (block : ℕ) → StandBy bigblocks append maps states → IsPool bigblocks block
    → IsSome (maps.current (page_of block))
pool_there bigblocks append maps states block stand pool = by_page (maps.current (page_of block)) (stand.current block pool).entry where
  by_page : (o : Option (List ℕ)) → HoldsPoolEntry (page_in o) block → IsSome o
  by_page None holds = absurd (no_pool_entry (place_of block) holds.entry)
  by_page (Some page) holds = refl

-- where the page of each entry outside the pool stays, or was there and the entry's bytes stay, all of them do
abbrev Stays : PageMap → PageMap → ℕ → Type 0
Stays old new block = (new (page_of block) ≡ old (page_of block)) ⊎ (IsSome (old (page_of block)) × (entry_part new block ≡ entry_part old block))

-- an entry outside the pool, in a page that is there
abbrev Outside : ℕ → ℕ → Option (List ℕ) → Type 0
Outside bigblocks block o = IfSome o (λ page. SpellsEntry page (place_of block) (entry_outside bigblocks block))

abbrev part_in : ℕ → Option (List ℕ) → List ℕ
part_in block o = slice_range (page_in o) (place_of block) (place_of block + 16)

outside_kept : (bigblocks : ℕ) (old new : PageMap) (block : ℕ) (o n : Option (List ℕ)) → old (page_of block) ≡ o → new (page_of block) ≡ n → Stays old new block
    → Outside bigblocks block o → Outside bigblocks block n
outside_kept bigblocks old new block o None was is stay spelled = tt
outside_kept bigblocks old new block None (Some page) was is (inl same) spelled = absurd (cc)
outside_kept bigblocks old new block None (Some page) was is (inr both) spelled =
    absurd (true≢false (sym both.0 ∙ ap (λ (o : Option (List ℕ)). is_some o) was))
outside_kept bigblocks old new block (Some page') (Some page) was is (inl same) spelled = subst (Outside bigblocks block) (sym was ∙ (sym same ∙ is)) spelled
outside_kept bigblocks old new block (Some page') (Some page) was is (inr both) spelled =
    sym (ap (part_in block) is) ∙ (both.1 ∙ (ap (part_in block) was ∙ spelled))

fixed_kept : (bigblocks : ℕ) (old new : PageMap) → ((block : ℕ) → ¬ IsPool bigblocks block → Stays old new block) → AreFixed bigblocks old
    → AreFixed bigblocks new
fixed_kept bigblocks old new stays fixed block low outside =
    outside_kept bigblocks old new block (old (page_of block)) (new (page_of block)) refl refl (stays block outside) (fixed block low outside)

-- an entry of the pool was put
pub fixed_put : (bigblocks block : ℕ) (entry : Entry) (old new : PageMap) → EntryPut block entry old new → IsPool bigblocks block → IsSome (old (page_of block))
    → AreFixed bigblocks old → AreFixed bigblocks new
fixed_put bigblocks block entry old new put pool there = fixed_kept bigblocks old new stays where
  stays : (other : ℕ) → ¬ IsPool bigblocks other → Stays old new other
  stays other outside = ⊎_elim
      (λ (same : page_of other ≡ page_of block).
      inr (ap (λ (at : ℕ). is_some (old at)) same ∙ there, put.bytes other (λ here. outside (subst (IsPool bigblocks) (sym here) pool))))
      (λ apart. inl (put.pages (page_of other) apart))
      (cases_eq (page_of other) (page_of block))

-- the freemap stands for some states, and a call changed it
module _ (bigblocks : ℕ) (append : List ℕ) (maps : Maps) (states : References) (stand : StandBy bigblocks append maps states) (now : PageMap) where
  pub fixed_take : (zone len at : ℕ) → TREE_ZONE ≤ zone → zone ≤ SMALL_ZONE → Takes bigblocks append zone len at maps now
      → AreFixed bigblocks maps.current → AreFixed bigblocks now
  fixed_take zone len at low high takes =
      let pool = stand.appended.pool (zone - TREE_ZONE) (omega (arith, low, high)) in
      fixed_put bigblocks (append_of append zone) _ maps.current now takes.put pool
      (pool_there bigblocks append maps states (append_of append zone) stand pool)

  pub fixed_change : (r : Reference) (Needs : References → Type 0) (change : References → References) (next : Entry → Entry)
      → list_any (is_extent r) states.current ≡ true → Changes bigblocks append r Needs change next maps now
      → AreFixed bigblocks maps.current → AreFixed bigblocks now
  fixed_change r Needs change next live changes =
      let pool = (placed_extent bigblocks append r maps states stand live).pool in
      fixed_put bigblocks (home_of r) _ maps.current now changes.put pool (pool_there bigblocks append maps states (home_of r) stand pool)

  module _ (zones : Zones) (most : ℕ) (append' : List ℕ) (admitted : IsAdmitted bigblocks zones most append append' maps now) where
    abbrev Lacks : ℕ → Type 0
    Lacks k = IsTrue (lacks_in zones (space_of append maps) k)

    pool : (k : ℕ) → k < 4 → Lacks k → IsPool bigblocks (slice_index append' k)
    pool k low is = (admitted.lowest.begun k low is).pool

    -- none of the first zones began a big-block with its entry in a page
    abbrev NoneIn : ℕ → ℕ → Type 0
    NoneIn at n = (k : ℕ) → k < n → Lacks k → page_of (slice_index append' k) ≢ at

    -- or one did, and the page is there
    one_more : (at n : ℕ) → n < 4 → NoneIn at n → (t : Bool) → lacks_in zones (space_of append maps) n ≡ t → IsSome (maps.current at) ⊎ NoneIn at (suc n)
    one_more at n few none false has = inr (λ k low is. ⊎_elim
        (λ (here : k ≡ n). absurd (true≢false (sym is ∙ (ap (lacks_in zones (space_of append maps)) here ∙ has))))
        (λ other. none k (omega (arith, low, other)) is)
        (cases_eq k n))
    one_more at n few none true is = ⊎_elim
        (λ (here : page_of (slice_index append' n) ≡ at). inl (ap (λ (x : ℕ). is_some (maps.current x)) (sym here)
        ∙ pool_there bigblocks append maps states (slice_index append' n) stand (pool n few is)))
        (λ apart. inr (λ k low needs. ⊎_elim
        (λ (here : k ≡ n). subst (λ (j : ℕ). page_of (slice_index append' j) ≢ at) (sym here) apart)
        (λ other. none k (omega (arith, low, other)) needs)
        (cases_eq k n)))
        (cases_eq (page_of (slice_index append' n)) at)

    found : (at n : ℕ) → n ≤ 4 → IsSome (maps.current at) ⊎ NoneIn at n
    found at zero few = inr (λ k low. absurd (omega arith))
    found at (suc n) few = ⊎_elim inl
        (λ none. one_more at n (omega (arith, few)) none (lacks_in zones (space_of append maps) n) refl)
        (found at n (omega (arith, few)))

    stays : (block : ℕ) → ¬ IsPool bigblocks block → Stays maps.current now block
    stays block outside = ⊎_elim
        (λ there. inr (there, admitted.lowest.bytes block (λ k low is same. outside (subst (IsPool bigblocks) same (pool k low is)))))
        (λ none. inl (admitted.lowest.elsewhere (page_of block) none))
        (found (page_of block) 4 (omega arith))

    pub fixed_admit : AreFixed bigblocks maps.current → AreFixed bigblocks now
    fixed_admit = fixed_kept bigblocks maps.current now stays

-- pages beside the freemap changed
pub fixed_same : (bigblocks : ℕ) (old new : PageMap) → bigblocks ≤ MOST_BIGBLOCKS → SameFreemap old new → AreFixed bigblocks old → AreFixed bigblocks new
fixed_same bigblocks old new few same fixed block low outside =
    subst (λ (o : Option (List ℕ)). IfSome o (λ page. SpellsEntry page (place_of block) (entry_outside bigblocks block)))
    (sym (same (page_of block) (page_zone block (omega (arith, low, few))))) (fixed block low outside)
