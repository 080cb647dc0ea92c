-- A store of two pages before and after its group is frozen: one that was committed, and one that was not.
use Rattle.std.proofs.Common.{◌≡◌, ◌≢◌, ◌⊎◌, inl, inr, ⊎_elim, ℕ, zero, suc, ◌+◌, ◌-◌, ◌<◌, ◌&&◌, ◌||◌, Bool, true, false, List, [], ◌∷◌, is_some}
use Rattle.std.proofs.Common.{length, refl, sym, ◌∙◌, ap, subst, arith, nat_eq, Option, Some, None, unwrap_or, if◌then◌else◌}
use Rattle.std.specs.Set.{is_member}
use Rattle.std.specs.List.Sorted.{IsStrictlyIncreasing}
use Rattle.std.proofs.lemmas.Bool.{true≢false}
use Rattle.std.proofs.lemmas.Bool.Decides.{Decides-eqb}
use Rattle.hm_types.specs.declared.id.Id.{Id}
use Rattle.hm_types.specs.declared.limits.TheConstants.{PAGE_BYTES}
use Rattle.hm_fields.specs.Pages.{PageMap}
use Rattle.hm_pages.specs.Calls.{IsFrozen}
use Rattle.hm_pages.specs.Sets.{in_freemap, no_set}
use Rattle.hm_pages.specs.Sound.{IsSound, IsSoundFlush}
use Rattle.hm_pages.specs.Store.{Store, layer2}
use Rattle.hm_undo.specs.Entry.{IsUndoPageOf}
use Rattle.hm_flush.specs.Calls.{AreFlushPlaces}
use Rattle.hm_flush.specs.Group.{group_of, live_before}
use Rattle.hm_flush.specs.Guard.{ArePlaced}
use Rattle.hm_flush.proofs.PossibleLemmas.{ArePages}

-- two places are one or not
equal : (a b : ℕ) → nat_eq a b ≡ true → a ≡ b
equal a b same = (Decides-eqb a b).0 same

same-place : (a : ℕ) → nat_eq a a ≡ true
same-place a = (Decides-eqb a a).1 refl

differ-place : (a b : ℕ) → a ≢ b → nat_eq a b ≡ false
differ-place a b other = step (nat_eq a b) refl
  where
    step : (c : Bool) → nat_eq a b ≡ c → c ≡ false
    step true same = absurd (other (equal a b same))
    step false same = refl

module _ (live fresh : ℕ) (old new added : List ℕ) where
  abbrev pub committed_map : PageMap
  committed_map at = if nat_eq at live then Some old else None

  abbrev pub current_map : PageMap
  current_map at = if nat_eq at live then Some new else (if nat_eq at fresh then Some added else None)

  abbrev pub places : List ℕ
  places = live ∷ fresh ∷ []

  -- both pages were put, and nothing is frozen
  abbrev pub idle_store : Store
  idle_store = record {
    committed = committed_map;
    frozen = committed_map;
    current = current_map;
    begin = None;
    call = no_set;
    group = record { changed = is_member nat_eq places; pages = 2 };
    frozen_group = [];
    boundary = None;
  }

  -- they are frozen
  abbrev pub frozen_store : Id → Store
  frozen_store boundary = record {
    committed = committed_map;
    frozen = current_map;
    current = current_map;
    begin = None;
    call = no_set;
    group = no_set;
    frozen_group = places;
    boundary = Some boundary;
  }

  -- where a page of either map stands, and which
  pub committed-only : (at : ℕ) (page : List ℕ) → committed_map at ≡ Some page → (at ≡ live) × (page ≡ old)
  committed-only at page there = step (nat_eq at live) refl there
    where
      step : (b : Bool) → nat_eq at live ≡ b → (if b then Some old else None) ≡ Some page → (at ≡ live) × (page ≡ old)
      step true same is = (equal at live same, ap (λ (o : Option (List ℕ)). unwrap_or o []) (sym is))
      step false same is = absurd (cc)

  pub current-only : (at : ℕ) (page : List ℕ) → current_map at ≡ Some page → ((at ≡ live) × (page ≡ new)) ⊎ ((at ≡ fresh) × (page ≡ added))
  current-only at page there = step (nat_eq at live) (nat_eq at fresh) refl refl there
    where
      step : (a b : Bool) → nat_eq at live ≡ a → nat_eq at fresh ≡ b → (if a then Some new else (if b then Some added else None)) ≡ Some page
          → ((at ≡ live) × (page ≡ new)) ⊎ ((at ≡ fresh) × (page ≡ added))
      step true b same other is = inl (equal at live same, ap (λ (o : Option (List ℕ)). unwrap_or o []) (sym is))
      step false true same other is = inr (equal at fresh other, ap (λ (o : Option (List ℕ)). unwrap_or o []) (sym is))
      step false false same other is = absurd (cc)

  pub committed-there : committed_map live ≡ Some old
  committed-there = ap (λ (b : Bool). if b then Some old else None) (same-place live)

  pub current-there : current_map live ≡ Some new
  current-there = ap (λ (b : Bool). if b then Some new else (if nat_eq live fresh then Some added else None)) (same-place live)

  -- a place that is neither has no page, and one that has a page is one of both
  beside-both : (at : ℕ) → is_member nat_eq places at ≡ false → current_map at ≡ committed_map at
  beside-both at none = step (nat_eq at live) (nat_eq at fresh) none
    where
      step : (a b : Bool) → (a || (b || false)) ≡ false
          → (if a then Some new else (if b then Some added else None)) ≡ (if a then Some old else None)
      step true b none = absurd (true≢false none)
      step false true none = absurd (true≢false none)
      step false false none = refl

  pub member-there : (at : ℕ) → is_member nat_eq places at ≡ true → is_some (current_map at) ≡ true
  member-there at found = step (nat_eq at live) (nat_eq at fresh) found
    where
      step : (a b : Bool) → (a || (b || false)) ≡ true → is_some (if a then Some new else (if b then Some added else None)) ≡ true
      step true b found = refl
      step false true found = refl
      step false false found = absurd (true≢false (sym found))

  member-place : (at : ℕ) → is_member nat_eq places at ≡ true → (at ≡ live) ⊎ (at ≡ fresh)
  member-place at found = step (nat_eq at live) (nat_eq at fresh) refl refl found
    where
      step : (a b : Bool) → nat_eq at live ≡ a → nat_eq at fresh ≡ b → (a || (b || false)) ≡ true → (at ≡ live) ⊎ (at ≡ fresh)
      step true b same other found = inl (equal at live same)
      step false true same other found = inr (equal at fresh other)
      step false false same other found = absurd (true≢false (sym found))

  pub member-live : is_member nat_eq places live ≡ true
  member-live = ap (λ (b : Bool). b || (nat_eq live fresh || false)) (same-place live)

  pub member-fresh : is_member nat_eq places fresh ≡ true
  member-fresh = step (nat_eq fresh live) (nat_eq fresh fresh) (same-place fresh)
    where
      step : (a b : Bool) → b ≡ true → (a || (b || false)) ≡ true
      step true b same = refl
      step false b same = ap (λ (c : Bool). c || false) same

  -- a committed page is in all three maps
  layer2-there : (at : ℕ) → layer2 idle_store at ≡ true → (is_some (committed_map at) ≡ true) × (is_some (current_map at) ≡ true)
  layer2-there at holds = step (nat_eq at live) (nat_eq at fresh) holds
    where
      step : (a b : Bool) → (in_freemap at && is_some (if a then Some old else None)) ≡ true
          → (is_some (if a then Some old else None) ≡ true)
          × (is_some (if a then Some new else (if b then Some added else None)) ≡ true)
      step true b holds = (refl, refl)
      step false b holds = absurd (grind (arith, holds))

  pub idle-sound : IsSound idle_store
  idle-sound = record {
    flush = record {
      rising = λ k below. absurd (omega (arith, below));
      frozen = λ at found. absurd (true≢false (sym found));
      beside = λ at none there. refl;
      idle = λ none. (refl, refl);
    };
    closed = λ closed. (refl, beside-both);
    call = tt;
    group = tt;
    few = omega arith;
    few_frozen = omega arith;
    layer2 = layer2-there;
  }

  module _ (rises : live < fresh) where
    pub fresh-none : committed_map fresh ≡ None
    fresh-none =
        ap (λ (b : Bool). if b then Some old else None) (differ-place fresh live (λ same. omega (arith, rises, same)))

    pub fresh-there : current_map fresh ≡ Some added
    fresh-there =
        ap (λ (b : Bool). if b then Some new else (if nat_eq fresh fresh then Some added else None))
        (differ-place fresh live (λ same. omega (arith, rises, same)))
        ∙ ap (λ (b : Bool). if b then Some added else None) (same-place fresh)

    pub one-live : (boundary : Id) → live_before (group_of (frozen_store boundary)).was_live 2 ≡ 1
    one-live boundary =
        ap (λ (o : Option (List ℕ)). 0 + (if is_some o then 1 else 0) + (if is_some (committed_map fresh) then 1 else 0)) committed-there
        ∙ ap (λ (o : Option (List ℕ)). 0 + 1 + (if is_some o then 1 else 0)) fresh-none

    rising : IsStrictlyIncreasing places
    rising zero below = rises
    rising (suc k) below = absurd (omega (arith, below))

    pub frozen-sound : (boundary : Id) → IsSoundFlush (frozen_store boundary)
    frozen-sound boundary = record {
      rising = rising;
      frozen = member-there;
      beside = λ at none there. beside-both at none;
      idle = λ idle. absurd (cc);
    }

    pub frozen-all : (boundary : Id) → IsSound (frozen_store boundary)
    frozen-all boundary = record {
      flush = frozen-sound boundary;
      closed = λ closed. (refl, λ at same. refl);
      call = tt;
      group = tt;
      few = omega arith;
      few_frozen = omega arith;
      layer2 = λ at holds. let there = layer2-there at holds in (there.1, there.1);
    }

    pub is-frozen : (boundary : Id) → IsFrozen boundary idle_store (frozen_store boundary)
    is-frozen boundary = record {
      committed = refl;
      frozen = refl;
      current = refl;
      group = refl;
      each = λ at. each-member (is_member nat_eq places at) (is_some (current_map at)) (member-there at);
      len = refl;
      boundary_is = refl;
      call = (refl, refl);
    }
      where
        each-member : (a b : Bool) → (a ≡ true → b ≡ true) → a ≡ (a && b)
        each-member true b there = sym (there refl)
        each-member false b there = refl

    module _ (bigblocks : ℕ) (live_is : IsUndoPageOf bigblocks live) (fresh_is : IsUndoPageOf bigblocks fresh) where
      pub committed-placed : ArePlaced bigblocks committed_map
      committed-placed at page there = subst (λ (k : ℕ). IsUndoPageOf bigblocks k) (sym (committed-only at page there).0) live_is

      pub idle-places : AreFlushPlaces bigblocks idle_store
      idle-places = record {
        current = λ at changed there.
            ⊎_elim (λ here. subst (λ (k : ℕ). IsUndoPageOf bigblocks k) (sym here) live_is)
            (λ here. subst (λ (k : ℕ). IsUndoPageOf bigblocks k) (sym here) fresh_is) (member-place at changed);
        frozen = λ i below. absurd (omega (arith, below));
      }

  pub are-pages : (boundary : Id) → live < fresh → length new ≡ PAGE_BYTES → length added ≡ PAGE_BYTES → ArePages (frozen_store boundary)
  are-pages boundary rises sized sized' zero below = (new, current-there, sized)
  are-pages boundary rises sized sized' (suc zero) below = (added, fresh-there rises, sized')
  are-pages boundary rises sized sized' (suc (suc i)) below = absurd (omega (arith, below))
