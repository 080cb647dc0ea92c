-- Maps that have the same pages of the freemap: what is told by these alone.
use Rattle.std.proofs.Common.{◌≡◌, Bool, true, false, ℕ, ◌+◌, ◌-◌, ◌^◌, ◌<◌, ◌≤◌, List, slice_index, refl, sym, ap, subst, ◌∙◌, arith, cond}
use Rattle.std.specs.Prelude.{All, pos, ◌+ℤ◌, not, ◌&&◌}
use Rattle.std.specs.List.{Contains}
use Rattle.std.proofs.lemmas.List.Elements.{All-contains, All-contains_itself, All-weaker}
use Rattle.hm_types.specs.Layout.{first_pool, start_of}
use Rattle.hm_types.specs.Offset.{zone_of}
use Rattle.hm_types.specs.References.{Reference, References, IsPlaced, end_of, is_append, live_bytes}
use Rattle.hm_types.specs.declared.limits.TheConstants.{BIGBLOCK_BYTES, MOST_BIGBLOCKS}
use Rattle.hm_types.specs.declared.zone.TheConstants.{FREEMAP_ZONE, TREE_ZONE}
use Rattle.hm_fields.specs.Pages.{PageMap, page_in}
use Rattle.hm_freemap.specs.Entry.{entry_in}
use Rattle.hm_freemap.specs.Places.{page_of, place_of}
use Rattle.hm_freemap.specs.Stand.{AreAppended, AreBelow, HoldsPoolEntry, IsBelow, StandBy, Tells, all_of, append_of, entry_of, entry_page, free_by}
use Rattle.hm_freemap.specs.Stand.{home_of, is_clear_in, is_free_by, is_handed_out, room_in}
use Rattle.hm_freemap.specs.declared.entry.Entry.{Entry}
use Rattle.hm_freemap.proofs.CountLemmas.{count_same}
use Rattle.hm_freemap.proofs.PlaceLemmas.{page_zone}
use Rattle.hm_freemap.proofs.TakeLemmas.{is_handed}

-- two maps have the same pages of the freemap
abbrev pub SameFreemap : PageMap → PageMap → Type 0
SameFreemap old new = (at : ℕ) → zone_of at ≡ FREEMAP_ZONE → new at ≡ old at

module _ (old new : PageMap) (same : SameFreemap old new) where
  pub page_same : (block : ℕ) → block < 2 ^ 32 → entry_page new block ≡ entry_page old block
  page_same block low = ap page_in (same (page_of block) (page_zone block low))

  pub entry_same : (block : ℕ) → block < 2 ^ 32 → entry_of new block ≡ entry_of old block
  entry_same block low = ap (λ page. entry_in page (place_of block)) (page_same block low)

  pub room_same : (bigblocks : ℕ) (append : List ℕ) → bigblocks ≤ MOST_BIGBLOCKS → AreBelow bigblocks append → (zone : ℕ)
      → room_in append new zone ≡ room_in append old zone
  room_same bigblocks append few below zone = by_test (is_handed_out zone) refl where
    by_test : (b : Bool) → is_handed_out zone ≡ b
        → cond b (BIGBLOCK_BYTES - (entry_of new (append_of append zone)).append_off) 0
        ≡ cond b (BIGBLOCK_BYTES - (entry_of old (append_of append zone)).append_off) 0
    by_test true is =
        let low = below (zone - TREE_ZONE) (let z = is_handed zone is in omega (arith, z.0, z.1)) in
        ap (λ (e : Entry). BIGBLOCK_BYTES - e.append_off) (entry_same (append_of append zone) (omega (arith, low, few)))
    by_test false is = refl

  pub free_same : (bigblocks : ℕ) (append : List ℕ) (committed frozen : PageMap) → bigblocks ≤ MOST_BIGBLOCKS
      → free_by bigblocks append (record { committed = committed; frozen = frozen; current = new })
      ≡ free_by bigblocks append (record { committed = committed; frozen = frozen; current = old })
  free_same bigblocks append committed frozen few =
      count_same (is_free_by append (record { committed = committed; frozen = frozen; current = new }))
      (is_free_by append (record { committed = committed; frozen = frozen; current = old })) (first_pool bigblocks) (bigblocks - first_pool bigblocks)
      (λ block low high.
      ap (λ (page : List ℕ). not (is_append append block)
      && (is_clear_in (entry_page committed block) block && (is_clear_in (entry_page frozen block) block && is_clear_in page block)))
      (page_same block (omega (arith, high, few))))

  pub tells_same : (bigblocks : ℕ) (refs : List Reference) → bigblocks ≤ MOST_BIGBLOCKS → Tells bigblocks old refs → Tells bigblocks new refs
  tells_same bigblocks refs few tells block pool =
      let t = tells block pool in
      let page = page_same block (omega (arith, pool.1, few)) in
      record {
        entry = subst (λ (p : List ℕ). HoldsPoolEntry p block) (sym page) t.entry;
        free = subst (λ (p : List ℕ). (entry_in p (place_of block)).bytes_free +ℤ pos (live_bytes refs block) ≡ pos BIGBLOCK_BYTES) (sym page) t.free;
      }

  pub below_same : (bigblocks : ℕ) (refs : List Reference) → bigblocks ≤ MOST_BIGBLOCKS → All (IsPlaced bigblocks) refs → All (IsBelow old) refs
      → All (IsBelow new) refs
  below_same bigblocks refs few placed below =
      All-weaker (Contains refs) (IsBelow new)
      (λ r there.
      let b = All-contains (IsBelow old) refs r below there in
      let p = All-contains (IsPlaced bigblocks) refs r placed there in
      let e = entry_same (home_of r) (omega (arith, p.pool.1, few)) in
      record {
        zone = ap (λ (x : Entry). x.zone) e ∙ b.zone;
        end = subst (λ (x : Entry). end_of r ≤ start_of (home_of r) + x.append_off) (sym e) b.end;
      })
      refs (All-contains_itself refs)

  pub appended_same : (bigblocks : ℕ) (append : List ℕ) → bigblocks ≤ MOST_BIGBLOCKS → AreAppended bigblocks append old → AreAppended bigblocks append new
  appended_same bigblocks append few a = record {
    four = a.four;
    pool = a.pool;
    zone = λ k low. ap (λ (x : Entry). x.zone) (entry_same (slice_index append k) (omega (arith, (a.pool k low).1, few))) ∙ a.zone k low;
  }

  -- the freemap stands for the same states
  pub stand_same : (bigblocks : ℕ) (append : List ℕ) (committed frozen : PageMap) (states : References) → bigblocks ≤ MOST_BIGBLOCKS
      → StandBy bigblocks append (record { committed = committed; frozen = frozen; current = old }) states
      → StandBy bigblocks append (record { committed = committed; frozen = frozen; current = new }) states
  stand_same bigblocks append committed frozen states few stand = record {
    committed = stand.committed;
    frozen = stand.frozen;
    current = tells_same bigblocks states.current few stand.current;
    appended = appended_same bigblocks append few stand.appended;
    placed = stand.placed;
    below = below_same bigblocks (all_of states) few stand.placed stand.below;
    apart = stand.apart;
    few = stand.few;
  }
