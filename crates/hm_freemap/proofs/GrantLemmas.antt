-- Zones that lacked room have begun new big-blocks: the call is admitted.
use Rattle.std.proofs.Common.{◌≡◌, Bool, true, false, ℕ, ◌+◌, ◌-◌, ◌^◌, ◌<◌, ◌≤◌, min, inr, List, length, slice_index, refl, sym, ap, subst, ◌∙◌}
use Rattle.std.proofs.Common.{arith, cond, nat_eq, Option, Some, None}
use Rattle.std.proofs.Common.{◌≢◌}
use Rattle.std.specs.Prelude.{IfSome}
use Rattle.std.proofs.lemmas.List.FromFn.{length-range_with_len}
use Rattle.std.proofs.lemmas.List.Sums.{count_by-le-length}
use Rattle.hm_types.specs.Layout.{first_pool}
use Rattle.hm_types.specs.References.{pool}
use Rattle.hm_types.specs.Space.{names_zone, reserve_of, needed, Admits}
use Rattle.hm_types.specs.Told.{BothTell}
use Rattle.hm_types.specs.declared.limits.TheConstants.{BIGBLOCK_BYTES, MOST_BIGBLOCKS}
use Rattle.hm_types.specs.declared.zone.TheConstants.{TREE_ZONE}
use Rattle.hm_types.specs.declared.zones.Zones.{Zones}
use Rattle.hm_fields.specs.Pages.{PageMap}
use Rattle.hm_freemap.specs.Admit.{IsAdmitted, IsFreeAt, BeginsLowest, does_lack, which_lack, lacking_before}
use Rattle.hm_freemap.specs.Extents.{Moves, with_current}
use Rattle.hm_freemap.specs.Places.{page_of}
use Rattle.hm_freemap.specs.Renew.{AreFresh, Renewed, Renewing, count_first, lacking_count, lacks_at}
use Rattle.hm_freemap.specs.Scan.{Finds}
use Rattle.hm_freemap.specs.Space.{free_at, room_at, space_of}
use Rattle.hm_freemap.specs.Stand.{Maps, WhereTold, append_of, entry_of, entry_part, free_by, is_free_by, is_handed_out, room_in}
use Rattle.hm_freemap.specs.declared.scan.Found.{Found}
use Rattle.hm_freemap.proofs.AdmitLemmas.{before_is, found_fresh, lacks_is, named_zone, needed_is, reserve_kept, admitted_none}
use Rattle.hm_freemap.proofs.CountLemmas.{bit}
use Rattle.hm_freemap.proofs.StepLemmas.{first_few, first_more}
use Rattle.hm_freemap.proofs.TakeLemmas.{is_handed}

-- a zone that lacks room is one of which the reserve is less than a big-block
reserve_small : (zone : ℕ) → reserve_of zone ≤ BIGBLOCK_BYTES
reserve_small zone = by_test (nat_eq zone TREE_ZONE) where
  by_test : (b : Bool) → cond b 1048576 131072 ≤ BIGBLOCK_BYTES
  by_test true = omega arith
  by_test false = omega arith

-- a zone has at most a whole big-block left
room_most : (append : List ℕ) (map : PageMap) (zone : ℕ) → room_in append map zone ≤ BIGBLOCK_BYTES
room_most append map zone = by_test (is_handed_out zone) where
  by_test : (b : Bool) → cond b (BIGBLOCK_BYTES - (entry_of map (append_of append zone)).append_off) 0 ≤ BIGBLOCK_BYTES
  by_test true = omega arith
  by_test false = omega arith

module _ (bigblocks : ℕ) (zones : Zones) (held : ℕ) (append append' : List ℕ) (maps : Maps) (now : PageMap) (lack : List Bool) (wanted : ℕ) (found : Found)
    (few : bigblocks ≤ MOST_BIGBLOCKS)
    (is : lack ≡ which_lack zones (room_in append maps.current))
    (sized : wanted ≡ min (lacking_count lack + held) (2 ^ 32 - 1))
    (four : lacking_count lack ≤ 4)
    (enough : wanted ≤ found.count)
    (finds : Finds (is_free_by append maps) wanted (pool bigblocks) found)
    (renewing : Renewing lack found.first 4 (lacking_count lack) append append' maps.current now) where
  room : ℕ → ℕ
  room = room_in append maps.current

  total : needed zones (room_in append maps.current) ≡ lacking_count lack
  total = needed_is zones (room_in append maps.current) ∙ ap lacking_count (sym is)

  there : lacking_count lack + held ≤ free_by bigblocks append maps
  there =
      let most = count_by-le-length (is_free_by append maps) (pool bigblocks) in
      let long = length-range_with_len (first_pool bigblocks) (bigblocks - first_pool bigblocks) in
      omega (arith, sized, enough, finds.count, most, long, few)

  fresh : AreFresh bigblocks (is_free_by append maps) found.first (lacking_count lack)
  fresh = found_fresh bigblocks (is_free_by append maps) wanted (lacking_count lack) found finds (omega (arith, sized, enough, four)) four

  renewed : Renewed bigblocks lack found.first 4 (lacking_count lack) append append' maps (with_current now maps)
  renewed = renewing.each bigblocks maps.committed maps.frozen fresh

  reserved : (zone : ℕ) → names_zone zones zone ≡ true → reserve_of zone ≤ room_in append' now zone
  reserved zone names =
      let range = named_zone zones zone names in
      let place : TREE_ZONE + (zone - TREE_ZONE) ≡ zone = omega (arith, range) in
      let low : zone - TREE_ZONE < 4 = omega (arith, range) in
      by_test (zone - TREE_ZONE) low place (lacks_at lack (zone - TREE_ZONE)) refl where
        by_test : (j : ℕ) → j < 4 → TREE_ZONE + j ≡ zone → (b : Bool) → lacks_at lack j ≡ b → reserve_of zone ≤ room_in append' now zone
        by_test j low place true has =
            let whole : room_in append' now zone ≡ BIGBLOCK_BYTES = ap (room_in append' now) (sym place) ∙ renewed.done j low low has in
            omega (arith, whole, reserve_small zone)
        by_test j low place false has =
            let same : room_in append' now zone ≡ room_in append maps.current zone =
            ap (room_in append' now) (sym place) ∙ renewed.undone j low (inr has) ∙ ap (room_in append maps.current) place in
            let has_room : does_lack zones (room_in append maps.current) zone ≡ false =
            ap (does_lack zones (room_in append maps.current)) (sym place) ∙ sym (lacks_is zones (room_in append maps.current) j low)
            ∙ ap (λ (l : List Bool). lacks_at l j) (sym is) ∙ has in
            let kept = reserve_kept zones (room_in append maps.current) zone names has_room in
            omega (arith, same, kept)

  admits_all : Admits room_at (free_at bigblocks) zones held (space_of append maps) (space_of append' (with_current now maps))
  admits_all = record {
    enough = omega (arith, total, there);
    no_more = renewed.no_more;
    paid = omega (arith, total, renewed.paid);
    reserve = reserved;
  }

  -- whether a zone lacks room, by its place among the four
  lacks_here : (k : ℕ) → k < 4 → lacks_at lack k ≡ does_lack zones (room_in append maps.current) (TREE_ZONE + k)
  lacks_here k low = ap (λ (l : List Bool). lacks_at l k) is ∙ lacks_is zones (room_in append maps.current) k low

  begun_lowest : (k : ℕ) → k < 4 → does_lack zones (room_in append maps.current) (TREE_ZONE + k) ≡ true
      → IsFreeAt bigblocks (is_free_by append maps) (lacking_before zones (room_in append maps.current) k) (slice_index append' k)
  begun_lowest k low lacks =
      let here : lacks_at lack k ≡ true = lacks_here k low ∙ lacks in
      let before : count_first lack k ≡ lacking_before zones (room_in append maps.current) k =
      ap (λ (l : List Bool). count_first l k) is ∙ before_is zones (room_in append maps.current) k low in
      let one : bit (lacks_at lack k) ≡ 1 = ap bit here in
      let more = first_more lack k (omega (arith, low, ap length is)) in
      let inside : count_first lack k < lacking_count lack = omega (arith, more, first_few lack (k + 1), one) in
      subst (λ (b : ℕ). IsFreeAt bigblocks (is_free_by append maps) (lacking_before zones (room_in append maps.current) k) b)
      (sym (renewed.begun k low low here))
      (subst (λ (n : ℕ). IsFreeAt bigblocks (is_free_by append maps) n (slice_index found.first (count_first lack k)))
      before (fresh.each (count_first lack k) inside))

  -- the entry of a big-block that none began
  stays : (block : ℕ) → ((k : ℕ) → k < 4 → does_lack zones (room_in append maps.current) (TREE_ZONE + k) ≡ true → slice_index append' k ≢ block)
      → (entry_of now block ≡ entry_of maps.current block) × (entry_part now block ≡ entry_part maps.current block)
  stays block apart = renewing.entries block
      (λ j few early lacks same. apart j few (sym (lacks_here j few) ∙ lacks) (renewed.begun j few few lacks ∙ same))

  lowest_all : BeginsLowest bigblocks zones (is_free_by append maps) (space_of append maps) (space_of append' (with_current now maps))
  lowest_all = record {
    begun = begun_lowest;
    whole = λ k low lacks. renewed.done k low low (lacks_here k low ∙ lacks);
    others = λ k low has. renewed.others k low (inr (lacks_here k low ∙ has));
    entries = λ block apart. (stays block apart).0;
    bytes = λ block apart. (stays block apart).1;
    elsewhere = λ at apart. renewing.elsewhere at
        (λ j few early lacks same. apart j few (sym (lacks_here j few) ∙ lacks) (ap page_of (renewed.begun j few few lacks) ∙ same));
    room = λ k low has. renewed.undone k low (inr (lacks_here k low ∙ has));
  }

  -- the room of a zone never falls
  risen : (zone : ℕ) → room_in append maps.current zone ≤ room_in append' now zone
  risen zone = by_zone (is_handed_out zone) refl where
    by_place : (j : ℕ) → j < 4 → TREE_ZONE + j ≡ zone → (b : Bool) → lacks_at lack j ≡ b → room_in append maps.current zone ≤ room_in append' now zone
    by_place j low place true lacks =
        let whole : room_in append' now zone ≡ BIGBLOCK_BYTES = ap (room_in append' now) (sym place) ∙ renewed.done j low low lacks in
        omega (arith, whole, room_most append maps.current zone)
    by_place j low place false has =
        let same : room_in append' now zone ≡ room_in append maps.current zone =
        ap (room_in append' now) (sym place) ∙ renewed.undone j low (inr has) ∙ ap (room_in append maps.current) place in
        omega (arith, same)

    by_zone : (b : Bool) → is_handed_out zone ≡ b → room_in append maps.current zone ≤ room_in append' now zone
    by_zone true is =
        let range = is_handed zone is in
        by_place (zone - TREE_ZONE) (omega (arith, range)) (omega (arith, range)) (lacks_at lack (zone - TREE_ZONE)) refl
    by_zone false is =
        let none : room_in append maps.current zone ≡ 0 =
        ap (λ (b : Bool). cond b (BIGBLOCK_BYTES - (entry_of maps.current (append_of append zone)).append_off) 0) is in
        omega (arith, none)

  pub admitted_some : IsAdmitted bigblocks zones held append append' maps now
  admitted_some = record {
    pages = renewing.pages;
    admits = admits_all;
    lowest = lowest_all;
    room = risen;
    distinct = renewed.distinct;
    pool = renewed.pool;
    stand = renewed.stand;
  }

-- the same where pages are told
pub told_some : (bigblocks : ℕ) (zones : Zones) (held : ℕ) (append append' : List ℕ) (c f old new : Option PageMap) (lack : List Bool) (wanted : ℕ)
    (found : Found)
    → bigblocks ≤ MOST_BIGBLOCKS → IfSome old (λ map. lack ≡ which_lack zones (room_in append map)) → wanted ≡ min (lacking_count lack + held) (2 ^ 32 - 1)
    → lacking_count lack ≤ 4
    → wanted ≤ found.count → WhereTold c f old (λ maps. Finds (is_free_by append maps) wanted (pool bigblocks) found)
    → BothTell old new (Renewing lack found.first 4 (lacking_count lack) append append') → Moves c f old new (IsAdmitted bigblocks zones held append append')
told_some bigblocks zones held append append' None f old new lack wanted found few is sized four enough finds renewing = tt
told_some bigblocks zones held append append' (Some c) None old new lack wanted found few is sized four enough finds renewing = tt
told_some bigblocks zones held append append' (Some c) (Some f) None new lack wanted found few is sized four enough finds renewing = tt
told_some bigblocks zones held append append' (Some c) (Some f) (Some old) None lack wanted found few is sized four enough finds renewing = renewing
told_some bigblocks zones held append append' (Some c) (Some f) (Some old) (Some new) lack wanted found few is sized four enough finds renewing =
    admitted_some bigblocks zones held append append' (record { committed = c; frozen = f; current = old }) new lack wanted found few is sized four
    enough finds renewing

pub told_none : (bigblocks : ℕ) (zones : Zones) (held : ℕ) (append : List ℕ) (c f old new : Option PageMap) (lack : List Bool) → new ≡ old
    → IfSome old (λ map. lack ≡ which_lack zones (room_in append map)) → lacking_count lack ≡ 0
    → Moves c f old new (IsAdmitted bigblocks zones held append append)
told_none bigblocks zones held append c f old new lack same is none = rw same (by_told c f old is) where
  by_told : (c f o : Option PageMap) → IfSome o (λ map. lack ≡ which_lack zones (room_in append map))
      → Moves c f o o (IsAdmitted bigblocks zones held append append)
  by_told None f o is = tt
  by_told (Some c) None o is = tt
  by_told (Some c) (Some f) None is = tt
  by_told (Some c) (Some f) (Some map) is =
      admitted_none bigblocks zones held append (record { committed = c; frozen = f; current = map }) (ap lacking_count (sym is) ∙ none)
