-- Whether a freemap stands for references is decided.
use Rattle.std.proofs.Common.{◌≡◌, Bool, ℕ, ◌+◌, ◌-◌, ◌%◌, ◌<◌, ◌≤◌, inl, inr, ◌⊎◌, ⊎_elim, List, [], ◌∷◌, length, slice_index, refl, arith, ◌&&◌}
use Rattle.std.proofs.Common.{◌||◌, nat_eq, nat_lt, nat_le, pos, ◌+ℤ◌}
use Rattle.std.specs.Prelude.{All, count_by}
use Rattle.std.specs.Bool.{Decides}
use Rattle.std.specs.List.{list_all}
use Rattle.std.specs.Ordering.{int_eq}
use Rattle.std.proofs.lemmas.Bool.{cases_lt, leb-true, le-leb}
use Rattle.std.proofs.lemmas.Bool.Decides.{Decides-and, Decides-below_and, Decides-by_and, Decides-eqb, Decides-int_eq, Decides-like, Decides-ltb, Decides-or}
use Rattle.hm_types.specs.Layout.{IsPool, block_of, first_pool, start_of}
use Rattle.hm_types.specs.Offset.{volume_of, zone_of}
use Rattle.hm_types.specs.References.{Reference, References, IsPlaced, NoneOverlap, DoNotOverlap, IsOneExtent, AreFew, begin_of, end_of, is_there}
use Rattle.hm_types.specs.References.{live_bytes, unit_of}
use Rattle.hm_types.specs.Space.{rounded}
use Rattle.hm_types.specs.declared.limits.TheConstants.{BIGBLOCK_BYTES}
use Rattle.hm_types.specs.declared.space.TheConstants.{MOST_REFERENCES}
use Rattle.hm_types.specs.declared.zone.TheConstants.{TREE_ZONE, SMALL_ZONE}
use Rattle.hm_fields.specs.Fields.{get}
use Rattle.hm_fields.specs.Pages.{PageMap}
use Rattle.hm_freemap.specs.Decide.{are_appended, are_few, do_not_overlap, holds_pool_entry, is_below, is_each_below, is_in_pool, is_never_begun}
use Rattle.hm_freemap.specs.Decide.{is_owned, is_placed, is_standing, none_overlap, tells, tells_block}
use Rattle.hm_freemap.specs.Entry.{IsOwned, IsUnused, entry_in}
use Rattle.hm_freemap.specs.Places.{place_of}
use Rattle.hm_freemap.specs.Stand.{Maps, StandBy, AreAppended, HoldsPoolEntry, IsBelow, Tells, TellsBlock, all_of, entry_of, entry_page, home_of}
use Rattle.hm_freemap.specs.declared.entry.Entry.{Entry}
use Rattle.hm_freemap.specs.declared.entry.TheConstants.{UNUSED}

-- tests of two numbers, of each element of a list, and of each number below a bound
pub Decides-leb : (a b : ℕ) → Decides (nat_le a b) (a ≤ b)
Decides-leb a b = (leb-true a b, le-leb a b)

pub Decides-each : {X : Type 0} (p : X → Bool) (P : X → Type 0) → ((x : X) → Decides (p x) (P x)) → (xs : List X) → Decides (list_all p xs) (All P xs)
Decides-each p P each xs = Decides-by_and p P (list_all p) each refl (λ x rest. refl) xs

pub Decides-each_below : (p : ℕ → Bool) (P : ℕ → Type 0) → ((k : ℕ) → Decides (p k) (P k)) → (n : ℕ) → Decides (is_each_below p n) ((k : ℕ) → k < n → P k)
Decides-each_below p P each n = Decides-below_and p P (is_each_below p) each refl (λ m. refl) n

in_pool_decided : (bigblocks block : ℕ) → Decides (is_in_pool bigblocks block) (IsPool bigblocks block)
in_pool_decided bigblocks block =
    Decides-and (nat_le (first_pool bigblocks) block) (nat_lt block bigblocks) (Decides-leb (first_pool bigblocks) block) (Decides-ltb block bigblocks)

owned_decided : (e : Entry) → Decides (is_owned e) (IsOwned e)
owned_decided e =
    let low = nat_le TREE_ZONE e.zone in
    let high = nat_le e.zone SMALL_ZONE in
    let append = nat_le e.append_off BIGBLOCK_BYTES in
    let unit = nat_eq (e.append_off % unit_of e.zone) 0 in
    Decides-like (is_owned e)
    (λ (all : ((TREE_ZONE ≤ e.zone) × (e.zone ≤ SMALL_ZONE)) × ((e.append_off ≤ BIGBLOCK_BYTES) × (e.append_off % unit_of e.zone ≡ 0))).
    record { zone = all.0; append = all.1.0; unit = all.1.1 })
    (λ is. (is.zone, (is.append, is.unit)))
    (Decides-and (low && high) (append && unit)
    (Decides-and low high (Decides-leb TREE_ZONE e.zone) (Decides-leb e.zone SMALL_ZONE))
    (Decides-and append unit (Decides-leb e.append_off BIGBLOCK_BYTES) (Decides-eqb (e.append_off % unit_of e.zone) 0)))

never_begun_decided : (e : Entry) → Decides (is_never_begun e) (IsUnused e)
never_begun_decided e =
    let append = nat_eq e.append_off 0 in
    let free = int_eq e.bytes_free (pos BIGBLOCK_BYTES) in
    Decides-like (is_never_begun e)
    (λ (all : (e.zone ≡ UNUSED) × ((e.append_off ≡ 0) × (e.bytes_free ≡ pos BIGBLOCK_BYTES))). record { zone = all.0; append = all.1.0; free = all.1.1 })
    (λ is. (is.zone, (is.append, is.free)))
    (Decides-and (nat_eq e.zone UNUSED) (append && free) (Decides-eqb e.zone UNUSED)
    (Decides-and append free (Decides-eqb e.append_off 0) (Decides-int_eq e.bytes_free (pos BIGBLOCK_BYTES))))

holds_decided : (page : List ℕ) (block : ℕ) → Decides (holds_pool_entry page block) (HoldsPoolEntry page block)
holds_decided page block =
    let e = entry_in page (place_of block) in
    let after = get page (place_of block + 12) 4 in
    Decides-like (holds_pool_entry page block)
    (λ (all : (IsOwned e ⊎ IsUnused e) × (after ≡ 0)). record { entry = all.0; zero = all.1 })
    (λ holds. (holds.entry, holds.zero))
    (Decides-and (is_owned e || is_never_begun e) (nat_eq after 0)
    (Decides-or (is_owned e) (is_never_begun e) (owned_decided e) (never_begun_decided e))
    (Decides-eqb after 0))

block_decided : (map : PageMap) (refs : List Reference) (block : ℕ) → Decides (tells_block map refs block) (TellsBlock map refs block)
block_decided map refs block =
    let sum = (entry_of map block).bytes_free +ℤ pos (live_bytes refs block) in
    Decides-like (tells_block map refs block)
    (λ (all : HoldsPoolEntry (entry_page map block) block × (sum ≡ pos BIGBLOCK_BYTES)). record { entry = all.0; free = all.1 })
    (λ told. (told.entry, told.free))
    (Decides-and (holds_pool_entry (entry_page map block) block) (int_eq sum (pos BIGBLOCK_BYTES))
    (holds_decided (entry_page map block) block) (Decides-int_eq sum (pos BIGBLOCK_BYTES)))

tells_decided : (bigblocks : ℕ) (map : PageMap) (refs : List Reference) → Decides (tells bigblocks map refs) (Tells bigblocks map refs)
tells_decided bigblocks map refs =
    let first = first_pool bigblocks in
    Decides-like (tells bigblocks map refs)
    (λ (all : (block : ℕ) → block < bigblocks → (block < first) ⊎ TellsBlock map refs block) block pool.
    ⊎_elim (λ (low : block < first). absurd (omega (arith, low, pool))) (λ told. told) (all block pool.1))
    (λ all block high. ⊎_elim (λ (low : block < first). inl low) (λ past. inr (all block (past, high))) (cases_lt block first))
    (Decides-each_below (λ block. nat_lt block first || tells_block map refs block) (λ block. (block < first) ⊎ TellsBlock map refs block)
    (λ block. Decides-or (nat_lt block first) (tells_block map refs block) (Decides-ltb block first) (block_decided map refs block)) bigblocks)

appended_decided : (bigblocks : ℕ) (append : List ℕ) (current : PageMap)
    → Decides (are_appended bigblocks append current) (AreAppended bigblocks append current)
appended_decided bigblocks append current =
    let four = nat_eq (length append) 4 in
    let pool = is_each_below (λ k. is_in_pool bigblocks (slice_index append k)) 4 in
    let zone = is_each_below (λ k. nat_eq (entry_of current (slice_index append k)).zone (TREE_ZONE + k)) 4 in
    Decides-like (are_appended bigblocks append current)
    (λ (all : (length append ≡ 4) × (((k : ℕ) → k < 4 → IsPool bigblocks (slice_index append k))
    × ((k : ℕ) → k < 4 → (entry_of current (slice_index append k)).zone ≡ TREE_ZONE + k))).
    record { four = all.0; pool = all.1.0; zone = all.1.1 })
    (λ are. (are.four, (are.pool, are.zone)))
    (Decides-and four (pool && zone) (Decides-eqb (length append) 4)
    (Decides-and pool zone
    (Decides-each_below (λ k. is_in_pool bigblocks (slice_index append k)) (λ k. IsPool bigblocks (slice_index append k))
    (λ k. in_pool_decided bigblocks (slice_index append k)) 4)
    (Decides-each_below (λ k. nat_eq (entry_of current (slice_index append k)).zone (TREE_ZONE + k))
    (λ k. (entry_of current (slice_index append k)).zone ≡ TREE_ZONE + k)
    (λ k. Decides-eqb (entry_of current (slice_index append k)).zone (TREE_ZONE + k)) 4)))

placed_decided : (bigblocks : ℕ) (r : Reference) → Decides (is_placed bigblocks r) (IsPlaced bigblocks r)
placed_decided bigblocks r =
    let z = zone_of r.at in
    let home = block_of (begin_of r) in
    let last = block_of (end_of r - 1) in
    let low = nat_le TREE_ZONE z in
    let high = nat_le z SMALL_ZONE in
    let unit = nat_eq (begin_of r % unit_of z) 0 in
    let pool = is_in_pool bigblocks home in
    let inside = nat_eq last home in
    Decides-like (is_placed bigblocks r)
    (λ (all : (1 ≤ r.len) × ((volume_of r.at ≡ 0) × (((TREE_ZONE ≤ z) × (z ≤ SMALL_ZONE))
    × ((begin_of r % unit_of z ≡ 0) × (IsPool bigblocks home × (last ≡ home)))))).
    record { some = all.0; volume = all.1.0; zone = all.1.1.0; unit = all.1.1.1.0; pool = all.1.1.1.1.0; inside = all.1.1.1.1.1 })
    (λ is. (is.some, (is.volume, (is.zone, (is.unit, (is.pool, is.inside))))))
    (Decides-and (nat_le 1 r.len) (nat_eq (volume_of r.at) 0 && ((low && high) && (unit && (pool && inside)))) (Decides-leb 1 r.len)
    (Decides-and (nat_eq (volume_of r.at) 0) ((low && high) && (unit && (pool && inside))) (Decides-eqb (volume_of r.at) 0)
    (Decides-and (low && high) (unit && (pool && inside)) (Decides-and low high (Decides-leb TREE_ZONE z) (Decides-leb z SMALL_ZONE))
    (Decides-and unit (pool && inside) (Decides-eqb (begin_of r % unit_of z) 0)
    (Decides-and pool inside (in_pool_decided bigblocks home) (Decides-eqb last home))))))

below_decided : (current : PageMap) (r : Reference) → Decides (is_below current r) (IsBelow current r)
below_decided current r =
    let e = entry_of current (home_of r) in
    let top = start_of (home_of r) + e.append_off in
    Decides-like (is_below current r)
    (λ (all : (e.zone ≡ zone_of r.at) × (end_of r ≤ top)). record { zone = all.0; end = all.1 })
    (λ below. (below.zone, below.end))
    (Decides-and (nat_eq e.zone (zone_of r.at)) (nat_le (end_of r) top) (Decides-eqb e.zone (zone_of r.at)) (Decides-leb (end_of r) top))

one_decided : (r s : Reference) → Decides (nat_eq r.at s.at && nat_eq (rounded r.len) (rounded s.len)) (IsOneExtent r s)
one_decided r s =
    Decides-like (nat_eq r.at s.at && nat_eq (rounded r.len) (rounded s.len))
    (λ (all : (r.at ≡ s.at) × (rounded r.len ≡ rounded s.len)). record { place = all.0; size = all.1 })
    (λ one. (one.place, one.size))
    (Decides-and (nat_eq r.at s.at) (nat_eq (rounded r.len) (rounded s.len)) (Decides-eqb r.at s.at) (Decides-eqb (rounded r.len) (rounded s.len)))

overlap_decided : (r s : Reference) → Decides (do_not_overlap r s) (DoNotOverlap r s)
overlap_decided r s =
    let before = nat_le (end_of r) (begin_of s) in
    let after = nat_le (end_of s) (begin_of r) in
    Decides-or (nat_eq r.at s.at && nat_eq (rounded r.len) (rounded s.len)) (before || after) (one_decided r s)
    (Decides-or before after (Decides-leb (end_of r) (begin_of s)) (Decides-leb (end_of s) (begin_of r)))

apart_decided : (rs : List Reference) → Decides (none_overlap rs) (NoneOverlap rs)
apart_decided [] = (λ is. tt, λ apart. refl)
apart_decided (r ∷ rs) =
    Decides-and (list_all (do_not_overlap r) rs) (none_overlap rs) (Decides-each (do_not_overlap r) (DoNotOverlap r) (overlap_decided r) rs) (apart_decided rs)

few_decided : (rs : List Reference) → Decides (are_few rs) (AreFew rs)
few_decided rs =
    Decides-each (λ r. nat_le (count_by (is_there r) rs) MOST_REFERENCES) (λ r. count_by (is_there r) rs ≤ MOST_REFERENCES)
    (λ r. Decides-leb (count_by (is_there r) rs) MOST_REFERENCES) rs

-- whether three states have few references to each extent
abbrev AllFew : References → Type 0
AllFew states = AreFew states.committed × AreFew states.frozen × AreFew states.current

all_few_decided : (states : References) → Decides (are_few states.committed && (are_few states.frozen && are_few states.current)) (AllFew states)
all_few_decided states =
    let rest = are_few states.frozen && are_few states.current in
    Decides-like (are_few states.committed && rest)
    (λ (all : AreFew states.committed × (AreFew states.frozen × AreFew states.current)). (all.0, all.1.0, all.1.1))
    (λ few. (few.0, (few.1, few.2)))
    (Decides-and (are_few states.committed) rest (few_decided states.committed)
    (Decides-and (are_few states.frozen) (are_few states.current) (few_decided states.frozen) (few_decided states.current)))

-- the parts of what a freemap stands for
abbrev Parts : ℕ → List ℕ → Maps → References → Type 0
Parts bigblocks append maps states =
    (Tells bigblocks maps.committed states.committed × (Tells bigblocks maps.frozen states.frozen × Tells bigblocks maps.current states.current))
    × (AreAppended bigblocks append maps.current × ((All (IsPlaced bigblocks) (all_of states) × All (IsBelow maps.current) (all_of states))
    × (NoneOverlap (all_of states) × AllFew states)))

pub standing_decided : (bigblocks : ℕ) (append : List ℕ) (maps : Maps) (states : References)
    → Decides (is_standing bigblocks append maps states) (StandBy bigblocks append maps states)
unfolding is_standing
standing_decided bigblocks append maps states =
    let all = all_of states in
    let c = tells bigblocks maps.committed states.committed in
    let f = tells bigblocks maps.frozen states.frozen in
    let u = tells bigblocks maps.current states.current in
    let append_test = are_appended bigblocks append maps.current in
    let placed = list_all (is_placed bigblocks) all in
    let below = list_all (is_below maps.current) all in
    let apart = none_overlap all in
    let few = are_few states.committed && (are_few states.frozen && are_few states.current) in
    Decides-like (is_standing bigblocks append maps states)
    (λ (parts : Parts bigblocks append maps states). record {
      committed = parts.0.0;
      frozen = parts.0.1.0;
      current = parts.0.1.1;
      appended = parts.1.0;
      placed = parts.1.1.0.0;
      below = parts.1.1.0.1;
      apart = parts.1.1.1.0;
      few = parts.1.1.1.1;
    })
    (λ stand. ((stand.committed, (stand.frozen, stand.current)), (stand.appended, ((stand.placed, stand.below), (stand.apart, stand.few)))))
    (Decides-and (c && (f && u)) (append_test && ((placed && below) && (apart && few)))
    (Decides-and c (f && u) (tells_decided bigblocks maps.committed states.committed)
    (Decides-and f u (tells_decided bigblocks maps.frozen states.frozen) (tells_decided bigblocks maps.current states.current)))
    (Decides-and append_test ((placed && below) && (apart && few)) (appended_decided bigblocks append maps.current)
    (Decides-and (placed && below) (apart && few)
    (Decides-and placed below (Decides-each (is_placed bigblocks) (IsPlaced bigblocks) (placed_decided bigblocks) all)
    (Decides-each (is_below maps.current) (IsBelow maps.current) (below_decided maps.current) all))
    (Decides-and apart few (apart_decided all) (all_few_decided states)))))
