-- Which offsets were changed, and where they stand.
use Rattle.std.proofs.Common.{◌≡◌, ◌⊎◌, Bool, true, false, true≢false, ℕ, inl, inr, ⊎_elim, List, [], Option, Some, None, Result, Ok, Err}
use Rattle.std.proofs.Common.{refl, sym, ap, subst, ◌∙◌, arith, cond, is_some, length, nat_eq, eqb-true}
use Rattle.std.specs.Prelude.{◌≤◌, ◌<◌, ◌&&◌, ◌%◌, OnErr, OnOk, not, slice_index}
use Rattle.std.specs.Option.{MatchOption}
use Rattle.std.proofs.lemmas.Bool.{ne_eqb}
use native.Mathlib.Decide.{ℕ_discrete, dec_le, dec_lt, map_dec}
use Rattle.hm_types.specs.Layout.{block_of, first_layer2, first_pool, first_undo}
use Rattle.hm_types.specs.Offset.{byte_of, volume_of, zone_of}
use Rattle.hm_types.specs.declared.limits.TheConstants.{MOST_BIGBLOCKS, PAGE_BYTES}
use Rattle.hm_types.specs.declared.zone.TheConstants.{FREEMAP_ZONE, TREE_ZONE}
use Rattle.hm_types.specs.declared.fault.Fault.{Fault}
use Rattle.hm_fields.specs.Pages.{PageMap}
use Rattle.hm_header.specs.Range.{IsRoot}
use Rattle.hm_undo.specs.Entry.{IsUndoPageOf}
use Rattle.hm_freemap.specs.Places.{IsPageOf, page_of}
use Rattle.hm_node.specs.Inner.{IsNodeOffset}
use Rattle.hm_pages.specs.Calls.{IsChanged}
use Rattle.hm_pages.specs.Maps.{set_at}
use Rattle.hm_pages.specs.Sets.{ChangeSet, HasChanged, in_freemap, no_set}
use Rattle.hm_pages.specs.Store.{Store}
use Rattle.hm_stored.specs.Decide.{dec_and, dec_or}
use Rattle.hm_stored.specs.Held.{AreOnlyOf, ArePlaced}
use Rattle.hm_stored.specs.Nodes.{AddsPlaces, MovesNodes, Spots, beside_freemap, spots}

pub and_left : (a b : Bool) → (a && b) ≡ true → a ≡ true
and_left true b is = refl
and_left false b is = is

pub and_right : (a b : Bool) → (a && b) ≡ true → b ≡ true
and_right true b is = is
and_right false b is = absurd (cc)

-- ---- where pages may stand

-- a page of layer 2 is one that an entry of the log may name, and so is one where the tree may have a page
block_place : (bigblocks block : ℕ) → bigblocks ≤ MOST_BIGBLOCKS → block < bigblocks → IsUndoPageOf bigblocks (page_of block)
unfolding page_of
block_place bigblocks block few below = record {
  volume = omega (arith, below, few);
  page = omega (arith, below, few);
  zone = inr (omega (arith, below, few), (omega (arith, below, few), omega (arith, below, few)));
}

layer_place : (bigblocks at : ℕ) → bigblocks ≤ MOST_BIGBLOCKS → IsPageOf bigblocks at → IsUndoPageOf bigblocks at
layer_place bigblocks at few page = subst (IsUndoPageOf bigblocks) (sym page.2) (block_place bigblocks page.0 few page.1)

tree_place : (bigblocks at : ℕ) → IsRoot bigblocks at → IsUndoPageOf bigblocks at
tree_place bigblocks at root = record { volume = root.volume; page = root.page; zone = inl (root.zone, root.pool) }

-- a node may stand there
pub node_place : (bigblocks at : ℕ) → IsRoot bigblocks at → IsNodeOffset at
node_place bigblocks at root =
    let zone = root.zone in
    record { offset = (inr (inl (omega (arith, zone), omega (arith, zone))), root.volume); zone = zone; aligned = root.page }

-- ---- what a change leaves

module _ (at : ℕ) (page : List ℕ) (old new : Store) (there : is_some (old.current at) ≡ true) (layer : in_freemap at ≡ true)
    (change : IsChanged at (Some page) old new) where
  spot_same : (other : ℕ) → is_some (new.current other) ≡ is_some (old.current other)
  spot_same other = ap (λ (m : PageMap). is_some (m other)) change.current ∙ by_here (nat_eq other at) refl where
    by_here : (t : Bool) → nat_eq other at ≡ t → is_some (cond t (Some page) (old.current other)) ≡ is_some (old.current other)
    by_here true is = sym (ap (λ (n : ℕ). is_some (old.current n)) (eqb-true other at is) ∙ there)
    by_here false is = refl

  same_there : (set set' : ChangeSet) (other : ℕ) → set'.changed other ≡ set.changed other
      → beside_freemap new.current set' other ≡ beside_freemap old.current set other
  same_there set set' other is =
      ap (λ (t : Bool). t && not (in_freemap other && is_some (new.current other))) is
      ∙ ap (λ (t : Bool). set.changed other && not (in_freemap other && t)) (spot_same other)

  no_spot : (set : ChangeSet) (pages : PageMap) (other : ℕ) → nat_eq other at ≡ true → is_some (pages other) ≡ true
      → beside_freemap pages set other ≡ false
  no_spot set pages other is stands = rw (ap in_freemap (eqb-true other at is) ∙ layer, stands) (none (set.changed other)) where
    none : (t : Bool) → (t && false) ≡ false
    none true = refl
    none false = refl

  put_set : (set set' : ChangeSet) → set'.changed ≡ set_at at true set.changed → (other : ℕ)
      → beside_freemap new.current set' other ≡ beside_freemap old.current set other
  put_set set set' is other = by_here (nat_eq other at) refl where
    by_here : (t : Bool) → nat_eq other at ≡ t → beside_freemap new.current set' other ≡ beside_freemap old.current set other
    by_here true here =
        let stood : is_some (old.current other) ≡ true = ap (λ (n : ℕ). is_some (old.current n)) (eqb-true other at here) ∙ there in
        no_spot set' new.current other here (spot_same other ∙ stood) ∙ sym (no_spot set old.current other here stood)
    by_here false apart =
        same_there set set' other (ap (λ (f : ℕ → Bool). f other) is ∙ ap (λ (t : Bool). cond t true (set.changed other)) apart)

  put_sets : (o : Option PageMap)
      → MatchOption o (HasChanged at (old.current at) (Some page) old.group new.group × (new.call ≡ old.call))
      (λ _. HasChanged at (old.current at) (Some page) old.call new.call × (new.group ≡ old.group))
      → ((other : ℕ) → beside_freemap new.current new.call other ≡ beside_freemap old.current old.call other)
      × ((other : ℕ) → beside_freemap new.current new.group other ≡ beside_freemap old.current old.group other)
  put_sets None is = (
    λ other. same_there old.call new.call other (ap (λ (s : ChangeSet). s.changed other) is.1),
    put_set old.group new.group is.0.changed,
  )
  put_sets (Some begin) is = (
    put_set old.call new.call is.0.changed,
    λ other. same_there old.group new.group other (ap (λ (s : ChangeSet). s.changed other) is.1),
  )

  -- a page of the freemap that is put in place of another leaves them
  pub put_spots : spots new ≡ spots old
  put_spots i =
      let sets = put_sets old.begin change.sets in
      record { there = λ other. spot_same other i; call = λ other. sets.0 other i; group = λ other. sets.1 other i }

-- so does one that was not put
pub tried_spots : (at : ℕ) (page : List ℕ) (old new : Store) (result : Result (Unit {0}) Fault) → is_some (old.current at) ≡ true
    → in_freemap at ≡ true → OnOk result (IsChanged at (Some page) old new) → OnErr result (new ≡ old) → spots new ≡ spots old
tried_spots at page old new (Ok done) there layer ok err = put_spots at page old new there layer ok
tried_spots at page old new (Err fault) there layer ok err = ap spots err

module _ (bigblocks at : ℕ) (page : Option (List ℕ)) (old new : Store) (place : IsRoot bigblocks at) (change : IsChanged at page old new) where
  away : (other : ℕ) → nat_eq other at ≡ false → is_some (new.current other) ≡ is_some (old.current other)
  away other apart =
      ap (λ (m : PageMap). is_some (m other)) change.current ∙ ap (λ (t : Bool). is_some (cond t page (old.current other))) apart

  moved_set : (set set' : ChangeSet) → ((other : ℕ) → nat_eq other at ≡ false → set'.changed other ≡ set.changed other)
      → AddsPlaces bigblocks (beside_freemap old.current set) (beside_freemap new.current set')
  moved_set set set' same other changed = by_here (nat_eq other at) refl where
    by_here : (t : Bool) → nat_eq other at ≡ t → (beside_freemap old.current set other ≡ true) ⊎ IsRoot bigblocks other
    by_here true is = inr (subst (IsRoot bigblocks) (sym (eqb-true other at is)) place)
    by_here false apart = inl (sym (
        ap (λ (t : Bool). t && not (in_freemap other && is_some (new.current other))) (same other apart)
        ∙ ap (λ (t : Bool). set.changed other && not (in_freemap other && t)) (away other apart)) ∙ changed)

  more : (set set' : ChangeSet) → set'.changed ≡ set_at at true set.changed → (other : ℕ) → nat_eq other at ≡ false
      → set'.changed other ≡ set.changed other
  more set set' is other apart = ap (λ (f : ℕ → Bool). f other) is ∙ ap (λ (t : Bool). cond t true (set.changed other)) apart

  moved_sets : (o : Option PageMap)
      → MatchOption o (HasChanged at (old.current at) page old.group new.group × (new.call ≡ old.call))
      (λ _. HasChanged at (old.current at) page old.call new.call × (new.group ≡ old.group))
      → AddsPlaces bigblocks (spots old).call (spots new).call × AddsPlaces bigblocks (spots old).group (spots new).group
  moved_sets None is = (
    moved_set old.call new.call (λ other apart. ap (λ (s : ChangeSet). s.changed other) is.1),
    moved_set old.group new.group (more old.group new.group is.0.changed),
  )
  moved_sets (Some begin) is = (
    moved_set old.call new.call (more old.call new.call is.0.changed),
    moved_set old.group new.group (λ other apart. ap (λ (s : ChangeSet). s.changed other) is.1),
  )

  -- a page of the tree came or went where one may stand
  pub node_moves : MovesNodes bigblocks (spots old) (spots new)
  node_moves =
      let sets = moved_sets old.begin change.sets in
      record {
        there = λ other beside. away other (ne_eqb other at (λ (same : other ≡ at). beside (ap zone_of same ∙ place.zone)));
        call = sets.0;
        group = sets.1;
      }

pub none_moves : (bigblocks : ℕ) (s t : Spots) → t ≡ s → MovesNodes bigblocks s t
none_moves bigblocks s t same = subst (MovesNodes bigblocks s) (sym same) (record {
  there = λ at beside. refl;
  call = λ at changed. inl changed;
  group = λ at changed. inl changed;
})

-- ---- what changed stands where it may

-- each frozen page does, where those before do
pub frozen_kept : (bigblocks : ℕ) (old new : List ℕ) → new ≡ old → ((i : ℕ) → i < length old → IsUndoPageOf bigblocks (slice_index old i))
    → (i : ℕ) → i < length new → IsUndoPageOf bigblocks (slice_index new i)
frozen_kept bigblocks old new same = subst (λ (places : List ℕ). (i : ℕ) → i < length places → IsUndoPageOf bigblocks (slice_index places i)) (sym same)

-- of a set in which nothing is changed, all that is
pub none_changed : (bigblocks : ℕ) (set : ChangeSet) → set ≡ no_set → (at : ℕ) → set.changed at ≡ true → IsUndoPageOf bigblocks at
none_changed bigblocks set none at changed = absurd (true≢false (sym changed ∙ ap (λ (s : ChangeSet). s.changed at) none))

-- where nothing was changed and nothing is frozen, all that is does
pub none_placed : (bigblocks : ℕ) (s : Store) → s.call ≡ no_set → s.group ≡ no_set → s.frozen_group ≡ [] → ArePlaced bigblocks s
none_placed bigblocks s call group frozen = record {
  call = none_changed bigblocks s.call call;
  group = none_changed bigblocks s.group group;
  frozen = frozen_kept bigblocks [] s.frozen_group frozen (λ i low. absurd (omega (arith, low)));
}

module _ (bigblocks : ℕ) (few : bigblocks ≤ MOST_BIGBLOCKS) (old new : Store) (only : AreOnlyOf bigblocks old.current)
    (moves : MovesNodes bigblocks (spots old) (spots new)) where
  set_placed : (set set' : ChangeSet) → AddsPlaces bigblocks (beside_freemap old.current set) (beside_freemap new.current set')
      → ((at : ℕ) → set.changed at ≡ true → IsUndoPageOf bigblocks at) → (at : ℕ) → set'.changed at ≡ true → IsUndoPageOf bigblocks at
  set_placed set set' adds placed at changed = by_layer (in_freemap at && is_some (new.current at)) refl where
    by_layer : (t : Bool) → (in_freemap at && is_some (new.current at)) ≡ t → IsUndoPageOf bigblocks at
    by_layer true is =
        let zone : zone_of at ≡ FREEMAP_ZONE = eqb-true (zone_of at) FREEMAP_ZONE (and_left (in_freemap at) (is_some (new.current at)) is) in
        let stood : is_some (old.current at) ≡ true =
        sym (moves.there at (λ tree. absurd (omega (arith, zone, tree)))) ∙ and_right (in_freemap at) (is_some (new.current at)) is in
        ⊎_elim (λ tree. absurd (omega (arith, zone, tree))) (layer_place bigblocks at few) (only at stood)
    by_layer false is = ⊎_elim
        (λ was. placed at (and_left (set.changed at) (not (in_freemap at && is_some (old.current at))) was))
        (tree_place bigblocks at)
        (adds at (ap (λ (t : Bool). t && not (in_freemap at && is_some (new.current at))) changed ∙ ap not is))

  pub placed_kept : new.frozen_group ≡ old.frozen_group → ArePlaced bigblocks old → ArePlaced bigblocks new
  placed_kept frozen placed = record {
    call = set_placed old.call new.call moves.call placed.call;
    group = set_placed old.group new.group moves.group placed.group;
    frozen = frozen_kept bigblocks old.frozen_group new.frozen_group frozen placed.frozen;
  }

-- whether a page may stand somewhere can be decided
pub dec_place : (bigblocks at : ℕ) → Dec (IsUndoPageOf bigblocks at)
dec_place bigblocks at = map_dec
    (λ parts. record { volume = parts.0; page = parts.1.0; zone = parts.1.1 })
    (λ (is : IsUndoPageOf bigblocks at). (is.volume, (is.page, is.zone)))
    (dec_and (ℕ_discrete (volume_of at) 0) (dec_and (ℕ_discrete (byte_of at % PAGE_BYTES) 0) (dec_or
    (dec_and (ℕ_discrete (zone_of at) TREE_ZONE) (dec_and (dec_le (first_pool bigblocks) block) (dec_lt block bigblocks)))
    (dec_and (ℕ_discrete (zone_of at) FREEMAP_ZONE) (dec_and (dec_le first_layer2 block) (dec_lt block (first_undo bigblocks))))))) where
      block : ℕ
      block = block_of (byte_of at)
