-- What no call of a space touches of its disk, nor unsettles: all before the pool, and what the committed and the frozen tree refer to.
use Rattle.std.proofs.Common.{◌≡◌, Bool, true, false, true≢false, ℕ, ◌+◌, ◌*◌, ◌<◌, ◌≤◌, List, Option, Some, None, refl, sym, ap, subst, ◌∙◌}
use Rattle.std.proofs.Common.{arith, cond, is_some, length, nat_lt, slice_index, slice_range}
use Rattle.std.specs.Prelude.{option_map, ◌&&◌, ◌||◌, ◌++◌}
use Rattle.std.specs.List.{All, Contains, list_any}
use Rattle.std.proofs.lemmas.Bool.{le-leb, lt-ltb}
use Rattle.std.proofs.lemmas.List.Elements.{All-contains, All-contains_itself}
use Rattle.std.proofs.lemmas.List.Folds.{list_any_at}
use Rattle.hm_types.specs.Layout.{blocks_per_layer2, first_pool, first_undo, layer2_blocks, start_of}
use Rattle.hm_types.specs.Offset.{byte_of}
use Rattle.hm_types.specs.References.{Reference, begin_of}
use Rattle.hm_types.specs.declared.limits.TheConstants.{PAGE_BYTES}
use Rattle.hm_disk.specs.Crash.{Told, is_outside}
use Rattle.hm_fields.specs.Pages.{PageMap}
use Rattle.hm_header.specs.Change.{HaveSameSlots}
use Rattle.hm_header.specs.OnDisk.{HasHeader, first_slot, second_slot}
use Rattle.hm_header.specs.Slots.{IsChosen}
use Rattle.hm_header.specs.declared.header.Header.{Header}
use Rattle.hm_header.specs.declared.header.TheConstants.{SLOT_BYTES}
use Rattle.hm_freemap.specs.Places.{page_of}
use Rattle.hm_freemap.specs.Stand.{all_of}
use Rattle.hm_freemap.proofs.ListLemmas.{all_left, all_right}
use Rattle.hm_image.proofs.PartLemmas.{part_same}
use Rattle.hm_stored.specs.Basis.{refers, states_of}
use Rattle.hm_stored.specs.Fixed.{does_name, fixed_with, is_fixed, refs_with}
use Rattle.hm_stored.specs.Heap.{Frame, Heap, basis_with, begun_content, content_with, frame_of, refs_begun}
use Rattle.hm_stored.proofs.BasisLemmas.{bases_same}

-- where the fixed bytes are the same, each of them is, and is settled where it was
abbrev value_in : Option (ℕ → Option (ℕ × Bool)) → ℕ → Option (ℕ × Bool)
value_in None byte = None
value_in (Some f) byte = f byte

abbrev byte_in : Told → ℕ → ℕ × Bool
byte_in t byte = (slice_index t.bytes byte, is_outside t.unsettled byte)

fixed_bytes : (bigblocks : ℕ) (known : Bool) (refs : List Reference) (s t : Told)
    → fixed_with bigblocks known refs (Some t) ≡ fixed_with bigblocks known refs (Some s) → (byte : ℕ)
    → is_fixed bigblocks known refs byte ≡ true → byte_in t byte ≡ byte_in s byte
unfolding fixed_with
fixed_bytes bigblocks known refs s t same byte fixed =
    by_test (is_fixed bigblocks known refs byte) fixed (ap (λ o. value_in o byte) same) where
      by_test : (b : Bool) → b ≡ true → cond b (Some (byte_in t byte)) None ≡ cond b (Some (byte_in s byte)) None → byte_in t byte ≡ byte_in s byte
      by_test true is got = cc
      by_test false is got = absurd (true≢false (sym is))

-- a byte before the pool is fixed
pub low_fixed : (bigblocks : ℕ) (known : Bool) (refs : List Reference) (byte : ℕ) → byte < start_of (first_pool bigblocks)
    → is_fixed bigblocks known refs byte ≡ true
low_fixed bigblocks known refs byte low =
    ap (λ (t : Bool). t || (known && list_any (does_name byte) refs)) (lt-ltb byte (start_of (first_pool bigblocks)) low)

-- so is one that a reference names, where they count
pub named_fixed : (bigblocks : ℕ) (known : Bool) (refs : List Reference) (r : Reference) (byte : ℕ) → known ≡ true → Contains refs r → begin_of r ≤ byte
    → byte < begin_of r + r.len → is_fixed bigblocks known refs byte ≡ true
named_fixed bigblocks known refs r byte is there from to = by_low (nat_lt byte (start_of (first_pool bigblocks))) where
  named : does_name byte r ≡ true
  named = ap (λ (t : Bool). t && nat_lt byte (begin_of r + r.len)) (le-leb (begin_of r) byte from) ∙ lt-ltb byte (begin_of r + r.len) to

  any : list_any (does_name byte) refs ≡ true
  any = list_any_at (does_name byte) refs there.0 r there.1 (ap (does_name byte) there.2 ∙ named)

  by_low : (low : Bool) → (low || (known && list_any (does_name byte) refs)) ≡ true
  by_low true = refl
  by_low false = ap (λ (t : Bool). t && list_any (does_name byte) refs) is ∙ any

-- the page with the entry of a big-block lies before the pool
pub page_low : (bigblocks block : ℕ) → block < layer2_blocks bigblocks * blocks_per_layer2
    → byte_of (page_of block) + PAGE_BYTES ≤ start_of (first_undo bigblocks)
unfolding page_of
page_low bigblocks block few = omega (arith, few)

-- Two spaces have one frame, and the disks of both tell.
module _ (old new : Heap) (same : frame_of new ≡ frame_of old) where
  abbrev pub known : Bool
  known = is_some (begun_content old)

  -- what all three trees referred to as the call began
  abbrev pub refs : List Reference
  refs = refs_begun old

  -- what the committed one does
  abbrev committed_refs : List Reference
  committed_refs = refers old.pages.committed old.roots.committed

  bigblocks_same : new.bigblocks ≡ old.bigblocks
  bigblocks_same = ap (λ (f : Frame). f.bigblocks) same

  refs_same : refs_begun new ≡ refs
  refs_same = ap refs_with (bases_same old new (record {
    pages = ap (λ (f : Frame). f.pages) same;
    bigblocks = bigblocks_same;
    begun = ap (λ (f : Frame). f.begun) same;
    roots = ap (λ (f : Frame). f.roots) same;
    last = ap (λ (f : Frame). f.last) same;
  }))

  fixed_same : fixed_with old.bigblocks known refs new.disk ≡ fixed_with old.bigblocks known refs old.disk
  fixed_same =
      sym (by_parts new.bigblocks (is_some (begun_content new)) (refs_begun new) bigblocks_same (ap (λ (f : Frame). is_some f.content) same) refs_same)
      ∙ ap (λ (f : Frame). f.fixed) same where
        by_parts : (n : ℕ) (k : Bool) (r : List Reference) → n ≡ old.bigblocks → k ≡ known → r ≡ refs
            → fixed_with n k r new.disk ≡ fixed_with old.bigblocks known refs new.disk
        by_parts n k r first second third = rw (first, second, third) refl

  -- what the frozen one does
  abbrev frozen_refs : List Reference
  frozen_refs = refers old.pages.frozen old.roots.frozen

  -- what either tree refers to is among all, where it is known
  both_among : known ≡ true → All (Contains refs) (frozen_refs ++ committed_refs)
  both_among told = by_begin old.pages.begin told where
    by_begin : (o : Option PageMap) → is_some (content_with old.last (option_map (basis_with old) o) old.disk) ≡ true
        → All (Contains (refs_with (option_map (basis_with old) o))) (frozen_refs ++ committed_refs)
    by_begin None is = absurd (true≢false (sym is))
    by_begin (Some begin) is =
        let states = states_of (basis_with old begin) in
        all_right (Contains (all_of states)) states.current (states.frozen ++ states.committed) (All-contains_itself (all_of states))

  pub committed_among : known ≡ true → (r : Reference) → Contains committed_refs r → Contains refs r
  committed_among told r there =
      All-contains (Contains refs) committed_refs r (all_right (Contains refs) frozen_refs committed_refs (both_among told)) there

  pub frozen_among : known ≡ true → (r : Reference) → Contains frozen_refs r → Contains refs r
  frozen_among told r there =
      All-contains (Contains refs) frozen_refs r (all_left (Contains refs) frozen_refs committed_refs (both_among told)) there

  module _ (s t : Told) (was : old.disk ≡ Some s) (is : new.disk ≡ Some t) where
    value_same : (byte : ℕ) → is_fixed old.bigblocks known refs byte ≡ true → byte_in t byte ≡ byte_in s byte
    value_same =
        let of_disk : Option Told → Option (ℕ → Option (ℕ × Bool)) = fixed_with old.bigblocks known refs in
        fixed_bytes old.bigblocks known refs s t (ap of_disk (sym is) ∙ fixed_same ∙ ap of_disk was)

    pub byte_same : (byte : ℕ) → is_fixed old.bigblocks known refs byte ≡ true → slice_index t.bytes byte ≡ slice_index s.bytes byte
    byte_same byte fixed = ap (λ (v : ℕ × Bool). v.0) (value_same byte fixed)

    pub settled_same : (byte : ℕ) → is_fixed old.bigblocks known refs byte ≡ true → is_outside t.unsettled byte ≡ is_outside s.unsettled byte
    settled_same byte fixed = ap (λ (v : ℕ × Bool). v.1) (value_same byte fixed)

    pub size_same : length t.bytes ≡ length s.bytes
    size_same =
        let sizes : Some (length t.bytes) ≡ Some (length s.bytes) =
        ap (option_map (λ (d : Told). length d.bytes)) (sym is) ∙ ap (λ (f : Frame). f.size) same ∙ ap (option_map (λ (d : Told). length d.bytes)) was in
        cc

    low_same : (byte : ℕ) → byte < start_of (first_pool old.bigblocks) → slice_index t.bytes byte ≡ slice_index s.bytes byte
    low_same byte low = byte_same byte (low_fixed old.bigblocks known refs byte low)

    range_same : (from to : ℕ) → to ≤ start_of (first_pool old.bigblocks) → slice_range t.bytes from to ≡ slice_range s.bytes from to
    range_same from to low = part_same s.bytes t.bytes from to size_same (λ byte after before. low_same byte (omega (arith, low, before)))

    first_same : first_slot t.bytes ≡ first_slot s.bytes
    first_same = range_same 0 SLOT_BYTES (omega arith)

    second_same : second_slot t.bytes ≡ second_slot s.bytes
    second_same = range_same SLOT_BYTES (2 * SLOT_BYTES) (omega arith)

    pub header_stays : (header : Header) (slot : ℕ) → HasHeader s.bytes header slot → HasHeader t.bytes header slot
    header_stays header slot counts =
        let First : List ℕ → Type 0 = λ xs. IsChosen xs (second_slot t.bytes) (length t.bytes) header slot in
        let Second : List ℕ → Type 0 = λ xs. IsChosen (first_slot s.bytes) xs (length t.bytes) header slot in
        let Size : ℕ → Type 0 = λ n. IsChosen (first_slot s.bytes) (second_slot s.bytes) n header slot in
        subst First (sym first_same) (subst Second (sym second_same) (subst Size (sym size_same) counts))

    -- both slots are the same, whatever is known
    pub slots_same : HaveSameSlots s t
    slots_same = record {
      size = size_same;
      bytes = λ byte low. low_same byte (omega (arith, low));
      settled = λ byte low. settled_same byte (low_fixed old.bigblocks known refs byte (omega (arith, low)));
    }
