-- The entries of layer 2 of a sound image, as they are read.
use Rattle.std.proofs.Common.{◌≡◌, ℕ, zero, suc, ◌+◌, ◌-◌, ◌*◌, ◌^◌, ◌<◌, ◌≤◌, List, drop, inl, inr, refl, ap, sym, subst, ◌∙◌, arith}
use Rattle.std.proofs.Common.{get_or-drop, slice_index, slice_range, Some, pos, length}
use Rattle.std.specs.Int.{w32, cast_signed}
use Rattle.byteorder.specs.Endian.{little_from}
use Rattle.byteorder.specs.Numbers.{little_from-take}
use Rattle.hm_types.specs.Layout.{blocks_per_layer2, layer2_blocks}
use Rattle.hm_fields.specs.Fields.{get}
use Rattle.hm_freemap.specs.Entry.{IsEntry, IsEntryOf, IsPoolEntry, IsReservedZone, SpellsEntry, entry_bytes, entry_in}
use Rattle.hm_freemap.specs.Places.{page_of, place_of}
use Rattle.hm_freemap.specs.declared.entry.Entry.{Entry}
use Rattle.hm_header.specs.declared.header.Header.{Header}
use Rattle.hm_image.specs.Image.{pages_of}
use Rattle.hm_image.specs.Sound.{HasLayer2}
use Rattle.hm_load.specs.Freemap.{HoldsEntries, layer2_bytes, layer2_page, layer2_pages}
use Rattle.hm_load.proofs.ImageLemmas.{page_of_image}
use Rattle.hm_load.proofs.LayerToldLemmas.{layer_read}

-- a number in the rest of a list, and in a part of it
from_drop : (at i n : ℕ) (xs : List ℕ) → little_from i n (drop at xs) ≡ little_from (at + i) n xs
from_drop at i zero xs = refl
from_drop at i (suc n) xs =
    let byte : slice_index (drop at xs) i ≡ slice_index xs (at + i) = get_or-drop at xs i 0 in
    let rest : little_from (suc i) n (drop at xs) ≡ little_from (suc (at + i)) n xs = from_drop at (suc i) n xs ∙ ap (λ (j : ℕ). little_from j n xs)
    (omega arith) in
    rw (byte, rest) refl

field_of : (page part : List ℕ) (at size i n : ℕ) → slice_range page at (at + size) ≡ part → i + n ≤ size → get page (at + i) n ≡ get part i n
unfolding get
field_of page part at size i n is fits =
    sym (little_from-take i n (at + size - at) (drop at page) (omega arith) ∙ from_drop at i n page) ∙ ap (λ (xs : List ℕ). little_from i n xs) is

-- the fields that the bytes of an entry make
zone_of_bytes : (e : Entry) → e.zone < 256 → get (entry_bytes e) 0 4 ≡ e.zone
unfolding get entry_bytes
zone_of_bytes e small = omega arith

append_of_bytes : (e : Entry) → e.append_off < 2 ^ 32 → get (entry_bytes e) 4 4 ≡ e.append_off
unfolding get entry_bytes
append_of_bytes e small = omega arith

zero_of_bytes : (e : Entry) → get (entry_bytes e) 12 4 ≡ 0
unfolding get entry_bytes
zero_of_bytes e = refl

whole_of_bytes : (zone append : ℕ) → get (entry_bytes (record { zone = zone; append_off = append; bytes_free = pos 8388608 })) 8 4 ≡ 8388608
unfolding get entry_bytes
whole_of_bytes zone append = refl

none_of_bytes : (zone append : ℕ) → get (entry_bytes (record { zone = zone; append_off = append; bytes_free = pos 0 })) 8 4 ≡ 0
unfolding get entry_bytes
none_of_bytes zone append = refl

zone_small : (zone : ℕ) → IsReservedZone zone → zone < 256
zone_small zone (inl one) = omega (arith, one)
zone_small zone (inr (inl one)) = omega (arith, one)
zone_small zone (inr (inr (inl one))) = omega (arith, one)
zone_small zone (inr (inr (inr one))) = omega (arith, one)

small : (e : Entry) → IsEntry e → (e.zone < 256) × (e.append_off < 2 ^ 32)
small e (inl (inl owned)) = (omega (arith, owned.zone), omega (arith, owned.append))
small e (inl (inr unused)) = (omega (arith, unused.zone), omega (arith, unused.append))
small e (inr reserved) = (zone_small e.zone reserved.zone, omega (arith, reserved.append))

-- an entry in range that a page spells
module _ (page : List ℕ) (at : ℕ) (e : Entry) (spelled : SpellsEntry page at e) (zone_fits : e.zone < 256) (append_fits : e.append_off < 2 ^ 32) where
  zone_is : (entry_in page at).zone ≡ e.zone
  unfolding entry_in
  zone_is = ap (λ (i : ℕ). get page i 4) (let same : at ≡ at + 0 = omega arith in same) ∙ (field_of page (entry_bytes e) at 16 0 4 spelled
      (omega arith) ∙ zone_of_bytes e zone_fits)

  append_is : (entry_in page at).append_off ≡ e.append_off
  unfolding entry_in
  append_is = field_of page (entry_bytes e) at 16 4 4 spelled (omega arith) ∙ append_of_bytes e append_fits

  zero_is : get page (at + 12) 4 ≡ 0
  zero_is = field_of page (entry_bytes e) at 16 12 4 spelled (omega arith) ∙ zero_of_bytes e

  whole_is : e.bytes_free ≡ pos 8388608 → (entry_in page at).bytes_free ≡ pos 8388608
  unfolding entry_in
  whole_is free =
      let same : e ≡ record { zone = e.zone; append_off = e.append_off; bytes_free = pos 8388608 } = λ i. record
      { zone = e.zone; append_off = e.append_off; bytes_free = free i } in
      let read : get page (at + 8) 4 ≡ 8388608 =
      field_of page (entry_bytes e) at 16 8 4 spelled (omega arith) ∙ (ap (λ (x : Entry). get
      (entry_bytes x) 8 4) same ∙ whole_of_bytes e.zone e.append_off) in
      ap (cast_signed w32) read

  none_is : e.bytes_free ≡ pos 0 → (entry_in page at).bytes_free ≡ pos 0
  unfolding entry_in
  none_is free =
      let same : e ≡ record { zone = e.zone; append_off = e.append_off; bytes_free = pos 0 } = λ i. record
      { zone = e.zone; append_off = e.append_off; bytes_free = free i } in
      let read : get page (at + 8) 4 ≡ 0 =
      field_of page (entry_bytes e) at 16 8 4 spelled (omega arith) ∙ (ap (λ (x : Entry). get
      (entry_bytes x) 8 4) same ∙ none_of_bytes e.zone e.append_off) in
      ap (cast_signed w32) read

  pool_read : IsPoolEntry e → IsPoolEntry (entry_in page at)
  pool_read (inl owned) = inl (record {
    zone = (omega (arith, zone_is, owned.zone.0), omega (arith, zone_is, owned.zone.1));
    append = omega (arith, append_is, owned.append);
    unit = rw (zone_is, append_is) owned.unit;
  })
  pool_read (inr unused) = inr (record { zone = zone_is ∙ unused.zone; append = append_is ∙ unused.append; free = whole_is unused.free })

  entry_read : IsEntry e → IsEntry (entry_in page at)
  entry_read (inl pool) = inl (pool_read pool)
  entry_read (inr reserved) = inr (record {
    zone = subst IsReservedZone
        (sym zone_is) reserved.zone;
    append = append_is ∙ reserved.append;
    free = none_is reserved.free;
  })

  pub of_block : (bigblocks block : ℕ) → IsEntryOf bigblocks block e → IsEntryOf bigblocks block (entry_in page at)
  of_block bigblocks block is = record {
    entry = entry_read is.entry;
    headers = λ here. zone_is ∙ is.headers here;
    freemap = λ from to. zone_is ∙ is.freemap from to;
    undo = λ from to. zone_is ∙ is.undo from to;
    pool = λ here. pool_read (is.pool here);
    past = λ from to. zone_is ∙ is.past from to;
  }

-- the page with the entry of a big-block
page_here : (n k : ℕ) → k < 256 → page_of (n * 256 + k) ≡ layer2_page n
unfolding page_of
page_here n k few = omega arith

-- each page of layer 2 of a sound image keeps what is asked of it
pub layer2_sound : (image : List ℕ) (header : Header) (entries : ℕ → Entry) → 24 ≤ header.bigblocks → header.bigblocks ≤ 1048576
    → header.bigblocks * 8388608 ≤ length image
    → HasLayer2 image header entries → (n : ℕ) → n < layer2_pages header.bigblocks → HoldsEntries header n (layer2_bytes image n)
layer2_sound image header entries least most room layer n low k few =
    let block = n * 256 + k in
    let e = entries block in
    let below : block < layer2_blocks header.bigblocks * blocks_per_layer2 = omega arith in
    let each = layer.each block below in
    let less : n < 4096 = omega arith in
    let there : pages_of image (page_of block) ≡ Some (layer2_bytes image n) =
    ap (pages_of image) (page_here n k few) ∙ page_of_image image header.bigblocks (layer2_page n) (layer2_bytes image n) room
    (layer_read image header.bigblocks n least less) in
    let both : Some each.0.page ≡ Some (layer2_bytes image n) = sym each.0.there ∙ there in
    let same : each.0.page ≡ layer2_bytes image n = cc in
    let spelled = subst (λ (p : List ℕ). SpellsEntry p (place_of block) e) same each.0.spelled in
    let fits = small e each.1.entry in
    record {
      entry = of_block (layer2_bytes image n) (place_of block) e spelled fits.0 fits.1 header.bigblocks block each.1;
      zero = zero_is (layer2_bytes image n) (place_of block) e spelled fits.0 fits.1;
      appended = λ j four here.
          zone_is (layer2_bytes image n) (place_of block) e spelled fits.0 fits.1 ∙ (ap (λ (b : ℕ). (entries b).zone) (sym here) ∙ layer.appended j four);
    }
