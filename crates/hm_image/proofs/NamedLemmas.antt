-- Images with the same bytes wherever a byte is named have the same header slots, freemap and tree.
use Rattle.std.proofs.Common.{◌≡◌, inl, inr, ℕ, ◌+◌, ◌*◌, ◌/◌, ◌<◌, ◌≤◌, List, length, refl, sym, subst, ◌∙◌, arith}
use Rattle.std.specs.Prelude.{slice_index, slice_range}
use Rattle.std.specs.List.{Contains}
use Rattle.std.proofs.lemmas.Bool.{cases_lt}
use Rattle.std.proofs.lemmas.List.{get_or_past}
use Rattle.std.proofs.lemmas.List.Elements.{All-contains_itself, All-weaker}
use Rattle.hm_types.specs.Layout.{blocks_per_layer2, first_layer2, first_undo, layer2_blocks, start_of}
use Rattle.hm_types.specs.Offset.{byte_of}
use Rattle.hm_types.specs.References.{begin_of}
use Rattle.hm_types.specs.declared.limits.TheConstants.{PAGE_BYTES}
use Rattle.hm_types.specs.declared.zone.TheConstants.{FREEMAP_ZONE}
use Rattle.hm_freemap.specs.Places.{entries_per_page, page_of}
use Rattle.hm_header.specs.Range.{IsSize}
use Rattle.hm_header.specs.Slots.{IsChosen}
use Rattle.hm_header.specs.declared.header.Header.{Header}
use Rattle.hm_header.specs.declared.header.TheConstants.{SLOT_BYTES}
use Rattle.hm_model.specs.Volume.{Volume}
use Rattle.hm_header.specs.OnDisk.{HasHeader, first_slot, second_slot}
use Rattle.hm_image.specs.Image.{bytes_at, pages_of, references_from}
use Rattle.hm_image.specs.Same.{HasSameBytes, HasSameFreemap, HasSameNamed, HasSameTree, IsNamed, of_freemap, of_slot, of_tree}
use Rattle.hm_image.specs.Sound.{IsSoundBy}
use Rattle.hm_image.specs.Stands.{StandsFor}
use Rattle.hm_image.proofs.PartLemmas.{part_same}
use Rattle.hm_image.proofs.OffsetLemmas.{byte_is, layer2_is}
use Rattle.hm_image.proofs.SameVolumeLemmas.{sound_same, stands_same}

-- the page with the entry of a big-block lies in the big-blocks of layer 2
pub page_byte : (bigblocks block : ℕ) → IsSize bigblocks → block < layer2_blocks bigblocks * blocks_per_layer2
    → (start_of first_layer2 ≤ byte_of (page_of block)) × (byte_of (page_of block) + PAGE_BYTES ≤ start_of (first_undo bigblocks))
unfolding page_of
page_byte bigblocks block size few =
    let place = start_of first_layer2 + block / entries_per_page * PAGE_BYTES in
    elim (layer2_is bigblocks size) [
      | inl one ↦ let byte = byte_is FREEMAP_ZONE place (omega arith) in omega arith
      | inr two ↦ let byte = byte_is FREEMAP_ZONE place (omega arith) in omega arith
    ]

module _ (old new : List ℕ) (header : Header) (same : HasSameNamed old new header) where
  named_same : (i : ℕ) → IsNamed old header i → slice_index new i ≡ slice_index old i
  named_same i named =
      elim (cases_lt i (length old)) [
        | inl inside ↦ same.bytes i inside named
        | inr past ↦ get_or_past new i 0 (omega (arith, same.size)) ∙ sym (get_or_past old i 0 past)
      ]

  named_range : (from to : ℕ) → ((i : ℕ) → from ≤ i → i < to → IsNamed old header i) → slice_range new from to ≡ slice_range old from to
  named_range from to named = part_same old new from to same.size (λ i after before. named_same i (named i after before))

  first_same : first_slot new ≡ first_slot old
  first_same = named_range 0 SLOT_BYTES (λ i after before. of_slot (omega arith))

  second_same : second_slot new ≡ second_slot old
  second_same = named_range SLOT_BYTES (2 * SLOT_BYTES) (λ i after before. of_slot before)

  header_same : (slot : ℕ) → HasHeader old header slot → HasHeader new header slot
  header_same slot counts =
      let First : List ℕ → Type 0 = λ xs. IsChosen xs (second_slot new) (length new) header slot in
      let Second : List ℕ → Type 0 = λ xs. IsChosen (first_slot old) xs (length new) header slot in
      let Size : ℕ → Type 0 = λ n. IsChosen (first_slot old) (second_slot old) n header slot in
      subst First (sym first_same) (subst Second (sym second_same) (subst Size (sym same.size) counts))

  freemap_same : IsSize header.bigblocks → HasSameFreemap old new header.bigblocks
  freemap_same size = record {
    layer1 = λ i few.
        named_range (start_of 1 + 32 * i) (start_of 1 + 32 * i + 32)
        (λ byte after before. of_freemap (omega arith) (omega arith));
    layer2 = λ block few.
        let within = page_byte header.bigblocks block size few in
        let bytes : bytes_at new (page_of block) PAGE_BYTES ≡ bytes_at old (page_of block) PAGE_BYTES =
        named_range (byte_of (page_of block)) (byte_of (page_of block) + PAGE_BYTES) (λ byte after before. of_freemap (omega arith) (omega arith)) in
        rw (same.size, bytes) refl;
  }

  named_tree : HasSameTree old new header.root
  named_tree =
      let rs = references_from (pages_of old) header.root in
      record {
        size = same.size;
        bytes = All-weaker (Contains rs) (HasSameBytes old new)
            (λ r there. named_range (begin_of r) (begin_of r + r.len) (λ i after before. of_tree r there (after, before))) rs (All-contains_itself rs);
      }

  pub sound_named : IsSoundBy old header → IsSoundBy new header
  sound_named sound =
      sound_same old new header (freemap_same sound.counts.in_range.bigblocks) named_tree sound.slot (header_same sound.slot sound.counts) sound

pub stands_named : (old new : List ℕ) (volume : Volume) (stands : StandsFor old volume) → HasSameNamed old new stands.header → StandsFor new volume
stands_named old new volume stands same =
    let sound = stands.sound in
    stands_same old new volume stands sound.slot (header_same old new stands.header same sound.slot sound.counts)
    (freemap_same old new stands.header same sound.counts.in_range.bigblocks) (named_tree old new stands.header same)
