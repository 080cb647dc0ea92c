-- What a search for bytes from an offset on finds of a file.
use Rattle.std.proofs.Common.{◌≡◌, ℕ, ◌+◌, ◌-◌, ◌*◌, ◌/◌, ◌^◌, ◌<◌, ◌≤◌, List, None, refl, sym, ap, subst, ◌∙◌, inl, inr, arith, length, min, replicate}
use Rattle.std.specs.Prelude.{◌⊎◌, slice_index}
use Rattle.std.specs.List.{Contains}
use Rattle.std.proofs.lemmas.Bool.{cases_lt}
use Rattle.std.proofs.lemmas.List.{get_or-replicate, length-replicate}
use Rattle.std.proofs.lemmas.List.Elements.{All-contains}
use Rattle.hm_types.specs.Elements.{Key}
use Rattle.hm_types.specs.declared.limits.TheConstants.{BLOCK_BYTES}
use Rattle.hm_key.specs.Balance.{IsBalanced, IsHeld, full_elements, payload_of}
use Rattle.hm_key.specs.Counts.{Content, Counts, Subject, bytes_subject, subject_of}
use Rattle.hm_key.specs.Element.{IsElement, IsInBlock}
use Rattle.hm_key.specs.Elements.{IsContent, element_key}
use Rattle.hm_key.specs.Extents.{AreExtents, Extent}
use Rattle.hm_key.specs.declared.element.Element.{Element}
use Rattle.hm_records.specs.View.{EndsInBlock, HasNoBytes, IsFileByte, ShowsInBlock, ShowsRather, beside, covered, none}
use Rattle.hm_cursor.specs.Version.{IsCountedIn, IsInSpan, IsNewestOf, numbered}
use Rattle.hm_cursor.proofs.PayloadLemmas.{length-payload}
use Rattle.hm_cursor.proofs.ToldLemmas.{counts_newest, newest_counted}
use Rattle.hm_files.specs.Bytes.{AreBytesFrom, AreOf, IsReached, block_end, block_start}
use Rattle.hm_files.specs.Nearest.{FindsNearest, IsNearest, past, up_to}

-- the payload of each element of a balanced store has as many bytes as the element says
pub length-held : (es : List Element) (xs : List Extent) (e : Element) → AreExtents xs → IsBalanced es xs → Contains es e → length (payload_of xs e) ≡ e.len
length-held es xs e live balanced has = length-payload xs e live (All-contains (IsHeld xs) es e balanced.held has)

-- an element that has bytes of a file stands in a span from an earlier end on
pub in_span : (at : Key) (last pfs obj start : ℕ) (e : Element) → subject_of at ≡ bytes_subject pfs obj start
    → subject_of (element_key e) ≡ bytes_subject pfs obj e.base.key → start ≤ e.base.key → e.base.key ≤ last → IsInSpan at last (element_key e)
in_span at last pfs obj start e at_is about from to = record {
  localization = ap (λ (s : Subject). s.localization) about ∙ sym (ap (λ (s : Subject). s.localization) at_is);
  obj = ap (λ (s : Subject). s.obj) about ∙ sym (ap (λ (s : Subject). s.obj) at_is);
  rec_type = ap (λ (s : Subject). s.rec_type) about ∙ sym (ap (λ (s : Subject). s.rec_type) at_is);
  from = omega (arith, from, ap (λ (s : Subject). s.key) at_is);
  to = to;
}

-- and an element in such a span has bytes of the file
pub span_about : (at : Key) (last pfs obj start : ℕ) (e : Element) → subject_of at ≡ bytes_subject pfs obj start → IsInSpan at last (element_key e)
    → subject_of (element_key e) ≡ bytes_subject pfs obj e.base.key
span_about at last pfs obj start e at_is place = λ i. record {
  localization = (place.localization ∙ ap (λ (s : Subject). s.localization) at_is) i;
  obj = (place.obj ∙ ap (λ (s : Subject). s.obj) at_is) i;
  rec_type = (place.rec_type ∙ ap (λ (s : Subject). s.rec_type) at_is) i;
  key = e.base.key;
}

-- an element that has bytes of a file has them in one block
pub in_block : (es : List Element) (pfs obj : ℕ) (e : Element) → IsContent es → Contains es e
    → subject_of (element_key e) ≡ bytes_subject pfs obj e.base.key → IsInBlock e.base.key e.len
in_block es pfs obj e content has about =
    (All-contains IsElement es e content.each has).fits.file_bytes (ap (λ (s : Subject). s.rec_type) about)

-- bytes of a file that count, and end in such a span, count there
pub counted_in : (es : List Element) (at : Key) (last t pfs obj start end : ℕ) (y : Element) → subject_of at ≡ bytes_subject pfs obj start
    → IsNewestOf es (bytes_subject pfs obj end) t y → start ≤ end → end ≤ last → IsCountedIn es at last t y
counted_in es at last t pfs obj start end y at_is newest from to =
    let about = newest.version.about in
    let key : y.base.key ≡ end = ap (λ (s : Subject). s.key) about in
    record {
      counts = subst (λ (s : Subject). IsNewestOf es s t y) (sym about) newest;
      place = in_span at last pfs obj start y at_is (about ∙ ap (bytes_subject pfs obj) (sym key)) (omega (arith, from, key)) (omega (arith, to, key));
    }

-- what is in a span is in a part of it that has its number
in_span_to : {at key : Key} {last : ℕ} (near : ℕ) → IsInSpan at last key → key.key ≤ near → IsInSpan at near key
in_span_to near place low = record { localization = place.localization; obj = place.obj; rec_type = place.rec_type; from = place.from; to = low }

in_span_from : {at key : Key} {last : ℕ} (first : ℕ) → IsInSpan at last key → first ≤ key.key → IsInSpan (numbered at first) last key
in_span_from first place above = record { localization = place.localization; obj = place.obj; rec_type = place.rec_type; from = above; to = place.to }

-- zeros are those of a file where each byte is zero
zeros_from : (C : Content) (pfs obj size offset n : ℕ) → ((x : ℕ) → offset ≤ x → x < offset + n → IsFileByte C pfs obj size x 0)
    → AreBytesFrom C pfs obj size offset (replicate n 0)
zeros_from C pfs obj size offset n zero = record {
  each = λ i below.
      let sized : length (replicate {A = ℕ} n 0) ≡ n = length-replicate {A = ℕ} n 0 in
      let inside : i < n = omega (arith, below, sized) in
      subst (λ (b : ℕ). IsFileByte C pfs obj size (offset + i) b) (sym (get_or-replicate n i 0 0 inside))
      (zero (offset + i) (omega arith) (omega (arith, inside)));
}

-- What a search from where an offset's block begins finds: `near` is where the file's size ends the block, and `last` where the
-- block ends that has the last of `len` bytes.
module _ (es : List Element) (xs : List Extent) (at : Key) (pfs obj size offset near last t len : ℕ)
    (at_is : subject_of at ≡ bytes_subject pfs obj (block_start offset + 1)) (near_is : near ≡ min size (min (block_end offset) (2 ^ 64 - 1)))
    (last_is : last ≡ min (block_end (offset + (len - 1))) (2 ^ 64 - 1)) (some : 1 ≤ len) (content : IsContent es) (live : AreExtents xs)
    (balanced : IsBalanced es xs) (inside : offset < near) where
  module _ (n : ℕ) (few : n ≤ len) (reached : IsReached es (offset + n)) where
    -- what ends in the block of a byte is looked at
    in_reach : (x : ℕ) → x < offset + n → (y : Element) → Contains es y → y.base.key ≤ block_end x → y.base.key ≤ last
    in_reach x below y has to = elim reached [
      | inl near' ↦ omega (arith, near', below, to, last_is, few)
      | inr all ↦ let small = all y has in omega (arith, small, below, to, last_is, few)
    ]

    -- where all that counts ends after a byte's block, none counts in it
    empty_block : (x : ℕ) → offset ≤ x → x < offset + n → ((y : Element) → IsCountedIn es at last t y → block_end x < y.base.key)
        → HasNoBytes (Counts (full_elements es xs) t) pfs obj (x / BLOCK_BYTES)
    empty_block x from below beyond end bytes counts place =
        let (y, newest, same) = newest_counted es xs (bytes_subject pfs obj end) t bytes counts in
        let key : y.base.key ≡ end = ap (λ (s : Subject). s.key) newest.version.about in
        let above = place.from in
        let to = place.to in
        let reach = in_reach x below y newest.there (omega (arith, key, to)) in
        let later = beyond y
        (counted_in es at last t pfs obj (block_start offset + 1) end y at_is newest (omega (arith, above, from)) (omega (arith, reach, key))) in
        omega (arith, later, key, to)

    -- where none is found the bytes are zero
    pub none_bytes : FindsNearest es at near last t None → AreBytesFrom (Counts (full_elements es xs) t) pfs obj size offset (replicate n 0)
    none_bytes nothing =
        zeros_from (Counts (full_elements es xs) t) pfs obj size offset n
        (λ x from below. none (empty_block x from below (λ y is. absurd (nothing y is))) refl)

    module _ (e : Element) (found : IsNearest es at near last t e) where
      there : IsNearest es at near last t e → IsNewestOf es (subject_of (element_key e)) t e × (block_start offset + 1 ≤ e.base.key)
      there (up_to is) = (is.counts, omega (arith, is.place.from, ap (λ (s : Subject). s.key) at_is))
      there (past empty is) = (is.counts, omega (arith, is.place.from, inside))

      counts : IsNewestOf es (subject_of (element_key e)) t e
      counts = (there found).0

      about : subject_of (element_key e) ≡ bytes_subject pfs obj e.base.key
      about = span_of found where
        span_of : IsNearest es at near last t e → subject_of (element_key e) ≡ bytes_subject pfs obj e.base.key
        span_of (up_to is) = span_about at near pfs obj (block_start offset + 1) e at_is is.place
        span_of (past empty is) =
            span_about (numbered at (near + 1)) last pfs obj (near + 1) e (ap (λ (s : Subject). record s { key = near + 1 }) at_is) is.place

      block : IsInBlock e.base.key e.len
      block = in_block es pfs obj e content counts.there about

      long : length (payload_of xs e) ≡ e.len
      long = length-held es xs e live balanced counts.there

      -- it ends first where it ends past the block
      highest : IsNearest es at near last t e → block_end offset < e.base.key → (y : Element) → IsCountedIn es at last t y → e.base.key ≤ y.base.key
      highest (up_to is) beyond y counted = absurd (omega (arith, beyond, is.place.to, near_is))
      highest (past empty is) beyond y counted = elim (cases_lt near y.base.key) [
        | inr low ↦ absurd (empty y (record { counts = counted.counts; place = in_span_to near counted.place low }))
        | inl above ↦ is.first y (record { counts = counted.counts; place = in_span_from (near + 1) counted.place (omega (arith, above)) })
      ]

      -- the zeros before it
      pub before_bytes : offset + n + e.len ≤ e.base.key → AreBytesFrom (Counts (full_elements es xs) t) pfs obj size offset (replicate n 0)
      before_bytes below =
          zeros_from (Counts (full_elements es xs) t) pfs obj size offset n (λ x from inside.
          let after : block_end x < e.base.key = omega (arith, block.some, block.aligned, block.within, below, inside) in
          none (empty_block x from inside (λ y counted.
          let high = highest found (omega (arith, block.some, block.aligned, block.within, below, from, inside)) y counted in omega (arith, high, after))) refl)

      module _ (here : e.base.key ≤ block_end offset) (one : 1 ≤ n) where
        in_place : EndsInBlock (offset / BLOCK_BYTES) e.base.key
        in_place = record { from = let low = (there found).1 in omega (arith, low); to = omega (arith, here) }

        rather_than : IsNearest es at near last t e → (y : Element) (end : ℕ) → IsNewestOf es (bytes_subject pfs obj end) t y
            → EndsInBlock (offset / BLOCK_BYTES) end → ShowsRather size e.base.key end
        rather_than nearest y end newest place =
            let key : y.base.key ≡ end = ap (λ (s : Subject). s.key) newest.version.about in
            let above = place.from in
            let to = place.to in
            let reach = in_reach offset (omega (arith, one)) y newest.there (omega (arith, key, to)) in
            by_case nearest (cases_lt near end) key reach above to
          where
            by_case : IsNearest es at near last t e → (near < end) ⊎ (end ≤ near) → y.base.key ≡ end → y.base.key ≤ last
                → offset / BLOCK_BYTES * BLOCK_BYTES < end → end ≤ offset / BLOCK_BYTES * BLOCK_BYTES + BLOCK_BYTES → ShowsRather size e.base.key end
            by_case (up_to is) (inl past') key reach above to =
                inl (omega (arith, is.place.to, near_is), inr (omega (arith, past', near_is, to, key, reach, last_is)))
            by_case (up_to is) (inr low) key reach above to =
                let most = is.most y (counted_in es at near t pfs obj (block_start offset + 1) end y at_is newest (omega (arith, above)) low) in
                inl (omega (arith, is.place.to, near_is), inl (omega (arith, most, key)))
            by_case (past empty is) (inr low) key reach above to =
                absurd (empty y (counted_in es at near t pfs obj (block_start offset + 1) end y at_is newest (omega (arith, above)) low))
            by_case (past empty is) (inl past') key reach above to =
                let least = is.first y (counted_in es (numbered at (near + 1)) last t pfs obj (near + 1) end y
                (ap (λ (s : Subject). record s { key = near + 1 }) at_is) newest (omega (arith, past')) (omega (arith, reach, key))) in
                inr (omega (arith, is.place.from, near_is, here, is.place.to, last_is), omega (arith, least, key))

        -- what ends in the block of the offset is what shows there
        found_shown : ShowsInBlock (Counts (full_elements es xs) t) pfs obj size (offset / BLOCK_BYTES) e.base.key (payload_of xs e)
        found_shown = record {
          there = subst (λ (s : Subject). Counts (full_elements es xs) t s (payload_of xs e)) about
              (counts_newest es xs (subject_of (element_key e)) t e counts);
          place = in_place;
          rather = λ other others counted place.
              let (y, newest, same) = newest_counted es xs (bytes_subject pfs obj other) t others counted in rather_than found y other newest place;
        }

        shown_at : (x : ℕ) → offset ≤ x → x < block_end offset
            → ShowsInBlock (Counts (full_elements es xs) t) pfs obj size (x / BLOCK_BYTES) e.base.key (payload_of xs e)
        shown_at x from below =
            let same : offset / BLOCK_BYTES ≡ x / BLOCK_BYTES = omega (arith, from, below) in
            subst (λ (b : ℕ). ShowsInBlock (Counts (full_elements es xs) t) pfs obj size b e.base.key (payload_of xs e)) same found_shown

        -- the zeros after it
        pub ended_bytes : e.base.key ≤ offset → offset + n ≤ block_end offset
            → AreBytesFrom (Counts (full_elements es xs) t) pfs obj size offset (replicate n 0)
        ended_bytes ended within =
            zeros_from (Counts (full_elements es xs) t) pfs obj size offset n (λ x from inside.
            beside e.base.key (payload_of xs e) (shown_at x from (omega (arith, inside, within))) (inl (omega (arith, ended, from))) refl)

        -- its bytes
        found_bytes : (bytes : List ℕ) → e.base.key ≤ offset + e.len → AreOf e.base.key e.len (payload_of xs e) offset bytes
            → AreBytesFrom (Counts (full_elements es xs) t) pfs obj size offset bytes
        found_bytes bytes from are = record {
          each = λ i below.
              let to : offset + i < e.base.key = omega (arith, are.until, below) in
              covered e.base.key (payload_of xs e) (shown_at (offset + i) (omega arith) (omega (arith, to, here))) to (omega (arith, from, long))
              (are.each i below ∙ ap (λ (k : ℕ). slice_index (payload_of xs e) (offset + i + k - e.base.key)) (sym long));
        }

  -- an element that begins by the offset ends in its block
  ends_here : (e : Element) → IsNearest es at near last t e → e.base.key ≤ offset + e.len → e.base.key ≤ block_end offset
  ends_here e found from = by_case found where
    by_case : IsNearest es at near last t e → e.base.key ≤ block_end offset
    by_case (up_to is) = omega (arith, is.place.to, near_is)
    by_case (past empty is) =
        let about = span_about (numbered at (near + 1)) last pfs obj (near + 1) e (ap (λ (s : Subject). record s { key = near + 1 }) at_is) is.place in
        let block = in_block es pfs obj e content is.counts.there about in
        omega (arith, block.few, block.within, block.aligned, from)

  -- what it has from the offset on is the file's
  pub element_bytes : (e : Element) (bytes : List ℕ) → IsNearest es at near last t e → length bytes ≤ len → IsReached es (offset + length bytes)
      → e.base.key ≤ offset + e.len → AreOf e.base.key e.len (payload_of xs e) offset bytes
      → AreBytesFrom (Counts (full_elements es xs) t) pfs obj size offset bytes
  element_bytes e bytes found few reached from are = record {
    each = λ i below. (found_bytes (length bytes) few reached e found (ends_here e found from) (omega (arith, below)) bytes from are).each i below;
  }
