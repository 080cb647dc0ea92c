-- One entry more of the log.
use Rattle.std.proofs.Common.{◌≡◌, ◌≢◌, ◌⊎◌, inl, inr, ⊎_elim, ℕ, zero, suc, ◌+◌, ◌-◌, ◌*◌, ◌^◌, ◌<◌, ◌≤◌, Bool, true, false, List, [], ◌∷◌, ◌++◌}
use Rattle.std.proofs.Common.{length, length-append, get_or, refl, sym, ◌∙◌, ap, subst, arith, is_some, slice_index, slice_get, Option, Some, None}
use Rattle.std.proofs.Common.{IfSome}
use Rattle.std.proofs.lemmas.Bool.{cases_lt, true≢false}
use Rattle.std.proofs.lemmas.List.{places, get_or-append_right}
use Rattle.std.proofs.lemmas.Option.{slice_get_cases}
use Rattle.hm_types.specs.declared.limits.TheConstants.{MOST_GROUP_PAGES, PAGE_BYTES, UNDO_ENTRY_BYTES}
use Rattle.hm_disk.specs.Disk.{overwritten}
use Rattle.hm_disk.proofs.OverwriteLemmas.{get_or-overwritten_out, length-overwritten}
use Rattle.hm_header.specs.declared.header.Header.{Header}
use Rattle.hm_header.specs.Range.{HasRoom, IsHeader}
use Rattle.hm_pages.specs.Store.{Store}
use Rattle.hm_undo.specs.Entry.{IsUndoPageOf, undo_entry_of}
use Rattle.hm_undo.specs.Log.{IsInEntry, entry_at, entry_place}
use Rattle.hm_undo.specs.Range.{HasUndoEntry, HasRange, OldPage}
use Rattle.hm_undo.proofs.EntryLemmas.{length-entry}
use Rattle.hm_undo.proofs.LogLemmas.{entries-apart, entry-within}
use Rattle.hm_undo.proofs.RangeLemmas.{entry-same, entry-written, range-entry}
use Rattle.hm_flush.specs.Flush.{armed_header, next_generation}
use Rattle.hm_flush.specs.Guard.{HasSaved, IsSavedAt}
use Rattle.hm_flush.proofs.RangeLemmas.{entries-differ}
use Rattle.hm_flush.proofs.SavedLemmas.{committed-push, saved-before, saved-push}

-- an entry is the same for a header that names more of them
more-named : (header : Header) (n m : ℕ) (bytes : List ℕ) (entry : ℕ) (old : OldPage) → HasUndoEntry bytes (armed_header header n) entry old
    → HasUndoEntry bytes (armed_header header m) entry old
more-named header n m bytes entry old has = record { spelled = has.spelled; page = has.page }

module _ (header : Header) (s : Store) (written : ℕ) (old : List ℕ) (at : ℕ) (page : List ℕ) (is : IsHeader header)
    (room : HasRoom (length old) header.bigblocks) (few : written ≤ MOST_GROUP_PAGES) (named : IsUndoPageOf header.bigblocks at)
    (live : s.committed at ≡ Some page) (sized : length page ≡ PAGE_BYTES) where
  -- the disk with one entry more
  abbrev saved-bytes : List ℕ
  saved-bytes = overwritten old (entry_place header.bigblocks (entry_at header.undo_next written)) (undo_entry_of at (next_generation header) page)

  long : length (undo_entry_of at (next_generation header) page) ≡ UNDO_ENTRY_BYTES
  long = omega (arith, length-entry at (next_generation header) page, sized)

  fits : entry_place header.bigblocks (entry_at header.undo_next written) + length (undo_entry_of at (next_generation header) page) ≤ length old
  fits = omega (arith, long, room, entry-within header.bigblocks (entry_at header.undo_next written) is.bigblocks (omega arith))

  size : length saved-bytes ≡ length old
  size = length-overwritten old _ _ fits

  abbrev saved-page : OldPage
  saved-page = record { at = at; bytes = page }

  -- the new one
  new-entry : HasUndoEntry saved-bytes (armed_header header (written + 1)) (entry_at header.undo_next written) saved-page
  new-entry =
      entry-written old (armed_header header (written + 1)) (entry_at header.undo_next written) saved-page is.bigblocks room (omega arith)
      (omega arith) named sized

  -- those before
  old-entry : (olds : List OldPage) → HasRange old (armed_header header written) olds → (i : ℕ) (d : OldPage) → i < length olds
      → HasUndoEntry saved-bytes (armed_header header (written + 1)) (entry_at header.undo_next i) (get_or olds i d)
  old-entry olds range i d below =
      more-named header written (written + 1) saved-bytes (entry_at header.undo_next i) (get_or olds i d)
      (entry-same old saved-bytes (armed_header header written) (entry_at header.undo_next i) (get_or olds i d) size
      (λ byte inside within. get_or-overwritten_out old _ _ byte fits within (out byte inside apart))
      (range-entry old (armed_header header written) olds range i d below))
    where
      apart : (entry_place header.bigblocks (entry_at header.undo_next i) + UNDO_ENTRY_BYTES ≤ entry_place header.bigblocks (entry_at header.undo_next written))
          ⊎ (entry_place header.bigblocks (entry_at header.undo_next written) + UNDO_ENTRY_BYTES ≤ entry_place header.bigblocks (entry_at header.undo_next i))
      apart = entries-apart header.bigblocks (entry_at header.undo_next i) (entry_at header.undo_next written)
          (entries-differ header.undo_next i written few (omega (arith, below, range.count)))

      out : (byte : ℕ) → IsInEntry header.bigblocks (entry_at header.undo_next i) byte
          → (entry_place header.bigblocks (entry_at header.undo_next i) + UNDO_ENTRY_BYTES ≤ entry_place header.bigblocks (entry_at header.undo_next written))
          ⊎ (entry_place header.bigblocks (entry_at header.undo_next written) + UNDO_ENTRY_BYTES ≤ entry_place header.bigblocks (entry_at header.undo_next i))
          → (byte < entry_place header.bigblocks (entry_at header.undo_next written))
          ⊎ (entry_place header.bigblocks (entry_at header.undo_next written) + length (undo_entry_of at (next_generation header) page) ≤ byte)
      out byte inside (inl low) = inl (omega (arith, inside, low))
      out byte inside (inr high) = inr (omega (arith, inside, high, long))

  all-entries : (olds : List OldPage) → HasRange old (armed_header header written) olds
      → HasRange saved-bytes (armed_header header (written + 1)) (olds ++ saved-page ∷ [])
  all-entries olds range = record {
    count = omega (arith, length-append olds (saved-page ∷ []), range.count);
    each = λ i. step i (slice_get_cases (olds ++ saved-page ∷ []) i).1;
  }
    where
      here : (i : ℕ) (d : OldPage) → i < length (olds ++ saved-page ∷ [])
          → HasUndoEntry saved-bytes (armed_header header (written + 1)) (entry_at header.undo_next i) (get_or (olds ++ saved-page ∷ []) i d)
      here i d below = ⊎_elim early late (cases_lt i (length olds))
        where
          early : i < length olds → HasUndoEntry saved-bytes (armed_header header (written + 1)) (entry_at header.undo_next i)
              (get_or (olds ++ saved-page ∷ []) i d)
          early less =
              let same : get_or (olds ++ saved-page ∷ []) i d ≡ get_or olds i d = grind (arith, places, less) in
              subst (λ (o : OldPage). HasUndoEntry saved-bytes (armed_header header (written + 1)) (entry_at header.undo_next i) o) (sym same)
              (old-entry olds range i d less)

          late : length olds ≤ i → HasUndoEntry saved-bytes (armed_header header (written + 1)) (entry_at header.undo_next i)
              (get_or (olds ++ saved-page ∷ []) i d)
          late past =
              let last : i ≡ written = omega (arith, past, below, range.count, length-append olds (saved-page ∷ [])) in
              let none : i - length olds ≡ 0 = omega (arith, last, range.count) in
              let same : get_or (olds ++ saved-page ∷ []) i d ≡ saved-page =
              get_or-append_right olds (saved-page ∷ []) (length olds) i d refl past ∙ ap (λ (k : ℕ). get_or (saved-page ∷ []) k d) none in
              subst (λ (o : OldPage). HasUndoEntry saved-bytes (armed_header header (written + 1)) (entry_at header.undo_next i) o) (sym same)
              (subst (λ (k : ℕ). HasUndoEntry saved-bytes (armed_header header (written + 1)) (entry_at header.undo_next k) saved-page) (sym last) new-entry)

      step : (i : ℕ) → ((old_page : OldPage) × (i < length (olds ++ saved-page ∷ [])) × (slice_get (olds ++ saved-page ∷ []) i ≡ Some old_page)
          × (get_or (olds ++ saved-page ∷ []) i old_page ≡ old_page)) ⊎ ((length (olds ++ saved-page ∷ []) ≤ i)
          × (slice_get (olds ++ saved-page ∷ []) i ≡ None))
          → IfSome (slice_get (olds ++ saved-page ∷ []) i) (HasUndoEntry saved-bytes (armed_header header (written + 1)) (entry_at header.undo_next i))
      step i (inl some) =
          let P : Option OldPage → Type 0 = λ o. IfSome o (HasUndoEntry saved-bytes (armed_header header (written + 1)) (entry_at header.undo_next i)) in
          subst P (sym some.2)
          (subst (λ (o : OldPage). HasUndoEntry saved-bytes (armed_header header (written + 1)) (entry_at header.undo_next i) o) some.3 (here i some.0 some.1))
      step i (inr none) =
          let P : Option OldPage → Type 0 = λ o. IfSome o (HasUndoEntry saved-bytes (armed_header header (written + 1)) (entry_at header.undo_next i)) in
          subst P (sym none.1) tt

  -- the pages before the next one that is saved are all in the log
  pub saved-more : (from next : ℕ) → slice_index s.frozen_group next ≡ at
      → ((i : ℕ) → from ≤ i → i < next → is_some (s.committed (slice_index s.frozen_group i)) ≡ false)
      → HasSaved (armed_header header written) s from old → HasSaved (armed_header header (written + 1)) s (next + 1) saved-bytes
  saved-more from next here skips saved = record {
    olds = saved.olds ++ saved-page ∷ [];
    range = all-entries saved.olds saved.range;
    committed = committed-push s.committed saved.olds saved-page saved.committed live;
    live = λ i below page is. ⊎_elim
        (λ early. saved-before (slice_index s.frozen_group i) saved.olds saved-page (saved.live i early page is))
        (λ past. ⊎_elim
        (λ less. absurd (true≢false (ap is_some (sym is) ∙ skips i past less)))
        (λ last. let same : next ≡ i = omega (arith, last, below) in
        saved-push (slice_index s.frozen_group i) saved.olds saved-page (sym here ∙ ap (λ (k : ℕ). slice_index s.frozen_group k) same))
        (cases_lt i next)) (cases_lt i from);
  }
