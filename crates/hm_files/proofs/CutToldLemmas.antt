-- What a cut does, by what was read between its calls.
use Rattle.std.proofs.Common.{◌≡◌, ℕ, ◌+◌, ◌%◌, ◌/◌, ◌<◌, ◌≤◌, List, Option, None, Some, ap, length, min, subst, sym, inl, inr, arith}
use Rattle.std.specs.Prelude.{IsSomeAnd}
use Rattle.std.proofs.lemmas.Bool.{cases_lt}
use Rattle.hm_types.specs.Elements.{FullElement, Key}
use Rattle.hm_types.specs.declared.limits.TheConstants.{BLOCK_BYTES, MOST_FILE_BYTES}
use Rattle.hm_key.specs.Balance.{full_elements, payload_of}
use Rattle.hm_key.specs.Counts.{Counts, Subject, bytes_subject, subject_of}
use Rattle.hm_key.specs.Elements.{IsContent}
use Rattle.hm_key.specs.declared.element.Element.{Element}
use Rattle.hm_records.specs.View.{EndsInBlock, ShowsInBlock, ShowsRather}
use Rattle.hm_records.proofs.CountsLemmas.{own_keys-sorted, settled}
use Rattle.hm_cursor.specs.Told.{Lists, fulls}
use Rattle.hm_cursor.specs.Version.{IsNewestOf}
use Rattle.hm_cursor.proofs.PayloadLemmas.{full_sorted}
use Rattle.hm_cursor.proofs.ToldLemmas.{counts_newest, newest_counted}
use Rattle.hm_cursor.proofs.ViewsLemmas.{fresh_later}
use Rattle.hm_files.specs.Bytes.{AreBytesRead, block_end, block_start}
use Rattle.hm_files.specs.Close.{AreOlder, ClosesBytes}
use Rattle.hm_files.specs.Nearest.{FindsNearest, past, up_to}
use Rattle.hm_files.specs.Put.{CutsBytes, PutsBlock}
use Rattle.hm_files.proofs.CutLemmas.{AreBlocks, cut_closed, cut_put}
use Rattle.hm_files.proofs.PieceLemmas.{counted_in, span_about}

-- what a cut knows of the content that it finds
abbrev pub IsKnown : ℕ → ℕ → ℕ → Lists → Type 0
IsKnown pfs obj i lists = AreBlocks (fulls lists) × AreOlder pfs obj i 0 (fulls lists)

module _ (pfs obj i size keep until : ℕ) (within : keep ≤ size) (small : keep ≤ MOST_FILE_BYTES) (ahead : block_end keep ≤ until) (was : Lists)
    (known : IsKnown pfs obj i was) where
  -- where the cut is where a block begins
  pub cut_between : (es' : List FullElement) → keep % BLOCK_BYTES ≡ 0 → ClosesBytes pfs obj i (keep + 1) (until + 1) (fulls was) es'
      → CutsBytes pfs obj i size keep until (fulls was) es'
  cut_between es' aligned closes =
      cut_closed pfs obj i size keep until (fulls was) es' within ahead closes
      (λ t x end bytes late below here shown. absurd (omega (arith, aligned, below, here)))

  -- what shows in the block of the cut is what a search found there
  module _ (at : Key) (near last : ℕ) (content : IsContent was.0) (at_is : subject_of at ≡ bytes_subject pfs obj (block_start keep + 1))
      (near_is : near ≡ min size (block_end keep)) (last_is : last ≡ block_end keep) where
    -- where it ends by the cut, or none was found
    pub cut_unseen : (found : Option Element) (es' : List FullElement) → FindsNearest was.0 at near last i found
        → (IsSomeAnd found (λ e. keep < e.base.key) → ⊥)
        → ClosesBytes pfs obj i (keep + 1) (until + 1) (fulls was) es' → CutsBytes pfs obj i size keep until (fulls was) es'
    cut_unseen found es' finds low closes = cut_closed pfs obj i size keep until (fulls was) es' within ahead closes ends where
      by_found : (end : ℕ) (y : Element) → (found : Option Element) → FindsNearest was.0 at near last i found → (IsSomeAnd found (λ e. keep < e.base.key) → ⊥)
          → y.base.key ≡ end → IsNewestOf was.0 (bytes_subject pfs obj end) i y → EndsInBlock (keep / BLOCK_BYTES) end
          → ((e : Element) → IsNewestOf was.0 (bytes_subject pfs obj e.base.key) i e → EndsInBlock (keep / BLOCK_BYTES) e.base.key
          → ShowsRather size end e.base.key)
          → end ≤ keep
      by_found end y None finds low key newest place rather =
          let from = place.from in
          let to = place.to in
          absurd (finds y (counted_in was.0 at last i pfs obj (block_start keep + 1) end y at_is newest (omega (arith, from)) (omega (arith, to, last_is))))
      by_found end y (Some e) (up_to is) low key newest place rather =
          let from = place.from in
          let about = span_about at near pfs obj (block_start keep + 1) e at_is is.place in
          let there : EndsInBlock (keep / BLOCK_BYTES) e.base.key = record {
            from = omega (arith, is.place.from, ap (λ (s : Subject). s.key) at_is);
            to = omega (arith, is.place.to, near_is);
          } in
          let seen = rather e (subst (λ (s : Subject). IsNewestOf was.0 s i e) about is.counts) there in
          let most : keep < e.base.key → ⊥ = low in
          elim (cases_lt keep end) [
            | inr within' ↦ within'
            | inl above ↦ elim seen [
              | inl shows ↦
                  let counted = counted_in was.0 at near i pfs obj (block_start keep + 1) end y at_is newest (omega (arith, from))
                  (omega (arith, shows.0, place.to, near_is)) in
                  let later = is.most y counted in absurd (most (omega (arith, later, key, above)))
              | inr later ↦ let less = later.1 in absurd (omega (arith, is.place.to, near_is, later.0, less))
            ]
          ]
      by_found end y (Some e) (past empty is) low key newest place rather =
          let most : keep < e.base.key → ⊥ = low in
          absurd (most (omega (arith, is.place.from, near_is, within)))

      ends : (t x end : ℕ) (bytes : List ℕ) → i ≤ t → x < keep → x / BLOCK_BYTES ≡ keep / BLOCK_BYTES
          → ShowsInBlock (Counts (fulls was) t) pfs obj size (x / BLOCK_BYTES) end bytes → end ≤ keep
      ends t x end bytes late below here shown =
          let now = (fresh_later (bytes_subject pfs obj end) i t (fulls was) bytes (known.1 end (omega arith)) late).0 shown.there in
          let (y, newest, same) = newest_counted was.0 was.1 (bytes_subject pfs obj end) i bytes now in
          let place = subst (λ (b : ℕ). EndsInBlock b end) here shown.place in
          by_found end y found finds low (ap (λ (s : Subject). s.key) newest.version.about) newest place
          (λ e counts there.
          let bytes' = payload_of was.1 e in
          shown.rather e.base.key bytes'
          ((fresh_later (bytes_subject pfs obj e.base.key) i t (fulls was) bytes' (known.1 e.base.key (omega arith)) late).1
          (counts_newest was.0 was.1 (bytes_subject pfs obj e.base.key) i e counts)) (subst (λ (b : ℕ). EndsInBlock b e.base.key) (sym here) there))

  -- where its block is put with what was read of it
  pub cut_read : (mid : Lists) (front : List ℕ) (es' : List FullElement) → keep ≡ block_start keep + length front → 1 ≤ length front
      → IsContent was.0 → AreBytesRead i pfs obj size (block_start keep) front was → ClosesBytes pfs obj i (keep + 1) (until + 1) (fulls was) (fulls mid)
      → PutsBlock pfs obj i (block_start keep) front (fulls mid) es' → CutsBytes pfs obj i size keep until (fulls was) es'
  cut_read mid front es' sized some content read closes puts =
      cut_put pfs obj i size keep until (fulls was) (fulls mid) within ahead closes (block_start keep) front es' (omega arith) sized some (omega (arith, sized))
      (settled (full_elements was.0 was.1) i (own_keys-sorted (full_elements was.0 was.1) (full_sorted was.0 was.1 content.rising)))
      known.1 (read (inl (omega (arith, sized, small)))) puts
