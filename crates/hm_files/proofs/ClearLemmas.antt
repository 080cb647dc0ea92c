-- What shows in a block is closed: all that counts there, where versions follow one another.
use Rattle.std.proofs.Common.{◌≡◌, ◌≢◌, ℕ, ◌+◌, ◌%◌, ◌<◌, ◌≤◌, List, None, ap, subst, ◌∙◌, inl, inr, arith}
use Rattle.std.specs.Prelude.{◌⊎◌}
use Rattle.std.proofs.lemmas.Bool.{cases_eq, cases_lt}
use Rattle.hm_types.specs.Elements.{FullElement, Key}
use Rattle.hm_types.specs.declared.limits.TheConstants.{BLOCK_BYTES}
use Rattle.hm_key.specs.Balance.{payload_of}
use Rattle.hm_key.specs.Counts.{Counts, Subject, bytes_subject, subject_of}
use Rattle.hm_key.specs.Elements.{element_key}
use Rattle.hm_key.specs.declared.element.Element.{Element}
use Rattle.hm_records.specs.Follows.{Follows}
use Rattle.hm_records.proofs.SubjectLemmas.{same_subject}
use Rattle.hm_cursor.specs.Told.{Lists, fulls}
use Rattle.hm_cursor.specs.Version.{IsNewestOf, numbered}
use Rattle.hm_cursor.specs.Views.{IsNothing}
use Rattle.hm_cursor.specs.Write.{Rewrites}
use Rattle.hm_cursor.proofs.FollowLemmas.{closing_follows}
use Rattle.hm_cursor.proofs.ToldLemmas.{counts_newest, newest_counted}
use Rattle.hm_cursor.proofs.ViewsLemmas.{nothing_written, writes_within}
use Rattle.hm_files.specs.Close.{ClearsBlock, IsLeftAlone}
use Rattle.hm_files.specs.Nearest.{FindsNearest, IsNearest, past, up_to}
use Rattle.hm_files.proofs.CloseLemmas.{bytes_within, ends_apart, none_some}
use Rattle.hm_files.proofs.CutLemmas.{AreBlocks}
use Rattle.hm_files.proofs.FollowLemmas.{only_one}
use Rattle.hm_files.proofs.PieceLemmas.{counted_in, span_about}

-- a block in which nothing is closed
left_alone : (pfs obj i begin end : ℕ) (es : List FullElement) → ((t : ℕ) → i ≤ t → Follows pfs t es → IsLeftAlone pfs obj i begin end es)
    → ClearsBlock pfs obj i begin end es es
left_alone pfs obj i begin end es alone = record {
  writes = nothing_written pfs i IsNothing es;
  less = λ t s bytes counts. counts;
  beside = λ t s bytes out counts. counts;
  follows = λ other t follow. follow;
  alone = alone;
}

module _ (at : Key) (pfs obj i begin near last end : ℕ) (lists : Lists) (at_is : subject_of at ≡ bytes_subject pfs obj (begin + 1))
    (last_is : last ≡ begin + BLOCK_BYTES) (from_begin : begin ≤ near) (to_last : near ≤ last) (aligned : begin % BLOCK_BYTES ≡ 0)
    (blocks : AreBlocks (fulls lists)) where
  -- where nothing was found, nothing counts in the block
  pub clears_none : FindsNearest lists.0 at near last i None → ClearsBlock pfs obj i begin end (fulls lists) (fulls lists)
  clears_none nothing = left_alone pfs obj i begin end (fulls lists) (λ t late follow n from to differ bytes counts.
      let (y, newest, same) = newest_counted lists.0 lists.1 (bytes_subject pfs obj n) i bytes counts in
      nothing y (counted_in lists.0 at last i pfs obj (begin + 1) n y at_is newest (omega (arith, from)) (omega (arith, to, last_is))))

  module _ (e : Element) (found : IsNearest lists.0 at near last i e) where
    about : subject_of (element_key e) ≡ bytes_subject pfs obj e.base.key
    about = by_case found where
      by_case : IsNearest lists.0 at near last i e → subject_of (element_key e) ≡ bytes_subject pfs obj e.base.key
      by_case (up_to is) = span_about at near pfs obj (begin + 1) e at_is is.place
      by_case (past empty is) = span_about (numbered at (near + 1)) last pfs obj (near + 1) e (ap (λ (s : Subject). record s { key = near + 1 }) at_is) is.place

    newest : IsNewestOf lists.0 (subject_of (element_key e)) i e
    newest = by_case found where
      by_case : IsNearest lists.0 at near last i e → IsNewestOf lists.0 (subject_of (element_key e)) i e
      by_case (up_to is) = is.counts
      by_case (past empty is) = is.counts

    in_block : (begin < e.base.key) × (e.base.key ≤ begin + BLOCK_BYTES)
    in_block = by_case found where
      by_case : IsNearest lists.0 at near last i e → (begin < e.base.key) × (e.base.key ≤ begin + BLOCK_BYTES)
      by_case (up_to is) = (omega (arith, is.place.from, ap (λ (s : Subject). s.key) at_is), omega (arith, is.place.to, to_last, last_is))
      by_case (past empty is) = (omega (arith, is.place.from, from_begin), omega (arith, is.place.to, last_is))

    counts : Counts (fulls lists) i (bytes_subject pfs obj e.base.key) (payload_of lists.1 e)
    counts = subst (λ (s : Subject). Counts (fulls lists) i s (payload_of lists.1 e)) about
        (counts_newest lists.0 lists.1 (subject_of (element_key e)) i e newest)

    -- where versions follow one another, it is all that counts there
    alone_there : (t n : ℕ) (bytes : List ℕ) → i ≤ t → Follows pfs t (fulls lists) → begin < n → n ≤ begin + BLOCK_BYTES
        → Counts (fulls lists) i (bytes_subject pfs obj n) bytes → n ≡ e.base.key
    alone_there t n bytes late follow from to other =
        only_one pfs obj i t begin n e.base.key bytes (payload_of lists.1 e) (fulls lists) blocks aligned late follow from to in_block.0 in_block.1 other counts

    -- it stays where it ends at the place of what is put
    pub clears_same : e.base.key ≡ end → ClearsBlock pfs obj i begin end (fulls lists) (fulls lists)
    clears_same is = left_alone pfs obj i begin end (fulls lists)
        (λ t late follow n from to differ bytes other. differ (alone_there t n bytes late follow from to other ∙ is))

    -- and else it is
    pub clears_closed : (es' : List FullElement) → e.base.key ≢ end → Rewrites (subject_of (element_key e)) None i (fulls lists) es'
        → ClearsBlock pfs obj i begin end (fulls lists) es'
    clears_closed es' apart rewrites = record {
      writes = writes_within pfs i (bytes_subject pfs obj e.base.key) None IsNothing (fulls lists) es' (bytes_within pfs obj e.base.key)
          (λ x about made now. none_some x.bytes now) wrote;
      less = λ t s bytes counts. less t s bytes (cases_lt t i) counts;
      beside = λ t s bytes out counts. beside t s bytes (out e.base.key in_block.0 in_block.1 apart) (cases_lt t i) counts;
      follows = closing_follows (bytes_subject pfs obj e.base.key) i (fulls lists) es' wrote;
      alone = λ t late follow n from to differ bytes counts. elim (cases_eq n e.base.key) [
        | inl is ↦ gone i bytes (omega arith) (subst (λ (m : ℕ). Counts es' i (bytes_subject pfs obj m) bytes) is counts)
        | inr other ↦ other (alone_there t n bytes late follow from to
            (((wrote.present i (omega arith)).elsewhere (bytes_subject pfs obj n) bytes (ends_apart pfs obj n e.base.key other)).0 counts))
      ];
    } where
      wrote : Rewrites (bytes_subject pfs obj e.base.key) None i (fulls lists) es'
      wrote = subst (λ (s : Subject). Rewrites s None i (fulls lists) es') about rewrites

      gone : (t : ℕ) (bytes : List ℕ) → i ≤ t → Counts es' t (bytes_subject pfs obj e.base.key) bytes → ⊥
      gone t bytes late counts = none_some bytes (((wrote.present t late).about bytes).0 counts)

      less : (t : ℕ) (s : Subject) (bytes : List ℕ) → (t < i) ⊎ (i ≤ t) → Counts es' t s bytes → Counts (fulls lists) t s bytes
      less t s bytes (inl before) counts = (wrote.past t before s bytes).0 counts
      less t s bytes (inr late) counts = elim (same_subject s (bytes_subject pfs obj e.base.key)) [
        | inl same ↦ absurd (gone t bytes late (subst (λ (z : Subject). Counts es' t z bytes) same counts))
        | inr differ ↦ ((wrote.present t late).elsewhere s bytes differ).0 counts
      ]

      beside : (t : ℕ) (s : Subject) (bytes : List ℕ) → s ≢ bytes_subject pfs obj e.base.key → (t < i) ⊎ (i ≤ t) → Counts (fulls lists) t s bytes
          → Counts es' t s bytes
      beside t s bytes differ (inl before) counts = (wrote.past t before s bytes).1 counts
      beside t s bytes differ (inr late) counts = ((wrote.present t late).elsewhere s bytes differ).1 counts
