-- Bytes that are closed, in stores that may tell their content.
use Rattle.std.proofs.Common.{◌≡◌, ℕ, ◌+◌, ◌<◌, ◌≤◌, List, Option, None, Some, ap, arith, false, refl, sym, subst, true≢false}
use Rattle.std.specs.Prelude.{IfSome, IsSomeAnd, is_some}
use Rattle.hm_types.specs.Elements.{Key}
use Rattle.hm_key.specs.Balance.{IsBalanced, content_of}
use Rattle.hm_key.specs.Counts.{Subject, bytes_subject, subject_of}
use Rattle.hm_key.specs.Elements.{element_key}
use Rattle.hm_key.specs.Extents.{Extent}
use Rattle.hm_key.specs.declared.element.Element.{Element}
use Rattle.hm_cursor.specs.Told.{Lists, fulls}
use Rattle.hm_cursor.specs.Version.{IsLast}
use Rattle.hm_cursor.specs.Write.{IsFreshFor, KeepPlaces, Rewrites}
use Rattle.hm_files.specs.Close.{AreOlder, ClosesBytes}
use Rattle.hm_files.proofs.CloseLemmas.{HaveClosed, closed_all, closed_fresh, closed_more, none_closed}

-- where a store told its content, it tells it still, and the bytes of a file that end in a span are closed in it
abbrev pub ClosedTold : ℕ → ℕ → ℕ → ℕ → ℕ → Option (List Element) → Option (List Extent) → Option (List Element) → Option (List Extent) → Type 0
ClosedTold pfs obj i first end es xs es' xs' =
    IfSome (content_of es xs) (λ was. IsSomeAnd (content_of es' xs') (HaveClosed pfs obj i first end was))

-- a store that told nothing tells nothing
nothing_told : (P : Lists → Type 0) (es : Option (List Element)) (xs : Option (List Extent)) → is_some (content_of es xs) ≡ false → IfSome (content_of es xs) P
nothing_told P es xs told = by_told (content_of es xs) told where
  by_told : (o : Option Lists) → is_some o ≡ false → IfSome o P
  by_told None told = tt
  by_told (Some lists) told = absurd (true≢false told)

-- a store keeps whether it tells its content where it keeps whether it tells both lists
pub content_told : (es es' : Option (List Element)) (xs xs' : Option (List Extent)) → is_some es' ≡ is_some es → is_some xs' ≡ is_some xs
    → is_some (content_of es' xs') ≡ is_some (content_of es xs)
content_told None None xs xs' elements extents = refl
content_told None (Some _) xs xs' elements extents = absurd (true≢false elements)
content_told (Some _) None xs xs' elements extents = absurd (true≢false (sym elements))
content_told (Some _) (Some _) None None elements extents = refl
content_told (Some _) (Some _) None (Some _) elements extents = absurd (true≢false extents)
content_told (Some _) (Some _) (Some _) None elements extents = absurd (true≢false (sym extents))
content_told (Some _) (Some _) (Some _) (Some _) elements extents = refl

module _ (pfs obj i last : ℕ) where
  pub told_none : (es : Option (List Element)) (xs : Option (List Extent)) → IfSome (content_of es xs) (λ was. IsBalanced was.0 was.1)
      → ClosedTold pfs obj i (last + 1) (last + 1) es xs es xs
  told_none None xs balanced = tt
  told_none (Some es) None balanced = tt
  told_none (Some es) (Some xs) balanced = none_closed pfs obj i (last + 1) (es, xs) balanced

  -- a store that stayed
  pub told_moved : (first : ℕ) (es es' es'' : Option (List Element)) (xs xs' xs'' : Option (List Extent)) → es'' ≡ es' → xs'' ≡ xs'
      → ClosedTold pfs obj i first (last + 1) es xs es' xs' → ClosedTold pfs obj i first (last + 1) es xs es'' xs''
  told_moved first es es' es'' xs xs' xs'' same stay closed =
      subst (λ (o : Option (List Element)). ClosedTold pfs obj i first (last + 1) es xs o xs'') (sym same)
      (subst (λ (o : Option (List Extent)). ClosedTold pfs obj i first (last + 1) es xs es' o) (sym stay) closed)

  -- what the call did
  pub told_closed : (first : ℕ) (es es' : Option (List Element)) (xs xs' : Option (List Extent)) → ClosedTold pfs obj i first (last + 1) es xs es' xs'
      → IfSome (content_of es xs) (λ was. IsBalanced was.0 was.1
      → IsSomeAnd (content_of es' xs') (λ now. IsBalanced now.0 now.1 × ClosesBytes pfs obj i first (last + 1) (fulls was) (fulls now)))
  told_closed first None es' xs xs' closed = tt
  told_closed first (Some es) es' None xs' closed = tt
  told_closed first (Some es) None (Some xs) xs' closed = absurd closed
  told_closed first (Some es) (Some es') (Some xs) None closed = absurd closed
  told_closed first (Some es) (Some es') (Some xs) (Some xs') closed = λ balanced. (closed.balanced, closed.closes)

  -- where the span has no offset, nothing was to be done
  pub told_empty : (first : ℕ) (es es' : Option (List Element)) (xs xs' : Option (List Extent)) → last < first
      → ClosedTold pfs obj i (last + 1) (last + 1) es xs es' xs' → ClosedTold pfs obj i first (last + 1) es xs es' xs'
  told_empty first None es' xs xs' none closed = tt
  told_empty first (Some es) es' None xs' none closed = tt
  told_empty first (Some es) None (Some xs) xs' none closed = absurd closed
  told_empty first (Some es) (Some es') (Some xs) None none closed = absurd closed
  told_empty first (Some es) (Some es') (Some xs) (Some xs') none closed = record {
    balanced = closed.balanced;
    placed = closed.placed;
    closes = record {
      writes = closed.closes.writes;
      gone = λ t n late from below. absurd (omega (arith, from, below, none));
      beside = λ t s bytes apart. closed.closes.beside t s bytes (λ n from below. absurd (omega (arith, from, below)));
      follows = closed.closes.follows;
    };
  }

  -- each payload stands where it stood
  pub told_placed : (first : ℕ) (es es' : Option (List Element)) (xs xs' : Option (List Extent)) → ClosedTold pfs obj i first (last + 1) es xs es' xs'
      → IfSome (content_of es xs) (λ was. IsSomeAnd (content_of es' xs') (KeepPlaces was))
  told_placed first None es' xs xs' closed = tt
  told_placed first (Some es) es' None xs' closed = tt
  told_placed first (Some es) None (Some xs) xs' closed = absurd closed
  told_placed first (Some es) (Some es') (Some xs) None closed = absurd closed
  told_placed first (Some es) (Some es') (Some xs) (Some xs') closed = closed.placed

  module _ (at : Key) (first key : ℕ) (here : subject_of at ≡ bytes_subject pfs obj first) (within : key ≤ last) where
    pub told_all : (es es' : Option (List Element)) (xs xs' : Option (List Extent)) → first ≤ key
        → IfSome (content_of es xs) (λ was. AreOlder pfs obj i first (fulls was)) → IfSome es' (λ list. IsLast list at key i None)
        → ClosedTold pfs obj i (key + 1) (last + 1) es xs es' xs' → ClosedTold pfs obj i first (last + 1) es xs es' xs'
    told_all None es' xs xs' more older none closed = tt
    told_all (Some es) es' None xs' more older none closed = tt
    told_all (Some es) None (Some xs) xs' more older none closed = absurd closed
    told_all (Some es) (Some es') (Some xs) None more older none closed = absurd closed
    told_all (Some es) (Some es') (Some xs) (Some xs') more older none closed =
        closed_all at pfs obj first key last i here (es, xs) (es', xs') older closed none more within

    pub told_fresh : (e : Element) (es es' : Option (List Element)) (xs xs' : Option (List Extent))
        → IfSome (content_of es xs) (λ was. AreOlder pfs obj i first (fulls was)) → IfSome es' (λ list. IsLast list at key i (Some e))
        → ClosedTold pfs obj i (key + 1) (last + 1) es xs es' xs'
        → is_some (content_of es' xs') ≡ is_some (content_of es xs)
        → IfSome (content_of es' xs') (λ mid. IsFreshFor (subject_of (element_key e)) i (fulls mid))
    told_fresh e None es' xs xs' older found closed told = nothing_told (λ mid. IsFreshFor (subject_of (element_key e)) i (fulls mid)) es' xs' told
    told_fresh e (Some es) es' None xs' older found closed told = nothing_told (λ mid. IsFreshFor (subject_of (element_key e)) i (fulls mid)) es' xs' told
    told_fresh e (Some es) None (Some xs) xs' older found closed told = absurd closed
    told_fresh e (Some es) (Some es') (Some xs) None older found closed told = absurd closed
    told_fresh e (Some es) (Some es') (Some xs) (Some xs') older found closed told =
        closed_fresh at pfs obj first key last i here (es, xs) (es', xs') older closed e found

    pub told_more : (e : Element) (es es' es'' : Option (List Element)) (xs xs' xs'' : Option (List Extent))
        → IfSome (content_of es xs) (λ was. AreOlder pfs obj i first (fulls was)) → IfSome es' (λ list. IsLast list at key i (Some e))
        → IfSome (content_of es' xs') (λ mid. IsBalanced mid.0 mid.1
        → IsSomeAnd (content_of es'' xs'') (λ now. IsBalanced now.0 now.1 × Rewrites (subject_of (element_key e)) None i (fulls mid) (fulls now)))
        → IfSome (content_of es' xs') (λ mid. IsSomeAnd (content_of es'' xs'') (KeepPlaces mid))
        → ClosedTold pfs obj i (key + 1) (last + 1) es xs es' xs' → ClosedTold pfs obj i e.base.key (last + 1) es xs es'' xs''
    told_more e None es' es'' xs xs' xs'' older found wrote placed closed = tt
    told_more e (Some es) es' es'' None xs' xs'' older found wrote placed closed = tt
    told_more e (Some es) None es'' (Some xs) xs' xs'' older found wrote placed closed = absurd closed
    told_more e (Some es) (Some es') es'' (Some xs) None xs'' older found wrote placed closed = absurd closed
    told_more e (Some es) (Some es') es'' (Some xs) (Some xs') xs'' older found wrote placed closed =
        by_now (content_of es'' xs'') (wrote closed.balanced) placed where
          by_now : (now : Option Lists)
              → IsSomeAnd now (λ now. IsBalanced now.0 now.1 × Rewrites (subject_of (element_key e)) None i (fulls (es', xs')) (fulls now))
              → IsSomeAnd now (KeepPlaces (es', xs')) → IsSomeAnd now (HaveClosed pfs obj i e.base.key (last + 1) (es, xs))
          by_now None wrote placed = absurd wrote
          by_now (Some now) wrote placed =
              closed_more at pfs obj first key last i here (es, xs) (es', xs') older closed e found now within wrote.0 placed wrote.1

    -- what was found is closed, after a search that left the store as it was
    pub told_step : (found : Option Element) (e : Element) (es es' mid es'' : Option (List Element)) (xs xs' mid_xs xs'' : Option (List Extent))
        → mid ≡ es' → mid_xs ≡ xs' → found ≡ Some e
        → IfSome (content_of es xs) (λ was. AreOlder pfs obj i first (fulls was)) → IfSome es' (λ list. IsLast list at key i found)
        → IfSome (content_of mid mid_xs) (λ mid. IsBalanced mid.0 mid.1
        → IsSomeAnd (content_of es'' xs'') (λ now. IsBalanced now.0 now.1 × Rewrites (subject_of (element_key e)) None i (fulls mid) (fulls now)))
        → IfSome (content_of mid mid_xs) (λ mid. IsSomeAnd (content_of es'' xs'') (KeepPlaces mid))
        → ClosedTold pfs obj i (key + 1) (last + 1) es xs es' xs' → ClosedTold pfs obj i e.base.key (last + 1) es xs es'' xs''
    told_step found e es es' mid es'' xs xs' mid_xs xs'' same stay is older searched wrote placed closed =
        told_more e es mid es'' xs mid_xs xs'' older
        (subst (λ (o : Option (List Element)). IfSome o (λ list. IsLast list at key i (Some e))) (sym same)
        (subst (λ (f : Option Element). IfSome es' (λ list. IsLast list at key i f)) is searched))
        wrote placed (told_moved (key + 1) es es' mid xs xs' mid_xs same stay closed)

-- a search from a key down went down from the offset that the key is about
pub searched_from : (es : Option (List Element)) (at span : Key) (pfs obj key i : ℕ) (found : Option Element) → subject_of at ≡ bytes_subject pfs obj key
    → IfSome es (λ list. IsLast list span at.key i found) → IfSome es (λ list. IsLast list span key i found)
searched_from es at span pfs obj key i found here searched =
    subst (λ (n : ℕ). IfSome es (λ list. IsLast list span n i found)) (ap (λ (s : Subject). s.key) here) searched
