-- Spans of keys of one object and type, by searches in a list in order.
use Rattle.std.proofs.Common.{◌≡◌, ℕ, ◌+◌, ◌≤◌, ◌<◌, List, None, ap, sym, ◌∙◌, subst, arith, inl, inr}
use Rattle.std.specs.Prelude.{◌⊎◌}
use Rattle.hm_types.specs.Elements.{Key}
use Rattle.hm_key.specs.Counts.{Subject, subject_of}
use Rattle.hm_key.specs.Elements.{element_key, first_from, last_to}
use Rattle.hm_key.specs.Key.{IsFrom}
use Rattle.hm_key.specs.declared.element.Element.{Element}
use Rattle.hm_key.proofs.KeyLemmas.{key_from_fields}
use Rattle.hm_retain.proofs.SetLemmas.{less_or_not}
use Rattle.hm_cursor.specs.Version.{AreOfOneKind, IsCountedIn, IsFirst, IsFirstIn, IsFoundAbout, IsFoundIn, IsInSpan, IsLast, IsLastIn}
use Rattle.hm_cursor.specs.Version.{IsNewestMadeOf, IsNewestOf, IsOldestOf, IsVersion}
use Rattle.hm_cursor.proofs.KeyLemmas.{create_rises, key_rises, kind_between, kind_same, subject_same}
use Rattle.hm_cursor.proofs.SearchLemmas.{IsFirstFrom, IsLastTo, found_none, none_to}
use Rattle.hm_cursor.proofs.VersionLemmas.{first_before}

-- where the elements with a number stand, of the object and the type of a key
abbrev pub span_start : Key → ℕ → Key
span_start at key = record at { key = key; create = 0 }

-- what counts in a span has at least this number
abbrev pub NoneBelow : List Element → Key → ℕ → ℕ → ℕ → Type 0
NoneBelow es at last t key = (e : Element) → IsCountedIn es at last t e → key ≤ e.base.key

-- a key in a span is from the start of the numbers on that are not above its own
start_from : (at : Key) (last key : ℕ) (k : Key) → IsInSpan at last k → key ≤ k.key → IsFrom (span_start at key) k
start_from at last key k place up =
    key_from_fields (span_start at key) k (omega (arith, place.localization)) (omega (arith, place.obj)) (omega (arith, place.rec_type)) up (omega arith)

-- a key of that kind from the start of the numbers on has one of them
pub number_from : (at : Key) (key : ℕ) (k : Key) → AreOfOneKind k at → IsFrom (span_start at key) k → key ≤ k.key
number_from at key k kind = key_rises (span_start at key) k (record { localization = sym kind.localization; obj = sym kind.obj; rec_type = sym kind.rec_type })

-- nothing counts in a span that is passed
pub span_over : (es : List Element) (at : Key) (last t key : ℕ) → last < key → NoneBelow es at last t key → IsFirst es at last t None
span_over es at last t key past below e is = let up = below e is in let to = is.place.to in absurd (omega arith)

-- nothing counts in a span from which on there is nothing
pub span_empty : (es : List Element) (at : Key) (last t key : ℕ) → first_from (span_start at key) es ≡ None → NoneBelow es at last t key
    → IsFirst es at last t None
span_empty es at last t key found below e is = start_from at last key (element_key e) is.place (below e is)
    (found_none (span_start at key) es found e is.counts.there)

module _ (es : List Element) (at : Key) (last t key : ℕ) (oldest : Element) (search : IsFirstFrom es (span_start at key) oldest) where
  -- what counts in the span is not before the first element of it
  after_first : NoneBelow es at last t key → (e : Element) → IsCountedIn es at last t e → IsFrom (element_key oldest) (element_key e)
  after_first below e is =
      first_before es (span_start at key) oldest e search is.counts.there (start_from at last key (element_key e) is.place (below e is))

  -- nothing counts in a span where what a search finds is outside of it
  pub span_outside : ((AreOfOneKind (element_key oldest) at → ⊥) ⊎ (last < oldest.base.key)) → NoneBelow es at last t key → IsFirst es at last t None
  span_outside outside below e is =
      let after = after_first below e is in
      let place = is.place in
      let kind : AreOfOneKind (span_start at key) (element_key e) =
      record { localization = sym place.localization; obj = sym place.obj; rec_type = sym place.rec_type } in
      let between = kind_between (span_start at key) (element_key oldest) (element_key e) kind search.from after in
      elim outside [
        | inl unlike ↦ unlike (record {
          localization = between.localization ∙ place.localization;
          obj = between.obj ∙ place.obj;
          rec_type = between.rec_type ∙ place.rec_type;
        })
        | inr past ↦ let up = key_rises (element_key oldest) (element_key e) between after in let to = place.to in absurd (omega arith)
      ]

  module _ (kind : AreOfOneKind (element_key oldest) at) where
    -- its number is not below the one that the search began at
    first_number : key ≤ oldest.base.key
    first_number = number_from at key (element_key oldest) kind search.from

    -- the first element of a span is the oldest version of what it is about
    pub span_oldest : IsOldestOf es (subject_of (element_key oldest)) oldest
    span_oldest = record {
      there = search.there;
      first = λ other has about.
          let alike = kind_same (element_key other) (element_key oldest) about in
          let number : other.base.key ≡ oldest.base.key = ap (λ (s : Subject). s.key) about in
          let least = first_number in
          let from = key_from_fields (span_start at key) (element_key other)
          (omega (arith, kind.localization, alike.localization)) (omega (arith, kind.obj, alike.obj))
          (omega (arith, kind.rec_type, alike.rec_type)) (omega arith) (omega arith) in
          create_rises (element_key oldest) (element_key other) about (first_before es (span_start at key) oldest other search has from);
    }

    -- numbers do not fall from it on
    up_from : NoneBelow es at last t key → (e : Element) → IsCountedIn es at last t e → oldest.base.key ≤ e.base.key
    up_from below e is =
        let place = is.place in
        let alike : AreOfOneKind (element_key oldest) (element_key e) = record {
          localization = kind.localization ∙ sym place.localization;
          obj = kind.obj ∙ sym place.obj;
          rec_type = kind.rec_type ∙ sym place.rec_type;
        } in
        key_rises (element_key oldest) (element_key e) alike (after_first below e is)

    -- where none of its versions counts, what counts has a greater number
    pub span_passed : IsVersion es (subject_of (element_key oldest)) t None → NoneBelow es at last t key → NoneBelow es at last t (oldest.base.key + 1)
    span_passed none below e is = elim (less_or_not oldest.base.key e.base.key) [
      | inl above ↦ omega arith
      | inr here ↦
          let up = up_from below e is in
          let place = is.place in
          let about : subject_of (element_key e) ≡ subject_of (element_key oldest) =
          subject_same (element_key e) (element_key oldest)
          (record {
            localization = place.localization ∙ sym kind.localization;
            obj = place.obj ∙ sym kind.obj;
            rec_type = place.rec_type ∙ sym kind.rec_type;
          })
          (omega arith) in
          absurd (none e (subst (λ (s : Subject). IsNewestOf es s t e) about is.counts))
    ]

    -- a version of what it is about stands in the span
    place_of : at.key ≤ key → oldest.base.key ≤ last → (e : Element) → subject_of (element_key e) ≡ subject_of (element_key oldest)
        → IsInSpan at last (element_key e)
    place_of low high e about =
        let alike = kind_same (element_key e) (element_key oldest) about in
        let number : e.base.key ≡ oldest.base.key = ap (λ (s : Subject). s.key) about in
        let least = first_number in
        record {
          localization = alike.localization ∙ kind.localization;
          obj = alike.obj ∙ kind.obj;
          rec_type = alike.rec_type ∙ kind.rec_type;
          from = omega arith;
          to = omega arith;
        }

    -- the version that counts there is the first of the span
    pub span_first : at.key ≤ key → oldest.base.key ≤ last → (e : Element) → IsNewestOf es (subject_of (element_key oldest)) t e
        → NoneBelow es at last t key → IsFirstIn es at last t e
    span_first low high e counts below =
        let about = counts.version.about in
        let number : e.base.key ≡ oldest.base.key = ap (λ (s : Subject). s.key) about in
        record {
          counts = subst (λ (s : Subject). IsNewestOf es s t e) (sym about) counts;
          place = place_of low high e about;
          first = λ other is. let up = up_from below other is in omega arith;
        }

-- a version of what stands in a span, that is seen, was found in it
pub found_there : (at : Key) (last t : ℕ) (here e : Element) → AreOfOneKind (element_key here) at → at.key ≤ here.base.key → here.base.key ≤ last
    → IsFoundAbout (subject_of (element_key here)) t e → IsFoundIn at last t e
found_there at last t here e kind low high seen =
    let about = seen.version.about in
    let alike = kind_same (element_key e) (element_key here) about in
    let number : e.base.key ≡ here.base.key = ap (λ (s : Subject). s.key) about in
    record {
      element = seen.element;
      seen = record {
        place = record {
          localization = alike.localization ∙ kind.localization;
          obj = alike.obj ∙ kind.obj;
          rec_type = alike.rec_type ∙ kind.rec_type;
          from = omega arith;
          to = omega arith;
        };
        seen = seen.version.seen;
      };
    }

-- ---- from the greatest number down

-- where the elements up to a number and an id end, of the object and the type of a key
abbrev pub span_end : Key → ℕ → ℕ → Key
span_end at key t = record at { key = key; create = t }

-- what counts in a span has at most this number
abbrev pub NoneAbove : List Element → Key → ℕ → ℕ → ℕ → Type 0
NoneAbove es at last t key = (e : Element) → IsCountedIn es at last t e → e.base.key ≤ key

-- a key in a span is up to the end of the numbers that are not below its own, where its id is up to that end's
end_to : (at : Key) (last key t : ℕ) (k : Key) → IsInSpan at last k → k.key ≤ key → k.create ≤ t → IsFrom k (span_end at key t)
end_to at last key t k place up made =
    key_from_fields k (span_end at key t) (omega (arith, place.localization)) (omega (arith, place.obj)) (omega (arith, place.rec_type)) up made

-- a key of that kind up to the end of the numbers has one of them
pub number_to : (at : Key) (key t : ℕ) (k : Key) → AreOfOneKind k at → IsFrom k (span_end at key t) → k.key ≤ key
number_to at key t k kind =
    key_rises k (span_end at key t) (record { localization = kind.localization; obj = kind.obj; rec_type = kind.rec_type })

-- nothing counts in a span that is passed
pub end_over : (es : List Element) (at : Key) (last t key : ℕ) → key < at.key → NoneAbove es at last t key → IsLast es at last t None
end_over es at last t key past above e is = let down = above e is in let from = is.place.from in absurd (omega arith)

-- nothing counts in a span up to which there is nothing
pub end_empty : (es : List Element) (at : Key) (last t key : ℕ) → last_to (span_end at key t) es ≡ None → NoneAbove es at last t key
    → IsLast es at last t None
end_empty es at last t key found above e is = end_to at last key t (element_key e) is.place (above e is) is.counts.version.seen.0
    (none_to (span_end at key t) es found e is.counts.there)

module _ (es : List Element) (at : Key) (last t key : ℕ) (newest : Element) (search : IsLastTo es (span_end at key t) newest) where
  -- what counts in the span is not after the last element of it
  before_last : NoneAbove es at last t key → (e : Element) → IsCountedIn es at last t e → IsFrom (element_key e) (element_key newest)
  before_last above e is =
      search.rest e is.counts.there (end_to at last key t (element_key e) is.place (above e is) is.counts.version.seen.0)

  -- nothing counts in a span where what a search finds is outside of it
  pub end_outside : ((AreOfOneKind (element_key newest) at → ⊥) ⊎ (newest.base.key < at.key)) → NoneAbove es at last t key → IsLast es at last t None
  end_outside outside above e is =
      let before = before_last above e is in
      let place = is.place in
      let kind : AreOfOneKind (element_key e) (span_end at key t) =
      record { localization = place.localization; obj = place.obj; rec_type = place.rec_type } in
      let between = kind_between (element_key e) (element_key newest) (span_end at key t) kind before search.to in
      elim outside [
        | inl unlike ↦ unlike (record { localization = between.localization; obj = between.obj; rec_type = between.rec_type })
        | inr past ↦
            let up = key_rises (element_key e) (element_key newest) (record {
              localization = place.localization ∙ sym between.localization;
              obj = place.obj ∙ sym between.obj;
              rec_type = place.rec_type ∙ sym between.rec_type;
            }) before in
            let from = place.from in absurd (omega arith)
      ]

  module _ (kind : AreOfOneKind (element_key newest) at) where
    -- its number is not above the one that the search ended at
    last_number : newest.base.key ≤ key
    last_number = number_to at key t (element_key newest) kind search.to

    -- the last element of a span is the newest version of what it is about, if it was made by then
    pub end_newest : newest.base.create ≤ t → IsNewestMadeOf es (subject_of (element_key newest)) t newest
    end_newest made = record {
      there = search.there;
      newest = λ other has about by.
          let alike = kind_same (element_key other) (element_key newest) about in
          let number : other.base.key ≡ newest.base.key = ap (λ (s : Subject). s.key) about in
          let most = last_number in
          let to = key_from_fields (element_key other) (span_end at key t)
          (omega (arith, kind.localization, alike.localization)) (omega (arith, kind.obj, alike.obj))
          (omega (arith, kind.rec_type, alike.rec_type)) (omega arith) by in
          create_rises (element_key other) (element_key newest) (sym about) (search.rest other has to);
    }

    -- numbers do not rise down from it
    down_from : NoneAbove es at last t key → (e : Element) → IsCountedIn es at last t e → e.base.key ≤ newest.base.key
    down_from above e is =
        let place = is.place in
        let alike : AreOfOneKind (element_key e) (element_key newest) = record {
          localization = place.localization ∙ sym kind.localization;
          obj = place.obj ∙ sym kind.obj;
          rec_type = place.rec_type ∙ sym kind.rec_type;
        } in
        key_rises (element_key e) (element_key newest) alike (before_last above e is)

    -- where none of its versions counts, what counts has a smaller number
    pub end_passed : IsVersion es (subject_of (element_key newest)) t None → NoneAbove es at last t key
        → (e : Element) → IsCountedIn es at last t e → e.base.key < newest.base.key
    end_passed none above e is = elim (less_or_not e.base.key newest.base.key) [
      | inl below ↦ below
      | inr here ↦
          let down = down_from above e is in
          let place = is.place in
          let about : subject_of (element_key e) ≡ subject_of (element_key newest) =
          subject_same (element_key e) (element_key newest)
          (record {
            localization = place.localization ∙ sym kind.localization;
            obj = place.obj ∙ sym kind.obj;
            rec_type = place.rec_type ∙ sym kind.rec_type;
          })
          (omega arith) in
          absurd (none e (subst (λ (s : Subject). IsNewestOf es s t e) about is.counts))
    ]

    -- a version of what it is about stands in the span
    pub end_place : at.key ≤ newest.base.key → key ≤ last → (e : Element) → subject_of (element_key e) ≡ subject_of (element_key newest)
        → IsInSpan at last (element_key e)
    end_place low high e about =
        let alike = kind_same (element_key e) (element_key newest) about in
        let number : e.base.key ≡ newest.base.key = ap (λ (s : Subject). s.key) about in
        let most = last_number in
        record {
          localization = alike.localization ∙ kind.localization;
          obj = alike.obj ∙ kind.obj;
          rec_type = alike.rec_type ∙ kind.rec_type;
          from = omega arith;
          to = omega arith;
        }

    -- the version that counts there is the last of the span
    pub end_last : at.key ≤ newest.base.key → key ≤ last → (e : Element) → IsNewestOf es (subject_of (element_key newest)) t e
        → NoneAbove es at last t key → IsLastIn es at last t e
    end_last low high e counts above =
        let about = counts.version.about in
        let number : e.base.key ≡ newest.base.key = ap (λ (s : Subject). s.key) about in
        record {
          counts = subst (λ (s : Subject). IsNewestOf es s t e) (sym about) counts;
          place = end_place low high e about;
          most = λ other is. let down = down_from above other is in omega arith;
        }
