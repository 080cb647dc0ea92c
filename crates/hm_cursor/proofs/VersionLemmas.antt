-- Versions of a subject, by searches in a list in order.
use Rattle.std.proofs.Common.{◌≡◌, ℕ, ◌<◌, List, Some, None, sym, ◌∙◌, subst, arith, inl, inr}
use Rattle.std.specs.List.{Contains}
use Rattle.hm_types.specs.Elements.{Key, Sees}
use Rattle.hm_key.specs.Counts.{Subject, subject_of}
use Rattle.hm_key.specs.Elements.{IsContent, element_key, last_to}
use Rattle.hm_key.specs.Key.{IsFrom}
use Rattle.hm_key.specs.declared.element.Element.{Element}
use Rattle.hm_key.proofs.KeyLemmas.{key_from_before, key_not_before}
use Rattle.hm_cursor.specs.Version.{IsMadeUpTo, IsNewestMade, IsNewestMadeOf, IsNewestOf, IsOldestOf, IsVersion}
use Rattle.hm_cursor.proofs.KeyLemmas.{subject_from, subject_between, create_rises}
use Rattle.hm_cursor.proofs.SearchLemmas.{IsFirstFrom, found_last, none_to, one_at_key}

-- an element from a key on is not before the first one from there on
pub first_before : (es : List Element) (at : Key) (e other : Element) → IsFirstFrom es at e → Contains es other → IsFrom at (element_key other)
    → IsFrom (element_key e) (element_key other)
first_before es at e other first has from = elim (first.rest other has from) [
  | inl same ↦ subst (λ (x : Element). IsFrom (element_key e) (element_key x)) same (key_not_before (element_key e))
  | inr before ↦ key_from_before (element_key e) (element_key other) before
]

-- a search up to an id that finds none finds no version that was made by then
pub none_made : (at : Key) (es : List Element) → last_to at es ≡ None → IsNewestMade es (subject_of at) at.create None
none_made at es found e has about made = subject_from (element_key e) at (sym about) made (none_to at es found e has)

-- nor does one that finds what is about another subject
pub other_made : (at : Key) (es : List Element) (e : Element) → IsContent es → last_to at es ≡ Some e
    → (subject_of (element_key e) ≡ subject_of at → ⊥) → IsNewestMade es (subject_of at) at.create None
other_made at es e content found unlike x has about made =
    let last = found_last at e es content.rising found in
    let to = last.rest x has (subject_from (element_key x) at (sym about) made) in
    unlike (subject_between (element_key x) (element_key e) at (sym about) to last.to ∙ about)

-- one that finds a version finds the newest that was made by then
pub one_made : (at : Key) (es : List Element) (e : Element) → IsContent es → last_to at es ≡ Some e → subject_of (element_key e) ≡ subject_of at
    → IsNewestMadeOf es (subject_of at) at.create e
one_made at es e content found same =
    let last = found_last at e es content.rising found in
    record {
      there = last.there;
      newest = λ x has about made.
          create_rises (element_key x) (element_key e) (same ∙ sym about) (last.rest x has (subject_from (element_key x) at (sym about) made));
    }

-- nothing counts where the oldest version was made later
pub none_yet : (es : List Element) (s : Subject) (t : ℕ) (e : Element) → IsOldestOf es s e → t < e.base.create → IsVersion es s t None
none_yet es s t e oldest late other is =
    let up = oldest.first other is.there is.version.about in
    let by = is.version.seen.0 in absurd (omega arith)

-- nothing counts where nothing was made
pub none_seen : (es : List Element) (s : Subject) (t : ℕ) → IsNewestMade es s t None → IsVersion es s t None
none_seen es s t none e is = none e is.there is.version.about is.version.seen.0

-- the newest one made counts where it is seen
pub newest_counts : (es : List Element) (s : Subject) (t : ℕ) (e : Element) → subject_of (element_key e) ≡ s → Sees e.base.create e.base.delete t
    → IsNewestMadeOf es s t e → IsNewestOf es s t e
newest_counts es s t e about sees newest = record {
  there = newest.there;
  version = record { about = about; seen = sees };
  newest = newest.newest;
}

-- versions made by one id are one
one_version : (es : List Element) (x y : Element) → IsContent es → Contains es x → Contains es y → subject_of (element_key x) ≡ subject_of (element_key y)
    → x.base.create ≡ y.base.create → x ≡ y
one_version es x y content has_x has_y about made = one_at_key es x y content.rising has_x has_y (λ i. record {
  localization = (about i).localization;
  obj = (about i).obj;
  rec_type = (about i).rec_type;
  key = (about i).key;
  create = made i;
})

-- and where it is not, nothing does
pub newest_closed : (es : List Element) (s : Subject) (t : ℕ) (e : Element) → IsContent es → IsMadeUpTo s t e
    → (Sees e.base.create e.base.delete t → ⊥) → IsNewestMadeOf es s t e → IsVersion es s t None
newest_closed es s t e content made unseen newest other is =
    let one : e ≡ other =
    one_version es e other content newest.there is.there (made.about ∙ sym is.version.about)
    (omega (arith, newest.newest other is.there is.version.about is.version.seen.0, is.newest e newest.there made.about made.made)) in
    unseen (subst (λ (x : Element). Sees x.base.create x.base.delete t) (sym one) is.version.seen)
