-- The number of a new pseudo file system: which one is the least that a volume does not use, and whether one is left.
use Rattle.std.proofs.Common.{◌≡◌, ◌≢◌, ℕ, suc, ◌^◌, ◌<◌, ◌≤◌, Bool, true, false, List, [], ◌∷◌, length, eqb, refl, ap, subst, ◌∙◌, inl, inr, arith}
use Rattle.std.specs.Prelude.{Option, None, Some, find}
use Rattle.std.specs.Bool.{nat_le}
use Rattle.std.specs.List.{AllByRecursion, Contains, list_any}
use Rattle.std.proofs.lemmas.Bool.{cases_lt, eqb-true}
use Rattle.std.proofs.lemmas.Bool.Decides.{nat_tests}
use Rattle.std.proofs.lemmas.List.Elements.{All-contains}
use Rattle.std.proofs.lemmas.Map.Keys.{IsDistinct-cons}
use Rattle.std.proofs.lemmas.Map.Steps.{length-le_from_distinct_below}
use Rattle.hm_types.specs.Elements.{FullElement}
use Rattle.hm_types.specs.declared.limits.TheConstants.{MOST_PFS}
use Rattle.hm_key.specs.Counts.{Counts, Subject, record_subject}
use Rattle.hm_key.specs.Element.{pfs_of}
use Rattle.hm_model.specs.Due.{new_pfs, refuse_if}
use Rattle.hm_model.specs.View.{View}
use Rattle.hm_model.specs.Volume.{PseudoFileSystem, Volume, system_of}
use Rattle.hm_model.specs.declared.reply.Reply.TheVariants.{PfsFull}
use Rattle.hm_model.proofs.NewPfsLemmas.{none-new}
use Rattle.hm_model.proofs.NumberLemmas.{is_used, least_unused-is, no_more_than, numbers_in, used_some}
use Rattle.hm_records.specs.Changes.{CountsNothing}
use Rattle.hm_types.specs.Intervals.{open_end}
use Rattle.hm_records.proofs.CountsLemmas.{record_counts}
use Rattle.hm_records.proofs.MemberLemmas.{has_head, has_tail}
use Rattle.hm_volume.specs.Records.{AreOfSystems}
use Rattle.hm_volume.specs.Shown.{ShowsAs}
use Rattle.hm_volume.proofs.RecordLemmas.{system_none}
use Rattle.hm_pfs.specs.Records.{IsFirstUnused, IsUsed}
use Rattle.hm_calls.specs.Changes.{HasSystem}
use Rattle.hm_calls.specs.NewSystems.{HasKnownNumbers, pfs_check}

-- a number without a record is that of no pseudo file system
pub number_gone : (es : List FullElement) (volume : Volume) (view : View) (pfs : ℕ) → ShowsAs es volume view
    → CountsNothing (Counts es open_end) (record_subject pfs) → system_of volume pfs ≡ None
number_gone es volume view pfs shows none =
    system_none es volume pfs shows.records (λ bytes has.
    none bytes ((record_counts es pfs (2 ^ 64) open_end bytes shows.ids (omega arith)).0 has))

-- one with a record is that of one, where each element is of one
number_used : (es : List FullElement) (volume : Volume) (pfs : ℕ) → AreOfSystems es volume → IsUsed es pfs → HasSystem volume pfs
number_used es volume pfs of_systems used =
    subst (HasSystem volume) here
    (All-contains (λ (e : FullElement). HasSystem volume (pfs_of e.key.localization)) es used.counts.element of_systems used.counts.there)
  where
    here : pfs_of used.counts.element.key.localization ≡ pfs
    here = ap (λ (s : Subject). pfs_of s.localization) used.counts.about ∙ omega arith

pub no_system : (volume : Volume) (pfs : ℕ) → system_of volume pfs ≡ None → HasSystem volume pfs → ⊥
no_system volume pfs none (s, is) = cc

-- the one with a number among some
abbrev system_in : List PseudoFileSystem → ℕ → Option PseudoFileSystem
system_in systems n = find (λ (s : PseudoFileSystem). eqb s.number n) systems

-- what a volume has under a number is among its numbers
in_numbers : (systems : List PseudoFileSystem) (n : ℕ) (s : PseudoFileSystem) → system_in systems n ≡ Some s → is_used (numbers_in systems) n ≡ true
in_numbers [] n s is = absurd (cc)
in_numbers (x ∷ xs) n s is = by (eqb x.number n) refl (in_numbers xs n s) where
  by : (test : Bool) → eqb x.number n ≡ test → (system_in xs n ≡ Some s → is_used (numbers_in xs) n ≡ true) → is_used (numbers_in (x ∷ xs)) n ≡ true
  by true here rest = rw here refl
  by false not rest = rw not (rest (rw not at is))

module _ (numbers : ℕ) (es : List FullElement) (volume : Volume) (view : View) (shows : ShowsAs es volume view)
    (counted : HasKnownNumbers numbers es volume) where
  -- each number below the least unused one is used
  used_below : (pfs : ℕ) → IsFirstUnused es numbers pfs → (n : ℕ) → n < pfs → HasSystem volume n
  used_below pfs first n less = elim (cases_lt n numbers) [
    | inl before ↦ counted.used n before
    | inr onward ↦ number_used es volume n counted.of_systems (first.used n (omega (arith, onward)) less)
  ]

  -- it is the one that the model takes
  pub number_is : (pfs : ℕ) → IsFirstUnused es numbers pfs → new_pfs volume ≡ pfs
  number_is pfs first = elim (cases_lt (new_pfs volume) pfs) [
    | inl less ↦ absurd (no_system volume (new_pfs volume) (none-new volume) (used_below pfs first (new_pfs volume) less))
    | inr not ↦ elim (cases_lt pfs (new_pfs volume)) [
      | inl more ↦ absurd (no_system volume pfs (number_gone es volume view pfs shows first.unused)
          (used_some volume.systems pfs ((least_unused-is (numbers_in volume.systems)).1 pfs more)))
      | inr neither ↦ omega (arith, not, neither)
    ]
  ]

  -- where one is unused there are fewer than may be
  apart_from : (pfs : ℕ) → system_of volume pfs ≡ None → (systems : List PseudoFileSystem)
      → ((s : PseudoFileSystem) → Contains systems s → s.number ≢ pfs) → AllByRecursion (λ y. eqb pfs y ≡ false) (numbers_in systems)
  apart_from pfs none [] each = tt
  apart_from pfs none (s ∷ systems) each =
      let differ : s.number ≢ pfs = each s (has_head s systems) in
      (grind (arith, nat_tests, differ), apart_from pfs none systems (λ x has. each x (has_tail s x systems has)))

  all_few : (pfs : ℕ) → pfs < 2 ^ 16 → (systems : List PseudoFileSystem) → ((s : PseudoFileSystem) → Contains systems s → s.number < 2 ^ 16) → (q : ℕ)
      → list_any (eqb q) (pfs ∷ numbers_in systems) ≡ true → q < 2 ^ 16
  all_few pfs few systems each q is = by (eqb q pfs) refl where
    among : (list : List PseudoFileSystem) → ((s : PseudoFileSystem) → Contains list s → s.number < 2 ^ 16) → list_any (eqb q) (numbers_in list) ≡ true
        → q < 2 ^ 16
    among [] all is' = absurd (cc)
    among (s ∷ list) all is' = here (eqb q s.number) refl (among list (λ x has. all x (has_tail s x list has))) where
      here : (test : Bool) → eqb q s.number ≡ test → (list_any (eqb q) (numbers_in list) ≡ true → q < 2 ^ 16) → q < 2 ^ 16
      here true same rest = let small = all s (has_head s list) in omega (arith, eqb-true q s.number same, small)
      here false differ rest = rest (rw differ at is')

    by : (test : Bool) → eqb q pfs ≡ test → q < 2 ^ 16
    by true same = omega (arith, eqb-true q pfs same, few)
    by false differ = among systems each (rw differ at is)

  fewer : (pfs : ℕ) → IsFirstUnused es numbers pfs → length (pfs ∷ numbers_in volume.systems) ≤ 2 ^ 16
  fewer pfs first =
      length-le_from_distinct_below (pfs ∷ numbers_in volume.systems) (2 ^ 16)
      (IsDistinct-cons eqb pfs (numbers_in volume.systems) (apart_from pfs none volume.systems differ) counted.apart)
      (all_few pfs first.few volume.systems (λ s has. All-contains (λ (x : PseudoFileSystem). x.number < MOST_PFS) volume.systems s counted.few has)) where
        none : system_of volume pfs ≡ None
        none = number_gone es volume view pfs shows first.unused

        differ : (s : PseudoFileSystem) → Contains volume.systems s → s.number ≢ pfs
        differ s has same =
            no_system volume pfs none
            (subst (HasSystem volume) same
            (s, All-contains (λ (x : PseudoFileSystem). system_of volume x.number ≡ Some x) volume.systems s shows.own has))

  length_numbers : (systems : List PseudoFileSystem) → length (numbers_in systems) ≡ length systems
  length_numbers [] = refl
  length_numbers (s ∷ systems) = ap suc (length_numbers systems)

  check_of : (full : Bool) → nat_le MOST_PFS (length volume.systems) ≡ full → pfs_check volume ≡ refuse_if full PfsFull
  check_of full is = ap (λ b. refuse_if b PfsFull) is

  -- a number is left
  pub number_left : (pfs : ℕ) → IsFirstUnused es numbers pfs → pfs_check volume ≡ None
  number_left pfs first =
      let less : length volume.systems < 2 ^ 16 = omega (arith, fewer pfs first, length_numbers volume.systems) in
      check_of false (grind (arith, nat_tests, less))

  -- none is
  pub none_left : ((n : ℕ) → numbers ≤ n → n < 2 ^ 16 → IsUsed es n) → pfs_check volume ≡ Some PfsFull
  none_left all =
      let most : 2 ^ 16 ≤ length (numbers_in volume.systems) = no_more_than (2 ^ 16) (numbers_in volume.systems) used in
      let many : 2 ^ 16 ≤ length volume.systems = omega (arith, most, length_numbers volume.systems) in
      check_of true (grind (arith, nat_tests, many))
    where
      has : (n : ℕ) → n < 2 ^ 16 → HasSystem volume n
      has n less = elim (cases_lt n numbers) [
        | inl before ↦ counted.used n before
        | inr onward ↦ number_used es volume n counted.of_systems (all n (omega (arith, onward)) less)
      ]

      used : (n : ℕ) → n < 2 ^ 16 → is_used (numbers_in volume.systems) n ≡ true
      used n less = let (s, is) = has n less in in_numbers volume.systems n s is
