-- The numbers of the pseudo file systems of a volume: they stay apart, and a number that is used stays used.
use Rattle.std.proofs.Common.{◌≡◌, ℕ, ◌<◌, Bool, true, false, List, [], ◌∷◌, ◌++◌, eqb, refl, sym, ap, subst, ◌∙◌}
use Rattle.std.specs.Prelude.{None, Some, if◌then◌else◌}
use Rattle.std.specs.List.{All, AllByRecursion, Contains, IsDistinct}
use Rattle.std.proofs.lemmas.List.Elements.{All-contains, All-push}
use Rattle.std.proofs.lemmas.Map.Keys.{IsDistinct-cons, IsDistinct-head, IsDistinct-tail}
use Rattle.hm_types.specs.declared.limits.TheConstants.{MOST_PFS}
use Rattle.hm_model.specs.After.{of_pfs}
use Rattle.hm_model.specs.Change.{with_system}
use Rattle.hm_model.specs.Volume.{PseudoFileSystem, Volume, system_of}
use Rattle.hm_model.proofs.GrowthLemmas.{KeepsNumber, changed_in, found_in}
use Rattle.hm_model.proofs.NumberLemmas.{numbers_in}
use Rattle.hm_image.specs.StandFor.{HaveNumbers}
use Rattle.hm_step.proofs.SystemLemmas.{all_after}

-- ---- after a change of one

numbers_same : (pfs : ℕ) (f : PseudoFileSystem → PseudoFileSystem) (systems : List PseudoFileSystem) → KeepsNumber f
    → numbers_in (changed_in pfs f systems) ≡ numbers_in systems
numbers_same pfs f [] keeps = refl
numbers_same pfs f (s ∷ ss) keeps = by (eqb s.number pfs) (numbers_same pfs f ss keeps) where
  by : (test : Bool) → numbers_in (changed_in pfs f ss) ≡ numbers_in ss
      → numbers_in ((if test then f s else s) ∷ changed_in pfs f ss) ≡ numbers_in (s ∷ ss)
  by true rest = ap (λ (n : ℕ). n ∷ numbers_in (changed_in pfs f ss)) (keeps s) ∙ ap (λ (l : List ℕ). s.number ∷ l) rest
  by false rest = ap (λ (l : List ℕ). s.number ∷ l) rest

pub numbers_kept : (volume : Volume) (one : ℕ) (f : PseudoFileSystem → PseudoFileSystem) → KeepsNumber f
    → All (λ s. system_of volume s.number ≡ Some s) volume.systems → HaveNumbers volume.systems → HaveNumbers (of_pfs volume one f).systems
numbers_kept volume one f keeps own have = record {
  apart = subst (IsDistinct eqb) (sym (numbers_same one f volume.systems keeps)) have.apart;
  few = all_after volume one f keeps (λ (s : PseudoFileSystem). s.number < MOST_PFS) own
      (λ s has differ. fewer s has)
      (λ s has number is. subst (λ (n : ℕ). n < MOST_PFS) (sym (keeps s)) (fewer s has));
} where
  fewer : (s : PseudoFileSystem) → Contains volume.systems s → s.number < MOST_PFS
  fewer s has = All-contains (λ (x : PseudoFileSystem). x.number < MOST_PFS) volume.systems s have.few has

-- ---- with one more

all_pushed : (n : ℕ) (systems : List PseudoFileSystem) (new : PseudoFileSystem) → AllByRecursion (λ y. eqb n y ≡ false) (numbers_in systems)
    → eqb n new.number ≡ false → AllByRecursion (λ y. eqb n y ≡ false) (numbers_in (systems ++ new ∷ []))
all_pushed n [] new all is = (is, tt)
all_pushed n (s ∷ ss) new all is = (all.0, all_pushed n ss new all.1 is)

apart_pushed : (systems : List PseudoFileSystem) (new : PseudoFileSystem) → found_in systems new.number ≡ None → IsDistinct eqb (numbers_in systems)
    → IsDistinct eqb (numbers_in (systems ++ new ∷ []))
apart_pushed [] new none apart = IsDistinct-cons eqb new.number [] tt apart
apart_pushed (s ∷ ss) new none apart = by (eqb s.number new.number) refl (apart_pushed ss new) where
  by : (test : Bool) → eqb s.number new.number ≡ test
      → (found_in ss new.number ≡ None → IsDistinct eqb (numbers_in ss) → IsDistinct eqb (numbers_in (ss ++ new ∷ [])))
      → IsDistinct eqb (numbers_in (s ∷ (ss ++ new ∷ [])))
  by true is rest = absurd (let some : Some s ≡ None = rw is at none in cc)
  by false is rest =
      IsDistinct-cons eqb s.number (numbers_in (ss ++ new ∷ []))
      (all_pushed s.number ss new (IsDistinct-head eqb s.number (numbers_in ss) apart) is)
      (rest (rw is at none) (IsDistinct-tail eqb s.number (numbers_in ss) apart))

pub numbers_more : (volume : Volume) (new : PseudoFileSystem) → system_of volume new.number ≡ None → new.number < MOST_PFS
    → HaveNumbers volume.systems → HaveNumbers (with_system volume new).systems
numbers_more volume new none few have = record {
  apart = apart_pushed volume.systems new none have.apart;
  few = All-push (λ (s : PseudoFileSystem). s.number < MOST_PFS) volume.systems new have.few few;
}
