-- Pages that come into a store.
use Rattle.std.proofs.Common.{◌≡◌, ◌≢◌, ◌==◌, ℕ, List, Bool, true, false, if◌then◌else◌, Option, Some, None, IsSome, IfSome, Result, Ok, Err, OnOk}
use Rattle.std.proofs.Common.{IfOk, IfErr, IsTrue, ◌↔◌, inl, inr, refl, sym, ap, subst, ◌∙◌, eq-eqb, arith}
use Rattle.std.proofs.lemmas.Bool.{cases_eq}
use Rattle.std.proofs.lemmas.Bool.Decides.{nat_tests}
use Rattle.std.proofs.lemmas.Grind.{common_steps}
use mathlib.Core.Path.{fun_ext}
use Rattle.hm_types.specs.declared.fault.Fault.{Fault}
use Rattle.hm_types.specs.declared.fault.Fault.TheVariants.{Media, Damaged, NoMemory}
use Rattle.hm_fields.specs.Pages.{PageMap}
use Rattle.hm_pages.specs.Calls.{IsLoaded as is_loaded}
use Rattle.hm_pages.specs.Maps.{set_at}
use Rattle.hm_pages.specs.Sets.{ChangeSet}
use Rattle.hm_pages.specs.Store.{Store, empty_store}
use Rattle.hm_btree.specs.Space.{IsSpot}
use Rattle.hm_load.specs.Faults.{Tells}
use Rattle.hm_load.specs.Loaded.{IsPlain, Puts}
use Rattle.hm_load.specs.Tree.{Adds}

-- a function that was set at an offset, there and elsewhere
pub set_here : {X : Type 0} (at : ℕ) (value : X) (f : ℕ → X) → set_at at value f at ≡ value
set_here at value f = rw (eq-eqb at at refl) refl

pub set_other : {X : Type 0} (at : ℕ) (value : X) (f : ℕ → X) (other : ℕ) → other ≢ at → set_at at value f other ≡ f other
set_other at value f other apart = grind (arith, common_steps, nat_tests, apart)

forgot : (here : Bool) → (if here then false else false) ≡ false
forgot true = refl
forgot false = refl

set_same : (at : ℕ) → ◌≡◌ {A = ℕ → Bool} (set_at at false (λ other. false)) (λ other. false)
set_same at = fun_ext (λ other. forgot (other == at))

-- a load into a store whose three maps are one
pub plain_puts : (at : ℕ) (page : List ℕ) (old new : Store) → IsPlain old → is_loaded at page old new → Puts at page old new
plain_puts at page old new plain loaded =
    let changed : ◌≡◌ {A = ℕ → Bool} new.group.changed (λ other. false) = loaded.changed ∙ ap
    (λ (g : ChangeSet). set_at at false g.changed) plain.group ∙ set_same at in
    let pages : new.group.pages ≡ 0 = loaded.pages ∙ ap (λ (g : ChangeSet). g.pages) plain.group in
    record {
      plain = record {
        frozen = loaded.frozen ∙ ap (set_at at (Some page)) plain.frozen ∙ sym loaded.committed;
        current = loaded.current ∙ ap (set_at at (Some page)) plain.current ∙ sym loaded.committed;
        begin = loaded.call.1 ∙ plain.begin;
        call = loaded.call.0 ∙ plain.call;
        group = λ i. record { changed = changed i; pages = pages i };
        flush = (loaded.flush.0 ∙ plain.flush.0, loaded.flush.1 ∙ plain.flush.1);
      };
      put = loaded.current;
    }

-- a page that came into a map which had none there, where a node may stand
pub put_adds : (at : ℕ) (page : List ℕ) (old new : PageMap) → old at ≡ None → new ≡ set_at at (Some page) old → IsSpot at → Adds (λ x. x ≡ at) old new
put_adds at page old new free put spot = record {
  kept = λ x bytes is. elim (cases_eq x at) [
    | inl same ↦ let none : Some bytes ≡ None = sym is ∙ (ap old same ∙ free) in absurd cc
    | inr apart ↦ ap (λ (map : PageMap). map x) put ∙ (set_other at (Some page) old x apart ∙ is)
  ];
  added = λ x there. elim (cases_eq x at) [
    | inl same ↦ inr same
    | inr apart ↦ inl (subst IsSome (ap (λ (map : PageMap). map x) put ∙ set_other at (Some page) old x apart) there)
  ];
  spots = λ x there. elim (cases_eq x at) [
    | inl same ↦ inr (subst IsSpot (sym same) spot)
    | inr apart ↦ inl (subst IsSome (ap (λ (map : PageMap). map x) put ∙ set_other at (Some page) old x apart) there)
  ];
}

-- what follows from a fact of a success
pub on_ok : {T E A B : Type 0} (r : Result T E) → (A → B) → OnOk r A → OnOk r B
on_ok (Ok x) so fact = so fact
on_ok (Err e) so fact = fact

-- what follows from facts of what is told
pub told_both : {A : Type 0} {P Q R : A → Type 0} (told : Option A) → ((t : A) → P t → Q t → R t) → IfSome told P → IfSome told Q → IfSome told R
told_both None so p q = tt
told_both (Some t) so p q = so t p q

-- what is told now was told before
pub told_was : {A : Type 0} (P : A → Type 0) (now old : Option A) → now ≡ old → IfSome now P → IfSome old P
told_was P now old same fact = subst (λ o. IfSome o P) same fact

-- an empty store is plain
pub empty_plain : (s : Store) → s ≡ empty_store → IsPlain s
empty_plain s is = subst IsPlain (sym is) (record { frozen = refl; current = refl; begin = refl; call = refl; group = refl; flush = (refl, refl) })

pub empty_map : (s : Store) (at : ℕ) → s ≡ empty_store → s.current at ≡ None
empty_map s at is = ap (λ (t : Store). t.current at) is

pub told_so : {A : Type 0} {P R : A → Type 0} (told : Option A) → ((t : A) → P t → R t) → IfSome told P → IfSome told R
told_so None so p = tt
told_so (Some t) so p = so t p

-- an error that is passed on
module _ {A T : Type 0} where
  pub err_is : (told : Option A) (P : A → Fault → Type 0) (r : Result T Fault) (y e : Fault) → r ≡ Err y → y ≡ e → IfSome told (λ t. P t e)
      → IfSome told (λ t. IfErr r (P t))
  err_is None P r y e is same fact = tt
  err_is (Some t) P r y e is same fact = subst (λ (q : Result T Fault). IfErr q (P t)) (sym (is ∙ ap Err same)) fact

  pub err_no_ok : (told : Option A) (Q : A → T → Type 0) (r : Result T Fault) (y : Fault) → r ≡ Err y → IfSome told (λ t. IfOk r (Q t))
  err_no_ok None Q r y is = tt
  err_no_ok (Some t) Q r y is = subst (λ (q : Result T Fault). IfOk q (Q t)) (sym is) tt

-- both ways, one after the other
pub iff_through : {A B C : Type 0} → A ↔ B → B ↔ C → A ↔ C
iff_through first second = (λ a. second.0 (first.0 a), λ c. first.1 (second.1 c))

-- what follows from what a fault tells
pub tells_so : (P Q : ℕ → ℕ → Type 0) (fault : Fault) → ((at kind : ℕ) → P at kind → Q at kind) → Tells P fault → Tells Q fault
tells_so P Q (Media before after) so tells = tt
tells_so P Q NoMemory so tells = tt
tells_so P Q (Damaged at kind) so tells = so at kind tells

pub iff_ok : {E : Type 0} (r : Result Bool E) (A B : Type 0) → A ↔ B → IfOk r (λ is. IsTrue is ↔ A) → IfOk r (λ is. IsTrue is ↔ B)
iff_ok (Ok is) A B both first = iff_through first both
iff_ok (Err e) A B both first = tt

pub told_three : {A : Type 0} {P Q R S : A → Type 0} (told : Option A) → ((t : A) → P t → Q t → R t → S t) → IfSome told P → IfSome told Q
    → IfSome told R → IfSome told S
told_three None so p q r = tt
told_three (Some t) so p q r = so t p q r

-- what holds anyway holds after a success
pub on_any : {T E A : Type 0} (r : Result T E) → A → OnOk r A
on_any (Ok x) fact = fact
on_any (Err e) fact = tt

pub err_no_on : {A T : Type 0} (told : Option A) (Q : A → Type 0) (r : Result T Fault) (y : Fault) → r ≡ Err y → IfSome told (λ t. OnOk r (Q t))
err_no_on None Q r y is = tt
err_no_on {T = T} (Some t) Q r y is = subst (λ (q : Result T Fault). OnOk q (Q t)) (sym is) tt

pub told_any : {A : Type 0} {P : A → Type 0} (told : Option A) → ((t : A) → P t) → IfSome told P
told_any None so = tt
told_any (Some t) so = so t
