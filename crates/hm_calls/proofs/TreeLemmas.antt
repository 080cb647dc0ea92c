-- Which objects a tree has after a change: those that it had, but for one that goes, and each of its kind.
use Rattle.std.proofs.Common.{◌≡◌, ℕ, ◌-◌, ◌≤◌, List, [], ◌∷◌, Bool, true, false, Option, Some, None, refl, sym, ap, subst, ◌∙◌, inl, inr}
use Rattle.std.specs.Prelude.{◌==◌, find, if◌then◌else◌, map, option_map}
use Rattle.std.specs.Bool.{nat_lt}
use Rattle.std.proofs.Common.{cond}
use Rattle.std.proofs.lemmas.Bool.{cases_eq, eq-eqb, eqb-true, false≢true, ltb-false}
use Rattle.hm_types.specs.Elements.{FullElement}
use Rattle.hm_types.specs.Tree.{FileTree, insert_by, is_object_before, object_in, with_change, with_links, with_object, without, without_object}
use Rattle.hm_types.specs.declared.id.Obj.{Obj}
use Rattle.hm_types.specs.declared.object.Kind.{Kind}
use Rattle.hm_types.specs.declared.object.Kind.TheVariants.{Directory, File, PfsLink, Softlink}
use Rattle.hm_types.specs.declared.object.Object.{Object}
use Rattle.hm_calls.specs.Changes.{LeavesNone}
use Rattle.hm_calls.specs.Writes.{LeavesNothing, less_link}

-- ---- the first element that a test finds

module _ {X : Type 0} (p : X → Bool) where
  -- where none is found, the first one fails, and the rest has none
  split_none : (b : Bool) (y : X) (rest : Option X) → cond b (Some y) rest ≡ None → (b ≡ false) × (rest ≡ None)
  split_none true y rest is = absurd (cc)
  split_none false y rest is = (refl, is)

  find_kept : (before : X → X → Bool) (x : X) (ys : List X) → find p (insert_by before x ys) ≡ None → find p ys ≡ None
  find_kept before x [] is = refl
  find_kept before x (y ∷ ys) is = by_test (before x y) is (find_kept before x ys) where
    by_test : (b : Bool) → find p (if b then x ∷ y ∷ ys else y ∷ insert_by before x ys) ≡ None
        → (find p (insert_by before x ys) ≡ None → find p ys ≡ None) → find p (y ∷ ys) ≡ None
    by_test true is rest = (split_none (p x) x (find p (y ∷ ys)) is).1
    by_test false is rest =
        let parts = split_none (p y) y (find p (insert_by before x ys)) is in
        rw parts.0 (rest parts.1)

  find_new : (before : X → X → Bool) (x : X) (ys : List X) → p x ≡ true → find p ys ≡ None → find p (insert_by before x ys) ≡ Some x
  find_new before x [] passes none = rw passes refl
  find_new before x (y ∷ ys) passes none = by_test (before x y) (find_new before x ys passes) where
    by_test : (b : Bool) → (find p ys ≡ None → find p (insert_by before x ys) ≡ Some x)
        → find p (if b then x ∷ y ∷ ys else y ∷ insert_by before x ys) ≡ Some x
    by_test true rest = rw passes refl
    by_test false rest =
        let parts = split_none (p y) y (find p ys) none in
        rw parts.0 (rest parts.1)

  -- a change that the test does not see
  find_changed : (f : X → X) (ys : List X) → ((y : X) → p (f y) ≡ p y) → find p (map f ys) ≡ option_map f (find p ys)
  find_changed f [] same = refl
  find_changed f (y ∷ ys) same =
      subst (λ (b : Bool). cond b (Some (f y)) (find p (map f ys)) ≡ option_map f (cond (p y) (Some y) (find p ys))) (sym (same y))
      (by_test (p y) (find_changed f ys same))
    where
      by_test : (b : Bool) → find p (map f ys) ≡ option_map f (find p ys)
          → cond b (Some (f y)) (find p (map f ys)) ≡ option_map f (cond b (Some y) (find p ys))
      by_test true rest = refl
      by_test false rest = rest

  -- others go
  find_without : (q : X → Bool) (ys : List X) → ((y : X) → p y ≡ true → q y ≡ false) → find p (without q ys) ≡ find p ys
  find_without q [] apart = refl
  find_without q (y ∷ ys) apart = by_test (q y) refl (find_without q ys apart) where
    by_own : (c : Bool) → p y ≡ c → q y ≡ true → find p (without q ys) ≡ find p ys → find p (without q ys) ≡ cond c (Some y) (find p ys)
    by_own false fails is rest = rest
    by_own true passes is rest = absurd (false≢true (sym (apart y passes) ∙ is))

    by_test : (b : Bool) → q y ≡ b → find p (without q ys) ≡ find p ys
        → find p (cond (if b then false else true) (y ∷ without q ys) (without q ys)) ≡ cond (p y) (Some y) (find p ys)
    by_test false is rest = ap (cond (p y) (Some y)) rest
    by_test true is rest = by_own (p y) refl is rest

-- ---- the objects of trees

pub some_none : (o : Object) → Some o ≡ None → ⊥
some_none o is = cc

same_object : (o p : Object) → Some o ≡ Some p → o ≡ p
same_object o p is = cc

-- one that was there is not gone with one more
pub new_keeps : (tree : FileTree) (directory number : Obj) (name : List ℕ) (new o : Object) → object_in tree number ≡ Some o
    → object_in (with_object tree directory name new) number ≡ None → ⊥
new_keeps tree directory number name new o there gone =
    some_none o (sym there ∙ find_kept (λ x. x.number.0 == number.0) is_object_before new tree.objects gone)

-- and the new one is there
pub new_there : (tree : FileTree) (directory : Obj) (name : List ℕ) (new o : Object) → object_in tree new.number ≡ None
    → object_in (with_object tree directory name new) new.number ≡ Some o → o ≡ new
new_there tree directory name new o none there =
    same_object o new (sym there
    ∙ find_new (λ x. x.number.0 == new.number.0) is_object_before new tree.objects (eq-eqb new.number.0 new.number.0 refl) none)

module _ (tree : FileTree) (at : Obj) (change : Object → Object) (same : (o : Object) → (change o).number ≡ o.number) where
  -- one of them changes
  abbrev changing : Object → Object
  changing o = if o.number.0 == at.0 then change o else o

  still_numbered : (number : Obj) (o : Object) → ((changing o).number.0 == number.0) ≡ (o.number.0 == number.0)
  still_numbered number o = by_test (o.number.0 == at.0) where
    by_test : (b : Bool) → ((if b then change o else o).number.0 == number.0) ≡ (o.number.0 == number.0)
    by_test true = ap (λ (n : Obj). n.0 == number.0) (same o)
    by_test false = refl

  change_is : (number : Obj) → object_in (with_change tree at change) number ≡ option_map changing (object_in tree number)
  change_is number = find_changed (λ o. o.number.0 == number.0) changing tree.objects (still_numbered number)

  pub change_keeps : (number : Obj) (o : Object) → object_in tree number ≡ Some o → object_in (with_change tree at change) number ≡ None → ⊥
  change_keeps number o there gone =
      some_none (changing o) (sym (change_is number ∙ ap (option_map changing) there) ∙ gone)

  -- where the change leaves the kind, so it is of each
  pub change_kind : ((o : Object) → (change o).kind ≡ o.kind) → (number : Obj) (o p : Object) → object_in tree number ≡ Some o
      → object_in (with_change tree at change) number ≡ Some p → p.kind ≡ o.kind
  change_kind kind number o p there now =
      ap (λ (x : Object). x.kind) (same_object p (changing o) (sym now ∙ change_is number ∙ ap (option_map changing) there))
      ∙ by_test (o.number.0 == at.0)
    where
      by_test : (b : Bool) → (if b then change o else o).kind ≡ o.kind
      by_test true = kind o
      by_test false = refl

  -- and one that is there now was there before
  pub change_before : (number : Obj) (p : Object) → object_in (with_change tree at change) number ≡ Some p → (o : Object) × (object_in tree number ≡ Some o)
  change_before number p now = by_found (object_in tree number) refl where
    by_found : (found : Option Object) → object_in tree number ≡ found → (o : Object) × (object_in tree number ≡ Some o)
    by_found None none = absurd (some_none p (sym now ∙ change_is number ∙ ap (option_map changing) none))
    by_found (Some o) there = (o, there)

module _ (tree : FileTree) (at number : Obj) where
  -- another one than the object that goes stays
  without_is : (number.0 ≡ at.0 → ⊥) → object_in (without_object tree at) number ≡ object_in tree number
  without_is differ =
      find_without (λ (o : Object). o.number.0 == number.0) (λ (o : Object). o.number.0 == at.0) tree.objects
      (λ o is. by_test (o.number.0 == at.0) refl (eqb-true o.number.0 number.0 is))
    where
      by_test : {a : ℕ} (b : Bool) → (a == at.0) ≡ b → a ≡ number.0 → (a == at.0) ≡ false
      by_test {a} true goes is = absurd (differ (sym is ∙ eqb-true a at.0 goes))
      by_test {a} false stays is = stays

  pub object_gone : (o : Object) → object_in tree number ≡ Some o → object_in (without_object tree at) number ≡ None → number.0 ≡ at.0
  object_gone o there gone = elim (cases_eq number.0 at.0) [
    | inl same ↦ same
    | inr differ ↦ absurd (some_none o (sym there ∙ sym (without_is differ) ∙ gone))
  ]

  -- a link less leads to an object, which goes with its last one
  pub link_gone : (links : ℕ) (o : Object) → object_in tree number ≡ Some o → object_in (less_link links at tree) number ≡ None
      → (number.0 ≡ at.0) × (links ≤ 1)
  link_gone links o there gone = by_test (nat_lt 1 links) refl gone where
    by_test : (b : Bool) → nat_lt 1 links ≡ b
        → object_in (if b then with_change tree at (with_links (links - 1)) else without_object tree at) number ≡ None
        → (number.0 ≡ at.0) × (links ≤ 1)
    by_test true is gone = absurd (change_keeps tree at (with_links (links - 1)) (λ o. refl) number o there gone)
    by_test false is gone = (object_gone o there gone, ltb-false 1 links is)

  -- each other one was there before
  pub link_before : (links : ℕ) (p : Object) → (number.0 ≡ at.0 → ⊥) → object_in (less_link links at tree) number ≡ Some p
      → (o : Object) × (object_in tree number ≡ Some o)
  link_before links p differ now = by_test (nat_lt 1 links) now where
    by_test : (b : Bool) → object_in (if b then with_change tree at (with_links (links - 1)) else without_object tree at) number ≡ Some p
        → (o : Object) × (object_in tree number ≡ Some o)
    by_test true now = change_before tree at (with_links (links - 1)) (λ o. refl) number p now
    by_test false now = (p, sym (without_is differ) ∙ now)

  -- and keeps its kind
  pub link_kind : (links : ℕ) (o p : Object) → (number.0 ≡ at.0 → ⊥) → object_in tree number ≡ Some o
      → object_in (less_link links at tree) number ≡ Some p → p.kind ≡ o.kind
  link_kind links o p differ there now = by_test (nat_lt 1 links) now where
    by_test : (b : Bool) → object_in (if b then with_change tree at (with_links (links - 1)) else without_object tree at) number ≡ Some p
        → p.kind ≡ o.kind
    by_test true now = change_kind tree at (with_links (links - 1)) (λ o. refl) (λ o. refl) number o p there now
    by_test false now = ap (λ (x : Object). x.kind) (same_object p o (sym now ∙ without_is differ ∙ there))

-- ---- what is left of an object that goes

pub leaves_none : (kind : Kind) (pfs obj i : ℕ) (es : List FullElement) → LeavesNothing pfs obj i es → LeavesNone kind pfs obj i es
leaves_none Directory pfs obj i es leaves = leaves.gone
leaves_none File pfs obj i es leaves = leaves
leaves_none Softlink pfs obj i es leaves = leaves
leaves_none PfsLink pfs obj i es leaves = leaves
