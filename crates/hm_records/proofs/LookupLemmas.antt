-- What is found in a view, by its number or by its name.
use Rattle.std.proofs.Common.{◌≡◌, ℕ, zero, suc, ◌<◌, Bool, true, false, List, [], ◌∷◌, cond, refl, sym, ap, subst, ◌∙◌, inl, inr, arith}
use Rattle.std.specs.Prelude.{◌==◌, ◌||◌, Option, None, Some, find, option_map}
use Rattle.std.specs.List.{Contains, list_any}
use Rattle.std.proofs.lemmas.Bool.{false≢true, cases_lt, eqb-true, eq-eqb}
use Rattle.hm_types.specs.declared.id.Obj.{Obj}
use Rattle.hm_types.specs.declared.object.Object.{Object}
use Rattle.hm_types.specs.declared.object.Triple.{Triple}
use Rattle.hm_types.specs.Tree.{FileTree, has_name, is_named, named_in, object_in}
use Rattle.hm_key.specs.Counts.{Content}
use Rattle.hm_records.specs.View.{HasEntry, IsObject, IsTriple}
use Rattle.hm_records.specs.Changes.{LacksName}
use Rattle.hm_records.specs.Laws.{HasView, triple_of}
use Rattle.hm_records.proofs.MemberLemmas.{has_cases, has_head, has_none, has_tail}
use Rattle.hm_records.proofs.NameLemmas.{Stands, has_moved, is_named_of, named_is, triple_one}
use Rattle.hm_records.proofs.ObjectLemmas.{object_one}

module _ {X : Type 0} (p : X → Bool) where
  -- what is found is in the list and passes
  find_some : (xs : List X) (x : X) → find p xs ≡ Some x → Contains xs x × (p x ≡ true)
  find_some [] x is = absurd (cc)
  find_some (y ∷ xs) x is = by_test (p y) refl is (find_some xs x) where
    by_test : (b : Bool) → p y ≡ b → cond b (Some y) (find p xs) ≡ Some x → (find p xs ≡ Some x → Contains xs x × (p x ≡ true))
        → Contains (y ∷ xs) x × (p x ≡ true)
    by_test true passes here rest = let e : y ≡ x = cc in (subst (λ (z : X). Contains (y ∷ xs) z) e (has_head y xs), subst (λ (z : X). p z ≡ true) e passes)
    by_test false fails here rest = (has_tail y x xs (rest here).0, (rest here).1)

  -- where nothing is found, nothing passes
  pub find_none : (xs : List X) (x : X) → find p xs ≡ None → Contains xs x → p x ≡ true → ⊥
  find_none [] x is has passes = absurd (has_none x has)
  find_none (y ∷ xs) x is has passes = by_test (p y) refl is (find_none xs x) where
    by_test : (b : Bool) → p y ≡ b → cond b (Some y) (find p xs) ≡ None → (find p xs ≡ None → Contains xs x → p x ≡ true → ⊥) → ⊥
    by_test true first here rest = absurd (cc)
    by_test false fails here rest = elim (has_cases y x xs has) [
      | inl first ↦ false≢true (sym fails ∙ ap p (sym first) ∙ passes)
      | inr later ↦ rest here later passes
    ]

  pub any_none : (xs : List X) → list_any p xs ≡ false → find p xs ≡ None
  any_none [] is = refl
  any_none (y ∷ xs) is = by_test (p y) refl is (any_none xs) where
    by_test : (b : Bool) → p y ≡ b → (b || list_any p xs) ≡ false → (list_any p xs ≡ false → find p xs ≡ None) → cond b (Some y) (find p xs) ≡ None
    by_test true first here rest = absurd (false≢true (sym here))
    by_test false fails here rest = rest here

  none_any : (xs : List X) → find p xs ≡ None → list_any p xs ≡ false
  none_any [] is = refl
  none_any (y ∷ xs) is = by_test (p y) refl is (none_any xs) where
    by_test : (b : Bool) → p y ≡ b → cond b (Some y) (find p xs) ≡ None → (find p xs ≡ None → list_any p xs ≡ false) → (b || list_any p xs) ≡ false
    by_test true first here rest = absurd (cc)
    by_test false fails here rest = rest here

some_one : {X : Type 0} (a b : X) → Some a ≡ Some b → a ≡ b
some_one a b is = cc

none_some : {X : Type 0} (b : X) → None ≡ Some b → ⊥
none_some b is = cc

-- ---- names

-- an entry shows that there is a first one of its name
no_entry : (pfs : ℕ) (directory : Obj) (name : List ℕ) (C : Content) → ((object : Obj) → IsTriple C pfs (triple_of directory name object) → ⊥)
    → (bound key : ℕ) (object : Obj) → key < bound → HasEntry C pfs directory key name object → ⊥
no_entry pfs directory name C none zero key object below has = absurd (omega arith)
no_entry pfs directory name C none (suc bound) key object below has = none object (record {
  key = key;
  there = has;
  first = λ other object' there. elim (cases_lt other key) [
    | inl earlier ↦ absurd (no_entry pfs directory name C none bound other object' (omega arith) there)
    | inr le ↦ le
  ];
})

module _ (pfs : ℕ) (tree : FileTree) (C : Content) (has : HasView C pfs tree) (directory : Obj) (name : List ℕ) where
  named_triple : (t : Triple) → find (is_named directory name) tree.triples ≡ Some t → IsTriple C pfs t × Stands directory name t
  named_triple t is =
      let found = find_some (is_named directory name) tree.triples t is in
      ((has.view.triples t).0 found.0, named_is directory name t found.1)

  retold : (t : Triple) → IsTriple C pfs t → Stands directory name t → IsTriple C pfs (triple_of directory name t.object)
  retold t is (here, same) = record {
    key = is.key;
    there = has_moved pfs is.key t.directory directory t.name name t.object C here same is.there;
    first = λ other object there. is.first other object (has_moved pfs other directory t.directory name t.name object C (sym here) (sym same) there);
  }

  pub named_is_triple : (object : Obj) → named_in tree directory name ≡ Some object → IsTriple C pfs (triple_of directory name object)
  named_is_triple object is = by_found (find (is_named directory name) tree.triples) refl is where
    by_found : (o : Option Triple) → find (is_named directory name) tree.triples ≡ o → option_map (λ (t : Triple). t.object) o ≡ Some object
        → IsTriple C pfs (triple_of directory name object)
    by_found None found here = absurd (none_some object here)
    by_found (Some t) found here =
        let (is', stands) = named_triple t found in
        subst (λ (o : Obj). IsTriple C pfs (triple_of directory name o)) (some_one t.object object here) (retold t is' stands)

  pub triple_is_named : (object : Obj) → IsTriple C pfs (triple_of directory name object) → named_in tree directory name ≡ Some object
  triple_is_named object is = by_found (find (is_named directory name) tree.triples) refl where
    new : Triple
    new = triple_of directory name object

    by_found : (o : Option Triple) → find (is_named directory name) tree.triples ≡ o → option_map (λ (t : Triple). t.object) o ≡ Some object
    by_found None found = absurd (find_none (is_named directory name) tree.triples new found ((has.view.triples new).1 is)
        (is_named_of directory name new (refl, refl)))
    by_found (Some t) found =
        let (is', stands) = named_triple t found in
        ap (λ (u : Triple). Some u.object) (triple_one pfs new t C has.settled is is' stands)

  pub none_lacks : named_in tree directory name ≡ None → LacksName C pfs directory name
  none_lacks none key object = no_entry pfs directory name C (λ o is. none_some o (sym none ∙ triple_is_named o is)) (suc key) key object (omega arith)

  pub lacks_none : LacksName C pfs directory name → named_in tree directory name ≡ None
  lacks_none lacks = by_found (named_in tree directory name) refl where
    by_found : (o : Option Obj) → named_in tree directory name ≡ o → o ≡ None
    by_found None found = refl
    by_found (Some object) found = let is = named_is_triple object found in absurd (lacks is.key object is.there)

  pub has_none_lacks : has_name tree directory name ≡ false → LacksName C pfs directory name
  has_none_lacks none = none_lacks (ap (option_map (λ (t : Triple). t.object)) (any_none (is_named directory name) tree.triples none))

  pub lacks_has_none : LacksName C pfs directory name → has_name tree directory name ≡ false
  lacks_has_none lacks = by_found (find (is_named directory name) tree.triples) refl where
    by_found : (o : Option Triple) → find (is_named directory name) tree.triples ≡ o → has_name tree directory name ≡ false
    by_found None found = none_any (is_named directory name) tree.triples found
    by_found (Some t) found =
        let (is, stands) = named_triple t found in
        let mine = retold t is stands in
        absurd (lacks mine.key t.object mine.there)

-- ---- objects

module _ (pfs : ℕ) (tree : FileTree) (C : Content) (has : HasView C pfs tree) (number : Obj) where
  pub found_is_object : (o : Object) → object_in tree number ≡ Some o → IsObject C pfs o × (o.number.0 ≡ number.0)
  found_is_object o is =
      let found = find_some (λ (p : Object). p.number.0 == number.0) tree.objects o is in
      ((has.view.objects o).0 found.0, eqb-true o.number.0 number.0 found.1)

  pub object_is_found : (o : Object) → IsObject C pfs o → o.number.0 ≡ number.0 → object_in tree number ≡ Some o
  object_is_found o is same = by_found (object_in tree number) refl where
    by_found : (found : Option Object) → object_in tree number ≡ found → found ≡ Some o
    by_found None found = absurd (find_none (λ (p : Object). p.number.0 == number.0) tree.objects o found ((has.view.objects o).1 is)
        (eq-eqb o.number.0 number.0 same))
    by_found (Some p) found =
        let (is', same') = found_is_object p found in
        ap Some (object_one pfs p o C has.settled is' is (same' ∙ sym same))
