-- What a change of entries does to the triples of a view.
use Rattle.std.proofs.Common.{◌≡◌, ℕ, ◌≤◌, Bool, true, false, List, drop, refl, sym, ap, subst, ◌∙◌, inl, inr, arith}
use Rattle.std.specs.Prelude.{◌⊎◌, ◌==◌, if◌then◌else◌}
use Rattle.std.specs.List.{Contains}
use Rattle.std.specs.Str.{bytes_eq}
use Rattle.std.proofs.lemmas.Bool.{false≢true, eqb-true, eq-eqb, and_parts}
use Rattle.std.proofs.lemmas.Slice.Eq.{bytes_eq-Decides}
use Rattle.hm_types.specs.declared.id.Obj.{Obj}
use Rattle.hm_types.specs.declared.object.Triple.{Triple}
use Rattle.hm_types.specs.Tree.{FileTree, is_named, is_triple_before, with_name, without, without_name}
use Rattle.hm_records.specs.declared.entry.DirEntry.{DirEntry}
use Rattle.hm_records.specs.Entry.{IsEntry, entry_bytes}
use Rattle.hm_key.specs.Counts.{Content, entry_subject}
use Rattle.hm_records.specs.View.{HasEntry, IsTriple, IsView}
use Rattle.hm_records.specs.Changes.{AgreeOnName, AgreeOnObject, IsSettled, LacksName}
use Rattle.hm_records.proofs.EntryLemmas.{entry_back, entry_in, name_back as name_in_bytes}
use Rattle.hm_records.proofs.MemberLemmas.{filter_all, filter_has, has_filter, has_insert, insert_has, order_filter, order_insert}
use Rattle.hm_records.proofs.ObjectLemmas.{name_back, triple_kept}
use Rattle.hm_records.proofs.OrderLemmas.{triple_apart, triple_trans}
use Rattle.hm_records.proofs.ViewLemmas.{objects_kept}

-- ---- entries

-- an entry's bytes tell its name
pub name_one : (a b : DirEntry) → entry_bytes a ≡ entry_bytes b → a.name ≡ b.name
name_one a b same = sym (name_in_bytes a) ∙ ap (λ (xs : List ℕ). drop 8 xs) same ∙ name_in_bytes b

pub entry_one : (a b : DirEntry) → IsEntry a → IsEntry b → entry_bytes a ≡ entry_bytes b → a ≡ b
entry_one a b is is' same = sym (entry_back a is) ∙ ap entry_in same ∙ entry_back b is'

pub same_obj : (a b : Obj) → a.0 ≡ b.0 → a ≡ b
same_obj a b same = λ i. record { 0 = same i }

-- ---- names

-- a triple stands for the directory's entry of this name
abbrev pub Stands : Obj → List ℕ → Triple → Type 0
Stands directory name t = (t.directory.0 ≡ directory.0) × (t.name ≡ name)

pub named_is : (directory : Obj) (name : List ℕ) (t : Triple) → is_named directory name t ≡ true → Stands directory name t
named_is directory name t is =
    let both = and_parts _ _ is in
    (eqb-true t.directory.0 directory.0 both.0, (bytes_eq-Decides t.name name).0 both.1)

pub is_named_of : (directory : Obj) (name : List ℕ) (t : Triple) → Stands directory name t → is_named directory name t ≡ true
is_named_of directory name t (here, same) =
    let d : (t.directory.0 == directory.0) ≡ true = eq-eqb t.directory.0 directory.0 here in
    let n : bytes_eq t.name name ≡ true = (bytes_eq-Decides t.name name).1 same in
    rw (d, n) refl

pub stands_or_not : (directory : Obj) (name : List ℕ) (t : Triple) → Stands directory name t ⊎ (Stands directory name t → ⊥)
stands_or_not directory name t = by_test (is_named directory name t) refl where
  by_test : (b : Bool) → is_named directory name t ≡ b → Stands directory name t ⊎ (Stands directory name t → ⊥)
  by_test true is = inl (named_is directory name t is)
  by_test false is = inr (λ stands. false≢true (sym is ∙ is_named_of directory name t stands))

abbrev opposite : {X : Type 0} → (X → Bool) → X → Bool
opposite test x = if test x then false else true

pub opposite_true : {X : Type 0} (test : X → Bool) (x : X) → opposite test x ≡ true → test x ≡ false
opposite_true test x is = by_test (test x) refl is where
  by_test : (b : Bool) → test x ≡ b → (if b then false else true) ≡ true → test x ≡ false
  by_test true is' passes = absurd (false≢true passes)
  by_test false is' passes = is'

pub opposite_false : {X : Type 0} (test : X → Bool) (x : X) → (test x ≡ true → ⊥) → opposite test x ≡ true
opposite_false test x not = by_test (test x) refl where
  by_test : (b : Bool) → test x ≡ b → (if b then false else true) ≡ true
  by_test true is = absurd (not is)
  by_test false is = refl

-- an entry is one of the same directory and the same name
pub has_moved : (pfs key : ℕ) (a b : Obj) (name name' : List ℕ) (object : Obj) (C : Content) → a.0 ≡ b.0 → name ≡ name'
    → HasEntry C pfs a key name object → HasEntry C pfs b key name' object
has_moved pfs key a b name name' object C here same has =
    let d : a ≡ b = same_obj a b here in
    subst (λ (n : List ℕ). HasEntry C pfs b key n object) same (subst (λ (o : Obj). HasEntry C pfs o key name object) d has)

-- a name leads to one object
pub triple_one : (pfs : ℕ) (t u : Triple) (C : Content) → IsSettled C → IsTriple C pfs t → IsTriple C pfs u → Stands t.directory t.name u → u ≡ t
triple_one pfs t u C settled is is' (here, same) =
    let there' : HasEntry C pfs t.directory is'.key t.name u.object =
    has_moved pfs is'.key u.directory t.directory u.name t.name u.object C here same is'.there in
    let low : is.key ≤ is'.key = is.first is'.key u.object there' in
    let high : is'.key ≤ is.key = is'.first is.key t.object (has_moved pfs is.key t.directory u.directory t.name u.name t.object C (sym here)
    (sym same) is.there) in
    let key : is'.key ≡ is.key = omega (arith, low, high) in
    let there : HasEntry C pfs t.directory is.key t.name u.object = subst (λ (k : ℕ). HasEntry C pfs t.directory k t.name u.object) key there' in
    let e : DirEntry = record { obj = t.object; name = t.name } in
    let e' : DirEntry = record { obj = u.object; name = t.name } in
    let one : e' ≡ e =
    entry_one e' e there.ranges is.there.ranges
    (settled (entry_subject pfs t.directory.0 is.key) (entry_bytes e') (entry_bytes e) there.there is.there.there) in
    λ i. record { directory = same_obj u.directory t.directory here i; name = same i; object = (one i).obj }

-- ---- a change of one name

-- the entries of all other names are the same
abbrev pub OthersAgree : ℕ → Obj → List ℕ → Content → Content → Type 0
OthersAgree pfs directory name C D = (t : Triple) → (Stands directory name t → ⊥) → AgreeOnName pfs t.directory t.name C D

-- the triples of other names
module _ (pfs : ℕ) (tree : FileTree) (C D : Content) (directory : Obj) (name : List ℕ) (view : IsView C pfs tree)
    (others : OthersAgree pfs directory name C D) where
  rest_is : (t : Triple) → Contains (without (is_named directory name) tree.triples) t → IsTriple D pfs t × (Stands directory name t → ⊥)
  rest_is t has =
      let kept = filter_has (opposite (is_named directory name)) tree.triples t has in
      let not : Stands directory name t → ⊥ = λ stands. false≢true
      (sym (opposite_true (is_named directory name) t kept.1) ∙ is_named_of directory name t stands) in
      (triple_kept pfs t C D (others t not) ((view.triples t).0 kept.0), not)

  is_rest : (t : Triple) → IsTriple D pfs t → (Stands directory name t → ⊥) → Contains (without (is_named directory name) tree.triples) t
  is_rest t is not =
      has_filter (opposite (is_named directory name)) tree.triples t
      ((view.triples t).1 (triple_kept pfs t D C (name_back pfs t.directory t.name C D (others t not)) is))
      (opposite_false (is_named directory name) t (λ named. not (named_is directory name t named)))

  -- a triple of this name goes
  pub name_gone : ((obj : ℕ) → AgreeOnObject pfs obj C D) → LacksName D pfs directory name → IsView D pfs (without_name tree directory name)
  name_gone objects lacks = record {
    objects_rise = view.objects_rise;
    objects = objects_kept pfs tree C D objects view;
    triples_rise = order_filter is_triple_before (opposite (is_named directory name)) tree.triples view.triples_rise;
    triples = λ t. (λ has. (rest_is t has).0, λ is. is_rest t is (λ (stands : Stands directory name t). none t is stands));
  } where
    none : (t : Triple) → IsTriple D pfs t → Stands directory name t → ⊥
    none t is (here, same) = lacks is.key t.object (has_moved pfs is.key t.directory directory t.name name t.object D here same is.there)

  -- or another one is shown
  pub name_shown : ((obj : ℕ) → AgreeOnObject pfs obj C D) → IsSettled D → (object : Obj)
      → IsTriple D pfs (record { directory = directory; name = name; object = object })
      → IsView D pfs (with_name (without_name tree directory name) directory name object)
  name_shown objects settled object shown = record {
    objects_rise = view.objects_rise;
    objects = objects_kept pfs tree C D objects view;
    triples_rise = order_insert is_triple_before triple_trans new rest
        (order_filter is_triple_before (opposite (is_named directory name)) tree.triples view.triples_rise)
        (λ t has before. triple_apart new t (λ here same. (rest_is t has).1 (sym here, sym same)) before);
    triples = λ t. (
      λ has. elim (insert_has is_triple_before new rest t has) [
        | inl is ↦ subst (λ (u : Triple). IsTriple D pfs u) (sym is) shown
        | inr old ↦ (rest_is t old).0
      ],
      λ is. has_insert is_triple_before new rest t (elim (stands_or_not directory name t) [
        | inl stands ↦ inl (triple_one pfs new t D settled shown is stands)
        | inr not ↦ inr (is_rest t is not)
      ]),
    );
  } where
    new : Triple
    new = record { directory = directory; name = name; object = object }

    rest : List Triple
    rest = without (is_named directory name) tree.triples

-- a name that was not there need not be taken away first
pub without_none : (pfs : ℕ) (tree : FileTree) (C : Content) (directory : Obj) (name : List ℕ) → IsView C pfs tree
    → LacksName C pfs directory name → without_name tree directory name ≡ tree
without_none pfs tree C directory name view lacks =
    let same : without (is_named directory name) tree.triples ≡ tree.triples =
    filter_all (opposite (is_named directory name)) tree.triples
    (λ t has. opposite_false (is_named directory name) t (λ named. none t ((view.triples t).0 has) (named_is directory name t named))) in
    λ i. record { objects = tree.objects; triples = same i }
  where
    none : (t : Triple) → IsTriple C pfs t → Stands directory name t → ⊥
    none t is (here, same) = lacks is.key t.object (has_moved pfs is.key t.directory directory t.name name t.object C here same is.there)
