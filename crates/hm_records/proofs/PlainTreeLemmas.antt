-- Which objects and triples the plain program has after one more element.
use Rattle.std.proofs.Common.{◌≡◌, ℕ, ◌+◌, ◌<◌, List, [], length, get_or, take, sym, ap, subst, ◌∙◌, inl, inr, arith}
use Rattle.std.specs.Prelude.{◌↔◌, IsTrue, Option, None, Some, Result, Ok, Err, IfOk}
use Rattle.std.specs.List.{Contains}
use Rattle.std.specs.Str.{bytes_eq}
use Rattle.std.proofs.lemmas.Bool.{cases_lt}
use Rattle.std.proofs.lemmas.Slice.Eq.{bytes_eq-Decides}
use Rattle.hm_types.specs.Elements.{FullElement}
use Rattle.hm_types.specs.declared.id.Obj.{Obj}
use Rattle.hm_types.specs.declared.object.Object.{Object}
use Rattle.hm_types.specs.declared.object.Triple.{Triple}
use Rattle.hm_types.specs.Tree.{insert_by, is_object_before, is_triple_before}
use Rattle.hm_records.specs.declared.entry.DirEntry.{DirEntry}
use Rattle.hm_records.specs.Entry.{IsEntry, entry_bytes}
use Rattle.hm_key.specs.Counts.{Content, Counts, Subject, entry_subject, inode_subject, subject_of}
use Rattle.hm_key.specs.Versions.{HaveOwnKeys}
use Rattle.hm_records.specs.Changes.{CountsNothing, IsSettled, LacksName}
use Rattle.hm_records.specs.Laws.{triple_of}
use Rattle.hm_records.specs.View.{HasEntry, IsObject, IsTriple, IsView}
use Rattle.hm_records.specs.PlainView.{HasName, HasNumber, HasTriple, HoldsObjects, HoldsTriples, IsAddedObject, IsAddedTriple, IsEarlierEntry}
use Rattle.hm_records.specs.PlainView.{IsEntryAt, IsEntryOf, IsFirstKey, IsInodeOf, IsLeastKeyOf, IsLess, IsNewObject, IsNewTriple, IsObjectAt}
use Rattle.hm_records.proofs.CountsLemmas.{settled}
use Rattle.hm_records.proofs.MemberLemmas.{has_insert, has_none, insert_has, order_insert}
use Rattle.hm_records.proofs.NameLemmas.{entry_one, same_obj, triple_one}
use Rattle.hm_records.proofs.ObjectLemmas.{object_one}
use Rattle.hm_records.proofs.OrderLemmas.{object_apart, object_trans, triple_apart, triple_trans}
use Rattle.hm_records.proofs.PlainLemmas.{more_cases}

pub ok_weaker : {A E : Type 0} (r : Result A E) (P Q : A → Type 0) → ((a : A) → P a → Q a) → IfOk r P → IfOk r Q
ok_weaker (Ok a) P Q more is = more a is
ok_weaker (Err e) P Q more is = tt

-- ---- objects

number_of : (pfs a b : ℕ) → inode_subject pfs a ≡ inode_subject pfs b → a ≡ b
number_of pfs a b same = ap (λ (s : Subject). s.obj) same

pub object_new : (C : Content) (pfs number : ℕ) (e : FullElement) (objects : List Object) → subject_of e.key ≡ inode_subject pfs number
    → (HasNumber objects number → ⊥) → (o : Option Object) → IsObjectAt C pfs number o → IsNewObject C pfs e objects o
object_new C pfs number e objects about new None none = λ o is of. absurd (none o is (number_of pfs o.number.0 number (sym of ∙ about)))
object_new C pfs number e objects about new (Some p) is = record {
  there = is.0;
  is_of = about ∙ ap (inode_subject pfs) (sym is.1);
  new = λ has. new (subst (λ (n : ℕ). HasNumber objects n) is.1 has);
}

module _ (C : Content) (pfs : ℕ) (one : IsSettled C) (es : List FullElement) (i : ℕ) (x : FullElement) (below : i < length es) (is : x ≡ get_or es i x) where
  pub objects_passed : (objects : List Object) → HoldsObjects C pfs (take i es) objects → IsNewObject C pfs x objects None
      → HoldsObjects C pfs (take (i + 1) es) objects
  objects_passed objects held none = record {
    rise = held.rise;
    sound = held.sound;
    complete = λ e o has there of. elim (more_cases es i x below is e has) [
      | inl old ↦ held.complete e o old there of
      | inr same ↦ kept o there (none o there (subst (λ (z : FullElement). IsInodeOf pfs z o) same of))
    ];
  } where
    kept : (o : Object) → IsObject C pfs o → HasNumber objects o.number.0 → Contains objects o
    kept o there (p, has, number) = subst (λ (q : Object). Contains objects q) (object_one pfs p o C one (held.sound p has) there number) has

  pub objects_added : (objects : List Object) (p : Object) → HoldsObjects C pfs (take i es) objects → IsAddedObject C pfs x objects p
      → HoldsObjects C pfs (take (i + 1) es) (insert_by is_object_before p objects)
  objects_added objects p held added = record {
    rise = order_insert is_object_before object_trans p objects held.rise (λ y has. object_apart p y (λ number. added.new (y, has, sym number)));
    sound = λ o has. elim (insert_has is_object_before p objects o has) [
      | inl new ↦ subst (λ (q : Object). IsObject C pfs q) (sym new) added.there
      | inr old ↦ held.sound o old
    ];
    complete = λ e o has there of. has_insert is_object_before p objects o (elim (more_cases es i x below is e has) [
      | inl old ↦ inr (held.complete e o old there of)
      | inr same ↦ inl (object_one pfs o p C one there added.there
          (number_of pfs o.number.0 p.number.0 (sym of ∙ ap (λ (z : FullElement). subject_of z.key) same ∙ added.is_of)))
    ]);
  }

pub objects_none : (C : Content) (pfs : ℕ) → HoldsObjects C pfs [] []
objects_none C pfs = record { rise = tt; sound = λ o has. absurd (has_none o has); complete = λ e o has there of. absurd (has_none e has) }

-- ---- entries

pub no_entry_at : (es : List FullElement) (t pfs : ℕ) (directory : Obj) (key : ℕ) → CountsNothing (Counts es t) (entry_subject pfs directory.0 key)
    → IsEntryAt (Counts es t) pfs directory key None
no_entry_at es t pfs directory key none name object has =
    none (entry_bytes (record { obj = object; name = name })) has.there

pub no_bytes_at : (es : List FullElement) (t pfs : ℕ) (directory : Obj) (key : ℕ) (bytes : List ℕ) → HaveOwnKeys es
    → Counts es t (entry_subject pfs directory.0 key) bytes → ((entry : DirEntry) → IsEntry entry → bytes ≡ entry_bytes entry → ⊥)
    → IsEntryAt (Counts es t) pfs directory key None
no_bytes_at es t pfs directory key bytes own counts not name object has =
    not (record { obj = object; name = name }) has.ranges
    (settled es t own (entry_subject pfs directory.0 key) bytes (entry_bytes (record { obj = object; name = name })) counts has.there)

-- under one key there is one entry
pub entry_same : (C : Content) (pfs : ℕ) (directory : Obj) (key : ℕ) (a b : List ℕ) (o p : Obj) → IsSettled C
    → HasEntry C pfs directory key a o → HasEntry C pfs directory key b p → (a ≡ b) × (o ≡ p)
entry_same C pfs directory key a b o p one has has' =
    let e : DirEntry = record { obj = o; name = a } in
    let e' : DirEntry = record { obj = p; name = b } in
    let same : e ≡ e' = entry_one e e' has.ranges has'.ranges (one (entry_subject pfs directory.0 key) (entry_bytes e) (entry_bytes e') has.there has'.there) in
    (ap (λ (z : DirEntry). z.name) same, ap (λ (z : DirEntry). z.obj) same)

pub earlier_test : (C : Content) (pfs : ℕ) (directory : Obj) (name : List ℕ) (first : Option ℕ) (e : FullElement) (entry : DirEntry) → IsSettled C
    → subject_of e.key ≡ entry_subject pfs directory.0 e.key.key → IsLess e.key.key first → HasEntry C pfs directory e.key.key entry.name entry.obj
    → IsTrue (bytes_eq entry.name name) ↔ IsEarlierEntry C pfs directory name first e
earlier_test C pfs directory name first e entry one about before has = (
  λ same. record {
    about = about;
    before = before;
    named = (entry.obj, subst (λ (n : List ℕ). HasEntry C pfs directory e.key.key n entry.obj) ((bytes_eq-Decides entry.name name).0 same) has);
  },
  λ earlier. (bytes_eq-Decides entry.name name).1 (entry_same C pfs directory e.key.key entry.name name entry.obj earlier.named.0 one has earlier.named.1).0,
)

module _ (C : Content) (pfs : ℕ) (directory : Obj) (name : List ℕ) (es : List FullElement) (i : ℕ) (x : FullElement) (below : i < length es)
    (is : x ≡ get_or es i x) where
  pub key_taken : (first : Option ℕ) → IsFirstKey C pfs directory name (take i es) first → IsEarlierEntry C pfs directory name first x
      → IsFirstKey C pfs directory name (take (i + 1) es) (Some x.key.key)
  key_taken None held earlier = record {
    named = earlier.named;
    least = λ e has about named. elim (more_cases es i x below is e has) [
      | inl old ↦ absurd (held e old about named)
      | inr same ↦ omega (arith, ap (λ (z : FullElement). z.key.key) same)
    ];
  }
  key_taken (Some key) held earlier = record {
    named = earlier.named;
    least = λ e has about named. elim (more_cases es i x below is e has) [
      | inl old ↦ omega (arith, held.least e old about named, earlier.before)
      | inr same ↦ omega (arith, ap (λ (z : FullElement). z.key.key) same)
    ];
  }

  pub key_passed : (first : Option ℕ) → IsFirstKey C pfs directory name (take i es) first → (IsEarlierEntry C pfs directory name first x → ⊥)
      → IsFirstKey C pfs directory name (take (i + 1) es) first
  key_passed None held not = λ e has about named. elim (more_cases es i x below is e has) [
    | inl old ↦ held e old about named
    | inr same ↦ not (record {
      about = subst (λ (z : FullElement). subject_of z.key ≡ entry_subject pfs directory.0 z.key.key) same about;
      before = tt;
      named = subst (λ (z : FullElement). HasName C pfs directory z.key.key name) same named;
    })
  ]
  key_passed (Some key) held not = record {
    named = held.named;
    least = λ e has about named. elim (more_cases es i x below is e has) [
      | inl old ↦ held.least e old about named
      | inr same ↦ elim (cases_lt x.key.key key) [
        | inl less ↦ absurd (not (record {
          about = subst (λ (z : FullElement). subject_of z.key ≡ entry_subject pfs directory.0 z.key.key) same about;
          before = less;
          named = subst (λ (z : FullElement). HasName C pfs directory z.key.key name) same named;
        }))
        | inr le ↦ omega (arith, le, ap (λ (z : FullElement). z.key.key) same)
      ]
    ];
  }

-- the element of an entry that counts is about it
about_entry : (pfs key : ℕ) (directory : Obj) (e : FullElement) → subject_of e.key ≡ entry_subject pfs directory.0 key
    → (subject_of e.key ≡ entry_subject pfs directory.0 e.key.key) × (e.key.key ≡ key)
about_entry pfs key directory e about =
    let k : e.key.key ≡ key = ap (λ (s : Subject). s.key) about in
    (about ∙ ap (entry_subject pfs directory.0) (sym k), k)

module _ (es : List FullElement) (t pfs : ℕ) (directory : Obj) (name : List ℕ) where
  pub first_none : IsFirstKey (Counts es t) pfs directory name es None → LacksName (Counts es t) pfs directory name
  first_none none key object has =
      let c = has.there in
      let about = about_entry pfs key directory c.element c.about in
      none c.element c.there about.0 (object, subst (λ (k : ℕ). HasEntry (Counts es t) pfs directory k name object) (sym about.1) has)

  pub first_some : (key : ℕ) (entry : DirEntry) → HaveOwnKeys es → IsLeastKeyOf (Counts es t) pfs directory name es key
      → HasEntry (Counts es t) pfs directory key entry.name entry.obj → IsTriple (Counts es t) pfs (triple_of directory name entry.obj)
  first_some key entry own least has =
      let same = entry_same (Counts es t) pfs directory key entry.name name entry.obj least.named.0 (settled es t own) has least.named.1 in
      record {
        key = key;
        there = subst (λ (n : List ℕ). HasEntry (Counts es t) pfs directory key n entry.obj) same.0 has;
        first = λ other object there.
            let c = there.there in
            let about = about_entry pfs other directory c.element c.about in
            let low = least.least c.element c.there about.0 (
              object,
              subst (λ (k : ℕ). HasEntry (Counts es t) pfs directory k name object)
                  (sym about.1) there,
            ) in
            omega (arith, low, about.1);
      }

-- a key that was found has its entry
pub first_there : (C : Content) (pfs : ℕ) (directory : Obj) (name : List ℕ) (es : List FullElement) (key : ℕ) → IsLeastKeyOf C pfs directory name es key
    → IsEntryAt C pfs directory key None → ⊥
first_there C pfs directory name es key least none = none name least.named.0 least.named.1

-- ---- triples

-- what an element is an entry of has the entry's name
pub entry_of_same : (C : Content) (pfs : ℕ) (e : FullElement) (directory : Obj) (t : Triple) (entry : DirEntry) → IsSettled C
    → subject_of e.key ≡ entry_subject pfs directory.0 e.key.key → HasEntry C pfs directory e.key.key entry.name entry.obj → IsEntryOf C pfs e t
    → (t.directory ≡ directory) × (t.name ≡ entry.name)
entry_of_same C pfs e directory t entry one about has of =
    let here : t.directory ≡ directory = same_obj t.directory directory (ap (λ (s : Subject). s.obj) (sym of.about ∙ about)) in
    let named : HasEntry C pfs directory e.key.key t.name of.named.0 = subst (λ (d : Obj). HasEntry C pfs d e.key.key t.name of.named.0) here of.named.1 in
    (here, (entry_same C pfs directory e.key.key t.name entry.name of.named.0 entry.obj one named has).0)

pub triple_known : (C : Content) (pfs : ℕ) (e : FullElement) (directory : Obj) (entry : DirEntry) (triples : List Triple) → IsSettled C
    → subject_of e.key ≡ entry_subject pfs directory.0 e.key.key → HasEntry C pfs directory e.key.key entry.name entry.obj
    → HasTriple triples directory entry.name → IsNewTriple C pfs e triples None
triple_known C pfs e directory entry triples one about has known t is of =
    let same = entry_of_same C pfs e directory t entry one about has of in
    (known.0, known.1, known.2 ∙ ap (λ (d : Obj). d.0) (sym same.0), known.3 ∙ sym same.1)

pub triple_lacks : (C : Content) (pfs : ℕ) (e : FullElement) (directory : Obj) (entry : DirEntry) (triples : List Triple)
    → HasEntry C pfs directory e.key.key entry.name entry.obj → LacksName C pfs directory entry.name → IsNewTriple C pfs e triples None
triple_lacks C pfs e directory entry triples has lacks = absurd (lacks e.key.key entry.obj has)

pub triple_new : (C : Content) (pfs : ℕ) (e : FullElement) (directory object : Obj) (entry : DirEntry) (triples : List Triple)
    → subject_of e.key ≡ entry_subject pfs directory.0 e.key.key → HasEntry C pfs directory e.key.key entry.name entry.obj
    → (HasTriple triples directory entry.name → ⊥) → IsTriple C pfs (triple_of directory entry.name object)
    → IsAddedTriple C pfs e triples (triple_of directory entry.name object)
triple_new C pfs e directory object entry triples about has new is = record {
  there = is;
  is_of = record { about = about; named = (entry.obj, has) };
  new = new;
}

-- an element that is about no entry of a directory makes no triple
pub triple_none : (C : Content) (pfs : ℕ) (e : FullElement) (directory : Obj) (triples : List Triple) → directory.0 ≡ e.key.obj
    → (subject_of e.key ≡ entry_subject pfs directory.0 e.key.key → ⊥) → IsNewTriple C pfs e triples None
triple_none C pfs e directory triples here not t is of =
    absurd (not (of.about ∙ ap (λ (d : ℕ). entry_subject pfs d e.key.key) (sym (here ∙ ap (λ (s : Subject). s.obj) of.about))))

pub entry_none : (C : Content) (pfs : ℕ) (e : FullElement) (directory : Obj) (triples : List Triple)
    → subject_of e.key ≡ entry_subject pfs directory.0 e.key.key → IsEntryAt C pfs directory e.key.key None → IsNewTriple C pfs e triples None
entry_none C pfs e directory triples about none t is of =
    let here : t.directory ≡ directory = same_obj t.directory directory (ap (λ (s : Subject). s.obj) (sym of.about ∙ about)) in
    absurd (none t.name of.named.0 (subst (λ (d : Obj). HasEntry C pfs d e.key.key t.name of.named.0) here of.named.1))

module _ (C : Content) (pfs : ℕ) (one : IsSettled C) (es : List FullElement) (i : ℕ) (x : FullElement) (below : i < length es) (is : x ≡ get_or es i x) where
  pub triples_passed : (triples : List Triple) → HoldsTriples C pfs (take i es) triples → IsNewTriple C pfs x triples None
      → HoldsTriples C pfs (take (i + 1) es) triples
  triples_passed triples held none = record {
    rise = held.rise;
    sound = held.sound;
    complete = λ e t has there of. elim (more_cases es i x below is e has) [
      | inl old ↦ held.complete e t old there of
      | inr same ↦ kept t there (none t there (subst (λ (z : FullElement). IsEntryOf C pfs z t) same of))
    ];
  } where
    kept : (t : Triple) → IsTriple C pfs t → HasTriple triples t.directory t.name → Contains triples t
    kept t there (u, has, here, same) = subst (λ (v : Triple). Contains triples v) (triple_one pfs t u C one there (held.sound u has) (here, same)) has

  pub triples_added : (triples : List Triple) (new : Triple) → HoldsTriples C pfs (take i es) triples → IsAddedTriple C pfs x triples new
      → HoldsTriples C pfs (take (i + 1) es) (insert_by is_triple_before new triples)
  triples_added triples new held added = record {
    rise = order_insert is_triple_before triple_trans new triples held.rise (λ u has. triple_apart new u (λ here same. added.new (u, has, sym here, sym same)));
    sound = λ t has. elim (insert_has is_triple_before new triples t has) [
      | inl same ↦ subst (λ (u : Triple). IsTriple C pfs u) (sym same) added.there
      | inr old ↦ held.sound t old
    ];
    complete = λ e t has there of. has_insert is_triple_before new triples t (elim (more_cases es i x below is e has) [
      | inl old ↦ inr (held.complete e t old there of)
      | inr same ↦ inl (found t there (subst (λ (z : FullElement). IsEntryOf C pfs z t) same of))
    ]);
  } where
    found : (t : Triple) → IsTriple C pfs t → IsEntryOf C pfs x t → t ≡ new
    found t there of =
        let mine = added.is_of in
        let entry : DirEntry = record { obj = mine.named.0; name = new.name } in
        let same = entry_of_same C pfs x new.directory t entry one mine.about mine.named.1 of in
        triple_one pfs new t C one added.there there (ap (λ (d : Obj). d.0) same.0, same.1)

-- ---- the view

pub view_held : (es : List FullElement) (t pfs : ℕ) (objects : List Object) (triples : List Triple) → HoldsObjects (Counts es t) pfs es objects
    → HoldsTriples (Counts es t) pfs es triples → IsView (Counts es t) pfs (record { objects = objects; triples = triples })
view_held es t pfs objects triples os ts = record {
  objects_rise = os.rise;
  objects = λ o. (os.sound o, λ is. os.complete is.there.element o is.there.there is is.there.about);
  triples_rise = ts.rise;
  triples = λ u. (
    ts.sound u,
    λ is.
        let c = is.there.there in
        let about = about_entry pfs is.key u.directory c.element c.about in
        ts.complete c.element u c.there is (record {
          about = about.0;
          named = (u.object, subst (λ (k : ℕ). HasEntry (Counts es t) pfs u.directory k u.name u.object) (sym about.1) is.there);
        }),
  );
}
