-- An entry more or less, and the view.
use Rattle.std.proofs.Common.{◌≡◌, ◌≢◌, ℕ, ◌<◌, ◌≤◌, List, refl, sym, ap, subst, inl, inr, arith}
use Rattle.std.specs.Prelude.{◌↔◌, None, Some}
use Rattle.std.proofs.lemmas.Bool.{cases_eq}
use Rattle.hm_types.specs.declared.id.Obj.{Obj}
use Rattle.hm_types.specs.declared.object.Triple.{Triple}
use Rattle.hm_types.specs.Tree.{FileTree, with_name, without_name}
use Rattle.hm_records.specs.declared.entry.DirEntry.{DirEntry}
use Rattle.hm_records.specs.Entry.{entry_bytes}
use Rattle.hm_key.specs.Counts.{Content, Subject, entry_subject}
use Rattle.hm_records.specs.View.{HasEntry, IsTriple, IsView}
use Rattle.hm_records.specs.Changes.{AgreeOnObject, IsSettled, LacksName}
use Rattle.hm_records.specs.Laws.{GetsEntry, HasEarlier, HasView, IsFirstOf, IsNext, IsOnly, LosesEntry}
use Rattle.hm_records.proofs.NameLemmas.{OthersAgree, Stands, has_moved, name_gone, name_one, name_shown, stands_or_not, without_none}
use Rattle.hm_records.proofs.ObjectLemmas.{name_back, triple_kept}
use Rattle.hm_records.proofs.SubjectLemmas.{SameBut, entry_no_object, same_but_back, same_subject, settled_still}
use Rattle.hm_records.proofs.ViewLemmas.{objects_kept}

-- what counts under a key decides the entry there
name_at : (pfs : ℕ) (directory : Obj) (key : ℕ) (name : List ℕ) (object : Obj) (C D : Content)
    → (D (entry_subject pfs directory.0 key) (entry_bytes (record { obj = object; name = name }))
    ↔ C (entry_subject pfs directory.0 key) (entry_bytes (record { obj = object; name = name })))
    → HasEntry D pfs directory key name object ↔ HasEntry C pfs directory key name object
name_at pfs directory key name object C D same = (
  λ has. record { ranges = has.ranges; there = same.0 has.there },
  λ has. record { ranges = has.ranges; there = same.1 has.there },
)

-- whatever counts under the key is an entry of this name
abbrev HasOnlyName : Content → ℕ → Obj → ℕ → List ℕ → Type 0
HasOnlyName C pfs directory key name = (other : List ℕ) (object : Obj) → HasEntry C pfs directory key other object → other ≡ name

-- so the entries of all other names are the same
others_agree : (pfs key : ℕ) (directory : Obj) (name : List ℕ) (C D : Content) → SameBut (entry_subject pfs directory.0 key) C D
    → HasOnlyName C pfs directory key name → HasOnlyName D pfs directory key name → OthersAgree pfs directory name C D
others_agree pfs key directory name C D same only only' t not key' object =
    elim (same_subject (entry_subject pfs t.directory.0 key') (entry_subject pfs directory.0 key)) [
      | inr differ ↦ name_at pfs t.directory key' t.name object C D
          (same (entry_subject pfs t.directory.0 key') (entry_bytes (record { obj = object; name = t.name })) differ)
      | inl is ↦ (λ has. absurd (never D only' is has), λ has. absurd (never C only is has))
    ]
  where
    never : (E : Content) → HasOnlyName E pfs directory key name → entry_subject pfs t.directory.0 key' ≡ entry_subject pfs directory.0 key
        → HasEntry E pfs t.directory key' t.name object → ⊥
    never E only is has =
        not (
          ap (λ (s : Subject). s.obj) is,
          only t.name object (record {
            ranges = has.ranges;
            there = subst (λ (s : Subject). E s (entry_bytes (record { obj = object; name = t.name }))) is has.there;
          }),
        )

-- an entry under another key is the same
kept_entry : (pfs key other : ℕ) (directory : Obj) (name : List ℕ) (object : Obj) (C D : Content) → SameBut (entry_subject pfs directory.0 key) C D
    → other ≢ key → HasEntry C pfs directory other name object → HasEntry D pfs directory other name object
kept_entry pfs key other directory name object C D same differ =
    (name_at pfs directory other name object C D
    (same (entry_subject pfs directory.0 other) (entry_bytes (record { obj = object; name = name })) (λ is. differ (ap (λ (s : Subject). s.key) is)))).1

same_some : (a b : List ℕ) → Some a ≡ Some b → a ≡ b
same_some a b is = cc

-- ---- an entry more

module _ (pfs : ℕ) (directory : Obj) (key : ℕ) (entry : DirEntry) (C D : Content) (gets : GetsEntry pfs directory key entry C D) where
  same_gets : SameBut (entry_subject pfs directory.0 key) C D
  same_gets = gets.counts.elsewhere

  agree_gets : OthersAgree pfs directory entry.name C D
  agree_gets =
      others_agree pfs key directory entry.name C D same_gets
      (λ other object has. absurd (gets.unused (entry_bytes (record { obj = object; name = other })) has.there))
      (λ other object has. sym (name_one entry (record { obj = object; name = other })
      (same_some (entry_bytes entry) (entry_bytes (record { obj = object; name = other }))
      ((gets.counts.about (entry_bytes (record { obj = object; name = other }))).0 has.there))))

  objects_gets : (obj : ℕ) → AgreeOnObject pfs obj C D
  objects_gets obj = entry_no_object pfs directory.0 key obj C D same_gets

  settled_gets : IsSettled C → IsSettled D
  settled_gets = settled_still (entry_subject pfs directory.0 key) (Some (entry_bytes entry)) C D gets.counts

  shown_gets : IsFirstOf C pfs directory entry.name key → IsTriple D pfs (record { directory = directory; name = entry.name; object = entry.obj })
  shown_gets first = record {
    key = key;
    there = record { ranges = gets.ranges; there = (gets.counts.about (entry_bytes entry)).1 refl };
    first = λ other object has. elim (cases_eq other key) [
      | inl is ↦ omega (arith, is)
      | inr differ ↦ first other object (kept_entry pfs key other directory entry.name object D C
          (same_but_back (entry_subject pfs directory.0 key) C D same_gets) differ has)
    ];
  }

  pub first_shown : (tree : FileTree) → HasView C pfs tree → IsFirstOf C pfs directory entry.name key
      → HasView D pfs (with_name (without_name tree directory entry.name) directory entry.name entry.obj)
  first_shown tree has first = record {
    settled = settled_gets has.settled;
    view = name_shown pfs tree C D directory entry.name has.view agree_gets objects_gets (settled_gets has.settled) entry.obj (shown_gets first);
  }

  pub new_shown : (tree : FileTree) → HasView C pfs tree → LacksName C pfs directory entry.name → HasView D pfs (with_name tree directory entry.name entry.obj)
  new_shown tree has lacks =
      subst (λ (t : FileTree). HasView D pfs (with_name t directory entry.name entry.obj)) (without_none pfs tree C directory entry.name has.view lacks)
      (first_shown tree has (λ other object there. absurd (lacks other object there)))

-- ---- an entry that is not the first of its name, more or less

later_same : (pfs key : ℕ) (directory : Obj) (name : List ℕ) (t : Triple) (C D : Content) → SameBut (entry_subject pfs directory.0 key) C D
    → HasEarlier C pfs directory name key → Stands directory name t → IsTriple C pfs t → IsTriple D pfs t
later_same pfs key directory name t C D same earlier (here, named) is =
    let low : is.key ≤ earlier.other =
    is.first earlier.other earlier.object
    (has_moved pfs earlier.other directory t.directory name t.name earlier.object C (sym here) (sym named) earlier.there) in
    let below : is.key < key = omega (arith, low, earlier.earlier) in
    let mine : HasEntry C pfs directory is.key name t.object = has_moved pfs is.key t.directory directory t.name name t.object C here named is.there in
    let kept : HasEntry D pfs directory is.key name t.object = kept_entry pfs key is.key directory name t.object C D same
    (λ e. absurd (omega (arith, e, below))) mine in
    record {
      key = is.key;
      there = has_moved pfs is.key directory t.directory name t.name t.object D (sym here) (sym named) kept;
      first = λ other object has. elim (cases_eq other key) [
        | inl e ↦ omega (arith, e, below)
        | inr differ ↦ is.first other object (back other object differ has)
      ];
    }
  where
    back : (other : ℕ) (object : Obj) → other ≢ key → HasEntry D pfs t.directory other t.name object → HasEntry C pfs t.directory other t.name object
    back other object differ has =
        has_moved pfs other directory t.directory name t.name object C (sym here) (sym named)
        (kept_entry pfs key other directory name object D C (same_but_back (entry_subject pfs directory.0 key) C D same) differ
        (has_moved pfs other t.directory directory t.name name object D here named has))

later_view : (pfs key : ℕ) (directory : Obj) (name : List ℕ) (tree : FileTree) (C D : Content) → SameBut (entry_subject pfs directory.0 key) C D
    → OthersAgree pfs directory name C D → HasEarlier C pfs directory name key → IsView C pfs tree → IsView D pfs tree
later_view pfs key directory name tree C D same others earlier view = record {
  objects_rise = view.objects_rise;
  objects = objects_kept pfs tree C D (λ obj. entry_no_object pfs directory.0 key obj C D same) view;
  triples_rise = view.triples_rise;
  triples = λ t. (λ has. on t ((view.triples t).0 has), λ is. (view.triples t).1 (back t is));
} where
  earlier' : HasEarlier D pfs directory name key
  earlier' = record {
    other = earlier.other;
    object = earlier.object;
    there = kept_entry pfs key earlier.other directory name earlier.object C D same (λ e. absurd (omega (arith, e, earlier.earlier))) earlier.there;
    earlier = earlier.earlier;
  }

  on : (t : Triple) → IsTriple C pfs t → IsTriple D pfs t
  on t is = elim (stands_or_not directory name t) [
    | inl stands ↦ later_same pfs key directory name t C D same earlier stands is
    | inr not ↦ triple_kept pfs t C D (others t not) is
  ]

  back : (t : Triple) → IsTriple D pfs t → IsTriple C pfs t
  back t is = elim (stands_or_not directory name t) [
    | inl stands ↦ later_same pfs key directory name t D C (same_but_back (entry_subject pfs directory.0 key) C D same) earlier' stands is
    | inr not ↦ triple_kept pfs t D C (name_back pfs t.directory t.name C D (others t not)) is
  ]

pub later_hidden : (pfs : ℕ) (directory : Obj) (key : ℕ) (entry : DirEntry) (C D : Content) (tree : FileTree) → GetsEntry pfs directory key entry C D
    → HasView C pfs tree → HasEarlier C pfs directory entry.name key → HasView D pfs tree
later_hidden pfs directory key entry C D tree gets has earlier = record {
  settled = settled_gets pfs directory key entry C D gets has.settled;
  view = later_view pfs key directory entry.name tree C D gets.counts.elsewhere (agree_gets pfs directory key entry C D gets) earlier has.view;
}

-- ---- an entry less

none_some : (b : List ℕ) → None ≡ Some b → ⊥
none_some b is = cc

module _ (pfs : ℕ) (directory : Obj) (key : ℕ) (entry : DirEntry) (C D : Content) (loses : LosesEntry pfs directory key entry C D) where
  same_loses : SameBut (entry_subject pfs directory.0 key) C D
  same_loses = loses.counts.elsewhere

  nothing_loses : (bytes : List ℕ) → D (entry_subject pfs directory.0 key) bytes → ⊥
  nothing_loses bytes has = none_some bytes ((loses.counts.about bytes).0 has)

  pub agree_loses : IsSettled C → OthersAgree pfs directory entry.name C D
  agree_loses settled =
      others_agree pfs key directory entry.name C D same_loses
      (λ other object has. name_one (record { obj = object; name = other }) entry
      (settled (entry_subject pfs directory.0 key) (entry_bytes (record { obj = object; name = other })) (entry_bytes entry) has.there loses.there.there))
      (λ other object has. absurd (nothing_loses (entry_bytes (record { obj = object; name = other })) has.there))

  pub objects_loses : (obj : ℕ) → AgreeOnObject pfs obj C D
  objects_loses obj = entry_no_object pfs directory.0 key obj C D same_loses

  settled_loses : IsSettled C → IsSettled D
  settled_loses = settled_still (entry_subject pfs directory.0 key) None C D loses.counts

  -- what is left of the name was there, and under another key
  left_loses : (other : ℕ) (object : Obj) → HasEntry D pfs directory other entry.name object
      → (other ≢ key) × HasEntry C pfs directory other entry.name object
  left_loses other object has =
      let differ : other ≢ key = λ is. nothing_loses (entry_bytes (record { obj = object; name = entry.name }))
      (subst (λ (k : ℕ). HasEntry D pfs directory k entry.name object) is has).there in (
        differ,
        kept_entry pfs key other directory entry.name object D C (same_but_back (entry_subject pfs directory.0 key) C D same_loses) differ has,
      )

  pub only_gone : (tree : FileTree) → HasView C pfs tree → IsOnly C pfs directory entry.name key → HasView D pfs (without_name tree directory entry.name)
  only_gone tree has only = record {
    settled = settled_loses has.settled;
    view = name_gone pfs tree C D directory entry.name has.view (agree_loses has.settled) objects_loses
        (λ other object there. let left = left_loses other object there in left.0 (only other object left.1));
  }

  pub next_shown : (tree : FileTree) (object : Obj) → HasView C pfs tree → IsNext C pfs directory entry.name key object
      → HasView D pfs (with_name (without_name tree directory entry.name) directory entry.name object)
  next_shown tree object has next = record {
    settled = settled_loses has.settled;
    view = name_shown pfs tree C D directory entry.name has.view (agree_loses has.settled) objects_loses (settled_loses has.settled) object
        (record {
          key = next.next;
          there = kept_entry pfs key next.next directory entry.name object C D same_loses next.besides next.there;
          first = λ other object' there. let left = left_loses other object' there in next.first other object' left.1 left.0;
        });
  }

  pub later_gone : (tree : FileTree) → HasView C pfs tree → HasEarlier C pfs directory entry.name key → HasView D pfs tree
  later_gone tree has earlier = record {
    settled = settled_loses has.settled;
    view = later_view pfs key directory entry.name tree C D same_loses (agree_loses has.settled) earlier has.view;
  }
