-- Subjects differ, so that what is overridden for one leaves the others as they were.
use Rattle.std.proofs.Common.{◌≡◌, ◌≢◌, ℕ, List, sym, ap, subst, inl, inr, arith}
use Rattle.std.specs.Prelude.{◌↔◌, ◌⊎◌, Option, Some}
use Rattle.std.proofs.lemmas.Bool.{cases_eq}
use Rattle.hm_types.specs.declared.id.Obj.{Obj}
use Rattle.hm_key.specs.declared.rec_type.TheConstants.{INODE, FILE_BYTES, DIRECTORY_ENTRY, SOFTLINK_TARGET}
use Rattle.hm_records.specs.Entry.{entry_bytes}
use Rattle.hm_key.specs.Counts.{Content, Subject, inode_subject, bytes_subject, entry_subject, target_subject, inodes_of, others_of}
use Rattle.hm_records.specs.Changes.{AgreeButObject, AgreeOnName, AgreeOnObject, IsBeside, IsSettled, Overrides}

-- for all but one subject the same counts
abbrev pub SameBut : Subject → Content → Content → Type 0
SameBut s C D = (other : Subject) (bytes : List ℕ) → other ≢ s → D other bytes ↔ C other bytes

pub same_but_back : (s : Subject) (C D : Content) → SameBut s C D → SameBut s D C
same_but_back s C D same other bytes not = ((same other bytes not).1, (same other bytes not).0)

-- subjects of two types
pub apart : (s u : Subject) → s.rec_type ≢ u.rec_type → s ≢ u
apart s u differ same = differ (ap (λ (z : Subject). z.rec_type) same)

-- an override about something else than an object
pub object_same : (s : Subject) (pfs obj : ℕ) (C D : Content) → SameBut s C D → inode_subject pfs obj ≢ s
    → ((end : ℕ) → bytes_subject pfs obj end ≢ s) → target_subject pfs obj ≢ s → AgreeOnObject pfs obj C D
object_same s pfs obj C D same inode bytes target = record {
  inode = λ b. same (inode_subject pfs obj) b inode;
  bytes = λ end b. same (bytes_subject pfs obj end) b (bytes end);
  target = λ b. same (target_subject pfs obj) b target;
}

pub name_same : (s : Subject) (pfs : ℕ) (directory : Obj) (name : List ℕ) (C D : Content) → SameBut s C D
    → ((key : ℕ) → entry_subject pfs directory.0 key ≢ s) → AgreeOnName pfs directory name C D
name_same s pfs directory name C D same not key object = (
  λ has. record { ranges = has.ranges; there = (agree).0 has.there },
  λ has. record { ranges = has.ranges; there = (agree).1 has.there },
) where
  bytes : List ℕ
  bytes = entry_bytes (record { obj = object; name = name })

  agree : D (entry_subject pfs directory.0 key) bytes ↔ C (entry_subject pfs directory.0 key) bytes
  agree = same (entry_subject pfs directory.0 key) bytes (not key)

-- an override of an entry is about no object
pub entry_no_object : (pfs directory key obj : ℕ) (C D : Content) → SameBut (entry_subject pfs directory key) C D → AgreeOnObject pfs obj C D
entry_no_object pfs directory key obj C D same =
    let s : Subject = entry_subject pfs directory key in
    object_same s pfs obj C D same
    (apart (inode_subject pfs obj) s (λ is. absurd (omega (arith, is))))
    (λ end. apart (bytes_subject pfs obj end) s (λ is. absurd (omega (arith, is))))
    (apart (target_subject pfs obj) s (λ is. absurd (omega (arith, is))))

-- an override of an inode, of bytes or of a target is about one object, and about no entry
pub inode_one_object : (pfs obj : ℕ) (C D : Content) → SameBut (inode_subject pfs obj) C D → AgreeButObject pfs obj C D
inode_one_object pfs obj C D same =
    let s : Subject = inode_subject pfs obj in
    record {
      objects = λ other not. object_same s pfs other C D same
          (λ is. not (ap (λ (z : Subject). z.obj) is))
          (λ end. apart (bytes_subject pfs other end) s (λ is. absurd (omega (arith, is))))
          (apart (target_subject pfs other) s (λ is. absurd (omega (arith, is))));
      entries = λ directory name. name_same s pfs directory name C D same
          (λ key. apart (entry_subject pfs directory.0 key) s (λ is. absurd (omega (arith, is))));
    }

pub bytes_one_object : (pfs obj end : ℕ) (C D : Content) → SameBut (bytes_subject pfs obj end) C D → AgreeButObject pfs obj C D
bytes_one_object pfs obj end C D same =
    let s : Subject = bytes_subject pfs obj end in
    record {
      objects = λ other not. object_same s pfs other C D same
          (apart (inode_subject pfs other) s (λ is. absurd (omega (arith, is))))
          (λ end' is. not (ap (λ (z : Subject). z.obj) is))
          (apart (target_subject pfs other) s (λ is. absurd (omega (arith, is))));
      entries = λ directory name. name_same s pfs directory name C D same
          (λ key. apart (entry_subject pfs directory.0 key) s (λ is. absurd (omega (arith, is))));
    }

pub target_one_object : (pfs obj : ℕ) (C D : Content) → SameBut (target_subject pfs obj) C D → AgreeButObject pfs obj C D
target_one_object pfs obj C D same =
    let s : Subject = target_subject pfs obj in
    record {
      objects = λ other not. object_same s pfs other C D same
          (apart (inode_subject pfs other) s (λ is. absurd (omega (arith, is))))
          (λ end. apart (bytes_subject pfs other end) s (λ is. absurd (omega (arith, is))))
          (λ is. not (ap (λ (z : Subject). z.obj) is));
      entries = λ directory name. name_same s pfs directory name C D same
          (λ key. apart (entry_subject pfs directory.0 key) s (λ is. absurd (omega (arith, is))));
    }

-- several changes of one object
pub but_object_twice : (pfs obj : ℕ) (C D E : Content) → AgreeButObject pfs obj C D → AgreeButObject pfs obj D E → AgreeButObject pfs obj C E
but_object_twice pfs obj C D E first second = record {
  objects = λ other not.
      let a = first.objects other not in
      let b = second.objects other not in
      record {
        inode = λ bytes. (λ h. (a.inode bytes).0 ((b.inode bytes).0 h), λ h. (b.inode bytes).1 ((a.inode bytes).1 h));
        bytes = λ end bytes. (λ h. (a.bytes end bytes).0 ((b.bytes end bytes).0 h), λ h. (b.bytes end bytes).1 ((a.bytes end bytes).1 h));
        target = λ bytes. (λ h. (a.target bytes).0 ((b.target bytes).0 h), λ h. (b.target bytes).1 ((a.target bytes).1 h));
      };
  entries = λ directory name key object. (
    λ h. (first.entries directory name key object).0 ((second.entries directory name key object).0 h),
    λ h. (second.entries directory name key object).1 ((first.entries directory name key object).1 h),
  );
}

-- ---- subjects outside a tree

pub beside_other : (pfs : ℕ) (s : Subject) → s.localization ≢ inodes_of pfs → s.localization ≢ others_of pfs → IsBeside pfs s
beside_other pfs s inodes others = record {
  inode = λ obj is. inodes (ap (λ (z : Subject). z.localization) is);
  bytes = λ obj end is. others (ap (λ (z : Subject). z.localization) is);
  target = λ obj is. others (ap (λ (z : Subject). z.localization) is);
  entry = λ directory key is. others (ap (λ (z : Subject). z.localization) is);
}

pub beside_type : (pfs : ℕ) (s : Subject) → s.rec_type ≢ INODE → s.rec_type ≢ FILE_BYTES → s.rec_type ≢ DIRECTORY_ENTRY
    → s.rec_type ≢ SOFTLINK_TARGET → IsBeside pfs s
beside_type pfs s inode bytes entry target = record {
  inode = λ obj. apart s (inode_subject pfs obj) inode;
  bytes = λ obj end. apart s (bytes_subject pfs obj end) bytes;
  target = λ obj. apart s (target_subject pfs obj) target;
  entry = λ directory key. apart s (entry_subject pfs directory key) entry;
}

pub beside_object : (pfs obj : ℕ) (s : Subject) (C D : Content) → IsBeside pfs s → SameBut s C D → AgreeOnObject pfs obj C D
beside_object pfs obj s C D beside same =
    object_same s pfs obj C D same (λ is. beside.inode obj (sym is)) (λ end is. beside.bytes obj end (sym is)) (λ is. beside.target obj (sym is))

pub beside_name : (pfs : ℕ) (directory : Obj) (name : List ℕ) (s : Subject) (C D : Content) → IsBeside pfs s → SameBut s C D
    → AgreeOnName pfs directory name C D
beside_name pfs directory name s C D beside same = name_same s pfs directory name C D same (λ key is. beside.entry directory.0 key (sym is))

-- ---- settled contents

pub same_subject : (s u : Subject) → (s ≡ u) ⊎ (s ≢ u)
same_subject s u = elim (cases_eq s.localization u.localization) [
  | inr differ ↦ inr (λ is. differ (ap (λ (z : Subject). z.localization) is))
  | inl l ↦ elim (cases_eq s.obj u.obj) [
    | inr differ ↦ inr (λ is. differ (ap (λ (z : Subject). z.obj) is))
    | inl o ↦ elim (cases_eq s.rec_type u.rec_type) [
      | inr differ ↦ inr (λ is. differ (ap (λ (z : Subject). z.rec_type) is))
      | inl r ↦ elim (cases_eq s.key u.key) [
        | inr differ ↦ inr (λ is. differ (ap (λ (z : Subject). z.key) is))
        | inl k ↦ inl (λ i. record { localization = l i; obj = o i; rec_type = r i; key = k i })
      ]
    ]
  ]
]

some_one : (now : Option (List ℕ)) (a b : List ℕ) → now ≡ Some a → now ≡ Some b → a ≡ b
some_one now a b is is' = cc

pub settled_still : (s : Subject) (now : Option (List ℕ)) (C D : Content) → Overrides s now C D
    → IsSettled C → IsSettled D
settled_still s now C D overrides settled u a b has has' = elim (same_subject u s) [
  | inl same ↦ some_one now a b ((overrides.about a).0 (subst (λ (z : Subject). D z a) same has))
      ((overrides.about b).0 (subst (λ (z : Subject). D z b) same has'))
  | inr not ↦ settled u a b ((overrides.elsewhere u a not).0 has) ((overrides.elsewhere u b not).0 has')
]
