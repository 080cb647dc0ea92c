-- New elements about an object: they may stand in a leaf, and keep the grammar of payloads.
use Rattle.std.proofs.Common.{◌≡◌, ◌≢◌, ℕ, ◌≤◌, List, length, refl, sym, ap, subst, ◌∙◌, inl, inr, arith}
use Rattle.std.specs.Prelude.{Option, None, Some}
use Rattle.std.proofs.lemmas.Bool.{cases_lt}
use Rattle.hm_types.specs.Elements.{FullElement, Key}
use Rattle.hm_types.specs.declared.zone.TheConstants.{META_ZONE}
use Rattle.hm_key.specs.declared.rec_type.TheConstants.{DIRECTORY_ENTRY, INODE, SOFTLINK_TARGET}
use Rattle.hm_key.specs.declared.base.Base.{Base}
use Rattle.hm_key.specs.Counts.{Subject, entry_subject, inode_subject, inodes_of, subject_of, target_subject}
use Rattle.hm_key.specs.Element.{FitsType}
use Rattle.hm_key.specs.Elements.{element_key}
use Rattle.hm_key.specs.Key.{key_of}
use Rattle.hm_key.specs.declared.element.Element.{Element}
use Rattle.hm_records.specs.declared.inode.Inode.{Inode}
use Rattle.hm_records.specs.Inode.{IsInode, inode_bytes}
use Rattle.hm_records.specs.KeysFit.{KeysFit}
use Rattle.hm_records.specs.Payload.{IsPayload, SpellsInode}
use Rattle.hm_records.specs.Target.{IsTarget}
use Rattle.hm_records.proofs.InodeLemmas.{length-inode}
use Rattle.hm_cursor.specs.Views.{WritesIn}
use Rattle.hm_cursor.specs.Write.{IsNew, Rewrites, most_payload}
use Rattle.hm_cursor.proofs.ViewsLemmas.{IsSteady, IsWithin, Makes, keys_fit_still}
use Rattle.hm_objects.specs.Objects.{IsOfObject, KeepEntries, open_base}

-- ---- their subjects

pub inode_within : (pfs obj : ℕ) → IsWithin pfs (inode_subject pfs obj)
inode_within pfs obj = record { place = inl refl; no_record = λ is. absurd (omega (arith, is)) }

pub target_within : (pfs obj : ℕ) → IsWithin pfs (target_subject pfs obj)
target_within pfs obj = record { place = inr refl; no_record = λ is. absurd (omega (arith, is)) }

-- ---- their payloads

inode_payload : (x : FullElement) → x.key.rec_type ≡ INODE → SpellsInode x.bytes → IsPayload x
inode_payload x is spells = record {
  known = inl is;
  inode = λ _. spells;
  file_bytes = λ is'. absurd (omega (arith, is, is'));
  entry = λ is'. absurd (omega (arith, is, is'));
  target = λ is'. absurd (omega (arith, is, is'));
  pfs = λ is'. absurd (omega (arith, is, is'));
}

target_payload : (x : FullElement) → x.key.rec_type ≡ SOFTLINK_TARGET → IsTarget x.bytes → IsPayload x
target_payload x is target = record {
  known = inr (inr (inr (inl is)));
  inode = λ is'. absurd (omega (arith, is, is'));
  file_bytes = λ is'. absurd (omega (arith, is, is'));
  entry = λ is'. absurd (omega (arith, is, is'));
  target = λ _. target;
  pfs = λ is'. absurd (omega (arith, is, is'));
}

some_one : (a b : List ℕ) → Some a ≡ Some b → a ≡ b
some_one a b is = cc

pub makes_inode : (pfs obj i : ℕ) (inode : Inode) → IsInode inode → Makes (inode_subject pfs obj) (Some (inode_bytes inode)) i (IsOfObject pfs obj i)
makes_inode pfs obj i inode ranges x about made now = record {
  about = inl about;
  made = made;
  payload = inode_payload x (ap (λ (s : Subject). s.rec_type) about) (inode, ranges, sym (some_one (inode_bytes inode) x.bytes now));
}

pub makes_target : (pfs obj i : ℕ) (text : List ℕ) → IsTarget text → Makes (target_subject pfs obj) (Some text) i (IsOfObject pfs obj i)
makes_target pfs obj i text target x about made now = record {
  about = inr about;
  made = made;
  payload = target_payload x (ap (λ (s : Subject). s.rec_type) about) (subst IsTarget (some_one text x.bytes now) target);
}

pub makes_none : (s : Subject) (i : ℕ) (New : FullElement → Type 0) → Makes s None i New
makes_none s i New x about made now = absurd (cc)

pub steady : (pfs obj i : ℕ) → IsSteady (IsOfObject pfs obj i)
steady pfs obj i x e key kind bytes is = record {
  about = elim is.about [
    | inl inode ↦ inl (ap subject_of key ∙ inode)
    | inr target ↦ inr (ap subject_of key ∙ target)
  ];
  made = ap (λ (k : Key). k.create) key ∙ is.made;
  payload = payload;
} where
  payload : IsPayload x
  payload = elim is.about [
    | inl inode ↦
        let type : e.key.rec_type ≡ INODE = ap (λ (s : Subject). s.rec_type) inode in
        inode_payload x (ap (λ (k : Key). k.rec_type) key ∙ type) (subst SpellsInode (sym bytes) (is.payload.inode type))
    | inr target ↦
        let type : e.key.rec_type ≡ SOFTLINK_TARGET = ap (λ (s : Subject). s.rec_type) target in
        target_payload x (ap (λ (k : Key). k.rec_type) key ∙ type) (subst IsTarget (sym bytes) (is.payload.target type))
  ]

-- they are no entries, so that the keys of entries fit their names as before
pub keys_fit : (pfs obj i : ℕ) (es es' : List FullElement) → WritesIn pfs i (IsOfObject pfs obj i) es es' → (hash : List ℕ → ℕ) → KeysFit hash es
    → KeysFit hash es'
keys_fit pfs obj i es es' writes hash =
    keys_fit_still pfs i (IsOfObject pfs obj i) hash es es' writes
    (λ x entry new type ranges spelled. absurd (elim new.about [
      | inl inode ↦ omega (arith, type, ap (λ (s : Subject). s.rec_type) inode)
      | inr target ↦ omega (arith, type, ap (λ (s : Subject). s.rec_type) target)
    ]))

-- ---- entries, of which none is one of theirs

-- they count as before, by then and from then on
entries_beside : (pfs i : ℕ) (s : Subject) (now : Option (List ℕ)) (es es' : List FullElement) → s.rec_type ≢ DIRECTORY_ENTRY → Rewrites s now i es es'
    → KeepEntries pfs es es'
entries_beside pfs i s now es es' differ rewrites t directory key bytes = elim (cases_lt t i) [
  | inl before ↦ rewrites.past t before (entry_subject pfs directory key) bytes
  | inr not ↦ (rewrites.present t (omega (arith, not))).elsewhere (entry_subject pfs directory key) bytes
      (λ is. differ (ap (λ (z : Subject). z.rec_type) (sym is)))
]

pub inode_entries : (pfs obj i : ℕ) (now : Option (List ℕ)) (es es' : List FullElement) → Rewrites (inode_subject pfs obj) now i es es' → KeepEntries pfs es es'
inode_entries pfs obj i now es es' = entries_beside pfs i (inode_subject pfs obj) now es es' (λ is. absurd (omega (arith, is)))

pub target_entries : (pfs obj i : ℕ) (now : Option (List ℕ)) (es es' : List FullElement) → Rewrites (target_subject pfs obj) now i es es'
    → KeepEntries pfs es es'
target_entries pfs obj i now es es' = entries_beside pfs i (target_subject pfs obj) now es es' (λ is. absurd (omega (arith, is)))

pub entries_twice : (pfs : ℕ) (es mid es' : List FullElement) → KeepEntries pfs es mid → KeepEntries pfs mid es' → KeepEntries pfs es es'
entries_twice pfs es mid es' first second t directory key bytes = (
  λ h. (first t directory key bytes).0 ((second t directory key bytes).0 h),
  λ h. (second t directory key bytes).1 ((first t directory key bytes).1 h),
)

-- ---- their bases

-- a kind of objects
abbrev pub IsKind : ℕ → Type 0
IsKind kind = (1 ≤ kind) × (kind ≤ 4)

inode_fits : (pfs obj : ℕ) (e : Element) → subject_of (element_key e) ≡ inode_subject pfs obj → FitsType e
inode_fits pfs obj e about =
    let place : e.base.localization ≡ inodes_of pfs = ap (λ (s : Subject). s.localization) about in
    let type : e.base.rec_type ≡ INODE = ap (λ (s : Subject). s.rec_type) about in
    record {
      known = inl type;
      inode_part = λ _. omega (arith, place);
      other_part = λ other. absurd (other type);
      inode = λ _. ap (λ (s : Subject). s.key) about;
      target = λ is. absurd (omega (arith, is, type));
      file_bytes = λ is. absurd (omega (arith, is, type));
      pfs_object = λ is. absurd (omega (arith, is, type));
      snapshot_object = λ is. absurd (omega (arith, is, type));
      pfs_number = λ is. absurd (omega (arith, is, type));
    }

-- an element with an open base may be added, where its type fits
new_element : (kind i : ℕ) (base : Base) (bytes : List ℕ) → 1 ≤ i → IsKind kind → (1 ≤ length bytes) × (length bytes ≤ most_payload)
    → ((payload : ℕ) → FitsType (record { base = open_base base kind i; payload = payload; len = length bytes }))
    → IsNew (open_base base kind i) META_ZONE bytes
new_element kind i base bytes some known size fits = record {
  element = λ payload. record { made = some; closed = inl refl; obj_type = known; btype = refl; fits = fits payload };
  unclosed = refl;
  payload_zone = (omega arith, omega arith);
  some = size.0;
  few = size.1;
}

pub new_inode : (pfs obj i kind : ℕ) (base open' : Base) (inode : Inode) (bytes : List ℕ) → 1 ≤ i → IsInode inode → kind ≡ inode.kind
    → subject_of (key_of base) ≡ inode_subject pfs obj → open' ≡ open_base base kind i → bytes ≡ inode_bytes inode → IsNew open' META_ZONE bytes
new_inode pfs obj i kind base open' inode bytes some ranges same about made is =
    subst (λ (b : Base). IsNew b META_ZONE bytes) (sym made)
    (new_element kind i base bytes some (omega (arith, same, ranges.sized.known.0), omega (arith, same, ranges.sized.known.1))
    (omega (arith, size), omega (arith, size))
    (λ payload. inode_fits pfs obj (record { base = open_base base kind i; payload = payload; len = length bytes }) about))
  where
    size : length bytes ≡ 32
    size = ap length is ∙ length-inode inode
