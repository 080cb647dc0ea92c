-- What is new in a pseudo file system, which of its elements are older, and how steps in it are one.
use Rattle.std.proofs.Common.{◌≡◌, ℕ, List, Option, Some, None, sym, ap, subst, ◌∙◌, inl, inr, arith}
use Rattle.std.specs.Prelude.{length, IfSome}
use Rattle.hm_types.specs.Elements.{FullElement, Key}
use Rattle.hm_types.specs.declared.id.Obj.{Obj}
use Rattle.hm_key.specs.declared.rec_type.TheConstants.{DIRECTORY_ENTRY}
use Rattle.hm_key.specs.Counts.{Subject, entry_subject, inode_subject, inodes_of, others_of, subject_of, target_subject}
use Rattle.hm_key.specs.Element.{IsInBlock, pfs_of}
use Rattle.hm_records.specs.Payload.{HasGrammar, IsPayload, SpellsEntry, SpellsInode, SpellsPfs}
use Rattle.hm_records.specs.Target.{IsTarget}
use Rattle.hm_records.specs.declared.entry.DirEntry.{DirEntry}
use Rattle.hm_records.proofs.NameLemmas.{entry_one}
use Rattle.hm_cursor.specs.Told.{Lists}
use Rattle.hm_cursor.specs.Views.{IsNothing, WritesIn}
use Rattle.hm_cursor.specs.Write.{IsFreshFor}
use Rattle.hm_cursor.proofs.ViewsLemmas.{IsSteady, writes_again, writes_wider}
use Rattle.hm_objects.specs.Objects.{IsOfObject, IsOlder}
use Rattle.hm_dirs.specs.Names.{AreOlder, IsEntryAt}
use Rattle.hm_calls.specs.Known.{AreBelow}
use Rattle.hm_calls.specs.Writes.{AllCame, IsNewIn, NamesNothing, NamesObject}

-- ---- payloads

-- an element of the same key and the same bytes has a payload that keeps the grammar
pub payload_kept : (x e : FullElement) → x.key ≡ e.key → x.bytes ≡ e.bytes → IsPayload e → IsPayload x
payload_kept x e key bytes is = record {
  known = subst HasGrammar (sym type) is.known;
  inode = λ t. subst SpellsInode (sym bytes) (is.inode (sym type ∙ t));
  file_bytes = λ t. subst (λ (k : Key). IsInBlock k.key (length x.bytes)) (sym key)
      (subst (λ (b : List ℕ). IsInBlock e.key.key (length b)) (sym bytes) (is.file_bytes (sym type ∙ t)));
  entry = λ t. subst SpellsEntry (sym bytes) (is.entry (sym type ∙ t));
  target = λ t. subst IsTarget (sym bytes) (is.target (sym type ∙ t));
  pfs = λ t. subst SpellsPfs (sym bytes) (is.pfs (sym type ∙ t));
} where
  type : x.key.rec_type ≡ e.key.rec_type
  type = ap (λ (k : Key). k.rec_type) key

entry_payload : (x : FullElement) → x.key.rec_type ≡ DIRECTORY_ENTRY → SpellsEntry x.bytes → IsPayload x
entry_payload x is spells = record {
  known = inr (inr (inl is));
  inode = λ is'. absurd (omega (arith, is, is'));
  file_bytes = λ is'. absurd (omega (arith, is, is'));
  entry = λ _. spells;
  target = λ is'. absurd (omega (arith, is, is'));
  pfs = λ is'. absurd (omega (arith, is, is'));
}

-- ---- the pseudo file system of a subject

inodes_pfs : (pfs : ℕ) → pfs_of (inodes_of pfs) ≡ pfs
inodes_pfs pfs = omega arith

others_pfs : (pfs : ℕ) → pfs_of (others_of pfs) ≡ pfs
others_pfs pfs = omega arith

-- ---- what is new

pub new_entry : (pfs i key : ℕ) (directory : Obj) (entry : DirEntry) (kind : ℕ) (x : FullElement) → IsEntryAt pfs directory key i entry kind x
    → IsNewIn pfs i x
new_entry pfs i key directory entry kind x is = record {
  place = ap (λ (s : Subject). pfs_of s.localization) is.about ∙ others_pfs pfs;
  made = is.made;
  payload = entry_payload x (ap (λ (s : Subject). s.rec_type) is.about) (entry, is.entry_is, is.bytes);
}

pub new_of_object : (pfs obj i : ℕ) (x : FullElement) → IsOfObject pfs obj i x → IsNewIn pfs i x
new_of_object pfs obj i x is = record {
  place = elim is.about [
    | inl inode ↦ ap (λ (s : Subject). pfs_of s.localization) inode ∙ inodes_pfs pfs
    | inr target ↦ ap (λ (s : Subject). pfs_of s.localization) target ∙ others_pfs pfs
  ];
  made = is.made;
  payload = is.payload;
}

pub steady : (pfs i : ℕ) → IsSteady (IsNewIn pfs i)
steady pfs i x e key kind bytes is = record {
  place = ap (λ (k : Key). pfs_of k.localization) key ∙ is.place;
  made = ap (λ (k : Key). k.create) key ∙ is.made;
  payload = payload_kept x e key bytes is.payload;
}

-- ---- where new entries lead

pub entry_leads : (pfs i key : ℕ) (directory : Obj) (entry : DirEntry) (kind : ℕ) (x : FullElement) → IsEntryAt pfs directory key i entry kind x
    → NamesObject entry.obj kind x
entry_leads pfs i key directory entry kind x is = record {
  leads = λ found type ranges spelled. (
    ap (λ (e : DirEntry). e.obj) (entry_one found entry ranges is.entry_is (sym spelled ∙ is.bytes)),
    is.kind_is,
  );
}

pub no_entry_leads : (obj : Obj) (kind : ℕ) (x : FullElement) → NamesNothing x → NamesObject obj kind x
no_entry_leads obj kind x other = record { leads = λ found type ranges spelled. absurd (other type) }

pub no_entry_of_object : (pfs obj i : ℕ) (x : FullElement) → IsOfObject pfs obj i x → NamesNothing x
no_entry_of_object pfs obj i x is type = elim is.about [
  | inl inode ↦ absurd (omega (arith, type, ap (λ (s : Subject). s.rec_type) inode))
  | inr target ↦ absurd (omega (arith, type, ap (λ (s : Subject). s.rec_type) target))
]

pub no_entry_none : (x : FullElement) → IsNothing x → NamesNothing x
no_entry_none x is = absurd is

leads_steady : (obj : Obj) (kind : ℕ) → IsSteady (NamesObject obj kind)
leads_steady obj kind x e key type bytes is = record {
  leads = λ found is_entry ranges spelled.
      let old = is.leads found (sym (ap (λ (k : Key). k.rec_type) key) ∙ is_entry) ranges (sym bytes ∙ spelled) in
      (old.0, type ∙ old.1);
}

no_entry_steady : IsSteady NamesNothing
no_entry_steady x e key type bytes is other = is (sym (ap (λ (k : Key). k.rec_type) key) ∙ other)

-- an object comes by steps of which the last makes its name, and else no step makes an entry
pub leads_then : (pfs i : ℕ) (obj : Obj) (kind : ℕ) (First Second : FullElement → Type 0) (es mid es' : List FullElement)
    → ((x : FullElement) → First x → NamesNothing x) → ((x : FullElement) → Second x → NamesObject obj kind x) → WritesIn pfs i First es mid
    → WritesIn pfs i Second mid es' → AllCame (NamesObject obj kind) es es'
leads_then pfs i obj kind First Second es mid es' one other first second =
    (writes_again pfs i (NamesObject obj kind) es mid es' (leads_steady obj kind)
    (writes_wider pfs i First (NamesObject obj kind) es mid (λ x new. no_entry_leads obj kind x (one x new)) first)
    (writes_wider pfs i Second (NamesObject obj kind) mid es' other second)).came

pub no_entries_then : (pfs i : ℕ) (First Second : FullElement → Type 0) (es mid es' : List FullElement)
    → ((x : FullElement) → First x → NamesNothing x) → ((x : FullElement) → Second x → NamesNothing x) → WritesIn pfs i First es mid
    → WritesIn pfs i Second mid es' → WritesIn pfs i NamesNothing es es'
no_entries_then pfs i First Second es mid es' one other first second =
    writes_again pfs i NamesNothing es mid es' no_entry_steady (writes_wider pfs i First NamesNothing es mid one first)
    (writes_wider pfs i Second NamesNothing mid es' other second)

-- ---- two steps

-- what each of them makes is new in the pseudo file system
pub steps_twice : (pfs i : ℕ) (First Second : FullElement → Type 0) (es mid es' : List FullElement) → ((x : FullElement) → First x → IsNewIn pfs i x)
    → ((x : FullElement) → Second x → IsNewIn pfs i x) → WritesIn pfs i First es mid → WritesIn pfs i Second mid es' → WritesIn pfs i (IsNewIn pfs i) es es'
steps_twice pfs i First Second es mid es' one other first second =
    writes_again pfs i (IsNewIn pfs i) es mid es' (steady pfs i) (writes_wider pfs i First (IsNewIn pfs i) es mid one first)
    (writes_wider pfs i Second (IsNewIn pfs i) mid es' other second)

pub none_new : (pfs i : ℕ) (x : FullElement) → IsNothing x → IsNewIn pfs i x
none_new pfs i x is = absurd is

-- ---- what is older

-- a subject of a pseudo file system whose elements are older
fresh_below : (pfs i : ℕ) (s : Subject) (es : List FullElement) → pfs_of s.localization ≡ pfs → AreBelow pfs i es → IsFreshFor s i es
fresh_below pfs i s es place below = record {
  made = λ x has about. (below x has (within x about)).made;
  closed = λ x has about. let older = (below x has (within x about)).closed in omega (arith, older);
} where
  within : (x : FullElement) → subject_of x.key ≡ s → pfs_of x.key.localization ≡ pfs
  within x about = ap (λ (z : Subject). pfs_of z.localization) about ∙ place

pub entries_older : (pfs i : ℕ) (directory : Obj) (es : List FullElement) → AreBelow pfs i es → AreOlder pfs directory i es
entries_older pfs i directory es below key = fresh_below pfs i (entry_subject pfs directory.0 key) es (others_pfs pfs) below

pub object_older : (pfs i obj : ℕ) (es : List FullElement) → AreBelow pfs i es → IsOlder pfs obj i es
object_older pfs i obj es below = record {
  inode = fresh_below pfs i (inode_subject pfs obj) es (inodes_pfs pfs) below;
  target = fresh_below pfs i (target_subject pfs obj) es (others_pfs pfs) below;
}

-- after a call that made nothing new
pub entries_older_still : (pfs i : ℕ) (directory : Obj) (es es' : List FullElement) → WritesIn pfs i IsNothing es es' → AreOlder pfs directory i es
    → AreOlder pfs directory i es'
entries_older_still pfs i directory es es' writes older key =
    writes.fresh (entry_subject pfs directory.0 key) (λ x new is. new) (older key)

pub object_older_still : (pfs i obj : ℕ) (es es' : List FullElement) → WritesIn pfs i IsNothing es es' → IsOlder pfs obj i es → IsOlder pfs obj i es'
object_older_still pfs i obj es es' writes older = record {
  inode = writes.fresh (inode_subject pfs obj) (λ x new is. new) older.inode;
  target = writes.fresh (target_subject pfs obj) (λ x new is. new) older.target;
}

-- after one that wrote about an object
pub entries_older_beside : (pfs i obj : ℕ) (directory : Obj) (es es' : List FullElement) → WritesIn pfs i (IsOfObject pfs obj i) es es'
    → AreOlder pfs directory i es → AreOlder pfs directory i es'
entries_older_beside pfs i obj directory es es' writes older key =
    writes.fresh (entry_subject pfs directory.0 key) apart (older key)
  where
    apart : (x : FullElement) → IsOfObject pfs obj i x → subject_of x.key ≡ entry_subject pfs directory.0 key → ⊥
    apart x new is = elim new.about [
      | inl inode ↦ absurd (omega (arith, ap (λ (s : Subject). s.rec_type) is, ap (λ (s : Subject). s.rec_type) inode))
      | inr target ↦ absurd (omega (arith, ap (λ (s : Subject). s.rec_type) is, ap (λ (s : Subject). s.rec_type) target))
    ]

-- a fact of a content that may be told follows from another one
pub told_so : {P Q : Lists → Type 0} (o : Option Lists) → ((lists : Lists) → P lists → Q lists) → IfSome o P → IfSome o Q
told_so None so is = tt
told_so (Some lists) so is = so lists is
