-- What a call on an object does to the trees.
use Rattle.std.proofs.Common.{◌≡◌, ◌≢◌, ℕ, ◌^◌, ◌<◌, ◌≤◌, List, [], length, refl, sym, subst, arith}
use Rattle.std.specs.Prelude.{Option, None, Some}
use Rattle.hm_types.specs.Elements.{FullElement}
use Rattle.hm_types.specs.Tree.{FileTree, directory_of, with_change, with_links, without_object}
use Rattle.hm_types.specs.declared.id.Obj.{Obj}
use Rattle.hm_types.specs.declared.id.Pfs.{Pfs}
use Rattle.hm_types.specs.declared.object.Object.{Object}
use Rattle.hm_key.specs.declared.base.Base.{Base}
use Rattle.hm_key.specs.declared.rec_type.TheConstants.{FILE_BYTES}
use Rattle.hm_key.specs.Counts.{Content, Counts, Subject, inode_subject, subject_of, target_subject}
use Rattle.hm_key.specs.Key.{key_of}
use Rattle.hm_records.specs.Changes.{AgreeButObject, ChangesObject, CountsNothing, HasInode}
use Rattle.hm_records.specs.Follows.{StillFollow}
use Rattle.hm_records.specs.Inode.{IsInode, inode_bytes}
use Rattle.hm_records.specs.Laws.{HasView, linked, with_inode}
use Rattle.hm_records.specs.Target.{IsTarget}
use Rattle.hm_records.specs.View.{IsObject, held}
use Rattle.hm_records.specs.declared.inode.Inode.{Inode}
use Rattle.hm_records.specs.declared.kind.TheConstants.{DIRECTORY, FILE, PFS_LINK, SOFTLINK}
use Rattle.hm_records.proofs.MadeLemmas.{directory_made, file_made, inode_changes, links_changed, no_bytes, pfs_link_made}
use Rattle.hm_records.proofs.MadeLemmas.{softlink_made, target_changes}
use Rattle.hm_records.proofs.ObjectChangeLemmas.{object_added, object_changed, object_gone}
use Rattle.hm_records.proofs.SubjectLemmas.{apart, but_object_twice}
use Rattle.hm_cursor.specs.Views.{IsMissing, Shows, WritesIn}
use Rattle.hm_cursor.specs.Write.{FollowWith, IsFreshFor, Rewrites}
use Rattle.hm_cursor.proofs.FollowLemmas.{adding_follows, closing_follows, follow_twice, renewing_follows}
use Rattle.hm_cursor.proofs.ViewsLemmas.{fresh_beside, fresh_later, nothing_written, writes_again, writes_within}
use Rattle.hm_objects.specs.Objects.{AddsObject, ChangesBy, IsGone, IsOfObject, IsOlder, KeepEntries, file_of, inode_of, open_base}
use Rattle.hm_objects.specs.Objects.{pfs_link_inode, pfs_link_of, softlink_of}
use Rattle.hm_objects.proofs.NewLemmas.{entries_twice, inode_entries, inode_within, keys_fit, makes_inode, makes_none, makes_target, steady}
use Rattle.hm_objects.proofs.NewLemmas.{target_entries, target_within}

-- the inode and the target of an object are two subjects
inode_no_target : (pfs obj : ℕ) → inode_subject pfs obj ≢ target_subject pfs obj
inode_no_target pfs obj = apart (inode_subject pfs obj) (target_subject pfs obj) (λ is. absurd (omega (arith, is)))

-- ---- the keys of entries fit their names after any of these calls, and each entry counts as before

adds_object : (pfs i : ℕ) (object : Object) (es es' : List FullElement) → WritesIn pfs i (IsOfObject pfs object.number.0 i) es es'
    → KeepEntries pfs es es' → (IsMissing pfs object.number.0 i es → Shows pfs i (λ tree. with_inode tree object) es es')
    → (IsMissing pfs object.number.0 i es → StillFollow es es') → AddsObject pfs i object es es'
adds_object pfs i object es es' writes entries shows follows =
    record { writes = writes; shows = shows; fits = keys_fit pfs object.number.0 i es es' writes; entries = entries; follows = follows }

changes_object : (pfs obj i : ℕ) (change : FileTree → FileTree) (es es' : List FullElement) → WritesIn pfs i (IsOfObject pfs obj i) es es'
    → KeepEntries pfs es es' → Shows pfs i change es es' → StillFollow es es' → ChangesBy pfs obj i change es es'
changes_object pfs obj i change es es' writes entries shows follows =
    record { writes = writes; shows = shows; fits = keys_fit pfs obj i es es' writes; entries = entries; follows = follows }

-- inodes and targets are no bytes
pub inode_no_bytes : (pfs obj : ℕ) → (inode_subject pfs obj).rec_type ≢ FILE_BYTES
inode_no_bytes pfs obj is = absurd (omega (arith, is))

target_no_bytes : (pfs obj : ℕ) → (target_subject pfs obj).rec_type ≢ FILE_BYTES
target_no_bytes pfs obj is = absurd (omega (arith, is))

-- ---- an object that is added

-- a new inode of an object, of these bytes
abbrev pub NewInode : ℕ → ℕ → ℕ → Inode → List FullElement → List FullElement → Type 0
NewInode pfs obj i inode = Rewrites (inode_subject pfs obj) (Some (inode_bytes inode)) i

-- a new target of an object
abbrev pub NewTarget : ℕ → ℕ → ℕ → List ℕ → List FullElement → List FullElement → Type 0
NewTarget pfs obj i text = Rewrites (target_subject pfs obj) (Some text) i

-- the inode counts
inode_there : (pfs obj i t : ℕ) (inode : Inode) (es es' : List FullElement) → IsInode inode → NewInode pfs obj i inode es es' → i ≤ t
    → HasInode (Counts es' t) pfs obj inode
inode_there pfs obj i t inode es es' ranges new late =
    record { ranges = ranges; there = ((new.present t late).about (inode_bytes inode)).1 refl }

inode_added : (pfs i : ℕ) (object : Object) (inode : Inode) (es es' : List FullElement) → IsInode inode → NewInode pfs object.number.0 i inode es es'
    → ((t : ℕ) → i ≤ t → HasInode (Counts es' t) pfs object.number.0 inode → IsObject (Counts es' t) pfs object) → AddsObject pfs i object es es'
inode_added pfs i object inode es es' ranges new makes =
    adds_object pfs i object es es'
    (writes_within pfs i (inode_subject pfs object.number.0) (Some (inode_bytes inode)) (IsOfObject pfs object.number.0 i) es es'
    (inode_within pfs object.number.0) (makes_inode pfs object.number.0 i inode ranges) new)
    (inode_entries pfs object.number.0 i (Some (inode_bytes inode)) es es' new)
    (λ missing t tree late has.
    object_added pfs object.number.0 tree (Counts es t) (Counts es' t) has
    (inode_changes pfs object.number.0 (Some (inode_bytes inode)) (Counts es t) (Counts es' t) has.settled (new.present t late))
    object refl (missing t late) (makes t late (inode_there pfs object.number.0 i t inode es es' ranges new late)))
    (λ missing. adding_follows (inode_subject pfs object.number.0) (Some (inode_bytes inode)) i es es' (inode_no_bytes pfs object.number.0)
    (missing i (omega arith)) new)

-- the inode of a new object is in range
inode_ranges : (kind size : ℕ) → (1 ≤ kind) × (kind ≤ 3) → (kind ≡ DIRECTORY → size ≡ 0) → (kind ≡ SOFTLINK → (1 ≤ size) × (size ≤ 1023))
    → size < 2 ^ 64 → IsInode (inode_of kind size)
inode_ranges kind size known directory softlink small = record {
  sized = record {
    known = (omega (arith, known.0), omega (arith, known.1));
    directory = directory;
    softlink = λ is. (omega (arith, (softlink is).0), omega (arith, (softlink is).1));
    pfs_link = λ is. absurd (omega (arith, is, known.1));
  };
  size = small;
  links = omega arith;
  pfs = omega arith;
  no_pfs = λ _. refl;
}

pub directory_inode : IsInode (inode_of DIRECTORY 0)
directory_inode = inode_ranges DIRECTORY 0 (omega arith, omega arith) (λ _. refl) (λ is. absurd (omega (arith, is))) (omega arith)

pub file_inode : IsInode (inode_of FILE 0)
file_inode = inode_ranges FILE 0 (omega arith, omega arith) (λ _. refl) (λ is. absurd (omega (arith, is))) (omega arith)

pub softlink_inode : (text : List ℕ) → IsTarget text → IsInode (inode_of SOFTLINK (length text))
softlink_inode text target =
    inode_ranges SOFTLINK (length text) (omega arith, omega arith) (λ is. absurd (omega (arith, is))) (λ _. (target.0, omega (arith, target.1)))
    (omega (arith, target.1))

pub directory_added : (pfs i : ℕ) (number : Obj) (es es' : List FullElement) → NewInode pfs number.0 i (inode_of DIRECTORY 0) es es'
    → AddsObject pfs i (directory_of number) es es'
directory_added pfs i number es es' new =
    inode_added pfs i (directory_of number) (inode_of DIRECTORY 0) es es' directory_inode new
    (λ t late has. directory_made pfs number (inode_of DIRECTORY 0) (Counts es' t) has refl)

pub file_added : (pfs i : ℕ) (number : Obj) (es es' : List FullElement) → NewInode pfs number.0 i (inode_of FILE 0) es es'
    → AddsObject pfs i (file_of number) es es'
file_added pfs i number es es' new =
    inode_added pfs i (file_of number) (inode_of FILE 0) es es' file_inode new
    (λ t late has. file_made pfs number (inode_of FILE 0) [] (Counts es' t) has refl (no_bytes pfs number.0 0 (Counts es' t) refl))

pub link_inode : (to : Pfs) → to.0 < 2 ^ 16 → IsInode (pfs_link_inode to)
link_inode to small = record {
  sized = record {
    known = (omega arith, omega arith);
    directory = λ is. absurd (omega (arith, is));
    softlink = λ is. absurd (omega (arith, is));
    pfs_link = λ _. refl;
  };
  size = omega arith;
  links = omega arith;
  pfs = small;
  no_pfs = λ other. absurd (other refl);
}

pub pfs_link_added : (pfs i : ℕ) (number : Obj) (to : Pfs) (es es' : List FullElement) → IsInode (pfs_link_inode to)
    → NewInode pfs number.0 i (pfs_link_inode to) es es' → AddsObject pfs i (pfs_link_of number to) es es'
pfs_link_added pfs i number to es es' ranges new =
    inode_added pfs i (pfs_link_of number to) (pfs_link_inode to) es es' ranges new
    (λ t late has. pfs_link_made pfs number (pfs_link_inode to) (Counts es' t) has refl)

-- an element with an open base makes what its base and its bytes say
pub made_as : (s : Subject) (kind i : ℕ) (base open' : Base) (bytes text : List ℕ) (es es' : List FullElement) → open' ≡ open_base base kind i
    → subject_of (key_of base) ≡ s → bytes ≡ text → Rewrites (subject_of (key_of open')) (Some bytes) open'.create es es' → Rewrites s (Some text) i es es'
made_as s kind i base open' bytes text es es' made about is new =
    subst (λ (b : List ℕ). Rewrites s (Some b) i es es') is
    (subst (λ (u : Subject). Rewrites u (Some bytes) i es es') about
    (subst (λ (b : Base). Rewrites (subject_of (key_of b)) (Some bytes) b.create es es') made new))

pub follow_as : (s : Subject) (kind i : ℕ) (base open' : Base) (bytes text : List ℕ) (es es' : List FullElement) → open' ≡ open_base base kind i
    → subject_of (key_of base) ≡ s → bytes ≡ text → FollowWith (subject_of (key_of open')) bytes open'.create es es' → FollowWith s text i es es'
follow_as s kind i base open' bytes text es es' made about is new =
    subst (λ (b : List ℕ). FollowWith s b i es es') is
    (subst (λ (u : Subject). FollowWith u bytes i es es') about
    (subst (λ (b : Base). FollowWith (subject_of (key_of b)) bytes b.create es es') made new))

-- ---- a softlink that is added: what counted as its target goes, then come its target and its inode

-- what counts of an object is closed
abbrev pub Closed : Subject → ℕ → List FullElement → List FullElement → Type 0
Closed s i = Rewrites s None i

none_counts : (bytes : List ℕ) → None ≡ Some bytes → ⊥
none_counts bytes is = cc

-- no change
but_object_same : (pfs obj : ℕ) (C : Content) → AgreeButObject pfs obj C C
but_object_same pfs obj C = record {
  objects = λ other differ. record {
    inode = λ bytes. (λ h. h, λ h. h);
    bytes = λ end bytes. (λ h. h, λ h. h);
    target = λ bytes. (λ h. h, λ h. h);
  };
  entries = λ directory name key object. (λ h. h, λ h. h);
}

-- two changes of an object are one
joined : (pfs obj : ℕ) (C M D : Content) → ChangesObject pfs obj C M → ChangesObject pfs obj M D → ChangesObject pfs obj C D
joined pfs obj C M D first second = record { agree = but_object_twice pfs obj C M D first.agree second.agree; settled = second.settled }

-- what is known of the inode is still so once a target has come
pub inode_left : (pfs obj i : ℕ) (now : Option (List ℕ)) (es mid : List FullElement) → Rewrites (target_subject pfs obj) now i es mid
    → IsOlder pfs obj i es → IsFreshFor (inode_subject pfs obj) i mid
inode_left pfs obj i now es mid rewrites older =
    fresh_beside (target_subject pfs obj) (inode_subject pfs obj) now i i es mid rewrites (inode_no_target pfs obj) older.inode

-- so it is after a target went and another came
pub target_left : (pfs obj i : ℕ) (now : Option (List ℕ)) (es low mid : List FullElement) → Closed (target_subject pfs obj) i es low
    → Rewrites (target_subject pfs obj) now i low mid → IsOlder pfs obj i es → IsFreshFor (inode_subject pfs obj) i mid
target_left pfs obj i now es low mid closed rewrites older =
    fresh_beside (target_subject pfs obj) (inode_subject pfs obj) now i i low mid rewrites (inode_no_target pfs obj)
    (inode_left pfs obj i None es low closed older)

module _ (pfs i : ℕ) (number : Obj) (text : List ℕ) (es low mid es' : List FullElement) (target : IsTarget text)
    (closed : Closed (target_subject pfs number.0) i es low) (first : NewTarget pfs number.0 i text low mid)
    (second : NewInode pfs number.0 i (inode_of SOFTLINK (length text)) mid es') where
  abbrev s_inode : List ℕ
  s_inode = inode_bytes (inode_of SOFTLINK (length text))

  -- both count
  softlink_there : (t : ℕ) → i ≤ t → IsObject (Counts es' t) pfs (softlink_of number text)
  softlink_there t late =
      softlink_made pfs number (inode_of SOFTLINK (length text)) text (Counts es' t)
      (inode_there pfs number.0 i t (inode_of SOFTLINK (length text)) mid es' (softlink_inode text target) second late) refl
      (held (((second.present t late).elsewhere (target_subject pfs number.0) text (λ is. inode_no_target pfs number.0 (sym is))).1
      (((first.present t late).about text).1 refl)))

  softlink_changes : (t : ℕ) (tree : FileTree) → i ≤ t → HasView (Counts es t) pfs tree → ChangesObject pfs number.0 (Counts es t) (Counts es' t)
  softlink_changes t tree late has =
      let none : ChangesObject pfs number.0 (Counts es t) (Counts low t) =
      target_changes pfs number.0 None (Counts es t) (Counts low t) has.settled (closed.present t late) in
      let one : ChangesObject pfs number.0 (Counts low t) (Counts mid t) =
      target_changes pfs number.0 (Some text) (Counts low t) (Counts mid t) none.settled (first.present t late) in
      joined pfs number.0 (Counts es t) (Counts low t) (Counts es' t) none
      (joined pfs number.0 (Counts low t) (Counts mid t) (Counts es' t) one
      (inode_changes pfs number.0 (Some s_inode) (Counts mid t) (Counts es' t) one.settled (second.present t late)))

  -- no inode counts after what was done to the target
  still_missing : IsMissing pfs number.0 i es → CountsNothing (Counts mid i) (inode_subject pfs number.0)
  still_missing missing bytes there =
      missing i (omega arith) bytes
      (((closed.present i (omega arith)).elsewhere (inode_subject pfs number.0) bytes (inode_no_target pfs number.0)).0
      (((first.present i (omega arith)).elsewhere (inode_subject pfs number.0) bytes (inode_no_target pfs number.0)).0 there))

  softlink_follows : IsMissing pfs number.0 i es → StillFollow es es'
  softlink_follows missing =
      follow_twice es low es' (closing_follows (target_subject pfs number.0) i es low closed)
      (follow_twice low mid es'
      (adding_follows (target_subject pfs number.0) (Some text) i low mid (target_no_bytes pfs number.0)
      (λ bytes there. none_counts bytes (((closed.present i (omega arith)).about bytes).0 there)) first)
      (adding_follows (inode_subject pfs number.0) (Some s_inode) i mid es' (inode_no_bytes pfs number.0) (still_missing missing) second))

  target_writes : WritesIn pfs i (IsOfObject pfs number.0 i) es mid
  target_writes =
      writes_again pfs i (IsOfObject pfs number.0 i) es low mid (steady pfs number.0 i)
      (writes_within pfs i (target_subject pfs number.0) None (IsOfObject pfs number.0 i) es low (target_within pfs number.0)
      (makes_none (target_subject pfs number.0) i (IsOfObject pfs number.0 i)) closed)
      (writes_within pfs i (target_subject pfs number.0) (Some text) (IsOfObject pfs number.0 i) low mid (target_within pfs number.0)
      (makes_target pfs number.0 i text target) first)

  pub softlink_added : AddsObject pfs i (softlink_of number text) es es'
  softlink_added =
      adds_object pfs i (softlink_of number text) es es'
      (writes_again pfs i (IsOfObject pfs number.0 i) es mid es' (steady pfs number.0 i) target_writes
      (writes_within pfs i (inode_subject pfs number.0) (Some s_inode) (IsOfObject pfs number.0 i) mid es'
      (inode_within pfs number.0) (makes_inode pfs number.0 i (inode_of SOFTLINK (length text)) (softlink_inode text target)) second))
      (entries_twice pfs es low es' (target_entries pfs number.0 i None es low closed)
      (entries_twice pfs low mid es' (target_entries pfs number.0 i (Some text) low mid first)
      (inode_entries pfs number.0 i (Some s_inode) mid es' second)))
      (λ missing t tree late has.
      object_added pfs number.0 tree (Counts es t) (Counts es' t) has (softlink_changes t tree late has) (softlink_of number text) refl
      (missing t late) (softlink_there t late))
      softlink_follows

-- ---- an object that goes: its target, and then its inode

module _ (pfs i : ℕ) (number : Obj) (es mid es' : List FullElement) (first : Closed (target_subject pfs number.0) i es mid)
    (second : Closed (inode_subject pfs number.0) i mid es') where
  removal_changes : (t : ℕ) (tree : FileTree) → i ≤ t → HasView (Counts es t) pfs tree → ChangesObject pfs number.0 (Counts es t) (Counts es' t)
  removal_changes t tree late has =
      let one : ChangesObject pfs number.0 (Counts es t) (Counts mid t) =
      target_changes pfs number.0 None (Counts es t) (Counts mid t) has.settled (first.present t late) in
      joined pfs number.0 (Counts es t) (Counts mid t) (Counts es' t) one
      (inode_changes pfs number.0 None (Counts mid t) (Counts es' t) one.settled (second.present t late))

  pub object_removed : ChangesBy pfs number.0 i (λ tree. without_object tree number) es es'
  object_removed =
      changes_object pfs number.0 i (λ tree. without_object tree number) es es'
      (writes_again pfs i (IsOfObject pfs number.0 i) es mid es' (steady pfs number.0 i)
      (writes_within pfs i (target_subject pfs number.0) None (IsOfObject pfs number.0 i) es mid (target_within pfs number.0)
      (makes_none (target_subject pfs number.0) i (IsOfObject pfs number.0 i)) first)
      (writes_within pfs i (inode_subject pfs number.0) None (IsOfObject pfs number.0 i) mid es' (inode_within pfs number.0)
      (makes_none (inode_subject pfs number.0) i (IsOfObject pfs number.0 i)) second))
      (entries_twice pfs es mid es' (target_entries pfs number.0 i None es mid first) (inode_entries pfs number.0 i None mid es' second))
      (λ t tree late has.
      object_gone pfs number.0 tree (Counts es t) (Counts es' t) has (removal_changes t tree late has)
      (λ bytes there. none_counts bytes (((second.present t late).about bytes).0 there)))
      (follow_twice es mid es' (closing_follows (target_subject pfs number.0) i es mid first)
      (closing_follows (inode_subject pfs number.0) i mid es' second))

  -- neither of them counts
  pub object_closed : IsGone pfs number.0 i es'
  object_closed = record {
    inode = λ t late bytes there. none_counts bytes (((second.present t late).about bytes).0 there);
    target = λ t late bytes there.
        none_counts bytes (((first.present t late).about bytes).0
        (((second.present t late).elsewhere (target_subject pfs number.0) bytes (λ is. inode_no_target pfs number.0 (sym is))).0 there));
  }

-- ---- links

-- an object without an inode has no links to change
pub links_of_none : (pfs i : ℕ) (number : Obj) (links : ℕ) (es : List FullElement) → IsFreshFor (inode_subject pfs number.0) i es
    → CountsNothing (Counts es i) (inode_subject pfs number.0) → ChangesBy pfs number.0 i (λ tree. with_change tree number (with_links links)) es es
links_of_none pfs i number links es fresh none =
    changes_object pfs number.0 i (λ tree. with_change tree number (with_links links)) es es
    (nothing_written pfs i (IsOfObject pfs number.0 i) es)
    (λ t directory key bytes. (λ h. h, λ h. h))
    (λ t tree late has.
    object_changed pfs number.0 tree (Counts es t) (Counts es t) has (record { agree = but_object_same pfs number.0 (Counts es t); settled = has.settled })
    (with_links links) (λ o. refl) (λ o same is. absurd (missing t late o same is)) (λ o same is. absurd (missing t late o same is)))
    (λ other t follow. follow) where
      missing : (t : ℕ) → i ≤ t → (o : Object) → o.number.0 ≡ number.0 → IsObject (Counts es t) pfs o → ⊥
      missing t late o same is =
          none (inode_bytes is.inode)
          ((fresh_later (inode_subject pfs number.0) i t es (inode_bytes is.inode) fresh late).0
          (subst (λ (n : ℕ). Counts es t (inode_subject pfs n) (inode_bytes is.inode)) same is.there))

-- any number of links is in range
pub linked_ranges : (links : ℕ) (inode : Inode) → links < 2 ^ 32 → IsInode inode → IsInode (linked links inode)
linked_ranges links inode small ranges = record {
  sized = ranges.sized;
  size = ranges.size;
  links = small;
  pfs = ranges.pfs;
  no_pfs = ranges.no_pfs;
}

-- the inode that counts gets another number of links
pub links_given : (pfs i : ℕ) (number : Obj) (links : ℕ) (inode : Inode) (es es' : List FullElement)
    → IsFreshFor (inode_subject pfs number.0) i es
    → HasInode (Counts es i) pfs number.0 inode → links < 2 ^ 32 → NewInode pfs number.0 i (linked links inode) es es'
    → FollowWith (inode_subject pfs number.0) (inode_bytes (linked links inode)) i es es'
    → ChangesBy pfs number.0 i (λ tree. with_change tree number (with_links links)) es es'
links_given pfs i number links inode es es' fresh there small new follows =
    changes_object pfs number.0 i (λ tree. with_change tree number (with_links links)) es es'
    (writes_within pfs i (inode_subject pfs number.0) (Some (inode_bytes (linked links inode))) (IsOfObject pfs number.0 i) es es'
    (inode_within pfs number.0) (makes_inode pfs number.0 i (linked links inode) (linked_ranges links inode small there.ranges)) new)
    (inode_entries pfs number.0 i (Some (inode_bytes (linked links inode))) es es' new)
    (λ t tree late has.
    links_changed pfs number.0 links inode tree (Counts es t) (Counts es' t) has
    (record { ranges = there.ranges; there = (fresh_later (inode_subject pfs number.0) i t es (inode_bytes inode) fresh late).1 there.there })
    small (new.present t late))
    (renewing_follows (inode_subject pfs number.0) (inode_bytes (linked links inode)) i es es' (inode_no_bytes pfs number.0) follows)
