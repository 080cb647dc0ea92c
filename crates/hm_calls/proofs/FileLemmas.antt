-- What new bytes of a file do to the tree.
use Rattle.std.proofs.Common.{◌≡◌, ◌≢◌, ℕ, ◌+◌, ◌-◌, ◌≤◌, List, ◌++◌, length, max, replicate, take, refl, sym, ap, subst, ◌∙◌}
use Rattle.std.proofs.Common.{inl, inr, arith}
use Rattle.std.specs.Prelude.{◌↔◌, ◌*◌, Bool, false, true, if◌then◌else◌, nat_eq, slice_index}
use Rattle.std.proofs.lemmas.Bool.{eqb-true, false≢true}
use Rattle.std.proofs.lemmas.List.{append-nil, length-replicate, take_all}
use Rattle.hm_types.specs.Elements.{FullElement}
use Rattle.hm_types.specs.Space.{Spends}
use Rattle.hm_types.specs.Tree.{holding}
use Rattle.hm_types.specs.declared.limits.TheConstants.{BLOCK_BYTES, MOST_WRITE_BYTES}
use Rattle.hm_types.specs.declared.object.Content.TheVariants.{File as FileBytes}
use Rattle.hm_types.specs.declared.object.Kind.TheVariants.{File}
use Rattle.hm_types.specs.declared.object.Object.{Object}
use Rattle.hm_types.specs.declared.space.TheConstants.{INSERT_ROOM, PAYLOAD_RESERVE, TREE_RESERVE}
use Rattle.hm_types.specs.declared.zone.TheConstants.{LARGE_ZONE, META_ZONE, SMALL_ZONE, TREE_ZONE}
use Rattle.hm_key.specs.Counts.{Content, Counts, Subject, bytes_subject, entry_subject, inode_subject, others_of, subject_of, target_subject}
use Rattle.hm_key.specs.Element.{pfs_of}
use Rattle.hm_key.specs.Versions.{HaveOwnKeys}
use Rattle.hm_model.specs.Answer.{file_bytes}
use Rattle.hm_model.specs.Bytes.{written}
use Rattle.hm_types.specs.Bytes.{resized}
use Rattle.hm_model.specs.Change.{with_bytes}
use Rattle.hm_records.specs.Changes.{AgreeButObject, HasInode, IsSettled}
use Rattle.hm_records.specs.Entry.{entry_bytes}
use Rattle.hm_records.specs.Inode.{inode_bytes}
use Rattle.hm_records.specs.KeysFit.{KeysFit}
use Rattle.hm_records.specs.View.{AreFileBytes, IsObject, kind_number}
use Rattle.hm_records.specs.declared.inode.Inode.{Inode}
use Rattle.hm_records.specs.declared.kind.TheConstants.{FILE}
use Rattle.hm_records.proofs.CountsLemmas.{settled}
use Rattle.hm_records.proofs.ObjectChangeLemmas.{known_changed}
use Rattle.hm_cursor.specs.Views.{Shows, WritesIn}
use Rattle.hm_cursor.proofs.FollowLemmas.{follow_twice}
use Rattle.hm_cursor.proofs.ViewsLemmas.{keys_fit_still, nothing_written, writes_wider}
use Rattle.hm_objects.specs.Objects.{IsOfObject, ResizesObject, sized, spent}
use Rattle.hm_files.specs.Close.{AreOlder}
use Rattle.hm_files.specs.Put.{HasBlockRoom, IsBytesOf, ResizesBytes, block_space}
use Rattle.hm_files.specs.Write.{WritesBytes, block_count}
use Rattle.hm_files.proofs.ShownLemmas.{byte_alike}
use Rattle.hm_files.proofs.SpanLemmas.{spends_more, spends_none}
use Rattle.hm_calls.specs.Edits.{ChangesBytes, ChangesFile, HasAllReserves, all_reserves, edited, is_there}
use Rattle.hm_calls.specs.Known.{AreBelow}
use Rattle.hm_calls.specs.declared.edit.Edit.{Edit}
use Rattle.hm_calls.specs.declared.edit.Edit.TheVariants.{Fill, Truncate, Write}
use Rattle.hm_calls.specs.Writes.{IsNewIn, NamesNothing}
use Rattle.hm_calls.proofs.CatLemmas.{file_held}
use Rattle.hm_calls.proofs.StepLemmas.{new_of_object, no_entries_then, no_entry_of_object, steps_twice}

-- ---- new bytes

pub new_of_bytes : (pfs obj i : ℕ) (x : FullElement) → IsBytesOf pfs obj i x → IsNewIn pfs i x
new_of_bytes pfs obj i x is = record {
  place = ap (λ (s : Subject). pfs_of s.localization) is.about ∙ place_is;
  made = is.made;
  payload = is.payload;
} where
  place_is : pfs_of (others_of pfs) ≡ pfs
  place_is = omega arith

-- they are no entries
bytes_fit : (pfs obj i : ℕ) (es es' : List FullElement) → WritesIn pfs i (IsBytesOf pfs obj i) es es' → (hash : List ℕ → ℕ) → KeysFit hash es
    → KeysFit hash es'
bytes_fit pfs obj i es es' writes hash =
    keys_fit_still pfs i (IsBytesOf pfs obj i) hash es es' writes
    (λ x entry new type ranges spelled. absurd (omega (arith, type, ap (λ (s : Subject). s.rec_type) new.about)))

-- a file's bytes are the same where for each of them the same counts
are_alike : (pfs obj size : ℕ) (bytes : List ℕ) (C D : Content)
    → ((n : ℕ) (other : List ℕ) → D (bytes_subject pfs obj n) other ↔ C (bytes_subject pfs obj n) other) → AreFileBytes C pfs obj size bytes
    → AreFileBytes D pfs obj size bytes
are_alike pfs obj size bytes C D same are = record {
  sized = are.sized;
  each = λ x below. byte_alike pfs obj size size x (slice_index bytes x) C D (inl refl) (λ n other place. same n other) (are.each x below);
}

pub no_entry_of_bytes : (pfs obj i : ℕ) (x : FullElement) → IsBytesOf pfs obj i x → NamesNothing x
no_entry_of_bytes pfs obj i x is type = absurd (omega (arith, type, ap (λ (s : Subject). s.rec_type) is.about))

-- ---- an object whose bytes and inode alone are others

module _ (pfs i : ℕ) (o : Object) (es es' : List FullElement) (own : HaveOwnKeys es')
    (others : (t : ℕ) (s : Subject) (bytes : List ℕ) → s ≢ bytes_subject pfs o.number.0 s.key → s ≢ inode_subject pfs o.number.0
    → Counts es' t s bytes ↔ Counts es t s bytes) where
  abbrev obj : ℕ
  obj = o.number.0

  agree : (t : ℕ) → AgreeButObject pfs obj (Counts es t) (Counts es' t)
  agree t = record {
    objects = λ other differ. record {
      inode = λ bytes. others t (inode_subject pfs other) bytes (λ is. absurd (omega (arith, ap (λ (s : Subject). s.rec_type) is)))
          (λ is. differ (ap (λ (s : Subject). s.obj) is));
      bytes = λ n bytes. others t (bytes_subject pfs other n) bytes (λ is. differ (ap (λ (s : Subject). s.obj) is))
          (λ is. absurd (omega (arith, ap (λ (s : Subject). s.rec_type) is)));
      target = λ bytes. others t (target_subject pfs other) bytes (λ is. absurd (omega (arith, ap (λ (s : Subject). s.rec_type) is)))
          (λ is. absurd (omega (arith, ap (λ (s : Subject). s.rec_type) is)));
    };
    entries = λ directory name key object. (
      λ has. record { ranges = has.ranges; there = (entry_same directory.0 key (entry_bytes (record { obj = object; name = name }))).0 has.there },
      λ has. record { ranges = has.ranges; there = (entry_same directory.0 key (entry_bytes (record { obj = object; name = name }))).1 has.there },
    );
  } where
    entry_same : (directory key : ℕ) (bytes : List ℕ)
        → Counts es' t (entry_subject pfs directory key) bytes ↔ Counts es t (entry_subject pfs directory key) bytes
    entry_same directory key bytes =
        others t (entry_subject pfs directory key) bytes (λ is. absurd (omega (arith, ap (λ (s : Subject). s.rec_type) is)))
        (λ is. absurd (omega (arith, ap (λ (s : Subject). s.rec_type) is)))

  -- the file that a tree has, by what counts for it
  pub record IsFileOf (C : Content) (inode : Inode) (bytes : List ℕ) : Type 0 where
    pub there : HasInode C pfs obj inode
    pub kind : inode.kind ≡ FILE
    pub links : o.links ≡ inode.links
    pub are : AreFileBytes C pfs obj inode.size bytes

  file_of : (t : ℕ) → o.kind ≡ File → (is : IsObject (Counts es t) pfs o) → IsFileOf (Counts es t) is.inode (file_bytes o.content)
  file_of t kind is = record {
    there = record { ranges = is.ranges; there = is.there };
    kind = file;
    links = is.links;
    are = file_held (Counts es t) pfs obj is.inode o.content file is.holds;
  } where
    file : is.inode.kind ≡ FILE
    file = is.kind ∙ ap kind_number kind

  pub file_shows : (change : List ℕ → List ℕ) → o.kind ≡ File → ((t : ℕ) → i ≤ t → IsObject (Counts es t) pfs o)
      → ((t : ℕ) → i ≤ t → IsSettled (Counts es t) → (inode : Inode) → IsFileOf (Counts es t) inode (file_bytes o.content)
      → (next : Inode) × IsFileOf (Counts es' t) next (change (file_bytes o.content)))
      → Shows pfs i (λ tree. with_bytes tree change o) es es'
  file_shows change kind objects becomes t tree late has =
      let is = objects t late in
      let (next, file) = becomes t late has.settled is.inode (file_of t kind is) in
      known_changed pfs obj tree (Counts es t) (Counts es' t) has (record { agree = agree t; settled = settled es' t own })
      (holding (FileBytes (change (file_bytes o.content)))) o (λ p. refl) ((has.view.objects o).1 is) refl
      (record {
        inode = next;
        ranges = file.there.ranges;
        there = file.there.there;
        kind = file.kind ∙ ap kind_number (sym kind);
        links = file.links;
        holds = (file.kind, file.are);
      })

-- ---- the bytes alone

module _ (pfs i size after : ℕ) (change : List ℕ → List ℕ) (es mid : List FullElement) (own : HaveOwnKeys mid) where
  -- where the file is as large as before
  pub bytes_changed : (obj : ℕ) → after ≡ size → ChangesBytes pfs obj i size after change es mid → ChangesFile pfs obj i size change es mid
  bytes_changed obj same bytes = record {
    writes = writes_wider pfs i (IsBytesOf pfs obj i) (IsNewIn pfs i) es mid (new_of_bytes pfs obj i) bytes.writes;
    fits = bytes_fit pfs obj i es mid bytes.writes;
    names = (writes_wider pfs i (IsBytesOf pfs obj i) NamesNothing es mid (no_entry_of_bytes pfs obj i) bytes.writes).came;
    follows = bytes.follows;
    shows = λ o number kind long objects.
        let wrote : ChangesBytes pfs o.number.0 i size after change es mid = subst (λ (n : ℕ). ChangesBytes pfs n i size after change es mid) (sym number) bytes
        in
        file_shows pfs i o es mid own (λ t s b no_bytes no_inode. wrote.others t s b no_bytes) change kind objects
        (λ t late settled inode file. (
          inode,
          record {
            there = record {
              ranges = file.there.ranges;
              there = (wrote.others t (inode_subject pfs o.number.0) (inode_bytes inode)
                  (λ is. absurd (omega (arith, ap (λ (s : Subject). s.rec_type) is)))).1 file.there.there;
            };
            kind = file.kind;
            links = file.links;
            are =
                let large : inode.size ≡ size = sym file.are.sized ∙ long in
                subst (λ (n : ℕ). AreFileBytes (Counts mid t) pfs o.number.0 n (change (file_bytes o.content))) (same ∙ sym large)
                (wrote.holds t (file_bytes o.content) late
                (subst (λ (n : ℕ). AreFileBytes (Counts es t) pfs o.number.0 n (file_bytes o.content)) large file.are));
          },
        ));
  }

-- ---- and the inode before them

module _ (pfs i size after : ℕ) (change : List ℕ → List ℕ) (es mid es' : List FullElement) (own' : HaveOwnKeys es') where
  pub file_changed : (obj : ℕ) → ResizesObject pfs obj i after es mid → ChangesBytes pfs obj i size after change mid es'
      → ChangesFile pfs obj i size change es es'
  file_changed obj resizes bytes = record {
    writes = steps_twice pfs i (IsOfObject pfs obj i) (IsBytesOf pfs obj i) es mid es' (new_of_object pfs obj i) (new_of_bytes pfs obj i) resizes.writes
        bytes.writes;
    fits = λ hash keys. bytes_fit pfs obj i mid es' bytes.writes hash (resizes.fits hash keys);
    names = (no_entries_then pfs i (IsOfObject pfs obj i) (IsBytesOf pfs obj i) es mid es' (no_entry_of_object pfs obj i) (no_entry_of_bytes pfs obj i)
        resizes.writes bytes.writes).came;
    follows = follow_twice es mid es' resizes.follows bytes.follows;
    shows = λ o number kind long objects.
        let first : ResizesObject pfs o.number.0 i after es mid = subst (λ (n : ℕ). ResizesObject pfs n i after es mid) (sym number) resizes in
        let second : ChangesBytes pfs o.number.0 i size after change mid es' =
        subst (λ (n : ℕ). ChangesBytes pfs n i size after change mid es') (sym number) bytes in
        file_shows pfs i o es es' own'
        (λ t s b no_bytes no_inode.
        let one = first.beside t s b no_inode in
        let two = second.others t s b no_bytes in
        (λ h. one.0 (two.0 h), λ h. two.1 (one.1 h)))
        change kind objects
        (λ t late settled inode file.
        let there : HasInode (Counts mid t) pfs o.number.0 (sized after inode) = first.inode t inode late settled file.there file.kind in
        let large : inode.size ≡ size = sym file.are.sized ∙ long in (
          sized after inode,
          record {
            there = record {
              ranges = there.ranges;
              there = (second.others t (inode_subject pfs o.number.0) (inode_bytes (sized after inode))
                  (λ is. absurd (omega (arith, ap (λ (s : Subject). s.rec_type) is)))).1 there.there;
            };
            kind = file.kind;
            links = file.links;
            are =
                second.holds t (file_bytes o.content) late
                (are_alike pfs o.number.0 size (file_bytes o.content) (Counts es t) (Counts mid t)
                (λ n other. first.beside t (bytes_subject pfs o.number.0 n) other (λ is. absurd (omega (arith, ap (λ (s : Subject). s.rec_type) is))))
                (subst (λ (n : ℕ). AreFileBytes (Counts es t) pfs o.number.0 n (file_bytes o.content)) large file.are));
          },
        ));
  }

-- ---- a file that has the size already

resized_same : (size : ℕ) (bytes : List ℕ) → length bytes ≡ size → resized size bytes ≡ bytes
resized_same size bytes long =
    ap (λ (n : ℕ). take size (bytes ++ replicate n 0)) none ∙ ap (take size) (append-nil bytes) ∙ take_all size bytes (omega (arith, long))
  where
    none : size - length bytes ≡ 0
    none = omega (arith, long)

pub nothing_changed : (pfs obj i size : ℕ) (es : List FullElement) → HaveOwnKeys es → ChangesFile pfs obj i size (resized size) es es
nothing_changed pfs obj i size es own = record {
  writes = nothing_written pfs i (IsNewIn pfs i) es;
  fits = λ hash keys. keys;
  names = (nothing_written pfs i NamesNothing es).came;
  follows = λ other t follow. follow;
  shows = λ o number kind long objects.
      file_shows pfs i o es es own (λ t s b no_bytes no_inode. (λ h. h, λ h. h)) (resized size) kind objects
      (λ t late settled inode file. (
        inode,
        record {
          there = file.there;
          kind = file.kind;
          links = file.links;
          are = subst (λ (b : List ℕ). AreFileBytes (Counts es t) pfs o.number.0 inode.size b) (sym (resized_same size (file_bytes o.content) long)) file.are;
        },
      ));
}

pub there_already : (pfs obj i : ℕ) (edit : Edit) (size : ℕ) (es : List FullElement) → HaveOwnKeys es → is_there edit size ≡ true
    → ChangesFile pfs obj i size (edited edit) es es
there_already pfs obj i (Write offset bytes) size es own is = absurd (false≢true is)
there_already pfs obj i (Fill offset count byte) size es own is = absurd (false≢true is)
there_already pfs obj i (Truncate to) size es own is =
    subst (λ (n : ℕ). ChangesFile pfs obj i size (resized n) es es) (eqb-true size to is) (nothing_changed pfs obj i size es own)

-- ---- what the bytes need, and what they take

-- the bytes of a file in a pseudo file system whose elements are older
pub bytes_older : (pfs i obj : ℕ) (es : List FullElement) → AreBelow pfs i es → AreOlder pfs obj i 0 es
bytes_older pfs i obj es below n up = record {
  made = λ x has about. (below x has (within x about)).made;
  closed = λ x has about. let older = (below x has (within x about)).closed in omega (arith, older);
} where
  within : (x : FullElement) → subject_of x.key ≡ bytes_subject pfs obj n → pfs_of x.key.localization ≡ pfs
  within x about = let place = ap (λ (s : Subject). s.localization) about in omega (arith, place)

-- after a write about the object alone
pub bytes_older_beside : (pfs i obj : ℕ) (es mid : List FullElement) → WritesIn pfs i (IsOfObject pfs obj i) es mid → AreOlder pfs obj i 0 es
    → AreOlder pfs obj i 0 mid
bytes_older_beside pfs i obj es mid writes older n up =
    writes.fresh (bytes_subject pfs obj n)
    (λ x new is. elim new.about [
      | inl inode ↦ absurd (omega (arith, ap (λ (s : Subject). s.rec_type) is, ap (λ (s : Subject). s.rec_type) inode))
      | inr target ↦ absurd (omega (arith, ap (λ (s : Subject). s.rec_type) is, ap (λ (s : Subject). s.rec_type) target))
    ]) (older n up)

-- so many bytes lie in at most five blocks
pub blocks_few : (offset len : ℕ) → 1 ≤ len → len ≤ MOST_WRITE_BYTES → block_count offset (offset + len) + 1 ≤ 6
blocks_few offset len some few = omega (arith, some, few)

pub fewer_blocks : (room : ℕ → ℕ) (n : ℕ) → n ≤ 6 → HasBlockRoom room 6 → HasBlockRoom room n
fewer_blocks room n few has = record {
  tree = omega (arith, few, has.tree);
  large = omega (arith, few, has.large);
  small = omega (arith, few, has.small);
}

pub block_room : (room : ℕ → ℕ) → HasAllReserves room → HasBlockRoom room 6
block_room room has = record { tree = omega (arith, has.tree); large = omega (arith, has.large); small = omega (arith, has.small) }

module _ {S : Type 0} (room : S → ℕ → ℕ) (free : S → ℕ) where
  pub more_spent : (x y : S) (n : ℕ) → n ≤ 6 → Spends room free (block_space n) x y → Spends room free (block_space 6) x y
  more_spent x y n few spent =
      spends_more room free x y y n 0 6 (omega (arith, few)) spent (spends_none room free y 0)

  -- what is left once an inode was renewed
  pub room_after : (x y : S) → Spends room free (spent 1 32) x y → HasAllReserves (room x) → HasBlockRoom (room y) 6
  room_after x y spends has =
      let tree : room x TREE_ZONE ≤ room y TREE_ZONE + (1 * INSERT_ROOM + 0) = spends.room TREE_ZONE in
      let large : room x LARGE_ZONE ≤ room y LARGE_ZONE + (0 + 0) = spends.room LARGE_ZONE in
      let small : room x SMALL_ZONE ≤ room y SMALL_ZONE + (0 + 0) = spends.room SMALL_ZONE in
      record {
        tree = omega (arith, tree, has.tree);
        large = omega (arith, large, has.large);
        small = omega (arith, small, has.small);
      }

  both_fit : (zone : ℕ) → spent 1 32 zone + block_space 6 zone ≤ all_reserves zone
  both_fit zone = by_test (nat_eq zone TREE_ZONE) (nat_eq zone META_ZONE) (nat_eq zone LARGE_ZONE) (nat_eq zone SMALL_ZONE) where
    tree_part : (a : Bool) → (if a then 1 * INSERT_ROOM else 0) + (if a then 6 * INSERT_ROOM else 0) ≤ (if a then TREE_RESERVE else 0)
    tree_part true = omega arith
    tree_part false = omega arith

    meta_part : (b : Bool) → (if b then 32 else 0) ≤ (if b then PAYLOAD_RESERVE else 0)
    meta_part true = omega arith
    meta_part false = omega arith

    block_part : (c : Bool) → (if c then 6 * BLOCK_BYTES else 0) ≤ (if c then PAYLOAD_RESERVE else 0)
    block_part true = omega arith
    block_part false = omega arith

    by_test : (a b c d : Bool) → (if a then 1 * INSERT_ROOM else 0) + (if b then 32 else 0)
        + ((if a then 6 * INSERT_ROOM else 0) + ((if c then 6 * BLOCK_BYTES else 0) + (if d then 6 * BLOCK_BYTES else 0)))
        ≤ (if a then TREE_RESERVE else 0)
        + ((if b then PAYLOAD_RESERVE else 0) + ((if c then PAYLOAD_RESERVE else 0) + (if d then PAYLOAD_RESERVE else 0)))
    by_test a b c d = omega (arith, tree_part a, meta_part b, block_part c, block_part d)

  pub all_spent : (x y z : S) → Spends room free (spent 1 32) x y → Spends room free (block_space 6) y z → Spends room free all_reserves x z
  all_spent x y z first second = record {
    room = λ zone. omega (arith, first.room zone, second.room zone, both_fit zone);
    free = omega (arith, first.free, second.free);
  }

  pub blocks_spent : (x y : S) → Spends room free (block_space 6) x y → Spends room free all_reserves x y
  blocks_spent x y spends = record { room = λ zone. omega (arith, spends.room zone, both_fit zone); free = spends.free }

  pub inode_spent : (x y : S) → Spends room free (spent 1 32) x y → Spends room free all_reserves x y
  inode_spent x y spends = record { room = λ zone. omega (arith, spends.room zone, both_fit zone); free = spends.free }

  pub none_spent : (x : S) → Spends room free all_reserves x x
  none_spent x = record { room = λ zone. omega arith; free = omega arith }

-- ---- the bytes of each call

pub bytes_written : (pfs obj i size offset : ℕ) (new : List ℕ) (es es' : List FullElement) → WritesBytes pfs obj i size offset new es es'
    → ChangesBytes pfs obj i size (max size (offset + length new)) (written offset new) es es'
bytes_written pfs obj i size offset new es es' wrote = record {
  writes = wrote.writes;
  holds = wrote.holds;
  others = wrote.others;
  follows = wrote.follows;
}

pub bytes_resized : (pfs obj i size new : ℕ) (es es' : List FullElement) → ResizesBytes pfs obj i size new es es'
    → ChangesBytes pfs obj i size new (resized new) es es'
bytes_resized pfs obj i size new es es' wrote = record {
  writes = wrote.writes;
  holds = wrote.resizes;
  others = wrote.others;
  follows = wrote.follows;
}

pub bytes_filled : (pfs obj i size offset count byte : ℕ) (es es' : List FullElement) → WritesBytes pfs obj i size offset (replicate count byte) es es'
    → ChangesBytes pfs obj i size (max size (offset + count)) (written offset (replicate count byte)) es es'
bytes_filled pfs obj i size offset count byte es es' wrote =
    subst (λ (n : ℕ). ChangesBytes pfs obj i size (max size (offset + n)) (written offset (replicate count byte)) es es')
    (length-replicate {A = ℕ} count byte) (bytes_written pfs obj i size offset (replicate count byte) es es' wrote)
