-- What a new pseudo file system shows, and what it leaves.
use Rattle.std.proofs.Common.{◌≡◌, ◌≢◌, ℕ, ◌≤◌, List, Option, Some, None, refl, sym, ap, subst, ◌∙◌, inl, inr, arith}
use Rattle.std.specs.Prelude.{◌↔◌, ◌⊎◌, IfSome}
use Rattle.std.specs.List.{Contains}
use Rattle.hm_types.specs.Elements.{FullElement, Key}
use Rattle.hm_types.specs.Tree.{FileTree, no_tree, root_number, root_tree}
use Rattle.hm_key.specs.Balance.{content_of}
use Rattle.hm_key.specs.Counts.{Content, Counts, IsRecordOf, Subject, bytes_subject}
use Rattle.hm_key.specs.Counts.{entry_subject, inode_subject, inodes_of, others_of, subject_of, target_subject}
use Rattle.hm_key.specs.Element.{pfs_of}
use Rattle.hm_key.specs.Elements.{IsContent}
use Rattle.hm_key.specs.Extents.{Extent}
use Rattle.hm_key.specs.Versions.{Adds, HaveOwnKeys}
use Rattle.hm_key.specs.declared.element.Element.{Element}
use Rattle.hm_key.specs.declared.rec_type.TheConstants.{PFS_RECORD}
use Rattle.hm_records.specs.Changes.{CountsNothing, IsSettled}
use Rattle.hm_records.specs.Entry.{entry_bytes}
use Rattle.hm_records.specs.Laws.{HasView}
use Rattle.hm_records.specs.PfsRecord.{pfs_bytes}
use Rattle.hm_records.specs.declared.pfs_record.PfsRecord.{PfsRecord}
use Rattle.hm_records.proofs.ChangeLemmas.{Shows, itself, own_keys_adds, shown}
use Rattle.hm_records.proofs.CountsLemmas.{own_keys-sorted, settled}
use Rattle.hm_records.proofs.MemberLemmas.{has_none}
use Rattle.hm_records.proofs.ViewLemmas.{view_kept}
use Rattle.hm_cursor.proofs.RewriteLemmas.{rewrites_added, shuts_none}
use Rattle.hm_objects.proofs.ShownLemmas.{directory_added}
use Rattle.hm_cursor.specs.Told.{Lists, fulls}
use Rattle.hm_cursor.proofs.CallLemmas.{Then}
use Rattle.hm_cursor.proofs.PayloadLemmas.{full_sorted}
use Rattle.hm_pfs.specs.Systems.{AddsSystem, IsNotMadeBy, IsUnmadeIn, IsUnusedNumber, PutsMaster, PutsSlave, PutsSystem}
use Rattle.hm_pfs.specs.Systems.{master_record, made_record, made_root, slave_record}

-- a localization names its pseudo file system
pub inodes_named : (pfs : ℕ) → pfs_of (inodes_of pfs) ≡ pfs
inodes_named pfs = omega arith

pub others_named : (pfs : ℕ) → pfs_of (others_of pfs) ≡ pfs
others_named pfs = omega arith

-- where neither an inode nor an entry counts there is no tree
no_view : (counts : Content) (pfs : ℕ) → IsSettled counts → ((obj : ℕ) → CountsNothing counts (inode_subject pfs obj))
    → ((directory key : ℕ) → CountsNothing counts (entry_subject pfs directory key)) → HasView counts pfs no_tree
no_view counts pfs one inodes entries = record {
  settled = one;
  view = record {
    objects_rise = tt;
    objects = λ o. (λ has. absurd (has_none o has), λ is. absurd (inodes o.number.0 _ is.there));
    triples_rise = tt;
    triples = λ t. (λ has. absurd (has_none t has), λ is. absurd (entries t.directory.0 is.key _ is.there.there));
  };
}

-- new elements of a number, made by an id
pub record AreOf (pfs i : ℕ) (New : FullElement → Type 0) : Type 0 where
  pub number : (x : FullElement) → New x → pfs_of x.key.localization ≡ pfs
  pub made : (x : FullElement) → New x → x.key.create ≡ i

-- new elements come to a list, and no other ones
abbrev pub Gains : (FullElement → Type 0) → List FullElement → List FullElement → Type 0
Gains New es es' = (x : FullElement) → Contains es' x ↔ (New x ⊎ Contains es x)

module _ (pfs i : ℕ) (New : FullElement → Type 0) (es es' : List FullElement) (are : AreOf pfs i New) (gains : Gains New es es') where
  -- of another number the same counts
  else_kept : (t : ℕ) (s : Subject) (bytes : List ℕ) → pfs_of s.localization ≢ pfs → Counts es' t s bytes ↔ Counts es t s bytes
  else_kept t s bytes not = (shown s es' es t t bytes back on, shown s es es' t t bytes on back) where
    on : Shows s es t es' t
    on x has about made = (x, itself t es' x ((gains x).1 (inr has)) made)

    back : Shows s es' t es t
    back y has about made = elim ((gains y).0 has) [
      | inl new ↦ absurd (not (ap (λ (z : Subject). pfs_of z.localization) (sym about) ∙ are.number y new))
      | inr old ↦ (y, itself t es y old made)
    ]

  -- elements that come make one pseudo file system more where the number was unused
  puts_system : (r : PfsRecord) (tree : FileTree) → (IsUnusedNumber pfs es → AddsSystem pfs i r New tree es es') → PutsSystem pfs i r New tree es es'
  puts_system r tree adds = record { elements = gains; elsewhere = else_kept; adds = adds }

module _ (pfs i : ℕ) (New : FullElement → Type 0) (es es' : List FullElement) (unused : IsUnusedNumber pfs es) (are : AreOf pfs i New)
    (gains : Gains New es es') (own : HaveOwnKeys es') where
  else_same : (t : ℕ) (s : Subject) (bytes : List ℕ) → pfs_of s.localization ≢ pfs → Counts es' t s bytes ↔ Counts es t s bytes
  else_same = else_kept pfs i New es es' are gains

  -- of the number only what is new counts
  only_new : (t : ℕ) (s : Subject) (bytes : List ℕ) → pfs_of s.localization ≡ pfs → (c : Counts es' t s bytes) → New c.element
  only_new t s bytes here c = elim ((gains c.element).0 c.there) [
    | inl new ↦ new
    | inr old ↦ absurd (unused c.element old (ap (λ (z : Subject). pfs_of z.localization) c.about ∙ here))
  ]

  record_old : (other : ℕ) (bytes : List ℕ) → other ≢ pfs → IsRecordOf es' other bytes → IsRecordOf es other bytes
  record_old other bytes differ is = record {
    element = is.element;
    there = elim ((gains is.element).0 is.there) [
      | inl new ↦ absurd (differ (sym (others_named other) ∙ ap (λ (z : Subject). pfs_of z.localization) (sym is.about) ∙ are.number is.element new))
      | inr old ↦ old
    ];
    about = is.about;
    holds = is.holds;
    unclosed = is.unclosed;
    newest = λ x has about. is.newest x ((gains x).1 (inr has)) about;
  }

  record_still : (other : ℕ) (bytes : List ℕ) → other ≢ pfs → IsRecordOf es other bytes → IsRecordOf es' other bytes
  record_still other bytes differ is = record {
    element = is.element;
    there = (gains is.element).1 (inr is.there);
    about = is.about;
    holds = is.holds;
    unclosed = is.unclosed;
    newest = λ x has about. elim ((gains x).0 has) [
      | inl new ↦ absurd (differ (sym (others_named other) ∙ ap (λ (z : Subject). pfs_of z.localization) (sym about) ∙ are.number x new))
      | inr old ↦ is.newest x old about
    ];
  }

  -- the trees of the others stay
  others_stay : (t other : ℕ) (tree : FileTree) → other ≢ pfs → HasView (Counts es t) other tree → HasView (Counts es' t) other tree
  others_stay t other tree differ has = record {
    settled = settled es' t own;
    view = view_kept other tree (Counts es t) (Counts es' t)
        (λ obj. record {
          inode = λ bytes. else_same t (inode_subject other obj) bytes inode;
          bytes = λ end bytes. else_same t (bytes_subject other obj end) bytes beside;
          target = λ bytes. else_same t (target_subject other obj) bytes beside;
        })
        (λ directory name key object.
        let bytes : List ℕ = entry_bytes (record { obj = object; name = name }) in
        let same = else_same t (entry_subject other directory.0 key) bytes beside in (
          λ entry. record { ranges = entry.ranges; there = same.0 entry.there },
          λ entry. record { ranges = entry.ranges; there = same.1 entry.there },
        ))
        has.view;
  } where
    inode : pfs_of (inodes_of other) ≢ pfs
    inode is = differ (sym (inodes_named other) ∙ is)

    beside : pfs_of (others_of other) ≢ pfs
    beside is = differ (sym (others_named other) ∙ is)

  -- as of an id by which only a record was made the number shows no object
  none_shown : (t : ℕ) → ((x : FullElement) → New x → x.key.create ≤ t → x.key.rec_type ≡ PFS_RECORD) → HasView (Counts es' t) pfs no_tree
  none_shown t records = no_view (Counts es' t) pfs (settled es' t own) inodes entries where
    inodes : (obj : ℕ) → CountsNothing (Counts es' t) (inode_subject pfs obj)
    inodes obj bytes c =
        let type = records c.element (only_new t (inode_subject pfs obj) bytes (inodes_named pfs) c) c.seen.0 in
        absurd (omega (arith, type, ap (λ (s : Subject). s.rec_type) c.about))

    entries : (directory key : ℕ) → CountsNothing (Counts es' t) (entry_subject pfs directory key)
    entries directory key bytes c =
        let type = records c.element (only_new t (entry_subject pfs directory key) bytes (others_named pfs) c) c.seen.0 in
        absurd (omega (arith, type, ap (λ (s : Subject). s.rec_type) c.about))

  -- the number has this record, where it came with the others
  record_came : (r : PfsRecord) → New (made_record pfs r i) → IsRecordOf es' pfs (pfs_bytes r)
  record_came r new = record {
    element = made_record pfs r i;
    there = (gains (made_record pfs r i)).1 (inl new);
    about = refl;
    holds = refl;
    unclosed = refl;
    newest = λ x has about. elim ((gains x).0 has) [
      | inl came ↦ omega (arith, are.made x came)
      | inr old ↦ absurd (unused x old (ap (λ (z : Subject). pfs_of z.localization) about ∙ others_named pfs))
    ];
  }

  adds_system : (r : PfsRecord) (tree : FileTree) → New (made_record pfs r i) → ((t : ℕ) → i ≤ t → HasView (Counts es' t) pfs tree)
      → AddsSystem pfs i r New tree es es'
  adds_system r tree new present = record {
    elements = gains;
    record_is = record_came r new;
    records = λ other bytes differ. (record_old other bytes differ, record_still other bytes differ);
    elsewhere = else_same;
    others = others_stay;
    past = λ t before. none_shown t (λ x new' made. absurd (omega (arith, are.made x new', made)));
    present = present;
  }

-- a record alone
record_of : (pfs i : ℕ) (r : PfsRecord) → AreOf pfs i (λ x. x ≡ made_record pfs r i)
record_of pfs i r = record {
  number = λ x is. ap (λ (z : FullElement). pfs_of z.key.localization) is ∙ others_named pfs;
  made = λ x is. ap (λ (z : FullElement). z.key.create) is;
}

-- an element of a number that an id makes has a key that none has, where that id made none there
pub new_key : (pfs i : ℕ) (e : FullElement) (es : List FullElement) → pfs_of e.key.localization ≡ pfs → e.key.create ≡ i → IsNotMadeBy pfs i es
    → (x : FullElement) → Contains es x → x.key ≢ e.key
new_key pfs i e es here made unmade x has same =
    unmade x has (ap (λ (k : Key). pfs_of k.localization) same ∙ here) (ap (λ (k : Key). k.create) same ∙ made)

module _ (pfs i : ℕ) (r : PfsRecord) (es mid : List FullElement) (own : HaveOwnKeys es) (unmade : IsNotMadeBy pfs i es)
    (adds : Adds (made_record pfs r i) es mid) where
  own_mid : HaveOwnKeys mid
  own_mid = own_keys_adds (made_record pfs r i) es mid adds (new_key pfs i (made_record pfs r i) es (others_named pfs) refl unmade) own

  pub root_key : (x : FullElement) → Contains mid x → x.key ≢ (made_root pfs i).key
  root_key x has same = elim ((adds x).0 has) [
    | inl new ↦ absurd (omega (arith, ap (λ (z : FullElement). z.key.rec_type) new, ap (λ (k : Key). k.rec_type) same))
    | inr old ↦ new_key pfs i (made_root pfs i) es (inodes_named pfs) refl unmade x old same
  ]

  module _ (unused : IsUnusedNumber pfs es) where
    -- a number with a record alone shows no object
    record_alone : (t : ℕ) → HasView (Counts mid t) pfs no_tree
    record_alone t =
        none_shown pfs i (λ x. x ≡ made_record pfs r i) es mid unused (record_of pfs i r) adds own_mid t
        (λ x is made. ap (λ (z : FullElement). z.key.rec_type) is)

    one_record : AddsSystem pfs i r (λ x. x ≡ made_record pfs r i) no_tree es mid
    one_record =
        adds_system pfs i (λ x. x ≡ made_record pfs r i) es mid unused (record_of pfs i r) adds own_mid r no_tree refl (λ t late. record_alone t)

    -- no inode is there yet
    no_root : (x : FullElement) → Contains mid x → subject_of x.key ≢ inode_subject pfs 1
    no_root x has about = elim ((adds x).0 has) [
      | inl new ↦ absurd (omega (arith, ap (λ (z : FullElement). z.key.rec_type) new, ap (λ (s : Subject). s.rec_type) about))
      | inr old ↦ unused x old (ap (λ (s : Subject). pfs_of s.localization) about ∙ inodes_named pfs)
    ]

  pub record_put : PutsSystem pfs i r (λ x. x ≡ made_record pfs r i) no_tree es mid
  record_put = puts_system pfs i (λ x. x ≡ made_record pfs r i) es mid (record_of pfs i r) adds r no_tree one_record

  module _ (es' : List FullElement) (then : Adds (made_root pfs i) mid es') where
    -- the record and the root directory
    gains_both : (x : FullElement) → Contains es' x ↔ (((x ≡ made_root pfs i) ⊎ (x ≡ made_record pfs r i)) ⊎ Contains es x)
    gains_both x = (to, from) where
      to : Contains es' x → ((x ≡ made_root pfs i) ⊎ (x ≡ made_record pfs r i)) ⊎ Contains es x
      to has = elim ((then x).0 has) [
        | inl root ↦ inl (inl root)
        | inr there ↦ elim ((adds x).0 there) [
          | inl new ↦ inl (inr new)
          | inr old ↦ inr old
        ]
      ]

      from : ((x ≡ made_root pfs i) ⊎ (x ≡ made_record pfs r i)) ⊎ Contains es x → Contains es' x
      from (inl (inl root)) = (then x).1 (inl root)
      from (inl (inr new)) = (then x).1 (inr ((adds x).1 (inl new)))
      from (inr old) = (then x).1 (inr ((adds x).1 (inr old)))

    both_of : AreOf pfs i (λ x. (x ≡ made_root pfs i) ⊎ (x ≡ made_record pfs r i))
    both_of = record { number = number; made = made } where
      number : (x : FullElement) → (x ≡ made_root pfs i) ⊎ (x ≡ made_record pfs r i) → pfs_of x.key.localization ≡ pfs
      number x (inl is) = ap (λ (z : FullElement). pfs_of z.key.localization) is ∙ inodes_named pfs
      number x (inr is) = ap (λ (z : FullElement). pfs_of z.key.localization) is ∙ others_named pfs

      made : (x : FullElement) → (x ≡ made_root pfs i) ⊎ (x ≡ made_record pfs r i) → x.key.create ≡ i
      made x (inl is) = ap (λ (z : FullElement). z.key.create) is
      made x (inr is) = ap (λ (z : FullElement). z.key.create) is

    own_both : HaveOwnKeys es'
    own_both = own_keys_adds (made_root pfs i) mid es' then root_key own_mid

    module _ (unused : IsUnusedNumber pfs es) where
      -- from its id on the root directory is the tree
      root_shown : (t : ℕ) → i ≤ t → HasView (Counts es' t) pfs root_tree
      root_shown t late =
          (directory_added pfs i root_number mid es'
          (rewrites_added (made_root pfs i) mid mid es' (shuts_none (inode_subject pfs 1) i mid) then refl
          (record { made = λ x has about. absurd (no_root unused x has about); closed = λ x has about. absurd (no_root unused x has about) }))).shows
          (λ t late bytes c. no_root unused c.element c.there c.about) t no_tree late (record_alone unused t)

      both_there : AddsSystem pfs i r (λ x. (x ≡ made_root pfs i) ⊎ (x ≡ made_record pfs r i)) root_tree es es'
      both_there =
          adds_system pfs i (λ x. (x ≡ made_root pfs i) ⊎ (x ≡ made_record pfs r i)) es es' unused both_of gains_both own_both r root_tree
          (inr refl) root_shown

    pub both_put : PutsSystem pfs i r (λ x. (x ≡ made_root pfs i) ⊎ (x ≡ made_record pfs r i)) root_tree es es'
    both_put = puts_system pfs i (λ x. (x ≡ made_root pfs i) ⊎ (x ≡ made_record pfs r i)) es es' both_of gains_both r root_tree both_there

-- ---- over what a store tells

-- what is known of a store in which an id made no element of a number
pub record IsReady (pfs i : ℕ) (lists : Lists) : Type 0 where
  pub content : IsContent lists.0
  pub unmade : IsNotMadeBy pfs i (fulls lists)

pub ready : (pfs i : ℕ) (es : Option (List Element)) (xs : Option (List Extent)) → IfSome es IsContent → IsUnmadeIn es xs pfs i
    → IfSome (content_of es xs) (IsReady pfs i)
ready pfs i None xs content unmade = tt
ready pfs i (Some es) None content unmade = tt
ready pfs i (Some es) (Some xs) content unmade = record { content = content; unmade = unmade }

own_keys : (pfs i : ℕ) (lists : Lists) → IsReady pfs i lists → HaveOwnKeys (fulls lists)
own_keys pfs i lists known = own_keys-sorted (fulls lists) (full_sorted lists.0 lists.1 known.content.rising)

pub slave_added : (pfs shared i : ℕ) (r : PfsRecord) (was : Lists) (es' : List FullElement) → r ≡ slave_record shared → IsReady pfs i was
    → Adds (made_record pfs r i) (fulls was) es' → PutsSlave pfs shared i (fulls was) es'
slave_added pfs shared i r was es' is known adds =
    record_put pfs i (slave_record shared) (fulls was) es' (own_keys pfs i was known) known.unmade
    (subst (λ (z : PfsRecord). Adds (made_record pfs z i) (fulls was) es') is adds)

pub master_added : (pfs shared i : ℕ) (r : PfsRecord) (was : Lists) (es' : List FullElement) → r ≡ master_record shared → IsReady pfs i was
    → Then (Adds (made_record pfs r i)) (Adds (made_root pfs i)) (fulls was) es' → PutsMaster pfs shared i (fulls was) es'
master_added pfs shared i r was es' is known steps =
    let (mid, first, then) = steps in
    both_put pfs i (master_record shared) (fulls was) mid (own_keys pfs i was known) known.unmade
    (subst (λ (z : PfsRecord). Adds (made_record pfs z i) (fulls was) mid) is first) es' then

-- no element stands at the key of the root directory yet
pub root_lacks : (pfs i : ℕ) (r : PfsRecord) (was : Lists) (mid : List FullElement) → IsReady pfs i was → Adds (made_record pfs r i) (fulls was) mid
    → (x : FullElement) → Contains mid x → x.key ≢ (made_root pfs i).key
root_lacks pfs i r was mid known adds = root_key pfs i r (fulls was) mid (own_keys pfs i was known) known.unmade adds
