-- Which objects inodes make, and what changes nothing of them.
use Rattle.std.proofs.Common.{◌≡◌, ℕ, ◌^◌, ◌<◌, List, [], refl, sym, ap, subst, ◌∙◌, arith}
use Rattle.std.specs.Prelude.{◌↔◌, Option, Some}
use Rattle.std.specs.List.{Contains}
use Rattle.hm_types.specs.declared.id.Obj.{Obj}
use Rattle.hm_types.specs.declared.object.Object.{Object}
use Rattle.hm_types.specs.declared.object.Kind.{Kind}
use Rattle.hm_types.specs.declared.object.Kind.TheVariants.{Directory, File, Softlink, PfsLink}
use Rattle.hm_types.specs.declared.object.Content.{Content as Held}
use Rattle.hm_types.specs.declared.object.Content.TheVariants.{Nothing, File as of_file, Target, Linked}
use Rattle.hm_types.specs.Tree.{FileTree, holding, with_change, with_links}
use Rattle.hm_records.specs.declared.inode.Inode.{Inode}
use Rattle.hm_records.specs.declared.kind.TheConstants.{DIRECTORY, FILE, SOFTLINK, PFS_LINK}
use Rattle.hm_records.specs.Inode.{IsInode, inode_bytes}
use Rattle.hm_key.specs.Counts.{Content, Subject, inode_subject, bytes_subject, target_subject}
use Rattle.hm_records.specs.View.{AreFileBytes, IsHeld, IsObject, IsTargetOf, kind_number}
use Rattle.hm_records.specs.Changes.{ChangesObject, HasInode, IsBeside, IsNotOfKind, IsSettled, Overrides}
use Rattle.hm_records.specs.Laws.{HasView, made_of}
use Rattle.hm_records.proofs.ObjectLemmas.{SameBytes, SameTarget, held_kept, inode_one}
use Rattle.hm_records.proofs.ObjectChangeLemmas.{known_changed, object_changed, object_same_view}
use Rattle.hm_records.proofs.SubjectLemmas.{beside_name, beside_object, bytes_one_object, inode_one_object, settled_still, target_one_object}
use Rattle.hm_records.proofs.ViewLemmas.{view_kept}

-- ---- what an inode makes

pub object_made : (pfs : ℕ) (number : Obj) (kind : Kind) (content : Held) (inode : Inode) (C : Content) → HasInode C pfs number.0 inode
    → inode.kind ≡ kind_number kind → IsHeld C pfs number.0 inode content → IsObject C pfs (made_of number kind content inode)
object_made pfs number kind content inode C has is holds = record {
  inode = inode;
  ranges = has.ranges;
  there = has.there;
  kind = is;
  links = refl;
  holds = holds;
}

pub directory_made : (pfs : ℕ) (number : Obj) (inode : Inode) (C : Content) → HasInode C pfs number.0 inode → inode.kind ≡ DIRECTORY
    → IsObject C pfs (made_of number Directory Nothing inode)
directory_made pfs number inode C has is = object_made pfs number Directory Nothing inode C has is is

pub file_made : (pfs : ℕ) (number : Obj) (inode : Inode) (bytes : List ℕ) (C : Content) → HasInode C pfs number.0 inode → inode.kind ≡ FILE
    → AreFileBytes C pfs number.0 inode.size bytes → IsObject C pfs (made_of number File (of_file bytes) inode)
file_made pfs number inode bytes C has is are = object_made pfs number File (of_file bytes) inode C has is (is, are)

pub no_bytes : (pfs obj size : ℕ) (C : Content) → size ≡ 0 → AreFileBytes C pfs obj size []
no_bytes pfs obj size C none = record { sized = sym none; each = λ x below. absurd (omega arith) }

pub softlink_made : (pfs : ℕ) (number : Obj) (inode : Inode) (text : List ℕ) (C : Content) → HasInode C pfs number.0 inode → inode.kind ≡ SOFTLINK
    → IsTargetOf C pfs number.0 text → IsObject C pfs (made_of number Softlink (Target text) inode)
softlink_made pfs number inode text C has is leads = object_made pfs number Softlink (Target text) inode C has is (is, leads)

pub pfs_link_made : (pfs : ℕ) (number : Obj) (inode : Inode) (C : Content) → HasInode C pfs number.0 inode → inode.kind ≡ PFS_LINK
    → IsObject C pfs (made_of number PfsLink (Linked inode.pfs) inode)
pfs_link_made pfs number inode C has is = object_made pfs number PfsLink (Linked inode.pfs) inode C has is (is, refl)

-- ---- an override is a change of one object

pub inode_changes : (pfs obj : ℕ) (now : Option (List ℕ)) (C D : Content) → IsSettled C → Overrides (inode_subject pfs obj) now C D → ChangesObject pfs obj C D
inode_changes pfs obj now C D settled overrides = record {
  agree = inode_one_object pfs obj C D overrides.elsewhere;
  settled = settled_still (inode_subject pfs obj) now C D overrides settled;
}

pub bytes_changes : (pfs obj end : ℕ) (now : Option (List ℕ)) (C D : Content) → IsSettled C → Overrides (bytes_subject pfs obj end) now C D
    → ChangesObject pfs obj C D
bytes_changes pfs obj end now C D settled overrides = record {
  agree = bytes_one_object pfs obj end C D overrides.elsewhere;
  settled = settled_still (bytes_subject pfs obj end) now C D overrides settled;
}

pub target_changes : (pfs obj : ℕ) (now : Option (List ℕ)) (C D : Content) → IsSettled C → Overrides (target_subject pfs obj) now C D
    → ChangesObject pfs obj C D
target_changes pfs obj now C D settled overrides = record {
  agree = target_one_object pfs obj C D overrides.elsewhere;
  settled = settled_still (target_subject pfs obj) now C D overrides settled;
}

-- ---- links

pub links_changed : (pfs number links : ℕ) (inode : Inode) (tree : FileTree) (C D : Content) → HasView C pfs tree → HasInode C pfs number inode
    → links < 2 ^ 32 → Overrides (inode_subject pfs number) (Some (inode_bytes (record inode { links = links }))) C D
    → HasView D pfs (with_change tree (record { 0 = number }) (with_links links))
links_changed pfs number links inode tree C D has there small overrides =
    object_changed pfs number tree C D has changes (with_links links) (λ o. refl) made was
  where
    changes : ChangesObject pfs number C D
    changes = inode_changes pfs number (Some (inode_bytes (record inode { links = links }))) C D has.settled overrides

    next : Inode
    next = record inode { links = links }

    ranges : IsInode next
    ranges = record {
      sized = there.ranges.sized;
      size = there.ranges.size;
      links = small;
      pfs = there.ranges.pfs;
      no_pfs = there.ranges.no_pfs;
    }

    bytes : SameBytes pfs number C D
    bytes end b = overrides.elsewhere (bytes_subject pfs number end) b (λ is. absurd (omega (arith, ap (λ (s : Subject). s.rec_type) is)))

    target : SameTarget pfs number C D
    target b = overrides.elsewhere (target_subject pfs number) b (λ is. absurd (omega (arith, ap (λ (s : Subject). s.rec_type) is)))

    with_old : (i : Inode) → inode_bytes i ≡ inode_bytes inode → IsInode i → i ≡ inode
    with_old i same is = inode_one i inode is there.ranges same

    linked : (l : ℕ) (i : Inode) (content : Held) (E : Content) (obj : ℕ) → IsHeld E pfs obj i content → IsHeld E pfs obj (record i { links = l }) content
    linked l i Nothing E obj is = is
    linked l i (of_file b) E obj is = is
    linked l i (Target text) E obj is = is
    linked l i (Linked other) E obj is = is

    made : (o : Object) → o.number.0 ≡ number → IsObject C pfs o → IsObject D pfs (with_links links o)
    made o same is =
        let mine : C (inode_subject pfs number) (inode_bytes is.inode) = subst (λ (n : ℕ). C (inode_subject pfs n) (inode_bytes is.inode)) same is.there in
        let one : is.inode ≡ inode = with_old is.inode (has.settled (inode_subject pfs number) (inode_bytes is.inode)
        (inode_bytes inode) mine there.there) is.ranges in
        let holds : IsHeld C pfs number inode o.content =
        subst (λ (i : Inode). IsHeld C pfs number i o.content) one (subst (λ (n : ℕ). IsHeld C pfs n is.inode o.content) same is.holds) in
        let holds' : IsHeld D pfs number next o.content = linked links inode o.content D number
        (held_kept pfs number inode o.content C D (λ _. bytes) (λ _. target) holds) in
        record {
          inode = next;
          ranges = ranges;
          there = subst (λ (n : ℕ). D (inode_subject pfs n) (inode_bytes next)) (sym same) ((overrides.about (inode_bytes next)).1 refl);
          kind = sym (ap (λ (i : Inode). i.kind) one) ∙ is.kind;
          links = refl;
          holds = subst (λ (n : ℕ). IsHeld D pfs n next o.content) (sym same) holds';
        }

    was : (o : Object) → o.number.0 ≡ number → IsObject D pfs o → (p : Object) × IsObject C pfs p × (p.number.0 ≡ number) × (with_links links p ≡ o)
    was o same is =
        let mine : D (inode_subject pfs number) (inode_bytes is.inode) = subst (λ (n : ℕ). D (inode_subject pfs n) (inode_bytes is.inode)) same is.there in
        let one : is.inode ≡ next =
        inode_one is.inode next is.ranges ranges
        (changes.settled (inode_subject pfs number) (inode_bytes is.inode) (inode_bytes next) mine ((overrides.about (inode_bytes next)).1 refl)) in
        let holds : IsHeld D pfs number next o.content =
        subst (λ (i : Inode). IsHeld D pfs number i o.content) one (subst (λ (n : ℕ). IsHeld D pfs n is.inode o.content) same is.holds) in
        let holds' : IsHeld C pfs number inode o.content =
        linked inode.links next o.content C number
        (held_kept pfs number next o.content D C (λ _ end b. ((bytes end b).1, (bytes end b).0)) (λ _ b. ((target b).1, (target b).0)) holds) in
        let links' : links ≡ o.links = sym (is.links ∙ ap (λ (i : Inode). i.links) one) in (
          with_links inode.links o,
          record {
            inode = inode;
            ranges = there.ranges;
            there = subst (λ (n : ℕ). C (inode_subject pfs n) (inode_bytes inode)) (sym same) there.there;
            kind = sym (ap (λ (i : Inode). i.kind) one) ∙ is.kind;
            links = refl;
            holds = subst (λ (n : ℕ). IsHeld C pfs n inode o.content) (sym same) holds';
          },
          same,
          (λ i. record o { links = links' i }),
        )

-- ---- bytes

pub file_changed : (pfs number : ℕ) (inode : Inode) (bytes : List ℕ) (held : Object) (tree : FileTree) (C D : Content) → HasView C pfs tree
    → ChangesObject pfs number C D → Contains tree.objects held → held.number.0 ≡ number → held.kind ≡ File
    → HasInode D pfs number inode → inode.kind ≡ FILE → inode.links ≡ held.links → AreFileBytes D pfs number inode.size bytes
    → HasView D pfs (with_change tree (record { 0 = number }) (holding (of_file bytes)))
file_changed pfs number inode bytes held tree C D has changes there same kind there' is links are =
    known_changed pfs number tree C D has changes (holding (of_file bytes)) held (λ o. refl) there same (record {
      inode = inode;
      ranges = there'.ranges;
      there = subst (λ (n : ℕ). D (inode_subject pfs n) (inode_bytes inode)) (sym same) there'.there;
      kind = is ∙ sym (ap kind_number kind);
      links = sym links;
      holds = subst (λ (n : ℕ). IsHeld D pfs n inode (of_file bytes)) (sym same) (is, are);
    })

-- ---- what changes nothing

-- the inode stays, and what it makes the object hold
object_by : (pfs : ℕ) (o : Object) (C D : Content) → ((bytes : List ℕ) → D (inode_subject pfs o.number.0) bytes ↔ C (inode_subject pfs o.number.0) bytes)
    → ((inode : Inode) → HasInode C pfs o.number.0 inode → IsHeld C pfs o.number.0 inode o.content → IsHeld D pfs o.number.0 inode o.content)
    → IsObject C pfs o → IsObject D pfs o
object_by pfs o C D same holds is = record {
  inode = is.inode;
  ranges = is.ranges;
  there = (same (inode_bytes is.inode)).1 is.there;
  kind = is.kind;
  links = is.links;
  holds = holds is.inode (record { ranges = is.ranges; there = is.there }) is.holds;
}

pub target_alone : (pfs number : ℕ) (now : Option (List ℕ)) (tree : FileTree) (C D : Content) → HasView C pfs tree
    → Overrides (target_subject pfs number) now C D → IsNotOfKind C pfs number SOFTLINK → HasView D pfs tree
target_alone pfs number now tree C D has overrides not =
    object_same_view pfs number tree C D has (target_changes pfs number now C D has.settled overrides)
    (λ o e. (
      λ is. object_by pfs o C D (inodes o.number.0) (λ inode there holds.
          held_kept pfs o.number.0 inode o.content C D (λ _. bytes o.number.0)
          (λ kind. absurd (not inode (subst (λ (n : ℕ). HasInode C pfs n inode) e there) kind)) holds) is,
      λ is. object_by pfs o D C (λ b. ((inodes o.number.0 b).1, (inodes o.number.0 b).0)) (λ inode there holds.
          held_kept pfs o.number.0 inode o.content D C (λ _ end b. ((bytes o.number.0 end b).1, (bytes o.number.0 end b).0))
          (λ kind. absurd (not inode (subst (λ (n : ℕ). HasInode C pfs n inode) e
          (record { ranges = there.ranges; there = (inodes o.number.0 (inode_bytes inode)).0 there.there })) kind)) holds) is,
    ))
  where
    inodes : (obj : ℕ) (b : List ℕ) → D (inode_subject pfs obj) b ↔ C (inode_subject pfs obj) b
    inodes obj b = overrides.elsewhere (inode_subject pfs obj) b (λ is. absurd (omega (arith, ap (λ (s : Subject). s.rec_type) is)))

    bytes : (obj : ℕ) → SameBytes pfs obj C D
    bytes obj end b = overrides.elsewhere (bytes_subject pfs obj end) b (λ is. absurd (omega (arith, ap (λ (s : Subject). s.rec_type) is)))

pub bytes_alone : (pfs number end : ℕ) (now : Option (List ℕ)) (tree : FileTree) (C D : Content) → HasView C pfs tree
    → Overrides (bytes_subject pfs number end) now C D → IsNotOfKind C pfs number FILE → HasView D pfs tree
bytes_alone pfs number end now tree C D has overrides not =
    object_same_view pfs number tree C D has (bytes_changes pfs number end now C D has.settled overrides)
    (λ o e. (
      λ is. object_by pfs o C D (inodes o.number.0) (λ inode there holds.
          held_kept pfs o.number.0 inode o.content C D
          (λ kind. absurd (not inode (subst (λ (n : ℕ). HasInode C pfs n inode) e there) kind)) (λ _. targets o.number.0) holds) is,
      λ is. object_by pfs o D C (λ b. ((inodes o.number.0 b).1, (inodes o.number.0 b).0)) (λ inode there holds.
          held_kept pfs o.number.0 inode o.content D C
          (λ kind. absurd (not inode (subst (λ (n : ℕ). HasInode C pfs n inode) e
          (record { ranges = there.ranges; there = (inodes o.number.0 (inode_bytes inode)).0 there.there })) kind))
          (λ _ b. ((targets o.number.0 b).1, (targets o.number.0 b).0)) holds) is,
    ))
  where
    inodes : (obj : ℕ) (b : List ℕ) → D (inode_subject pfs obj) b ↔ C (inode_subject pfs obj) b
    inodes obj b = overrides.elsewhere (inode_subject pfs obj) b (λ is. absurd (omega (arith, ap (λ (s : Subject). s.rec_type) is)))

    targets : (obj : ℕ) → SameTarget pfs obj C D
    targets obj b = overrides.elsewhere (target_subject pfs obj) b (λ is. absurd (omega (arith, ap (λ (s : Subject). s.rec_type) is)))

pub beside_alone : (pfs : ℕ) (s : Subject) (now : Option (List ℕ)) (tree : FileTree) (C D : Content) → HasView C pfs tree
    → IsBeside pfs s → Overrides s now C D → HasView D pfs tree
beside_alone pfs s now tree C D has beside overrides = record {
  settled = settled_still s now C D overrides has.settled;
  view = view_kept pfs tree C D (λ obj. beside_object pfs obj s C D beside overrides.elsewhere)
      (λ directory name. beside_name pfs directory name s C D beside overrides.elsewhere) has.view;
}
