-- Each inode that counts makes an object: elements decide the bytes of files and the targets of softlinks.
use Rattle.std.proofs.Common.{◌≡◌, ℕ, List, [], refl}
use Rattle.std.proofs.Common.{ap, subst, inl, inr, arith}
use Rattle.std.specs.Prelude.{Option, None, Some}
use Rattle.std.proofs.lemmas.Bool.{cases_eq}
use Rattle.hm_types.specs.Elements.{FullElement}
use Rattle.hm_types.specs.Tree.{FileTree, object_in}
use Rattle.hm_types.specs.declared.id.Obj.{Obj}
use Rattle.hm_types.specs.declared.object.Object.{Object}
use Rattle.hm_types.specs.declared.object.Kind.{Kind}
use Rattle.hm_types.specs.declared.object.Kind.TheVariants.{Directory, File, Softlink, PfsLink}
use Rattle.hm_types.specs.declared.object.Content.{Content as Held}
use Rattle.hm_types.specs.declared.object.Content.TheVariants.{Nothing, File as of_file, Target, Linked}
use Rattle.hm_key.specs.Counts.{Counts, inode_subject, target_subject}
use Rattle.hm_key.specs.Versions.{HaveOwnKeys}
use Rattle.hm_records.specs.Changes.{CountsNothing, HasInode}
use Rattle.hm_records.specs.Inode.{inode_bytes}
use Rattle.hm_records.specs.Laws.{HasView, made_of}
use Rattle.hm_records.specs.PlainView.{IsCounted}
use Rattle.hm_records.specs.View.{IsObject, IsTargetOf, IsViewOf, held as stands, missing}
use Rattle.hm_records.specs.declared.inode.Inode.{Inode}
use Rattle.hm_records.specs.declared.kind.TheConstants.{DIRECTORY, FILE, SOFTLINK}
use Rattle.hm_records.proofs.CountsLemmas.{settled}
use Rattle.hm_records.proofs.LookupLemmas.{found_is_object, object_is_found}
use Rattle.hm_records.proofs.MadeLemmas.{directory_made, file_made, pfs_link_made, softlink_made}
use Rattle.hm_records.proofs.ObjectLemmas.{inode_one}
use Rattle.hm_records.proofs.SearchLemmas.{bytes_of, counted_of}
use Rattle.hm_volume.specs.Found.{IsMadeBy}

module _ (es : List FullElement) (t : ℕ) where
  -- ---- the target of a softlink

  module _ (pfs obj : ℕ) where
    target : (text : List ℕ) × IsTargetOf (Counts es t) pfs obj text
    target = by_counted (counted_of es t (target_subject pfs obj)).0 (counted_of es t (target_subject pfs obj)).1 where
      by_counted : (bytes : Option (List ℕ)) → IsCounted es t (target_subject pfs obj) bytes → (text : List ℕ) × IsTargetOf (Counts es t) pfs obj text
      by_counted None none = ([], missing none refl)
      by_counted (Some bytes) counts = (bytes, stands counts)

  -- ---- objects

  abbrev pub Made : ℕ → Obj → Inode → Type 0
  Made pfs number inode = (o : Object) × (o.number ≡ number) × IsMadeBy (Counts es t) pfs inode o

  one_inode : (pfs obj : ℕ) (i j : Inode) → HaveOwnKeys es → HasInode (Counts es t) pfs obj i → HasInode (Counts es t) pfs obj j → i ≡ j
  one_inode pfs obj i j own is is' =
      inode_one i j is.ranges is'.ranges (settled es t own (inode_subject pfs obj) (inode_bytes i) (inode_bytes j) is.there is'.there)

  made_by : (pfs : ℕ) (inode : Inode) (o : Object) → HaveOwnKeys es → HasInode (Counts es t) pfs o.number.0 inode → IsObject (Counts es t) pfs o
      → IsMadeBy (Counts es t) pfs inode o
  made_by pfs inode o own has is = record {
    object = is;
    same = one_inode pfs o.number.0 is.inode inode own (record { ranges = is.ranges; there = is.there }) has;
  }

  pub made : (pfs : ℕ) (number : Obj) (inode : Inode) → HaveOwnKeys es → HasInode (Counts es t) pfs number.0 inode → Made pfs number inode
  made pfs number inode own has =
      elim (cases_eq inode.kind DIRECTORY) [
        | inl is ↦ of_kind Directory Nothing (directory_made pfs number inode (Counts es t) has is)
        | inr no_directory ↦ elim (cases_eq inode.kind FILE) [
          | inl is ↦
              let (bytes, are) = bytes_of es t pfs number.0 inode.size in
              of_kind File (of_file bytes) (file_made pfs number inode bytes (Counts es t) has is are)
          | inr no_file ↦ elim (cases_eq inode.kind SOFTLINK) [
            | inl is ↦
                let (text, leads) = target pfs number.0 in
                of_kind Softlink (Target text) (softlink_made pfs number inode text (Counts es t) has is leads)
            | inr no_softlink ↦
                let known = has.ranges.sized.known in
                of_kind PfsLink (Linked inode.pfs) (pfs_link_made pfs number inode (Counts es t) has
                (omega (arith, known.0, known.1, no_directory, no_file, no_softlink)))
          ]
        ]
      ]
    where
      of_kind : (kind : Kind) (content : Held) → IsObject (Counts es t) pfs (made_of number kind content inode) → Made pfs number inode
      of_kind kind content is =
          (made_of number kind content inode, refl, made_by pfs inode (made_of number kind content inode) own has is)

  -- ---- what a view has

  module _ (pfs : ℕ) (tree : FileTree) (number : Obj) (own : HaveOwnKeys es) (view : IsViewOf es pfs t tree) where
    has_view : HasView (Counts es t) pfs tree
    has_view = record { settled = settled es t own; view = view }

    pub found : (inode : Inode) → HasInode (Counts es t) pfs number.0 inode
        → (o : Object) × (object_in tree number ≡ Some o) × IsMadeBy (Counts es t) pfs inode o
    found inode has =
        let (o, same, is) = made pfs number inode own has in
        (o, object_is_found pfs tree (Counts es t) has_view number o is.object (ap (λ (n : Obj). n.0) same), is)

    pub not_found : CountsNothing (Counts es t) (inode_subject pfs number.0) → object_in tree number ≡ None
    not_found none = by_found (object_in tree number) refl where
      by_found : (o : Option Object) → object_in tree number ≡ o → o ≡ None
      by_found None is = refl
      by_found (Some o) is =
          let (there, same) = found_is_object pfs tree (Counts es t) has_view number o is in
          absurd (none (inode_bytes there.inode) (subst (λ (n : ℕ). Counts es t (inode_subject pfs n) (inode_bytes there.inode)) same there.there))
