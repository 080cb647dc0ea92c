-- The target of a softlink and the objects that elements make, as values with their facts.
use Rattle.std.proofs.Common.{◌≡◌, ℕ, ◌+◌, ◌<◌, List, [], ◌∷◌, length, get_or, take, refl, sym, ap, subst, ◌∙◌}
use Rattle.std.proofs.Common.{inl, inr, arith}
use Rattle.std.specs.Prelude.{Option, None, Some}
use Rattle.std.specs.List.{All}
use Rattle.std.proofs.lemmas.Bool.{cases_eq}
use Rattle.std.proofs.lemmas.List.Elements.{All-contains}
use Rattle.hm_types.specs.Elements.{FullElement}
use Rattle.hm_types.specs.Tree.{insert_by, is_object_before}
use Rattle.hm_types.specs.declared.id.Obj.{Obj}
use Rattle.hm_types.specs.declared.object.Object.{Object}
use Rattle.hm_types.specs.declared.object.Kind.{Kind}
use Rattle.hm_types.specs.declared.object.Kind.TheVariants.{Directory, File, Softlink, PfsLink}
use Rattle.hm_types.specs.declared.object.Content.{Content as Held}
use Rattle.hm_types.specs.declared.object.Content.TheVariants.{Nothing, File as of_file, Target, Linked}
use Rattle.hm_key.specs.Counts.{Counts, Subject, inode_subject, subject_of, target_subject}
use Rattle.hm_key.specs.Versions.{HaveOwnKeys}
use Rattle.hm_records.specs.Inode.{IsInode}
use Rattle.hm_records.specs.Laws.{made_of}
use Rattle.hm_records.specs.Payload.{IsPayload, SpellsInode}
use Rattle.hm_records.specs.PlainView.{HasNumber, HoldsObjects, IsCounted, IsHeldAs, IsNewObject, IsObjectAt}
use Rattle.hm_records.specs.View.{IsTargetOf, held, missing}
use Rattle.hm_records.specs.declared.inode.Inode.{Inode}
use Rattle.hm_records.specs.declared.kind.TheConstants.{DIRECTORY, FILE, SOFTLINK, PFS_LINK}
use Rattle.hm_records.proofs.CountsLemmas.{settled}
use Rattle.hm_records.proofs.MemberLemmas.{has_cases, has_head, has_none, has_tail}
use Rattle.hm_records.proofs.PlainLemmas.{no_object_at, object_at_is}
use Rattle.hm_records.proofs.PlainTreeLemmas.{object_new, objects_added, objects_none, objects_passed}
use Rattle.hm_records.proofs.SubjectLemmas.{same_subject}
use Rattle.hm_records.proofs.SearchLemmas.{Decided, bytes_of, counted_of, walked}

-- ---- targets

module _ (es : List FullElement) (t pfs obj : ℕ) where
  target_by : (bytes : Option (List ℕ)) → IsCounted es t (target_subject pfs obj) bytes → (text : List ℕ) × IsTargetOf (Counts es t) pfs obj text
  target_by None none = ([], missing none refl)
  target_by (Some bytes) counts = (bytes, held counts)

  -- the target of a softlink
  pub target_of : (text : List ℕ) × IsTargetOf (Counts es t) pfs obj text
  target_of = let (bytes, counts) = counted_of es t (target_subject pfs obj) in target_by bytes counts

  -- ---- objects

  abbrev HeldAs : Inode → Type 0
  HeldAs inode = (kind : Kind) × (content : Held) × IsHeldAs (Counts es t) pfs obj inode kind content

  -- what an object of an inode is, and what it holds
  held_by : (inode : Inode) → IsInode inode → HeldAs inode
  held_by inode is = elim (cases_eq inode.kind DIRECTORY) [
    | inl kind ↦ (Directory, Nothing, record { kind_is = kind; holds = kind })
    | inr no_directory ↦ elim (cases_eq inode.kind FILE) [
      | inl kind ↦ let (bytes, are) = bytes_of es t pfs obj inode.size in (File, of_file bytes, record { kind_is = kind; holds = (kind, are) })
      | inr no_file ↦ elim (cases_eq inode.kind SOFTLINK) [
        | inl kind ↦ let (text, is_target) = target_of in (Softlink, Target text, record { kind_is = kind; holds = (kind, is_target) })
        | inr no_softlink ↦
            let kind : inode.kind ≡ PFS_LINK = omega (arith, is.sized.known, no_directory, no_file, no_softlink) in
            (PfsLink, Linked inode.pfs, record { kind_is = kind; holds = (kind, refl) })
      ]
    ]
  ]

module _ (es : List FullElement) (t pfs : ℕ) (own : HaveOwnKeys es) (payloads : All IsPayload es) where
  -- an inode that counts is spelled
  spelled : (number : ℕ) (bytes : List ℕ) → Counts es t (inode_subject pfs number) bytes → SpellsInode bytes
  spelled number bytes counts =
      let payload : IsPayload counts.element = All-contains IsPayload es counts.element payloads counts.there in
      subst SpellsInode counts.holds (payload.inode (ap (λ (s : Subject). s.rec_type) counts.about))

  object_by : (number : Obj) (bytes : Option (List ℕ)) → IsCounted es t (inode_subject pfs number.0) bytes
      → (o : Option Object) × IsObjectAt (Counts es t) pfs number.0 o
  object_by number None none = (None, no_object_at es t pfs number.0 none)
  object_by number (Some bytes) counts =
      let (inode, ranges, same) = spelled number.0 bytes counts in
      let (kind, content, is) = held_by es t pfs number.0 inode ranges in
      (Some (made_of number kind content inode), (object_at_is es t pfs number bytes inode kind content counts ranges same is, refl))

  -- the object of a number, if it is there
  pub object_at : (number : Obj) → (o : Option Object) × IsObjectAt (Counts es t) pfs number.0 o
  object_at number = let (bytes, counts) = counted_of es t (inode_subject pfs number.0) in object_by number bytes counts

  number_or_not : (objects : List Object) (number : ℕ) → Decided (HasNumber objects number)
  number_or_not [] number = inr (λ has. has_none has.0 has.1)
  number_or_not (o ∷ os) number = elim (cases_eq o.number.0 number) [
    | inl here ↦ inl (o, has_head o os, here)
    | inr not ↦ elim (number_or_not os number) [
      | inl later ↦ inl (later.0, has_tail o later.0 os later.1, later.2)
      | inr none ↦ inr (λ has. elim (has_cases o has.0 os has.1) [
        | inl first ↦ not (ap (λ (p : Object). p.number.0) (sym first) ∙ has.2)
        | inr later ↦ none (has.0, later, has.2)
      ])
    ]
  ]

  abbrev NewObject : FullElement → List Object → Type 0
  NewObject e objects = (o : Option Object) × IsNewObject (Counts es t) pfs e objects o

  -- the object of an element that is not among these, if there is one
  new_object : (e : FullElement) (objects : List Object) → NewObject e objects
  new_object e objects = elim (same_subject (subject_of e.key) (inode_subject pfs e.key.obj)) [
    | inr other ↦ (None, λ o is of. absurd (other (of ∙ ap (inode_subject pfs) (sym (ap (λ (s : Subject). s.obj) of)))))
    | inl about ↦ elim (number_or_not objects e.key.obj) [
      | inl known ↦ (None, λ o is of. subst (λ (n : ℕ). HasNumber objects n) (ap (λ (s : Subject). s.obj) (sym about ∙ of)) known)
      | inr new ↦
          let (o, is) = object_at (record { 0 = e.key.obj }) in
          (o, object_new (Counts es t) pfs e.key.obj e objects about new o is)
    ]
  ]

  abbrev HeldObjects : List FullElement → Type 0
  HeldObjects xs = (objects : List Object) × HoldsObjects (Counts es t) pfs xs objects

  module _ (i : ℕ) (x : FullElement) (below : i < length es) (is : x ≡ get_or es i x) where
    one_more : (objects : List Object) → HoldsObjects (Counts es t) pfs (take i es) objects
        → (o : Option Object) → IsNewObject (Counts es t) pfs x objects o → HeldObjects (take (i + 1) es)
    one_more objects holds None none = (objects, objects_passed (Counts es t) pfs (settled es t own) es i x below is objects holds none)
    one_more objects holds (Some o) added =
        (insert_by is_object_before o objects, objects_added (Counts es t) pfs (settled es t own) es i x below is objects o holds added)

  objects_walked : HeldObjects es
  objects_walked = walked es HeldObjects ([], objects_none (Counts es t) pfs) (λ i x below is so_far.
      let (o, new) = new_object x so_far.0 in
      one_more i x below is so_far.0 so_far.1 o new)

  -- the objects that the elements make
  pub objects_of : (objects : List Object) × HoldsObjects (Counts es t) pfs es objects
  objects_of = objects_walked
