-- Which numbers the objects of a changed tree have.
use Rattle.std.proofs.Common.{◌≡◌, ℕ, ◌+◌, ◌-◌, ◌≤◌, Bool, true, false, List, [], ◌∷◌, eqb, refl, sym, ap, ◌∙◌, inl, inr, arith}
use Rattle.std.specs.Prelude.{◌⊎◌, ◌==◌, None, find, replicate, if◌then◌else◌}
use Rattle.std.specs.Bool.{nat_lt}
use Rattle.std.specs.List.{Contains}
use Rattle.std.proofs.lemmas.Bool.Decides.{nat_tests}
use Rattle.hm_types.specs.Tree.{FileTree, is_object_before, object_in, with_change, with_links, with_object, without_entry, without_link}
use Rattle.hm_types.specs.Tree.{without_name, without_object}
use Rattle.hm_types.specs.declared.id.Obj.{Obj}
use Rattle.hm_types.specs.declared.object.Object.{Object}
use Rattle.hm_types.specs.declared.object.Content.{Content}
use Rattle.hm_types.specs.declared.object.Content.TheVariants.{Nothing, File as FileBytes, Target, Linked}
use Rattle.hm_types.specs.declared.object.Kind.{Kind}
use Rattle.hm_types.specs.declared.object.Kind.TheVariants.{Directory, File, Softlink, PfsLink}
use Rattle.hm_model.specs.declared.command.Command.{Command}
use Rattle.hm_model.specs.declared.command.Command.TheVariants.{Mkdir, Touch, Symlink, Snapshot, Ln, Mv, Write, Fill, Truncate, Rm, Rmdir, PfsMaster, PfsSlave}
use Rattle.hm_model.specs.Bytes.{written}
use Rattle.hm_types.specs.Bytes.{resized}
use Rattle.hm_model.specs.Call.{Call, first_site, own_id, second_site, site_object, standing}
use Rattle.hm_model.specs.Change.{changed, linked, made, moved, moved_over, of_object, renamed, snapshot_target, with_bytes, with_made}
use Rattle.hm_model.specs.Due.{new_pfs}
use Rattle.hm_model.specs.Sites.{Site}
use Rattle.hm_model.proofs.DueLemmas.{of_option}
use Rattle.hm_image.specs.StandFor.{AreAtMost}
use Rattle.hm_records.proofs.MemberLemmas.{filter_has, has_head, has_tail, insert_has, map_has}

-- each object of the second tree has this number, or that of an object of the first one
abbrev pub HasOwn : ℕ → FileTree → Object → Type 0
HasOwn id tree o = (o.number.0 ≡ id) ⊎ ((p : Object) × Contains tree.objects p × (p.number ≡ o.number))

abbrev pub ComeFrom : ℕ → FileTree → FileTree → Type 0
ComeFrom id old new = (o : Object) → Contains new.objects o → HasOwn id old o

module _ (id : ℕ) where
  come_same : (tree : FileTree) → ComeFrom id tree tree
  come_same tree o has = inr (o, has, refl)

  come_twice : (a b c : FileTree) → ComeFrom id a b → ComeFrom id b c → ComeFrom id a c
  come_twice a b c first second o has = elim (second o has) [
    | inl new ↦ inl new
    | inr (p, there, same) ↦ elim (first p there) [
      | inl new ↦ inl (ap (λ (n : Obj). n.0) (sym same) ∙ new)
      | inr (q, before, also) ↦ inr (q, before, also ∙ same)
    ]
  ]

  -- one object more
  come_added : (tree : FileTree) (directory : Obj) (name : List ℕ) (object : Object) → object.number.0 ≡ id
      → ComeFrom id tree (with_object tree directory name object)
  come_added tree directory name object own o has = elim (insert_has is_object_before object tree.objects o has) [
    | inl new ↦ inl (ap (λ (x : Object). x.number.0) new ∙ own)
    | inr old ↦ inr (o, old, refl)
  ]

  -- an object that changed, and keeps its number
  come_changed : (tree : FileTree) (number : Obj) (change : Object → Object) → ((o : Object) → (change o).number ≡ o.number)
      → ComeFrom id tree (with_change tree number change)
  come_changed tree number change keeps o has =
      let (p, there, is) = map_has (λ (x : Object). if x.number.0 == number.0 then change x else x) tree.objects o has in
      inr (p, there, sym (by_test (p.number.0 == number.0) p) ∙ ap (λ (x : Object). x.number) is)
    where
      by_test : (test : Bool) (p : Object) → (if test then change p else p).number ≡ p.number
      by_test true p = keeps p
      by_test false p = refl

  -- an object less
  come_left : (tree : FileTree) (number : Obj) → ComeFrom id tree (without_object tree number)
  come_left tree number o has =
      inr (o, (filter_has (λ (x : Object). if x.number.0 == number.0 then false else true) tree.objects o has).0, refl)

  -- an entry less, with its link
  come_unlinked : (tree : FileTree) (object : Object) → ComeFrom id tree (without_link tree object)
  come_unlinked tree object = by_test (nat_lt 1 object.links) where
    by_test : (test : Bool) → ComeFrom id tree
        (if test then with_change tree object.number (with_links (object.links - 1)) else without_object tree object.number)
    by_test true = come_changed tree object.number (with_links (object.links - 1)) (λ o. refl)
    by_test false = come_left tree object.number

  come_removed : (tree : FileTree) (directory : Obj) (name : List ℕ) (object : Object) → ComeFrom id tree (without_entry tree directory name object)
  come_removed tree directory name object = come_unlinked (without_name tree directory name) object

  -- a move
  come_moved_over : (tree : FileTree) (old new : Site) (object there : Object) → ComeFrom id tree (moved_over tree old new object there)
  come_moved_over tree old new object there = by_test (there.number.0 == object.number.0) where
    by_test : (test : Bool) → ComeFrom id tree (if test then tree
        else renamed (without_entry tree new.directory.object new.name there) old new object.number)
    by_test true = come_same tree
    by_test false = come_removed tree new.directory.object new.name there

  come_moved : (call : Call) (tree : FileTree) (object : Object) → ComeFrom id tree (moved call tree object)
  come_moved call tree object =
      of_option (ComeFrom id tree) (moved_over tree (first_site call) (second_site call) object) (standing call (second_site call))
      (renamed tree (first_site call) (second_site call) object.number)
      (λ there. come_moved_over tree (first_site call) (second_site call) object there) (come_same tree)

  -- other bytes
  come_bytes : (tree : FileTree) (change : List ℕ → List ℕ) (object : Object) → ComeFrom id tree (with_bytes tree change object)
  come_bytes tree change object = come_changed tree object.number _ (λ o. refl)

  of_site : (call : Call) (site : Site) (tree : FileTree) (change : Object → FileTree) → ((o : Object) → ComeFrom id tree (change o))
      → ComeFrom id tree (of_object call site tree change)
  of_site call site tree change each = of_option (ComeFrom id tree) change (site_object call site) tree each (come_same tree)

-- the tree that a command makes
abbrev tree_by : Call → FileTree → Command → FileTree
tree_by call tree command =
    let id : ℕ = own_id call in
    let a : Site = first_site call in
    elim command [
      | Mkdir path ↦ with_made tree a (made id Directory Nothing)
      | Touch path ↦ with_made tree a (made id File (FileBytes []))
      | Symlink target path ↦ with_made tree a (made id Softlink (Target target))
      | Snapshot path ↦ with_made tree a (made id Softlink (Target (snapshot_target id)))
      | PfsMaster path shared ↦ with_made tree a (made id PfsLink (Linked (record { 0 = new_pfs call.volume })))
      | PfsSlave path shared ↦ with_made tree a (made id PfsLink (Linked (record { 0 = new_pfs call.volume })))
      | Ln old new ↦ of_object call a tree (linked tree (second_site call))
      | Write path offset bytes ↦ of_object call a tree (with_bytes tree (written offset bytes))
      | Fill path offset count byte ↦ of_object call a tree (with_bytes tree (written offset (replicate count byte)))
      | Truncate path size ↦ of_object call a tree (with_bytes tree (resized size))
      | Rm path ↦ of_object call a tree (without_entry tree a.directory.object a.name)
      | Rmdir path ↦ without_object (without_name tree a.directory.object a.name) a.at.object
      | Mv old new ↦ of_object call a tree (moved call tree)
      | other ↦ tree
    ]

-- the tree after a call has the objects of before, and perhaps one of the call's own number
pub changed_come : (call : Call) (tree : FileTree) → ComeFrom (own_id call) tree (changed call tree)
changed_come call tree = by call.command where
  id : ℕ
  id = own_id call

  a : Site
  a = first_site call

  with_new : (kind : Kind) (content : Content) → ComeFrom id tree (with_made tree a (made id kind content))
  with_new kind content = come_added id tree a.directory.object a.name (made id kind content) refl

  by : (command : Command) → ComeFrom (own_id call) tree (tree_by call tree command)
  by (Mkdir path) = with_new Directory Nothing
  by (Touch path) = with_new File (FileBytes [])
  by (Symlink target path) = with_new Softlink (Target target)
  by (Snapshot path) = with_new Softlink (Target (snapshot_target id))
  by (PfsMaster path shared) = with_new PfsLink (Linked (record { 0 = new_pfs call.volume }))
  by (PfsSlave path shared) = with_new PfsLink (Linked (record { 0 = new_pfs call.volume }))
  by (Ln old new) = of_site id call a tree (linked tree (second_site call))
      (λ o. come_changed id tree o.number (with_links (o.links + 1)) (λ p. refl))
  by (Write path offset bytes) = of_site id call a tree (with_bytes tree (written offset bytes)) (come_bytes id tree (written offset bytes))
  by (Fill path offset count byte) =
      of_site id call a tree (with_bytes tree (written offset (replicate count byte))) (come_bytes id tree (written offset (replicate count byte)))
  by (Truncate path size) = of_site id call a tree (with_bytes tree (resized size)) (come_bytes id tree (resized size))
  by (Rm path) = of_site id call a tree (without_entry tree a.directory.object a.name) (come_removed id tree a.directory.object a.name)
  by (Rmdir path) = come_left id (without_name tree a.directory.object a.name) a.at.object
  by (Mv old new) = of_site id call a tree (moved call tree) (come_moved id call tree)
  by other = come_same id tree

-- so those of a changed tree are at most the call's own
pub changed_numbers : (call : Call) (tree : FileTree) → AreAtMost call.volume.last tree → AreAtMost (own_id call) (changed call tree)
changed_numbers call tree most o has = elim (changed_come call tree o has) [
  | inl own ↦ omega (arith, own)
  | inr (p, there, same) ↦
      let old : p.number.0 ≤ call.volume.last = most p there in
      let is : p.number.0 ≡ o.number.0 = ap (λ (n : Obj). n.0) same in
      omega (arith, old, is)
]

-- and no object of the tree before has the call's own
pub number_is_new : (call : Call) (tree : FileTree) → AreAtMost call.volume.last tree → object_in tree (record { 0 = own_id call }) ≡ None
number_is_new call tree most = none_of tree.objects most where
  none_of : (os : List Object) → ((o : Object) → Contains os o → o.number.0 ≤ call.volume.last)
      → find (λ (o : Object). o.number.0 == own_id call) os ≡ None
  none_of [] each = refl
  none_of (o ∷ os) each =
      let old : o.number.0 ≤ call.volume.last = each o (has_head o os) in
      let no : eqb o.number.0 (own_id call) ≡ false = grind (arith, nat_tests, old) in
      rw no (none_of os (λ p has. each p (has_tail o p os has)))
