-- A view is one, and what counts decides it.
use Rattle.std.proofs.Common.{◌≡◌, ℕ, List}
use Rattle.std.specs.Prelude.{◌↔◌}
use Rattle.std.specs.List.{Contains}
use Rattle.hm_types.specs.declared.id.Obj.{Obj}
use Rattle.hm_types.specs.declared.object.Object.{Object}
use Rattle.hm_types.specs.declared.object.Triple.{Triple}
use Rattle.hm_types.specs.Tree.{FileTree, is_object_before, is_triple_before}
use Rattle.hm_key.specs.Counts.{Content, inode_subject, bytes_subject, entry_subject, target_subject}
use Rattle.hm_records.specs.Entry.{entry_bytes}
use Rattle.hm_records.specs.View.{IsObject, IsTriple, IsView}
use Rattle.hm_records.specs.Changes.{AgreeOnName, AgreeOnObject, CountSame}
use Rattle.hm_records.proofs.MemberLemmas.{order_one}
use Rattle.hm_records.proofs.ObjectLemmas.{name_back, object_back, object_kept, triple_kept}
use Rattle.hm_records.proofs.OrderLemmas.{object_strict, triple_strict}

same_tree : (t u : FileTree) → t.objects ≡ u.objects → t.triples ≡ u.triples → t ≡ u
same_tree t u objects triples = λ i. record { objects = objects i; triples = triples i }

-- the triples are one where the names agree, and the objects where these do
pub one_objects : (pfs : ℕ) (t u : FileTree) (C D : Content) → ((obj : ℕ) → AgreeOnObject pfs obj C D) → IsView C pfs t
    → IsView D pfs u → t.objects ≡ u.objects
one_objects pfs t u C D agree is is' =
    order_one is_object_before object_strict t.objects u.objects is.objects_rise is'.objects_rise
    (λ o has. (is'.objects o).1 (object_kept pfs o C D (agree o.number.0) ((is.objects o).0 has)))
    (λ o has. (is.objects o).1 (object_kept pfs o D C (object_back pfs o.number.0 C D (agree o.number.0)) ((is'.objects o).0 has)))

pub one_triples : (pfs : ℕ) (t u : FileTree) (C D : Content) → ((directory : Obj) (name : List ℕ) → AgreeOnName pfs directory name C D)
    → IsView C pfs t → IsView D pfs u → t.triples ≡ u.triples
one_triples pfs t u C D agree is is' =
    order_one is_triple_before triple_strict t.triples u.triples is.triples_rise is'.triples_rise
    (λ o has. (is'.triples o).1 (triple_kept pfs o C D (agree o.directory o.name) ((is.triples o).0 has)))
    (λ o has. (is.triples o).1 (triple_kept pfs o D C (name_back pfs o.directory o.name C D (agree o.directory o.name)) ((is'.triples o).0 has)))

pub view_one : (counts : Content) (pfs : ℕ) (t u : FileTree) → IsView counts pfs t → IsView counts pfs u → t ≡ u
view_one counts pfs t u is is' =
    same_tree t u
    (one_objects pfs t u counts counts (λ obj. record {
      inode = λ bytes. (λ h. h, λ h. h);
      bytes = λ end bytes. (λ h. h, λ h. h);
      target = λ bytes. (λ h. h, λ h. h);
    }) is is')
    (one_triples pfs t u counts counts (λ directory name key object. (λ h. h, λ h. h)) is is')

-- contents that agree about all objects have the same ones
pub objects_kept : (pfs : ℕ) (tree : FileTree) (C D : Content) → ((obj : ℕ) → AgreeOnObject pfs obj C D) → IsView C pfs tree
    → (o : Object) → Contains tree.objects o ↔ IsObject D pfs o
objects_kept pfs tree C D agree is o = (
  λ has. object_kept pfs o C D (agree o.number.0) ((is.objects o).0 has),
  λ there. (is.objects o).1 (object_kept pfs o D C (object_back pfs o.number.0 C D (agree o.number.0)) there),
)

-- and about all names, the same triples
pub triples_kept : (pfs : ℕ) (tree : FileTree) (C D : Content) → ((directory : Obj) (name : List ℕ) → AgreeOnName pfs directory name C D)
    → IsView C pfs tree → (t : Triple) → Contains tree.triples t ↔ IsTriple D pfs t
triples_kept pfs tree C D agree is t = (
  λ has. triple_kept pfs t C D (agree t.directory t.name) ((is.triples t).0 has),
  λ there. (is.triples t).1 (triple_kept pfs t D C (name_back pfs t.directory t.name C D (agree t.directory t.name)) there),
)

pub view_kept : (pfs : ℕ) (tree : FileTree) (C D : Content) → ((obj : ℕ) → AgreeOnObject pfs obj C D)
    → ((directory : Obj) (name : List ℕ) → AgreeOnName pfs directory name C D) → IsView C pfs tree → IsView D pfs tree
view_kept pfs tree C D objects names is = record {
  objects_rise = is.objects_rise;
  objects = objects_kept pfs tree C D objects is;
  triples_rise = is.triples_rise;
  triples = triples_kept pfs tree C D names is;
}

pub view_same : (pfs : ℕ) (tree : FileTree) (C D : Content) → CountSame C D → IsView C pfs tree → IsView D pfs tree
view_same pfs tree C D same is =
    view_kept pfs tree C D
    (λ obj. record {
      inode = same (inode_subject pfs obj);
      bytes = λ end. same (bytes_subject pfs obj end);
      target = same (target_subject pfs obj);
    })
    (λ directory name key object. (
      λ has. record {
        ranges = has.ranges;
        there = (same (entry_subject pfs directory.0 key) (entry_bytes (record { obj = object; name = name }))).0
            has.there;
      },
      λ has. record {
        ranges = has.ranges;
        there = (same (entry_subject pfs directory.0 key) (entry_bytes (record { obj = object; name = name }))).1
            has.there;
      },
    ))
    is
