-- What the elements of a fresh volume show: the tree with the root directory alone.
use Rattle.std.proofs.Common.{◌≡◌, ◌≢◌, inl, inr, ℕ, refl, sym, ap, subst, ◌∙◌, arith}
use Rattle.std.specs.List.{Contains}
use Rattle.std.proofs.lemmas.List.Elements.{All-nil}
use Rattle.hm_types.specs.Elements.{FullElement}
use Rattle.hm_types.specs.Tree.{directory_of, root_number, root_tree}
use Rattle.hm_types.specs.declared.object.Object.{Object}
use Rattle.hm_types.specs.declared.object.Triple.{Triple}
use Rattle.hm_types.specs.declared.object.Kind.{Kind}
use Rattle.hm_types.specs.declared.object.Kind.TheVariants.{Directory, File, Softlink, PfsLink}
use Rattle.hm_types.specs.declared.object.Content.{Content as Held}
use Rattle.hm_types.specs.declared.object.Content.TheVariants.{Nothing, File as of_file, Target, Linked}
use Rattle.hm_key.specs.Counts.{Content, Counts, Subject, inode_subject, subject_of}
use Rattle.hm_records.specs.Inode.{inode_bytes}
use Rattle.hm_records.specs.View.{IsHeld, IsObject, IsTriple, IsView, kind_number}
use Rattle.hm_records.specs.declared.inode.Inode.{Inode}
use Rattle.hm_records.proofs.InodeLemmas.{inode_back, inode_in}
use Rattle.hm_image.specs.Fresh.{root_inode}
use Rattle.hm_image.proofs.FreshPayloadLemmas.{full_elements, full_inode, full_record, root_inode_is}
use Rattle.hm_image.proofs.ListLemmas.{one_of_two, only_one}

-- both elements are of id 1
pub made_at_one : (e : FullElement) → Contains full_elements e → (e.key.create ≡ 1) × (e.delete ≡ 0)
made_at_one e there =
    elim (one_of_two full_inode full_record e there) [
      | inl is ↦ (sym (ap (λ (x : FullElement). x.key.create) is), sym (ap (λ (x : FullElement). x.delete) is))
      | inr is ↦ (sym (ap (λ (x : FullElement). x.key.create) is), sym (ap (λ (x : FullElement). x.delete) is))
    ]

-- of one subject there is one
pub is_inode : (e : FullElement) (s : Subject) → Contains full_elements e → subject_of e.key ≡ s → s.rec_type ≢ 21 → full_inode ≡ e
is_inode e s there about other =
    elim (one_of_two full_inode full_record e there) [
      | inl is ↦ is
      | inr is ↦
          let type = ap (λ (x : FullElement). x.key.rec_type) is ∙ ap (λ (x : Subject). x.rec_type) about in
          absurd (other (sym type))
    ]

pub is_record : (e : FullElement) (s : Subject) → Contains full_elements e → subject_of e.key ≡ s → s.rec_type ≢ 1 → full_record ≡ e
is_record e s there about other =
    elim (one_of_two full_inode full_record e there) [
      | inl is ↦
          let type = ap (λ (x : FullElement). x.key.rec_type) is ∙ ap (λ (x : Subject). x.rec_type) about in
          absurd (other (sym type))
      | inr is ↦ is
    ]

-- ---- the root directory

root_counts : Counts full_elements 1 (inode_subject 0 1) (inode_bytes root_inode)
root_counts = record {
  element = full_inode;
  there = (0, omega arith, refl);
  about = refl;
  holds = refl;
  seen = (omega arith, inl refl);
  newest = λ other there about made. omega (arith, made_at_one other there);
}

root_object : IsObject (Counts full_elements 1) 0 (directory_of root_number)
root_object = record {
  inode = root_inode;
  ranges = root_inode_is;
  there = root_counts;
  kind = refl;
  links = refl;
  holds = refl;
}

kind_is : (k : Kind) → 1 ≡ kind_number k → Directory ≡ k
kind_is Directory is = refl
kind_is File is = absurd (omega arith)
kind_is Softlink is = absurd (omega arith)
kind_is PfsLink is = absurd (omega arith)

held_is : (counts : Content) (pfs obj : ℕ) (inode : Inode) (held : Held) → inode.kind ≡ 1 → IsHeld counts pfs obj inode held → Nothing ≡ held
held_is counts pfs obj inode Nothing is holds = refl
held_is counts pfs obj inode (of_file bytes) is holds = absurd (omega (arith, holds.0))
held_is counts pfs obj inode (Target text) is holds = absurd (omega (arith, holds.0))
held_is counts pfs obj inode (Linked other) is holds = absurd (omega (arith, holds.0))

same_object : (a b : Object) → a.number.0 ≡ b.number.0 → a.kind ≡ b.kind → a.content ≡ b.content → a.links ≡ b.links → a ≡ b
same_object a b number kind content links =
    let make : ℕ → Kind → Held → ℕ → Object = λ n k c l. record { number = record { 0 = n }; kind = k; content = c; links = l } in
    let all : make a.number.0 a.kind a.content a.links ≡ make b.number.0 b.kind b.content b.links = rw (number, kind, content, links) refl in
    all

-- no other object counts
object_is : (o : Object) → IsObject (Counts full_elements 1) 0 o → directory_of root_number ≡ o
object_is o is =
    let subject = inode_subject 0 o.number.0 in
    let element = is_inode is.there.element subject is.there.there is.there.about (λ same. omega arith) in
    let number : 1 ≡ o.number.0 = ap (λ (e : FullElement). e.key.obj) element ∙ ap (λ (s : Subject). s.obj) is.there.about in
    let bytes : inode_bytes root_inode ≡ inode_bytes is.inode = ap (λ (e : FullElement). e.bytes) element ∙ is.there.holds in
    let inode : root_inode ≡ is.inode = sym (inode_back root_inode root_inode_is) ∙ ap inode_in bytes ∙ inode_back is.inode is.ranges in
    let kind : 1 ≡ is.inode.kind = ap (λ (i : Inode). i.kind) inode in
    let links : 1 ≡ is.inode.links = ap (λ (i : Inode). i.links) inode in
    same_object (directory_of root_number) o number (kind_is o.kind (kind ∙ is.kind))
    (held_is (Counts full_elements 1) 0 o.number.0 is.inode o.content (sym kind) is.holds)
    (links ∙ sym is.links)

-- and no triple
no_triple : (t : Triple) → IsTriple (Counts full_elements 1) 0 t → ⊥
no_triple t is =
    elim (one_of_two full_inode full_record is.there.there.element is.there.there.there) [
      | inl same ↦
          let type = ap (λ (x : FullElement). x.key.rec_type) same ∙ ap (λ (x : Subject). x.rec_type) is.there.there.about in
          omega arith
      | inr same ↦
          let type = ap (λ (x : FullElement). x.key.rec_type) same ∙ ap (λ (x : Subject). x.rec_type) is.there.there.about in
          omega arith
    ]

-- so the view as of id 1 is the tree with the root directory alone
pub fresh_view : IsView (Counts full_elements 1) 0 root_tree
fresh_view = record {
  objects_rise = (All-nil _, tt);
  objects = λ o. (
    (λ there. subst (IsObject (Counts full_elements 1) 0) (only_one (directory_of root_number) o there) root_object),
    (λ is. (0, omega arith, object_is o is)),
  );
  triples_rise = tt;
  triples = λ t. ((λ there. absurd (omega (arith, there.1))), (λ is. absurd (no_triple t is)));
}
