-- Nodes that were built, and written to their pages.
use Rattle.std.proofs.Common.{◌≡◌, Bool, true, false, nat_eq, ℕ, ◌≤◌, List, length, Some, None, sym, subst}
use Rattle.std.specs.Prelude.{Option, IfSome, insert, if◌then◌else◌}
use Rattle.std.specs.List.{AllByRecursion}
use Rattle.hm_key.specs.declared.base.Base.{Base}
use Rattle.hm_key.specs.declared.element.Element.{Element}
use Rattle.hm_node.specs.Edits.{IsLeafPage, IsInnerPage}
use Rattle.hm_node.specs.Head.{head_in}
use Rattle.hm_node.specs.Inner.{child_in, inner_in, IsChild}
use Rattle.hm_node.specs.Leaf.{element_in, leaf_in, IsPlaced}
use Rattle.hm_node.specs.Node.{count_of, node_in, Spells}
use Rattle.hm_node.specs.Places.{place}
use Rattle.hm_node.specs.Shape.{HoldsNode}
use Rattle.hm_node.specs.declared.head.TheConstants.{LEAF}
use Rattle.hm_node.specs.declared.inner.Child.{Child}
use Rattle.hm_node.specs.declared.inner.Inner.{Inner}
use Rattle.hm_node.specs.declared.leaf.Leaf.{Leaf}
use Rattle.hm_node.specs.declared.node.Node.{Node}
use Rattle.hm_node.specs.declared.node.Node.TheVariants.{Leaf as leaf_node, Inner as inner_node}
use Rattle.hm_node.proofs.LawLemmas.{holds_shape}
use Rattle.hm_node.proofs.PlaceLemmas.{first_length}
use Rattle.hm_node.proofs.SameLemmas.{leaf_there, inner_there}
use Rattle.hm_btree.specs.Calls.Insert.{IsUpperPage, SplitsInner, SplitsLeaf}
use Rattle.hm_btree.specs.Grow.{LeafBecomes, InnerBecomes, upper_of}
use Rattle.hm_btree.specs.Shape.{IsShaped, IsShapedUpper}
use Rattle.hm_btree.proofs.ShapeLemmas.{leaf_becomes, beside_shaped}

-- the shape of the node in a page that holds it
pub page_shaped : (page : List ℕ) → HoldsNode page → IsShaped (node_in page)
page_shaped page holds = record { level = holds.level; count = holds.count; fields = holds.fields }

-- a page into which a node of that shape was written
pub page_written : (page : List ℕ) (node : Node) → Spells page node → IsShaped node → HoldsNode page
page_written page node spells shape = holds_shape page node shape.level shape.count shape.fields spells

pub leaf_written : (page : List ℕ) (leaf : Leaf) → Spells page (leaf_node leaf) → IsShaped (leaf_node leaf) → IsLeafPage page
leaf_written page leaf spells shape = record { holds = page_written page (leaf_node leaf) spells shape; kind = spells.says.kind }

pub inner_written : (page : List ℕ) (inner : Inner) → Spells page (inner_node inner) → IsShaped (inner_node inner) → IsInnerPage page
inner_written page inner spells shape = record { holds = page_written page (inner_node inner) spells shape; kind = spells.says.kind }

-- the page of an upper part
upper_written : (page : List ℕ) (left : Option Base) → IfSome left (λ _. Spells page (node_in page)) → IfSome (upper_of left page) IsShapedUpper
    → IfSome left (IsUpperPage page)
upper_written page None spells shape = tt
upper_written page (Some b) spells shape = record { left = shape.left; holds = page_written page (node_in page) spells shape.node }

-- a leaf that was built, and its upper part
pub leaf_split : (mirror : ℕ) (es : List Element) (after upper : List ℕ) (leaf : Leaf) (left : Option Base) → Spells after (leaf_node leaf)
    → AllByRecursion IsPlaced es → LeafBecomes mirror es leaf (upper_of left upper) → IfSome left (λ _. Spells upper (node_in upper))
    → SplitsLeaf mirror es after upper left
leaf_split mirror es after upper leaf left spells each becomes above =
    let shape = leaf_becomes mirror es leaf (upper_of left upper) each becomes in
    record {
      held = leaf_written after leaf spells shape.shape;
      becomes = subst (λ (l : Leaf). LeafBecomes mirror es l (upper_of left upper)) (sym (leaf_there after leaf spells)) becomes;
      above = upper_written upper left above shape.above;
    }

-- an inner node that was built, and its upper part
pub inner_split : (mirror at : ℕ) (child : Child) (inner leaf : Inner) (after upper : List ℕ) (left : Option Base) → Spells after (inner_node leaf)
    → IsShaped (inner_node inner) → IsChild child → at ≤ length inner.places.items
    → InnerBecomes inner.level mirror (insert inner.places.items at child) inner.right leaf (upper_of left upper)
    → IfSome left (λ _. Spells upper (node_in upper))
    → SplitsInner inner.level mirror (insert inner.places.items at child) inner.right after upper left
inner_split mirror at child inner new after upper left spells was is low becomes above =
    let shape = beside_shaped mirror at child inner new (upper_of left upper) was is low becomes in
    record {
      held = inner_written after new spells shape.shape;
      becomes = subst (λ (n : Inner). InnerBecomes inner.level mirror (insert inner.places.items at child) inner.right n (upper_of left upper))
          (sym (inner_there after new spells)) becomes;
      above = upper_written upper left above shape.above;
    }

-- a page that spells a node spells the one in it
pub spells_itself : (page : List ℕ) (node : Node) → Spells page node → Spells page (node_in page)
spells_itself page node spells = subst (λ (n : Node). Spells page n) (sym spells.value) spells

-- how many places the node in a page has
pub count_in : (page : List ℕ) → count_of (node_in page) ≡ (head_in page).count
count_in page = by_test (nat_eq (head_in page).kind LEAF) where
  by_test : (b : Bool) → count_of (if b then leaf_node (leaf_in page) else inner_node (inner_in page)) ≡ (head_in page).count
  by_test true = first_length (λ i. element_in page (place i)) (head_in page).count
  by_test false = first_length (λ i. child_in page (place i)) (head_in page).count
