-- Pages that break no rule: what stands in their places is ready to be read.
use Rattle.std.proofs.Common.{◌≡◌, ◌≢◌, ℕ, false, List, length, refl, sym, ap, subst, ◌∙◌, ne_eqb}
use Rattle.std.specs.Prelude.{Option, Some, None, IfNone, nat_eq}
use Rattle.hm_types.specs.declared.limits.TheConstants.{PAGE_BYTES}
use Rattle.hm_node.specs.Damage.{Keeps}
use Rattle.hm_node.specs.Edits.{IsLeafPage, IsInnerPage}
use Rattle.hm_node.specs.Head.{head_in}
use Rattle.hm_node.specs.Inner.{inner_in}
use Rattle.hm_node.specs.Leaf.{leaf_in}
use Rattle.hm_node.specs.Node.{node_in, SaysLevel, IsNode, Spells}
use Rattle.hm_node.specs.Shape.{HoldsNode}
use Rattle.hm_node.specs.declared.head.Head.{Head}
use Rattle.hm_node.specs.declared.head.TheConstants.{LEAF}
use Rattle.hm_node.specs.declared.node.Node.TheVariants.{Leaf as leaf_node, Inner as inner_node}
use Rattle.hm_node.specs.declared.rule.Rule.{Rule}
use Rattle.hm_node.proofs.NodeLemmas.{kept_node, kept_spells}

-- where no rule is found broken, the page spells the node in it
pub none_broken : (page : List ℕ) (broken : Option Rule) → length page ≡ PAGE_BYTES → IfNone broken ((rule : Rule) → Keeps page rule)
    → IfNone broken (IsNode (node_in page) × Spells page (node_in page))
none_broken page None sized kept = (kept_node page kept, kept_spells page sized kept)
none_broken page (Some rule) sized kept = tt

-- the node in a page, by the kind in its head
pub leaf_there : (page : List ℕ) (head : Head) → head ≡ head_in page → head.kind ≡ LEAF → node_in page ≡ leaf_node (leaf_in page)
leaf_there page head is kind = let here : (head_in page).kind ≡ LEAF = ap (λ (h : Head). h.kind) (sym is) ∙ kind in rw here refl

pub inner_there : (page : List ℕ) (head : Head) → head ≡ head_in page → head.kind ≢ LEAF → node_in page ≡ inner_node (inner_in page)
inner_there page head is kind =
    let other : (head_in page).kind ≢ LEAF = λ same. kind (ap (λ (h : Head). h.kind) is ∙ same) in
    let test : nat_eq (head_in page).kind LEAF ≡ false = ne_eqb (head_in page).kind LEAF other in
    rw test refl

-- a page that holds a node holds a leaf or an inner node, as its head says
pub leaf_page : (page : List ℕ) (head : Head) → head ≡ head_in page → head.kind ≡ LEAF → HoldsNode page → IsLeafPage page
leaf_page page head is kind holds = record { holds = holds; kind = ap (λ (h : Head). h.kind) (sym is) ∙ kind }

pub inner_page : (page : List ℕ) (head : Head) → head ≡ head_in page → head.kind ≢ LEAF → HoldsNode page → IsInnerPage page
inner_page page head is kind holds =
    record { holds = holds; kind = (subst (SaysLevel page) (inner_there page head is kind) holds.spelled.says).kind }

-- the node in a page that holds an inner node
pub inner_here : (page : List ℕ) → IsInnerPage page → node_in page ≡ inner_node (inner_in page)
inner_here page inner = rw inner.kind refl
