-- Pages that break no rule, and nodes that are spelled.
use Rattle.std.proofs.Common.{◌≡◌, ℕ, List, length, refl, sym, subst}
use Rattle.hm_types.specs.declared.limits.TheConstants.{PAGE_BYTES}
use Rattle.hm_node.specs.Head.{head_in}
use Rattle.hm_node.specs.Leaf.{leaf_in}
use Rattle.hm_node.specs.Inner.{inner_in}
use Rattle.hm_node.specs.Node.{node_in, HasLevel, HasCount, HasOrder, HasFields, HasMirror, SaysLevel, HasZeros, IsNode, Spells}
use Rattle.hm_node.specs.Damage.{Keeps}
use Rattle.hm_node.specs.declared.head.TheConstants.{LEAF, INNER}
use Rattle.hm_node.specs.declared.leaf.Leaf.{Leaf}
use Rattle.hm_node.specs.declared.inner.Inner.{Inner}
use Rattle.hm_node.specs.declared.node.Node.{Node}
use Rattle.hm_node.specs.declared.node.Node.TheVariants.{Leaf as leaf_node, Inner as inner_node}
use Rattle.hm_node.specs.declared.rule.Rule.{Rule}
use Rattle.hm_node.specs.declared.rule.Rule.TheVariants.{Level, Count, Order, Fields, Mirror}

-- the node in a page that breaks no rule
pub kept_node : (page : List ℕ) → ((rule : Rule) → Keeps page rule) → IsNode (node_in page)
kept_node page kept = record { level = (kept Level).1; count = kept Count; order = kept Order; fields = (kept Fields).0; mirror = kept Mirror }

-- a page that breaks no rule spells the node in it
pub kept_spells : (page : List ℕ) → length page ≡ PAGE_BYTES → ((rule : Rule) → Keeps page rule) → Spells page (node_in page)
kept_spells page sized kept = record { sized = sized; says = (kept Level).0; value = refl; zeros = (kept Fields).1 }

-- a page that spells a node that keeps the rules breaks none
pub spells_kept : (page : List ℕ) (node : Node) → IsNode node → Spells page node → (rule : Rule) → Keeps page rule
spells_kept page node is spells = by_rule where
  to : (P : Node → Type 0) → P node → P (node_in page)
  to P = subst P (sym spells.value)

  by_rule : (rule : Rule) → Keeps page rule
  by_rule Level = (to (SaysLevel page) spells.says, to HasLevel is.level)
  by_rule Count = to HasCount is.count
  by_rule Order = to HasOrder is.order
  by_rule Fields = (to HasFields is.fields, to (HasZeros page) spells.zeros)
  by_rule Mirror = to HasMirror is.mirror

-- the node in a page of a kind
pub leaf_is : (page : List ℕ) (leaf : Leaf) → (head_in page).kind ≡ LEAF → leaf ≡ leaf_in page → leaf_node leaf ≡ node_in page
leaf_is page leaf kind is = rw (kind, is) refl

pub inner_is : (page : List ℕ) (inner : Inner) → (head_in page).kind ≡ INNER → inner ≡ inner_in page → inner_node inner ≡ node_in page
inner_is page inner kind is = rw (kind, is) refl

-- what was read from a page that breaks no rule
pub node_read : (page : List ℕ) (node : Node) → length page ≡ PAGE_BYTES → node ≡ node_in page → ((rule : Rule) → Keeps page rule) → IsNode node
    × Spells page node
node_read page node sized is kept = subst (λ (n : Node). IsNode n × Spells page n) (sym is) (kept_node page kept, kept_spells page sized kept)
