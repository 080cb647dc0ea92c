-- One node a page, one page a node, and one lowest kind.
use Rattle.std.proofs.Common.{◌≡◌, ℕ, inl, inr, List, sym, subst, ◌∙◌, arith}
use Rattle.std.proofs.lemmas.Bool.{cases_lt}
use Rattle.hm_node.specs.Places.{first}
use Rattle.hm_node.specs.Node.{HasCount, HasFields, HasLevel, IsNode, Spells}
use Rattle.hm_node.specs.Shape.{HoldsNode}
use Rattle.hm_node.specs.Damage.{number_of, IsLowestKind}
use Rattle.hm_node.specs.declared.node.Node.{Node}

pub page_spells_one_node : (page : List ℕ) (a b : Node) → Spells page a → Spells page b → a ≡ b
page_spells_one_node page a b first second = sym first.value ∙ second.value

-- the shape of a sound node
pub holds_shape : (page : List ℕ) (node : Node) → HasLevel node → HasCount node → HasFields node → Spells page node → HoldsNode page
holds_shape page node level count fields spelled = record {
  spelled = subst (Spells page) (sym spelled.value) spelled;
  level = subst HasLevel (sym spelled.value) level;
  count = subst HasCount (sym spelled.value) count;
  fields = subst HasFields (sym spelled.value) fields;
}

pub holds_node : (page : List ℕ) (node : Node) → IsNode node → Spells page node → HoldsNode page
holds_node page node sound spelled = holds_shape page node sound.level sound.count sound.fields spelled

pub one_kind_is_the_lowest : (page : List ℕ) (a b : ℕ) → IsLowestKind page a → IsLowestKind page b → a ≡ b
one_kind_is_the_lowest page a b (r, is, one) (s, is', other) =
    elim (cases_lt (number_of r) (number_of s)) [
      | inl below ↦ absurd (one.broken (other.kept r below))
      | inr from ↦ elim (cases_lt (number_of s) (number_of r)) [
        | inl above ↦ absurd (other.broken (one.kept s above))
        | inr same ↦ omega arith
      ]
    ]
