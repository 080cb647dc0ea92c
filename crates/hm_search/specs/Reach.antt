-- What a node reaches, by its children; and two maps that agree there.
use Rattle.std.specs.Prelude.{◌≡◌, ℕ, ◌||◌, Bool, nat_eq, true, List}
use Rattle.std.specs.List.{list_any}
use Rattle.hm_fields.specs.Pages.{PageMap}
use Rattle.hm_node.specs.declared.inner.Child.{Child}
use Rattle.hm_node.specs.declared.node.Node.{Node}
use Rattle.hm_search.specs.Tree.{node_at, reaches, Reaches}

-- an offset is that of a child, or of a node below it
abbrev pub is_under : PageMap → ℕ → ℕ → Child → Bool
is_under map height x c = nat_eq c.child x || reaches map height (node_at map c.child) x

-- the new map is the old one at each offset that a node reaches
pub record IsSameBelow (old new : PageMap) (height : ℕ) (node : Node) : Type 0 where
  pub same : (x : ℕ) → Reaches old height node x → new x ≡ old x

-- the same of each offset under some children
pub record IsSameUnder (old new : PageMap) (height : ℕ) (cs : List Child) : Type 0 where
  pub same : (x : ℕ) → list_any (is_under old height x) cs ≡ true → new x ≡ old x
