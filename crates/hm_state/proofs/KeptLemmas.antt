-- A tree in the pages of a map is the tree in each map that has these pages.
use Rattle.std.proofs.Common.{◌≡◌, Bool, true, false, ℕ, List, [], ◌∷◌, ◌++◌, Some, None, ap, ◌∙◌, cond}
use Rattle.std.proofs.Common.{map, IsSome, Option, arith, eq-eqb, eqb-true, inl, inr, is_some, nat_eq, sym}
use Rattle.std.specs.Prelude.{◌==◌}
use Rattle.std.specs.List.{Contains}
use Rattle.std.proofs.lemmas.Bool.{cond-true}
use Rattle.std.proofs.lemmas.List.Elements.{Contains-append_left, Contains-append_right}
use Rattle.hm_types.specs.Offset.{zone_of}
use Rattle.hm_types.specs.References.{Reference}
use Rattle.hm_types.specs.declared.zone.TheConstants.{TREE_ZONE}
use Rattle.hm_fields.specs.Pages.{PageMap}
use Rattle.hm_key.specs.declared.element.Element.{Element}
use Rattle.hm_node.specs.declared.node.Node.{Node}
use Rattle.hm_search.specs.Tree.{IsSoundTree, elements_of, height_of, node_at, reaches, root_place}
use Rattle.hm_search.proofs.ReachLemmas.{either}
use Rattle.hm_records.proofs.MemberLemmas.{has_map}
use Rattle.hm_btree.specs.Tree.{IsTreeSpace}
use Rattle.hm_image.specs.Image.{nodes_below, references_from, to_node, to_payload}
use Rattle.hm_image.proofs.ReferenceLemmas.{reached_is_referred, same_nodes}
use Rattle.hm_load.proofs.TreeLemmas.{Keeps, elements_kept, same_below, same_node, tree_kept}
use Rattle.hm_stored.specs.Basis.{nodes, refers}

-- the nodes of a map are pages of it
pub node_there : (pages : PageMap) (at : ℕ) (bytes : List ℕ) → nodes pages at ≡ Some bytes → pages at ≡ Some bytes
node_there pages at bytes is = by_test (zone_of at == TREE_ZONE) is where
  by_test : (b : Bool) → cond b (pages at) None ≡ Some bytes → pages at ≡ Some bytes
  by_test true there = there
  by_test false there = absurd cc

pub nodes_keep : (old new : PageMap) → Keeps old new → Keeps (nodes old) new
nodes_keep old new keeps at bytes is = keeps at bytes (node_there old at bytes is)

module _ (old new : PageMap) (root : ℕ) (keeps : Keeps old new) (tree : IsSoundTree old root) where
  pub sound_kept : IsSoundTree new root
  sound_kept = tree_kept old new (root_place root) keeps tree

  pub all_kept : elements_of new root ≡ elements_of old root
  all_kept = elements_kept old new (root_place root) keeps tree

  pub references_kept : references_from new root ≡ references_from old root
  references_kept =
      let node = node_at old root in
      let height = height_of node in
      let below : nodes_below new (height_of (node_at new root)) (node_at new root) ≡ nodes_below old height node =
      ap (λ (n : Node). nodes_below new (height_of n) n) (same_node old new (root_place root) keeps tree)
      ∙ same_nodes old new height node (same_below old new (root_place root) keeps tree) in
      let join : List Reference → List Element → List Reference = λ rs es. (to_node root ∷ rs) ++ map to_payload es in
      ap (λ (rs : List Reference). join rs (elements_of new root)) below
      ∙ ap (λ (es : List Element). join (nodes_below old height node) es) all_kept

-- a page of the tree is referred to
node_referred : (pages : PageMap) (root at : ℕ) → IsTreeSpace pages root → IsSome (pages at) → Contains (references_from pages root) (to_node at)
node_referred pages root at tree there =
    let node = node_at pages root in
    let height = height_of node in
    let payloads = map to_payload (elements_of pages root) in
    Contains-append_left (to_node root ∷ nodes_below pages height node) payloads (to_node at)
    (elim (either (nat_eq at root) (reaches pages height node at) (tree.whole at there)) [
      | inl here ↦ (0, omega arith, ap to_node (sym (eqb-true at root here)))
      | inr below ↦ Contains-append_right (to_node root ∷ []) (nodes_below pages height node) (to_node at) (reached_is_referred pages height node at below)
    ])

pub page_referred : (pages : PageMap) (root at : ℕ) → IsTreeSpace (nodes pages) root → zone_of at ≡ TREE_ZONE → IsSome (pages at)
    → Contains (refers pages root) (to_node at)
page_referred pages root at tree zone there =
    let node : nodes pages at ≡ pages at = cond-true (nat_eq (zone_of at) TREE_ZONE) (pages at) None (eq-eqb (zone_of at) TREE_ZONE zone) in
    node_referred (nodes pages) root at tree (ap (λ (o : Option (List ℕ)). is_some o) node ∙ there)

-- a payload is among what its tree refers to
pub payload_named : (pages : PageMap) (root : ℕ) (e : Element) → Contains (elements_of (nodes pages) root) e → Contains (refers pages root) (to_payload e)
payload_named pages root e there =
    let es = elements_of (nodes pages) root in
    let node = node_at (nodes pages) root in
    Contains-append_right (to_node root ∷ nodes_below (nodes pages) (height_of node) node) (map to_payload es) (to_payload e) (has_map to_payload es e there)
