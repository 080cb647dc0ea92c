-- The node above a child that lost places: it was joined with a neighbour, or has enough of them and is written.
use Rattle.std.proofs.Common.{◌≡◌, ℕ, suc, ◌+◌, ◌≤◌, List, [], ◌∷◌, ◌++◌, length, ap, ◌∙◌, arith, max, length-append}
use Rattle.std.specs.List.{AllByRecursion}
use Rattle.std.proofs.lemmas.List.Elements.{All-from_recursion, recursion_from_All}
use Rattle.hm_types.specs.Elements.{Key}
use Rattle.hm_fields.specs.Pages.{PageMap}
use Rattle.hm_key.specs.Key.{key_of}
use Rattle.hm_key.specs.declared.base.Base.{Base}
use Rattle.hm_key.specs.declared.element.Element.{Element}
use Rattle.hm_key.proofs.KeyLemmas.{key_from_before}
use Rattle.hm_node.specs.Inner.{IsChild}
use Rattle.hm_node.specs.Node.{count_of}
use Rattle.hm_node.specs.declared.inner.Child.{Child}
use Rattle.hm_node.specs.declared.node.Node.{Node}
use Rattle.hm_node.specs.declared.node.Node.TheVariants.{Inner as inner_node}
use Rattle.hm_search.specs.Place.{IsInside, least_count, mirror_of}
use Rattle.hm_search.specs.Search.{holder_place}
use Rattle.hm_search.specs.Tree.{node_at, next_left, child_place, IsTree}
use Rattle.hm_search.specs.declared.subtree.Subtree.{Subtree}
use Rattle.hm_search.proofs.ChildLemmas.{begins_before, later_sorted}
use Rattle.hm_search.proofs.ListLemmas.{each_so, each_append}
use Rattle.hm_search.proofs.OrderLemmas.{from_trans}
use Rattle.hm_btree.specs.Marking.{Marking}
use Rattle.hm_btree.specs.Edits.{inner_of, with_mirror}
use Rattle.hm_btree.specs.Space.{HasWritten}
use Rattle.hm_btree.specs.Below.{AreStored, AreRising, IsLocal, Changed, ChangedUnder}
use Rattle.hm_btree.specs.Shrink.{loose}
use Rattle.hm_btree.proofs.EditLemmas.{changed_parent}
use Rattle.hm_btree.proofs.NodeLemmas.{changed_within, changed_above}
use Rattle.hm_btree.proofs.OrderLemmas.{before_before, each_front, each_back, rising_front, rising_back}
use Rattle.hm_btree.proofs.PairLemmas.{as_child}
use Rattle.hm_btree.proofs.RemoveLemmas.{loose_tree}
use Rattle.hm_btree.proofs.UnderLemmas.{stored_front, stored_back}

-- two neighbours among the children of a node
module _ (place : Subtree) (height level mirror : ℕ) (right : Base) (old : PageMap) (pre : List Child) (a b : Child) (post : List Child) where
  abbrev pub pair_whole : Node
  pair_whole = inner_node (inner_of level mirror (pre ++ a ∷ b ∷ post) right)

  module _ (tree : IsTree old (suc height) place pair_whole) where
    pub pair_children : AllByRecursion IsChild (pre ++ a ∷ b ∷ post)
    pair_children = recursion_from_All IsChild (pre ++ a ∷ b ∷ post) tree.sound.fields.children

    pub lower_child : IsChild a
    lower_child = (each_back IsChild pre (a ∷ b ∷ post) pair_children).0

    pub upper_child : IsChild b
    upper_child = (each_back IsChild pre (a ∷ b ∷ post) pair_children).1.0

    pub pair_rising : AreRising (next_left right post) (a ∷ b ∷ [])
    pair_rising = rising_front right (a ∷ b ∷ []) post (rising_back right pre (a ∷ b ∷ post) tree.sound.order)

    pub pair_stored : AreStored old height level (next_left right post) (a ∷ b ∷ [])
    pair_stored = stored_front old height level right (a ∷ b ∷ []) post (stored_back old height level right pre (a ∷ b ∷ post) tree.below)

    pub pair_level : level ≡ suc (suc height)
    pair_level = tree.level

    -- a key inside one of them is inside both
    pub lower_inside : (key : Key) → IsInside a.left b.left key → IsInside a.left (next_left right post) key
    lower_inside key inside = record {
      from = inside.from;
      before = before_before key (key_of b.left) (key_of (next_left right post)) inside.before
          (begins_before (next_left right post) b [] (later_sorted (next_left right post) a (b ∷ []) pair_rising));
    }

    pub upper_inside : (key : Key) → IsInside b.left (next_left right post) key → IsInside a.left (next_left right post) key
    upper_inside key inside = record {
      from = from_trans (key_of a.left) (key_of b.left) key (key_from_before (key_of a.left) (key_of b.left)
          (begins_before (next_left right post) a (b ∷ []) pair_rising)) inside.from;
      before = inside.before;
    }

    -- they became one or two children
    pub rejoined_parent : (f : List Element → List Element) (key : Key) (marking : Marking) (more : ℕ) (new : PageMap)
        (after : List Child) → IsLocal f key → IsInside a.left (next_left right post) key
        → ChangedUnder f key marking level (next_left right post) height old new (a ∷ b ∷ []) after → 1 ≤ length after
        → length after ≤ 2 → AllByRecursion (λ d. d.mirror ≤ more) after → mirror ≤ more
        → Changed f key marking (loose place) (suc height) old new pair_whole (inner_node (inner_of level more (pre ++ (after ++ post)) right))
    rejoined_parent f key marking more new [] local inside change some few mirrors up = absurd (omega arith)
    rejoined_parent f key marking more new (c ∷ cs) local inside change some few mirrors up =
        let all = changed_within f key marking level right height old new local a c (b ∷ []) cs post pre pair_children
        tree.sound.order tree.below inside.from inside.before change in
        let was : length (pre ++ a ∷ b ∷ post) ≡ length pre + suc (suc (length post)) = length-append pre (a ∷ b ∷ post) in
        let now : length (pre ++ c ∷ (cs ++ post)) ≡ length pre + suc (length cs + length post) = length-append pre
        (c ∷ (cs ++ post)) ∙ ap (λ (n : ℕ). length pre + suc n) (length-append cs post) in
        changed_above f key marking (loose place) height old new level mirror more right (pre ++ a ∷ b ∷ post)
        (pre ++ c ∷ (cs ++ post)) (loose_tree old (suc height) place pair_whole tree) all
        (All-from_recursion (λ d. d.mirror ≤ more) (pre ++ c ∷ (cs ++ post)) each_mirror) (omega (arith, now))
        (omega (arith, was, now, few, tree.sound.count.1)) tt where
          raised : (ds : List Child) → AllByRecursion (λ d. d.mirror ≤ mirror) ds → AllByRecursion (λ d. d.mirror ≤ more) ds
          raised ds each = each_so (λ d. d.mirror ≤ mirror) (λ d. d.mirror ≤ more) ds (λ d le. omega (arith, le, up)) each

          each_mirror : AllByRecursion (λ d. d.mirror ≤ more) (pre ++ c ∷ (cs ++ post))
          each_mirror =
              let each = recursion_from_All (λ d. d.mirror ≤ mirror) (pre ++ a ∷ b ∷ post) tree.sound.mirror in
              each_append (λ d. d.mirror ≤ more) pre (c ∷ (cs ++ post)) (raised pre (each_front (λ d. d.mirror ≤ mirror) pre (a ∷ b ∷ post) each))
              (each_append (λ d. d.mirror ≤ more) (c ∷ cs) post mirrors (raised post (each_back (λ d. d.mirror ≤ mirror) pre (a ∷ b ∷ post) each).1.1))

-- a changed node that has places enough to stand below its parent
pub enough_places : (f : List Element → List Element) (key : Key) (marking : Marking) (level height : ℕ) (next : Base)
    (old mid : PageMap) (c : Child) (before after : Node) → level ≡ suc (suc height) → least_count after ≤ count_of after
    → Changed f key marking (loose (child_place level next c)) height old mid before after → Changed f key marking
    (child_place level next c) height old mid before after
enough_places f key marking level height next old mid c before after high many change = record {
  tree = as_child mid height level c.child (loose (child_place level next c)) after change.tree many high;
  elements = change.elements;
  mark = change.mark;
  pages = change.pages;
}

-- the child that holds a key lost places, has enough of them and was written
module _ (key : Key) (place : Subtree) (height level mirror : ℕ) (right : Base) (old : PageMap) (pre : List Child) (c : Child) (post : List Child) where
  abbrev pub one_whole : Node
  one_whole = inner_node (inner_of level mirror (pre ++ c ∷ post) right)

  pub as_written : IsTree old (suc height) place one_whole → length pre ≡ holder_place key (pre ++ c ∷ post) → IsInside place.left place.right key
      → (f : List Element → List Element) (marking : Marking) (mid new : PageMap) (after : Node) → IsLocal f key
      → Changed f key marking (loose (child_place level (next_left right post) c)) height old mid (node_at old c.child) after
      → least_count after ≤ count_of after → HasWritten c.child after mid new
      → Changed f key marking (loose place) (suc height) old new one_whole
      (inner_node (inner_of level (max mirror (mirror_of after)) (pre ++ with_mirror (mirror_of after) c ∷ post) right))
  as_written tree here inside f marking mid new after local change many wrote =
      changed_parent key (loose place) height level mirror right old pre c post (loose_tree old (suc height) place one_whole tree)
      here inside f marking mid new after local
      (enough_places f key marking level height (next_left right post) old mid c (node_at old c.child) after tree.level many change) wrote
