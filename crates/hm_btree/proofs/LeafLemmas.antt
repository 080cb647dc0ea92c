-- Leaves whose elements changed.
use Rattle.std.proofs.Common.{◌≡◌, true≢false, ℕ, zero, suc, ◌≤◌, List, length, refl, sym, ap, subst, ◌∙◌, arith, max, length-set, Some, None}
use Rattle.std.specs.Prelude.{Option, IsSome, slice_set, slice_index_or}
use Rattle.std.specs.List.{AllByRecursion}
use Rattle.std.proofs.lemmas.List.Elements.{All-from_recursion, recursion_from_All, All-weaker}
use Rattle.hm_types.specs.Elements.{Key}
use Rattle.hm_types.specs.Offset.{IsOffset}
use Rattle.hm_fields.specs.Pages.{PageMap}
use Rattle.hm_key.specs.Element.{IsElement}
use Rattle.hm_key.specs.Elements.{element_key, element_at, IsContent}
use Rattle.hm_key.specs.Places.{leading, IsPlace}
use Rattle.hm_key.specs.declared.base.Base.{Base}
use Rattle.hm_key.specs.declared.element.Element.{Element}
use Rattle.hm_key.proofs.ElementLemmas.{each_changed, content_closed, content_moved}
use Rattle.hm_key.proofs.PlaceLemmas.{changed-place}
use Rattle.hm_node.specs.Leaf.{IsPlaced, IsUpTo}
use Rattle.hm_node.specs.declared.leaf.Leaf.{Leaf}
use Rattle.hm_node.specs.declared.node.Node.TheVariants.{Leaf as leaf_node}
use Rattle.hm_search.specs.Place.{IsInside, FitsCount}
use Rattle.hm_search.specs.Tree.{reaches, HasChildren, IsTree}
use Rattle.hm_search.specs.declared.subtree.Parent.{Parent}
use Rattle.hm_search.specs.declared.subtree.Subtree.{Subtree}
use Rattle.hm_search.proofs.ListLemmas.{each_so, each_both}
use Rattle.hm_btree.specs.Marking.{Marking, MarksWithin}
use Rattle.hm_btree.specs.Edits.{ElementChange}
use Rattle.hm_btree.specs.Below.{Changed, placed}
use Rattle.hm_btree.specs.Change.{change_of, id_of, marking_of, MayChange, with_change}
use Rattle.hm_btree.specs.declared.change.Change.{Change}
use Rattle.hm_btree.specs.declared.change.Change.TheVariants.{Close, Move}
use Rattle.hm_btree.proofs.LocalLemmas.{leading_place}
use Rattle.hm_btree.proofs.MarkLemmas.{writes_leaf}
use Rattle.hm_btree.proofs.NodeLemmas.{placed_level, placed_count, placed_mirror}
use Rattle.hm_btree.proofs.PutLemmas.{replaces_none}

-- no page is below a leaf
pub below_leaf : (map : PageMap) (height : ℕ) (before after : Leaf) → HasChildren map height (leaf_node before) → HasChildren map height (leaf_node after)
below_leaf map zero before after below = tt
below_leaf map (suc height) before after below = below

-- a leaf with other elements, in the place of one that is sound or in a part of it
module _ (place : Subtree) (height : ℕ) (map : PageMap) (before after : Leaf) (left right : Base) where
  pub leaf_sound : IsTree map height place (leaf_node before) → IsContent after.places.items → AllByRecursion (λ e. IsOffset e.payload) after.places.items
      → AllByRecursion (λ e. IsInside left right (element_key e)) after.places.items → AllByRecursion (IsUpTo after.mirror) after.places.items
      → length after.places.items ≤ 63 → FitsCount place.parent (leaf_node after) → IsTree map height
      (placed (leaf_node after) (record place { left = left; right = right })) (leaf_node after)
  leaf_sound tree content offsets inside upto few count = record {
    sound = record {
      level = tt;
      count = few;
      order = content.rising;
      fields = All-from_recursion IsPlaced after.places.items
          (each_so (λ e. IsElement e × IsOffset e.payload) IsPlaced after.places.items (λ e both. record { element = both.0; payload = both.1 })
          (each_both IsElement (λ e. IsOffset e.payload) after.places.items (recursion_from_All IsElement after.places.items content.each) offsets));
      mirror = All-from_recursion (IsUpTo after.mirror) after.places.items upto;
    };
    level = tree.level;
    fits = record {
      level = placed_level (leaf_node after) place.parent (leaf_node before) refl tree.fits.level;
      count = placed_count (leaf_node after) place.parent count;
      bounds = All-from_recursion (λ e. IsInside left right (element_key e)) after.places.items inside;
      mirror = placed_mirror (leaf_node after) place.parent;
    };
    below = below_leaf map height before after tree.below;
  }

-- a leaf whose elements changed, where they may stand there
module _ (f : List Element → List Element) (key : Key) (marking : Marking) (place : Subtree) (height : ℕ) (map : PageMap) (before after : Leaf) where
  pub changed_leaf : IsTree map height place (leaf_node before) → after.places.items ≡ f before.places.items
      → IsContent after.places.items → AllByRecursion (λ e. IsOffset e.payload) after.places.items
      → AllByRecursion (λ e. IsInside place.left place.right (element_key e)) after.places.items → AllByRecursion (IsUpTo after.mirror) after.places.items
      → length after.places.items ≤ 63 → FitsCount place.parent (leaf_node after) → MarksWithin marking key place.left place.right
      (λ _. before.mirror) (λ _. after.mirror) → Changed f key marking place height map map (leaf_node before) (leaf_node after)
  changed_leaf tree items content offsets inside upto few count marks = record {
    tree = leaf_sound place height map before after place.left place.right tree content offsets inside upto few count;
    elements = items;
    mark = marks;
    pages = replaces_none (reaches map height (leaf_node before)) map (λ x is. absurd (true≢false (sym is)));
  }

-- what a leaf of a sound tree holds
pub leaf_content : (map : PageMap) (height : ℕ) (place : Subtree) (leaf : Leaf) → IsTree map height place (leaf_node leaf) → IsContent leaf.places.items
leaf_content map height place leaf tree = record {
  rising = tree.sound.order;
  each = All-weaker IsPlaced IsElement (λ e is. is.element) leaf.places.items tree.sound.fields;
}

pub leaf_offsets : (map : PageMap) (height : ℕ) (place : Subtree) (leaf : Leaf) → IsTree map height place (leaf_node leaf)
    → AllByRecursion (λ e. IsOffset e.payload) leaf.places.items
leaf_offsets map height place leaf tree = each_so IsPlaced (λ e. IsOffset e.payload) leaf.places.items (λ e is. is.payload)
    (recursion_from_All IsPlaced leaf.places.items tree.sound.fields)

-- the element at a key changes where it stands
module _ (place : Subtree) (height : ℕ) (map : PageMap) (key : Key) (change : Change) (before after : Leaf) where
  content_after : MayChange key change → IsContent before.places.items → IsContent (with_change key change before.places.items)
  content_after may content = by_change change may where
    by_change : (c : Change) → MayChange key c → IsContent (with_change key c before.places.items)
    by_change (Close delete) may = content_closed key delete before.places.items may content
    by_change (Move to) may = content_moved key to before.places.items content

  offset_after : (c : Change) (e : Element) → MayChange key c → IsOffset e.payload → IsOffset (change_of c e).payload
  offset_after (Close delete) e may is = is
  offset_after (Move to) e may is = may

  upto_after : (c : Change) (e : Element) (mirror : ℕ) → IsUpTo mirror e → IsUpTo (max mirror (id_of c)) (change_of c e)
  upto_after (Close delete) e mirror up = record { create = omega (arith, up.create); delete = omega arith }
  upto_after (Move to) e mirror up = record { create = omega (arith, up.create); delete = omega (arith, up.delete) }

  inside_after : (c : Change) (e : Element) → IsInside place.left place.right (element_key e) → IsInside place.left place.right (element_key (change_of c e))
  inside_after (Close delete) e inside = inside
  inside_after (Move to) e inside = inside

  length_after : (d : Element) (i : ℕ) (es fs : List Element) → fs ≡ slice_set es i (change_of change (slice_index_or es i d)) → length fs ≡ length es
  length_after d i es fs is = ap length is ∙ length-set es i (change_of change (slice_index_or es i d))

  pub element_changed : (d : Element) (i : ℕ) → IsTree map height place (leaf_node before) → MayChange key change
      → IsSome (element_at key before.places.items) → i ≡ leading key before.places.items
      → ElementChange (change_of change) before.places.items i after.places.items → after.mirror ≡ max before.mirror (id_of change)
      → Changed (with_change key change) key (marking_of change) place height map map (leaf_node before) (leaf_node after)
  element_changed d i tree may there at changes mirror =
      let is : IsPlace key before.places.items i = subst (λ (n : ℕ). IsPlace key before.places.items n) (sym at)
      (leading_place key before.places.items tree.sound.order there) in
      let items : after.places.items ≡ with_change key change before.places.items = changes d
      ∙ sym (changed-place key (change_of change) d before.places.items i is) in
      let long : length after.places.items ≡ length before.places.items = length_after d i before.places.items after.places.items (changes d) in
      changed_leaf (with_change key change) key (marking_of change) place height map before after tree items
      (subst (λ (es : List Element). IsContent es) (sym items) (content_after may (leaf_content map height place before tree)))
      (subst (λ (es : List Element). AllByRecursion (λ e. IsOffset e.payload) es) (sym items)
      (each_changed (λ e. IsOffset e.payload) key (change_of change) before.places.items
      (λ e stands is. offset_after change e may is) (leaf_offsets map height place before tree)))
      (subst (λ (es : List Element). AllByRecursion (λ e. IsInside place.left place.right (element_key e)) es) (sym items)
      (each_changed (λ e. IsInside place.left place.right (element_key e)) key (change_of change) before.places.items
      (λ e stands inside. inside_after change e inside)
      (recursion_from_All (λ e. IsInside place.left place.right (element_key e)) before.places.items tree.fits.bounds)))
      (subst (λ (es : List Element). AllByRecursion (IsUpTo after.mirror) es) (sym items)
      (subst (λ (m : ℕ). AllByRecursion (IsUpTo m) (with_change key change before.places.items)) (sym mirror)
      (ups before.places.items (recursion_from_All (IsUpTo before.mirror) before.places.items tree.sound.mirror))))
      (omega (arith, long, tree.sound.count)) (counts place.parent long tree.fits.count) (marks change mirror) where
        marks : (c : Change) → after.mirror ≡ max before.mirror (id_of c) → MarksWithin (marking_of c) key place.left place.right
            (λ _. before.mirror) (λ _. after.mirror)
        marks (Close delete) is = writes_leaf key delete before.mirror after.mirror is
        marks (Move to) is = λ k. omega (arith, is)

        ups : (es : List Element) → AllByRecursion (IsUpTo before.mirror) es → AllByRecursion
            (IsUpTo (max before.mirror (id_of change))) (with_change key change es)
        ups es up = each_changed (IsUpTo (max before.mirror (id_of change))) key (change_of change) es
            (λ e stands is. again e is) (each_so (IsUpTo before.mirror) (IsUpTo (max before.mirror (id_of change))) es
            (λ e is. record { create = omega (arith, is.create); delete = omega (arith, is.delete) }) up) where
              again : (e : Element) → IsUpTo (max before.mirror (id_of change)) e → IsUpTo (max before.mirror (id_of change)) (change_of change e)
              again e is = let more = upto_after change e (max before.mirror (id_of change)) is in
                  record { create = omega (arith, more.create); delete = omega (arith, more.delete) }

        counts : (p : Option Parent) → length after.places.items ≡ length before.places.items → FitsCount p (leaf_node before) → FitsCount p (leaf_node after)
        counts None long count = tt
        counts (Some q) long count = omega (arith, long, count)
