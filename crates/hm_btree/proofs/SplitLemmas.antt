-- Nodes that become two.
use Rattle.std.proofs.Common.{◌≡◌, Bool, true, false, true≢false, ◌||◌, ℕ, suc, ◌≤◌, List, [], ◌∷◌, ◌++◌, length, map, refl, sym, ap}
use Rattle.std.proofs.Common.{subst, ◌∙◌, arith, Some, None}
use Rattle.std.specs.Prelude.{Option, if◌then◌else◌}
use Rattle.std.specs.List.{AllByRecursion}
use Rattle.std.specs.List.Sorted.{IsStrictlySortedBy}
use Rattle.std.specs.Ordering.{is_lt}
use Rattle.std.specs.declared.cmp.Ordering.TheVariants.{Less}
use Rattle.std.proofs.lemmas.Grind.{flat_map-append}
use Rattle.std.proofs.lemmas.List.Elements.{All-from_recursion, recursion_from_All}
use Rattle.hm_types.specs.Elements.{Key, key_cmp}
use Rattle.hm_types.specs.Offset.{IsOffset}
use Rattle.hm_fields.specs.Pages.{PageMap}
use Rattle.hm_key.specs.Key.{key_of, IsBefore, IsFrom, IsBoundary}
use Rattle.hm_key.specs.Element.{IsElement}
use Rattle.hm_key.specs.Elements.{element_key, element_cmp, IsContent}
use Rattle.hm_key.specs.declared.base.Base.{Base}
use Rattle.hm_key.specs.declared.element.Element.{Element}
use Rattle.hm_key.proofs.KeyLemmas.{key_from_before, key_not_before}
use Rattle.hm_node.specs.Base.{base_cmp}
use Rattle.hm_node.specs.Inner.{IsChild}
use Rattle.hm_node.specs.Leaf.{IsUpTo}
use Rattle.hm_node.specs.declared.inner.Child.{Child}
use Rattle.hm_node.specs.declared.leaf.Leaf.{Leaf}
use Rattle.hm_node.specs.declared.node.Node.{Node}
use Rattle.hm_node.specs.declared.node.Node.TheVariants.{Leaf as leaf_node, Inner as inner_node}
use Rattle.hm_search.specs.Place.{IsInside, BeginsAt, FitsCount}
use Rattle.hm_search.specs.Tree.{node_at, elements_in, next_left, IsTree}
use Rattle.hm_search.specs.declared.subtree.Parent.{Parent}
use Rattle.hm_search.specs.declared.subtree.Subtree.{Subtree}
use Rattle.hm_search.proofs.ChildLemmas.{begins_before, later_sorted}
use Rattle.hm_search.proofs.ListLemmas.{each_so}
use Rattle.hm_search.proofs.OrderLemmas.{from_then_before}
use Rattle.hm_btree.specs.Marking.{Marking, MarksWithin}
use Rattle.hm_btree.specs.Edits.{leaf_of, inner_of}
use Rattle.hm_btree.specs.Below.{mark_under, has_under, AreRising, ChangedUnder}
use Rattle.hm_btree.specs.Grow.{Split}
use Rattle.hm_btree.proofs.ChangeLemmas.{mark_cut}
use Rattle.hm_btree.proofs.LeafLemmas.{leaf_sound}
use Rattle.hm_btree.proofs.MarkLemmas.{both_sides, same_marks, marks_bounds}
use Rattle.hm_btree.proofs.NodeLemmas.{placed_level, placed_count, placed_mirror}
use Rattle.hm_btree.proofs.OrderLemmas.{begins_left, each_front, each_back, rising_first, rising_back, rising_front, before_before}
use Rattle.hm_btree.proofs.PutLemmas.{replaces_none}
use Rattle.hm_btree.proofs.UnderLemmas.{replaces_same, stored_front, stored_back, under_append}

-- a list in order that is cut in two
module _ where
  sorted_front : (xs ys : List Element) → IsStrictlySortedBy element_cmp (xs ++ ys) → IsStrictlySortedBy element_cmp xs
  unfolding IsStrictlySortedBy
  sorted_front [] ys sorted = tt
  sorted_front (x ∷ xs) ys sorted = (each_front (λ y. element_cmp x y ≡ Less) xs ys sorted.0, sorted_front xs ys sorted.1)

  sorted_back : (xs ys : List Element) → IsStrictlySortedBy element_cmp (xs ++ ys) → IsStrictlySortedBy element_cmp ys
  unfolding IsStrictlySortedBy
  sorted_back [] ys sorted = sorted
  sorted_back (x ∷ xs) ys sorted = sorted_back xs ys sorted.1

  sorted_across : (xs : List Element) (y : Element) (ys : List Element) → IsStrictlySortedBy element_cmp (xs ++ y ∷ ys)
      → AllByRecursion (λ x. IsBefore (element_key x) (element_key y)) xs
  unfolding IsStrictlySortedBy
  sorted_across [] y ys sorted = tt
  sorted_across (x ∷ xs) y ys sorted = ((each_back (λ z. element_cmp x z ≡ Less) xs (y ∷ ys) sorted.0).0, sorted_across xs y ys sorted.1)

  -- the first element stands before all others
  sorted_first : (y : Element) (ys : List Element) → IsStrictlySortedBy element_cmp (y ∷ ys) → AllByRecursion
      (λ z. IsFrom (element_key y) (element_key z)) (y ∷ ys)
  unfolding IsStrictlySortedBy
  sorted_first y ys sorted = (
    key_not_before (element_key y),
    each_so (λ z. element_cmp y z ≡ Less)
        (λ z. IsFrom (element_key y) (element_key z)) ys (λ z less. key_from_before (element_key y) (element_key z) less) sorted.0,
  )

same_choice : (b : Bool) (m : ℕ) → (if b then m else m) ≡ m
same_choice true m = refl
same_choice false m = refl

-- a leaf that became two
module _ (f : List Element → List Element) (key : Key) (marking : Marking) (place : Subtree) (height : ℕ) (map : PageMap)
    (before : Leaf) (mirror : ℕ) (lo : List Element) (e : Element) (hi : List Element) (at : Base) where
  pub split_leaf : IsTree map height place (leaf_node before) → lo ++ e ∷ hi ≡ f before.places.items → IsContent (lo ++ e ∷ hi)
      → AllByRecursion (λ x. IsOffset x.payload) (lo ++ e ∷ hi)
      → AllByRecursion (λ x. IsInside place.left place.right (element_key x)) (lo ++ e ∷ hi) → AllByRecursion (IsUpTo mirror) (lo ++ e ∷ hi)
      → 1 ≤ length lo → length lo ≤ 63 → length (e ∷ hi) ≤ 63 → MarksWithin marking key place.left place.right
      (λ _. before.mirror) (λ _. mirror) → IsBoundary at (element_key e)
      → Split f key marking place height map map (leaf_node before) (leaf_node (leaf_of mirror lo)) (leaf_node (leaf_of mirror (e ∷ hi))) at
  split_leaf tree items content offsets inside upto some few more marks bound =
      let first = each_front (λ x. IsInside place.left place.right (element_key x)) lo (e ∷ hi) inside in
      let second = each_back (λ x. IsInside place.left place.right (element_key x)) lo (e ∷ hi) inside in
      let each = recursion_from_All IsElement (lo ++ e ∷ hi) content.each in
      let across = sorted_across lo e hi content.rising in
      record {
        lower_tree = leaf_sound place height map before (leaf_of mirror lo) place.left at tree
            (record { rising = sorted_front lo (e ∷ hi) content.rising; each = All-from_recursion IsElement lo (each_front IsElement lo (e ∷ hi) each) })
            (each_front (λ x. IsOffset x.payload) lo (e ∷ hi) offsets)
            (lower_inside lo first across) (each_front (IsUpTo mirror) lo (e ∷ hi) upto) few (count place.parent lo some);
        upper_tree = leaf_sound place height map before (leaf_of mirror (e ∷ hi)) at place.right tree
            (record { rising = sorted_back lo (e ∷ hi) content.rising; each = All-from_recursion IsElement (e ∷ hi) (each_back IsElement lo (e ∷ hi) each) })
            (each_back (λ x. IsOffset x.payload) lo (e ∷ hi) offsets)
            (upper_inside (e ∷ hi) second (sorted_first e hi (sorted_back lo (e ∷ hi) content.rising)))
            (each_back (IsUpTo mirror) lo (e ∷ hi) upto) more (count place.parent (e ∷ hi) (omega arith));
        lower_many = some;
        upper_many = omega arith;
        elements = items;
        mark = same_marks (MarksWithin marking key place.left place.right (λ _. before.mirror)) (λ _. mirror)
            (both_sides at (λ _. mirror) (λ _. mirror)) (λ k. same_choice (is_lt (key_cmp k (key_of at))) mirror) marks;
        pages = replaces_none (λ x. false) map (λ x is. absurd (true≢false (sym is)));
        bound = record { key = refl; not_closed = bound.not_closed; no_kind = bound.no_kind; btype = bound.btype };
        from = subst (λ (k : Key). IsBefore (key_of place.left) k) (sym bound.key) (starts lo some first across);
        to = subst (λ (k : Key). IsBefore k (key_of place.right)) (sym bound.key) second.0.before;
      } where
        count : (p : Option Parent) (es : List Element) → 1 ≤ length es → FitsCount p (leaf_node (leaf_of mirror es))
        count None es some = tt
        count (Some q) es some = some

        lower_inside : (es : List Element) → AllByRecursion (λ x. IsInside place.left place.right (element_key x)) es
            → AllByRecursion (λ x. IsBefore (element_key x) (element_key e)) es → AllByRecursion (λ x. IsInside place.left at (element_key x)) es
        lower_inside [] each before = tt
        lower_inside (x ∷ xs) each before = (
          record {
            from = each.0.from;
            before = subst (λ (k : Key). IsBefore (element_key x) k)
                (sym bound.key) before.0;
          },
          lower_inside xs each.1 before.1,
        )

        upper_inside : (es : List Element) → AllByRecursion (λ x. IsInside place.left place.right (element_key x)) es
            → AllByRecursion (λ x. IsFrom (element_key e) (element_key x)) es → AllByRecursion (λ x. IsInside at place.right (element_key x)) es
        upper_inside [] each from = tt
        upper_inside (x ∷ xs) each from = (
          record {
            from = subst (λ (k : Key). IsFrom k (element_key x)) (sym bound.key) from.0;
            before = each.0.before;
          },
          upper_inside xs each.1 from.1,
        )

        starts : (es : List Element) → 1 ≤ length es → AllByRecursion (λ x. IsInside place.left place.right (element_key x)) es
            → AllByRecursion (λ x. IsBefore (element_key x) (element_key e)) es → IsBefore (key_of place.left) (element_key e)
        starts [] some each before = absurd (omega arith)
        starts (x ∷ xs) some each before = from_then_before (key_of place.left) (element_key x) (element_key e) each.0.from before.0

-- an inner node whose children changed and are too many
module _ (f : List Element → List Element) (key : Key) (marking : Marking) (place : Subtree) (height : ℕ) (old new : PageMap)
    (level mirror more : ℕ) (right : Base) (before lo : List Child) (c : Child) (hi : List Child) where
  pub split_above : IsTree old (suc height) place (inner_node (inner_of level mirror before right)) → ChangedUnder f key marking
      level right height old new before (lo ++ c ∷ hi) → AllByRecursion (λ d. d.mirror ≤ more) (lo ++ c ∷ hi)
      → 16 ≤ length lo → length lo ≤ 62 → 16 ≤ length (c ∷ hi) → length (c ∷ hi) ≤ 62
      → Split f key marking place (suc height) old new (inner_node (inner_of level mirror before right))
      (inner_node (inner_of level more lo c.left)) (inner_node (inner_of level more (c ∷ hi) right)) c.left
  split_above tree change mirrors some few many most =
      let els : Child → List Element = λ (x : Child). elements_in new height (node_at new x.child) in
      let lower : Node = inner_node (inner_of level more lo c.left) in
      let upper : Node = inner_node (inner_of level more (c ∷ hi) right) in
      let child = (each_back IsChild lo (c ∷ hi) change.fields).0 in
      record {
        lower_tree = record {
          sound = record {
            level = tree.sound.level;
            count = (omega arith, few);
            order = rising_front right lo (c ∷ hi) change.rising;
            fields = record { children = All-from_recursion IsChild lo (each_front IsChild lo (c ∷ hi) change.fields); right = child.left };
            mirror = All-from_recursion (λ d. d.mirror ≤ more) lo (each_front (λ d. d.mirror ≤ more) lo (c ∷ hi) mirrors);
          };
          level = tree.level;
          fits = record {
            level = placed_level lower place.parent (inner_node (inner_of level mirror before right)) refl tree.fits.level;
            count = placed_count lower place.parent (counts place.parent lo c.left some);
            bounds = (begins before lo (c ∷ hi) (omega arith) change.left tree.fits.bounds.0, refl);
            mirror = placed_mirror lower place.parent;
          };
          below = stored_front new height level right lo (c ∷ hi) change.stored;
        };
        upper_tree = record {
          sound = record {
            level = tree.sound.level;
            count = (omega arith, most);
            order = rising_back right lo (c ∷ hi) change.rising;
            fields = record { children = All-from_recursion IsChild (c ∷ hi) (each_back IsChild lo (c ∷ hi) change.fields); right = tree.sound.fields.right };
            mirror = All-from_recursion (λ d. d.mirror ≤ more) (c ∷ hi) (each_back (λ d. d.mirror ≤ more) lo (c ∷ hi) mirrors);
          };
          level = tree.level;
          fits = record {
            level = placed_level upper place.parent (inner_node (inner_of level mirror before right)) refl tree.fits.level;
            count = placed_count upper place.parent (counts place.parent (c ∷ hi) right many);
            bounds = (refl, tree.fits.bounds.1);
            mirror = placed_mirror upper place.parent;
          };
          below = stored_back new height level right lo (c ∷ hi) change.stored;
        };
        lower_many = some;
        upper_many = many;
        elements = sym (flat_map-append els lo (c ∷ hi)) ∙ change.elements;
        mark = same_marks (MarksWithin marking key place.left place.right (mark_under old height before))
            (mark_under new height (lo ++ c ∷ hi)) (both_sides c.left (mark_under new height lo) (mark_under new height (c ∷ hi)))
            (λ k. sym (mark_cut new height right k lo c hi (omega arith) change.rising))
            (marks_bounds marking key (next_left right before) place.left right place.right (mark_under old height before)
            (mark_under new height (lo ++ c ∷ hi)) (begins_left place.left right before tree.fits.bounds.0) tree.fits.bounds.1 change.mark);
        pages = replaces_same old new (has_under old height before) (has_under new height (lo ++ c ∷ hi))
            (has_under old height before) (λ x. has_under new height lo x || has_under new height (c ∷ hi) x)
            (λ x. refl) (λ x. sym (under_append new height x lo (c ∷ hi))) change.pages;
        bound = child.left;
        from = starts before lo (omega arith) change.left tree.fits.bounds.0 change.rising;
        to = subst (λ (k : Key). IsBefore (key_of c.left) k) tree.fits.bounds.1
            (each_back (λ y. base_cmp c.left y ≡ Less) (map (λ (d : Child). d.left) hi) (right ∷ [])
            (rising_first right c hi (rising_back right lo (c ∷ hi) change.rising))).0;
      } where
        further : (b : Child) (bs : List Child) → AreRising right (b ∷ (bs ++ c ∷ hi)) → IsBefore (key_of b.left) (key_of c.left)
        further b [] rising = begins_before right b (c ∷ hi) rising
        further b (d ∷ ds) rising = before_before (key_of b.left) (key_of d.left) (key_of c.left)
            (begins_before right b ((d ∷ ds) ++ c ∷ hi) rising) (further d ds (later_sorted right b ((d ∷ ds) ++ c ∷ hi) rising))

        starts : (bs cs : List Child) → 1 ≤ length cs → next_left right (cs ++ c ∷ hi) ≡ next_left right bs
            → BeginsAt place.left bs → AreRising right (cs ++ c ∷ hi) → IsBefore (key_of place.left) (key_of c.left)
        starts [] cs some same at rising = absurd at
        starts (b ∷ bs) [] some same at rising = absurd (omega arith)
        starts (b ∷ bs) (d ∷ ds) some same at rising = subst (λ (k : Key). IsBefore k (key_of c.left)) (ap key_of same ∙ at) (further d ds rising)

        counts : (p : Option Parent) (cs : List Child) (r : Base) → 16 ≤ length cs → FitsCount p (inner_node (inner_of level more cs r))
        counts None cs r many = tt
        counts (Some q) cs r many = many

        begins : (bs cs ds : List Child) → 1 ≤ length cs → next_left right (cs ++ ds) ≡ next_left right bs → BeginsAt place.left bs → BeginsAt place.left cs
        begins [] cs ds some same at = absurd at
        begins (b ∷ bs) [] ds some same at = absurd (omega arith)
        begins (b ∷ bs) (d ∷ cs) ds some same at = ap key_of same ∙ at
