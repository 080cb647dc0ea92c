-- A child of two neighbours that changed and is not written, beside the other one, which is as it was.
use Rattle.std.proofs.Common.{◌≡◌, ◌≢◌, Bool, true, false, true≢false, ◌||◌, ℕ, suc, List, [], ◌∷◌, ◌++◌, refl, sym, ap, subst, ◌∙◌, arith, nat_eq, append-nil}
use Rattle.std.specs.Prelude.{Option, IsSome, if◌then◌else◌}
use Rattle.std.specs.List.{AllByRecursion}
use Rattle.hm_types.specs.Elements.{Key}
use Rattle.hm_fields.specs.Pages.{PageMap, page_in}
use Rattle.hm_key.specs.Key.{key_of, IsBefore, IsFrom}
use Rattle.hm_key.specs.Elements.{element_key}
use Rattle.hm_key.specs.declared.base.Base.{Base}
use Rattle.hm_key.specs.declared.element.Element.{Element}
use Rattle.hm_key.proofs.KeyLemmas.{key_before_from}
use Rattle.hm_node.specs.Inner.{IsChild}
use Rattle.hm_node.specs.Node.{level_of, node_in}
use Rattle.hm_node.specs.declared.inner.Child.{Child}
use Rattle.hm_node.specs.declared.leaf.Leaf.{Leaf}
use Rattle.hm_node.specs.declared.node.Node.{Node}
use Rattle.hm_node.specs.declared.node.Node.TheVariants.{Leaf as leaf_node, Inner as inner_node}
use Rattle.hm_search.specs.Place.{IsInside}
use Rattle.hm_search.specs.Tree.{node_at, elements_in, mark_in, reaches, starts_after, child_place, IsTree, IsStoredTree}
use Rattle.hm_search.specs.declared.subtree.Subtree.{Subtree}
use Rattle.hm_search.proofs.ChildLemmas.{begins_before, later_sorted}
use Rattle.hm_search.proofs.ContentLemmas.{elements_inside}
use Rattle.hm_search.proofs.FrameLemmas.{IsSameBelow, frame_elements, frame_mark, frame_reaches, frame_stored}
use Rattle.hm_search.proofs.ListLemmas.{each_so}
use Rattle.hm_search.proofs.ReachLemmas.{is_under, or_left, or_right, fails, not_below_itself}
use Rattle.hm_btree.specs.Marking.{Marking, TakesOut, MarksWithin}
use Rattle.hm_key.specs.Marks.{MarksJoin}
use Rattle.hm_btree.specs.Below.{Replaces, elements_under, mark_under, AreStored, AreRising, IsLocal, Changed}
use Rattle.hm_btree.specs.Shrink.{loose, between, below_both, Beside, LeavesHave}
use Rattle.hm_btree.proofs.ChangeLemmas.{mark_cons}
use Rattle.hm_btree.proofs.MarkLemmas.{as_marks, both_sides, marks_low, marks_high, takes_same}
use Rattle.hm_btree.proofs.PutLemmas.{same_test, test_other}
use Rattle.hm_btree.proofs.UnderLemmas.{or_false, or_false_left, or_false_right, reached_there, first_apart, replaces_same, replaces_front, replaces_back}

-- a sound node stands so at a place without a parent, where the boundaries are the same
pub loosened : (map : PageMap) (height : ℕ) (place : Subtree) (node : Node) → IsTree map height place node → IsTree map height
    (between place.left place.right) node
loosened map height place node tree = record {
  sound = tree.sound;
  level = tree.level;
  fits = record { level = tt; count = tt; bounds = tree.fits.bounds; mirror = tt };
  below = tree.below;
}

-- the page at a place, and all below it, is in one map as in another
pub record Stays (old mid : PageMap) (height : ℕ) (s : Subtree) : Type 0 where
  pub page : mid s.at ≡ old s.at
  pub stored : IsStoredTree mid height s
  pub elements : elements_in mid height (node_at mid s.at) ≡ elements_in old height (node_at old s.at)
  pub mark : (k : Key) → mark_in mid height (node_at mid s.at) k ≡ mark_in old height (node_at old s.at) k
  pub pages : (x : ℕ) → reaches mid height (node_at mid s.at) x ≡ reaches old height (node_at old s.at) x

-- a change below a node leaves a place that is apart from it, and the node's own page
module _ (old mid : PageMap) (height : ℕ) (was is : Node) (replaces : Replaces (reaches old height was) (reaches mid height is)
    old mid) (s : Subtree) (stored : IsStoredTree old height s) where
  pub stays : ((x : ℕ) → (nat_eq s.at x || reaches old height (node_at old s.at) x) ≡ true → reaches old height was x ≡ false) → Stays old mid height s
  stays apart =
      let page : mid s.at ≡ old s.at = replaces.kept s.at
      (apart s.at (or_left (nat_eq s.at s.at) (reaches old height (node_at old s.at) s.at) (same_test s.at))) stored.there in
      let below : IsSameBelow old mid height (node_at old s.at) = record {
        same = λ x reached. replaces.kept x (apart x (or_right (nat_eq s.at x) (reaches old height (node_at old s.at) x) reached))
            (reached_there old height s (node_at old s.at) x stored.tree reached);
      } in
      let here : node_at mid s.at ≡ node_at old s.at = ap (λ (o : Option (List ℕ)). node_in (page_in o)) page in
      record {
        page = page;
        stored = frame_stored old mid height s page below stored;
        elements = ap (elements_in mid height) here ∙ frame_elements old mid height (node_at old s.at) below;
        mark = λ k. ap (λ (n : Node). mark_in mid height n k) here ∙ frame_mark old mid k height (node_at old s.at) below;
        pages = λ x. ap (λ (n : Node). reaches mid height n x) here ∙ frame_reaches old mid x height (node_at old s.at) below;
      }

  pub own_stays : was ≡ node_at old s.at → mid s.at ≡ old s.at
  own_stays same = replaces.kept s.at (not_below_itself old height s was s.at (subst (λ (n : Node). IsTree old height s n)
      (sym same) stored.tree) (sym same)) stored.there

  pub own_there : was ≡ node_at old s.at → IsSome (mid s.at)
  own_there same = subst (λ (o : Option (List ℕ)). IsSome o) (sym (own_stays same)) stored.there

-- two neighbours
module _ (old : PageMap) (height level : ℕ) (next : Base) (a b : Child) (rising : AreRising next (a ∷ b ∷ []))
    (stored : AreStored old height level next (a ∷ b ∷ [])) where
  abbrev pub lower_was : Node
  lower_was = node_at old a.child

  abbrev pub upper_was : Node
  upper_was = node_at old b.child

  -- no offset is under both
  pub lower_apart : (x : ℕ) → is_under old height x a ≡ true → is_under old height x b ≡ false
  lower_apart x here = or_false_left (is_under old height x b) false (first_apart old height x level next a (b ∷ []) rising stored here)

  pub upper_apart : (x : ℕ) → is_under old height x b ≡ true → is_under old height x a ≡ false
  upper_apart x here = fails (is_under old height x a) (λ first. true≢false (sym here ∙ lower_apart x first))

  at_lower : is_under old height a.child a ≡ true
  at_lower = or_left (nat_eq a.child a.child) (reaches old height lower_was a.child) (same_test a.child)

  at_upper : is_under old height b.child b ≡ true
  at_upper = or_left (nat_eq b.child b.child) (reaches old height upper_was b.child) (same_test b.child)

  -- and the offset of neither is below one of them
  pub lower_itself : below_both old height a b a.child ≡ false
  lower_itself = or_false (reaches old height lower_was a.child) (reaches old height upper_was a.child)
      (not_below_itself old height (child_place level b.left a) lower_was a.child stored.0.tree refl)
      (or_false_right (nat_eq b.child a.child) (reaches old height upper_was a.child) (lower_apart a.child at_lower))

  pub upper_itself : below_both old height a b b.child ≡ false
  upper_itself = or_false (reaches old height lower_was b.child) (reaches old height upper_was b.child)
      (or_false_right (nat_eq a.child b.child) (reaches old height lower_was b.child) (upper_apart b.child at_upper))
      (not_below_itself old height (child_place level next b) upper_was b.child stored.1.0.tree refl)

  pub not_same : a.child ≢ b.child
  not_same same = test_other b.child a.child (or_false_left (nat_eq b.child a.child) (reaches old height upper_was a.child)
      (lower_apart a.child at_lower)) (sym same)

  module _ (f : List Element → List Element) (key : Key) (marking : Marking) (mid : PageMap) (local : IsLocal f key) (child : IsChild b) where
    -- the lower one changed
    module _ (lower : Node) (change : Changed f key marking (loose (child_place level b.left a)) height old mid (node_at old a.child) lower) where
      pub upper_stays : Stays old mid height (child_place level next b)
      upper_stays = stays old mid height lower_was lower change.pages (child_place level next b) stored.1.0
          (λ x is. or_false_right (nat_eq a.child x) (reaches old height lower_was x) (upper_apart x is))

      pub lower_there : IsSome (mid a.child)
      lower_there = own_there old mid height lower_was lower change.pages (child_place level b.left a) stored.0 refl

      pub beside_lower : IsBefore key (key_of b.left)
          → Beside key marking height old mid (below_both old height a b) (f (elements_under old height (a ∷ b ∷ [])))
          (mark_under old height (a ∷ b ∷ [])) a.left next lower (node_at mid b.child) b.left
      beside_lower before =
          let firsts : List Element = elements_in old height lower_was in
          let others : List Element = elements_in old height upper_was in
          let ends : AllByRecursion (λ e. IsBefore key (element_key e)) others =
          each_so (λ e. IsInside b.left next (element_key e)) (λ e. IsBefore key (element_key e)) others
          (λ e inside. key_before_from key (key_of b.left) (element_key e) before inside.from)
          (elements_inside old height (child_place level next b) upper_was stored.1.0.tree) in
          record {
            lower_tree = loosened mid height (loose (child_place level b.left a)) lower change.tree;
            upper_tree = loosened mid height (child_place level next b) (node_at mid b.child) upper_stays.stored.tree;
            elements = ap (λ (l : List Element). l ++ elements_in mid height (node_at mid b.child)) change.elements
                ∙ ap (λ (l : List Element). f firsts ++ l) upper_stays.elements
                ∙ sym (local.back firsts others ends) ∙ ap (λ (l : List Element). f (firsts ++ l)) (sym (append-nil others));
            mark = as_marks (MarksWithin marking key a.left next) (both_sides b.left (mark_in old height lower_was)
                (mark_in old height upper_was)) (mark_under old height (a ∷ b ∷ []))
                (both_sides b.left (mark_in mid height lower) (mark_in old height upper_was))
                (both_sides b.left (mark_in mid height lower) (mark_in mid height (node_at mid b.child)))
                (λ k. mark_cons old height k a b []) (λ k. ap (λ (n : ℕ). if starts_after k b then mark_in mid height lower k else n) (upper_stays.mark k))
                (marks_low b.left (mark_in old height lower_was) (mark_in mid height lower) (mark_in old height upper_was) key
                before marking a.left next (begins_before next b [] (later_sorted next a (b ∷ []) rising)) change.mark);
            pages = replaces_same old mid (below_both old height a b) (λ x. reaches mid height lower x || reaches old height upper_was x)
                (below_both old height a b) (λ x. reaches mid height lower x || reaches mid height (node_at mid b.child) x)
                (λ x. refl) (λ x. ap (λ (t : Bool). reaches mid height lower x || t) (upper_stays.pages x))
                (replaces_back old mid (reaches old height upper_was) (reaches old height lower_was) (reaches mid height lower) change.pages);
            bound = child.left;
            from = begins_before next a (b ∷ []) rising;
            to = begins_before next b [] (later_sorted next a (b ∷ []) rising);
          }

    -- the upper one changed
    module _ (upper : Node) (change : Changed f key marking (loose (child_place level next b)) height old mid (node_at old b.child) upper) where
      pub lower_stays : Stays old mid height (child_place level b.left a)
      lower_stays = stays old mid height upper_was upper change.pages (child_place level b.left a) stored.0
          (λ x is. or_false_right (nat_eq b.child x) (reaches old height upper_was x) (lower_apart x is))

      pub upper_there : IsSome (mid b.child)
      upper_there = own_there old mid height upper_was upper change.pages (child_place level next b) stored.1.0 refl

      pub beside_upper : IsFrom (key_of b.left) key
          → Beside key marking height old mid (below_both old height a b) (f (elements_under old height (a ∷ b ∷ [])))
          (mark_under old height (a ∷ b ∷ [])) a.left next (node_at mid a.child) upper b.left
      beside_upper from =
          let firsts : List Element = elements_in old height lower_was in
          let others : List Element = elements_in old height upper_was in
          let begins : AllByRecursion (λ e. IsBefore (element_key e) key) firsts =
          each_so (λ e. IsInside a.left b.left (element_key e)) (λ e. IsBefore (element_key e) key) firsts
          (λ e inside. key_before_from (element_key e) (key_of b.left) key inside.before from)
          (elements_inside old height (child_place level b.left a) lower_was stored.0.tree) in
          record {
            lower_tree = loosened mid height (child_place level b.left a) (node_at mid a.child) lower_stays.stored.tree;
            upper_tree = loosened mid height (loose (child_place level next b)) upper change.tree;
            elements = ap (λ (l : List Element). l ++ elements_in mid height upper) lower_stays.elements
                ∙ ap (λ (l : List Element). firsts ++ l) change.elements
                ∙ sym (local.front firsts others begins) ∙ ap (λ (l : List Element). f (firsts ++ l)) (sym (append-nil others));
            mark = as_marks (MarksWithin marking key a.left next) (both_sides b.left (mark_in old height lower_was)
                (mark_in old height upper_was)) (mark_under old height (a ∷ b ∷ []))
                (both_sides b.left (mark_in old height lower_was) (mark_in mid height upper))
                (both_sides b.left (mark_in mid height (node_at mid a.child)) (mark_in mid height upper))
                (λ k. mark_cons old height k a b []) (λ k. ap (λ (n : ℕ). if starts_after k b then n else mark_in mid height upper k) (lower_stays.mark k))
                (marks_high b.left (mark_in old height lower_was) (mark_in old height upper_was) (mark_in mid height upper) key
                from marking a.left next (begins_before next a (b ∷ []) rising) change.mark);
            pages = replaces_same old mid (below_both old height a b) (λ x. reaches old height lower_was x || reaches mid height upper x)
                (below_both old height a b) (λ x. reaches mid height (node_at mid a.child) x || reaches mid height upper x)
                (λ x. refl) (λ x. ap (λ (t : Bool). t || reaches mid height upper x) (lower_stays.pages x))
                (replaces_front old mid (reaches old height lower_was) (reaches old height upper_was) (reaches mid height upper) change.pages);
            bound = child.left;
            from = begins_before next a (b ∷ []) rising;
            to = begins_before next b [] (later_sorted next a (b ∷ []) rising);
          }

  -- where leaves lose an element, and their marks stay
  module _ (f : List Element → List Element) (key : Key) (mid : PageMap) (local : IsLocal f key) (child : IsChild b) where
    leaf_had : (s : Subtree) (was : Node) (is : Leaf) → IsTree old height s was → level_of (leaf_node is) ≡ suc height
        → MarksJoin key (mark_in old height was) (mark_in mid height (leaf_node is)) → (k : Key) → mark_in old height was k ≡ is.mirror
    leaf_had s (leaf_node was) is tree level marks k = sym (takes_same key was.mirror is.mirror marks)
    leaf_had s (inner_node was) is tree level marks k = absurd (omega (arith, tree.level, tree.sound.level.0, level))

    module _ (lower : Node) (change : Changed f key TakesOut (loose (child_place level b.left a)) height old mid (node_at old a.child) lower) where
      pub leaves_lower : LeavesHave (mark_under old height (a ∷ b ∷ [])) b.left lower (node_at mid b.child)
      leaves_lower = by_nodes lower (node_at mid b.child) refl refl where
        by_nodes : (x y : Node) → lower ≡ x → node_at mid b.child ≡ y → LeavesHave (mark_under old height (a ∷ b ∷ [])) b.left x y
        by_nodes (leaf_node x) (leaf_node y) first second = λ k.
            let change' : Changed f key TakesOut (loose (child_place level b.left a)) height old mid lower_was (leaf_node x) =
            subst (λ (n : Node). Changed f key TakesOut (loose (child_place level b.left a)) height old mid lower_was n) first change in
            mark_cons old height k a b []
            ∙ ap (λ (n : ℕ). if starts_after k b then n else mark_in old height upper_was k)
            (leaf_had (child_place level b.left a) lower_was x stored.0.tree change'.tree.level change'.mark.joins k)
            ∙ ap (λ (n : ℕ). if starts_after k b then x.mirror else n)
            (sym ((upper_stays f key TakesOut mid local child lower change).mark k) ∙ ap (λ (n : Node). mark_in mid height n k) second)
        by_nodes (leaf_node x) (inner_node y) first second = tt
        by_nodes (inner_node x) y first second = tt

    module _ (upper : Node) (change : Changed f key TakesOut (loose (child_place level next b)) height old mid (node_at old b.child) upper) where
      pub leaves_upper : LeavesHave (mark_under old height (a ∷ b ∷ [])) b.left (node_at mid a.child) upper
      leaves_upper = by_nodes (node_at mid a.child) upper refl refl where
        by_nodes : (x y : Node) → node_at mid a.child ≡ x → upper ≡ y → LeavesHave (mark_under old height (a ∷ b ∷ [])) b.left x y
        by_nodes (leaf_node x) (leaf_node y) first second = λ k.
            let change' : Changed f key TakesOut (loose (child_place level next b)) height old mid upper_was (leaf_node y) =
            subst (λ (n : Node). Changed f key TakesOut (loose (child_place level next b)) height old mid upper_was n) second change in
            mark_cons old height k a b []
            ∙ ap (λ (n : ℕ). if starts_after k b then n else mark_in old height upper_was k)
            (sym ((lower_stays f key TakesOut mid local child upper change).mark k) ∙ ap (λ (n : Node). mark_in mid height n k) first)
            ∙ ap (λ (n : ℕ). if starts_after k b then x.mirror else n) (leaf_had (child_place level next b) upper_was y
            stored.1.0.tree change'.tree.level change'.mark.joins k)
        by_nodes (leaf_node x) (inner_node y) first second = tt
        by_nodes (inner_node x) y first second = tt
