-- A child that became two is written.
use Rattle.std.proofs.Common.{◌≡◌, ◌≢◌, Bool, true, false, true≢false, ◌||◌, ℕ, suc, ◌≤◌, List, [], ◌∷◌, ◌++◌, refl, sym, ap, subst, ◌∙◌}
use Rattle.std.proofs.Common.{arith, nat_eq, Some, append-nil}
use Rattle.std.specs.Prelude.{Option, IsSome, is_some, if◌then◌else◌}
use Rattle.std.specs.List.Sorted.{IsStrictlySortedBy}
use Rattle.std.specs.Ordering.{is_lt}
use Rattle.hm_types.specs.Elements.{Key, key_cmp}
use Rattle.hm_fields.specs.Pages.{PageMap, page_in}
use Rattle.hm_key.specs.Key.{key_of, IsBefore}
use Rattle.hm_key.specs.declared.base.Base.{Base}
use Rattle.hm_key.specs.declared.element.Element.{Element}
use Rattle.hm_node.specs.Inner.{IsChild}
use Rattle.hm_node.specs.Node.{node_in, count_of, Spells}
use Rattle.hm_node.specs.declared.inner.Child.{Child}
use Rattle.hm_node.specs.declared.node.Node.{Node}
use Rattle.hm_search.specs.Place.{mirror_of, least_count}
use Rattle.hm_search.specs.Tree.{node_at, elements_in, mark_in, reaches, child_place, IsTree, IsStoredTree}
use Rattle.hm_search.specs.declared.subtree.Subtree.{Subtree}
use Rattle.hm_search.proofs.FrameLemmas.{IsSameBelow, frame_elements, frame_mark, frame_reaches, frame_tree}
use Rattle.hm_search.proofs.ReachLemmas.{fails}
use Rattle.hm_btree.specs.Marking.{Marking, MarksWithin}
use Rattle.hm_btree.specs.Edits.{with_mirror}
use Rattle.hm_btree.specs.Space.{HasWritten, HasAdded, IsSpot}
use Rattle.hm_btree.specs.Below.{Replaces, mark_under, has_under, ChangedUnder, placed}
use Rattle.hm_btree.specs.Grow.{Split}
use Rattle.hm_btree.proofs.ChangeLemmas.{mark_cons}
use Rattle.hm_btree.proofs.MarkLemmas.{both_sides, same_marks, marks_bounds}
use Rattle.hm_btree.proofs.OrderLemmas.{before_before}
use Rattle.hm_btree.proofs.PutLemmas.{put_at, put_other, replaces_put, replaces_new}
use Rattle.hm_btree.proofs.UnderLemmas.{reached_there, replaces_same, or_false_left, or_false_right}

-- a sound node as a child that its parent has the `mirror` of
pub as_child : (map : PageMap) (height level at : ℕ) (place : Subtree) (node : Node) → IsTree map height (placed node place) node
    → least_count node ≤ count_of node → level ≡ suc (suc height)
    → IsTree map height (record { at = at; left = place.left; right = place.right; parent = Some (record { level = level; mirror = mirror_of node }) }) node
as_child map height level at place node tree many is = record {
  sound = tree.sound;
  level = tree.level;
  fits = record { level = omega (arith, tree.level, is); count = many; bounds = tree.fits.bounds; mirror = refl };
  below = tree.below;
}

-- a page that stood beside those of a call is not one of them afterwards
pub not_come : (olds news : ℕ → Bool) (old mid : PageMap) (at : ℕ) → Replaces olds news old mid → IsSome (old at) → olds at ≡ false → news at ≡ false
not_come olds news old mid at replaces there not = fails (news at)
    (λ reached. true≢false (sym there ∙ ap (λ (o : Option (List ℕ)). is_some o) (replaces.made at reached not)))

-- an `or` in another order
pub shuffle : (a c l u : Bool) → ((c || l) || ((a || u) || false)) ≡ (a || (c || (l || u)))
shuffle true true l u = refl
shuffle true false true u = refl
shuffle true false false u = refl
shuffle false true l u = refl
shuffle false false true u = refl
shuffle false false false true = refl
shuffle false false false false = refl

pub or_nil : (b : Bool) → (b || false) ≡ b
or_nil true = refl
or_nil false = refl

-- a node in its page, after others were written
module _ (mid new : PageMap) (height : ℕ) (node : Node) (at : ℕ) (page : List ℕ) (s : Subtree) where
  pub stored_there : s.at ≡ at → new at ≡ Some page → Spells page node → IsSameBelow mid new height node → IsTree mid height s node → IsStoredTree new height s
  stored_there where_is there spells same tree =
      let there' : new s.at ≡ Some page = ap new where_is ∙ there in
      let here : node_at new s.at ≡ node = ap (λ (o : Option (List ℕ)). node_in (page_in o)) there' ∙ spells.value in
      record {
        there = rw there' refl;
        spelled = subst (λ (o : Option (List ℕ)). Spells (page_in o) (node_in (page_in o))) (sym there')
            (subst (λ (n : Node). Spells page n) (sym spells.value) spells);
        tree = subst (λ (n : Node). IsTree new height s n) (sym here) (frame_tree mid new height s node same tree);
      }

module _ (f : List Element → List Element) (key : Key) (marking : Marking) (level : ℕ) (next : Base) (height : ℕ)
    (old mid new1 new2 : PageMap) (place : Subtree) (c : Child) (lower upper : Node) (b : Base) (a : ℕ) where
  abbrev pub lower_child : Child
  lower_child = with_mirror (mirror_of lower) c

  abbrev pub upper_child : Child
  upper_child = record { left = b; child = a; mirror = mirror_of upper }

  pub split_written : IsChild c → place.left ≡ c.left → place.right ≡ next → level ≡ suc (suc height) → IsSome (old c.child)
      → reaches old height (node_at old c.child) c.child ≡ false
      → Split f key marking place height old mid (node_at old c.child) lower upper b → HasWritten c.child lower mid new1
      → HasAdded a upper new1 new2 → IsSpot a
      → ChangedUnder f key marking level next height old new2 (c ∷ []) (lower_child ∷ upper_child ∷ [])
  unfolding IsStrictlySortedBy
  split_written child left right high there itself split (page, spells, put) (page2, spells2, come) spot =
      let was : Node = node_at old c.child in
      let olds : ℕ → Bool = λ x. reaches old height was x in
      let news : ℕ → Bool = λ x. reaches mid height lower x || reaches mid height upper x in
      let apart : news c.child ≡ false = not_come olds news old mid c.child split.pages there itself in
      let first : new1 c.child ≡ Some page = put_at c.child page mid new1 put in
      let other : c.child ≢ a = λ same. true≢false (ap (λ (o : Option (List ℕ)). is_some o) (sym first)
      ∙ ap (λ (o : Option (List ℕ)). is_some o) (ap new1 same ∙ come.free)) in
      let first2 : new2 c.child ≡ Some page = put_other a page2 new1 new2 come.put c.child other ∙ first in
      let second2 : new2 a ≡ Some page2 = put_at a page2 new1 new2 come.put in
      let stays : (x : ℕ) → IsSome (mid x) → x ≢ c.child → new2 x ≡ mid x = λ x is not.
      let one : new1 x ≡ mid x = put_other c.child page mid new1 put x not in
      put_other a page2 new1 new2 come.put x
      (λ same. true≢false (sym (subst (λ (o : Option (List ℕ)). is_some o ≡ true) (sym one) is)
      ∙ ap (λ (o : Option (List ℕ)). is_some o) (ap new1 same ∙ come.free))) ∙ one in
      let same_low : IsSameBelow mid new2 height lower = record {
        same = λ x is. stays x (reached_there mid height (placed lower (record place { right = b })) lower x split.lower_tree is)
            (λ one. true≢false (sym is ∙ ap (reaches mid height lower) one ∙ or_false_left (reaches mid height lower c.child)
            (reaches mid height upper c.child) apart));
      } in
      let same_up : IsSameBelow mid new2 height upper = record {
        same = λ x is. stays x (reached_there mid height (placed upper (record place { left = b })) upper x split.upper_tree is)
            (λ one. true≢false (sym is ∙ ap (reaches mid height upper) one ∙ or_false_right (reaches mid height lower c.child)
            (reaches mid height upper c.child) apart));
      } in
      let low_here : node_at new2 c.child ≡ lower = ap (λ (o : Option (List ℕ)). node_in (page_in o)) first2 ∙ spells.value in
      let up_here : node_at new2 a ≡ upper = ap (λ (o : Option (List ℕ)). node_in (page_in o)) second2 ∙ spells2.value in
      let low_elements : elements_in new2 height (node_at new2 c.child) ≡ elements_in mid height lower =
      ap (elements_in new2 height) low_here ∙ frame_elements mid new2 height lower same_low in
      let up_elements : elements_in new2 height (node_at new2 a) ≡ elements_in mid height upper = ap (elements_in new2 height)
      up_here ∙ frame_elements mid new2 height upper same_up in
      let low_mark : (k : Key) → mark_in new2 height (node_at new2 c.child) k ≡ mark_in mid height lower k =
      λ k. ap (λ (n : Node). mark_in new2 height n k) low_here ∙ frame_mark mid new2 k height lower same_low in
      let up_mark : (k : Key) → mark_in new2 height (node_at new2 a) k ≡ mark_in mid height upper k =
      λ k. ap (λ (n : Node). mark_in new2 height n k) up_here ∙ frame_mark mid new2 k height upper same_up in
      let low_reach : (x : ℕ) → reaches new2 height (node_at new2 c.child) x ≡ reaches mid height lower x =
      λ x. ap (λ (n : Node). reaches new2 height n x) low_here ∙ frame_reaches mid new2 x height lower same_low in
      let up_reach : (x : ℕ) → reaches new2 height (node_at new2 a) x ≡ reaches mid height upper x =
      λ x. ap (λ (n : Node). reaches new2 height n x) up_here ∙ frame_reaches mid new2 x height upper same_up in
      let low_tree : IsTree mid height (child_place level b lower_child) lower =
      subst (λ (l : Base). IsTree mid height (record {
        at = c.child;
        left = l;
        right = b;
        parent = Some (record { level = level; mirror = mirror_of lower });
      }) lower) left
      (as_child mid height level c.child (record place { right = b }) lower split.lower_tree split.lower_many high) in
      let up_tree : IsTree mid height (child_place level next upper_child) upper =
      subst (λ (r : Base). IsTree mid height
      (record { at = a; left = b; right = r; parent = Some (record { level = level; mirror = mirror_of upper }) }) upper) right
      (as_child mid height level a (record place { left = b }) upper split.upper_tree split.upper_many high) in
      let marks : (k : Key) → mark_under new2 height (lower_child ∷ upper_child ∷ []) k ≡ (if is_lt (key_cmp k (key_of b)) then
      mark_in mid height lower k else mark_in mid height upper k) =
      λ k. mark_cons new2 height k lower_child upper_child [] ∙ chosen_same (is_lt (key_cmp k (key_of b)))
      (mark_in new2 height (node_at new2 c.child) k) (mark_in mid height lower k) (mark_in new2 height (node_at new2 a) k)
      (mark_in mid height upper k) (low_mark k) (up_mark k) in
      record {
        stored = (
          stored_there mid new2 height lower c.child page (child_place level b lower_child) refl first2 spells same_low low_tree,
          (stored_there mid new2 height upper a page2 (child_place level next upper_child) refl second2 spells2 same_up up_tree, tt),
        );
        elements = ap (λ (l : List Element). l ++ (elements_in new2 height (node_at new2 a) ++ [])) low_elements
            ∙ ap (λ (l : List Element). elements_in mid height lower ++ l) (append-nil (elements_in new2 height (node_at new2 a)) ∙ up_elements)
            ∙ split.elements ∙ ap f (sym (append-nil (elements_in old height was)));
        mark = same_marks (MarksWithin marking key c.left next (mark_in old height was)) (both_sides b (mark_in mid height lower)
            (mark_in mid height upper)) (mark_under new2 height (lower_child ∷ upper_child ∷ [])) marks
            (marks_bounds marking key place.left c.left place.right next (mark_in old height was)
            (both_sides b (mark_in mid height lower) (mark_in mid height upper)) (ap key_of left) (ap key_of right) split.mark);
        pages = replaces_same old new2 (λ x. nat_eq c.child x || olds x) (λ x. nat_eq a x || (nat_eq c.child x || news x))
            (has_under old height (c ∷ [])) (has_under new2 height (lower_child ∷ upper_child ∷ []))
            (λ x. or_nil (nat_eq c.child x || olds x))
            (λ x. ap (λ (t : Bool). (nat_eq c.child x || t) || ((nat_eq a x || reaches new2 height (node_at new2 a) x) || false)) (low_reach x)
            ∙ ap (λ (t : Bool). (nat_eq c.child x || reaches mid height lower x) || ((nat_eq a x || t) || false)) (up_reach x)
            ∙ shuffle (nat_eq a x) (nat_eq c.child x) (reaches mid height lower x) (reaches mid height upper x))
            (replaces_new a page2 (λ x. nat_eq c.child x || olds x) (λ x. nat_eq c.child x || news x) old new1 new2 come spot
            (replaces_put c.child page olds news old mid new1 put there split.pages));
        left = refl;
        rising = ((low_before, (before_before (key_of c.left) (key_of b) (key_of next) low_before up_before, tt)), ((up_before, tt), (tt, tt)));
        fields = (record { left = child.left; child = child.child }, (record { left = split.bound; child = spot.node }, tt));
      } where
        low_before : IsBefore (key_of c.left) (key_of b)
        low_before = subst (λ (l : Base). IsBefore (key_of l) (key_of b)) left split.from

        up_before : IsBefore (key_of b) (key_of next)
        up_before = subst (λ (r : Base). IsBefore (key_of b) (key_of r)) right split.to

        chosen_same : (t : Bool) (x x' y y' : ℕ) → x ≡ x' → y ≡ y' → (if t then x else y) ≡ (if t then x' else y')
        chosen_same true x x' y y' first second = first
        chosen_same false x x' y y' first second = second
