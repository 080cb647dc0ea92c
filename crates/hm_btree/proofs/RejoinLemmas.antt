-- Two neighbours that were joined are written: one to the page of the lower one, or both to their pages.
use Rattle.std.proofs.Common.{◌≡◌, ◌≢◌, Bool, true, false, true≢false, ◌||◌, ℕ, suc, List, [], ◌∷◌, ◌++◌, refl, sym, ap, ◌∙◌, nat_eq, Some, append-nil}
use Rattle.std.specs.Prelude.{Option, if◌then◌else◌}
use Rattle.std.specs.List.Sorted.{IsStrictlySortedBy}
use Rattle.std.specs.Ordering.{is_lt}
use Rattle.hm_types.specs.Elements.{Key, key_cmp}
use Rattle.hm_fields.specs.Pages.{PageMap, page_in}
use Rattle.hm_key.specs.Key.{key_of, IsBefore}
use Rattle.hm_key.specs.declared.base.Base.{Base}
use Rattle.hm_key.specs.declared.element.Element.{Element}
use Rattle.hm_node.specs.Inner.{IsChild}
use Rattle.hm_node.specs.Node.{node_in, Spells}
use Rattle.hm_node.specs.declared.inner.Child.{Child}
use Rattle.hm_node.specs.declared.node.Node.{Node}
use Rattle.hm_search.specs.Place.{mirror_of}
use Rattle.hm_search.specs.Tree.{node_at, elements_in, mark_in, reaches, child_place, IsTree, IsStoredTree}
use Rattle.hm_search.specs.declared.subtree.Subtree.{Subtree}
use Rattle.hm_search.proofs.ChildLemmas.{begins_before, later_sorted}
use Rattle.hm_search.proofs.FrameLemmas.{IsSameBelow, frame_elements, frame_mark, frame_reaches}
use Rattle.hm_btree.specs.Marking.{Marking, MarksWithin}
use Rattle.hm_btree.specs.Edits.{with_mirror}
use Rattle.hm_btree.specs.Space.{HasWritten, HasLost}
use Rattle.hm_btree.specs.Below.{elements_under, mark_under, has_under, AreStored, AreRising, ChangedUnder}
use Rattle.hm_btree.specs.Shrink.{between, below_both, Joined, Shared}
use Rattle.hm_btree.proofs.BesideLemmas.{lower_itself, upper_itself, not_same}
use Rattle.hm_btree.proofs.ChangeLemmas.{mark_cons}
use Rattle.hm_btree.proofs.MarkLemmas.{both_sides, same_marks}
use Rattle.hm_btree.proofs.OrderLemmas.{before_before}
use Rattle.hm_btree.proofs.PairLemmas.{as_child, not_come, shuffle, or_nil, stored_there}
use Rattle.hm_btree.proofs.PutLemmas.{put_at, put_other, lost_other, replaces_put, replaces_lost}
use Rattle.hm_btree.proofs.UnderLemmas.{or_false_left, or_false_right, replaces_same}

-- a node stands in its page, and all below it is as it was
pub record Written (mid new : PageMap) (height : ℕ) (node : Node) (at : ℕ) : Type 0 where
  pub stored : (s : Subtree) → s.at ≡ at → IsTree mid height s node → IsStoredTree new height s
  pub elements : elements_in new height (node_at new at) ≡ elements_in mid height node
  pub mark : (k : Key) → mark_in new height (node_at new at) k ≡ mark_in mid height node k
  pub pages : (x : ℕ) → reaches new height (node_at new at) x ≡ reaches mid height node x

module _ (mid new : PageMap) (height : ℕ) (node : Node) (at : ℕ) (page : List ℕ) where
  pub written : new at ≡ Some page → Spells page node → ((x : ℕ) → reaches mid height node x ≡ true → new x ≡ mid x) → Written mid new height node at
  written there spells stays =
      let same : IsSameBelow mid new height node = record { same = stays } in
      let here : node_at new at ≡ node = ap (λ (o : Option (List ℕ)). node_in (page_in o)) there ∙ spells.value in
      record {
        stored = λ s is tree. stored_there mid new height node at page s is there spells same tree;
        elements = ap (elements_in new height) here ∙ frame_elements mid new height node same;
        mark = λ k. ap (λ (n : Node). mark_in new height n k) here ∙ frame_mark mid new k height node same;
        pages = λ x. ap (λ (n : Node). reaches new height n x) here ∙ frame_reaches mid new x height node same;
      }

-- one of two numbers that are both the same
chosen_same : (t : Bool) (x x' y y' : ℕ) → x ≡ x' → y ≡ y' → (if t then x else y) ≡ (if t then x' else y')
chosen_same true x x' y y' first second = first
chosen_same false x x' y y' first second = second

module _ (f : List Element → List Element) (key : Key) (marking : Marking) (level : ℕ) (next : Base) (height : ℕ)
    (old mid new1 new2 : PageMap) (a b : Child) where
  abbrev pub pair_olds : ℕ → Bool
  pair_olds = below_both old height a b

  abbrev pub pair_want : List Element
  pair_want = f (elements_under old height (a ∷ b ∷ []))

  abbrev pub pair_were : Key → ℕ
  pair_were = mark_under old height (a ∷ b ∷ [])

  module _ (rising : AreRising next (a ∷ b ∷ [])) (stored : AreStored old height level next (a ∷ b ∷ [])) (high : level ≡ suc (suc height)) where
    -- they became one
    module _ (node : Node) (child : IsChild a) where
      abbrev joined_child : Child
      joined_child = with_mirror (mirror_of node) a

      pub joined_written : Joined key marking height old mid pair_olds pair_want pair_were a.left next node
          → HasWritten a.child node mid new1 → HasLost b.child new1 new2
          → ChangedUnder f key marking level next height old new2 (a ∷ b ∷ []) (joined_child ∷ [])
      unfolding IsStrictlySortedBy
      joined_written joined (page, spells, put) lost =
          let news : ℕ → Bool = λ x. reaches mid height node x in
          let not_lower : news a.child ≡ false = not_come pair_olds news old mid a.child joined.pages stored.0.there
          (lower_itself old height level next a b rising stored) in
          let not_upper : news b.child ≡ false = not_come pair_olds news old mid b.child joined.pages stored.1.0.there
          (upper_itself old height level next a b rising stored) in
          let there : new2 a.child ≡ Some page = lost_other b.child new1 new2 lost a.child
          (not_same old height level next a b rising stored) ∙ put_at a.child page mid new1 put in
          let is : Written mid new2 height node a.child = written mid new2 height node a.child page there spells (λ x reached.
          lost_other b.child new1 new2 lost x (λ same. true≢false (sym reached ∙ ap (reaches mid height node) same ∙ not_upper))
          ∙ put_other a.child page mid new1 put x (λ same. true≢false (sym reached ∙ ap (reaches mid height node) same ∙ not_lower))) in
          record {
            stored = (
              is.stored (child_place level next joined_child) refl (as_child mid height level a.child
                  (between a.left next) node joined.tree joined.many high),
              tt,
            );
            elements = append-nil (elements_in new2 height (node_at new2 a.child)) ∙ is.elements ∙ joined.elements;
            mark = same_marks (MarksWithin marking key a.left next pair_were) (mark_in mid height node)
                (mark_under new2 height (joined_child ∷ [])) is.mark joined.mark;
            pages = replaces_same old new2 (λ x. nat_eq b.child x || (nat_eq a.child x || pair_olds x))
                (λ x. nat_eq a.child x || news x) (has_under old height (a ∷ b ∷ [])) (has_under new2 height (joined_child ∷ []))
                (λ x. shuffle (nat_eq b.child x) (nat_eq a.child x) (reaches old height (node_at old a.child) x) (reaches old height (node_at old b.child) x))
                (λ x. or_nil (nat_eq a.child x || reaches new2 height (node_at new2 a.child) x) ∙ ap (λ (t : Bool). nat_eq a.child x || t) (is.pages x))
                (replaces_lost b.child (λ x. nat_eq a.child x || pair_olds x) (λ x. nat_eq a.child x || news x) old new1 new2 lost
                (replaces_put a.child page pair_olds news old mid new1 put stored.0.there joined.pages));
            left = refl;
            rising = ((before, tt), (tt, tt));
            fields = (record { left = child.left; child = child.child }, tt);
          } where
            before : IsBefore (key_of a.left) (key_of next)
            before = before_before (key_of a.left) (key_of b.left) (key_of next) (begins_before next a (b ∷ []) rising)
                (begins_before next b [] (later_sorted next a (b ∷ []) rising))

    -- they are two still
    module _ (lower upper : Node) (at : Base) (child : IsChild a) (second : IsChild b) where
      abbrev shared_lower : Child
      shared_lower = with_mirror (mirror_of lower) a

      abbrev shared_upper : Child
      shared_upper = record { left = at; child = b.child; mirror = mirror_of upper }

      pub shared_written : Shared key marking height old mid pair_olds pair_want pair_were a.left next lower upper at
          → HasWritten a.child lower mid new1 → HasWritten b.child upper new1 new2
          → ChangedUnder f key marking level next height old new2 (a ∷ b ∷ []) (shared_lower ∷ shared_upper ∷ [])
      unfolding IsStrictlySortedBy
      shared_written shared (page, spells, put) (page2, spells2, put2) =
          let beside = shared.beside in
          let news : ℕ → Bool = λ x. reaches mid height lower x || reaches mid height upper x in
          let not_lower : news a.child ≡ false = not_come pair_olds news old mid a.child beside.pages stored.0.there
          (lower_itself old height level next a b rising stored) in
          let not_upper : news b.child ≡ false = not_come pair_olds news old mid b.child beside.pages stored.1.0.there
          (upper_itself old height level next a b rising stored) in
          let there : new2 a.child ≡ Some page = put_other b.child page2 new1 new2 put2 a.child
          (not_same old height level next a b rising stored) ∙ put_at a.child page mid new1 put in
          let stays : (x : ℕ) → x ≢ a.child → x ≢ b.child → new2 x ≡ mid x = λ x first other. put_other b.child page2 new1 new2
          put2 x other ∙ put_other a.child page mid new1 put x first in
          let low : Written mid new2 height lower a.child = written mid new2 height lower a.child page there spells (λ x reached. stays x
          (λ same. true≢false (sym reached ∙ ap (reaches mid height lower) same ∙ or_false_left (reaches mid height lower a.child)
          (reaches mid height upper a.child) not_lower))
          (λ same. true≢false (sym reached ∙ ap (reaches mid height lower) same ∙ or_false_left (reaches mid height lower b.child)
          (reaches mid height upper b.child) not_upper))) in
          let up : Written mid new2 height upper b.child = written mid new2 height upper b.child page2
          (put_at b.child page2 new1 new2 put2) spells2 (λ x reached. stays x
          (λ same. true≢false (sym reached ∙ ap (reaches mid height upper) same ∙ or_false_right
          (reaches mid height lower a.child) (reaches mid height upper a.child) not_lower))
          (λ same. true≢false (sym reached ∙ ap (reaches mid height upper) same ∙ or_false_right
          (reaches mid height lower b.child) (reaches mid height upper b.child) not_upper))) in
          let marks : (k : Key) → mark_under new2 height (shared_lower ∷ shared_upper ∷ []) k ≡ (if is_lt (key_cmp k (key_of at))
          then mark_in mid height lower k else mark_in mid height upper k) =
          λ k. mark_cons new2 height k shared_lower shared_upper [] ∙ chosen_same (is_lt (key_cmp k (key_of at)))
          (mark_in new2 height (node_at new2 a.child) k) (mark_in mid height lower k)
          (mark_in new2 height (node_at new2 b.child) k) (mark_in mid height upper k) (low.mark k) (up.mark k) in
          record {
            stored = (
              low.stored (child_place level at shared_lower) refl (as_child mid height level a.child (between a.left at) lower
                  beside.lower_tree shared.lower_many high),
              (
                up.stored (child_place level next shared_upper) refl (as_child mid height level b.child (between at next) upper
                    beside.upper_tree shared.upper_many high),
                tt,
              ),
            );
            elements = ap (λ (l : List Element). l ++ (elements_in new2 height (node_at new2 b.child) ++ [])) low.elements
                ∙ ap (λ (l : List Element). elements_in mid height lower ++ l)
                (append-nil (elements_in new2 height (node_at new2 b.child)) ∙ up.elements) ∙ beside.elements;
            mark = same_marks (MarksWithin marking key a.left next pair_were) (both_sides at (mark_in mid height lower)
                (mark_in mid height upper)) (mark_under new2 height (shared_lower ∷ shared_upper ∷ [])) marks beside.mark;
            pages = replaces_same old new2 (λ x. nat_eq b.child x || (nat_eq a.child x || pair_olds x)) (λ x. nat_eq b.child x || (nat_eq a.child x || news x))
                (has_under old height (a ∷ b ∷ [])) (has_under new2 height (shared_lower ∷ shared_upper ∷ []))
                (λ x. shuffle (nat_eq b.child x) (nat_eq a.child x) (reaches old height (node_at old a.child) x) (reaches old height (node_at old b.child) x))
                (λ x. ap (λ (t : Bool). (nat_eq a.child x || t) || ((nat_eq b.child x || reaches new2 height (node_at new2 b.child) x) || false)) (low.pages x)
                ∙ ap (λ (t : Bool). (nat_eq a.child x || reaches mid height lower x) || ((nat_eq b.child x || t) || false)) (up.pages x)
                ∙ shuffle (nat_eq b.child x) (nat_eq a.child x) (reaches mid height lower x) (reaches mid height upper x))
                (replaces_put b.child page2 (λ x. nat_eq a.child x || pair_olds x) (λ x. nat_eq a.child x || news x) old new1 new2 put2 stored.1.0.there
                (replaces_put a.child page pair_olds news old mid new1 put stored.0.there beside.pages));
            left = refl;
            rising = ((beside.from, (before_before (key_of a.left) (key_of at) (key_of next) beside.from beside.to, tt)), ((beside.to, tt), (tt, tt)));
            fields = (record { left = child.left; child = child.child }, (record { left = beside.bound; child = second.child }, tt));
          }
