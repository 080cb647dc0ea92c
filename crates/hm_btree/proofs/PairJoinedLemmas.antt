-- An inner node of whose children one lost places, and was joined with a neighbour.
use Rattle.std.proofs.Common.{◌≡◌, ℕ, zero, suc, ◌+◌, ◌<◌, ◌≤◌, ◌⊎◌, inl, inr, List, [], ◌∷◌, ◌++◌, length, take, drop, sym, subst, arith, max, Some, None}
use Rattle.std.specs.Prelude.{Option, slice_get}
use Rattle.hm_types.specs.Elements.{Key}
use Rattle.hm_fields.specs.Pages.{PageMap}
use Rattle.hm_key.specs.declared.base.Base.{Base}
use Rattle.hm_key.specs.declared.element.Element.{Element}
use Rattle.hm_node.specs.Node.{count_of}
use Rattle.hm_node.specs.declared.inner.Child.{Child}
use Rattle.hm_node.specs.declared.inner.Inner.{Inner}
use Rattle.hm_node.specs.declared.node.Node.{Node}
use Rattle.hm_node.specs.declared.node.Node.TheVariants.{Inner as inner_node}
use Rattle.hm_search.specs.Place.{IsInside, least_count, mirror_of}
use Rattle.hm_search.specs.Tree.{node_at, next_left, child_place, IsTree}
use Rattle.hm_search.specs.declared.subtree.Subtree.{Subtree}
use Rattle.hm_btree.specs.Marking.{TakesOut}
use Rattle.hm_btree.specs.Below.{elements_under, mark_under, AreStored, AreRising, IsLocal, Changed}
use Rattle.hm_btree.specs.Edits.{inner_of, with_mirror}
use Rattle.hm_btree.specs.Shrink.{loose, below_both, Beside, IsSmallAt, LeavesHave, Joins, IsRejoined, IsPairJoined, IsJoinedAt, IsChildNode}
use Rattle.hm_btree.specs.declared.upper.Upper.{Upper}
use Rattle.hm_btree.proofs.BesideLemmas.{beside_lower, beside_upper, upper_stays, lower_stays, leaves_lower, leaves_upper}
use Rattle.hm_btree.proofs.JoinLemmas.{joined, shared}
use Rattle.hm_btree.proofs.JoinAtLemmas.{split_pair, rest_pair, got_place}
use Rattle.hm_btree.proofs.RejoinLemmas.{joined_written, shared_written}
use Rattle.hm_btree.proofs.ShrinkLemmas.{lower_child, upper_child, pair_rising, pair_stored, pair_level, lower_inside, upper_inside, rejoined_parent}

module _ (f : List Element → List Element) (key : Key) (local : IsLocal f key) (place : Subtree) (height : ℕ)
    (inner inner' : Inner) (old mid new : PageMap) (tree : IsTree old (suc height) place (inner_node inner)) where
  abbrev cs : List Child
  cs = inner.places.items

  -- two of its children
  module _ (j : ℕ) (a b : Child) (a_at : slice_get cs j ≡ Some a) (b_at : slice_get cs (j + 1) ≡ Some b) where
    abbrev pre : List Child
    pre = take j cs

    abbrev post : List Child
    post = drop (j + 2) cs

    abbrev next : Base
    next = next_left inner.right post

    whole : IsTree old (suc height) place (inner_node (inner_of inner.level inner.mirror (pre ++ a ∷ b ∷ post) inner.right))
    whole = subst (λ (l : List Child). IsTree old (suc height) place
        (inner_node (inner_of inner.level inner.mirror l inner.right))) (split_pair cs j a b a_at b_at).0 tree

    rising : AreRising next (a ∷ b ∷ [])
    rising = pair_rising place height inner.level inner.mirror inner.right old pre a b post whole

    stored : AreStored old height inner.level next (a ∷ b ∷ [])
    stored = pair_stored place height inner.level inner.mirror inner.right old pre a b post whole

    pair_changed : (left right : Node) → IsInside a.left next key
        → Beside key TakesOut height old mid (below_both old height a b) (f (elements_under old height (a ∷ b ∷ [])))
        (mark_under old height (a ∷ b ∷ [])) a.left next left right b.left
        → (least_count left ≤ count_of left) ⊎ (least_count right ≤ count_of right) → IsSmallAt key b.left left right
        → LeavesHave (mark_under old height (a ∷ b ∷ [])) b.left left right → IsPairJoined inner j left right mid new inner'
        → Changed f key TakesOut (loose place) (suc height) old new (inner_node inner) (inner_node inner')
    pair_changed left right within beside many small stay pair = by_upper pair.upper pair.joins pair.rejoined where
      -- the list of its children afterwards
      by_list : (after : List Child) (more : ℕ) → Changed f key TakesOut (loose place) (suc height) old new
          (inner_node (inner_of inner.level inner.mirror (pre ++ a ∷ b ∷ post) inner.right)) (inner_node (inner_of inner.level more after inner.right))
          → inner' ≡ inner_of inner.level more after inner.right → Changed f key TakesOut (loose place) (suc height) old new
          (inner_node inner) (inner_node inner')
      by_list after more change is =
          subst (λ (x : Inner). Changed f key TakesOut (loose place) (suc height) old new (inner_node inner) (inner_node x)) (sym is)
          (subst (λ (l : List Child). Changed f key TakesOut (loose place) (suc height) old new
          (inner_node (inner_of inner.level inner.mirror l inner.right)) (inner_node (inner_of inner.level more after inner.right)))
          (sym (split_pair cs j a b a_at b_at).0) change)

      by_upper : (o : Option Upper) → Joins left right pair.lower o → IsRejoined inner j pair.lower o mid new inner'
          → Changed f key TakesOut (loose place) (suc height) old new (inner_node inner) (inner_node inner')
      by_upper None joins rejoined =
          let told = rejoined a b a_at b_at in
          let one = joined key height old mid (below_both old height a b) (f (elements_under old height (a ∷ b ∷ [])))
          (mark_under old height (a ∷ b ∷ [])) a.left next left right pair.lower b.left beside joins many small stay in
          let under = joined_written f key TakesOut inner.level next height old mid told.0.0 new a b rising stored
          (pair_level place height inner.level inner.mirror inner.right old pre a b post whole)
          pair.lower (lower_child place height inner.level inner.mirror inner.right old pre a b post whole) one told.0.1 told.0.2 in
          by_list (pre ++ with_mirror (mirror_of pair.lower) a ∷ post) (max inner.mirror (mirror_of pair.lower))
          (rejoined_parent place height inner.level inner.mirror inner.right old pre a b post whole f key TakesOut
          (max inner.mirror (mirror_of pair.lower)) new (with_mirror (mirror_of pair.lower) a ∷ []) local within under
          (omega arith) (omega arith) (omega arith, tt) (omega arith)) told.1
      by_upper (Some upper) joins rejoined =
          let told = rejoined a b a_at b_at in
          let more : ℕ = max (max inner.mirror (mirror_of pair.lower)) (mirror_of upper.node) in
          let both = shared key height old mid (below_both old height a b) (f (elements_under old height (a ∷ b ∷ [])))
          (mark_under old height (a ∷ b ∷ [])) a.left next left right pair.lower b.left upper beside joins small stay in
          let under = shared_written f key TakesOut inner.level next height old mid told.0.0 new a b rising stored
          (pair_level place height inner.level inner.mirror inner.right old pre a b post whole)
          pair.lower upper.node upper.left (lower_child place height inner.level inner.mirror inner.right old pre a b post whole)
          (upper_child place height inner.level inner.mirror inner.right old pre a b post whole) both told.0.1 told.0.2 in
          by_list (pre ++ with_mirror (mirror_of pair.lower) a ∷ record { left = upper.left; child = b.child; mirror = mirror_of upper.node } ∷ post) more
          (rejoined_parent place height inner.level inner.mirror inner.right old pre a b post whole f key TakesOut more new
          (with_mirror (mirror_of pair.lower) a ∷ record { left = upper.left; child = b.child; mirror = mirror_of upper.node } ∷ []) local within under
          (omega arith) (omega arith) (omega arith, (omega arith, tt)) (omega arith)) told.1

  -- the child that holds the key, which may have too few places
  module _ (i : ℕ) (one : Child) (after : Node) (at : slice_get cs i ≡ Some one) (inside : IsInside one.left (next_left inner.right (drop (suc i) cs)) key)
      (change : Changed f key TakesOut (loose (child_place inner.level (next_left inner.right (drop (suc i) cs)) one)) height old
      mid (node_at old one.child) after) (small : count_of after < 16) where
    with_next : (right : Node) → i + 1 < length cs → IsChildNode inner (i + 1) mid right → IsPairJoined inner i after right mid
        new inner' → Changed f key TakesOut (loose place) (suc height) old new (inner_node inner) (inner_node inner')
    with_next right low is pair =
        let found = got_place cs (i + 1) low in
        let b = found.0 in
        let b_at = found.1 in
        let rest = rest_pair cs i one b at b_at in
        let here : IsInside one.left b.left key = subst (λ (l : List Child). IsInside one.left (next_left inner.right l) key) rest inside in
        let below : Changed f key TakesOut (loose (child_place inner.level b.left one)) height old mid (node_at old one.child) after =
        subst (λ (l : List Child). Changed f key TakesOut (loose (child_place inner.level (next_left inner.right l) one)) height
        old mid (node_at old one.child) after) rest change in
        let child = upper_child place height inner.level inner.mirror inner.right old (pre i one b at b_at) one b
        (post i one b at b_at) (whole i one b at b_at) in
        let beside = beside_lower old height inner.level (next i one b at b_at) one b (rising i one b at b_at)
        (stored i one b at b_at) f key TakesOut mid local child after below here.before in
        let stays = upper_stays old height inner.level (next i one b at b_at) one b (rising i one b at b_at)
        (stored i one b at b_at) f key TakesOut mid local child after below in
        let within = lower_inside place height inner.level inner.mirror inner.right old (pre i one b at b_at) one b
        (post i one b at b_at) (whole i one b at b_at) key here in
        pair_changed i one b at b_at after right within
        (subst (λ (n : Node). Beside key TakesOut height old mid (below_both old height one b)
        (f (elements_under old height (one ∷ b ∷ []))) (mark_under old height (one ∷ b ∷ [])) one.left (next i one b at b_at)
        after n b.left) (is b b_at) beside)
        (inr (subst (λ (n : Node). least_count n ≤ count_of n) (is b b_at) stays.stored.tree.fits.count)) (inl (here.before, small))
        (subst (λ (n : Node). LeavesHave (mark_under old height (one ∷ b ∷ [])) b.left after n) (is b b_at)
        (leaves_lower old height inner.level (next i one b at b_at) one b (rising i one b at b_at) (stored i one b at b_at) f key
        mid local child after below)) pair

    with_previous : (j : ℕ) (left : Node) → j + 1 ≡ i → IsChildNode inner j mid left → IsPairJoined inner j left after mid new
        inner' → Changed f key TakesOut (loose place) (suc height) old new (inner_node inner) (inner_node inner')
    with_previous j left back is pair =
        let found = got_place cs j (omega (arith, back, below_length cs i one at)) in
        let a = found.0 in
        let a_at = found.1 in
        let one_at : slice_get cs (j + 1) ≡ Some one = subst (λ (n : ℕ). slice_get cs n ≡ Some one) (sym back) at in
        let two : suc i ≡ j + 2 = omega (arith, back) in
        let here : IsInside one.left (next j a one a_at one_at) key =
        subst (λ (n : ℕ). IsInside one.left (next_left inner.right (drop n cs)) key) two inside in
        let below : Changed f key TakesOut (loose (child_place inner.level (next j a one a_at one_at) one)) height old mid (node_at old one.child) after =
        subst (λ (n : ℕ). Changed f key TakesOut (loose (child_place inner.level (next_left inner.right (drop n cs)) one)) height
        old mid (node_at old one.child) after) two change in
        let child = upper_child place height inner.level inner.mirror inner.right old (pre j a one a_at one_at) a one
        (post j a one a_at one_at) (whole j a one a_at one_at) in
        let beside = beside_upper old height inner.level (next j a one a_at one_at) a one (rising j a one a_at one_at)
        (stored j a one a_at one_at) f key TakesOut mid local child after below here.from in
        let stays = lower_stays old height inner.level (next j a one a_at one_at) a one (rising j a one a_at one_at)
        (stored j a one a_at one_at) f key TakesOut mid local child after below in
        let within = upper_inside place height inner.level inner.mirror inner.right old (pre j a one a_at one_at) a one
        (post j a one a_at one_at) (whole j a one a_at one_at) key here in
        pair_changed j a one a_at one_at left after within
        (subst (λ (n : Node). Beside key TakesOut height old mid (below_both old height a one)
        (f (elements_under old height (a ∷ one ∷ []))) (mark_under old height (a ∷ one ∷ [])) a.left
        (next j a one a_at one_at) n after one.left) (is a a_at) beside)
        (inl (subst (λ (n : Node). least_count n ≤ count_of n) (is a a_at) stays.stored.tree.fits.count)) (inr (here.from, small))
        (subst (λ (n : Node). LeavesHave (mark_under old height (a ∷ one ∷ [])) one.left n after) (is a a_at)
        (leaves_upper old height inner.level (next j a one a_at one_at) a one (rising j a one a_at one_at)
        (stored j a one a_at one_at) f key mid local child after below)) pair where
          below_length : (l : List Child) (n : ℕ) (x : Child) → slice_get l n ≡ Some x → n < length l
          below_length [] n x is = absurd (cc)
          below_length (y ∷ ys) zero x is = omega arith
          below_length (y ∷ ys) (suc n) x is = omega (arith, below_length ys n x is)

    pub joined_changed : IsJoinedAt inner i after mid new inner' → Changed f key TakesOut (loose place) (suc height) old new
        (inner_node inner) (inner_node inner')
    joined_changed (inl (low, right, is, pair)) = with_next right low is pair
    joined_changed (inr (j, back, left, is, pair)) = with_previous j left back is pair
