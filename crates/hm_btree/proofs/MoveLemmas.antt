-- A node that stands at another offset: the node above it, or the root.
use Rattle.std.proofs.Common.{◌≡◌, ◌≢◌, Bool, true, false, true≢false, ◌||◌, ℕ, zero, suc, ◌≤◌, List, [], ◌∷◌, ◌++◌, length, take, drop, refl, sym, ap, subst}
use Rattle.std.proofs.Common.{◌∙◌, arith, nat_eq, eqb-true, Some, None, append-nil, length-append}
use Rattle.std.specs.Prelude.{Option, IsSome, IfSome, All, slice_get}
use Rattle.std.specs.List.Sorted.{IsStrictlySortedBy}
use Rattle.std.proofs.lemmas.List.Elements.{All-from_recursion, recursion_from_All}
use Rattle.hm_types.specs.Elements.{Key}
use Rattle.hm_types.specs.Told.{BothTell}
use Rattle.hm_fields.specs.Pages.{PageMap, page_in}
use Rattle.hm_key.specs.Key.{key_of, IsBefore}
use Rattle.hm_key.specs.declared.base.Base.{Base}
use Rattle.hm_node.specs.Inner.{IsChild, HasInnerOrder}
use Rattle.hm_node.specs.Node.{node_in, Spells}
use Rattle.hm_node.specs.declared.inner.Child.{Child}
use Rattle.hm_node.specs.declared.inner.Inner.{Inner}
use Rattle.hm_node.specs.declared.node.Node.{Node}
use Rattle.hm_node.specs.declared.node.Node.TheVariants.{Inner as inner_node}
use Rattle.hm_search.specs.Place.{IsInside, FitsCount}
use Rattle.hm_search.specs.Search.{holder_place}
use Rattle.hm_search.specs.Tree.{node_at, elements_in, mark_in, reaches, next_left, child_place, children_of, height_of, root_place, IsTree}
use Rattle.hm_search.specs.Tree.{IsStoredTree, elements_of}
use Rattle.hm_search.specs.declared.subtree.Parent.{Parent}
use Rattle.hm_search.specs.declared.subtree.Subtree.{Subtree}
use Rattle.hm_search.proofs.ChildLemmas.{IsChildAt, begins_before, place_is}
use Rattle.hm_search.proofs.FrameLemmas.{IsSameBelow, frame_elements, frame_mark, frame_reaches, frame_tree}
use Rattle.hm_search.proofs.ListLemmas.{each_append}
use Rattle.hm_search.proofs.ReachLemmas.{not_below_itself}
use Rattle.hm_btree.specs.Marking.{Leaves}
use Rattle.hm_btree.specs.Edits.{inner_of, with_child, ChildChange}
use Rattle.hm_btree.specs.Below.{has_under, IsLocal, Changed, ChangedUnder, Works, SpellsAt}
use Rattle.hm_btree.specs.Space.{HasAdded, HasLost, HasNew, IsSpot}
use Rattle.hm_btree.specs.Tree.{IsTreeSpace, TreeChanged}
use Rattle.hm_btree.proofs.EditLemmas.{read_there, split_at, set_at_place, child_inside, child_tree}
use Rattle.hm_btree.proofs.NodeLemmas.{changed_within, changed_above}
use Rattle.hm_btree.proofs.OrderLemmas.{each_front, each_back, rising_back}
use Rattle.hm_btree.proofs.PutLemmas.{put_at, put_other, lost_at, lost_other, not_there, other_test, same_test, replaces_lost, replaces_new, replaces_none}
use Rattle.hm_btree.proofs.UnderLemmas.{or_nil, reached_there, replaces_same}
use Rattle.hm_btree.proofs.WorksLemmas.{inner_is}

-- a list that stays has to do with no key
pub stays_local : (key : Key) → IsLocal (λ es. es) key
stays_local key = record { front = λ xs ys before. refl; back = λ xs ys after. refl }

-- the page of a node came elsewhere, and went from where it was
module _ (old mid new : PageMap) (at to : ℕ) (page : List ℕ) (there : IsSome (old at)) (come : HasNew to page old mid) (lost : HasLost at mid new) where
  moved_apart : to ≢ at
  moved_apart same = not_there (old to) come.free (subst (λ (a : ℕ). IsSome (old a)) (sym same) there)

  pub moved_there : new to ≡ Some page
  moved_there = lost_other at mid new lost to moved_apart ∙ put_at to page old mid come.put

  moved_other : (x : ℕ) → IsSome (old x) → x ≢ at → new x ≡ old x
  moved_other x some other = lost_other at mid new lost x other ∙ put_other to page old mid come.put x
      (λ same. not_there (old to) come.free (subst (λ (a : ℕ). IsSome (old a)) same some))

  -- all below it stays
  moved_below : (height : ℕ) (s : Subtree) (node : Node) → IsTree old height s node → node_at old at ≡ node → IsSameBelow old new height node
  moved_below height s node tree here = record {
    same = λ x is. moved_other x (reached_there old height s node x tree is)
        (λ same. true≢false (sym is ∙ ap (reaches old height node) same ∙ not_below_itself old height s node at tree here));
  }

-- a sound node is so at any other offset
tree_elsewhere : (map : PageMap) (height to : ℕ) (s : Subtree) (node : Node) → IsTree map height s node → IsTree map height (record s { at = to }) node
tree_elsewhere map height to s node tree = record {
  sound = tree.sound;
  level = tree.level;
  fits = record { level = tree.fits.level; count = tree.fits.count; bounds = tree.fits.bounds; mirror = tree.fits.mirror };
  below = tree.below;
}

-- a child stands elsewhere
module _ (key : Key) (level : ℕ) (next : Base) (height : ℕ) (old mid new : PageMap) (c : Child) (to : ℕ) where
  child_moved : IsChild c → IsSpot to → IsBefore (key_of c.left) (key_of next) → IsStoredTree old height (child_place level next c)
      → HasAdded to (node_at old c.child) old mid → HasLost c.child mid new
      → ChangedUnder (λ es. es) key Leaves level next height old new (c ∷ []) (with_child to c ∷ [])
  unfolding IsStrictlySortedBy
  child_moved child spot before stored (page, spells, come) lost =
      let was : Node = node_at old c.child in
      let place : Subtree = child_place level next c in
      let olds : ℕ → Bool = reaches old height was in
      let same : IsSameBelow old new height was = moved_below old mid new c.child to page stored.there come lost height place was stored.tree refl in
      let there : new to ≡ Some page = moved_there old mid new c.child to page stored.there come lost in
      let here : node_at new to ≡ was = ap (λ (o : Option (List ℕ)). node_in (page_in o)) there ∙ spells.value in
      let elements : elements_in new height (node_at new to) ≡ elements_in old height was = ap
      (elements_in new height) here ∙ frame_elements old new height was same in
      let reached : (x : ℕ) → reaches new height (node_at new to) x ≡ olds x = λ x. ap
      (λ (n : Node). reaches new height n x) here ∙ frame_reaches old new x height was same in
      record {
        stored = (
          record {
            there = rw there refl;
            spelled = subst (λ (o : Option (List ℕ)). Spells (page_in o) (node_in (page_in o))) (sym there)
                (subst (λ (n : Node). Spells page n) (sym spells.value) spells);
            tree = subst (λ (n : Node). IsTree new height (child_place level next (with_child to c)) n) (sym here)
                (frame_tree old new height (child_place level next (with_child to c)) was same (tree_elsewhere old height to place was stored.tree));
          },
          tt,
        );
        elements = append-nil (elements_in new height (node_at new to)) ∙ elements ∙ sym (append-nil (elements_in old height was));
        mark = λ k. ap (λ (n : Node). mark_in new height n k) here ∙ frame_mark old new k height was same;
        pages = replaces_same old new (λ x. nat_eq c.child x || olds x) (λ x. nat_eq to x || olds x) (has_under old height (c ∷ []))
            (has_under new height (with_child to c ∷ []))
            (λ x. or_nil (nat_eq c.child x || olds x))
            (λ x. or_nil (nat_eq to x || reaches new height (node_at new to) x) ∙ ap (λ (b : Bool). nat_eq to x || b) (reached x))
            (replaces_lost c.child olds (λ x. nat_eq to x || olds x) old mid new lost
            (replaces_new to page olds olds old old mid come spot (replaces_none olds old (λ x is. reached_there old height place was x stored.tree is))));
        left = refl;
        rising = ((before, tt), (tt, tt));
        fields = (record { left = child.left; child = spot.node }, tt);
      }

-- the node above it
module _ (key : Key) (place : Subtree) (height level mirror : ℕ) (right : Base) (old : PageMap) (pre : List Child) (c : Child) (post : List Child) where
  parent_moved : (mid new : PageMap) (to : ℕ) → IsTree old (suc height) place (inner_node (inner_of level mirror (pre ++ c ∷ post) right))
      → length pre ≡ holder_place key (pre ++ c ∷ post) → IsInside place.left place.right key → IsSpot to → HasAdded to (node_at old c.child) old mid
      → HasLost c.child mid new
      → Changed (λ es. es) key Leaves place (suc height) old new (inner_node (inner_of level mirror (pre ++ c ∷ post) right))
      (inner_node (inner_of level mirror (pre ++ with_child to c ∷ post) right))
  parent_moved mid new to tree held inside spot added lost =
      let children = recursion_from_All IsChild (pre ++ c ∷ post) tree.sound.fields.children in
      let one = (each_back IsChild pre (c ∷ post) children).0 in
      let next = begins_before right c post (rising_back right pre (c ∷ post) tree.sound.order) in
      let holds = child_inside key place height level mirror right old pre c post tree held inside in
      let segment = child_moved key level (next_left right post) height old mid new c to one spot next
      (child_tree key place height level mirror right old pre c post tree held inside) added lost in
      let all = changed_within (λ es. es) key Leaves level right height old new (stays_local key) c (with_child to c) [] [] post pre
      children tree.sound.order tree.below holds.from holds.before segment in
      let long : length (pre ++ with_child to c ∷ post) ≡ length (pre ++ c ∷ post) = length-append pre (with_child to c ∷ post) ∙ sym
      (length-append pre (c ∷ post)) in
      changed_above (λ es. es) key Leaves place height old new level mirror mirror right (pre ++ c ∷ post) (pre ++ with_child to c ∷ post) tree all
      mirrors (omega (arith, long, tree.sound.count.0)) (omega (arith, long, tree.sound.count.1)) (counts place.parent long tree.fits.count) where
        mirrors : All (λ d. d.mirror ≤ mirror) (pre ++ with_child to c ∷ post)
        mirrors =
            let each = recursion_from_All (λ d. d.mirror ≤ mirror) (pre ++ c ∷ post) tree.sound.mirror in
            All-from_recursion (λ d. d.mirror ≤ mirror) (pre ++ with_child to c ∷ post)
            (each_append (λ d. d.mirror ≤ mirror) pre (with_child to c ∷ post) (each_front (λ d. d.mirror ≤ mirror) pre (c ∷ post) each)
            (each_back (λ d. d.mirror ≤ mirror) pre (c ∷ post) each))

        counts : (p : Option Parent) → length (pre ++ with_child to c ∷ post) ≡ length (pre ++ c ∷ post)
            → FitsCount p (inner_node (inner_of level mirror (pre ++ c ∷ post) right))
            → FitsCount p (inner_node (inner_of level mirror (pre ++ with_child to c ∷ post) right))
        counts None long count = tt
        counts (Some q) long count = omega (arith, long, count)

-- the same of the node in a page, where the pages are told
module _ (key : Key) (inner inner' : Inner) (i : ℕ) (s : Subtree) (child : Node) (to : ℕ) (spot : IsSpot to) where
  moved_in : (old mid new : PageMap) (height : ℕ) (place : Subtree) → IsTree old height place (inner_node inner)
      → IsInside place.left place.right key → (HasInnerOrder inner → i ≡ holder_place key inner.places.items)
      → IsChildAt inner.level inner.right inner.places.items i s → SpellsAt old s child → HasAdded to child old mid → HasLost s.at mid new
      → inner'.level ≡ inner.level → inner'.mirror ≡ inner.mirror → ChildChange (with_child to) inner.places.items i inner'.places.items
      → inner'.right ≡ inner.right
      → Changed (λ es. es) key Leaves place height old new (inner_node inner) (inner_node inner')
  moved_in old mid new zero place tree inside at there here added lost level mirror items right = absurd (omega (arith, tree.level, tree.sound.level.0))
  moved_in old mid new (suc lower) place tree inside at there here added lost level mirror items right =
      let cs : List Child = inner.places.items in
      let c : Child = there.child in
      let pre : List Child = take i cs in
      let post : List Child = drop (suc i) cs in
      let split = split_at cs i c there.is in
      let tree' : IsTree old (suc lower) place (inner_node (inner_of inner.level inner.mirror (pre ++ c ∷ post) inner.right)) =
      subst (λ (l : List Child). IsTree old (suc lower) place (inner_node (inner_of inner.level inner.mirror l inner.right))) split.0 tree in
      let held : length pre ≡ holder_place key (pre ++ c ∷ post) = split.1 ∙ at tree.sound.order ∙ ap (holder_place key) split.0 in
      let where_is : s.at ≡ c.child = ap (λ (t : Subtree). t.at) there.place in
      let stored : IsStoredTree old lower (child_place inner.level (next_left inner.right post) c) =
      child_tree key place lower inner.level inner.mirror inner.right old pre c post tree' held inside in
      let read : node_at old c.child ≡ child = read_there old s c.child child where_is stored.there here in
      let items' : inner'.places.items ≡ pre ++ with_child to c ∷ post = items c ∙ set_at_place (with_child to) cs i c there.is in
      let end : inner' ≡ inner_of inner.level inner.mirror (pre ++ with_child to c ∷ post) inner.right =
      inner_is inner' inner.level inner.mirror (pre ++ with_child to c ∷ post) inner.right level mirror items' right in
      let whole = parent_moved key place lower inner.level inner.mirror inner.right old pre c post mid new to tree' held inside spot
      (subst (λ (n : Node). HasAdded to n old mid) (sym read) added) (subst (λ (a : ℕ). HasLost a mid new) where_is lost) in
      subst (λ (x : Inner). Changed (λ es. es) key Leaves place (suc lower) old new (inner_node inner) (inner_node x)) (sym end)
      (subst (λ (l : List Child). Changed (λ es. es) key Leaves place (suc lower) old new (inner_node (inner_of inner.level inner.mirror l inner.right))
      (inner_node (inner_of inner.level inner.mirror (pre ++ with_child to c ∷ post) inner.right))) (sym split.0) whole)

  pub moved_works : (node : Node) (p0 p1 p2 p3 : Option PageMap) → node ≡ inner_node inner
      → (HasInnerOrder inner → i ≡ holder_place key inner.places.items) → slice_get (children_of inner) i ≡ Some s → p1 ≡ p0
      → IfSome p0 (λ map. SpellsAt map s child)
      → BothTell p1 p2 (HasAdded to child) → BothTell p2 p3 (HasLost s.at)
      → inner'.level ≡ inner.level → inner'.mirror ≡ inner.mirror → ChildChange (with_child to) inner.places.items i inner'.places.items
      → inner'.right ≡ inner.right
      → Works (λ es. es) key Leaves (λ _. Unit {0}) p0 p3 node (inner_node inner')
  moved_works node p0 p1 p2 p3 is at there same here added lost level mirror items right =
      by_told p0 p2 p3 here (subst (λ (p : Option PageMap). BothTell p p2 (HasAdded to child)) same added) lost where
        by_told : (p0 p2 p3 : Option PageMap) → IfSome p0 (λ map. SpellsAt map s child) → BothTell p0 p2 (HasAdded to child) → BothTell p2 p3 (HasLost s.at)
            → Works (λ es. es) key Leaves (λ _. Unit {0}) p0 p3 node (inner_node inner')
        by_told None p2 p3 here added lost = tt
        by_told (Some old) None p3 here added lost = absurd added
        by_told (Some old) (Some mid) None here added lost = absurd lost
        by_told (Some old) (Some mid) (Some new) here added lost = λ place height tree inside needs.
            subst (λ (n : Node). Changed (λ es. es) key Leaves place height old new n (inner_node inner')) (sym is)
            (moved_in old mid new height place (subst (λ (n : Node). IsTree old height place n) is tree) inside at
            (place_is inner.level inner.right inner.places.items i s there) here added lost level mirror items right)

-- the root stands elsewhere
module _ (key : Key) (root to : ℕ) (old mid new : PageMap) where
  pub root_moved : IsTreeSpace old root → IsSpot to → HasAdded to (node_at old root) old mid → HasLost root mid new
      → TreeChanged (λ es. es) key Leaves old new root to
  root_moved tree spot (page, spells, come) lost =
      let was : Node = node_at old root in
      let h : ℕ = height_of was in
      let same : IsSameBelow old new h was = moved_below old mid new root to page tree.sound.there come lost h (root_place root) was tree.sound.tree refl in
      let there : new to ≡ Some page = moved_there old mid new root to page tree.sound.there come lost in
      let here : node_at new to ≡ was = ap (λ (o : Option (List ℕ)). node_in (page_in o)) there ∙ spells.value in
      let high : height_of (node_at new to) ≡ h = ap height_of here in
      let elements : elements_of new to ≡ elements_in old h was =
      ap (λ (n : ℕ). elements_in new n (node_at new to)) high ∙ ap (elements_in new h) here ∙ frame_elements old new h was same in
      let reached : (x : ℕ) → reaches new (height_of (node_at new to)) (node_at new to) x ≡ reaches old h was x = λ x.
      ap (λ (n : ℕ). reaches new n (node_at new to) x) high ∙ ap (λ (n : Node). reaches new h n x) here ∙ frame_reaches old new x h was same in
      record {
        tree = record {
          sound = subst (λ (n : ℕ). IsStoredTree new n (root_place to)) (sym high) (record {
            there = rw there refl;
            spelled = subst (λ (o : Option (List ℕ)). Spells (page_in o) (node_in (page_in o))) (sym there)
                (subst (λ (n : Node). Spells page n) (sym spells.value) spells);
            tree = subst (λ (n : Node). IsTree new h (root_place to) n) (sym here)
                (frame_tree old new h (root_place to) was same (tree_elsewhere old h to (root_place root) was tree.sound.tree));
          });
          whole = λ x some. by_side x some (nat_eq x to) refl (reached x);
          spots = λ x some. by_spot x some (nat_eq x to) refl;
        };
        elements = elements;
        mark = λ k. ap (λ (n : ℕ). mark_in new n (node_at new to) k) high ∙ ap (λ (n : Node). mark_in new h n k) here ∙ frame_mark old new k h was same;
      } where
        -- a page that is not the moved one stood there before
        stood : (x : ℕ) → IsSome (new x) → nat_eq x to ≡ false → IsSome (old x) × (nat_eq x root ≡ false)
        stood x some other =
            let apart : x ≢ root = λ same. not_there (new root) (lost_at root mid new lost) (subst (λ (a : ℕ). IsSome (new a)) same some) in
            let not : x ≢ to = λ same. true≢false (subst (λ (a : ℕ). nat_eq a to ≡ false → true ≡ false) (sym same) (λ no. sym (same_test to) ∙ no) other) in (
              subst (λ (o : Option (List ℕ)). IsSome o) (lost_other root mid new lost x apart ∙ put_other to page old mid come.put x not) some,
              other_test x root apart,
            )

        by_side : (x : ℕ) → IsSome (new x) → (b : Bool) → nat_eq x to ≡ b
            → reaches new (height_of (node_at new to)) (node_at new to) x ≡ reaches old (height_of (node_at old root)) (node_at old root) x
            → (nat_eq x to || reaches new (height_of (node_at new to)) (node_at new to) x) ≡ true
        by_side x some true is same = rw is refl
        by_side x some false is same =
            let before = stood x some is in
            let whole : (nat_eq x root || reaches old (height_of (node_at old root)) (node_at old root) x) ≡ true = tree.whole x before.0 in
            rw is (same ∙ rw before.1 at whole)

        by_spot : (x : ℕ) → IsSome (new x) → (b : Bool) → nat_eq x to ≡ b → IsSpot x
        by_spot x some true is = subst (λ (a : ℕ). IsSpot a) (sym (eqb-true x to is)) spot
        by_spot x some false is = tree.spots x (stood x some is).0
