-- A leaf of a tree that gets other elements and keeps its `mirror`. Each node above it stays, so it doesn't matter how one came to the leaf.
use Rattle.std.proofs.Common.{◌≡◌, ◌≢◌, Bool, true, false, true≢false, ◌||◌, ℕ, zero, suc, ◌≤◌, inl, List, [], ◌∷◌, ◌++◌, length, refl, sym, ap, subst}
use Rattle.std.proofs.Common.{◌∙◌, ◌+◌, arith, nat_eq, eqb-true, append-nil, remove, Some, None}
use Rattle.std.specs.Prelude.{Option, IsSome, IfSome, if◌then◌else◌}
use Rattle.std.specs.Cmp.{Equal-is}
use Rattle.std.specs.List.{AllByRecursion, list_any}
use Rattle.std.specs.List.Sorted.{IsStrictlySortedBy}
use Rattle.std.specs.declared.cmp.Ordering.TheVariants.{Less}
use Rattle.std.proofs.lemmas.List.{append_assoc}
use Rattle.std.proofs.lemmas.List.Edits.{length-remove}
use Rattle.std.proofs.lemmas.List.Elements.{recursion_from_All}
use Rattle.std.proofs.lemmas.Option.{IfSome_then}
use Rattle.hm_types.specs.Told.{BothTell}
use Rattle.hm_types.specs.Elements.{Key}
use Rattle.hm_fields.specs.Pages.{PageMap, page_in}
use Rattle.hm_key.specs.Key.{IsBefore}
use Rattle.hm_key.specs.Elements.{element_at, element_cmp, element_key, removed, stands_at}
use Rattle.hm_key.specs.Places.{leading, IsPlace}
use Rattle.hm_key.specs.declared.base.Base.{Base}
use Rattle.hm_key.specs.declared.element.Element.{Element}
use Rattle.hm_key.proofs.KeyLemmas.{key_same}
use Rattle.hm_key.proofs.PlaceLemmas.{removed-place, IsPlace-within}
use Rattle.hm_node.specs.Edits.{IsLeafPage}
use Rattle.hm_node.specs.Head.{head_in}
use Rattle.hm_node.specs.Leaf.{element_in, leaf_in, HasLeafOrder}
use Rattle.hm_node.specs.Node.{node_in, Spells}
use Rattle.hm_node.specs.Places.{place}
use Rattle.hm_node.specs.declared.inner.Child.{Child}
use Rattle.hm_node.specs.declared.leaf.Leaf.{Leaf}
use Rattle.hm_node.specs.declared.node.Node.{Node}
use Rattle.hm_node.specs.declared.node.Node.TheVariants.{Leaf as leaf_node, Inner as inner_node}
use Rattle.hm_node.proofs.PlaceLemmas.{first_length}
use Rattle.hm_node.proofs.ReadyLemmas.{leaf_there}
use Rattle.hm_search.specs.Place.{IsInside, FitsCount, FitsLevel, FitsMirror}
use Rattle.hm_search.specs.Reach.{is_under}
use Rattle.hm_search.specs.Tree.{node_at, elements_in, elements_of, mark_in, mark_of, reaches, Reaches, height_of, root_place, next_left, child_place}
use Rattle.hm_search.specs.Tree.{HasChildren, IsTree, IsStoredTree, IsSoundTree}
use Rattle.hm_search.specs.declared.subtree.Parent.{Parent}
use Rattle.hm_search.specs.declared.subtree.Subtree.{Subtree}
use Rattle.hm_search.proofs.ChildLemmas.{later_sorted}
use Rattle.hm_search.proofs.ContentLemmas.{tree_content}
use Rattle.hm_search.proofs.FrameLemmas.{holder_same}
use Rattle.hm_search.proofs.ReachLemmas.{apart_children}
use Rattle.hm_search.proofs.SearchLemmas.{leaf_elements}
use Rattle.hm_search.proofs.WithinLemmas.{front_sorted, rest_sorted}
use Rattle.hm_btree.specs.Below.{AreRising, AreStored, IsLocal, elements_under, has_under}
use Rattle.hm_btree.specs.Calls.Near.{IsLargeLeaf}
use Rattle.hm_btree.specs.Calls.Remove.{RemovesAt}
use Rattle.hm_btree.specs.Edits.{leaf_of}
use Rattle.hm_btree.specs.Marking.{Marking, TakesOut, MarksBy}
use Rattle.hm_btree.specs.Space.{HasWritten, IsUpdated}
use Rattle.hm_btree.specs.Tree.{ChangesTree, IsTreeSpace, TreeChanged}
use Rattle.hm_btree.proofs.LocalLemmas.{element_each, leading_place, removed_local}
use Rattle.hm_btree.proofs.PutLemmas.{put_at, put_other, test_other}
use Rattle.hm_btree.proofs.RemoveLemmas.{removed_leaf}
use Rattle.hm_btree.proofs.ToldLemmas.{IfSome_both, both_then}
use Rattle.hm_btree.proofs.UnderLemmas.{under_elements}

-- the leaf at an offset got other elements, and is sound wherever the old one was
pub record TurnsLeaf (old new : PageMap) (x : ℕ) (leaf after : Leaf) : Type 0 where
  pub here : node_at old x ≡ leaf_node leaf
  pub now : node_at new x ≡ leaf_node after
  pub there : IsSome (new x)
  pub spelled : Spells (page_in (new x)) (leaf_node after)
  pub others : (y : ℕ) → y ≢ x → new y ≡ old y
  pub mirror : after.mirror ≡ leaf.mirror
  pub sound : (height : ℕ) (s : Subtree) → IsTree old height s (leaf_node leaf) → IsTree new height s (leaf_node after)

-- a stretch of a list became another one
pub record HasTurned (es fs part part' : List Element) : Type 0 where
  pub before : List Element
  pub after : List Element
  pub was : es ≡ before ++ (part ++ after)
  pub is : fs ≡ before ++ (part' ++ after)

turned_itself : (es fs part part' : List Element) → es ≡ part → fs ≡ part' → HasTurned es fs part part'
turned_itself es fs part part' was is = record {
  before = [];
  after = [];
  was = was ∙ sym (append-nil part);
  is = is ∙ sym (append-nil part');
}

turned_front : (xs ys zs part part' : List Element) → HasTurned xs ys part part' → HasTurned (xs ++ zs) (ys ++ zs) part part'
turned_front xs ys zs part part' has = record {
  before = has.before;
  after = has.after ++ zs;
  was = longer xs part has.was;
  is = longer ys part' has.is;
} where
  longer : (l p : List Element) → l ≡ has.before ++ (p ++ has.after) → l ++ zs ≡ has.before ++ (p ++ (has.after ++ zs))
  longer l p is = ap (λ (m : List Element). m ++ zs) is ∙ append_assoc has.before (p ++ has.after) zs
      ∙ ap (λ (m : List Element). has.before ++ m) (append_assoc p has.after zs)

turned_back : (xs ys zs part part' : List Element) → HasTurned ys zs part part' → HasTurned (xs ++ ys) (xs ++ zs) part part'
turned_back xs ys zs part part' has = record {
  before = xs ++ has.before;
  after = has.after;
  was = longer ys part has.was;
  is = longer zs part' has.is;
} where
  longer : (l p : List Element) → l ≡ has.before ++ (p ++ has.after) → xs ++ l ≡ (xs ++ has.before) ++ (p ++ has.after)
  longer l p is = ap (λ (m : List Element). xs ++ m) is ∙ sym (append_assoc xs has.before (p ++ has.after))

module _ (P : Element → Type 0) where
  all_front : (xs ys : List Element) → AllByRecursion P (xs ++ ys) → AllByRecursion P xs
  all_front [] ys each = tt
  all_front (x ∷ xs) ys each = (each.0, all_front xs ys each.1)

  all_back : (xs ys : List Element) → AllByRecursion P (xs ++ ys) → AllByRecursion P ys
  all_back [] ys each = each
  all_back (x ∷ xs) ys each = all_back xs ys each.1

module _ (key : Key) where
  -- in a list in order, what stands before a stretch that has a key stands before the key
  all_before : (before part after : List Element) → IsStrictlySortedBy element_cmp (before ++ (part ++ after)) → IsSome (element_at key part)
      → AllByRecursion (λ e. IsBefore (element_key e) key) before
  unfolding IsStrictlySortedBy
  all_before [] part after sorted there = tt
  all_before (b ∷ bs) part after sorted there =
      let less : AllByRecursion (λ e. element_cmp b e ≡ Less) part =
      all_front (λ e. element_cmp b e ≡ Less) part after (all_back (λ e. element_cmp b e ≡ Less) bs (part ++ after) sorted.0) in
      let one = element_each (λ e. element_cmp b e ≡ Less) key part less there in
      (subst (λ (k : Key). IsBefore (element_key b) k) one.1 one.2, all_before bs part after sorted.1 there)

  -- and what stands after the stretch after it
  all_after : (part after : List Element) → IsStrictlySortedBy element_cmp (part ++ after) → IsSome (element_at key part)
      → AllByRecursion (λ e. IsBefore key (element_key e)) after
  unfolding IsStrictlySortedBy
  all_after [] after sorted there = absurd (true≢false (sym there))
  all_after (d ∷ ds) after sorted there = by_test (stands_at key d) refl there (λ some. all_after ds after sorted.1 some) where
    by_test : (b : Bool) → stands_at key d ≡ b → IsSome (if b then Some d else element_at key ds)
        → (IsSome (element_at key ds) → AllByRecursion (λ e. IsBefore key (element_key e)) after) → AllByRecursion (λ e. IsBefore key (element_key e)) after
    by_test true is some later = subst (λ (k : Key). AllByRecursion (λ e. IsBefore k (element_key e)) after)
        (key_same (element_key d) key ((Equal-is _).0 is)) (all_back (λ e. element_cmp d e ≡ Less) ds after sorted.0)
    by_test false is some later = later some

  -- so a change that has to do with the key alone is one of that stretch
  turned_local : (f : List Element → List Element) → IsLocal f key → (es fs part part' : List Element) → IsStrictlySortedBy element_cmp es
      → IsSome (element_at key part) → part' ≡ f part → HasTurned es fs part part' → fs ≡ f es
  turned_local f local es fs part part' sorted there same has =
      let order : IsStrictlySortedBy element_cmp (has.before ++ (part ++ has.after)) = subst (IsStrictlySortedBy element_cmp) has.was sorted in
      let first : f (has.before ++ (part ++ has.after)) ≡ has.before ++ f (part ++ has.after) =
      local.front has.before (part ++ has.after) (all_before has.before part has.after order there) in
      let last : f (part ++ has.after) ≡ f part ++ has.after =
      local.back part has.after (all_after part has.after (rest_sorted element_cmp has.before (part ++ has.after) order) there) in
      has.is ∙ ap (λ (l : List Element). has.before ++ (l ++ has.after)) same ∙ ap (λ (l : List Element). has.before ++ l) (sym last)
      ∙ sym first ∙ ap f (sym has.was)

leaf_mark : (map : PageMap) (height : ℕ) (leaf : Leaf) (key : Key) → mark_in map height (leaf_node leaf) key ≡ leaf.mirror
leaf_mark map zero leaf key = refl
leaf_mark map (suc height) leaf key = refl

leaf_reaches : (map : PageMap) (height : ℕ) (leaf : Leaf) (y : ℕ) → reaches map height (leaf_node leaf) y ≡ false
leaf_reaches map zero leaf y = refl
leaf_reaches map (suc height) leaf y = refl

module _ (old new : PageMap) (x : ℕ) (leaf after : Leaf) (turns : TurnsLeaf old new x leaf after) where
  node_stays : (y : ℕ) → y ≢ x → node_at new y ≡ node_at old y
  node_stays y other = ap (λ (o : Option (List ℕ)). node_in (page_in o)) (turns.others y other)

  -- what a function of nodes gives at an offset stays, where it gives the same of both leaves
  same_at : {A : Type 0} (f : PageMap → Node → A) → f new (leaf_node after) ≡ f old (leaf_node leaf) → ((node : Node) → f new node ≡ f old node)
      → (y : ℕ) → f new (node_at new y) ≡ f old (node_at old y)
  same_at f leaves stays y = by_test (nat_eq y x) refl where
    by_test : (b : Bool) → nat_eq y x ≡ b → f new (node_at new y) ≡ f old (node_at old y)
    by_test true is = let same = eqb-true y x is in
        ap (λ (z : ℕ). f new (node_at new z)) same ∙ ap (f new) turns.now ∙ leaves ∙ sym (ap (λ (z : ℕ). f old (node_at old z)) same ∙ ap (f old) turns.here)
    by_test false is = ap (f new) (node_stays y (test_other y x is)) ∙ stays (node_at old y)

  -- which pages are reached
  turned_reaches : (y height : ℕ) (node : Node) → reaches new height node y ≡ reaches old height node y
  turned_reaches y zero (leaf_node l) = refl
  turned_reaches y zero (inner_node inner) = refl
  turned_reaches y (suc height) (leaf_node l) = refl
  turned_reaches y (suc height) (inner_node inner) = each (λ node. turned_reaches y height node) inner.places.items where
    each : ((node : Node) → reaches new height node y ≡ reaches old height node y) → (cs : List Child)
        → list_any (is_under new height y) cs ≡ list_any (is_under old height y) cs
    each below [] = refl
    each below (c ∷ cs) = rw (
      same_at (λ map node. reaches map height node y)
          (leaf_reaches new height after y ∙ sym (leaf_reaches old height leaf y)) below c.child,
      each below cs,
    ) refl

  -- the marks
  turned_mark : (key : Key) (height : ℕ) (node : Node) → mark_in new height node key ≡ mark_in old height node key
  turned_mark key zero (leaf_node l) = refl
  turned_mark key zero (inner_node inner) = refl
  turned_mark key (suc height) (leaf_node l) = refl
  turned_mark key (suc height) (inner_node inner) =
      holder_same key (λ c. mark_in new height (node_at new c.child) key) (λ c. mark_in old height (node_at old c.child) key) inner.places.items
      (each (λ node. turned_mark key height node) inner.places.items) where
        each : ((node : Node) → mark_in new height node key ≡ mark_in old height node key) → (cs : List Child)
            → AllByRecursion (λ (c : Child). mark_in new height (node_at new c.child) key ≡ mark_in old height (node_at old c.child) key) cs
        each below [] = tt
        each below (c ∷ cs) = (
          same_at (λ map node. mark_in map height node key)
              (leaf_mark new height after key ∙ turns.mirror ∙ sym (leaf_mark old height leaf key)) below c.child,
          each below cs,
        )

  -- all is sound that was
  module _ (height : ℕ) (below : (node : Node) → HasChildren old height node → HasChildren new height node) where
    stored_with : (s : Subtree) → IsStoredTree old height s → IsStoredTree new height s
    stored_with s stored = by_test (nat_eq s.at x) refl where
      by_test : (b : Bool) → nat_eq s.at x ≡ b → IsStoredTree new height s
      by_test true is =
          let same : s.at ≡ x = eqb-true s.at x is in
          let was : node_at old s.at ≡ leaf_node leaf = ap (λ (z : ℕ). node_at old z) same ∙ turns.here in
          let now : node_at new s.at ≡ leaf_node after = ap (λ (z : ℕ). node_at new z) same ∙ turns.now in
          record {
            there = subst (λ (z : ℕ). IsSome (new z)) (sym same) turns.there;
            spelled = subst (λ (n : Node). Spells (page_in (new s.at)) n) (sym now)
                (subst (λ (z : ℕ). Spells (page_in (new z)) (leaf_node after)) (sym same) turns.spelled);
            tree = subst (λ (n : Node). IsTree new height s n) (sym now)
                (turns.sound height s (subst (λ (n : Node). IsTree old height s n) was stored.tree));
          }
      by_test false is =
          let page : new s.at ≡ old s.at = turns.others s.at (test_other s.at x is) in
          record {
            there = subst (λ (o : Option (List ℕ)). IsSome o) (sym page) stored.there;
            spelled = subst (λ (o : Option (List ℕ)). Spells (page_in o) (node_in (page_in o))) (sym page) stored.spelled;
            tree = subst (λ (o : Option (List ℕ)). IsTree new height s (node_in (page_in o))) (sym page) (record {
              sound = stored.tree.sound;
              level = stored.tree.level;
              fits = stored.tree.fits;
              below = below (node_at old s.at) stored.tree.below;
            });
          }

    stored_each : (level : ℕ) (right : Base) (cs : List Child) → AreStored old height level right cs → AreStored new height level right cs
    stored_each level right [] each = tt
    stored_each level right (c ∷ cs) each = (stored_with (child_place level (next_left right cs) c) each.0, stored_each level right cs each.1)

  turned_children : (height : ℕ) (node : Node) → HasChildren old height node → HasChildren new height node
  turned_children zero node sound = tt
  turned_children (suc height) (leaf_node l) sound = sound
  turned_children (suc height) (inner_node inner) sound =
      stored_each height (λ node children. turned_children height node children) inner.level inner.right inner.places.items sound

  turned_stored : (height : ℕ) (s : Subtree) → IsStoredTree old height s → IsStoredTree new height s
  turned_stored height s stored = stored_with height (λ node children. turned_children height node children) s stored

  -- children under which the leaf is not
  stays_under : (height : ℕ) (right : Base) (cs : List Child) → has_under old height cs x ≡ false
      → elements_under new height cs ≡ elements_under old height cs
  stays_under height right cs not = under_elements old new height right cs (record {
    same = λ y is. turns.others y (λ same. true≢false (sym (subst (λ (z : ℕ). has_under old height cs z ≡ true) same is) ∙ not));
  })

  turned_at : (height y : ℕ) → y ≡ x → HasTurned (elements_in old height (node_at old y)) (elements_in new height (node_at new y))
      leaf.places.items after.places.items
  turned_at height y same = turned_itself (elements_in old height (node_at old y)) (elements_in new height (node_at new y)) leaf.places.items after.places.items
      (ap (λ (z : ℕ). elements_in old height (node_at old z)) same ∙ ap (elements_in old height) turns.here ∙ leaf_elements old height leaf)
      (ap (λ (z : ℕ). elements_in new height (node_at new z)) same ∙ ap (elements_in new height) turns.now ∙ leaf_elements new height after)

  -- children of which one is the leaf, or has it below it
  module _ (height : ℕ)
      (below : (s : Subtree) (node : Node) → IsTree old height s node → Reaches old height node x
      → HasTurned (elements_in old height node) (elements_in new height node) leaf.places.items after.places.items) where
    abbrev was_under : Child → List Element
    was_under c = elements_in old height (node_at old c.child)

    abbrev is_now_under : Child → List Element
    is_now_under c = elements_in new height (node_at new c.child)

    turned_one : (s : Subtree) → IsStoredTree old height s → (nat_eq s.at x || reaches old height (node_at old s.at) x) ≡ true
        → HasTurned (elements_in old height (node_at old s.at)) (elements_in new height (node_at new s.at)) leaf.places.items after.places.items
    turned_one s stored is = by_test (nat_eq s.at x) refl is where
      by_test : (b : Bool) → nat_eq s.at x ≡ b → (b || reaches old height (node_at old s.at) x) ≡ true
          → HasTurned (elements_in old height (node_at old s.at)) (elements_in new height (node_at new s.at)) leaf.places.items after.places.items
      by_test true same is = turned_at height s.at (eqb-true s.at x same)
      by_test false other is = subst (λ (n : Node). HasTurned (elements_in old height (node_at old s.at)) (elements_in new height n)
          leaf.places.items after.places.items) (sym (node_stays s.at (test_other s.at x other))) (below s (node_at old s.at) stored.tree is)

    turned_under : (level : ℕ) (right : Base) (cs : List Child) → AreRising right cs → AreStored old height level right cs
        → has_under old height cs x ≡ true
        → HasTurned (elements_under old height cs) (elements_under new height cs) leaf.places.items after.places.items
    turned_under level right [] rising stored is = absurd (true≢false (sym is))
    turned_under level right (c ∷ cs) rising stored is =
        by_test (is_under old height x c) refl is (λ later. turned_under level right cs (later_sorted right c cs rising) stored.1 later) where
          by_test : (b : Bool) → is_under old height x c ≡ b → (b || has_under old height cs x) ≡ true
              → (has_under old height cs x ≡ true
              → HasTurned (elements_under old height cs) (elements_under new height cs) leaf.places.items after.places.items)
              → HasTurned (elements_under old height (c ∷ cs)) (elements_under new height (c ∷ cs)) leaf.places.items after.places.items
          by_test true here is later =
              let rest = stays_under height right cs (apart_children old height x level right c cs rising stored here) in
              subst (λ (l : List Element). HasTurned (was_under c ++ elements_under old height cs) (is_now_under c ++ l) leaf.places.items after.places.items)
              (sym rest) (turned_front (was_under c) (is_now_under c) (elements_under old height cs) leaf.places.items after.places.items
              (turned_one (child_place level (next_left right cs) c) stored.0 here))
          by_test false here is later =
              let alone : has_under old height (c ∷ []) x ≡ false = rw here refl in
              let same : is_now_under c ≡ was_under c =
              sym (append-nil (is_now_under c)) ∙ stays_under height right (c ∷ []) alone ∙ append-nil (was_under c) in
              subst (λ (l : List Element). HasTurned (was_under c ++ elements_under old height cs) (l ++ elements_under new height cs)
              leaf.places.items after.places.items) (sym same)
              (turned_back (was_under c) (elements_under old height cs) (elements_under new height cs) leaf.places.items after.places.items (later is))

  turned_below : (height : ℕ) (s : Subtree) (node : Node) → IsTree old height s node → Reaches old height node x
      → HasTurned (elements_in old height node) (elements_in new height node) leaf.places.items after.places.items
  turned_below zero s (leaf_node l) tree is = absurd (true≢false (sym is))
  turned_below zero s (inner_node inner) tree is = absurd (true≢false (sym is))
  turned_below (suc height) s (leaf_node l) tree is = absurd (true≢false (sym is))
  turned_below (suc height) s (inner_node inner) tree is =
      turned_under height (λ s node tree is. turned_below height s node tree is) inner.level inner.right inner.places.items tree.sound.order tree.below is

  -- the tree from a root on, whichever it is
  module _ (root : ℕ) (tree : IsTreeSpace old root) (was : IsSome (old x)) where
    abbrev top : Node
    top = node_at old root

    abbrev top' : Node
    top' = node_at new root

    same_height : height_of top' ≡ height_of top
    same_height = same_at (λ _ node. height_of node) refl (λ node. refl) root

    sound_after : IsSoundTree new root
    sound_after = subst (λ (h : ℕ). IsStoredTree new h (root_place root)) (sym same_height) (turned_stored (height_of top) (root_place root) tree.sound)

    reaches_after : (y : ℕ) → reaches new (height_of top') top' y ≡ reaches old (height_of top) top y
    reaches_after y = ap (λ (h : ℕ). reaches new h top' y) same_height ∙ same_at (λ map node. reaches map (height_of top) node y)
        (leaf_reaches new (height_of top) after y ∙ sym (leaf_reaches old (height_of top) leaf y)) (turned_reaches y (height_of top)) root

    mark_after : (key : Key) → mark_of new root key ≡ mark_of old root key
    mark_after key = ap (λ (h : ℕ). mark_in new h top' key) same_height ∙ same_at (λ map node. mark_in map (height_of top) node key)
        (leaf_mark new (height_of top) after key ∙ turns.mirror ∙ sym (leaf_mark old (height_of top) leaf key)) (turned_mark key (height_of top)) root

    still_there : (y : ℕ) → IsSome (new y) → IsSome (old y)
    still_there y some = by_test (nat_eq y x) refl where
      by_test : (b : Bool) → nat_eq y x ≡ b → IsSome (old y)
      by_test true is = subst (λ (z : ℕ). IsSome (old z)) (sym (eqb-true y x is)) was
      by_test false is = subst (λ (o : Option (List ℕ)). IsSome o) (turns.others y (test_other y x is)) some

    elements_after : HasTurned (elements_of old root) (elements_of new root) leaf.places.items after.places.items
    elements_after = subst (λ (h : ℕ). HasTurned (elements_of old root) (elements_in new h top') leaf.places.items after.places.items) (sym same_height)
        (by_test (nat_eq x root) refl (tree.whole x was)) where
          by_test : (b : Bool) → nat_eq x root ≡ b → (b || reaches old (height_of top) top x) ≡ true
              → HasTurned (elements_of old root) (elements_in new (height_of top) top') leaf.places.items after.places.items
          by_test true same is = turned_at (height_of top) root (sym (eqb-true x root same))
          by_test false other is = subst (λ (n : Node). HasTurned (elements_of old root) (elements_in new (height_of top) n) leaf.places.items
              after.places.items)
              (sym (node_stays root (λ same. test_other x root other (sym same))))
              (turned_below (height_of top) (root_place root) top tree.sound.tree is)

    rising_before : IsStrictlySortedBy element_cmp (elements_of old root)
    rising_before = (tree_content old (height_of top) (root_place root) top tree.sound.tree).rising

    -- the leaf is in order
    pub leaf_rises : HasLeafOrder leaf
    leaf_rises = front_sorted element_cmp leaf.places.items elements_after.after
        (rest_sorted element_cmp elements_after.before (leaf.places.items ++ elements_after.after)
        (subst (IsStrictlySortedBy element_cmp) elements_after.was rising_before))

    -- it changed as the leaf did
    pub turned_tree : (f : List Element → List Element) (key : Key) (marking : Marking) → IsLocal f key → IsSome (element_at key leaf.places.items)
        → after.places.items ≡ f leaf.places.items
        → ((marks marks' : Key → ℕ) → ((k : Key) → marks' k ≡ marks k) → MarksBy marking key marks marks')
        → TreeChanged f key marking old new root root
    turned_tree f key marking local there items stay = record {
      tree = record {
        sound = sound_after;
        whole = λ at some. ap (λ (b : Bool). nat_eq at root || b) (reaches_after at) ∙ tree.whole at (still_there at some);
        spots = λ at some. tree.spots at (still_there at some);
      };
      elements = turned_local key f local (elements_of old root) (elements_of new root) leaf.places.items after.places.items rising_before there items
          elements_after;
      mark = stay (mark_of old root) (mark_of new root) mark_after;
    }

-- a leaf without one of its elements is sound wherever it was, where it has another one
module _ (old new : PageMap) (key : Key) (leaf after : Leaf) (i : ℕ) (at : HasLeafOrder leaf → i ≡ leading key leaf.places.items)
    (there : HasLeafOrder leaf → IsSome (element_at key leaf.places.items)) (now : after ≡ leaf_of leaf.mirror (remove leaf.places.items i))
    (many : 2 ≤ length leaf.places.items) where
  place_there : HasLeafOrder leaf → IsPlace key leaf.places.items i
  place_there order = subst (λ (n : ℕ). IsPlace key leaf.places.items n) (sym (at order)) (leading_place key leaf.places.items order (there order))

  mirror_stays : after.mirror ≡ leaf.mirror
  mirror_stays = ap (λ (l : Leaf). l.mirror) now

  pub items_removed : HasLeafOrder leaf → after.places.items ≡ removed key leaf.places.items
  items_removed order = ap (λ (l : Leaf). l.places.items) now ∙ sym (removed-place key leaf.places.items i (place_there order))

  one_left : HasLeafOrder leaf → 1 ≤ length after.places.items
  one_left order =
      let short : length (remove leaf.places.items i) + 1 ≡ length leaf.places.items =
      length-remove leaf.places.items i (IsPlace-within key leaf.places.items i (place_there order)) in
      let same : length after.places.items ≡ length (remove leaf.places.items i) = ap (λ (l : Leaf). length l.places.items) now in
      omega (arith, short, same, many)

  pub leaf_stays_sound : (height : ℕ) (s : Subtree) → IsTree old height s (leaf_node leaf) → IsTree new height s (leaf_node after)
  leaf_stays_sound height s tree =
      let order : HasLeafOrder leaf = tree.sound.order in
      let one = element_each (λ e. IsInside s.left s.right (element_key e)) key leaf.places.items
      (recursion_from_All (λ e. IsInside s.left s.right (element_key e)) leaf.places.items tree.fits.bounds) (there order) in
      let inside : IsInside s.left s.right key = subst (λ (k : Key). IsInside s.left s.right k) one.1 one.2 in
      let change = removed_leaf old height s key leaf after i tree inside (there order) (at order) now in
      record {
        sound = change.tree.sound;
        level = tree.level;
        fits = record {
          level = by_level s.parent tree.fits.level;
          count = by_count s.parent (one_left order);
          bounds = change.tree.fits.bounds;
          mirror = by_mirror s.parent tree.fits.mirror;
        };
        below = by_height height tree.below;
      } where
        by_level : (p : Option Parent) → FitsLevel p (leaf_node leaf) → FitsLevel p (leaf_node after)
        by_level None fits = tt
        by_level (Some p) fits = fits

        by_count : (p : Option Parent) → 1 ≤ length after.places.items → FitsCount p (leaf_node after)
        by_count None some = tt
        by_count (Some p) some = some

        by_mirror : (p : Option Parent) → FitsMirror p (leaf_node leaf) → FitsMirror p (leaf_node after)
        by_mirror None fits = tt
        by_mirror (Some p) fits = mirror_stays ∙ fits

        by_height : (h : ℕ) → HasChildren old h (leaf_node leaf) → HasChildren new h (leaf_node after)
        by_height zero below = tt
        by_height (suc h) below = below

-- The leaf in a page loses an element, and has another one: so does each tree that the pages are.
module _ (key : Key) (old new : PageMap) (x root : ℕ) (before after : List ℕ) (there : old x ≡ Some before) (large : IsLargeLeaf before)
    (held : IsLeafPage after) (removes : RemovesAt key before after) (written : HasWritten x (node_in after) old new) (tree : IsTreeSpace old root) where
  was_leaf : node_in before ≡ leaf_node (leaf_in before)
  was_leaf = leaf_there before (head_in before) refl large.leaf.kind

  is_leaf : node_in after ≡ leaf_node (leaf_in after)
  is_leaf = leaf_there after (head_in after) refl held.kind

  many_there : 2 ≤ length (leaf_in before).places.items
  many_there = omega (arith, large.many, first_length (λ i. element_in before (place i)) (head_in before).count)

  put_there : new x ≡ Some written.0
  put_there = put_at x written.0 old new written.2

  turns : TurnsLeaf old new x (leaf_in before) (leaf_in after)
  turns = record {
    here = ap (λ (o : Option (List ℕ)). node_in (page_in o)) there ∙ was_leaf;
    now = ap (λ (o : Option (List ℕ)). node_in (page_in o)) put_there ∙ written.1.value ∙ is_leaf;
    there = rw put_there refl;
    spelled = subst (λ (o : Option (List ℕ)). Spells (page_in o) (leaf_node (leaf_in after))) (sym put_there)
        (subst (λ (n : Node). Spells written.0 n) is_leaf written.1);
    others = λ y other. put_other x written.0 old new written.2 y other;
    mirror = ap (λ (l : Leaf). l.mirror) removes.leaf;
    sound = leaf_stays_sound old new key (leaf_in before) (leaf_in after) removes.at removes.place removes.there removes.leaf many_there;
  }

  pub near_removed : TreeChanged (removed key) key TakesOut old new root root
  near_removed =
      let some : IsSome (old x) = rw there refl in
      let order : HasLeafOrder (leaf_in before) = leaf_rises old new x (leaf_in before) (leaf_in after) turns root tree some in
      turned_tree old new x (leaf_in before) (leaf_in after) turns root tree some (removed key) key TakesOut (removed_local key) (removes.there order)
      (items_removed old new key (leaf_in before) (leaf_in after) removes.at removes.place removes.there removes.leaf many_there order)
      (λ marks marks' same. record { other = key; each = λ k. inl (same k) })

-- the same where the pages are told
pub near_told : (key : Key) (p q : Option PageMap) (x root : ℕ) (before after : List ℕ) → IfSome p (λ map. map x ≡ Some before) → IsLargeLeaf before
    → IsLeafPage after → RemovesAt key before after → BothTell p q (IsUpdated true x (node_in after))
    → ChangesTree (removed key) key TakesOut (λ es. IsSome (element_at key es)) p q root root
near_told key p q x root before after there large held removes both =
    IfSome_both p there (both_then p q both (λ old new written. written)) (λ old there written tree needs.
    IfSome_then q written (λ new written. near_removed key old new x root before after there large held removes written tree))
