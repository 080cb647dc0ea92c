-- A step of a call down to a child, and back.
use Rattle.std.proofs.Common.{◌≡◌, ℕ, zero, suc, ◌+◌, ◌<◌, ◌≤◌, List, [], ◌∷◌, ◌++◌, length, take, drop, refl, sym, ap, subst}
use Rattle.std.proofs.Common.{◌∙◌, arith, max, Some, None, length-append}
use Rattle.std.specs.Prelude.{IsSome, Option, All, slice_get, slice_set, slice_index_or}
use Rattle.std.specs.List.{AllByRecursion}
use Rattle.std.proofs.lemmas.Grind.{flat_map-append}
use Rattle.std.proofs.lemmas.List.Elements.{All-from_recursion, recursion_from_All}
use Rattle.hm_types.specs.Elements.{Key}
use Rattle.hm_fields.specs.Pages.{PageMap}
use Rattle.hm_key.specs.Key.{key_of, IsBefore, IsFrom}
use Rattle.hm_key.specs.Elements.{element_key, element_at}
use Rattle.hm_key.specs.declared.base.Base.{Base}
use Rattle.hm_key.specs.declared.element.Element.{Element}
use Rattle.hm_key.proofs.KeyLemmas.{key_before_from}
use Rattle.hm_node.specs.Inner.{IsChild}
use Rattle.hm_node.specs.Node.{level_of}
use Rattle.hm_node.specs.declared.inner.Child.{Child}
use Rattle.hm_node.specs.declared.inner.Inner.{Inner}
use Rattle.hm_node.specs.declared.node.Node.{Node}
use Rattle.hm_node.specs.declared.node.Node.TheVariants.{Inner as inner_node}
use Rattle.hm_search.specs.Place.{IsInside, BeginsAt, FitsCount, FitsLevel, mirror_of}
use Rattle.hm_search.specs.Search.{holder_place}
use Rattle.hm_search.specs.Tree.{node_at, elements_in, next_left, child_place, children_of, IsTree, IsStoredTree}
use Rattle.hm_search.specs.declared.subtree.Parent.{Parent}
use Rattle.hm_search.specs.declared.subtree.Subtree.{Subtree}
use Rattle.hm_search.proofs.ChildLemmas.{place_is, begins_before}
use Rattle.hm_search.proofs.DescentLemmas.{IsStoredBelow}
use Rattle.hm_search.proofs.ListLemmas.{each_so, each_append, each_get}
use Rattle.hm_btree.specs.Marking.{Marking}
use Rattle.hm_btree.specs.Edits.{inner_of, with_mirror}
use Rattle.hm_btree.specs.Space.{HasWritten}
use Rattle.hm_btree.specs.Below.{elements_under, IsLocal, Changed, SpellsAt}
use Rattle.hm_btree.proofs.ChangeLemmas.{inside_under}
use Rattle.hm_btree.proofs.LocalLemmas.{before_not_at, after_not_at}
use Rattle.hm_btree.proofs.NodeLemmas.{holder_inside, changed_written, changed_within, changed_above}
use Rattle.hm_btree.proofs.OrderLemmas.{each_front, each_back, rising_back, rising_front}
use Rattle.hm_btree.proofs.UnderLemmas.{stored_front, stored_back}

-- a child that was read is one level lower
pub child_level : (inner : Inner) (i : ℕ) (s : Subtree) (child : Node) → slice_get (children_of inner) i ≡ Some s
    → FitsLevel s.parent child → level_of child + 1 ≡ inner.level
child_level inner i s child at fits =
    let there = place_is inner.level inner.right inner.places.items i s at in
    by_place s there.place fits where
      by_place : (s : Subtree) {b : Base} {c : Child} → s ≡ child_place inner.level b c → FitsLevel s.parent child → level_of child + 1 ≡ inner.level
      by_place s {b = b} {c = c} same fits = subst (λ (t : Subtree). FitsLevel t.parent child) same fits

pub child_level_lower : (node child : Node) (inner : Inner) (i : ℕ) (s : Subtree) → node ≡ inner_node inner
    → slice_get (children_of inner) i ≡ Some s → FitsLevel s.parent child → level_of child < level_of node
child_level_lower node child inner i s is at fits =
    let level : level_of child + 1 ≡ inner.level = child_level inner i s child at fits in
    let same : level_of node ≡ inner.level = ap level_of is in
    omega arith

-- a child of a sound node stands in its page
pub stored_below : (map : PageMap) (height : ℕ) (place : Subtree) (node : Node) (inner : Inner) (i : ℕ) (s : Subtree)
    → IsTree map height place node → node ≡ inner_node inner → slice_get (children_of inner) i ≡ Some s → IsStoredBelow map height place inner s
stored_below map height place node inner i s tree is at = by_height height (subst (λ (n : Node). IsTree map height place n) is tree) where
  by_height : (h : ℕ) → IsTree map h place (inner_node inner) → IsStoredBelow map h place inner s
  by_height zero tree = absurd (omega (arith, tree.level, tree.sound.level.0))
  by_height (suc h) tree = record { lower = h; is = refl; tree = tree; stored = each_get (IsStoredTree map h) (children_of inner) i s at tree.below }

-- the node that was read there
pub tree_read : (map : PageMap) (lower : ℕ) (s : Subtree) (child : Node) → IsStoredTree map lower s → SpellsAt map s child → IsTree map lower s child
tree_read map lower s child stored here = subst (λ (n : Node). IsTree map lower s n) (here stored.there).value stored.tree

-- it is the one in the page of the child that stands there
pub read_there : (map : PageMap) (s : Subtree) (at : ℕ) (child : Node) → s.at ≡ at → IsSome (map at) → SpellsAt map s child → node_at map at ≡ child
read_there map s at child same there here = ap (node_at map) (sym same) ∙ (here (subst (λ (x : ℕ). IsSome (map x)) (sym same) there)).value

-- a list at a place
pub split_at : {A : Type 0} (xs : List A) (i : ℕ) (x : A) → slice_get xs i ≡ Some x → (xs ≡ take i xs ++ x ∷ drop (suc i) xs) × (length (take i xs) ≡ i)
split_at [] i x is = absurd (cc)
split_at (y ∷ ys) zero x is = let same : y ≡ x = cc in (ap (λ z. z ∷ ys) same, refl)
split_at (y ∷ ys) (suc i) x is = let more = split_at ys i x is in (ap (λ l. y ∷ l) more.0, ap suc more.1)

pub set_at_place : {A : Type 0} (change : A → A) (xs : List A) (i : ℕ) (x : A) → slice_get xs i ≡ Some x → slice_set xs i
    (change (slice_index_or xs i x)) ≡ take i xs ++ change x ∷ drop (suc i) xs
set_at_place change [] i x is = absurd (cc)
set_at_place change (y ∷ ys) zero x is = let same : y ≡ x = cc in ap (λ z. change z ∷ ys) same
set_at_place change (y ∷ ys) (suc i) x is = ap (λ l. y ∷ l) (set_at_place change ys i x is)

-- the element at a key stands among those of the child that holds the key
at_front : (at : Key) (xs ys : List Element) → AllByRecursion (λ e. IsBefore (element_key e) at) xs → element_at at (xs ++ ys) ≡ element_at at ys
at_front at [] ys before = refl
at_front at (x ∷ xs) ys before = rw (before_not_at at x before.0) (at_front at xs ys before.1)

at_none : (at : Key) (ys : List Element) → AllByRecursion (λ e. IsBefore at (element_key e)) ys → element_at at ys ≡ None
at_none at [] after = refl
at_none at (y ∷ ys) after = rw (after_not_at at y after.0) (at_none at ys after.1)

at_back : (at : Key) (xs ys : List Element) → AllByRecursion (λ e. IsBefore at (element_key e)) ys → element_at at (xs ++ ys) ≡ element_at at xs
at_back at [] ys after = at_none at ys after
at_back at (x ∷ xs) ys after = rw (at_back at xs ys after) refl

-- a node with children of which one holds the key
module _ (key : Key) (place : Subtree) (height level mirror : ℕ) (right : Base) (old : PageMap) (pre : List Child) (c : Child) (post : List Child) where
  abbrev pub whole : Node
  whole = inner_node (inner_of level mirror (pre ++ c ∷ post) right)

  module _ (tree : IsTree old (suc height) place whole) (here : length pre ≡ holder_place key (pre ++ c ∷ post))
      (inside : IsInside place.left place.right key) where
    first_left : IsFrom (key_of (next_left right (pre ++ c ∷ post))) key
    first_left = by_list (pre ++ c ∷ post) tree.fits.bounds.0 where
      by_list : (cs : List Child) → BeginsAt place.left cs → IsFrom (key_of (next_left right cs)) key
      by_list [] begins = absurd begins
      by_list (d ∷ ds) begins = subst (λ (k : Key). IsFrom k key) (sym begins) inside.from

    pub child_inside : IsInside c.left (next_left right post) key
    child_inside = holder_inside key right pre c post here first_left (subst (λ (k : Key). IsBefore key k) (sym tree.fits.bounds.1) inside.before)

    pub child_tree : IsStoredTree old height (child_place level (next_left right post) c)
    child_tree = (stored_back old height level right pre (c ∷ post) tree.below).0

    pub child_element : element_at key (elements_in old (suc height) whole) ≡ element_at key (elements_in old height (node_at old c.child))
    child_element =
        let els : Child → List Element = λ (x : Child). elements_in old height (node_at old x.child) in
        let before : AllByRecursion (λ e. IsBefore (element_key e) key) (elements_under old height pre) =
        each_so (λ e. IsInside (next_left c.left pre) c.left (element_key e)) (λ e. IsBefore (element_key e) key) (elements_under old height pre)
        (λ e is. key_before_from (element_key e) (key_of c.left) key is.before child_inside.from)
        (inside_under old height level c.left pre (rising_front right pre (c ∷ post) tree.sound.order)
        (stored_front old height level right pre (c ∷ post) tree.below)) in
        let after : AllByRecursion (λ e. IsBefore key (element_key e)) (elements_under old height post) =
        each_so (λ e. IsInside (next_left right post) right (element_key e)) (λ e. IsBefore key (element_key e)) (elements_under old height post)
        (λ e is. key_before_from key (key_of (next_left right post)) (element_key e) child_inside.before is.from)
        (inside_under old height level right post (rising_back right (c ∷ []) post
        (rising_back right pre (c ∷ post) tree.sound.order)) (stored_back old height level right (c ∷ []) post
        (stored_back old height level right pre (c ∷ post) tree.below))) in
        ap (element_at key) (flat_map-append els pre (c ∷ post)) ∙ at_front key (elements_under old height pre) (elements_under old height (c ∷ post)) before
        ∙ at_back key (elements_in old height (node_at old c.child)) (elements_under old height post) after

    -- that child changed and was written
    pub changed_parent : (f : List Element → List Element) (marking : Marking) (mid new : PageMap) (after : Node) → IsLocal f key
        → Changed f key marking (child_place level (next_left right post) c) height old mid (node_at old c.child) after
        → HasWritten c.child after mid new
        → Changed f key marking place (suc height) old new whole
        (inner_node (inner_of level (max mirror (mirror_of after)) (pre ++ with_mirror (mirror_of after) c ∷ post) right))
    changed_parent f marking mid new after local change (page, spells, put) =
        let children = recursion_from_All IsChild (pre ++ c ∷ post) tree.sound.fields.children in
        let one = (each_back IsChild pre (c ∷ post) children).0 in
        let next = begins_before right c post (rising_back right pre (c ∷ post) tree.sound.order) in
        let segment = changed_written f key marking level (next_left right post) height old mid new c after page one next child_tree change spells put in
        let all = changed_within f key marking level right height old new local c (with_mirror (mirror_of after) c) [] [] post pre
        children tree.sound.order tree.below child_inside.from child_inside.before segment in
        let long : length (pre ++ with_mirror (mirror_of after) c ∷ post) ≡ length (pre ++ c ∷ post) = length-append pre
        (with_mirror (mirror_of after) c ∷ post) ∙ sym (length-append pre (c ∷ post)) in
        changed_above f key marking place height old new level mirror (max mirror (mirror_of after)) right (pre ++ c ∷ post)
        (pre ++ with_mirror (mirror_of after) c ∷ post) tree all
        (mirrors after) (omega (arith, long, tree.sound.count.0)) (omega (arith, long, tree.sound.count.1))
        (counts place.parent after long tree.fits.count) where
          up : (m : ℕ) (cs : List Child) → AllByRecursion (λ d. d.mirror ≤ mirror) cs → AllByRecursion (λ d. d.mirror ≤ max mirror m) cs
          up m cs each = each_so (λ d. d.mirror ≤ mirror) (λ d. d.mirror ≤ max mirror m) cs (λ d le. omega (arith, le)) each

          mirrors : (after : Node) → All (λ d. d.mirror ≤ max mirror (mirror_of after)) (pre ++ with_mirror (mirror_of after) c ∷ post)
          mirrors after =
              let each = recursion_from_All (λ d. d.mirror ≤ mirror) (pre ++ c ∷ post) tree.sound.mirror in
              All-from_recursion (λ d. d.mirror ≤ max mirror (mirror_of after)) (pre ++ with_mirror (mirror_of after) c ∷ post)
              (each_append (λ d. d.mirror ≤ max mirror (mirror_of after)) pre (with_mirror (mirror_of after) c ∷ post)
              (up (mirror_of after) pre (each_front (λ d. d.mirror ≤ mirror) pre (c ∷ post) each))
              (omega arith, up (mirror_of after) post (each_back (λ d. d.mirror ≤ mirror) pre (c ∷ post) each).1))

          counts : (p : Option Parent) (after : Node) → length (pre ++ with_mirror (mirror_of after) c ∷ post) ≡ length (pre ++ c ∷ post) → FitsCount p whole
              → FitsCount p (inner_node (inner_of level (max mirror (mirror_of after)) (pre ++ with_mirror (mirror_of after) c ∷ post) right))
          counts None after long count = tt
          counts (Some q) after long count = omega (arith, long, count)
