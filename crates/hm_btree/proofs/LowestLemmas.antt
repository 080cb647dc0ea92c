-- A tree without a root that had one child alone.
use Rattle.std.proofs.Common.{◌≡◌, ◌≢◌, Bool, true, false, true≢false, ◌||◌, ℕ, zero, suc, List, [], ◌∷◌, length, refl, sym, ap, subst}
use Rattle.std.proofs.Common.{◌∙◌, arith, nat_eq, Some, append-nil}
use Rattle.std.specs.Prelude.{Option, IsSome, is_some, IfSome, slice_get}
use Rattle.std.proofs.lemmas.List.Elements.{All-from_recursion, recursion_from_All}
use Rattle.std.proofs.lemmas.Option.{IfSome_then}
use Rattle.hm_types.specs.Elements.{Key}
use Rattle.hm_fields.specs.Pages.{PageMap}
use Rattle.hm_types.specs.Told.{BothTell}
use Rattle.hm_key.specs.Key.{key_of, IsBefore, IsFrom}
use Rattle.hm_key.specs.Elements.{element_key}
use Rattle.hm_key.specs.declared.base.Base.{Base}
use Rattle.hm_node.specs.Head.{head_in}
use Rattle.hm_node.specs.Inner.{child_in, inner_in}
use Rattle.hm_node.specs.Node.{node_in}
use Rattle.hm_node.specs.Places.{place}
use Rattle.hm_node.specs.declared.inner.Child.{Child}
use Rattle.hm_node.specs.declared.inner.Inner.{Inner}
use Rattle.hm_node.specs.declared.node.Node.{Node}
use Rattle.hm_node.specs.declared.node.Node.TheVariants.{Leaf as leaf_node, Inner as inner_node}
use Rattle.hm_node.proofs.PlaceLemmas.{first_length}
use Rattle.hm_node.proofs.ReadyLemmas.{inner_here}
use Rattle.hm_search.specs.Place.{IsInside, BeginsAt, FitsBounds}
use Rattle.hm_search.specs.Tree.{node_at, elements_in, mark_in, reaches, height_of, root_place, children_of, IsTree, IsStoredTree}
use Rattle.hm_search.specs.Tree.{IsSoundTree, elements_of, mark_of}
use Rattle.hm_search.specs.declared.subtree.Subtree.{Subtree}
use Rattle.hm_search.proofs.ChildLemmas.{place_is}
use Rattle.hm_search.proofs.FrameLemmas.{IsSameBelow, frame_elements, frame_mark, frame_reaches, frame_stored}
use Rattle.hm_search.proofs.ListLemmas.{each_so}
use Rattle.hm_search.proofs.ReachLemmas.{not_below_itself}
use Rattle.hm_btree.specs.Below.{Replaces, SpellsAt}
use Rattle.hm_btree.specs.Calls.Remove.{IsOnlyBelow}
use Rattle.hm_btree.specs.Edits.{inner_of}
use Rattle.hm_btree.specs.Shrink.{IsLowered, IsOnlyChild}
use Rattle.hm_btree.specs.Space.{HasLost}
use Rattle.hm_btree.specs.Tree.{IsTreeSpace}
use Rattle.hm_btree.proofs.EditLemmas.{stored_below}
use Rattle.hm_btree.proofs.PutLemmas.{lost_other, replaces_lost, replaces_none, same_test}
use Rattle.hm_btree.proofs.RootLemmas.{whole_after, spots_after, turned}
use Rattle.hm_btree.proofs.ToldLemmas.{IfSome_alike, IfSome_both, IfSome_where, both_alike, both_then}
use Rattle.hm_btree.proofs.UnderLemmas.{or_nil, or_false_left, or_false_right, reached_there}
use Rattle.hm_btree.proofs.WorksLemmas.{inner_is}

-- boundaries with the same keys
bounds_same : (l r left right : Base) (node : Node) → key_of l ≡ key_of left → key_of r ≡ key_of right → FitsBounds l r node → FitsBounds left right node
bounds_same l r left right (leaf_node leaf) first last fits =
    All-from_recursion (λ e. IsInside left right (element_key e)) leaf.places.items
    (each_so (λ e. IsInside l r (element_key e)) (λ e. IsInside left right (element_key e)) leaf.places.items
    (λ e is. record {
      from = subst (λ (k : Key). IsFrom k (element_key e)) first is.from;
      before =
          subst (λ (k : Key). IsBefore (element_key e) k) last is.before;
    })
    (recursion_from_All (λ e. IsInside l r (element_key e)) leaf.places.items fits))
bounds_same l r left right (inner_node inner) first last fits = (begins inner.places.items fits.0, fits.1 ∙ last) where
  begins : (cs : List Child) → BeginsAt l cs → BeginsAt left cs
  begins [] at = absurd at
  begins (c ∷ cs) at = at ∙ first

-- the tree below the one child of a root, whose page goes
module _ (map new : PageMap) (h root level mirror : ℕ) (c : Child) (right : Base) (tree : IsTree map (suc h) (root_place root)
    (inner_node (inner_of level mirror (c ∷ []) right)))
    (apart : reaches map (suc h) (inner_node (inner_of level mirror (c ∷ []) right)) root ≡ false) (lost : HasLost root map new) where
  abbrev top : Node
  top = inner_node (inner_of level mirror (c ∷ []) right)

  abbrev child : Node
  child = node_at map c.child

  one : (nat_eq c.child root || reaches map h child root) ≡ false
  one = or_false_left (nat_eq c.child root || reaches map h child root) false apart

  other : c.child ≢ root
  other same = true≢false (sym (same_test root) ∙ ap (λ (x : ℕ). nat_eq x root) (sym same) ∙ or_false_left (nat_eq c.child root)
      (reaches map h child root) one)

  same_page : new c.child ≡ map c.child
  same_page = lost_other root map new lost c.child other

  same_below : IsSameBelow map new h child
  same_below = record {
    same = λ x is. lost_other root map new lost x (λ at. true≢false (sym is ∙ ap (reaches map h child) at ∙ or_false_right
        (nat_eq c.child root) (reaches map h child root) one));
  }

  pub only_here : node_at new c.child ≡ child
  only_here = ap (λ (o : Option (List ℕ)). node_at (λ _. o) 0) same_page

  only_high : height_of (node_at new c.child) ≡ h
  only_high = ap height_of only_here ∙ omega (arith, tree.below.0.tree.level)

  pub only_sound : IsSoundTree new c.child
  only_sound =
      let was = tree.below.0 in
      subst (λ (n : ℕ). IsStoredTree new n (root_place c.child)) (sym only_high) (frame_stored map new h (root_place c.child) same_page same_below (record {
        there = was.there;
        spelled = was.spelled;
        tree = record {
          sound = was.tree.sound;
          level = was.tree.level;
          fits = record {
            level = tt;
            count = tt;
            bounds = bounds_same c.left right (root_place c.child).left (root_place c.child).right child tree.fits.bounds.0
                tree.fits.bounds.1 was.tree.fits.bounds;
            mirror = tt;
          };
          below = was.tree.below;
        };
      }))

  pub only_elements : elements_of new c.child ≡ elements_in map (suc h) top
  only_elements = ap (λ (n : ℕ). elements_in new n (node_at new c.child)) only_high ∙ ap (elements_in new h) only_here
      ∙ frame_elements map new h child same_below ∙ sym (append-nil (elements_in map h child))

  pub only_mark : (key : Key) → mark_of new c.child key ≡ mark_in map (suc h) top key
  only_mark key = ap (λ (n : ℕ). mark_in new n (node_at new c.child) key) only_high ∙ ap (λ (n : Node). mark_in new h n key)
      only_here ∙ frame_mark map new key h child same_below

  -- all that it reaches is the tree below the child
  pub only_reached : (x : ℕ) → reaches map (suc h) top x ≡ true
      → (nat_eq x c.child || reaches new (height_of (node_at new c.child)) (node_at new c.child) x) ≡ true
  only_reached x is =
      ap (λ (b : Bool). b || reaches new (height_of (node_at new c.child)) (node_at new c.child) x) (turned x c.child)
      ∙ ap (λ (b : Bool). nat_eq c.child x || b) (ap (λ (n : ℕ). reaches new n (node_at new c.child) x) only_high
      ∙ ap (λ (n : Node). reaches new h n x) only_here ∙ frame_reaches map new x h child same_below)
      ∙ sym (or_nil (nat_eq c.child x || reaches map h child x)) ∙ is

-- the root that had it goes
module _ (was is : PageMap) (root : ℕ) (inner : Inner) (c : Child) where
  pub lowered : IsTreeSpace was root → node_at was root ≡ inner_node inner → inner.places.items ≡ c ∷ [] → HasLost root was is
      → IsLowered was is root c.child (node_at was c.child)
  lowered tree here only lost =
      let top : Node = inner_node (inner_of inner.level inner.mirror (c ∷ []) inner.right) in
      let found : node_at was root ≡ top = here ∙ ap inner_node (inner_is inner inner.level inner.mirror (c ∷ []) inner.right refl refl only refl) in
      by_height (height_of (node_at was root)) refl (subst (λ (n : Node). IsTree was (height_of (node_at was root))
      (root_place root) n) found tree.sound.tree) found where
        by_height : (h : ℕ) → height_of (node_at was root) ≡ h → IsTree was h (root_place root)
            (inner_node (inner_of inner.level inner.mirror (c ∷ []) inner.right)) → node_at was root ≡ inner_node
            (inner_of inner.level inner.mirror (c ∷ []) inner.right)
            → IsLowered was is root c.child (node_at was c.child)
        by_height zero high whole found = absurd (omega (arith, whole.level, whole.sound.level.0))
        by_height (suc h) high whole found =
            let top : Node = inner_node (inner_of inner.level inner.mirror (c ∷ []) inner.right) in
            let apart : reaches was (suc h) top root ≡ false = not_below_itself was (suc h) (root_place root) top root whole found in
            let olds : ℕ → Bool = reaches was (suc h) top in
            let all : (x : ℕ) → IsSome (was x) → (nat_eq root x || olds x) ≡ true = λ x there.
            ap (λ (b : Bool). b || olds x) (turned root x) ∙ ap (λ (n : Node). nat_eq x root || reaches was (suc h) n x)
            (sym found) ∙ ap (λ (n : ℕ). nat_eq x root || reaches was n (node_at was root) x) (sym high) ∙ tree.whole x there in
            let replaces : Replaces (λ x. nat_eq root x || olds x) olds was is =
            replaces_lost root olds olds was was is lost (replaces_none olds was (λ x reached. reached_there was (suc h)
            (root_place root) top x whole reached)) in
            record {
              tree = record {
                sound = only_sound was is h root inner.level inner.mirror c inner.right whole apart lost;
                whole = λ x there. only_reached was is h root inner.level inner.mirror c inner.right whole apart lost x
                    (whole_after (λ y. nat_eq root y || olds y) olds was is replaces all x there);
                spots = spots_after (λ y. nat_eq root y || olds y) olds was is replaces tree.spots;
              };
              here = only_here was is h root inner.level inner.mirror c inner.right whole apart lost;
              elements = only_elements was is h root inner.level inner.mirror c inner.right whole apart lost
                  ∙ ap (elements_in was (suc h)) (sym found) ∙ ap (λ (n : ℕ). elements_in was n (node_at was root)) (sym high);
              mark = λ key. only_mark was is h root inner.level inner.mirror c inner.right whole apart lost key
                  ∙ ap (λ (n : Node). mark_in was (suc h) n key) (sym found) ∙ ap (λ (n : ℕ). mark_in was n (node_at was root) key) (sym high);
            }

-- one after another
pub lowered_on : (a b c : PageMap) (root next last : ℕ) (first second : Node) → IsLowered a b root next first
    → IsLowered b c next last second → IsLowered a c root last second
lowered_on a b c root next last first second one two = record {
  tree = two.tree;
  here = two.here;
  elements = two.elements ∙ one.elements;
  mark = λ key. two.mark key ∙ one.mark key;
}

-- the tree as it is
pub lowered_none : (map : PageMap) (root : ℕ) (node : Node) → IsTreeSpace map root → node_at map root ≡ node → IsLowered map map root root node
lowered_none map root node tree here = record { tree = tree; here = here; elements = refl; mark = λ key. refl }

-- the child that a node has alone
pub one_child : (inner : Inner) (s : Subtree) → length inner.places.items ≡ 1 → slice_get (children_of inner) 0 ≡ Some s
    → (c : Child) × (inner.places.items ≡ c ∷ []) × (s.at ≡ c.child)
one_child inner s long at =
    let there = place_is inner.level inner.right inner.places.items 0 s at in
    (there.child, by_list inner.places.items there.child there.is long, ap (λ (t : Subtree). t.at) there.place) where
      by_list : (l : List Child) (c : Child) → slice_get l 0 ≡ Some c → length l ≡ 1 → l ≡ c ∷ []
      by_list [] c is long = absurd (omega (arith, long))
      by_list (d ∷ []) c is long = let same : d ≡ c = cc in ap (λ (x : Child). x ∷ []) same
      by_list (d ∷ e ∷ ds) c is long = absurd (omega (arith, long))

-- the same of the inner node in a page
pub only_long : (page : List ℕ) (s : Subtree) → IsOnlyBelow page s → length (inner_in page).places.items ≡ 1
only_long page s only = first_length (λ i. child_in page (place i)) (head_in page).count ∙ only.one

pub only_child_is : (page : List ℕ) (s : Subtree) → IsOnlyBelow page s → IsOnlyChild (node_in page) s.at
only_child_is page s only =
    let one = one_child (inner_in page) s (only_long page s only) only.at in
    subst (λ (n : Node). IsOnlyChild n s.at) (sym (inner_here page only.inner)) (one.0, one.1, sym one.2)

-- the child that is read is sound
pub lowered_read : (p0 : Option PageMap) (root : ℕ) (node : Node) (inner : Inner) (s : Subtree) → node ≡ inner_node inner
    → slice_get (children_of inner) 0 ≡ Some s → IfSome p0 (λ was. IsTreeSpace was root) → IfSome p0 (λ was. node_at was root ≡ node)
    → IfSome p0 (λ map. (height : ℕ) × IsStoredTree map height s)
lowered_read p0 root node inner s is at tree here = IfSome_both p0 tree here (λ map tree here.
    let below = stored_below map (height_of (node_at map root)) (root_place root) (node_at map root) inner 0 s tree.sound.tree (here ∙ is) at in
    (below.lower, below.stored))

module _ (p0 p1 p2 : Option PageMap) (root : ℕ) (node child : Node) (inner : Inner) (s : Subtree) (is : node ≡ inner_node inner)
    (same : p1 ≡ p0) (lost : BothTell p1 p2 (HasLost root)) where
  lost_first : BothTell p0 p2 (HasLost root)
  lost_first = subst (λ (p : Option PageMap). BothTell p p2 (HasLost root)) same lost

  told_first : is_some p2 ≡ is_some p0
  told_first = both_alike p0 p2 (HasLost root) lost_first

  -- where the pages are told
  pub lowered_told : length inner.places.items ≡ 1 → slice_get (children_of inner) 0 ≡ Some s
      → IfSome p0 (λ was. IsTreeSpace was root) → IfSome p0 (λ was. node_at was root ≡ node) → IfSome p0 (λ map. SpellsAt map s child)
      → IfSome p0 (λ was. IfSome p2 (λ map. IsLowered was map root s.at child))
  lowered_told long at tree here read =
      let one = one_child inner s long at in
      let place : s.at ≡ one.0.child = one.2 in
      let below : IfSome p0 (λ old. node_at old s.at ≡ child) = IfSome_both p0 (lowered_read p0 root node inner s is at tree here) read
      (λ old stored read. (read stored.1.there).value) in
      let drops : IfSome p0 (λ old. IfSome p2 (λ new. IsLowered old new root one.0.child (node_at old one.0.child))) =
      IfSome_both p0 (IfSome_both p0 tree here (λ old tree here new lost. lowered old new root inner one.0 tree (here ∙ is) one.1 lost))
      (both_then p0 p2 lost_first (λ old new lost. lost)) (λ old drops lost. IfSome_then p2 lost drops) in
      IfSome_both p0 below drops (λ old below drops. IfSome_then p2 drops (λ new drop.
      subst (λ (x : ℕ). IsLowered old new root x child) (sym place)
      (subst (λ (n : Node). IsLowered old new root one.0.child n) (ap (node_at old) (sym place) ∙ below) drop)))

  pub lowered_tree : IfSome p0 (λ was. IfSome p2 (λ map. IsLowered was map root s.at child))
      → IfSome p2 (λ map. IsTreeSpace map s.at) × IfSome p2 (λ map. node_at map s.at ≡ child)
  lowered_tree lowered = (
    IfSome_alike p0 p2 _ told_first (IfSome_then p0 lowered (λ old lowered. IfSome_then p2 lowered (λ map one. one.tree))),
    IfSome_alike p0 p2 _ told_first (IfSome_then p0 lowered (λ old lowered. IfSome_then p2 lowered (λ map one. one.here))),
  )

  pub lowered_then : (p3 : Option PageMap) (last : ℕ) (below : Node)
      → IfSome p0 (λ was. IfSome p2 (λ map. IsLowered was map root s.at child)) → IfSome p2 (λ map. IfSome p3 (λ new. IsLowered map new s.at last below))
      → IfSome p0 (λ was. IfSome p3 (λ new. IsLowered was new root last below))
  lowered_then p3 last below first second = IfSome_where p0 p2 _ told_first (IfSome_then p0 first (λ old first.
      IfSome_both p2 first second (λ map first second. IfSome_then p3 second (λ new second.
      lowered_on old map new root s.at last child below first second))))
