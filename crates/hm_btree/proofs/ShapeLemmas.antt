-- Each edit of a node keeps its shape, also over pages that are not told.
use Rattle.std.proofs.Common.{◌≡◌, ◌⊎◌, ℕ, zero, suc, ◌+◌, ◌<◌, ◌≤◌, List, [], ◌∷◌, ◌++◌, length, take, drop, insert, remove, refl}
use Rattle.std.proofs.Common.{sym, ap, subst, ◌∙◌, arith, max, Some, None, length-take, length-drop, length-set, length-append}
use Rattle.std.specs.Prelude.{Option, slice_get, slice_set, slice_index_or}
use Rattle.std.specs.List.{AllByRecursion}
use Rattle.std.proofs.lemmas.List.Edits.{length-insert, length-remove}
use Rattle.std.proofs.lemmas.List.Elements.{All-from_recursion, recursion_from_All}
use Rattle.hm_types.specs.Elements.{Key}
use Rattle.hm_key.specs.Elements.{element_key}
use Rattle.hm_key.specs.declared.base.Base.{Base}
use Rattle.hm_key.specs.declared.element.Element.{Element}
use Rattle.hm_node.specs.Inner.{IsBound, IsChild, IsNodeOffset}
use Rattle.hm_node.specs.Leaf.{IsPlaced}
use Rattle.hm_node.specs.Node.{HasLevel, level_of}
use Rattle.hm_node.specs.declared.inner.Child.{Child}
use Rattle.hm_node.specs.declared.inner.Inner.{Inner}
use Rattle.hm_node.specs.declared.leaf.Leaf.{Leaf}
use Rattle.hm_node.specs.declared.node.Node.{Node}
use Rattle.hm_node.specs.declared.node.Node.TheVariants.{Leaf as leaf_node, Inner as inner_node}
use Rattle.hm_search.specs.Tree.{children_of, root_place}
use Rattle.hm_search.specs.declared.subtree.Subtree.{Subtree}
use Rattle.hm_search.proofs.ChildLemmas.{place_is}
use Rattle.hm_search.proofs.ListLemmas.{each_append, each_get}
use Rattle.hm_btree.specs.Change.{change_of, MayChange}
use Rattle.hm_btree.specs.Edits.{leaf_of, inner_of, left_of, with_left, with_mirror, ChildChange}
use Rattle.hm_btree.specs.Grow.{FirstAt, LeafBecomes, InnerBecomes, top_of}
use Rattle.hm_btree.specs.Shape.{IsShaped, IsShapedUpper, AreShaped}
use Rattle.hm_btree.specs.Shrink.{Joins, JoinsLeaves, JoinsInners, share_of}
use Rattle.hm_btree.specs.declared.change.Change.{Change}
use Rattle.hm_btree.specs.declared.change.Change.TheVariants.{Close, Move}
use Rattle.hm_btree.specs.declared.upper.Upper.{Upper}
use Rattle.hm_node.proofs.EditLemmas.{placed_changed}

-- a fact of each in a part of a list
module _ {A : Type 0} (P : A → Type 0) where
  each_take : (n : ℕ) (xs : List A) → AllByRecursion P xs → AllByRecursion P (take n xs)
  each_take zero xs each = tt
  each_take (suc n) [] each = tt
  each_take (suc n) (x ∷ xs) each = (each.0, each_take n xs each.1)

  each_drop : (n : ℕ) (xs : List A) → AllByRecursion P xs → AllByRecursion P (drop n xs)
  each_drop zero xs each = each
  each_drop (suc n) [] each = tt
  each_drop (suc n) (x ∷ xs) each = each_drop n xs each.1

  pub each_insert : (i : ℕ) (x : A) (xs : List A) → P x → AllByRecursion P xs → AllByRecursion P (insert xs i x)
  each_insert i x xs is each = each_append P (take i xs) (x ∷ drop i xs) (each_take i xs each) (is, each_drop i xs each)

  each_remove : (i : ℕ) (xs : List A) → AllByRecursion P xs → AllByRecursion P (remove xs i)
  each_remove i xs each = each_append P (take i xs) (drop (suc i) xs) (each_take i xs each) (each_drop (suc i) xs each)

  each_set : (f : A → A) (d : A) (i : ℕ) (xs : List A) → ((x : A) → P x → P (f x)) → AllByRecursion P xs → AllByRecursion P
      (slice_set xs i (f (slice_index_or xs i d)))
  each_set f d i [] keeps each = tt
  each_set f d zero (x ∷ xs) keeps each = (keeps x each.0, each.1)
  each_set f d (suc i) (x ∷ xs) keeps each = (each.0, each_set f d i xs keeps each.1)

-- leaves and inner nodes with these places
pub leaf_shaped : (mirror : ℕ) (es : List Element) → length es ≤ 63 → AllByRecursion IsPlaced es → IsShaped (leaf_node (leaf_of mirror es))
leaf_shaped mirror es few each = record { level = tt; count = few; fields = All-from_recursion IsPlaced es each }

pub inner_shaped : (level mirror : ℕ) (cs : List Child) (right : Base) → (2 ≤ level) × (level ≤ 9) → 1 ≤ length cs
    → length cs ≤ 62 → AllByRecursion IsChild cs → IsBound right → IsShaped (inner_node (inner_of level mirror cs right))
inner_shaped level mirror cs right within some few each bound = record {
  level = within;
  count = (some, few);
  fields = record { children = All-from_recursion IsChild cs each; right = bound };
}

-- the places of a shaped node
pub elements_each : (leaf : Leaf) → IsShaped (leaf_node leaf) → AllByRecursion IsPlaced leaf.places.items
elements_each leaf shape = recursion_from_All IsPlaced leaf.places.items shape.fields

pub children_each : (inner : Inner) → IsShaped (inner_node inner) → AllByRecursion IsChild inner.places.items
children_each inner shape = recursion_from_All IsChild inner.places.items shape.fields.children

-- where the child of a node stands, a node may stand
pub child_offset : (node : Node) (inner : Inner) (i : ℕ) (s : Subtree) → IsShaped node → node ≡ inner_node inner
    → slice_get (children_of inner) i ≡ Some s → IsNodeOffset s.at
child_offset node inner i s shape is at =
    let there = place_is inner.level inner.right inner.places.items i s at in
    let child = each_get IsChild inner.places.items i there.child there.is (children_each inner (subst (λ (n : Node). IsShaped n) is shape)) in
    subst (λ (t : Subtree). IsNodeOffset t.at) (sym there.place) child.child

-- the boundary before the first of some places
first_bound : (es : List Element) (b : Base) → FirstAt es b → IsBound b
first_bound [] b at = absurd at
first_bound (e ∷ es) b at = record { key = refl; not_closed = at.not_closed; no_kind = at.no_kind; btype = at.btype }

left_bound : (cs : List Child) (right : Base) → AllByRecursion IsChild cs → IsBound right → IsBound (left_of cs right)
left_bound [] right each bound = bound
left_bound (c ∷ cs) right each bound = each.0.left

-- a leaf that was to have these elements, and its upper part
pub leaf_becomes : (mirror : ℕ) (es : List Element) (leaf : Leaf) (upper : Option Upper) → AllByRecursion IsPlaced es
    → LeafBecomes mirror es leaf upper → AreShaped (leaf_node leaf) upper
leaf_becomes mirror es leaf None each becomes = record {
  shape = subst (λ (l : Leaf). IsShaped (leaf_node l)) (sym becomes.0) (leaf_shaped mirror es becomes.1 each);
  above = tt;
}
leaf_becomes mirror es leaf (Some upper) each becomes =
    let n : ℕ = becomes.0 in
    let low = length-take n es in
    let high = length-drop n es in
    record {
      shape = subst (λ (l : Leaf). IsShaped (leaf_node l)) (sym becomes.3) (leaf_shaped mirror (take n es)
          (omega (arith, low, becomes.1.1, becomes.2)) (each_take IsPlaced n es each));
      above = record {
        node = subst (λ (n : Node). IsShaped n) (sym becomes.4) (leaf_shaped mirror (drop n es)
            (omega (arith, high, becomes.1.0, becomes.2)) (each_drop IsPlaced n es each));
        left = first_bound (drop n es) upper.left becomes.5;
      };
    }

-- the same of an inner node
pub inner_becomes : (level mirror : ℕ) (cs : List Child) (right : Base) (inner : Inner) (upper : Option Upper) → (2 ≤ level)
    × (level ≤ 9) → 1 ≤ length cs → AllByRecursion IsChild cs → IsBound right
    → InnerBecomes level mirror cs right inner upper → AreShaped (inner_node inner) upper
inner_becomes level mirror cs right inner None within some each bound becomes = record {
  shape = subst (λ (n : Inner). IsShaped (inner_node n)) (sym becomes.0) (inner_shaped level mirror cs right within some becomes.1 each bound);
  above = tt;
}
inner_becomes level mirror cs right inner (Some upper) within some each bound becomes =
    let n : ℕ = becomes.0 in
    let low = length-take n cs in
    let high = length-drop n cs in
    let left = left_bound (drop n cs) right (each_drop IsChild n cs each) bound in
    record {
      shape = subst (λ (n : Inner). IsShaped (inner_node n)) (sym becomes.3)
          (inner_shaped level mirror (take n cs) (left_of (drop n cs) right) within (omega (arith, low, becomes.1, becomes.2))
          (omega (arith, low, becomes.1, becomes.2)) (each_take IsChild n cs each) left);
      above = record {
        node = subst (λ (n : Node). IsShaped n) (sym becomes.4) (inner_shaped level mirror (drop n cs) right within
            (omega (arith, high, becomes.1, becomes.2)) (omega (arith, high, becomes.1, becomes.2)) (each_drop IsChild n cs each) bound);
        left = subst (λ (b : Base). IsBound b) (sym becomes.5) left;
      };
    }

-- as many children as before
pub count_kept : (f : Child → Child) (before after : Inner) (i : ℕ) → ChildChange f before.places.items i after.places.items
    → length after.places.items ≡ length before.places.items
count_kept f before after i items =
    let d : Child = record { left = before.right; child = 0; mirror = 0 } in
    ap length (items d) ∙ length-set before.places.items i (f (slice_index_or before.places.items i d))

-- a child changed, which may still stand there
module _ (f : Child → Child) (before after : Inner) (i : ℕ) (keeps : (c : Child) → IsChild c → IsChild (f c)) where
  pub child_shaped : IsShaped (inner_node before) → after.level ≡ before.level → ChildChange f before.places.items i
      after.places.items → after.right ≡ before.right → IsShaped (inner_node after)
  child_shaped shape level items right =
      let d : Child = record { left = before.right; child = 0; mirror = 0 } in
      let long = count_kept f before after i items in
      let each = subst (λ (cs : List Child). AllByRecursion IsChild cs) (sym (items d))
      (each_set IsChild f d i before.places.items keeps (children_each before shape)) in
      record {
        level = subst (λ (n : ℕ). (2 ≤ n) × (n ≤ 9)) (sym level) shape.level;
        count = (omega (arith, long, shape.count.0), omega (arith, long, shape.count.1));
        fields = record {
          children = All-from_recursion IsChild after.places.items each;
          right = subst (λ (b : Base). IsBound b)
              (sym right) shape.fields.right;
        };
      }

pub mirror_shaped : (before after : Inner) (i mirror : ℕ) → IsShaped (inner_node before) → after.level ≡ before.level
    → ChildChange (with_mirror mirror) before.places.items i after.places.items → after.right ≡ before.right → IsShaped (inner_node after)
mirror_shaped before after i mirror = child_shaped (with_mirror mirror) before after i (λ c is. record { left = is.left; child = is.child })

pub left_shaped : (before after : Inner) (i : ℕ) (left : Base) → IsBound left → IsShaped (inner_node before)
    → after.level ≡ before.level → ChildChange (with_left left) before.places.items i after.places.items
    → after.right ≡ before.right → IsShaped (inner_node after)
left_shaped before after i left bound = child_shaped (with_left left) before after i (λ c is. record { left = bound; child = is.child })

-- a place was taken out

pub removed_child_shaped : (before after : Inner) (i : ℕ) → i < length before.places.items → 2 ≤ length before.places.items
    → IsShaped (inner_node before) → after ≡ inner_of before.level before.mirror (remove before.places.items i) before.right → IsShaped (inner_node after)
removed_child_shaped before after i low many shape is =
    let long = length-remove before.places.items i low in
    subst (λ (n : Inner). IsShaped (inner_node n)) (sym is)
    (inner_shaped before.level before.mirror (remove before.places.items i) before.right shape.level (omega (arith, long, many))
    (omega (arith, long, shape.count.1)) (each_remove IsChild i before.places.items (children_each before shape)) shape.fields.right)

-- an element at a key that changed as it may can still stand in a leaf
pub may_stand : (change : Change) (key : Key) (e : Element) → MayChange key change → element_key e ≡ key → IsPlaced e → IsPlaced (change_of change e)
may_stand (Close delete) key e may here was =
    placed_changed e delete e.payload was (subst (λ (k : Key). (delete ≡ 0) ⊎ (k.create < delete)) (sym here) may) was.payload
may_stand (Move to) key e may here was = placed_changed e e.base.delete to was was.element.closed may

pub beside_shaped : (mirror at : ℕ) (child : Child) (inner after : Inner) (upper : Option Upper) → IsShaped (inner_node inner)
    → IsChild child → at ≤ length inner.places.items
    → InnerBecomes inner.level mirror (insert inner.places.items at child) inner.right after upper → AreShaped (inner_node after) upper
beside_shaped mirror at child inner after upper shape is low becomes =
    let long = length-insert inner.places.items at child low in
    inner_becomes inner.level mirror (insert inner.places.items at child) inner.right after upper shape.level
    (omega (arith, long)) (each_insert IsChild at child inner.places.items is (children_each inner shape)) shape.fields.right becomes

-- what neighbours become that are joined
leaves_shaped : (a b lower : Leaf) (upper : Option Upper) → IsShaped (leaf_node a) → IsShaped (leaf_node b)
    → JoinsLeaves a b lower upper → AreShaped (leaf_node lower) upper
leaves_shaped a b lower None first second joins = record {
  shape = subst (λ (l : Leaf). IsShaped (leaf_node l)) (sym joins.0)
      (leaf_shaped (max a.mirror b.mirror) (a.places.items ++ b.places.items) joins.1
      (each_append IsPlaced a.places.items b.places.items (elements_each a first) (elements_each b second)));
  above = tt;
}
leaves_shaped a b lower (Some upper) first second joins =
    let count : ℕ = share_of (length a.places.items) (length b.places.items) in
    let all : List Element = a.places.items ++ b.places.items in
    let each = each_append IsPlaced a.places.items b.places.items (elements_each a first) (elements_each b second) in
    let long = length-append a.places.items b.places.items in
    let low = length-take count all in
    let high = length-drop count all in
    record {
      shape = subst (λ (l : Leaf). IsShaped (leaf_node l)) (sym joins.0) (leaf_shaped _ (take count all)
          (omega (arith, long, low, first.count, second.count)) (each_take IsPlaced count all each));
      above = record {
        node = subst (λ (n : Node). IsShaped n) (sym joins.1) (leaf_shaped _ (drop count all)
            (omega (arith, long, high, first.count, second.count)) (each_drop IsPlaced count all each));
        left = first_bound (drop count all) upper.left joins.2;
      };
    }

inners_shaped : (a b lower : Inner) (upper : Option Upper) → IsShaped (inner_node a) → IsShaped (inner_node b)
    → JoinsInners a b lower upper → AreShaped (inner_node lower) upper
inners_shaped a b lower None first second joins =
    let long = length-append a.places.items b.places.items in
    record {
      shape = subst (λ (n : Inner). IsShaped (inner_node n)) (sym joins.0)
          (inner_shaped a.level (max a.mirror b.mirror) (a.places.items ++ b.places.items) b.right first.level (omega (arith, long, first.count.0)) joins.1
          (each_append IsChild a.places.items b.places.items (children_each a first) (children_each b second)) second.fields.right);
      above = tt;
    }
inners_shaped a b lower (Some upper) first second joins =
    let count : ℕ = share_of (length a.places.items) (length b.places.items) in
    let all : List Child = a.places.items ++ b.places.items in
    let each = each_append IsChild a.places.items b.places.items (children_each a first) (children_each b second) in
    let long = length-append a.places.items b.places.items in
    let low = length-take count all in
    let high = length-drop count all in
    let left = left_bound (drop count all) a.right (each_drop IsChild count all each) first.fields.right in
    record {
      shape = subst (λ (n : Inner). IsShaped (inner_node n)) (sym joins.0)
          (inner_shaped a.level _ (take count all) (left_of (drop count all) a.right) first.level
          (omega (arith, long, low, joins.3)) (omega (arith, long, low, first.count.1, second.count.1)) (each_take IsChild count all each) left);
      above = record {
        node = subst (λ (n : Node). IsShaped n) (sym joins.1)
            (inner_shaped b.level _ (drop count all) b.right second.level (omega (arith, long, high, joins.3))
            (omega (arith, long, high, first.count.1, second.count.1)) (each_drop IsChild count all each) second.fields.right);
        left = subst (λ (b : Base). IsBound b) (sym joins.2) left;
      };
    }

pub joins_shaped : (a b lower : Node) (upper : Option Upper) → IsShaped a → IsShaped b → Joins a b lower upper → AreShaped lower upper
joins_shaped (leaf_node a) (leaf_node b) (leaf_node lower) upper first second joins = leaves_shaped a b lower upper first second joins
joins_shaped (leaf_node a) (leaf_node b) (inner_node lower) upper first second joins = absurd joins
joins_shaped (leaf_node a) (inner_node b) lower upper first second joins = absurd joins
joins_shaped (inner_node a) (leaf_node b) lower upper first second joins = absurd joins
joins_shaped (inner_node a) (inner_node b) (leaf_node lower) upper first second joins = absurd joins
joins_shaped (inner_node a) (inner_node b) (inner_node lower) upper first second joins = inners_shaped a b lower upper first second joins

-- the root above two nodes
pub top_shaped : (place : Subtree) (lower : Node) (upper : Upper) (at : ℕ) → IsNodeOffset place.at → IsBound place.left
    → IsBound place.right → IsShaped lower → IsShapedUpper upper → IsNodeOffset at → level_of lower ≤ 8 → IsShaped (top_of place lower upper at)
top_shaped place lower upper at here left right shape above there high =
    let low : 1 ≤ level_of lower = from_one lower shape.level in
    inner_shaped (level_of lower + 1) _ _ place.right (omega (arith, low), omega (arith, high)) (omega arith) (omega arith)
    (record { left = left; child = here }, (record { left = above.left; child = there }, tt)) right where
      from_one : (node : Node) → HasLevel node → 1 ≤ level_of node
      from_one (leaf_node leaf) level = omega arith
      from_one (inner_node inner) level = omega (arith, level.0)

-- the boundaries of the whole tree
pub root_bounds : (root : ℕ) → IsBound (root_place root).left × IsBound (root_place root).right
root_bounds root = (
  record { key = refl; not_closed = refl; no_kind = refl; btype = refl },
  record {
    key = refl;
    not_closed = refl;
    no_kind = refl;
    btype = refl;
  },
)
