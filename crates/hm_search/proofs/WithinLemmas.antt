-- The elements of each leaf that a tree reaches stand side by side in the tree's list: a leaf that has an element before a key and one
-- from it on has the first of the tree.
use Rattle.std.proofs.Common.{◌≡◌, Bool, true, false, true≢false, ℕ, zero, suc, ◌≤◌, inl, inr, List, [], ◌∷◌, ◌++◌, refl, sym, ap, subst, ◌∙◌, arith}
use Rattle.std.proofs.Common.{nat_eq, eqb-true}
use Rattle.std.specs.Prelude.{Option, IfSome, IsSome, None, Some, if◌then◌else◌}
use Rattle.std.specs.List.{AllByRecursion, flat_map, list_any}
use Rattle.std.specs.List.Sorted.{IsStrictlySortedBy}
use Rattle.std.specs.Ordering.{is_lt}
use Rattle.std.specs.declared.cmp.Ordering.{Ordering}
use Rattle.std.specs.declared.cmp.Ordering.TheVariants.{Less}
use Rattle.std.proofs.lemmas.List.{append_assoc, append-nil}
use Rattle.hm_types.specs.Elements.{Key}
use Rattle.hm_fields.specs.Pages.{PageMap, page_in}
use Rattle.hm_key.specs.Elements.{element_cmp, element_key, first_from, stands_before}
use Rattle.hm_key.specs.Places.{leading}
use Rattle.hm_key.specs.Stores.{IsFound}
use Rattle.hm_key.specs.declared.element.Element.{Element}
use Rattle.hm_key.specs.Key.{IsBefore}
use Rattle.hm_key.proofs.KeyLemmas.{key_total}
use Rattle.hm_node.specs.Node.{node_in}
use Rattle.hm_node.specs.declared.inner.Child.{Child}
use Rattle.hm_node.specs.declared.leaf.Leaf.{Leaf}
use Rattle.hm_node.specs.declared.node.Node.{Node}
use Rattle.hm_node.specs.declared.node.Node.TheVariants.{Leaf as leaf_node, Inner as inner_node}
use Rattle.hm_search.specs.Look.{ShowsWithin}
use Rattle.hm_search.specs.Tree.{node_at, elements_in, elements_of, height_of, reaches, Reaches, root_place, IsSoundTree, IsWhole}
use Rattle.hm_search.specs.Reach.{is_under}
use Rattle.hm_search.proofs.ContentLemmas.{tree_content}
use Rattle.hm_search.proofs.FirstLemmas.{first_before, first_found}
use Rattle.hm_search.proofs.ListLemmas.{each_so}
use Rattle.hm_search.proofs.OrderLemmas.{before_is}
use Rattle.hm_search.proofs.ReachLemmas.{either}
use Rattle.hm_search.proofs.SearchLemmas.{leaf_elements}

-- a list stands in another one side by side
pub record HasPart (es part : List Element) : Type 0 where
  pub before : List Element
  pub after : List Element
  pub is : es ≡ before ++ (part ++ after)

pub part_itself : (es part : List Element) → es ≡ part → HasPart es part
part_itself es part same = record { before = []; after = []; is = same ∙ sym (append-nil part) }

pub part_before : (xs ys part : List Element) → HasPart xs part → HasPart (xs ++ ys) part
part_before xs ys part has = record {
  before = has.before;
  after = has.after ++ ys;
  is = ap (λ (l : List Element). l ++ ys) has.is ∙ append_assoc has.before (part ++ has.after) ys
      ∙ ap (λ (l : List Element). has.before ++ l) (append_assoc part has.after ys);
}

pub part_after : (xs ys part : List Element) → HasPart ys part → HasPart (xs ++ ys) part
part_after xs ys part has = record {
  before = xs ++ has.before;
  after = has.after;
  is = ap (λ (l : List Element). xs ++ l) has.is ∙ sym (append_assoc xs has.before (part ++ has.after));
}

-- the elements of a leaf that is reached stand so among those of the node from which it is
module _ (map : PageMap) (x : ℕ) (leaf : Leaf) (here : node_at map x ≡ leaf_node leaf) where
  pub part_at : (height at : ℕ) → at ≡ x → HasPart (elements_in map height (node_at map at)) leaf.places.items
  part_at height at same = part_itself (elements_in map height (node_at map at)) leaf.places.items
      (ap (λ (a : ℕ). elements_in map height (node_at map a)) same ∙ ap (elements_in map height) here ∙ leaf_elements map height leaf)

  part_among : (height : ℕ) → ((node : Node) → Reaches map height node x → HasPart (elements_in map height node) leaf.places.items)
      → (cs : List Child) → list_any (is_under map height x) cs ≡ true
      → HasPart (flat_map (λ (c : Child). elements_in map height (node_at map c.child)) cs) leaf.places.items
  part_among height below [] is = absurd (true≢false (sym is))
  part_among height below (c ∷ cs) is =
      let all = λ (d : Child). elements_in map height (node_at map d.child) in
      elim (either (is_under map height x c) (list_any (is_under map height x) cs) is) [
        | inl first ↦ part_before (all c) (flat_map all cs) leaf.places.items
            (elim (either (nat_eq c.child x) (reaches map height (node_at map c.child) x) first) [
              | inl same ↦ part_at height c.child (eqb-true c.child x same)
              | inr lower ↦ below (node_at map c.child) lower
            ])
        | inr later ↦ part_after (all c) (flat_map all cs) leaf.places.items (part_among height below cs later)
      ]

  pub part_below : (height : ℕ) (node : Node) → Reaches map height node x → HasPart (elements_in map height node) leaf.places.items
  part_below zero (leaf_node l) is = absurd (true≢false (sym is))
  part_below zero (inner_node inner) is = absurd (true≢false (sym is))
  part_below (suc height) (leaf_node l) is = absurd (true≢false (sym is))
  part_below (suc height) (inner_node inner) is = part_among height (λ node lower. part_below height node lower) inner.places.items is

-- lists in order
module _ (cmp : Element → Element → Ordering) where
  pub rest_sorted : (xs ys : List Element) → IsStrictlySortedBy cmp (xs ++ ys) → IsStrictlySortedBy cmp ys
  unfolding IsStrictlySortedBy
  rest_sorted [] ys sorted = sorted
  rest_sorted (x ∷ xs) ys sorted = rest_sorted xs ys sorted.1

  each_front : (P : Element → Type 0) (xs ys : List Element) → AllByRecursion P (xs ++ ys) → AllByRecursion P xs
  each_front P [] ys each = tt
  each_front P (x ∷ xs) ys each = (each.0, each_front P xs ys each.1)

  each_rest : (P : Element → Type 0) (xs ys : List Element) → AllByRecursion P (xs ++ ys) → AllByRecursion P ys
  each_rest P [] ys each = each
  each_rest P (x ∷ xs) ys each = each_rest P xs ys each.1

  pub front_sorted : (xs ys : List Element) → IsStrictlySortedBy cmp (xs ++ ys) → IsStrictlySortedBy cmp xs
  unfolding IsStrictlySortedBy
  front_sorted [] ys sorted = tt
  front_sorted (x ∷ xs) ys sorted = (each_front (λ y. cmp x y ≡ Less) xs ys sorted.0, front_sorted xs ys sorted.1)

  -- what stands before an element of such a list is less
  pub front_less : (xs : List Element) (e : Element) (ys : List Element) → IsStrictlySortedBy cmp (xs ++ e ∷ ys)
      → AllByRecursion (λ x. cmp x e ≡ Less) xs
  unfolding IsStrictlySortedBy
  front_less [] e ys sorted = tt
  front_less (x ∷ xs) e ys sorted = ((each_rest (λ y. cmp x y ≡ Less) xs (e ∷ ys) sorted.0).0, front_less xs e ys sorted.1)

-- where an element of a stretch of a list in order stands before a key, all before the stretch do
first_inside : (before part after : List Element) (key : Key) (e : Element) → IsStrictlySortedBy element_cmp (before ++ (part ++ after))
    → 1 ≤ leading key part → first_from key part ≡ Some e → first_from key (before ++ (part ++ after)) ≡ Some e
first_inside before [] after key e sorted some found = absurd (omega (arith, some))
first_inside before (d ∷ ds) after key e sorted some found = by_test (stands_before key d) refl some where
  by_test : (b : Bool) → stands_before key d ≡ b → 1 ≤ (if b then suc (leading key ds) else 0)
      → first_from key (before ++ ((d ∷ ds) ++ after)) ≡ Some e
  by_test false is some = absurd (omega (arith, some))
  by_test true is some =
      let less : IsBefore (element_key d) key = before_is (element_key d) key is in
      let all = each_so (λ x. element_cmp x d ≡ Less) (λ x. stands_before key x ≡ true) before
      (λ x first. ap is_lt (key_total.trans (element_key x) (element_key d) key first less)) (front_less element_cmp before d (ds ++ after) sorted) in
      first_before key before ((d ∷ ds) ++ after) all ∙ first_found key e (d ∷ ds) after found

-- what a leaf shows within it, a tree shows that reaches it
pub within_first : (map : PageMap) (root at : ℕ) (page : List ℕ) (key : Key) (e : Element) → map at ≡ Some page → ShowsWithin key (node_in page) e
    → IsSoundTree map root → IsWhole map root → first_from key (elements_of map root) ≡ Some e
within_first map root at page key e there shows sound whole =
    by_node (node_in page) (ap (λ (p : Option (List ℕ)). node_in (page_in p)) there) shows where
      some : IsSome (map at)
      some = rw there refl

      top : Node
      top = node_at map root

      by_node : (n : Node) → node_at map at ≡ n → ShowsWithin key n e → first_from key (elements_of map root) ≡ Some e
      by_node (inner_node inner) here shows = absurd shows
      by_node (leaf_node leaf) here shows =
          let part : HasPart (elements_of map root) leaf.places.items = elim (either (nat_eq at root) (reaches map (height_of top) top at) (whole at some)) [
            | inl same ↦ part_at map at leaf here (height_of top) root (sym (eqb-true at root same))
            | inr below ↦ part_below map at leaf here (height_of top) top below
          ] in
          let sorted = subst (IsStrictlySortedBy element_cmp) part.is (tree_content map (height_of top) (root_place root) top sound.tree).rising in
          let order = front_sorted element_cmp leaf.places.items part.after
          (rest_sorted element_cmp part.before (leaf.places.items ++ part.after) sorted) in
          ap (first_from key) part.is
          ∙ first_inside part.before leaf.places.items part.after key e sorted (shows.before order) (shows.first order)

pub within_told : (told : Option PageMap) (at : ℕ) (page : List ℕ) (key : Key) (e : Element) → IfSome told (λ map. map at ≡ Some page)
    → ShowsWithin key (node_in page) e
    → IfSome told (λ map. (root : ℕ) → IsSoundTree map root → IsWhole map root → first_from key (elements_of map root) ≡ Some e)
within_told None at page key e there shows = tt
within_told (Some map) at page key e there shows = λ root sound whole. within_first map root at page key e there shows sound whole

-- a node that shows an element for a key is a leaf, and the element one from the key on
pub within_found : (node : Node) (key : Key) (e : Element) → ShowsWithin key node e → IsFound key e
within_found (leaf_node leaf) key e shows = shows.found
within_found (inner_node inner) key e shows = absurd shows

-- the same of what a leaf may show
pub within_shown : (told : Option PageMap) (at : ℕ) (page : List ℕ) (key : Key) (found : Option Element) → IfSome told (λ map. map at ≡ Some page)
    → IfSome found (ShowsWithin key (node_in page))
    → IfSome found (λ e. IfSome told (λ map. (root : ℕ) → IsSoundTree map root → IsWhole map root → first_from key (elements_of map root) ≡ Some e))
within_shown told at page key None there shows = tt
within_shown told at page key (Some e) there shows = within_told told at page key e there shows
