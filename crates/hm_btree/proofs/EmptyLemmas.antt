-- A tree whose one page is a leaf without elements.
use Rattle.std.proofs.Common.{◌≡◌, Bool, true, false, ℕ, List, [], refl, sym, ap, subst, ◌∙◌, arith, nat_eq, eqb-true, eq-eqb, Some, None}
use Rattle.std.specs.Prelude.{Option, IsSome, IsTrue, IfSome, ◌||◌}
use Rattle.std.specs.List.Sorted.{IsStrictlySortedBy}
use Rattle.std.proofs.lemmas.List.Elements.{All-from_recursion}
use Rattle.hm_types.specs.Elements.{Key}
use Rattle.hm_fields.specs.Pages.{PageMap, page_in}
use Rattle.hm_types.specs.Told.{BothTell}
use Rattle.hm_key.specs.Elements.{element_key, element_cmp}
use Rattle.hm_node.specs.Leaf.{IsPlaced, IsUpTo}
use Rattle.hm_node.specs.Node.{node_in, Spells}
use Rattle.hm_node.specs.declared.node.Node.{Node}
use Rattle.hm_node.specs.declared.node.Node.TheVariants.{Leaf as leaf_node}
use Rattle.hm_search.specs.Place.{IsInside}
use Rattle.hm_search.specs.Tree.{node_at, elements_in, elements_of, mark_in, mark_of, root_place, height_of, reaches, IsTree, IsStoredTree}
use Rattle.hm_btree.specs.Edits.{leaf_of}
use Rattle.hm_btree.specs.Space.{HasAdded, IsSpot}
use Rattle.hm_btree.specs.Tree.{HasNoPage, HasNothing, HoldsTree, IsTreeSpace, told_elements, told_mark}
use Rattle.hm_btree.proofs.PutLemmas.{not_there, put_at, put_other, test_other}
use Rattle.hm_btree.proofs.ToldLemmas.{IfSome_both, told_after}

no_order : IsStrictlySortedBy element_cmp []
unfolding IsStrictlySortedBy
no_order = tt

-- a leaf without elements
abbrev pub no_elements : Node
no_elements = leaf_node (leaf_of 0 [])

module _ (root : ℕ) (old new : PageMap) (none : HasNoPage old) (spot : IsSpot root) where
  pub empty_tree : HasAdded root no_elements old new → IsTreeSpace new root × (elements_of new root ≡ []) × ((key : Key) → mark_of new root key ≡ 0)
  empty_tree (page, spells, come) =
      let there : new root ≡ Some page = put_at root page old new come.put in
      let here : node_at new root ≡ no_elements = ap (λ (o : Option (List ℕ)). node_in (page_in o)) there ∙ spells.value in
      let tree : IsTree new 0 (root_place root) no_elements = record {
        sound = record {
          level = tt;
          count = omega arith;
          order = no_order;
          fields = All-from_recursion IsPlaced [] tt;
          mirror = All-from_recursion (IsUpTo 0) [] tt;
        };
        level = refl;
        fits = record {
          level = tt;
          count = tt;
          bounds = All-from_recursion (λ e. IsInside (root_place root).left
              (root_place root).right (element_key e)) [] tt;
          mirror = tt;
        };
        below = tt;
      } in
      let one : (at : ℕ) → IsSome (new at) → at ≡ root = λ at some. by_test at some (nat_eq at root) refl in (
        record {
          sound = subst (λ (n : Node). IsStoredTree new (height_of n) (root_place root)) (sym here) (record {
            there = rw there refl;
            spelled = subst (λ (o : Option (List ℕ)). Spells (page_in o) (node_in (page_in o))) (sym there)
                (subst (λ (n : Node). Spells page n) (sym spells.value) spells);
            tree = subst (λ (n : Node). IsTree new 0 (root_place root) n) (sym here) tree;
          });
          whole = λ at some. ap (λ (b : Bool). b || reaches new (height_of (node_at new root)) (node_at new root) at) (eq-eqb at root (one at some));
          spots = λ at some. subst (λ (x : ℕ). IsSpot x) (sym (one at some)) spot;
        },
        ap (λ (n : Node). elements_in new (height_of n) n) here,
        λ key. ap (λ (n : Node). mark_in new (height_of n) n key) here,
      ) where
        by_test : (at : ℕ) → IsSome (new at) → (b : Bool) → nat_eq at root ≡ b → at ≡ root
        by_test at some true is = eqb-true at root is
        by_test at some false is = absurd (not_there (new at) (put_other root page old new come.put at (test_other at root is) ∙ none at) some)

-- the same where the pages are told
pub empty_holds : (root : ℕ) (p q : Option PageMap) → IfSome p HasNoPage → IsSpot root → BothTell p q (HasAdded root no_elements) → HoldsTree q root
empty_holds root p q none spot added = ∣ told_after p q added none (λ old new added none. (empty_tree root old new none spot added).0) ∣₁

pub empty_told : (root : ℕ) (intact : Bool) (p q : Option PageMap) → IsTrue intact → IfSome p HasNoPage → IsSpot root
    → BothTell p q (HasAdded root no_elements) → IfSome p (λ _. told_elements intact q root ≡ Some [])
empty_told root intact None q whole none spot added = tt
empty_told root intact (Some old) None whole none spot added = absurd added
empty_told root intact (Some old) (Some new) whole none spot added = rw whole (ap Some (empty_tree root old new none spot added).1)

pub empty_marks : (root : ℕ) (p q : Option PageMap) → IfSome p HasNoPage → IsSpot root → BothTell p q (HasAdded root no_elements)
    → IfSome p (λ _. (key : Key) → told_mark q root key ≡ 0)
empty_marks root None q none spot added = tt
empty_marks root (Some old) None none spot added = absurd added
empty_marks root (Some old) (Some new) none spot added = (empty_tree root old new none spot added).2

-- both facts of a tree without elements
pub has_nothing : (was told : Option PageMap) (intact : Bool) (root : ℕ)
    → IfSome was (λ _. told_elements intact told root ≡ Some []) → IfSome was (λ _. (key : Key) → told_mark told root key ≡ 0)
    → IfSome was (λ _. HasNothing intact told root)
has_nothing was told intact root elements marks = IfSome_both was elements marks (λ pages elements marks. record { elements = elements; marks = marks })
