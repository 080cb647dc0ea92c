-- What is known of the elements that an intact tree tells.
use Rattle.std.specs.Prelude.{Bool, true, false, ℕ, Option, None, Some, IfSome, All}
use Rattle.std.proofs.Math.Logic.{∥∥₁_elim}
use Rattle.hm_fields.specs.Pages.{PageMap}
use Rattle.hm_key.specs.Elements.{IsContent}
use Rattle.hm_key.specs.Props.{IsContent-prop, AllMarked-prop}
use Rattle.hm_key.specs.Marks.{IsMarked}
use Rattle.hm_search.specs.Tree.{node_at, height_of, root_place, elements_of, mark_of}
use Rattle.hm_search.proofs.ContentLemmas.{tree_content}
use Rattle.hm_search.proofs.LawLemmas.{all_marked}
use Rattle.hm_btree.specs.Tree.{IsIntact, told_elements, told_mark}

-- they are in the order of their keys, and each may stand in a leaf
pub told_sorted : (intact : Bool) (told : Option PageMap) (root : ℕ) → ∥ IsIntact intact told root ∥₁ → IfSome (told_elements intact told root) IsContent
told_sorted false told root sound = tt
told_sorted true None root sound = tt
told_sorted true (Some pages) root sound =
    ∥∥₁_elim sound (IsContent-prop (elements_of pages root)) (λ tree. tree_content pages (height_of (node_at pages root))
    (root_place root) (node_at pages root) tree.sound.tree)

-- the mark at the key of each is at least its two ids
pub told_marked : (intact : Bool) (told : Option PageMap) (root : ℕ) → ∥ IsIntact intact told root ∥₁
    → IfSome (told_elements intact told root) (All (IsMarked (told_mark told root)))
told_marked false told root sound = tt
told_marked true None root sound = tt
told_marked true (Some pages) root sound =
    ∥∥₁_elim sound (AllMarked-prop (mark_of pages root) (elements_of pages root))
    (λ tree. all_marked pages (height_of (node_at pages root)) (root_place root) (node_at pages root) tree.sound.tree)
