-- A node of a tree over a space moves.
use Rattle.std.proofs.Common.{◌≡◌, Bool, true, ℕ, List, Result, ap, Ok, Err, refl, sym, subst, ◌∙◌}
use Rattle.std.specs.Prelude.{IfOk, IfSome, None, OnOk, Option, Some, is_ok, option_map}
use Rattle.hm_types.specs.declared.fault.Fault.{Fault}
use Rattle.hm_types.specs.Elements.{Key}
use Rattle.hm_fields.specs.Pages.{PageMap}
use Rattle.hm_btree.specs.Calls.Choice.{FindsFrom, FindsNode}
use Rattle.hm_btree.specs.Calls.Move.{Exchanges}
use Rattle.hm_btree.specs.Tree.{HoldsTree, told_elements, told_mark}
use Rattle.hm_btree.proofs.ChoiceLemmas.{found_node}
use Rattle.hm_btree.proofs.IntactLemmas.{intact_tree}
use Rattle.hm_search.specs.declared.subtree.Subtree.{Subtree}
use Rattle.hm_stored.specs.Heap.{Heap, frame_of, pages_of, rest_of}
use Rattle.hm_stored.specs.Laws.{rests}
use Rattle.hm_stored.specs.Moving.{MovesNodeTo, StandsIn, outcome}
use Rattle.hm_stored.specs.Turn.{IsEnded}
use Rattle.hm_stored.proofs.StoredLemmas.{TreeReads, ended_done}

-- two facts of a call that succeeded are one of how it ended
pub outcome_ok : {A I Q : Type 0} {P : A → Type 0} → ((x : A) → P x → I → Q) → (r : Result A Fault) → IfOk r P → OnOk r I → OnOk (outcome r) Q
outcome_ok f (Ok x) is also = f x is also
outcome_ok f (Err e) is also = tt

pub outcome_is_ok : {A : Type 0} (r : Result A Fault) → is_ok r ≡ is_ok (outcome r)
outcome_is_ok (Ok x) = refl
outcome_is_ok (Err e) = refl

pub if_ok : {A : Type 0} {P Q : A → Type 0} → ((x : A) → P x → Q x) → (r : Result A Fault) → IfOk r P → IfOk r Q
if_ok f (Ok x) is = f x is
if_ok f (Err e) is = tt

pub same_map : {A : Type 0} (o : Option A) → o ≡ option_map (λ x. x) o
same_map None = refl
same_map (Some x) = refl

-- where a node moved in a space that was lent to the tree, it did in the space that came back and whose change was ended
pub moved_back : (at : ℕ) (old was mid back new final : Heap) (done : Bool) (r : Result ℕ Fault) → was ≡ old → back ≡ mid → final ≡ new
    → done ≡ is_ok r → IsEnded done back new → IfOk r (λ to. IfSome (pages_of was) (λ m. IfSome (pages_of mid) (Exchanges at to m)))
    → IfOk r (MovesNodeTo at old final)
moved_back at old was mid back new final done (Ok to) first second third is ends moves =
    let ended = ended_done back new (subst (λ (t : Bool). IsEnded t back new) is ends) in
    subst (λ (h : Heap). MovesNodeTo at old h to) (sym (third ∙ ended ∙ second)) (subst (λ (h : Heap). MovesNodeTo at h mid to) first moves)
moved_back at old was mid back new final done (Err e) first second third is ends moves = tt

-- a look at the nodes leaves what a tree tells
pub looked_through : (old new : Heap) (root root' : ℕ) (begun intact : Bool) → pages_of new ≡ pages_of old → rest_of new ≡ rest_of old
    → frame_of new ≡ frame_of old → root' ≡ root → intact ≡ begun → TreeReads begun old new root root' intact
looked_through old new root root' begun intact pages rest frame same still =
    let stay = rests old new rest in
    record {
      elements = λ i. told_elements (still i) (pages i) (same i);
      mark = λ i. told_mark (pages i) (same i);
      extents = stay.2;
      room = stay.0;
      free = stay.1;
      frame = frame;
    }

-- a node that was found stands in one of the big-blocks
pub stands_there : (chosen : List ℕ) (from : Key) (old was mid back : Heap) (root at : ℕ) (r : Result (Option Subtree) Fault) → was ≡ old → at ≡ root
    → back ≡ mid → pages_of mid ≡ pages_of was → HoldsTree (pages_of old) root
    → IfOk r (λ found. IfSome (pages_of was) (λ map. FindsFrom chosen from map at found)) → IfOk r (λ found. IfSome found (StandsIn chosen back))
stands_there chosen from old was mid back root at (Ok None) first second third same tree finds = tt
stands_there chosen from old was mid back root at (Err e) first second third same tree finds = tt
stands_there chosen from old was mid back root at (Ok (Some place)) first second third same tree finds =
    let Finds = λ (h : Heap) (n : ℕ). IfSome (pages_of h) (λ map. FindsFrom chosen from map n (Some place)) in
    let here : Finds old root = subst (Finds old) second (subst (λ (h : Heap). Finds h at) first finds) in
    let told : pages_of back ≡ pages_of old = ap pages_of third ∙ same ∙ ap pages_of first in
    subst (λ (o : Option PageMap). IfSome o (λ map. FindsNode chosen map (Some place.at))) (sym told)
    (found_node chosen from (pages_of old) root place (intact_tree true (pages_of old) root refl tree) here)
