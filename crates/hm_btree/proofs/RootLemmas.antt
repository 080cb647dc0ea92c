-- The root of a tree that changed.
use Rattle.std.proofs.Common.{◌≡◌, Bool, true, false, true≢false, ◌||◌, ℕ, inl, inr, List, refl, sym, ap, subst, ◌∙◌, arith, nat_eq}
use Rattle.std.proofs.Common.{eqb-true, eq-eqb, Some}
use Rattle.std.specs.Prelude.{Option, IsSome, IfSome}
use Rattle.hm_types.specs.Elements.{Key}
use Rattle.hm_fields.specs.Pages.{PageMap, page_in}
use Rattle.hm_types.specs.Told.{BothTell}
use Rattle.hm_key.specs.Elements.{element_key, element_at}
use Rattle.hm_key.specs.declared.element.Element.{Element}
use Rattle.hm_node.specs.Node.{node_in, Spells}
use Rattle.hm_node.specs.declared.node.Node.{Node}
use Rattle.hm_search.specs.Place.{IsInside}
use Rattle.hm_search.specs.Tree.{node_at, elements_in, mark_in, reaches, height_of, root_place, IsTree, IsStoredTree, elements_of, mark_of}
use Rattle.hm_search.proofs.ContentLemmas.{elements_inside}
use Rattle.hm_search.proofs.FrameLemmas.{IsSameBelow, frame_elements, frame_mark, frame_reaches, frame_tree}
use Rattle.hm_search.proofs.ReachLemmas.{not_below_itself}
use Rattle.hm_btree.specs.Marking.{Marking, MarksBy}
use Rattle.hm_btree.specs.Below.{Replaces, Changed, SpellsAt, Works}
use Rattle.hm_btree.specs.Space.{HasWritten, IsSpot, IsUpdated}
use Rattle.hm_btree.specs.Tree.{IsTreeSpace, TreeChanged, ChangesTree}
use Rattle.hm_btree.proofs.LocalLemmas.{element_each}
use Rattle.hm_btree.proofs.MarkLemmas.{same_marks, marks_whole}
use Rattle.hm_btree.proofs.NodeLemmas.{not_reached}
use Rattle.hm_btree.proofs.PutLemmas.{put_at, put_other, replaces_put, other_test}
use Rattle.hm_btree.proofs.ToldLemmas.{IfSome_both, told_after}
use Rattle.hm_btree.proofs.UpdateLemmas.{written_below}

-- pages that are all that a call leaves
pub whole_after : (olds news : ℕ → Bool) (old new : PageMap) → Replaces olds news old new
    → ((x : ℕ) → IsSome (old x) → olds x ≡ true) → (x : ℕ) → IsSome (new x) → news x ≡ true
whole_after olds news old new replaces all x there = by_test (news x) refl where
  by_test : (b : Bool) → news x ≡ b → b ≡ true
  by_test true is = refl
  by_test false is = let more = replaces.rest x there is in absurd (true≢false (sym (all x more.1) ∙ more.0))

pub spots_after : (olds news : ℕ → Bool) (old new : PageMap) → Replaces olds news old new → ((x : ℕ) → IsSome (old x) → IsSpot x)
    → (x : ℕ) → IsSome (new x) → IsSpot x
spots_after olds news old new replaces all x there = elim (replaces.spots x there) [ inl was ↦ all x was | inr spot ↦ spot ]

pub turned : (a b : ℕ) → nat_eq a b ≡ nat_eq b a
turned a b = by_test (nat_eq a b) refl where
  by_test : (t : Bool) → nat_eq a b ≡ t → t ≡ nat_eq b a
  by_test true is = sym (eq-eqb b a (sym (eqb-true a b is)))
  by_test false is = sym (other_test b a (λ same. true≢false (sym (eq-eqb a b (sym same)) ∙ is)))

-- the root's node changed and is written
module _ (f : List Element → List Element) (key : Key) (marking : Marking) (root : ℕ) (old mid new : PageMap) (after : Node) where
  pub root_written : IsTreeSpace old root → Changed f key marking (root_place root) (height_of (node_at old root)) old mid
      (node_at old root) after → HasWritten root after mid new → TreeChanged f key marking old new root root
  root_written tree change (page, spells, put) =
      let was : Node = node_at old root in
      let h : ℕ = height_of was in
      let itself : reaches old h was root ≡ false = not_below_itself old h (root_place root) was root tree.sound.tree refl in
      let apart : reaches mid h after root ≡ false = not_reached old mid h was after change.pages root tree.sound.there itself in
      let same : IsSameBelow mid new h after = record {
        same = λ x is. put_other root page mid new put x
            (λ one. true≢false (sym is ∙ ap (reaches mid h after) one ∙ apart));
      } in
      let there : new root ≡ Some page = put_at root page mid new put in
      let here : node_at new root ≡ after = ap (λ (o : Option (List ℕ)). node_in (page_in o)) there ∙ spells.value in
      let high : height_of (node_at new root) ≡ h = ap height_of here ∙ omega (arith, change.tree.level) in
      let elements : elements_of new root ≡ elements_in mid h after =
      ap (λ (n : ℕ). elements_in new n (node_at new root)) high ∙ ap (elements_in new h) here ∙ frame_elements mid new h after same in
      let marks : (k : Key) → mark_of new root k ≡ mark_in mid h after k = λ k.
      ap (λ (n : ℕ). mark_in new n (node_at new root) k) high ∙ ap (λ (n : Node). mark_in new h n k) here ∙ frame_mark mid new k h after same in
      let reached : (x : ℕ) → reaches new (height_of (node_at new root)) (node_at new root) x ≡ reaches mid h after x = λ x.
      ap (λ (n : ℕ). reaches new n (node_at new root) x) high ∙ ap (λ (n : Node). reaches new h n x) here ∙ frame_reaches mid new x h after same in
      let replaces = replaces_put root page (reaches old h was) (reaches mid h after) old mid new put tree.sound.there change.pages in
      record {
        tree = record {
          sound = subst (λ (n : ℕ). IsStoredTree new n (root_place root)) (sym high) (record {
            there = rw there refl;
            spelled = subst (λ (o : Option (List ℕ)). Spells (page_in o) (node_in (page_in o))) (sym there)
                (subst (λ (n : Node). Spells page n) (sym spells.value) spells);
            tree = subst (λ (n : Node). IsTree new h (root_place root) n) (sym here) (frame_tree mid new h (root_place root) after same change.tree);
          });
          whole = λ x some. ap (λ (b : Bool). b || reaches new (height_of (node_at new root)) (node_at new root) x)
              (turned x root) ∙ ap (λ (b : Bool). nat_eq root x || b) (reached x)
              ∙ whole_after (λ y. nat_eq root y || reaches old h was y) (λ y. nat_eq root y || reaches mid h after y) old new replaces
              (λ y was_there. ap (λ (b : Bool). b || reaches old h was y) (turned root y) ∙ tree.whole y was_there) x some;
          spots = spots_after (λ y. nat_eq root y || reaches old h was y) (λ y. nat_eq root y || reaches mid h after y) old new replaces tree.spots;
        };
        elements = elements ∙ change.elements;
        mark = same_marks (MarksBy marking key (mark_of old root)) (mark_in mid h after) (mark_of new root) marks
            (marks_whole marking key (root_place root).left (root_place root).right (mark_of old root) (mark_in mid h after) change.mark);
      }

-- a root that is written where its node changed
pub root_updated : (f : List Element → List Element) (key : Key) (marking : Marking) (root : ℕ) (old mid new : PageMap) (after : Node)
    (changed : Bool) → (changed ≡ false → after ≡ node_at old root) → IsTreeSpace old root
    → Changed f key marking (root_place root) (height_of (node_at old root)) old mid (node_at old root) after
    → IsUpdated changed root after mid new → TreeChanged f key marking old new root root
root_updated f key marking root old mid new after changed kept tree change updated =
    let h : ℕ = height_of (node_at old root) in
    root_written f key marking root old mid new after tree change
    (written_below changed root h (root_place root) (node_at old root) after old mid new (reaches mid h after) updated kept
    tree.sound.there tree.sound.spelled refl tree.sound.tree change.pages)

-- the same where the pages are told
pub root_works : (f : List Element → List Element) (key : Key) (marking : Marking) (root : ℕ) (Needs : Option Element → Type 0)
    (p0 p1 p2 p3 : Option PageMap) (node after : Node) (changed : Bool) → (changed ≡ false → after ≡ node)
    → ((old : PageMap) → IsTreeSpace old root → Needs (element_at key (elements_of old root)) → IsInside (root_place root).left (root_place root).right key)
    → p1 ≡ p0 → IfSome p0 (λ map. SpellsAt map (root_place root) node) → Works f key marking Needs p1 p2 node after
    → BothTell p2 p3 (IsUpdated changed root after)
    → ChangesTree f key marking (λ es. Needs (element_at key es)) p0 p3 root root
root_works f key marking root Needs p0 p1 p2 p3 node after changed kept inside same here works written =
    IfSome_both p0 here (subst (λ (p : Option PageMap). Works f key marking Needs p p2 node after) same works) (λ old here works tree needs.
    let read : node_at old root ≡ node = (here tree.sound.there).value in
    let h : ℕ = height_of (node_at old root) in
    let change : IfSome p2 (λ mid. Changed f key marking (root_place root) h old mid node after) =
    works (root_place root) h (subst (λ (n : Node). IsTree old h (root_place root) n) read tree.sound.tree) (inside old tree needs)
    (subst (λ (n : Node). Needs (element_at key (elements_in old h n))) read needs) in
    told_after p2 p3 written change (λ mid new written change. root_updated f key marking root old mid new after changed (λ is. kept is ∙ sym read) tree
    (subst (λ (n : Node). Changed f key marking (root_place root) h old mid n after) (sym read) change) written))

-- an element that is there stands inside the boundaries of the whole tree
pub there_inside : (root : ℕ) (key : Key) (old : PageMap) → IsTreeSpace old root → IsSome (element_at key (elements_of old root))
    → IsInside (root_place root).left (root_place root).right key
there_inside root key old tree there =
    let some = element_each (λ e. IsInside (root_place root).left (root_place root).right (element_key e)) key (elements_of old root)
    (elements_inside old (height_of (node_at old root)) (root_place root) (node_at old root) tree.sound.tree) there in
    subst (λ (k : Key). IsInside (root_place root).left (root_place root).right k) some.1 some.2
