-- Calls below a node, where the pages are told.
use Rattle.std.proofs.Common.{◌≡◌, Bool, true, false, refl, true≢false, ℕ, zero, suc, List, ◌∷◌, ◌++◌, length, take, drop, sym, ap, subst, ◌∙◌, arith}
use Rattle.std.proofs.Common.{max, Some, None}
use Rattle.std.specs.Prelude.{Option, IsSome, is_some, IfSome, slice_get}
use Rattle.hm_types.specs.Elements.{Key}
use Rattle.hm_fields.specs.Pages.{PageMap}
use Rattle.hm_types.specs.Told.{BothTell}
use Rattle.hm_key.specs.Elements.{element_at, element_key}
use Rattle.hm_key.specs.Places.{leading}
use Rattle.hm_key.specs.declared.base.Base.{Base}
use Rattle.hm_key.specs.declared.element.Element.{Element}
use Rattle.hm_node.specs.Inner.{HasInnerOrder}
use Rattle.hm_node.specs.Leaf.{leaf_in, HasLeafOrder}
use Rattle.hm_node.specs.Node.{node_in}
use Rattle.hm_node.specs.declared.inner.Child.{Child}
use Rattle.hm_node.specs.declared.inner.Inner.{Inner}
use Rattle.hm_node.specs.declared.leaf.Leaf.{Leaf}
use Rattle.hm_node.specs.declared.node.Node.{Node}
use Rattle.hm_node.specs.declared.node.Node.TheVariants.{Leaf as leaf_node, Inner as inner_node}
use Rattle.hm_search.specs.Place.{IsInside, mirror_of}
use Rattle.hm_search.specs.Search.{holder_place}
use Rattle.hm_search.specs.Tree.{node_at, elements_in, reaches, next_left, child_place, children_of, IsTree, IsStoredTree}
use Rattle.hm_search.specs.declared.subtree.Subtree.{Subtree}
use Rattle.hm_search.proofs.ChildLemmas.{IsChildAt, place_is}
use Rattle.hm_btree.specs.Marking.{Marking}
use Rattle.hm_btree.specs.Edits.{inner_of, with_mirror, ChildChange, ElementChange}
use Rattle.hm_btree.specs.Space.{IsUpdated}
use Rattle.hm_btree.specs.Below.{IsLocal, Changed, Works, SpellsAt}
use Rattle.hm_btree.specs.Calls.Change.{ChangesInLeaf}
use Rattle.hm_btree.specs.Change.{change_of, id_of, marking_of, MayChange, with_change}
use Rattle.hm_btree.specs.declared.change.Change.{Change}
use Rattle.hm_btree.proofs.EditLemmas.{read_there, split_at, set_at_place, child_inside, child_tree, child_element, changed_parent}
use Rattle.hm_btree.proofs.UpdateLemmas.{written_below}
use Rattle.hm_search.proofs.ContentLemmas.{elements_inside}
use Rattle.hm_btree.proofs.LeafLemmas.{element_changed}
use Rattle.hm_btree.proofs.LocalLemmas.{element_each}
use Rattle.hm_btree.proofs.ToldLemmas.{IfSome_all, IfSome_both, told_after}

-- an inner node by its fields
pub inner_is : (x : Inner) (level mirror : ℕ) (cs : List Child) (right : Base) → x.level ≡ level → x.mirror ≡ mirror
    → x.places.items ≡ cs → x.right ≡ right → x ≡ inner_of level mirror cs right
inner_is x level mirror cs right a b c d i = record { level = a i; mirror = b i; places = record { items = c i }; right = d i }

module _ (f : List Element → List Element) (key : Key) (marking : Marking) (Needs : Option Element → Type 0)
    (local : IsLocal f key) (inner inner' : Inner) (i : ℕ) (s : Subtree) (child after : Node) (m : ℕ)
    (changed : Bool) (kept : changed ≡ false → after ≡ child) where
  -- the child that holds the key changed, and was written where its node did
  parent_changed : (old : PageMap) (p2 p3 : Option PageMap) (height : ℕ) (place : Subtree) → IsTree old height place (inner_node inner)
      → IsInside place.left place.right key → (HasInnerOrder inner → i ≡ holder_place key inner.places.items)
      → IsChildAt inner.level inner.right inner.places.items i s → SpellsAt old s child → BothTell p2 p3 (IsUpdated changed s.at after)
      → Works f key marking Needs (Some old) p2 child after → Needs (element_at key (elements_in old height (inner_node inner)))
      → inner'.level ≡ inner.level → inner'.mirror ≡ max inner.mirror m → m ≡ mirror_of after → ChildChange (with_mirror m)
      inner.places.items i inner'.places.items → inner'.right ≡ inner.right
      → IfSome p3 (λ new. Changed f key marking place height old new (inner_node inner) (inner_node inner'))
  parent_changed old p2 p3 zero place tree inside at there here written works needs level mirror is items right =
      absurd (omega (arith, tree.level, tree.sound.level.0))
  parent_changed old p2 p3 (suc lower) place tree inside at there here written works needs level mirror is items right =
      let cs : List Child = inner.places.items in
      let c : Child = there.child in
      let pre : List Child = take i cs in
      let post : List Child = drop (suc i) cs in
      let split = split_at cs i c there.is in
      let tree' : IsTree old (suc lower) place (inner_node (inner_of inner.level inner.mirror (pre ++ c ∷ post) inner.right)) =
      subst (λ (l : List Child). IsTree old (suc lower) place (inner_node (inner_of inner.level inner.mirror l inner.right))) split.0 tree in
      let needs' : Needs (element_at key (elements_in old (suc lower) (inner_node (inner_of inner.level inner.mirror (pre ++ c ∷ post) inner.right)))) =
      subst (λ (l : List Child). Needs
      (element_at key (elements_in old (suc lower) (inner_node (inner_of inner.level inner.mirror l inner.right))))) split.0 needs in
      let held : length pre ≡ holder_place key (pre ++ c ∷ post) = split.1 ∙ at tree.sound.order ∙ ap (holder_place key) split.0 in
      let where_is : s.at ≡ c.child = ap (λ (t : Subtree). t.at) there.place in
      let spot : Subtree = child_place inner.level (next_left inner.right post) c in
      let stored : IsStoredTree old lower spot = child_tree key place lower inner.level inner.mirror inner.right old pre c post tree' held inside in
      let read : node_at old c.child ≡ child = read_there old s c.child child where_is stored.there here in
      let below : IfSome p2 (λ mid. Changed f key marking spot lower old mid child after) =
      works spot lower (subst (λ (n : Node). IsTree old lower spot n) read stored.tree)
      (child_inside key place lower inner.level inner.mirror inner.right old pre c post tree' held inside)
      (subst (λ (n : Node). Needs (element_at key (elements_in old lower n))) read
      (subst Needs (child_element key place lower inner.level inner.mirror inner.right old pre c post tree' held inside) needs')) in
      let items' : inner'.places.items ≡ pre ++ with_mirror (mirror_of after) c ∷ post =
      items c ∙ set_at_place (with_mirror m) cs i c there.is ∙ ap (λ (n : ℕ). pre ++ with_mirror n c ∷ post) is in
      let end : inner' ≡ inner_of inner.level (max inner.mirror (mirror_of after)) (pre ++ with_mirror (mirror_of after) c ∷ post) inner.right =
      inner_is inner' inner.level (max inner.mirror (mirror_of after)) (pre ++ with_mirror (mirror_of after) c ∷ post) inner.right
      level (mirror ∙ ap (max inner.mirror) is) items' right in
      told_after p2 p3 written below (λ mid new written below.
      let put = written_below changed c.child lower spot child after old mid new (reaches mid lower after)
      (subst (λ (a : ℕ). IsUpdated changed a after mid new) where_is written) kept stored.there stored.spelled read
      (subst (λ (n : Node). IsTree old lower spot n) read stored.tree) below.pages in
      let whole = changed_parent key place lower inner.level inner.mirror inner.right old pre c post tree' held inside f marking mid new after local
      (subst (λ (n : Node). Changed f key marking spot lower old mid n after) (sym read) below)
      put in
      subst (λ (x : Inner). Changed f key marking place (suc lower) old new (inner_node inner) (inner_node x)) (sym end)
      (subst (λ (l : List Child). Changed f key marking place (suc lower) old new
      (inner_node (inner_of inner.level inner.mirror l inner.right))
      (inner_node (inner_of inner.level (max inner.mirror (mirror_of after)) (pre ++ with_mirror (mirror_of after) c ∷ post) inner.right)))
      (sym split.0) whole))

  pub inner_works : (node : Node) (p0 p1 p2 p3 : Option PageMap) → node ≡ inner_node inner
      → (HasInnerOrder inner → i ≡ holder_place key inner.places.items) → slice_get (children_of inner) i ≡ Some s → p1 ≡ p0
      → IfSome p0 (λ map. SpellsAt map s child)
      → Works f key marking Needs p1 p2 child after → BothTell p2 p3 (IsUpdated changed s.at after)
      → inner'.level ≡ inner.level → inner'.mirror ≡ max inner.mirror m → m ≡ mirror_of after → ChildChange (with_mirror m)
      inner.places.items i inner'.places.items → inner'.right ≡ inner.right
      → Works f key marking Needs p0 p3 node (inner_node inner')
  inner_works node p0 p1 p2 p3 is at there same here works written level mirror m_is items right =
      IfSome_both p0 here (subst (λ (p : Option PageMap). Works f key marking Needs p p2 child after) same works)
      (λ old here works place height tree inside needs.
      subst (λ (n : Node). IfSome p3 (λ new. Changed f key marking place height old new n (inner_node inner'))) (sym is)
      (parent_changed old p2 p3 height place (subst (λ (n : Node). IsTree old height place n) is tree) inside at
      (place_is inner.level inner.right inner.places.items i s there) here written works
      (subst (λ (n : Node). Needs (element_at key (elements_in old height n))) is needs) level mirror m_is items right))

-- an element of a leaf changed
pub leaf_works : (key : Key) (change : Change) (node after : Node) (leaf leaf' : Leaf) (i : ℕ) (p : Option PageMap)
    → MayChange key change → node ≡ leaf_node leaf → after ≡ leaf_node leaf' → (HasLeafOrder leaf → i ≡ leading key leaf.places.items)
    → leaf'.mirror ≡ max leaf.mirror (id_of change) → ElementChange (change_of change) leaf.places.items i leaf'.places.items
    → Works (with_change key change) key (marking_of change) (λ o. IsSome o) p p node after
leaf_works key change node after leaf leaf' i None may is now at mirror items = tt
leaf_works key change node after leaf leaf' i (Some old) may is now at mirror items = λ place height tree inside there.
    let tree' : IsTree old height place (leaf_node leaf) = subst (λ (n : Node). IsTree old height place n) is tree in
    let there' : IsSome (element_at key leaf.places.items) = subst (λ (n : Node). IsSome (element_at key (elements_in old height n))) is there in
    let some = element_each (λ e. IsInside place.left place.right (element_key e)) key leaf.places.items
    (elements_inside old height place (leaf_node leaf) tree') there' in
    subst (λ (n : Node). Changed (with_change key change) key (marking_of change) place height old old n after) (sym is)
    (subst (λ (n : Node). Changed (with_change key change) key (marking_of change) place height old old (leaf_node leaf) n) (sym now)
    (element_changed place height old key change leaf leaf' some.0 i tree' may there' (at tree'.sound.order) items mirror))

-- no element stands at the key
pub leaf_without : (key : Key) (change : Change) (node after : Node) (leaf : Leaf) (p : Option PageMap) → node ≡ leaf_node leaf
    → (HasLeafOrder leaf → is_some (element_at key leaf.places.items) ≡ false)
    → Works (with_change key change) key (marking_of change) (λ o. IsSome o) p p node after
leaf_without key change node after leaf p is none = IfSome_all p (λ old place height tree inside there.
    absurd (true≢false (sym (subst (λ (n : Node). IsSome (element_at key (elements_in old height n))) is there)
    ∙ none (subst (λ (n : Node). IsTree old height place n) is tree).sound.order)))

-- the element at a key of a leaf in a page changed, if one stands there
pub leaf_changes : (key : Key) (change : Change) (changed : Bool) (before after : List ℕ) (p : Option PageMap) → MayChange key change
    → node_in before ≡ leaf_node (leaf_in before) → node_in after ≡ leaf_node (leaf_in after) → ChangesInLeaf key change before after changed
    → Works (with_change key change) key (marking_of change) (λ o. IsSome o) p p (node_in before) (node_in after)
leaf_changes key change true before after p may is now did =
    let one = did.some refl in
    leaf_works key change (node_in before) (node_in after) (leaf_in before) (leaf_in after) one.at p may is now one.place
    one.changes.mirror one.changes.items
leaf_changes key change false before after p may is now did =
    leaf_without key change (node_in before) (node_in after) (leaf_in before) p is (did.none refl)
