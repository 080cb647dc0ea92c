-- Calls that may make a node two, where the pages are told.
use Rattle.std.proofs.Common.{◌≡◌, ℕ, zero, suc, ◌+◌, ◌-◌, List, ◌∷◌, ◌++◌, length, take, drop, insert, sym, ap, subst, ◌∙◌, arith, max, Some, None}
use Rattle.std.specs.Prelude.{Option, IsNone, IfSome, slice_get}
use Rattle.std.proofs.lemmas.List.Edits.{insert-append_right}
use Rattle.hm_types.specs.Elements.{Key}
use Rattle.hm_types.specs.Offset.{IsOffset}
use Rattle.hm_fields.specs.Pages.{PageMap}
use Rattle.hm_types.specs.Told.{BothTell}
use Rattle.hm_key.specs.Element.{IsElement}
use Rattle.hm_key.specs.Elements.{element_key, element_at, inserted, last_id}
use Rattle.hm_key.specs.declared.base.Base.{Base}
use Rattle.hm_key.specs.declared.element.Element.{Element}
use Rattle.hm_node.specs.Inner.{HasInnerOrder}
use Rattle.hm_node.specs.Leaf.{HasLeafOrder}
use Rattle.hm_node.specs.declared.inner.Child.{Child}
use Rattle.hm_node.specs.declared.inner.Inner.{Inner}
use Rattle.hm_node.specs.declared.leaf.Leaf.{Leaf}
use Rattle.hm_node.specs.declared.node.Node.{Node}
use Rattle.hm_node.specs.declared.node.Node.TheVariants.{Leaf as leaf_node, Inner as inner_node}
use Rattle.hm_search.specs.Place.{IsInside, mirror_of}
use Rattle.hm_search.specs.Search.{holder_place}
use Rattle.hm_search.specs.Tree.{node_at, elements_in, next_left, child_place, children_of, IsTree, IsStoredTree}
use Rattle.hm_search.specs.declared.subtree.Subtree.{Subtree}
use Rattle.hm_search.proofs.ChildLemmas.{IsChildAt, place_is}
use Rattle.hm_btree.specs.Marking.{Marking, Writes}
use Rattle.hm_btree.specs.Edits.{inner_of, with_mirror, ChildChange}
use Rattle.hm_btree.specs.Space.{HasWritten, HasAdded, IsSpot}
use Rattle.hm_btree.specs.Below.{IsLocal, SpellsAt}
use Rattle.hm_btree.specs.Grow.{Split, GrownTo, Grows, LeafBecomes, InnerBecomes}
use Rattle.hm_btree.specs.declared.upper.Upper.{Upper}
use Rattle.hm_btree.proofs.EditLemmas.{read_there, split_at, set_at_place, child_inside, child_tree, child_element}
use Rattle.hm_btree.proofs.GrowLemmas.{grown_leaf, grown_parent}
use Rattle.hm_btree.proofs.ToldLemmas.{IfSome_both, both_after, told_after}

-- a leaf got an element
pub leaf_grows : (e : Element) (node after : Node) (leaf leaf' : Leaf) (p : Option PageMap) (o : Option Upper) → IsElement e
    × IsOffset e.payload → node ≡ leaf_node leaf → after ≡ leaf_node leaf'
    → (HasLeafOrder leaf → LeafBecomes (max leaf.mirror (last_id e)) (inserted e leaf.places.items) leaf' o)
    → Grows (inserted e) (element_key e) (Writes (last_id e)) (λ x. IsNone x) p p node after o
leaf_grows e node after leaf leaf' None o placed is now becomes = tt
leaf_grows e node after leaf leaf' (Some old) o placed is now becomes = λ place height tree inside lacks.
    subst (λ (n : Node). GrownTo (inserted e) (element_key e) (Writes (last_id e)) place height old old n after o) (sym is)
    (subst (λ (n : Node). GrownTo (inserted e) (element_key e) (Writes (last_id e)) place height old old (leaf_node leaf) n o) (sym now)
    (grown_leaf e place height old leaf leaf' (subst (λ (n : Node). IsTree old height place n) is tree) inside
    (subst (λ (n : Node). IsNone (element_at (element_key e) (elements_in old height n))) is lacks) placed o
    (becomes (subst (λ (n : Node). IsTree old height place n) is tree).sound.order)))

-- a child after the one that holds the key
pub insert_next : (pre post : List Child) (c d : Child) (i : ℕ) → length pre ≡ i → insert (pre ++ c ∷ post) (i + 1) d ≡ pre ++ c ∷ d ∷ post
insert_next pre post c d i is =
    let one : i + 1 - i ≡ 1 = omega arith in
    insert-append_right pre (c ∷ post) i (i + 1) d is (omega arith) ∙ ap (λ (n : ℕ). pre ++ insert (c ∷ post) n d) one

becomes_same : (l l' m m' : ℕ) (cs cs' : List Child) (r r' : Base) (x : Inner) (o : Option Upper) → l ≡ l' → m ≡ m' → cs ≡ cs'
    → r ≡ r' → InnerBecomes l m cs r x o → InnerBecomes l' m' cs' r' x o
becomes_same l l' m m' cs cs' r r' x o a b c d becomes =
    subst (λ (n : ℕ). InnerBecomes n m' cs' r' x o) a (subst (λ (n : ℕ). InnerBecomes l n cs' r' x o) b
    (subst (λ (n : List Child). InnerBecomes l m n r' x o) c (subst (λ (n : Base). InnerBecomes l m cs n x o) d becomes)))

module _ (f : List Element → List Element) (key : Key) (marking : Marking) (Needs : Option Element → Type 0)
    (local : IsLocal f key) (inner inner1 inner2 : Inner) (i : ℕ) (s : Subtree) (child after : Node) (m : ℕ) (upper : Upper)
    (at : ℕ) (mu : ℕ) (o : Option Upper) where
  parent_grown : (old : PageMap) (p2 p3 p4 : Option PageMap) (height : ℕ) (place : Subtree) → IsTree old height place (inner_node inner)
      → IsInside place.left place.right key → (HasInnerOrder inner → i ≡ holder_place key inner.places.items)
      → IsChildAt inner.level inner.right inner.places.items i s → SpellsAt old s child → BothTell p2 p3 (HasWritten s.at after)
      → BothTell p3 p4 (HasAdded at upper.node) → IsSpot at → Grows f key marking Needs (Some old) p2 child after (Some upper)
      → Needs (element_at key (elements_in old height (inner_node inner)))
      → inner1.level ≡ inner.level → inner1.mirror ≡ max inner.mirror m → m ≡ mirror_of after → mu ≡ mirror_of upper.node
      → ChildChange (with_mirror m) inner.places.items i inner1.places.items → inner1.right ≡ inner.right
      → InnerBecomes inner1.level (max inner1.mirror mu) (insert inner1.places.items (i + 1)
      (record { left = upper.left; child = at; mirror = mu })) inner1.right inner2 o
      → IfSome p4 (λ new. GrownTo f key marking place height old new (inner_node inner) (inner_node inner2) o)
  parent_grown old p2 p3 p4 zero place tree inside at_holder there here written added spot grows needs level mirror is is_up items right becomes =
      absurd (omega (arith, tree.level, tree.sound.level.0))
  parent_grown old p2 p3 p4 (suc lower) place tree inside at_holder there here written added spot grows needs level mirror is is_up items right becomes =
      let cs : List Child = inner.places.items in
      let c : Child = there.child in
      let pre : List Child = take i cs in
      let post : List Child = drop (suc i) cs in
      let split = split_at cs i c there.is in
      let tree' : IsTree old (suc lower) place (inner_node (inner_of inner.level inner.mirror (pre ++ c ∷ post) inner.right)) =
      subst (λ (l : List Child). IsTree old (suc lower) place (inner_node (inner_of inner.level inner.mirror l inner.right))) split.0 tree in
      let needs' : Needs (element_at key (elements_in old (suc lower) (inner_node (inner_of inner.level inner.mirror (pre ++ c ∷ post) inner.right)))) =
      subst (λ (l : List Child). Needs
      (element_at key (elements_in old (suc lower) (inner_node (inner_of inner.level inner.mirror l inner.right))))) split.0 needs in
      let held : length pre ≡ holder_place key (pre ++ c ∷ post) = split.1 ∙ at_holder tree.sound.order ∙ ap (holder_place key) split.0 in
      let where_is : s.at ≡ c.child = ap (λ (t : Subtree). t.at) there.place in
      let spot_of : Subtree = child_place inner.level (next_left inner.right post) c in
      let stored : IsStoredTree old lower spot_of = child_tree key place lower inner.level inner.mirror inner.right old pre c post tree' held inside in
      let read : node_at old c.child ≡ child = read_there old s c.child child where_is stored.there here in
      let below : IfSome p2 (λ mid. Split f key marking spot_of lower old mid child after upper.node upper.left) =
      grows spot_of lower (subst (λ (n : Node). IsTree old lower spot_of n) read stored.tree)
      (child_inside key place lower inner.level inner.mirror inner.right old pre c post tree' held inside)
      (subst (λ (n : Node). Needs (element_at key (elements_in old lower n))) read
      (subst Needs (child_element key place lower inner.level inner.mirror inner.right old pre c post tree' held inside) needs')) in
      let changed : inner1.places.items ≡ pre ++ with_mirror (mirror_of after) c ∷ post =
      items c ∙ set_at_place (with_mirror m) cs i c there.is ∙ ap (λ (n : ℕ). pre ++ with_mirror n c ∷ post) is in
      let list : insert inner1.places.items (i + 1) (record { left = upper.left; child = at; mirror = mu }) ≡ pre ++ with_mirror
      (mirror_of after) c ∷ record { left = upper.left; child = at; mirror = mirror_of upper.node } ∷ post =
      ap (λ (l : List Child). insert l (i + 1) (record { left = upper.left; child = at; mirror = mu })) changed
      ∙ insert_next pre post (with_mirror (mirror_of after) c) (record { left = upper.left; child = at; mirror = mu }) i split.1
      ∙ ap (λ (n : ℕ). pre ++ with_mirror (mirror_of after) c ∷ record { left = upper.left; child = at; mirror = n } ∷ post) is_up in
      let end = becomes_same inner1.level inner.level (max inner1.mirror mu) (max (max inner.mirror (mirror_of after))
      (mirror_of upper.node)) (insert inner1.places.items (i + 1) (record { left = upper.left; child = at; mirror = mu }))
      (pre ++ with_mirror (mirror_of after) c ∷ record { left = upper.left; child = at; mirror = mirror_of upper.node } ∷ post)
      inner1.right inner.right inner2 o level
      (ap (λ (n : ℕ). max n mu) (mirror ∙ ap (max inner.mirror) is) ∙ ap (max (max inner.mirror (mirror_of after))) is_up) list right becomes in
      let both : BothTell p2 p4 (λ mid new. (part : PageMap) × HasWritten s.at after mid part × HasAdded at upper.node part new) =
      both_after p2 p3 p4 written added (λ mid part new written added. (part, written, added)) in
      told_after p2 p4 both below (λ mid new pages below.
      subst (λ (l : List Child). GrownTo f key marking place (suc lower) old new
      (inner_node (inner_of inner.level inner.mirror l inner.right)) (inner_node inner2) o) (sym split.0)
      (grown_parent key place lower inner.level inner.mirror inner.right old pre c post tree' held inside f marking mid pages.0 new
      after upper.node upper.left at inner2 o local
      (subst (λ (n : Node). Split f key marking spot_of lower old mid n after upper.node upper.left) (sym read) below)
      (subst (λ (a : ℕ). HasWritten a after mid pages.0) where_is pages.1) pages.2 spot end))

  pub inner_grows : (node : Node) (p0 p1 p2 p3 p4 : Option PageMap) → node ≡ inner_node inner
      → (HasInnerOrder inner → i ≡ holder_place key inner.places.items) → slice_get (children_of inner) i ≡ Some s → p1 ≡ p0
      → IfSome p0 (λ map. SpellsAt map s child)
      → Grows f key marking Needs p1 p2 child after (Some upper) → BothTell p2 p3 (HasWritten s.at after) → BothTell p3 p4 (HasAdded at upper.node) → IsSpot at
      → inner1.level ≡ inner.level → inner1.mirror ≡ max inner.mirror m → m ≡ mirror_of after → mu ≡ mirror_of upper.node
      → ChildChange (with_mirror m) inner.places.items i inner1.places.items → inner1.right ≡ inner.right
      → InnerBecomes inner1.level (max inner1.mirror mu) (insert inner1.places.items (i + 1)
      (record { left = upper.left; child = at; mirror = mu })) inner1.right inner2 o
      → Grows f key marking Needs p0 p4 node (inner_node inner2) o
  inner_grows node p0 p1 p2 p3 p4 is at_holder there same here grows written added spot level mirror m_is mu_is items right becomes =
      IfSome_both p0 here (subst (λ (p : Option PageMap). Grows f key marking Needs p p2 child after (Some upper)) same grows)
      (λ old here grows place height tree inside needs.
      subst (λ (n : Node). IfSome p4 (λ new. GrownTo f key marking place height old new n (inner_node inner2) o)) (sym is)
      (parent_grown old p2 p3 p4 height place (subst (λ (n : Node). IsTree old height place n) is tree) inside at_holder
      (place_is inner.level inner.right inner.places.items i s there) here written added spot grows
      (subst (λ (n : Node). Needs (element_at key (elements_in old height n))) is needs) level mirror m_is mu_is items right becomes))
