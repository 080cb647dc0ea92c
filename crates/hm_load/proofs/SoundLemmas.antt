-- A sound image has no damage.
use Rattle.std.proofs.Common.{◌≡◌, ℕ, zero, suc, ◌+◌, ◌-◌, ◌*◌, ◌≤◌, List, [], ◌∷◌, ◌++◌, map, Option, Some}
use Rattle.std.proofs.Common.{slice_get, refl, sym, ap, subst, ◌∙◌, flat_map, arith, length}
use Rattle.std.specs.List.{AllByRecursion, Contains}
use Rattle.std.proofs.lemmas.List.Elements.{All-contains, Contains-append_left, Contains-append_right}
use Rattle.std.proofs.lemmas.Option.{get_or_from_slice_get, slice_get_within}
use Rattle.hm_types.specs.Layout.{start_of}
use Rattle.hm_types.specs.Offset.{byte_of}
use Rattle.hm_types.specs.References.{IsPlaced, Reference}
use Rattle.hm_fields.specs.Pages.{page_in}
use Rattle.hm_header.specs.declared.header.Header.{Header}
use Rattle.hm_image.specs.Image.{bytes_at, full_of, nodes_below, pages_of, references_from, to_node, to_payload}
use Rattle.hm_image.specs.Sound.{IsSoundBy}
use Rattle.hm_image.proofs.ReferenceLemmas.{reached_is_referred}
use Rattle.hm_key.specs.declared.element.Element.{Element}
use Rattle.hm_node.specs.Node.{node_in}
use Rattle.hm_node.specs.declared.inner.Child.{Child}
use Rattle.hm_node.specs.declared.inner.Inner.{Inner}
use Rattle.hm_node.specs.declared.node.Node.{Node}
use Rattle.hm_node.specs.declared.node.Node.TheVariants.{Leaf as leaf_node, Inner as inner_node}
use Rattle.hm_records.specs.Payload.{IsPayload}
use Rattle.hm_search.specs.Reach.{IsSameBelow}
use Rattle.hm_search.specs.Tree.{HasChildren, IsStoredTree, IsTree, Reaches, children_of, elements_in, elements_of, height_of, node_at, root_place}
use Rattle.hm_search.specs.declared.subtree.Subtree.{Subtree}
use Rattle.hm_search.proofs.ChildLemmas.{place_is}
use Rattle.hm_search.proofs.DamageLemmas.{not_broken, stored_here}
use Rattle.hm_search.proofs.FrameLemmas.{frame_elements, frame_stored}
use Rattle.hm_search.proofs.ListLemmas.{each_get}
use Rattle.hm_types.specs.Faults.{IsUndamaged}
use Rattle.hm_types.specs.declared.fault.Fault.{Fault}
use Rattle.hm_types.specs.declared.fault.Fault.TheVariants.{Media, Damaged, NoMemory}
use Rattle.hm_load.specs.Damage.{IsDamage, IsTreeDamage, IsWholeBelow, elements_at, volume_page, volume_pages}
use Rattle.hm_load.specs.Damage.IsDamage.{of_layer1, of_layer2, of_tree}
use Rattle.hm_load.specs.Damage.IsTreeDamage.{of_node, of_payload, of_child}
use Rattle.hm_load.specs.Faults.{Tells}
use Rattle.hm_load.specs.Payload.{HasPayload, IsPayloadOf}
use Rattle.hm_load.proofs.EntryLemmas.{layer2_sound}
use Rattle.hm_load.proofs.ImageLemmas.{page_of_image}
use Rattle.hm_load.proofs.RangeLemmas.{all_inside}
use Rattle.hm_load.proofs.TreeLemmas.{each_of}

-- what holds of a list holds of a part of it
each_left : (P : Element → Type 0) (xs ys : List Element) → AllByRecursion P (xs ++ ys) → AllByRecursion P xs
each_left P [] ys each = tt
each_left P (x ∷ xs) ys each = (each.0, each_left P xs ys each.1)

each_right : (P : Element → Type 0) (xs ys : List Element) → AllByRecursion P (xs ++ ys) → AllByRecursion P ys
each_right P [] ys each = each
each_right P (x ∷ xs) ys each = each_right P xs ys each.1

flat_part : (P : Element → Type 0) (f : Child → List Element) (cs : List Child) (i : ℕ) (c : Child) → slice_get cs i ≡ Some c
    → AllByRecursion P (flat_map f cs) → AllByRecursion P (f c)
flat_part P f [] i c is each = absurd cc
flat_part P f (d ∷ cs) zero c is each =
    let same : d ≡ c = cc in
    subst (λ (x : Child). AllByRecursion P (f x)) same (each_left P (f d) (flat_map f cs) each)
flat_part P f (d ∷ cs) (suc i) c is each = flat_part P f cs i c is (each_right P (f d) (flat_map f cs) each)

-- what is whole below a node is whole below each of its children
module _ (image : List ℕ) (bigblocks : ℕ) where
  whole_child : (s : Subtree) (inner : Inner) (i : ℕ) (child : Subtree) → node_at (volume_pages image bigblocks) s.at ≡ inner_node inner
      → slice_get (children_of inner) i ≡ Some child
      → IsWholeBelow image bigblocks s → IsWholeBelow image bigblocks child
  whole_child s inner i child is get whole =
      let map = volume_pages image bigblocks in
      let height = inner.level - 2 in
      let tree = subst (λ (n : Node). IsTree map (height_of n) s n) is whole.tree.tree in
      let low = tree.sound.level.0 in
      let level : inner.level - 1 ≡ suc height = omega arith in
      let below : HasChildren map (suc height) (inner_node inner) = subst (λ (h : ℕ). HasChildren map h (inner_node inner)) level tree.below in
      let stored : IsStoredTree map height child = each_get (IsStoredTree map height) (children_of inner) i child get below in
      let deep = stored.tree.level in
      let same : height ≡ height_of (node_at map child.at) = omega (arith, deep) in
      let place = place_is inner.level inner.right inner.places.items i child get in
      let flat = subst (λ (n : Node). AllByRecursion (HasPayload image bigblocks) (elements_in map (height_of n) n)) is whole.payloads in
      let parts = subst (λ (h : ℕ). AllByRecursion (HasPayload image bigblocks) (elements_in map h (inner_node inner))) level flat in
      let part = flat_part (HasPayload image bigblocks) (λ (c : Child). elements_in map height
      (node_at map c.child)) inner.places.items i place.child place.is parts in
      let here = subst (λ (p : Subtree). AllByRecursion (HasPayload image bigblocks) (elements_in map height (node_at map p.at))) (sym place.place) part in
      record {
        tree = subst (λ (h : ℕ). IsStoredTree map h child) same stored;
        payloads = subst (λ (h : ℕ). AllByRecursion (HasPayload image bigblocks) (elements_in map h (node_at map child.at))) same here;
      }

  -- so no damage is below a place where all is whole
  pub no_tree_damage : (at kind : ℕ) (s : Subtree) → IsTreeDamage image bigblocks at kind s → IsWholeBelow image bigblocks s → ⊥
  no_tree_damage at kind _ (of_node s damage) whole =
      let map = volume_pages image bigblocks in
      not_broken s (volume_page image bigblocks s.at) (node_at map s.at) kind (stored_here map (height_of (node_at map s.at)) s whole.tree) damage.lowest
  no_tree_damage at kind _ (of_payload s leaf spells damage) whole =
      let map = volume_pages image bigblocks in
      let is : node_at map s.at ≡ leaf_node leaf = spells.spelled.value in
      let payloads = subst (λ (n : Node). AllByRecursion (HasPayload image bigblocks) (elements_in map (height_of n) n)) is whole.payloads in
      damage.bad (each_get (HasPayload image bigblocks) leaf.places.items damage.i damage.element damage.is payloads)
  no_tree_damage at kind _ (of_child s inner i child spells get before damage) whole =
      no_tree_damage at kind child damage (whole_child s inner i child spells.spelled.value get whole)

-- an element at a place is contained
contains_at : {A : Type 0} (xs : List A) (i : ℕ) (x : A) → slice_get xs i ≡ Some x → Contains xs x
contains_at xs i x is = (i, slice_get_within xs i x is, get_or_from_slice_get xs i x x is)

mapped : {A B : Type 0} (f : A → B) (xs : List A) (i : ℕ) (x : A) → slice_get xs i ≡ Some x → slice_get (map f xs) i ≡ Some (f x)
mapped f [] i x is = absurd cc
mapped f (y ∷ xs) zero x is = let same : y ≡ x = cc in ap (λ z. Some (f z)) same
mapped f (y ∷ xs) (suc i) x is = mapped f xs i x is

module _ (image : List ℕ) (header : Header) (sound : IsSoundBy image header) where
  room : header.bigblocks * 8388608 ≤ length image
  room = sound.counts.room

  -- what a reference names lies in the volume
  within : (r : Reference) → IsPlaced header.bigblocks r → byte_of r.at + r.len ≤ start_of header.bigblocks
  within r placed = let inside = placed.inside in let pool = placed.pool.1 in let some = placed.some in omega arith

  same_page : (x : ℕ) → IsPlaced header.bigblocks (to_node x) → volume_pages image header.bigblocks x ≡ pages_of image x
  same_page x placed =
      sym (page_of_image image header.bigblocks x (volume_page image header.bigblocks x) room (record { within = within (to_node x) placed; same = refl }))

  root_placed : IsPlaced header.bigblocks (to_node header.root)
  root_placed = All-contains (IsPlaced header.bigblocks) (references_from (pages_of image) header.root) (to_node header.root) sound.extents.placed
      (0, omega arith, refl)

  node_placed : (x : ℕ) → Reaches (pages_of image) (height_of (node_at (pages_of image) header.root)) (node_at (pages_of image) header.root) x
      → IsPlaced header.bigblocks (to_node x)
  node_placed x is =
      let height = height_of (node_at (pages_of image) header.root) in
      let node = node_at (pages_of image) header.root in
      let nodes = nodes_below (pages_of image) height node in
      All-contains (IsPlaced header.bigblocks) (references_from (pages_of image) header.root) (to_node x) sound.extents.placed
      (Contains-append_left (to_node header.root ∷ nodes) (map to_payload (elements_of (pages_of image) header.root)) (to_node x)
      (Contains-append_right (to_node header.root ∷ []) nodes (to_node x) (reached_is_referred (pages_of image) height node x is)))

  payload_placed : (i : ℕ) (e : Element) → slice_get (elements_of (pages_of image) header.root) i ≡ Some e → IsPlaced header.bigblocks (to_payload e)
  payload_placed i e is =
      let height = height_of (node_at (pages_of image) header.root) in
      let node = node_at (pages_of image) header.root in
      let es = elements_of (pages_of image) header.root in
      All-contains (IsPlaced header.bigblocks) (references_from (pages_of image) header.root) (to_payload e) sound.extents.placed
      (Contains-append_right (to_node header.root ∷ nodes_below (pages_of image) height node) (map to_payload es) (to_payload e)
      (contains_at (map to_payload es) i (to_payload e) (mapped to_payload es i e is)))

  below : IsSameBelow (pages_of image) (volume_pages image header.bigblocks) (height_of (node_at (pages_of image) header.root))
      (node_at (pages_of image) header.root)
  below = record { same = λ x is. same_page x (node_placed x is) }

  root_same : node_at (volume_pages image header.bigblocks) header.root ≡ node_at (pages_of image) header.root
  root_same = ap (λ (o : Option (List ℕ)). node_in (page_in o)) (same_page header.root root_placed)

  element_payload : (i : ℕ) (e : Element) → slice_get (elements_of (pages_of image) header.root) i ≡ Some e → HasPayload image header.bigblocks e
  element_payload i e is =
      let es = elements_of (pages_of image) header.root in
      let same : bytes_at image e.payload e.len ≡ _ = sym (all_inside image header.bigblocks (byte_of e.payload) e.len
      (within (to_payload e) (payload_placed i e is))) in
      let here = contains_at (map (full_of image) es) i (full_of image e) (mapped (full_of image) es i e is) in
      subst (λ (bs : List ℕ). IsPayloadOf e bs) same (record {
        payload = All-contains IsPayload (map (full_of image) es) (full_of image e) sound.payloads.each here;
        key = λ entry type in_range spelled. sound.payloads.keys (full_of image e) entry here type in_range spelled;
      })

  pub whole_tree : IsWholeBelow image header.bigblocks (root_place header.root)
  whole_tree =
      let map = volume_pages image header.bigblocks in
      let height = height_of (node_at (pages_of image) header.root) in
      let es = elements_of (pages_of image) header.root in
      let same : elements_at map (root_place header.root) ≡ es =
      ap (λ (n : Node). elements_in map (height_of n) n) root_same ∙ frame_elements (pages_of image) map height
      (node_at (pages_of image) header.root) below in
      record {
        tree = subst (λ (n : Node). IsStoredTree map (height_of n) (root_place header.root)) (sym root_same)
            (frame_stored (pages_of image) map height (root_place header.root) (same_page header.root root_placed) below sound.tree);
        payloads = subst (λ (xs : List Element). AllByRecursion (HasPayload image header.bigblocks) xs) (sym same)
            (each_of (HasPayload image header.bigblocks) es element_payload);
      }

  -- so it has no damage
  pub no_damage : (at kind : ℕ) → IsDamage image header at kind → ⊥
  no_damage at kind (of_layer1 damage) = damage.first.bad (sound.layer1 damage.i damage.low)
  no_damage at kind (of_layer2 layer1 damage) =
      let size = sound.counts.in_range.bigblocks in
      damage.first.bad (layer2_sound image header sound.entries size.0 size.1 room sound.layer2 damage.number damage.low)
  no_damage at kind (of_tree layer1 layer2 damage) = no_tree_damage image header.bigblocks at kind (root_place header.root) damage whole_tree

  pub no_fault : (fault : Fault) → Tells (IsDamage image header) fault → IsUndamaged fault
  no_fault (Media before after) tells = tt
  no_fault NoMemory tells = tt
  no_fault (Damaged at kind) tells = no_damage at kind tells
