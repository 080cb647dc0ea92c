-- Trees whose payloads were checked, and the first damage in one, where the disk tells its bytes.
use Rattle.std.proofs.Common.{◌≡◌, ℕ, suc, ◌+◌, ◌-◌, ◌<◌, ◌≤◌, List, [], ◌∷◌, length, Option, Some, slice_get, inl, inr, sym, ap, subst, ◌∙◌, flat_map, arith}
use Rattle.std.specs.List.{AllByRecursion}
use Rattle.std.proofs.lemmas.Bool.{cases_lt}
use Rattle.std.proofs.lemmas.Option.{slice_get_within}
use Rattle.hm_types.specs.declared.fault.Fault.{Fault}
use Rattle.hm_types.specs.declared.fault.Fault.TheVariants.{Media, Damaged, NoMemory}
use Rattle.hm_fields.specs.Pages.{PageMap, page_in}
use Rattle.hm_key.specs.declared.element.Element.{Element}
use Rattle.hm_node.specs.Node.{node_in, Spells}
use Rattle.hm_node.specs.declared.inner.Child.{Child}
use Rattle.hm_node.specs.declared.inner.Inner.{Inner}
use Rattle.hm_node.specs.declared.leaf.Leaf.{Leaf}
use Rattle.hm_node.specs.declared.node.Node.{Node}
use Rattle.hm_node.specs.declared.node.Node.TheVariants.{Leaf as leaf_node, Inner as inner_node}
use Rattle.hm_search.specs.Place.{SpellsHere}
use Rattle.hm_search.specs.Tree.{node_at, height_of, children_of, elements_in}
use Rattle.hm_search.specs.declared.subtree.Subtree.{Subtree}
use Rattle.hm_search.proofs.ChildLemmas.{place_there}
use Rattle.hm_search.proofs.ListLemmas.{each_append}
use Rattle.hm_load.specs.Damage.{IsNodeDamage, IsTreeDamage, IsWholeBelow, elements_at, volume_page, volume_pages}
use Rattle.hm_load.specs.Damage.IsTreeDamage.{of_node, of_payload, of_child}
use Rattle.hm_load.specs.Faults.{Tells}
use Rattle.hm_load.specs.Held.{AreRead, AreReadFirst, IsReadBelow}
use Rattle.hm_load.specs.Payload.{HasPayload, IsFirstBadPayload}
use Rattle.hm_load.specs.Tree.{AddsChildren, AddsNode, AddsTree, HasTreeAt}
use Rattle.hm_load.proofs.TreeLemmas.{Keeps, child_height, elements_kept, each_of, node_here, tree_kept}

-- a tree in a map whose pages are those of the volume
pub whole_of : (image : List ℕ) (bigblocks : ℕ) (map : PageMap) (s : Subtree) → AreRead image bigblocks map → HasTreeAt map s
    → AllByRecursion (HasPayload image bigblocks) (elements_at map s) → IsWholeBelow image bigblocks s
whole_of image bigblocks map s pages tree payloads =
    let keeps : Keeps map (volume_pages image bigblocks) = λ at bytes is. ap Some (sym (pages at bytes is).same) in
    record {
      tree = tree_kept map (volume_pages image bigblocks) s keeps tree;
      payloads = subst (λ (es : List Element). AllByRecursion (HasPayload image bigblocks) es)
          (sym (elements_kept map (volume_pages image bigblocks) s keeps tree)) payloads;
    }

-- the page of a node that came is that of the volume
pub node_spells : (image : List ℕ) (bigblocks : ℕ) (s : Subtree) (node : Node) (old new : PageMap) → AddsNode s node old new → AreRead image bigblocks new
    → SpellsHere s (volume_page image bigblocks s.at) node
node_spells image bigblocks s node old new adds pages =
    let same = (pages s.at adds.page (node_here s node old new adds)).same in
    record { spelled = subst (λ (p : List ℕ). Spells p node) same adds.spelled; sound = adds.sound; fits = adds.fits }

-- the node in the page of one that came
node_is : (s : Subtree) (node : Node) (old start new : PageMap) → (adds : AddsNode s node old start) → Keeps start new → node_at new s.at ≡ node
node_is s node old start new adds keeps =
    ap (λ (o : Option (List ℕ)). node_in (page_in o)) (keeps s.at adds.page (node_here s node old start adds)) ∙ adds.spelled.value

-- the payloads of a leaf
pub leaf_read : (image : List ℕ) (bigblocks : ℕ) (s : Subtree) (leaf : Leaf) (old new : PageMap) → AddsNode s (leaf_node leaf) old new
    → AreRead image bigblocks new
    → AllByRecursion (HasPayload image bigblocks) leaf.places.items → IsReadBelow image bigblocks s new
leaf_read image bigblocks s leaf old new adds pages payloads = record {
  pages = pages;
  payloads = subst (λ (n : Node). AllByRecursion (HasPayload image bigblocks) (elements_in new (height_of n) n))
      (sym (node_is s (leaf_node leaf) old new new adds (λ at bytes is. is))) payloads;
}

-- those of the children of an inner node
pub no_first_read : (image : List ℕ) (bigblocks : ℕ) (inner : Inner) (map : PageMap) → AreRead image bigblocks map → AreReadFirst image bigblocks inner 0 map
no_first_read image bigblocks inner map pages = record { pages = pages; payloads = λ i child low is. absurd (omega (arith, low)) }

pub first_read_more : (image : List ℕ) (bigblocks : ℕ) (inner : Inner) (count : ℕ) (child : Subtree) (start old new : PageMap)
    → slice_get (children_of inner) count ≡ Some child
    → AddsChildren inner count start old → AddsTree child old new → AreReadFirst image bigblocks inner count old → IsReadBelow image bigblocks child new
    → AreReadFirst image bigblocks inner (count + 1) new
first_read_more image bigblocks inner count child start old new is came tree first read = record {
  pages = read.pages;
  payloads = λ i c low at. elim (cases_lt i count) [
    | inl below ↦ subst (λ (es : List Element). AllByRecursion (HasPayload image bigblocks) es)
        (sym (elements_kept old new c tree.pages.kept (came.trees i c below at))) (first.payloads i c below at)
    | inr from ↦
        let last : i ≡ count = omega arith in
        let here : slice_get (children_of inner) count ≡ Some c = subst (λ (k : ℕ). slice_get (children_of inner) k ≡ Some c) last at in
        let same : child ≡ c = cc in
        subst (λ (t : Subtree). AllByRecursion (HasPayload image bigblocks) (elements_at new t)) same read.payloads
  ];
}

-- what holds of each part of a list holds of the list
flat_each : (P : Element → Type 0) (f : Child → List Element) (cs : List Child) → AllByRecursion (λ c. AllByRecursion P (f c)) cs
    → AllByRecursion P (flat_map f cs)
flat_each P f [] each = tt
flat_each P f (c ∷ cs) each = each_append P (f c) (flat_map f cs) each.0 (flat_each P f cs each.1)

module _ (image : List ℕ) (bigblocks : ℕ) (s : Subtree) (inner : Inner) (old start map : PageMap) (count : ℕ) (adds : AddsNode s (inner_node inner) old start)
    (came : AddsChildren inner count start map) (first : AreReadFirst image bigblocks inner count map) where
  P : Element → Type 0
  P = HasPayload image bigblocks

  pub inner_read : length inner.places.items ≤ count → IsReadBelow image bigblocks s map
  unfolding P
  inner_read all =
      let height = inner.level - 2 in
      let level : suc height ≡ height_of (inner_node inner) = let low = adds.sound.level.0 in omega arith in
      let each = each_of (λ (c : Child). AllByRecursion (HasPayload image bigblocks) (elements_in map height (node_at map c.child))) inner.places.items
      (λ i c is.
      let place = place_there inner.level inner.right inner.places.items i c is in
      let low = slice_get_within inner.places.items i c is in
      let few : i < count = omega arith in
      subst (λ (h : ℕ). AllByRecursion (HasPayload image bigblocks) (elements_in map h (node_at map c.child)))
      (child_height map inner i _ place (came.trees i _ few place)) (first.payloads i _ few place)) in
      let flat = flat_each (HasPayload image bigblocks) (λ (c : Child). elements_in map height (node_at map c.child)) inner.places.items each in
      record {
        pages = first.pages;
        payloads = subst (λ (n : Node). AllByRecursion (HasPayload image bigblocks) (elements_in map (height_of n) n))
            (sym (node_is s (inner_node inner) old start map adds came.pages.kept))
            (subst (λ (h : ℕ). AllByRecursion (HasPayload image bigblocks) (elements_in map h (inner_node inner))) level flat);
      }

  -- damage below the next child is the first one below the node
  pub child_damage : AreRead image bigblocks start → (child : Subtree) (fault : Fault) → slice_get (children_of inner) count ≡ Some child
      → Tells (λ at kind. IsTreeDamage image bigblocks at kind child) fault → Tells (λ at kind. IsTreeDamage image bigblocks at kind s) fault
  child_damage pages child (Media before after) is tells = tt
  child_damage pages child NoMemory is tells = tt
  child_damage pages child (Damaged at kind) is tells =
      of_child s inner count child (node_spells image bigblocks s (inner_node inner) old start adds pages) is
      (λ j c low at_j. whole_of image bigblocks map c first.pages (came.trees j c low at_j) (first.payloads j c low at_j)) tells

-- so is damage of the node, and of a payload of a leaf
pub node_damage : (image : List ℕ) (bigblocks : ℕ) (s : Subtree) (fault : Fault) → Tells (IsNodeDamage image bigblocks s) fault
    → Tells (λ at kind. IsTreeDamage image bigblocks at kind s) fault
node_damage image bigblocks s (Media before after) tells = tt
node_damage image bigblocks s NoMemory tells = tt
node_damage image bigblocks s (Damaged at kind) tells = of_node s tells

pub leaf_damage : (image : List ℕ) (bigblocks : ℕ) (s : Subtree) (leaf : Leaf) (old new : PageMap) (fault : Fault) → AddsNode s (leaf_node leaf) old new
    → AreRead image bigblocks new → Tells (IsFirstBadPayload image bigblocks leaf.places.items) fault → Tells
    (λ at kind. IsTreeDamage image bigblocks at kind s) fault
leaf_damage image bigblocks s leaf old new (Media before after) adds pages tells = tt
leaf_damage image bigblocks s leaf old new NoMemory adds pages tells = tt
leaf_damage image bigblocks s leaf old new (Damaged at kind) adds pages tells =
    of_payload s leaf (node_spells image bigblocks s (leaf_node leaf) old new adds pages) tells
