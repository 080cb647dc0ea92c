-- What a store has once both layers and the tree are loaded.
use Rattle.std.proofs.Common.{◌≡◌, ◌⊎◌, ◌==◌, ℕ, zero, suc, ◌+◌, ◌*◌, ◌/◌, ◌%◌, ◌^◌, ◌<◌, Bool, true, false, true≢false, ◌||◌, is_some, List, [], ◌∷◌}
use Rattle.std.proofs.Common.{Option, Some, None, IsSome, IsTrue, inl, inr, refl, sym, ap, subst, ◌∙◌, eq-eqb, eqb-true, nat_eq, if◌then◌else◌, arith}
use Rattle.std.specs.List.{AllByRecursion}
use Rattle.std.proofs.lemmas.List.Elements.{recursion_from_All}
use Rattle.hm_types.specs.Offset.{zone_of}
use Rattle.hm_types.specs.declared.zone.TheConstants.{TREE_ZONE, FREEMAP_ZONE}
use Rattle.hm_fields.specs.Pages.{PageMap, page_in}
use Rattle.hm_freemap.specs.Places.{IsPageOf, entries_per_page, page_of}
use Rattle.hm_freemap.specs.Stand.{entry_page}
use Rattle.hm_header.specs.Range.{IsHeader}
use Rattle.hm_header.specs.declared.header.Header.{Header}
use Rattle.hm_key.specs.declared.base.Base.{Base}
use Rattle.hm_node.specs.Inner.{IsChild, IsNodeOffset}
use Rattle.hm_node.specs.Node.{node_in}
use Rattle.hm_node.specs.declared.inner.Child.{Child}
use Rattle.hm_node.specs.declared.node.Node.{Node}
use Rattle.hm_node.specs.declared.node.Node.TheVariants.{Leaf as leaf_node, Inner as inner_node}
use Rattle.hm_pages.specs.Store.{Store, layer2}
use Rattle.hm_btree.specs.Tree.{IsTreeSpace}
use Rattle.hm_search.specs.Reach.{IsSameBelow}
use Rattle.hm_search.specs.Tree.{node_at, height_of, places_of, root_place, IsTree, IsStoredTree, Reaches, reaches}
use Rattle.hm_search.specs.declared.subtree.Subtree.{Subtree}
use Rattle.hm_search.proofs.FrameLemmas.{frame_stored, frame_reaches}
use Rattle.hm_search.proofs.ListLemmas.{each_both}
use Rattle.hm_search.proofs.ReachLemmas.{one_under, or_left, or_right}
use Rattle.hm_load.specs.Freemap.{HoldsEntryOf, HoldsLayer2, layer2_page, layer2_pages}
use Rattle.hm_load.specs.Held.{IsApart}
use Rattle.hm_load.specs.Loaded.{IsLoaded, IsPlain, tree_part}
use Rattle.hm_load.specs.Tree.{AddsTree, HasTreeAt, IsUnder}

-- the places of children are where nodes may stand
offsets : (level : ℕ) (right : Base) (cs : List Child) → AllByRecursion IsChild cs
    → AllByRecursion (λ (s : Subtree). IsNodeOffset s.at) (places_of level right cs)
offsets level right [] each = tt
offsets level right (c ∷ cs) each = (each.0.child, offsets level right cs each.1)

-- so is each offset that a sound tree reaches
pub reached_offset : (map : PageMap) (height : ℕ) (s : Subtree) (node : Node) (x : ℕ) → IsTree map height s node → Reaches map height node x → IsNodeOffset x
reached_offset map zero s (leaf_node leaf) x tree is = absurd (true≢false (sym is))
reached_offset map zero s (inner_node inner) x tree is = absurd (true≢false (sym is))
reached_offset map (suc height) s (leaf_node leaf) x tree is = absurd tree.below
reached_offset map (suc height) s (inner_node inner) x tree is =
    let one = one_under map height (λ p. IsStoredTree map height p × IsNodeOffset p.at) x inner.level inner.right inner.places.items
    (each_both (IsStoredTree map height) (λ p. IsNodeOffset p.at) (places_of inner.level inner.right inner.places.items) tree.below
    (offsets inner.level inner.right inner.places.items (recursion_from_All IsChild inner.places.items tree.sound.fields.children))) is in
    elim one.under [
      | inl here ↦ subst IsNodeOffset here one.fact.1
      | inr below ↦ reached_offset map height one.place (node_at map one.place.at) x one.fact.0.tree below
    ]

-- a page of the tree's zone is in its part of the map, and no other one
in_part : (map : PageMap) (at : ℕ) → zone_of at ≡ TREE_ZONE → tree_part map at ≡ map at
in_part map at zone = rw (eq-eqb (zone_of at) TREE_ZONE zone) refl

of_part : (map : PageMap) (at : ℕ) → IsSome (tree_part map at) → (zone_of at ≡ TREE_ZONE) × IsSome (map at)
of_part map at there = go (zone_of at == TREE_ZONE) refl there where
  go : (b : Bool) → (zone_of at == TREE_ZONE) ≡ b → IsSome (if b then map at else None) → (zone_of at ≡ TREE_ZONE) × IsSome (map at)
  go true is there = (eqb-true (zone_of at) TREE_ZONE is, there)
  go false is there = absurd (true≢false (sym there))

-- a page of layer 2 is of another zone
layer_zone : (n : ℕ) → n < 2 ^ 20 → zone_of (layer2_page n) ≡ FREEMAP_ZONE
unfolding page_of
layer_zone n low = omega arith

-- the page with the entry of a big-block, by its number
page_number : (block : ℕ) → page_of block ≡ layer2_page (block / 256)
unfolding page_of
page_number block = omega arith

-- so it is none of the tree
pub layer_not_tree : (header : Header) → IsHeader header → (was : PageMap) → HoldsLayer2 header (layer2_pages header.bigblocks) was → (at : ℕ)
    → IsSome (was at) → zone_of at ≡ TREE_ZONE → ⊥
layer_not_tree header range was layer at there zone =
    let (n, low, small, is) = layer.only at there in
    let few : n < 2 ^ 20 = omega (arith, small, range.bigblocks.1) in
    let other : zone_of at ≡ FREEMAP_ZONE = ap zone_of is ∙ layer_zone n few in
    omega (arith, other, zone)

pub layer_apart : (header : Header) → IsHeader header → (was : PageMap) (p : Subtree) → HoldsLayer2 header (layer2_pages header.bigblocks) was → IsApart p was
layer_apart header range was p layer at page is zone = absurd (layer_not_tree header range was layer at (rw is refl) zone)

module _ (header : Header) (range : IsHeader header) (was : PageMap) (s : Store) (plain : IsPlain s)
    (layer : HoldsLayer2 header (layer2_pages header.bigblocks) was) (adds : AddsTree (root_place header.root) was s.current) where
  part : PageMap
  part = tree_part s.current

  height : ℕ
  height = height_of (node_at s.current header.root)

  root : Node
  root = node_at s.current header.root

  root_zone : zone_of header.root ≡ TREE_ZONE
  root_zone = range.root.zone

  same_below : IsSameBelow s.current part height root
  unfolding part height root
  same_below = record { same = λ x is. in_part s.current x (reached_offset s.current height (root_place header.root) root x adds.tree.tree is).zone }

  same_root : node_at part header.root ≡ root
  unfolding part root
  same_root = ap (λ (o : Option (List ℕ)). node_in (page_in o)) (in_part s.current header.root root_zone)

  sound : HasTreeAt part (root_place header.root)
  unfolding part height root
  sound = subst (λ (n : Node). IsStoredTree part (height_of n) (root_place header.root)) (sym same_root)
      (frame_stored s.current part height (root_place header.root) (in_part s.current header.root root_zone) same_below adds.tree)

  under : (x : ℕ) → IsUnder s.current (root_place header.root) x
      → IsTrue (nat_eq x header.root || reaches part (height_of (node_at part header.root)) (node_at part header.root) x)
  unfolding part height root
  under x (inl here) = or_left (nat_eq x header.root) (reaches part (height_of (node_at part header.root)) (node_at part header.root) x)
      (eq-eqb x header.root here)
  under x (inr below) = or_right (nat_eq x header.root) (reaches part (height_of (node_at part header.root)) (node_at part header.root) x)
      (subst (λ (n : Node). Reaches part (height_of n) n x) (sym same_root) (frame_reaches s.current part x height root same_below ∙ below))

  space : IsTreeSpace part header.root
  unfolding part
  space = record {
    sound = sound;
    whole = λ at there.
        let (zone, is) = of_part s.current at there in
        elim (adds.pages.added at is) [ inl before ↦ absurd (layer_not_tree header range was layer at before zone) | inr new ↦ under at new ];
    spots = λ at there.
        let (zone, is) = of_part s.current at there in
        elim (adds.pages.spots at is) [ inl before ↦ absurd (layer_not_tree header range was layer at before zone) | inr spot ↦ spot ];
  }

  low_page : (block : ℕ) → block < header.bigblocks → block / 256 < layer2_pages header.bigblocks
  low_page block low = omega (arith, low)

  few_before : (block : ℕ) → block < header.bigblocks → block / 256 * entries_per_page < header.bigblocks
  few_before block low = omega (arith, low)

  -- a page that was there is there
  stays : (at : ℕ) → IsSome (was at) → IsSome (s.current at)
  stays at there = go (was at) refl there where
    go : (o : Option (List ℕ)) → was at ≡ o → IsSome o → IsSome (s.current at)
    go None is there = absurd (true≢false (sym there))
    go (Some page) is there = rw (adds.pages.kept at page is) refl

  there : (block : ℕ) → block < header.bigblocks → IsTrue (layer2 s (page_of block))
  there block low =
      let n = block / 256 in
      let is : IsSome (s.current (layer2_page n)) = stays (layer2_page n) (layer.there n (low_page block low) (few_before block low)) in
      let few : n < 2 ^ 20 = omega (arith, low, range.bigblocks.1) in
      let zone : (zone_of (layer2_page n) == FREEMAP_ZONE) ≡ true = eq-eqb (zone_of (layer2_page n)) FREEMAP_ZONE (layer_zone n few) in
      let committed : is_some (s.committed (layer2_page n)) ≡ true = subst (λ (map : PageMap). is_some (map (layer2_page n)) ≡ true) plain.current is in
      subst (λ (at : ℕ). IsTrue (layer2 s at)) (sym (page_number block)) (rw (zone, committed) refl)

  entry : (block : ℕ) → block < header.bigblocks → HoldsEntryOf header block (entry_page s.current block)
  entry block low = go (was (layer2_page (block / 256))) refl (layer.there (block / 256) (low_page block low) (few_before block low)) where
    go : (o : Option (List ℕ)) → was (layer2_page (block / 256)) ≡ o → IsSome o → HoldsEntryOf header block (entry_page s.current block)
    go None is there = absurd (true≢false (sym there))
    go (Some page) is there =
        let here : s.current (page_of block) ≡ Some page = ap s.current (page_number block) ∙ adds.pages.kept (layer2_page (block / 256)) page is in
        let rest : block % 256 < entries_per_page = omega arith in
        let sum : block / 256 * entries_per_page + block % 256 ≡ block = omega arith in
        let holds = layer.entries (block / 256) page is (block % 256) rest in
        subst (λ (p : List ℕ). HoldsEntryOf header block p) (sym (ap page_in here)) (subst (λ (b : ℕ). HoldsEntryOf header b page) sum holds)

  only : (at : ℕ) → IsSome (s.current at) → (zone_of at ≡ TREE_ZONE) ⊎ IsPageOf header.bigblocks at
  only at there = elim (adds.pages.spots at there) [
    | inl before ↦ let (n, low, small, is) = layer.only at before in inr (n * entries_per_page, small, is)
    | inr spot ↦ inl spot.node.zone
  ]

  pub is_loaded : IsLoaded header s
  unfolding part
  is_loaded = record { plain = plain; tree = space; layer2 = there; entries = entry; only = only }
