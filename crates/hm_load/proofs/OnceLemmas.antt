-- That a volume has one first damage at most, and none where it is whole.
use Rattle.std.proofs.Common.{◌≡◌, ◌⊎◌, ℕ, ◌<◌, List, Some, slice_get, inl, inr, sym, ap, subst, ◌∙◌, arith}
use Rattle.std.proofs.lemmas.Bool.{cases_lt}
use Rattle.hm_header.specs.declared.header.Header.{Header}
use Rattle.hm_image.specs.Sound.{HasLayer1}
use Rattle.hm_key.specs.declared.element.Element.{Element}
use Rattle.hm_node.specs.declared.inner.Inner.{Inner}
use Rattle.hm_node.specs.declared.leaf.Leaf.{Leaf}
use Rattle.hm_node.specs.declared.node.Node.{Node}
use Rattle.hm_node.specs.declared.node.Node.TheVariants.{Leaf as leaf_node, Inner as inner_node}
use Rattle.hm_search.specs.Place.{Breaks, IsLowestBroken, KeepsBelow, SpellsHere}
use Rattle.hm_search.specs.Tree.{children_of, root_place}
use Rattle.hm_search.specs.declared.subtree.Subtree.{Subtree}
use Rattle.hm_search.proofs.DamageLemmas.{not_broken}
use Rattle.hm_load.specs.Damage.{HasWholeLayer2, IsDamage, IsNodeDamage, IsTreeDamage, IsWhole, IsWholeBelow, volume_page}
use Rattle.hm_load.specs.Damage.IsDamage.{of_layer1, of_layer2, of_tree}
use Rattle.hm_load.specs.Damage.IsTreeDamage.{of_node, of_payload, of_child}
use Rattle.hm_load.specs.Faults.{IsFirstBad}
use Rattle.hm_load.specs.Freemap.{IsLayer2Damage, layer2_page}
use Rattle.hm_load.specs.Layer1.{IsLayer1Damage, layer1_page}
use Rattle.hm_load.specs.Payload.{IsFirstBadPayload}
use Rattle.hm_load.proofs.SoundLemmas.{no_tree_damage}

-- a whole volume has no damage
pub whole_is_undamaged : (image : List ℕ) (header : Header) (at kind : ℕ) → IsWhole image header → IsDamage image header at kind → ⊥
whole_is_undamaged image header at kind whole (of_layer1 damage) = damage.first.bad (whole.layer1 damage.i damage.low)
whole_is_undamaged image header at kind whole (of_layer2 layer1 damage) = damage.first.bad (whole.layer2 damage.number damage.low)
whole_is_undamaged image header at kind whole (of_tree layer1 layer2 damage) =
    no_tree_damage image header.bigblocks at kind (root_place header.root) damage whole.tree

-- one number is the first that fails
first_once : (Good : ℕ → Type 0) (i j : ℕ) → IsFirstBad Good i → IsFirstBad Good j → i ≡ j
first_once Good i j one other = elim (cases_lt i j) [
  | inl below ↦ absurd (one.bad (other.before i below))
  | inr from ↦ elim (cases_lt j i) [ inl above ↦ absurd (other.bad (one.before j above)) | inr same ↦ omega arith ]
]

-- and one number the lowest of a rule that a page breaks
not_kept : (s : Subtree) (page : List ℕ) (k l : ℕ) → Breaks s page k → KeepsBelow s page l → k < l → ⊥
not_kept s page k l (inl (rule, is, broken)) kept low = broken (kept.own rule (omega (arith, is)))
not_kept s page k l (inr (rule, is, broken)) kept low = broken (kept.place rule (omega (arith, is)))

lowest_once : (s : Subtree) (page : List ℕ) (k l : ℕ) → IsLowestBroken s page k → IsLowestBroken s page l → k ≡ l
lowest_once s page k l one other = elim (cases_lt k l) [
  | inl below ↦ absurd (not_kept s page k l one.broken other.kept below)
  | inr from ↦ elim (cases_lt l k) [ inl above ↦ absurd (not_kept s page l k other.broken one.kept above) | inr same ↦ omega arith ]
]

-- two damages are one
abbrev AreOne : ℕ → ℕ → ℕ → ℕ → Type 0
AreOne a k b l = (a ≡ b) × (k ≡ l)

layer1_once : (image : List ℕ) (bigblocks a k b l : ℕ) → IsLayer1Damage image bigblocks a k → IsLayer1Damage image bigblocks b l → AreOne a k b l
layer1_once image bigblocks a k b l one other =
    let same = first_once _ one.i other.i one.first other.first in
    (one.place ∙ (ap layer1_page same ∙ sym other.place), one.number ∙ sym other.number)

layer2_once : (image : List ℕ) (header : Header) (a k b l : ℕ) → IsLayer2Damage image header a k → IsLayer2Damage image header b l → AreOne a k b l
layer2_once image header a k b l one other =
    let same = first_once _ one.number other.number one.first other.first in
    (one.place ∙ (ap layer2_page same ∙ sym other.place), one.told ∙ sym other.told)

payload_once : (image : List ℕ) (bigblocks : ℕ) (es : List Element) (a k b l : ℕ) → IsFirstBadPayload image bigblocks es a k
    → IsFirstBadPayload image bigblocks es b l → AreOne a k b l
payload_once image bigblocks es a k b l one other = elim (cases_lt one.i other.i) [
  | inl below ↦ absurd (one.bad (other.before one.i one.element below one.is))
  | inr from ↦ elim (cases_lt other.i one.i) [
    | inl above ↦ absurd (other.bad (one.before other.i other.element above other.is))
    | inr to ↦
        let same : one.i ≡ other.i = omega arith in
        let both : Some one.element ≡ Some other.element = sym one.is ∙ (ap (slice_get es) same ∙ other.is) in
        let equal : one.element ≡ other.element = cc in
        (one.place ∙ (ap (λ (e : Element). e.payload) equal ∙ sym other.place), one.told ∙ sym other.told)
  ]
]

module _ (image : List ℕ) (bigblocks : ℕ) where
  -- damage below a place, by what stands there
  record InLeaf (s : Subtree) (at kind : ℕ) : Type 0 where
    leaf : Leaf
    spells : SpellsHere s (volume_page image bigblocks s.at) (leaf_node leaf)
    damage : IsFirstBadPayload image bigblocks leaf.places.items at kind

  record InChild (s : Subtree) (at kind : ℕ) : Type 0 where
    inner : Inner
    i : ℕ
    child : Subtree
    spells : SpellsHere s (volume_page image bigblocks s.at) (inner_node inner)
    get : slice_get (children_of inner) i ≡ Some child
    before : (j : ℕ) (c : Subtree) → j < i → slice_get (children_of inner) j ≡ Some c → IsWholeBelow image bigblocks c
    damage : IsTreeDamage image bigblocks at kind child

  parts : (at kind : ℕ) (s : Subtree) → IsTreeDamage image bigblocks at kind s → IsNodeDamage image bigblocks s at kind ⊎ InLeaf s at kind ⊎ InChild s at kind
  parts at kind _ (of_node s damage) = inl damage
  parts at kind _ (of_payload s leaf spells damage) = inr (inl (record { leaf = leaf; spells = spells; damage = damage }))
  parts at kind _ (of_child s inner i child spells get before damage) =
      inr (inr (record { inner = inner; i = i; child = child; spells = spells; get = get; before = before; damage = damage }))

  unbroken : (s : Subtree) (node : Node) (at kind : ℕ) → SpellsHere s (volume_page image bigblocks s.at) node → IsNodeDamage image bigblocks s at kind → ⊥
  unbroken s node at kind spells damage = not_broken s (volume_page image bigblocks s.at) node kind spells damage.lowest

  one_node : (s : Subtree) (m n : Node) → SpellsHere s (volume_page image bigblocks s.at) m → SpellsHere s (volume_page image bigblocks s.at) n → m ≡ n
  one_node s m n first second = sym first.spelled.value ∙ second.spelled.value

  tree_once : (a k b l : ℕ) (s : Subtree) → IsTreeDamage image bigblocks a k s → IsTreeDamage image bigblocks b l s → AreOne a k b l
  tree_once a k b l _ (of_node s damage) other = by_parts (parts b l s other) where
    by_parts : IsNodeDamage image bigblocks s b l ⊎ InLeaf s b l ⊎ InChild s b l → AreOne a k b l
    by_parts (inl node) = (damage.place ∙ sym node.place, lowest_once s (volume_page image bigblocks s.at) k l damage.lowest node.lowest)
    by_parts (inr (inl leaf)) = absurd (unbroken s (leaf_node leaf.leaf) a k leaf.spells damage)
    by_parts (inr (inr inner)) = absurd (unbroken s (inner_node inner.inner) a k inner.spells damage)
  tree_once a k b l _ (of_payload s leaf spells damage) other = by_parts (parts b l s other) where
    by_parts : IsNodeDamage image bigblocks s b l ⊎ InLeaf s b l ⊎ InChild s b l → AreOne a k b l
    by_parts (inl node) = absurd (unbroken s (leaf_node leaf) b l spells node)
    by_parts (inr (inl second)) =
        let both = one_node s (leaf_node second.leaf) (leaf_node leaf) second.spells spells in
        let same : second.leaf ≡ leaf = cc in
        payload_once image bigblocks leaf.places.items a k b l damage
        (subst (λ (x : Leaf). IsFirstBadPayload image bigblocks x.places.items b l) same second.damage)
    by_parts (inr (inr inner)) = let both = one_node s (leaf_node leaf) (inner_node inner.inner) spells inner.spells in absurd cc
  tree_once a k b l _ (of_child s inner i child spells get before damage) other = by_parts (λ d. tree_once a k b l child damage d) (parts b l s other) where
    by_parts : (IsTreeDamage image bigblocks b l child → AreOne a k b l) → IsNodeDamage image bigblocks s b l ⊎ InLeaf s b l ⊎ InChild s b l → AreOne a k b l
    by_parts deeper (inl node) = absurd (unbroken s (inner_node inner) b l spells node)
    by_parts deeper (inr (inl leaf)) = let both = one_node s (leaf_node leaf.leaf) (inner_node inner) leaf.spells spells in absurd cc
    by_parts deeper (inr (inr second)) =
        let both = one_node s (inner_node second.inner) (inner_node inner) second.spells spells in
        let same : second.inner ≡ inner = cc in
        let mine : slice_get (children_of inner) second.i ≡ Some second.child =
        subst (λ (x : Inner). slice_get (children_of x) second.i ≡ Some second.child) same second.get in
        let whole = subst (λ (x : Inner). (j : ℕ) (c : Subtree) → j < second.i → slice_get
        (children_of x) j ≡ Some c → IsWholeBelow image bigblocks c) same second.before in
        elim (cases_lt i second.i) [
          | inl below ↦ absurd (no_tree_damage image bigblocks a k child damage (whole i child below get))
          | inr from ↦ elim (cases_lt second.i i) [
            | inl above ↦ absurd (no_tree_damage image bigblocks b l second.child second.damage (before second.i second.child above mine))
            | inr to ↦
                let place : second.i ≡ i = omega arith in
                let two : Some second.child ≡ Some child = sym mine ∙ (ap (slice_get (children_of inner)) place ∙ get) in
                let equal : second.child ≡ child = cc in
                deeper (subst (λ (x : Subtree). IsTreeDamage image bigblocks b l x) equal second.damage)
          ]
        ]

-- so the first damage is one
module _ (image : List ℕ) (header : Header) where
  layer1_right : (at kind : ℕ) → HasLayer1 image header.bigblocks → IsLayer1Damage image header.bigblocks at kind → ⊥
  layer1_right at kind layer1 damage = damage.first.bad (layer1 damage.i damage.low)

  layer2_right : (at kind : ℕ) → HasWholeLayer2 image header → IsLayer2Damage image header at kind → ⊥
  layer2_right at kind layer2 damage = damage.first.bad (layer2 damage.number damage.low)

  pub damage_once : (a k b l : ℕ) → IsDamage image header a k → IsDamage image header b l → (a ≡ b) × (k ≡ l)
  damage_once a k b l (of_layer1 one) (of_layer1 other) = layer1_once image header.bigblocks a k b l one other
  damage_once a k b l (of_layer1 one) (of_layer2 layer1 other) = absurd (layer1_right a k layer1 one)
  damage_once a k b l (of_layer1 one) (of_tree layer1 layer2 other) = absurd (layer1_right a k layer1 one)
  damage_once a k b l (of_layer2 layer1 one) (of_layer1 other) = absurd (layer1_right b l layer1 other)
  damage_once a k b l (of_layer2 layer1 one) (of_layer2 layer1' other) = layer2_once image header a k b l one other
  damage_once a k b l (of_layer2 layer1 one) (of_tree layer1' layer2 other) = absurd (layer2_right a k layer2 one)
  damage_once a k b l (of_tree layer1 layer2 one) (of_layer1 other) = absurd (layer1_right b l layer1 other)
  damage_once a k b l (of_tree layer1 layer2 one) (of_layer2 layer1' other) = absurd (layer2_right b l layer2 other)
  damage_once a k b l (of_tree layer1 layer2 one) (of_tree layer1' layer2' other) =
      tree_once image header.bigblocks a k b l (root_place header.root) one other
