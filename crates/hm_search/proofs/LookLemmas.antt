-- What is seen in a page is what its node has.
use Rattle.std.proofs.Common.{◌≡◌, ◌≢◌, Bool, true, false, not, ℕ, zero, suc, ◌+◌, ◌-◌, ◌<◌, ◌≤◌, inl, inr, List, [], ◌∷◌, length, drop, refl, sym, ap}
use Rattle.std.proofs.Common.{subst, ◌∙◌, arith, true≢false}
use Rattle.std.specs.Prelude.{Option, Some, None, IfSome, slice_get, slice_index_or}
use Rattle.std.specs.List.Sorted.{IsStrictlySortedBy}
use Rattle.std.proofs.lemmas.Bool.{cases_lt}
use Rattle.std.proofs.lemmas.Option.{slice_get_read, slice_get_past}
use Rattle.std.specs.Ordering.{is_lt}
use Rattle.hm_types.specs.Elements.{Key, key_cmp}
use Rattle.hm_key.specs.Key.{key_of, IsBefore, IsFrom}
use Rattle.hm_fields.specs.Pages.{PageMap}
use Rattle.hm_key.specs.Elements.{element_cmp, element_key, stands_before, first_from}
use Rattle.hm_key.specs.Stores.{IsFound}
use Rattle.hm_key.specs.Places.{leading}
use Rattle.hm_key.specs.declared.base.Base.{Base}
use Rattle.hm_key.specs.declared.element.Element.{Element}
use Rattle.hm_key.proofs.PlaceLemmas.{first_from-leading}
use Rattle.hm_node.specs.Base.{base_in, base_cmp}
use Rattle.hm_node.specs.Head.{head_in}
use Rattle.hm_node.specs.Inner.{child_in, first_children, inner_in}
use Rattle.hm_node.specs.Leaf.{element_in, first_elements, ArePlaces}
use Rattle.hm_node.specs.Node.{node_in, HasCount, HasFields, HasLevel}
use Rattle.hm_node.specs.Places.{place, first}
use Rattle.hm_node.specs.declared.head.Head.{Head}
use Rattle.hm_node.specs.declared.head.TheConstants.{LEAF}
use Rattle.hm_node.specs.declared.inner.Child.{Child}
use Rattle.hm_node.specs.declared.inner.Inner.{Inner}
use Rattle.hm_node.specs.declared.leaf.Leaf.{Leaf}
use Rattle.hm_node.specs.declared.node.Node.{Node}
use Rattle.hm_node.specs.declared.node.Node.TheVariants.{Leaf as leaf_node, Inner as inner_node}
use Rattle.hm_node.proofs.PlaceLemmas.{first_length, first_at}
use Rattle.hm_search.specs.Look.{is_by, Falls, IsRank, IsTurn, Shows, ShowsLeaf, ShowsInner, Glances, seen_mirror}
use Rattle.hm_search.specs.Descent.{PassesHere}
use Rattle.hm_search.specs.Place.{IsInside, MeetsBy, mirror_of}
use Rattle.hm_search.specs.Search.{begun, holder_place}
use Rattle.hm_search.specs.Tree.{next_left, child_place, places_of, children_of}
use Rattle.hm_search.specs.declared.look.Seen.{Seen}
use Rattle.hm_search.specs.declared.look.Seen.TheVariants.{Leaf as leaf_seen, Inner as inner_seen}
use Rattle.hm_search.specs.declared.look.SeenInner.{SeenInner}
use Rattle.hm_search.specs.declared.look.SeenLeaf.{SeenLeaf}
use Rattle.hm_search.specs.declared.place_rule.PlaceRule.{PlaceRule}
use Rattle.hm_search.specs.declared.subtree.Subtree.{Subtree}
use Rattle.hm_search.proofs.ChildLemmas.{bounds, begun_parted, holder_from_begun, place_there, next_there, next_none}
use Rattle.hm_search.proofs.ListLemmas.{begins_by, begun_point, leading_point, leading_parted}
use Rattle.hm_search.proofs.OrderLemmas.{before_is, from_is}
use Rattle.hm_search.proofs.PageLemmas.{inner_here, inner_count, count_here}

-- how far the halving has come: the one below `low` passes the test, and the one at `high` does not
pub record IsCut (passes : ℕ → Bool) (count low high : ℕ) : Type 0 where
  pub rises : low ≤ high
  pub most : high ≤ count
  pub before : 1 ≤ low → passes (low - 1) ≡ true
  pub after : high < count → passes high ≡ false

module _ (passes : ℕ → Bool) (count : ℕ) where
  pub cut_none : IsCut passes count 0 count
  cut_none = record { rises = omega arith; most = omega arith; before = λ low. absurd (omega arith); after = λ high. absurd (omega arith) }

  pub cut_passes : (low high middle : ℕ) → IsCut passes count low high → low ≤ middle → middle < high → passes middle ≡ true
      → IsCut passes count (middle + 1) high
  cut_passes low high middle cut from to is = record {
    rises = omega arith;
    most = cut.most;
    before = λ some. let same : middle ≡ middle + 1 - 1 = omega arith in subst (λ (k : ℕ). passes k ≡ true) same is;
    after = cut.after;
  }

  pub cut_fails : (low high middle : ℕ) → IsCut passes count low high → low ≤ middle → middle < high → passes middle ≡ false → IsCut passes count low middle
  cut_fails low high middle cut from to is = record {
    rises = from;
    most = omega (arith, cut.most);
    before = cut.before;
    after = λ more. is;
  }

  pub cut_done : (low high : ℕ) → IsCut passes count low high → high ≤ low → IsTurn passes count low
  cut_done low high cut done = record {
    bound = omega (arith, cut.rises, cut.most);
    before = cut.before;
    after = λ more. let same : high ≡ low = omega (arith, cut.rises) in subst (λ (k : ℕ). passes k ≡ false) same (cut.after (omega arith));
  }

  -- a turn of a test that falls is the only one
  pub turn_rank : (r : ℕ) → Falls passes count → IsTurn passes count r → IsRank passes count r
  turn_rank r falls turn = record {
    bound = turn.bound;
    before = λ k low. falls k (r - 1) (omega arith) (omega (arith, turn.bound)) (turn.before (omega arith));
    after = λ k from to. by_test k from to (passes k) refl;
  } where
    by_test : (k : ℕ) → r ≤ k → k < count → (b : Bool) → passes k ≡ b → passes k ≡ false
    by_test k from to false test = test
    by_test k from to true test = absurd (true≢false (sym (falls r k from to test) ∙ turn.after (omega arith)))

-- what a page has in a place
module _ {A : Type 0} (f : ℕ → A) where
  pub first_get : (n i : ℕ) → i < n → slice_get (first f n) i ≡ Some (f i)
  first_get n i low = slice_get_read (first f n) (length (first f n)) i (f i) refl (omega (arith, first_length f n)) (sym (first_at f n i (f i) low))

  pub first_past : (n i : ℕ) → n ≤ i → slice_get (first f n) i ≡ None
  first_past n i high = slice_get_past (first f n) i (omega (arith, first_length f n))

module _ (key : Key) (page : List ℕ) where
  -- the tests of bases are those of elements and children
  leaf_test : (k : ℕ) → stands_before key (element_in page (place k)) ≡ is_by false key (base_in page (place k))
  unfolding element_in
  leaf_test k = refl

  inner_test : (k : ℕ) → begins_by key (child_in page (place k)) ≡ is_by true key (base_in page (place k))
  unfolding child_in
  inner_test k = refl

  -- the elements of a leaf
  leaf_read : (n k : ℕ) (d : Element) → k < n → stands_before key (slice_index_or (first_elements page n) k d) ≡ is_by false key (base_in page (place k))
  leaf_read n k d low = ap (stands_before key) (first_at (λ i. element_in page (place i)) n k d low) ∙ leaf_test k

  pub leaf_falls : (n : ℕ) → IsStrictlySortedBy element_cmp (first_elements page n) → Falls (λ i. is_by false key (base_in page (place i))) n
  leaf_falls n sorted i j le low is =
      let d = element_in page (place 0) in
      sym (leaf_read n i d (omega arith)) ∙ leading_parted key (first_elements page n) sorted i j d le
      (omega (arith, first_length (λ i. element_in page (place i)) n)) (leaf_read n j d low ∙ is)

  pub leaf_rank : (n r : ℕ) → IsRank (λ i. is_by false key (base_in page (place i))) n r → r ≡ leading key (first_elements page n)
  leaf_rank n r rank =
      let size = first_length (λ i. element_in page (place i)) n in
      leading_point key (first_elements page n) r (omega (arith, size, rank.bound))
      (λ k d a b. leaf_read n k d (omega (arith, rank.bound)) ∙ rank.before k b)
      (λ k d a b. leaf_read n k d (omega (arith, size)) ∙ rank.after k a (omega (arith, size)))

  pub leaf_first_at : (n r : ℕ) → IsRank (λ i. is_by false key (base_in page (place i))) n r
      → slice_get (first_elements page n) r ≡ first_from key (first_elements page n)
  leaf_first_at n r rank = ap (slice_get (first_elements page n)) (leaf_rank n r rank) ∙ sym (first_from-leading key (first_elements page n))

  -- the element at a turn is at the key or after it
  pub turn_found : (n r : ℕ) (found : Option Element) → ArePlaces page n → IsTurn (λ i. is_by false key (base_in page (place i))) n r
      → slice_get (first_elements page n) r ≡ found → IfSome found (IsFound key)
  turn_found n r found places turn is =
      elim (cases_lt r n) [
        | inl more ↦
            let e = element_in page (place r) in
            let one : IsFound key e = record {
              element = (places r more).placed.element;
              place = from_is (element_key e) key
                  (leaf_test r ∙ turn.after more);
            } in
            subst (λ (o : Option Element). IfSome o (IsFound key)) (sym (first_get (λ i. element_in page (place i)) n r more) ∙ is) one
        | inr none ↦ subst (λ (o : Option Element). IfSome o (IsFound key)) (sym (first_past (λ i. element_in page (place i)) n r (omega arith)) ∙ is) tt
      ]

  -- the children of an inner node
  inner_test_at : (n k : ℕ) (d : Child) → k < n → begins_by key (slice_index_or (first_children page n) k d) ≡ is_by true key (base_in page (place k))
  inner_test_at n k d low = ap (begins_by key) (first_at (λ i. child_in page (place i)) n k d low) ∙ inner_test k

  pub inner_falls : (n : ℕ) (right : Base) → IsStrictlySortedBy base_cmp (bounds right (first_children page n))
      → Falls (λ i. is_by true key (base_in page (place i))) n
  inner_falls n right sorted i j le low is =
      let d = child_in page (place 0) in
      sym (inner_test_at n i d (omega arith)) ∙ begun_parted key right (first_children page n) sorted i j d le
      (omega (arith, first_length (λ i. child_in page (place i)) n)) (inner_test_at n j d low ∙ is)

  pub inner_rank : (n r : ℕ) (right : Base) → IsStrictlySortedBy base_cmp (bounds right (first_children page n))
      → IsRank (λ i. is_by true key (base_in page (place i))) n r → r - 1 ≡ holder_place key (first_children page n)
  inner_rank n r right sorted rank =
      let size = first_length (λ i. child_in page (place i)) n in
      let point : r ≡ begun key (first_children page n) =
      begun_point key (first_children page n) r (omega (arith, size, rank.bound))
      (λ k d a b. inner_test_at n k d (omega (arith, rank.bound)) ∙ rank.before k b)
      (λ k d a b. inner_test_at n k d (omega (arith, size)) ∙ rank.after k a (omega (arith, size))) in
      ap (λ n. n - 1) point ∙ holder_from_begun key right (first_children page n) sorted

-- there is no place where there is no child
places_none : (level : ℕ) (right : Base) (cs : List Child) (i : ℕ) → slice_get cs i ≡ None → slice_get (places_of level right cs) i ≡ None
places_none level right [] i is = refl
places_none level right (c ∷ cs) zero is = absurd cc
places_none level right (c ∷ cs) (suc i) is = places_none level right cs i is

module _ (page : List ℕ) where
  left_there : (k : ℕ) → (child_in page (place k)).left ≡ base_in page (place k)
  unfolding child_in
  left_there k = refl

  -- the right boundary of a child stands in the place after it
  right_there : (n i : ℕ) → i < n → next_left (base_in page (place n)) (drop (suc i) (first_children page n)) ≡ base_in page (place (suc i))
  right_there n i low =
      elim (cases_lt (suc i) n) [
        | inl more ↦ next_there (base_in page (place n)) (first_children page n) (suc i) (child_in page (place (suc i)))
            (first_get (λ k. child_in page (place k)) n (suc i) more) ∙ left_there (suc i)
        | inr last ↦
            let is : n ≡ suc i = omega arith in
            next_none (base_in page (place n)) (first_children page n) (suc i) (first_past (λ k. child_in page (place k)) n (suc i) (omega arith))
            ∙ ap (λ (k : ℕ). base_in page (place k)) is
      ]

  -- what is below the child in a place
  pub child_below : (i level n : ℕ) (child : Child) (right : Base) → level ≡ (head_in page).level → n ≡ (head_in page).count → i < n
      → child ≡ child_in page (place i) → right ≡ base_in page (place (i + 1))
      → slice_get (children_of (inner_in page)) i ≡ Some (child_place level right child)
  child_below i level n child right high count low is next =
      let k = (head_in page).count in
      let after : i + 1 ≡ suc i = omega arith in
      let bound : next_left (base_in page (place k)) (drop (suc i) (first_children page k)) ≡ right =
      right_there k i (omega (arith, count)) ∙ ap (λ (j : ℕ). base_in page (place j)) (sym after) ∙ sym next in
      place_there (head_in page).level (base_in page (place k)) (first_children page k) i (child_in page (place i))
      (first_get (λ k. child_in page (place k)) k i (omega (arith, count)))
      ∙ rw (bound, high, is) refl

  -- none is below the place after the last
  pub none_below : (i n : ℕ) → n ≡ (head_in page).count → n ≤ i → slice_get (children_of (inner_in page)) i ≡ None
  none_below i n count high =
      places_none (head_in page).level (base_in page (place (head_in page).count)) (first_children page (head_in page).count) i
      (first_past (λ k. child_in page (place k)) (head_in page).count i (omega (arith, count)))

-- a place that is there is that of a child
pub place_some : (places : List Subtree) (i : ℕ) (o : Option Subtree) → slice_get places i ≡ o → IfSome o (λ s. (k : ℕ) × (slice_get places k ≡ Some s))
place_some places i None is = tt
place_some places i (Some s) is = (i, is)

-- the place of another child, where there is one
pub next_at : (seen : Option Subtree) (next : Subtree) (inner : Inner) → seen ≡ Some next
    → IfSome seen (λ s. (k : ℕ) × (slice_get (children_of inner) k ≡ Some s))
    → (k : ℕ) × (slice_get (children_of inner) k ≡ Some next)
next_at seen next inner is some = subst (λ (o : Option Subtree). IfSome o (λ s. (k : ℕ) × (slice_get (children_of inner) k ≡ Some s))) is some

not_true : (b : Bool) → not b ≡ true → b ≡ false
not_true true is = sym is
not_true false is = refl

not_false : (b : Bool) → not b ≡ false → b ≡ true
not_false true is = refl
not_false false is = sym is

module _ (key : Key) (page : List ℕ) (n r : ℕ) (turn : IsTurn (λ i. is_by true key (base_in page (place i))) n r) where
  -- the bases beside a turn
  base_from : 1 ≤ r → IsFrom (key_of (base_in page (place (r - 1)))) key
  base_from some = from_is key (key_of (base_in page (place (r - 1))))
      (not_true (is_lt (key_cmp key (key_of (base_in page (place (r - 1)))))) (turn.before some))

  base_after : r < n → IsBefore key (key_of (base_in page (place r)))
  base_after more = before_is key (key_of (base_in page (place r))) (not_false (is_lt (key_cmp key (key_of (base_in page (place r))))) (turn.after more))

  -- the boundaries of the child before a turn hold the key where those of the node do
  pub turn_inside : (child : Subtree) → n ≡ (head_in page).count → 1 ≤ n → slice_get (children_of (inner_in page)) (r - 1) ≡ Some child
      → IsInside (next_left (inner_in page).right (inner_in page).places.items) (inner_in page).right key → IsInside child.left child.right key
  turn_inside child count some get inside =
      let h : ℕ = r - 1 in
      let low : h < n = omega (arith, turn.bound) in
      let is : Some child ≡ Some (child_place (head_in page).level (base_in page (place (h + 1))) (child_in page (place h))) =
      sym get ∙ child_below page h (head_in page).level n (child_in page (place h)) (base_in page (place (h + 1))) refl count low refl refl in
      let same : child ≡ child_place (head_in page).level (base_in page (place (h + 1))) (child_in page (place h)) = cc in
      let left : child.left ≡ base_in page (place h) = ap (λ (t : Subtree). t.left) same ∙ left_there page h in
      let right : child.right ≡ base_in page (place (h + 1)) = ap (λ (t : Subtree). t.right) same in
      let front : next_left (inner_in page).right (inner_in page).places.items ≡ base_in page (place 0) =
      next_there (inner_in page).right (first_children page (head_in page).count) 0 (child_in page (place 0))
      (first_get (λ k. child_in page (place k)) (head_in page).count 0 (omega (arith, count))) ∙ left_there page 0 in
      let first : IsFrom (key_of (base_in page (place 0))) key = subst (λ (b : Base). IsFrom (key_of b) key) front inside.from in
      record {
        from = subst (λ (b : Base). IsFrom (key_of b) key) (sym left) (elim (cases_lt 0 r) [
          | inl more ↦ base_from more
          | inr none ↦ let zero_is : h ≡ 0 = omega arith in subst (λ (k : ℕ). IsFrom (key_of (base_in page (place k))) key) (sym zero_is) first
        ]);
        before = subst (λ (b : Base). IsBefore key (key_of b)) (sym right) (elim (cases_lt 0 r) [
          | inl more ↦
              let next : h + 1 ≡ r = omega arith in
              subst (λ (k : ℕ). IsBefore key (key_of (base_in page (place k)))) (sym next) (elim (cases_lt r n) [
                | inl later ↦ base_after later
                | inr last ↦ let end : (head_in page).count ≡ r = omega (arith, turn.bound, count) in
                    subst (λ (k : ℕ). IsBefore key (key_of (base_in page (place k)))) end inside.before
              ])
          | inr none ↦
              let zero_is : r ≡ 0 = omega arith in
              absurd (first (subst (λ (k : ℕ). IsBefore key (key_of (base_in page (place k)))) zero_is (base_after (omega arith))))
        ]);
      }

-- an inner node has a child
pub inner_some : (page : List ℕ) (head : Head) → head ≡ head_in page → head.kind ≢ LEAF → HasCount (node_in page) → 1 ≤ head.count
inner_some page head is kind counted =
    let count = subst HasCount (inner_here page head is kind) counted in
    omega (arith, count.0, inner_count page, count_here page head is)

-- no place after the last child
pub last_place : (level : ℕ) (right : Base) (cs : List Child) (i : ℕ) → slice_get (places_of level right cs) i ≡ None → length cs ≤ i
last_place level right [] i none = omega arith
last_place level right (c ∷ cs) zero none = absurd cc
last_place level right (c ∷ cs) (suc i) none = omega (arith, last_place level right cs i none)

-- the `mirror` that is seen is the node's
pub shows_mirror : (key : Key) (node : Node) (seen : Seen) → Shows key node seen → seen_mirror seen ≡ mirror_of node
shows_mirror key (leaf_node leaf) (leaf_seen seen) view = view.mirror
shows_mirror key (inner_node inner) (inner_seen seen) view = view.mirror
shows_mirror key (leaf_node leaf) (inner_seen seen) view = absurd view
shows_mirror key (inner_node inner) (leaf_seen seen) view = absurd view

-- what a search sees of a leaf, or of an inner node
pub record GlancesLeaf (s : Subtree) (told : Option PageMap) (key : Key) (seen : SeenLeaf) : Type 0 where
  pub leaf : Leaf
  pub there : IfSome told (λ map. PassesHere map s (leaf_node leaf))
  pub view : ShowsLeaf key leaf seen

pub record GlancesInner (s : Subtree) (told : Option PageMap) (key : Key) (seen : SeenInner) : Type 0 where
  pub inner : Inner
  pub level : HasLevel (inner_node inner)
  pub fields : HasFields (inner_node inner)
  pub meets : (rule : PlaceRule) → MeetsBy s (inner_node inner) rule
  pub there : IfSome told (λ map. PassesHere map s (inner_node inner))
  pub view : ShowsInner key inner seen

pub glances_leaf : (s : Subtree) (told : Option PageMap) (key : Key) (seen : Seen) (leaf : SeenLeaf) → seen ≡ leaf_seen leaf → Glances Shows s told key seen
    → GlancesLeaf s told key leaf
glances_leaf s told key seen leaf is glances = by_kind glances.node glances.there (subst (Shows key glances.node) is glances.view) where
  by_kind : (node : Node) → IfSome told (λ map. PassesHere map s node) → Shows key node (leaf_seen leaf) → GlancesLeaf s told key leaf
  by_kind (leaf_node l) there view = record { leaf = l; there = there; view = view }
  by_kind (inner_node inner) there view = absurd view

pub glances_inner : (s : Subtree) (told : Option PageMap) (key : Key) (seen : Seen) (inner : SeenInner) → seen ≡ inner_seen inner
    → Glances Shows s told key seen
    → GlancesInner s told key inner
glances_inner s told key seen inner is glances =
    by_kind glances.node glances.level glances.fields glances.meets glances.there (subst (Shows key glances.node) is glances.view) where
      by_kind : (node : Node) → HasLevel node → HasFields node → ((rule : PlaceRule) → MeetsBy s node rule) → IfSome told (λ map. PassesHere map s node)
          → Shows key node (inner_seen inner) → GlancesInner s told key inner
      by_kind (leaf_node l) level fields meets there view = absurd view
      by_kind (inner_node x) level fields meets there view = record { inner = x; level = level; fields = fields; meets = meets; there = there; view = view }
