-- Two neighbouring leaves that become one, or share their elements out.
use Rattle.std.proofs.Common.{◌≡◌, Bool, true, false, ℕ, ◌-◌, ◌<◌, ◌≤◌, ◌⊎◌, inl, inr, List, [], ◌∷◌, ◌++◌, length, drop, refl, sym, ap}
use Rattle.std.proofs.Common.{subst, ◌∙◌, arith, max, ltb-true, ltb-false, length-append, length-drop, take-append-drop}
use Rattle.std.specs.Prelude.{if◌then◌else◌}
use Rattle.std.specs.List.{AllByRecursion}
use Rattle.std.specs.List.Sorted.{IsStrictlySortedBy}
use Rattle.std.specs.Ordering.{is_lt}
use Rattle.std.proofs.lemmas.List.{length-take-le, drop-append-le}
use Rattle.std.proofs.lemmas.List.Elements.{All-from_recursion, recursion_from_All}
use Rattle.hm_types.specs.Elements.{Key, key_cmp}
use Rattle.hm_types.specs.Offset.{IsOffset}
use Rattle.hm_fields.specs.Pages.{PageMap}
use Rattle.hm_key.specs.Key.{key_of, IsBefore, IsFrom, IsBoundary}
use Rattle.hm_key.specs.Element.{IsElement}
use Rattle.hm_key.specs.Elements.{element_key, element_cmp, IsContent}
use Rattle.hm_key.specs.declared.base.Base.{Base}
use Rattle.hm_key.specs.declared.element.Element.{Element}
use Rattle.hm_key.proofs.KeyLemmas.{key_from_before}
use Rattle.hm_node.specs.Leaf.{IsPlaced, IsUpTo}
use Rattle.hm_node.specs.declared.leaf.Leaf.{Leaf}
use Rattle.hm_node.specs.declared.node.Node.TheVariants.{Leaf as leaf_node}
use Rattle.hm_search.specs.Place.{IsInside}
use Rattle.hm_search.specs.Tree.{IsTree}
use Rattle.hm_search.proofs.ListLemmas.{each_so, each_append, sorted_append, around}
use Rattle.hm_search.proofs.OrderLemmas.{from_trans}
use Rattle.hm_btree.specs.Marking.{Writes, TakesOut, MarksWithin}
use Rattle.hm_btree.specs.Edits.{leaf_of}
use Rattle.hm_btree.specs.Grow.{Split}
use Rattle.hm_btree.specs.Shrink.{Beside, Joined, Shared, between}
use Rattle.hm_btree.proofs.CutLemmas.{each_drop, each_most, cut_low, cut_high, cut_of, gains_of, low_of, high_of, low_part, high_part}
use Rattle.hm_btree.proofs.LeafLemmas.{below_leaf, leaf_sound, leaf_content, leaf_offsets}
use Rattle.hm_btree.proofs.ListLemmas.{drop_across}
use Rattle.hm_btree.proofs.MarkLemmas.{both_sides, same_marks, writes_leaf, marks_joined, marks_gain_low, marks_gain_high}
use Rattle.hm_btree.proofs.OrderLemmas.{before_before}
use Rattle.hm_btree.proofs.SplitLemmas.{split_leaf}

upto_rise : (m n : ℕ) (e : Element) → m ≤ n → IsUpTo m e → IsUpTo n e
upto_rise m n e le up = record { create = omega (arith, up.create); delete = omega (arith, up.delete) }

-- a leaf with another `mirror` that its elements keep
module _ (map : PageMap) (height : ℕ) (left right : Base) (es : List Element) where
  mirrored : (m n : ℕ) → IsTree map height (between left right) (leaf_node (leaf_of m es)) → AllByRecursion (IsUpTo n) es
      → IsTree map height (between left right) (leaf_node (leaf_of n es))
  mirrored m n tree up = record {
    sound = record {
      level = tt;
      count = tree.sound.count;
      order = tree.sound.order;
      fields = tree.sound.fields;
      mirror = All-from_recursion (IsUpTo n) es up;
    };
    level = tree.level;
    fits = record { level = tt; count = tt; bounds = tree.fits.bounds; mirror = tt };
    below = below_leaf map height (leaf_of m es) (leaf_of n es) tree.below;
  }

-- a leaf with no element
no_element : (map : PageMap) (height : ℕ) (place left right : Base) (leaf : Leaf) → IsTree map height (between place left)
    (leaf_node leaf) → IsTree map height (between place right) (leaf_node (leaf_of 0 []))
unfolding IsStrictlySortedBy
no_element map height place left right leaf tree = record {
  sound = record { level = tt; count = omega arith; order = tt; fields = All-from_recursion IsPlaced [] tt; mirror = All-from_recursion (IsUpTo 0) [] tt };
  level = tree.level;
  fits = record { level = tt; count = tt; bounds = All-from_recursion (λ e. IsInside place right (element_key e)) [] tt; mirror = tt };
  below = below_leaf map height leaf (leaf_of 0 []) tree.below;
}

module _ (key : Key) (height : ℕ) (old mid : PageMap) (olds : ℕ → Bool) (want : List Element) (were : Key → ℕ) (left right : Base)
    (a b : Leaf) (at : Base) (beside : Beside key TakesOut height old mid olds want were left right (leaf_node a) (leaf_node b) at)
    (stay : (k : Key) → were k ≡ (if is_lt (key_cmp k (key_of at)) then a.mirror else b.mirror)) where
  abbrev all : List Element
  all = a.places.items ++ b.places.items

  lower_inside : AllByRecursion (λ e. IsInside left at (element_key e)) a.places.items
  lower_inside = recursion_from_All (λ e. IsInside left at (element_key e)) a.places.items beside.lower_tree.fits.bounds

  upper_inside : AllByRecursion (λ e. IsInside at right (element_key e)) b.places.items
  upper_inside = recursion_from_All (λ e. IsInside at right (element_key e)) b.places.items beside.upper_tree.fits.bounds

  lower_before : AllByRecursion (λ e. IsBefore (element_key e) (key_of at)) a.places.items
  lower_before = each_so (λ e. IsInside left at (element_key e)) (λ e. IsBefore (element_key e) (key_of at)) a.places.items (λ e is. is.before) lower_inside

  upper_from : AllByRecursion (λ e. IsFrom (key_of at) (element_key e)) b.places.items
  upper_from = each_so (λ e. IsInside at right (element_key e)) (λ e. IsFrom (key_of at) (element_key e)) b.places.items (λ e is. is.from) upper_inside

  all_inside : AllByRecursion (λ e. IsInside left right (element_key e)) all
  all_inside =
      each_append (λ e. IsInside left right (element_key e)) a.places.items b.places.items
      (each_so (λ e. IsInside left at (element_key e)) (λ e. IsInside left right (element_key e)) a.places.items
      (λ e is. record { from = is.from; before = before_before (element_key e) (key_of at) (key_of right) is.before beside.to }) lower_inside)
      (each_so (λ e. IsInside at right (element_key e)) (λ e. IsInside left right (element_key e)) b.places.items
      (λ e is. record {
        from = from_trans (key_of left) (key_of at) (element_key e)
            (key_from_before (key_of left) (key_of at) beside.from) is.from;
        before = is.before;
      }) upper_inside)

  all_content : IsContent all
  all_content = record {
    rising = sorted_append element_cmp a.places.items b.places.items beside.lower_tree.sound.order beside.upper_tree.sound.order
        (around (key_of at) a.places.items b.places.items lower_before upper_from);
    each = All-from_recursion IsElement all (each_append IsElement a.places.items b.places.items
        (recursion_from_All IsElement a.places.items (leaf_content mid height (between left at) a beside.lower_tree).each)
        (recursion_from_All IsElement b.places.items (leaf_content mid height (between at right) b beside.upper_tree).each));
  }

  all_offsets : AllByRecursion (λ e. IsOffset e.payload) all
  all_offsets = each_append (λ e. IsOffset e.payload) a.places.items b.places.items (leaf_offsets mid height (between left at) a
      beside.lower_tree) (leaf_offsets mid height (between at right) b beside.upper_tree)

  lower_upto : AllByRecursion (IsUpTo a.mirror) a.places.items
  lower_upto = recursion_from_All (IsUpTo a.mirror) a.places.items beside.lower_tree.sound.mirror

  upper_upto : AllByRecursion (IsUpTo b.mirror) b.places.items
  upper_upto = recursion_from_All (IsUpTo b.mirror) b.places.items beside.upper_tree.sound.mirror

  all_upto : AllByRecursion (IsUpTo (max a.mirror b.mirror)) all
  all_upto = each_most IsUpTo upto_rise a.mirror b.mirror a.places.items b.places.items lower_upto upper_upto

  -- one leaf has the elements of both
  pub joined_leaves : length all ≤ 63 → (1 ≤ length a.places.items) ⊎ (1 ≤ length b.places.items)
      → IsBefore key (key_of at) ⊎ IsFrom (key_of at) key → Joined key TakesOut height old mid olds want were left right
      (leaf_node (leaf_of (max a.mirror b.mirror) all))
  joined_leaves few some side = record {
    tree = leaf_sound (between left at) height mid a (leaf_of (max a.mirror b.mirror) all) left right beside.lower_tree
        all_content all_offsets all_inside all_upto few tt;
    many = elim some [
      | inl first ↦ omega (arith, length-append a.places.items b.places.items, first)
      | inr second ↦ omega (arith, length-append a.places.items b.places.items, second)
    ];
    elements = beside.elements;
    mark = same_marks (λ (o : Key → ℕ). MarksWithin TakesOut key left right o (λ _. max a.mirror b.mirror))
        (both_sides at (λ _. a.mirror) (λ _. b.mirror)) were stay
        (marks_joined at left right key a.mirror b.mirror beside.from beside.to side);
    pages = beside.pages;
  }

  abbrev count : ℕ
  count = cut_of a.places.items b.places.items

  abbrev gains : Bool
  gains = gains_of a.places.items b.places.items

  abbrev low : ℕ
  low = low_of gains a.mirror b.mirror

  abbrev high : ℕ
  high = high_of gains a.mirror b.mirror

  module _ (e : Element) (hi : List Element) (now : Base) (cut : high_part a.places.items b.places.items ≡ e ∷ hi)
      (bound : IsBoundary now (element_key e)) (long : 64 ≤ length all)
      (small : (IsBefore key (key_of at) × (length a.places.items < 16)) ⊎ (IsFrom (key_of at) key × (length b.places.items < 16))) where
    abbrev lo : List Element
    lo = low_part a.places.items b.places.items

    -- the boundary moves up where the lower leaf gains elements, and down where it does not
    moved_up : gains ≡ true → IsFrom (key_of at) (key_of now)
    moved_up is =
        let below = ltb-true (length a.places.items) count is in
        let items : drop (count - length a.places.items) b.places.items ≡ e ∷ hi =
        sym (drop_across count a.places.items b.places.items (omega (arith, below))) ∙ cut in
        let each = subst (λ (l : List Element). AllByRecursion (λ x. IsFrom (key_of at) (element_key x)) l) items
        (each_drop (λ x. IsFrom (key_of at) (element_key x)) (count - length a.places.items) b.places.items upper_from) in
        subst (λ (k : Key). IsFrom (key_of at) k) (sym bound.key) each.0

    moved_down : gains ≡ false → IsBefore (key_of now) (key_of at)
    moved_down is =
        let above = ltb-false (length a.places.items) count is in
        let fewer : count < length a.places.items = elim small [
          | inl first ↦ omega (arith, length-append a.places.items b.places.items, above, first.1)
          | inr second ↦ omega (arith, length-append a.places.items b.places.items, above, second.1)
        ] in
        subst (λ (k : Key). IsBefore k (key_of at)) (sym bound.key)
        (by_list (drop count a.places.items) (omega (arith, length-drop count a.places.items))
        (each_drop (λ x. IsBefore (element_key x) (key_of at)) count a.places.items lower_before)
        (sym (drop-append-le count a.places.items b.places.items (omega (arith, above))) ∙ cut)) where
          by_list : (es : List Element) → 1 ≤ length es → AllByRecursion (λ x. IsBefore (element_key x) (key_of at)) es → es
              ++ b.places.items ≡ e ∷ hi → IsBefore (element_key e) (key_of at)
          by_list [] some each same = absurd (omega arith)
          by_list (x ∷ es) some each same = let first : x ≡ e = cc in subst (λ (y : Element). IsBefore (element_key y) (key_of at)) first each.0

    -- the leaf that holds the key is the one that gains
    side_of : IsBefore key (key_of at) × (gains ≡ true) ⊎ IsFrom (key_of at) key × (gains ≡ false)
    side_of = by_test gains refl where
      by_test : (t : Bool) → gains ≡ t → IsBefore key (key_of at) × (gains ≡ true) ⊎ IsFrom (key_of at) key × (gains ≡ false)
      by_test true is = elim small [
        | inl first ↦ inl (first.0, is)
        | inr second ↦ let below = ltb-true (length a.places.items) count is in
            absurd (omega (arith, below, second.1, long, length-append a.places.items b.places.items))
      ]
      by_test false is = elim small [
        | inl first ↦ let above = ltb-false (length a.places.items) count is in
            absurd (omega (arith, above, first.1, long, length-append a.places.items b.places.items))
        | inr second ↦ inr (second.0, is)
      ]

    marks : MarksWithin TakesOut key left right (both_sides at (λ _. a.mirror) (λ _. b.mirror)) (both_sides now (λ _. low) (λ _. high))
    marks = elim side_of [
      | inl up ↦ subst (λ (t : Bool). MarksWithin TakesOut key left right (both_sides at (λ _. a.mirror) (λ _. b.mirror))
          (both_sides now (λ _. low_of t a.mirror b.mirror) (λ _. high_of t a.mirror b.mirror))) (sym up.1)
          (marks_gain_low at left right key a.mirror b.mirror beside.from beside.to now up.0 (moved_up up.1))
      | inr down ↦ subst (λ (t : Bool). MarksWithin TakesOut key left right (both_sides at (λ _. a.mirror) (λ _. b.mirror))
          (both_sides now (λ _. low_of t a.mirror b.mirror) (λ _. high_of t a.mirror b.mirror))) (sym down.1)
          (marks_gain_high at left right key a.mirror b.mirror beside.from beside.to now down.0 (moved_down down.1))
    ]

    both : lo ++ e ∷ hi ≡ all
    both = ap (λ (l : List Element). lo ++ l) (sym cut) ∙ take-append-drop count all

    lower_length : length lo ≡ count
    lower_length = length-take-le count all (omega (arith, length-append a.places.items b.places.items))

    upper_length : length (e ∷ hi) ≡ length all - count
    upper_length = ap length (sym cut) ∙ length-drop count all

    split : Split (λ _. all) key (Writes (max a.mirror b.mirror)) (between left right) height mid mid (leaf_node (leaf_of 0 []))
        (leaf_node (leaf_of (max a.mirror b.mirror) lo)) (leaf_node (leaf_of (max a.mirror b.mirror) (e ∷ hi))) now
    split = split_leaf (λ _. all) key (Writes (max a.mirror b.mirror)) (between left right) height mid (leaf_of 0 [])
        (max a.mirror b.mirror) lo e hi now (no_element mid height left at right a beside.lower_tree) both
        (subst IsContent (sym both) all_content)
        (subst (λ (l : List Element). AllByRecursion (λ x. IsOffset x.payload) l) (sym both) all_offsets)
        (subst (λ (l : List Element). AllByRecursion (λ x. IsInside left right (element_key x)) l) (sym both) all_inside)
        (subst (λ (l : List Element). AllByRecursion (IsUpTo (max a.mirror b.mirror)) l) (sym both) all_upto)
        (omega (arith, lower_length, long, length-append a.places.items b.places.items))
        (omega (arith, lower_length, length-append a.places.items b.places.items, beside.lower_tree.sound.count, beside.upper_tree.sound.count))
        (omega (arith, upper_length, length-append a.places.items b.places.items, beside.lower_tree.sound.count, beside.upper_tree.sound.count))
        (writes_leaf key (max a.mirror b.mirror) 0 (max a.mirror b.mirror) (omega arith)) bound

    -- two leaves have about as many elements each
    pub shared_leaves : Shared key TakesOut height old mid olds want were left right (leaf_node (leaf_of low lo)) (leaf_node (leaf_of high (e ∷ hi))) now
    shared_leaves = record {
      beside = record {
        lower_tree = mirrored mid height left now lo (max a.mirror b.mirror) low split.lower_tree
            (cut_low IsUpTo upto_rise a.mirror b.mirror a.places.items b.places.items lower_upto upper_upto count);
        upper_tree = mirrored mid height now right (e ∷ hi) (max a.mirror b.mirror) high split.upper_tree
            (subst (λ (l : List Element). AllByRecursion (IsUpTo high) l) cut (cut_high IsUpTo upto_rise a.mirror b.mirror
            a.places.items b.places.items lower_upto upper_upto count));
        elements = both ∙ beside.elements;
        mark = same_marks (λ (o : Key → ℕ). MarksWithin TakesOut key left right o (both_sides now (λ _. low) (λ _. high)))
            (both_sides at (λ _. a.mirror) (λ _. b.mirror)) were stay marks;
        pages = beside.pages;
        bound = split.bound;
        from = split.from;
        to = split.to;
      };
      lower_many = split.lower_many;
      upper_many = split.upper_many;
    }
