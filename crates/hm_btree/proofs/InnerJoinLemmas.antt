-- Two neighbouring inner nodes that become one, or share their children out.
use Rattle.std.proofs.Common.{◌≡◌, Bool, ◌||◌, ℕ, zero, suc, ◌-◌, ◌≤◌, ◌⊎◌, inl, inr, List, [], ◌∷◌, ◌++◌, length, take, refl, sym, ap}
use Rattle.std.proofs.Common.{subst, ◌∙◌, arith, max, length-append, length-drop, take-append-drop}
use Rattle.std.specs.Prelude.{if◌then◌else◌}
use Rattle.std.specs.List.{AllByRecursion}
use Rattle.std.specs.List.Sorted.{IsStrictlySortedBy}
use Rattle.std.specs.Ordering.{is_lt}
use Rattle.std.proofs.lemmas.Grind.{flat_map-append}
use Rattle.std.proofs.lemmas.List.{length-take-le}
use Rattle.std.proofs.lemmas.List.Elements.{All-from_recursion, recursion_from_All}
use Rattle.hm_types.specs.Elements.{Key, key_cmp}
use Rattle.hm_fields.specs.Pages.{PageMap}
use Rattle.hm_key.specs.Key.{key_of, IsBefore}
use Rattle.hm_key.specs.Elements.{element_key}
use Rattle.hm_key.specs.declared.base.Base.{Base}
use Rattle.hm_key.specs.declared.element.Element.{Element}
use Rattle.hm_node.specs.Inner.{IsChild}
use Rattle.hm_node.specs.declared.inner.Child.{Child}
use Rattle.hm_node.specs.declared.inner.Inner.{Inner}
use Rattle.hm_node.specs.declared.node.Node.{Node}
use Rattle.hm_node.specs.declared.node.Node.TheVariants.{Leaf as leaf_node, Inner as inner_node}
use Rattle.hm_search.specs.Place.{IsInside, BeginsAt, FitsBounds}
use Rattle.hm_search.specs.Tree.{node_at, elements_in, next_left, child_place, IsTree, IsStoredTree}
use Rattle.hm_search.proofs.ChildLemmas.{begins_before, later_sorted}
use Rattle.hm_search.proofs.ListLemmas.{each_so, each_append}
use Rattle.hm_btree.specs.Marking.{Marking, MarksWithin}
use Rattle.hm_btree.specs.Edits.{inner_of}
use Rattle.hm_btree.specs.Below.{elements_under, mark_under, has_under, AreStored, AreRising}
use Rattle.hm_btree.specs.Shrink.{Beside, Joined, Shared, between}
use Rattle.hm_btree.proofs.ChangeLemmas.{mark_cut}
use Rattle.hm_btree.proofs.CutLemmas.{each_take, each_drop, each_most, cut_low, cut_high, cut_of, gains_of, low_of, high_of, low_part, high_part}
use Rattle.hm_btree.proofs.MarkLemmas.{both_sides, same_marks}
use Rattle.hm_btree.proofs.OrderLemmas.{ends_after, rising_cons, rising_front, rising_back, rising_append, before_all}
use Rattle.hm_btree.proofs.UnderLemmas.{replaces_same, stored_append, stored_front, stored_back, under_append}

-- A right boundary matters by its key alone.
module _ (old new : Base) (same : key_of old ≡ key_of new) where
  bounds_to : (left : Base) (node : Node) → FitsBounds left old node → FitsBounds left new node
  bounds_to left (leaf_node leaf) bounds =
      All-from_recursion (λ e. IsInside left new (element_key e)) leaf.places.items
      (each_so (λ e. IsInside left old (element_key e)) (λ e. IsInside left new (element_key e)) leaf.places.items
      (λ e is. record { from = is.from; before = subst (λ (k : Key). IsBefore (element_key e) k) same is.before })
      (recursion_from_All (λ e. IsInside left old (element_key e)) leaf.places.items bounds))
  bounds_to left (inner_node inner) bounds = (bounds.0, bounds.1 ∙ same)

  module _ (map : PageMap) (height level : ℕ) where
    child_to : (c : Child) → IsStoredTree map height (child_place level old c) → IsStoredTree map height (child_place level new c)
    child_to c stored = record {
      there = stored.there;
      spelled = stored.spelled;
      tree = record {
        sound = stored.tree.sound;
        level = stored.tree.level;
        fits = record {
          level = stored.tree.fits.level;
          count = stored.tree.fits.count;
          bounds = bounds_to c.left (node_at map c.child) stored.tree.fits.bounds;
          mirror = stored.tree.fits.mirror;
        };
        below = stored.tree.below;
      };
    }

    pub stored_to : (cs : List Child) → AreStored map height level old cs → AreStored map height level new cs
    stored_to [] stored = tt
    stored_to (c ∷ []) stored = (child_to c stored.0, tt)
    stored_to (c ∷ d ∷ ds) stored = (stored.0, stored_to (d ∷ ds) stored.1)

  pub rising_to : (cs : List Child) → AreRising old cs → AreRising new cs
  unfolding IsStrictlySortedBy
  rising_to [] rising = (tt, tt)
  rising_to (c ∷ []) rising = ((subst (λ (k : Key). IsBefore (key_of c.left) k) same (begins_before old c [] rising), tt), (tt, tt))
  rising_to (c ∷ d ∷ ds) rising =
      let more = rising_to (d ∷ ds) (later_sorted old c (d ∷ ds) rising) in
      rising_cons new c (d ∷ ds) (before_all c.left new (d ∷ ds) more (begins_before old c (d ∷ ds) rising)) more

-- where some children begin
module _ (left : Base) where
  begins_key : (right : Base) (cs : List Child) → BeginsAt left cs → key_of (next_left right cs) ≡ key_of left
  begins_key right [] begins = absurd begins
  begins_key right (c ∷ cs) begins = begins

  begins_append : (cs ds : List Child) → BeginsAt left cs → BeginsAt left (cs ++ ds)
  begins_append [] ds begins = absurd begins
  begins_append (c ∷ cs) ds begins = begins

  begins_take : (n : ℕ) (cs : List Child) → 1 ≤ n → BeginsAt left cs → BeginsAt left (take n cs)
  begins_take n [] some begins = absurd begins
  begins_take zero (c ∷ cs) some begins = absurd (omega arith)
  begins_take (suc n) (c ∷ cs) some begins = begins

left_before_right : (left right : Base) (cs : List Child) → BeginsAt left cs → AreRising right cs → IsBefore (key_of left) (key_of right)
left_before_right left right [] begins rising = absurd begins
left_before_right left right (c ∷ cs) begins rising = subst (λ (k : Key). IsBefore k (key_of right)) begins (ends_after right c cs rising)

mirror_rise : (m n : ℕ) (c : Child) → m ≤ n → c.mirror ≤ m → c.mirror ≤ n
mirror_rise m n c le up = omega (arith, le, up)

module _ (key : Key) (marking : Marking) (height : ℕ) (old mid : PageMap) (olds : ℕ → Bool) (want : List Element) (were : Key → ℕ)
    (left right : Base) (a b : Inner) (at : Base) (beside : Beside key marking (suc height) old mid olds want were left right
    (inner_node a) (inner_node b) at) where
  abbrev all : List Child
  all = a.places.items ++ b.places.items

  abbrev both_mirrors : ℕ → Child → Type 0
  both_mirrors m c = c.mirror ≤ m

  abbrev next : Base
  next = next_left b.right b.places.items

  next_key : key_of next ≡ key_of at
  next_key = begins_key at b.right b.places.items beside.upper_tree.fits.bounds.0

  end_key : key_of a.right ≡ key_of next
  end_key = beside.lower_tree.fits.bounds.1 ∙ sym next_key

  level_same : b.level ≡ a.level
  level_same = omega (arith, beside.lower_tree.level, beside.upper_tree.level)

  all_rising : AreRising b.right all
  all_rising = rising_append b.right a.places.items b.places.items (rising_to a.right next end_key a.places.items
      beside.lower_tree.sound.order) beside.upper_tree.sound.order

  all_stored : AreStored mid height a.level b.right all
  all_stored =
      stored_append mid height a.level b.right a.places.items b.places.items (stored_to a.right next end_key mid height a.level
      a.places.items beside.lower_tree.below)
      (subst (λ (l : ℕ). AreStored mid height l b.right b.places.items) level_same beside.upper_tree.below)

  all_children : AllByRecursion IsChild all
  all_children = each_append IsChild a.places.items b.places.items
      (recursion_from_All IsChild a.places.items beside.lower_tree.sound.fields.children)
      (recursion_from_All IsChild b.places.items beside.upper_tree.sound.fields.children)

  lower_mirrors : AllByRecursion (both_mirrors a.mirror) a.places.items
  lower_mirrors = recursion_from_All (both_mirrors a.mirror) a.places.items beside.lower_tree.sound.mirror

  upper_mirrors : AllByRecursion (both_mirrors b.mirror) b.places.items
  upper_mirrors = recursion_from_All (both_mirrors b.mirror) b.places.items beside.upper_tree.sound.mirror

  all_elements : elements_under mid height all ≡ want
  all_elements = flat_map-append (λ (c : Child). elements_in mid height (node_at mid c.child)) a.places.items b.places.items ∙ beside.elements

  all_marks : (k : Key) → mark_under mid height all k ≡ (if is_lt (key_cmp k (key_of at)) then mark_under mid height
      a.places.items k else mark_under mid height b.places.items k)
  all_marks k = by_list b.places.items beside.upper_tree.fits.bounds.0 all_rising where
    by_list : (ds : List Child) → BeginsAt at ds → AreRising b.right (a.places.items ++ ds)
        → mark_under mid height (a.places.items ++ ds) k ≡ (if is_lt (key_cmp k (key_of at)) then mark_under mid height
        a.places.items k else mark_under mid height ds k)
    by_list [] begins rising = absurd begins
    by_list (d ∷ ds) begins rising =
        subst (λ (j : Key). mark_under mid height (a.places.items ++ d ∷ ds) k ≡ (if is_lt (key_cmp k j) then mark_under mid
        height a.places.items k else mark_under mid height (d ∷ ds) k)) begins
        (mark_cut mid height b.right k a.places.items d ds beside.lower_tree.sound.count.0 rising)

  -- one node has the children of both
  pub joined_inners : length all ≤ 62 → (16 ≤ length a.places.items) ⊎ (16 ≤ length b.places.items)
      → Joined key marking (suc height) old mid olds want were left right (inner_node (inner_of a.level (max a.mirror b.mirror) all b.right))
  joined_inners few some = record {
    tree = record {
      sound = record {
        level = beside.lower_tree.sound.level;
        count = (omega (arith, many), few);
        order = all_rising;
        fields = record { children = All-from_recursion IsChild all all_children; right = beside.upper_tree.sound.fields.right };
        mirror = All-from_recursion (both_mirrors (max a.mirror b.mirror)) all (each_most both_mirrors mirror_rise a.mirror
            b.mirror a.places.items b.places.items lower_mirrors upper_mirrors);
      };
      level = beside.lower_tree.level;
      fits = record {
        level = tt;
        count = tt;
        bounds = (begins_append left a.places.items b.places.items beside.lower_tree.fits.bounds.0, beside.upper_tree.fits.bounds.1);
        mirror = tt;
      };
      below = all_stored;
    };
    many = many;
    elements = all_elements;
    mark = same_marks (MarksWithin marking key left right were) (both_sides at (mark_under mid height a.places.items)
        (mark_under mid height b.places.items)) (mark_under mid height all) all_marks beside.mark;
    pages = replaces_same old mid olds (λ x. has_under mid height a.places.items x || has_under mid height b.places.items x) olds (has_under mid height all)
        (λ x. refl) (λ x. under_append mid height x a.places.items b.places.items) beside.pages;
  } where
    many : 16 ≤ length all
    many = elim some [
      | inl first ↦ omega (arith, length-append a.places.items b.places.items, first)
      | inr second ↦ omega (arith, length-append a.places.items b.places.items, second)
    ]

  abbrev count : ℕ
  count = cut_of a.places.items b.places.items

  abbrev gains : Bool
  gains = gains_of a.places.items b.places.items

  abbrev low : ℕ
  low = low_of gains a.mirror b.mirror

  abbrev high : ℕ
  high = high_of gains a.mirror b.mirror

  module _ (c : Child) (hi : List Child) (cut : high_part a.places.items b.places.items ≡ c ∷ hi) (long : 63 ≤ length all) where
    abbrev lo : List Child
    lo = low_part a.places.items b.places.items

    both : lo ++ c ∷ hi ≡ all
    both = ap (λ (l : List Child). lo ++ l) (sym cut) ∙ take-append-drop count all

    lower_length : length lo ≡ count
    lower_length = length-take-le count all (omega (arith, length-append a.places.items b.places.items))

    upper_length : length (c ∷ hi) ≡ length all - count
    upper_length = ap length (sym cut) ∙ length-drop count all

    lower_count : (16 ≤ length lo) × (length lo ≤ 62)
    lower_count = (
      omega (arith, lower_length, long, length-append a.places.items b.places.items),
      omega (arith, lower_length, length-append a.places.items b.places.items, beside.lower_tree.sound.count.1, beside.upper_tree.sound.count.1),
    )

    upper_count : (16 ≤ length (c ∷ hi)) × (length (c ∷ hi) ≤ 62)
    upper_count = (
      omega (arith, upper_length, long, length-append a.places.items b.places.items),
      omega (arith, upper_length, length-append a.places.items b.places.items, beside.lower_tree.sound.count.1, beside.upper_tree.sound.count.1),
    )

    rising : AreRising b.right (lo ++ c ∷ hi)
    rising = subst (λ (l : List Child). AreRising b.right l) (sym both) all_rising

    stored : AreStored mid height a.level b.right (lo ++ c ∷ hi)
    stored = subst (λ (l : List Child). AreStored mid height a.level b.right l) (sym both) all_stored

    lower_children : AllByRecursion IsChild lo
    lower_children = each_take IsChild count all all_children

    upper_children : AllByRecursion IsChild (c ∷ hi)
    upper_children = subst (λ (l : List Child). AllByRecursion IsChild l) cut (each_drop IsChild count all all_children)

    lower_begins : BeginsAt left lo
    lower_begins = begins_take left count all (omega (arith, long, length-append a.places.items b.places.items))
        (begins_append left a.places.items b.places.items beside.lower_tree.fits.bounds.0)

    lower_sound : IsTree mid (suc height) (between left c.left) (inner_node (inner_of a.level low lo c.left))
    lower_sound = record {
      sound = record {
        level = beside.lower_tree.sound.level;
        count = (omega (arith, lower_count.0), lower_count.1);
        order = rising_front b.right lo (c ∷ hi) rising;
        fields = record { children = All-from_recursion IsChild lo lower_children; right = upper_children.0.left };
        mirror = All-from_recursion (both_mirrors low) lo (cut_low both_mirrors mirror_rise a.mirror b.mirror a.places.items
            b.places.items lower_mirrors upper_mirrors count);
      };
      level = beside.lower_tree.level;
      fits = record { level = tt; count = tt; bounds = (lower_begins, refl); mirror = tt };
      below = stored_front mid height a.level b.right lo (c ∷ hi) stored;
    }

    upper_sound : IsTree mid (suc height) (between c.left right) (inner_node (inner_of b.level high (c ∷ hi) b.right))
    upper_sound = record {
      sound = record {
        level = beside.upper_tree.sound.level;
        count = (omega (arith, upper_count.0), upper_count.1);
        order = rising_back b.right lo (c ∷ hi) rising;
        fields = record { children = All-from_recursion IsChild (c ∷ hi) upper_children; right = beside.upper_tree.sound.fields.right };
        mirror = All-from_recursion (both_mirrors high) (c ∷ hi)
            (subst (λ (l : List Child). AllByRecursion (both_mirrors high) l) cut
            (cut_high both_mirrors mirror_rise a.mirror b.mirror a.places.items b.places.items lower_mirrors upper_mirrors count));
      };
      level = beside.upper_tree.level;
      fits = record { level = tt; count = tt; bounds = (refl, beside.upper_tree.fits.bounds.1); mirror = tt };
      below = subst (λ (l : ℕ). AreStored mid height l b.right (c ∷ hi)) (sym level_same) (stored_back mid height a.level b.right lo (c ∷ hi) stored);
    }

    marks : (k : Key) → (if is_lt (key_cmp k (key_of at)) then mark_under mid height a.places.items k else mark_under mid height b.places.items k)
        ≡ (if is_lt (key_cmp k (key_of c.left)) then mark_under mid height lo k else mark_under mid height (c ∷ hi) k)
    marks k = sym (all_marks k) ∙ ap (λ (l : List Child). mark_under mid height l k) (sym both) ∙ mark_cut mid height b.right k lo
        c hi (omega (arith, lower_count.0)) rising

    -- two nodes have about as many children each
    pub shared_inners : Shared key marking (suc height) old mid olds want were left right
        (inner_node (inner_of a.level low lo c.left)) (inner_node (inner_of b.level high (c ∷ hi) b.right)) c.left
    shared_inners = record {
      beside = record {
        lower_tree = lower_sound;
        upper_tree = upper_sound;
        elements = sym (flat_map-append (λ (d : Child). elements_in mid height (node_at mid d.child)) lo (c ∷ hi))
            ∙ ap (elements_under mid height) both ∙ all_elements;
        mark = same_marks (MarksWithin marking key left right were) (both_sides at (mark_under mid height a.places.items)
            (mark_under mid height b.places.items)) (both_sides c.left (mark_under mid height lo) (mark_under mid height (c ∷ hi)))
            (λ k. sym (marks k)) beside.mark;
        pages = replaces_same old mid olds (λ x. has_under mid height a.places.items x || has_under mid height b.places.items x)
            olds (λ x. has_under mid height lo x || has_under mid height (c ∷ hi) x)
            (λ x. refl) (λ x. sym (under_append mid height x lo (c ∷ hi)) ∙ ap (λ (l : List Child). has_under mid height l x) both
            ∙ under_append mid height x a.places.items b.places.items) beside.pages;
        bound = upper_children.0.left;
        from = left_before_right left c.left lo lower_begins (rising_front b.right lo (c ∷ hi) rising);
        to = subst (λ (k : Key). IsBefore (key_of c.left) k) beside.upper_tree.fits.bounds.1
            (ends_after b.right c hi (rising_back b.right lo (c ∷ hi) rising));
      };
      lower_many = lower_count.0;
      upper_many = upper_count.0;
    }
