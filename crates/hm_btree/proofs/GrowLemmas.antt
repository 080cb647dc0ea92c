-- Nodes that grow, and may become two.
use Rattle.std.proofs.Common.{◌≡◌, Bool, true, false, ℕ, suc, ◌+◌, ◌-◌, ◌≤◌, List, [], ◌∷◌, ◌++◌, length, take, drop, refl, sym, ap, subst, ◌∙◌}
use Rattle.std.proofs.Common.{arith, max, Some, None, length-append, length-take-le, length-drop, take-append-drop}
use Rattle.std.specs.Prelude.{Option, IsNone, if◌then◌else◌}
use Rattle.std.specs.List.{AllByRecursion}
use Rattle.std.proofs.lemmas.List.Elements.{All-from_recursion, recursion_from_All}
use Rattle.hm_types.specs.Elements.{Key}
use Rattle.hm_types.specs.Offset.{IsOffset}
use Rattle.hm_fields.specs.Pages.{PageMap}
use Rattle.hm_key.specs.Element.{IsElement}
use Rattle.hm_key.specs.Elements.{element_key, element_at, inserted, last_id, stands_before, IsContent}
use Rattle.hm_key.specs.declared.base.Base.{Base}
use Rattle.hm_key.specs.declared.element.Element.{Element}
use Rattle.hm_key.proofs.ElementLemmas.{each_inserted, content_inserted}
use Rattle.hm_node.specs.Inner.{IsChild}
use Rattle.hm_node.specs.Leaf.{IsUpTo}
use Rattle.hm_node.specs.declared.inner.Child.{Child}
use Rattle.hm_node.specs.declared.inner.Inner.{Inner}
use Rattle.hm_node.specs.declared.leaf.Leaf.{Leaf}
use Rattle.hm_node.specs.declared.node.Node.{Node}
use Rattle.hm_node.specs.declared.node.Node.TheVariants.{Leaf as leaf_node, Inner as inner_node}
use Rattle.hm_search.specs.Place.{IsInside, FitsCount, mirror_of}
use Rattle.hm_search.specs.Search.{holder_place}
use Rattle.hm_search.specs.Tree.{node_at, next_left, child_place, IsTree}
use Rattle.hm_search.specs.declared.subtree.Parent.{Parent}
use Rattle.hm_search.specs.declared.subtree.Subtree.{Subtree}
use Rattle.hm_search.proofs.ListLemmas.{each_so, each_append}
use Rattle.hm_search.proofs.ReachLemmas.{not_below_itself}
use Rattle.hm_btree.specs.Marking.{Marking, Writes}
use Rattle.hm_btree.specs.Edits.{leaf_of, inner_of, left_of, with_mirror}
use Rattle.hm_btree.specs.Space.{HasWritten, HasAdded, IsSpot}
use Rattle.hm_btree.specs.Below.{IsLocal, Changed, ChangedUnder}
use Rattle.hm_btree.specs.Grow.{Split, GrownTo, FirstAt, LeafBecomes, InnerBecomes}
use Rattle.hm_btree.specs.declared.upper.Upper.{Upper}
use Rattle.hm_btree.proofs.EditLemmas.{whole, child_inside, child_tree}
use Rattle.hm_btree.proofs.LeafLemmas.{changed_leaf, leaf_content, leaf_offsets}
use Rattle.hm_btree.proofs.MarkLemmas.{writes_leaf}
use Rattle.hm_btree.proofs.NodeLemmas.{changed_within, changed_above}
use Rattle.hm_btree.proofs.OrderLemmas.{each_front, each_back}
use Rattle.hm_btree.proofs.PairLemmas.{split_written}
use Rattle.hm_btree.proofs.SplitLemmas.{split_leaf, split_above}

-- a leaf with one more element
module _ (e : Element) (place : Subtree) (height : ℕ) (map : PageMap) (leaf after : Leaf) where
  abbrev pub grown : List Element
  grown = inserted e leaf.places.items

  abbrev pub raised : ℕ
  raised = max leaf.mirror (last_id e)

  module _ (tree : IsTree map height place (leaf_node leaf)) (inside : IsInside place.left place.right (element_key e))
      (lacks : IsNone (element_at (element_key e) leaf.places.items)) (is : IsElement e × IsOffset e.payload) where
    content : IsContent grown
    content = content_inserted e leaf.places.items is.0 lacks (leaf_content map height place leaf tree)

    offsets : AllByRecursion (λ x. IsOffset x.payload) grown
    offsets = each_inserted (λ x. IsOffset x.payload) e leaf.places.items is.1 (leaf_offsets map height place leaf tree)

    insides : AllByRecursion (λ x. IsInside place.left place.right (element_key x)) grown
    insides = each_inserted (λ x. IsInside place.left place.right (element_key x)) e leaf.places.items inside
        (recursion_from_All (λ x. IsInside place.left place.right (element_key x)) leaf.places.items tree.fits.bounds)

    uptos : AllByRecursion (IsUpTo raised) grown
    uptos = each_inserted (IsUpTo raised) e leaf.places.items (record { create = omega arith; delete = omega arith })
        (each_so (IsUpTo leaf.mirror) (IsUpTo raised) leaf.places.items (λ x up. record {
          create = omega (arith, up.create);
          delete = omega (arith, up.delete);
        }) (recursion_from_All (IsUpTo leaf.mirror) leaf.places.items tree.sound.mirror))

    some : (es : List Element) → 1 ≤ length (inserted e es)
    some [] = omega arith
    some (x ∷ xs) = by_test (stands_before (element_key e) x) where
      by_test : (b : Bool) → 1 ≤ length (if b then x ∷ inserted e xs else e ∷ x ∷ xs)
      by_test true = omega arith
      by_test false = omega arith

    count : (p : Option Parent) → FitsCount p (leaf_node (leaf_of raised grown))
    count None = tt
    count (Some q) = some leaf.places.items

    pub grown_leaf : (o : Option Upper) → LeafBecomes raised grown after o → GrownTo (inserted e) (element_key e)
        (Writes (last_id e)) place height map map (leaf_node leaf) (leaf_node after) o
    grown_leaf None becomes =
        subst (λ (l : Leaf). Changed (inserted e) (element_key e) (Writes (last_id e)) place height map map (leaf_node leaf) (leaf_node l)) (sym becomes.0)
        (changed_leaf (inserted e) (element_key e) (Writes (last_id e)) place height map leaf (leaf_of raised grown) tree refl
        content offsets insides uptos becomes.1 (count place.parent) (writes_leaf (element_key e) (last_id e) leaf.mirror raised refl))
    grown_leaf (Some upper) becomes = by_drop (drop n grown) refl becomes.4 becomes.5 where
      n : ℕ
      n = becomes.0

      by_drop : (l : List Element) → drop n grown ≡ l → upper.node ≡ leaf_node (leaf_of raised (drop n grown)) → FirstAt (drop n grown) upper.left
          → Split (inserted e) (element_key e) (Writes (last_id e)) place height map map (leaf_node leaf) (leaf_node after) upper.node upper.left
      by_drop [] cut node first = absurd (subst (λ (l : List Element). FirstAt l upper.left) cut first)
      by_drop (x ∷ hi) cut node first =
          let lo : List Element = take n grown in
          let parts : grown ≡ lo ++ x ∷ hi = sym (take-append-drop n grown) ∙ ap (λ (l : List Element). lo ++ l) cut in
          let low : length lo ≡ n = length-take-le n grown (omega (arith, becomes.1, becomes.2)) in
          let high : length (x ∷ hi) ≡ 64 - n = ap length (sym cut) ∙ length-drop n grown ∙ ap (λ (k : ℕ). k - n) becomes.2 in
          subst (λ (l : Leaf). Split (inserted e) (element_key e) (Writes (last_id e)) place height map map (leaf_node leaf)
          (leaf_node l) upper.node upper.left) (sym becomes.3)
          (subst (λ (n : Node). Split (inserted e) (element_key e) (Writes (last_id e)) place height map map (leaf_node leaf)
          (leaf_node (leaf_of raised lo)) n upper.left) (sym (node ∙ ap (λ (l : List Element). leaf_node (leaf_of raised l)) cut))
          (split_leaf (inserted e) (element_key e) (Writes (last_id e)) place height map leaf raised lo x hi upper.left tree
          (sym parts) (subst (λ (l : List Element). IsContent l) parts content)
          (subst (λ (l : List Element). AllByRecursion (λ y. IsOffset y.payload) l) parts offsets)
          (subst (λ (l : List Element). AllByRecursion (λ y. IsInside place.left place.right (element_key y)) l) parts insides)
          (subst (λ (l : List Element). AllByRecursion (IsUpTo raised) l) parts uptos)
          (omega (arith, low, becomes.1)) (omega (arith, low, becomes.1)) (omega (arith, high, becomes.1))
          (writes_leaf (element_key e) (last_id e) leaf.mirror raised refl)
          (subst (λ (l : List Element). FirstAt l upper.left) cut first)))

-- a node of which one child became two
module _ (key : Key) (place : Subtree) (height level mirror : ℕ) (right : Base) (old : PageMap) (pre : List Child) (c : Child)
    (post : List Child) (tree : IsTree old (suc height) place (whole key place height level mirror right old pre c post))
    (here : length pre ≡ holder_place key (pre ++ c ∷ post)) (inside : IsInside place.left place.right key) where
  pub grown_parent : (f : List Element → List Element) (marking : Marking) (mid new1 new2 : PageMap) (lower upper : Node)
      (b : Base) (a : ℕ) (inner' : Inner) (o : Option Upper) → IsLocal f key
      → Split f key marking (child_place level (next_left right post) c) height old mid (node_at old c.child) lower upper b
      → HasWritten c.child lower mid new1 → HasAdded a upper new1 new2 → IsSpot a
      → InnerBecomes level (max (max mirror (mirror_of lower)) (mirror_of upper))
      (pre ++ with_mirror (mirror_of lower) c ∷ record { left = b; child = a; mirror = mirror_of upper } ∷ post) right inner' o
      → GrownTo f key marking place (suc height) old new2 (whole key place height level mirror right old pre c post) (inner_node inner') o
  grown_parent f marking mid new1 new2 lower upper b a inner' o local split written added spot becomes =
      let children = recursion_from_All IsChild (pre ++ c ∷ post) tree.sound.fields.children in
      let one = (each_back IsChild pre (c ∷ post) children).0 in
      let stored = child_tree key place height level mirror right old pre c post tree here inside in
      let within = child_inside key place height level mirror right old pre c post tree here inside in
      let lc : Child = with_mirror (mirror_of lower) c in
      let uc : Child = record { left = b; child = a; mirror = mirror_of upper } in
      let segment = split_written f key marking level (next_left right post) height old mid new1 new2
      (child_place level (next_left right post) c) c lower upper b a one refl refl tree.level stored.there
      (not_below_itself old height (child_place level (next_left right post) c) (node_at old c.child) c.child stored.tree refl) split written added spot in
      let all = changed_within f key marking level right height old new2 local c lc [] (uc ∷ []) post pre children
      tree.sound.order tree.below within.from within.before segment in
      let long : length (pre ++ lc ∷ uc ∷ post) ≡ length (pre ++ c ∷ post) + 1 = omega (
        arith,
        length-append pre (lc ∷ uc ∷ post),
        length-append pre (c ∷ post),
      ) in
      let more : ℕ = max (max mirror (mirror_of lower)) (mirror_of upper) in
      finish f marking new2 inner' o more (pre ++ lc ∷ uc ∷ post) all (mirrors lower upper b a) long becomes where
        up : (m : ℕ) (cs : List Child) → mirror ≤ m → AllByRecursion (λ d. d.mirror ≤ mirror) cs → AllByRecursion (λ d. d.mirror ≤ m) cs
        up m cs low each = each_so (λ d. d.mirror ≤ mirror) (λ d. d.mirror ≤ m) cs (λ d le. omega (arith, le, low)) each

        mirrors : (lower upper : Node) (b : Base) (a : ℕ) → AllByRecursion (λ d. d.mirror ≤ max (max mirror (mirror_of lower))
            (mirror_of upper)) (pre ++ with_mirror (mirror_of lower) c ∷ record { left = b; child = a; mirror = mirror_of upper } ∷ post)
        mirrors lower upper b a =
            let m : ℕ = max (max mirror (mirror_of lower)) (mirror_of upper) in
            let each = recursion_from_All (λ d. d.mirror ≤ mirror) (pre ++ c ∷ post) tree.sound.mirror in
            each_append (λ d. d.mirror ≤ m) pre (with_mirror (mirror_of lower) c ∷ record {
              left = b;
              child = a;
              mirror = mirror_of upper;
            } ∷ post) (up m pre (omega arith) (each_front (λ d. d.mirror ≤ mirror) pre (c ∷ post) each))
            (omega arith, (omega arith, up m post (omega arith) (each_back (λ d. d.mirror ≤ mirror) pre (c ∷ post) each).1))

        counts : (p : Option Parent) (m : ℕ) (cs : List Child) → length cs ≡ length (pre ++ c ∷ post) + 1 → FitsCount p
            (whole key place height level mirror right old pre c post) → FitsCount p (inner_node (inner_of level m cs right))
        counts None m cs long count = tt
        counts (Some q) m cs long count = omega (arith, long, count)

        finish : (f : List Element → List Element) (marking : Marking) (new2 : PageMap) (inner' : Inner) (o : Option Upper)
            (more : ℕ) (cs : List Child) → ChangedUnder f key marking level right height old new2 (pre ++ c ∷ post) cs
            → AllByRecursion (λ d. d.mirror ≤ more) cs
            → length cs ≡ length (pre ++ c ∷ post) + 1 → InnerBecomes level more cs right inner' o → GrownTo f key marking place
            (suc height) old new2 (whole key place height level mirror right old pre c post) (inner_node inner') o
        finish f marking new2 inner' None more cs all each long becomes =
            subst (λ (x : Inner). Changed f key marking place (suc height) old new2 (whole key place height level mirror right old
            pre c post) (inner_node x)) (sym becomes.0)
            (changed_above f key marking place height old new2 level mirror more right (pre ++ c ∷ post) cs tree all
            (All-from_recursion (λ d. d.mirror ≤ more) cs each)
            (omega (arith, long)) becomes.1 (counts place.parent more cs long tree.fits.count))
        finish f marking new2 inner' (Some upper) more cs all each long becomes = by_drop (drop n cs) refl becomes.3 becomes.4 becomes.5 where
          n : ℕ
          n = becomes.0

          by_drop : (l : List Child) → drop n cs ≡ l → inner' ≡ inner_of level more (take n cs) (left_of (drop n cs) right)
              → upper.node ≡ inner_node (inner_of level more (drop n cs) right) → upper.left ≡ left_of (drop n cs) right
              → Split f key marking place (suc height) old new2 (whole key place height level mirror right old pre c post)
              (inner_node inner') upper.node upper.left
          by_drop [] cut inner node left = absurd (omega (arith, ap length (sym cut), length-drop n cs, becomes.1, becomes.2))
          by_drop (x ∷ hi) cut inner node left =
              let lo : List Child = take n cs in
              let parts : cs ≡ lo ++ x ∷ hi = sym (take-append-drop n cs) ∙ ap (λ (l : List Child). lo ++ l) cut in
              let low : length lo ≡ n = length-take-le n cs (omega (arith, becomes.1, becomes.2)) in
              let high : length (x ∷ hi) ≡ 63 - n = ap length (sym cut) ∙ length-drop n cs ∙ ap (λ (k : ℕ). k - n) becomes.2 in
              let begins : left_of (drop n cs) right ≡ x.left = ap (λ (l : List Child). left_of l right) cut in
              let was : Node = whole key place height level mirror right old pre c post in
              subst (λ (n : Inner). Split f key marking place (suc height) old new2 was (inner_node n) upper.node upper.left)
              (sym (inner ∙ ap (λ (r : Base). inner_of level more lo r) begins))
              (subst (λ (n : Node). Split f key marking place (suc height) old new2 was
              (inner_node (inner_of level more lo x.left)) n upper.left)
              (sym (node ∙ ap (λ (l : List Child). inner_node (inner_of level more l right)) cut))
              (subst (λ (r : Base). Split f key marking place (suc height) old new2 was
              (inner_node (inner_of level more lo x.left)) (inner_node (inner_of level more (x ∷ hi) right)) r) (sym (left ∙ begins))
              (split_above f key marking place height old new2 level mirror more right (pre ++ c ∷ post) lo x hi tree
              (subst (λ (l : List Child). ChangedUnder f key marking level right height old new2 (pre ++ c ∷ post) l) parts all)
              (subst (λ (l : List Child). AllByRecursion (λ d. d.mirror ≤ more) l) parts each)
              (omega (arith, low, becomes.1)) (omega (arith, low, becomes.1)) (omega (arith, high, becomes.1)) (omega (arith, high, becomes.1)))))
