-- A changed node: what is known of it once it is written, and of the node above it.
use Rattle.std.proofs.Common.{◌≡◌, Bool, true, false, true≢false, ◌||◌, ℕ, suc, ◌≤◌, List, [], ◌∷◌, ◌++◌, length, refl, sym, ap, subst}
use Rattle.std.proofs.Common.{◌∙◌, arith, nat_eq, Some, None, append-nil}
use Rattle.std.specs.Prelude.{Option, option_map, IsSome, is_some, All, if◌then◌else◌}
use Rattle.std.specs.List.{AllByRecursion}
use Rattle.std.specs.List.Sorted.{IsStrictlySortedBy}
use Rattle.std.proofs.lemmas.List.Elements.{All-from_recursion}
use Rattle.hm_types.specs.Elements.{Key}
use Rattle.hm_fields.specs.Pages.{PageMap, page_in, HasPut}
use Rattle.hm_key.specs.Key.{key_of, IsBefore, IsFrom}
use Rattle.hm_key.specs.declared.base.Base.{Base}
use Rattle.hm_key.specs.declared.element.Element.{Element}
use Rattle.hm_key.proofs.KeyLemmas.{key_from_before}
use Rattle.hm_node.specs.Inner.{IsChild}
use Rattle.hm_node.specs.Node.{node_in, level_of, Spells}
use Rattle.hm_node.specs.declared.inner.Child.{Child}
use Rattle.hm_node.specs.declared.node.Node.{Node}
use Rattle.hm_node.specs.declared.node.Node.TheVariants.{Inner as inner_node}
use Rattle.hm_search.specs.Place.{IsInside, BeginsAt, FitsLevel, FitsCount, FitsMirror, mirror_of}
use Rattle.hm_search.specs.Search.{begun, holder_place}
use Rattle.hm_search.specs.Tree.{node_at, elements_in, mark_in, reaches, starts_after, next_left, child_place, IsTree, IsStoredTree}
use Rattle.hm_search.specs.declared.subtree.Parent.{Parent}
use Rattle.hm_search.specs.declared.subtree.Subtree.{Subtree}
use Rattle.hm_search.proofs.ChildLemmas.{begins_before, later_sorted}
use Rattle.hm_search.proofs.FrameLemmas.{IsSameBelow, frame_elements, frame_mark, frame_reaches, frame_tree}
use Rattle.hm_search.proofs.ReachLemmas.{fails, not_below_itself}
use Rattle.hm_search.proofs.OrderLemmas.{before_is, from_is, from_trans}
use Rattle.hm_btree.specs.Marking.{Marking, MarksWithin}
use Rattle.hm_btree.specs.Edits.{inner_of, with_mirror}
use Rattle.hm_btree.specs.Below.{Replaces, mark_under, has_under, AreStored, AreRising, IsLocal, Changed, ChangedUnder}
use Rattle.hm_btree.proofs.OrderLemmas.{begins_left, each_back}
use Rattle.hm_btree.proofs.ChangeLemmas.{changed_later, changed_before}
use Rattle.hm_btree.proofs.MarkLemmas.{same_marks, marks_bounds}
use Rattle.hm_btree.proofs.PutLemmas.{put_at, put_other, replaces_put}
use Rattle.hm_btree.proofs.UnderLemmas.{replaces_same}

-- a page that a node reaches afterwards is not one that stood there and was not below it
module _ (old mid : PageMap) (height : ℕ) (was is : Node) (replaces : Replaces (reaches old height was) (reaches mid height is) old mid) where
  pub not_reached : (at : ℕ) → IsSome (old at) → reaches old height was at ≡ false → reaches mid height is at ≡ false
  not_reached at there not = fails (reaches mid height is at) (λ reached.
      true≢false (sym there ∙ ap (λ (o : Option (List ℕ)). is_some o) (replaces.made at reached not)))

-- a child whose node changed is written
module _ (f : List Element → List Element) (key : Key) (marking : Marking) (level : ℕ) (next : Base) (height : ℕ)
    (old mid new : PageMap) (c : Child) (after : Node) (page : List ℕ) where
  pub changed_written : IsChild c → IsBefore (key_of c.left) (key_of next) → IsStoredTree old height (child_place level next c)
      → Changed f key marking (child_place level next c) height old mid (node_at old c.child) after → Spells page after → HasPut c.child page mid new
      → ChangedUnder f key marking level next height old new (c ∷ []) (with_mirror (mirror_of after) c ∷ [])
  unfolding IsStrictlySortedBy
  changed_written child before stored change spells put =
      let was : Node = node_at old c.child in
      let itself : reaches old height was c.child ≡ false = not_below_itself old height (child_place level next c) was c.child stored.tree refl in
      let apart : reaches mid height after c.child ≡ false = not_reached old mid height was after change.pages c.child stored.there itself in
      let same : IsSameBelow mid new height after = record {
        same = λ x is. put_other c.child page mid new put x
            (λ one. true≢false (sym is ∙ ap (reaches mid height after) one ∙ apart));
      } in
      let there : new c.child ≡ Some page = put_at c.child page mid new put in
      let here : node_at new c.child ≡ after = ap (λ (o : Option (List ℕ)). node_in (page_in o)) there ∙ spells.value in
      let elements : elements_in new height (node_at new c.child) ≡ elements_in mid height after = ap (elements_in new height)
      here ∙ frame_elements mid new height after same in
      let marks : (k : Key) → mark_in new height (node_at new c.child) k ≡ mark_in mid height after k =
      λ k. ap (λ (n : Node). mark_in new height n k) here ∙ frame_mark mid new k height after same in
      let reached : (x : ℕ) → reaches new height (node_at new c.child) x ≡ reaches mid height after x =
      λ x. ap (λ (n : Node). reaches new height n x) here ∙ frame_reaches mid new x height after same in
      record {
        stored = (
          record {
            there = rw there refl;
            spelled = subst (λ (o : Option (List ℕ)). Spells (page_in o) (node_in (page_in o))) (sym there)
                (subst (λ (n : Node). Spells page n) (sym spells.value) spells);
            tree = subst (λ (n : Node). IsTree new height (child_place level next (with_mirror (mirror_of after) c)) n) (sym here)
                (frame_tree mid new height (child_place level next (with_mirror (mirror_of after) c)) after same change.tree);
          },
          tt,
        );
        elements = append-nil (elements_in new height (node_at new c.child)) ∙ elements ∙ change.elements
            ∙ ap f (sym (append-nil (elements_in old height was)));
        mark = same_marks (MarksWithin marking key c.left next (mark_in old height was)) (mark_in mid height after)
            (mark_in new height (node_at new c.child)) marks change.mark;
        pages = replaces_same old new (λ x. nat_eq c.child x || reaches old height was x) (λ x. nat_eq c.child x || reaches mid height after x)
            (has_under old height (c ∷ [])) (has_under new height (with_mirror (mirror_of after) c ∷ []))
            (λ x. or_nil (nat_eq c.child x || reaches old height was x))
            (λ x. or_nil (nat_eq c.child x || reaches new height (node_at new c.child) x) ∙ ap (λ (b : Bool). nat_eq c.child x || b) (reached x))
            (replaces_put c.child page (reaches old height was) (reaches mid height after) old mid new put stored.there change.pages);
        left = refl;
        rising = ((before, tt), (tt, tt));
        fields = (record { left = child.left; child = child.child }, tt);
      } where
        or_nil : (b : Bool) → (b || false) ≡ b
        or_nil true = refl
        or_nil false = refl

-- The child whose boundaries hold a key: it is that of `holder_place`.
pub holder_inside : (key : Key) (right : Base) (pre : List Child) (c : Child) (post : List Child) → length pre ≡ holder_place key
    (pre ++ c ∷ post) → IsFrom (key_of (next_left right (pre ++ c ∷ post))) key → IsBefore key (key_of right)
    → IsInside c.left (next_left right post) key
holder_inside key right [] c [] here from before = record { from = from; before = before }
holder_inside key right [] c (d ∷ ds) here from before = by_test (starts_after key d) refl here where
  by_test : (b : Bool) → starts_after key d ≡ b → 0 ≡ (if b then 0 else suc (begun key ds)) → IsInside c.left d.left key
  by_test true is here = record { from = from; before = before_is key (key_of d.left) is }
  by_test false is here = absurd (omega arith)
holder_inside key right (p ∷ []) c post here from before = by_test (starts_after key c) refl here
    (λ zero from. holder_inside key right [] c post zero from before) where
      by_test : (b : Bool) → starts_after key c ≡ b → 1 ≡ (if b then 0 else suc (begun key post))
          → (0 ≡ begun key post → IsFrom (key_of c.left) key → IsInside c.left (next_left right post) key) → IsInside c.left (next_left right post) key
      by_test true is here more = absurd (omega arith)
      by_test false is here more = more (omega arith) (from_is key (key_of c.left) is)
holder_inside key right (p ∷ q ∷ qs) c post here from before = by_test (starts_after key q) refl here
    (λ one from. holder_inside key right (q ∷ qs) c post one from before) where
      by_test : (b : Bool) → starts_after key q ≡ b → suc (suc (length qs)) ≡ (if b then 0 else suc (begun key (qs ++ c ∷ post)))
          → (suc (length qs) ≡ begun key (qs ++ c ∷ post) → IsFrom (key_of q.left) key → IsInside c.left (next_left right post) key)
          → IsInside c.left (next_left right post) key
      by_test true is here more = absurd (omega arith)
      by_test false is here more = more (omega arith) (from_is key (key_of q.left) is)

-- all the way from the first child on
module _ (f : List Element → List Element) (key : Key) (marking : Marking) (level : ℕ) (right : Base) (height : ℕ)
    (old new : PageMap) (local : IsLocal f key) (b c : Child) (bs cs ds : List Child) where
  -- the first child of some begins at or before the key
  first_by : (q : Child) (qs : List Child) → AreRising right (q ∷ (qs ++ ((b ∷ bs) ++ ds))) → IsFrom (key_of b.left) key → IsFrom (key_of q.left) key
  first_by q [] rising from = from_trans (key_of q.left) (key_of b.left) key (key_from_before (key_of q.left) (key_of b.left)
      (begins_before right q ((b ∷ bs) ++ ds) rising)) from
  first_by q (p ∷ ps) rising from =
      from_trans (key_of q.left) (key_of p.left) key (key_from_before (key_of q.left) (key_of p.left)
      (begins_before right q ((p ∷ ps) ++ ((b ∷ bs) ++ ds)) rising))
      (first_by p ps (later_sorted right q ((p ∷ ps) ++ ((b ∷ bs) ++ ds)) rising) from)

  pub changed_within : (pre : List Child) → AllByRecursion IsChild (pre ++ ((b ∷ bs) ++ ds)) → AreRising right
      (pre ++ ((b ∷ bs) ++ ds)) → AreStored old height level right (pre ++ ((b ∷ bs) ++ ds))
      → IsFrom (key_of b.left) key → IsBefore key (key_of (next_left right ds)) → ChangedUnder f key marking level
      (next_left right ds) height old new (b ∷ bs) (c ∷ cs)
      → ChangedUnder f key marking level right height old new (pre ++ ((b ∷ bs) ++ ds)) (pre ++ ((c ∷ cs) ++ ds))
  changed_within [] children rising stored from before change =
      changed_before f key marking level right height old new local b c bs cs ds (each_back IsChild (b ∷ bs) ds children) rising stored before change
  changed_within (p ∷ []) children rising stored from before change =
      changed_later f key marking level right height old new local p b c (bs ++ ds) (cs ++ ds) children.0 rising stored from
      (changed_within [] children.1 (later_sorted right p ((b ∷ bs) ++ ds) rising) stored.1 from before change)
  changed_within (p ∷ q ∷ qs) children rising stored from before change =
      let later = later_sorted right p ((q ∷ qs) ++ ((b ∷ bs) ++ ds)) rising in
      changed_later f key marking level right height old new local p q q (qs ++ ((b ∷ bs) ++ ds)) (qs ++ ((c ∷ cs) ++ ds))
      children.0 rising stored (first_by q qs later from)
      (changed_within (q ∷ qs) children.1 later stored.1 from before change)

-- what a parent says of a node whose `mirror` it has
module _ (node : Node) where
  abbrev pub with_its : Option Parent → Option Parent
  with_its p = option_map (λ (q : Parent). record q { mirror = mirror_of node }) p

  pub placed_level : (p : Option Parent) (before : Node) → level_of node ≡ level_of before → FitsLevel p before → FitsLevel (with_its p) node
  placed_level None before same fits = tt
  placed_level (Some q) before same fits = omega (arith, same, fits)

  pub placed_count : (p : Option Parent) → FitsCount p node → FitsCount (with_its p) node
  placed_count None fits = tt
  placed_count (Some q) fits = fits

  pub placed_mirror : (p : Option Parent) → FitsMirror (with_its p) node
  placed_mirror None = tt
  placed_mirror (Some q) = refl

-- The node above children that changed.
module _ (f : List Element → List Element) (key : Key) (marking : Marking) (place : Subtree) (height : ℕ) (old new : PageMap)
    (level mirror more : ℕ) (right : Base) (before after : List Child) where
  abbrev pub was : Node
  was = inner_node (inner_of level mirror before right)

  abbrev pub is : Node
  is = inner_node (inner_of level more after right)

  begins : next_left right after ≡ next_left right before → (1 ≤ length before) → (1 ≤ length after) → BeginsAt place.left before → BeginsAt place.left after
  begins same first second at = by_lists before after same first second at where
    by_lists : (bs cs : List Child) → next_left right cs ≡ next_left right bs → 1 ≤ length bs → 1 ≤ length cs → BeginsAt place.left bs → BeginsAt place.left cs
    by_lists [] cs same first second at = absurd (omega arith)
    by_lists (b ∷ bs) [] same first second at = absurd (omega arith)
    by_lists (b ∷ bs) (c ∷ cs) same first second at = ap key_of same ∙ at

  pub changed_above : IsTree old (suc height) place was → ChangedUnder f key marking level right height old new before after → All (λ c. c.mirror ≤ more) after
      → 1 ≤ length after → length after ≤ 62 → FitsCount place.parent is → Changed f key marking place (suc height) old new was is
  changed_above tree change mirrors some few count = record {
    tree = record {
      sound = record {
        level = tree.sound.level;
        count = (some, few);
        order = change.rising;
        fields = record { children = All-from_recursion IsChild after change.fields; right = tree.sound.fields.right };
        mirror = mirrors;
      };
      level = tree.level;
      fits = record {
        level = placed_level is place.parent was refl tree.fits.level;
        count = placed_count is place.parent count;
        bounds = (begins change.left tree.sound.count.0 some tree.fits.bounds.0, tree.fits.bounds.1);
        mirror = placed_mirror is place.parent;
      };
      below = change.stored;
    };
    elements = change.elements;
    mark = marks_bounds marking key (next_left right before) place.left right place.right (mark_under old height before)
        (mark_under new height after) (begins_left place.left right before tree.fits.bounds.0) tree.fits.bounds.1 change.mark;
    pages = change.pages;
  }
