-- Two maps that agree on all that a node reaches have the same tree below it.
use Rattle.std.proofs.Common.{◌≡◌, Bool, true, false, ℕ, zero, suc, List, [], ◌∷◌, refl, sym, ap, subst, ◌∙◌, nat_eq, eq-eqb, if◌then◌else◌}
use Rattle.std.specs.Prelude.{Option}
use Rattle.std.specs.List.{AllByRecursion, flat_map, list_any}
use Rattle.hm_types.specs.Elements.{Key}
use Rattle.hm_fields.specs.Pages.{PageMap, page_in}
use Rattle.hm_key.specs.declared.base.Base.{Base}
use Rattle.hm_node.specs.Node.{node_in}
use Rattle.hm_node.specs.declared.inner.Child.{Child}
use Rattle.hm_node.specs.declared.node.Node.{Node}
use Rattle.hm_node.specs.declared.node.Node.TheVariants.{Leaf, Inner as inner_node}
use Rattle.hm_search.specs.Tree.{node_at, elements_in, mark_in, reaches, holder, at_holder, starts_after, next_left, child_place, places_of, HasChildren}
use Rattle.hm_search.specs.Tree.{IsTree, IsStoredTree}
use Rattle.hm_search.specs.declared.subtree.Subtree.{Subtree}
pub use Rattle.hm_search.specs.Reach.{IsSameBelow, IsSameUnder}
use Rattle.hm_search.specs.Reach.{is_under}
use Rattle.hm_search.proofs.ReachLemmas.{or_left, or_right}

module _ (old new : PageMap) (height : ℕ) where
  pub same_first : (c : Child) (cs : List Child) → IsSameUnder old new height (c ∷ cs) → new c.child ≡ old c.child
  same_first c cs under =
      let here : is_under old height c.child c ≡ true =
      or_left (nat_eq c.child c.child) (reaches old height (node_at old c.child) c.child) (eq-eqb c.child c.child refl) in
      under.same c.child (or_left (is_under old height c.child c) (list_any (is_under old height c.child) cs) here)

  pub same_below_first : (c : Child) (cs : List Child) → IsSameUnder old new height (c ∷ cs) → IsSameBelow old new height (node_at old c.child)
  same_below_first c cs under =
      record {
        same = λ x is. under.same x (or_left (is_under old height x c) (list_any (is_under old height x) cs)
            (or_right (nat_eq c.child x) (reaches old height (node_at old c.child) x) is));
      }

  pub same_later : (c : Child) (cs : List Child) → IsSameUnder old new height (c ∷ cs) → IsSameUnder old new height cs
  same_later c cs under = record { same = λ x is. under.same x (or_right (is_under old height x c) (list_any (is_under old height x) cs) is) }

-- what a function of a node below gives is the same at each child
module _ {A : Type 0} (old new : PageMap) (height : ℕ) (f : PageMap → Node → A)
    (same : (node : Node) → IsSameBelow old new height node → f new node ≡ f old node) where
  pub same_at_first : (c : Child) (cs : List Child) → IsSameUnder old new height (c ∷ cs) → f new (node_at new c.child) ≡ f old (node_at old c.child)
  same_at_first c cs under =
      ap (λ (o : Option (List ℕ)). f new (node_at (λ _. o) 0)) (same_first old new height c cs under)
      ∙ same (node_at old c.child) (same_below_first old new height c cs under)

pub under_all : (old new : PageMap) (height : ℕ) (cs : List Child) → ((x : ℕ) → list_any (is_under old height x) cs ≡ true → new x ≡ old x)
    → IsSameUnder old new height cs
under_all old new height cs same = record { same = same }

-- the elements below a node
pub frame_elements : (old new : PageMap) (height : ℕ) (node : Node) → IsSameBelow old new height node
    → elements_in new height node ≡ elements_in old height node
frame_elements old new zero (Leaf leaf) below = refl
frame_elements old new zero (inner_node inner) below = refl
frame_elements old new (suc height) (Leaf leaf) below = refl
frame_elements old new (suc height) (inner_node inner) below =
    each (λ node same. frame_elements old new height node same) inner.places.items (under_all old new height inner.places.items below.same) where
      each : ((node : Node) → IsSameBelow old new height node → elements_in new height node ≡ elements_in old height node)
          → (cs : List Child) → IsSameUnder old new height cs
          → flat_map (λ (c : Child). elements_in new height (node_at new c.child)) cs ≡ flat_map (λ (c : Child). elements_in old height (node_at old c.child))
          cs
      each same [] under = refl
      each same (c ∷ cs) under =
          rw (same_at_first old new height (λ map. elements_in map height) same c cs under, each same cs (same_later old new height c cs under)) refl

-- the child that holds a key gives the same
module _ (key : Key) (f g : Child → ℕ) where
  pub holder_same : (cs : List Child) → AllByRecursion (λ c. f c ≡ g c) cs → at_holder f key cs ≡ at_holder g key cs
  holder_same [] each = refl
  holder_same (c ∷ cs) each = go c cs each.0 each.1 where
    go : (c : Child) (cs : List Child) → f c ≡ g c → AllByRecursion (λ c. f c ≡ g c) cs → f (holder key c cs) ≡ g (holder key c cs)
    go c [] here later = here
    go c (d ∷ ds) here later = by_test (starts_after key d) (go d ds later.0 later.1) where
      by_test : (b : Bool) → f (holder key d ds) ≡ g (holder key d ds) → f (if b then c else holder key d ds) ≡ g (if b then c else holder key d ds)
      by_test true more = here
      by_test false more = more

-- the mark of a key
pub frame_mark : (old new : PageMap) (key : Key) (height : ℕ) (node : Node) → IsSameBelow old new height node
    → mark_in new height node key ≡ mark_in old height node key
frame_mark old new key zero (Leaf leaf) below = refl
frame_mark old new key zero (inner_node inner) below = refl
frame_mark old new key (suc height) (Leaf leaf) below = refl
frame_mark old new key (suc height) (inner_node inner) below =
    holder_same key (λ c. mark_in new height (node_at new c.child) key) (λ c. mark_in old height (node_at old c.child) key) inner.places.items
    (each (λ node same. frame_mark old new key height node same) inner.places.items (under_all old new height inner.places.items below.same)) where
      each : ((node : Node) → IsSameBelow old new height node → mark_in new height node key ≡ mark_in old height node key)
          → (cs : List Child) → IsSameUnder old new height cs
          → AllByRecursion (λ (c : Child). mark_in new height (node_at new c.child) key ≡ mark_in old height (node_at old c.child) key) cs
      each same [] under = tt
      each same (c ∷ cs) under =
          (same_at_first old new height (λ map node. mark_in map height node key) same c cs under, each same cs (same_later old new height c cs under))

-- which pages are reached
pub frame_reaches : (old new : PageMap) (x : ℕ) (height : ℕ) (node : Node) → IsSameBelow old new height node
    → reaches new height node x ≡ reaches old height node x
frame_reaches old new x zero (Leaf leaf) below = refl
frame_reaches old new x zero (inner_node inner) below = refl
frame_reaches old new x (suc height) (Leaf leaf) below = refl
frame_reaches old new x (suc height) (inner_node inner) below =
    each (λ node same. frame_reaches old new x height node same) inner.places.items (under_all old new height inner.places.items below.same) where
      each : ((node : Node) → IsSameBelow old new height node → reaches new height node x ≡ reaches old height node x)
          → (cs : List Child) → IsSameUnder old new height cs → list_any (is_under new height x) cs ≡ list_any (is_under old height x) cs
      each same [] under = refl
      each same (c ∷ cs) under =
          rw (same_at_first old new height (λ map node. reaches map height node x) same c cs under, each same cs (same_later old new height c cs under)) refl

-- a stored tree whose own page and all below it is the same
module _ (old new : PageMap) (height : ℕ)
    (sound : (node : Node) → IsSameBelow old new height node → HasChildren old height node → HasChildren new height node) where
  pub frame_stored_with : (s : Subtree) → new s.at ≡ old s.at → IsSameBelow old new height (node_at old s.at) → IsStoredTree old height s
      → IsStoredTree new height s
  frame_stored_with s same below stored =
      let page : page_in (new s.at) ≡ page_in (old s.at) = ap page_in same in
      let node : node_at new s.at ≡ node_at old s.at = ap node_in page in
      record {
        there = rw same stored.there;
        spelled = rw same stored.spelled;
        tree = subst (λ (n : Node). IsTree new height s n) (sym node)
            (record {
              sound = stored.tree.sound;
              level = stored.tree.level;
              fits = stored.tree.fits;
              below = sound
                  (node_at old s.at) below stored.tree.below;
            });
      }

  pub frame_each : (level : ℕ) (right : Base) (cs : List Child) → IsSameUnder old new height cs
      → AllByRecursion (IsStoredTree old height) (places_of level right cs) → AllByRecursion (IsStoredTree new height) (places_of level right cs)
  frame_each level right [] under each = tt
  frame_each level right (c ∷ cs) under each = (
    frame_stored_with (child_place level (next_left right cs) c) (same_first old new height c cs under) (same_below_first old new height c cs under) each.0,
    frame_each level right cs (same_later old new height c cs under) each.1,
  )

-- whether it is sound
pub frame_children : (old new : PageMap) (height : ℕ) (node : Node) → IsSameBelow old new height node → HasChildren old height node
    → HasChildren new height node
frame_children old new zero node below sound = tt
frame_children old new (suc height) (Leaf leaf) below sound = sound
frame_children old new (suc height) (inner_node inner) below sound =
    frame_each old new height (λ node same children. frame_children old new height node same children) inner.level inner.right inner.places.items
    (under_all old new height inner.places.items below.same) sound

pub frame_tree : (old new : PageMap) (height : ℕ) (s : Subtree) (node : Node) → IsSameBelow old new height node → IsTree old height s node
    → IsTree new height s node
frame_tree old new height s node below tree =
    record { sound = tree.sound; level = tree.level; fits = tree.fits; below = frame_children old new height node below tree.below }

pub frame_stored : (old new : PageMap) (height : ℕ) (s : Subtree) → new s.at ≡ old s.at → IsSameBelow old new height (node_at old s.at)
    → IsStoredTree old height s → IsStoredTree new height s
frame_stored old new height s same below stored =
    frame_stored_with old new height (λ node below children. frame_children old new height node below children) s same below stored
