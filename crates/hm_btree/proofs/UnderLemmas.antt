-- The pages under some children: which they are, and what stays where a map changes elsewhere.
use Rattle.std.proofs.Common.{◌≡◌, Bool, true, false, true≢false, ◌||◌, ℕ, zero, suc, inl, inr, List, [], ◌∷◌, ◌++◌, refl, sym, ap, subst, ◌∙◌}
use Rattle.std.specs.Prelude.{IsSome}
use Rattle.hm_types.specs.Elements.{Key}
use Rattle.hm_fields.specs.Pages.{PageMap}
use Rattle.hm_key.specs.declared.base.Base.{Base}
use Rattle.hm_node.specs.declared.inner.Child.{Child}
use Rattle.hm_node.specs.declared.node.Node.{Node}
use Rattle.hm_node.specs.declared.node.Node.TheVariants.{Leaf, Inner as inner_node}
use Rattle.hm_search.specs.Tree.{node_at, Reaches, next_left, child_place, IsTree, IsStoredTree}
use Rattle.hm_search.specs.declared.subtree.Subtree.{Subtree}
use Rattle.hm_search.proofs.ChildLemmas.{later_sorted}
use Rattle.hm_search.proofs.FrameLemmas.{IsSameBelow, IsSameUnder, frame_elements, frame_mark, frame_reaches, frame_each, frame_children}
use Rattle.hm_search.proofs.ReachLemmas.{is_under, or_right, fails, one_under, apart_children}
use Rattle.hm_btree.specs.Edits.{inner_of}
use Rattle.hm_btree.specs.Below.{Replaces, elements_under, mark_under, has_under, AreStored, AreRising}
use Rattle.hm_btree.proofs.OrderLemmas.{next_append}

-- an `or` that fails
pub or_false_left : (a b : Bool) → (a || b) ≡ false → a ≡ false
or_false_left true b is = absurd (true≢false is)
or_false_left false b is = refl

pub or_false_right : (a b : Bool) → (a || b) ≡ false → b ≡ false
or_false_right true b is = absurd (true≢false is)
or_false_right false b is = is

pub or_nil : (b : Bool) → (b || false) ≡ b
or_nil true = refl
or_nil false = refl

pub or_false : (a b : Bool) → a ≡ false → b ≡ false → (a || b) ≡ false
or_false a b first second = rw (first, second) refl

-- a page that is reached is there
pub reached_there : (map : PageMap) (height : ℕ) (s : Subtree) (node : Node) (x : ℕ) → IsTree map height s node → Reaches map height node x → IsSome (map x)
reached_there map zero s (Leaf leaf) x tree is = absurd (true≢false (sym is))
reached_there map zero s (inner_node inner) x tree is = absurd (true≢false (sym is))
reached_there map (suc height) s (Leaf leaf) x tree is = absurd tree.below
reached_there map (suc height) s (inner_node inner) x tree is =
    let one = one_under map height (IsStoredTree map height) x inner.level inner.right inner.places.items tree.below is in
    elim one.under [
      | inl here ↦ subst (λ (a : ℕ). IsSome (map a)) here one.fact.there
      | inr below ↦ reached_there map height one.place (node_at map one.place.at) x one.fact.tree below
    ]

module _ (map : PageMap) (height : ℕ) where
  pub under_there : (x level : ℕ) (right : Base) (cs : List Child) → AreStored map height level right cs → has_under map height cs x ≡ true → IsSome (map x)
  under_there x level right cs stored is =
      let one = one_under map height (IsStoredTree map height) x level right cs stored is in
      elim one.under [
        | inl here ↦ subst (λ (a : ℕ). IsSome (map a)) here one.fact.there
        | inr below ↦ reached_there map height one.place (node_at map one.place.at) x one.fact.tree below
      ]

  -- what is under the first child, or under the later ones
  pub first_apart : (x level : ℕ) (right : Base) (c : Child) (cs : List Child) → AreRising right (c ∷ cs)
      → AreStored map height level right (c ∷ cs) → is_under map height x c ≡ true → has_under map height cs x ≡ false
  first_apart x level right c cs rising stored here = apart_children map height x level right c cs rising stored here

  pub under_append : (x : ℕ) (cs ds : List Child) → has_under map height (cs ++ ds) x ≡ (has_under map height cs x || has_under map height ds x)
  under_append x [] ds = refl
  under_append x (c ∷ cs) ds = ap (λ (b : Bool). is_under map height x c || b) (under_append x cs ds) ∙ assoc (is_under map height x c) where
    assoc : (a : Bool) → (a || (has_under map height cs x || has_under map height ds x)) ≡ ((a || has_under map height cs x) || has_under map height ds x)
    assoc true = refl
    assoc false = refl

  -- what is under later children is under none before them
  pub later_apart : (x level : ℕ) (right : Base) (cs ds : List Child) → AreRising right (cs ++ ds) → AreStored map height level
      right (cs ++ ds) → has_under map height ds x ≡ true → has_under map height cs x ≡ false
  later_apart x level right [] ds rising stored is = refl
  later_apart x level right (c ∷ cs) ds rising stored is =
      or_false (is_under map height x c) (has_under map height cs x)
      (fails (is_under map height x c)
      (λ here. true≢false (sym (under_append x cs ds ∙ or_right (has_under map height cs x) (has_under map height ds x) is)
      ∙ apart_children map height x level right c (cs ++ ds) rising stored here)))
      (later_apart x level right cs ds (later_sorted right c (cs ++ ds) rising) stored.1 is)

  -- children and others after them
  pub stored_append : (level : ℕ) (right : Base) (cs ds : List Child) → AreStored map height level (next_left right ds) cs
      → AreStored map height level right ds → AreStored map height level right (cs ++ ds)
  stored_append level right [] ds first second = second
  stored_append level right (c ∷ cs) ds first second = (
    subst (λ (b : Base). IsStoredTree map height (child_place level b c)) (sym (next_append right cs ds)) first.0,
    stored_append level right cs ds first.1 second,
  )

  pub stored_front : (level : ℕ) (right : Base) (cs ds : List Child) → AreStored map height level right (cs ++ ds)
      → AreStored map height level (next_left right ds) cs
  stored_front level right [] ds stored = tt
  stored_front level right (c ∷ cs) ds stored =
      (subst (λ (b : Base). IsStoredTree map height (child_place level b c)) (next_append right cs ds) stored.0, stored_front level right cs ds stored.1)

  pub stored_back : (level : ℕ) (right : Base) (cs ds : List Child) → AreStored map height level right (cs ++ ds) → AreStored map height level right ds
  stored_back level right [] ds stored = stored
  stored_back level right (c ∷ cs) ds stored = stored_back level right cs ds stored.1

-- An inner node of children, in order to say of them what is known of nodes.
abbrev pub parent_of : Base → List Child → Node
parent_of right cs = inner_node (inner_of 0 0 cs right)

module _ (old new : PageMap) (height : ℕ) (right : Base) (cs : List Child) (under : IsSameUnder old new height cs) where
  below : IsSameBelow old new (suc height) (parent_of right cs)
  below = record { same = under.same }

  pub under_elements : elements_under new height cs ≡ elements_under old height cs
  under_elements = frame_elements old new (suc height) (parent_of right cs) below

  pub under_mark : (key : Key) → mark_under new height cs key ≡ mark_under old height cs key
  under_mark key = frame_mark old new key (suc height) (parent_of right cs) below

  pub under_has : (x : ℕ) → has_under new height cs x ≡ has_under old height cs x
  under_has x = frame_reaches old new x (suc height) (parent_of right cs) below

  pub under_stored : (level : ℕ) → AreStored old height level right cs → AreStored new height level right cs
  under_stored level stored = frame_each old new height (λ node same children. frame_children old new height node same children) level right cs under stored

-- pages that stay beside those on which a call works
module _ (old new : PageMap) where
  pub replaces_same : (olds news olds' news' : ℕ → Bool) → ((x : ℕ) → olds' x ≡ olds x) → ((x : ℕ) → news' x ≡ news x)
      → Replaces olds news old new → Replaces olds' news' old new
  replaces_same olds news olds' news' first second replaces = record {
    kept = λ x is there. replaces.kept x (sym (first x) ∙ is) there;
    rest = λ x there is. let more = replaces.rest x there (sym (second x) ∙ is) in (first x ∙ more.0, more.1);
    made = λ x is was. replaces.made x (sym (second x) ∙ is) (sym (first x) ∙ was);
    spots = replaces.spots;
  }

  pub replaces_front : (u olds news : ℕ → Bool) → Replaces olds news old new → Replaces (λ x. u x || olds x) (λ x. u x || news x) old new
  replaces_front u olds news replaces = record {
    kept = λ x is there. replaces.kept x (or_false_right (u x) (olds x) is) there;
    rest = λ x there is. let more = replaces.rest x there (or_false_right (u x) (news x) is) in
        (or_false (u x) (olds x) (or_false_left (u x) (news x) is) more.0, more.1);
    made = λ x is was. replaces.made x (later (u x) (news x) is (or_false_left (u x) (olds x) was)) (or_false_right (u x) (olds x) was);
    spots = replaces.spots;
  } where
    later : (a b : Bool) → (a || b) ≡ true → a ≡ false → b ≡ true
    later a b is not = rw not at is

  pub replaces_back : (u olds news : ℕ → Bool) → Replaces olds news old new → Replaces (λ x. olds x || u x) (λ x. news x || u x) old new
  replaces_back u olds news replaces =
      replaces_same (λ x. u x || olds x) (λ x. u x || news x) (λ x. olds x || u x) (λ x. news x || u x) (λ x. turn (olds x) (u x))
      (λ x. turn (news x) (u x)) (replaces_front u olds news replaces) where
        turn : (a b : Bool) → (a || b) ≡ (b || a)
        turn true true = refl
        turn true false = refl
        turn false true = refl
        turn false false = refl
