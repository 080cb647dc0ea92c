-- What a node that stands elsewhere makes of pages that may be told.
use Rattle.std.proofs.Common.{◌≡◌, ◌≢◌, ◌≤◌, Err, Bool, true, false, true≢false, ℕ, List, refl, sym, ap, subst, ◌∙◌, nat_eq, eqb-true, arith, Some, None}
use Rattle.std.specs.Prelude.{Option, option_map, IsSome, is_some, IfSome, slice_get, ◌==◌, if◌then◌else◌}
use Rattle.hm_types.specs.Elements.{Key}
use Rattle.hm_types.specs.Faults.{HasStoreCause}
use Rattle.hm_types.specs.Told.{BothTell}
use Rattle.hm_types.specs.declared.fault.Fault.{Fault}
use Rattle.hm_fields.specs.Pages.{PageMap, HasPut}
use Rattle.hm_key.specs.Key.{greatest_key, least_key, IsBefore}
use Rattle.hm_key.proofs.KeyLemmas.{key_from_fields}
use Rattle.hm_key.specs.declared.element.Element.{Element}
use Rattle.hm_node.specs.declared.inner.Inner.{Inner}
use Rattle.hm_node.specs.declared.node.Node.{Node}
use Rattle.hm_node.specs.declared.node.Node.TheVariants.{Inner as inner_node}
use Rattle.hm_search.specs.Descent.{HasSearchCause}
use Rattle.hm_search.specs.Place.{IsInside}
use Rattle.hm_search.specs.Tree.{node_at, children_of, height_of, root_place, IsTree}
use Rattle.hm_search.specs.declared.subtree.Subtree.{Subtree}
use Rattle.hm_search.proofs.DamageLemmas.{caused_since}
use Rattle.hm_btree.specs.Below.{SpellsAt}
use Rattle.hm_btree.specs.Calls.Move.{Exchanges}
use Rattle.hm_btree.specs.Marking.{Leaves}
use Rattle.hm_btree.specs.Space.{HasAdded, HasLost, IsSpot, IsUpdated}
use Rattle.hm_btree.specs.Tree.{IsTreeSpace, ChangesTree}
use Rattle.hm_btree.proofs.EditLemmas.{stored_below, tree_read}
use Rattle.hm_btree.proofs.MoveLemmas.{root_moved, moved_there}
use Rattle.hm_btree.proofs.ToldLemmas.{IfSome_both}
use Rattle.hm_btree.proofs.PutLemmas.{put_at, put_other, lost_at, lost_other, same_test, other_test}

-- a page that is there stays when another one comes
pub there_added : (p0 p1 p2 : Option PageMap) (at to : ℕ) (node : Node) → p1 ≡ p0 → IfSome p0 (λ map. IsSome (map at))
    → BothTell p1 p2 (HasAdded to node) → IfSome p2 (λ map. IsSome (map at))
there_added p0 p1 p2 at to node same there added = by_told p0 p2 there (subst (λ (p : Option PageMap). BothTell p p2 (HasAdded to node)) same added) where
  by_told : (p q : Option PageMap) → IfSome p (λ map. IsSome (map at)) → BothTell p q (HasAdded to node) → IfSome q (λ map. IsSome (map at))
  by_told None None there added = tt
  by_told None (Some new) there added = absurd added
  by_told (Some old) None there added = tt
  by_told (Some old) (Some new) there (page, spells, come) = by_test (at == to) (come.put at) where
    by_test : (b : Bool) → new at ≡ (if b then Some page else old at) → IsSome (new at)
    by_test true is = rw is refl
    by_test false is = rw is there

-- a page came, and the other one went
exchanged : (at to : ℕ) (node : Node) (old mid new : PageMap) → IsSome (old at) → IsSpot to → HasAdded to node old mid → HasLost at mid new
    → Exchanges at to old new
exchanged at to node old mid new there spot (page, spells, come) lost = record {
  free = come.free;
  spot = spot;
  there = rw (moved_there old mid new at to page there come lost) refl;
  gone = lost_at at mid new lost;
  others = λ x apart other. ap (λ (o : Option (List ℕ)). is_some o) (lost_other at mid new lost x apart ∙ put_other to page old mid come.put x other);
}

-- then a page was written, or not, that stood there before
exchanged_put : (at to x : ℕ) (page : List ℕ) (old mid new : PageMap) → IsSome (old x) → x ≢ at → Exchanges at to old mid → HasPut x page mid new
    → Exchanges at to old new
exchanged_put at to x page old mid new there apart exchange put = record {
  free = exchange.free;
  spot = exchange.spot;
  there = by_side to (nat_eq to x) refl exchange.there;
  gone = put_other x page mid new put at (λ same. apart (sym same)) ∙ exchange.gone;
  others = λ y first second. by_other y (nat_eq y x) refl (exchange.others y first second);
} where
  by_side : (y : ℕ) (b : Bool) → nat_eq y x ≡ b → IsSome (mid y) → IsSome (new y)
  by_side y true is some = subst (λ (a : ℕ). IsSome (new a)) (sym (eqb-true y x is)) (rw (put_at x page mid new put) refl)
  by_side y false is some = subst (λ (o : Option (List ℕ)). IsSome o)
      (sym (put_other x page mid new put y (λ same. true≢false (sym (subst (λ (a : ℕ). nat_eq a x ≡ true) (sym same) (same_test x)) ∙ is)))) some

  by_other : (y : ℕ) (b : Bool) → nat_eq y x ≡ b → is_some (mid y) ≡ is_some (old y) → is_some (new y) ≡ is_some (old y)
  by_other y true is same = by_side y true is (same ∙ subst (λ (a : ℕ). IsSome (old a)) (sym (eqb-true y x is)) there) ∙ sym
      (subst (λ (a : ℕ). IsSome (old a)) (sym (eqb-true y x is)) there)
  by_other y false is same = ap (λ (o : Option (List ℕ)). is_some o)
      (put_other x page mid new put y (λ one. true≢false (sym (subst (λ (a : ℕ). nat_eq a x ≡ true) (sym one) (same_test x)) ∙ is))) ∙ same

exchanged_updated : (changed : Bool) (at to x : ℕ) (node : Node) (old mid new : PageMap) → IsSome (old x) → x ≢ at → Exchanges at to old mid
    → IsUpdated changed x node mid new → Exchanges at to old new
exchanged_updated true at to x node old mid new there apart exchange (page, spells, put) = exchanged_put at to x page old mid new there apart exchange put
exchanged_updated false at to x node old mid new there apart exchange same = subst (λ (map : PageMap). Exchanges at to old map) (sym same) exchange

-- the same where the pages are told: of a child of a node
module _ (node : Node) (inner : Inner) (i : ℕ) (s : Subtree) (child : Node) (is : node ≡ inner_node inner) (at : slice_get (children_of inner) i ≡ Some s) where
  pub child_exchanged : (gone to : ℕ) (p0 p1 p2 p3 : Option PageMap) → p1 ≡ p0 → s.at ≡ gone → IsSpot to → BothTell p1 p2 (HasAdded to child)
      → BothTell p2 p3 (HasLost gone)
      → IfSome p0 (λ was. (place : Subtree) (height : ℕ) → IsTree was height place node → IfSome p3 (Exchanges gone to was))
  child_exchanged gone to p0 p1 p2 p3 same here spot added lost = by_told p0 p2 p3
      (subst (λ (p : Option PageMap). BothTell p p2 (HasAdded to child)) same added) lost where
        by_told : (p q r : Option PageMap) → BothTell p q (HasAdded to child) → BothTell q r (HasLost gone)
            → IfSome p (λ was. (place : Subtree) (height : ℕ) → IsTree was height place node → IfSome r (Exchanges gone to was))
        by_told None q r added lost = tt
        by_told (Some old) None r added lost = absurd added
        by_told (Some old) (Some mid) None added lost = absurd lost
        by_told (Some old) (Some mid) (Some new) added lost = λ place height tree.
            let below = stored_below old height place node inner i s tree is at in
            exchanged gone to child old mid new (subst (λ (a : ℕ). IsSome (old a)) here below.stored.there) spot added lost

  -- and of a node further down
  pub below_exchanged : (gone to : ℕ) (changed : Bool) (after : Node) (p0 p1 p2 p3 : Option PageMap) → p1 ≡ p0 → s.at ≢ gone
      → IfSome p0 (λ map. SpellsAt map s child)
      → IfSome p1 (λ was. (place : Subtree) (height : ℕ) → IsTree was height place child → IfSome p2 (Exchanges gone to was))
      → BothTell p2 p3 (IsUpdated changed s.at after)
      → IfSome p0 (λ was. (place : Subtree) (height : ℕ) → IsTree was height place node → IfSome p3 (Exchanges gone to was))
  below_exchanged gone to changed after p0 p1 p2 p3 same apart here exchange written =
      by_told p0 p2 p3 here (subst (λ (p : Option PageMap). IfSome p
      (λ was. (place : Subtree) (height : ℕ) → IsTree was height place child → IfSome p2 (Exchanges gone to was))) same exchange) written where
        by_told : (p q r : Option PageMap) → IfSome p (λ map. SpellsAt map s child)
            → IfSome p (λ was. (place : Subtree) (height : ℕ) → IsTree was height place child → IfSome q (Exchanges gone to was))
            → BothTell q r (IsUpdated changed s.at after) → IfSome p
            (λ was. (place : Subtree) (height : ℕ) → IsTree was height place node → IfSome r (Exchanges gone to was))
        by_told None q r here exchange written = tt
        by_told (Some old) None None here exchange written = λ place height tree. tt
        by_told (Some old) None (Some new) here exchange written = absurd written
        by_told (Some old) (Some mid) None here exchange written = λ place height tree. tt
        by_told (Some old) (Some mid) (Some new) here exchange written = λ place height tree.
            let below = stored_below old height place node inner i s tree is at in
            exchanged_updated changed gone to s.at after old mid new below.stored.there apart
            (exchange s below.lower (tree_read old below.lower s child below.stored here)) written

-- of the root
module _ (root to : ℕ) (node : Node) where
  pub root_moves : (key : Key) (p0 p1 p2 p3 : Option PageMap) → p1 ≡ p0 → IfSome p0 (λ map. SpellsAt map (root_place root) node) → IsSpot to
      → BothTell p1 p2 (HasAdded to node) → BothTell p2 p3 (HasLost root) → ChangesTree (λ es. es) key Leaves (λ _. Unit {0}) p0 p3 root to
  root_moves key p0 p1 p2 p3 same here spot added lost = by_told p0 p2 p3 here
      (subst (λ (p : Option PageMap). BothTell p p2 (HasAdded to node)) same added) lost where
        by_told : (p q r : Option PageMap) → IfSome p (λ map. SpellsAt map (root_place root) node) → BothTell p q (HasAdded to node)
            → BothTell q r (HasLost root)
            → ChangesTree (λ es. es) key Leaves (λ _. Unit {0}) p r root to
        by_told None q r here added lost = tt
        by_told (Some old) None r here added lost = absurd added
        by_told (Some old) (Some mid) None here added lost = absurd lost
        by_told (Some old) (Some mid) (Some new) here added lost = λ tree needs.
            root_moved key root to old mid new tree spot (subst (λ (n : Node). HasAdded to n old mid) (sym (here tree.sound.there).value) added) lost

  pub root_exchanged : (p0 p1 p2 p3 : Option PageMap) → p1 ≡ p0 → IsSpot to → BothTell p1 p2 (HasAdded to node) → BothTell p2 p3 (HasLost root)
      → IfSome p0 (λ was. IsTreeSpace was root → IfSome p3 (Exchanges root to was))
  root_exchanged p0 p1 p2 p3 same spot added lost = by_told p0 p2 p3 (subst (λ (p : Option PageMap). BothTell p p2 (HasAdded to node)) same added) lost where
    by_told : (p q r : Option PageMap) → BothTell p q (HasAdded to node) → BothTell q r (HasLost root)
        → IfSome p (λ was. IsTreeSpace was root → IfSome r (Exchanges root to was))
    by_told None q r added lost = tt
    by_told (Some old) None r added lost = absurd added
    by_told (Some old) (Some mid) None added lost = absurd lost
    by_told (Some old) (Some mid) (Some new) added lost = λ tree. exchanged root to node old mid new tree.sound.there spot added lost

  -- and of a node below it
  pub tree_exchanged : (gone : ℕ) (changed : Bool) (after : Node) (p0 p1 p2 p3 : Option PageMap) → p1 ≡ p0 → root ≢ gone
      → IfSome p0 (λ map. SpellsAt map (root_place root) node)
      → IfSome p1 (λ was. (place : Subtree) (height : ℕ) → IsTree was height place node → IfSome p2 (Exchanges gone to was))
      → BothTell p2 p3 (IsUpdated changed root after)
      → IfSome p0 (λ was. IsTreeSpace was root → IfSome p3 (Exchanges gone to was))
  tree_exchanged gone changed after p0 p1 p2 p3 same apart here exchange written =
      by_told p0 p2 p3 here (subst (λ (p : Option PageMap). IfSome p
      (λ was. (place : Subtree) (height : ℕ) → IsTree was height place node → IfSome p2 (Exchanges gone to was))) same exchange) written where
        by_told : (p q r : Option PageMap) → IfSome p (λ map. SpellsAt map (root_place root) node)
            → IfSome p (λ was. (place : Subtree) (height : ℕ) → IsTree was height place node → IfSome q (Exchanges gone to was))
            → BothTell q r (IsUpdated changed root after)
            → IfSome p (λ was. IsTreeSpace was root → IfSome r (Exchanges gone to was))
        by_told None q r here exchange written = tt
        by_told (Some old) None None here exchange written = λ tree. tt
        by_told (Some old) None (Some new) here exchange written = absurd written
        by_told (Some old) (Some mid) None here exchange written = λ tree. tt
        by_told (Some old) (Some mid) (Some new) here exchange written = λ tree.
            exchanged_updated changed gone to root after old mid new tree.sound.there apart
            (exchange (root_place root) (height_of (node_at old root))
            (subst (λ (n : Node). IsTree old (height_of (node_at old root)) (root_place root) n) (here tree.sound.there).value tree.sound.tree)) written

-- a key before the greatest one lies inside the boundaries of the whole tree
pub inside_whole : (root : ℕ) (key : Key) → IsBefore key greatest_key → IsInside (root_place root).left (root_place root).right key
inside_whole root key before = record {
  from = key_from_fields least_key key (omega arith) (omega arith) (omega arith) (omega arith) (omega arith);
  before = before;
}

-- the root that a tree has then
pub same_root : (root to : ℕ) → to ≡ (if nat_eq root root then to else root)
same_root root to = rw (same_test root) refl

pub apart_root : (at root to : ℕ) → root ≢ at → root ≡ (if nat_eq at root then to else root)
apart_root at root to apart = rw (other_test at root (λ same. apart (sym same))) refl

-- a fault of a search in a sound tree tells of no damage
pub cause_in_sound : {T U : Type 0} (told : Option PageMap) (root old mid new : ℕ) (fault : Fault) → old ≤ mid → IfSome told (λ map. IsTreeSpace map root)
    → HasSearchCause {T = T} told (root_place root) mid new (Err fault) → HasStoreCause {T = U} told old new (Err fault)
cause_in_sound told root old mid new fault low tree cause = record {
  counted = record { never_falls = omega (arith, cause.counted.never_falls); caused = caused_since old mid new fault low cause.counted.caused };
  undamaged = IfSome_both told tree cause.undamaged (λ map tree none. none (height_of (node_at map root)) tree.sound);
}

-- what is told stays
pub told_same : (o : Option (List Element)) → option_map (λ (es : List Element). es) o ≡ o
told_same None = refl
told_same (Some es) = refl
