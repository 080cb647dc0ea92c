-- What an insertion finds and spends.
use Rattle.std.proofs.Common.{◌≡◌, Bool, true, false, ℕ, ◌+◌, ◌-◌, ◌*◌, ◌<◌, ◌≤◌, List, [], ◌∷◌, length, drop, get_or, ap, subst}
use Rattle.std.proofs.Common.{◌∙◌, arith, nat_eq, Some, length-drop, length-set}
use Rattle.std.specs.Prelude.{if◌then◌else◌, slice_index_or}
use Rattle.hm_key.specs.Key.{key_of, IsBoundary}
use Rattle.hm_key.specs.Elements.{element_key}
use Rattle.hm_types.specs.Space.{in_zone}
use Rattle.hm_key.specs.declared.base.Base.{Base}
use Rattle.hm_key.specs.declared.element.Element.{Element}
use Rattle.hm_types.specs.declared.counted.Counted.{Ghosts as Counts}
use Rattle.hm_key.specs.declared.room.HasRoom.{Ghosts as Rooms}
use Rattle.hm_types.specs.declared.zone.TheConstants.{TREE_ZONE}
use Rattle.hm_types.specs.declared.space.TheConstants.{INSERT_ROOM}
use Rattle.hm_node.specs.Node.{level_of, HasLevel}
use Rattle.hm_node.specs.declared.inner.Child.{Child}
use Rattle.hm_node.specs.declared.inner.Inner.{Inner}
use Rattle.hm_node.specs.declared.leaf.Leaf.{Leaf}
use Rattle.hm_node.specs.declared.node.Node.{Node}
use Rattle.hm_node.specs.declared.node.Node.TheVariants.{Leaf as leaf_node, Inner as inner_node}
use Rattle.hm_btree.specs.Edits.{lower_count, LeafGrown, LeavesBoth, ChildChange}
use Rattle.hm_btree.specs.Grow.{FirstAt, LeafBecomes}
use Rattle.hm_btree.specs.declared.space.TheConstants.{NODE_BYTES}
use Rattle.hm_btree.proofs.SpendLemmas.{SameRoom, Within}

-- both parts of a full node have as many places as a node below the root must have
pub both_many : (count at : ℕ) (ends : Bool) → 31 ≤ count → LeavesBoth (count + 1) (lower_count count at ends)
both_many count at true many = (omega arith, omega arith)
both_many count at false many = (omega arith, omega arith)

-- the first of some elements
pub first_at : (l : List Element) (x : Element) (b : Base) → 0 < length l → x ≡ get_or l 0 x → IsBoundary b (key_of x.base) → FirstAt l b
first_at [] x b some is bound = absurd (omega arith)
first_at (e ∷ es) x b some is bound = subst (λ (y : Element). IsBoundary b (element_key y)) is bound

-- a leaf that was cut in two, and its upper part
module _ (lower mirror : ℕ) (both : LeavesBoth 64 lower) (es : List Element) (after upper : Leaf)
    (grown : LeafGrown lower mirror es after (Some upper)) (xs : List Element) (same : xs ≡ upper.places.items) where
  whole : xs ≡ drop lower es
  whole = same ∙ ap (λ (l : Leaf). l.places.items) grown.1

  pub some_upper : 0 < length xs
  some_upper = omega (arith, ap length whole, length-drop lower es, grown.2, both)

  pub becomes_two : (x : Element) (b : Base) (node : Node) → x ≡ get_or xs 0 x → IsBoundary b (key_of x.base) → node ≡ leaf_node upper
      → LeafBecomes mirror es after (Some (record { left = b; node = node }))
  becomes_two x b node is bound here = (
    lower,
    both,
    grown.2,
    grown.0,
    here ∙ ap leaf_node grown.1,
    first_at (drop lower es) x b (omega (arith, length-drop lower es, grown.2, both)) (subst (λ (l : List Element). x ≡ get_or l 0 x) whole is) bound,
  )

-- a place after a child whose `mirror` was set
pub next_within : (change : Child → Child) (d : Child) (old new : List Child) (i : ℕ) → ChildChange change old i new → i < length old → i + 1 ≤ length new
next_within change d old new i items low = omega (arith, ap length (items d), length-set old i (change (slice_index_or old i d)))

-- an inner node has two levels at least
pub two_levels : (node : Node) (inner : Inner) → HasLevel node → node ≡ inner_node inner → 2 ≤ level_of node
two_levels node inner level is = let low = (subst HasLevel is level).0 in omega (arith, low, ap level_of is)

-- what one level more takes
pub one_more : (child level : ℕ) → child < level → 2 ≤ level → NODE_BYTES * (child - 1) + NODE_BYTES ≤ NODE_BYTES * (level - 1)
one_more child level less two = omega arith

-- bytes in one zone
zones_add : (zone n k m : ℕ) → n + k ≤ m → in_zone TREE_ZONE n zone + in_zone TREE_ZONE k zone ≤ in_zone TREE_ZONE m zone
zones_add zone n k m le = by_test (nat_eq zone TREE_ZONE) where
  by_test : (b : Bool) → (if b then n else 0) + (if b then k else 0) ≤ (if b then m else 0)
  by_test true = le
  by_test false = omega arith

module _ {S : Type 0} (c : Counts S) (g : Rooms S) where
  -- a call after another
  pub spends_add : (x y z : S) (n k m : ℕ) → n + k ≤ m → Within c g (in_zone TREE_ZONE n) x y → Within c g (in_zone TREE_ZONE k) y z
      → Within c g (in_zone TREE_ZONE m) x z
  spends_add x y z n k m le first second = record {
    name = second.name ∙ first.name;
    frame = second.frame ∙ first.frame;
    space = record {
      room = λ zone. omega (arith, first.space.room zone, second.space.room zone, zones_add zone n k m le);
      free = omega (arith, first.space.free, second.space.free);
    };
  }

  -- a call that spends nothing
  pub spends_none : (x y : S) (n : ℕ) → SameRoom g x y → c.name y ≡ c.name x → c.frame y ≡ c.frame x → Within c g (in_zone TREE_ZONE n) x y
  spends_none x y n same name frame = record {
    name = name;
    frame = frame;
    space = record {
      room = λ zone. omega (arith, ap (λ (f : ℕ → ℕ). f zone) same.0);
      free = omega (arith, same.1);
    };
  }

  -- the room that is left
  pub room_left : (x y : S) (n k m : ℕ) → Within c g (in_zone TREE_ZONE n) x y → n + k ≤ m → m ≤ g.room x TREE_ZONE → k ≤ g.room y TREE_ZONE
  room_left x y n k m spent le room = let zone : g.room x TREE_ZONE ≤ g.room y TREE_ZONE + n = spent.space.room TREE_ZONE in omega arith

-- what all levels below a root take
pub level_room : (node : Node) → HasLevel node → NODE_BYTES * (level_of node - 1) + NODE_BYTES * 2 ≤ INSERT_ROOM
level_room (leaf_node leaf) level = omega arith
level_room (inner_node inner) level = let most = level.1 in omega arith
