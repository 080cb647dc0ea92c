-- Calls that spend nothing.
use Rattle.std.proofs.Common.{◌≡◌, ◌∙◌, ℕ, ap, arith}
use Rattle.hm_types.specs.Space.{nothing}
use Rattle.hm_types.specs.declared.counted.Counted.{Ghosts as Counts}
use Rattle.hm_key.specs.declared.room.HasRoom.{Ghosts as Rooms}
use Rattle.hm_btree.specs.Calls.Space.{HasSpent}

-- the room, the free big-blocks and the extents stay
abbrev pub SameRoom : {S : Type 0} → Rooms S → S → S → Type 0
SameRoom g a b = (g.room b ≡ g.room a) × (g.free b ≡ g.free a) × (g.extents b ≡ g.extents a)

-- the space is the same, and so much of its room may be gone
abbrev pub Within : {S : Type 0} → Counts S → Rooms S → (ℕ → ℕ) → S → S → Type 0
Within c g most a b = HasSpent c.name c.frame g.room g.free most a b

module _ {S : Type 0} (c : Counts S) (g : Rooms S) where
  -- a call that keeps them, and is one of the same space with the same frame
  pub spends_nothing : (x y : S) → SameRoom g x y → c.name y ≡ c.name x → c.frame y ≡ c.frame x → Within c g nothing x y
  spends_nothing x y same name frame = record {
    name = name;
    frame = frame;
    space = record {
      room = λ zone. omega (arith, ap (λ (f : ℕ → ℕ). f zone) same.0);
      free = omega (arith, same.1);
    };
  }

  -- a call after another
  pub spends_both : (x y z : S) → Within c g nothing x y → Within c g nothing y z → Within c g nothing x z
  spends_both x y z first second = record {
    name = second.name ∙ first.name;
    frame = second.frame ∙ first.frame;
    space = record {
      room = λ zone. omega (arith, first.space.room zone, second.space.room zone);
      free = omega (arith, first.space.free, second.space.free);
    };
  }
