-- What reading a payload answers.
use Rattle.std.specs.Prelude.{◌≡◌, ℕ, ◌<◌, List, take}
use Rattle.hm_types.specs.declared.damage.TheConstants.{BAD_PAYLOAD}
use Rattle.hm_types.specs.declared.fault.Fault.{Fault}
use Rattle.hm_types.specs.declared.fault.Fault.TheVariants.{Media, Damaged, NoMemory}
use Rattle.hm_key.specs.Balance.{payload_of}
use Rattle.hm_key.specs.Extents.{Extent}
use Rattle.hm_key.specs.declared.element.Element.{Element}

-- the payload of an element stands at the front of a buffer
pub record IsReadInto (xs : List Extent) (e : Element) (buffer : List ℕ) (len : ℕ) : Type 0 where
  pub size : len ≡ e.len
  pub bytes : take len buffer ≡ payload_of xs e

-- a fault that tells damage tells it of the payload of this element, which is longer than a buffer
abbrev pub IsTooLong : Element → ℕ → Fault → Type 0
IsTooLong e most (Damaged at kind) = (at ≡ e.payload) × (kind ≡ BAD_PAYLOAD) × (most < e.len)
IsTooLong e most (Media before after) = Unit {0}
IsTooLong e most NoMemory = Unit {0}
