-- What is broken in a page that spells no node.
use Rattle.std.specs.Prelude.{◌≡◌, ℕ, ◌<◌, List}
use Rattle.hm_types.specs.declared.damage.TheConstants.{BAD_LEVEL, BAD_COUNT, BAD_ORDER, BAD_FIELD, BAD_MIRROR}
use Rattle.hm_types.specs.declared.fault.Fault.{Fault}
use Rattle.hm_types.specs.declared.fault.Fault.TheVariants.{Damaged}
use Rattle.hm_node.specs.Node.{node_in, HasLevel, HasCount, HasOrder, HasFields, HasMirror, SaysLevel, HasZeros}
use Rattle.hm_node.specs.declared.rule.Rule.{Rule}
use Rattle.hm_node.specs.declared.rule.Rule.TheVariants.{Level, Count, Order, Fields, Mirror}

-- the number under which a broken rule is told
abbrev pub number_of : Rule → ℕ
number_of Level = BAD_LEVEL
number_of Count = BAD_COUNT
number_of Order = BAD_ORDER
number_of Fields = BAD_FIELD
number_of Mirror = BAD_MIRROR

-- the page keeps the rule
abbrev pub Keeps : List ℕ → Rule → Type 0
Keeps page Level = SaysLevel page (node_in page) × HasLevel (node_in page)
Keeps page Count = HasCount (node_in page)
Keeps page Order = HasOrder (node_in page)
Keeps page Fields = HasFields (node_in page) × HasZeros page (node_in page)
Keeps page Mirror = HasMirror (node_in page)

-- the rule is broken, and no rule with a lower number is
pub record IsFirstBroken (page : List ℕ) (rule : Rule) : Type 0 where
  pub broken : Keeps page rule → ⊥
  pub kept : (other : Rule) → number_of other < number_of rule → Keeps page other

-- the number is that of the first rule that is broken
abbrev pub IsLowestKind : List ℕ → ℕ → Type 0
IsLowestKind page kind = (rule : Rule) × (number_of rule ≡ kind) × IsFirstBroken page rule

-- the fault tells damage of this place, with the number of the first broken rule
abbrev pub IsDamage : ℕ → List ℕ → Fault → Type 0
IsDamage at page fault = (kind : ℕ) × (fault ≡ Damaged at kind) × IsLowestKind page kind
