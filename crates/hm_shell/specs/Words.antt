-- The words that the command takes.
use Rattle.std.specs.Prelude.{◌≡◌, ◌≢◌, ◌⊎◌, ℕ, ◌<◌, ◌≤◌, List, [], ◌∷◌, Option, None, Some, length, slice_index, codes, decimal, map, string_bytes}
use Rattle.std.specs.declared.alloc.Global.{Global}
use Rattle.std.specs.declared.string.String.{String}
use Rattle.hm_types.specs.declared.limits.TheConstants.{LEAST_BIGBLOCKS, MOST_BIGBLOCKS}
use Rattle.hm_shell.specs.declared.plan.Plan.{Plan}
use Rattle.hm_shell.specs.declared.plan.PlanFault.{PlanFault}
use Rattle.hm_shell.specs.declared.plan.PlanFault.TheVariants.{Usage, NoMemory}

-- the words as lists of bytes
abbrev pub texts : List (String Global) → List (List ℕ)
texts words = map string_bytes words

-- a word that names a volume: it is not empty and does not begin with a dash
pub record IsVolumeWord (word : List ℕ) : Type 0 where
  pub some : 0 < length word
  pub no_option : slice_index word 0 ≢ 0x2D

-- a number of big-blocks that a volume may have, in decimal digits without a sign or a leading zero
pub record SpellsSize (word : List ℕ) (size : ℕ) : Type 0 where
  pub digits : word ≡ decimal size
  pub least : LEAST_BIGBLOCKS ≤ size
  pub most : size ≤ MOST_BIGBLOCKS

abbrev pub IsNoSize : List ℕ → Type 0
IsNoSize word = (size : ℕ) → SpellsSize word size → ⊥

-- the option that makes a volume
abbrev pub newfs_option : List ℕ
newfs_option = codes "--newfs"

-- the words are VOLUME with `--newfs` and this size, before it or after it
pub record IsPlanWithSize (words : List (List ℕ)) (volume : List ℕ) (size : ℕ) : Type 0 where
  pub word : List ℕ
  pub size_is : SpellsSize word size
  pub volume_is : IsVolumeWord volume
  pub order :
      (words ≡ volume ∷ newfs_option ∷ word ∷ []) ⊎ (words ≡ newfs_option ∷ word ∷ volume ∷ [])

-- the words name this volume, and the size of a new one or none
abbrev pub IsPlan : List (List ℕ) → List ℕ → Option ℕ → Type 0
IsPlan words volume None = (words ≡ volume ∷ []) × IsVolumeWord volume
IsPlan words volume (Some size) = IsPlanWithSize words volume size

-- the words name a volume
abbrev pub HasPlan : List (List ℕ) → Type 0
HasPlan words = (volume : List ℕ) × (newfs : Option ℕ) × IsPlan words volume newfs

-- the words break the rule
abbrev pub IsUsageFault : List (List ℕ) → Type 0
IsUsageFault words = (volume : List ℕ) (newfs : Option ℕ) → IsPlan words volume newfs → ⊥

-- the plan is that of the words
pub record IsPlanned (words : List (List ℕ)) (plan : Plan) : Type 0 where
  pub words_are : IsPlan words (string_bytes plan.volume) plan.newfs
  pub stream_in : plan.stream_in ≡ None
  pub stream_out : plan.stream_out ≡ None
  pub generate : plan.generate ≡ None

-- why words gave no plan: they break the rule, or memory was refused
abbrev pub IsPlanFault : List (List ℕ) → PlanFault → Type 0
IsPlanFault words Usage = IsUsageFault words
IsPlanFault words NoMemory = HasPlan words
