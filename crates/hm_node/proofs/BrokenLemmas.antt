-- The first rule that a page breaks, from those that it keeps.
use Rattle.std.proofs.Common.{◌≡◌, ◌<◌, Bool, true, false, true≢false, IsTrue, ℕ, List, sym, arith}
use Rattle.hm_node.specs.Damage.{number_of, Keeps, IsFirstBroken}
use Rattle.hm_node.specs.declared.rule.Rule.{Rule}
use Rattle.hm_node.specs.declared.rule.Rule.TheVariants.{Level, Count, Order, Fields, Mirror}

-- a test that fails refutes what would pass it
pub refuted : {P : Type 0} (b : Bool) → b ≡ false → (P → IsTrue b) → P → ⊥
refuted true is passes p = absurd (true≢false is)
refuted false is passes p = true≢false (sym (passes p))

module _ (page : List ℕ) where
  pub broken_level : (Keeps page Level → ⊥) → IsFirstBroken page Level
  broken_level not = record { broken = not; kept = kept } where
    kept : (other : Rule) → number_of other < 1 → Keeps page other
    kept Level low = absurd (omega arith)
    kept Count low = absurd (omega arith)
    kept Order low = absurd (omega arith)
    kept Fields low = absurd (omega arith)
    kept Mirror low = absurd (omega arith)

  pub broken_count : Keeps page Level → (Keeps page Count → ⊥) → IsFirstBroken page Count
  broken_count level not = record { broken = not; kept = kept } where
    kept : (other : Rule) → number_of other < 2 → Keeps page other
    kept Level low = level
    kept Count low = absurd (omega arith)
    kept Order low = absurd (omega arith)
    kept Fields low = absurd (omega arith)
    kept Mirror low = absurd (omega arith)

  pub broken_order : Keeps page Level → Keeps page Count → (Keeps page Order → ⊥) → IsFirstBroken page Order
  broken_order level count not = record { broken = not; kept = kept } where
    kept : (other : Rule) → number_of other < 3 → Keeps page other
    kept Level low = level
    kept Count low = count
    kept Order low = absurd (omega arith)
    kept Fields low = absurd (omega arith)
    kept Mirror low = absurd (omega arith)

  pub broken_fields : Keeps page Level → Keeps page Count → Keeps page Order → (Keeps page Fields → ⊥) → IsFirstBroken page Fields
  broken_fields level count order not = record { broken = not; kept = kept } where
    kept : (other : Rule) → number_of other < 5 → Keeps page other
    kept Level low = level
    kept Count low = count
    kept Order low = order
    kept Fields low = absurd (omega arith)
    kept Mirror low = absurd (omega arith)

  pub broken_mirror : Keeps page Level → Keeps page Count → Keeps page Order → Keeps page Fields → (Keeps page Mirror → ⊥) → IsFirstBroken page Mirror
  broken_mirror level count order fields not = record { broken = not; kept = kept } where
    kept : (other : Rule) → number_of other < 9 → Keeps page other
    kept Level low = level
    kept Count low = count
    kept Order low = order
    kept Fields low = fields
    kept Mirror low = absurd (omega arith)

  pub kept_all : Keeps page Level → Keeps page Count → Keeps page Order → Keeps page Fields → Keeps page Mirror → (rule : Rule) → Keeps page rule
  kept_all level count order fields mirror Level = level
  kept_all level count order fields mirror Count = count
  kept_all level count order fields mirror Order = order
  kept_all level count order fields mirror Fields = fields
  kept_all level count order fields mirror Mirror = mirror
