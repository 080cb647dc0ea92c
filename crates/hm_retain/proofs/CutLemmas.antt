-- Cuts and joins from the sets that they are made of.
use Rattle.std.proofs.Common.{◌≡◌, ℕ, ◌<◌, ◌≤◌, List, inl, inr, Result, Ok, Err, IfErr}
use Rattle.std.specs.Prelude.{◌⊎◌, ◌↔◌}
use Rattle.hm_types.specs.declared.id.Id.{Id}
use Rattle.hm_retain.specs.declared.fault.RetainFault.{RetainFault}
use Rattle.hm_retain.specs.declared.fault.RetainFault.TheVariants.{TooMany, NoMemory}
use Rattle.hm_types.specs.Intervals.{Keeps}
use Rattle.hm_retain.specs.Intervals.{KeepsExactly}
use Rattle.hm_retain.specs.Retention.{IsListed, IsCut, IsJoin, TellsOf}

-- what a retention shares with the wanted ids is the cut
pub IsCut-shared : (retention : List (ℕ × ℕ)) (ids : List Id) (from : ℕ) (wanted cut : List (ℕ × ℕ))
    → KeepsExactly wanted (λ id. IsListed ids id ⊎ (from ≤ id)) → ((id : ℕ) → (Keeps cut id ↔ (Keeps retention id × Keeps wanted id)))
    → IsCut retention ids from cut
IsCut-shared retention ids from wanted cut exact shared id below = (
  λ kept. let both : Keeps retention id × Keeps wanted id = (shared id).0 kept in (both.0, (exact id below).0 both.1),
  λ both. (shared id).1 (both.0, (exact id below).1 both.1),
)

-- a retention together with what the other passes on is the join
pub IsJoin-union : (retention other : List (ℕ × ℕ)) (begin end : ℕ) (added join : List (ℕ × ℕ))
    → ((id : ℕ) → (Keeps added id ↔ (Keeps other id × (begin < id) × (id ≤ end))))
    → ((id : ℕ) → (Keeps join id ↔ (Keeps retention id ⊎ Keeps added id))) → IsJoin retention other begin end join
IsJoin-union retention other begin end added join passed union id below = (
  λ kept. elim ((union id).0 kept) [ inl was ↦ inl was | inr more ↦ inr ((passed id).0 more) ],
  λ either. (union id).1 (elim either [ inl was ↦ inl was | inr more ↦ inr ((passed id).1 more) ]),
)

-- what a fault tells of one list it tells of each sentence that the list meets
pub TellsOf-meets : (Meets : List (ℕ × ℕ) → Type 0) (set : List (ℕ × ℕ)) (fault : RetainFault) → Meets set → TellsOf (λ list. list ≡ set) fault
    → TellsOf Meets fault
TellsOf-meets Meets set (TooMany count) meets told = record {
  list = told.list;
  intervals = told.intervals;
  meets = rw told.meets meets;
  many = told.many;
  told = told.told;
}
TellsOf-meets Meets set NoMemory meets told = tt

-- the same of an answer that may be a fault
pub err_meets : (Meets : List (ℕ × ℕ) → Type 0) (set : List (ℕ × ℕ)) (result : Result (List (ℕ × ℕ)) RetainFault) → Meets set
    → IfErr result (TellsOf (λ list. list ≡ set)) → IfErr result (TellsOf Meets)
err_meets Meets set (Ok kept) meets told = tt
err_meets Meets set (Err fault) meets told = TellsOf-meets Meets set fault meets told
