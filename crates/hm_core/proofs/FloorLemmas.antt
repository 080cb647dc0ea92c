-- What the ledger of a run leaves is no less than its history does.
use Rattle.std.proofs.Common.{◌≡◌, ℕ, ◌-◌, ◌*◌, ◌/◌, ◌≤◌, Bool, true, false, List, [], ◌∷◌, ◌++◌, ◌||◌, length, refl, sym, ◌∙◌, arith}
use Rattle.std.specs.Prelude.{IsFalse, if◌then◌else◌}
use Rattle.std.specs.List.{list_any}
use Rattle.std.proofs.lemmas.List.Folds.{list_any-append}
use Rattle.hm_types.specs.declared.limits.TheConstants.{BIGBLOCK_BYTES}
use Rattle.hm_model.specs.Needs.{floor, moved_space}
use Rattle.hm_model.specs.declared.entry.Entry.{Entry}
use Rattle.hm_core.specs.Ledger.{IsPaid}
use Rattle.hm_core.proofs.LedgerLemmas.{paid_floor}

pub floor_paid : (first spare : ℕ) (history : List Entry) (room : ℕ → ℕ) → ((zone : ℕ) → room zone ≤ BIGBLOCK_BYTES)
    → (IsFalse (list_any moved_space history) → IsPaid first spare (length history) room) → floor first history ≤ spare
floor_paid first spare history room most paid = by (list_any moved_space history) refl where
  by : (moved : Bool) → list_any moved_space history ≡ moved
      → (if moved then 0 else first - 4 - length history / 8 - 3 * (length history / 64)) ≤ spare
  by true is = omega arith
  by false is = paid_floor first spare (length history) room most (paid is)

-- where nothing moved by an entry more, nothing had before
pub none_before : (history : List Entry) (entry : Entry) → IsFalse (list_any moved_space (history ++ entry ∷ [])) → IsFalse (list_any moved_space history)
none_before history entry none = by (list_any moved_space history) (sym (list_any-append moved_space history (entry ∷ [])) ∙ none) where
  by : (before : Bool) → (before || list_any moved_space (entry ∷ [])) ≡ false → before ≡ false
  by true is = absurd cc
  by false is = refl
