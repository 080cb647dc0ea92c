-- Tables of pages and of changes, as functions of the offset.
use Rattle.std.proofs.Common.{◌≡◌, ℕ, Option, option_map, ap, arith, ⊎_elim}
use Rattle.std.proofs.lemmas.Bool.{cases_eq}
use Rattle.std.proofs.lemmas.Bool.Decides.{nat_tests}
use Rattle.std.proofs.lemmas.Grind.{common_steps}
use mathlib.Core.Path.{fun_ext}
use Rattle.std.specs.Prelude.{nat_eq}
use Rattle.std.specs.HashMap.{HashMap}
use Rattle.std.specs.HashMap as hash
use Rattle.hm_pages.specs.Maps.{set_at}

module _ {X Y S : Type 0} (view : X → Y) where
  -- what a table gives at each offset, as it is seen
  abbrev pub viewed : HashMap ℕ X S → ℕ → Option Y
  viewed table at = option_map view (hash.get nat_eq table at)

  -- two tables that give the same at each offset are the same function
  pub viewed_same : (old new : HashMap ℕ X S) → ((at : ℕ) → hash.get nat_eq new at ≡ hash.get nat_eq old at) → viewed new ≡ viewed old
  viewed_same old new same = fun_ext (λ at. ap (option_map view) (same at))

  -- an update of a table is the update of the function
  pub viewed_update : (old new : HashMap ℕ X S) (at : ℕ) (value : Option X) → hash.Updates nat_eq old new at value →
      viewed new ≡ set_at at (option_map view value) (viewed old)
  viewed_update old new at value updates = fun_ext (λ other.
      ⊎_elim
      (λ e. grind (arith, common_steps, nat_tests, updates.0 other, updates.1, e))
      (λ ne. grind (arith, common_steps, nat_tests, updates.0 other, updates.2 other, ne)) (cases_eq other at))
