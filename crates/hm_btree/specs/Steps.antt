-- How steps are counted.
use Rattle.std.specs.Prelude.{◌≡◌, ◌<◌, ℕ}

-- a blank opens the ledger of this name, which has so many parts
pub record Opens (ledger_name ledger_parts blank_name blank_parts : ℕ) : Type 0 where
  pub name : blank_name ≡ ledger_name
  pub parts : blank_parts ≡ ledger_parts
  pub some : 0 < blank_parts
