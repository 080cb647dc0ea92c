-- A disk over a file.
use Rattle.std.specs.Prelude.{ℕ, List, Option}

-- the bytes of the file's name, the size in big-blocks that the file gets as it is opened, where one
-- is named, and how many calls failed
pub record FileState : Type 0 where
  pub name : List ℕ
  pub bigblocks : Option ℕ
  pub faults : ℕ
