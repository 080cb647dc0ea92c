-- What the written pages of a disk in memory stand for.
use Rattle.std.specs.Prelude.{◌≡◌, ℕ, ◌+◌, ◌<◌, ◌/◌, ◌%◌, List, [], ◌∷◌, length, Option, Some, None, slice_index, Box, IsSome}
use Rattle.std.specs.declared.alloc.Global.{Global}
use Rattle.std.specs.Ordering.{nat_cmp}
use Rattle.std.specs.BTreeMap as tree
use Rattle.hm_types.specs.declared.limits.TheConstants.{PAGE_BYTES}
use Rattle.hm_disk.specs.Crash.{Outside}
use Rattle.hm_disk_forms.specs.declared.pages.Pages.{Pages}

-- a byte of a page, from its start; one of a page that is not there is 0
abbrev pub byte_in : Option (Box (List ℕ) Global) → ℕ → ℕ
byte_in None at = 0
byte_in (Some page) at = slice_index page.value at

-- a byte of these pages, from the start of the disk
abbrev pub byte_in_pages : Pages → ℕ → ℕ
byte_in_pages p byte = byte_in (tree.get nat_cmp p.pages (byte / PAGE_BYTES)) (byte % PAGE_BYTES)

-- the pages of all these bytes are there
abbrev pub PagesAreThere : Pages → ℕ → ℕ → Type 0
PagesAreThere p place count =
    (i : ℕ) → i < count → IsSome (tree.get nat_cmp p.pages ((place + i) / PAGE_BYTES))

-- one disk reads as the other does, but for these bytes from this place on
pub record Overwrites (old new : ℕ → ℕ) (place : ℕ) (bytes : List ℕ) : Type 0 where
  pub inside : (i : ℕ) → i < length bytes → new (place + i) ≡ slice_index bytes i
  pub outside : (byte : ℕ) → Outside ((place, length bytes) ∷ []) byte → new byte ≡ old byte
