-- Pages of a disk that are held in memory.
use Rattle.std.specs.Prelude.{◌≡◌, ◌≢◌, ◌⊎◌, ℕ, ◌+◌, ◌*◌, ◌≤◌, ◌%◌, Bool, IsTrue, List, Option, Some, IfSome, length, slice_get, slice_range}
use Rattle.std.specs.Global.{Box}
use Rattle.hm_types.specs.declared.limits.TheConstants.{PAGE_BYTES}
use Rattle.hm_disk.specs.Crash.{Told}
use Rattle.hm_buffer.specs.declared.held_page.HeldPage.{HeldPage}
use Rattle.hm_buffer.specs.declared.held_page.TheConstants.{SLOTS}

-- the page in a slot
abbrev pub Holds : List (Option (Box HeldPage)) → ℕ → Box HeldPage → Type 0
Holds slots i page = slice_get slots i ≡ Some (Some page)

-- no slot has a page
abbrev pub HasNone : List (Option (Box HeldPage)) → Type 0
HasNone slots = (i : ℕ) (page : Box HeldPage) → Holds slots i page → ⊥

-- each page stands in the slot of its number
abbrev pub ArePlaced : List (Option (Box HeldPage)) → Type 0
ArePlaced slots = (i : ℕ) (page : Box HeldPage) → Holds slots i page → page.value.number % SLOTS ≡ i

-- the bytes of a page of a disk
abbrev pub bytes_of_page : List ℕ → ℕ → List ℕ
bytes_of_page bytes number = slice_range bytes (number * PAGE_BYTES) (number * PAGE_BYTES + PAGE_BYTES)

-- where a disk tells its bytes, each page that is held has those that stand there
abbrev pub AgreeWithDisk : Option Told → List (Option (Box HeldPage)) → Type 0
AgreeWithDisk told slots = IfSome told (λ t. (i : ℕ) (page : Box HeldPage) → Holds slots i page
    → page.value.bytes ≡ bytes_of_page t.bytes page.value.number)

-- a size that is known is that of the disk
abbrev pub IsToldSize : Option ℕ → Option Told → Type 0
IsToldSize size told = IfSome size (λ n. IfSome told (λ t. n ≡ length t.bytes))

-- what is held still was held, and in another slot than this one
abbrev pub Empties : ℕ → List (Option (Box HeldPage)) → List (Option (Box HeldPage)) → Type 0
Empties slot old new = (i : ℕ) (page : Box HeldPage) → Holds new i page → Holds old i page × (i ≢ slot)

-- a page has no byte of a range
abbrev pub IsApart : ℕ → ℕ → ℕ → Type 0
IsApart place len number = (number * PAGE_BYTES + PAGE_BYTES ≤ place) ⊎ (place + len ≤ number * PAGE_BYTES)

-- what is held still was held, and has no byte of a range
abbrev pub Forgets : ℕ → ℕ → List (Option (Box HeldPage)) → List (Option (Box HeldPage)) → Type 0
Forgets place len old new = (i : ℕ) (page : Box HeldPage) → Holds new i page
    → Holds old i page × IsApart place len page.value.number

-- a page lies inside a disk, where it tells
abbrev pub IsWithin : ℕ → Option Told → Bool → Type 0
IsWithin number told is = IsTrue is → IfSome told (λ t. number * PAGE_BYTES + PAGE_BYTES ≤ length t.bytes)

-- these are the bytes of a page, where the disk tells
abbrev pub GivesPage : ℕ → List ℕ → Option Told → Type 0
GivesPage number bytes told = IfSome told (λ t. bytes ≡ bytes_of_page t.bytes number)
