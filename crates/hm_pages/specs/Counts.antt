-- Pages in boxes, and how many of them a list of changes puts.
use Rattle.std.specs.Prelude.{ℕ, List, Option, Some, None, Box}
use Rattle.std.specs.List.{sum_by}
use Rattle.std.specs.Map.{values_of}
use Rattle.std.specs.declared.alloc.Global.{Global}
use Rattle.hm_pages.specs.declared.held.HeldPage.{HeldPage}

-- a page in its box
abbrev pub Boxed : Type 0
Boxed = Box HeldPage Global

-- its bytes
abbrev pub bytes_of : Boxed → List ℕ
bytes_of page = page.value.page

-- 1 for a page, and 0 for one that was taken out
abbrev pub page_count : Option Boxed → ℕ
page_count None = 0
page_count (Some page) = 1

-- how many of the changes put a page
abbrev pub pages_in : List (ℕ × Option Boxed) → ℕ
pages_in entries = sum_by page_count (values_of entries)
