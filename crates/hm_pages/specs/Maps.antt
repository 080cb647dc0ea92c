-- Maps of pages, and changes of them.
use Rattle.std.specs.Prelude.{ℕ, ◌==◌, Bool, true, false, List, Option, Some, None, unwrap_or, if◌then◌else◌}
use Rattle.std.specs.Option.{option_or}
use Rattle.hm_fields.specs.Pages.{PageMap}

-- what was changed at each offset: None where nothing was, and Some None where a page was taken out
abbrev pub ChangeMap : Type 0
ChangeMap = ℕ → Option (Option (List ℕ))

-- nothing was changed
abbrev pub no_changes : ChangeMap
no_changes at = None

-- no page
abbrev pub no_pages : PageMap
no_pages at = None

-- the function that gives this value at one offset, and elsewhere what the other one gives
abbrev pub set_at : {X : Type 0} → ℕ → X → (ℕ → X) → ℕ → X
set_at at value f other = if other == at then value else f other

-- the pages of a map after changes
abbrev pub over : ChangeMap → PageMap → PageMap
over changes map at = unwrap_or (changes at) (map at)

-- later changes after earlier ones
abbrev pub joined : ChangeMap → ChangeMap → ChangeMap
joined later earlier at = option_or (later at) (earlier at)

-- whether a page was put
abbrev pub is_page : Option (Option (List ℕ)) → Bool
is_page None = false
is_page (Some None) = false
is_page (Some (Some bytes)) = true

-- 1 where a page was put, and else 0
abbrev pub pages_at : Option (Option (List ℕ)) → ℕ
pages_at None = 0
pages_at (Some None) = 0
pages_at (Some (Some bytes)) = 1
