-- How many pages a list of changes puts.
use Rattle.std.proofs.Common.{◌≡◌, ◌≤◌, ◌+◌, ℕ, List, [], ◌∷◌, Option, Some, None, length, option_map, unwrap_or, refl, arith}
use Rattle.std.proofs.lemmas.List.Sums.{sum_by-cons}
use Rattle.std.specs.Map.{values_of}
use Rattle.hm_pages.specs.Counts.{Boxed, bytes_of, page_count, pages_in}
use Rattle.hm_pages.specs.Maps.{pages_at}

count_small : (change : Option Boxed) → page_count change ≤ 1
count_small None = omega arith
count_small (Some page) = omega arith

-- the first change and the others
pub pages-cons : (entry : ℕ × Option Boxed) (rest : List (ℕ × Option Boxed)) → pages_in (entry ∷ rest) ≡ page_count entry.1 + pages_in rest
pages-cons entry rest = sum_by-cons page_count entry.1 (values_of rest)

-- no more than there are changes
pub pages-le-length : (entries : List (ℕ × Option Boxed)) → pages_in entries ≤ length entries
pages-le-length [] = omega arith
pages-le-length (entry ∷ rest) = omega (arith, count_small entry.1, pages-le-length rest, pages-cons entry rest)

-- what is counted of a change in its box, and of its bytes
pub pages_put : (change : Option Boxed) → pages_at (Some (option_map bytes_of change)) ≡ page_count change
pages_put None = refl
pages_put (Some page) = refl

pub pages_before : (before : Option (Option Boxed)) → pages_at (option_map (option_map bytes_of) before) ≡ unwrap_or (option_map page_count before) 0
pages_before None = refl
pages_before (Some change) = pages_put change
