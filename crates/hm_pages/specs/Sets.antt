-- Which offsets were changed.
use Rattle.std.specs.Prelude.{◌≡◌, ℕ, ◌+◌, ◌==◌, Bool, true, false, List, Option, Some, None, is_some, if◌then◌else◌}
use Rattle.std.specs.Prelude.{nat_eq}
use Rattle.std.specs.Set.{is_member}
use Rattle.hm_types.specs.Offset.{zone_of}
use Rattle.hm_types.specs.declared.zone.TheConstants.{FREEMAP_ZONE}
use Rattle.hm_pages.specs.Maps.{ChangeMap, is_page, set_at}

-- the offsets that were changed, and at how many of them a page was put
pub record ChangeSet : Type 0 where
  pub changed : ℕ → Bool
  pub pages : ℕ

-- none was
abbrev pub no_set : ChangeSet
no_set = record { changed = λ at. false; pages = 0 }

-- those of changes, and how many of these put a page
abbrev pub set_of : ChangeMap → ℕ → ChangeSet
set_of changes pages = record { changed = λ at. is_some (changes at); pages = pages }

-- 1 for a page, and 0 for none
abbrev pub one_if_page : Option (List ℕ) → ℕ
one_if_page None = 0
one_if_page (Some bytes) = 1

-- one offset more was changed: it had the page `before`, and has the page `after`
pub record HasChanged (at : ℕ) (before after : Option (List ℕ)) (old new : ChangeSet) : Type 0 where
  pub changed : new.changed ≡ set_at at true old.changed
  pub pages : new.pages + (if old.changed at then one_if_page before else 0) ≡ old.pages + one_if_page after

-- whether a page was taken out
abbrev pub takes_out : Option (Option (List ℕ)) → Bool
takes_out None = false
takes_out (Some None) = true
takes_out (Some (Some bytes)) = false

-- an offset of the freemap
abbrev pub in_freemap : ℕ → Bool
in_freemap at = zone_of at == FREEMAP_ZONE

-- no page of the freemap was taken out
abbrev pub KeepsFreemap : ChangeMap → Type 0
KeepsFreemap changes = (at : ℕ) → in_freemap at ≡ true → takes_out (changes at) ≡ false

-- a list has exactly the offsets at which a page was put
abbrev pub ListsPages : List ℕ → ChangeMap → Type 0
ListsPages list changes = (at : ℕ) → is_member nat_eq list at ≡ is_page (changes at)
