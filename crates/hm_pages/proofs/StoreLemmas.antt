-- What a store tells, from the maps that it is made of.
use Rattle.std.proofs.Common.{◌≡◌, ◌≤◌, ◌&&◌, ◌||◌, ℕ, List, Bool, true, false, Option, Some, None, option_map, unwrap_or, is_some, refl, sym, ap, ◌∙◌, arith}
use Rattle.std.specs.Option.{option_or}
use mathlib.Core.Path.{fun_ext}
use Rattle.std.specs.HashMap.{hash_map_len}
use Rattle.std.proofs.Common.{[], ◌∷◌, length, nat_eq, if◌then◌else◌}
use Rattle.std.specs.Map.{lookup}
use Rattle.hm_types.specs.declared.id.Id.{Id}
use Rattle.hm_pages.specs.Counts.{bytes_of}
use Rattle.hm_fields.specs.Pages.{PageMap}
use Rattle.hm_pages.specs.Changes.{change_at}
use Rattle.hm_pages.specs.declared.changes.Changes.{Changes}
use Rattle.hm_pages.specs.Maps.{ChangeMap, no_changes, over, joined, is_page}
use Rattle.hm_pages.specs.Sets.{no_set, set_of, takes_out, KeepsFreemap}

-- later changes over earlier ones
over_both : (later earlier : Option (Option (List ℕ))) (page : Option (List ℕ)) →
    unwrap_or (option_or later earlier) page ≡ unwrap_or later (unwrap_or earlier page)
over_both None earlier page = refl
over_both (Some change) earlier page = refl

pub over_joined : (later earlier : ChangeMap) (map : PageMap) → over (joined later earlier) map ≡ over later (over earlier map)
over_joined later earlier map = fun_ext (λ at. over_both (later at) (earlier at) (map at))

either_set : (later earlier : Option (Option (List ℕ))) → is_some (option_or later earlier) ≡ (is_some later || is_some earlier)
either_set None earlier = refl
either_set (Some change) earlier = refl

pub changed_joined : (later earlier both : ChangeMap) → both ≡ joined later earlier →
    ◌≡◌ {A = ℕ → Bool} (λ at. is_some (both at)) (λ at. is_some (later at) || is_some (earlier at))
changed_joined later earlier both is = fun_ext (λ at. ap (λ (f : ChangeMap). is_some (f at)) is ∙ either_set (later at) (earlier at))

-- the map stays where the open call's changes are joined to the group's
pub kept_map : (left later earlier both : ChangeMap) (map : PageMap) → left ≡ no_changes → both ≡ joined later earlier →
    over left (over both map) ≡ over later (over earlier map)
kept_map left later earlier both map none is = (λ i. over (none i) (over (is i) map)) ∙ over_joined later earlier map

-- nothing is left
pub nothing_set : (left : ChangeMap) (pages : ℕ) → left ≡ no_changes → pages ≡ 0 → set_of left pages ≡ no_set
nothing_set left pages none zero = λ i. set_of (none i) (zero i)

-- no page of the freemap is taken out
none_taken : (later earlier : Option (Option (List ℕ))) → takes_out later ≡ false → takes_out earlier ≡ false → takes_out (option_or later earlier) ≡ false
none_taken None earlier here there = there
none_taken (Some change) earlier here there = here

pub keeps_joined : (later earlier both : ChangeMap) → both ≡ joined later earlier → KeepsFreemap later → KeepsFreemap earlier → KeepsFreemap both
keeps_joined later earlier both is here there at in_it =
    ap (λ (f : ChangeMap). takes_out (f at)) is ∙ none_taken (later at) (earlier at) (here at in_it) (there at in_it)

pub keeps_none : (left : ChangeMap) → left ≡ no_changes → KeepsFreemap left
keeps_none left none at in_it = ap (λ (f : ChangeMap). takes_out (f at)) none

-- a table of changes that holds nothing
pub record HoldsNothing (changes : Changes) : Type 0 where
  pub none : change_at changes ≡ no_changes
  pub len : hash_map_len changes.places ≡ 0
  pub pages : changes.pages ≡ 0

-- as one that a new table was put into
pub emptied : (left fresh : Changes) → left ≡ fresh → change_at fresh ≡ no_changes → hash_map_len fresh.places ≡ 0 → fresh.pages ≡ 0 → HoldsNothing left
emptied left fresh same none len pages = record {
  none = ap change_at same ∙ none;
  len = ap (λ (d : Changes). hash_map_len d.places) same ∙ len;
  pages = ap (λ (d : Changes). d.pages) same ∙ pages;
}

pub empty_from_length : {X : Type 0} (xs : List X) → length xs ≡ 0 → xs ≡ []
empty_from_length [] zero = refl
empty_from_length (x ∷ xs) zero = absurd (omega (arith, zero))

-- a table without an entry holds nothing
pub none_from_len : (changes : Changes) → hash_map_len changes.places ≡ 0 → change_at changes ≡ no_changes
none_from_len changes empty = ap (λ es (at : ℕ). option_map (option_map bytes_of) (lookup (nat_eq at) es)) (empty_from_length changes.places.entries empty)

-- no call is open, and so it has changed nothing
pub not_open : (is_open : Bool) (map : PageMap) → (if is_open then Some map else None) ≡ None → is_open ≡ false
not_open true map none = absurd (grind (arith, none))
not_open false map none = refl

pub closed_len : (is_open : Bool) (len : ℕ) → (if is_open then 0 else len) ≡ 0 → is_open ≡ false → len ≡ 0
closed_len true len closed shut = absurd (grind (arith, shut))
closed_len false len closed shut = closed

-- nothing is frozen
pub idle_len : (boundary : Option Id) (len : ℕ) → (if is_some boundary then 0 else len) ≡ 0 → boundary ≡ None → len ≡ 0
idle_len boundary len idle none = ap (λ (b : Option Id). if is_some b then 0 else len) (sym none) ∙ idle

pub idle_fewer : (busy : Bool) (old new : ℕ) → (if busy then 0 else old) ≡ 0 → new ≤ old → (if busy then 0 else new) ≡ 0
idle_fewer true old new idle fewer = refl
idle_fewer false old new idle fewer = omega arith

-- a page was put where something was changed and a page stands
pub page_there : (change : Option (Option (List ℕ))) (below : Option (List ℕ)) → is_page change ≡ (is_some change && is_some (unwrap_or change below))
page_there None below = refl
page_there (Some None) below = refl
page_there (Some (Some bytes)) below = refl
