-- What a store tells after a page is put or taken out.
use Rattle.std.proofs.Common.{◌≡◌, ◌+◌, ◌≤◌, ◌==◌, ℕ, List, Bool, true, false, if◌then◌else◌, Option, Some, None, option_map, unwrap_or}
use Rattle.std.proofs.Common.{is_some, IsSome, IsTrue, IsFalse, ◌∙◌, refl, ap, sym, arith, true≢false}
use Rattle.std.proofs.Math.Nat.{lt_of_not-le}
use Rattle.std.proofs.lemmas.Bool.Decides.{nat_tests}
use Rattle.std.proofs.lemmas.Grind.{common_steps}
use mathlib.Core.Path.{fun_ext}
use Rattle.hm_types.specs.declared.limits.TheConstants.{MOST_GROUP_PAGES}
use Rattle.hm_fields.specs.Pages.{PageMap}
use Rattle.hm_pages.specs.Counts.{Boxed, bytes_of}
use Rattle.hm_pages.specs.Maps.{ChangeMap, over, set_at, is_page, pages_at}
use Rattle.hm_pages.specs.Sets.{set_of, one_if_page, HasChanged, takes_out, in_freemap, KeepsFreemap}

-- a change over a map is the map with it
over_here : (here : Bool) (page : Option (List ℕ)) (change : Option (Option (List ℕ))) (below : Option (List ℕ)) →
    unwrap_or (if here then Some page else change) below ≡ (if here then page else unwrap_or change below)
over_here true page change below = refl
over_here false page change below = refl

pub over_set : (at : ℕ) (page : Option (List ℕ)) (changes : ChangeMap) (map : PageMap) →
    over (set_at at (Some page) changes) map ≡ set_at at page (over changes map)
over_set at page changes map = fun_ext (λ other. over_here (other == at) page (changes other) (map other))

-- one offset more was changed
changed_here : (here : Bool) (page : Option (List ℕ)) (change : Option (Option (List ℕ))) →
    is_some (if here then Some page else change) ≡ (if here then true else is_some change)
changed_here true page change = refl
changed_here false page change = refl

pages_after : (page : Option (List ℕ)) → pages_at (Some page) ≡ one_if_page page
pages_after None = refl
pages_after (Some bytes) = refl

pages_of : (change : Option (Option (List ℕ))) (below : Option (List ℕ))
    → pages_at change ≡ (if is_some change then one_if_page (unwrap_or change below) else 0)
pages_of None below = refl
pages_of (Some None) below = refl
pages_of (Some (Some bytes)) below = refl

pub has_changed : (at : ℕ) (page : Option (List ℕ)) (changes after : ChangeMap) (pages pages' : ℕ) (map : PageMap) → after ≡ set_at at (Some page) changes →
    pages' + pages_at (changes at) ≡ pages + pages_at (Some page) → HasChanged at (over changes map at) page (set_of changes pages) (set_of after pages')
has_changed at page changes after pages pages' map is count = record {
  changed = (λ i other. is_some (is i other)) ∙ fun_ext (λ other. changed_here (other == at) page (changes other));
  pages = omega (arith, count, pages_after page, pages_of (changes at) (map at));
}

-- a group that is not full has room for one page more, where none is counted there already
pub has_room : (page : Option Boxed) (change : Option (Option (List ℕ))) (full : Bool) (pages : ℕ) →
    (IsSome page × IsFalse (is_page change) × (MOST_GROUP_PAGES ≤ pages) → IsTrue full) → full ≡ false → pages ≤ MOST_GROUP_PAGES →
    pages + pages_at (Some (option_map bytes_of page)) ≤ MOST_GROUP_PAGES + pages_at change
has_room None change full pages fills not few = omega (arith, few)
has_room (Some page) None full pages fills not few = omega (arith, lt_of_not-le (λ most. true≢false (sym (fills (refl, refl, most)) ∙ not)))
has_room (Some page) (Some None) full pages fills not few = omega (arith, lt_of_not-le (λ most. true≢false (sym (fills (refl, refl, most)) ∙ not)))
has_room (Some page) (Some (Some bytes)) full pages fills not few = omega (arith, few)

-- no page of the freemap is taken out
taken_here : (here : Bool) (page : Option Boxed) (change : Option (Option (List ℕ))) → (here ≡ true → is_some page ≡ true) → takes_out change ≡ false →
    takes_out (if here then Some (option_map bytes_of page) else change) ≡ false
taken_here true None change there kept = absurd (grind (arith, there refl))
taken_here true (Some page) change there kept = refl
taken_here false page change there kept = kept

pub keeps_set : (at : ℕ) (page : Option Boxed) (changes after : ChangeMap) → after ≡ set_at at (Some (option_map bytes_of page)) changes →
    (in_freemap at ≡ true → is_some page ≡ true) → KeepsFreemap changes → KeepsFreemap after
keeps_set at page changes after is there kept other in_it =
    ap (λ (f : ChangeMap). takes_out (f other)) is ∙
    taken_here (other == at) page (changes other) (λ here. there (grind (arith, common_steps, nat_tests, here, in_it))) (kept other in_it)
