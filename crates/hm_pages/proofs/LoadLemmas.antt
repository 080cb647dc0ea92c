-- What a store tells after a page is loaded into all three maps.
use Rattle.std.proofs.Common.{◌≡◌, ◌==◌, ℕ, List, Bool, true, false, if◌then◌else◌, Option, Some, None, unwrap_or, is_some, refl, sym, ap, ◌∙◌, arith}
use Rattle.std.proofs.lemmas.Bool.Decides.{nat_tests}
use Rattle.std.proofs.lemmas.Grind.{common_steps}
use mathlib.Core.Path.{fun_ext}
use Rattle.hm_fields.specs.Pages.{PageMap}
use Rattle.hm_pages.specs.Maps.{ChangeMap, over, set_at, is_page, pages_at}
use Rattle.hm_pages.specs.Sets.{takes_out, KeepsFreemap}

-- a page below, with no change over it
load_here : (here : Bool) (page : Option (List ℕ)) (change : Option (Option (List ℕ))) (below : Option (List ℕ)) →
    unwrap_or (if here then None else change) (if here then page else below) ≡ (if here then page else unwrap_or change below)
load_here true page change below = refl
load_here false page change below = refl

pub over_load : (at : ℕ) (page : Option (List ℕ)) (changes : ChangeMap) (map : PageMap) →
    over (set_at at None changes) (set_at at page map) ≡ set_at at page (over changes map)
over_load at page changes map = fun_ext (λ other. load_here (other == at) page (changes other) (map other))

-- one offset less was changed
forgot_here : (here : Bool) (change : Option (Option (List ℕ))) → is_some (if here then None else change) ≡ (if here then false else is_some change)
forgot_here true change = refl
forgot_here false change = refl

pub changed_forget : (at : ℕ) (changes after : ChangeMap) → after ≡ set_at at None changes →
    ◌≡◌ {A = ℕ → Bool} (λ other. is_some (after other)) (set_at at false (λ other. is_some (changes other)))
changed_forget at changes after is = (λ i other. is_some (is i other)) ∙ fun_ext (λ other. forgot_here (other == at) (changes other))

-- no page was put where none is
pub no_page : (change : Option (Option (List ℕ))) (below : Option (List ℕ)) → unwrap_or change below ≡ None → is_page change ≡ false
no_page None below none = refl
no_page (Some None) below none = refl
no_page (Some (Some bytes)) below none = absurd (grind (arith, none))

pub no_pages_at : (change : Option (Option (List ℕ))) → is_page change ≡ false → pages_at change ≡ 0
no_pages_at None none = refl
no_pages_at (Some None) none = refl
no_pages_at (Some (Some bytes)) none = absurd (grind (arith, none))

-- what was listed stays so
page_here : (here : Bool) (change : Option (Option (List ℕ))) → (here ≡ true → is_page change ≡ false) →
    is_page change ≡ is_page (if here then None else change)
page_here true change none = none refl
page_here false change none = refl

pub listed_forget : (at other : ℕ) (changes after : ChangeMap) → after ≡ set_at at None changes → is_page (changes at) ≡ false →
    is_page (changes other) ≡ is_page (after other)
listed_forget at other changes after is none =
    page_here (other == at) (changes other) (λ here. grind (arith, common_steps, nat_tests, here, none)) ∙ ap (λ (f : ChangeMap). is_page (f other)) (sym is)

-- no page of the freemap is taken out
forgot_taken : (here : Bool) (change : Option (Option (List ℕ))) → takes_out change ≡ false → takes_out (if here then None else change) ≡ false
forgot_taken true change kept = refl
forgot_taken false change kept = kept

pub keeps_forget : (at : ℕ) (changes after : ChangeMap) → after ≡ set_at at None changes → KeepsFreemap changes → KeepsFreemap after
keeps_forget at changes after is kept other in_it = ap (λ (f : ChangeMap). takes_out (f other)) is ∙
    forgot_taken (other == at) (changes other) (kept other in_it)
