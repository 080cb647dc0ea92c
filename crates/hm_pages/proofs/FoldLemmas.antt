-- Changes that are made one after another.
use Rattle.std.proofs.Common.{◌≡◌, ℕ, List, [], ◌∷◌, false, Option, Some, None, option_map, unwrap_or, refl, sym, ap, ◌∙◌, arith, ⊎_elim}
use Rattle.std.proofs.lemmas.Bool.{cases_eq}
use Rattle.std.proofs.lemmas.Bool.Decides.{nat_tests}
use Rattle.std.proofs.lemmas.Grind.{common_steps}
use Rattle.std.specs.Prelude.{nat_eq}
use Rattle.std.specs.Option.{option_or}
use Rattle.std.specs.List.{AllByRecursion, IsDistinct}
use Rattle.std.specs.Map.{lookup, keys_of}
use mathlib.Core.Path.{fun_ext}
use Rattle.hm_pages.specs.Counts.{Boxed, bytes_of}
use Rattle.hm_fields.specs.Pages.{PageMap}
use Rattle.hm_pages.specs.Maps.{ChangeMap, set_at, over, joined}

-- an offset that no entry has is not found
pub absent : {X : Type 0} (at : ℕ) (entries : List (ℕ × X)) → AllByRecursion (λ key. nat_eq at key ≡ false) (keys_of entries) →
    lookup (nat_eq at) entries ≡ None
absent at [] none = refl
absent at (entry ∷ rest) none = grind (arith, common_steps, none.0, absent at rest none.1)

module _ {X Y : Type 0} (put : X → Y) where
  -- the function after each of these is put into it, the first one first
  pub folded : (ℕ → Y) → List (ℕ × X) → ℕ → Y
  folded f [] = f
  folded f (entry ∷ rest) = folded (set_at entry.0 (put entry.1) f) rest

  -- one of them is put
  pub folded_more : (f g : ℕ → Y) (entries rest : List (ℕ × X)) (entry : ℕ × X) → entries ≡ entry ∷ rest → g ≡ set_at entry.0 (put entry.1) f →
      folded g rest ≡ folded f entries
  unfolding folded
  folded_more f g entries rest entry more is = ap (λ h. folded h rest) is ∙ sym (ap (folded f) more)

  -- none is left
  pub folded_done : (f : ℕ → Y) (entries : List (ℕ × X)) → entries ≡ [] → folded f entries ≡ f
  unfolding folded
  folded_done f entries done = ap (folded f) done

  -- where no offset comes twice, each is given what was put there
  pub folded_at : (f : ℕ → Y) (entries : List (ℕ × X)) (at : ℕ) → IsDistinct nat_eq (keys_of entries) →
      folded f entries at ≡ unwrap_or (option_map put (lookup (nat_eq at) entries)) (f at)
  unfolding folded IsDistinct
  folded_at f [] at distinct = refl
  folded_at f (entry ∷ rest) at distinct =
      let after = folded_at (set_at entry.0 (put entry.1) f) rest at distinct.1 in
      after ∙
      ⊎_elim
      (λ e. let gone = absent entry.0 rest distinct.0 in grind (arith, common_steps, nat_tests, e, gone))
      (λ ne. grind (arith, common_steps, nat_tests, ne)) (cases_eq at entry.0)

-- later changes over earlier ones
abbrev pub put_change : Option Boxed → Option (Option (List ℕ))
put_change change = Some (option_map bytes_of change)

later_of : (found : Option (Option Boxed)) (earlier : Option (Option (List ℕ))) →
    unwrap_or (option_map put_change found) earlier ≡ option_or (option_map (option_map bytes_of) found) earlier
later_of None earlier = refl
later_of (Some change) earlier = refl

pub folded_joined : (f : ChangeMap) (entries : List (ℕ × Option Boxed)) → IsDistinct nat_eq (keys_of entries) →
    folded put_change f entries ≡ joined (λ at. option_map (option_map bytes_of) (lookup (nat_eq at) entries)) f
folded_joined f entries distinct = fun_ext (λ at. folded_at put_change f entries at distinct ∙ later_of (lookup (nat_eq at) entries) (f at))

-- changes over a map
pub folded_over : (f : PageMap) (entries : List (ℕ × Option Boxed)) → IsDistinct nat_eq (keys_of entries) →
    folded (option_map bytes_of) f entries ≡ over (λ at. option_map (option_map bytes_of) (lookup (nat_eq at) entries)) f
folded_over f entries distinct = fun_ext (λ at. folded_at (option_map bytes_of) f entries at distinct)
