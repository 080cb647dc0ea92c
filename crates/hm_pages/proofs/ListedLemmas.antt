-- The offsets at which a list of changes puts a page.
use Rattle.std.proofs.Common.{◌≡◌, ◌+◌, ℕ, List, [], ◌∷◌, ◌++◌, true, false, cond, Option, Some, None, option_map, length, refl, sym, ap, subst, ◌∙◌}
use Rattle.std.proofs.Common.{arith, ⊎_elim, is_some, append_assoc, append-nil}
use Rattle.std.proofs.lemmas.Bool.{cases_eq}
use Rattle.std.proofs.lemmas.Bool.Decides.{nat_tests}
use Rattle.std.proofs.lemmas.Grind.{common_steps}
use Rattle.std.specs.Prelude.{nat_eq}
use Rattle.std.specs.List.{IsDistinct, AllByRecursion}
use Rattle.std.specs.Map.{lookup, keys_of}
use Rattle.std.specs.Set.{is_member}
use Rattle.hm_pages.specs.Counts.{Boxed, bytes_of, pages_in, page_count}
use Rattle.hm_pages.specs.Maps.{is_page}
use Rattle.hm_pages.proofs.CountLemmas.{pages-cons}
use Rattle.hm_pages.proofs.FoldLemmas.{absent}

-- the offsets of a list, and one more where a page was put there
abbrev with_key : ℕ → Option Boxed → List ℕ → List ℕ
with_key at None keys = keys
with_key at (Some page) keys = at ∷ keys

pub page_keys : List (ℕ × Option Boxed) → List ℕ
page_keys [] = []
page_keys (entry ∷ rest) = with_key entry.0 entry.1 (page_keys rest)

-- there are as many as pages
length_with : (at : ℕ) (change : Option Boxed) (keys : List ℕ) → length (with_key at change keys) ≡ page_count change + length keys
length_with at None keys = omega arith
length_with at (Some page) keys = omega arith

pub length-page_keys : (entries : List (ℕ × Option Boxed)) → length (page_keys entries) ≡ pages_in entries
unfolding page_keys
length-page_keys [] = refl
length-page_keys (entry ∷ rest) = omega (arith, length_with entry.0 entry.1 (page_keys rest), length-page_keys rest, pages-cons entry rest)

-- no offset comes twice
none_with : (key at : ℕ) (change : Option Boxed) (keys : List ℕ) → nat_eq key at ≡ false → AllByRecursion (λ other. nat_eq key other ≡ false) keys →
    AllByRecursion (λ other. nat_eq key other ≡ false) (with_key at change keys)
none_with key at None keys here none = none
none_with key at (Some page) keys here none = (here, none)

none-page_keys : (key : ℕ) (entries : List (ℕ × Option Boxed)) → AllByRecursion (λ other. nat_eq key other ≡ false) (keys_of entries) →
    AllByRecursion (λ other. nat_eq key other ≡ false) (page_keys entries)
unfolding page_keys
none-page_keys key [] none = none
none-page_keys key (entry ∷ rest) none = none_with key entry.0 entry.1 (page_keys rest) none.0 (none-page_keys key rest none.1)

distinct_with : (at : ℕ) (change : Option Boxed) (keys : List ℕ) → AllByRecursion (λ other. nat_eq at other ≡ false) keys → IsDistinct nat_eq keys →
    IsDistinct nat_eq (with_key at change keys)
unfolding IsDistinct
distinct_with at None keys none distinct = distinct
distinct_with at (Some page) keys none distinct = (none, distinct)

pub distinct-page_keys : (entries : List (ℕ × Option Boxed)) → IsDistinct nat_eq (keys_of entries) → IsDistinct nat_eq (page_keys entries)
unfolding page_keys IsDistinct
distinct-page_keys [] distinct = distinct
distinct-page_keys (entry ∷ rest) distinct =
    distinct_with entry.0 entry.1 (page_keys rest) (none-page_keys entry.0 rest distinct.0) (distinct-page_keys rest distinct.1)

-- each stands there exactly where a page was put
member_with : (at key : ℕ) (change : Option Boxed) (keys : List ℕ) (found : Option (Option Boxed)) →
    is_member nat_eq keys at ≡ is_page (option_map (option_map bytes_of) found) →
    (at ≡ key → found ≡ None) →
    is_member nat_eq (with_key key change keys) at ≡ is_page (option_map (option_map bytes_of) (cond (nat_eq at key) (Some change) found))
member_with at key None keys found rest gone = ⊎_elim
    (λ e. grind (arith, common_steps, nat_tests, rest, e, gone e)) (λ ne. grind (arith, common_steps, nat_tests, rest, ne)) (cases_eq at key)
member_with at key (Some page) keys found rest gone = ⊎_elim
    (λ e. grind (arith, common_steps, nat_tests, rest, e, gone e)) (λ ne. grind (arith, common_steps, nat_tests, rest, ne)) (cases_eq at key)

pub member-page_keys : (at : ℕ) (entries : List (ℕ × Option Boxed)) → IsDistinct nat_eq (keys_of entries) →
    is_member nat_eq (page_keys entries) at ≡ is_page (option_map (option_map bytes_of) (lookup (nat_eq at) entries))
unfolding page_keys IsDistinct
member-page_keys at [] distinct = refl
member-page_keys at (entry ∷ rest) distinct =
    member_with at entry.0 entry.1 (page_keys rest) (lookup (nat_eq at) rest) (member-page_keys at rest distinct.1)
    (λ e. subst (λ (key : ℕ). lookup (nat_eq key) rest ≡ None) (sym e) (absent entry.0 rest distinct.0))

-- one of them put a page, or took one out
with_some : (at : ℕ) (change : Option Boxed) (keys : List ℕ) → is_some change ≡ true → with_key at change keys ≡ at ∷ keys
with_some at None keys some = absurd (grind (arith, some))
with_some at (Some page) keys some = refl

with_none : (at : ℕ) (change : Option Boxed) (keys : List ℕ) → is_some change ≡ false → with_key at change keys ≡ keys
with_none at None keys none = refl
with_none at (Some page) keys none = absurd (grind (arith, none))

pub listed_page : (keys pushed : List ℕ) (entries rest : List (ℕ × Option Boxed)) (entry : ℕ × Option Boxed) → entries ≡ entry ∷ rest →
    is_some entry.1 ≡ true →
    pushed ≡ keys ++ entry.0 ∷ [] → pushed ++ page_keys rest ≡ keys ++ page_keys entries
unfolding page_keys
listed_page keys pushed entries rest entry more some push =
    ap (λ (ks : List ℕ). ks ++ page_keys rest) push ∙ append_assoc keys (entry.0 ∷ []) (page_keys rest) ∙
    ap (λ (ks : List ℕ). keys ++ ks) (sym (with_some entry.0 entry.1 (page_keys rest) some)) ∙ sym (ap (λ es. keys ++ page_keys es) more)

pub listed_none : (keys : List ℕ) (entries rest : List (ℕ × Option Boxed)) (entry : ℕ × Option Boxed) → entries ≡ entry ∷ rest → is_some entry.1 ≡ false →
    keys ++ page_keys rest ≡ keys ++ page_keys entries
unfolding page_keys
listed_none keys entries rest entry more none =
    ap (λ (ks : List ℕ). keys ++ ks) (sym (with_none entry.0 entry.1 (page_keys rest) none)) ∙ sym (ap (λ es. keys ++ page_keys es) more)

-- none is left
pub listed_all : (keys : List ℕ) (entries all : List (ℕ × Option Boxed)) → keys ++ page_keys entries ≡ page_keys all → entries ≡ [] → keys ≡ page_keys all
unfolding page_keys
listed_all keys entries all so_far done = sym (append-nil keys) ∙ ap (λ es. keys ++ page_keys es) (sym done) ∙ so_far
