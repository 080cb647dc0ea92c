-- Each check that fails gives a refusal.
use Rattle.std.proofs.Common.{◌≡◌, ℕ, true, false, List, [], ◌∷◌, ◌++◌, map, refl}
use Rattle.std.specs.Prelude.{Bool, Option, Some, None, if◌then◌else◌}
use Rattle.std.specs.List.{AllByRecursion}
use Rattle.std.specs.Option.{option_map_or}
use Rattle.hm_types.specs.declared.id.Id.{Id}
use Rattle.hm_path.specs.declared.part.Part.{Part}
use Rattle.hm_types.specs.declared.object.Object.{Object}
use Rattle.hm_model.specs.declared.reply.Reply.{Reply}
use Rattle.hm_model.specs.declared.reply.Reply.TheVariants.{NotDir, NotFound, NotRetained}
use Rattle.hm_model.specs.Call.{Call, each_located, located}
use Rattle.hm_model.specs.Due.{Check, first_refusal, walks}
use Rattle.hm_model.specs.Reply.{is_refusal}
use Rattle.hm_model.specs.Sites.{At, BadAt, Located, Nowhere, Parsed, Parts, Use, MakesName, TakesName, Walks, at_end, front_of, in_directory}
use Rattle.hm_model.specs.Sites.{last_name, locate, standing_name}
use Rattle.hm_model.specs.View.{AsOf, Position, View, When, object_at}
use Rattle.hm_model.specs.Volume.{PseudoFileSystem, Volume}
use Rattle.hm_model.specs.Walk.{Follow, Follows, Stays, TakesPfs, Passed, Reaches, Refuses, Walked, and_then, by_id, by_name, enter, enter_root}
use Rattle.hm_model.specs.Walk.{find_name, find_object, follow_before, from_found, is_directory, is_kept, is_seen, linked_in, look_at_root, over_link}
use Rattle.hm_model.specs.Walk.{reach, root_of, start, step, walk, walk_on}

-- where a walk is refused, its reply refuses
abbrev pub WalkRefuses : Walked → Type 0
WalkRefuses (Reaches here passed) = Unit {0}
WalkRefuses (Refuses reply passed) = is_refusal reply ≡ true

pub of_option : {X Y : Type 0} (P : Y → Type 0) (f : X → Y) (o : Option X) (d : Y) → ((x : X) → P (f x)) → P d → P (option_map_or f o d)
of_option P f None d some none = none
of_option P f (Some x) d some none = some x

pub of_test : {Y : Type 0} (P : Y → Type 0) (test : Bool) (a b : Y) → P a → P b → P (if test then a else b)
of_test P true a b of_a of_b = of_a
of_test P false a b of_a of_b = of_b

of_and_then : (walked : Walked) (next : Position → Passed → Walked) → WalkRefuses walked →
    ((here : Position) (passed : Passed) → WalkRefuses (next here passed)) → WalkRefuses (and_then walked next)
of_and_then (Reaches here passed) next refuses each = each here passed
of_and_then (Refuses reply passed) next refuses each = refuses

enter_refuses : (volume : Volume) (view : View) (pfs : ℕ) (when : When) (passed : Passed) → WalkRefuses (enter volume view pfs when passed)
enter_refuses volume view pfs when passed =
    of_option WalkRefuses (λ (s : PseudoFileSystem). enter_root volume view pfs when passed) _ (Refuses NotFound passed)
    (λ s. of_and_then (reach (root_of pfs when) passed) (look_at_root volume view) tt (λ here more.
    of_test WalkRefuses (is_seen volume here.pfs here.when)
    (option_map_or (λ (o : Object). Reaches here more) (object_at view here) (Refuses NotFound more)) (Refuses NotRetained more)
    (of_option WalkRefuses (λ (o : Object). Reaches here more) (object_at view here) (Refuses NotFound more) (λ o. tt) refl) refl)) refl

link_refuses : (volume : Volume) (view : View) (follow : Follow) (pfs : ℕ) (here : Position) (passed : Passed) →
    WalkRefuses (over_link volume view follow pfs here passed)
link_refuses volume view Stays pfs here passed = tt
link_refuses volume view Follows pfs here passed = enter_refuses volume view pfs here.when passed
link_refuses volume view TakesPfs pfs here passed =
    of_option WalkRefuses (λ (s : PseudoFileSystem). Reaches (root_of pfs here.when) passed) _ (Refuses NotFound passed) (λ s. tt) refl

object_refuses : (volume : Volume) (view : View) (follow : Follow) (here : Position) (passed : Passed) →
    WalkRefuses (find_object volume view follow here passed)
object_refuses volume view goes here passed =
    of_option WalkRefuses (λ (o : Object). and_then (reach here passed) (from_found volume view goes o)) (object_at view here) (Refuses NotFound passed)
    (λ o. of_and_then (reach here passed) (from_found volume view goes o) tt (λ there more.
    of_option WalkRefuses (λ (pfs : ℕ). over_link volume view goes pfs there more) (linked_in o.content) (Reaches there more)
    (λ pfs. link_refuses volume view goes pfs there more) tt)) refl

name_refuses : (volume : Volume) (view : View) (follow : Follow) (name : Option (List ℕ)) (here : Position) (passed : Passed) →
    WalkRefuses (by_name volume view follow name here passed)
name_refuses volume view goes None here passed = tt
name_refuses volume view goes (Some name) here passed =
    of_test WalkRefuses (option_map_or is_directory (object_at view here) false) (find_name volume view goes name here passed) (Refuses NotDir passed)
    (of_option WalkRefuses (λ number. find_object volume view goes (record here { object = number }) passed) _ (Refuses NotFound passed)
    (λ number. object_refuses volume view goes (record here { object = number }) passed) refl) refl

id_refuses : (volume : Volume) (view : View) (id : Option Id) (here : Position) (passed : Passed) → WalkRefuses (by_id volume view id here passed)
id_refuses volume view None here passed = tt
id_refuses volume view (Some id) here passed =
    of_test WalkRefuses (is_kept volume here.pfs id.0)
    (option_map_or (λ (o : Object). Reaches (record here { when = AsOf id.0 }) passed) (object_at view (record here { when = AsOf id.0 }))
    (Refuses NotFound passed))
    (Refuses NotRetained passed)
    (of_option WalkRefuses (λ (o : Object). Reaches (record here { when = AsOf id.0 }) passed) (object_at view (record here { when = AsOf id.0 }))
    (Refuses NotFound passed) (λ o. tt) refl) refl

walk_refuses : (volume : Volume) (view : View) (follow : Follow) (parts : List Part) (here : Position) (passed : Passed) →
    WalkRefuses (walk_on volume view follow parts here passed)
walk_refuses volume view goes [] here passed = tt
walk_refuses volume view goes (part ∷ parts) here passed =
    of_and_then (step volume view (follow_before goes parts) part here passed) (λ there more. walk_on volume view goes parts there more)
    (of_and_then (by_id volume view part.as_of here passed) (by_name volume view (follow_before goes parts) part.name)
    (id_refuses volume view part.as_of here passed) (name_refuses volume view (follow_before goes parts) part.name))
    (walk_refuses volume view goes parts)

-- where a path leads nowhere, the reply refuses
abbrev pub SiteRefuses : Located → Type 0
SiteRefuses (At site) = Unit {0}
SiteRefuses (Nowhere reply passed) = is_refusal reply ≡ true

end_refuses : (walked : Walked) → WalkRefuses walked → SiteRefuses (at_end walked)
end_refuses (Reaches here passed) refuses = tt
end_refuses (Refuses reply passed) refuses = refuses

directory_refuses : (view : View) (name : Option (List ℕ)) (walked : Walked) → WalkRefuses walked → SiteRefuses (in_directory view name walked)
directory_refuses view None walked refuses = end_refuses walked refuses
directory_refuses view (Some name) (Refuses reply passed) refuses = refuses
directory_refuses view (Some name) (Reaches here passed) refuses =
    of_test SiteRefuses (option_map_or is_directory (object_at view here) false) (At (record { at = here; directory = here; name = name; passed = passed }))
    (Nowhere NotDir passed) tt refl

standing_refuses : (name : Option (List ℕ)) (before whole : Walked) → WalkRefuses before → WalkRefuses whole → SiteRefuses (standing_name name before whole)
standing_refuses None before whole first all = end_refuses whole all
standing_refuses (Some name) (Refuses reply passed) whole first all = first
standing_refuses (Some name) (Reaches directory passed) (Refuses reply more) first all = all
standing_refuses (Some name) (Reaches directory passed) (Reaches here more) first all = tt

locate_refuses : (volume : Volume) (view : View) (u : Use) (parts : List Part) → SiteRefuses (locate volume view u parts)
locate_refuses volume view MakesName parts =
    directory_refuses view (last_name parts) (walk volume view Follows (front_of parts)) (walk_refuses volume view Follows (front_of parts) start ((0, 1) ∷ []))
locate_refuses volume view TakesName parts =
    standing_refuses (last_name parts) (walk volume view Follows (front_of parts)) (walk volume view Stays parts)
    (walk_refuses volume view Follows (front_of parts) start ((0, 1) ∷ [])) (walk_refuses volume view Stays parts start ((0, 1) ∷ []))
locate_refuses volume view (Walks follow) parts = end_refuses (walk volume view follow parts) (walk_refuses volume view follow parts start ((0, 1) ∷ []))

-- a check gives nothing or a refusal
abbrev pub CheckRefuses : Check → Type 0
CheckRefuses None = Unit {0}
CheckRefuses (Some reply) = is_refusal reply ≡ true

abbrev pub AllRefuse : List Check → Type 0
AllRefuse list = AllByRecursion CheckRefuses list

pub all_append : (xs ys : List Check) → AllRefuse xs → AllRefuse ys → AllRefuse (xs ++ ys)
all_append [] ys of_xs of_ys = of_ys
all_append (x ∷ xs) ys of_xs of_ys = (of_xs.0, all_append xs ys of_xs.1 of_ys)

pub first_refuses : (list : List Check) (reply : Reply) → AllRefuse list → first_refusal list ≡ Some reply → is_refusal reply ≡ true
first_refuses [] reply all is = absurd (cc)
first_refuses (None ∷ list) reply all is = first_refuses list reply all.1 is
first_refuses (Some r ∷ list) reply all is = let same : r ≡ reply = cc in rw (← same) all.0

pub walks_refuse : (call : Call) (uses : List (Use × List ℕ)) (paths : List Parsed) → AllRefuse (map walks (each_located call uses paths))
walks_refuse call [] paths = tt
walks_refuse call (u ∷ uses) [] = tt
walks_refuse call (u ∷ uses) (path ∷ paths) = (site (located call u.0 path) (at path), walks_refuse call uses paths)
  where
    site : (l : Located) → SiteRefuses l → CheckRefuses (walks l)
    site (At s) refuses = tt
    site (Nowhere reply passed) refuses = refuses

    at : (p : Parsed) → SiteRefuses (located call u.0 p)
    at (Parts parts) = locate_refuses call.volume call.view u.0 parts
    at (BadAt place) = tt
