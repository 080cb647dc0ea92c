-- Walks along paths without ids: they end in what is shown now.
use Rattle.std.proofs.Common.{◌≡◌, ℕ, List, [], ◌∷◌, ◌++◌, Bool, true, false, Option, Some, None, refl, sym, ap, subst, ◌∙◌}
use Rattle.std.specs.Prelude.{◌||◌, if◌then◌else◌}
use Rattle.std.specs.List.{list_any}
use Rattle.std.specs.Option.{option_map_or}
use Rattle.hm_types.specs.Tree.{named_in}
use Rattle.hm_types.specs.declared.id.Id.{Id}
use Rattle.hm_types.specs.declared.id.Obj.{Obj}
use Rattle.hm_types.specs.declared.object.Object.{Object}
use Rattle.hm_path.specs.declared.part.Part.{Part}
use Rattle.hm_model.specs.Due.{has_id}
use Rattle.hm_model.specs.Sites.{At, Parts, Site, front_of, last_name, standing_name}
use Rattle.hm_model.specs.View.{Now, Position, View, When, object_at}
use Rattle.hm_model.specs.Volume.{PseudoFileSystem, Volume, system_of}
use Rattle.hm_model.specs.Walk.{Follow, Follows, Passed, Reaches, Refuses, Stays, TakesPfs, Walked, and_then, by_id, by_name, enter, find_name}
use Rattle.hm_model.specs.Walk.{find_object, follow_before, from_found, is_directory, is_seen, linked_in, look_at_root, over_link, reach, root_of}
use Rattle.hm_model.specs.Walk.{start, step, walk, walk_on}
use Rattle.hm_model.specs.declared.reply.Reply.{Reply}
use Rattle.hm_model.specs.declared.reply.Reply.TheVariants.{NotDir, NotFound, NotRetained}
use Rattle.hm_model.proofs.PlaceLemmas.{front_of-split}
use Rattle.hm_model.proofs.WalkLemmas.{walk_on-last}
pub use Rattle.hm_calls.specs.Scenes.{IsStanding}

-- ---- where a walk ends

-- a walk that comes to an end comes to what is shown now
abbrev pub EndsNow : Walked → Type 0
EndsNow (Reaches here passed) = here.when ≡ Now
EndsNow (Refuses reply passed) = Unit {0}

then_now : (walked : Walked) (next : Position → Passed → Walked) → EndsNow walked
    → ((here : Position) (passed : Passed) → here.when ≡ Now → EndsNow (next here passed)) → EndsNow (and_then walked next)
then_now (Reaches here passed) next now goes = goes here passed now
then_now (Refuses reply passed) next now goes = tt

if_now : (test : Bool) (a b : Walked) → EndsNow a → EndsNow b → EndsNow (if test then a else b)
if_now true a b of_a of_b = of_a
if_now false a b of_a of_b = of_b

some_now : {X : Type 0} (f : X → Walked) (found : Option X) (other : Walked) → ((x : X) → EndsNow (f x)) → EndsNow other
    → EndsNow (option_map_or f found other)
some_now f None other of_some of_none = of_none
some_now f (Some x) other of_some of_none = of_some x

enter_now : (volume : Volume) (view : View) (pfs : ℕ) (when : When) (passed : Passed) → when ≡ Now → EndsNow (enter volume view pfs when passed)
enter_now volume view pfs when passed now =
    some_now (λ (s : PseudoFileSystem). and_then (reach (root_of pfs when) passed) (look_at_root volume view)) (system_of volume pfs)
    (Refuses NotFound passed)
    (λ s. then_now (reach (root_of pfs when) passed) (look_at_root volume view) now
    (λ here more there.
    if_now (is_seen volume here.pfs here.when) (option_map_or (λ _. Reaches here more) (object_at view here) (Refuses NotFound more))
    (Refuses NotRetained more)
    (some_now (λ (o : Object). Reaches here more) (object_at view here) (Refuses NotFound more) (λ o. there) tt) tt)) tt

link_now : (volume : Volume) (view : View) (mode : Follow) (pfs : ℕ) (here : Position) (passed : Passed) → here.when ≡ Now
    → EndsNow (over_link volume view mode pfs here passed)
link_now volume view Stays pfs here passed now = now
link_now volume view Follows pfs here passed now = enter_now volume view pfs here.when passed now
link_now volume view TakesPfs pfs here passed now =
    some_now (λ (s : PseudoFileSystem). Reaches (root_of pfs here.when) passed) (system_of volume pfs) (Refuses NotFound passed) (λ s. now) tt

object_now : (volume : Volume) (view : View) (mode : Follow) (here : Position) (passed : Passed) → here.when ≡ Now
    → EndsNow (find_object volume view mode here passed)
object_now volume view mode here passed now =
    some_now (λ (o : Object). and_then (reach here passed) (from_found volume view mode o)) (object_at view here) (Refuses NotFound passed)
    (λ o. then_now (reach here passed) (from_found volume view mode o) now
    (λ at more at_now. some_now (λ (pfs : ℕ). over_link volume view mode pfs at more) (linked_in o.content) (Reaches at more)
    (λ pfs. link_now volume view mode pfs at more at_now) at_now)) tt

name_now : (volume : Volume) (view : View) (mode : Follow) (name : Option (List ℕ)) (here : Position) (passed : Passed) → here.when ≡ Now
    → EndsNow (by_name volume view mode name here passed)
name_now volume view mode None here passed now = now
name_now volume view mode (Some name) here passed now =
    if_now (option_map_or is_directory (object_at view here) false) (find_name volume view mode name here passed) (Refuses NotDir passed)
    (some_now (λ (number : Obj). find_object volume view mode (record here { object = number }) passed) (named_in (view here.pfs here.when) here.object name)
    (Refuses NotFound passed) (λ number. object_now volume view mode (record here { object = number }) passed now) tt) tt

-- whether a part has an id
abbrev pub part_has_id : Part → Bool
part_has_id part = option_map_or (λ id. true) part.as_of false

or_none : (a b : Bool) → (a || b) ≡ false → (a ≡ false) × (b ≡ false)
or_none true b is = absurd (cc)
or_none false b is = (refl, is)

step_now : (volume : Volume) (view : View) (mode : Follow) (part : Part) (as_of : Option Id) (here : Position) (passed : Passed)
    → option_map_or (λ (id : Id). true) as_of false ≡ false → here.when ≡ Now
    → EndsNow (and_then (by_id volume view as_of here passed) (by_name volume view mode part.name))
step_now volume view mode part None here passed none now = name_now volume view mode part.name here passed now
step_now volume view mode part (Some id) here passed none now = absurd (cc)

pub walk_now : (volume : Volume) (view : View) (mode : Follow) (parts : List Part) (here : Position) (passed : Passed)
    → list_any part_has_id parts ≡ false → here.when ≡ Now → EndsNow (walk_on volume view mode parts here passed)
walk_now volume view mode [] here passed none now = now
walk_now volume view mode (part ∷ parts) here passed none now =
    let both = or_none (part_has_id part) (list_any part_has_id parts) none in
    then_now (step volume view (follow_before mode parts) part here passed) (λ at more. walk_on volume view mode parts at more)
    (step_now volume view (follow_before mode parts) part part.as_of here passed both.0 now)
    (λ at more at_now. walk_now volume view mode parts at more both.1 at_now)

-- ---- a step by a name, which does not follow a link

if_reaches : (test : Bool) (a : Walked) (reply : Reply) (passed more : Passed) (here : Position)
    → (if test then a else Refuses reply passed) ≡ Reaches here more → a ≡ Reaches here more
if_reaches true a reply passed more here is = is
if_reaches false a reply passed more here is = absurd (cc)

record IsSomeReaching {X : Type 0} (f : X → Walked) (found : Option X) (here : Position) (more : Passed) : Type 0 where
  pub x : X
  pub some : found ≡ Some x
  pub is : f x ≡ Reaches here more

some_reaches : {X : Type 0} (f : X → Walked) (found : Option X) (reply : Reply) (passed more : Passed) (here : Position)
    → option_map_or f found (Refuses reply passed) ≡ Reaches here more → IsSomeReaching f found here more
some_reaches f None reply passed more here is = absurd (cc)
some_reaches f (Some x) reply passed more here is = record { x = x; some = refl; is = is }

found_stays : (volume : Volume) (view : View) (o : Object) (linked : Option ℕ) (at here : Position) (passed more : Passed)
    → option_map_or (λ pfs. over_link volume view Stays pfs at passed) linked (Reaches at passed) ≡ Reaches here more → here ≡ at
found_stays volume view o None at here passed more is = cc
found_stays volume view o (Some pfs) at here passed more is = cc

step_stays : (volume : Volume) (view : View) (part : Part) (name : List ℕ) (as_of : Option Id) (written : Option (List ℕ)) (directory here : Position)
    (passed more : Passed)
    → option_map_or (λ (id : Id). true) as_of false ≡ false → written ≡ Some name → directory.when ≡ Now
    → and_then (by_id volume view as_of directory passed) (by_name volume view Stays written) ≡ Reaches here more → IsStanding view name directory here
step_stays volume view part name (Some id) written directory here passed more none is now walked = absurd (cc)
step_stays volume view part name None None directory here passed more none is now walked = absurd (cc)
step_stays volume view part name None (Some n) directory here passed more none is now walked =
    let same : n ≡ name = cc in
    let found = if_reaches (option_map_or is_directory (object_at view directory) false) (find_name volume view Stays n directory passed) NotDir passed more
    here walked in
    let by = some_reaches (λ (number : Obj). find_object volume view Stays (record directory { object = number }) passed)
    (named_in (view directory.pfs directory.when) directory.object n) NotFound passed more here found in
    let at : Position = record directory { object = by.x } in
    let of = some_reaches (λ (o : Object). and_then (reach at passed) (from_found volume view Stays o)) (object_at view at) NotFound passed more here by.is in
    let at_is : here ≡ at = found_stays volume view of.x (linked_in of.x.content) at here (passed ++ (at.pfs, at.object.0) ∷ []) more of.is in
    record {
      now = now;
      number = by.x;
      named = subst (λ (w : When). named_in (view directory.pfs w) directory.object name ≡ Some by.x) now
          (subst (λ (m : List ℕ). named_in (view directory.pfs directory.when) directory.object m ≡ Some by.x) same by.some);
      at_is = at_is;
      object = of.x;
      there = subst (λ (p : Position). object_at view p ≡ Some of.x) (sym at_is) of.some;
    }

-- ---- a name that a call takes

-- parts with a last name are some parts and the one with the name
record IsSplit (parts : List Part) (name : List ℕ) : Type 0 where
  pub front : List Part
  pub last : Part
  pub parts_are : parts ≡ front ++ last ∷ []
  pub name_is : last.name ≡ Some name

split : (parts : List Part) (name : List ℕ) → last_name parts ≡ Some name → IsSplit parts name
split [] name is = absurd (cc)
split (part ∷ []) name is = record { front = []; last = part; parts_are = refl; name_is = is }
split (part ∷ next ∷ parts) name is =
    let rest = split (next ∷ parts) name is in
    record { front = part ∷ rest.front; last = rest.last; parts_are = ap (λ ps. part ∷ ps) rest.parts_are; name_is = rest.name_is }

any_split : (front : List Part) (last : Part) → list_any part_has_id (front ++ last ∷ []) ≡ false
    → (list_any part_has_id front ≡ false) × (part_has_id last ≡ false)
any_split [] last is = (refl, (or_none (part_has_id last) false is).0)
any_split (part ∷ front) last is =
    let both = or_none (part_has_id part) (list_any part_has_id (front ++ last ∷ [])) is in
    let rest = any_split front last both.1 in
    (subst (λ (b : Bool). (b || list_any part_has_id front) ≡ false) (sym both.0) rest.0, rest.1)

standing_in : (volume : Volume) (view : View) (name : List ℕ) (last : Part) (before : Walked) (site : Site) → EndsNow before
    → part_has_id last ≡ false → last.name ≡ Some name
    → standing_name (Some name) before (and_then before (step volume view Stays last)) ≡ At site
    → IsStanding view name site.directory site.at × (site.name ≡ name)
standing_in volume view name last (Refuses reply passed) site now none named is = absurd (cc)
standing_in volume view name last (Reaches directory passed) site now none named is =
    by_end (step volume view Stays last directory passed) refl is where
      by_end : (whole : Walked) → step volume view Stays last directory passed ≡ whole
          → standing_name (Some name) (Reaches directory passed) whole ≡ At site
          → IsStanding view name site.directory site.at × (site.name ≡ name)
      by_end (Refuses reply more) walked is = absurd (cc)
      by_end (Reaches here more) walked is =
          let same : record { at = here; directory = directory; name = name; passed = passed } ≡ site = site_one _ site is in
          subst (λ (s : Site). IsStanding view name s.directory s.at × (s.name ≡ name)) same
          (step_stays volume view last name last.as_of last.name directory here passed more none named now walked, refl) where
            site_one : (a b : Site) → At a ≡ At b → a ≡ b
            site_one a b is = cc

-- A name that stands there, by a path without ids, is one of a directory that is seen now, and leads to an object beside it.
pub stands : (volume : Volume) (view : View) (parts : List Part) (name : List ℕ) (site : Site) → has_id (Parts parts) ≡ false
    → last_name parts ≡ Some name
    → standing_name (last_name parts) (walk volume view Follows (front_of parts)) (walk volume view Stays parts) ≡ At site
    → IsStanding view name site.directory site.at × (site.name ≡ name)
stands volume view parts name site none named is =
    let s = split parts name named in
    let both = any_split s.front s.last (subst (λ (ps : List Part). list_any part_has_id ps ≡ false) s.parts_are none) in
    let front_is : front_of parts ≡ s.front = ap front_of s.parts_are ∙ front_of-split s.front s.last in
    let whole_is : walk volume view Stays parts ≡ and_then (walk volume view Follows s.front) (step volume view Stays s.last) =
    ap (walk volume view Stays) s.parts_are ∙ walk_on-last volume view Stays s.front s.last start ((0, 1) ∷ []) in
    standing_in volume view name s.last (walk volume view Follows s.front) site (walk_now volume view Follows s.front start ((0, 1) ∷ []) both.0 refl)
    both.1 s.name_is
    (ap (λ o. standing_name o (walk volume view Follows s.front) (and_then (walk volume view Follows s.front) (step volume view Stays s.last))) (sym named)
    ∙ (ap (λ w. standing_name (last_name parts) w (and_then (walk volume view Follows s.front) (step volume view Stays s.last))) (ap (walk volume view
    Follows) (sym front_is))
    ∙ (ap (λ w. standing_name (last_name parts) (walk volume view Follows (front_of parts)) w) (sym whole_is) ∙ is)))
