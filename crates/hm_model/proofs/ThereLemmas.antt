-- Walks end in PFS that are there, and no event takes one away.
use Rattle.std.proofs.Common.{◌≡◌, ℕ, true, false, List, [], ◌∷◌, ◌++◌, refl, ◌∙◌}
use Rattle.std.specs.Prelude.{Bool, Option, Some, None, if◌then◌else◌}
use Rattle.std.specs.Option.{option_map_or}
use Rattle.hm_types.specs.declared.id.Id.{Id}
use Rattle.hm_path.specs.declared.part.Part.{Part}
use Rattle.hm_types.specs.declared.object.Object.{Object}
use Rattle.hm_model.specs.declared.command.Command.{Command}
use Rattle.hm_model.specs.declared.command.Command.TheVariants.{MirrorCopy, MirrorWrite, PfsUpgrade}
use Rattle.hm_model.specs.declared.reply.Reply.TheVariants.{NotDir, NotFound, NotRetained}
use Rattle.hm_model.specs.Call.{Call, each_located, first_of, located, second_of, site_in}
use Rattle.hm_model.specs.Laws.{IsThere, rewrites}
use Rattle.hm_model.specs.Sites.{BadAt, Parsed, Parts, Walks, at_end, uses_of}
use Rattle.hm_model.specs.View.{AsOf, Position, View, When, object_at}
use Rattle.hm_model.specs.Volume.{PseudoFileSystem, Volume, system_of}
use Rattle.hm_model.specs.Walk.{Follow, Follows, Passed, Reaches, Refuses, Stays, TakesPfs, Walked, and_then, by_id, by_name, enter, find_name}
use Rattle.hm_model.specs.Walk.{find_object, from_found, is_directory, is_kept, is_seen, linked_in, look_at_root, over_link, reach, root_of, start}
use Rattle.hm_model.specs.Walk.{step, take_pfs, walk, walk_on, follow_before}
use Rattle.hm_model.proofs.CheckLemmas.{written_site}

-- a walk that ends somewhere ends in a PFS that is there
abbrev pub EndsThere : Volume → Walked → Type 0
EndsThere volume (Reaches here passed) = IsThere volume here.pfs
EndsThere volume (Refuses reply passed) = Unit {0}

then_there : (volume : Volume) (walked : Walked) (next : Position → Passed → Walked) → EndsThere volume walked →
    ((here : Position) (passed : Passed) → IsThere volume here.pfs → EndsThere volume (next here passed)) → EndsThere volume (and_then walked next)
then_there volume (Reaches here passed) next there goes = goes here passed there
then_there volume (Refuses reply passed) next there goes = tt

if_there : (volume : Volume) (test : Bool) (a b : Walked) → EndsThere volume a → EndsThere volume b → EndsThere volume (if test then a else b)
if_there volume true a b of_a of_b = of_a
if_there volume false a b of_a of_b = of_b

some_there : {X : Type 0} (volume : Volume) (f : X → Walked) (found : Option X) (other : Walked) →
    ((x : X) → found ≡ Some x → EndsThere volume (f x)) → EndsThere volume other → EndsThere volume (option_map_or f found other)
some_there volume f None other of_some of_none = of_none
some_there volume f (Some x) other of_some of_none = of_some x refl

-- by an id
id_there : (volume : Volume) (view : View) (as_of : Option Id) (here : Position) (passed : Passed) → IsThere volume here.pfs →
    EndsThere volume (by_id volume view as_of here passed)
id_there volume view None here passed there = there
id_there volume view (Some id) here passed there =
    if_there volume (is_kept volume here.pfs id.0)
    (option_map_or (λ _. Reaches (record here { when = AsOf id.0 }) passed) (object_at view (record here { when = AsOf id.0 }))
    (Refuses NotFound passed)) (Refuses NotRetained passed)
    (some_there volume (λ (o : Object). Reaches (record here { when = AsOf id.0 }) passed) (object_at view (record here { when = AsOf id.0 }))
    (Refuses NotFound passed) (λ o found. there) tt) tt

-- into a PFS
enter_there : (volume : Volume) (view : View) (pfs : ℕ) (when : When) (passed : Passed) → EndsThere volume (enter volume view pfs when passed)
enter_there volume view pfs when passed =
    some_there volume (λ (s : PseudoFileSystem). and_then (reach (root_of pfs when) passed) (look_at_root volume view)) (system_of volume pfs)
    (Refuses NotFound passed)
    (λ s found.
    then_there volume (reach (root_of pfs when) passed) (look_at_root volume view) (s, found)
    (λ here more there.
    if_there volume (is_seen volume here.pfs here.when) (option_map_or (λ _. Reaches here more) (object_at view here) (Refuses NotFound more))
    (Refuses NotRetained more)
    (some_there volume (λ (o : Object). Reaches here more) (object_at view here) (Refuses NotFound more) (λ o found_o. there) tt) tt)) tt

take_there : (volume : Volume) (pfs : ℕ) (when : When) (passed : Passed) → EndsThere volume (take_pfs volume pfs when passed)
take_there volume pfs when passed =
    some_there volume (λ (s : PseudoFileSystem). Reaches (root_of pfs when) passed) (system_of volume pfs) (Refuses NotFound passed) (λ s found. (s, found)) tt

link_there : (volume : Volume) (view : View) (mode : Follow) (pfs : ℕ) (here : Position) (passed : Passed) → IsThere volume here.pfs →
    EndsThere volume (over_link volume view mode pfs here passed)
link_there volume view Stays pfs here passed there = there
link_there volume view Follows pfs here passed there = enter_there volume view pfs here.when passed
link_there volume view TakesPfs pfs here passed there = take_there volume pfs here.when passed

-- by a name
object_there : (volume : Volume) (view : View) (mode : Follow) (here : Position) (passed : Passed) → IsThere volume here.pfs →
    EndsThere volume (find_object volume view mode here passed)
object_there volume view mode here passed there =
    some_there volume (λ (o : Object). and_then (reach here passed) (from_found volume view mode o)) (object_at view here) (Refuses NotFound passed)
    (λ o found.
    then_there volume (reach here passed) (from_found volume view mode o) there
    (λ at more at_there. some_there volume (λ (pfs : ℕ). over_link volume view mode pfs at more) (linked_in o.content) (Reaches at more)
    (λ pfs linked. link_there volume view mode pfs at more at_there) at_there)) tt

name_there : (volume : Volume) (view : View) (mode : Follow) (name : Option (List ℕ)) (here : Position) (passed : Passed) → IsThere volume here.pfs →
    EndsThere volume (by_name volume view mode name here passed)
name_there volume view mode None here passed there = there
name_there volume view mode (Some name) here passed there =
    if_there volume (option_map_or is_directory (object_at view here) false) (find_name volume view mode name here passed) (Refuses NotDir passed)
    (some_there volume _ _ (Refuses NotFound passed) (λ number found. object_there volume view mode (record here { object = number }) passed there) tt) tt

-- along all parts
walk_there : (volume : Volume) (view : View) (mode : Follow) (parts : List Part) (here : Position) (passed : Passed) → IsThere volume here.pfs →
    EndsThere volume (walk_on volume view mode parts here passed)
walk_there volume view mode [] here passed there = there
walk_there volume view mode (part ∷ parts) here passed there =
    then_there volume (step volume view (follow_before mode parts) part here passed) (λ at more. walk_on volume view mode parts at more)
    (then_there volume (by_id volume view part.as_of here passed) (by_name volume view (follow_before mode parts) part.name)
    (id_there volume view part.as_of here passed there)
    (λ at more at_there. name_there volume view (follow_before mode parts) part.name at more at_there))
    (λ at more at_there. walk_there volume view mode parts at more at_there)

-- the site at the end of a walk, where there is one, or the start of all walks
end_there : (volume : Volume) (walked : Walked) → IsThere volume 0 → EndsThere volume walked → IsThere volume (site_in (at_end walked)).at.pfs
end_there volume (Reaches here passed) root there = there
end_there volume (Refuses reply passed) root there = root

located_there : (call : Call) (mode : Follow) (path : Parsed) → IsThere call.volume 0 → IsThere call.volume (site_in (located call (Walks mode) path)).at.pfs
located_there call mode (Parts parts) root =
    end_there call.volume (walk call.volume call.view mode parts) root (walk_there call.volume call.view mode parts start ((0, 1) ∷ []) root)
located_there call mode (BadAt place) root = root

one_there : (call : Call) (mode : Follow) (word : List ℕ) (paths : List Parsed) → IsThere call.volume 0 →
    IsThere call.volume (first_of (each_located call ((Walks mode, word) ∷ []) paths)).at.pfs
one_there call mode word [] root = root
one_there call mode word (path ∷ paths) root = located_there call mode path root

two_there : (call : Call) (mode : Follow) (a b : List ℕ) (paths : List Parsed) → IsThere call.volume 0 →
    IsThere call.volume (second_of (each_located call ((Walks mode, a) ∷ (Walks mode, b) ∷ []) paths)).at.pfs
two_there call mode a b [] root = root
two_there call mode a b (path ∷ paths) root = one_there call mode b paths root

-- so a call that rewrites a PFS works on one that is there
pub written_there : (call : Call) (command : Command) → rewrites command ≡ true → IsThere call.volume 0 →
    IsThere call.volume (written_site command (first_of (each_located call (uses_of command) call.paths))
    (second_of (each_located call (uses_of command) call.paths))).at.pfs
written_there call (PfsUpgrade path) writes root = one_there call TakesPfs path call.paths root
written_there call (MirrorWrite path) writes root = one_there call TakesPfs path call.paths root
written_there call (MirrorCopy master slave limit) writes root = two_there call TakesPfs master slave call.paths root
written_there call command writes root = absurd (cc)
