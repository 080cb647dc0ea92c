-- Which refusals the checks of a call can give.
use Rattle.std.proofs.Common.{◌≡◌, ℕ, Bool, true, false, List, [], ◌∷◌, ◌++◌, map, refl, ap, inl, inr}
use Rattle.std.specs.Prelude.{◌⊎◌, Option, None, Some, if◌then◌else◌}
use Rattle.std.specs.List.{list_any}
use Rattle.std.specs.Option.{option_map_or}
use Rattle.hm_types.specs.Tree.{named_in}
use Rattle.hm_types.specs.declared.id.Id.{Id}
use Rattle.hm_types.specs.declared.id.Obj.{Obj}
use Rattle.hm_types.specs.declared.object.Object.{Object}
use Rattle.hm_path.specs.declared.part.Part.{Part}
use Rattle.hm_model.specs.Call.{Call, each_located, located}
use Rattle.hm_model.specs.Due.{Check, first_refusal, has_id, parts_in, walks}
use Rattle.hm_model.specs.Sites.{At, BadAt, MakesName, Nowhere, Parsed, Parts, TakesName, Use, Walks, at_end, front_of, in_directory, last_name, standing_name}
use Rattle.hm_model.specs.View.{AsOf, Now, Position, View, When, object_at}
use Rattle.hm_model.specs.Volume.{PseudoFileSystem, Volume, system_of}
use Rattle.hm_model.specs.Walk.{Follow, Follows, Passed, Reaches, Refuses, Stays, TakesPfs, Walked, and_then, by_id, by_name, enter, enter_root}
use Rattle.hm_model.specs.Walk.{find_name, find_object, follow_before, from_found, is_directory, is_kept, is_seen, linked_in, look_at_root, over_link}
use Rattle.hm_model.specs.Walk.{reach, root_of, start, step, walk, walk_on}
use Rattle.hm_model.specs.declared.reply.Reply.{Reply}
use Rattle.hm_model.specs.declared.reply.Reply.TheVariants.{NotDir, NotFound, NotRetained}
use Rattle.hm_model.proofs.DueLemmas.{of_option, of_test}
use Rattle.hm_model.proofs.EffectLemmas.{or_false}

module _ (P : Reply → Type 0) where
  -- a check gives only such refusals
  abbrev pub OfCheck : Check → Type 0
  OfCheck None = Unit {0}
  OfCheck (Some reply) = P reply

  abbrev pub OfAll : List Check → Type 0
  OfAll [] = Unit {0}
  OfAll (check ∷ checks) = OfCheck check × OfAll checks

  pub first_of_all : (checks : List Check) → OfAll checks → OfCheck (first_refusal checks)
  first_of_all [] all = tt
  first_of_all (None ∷ checks) all = first_of_all checks all.1
  first_of_all (Some reply ∷ checks) all = all.0

  pub all_both : (a b : List Check) → OfAll a → OfAll b → OfAll (a ++ b)
  all_both [] b of_a of_b = of_b
  all_both (check ∷ checks) b of_a of_b = (of_a.0, all_both checks b of_a.1 of_b)

  -- ---- walks

  module _ (lost : P NotFound) (no_directory : P NotDir) where
    -- what an id asks for may not be kept; without one all is looked at as of now
    abbrev Fine : When → Type 0
    Fine when = P NotRetained ⊎ (when ≡ Now)

    abbrev WalkFine : Walked → Type 0
    WalkFine (Reaches here passed) = Fine here.when
    WalkFine (Refuses reply passed) = P reply

    then_fine : (walked : Walked) (next : Position → Passed → Walked) → WalkFine walked
        → ((here : Position) (passed : Passed) → Fine here.when → WalkFine (next here passed)) → WalkFine (and_then walked next)
    then_fine (Reaches here passed) next fine each = each here passed fine
    then_fine (Refuses reply passed) next fine each = fine

    root_fine : (volume : Volume) (view : View) (here : Position) (passed : Passed) → Fine here.when → WalkFine (look_at_root volume view here passed)
    root_fine volume view here passed fine = by (is_seen volume here.pfs here.when) refl where
      by : (test : Bool) → is_seen volume here.pfs here.when ≡ test
          → WalkFine (if test then option_map_or (λ _. Reaches here passed) (object_at view here) (Refuses NotFound passed) else Refuses NotRetained passed)
      by true is = of_option WalkFine (λ (o : Object). Reaches here passed) (object_at view here) (Refuses NotFound passed) (λ o. fine) lost
      by false is = elim fine [
        | inl kept ↦ kept
        | inr now ↦ absurd (let seen : is_seen volume here.pfs here.when ≡ true = ap (is_seen volume here.pfs) now in cc)
      ]

    enter_fine : (volume : Volume) (view : View) (pfs : ℕ) (when : When) (passed : Passed) → Fine when → WalkFine (enter volume view pfs when passed)
    enter_fine volume view pfs when passed fine =
        of_option WalkFine (λ (s : PseudoFileSystem). enter_root volume view pfs when passed) (system_of volume pfs) (Refuses NotFound passed)
        (λ s. then_fine (reach (root_of pfs when) passed) (look_at_root volume view) fine (λ here more still. root_fine volume view here more still)) lost

    link_fine : (volume : Volume) (view : View) (mode : Follow) (pfs : ℕ) (here : Position) (passed : Passed) → Fine here.when
        → WalkFine (over_link volume view mode pfs here passed)
    link_fine volume view Stays pfs here passed fine = fine
    link_fine volume view Follows pfs here passed fine = enter_fine volume view pfs here.when passed fine
    link_fine volume view TakesPfs pfs here passed fine =
        of_option WalkFine (λ (s : PseudoFileSystem). Reaches (root_of pfs here.when) passed) (system_of volume pfs) (Refuses NotFound passed)
        (λ s. fine) lost

    object_fine : (volume : Volume) (view : View) (mode : Follow) (here : Position) (passed : Passed) → Fine here.when
        → WalkFine (find_object volume view mode here passed)
    object_fine volume view mode here passed fine =
        of_option WalkFine (λ (o : Object). and_then (reach here passed) (from_found volume view mode o)) (object_at view here) (Refuses NotFound passed)
        (λ o. then_fine (reach here passed) (from_found volume view mode o) fine (λ there more still.
        of_option WalkFine (λ (pfs : ℕ). over_link volume view mode pfs there more) (linked_in o.content) (Reaches there more)
        (λ pfs. link_fine volume view mode pfs there more still) still)) lost

    name_fine : (volume : Volume) (view : View) (mode : Follow) (name : Option (List ℕ)) (here : Position) (passed : Passed) → Fine here.when
        → WalkFine (by_name volume view mode name here passed)
    name_fine volume view mode None here passed fine = fine
    name_fine volume view mode (Some name) here passed fine =
        of_test WalkFine (option_map_or is_directory (object_at view here) false) (find_name volume view mode name here passed) (Refuses NotDir passed)
        (of_option WalkFine (λ (number : Obj). find_object volume view mode (record here { object = number }) passed)
        (named_in (view here.pfs here.when) here.object name) (Refuses NotFound passed)
        (λ number. object_fine volume view mode (record here { object = number }) passed fine) lost) no_directory

    id_fine : (volume : Volume) (view : View) (id : Option Id) (here : Position) (passed : Passed) → Fine here.when → P NotRetained ⊎ (id ≡ None)
        → WalkFine (by_id volume view id here passed)
    id_fine volume view None here passed fine ids = fine
    id_fine volume view (Some id) here passed fine (inr none) = absurd (cc)
    id_fine volume view (Some id) here passed fine (inl kept) =
        of_test WalkFine (is_kept volume here.pfs id.0)
        (option_map_or (λ (o : Object). Reaches (record here { when = AsOf id.0 }) passed) (object_at view (record here { when = AsOf id.0 }))
        (Refuses NotFound passed))
        (Refuses NotRetained passed)
        (of_option WalkFine (λ (o : Object). Reaches (record here { when = AsOf id.0 }) passed) (object_at view (record here { when = AsOf id.0 }))
        (Refuses NotFound passed) (λ o. inl kept) lost) kept

    -- the ids of parts: none of them has one, where what is not kept may not be told
    abbrev IdsFine : List Part → Type 0
    IdsFine [] = Unit {0}
    IdsFine (part ∷ parts) = (P NotRetained ⊎ (part.as_of ≡ None)) × IdsFine parts

    front_fine : (parts : List Part) → IdsFine parts → IdsFine (front_of parts)
    front_fine [] fine = tt
    front_fine (part ∷ []) fine = tt
    front_fine (part ∷ next ∷ parts) fine = (fine.0, front_fine (next ∷ parts) fine.1)

    on_fine : (volume : Volume) (view : View) (mode : Follow) (parts : List Part) (here : Position) (passed : Passed) → Fine here.when → IdsFine parts
        → WalkFine (walk_on volume view mode parts here passed)
    on_fine volume view mode [] here passed fine ids = fine
    on_fine volume view mode (part ∷ parts) here passed fine ids =
        then_fine (step volume view (follow_before mode parts) part here passed) (λ there more. walk_on volume view mode parts there more)
        (then_fine (by_id volume view part.as_of here passed) (by_name volume view (follow_before mode parts) part.name)
        (id_fine volume view part.as_of here passed fine ids.0)
        (λ there more still. name_fine volume view (follow_before mode parts) part.name there more still))
        (λ there more still. on_fine volume view mode parts there more still ids.1)

    walk_fine : (volume : Volume) (view : View) (mode : Follow) (parts : List Part) → IdsFine parts → WalkFine (walk volume view mode parts)
    walk_fine volume view mode parts ids = on_fine volume view mode parts start ((0, 1) ∷ []) (inr refl) ids

    -- ---- where paths lead

    end_of_walk : (walked : Walked) → WalkFine walked → OfCheck (walks (at_end walked))
    end_of_walk (Reaches here passed) fine = tt
    end_of_walk (Refuses reply passed) fine = fine

    of_directory : (view : View) (name : Option (List ℕ)) (walked : Walked) → WalkFine walked → OfCheck (walks (in_directory view name walked))
    of_directory view None walked fine = end_of_walk walked fine
    of_directory view (Some name) (Refuses reply passed) fine = fine
    of_directory view (Some name) (Reaches here passed) fine = by (option_map_or is_directory (object_at view here) false) where
      by : (test : Bool) → OfCheck (walks (if test then At (record { at = here; directory = here; name = name; passed = passed }) else Nowhere NotDir passed))
      by true = tt
      by false = no_directory

    of_standing : (name : Option (List ℕ)) (before whole : Walked) → WalkFine before → WalkFine whole
        → OfCheck (walks (standing_name name before whole))
    of_standing None before whole fine also = end_of_walk whole also
    of_standing (Some name) (Refuses reply passed) whole fine also = fine
    of_standing (Some name) (Reaches here passed) (Refuses reply more) fine also = also
    of_standing (Some name) (Reaches here passed) (Reaches there more) fine also = tt

    located_fine : (call : Call) (u : Use) (path : Parsed) → IdsFine (parts_in path) → OfCheck (walks (located call u path))
    located_fine call u (BadAt place) ids = tt
    located_fine call MakesName (Parts parts) ids =
        of_directory call.view (last_name parts) (walk call.volume call.view Follows (front_of parts))
        (walk_fine call.volume call.view Follows (front_of parts) (front_fine parts ids))
    located_fine call TakesName (Parts parts) ids =
        of_standing (last_name parts) (walk call.volume call.view Follows (front_of parts)) (walk call.volume call.view Stays parts)
        (walk_fine call.volume call.view Follows (front_of parts) (front_fine parts ids)) (walk_fine call.volume call.view Stays parts ids)
    located_fine call (Walks mode) (Parts parts) ids =
        end_of_walk (walk call.volume call.view mode parts) (walk_fine call.volume call.view mode parts ids)

    abbrev PathsFine : List Parsed → Type 0
    PathsFine [] = Unit {0}
    PathsFine (path ∷ paths) = IdsFine (parts_in path) × PathsFine paths

    pub walks_fine : (call : Call) (uses : List (Use × List ℕ)) (paths : List Parsed) → PathsFine paths
        → OfAll (map walks (each_located call uses paths))
    walks_fine call [] paths fine = tt
    walks_fine call (u ∷ uses) [] fine = tt
    walks_fine call (u ∷ uses) (path ∷ paths) fine = (located_fine call u.0 path fine.0, walks_fine call uses paths fine.1)

    -- ids are fine where they may be told, and where there are none
    pub all_fine : P NotRetained → (paths : List Parsed) → PathsFine paths
    all_fine kept [] = tt
    all_fine kept (path ∷ paths) = (by (parts_in path), all_fine kept paths) where
      by : (parts : List Part) → IdsFine parts
      by [] = tt
      by (part ∷ parts) = (inl kept, by parts)

    no_ids : (parts : List Part) → list_any (λ (part : Part). option_map_or (λ (id : Id). true) part.as_of false) parts ≡ false → IdsFine parts
    no_ids [] none = tt
    no_ids (part ∷ parts) none =
        let both = or_false (option_map_or (λ (id : Id). true) part.as_of false) _ none in
        (inr (by part.as_of both.0), no_ids parts both.1)
      where
        by : (id : Option Id) → option_map_or (λ (i : Id). true) id false ≡ false → id ≡ None
        by None is = refl
        by (Some id) is = absurd (cc)

    pub none_fine : (paths : List Parsed) → list_any has_id paths ≡ false → PathsFine paths
    none_fine [] none = tt
    none_fine (path ∷ paths) none =
        let both = or_false (has_id path) _ none in
        (no_ids (parts_in path) both.0, none_fine paths both.1)
