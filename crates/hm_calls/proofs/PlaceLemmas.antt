-- Where the paths of a call lead.
use Rattle.std.proofs.Common.{◌≡◌, ℕ, Bool, true, false, List, [], ◌∷◌, ◌++◌, Option, Some, None, Result, Ok, Err, refl, sym, ap, subst, ◌∙◌}
use Rattle.std.specs.Prelude.{IfSome, if◌then◌else◌}
use Rattle.std.specs.Bool.{nat_lt}
use Rattle.std.specs.List.{list_any}
use Rattle.std.specs.Option.{option_map_or}
use Rattle.std.proofs.lemmas.Bool.{ltb-false}
use Rattle.hm_types.specs.Elements.{FullElement}
use Rattle.hm_types.specs.Tree.{named_in}
use Rattle.hm_types.specs.declared.id.Id.{Id}
use Rattle.hm_types.specs.declared.id.Obj.{Obj}
use Rattle.hm_types.specs.declared.object.Object.{Object}
use Rattle.hm_path.specs.declared.part.Part.{Part}
use Rattle.hm_key.specs.Elements.{IsContent}
use Rattle.hm_key.specs.Extents.{Extent}
use Rattle.hm_key.specs.declared.element.Element.{Element}
use Rattle.hm_model.specs.Due.{has_id, is_above, no_future, refuse_if}
use Rattle.hm_model.specs.Sites.{Parts, At, Site, front_of, last_name, standing_name}
use Rattle.hm_model.specs.View.{View, When, Now, AsOf, Position as Place, object_at}
use Rattle.hm_model.specs.Volume.{PseudoFileSystem, Volume, system_of}
use Rattle.hm_model.specs.Walk.{Passed, Walked, Reaches, Refuses, Follow as Mode, Follows as follows, Stays as stays, TakesPfs as takes_pfs, and_then}
use Rattle.hm_model.specs.Walk.{by_id, by_name, enter, find_object, follow_before, from_found, is_directory, is_kept, is_seen, linked_in, over_link}
use Rattle.hm_model.specs.Walk.{root_of, start, step, take_pfs, walk, walk_on}
use Rattle.hm_model.specs.declared.reply.Reply.{Reply}
use Rattle.hm_model.specs.declared.reply.Reply.TheVariants.{Future, NotDir as not_dir, NotFound as not_found, NotRetained as not_retained}
use Rattle.hm_model.proofs.PlainCheckLemmas.{or_false}
use Rattle.hm_model.proofs.PlaceLemmas.{front_of-split}
use Rattle.hm_model.proofs.WalkLemmas.{walk_on-last}
use Rattle.hm_records.specs.KeysFit.{KeysFit}
use Rattle.hm_dirs.specs.Walk.{AreDrawn, EndsAt, IsDrawn, IsOn, OnShown, Scene, place_of}
use Rattle.hm_dirs.specs.declared.position.Course.{Course}
use Rattle.hm_dirs.specs.declared.position.Stand.{Stand}
use Rattle.hm_dirs.proofs.WalkLemmas.{nothing_told, shown_both, shown_next}
use Rattle.hm_dirs.proofs.WalkLoopLemmas.{no_id}
use Rattle.hm_calls.specs.Places.{IsNamed, IsReached}
use Rattle.hm_calls.specs.declared.stop.Stop.{Stop}
use Rattle.hm_calls.specs.declared.stop.Stop.TheVariants.{Refused, Failed}

-- ---- the last part of a path

-- parts of which the last one has a name are some parts before that one, and it
pub split : (parts : List Part) (name : List ℕ) → last_name parts ≡ Some name
    → (last : Part) × (parts ≡ front_of parts ++ last ∷ []) × (last.name ≡ Some name)
split [] name is = absurd (cc)
split (part ∷ []) name is = (part, refl, is)
split (part ∷ next ∷ parts) name is =
    let (last, same, named) = split (next ∷ parts) name is in
    (last, ap (λ (rest : List Part). part ∷ rest) same, named)

drawn_split : (last : Id) (front : List Part) (part : Part) → AreDrawn last (front ++ part ∷ []) → AreDrawn last front × IsDrawn last part.as_of
drawn_split last [] part drawn = (tt, drawn.0)
drawn_split last (first ∷ front) part drawn =
    let both = drawn_split last front part drawn.1 in
    ((drawn.0, both.0), both.1)

-- ---- a name that stands there

module _ (scene : Scene) (name : List ℕ) where
  -- the walk to its directory comes to no end
  lost_before : (before whole : Walked) (stop : Stop) → IsReached scene follows before (Err stop)
      → IsNamed scene name (standing_name (Some name) before whole) (Err stop)
  lost_before (Reaches here passed) whole (Refused reply) out = absurd out
  lost_before (Refuses refusal passed) whole (Refused reply) out = out
  lost_before (Reaches here passed) (Reaches there more) (Failed fault) out = tt
  lost_before (Reaches here passed) (Refuses refusal more) (Failed fault) out = tt
  lost_before (Refuses refusal passed) whole (Failed fault) out = tt

  module _ (last : Part) (directory : Stand) where
    abbrev From : Result Stand Stop → Type 0
    From result =
        (passed : Passed) → IsOn scene passed directory
        → IsReached scene stays (step scene.volume scene.view stays last (place_of directory.at) passed) result

    abbrev whole_of : Walked → Walked
    whole_of before = and_then before (step scene.volume scene.view stays last)

    goes : (here : Place) (passed : Passed) (result : Result Stand Stop) → EndsAt scene follows here passed directory → From result
        → IsReached scene stays (step scene.volume scene.view stays last here passed) result
    goes here passed result ends from =
        subst (λ (p : Place). IsReached scene stays (step scene.volume scene.view stays last p passed) result) ends.place
        (from passed (record { told = ends.told; read = ends.read tt }))

    lost_after : (before : Walked) (stop : Stop) → IsReached scene follows before (Ok directory) → From (Err stop)
        → IsNamed scene name (standing_name (Some name) before (whole_of before)) (Err stop)
    lost_after (Refuses refusal passed) stop out from = absurd out
    lost_after (Reaches here passed) stop out from =
        by_end (step scene.volume scene.view stays last here passed) stop (goes here passed (Err stop) out from)
      where
        by_end : (w : Walked) (stop : Stop) → IsReached scene stays w (Err stop)
            → IsNamed scene name (standing_name (Some name) (Reaches here passed) w) (Err stop)
        by_end (Reaches there more) (Refused reply) out = absurd out
        by_end (Refuses refusal more) (Refused reply) out = out
        by_end (Reaches there more) (Failed fault) out = tt
        by_end (Refuses refusal more) (Failed fault) out = tt

    named : (before : Walked) (end : Stand) → IsReached scene follows before (Ok directory) → From (Ok end)
        → IsNamed scene name (standing_name (Some name) before (whole_of before)) (Ok (directory, end))
    named (Refuses refusal passed) end out from = absurd out
    named (Reaches here passed) end out from = by_end (step scene.volume scene.view stays last here passed) (goes here passed (Ok end) out from) where
      by_end : (w : Walked) → IsReached scene stays w (Ok end)
          → IsNamed scene name (standing_name (Some name) (Reaches here passed) w) (Ok (directory, end))
      by_end (Reaches there more) is = (record { directory = out; name_is = refl }, (more, is))
      by_end (Refuses refusal more) is = absurd is

module _ (hash : List ℕ → ℕ) (parts : List Part) where
  -- what is told of a name that stands there, of its directory, and of the last part
  abbrev pub Named : Result (Stand × Stand) Stop → Scene → Type 0
  Named result scene =
      KeysFit hash scene.elements → AreDrawn scene.course.last parts → (name : List ℕ) → last_name parts ≡ Some name
      → IsNamed scene name (standing_name (Some name) (walk scene.volume scene.view follows (front_of parts)) (walk scene.volume scene.view stays parts)) result

  abbrev pub Before : Result Stand Stop → Scene → Type 0
  Before result scene =
      KeysFit hash scene.elements → AreDrawn scene.course.last parts
      → IsReached scene follows (walk scene.volume scene.view follows parts) result

abbrev pub Last : (List ℕ → ℕ) → Part → Stand → Result Stand Stop → Scene → Type 0
Last hash part directory result scene =
    KeysFit hash scene.elements → IsDrawn scene.course.last part.as_of → (passed : Passed) → IsOn scene passed directory
    → IsReached scene stays (step scene.volume scene.view stays part (place_of directory.at) passed) result

module _ (es : Option (List Element)) (xs : Option (List Extent)) (course : Course) (content : IfSome es IsContent) (hash : List ℕ → ℕ)
    (parts front : List Part) (last : Part) (is : parts ≡ front ++ last ∷ []) where
  -- by the parts before the last one, and it
  by_last : (scene : Scene) (name : List ℕ) (result : Result (Stand × Stand) Stop)
      → IsNamed scene name (standing_name (Some name) (walk scene.volume scene.view follows front)
      (and_then (walk scene.volume scene.view follows front) (step scene.volume scene.view stays last))) result
      → IsNamed scene name (standing_name (Some name) (walk scene.volume scene.view follows (front_of parts)) (walk scene.volume scene.view stays parts)) result
  by_last scene name result named =
      subst (λ (list : List Part). IsNamed scene name (standing_name (Some name) (walk scene.volume scene.view follows (front_of list))
      (walk scene.volume scene.view stays list)) result) (sym is)
      (subst (λ (list : List Part). IsNamed scene name (standing_name (Some name) (walk scene.volume scene.view follows list)
      (walk scene.volume scene.view stays (front ++ last ∷ []))) result) (sym (front_of-split front last))
      (subst (λ (w : Walked). IsNamed scene name (standing_name (Some name) (walk scene.volume scene.view follows front) w) result)
      (sym (walk_on-last scene.volume scene.view stays front last start ((0, 1) ∷ []))) named))

  drawn_both : (scene : Scene) → AreDrawn scene.course.last parts → AreDrawn scene.course.last front × IsDrawn scene.course.last last.as_of
  drawn_both scene drawn = drawn_split scene.course.last front last (subst (λ (list : List Part). AreDrawn scene.course.last list) is drawn)

  pub name_lost : (stop : Stop) → OnShown es xs course (Before hash front (Err stop)) → OnShown es xs course (Named hash parts (Err stop))
  name_lost stop reached =
      shown_next es es xs xs course (λ (list : List FullElement). Unit {0}) (Before hash front (Err stop)) (Named hash parts (Err stop)) refl refl content
      (nothing_told es xs) reached
      (λ scene sound asked _ before fit drawn name named.
      by_last scene name (Err stop) (lost_before scene name (walk scene.volume scene.view follows front)
      (and_then (walk scene.volume scene.view follows front) (step scene.volume scene.view stays last)) stop
      (before fit (drawn_both scene drawn).0)))

  module _ (directory : Stand) (es' : Option (List Element)) (xs' : Option (List Extent)) (same : es' ≡ es) (same' : xs' ≡ xs)
      (reached : OnShown es xs course (Before hash front (Ok directory))) where
    pub end_lost : (stop : Stop) → OnShown es' xs' course (Last hash last directory (Err stop)) → OnShown es xs course (Named hash parts (Err stop))
    end_lost stop end =
        shown_both es es' xs xs' course (Before hash front (Ok directory)) (Last hash last directory (Err stop)) (Named hash parts (Err stop)) same same'
        content reached end
        (λ scene sound asked before after fit drawn name named.
        by_last scene name (Err stop) (lost_after scene name last directory (walk scene.volume scene.view follows front) stop
        (before fit (drawn_both scene drawn).0) (after fit (drawn_both scene drawn).1)))

    pub name_stands : (end : Stand) → OnShown es' xs' course (Last hash last directory (Ok end))
        → OnShown es xs course (Named hash parts (Ok (directory, end)))
    name_stands end ended =
        shown_both es es' xs xs' course (Before hash front (Ok directory)) (Last hash last directory (Ok end)) (Named hash parts (Ok (directory, end)))
        same same' content reached ended
        (λ scene sound asked before after fit drawn name _.
        by_last scene name (Ok (directory, end)) (named scene name last directory (walk scene.volume scene.view follows front) end
        (before fit (drawn_both scene drawn).0) (after fit (drawn_both scene drawn).1)))

-- ---- what walks keep

-- a fact of the place to which a walk comes
abbrev pub Ends : (Place → Type 0) → Walked → Type 0
Ends P (Reaches here passed) = P here
Ends P (Refuses refusal passed) = Unit {0}

ends_then : (P Q : Place → Type 0) (w : Walked) (next : Place → Passed → Walked) → Ends P w
    → ((here : Place) (passed : Passed) → P here → Ends Q (next here passed)) → Ends Q (and_then w next)
ends_then P Q (Reaches here passed) next is goes = goes here passed is
ends_then P Q (Refuses refusal passed) next is goes = tt

module _ (volume : Volume) (view : View) where
  -- ---- a step that does not follow links stays in its pseudo file system

  abbrev IsIn : ℕ → Place → Type 0
  IsIn pfs here = here.pfs ≡ pfs

  id_in : (id : Option Id) (here : Place) (passed : Passed) → Ends (IsIn here.pfs) (by_id volume view id here passed)
  id_in None here passed = refl
  id_in (Some id) here passed = by_test (is_kept volume here.pfs id.0) (object_at view (record here { when = AsOf id.0 })) where
    by_test : (kept : Bool) (found : Option Object) → Ends (IsIn here.pfs)
        (if kept then option_map_or (λ (_ : Object). Reaches (record here { when = AsOf id.0 }) passed) found (Refuses not_found passed)
        else Refuses not_retained passed)
    by_test true None = tt
    by_test true (Some o) = refl
    by_test false found = tt

  object_in_pfs : (here : Place) (passed : Passed) → Ends (IsIn here.pfs) (find_object volume view stays here passed)
  object_in_pfs here passed = by_found (object_at view here) where
    by_link : (leads : Option ℕ) → Ends (IsIn here.pfs)
        (option_map_or (λ pfs. over_link volume view stays pfs here (passed ++ (here.pfs, here.object.0) ∷ [])) leads
        (Reaches here (passed ++ (here.pfs, here.object.0) ∷ [])))
    by_link None = refl
    by_link (Some pfs) = refl

    by_found : (found : Option Object) → Ends (IsIn here.pfs)
        (option_map_or (λ (object : Object). from_found volume view stays object here (passed ++ (here.pfs, here.object.0) ∷ [])) found
        (Refuses not_found passed))
    by_found None = tt
    by_found (Some object) = by_link (linked_in object.content)

  name_in : (name : Option (List ℕ)) (here : Place) (passed : Passed) → Ends (IsIn here.pfs) (by_name volume view stays name here passed)
  name_in None here passed = refl
  name_in (Some name) here passed =
      by_test (option_map_or is_directory (object_at view here) false) (named_in (view here.pfs here.when) here.object name)
    where
      by_test : (directory : Bool) (found : Option Obj) → Ends (IsIn here.pfs)
          (if directory then option_map_or (λ (number : Obj). find_object volume view stays (record here { object = number }) passed) found
          (Refuses not_found passed) else Refuses not_dir passed)
      by_test true None = tt
      by_test true (Some number) = object_in_pfs (record here { object = number }) passed
      by_test false found = tt

  step_in : (part : Part) (here : Place) (passed : Passed) → Ends (IsIn here.pfs) (step volume view stays part here passed)
  step_in part here passed =
      ends_then (IsIn here.pfs) (IsIn here.pfs) (by_id volume view part.as_of here passed) (by_name volume view stays part.name)
      (id_in part.as_of here passed)
      (λ there more same. subst (λ (pfs : ℕ). Ends (IsIn pfs) (by_name volume view stays part.name there more)) same (name_in part.name there more))

  -- what stands under a name is in the pseudo file system of its directory
  pub standing_in : (parts : List Part) (name : List ℕ) (site : Site) → last_name parts ≡ Some name
      → standing_name (Some name) (walk volume view follows (front_of parts)) (walk volume view stays parts) ≡ At site
      → site.at.pfs ≡ site.directory.pfs
  standing_in parts name site named is =
      let (last, split_is, _) = split parts name named in
      by_walk last (walk volume view follows (front_of parts)) (subst (λ (w : Walked).
      standing_name (Some name) (walk volume view follows (front_of parts)) w ≡ At site)
      (ap (λ (list : List Part). walk volume view stays list) split_is
      ∙ walk_on-last volume view stays (front_of parts) last start ((0, 1) ∷ [])) is)
    where
      by_end : (here : Place) (passed : Passed) (w : Walked) → Ends (IsIn here.pfs) w
          → standing_name (Some name) (Reaches here passed) w ≡ At site → site.at.pfs ≡ site.directory.pfs
      by_end here passed (Reaches there more) same is =
          let e : record { at = there; directory = here; name = name; passed = passed } ≡ site = cc in
          subst (λ (s : Site). s.at.pfs ≡ s.directory.pfs) e same
      by_end here passed (Refuses refusal more) same is = absurd (cc)

      by_walk : (last : Part) (before : Walked)
          → standing_name (Some name) before (and_then before (step volume view stays last)) ≡ At site → site.at.pfs ≡ site.directory.pfs
      by_walk last (Refuses refusal passed) is = absurd (cc)
      by_walk last (Reaches here passed) is = by_end here passed (step volume view stays last here passed) (step_in last here passed) is

  -- ---- a walk without ids stays at what is seen now

  abbrev IsSeenAt : When → Place → Type 0
  IsSeenAt when here = here.when ≡ when

  enter_when : (pfs : ℕ) (when : When) (passed : Passed) → Ends (IsSeenAt when) (enter volume view pfs when passed)
  enter_when pfs when passed =
      by_test (system_of volume pfs) (is_seen volume pfs when) (object_at view (root_of pfs when))
    where
      by_test : (system : Option PseudoFileSystem) (seen : Bool) (found : Option Object) → Ends (IsSeenAt when)
          (option_map_or (λ (_ : PseudoFileSystem). if seen
          then option_map_or (λ (_ : Object). Reaches (root_of pfs when) (passed ++ (pfs, 1) ∷ [])) found (Refuses not_found (passed ++ (pfs, 1) ∷ []))
          else Refuses not_retained (passed ++ (pfs, 1) ∷ [])) system (Refuses not_found passed))
      by_test None seen found = tt
      by_test (Some s) true None = tt
      by_test (Some s) true (Some o) = refl
      by_test (Some s) false found = tt

  take_when : (pfs : ℕ) (when : When) (passed : Passed) → Ends (IsSeenAt when) (take_pfs volume pfs when passed)
  take_when pfs when passed = by_test (system_of volume pfs) where
    by_test : (system : Option PseudoFileSystem) → Ends (IsSeenAt when)
        (option_map_or (λ (_ : PseudoFileSystem). Reaches (root_of pfs when) passed) system (Refuses not_found passed))
    by_test None = tt
    by_test (Some s) = refl

  link_when : (mode : Mode) (pfs : ℕ) (here : Place) (passed : Passed) → Ends (IsSeenAt here.when) (over_link volume view mode pfs here passed)
  link_when stays pfs here passed = refl
  link_when follows pfs here passed = enter_when pfs here.when passed
  link_when takes_pfs pfs here passed = take_when pfs here.when passed

  object_when : (mode : Mode) (here : Place) (passed : Passed) → Ends (IsSeenAt here.when) (find_object volume view mode here passed)
  object_when mode here passed = by_found (object_at view here) where
    by_link : (leads : Option ℕ) → Ends (IsSeenAt here.when)
        (option_map_or (λ pfs. over_link volume view mode pfs here (passed ++ (here.pfs, here.object.0) ∷ [])) leads
        (Reaches here (passed ++ (here.pfs, here.object.0) ∷ [])))
    by_link None = refl
    by_link (Some pfs) = link_when mode pfs here (passed ++ (here.pfs, here.object.0) ∷ [])

    by_found : (found : Option Object) → Ends (IsSeenAt here.when)
        (option_map_or (λ (object : Object). from_found volume view mode object here (passed ++ (here.pfs, here.object.0) ∷ [])) found
        (Refuses not_found passed))
    by_found None = tt
    by_found (Some object) = by_link (linked_in object.content)

  name_when : (mode : Mode) (name : Option (List ℕ)) (here : Place) (passed : Passed)
      → Ends (IsSeenAt here.when) (by_name volume view mode name here passed)
  name_when mode None here passed = refl
  name_when mode (Some name) here passed =
      by_test (option_map_or is_directory (object_at view here) false) (named_in (view here.pfs here.when) here.object name)
    where
      by_test : (directory : Bool) (found : Option Obj) → Ends (IsSeenAt here.when)
          (if directory then option_map_or (λ (number : Obj). find_object volume view mode (record here { object = number }) passed) found
          (Refuses not_found passed) else Refuses not_dir passed)
      by_test true None = tt
      by_test true (Some number) = object_when mode (record here { object = number }) passed
      by_test false found = tt

  step_when : (mode : Mode) (part : Part) (here : Place) (passed : Passed) → option_map_or (λ (_ : Id). true) part.as_of false ≡ false
      → Ends (IsSeenAt here.when) (step volume view mode part here passed)
  step_when mode part here passed none = by_id_none part.as_of none where
    by_id_none : (id : Option Id) → option_map_or (λ (_ : Id). true) id false ≡ false
        → Ends (IsSeenAt here.when) (and_then (by_id volume view id here passed) (by_name volume view mode part.name))
    by_id_none None none = name_when mode part.name here passed
    by_id_none (Some id) none = absurd (cc)

  walk_on_when : (mode : Mode) (parts : List Part) (here : Place) (passed : Passed) → has_id (Parts parts) ≡ false
      → Ends (IsSeenAt here.when) (walk_on volume view mode parts here passed)
  walk_on_when mode [] here passed none = refl
  walk_on_when mode (part ∷ parts) here passed none =
      let both = or_false (option_map_or (λ (_ : Id). true) part.as_of false) (has_id (Parts parts)) none in
      ends_then (IsSeenAt here.when) (IsSeenAt here.when) (step volume view (follow_before mode parts) part here passed)
      (λ there more. walk_on volume view mode parts there more) (step_when (follow_before mode parts) part here passed both.0)
      (λ there more same. subst (λ (when : When). Ends (IsSeenAt when) (walk_on volume view mode parts there more)) same
      (walk_on_when mode parts there more both.1))

  pub walks_now : (mode : Mode) (parts : List Part) (here : Place) (passed : Passed) → has_id (Parts parts) ≡ false
      → walk volume view mode parts ≡ Reaches here passed → here.when ≡ Now
  walks_now mode parts here passed none is =
      subst (λ (w : Walked). Ends (IsSeenAt Now) w) is (walk_on_when mode parts start ((0, 1) ∷ []) none)

-- the parts before the last one have no id where none has
pub front_has_none : (parts : List Part) → has_id (Parts parts) ≡ false → has_id (Parts (front_of parts)) ≡ false
front_has_none [] none = refl
front_has_none (part ∷ []) none = refl
front_has_none (part ∷ next ∷ parts) none =
    let both = or_false (option_map_or (λ (_ : Id). true) part.as_of false) (has_id (Parts (next ∷ parts))) none in
    rw (both.0) (front_has_none (next ∷ parts) both.1)

-- neither they nor the last part, by how they make up the path
pub none_apart : (parts front : List Part) (last : Part) → parts ≡ front ++ last ∷ [] → has_id (Parts parts) ≡ false
    → (has_id (Parts front) ≡ false) × (last.as_of ≡ None)
none_apart parts front last split none = apart front (rw split at none) where
  apart : (front : List Part) → has_id (Parts (front ++ last ∷ [])) ≡ false → (has_id (Parts front) ≡ false) × (last.as_of ≡ None)
  apart [] none = (refl, no_id last.as_of (or_false (option_map_or (λ (_ : Id). true) last.as_of false) false none).0)
  apart (part ∷ front) none =
      let both = or_false (option_map_or (λ (_ : Id). true) part.as_of false) (has_id (Parts (front ++ last ∷ []))) none in
      let rest = apart front both.1 in
      (rw (both.0) rest.0, rest.1)

-- and so the walk over them
pub front_walks_now : (volume : Volume) (view : View) (mode : Mode) (parts : List Part) (here : Place) (passed : Passed) → has_id (Parts parts) ≡ false
    → walk volume view mode (front_of parts) ≡ Reaches here passed → here.when ≡ Now
front_walks_now volume view mode parts here passed none is =
    walks_now volume view mode (front_of parts) here passed (front_has_none parts none) is

-- ---- ids that were drawn

drawn_id : (last : ℕ) (id : Option Id) → option_map_or (λ (i : Id). nat_lt last i.0) id false ≡ false → IsDrawn (record { 0 = last }) id
drawn_id last None none = tt
drawn_id last (Some id) none = ltb-false last id.0 none

not_above : (last : ℕ) (parts : List Part) → list_any (is_above last) parts ≡ false → AreDrawn (record { 0 = last }) parts
not_above last [] none = tt
not_above last (part ∷ parts) none =
    let both = or_false (is_above last part) (list_any (is_above last) parts) none in
    (drawn_id last part.as_of both.0, not_above last parts both.1)

not_refused : (test : Bool) (refusal : Reply) → refuse_if test refusal ≡ None → test ≡ false
not_refused true refusal none = absurd (cc)
not_refused false refusal none = refl

-- parts of which none lies in the future have ids that were drawn
pub are_drawn : (last : ℕ) (parts : List Part) → no_future last (Parts parts) ≡ None → AreDrawn (record { 0 = last }) parts
are_drawn last parts none = not_above last parts (not_refused (list_any (is_above last) parts) (Future (record { 0 = last })) none)

front_are_drawn : (last : Id) (parts : List Part) → AreDrawn last parts → AreDrawn last (front_of parts)
front_are_drawn last [] drawn = tt
front_are_drawn last (part ∷ []) drawn = tt
front_are_drawn last (part ∷ next ∷ parts) drawn = (drawn.0, front_are_drawn last (next ∷ parts) drawn.1)

pub front_drawn : (last : ℕ) (parts : List Part) → no_future last (Parts parts) ≡ None → AreDrawn (record { 0 = last }) (front_of parts)
front_drawn last parts none = front_are_drawn (record { 0 = last }) parts (are_drawn last parts none)
