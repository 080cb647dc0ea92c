-- What the steps of a call tell of its checks, and the scenes over which they tell it.
use Rattle.std.proofs.Common.{◌≡◌, ℕ, ◌+◌, List, Option, Some, None, Ok, Err, refl, sym, ap, subst, ◌∙◌, arith}
use Rattle.hm_types.specs.Elements.{FullElement}
use Rattle.hm_key.specs.Extents.{Extent}
use Rattle.hm_key.specs.declared.element.Element.{Element}
use Rattle.hm_cursor.specs.Told.{OnBalanced, fulls}
use Rattle.hm_model.specs.Call.{Call}
use Rattle.hm_model.specs.Due.{Check, walks}
use Rattle.hm_path.specs.declared.part.Part.{Part}
use Rattle.hm_model.specs.Sites.{At, Located, Nowhere, Parsed, ReadsWords, Site, at_end, in_directory}
use Rattle.hm_model.specs.Walk.{Follow as Mode, Follows, Passed, Reaches, Refuses, Stays, Walked as Outcome, walk}
use Rattle.hm_model.specs.declared.command.Command.{Command}
use Rattle.hm_records.specs.KeysFit.{KeysFit}
use Rattle.hm_dirs.specs.Names.{OnNamed}
use Rattle.hm_dirs.specs.Walk.{AreDrawn, EndsAt, OnShown, Scene}
use Rattle.hm_dirs.specs.declared.position.Course.{Course}
use Rattle.hm_dirs.specs.declared.position.Stand.{Stand}
use Rattle.hm_calls.specs.Call.{IsCall, OnCalls}
use Rattle.hm_calls.specs.Places.{IsNamed, IsPlaced, IsReached, IsSiteOf}
use Rattle.hm_calls.specs.Stop.{Answers, Decides, OfRefusal}
use Rattle.hm_calls.specs.declared.stop.Stop.{Stop}
use Rattle.hm_calls.specs.declared.stop.Stop.TheVariants.{Failed, Refused}
pub use Rattle.hm_calls.specs.Scenes.{IsEnd, IsSet, OnScenes, call_in, scene_in}

-- ---- what steps tell of checks

-- a check by which a step was stopped
abbrev pub IsStoppedBy : Check → Stop → Type 0
IsStoppedBy check = OfRefusal (λ reply. check ≡ Some reply)

pub answered : (T : Type 0) (check : Check) (stopped : Stop) → Answers {T = T} check (Err stopped) → IsStoppedBy check stopped
answered T check (Refused reply) told = told
answered T check (Failed fault) told = tt

pub decided : (T : Type 0) (check : Check) (stopped : Stop) → Decides {T = T} check (Err stopped) → IsStoppedBy check stopped
decided T check (Refused reply) told = told
decided T check (Failed fault) told = tt

-- a walk to its end that was refused, and one that came there
pub unreached : (scene : Scene) (mode : Mode) (walked : Outcome) (stopped : Stop) → IsReached scene mode walked (Err stopped)
    → IsStoppedBy (walks (at_end walked)) stopped
unreached scene mode (Reaches here passed) (Refused reply) told = absurd told
unreached scene mode (Refuses refusal passed) (Refused reply) told = ap Some (sym told)
unreached scene mode walked (Failed fault) told = tt

pub reached : (scene : Scene) (mode : Mode) (walked : Outcome) (stand : Stand) → IsReached scene mode walked (Ok stand) → IsEnd scene mode walked stand
reached scene mode (Reaches here passed) stand told = record { here = here; passed = passed; walked_is = refl; ends = told }
reached scene mode (Refuses refusal passed) stand told = absurd told

-- the same of the place of a new name
pub unplaced : (scene : Scene) (name : List ℕ) (place : Located) (stopped : Stop) → IsPlaced scene name place (Err stopped)
    → IsStoppedBy (walks place) stopped
unplaced scene name (At site) (Refused reply) told = absurd told
unplaced scene name (Nowhere refusal passed) (Refused reply) told = ap Some (sym told)
unplaced scene name place (Failed fault) told = tt

pub record IsPlace (scene : Scene) (name : List ℕ) (place : Located) (stand : Stand) : Type 0 where
  pub site : Site
  pub place_is : place ≡ At site
  pub of_name : IsSiteOf scene name site stand
  pub there : site.at ≡ site.directory

pub placed : (scene : Scene) (name : List ℕ) (place : Located) (stand : Stand) → IsPlaced scene name place (Ok stand) → IsPlace scene name place stand
placed scene name (At site) stand told = record { site = site; place_is = refl; of_name = told.0; there = told.1 }
placed scene name (Nowhere refusal passed) stand told = absurd told

-- the same of a name that stands there
pub unnamed : (scene : Scene) (name : List ℕ) (place : Located) (stopped : Stop) → IsNamed scene name place (Err stopped)
    → IsStoppedBy (walks place) stopped
unnamed scene name (At site) (Refused reply) told = absurd told
unnamed scene name (Nowhere refusal passed) (Refused reply) told = ap Some (sym told)
unnamed scene name place (Failed fault) told = tt

pub record IsName (scene : Scene) (name : List ℕ) (place : Located) (directory end : Stand) : Type 0 where
  pub site : Site
  pub place_is : place ≡ At site
  pub of_name : IsSiteOf scene name site directory
  pub passed : Passed
  pub ends : EndsAt scene Stays site.at passed end

pub named : (scene : Scene) (name : List ℕ) (place : Located) (pair : Stand × Stand) → IsNamed scene name place (Ok pair)
    → IsName scene name place pair.0 pair.1
named scene name (At site) pair told =
    record { site = site; place_is = refl; of_name = told.0; passed = told.1.0; ends = told.1.1 }
named scene name (Nowhere refusal passed) pair told = absurd told

-- ---- the scenes of calls

module _ (hash : List ℕ → ℕ) (course : Course) where
  pub scenes_so : (es : Option (List Element)) (xs : Option (List Extent)) (P Q : Scene → Type 0)
      → ((scene : Scene) → IsSet hash course scene → P scene → Q scene) → OnScenes hash es xs course P → OnScenes hash es xs course Q
  scenes_so None xs P Q step told = tt
  scenes_so (Some es) None P Q step told = tt
  scenes_so (Some es) (Some xs) P Q step told =
      λ balanced volume view set. step (scene_in (fulls (es, xs)) volume view course) set (told balanced volume view set)

  pub scenes_all : (es : Option (List Element)) (xs : Option (List Extent)) (P : Scene → Type 0) → ((scene : Scene) → IsSet hash course scene → P scene)
      → OnScenes hash es xs course P
  scenes_all None xs P each = tt
  scenes_all (Some es) None P each = tt
  scenes_all (Some es) (Some xs) P each = λ balanced volume view set. each (scene_in (fulls (es, xs)) volume view course) set

  pub scenes_both : (es : Option (List Element)) (xs : Option (List Extent)) (P Q : Scene → Type 0) → OnScenes hash es xs course P
      → OnScenes hash es xs course Q → OnScenes hash es xs course (λ scene. P scene × Q scene)
  scenes_both None xs P Q one two = tt
  scenes_both (Some es) None P Q one two = tt
  scenes_both (Some es) (Some xs) P Q one two = λ balanced volume view set. (one balanced volume view set, two balanced volume view set)

  -- from what steps tell
  pub scenes_shown : (es : Option (List Element)) (xs : Option (List Extent)) (P : Scene → Type 0)
      → OnShown es xs course (λ scene. KeysFit hash scene.elements → P scene) → OnScenes hash es xs course P
  scenes_shown None xs P told = tt
  scenes_shown (Some es) None P told = tt
  scenes_shown (Some es) (Some xs) P told = λ balanced volume view set. told balanced volume view set.last set.shows set.keys

  pub scenes_named : (es : Option (List Element)) (xs : Option (List Extent)) (P : List FullElement → Type 0)
      → OnNamed hash es xs (λ lists. P (fulls lists)) → OnScenes hash es xs course (λ scene. P scene.elements)
  scenes_named None xs P told = tt
  scenes_named (Some es) None P told = tt
  scenes_named (Some es) (Some xs) P told = λ balanced volume view set. told balanced set.keys

  pub scenes_balanced : (es : Option (List Element)) (xs : Option (List Extent)) (P : List FullElement → Type 0)
      → OnBalanced es xs (λ lists. P (fulls lists)) → OnScenes hash es xs course (λ scene. P scene.elements)
  scenes_balanced None xs P told = tt
  scenes_balanced (Some es) None P told = tt
  scenes_balanced (Some es) (Some xs) P told = λ balanced volume view set. told balanced

  -- over a store that is as another one was
  pub scenes_back : {es es' : Option (List Element)} {xs xs' : Option (List Extent)} (P : Scene → Type 0) → es' ≡ es → xs' ≡ xs
      → OnScenes hash es' xs' course P → OnScenes hash es xs course P
  scenes_back {es = es} {xs' = xs'} P same same' told =
      subst (λ (l : Option (List Extent)). OnScenes hash es l course P) same' (subst (λ (l : Option (List Element)). OnScenes hash l xs' course P) same told)

-- of a course with another watch
pub scenes_watching : (hash : List ℕ → ℕ) (course other : Course) (es : Option (List Element)) (xs : Option (List Extent)) (P : Scene → Type 0)
    → other.last.0 ≡ course.last.0 → OnScenes hash es xs other P → OnScenes hash es xs course (λ scene. P (record scene { course = other }))
scenes_watching hash course other None xs P same told = tt
scenes_watching hash course other (Some es) None P same told = tt
scenes_watching hash course other (Some es) (Some xs) P same told =
    λ balanced volume view set. told balanced volume view
    (record { course_is = refl; last = set.last ∙ sym same; shows = set.shows; keys = set.keys })

-- ---- what steps tell of where paths lead, in scenes

module _ (hash : List ℕ → ℕ) (course : Course) (es : Option (List Element)) (xs : Option (List Extent)) (parts : List Part)
    (drawn : AreDrawn course.last parts) where
  drawn_in : (scene : Scene) → IsSet hash course scene → AreDrawn scene.course.last parts
  drawn_in scene set = subst (λ (c : Course). AreDrawn c.last parts) (sym set.course_is) drawn

  -- what is told of a walk along these parts
  abbrev pub Walked : (Scene → Type 0) → Type 0
  Walked P = OnShown es xs course (λ scene. KeysFit hash scene.elements → AreDrawn scene.course.last parts → P scene)

  walked : (P Q : Scene → Type 0) → ((scene : Scene) → P scene → Q scene) → Walked P → OnScenes hash es xs course Q
  walked P Q step told =
      scenes_so hash course es xs (λ scene. AreDrawn scene.course.last parts → P scene) Q (λ scene set is. step scene (is (drawn_in scene set)))
      (scenes_shown hash course es xs (λ scene. AreDrawn scene.course.last parts → P scene) told)

  pub scenes_unreached : (mode : Mode) (stopped : Stop)
      → Walked (λ scene. IsReached scene mode (walk scene.volume scene.view mode parts) (Err stopped))
      → OnScenes hash es xs course (λ scene. IsStoppedBy (walks (at_end (walk scene.volume scene.view mode parts))) stopped)
  scenes_unreached mode stopped =
      walked (λ scene. IsReached scene mode (walk scene.volume scene.view mode parts) (Err stopped))
      (λ scene. IsStoppedBy (walks (at_end (walk scene.volume scene.view mode parts))) stopped)
      (λ scene told. unreached scene mode (walk scene.volume scene.view mode parts) stopped told)

  pub scenes_reached : (mode : Mode) (stand : Stand)
      → Walked (λ scene. IsReached scene mode (walk scene.volume scene.view mode parts) (Ok stand))
      → OnScenes hash es xs course (λ scene. IsEnd scene mode (walk scene.volume scene.view mode parts) stand)
  scenes_reached mode stand =
      walked (λ scene. IsReached scene mode (walk scene.volume scene.view mode parts) (Ok stand))
      (λ scene. IsEnd scene mode (walk scene.volume scene.view mode parts) stand)
      (λ scene told. reached scene mode (walk scene.volume scene.view mode parts) stand told)

  -- the place of a new name, where these are the parts before it
  pub scenes_unplaced : (name : List ℕ) (stopped : Stop)
      → Walked (λ scene. (other : List ℕ) → IsPlaced scene other (in_directory scene.view (Some other) (walk scene.volume scene.view Follows parts))
      (Err stopped))
      → OnScenes hash es xs course (λ scene. IsStoppedBy (walks (in_directory scene.view (Some name) (walk scene.volume scene.view Follows parts))) stopped)
  scenes_unplaced name stopped =
      walked
      (λ scene. (other : List ℕ) → IsPlaced scene other (in_directory scene.view (Some other) (walk scene.volume scene.view Follows parts)) (Err stopped))
      (λ scene. IsStoppedBy (walks (in_directory scene.view (Some name) (walk scene.volume scene.view Follows parts))) stopped)
      (λ scene told. unplaced scene name (in_directory scene.view (Some name) (walk scene.volume scene.view Follows parts)) stopped (told name))

  pub scenes_placed : (name : List ℕ) (stand : Stand)
      → Walked (λ scene. (other : List ℕ) → IsPlaced scene other (in_directory scene.view (Some other) (walk scene.volume scene.view Follows parts)) (Ok stand))
      → OnScenes hash es xs course (λ scene. IsPlace scene name (in_directory scene.view (Some name) (walk scene.volume scene.view Follows parts)) stand)
  scenes_placed name stand =
      walked
      (λ scene. (other : List ℕ) → IsPlaced scene other (in_directory scene.view (Some other) (walk scene.volume scene.view Follows parts)) (Ok stand))
      (λ scene. IsPlace scene name (in_directory scene.view (Some name) (walk scene.volume scene.view Follows parts)) stand)
      (λ scene told. placed scene name (in_directory scene.view (Some name) (walk scene.volume scene.view Follows parts)) stand (told name))

-- ---- calls over a scene

-- a call is that over its own scene
pub call_so : {hash : List ℕ → ℕ} {id : ℕ} {list : List FullElement} {call : Call} (command : Command) (course : Course) (P : Call → Type 0)
    → IsCall hash id list call → call.command ≡ command
    → P (call_in hash command call.paths call.busy (scene_in list call.volume call.view course)) → P call
call_so {hash = hash} {call = call} command course P is asks told =
    subst (λ (h : List ℕ → ℕ). P (record call { hash = h })) (sym is.hash_is)
    (subst (λ (c : Command). P (record call { hash = hash; command = c })) (sym asks) told)

-- its scene
pub call_set : {hash : List ℕ → ℕ} {id : ℕ} {list : List FullElement} {call : Call} (course : Course) → course.last.0 + 1 ≡ id → IsCall hash id list call
    → IsSet hash course (scene_in list call.volume call.view course)
call_set {call = call} course before is = record {
  course_is = refl;
  last = let own : call.volume.last + 1 ≡ course.last.0 + 1 = is.own ∙ sym before in omega (arith, own);
  shows = is.shows;
  keys = is.keys;
}

-- what holds in each scene for each way in which the words may be read holds of each call
pub calls_of : (hash : List ℕ → ℕ) (id : ℕ) (course : Course) (command : Command) (es : Option (List Element)) (xs : Option (List Extent))
    (P : List FullElement → Call → Type 0) → course.last.0 + 1 ≡ id
    → ((busy : Option ℕ) (paths : List Parsed) → ReadsWords command paths
    → OnScenes hash es xs course (λ scene. P scene.elements (call_in hash command paths busy scene)))
    → OnCalls hash id es xs (λ list call. call.command ≡ command → P list call)
calls_of hash id course command None xs P before each = tt
calls_of hash id course command (Some es) None P before each = tt
calls_of hash id course command (Some es) (Some xs) P before each = λ balanced call is asks.
    call_so command course (P (fulls (es, xs))) is asks
    (each call.busy call.paths (subst (λ (c : Command). ReadsWords c call.paths) asks is.words) balanced call.volume call.view (call_set course before is))
