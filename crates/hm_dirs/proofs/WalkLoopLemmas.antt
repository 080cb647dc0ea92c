-- A walk over the parts of a path, one after the other.
use Rattle.std.proofs.Common.{◌≡◌, ◌-◌, ◌≤◌, Bool, true, false, ℕ, List, [], ◌∷◌, Option, Some, None, Result, drop, get_or, length, take, Ok, Err}
use Rattle.std.proofs.Common.{refl, sym, ap, subst, ◌∙◌, arith}
use Rattle.std.specs.Prelude.{◌==◌, if◌then◌else◌}
use Rattle.std.specs.Option.{option_map_or}
use Rattle.std.proofs.lemmas.Bool.{eqb-true, eq-eqb, false≢true}
use Rattle.std.proofs.lemmas.List.{take_all}
use Rattle.hm_types.specs.Elements.{Key}
use Rattle.hm_types.specs.declared.id.Id.{Id}
use Rattle.hm_path.specs.declared.part.Part.{Part}
use Rattle.hm_key.specs.Extents.{Extent}
use Rattle.hm_key.specs.Stores.{Same}
use Rattle.hm_key.specs.declared.element.Element.{Element}
use Rattle.hm_model.specs.Due.{has_id}
use Rattle.hm_model.specs.Sites.{Parts}
use Rattle.hm_model.specs.View.{Position as Place}
use Rattle.hm_model.specs.Walk.{Passed, Walked, Reaches, Refuses, Follow as Mode, Follows as follows, and_then, follow_before, start, step, walk, walk_on}
use Rattle.hm_model.proofs.EffectLemmas.{or_false}
use Rattle.hm_dirs.specs.Walk.{AreDrawn, ComesOut, EndsAt, IsOn, Scene, StaysNow, place_of}
use Rattle.hm_dirs.specs.declared.position.Lost.{Lost}
use Rattle.hm_dirs.specs.declared.position.Stand.{Stand}

-- two calls that leave a store as it was
pub same_twice : {S : Type 0} {elements_of : S → Option (List Element)} {mark_of : S → Key → ℕ} {extents_of : S → Option (List Extent)} {room_of : S → ℕ → ℕ}
    {free_of : S → ℕ} {a b c : S} → Same elements_of mark_of extents_of room_of free_of a b → Same elements_of mark_of extents_of room_of free_of b c
    → Same elements_of mark_of extents_of room_of free_of a c
same_twice one two = record {
  elements = two.elements ∙ one.elements;
  mark = two.mark ∙ one.mark;
  extents = two.extents ∙ one.extents;
  room = two.room ∙ one.room;
  free = two.free ∙ one.free;
}

-- a walk came over all parts but these
pub record IsOver (scene : Scene) (mode : Mode) (parts rest : List Part) (stand : Stand) : Type 0 where
  pub passed : Passed
  pub ends : EndsAt scene (follow_before mode rest) (place_of stand.at) passed stand
  pub drawn : AreDrawn scene.course.last rest
  pub same : walk scene.volume scene.view mode parts ≡ walk_on scene.volume scene.view mode rest (place_of stand.at) passed

-- what becomes of a link that a part names is told by whether parts follow
pub before_is : (mode : Mode) (rest : List Part) (last : Bool) → last ≡ (length rest == 0) → (if last then mode else follows) ≡ follow_before mode rest
before_is mode [] true is = refl
before_is mode [] false is = absurd (false≢true (is ∙ eq-eqb 0 0 refl))
before_is mode (part ∷ more) false is = refl
before_is mode (part ∷ more) true is = absurd (omega (arith, eqb-true (length (part ∷ more)) 0 (sym is)))

-- the first part, and those that follow it
pub first_and_more : (rest : List Part) (part : Part) → 1 ≤ length rest → part ≡ get_or rest 0 part → rest ≡ part ∷ take (length rest - 1) (drop 1 rest)
first_and_more [] part some is = absurd (omega (arith, some))
first_and_more (first ∷ more) part some is =
    let few : length more ≤ length (first ∷ more) - 1 = omega arith in
    ap (λ (p : Part). p ∷ more) (sym is) ∙ ap (λ (list : List Part). part ∷ list) (sym (take_all (length (first ∷ more) - 1) more few))

-- an id that a part does not have
pub no_id : (id : Option Id) → option_map_or (λ (i : Id). true) id false ≡ false → id ≡ None
no_id None is = refl
no_id (Some id) is = absurd (cc)

-- a part without an id leads from a place as of now to another one
pub now_on : (rest more : List Part) (part : Part) (from : Stand) (walked : Result Stand Lost) → rest ≡ part ∷ more
    → (has_id (Parts rest) ≡ false) × (from.at.when ≡ None) → (part.as_of ≡ None → from.at.when ≡ None → StaysNow walked)
    → (has_id (Parts more) ≡ false) × StaysNow walked
now_on rest more part from walked split now step =
    let both = or_false (option_map_or (λ (i : Id). true) part.as_of false) (has_id (Parts more)) (rw split at now.0) in
    (both.1, step (no_id part.as_of both.0) now.1)

module _ (scene : Scene) (mode : Mode) (parts : List Part) where
  -- before the first part
  pub over_none : (stand : Stand) → EndsAt scene follows start ((0, 1) ∷ []) stand → AreDrawn scene.course.last parts → IsOver scene mode parts parts stand
  over_none stand ends drawn = record {
    passed = (0, 1) ∷ [];
    ends = record { place = refl; told = ends.told; read = λ looks. ends.read tt; known = ends.known };
    drawn = drawn;
    same = ap (λ (p : Place). walk_on scene.volume scene.view mode parts p ((0, 1) ∷ [])) (sym ends.place);
  }

  -- after the last one
  pub over_all : (stand : Stand) → IsOver scene mode parts [] stand → ComesOut scene mode (walk scene.volume scene.view mode parts) (Ok stand)
  over_all stand is = subst (λ (w : Walked). ComesOut scene mode w (Ok stand)) (sym is.same) is.ends

  module _ (part : Part) (more : List Part) (stand : Stand) (is : IsOver scene mode parts (part ∷ more) stand) where
    pub is_on : IsOn scene is.passed stand
    is_on = record { told = is.ends.told; read = is.ends.read tt }

    abbrev pub one : Walked
    one = step scene.volume scene.view (follow_before mode more) part (place_of stand.at) is.passed

    -- one part more
    pub over_more : (next : Stand) → ComesOut scene (follow_before mode more) one (Ok next) → IsOver scene mode parts more next
    over_more next out = by_step one refl out where
      by_step : (w : Walked) → one ≡ w → ComesOut scene (follow_before mode more) w (Ok next) → IsOver scene mode parts more next
      by_step (Refuses reply list) same out = absurd out
      by_step (Reaches there list) same out = record {
        passed = list;
        ends = record { place = refl; told = out.told; read = out.read; known = out.known };
        drawn = is.drawn.1;
        same =
            is.same
            ∙ ap (λ (w : Walked). and_then w (λ p passed. walk_on scene.volume scene.view mode more p passed)) same
            ∙ ap (λ (p : Place). walk_on scene.volume scene.view mode more p list) (sym out.place);
      }

    -- the walk is lost at this part
    pub over_lost : (lost : Lost) → ComesOut scene (follow_before mode more) one (Err lost)
        → ComesOut scene mode (walk scene.volume scene.view mode parts) (Err lost)
    over_lost lost out = by_step one refl out where
      by_step : (w : Walked) → one ≡ w → ComesOut scene (follow_before mode more) w (Err lost)
          → ComesOut scene mode (walk scene.volume scene.view mode parts) (Err lost)
      by_step (Reaches there list) same out = absurd out
      by_step (Refuses reply list) same out =
          subst (λ (w : Walked). ComesOut scene mode w (Err lost))
          (sym (is.same ∙ ap (λ (w : Walked). and_then w (λ p passed. walk_on scene.volume scene.view mode more p passed)) same)) out
