-- How the parts of a path come out, one after another, over what a store tells.
use Rattle.std.proofs.Common.{◌≡◌, ℕ, List, [], ◌∷◌, Option, Result, Ok, Err, refl, subst}
use Rattle.std.specs.Prelude.{IfOk, IfSome}
use Rattle.hm_types.specs.declared.fault.Fault.{Fault}
use Rattle.hm_path.specs.declared.part.Part.{Part}
use Rattle.hm_key.specs.Elements.{IsContent}
use Rattle.hm_key.specs.Extents.{Extent}
use Rattle.hm_key.specs.declared.element.Element.{Element}
use Rattle.hm_model.specs.Walk.{Follow as Mode, Follows as follows, by_id, by_name, follow_before, start, step, walk}
use Rattle.hm_records.specs.KeysFit.{KeysFit}
use Rattle.hm_dirs.specs.Walk.{AreDrawn, ComesOut, EndsAt, WalkGoesOn, IsDrawn, OnShown, Scene, mode_of, place_of}
use Rattle.hm_dirs.specs.declared.position.Course.{Course}
use Rattle.hm_dirs.specs.declared.position.Follow.{Follow}
use Rattle.hm_dirs.specs.declared.position.Lost.{Lost}
use Rattle.hm_dirs.specs.declared.position.Stand.{Stand}
use Rattle.hm_dirs.proofs.WalkLemmas.{nothing_told, shown_both, shown_next}
use Rattle.hm_dirs.proofs.WalkLoopLemmas.{IsOver, is_on, one, over_lost, over_more, over_none}
use Rattle.hm_dirs.proofs.WalkOutcomeLemmas.{goes_on, lost_on}
use Rattle.hm_dirs.proofs.WalkToldLemmas.{ById, ByName, if_ok}

abbrev pub Stepped : (List ℕ → ℕ) → Follow → Part → Stand → Result Stand Lost → Scene → Type 0
Stepped hash choice part stand walked scene =
    KeysFit hash scene.elements → IsDrawn scene.course.last part.as_of
    → WalkGoesOn scene (mode_of choice) (step scene.volume scene.view (mode_of choice) part) stand walked

abbrev pub Over : (List ℕ → ℕ) → Follow → List Part → List Part → Stand → Scene → Type 0
Over hash choice parts rest stand scene =
    KeysFit hash scene.elements → AreDrawn scene.course.last parts → IsOver scene (mode_of choice) parts rest stand

module _ (es : Option (List Element)) (xs : Option (List Extent)) (course : Course) (content : IfSome es IsContent) where
  -- ---- one part

  pub step_lost : (hash : List ℕ → ℕ) (choice : Follow) (part : Part) (stand : Stand) (lost : Lost) (found : Result Stand Lost)
      → ((c : Course) → OnShown es xs c (ById part.as_of stand found)) → found ≡ Err lost → OnShown es xs course (Stepped hash choice part stand (Err lost))
  step_lost hash choice part stand lost found seen is =
      shown_next es es xs xs course (λ list. Unit {0}) (ById part.as_of stand (Err lost)) (Stepped hash choice part stand (Err lost)) refl refl content
      (nothing_told es xs)
      (subst (λ (w : Result Stand Lost). OnShown es xs course (ById part.as_of stand w)) is (seen course))
      (λ scene sound asked _ sees fit drawn passed on.
      lost_on scene follows (mode_of choice) (by_id scene.volume scene.view part.as_of (place_of stand.at) passed)
      (by_name scene.volume scene.view (mode_of choice) part.name) lost
      (sees drawn passed on))

  pub step_on : (hash : List ℕ → ℕ) (choice : Follow) (part : Part) (stand next : Stand) (found : Result Stand Lost) (es' : Option (List Element))
      (xs' : Option (List Extent))
      (result : Result (Result Stand Lost) Fault) → es' ≡ es → xs' ≡ xs → ((c : Course) → OnShown es xs c (ById part.as_of stand found)) → found ≡ Ok next
      → IfOk result (λ walked. OnShown es' xs' course (ByName hash choice part.name next walked)) → IfOk result
      (λ walked. OnShown es xs course (Stepped hash choice part stand walked))
  step_on hash choice part stand next found es' xs' result same same' seen is =
      if_ok (λ walked. OnShown es' xs' course (ByName hash choice part.name next walked))
      (λ walked. OnShown es xs course (Stepped hash choice part stand walked)) result
      (λ walked here. shown_both es es' xs xs' course (ById part.as_of stand (Ok next)) (ByName hash choice part.name next walked)
      (Stepped hash choice part stand walked) same same' content
      (subst (λ (w : Result Stand Lost). OnShown es xs course (ById part.as_of stand w)) is (seen course)) here
      (λ scene sound asked sees goes fit drawn passed on.
      goes_on scene (mode_of choice) (by_id scene.volume scene.view part.as_of (place_of stand.at) passed)
      (by_name scene.volume scene.view (mode_of choice) part.name) next walked
      (sees drawn passed on) (goes fit)))

  -- ---- all parts

  pub loop_begins : (hash : List ℕ → ℕ) (choice : Follow) (parts : List Part) (stand : Stand)
      → OnShown es xs course (λ scene. EndsAt scene follows start ((0, 1) ∷ []) stand) → OnShown es xs course (Over hash choice parts parts stand)
  loop_begins hash choice parts stand begun =
      shown_next es es xs xs course (λ list. Unit {0}) (λ scene. EndsAt scene follows start ((0, 1) ∷ []) stand)
      (Over hash choice parts parts stand) refl refl content
      (nothing_told es xs) begun (λ scene sound asked _ ends fit drawn. over_none scene (mode_of choice) parts stand ends drawn)

  module _ (hash : List ℕ → ℕ) (choice here : Follow) (parts rest more : List Part) (part : Part) (stand : Stand) (found : Result Stand Lost)
      (es' : Option (List Element)) (xs' : Option (List Extent)) (same : es' ≡ es) (same' : xs' ≡ xs) (taken : rest ≡ part ∷ more)
      (before : mode_of here ≡ follow_before (mode_of choice) more) (over : OnShown es xs course (Over hash choice parts rest stand))
      (stepped : OnShown es' xs' course (Stepped hash here part stand found)) where
    -- what one part comes to
    one_part : (Q : Scene → Type 0)
        → ((scene : Scene) → KeysFit hash scene.elements → (is : AreDrawn scene.course.last parts → IsOver scene (mode_of choice) parts (part ∷ more) stand)
        → ((drawn : AreDrawn scene.course.last parts)
        → ComesOut scene (follow_before (mode_of choice) more) (one scene (mode_of choice) parts part more stand (is drawn)) found)
        → Q scene)
        → OnShown es xs course (λ scene. KeysFit hash scene.elements → Q scene)
    one_part Q next =
        shown_both es es' xs xs' course (Over hash choice parts (part ∷ more) stand) (Stepped hash here part stand found)
        (λ scene. KeysFit hash scene.elements → Q scene)
        same same' content (subst (λ (list : List Part). OnShown es xs course (Over hash choice parts list stand)) taken over) stepped
        (λ scene sound asked is steps fit.
        next scene fit (is fit) (λ drawn.
        let here' = is fit drawn in
        subst (λ (m : Mode). ComesOut scene m (step scene.volume scene.view m part (place_of stand.at) here'.passed) found) before
        (steps fit here'.drawn.0 here'.passed (is_on scene (mode_of choice) parts part more stand here'))))

    pub loop_goes : (next : Stand) → found ≡ Ok next → OnShown es xs course (Over hash choice parts more next)
    loop_goes next is =
        one_part (λ scene. AreDrawn scene.course.last parts → IsOver scene (mode_of choice) parts more next)
        (λ scene fit over' out drawn.
        over_more scene (mode_of choice) parts part more stand (over' drawn) next
        (subst (λ (w : Result Stand Lost). ComesOut scene (follow_before (mode_of choice) more)
        (one scene (mode_of choice) parts part more stand (over' drawn)) w) is (out drawn)))

    pub loop_lost : (lost : Lost) → found ≡ Err lost
        → OnShown es xs course (λ scene. KeysFit hash scene.elements → AreDrawn scene.course.last parts
        → ComesOut scene (mode_of choice) (walk scene.volume scene.view (mode_of choice) parts) (Err lost))
    loop_lost lost is =
        one_part (λ scene. AreDrawn scene.course.last parts → ComesOut scene (mode_of choice) (walk scene.volume scene.view (mode_of choice) parts) (Err lost))
        (λ scene fit over' out drawn.
        over_lost scene (mode_of choice) parts part more stand (over' drawn) lost
        (subst (λ (w : Result Stand Lost). ComesOut scene (follow_before (mode_of choice) more)
        (one scene (mode_of choice) parts part more stand (over' drawn)) w) is (out drawn)))
