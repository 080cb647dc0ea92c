-- Where the paths of a call of two led, in scenes over the store that it found.
use Rattle.std.proofs.Common.{◌≡◌, ℕ, List, false, Option, None, Result, Ok, Err, refl, sym, subst}
use Rattle.std.specs.Prelude.{◌||◌}
use Rattle.hm_types.specs.Elements.{Key}
use Rattle.hm_path.specs.declared.part.Part.{Part}
use Rattle.hm_key.specs.Extents.{Extent}
use Rattle.hm_key.specs.Stores.{Same}
use Rattle.hm_key.specs.declared.element.Element.{Element}
use Rattle.hm_cursor.specs.Told.{OnBalanced, fulls}
use Rattle.hm_model.specs.Due.{has_id, refuse_if, walks}
use Rattle.hm_model.specs.Sites.{MakesName, Parts, Walks, locate}
use Rattle.hm_model.specs.View.{View}
use Rattle.hm_model.specs.Volume.{Volume}
use Rattle.hm_model.specs.Walk.{Stays, walk}
use Rattle.hm_model.specs.declared.reply.Reply.{Reply}
use Rattle.hm_model.specs.declared.reply.Reply.TheVariants.{ReadOnly}
use Rattle.hm_records.specs.KeysFit.{KeysFit}
use Rattle.hm_volume.specs.Shown.{ShowsAs}
use Rattle.hm_dirs.specs.Walk.{AreDrawn, OnShown}
use Rattle.hm_dirs.specs.declared.position.Course.{Course}
use Rattle.hm_dirs.specs.declared.position.Stand.{Stand}
use Rattle.hm_calls.specs.Known.{AreBelow, AreBelowIn, AreKnown}
use Rattle.hm_calls.specs.Places.{IsReached}
use Rattle.hm_calls.specs.Scenes.{InScenes, IsEnd, IsNewPlace, is_slave, slave_check}
use Rattle.hm_calls.specs.Stages.{IsNewName}
use Rattle.hm_calls.specs.Stop.{Answers}
use Rattle.hm_calls.specs.declared.stages.NewName.{NewName}
use Rattle.hm_calls.specs.declared.stop.Stop.{Stop}
use Rattle.hm_calls.specs.declared.stop.Stop.TheVariants.{Failed, Refused}
use Rattle.hm_calls.proofs.FrontLemmas.{back_in, both_in, first_stops, map_in}
use Rattle.hm_calls.proofs.LinkCallLemmas.{IsPlacedAt, new_placed, new_unplaced, object_reached, object_unreached}
use Rattle.hm_calls.proofs.PlaceLemmas.{front_has_none}
use Rattle.hm_calls.proofs.RefusalLemmas.{refuse_second}
use Rattle.hm_calls.proofs.SceneLemmas.{IsStoppedBy}
use Rattle.hm_calls.proofs.StageLemmas.{master_passes, master_stopped, scenes_below, scenes_volumes, told_before, told_then}

-- a stop, as a step tells of it
pub stop_answers : (T : Type 0) (check : Option Reply) (stopped : Stop) → IsStoppedBy check stopped → Answers {T = T} check (Err stopped)
stop_answers T check (Refused reply) told = told
stop_answers T check (Failed fault) told = tt

-- ---- slaves

-- what is told of a look at a record, of each volume that is shown
abbrev pub OnVolumes : Option (List Element) → Option (List Extent) → (Volume → Type 0) → Type 0
OnVolumes es xs P = OnBalanced es xs (λ lists. (volume : Volume) (view : View) → ShowsAs (fulls lists) volume view → P volume)

pub first_slave : (hash : List ℕ → ℕ) (course : Course) (es : Option (List Element)) (xs : Option (List Extent)) (one two : ℕ) (stopped : Stop)
    → OnVolumes es xs (λ volume. Answers {T = Unit {0}} (slave_check volume one) (Err stopped))
    → InScenes hash course es xs (λ scene. Answers {T = Unit {0}} (refuse_if (is_slave scene.volume one || (is_slave scene.volume two || false)) ReadOnly)
    (Err stopped))
first_slave hash course es xs one two stopped told =
    map_in {P = λ scene. IsStoppedBy (slave_check scene.volume one) stopped}
    (λ scene set is. stop_answers (Unit {0}) _ stopped (first_stops (is_slave scene.volume one) (is_slave scene.volume two) ReadOnly stopped is))
    (record { each = master_stopped hash course es es xs xs refl refl one stopped told })

module _ {S : Type 0} {elements_of : S → Option (List Element)} {mark_of : S → Key → ℕ} {extents_of : S → Option (List Extent)} {room_of : S → ℕ → ℕ}
    {free_of : S → ℕ} where
  pub second_slave : {old new : S} (hash : List ℕ → ℕ) (course : Course) → Same elements_of mark_of extents_of room_of free_of old new → (one two : ℕ)
      (result : Result (Unit {0}) Stop) → OnVolumes (elements_of old) (extents_of old) (λ volume. slave_check volume one ≡ None)
      → OnVolumes (elements_of new) (extents_of new) (λ volume. Answers (slave_check volume two) result)
      → InScenes hash course (elements_of old) (extents_of old)
      (λ scene. Answers (refuse_if (is_slave scene.volume one || (is_slave scene.volume two || false)) ReadOnly) result)
  second_slave {old = old} {new = new} hash course same one two result first second =
      map_in {P = λ scene. (slave_check scene.volume one ≡ None) × Answers (slave_check scene.volume two) result}
      (λ scene set is. subst (λ (check : Option Reply). Answers check result)
      (sym (refuse_second (is_slave scene.volume one) (is_slave scene.volume two) ReadOnly (slave_check scene.volume two) is.0 refl)) is.1)
      (both_in {P = λ scene. slave_check scene.volume one ≡ None} {Q = λ scene. Answers (slave_check scene.volume two) result}
      (record { each = master_passes hash course (elements_of old) (elements_of old) (extents_of old) (extents_of old) refl refl one first })
      (back_in same (record {
        each = scenes_volumes hash course (elements_of new) (extents_of new) (λ list volume view. Answers (slave_check volume two) result) second;
      })))

  -- what is known of a store that stayed
  pub below_back : {old new : S} → Same elements_of mark_of extents_of room_of free_of old new → (pfs : ℕ)
      → ((id : ℕ) → AreKnown (elements_of new) (extents_of new) id → AreBelowIn (elements_of new) (extents_of new) pfs id)
      → (id : ℕ) → AreKnown (elements_of old) (extents_of old) id → AreBelowIn (elements_of old) (extents_of old) pfs id
  below_back {old = old} {new = new} same pfs below id known =
      told_before (elements_of old) (elements_of new) (extents_of old) (extents_of new) same.elements same.extents (λ es xs. AreBelowIn es xs pfs id)
      (below id (told_then (elements_of old) (elements_of new) (extents_of old) (extents_of new) same.elements same.extents (λ es xs. AreKnown es xs id)
      known))

  -- ---- the directory of a new name, in a store that stayed

  module _ {old new : S} (hash : List ℕ → ℕ) (course : Course) (same : Same elements_of mark_of extents_of room_of free_of old new) (one more : List Part)
      (named : NewName) (is : IsNewName one more named) where
    -- what the walk to it tells
    abbrev pub IsFoundAt : Result Stand Stop → Type 0
    IsFoundAt result = OnShown (elements_of new) (extents_of new) course (IsPlacedAt hash course (elements_of old) (elements_of new) (extents_of old)
        (extents_of new) same.elements same.extents more named.front.now named.name.now is.front is.name is.now result)

    pub unplaced_in : (stopped : Stop) → IsFoundAt (Err stopped)
        → InScenes hash course (elements_of old) (extents_of old) (λ scene. IsStoppedBy (walks (locate scene.volume scene.view MakesName more)) stopped)
    unplaced_in stopped told = record {
      each = new_unplaced hash course (elements_of old) (elements_of new) (extents_of old) (extents_of new) same.elements same.extents more named.front.now
          named.name.now is.front is.name is.now stopped told;
    }

    pub placed_in : (stand : Stand) → IsFoundAt (Ok stand)
        → InScenes hash course (elements_of old) (extents_of old) (λ scene. IsNewPlace scene more named.name.now stand)
    placed_in stand told = record {
      each = new_placed hash course (elements_of old) (elements_of new) (extents_of old) (extents_of new) same.elements same.extents more named.front.now
          named.name.now is.front is.name is.now stand told;
    }

-- ---- the object that a path leads to

module _ (hash : List ℕ → ℕ) (course : Course) (es : Option (List Element)) (xs : Option (List Extent)) (parts : List Part)
    (none : has_id (Parts parts) ≡ false) where
  -- what the walk to it tells
  abbrev pub IsCome : Result Stand Stop → Type 0
  IsCome result = OnShown es xs course (λ scene. KeysFit hash scene.elements → AreDrawn scene.course.last parts
      → IsReached scene Stays (walk scene.volume scene.view Stays parts) result)

  pub unreached_in : (stopped : Stop) → IsCome (Err stopped)
      → InScenes hash course es xs (λ scene. IsStoppedBy (walks (locate scene.volume scene.view (Walks Stays) parts)) stopped)
  unreached_in stopped told = record { each = object_unreached hash course es xs parts none stopped told }

  pub reached_in : (stand : Stand) → IsCome (Ok stand)
      → InScenes hash course es xs (λ scene. IsEnd scene Stays (walk scene.volume scene.view Stays parts) stand)
  reached_in stand told = record { each = object_reached hash course es xs parts none stand told }

-- its pseudo file system has older elements alone
pub below_in : {hash : List ℕ → ℕ} {course : Course} {es : Option (List Element)} {xs : Option (List Extent)} (pfs id : ℕ) → AreBelowIn es xs pfs id
    → InScenes hash course es xs (λ scene. AreBelow pfs id scene.elements)
below_in {hash = hash} {course = course} {es = es} {xs = xs} pfs id below = record { each = scenes_below hash course es xs pfs id below }

-- the parts before a new name have no id
pub front_now : (one more : List Part) (named : NewName) → IsNewName one more named → has_id (Parts named.front.now) ≡ false
front_now one more named is = subst (λ (ps : List Part). has_id (Parts ps) ≡ false) (sym is.front) (front_has_none more is.now)
