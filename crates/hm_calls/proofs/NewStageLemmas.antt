-- What a call that makes a pseudo file system is due and does over a store, from what its stages tell.
use Rattle.std.proofs.Common.{◌≡◌, ℕ, ◌+◌, List, [], ◌∷◌, Option, Some, None, Result, Ok, Err, refl, sym, ap, subst, ◌∙◌}
use Rattle.std.specs.Prelude.{IfSome, is_some}
use Rattle.hm_types.specs.Elements.{Key}
use Rattle.hm_types.specs.Tree.{named_in}
use Rattle.hm_types.specs.declared.id.Pfs.{Pfs}
use Rattle.hm_path.specs.Path.{IsPath}
use Rattle.hm_path.specs.declared.part.Part.{Part}
use Rattle.hm_key.specs.Balance.{Balanced, content_of}
use Rattle.hm_key.specs.Counts.{Counts}
use Rattle.hm_key.specs.Elements.{IsContent}
use Rattle.hm_key.specs.Extents.{Extent}
use Rattle.hm_key.specs.Stores.{Same, SameContent}
use Rattle.hm_key.specs.Versions.{HaveOwnKeys}
use Rattle.hm_key.specs.declared.element.Element.{Element}
use Rattle.hm_cursor.specs.Told.{IsInodeThen, Lists, OnBalanced, fulls}
use Rattle.hm_cursor.specs.Write.{Writes}
use Rattle.hm_cursor.proofs.CallLemmas.{known_after}
use Rattle.hm_model.specs.Due.{Check, accepted, first_refusal, new_pfs}
use Rattle.hm_model.specs.Sites.{Parsed, Parts}
use Rattle.hm_model.specs.declared.reply.Reply.TheVariants.{MadePfs}
use Rattle.hm_records.specs.View.{IsViewOf}
use Rattle.hm_records.specs.declared.inode.Inode.{Inode}
use Rattle.hm_dirs.specs.Names.{IsSpot, first_key}
use Rattle.hm_dirs.specs.Walk.{Scene}
use Rattle.hm_dirs.specs.declared.position.Course.{Course}
use Rattle.hm_dirs.specs.declared.position.Stand.{Stand}
use Rattle.hm_dirs.specs.declared.spot.Spot.{Spot}
use Rattle.hm_pfs.specs.Records.{IsFirstUnused, IsLeastUnused}
use Rattle.hm_calls.specs.Known.{AreKnown, AreOlderOrSlaves}
use Rattle.hm_calls.specs.NewSystems.{Founds, HasKnownNumbers, IsRefusedTo, IsNewThere, IsReadThere, PutsLinked, system_checks, system_command}
use Rattle.hm_calls.specs.Scenes.{InScenes, call_in, tree_at}
use Rattle.hm_calls.specs.Stages.{AnswersAll, last_checks, place_checks}
use Rattle.hm_calls.specs.Stop.{OfRefusal}
use Rattle.hm_calls.specs.Writes.{place_in}
use Rattle.hm_calls.specs.declared.new_systems.NewSystem.{NewSystem}
use Rattle.hm_calls.specs.declared.new_systems.NewSystem.TheVariants.{Master, Slave}
use Rattle.hm_calls.specs.declared.stop.Stop.{Stop}
use Rattle.hm_calls.proofs.EffectLemmas.{IsFoundThen}
use Rattle.hm_calls.proofs.FrontLemmas.{IsAsked, back_in, back_over, both_in, map_in, on_in}
use Rattle.hm_calls.proofs.MakeLemmas.{new_system, new_view, not_named}
use Rattle.hm_calls.proofs.NewCallLemmas.{all_passed, last_refuses}
use Rattle.hm_calls.proofs.NewEffectLemmas.{IsReadyFor, known_linked, writes_systems}
use Rattle.hm_calls.proofs.NewNumberLemmas.{number_is}
use Rattle.hm_calls.proofs.NewSystemLemmas.{new_last}
use Rattle.hm_calls.proofs.SceneLemmas.{scenes_balanced}
use Rattle.hm_calls.proofs.StageLemmas.{Wrote, scenes_own, told_then}
use Rattle.hm_calls.proofs.StepLemmas.{told_so}

-- the first of some checks passed
passed_first : (check : Check) (rest : List Check) → first_refusal (check ∷ rest) ≡ None → check ≡ None
passed_first None rest is = refl
passed_first (Some refusal) rest is = absurd (cc)

-- two facts of what is told
told_both : (P Q : Lists → Type 0) (told : Option Lists) → IfSome told P → IfSome told Q → IfSome told (λ lists. P lists × Q lists)
told_both P Q None one two = tt
told_both P Q (Some lists) one two = (one, two)

module _ {S : Type 0} {elements_of : S → Option (List Element)} {mark_of : S → Key → ℕ} {extents_of : S → Option (List Extent)} {room_of : S → ℕ → ℕ}
    {free_of : S → ℕ} where
  -- ---- the last checks

  module _ {start mid : S} {hash : List ℕ → ℕ} {course : Course} {parts : List Part} {id : ℕ} {name : List ℕ} {directory : Stand}
      (same : Same elements_of mark_of extents_of room_of free_of start mid) (word : List ℕ) (shared : ℕ) (new : NewSystem) (numbers : ℕ)
      (there : InScenes hash course (elements_of start) (extents_of start) (IsNewThere parts id name directory)) where
    seen : InScenes hash course (elements_of mid) (extents_of mid) (IsReadThere directory)
    seen = on_in same (map_in (λ scene set is. record {
      tree = subst (λ (t : ℕ). IsViewOf scene.elements directory.at.pfs.0 t (tree_at scene directory))
          (ap (λ (c : Course). c.last.0) (sym set.course_is) ∙ ap (λ i. i.0) (sym is.last))
          (subst (λ (t : ℕ). IsViewOf scene.elements directory.at.pfs.0 t (tree_at scene directory)) set.last
          (new_view scene parts name directory is.place set.shows is.master));
      system = new_system scene parts name directory is.place set.shows;
    }) there)

    -- what the last stage tells, of each volume that is counted
    abbrev pub TellsLast : {T : Type 0} → Result T Stop → Type 0
    TellsLast result = InScenes hash course (elements_of mid) (extents_of mid) (IsReadThere directory)
        → InScenes hash course (elements_of mid) (extents_of mid) (λ scene. HasKnownNumbers numbers scene.elements scene.volume
        → AnswersAll (system_checks hash (room_of mid) (free_of mid) name directory scene) result)

    tells_last : {T : Type 0} {result : Result T Stop} → TellsLast result
        → InScenes hash course (elements_of start) (extents_of start) (λ scene. (busy : Option ℕ) → HasKnownNumbers numbers scene.elements scene.volume
        → AnswersAll (last_checks (call_in hash (system_command new word shared) (Parts parts ∷ []) busy scene) (room_of start) (free_of start)) result)
    tells_last {result = result} told =
        map_in (λ scene set is busy counted.
        new_last hash word shared scene parts busy name directory is.0.place new (room_of start) (free_of start) (is.1 counted))
        (both_in there (back_over same (λ room free scene. HasKnownNumbers numbers scene.elements scene.volume
        → AnswersAll (system_checks hash room free name directory scene) result) (told seen)))

    -- it refuses
    pub refused_last : {T U : Type 0} {x : T} {stopped : Stop} (asked : IsAsked id course (system_command new word shared) (Parts parts ∷ []))
        → InScenes hash course (elements_of start) (extents_of start) (λ scene. (busy : Option ℕ)
        → AnswersAll (place_checks (call_in hash (system_command new word shared) (Parts parts ∷ []) busy scene)) (Ok x))
        → TellsLast {T = U} (Err stopped)
        → OfRefusal (IsRefusedTo hash id numbers (system_command new word shared) (elements_of start) (extents_of start) (room_of start)
        (free_of start)) stopped
    refused_last {stopped = stopped} asked places told =
        last_refuses asked hash (room_of start) (free_of start) numbers (elements_of start) (extents_of start) stopped places (tells_last told)

    -- ---- all pass

    module _ (number : Pfs) (spot : Spot) (found : Option Inode) (content : IfSome (elements_of start) IsContent)
        (inode : OnBalanced (elements_of start) (extents_of start) (λ lists. IsInodeThen lists directory.as_of.0 directory.at.pfs.0 id found))
        (unused : IfSome (content_of (elements_of mid) (extents_of mid)) (λ lists. IsLeastUnused (fulls lists) numbers (Some number))) where
      -- which number was taken, and the inode that was looked for
      first_in : InScenes hash course (elements_of start) (extents_of start) (λ scene. IsFirstUnused scene.elements numbers number.0)
      first_in = back_in same (record {
        each = scenes_balanced hash course (elements_of mid) (extents_of mid) (λ list. IsFirstUnused list numbers number.0)
            (told_so (content_of (elements_of mid) (extents_of mid)) (λ lists is balanced. is) unused);
      })

      inode_in : InScenes hash course (elements_of start) (extents_of start) (λ scene. IsFoundThen scene.elements directory.as_of.0 directory.at.pfs.0 id found)
      inode_in = record {
        each = scenes_balanced hash course (elements_of start) (extents_of start) (λ list. IsFoundThen list directory.as_of.0 directory.at.pfs.0 id found)
            (found_as found inode);
      } where
        found_as : (o : Option Inode) → OnBalanced (elements_of start) (extents_of start) (λ lists. IsInodeThen lists directory.as_of.0 directory.at.pfs.0 id o)
            → OnBalanced (elements_of start) (extents_of start) (λ lists. IsFoundThen (fulls lists) directory.as_of.0 directory.at.pfs.0 id o)
        found_as None told = told
        found_as (Some i) told = told

      accepts : (n : NewSystem) (ps : List Parsed) (busy : Option ℕ) (scene : Scene)
          → accepted (call_in hash (system_command n word shared) ps busy scene) ≡ MadePfs (record { 0 = new_pfs scene.volume })
      accepts Master ps busy scene = refl
      accepts Slave ps busy scene = refl

      pub founded : {T : Type 0} {x : T} (asked : IsAsked id course (system_command new word shared) (Parts parts ∷ [])) → IsPath word parts
          → InScenes hash course (elements_of start) (extents_of start) (λ scene. (busy : Option ℕ)
          → AnswersAll (place_checks (call_in hash (system_command new word shared) (Parts parts ∷ []) busy scene)) (Ok x))
          → TellsLast {T = Pfs × Spot} (Ok (number, spot))
          → (InScenes hash course (elements_of mid) (extents_of mid) (IsReadThere directory)
          → InScenes hash course (elements_of mid) (extents_of mid) (λ scene. IsSpot (Counts scene.elements directory.as_of.0) directory.at.pfs.0
          directory.at.object (first_key (hash name)) spot))
          → (now : S) → Wrote (PutsLinked hash (place_in directory name) spot id new number shared) (elements_of start) (extents_of start) (elements_of now)
          (extents_of now)
          → Founds elements_of mark_of extents_of room_of free_of hash id numbers new word shared start now (Ok number)
      founded asked path_is places told spots now wrote = (
        all_passed asked hash (room_of start) (free_of start) numbers (elements_of start) (extents_of start)
            (λ scene. IsFirstUnused scene.elements numbers number.0) (MadePfs number)
            (λ ps busy scene set first counted.
            accepts new ps busy scene ∙ ap (λ (n : ℕ). MadePfs (record { 0 = n }))
            (number_is numbers scene.elements scene.volume scene.view set.shows counted number.0 first))
            first_in places (tells_last told),
        writes_systems hash id course asked.before new word shared parts name path_is directory spot found number numbers (elements_of start)
            (elements_of now) (extents_of start) (extents_of now) ready.each wrote,
      ) where
        ready : InScenes hash course (elements_of start) (extents_of start) (λ scene. HasKnownNumbers numbers scene.elements scene.volume
            → IsReadyFor hash id course asked.before new word shared parts name path_is directory spot found number numbers scene)
        ready =
            map_in {P = λ scene. (IsNewThere parts id name directory scene × HaveOwnKeys scene.elements)
            × ((IsFirstUnused scene.elements numbers number.0 × IsFoundThen scene.elements directory.as_of.0 directory.at.pfs.0 id found)
            × ((HasKnownNumbers numbers scene.elements scene.volume
            → AnswersAll (system_checks hash (room_of mid) (free_of mid) name directory scene) (Ok (number, spot)))
            × IsSpot (Counts scene.elements directory.as_of.0) directory.at.pfs.0 directory.at.object (first_key (hash name)) spot))}
            (λ scene set is counted. record {
              ready = record {
                place = is.0.0.place;
                master = is.0.0.master;
                fresh = not_named (named_in (tree_at scene directory) directory.at.object name)
                    (passed_first _ _ (is.1.1.0 counted).is);
                spot_is = is.1.1.1;
                number = is.1.0.1;
                own = is.0.1;
                below = is.0.0.below;
              };
              first = is.1.0.0;
              last = is.0.0.last ∙ ap (λ (c : Course). c.last) set.course_is;
            })
            (both_in (both_in there (record { each = scenes_own hash course (elements_of start) (extents_of start) content }))
            (both_in (both_in first_in inode_in) (both_in (back_in same (told seen)) (back_in same (spots seen)))))

  -- ---- what is known of ids afterwards

  module _ {start mid last : S} (same : Same elements_of mark_of extents_of room_of free_of start mid)
      (content : SameContent elements_of mark_of extents_of mid last) where
    pub known_founded : (hash : List ℕ → ℕ) (directory : Stand) (name : List ℕ) (spot : Spot) (id numbers shared : ℕ) (new : NewSystem) (number : Pfs) (now : S)
        → is_some (elements_of now) ≡ is_some (elements_of last) → is_some (extents_of now) ≡ is_some (extents_of last)
        → Balanced (elements_of start) (extents_of start) → AreKnown (elements_of start) (extents_of start) id
        → IfSome (content_of (elements_of mid) (extents_of mid)) (λ lists. IsLeastUnused (fulls lists) numbers (Some number))
        → Writes elements_of extents_of (PutsLinked hash (place_in directory name) spot id new number shared) last now
        → AreKnown (elements_of now) (extents_of now) (id + 1)
    known_founded hash directory name spot id numbers shared new number now told told' balanced known unused wrote =
        known_after elements_of extents_of (PutsLinked hash (place_in directory name) spot id new number shared)
        (λ lists. IsLeastUnused (fulls lists) numbers (Some number) × AreOlderOrSlaves id (fulls lists)) (AreOlderOrSlaves (id + 1)) last now told told'
        (from_start (λ es xs. Balanced es xs) balanced)
        (told_both (λ lists. IsLeastUnused (fulls lists) numbers (Some number)) (λ lists. AreOlderOrSlaves id (fulls lists))
        (content_of (elements_of last) (extents_of last))
        (told_then (elements_of mid) (elements_of last) (extents_of mid) (extents_of last) content.elements content.extents
        (λ es xs. IfSome (content_of es xs) (λ lists. IsLeastUnused (fulls lists) numbers (Some number))) unused)
        (from_start (λ es xs. AreKnown es xs id) known))
        (λ was es' both puts. known_linked hash directory name spot id numbers shared new number (fulls was) es' both.0 both.1 puts)
        wrote
      where
        from_start : (P : Option (List Element) → Option (List Extent) → Type 0) → P (elements_of start) (extents_of start)
            → P (elements_of last) (extents_of last)
        from_start P =
            told_then (elements_of start) (elements_of last) (extents_of start) (extents_of last) (content.elements ∙ same.elements)
            (content.extents ∙ same.extents) P
