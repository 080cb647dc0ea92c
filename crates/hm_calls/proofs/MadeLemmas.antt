-- What the steps of a call that makes an object tell of its answer.
use Rattle.std.proofs.Common.{◌≡◌, ℕ, ◌+◌, ◌≤◌, List, [], ◌∷◌, false, true, Option, Some, None, Result, Ok, Err, refl, sym, ap, subst, ◌∙◌}
use Rattle.std.specs.Prelude.{IfSome, if◌then◌else◌}
use Rattle.std.specs.Bool.{nat_le}
use Rattle.std.specs.Option.{option_map_or}
use Rattle.hm_types.specs.Elements.{FullElement, Key}
use Rattle.hm_types.specs.Tree.{FileTree, named_in}
use Rattle.hm_types.specs.declared.limits.TheConstants.{GREATEST_ID}
use Rattle.hm_path.specs.Path.{IsPath}
use Rattle.hm_path.specs.declared.part.Part.{Part}
use Rattle.hm_key.specs.Counts.{Counts}
use Rattle.hm_key.specs.Elements.{IsContent}
use Rattle.hm_key.specs.Extents.{Extent}
use Rattle.hm_key.specs.Stores.{Same}
use Rattle.hm_key.specs.Versions.{HaveOwnKeys}
use Rattle.hm_key.specs.declared.element.Element.{Element}
use Rattle.hm_cursor.specs.Told.{IsInodeThen, OnBalanced, fulls}
use Rattle.hm_cursor.specs.Write.{Writes}
use Rattle.hm_cursor.proofs.CallLemmas.{writes_from}
use Rattle.hm_model.specs.Answer.{is_master}
use Rattle.hm_model.specs.Due.{Check, has_id, is_tree_call, no_future, refuse_if, walks}
use Rattle.hm_model.specs.Needs.{names_zones}
use Rattle.hm_model.specs.Sites.{MakesName, Parts, front_of, in_directory, last_name, locate}
use Rattle.hm_model.specs.View.{View}
use Rattle.hm_model.specs.Volume.{Volume, system_of}
use Rattle.hm_model.specs.Walk.{Follows, walk}
use Rattle.hm_model.specs.declared.reply.Reply.{Reply}
use Rattle.hm_model.specs.declared.reply.Reply.TheVariants.{BadPath, Done, Exists, HashFull, ReadOnly}
use Rattle.hm_records.specs.KeysFit.{KeysFit}
use Rattle.hm_records.specs.View.{IsViewOf}
use Rattle.hm_records.specs.declared.inode.Inode.{Inode}
use Rattle.hm_volume.specs.Shown.{ShowsAs}
use Rattle.hm_dirs.specs.Names.{IsSpot, OnNamed, first_key, names_of_hash}
use Rattle.hm_dirs.specs.Walk.{AreDrawn, OnShown, Scene}
use Rattle.hm_dirs.specs.declared.position.Course.{Course}
use Rattle.hm_dirs.specs.declared.position.Stand.{Stand}
use Rattle.hm_dirs.specs.declared.spot.Spot.{Spot}
use Rattle.hm_dirs.proofs.WalkLoopLemmas.{same_twice}
use Rattle.hm_calls.specs.Changes.{Changes}
use Rattle.hm_calls.specs.Due.{space_for}
use Rattle.hm_calls.specs.Known.{AreBelow, AreBelowIn, AreKnown}
use Rattle.hm_calls.specs.New.{command_by, object_by}
use Rattle.hm_calls.specs.Places.{IsBadPath, IsPlaced}
use Rattle.hm_calls.specs.Replies.{Acts, IsAcceptedBy}
use Rattle.hm_calls.specs.Stop.{Answers, Decides, OfRefusal}
use Rattle.hm_calls.specs.Writes.{PutsObject, place_in}
use Rattle.hm_calls.specs.declared.new.New.{New}
use Rattle.hm_calls.specs.declared.new.New.TheVariants.{Directory, File, Snapshot, Softlink}
use Rattle.hm_calls.specs.declared.stop.Stop.{Stop}
use Rattle.hm_calls.specs.declared.stop.Stop.TheVariants.{Failed, Refused}
use Rattle.hm_calls.proofs.EffectLemmas.{IsFoundThen}
use Rattle.hm_calls.proofs.MakeLemmas.{IsNewPlace, IsReady, full_check, make_after, make_done, make_past, new_check, new_place, new_place_there}
use Rattle.hm_calls.proofs.MakeLemmas.{new_view, not_named, puts_changes, stand_tail, tree_at}
use Rattle.hm_calls.proofs.PlaceLemmas.{front_drawn}
use Rattle.hm_calls.proofs.RefusalLemmas.{IsFirst, IsRefused, PassEarly, after_early, all_pass, future_refuses, name_refuses, of_make, one_accepts}
use Rattle.hm_calls.proofs.RefusalLemmas.{one_refuses, pass, past_refuses, stop, walk_refuses, word_refuses}
use Rattle.hm_calls.proofs.RemoveLemmas.{master_check}
use Rattle.hm_calls.proofs.SceneLemmas.{IsPlace, IsSet, IsStoppedBy, OnScenes, answered, decided, scenes_back, scenes_balanced, scenes_both}
use Rattle.hm_calls.proofs.SceneLemmas.{scenes_named, scenes_placed, scenes_so, scenes_unplaced}
use Rattle.hm_calls.proofs.StageLemmas.{acts_ended, good_new, master_passes, master_stopped, nameless_new, no_ids, of_refusal, past_stopped}
use Rattle.hm_calls.proofs.StageLemmas.{refusal_so, scenes_below, scenes_own, untouched, writes_changes}

pub makes_change : (new : New) (word : List ℕ) → is_tree_call (command_by new word) ≡ true
makes_change Directory word = refl
makes_change File word = refl
makes_change (Softlink target) word = refl
makes_change Snapshot word = refl

-- an inode that was looked for
found_then : (es : Option (List Element)) (xs : Option (List Extent)) (t pfs obj : ℕ) (found : Option Inode)
    → OnBalanced es xs (λ lists. IsInodeThen lists t pfs obj found) → OnBalanced es xs (λ lists. IsFoundThen (fulls lists) t pfs obj found)
found_then es xs t pfs obj None told = told
found_then es xs t pfs obj (Some inode) told = told

abbrev IsSpotIn : (List ℕ → ℕ) → List ℕ → Stand → Spot → List FullElement → Type 0
IsSpotIn hash name there spot list =
    (tree : FileTree) → IsViewOf list there.at.pfs.0 there.as_of.0 tree
    → IsSpot (Counts list there.as_of.0) there.at.pfs.0 there.at.object (first_key (hash name)) spot

abbrev IsFoundIn : ℕ → Stand → Option Inode → List FullElement → Type 0
IsFoundIn id there found list = IsFoundThen list there.as_of.0 there.at.pfs.0 id found

-- of a name by what it is equal to
pub as_named : (hash : List ℕ → ℕ) (es : Option (List Element)) (xs : Option (List Extent)) (there : Stand) (n name : List ℕ) (Q : Check → Type 0) → n ≡ name
    → OnNamed hash es xs (λ lists. (tree : FileTree) → IsViewOf (fulls lists) there.at.pfs.0 there.as_of.0 tree
    → Q (option_map_or (λ _. Some Exists) (named_in tree there.at.object n) None))
    → OnNamed hash es xs (λ lists. (tree : FileTree) → IsViewOf (fulls lists) there.at.pfs.0 there.as_of.0 tree
    → Q (option_map_or (λ _. Some Exists) (named_in tree there.at.object name) None))
as_named hash es xs there n name Q same told =
    subst (λ (m : List ℕ). OnNamed hash es xs (λ lists. (tree : FileTree) → IsViewOf (fulls lists) there.at.pfs.0 there.as_of.0 tree
    → Q (option_map_or (λ _. Some Exists) (named_in tree there.at.object m) None))) same told

-- what is known of a store as it was
pub known_back : {es es' : Option (List Element)} {xs xs' : Option (List Extent)} (pfs id : ℕ) (directory there : Stand) (course : Course) → es' ≡ es → xs' ≡ xs
    → there ≡ record directory { as_of = course.last } → pfs ≡ there.at.pfs.0
    → (AreKnown es' xs' id → AreBelowIn es' xs' directory.at.pfs.0 id) → AreKnown es xs id → AreBelowIn es xs pfs id
known_back {es = es} {es' = es'} {xs = xs} {xs' = xs'} pfs id directory there course same same' there_is pfs_is below known =
    let known' : AreKnown es' xs' id =
    subst (λ (x : Option (List Extent)). AreKnown es' x id) (sym same') (subst (λ (e : Option (List Element)). AreKnown e xs id) (sym same) known) in
    subst (λ (p : ℕ). AreBelowIn es xs p id) (sym (pfs_is ∙ ap (λ (s : Stand). s.at.pfs.0) there_is))
    (subst (λ (x : Option (List Extent)). AreBelowIn es x directory.at.pfs.0 id) same'
    (subst (λ (e : Option (List Element)). AreBelowIn e xs' directory.at.pfs.0 id) same (below known')))

pub same_after : {S : Type 0} {elements_of : S → Option (List Element)} {mark_of : S → Key → ℕ} {extents_of : S → Option (List Extent)}
    {room_of : S → ℕ → ℕ} {free_of : S → ℕ} {a b : S} (c : S) (stopped : Stop) → Same elements_of mark_of extents_of room_of free_of a b
    → OfRefusal (λ _. Same elements_of mark_of extents_of room_of free_of b c) stopped
    → OfRefusal (λ _. Same elements_of mark_of extents_of room_of free_of a c) stopped
same_after {elements_of = elements_of} {mark_of = mark_of} {extents_of = extents_of} {room_of = room_of} {free_of = free_of} {a = a} {b = b} c stopped one =
    refusal_so (Same elements_of mark_of extents_of room_of free_of b c) (Same elements_of mark_of extents_of room_of free_of a c) stopped (same_twice one)

module _ {S : Type 0} (elements_of : S → Option (List Element)) (mark_of : S → Key → ℕ) (extents_of : S → Option (List Extent)) (room_of : S → ℕ → ℕ)
    (free_of : S → ℕ) (hash : List ℕ → ℕ) (id : ℕ) (course : Course) (before : course.last.0 + 1 ≡ id) (most : id ≤ GREATEST_ID) (new : New) (word : List ℕ)
    (old : S) where
  -- the call was answered so, and left the store so
  abbrev pub Made : S → Result Reply Stop → Type 0
  Made after result = Acts elements_of mark_of extents_of room_of free_of hash id (λ call. call.command ≡ command_by new word) old after result

  abbrev Refuses : Stop → Type 0
  Refuses = IsRefused hash id (command_by new word) (elements_of old) (extents_of old) (room_of old) (free_of old)

  abbrev Over : (Scene → Type 0) → Type 0
  Over = OnScenes hash (elements_of old) (extents_of old) course

  pub make_stopped : (after : S) (result : Result Reply Stop) (stopped : Stop) → result ≡ Err stopped → Refuses stopped
      → OfRefusal (λ _. Same elements_of mark_of extents_of room_of free_of old after) stopped → Made after result
  make_stopped after result stopped is refuses same =
      acts_ended elements_of mark_of extents_of room_of free_of old after hash id (command_by new word) result stopped is refuses same

  unchanged : (stopped : Stop) → OfRefusal (λ _. Same elements_of mark_of extents_of room_of free_of old old) stopped
  unchanged stopped =
      of_refusal (Same elements_of mark_of extents_of room_of free_of old old) stopped
      (untouched elements_of mark_of extents_of room_of free_of old)

  pub make_word : (result : Result Reply Stop) (stopped : Stop) → result ≡ Err stopped → OfRefusal (IsBadPath word) stopped → Made old result
  make_word result stopped is bad =
      make_stopped old result stopped is
      (word_refuses hash id course before most (command_by new word) MakesName word (of_make new word) (elements_of old) (extents_of old) (room_of old)
      (free_of old) stopped bad) (unchanged stopped)

  module _ (parts : List Part) (path_is : IsPath word parts) where
    pub make_nameless : (result : Result Reply Stop) (stopped : Stop) → result ≡ Err stopped
        → OfRefusal (λ reply. (reply ≡ BadPath 0) × (last_name parts ≡ None)) stopped → Made old result
    make_nameless result stopped is told =
        make_stopped old result stopped is
        (name_refuses hash id course before most (command_by new word) MakesName word (of_make new word) (elements_of old) (extents_of old) (room_of old)
        (free_of old) parts path_is stopped (nameless_new parts stopped told)) (unchanged stopped)

    module _ (name : List ℕ) (named : last_name parts ≡ Some name) where
      pub make_future : (result : Result Reply Stop) (stopped : Stop) → result ≡ Err stopped
          → Decides {T = Unit {0}} (no_future course.last.0 (Parts parts)) (Err stopped) → Made old result
      make_future result stopped is told =
          make_stopped old result stopped is
          (future_refuses hash id course before most (command_by new word) MakesName word (of_make new word) (elements_of old) (extents_of old)
          (room_of old) (free_of old) parts path_is (good_new parts name named) stopped
          (decided (Unit {0}) (no_future course.last.0 (Parts parts)) stopped told)) (unchanged stopped)

      module _ (future : no_future course.last.0 (Parts parts) ≡ None) where
        pub make_present : (result : Result Reply Stop) (stopped : Stop) → result ≡ Err stopped
            → Decides {T = Unit {0}} (refuse_if (has_id (Parts parts)) ReadOnly) (Err stopped) → Made old result
        make_present result stopped is told =
            make_stopped old result stopped is
            (past_refuses hash id course before most (command_by new word) MakesName word (of_make new word) (elements_of old) (extents_of old)
            (room_of old) (free_of old) parts path_is (good_new parts name named) future stopped
            (past_stopped (command_by new word) parts (makes_change new word) stopped told)) (unchanged stopped)

        module _ (present : refuse_if (has_id (Parts parts)) ReadOnly ≡ None) where
          early : PassEarly (command_by new word) MakesName course.last.0 parts
          early = record {
            good = good_new parts name named;
            future = future;
            past = make_past new word (Parts parts) None present;
          }

          -- what is told of the walk to the directory
          abbrev pub Walked : (front : List Part) → Result Stand Stop → Type 0
          Walked front result =
              OnShown (elements_of old) (extents_of old) course (λ scene. KeysFit hash scene.elements → AreDrawn scene.course.last front
              → (other : List ℕ) → IsPlaced scene other (in_directory scene.view (Some other) (walk scene.volume scene.view Follows front)) result)

          pub make_lost : (front : List Part) → front ≡ front_of parts → (after : S) (result : Result Reply Stop) (stopped : Stop) → result ≡ Err stopped
              → Walked front (Err stopped) → Same elements_of mark_of extents_of room_of free_of old after → Made after result
          make_lost front front_is after result stopped is told same =
              make_stopped after result stopped is
              (walk_refuses hash id course before most (command_by new word) MakesName word (of_make new word) (elements_of old) (extents_of old)
              (room_of old) (free_of old) parts path_is early stopped
              (scenes_so hash course (elements_of old) (extents_of old)
              (λ scene. IsStoppedBy (walks (in_directory scene.view (Some name) (walk scene.volume scene.view Follows (front_of parts)))) stopped)
              (λ scene. IsStoppedBy (walks (locate scene.volume scene.view MakesName parts)) stopped)
              (λ scene set told. subst (λ n. IsStoppedBy (walks (in_directory scene.view n (walk scene.volume scene.view Follows (front_of parts)))) stopped)
              (sym named) told)
              (scenes_unplaced hash course (elements_of old) (extents_of old) (front_of parts) (front_drawn course.last.0 parts future) name stopped
              (subst (λ (f : List Part). Walked f (Err stopped)) front_is told))))
              (of_refusal (Same elements_of mark_of extents_of room_of free_of old after) stopped same)

          pub made_place : (front : List Part) → front ≡ front_of parts → (directory : Stand) → Walked front (Ok directory)
              → Over (λ scene. IsNewPlace scene parts name directory)
          made_place front front_is directory told =
              scenes_so hash course (elements_of old) (extents_of old)
              (λ scene. IsPlace scene name (in_directory scene.view (Some name) (walk scene.volume scene.view Follows (front_of parts))) directory)
              (λ scene. IsNewPlace scene parts name directory)
              (λ scene set is. new_place scene parts name directory named (no_ids parts present) is)
              (scenes_placed hash course (elements_of old) (extents_of old) (front_of parts) (front_drawn course.last.0 parts future) name directory
              (subst (λ (f : List Part). Walked f (Ok directory)) front_is told))

          -- a check after the walk refuses
          refuses_after : (F : Scene → Type 0) (check : Scene → Check) → ((reply : Reply) (busy : Option ℕ) (scene : Scene) → IsSet hash course scene → F scene
              → check scene ≡ Some reply → (directory : Stand) × (is : IsNewPlace scene parts name directory)
              × IsFirst (stand_tail hash (room_of old) (free_of old) scene directory name) (Some reply))
              → Over F → (stopped : Stop) → Over (λ scene. IsStoppedBy (check scene) stopped) → Refuses stopped
          refuses_after F check first known stopped told =
              one_refuses hash id course before most (command_by new word) MakesName word (of_make new word) (elements_of old) (extents_of old)
              (room_of old) (free_of old) parts path_is F check
              (λ reply busy scene set has is.
              let at = first reply busy scene set has is in
              after_early hash id course before most (command_by new word) MakesName word (of_make new word) (elements_of old) (extents_of old)
              (room_of old) (free_of old) parts path_is early busy scene (Some reply) set
              (make_after hash (room_of old) (free_of old) new word scene parts name at.0 at.1 busy (Some reply) at.2)) known stopped told

          -- what is told of the record of its pseudo file system
          abbrev pub IsOfMaster : {T : Type 0} → Stand → S → Result T Stop → Type 0
          IsOfMaster directory mid result =
              OnBalanced (elements_of mid) (extents_of mid) (λ lists. (volume : Volume) (view : View) → ShowsAs (fulls lists) volume view
              → Answers (refuse_if (option_map_or (λ s. if is_master s then false else true) (system_of volume directory.at.pfs.0) false) ReadOnly) result)

          pub make_slave : (directory : Stand) → Over (λ scene. IsNewPlace scene parts name directory) → (mid after : S) (result : Result Reply Stop)
              (stopped : Stop) → result ≡ Err stopped → elements_of mid ≡ elements_of old → extents_of mid ≡ extents_of old
              → IsOfMaster {T = Unit {0}} directory mid (Err stopped) → Same elements_of mark_of extents_of room_of free_of old after → Made after result
          make_slave directory place mid after result stopped is elements extents told same =
              make_stopped after result stopped is
              (refuses_after (λ scene. IsNewPlace scene parts name directory) (λ scene. master_check scene directory.at.pfs.0)
              (λ reply busy scene set place refuses. (directory, place, stop refuses)) place stopped
              (master_stopped hash course (elements_of old) (elements_of mid) (extents_of old) (extents_of mid) elements extents directory.at.pfs.0 stopped
              told))
              (of_refusal (Same elements_of mark_of extents_of room_of free_of old after) stopped same)

          -- a directory of a master, read as of the last id
          abbrev pub IsKeptPlace : Stand → Scene → Type 0
          IsKeptPlace there scene =
              IsNewPlace scene parts name there × (master_check scene there.at.pfs.0 ≡ None)
              × IsViewOf scene.elements there.at.pfs.0 there.as_of.0 (tree_at scene there)

          pub made_kept : (directory there : Stand) → there ≡ record directory { as_of = course.last }
              → Over (λ scene. IsNewPlace scene parts name directory) → (mid : S) → elements_of mid ≡ elements_of old → extents_of mid ≡ extents_of old
              → IsOfMaster {T = Unit {0}} directory mid (Ok tt) → Over (IsKeptPlace there)
          made_kept directory there there_is place mid elements extents told =
              scenes_so hash course (elements_of old) (extents_of old)
              (λ scene. IsNewPlace scene parts name directory × (master_check scene directory.at.pfs.0 ≡ None)) (IsKeptPlace there)
              (λ scene set both.
              let moved : IsNewPlace scene parts name there = new_place_there scene parts name directory there course there_is both.0 in
              let master : master_check scene there.at.pfs.0 ≡ None =
              subst (λ (s : Stand). master_check scene s.at.pfs.0 ≡ None) (sym there_is) both.1 in (
                moved,
                master,
                subst (λ (t : ℕ). IsViewOf scene.elements there.at.pfs.0 t (tree_at scene there)) (set.last ∙ ap (λ (s : Stand). s.as_of.0) (sym there_is))
                    (new_view scene parts name there moved set.shows master),
              ))
              (scenes_both hash course (elements_of old) (extents_of old) (λ scene. IsNewPlace scene parts name directory)
              (λ scene. master_check scene directory.at.pfs.0 ≡ None) place
              (master_passes hash course (elements_of old) (elements_of mid) (extents_of old) (extents_of mid) elements extents directory.at.pfs.0 told))

          module _ (there : Stand) (kept : Over (IsKeptPlace there)) where
            -- what is told of the tree of its pseudo file system
            abbrev pub OnTree : S → (FileTree → Type 0) → Type 0
            OnTree mid P =
                OnNamed hash (elements_of mid) (extents_of mid) (λ lists. (tree : FileTree) → IsViewOf (fulls lists) there.at.pfs.0 there.as_of.0 tree
                → P tree)

            tree_told : (P : FileTree → Type 0) (mid : S) → elements_of mid ≡ elements_of old → extents_of mid ≡ extents_of old → OnTree mid P
                → Over (λ scene. IsKeptPlace there scene × P (tree_at scene there))
            tree_told P mid elements extents told =
                scenes_so hash course (elements_of old) (extents_of old)
                (λ scene. IsKeptPlace there scene
                × ((tree : FileTree) → IsViewOf scene.elements there.at.pfs.0 there.as_of.0 tree → P tree))
                (λ scene. IsKeptPlace there scene × P (tree_at scene there))
                (λ scene set both. (both.0, both.1 (tree_at scene there) both.0.2))
                (scenes_both hash course (elements_of old) (extents_of old) (IsKeptPlace there)
                (λ scene. (tree : FileTree) → IsViewOf scene.elements there.at.pfs.0 there.as_of.0 tree → P tree) kept
                (scenes_back hash course (λ scene. (tree : FileTree) → IsViewOf scene.elements there.at.pfs.0 there.as_of.0 tree → P tree) elements extents
                (scenes_named hash course (elements_of mid) (extents_of mid)
                (λ list. (tree : FileTree) → IsViewOf list there.at.pfs.0 there.as_of.0 tree → P tree) told)))

            abbrev pub name_check : FileTree → Check
            name_check tree = option_map_or (λ _. Some Exists) (named_in tree there.at.object name) None

            abbrev pub hash_check : FileTree → Check
            hash_check tree = refuse_if (nat_le 1024 (names_of_hash hash tree there.at.object name)) HashFull

            pub make_exists : (mid after : S) (result : Result Reply Stop) (stopped : Stop) → result ≡ Err stopped → elements_of mid ≡ elements_of old
                → extents_of mid ≡ extents_of old → OnTree mid (λ tree. Answers {T = Unit {0}} (name_check tree) (Err stopped))
                → Same elements_of mark_of extents_of room_of free_of old after → Made after result
            make_exists mid after result stopped is elements extents told same =
                make_stopped after result stopped is
                (refuses_after (IsKeptPlace there) (λ scene. new_check scene there name)
                (λ reply busy scene set is refuses. (there, is.0, pass is.1 (stop refuses))) kept stopped
                (scenes_so hash course (elements_of old) (extents_of old)
                (λ scene. IsKeptPlace there scene × Answers {T = Unit {0}} (new_check scene there name) (Err stopped))
                (λ scene. IsStoppedBy (new_check scene there name) stopped)
                (λ scene set both. answered (Unit {0}) (new_check scene there name) stopped both.1)
                (tree_told (λ tree. Answers {T = Unit {0}} (name_check tree) (Err stopped)) mid elements extents told)))
                (of_refusal (Same elements_of mark_of extents_of room_of free_of old after) stopped same)

            module _ (named_mid : S) (elements : elements_of named_mid ≡ elements_of old) (extents : extents_of named_mid ≡ extents_of old)
                (fresh : OnTree named_mid (λ tree. name_check tree ≡ None)) where
              -- and the name is new there
              abbrev IsFresh : Scene → Type 0
              IsFresh scene = IsKeptPlace there scene × (named_in (tree_at scene there) there.at.object name ≡ None)

              fresh_is : Over IsFresh
              fresh_is =
                  scenes_so hash course (elements_of old) (extents_of old) (λ scene. IsKeptPlace there scene × (new_check scene there name ≡ None)) IsFresh
                  (λ scene set both. (both.0, not_named (named_in (tree_at scene there) there.at.object name) both.1))
                  (tree_told (λ tree. name_check tree ≡ None) named_mid elements extents fresh)

              full_first : (scene : Scene) (check : Check) → named_in (tree_at scene there) there.at.object name ≡ None
                  → full_check hash scene there name ≡ check
                  → refuse_if (option_map_or (λ _. false) (named_in (tree_at scene there) there.at.object name)
                  (nat_le 1024 (names_of_hash hash (tree_at scene there) there.at.object name))) HashFull ≡ check
              full_first scene check none is =
                  subst (λ found. refuse_if (option_map_or (λ _. false) found
                  (nat_le 1024 (names_of_hash hash (tree_at scene there) there.at.object name))) HashFull ≡ check) (sym none) is

              new_first : (scene : Scene) → named_in (tree_at scene there) there.at.object name ≡ None → new_check scene there name ≡ None
              new_first scene none = subst (λ found. option_map_or (λ _. Some Exists) found None ≡ None) (sym none) refl

              pub make_full : (mid after : S) (result : Result Reply Stop) (stopped : Stop) → result ≡ Err stopped → elements_of mid ≡ elements_of old
                  → extents_of mid ≡ extents_of old → OnTree mid (λ tree. Answers {T = Spot} (hash_check tree) (Err stopped))
                  → Same elements_of mark_of extents_of room_of free_of old after → Made after result
              make_full mid after result stopped is elements extents told same =
                  make_stopped after result stopped is
                  (refuses_after IsFresh (λ scene. full_check hash scene there name)
                  (λ reply busy scene set has refuses.
                  (there, has.0.0, pass has.0.1 (pass (new_first scene has.1) (stop (full_first scene (Some reply) has.1 refuses)))))
                  fresh_is stopped
                  (scenes_so hash course (elements_of old) (extents_of old)
                  (λ scene. IsKeptPlace there scene × Answers {T = Spot} (full_check hash scene there name) (Err stopped))
                  (λ scene. IsStoppedBy (full_check hash scene there name) stopped)
                  (λ scene set both. answered Spot (full_check hash scene there name) stopped both.1)
                  (tree_told (λ tree. Answers {T = Spot} (hash_check tree) (Err stopped)) mid elements extents told)))
                  (of_refusal (Same elements_of mark_of extents_of room_of free_of old after) stopped same)

              module _ (spot_mid : S) (spot_elements : elements_of spot_mid ≡ elements_of old) (spot_extents : extents_of spot_mid ≡ extents_of old)
                  (spare : OnTree spot_mid (λ tree. hash_check tree ≡ None)) where
                abbrev HasSpare : Scene → Type 0
                HasSpare scene = IsFresh scene × (full_check hash scene there name ≡ None)

                spare_is : Over HasSpare
                spare_is =
                    scenes_both hash course (elements_of old) (extents_of old) IsFresh (λ scene. full_check hash scene there name ≡ None) fresh_is
                    (scenes_so hash course (elements_of old) (extents_of old) (λ scene. IsKeptPlace there scene × (full_check hash scene there name ≡ None))
                    (λ scene. full_check hash scene there name ≡ None) (λ scene set both. both.1)
                    (tree_told (λ tree. hash_check tree ≡ None) spot_mid spot_elements spot_extents spare))

                -- of a store that has as much room
                space_same : (mid : S) (check : Check) → room_of mid ≡ room_of old → free_of mid ≡ free_of old
                    → space_for names_zones 4 (room_of mid) (free_of mid) ≡ check → space_for names_zones 4 (room_of old) (free_of old) ≡ check
                space_same mid check room free is =
                    subst (λ (f : ℕ). space_for names_zones 4 (room_of old) f ≡ check) free
                    (subst (λ (r : ℕ → ℕ). space_for names_zones 4 r (free_of mid) ≡ check) room is)

                space_stopped : (mid : S) (stopped : Stop) → room_of mid ≡ room_of old → free_of mid ≡ free_of old
                    → Answers {T = Unit {0}} (space_for names_zones 4 (room_of mid) (free_of mid)) (Err stopped)
                    → IsStoppedBy (space_for names_zones 4 (room_of old) (free_of old)) stopped
                space_stopped mid (Refused reply) room free told = space_same mid (Some reply) room free told
                space_stopped mid (Failed fault) room free told = tt

                pub make_crowded : (mid after : S) (result : Result Reply Stop) (stopped : Stop) → result ≡ Err stopped → room_of mid ≡ room_of old
                    → free_of mid ≡ free_of old → Answers {T = Unit {0}} (space_for names_zones 4 (room_of mid) (free_of mid)) (Err stopped)
                    → OfRefusal (λ _. Same elements_of mark_of extents_of room_of free_of old after) stopped → Made after result
                make_crowded mid after result stopped is room free told same =
                    make_stopped after result stopped is
                    (refuses_after HasSpare (λ _. space_for names_zones 4 (room_of old) (free_of old))
                    (λ reply busy scene set has refuses.
                    (there, has.0.0.0, pass has.0.0.1 (pass (new_first scene has.0.1) (pass (full_first scene None has.0.1 has.1) (pass refl (stop refuses))))))
                    spare_is stopped
                    (scenes_so hash course (elements_of old) (extents_of old) HasSpare
                    (λ _. IsStoppedBy (space_for names_zones 4 (room_of old) (free_of old)) stopped)
                    (λ scene set has. space_stopped mid stopped room free told) spare_is)) same

                pub make_accepted : (mid : S) → room_of mid ≡ room_of old → free_of mid ≡ free_of old
                    → space_for names_zones 4 (room_of mid) (free_of mid) ≡ None
                    → IsAcceptedBy hash id (λ call. call.command ≡ command_by new word) (elements_of old) (extents_of old) (room_of old) (free_of old) Done
                make_accepted mid room free told =
                    one_accepts hash id course before most (command_by new word) MakesName word (of_make new word) (elements_of old) (extents_of old)
                    (room_of old) (free_of old) parts path_is HasSpare Done
                    (λ busy scene set has. (
                      after_early hash id course before most (command_by new word) MakesName word (of_make new word) (elements_of old) (extents_of old)
                          (room_of old) (free_of old) parts path_is early busy scene None set
                          (make_after hash (room_of old) (free_of old) new word scene parts name there has.0.0.0 busy None
                          (pass has.0.0.1 (pass (new_first scene has.0.1) (pass (full_first scene None has.0.1 has.1)
                          (pass refl (pass (space_same mid None room free told) all_pass)))))),
                      make_done hash new word (Parts parts ∷ []) busy scene,
                    )) spare_is

              -- what is written is what the call changes
              pub make_writes : there.as_of ≡ course.last → IfSome (elements_of old) IsContent → AreBelowIn (elements_of old) (extents_of old) there.at.pfs.0 id
                  → (spot : Spot) (spot_mid : S) → elements_of spot_mid ≡ elements_of old → extents_of spot_mid ≡ extents_of old
                  → OnNamed hash (elements_of spot_mid) (extents_of spot_mid) (λ lists. (tree : FileTree)
                  → IsViewOf (fulls lists) there.at.pfs.0 there.as_of.0 tree
                  → IsSpot (Counts (fulls lists) there.as_of.0) there.at.pfs.0 there.at.object (first_key (hash name)) spot)
                  → (found : Option Inode) (inode_mid : S) → elements_of inode_mid ≡ elements_of old → extents_of inode_mid ≡ extents_of old
                  → OnBalanced (elements_of inode_mid) (extents_of inode_mid) (λ lists. IsInodeThen lists there.as_of.0 there.at.pfs.0 id found)
                  → (mid after : S) → elements_of mid ≡ elements_of old → extents_of mid ≡ extents_of old
                  → Writes elements_of extents_of (PutsObject hash (place_in there name) spot id (object_by new id)) mid after
                  → Writes elements_of extents_of (Changes hash id (λ call. call.command ≡ command_by new word)) old after
              make_writes last content below spot spot_mid spot_elements spot_extents spot_told found inode_mid inode_elements inode_extents inode_told mid
                  after
                  mid_elements mid_extents wrote =
                  writes_changes hash id course (command_by new word) (PutsObject hash (place_in there name) spot id (object_by new id))
                  (λ scene. IsReady hash id scene parts name there spot found) (elements_of old) (elements_of after) (extents_of old) (extents_of after) before
                  (puts_changes hash id course before new word parts name path_is there last spot found)
                  (scenes_so hash course (elements_of old) (extents_of old)
                  (λ scene. IsFresh scene × ((IsSpotIn hash name there spot) scene.elements × ((IsFoundIn id there found) scene.elements ×
                  (HaveOwnKeys scene.elements × AreBelow there.at.pfs.0 id scene.elements))))
                  (λ scene. IsReady hash id scene parts name there spot found)
                  (λ scene set has. record {
                    place = has.0.0.0;
                    master = has.0.0.1;
                    fresh = has.0.1;
                    spot_is = has.1.0 (tree_at scene there) has.0.0.2;
                    number = has.1.1.0;
                    own = has.1.1.1.0;
                    below = has.1.1.1.1;
                  })
                  (scenes_both hash course (elements_of old) (extents_of old) IsFresh
                  (λ scene. (IsSpotIn hash name there spot) scene.elements × ((IsFoundIn id there found) scene.elements × (HaveOwnKeys scene.elements
                  × AreBelow there.at.pfs.0 id scene.elements))) fresh_is
                  (scenes_both hash course (elements_of old) (extents_of old) (λ scene. (IsSpotIn hash name there spot) scene.elements)
                  (λ scene. (IsFoundIn id there found) scene.elements × (HaveOwnKeys scene.elements × AreBelow there.at.pfs.0 id scene.elements))
                  (scenes_back hash course (λ scene. (IsSpotIn hash name there spot) scene.elements) spot_elements spot_extents
                  (scenes_named hash course (elements_of spot_mid) (extents_of spot_mid) (IsSpotIn hash name there spot) spot_told))
                  (scenes_both hash course (elements_of old) (extents_of old) (λ scene. (IsFoundIn id there found) scene.elements)
                  (λ scene. HaveOwnKeys scene.elements × AreBelow there.at.pfs.0 id scene.elements)
                  (scenes_back hash course (λ scene. (IsFoundIn id there found) scene.elements) inode_elements inode_extents
                  (scenes_balanced hash course (elements_of inode_mid) (extents_of inode_mid) (IsFoundIn id there found)
                  (found_then (elements_of inode_mid) (extents_of inode_mid) there.as_of.0 there.at.pfs.0 id found inode_told)))
                  (scenes_both hash course (elements_of old) (extents_of old) (λ scene. HaveOwnKeys scene.elements)
                  (λ scene. AreBelow there.at.pfs.0 id scene.elements) (scenes_own hash course (elements_of old) (extents_of old) content)
                  (scenes_below hash course (elements_of old) (extents_of old) there.at.pfs.0 id below))))))
                  (writes_from elements_of extents_of (PutsObject hash (place_in there name) spot id (object_by new id)) old mid after mid_elements mid_extents
                  wrote)
