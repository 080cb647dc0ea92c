-- From what the steps of a call that takes a name away tell, to its checks and its answer.
use Rattle.std.proofs.Common.{◌≡◌, ℕ, ◌+◌, List, [], ◌∷◌, Bool, true, false, Option, Result, Some, None, Ok, Err, refl, sym, ap, subst, ◌∙◌}
use Rattle.std.specs.Prelude.{◌&&◌, ◌||◌, IfSome, IsSomeAnd}
use Rattle.std.specs.List.{list_any}
use Rattle.std.specs.Option.{option_map_or}
use Rattle.hm_types.specs.Elements.{FullElement, Key}
use Rattle.hm_types.specs.declared.id.Id.{Id}
use Rattle.hm_path.specs.declared.part.Part.{Part}
use Rattle.hm_key.specs.Balance.{IsBalanced, content_of}
use Rattle.hm_key.specs.Elements.{IsContent}
use Rattle.hm_key.specs.Extents.{Extent}
use Rattle.hm_key.specs.Stores.{Same}
use Rattle.hm_key.specs.Versions.{HaveOwnKeys}
use Rattle.hm_key.specs.declared.element.Element.{Element}
use Rattle.hm_cursor.specs.Told.{Lists, OnBalanced, fulls}
use Rattle.hm_cursor.proofs.PayloadLemmas.{full_sorted}
use Rattle.hm_model.specs.Due.{good_path, has_id, is_pfs_call, is_tree_call, no_future, past_stays, refuse_if, walks}
use Rattle.hm_model.specs.Sites.{Located, MakesName, Parsed, Parts, ReadsWords, TakesName, front_of, last_name, locate, standing_name}
use Rattle.hm_model.specs.View.{View}
use Rattle.hm_model.specs.Volume.{Volume}
use Rattle.hm_model.specs.Walk.{Follows, Stays, walk}
use Rattle.hm_model.specs.declared.command.Command.{Command}
use Rattle.hm_model.specs.declared.reply.Reply.{Reply}
use Rattle.hm_model.specs.declared.reply.Reply.TheVariants.{BadPath, ReadOnly}
use Rattle.hm_records.proofs.CountsLemmas.{own_keys-sorted}
use Rattle.hm_records.specs.KeysFit.{KeysFit}
use Rattle.hm_volume.specs.Shown.{ShowsAs}
use Rattle.hm_dirs.specs.Walk.{AreDrawn, IsDrawn, OnShown, Scene}
use Rattle.hm_dirs.specs.declared.position.Course.{Course}
use Rattle.hm_dirs.specs.declared.position.Stand.{Stand}
use Rattle.hm_calls.specs.Changes.{Changes, ChangesTree}
use Rattle.hm_calls.specs.Known.{AreBelow, AreBelowIn}
use Rattle.hm_calls.specs.Places.{IsNamed}
use Rattle.hm_calls.specs.Replies.{Acts}
use Rattle.hm_calls.specs.Stop.{Answers, Decides, OfRefusal}
use Rattle.hm_calls.specs.declared.stop.Stop.{Stop}
use Rattle.hm_calls.specs.declared.stop.Stop.TheVariants.{Failed, Refused}
use Rattle.hm_calls.proofs.NowLemmas.{part_has_id, stands}
use Rattle.hm_calls.proofs.RefusalLemmas.{IsRefused, PassEarly, refuse_one}
use Rattle.hm_calls.proofs.SceneLemmas.{IsSet, IsStoppedBy, OnScenes, answered, call_in, call_set, call_so, named, scene_in, scenes_back}
use Rattle.hm_calls.proofs.SceneLemmas.{scenes_shown, scenes_so, unnamed}
pub use Rattle.hm_calls.specs.Scenes.{IsTakenName, slave_check}

-- ---- answers

-- a call that was stopped before it wrote
pub acts_stopped : {S : Type 0} (elements_of : S → Option (List Element)) (mark_of : S → Key → ℕ) (extents_of : S → Option (List Extent)) (room_of : S → ℕ →
    ℕ)
    (free_of : S → ℕ) (old new : S) (hash : List ℕ → ℕ) (id : ℕ) (command : Command) (stopped : Stop)
    → IsRefused hash id command (elements_of old) (extents_of old) (room_of old) (free_of old) stopped
    → OfRefusal (λ _. Same elements_of mark_of extents_of room_of free_of old new) stopped
    → Acts elements_of mark_of extents_of room_of free_of hash id (λ call. call.command ≡ command) old new (Err stopped)
acts_stopped elements_of mark_of extents_of room_of free_of old new hash id command (Refused reply) refused same = (refused, same)
acts_stopped elements_of mark_of extents_of room_of free_of old new hash id command (Failed fault) refused same = tt

pub acts_ended : {S : Type 0} (elements_of : S → Option (List Element)) (mark_of : S → Key → ℕ) (extents_of : S → Option (List Extent)) (room_of : S → ℕ → ℕ)
    (free_of : S → ℕ) (old new : S) (hash : List ℕ → ℕ) (id : ℕ) (command : Command) (result : Result Reply Stop) (stopped : Stop) → result ≡ Err stopped
    → IsRefused hash id command (elements_of old) (extents_of old) (room_of old) (free_of old) stopped
    → OfRefusal (λ _. Same elements_of mark_of extents_of room_of free_of old new) stopped
    → Acts elements_of mark_of extents_of room_of free_of hash id (λ call. call.command ≡ command) old new result
acts_ended elements_of mark_of extents_of room_of free_of old new hash id command result stopped is refused same =
    subst (λ (r : Result Reply Stop). Acts elements_of mark_of extents_of room_of free_of hash id (λ call. call.command ≡ command) old new r) (sym is)
    (acts_stopped elements_of mark_of extents_of room_of free_of old new hash id command stopped refused same)

-- a store that a call did not touch
pub untouched : {S : Type 0} (elements_of : S → Option (List Element)) (mark_of : S → Key → ℕ) (extents_of : S → Option (List Extent)) (room_of : S → ℕ → ℕ)
    (free_of : S → ℕ) (store : S) → Same elements_of mark_of extents_of room_of free_of store store
untouched elements_of mark_of extents_of room_of free_of store = record { elements = refl; mark = refl; extents = refl; room = refl; free = refl }

-- a fact that holds anyway
pub of_refusal : (P : Type 0) (stopped : Stop) → P → OfRefusal (λ _. P) stopped
of_refusal P (Refused reply) is = is
of_refusal P (Failed fault) is = tt

pub refusal_so : (P Q : Type 0) (stopped : Stop) → (P → Q) → OfRefusal (λ _. P) stopped → OfRefusal (λ _. Q) stopped
refusal_so P Q (Refused reply) step is = step is
refusal_so P Q (Failed fault) step is = tt

-- facts of a store that stayed
module _ (es es' : Option (List Element)) (xs xs' : Option (List Extent)) (same : es' ≡ es) (same' : xs' ≡ xs) where
  pub told_then : (P : Option (List Element) → Option (List Extent) → Type 0) → P es xs → P es' xs'
  told_then P is = subst (λ (o : Option (List Extent)). P es' o) (sym same') (subst (λ (o : Option (List Element)). P o xs) (sym same) is)

  pub told_before : (P : Option (List Element) → Option (List Extent) → Type 0) → P es' xs' → P es xs
  told_before P is = subst (λ (o : Option (List Extent)). P es o) same' (subst (λ (o : Option (List Element)). P o xs') same is)

-- what follows of a balanced content
pub on_balanced : (es : Option (List Element)) (xs : Option (List Extent)) (P Q : Lists → Type 0) → ((lists : Lists) → P lists → Q lists)
    → OnBalanced es xs P → OnBalanced es xs Q
on_balanced None xs P Q step is = tt
on_balanced (Some es) None P Q step is = tt
on_balanced (Some es) (Some xs) P Q step is = λ balanced. step (es, xs) (is balanced)

-- a check on space, of a store that stayed
pub space_before : (P : (ℕ → ℕ) → ℕ → Type 0) (room room' : ℕ → ℕ) (free free' : ℕ) → room' ≡ room → free' ≡ free → P room' free' → P room free
space_before P room room' free free' same same' is = subst (λ (f : ℕ). P room f) same' (subst (λ (r : ℕ → ℕ). P r free') same is)

-- ---- checks of words

pub nameless : (parts : List Part) (stopped : Stop) → OfRefusal (λ reply. (reply ≡ BadPath 0) × (last_name parts ≡ None)) stopped
    → IsStoppedBy (good_path TakesName (Parts parts)) stopped
nameless parts (Refused reply) (is, none) = rw (none, is) refl
nameless parts (Failed fault) told = tt

pub nameless_new : (parts : List Part) (stopped : Stop) → OfRefusal (λ reply. (reply ≡ BadPath 0) × (last_name parts ≡ None)) stopped
    → IsStoppedBy (good_path MakesName (Parts parts)) stopped
nameless_new parts (Refused reply) (is, none) = rw (none, is) refl
nameless_new parts (Failed fault) told = tt

pub good_named : (parts : List Part) (name : List ℕ) → last_name parts ≡ Some name → good_path TakesName (Parts parts) ≡ None
good_named parts name is = rw is refl

pub good_new : (parts : List Part) (name : List ℕ) → last_name parts ≡ Some name → good_path MakesName (Parts parts) ≡ None
good_new parts name is = rw is refl

pub no_ids : (parts : List Part) → refuse_if (has_id (Parts parts)) ReadOnly ≡ None → has_id (Parts parts) ≡ false
no_ids parts passes = by_test (has_id (Parts parts)) passes where
  by_test : (b : Bool) → refuse_if b ReadOnly ≡ None → b ≡ false
  by_test true is = absurd (cc)
  by_test false is = refl

-- a path with an id, in a call that changes a tree
pub past_stopped : (command : Command) (parts : List Part) → is_tree_call command ≡ true → (stopped : Stop)
    → Decides {T = Unit {0}} (refuse_if (has_id (Parts parts)) ReadOnly) (Err stopped) → IsStoppedBy (past_stays command (Parts parts ∷ [])) stopped
past_stopped command parts changes (Refused reply) told =
    subst (λ (b : Bool). refuse_if ((b || is_pfs_call command) && (has_id (Parts parts) || false)) ReadOnly ≡ Some reply) (sym changes)
    (refuse_one (has_id (Parts parts)) ReadOnly (Some reply) told)
past_stopped command parts changes (Failed fault) told = tt

-- the checks before the walk of a name that stands there
pub early_named : (command : Command) (last : ℕ) (parts : List Part) (name : List ℕ) → is_tree_call command ≡ true → last_name parts ≡ Some name
    → no_future last (Parts parts) ≡ None → refuse_if (has_id (Parts parts)) ReadOnly ≡ None → PassEarly command TakesName last parts
early_named command last parts name changes named future past = record {
  good = good_named parts name named;
  future = future;
  past = subst (λ (b : Bool). refuse_if ((b || is_pfs_call command) && (has_id (Parts parts) || false)) ReadOnly ≡ None) (sym changes)
      (refuse_one (has_id (Parts parts)) ReadOnly None past);
}

or_none : (a b : Bool) → (a || b) ≡ false → (a ≡ false) × (b ≡ false)
or_none true b is = absurd (cc)
or_none false b is = (refl, is)

-- a path without ids has none that was not drawn
pub drawn_now : (last : Id) (parts : List Part) → list_any part_has_id parts ≡ false → AreDrawn last parts
drawn_now last [] none = tt
drawn_now last (part ∷ parts) none =
    let both = or_none (part_has_id part) (list_any part_has_id parts) none in
    (by_id part.as_of both.0, drawn_now last parts both.1) where
      by_id : (as_of : Option Id) → option_map_or (λ (id : Id). true) as_of false ≡ false → IsDrawn last as_of
      by_id None none = tt
      by_id (Some id) none = absurd (cc)

-- ---- facts of scenes

module _ (hash : List ℕ → ℕ) (course : Course) where
  -- no two elements of a store have one key
  pub scenes_own : (es : Option (List Element)) (xs : Option (List Extent)) → IfSome es IsContent
      → OnScenes hash es xs course (λ scene. HaveOwnKeys scene.elements)
  scenes_own None xs content = tt
  scenes_own (Some es) None content = tt
  scenes_own (Some es) (Some xs) content = λ balanced volume view set. own_keys-sorted (fulls (es, xs)) (full_sorted es xs content.rising)

  -- from what is told of each volume that the elements show
  pub scenes_volumes : (es : Option (List Element)) (xs : Option (List Extent)) (P : List FullElement → Volume → View → Type 0)
      → OnBalanced es xs (λ lists. (volume : Volume) (view : View) → ShowsAs (fulls lists) volume view → P (fulls lists) volume view)
      → OnScenes hash es xs course (λ scene. P scene.elements scene.volume scene.view)
  scenes_volumes None xs P told = tt
  scenes_volumes (Some es) None P told = tt
  scenes_volumes (Some es) (Some xs) P told = λ balanced volume view set. told balanced volume view set.shows

  pub scenes_below : (es : Option (List Element)) (xs : Option (List Extent)) (pfs id : ℕ) → AreBelowIn es xs pfs id
      → OnScenes hash es xs course (λ scene. AreBelow pfs id scene.elements)
  scenes_below None xs pfs id below = tt
  scenes_below (Some es) None pfs id below = tt
  scenes_below (Some es) (Some xs) pfs id below = λ balanced volume view set. below

-- ---- a master

module _ (hash : List ℕ → ℕ) (course : Course) (es es' : Option (List Element)) (xs xs' : Option (List Extent)) (same : es' ≡ es) (same' : xs' ≡ xs) (pfs :
    ℕ) where
  -- what a look at its record tells, in a store that stayed
  pub master_stopped : (stopped : Stop)
      → OnBalanced es' xs' (λ lists. (volume : Volume) (view : View) → ShowsAs (fulls lists) volume view
      → Answers {T = Unit {0}} (slave_check volume pfs) (Err stopped))
      → OnScenes hash es xs course (λ scene. IsStoppedBy (slave_check scene.volume pfs) stopped)
  master_stopped stopped told =
      scenes_back hash course (λ scene. IsStoppedBy (slave_check scene.volume pfs) stopped) same same'
      (scenes_so hash course es' xs' (λ scene. Answers {T = Unit {0}} (slave_check scene.volume pfs) (Err stopped))
      (λ scene. IsStoppedBy (slave_check scene.volume pfs) stopped)
      (λ scene set told. answered (Unit {0}) (slave_check scene.volume pfs) stopped told)
      (scenes_volumes hash course es' xs' (λ list volume view. Answers {T = Unit {0}} (slave_check volume pfs) (Err stopped)) told))

  pub master_passes : OnBalanced es' xs' (λ lists. (volume : Volume) (view : View) → ShowsAs (fulls lists) volume view → slave_check volume pfs ≡ None)
      → OnScenes hash es xs course (λ scene. slave_check scene.volume pfs ≡ None)
  master_passes told =
      scenes_back hash course (λ scene. slave_check scene.volume pfs ≡ None) same same'
      (scenes_volumes hash course es' xs' (λ list volume view. slave_check volume pfs ≡ None) told)

-- ---- a name that is taken

module _ (hash : List ℕ → ℕ) (course : Course) (es : Option (List Element)) (xs : Option (List Extent)) (parts : List Part) (name : List ℕ)
    (named_is : last_name parts ≡ Some name) (none : has_id (Parts parts) ≡ false) where
  -- where the name stands, as the model has it
  abbrev pub place_of_name : Scene → List ℕ → Located
  place_of_name scene n = standing_name (Some n) (walk scene.volume scene.view Follows (front_of parts)) (walk scene.volume scene.view Stays parts)

  -- what a search for it tells
  abbrev pub IsSought : Result (Stand × Stand) Stop → Scene → Type 0
  IsSought result scene = AreDrawn scene.course.last parts → (n : List ℕ) → last_name parts ≡ Some n → IsNamed scene n (place_of_name scene n) result

  place_same : (scene : Scene) → locate scene.volume scene.view TakesName parts ≡ place_of_name scene name
  place_same scene =
      ap (λ o. standing_name o (walk scene.volume scene.view Follows (front_of parts)) (walk scene.volume scene.view Stays parts)) named_is

  pub untaken : (stopped : Stop) → OnShown es xs course (λ scene. KeysFit hash scene.elements → IsSought (Err stopped) scene)
      → OnScenes hash es xs course (λ scene. IsStoppedBy (walks (locate scene.volume scene.view TakesName parts)) stopped)
  untaken stopped told =
      scenes_so hash course es xs (IsSought (Err stopped)) (λ scene. IsStoppedBy (walks (locate scene.volume scene.view TakesName parts)) stopped)
      (λ scene set told. subst (λ l. IsStoppedBy (walks l) stopped) (sym (place_same scene))
      (unnamed scene name (place_of_name scene name) stopped (told (drawn_now scene.course.last parts none) name named_is)))
      (scenes_shown hash course es xs (IsSought (Err stopped)) told)

  pub taken : (pair : Stand × Stand) → OnShown es xs course (λ scene. KeysFit hash scene.elements → IsSought (Ok pair) scene)
      → OnScenes hash es xs course (λ scene. IsTakenName scene parts name pair.0 pair.1)
  taken pair told =
      scenes_so hash course es xs (IsSought (Ok pair)) (λ scene. IsTakenName scene parts name pair.0 pair.1)
      (λ scene set told.
      let is = named scene name (place_of_name scene name) pair (told (drawn_now scene.course.last parts none) name named_is) in
      let stands_is = stands scene.volume scene.view parts name is.site none named_is (place_same scene ∙ is.place_is) in
      record {
        site = is.site;
        place_is = place_same scene ∙ is.place_is;
        name_is = stands_is.1;
        standing = stands_is.0;
        directory_is = is.of_name.directory.place;
        end_is = is.ends.place;
        read = is.ends.read tt;
      })
      (scenes_shown hash course es xs (IsSought (Ok pair)) told)

-- ---- what an accepted call writes

-- a step did this to what a balanced store tells
abbrev pub Wrote : (List FullElement → List FullElement → Type 0) → Option (List Element) → Option (List Extent) → Option (List Element) → Option (List
    Extent)
    → Type 0
Wrote Step es xs es' xs' = IfSome (content_of es xs) (λ was. IsBalanced was.0 was.1
    → IsSomeAnd (content_of es' xs') (λ now. IsBalanced now.0 now.1 × Step (fulls was) (fulls now)))

-- from what a step wrote to what the call changes
pub writes_changes : (hash : List ℕ → ℕ) (id : ℕ) (course : Course) (command : Command) (Step : List FullElement → List FullElement → Type 0) (F : Scene →
    Type 0)
    (es es' : Option (List Element)) (xs xs' : Option (List Extent)) → course.last.0 + 1 ≡ id
    → ((busy : Option ℕ) (paths : List Parsed) (scene : Scene) (list : List FullElement) → ReadsWords command paths → IsSet hash course scene → F scene
    → Step scene.elements list → ChangesTree (call_in hash command paths busy scene) scene.elements list)
    → OnScenes hash es xs course F
    → Wrote Step es xs es' xs' → Wrote (Changes hash id (λ call. call.command ≡ command)) es xs es' xs'
writes_changes hash id course command Step F None es' xs xs' before each known writes = tt
writes_changes hash id course command Step F (Some es) es' None xs' before each known writes = tt
writes_changes hash id course command Step F (Some es) es' (Some xs) xs' before each known writes = λ balanced.
    by_content (content_of es' xs') (writes balanced) (known balanced) where
      by_content : (now : Option Lists) → IsSomeAnd now (λ now. IsBalanced now.0 now.1 × Step (fulls (es, xs)) (fulls now))
          → ((volume : Volume) (view : View) → IsSet hash course (scene_in (fulls (es, xs)) volume view course) → F (scene_in (fulls (es, xs)) volume view
          course))
          → IsSomeAnd now (λ now. IsBalanced now.0 now.1 × Changes hash id (λ call. call.command ≡ command) (fulls (es, xs)) (fulls now))
      by_content None did known = absurd did
      by_content (Some now) did known = (
        did.0,
        λ call is asks.
            let set = call_set course before is in
            let scene : Scene = scene_in (fulls (es, xs)) call.volume call.view course in
            call_so command course (λ c. ChangesTree c (fulls (es, xs)) (fulls now)) is asks
            (each call.busy call.paths scene (fulls now) (subst (λ (c : Command). ReadsWords c call.paths) asks is.words) set (known call.volume call.view set)
            did.1),
      )
