-- What the calls that look answer.
use Rattle.std.proofs.Common.{◌≡◌, ℕ, ◌+◌, ◌-◌, ◌≤◌, List, [], ◌∷◌, Bool, false, Option, Some, None, Result, Err, refl, sym, ap, subst, ◌∙◌, arith}
use Rattle.std.specs.Bool.{nat_lt}
use Rattle.std.specs.Option.{option_map_or}
use Rattle.std.proofs.lemmas.Bool.Decides.{nat_tests}
use Rattle.hm_types.specs.Elements.{FullElement, Key}
use Rattle.hm_types.specs.Tree.{FileTree}
use Rattle.hm_types.specs.declared.id.Obj.{Obj}
use Rattle.hm_types.specs.declared.limits.TheConstants.{GREATEST_ID}
use Rattle.hm_types.specs.declared.object.Kind.{Kind}
use Rattle.hm_types.specs.declared.object.Kind.TheVariants.{Directory, File, Softlink, PfsLink}
use Rattle.hm_types.specs.declared.object.Object.{Object}
use Rattle.hm_path.specs.declared.part.Part.{Part}
use Rattle.hm_path.specs.Path.{IsPath}
use Rattle.hm_key.specs.Counts.{Content, Counts}
use Rattle.hm_key.specs.Extents.{Extent}
use Rattle.hm_key.specs.Stores.{Same}
use Rattle.hm_key.specs.declared.element.Element.{Element}
use Rattle.hm_model.specs.Answer.{answer_at, kind_number, listing, size_of, target_of}
use Rattle.hm_model.specs.Call.{Call}
use Rattle.hm_model.specs.Due.{Check, is_dir, is_link, no_future, past_stays, refuse_if, walks}
use Rattle.hm_model.specs.Sites.{Parts, Walks, at_end}
use Rattle.hm_model.specs.Call.{site_in}
use Rattle.hm_model.specs.View.{Position as Place, View, object_at}
use Rattle.hm_model.specs.Volume.{Volume}
use Rattle.hm_model.specs.Walk.{Follow as Mode, Follows, Stays, Walked, walk}
use Rattle.hm_model.specs.declared.command.Command.{Command}
use Rattle.hm_model.specs.declared.command.Command.TheVariants.{Ls, Readlink, Stat}
use Rattle.hm_model.specs.declared.reply.Reply.{Reply}
use Rattle.hm_model.specs.declared.reply.Reply.TheVariants.{Listing, NoSpace, NotDir, NotFound, NotLink, Status, Target}
use Rattle.hm_records.specs.KeysFit.{KeysFit}
use Rattle.hm_records.specs.View.{IsViewOf, kind_number as number_of_kind}
use Rattle.hm_records.specs.declared.inode.Inode.{Inode}
use Rattle.hm_volume.specs.Found.{IsFoundBy, IsMadeBy}
use Rattle.hm_volume.specs.Shown.{ShowsAs}
use Rattle.hm_view.specs.Trees.{IsSize, OnTrees}
use Rattle.hm_view.specs.Volumes.{IsTargetTold, OnVolumes}
use Rattle.hm_dirs.specs.Walk.{AreDrawn, IsRead, OnShown, Scene, place_of, when_of}
use Rattle.hm_dirs.specs.declared.position.Course.{Course}
use Rattle.hm_dirs.specs.declared.position.Stand.{Stand}
use Rattle.hm_calls.proofs.PlaceLemmas.{are_drawn}
use Rattle.hm_calls.specs.Places.{IsBadPath, IsReached, ask_kind}
use Rattle.hm_calls.specs.Replies.{IsAcceptedBy, Looks}
use Rattle.hm_calls.specs.Stop.{Decides, OfRefusal}
use Rattle.hm_calls.specs.declared.stop.Stop.{Stop}
use Rattle.hm_calls.specs.declared.stop.Stop.TheVariants.{Failed, Refused}
use Rattle.hm_calls.proofs.KindLemmas.{kind_is, number_found}
use Rattle.hm_calls.proofs.RefusalLemmas.{IsOfOne, IsRefused, PassEarly, after_early, all_pass, future_refuses, of_ls, of_readlink, of_stat}
use Rattle.hm_calls.proofs.RefusalLemmas.{one_accepts, one_refuses, pass, stop, walk_refuses, word_refuses}
use Rattle.hm_cursor.specs.Names.{IsHash}
use Rattle.hm_calls.proofs.SceneLemmas.{IsEnd, IsStoppedBy, OnScenes, call_in, decided, scenes_back, scenes_balanced, scenes_both}
use Rattle.hm_calls.proofs.SceneLemmas.{scenes_so, scenes_unreached}

-- a call that needs no room has it
pub no_zones : (free : ℕ) → refuse_if (nat_lt (free - 0) 0) (NoSpace free 0) ≡ None
no_zones free = let no : nat_lt (free - 0) 0 ≡ false = grind (arith, nat_tests) in rw no refl

-- ---- the object at the end of a walk

pub found_object : (counts : Content) (pfs : ℕ) (o : Option Object) (inode : Inode) → IsFoundBy counts pfs o (Some inode)
    → (x : Object) × (o ≡ Some x) × IsMadeBy counts pfs inode x
found_object counts pfs (Some x) inode made = (x, refl, made)
found_object counts pfs None inode made = absurd made

pub no_object : (counts : Content) (pfs : ℕ) (o : Option Object) → IsFoundBy counts pfs o None → o ≡ None
no_object counts pfs None none = refl
no_object counts pfs (Some x) none = absurd none

asked_object : (test : Kind → Bool) (refusal : Reply) (o : Option Object) → ask_kind test refusal o ≡ None → (x : Object) × (o ≡ Some x)
asked_object test refusal (Some x) passes = (x, refl)
asked_object test refusal None passes = absurd (cc)

numbers_are : (kind : Kind) → kind_number kind ≡ number_of_kind kind
numbers_are Directory = refl
numbers_are File = refl
numbers_are Softlink = refl
numbers_are PfsLink = refl

pub number_is : (view : View) (here : Place) (o : Object) → object_at view here ≡ Some o → o.number ≡ here.object
number_is view here o is = ap (λ (n : ℕ). let number : Obj = record { 0 = n } in number) (number_found (view here.pfs here.when) here.object o is)

-- the names of the directory where a walk ended are these
abbrev IsListed : Stand → List (ℕ × List ℕ) → List FullElement → Type 0
IsListed stand names list =
    (h : List ℕ → ℕ) → IsHash h → KeysFit h list → (tree : FileTree) → IsViewOf list stand.at.pfs.0 stand.as_of.0 tree
    → names ≡ listing tree stand.at.object

-- the object there that the inode makes has this size, or this target
abbrev IsSized : Stand → Inode → ℕ → List FullElement → Type 0
IsSized stand inode size list =
    (h : List ℕ → ℕ) → IsHash h → KeysFit h list → (tree : FileTree) → IsViewOf list stand.at.pfs.0 stand.as_of.0 tree
    → (o : Object) → o.number ≡ stand.at.object → IsMadeBy (Counts list stand.as_of.0) stand.at.pfs.0 inode o → size ≡ size_of tree o

abbrev IsTold : Stand → Inode → List ℕ → List FullElement → Type 0
IsTold stand inode text list =
    (volume : Volume) (view : View) → ShowsAs list volume view
    → (o : Object) → o.number ≡ stand.at.object → IsMadeBy (Counts list stand.as_of.0) stand.at.pfs.0 inode o → text ≡ target_of volume o.content

status_is : (a b : ℕ) (n m : Obj) (s t l k : ℕ) → a ≡ b → n ≡ m → s ≡ t → l ≡ k → Status a n s l ≡ Status b m t k
status_is a b n m s t l k kinds numbers sizes links = cc

none_some : (o : Object) → None ≡ Some o → ⊥
none_some o is = cc

-- what a call that looks answers of a place
abbrev pub answer_of : Call → Place → Reply
answer_of call here = option_map_or (answer_at call (call.view here.pfs here.when)) (object_at call.view here) NotFound

module _ (hash : List ℕ → ℕ) (id : ℕ) (course : Course) (before : course.last.0 + 1 ≡ id) (most : id ≤ GREATEST_ID) (word : List ℕ) (parts : List Part)
    (path_is : IsPath word parts) (es : Option (List Element)) (xs : Option (List Extent)) (room : ℕ → ℕ) (free : ℕ) (stand : Stand) where
  -- what is answered of the end of the walk
  pub answered_there : (call : Call) (w : Walked) (mode : Mode) (scene : Scene) (reply : Reply) → IsEnd scene mode w stand
      → answer_of call (place_of stand.at) ≡ reply → answer_of call (site_in (at_end w)).at ≡ reply
  answered_there call w mode scene reply end is =
      subst (λ (v : Walked). answer_of call (site_in (at_end v)).at ≡ reply) (sym end.walked_is)
      (subst (λ (p : Place). answer_of call p ≡ reply) end.ends.place is)

  pub answered_object : (call : Call) (o : Object) (reply : Reply) → object_at call.view (place_of stand.at) ≡ Some o
      → answer_at call (call.view stand.at.pfs.0 (when_of stand.at.when)) o ≡ reply → answer_of call (place_of stand.at) ≡ reply
  answered_object call o reply there is =
      subst (λ (x : Option Object). option_map_or (answer_at call (call.view stand.at.pfs.0 (when_of stand.at.when))) x NotFound ≡ reply) (sym there) is

  -- a check of the object there
  checked_there : (test : Kind → Bool) (refusal : Reply) (w : Walked) (mode : Mode) (scene : Scene) (check : Check) → IsEnd scene mode w stand
      → ask_kind test refusal (object_at scene.view (place_of stand.at)) ≡ check → ask_kind test refusal (object_at scene.view (site_in (at_end w)).at) ≡ check
  checked_there test refusal w mode scene check end is =
      subst (λ (v : Walked). ask_kind test refusal (object_at scene.view (site_in (at_end v)).at) ≡ check) (sym end.walked_is)
      (subst (λ (p : Place). ask_kind test refusal (object_at scene.view p) ≡ check) end.ends.place is)

  pub there : (w : Walked) (mode : Mode) (scene : Scene) → IsEnd scene mode w stand → walks (at_end w) ≡ None
  there w mode scene end = subst (λ (v : Walked). walks (at_end v) ≡ None) (sym end.walked_is) refl

  -- ---- a list of names

  abbrev EndsThere : Mode → Scene → Type 0
  EndsThere mode scene = IsEnd scene mode (walk scene.volume scene.view mode parts) stand

  pub no_directory : PassEarly (Ls word) (Walks Follows) course.last.0 parts → OnScenes hash es xs course (EndsThere Follows) → (stopped : Stop)
      → ((scene : Scene) → IsRead scene stand → IsStoppedBy (ask_kind is_dir NotDir (object_at scene.view (place_of stand.at))) stopped)
      → IsRefused hash id (Ls word) es xs room free stopped
  no_directory early ends stopped told =
      one_refuses hash id course before most (Ls word) (Walks Follows) word (of_ls word) es xs room free parts path_is (EndsThere Follows)
      (λ scene. ask_kind is_dir NotDir (object_at scene.view (place_of stand.at)))
      (λ reply busy scene set end is.
      after_early hash id course before most (Ls word) (Walks Follows) word (of_ls word) es xs room free parts path_is early busy scene (Some reply) set
      (pass (there (walk scene.volume scene.view Follows parts) Follows scene end) (pass refl
      (stop (checked_there is_dir NotDir (walk scene.volume scene.view Follows parts) Follows scene (Some reply) end is)))))
      ends stopped
      (scenes_so hash course es xs (EndsThere Follows)
      (λ scene. IsStoppedBy (ask_kind is_dir NotDir (object_at scene.view (place_of stand.at))) stopped)
      (λ scene set end. told scene (end.ends.read tt)) ends)

  pub lists_names : IsHash hash → PassEarly (Ls word) (Walks Follows) course.last.0 parts → OnScenes hash es xs course (EndsThere Follows)
      → ((scene : Scene) → IsRead scene stand → ask_kind is_dir NotDir (object_at scene.view (place_of stand.at)) ≡ None)
      → (names : List (ℕ × List ℕ)) (es' : Option (List Element)) (xs' : Option (List Extent)) → es' ≡ es → xs' ≡ xs
      → OnTrees es' xs' stand.at.pfs.0 stand.as_of.0 (λ lists tree. names ≡ listing tree stand.at.object)
      → IsAcceptedBy hash id (λ call. call.command ≡ Ls word) es xs room free (Listing names)
  lists_names few early ends directory names es' xs' same same' told =
      one_accepts hash id course before most (Ls word) (Walks Follows) word (of_ls word) es xs room free parts path_is
      (λ scene. EndsThere Follows scene × IsListed stand names scene.elements) (Listing names)
      (λ busy scene set both.
      let read : IsRead scene stand = both.0.ends.read tt in
      let w : Walked = walk scene.volume scene.view Follows parts in
      let call : Call = call_in hash (Ls word) (Parts parts ∷ []) busy scene in
      let passes : ask_kind is_dir NotDir (object_at scene.view (place_of stand.at)) ≡ None = directory scene read in
      let (o, is) = asked_object is_dir NotDir (object_at scene.view (place_of stand.at)) passes in
      let tree : FileTree = scene.view stand.at.pfs.0 (when_of stand.at.when) in
      let shown : names ≡ listing tree stand.at.object = both.1 hash few set.keys tree read.view in
      let numbered : o.number ≡ stand.at.object = number_is scene.view (place_of stand.at) o is in (
        after_early hash id course before most (Ls word) (Walks Follows) word (of_ls word) es xs room free parts path_is early busy scene None set
            (pass (there w Follows scene both.0) (pass refl
            (pass (checked_there is_dir NotDir w Follows scene None both.0 passes) (pass refl (pass refl (pass (no_zones free) all_pass)))))),
        answered_there call w Follows scene (Listing names) both.0
            (answered_object call o (Listing names) is (ap Listing (ap (listing tree) numbered ∙ sym shown))),
      ))
      (scenes_both hash course es xs (EndsThere Follows) (λ scene. IsListed stand names scene.elements) ends
      (scenes_back hash course (λ scene. IsListed stand names scene.elements) same same' (scenes_balanced hash course es' xs' (IsListed stand names) told)))

  -- ---- the status of an object

  pub tells_status : IsHash hash → PassEarly (Stat word) (Walks Stays) course.last.0 parts → OnScenes hash es xs course (EndsThere Stays)
      → (inode : Inode) → stand.inode ≡ Some inode → (size : ℕ) (es' : Option (List Element)) (xs' : Option (List Extent)) → es' ≡ es → xs' ≡ xs
      → OnTrees es' xs' stand.at.pfs.0 stand.as_of.0 (IsSize stand.as_of.0 stand.at.pfs.0 stand.at.object inode size)
      → IsAcceptedBy hash id (λ call. call.command ≡ Stat word) es xs room free (Status inode.kind stand.at.object size inode.links)
  tells_status few early ends inode inode_is size es' xs' same same' told =
      one_accepts hash id course before most (Stat word) (Walks Stays) word (of_stat word) es xs room free parts path_is
      (λ scene. EndsThere Stays scene × IsSized stand inode size scene.elements) (Status inode.kind stand.at.object size inode.links)
      (λ busy scene set both.
      let read : IsRead scene stand = both.0.ends.read tt in
      let w : Walked = walk scene.volume scene.view Stays parts in
      let call : Call = call_in hash (Stat word) (Parts parts ∷ []) busy scene in
      let (o, is, made) = found_object (Counts scene.elements stand.as_of.0) stand.at.pfs.0 (object_at scene.view (place_of stand.at)) inode
      (subst (λ (i : Option Inode). IsFoundBy (Counts scene.elements stand.as_of.0) stand.at.pfs.0 (object_at scene.view (place_of stand.at)) i)
      inode_is read.inode) in
      let tree : FileTree = scene.view stand.at.pfs.0 (when_of stand.at.when) in
      let numbered : o.number ≡ stand.at.object = number_is scene.view (place_of stand.at) o is in
      let sized : size ≡ size_of tree o = both.1 hash few set.keys tree read.view o numbered made in (
        after_early hash id course before most (Stat word) (Walks Stays) word (of_stat word) es xs room free parts path_is early busy scene None set
            (pass (there w Stays scene both.0) (pass refl (pass refl (pass refl (pass (no_zones free) all_pass))))),
        answered_there call w Stays scene (Status inode.kind stand.at.object size inode.links) both.0
            (answered_object call o (Status inode.kind stand.at.object size inode.links) is
            (status_is (kind_number o.kind) inode.kind o.number stand.at.object (size_of tree o) size o.links inode.links
            (numbers_are o.kind ∙ sym (kind_is (Counts scene.elements stand.as_of.0) stand.at.pfs.0 inode o made)) numbered (sym sized)
            (made.object.links ∙ ap (λ (i : Inode). i.links) made.same))),
      ))
      (scenes_both hash course es xs (EndsThere Stays) (λ scene. IsSized stand inode size scene.elements) ends
      (scenes_back hash course (λ scene. IsSized stand inode size scene.elements) same same' (scenes_balanced hash course es' xs'
      (IsSized stand inode size) told)))

  pub tells_none : PassEarly (Stat word) (Walks Stays) course.last.0 parts → OnScenes hash es xs course (EndsThere Stays) → stand.inode ≡ None
      → IsAcceptedBy hash id (λ call. call.command ≡ Stat word) es xs room free NotFound
  tells_none early ends none =
      one_accepts hash id course before most (Stat word) (Walks Stays) word (of_stat word) es xs room free parts path_is (EndsThere Stays) NotFound
      (λ busy scene set end.
      let read : IsRead scene stand = end.ends.read tt in
      let w : Walked = walk scene.volume scene.view Stays parts in
      let call : Call = call_in hash (Stat word) (Parts parts ∷ []) busy scene in
      let gone : object_at scene.view (place_of stand.at) ≡ None =
      no_object (Counts scene.elements stand.as_of.0) stand.at.pfs.0 (object_at scene.view (place_of stand.at))
      (subst (λ (i : Option Inode). IsFoundBy (Counts scene.elements stand.as_of.0) stand.at.pfs.0 (object_at scene.view (place_of stand.at)) i)
      none read.inode) in (
        after_early hash id course before most (Stat word) (Walks Stays) word (of_stat word) es xs room free parts path_is early busy scene None set
            (pass (there w Stays scene end) (pass refl (pass refl (pass refl (pass (no_zones free) all_pass))))),
        answered_there call w Stays scene NotFound end
            (subst (λ (x : Option Object). option_map_or (answer_at call (scene.view stand.at.pfs.0 (when_of stand.at.when))) x NotFound ≡ NotFound)
            (sym gone) refl),
      ))
      ends

  -- ---- the target of a link

  pub no_link : PassEarly (Readlink word) (Walks Stays) course.last.0 parts → OnScenes hash es xs course (EndsThere Stays) → (stopped : Stop)
      → ((scene : Scene) → IsRead scene stand → IsStoppedBy (ask_kind is_link NotLink (object_at scene.view (place_of stand.at))) stopped)
      → IsRefused hash id (Readlink word) es xs room free stopped
  no_link early ends stopped told =
      one_refuses hash id course before most (Readlink word) (Walks Stays) word (of_readlink word) es xs room free parts path_is (EndsThere Stays)
      (λ scene. ask_kind is_link NotLink (object_at scene.view (place_of stand.at)))
      (λ reply busy scene set end is.
      after_early hash id course before most (Readlink word) (Walks Stays) word (of_readlink word) es xs room free parts path_is early busy scene
      (Some reply) set
      (pass (there (walk scene.volume scene.view Stays parts) Stays scene end) (pass refl
      (stop (checked_there is_link NotLink (walk scene.volume scene.view Stays parts) Stays scene (Some reply) end is)))))
      ends stopped
      (scenes_so hash course es xs (EndsThere Stays)
      (λ scene. IsStoppedBy (ask_kind is_link NotLink (object_at scene.view (place_of stand.at))) stopped)
      (λ scene set end. told scene (end.ends.read tt)) ends)

  -- an object that passed as a link has an inode
  pub never_gone : (reply : Reply) → OnScenes hash es xs course (EndsThere Stays)
      → ((scene : Scene) → IsRead scene stand → ask_kind is_link NotLink (object_at scene.view (place_of stand.at)) ≡ None) → stand.inode ≡ None
      → IsAcceptedBy hash id (λ call. call.command ≡ Readlink word) es xs room free reply
  never_gone reply ends link none =
      one_accepts hash id course before most (Readlink word) (Walks Stays) word (of_readlink word) es xs room free parts path_is (EndsThere Stays) reply
      (λ busy scene set end.
      let read : IsRead scene stand = end.ends.read tt in
      let gone : object_at scene.view (place_of stand.at) ≡ None =
      no_object (Counts scene.elements stand.as_of.0) stand.at.pfs.0 (object_at scene.view (place_of stand.at))
      (subst (λ (i : Option Inode). IsFoundBy (Counts scene.elements stand.as_of.0) stand.at.pfs.0 (object_at scene.view (place_of stand.at)) i)
      none read.inode) in
      let (o, is) = asked_object is_link NotLink (object_at scene.view (place_of stand.at)) (link scene read) in
      absurd (none_some o (sym gone ∙ is)))
      ends

  pub tells_target : PassEarly (Readlink word) (Walks Stays) course.last.0 parts → OnScenes hash es xs course (EndsThere Stays)
      → ((scene : Scene) → IsRead scene stand → ask_kind is_link NotLink (object_at scene.view (place_of stand.at)) ≡ None)
      → (inode : Inode) → stand.inode ≡ Some inode → (text : List ℕ) (es' : Option (List Element)) (xs' : Option (List Extent)) → es' ≡ es → xs' ≡ xs
      → OnVolumes es' xs' (IsTargetTold stand.as_of.0 stand.at.pfs.0 stand.at.object inode text)
      → IsAcceptedBy hash id (λ call. call.command ≡ Readlink word) es xs room free (Target text)
  tells_target early ends link inode inode_is text es' xs' same same' told =
      one_accepts hash id course before most (Readlink word) (Walks Stays) word (of_readlink word) es xs room free parts path_is
      (λ scene. EndsThere Stays scene × IsTold stand inode text scene.elements) (Target text)
      (λ busy scene set both.
      let read : IsRead scene stand = both.0.ends.read tt in
      let w : Walked = walk scene.volume scene.view Stays parts in
      let call : Call = call_in hash (Readlink word) (Parts parts ∷ []) busy scene in
      let passes : ask_kind is_link NotLink (object_at scene.view (place_of stand.at)) ≡ None = link scene read in
      let (o, is, made) = found_object (Counts scene.elements stand.as_of.0) stand.at.pfs.0 (object_at scene.view (place_of stand.at)) inode
      (subst (λ (i : Option Inode). IsFoundBy (Counts scene.elements stand.as_of.0) stand.at.pfs.0 (object_at scene.view (place_of stand.at)) i)
      inode_is read.inode) in
      let numbered : o.number ≡ stand.at.object = number_is scene.view (place_of stand.at) o is in
      let text_is : text ≡ target_of scene.volume o.content = both.1 scene.volume scene.view set.shows o numbered made in (
        after_early hash id course before most (Readlink word) (Walks Stays) word (of_readlink word) es xs room free parts path_is early busy scene None set
            (pass (there w Stays scene both.0) (pass refl
            (pass (checked_there is_link NotLink w Stays scene None both.0 passes) (pass refl (pass refl (pass (no_zones free) all_pass)))))),
        answered_there call w Stays scene (Target text) both.0 (answered_object call o (Target text) is (ap Target (sym text_is))),
      ))
      (scenes_both hash course es xs (EndsThere Stays) (λ scene. IsTold stand inode text scene.elements) ends
      (scenes_back hash course (λ scene. IsTold stand inode text scene.elements) same same' (scenes_balanced hash course es' xs'
      (IsTold stand inode text) told)))

-- ---- the exits of a call that looks

-- where the steps before one passed, and it was stopped, the call was refused, and left the store as it was
module _ {S : Type 0} (elements_of : S → Option (List Element)) (mark_of : S → Key → ℕ) (extents_of : S → Option (List Extent)) (room_of : S → ℕ → ℕ)
    (free_of : S → ℕ)
    (hash : List ℕ → ℕ) (id : ℕ) (course : Course) (before : course.last.0 + 1 ≡ id) (most : id ≤ GREATEST_ID) (command : Command) (mode : Mode) (word : List ℕ)
    (is_one : IsOfOne command (Walks mode) word) (old : S) where
  pub look_stopped : (new : S) (result : Result Reply Stop) (stopped : Stop) → result ≡ Err stopped
      → IsRefused hash id command (elements_of old) (extents_of old) (room_of old) (free_of old) stopped
      → Same elements_of mark_of extents_of room_of free_of old new
      → Looks elements_of mark_of extents_of room_of free_of hash id (λ call. call.command ≡ command) old new result
  look_stopped new result stopped is refuses same =
      subst (λ (r : Result Reply Stop). Looks elements_of mark_of extents_of room_of free_of hash id (λ call. call.command ≡ command) old new r) (sym is)
      (by_stop stopped refuses) where
        by_stop : (s : Stop) → IsRefused hash id command (elements_of old) (extents_of old) (room_of old) (free_of old) s
            → Looks elements_of mark_of extents_of room_of free_of hash id (λ call. call.command ≡ command) old new (Err s)
        by_stop (Refused reply) refuses = (refuses, same)
        by_stop (Failed fault) refuses = tt

  unchanged : Same elements_of mark_of extents_of room_of free_of old old
  unchanged = record { elements = refl; mark = refl; extents = refl; room = refl; free = refl }

  pub look_word : (result : Result Reply Stop) (stopped : Stop) → result ≡ Err stopped → OfRefusal (IsBadPath word) stopped
      → Looks elements_of mark_of extents_of room_of free_of hash id (λ call. call.command ≡ command) old old result
  look_word result stopped is bad =
      look_stopped old result stopped is
      (word_refuses hash id course before most command (Walks mode) word is_one (elements_of old) (extents_of old) (room_of old) (free_of old) stopped bad)
      unchanged

  module _ (parts : List Part) (path_is : IsPath word parts) where
    pub look_future : (result : Result Reply Stop) (stopped : Stop) → result ≡ Err stopped
        → Decides {T = Unit {0}} (no_future course.last.0 (Parts parts)) (Err stopped)
        → Looks elements_of mark_of extents_of room_of free_of hash id (λ call. call.command ≡ command) old old result
    look_future result stopped is told =
        look_stopped old result stopped is
        (future_refuses hash id course before most command (Walks mode) word is_one (elements_of old) (extents_of old) (room_of old) (free_of old)
        parts path_is refl stopped (decided (Unit {0}) (no_future course.last.0 (Parts parts)) stopped told))
        unchanged

    pub look_walk : past_stays command (Parts parts ∷ []) ≡ None → no_future course.last.0 (Parts parts) ≡ None → (new : S) (result : Result Reply Stop)
        (stopped : Stop) → result ≡ Err stopped
        → OnShown (elements_of old) (extents_of old) course (λ scene. KeysFit hash scene.elements → AreDrawn scene.course.last parts
        → IsReached scene mode (walk scene.volume scene.view mode parts) (Err stopped)) → Same elements_of mark_of extents_of room_of free_of old new
        → Looks elements_of mark_of extents_of room_of free_of hash id (λ call. call.command ≡ command) old new result
    look_walk past future new result stopped is told =
        look_stopped new result stopped is
        (walk_refuses hash id course before most command (Walks mode) word is_one (elements_of old) (extents_of old) (room_of old) (free_of old)
        parts path_is (record { good = refl; future = future; past = past }) stopped
        (scenes_unreached hash course (elements_of old) (extents_of old) parts (are_drawn course.last.0 parts future) mode stopped told))
