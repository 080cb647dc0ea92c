-- What `cat` answers.
use Rattle.std.proofs.Common.{◌≡◌, ℕ, ◌+◌, ◌≤◌, List, [], ◌∷◌, Bool, Option, Some, None, refl, sym, ap, subst, ◌∙◌, arith}
use Rattle.std.specs.Option.{option_map_or}
use Rattle.hm_types.specs.declared.id.Obj.{Obj}
use Rattle.hm_types.specs.declared.limits.TheConstants.{GREATEST_ID}
use Rattle.hm_types.specs.declared.object.Content.{Content as Held}
use Rattle.hm_types.specs.declared.object.Content.TheVariants.{Nothing, File as FileBytes, Target, Linked}
use Rattle.hm_types.specs.declared.object.Kind.{Kind}
use Rattle.hm_types.specs.declared.object.Kind.TheVariants.{Directory, File, Softlink, PfsLink}
use Rattle.hm_types.specs.declared.object.Object.{Object}
use Rattle.hm_path.specs.declared.part.Part.{Part}
use Rattle.hm_path.specs.Path.{IsPath}
use Rattle.hm_key.specs.Counts.{Content, Counts}
use Rattle.hm_key.specs.Extents.{Extent}
use Rattle.hm_key.specs.declared.element.Element.{Element}
use Rattle.hm_cursor.specs.Told.{OnBalanced}
use Rattle.hm_model.specs.Answer.{answer_at, file_bytes}
use Rattle.hm_model.specs.Bytes.{read_at}
use Rattle.hm_model.specs.Call.{Call, site_in}
use Rattle.hm_model.specs.Due.{Check, is_dir_or_link, is_softlink, refuse_if, walks}
use Rattle.hm_model.specs.Sites.{Parts, Walks, at_end}
use Rattle.hm_model.specs.View.{Position as Place, object_at}
use Rattle.hm_model.specs.Walk.{Follows, Walked, walk}
use Rattle.hm_model.specs.declared.command.Command.{Command}
use Rattle.hm_model.specs.declared.command.Command.TheVariants.{Cat}
use Rattle.hm_model.specs.declared.reply.Reply.{Reply}
use Rattle.hm_model.specs.declared.reply.Reply.TheVariants.{Content as Bytes, IsDir, NotFile, NotFound}
use Rattle.hm_records.specs.View.{AreFileBytes, IsHeld, kind_number}
use Rattle.hm_records.specs.declared.inode.Inode.{Inode}
use Rattle.hm_records.specs.declared.kind.TheConstants.{FILE}
use Rattle.hm_volume.specs.Found.{IsFoundBy, IsMadeBy}
use Rattle.hm_dirs.specs.Walk.{IsRead, Scene, place_of, when_of}
use Rattle.hm_dirs.specs.declared.position.Course.{Course}
use Rattle.hm_dirs.specs.declared.position.Stand.{Stand}
use Rattle.hm_calls.specs.Bytes.{AreAsked}
use Rattle.hm_calls.specs.Places.{refuse_kind}
use Rattle.hm_calls.specs.Replies.{IsAcceptedBy}
use Rattle.hm_calls.specs.declared.stop.Stop.{Stop}
use Rattle.hm_calls.proofs.KindLemmas.{kind_is}
use Rattle.hm_calls.proofs.LookLemmas.{answered_object, answered_there, found_object, no_object, no_zones, number_is, there}
use Rattle.hm_calls.proofs.RefusalLemmas.{IsFirst, IsOfOne, IsRefused, PassEarly, after_early, all_checks, all_pass, one_accepts, one_refuses, pass, stop}
use Rattle.hm_calls.proofs.SceneLemmas.{IsEnd, IsSet, IsStoppedBy, OnScenes, call_in, scenes_back, scenes_balanced, scenes_both, scenes_so}

pub of_cat : (word : List ℕ) (offset count : ℕ) → IsOfOne (Cat word offset count) (Walks Follows) word
of_cat word offset count = record { uses = refl; form = λ hash room free path busy scene refusal first. first }

-- ---- an object that passed as a file is one

pub file_kind : (kind : Kind) → refuse_if (is_dir_or_link kind) IsDir ≡ None → refuse_if (is_softlink kind) NotFile ≡ None → kind_number kind ≡ FILE
file_kind Directory no_dir no_link = absurd (cc)
file_kind File no_dir no_link = refl
file_kind Softlink no_dir no_link = absurd (cc)
file_kind PfsLink no_dir no_link = absurd (cc)

-- and holds the bytes that count for it
pub file_held : (counts : Content) (pfs obj : ℕ) (inode : Inode) (held : Held) → inode.kind ≡ FILE → IsHeld counts pfs obj inode held
    → AreFileBytes counts pfs obj inode.size (file_bytes held)
file_held counts pfs obj inode (FileBytes bytes) is holds = holds.1
file_held counts pfs obj inode Nothing is holds = absurd (omega (arith, is, holds))
file_held counts pfs obj inode (Target text) is holds = absurd (omega (arith, is, holds.0))
file_held counts pfs obj inode (Linked other) is holds = absurd (omega (arith, is, holds.0))

-- the kind of an object that is there
pub refused_kind : (test : Kind → Bool) (refusal : Reply) (object : Option Object) (o : Object) → object ≡ Some o → refuse_kind test refusal object ≡ None
    → refuse_if (test o.kind) refusal ≡ None
refused_kind test refusal object o there passes = subst (λ (x : Option Object). refuse_kind test refusal x ≡ None) there passes

-- what a file holds that an inode makes
pub made_bytes : (counts : Content) (pfs : ℕ) (inode : Inode) (o : Object) → IsMadeBy counts pfs inode o
    → refuse_if (is_dir_or_link o.kind) IsDir ≡ None → refuse_if (is_softlink o.kind) NotFile ≡ None
    → AreFileBytes counts pfs o.number.0 inode.size (file_bytes o.content)
made_bytes counts pfs inode o made no_dir no_link =
    file_held counts pfs o.number.0 inode o.content (kind_is counts pfs inode o made ∙ file_kind o.kind no_dir no_link)
    (subst (λ (i : Inode). IsHeld counts pfs o.number.0 i o.content) made.same made.object.holds)

module _ (hash : List ℕ → ℕ) (id : ℕ) (course : Course) (before : course.last.0 + 1 ≡ id) (most : id ≤ GREATEST_ID) (word : List ℕ) (offset count : ℕ)
    (parts : List Part) (path_is : IsPath word parts) (es : Option (List Element)) (xs : Option (List Extent)) (room : ℕ → ℕ) (free : ℕ) (stand : Stand) where
  abbrev cat : Command
  cat = Cat word offset count

  abbrev pub EndsThere : Scene → Type 0
  EndsThere scene = IsEnd scene Follows (walk scene.volume scene.view Follows parts) stand

  abbrev NoDir : Scene → Check
  NoDir scene = refuse_kind is_dir_or_link IsDir (object_at scene.view (place_of stand.at))

  abbrev NoLink : Scene → Check
  NoLink scene = refuse_kind is_softlink NotFile (object_at scene.view (place_of stand.at))

  -- a check of the object there
  refused_there : (test : Kind → Bool) (refusal : Reply) (scene : Scene) (check : Check) → EndsThere scene
      → refuse_kind test refusal (object_at scene.view (place_of stand.at)) ≡ check
      → refuse_kind test refusal (object_at scene.view (site_in (at_end (walk scene.volume scene.view Follows parts))).at) ≡ check
  refused_there test refusal scene check end is =
      subst (λ (v : Walked). refuse_kind test refusal (object_at scene.view (site_in (at_end v)).at) ≡ check) (sym end.walked_is)
      (subst (λ (p : Place). refuse_kind test refusal (object_at scene.view p) ≡ check) end.ends.place is)

  arrives : (scene : Scene) → EndsThere scene → walks (at_end (walk scene.volume scene.view Follows parts)) ≡ None
  arrives scene end =
      there hash id course before most word parts path_is es xs room free stand (walk scene.volume scene.view Follows parts) Follows scene end

  pub cat_dir_refuses : PassEarly cat (Walks Follows) course.last.0 parts → OnScenes hash es xs course EndsThere → (stopped : Stop)
      → ((scene : Scene) → IsRead scene stand → IsStoppedBy (NoDir scene) stopped) → IsRefused hash id cat es xs room free stopped
  cat_dir_refuses early ends stopped told =
      one_refuses hash id course before most cat (Walks Follows) word (of_cat word offset count) es xs room free parts path_is EndsThere NoDir
      (λ reply busy scene set end is.
      after_early hash id course before most cat (Walks Follows) word (of_cat word offset count) es xs room free parts path_is early busy scene
      (Some reply) set
      (pass (arrives scene end) (pass refl (stop (refused_there is_dir_or_link IsDir scene (Some reply) end is)))))
      ends stopped
      (scenes_so hash course es xs EndsThere (λ scene. IsStoppedBy (NoDir scene) stopped) (λ scene set end. told scene (end.ends.read tt)) ends)

  module _ (no_dir : (scene : Scene) → IsRead scene stand → NoDir scene ≡ None) where
    pub cat_link_refuses : PassEarly cat (Walks Follows) course.last.0 parts → OnScenes hash es xs course EndsThere → (stopped : Stop)
        → ((scene : Scene) → IsRead scene stand → IsStoppedBy (NoLink scene) stopped) → IsRefused hash id cat es xs room free stopped
    cat_link_refuses early ends stopped told =
        one_refuses hash id course before most cat (Walks Follows) word (of_cat word offset count) es xs room free parts path_is EndsThere NoLink
        (λ reply busy scene set end is.
        after_early hash id course before most cat (Walks Follows) word (of_cat word offset count) es xs room free parts path_is early busy scene
        (Some reply) set
        (pass (arrives scene end) (pass refl (pass (refused_there is_dir_or_link IsDir scene None end (no_dir scene (end.ends.read tt)))
        (stop (refused_there is_softlink NotFile scene (Some reply) end is))))))
        ends stopped
        (scenes_so hash course es xs EndsThere (λ scene. IsStoppedBy (NoLink scene) stopped) (λ scene set end. told scene (end.ends.read tt)) ends)

    abbrev IsAskedIn : Inode → List ℕ → Scene → Type 0
    IsAskedIn inode bytes scene =
        (content : List ℕ) → AreFileBytes (Counts scene.elements stand.as_of.0) stand.at.pfs.0 stand.at.object.0 inode.size content
        → bytes ≡ read_at offset count content

    module _ (no_link : (scene : Scene) → IsRead scene stand → NoLink scene ≡ None) where
      cat_passes : PassEarly cat (Walks Follows) course.last.0 parts → (busy : Option ℕ) (scene : Scene) → IsSet hash course scene → EndsThere scene
          → IsFirst (all_checks (call_in hash cat (Parts parts ∷ []) busy scene) room free) None
      cat_passes early busy scene set end =
          after_early hash id course before most cat (Walks Follows) word (of_cat word offset count) es xs room free parts path_is early busy scene None set
          (pass (arrives scene end) (pass refl (pass (refused_there is_dir_or_link IsDir scene None end (no_dir scene (end.ends.read tt)))
          (pass (refused_there is_softlink NotFile scene None end (no_link scene (end.ends.read tt)))
          (pass refl (pass refl (pass (no_zones free) all_pass)))))))

      pub tells_bytes : PassEarly cat (Walks Follows) course.last.0 parts → OnScenes hash es xs course EndsThere
          → (inode : Inode) → stand.inode ≡ Some inode → (bytes : List ℕ) (es' : Option (List Element)) (xs' : Option (List Extent)) → es' ≡ es → xs' ≡ xs
          → OnBalanced es' xs' (AreAsked stand inode.size offset count bytes)
          → IsAcceptedBy hash id (λ call. call.command ≡ cat) es xs room free (Bytes bytes)
      tells_bytes early ends inode inode_is bytes es' xs' same same' told =
          one_accepts hash id course before most cat (Walks Follows) word (of_cat word offset count) es xs room free parts path_is
          (λ scene. EndsThere scene × IsAskedIn inode bytes scene) (Bytes bytes)
          (λ busy scene set both.
          let read : IsRead scene stand = both.0.ends.read tt in
          let call : Call = call_in hash cat (Parts parts ∷ []) busy scene in
          let (o, is, made) = found_object (Counts scene.elements stand.as_of.0) stand.at.pfs.0 (object_at scene.view (place_of stand.at)) inode
          (subst (λ (i : Option Inode). IsFoundBy (Counts scene.elements stand.as_of.0) stand.at.pfs.0 (object_at scene.view (place_of stand.at)) i)
          inode_is read.inode) in
          let numbered : o.number ≡ stand.at.object = number_is scene.view (place_of stand.at) o is in
          let held : AreFileBytes (Counts scene.elements stand.as_of.0) stand.at.pfs.0 stand.at.object.0 inode.size (file_bytes o.content) =
          subst (λ (n : Obj). AreFileBytes (Counts scene.elements stand.as_of.0) stand.at.pfs.0 n.0 inode.size (file_bytes o.content)) numbered
          (made_bytes (Counts scene.elements stand.as_of.0) stand.at.pfs.0 inode o made
          (refused_kind is_dir_or_link IsDir (object_at scene.view (place_of stand.at)) o is (no_dir scene read))
          (refused_kind is_softlink NotFile (object_at scene.view (place_of stand.at)) o is (no_link scene read))) in (
            cat_passes early busy scene set both.0,
            answered_there hash id course before most word parts path_is es xs room free stand call (walk scene.volume scene.view Follows parts) Follows scene
                (Bytes bytes) both.0
                (answered_object hash id course before most word parts path_is es xs room free stand call o (Bytes bytes) is
                (ap Bytes (sym (both.1 (file_bytes o.content) held)))),
          ))
          (scenes_both hash course es xs EndsThere (IsAskedIn inode bytes) ends
          (scenes_back hash course (IsAskedIn inode bytes) same same'
          (scenes_balanced hash course es' xs' (λ list. (content : List ℕ)
          → AreFileBytes (Counts list stand.as_of.0) stand.at.pfs.0 stand.at.object.0 inode.size content → bytes ≡ read_at offset count content) told)))

      pub tells_no_file : PassEarly cat (Walks Follows) course.last.0 parts → OnScenes hash es xs course EndsThere → stand.inode ≡ None
          → IsAcceptedBy hash id (λ call. call.command ≡ cat) es xs room free NotFound
      tells_no_file early ends none =
          one_accepts hash id course before most cat (Walks Follows) word (of_cat word offset count) es xs room free parts path_is EndsThere NotFound
          (λ busy scene set end.
          let read : IsRead scene stand = end.ends.read tt in
          let call : Call = call_in hash cat (Parts parts ∷ []) busy scene in
          let gone : object_at scene.view (place_of stand.at) ≡ None =
          no_object (Counts scene.elements stand.as_of.0) stand.at.pfs.0 (object_at scene.view (place_of stand.at))
          (subst (λ (i : Option Inode). IsFoundBy (Counts scene.elements stand.as_of.0) stand.at.pfs.0 (object_at scene.view (place_of stand.at)) i)
          none read.inode) in (
            cat_passes early busy scene set end,
            answered_there hash id course before most word parts path_is es xs room free stand call (walk scene.volume scene.view Follows parts) Follows scene
                NotFound end
                (subst (λ (x : Option Object). option_map_or (answer_at call (scene.view stand.at.pfs.0 (when_of stand.at.when))) x NotFound ≡ NotFound)
                (sym gone) refl),
          ))
          ends
