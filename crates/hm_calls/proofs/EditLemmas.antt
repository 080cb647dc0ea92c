-- The checks of a call on the bytes of a file, and what it makes of the tree, by where its walk came to.
use Rattle.std.proofs.Common.{◌≡◌, ℕ, ◌+◌, ◌≤◌, List, [], ◌∷◌, Bool, true, false, Option, Some, None, length, refl, sym, ap, subst, ◌∙◌}
use Rattle.std.specs.Prelude.{◌==◌, ◌&&◌, ◌||◌, IfSome, if◌then◌else◌, drop}
use Rattle.std.specs.List.{AllZip}
use Rattle.std.specs.Option.{option_map_or}
use Rattle.hm_types.specs.Elements.{FullElement}
use Rattle.hm_types.specs.Tree.{FileTree, object_in, holding}
use Rattle.hm_types.specs.declared.limits.TheConstants.{GREATEST_ID}
use Rattle.hm_types.specs.declared.object.Kind.TheVariants.{File}
use Rattle.hm_types.specs.declared.object.Object.{Object}
use Rattle.hm_path.specs.Path.{IsPath}
use Rattle.hm_path.specs.declared.part.Part.{Part}
use Rattle.hm_key.specs.Counts.{Counts}
use Rattle.hm_key.specs.Elements.{IsContent}
use Rattle.hm_key.specs.Extents.{Extent}
use Rattle.hm_key.specs.Versions.{HaveOwnKeys}
use Rattle.hm_key.specs.declared.element.Element.{Element}
use Rattle.hm_model.specs.Answer.{file_bytes}
use Rattle.hm_model.specs.Call.{Call, site_in, site_object}
use Rattle.hm_model.specs.Change.{changed, changed_pfs, with_bytes}
use Rattle.hm_model.specs.Due.{Check, a_file, accepted, fits_file, has_id, is_dir_or_link, is_in_slave, is_pfs_call, is_softlink, is_tree_call}
use Rattle.hm_model.specs.Due.{no_dir, no_future, refuse_if, walks}
use Rattle.hm_model.specs.Needs.{bytes_zones}
use Rattle.hm_model.specs.Sites.{At, Located, Parsed, Parts, ReadsWords, Walks, at_end, locate}
use Rattle.hm_model.specs.View.{Now, Position, When, object_at}
use Rattle.hm_model.specs.Walk.{Follows, start, walk}
use Rattle.hm_model.specs.declared.reply.Reply.{Reply}
use Rattle.hm_model.specs.declared.reply.Reply.TheVariants.{Done, IsDir, NotFile, ReadOnly}
use Rattle.hm_model.proofs.ReadLemmas.{read_once}
use Rattle.hm_records.specs.View.{IsViewOf}
use Rattle.hm_records.specs.declared.inode.Inode.{Inode}
use Rattle.hm_records.proofs.LookupLemmas.{found_is_object}
use Rattle.hm_dirs.specs.Walk.{IsRead, Scene, place_of, when_of}
use Rattle.hm_dirs.specs.declared.position.Course.{Course}
use Rattle.hm_dirs.specs.declared.position.Stand.{Stand}
use Rattle.hm_calls.specs.Call.{IsCall}
use Rattle.hm_calls.specs.Changes.{Changes, ChangesTree, tree_now}
use Rattle.hm_calls.specs.Due.{space_for}
use Rattle.hm_calls.specs.Edits.{ChangesFile, command_for, edited, end_of, zones_for}
use Rattle.hm_calls.specs.Known.{AreBelow, AreBelowIn}
use Rattle.hm_calls.specs.Places.{refuse_kind}
use Rattle.hm_calls.specs.Replies.{IsAcceptedBy}
use Rattle.hm_calls.specs.declared.edit.Edit.{Edit}
use Rattle.hm_calls.specs.declared.edit.Edit.TheVariants.{Fill, Truncate, Write}
use Rattle.hm_calls.specs.declared.stop.Stop.{Stop}
use Rattle.hm_calls.proofs.CatLemmas.{made_bytes, refused_kind}
use Rattle.hm_calls.proofs.EffectLemmas.{kinds_none, master_view, system_there, tree_changes, view_later}
use Rattle.hm_calls.proofs.KindLemmas.{file_left, number_found}
use Rattle.hm_calls.proofs.LinkLemmas.{in_slave}
use Rattle.hm_calls.proofs.NowLemmas.{EndsNow, walk_now}
use Rattle.hm_calls.proofs.RefusalLemmas.{AsRead, IsFirst, IsOfOne, IsRefused, PassEarly, after_early, all_checks, all_pass, one_accepts, one_refuses}
use Rattle.hm_calls.proofs.RefusalLemmas.{pass, read_one}
use Rattle.hm_calls.proofs.RefusalLemmas.{refuse_one, stop}
use Rattle.hm_calls.proofs.RemoveLemmas.{IsMade, made_of, master_check}
use Rattle.hm_calls.proofs.SceneLemmas.{IsEnd, IsSet, IsStoppedBy, OnScenes, call_in, scenes_all, scenes_both, scenes_so}
use Rattle.hm_calls.proofs.StageLemmas.{Wrote, scenes_below, scenes_own, writes_changes}
use Rattle.hm_calls.proofs.TreeLemmas.{change_keeps}
use Rattle.hm_types.specs.declared.object.Content.TheVariants.{File as FileBytes}

pub of_edit : (edit : Edit) (word : List ℕ) → IsOfOne (command_for edit word) (Walks Follows) word
of_edit (Write offset bytes) word = record { uses = refl; form = λ hash room free path busy scene refusal first. first }
of_edit (Fill offset count byte) word = record { uses = refl; form = λ hash room free path busy scene refusal first. first }
of_edit (Truncate size) word = record { uses = refl; form = λ hash room free path busy scene refusal first. first }

pub edits_tree : (edit : Edit) (word : List ℕ) → is_tree_call (command_for edit word) ≡ true
edits_tree (Write offset bytes) word = refl
edits_tree (Fill offset count byte) word = refl
edits_tree (Truncate size) word = refl

-- the checks before the walk pass
pub early_edit : (edit : Edit) (word : List ℕ) (last : ℕ) (parts : List Part) → no_future last (Parts parts) ≡ None
    → refuse_if (has_id (Parts parts)) ReadOnly ≡ None → PassEarly (command_for edit word) (Walks Follows) last parts
early_edit edit word last parts future past = record {
  good = refl;
  future = future;
  past =
      subst (λ (b : Bool). refuse_if ((b || is_pfs_call (command_for edit word)) && (has_id (Parts parts) || false)) ReadOnly ≡ None)
      (sym (edits_tree edit word)) (refuse_one (has_id (Parts parts)) ReadOnly None past);
}

-- ---- the checks after the walk, by where it led

-- the zones in which it needs room, by the object there
abbrev zones_by : Edit → Option Object → List ℕ
zones_by (Write offset bytes) object = bytes_zones
zones_by (Fill offset count byte) object = bytes_zones
zones_by (Truncate size) object =
    if option_map_or (λ (o : Object). if length (file_bytes o.content) == size then false else true) object true then bytes_zones else []

abbrev edit_tail : Edit → (ℕ → ℕ) → ℕ → Call → Located → List Check
edit_tail edit room free call l =
    refuse_if (is_in_slave call l || false) ReadOnly ∷ no_dir call (site_in l) ∷ a_file call (site_in l) ∷ fits_file (end_of edit) ∷ None ∷ None
    ∷ space_for (zones_by edit (site_object call (site_in l))) 4 room free ∷ []

-- the same by the stand of the walk
abbrev pub edit_stands : (ℕ → ℕ) → ℕ → Scene → Edit → Stand → List Check
edit_stands room free scene edit file =
    refuse_if (in_slave scene file.at.pfs.0 || false) ReadOnly
    ∷ refuse_kind is_dir_or_link IsDir (object_at scene.view (place_of file.at)) ∷ refuse_kind is_softlink NotFile (object_at scene.view (place_of file.at))
    ∷ fits_file (end_of edit) ∷ None ∷ None ∷ space_for (zones_by edit (object_at scene.view (place_of file.at))) 4 room free ∷ []

tail_is : (hash : List ℕ → ℕ) (room : ℕ → ℕ) (free : ℕ) (edit : Edit) (word : List ℕ) (scene : Scene) (parts : List Part) (busy : Option ℕ) (refusal : Check)
    → let call : Call = call_in hash (command_for edit word) (Parts parts ∷ []) busy scene in
    IsFirst (edit_tail edit room free call (locate scene.volume scene.view (Walks Follows) parts)) refusal
    → IsFirst (drop 7 (all_checks call room free)) refusal
tail_is hash room free (Write offset bytes) word scene parts busy refusal first = first
tail_is hash room free (Fill offset count byte) word scene parts busy refusal first = first
tail_is hash room free (Truncate size) word scene parts busy refusal first = first

-- room that a file of a size needs
zones_are : (edit : Edit) (object : Option Object) (o : Object) (size : ℕ) → object ≡ Some o → length (file_bytes o.content) ≡ size
    → zones_by edit object ≡ zones_for edit size
zones_are (Write offset bytes) object o size there long = refl
zones_are (Fill offset count byte) object o size there long = refl
zones_are (Truncate to) object o size there long =
    ap (λ (x : Option Object). if option_map_or (λ (o : Object). if length (file_bytes o.content) == to then false else true) x true then bytes_zones else [])
    there
    ∙ (ap (λ (n : ℕ). if (if n == to then false else true) then bytes_zones else []) long ∙ other_way (size == to))
  where
    other_way : (b : Bool) → (if (if b then false else true) then bytes_zones else []) ≡ (if b then [] else bytes_zones)
    other_way true = refl
    other_way false = refl

-- ---- where the walk came to

module _ (hash : List ℕ → ℕ) (room : ℕ → ℕ) (free : ℕ) (edit : Edit) (word : List ℕ) (scene : Scene) (parts : List Part) (file : Stand)
    (end : IsEnd scene Follows (walk scene.volume scene.view Follows parts) file) (busy : Option ℕ) where
  abbrev pub the_edit : Call
  the_edit = call_in hash (command_for edit word) (Parts parts ∷ []) busy scene

  abbrev one_at : Position → Located
  one_at here = At (record { at = here; directory = here; name = []; passed = end.passed })

  one_is : locate scene.volume scene.view (Walks Follows) parts ≡ one_at (place_of file.at)
  one_is = ap at_end end.walked_is ∙ ap one_at (sym end.ends.place)

  -- what the checks after the walk say first, they say by where it came to
  pub edit_after : (refusal : Check) → IsFirst (edit_stands room free scene edit file) refusal
      → IsFirst (walks (locate scene.volume scene.view (Walks Follows) parts) ∷ drop 7 (all_checks the_edit room free)) refusal
  edit_after refusal first =
      pass (ap walks one_is)
      (tail_is hash room free edit word scene parts busy refusal
      (subst (λ (l : Located). IsFirst (edit_tail edit room free the_edit l) refusal) (sym one_is) first))

  -- the object there, by its inode
  module _ (inode : Inode) (has : file.inode ≡ Some inode) where
    pub made : IsMade (Counts scene.elements file.as_of.0) file.at.pfs.0 (object_at scene.view (place_of file.at)) inode
    made = made_of (Counts scene.elements file.as_of.0) file.at.pfs.0 (object_at scene.view (place_of file.at)) file.inode inode has (end.ends.read tt).inode

    module _ (no_dir : refuse_kind is_dir_or_link IsDir (object_at scene.view (place_of file.at)) ≡ None)
        (no_link : refuse_kind is_softlink NotFile (object_at scene.view (place_of file.at)) ≡ None) where
      pub is_long : length (file_bytes made.o.content) ≡ inode.size
      is_long =
          (made_bytes (Counts scene.elements file.as_of.0) file.at.pfs.0 inode made.o made.made
          (refused_kind is_dir_or_link IsDir (object_at scene.view (place_of file.at)) made.o made.there no_dir)
          (refused_kind is_softlink NotFile (object_at scene.view (place_of file.at)) made.o made.there no_link)).sized

      is_file : made.o.kind ≡ File
      is_file = file_left made.o.kind (refused_kind is_dir_or_link IsDir (object_at scene.view (place_of file.at)) made.o made.there no_dir)
          (refused_kind is_softlink NotFile (object_at scene.view (place_of file.at)) made.o made.there no_link)

      pub edit_space : (check : Check) → space_for (zones_for edit inode.size) 4 room free ≡ check
          → space_for (zones_by edit (object_at scene.view (place_of file.at))) 4 room free ≡ check
      edit_space check told =
          subst (λ (zones : List ℕ). space_for zones 4 room free ≡ check)
          (sym (zones_are edit (object_at scene.view (place_of file.at)) made.o inode.size made.there is_long)) told

      -- ---- what it makes of the tree

      edit_pfs : changed_pfs the_edit ≡ file.at.pfs.0
      edit_pfs = by_edit edit where
        by_edit : (e : Edit) → changed_pfs (call_in hash (command_for e word) (Parts parts ∷ []) busy scene) ≡ file.at.pfs.0
        by_edit (Write offset bytes) = ap (λ (l : Located). (site_in l).at.pfs) one_is
        by_edit (Fill offset count byte) = ap (λ (l : Located). (site_in l).at.pfs) one_is
        by_edit (Truncate size) = ap (λ (l : Located). (site_in l).at.pfs) one_is

      edit_changed : (tree : FileTree) → changed the_edit tree ≡ with_bytes tree (edited edit) made.o
      edit_changed tree = by_edit edit where
        there : (change : List ℕ → List ℕ)
            → option_map_or (with_bytes tree change) (object_at scene.view (site_in (locate scene.volume scene.view (Walks Follows) parts)).at) tree
            ≡ with_bytes tree change made.o
        there change =
            ap (λ (l : Located). option_map_or (with_bytes tree change) (object_at scene.view (site_in l).at) tree) one_is
            ∙ ap (λ (o : Option Object). option_map_or (with_bytes tree change) o tree) made.there

        by_edit : (e : Edit) → changed (call_in hash (command_for e word) (Parts parts ∷ []) busy scene) tree ≡ with_bytes tree (edited e) made.o
        by_edit (Write offset bytes) = there (edited (Write offset bytes))
        by_edit (Fill offset count byte) = there (edited (Fill offset count byte))
        by_edit (Truncate size) = there (edited (Truncate size))

      pub edit_changes : (id : ℕ) (course : Course) (es' : List FullElement) → course.last.0 + 1 ≡ id → IsPath word parts
          → has_id (Parts parts) ≡ false → IsSet hash course scene → HaveOwnKeys scene.elements → AreBelow file.at.pfs.0 id scene.elements
          → master_check scene file.at.pfs.0 ≡ None
          → ChangesFile file.at.pfs.0 file.at.object.0 id inode.size (edited edit) scene.elements es' → ChangesTree the_edit scene.elements es'
      edit_changes id course es' before path none set own below passes wrote =
          let pfs : ℕ = file.at.pfs.0 in
          let own_is : scene.volume.last + 1 ≡ id = ap (λ (n : ℕ). n + 1) set.last ∙ before in
          let asked : IsCall hash id scene.elements the_edit =
          record { own = own_is; hash_is = refl; shows = set.shows; keys = set.keys; words = words edit } in
          let view : IsViewOf scene.elements pfs scene.volume.last (scene.view pfs Now) =
          master_view scene.elements scene.volume scene.view pfs file.at.object made.o set.shows there_now passes in
          let now : IsViewOf scene.elements pfs scene.volume.last (tree_now the_edit) =
          subst (λ (p : ℕ). IsViewOf scene.elements pfs scene.volume.last (scene.view p Now)) (sym edit_pfs) view in
          tree_changes the_edit hash scene.volume.last id pfs scene.elements asked own edit_pfs
          (system_there scene.elements scene.volume scene.view pfs Now file.at.object made.o set.shows there_now) below own_is now
          (λ tree. with_bytes tree (edited edit) made.o) (Unit {0}) es'
          (record { writes = wrote.writes; keys = λ fits keys. wrote.fits hash keys }) tt
          (λ _. wrote.shows made.o numbered is_file is_long
          (λ t late.
          let later = view_later pfs scene.volume.last id scene.elements (scene.view pfs Now) own below own_is view t late in
          (found_is_object pfs (scene.view pfs Now) (Counts scene.elements t) later file.at.object made.o there_now).0))
          (λ _. kinds_none (with_bytes (tree_now the_edit) (edited edit) made.o) scene.elements es' wrote.names)
          (λ number o there gone. absurd (change_keeps (tree_now the_edit) made.o.number
          (holding (FileBytes (edited edit (file_bytes made.o.content)))) (λ p. refl) number o there gone)) (λ _. wrote.follows)
          (sym (edit_changed (tree_now the_edit)))
        where
          numbered : made.o.number.0 ≡ file.at.object.0
          numbered = number_found (scene.view file.at.pfs.0 (when_of file.at.when)) file.at.object made.o made.there

          now_is : when_of file.at.when ≡ Now
          now_is =
              ap (λ (p : Position). p.when) end.ends.place
              ∙ subst EndsNow end.walked_is (walk_now scene.volume scene.view Follows parts start ((0, 1) ∷ []) none refl)

          there_now : object_in (scene.view file.at.pfs.0 Now) file.at.object ≡ Some made.o
          there_now = subst (λ (w : When). object_in (scene.view file.at.pfs.0 w) file.at.object ≡ Some made.o) now_is made.there

          words : (e : Edit) → ReadsWords (command_for e word) (Parts parts ∷ [])
          words (Write offset bytes) = (path, tt)
          words (Fill offset count byte) = (path, tt)
          words (Truncate size) = (path, tt)

-- ---- the refusals

pub paths_edited : (edit : Edit) (word : List ℕ) (parts : List Part) (paths : List Parsed) → IsPath word parts → ReadsWords (command_for edit word) paths
    → paths ≡ Parts parts ∷ []
paths_edited edit word parts paths path reads =
    let one = read_one (Walks Follows) word paths (words edit reads) in
    one.1 ∙ ap (λ p. p ∷ []) (read_once word parts one.0 path one.2)
  where
    words : (e : Edit) → ReadsWords (command_for e word) paths → AllZip AsRead ((Walks Follows, word) ∷ []) paths
    words (Write offset bytes) is = is
    words (Fill offset count byte) is = is
    words (Truncate size) is = is

module _ (hash : List ℕ → ℕ) (id : ℕ) (course : Course) (before : course.last.0 + 1 ≡ id) (most : id ≤ GREATEST_ID) (edit : Edit) (word : List ℕ)
    (parts : List Part) (path : IsPath word parts) (es : Option (List Element)) (xs : Option (List Extent)) (room : ℕ → ℕ) (free : ℕ) (file : Stand)
    (ends : OnScenes hash es xs course (λ scene. IsEnd scene Follows (walk scene.volume scene.view Follows parts) file)) where
  abbrev IsLed : Scene → Type 0
  IsLed scene = IsEnd scene Follows (walk scene.volume scene.view Follows parts) file

  abbrev NoDir : Scene → Check
  NoDir scene = refuse_kind is_dir_or_link IsDir (object_at scene.view (place_of file.at))

  abbrev NoLink : Scene → Check
  NoLink scene = refuse_kind is_softlink NotFile (object_at scene.view (place_of file.at))

  abbrev IsMaster : Scene → Type 0
  IsMaster scene = master_check scene file.at.pfs.0 ≡ None

  module _ (early : PassEarly (command_for edit word) (Walks Follows) course.last.0 parts) where
    -- a check after the walk refuses
    refuses : (F : Scene → Type 0) (check : Scene → Check)
        → ((reply : Reply) (scene : Scene) → IsSet hash course scene → IsLed scene → F scene → check scene ≡ Some reply
        → IsFirst (edit_stands room free scene edit file) (Some reply))
        → OnScenes hash es xs course F → (stopped : Stop) → OnScenes hash es xs course (λ scene. IsStoppedBy (check scene) stopped)
        → IsRefused hash id (command_for edit word) es xs room free stopped
    refuses F check first known stopped told =
        one_refuses hash id course before most (command_for edit word) (Walks Follows) word (of_edit edit word) es xs room free parts path
        (λ scene. IsLed scene × F scene) check
        (λ reply busy scene set is refused.
        after_early hash id course before most (command_for edit word) (Walks Follows) word (of_edit edit word) es xs room free parts path early busy scene
        (Some reply) set
        (edit_after hash room free edit word scene parts file is.0 busy (Some reply) (first reply scene set is.0 is.1 refused)))
        (scenes_both hash course es xs IsLed F ends known) stopped told

    pub edit_master_refuses : (stopped : Stop) → OnScenes hash es xs course (λ scene. IsStoppedBy (master_check scene file.at.pfs.0) stopped)
        → IsRefused hash id (command_for edit word) es xs room free stopped
    edit_master_refuses =
        refuses (λ _. Unit {0}) (λ scene. master_check scene file.at.pfs.0)
        (λ reply scene set is known refused. stop (refuse_one (in_slave scene file.at.pfs.0) ReadOnly (Some reply) refused))
        (scenes_all hash course es xs (λ _. Unit {0}) (λ _ _. tt))

    module _ (master : OnScenes hash es xs course IsMaster) where
      no_slave : (scene : Scene) → IsMaster scene → refuse_if (in_slave scene file.at.pfs.0 || false) ReadOnly ≡ None
      no_slave scene is = refuse_one (in_slave scene file.at.pfs.0) ReadOnly None is

      pub edit_dir_refuses : (stopped : Stop) → ((scene : Scene) → IsRead scene file → IsStoppedBy (NoDir scene) stopped)
          → IsRefused hash id (command_for edit word) es xs room free stopped
      edit_dir_refuses stopped told =
          refuses IsMaster NoDir (λ reply scene set is known refused. pass (no_slave scene known) (stop refused)) master stopped
          (scenes_so hash course es xs IsLed (λ scene. IsStoppedBy (NoDir scene) stopped) (λ scene set is. told scene (is.ends.read tt)) ends)

      module _ (no_dir : (scene : Scene) → IsRead scene file → NoDir scene ≡ None) where
        pub edit_link_refuses : (stopped : Stop) → ((scene : Scene) → IsRead scene file → IsStoppedBy (NoLink scene) stopped)
            → IsRefused hash id (command_for edit word) es xs room free stopped
        edit_link_refuses stopped told =
            refuses IsMaster NoLink
            (λ reply scene set is known refused. pass (no_slave scene known) (pass (no_dir scene (is.ends.read tt)) (stop refused))) master stopped
            (scenes_so hash course es xs IsLed (λ scene. IsStoppedBy (NoLink scene) stopped) (λ scene set is. told scene (is.ends.read tt)) ends)

        module _ (no_link : (scene : Scene) → IsRead scene file → NoLink scene ≡ None) where
          pub edit_end_refuses : (stopped : Stop) → IsStoppedBy (fits_file (end_of edit)) stopped
              → IsRefused hash id (command_for edit word) es xs room free stopped
          edit_end_refuses stopped told =
              refuses IsMaster (λ _. fits_file (end_of edit))
              (λ reply scene set is known refused.
              pass (no_slave scene known) (pass (no_dir scene (is.ends.read tt)) (pass (no_link scene (is.ends.read tt)) (stop refused)))) master stopped
              (scenes_all hash course es xs (λ _. IsStoppedBy (fits_file (end_of edit)) stopped) (λ _ _. told))

          module _ (fits : fits_file (end_of edit) ≡ None) (inode : Inode) (has : file.inode ≡ Some inode) where
            edit_last : (scene : Scene) (refusal : Check) → IsLed scene → IsMaster scene
                → space_for (zones_for edit inode.size) 4 room free ≡ refusal → IsFirst (space_for (zones_by edit (object_at scene.view (place_of file.at))) 4
                room free ∷ []) refusal → IsFirst (edit_stands room free scene edit file) refusal
            edit_last scene refusal is known told first =
                pass (no_slave scene known) (pass (no_dir scene (is.ends.read tt)) (pass (no_link scene (is.ends.read tt)) (pass fits
                (pass refl (pass refl first)))))

            space_is : (scene : Scene) (check : Check) → IsLed scene → space_for (zones_for edit inode.size) 4 room free ≡ check
                → space_for (zones_by edit (object_at scene.view (place_of file.at))) 4 room free ≡ check
            space_is scene check is told =
                edit_space hash room free edit word scene parts file is None inode has (no_dir scene (is.ends.read tt)) (no_link scene (is.ends.read tt))
                check told

            pub edit_space_refuses : (stopped : Stop) → IsStoppedBy (space_for (zones_for edit inode.size) 4 room free) stopped
                → IsRefused hash id (command_for edit word) es xs room free stopped
            edit_space_refuses stopped told =
                refuses IsMaster (λ _. space_for (zones_for edit inode.size) 4 room free)
                (λ reply scene set is known refused. edit_last scene (Some reply) is known refused (stop (space_is scene (Some reply) is refused))) master
                stopped (scenes_all hash course es xs (λ _. IsStoppedBy (space_for (zones_for edit inode.size) 4 room free) stopped) (λ _ _. told))

            pub edit_accepts : space_for (zones_for edit inode.size) 4 room free ≡ None
                → IsAcceptedBy hash id (λ call. call.command ≡ command_for edit word) es xs room free Done
            edit_accepts told =
                one_accepts hash id course before most (command_for edit word) (Walks Follows) word (of_edit edit word) es xs room free parts path
                (λ scene. IsLed scene × IsMaster scene) Done
                (λ busy scene set is. (
                  after_early hash id course before most (command_for edit word) (Walks Follows) word (of_edit edit word) es xs room free parts path early busy
                      scene None set
                      (edit_after hash room free edit word scene parts file is.0 busy None
                      (edit_last scene None is.0 is.1 told (pass (space_is scene None is.0 told) all_pass))),
                  done edit busy scene,
                )) (scenes_both hash course es xs IsLed IsMaster ends master)
              where
                done : (e : Edit) (busy : Option ℕ) (scene : Scene) → accepted (call_in hash (command_for e word) (Parts parts ∷ []) busy scene) ≡ Done
                done (Write offset bytes) busy scene = refl
                done (Fill offset count byte) busy scene = refl
                done (Truncate size) busy scene = refl

      -- what is known of each scene before the call writes
      pub record IsEditing (scene : Scene) : Type 0 where
        pub led : IsLed scene
        pub unslaved : IsMaster scene
        pub own : HaveOwnKeys scene.elements
        pub below : AreBelow file.at.pfs.0 id scene.elements

      pub editing : IfSome es IsContent → AreBelowIn es xs file.at.pfs.0 id → OnScenes hash es xs course IsEditing
      editing content below =
          scenes_so hash course es xs
          (λ scene. (IsLed scene × IsMaster scene) × (HaveOwnKeys scene.elements × AreBelow file.at.pfs.0 id scene.elements)) IsEditing
          (λ scene set is. record { led = is.0.0; unslaved = is.0.1; own = is.1.0; below = is.1.1 })
          (scenes_both hash course es xs (λ scene. IsLed scene × IsMaster scene)
          (λ scene. HaveOwnKeys scene.elements × AreBelow file.at.pfs.0 id scene.elements)
          (scenes_both hash course es xs IsLed IsMaster ends master)
          (scenes_both hash course es xs (λ scene. HaveOwnKeys scene.elements) (λ scene. AreBelow file.at.pfs.0 id scene.elements)
          (scenes_own hash course es xs content) (scenes_below hash course es xs file.at.pfs.0 id below)))

      -- what it wrote is its change
      pub edit_writes : (no_dir : (scene : Scene) → IsRead scene file → NoDir scene ≡ None) (no_link : (scene : Scene) → IsRead scene file
          → NoLink scene ≡ None)
          (inode : Inode) → file.inode ≡ Some inode → has_id (Parts parts) ≡ false → OnScenes hash es xs course IsEditing
          → (es' : Option (List Element)) (xs' : Option (List Extent))
          → Wrote (ChangesFile file.at.pfs.0 file.at.object.0 id inode.size (edited edit)) es xs es' xs'
          → Wrote (Changes hash id (λ call. call.command ≡ command_for edit word)) es xs es' xs'
      edit_writes no_dir no_link inode has none known es' xs' writes =
          writes_changes hash id course (command_for edit word) (ChangesFile file.at.pfs.0 file.at.object.0 id inode.size (edited edit)) IsEditing es es' xs xs'
          before
          (λ busy paths scene list reads set is wrote.
          subst (λ (ps : List Parsed). ChangesTree (call_in hash (command_for edit word) ps busy scene) scene.elements list)
          (sym (paths_edited edit word parts paths path reads))
          (edit_changes hash room free edit word scene parts file is.led busy inode has (no_dir scene (is.led.ends.read tt))
          (no_link scene (is.led.ends.read tt)) id course list before path none set is.own is.below is.unslaved wrote))
          known writes
