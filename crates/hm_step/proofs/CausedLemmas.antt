-- The reply of a call that is due has its cause.
use Rattle.std.proofs.Common.{◌≡◌, ℕ, ◌+◌, ◌-◌, ◌^◌, ◌<◌, min, length, Bool, true, false, List, [], ◌∷◌, ◌++◌, map, refl, sym, subst, ◌∙◌, inl, inr, arith}
use Rattle.std.specs.Prelude.{◌⊎◌, ◌==◌, ◌&&◌, ◌||◌, None, Some, if◌then◌else◌}
use Rattle.std.specs.Bool.{nat_le, nat_lt}
use Rattle.std.specs.List.{Contains, list_any}
use Rattle.std.specs.Option.{option_map_or}
use Rattle.hm_types.specs.Tree.{FileTree}
use Rattle.hm_types.specs.declared.limits.TheConstants.{GREATEST_ID, MOST_FILE_BYTES, MOST_INTERVALS}
use Rattle.hm_types.specs.declared.object.Object.{Object}
use Rattle.hm_model.specs.Answer.{file_bytes, kind_number, listing, record_of, size_of, target_of}
use Rattle.hm_model.specs.Bytes.{read_at}
use Rattle.hm_model.specs.Call.{Call, all_located, each_located, first_site, second_site, site_object, site_system}
use Rattle.hm_model.specs.Caused.{IsPossible, on_a_file, on_a_read, possible}
use Rattle.hm_model.specs.Due.{Check, a_file, no_dir, checks, is_dir, is_dir_or_link, is_kind, is_link, is_passed, is_softlink, name_is_new}
use Rattle.hm_model.specs.Due.{early_checks, first_refusal, has_id, fits_file, hash_is_full, hash_left, good_paths, ids_left, intervals_left}
use Rattle.hm_model.specs.Due.{no_future, no_future_begin, none_open, is_in_slave, is_pfs_call, is_tree_call, is_way_free, new_name, new_pfs}
use Rattle.hm_model.specs.Due.{pruned_count, own_checks, own_checks_of, past_stays, refusal, refuse_if, slaves_stay, walks}
use Rattle.hm_model.specs.Needs.{bytes_zones, held_of, has_other_link, has_other_size, names_zones, stays_put, zones_of}
use Rattle.hm_model.specs.Sites.{Parsed, Site, TakesName, Walks, uses_of}
use Rattle.hm_model.specs.Walk.{Follow, Follows, Stays, TakesPfs}
use Rattle.hm_model.specs.declared.command.Command.{Command}
use Rattle.hm_model.specs.declared.command.Command.TheVariants.{Cat, Fill, Prune, PruneAll, PfsMaster, PfsSlave, PfsStatus, Truncate, Write, Ln, Ls}
use Rattle.hm_model.specs.declared.command.Command.TheVariants.{Mkdir, Mv, Readlink, Rm, Rmdir, Snapshot, Stat, Symlink, Touch}
use Rattle.hm_model.specs.declared.reply.Reply.{Reply}
use Rattle.hm_model.specs.declared.reply.Reply.TheVariants.{Content as Bytes, Done, Listing, MadePfs, NoSnapshots, PfsFull, Status, Target as Text}
use Rattle.hm_model.specs.declared.reply.Reply.TheVariants.{TooManyIntervals, CrossPfs, Exists, HashFull, IntoItself, IsDir, NotEmpty, NotFile}
use Rattle.hm_model.specs.declared.reply.Reply.TheVariants.{NotLink, TooBig, NoSpace, NotDir, NotFound, NotRetained, ReadOnly}
use Rattle.std.proofs.lemmas.Bool.Decides.{nat_tests}
use Rattle.hm_model.proofs.CheckLemmas.{no_first, no_rest}
use Rattle.hm_model.proofs.DueLemmas.{of_option}
use Rattle.hm_records.proofs.MemberLemmas.{has_tail}
use Rattle.hm_calls.specs.Due.{due_over, lacking}
use Rattle.hm_calls.specs.Answered.{IsAnswerable}
use Rattle.hm_calls.proofs.GivenLemmas.{behind_cat, behind_file, behind_link, dir_in_walk, file_accepted, file_lacks, in_read, kept_in_read}
use Rattle.hm_calls.proofs.GivenLemmas.{lost_in_walk, too_large}
use Rattle.hm_step.proofs.PossibleLemmas.{OfAll, OfCheck, all_fine, first_of_all, none_fine, walks_fine}
use Rattle.hm_step.proofs.ReplyLemmas.{Way, first_front, lacks, refused, serves, way}
use Rattle.hm_step.proofs.EarlyLemmas.{early_plain}
use Rattle.hm_step.proofs.GivenLemmas.{IsPlain, MayGive, by_option, by_test, unless_test}

-- one check after others
pub first_split : (xs ys : List Check) (r : Reply) → first_refusal (xs ++ ys) ≡ Some r → (first_refusal xs ≡ Some r) ⊎ (first_refusal ys ≡ Some r)
first_split [] ys r is = inr is
first_split (None ∷ xs) ys r is = first_split xs ys r is
first_split (Some reply ∷ xs) ys r is = inl is

module _ (call : Call) where
  -- walks that change what they come to
  tree_walks : (command : Command) (paths : List Parsed) → list_any has_id paths ≡ false → MayGive command paths NotFound → MayGive command paths NotDir
      → OfAll (MayGive command paths) (map walks (each_located call (uses_of command) paths))
  tree_walks command paths none lost no_directory =
      let P : Reply → Type 0 = MayGive command paths in
      walks_fine P lost no_directory call (uses_of command) paths (none_fine P lost no_directory paths none)

  -- and walks of calls that read
  read_walks : (command : Command) (paths : List Parsed) → MayGive command paths NotFound → MayGive command paths NotDir
      → (list_any has_id paths ≡ true → MayGive command paths NotRetained)
      → OfAll (MayGive command paths) (map walks (each_located call (uses_of command) paths))
  read_walks command paths lost no_directory kept = by (list_any has_id paths) refl where
    P : Reply → Type 0
    P = MayGive command paths

    by : (test : Bool) → list_any has_id paths ≡ test → OfAll (MayGive command paths) (map walks (each_located call (uses_of command) paths))
    by true is = walks_fine P lost no_directory call (uses_of command) paths (all_fine P lost no_directory (kept is) paths)
    by false is = walks_fine P lost no_directory call (uses_of command) paths (none_fine P lost no_directory paths is)

  -- the hash of a new name
  full_check : (command : Command) (paths : List Parsed) → MayGive command paths HashFull
      → OfCheck (MayGive command paths) (option_map_or (λ site. refuse_if (hash_is_full call site) HashFull)
      (new_name (uses_of command) (each_located call (uses_of command) paths)) None)
  full_check command paths full =
      by_option (MayGive command paths) (λ site. refuse_if (hash_is_full call site) HashFull) _
      (λ site. by_test (MayGive command paths) (hash_is_full call site) HashFull full)

  -- what else is checked, by the command
  abbrev Rest : Command → List Parsed → Site → Site → Type 0
  Rest command paths a b = OfAll (MayGive command paths) (own_checks_of call a b command)

  name_check : (command : Command) (paths : List Parsed) (site : Site) → MayGive command paths Exists
      → OfCheck (MayGive command paths) (name_is_new call site)
  name_check command paths site is = by_option (MayGive command paths) (λ o. Some Exists) _ (λ o. is)

  -- a call that changes a file up to an end
  file_checks : (command : Command) (paths : List Parsed) (a : Site) (end : ℕ) → possible command paths ≡ on_a_file end
      → OfAll (MayGive command paths) (no_dir call a ∷ a_file call a ∷ fits_file end ∷ [])
  file_checks command paths a end numbers = (
    by_test P (is_kind is_dir_or_link call a) IsDir (given 4 (0, omega arith, refl), tt),
    (by_test P (is_kind is_softlink call a) NotFile (given 32 (1, omega arith, refl), tt), (by (nat_lt MOST_FILE_BYTES end) refl, tt)),
  ) where
    P : Reply → Type 0
    P = MayGive command paths

    given : (n : ℕ) → Contains (on_a_file end) n → Contains (possible command paths) n
    given n has = subst (λ (l : List ℕ). Contains l n) (sym numbers) has

    by : (test : Bool) → nat_lt MOST_FILE_BYTES end ≡ test → OfCheck P (refuse_if test TooBig)
    by true is = (given 10 (too_large end is), tt)
    by false is = tt

  rest : (command : Command) (paths : List Parsed) (a b : Site) → IsAnswerable command → Rest command paths a b
  rest (Mkdir path) paths a b answers = (name_check (Mkdir path) paths a ((1, omega arith, refl), tt), tt)
  rest (Touch path) paths a b answers = (name_check (Touch path) paths a ((1, omega arith, refl), tt), tt)
  rest (Symlink target path) paths a b answers = (name_check (Symlink target path) paths a ((1, omega arith, refl), tt), tt)
  rest (Snapshot path) paths a b answers = (name_check (Snapshot path) paths a ((1, omega arith, refl), tt), tt)
  rest (Ln old new) paths a b answers =
      let P : Reply → Type 0 = MayGive (Ln old new) paths in (
        by_test P (is_kind is_dir_or_link call a) IsDir ((1, omega arith, refl), tt),
        (
          by_test P (is_kind is_softlink call a) NotFile ((2, omega arith, refl), tt),
          (
            unless_test P ((first_site call).at.pfs == (second_site call).at.pfs) CrossPfs ((3, omega arith, refl), tt),
            (
              name_check (Ln old new) paths b ((5, omega arith, refl), tt),
              (by_test P _ TooBig ((4, omega arith, refl), tt), tt),
            ),
          ),
        ),
      )
  rest (Mv old new) paths a b answers =
      let P : Reply → Type 0 = MayGive (Mv old new) paths in (
        unless_test P ((first_site call).at.pfs == (second_site call).at.pfs) CrossPfs ((1, omega arith, refl), tt),
        (
          by_test P (is_passed (first_site call) (second_site call)) IntoItself ((2, omega arith, refl), tt),
          (
            by_option P (λ number. if is_way_free call then None else Some Exists) _
                (λ number. unless_test P (is_way_free call) Exists ((3, omega arith, refl), tt)),
            tt,
          ),
        ),
      )
  rest (Write path offset bytes) paths a b answers = file_checks (Write path offset bytes) paths a (offset + length bytes) refl
  rest (Fill path offset count byte) paths a b answers = file_checks (Fill path offset count byte) paths a (offset + count) refl
  rest (Truncate path size) paths a b answers = file_checks (Truncate path size) paths a size refl
  rest (Rm path) paths a b answers = (by_test (MayGive (Rm path) paths) (is_kind is_dir_or_link call a) IsDir ((1, omega arith, refl), tt), tt)
  rest (Rmdir path) paths a b answers =
      let P : Reply → Type 0 = MayGive (Rmdir path) paths in
      (unless_test P (is_kind is_dir call a) NotDir ((4, omega arith, refl), tt), (by_test P _ NotEmpty ((1, omega arith, refl), tt), tt))
  rest (Ls path) paths a b answers =
      (unless_test (MayGive (Ls path) paths) (is_kind is_dir call a) NotDir (has_tail 102 3 (on_a_read paths) (in_read paths 3 dir_in_walk), tt), tt)
  rest (Cat path offset count) paths a b answers =
      let P : Reply → Type 0 = MayGive (Cat path offset count) paths in (
        by_test P (is_kind is_dir_or_link call a) IsDir ((1, omega arith, refl), tt),
        (by_test P (is_kind is_softlink call a) NotFile ((2, omega arith, refl), tt), tt),
      )
  rest (Stat path) paths a b answers = tt
  rest (Readlink path) paths a b answers = (unless_test (MayGive (Readlink path) paths) (is_kind is_link call a) NotLink ((1, omega arith, refl), tt), tt)
  rest (Prune path) paths a b answers =
      let P : Reply → Type 0 = MayGive (Prune path) paths in
      (unless_test P (is_kind is_dir call a) NotDir ((5, omega arith, refl), tt), (by_test P _ NoSnapshots ((1, omega arith, refl), tt), tt))
  rest (PruneAll path) paths a b answers = tt
  rest (PfsMaster path shared) paths a b answers =
      let P : Reply → Type 0 = MayGive (PfsMaster path shared) paths in
      (name_check (PfsMaster path shared) paths a ((2, omega arith, refl), tt), (by_test P _ PfsFull ((1, omega arith, refl), tt), tt))
  rest (PfsSlave path shared) paths a b answers =
      let P : Reply → Type 0 = MayGive (PfsSlave path shared) paths in
      (name_check (PfsSlave path shared) paths a ((2, omega arith, refl), tt), (by_test P _ PfsFull ((1, omega arith, refl), tt), tt))
  rest (PfsStatus path) paths a b answers = tt
  rest other paths a b answers = absurd answers

  -- ---- all checks behind the early ones

  walks_give : (command : Command) (paths : List Parsed) → IsAnswerable command
      → ((is_tree_call command || is_pfs_call command) ≡ true → list_any has_id paths ≡ false)
      → OfAll (MayGive command paths) (map walks (each_located call (uses_of command) paths))
  walks_give (Mkdir path) paths answers no_id = tree_walks (Mkdir path) paths (no_id refl) ((5, omega arith, refl), tt) ((6, omega arith, refl), tt)
  walks_give (Touch path) paths answers no_id = tree_walks (Touch path) paths (no_id refl) ((5, omega arith, refl), tt) ((6, omega arith, refl), tt)
  walks_give (Symlink target path) paths answers no_id =
      tree_walks (Symlink target path) paths (no_id refl) ((5, omega arith, refl), tt) ((6, omega arith, refl), tt)
  walks_give (Snapshot path) paths answers no_id = tree_walks (Snapshot path) paths (no_id refl) ((5, omega arith, refl), tt) ((6, omega arith, refl), tt)
  walks_give (Ln old new) paths answers no_id = tree_walks (Ln old new) paths (no_id refl) ((9, omega arith, refl), tt) ((10, omega arith, refl), tt)
  walks_give (Mv old new) paths answers no_id = tree_walks (Mv old new) paths (no_id refl) ((7, omega arith, refl), tt) ((8, omega arith, refl), tt)
  walks_give (Write path offset bytes) paths answers no_id =
      tree_walks (Write path offset bytes) paths (no_id refl) (behind_file (offset + length bytes) 2 (1, omega arith, refl), tt)
      (behind_file (offset + length bytes) 3 (2, omega arith, refl), tt)
  walks_give (Fill path offset count byte) paths answers no_id =
      tree_walks (Fill path offset count byte) paths (no_id refl) (behind_file (offset + count) 2 (1, omega arith, refl), tt)
      (behind_file (offset + count) 3 (2, omega arith, refl), tt)
  walks_give (Truncate path size) paths answers no_id =
      tree_walks (Truncate path size) paths (no_id refl) (behind_file size 2 (1, omega arith, refl), tt) (behind_file size 3 (2, omega arith, refl), tt)
  walks_give (Rm path) paths answers no_id = tree_walks (Rm path) paths (no_id refl) ((4, omega arith, refl), tt) ((5, omega arith, refl), tt)
  walks_give (Rmdir path) paths answers no_id = tree_walks (Rmdir path) paths (no_id refl) ((3, omega arith, refl), tt) ((4, omega arith, refl), tt)
  walks_give (Ls path) paths answers no_id =
      read_walks (Ls path) paths (has_tail 102 2 (on_a_read paths) (in_read paths 2 lost_in_walk), tt)
      (has_tail 102 3 (on_a_read paths) (in_read paths 3 dir_in_walk), tt) (λ has. (has_tail 102 8 (on_a_read paths) (kept_in_read paths has), tt))
  walks_give (Cat path offset count) paths answers no_id =
      read_walks (Cat path offset count) paths (behind_cat paths 2 (in_read paths 2 lost_in_walk), tt)
      (behind_cat paths 3 (in_read paths 3 dir_in_walk), tt) (λ has. (behind_cat paths 8 (kept_in_read paths has), tt))
  walks_give (Stat path) paths answers no_id =
      read_walks (Stat path) paths (has_tail 104 2 (on_a_read paths) (in_read paths 2 lost_in_walk), tt)
      (has_tail 104 3 (on_a_read paths) (in_read paths 3 dir_in_walk), tt) (λ has. (has_tail 104 8 (on_a_read paths) (kept_in_read paths has), tt))
  walks_give (Readlink path) paths answers no_id =
      read_walks (Readlink path) paths (behind_link paths 2 (in_read paths 2 lost_in_walk), tt) (behind_link paths 3 (in_read paths 3 dir_in_walk), tt)
      (λ has. (behind_link paths 8 (kept_in_read paths has), tt))
  walks_give (Prune path) paths answers no_id = tree_walks (Prune path) paths (no_id refl) ((4, omega arith, refl), tt) ((5, omega arith, refl), tt)
  walks_give (PruneAll path) paths answers no_id = tree_walks (PruneAll path) paths (no_id refl) ((2, omega arith, refl), tt) ((3, omega arith, refl), tt)
  walks_give (PfsMaster path shared) paths answers no_id =
      tree_walks (PfsMaster path shared) paths (no_id refl) ((6, omega arith, refl), tt) ((7, omega arith, refl), tt)
  walks_give (PfsSlave path shared) paths answers no_id =
      tree_walks (PfsSlave path shared) paths (no_id refl) ((6, omega arith, refl), tt) ((7, omega arith, refl), tt)
  walks_give (PfsStatus path) paths answers no_id = tree_walks (PfsStatus path) paths (no_id refl) ((1, omega arith, refl), tt) ((2, omega arith, refl), tt)
  walks_give other paths answers no_id = absurd answers

  slaves_give : (command : Command) (paths : List Parsed) (test : Bool) → IsAnswerable command
      → OfCheck (MayGive command paths) (refuse_if (is_tree_call command && test) ReadOnly)
  slaves_give (Mkdir path) paths test answers = by_test (MayGive (Mkdir path) paths) test ReadOnly ((4, omega arith, refl), tt)
  slaves_give (Touch path) paths test answers = by_test (MayGive (Touch path) paths) test ReadOnly ((4, omega arith, refl), tt)
  slaves_give (Symlink target path) paths test answers = by_test (MayGive (Symlink target path) paths) test ReadOnly ((4, omega arith, refl), tt)
  slaves_give (Snapshot path) paths test answers = by_test (MayGive (Snapshot path) paths) test ReadOnly ((4, omega arith, refl), tt)
  slaves_give (Ln old new) paths test answers = by_test (MayGive (Ln old new) paths) test ReadOnly ((8, omega arith, refl), tt)
  slaves_give (Mv old new) paths test answers = by_test (MayGive (Mv old new) paths) test ReadOnly ((6, omega arith, refl), tt)
  slaves_give (Write path offset bytes) paths test answers =
      by_test (MayGive (Write path offset bytes) paths) test ReadOnly (behind_file (offset + length bytes) 7 (0, omega arith, refl), tt)
  slaves_give (Fill path offset count byte) paths test answers =
      by_test (MayGive (Fill path offset count byte) paths) test ReadOnly (behind_file (offset + count) 7 (0, omega arith, refl), tt)
  slaves_give (Truncate path size) paths test answers =
      by_test (MayGive (Truncate path size) paths) test ReadOnly (behind_file size 7 (0, omega arith, refl), tt)
  slaves_give (Rm path) paths test answers = by_test (MayGive (Rm path) paths) test ReadOnly ((3, omega arith, refl), tt)
  slaves_give (Rmdir path) paths test answers = by_test (MayGive (Rmdir path) paths) test ReadOnly ((2, omega arith, refl), tt)
  slaves_give (Ls path) paths test answers = tt
  slaves_give (Cat path offset count) paths test answers = tt
  slaves_give (Stat path) paths test answers = tt
  slaves_give (Readlink path) paths test answers = tt
  slaves_give (PfsMaster path shared) paths test answers = by_test (MayGive (PfsMaster path shared) paths) test ReadOnly ((5, omega arith, refl), tt)
  slaves_give (PfsSlave path shared) paths test answers = by_test (MayGive (PfsSlave path shared) paths) test ReadOnly ((5, omega arith, refl), tt)
  slaves_give (Prune path) paths test answers = tt
  slaves_give (PruneAll path) paths test answers = tt
  slaves_give (PfsStatus path) paths test answers = tt
  slaves_give other paths test answers = absurd answers

  -- where no name is made, no hash is looked at
  abbrev full_by : Command → List Parsed → Check
  full_by command paths =
      option_map_or (λ site. refuse_if (hash_is_full call site) HashFull) (new_name (uses_of command) (each_located call (uses_of command) paths)) None

  takes_none : (word : List ℕ) (paths : List Parsed)
      → new_name ((TakesName, word) ∷ []) (each_located call ((TakesName, word) ∷ []) paths) ≡ None
  takes_none word [] = refl
  takes_none word (path ∷ paths) = refl

  walks_none : (mode : Follow) (word : List ℕ) (paths : List Parsed)
      → new_name ((Walks mode, word) ∷ []) (each_located call ((Walks mode, word) ∷ []) paths) ≡ None
  walks_none mode word [] = refl
  walks_none mode word (path ∷ paths) = refl

  unmade : (command : Command) (paths : List Parsed) → new_name (uses_of command) (each_located call (uses_of command) paths) ≡ None
      → OfCheck (MayGive command paths) (full_by command paths)
  unmade command paths none = rw none tt

  hash_gives : (command : Command) (paths : List Parsed) → IsAnswerable command → OfCheck (MayGive command paths) (full_by command paths)
  hash_gives (Mkdir path) paths answers = full_check (Mkdir path) paths ((2, omega arith, refl), tt)
  hash_gives (Touch path) paths answers = full_check (Touch path) paths ((2, omega arith, refl), tt)
  hash_gives (Symlink target path) paths answers = full_check (Symlink target path) paths ((2, omega arith, refl), tt)
  hash_gives (Snapshot path) paths answers = full_check (Snapshot path) paths ((2, omega arith, refl), tt)
  hash_gives (Ln old new) paths answers = full_check (Ln old new) paths ((6, omega arith, refl), tt)
  hash_gives (Mv old new) paths answers = full_check (Mv old new) paths ((4, omega arith, refl), tt)
  hash_gives (Write path offset bytes) paths answers = unmade (Write path offset bytes) paths (walks_none Follows path paths)
  hash_gives (Fill path offset count byte) paths answers = unmade (Fill path offset count byte) paths (walks_none Follows path paths)
  hash_gives (Truncate path size) paths answers = unmade (Truncate path size) paths (walks_none Follows path paths)
  hash_gives (Rm path) paths answers = unmade (Rm path) paths (takes_none path paths)
  hash_gives (Rmdir path) paths answers = unmade (Rmdir path) paths (takes_none path paths)
  hash_gives (Ls path) paths answers = unmade (Ls path) paths (walks_none Follows path paths)
  hash_gives (Cat path offset count) paths answers = unmade (Cat path offset count) paths (walks_none Follows path paths)
  hash_gives (Stat path) paths answers = unmade (Stat path) paths (walks_none Stays path paths)
  hash_gives (Readlink path) paths answers = unmade (Readlink path) paths (walks_none Stays path paths)
  hash_gives (PfsMaster path shared) paths answers = full_check (PfsMaster path shared) paths ((3, omega arith, refl), tt)
  hash_gives (PfsSlave path shared) paths answers = full_check (PfsSlave path shared) paths ((3, omega arith, refl), tt)
  hash_gives (Prune path) paths answers = unmade (Prune path) paths (walks_none Follows path paths)
  hash_gives (PruneAll path) paths answers = unmade (PruneAll path) paths (walks_none TakesPfs path paths)
  hash_gives (PfsStatus path) paths answers = unmade (PfsStatus path) paths (walks_none TakesPfs path paths)
  hash_gives other paths answers = absurd answers

  -- ---- want of space, and what is accepted

  -- a command that asks for room
  abbrev asks_room : Command → Bool
  asks_room command = elim command [
    | Rmdir path ↦ false
    | Ls path ↦ false
    | Cat path offset count ↦ false
    | Stat path ↦ false
    | Readlink path ↦ false
    | PfsStatus path ↦ false
    | other ↦ true
  ]

  -- what it makes of a file is not too large, if that is what it does
  abbrev Fits : Command → Type 0
  Fits command = elim command as (λ c. Type 0) [
    | Write path offset bytes ↦ nat_lt MOST_FILE_BYTES (offset + length bytes) ≡ false
    | Fill path offset count byte ↦ nat_lt MOST_FILE_BYTES (offset + count) ≡ false
    | Truncate path size ↦ nat_lt MOST_FILE_BYTES size ≡ false
    | other ↦ Unit {0}
  ]

  -- so it is where none of its own checks fails
  file_fits : (a : Site) (end : ℕ) → first_refusal (no_dir call a ∷ a_file call a ∷ fits_file end ∷ []) ≡ None → nat_lt MOST_FILE_BYTES end ≡ false
  file_fits a end none =
      let after_kind = (no_rest (no_dir call a) (a_file call a ∷ fits_file end ∷ []) none).1 in
      by (nat_lt MOST_FILE_BYTES end) (no_rest (fits_file end) [] (no_rest (a_file call a) (fits_file end ∷ []) after_kind).1).0
    where
      by : (test : Bool) → refuse_if test TooBig ≡ None → test ≡ false
      by true is = absurd (cc)
      by false is = refl

  own_fits : (command : Command) (a b : Site) → first_refusal (own_checks_of call a b command) ≡ None → Fits command
  own_fits (Write path offset bytes) a b none = file_fits a (offset + length bytes) none
  own_fits (Fill path offset count byte) a b none = file_fits a (offset + count) none
  own_fits (Truncate path size) a b none = file_fits a size none
  own_fits other a b none = tt

  space_gives : (command : Command) (paths : List Parsed) (free needed : ℕ) → IsAnswerable command → Fits command → asks_room command ≡ true
      → MayGive command paths (NoSpace free needed)
  space_gives (Mkdir path) paths free needed answers fits asks = ((3, omega arith, refl), tt)
  space_gives (Touch path) paths free needed answers fits asks = ((3, omega arith, refl), tt)
  space_gives (Symlink target path) paths free needed answers fits asks = ((3, omega arith, refl), tt)
  space_gives (Snapshot path) paths free needed answers fits asks = ((3, omega arith, refl), tt)
  space_gives (Ln old new) paths free needed answers fits asks = ((7, omega arith, refl), tt)
  space_gives (Mv old new) paths free needed answers fits asks = ((5, omega arith, refl), tt)
  space_gives (Write path offset bytes) paths free needed answers fits asks = (file_lacks (offset + length bytes) fits, tt)
  space_gives (Fill path offset count byte) paths free needed answers fits asks = (file_lacks (offset + count) fits, tt)
  space_gives (Truncate path size) paths free needed answers fits asks = (file_lacks size fits, tt)
  space_gives (Rm path) paths free needed answers fits asks = ((2, omega arith, refl), tt)
  space_gives (Rmdir path) paths free needed answers fits asks = absurd (cc)
  space_gives (Ls path) paths free needed answers fits asks = absurd (cc)
  space_gives (Cat path offset count) paths free needed answers fits asks = absurd (cc)
  space_gives (Stat path) paths free needed answers fits asks = absurd (cc)
  space_gives (Readlink path) paths free needed answers fits asks = absurd (cc)
  space_gives (Prune path) paths free needed answers fits asks = ((3, omega arith, refl), tt)
  space_gives (PruneAll path) paths free needed answers fits asks = ((1, omega arith, refl), tt)
  space_gives (PfsMaster path shared) paths free needed answers fits asks = ((4, omega arith, refl), tt)
  space_gives (PfsSlave path shared) paths free needed answers fits asks = ((4, omega arith, refl), tt)
  space_gives (PfsStatus path) paths free needed answers fits asks = absurd (cc)
  space_gives other paths free needed answers fits asks = absurd answers

  abbrev zones_by : Command → List ℕ
  zones_by command = elim command as (λ c. List ℕ) [
    | Mv old new ↦ if stays_put call then [] else names_zones
    | Write path offset bytes ↦ bytes_zones
    | Fill path offset count byte ↦ bytes_zones
    | Truncate path size ↦ if has_other_size call size then bytes_zones else []
    | Rm path ↦ if has_other_link call then names_zones else []
    | Mkdir path ↦ names_zones
    | Touch path ↦ names_zones
    | Symlink target path ↦ names_zones
    | Snapshot path ↦ names_zones
    | Ln old new ↦ names_zones
    | PfsMaster path shared ↦ names_zones
    | PfsSlave path shared ↦ names_zones
    | Prune path ↦ names_zones
    | PruneAll path ↦ names_zones
    | other ↦ []
  ]

  -- one that asks for none lacks none
  room_asked : (command : Command) (room : ℕ → ℕ) (left : ℕ) → IsAnswerable command → left < lacking (zones_by command) room
      → asks_room command ≡ true
  room_asked (Mkdir path) room left answers less = refl
  room_asked (Touch path) room left answers less = refl
  room_asked (Symlink target path) room left answers less = refl
  room_asked (Snapshot path) room left answers less = refl
  room_asked (Ln old new) room left answers less = refl
  room_asked (Mv old new) room left answers less = refl
  room_asked (Write path offset bytes) room left answers less = refl
  room_asked (Fill path offset count byte) room left answers less = refl
  room_asked (Truncate path size) room left answers less = refl
  room_asked (Rm path) room left answers less = refl
  room_asked (Rmdir path) room left answers less = absurd (omega (arith, less))
  room_asked (Ls path) room left answers less = absurd (omega (arith, less))
  room_asked (Cat path offset count) room left answers less = absurd (omega (arith, less))
  room_asked (Stat path) room left answers less = absurd (omega (arith, less))
  room_asked (Readlink path) room left answers less = absurd (omega (arith, less))
  room_asked (Prune path) room left answers less = refl
  room_asked (PruneAll path) room left answers less = refl
  room_asked (PfsMaster path shared) room left answers less = refl
  room_asked (PfsSlave path shared) room left answers less = refl
  room_asked (PfsStatus path) room left answers less = absurd (omega (arith, less))
  room_asked other room left answers less = absurd answers

  abbrev shown : FileTree
  shown = call.view (first_site call).at.pfs (first_site call).at.when

  abbrev at_by : Command → Object → Reply
  at_by command object = elim command as (λ c. Reply) [
    | Ls path ↦ Listing (listing shown object.number)
    | Cat path offset count ↦ Bytes (read_at offset count (file_bytes object.content))
    | Stat path ↦ Status (kind_number object.kind) object.number (size_of shown object) object.links
    | Readlink path ↦ Text (target_of call.volume object.content)
    | other ↦ Done
  ]

  abbrev there_by : Command → Reply
  there_by command = option_map_or (at_by command) (site_object call (first_site call)) NotFound

  abbrev answer_by : Command → Reply
  answer_by command = elim command as (λ c. Reply) [
    | PfsStatus path ↦ option_map_or record_of (site_system call (first_site call)) NotFound
    | other ↦ there_by command
  ]

  abbrev accepted_by : Command → Reply
  accepted_by command = elim command as (λ c. Reply) [
    | Ls path ↦ answer_by command
    | Cat path offset count ↦ answer_by command
    | Stat path ↦ answer_by command
    | Readlink path ↦ answer_by command
    | PfsStatus path ↦ answer_by command
    | PfsMaster path shared ↦ MadePfs (record { 0 = new_pfs call.volume })
    | PfsSlave path shared ↦ MadePfs (record { 0 = new_pfs call.volume })
    | other ↦ Done
  ]

  accepted_gives : (command : Command) (paths : List Parsed) → IsAnswerable command → Fits command → MayGive command paths (accepted_by command)
  accepted_gives (Ls path) paths answers fits =
      of_option (MayGive (Ls path) paths) (at_by (Ls path)) (site_object call (first_site call)) NotFound (λ o. ((0, omega arith, refl), tt))
      (has_tail 102 2 (on_a_read paths) (in_read paths 2 lost_in_walk), tt)
  accepted_gives (Cat path offset count) paths answers fits =
      of_option (MayGive (Cat path offset count) paths) (at_by (Cat path offset count)) (site_object call (first_site call)) NotFound
      (λ o. ((0, omega arith, refl), tt)) (behind_cat paths 2 (in_read paths 2 lost_in_walk), tt)
  accepted_gives (Stat path) paths answers fits =
      of_option (MayGive (Stat path) paths) (at_by (Stat path)) (site_object call (first_site call)) NotFound (λ o. ((0, omega arith, refl), tt))
      (has_tail 104 2 (on_a_read paths) (in_read paths 2 lost_in_walk), tt)
  accepted_gives (Readlink path) paths answers fits =
      of_option (MayGive (Readlink path) paths) (at_by (Readlink path)) (site_object call (first_site call)) NotFound (λ o. ((0, omega arith, refl), tt))
      (behind_link paths 2 (in_read paths 2 lost_in_walk), tt)
  accepted_gives (Mkdir path) paths answers fits = ((0, omega arith, refl), tt)
  accepted_gives (Touch path) paths answers fits = ((0, omega arith, refl), tt)
  accepted_gives (Symlink target path) paths answers fits = ((0, omega arith, refl), tt)
  accepted_gives (Snapshot path) paths answers fits = ((0, omega arith, refl), tt)
  accepted_gives (Ln old new) paths answers fits = ((0, omega arith, refl), tt)
  accepted_gives (Mv old new) paths answers fits = ((0, omega arith, refl), tt)
  accepted_gives (Write path offset bytes) paths answers fits = (file_accepted (offset + length bytes) fits, tt)
  accepted_gives (Fill path offset count byte) paths answers fits = (file_accepted (offset + count) fits, tt)
  accepted_gives (Truncate path size) paths answers fits = (file_accepted size fits, tt)
  accepted_gives (Rm path) paths answers fits = ((0, omega arith, refl), tt)
  accepted_gives (Rmdir path) paths answers fits = ((0, omega arith, refl), tt)
  accepted_gives (Prune path) paths answers fits = ((0, omega arith, refl), tt)
  accepted_gives (PruneAll path) paths answers fits = ((0, omega arith, refl), tt)
  accepted_gives (PfsMaster path shared) paths answers fits = ((0, omega arith, refl), tt)
  accepted_gives (PfsSlave path shared) paths answers fits = ((0, omega arith, refl), tt)
  accepted_gives (PfsStatus path) paths answers fits =
      of_option (MayGive (PfsStatus path) paths) record_of (site_system call (first_site call)) NotFound (λ s. ((0, omega arith, refl), tt))
      ((1, omega arith, refl), tt)
  accepted_gives other paths answers fits = absurd answers

  -- the check of intervals
  abbrev intervals_by : Command → Check
  intervals_by command = elim command as (λ c. Check) [
    | Prune path ↦ refuse_if (nat_lt MOST_INTERVALS (pruned_count call)) (TooManyIntervals (min (pruned_count call) (2 ^ 32 - 1)))
    | other ↦ None
  ]

  intervals_give : (command : Command) (paths : List Parsed) → IsAnswerable command → OfCheck (MayGive command paths) (intervals_by command)
  intervals_give (Prune path) paths answers = by_test (MayGive (Prune path) paths) _ _ ((2, omega arith, refl), tt)
  intervals_give other paths answers = tt

  -- ---- the cause

  abbrev early : List Check
  early = early_checks call.volume.last call.busy call.command call.paths

  abbrev on_walks : List Check
  on_walks = map walks (all_located call)

  abbrev own : List Check
  own = slaves_stay call ∷ own_checks call

  abbrev last : List Check
  last = hash_left call ∷ intervals_left call ∷ []

  module _ (answers : IsAnswerable call.command) (left : call.volume.last < GREATEST_ID) where
    abbrev Gives : Reply → Type 0
    Gives = MayGive call.command call.paths

    ids_pass : ids_left call ≡ None
    ids_pass =
        let no : nat_le GREATEST_ID call.volume.last ≡ false = grind (arith, nat_tests, left) in
        rw no refl

    refusal_is : refusal call ≡ first_refusal (((early ++ on_walks) ++ own) ++ last)
    refusal_is = rw ids_pass refl

    -- where none fails, what is made of a file is not too large
    fits : refusal call ≡ None → Fits call.command
    fits none =
        let all : first_refusal (((early ++ on_walks) ++ own) ++ last) ≡ None = sym refusal_is ∙ none in
        let before_last = (no_first ((early ++ on_walks) ++ own) last all).0 in
        own_fits call.command (first_site call) (second_site call)
        (no_rest (slaves_stay call) (own_checks call) (no_first (early ++ on_walks) own before_last).1).1

    -- an early check that fails is the refusal
    early_refuses : (r : Reply) → first_refusal early ≡ Some r → refusal call ≡ Some r
    early_refuses r is =
        refusal_is ∙ first_front ((early ++ on_walks) ++ own) last r (first_front (early ++ on_walks) own r (first_front early on_walks r is))

    not_refused : (test : Bool) (reply : Reply) → refuse_if test reply ≡ None → test ≡ false
    not_refused true reply is = absurd (cc)
    not_refused false reply is = refl

    -- where none fails, no path of a call on a tree or a PFS has an id
    no_id : first_refusal early ≡ None → (is_tree_call call.command || is_pfs_call call.command) ≡ true → list_any has_id call.paths ≡ false
    no_id none acts =
        let after_open = (no_rest (none_open call.busy call.command) _ none).1 in
        let good : List Check = good_paths (uses_of call.command) call.paths in
        let futures : List Check = map (no_future call.volume.last) call.paths in
        let ends = (no_first (good ++ futures) (no_future_begin call.volume.last call.command ∷ past_stays call.command call.paths ∷ []) after_open).1 in
        let past = (no_rest (past_stays call.command call.paths) []
        (no_rest (no_future_begin call.volume.last call.command) (past_stays call.command call.paths ∷ []) ends).1).0 in
        let failed = not_refused ((is_tree_call call.command || is_pfs_call call.command) && list_any has_id call.paths) ReadOnly past in
        (λ t. sym acts t && list_any has_id call.paths) ∙ failed

    -- and a refusal is one that the call can give
    later_give : first_refusal early ≡ None → (r : Reply) → refusal call ≡ Some r → Gives r
    later_give none r is = by_last (first_split ((early ++ on_walks) ++ own) last r (sym refusal_is ∙ is)) where
      of_first : (checks : List Check) → OfAll Gives checks → first_refusal checks ≡ Some r → Gives r
      of_first checks all found = subst (OfCheck Gives) found (first_of_all Gives checks all)

      by_own : (first_refusal (early ++ on_walks) ≡ Some r) ⊎ (first_refusal own ≡ Some r) → Gives r
      by_own (inr found) =
          of_first own (
            slaves_give call.command call.paths (list_any (is_in_slave call) (all_located call)) answers,
            rest call.command call.paths (first_site call) (second_site call) answers,
          ) found
      by_own (inl found) = elim (first_split early on_walks r found) [
        | inl early_found ↦ absurd (let lost : None ≡ Some r = sym none ∙ early_found in cc)
        | inr walk_found ↦ of_first on_walks (walks_give call.command call.paths answers (no_id none)) walk_found
      ]

      by_last : (first_refusal ((early ++ on_walks) ++ own) ≡ Some r) ⊎ (first_refusal last ≡ Some r) → Gives r
      by_last (inr found) =
          of_first last (hash_gives call.command call.paths answers, (intervals_give call.command call.paths answers, tt)) found
      by_last (inl found) = by_own (first_split (early ++ on_walks) own r found)

    module _ (room : ℕ → ℕ) (free : ℕ) (reply : Reply) (due : reply ≡ due_over call room free) where
      pub possible_is : IsPossible (first_refusal early) (possible call.command call.paths) reply × IsPlain reply
      possible_is = by (first_refusal early) refl where
        in_way : first_refusal early ≡ None → Way call room free → Gives reply
        in_way none (refused r is same) = subst Gives (sym (due ∙ same)) (later_give none r is)
        in_way none (lacks unrefused less same) =
            subst Gives (sym (due ∙ same))
            (space_gives call.command call.paths free (lacking (zones_of call) room) answers (fits unrefused)
            (room_asked call.command room (free - held_of call.command) answers less))
        in_way none (serves unrefused same) = subst Gives (sym (due ∙ same)) (accepted_gives call.command call.paths answers (fits unrefused))

        by_way : (r : Reply) → first_refusal early ≡ Some r → Way call room free → reply ≡ r
        by_way r is (refused other found same) = due ∙ (same ∙ (let one : Some other ≡ Some r = sym found ∙ early_refuses r is in cc))
        by_way r is (lacks none less same) = absurd (let lost : None ≡ Some r = sym none ∙ early_refuses r is in cc)
        by_way r is (serves none same) = absurd (let lost : None ≡ Some r = sym none ∙ early_refuses r is in cc)

        by : (found : Check) → first_refusal early ≡ found → IsPossible found (possible call.command call.paths) reply × IsPlain reply
        by None none = in_way none (way call room free)
        by (Some r) is =
            let same : reply ≡ r = by_way r is (way call room free) in (
              inl same,
              subst IsPlain (sym same) (subst (OfCheck IsPlain) is (first_of_all IsPlain early
                  (early_plain call.volume.last call.busy call.command call.paths answers))),
            )
