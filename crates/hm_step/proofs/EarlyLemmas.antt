-- The refusals that the words of a call alone decide are plain, and so is each reply that a call may have by its words.
use Rattle.std.proofs.Common.{◌≡◌, ℕ, Bool, true, false, List, [], ◌∷◌, ◌++◌, map, length, refl, sym, subst, inl, inr}
use Rattle.std.specs.Prelude.{Option, None, Some, ◌+◌, ◌==◌, ◌||◌, if◌then◌else◌}
use Rattle.std.specs.Bool.{nat_lt}
use Rattle.std.specs.List.{Contains, list_any}
use Rattle.std.specs.Option.{option_map_or}
use Rattle.std.proofs.lemmas.Bool.{false≢true}
use Rattle.hm_types.specs.declared.limits.TheConstants.{MOST_FILE_BYTES}
use Rattle.hm_model.specs.Caused.{IsPossible, at_any_point, number_of, on_a_change, on_a_file, on_a_read, on_a_walk, possible}
use Rattle.hm_model.specs.Due.{Check, early_checks, first_refusal, good_path, good_paths, has_id, has_its_name, is_pass, no_future, no_future_begin, past_stays}
use Rattle.hm_model.specs.Reply.{told_boundary}
use Rattle.hm_model.specs.Sites.{BadAt, Parsed, Parts, ReadsWords, Use, uses_of}
use Rattle.hm_model.specs.declared.command.Command.{Command}
use Rattle.hm_model.specs.declared.command.Command.TheVariants.{Cat, Fill, Truncate, Write, Ln, Ls, Mkdir, Mv, Readlink, Rm, Rmdir, Snapshot, Stat}
use Rattle.hm_model.specs.declared.command.Command.TheVariants.{Symlink, Touch, PfsMaster, PfsSlave, PfsStatus, Prune, PruneAll}
use Rattle.hm_model.specs.declared.reply.Reply.{Reply}
use Rattle.hm_model.specs.declared.reply.Reply.TheVariants.{BadPath, Busy, Cut, Damaged, Future, Media, Passed, ReadOnly, StreamFault, Synced}
use Rattle.hm_model.proofs.DueLemmas.{of_test}
use Rattle.hm_model.proofs.EffectLemmas.{or_false}
use Rattle.hm_records.proofs.MemberLemmas.{has_cases, has_none}
use Rattle.hm_calls.specs.Answered.{IsAnswerable}
use Rattle.hm_calls.specs.Possible.{IsOwn, MayReply}
use Rattle.hm_step.proofs.GivenLemmas.{IsPlain, by_option, by_test, unless_test}
use Rattle.hm_step.proofs.PossibleLemmas.{OfAll, OfCheck, all_both, first_of_all}

module _ (last : ℕ) (busy : Option ℕ) (command : Command) (paths : List Parsed) (answers : IsAnswerable command) where
  goods_plain : (uses : List (Use × List ℕ)) (paths : List Parsed) → OfAll IsPlain (good_paths uses paths)
  goods_plain [] paths = tt
  goods_plain (u ∷ uses) [] = tt
  goods_plain (u ∷ uses) (path ∷ paths) = (good_plain u.0 path, goods_plain uses paths) where
    good_plain : (v : Use) (path : Parsed) → OfCheck IsPlain (good_path v path)
    good_plain v (BadAt place) = tt
    good_plain v (Parts parts) = unless_test IsPlain (has_its_name v parts) (BadPath 0) tt

  futures_plain : (paths : List Parsed) → OfAll IsPlain (map (no_future last) paths)
  futures_plain [] = tt
  futures_plain (path ∷ paths) = (by_test IsPlain _ (Future (record { 0 = last })) tt, futures_plain paths)

  begin_plain : (command : Command) → IsAnswerable command → OfCheck IsPlain (no_future_begin last command)
  begin_plain (Mkdir path) answers = tt
  begin_plain (Touch path) answers = tt
  begin_plain (Symlink target path) answers = tt
  begin_plain (Snapshot path) answers = tt
  begin_plain (Ln old new) answers = tt
  begin_plain (Mv old new) answers = tt
  begin_plain (Write path offset bytes) answers = tt
  begin_plain (Fill path offset count byte) answers = tt
  begin_plain (Truncate path size) answers = tt
  begin_plain (Rm path) answers = tt
  begin_plain (Rmdir path) answers = tt
  begin_plain (Ls path) answers = tt
  begin_plain (Cat path offset count) answers = tt
  begin_plain (Stat path) answers = tt
  begin_plain (Readlink path) answers = tt
  begin_plain (Prune path) answers = tt
  begin_plain (PruneAll path) answers = tt
  begin_plain (PfsMaster path shared) answers = tt
  begin_plain (PfsSlave path shared) answers = tt
  begin_plain (PfsStatus path) answers = tt
  begin_plain other answers = absurd answers

  -- each early refusal is plain
  pub early_plain : OfAll IsPlain (early_checks last busy command paths)
  early_plain =
      let good : List Check = good_paths (uses_of command) paths in
      let futures : List Check = map (no_future last) paths in (
        open_plain (is_pass command),
        all_both IsPlain (good ++ futures) (no_future_begin last command ∷ past_stays command paths ∷ [])
            (all_both IsPlain good futures (goods_plain (uses_of command) paths) (futures_plain paths))
            (begin_plain command answers, (by_test IsPlain _ ReadOnly tt, tt)),
      )
    where
      open_plain : (test : Bool) → OfCheck IsPlain (if test then option_map_or (λ opening. Some (Busy (record { 0 = opening }))) busy None else None)
      open_plain true = by_option IsPlain (λ opening. Some (Busy (record { 0 = opening }))) busy (λ opening. tt)
      open_plain false = tt

-- ---- the replies that tell more

-- whether a number is that of a reply which tells a boundary, the faults of a stream, ids, or a count
abbrev tells_more : ℕ → Bool
tells_more n = (n == 106) || (n == 28) || (n == 111) || (n == 112)

plain_of : (reply : Reply) → IsOwn reply → tells_more (number_of reply) ≡ false → IsPlain reply
plain_of (Media before after) own is = absurd own
plain_of (Damaged at kind) own is = absurd own
plain_of (Synced boundary) own is = absurd (false≢true (sym is))
plain_of (StreamFault before after) own is = absurd (false≢true (sym is))
plain_of (Passed begin end) own is = absurd (false≢true (sym is))
plain_of (Cut items) own is = absurd (false≢true (sym is))
plain_of other own is = tt

plain_tells_none : (reply : Reply) → IsPlain reply → told_boundary reply ≡ None
plain_tells_none (Synced boundary) plain = absurd plain
plain_tells_none other plain = refl

-- whether such a number is among some
abbrev has_more : List ℕ → Bool
has_more numbers = list_any tells_more numbers

untold : (numbers : List ℕ) → has_more numbers ≡ false → (n : ℕ) → Contains numbers n → tells_more n ≡ false
untold [] none n has = absurd (has_none n has)
untold (m ∷ numbers) none n has =
    let both = or_false (tells_more m) (has_more numbers) none in
    elim (has_cases m n numbers has) [
      | inl first ↦ subst (λ (k : ℕ). tells_more k ≡ false) (sym first) both.0
      | inr rest ↦ untold numbers both.1 n rest
    ]

read_untold : (front : List ℕ) (paths : List Parsed) → has_more (front ++ 8 ∷ on_a_walk) ≡ false → has_more (front ++ on_a_walk) ≡ false
    → has_more (front ++ on_a_read paths) ≡ false
read_untold front paths with_id without =
    of_test (λ (l : List ℕ). has_more (front ++ l) ≡ false) (list_any has_id paths) (8 ∷ on_a_walk) on_a_walk with_id without

file_untold : (end : ℕ) → has_more (on_a_file end) ≡ false
file_untold end =
    of_test (λ (l : List ℕ). has_more (4 ∷ 32 ∷ l) ≡ false) (nat_lt MOST_FILE_BYTES end) (10 ∷ on_a_change) (101 ∷ 20 ∷ on_a_change) refl refl

-- no call on names or on the bytes of files gives one
possible_untold : (command : Command) (paths : List Parsed) → IsAnswerable command → has_more (possible command paths) ≡ false
possible_untold (Mkdir path) paths answers = refl
possible_untold (Touch path) paths answers = refl
possible_untold (Symlink target path) paths answers = refl
possible_untold (Snapshot path) paths answers = refl
possible_untold (Ln old new) paths answers = refl
possible_untold (Mv old new) paths answers = refl
possible_untold (Write path offset bytes) paths answers = file_untold (offset + length bytes)
possible_untold (Fill path offset count byte) paths answers = file_untold (offset + count)
possible_untold (Truncate path size) paths answers = file_untold size
possible_untold (Rm path) paths answers = refl
possible_untold (Rmdir path) paths answers = refl
possible_untold (Ls path) paths answers = read_untold (102 ∷ []) paths refl refl
possible_untold (Cat path offset count) paths answers = read_untold (103 ∷ 4 ∷ 32 ∷ []) paths refl refl
possible_untold (Stat path) paths answers = read_untold (104 ∷ []) paths refl refl
possible_untold (Readlink path) paths answers = read_untold (105 ∷ 31 ∷ []) paths refl refl
possible_untold (Prune path) paths answers = refl
possible_untold (PruneAll path) paths answers = refl
possible_untold (PfsMaster path shared) paths answers = refl
possible_untold (PfsSlave path shared) paths answers = refl
possible_untold (PfsStatus path) paths answers = refl
possible_untold other paths answers = absurd answers

-- each reply that a call may have by its words is plain
pub may_plain : (last : ℕ) (busy : Option ℕ) (command : Command) (paths : List Parsed) (reply : Reply) → IsAnswerable command
    → ReadsWords command paths → MayReply last busy command reply → IsPlain reply
may_plain last busy command paths reply answers reads may = by (first_refusal early) refl (may.listed paths reads) where
  early : List Check
  early = early_checks last busy command paths

  by : (found : Check) → first_refusal early ≡ found → IsPossible found (possible command paths) reply → IsPlain reply
  by (Some refusal) is (inl same) =
      subst IsPlain (sym same) (subst (OfCheck IsPlain) is (first_of_all IsPlain early (early_plain last busy command paths answers)))
  by (Some refusal) is (inr free) = plain_of reply may.own (untold at_any_point refl (number_of reply) free)
  by None is has = plain_of reply may.own (untold (possible command paths) (possible_untold command paths answers) (number_of reply) has)

pub no_boundary : (last : ℕ) (busy : Option ℕ) (command : Command) (paths : List Parsed) (reply : Reply) → IsAnswerable command
    → ReadsWords command paths → MayReply last busy command reply → told_boundary reply ≡ None
no_boundary last busy command paths reply answers reads may =
    plain_tells_none reply (may_plain last busy command paths reply answers reads may)
