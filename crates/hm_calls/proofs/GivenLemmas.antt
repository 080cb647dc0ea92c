-- Which numbers of replies a call can give.
use Rattle.std.proofs.Common.{◌≡◌, ℕ, Bool, true, false, List, [], ◌∷◌, None, Some, sym, subst, refl, arith}
use Rattle.std.specs.Prelude.{if◌then◌else◌}
use Rattle.std.specs.Bool.{nat_lt}
use Rattle.std.specs.List.{Contains, list_any}
use Rattle.hm_types.specs.declared.limits.TheConstants.{MOST_FILE_BYTES}
use Rattle.hm_path.specs.declared.part.Part.{Part}
use Rattle.hm_model.specs.Caused.{number_of, on_a_change, on_a_file, on_a_name, on_a_read, on_a_walk, possible}
use Rattle.hm_model.specs.Due.{Check, fits_file, good_path, has_id, has_its_name, no_future, past_stays, refuse_if}
use Rattle.hm_model.specs.Sites.{BadAt, Parsed, Parts, Use}
use Rattle.hm_model.specs.declared.command.Command.{Command}
use Rattle.hm_model.specs.declared.reply.Reply.{Reply}
use Rattle.hm_model.specs.declared.reply.Reply.TheVariants.{BadPath, Future, NoSpace, NotDir, NotFound, NotRetained, ReadOnly, TooBig}
use Rattle.hm_model.proofs.DueLemmas.{of_test}
use Rattle.hm_records.proofs.MemberLemmas.{has_tail}
use Rattle.hm_calls.specs.Edits.{command_for, end_of}
use Rattle.hm_calls.specs.New.{command_by}
use Rattle.hm_calls.specs.Places.{IsBadPath}
use Rattle.hm_calls.specs.Possible.{IsLost, IsNoSpace, IsOwn}
use Rattle.hm_calls.specs.declared.edit.Edit.{Edit}
use Rattle.hm_calls.specs.declared.edit.Edit.TheVariants.{Fill, Truncate, Write}
use Rattle.hm_calls.specs.declared.new.New.{New}
use Rattle.hm_calls.specs.declared.new.New.TheVariants.{Directory, File, Snapshot, Softlink}
pub use Rattle.hm_calls.specs.Stages.{IsAmong}

-- ---- replies by their numbers

-- the refusals of a walk, that for want of space, and one that is known
pub lost_among : (numbers : List ℕ) (ids : Bool) → Contains numbers 2 → Contains numbers 3 → (ids ≡ true → Contains numbers 8)
    → (reply : Reply) → IsLost ids reply → IsAmong numbers reply
lost_among numbers ids lost no_directory kept NotFound is = record { own = tt; listed = lost }
lost_among numbers ids lost no_directory kept NotDir is = record { own = tt; listed = no_directory }
lost_among numbers ids lost no_directory kept NotRetained is = record { own = tt; listed = kept is }
lost_among numbers ids lost no_directory kept other is = absurd is

pub space_among : (numbers : List ℕ) → Contains numbers 20 → (reply : Reply) → IsNoSpace reply → IsAmong numbers reply
space_among numbers lacks (NoSpace free needed) is = record { own = tt; listed = lacks }
space_among numbers lacks other is = absurd is

pub one_among : (numbers : List ℕ) (refusal : Reply) → IsOwn refusal → Contains numbers (number_of refusal) → (reply : Reply) → reply ≡ refusal
    → IsAmong numbers reply
one_among numbers refusal own has reply is = subst (IsAmong numbers) (sym is) (record { own = own; listed = has })

-- ---- the refusals of the early checks

-- a check refuses by a call's own reply
abbrev pub RefusesOwn : Check → Type 0
RefusesOwn (Some refusal) = IsOwn refusal
RefusesOwn None = Unit {0}

pub refusal_own : (check : Check) → RefusesOwn check → (reply : Reply) → check ≡ Some reply → IsOwn reply
refusal_own check own reply is = subst RefusesOwn is own

pub tested_own : (test : Bool) (refusal : Reply) → IsOwn refusal → RefusesOwn (refuse_if test refusal)
tested_own true refusal own = own
tested_own false refusal own = tt

pub bad_own : (word : List ℕ) (reply : Reply) → IsBadPath word reply → IsOwn reply
bad_own word reply bad = subst IsOwn (sym bad.1) tt

pub good_own : (u : Use) (path : Parsed) → RefusesOwn (good_path u path)
good_own u (BadAt place) = tt
good_own u (Parts parts) = by (has_its_name u parts) where
  by : (test : Bool) → RefusesOwn (if test then None else Some (BadPath 0))
  by true = tt
  by false = tt

pub future_own : (last : ℕ) (path : Parsed) → RefusesOwn (no_future last path)
future_own last path = tested_own _ (Future (record { 0 = last })) tt

pub past_own : (command : Command) (paths : List Parsed) → RefusesOwn (past_stays command paths)
past_own command paths = tested_own _ ReadOnly tt

-- ---- the lists of commands

-- the refusals of any walk are among those of a read
pub in_read : (paths : List Parsed) (n : ℕ) → Contains on_a_walk n → Contains (on_a_read paths) n
in_read paths n has = of_test (λ (l : List ℕ). Contains l n) (list_any has_id paths) (8 ∷ on_a_walk) on_a_walk (has_tail 8 n on_a_walk has) has

pub kept_in_read : (paths : List Parsed) → list_any has_id paths ≡ true → Contains (on_a_read paths) 8
kept_in_read paths has = rw has (0, omega arith, refl)

pub lost_in_walk : Contains on_a_walk 2
lost_in_walk = (0, omega arith, refl)

pub dir_in_walk : Contains on_a_walk 3
dir_in_walk = (1, omega arith, refl)

-- of what a `cat` or a `readlink` can give those of a read come last
pub behind_cat : (paths : List Parsed) (n : ℕ) → Contains (on_a_read paths) n → Contains (103 ∷ 4 ∷ 32 ∷ on_a_read paths) n
behind_cat paths n has = has_tail 103 n (4 ∷ 32 ∷ on_a_read paths) (has_tail 4 n (32 ∷ on_a_read paths) (has_tail 32 n (on_a_read paths) has))

pub behind_link : (paths : List Parsed) (n : ℕ) → Contains (on_a_read paths) n → Contains (105 ∷ 31 ∷ on_a_read paths) n
behind_link paths n has = has_tail 105 n (31 ∷ on_a_read paths) (has_tail 31 n (on_a_read paths) has)

-- of what a call can give that changes a file up to an end, those of any change come last
pub behind_file : (end n : ℕ) → Contains on_a_change n → Contains (on_a_file end) n
behind_file end n has =
    has_tail 4 n (32 ∷ by_end) (has_tail 32 n by_end (of_test (λ (l : List ℕ). Contains l n) (nat_lt MOST_FILE_BYTES end) (10 ∷ on_a_change)
    (101 ∷ 20 ∷ on_a_change) (has_tail 10 n on_a_change has) (has_tail 101 n (20 ∷ on_a_change) (has_tail 20 n on_a_change has))))
  where
    by_end : List ℕ
    by_end = if nat_lt MOST_FILE_BYTES end then 10 ∷ on_a_change else 101 ∷ 20 ∷ on_a_change

-- a file may be too large, and else the call may be accepted, or lack space
abbrev by_size : Bool → List ℕ
by_size large = 4 ∷ 32 ∷ (if large then 10 ∷ on_a_change else 101 ∷ 20 ∷ on_a_change)

pub too_large : (end : ℕ) → nat_lt MOST_FILE_BYTES end ≡ true → Contains (on_a_file end) 10
too_large end is = subst (λ (large : Bool). Contains (by_size large) 10) (sym is) (2, omega arith, refl)

pub file_accepted : (end : ℕ) → nat_lt MOST_FILE_BYTES end ≡ false → Contains (on_a_file end) 101
file_accepted end is = subst (λ (large : Bool). Contains (by_size large) 101) (sym is) (2, omega arith, refl)

pub file_lacks : (end : ℕ) → nat_lt MOST_FILE_BYTES end ≡ false → Contains (on_a_file end) 20
file_lacks end is = subst (λ (large : Bool). Contains (by_size large) 20) (sym is) (3, omega arith, refl)

-- the refusal of a file that is too large, where none is told there is no such one
pub large_among : (end : ℕ) (reply : Reply) → fits_file end ≡ Some reply → IsAmong (on_a_file end) reply
large_among end reply is = by (nat_lt MOST_FILE_BYTES end) refl where
  by : (large : Bool) → nat_lt MOST_FILE_BYTES end ≡ large → IsAmong (on_a_file end) reply
  by true large =
      let same : TooBig ≡ reply = let one : Some TooBig ≡ Some reply = rw large at is in cc in
      subst (IsAmong (on_a_file end)) same (record { own = tt; listed = too_large end large })
  by false small = absurd (let lost : None ≡ Some reply = rw small at is in cc)

pub not_large : (end : ℕ) → fits_file end ≡ None → nat_lt MOST_FILE_BYTES end ≡ false
not_large end is = by (nat_lt MOST_FILE_BYTES end) refl where
  by : (large : Bool) → nat_lt MOST_FILE_BYTES end ≡ large → nat_lt MOST_FILE_BYTES end ≡ false
  by true large = absurd (let lost : Some TooBig ≡ None = rw large at is in cc)
  by false small = small

-- the calls that make an object, and those that change the bytes of a file
pub made_numbers : (new : New) (word : List ℕ) (paths : List Parsed) → possible (command_by new word) paths ≡ 101 ∷ on_a_name
made_numbers Directory word paths = refl
made_numbers File word paths = refl
made_numbers (Softlink target) word paths = refl
made_numbers Snapshot word paths = refl

pub edit_numbers : (edit : Edit) (word : List ℕ) (paths : List Parsed) → possible (command_for edit word) paths ≡ on_a_file (end_of edit)
edit_numbers (Write offset bytes) word paths = refl
edit_numbers (Fill offset count byte) word paths = refl
edit_numbers (Truncate size) word paths = refl

pub made_has : (new : New) (word : List ℕ) (paths : List Parsed) (n : ℕ) → Contains (101 ∷ on_a_name) n
    → Contains (possible (command_by new word) paths) n
made_has new word paths n = subst (λ (numbers : List ℕ). Contains numbers n) (sym (made_numbers new word paths))

pub edit_has : (edit : Edit) (word : List ℕ) (paths : List Parsed) (n : ℕ) → Contains (on_a_file (end_of edit)) n
    → Contains (possible (command_for edit word) paths) n
edit_has edit word paths n = subst (λ (numbers : List ℕ). Contains numbers n) (sym (edit_numbers edit word paths))

pub edit_large : (edit : Edit) (word : List ℕ) (paths : List Parsed) (reply : Reply) → fits_file (end_of edit) ≡ Some reply
    → IsAmong (possible (command_for edit word) paths) reply
edit_large edit word paths reply is =
    subst (λ (numbers : List ℕ). IsAmong numbers reply) (sym (edit_numbers edit word paths)) (large_among (end_of edit) reply is)

-- a path with an id is one of a read
pub kept_one : (parts : List Part) → has_id (Parts parts) ≡ true → Contains (on_a_read (Parts parts ∷ [])) 8
kept_one parts some = kept_in_read (Parts parts ∷ []) (rw some refl)
