-- Which replies a call can give.
use Rattle.std.proofs.Common.{◌+◌, Bool, true, false, List, length, refl, sym, subst, inl, inr, arith}
use Rattle.std.specs.Prelude.{Option, None, Some, if◌then◌else◌}
use Rattle.std.specs.List.{Contains}
use Rattle.std.specs.Option.{option_map_or}
use Rattle.hm_model.specs.Caused.{IsPossible, number_of, on_a_read, possible}
use Rattle.hm_model.specs.Due.{Check, refuse_if}
use Rattle.hm_model.specs.Sites.{Parsed}
use Rattle.hm_model.specs.declared.command.Command.{Command}
use Rattle.hm_model.specs.declared.command.Command.TheVariants.{Cat, Fill, Truncate, Write, Ln, Ls, Mkdir, Mv, Readlink, Rm, Rmdir, Snapshot, Stat}
use Rattle.hm_model.specs.declared.command.Command.TheVariants.{Symlink, Touch, PfsMaster, PfsSlave, PfsStatus, Prune, PruneAll}
use Rattle.hm_model.specs.declared.reply.Reply.{Reply}
use Rattle.hm_model.specs.declared.reply.Reply.TheVariants.{Cut, Damaged, Media, NoMemory, Passed, StreamFault, Synced}
use Rattle.hm_model.proofs.DueLemmas.{of_option}
use Rattle.hm_records.proofs.MemberLemmas.{has_tail}
use Rattle.hm_calls.specs.Answered.{IsAnswerable}
use Rattle.hm_calls.proofs.GivenLemmas.{behind_cat, behind_file, behind_link, in_read}
use Rattle.hm_step.specs.Causes.{TellsFault}
use Rattle.hm_step.specs.Step.{IsFailure}
use Rattle.hm_step.proofs.PossibleLemmas.{OfCheck}

-- a reply tells no boundary, no ids, no count, no faults and no damage
abbrev pub IsPlain : Reply → Type 0
IsPlain (Synced boundary) = ⊥
IsPlain (Media before after) = ⊥
IsPlain (StreamFault before after) = ⊥
IsPlain (Passed begin end) = ⊥
IsPlain (Cut items) = ⊥
IsPlain (Damaged at kind) = ⊥
IsPlain other = Unit {0}

-- a reply's number is one of those that a call can give, and it is plain
abbrev pub MayGive : Command → List Parsed → Reply → Type 0
MayGive command paths reply = Contains (possible command paths) (number_of reply) × IsPlain reply

-- a check of the first sort, by a test
pub by_test : (P : Reply → Type 0) (test : Bool) (reply : Reply) → P reply → OfCheck P (refuse_if test reply)
by_test P true reply is = is
by_test P false reply is = tt

pub unless_test : (P : Reply → Type 0) (test : Bool) (reply : Reply) → P reply → OfCheck P (if test then None else Some reply)
unless_test P true reply is = tt
unless_test P false reply is = is

pub by_option : {X : Type 0} (P : Reply → Type 0) (f : X → Check) (o : Option X) → ((x : X) → OfCheck P (f x)) → OfCheck P (option_map_or f o None)
by_option P f o each = of_option (OfCheck P) f o None each tt

-- ---- a device that failed, and memory that was refused

-- each call that is answered can give such a reply, and tell damage
pub fault_given : (command : Command) (paths : List Parsed) → IsAnswerable command
    → Contains (possible command paths) 21 × Contains (possible command paths) 22 × Contains (possible command paths) 23
fault_given (Mkdir path) paths answers = ((7, omega arith, refl), (8, omega arith, refl), (9, omega arith, refl))
fault_given (Touch path) paths answers = ((7, omega arith, refl), (8, omega arith, refl), (9, omega arith, refl))
fault_given (Symlink target path) paths answers = ((7, omega arith, refl), (8, omega arith, refl), (9, omega arith, refl))
fault_given (Snapshot path) paths answers = ((7, omega arith, refl), (8, omega arith, refl), (9, omega arith, refl))
fault_given (Ln old new) paths answers = ((11, omega arith, refl), (12, omega arith, refl), (13, omega arith, refl))
fault_given (Mv old new) paths answers = ((9, omega arith, refl), (10, omega arith, refl), (11, omega arith, refl))
fault_given (Write path offset bytes) paths answers = (
  behind_file (offset + length bytes) 21 (3, omega arith, refl),
  behind_file (offset + length bytes) 22 (4, omega arith, refl),
  behind_file (offset + length bytes) 23 (5, omega arith, refl),
)
fault_given (Fill path offset count byte) paths answers = (
  behind_file (offset + count) 21 (3, omega arith, refl),
  behind_file (offset + count) 22 (4, omega arith, refl),
  behind_file (offset + count) 23 (5, omega arith, refl),
)
fault_given (Truncate path size) paths answers = (
  behind_file size 21 (3, omega arith, refl),
  behind_file size 22 (4, omega arith, refl),
  behind_file size 23 (5, omega arith, refl),
)
fault_given (Rm path) paths answers = ((6, omega arith, refl), (7, omega arith, refl), (8, omega arith, refl))
fault_given (Rmdir path) paths answers = ((5, omega arith, refl), (6, omega arith, refl), (7, omega arith, refl))
fault_given (Ls path) paths answers = (
  has_tail 102 21 (on_a_read paths) (in_read paths 21 (2, omega arith, refl)),
  has_tail 102 22 (on_a_read paths) (in_read paths 22 (3, omega arith, refl)),
  has_tail 102 23 (on_a_read paths) (in_read paths 23 (4, omega arith, refl)),
)
fault_given (Cat path offset count) paths answers = (
  behind_cat paths 21 (in_read paths 21 (2, omega arith, refl)),
  behind_cat paths 22 (in_read paths 22 (3, omega arith, refl)),
  behind_cat paths 23 (in_read paths 23 (4, omega arith, refl)),
)
fault_given (Stat path) paths answers = (
  has_tail 104 21 (on_a_read paths) (in_read paths 21 (2, omega arith, refl)),
  has_tail 104 22 (on_a_read paths) (in_read paths 22 (3, omega arith, refl)),
  has_tail 104 23 (on_a_read paths) (in_read paths 23 (4, omega arith, refl)),
)
fault_given (Readlink path) paths answers = (
  behind_link paths 21 (in_read paths 21 (2, omega arith, refl)),
  behind_link paths 22 (in_read paths 22 (3, omega arith, refl)),
  behind_link paths 23 (in_read paths 23 (4, omega arith, refl)),
)
fault_given (Prune path) paths answers = ((6, omega arith, refl), (7, omega arith, refl), (8, omega arith, refl))
fault_given (PruneAll path) paths answers = ((4, omega arith, refl), (5, omega arith, refl), (6, omega arith, refl))
fault_given (PfsMaster path shared) paths answers = ((8, omega arith, refl), (9, omega arith, refl), (10, omega arith, refl))
fault_given (PfsSlave path shared) paths answers = ((8, omega arith, refl), (9, omega arith, refl), (10, omega arith, refl))
fault_given (PfsStatus path) paths answers = ((3, omega arith, refl), (4, omega arith, refl), (5, omega arith, refl))
fault_given other paths answers = absurd answers

pub fault_possible : (command : Command) (paths : List Parsed) (early : Check) (reply : Reply) → IsAnswerable command → TellsFault reply
    → IsPossible early (possible command paths) reply
fault_possible command paths (Some refusal) (Media before after) answers is = inr (0, omega arith, refl)
fault_possible command paths (Some refusal) (Damaged at kind) answers is = inr (1, omega arith, refl)
fault_possible command paths (Some refusal) NoMemory answers is = inr (2, omega arith, refl)
fault_possible command paths None (Media before after) answers is = (fault_given command paths answers).0
fault_possible command paths None (Damaged at kind) answers is = (fault_given command paths answers).1
fault_possible command paths None NoMemory answers is = (fault_given command paths answers).2
fault_possible command paths early other answers is = absurd is

pub failure_possible : (command : Command) (paths : List Parsed) (early : Check) (reply : Reply) → IsAnswerable command → IsFailure reply
    → IsPossible early (possible command paths) reply
failure_possible command paths early reply answers (inl (before, after, is)) =
    fault_possible command paths early reply answers (subst TellsFault (sym is) tt)
failure_possible command paths early reply answers (inr is) = fault_possible command paths early reply answers (subst TellsFault (sym is) tt)
