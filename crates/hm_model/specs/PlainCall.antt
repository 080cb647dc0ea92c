-- Calls on one tree.
use Rattle.std.specs.Prelude.{◌≡◌, ◌<◌, ℕ, ◌-◌, List, [], ◌∷◌, Bool, true, false, Option, None, Some, if◌then◌else◌}
use Rattle.std.specs.List.{AllZip, list_any}
use Rattle.hm_types.specs.declared.limits.TheConstants.{GREATEST_ID}
use Rattle.hm_model.specs.declared.command.Command.{Command}
use Rattle.hm_model.specs.declared.command.Command.TheVariants.{Mkdir, Touch, Symlink, Snapshot, Ln, Mv, Write, Fill, Truncate, Rm, Rmdir, Ls, Cat, Stat, Readlink, Sync, Synctid, Prune, PruneAll, Reblock, PfsMaster, PfsSlave, PfsStatus, PfsUpgrade, MirrorRead, MirrorWrite, MirrorCopy, Df, Progress, End as EndOf}
use Rattle.hm_model.specs.declared.paths.Paths.{Paths}
use Rattle.hm_model.specs.declared.paths.Paths.TheVariants.{One, Two, Other}
use Rattle.hm_model.specs.declared.paths.Use.{Use as Purpose}
use Rattle.hm_model.specs.declared.paths.Use.TheVariants.{New, Named, End}
use Rattle.hm_model.specs.declared.place.Place.{Place}
use Rattle.hm_model.specs.declared.reply.Reply.{Reply}
use Rattle.hm_model.specs.declared.stop.PlainStop.{PlainStop}
use Rattle.hm_model.specs.declared.stop.PlainStop.TheVariants.{Refused, NoMemory}
use Rattle.hm_types.specs.Hash.{name_hash}
use Rattle.hm_model.specs.Reply.{is_refusal}
use Rattle.hm_types.specs.Tree.{FileTree}
use Rattle.hm_model.specs.Volume.{at, fresh_with}
use Rattle.hm_model.specs.View.{View, view_of}
use Rattle.hm_model.specs.Sites.{Use, MakesName, TakesName, Walks, Parsed, IsParsed, Site, Located, At, uses_of}
use Rattle.hm_model.specs.Call.{Call, all_located, first_of, second_of}
use Rattle.hm_model.specs.Due.{Check, due, early_checks, first_refusal, has_id, ids_left, refusal}
use Rattle.hm_model.specs.Change.{change}
use Rattle.hm_model.specs.Plain.{follow_of, plain_view, site_of}

-- a command looks at a tree; changes one, but makes no PFS; or is not answered on one tree
pub data PlainClass : Type 0 where
  Look : PlainClass
  Edit : PlainClass
  Unanswered : PlainClass

abbrev pub plain_class : Command → PlainClass
plain_class (Ls path) = Look
plain_class (Cat path offset count) = Look
plain_class (Stat path) = Look
plain_class (Readlink path) = Look
plain_class (Mkdir path) = Edit
plain_class (Touch path) = Edit
plain_class (Symlink target path) = Edit
plain_class (Snapshot path) = Edit
plain_class (Ln old new) = Edit
plain_class (Mv old new) = Edit
plain_class (Write path offset bytes) = Edit
plain_class (Fill path offset count byte) = Edit
plain_class (Truncate path size) = Edit
plain_class (Rm path) = Edit
plain_class (Rmdir path) = Edit
plain_class Sync = Unanswered
plain_class Synctid = Unanswered
plain_class (Prune path) = Unanswered
plain_class (PruneAll path) = Unanswered
plain_class (Reblock fill) = Unanswered
plain_class (PfsMaster path shared) = Unanswered
plain_class (PfsSlave path shared) = Unanswered
plain_class (PfsStatus path) = Unanswered
plain_class (PfsUpgrade path) = Unanswered
plain_class (MirrorRead path begin) = Unanswered
plain_class (MirrorWrite path) = Unanswered
plain_class (MirrorCopy master slave limit) = Unanswered
plain_class Df = Unanswered
plain_class Progress = Unanswered
plain_class (EndOf opening) = Unanswered

-- the commands that look at a tree, and those that change one but for those that make a PFS
abbrev pub IsLook : Command → Type 0
IsLook command = elim (plain_class command) [ Look ↦ Unit {0} | Edit ↦ ⊥ | Unanswered ↦ ⊥ ]

abbrev pub IsEdit : Command → Type 0
IsEdit command = elim (plain_class command) [ Look ↦ ⊥ | Edit ↦ Unit {0} | Unanswered ↦ ⊥ ]

-- the path words of the command are read so, and none has an id
pub record ReadsNow (command : Command) (paths : List Parsed) : Type 0 where
  pub each : AllZip (λ u path. IsParsed u.1 path) (uses_of command) paths
  pub no_ids : list_any has_id paths ≡ false

-- the call of a command, with what is seen, on a volume whose one PFS has this tree
abbrev pub call_on : ℕ → ℕ → FileTree → View → Command → List Parsed → Call
call_on size last tree view command paths = record {
  volume = fresh_with size last tree;
  view = view;
  busy = None;
  hash = name_hash;
  command = command;
  paths = paths;
}

-- the call as it sees that volume, of `size` big-blocks and with this last id
abbrev pub plain_call : ℕ → ℕ → FileTree → Command → List Parsed → Call
plain_call size last tree command paths = call_on size last tree (view_of (fresh_with size last tree) []) command paths

-- the reply to a command that looks at a tree is the one that it is due, whatever id it draws
pub record IsLooked (tree : FileTree) (command : Command) (reply : Reply) : Type 0 where
  pub reply_is : (size last : ℕ) (paths : List Parsed) → IsLook command → last < GREATEST_ID →
      ReadsNow command paths → reply ≡ due (plain_call size last tree command paths)

-- The reply to a command that changes a tree is the one that it is due when it draws this id, and the tree
-- after it is the same where the reply is a refusal, and else the one that the change gives.
pub record IsApplied (tree : FileTree) (command : Command) (id : ℕ) (reply : Reply) (after : FileTree) : Type 0 where
  pub reply_is : (size : ℕ) (paths : List Parsed) → IsEdit command → ReadsNow command paths →
      reply ≡ due (plain_call size (id - 1) tree command paths)
  pub tree_is : (size : ℕ) (paths : List Parsed) → IsEdit command → ReadsNow command paths →
      after ≡ (if is_refusal reply then tree else at (change (plain_call size (id - 1) tree command paths)) 0 id)

-- The rest is for the inside. The call with what it sees as a plain table.
abbrev pub inner_call : ℕ → ℕ → FileTree → Command → List Parsed → Call
inner_call size last tree command paths = call_on size last tree (plain_view tree) command paths

-- the commands that are answered on one tree
abbrev pub IsServed : Command → Type 0
IsServed command = elim (plain_class command) [ Look ↦ Unit {0} | Edit ↦ Unit {0} | Unanswered ↦ ⊥ ]

-- what a call does with a path
abbrev pub use_of : Purpose → Use
use_of New = MakesName
use_of Named = TakesName
use_of (End follows) = Walks (follow_of follows)

-- whether that needs a last name
abbrev pub needs_name : Purpose → Bool
needs_name New = true
needs_name Named = true
needs_name (End follows) = false

-- the path words of a command are these
abbrev pub HasPaths : Command → Paths → Type 0
HasPaths command (One u word) = uses_of command ≡ (use_of u, word.now) ∷ []
HasPaths command (Two u word v other) = uses_of command ≡ (use_of u, word.now) ∷ (use_of v, other.now) ∷ []
HasPaths command Other = IsServed command → ⊥

-- where they lead, by their uses
abbrev pub located_at : List (Use × List ℕ) → Site → Site → List Located
located_at [] a b = []
located_at (u ∷ []) a b = At a ∷ []
located_at (u ∷ v ∷ uses) a b = At a ∷ At b ∷ []

-- the checks before the walks pass, and the paths lead to these two places
pub record IsPlaced (tree : FileTree) (command : Command) (a b : Place) : Type 0 where
  pub early : (size last : ℕ) (paths : List Parsed) → IsServed command → last < GREATEST_ID → ReadsNow command paths →
      first_refusal (ids_left (inner_call size last tree command paths) ∷ early_checks last None command paths) ≡ None
  pub located : (size last : ℕ) (paths : List Parsed) → ReadsNow command paths →
      all_located (inner_call size last tree command paths) ≡ located_at (uses_of command) (site_of a) (site_of b)
  pub first : first_of (located_at (uses_of command) (site_of a) (site_of b)) ≡ site_of a
  pub second : second_of (located_at (uses_of command) (site_of a) (site_of b)) ≡ site_of b

-- the refusal that a command is due is this one
pub record IsDueRefusal (tree : FileTree) (command : Command) (reply : Reply) : Type 0 where
  pub refused : (size last : ℕ) (paths : List Parsed) → IsServed command → last < GREATEST_ID →
      ReadsNow command paths → refusal (inner_call size last tree command paths) ≡ Some reply

-- why a command stopped: it is due a refusal, or memory ran out
abbrev pub StopsCall : FileTree → Command → PlainStop → Type 0
StopsCall tree command (Refused reply) = IsDueRefusal tree command reply
StopsCall tree command NoMemory = Unit {0}
