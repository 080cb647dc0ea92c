-- Words in which the laws of the definitions are said.
use Rattle.std.specs.Prelude.{◌≡◌, ℕ, ◌<◌, ◌≤◌, List, [], ◌∷◌, ◌++◌, Bool, true, false, Some, ◌==◌, ◌&&◌, filter, length}
use Rattle.std.specs.Bool.{nat_le}
use Rattle.std.specs.List.{AllByRecursion, list_any}
use Rattle.std.specs.Option.{option_map_or}
use Rattle.hm_types.specs.declared.id.Id.{Id}
use Rattle.hm_types.specs.declared.text.Text.{Text}
use Rattle.hm_types.specs.Intervals.{Keeps, open_end}
use Rattle.hm_retain.specs.Intervals.{IsIntervals}
use Rattle.hm_types.specs.declared.limits.TheConstants.{MOST_INTERVALS}
use Rattle.hm_model.specs.declared.command.Command.{Command}
use Rattle.hm_model.specs.declared.command.Command.TheVariants.{Cat, Df, End, Ls, MirrorCopy, MirrorWrite, PfsMaster, PfsSlave, PfsStatus, PfsUpgrade, Readlink, Stat, Sync, Synctid, Mkdir, Touch, Symlink, Snapshot, Ln, Mv, Write, Fill, Truncate, Rm, Rmdir, Prune, PruneAll, Reblock, MirrorRead, Progress}
use Rattle.hm_model.specs.declared.reply.Reply.TheVariants.{Finished, Passed}
use Rattle.hm_types.specs.declared.object.Object.{Object}
use Rattle.hm_model.specs.Reply.{is_refusal}
use Rattle.hm_model.specs.Foreign.{Feed, ForeignMaster, StreamEnd}
use Rattle.hm_model.specs.After.{Event, OpenCall, State, opened_with}
use Rattle.hm_model.specs.Legal.{Setting, call_after, enters_unclear, state_after}
use Rattle.hm_types.specs.Tree.{FileTree, named_in}
use Rattle.hm_model.specs.View.{Position, View, object_at}
use Rattle.hm_model.specs.Walk.{is_directory, linked_in}
use Rattle.hm_model.specs.Volume.{PseudoFileSystem, Master, Slave, Nowhere, Foreign, Local, Volume, at, system_of}

-- the same PFS, but for the source of its elements
abbrev pub IsButOrigin : PseudoFileSystem → PseudoFileSystem → Type 0
IsButOrigin old new = new ≡ record old { origin = new.origin }

-- whether a call, once it is open, may rewrite the versions of its PFS at its end
abbrev pub rewrites : Command → Bool
rewrites (MirrorCopy master slave limit) = true
rewrites (MirrorWrite path) = true
rewrites (PfsUpgrade path) = true
rewrites (Mkdir path) = false
rewrites (Touch path) = false
rewrites (Symlink target path) = false
rewrites (Snapshot path) = false
rewrites (Ln old new) = false
rewrites (Mv old new) = false
rewrites (Write path offset bytes) = false
rewrites (Fill path offset count byte) = false
rewrites (Truncate path size) = false
rewrites (Rm path) = false
rewrites (Rmdir path) = false
rewrites (Ls path) = false
rewrites (Cat path offset count) = false
rewrites (Stat path) = false
rewrites (Readlink path) = false
rewrites Sync = false
rewrites Synctid = false
rewrites (Prune path) = false
rewrites (PruneAll path) = false
rewrites (Reblock fill) = false
rewrites (PfsMaster path shared) = false
rewrites (PfsSlave path shared) = false
rewrites (PfsStatus path) = false
rewrites (MirrorRead path begin) = false
rewrites Df = false
rewrites Progress = false
rewrites (End opening) = false

-- whether an open call may rewrite the versions of this PFS
abbrev pub is_rewriter : ℕ → OpenCall → Bool
is_rewriter pfs o = (o.pfs == pfs) && rewrites o.command

-- the retention of a PFS
abbrev pub retention_of : Volume → ℕ → List (ℕ × ℕ)
retention_of volume pfs = option_map_or (λ (s : PseudoFileSystem). s.retention) (system_of volume pfs) []

-- no pass into the PFS is open, and no upgrade of it
abbrev pub IsUnfed : State → ℕ → Type 0
IsUnfed state pfs = list_any (is_rewriter pfs) state.opened ≡ false

-- the versions of a PFS
abbrev pub versions_of : Volume → ℕ → List (ℕ × FileTree)
versions_of volume pfs = option_map_or (λ (s : PseudoFileSystem). s.versions) (system_of volume pfs) []

-- a PFS with this number is there
abbrev pub IsThere : Volume → ℕ → Type 0
IsThere volume pfs = (s : PseudoFileSystem) × (system_of volume pfs ≡ Some s)

-- no retention has more intervals than one may have
abbrev pub AreSmall : Volume → Type 0
AreSmall volume = (pfs : ℕ) (s : PseudoFileSystem) → system_of volume pfs ≡ Some s → length s.retention ≤ MOST_INTERVALS

-- the intervals of a retention are maximal, and one of them has an open end
pub record IsOpenEnded (retention : List (ℕ × ℕ)) : Type 0 where
  pub intervals : IsIntervals retention
  pub kept : Keeps retention open_end

-- whether a command makes a PFS
abbrev pub adds_pfs : Command → Bool
adds_pfs (PfsMaster path shared) = true
adds_pfs (PfsSlave path shared) = true
adds_pfs (Mkdir path) = false
adds_pfs (Touch path) = false
adds_pfs (Symlink target path) = false
adds_pfs (Snapshot path) = false
adds_pfs (Ln old new) = false
adds_pfs (Mv old new) = false
adds_pfs (Write path offset bytes) = false
adds_pfs (Fill path offset count byte) = false
adds_pfs (Truncate path size) = false
adds_pfs (Rm path) = false
adds_pfs (Rmdir path) = false
adds_pfs (Ls path) = false
adds_pfs (Cat path offset count) = false
adds_pfs (Stat path) = false
adds_pfs (Readlink path) = false
adds_pfs Sync = false
adds_pfs Synctid = false
adds_pfs (Prune path) = false
adds_pfs (PruneAll path) = false
adds_pfs (Reblock fill) = false
adds_pfs (PfsStatus path) = false
adds_pfs (PfsUpgrade path) = false
adds_pfs (MirrorRead path begin) = false
adds_pfs (MirrorWrite path) = false
adds_pfs (MirrorCopy master slave limit) = false
adds_pfs Df = false
adds_pfs Progress = false
adds_pfs (End opening) = false

-- a PFS is a master, with no pass into it open and no upgrade of it
pub record IsSteadyMaster (state : State) (pfs : ℕ) : Type 0 where
  pub system : PseudoFileSystem
  pub found : system_of state.volume pfs ≡ Some system
  pub master : system.role ≡ Master
  pub unfed : IsUnfed state pfs

-- it is one after each beginning of a history
abbrev pub IsMasterThroughout : Setting → List Event → ℕ → Type 0
IsMasterThroughout run events pfs =
    (before rest : List Event) → events ≡ before ++ rest → IsSteadyMaster (state_after run before) pfs

-- a PFS is a steady master after the first of these events, and after each beginning of the later ones
abbrev pub IsMasterFrom : Setting → List Event → List Event → ℕ → Type 0
IsMasterFrom run before events pfs =
    (some rest : List Event) → events ≡ some ++ rest → IsSteadyMaster (state_after run (before ++ some)) pfs

-- an event is this call, and it was accepted
pub record Makes (event : Event) (command : Command) : Type 0 where
  pub call : event.entry.call ≡ command
  pub accepted : is_refusal event.entry.reply ≡ false

-- whether a command only looks: it reads, or waits for the disk
abbrev pub only_looks : Command → Bool
only_looks (Ls path) = true
only_looks (Cat path offset count) = true
only_looks (Stat path) = true
only_looks (Readlink path) = true
only_looks (PfsStatus path) = true
only_looks Sync = true
only_looks Synctid = true
only_looks Df = true
only_looks (Mkdir path) = false
only_looks (Touch path) = false
only_looks (Symlink target path) = false
only_looks (Snapshot path) = false
only_looks (Ln old new) = false
only_looks (Mv old new) = false
only_looks (Write path offset bytes) = false
only_looks (Fill path offset count byte) = false
only_looks (Truncate path size) = false
only_looks (Rm path) = false
only_looks (Rmdir path) = false
only_looks (Prune path) = false
only_looks (PruneAll path) = false
only_looks (Reblock fill) = false
only_looks (PfsMaster path shared) = false
only_looks (PfsSlave path shared) = false
only_looks (PfsUpgrade path) = false
only_looks (MirrorRead path begin) = false
only_looks (MirrorWrite path) = false
only_looks (MirrorCopy master slave limit) = false
only_looks Progress = false
only_looks (End opening) = false

-- no walk of a history enters a PFS whose trees are not certain
abbrev pub AreClear : Setting → List Event → Type 0
AreClear run events =
    (before : List Event) (event : Event) (rest : List Event) → events ≡ before ++ event ∷ rest →
    enters_unclear (call_after run before event) ≡ false

-- the events with ids up to one
abbrev pub events_to : ℕ → List Event → List Event
events_to id events = filter (λ (e : Event). nat_le e.entry.id.0 id) events

-- these versions begin by an id
abbrev pub BeginBy : ℕ → List (ℕ × FileTree) → Type 0
BeginBy id versions = AllByRecursion (λ (v : ℕ × FileTree). v.0 ≤ id) versions

-- whether a call merges a master's elements into a slave
abbrev pub merges : Command → Bool
merges (MirrorCopy master slave limit) = true
merges (MirrorWrite path) = true
merges (Mkdir path) = false
merges (Touch path) = false
merges (Symlink target path) = false
merges (Snapshot path) = false
merges (Ln old new) = false
merges (Mv old new) = false
merges (Write path offset bytes) = false
merges (Fill path offset count byte) = false
merges (Truncate path size) = false
merges (Rm path) = false
merges (Rmdir path) = false
merges (Ls path) = false
merges (Cat path offset count) = false
merges (Stat path) = false
merges (Readlink path) = false
merges Sync = false
merges Synctid = false
merges (Prune path) = false
merges (PruneAll path) = false
merges (Reblock fill) = false
merges (PfsMaster path shared) = false
merges (PfsSlave path shared) = false
merges (PfsStatus path) = false
merges (PfsUpgrade path) = false
merges (MirrorRead path begin) = false
merges Df = false
merges Progress = false
merges (End opening) = false

-- an event is the ending of this open call, a pass into a slave, which came to its end with these ids
pub record EndsPass (state : State) (event : Event) (o : OpenCall) (begin end : Id) : Type 0 where
  pub opening : Id
  pub call : event.entry.call ≡ End opening
  pub reply : event.entry.reply ≡ Passed begin end
  pub found : opened_with opening.0 state.opened ≡ Some o
  pub pass : merges o.command ≡ true

-- the first ids of versions do not fall, from one on
abbrev pub RiseFrom : ℕ → List (ℕ × FileTree) → Type 0
RiseFrom least [] = Unit {0}
RiseFrom least (v ∷ vs) = (least ≤ v.0) × RiseFrom v.0 vs

abbrev pub AreRising : List (ℕ × FileTree) → Type 0
AreRising versions = RiseFrom 0 versions

-- A slave shows its master's trees. Where that master of this volume is its only source, it has as of each
-- id up to its sync end that both keep what the master has. As long as it has no source, it keeps no id.
-- Its sync end was drawn.
pub record FollowsMaster (volume : Volume) (slave master : ℕ) : Type 0 where
  pub own : PseudoFileSystem
  pub found : system_of volume slave ≡ Some own
  pub drawn : own.sync_end ≤ volume.last
  pub empty : own.role ≡ Slave → own.origin ≡ Nowhere → (id : ℕ) → Keeps own.retention id → ⊥
  pub same : own.role ≡ Slave → own.origin ≡ Local master → (id : ℕ) → id ≤ own.sync_end →
      Keeps own.retention id → Keeps (retention_of volume master) id → at volume slave id ≡ at volume master id

-- Under a name in the directory in hand a link to a PFS stands, at this position.
pub record NamesLink (view : View) (here : Position) (name : List ℕ) (link : Position) (pfs : ℕ) : Type 0 where
  pub directory : option_map_or is_directory (object_at view here) false ≡ true
  pub named : named_in (view here.pfs here.when) here.object name ≡ Some link.object
  pub beside : link ≡ record here { object = link.object }
  pub object : Object
  pub found : object_at view link ≡ Some object
  pub linked : linked_in object.content ≡ Some pfs

-- an event is the ending of this open call, an upgrade, which came to its end
pub record EndsUpgrade (state : State) (event : Event) (o : OpenCall) : Type 0 where
  pub opening : Id
  pub path : Text
  pub call : event.entry.call ≡ End opening
  pub reply : event.entry.reply ≡ Finished
  pub found : opened_with opening.0 state.opened ≡ Some o
  pub upgrade : o.command ≡ PfsUpgrade path

-- A feed shows these trees as of these ids, where its stream is from this source: its master has them as of
-- each such id up to the end of what was read from it, the first ids of its versions do not fall, and the
-- stream brought no later end id.
pub record ShowsTrees (source : ℕ) (kept : ℕ → Bool) (trees : ℕ → FileTree) (feed : Feed) : Type 0 where
  pub rising : (m : ForeignMaster) → feed.master ≡ Some m → m.source ≡ source → AreRising (versions_of m.volume m.master)
  pub same : (m : ForeignMaster) → feed.master ≡ Some m → m.source ≡ source → (id : ℕ) → kept id ≡ true → id ≤ m.end →
      at m.volume m.master id ≡ trees id
  pub ends : (m : ForeignMaster) (t : StreamEnd) → feed.master ≡ Some m → feed.term ≡ Some t → t.end ≤ m.end

-- A slave shows these trees as of these ids up to its sync end, where this foreign source is its only one.
-- As long as it has no source, it has no sync end. Its sync end was drawn.
pub record FollowsForeign (volume : Volume) (slave source : ℕ) (kept : ℕ → Bool) (trees : ℕ → FileTree) : Type 0 where
  pub own : PseudoFileSystem
  pub found : system_of volume slave ≡ Some own
  pub drawn : own.sync_end ≤ volume.last
  pub unfed : own.role ≡ Slave → own.origin ≡ Nowhere → own.sync_end ≡ 0
  pub same : own.role ≡ Slave → own.origin ≡ Foreign source → (id : ℕ) → kept id ≡ true → 0 < id → id ≤ own.sync_end →
      at volume slave id ≡ trees id
