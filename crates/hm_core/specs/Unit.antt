-- What a unit of a job makes of a space, from one moment without an open call to another.
use Rattle.std.specs.Prelude.{◌≡◌, ◌⊎◌, ℕ, ◌≤◌, ◌<◌, List, Option, Some, IsSomeAnd, true}
use Rattle.std.specs.List.{Contains}
use Rattle.hm_types.specs.Elements.{FullElement, IsDead}
use Rattle.hm_types.specs.Space.{reserve_of}
use Rattle.hm_types.specs.declared.zone.TheConstants.{TREE_ZONE}
use Rattle.hm_btree.specs.Calls.Choice.{FindsNode}
use Rattle.hm_btree.specs.Calls.Move.{Exchanges}
use Rattle.hm_btree.specs.Tree.{told_elements}
use Rattle.hm_key.specs.Element.{pfs_of}
use Rattle.hm_key.specs.Job.{ComesFurther, HasTouched, IfProgress, Place}
use Rattle.hm_key.specs.declared.element.Element.{Element}
use Rattle.hm_key.specs.declared.job.Progress.{Progress}
use Rattle.hm_model.specs.Volume.{Volume}
use Rattle.hm_reblock.specs.Choice.{NoneChosen, SomeChosen, SomeChosenIn}
use Rattle.hm_relocate.specs.Unit.{HasChosenNode, TurnsToNodes, Way}
use Rattle.hm_step.specs.Pruned.{KeepsWithin}
use Rattle.hm_stored.specs.Basis.{nodes}
use Rattle.hm_stored.specs.Heap.{Heap, free_of, room_of}
use Rattle.hm_stored.specs.Standing.{Holds}
use Rattle.hm_stored.specs.Turn.{IsClosed}
use Rattle.hm_state.specs.Live.{NoByte}
use Rattle.hm_state.specs.Volume.{HoldsVolume}
use Rattle.hm_core.specs.Answer.{KeepsFlush}
use Rattle.hm_core.specs.Ledger.{IsPaid}
use Rattle.hm_core.specs.Live.{KeepsLiveOver}
use Rattle.hm_core.specs.State.{OpenWork, pruning, reblocking}

-- A unit of a job that keeps these ids was made over a space, over which the count of the disk's faults went from one to another. No call
-- is open; a volume that the space held it holds still, where what the job keeps is enough for it; what a flush holds is still there, and
-- no byte that was live is written.
pub record UnitLeaves (kept : ℕ → Option (List (ℕ × ℕ))) (faults faults' last : ℕ) (h h' : Heap) (root root' : ℕ) : Type 0 where
  pub closed : IsClosed h'
  pub counted : faults ≤ faults'
  pub volume : (volume : Volume) → KeepsWithin kept volume → HoldsVolume h root last volume → HoldsVolume h' root' last volume
  pub flush : KeepsFlush ((volume : Volume) × HoldsVolume h root last volume) h h'
  pub live : KeepsLiveOver NoByte root last h h'

-- the big-blocks that zones begun are paid for still, by as many calls
abbrev pub KeepsPaid : Heap → Heap → Type 0
KeepsPaid h h' = (first calls : ℕ) → IsPaid first (free_of h) calls (room_of h) → IsPaid first (free_of h') calls (room_of h')

-- no element of a PFS is dead for these ids
abbrev pub NoneDeadIn : ℕ → List (ℕ × ℕ) → List FullElement → Type 0
NoneDeadIn pfs kept es = (e : FullElement) → Contains es e → pfs_of e.key.localization ≡ pfs → IsDead kept e.key.create e.delete → ⊥

-- of what a space holds now no element is, where it held a volume before
abbrev pub LeavesNoneDead : ℕ → List (ℕ × ℕ) → ℕ → Heap → Heap → ℕ → ℕ → Type 0
LeavesNoneDead pfs kept last h h' root root' =
    (volume : Volume) → HoldsVolume h root last volume → (es : List FullElement) → Holds h' root' es → NoneDeadIn pfs kept es

-- the elements of the tree that begins at a root, as the pages of a space tell them
abbrev pub tree_elements : Heap → ℕ → Option (List Element)
tree_elements h root = told_elements true (Some (nodes h.pages.current)) root

-- an element of the one tree went, or its payload stands elsewhere in the other one
abbrev pub TouchesElements : Heap → Heap → ℕ → ℕ → Type 0
TouchesElements h h' root root' = IsSomeAnd (tree_elements h root) (λ es. IsSomeAnd (tree_elements h' root') (HasTouched es))

-- a payload of the one tree lay in a choice, and none of the other one lies in what is left of it
abbrev pub ClearsChoice : List ℕ → List ℕ → Heap → Heap → ℕ → ℕ → Type 0
ClearsChoice was now h h' root root' =
    IsSomeAnd (tree_elements h root) (λ es. SomeChosen was es × IsSomeAnd (tree_elements h' root') (NoneChosen now))

-- a node that lay in a choice stands elsewhere: at an offset that had none, and the others where they stood
pub record TakesNodeOut (choice : List ℕ) (h h' : Heap) : Type 0 where
  pub at : ℕ
  pub to : ℕ
  pub lies : FindsNode choice (nodes h.pages.current) (Some at)
  pub moves : Exchanges at to (nodes h.pages.current) (nodes h'.pages.current)

-- where a space held a volume, a prune came further, or one of the elements went or was moved
abbrev pub GetsOn : Place → Place → ℕ → Heap → Heap → ℕ → ℕ → Type 0
GetsOn from to last h h' root root' = (volume : Volume) → HoldsVolume h root last volume
    → ComesFurther from to ⊎ TouchesElements h h' root root'

-- so it did in a unit after which there is more to do
abbrev pub IfMoreGetsOn : Place → Place → ℕ → Heap → Heap → ℕ → ℕ → Progress → Type 0
IfMoreGetsOn from to last h h' root root' = IfProgress (GetsOn from to last h h' root root') (Unit {0})

-- Where a space held a volume, a reblock came further with the payloads, moved one or cleared its choice of them, moved a node out of it,
-- or turned to the nodes.
abbrev pub MovesOn : Way → Way → List ℕ → List ℕ → ℕ → Heap → Heap → ℕ → ℕ → Type 0
MovesOn from to was now last h h' root root' = (volume : Volume) → HoldsVolume h root last volume
    → ComesFurther from.payloads to.payloads
    ⊎ TouchesElements h h' root root'
    ⊎ ClearsChoice was now h h' root root'
    ⊎ TakesNodeOut was h h'
    ⊎ TurnsToNodes from to

-- so it did in a unit after which there is more to do
abbrev pub IfMoreMovesOn : Way → Way → List ℕ → List ℕ → ℕ → Heap → Heap → ℕ → ℕ → Progress → Type 0
IfMoreMovesOn from to was now last h h' root root' = IfProgress (MovesOn from to was now last h h' root root') (Unit {0})

-- ---- the two kinds of work

-- either kind got on
abbrev pub WorksOn : OpenWork → Way → Way → List ℕ → List ℕ → ℕ → Heap → Heap → ℕ → ℕ → Type 0
WorksOn (pruning pfs kept) from to was now last h h' root root' = GetsOn from.payloads to.payloads last h h' root root'
WorksOn reblocking from to was now last h h' root root' = MovesOn from to was now last h h' root root'

-- so it did in a unit after which there is more to do
abbrev pub IfMoreWorksOn : OpenWork → Way → Way → List ℕ → List ℕ → ℕ → Heap → Heap → ℕ → ℕ → Progress → Type 0
IfMoreWorksOn work from to was now last h h' root root' = IfProgress (WorksOn work from to was now last h h' root root') (Unit {0})

abbrev pub IsPruning : OpenWork → Type 0
IsPruning (pruning pfs kept) = Unit {0}
IsPruning reblocking = ⊥

abbrev pub IsReblocking : OpenWork → Type 0
IsReblocking (pruning pfs kept) = ⊥
IsReblocking reblocking = Unit {0}

-- A zone lacks its reserve of room in a space, and no big-block is free for it: so two numbers are told, how many are free, and how many
-- are needed.
pub record LacksRoom (h : Heap) (free needed : ℕ) : Type 0 where
  pub zone : ℕ
  pub lacks : room_of h zone < reserve_of zone
  pub free_is : (free ≡ free_of h) × (free ≡ 0)
  pub needed_is : needed ≡ 1

-- A reblock with this choice may have something to move from a zone: where a space holds a volume, something stands there that lies in the
-- choice, which is a node, in the zone of these, or a payload.
abbrev pub MayMoveFrom : ℕ → List ℕ → ℕ → Heap → ℕ → Type 0
MayMoveFrom zone choice last h root = (volume : Volume) → HoldsVolume h root last volume
    → ((zone ≡ TREE_ZONE) × HasChosenNode choice (nodes h.pages.current)) ⊎ IsSomeAnd (tree_elements h root) (SomeChosenIn zone choice)

-- A reblock lacks room for what it is to move: the zone that lacks its reserve is one from which it may move something.
pub record LacksForChoice (choice : List ℕ) (last : ℕ) (h : Heap) (root free needed : ℕ) : Type 0 where
  pub room : LacksRoom h free needed
  pub moved : MayMoveFrom room.zone choice last h root

-- at its end a prune left nothing that is dead for what it keeps
abbrev pub EndsOver : OpenWork → ℕ → Heap → Heap → ℕ → ℕ → Type 0
EndsOver (pruning pfs kept) last h h' root root' = LeavesNoneDead pfs kept last h h' root root'
EndsOver reblocking last h h' root root' = Unit {0}

-- a reblock may lack room, and a prune does not
abbrev pub LacksFor : OpenWork → Heap → ℕ → ℕ → Type 0
LacksFor work h free needed = IsReblocking work × LacksRoom h free needed
