-- What a unit of a reblock makes of the store of a volume in use.
use Rattle.std.specs.Prelude.{◌≡◌, ◌⊎◌, ℕ, Bool, false, true, IsFalse, IsTrue, List, [], Option, None, Some, Result}
use Rattle.std.specs.List.{Contains}
use Rattle.std.specs.Prelude.{IfErr, IfOk, IfSome, IsSomeAnd, OnOk, OnSome}
use Rattle.hm_types.specs.Faults.{HasAdmitCause}
use Rattle.hm_types.specs.Space.{IfNoSpace, LacksSpace, names_zone, reserve_of}
use Rattle.hm_types.specs.declared.fault.SpaceFault.{SpaceFault}
use Rattle.hm_types.specs.declared.zone.TheConstants.{TREE_ZONE}
use Rattle.hm_types.specs.declared.zones.Zones.{Zones}
use Rattle.hm_fields.specs.Pages.{PageMap}
use Rattle.hm_key.specs.Balance.{IsBalanced, Works, content_of}
use Rattle.hm_key.specs.Charges.{Charges}
use Rattle.hm_key.specs.Extents.{Extent}
use Rattle.hm_key.specs.Job.{ComesFurther, HasTouched, IfProgress, Place}
use Rattle.hm_key.specs.Marks.{NoneFall}
use Rattle.hm_key.specs.declared.element.Element.{Element}
use Rattle.hm_key.specs.declared.job.Progress.{Progress}
use Rattle.hm_btree.specs.Calls.Choice.{FindsNode}
use Rattle.hm_reblock.specs.Choice.{NoneChosen, SomeChosen, SomeChosenIn}
use Rattle.hm_reblock.specs.Stages.{StandsOrComes}
use Rattle.hm_stored.specs.Heap.{Heap, extents_in, free_of, pages_of, room_of}
use Rattle.hm_stored.specs.Moving.{MovesNodeTo}
use Rattle.hm_stored.specs.Told.{elements_told, mark_told}
use Rattle.hm_relocate.specs.Leaving.{AppendsToNone, HasNothingLive}

-- what a store tells of its content
abbrev pub content_told : Heap → ℕ → Option (List Element × List Extent)
content_told h root = content_of (elements_told h root) (extents_in h)

-- a look at a store left its content, its room, and how many big-blocks are free
pub record LooksThrough (old new : Heap) (root root' : ℕ) : Type 0 where
  pub elements : elements_told new root' ≡ elements_told old root
  pub mark : mark_told new root' ≡ mark_told old root
  pub extents : extents_in new ≡ extents_in old
  pub room : room_of new ≡ room_of old
  pub free : free_of new ≡ free_of old

-- What stood in a store stands elsewhere: where it told a balanced content, it tells one with the same elements and payloads, and
-- no mark fell. No more was taken of a zone than its reserve, and a big-block was begun only by a zone that lacked this.
pub record Rearranges (old new : Heap) (root root' : ℕ) : Type 0 where
  pub content : IfSome (content_told old root) (λ was. IsBalanced was.0 was.1 → IsSomeAnd (content_told new root') (Works (λ _. None) was))
  pub marks : OnSome (elements_told old root) (NoneFall (mark_told old root) (mark_told new root'))
  pub charges : Charges room_of free_of reserve_of old new

-- a set of zones is that of one
pub record NamesOne (zones : Zones) (zone : ℕ) : Type 0 where
  pub named : IsTrue (names_zone zones zone)
  pub alone : (other : ℕ) → IsTrue (names_zone zones other) → other ≡ zone

-- a node lies in the choice
abbrev pub HasChosenNode : List ℕ → PageMap → Type 0
HasChosenNode choice map = (at : ℕ) × FindsNode choice map (Some at)

-- what is to be moved stands in this zone, and lies in the choice: as far as nodes are told a node, or as far as elements are told the
-- payload of one
abbrev pub IsToMove : List ℕ → Option PageMap → Option (List Element) → ℕ → Type 0
IsToMove choice pages elements zone = ((zone ≡ TREE_ZONE) × IfSome pages (HasChosenNode choice)) ⊎ IfSome elements (SomeChosenIn zone choice)

-- that zone alone asked for its reserve, and no big-block was free for it: both numbers are told
pub record LacksForOne (choice : List ℕ) (pages : Option PageMap) (elements : Option (List Element)) (room_of : ℕ → ℕ)
    (free_of told_free told_needed : ℕ) : Type 0 where
  pub zones : Zones
  pub zone : ℕ
  pub one : NamesOne zones zone
  pub moved : IsToMove choice pages elements zone
  pub lacks : LacksSpace zones 0 room_of free_of told_free told_needed

-- What a part of a unit made of a store, over which the count of its faults went from one to another: where it ended well, things
-- stand elsewhere; each fault has its cause; and space was refused only where one zone lacked it.
pub record DoesPart (choice : List ℕ) (faults faults' : ℕ) (old new : Heap) (root root' : ℕ) {A : Type 0} (result : Result A SpaceFault) : Type 0 where
  pub store : OnOk result (Rearranges old new root root')
  pub cause : HasAdmitCause (content_told old root) faults faults' result
  pub no_space : IfErr result (IfNoSpace (LacksForOne choice (pages_of old) (elements_told old root) (room_of old) (free_of old)))

-- as far as elements are told, one went or its payload stands elsewhere
abbrev pub MovesPayload : Option (List Element) → Option (List Element) → Type 0
MovesPayload old new = IfSome old (λ es. IsSomeAnd new (HasTouched es))

-- as far as elements are told, a payload lay in the one choice, and none lies in the other
abbrev pub ClearsPayloads : List ℕ → List ℕ → Option (List Element) → Option (List Element) → Type 0
ClearsPayloads was now old new = IfSome old (λ es. SomeChosen was es × IsSomeAnd new (NoneChosen now))

-- as far as nodes are told, one that lay in the choice stands elsewhere: at an offset that had none, and the others where they stood
pub record MovesChosenNode (choice : List ℕ) (old new : Heap) : Type 0 where
  pub at : ℕ
  pub to : ℕ
  pub lies : IfSome (pages_of old) (λ map. FindsNode choice map (Some at))
  pub moves : MovesNodeTo at old new to

-- how far the reblock of a volume came: how far that of its payloads did, and whether nodes are moved
pub record Way : Type 0 where
  pub payloads : Place
  pub nodes : Bool

-- nodes are moved from here on, and were not
abbrev pub TurnsToNodes : Way → Way → Type 0
TurnsToNodes from to = (from.nodes ≡ false) × (to.nodes ≡ true)

-- a unit did something: the reblock of the payloads came further, a payload moved, none is left of those that lay in the choice, a node
-- moved, or the reblock turned to the nodes
abbrev pub HasGotOn : Way → Way → List ℕ → List ℕ → Heap → Heap → ℕ → ℕ → Type 0
HasGotOn from to was now old new root root' =
    ComesFurther from.payloads to.payloads
    ⊎ MovesPayload (elements_told old root) (elements_told new root')
    ⊎ ClearsPayloads was now (elements_told old root) (elements_told new root')
    ⊎ MovesChosenNode was old new
    ⊎ TurnsToNodes from to

-- a look at the store, over which the reblock of the payloads did not fall behind, and turned neither to the nodes nor from them
abbrev pub LooksOn : Way → Way → Heap → Heap → ℕ → ℕ → Type 0
LooksOn from to old new root root' = StandsOrComes from.payloads to.payloads × (to.nodes ≡ from.nodes) × LooksThrough old new root root'

-- A part of a unit told whether it moved something: where it did, the unit got on, and where it did not, it looked at the store alone.
pub record Tries (from to : Way) (choice : List ℕ) (faults faults' : ℕ) (old new : Heap) (root root' : ℕ) (result : Result Bool SpaceFault) : Type 0 where
  pub part : DoesPart choice faults faults' old new root root' result
  pub moved : IfOk result (λ moved. IsTrue moved → HasGotOn from to choice choice old new root root')
  pub none : IfOk result (λ moved. IsFalse moved → LooksOn from to old new root root')

-- what the parts of a unit together made of the choice: it stays where the unit got on, and it is empty where nothing was live there
abbrev pub TakesStep : Way → Way → List ℕ → List ℕ → Heap → Heap → ℕ → ℕ → Progress → Type 0
TakesStep from to was now old new root root' =
    IfProgress (HasGotOn from to was was old new root root' × (now ≡ was)) ((now ≡ []) × ((block : ℕ) → Contains was block → HasNothingLive new block))

-- How a unit ended: no zone appends to a big-block of the choice; there is more to do only where the unit got on, and it is done only
-- where the choice is empty.
pub record EndsUnit (from to : Way) (was now : List ℕ) (old new : Heap) (root root' : ℕ) (progress : Progress) : Type 0 where
  pub apart : AppendsToNone new.append now
  pub goes : IfProgress (HasGotOn from to was now old new root root') (now ≡ []) progress
