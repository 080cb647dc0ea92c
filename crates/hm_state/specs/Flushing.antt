-- What a space and its disk have of the volumes that are committed and frozen, however far a flush has come.
use Rattle.std.specs.Prelude.{◌≡◌, ◌≢◌, ◌⊎◌, ℕ, ◌+◌, ◌*◌, ◌<◌, ◌≤◌, true, List, None, Result, Ok, Err, All, length, map}
use Rattle.hm_types.specs.Layout.{blocks_per_layer2, first_undo, layer2_blocks, start_of}
use Rattle.hm_types.specs.References.{Reference, begin_of}
use Rattle.hm_types.specs.declared.fault.Fault.{Fault}
use Rattle.hm_disk.specs.Crash.{Outside, Told}
use Rattle.hm_fields.specs.Pages.{PageMap}
use Rattle.hm_freemap.specs.Places.{page_of}
use Rattle.hm_header.specs.declared.header.Header.{Header}
use Rattle.hm_undo.specs.Recovered.{RecoversTo}
use Rattle.hm_search.specs.Tree.{elements_of}
use Rattle.hm_flush.specs.declared.change.Change.TheVariants.{Close, Write, Open}
use Rattle.hm_flush.specs.declared.flush.Flush.{Flush}
use Rattle.hm_flush.specs.declared.flush.Position.{Position}
use Rattle.hm_flush.specs.declared.flush.Position.TheVariants.{Idle, Undoing, Arming, Placing, Committing}
use Rattle.hm_flush.specs.declared.stage.Stage.{Stage}
use Rattle.hm_flush.specs.Guard.{Guards}
use Rattle.hm_flush.specs.Recoverable.{IsInPages}
use Rattle.hm_image.specs.Image.{to_payload}
use Rattle.hm_image.specs.Sound.{HasEntry, HasLayer1}
use Rattle.hm_image.specs.Stands.{StandsFor}
use Rattle.hm_model.specs.Volume.{Volume}
use Rattle.hm_stored.specs.Basis.{entry_outside, nodes}
use Rattle.hm_stored.specs.Flushed.{ArePages}
use Rattle.hm_stored.specs.Heap.{Heap}
use Rattle.hm_stored.specs.Held.{AreOnlyOf}
use Rattle.hm_state.specs.AtRest.{HoldsAtRest}

-- no unsettled range meets the bytes of a reference
abbrev pub IsSettledAt : Told → Reference → Type 0
IsSettledAt t r = (byte : ℕ) → begin_of r ≤ byte → byte < begin_of r + r.len → Outside t.unsettled byte

-- the payloads of the tree that begins at a root are settled
abbrev pub ArePayloadsSettled : Told → PageMap → ℕ → Type 0
ArePayloadsSettled t pages root = All (IsSettledAt t) (map to_payload (elements_of (nodes pages) root))

-- The pages of a map make a whole volume under a header, by itself, with the payloads that a disk tells.
pub record IsWholeState (t : Told) (header : Header) (pages : PageMap) (volume : Volume) : Type 0 where
  pub holds : HoldsAtRest t header pages volume
  pub only : AreOnlyOf header.bigblocks pages
  pub bytes : ArePages pages

-- Layer 1 of the freemap stands on a disk, and so do the entries of layer 2 that no page of a map has; and what of the freemap is none of
-- these pages is settled.
pub record HoldsOutside (t : Told) (bigblocks : ℕ) (pages : PageMap) : Type 0 where
  pub size : start_of bigblocks ≤ length t.bytes
  pub layer1 : HasLayer1 t.bytes bigblocks
  pub past : (block : ℕ) → block < layer2_blocks bigblocks * blocks_per_layer2 → pages (page_of block) ≡ None
      → HasEntry t.bytes block (entry_outside bigblocks block)
  pub settled : (byte : ℕ) → start_of 1 ≤ byte → byte < start_of (first_undo bigblocks) → ¬ IsInPages pages byte → Outside t.unsettled byte

-- all that the frozen tree refers to is settled: so it is once UndoSync succeeded
abbrev pub IsLogged : Position → Type 0
IsLogged Idle = ⊥
IsLogged (Undoing from) = ⊥
IsLogged (Arming change) = Unit {0}
IsLogged (Placing i) = Unit {0}
IsLogged (Committing change) = Unit {0}

-- Two volumes are held beside what calls see: the committed one, and, while a flush is in flight, the one that is frozen. Each is
-- whole by itself, the trees of the space are theirs, and what a crash needs of the disk stands there and is settled.
pub record HoldsFlush (f : Flush) (h : Heap) (t : Told) (committed frozen : Volume) : Type 0 where
  pub bigblocks : h.bigblocks ≡ f.header.bigblocks
  pub guarded : Guards f h.pages t
  pub committed_is : IsWholeState t f.header h.pages.committed committed
  pub committed_root : h.roots.committed ≡ f.header.root
  pub committed_settled : ArePayloadsSettled t h.pages.committed f.header.root
  pub frozen_is : f.at ≢ Idle → IsWholeState t f.target h.pages.frozen frozen
  pub frozen_root : f.at ≢ Idle → h.roots.frozen ≡ f.target.root
  pub frozen_settled : IsLogged f.at → ArePayloadsSettled t h.pages.frozen f.target.root
  pub outside : HoldsOutside t h.bigblocks h.pages.committed

-- The committed volume after a stage that was due at a position: the last one makes the frozen volume the committed one.
abbrev pub committed_made : Position → Volume → Volume → Volume
committed_made Idle committed frozen = committed
committed_made (Undoing from) committed frozen = committed
committed_made (Arming change) committed frozen = committed
committed_made (Placing i) committed frozen = committed
committed_made (Committing Close) committed frozen = committed
committed_made (Committing Write) committed frozen = committed
committed_made (Committing (Open tried)) committed frozen = frozen

abbrev pub committed_after : Position → Result Stage Fault → Volume → Volume → Volume
committed_after at (Ok stage) committed frozen = committed_made at committed frozen
committed_after at (Err fault) committed frozen = committed

-- The frozen one: Freeze makes the volume of now the frozen one.
abbrev pub frozen_made : Position → Volume → Volume → Volume
frozen_made Idle now frozen = now
frozen_made (Undoing from) now frozen = frozen
frozen_made (Arming change) now frozen = frozen
frozen_made (Placing i) now frozen = frozen
frozen_made (Committing change) now frozen = frozen

abbrev pub frozen_after : Position → Result Stage Fault → Volume → Volume → Volume
frozen_after at (Ok stage) now frozen = frozen_made at now frozen
frozen_after at (Err fault) now frozen = frozen

-- an image recovers to one that stands for the committed volume, or, where the last stage of the flush was tried, for the frozen one
pub record RecoversToVolume (f : Flush) (committed frozen : Volume) (image : List ℕ) : Type 0 where
  pub result : List ℕ
  pub recovers : RecoversTo image result
  pub stands : StandsFor result committed ⊎ ((f.at ≡ Committing (Open true)) × StandsFor result frozen)
