-- What an image recovers to: a volume with the state that is committed, or with the one that is being committed.
use Rattle.std.specs.Prelude.{◌≡◌, ◌⊎◌, ℕ, ◌+◌, ◌*◌, ◌<◌, ◌≤◌, true, List, Some, length, slice_index, slice_range}
use Rattle.hm_types.specs.declared.limits.TheConstants.{PAGE_BYTES}
use Rattle.hm_types.specs.Offset.{byte_of}
use Rattle.hm_fields.specs.Pages.{PageMap}
use Rattle.hm_header.specs.declared.header.Header.{Header}
use Rattle.hm_header.specs.declared.header.TheConstants.{SLOT_BYTES}
use Rattle.hm_header.specs.OnDisk.{HasHeader}
use Rattle.hm_pages.specs.Store.{Store}
use Rattle.hm_undo.specs.Recovered.{RecoversTo}
use Rattle.hm_flush.specs.declared.change.Change.TheVariants.{Open}
use Rattle.hm_flush.specs.declared.flush.Flush.{Flush}
use Rattle.hm_flush.specs.declared.flush.Position.TheVariants.{Committing}

-- a byte of the page at this offset
abbrev pub IsInPage : ℕ → ℕ → Type 0
IsInPage at byte = (byte_of at ≤ byte) × (byte < byte_of at + PAGE_BYTES)

-- a byte of one of the pages of a map
abbrev pub IsInPages : PageMap → ℕ → Type 0
IsInPages map byte = (at : ℕ) × (page : List ℕ) × (map at ≡ Some page) × IsInPage at byte

-- this page stands where it belongs
abbrev pub HoldsPage : List ℕ → ℕ → List ℕ → Type 0
HoldsPage bytes at page = slice_range bytes (byte_of at) (byte_of at + PAGE_BYTES) ≡ page

-- so does each page of a map
abbrev pub HoldsPages : PageMap → List ℕ → Type 0
HoldsPages map bytes = (at : ℕ) (page : List ℕ) → map at ≡ Some page → HoldsPage bytes at page

-- a header tells of the same state as another: it differs in the generation and the log alone
pub record HasStateOf (header own : Header) : Type 0 where
  pub version : own.version ≡ header.version
  pub bigblocks : own.bigblocks ≡ header.bigblocks
  pub last : own.last ≡ header.last
  pub root : own.root ≡ header.root
  pub append : own.append ≡ header.append

-- What a recovered image has: a header counts with the state of this one, and names no range. Each page of this map
-- stands where it belongs, and past the slots each byte of none of these is as it was before recovery.
pub record HasState (header : Header) (map : PageMap) (image result : List ℕ) : Type 0 where
  pub own : Header
  pub slot : ℕ
  pub counts : HasHeader result own slot
  pub state : HasStateOf header own
  pub unarmed : own.undo_count ≡ 0
  pub pages : HoldsPages map result
  pub size : length result ≡ length image
  pub others : (byte : ℕ) → 2 * SLOT_BYTES ≤ byte → byte < length image → ¬ IsInPages map byte
      → slice_index result byte ≡ slice_index image byte

-- an image recovers to one that has this
pub record RecoversToState (header : Header) (map : PageMap) (image : List ℕ) : Type 0 where
  pub result : List ℕ
  pub recovers : RecoversTo image result
  pub has : HasState header map image result

-- An image recovers to the committed state, or, where the last stage of a flush was tried, to the frozen one.
abbrev pub Recoverable : Flush → Store → List ℕ → Type 0
Recoverable f s image =
    RecoversToState f.header s.committed image
    ⊎ ((f.at ≡ Committing (Open true)) × RecoversToState f.target s.frozen image)
