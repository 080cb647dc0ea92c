-- What bytes have, once all that a space holds was written to them.
use Rattle.std.specs.Prelude.{◌≡◌, ℕ, ◌*◌, ◌<◌, List, None, Some, IfSome, map}
use Rattle.std.specs.List.{All}
use Rattle.hm_types.specs.Layout.{blocks_per_layer2, layer2_blocks}
use Rattle.hm_fields.specs.Fields.{AreBytes}
use Rattle.hm_freemap.specs.Places.{page_of}
use Rattle.hm_header.specs.declared.header.Header.{Header}
use Rattle.hm_image.specs.Image.{pages_of, to_payload}
use Rattle.hm_image.specs.Same.{HasSameBytes}
use Rattle.hm_image.specs.Sound.{HasEntry, HasLayer1}
use Rattle.hm_stored.specs.Basis.{elements_in, entry_outside}
use Rattle.hm_stored.specs.Heap.{Heap}
use Rattle.hm_stored.specs.Standing.{basis_now}

-- a header is that of a space with this root and this last id
pub record IsHeaderOf (h : Heap) (root last : ℕ) (header : Header) : Type 0 where
  pub bigblocks : header.bigblocks ≡ h.bigblocks
  pub append : header.append ≡ h.append
  pub root_is : header.root ≡ root
  pub last_is : header.last.0 ≡ last

-- the payloads of the elements from a root on have the same bytes
abbrev pub HasSamePayloads : Heap → ℕ → List ℕ → List ℕ → Type 0
HasSamePayloads h root old new = All (HasSameBytes old new) (map to_payload (elements_in (basis_now h root)))

-- The bytes have all that a space holds: layer 1 of a volume of its size, each of its pages, which are bytes, and the
-- payloads that its disk tells. Of layer 2 a space keeps the pages with entries of its big-blocks alone: those of the
-- others have the entries that they must.
pub record IsWritten (h : Heap) (root : ℕ) (image : List ℕ) : Type 0 where
  pub layer1 : HasLayer1 image h.bigblocks
  pub pages : (at : ℕ) (page : List ℕ) → h.pages.current at ≡ Some page → pages_of image at ≡ Some page
  pub bytes : (at : ℕ) (page : List ℕ) → h.pages.current at ≡ Some page → AreBytes page
  pub past : (block : ℕ) → block < layer2_blocks h.bigblocks * blocks_per_layer2 → h.pages.current (page_of block) ≡ None
      → HasEntry image block (entry_outside h.bigblocks block)
  pub payloads : IfSome h.disk (λ t. HasSamePayloads h root t.bytes image)
