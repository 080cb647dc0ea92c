-- What a tree refers to, and which space is live and free by it, counted from nothing: no entry of a freemap
-- stands in these definitions.
use Rattle.std.specs.Prelude.{◌≡◌, ◌⊎◌, ℕ, ◌+◌, ◌-◌, ◌%◌, ◌<◌, ◌≤◌, Bool, true, false, not, ◌&&◌, if◌then◌else◌, ◌==◌, List, [], ◌∷◌, All, count_by}
use Rattle.std.specs.List.{list_any, range_with_len}
use Rattle.hm_types.specs.Layout.{IsPool, block_of, first_pool}
use Rattle.hm_types.specs.Offset.{zone_of, volume_of, byte_of}
use Rattle.hm_types.specs.Space.{rounded}
use Rattle.hm_types.specs.declared.limits.TheConstants.{PAGE_BYTES}
use Rattle.hm_types.specs.declared.space.TheConstants.{MOST_REFERENCES}
use Rattle.hm_types.specs.declared.zone.TheConstants.{TREE_ZONE, SMALL_ZONE}

-- what a tree refers to: a node of it, or the payload of one of its elements
pub record Reference : Type 0 where
  -- the offset of its first byte
  pub at : ℕ
  -- its length in bytes, as the tree has it: 4,096 of a node
  pub len : ℕ

-- the first byte of its extent, counted from the start of the volume, and the first byte behind it
abbrev pub begin_of : Reference → ℕ
begin_of r = byte_of r.at

abbrev pub end_of : Reference → ℕ
end_of r = byte_of r.at + rounded r.len

-- both refer to one extent
pub record IsOneExtent (r s : Reference) : Type 0 where
  pub place : r.at ≡ s.at
  pub size : rounded r.len ≡ rounded s.len

-- their extents are one, or share no byte
abbrev pub DoNotOverlap : Reference → Reference → Type 0
DoNotOverlap r s = IsOneExtent r s ⊎ (end_of r ≤ begin_of s) ⊎ (end_of s ≤ begin_of r)

-- each two of them do not overlap
abbrev pub NoneOverlap : List Reference → Type 0
NoneOverlap [] = Unit {0}
NoneOverlap (r ∷ rs) = All (DoNotOverlap r) rs × NoneOverlap rs

-- whether both refer to the bytes at one offset
abbrev pub is_there : Reference → Reference → Bool
is_there r s = r.at == s.at

-- no extent has more references than one may have
abbrev pub AreFew : List Reference → Type 0
AreFew rs = All (λ r. count_by (is_there r) rs ≤ MOST_REFERENCES) rs

-- how far apart extents of a zone begin, in bytes: nodes fill whole pages
abbrev pub unit_of : ℕ → ℕ
unit_of zone = if zone == TREE_ZONE then PAGE_BYTES else 16

-- its extent may stand where it does, on a volume of so many big-blocks: at a multiple of its zone's unit, whole
-- inside one big-block of the pool
pub record IsPlaced (bigblocks : ℕ) (r : Reference) : Type 0 where
  pub some : 1 ≤ r.len
  pub volume : volume_of r.at ≡ 0
  pub zone : (TREE_ZONE ≤ zone_of r.at) × (zone_of r.at ≤ SMALL_ZONE)
  pub unit : begin_of r % unit_of (zone_of r.at) ≡ 0
  pub pool : IsPool bigblocks (block_of (begin_of r))
  pub inside : block_of (end_of r - 1) ≡ block_of (begin_of r)

-- whether it refers into a big-block
abbrev pub is_in : ℕ → Reference → Bool
is_in block r = block_of (begin_of r) == block

-- the bytes of a big-block that are live, each as often as it is referred to
abbrev pub live_bytes : List Reference → ℕ → ℕ
live_bytes [] block = 0
live_bytes (r ∷ rs) block = (if is_in block r then rounded r.len else 0) + live_bytes rs block

-- what the trees of three states refer to: of the one that is committed, of the one that is being flushed, and of
-- the one that calls see and change
pub record References : Type 0 where
  pub committed : List Reference
  pub frozen : List Reference
  pub current : List Reference

-- whether nothing in a big-block is live in any of the three
abbrev pub is_unused : References → ℕ → Bool
is_unused states block =
    (live_bytes states.committed block == 0) && (live_bytes states.frozen block == 0) && (live_bytes states.current block == 0)

-- whether a big-block is one of those that zones are appending to
abbrev pub is_append : List ℕ → ℕ → Bool
is_append append block = list_any (λ b. b == block) append

-- whether a big-block of the pool is free: it is none that is appended to, and nothing in it is live
abbrev pub is_free : List ℕ → References → ℕ → Bool
is_free append states block = not (is_append append block) && is_unused states block

-- the big-blocks of the pool, on a volume of so many
abbrev pub pool : ℕ → List ℕ
pool bigblocks = range_with_len (first_pool bigblocks) (bigblocks - first_pool bigblocks)

-- how many big-blocks of the pool are free
abbrev pub free_blocks : ℕ → List ℕ → References → ℕ
free_blocks bigblocks append states = count_by (is_free append states) (pool bigblocks)
