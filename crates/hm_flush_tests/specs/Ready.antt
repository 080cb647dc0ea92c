-- What the fixtures of the tests keep.
use Rattle.std.specs.Prelude.{◌≡◌, None}
use Rattle.hm_header.specs.declared.header.Header.{Header}
use Rattle.hm_pages.specs.Store.{Store}
use Rattle.hm_flush.specs.declared.flush.Flush.{Flush}
use Rattle.hm_flush.specs.Calls.{AreFlushPlaces, IsFlushReady, IsTarget}

-- a store in which no call is open and nothing is frozen, on a volume of 24 big-blocks
pub record IsFresh (s : Store) : Type 0 where
  pub closed : s.begin ≡ None
  pub idle : s.boundary ≡ None
  pub placed : AreFlushPlaces 24 s

-- a flush and a store that a stage can be made of
pub record IsVolume (f : Flush) (s : Store) (now : Header) : Type 0 where
  pub ready : IsFlushReady f s
  pub target : IsTarget f now
