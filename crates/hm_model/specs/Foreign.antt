-- The masters of other volumes, whose streams feed slaves of this one.
use Rattle.std.specs.Prelude.{ℕ, List, [], ◌∷◌, Option, None}
use Rattle.std.specs.Option.{option_map_or}
use Rattle.hm_types.specs.Elements.{Key, FullElement}
use Rattle.hm_model.specs.Volume.{Volume}

-- What a master holds at one time: its elements with their payloads, in the order of their keys, a mark for
-- each key, and its retention. Keys are without the number of the PFS, and its record is none of the elements.
pub record MasterList : Type 0 where
  pub elements : List FullElement
  pub mark : Key → ℕ
  pub retention : List (ℕ × ℕ)

-- a master of another volume, by a key that tells sources apart, with the end id of a stream that was read
-- from it, and the lists that its items were read from
pub record ForeignMaster : Type 0 where
  pub source : ℕ
  pub volume : Volume
  pub master : ℕ
  pub end : ℕ
  pub lists : List MasterList

-- how a stream ended: the end id of its pass, and the retention that its last item brought
pub record StreamEnd : Type 0 where
  pub end : ℕ
  pub retention : List (ℕ × ℕ)

-- What an accepted opening of `mirror-write` is fed with: the master that its stream was read from, or none
-- where nobody answers for one; and how the stream ended, where its last item was taken.
pub record Feed : Type 0 where
  pub master : Option ForeignMaster
  pub term : Option StreamEnd

-- the last list of a slave's foreign master, with the end of the pass that read it
pub record FedSlave : Type 0 where
  pub slave : ℕ
  pub list : MasterList
  pub end : ℕ

-- what is known of foreign masters: the list of each slave that one has fed before the run, and a feed for
-- each opening of `mirror-write` that is accepted in it
pub record Foreigners : Type 0 where
  pub fed : List FedSlave
  pub streams : List Feed

-- a feed of nothing
abbrev pub no_feed : Feed
no_feed = record { master = None; term = None }

-- no foreign master
abbrev pub no_foreigners : Foreigners
no_foreigners = record { fed = []; streams = [] }

-- the retention that the end of a stream brought
abbrev pub brought : Feed → List (ℕ × ℕ)
brought feed = option_map_or (λ (t : StreamEnd). t.retention) feed.term []
