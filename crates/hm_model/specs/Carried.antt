-- What is asked of that which is known of foreign masters: it agrees with the volume at the start, and with
-- what the run took from its streams.
use Rattle.std.specs.Prelude.{◌≡◌, ◌⊎◌, ℕ, ◌≤◌, List, [], ◌∷◌, ◌++◌, Bool, true, false, Option, Some, None, IfSome, filter, if◌then◌else◌, length}
use Rattle.std.specs.List.{AllZip, Contains}
use Rattle.std.specs.Option.{option_map_or}
use Rattle.hm_types.specs.Elements.{FullElement}
use Rattle.hm_types.specs.Intervals.{Keeps}
use Rattle.hm_model.specs.declared.entry.Entry.{Entry}
use Rattle.hm_types.specs.declared.object.Object.{Object}
use Rattle.hm_types.specs.Tree.{FileTree}
use Rattle.hm_model.specs.Volume.{Foreign, Master, PseudoFileSystem, Volume, at, system_of}
use Rattle.hm_model.specs.Foreign.{FedSlave, Feed, Foreigners, ForeignMaster, MasterList, StreamEnd}
use Rattle.hm_model.specs.Streams.{AreFollowing, Begin, Follows, IsMasterList, IsStreamOver, Item, Pass, Rec, Skip, Term}
use Rattle.hm_model.specs.Caused.{takes_stream}

-- Which tree the elements of a list show as of an id. How payloads spell objects is the grammar of payloads,
-- which joins above: here it is any such relation.
abbrev pub Shows : Type 1
Shows = List FullElement → ℕ → FileTree → Type 0

-- the retention that the last item brought, if it was taken
abbrev pub term_of : List Item → Option (List (ℕ × ℕ))
term_of [] = None
term_of (Term retention ∷ items) = Some retention
term_of (Begin shared begin end ∷ items) = term_of items
term_of (Rec s bytes ∷ items) = term_of items
term_of (Pass s ∷ items) = term_of items
term_of (Skip first next ∷ items) = term_of items

-- how a stream of these items ended, if it did
abbrev pub end_of_stream : List Item → Option StreamEnd
end_of_stream (Begin shared begin end ∷ items) =
    option_map_or (λ retention. Some (record { end = end; retention = retention })) (term_of items) None
end_of_stream [] = None
end_of_stream (Rec s bytes ∷ items) = None
end_of_stream (Pass s ∷ items) = None
end_of_stream (Skip first next ∷ items) = None
end_of_stream (Term retention ∷ items) = None

-- no object of a version has a number above the version's first id
abbrev pub AreNumbered : List (ℕ × FileTree) → Type 0
AreNumbered versions =
    (v : ℕ × FileTree) (o : Object) → Contains versions v → Contains v.1.objects o → o.number.0 ≤ v.0

-- A foreign master, of which items were taken: they are a stream over its lists, or a beginning of one, and
-- where its trees are certain each list shows them as of each id that it keeps, up to the end id.
pub record IsReadFromMaster (shows : Shows) (m : ForeignMaster) (items : List Item) : Type 0 where
  pub system : PseudoFileSystem
  pub found : system_of m.volume m.master ≡ Some system
  pub role : system.role ≡ Master
  pub lists : (list : MasterList) → Contains m.lists list → IsMasterList list
  pub following : AreFollowing m.end m.lists
  pub stream : IsStreamOver system.shared m.end m.lists items
  pub shown : system.clear ≡ true → (list : MasterList) (id : ℕ) → Contains m.lists list → id ≤ m.end →
      Keeps list.retention id → shows list.elements id (at m.volume m.master id)
  pub numbered : system.clear ≡ true → AreNumbered system.versions

-- A feed agrees with the items that were taken: the retention that it brings is that of the last item, where
-- this was taken, and the items are read from its master, where it names one.
pub record IsFedWith (shows : Shows) (feed : Feed) (items : List Item) : Type 0 where
  pub term : feed.term ≡ end_of_stream items
  pub master : IfSome feed.master (λ m. IsReadFromMaster shows m items)

-- the last of some lists
abbrev pub last_list : MasterList → List MasterList → MasterList
last_list list [] = list
last_list list (next ∷ lists) = last_list next lists

-- the first of some lists follows this one
abbrev pub FirstFollows : ℕ → MasterList → List MasterList → Type 0
FirstFollows end earlier [] = Unit {0}
FirstFollows end earlier (list ∷ lists) = Follows end earlier list

-- the lists of a later stream go on from those of an earlier one, whose end id this is
abbrev pub GoOn : ℕ → List MasterList → List MasterList → Type 0
GoOn end [] later = Unit {0}
GoOn end (list ∷ lists) later = FirstFollows end (last_list list lists) later

-- two streams from one source, the second one later, are of one master, and its lists go on
pub record IsLaterStream (m n : ForeignMaster) : Type 0 where
  pub master : n.master ≡ m.master
  pub lists : GoOn m.end m.lists n.lists

-- for each slave that a foreign master fed before the run its last list is known, to its sync end at least
abbrev pub AreKnown : Volume → List FedSlave → Type 0
AreKnown opening fed =
    (s : PseudoFileSystem) (source : ℕ) → Contains opening.systems s → s.origin ≡ Foreign source →
    (f : FedSlave) × Contains fed f × (f.slave ≡ s.number) × IsMasterList f.list × (s.sync_end ≤ f.end)

-- the openings of `mirror-write` that were accepted
abbrev pub write_openings : List Entry → List Entry
write_openings history = filter takes_stream history

-- What is known of foreign masters is carried by the items that each accepted opening of `mirror-write` took
-- in this history, on a volume that was so at the start. There is one feed for each such opening.
pub record IsCarried (shows : Shows) (opening : Volume) (foreigners : Foreigners) (history : List Entry)
    (taken : List (List Item)) : Type 0 where
  pub openings : length taken ≡ length (write_openings history)
  pub each : AllZip (IsFedWith shows) foreigners.streams taken
  pub known : AreKnown opening foreigners.fed
  pub later : (before : List Feed) (f : Feed) (between : List Feed) (g : Feed) (rest : List Feed)
      (m n : ForeignMaster) → foreigners.streams ≡ before ++ f ∷ between ++ g ∷ rest →
      f.master ≡ Some m → g.master ≡ Some n → m.source ≡ n.source → IsLaterStream m n
  pub first : (f : FedSlave) (s : PseudoFileSystem) (feed : Feed) (m : ForeignMaster) →
      Contains foreigners.fed f → system_of opening f.slave ≡ Some s → s.origin ≡ Foreign m.source →
      Contains foreigners.streams feed → feed.master ≡ Some m → FirstFollows f.end f.list m.lists
