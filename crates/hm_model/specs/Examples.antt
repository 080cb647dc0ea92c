-- Histories of a few lines, entry by entry, each as its run would print it.
use Rattle.std.specs.Prelude.{ℕ, ◌-◌, List, [], ◌∷◌, ◌++◌, true, false, Some, None, codes}
use Rattle.hm_path.specs.declared.part.Part.{Part}
use Rattle.hm_model.specs.declared.command.Command.{Command}
use Rattle.hm_model.specs.declared.command.Command.TheVariants.{Touch, Mkdir, Write, Cat, Ls, Readlink, Snapshot, Prune, PruneAll, PfsMaster, PfsSlave, PfsStatus, PfsUpgrade, MirrorRead, MirrorWrite, MirrorCopy, End}
use Rattle.hm_model.specs.declared.reply.Reply.{Reply}
use Rattle.hm_model.specs.declared.reply.Reply.TheVariants.{Done, Content, Listing, Target, Finished, Passed, Cut, MadePfs, PfsIs, Busy, EndPruned, NoSnapshots, NotRetained, ReadOnly}
use Rattle.hm_model.specs.Sites.{Parts}
use Rattle.hm_model.specs.Volume.{fresh}
use Rattle.hm_types.specs.Intervals.{open_end}
use Rattle.hm_model.specs.Foreign.{Feed, ForeignMaster, StreamEnd, no_foreigners}
use Rattle.hm_model.specs.After.{Event}
use Rattle.hm_model.specs.Legal.{Setting, no_counts, pool_of}

-- a run over a volume as it is made, of so many big-blocks, of which each zone has one; no device fails
abbrev pub on_new : ℕ → Setting
on_new bigblocks = record {
  opening = fresh bigblocks;
  foreigners = no_foreigners;
  free = pool_of (fresh bigblocks) - 4;
  start = no_counts;
  now = no_counts;
}

-- the same of 100 big-blocks
abbrev pub on_fresh : Setting
on_fresh = on_new 100

-- the same with these feeds
abbrev pub fed_with : List Feed → Setting
fed_with feeds = record on_fresh { foreigners = record { fed = []; streams = feeds } }

-- the entry of a call with this id and line, and how its paths are read; and that of an ending
abbrev pub answered : ℕ → ℕ → Command → List (List Part) → Reply → Event
answered id line command [] reply = record {
  entry = record { id = record { 0 = id }; lane = 0; line = line; call = command; reply = reply };
  paths = [];
  substitutes = [];
}
answered id line command (first ∷ []) reply = record {
  entry = record { id = record { 0 = id }; lane = 0; line = line; call = command; reply = reply };
  paths = Parts first ∷ [];
  substitutes = [];
}
answered id line command (first ∷ second ∷ more) reply = record {
  entry = record { id = record { 0 = id }; lane = 0; line = line; call = command; reply = reply };
  paths = Parts first ∷ Parts second ∷ [];
  substitutes = [];
}

abbrev pub ended_with : ℕ → ℕ → ℕ → Reply → Event
ended_with id line opening reply = answered id line (End (record { 0 = opening })) [] reply

-- a part of a path: a name, or an id
abbrev pub by_name : List ℕ → Part
by_name name = record { name = Some name; as_of = None }

abbrev pub by_id : ℕ → Part
by_id id = record { name = None; as_of = Some (record { 0 = id }) }

-- a new volume of 24 big-blocks, of which a stream was sent that went to the id 2
abbrev pub new_volume : ForeignMaster
new_volume = record { source = 1; volume = record (fresh 24) { last = 3 }; master = 0; end = 2; lists = [] }

-- how the stream ended
abbrev pub stream_end : StreamEnd
stream_end = record { end = 2; retention = (1, open_end) ∷ [] }

-- its feed, with its master and without
abbrev pub of_new_volume : Feed
of_new_volume = record { master = Some new_volume; term = Some stream_end }

abbrev pub of_nobody : Feed
of_nobody = record { master = None; term = Some stream_end }

-- Reads of the past: a file is written twice, and read as of each id and now.
abbrev pub reads_of_the_past : List Event
reads_of_the_past =
    answered 2 1 (Touch (codes "/f")) ((by_name (codes "f") ∷ []) ∷ []) Done
    ∷ answered 3 2 (Write (codes "/f") 0 (0x61 ∷ 0x61 ∷ [])) ((by_name (codes "f") ∷ []) ∷ []) Done
    ∷ answered 4 3 (Write (codes "/f") 0 (0x62 ∷ 0x62 ∷ [])) ((by_name (codes "f") ∷ []) ∷ []) Done
    ∷ answered 5 4 (Cat (codes "/@@0x0000000000000003/f") 0 10) ((by_id 3 ∷ by_name (codes "f") ∷ []) ∷ []) (Content (0x61 ∷ 0x61 ∷ []))
    ∷ answered 6 5 (Cat (codes "/@@0x0000000000000004/f") 0 10) ((by_id 4 ∷ by_name (codes "f") ∷ []) ∷ []) (Content (0x62 ∷ 0x62 ∷ []))
    ∷ answered 7 6 (Cat (codes "/f") 0 10) ((by_name (codes "f") ∷ []) ∷ []) (Content (0x62 ∷ 0x62 ∷ []))
    ∷ answered 8 7 (Cat (codes "/@@0x0000000000000002/f") 0 10) ((by_id 2 ∷ by_name (codes "f") ∷ []) ∷ []) (Content [])
    ∷ []

-- Snapshots and a prune: what no snapshot names is gone, and what one names stays.
abbrev pub snapshots_and_prune : List Event
snapshots_and_prune =
    answered 2 1 (Touch (codes "/f")) ((by_name (codes "f") ∷ []) ∷ []) Done
    ∷ answered 3 2 (Write (codes "/f") 0 (0x31 ∷ [])) ((by_name (codes "f") ∷ []) ∷ []) Done
    ∷ answered 4 3 (Mkdir (codes "/s")) ((by_name (codes "s") ∷ []) ∷ []) Done
    ∷ answered 5 4 (Snapshot (codes "/s/one")) ((by_name (codes "s") ∷ by_name (codes "one") ∷ []) ∷ []) Done
    ∷ answered 6 5 (Write (codes "/f") 0 (0x32 ∷ [])) ((by_name (codes "f") ∷ []) ∷ []) Done
    ∷ answered 7 6 (Write (codes "/f") 0 (0x33 ∷ [])) ((by_name (codes "f") ∷ []) ∷ []) Done
    ∷ answered 8 7 (Snapshot (codes "/s/two")) ((by_name (codes "s") ∷ by_name (codes "two") ∷ []) ∷ []) Done
    ∷ answered 9 8 (Write (codes "/f") 0 (0x34 ∷ [])) ((by_name (codes "f") ∷ []) ∷ []) Done
    ∷ answered 10 9 (Prune (codes "/s")) ((by_name (codes "s") ∷ []) ∷ []) Done
    ∷ ended_with 11 9 10 Finished
    ∷ answered 12 10 (Cat (codes "/@@0x0000000000000004/f") 0 1) ((by_id 4 ∷ by_name (codes "f") ∷ []) ∷ []) (Content (0x31 ∷ []))
    ∷ answered 13 11 (Cat (codes "/@@0x0000000000000006/f") 0 1) ((by_id 6 ∷ by_name (codes "f") ∷ []) ∷ []) NotRetained
    ∷ answered 14 12 (Cat (codes "/@@0x0000000000000007/f") 0 1) ((by_id 7 ∷ by_name (codes "f") ∷ []) ∷ []) (Content (0x33 ∷ []))
    ∷ answered 15 13 (Cat (codes "/f") 0 1) ((by_name (codes "f") ∷ []) ∷ []) (Content (0x34 ∷ []))
    ∷ answered 16 14 (Prune (codes "/")) ([] ∷ []) NoSnapshots
    ∷ answered 17 15 (PfsStatus (codes "/")) ([] ∷ []) (PfsIs true (record { 0 = 0 }) 0 2 (record { 0 = 0 }))
    ∷ answered 18 16 (Readlink (codes "/s/one")) ((by_name (codes "s") ∷ by_name (codes "one") ∷ []) ∷ []) (Target (codes "@@0x0000000000000004"))
    ∷ []

-- Copies from a master into a slave: one whole, one cut after an item, which shows nothing of it, and one that goes on to the end.
abbrev pub mirror_copies : List Event
mirror_copies =
    answered 2 1 (PfsMaster (codes "/m") 0xAA) ((by_name (codes "m") ∷ []) ∷ []) (MadePfs (record { 0 = 1 }))
    ∷ answered 3 2 (PfsSlave (codes "/s") 0xAA) ((by_name (codes "s") ∷ []) ∷ []) (MadePfs (record { 0 = 2 }))
    ∷ answered 4 3 (Touch (codes "/m/a")) ((by_name (codes "m") ∷ by_name (codes "a") ∷ []) ∷ []) Done
    ∷ answered 5 4 (Write (codes "/m/a") 0 (0x31 ∷ [])) ((by_name (codes "m") ∷ by_name (codes "a") ∷ []) ∷ []) Done
    ∷ answered 6 5 (MirrorCopy (codes "/m") (codes "/s") None) ((by_name (codes "m") ∷ []) ∷ (by_name (codes "s") ∷ []) ∷ []) Done
    ∷ ended_with 7 5 6 (Passed (record { 0 = 0 }) (record { 0 = 6 }))
    ∷ answered 8 6 (Touch (codes "/m/b")) ((by_name (codes "m") ∷ by_name (codes "b") ∷ []) ∷ []) Done
    ∷ answered 9 7 (MirrorCopy (codes "/m") (codes "/s") (Some 1)) ((by_name (codes "m") ∷ []) ∷ (by_name (codes "s") ∷ []) ∷ []) Done
    ∷ ended_with 10 7 9 (Cut 1)
    ∷ answered 11 8 (Ls (codes "/s")) ((by_name (codes "s") ∷ []) ∷ []) (Listing ((2, codes "a") ∷ []))
    ∷ answered 12 9 (MirrorCopy (codes "/m") (codes "/s") None) ((by_name (codes "m") ∷ []) ∷ (by_name (codes "s") ∷ []) ∷ []) Done
    ∷ ended_with 13 9 12 (Passed (record { 0 = 6 }) (record { 0 = 12 }))
    ∷ answered 14 10 (Ls (codes "/s")) ((by_name (codes "s") ∷ []) ∷ []) (Listing ((2, codes "a") ∷ (2, codes "b") ∷ []))
    ∷ answered 15 11 (Touch (codes "/s/c")) ((by_name (codes "s") ∷ by_name (codes "c") ∷ []) ∷ []) ReadOnly
    ∷ answered 16 12 (PfsStatus (codes "/s")) ((by_name (codes "s") ∷ []) ∷ []) (PfsIs false (record { 0 = 2 }) 0xAA 1 (record { 0 = 12 }))
    ∷ []

-- A slave that was fed by a whole copy and a cut one is made a master, as of the whole one.
abbrev pub an_upgrade : List Event
an_upgrade =
    answered 2 1 (PfsMaster (codes "/m") 0xAA) ((by_name (codes "m") ∷ []) ∷ []) (MadePfs (record { 0 = 1 }))
    ∷ answered 3 2 (PfsSlave (codes "/s") 0xAA) ((by_name (codes "s") ∷ []) ∷ []) (MadePfs (record { 0 = 2 }))
    ∷ answered 4 3 (Touch (codes "/m/a")) ((by_name (codes "m") ∷ by_name (codes "a") ∷ []) ∷ []) Done
    ∷ answered 5 4 (MirrorCopy (codes "/m") (codes "/s") None) ((by_name (codes "m") ∷ []) ∷ (by_name (codes "s") ∷ []) ∷ []) Done
    ∷ ended_with 6 4 5 (Passed (record { 0 = 0 }) (record { 0 = 5 }))
    ∷ answered 7 5 (Touch (codes "/m/b")) ((by_name (codes "m") ∷ by_name (codes "b") ∷ []) ∷ []) Done
    ∷ answered 8 6 (MirrorCopy (codes "/m") (codes "/s") (Some 1)) ((by_name (codes "m") ∷ []) ∷ (by_name (codes "s") ∷ []) ∷ []) Done
    ∷ ended_with 9 6 8 (Cut 1)
    ∷ answered 10 7 (PfsUpgrade (codes "/s")) ((by_name (codes "s") ∷ []) ∷ []) Done
    ∷ ended_with 11 7 10 Finished
    ∷ answered 12 8 (Ls (codes "/s")) ((by_name (codes "s") ∷ []) ∷ []) (Listing ((2, codes "a") ∷ []))
    ∷ answered 13 9 (Touch (codes "/s/c")) ((by_name (codes "s") ∷ by_name (codes "c") ∷ []) ∷ []) Done
    ∷ answered 14 10 (PfsStatus (codes "/s")) ((by_name (codes "s") ∷ []) ∷ []) (PfsIs true (record { 0 = 2 }) 0xAA 1 (record { 0 = 0 }))
    ∷ []

-- The whole of a new volume is sent as a stream.
abbrev pub a_stream_is_sent : List Event
a_stream_is_sent =
    answered 2 1 (MirrorRead (codes "/") (record { 0 = 0 })) ([] ∷ []) Done
    ∷ ended_with 3 1 2 (Passed (record { 0 = 0 }) (record { 0 = 2 }))
    ∷ []

-- A stream is being sent, and its end id is pruned meanwhile; a second one is not begun beside it.
abbrev pub a_pruned_end : List Event
a_pruned_end =
    answered 2 1 (Touch (codes "/f")) ((by_name (codes "f") ∷ []) ∷ []) Done
    ∷ answered 3 2 (MirrorRead (codes "/") (record { 0 = 0 })) ([] ∷ []) Done
    ∷ answered 4 3 (MirrorRead (codes "/") (record { 0 = 0 })) ([] ∷ []) (Busy (record { 0 = 3 }))
    ∷ answered 5 4 (PruneAll (codes "/")) ([] ∷ []) Done
    ∷ ended_with 6 4 5 Finished
    ∷ ended_with 7 2 3 (EndPruned (record { 0 = 4 }) (record { 0 = 5 }))
    ∷ []

-- A slave takes the stream of a new volume, and shows that volume's root. Then the run goes on.
abbrev pub a_foreign_stream : List Event
a_foreign_stream =
    answered 2 1 (PfsSlave (codes "/s") 0) ((by_name (codes "s") ∷ []) ∷ []) (MadePfs (record { 0 = 1 }))
    ∷ answered 3 2 (MirrorWrite (codes "/s")) ((by_name (codes "s") ∷ []) ∷ []) Done
    ∷ ended_with 4 2 3 (Passed (record { 0 = 0 }) (record { 0 = 2 }))
    ∷ answered 5 3 (Ls (codes "/s")) ((by_name (codes "s") ∷ []) ∷ []) (Listing [])
    ∷ answered 6 4 (Touch (codes "/t")) ((by_name (codes "t") ∷ []) ∷ []) Done
    ∷ []

-- The same bytes, for which nobody answers: the slave's record has what the stream brought, and its trees are not certain.
abbrev pub a_stream_of_nobody : List Event
a_stream_of_nobody =
    answered 2 1 (PfsSlave (codes "/s") 0) ((by_name (codes "s") ∷ []) ∷ []) (MadePfs (record { 0 = 1 }))
    ∷ answered 3 2 (MirrorWrite (codes "/s")) ((by_name (codes "s") ∷ []) ∷ []) Done
    ∷ ended_with 4 2 3 (Passed (record { 0 = 0 }) (record { 0 = 2 }))
    ∷ answered 5 3 (PfsStatus (codes "/s")) ((by_name (codes "s") ∷ []) ∷ []) (PfsIs false (record { 0 = 1 }) 0x0 1 (record { 0 = 2 }))
    ∷ answered 6 4 (Touch (codes "/t")) ((by_name (codes "t") ∷ []) ∷ []) Done
    ∷ []
