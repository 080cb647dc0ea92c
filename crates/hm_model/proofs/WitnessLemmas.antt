-- What the laws ask can be met: a volume with a master and a slave, one refused call, and one whole pass.
use Rattle.std.proofs.Common.{◌≡◌, ℕ, zero, suc, ◌<◌, List, [], ◌∷◌, get_or, refl, inl, inr, arith}
use Rattle.std.specs.Prelude.{None}
use Rattle.hm_types.specs.declared.text.Text.{Text}
use Rattle.hm_model.specs.declared.command.Command.TheVariants.{End, MirrorCopy, Sync}
use Rattle.hm_model.specs.declared.reply.Reply.TheVariants.{NoMemory, Passed}
use Rattle.hm_model.specs.After.{Event, OpenCall, State}
use Rattle.hm_model.specs.Foreign.{no_feed, no_foreigners}
use Rattle.hm_model.specs.Change.{new_slave}
use Rattle.hm_model.specs.Laws.{AreClear, AreRising, BeginBy, EndsPass, FollowsMaster, IsMasterThroughout, versions_of}
use Rattle.hm_model.specs.Legal.{IsLegal, MayFollow, Setting, no_counts}
use Rattle.hm_types.specs.Tree.{root_tree}
use Rattle.hm_model.specs.Volume.{Local, Nowhere, PseudoFileSystem, Volume, new_master}
use Rattle.hm_model.proofs.EventLemmas.{IsLegal-goes_on}
use Rattle.hm_model.proofs.HistoryLemmas.{last_or_before, nothing_in_none}
use Rattle.hm_model.proofs.SteadyLemmas.{master_throughout}

-- a new master, and a slave that was never fed
abbrev pub two : Volume
two = record {
  bigblocks = 100;
  last = 1;
  systems = new_master 0 0 ((1, root_tree) ∷ []) ∷ new_slave 1 7 ∷ [];
}

abbrev pub run : Setting
run = record { opening = two; foreigners = no_foreigners; free = 80; start = no_counts; now = no_counts }

-- a `sync` that found no memory
abbrev pub refused_sync : Event
refused_sync = record {
  entry = record { id = record { 0 = 2 }; lane = 0; line = 1; call = Sync; reply = NoMemory };
  paths = [];
  substitutes = [];
}

may_follow : MayFollow run [] refused_sync
may_follow = record {
  caused = record { id = refl; drawn = omega arith; read = tt; possible = (3, omega arith, refl); numbers = tt };
  allowed = λ clear. inr tt;
  lands = λ accepted. absurd (cc);
  fed = λ takes. absurd (cc);
  undamaged = tt;
}

pub legal : IsLegal run (refused_sync ∷ [])
legal = IsLegal-goes_on run [] refused_sync (λ before event rest is. absurd (nothing_in_none before event rest is)) may_follow

pub clear : AreClear run (refused_sync ∷ [])
clear before event rest is = elim (last_or_before [] refused_sync before event rest is) [
  | inl both ↦ let same : refused_sync ≡ event = both.1 in rw (← same) refl
  | inr more ↦ absurd (nothing_in_none before event more.0 more.1)
]

pub master : IsMasterThroughout run (refused_sync ∷ []) 0
master = master_throughout run (refused_sync ∷ []) 0 (new_master 0 0 ((1, root_tree) ∷ [])) legal refl refl

pub rising : AreRising (versions_of two 0)
rising = (omega arith, tt)

pub begun : BeginBy two.last (versions_of two 0)
begun = (omega arith, tt)

pub follows : FollowsMaster two 1 0
follows = record {
  own = new_slave 1 7;
  found = refl;
  drawn = omega arith;
  empty = λ role none id kept. kept;
  same = λ role local id by kept also. absurd kept;
}

-- a slave that a pass from the master fed up to the id 1
abbrev pub fed_slave : PseudoFileSystem
fed_slave = record (new_slave 1 7) {
  retention = (1, 1) ∷ [];
  sync_end = 1;
  versions = (1, root_tree) ∷ [];
  origin = Local 0;
}

abbrev pub fed : Volume
fed = record two { systems = new_master 0 0 ((1, root_tree) ∷ []) ∷ fed_slave ∷ [] }

pub fed_follows : FollowsMaster fed 1 0
fed_follows = record {
  own = fed_slave;
  found = refl;
  drawn = omega arith;
  empty = λ role none id kept. absurd (cc);
  same = λ role local id by kept also. elim kept [
    | inl held ↦ let one : id ≡ 1 = omega (arith, held.0, held.1) in rw one refl
    | inr none ↦ absurd none
  ];
}

-- a state in which the slave has a copy open, and the ending of that
abbrev pub copy : Text → OpenCall
copy path = record {
  opening = 3;
  command = MirrorCopy path path None;
  pfs = 1;
  master = 0;
  origin = Nowhere;
  stream = no_feed;
}

abbrev pub copying : Text → State
copying path = record { volume = two; opened = copy path ∷ []; streams = [] }

abbrev pub copied : Event
copied = record {
  entry = record {
    id = record { 0 = 4 };
    lane = 0;
    line = 1;
    call = End (record { 0 = 3 });
    reply = Passed (record { 0 = 0 }) (record { 0 = 1 });
  };
  paths = [];
  substitutes = [];
}

pub ends : (path : Text) → EndsPass (copying path) copied (copy path) (record { 0 = 0 }) (record { 0 = 1 })
ends path = record { opening = record { 0 = 3 }; call = refl; reply = refl; found = refl; pass = refl }
