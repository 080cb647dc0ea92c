-- The books of three states are in order together still, where the current one becomes the frozen one, or the frozen one the
-- committed one: what the trees refer to is all among what they referred to.
use Rattle.std.proofs.Common.{List, ◌++◌}
use Rattle.std.specs.List.{All, Contains}
use Rattle.std.proofs.lemmas.List.Elements.{All-append, All-contains, All-contains_itself, All-weaker, Contains-append_left, Contains-append_right}
use Rattle.hm_types.specs.References.{IsPlaced, Reference}
use Rattle.hm_freemap.specs.Stand.{IsBelow, all_of}
use Rattle.hm_stored.specs.Basis.{Basis, IsFirm, states_of}
use Rattle.hm_state.proofs.ListLemmas.{apart_of}

-- three lists as one, the last first
abbrev joined : List Reference → List Reference → List Reference → List Reference
joined us fs cs = us ++ (fs ++ cs)

among_left : (us vs : List Reference) → All (Contains (us ++ vs)) us
among_left us vs = All-weaker (Contains us) (Contains (us ++ vs)) (λ r. Contains-append_left us vs r) us (All-contains_itself us)

among_right : (us vs ws : List Reference) → All (Contains vs) ws → All (Contains (us ++ vs)) ws
among_right us vs ws all = All-weaker (Contains vs) (Contains (us ++ vs)) (λ r. Contains-append_right us vs r) ws all

all_among : (P : Reference → Type 0) (xs ys : List Reference) → All (Contains xs) ys → All P xs → All P ys
all_among P xs ys among all = All-weaker (Contains xs) P (λ r. All-contains P xs r all) ys among

-- the current list in place of the frozen one, and the frozen one in place of the committed one
among_frozen : (us fs cs : List Reference) → All (Contains (joined us fs cs)) (joined us us cs)
among_frozen us fs cs =
    let all = joined us fs cs in
    let mine = among_left us (fs ++ cs) in
    let committed = among_right us (fs ++ cs) cs (among_right fs cs cs (All-contains_itself cs)) in
    All-append (Contains all) us (us ++ cs) mine (All-append (Contains all) us cs mine committed)

among_committed : (us fs cs : List Reference) → All (Contains (joined us fs cs)) (joined us fs fs)
among_committed us fs cs =
    let all = joined us fs cs in
    let frozen = among_right us (fs ++ cs) fs (among_left fs cs) in
    All-append (Contains all) us (fs ++ fs) (among_left us (fs ++ cs)) (All-append (Contains all) fs fs frozen frozen)

-- the state after Freeze, and after the last stage of a flush
abbrev pub frozen_basis : Basis → Basis
frozen_basis b = record b {
  maps = record b.maps { frozen = b.maps.current };
  roots = record b.roots { frozen = b.roots.current };
}

abbrev pub committed_basis : Basis → Basis
committed_basis b = record b {
  maps = record b.maps { committed = b.maps.frozen };
  roots = record b.roots { committed = b.roots.frozen };
}

pub firm_frozen : (b : Basis) → IsFirm b → IsFirm (frozen_basis b)
firm_frozen b firm =
    let states = states_of b in
    let stand = firm.stand in
    let news = joined states.current states.current states.committed in
    let among = among_frozen states.current states.frozen states.committed in
    record {
      tree = firm.tree;
      stand = record {
        committed = stand.committed;
        frozen = stand.current;
        current = stand.current;
        appended = stand.appended;
        placed = all_among (IsPlaced b.bigblocks) (all_of states) news among stand.placed;
        below = all_among (IsBelow b.maps.current) (all_of states) news among stand.below;
        apart = apart_of (all_of states) news stand.apart among;
        few = (stand.few.0, stand.few.2, stand.few.2);
      };
      zones = firm.zones;
      fixed = firm.fixed;
    }

pub firm_committed : (b : Basis) → IsFirm b → IsFirm (committed_basis b)
firm_committed b firm =
    let states = states_of b in
    let stand = firm.stand in
    let news = joined states.current states.frozen states.frozen in
    let among = among_committed states.current states.frozen states.committed in
    record {
      tree = firm.tree;
      stand = record {
        committed = stand.frozen;
        frozen = stand.frozen;
        current = stand.current;
        appended = stand.appended;
        placed = all_among (IsPlaced b.bigblocks) (all_of states) news among stand.placed;
        below = all_among (IsBelow b.maps.current) (all_of states) news among stand.below;
        apart = apart_of (all_of states) news stand.apart among;
        few = (stand.few.1, stand.few.1, stand.few.2);
      };
      zones = firm.zones;
      fixed = firm.fixed;
    }
