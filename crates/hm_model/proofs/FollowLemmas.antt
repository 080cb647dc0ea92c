-- That a slave follows its master is what it has as its twin.
use Rattle.std.proofs.Common.{◌≡◌, ℕ, List, [], refl, ◌∙◌, ap, sym, subst}
use Rattle.std.specs.Prelude.{Option, Some}
use Rattle.std.specs.Option.{option_map_or}
use Rattle.hm_model.specs.After.{Event, State, opening_state}
use Rattle.hm_model.specs.Laws.{AreRising, BeginBy, FollowsMaster, IsMasterThroughout, IsSteadyMaster, retention_of, versions_of}
use Rattle.hm_model.specs.Legal.{IsLegal, Setting, state_after}
use Rattle.hm_types.specs.Tree.{no_tree}
use Rattle.hm_model.specs.Volume.{Origin, Nowhere, Local, Foreign, Mixed, PseudoFileSystem, Slave, Volume, as_of, at, system_of}
use Rattle.hm_model.proofs.GrowthLemmas.{at-versions, versions_in}
use Rattle.hm_model.proofs.SourceLemmas.{Follows}
use Rattle.hm_model.proofs.TwinHistoryLemmas.{IsTwin, Twin-history}

-- the trees and the retention of a PFS that is found
pub at_found : (volume : Volume) (pfs id : ℕ) (s : PseudoFileSystem) → system_of volume pfs ≡ Some s → at volume pfs id ≡ as_of id no_tree s.versions
at_found volume pfs id s found = at-versions volume pfs id ∙ ap (λ (x : Option PseudoFileSystem). as_of id no_tree (versions_in x)) found

pub retention_found : (volume : Volume) (pfs : ℕ) (s : PseudoFileSystem) → system_of volume pfs ≡ Some s → retention_of volume pfs ≡ s.retention
retention_found volume pfs s found = ap (λ (x : Option PseudoFileSystem). option_map_or (λ (y : PseudoFileSystem). y.retention) x []) found

-- at the start
follows_origin : (volume : Volume) (slave m : ℕ) (t : PseudoFileSystem) (follows : FollowsMaster volume slave m) → system_of volume m ≡ Some t →
    follows.own.role ≡ Slave → (origin : Origin) → follows.own.origin ≡ origin → Follows m follows.own t origin
follows_origin volume slave m t follows found role Nowhere is = follows.empty role is
follows_origin volume slave m t follows found role (Local n) is = λ same id by kept also.
    sym (at_found volume slave id follows.own follows.found)
    ∙ (follows.same role (is ∙ ap Local same) id by kept (rw (retention_found volume m t found) also)
    ∙ at_found volume m id t found)
follows_origin volume slave m t follows found role (Foreign k) is = tt
follows_origin volume slave m t follows found role Mixed is = tt

twin_opening : (run : Setting) (slave m : ℕ) → IsSteadyMaster (opening_state run.opening run.foreigners) m → AreRising (versions_of run.opening m) →
    BeginBy run.opening.last (versions_of run.opening m) → FollowsMaster run.opening slave m → IsTwin (opening_state run.opening run.foreigners) slave m
twin_opening run slave m steady rising begun follows =
    let versions : versions_of run.opening m ≡ steady.system.versions = ap versions_in steady.found in
    record {
      own = follows.own;
      other = steady.system;
      found = follows.found;
      found_other = steady.found;
      drawn = follows.drawn;
      follows = λ role. follows_origin run.opening slave m steady.system follows steady.found role follows.own.origin refl;
      fed = tt;
      one = tt;
      rising = rw versions at rising;
      begun = rw versions at begun;
    }

-- and at the end
pub twin_follows : (state : State) (slave m : ℕ) → IsTwin state slave m → FollowsMaster state.volume slave m
twin_follows state slave m twin = record {
  own = twin.own;
  found = twin.found;
  drawn = twin.drawn;
  empty = λ role is. subst (Follows m twin.own twin.other) is (twin.follows role);
  same = λ role is id by kept also.
      at_found state.volume slave id twin.own twin.found
      ∙ (subst (Follows m twin.own twin.other) is (twin.follows role) refl id by kept (rw (retention_found state.volume m twin.other twin.found_other) at also)
      ∙ sym (at_found state.volume m id twin.other twin.found_other));
}

pub FollowsMaster-legal : (run : Setting) (events : List Event) (slave m : ℕ) → IsLegal run events → IsMasterThroughout run events m →
    AreRising (versions_of run.opening m) → BeginBy run.opening.last (versions_of run.opening m) → FollowsMaster run.opening slave m →
    FollowsMaster (state_after run events).volume slave m
FollowsMaster-legal run events slave m legal master rising begun follows =
    twin_follows (state_after run events) slave m
    (Twin-history run [] events slave m legal master (record { last = refl; opened = refl })
    (twin_opening run slave m (master [] events refl) rising begun follows))
