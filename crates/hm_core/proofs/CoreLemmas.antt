-- A core follows another one, over each volume on which its run may have begun.
use Rattle.std.proofs.Common.{◌≡◌, inl, ℕ, ◌≤◌, List, [], ◌++◌, append-nil, append_assoc, refl, sym, ap, subst, ◌∙◌, arith}
use Rattle.hm_disk.specs.Moments.{LeftSince}
use Rattle.hm_model.specs.After.{Event}
use Rattle.hm_model.specs.Foreign.{Foreigners}
use Rattle.hm_model.specs.Volume.{Volume}
use Rattle.hm_model.specs.declared.entry.Entry.{Entry}
use Rattle.hm_core.specs.Core.{Follows, GoesOnOverEach, GoesOnBy, IsGuarded, IsSoundCore, StandsOver}
use Rattle.hm_core.specs.Crash.{IsBetween, LeavesPrefixes}
use Rattle.hm_core.specs.History.{up_to}
use Rattle.hm_core.specs.State.{CoreState}
use Rattle.hm_core.proofs.CountLemmas.{later_same, later_still}
use Rattle.hm_core.proofs.CrashLemmas.{leaves_then, leaves_weaker}

-- it goes on by no more events, where it stands by those of before
module _ (past since : LeftSince) (old new : CoreState) (opening : Volume) (foreigners : Foreigners) (events : List Event) where
  pub goes_on_by_none : StandsOver new opening foreigners events
      → (IsGuarded old opening foreigners events → IsGuarded new opening foreigners events)
      → (IsGuarded old opening foreigners events → LeavesPrefixes past since (IsBetween old.boundary new.last) opening foreigners events)
      → GoesOnBy past since old new opening foreigners events
  goes_on_by_none stands guarded crashed =
      let same : events ≡ events ++ [] = sym (append-nil events) in
      record {
        more = [];
        stay = λ id before. ap (up_to id) (append-nil events);
        stands = subst (λ (es : List Event). StandsOver new opening foreigners es) same stands;
        guarded = λ was. subst (λ (es : List Event). IsGuarded new opening foreigners es) same (guarded was);
        crashed = λ was.
            subst (λ (es : List Event). LeavesPrefixes past since (IsBetween old.boundary new.last) opening foreigners es) same (crashed was);
      }

-- and by those of two steps, one after the other
module _ (past mid since : LeftSince) (a b c : CoreState) (drawn : a.last ≤ b.last) (later : b.last ≤ c.last) (settled : a.boundary ≤ b.boundary) where
  pub goes_on_by_two : (opening : Volume) (foreigners : Foreigners) (events : List Event) (half : GoesOnBy past mid a b opening foreigners events)
      → GoesOnBy mid since b c opening foreigners (events ++ half.more) → GoesOnBy past since a c opening foreigners events
  goes_on_by_two opening foreigners events half end =
      let all = (events ++ half.more) ++ end.more in
      let joined : all ≡ events ++ (half.more ++ end.more) = append_assoc events half.more end.more in
      let within = IsBetween a.boundary c.last in
      record {
        more = half.more ++ end.more;
        stay = λ id before. ap (up_to id) (sym joined) ∙ end.stay id (omega (arith, before, drawn)) ∙ half.stay id before;
        stands = subst (λ (es : List Event). StandsOver c opening foreigners es) joined end.stands;
        guarded = λ was. subst (λ (es : List Event). IsGuarded c opening foreigners es) joined (end.guarded (half.guarded was));
        crashed = λ was.
            subst (λ (es : List Event). LeavesPrefixes past since within opening foreigners es) joined
            (leaves_then within past mid since opening foreigners all
            (leaves_weaker (IsBetween a.boundary b.last) within past mid opening foreigners (events ++ half.more) all
            (λ boundary between. (between.0, (let to = between.1 in omega (arith, to, later)))) (λ boundary between. end.stay boundary between.1)
            (half.crashed was))
            (leaves_weaker (IsBetween b.boundary c.last) within mid since opening foreigners all all
            (λ boundary between. ((let from = between.0 in omega (arith, from, settled)), between.1)) (λ boundary between. refl)
            (end.crashed (half.guarded was))));
      }

  pub goes_on_further : GoesOnOverEach past mid a b → GoesOnOverEach mid since b c → GoesOnOverEach past since a c
  goes_on_further first second opening foreigners events stands =
      let half = first opening foreigners events stands in
      goes_on_by_two opening foreigners events half (second opening foreigners (events ++ half.more) half.stands)

-- a core follows itself, also with other room in its history
pub follows_spare : (past : LeftSince) (core : CoreState) (spare : ℕ) → IsSoundCore core → Follows past past core (record core { spare = spare })
follows_spare past core spare sound =
    let new : CoreState = record core { spare = spare } in
    record {
      mounted = refl;
      history = ([], sym (append-nil core.history));
      last = omega arith;
      boundary = omega arith;
      never_falls = later_same core.counts;
      sound = record {
        caused = sound.caused;
        told = sound.told;
        between = sound.between;
        header = sound.header;
        read = λ opening foreigners events stands. sound.read opening foreigners events (record { legal = stands.legal; read = stands.read });
        now = sound.now;
        settled = sound.settled;
      };
      goes_on = λ opening foreigners events stands.
          goes_on_by_none past past core new opening foreigners events (record { legal = stands.legal; read = stands.read }) (λ was. was)
          (λ was moment image left. inl left);
    }

pub follows_itself : (past : LeftSince) (core : CoreState) → IsSoundCore core → Follows past past core core
follows_itself past core sound = follows_spare past core core.spare sound

-- and what a core followed that it follows
pub follows_further : (past mid since : LeftSince) (a b c : CoreState) → Follows past mid a b → Follows mid since b c → Follows past since a c
follows_further past mid since a b c first second = record {
  mounted = second.mounted ∙ first.mounted;
  history = (
    first.history.0 ++ second.history.0,
    second.history.1 ∙ ap (λ (list : List Entry). list ++ second.history.0) first.history.1
        ∙ append_assoc a.history first.history.0 second.history.0,
  );
  last = (let d = first.last in let e = second.last in omega (arith, d, e));
  boundary = (let d = first.boundary in let e = second.boundary in omega (arith, d, e));
  never_falls = later_still a.counts b.counts c.counts first.never_falls second.never_falls;
  sound = second.sound;
  goes_on = goes_on_further past mid since a b c first.last second.last first.boundary first.goes_on second.goes_on;
}
