use Rattle.std.proofs.Common.{refl, sym, ◌∙◌}
use Rattle.hm_core.specs.Seen.{seen as seen_core}
use Rattle.hm_core.proofs.CoreLemmas.{follows_further, follows_itself}
use Rattle.hm_shell.proofs.UnitLemmas.{ending_entered, named_still, open_still, size_unit, waits_unit}
use Rattle.hm_shell.proofs.WaitLemmas.{streams_more}
use Rattle.hm_shell.proofs.serve.end_job.Goals as goal

pub returns-then-last-eq-GREATEST_ID-clause-follows : goal.returns-then-last-eq-GREATEST_ID-clause-follows
returns-then-last-eq-GREATEST_ID-clause-follows g c = follows_itself _ (seen_core c.args.core.now) c.core_is_sound.ensures

pub loop-init : goal.loop-init
loop-init g c = record {
  waits = record { history = refl; last = refl; running = refl; spare = refl };
  named = refl;
  follows = follows_itself _ (seen_core c.args.core.now) c.core_is_sound.ensures;
  size = refl;
  streams = record { input = refl; output = refl };
}

pub job_unit-requires : goal.job_unit-requires
job_unit-requires g c = record {
  runs = open_still c.args.ticket.opening.0 c.loop.ticket.opening.0 c.loop.invariant.named (seen_core c.args.core.now) (seen_core c.loop.core)
      c.loop.invariant.waits c.requires.open;
}

pub loop-preserved : goal.loop-preserved
loop-preserved g c =
    let old = seen_core c.args.core.now in
    let mid = seen_core c.loop.core in
    let new = seen_core c.job_unit.new.self in
    let opening = c.args.ticket.opening.0 in
    let named = c.loop.ticket.opening.0 in
    let named_is = c.loop.invariant.named in
    let waits = c.loop.invariant.waits in
    record {
      waits = waits_unit opening named named_is old mid waits new c.in-More.back c.in-More.ensures.units;
      named = named_still opening named named_is old mid waits new c.in-More.back c.in-More.ensures.units;
      follows = follows_further _ _ _ old mid new c.loop.invariant.follows c.job_unit.ensures.follows;
      size = size_unit opening named named_is old mid waits new c.in-More.back c.in-More.ensures.units c.loop.invariant.size;
      streams = streams_more _ _ _ c.loop.invariant.streams c.job_unit.ensures.streams;
    }

pub returns-in-Ended-clause-ends : goal.returns-in-Ended-clause-ends
returns-in-Ended-clause-ends g c =
    ending_entered c.args.ticket.opening.0 c.loop.ticket.opening.0 c.loop.invariant.named (seen_core c.args.core.now) (seen_core c.loop.core)
    c.loop.invariant.waits (seen_core c.job_unit.new.self) c.in-Ended.place c.in-Ended.ensures.units

pub returns-in-Ended-clause-follows : goal.returns-in-Ended-clause-follows
returns-in-Ended-clause-follows g c =
    follows_further _ _ _ (seen_core c.args.core.now) (seen_core c.loop.core) (seen_core c.job_unit.new.self) c.loop.invariant.follows
    c.job_unit.ensures.follows

pub returns-in-Ended-clause-size : goal.returns-in-Ended-clause-size
returns-in-Ended-clause-size g c = c.job_unit.ensures.size ∙ c.loop.invariant.size

pub returns-in-Ended-clause-streams : goal.returns-in-Ended-clause-streams
returns-in-Ended-clause-streams g c = streams_more _ _ _ c.loop.invariant.streams c.job_unit.ensures.streams

pub unreachable-requires : goal.unreachable-requires
unreachable-requires g c =
    c.if-last-eq-GREATEST_ID.false (c.last.ensures ∙ sym c.loop.invariant.waits.last ∙ c.in-Spent.ensures.units.left)
