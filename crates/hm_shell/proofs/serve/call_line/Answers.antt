use Rattle.std.proofs.Common.{inl, refl}
use Rattle.hm_core.specs.Seen.{seen as seen_core}
use Rattle.hm_core.proofs.CoreLemmas.{follows_further, follows_itself}
use Rattle.hm_shell.proofs.WaitLemmas.{again_is, answered_after, falls_after, opened_after, refused_after}
use Rattle.hm_shell.proofs.WaitLemmas.{size_after, size_answered, size_opened, size_refused, streams_more, waited_after}
use Rattle.hm_shell.proofs.serve.call_line.Goals as goal

pub waiting-init : goal.waiting-init
waiting-init g c = record {
  waited = inl refl;
  follows = follows_itself _ (seen_core c.args.core.now) c.core_is_sound.ensures;
  size = refl;
  streams = record { input = refl; output = refl };
  since_is = c.last-since.ensures;
  command_is = refl;
}

pub returns-in-Answered-clause-follows : goal.returns-in-Answered-clause-follows
returns-in-Answered-clause-follows g c =
    follows_further _ _ _ (seen_core c.args.core.now) (seen_core c.waiting.core) (seen_core c.call.new.self) c.waiting.invariant.follows
    c.call.ensures.follows

pub returns-in-Opened-clause-follows : goal.returns-in-Opened-clause-follows
returns-in-Opened-clause-follows g c =
    follows_further _ _ _ (seen_core c.args.core.now) (seen_core c.waiting.core) (seen_core c.call.new.self) c.waiting.invariant.follows
    c.call.ensures.follows

pub returns-in-Refused-clause-follows : goal.returns-in-Refused-clause-follows
returns-in-Refused-clause-follows g c =
    let old = seen_core c.args.core.now in
    let same = seen_core c.call.new.self in
    follows_further _ _ _ old same (seen_core c.flush_stage.new.self)
    (follows_further _ _ _ old (seen_core c.waiting.core) same c.waiting.invariant.follows c.call.ensures.follows) c.flush_stage.ensures.follows

pub returns-in-Answered-clause-calls : goal.returns-in-Answered-clause-calls
returns-in-Answered-clause-calls g c =
    answered_after (seen_core c.args.core.now) (seen_core c.waiting.core) c.args.lane c.args.number c.last-since.result.0 c.args.command
    c.waiting.waiting c.waiting.invariant.waited c.waiting.invariant.since_is c.waiting.invariant.command_is (seen_core c.call.new.self)
    c.in-Answered.place c.in-Answered.ensures.steps

pub returns-in-Opened-clause-calls : goal.returns-in-Opened-clause-calls
returns-in-Opened-clause-calls g c =
    opened_after (seen_core c.args.core.now) (seen_core c.waiting.core) c.args.lane c.args.number c.last-since.result.0 c.args.command
    c.waiting.waiting c.waiting.invariant.waited c.waiting.invariant.since_is c.waiting.invariant.command_is _ _ c.waiting.invariant.follows
    (seen_core c.call.new.self)
    c.in-Opened.place c.in-Opened.ticket c.in-Opened.ensures.steps

pub returns-in-Opened-clause-size : goal.returns-in-Opened-clause-size
returns-in-Opened-clause-size g c =
    size_opened (seen_core c.args.core.now) (seen_core c.waiting.core) c.args.lane c.args.number c.last-since.result.0 c.args.command
    c.waiting.waiting c.waiting.invariant.waited c.waiting.invariant.since_is c.waiting.invariant.command_is (seen_core c.call.new.self)
    c.in-Opened.place c.in-Opened.ticket c.in-Opened.ensures.steps c.waiting.invariant.size

pub returns-in-Refused-clause-calls : goal.returns-in-Refused-clause-calls
returns-in-Refused-clause-calls g c =
    refused_after (seen_core c.args.core.now) (seen_core c.waiting.core) c.args.lane c.args.number c.last-since.result.0 c.args.command
    c.waiting.waiting c.waiting.invariant.waited c.waiting.invariant.since_is c.waiting.invariant.command_is (seen_core c.call.new.self)
    (seen_core c.flush_stage.new.self) c.in-MustFlush.back c.in-MustFlush.ensures.steps c.in-Refused.place c.in-Refused.ensures.stages

pub returns-in-Answered-clause-size : goal.returns-in-Answered-clause-size
returns-in-Answered-clause-size g c =
    size_answered (seen_core c.args.core.now) (seen_core c.waiting.core) c.args.lane c.args.number c.last-since.result.0 c.args.command
    c.waiting.waiting c.waiting.invariant.waited c.waiting.invariant.since_is c.waiting.invariant.command_is (seen_core c.call.new.self)
    c.in-Answered.place c.in-Answered.ensures.steps c.waiting.invariant.size

pub returns-in-Refused-clause-size : goal.returns-in-Refused-clause-size
returns-in-Refused-clause-size g c =
    size_refused (seen_core c.args.core.now) (seen_core c.waiting.core) c.args.lane c.args.number c.last-since.result.0 c.args.command
    c.waiting.waiting c.waiting.invariant.waited c.waiting.invariant.since_is c.waiting.invariant.command_is (seen_core c.call.new.self)
    (seen_core c.flush_stage.new.self) c.in-MustFlush.back c.in-MustFlush.ensures.steps c.in-Refused.place c.in-Refused.ensures.stages
    c.waiting.invariant.size

pub waiting-preserved : goal.waiting-preserved
waiting-preserved g c =
    let old = seen_core c.args.core.now in
    let mid = seen_core c.waiting.core in
    let same = seen_core c.call.new.self in
    let new = seen_core c.flush_stage.new.self in
    let waited = c.waiting.invariant.waited in
    let since_is = c.waiting.invariant.since_is in
    let command_is = c.waiting.invariant.command_is in
    record {
      waited = waited_after old mid c.args.lane c.args.number c.last-since.result.0 c.args.command c.waiting.waiting waited since_is command_is same new
          c.in-MustFlush.back c.in-MustFlush.ensures.steps c.in-More.back c.in-More.ensures.stages;
      follows = follows_further _ _ _ old same new (follows_further _ _ _ old mid same c.waiting.invariant.follows c.call.ensures.follows)
          c.flush_stage.ensures.follows;
      size = size_after old mid c.args.lane c.args.number c.last-since.result.0 c.args.command c.waiting.waiting waited since_is command_is same new
          c.in-MustFlush.back c.in-MustFlush.ensures.steps c.in-More.back c.in-More.ensures.stages c.waiting.invariant.size;
      streams = streams_more _ _ _ c.waiting.invariant.streams (streams_more _ _ _ (rw c.in-MustFlush.ensures.streams (record { input = refl; output = refl }))
          c.flush_stage.ensures.streams);
      since_is = since_is;
      command_is = again_is old mid c.args.lane c.args.number c.last-since.result.0 c.args.command c.waiting.waiting waited since_is command_is same new
          c.in-MustFlush.back c.in-MustFlush.ensures.steps c.in-More.back c.in-More.ensures.stages;
    }

pub waiting-smaller : goal.waiting-smaller
waiting-smaller g c =
    falls_after (seen_core c.args.core.now) (seen_core c.waiting.core) c.args.lane c.args.number c.last-since.result.0 c.args.command
    c.waiting.waiting c.waiting.invariant.waited c.waiting.invariant.since_is c.waiting.invariant.command_is (seen_core c.call.new.self)
    (seen_core c.flush_stage.new.self) c.in-MustFlush.back c.in-MustFlush.ensures.steps c.in-More.back c.in-More.ensures.stages refl
