-- A stage of a flush is made for a call.
use Rattle.std.proofs.Common.{rules, ◌≡◌, ◌+◌, List, ap, arith, length, refl, subst, sym}
use Rattle.hm_model.specs.declared.entry.Entry.{Entry}
use Rattle.hm_core.specs.Numbers.{numbers_told}
use Rattle.hm_core.specs.Running.{choice_among}
use Rattle.hm_core.specs.Seen.{seen}
use Rattle.hm_core.proofs.NumberLemmas.{fault_tells_none, told_same}
use Rattle.hm_core.proofs.RefusalLemmas.{refused_caused, refused_follows, refused_ordered, refuses}
use Rattle.hm_core.proofs.StepLemmas.{entry_of}
use Rattle.hm_core.proofs.volume.Core.flush_stage.Goals as goal

pub invariant_of-self : goal.invariant_of-self
invariant_of-self g c =
    let a = c.args in
    let s = a.self.now in
    let m = c.make_stage.new.self in
    let stage = c.in-Err.ensures in
    let past = g.D.Disk.left_since s.stored.space.disk in
    let since = g.D.Disk.left_since m.stored.space.disk in
    record {
      placed = omega (arith, c.requires.room, stage.stage.waits.spare, c.push_reserved.ensures.len, c.push_reserved.ensures.capacity);
      numbered = subst (λ (l : List Entry). m.numbers ≡ numbers_told l) (sym c.push_reserved.ensures.items)
          (told_same m.history.items (entry_of (m.last.0 + 1) a.lane a.line a.command c.failure.result) m.numbers
          (fault_tells_none a.command c.in-Err.field-0 c.failure.result c.failure.ensures) m.numbered);
      ordered = refused_ordered past since (seen s) (seen m) stage.stage stage.follows c.in-Err.field-0 stage.cause m.ordered
          c.if-self-eq-GREATEST_ID.false a.lane a.line a.command c.requires.asked.served c.failure.result c.failure.ensures c.push_reserved.new.self.items
          c.push_reserved.ensures.items;
      caused = refused_caused past since (seen s) (seen m) stage.stage stage.follows c.in-Err.field-0 stage.cause m.ordered
          c.if-self-eq-GREATEST_ID.false a.lane a.line a.command c.requires.asked.served c.failure.result c.failure.ensures c.push_reserved.new.self.items
          c.push_reserved.ensures.items 0 s.caused;
    }

pub returns-in-Err-2 : goal.returns-in-Err-2
returns-in-Err-2 g c =
    let a = c.args in
    let s = a.self.now in
    let m = c.make_stage.new.self in
    let stage = c.in-Err.ensures in
    let past = g.D.Disk.left_since s.stored.space.disk in
    let since = g.D.Disk.left_since m.stored.space.disk in
    record {
      stages = (
        omega (arith, c.len-place.ensures, m.history.ok, ap (λ (l : List Entry). length l) stage.stage.waits.history),
        refuses past since (seen s) (seen m) stage.stage stage.follows c.in-Err.field-0 stage.cause m.ordered
            c.if-self-eq-GREATEST_ID.false a.lane a.line a.command c.requires.asked.served c.failure.result c.failure.ensures c.push_reserved.new.self.items
            c.push_reserved.ensures.items _ refl (omega (arith, stage.stage.waits.spare, c.push_reserved.ensures.len, c.push_reserved.ensures.capacity)),
      );
      choices = λ id there. ap (λ v. choice_among id v.items) stage.running;
      follows = refused_follows past since (seen s) (seen m) stage.stage stage.follows c.in-Err.field-0 stage.cause m.ordered
          c.if-self-eq-GREATEST_ID.false a.lane a.line a.command c.requires.asked.served c.failure.result c.failure.ensures c.push_reserved.new.self.items
          c.push_reserved.ensures.items _ refl stage.uncounted c.core_is_sound.ensures;
      crashes = search rules;
      live = stage.live;
      streams = search rules;
    }
