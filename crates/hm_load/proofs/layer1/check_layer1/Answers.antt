use Rattle.std.proofs.Common.{◌≡◌, ◌+◌, ◌*◌, sym, subst, ◌∙◌, arith, length}
use Rattle.hm_types.specs.declared.fault.Fault.{Fault}
use Rattle.hm_load.specs.Faults.{Tells}
use Rattle.hm_load.specs.Layer1.{IsLayer1Damage}
use Rattle.hm_load.proofs.OffsetLemmas.{entries_more, entry_damage}
use Rattle.hm_load.proofs.StoreLemmas.{told_both, told_was}
use Rattle.hm_load.proofs.layer1.check_layer1.Goals as goal

pub loop-piece-preserved : goal.loop-piece-preserved
loop-piece-preserved g c =
    let place = 8388608 + c.from.result * 131072 in
    let begins : place ≡ 8388608 + c.loop-piece.piece * 131072 = omega (arith, c.from.ensures) in
    let long : length c.loop-piece.buffer ≡ 131072 = omega (arith, c.loop-piece.auto.buffer, c.requires.len) in
    record {
      told = c.read.ensures.same ∙ c.loop-piece.invariant.told;
      crashes = c.read.ensures.crashes ∙ c.loop-piece.invariant.crashes;
      counted = omega (arith, c.loop-piece.invariant.counted, c.in_ok-read.ensures.cause.counted.never_falls);
      entries = told_both (g.D.Disk.told c.args.disk.now)
          (λ t before same. entries_more t.bytes c.read.new.buf c.args.volume.now.bigblocks c.loop-piece.piece place (length c.loop-piece.buffer)
          c.requires.size (omega arith) begins long same before c.in-None.ensures.none)
          c.loop-piece.invariant.entries (told_was _ _ _ c.loop-piece.invariant.told c.in_ok-read.ensures.ok);
    }

pub returns-in-Some-clause-damage : goal.returns-in-Some-clause-damage
returns-in-Some-clause-damage g c =
    let place = 8388608 + c.from.result * 131072 in
    let begins : place ≡ 8388608 + c.loop-piece.piece * 131072 = omega (arith, c.from.ensures) in
    let long : length c.loop-piece.buffer ≡ 131072 = omega (arith, c.loop-piece.auto.buffer, c.requires.len) in
    told_both (g.D.Disk.told c.args.disk.now)
    (λ t before same. subst (λ (fault : Fault). Tells (IsLayer1Damage t.bytes c.args.volume.now.bigblocks) fault) (sym c.wrong.ensures)
    (entry_damage t.bytes c.read.new.buf c.args.volume.now.bigblocks c.loop-piece.piece place (length c.loop-piece.buffer)
    c.requires.size (omega arith) begins long same before c.in-Some.k c.in-Some.ensures.low c.in-Some.ensures.some))
    c.loop-piece.invariant.entries (told_was _ _ _ c.loop-piece.invariant.told c.in_ok-read.ensures.ok)
