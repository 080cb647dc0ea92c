use Rattle.std.proofs.Common.{◌≡◌, ℕ, ◌+◌, ◌*◌, ◌<◌, subst, ◌∙◌, arith, length}
use Rattle.std.proofs.lemmas.Result.{err_from_is_err_and}
use Rattle.hm_types.specs.Layout.{layer2_blocks}
use Rattle.hm_pages.specs.Store.{contents}
use Rattle.hm_load.specs.Faults.{Tells}
use Rattle.hm_load.specs.Freemap.{HoldsLayer2, IsLayer2Damage}
use Rattle.hm_load.specs.Reading.{volume_bytes}
use Rattle.hm_load.proofs.LayerToldLemmas.{first_pages_more, piece_damage}
use Rattle.hm_load.proofs.StoreLemmas.{err_is, told_both, told_was}
use Rattle.hm_load.proofs.layer2.load_layer2.Goals as goal

pub loop-piece-preserved : goal.loop-piece-preserved
loop-piece-preserved g c =
    let b = c.args.header.now.bigblocks in
    let piece = c.loop-piece.piece in
    let place = 16777216 + c.from.result * 131072 in
    let low : piece < layer2_blocks b * 64 = omega (arith, c.loop-piece-test.true, c.layer2_blocks-piece-end.ensures.value) in
    let begins : place ≡ 16777216 + piece * 131072 = omega (arith, c.from.ensures) in
    let long : length c.loop-piece.buffer ≡ 131072 = omega (arith, c.loop-piece.auto.buffer, c.requires.len) in
    let next : piece * 32 + 32 ≡ (piece + 1) * 32 = omega arith in
    record {
      told = c.read.ensures.same ∙ c.loop-piece.invariant.told;
      crashes = c.read.ensures.crashes ∙ c.loop-piece.invariant.crashes;
      counted = omega (arith, c.loop-piece.invariant.counted, c.in_ok-read.ensures.cause.counted.never_falls);
      plain = c.in_ok-load_piece.ensures.ok.plain;
      layer = subst (λ (n : ℕ). HoldsLayer2 c.args.header.now n (contents c.load_piece.new.store).current) next c.in_ok-load_piece.ensures.ok.layer;
      read = told_both (g.D.Disk.told c.args.disk.now)
          (λ t first same. first_pages_more t.bytes c.read.new.buf c.args.header.now piece place
          (length c.loop-piece.buffer) c.requires.header.bigblocks.0 c.requires.header.bigblocks.1
          low begins long (subst (λ (n : ℕ). c.read.new.buf ≡ volume_bytes t.bytes n place (length c.loop-piece.buffer)) c.requires.volume same)
          (contents c.loop-piece.store) (contents c.load_piece.new.store) first c.in_ok-load_piece.ensures.ok)
          c.loop-piece.invariant.read (told_was _ _ _ c.loop-piece.invariant.told c.in_ok-read.ensures.ok);
    }

pub returns-in_err-load_piece-clause-damage : goal.returns-in_err-load_piece-clause-damage
returns-in_err-load_piece-clause-damage g c =
    let b = c.args.header.now.bigblocks in
    let piece = c.loop-piece.piece in
    let place = 16777216 + c.from.result * 131072 in
    let low : piece < layer2_blocks b * 64 = omega (arith, c.loop-piece-test.true, c.layer2_blocks-piece-end.ensures.value) in
    let begins : place ≡ 16777216 + piece * 131072 = omega (arith, c.from.ensures) in
    let long : length c.loop-piece.buffer ≡ 131072 = omega (arith, c.loop-piece.auto.buffer, c.requires.len) in
    let p = err_from_is_err_and c.from_residual-in_err-load_piece.result c.from_residual-in_err-load_piece.ensures.1 in
    err_is (g.D.Disk.told c.args.disk.now) (λ t. Tells
    (IsLayer2Damage t.bytes c.args.header.now)) c.from_residual-in_err-load_piece.result p.0 c.in_err-load_piece.field-0.0 p.1 p.2
    (told_both (g.D.Disk.told c.args.disk.now)
    (λ t first same. piece_damage t.bytes c.read.new.buf c.args.header.now piece place
    (length c.loop-piece.buffer) c.requires.header.bigblocks.0 c.requires.header.bigblocks.1
    low begins long (subst (λ (n : ℕ). c.read.new.buf ≡ volume_bytes t.bytes n place (length c.loop-piece.buffer)) c.requires.volume same)
    (contents c.loop-piece.store).current c.in_err-load_piece.field-0.0 first c.in_err-load_piece.ensures.damage)
    c.loop-piece.invariant.read (told_was _ _ _ c.loop-piece.invariant.told c.in_ok-read.ensures.ok))
