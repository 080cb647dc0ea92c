use Rattle.std.proofs.Common.{◌≡◌, ℕ, ◌+◌, ◌*◌, ◌≤◌, length, subst, arith}
use Rattle.hm_types.specs.Told.{BothTell}
use Rattle.hm_disk.specs.Crash.{Told}
use Rattle.hm_disk.specs.Disk.{Written}
use Rattle.hm_disk.specs.Moments.{CallElapses}
use Rattle.hm_disk.proofs.DiskLemmas.{BothTell-and, BothTell-then}
use Rattle.hm_newfs.specs.Layers.{HasPage, HasPages, layer_bytes, layer_start}
use Rattle.hm_newfs.specs.Steps.{HasSpace}
use Rattle.hm_newfs.proofs.ContentLemmas.{layer-ends}
use Rattle.hm_newfs.proofs.WriteLemmas.{PagesSoFar, so-far-more}
use Rattle.hm_newfs.proofs.layer.write_layer.Goals as goal

pub loop-piece-preserved : goal.loop-piece-preserved
loop-piece-preserved g c =
    let b = c.args.bigblocks in
    let layer = c.args.layer in
    let Has = HasPage b layer in
    let done = c.loop-piece.piece * 32 in
    let bytes = c.fill_piece.new.bytes in
    let place = c.start-start.result + c.from.result * 131072 in
    let past = g.D.Disk.left_since c.args.disk.now in
    let middle = g.D.Disk.left_since c.loop-piece.disk in
    let since = g.D.Disk.left_since c.write_at.new.self in
    let ends = layer-ends b c.requires.size layer in
    let next : done + 32 ≡ (c.loop-piece.piece + 1) * 32 = omega arith in
    let at : place ≡ layer_start layer + done * 4096 = omega (arith, c.start-start.ensures, c.from.ensures) in
    let inside : place + length bytes ≤ layer_start layer + layer_bytes b layer = omega (arith, at, c.fill_piece.array_long, c.blocks-pieces.ensures.value) in
    let pages : HasPages (λ k. Has (done + k)) 0 32 bytes = c.fill_piece.ensures in
    record {
      told = subst (λ (n : ℕ). BothTell (g.D.Disk.told c.args.disk.now) (g.D.Disk.told c.write_at.new.self)
          (PagesSoFar Has (layer_start layer) (layer_bytes b layer) n past since)) next
          (BothTell-then _ (g.D.Disk.told c.loop-piece.disk) _ (HasSpace b) _
          (λ (t u : Told). Written place bytes t u × CallElapses place (length bytes) middle since t u) _
          (λ s t u room so_far then. so-far-more Has (layer_start layer) (layer_bytes b layer) done 32 place bytes past middle since s t u
          c.fill_piece.array_long at inside (omega (arith, room, ends)) so_far pages then.0 then.1.begun)
          c.requires.room c.loop-piece.invariant.told
          (BothTell-and _ _ _ _ c.in_ok-write_at.ensures.ok c.in_ok-write_at.ensures.any_moment));
      counted = omega (arith, c.loop-piece.invariant.counted, c.in_ok-write_at.ensures.cause.never_falls);
    }
