use Rattle.std.proofs.Common.{◌≡◌, ◌+◌, ◌-◌, length, take, arith, rules}
use Rattle.std.proofs.lemmas.List.{length-take-le}
use Rattle.hm_cursor.proofs.StoreLemmas.{same_both}
use Rattle.hm_files.proofs.ByteLemmas.{front_put}
use Rattle.hm_files.specs.Bytes.{AreBytesRead}
use Rattle.hm_files.proofs.ReadLemmas.{read_more, still_read}
use Rattle.hm_files.proofs.read.read_all.Goals as goal

pub loop-done-preserved : goal.loop-done-preserved
loop-done-preserved g c =
    let was = c.loop-done.invariant in
    let read = c.in_ok-done.ensures in
    let buffer = c.loop-done.buffer in
    let done = c.loop-done.done in
    let count = c.in_ok-done.field-0 in
    let long : length buffer ≡ length c.args.buffer.now = c.loop-done.auto.buffer in
    let rest : length c.read_piece.new.buffer ≡ length buffer - done = search rules in
    record {
      most = omega (arith, read.fits, rest, long, was.most);
      read =
          read_more (g.T.HasElements.elements c.args.store.now) (g.T.HasRoom.extents c.args.store.now) c.args.as_of.0 c.args.pfs.0 c.args.obj.0
          c.args.size c.args.offset done (take done buffer) (take count c.read_piece.new.buffer) _
          (length-take-le done buffer (omega (arith, long, was.most)))
          (front_put done (length buffer - done) buffer c.read_piece.new.buffer count rest (omega (arith, long, was.most)) (omega (arith, read.fits, rest)))
          was.read
          (still_read (g.T.HasElements.elements c.loop-done.store) (g.T.HasElements.elements c.args.store.now) (g.T.HasRoom.extents c.loop-done.store)
          (g.T.HasRoom.extents c.args.store.now)
          (AreBytesRead c.args.as_of.0 c.args.pfs.0 c.args.obj.0 c.args.size (c.args.offset + done) (take count c.read_piece.new.buffer))
          was.keeps.elements was.keeps.extents read.ok);
      keeps = search (rules, same_both);
      name = search rules;
      frame = search rules;
      faults = omega arith;
    }
