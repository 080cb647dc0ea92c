use Rattle.std.proofs.Common.{min, rules, ◌≡◌, ◌+◌, ◌*◌, ◌/◌, ◌<◌, ◌-◌, ◌∙◌, length, refl, ℕ, arith, subst}
use Rattle.hm_key.specs.Balance.{IsBalanced}
use Rattle.hm_key.specs.Elements.{IsContent}
use Rattle.hm_cursor.specs.Told.{fulls}
use Rattle.hm_cursor.specs.Write.{Writes}
use Rattle.hm_cursor.proofs.CallLemmas.{known_after, writes_none}
use Rattle.hm_files.specs.Close.{AreOlder}
use Rattle.hm_files.specs.Source.{bytes_of}
use Rattle.hm_files.specs.Bytes.{block_start}
use Rattle.hm_files.specs.Write.{PutsBefore, PutsPiece, block_count}
use Rattle.hm_files.proofs.SpanLemmas.{puts_more, puts_none, room_left, spends_more, spends_none}
use Rattle.hm_files.proofs.TellLemmas.{known_elements, writes_via}
use Rattle.hm_files.proofs.write.put_pieces.Goals as goal

pub loop-next-init : goal.loop-next-init
loop-next-init g c =
    let elements = g.T.HasElements.elements in
    let extents = g.T.HasRoom.extents in
    let pfs = c.args.pfs.0 in
    let obj = c.args.obj.0 in
    let i = c.args.id.0 in
    let size = c.args.size in
    let offset = c.args.offset in
    let bytes = bytes_of c.args.source in
    let old = c.args.store.now in
    record {
      from = omega arith;
      to = omega (arith, c.requires.some);
      wrote = writes_none elements extents (PutsBefore pfs obj i size c.args.after offset bytes (offset / 16384)) (λ lists. IsBalanced lists.0 lists.1)
          old old refl refl c.requires.balanced (λ was known. puts_none pfs obj i size c.args.after offset bytes (fulls was));
      balanced = c.requires.balanced;
      elements = refl;
      extents = refl;
      space = spends_none g.T.HasRoom.room g.T.HasRoom.free old (offset / 16384 - offset / 16384);
      name = refl;
      frame = refl;
      faults = omega arith;
    }

pub write_piece-requires-clause-older : goal.write_piece-requires-clause-older
write_piece-requires-clause-older g c =
    let elements = g.T.HasElements.elements in
    let extents = g.T.HasRoom.extents in
    let pfs = c.args.pfs.0 in
    let obj = c.args.obj.0 in
    let i = c.args.id.0 in
    let offset = c.args.offset in
    let bytes = bytes_of c.args.source in
    let next = c.loop-next.next in
    let at = c.max-at.result in
    let was = c.loop-next.invariant in
    let start : block_start at ≡ next * 16384 = omega (arith, c.max-at.ensures, was.from) in
    known_after elements extents (PutsBefore pfs obj i c.args.size c.args.after offset bytes next)
    (λ lists. AreOlder pfs obj i (block_start offset + 1) (fulls lists))
    (AreOlder pfs obj i (block_start at + 1)) c.args.store.now c.loop-next.store was.elements was.extents c.requires.balanced c.requires.older
    (λ lists es' known puts n above. puts.fresh n (omega (arith, above, start)) (known n (omega (arith, above, start, was.from)))) was.wrote

pub write_piece-requires-clause-room : goal.write_piece-requires-clause-room
write_piece-requires-clause-room g c =
    let offset = c.args.offset in
    let was = c.loop-next.invariant in
    room_left g.T.HasRoom.room g.T.HasRoom.free c.args.store.now c.loop-next.store (c.loop-next.next - offset / 16384)
    (block_count offset (offset + length (bytes_of c.args.source))) (omega (arith, was.from, c.loop-next-test.true)) was.space c.requires.room

pub returns-in_err-write_piece-clause-space : goal.returns-in_err-write_piece-clause-space
returns-in_err-write_piece-clause-space g c =
    let offset = c.args.offset in
    let was = c.loop-next.invariant in
    spends_more g.T.HasRoom.room g.T.HasRoom.free c.args.store.now c.loop-next.store c.write_piece.new.store (c.loop-next.next - offset / 16384) 1
    (block_count offset (offset + length (bytes_of c.args.source)))
    (omega (arith, was.from, c.loop-next-test.true)) was.space c.in_err-write_piece.ensures.space

pub loop-next-preserved : goal.loop-next-preserved
loop-next-preserved g c =
    let elements = g.T.HasElements.elements in
    let extents = g.T.HasRoom.extents in
    let pfs = c.args.pfs.0 in
    let obj = c.args.obj.0 in
    let i = c.args.id.0 in
    let size = c.args.size in
    let offset = c.args.offset in
    let bytes = bytes_of c.args.source in
    let next = c.loop-next.next in
    let at = c.max-at.result in
    let to = c.min-to.result in
    let piece = c.piece-piece.result.now in
    let old = c.args.store.now in
    let mid = c.loop-next.store in
    let new = c.write_piece.new.store in
    let was = c.loop-next.invariant in
    let put = c.in_ok-write_piece.ensures in
    let last : next * 16384 < offset + length bytes = omega (arith, c.loop-next-test.true, c.requires.some) in
    let to_is : to ≡ min (offset + length bytes) (next * 16384 + 16384) = omega (arith, c.min-to.ensures, c.len.ensures) in
    let sized : length piece ≡ to - at = omega (arith, c.piece-piece.ensures.long, c.max-at.ensures) in
    record {
      from = omega (arith, was.from);
      to = omega (arith, c.loop-next-test.true);
      wrote =
          writes_via elements extents (PutsBefore pfs obj i size c.args.after offset bytes next) (PutsPiece pfs obj i size c.args.after at piece)
          (PutsBefore pfs obj i size c.args.after offset bytes (next + 1)) (λ lists. IsBalanced lists.0 lists.1) (λ lists. IsContent lists.0) old mid new
          (λ lists between es' known content balanced so_far puts.
          puts_more pfs obj i size c.args.after offset bytes next at to piece (fulls lists) (fulls between) es'
          was.from last c.max-at.ensures to_is sized (λ k below. c.piece-piece.ensures.same k (omega (arith, below, c.piece-piece.ensures.long))) so_far puts)
          c.requires.balanced (known_elements (elements mid) (extents mid) IsContent (g.met.T.ElementStore.sorted mid)) was.wrote put.ok;
      balanced = search rules;
      elements = put.keeps.elements ∙ was.elements;
      extents = put.keeps.extents ∙ was.extents;
      space =
          spends_more g.T.HasRoom.room g.T.HasRoom.free old mid new (next - offset / 16384) 1 (next + 1 - offset / 16384) (omega (arith, was.from))
          was.space put.space;
      name = put.borrowed.0 ∙ was.name;
      frame = put.borrowed.1 ∙ was.frame;
      faults = omega (arith, was.faults, put.cause.counted.never_falls);
    }

pub returns-clause-ok : goal.returns-clause-ok
returns-clause-ok g c =
    let offset = c.args.offset in
    let bytes = bytes_of c.args.source in
    let was = c.loop-next.invariant in
    let all : c.loop-next.next ≡ (offset + length bytes - 1) / 16384 + 1 = omega (arith, was.to, c.loop-next-test.false) in
    subst (λ (n : ℕ). Writes g.T.HasElements.elements g.T.HasRoom.extents
    (PutsBefore c.args.pfs.0 c.args.obj.0 c.args.id.0 c.args.size c.args.after offset bytes n) c.args.store.now c.loop-next.store) all was.wrote

pub returns-clause-space : goal.returns-clause-space
returns-clause-space g c =
    let offset = c.args.offset in
    let was = c.loop-next.invariant in
    spends_more g.T.HasRoom.room g.T.HasRoom.free c.args.store.now c.loop-next.store c.loop-next.store (c.loop-next.next - offset / 16384) 0
    (block_count offset (offset + length (bytes_of c.args.source))) (omega (arith, was.from, was.to)) was.space
    (spends_none g.T.HasRoom.room g.T.HasRoom.free c.loop-next.store 0)
