use Rattle.std.proofs.Common.{◌≡◌, ◌+◌, ◌-◌, ◌*◌, ◌/◌, ◌++◌, ◌∙◌, arith, drop, inl, length, min, replicate, rules, take}
use Rattle.std.proofs.lemmas.List.{get_or-drop}
use Rattle.std.proofs.lemmas.Result.{on_ok_weaker}
use Rattle.hm_key.specs.Balance.{content_of, full_elements}
use Rattle.hm_key.specs.Elements.{IsContent}
use Rattle.hm_records.proofs.CountsLemmas.{own_keys-sorted, settled}
use Rattle.hm_cursor.specs.Told.{Lists, fulls}
use Rattle.hm_cursor.proofs.CallLemmas.{Change, writes_from, writes_so}
use Rattle.hm_cursor.proofs.PayloadLemmas.{full_sorted}
use Rattle.hm_files.specs.Bytes.{AreBytesRead}
use Rattle.hm_files.specs.Close.{AreOlder}
use Rattle.hm_files.specs.Put.{PutsBlock}
use Rattle.hm_files.specs.Write.{PutsPiece}
use Rattle.hm_files.proofs.CutLemmas.{AreBlocks}
use Rattle.hm_files.proofs.MergeLemmas.{known_balanced, merged_laid, merged_whole, zeros_front}
use Rattle.hm_files.proofs.TellLemmas.{known_blocks, known_elements, known_two}
use Rattle.hm_files.proofs.WriteLemmas.{piece_put}
use Rattle.hm_files.proofs.write.write_piece.Goals as goal

pub returns-then-piece-eq-BLOCK_BYTES-clause-ok : goal.returns-then-piece-eq-BLOCK_BYTES-clause-ok
returns-then-piece-eq-BLOCK_BYTES-clause-ok g c =
    let elements = g.T.HasElements.elements in
    let extents = g.T.HasRoom.extents in
    let pfs = c.args.pfs.0 in
    let obj = c.args.obj.0 in
    let i = c.args.id.0 in
    let size = c.args.size in
    let after = c.args.after in
    let at = c.args.at in
    let piece = c.args.piece.now in
    let old = c.args.store.now in
    let begin = at / 16384 * 16384 in
    let Old : Lists → Type 0 = λ lists. AreBlocks (fulls lists) × AreOlder pfs obj i (begin + 1) (fulls lists) in
    let Known : Lists → Type 0 = λ lists. Old lists × IsContent lists.0 in
    let whole : length piece ≡ 16384 = c.if-piece-eq-BLOCK_BYTES.true in
    let same : at ≡ begin = let within = c.requires.within in omega (arith, within, whole) in
    on_ok_weaker c.put_block.result
    (λ put. writes_so elements extents (PutsBlock pfs obj i begin piece) (PutsPiece pfs obj i size after at piece) Known old c.put_block.new.store
    (known_two Old (λ lists. IsContent lists.0) (content_of (elements old) (extents old))
    (known_two (λ lists. AreBlocks (fulls lists)) (λ lists. AreOlder pfs obj i (begin + 1) (fulls lists)) (content_of (elements old) (extents old))
    (known_blocks (elements old) (extents old) (g.met.T.ElementStore.sorted old) (g.met.T.Extents.live old) c.requires.balanced) c.requires.older)
    (known_elements (elements old) (extents old) IsContent (g.met.T.ElementStore.sorted old)))
    (λ was es' known puts. piece_put pfs obj i size after at piece piece (fulls was) es'
    (settled (full_elements was.0 was.1) i (own_keys-sorted (full_elements was.0 was.1) (full_sorted was.0 was.1 known.1.rising)))
    known.0.1 (omega (arith, whole)) (omega (arith, whole)) c.requires.after.0 (omega (arith, same))
    (let larger = c.requires.after.1 in omega (arith, whole, same, larger)) (merged_whole _ pfs obj size at begin piece same) puts) put)
    c.put_block.ensures.ok

pub returns-clause-ok : goal.returns-clause-ok
returns-clause-ok g c =
    let elements = g.T.HasElements.elements in
    let extents = g.T.HasRoom.extents in
    let pfs = c.args.pfs.0 in
    let obj = c.args.obj.0 in
    let i = c.args.id.0 in
    let size = c.args.size in
    let after = c.args.after in
    let at = c.args.at in
    let piece = c.args.piece.now in
    let old = c.args.store.now in
    let last = c.read_all.new.store in
    let begin = at / 16384 * 16384 in
    let end = c.min-end.result in
    let read = c.read_all.new.buffer in
    let bytes = c.lay_over.new.front in
    let rest = drop c.shorter-shown.result (take (end - begin) (replicate 16384 0)) in
    let reads = c.in_ok-read_all.ensures in
    let Old : Lists → Type 0 = λ lists. AreBlocks (fulls lists) × AreOlder pfs obj i (begin + 1) (fulls lists) in
    let Seen : Lists → Type 0 = λ lists. IsContent lists.0 × AreBytesRead i pfs obj size begin read lists in
    let Known : Lists → Type 0 = λ lists. Old lists × Seen lists in
    let Put : Change = PutsBlock pfs obj i begin bytes in
    let laid : bytes ≡ take (at - begin) (read ++ rest) ++ (piece ++ drop (at - begin + length piece) (read ++ rest)) = c.lay_over.ensures in
    let within = c.requires.within in
    let few = c.requires.few in
    let some = c.requires.some in
    let larger = c.requires.after in
    let high : end ≡ min after (begin + 16384) = search rules in
    let long : length bytes ≡ end - begin = search rules in
    let all : length (read ++ rest) ≡ end - begin = search rules in
    let sized : length read ≡ min (length bytes) (size - begin) = search rules in
    on_ok_weaker c.put_block-2.result
    (λ put. writes_so elements extents Put (PutsPiece pfs obj i size after at piece) Known old c.put_block-2.new.store
    (known_two Old Seen (content_of (elements old) (extents old))
    (known_two (λ lists. AreBlocks (fulls lists)) (λ lists. AreOlder pfs obj i (begin + 1) (fulls lists)) (content_of (elements old) (extents old))
    (known_blocks (elements old) (extents old) (g.met.T.ElementStore.sorted old) (g.met.T.Extents.live old) c.requires.balanced) c.requires.older)
    (known_two (λ lists. IsContent lists.0) (AreBytesRead i pfs obj size begin read) (content_of (elements old) (extents old))
    (known_elements (elements old) (extents old) IsContent (g.met.T.ElementStore.sorted old))
    (known_balanced (elements old) (extents old) (AreBytesRead i pfs obj size begin read) c.requires.balanced reads.ok)))
    (λ was es' known puts. piece_put pfs obj i size after at piece bytes (fulls was) es'
    (settled (full_elements was.0 was.1) i (own_keys-sorted (full_elements was.0 was.1) (full_sorted was.0 was.1 known.1.0.rising)))
    known.0.1 (omega (arith, long, high, some, larger.1)) (omega (arith, long, high)) larger.0 (omega (arith, long, high, within, larger.1))
    (omega (arith, long, high, larger.1))
    (merged_laid _ pfs obj size at begin piece read rest bytes (omega arith) sized laid (omega (arith, all, high, within, larger.1))
    (λ k. get_or-drop c.shorter-shown.result (take (end - begin) (replicate 16384 0)) k 0 ∙ zeros_front (end - begin) 16384 (c.shorter-shown.result + k))
    (known.1.1 (inl (omega (arith, few, sized, long, high))))) puts)
    (writes_from elements extents Put old last c.put_block-2.new.store reads.keeps.elements reads.keeps.extents put))
    c.put_block-2.ensures.ok
