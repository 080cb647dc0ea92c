use Rattle.std.proofs.Common.{◌+◌, Some, length, subst}
use Rattle.std.proofs.lemmas.Result.{on_ok_weaker}
use Rattle.hm_key.specs.Balance.{content_of}
use Rattle.hm_key.specs.Counts.{Subject, subject_of}
use Rattle.hm_key.specs.Key.{key_of}
use Rattle.hm_key.specs.declared.base.Base.{Base}
use Rattle.hm_cursor.specs.Told.{Lists, fulls}
use Rattle.hm_cursor.specs.Write.{FollowWith, Rewrites}
use Rattle.hm_cursor.proofs.CallLemmas.{Change, Then, writes_both, writes_ok, writes_so}
use Rattle.hm_files.specs.Close.{AreOlder, ClearsBlock}
use Rattle.hm_files.specs.Put.{PutsBlock}
use Rattle.hm_files.proofs.CutLemmas.{AreBlocks}
use Rattle.hm_files.proofs.FollowLemmas.{block_follows}
use Rattle.hm_files.proofs.PutLemmas.{block_put, new_bytes}
use Rattle.hm_files.proofs.TellLemmas.{known_blocks, known_two}
use Rattle.hm_files.proofs.put.put_block.Goals as goal

pub put_version-requires-clause-new : goal.put_version-requires-clause-new
put_version-requires-clause-new g c =
    let base : Base = record c.bytes_base.result { create = c.args.id.0 } in
    let open' = c.bytes_base.ensures.open in
    new_bytes base c.args.pfs.0 c.args.obj.0 c.args.begin c.zone_of.result c.args.bytes.now c.bytes_base.ensures.about c.requires.id
    open'.0 open'.1 open'.2 c.requires.block.0 c.requires.sized.0 c.requires.sized.1 c.zone_of.ensures

pub returns-clause-ok : goal.returns-clause-ok
returns-clause-ok g c =
    let elements = g.T.HasElements.elements in
    let extents = g.T.HasRoom.extents in
    let pfs = c.args.pfs.0 in
    let obj = c.args.obj.0 in
    let i = c.args.id.0 in
    let begin = c.args.begin in
    let bytes = c.args.bytes.now in
    let old = c.args.store.now in
    let mid = c.clear_block.new.store in
    let new = c.put_version.new.store in
    let One : Change = ClearsBlock pfs obj i begin (begin + length bytes) in
    let s = subject_of (key_of (record c.bytes_base.result { create = i })) in
    let New : Change = Rewrites s (Some bytes) i in
    let Follow : Change = FollowWith s bytes i in
    let Two : Change = λ es es'. New es es' × Follow es es' in
    let Known : Lists → Type 0 = λ lists. AreBlocks (fulls lists) × AreOlder pfs obj i (begin + 1) (fulls lists) in
    on_ok_weaker c.put_version.result
    (λ put. writes_so elements extents (Then One Two) (PutsBlock pfs obj i begin bytes) Known old new
    (known_two (λ lists. AreBlocks (fulls lists)) (λ lists. AreOlder pfs obj i (begin + 1) (fulls lists)) (content_of (elements old) (extents old))
    (known_blocks (elements old) (extents old) (g.met.T.ElementStore.sorted old) (g.met.T.Extents.live old) c.requires.balanced) c.requires.older)
    (λ was es' known steps.
    let (mid, clears, second) = steps in
    let wrote = subst (λ (s : Subject). Rewrites s (Some bytes) i mid es') c.bytes_base.ensures.about second.0 in
    block_put pfs obj i begin bytes (fulls was) mid es' c.requires.block.0 c.requires.sized.0 c.requires.sized.1 clears wrote
    (block_follows pfs obj i begin bytes (fulls was) mid es' c.requires.block.0 c.requires.sized.0 c.requires.sized.1 known.0 known.1 clears
    (subst (λ (s : Subject). FollowWith s bytes i mid es') c.bytes_base.ensures.about second.1)))
    (writes_both elements extents One Two old mid new c.in_ok-clear_block.ensures.ok put))
    (writes_ok elements extents New Follow mid new c.put_version.result c.put_version.ensures.ok c.put_version.ensures.follows)
