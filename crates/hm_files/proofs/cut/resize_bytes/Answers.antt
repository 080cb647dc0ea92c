use Rattle.std.proofs.Common.{◌^◌, ◌-◌, ℕ, subst}
use Rattle.std.proofs.lemmas.Result.{on_ok_weaker}
use Rattle.hm_key.specs.Balance.{content_of}
use Rattle.hm_cursor.specs.Told.{fulls}
use Rattle.hm_cursor.proofs.CallLemmas.{writes_so}
use Rattle.hm_cursor.proofs.StoreLemmas.{nothing_known}
use Rattle.hm_files.specs.Put.{CutsBytes, ResizesBytes}
use Rattle.hm_files.proofs.CutLemmas.{bytes_resized}
use Rattle.hm_files.proofs.cut.resize_bytes.Goals as goal

pub returns-clause-ok : goal.returns-clause-ok
returns-clause-ok g c =
    let elements = g.T.HasElements.elements in
    let extents = g.T.HasRoom.extents in
    let pfs = c.args.pfs.0 in
    let obj = c.args.obj.0 in
    let i = c.args.id.0 in
    let size = c.args.size in
    let new = c.args.new_size in
    let old = c.args.store.now in
    on_ok_weaker c.cut_bytes.result
    (λ wrote. writes_so elements extents (CutsBytes pfs obj i size c.min.result (2 ^ 64 - 1)) (ResizesBytes pfs obj i size new)
    (λ lists. Unit {0}) old c.cut_bytes.new.store
    (nothing_known (content_of (elements old) (extents old)))
    (λ was es' known cuts. bytes_resized pfs obj i size new (fulls was) es' c.requires.size
    (subst (λ (n : ℕ). CutsBytes pfs obj i size n (2 ^ 64 - 1) (fulls was) es') c.min.ensures cuts)) wrote)
    c.cut_bytes.ensures.ok
