use Rattle.std.proofs.Common.{◌≡◌, ℕ, ap, sym, ◌∙◌, ◌-◌, ◌++◌, length, drop, take, min, rules}
use Rattle.std.proofs.Math.Seq.{take-append_seam}
use Rattle.hm_cursor.specs.Told.{OnBalanced}
use Rattle.hm_files.specs.Bytes.{AreBytesRead}
use Rattle.hm_files.proofs.ReadLemmas.{read_shown}
use Rattle.hm_files.proofs.read.read_bytes.Goals as goal

pub returns-clause-shown : goal.returns-clause-shown
returns-clause-shown g c =
    let whole = c.read_all.new.buffer ++ drop c.shorter-count.result c.args.buffer.now in
    let long : length c.read_all.new.buffer ≡ c.shorter-count.result = search rules in
    let same : take c.shorter-count.result whole ≡ c.read_all.new.buffer =
    ap (λ (n : ℕ). take n whole) (sym long) ∙ take-append_seam c.read_all.new.buffer (drop c.shorter-count.result c.args.buffer.now) in
    let sized : length (take c.shorter-count.result whole) ≡ min (length whole) (c.args.size - c.args.offset) = search rules in
    let read : OnBalanced (g.T.HasElements.elements c.args.store.now) (g.T.HasRoom.extents c.args.store.now)
    (AreBytesRead c.args.as_of.0 c.args.pfs.0 c.args.obj.0 c.args.size c.args.offset (take c.shorter-count.result whole)) =
    rw same c.in_ok-read_all.ensures.ok in
    read_shown (g.T.HasElements.elements c.args.store.now) (g.T.HasRoom.extents c.args.store.now) c.args.as_of.0 c.args.pfs.0 c.args.obj.0
    c.args.size c.args.offset (length whole) (take c.shorter-count.result whole) (g.met.T.ElementStore.sorted c.args.store.now) sized read
