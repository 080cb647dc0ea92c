use Rattle.std.proofs.Common.{◌≡◌, ◌+◌, ◌-◌, ◌%◌, ◌/◌, ◌*◌, ◌≤◌, ◌∙◌, arith, length, refl, rules, sym}
use Rattle.std.proofs.lemmas.Bool.{false≢true}
use Rattle.std.proofs.lemmas.Result.{on_ok_weaker}
use Rattle.hm_key.specs.Balance.{content_of}
use Rattle.hm_key.specs.Elements.{IsContent}
use Rattle.hm_key.specs.Key.{key_of}
use Rattle.hm_cursor.specs.Told.{Lists, fulls}
use Rattle.hm_cursor.proofs.CallLemmas.{Change, writes_from, writes_so}
use Rattle.hm_files.specs.Bytes.{AreBytesRead}
use Rattle.hm_files.specs.Close.{AreOlder, ClosesBytes}
use Rattle.hm_files.specs.Nearest.{FindsNearest}
use Rattle.hm_files.specs.Put.{CutsBytes, PutsBlock}
use Rattle.hm_files.proofs.CutLemmas.{AreBlocks}
use Rattle.hm_files.proofs.CutToldLemmas.{IsKnown, cut_between, cut_read, cut_unseen}
use Rattle.hm_files.proofs.MergeLemmas.{known_balanced}
use Rattle.hm_files.proofs.ReadLemmas.{still_read}
use Rattle.hm_files.proofs.TellLemmas.{known_blocks, known_elements, known_two, writes_via}
use Rattle.hm_files.proofs.cut.cut_bytes.Goals as goal

pub returns-then-begin-keep-clause-ok : goal.returns-then-begin-keep-clause-ok
returns-then-begin-keep-clause-ok g c =
    let elements = g.T.HasElements.elements in
    let extents = g.T.HasRoom.extents in
    let pfs = c.args.pfs.0 in
    let obj = c.args.obj.0 in
    let i = c.args.id.0 in
    let size = c.args.size in
    let keep = c.args.keep in
    let until = c.args.until in
    let old = c.args.store.now in
    let aligned : keep % 16384 ≡ 0 = omega (arith, c.if-begin-keep.true) in
    on_ok_weaker c.close_between.result
    (λ wrote. writes_so elements extents (ClosesBytes pfs obj i (keep + 1) (until + 1)) (CutsBytes pfs obj i size keep until) (IsKnown pfs obj i) old
    c.close_between.new.store
    (known_two (λ lists. AreBlocks (fulls lists)) (λ lists. AreOlder pfs obj i 0 (fulls lists)) (content_of (elements old) (extents old))
    (known_blocks (elements old) (extents old) (g.met.T.ElementStore.sorted old) (g.met.T.Extents.live old) c.requires.balanced) c.requires.older)
    (λ was es' known closes. cut_between pfs obj i size keep until c.requires.keep.0 c.requires.keep.1 c.requires.until was known es' aligned closes) wrote)
    c.close_between.ensures.ok

pub returns-then-not-ends_after-clause-ok : goal.returns-then-not-ends_after-clause-ok
returns-then-not-ends_after-clause-ok g c =
    let elements = g.T.HasElements.elements in
    let extents = g.T.HasRoom.extents in
    let pfs = c.args.pfs.0 in
    let obj = c.args.obj.0 in
    let i = c.args.id.0 in
    let size = c.args.size in
    let keep = c.args.keep in
    let until = c.args.until in
    let at = key_of c.bytes_base-at.result in
    let near = c.min.result in
    let last = keep / 16384 * 16384 + 16384 in
    let old = c.args.store.now in
    let looked = c.nearest_version.new.store in
    let searched = c.in_ok-shown.ensures in
    let found = c.in_ok-shown.shown in
    let Closes : Change = ClosesBytes pfs obj i (keep + 1) (until + 1) in
    let Told : Lists → Type 0 = λ lists. IsContent lists.0 × FindsNearest lists.0 at near last i found in
    let Known : Lists → Type 0 = λ lists. IsKnown pfs obj i lists × Told lists in
    on_ok_weaker c.close_between-then-not-ends_after.result
    (λ wrote. writes_so elements extents Closes (CutsBytes pfs obj i size keep until) Known old c.close_between-then-not-ends_after.new.store
    (known_two (IsKnown pfs obj i) Told (content_of (elements old) (extents old))
    (known_two (λ lists. AreBlocks (fulls lists)) (λ lists. AreOlder pfs obj i 0 (fulls lists)) (content_of (elements old) (extents old))
    (known_blocks (elements old) (extents old) (g.met.T.ElementStore.sorted old) (g.met.T.Extents.live old) c.requires.balanced) c.requires.older)
    (known_two (λ lists. IsContent lists.0) (λ lists. FindsNearest lists.0 at near last i found) (content_of (elements old) (extents old))
    (known_elements (elements old) (extents old) IsContent (g.met.T.ElementStore.sorted old))
    (known_elements (elements old) (extents old) (λ list. FindsNearest list at near last i found) searched.ok)))
    (λ was es' known closes. cut_unseen pfs obj i size keep until c.requires.keep.0 c.requires.keep.1 c.requires.until was known.0 at near last known.1.0
    c.bytes_base-at.ensures.about c.min.ensures refl found es' known.1.1
    (λ ends. false≢true (sym c.if-not-ends_after.true ∙ c.ends_after.ensures.1 ends)) closes)
    (writes_from elements extents Closes old looked c.close_between-then-not-ends_after.new.store searched.keeps.elements searched.keeps.extents wrote))
    c.close_between-then-not-ends_after.ensures.ok

pub returns-clause-ok : goal.returns-clause-ok
returns-clause-ok g c =
    let elements = g.T.HasElements.elements in
    let extents = g.T.HasRoom.extents in
    let pfs = c.args.pfs.0 in
    let obj = c.args.obj.0 in
    let i = c.args.id.0 in
    let size = c.args.size in
    let keep = c.args.keep in
    let until = c.args.until in
    let begin = keep / 16384 * 16384 in
    let old = c.args.store.now in
    let looked = c.nearest_version.new.store in
    let last = c.read_all.new.store in
    let mid = c.close_between-2.new.store in
    let new = c.put_block.new.store in
    let front = c.read_all.new.buffer in
    let searched = c.in_ok-shown.ensures in
    let read = c.in_ok-read_all.ensures in
    let Closes : Change = ClosesBytes pfs obj i (keep + 1) (until + 1) in
    let Puts : Change = PutsBlock pfs obj i begin front in
    let Told : Lists → Type 0 = λ lists. IsContent lists.0 × AreBytesRead i pfs obj size begin front lists in
    let Known : Lists → Type 0 = λ lists. IsKnown pfs obj i lists × Told lists in
    let long : length front ≡ keep - begin = search rules in
    let sized : keep ≡ begin + length front = omega (arith, long) in
    let some : 1 ≤ length front = omega (arith, long, c.if-begin-keep.false) in
    on_ok_weaker c.put_block.result
    (λ put. writes_via elements extents Closes Puts (CutsBytes pfs obj i size keep until) Known (λ lists. IsContent lists.0) old mid new
    (λ was mid es' known content balanced closes puts.
    cut_read pfs obj i size keep until c.requires.keep.0 c.requires.keep.1 c.requires.until was known.0 mid front es' sized some
    known.1.0 known.1.1 closes puts)
    (known_two (IsKnown pfs obj i) Told (content_of (elements old) (extents old))
    (known_two (λ lists. AreBlocks (fulls lists)) (λ lists. AreOlder pfs obj i 0 (fulls lists)) (content_of (elements old) (extents old))
    (known_blocks (elements old) (extents old) (g.met.T.ElementStore.sorted old) (g.met.T.Extents.live old) c.requires.balanced) c.requires.older)
    (known_two (λ lists. IsContent lists.0) (AreBytesRead i pfs obj size begin front) (content_of (elements old) (extents old))
    (known_elements (elements old) (extents old) IsContent (g.met.T.ElementStore.sorted old))
    (known_balanced (elements old) (extents old) (AreBytesRead i pfs obj size begin front) c.requires.balanced
    (still_read (elements looked) (elements old) (extents looked) (extents old) (AreBytesRead i pfs obj size begin front) searched.keeps.elements
    searched.keeps.extents read.ok))))
    (known_elements (elements mid) (extents mid) IsContent (g.met.T.ElementStore.sorted mid))
    (writes_from elements extents Closes old last mid (read.keeps.elements ∙ searched.keeps.elements) (read.keeps.extents ∙ searched.keeps.extents)
    c.in_ok-close_between.ensures.ok) put)
    c.put_block.ensures.ok
