use Rattle.std.proofs.Common.{◌≡◌, ◌+◌, length, sym, ap, subst, ◌∙◌, arith}
use Rattle.hm_newfs.specs.Layers.{HasPage}
use Rattle.hm_newfs.proofs.LayerLemmas.{page-spelled}
use Rattle.hm_newfs.proofs.PageLemmas.{page-more}
use Rattle.hm_newfs.proofs.layer.Layer.fill_piece.Goals as goal

pub loop-k-preserved : goal.loop-k-preserved
loop-k-preserved c =
    let so_far = c.loop-k.invariant in
    let k = c.loop-k.k in
    let number = c.args.first + k in
    let made = c.fill_page.new.page in
    let page = c.copy_from_slice.new.self in
    let same : page ≡ made = c.copy_from_slice.ensures.after ∙ c.bytes.ensures.value in
    let has = page-spelled c.args.bigblocks c.args.self number made c.requires.size c.bytes.ensures.bytes c.bytes.ensures.sized c.fill_page.ensures in
    let more = page-more (λ j. HasPage c.args.bigblocks c.args.self (c.args.first + j)) k c.loop-k.bytes page
    (ap length same ∙ c.bytes.ensures.sized) (omega arith) so_far.sized so_far.pages (subst (HasPage c.args.bigblocks c.args.self number) (sym same) has) in
    record { sized = more.0; pages = more.1 }
