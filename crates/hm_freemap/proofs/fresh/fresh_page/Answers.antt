use Rattle.std.proofs.Common.{◌∙◌}
use Rattle.hm_freemap.proofs.FreshLemmas.{fresh_more}
use Rattle.hm_freemap.proofs.fresh.fresh_page.Goals as goal

pub loop-i-preserved : goal.loop-i-preserved
loop-i-preserved c =
    fresh_more c.args.bigblocks c.args.taken.now c.args.first c.loop-i.i c.loop-i.page c.write.new.page c.loop-i.invariant
    (c.write.ensures.value ∙ c.fresh_entry.ensures) c.write.ensures.zero c.write.ensures.others
