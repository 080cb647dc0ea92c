use Rattle.hm_records.specs.Laws.{counts_of}
use Rattle.hm_records.proofs.MadeLemmas.{links_changed}
use Rattle.hm_records.proofs.views.objects.new_links_are_shown.Goals as goal

pub returns : goal.returns
returns c = λ old new pfs tree number links inode has there small overrides. links_changed pfs number.0 links inode tree (counts_of old)
    (counts_of new) has there small overrides
