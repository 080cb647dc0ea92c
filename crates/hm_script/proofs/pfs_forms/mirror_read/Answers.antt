use Rattle.hm_script.proofs.FormLemmas.{no_mirror_read}
use Rattle.hm_script.proofs.pfs_forms.mirror_read.Goals as goal

pub returns-in_default : goal.returns-in_default
returns-in_default c = no_mirror_read c.args.path.now c.args.begin.now c.in_default.ensures
