use Rattle.std.proofs.Common.{refl}
use Rattle.hm_records.specs.Laws.{counts_of}
use Rattle.hm_records.proofs.MadeLemmas.{file_changed}
use Rattle.hm_records.proofs.views.objects.new_bytes_are_shown.Goals as goal

pub returns : goal.returns
returns c = λ old new pfs tree file inode bytes has changes there kind holds. file_changed pfs file.number.0 inode bytes file tree (counts_of old)
    (counts_of new) has changes there refl kind holds.there holds.kind holds.links holds.are
