use Rattle.hm_disk.proofs.MomentLemmas.{left-now}
use Rattle.hm_disk.proofs.laws.left_since_now_is_what_a_crash_now_may_leave.Goals as goal

pub returns : goal.returns
returns g c disk image =
    left-now (g.D.Disk.told disk) (g.D.Disk.left_since disk) image
    (λ moment. g.met.D.Disk.counts_now disk moment image) (g.met.D.Disk.only_now disk image)
