use Rattle.std.proofs.Common.{inl, inr, ⊎_elim, subst}
use Rattle.hm_disk.proofs.laws.what_is_left_was_so_before_or_may_be_left_now.Goals as goal

pub returns : goal.returns
returns g c = λ before after same moment image left. ⊎_elim
    (λ earlier. inl (g.met.D.Disk.joins before moment image (subst (λ past. g.D.Disk.left_before past moment image) same earlier))) inr
    (g.met.D.Disk.splits after moment image left)
