-- What a crash leaves over calls: the frame has the past of the disk.
use Rattle.std.proofs.Common.{◌≡◌, ap, inl, inr, subst, ⊎_elim}
use Rattle.hm_stored.proofs.laws.what_a_crash_leaves_over_calls.Goals as goal

pub returns : goal.returns
returns g c before after same moment image left =
    let D = g.D.Disk in
    let past : D.past after.space.disk ≡ D.past before.space.disk = ap (λ f. f.1) same in
    ⊎_elim (λ was. inl (g.met.D.Disk.joins before.space.disk moment image (subst (λ p. D.left_before p moment image) past was)))
    (λ now. inr now)
    (g.met.D.Disk.splits after.space.disk moment image left)
