use Rattle.std.proofs.lemmas.Result.{IfErr-weaker, err_from_is_err_and}
use Rattle.hm_types.specs.Faults.{IsUndamaged}
use Rattle.hm_pages.specs.Store.{contents}
use Rattle.hm_load.specs.Damage.{IsDamage}
use Rattle.hm_load.specs.Faults.{Tells}
use Rattle.hm_load.specs.Held.{HoldsImage}
use Rattle.hm_load.proofs.StoreLemmas.{err_is, err_no_ok, told_any, told_so}
use Rattle.hm_load.proofs.SoundLemmas.{no_fault}
use Rattle.hm_load.proofs.reading.load.Goals as goal

pub returns-in_err-load_into-clause-holds : goal.returns-in_err-load_into-clause-holds
returns-in_err-load_into-clause-holds g c =
    let p = err_from_is_err_and c.from_residual-in_err-load_into.result c.from_residual-in_err-load_into.ensures.1 in
    err_no_ok (g.D.Disk.told c.args.disk.now) (λ t store. HoldsImage t.bytes c.args.header.now
    (contents store)) c.from_residual-in_err-load_into.result p.0 p.1

pub returns-in_err-load_into-clause-damage : goal.returns-in_err-load_into-clause-damage
returns-in_err-load_into-clause-damage g c =
    let p = err_from_is_err_and c.from_residual-in_err-load_into.result c.from_residual-in_err-load_into.ensures.1 in
    err_is (g.D.Disk.told c.args.disk.now) (λ t. Tells
    (IsDamage t.bytes c.args.header.now)) c.from_residual-in_err-load_into.result p.0 c.in_err-load_into.field-0.0 p.1 p.2
    c.in_err-load_into.ensures.damage

pub returns-in_err-load_into-clause-sound : goal.returns-in_err-load_into-clause-sound
returns-in_err-load_into-clause-sound g c =
    let p = err_from_is_err_and c.from_residual-in_err-load_into.result c.from_residual-in_err-load_into.ensures.1 in
    told_so (g.D.Disk.told c.args.disk.now)
    (λ t failed sound. IfErr-weaker c.from_residual-in_err-load_into.result (Tells (IsDamage t.bytes c.args.header.now)) IsUndamaged
    (λ fault tells. no_fault t.bytes c.args.header.now sound fault tells) failed)
    (err_is (g.D.Disk.told c.args.disk.now) (λ t. Tells
    (IsDamage t.bytes c.args.header.now)) c.from_residual-in_err-load_into.result p.0 c.in_err-load_into.field-0.0 p.1 p.2
    c.in_err-load_into.ensures.damage)

pub returns-clause-sound : goal.returns-clause-sound
returns-clause-sound g c = told_any (g.D.Disk.told c.args.disk.now) (λ t sound. tt)
