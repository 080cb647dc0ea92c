use Rattle.std.proofs.Common.{ℕ}
use Rattle.std.proofs.lemmas.Result.{err_from_is_err_and}
use Rattle.hm_pages.specs.Store.{contents}
use Rattle.hm_search.proofs.DamageLemmas.{cause_since}
use Rattle.hm_load.specs.Damage.{IsDamage}
use Rattle.hm_load.specs.Faults.{Tells}
use Rattle.hm_load.proofs.ImageLemmas.{freemap_read, layer1_damage, layer2_damage}
use Rattle.hm_load.proofs.LayerLemmas.{no_layer}
use Rattle.hm_load.proofs.StoreLemmas.{empty_map, empty_plain, err_is, on_ok, told_both, told_so, told_was}
use Rattle.hm_load.proofs.reading.load_freemap.Goals as goal

pub load_layer2-requires-clause-plain : goal.load_layer2-requires-clause-plain
load_layer2-requires-clause-plain g c = empty_plain (contents c.args.store.now) c.requires.empty

pub load_layer2-requires-clause-empty : goal.load_layer2-requires-clause-empty
load_layer2-requires-clause-empty g c =
    no_layer c.args.header.now (contents c.args.store.now).current (λ (at : ℕ). empty_map (contents c.args.store.now) at c.requires.empty)

pub returns-in_err-check_layer1-clause-damage : goal.returns-in_err-check_layer1-clause-damage
returns-in_err-check_layer1-clause-damage g c =
    let p = err_from_is_err_and c.from_residual.result c.from_residual.ensures.1 in
    err_is (g.D.Disk.told c.args.disk.now) (λ t. Tells
    (IsDamage t.bytes c.args.header.now)) c.from_residual.result p.0 c.in_err-check_layer1.field-0.0 p.1 p.2
    (told_so (g.D.Disk.told c.args.disk.now) (λ t damage. layer1_damage t.bytes c.args.header.now c.args.volume.now.bigblocks
    c.in_err-check_layer1.field-0.0 c.requires.volume damage) c.in_err-check_layer1.ensures.damage)

pub returns-clause-read : goal.returns-clause-read
returns-clause-read g c =
    on_ok c.load_layer2.result
    (λ read. told_both (g.D.Disk.told c.args.disk.now) (λ t layer1 layer2. freemap_read t.bytes c.args.header.now c.args.volume.now.bigblocks
    (contents c.load_layer2.new.store).current c.requires.volume layer1 layer2)
    c.in_ok-check_layer1.ensures.ok (told_was _ _ _ c.check_layer1.ensures.same read)) c.load_layer2.ensures.read

pub returns-clause-damage : goal.returns-clause-damage
returns-clause-damage g c =
    told_both (g.D.Disk.told c.args.disk.now)
    (λ t layer1 damage. layer2_damage t.bytes c.args.header.now c.args.volume.now.bigblocks c.load_layer2.result c.requires.volume layer1 damage)
    c.in_ok-check_layer1.ensures.ok (told_was _ _ _ c.check_layer1.ensures.same c.load_layer2.ensures.damage)

pub returns-clause-cause : goal.returns-clause-cause
returns-clause-cause g c =
    cause_since (g.D.Disk.faults c.args.disk.now) (g.D.Disk.faults c.check_layer1.new.disk) (g.D.Disk.faults c.load_layer2.new.disk) c.load_layer2.result
    c.check_layer1.ensures.cause.never_falls c.load_layer2.ensures.cause
