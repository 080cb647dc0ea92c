use Rattle.std.proofs.Common.{IfErr, IfSome, OnOk, subst, sym}
use Rattle.std.proofs.lemmas.Result.{err_from_is_err_and}
use Rattle.hm_disk.specs.Crash.{Told}
use Rattle.hm_pages.specs.Store.{contents}
use Rattle.hm_search.proofs.DamageLemmas.{cause_since}
use Rattle.hm_search.specs.declared.subtree.Subtree.{Subtree}
use Rattle.hm_load.specs.Damage.{IsDamage, IsTreeDamage}
use Rattle.hm_load.specs.Faults.{Tells}
use Rattle.hm_load.specs.Held.{HoldsImage, IsReadBelow}
use Rattle.hm_load.specs.Loaded.{IsPlain}
use Rattle.hm_load.specs.Tree.{AddsTree}
use Rattle.hm_load.proofs.ImageLemmas.{image_held, tree_damage}
use Rattle.hm_load.proofs.LoadedLemmas.{is_loaded, layer_apart}
use Rattle.hm_load.proofs.StoreLemmas.{err_is, err_no_on, on_ok, told_both, told_so, told_was}
use Rattle.hm_load.proofs.reading.load_into.Goals as goal

pub load_below-requires-clause-read : goal.load_below-requires-clause-read
load_below-requires-clause-read g c =
    told_was _ _ _ (sym c.load_freemap.ensures.same) (told_so (g.D.Disk.told c.args.disk.now)
    (λ t freemap. freemap.layer2.pages) c.in_ok-load_freemap.ensures.read)

pub load_below-requires-clause-apart : goal.load_below-requires-clause-apart
load_below-requires-clause-apart g c =
    layer_apart c.args.header.now c.requires.header (contents c.load_freemap.new.store).current c.root-root.result c.in_ok-load_freemap.ensures.ok.1

pub returns-in_err-load_freemap-clause-holds : goal.returns-in_err-load_freemap-clause-holds
returns-in_err-load_freemap-clause-holds g c =
    let p = err_from_is_err_and c.from_residual.result c.from_residual.ensures.1 in
    err_no_on (g.D.Disk.told c.args.disk.now) (λ t. HoldsImage t.bytes c.args.header.now (contents c.load_freemap.new.store)) c.from_residual.result p.0 p.1

pub returns-in_err-load_freemap-clause-damage : goal.returns-in_err-load_freemap-clause-damage
returns-in_err-load_freemap-clause-damage g c =
    let p = err_from_is_err_and c.from_residual.result c.from_residual.ensures.1 in
    err_is (g.D.Disk.told c.args.disk.now) (λ t. Tells
    (IsDamage t.bytes c.args.header.now)) c.from_residual.result p.0 c.in_err-load_freemap.field-0.0 p.1 p.2 c.in_err-load_freemap.ensures.damage

pub returns-clause-loaded : goal.returns-clause-loaded
returns-clause-loaded g c =
    let was = (contents c.load_freemap.new.store).current in
    let now = contents c.load_below.new.store in
    on_ok c.load_below.result (λ came. is_loaded c.args.header.now c.requires.header was now came.0 c.in_ok-load_freemap.ensures.ok.1
    (subst (λ (s : Subtree). AddsTree s was now.current) c.root-root.ensures came.1)) c.load_below.ensures.ok

pub returns-clause-holds : goal.returns-clause-holds
returns-clause-holds g c =
    let told = g.D.Disk.told c.args.disk.now in
    let b = c.args.header.now.bigblocks in
    let was = (contents c.load_freemap.new.store).current in
    let now = contents c.load_below.new.store in
    let read = on_ok c.load_below.result (λ h. told_was _ _ _ c.load_freemap.ensures.same h) c.load_below.ensures.read in
    image_held c.args.header.now was now told c.load_below.result c.requires.space c.in_ok-load_freemap.ensures.read
    (subst (λ (s : Subtree). OnOk c.load_below.result (IfSome told (λ (t : Told). IsReadBelow t.bytes b s now.current))) c.root-root.ensures read)
    (subst (λ (s : Subtree). OnOk c.load_below.result (IsPlain now × AddsTree s was now.current)) c.root-root.ensures c.load_below.ensures.ok)

pub returns-clause-damage : goal.returns-clause-damage
returns-clause-damage g c =
    let told = g.D.Disk.told c.args.disk.now in
    let b = c.args.header.now.bigblocks in
    let was = (contents c.load_freemap.new.store).current in
    told_both told (λ t freemap damage. tree_damage t.bytes c.args.header.now was c.load_below.result freemap damage) c.in_ok-load_freemap.ensures.read
    (subst (λ (s : Subtree). IfSome told (λ (t : Told). IfErr c.load_below.result (Tells (λ at kind. IsTreeDamage t.bytes b at kind s)))) c.root-root.ensures
    (told_was _ _ _ c.load_freemap.ensures.same c.load_below.ensures.damage))

pub returns-clause-cause : goal.returns-clause-cause
returns-clause-cause g c =
    cause_since (g.D.Disk.faults c.args.disk.now) (g.D.Disk.faults c.load_freemap.new.disk) (g.D.Disk.faults c.load_below.new.disk) c.load_below.result
    c.load_freemap.ensures.cause.never_falls c.load_below.ensures.cause
