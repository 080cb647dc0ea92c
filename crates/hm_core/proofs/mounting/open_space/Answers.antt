use Rattle.std.proofs.Common.{◌≡◌, ◌*◌, ◌≤◌, Option, length, sym, subst, ap, ◌∙◌}
use Rattle.std.specs.Prelude.{IfSome}
use Rattle.hm_types.specs.declared.fault.Fault.{Fault}
use Rattle.hm_types.specs.declared.fault.Fault.TheVariants.{NoMemory as no_memory}
use Rattle.hm_types.specs.declared.limits.TheConstants.{BIGBLOCK_BYTES}
use Rattle.hm_disk.specs.Crash.{Told}
use Rattle.hm_pages.specs.Store.{contents}
use Rattle.hm_stored.specs.Heap.{heap_of}
use Rattle.hm_stored.proofs.SpotLemmas.{none_placed}
use Rattle.hm_state.proofs.MountedLemmas.{mounted_pages}
use Rattle.hm_core.specs.Mounting.{IsNotRead}
use Rattle.hm_core.proofs.MountingLemmas.{closed_first, no_damage, read_from}
use Rattle.hm_core.proofs.OpeningLemmas.{not_loaded, refused_memory, room_on}
use Rattle.hm_core.proofs.mounting.open_space.Goals as goal

pub returns-in-Err-clause-err : goal.returns-in-Err-clause-err
returns-in-Err-clause-err g c =
    not_loaded (g.D.Disk.told c.args.disk) (g.D.Disk.told c.load.new.disk) c.args.header.now c.in-Err.fault c.load.ensures.same
    c.requires.counts c.in-Err.ensures.sound c.in-Err.ensures.damage

pub over-space-requires-clause-closed : goal.over-space-requires-clause-closed
over-space-requires-clause-closed g c =
    closed_first c.args.header.now (contents c.in-Ok.store) c.of.result c.in-Ok.ensures.loaded c.of.ensures (g.D.Disk.told c.load.new.disk)

pub over-space-requires-clause-size : goal.over-space-requires-clause-size
over-space-requires-clause-size g c =
    subst (λ (told : Option Told). IfSome told (λ t. c.of.result.bigblocks * BIGBLOCK_BYTES ≤ length t.bytes)) (sym c.load.ensures.same)
    (room_on (g.D.Disk.told c.args.disk) c.args.header.now c.of.result.bigblocks c.of.ensures.bigblocks c.requires.counts)

pub over-space-requires-clause-only : goal.over-space-requires-clause-only
over-space-requires-clause-only g c =
    mounted_pages (g.D.Disk.told c.load.new.disk) c.args.header.now (contents c.in-Ok.store) c.of.result c.in-Ok.ensures.loaded c.of.ensures

pub over-space-requires-clause-placed : goal.over-space-requires-clause-placed
over-space-requires-clause-placed g c =
    let plain = c.in-Ok.ensures.loaded.plain in
    none_placed c.of.result.bigblocks (contents c.in-Ok.store) plain.call plain.group plain.flush.0

pub returns-in-Ok-free_blocks-clause-ok : goal.returns-in-Ok-free_blocks-clause-ok
returns-in-Ok-free_blocks-clause-ok g c =
    read_from c.args.header.now (contents c.in-Ok.store) c.of.result c.in-Ok.ensures.loaded c.of.ensures (g.D.Disk.told c.args.disk)
    (g.D.Disk.told c.load.new.disk) _ _ c.in-Ok-free_blocks.free c.pages_are_bytes.ensures c.requires.unarmed c.requires.counts c.in-Ok.ensures.holds
    c.load.ensures.same c.over-space.ensures.heap c.free_blocks.ensures.same c.in-Ok-free_blocks.ensures.ok

pub returns-in-Err-free_blocks-clause-err : goal.returns-in-Err-free_blocks-clause-err
unfolding heap_of
returns-in-Err-free_blocks-clause-err g c =
    let old = g.D.Disk.told c.args.disk in
    let new = g.D.Disk.told c.into_disk.result in
    let opened = heap_of (contents c.over-space.result.pages.store) (g.D.Disk.told c.over-space.result.disk) c.over-space.result.books in
    let none : c.in-Err-free_blocks.fault ≡ no_memory =
    no_damage c.args.header.now (contents c.in-Ok.store) c.of.result c.in-Ok.ensures.loaded c.of.ensures (g.D.Disk.told c.load.new.disk)
    opened c.in-Err-free_blocks.fault c.over-space.ensures.heap c.in-Err-free_blocks.ensures.cause c.in-Err-free_blocks.ensures.no_media in
    let same : new ≡ old =
    ap g.D.Disk.told (c.into_disk.ensures ∙ c.free_blocks.ensures.disk ∙ c.over-space.ensures.disk) ∙ c.load.ensures.same in
    subst (λ (fault : Fault). IsNotRead c.args.header.now fault old new) (sym none) (refused_memory old new c.args.header.now same)

pub returns-in-Ok-free_blocks-clause-past : goal.returns-in-Ok-free_blocks-clause-past
returns-in-Ok-free_blocks-clause-past g c =
    ap g.D.Disk.past (c.free_blocks.ensures.disk ∙ c.over-space.ensures.disk) ∙ c.load.ensures.crashes

pub returns-in-Err-free_blocks-clause-err_past : goal.returns-in-Err-free_blocks-clause-err_past
returns-in-Err-free_blocks-clause-err_past g c =
    ap g.D.Disk.past (c.into_disk.ensures ∙ c.free_blocks.ensures.disk ∙ c.over-space.ensures.disk) ∙ c.load.ensures.crashes
