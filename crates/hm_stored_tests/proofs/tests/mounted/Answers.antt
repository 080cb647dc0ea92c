use Rattle.std.proofs.Common.{IfOk, ap, ◌≡◌, ◌⊎◌, ℕ, ◌*◌, ◌≤◌, ◌∙◌, Option, Some, None, length, rules, sym, subst}
use Rattle.std.specs.Prelude.{IfSome}
use Rattle.hm_types.specs.Offset.{zone_of}
use Rattle.hm_types.specs.declared.limits.TheConstants.{BIGBLOCK_BYTES}
use Rattle.hm_types.specs.declared.zone.TheConstants.{TREE_ZONE}
use Rattle.hm_disk.specs.Crash.{Told}
use Rattle.hm_header.specs.OnDisk.{HasHeader}
use Rattle.hm_header.specs.Range.{IsRoot}
use Rattle.hm_header.specs.declared.header.Header.{Header}
use Rattle.hm_freemap.specs.Places.{IsPageOf}
use Rattle.hm_pages.specs.Store.{contents}
use Rattle.hm_stored.specs.Heap.{Heap, heap_of}
use Rattle.hm_stored.proofs.SpotLemmas.{none_placed}
use Rattle.hm_stored.specs.Turn.{IsClosed}
use Rattle.hm_stored_tests.proofs.tests.mounted.Goals as goal

pub over-requires-clause-closed : goal.over-requires-clause-closed
unfolding heap_of
over-requires-clause-closed g c = record { begin = c.in-Ok-load.ensures.loaded.plain.begin; whole = c.of.ensures.closed.1 }

pub over-requires-clause-only : goal.over-requires-clause-only
unfolding heap_of
over-requires-clause-only g c = λ at there.
    subst (λ (n : ℕ). (zone_of at ≡ TREE_ZONE) ⊎ IsPageOf n at) (sym c.of.ensures.bigblocks) (c.in-Ok-load.ensures.loaded.only at there)

room_of_header : (o : Option Told) (header : Header) (number : ℕ) → IfSome o (λ (t : Told). HasHeader t.bytes header number)
    → IfSome o (λ (t : Told). header.bigblocks * BIGBLOCK_BYTES ≤ length t.bytes)
room_of_header None header number chosen = tt
room_of_header (Some t) header number chosen = chosen.room

pub over-requires-clause-size : goal.over-requires-clause-size
over-requires-clause-size g c =
    subst (λ (n : ℕ). IfSome (g.D.Disk.told c.load.new.disk) (λ (t : Told). n * BIGBLOCK_BYTES ≤ length t.bytes)) (sym c.of.ensures.bigblocks)
    (subst (λ (o : Option Told). IfSome o (λ (t : Told). c.in-Ok.header.bigblocks * BIGBLOCK_BYTES ≤ length t.bytes))
    (sym (c.load.ensures.same ∙ c.read_header.ensures.same))
    (room_of_header (g.D.Disk.told c.args.disk) c.in-Ok.header _ (subst (λ r. IfOk r (λ answer. IfSome (g.D.Disk.told c.args.disk)
    (λ (t : Told). HasHeader t.bytes answer.0 answer.1))) c.in-Ok.is c.in_ok-header.ensures.chosen)))

pub over-requires-clause-placed : goal.over-requires-clause-placed
over-requires-clause-placed g c =
    let plain = c.in-Ok-load.ensures.loaded.plain in
    none_placed c.of.result.bigblocks (contents c.in-Ok-load.store) plain.call plain.group plain.flush.0

pub returns-in-Ok-load-clause-root : goal.returns-in-Ok-load-clause-root
unfolding heap_of
returns-in-Ok-load-clause-root g c =
    subst (λ (h : Heap). IsRoot h.bigblocks h.roots.current) (sym c.over.ensures.heap)
    (subst (λ (n : ℕ). IsRoot n c.of.result.roots.current) (sym c.of.ensures.bigblocks)
    (subst (IsRoot c.in-Ok.header.bigblocks) (sym c.of.ensures.roots.2) (search rules)))

pub returns-in-Ok-load-clause-closed : goal.returns-in-Ok-load-clause-closed
unfolding heap_of
returns-in-Ok-load-clause-closed g c = subst IsClosed (sym c.over.ensures.heap)
    (record { begin = c.in-Ok-load.ensures.loaded.plain.begin; whole = c.of.ensures.closed.1 })

pub returns-in-Ok-load-clause-idle : goal.returns-in-Ok-load-clause-idle
unfolding heap_of
returns-in-Ok-load-clause-idle g c = ap (λ (h : Heap). h.pages.boundary) c.over.ensures.heap ∙ c.in-Ok-load.ensures.loaded.plain.flush.1
