use Rattle.std.proofs.Common.{◌≡◌, ℕ, ◌≤◌, refl, sym, subst, ap, ◌∙◌, arith, List, [], length}
use Rattle.hm_flush.specs.declared.flush.Flush.{Flush}
use Rattle.hm_header.specs.Range.{IsRoot}
use Rattle.hm_types.specs.Told.{BothTell}
use Rattle.hm_model.specs.declared.entry.Entry.{Entry}
use Rattle.hm_pages.specs.Store.{contents}
use Rattle.hm_stored.specs.Heap.{heap_of}
use Rattle.hm_core.specs.Numbers.{numbers_told}
use Rattle.hm_core.specs.Counts.{disk_counts}
use Rattle.hm_core.specs.Inside.{IsInOrder}
use Rattle.hm_core.specs.Mounting.{IsReadFrom}
use Rattle.hm_core.specs.Running.{open_jobs}
use Rattle.hm_core.proofs.CausedLemmas.{caused_first}
use Rattle.hm_core.proofs.CountLemmas.{disk_later}
use Rattle.hm_core.proofs.MountingLemmas.{is_mounted, mounts_disk, ordered_first}
use Rattle.hm_core.proofs.ReadLemmas.{IsLeft}
use Rattle.hm_core.proofs.RecoveredLemmas.{AfterReads, header_on, not_read, not_recovered, recovered_header_on, recovered_read}
use Rattle.hm_core.proofs.volume.Core.mount.Goals as goal

pub returns-in-Err-clause-err : goal.returns-in-Err-clause-err
returns-in-Err-clause-err g c =
    not_recovered (g.D.Disk.left_since c.args.disk) (g.D.Disk.left_since c.recover.new.disk) (g.D.Disk.told c.args.disk)
    (g.D.Disk.told c.recover.new.disk) c.in-Err.fault c.in-Err.ensures.err c.in-Err.ensures.any_moment

pub open_space-requires-clause-counts : goal.open_space-requires-clause-counts
open_space-requires-clause-counts g c =
    header_on c.in-Ok.opened.header c.in-Ok.opened.slot (g.D.Disk.told c.recover.new.disk)
    (recovered_header_on c.in-Ok.opened (g.D.Disk.left_since c.args.disk) (g.D.Disk.left_since c.recover.new.disk) (g.D.Disk.told c.args.disk)
    (g.D.Disk.told c.recover.new.disk) c.in-Ok.ensures.ok)

pub invariant_of-core : goal.invariant_of-core
invariant_of-core g c =
    let header = c.in-Ok.opened.header in
    let slot = c.in-Ok.opened.slot in
    let free = c.in-Ok-open_space.free in
    let told = g.D.Disk.told c.recover.new.disk in
    let s = c.over.result.space in
    let h = heap_of (contents s.pages.store) (g.D.Disk.told s.disk) s.books in
    let read : IsReadFrom told header free h =
    subst (λ s. IsReadFrom told header free
    (heap_of (contents s.pages.store) (g.D.Disk.told s.disk) s.books)) (sym c.over.ensures.space) c.in-Ok-open_space.ensures.ok in
    let start : c.faults.result ≡ g.D.Disk.faults s.disk =
    c.faults.ensures ∙ ap g.D.Disk.faults c.disk.ensures ∙ sym (ap (λ x. g.D.Disk.faults x.disk) c.over.ensures.space) in
    let none = ap length c.new-in-Ok-open_space-2.ensures.items in
    record {
      placed = omega (arith, none);
      numbered = ap numbers_told (sym c.new-in-Ok-open_space.ensures.items);
      ordered = ∣ subst (λ (l : List Entry). IsInOrder c.new.result header.last.0 free h l) (sym c.new-in-Ok-open_space.ensures.items)
          (subst (λ (f : Flush). IsInOrder f header.last.0 free h []) (sym c.new.ensures)
          (ordered_first told header slot free h c.in-Ok.ensures.opened.header
          (recovered_header_on c.in-Ok.opened (g.D.Disk.left_since c.args.disk) (g.D.Disk.left_since c.recover.new.disk) (g.D.Disk.told c.args.disk) told
          c.in-Ok.ensures.ok) read)) ∣₁;
      caused = ∣ caused_first header.last.0 (disk_counts c.faults.result) (disk_counts (g.D.Disk.faults s.disk)) header.last.0 _ _
          (ap open_jobs c.new-in-Ok-open_space-2.ensures.items) c.new-in-Ok-open_space.ensures.items
          (disk_later (disk_counts 0) c.faults.result (g.D.Disk.faults s.disk) (omega (arith, start))) refl ∣₁;
    }

pub over-requires-clause-root : goal.over-requires-clause-root
unfolding heap_of
over-requires-clause-root g c =
    subst (λ (n : ℕ). IsRoot n c.in-Ok.opened.header.root) c.in-Ok-open_space.ensures.ok.bigblocks c.in-Ok.ensures.opened.header.root

pub returns-in-Ok-open_space-clause-ok : goal.returns-in-Ok-open_space-clause-ok
returns-in-Ok-open_space-clause-ok g c =
    let header = c.in-Ok.opened.header in
    let free = c.in-Ok-open_space.free in
    let told = g.D.Disk.told c.recover.new.disk in
    let s = c.over.result.space in
    let h = heap_of (contents s.pages.store) (g.D.Disk.told s.disk) s.books in
    let same = ap (λ s. g.D.Disk.faults s.disk) c.over.ensures.space in
    let start = c.faults.ensures ∙ ap g.D.Disk.faults c.disk.ensures ∙ sym same in
    let read : IsReadFrom told header free h =
    subst (λ s. IsReadFrom told header free (heap_of (contents s.pages.store) (g.D.Disk.told s.disk) s.books)) (sym c.over.ensures.space)
    c.in-Ok-open_space.ensures.ok in
    let counted : g.D.Disk.faults c.args.disk ≤ g.D.Disk.faults s.disk =
    omega (arith, c.recover.ensures.cause.never_falls, c.in-Ok-open_space.ensures.faults, same) in
    is_mounted _ header c.in-Ok.opened.slot c.new.ensures c.new-in-Ok-open_space.ensures.items c.over.ensures.root (refl, refl) refl
    (ap disk_counts start) (ap open_jobs c.new-in-Ok-open_space-2.ensures.items) told (g.D.Disk.faults c.args.disk) counted c.in-Ok.ensures.opened.none read
    c.core_is_sound.ensures

pub returns-in-Ok-open_space-clause-disk : goal.returns-in-Ok-open_space-clause-disk
unfolding heap_of
returns-in-Ok-open_space-clause-disk g c =
    let D = g.D.Disk in
    let met = g.met.D.Disk in
    let left : (d : g.row.D.Denot) → IsLeft (D.left_before (D.past d)) (D.left_since d) (D.told d) =
    λ d. record { counts = met.counts_now d; only = met.only_now d; earlier = met.since_earlier d; splits = met.splits d; joins = met.joins d } in
    let old = c.args.disk in
    let mid = c.recover.new.disk in
    let s = c.over.result.space in
    let header = c.in-Ok.opened.header in
    let free = c.in-Ok-open_space.free in
    let is : IsReadFrom (D.told mid) header free (heap_of (contents s.pages.store) (D.told s.disk) s.books) =
    subst (λ s. IsReadFrom (D.told mid) header free (heap_of (contents s.pages.store) (D.told s.disk) s.books)) (sym c.over.ensures.space)
    c.in-Ok-open_space.ensures.ok in
    let after : BothTell (D.told old) (D.told mid) (AfterReads header c.in-Ok.opened.slot (D.left_since old) (D.left_since s.disk)) =
    recovered_read c.in-Ok.opened D.left_before (D.past old) (D.past mid) (D.past s.disk) (D.left_since old) (D.left_since mid) (D.left_since s.disk)
    (D.told old) (D.told mid) (D.told s.disk) (left old) (left mid) (left s.disk)
    (ap (λ s. D.past s.disk) c.over.ensures.space ∙ c.in-Ok-open_space.ensures.past) is.disk c.in-Ok.ensures.ok c.in-Ok.ensures.any_moment in
    mounts_disk _ header c.in-Ok.opened.slot c.new.ensures c.new-in-Ok-open_space.ensures.items c.over.ensures.root (refl, refl) refl
    (ap disk_counts (c.faults.ensures ∙ ap D.faults c.disk.ensures ∙ sym (ap (λ s. D.faults s.disk) c.over.ensures.space)))
    (ap open_jobs c.new-in-Ok-open_space-2.ensures.items) (D.left_since old) (D.left_since s.disk) (D.told old) (D.told mid) after is

pub returns-in-Err-open_space-clause-err : goal.returns-in-Err-open_space-clause-err
returns-in-Err-open_space-clause-err g c =
    let D = g.D.Disk in
    let met = g.met.D.Disk in
    let left : (d : g.row.D.Denot) → IsLeft (D.left_before (D.past d)) (D.left_since d) (D.told d) =
    λ d. record { counts = met.counts_now d; only = met.only_now d; earlier = met.since_earlier d; splits = met.splits d; joins = met.joins d } in
    let old = c.args.disk in
    let mid = c.recover.new.disk in
    let new = c.in-Err-open_space.disk in
    let not = c.in-Err-open_space.ensures.err in
    not_read c.in-Ok.opened.header c.in-Ok.opened.slot (D.left_since old) (D.left_since new) (D.told old) (D.told mid) (D.told new)
    c.in-Err-open_space.fault
    (recovered_read c.in-Ok.opened D.left_before (D.past old) (D.past mid) (D.past new) (D.left_since old) (D.left_since mid) (D.left_since new)
    (D.told old) (D.told mid) (D.told new) (left old) (left mid) (left new) c.in-Err-open_space.ensures.err_past not.told c.in-Ok.ensures.ok
    c.in-Ok.ensures.any_moment) not
