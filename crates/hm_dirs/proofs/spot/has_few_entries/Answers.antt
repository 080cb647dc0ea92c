use Rattle.std.proofs.Common.{◌+◌, ◌∙◌, true, None, Some, arith}
use Rattle.hm_key.specs.Counts.{Counts}
use Rattle.hm_key.specs.Elements.{IsContent}
use Rattle.hm_key.specs.Key.{key_of}
use Rattle.hm_key.specs.Balance.{payload_of}
use Rattle.hm_cursor.specs.Told.{fulls}
use Rattle.hm_cursor.specs.Version.{IsFirst}
use Rattle.hm_dirs.specs.Entries.{HaveAtMost, IsFewEntries}
use Rattle.hm_dirs.proofs.LeadLemmas.{most_more, most_on}
use Rattle.hm_cursor.proofs.NameLemmas.{settled_content}
use Rattle.hm_cursor.proofs.EntryLemmas.{first_counts, found_between, none_before, none_in}
use Rattle.hm_cursor.proofs.StoreLemmas.{both, first_still, nothing_known, on_told}
use Rattle.hm_dirs.proofs.spot.has_few_entries.Goals as goal

pub returns-in_default-clause-ok : goal.returns-in_default-clause-ok
returns-in_default-clause-ok g c =
    let was = c.loop-key.invariant in
    let at = key_of c.entry_base-at.result in
    let key = c.loop-key.key in
    let first = c.args.first in
    let last = first + 65535 in
    let t = c.args.as_of.0 in
    let pfs = c.args.pfs.0 in
    let directory = c.args.directory in
    let count = c.loop-key.count in
    let es = g.T.HasElements.elements c.args.store.now in
    let xs = g.T.HasRoom.extents c.args.store.now in
    let found = first_still (g.T.HasElements.elements c.loop-key.store) es at last t c.in_ok-entry.field-0 None was.keeps.elements c.in_default.is
    c.in_ok-entry.ensures.ok in
    on_told es xs (λ list. IsFirst list at last t None) (λ _. Unit {0})
    (λ lists. HaveAtMost (Counts (fulls lists) t) pfs directory first key count) (IsFewEntries t pfs directory first true)
    (λ list extents balanced is known most. (
      count,
      was.few,
      most_on (Counts (fulls (list, extents)) t) pfs directory first key (first + 65536) count
          (λ k from below. none_in list extents at pfs directory key last t c.entry_base-at.ensures is k from (omega (arith, below))) most,
    ))
    found (nothing_known xs) was.most

pub loop-key-preserved : goal.loop-key-preserved
loop-key-preserved g c =
    let was = c.loop-key.invariant in
    let at = key_of c.entry_base-at.result in
    let key = c.loop-key.key in
    let first = c.args.first in
    let last = first + 65535 in
    let t = c.args.as_of.0 in
    let pfs = c.args.pfs.0 in
    let directory = c.args.directory in
    let count = c.loop-key.count in
    let es = g.T.HasElements.elements c.args.store.now in
    let xs = g.T.HasRoom.extents c.args.store.now in
    let e = c.in-Some.entry in
    let searched = c.in_ok-entry.ensures in
    let found = first_still (g.T.HasElements.elements c.loop-key.store) es at last t c.in_ok-entry.field-0 (Some e) was.keeps.elements
    c.in-Some.is searched.ok in
    let between = found_between at pfs directory key last t c.in_ok-entry.field-0 e c.entry_base-at.ensures c.in-Some.is searched.found in
    record {
      from = omega (arith, was.from, between.0);
      to = omega (arith, between.1);
      few = omega (arith, was.few, c.if-count-eq-NUMBERS.false);
      most = on_told es xs (λ list. IsContent list × IsFirst list at last t (Some e)) (λ _. Unit {0})
          (λ lists. HaveAtMost (Counts (fulls lists) t) pfs directory first key count)
          (λ lists. HaveAtMost (Counts (fulls lists) t) pfs directory first (e.base.key + 1) (count + 1))
          (λ list extents balanced is known most.
          let C = Counts (fulls (list, extents)) t in
          most_more C pfs directory first e.base.key count (payload_of extents e) (settled_content list extents t is.0)
          (first_counts list extents at pfs directory key last t c.entry_base-at.ensures e is.1)
          (most_on C pfs directory first key e.base.key count
          (λ k from below. none_before list extents at pfs directory key last t c.entry_base-at.ensures e is.1 k from below) most))
          (both es IsContent (λ list. IsFirst list at last t (Some e)) (g.met.T.ElementStore.sorted c.args.store.now) found) (nothing_known xs) was.most;
      keeps = record {
        elements = searched.keeps.elements ∙ was.keeps.elements;
        mark = searched.keeps.mark ∙ was.keeps.mark;
        extents = searched.keeps.extents ∙ was.keeps.extents;
        room = searched.keeps.room ∙ was.keeps.room;
        free = searched.keeps.free ∙ was.keeps.free;
      };
      name = searched.borrowed.0 ∙ was.name;
      frame = searched.borrowed.1 ∙ was.frame;
      faults = omega (arith, was.faults, searched.cause.counted.never_falls);
    }
