use Rattle.std.proofs.Common.{◌-◌, ◌∙◌, ℕ, List, None, Some, arith}
use Rattle.hm_key.specs.Counts.{Counts}
use Rattle.hm_key.specs.Key.{key_of}
use Rattle.hm_records.specs.KeysFit.{KeysFit}
use Rattle.hm_cursor.specs.Names.{IsPreviousName, LeadsAt}
use Rattle.hm_cursor.specs.Told.{fulls}
use Rattle.hm_cursor.specs.Version.{IsLast, numbered}
use Rattle.hm_cursor.proofs.EntryLemmas.{found_down}
use Rattle.hm_cursor.proofs.NameLemmas.{NoneLeads, leads_over, leads_past, none_from, none_leads, previous_leads}
use Rattle.hm_cursor.proofs.StoreLemmas.{balanced_both, last_still, leading_still, nothing_known, on_told}
use Rattle.hm_cursor.proofs.names.previous_name.Goals as goal

pub loop-key-preserved : goal.loop-key-preserved
loop-key-preserved g c =
    let was = c.loop-key.invariant in
    let at = key_of c.entry_base-at.result in
    let key = c.loop-key.key in
    let first = c.args.first in
    let last = c.args.last in
    let t = c.args.as_of.0 in
    let pfs = c.args.pfs.0 in
    let es = g.T.HasElements.elements c.args.store.now in
    let xs = g.T.HasRoom.extents c.args.store.now in
    let e = c.in-Some.element in
    let searched = c.in_ok-element.ensures in
    let looked = c.in_ok-entry.ensures in
    let found = last_still (g.T.HasElements.elements c.loop-key.store) es (numbered at first) at.key t c.in_ok-element.field-0 (Some e) was.keeps.elements
    c.in-Some.is searched.ok in
    let led = leading_still (g.T.HasElements.elements c.last_version.new.store) es (g.T.HasRoom.extents c.last_version.new.store) xs t pfs c.args.directory
    e.base.key c.in_ok-entry.field-0 None (searched.keeps.elements ∙ was.keeps.elements) (searched.keeps.extents ∙ was.keeps.extents)
    c.in_default-2.is looked.ok in
    let between = found_down at pfs c.args.directory key first t c.in_ok-element.field-0 e c.entry_base-at.ensures c.in-Some.is searched.found in
    record {
      to = omega (arith, was.to, between.1);
      passed = on_told es xs (λ list. IsLast list (numbered at first) at.key t (Some e)) (λ _. Unit {0})
          (λ lists. NoneLeads (Counts (fulls lists) t) pfs c.args.directory key last × LeadsAt lists t pfs c.args.directory e.base.key None)
          (λ lists. NoneLeads (Counts (fulls lists) t) pfs c.args.directory (e.base.key - 1) last)
          (λ list extents balanced is known both.
          leads_past list extents at pfs c.args.directory first key last t c.entry_base-at.ensures both.0 e (e.base.key - 1)
          (omega (arith, between.0, c.if-element-first.false)) is both.1)
          found (nothing_known xs)
          (balanced_both es xs (λ lists. NoneLeads (Counts (fulls lists) t) pfs c.args.directory key last)
          (λ lists. LeadsAt lists t pfs c.args.directory e.base.key None) was.passed led);
      keeps = record {
        elements = looked.keeps.elements ∙ searched.keeps.elements ∙ was.keeps.elements;
        mark = looked.keeps.mark ∙ searched.keeps.mark ∙ was.keeps.mark;
        extents = looked.keeps.extents ∙ searched.keeps.extents ∙ was.keeps.extents;
        room = looked.keeps.room ∙ searched.keeps.room ∙ was.keeps.room;
        free = looked.keeps.free ∙ searched.keeps.free ∙ was.keeps.free;
      };
      name = looked.borrowed.0 ∙ searched.borrowed.0 ∙ was.name;
      frame = looked.borrowed.1 ∙ searched.borrowed.1 ∙ was.frame;
      faults = omega (arith, was.faults, searched.cause.counted.never_falls, looked.cause.counted.never_falls);
    }

pub returns-then-element-first-clause-ok : goal.returns-then-element-first-clause-ok
returns-then-element-first-clause-ok g c =
    let was = c.loop-key.invariant in
    let at = key_of c.entry_base-at.result in
    let key = c.loop-key.key in
    let first = c.args.first in
    let last = c.args.last in
    let t = c.args.as_of.0 in
    let pfs = c.args.pfs.0 in
    let es = g.T.HasElements.elements c.args.store.now in
    let xs = g.T.HasRoom.extents c.args.store.now in
    let e = c.in-Some.element in
    let searched = c.in_ok-element.ensures in
    let looked = c.in_ok-entry.ensures in
    let found = last_still (g.T.HasElements.elements c.loop-key.store) es (numbered at first) at.key t c.in_ok-element.field-0 (Some e) was.keeps.elements
    c.in-Some.is searched.ok in
    let led = leading_still (g.T.HasElements.elements c.last_version.new.store) es (g.T.HasRoom.extents c.last_version.new.store) xs t pfs c.args.directory
    e.base.key c.in_ok-entry.field-0 None (searched.keeps.elements ∙ was.keeps.elements) (searched.keeps.extents ∙ was.keeps.extents)
    c.in_default-2.is looked.ok in
    on_told es xs (λ list. IsLast list (numbered at first) at.key t (Some e)) (λ _. Unit {0})
    (λ lists. NoneLeads (Counts (fulls lists) t) pfs c.args.directory key last × LeadsAt lists t pfs c.args.directory e.base.key None)
    (λ lists. (hash : List ℕ → ℕ) → KeysFit hash (fulls lists) → IsPreviousName (Counts (fulls lists) t) pfs c.args.directory first last None)
    (λ list extents balanced is known both hash fit.
    leads_over list extents at pfs c.args.directory first key last t c.entry_base-at.ensures both.0 e c.if-element-first.true is both.1)
    found (nothing_known xs)
    (balanced_both es xs (λ lists. NoneLeads (Counts (fulls lists) t) pfs c.args.directory key last)
    (λ lists. LeadsAt lists t pfs c.args.directory e.base.key None) was.passed led)

pub returns-in_default-clause-ok : goal.returns-in_default-clause-ok
returns-in_default-clause-ok g c =
    let was = c.loop-key.invariant in
    let at = key_of c.entry_base-at.result in
    let key = c.loop-key.key in
    let first = c.args.first in
    let last = c.args.last in
    let t = c.args.as_of.0 in
    let pfs = c.args.pfs.0 in
    let es = g.T.HasElements.elements c.args.store.now in
    let xs = g.T.HasRoom.extents c.args.store.now in
    let found = last_still (g.T.HasElements.elements c.loop-key.store) es (numbered at first) at.key t c.in_ok-element.field-0 None was.keeps.elements
    c.in_default.is c.in_ok-element.ensures.ok in
    on_told es xs (λ list. IsLast list (numbered at first) at.key t None) (λ _. Unit {0})
    (λ lists. NoneLeads (Counts (fulls lists) t) pfs c.args.directory key last)
    (λ lists. (hash : List ℕ → ℕ) → KeysFit hash (fulls lists) → IsPreviousName (Counts (fulls lists) t) pfs c.args.directory first last None)
    (λ list extents balanced is known passed hash fit.
    none_leads list extents at pfs c.args.directory first key last t c.entry_base-at.ensures passed is)
    found (nothing_known xs) was.passed

pub returns-in-Some-2-clause-ok : goal.returns-in-Some-2-clause-ok
returns-in-Some-2-clause-ok g c =
    let was = c.loop-key.invariant in
    let at = key_of c.entry_base-at.result in
    let key = c.loop-key.key in
    let first = c.args.first in
    let last = c.args.last in
    let t = c.args.as_of.0 in
    let pfs = c.args.pfs.0 in
    let es = g.T.HasElements.elements c.args.store.now in
    let xs = g.T.HasRoom.extents c.args.store.now in
    let e = c.in-Some.element in
    let searched = c.in_ok-element.ensures in
    let looked = c.in_ok-entry.ensures in
    let found = last_still (g.T.HasElements.elements c.loop-key.store) es (numbered at first) at.key t c.in_ok-element.field-0 (Some e) was.keeps.elements
    c.in-Some.is searched.ok in
    let entry = c.in-Some-2.entry in
    let led = leading_still (g.T.HasElements.elements c.last_version.new.store) es (g.T.HasRoom.extents c.last_version.new.store) xs t pfs c.args.directory
    e.base.key c.in_ok-entry.field-0 (Some entry) (searched.keeps.elements ∙ was.keeps.elements) (searched.keeps.extents ∙ was.keeps.extents)
    c.in-Some-2.is looked.ok in
    on_told es xs (λ list. IsLast list (numbered at first) at.key t (Some e)) (λ _. Unit {0})
    (λ lists. NoneLeads (Counts (fulls lists) t) pfs c.args.directory key last × LeadsAt lists t pfs c.args.directory e.base.key (Some entry))
    (λ lists. (hash : List ℕ → ℕ) → KeysFit hash (fulls lists)
    → IsPreviousName (Counts (fulls lists) t) pfs c.args.directory first last (Some (e.base.key, entry)))
    (λ list extents balanced is known both hash fit.
    previous_leads list extents at pfs c.args.directory first key last t c.entry_base-at.ensures both.0 e entry hash was.to is both.1 fit)
    found (nothing_known xs)
    (balanced_both es xs (λ lists. NoneLeads (Counts (fulls lists) t) pfs c.args.directory key last)
    (λ lists. LeadsAt lists t pfs c.args.directory e.base.key (Some entry)) was.passed led)

pub returns-clause-ok : goal.returns-clause-ok
returns-clause-ok g c =
    let was = c.loop-key.invariant in
    let t = c.args.as_of.0 in
    let pfs = c.args.pfs.0 in
    let es = g.T.HasElements.elements c.args.store.now in
    let xs = g.T.HasRoom.extents c.args.store.now in
    on_told es xs (λ _. Unit {0}) (λ _. Unit {0}) (λ lists. NoneLeads (Counts (fulls lists) t) pfs c.args.directory c.loop-key.key c.args.last)
    (λ lists. (hash : List ℕ → ℕ) → KeysFit hash (fulls lists)
    → IsPreviousName (Counts (fulls lists) t) pfs c.args.directory c.args.first c.args.last None)
    (λ list extents balanced is known passed hash fit.
    none_from (Counts (fulls (list, extents)) t) pfs c.args.directory c.args.first c.args.last c.loop-key.key (omega (arith, c.loop-key-test.false)) passed)
    (nothing_known es) (nothing_known xs) was.passed
