use Rattle.std.proofs.Common.{◌≡◌, ◌∙◌, ℕ, List, None, Some, false, subst, sym, true}
use Rattle.std.proofs.lemmas.Result.{err_from_is_err_and}
use Rattle.hm_key.specs.Counts.{Counts, entry_subject}
use Rattle.hm_key.specs.Elements.{IsContent}
use Rattle.hm_records.specs.Entry.{IsSpelled}
use Rattle.hm_records.specs.declared.entry.DirEntry.{DirEntry}
use Rattle.hm_cursor.specs.Names.{IsBehind, LeadsAt}
use Rattle.hm_cursor.specs.Read.{IsReadInto}
use Rattle.hm_cursor.specs.Told.{fulls}
use Rattle.hm_cursor.specs.Version.{IsNewestOf}
use Rattle.hm_cursor.proofs.EntryLemmas.{entry_fault, held_newest, long_entry}
use Rattle.hm_cursor.proofs.NameLemmas.{entry_leads, hidden_leads}
use Rattle.hm_cursor.proofs.StoreLemmas.{both, behind_still, on_told}
use Rattle.hm_cursor.proofs.names.leading_entry.Goals as goal

pub returns-in_err-len-clause-cause : goal.returns-in_err-len-clause-cause
returns-in_err-len-clause-cause g c =
    let p = err_from_is_err_and c.from_residual.result c.from_residual.ensures.1 in
    let e = c.args.element.now in
    let fault = c.in_err-len.field-0.0 in
    let xs = g.T.HasRoom.extents c.args.store.now in
    let es = g.T.HasElements.elements c.args.store.now in
    let counted = c.in_err-len.ensures.counted in
    let held = held_newest es xs (entry_subject c.args.pfs.0 c.args.directory.0 e.base.key) c.args.as_of.0 e (g.met.T.Extents.together c.args.store.now)
    c.requires.balanced c.requires.counts in
    rw (p.1, p.2) (entry_fault es xs (g.T.Counted.faults c.args.store.now)
    (g.T.Counted.faults c.read_payload.new.store) c.args.pfs.0 c.args.directory.0 e.base.key c.args.as_of.0 e fault counted.never_falls counted.caused
    c.requires.counts (long_entry xs e fault (g.met.T.Extents.live c.args.store.now) held c.in_err-len.ensures.damage))

pub returns-then-branch-clause-ok : goal.returns-then-branch-clause-ok
returns-then-branch-clause-ok g c =
    let e = c.args.element.now in
    let t = c.args.as_of.0 in
    let pfs = c.args.pfs.0 in
    let s = entry_subject pfs c.args.directory.0 e.base.key in
    let es = g.T.HasElements.elements c.args.store.now in
    let xs = g.T.HasRoom.extents c.args.store.now in
    let name = c.in-Some.name.now in
    let read = c.in_ok-len.ensures in
    let hidden = behind_still (g.T.HasElements.elements c.read_payload.new.store) es (g.T.HasRoom.extents c.read_payload.new.store) xs t pfs
    c.args.directory e.base.key name c.in_ok-is_hidden.field-0 true read.keeps.elements read.keeps.extents c.if-branch.true c.in_ok-is_hidden.ensures.ok in
    on_told es xs (λ list. IsContent list × IsNewestOf list s t e) (λ extents. IsReadInto extents e c.read_payload.new.buffer c.in_ok-len.len)
    (λ lists. IsBehind (Counts (fulls lists) t) pfs c.args.directory e.base.key name true)
    (λ lists. LeadsAt lists t pfs c.args.directory e.base.key None)
    (λ list extents balanced is into.
    hidden_leads list extents t pfs c.args.directory e is.1 name c.in-Some.obj
    (subst (λ (bytes : List ℕ). IsSpelled bytes c.in-Some.obj name) into.bytes c.in-Some.ensures.some) is.0)
    (both es IsContent (λ list. IsNewestOf list s t e) (g.met.T.ElementStore.sorted c.args.store.now) c.requires.counts) read.ok hidden

pub returns-clause-ok : goal.returns-clause-ok
returns-clause-ok g c =
    let e = c.args.element.now in
    let t = c.args.as_of.0 in
    let pfs = c.args.pfs.0 in
    let s = entry_subject pfs c.args.directory.0 e.base.key in
    let es = g.T.HasElements.elements c.args.store.now in
    let xs = g.T.HasRoom.extents c.args.store.now in
    let name = c.in-Some.name.now in
    let read = c.in_ok-len.ensures in
    let hidden = behind_still (g.T.HasElements.elements c.read_payload.new.store) es (g.T.HasRoom.extents c.read_payload.new.store) xs t pfs
    c.args.directory e.base.key name c.in_ok-is_hidden.field-0 false read.keeps.elements read.keeps.extents c.if-branch.false c.in_ok-is_hidden.ensures.ok in
    let entry : DirEntry = record { obj = c.in-Some.obj; name = name } in
    let same : c.of.result ≡ name = c.of.ensures ∙ c.in_ok-from_slice.ensures.items in
    on_told es xs (λ list. IsNewestOf list s t e) (λ extents. IsReadInto extents e c.read_payload.new.buffer c.in_ok-len.len)
    (λ lists. IsBehind (Counts (fulls lists) t) pfs c.args.directory e.base.key name false)
    (λ lists. LeadsAt lists t pfs c.args.directory e.base.key (Some (record { obj = c.in-Some.obj; name = c.of.result })))
    (λ list extents balanced is into hidden.
    subst (λ (n : List ℕ). LeadsAt (list, extents) t pfs c.args.directory e.base.key (Some (record { obj = c.in-Some.obj; name = n }))) (sym same)
    (entry_leads list extents t pfs c.args.directory e is name c.in-Some.obj
    (subst (λ (bytes : List ℕ). IsSpelled bytes c.in-Some.obj name) into.bytes c.in-Some.ensures.some) hidden))
    c.requires.counts read.ok hidden
