use Rattle.std.proofs.Common.{◌≡◌, ◌∙◌, ℕ, List, ap, arith, length, rules, subst}
use Rattle.std.proofs.lemmas.Result.{on_ok_weaker}
use Rattle.hm_key.specs.Counts.{Counts, record_subject, subject_of}
use Rattle.hm_key.specs.Elements.{element_key}
use Rattle.hm_key.specs.Key.{key_of}
use Rattle.hm_key.specs.Versions.{Adds}
use Rattle.hm_records.specs.Changes.{CountsNothing}
use Rattle.hm_records.specs.PfsRecord.{pfs_bytes}
use Rattle.hm_types.specs.Intervals.{open_end}
use Rattle.hm_cursor.specs.Told.{fulls}
use Rattle.hm_cursor.specs.Write.{full_with}
use Rattle.hm_cursor.proofs.CallLemmas.{Change, Then, writes_both, writes_from, writes_none, writes_so}
use Rattle.hm_pfs.specs.Records.{LosesKey, SetsRecord}
use Rattle.hm_pfs.proofs.RecordLemmas.{IsFoundRecord, found_new, found_record, found_stands, no_record, record_set, sets_none}
use Rattle.hm_pfs.proofs.replace.replace_record.Goals as goal

pub returns-in_default-clause-ok : goal.returns-in_default-clause-ok
returns-in_default-clause-ok g c =
    writes_none g.T.HasElements.elements g.T.HasRoom.extents (SetsRecord c.args.pfs.0 (pfs_bytes c.args.to.now))
    (λ lists. CountsNothing (Counts (fulls lists) open_end) (record_subject c.args.pfs.0)) c.args.store.now c.version_at.new.store
    c.in_ok-old.ensures.keeps.elements c.in_ok-old.ensures.keeps.extents
    (no_record c.args.pfs.0 (subject_of (key_of c.record_base.result)) (g.T.HasElements.elements c.args.store.now) (g.T.HasRoom.extents c.args.store.now)
    c.in_ok-old.field-0 c.record_base.ensures c.in_default.is c.in_ok-old.ensures.ok)
    (λ was nothing. sets_none c.args.pfs.0 (pfs_bytes c.args.to.now) (fulls was) nothing)

pub remove_element-requires-clause-there : goal.remove_element-requires-clause-there
remove_element-requires-clause-there g c =
    found_stands (subject_of (key_of c.record_base.result)) c.in-Some.old (g.T.HasElements.elements c.args.store.now)
    (g.T.HasElements.elements c.version_at.new.store) c.in_ok-old.field-0 c.in_ok-old.ensures.keeps.elements c.in-Some.is
    (g.met.T.ElementStore.sorted c.args.store.now) c.in_ok-old.ensures.ok

pub insert_with_payload-requires-clause-new : goal.insert_with_payload-requires-clause-new
insert_with_payload-requires-clause-new g c =
    found_new (subject_of (key_of c.record_base.result)) c.args.pfs.0 c.in-Some.old c.in_ok-old.field-0 c.args.to.now c.deref.result.now
    c.record_base.ensures c.in-Some.is c.in_ok-old.ensures.found (search rules) (c.deref.ensures.value ∙ c.in_ok-bytes.ensures.bytes)
    (omega (arith, ap length c.deref.ensures.value, c.in_ok-bytes.ensures.few))

pub returns-clause-ok : goal.returns-clause-ok
returns-clause-ok g c =
    let elements = g.T.HasElements.elements in
    let extents = g.T.HasRoom.extents in
    let Gone : Change = LosesKey (element_key c.in-Some.old) in
    let Back : Change = Adds (full_with c.in-Some.old.base c.deref.result.now) in
    let Set : Change = SetsRecord c.args.pfs.0 (pfs_bytes c.args.to.now) in
    let same : c.deref.result.now ≡ pfs_bytes c.args.to.now = c.deref.ensures.value ∙ c.in_ok-bytes.ensures.bytes in
    on_ok_weaker c.insert_with_payload.result
    (λ second. writes_so elements extents (Then Gone Back) Set (IsFoundRecord c.args.pfs.0 c.in-Some.old) c.args.store.now
    c.insert_with_payload.new.store
    (found_record c.args.pfs.0 (subject_of (key_of c.record_base.result)) c.in-Some.old (elements c.args.store.now) (extents c.args.store.now)
    c.in_ok-old.field-0 c.record_base.ensures c.in-Some.is (g.met.T.ElementStore.sorted c.args.store.now) c.in_ok-old.ensures.ok)
    (λ was es' known steps. subst (λ (bytes : List ℕ). SetsRecord c.args.pfs.0 bytes (fulls was) es') same
    (record_set c.args.pfs.0 c.deref.result.now c.in-Some.old was es' known steps))
    (writes_from elements extents (Then Gone Back) c.args.store.now c.version_at.new.store c.insert_with_payload.new.store
    c.in_ok-old.ensures.keeps.elements c.in_ok-old.ensures.keeps.extents
    (writes_both elements extents Gone Back c.version_at.new.store c.remove_element.new.store c.insert_with_payload.new.store
    c.in_ok-remove_element.ensures.ok second)))
    c.insert_with_payload.ensures.ok
