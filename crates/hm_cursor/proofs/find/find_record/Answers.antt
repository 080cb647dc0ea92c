use Rattle.std.proofs.Common.{◌∙◌, ap, sym, arith, take}
use Rattle.std.proofs.lemmas.Result.{err_from_is_err_and}
use Rattle.hm_key.specs.Counts.{subject_of}
use Rattle.hm_key.specs.Key.{key_of}
use Rattle.hm_records.specs.Faults.{IsBadPayload}
use Rattle.hm_records.specs.Payload.{SpellsPfs}
use Rattle.hm_types.specs.Intervals.{open_end}
use Rattle.hm_cursor.proofs.ToldLemmas.{record_none, record_some}
use Rattle.hm_cursor.proofs.PayloadLemmas.{long_record, read_whole, unread_record}
use Rattle.hm_cursor.proofs.find.find_record.Goals as goal

pub returns-in_default-clause-ok : goal.returns-in_default-clause-ok
returns-in_default-clause-ok g c =
    record_none (g.T.HasElements.elements c.args.store.now) (g.T.HasRoom.extents c.args.store.now) (subject_of (key_of c.record_base.result)) c.args.pfs.0
    c.in_ok-element.field-0 c.record_base.ensures c.in_default.is c.in_ok-element.ensures.ok

pub returns-then-element-gt-MOST_RECORD_BYTES-clause-cause : goal.returns-then-element-gt-MOST_RECORD_BYTES-clause-cause
returns-then-element-gt-MOST_RECORD_BYTES-clause-cause g c =
    long_record (subject_of (key_of c.record_base.result)) open_end c.args.pfs.0 c.in_ok-element.field-0 c.in-Some.element
    (g.met.T.Extents.live c.args.store.now) c.record_base.ensures c.in_ok-element.ensures.ok c.in-Some.is
    c.in_ok-element.ensures.cause.counted.never_falls (omega arith)

pub returns-in_err-decode_pfs-clause-cause : goal.returns-in_err-decode_pfs-clause-cause
returns-in_err-decode_pfs-clause-cause g c =
    let p = err_from_is_err_and c.from_residual-in_err-decode_pfs.result c.from_residual-in_err-decode_pfs.ensures.1 in
    let read = c.in_err-decode_pfs.ensures in
    let whole = read_whole c.in_ok-bytes.bytes.len c.deref.result.now c.read_payload.new.buffer c.in_ok-bytes.bytes.items
    c.deref.ensures.value (omega (arith, c.read_payload.auto.buffer, c.deref_mut.ensures.len)) in
    let bytes = take c.in_ok-len.len c.read_payload.new.buffer in
    let unspelled : IsBadPayload c.in-Some.element.payload c.in_err-decode_pfs.field-0.0 → SpellsPfs bytes → ⊥ =
    λ bad spelled. absurd (let e = read.only spelled.0 spelled.1 (ap (take c.in_ok-len.len) whole ∙ spelled.2) in cc) in
    rw (p.1, p.2) (unread_record (g.T.HasRoom.extents c.version_at.new.store) (subject_of (key_of c.record_base.result)) open_end c.args.pfs.0
    c.in_ok-len.len c.read_payload.new.buffer c.in_ok-element.field-0 c.in-Some.element c.in_err-decode_pfs.field-0.0 c.record_base.ensures
    c.version_at.ensures.keeps.extents c.in_ok-element.ensures.ok c.in-Some.is c.in_ok-len.ensures.ok
    (omega (arith, c.in_ok-element.ensures.cause.counted.never_falls, c.in_ok-len.ensures.counted.never_falls)) unspelled read.err)

pub returns-clause-ok : goal.returns-clause-ok
returns-clause-ok g c =
    let whole = read_whole c.in_ok-bytes.bytes.len c.deref.result.now c.read_payload.new.buffer c.in_ok-bytes.bytes.items
    c.deref.ensures.value (omega (arith, c.read_payload.auto.buffer, c.deref_mut.ensures.len)) in
    record_some (g.T.HasElements.elements c.args.store.now) (g.T.HasRoom.extents c.args.store.now) (g.T.HasRoom.extents c.version_at.new.store)
    (subject_of (key_of c.record_base.result)) c.args.pfs.0 c.read_payload.new.buffer c.in_ok-element.field-0 c.in-Some.element c.in_ok-len.len
    c.in_ok-decode_pfs.field-0 c.record_base.ensures c.in-Some.is c.version_at.ensures.keeps.extents c.in_ok-element.ensures.ok
    c.in_ok-len.ensures.ok c.in_ok-decode_pfs.ensures.ok.0 (ap (take c.in_ok-len.len) (sym whole) ∙ c.in_ok-decode_pfs.ensures.ok.1)
