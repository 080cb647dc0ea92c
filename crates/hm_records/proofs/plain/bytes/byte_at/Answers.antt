use Rattle.std.proofs.Common.{◌/◌, subst}
use Rattle.hm_types.specs.declared.limits.TheConstants.{BLOCK_BYTES}
use Rattle.hm_key.specs.Counts.{Counts, Subject}
use Rattle.hm_records.specs.Changes.{CountsNothing}
use Rattle.hm_records.proofs.PlainLemmas.{byte_before, byte_behind, byte_covered, byte_in_none, end_counts}
use Rattle.hm_records.proofs.plain.bytes.byte_at.Goals as goal

pub returns-in_default : goal.returns-in_default
returns-in_default c = byte_in_none c.args.elements.now c.args.id c.args.pfs.0 c.args.obj.0 c.args.size c.args.place c.in_default.ensures

pub returns-in_default-counted : goal.returns-in_default-counted
returns-in_default-counted c =
    absurd (end_counts c.args.elements.now c.args.id c.args.pfs.0 c.args.obj.0 c.args.size (c.args.place / BLOCK_BYTES) c.in-Some.end c.in-Some.ensures
    (subst (λ (s : Subject). CountsNothing (Counts c.args.elements.now c.args.id) s) c.bytes_before.ensures c.in_default-counted.ensures))

pub returns-then-end-place : goal.returns-then-end-place
returns-then-end-place c =
    byte_behind c.args.elements.now c.args.id c.args.pfs.0 c.args.obj.0 c.args.size c.args.place c.in-Some.end c.in-Some-counted.bytes.now c.in-Some.ensures
    (subst (λ (s : Subject). Counts c.args.elements.now c.args.id s c.in-Some-counted.bytes.now) c.bytes_before.ensures c.in-Some-counted.ensures)
    c.if-end-place.true

pub returns-then-left-bytes : goal.returns-then-left-bytes
returns-then-left-bytes c =
    byte_covered c.args.elements.now c.args.id c.args.pfs.0 c.args.obj.0 c.args.size c.args.place c.in-Some.end c.in-Some-counted.bytes.now c.in-Some.ensures
    (subst (λ (s : Subject). Counts c.args.elements.now c.args.id s c.in-Some-counted.bytes.now) c.bytes_before.ensures c.in-Some-counted.ensures)
    c.if-end-place.false c.if-left-bytes.true

pub returns-else-left-bytes : goal.returns-else-left-bytes
returns-else-left-bytes c =
    byte_before c.args.elements.now c.args.id c.args.pfs.0 c.args.obj.0 c.args.size c.args.place c.in-Some.end c.in-Some-counted.bytes.now c.in-Some.ensures
    (subst (λ (s : Subject). Counts c.args.elements.now c.args.id s c.in-Some-counted.bytes.now) c.bytes_before.ensures c.in-Some-counted.ensures)
    c.if-left-bytes.false
