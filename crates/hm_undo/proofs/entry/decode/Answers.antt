use Rattle.std.proofs.Common.{inl, refl}
use Rattle.std.proofs.lemmas.Bool.{false≢true}
use Rattle.hm_undo.proofs.EntryLemmas.{broken-place, broken-rest, spelled-read}
use Rattle.hm_undo.proofs.entry.decode.Goals as goal
use Rattle.hm_undo.proofs.entry.decode.Goals.{else-is_signed-via-then-is_signed+else-rest-eq0, else-is_signed-via-else-is_signed}

pub returns-in_err-at-clause-none : goal.returns-in_err-at-clause-none
returns-in_err-at-clause-none c =
    rw c.from_residual.ensures
    (broken-place c.args.bytes.now c.read_u64.result c.read_u64.ensures (λ page. false≢true (c.in_err-at.ensures.some.1 page)))

pub returns-then-rest-eq0-clause-some : goal.returns-then-rest-eq0-clause-some
returns-then-rest-eq0-clause-some c =
    spelled-read c.args.bytes.now c.copy_from.new.self c.in_ok-at.at c.read_u64.result c.read_u64-generation.result c.read_u64-rest.result
    (λ k. c.fits-bytes k) c.told-bytes (c.in_ok-at.ensures.some.0 refl) c.in_ok-at.ensures.value c.read_u64.ensures c.read_u64-generation.ensures
    c.read_u64-generation.type_inv (c.is_signed.ensures.0 c.if-is_signed.true) c.read_u64-rest.ensures c.if-rest-eq0.true c.copy_from.ensures

pub returns-else-is_signed-clause-none : goal.returns-else-is_signed-clause-none
returns-else-is_signed-clause-none c =
    elim c.else-is_signed.branch [
      | else-is_signed-via-then-is_signed+else-rest-eq0 w ↦ broken-rest c.args.bytes.now c.read_u64-rest.result c.read_u64-rest.ensures w.if-rest-eq0.false
      | else-is_signed-via-else-is_signed w ↦ inl (λ signed. false≢true (w.if-is_signed.ensures.1 signed))
    ]
