use Rattle.std.proofs.Common.{refl}
use Rattle.hm_fields.proofs.FieldLemmas.{byte_is}
use Rattle.hm_node.proofs.head.Head.read.Goals as goal

pub returns-clause-value : goal.returns-clause-value
returns-clause-value c =
    let kind = byte_is c.bytes-bytes.result.now c.args.page.now 0 c.bytes-bytes.ensures.value in
    let level = byte_is c.bytes-bytes.result.now c.args.page.now 1 c.bytes-bytes.ensures.value in
    rw (kind, level, c.get_u16.ensures, c.get_u64.ensures) refl
