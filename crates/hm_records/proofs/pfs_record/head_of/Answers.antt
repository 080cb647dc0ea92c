use Rattle.std.proofs.Common.{◌≡◌, length, refl, sym, ap, ◌∙◌}
use Rattle.std.proofs.lemmas.List.{length-map}
use Rattle.hm_records.specs.PfsRecord.{head_bytes}
use Rattle.hm_records.proofs.pfs_record.head_of.Goals as goal

pub returns : goal.returns
unfolding head_bytes
returns c =
    let count : length c.pairs.result.now ≡ length c.args.r.now.retention = sym (length-map c.pairs.result.now _) ∙ ap length c.pairs.ensures.value in
    rw (c.write_u32.ensures, c.write_u64-2.ensures, c.write_u64.ensures, c.role_of.ensures, count) (refl {a = head_bytes c.args.r.now})
