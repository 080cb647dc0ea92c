use Rattle.std.proofs.Common.{◌≡◌, ◌++◌, ap, ◌∙◌, take}
use Rattle.std.proofs.lemmas.List.{take_all}
use Rattle.hm_retain.specs.Intervals.{numbers_of}
use Rattle.hm_records.specs.PfsRecord.{head_bytes, intervals_bytes, pfs_bytes}
use Rattle.hm_records.proofs.pfs_record.encode_pfs.Goals as goal

pub returns : goal.returns
unfolding pfs_bytes
returns c =
    let all : take c.loop-pair.pair-index c.pairs-pairs.result.now ≡ c.pairs-pairs.result.now =
    take_all c.loop-pair.pair-index c.pairs-pairs.result.now c.loop-pair-test.false in
    let list = ap numbers_of all ∙ c.pairs-pairs.ensures.value in
    c.loop-pair.invariant ∙ ap (λ list. head_bytes c.args.value.now ++ intervals_bytes list) list
