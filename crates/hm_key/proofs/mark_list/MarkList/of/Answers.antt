use Rattle.std.proofs.Common.{◌≤◌, length, arith, sym}
use Rattle.hm_key.specs.Key.{key_of}
use Rattle.hm_key.specs.Memory.{mark_place}
use Rattle.hm_key.proofs.MarkLemmas.{mark_of-read, mark_of-none}
use Rattle.hm_key.proofs.mark_list.MarkList.of.Goals as goal

pub returns-then-place-len : goal.returns-then-place-len
returns-then-place-len c =
    mark_of-read (key_of c.args.at.now) c.index.result.now c.args.self.now.list.items c.place_of-place.result c.place_of-place.ensures
    (omega arith) c.index.ensures

pub returns-else-place-len : goal.returns-else-place-len
returns-else-place-len c =
    let past : length c.args.self.now.list.items ≤ mark_place (key_of c.args.at.now) c.args.self.now.list.items = omega arith in
    sym (mark_of-none (key_of c.args.at.now) c.args.self.now.list.items past)
