use Rattle.std.proofs.Common.{◌≤◌, length, arith}
use Rattle.hm_key.specs.Key.{key_of}
use Rattle.hm_key.specs.Memory.{mark_place}
use Rattle.hm_key.proofs.MarkLemmas.{marks_set, marks_push}
use Rattle.hm_key.proofs.mark_list.MarkList.raise.Goals as goal

pub returns-then-place-len-clause-ok : goal.returns-then-place-len-clause-ok
returns-then-place-len-clause-ok c =
    marks_set (key_of c.args.at.now) c.args.id c.max-mark.result c.index_mut-mark.result.now c.args.self.now.list.items c.place_of-place.result
    c.place_of-place.ensures (omega arith) c.index_mut-mark.ensures.value c.max-mark.ensures

pub returns-in_ok-push-clause-ok : goal.returns-in_ok-push-clause-ok
returns-in_ok-push-clause-ok c =
    let past : length c.args.self.now.list.items ≤ mark_place (key_of c.args.at.now) c.args.self.now.list.items = omega arith in
    rw c.in_ok-push.ensures.items (marks_push (record { at = c.args.at.now; id = c.args.id }) c.args.self.now.list.items past)
