use Rattle.std.proofs.Common.{sym, ◌∙◌}
use Rattle.hm_key.specs.Key.{key_of}
use Rattle.hm_key.proofs.PlaceLemmas.{first_from-leading, got}
use Rattle.hm_key.proofs.element_list.ElementList.first_from.Goals as goal

pub returns : goal.returns
returns c =
    let read = got c.get.result c.deref.result.now c.leading.result c.get.ensures.lookup in
    c.copied.ensures ∙ read ∙ rw (c.deref.ensures.value, c.leading.ensures) (sym (first_from-leading (key_of c.args.at.now) c.args.self.now.list.items))
