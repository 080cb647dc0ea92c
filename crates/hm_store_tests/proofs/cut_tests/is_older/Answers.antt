use Rattle.std.proofs.Common.{◌≡◌, ◌<◌, ◌≤◌, List, rules, subst}
use Rattle.std.specs.List.{All}
use Rattle.hm_key.specs.Memory.{extents_of}
use Rattle.hm_key.specs.declared.element.Element.{Element}
use Rattle.hm_store_tests.proofs.OlderLemmas.{all_older}
use Rattle.hm_store_tests.proofs.cut_tests.is_older.Goals as goal

pub returns : goal.returns
returns c =
    let store = c.args.store.now in
    let id = c.args.id in
    let same : c.elements.result.now ≡ store.elements.list.items = search rules in
    λ yes. all_older store.elements.list.items (extents_of store.extents.list.items) id
    (subst (λ (es : List Element). All (λ (e : Element). (e.base.create < id) × (e.base.delete ≤ id)) es) same (c.are_older.ensures yes))
