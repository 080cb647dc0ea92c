use Rattle.std.proofs.Common.{◌≡◌, length, None}
use Rattle.std.proofs.lemmas.Bool.{false≢true}
use Rattle.hm_path.proofs.ComponentLemmas.{no_component, none_from_test, some_from_test}
use Rattle.hm_path.proofs.component.read_component.Goals as goal
use Rattle.hm_path.proofs.component.read_component.Goals.{else-is_empty-via-then-is_empty+else-is_some, else-is_empty-via-else-is_empty}

pub returns-then-not-is_name : goal.returns-then-not-is_name
returns-then-not-is_name c =
    let bare : length c.cut_id-as_of.result.0.now ≡ 0 → c.cut_id-as_of.result.1 ≡ None =
    elim c.else-is_empty.branch [
      | else-is_empty-via-then-is_empty+else-is_some w ↦ λ none. none_from_test _ w.if-is_some.ensures
      | else-is_empty-via-else-is_empty w ↦ λ none. absurd (some_from_test _ w.if-is_empty.ensures none)
    ] in
    no_component c.args.text.now c.cut_id-as_of.result.0.now c.cut_id-as_of.result.1 c.cut_id-as_of.ensures
    (λ named. false≢true (c.if-not-is_name.ensures.1 named)) bare
