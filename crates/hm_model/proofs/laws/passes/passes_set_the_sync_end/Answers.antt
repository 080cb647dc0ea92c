use Rattle.std.proofs.Common.{refl, ◌∙◌, ap}
use Rattle.std.specs.Prelude.{Option, Some, None}
use Rattle.std.specs.Option.{option_map_or}
use Rattle.hm_model.specs.After.{after_pass, given_in}
use Rattle.hm_model.specs.Volume.{PseudoFileSystem}
use Rattle.hm_model.proofs.PassEndLemmas.{slave-pass}
use Rattle.hm_model.proofs.laws.passes.passes_set_the_sync_end.Goals as goal

pub returns : goal.returns
returns c state event o begin end slave ends found = (
  after_pass (given_in state.volume o) begin.0 end.0 slave,
  slave-pass state event o begin end ends
      ∙ ap (λ (s : Option PseudoFileSystem). option_map_or (λ (t : PseudoFileSystem). Some (after_pass (given_in state.volume o) begin.0 end.0 t)) s None)
      found,
  refl,
  refl,
)
