use Rattle.std.proofs.Common.{◌≡◌, ℕ, List, ap, ◌∙◌}
use Rattle.std.specs.Prelude.{Option, Some, None}
use Rattle.std.specs.Option.{option_map_or}
use Rattle.hm_model.specs.After.{State, after_pass, given_in}
use Rattle.hm_model.specs.Cut.{join}
use Rattle.hm_model.specs.Legal.{IsBrought, state_after}
use Rattle.hm_model.specs.Volume.{PseudoFileSystem}
use Rattle.hm_model.proofs.PassEndLemmas.{brought_legal, retention_brought, slave-pass}
use Rattle.hm_model.proofs.laws.passes.streams_join_what_their_end_brought.Goals as goal

pub returns : goal.returns
returns c run before event o begin end into slave follows ends command found =
    let state : State = state_after run before in
    let stream : IsBrought o.stream end.0 = brought_legal run before event o begin end into follows ends command in (
      stream.term,
      after_pass (given_in state.volume o) begin.0 end.0 slave,
      stream.taken,
      stream.named,
      slave-pass state event o begin end ends
          ∙ ap (λ (s : Option PseudoFileSystem). option_map_or (λ (t : PseudoFileSystem). Some (after_pass (given_in state.volume o) begin.0 end.0 t)) s
          None) found,
      ap (λ (r : List (ℕ × ℕ)). join slave.retention r begin.0 end.0) (retention_brought state.volume o into stream.term command stream.taken),
    )
