-- What a call that was answered did.
use Rattle.std.specs.Prelude.{◌≡◌, ℕ, List, IsTrue, IsFalse}
use Rattle.hm_types.specs.Elements.{FullElement}
use Rattle.hm_model.specs.Call.{Call}
use Rattle.hm_calls.specs.Answered.{Does, IsFormOf, is_effect, reply_in}
use Rattle.hm_calls.specs.Due.{due_over}
use Rattle.hm_calls.specs.declared.answered.Answered.{Answered}

-- A call found these elements and so much space, and left those: its reply is the one that it is due, and what is
-- accepted does what its command says. Only a prune is opened.
pub record IsServed (call : Call) (room : ℕ → ℕ) (free : ℕ) (es es' : List FullElement) (answered : Answered) : Type 0 where
  pub form : IsFormOf call.command answered
  pub due : reply_in answered ≡ due_over call room free
  pub stays : IsFalse (is_effect call.command (reply_in answered)) → es' ≡ es
  pub does : IsTrue (is_effect call.command (reply_in answered)) → Does call.command call answered es es'
