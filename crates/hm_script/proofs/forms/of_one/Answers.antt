use Rattle.std.proofs.lemmas.Bool.{false≢true}
use Rattle.hm_script.proofs.FormLemmas.{no_command-two}
use Rattle.hm_script.proofs.forms.of_one.Goals as goal

pub returns-in_default : goal.returns-in_default
returns-in_default c = no_command-two c.args.name.now c.args.value.now (λ is. false≢true (c.if-is.ensures.1 is)) c.in_default.ensures
