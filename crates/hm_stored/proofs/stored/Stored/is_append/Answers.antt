use Rattle.std.proofs.Common.{List, ℕ, subst}
use Rattle.std.specs.Prelude.{◌↔◌, IsTrue}
use Rattle.std.specs.List.{Contains}
use Rattle.hm_stored.proofs.stored.Stored.is_append.Goals as goal

pub returns : goal.returns
returns g c = subst (λ (l : List ℕ). IsTrue c.is_among.result ↔ Contains l c.args.block) c.append.ensures c.is_among.ensures
