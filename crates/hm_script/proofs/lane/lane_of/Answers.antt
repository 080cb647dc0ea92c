use Rattle.std.proofs.Common.{Some, codes, ◌++◌, ◌∙◌, ap}
use Rattle.std.proofs.lemmas.Bool.Decides.{Decides-eqb}
use Rattle.std.proofs.lemmas.Slice.Eq.{strip_suffix_is}
use Rattle.hm_script.proofs.lane.lane_of.Goals as goal

pub returns : goal.returns
returns c =
    let cut = strip_suffix_is Decides-eqb c.args.word.now (codes ":") (Some c.in_ok-digits.digits) c.in_ok-digits.ensures.cases in
    record {
      written = cut ∙ ap (λ ds. ds ++ codes ":") c.in_ok-lane.ensures.0.written;
      least = c.in_ok-lane.ensures.1.0;
      most = rw c.from.ensures at c.in_ok-lane.ensures.1.1;
    }
