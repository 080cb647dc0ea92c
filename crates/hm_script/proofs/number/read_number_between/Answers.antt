use Rattle.std.proofs.Common.{◌≡◌, ◌≤◌, arith}
use Rattle.hm_script.proofs.NumberLemmas.{number_is_one}
use Rattle.hm_script.proofs.number.read_number_between.Goals as goal

pub returns-else-least-number : goal.returns-else-least-number
returns-else-least-number c = λ number is between.
    let same : c.in_ok-number.number ≡ number = number_is_one c.args.word.now c.in_ok-number.number number c.in_ok-number.ensures is in
    let least : c.args.least ≤ number = between.0 in
    let most : number ≤ c.args.most = between.1 in
    omega arith
