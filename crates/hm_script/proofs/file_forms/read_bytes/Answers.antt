use Rattle.std.proofs.Common.{◌≤◌, length, arith}
use Rattle.hm_types.specs.declared.limits.TheConstants.{MOST_WRITE_BYTES}
use Rattle.hm_model.specs.Words.{IsHexBytes}
use Rattle.hm_script.proofs.NumberLemmas.{length_bytes}
use Rattle.hm_script.proofs.file_forms.read_bytes.Goals as goal
use Rattle.hm_script.proofs.file_forms.read_bytes.Goals.{then-count-eq0-via-then-count-eq0, then-count-eq0-via-else-count-eq0+then-count}

pub returns-then-count-eq0 : goal.returns-then-count-eq0
returns-then-count-eq0 c = λ bytes is between.
    let twice = length_bytes c.args.digits.now bytes is in
    let least : 1 ≤ length bytes = between.0 in
    let most : length bytes ≤ MOST_WRITE_BYTES = between.1 in
    elim c.then-count-eq0.branch [
      | then-count-eq0-via-then-count-eq0 w ↦ omega arith
      | then-count-eq0-via-else-count-eq0+then-count w ↦ omega arith
    ]

pub returns-in-Ok : goal.returns-in-Ok
returns-in-Ok c =
    let is : IsHexBytes c.args.digits.now c.of.result = rw c.of.ensures c.in-Ok.ensures.ok in
    let twice = length_bytes c.args.digits.now c.of.result is in
    (is, (omega arith, omega arith))
