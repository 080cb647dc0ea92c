-- What is known of a call whose success or failure is not known yet.
use Rattle.std.proofs.Common.{Result, Ok, Err, IsOk, OnOk, OnErr, arith}

pub on_ok : {T E P : Type 0} (result : Result T E) → IsOk result → OnOk result P → P
on_ok (Ok value) succeeds fact = fact
on_ok (Err error) succeeds fact = absurd (grind (arith, succeeds))

-- what follows from two facts of a success
pub on_both : {T E P Q R : Type 0} (result : Result T E) → (P → Q → R) → OnOk result P → OnOk result Q → OnOk result R
on_both (Ok value) follows first second = follows first second
on_both (Err error) follows first second = tt

-- what holds in both cases
pub each_way : {T E P Q X : Type 0} (result : Result T E) → (P → X) → (Q → X) → OnOk result P → OnErr result Q → X
each_way (Ok value) good bad ok err = good ok
each_way (Err error) good bad ok err = bad err
