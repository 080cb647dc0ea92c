-- What ends a call before its end, and what it tells of a check.
use Rattle.std.specs.Prelude.{◌≡◌, ℕ, ◌≤◌, List, Option, None, Some, Result, Ok, Err, IfErr, IsTrue}
use Rattle.hm_types.specs.Faults.{IsCaused}
use Rattle.hm_types.specs.declared.fault.Fault.{Fault}
use Rattle.hm_key.specs.Extents.{Extent}
use Rattle.hm_key.specs.declared.element.Element.{Element}
use Rattle.hm_cursor.specs.Told.{IsPayloadDamage, OnBalanced}
use Rattle.hm_model.specs.Due.{Check}
use Rattle.hm_model.specs.Reply.{is_refusal}
use Rattle.hm_model.specs.declared.reply.Reply.{Reply}
use Rattle.hm_calls.specs.declared.stop.Stop.{Stop}
use Rattle.hm_calls.specs.declared.stop.Stop.TheVariants.{Refused, Failed}

-- a fact of the refusal, or of the fault, in which a step ends
abbrev pub OfRefusal : (Reply → Type 0) → Stop → Type 0
OfRefusal P (Refused reply) = P reply
OfRefusal P (Failed fault) = Unit {0}

abbrev pub OfFault : (Fault → Type 0) → Stop → Type 0
OfFault P (Refused reply) = Unit {0}
OfFault P (Failed fault) = P fault

-- a reply refuses a call
abbrev pub TellsRefusal : Reply → Type 0
TellsRefusal reply = IsTrue (is_refusal reply)

-- a fact of a step that was refused
abbrev pub IfRefused : {T : Type 0} → Result T Stop → (Reply → Type 0) → Type 0
IfRefused result P = IfErr result (OfRefusal P)

-- A step passes where a check gives no refusal, and refuses just so where it gives one. A fault of the store tells nothing
-- of the check.
abbrev pub Answers : {T : Type 0} → Check → Result T Stop → Type 0
Answers check (Ok x) = check ≡ None
Answers check (Err (Refused reply)) = check ≡ Some reply
Answers check (Err (Failed fault)) = Unit {0}

-- the same of a step that has no faults
abbrev pub Decides : {T : Type 0} → Check → Result T Stop → Type 0
Decides check (Ok x) = check ≡ None
Decides check (Err (Refused reply)) = check ≡ Some reply
Decides check (Err (Failed fault)) = ⊥

-- Each fault in which a step ends has its cause: the count of faults rose, memory was refused, or a payload is broken.
pub record HasStopCause {T : Type 0} (es : Option (List Element)) (xs : Option (List Extent)) (old new : ℕ) (result : Result T Stop) : Type 0 where
  pub never_falls : old ≤ new
  pub caused : IfErr result (OfFault (IsCaused old new))
  pub damage : OnBalanced es xs (λ lists. IfErr result (OfFault (IsPayloadDamage lists)))
