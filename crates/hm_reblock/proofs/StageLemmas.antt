-- How far a reblock comes in a unit.
use Rattle.std.proofs.Common.{◌≡◌, ◌⊎◌, ◌+◌, ◌*◌, ◌<◌, ◌≤◌, ℕ, nat_eq, eqb-true, Bool, true, false, List, []}
use Rattle.std.proofs.Common.{◌++◌, length, Option, Some, None, refl, ap, sym, ◌∙◌, arith, inl, inr, take, append_assoc, append-nil}
use Rattle.std.specs.Prelude.{IfSome, IsFalse, IsTrue}
use Rattle.std.specs.Cmp.{nat_cmp_is}
use Rattle.std.specs.declared.cmp.Ordering.{Ordering}
use Rattle.std.specs.declared.cmp.Ordering.TheVariants.{Equal, Greater, Less}
use Rattle.std.proofs.lemmas.Bool.{eqb-false}
use Rattle.std.proofs.lemmas.List.{take_at}
use Rattle.hm_key.specs.Job.{ComesFurther}
use Rattle.hm_types.specs.Elements.{Key, key_cmp}
use Rattle.hm_key.specs.Key.{IsBefore, IsFrom, key_of}
use Rattle.hm_key.specs.declared.base.Base.{Base}
use Rattle.hm_key.specs.declared.element.Element.{Element}
use Rattle.hm_key.proofs.KeyLemmas.{key_before, key_before_from, key_same}
use Rattle.hm_reblock.specs.Choice.{IsFront}
use Rattle.hm_reblock.specs.Stages.{LeadsOn, StandsOrComes, begins_anew, place_at}
use Rattle.hm_reblock.specs.declared.stage.Stage.{Stage}
use Rattle.hm_reblock.specs.declared.stage.Stage.TheVariants.{Collect, Move}

-- a walk that collects came further
pub further_collected : (walk : ℕ) (known : List Element) (e : Element) (from : Base) (next : Option Base) (stage : Stage)
    → IfSome next (λ b. IsBefore (key_of from) (key_of b)) → LeadsOn known e (Collect next) stage
    → ComesFurther (place_at walk (Collect (Some from))) (place_at walk stage)
further_collected walk known e from next (Move at) before leads = absurd leads
further_collected walk known e from next (Collect None) before leads = inl (omega arith)
further_collected walk known e from None (Collect (Some later)) before leads = absurd leads
further_collected walk known e from (Some b) (Collect (Some later)) before leads =
    inr (refl, key_before_from (key_of from) (key_of b) (key_of later) before leads)

-- a key that is another one or after it is that one, or it is after it
from_either : (a b : Key) → IsFrom a b → (b ≡ a) ⊎ IsBefore a b
from_either a b from = by_order (key_cmp a b) refl where
  by_order : (o : Ordering) → key_cmp a b ≡ o → (b ≡ a) ⊎ IsBefore a b
  by_order Less is = inr is
  by_order Equal is = inl (sym (key_same a b is))
  by_order Greater is = absurd (from (key_before b a is))

-- one number is another, or below it
below_either : (at next : ℕ) → at ≤ next → (next ≡ at) ⊎ (at < next)
below_either at next least = omega_either (nat_eq next at) refl where
  omega_either : (same : Bool) → nat_eq next at ≡ same → (next ≡ at) ⊎ (at < next)
  omega_either true is = inl (eqb-true next at is)
  omega_either false is = inr (let other = eqb-false next at is in omega (arith, least, other))

-- where a stage leads on to another one, a reblock that goes on with that does not fall behind
pub place_kept : (walk walk' : ℕ) (known : List Element) (e : Element) (was now : Stage) → LeadsOn known e was now
    → (IsFalse (begins_anew was now) → walk' ≡ walk) → (IsTrue (begins_anew was now) → walk < walk')
    → StandsOrComes (place_at walk was) (place_at walk' now)
place_kept walk walk' known e (Collect from) (Move at) leads same anew = absurd leads
place_kept walk walk' known e (Collect None) (Collect None) leads same anew = inl (ap (λ (w : ℕ). place_at w (Collect None)) (same refl))
place_kept walk walk' known e (Collect (Some from)) (Collect None) leads same anew = inr (inl (let is = same refl in omega (arith, is)))
place_kept walk walk' known e (Collect None) (Collect (Some next)) leads same anew = absurd leads
place_kept walk walk' known e (Collect (Some from)) (Collect (Some next)) leads same anew =
    elim (from_either (key_of from) (key_of next) leads) [
      | inl is ↦ inl (λ i. record { walk = 2 * same refl i + 0; at = is i })
      | inr before ↦ inr (inr ((let is = same refl in omega (arith, is)), before))
    ]
place_kept walk walk' known e (Move at) (Collect None) leads same anew = inr (inl (let is = anew refl in omega (arith, is)))
place_kept walk walk' known e (Move at) (Collect (Some next)) leads same anew = inr (inl (let is = anew refl in omega (arith, is)))
place_kept walk walk' known e (Move at) (Move next) leads same anew =
    elim (below_either at next leads.0) [
      | inl is ↦ inl (λ i. place_at (same refl i) (Move (is i)))
      | inr before ↦ inr (inr ((let is = same refl in omega (arith, is)), sym (nat_cmp_is at next Less before)))
    ]

-- a list is its own front
pub front_itself : (list : List Element) → IsFront list list
front_itself list = ([], sym (append-nil list))

-- what was noted in two steps
pub front_both : (a b c : List Element) → IsFront a b → IsFront b c → IsFront a c
front_both a b c first second =
    (first.0 ++ second.0, second.1 ∙ ap (λ (l : List Element). l ++ second.0) first.1 ∙ append_assoc a first.0 second.0)

-- the front of a list is what it was
pub front_taken : (front whole : List Element) (n : ℕ) → IsFront front whole → n ≡ length front → take n whole ≡ front
front_taken front whole n is same = ap (take n) is.1 ∙ take_at front is.0 n (sym same)
