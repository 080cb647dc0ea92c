-- Keys in order, beside the laws of hm_key.
use Rattle.std.proofs.Common.{◌≡◌, ◌≢◌, true, false, true≢false, IsTrue, ◌↔◌, refl, sym, ap, subst, ◌∙◌}
use Rattle.std.specs.Ordering.{is_lt, is_eq}
use Rattle.std.specs.declared.cmp.Ordering.{Ordering}
use Rattle.std.specs.declared.cmp.Ordering.TheVariants.{Less, Equal, Greater}
use Rattle.hm_types.specs.Elements.{Key, key_cmp}
use Rattle.hm_key.specs.Key.{IsBefore, IsFrom}
use Rattle.hm_key.proofs.KeyLemmas.{key_total, key_same, key_itself, key_before, key_before_from}

-- what a test for `Less` says of two keys
pub before_is : (a b : Key) → is_lt (key_cmp a b) ≡ true → IsBefore a b
before_is a b is = less (key_cmp a b) is where
  less : (o : Ordering) → is_lt o ≡ true → o ≡ Less
  less Less is = refl
  less Equal is = absurd (true≢false (sym is))
  less Greater is = absurd (true≢false (sym is))

pub from_is : (a b : Key) → is_lt (key_cmp a b) ≡ false → IsFrom b a
from_is a b is less = true≢false (sym (ap is_lt less) ∙ is)

pub from_not : (a b : Key) → IsFrom b a → is_lt (key_cmp a b) ≡ false
from_not a b from = not_less (key_cmp a b) from where
  not_less : (o : Ordering) → o ≢ Less → is_lt o ≡ false
  not_less Less from = absurd (from refl)
  not_less Equal from = refl
  not_less Greater from = refl

-- what a test for `Equal` says of two keys
pub same_is : (a b : Key) → IsTrue (is_eq (key_cmp a b)) ↔ (a ≡ b)
same_is a b = (λ is. key_same a b (equal (key_cmp a b) is), λ same. ap is_eq (ap (key_cmp a) (sym same) ∙ key_itself a)) where
  equal : (o : Ordering) → is_eq o ≡ true → o ≡ Equal
  equal Less is = absurd (true≢false (sym is))
  equal Equal is = refl
  equal Greater is = absurd (true≢false (sym is))

-- what is not before a key is not before an earlier one
pub from_then_before : (a b c : Key) → IsFrom a b → IsBefore b c → IsBefore a c
from_then_before a b c from before = by_order (key_cmp a b) refl where
  by_order : (o : Ordering) → key_cmp a b ≡ o → IsBefore a c
  by_order Less is = key_total.trans a b c is before
  by_order Equal is = subst (λ (k : Key). IsBefore k c) (sym (key_same a b is)) before
  by_order Greater is = absurd (from (key_before b a is))

pub from_trans : (a b c : Key) → IsFrom a b → IsFrom b c → IsFrom a c
from_trans a b c first second less = second (key_before_from c a b less first)
