-- The order of keys.
use Rattle.std.proofs.Common.{◌≡◌, ◌≢◌, ℕ, ◌<◌, ◌≤◌, refl, ap, sym, subst, ◌∙◌, true≢false, arith}
use Rattle.std.specs.Cmp.{IsTotalOrder}
use Rattle.std.specs.Ordering.{nat_cmp, ordering_then, ordering_reverse, is_lt, is_gt}
use Rattle.std.specs.declared.cmp.Ordering.{Ordering}
use Rattle.std.specs.declared.cmp.Ordering.TheVariants.{Less, Equal, Greater}
use Rattle.std.proofs.lemmas.Cmp.{nat_cmp_total, on_total, then_total, ranked, tied_itself}
use Rattle.hm_types.specs.Elements.{Key, key_cmp}
use Rattle.hm_key.specs.Key.{IsBefore, IsFrom}

-- the order is total
pub key_total : IsTotalOrder key_cmp
key_total =
    then_total (on_total (λ (k : Key). k.localization) nat_cmp_total)
    (then_total (on_total (λ (k : Key). k.obj) nat_cmp_total)
    (then_total (on_total (λ (k : Key). k.rec_type) nat_cmp_total)
    (then_total (on_total (λ (k : Key). k.key) nat_cmp_total) (on_total (λ (k : Key). k.create) nat_cmp_total))))

-- a first answer of `Equal`, where both together answer that
both_equal : (r s : Ordering) → ordering_then r s ≡ Equal → (r ≡ Equal) × (s ≡ Equal)
both_equal Less s same = absurd (true≢false (ap is_lt same))
both_equal Equal s same = (refl, same)
both_equal Greater s same = absurd (true≢false (ap is_gt same))

-- numbers between which the order does not tell are one
same_number : (m n : ℕ) → nat_cmp m n ≡ Equal → m ≡ n
same_number m n same = rw same at (ranked m n (nat_cmp m n) refl)

-- keys between which the order does not tell are one
pub key_same : (a b : Key) → key_cmp a b ≡ Equal → a ≡ b
key_same a b same =
    let first = both_equal _ _ same in
    let second = both_equal _ _ first.1 in
    let third = both_equal _ _ second.1 in
    let fourth = both_equal _ _ third.1 in
    let l : a.localization ≡ b.localization = same_number _ _ first.0 in
    let o : a.obj ≡ b.obj = same_number _ _ second.0 in
    let r : a.rec_type ≡ b.rec_type = same_number _ _ third.0 in
    let k : a.key ≡ b.key = same_number _ _ fourth.0 in
    let c : a.create ≡ b.create = same_number _ _ fourth.1 in
    λ i. record { localization = l i; obj = o i; rec_type = r i; key = k i; create = c i }

-- no key is before itself
pub key_itself : (a : Key) → key_cmp a a ≡ Equal
key_itself a = tied_itself key_total a

-- a key is before one that is after it
pub key_before : (a b : Key) → key_cmp b a ≡ Greater → key_cmp a b ≡ Less
key_before a b after = key_total.antisymm a b ∙ ap ordering_reverse after

-- no key is before itself
pub key_not_before : (a : Key) → IsFrom a a
key_not_before a before = true≢false (ap is_lt (sym before ∙ key_itself a))

-- what is before a key is before all from it on
pub key_before_from : (a b c : Key) → IsBefore a b → IsFrom b c → IsBefore a c
key_before_from a b c before from = by_order (key_cmp b c) refl where
  by_order : (o : Ordering) → key_cmp b c ≡ o → IsBefore a c
  by_order Less is = key_total.trans a b c before is
  by_order Equal is = subst (λ (k : Key). IsBefore a k) (key_same b c is) before
  by_order Greater is = absurd (from (key_before c b is))

-- what is before a key is not before an earlier one
pub key_from_before : (a b : Key) → IsBefore a b → IsFrom a b
key_from_before a b before later = true≢false (ap is_lt (sym (key_total.trans a b a before later) ∙ key_itself a))

-- an answer of two orders in turn is not `Less` where neither's is
both_not_less : (r s : Ordering) → r ≢ Less → s ≢ Less → ordering_then r s ≢ Less
both_not_less Less s first second less = first refl
both_not_less Equal s first second less = second less
both_not_less Greater s first second less = true≢false (ap is_gt less)

-- a number is not below one that is not above it
not_below : (m n : ℕ) → n ≤ m → nat_cmp m n ≢ Less
not_below m n le less = let below : m < n = rw less at (ranked m n (nat_cmp m n) refl) in omega arith

-- a key is from another on where each of its fields is at least the other's
pub key_from_fields : (a b : Key) → a.localization ≤ b.localization → a.obj ≤ b.obj → a.rec_type ≤ b.rec_type → a.key ≤ b.key → a.create ≤ b.create → IsFrom a b
key_from_fields a b l o r k c =
    both_not_less _ _ (not_below b.localization a.localization l)
    (both_not_less _ _ (not_below b.obj a.obj o)
    (both_not_less _ _ (not_below b.rec_type a.rec_type r)
    (both_not_less _ _ (not_below b.key a.key k) (not_below b.create a.create c))))
