-- Facts of content that is told, or not.
use Rattle.std.proofs.Common.{◌≡◌, true≢false, refl, sym, Some, None}
use Rattle.std.specs.Prelude.{Option, is_some, IfSome}
use Rattle.std.proofs.lemmas.Option.{IfSome_then}
use Rattle.hm_types.specs.Told.{BothTell}

-- what holds of any
pub IfSome_all : {A : Type 0} (o : Option A) {P : A → Type 0} → ((x : A) → P x) → IfSome o P
IfSome_all None all = tt
IfSome_all (Some x) all = all x

-- what follows from two facts of it
pub IfSome_both : {A : Type 0} (o : Option A) {P Q R : A → Type 0} → IfSome o P → IfSome o Q → ((x : A) → P x → Q x → R x) → IfSome o R
IfSome_both None first second step = tt
IfSome_both (Some x) first second step = step x first second

-- of two that are told alike, what holds of the second if the first is told
pub IfSome_alike : {A B : Type 0} (p : Option A) (q : Option B) (Q : B → Type 0) → is_some q ≡ is_some p → IfSome p (λ _. IfSome q Q) → IfSome q Q
IfSome_alike p None Q same more = tt
IfSome_alike None (Some y) Q same more = absurd (true≢false same)
IfSome_alike (Some x) (Some y) Q same more = more

-- and what holds of the first if the second is
pub IfSome_where : {A B : Type 0} (p : Option A) (q : Option B) (P : A → Type 0) → is_some q ≡ is_some p
    → IfSome p (λ x. IfSome q (λ _. P x)) → IfSome p P
IfSome_where None q P same more = tt
IfSome_where (Some x) None P same more = absurd (true≢false (sym same))
IfSome_where (Some x) (Some y) P same more = more

-- a fact that speaks of neither
pub IfSome_kept : {A B : Type 0} (p : Option A) (q : Option B) (X : Type 0) → is_some q ≡ is_some p → IfSome p (λ _. X) → IfSome q (λ _. X)
IfSome_kept p q X same is = IfSome_alike p q (λ _. X) same (IfSome_then p is (λ x is. IfSome_all q (λ y. is)))

module _ {A : Type 0} where
  -- two that both tell are told alike
  pub both_alike : (p q : Option A) (R : A → A → Type 0) → BothTell p q R → is_some q ≡ is_some p
  both_alike None None R both = refl
  both_alike None (Some new) R both = absurd both
  both_alike (Some old) None R both = absurd both
  both_alike (Some old) (Some new) R both = refl

  -- what follows of both
  pub both_then : (p q : Option A) {R S : A → A → Type 0} → BothTell p q R → ((x y : A) → R x y → S x y) → IfSome p (λ x. IfSome q (S x))
  both_then None q both step = tt
  both_then (Some x) None both step = tt
  both_then (Some x) (Some y) both step = step x y both

  -- and of the second one
  pub told_after : (p q : Option A) {R : A → A → Type 0} {P Q : A → Type 0} → BothTell p q R → IfSome p P
      → ((x y : A) → R x y → P x → Q y) → IfSome q Q
  told_after p q {R = R} {Q = Q} both is step = IfSome_alike p q Q (both_alike p q R both)
      (IfSome_both p (both_then p q both (λ x y both. both)) is (λ x more is. IfSome_then q more (λ y both. step x y both is)))

  -- one after another
  pub both_after : (p q r : Option A) {R S T : A → A → Type 0} → BothTell p q R → BothTell q r S
      → ((x y z : A) → R x y → S y z → T x z) → BothTell p r T
  both_after None None None first second step = tt
  both_after None None (Some z) first second step = absurd second
  both_after None (Some y) r first second step = absurd first
  both_after (Some x) None r first second step = absurd first
  both_after (Some x) (Some y) None first second step = absurd second
  both_after (Some x) (Some y) (Some z) first second step = step x y z first second
