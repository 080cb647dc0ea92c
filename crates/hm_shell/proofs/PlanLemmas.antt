-- Words have one plan only.
use Rattle.std.proofs.Common.{◌≡◌, inl, inr, ℕ, List, [], ◌∷◌, Some, None, refl, sym, ap, subst, ◌∙◌, arith}
use Rattle.std.specs.Prelude.{Option, slice_index}
use Rattle.std.proofs.lemmas.Fmt.{decimal_injective}
use Rattle.hm_shell.specs.Words.{IsPlan, IsPlanWithSize, SpellsSize, IsVolumeWord, newfs_option}

-- a size is written in one way
size_is_one : (word : List ℕ) (a b : ℕ) → SpellsSize word a → SpellsSize word b → a ≡ b
size_is_one word a b first second =
    decimal_injective a b (omega (arith, first.most)) (omega (arith, second.most)) (sym first.digits ∙ second.digits)

-- the option is no volume's name
no_option : (volume : List ℕ) → IsVolumeWord volume → volume ≡ newfs_option → ⊥
no_option volume named is = named.no_option (ap (λ (w : List ℕ). slice_index w 0) is)

module _ (words : List (List ℕ)) (volume other : List ℕ) (size another : ℕ) where
  with_size : IsPlanWithSize words volume size → IsPlanWithSize words other another → (volume ≡ other) × (size ≡ another)
  with_size a b = elim a.order [
    | inl first ↦ elim b.order [
      | inl second ↦
          let same : volume ∷ newfs_option ∷ a.word ∷ [] ≡ other ∷ newfs_option ∷ b.word ∷ [] = sym first ∙ second in
          let word : a.word ≡ b.word = cc in
          (cc, size_is_one b.word size another (subst (λ (w : List ℕ). SpellsSize w size) word a.size_is) b.size_is)
      | inr second ↦
          let same : volume ∷ newfs_option ∷ a.word ∷ [] ≡ newfs_option ∷ b.word ∷ other ∷ [] = sym first ∙ second in
          absurd (no_option volume a.volume_is (cc))
    ]
    | inr first ↦ elim b.order [
      | inl second ↦
          let same : newfs_option ∷ a.word ∷ volume ∷ [] ≡ other ∷ newfs_option ∷ b.word ∷ [] = sym first ∙ second in
          absurd (no_option other b.volume_is (cc))
      | inr second ↦
          let same : newfs_option ∷ a.word ∷ volume ∷ [] ≡ newfs_option ∷ b.word ∷ other ∷ [] = sym first ∙ second in
          let word : a.word ≡ b.word = cc in
          (cc, size_is_one b.word size another (subst (λ (w : List ℕ). SpellsSize w size) word a.size_is) b.size_is)
    ]
  ]

pub plan_is_one : (words : List (List ℕ)) (volume other : List ℕ) (newfs another : Option ℕ) → IsPlan words volume newfs → IsPlan words other another →
    (volume ≡ other) × (newfs ≡ another)
plan_is_one words volume other None None first second = let same : volume ∷ [] ≡ other ∷ [] = sym first.0 ∙ second.0 in (cc, refl)
plan_is_one words volume other None (Some another) first second = elim second.order [
  | inl is ↦ let same : volume ∷ [] ≡ other ∷ newfs_option ∷ second.word ∷ [] = sym first.0 ∙ is in absurd (cc)
  | inr is ↦ let same : volume ∷ [] ≡ newfs_option ∷ second.word ∷ other ∷ [] = sym first.0 ∙ is in absurd (cc)
]
plan_is_one words volume other (Some size) None first second = elim first.order [
  | inl is ↦ let same : other ∷ [] ≡ volume ∷ newfs_option ∷ first.word ∷ [] = sym second.0 ∙ is in absurd (cc)
  | inr is ↦ let same : other ∷ [] ≡ newfs_option ∷ first.word ∷ volume ∷ [] = sym second.0 ∙ is in absurd (cc)
]
plan_is_one words volume other (Some size) (Some another) first second =
    let both = with_size words volume other size another first second in
    (both.0, ap Some both.1)
