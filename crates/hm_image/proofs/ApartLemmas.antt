-- Extents of which no two that follow one another in a list overlap: no two of the list do.
use Rattle.std.proofs.Common.{◌≡◌, inl, inr, List, [], ◌∷◌, sym, ap, subst, ◌∙◌, arith}
use Rattle.std.specs.List.{Contains}
use Rattle.std.proofs.lemmas.List.Elements.{All-contains}
use Rattle.hm_types.specs.References.{DoNotOverlap, IsOneExtent, NoneOverlap, Reference}
use Rattle.hm_types.specs.Space.{rounded}
use Rattle.hm_image.proofs.ListLemmas.{first_or_later}

one_extent : (r s : Reference) → r ≡ s → IsOneExtent r s
one_extent r s same = record {
  place = ap (λ (x : Reference). x.at) same;
  size = ap (λ (x : Reference). rounded x.len) same;
}

other_way : (r s : Reference) → DoNotOverlap r s → DoNotOverlap s r
other_way r s (inl one) = inl (record { place = sym one.place; size = sym one.size })
other_way r s (inr (inl before)) = inr (inr before)
other_way r s (inr (inr after)) = inr (inl after)

pub no_two_overlap : (rs : List Reference) (r s : Reference) → NoneOverlap rs → Contains rs r → Contains rs s → DoNotOverlap r s
no_two_overlap [] r s none first second = absurd (omega (arith, first.1))
no_two_overlap (x ∷ rs) r s none first second =
    elim (first_or_later x rs r first) [
      | inl here ↦
          elim (first_or_later x rs s second) [
            | inl same ↦ inl (one_extent r s (sym here ∙ same))
            | inr later ↦ subst (λ (y : Reference). DoNotOverlap y s) here (All-contains (DoNotOverlap x) rs s none.0 later)
          ]
      | inr later ↦
          elim (first_or_later x rs s second) [
            | inl here ↦ subst (λ (y : Reference). DoNotOverlap r y) here (other_way x r (All-contains (DoNotOverlap x) rs r none.0 later))
            | inr more ↦ no_two_overlap rs r s none.1 later more
          ]
    ]
