-- The boundary of an image: the last id of the header that counts.
use Rattle.std.proofs.Common.{◌≡◌, ⊎_elim, ℕ, ◌-◌, List, sym, ap, subst, ◌∙◌}
use Rattle.hm_header.specs.OnDisk.{HasHeader}
use Rattle.hm_header.specs.declared.header.Header.{Header}
use Rattle.hm_undo.specs.Recovered.{IsRangeUndone, RecoversTo, recovered_header}
use Rattle.hm_undo.proofs.RecoveredLemmas.{undone-counts}
use Rattle.hm_recover.proofs.DamageLemmas.{same-header}

-- an image keeps it as it is recovered
pub boundary-kept : (image result : List ℕ) (header recovered : Header) (slot other : ℕ) → RecoversTo image result → HasHeader image header slot
    → HasHeader result recovered other → recovered.last ≡ header.last
boundary-kept image result header recovered slot other is counts after =
    ⊎_elim itself undone is.how ∙ ap (λ (h : Header). h.last) (same-header image is.header header is.slot slot is.counts counts)
  where
    itself : (is.header.undo_count ≡ 0) × (result ≡ image) → recovered.last ≡ is.header.last
    itself same =
        ap (λ (h : Header). h.last)
        (same-header image recovered is.header other is.slot (subst (λ (bytes : List ℕ). HasHeader bytes recovered other) same.1 after) is.counts)

    undone : IsRangeUndone image is.header is.slot result → recovered.last ≡ is.header.last
    undone u =
        ap (λ (h : Header). h.last)
        (same-header result recovered (recovered_header is.header) other (1 - is.slot) after
        (subst (λ (bytes : List ℕ). HasHeader bytes (recovered_header is.header) (1 - is.slot)) (sym u.result_is)
        (undone-counts image is.header is.slot is.counts u.olds u.range)))
