-- Whether the ids in a store are known, told of each pseudo file system.
use Rattle.std.proofs.Common.{◌⊎◌, inl, inr, ⊎_elim, ℕ, IsTrue, List, slice_index_or, Contains, refl, subst}
use Rattle.std.proofs.lemmas.List.Elements.{All-contains, Contains-get_or}
use Rattle.hm_types.specs.Elements.{FullElement}
use Rattle.hm_key.specs.Element.{pfs_of}
use Rattle.hm_stored.specs.Decide.{dec_all, from_holds, to_holds}
use Rattle.hm_stored.specs.Known.{WereDrawn, AreKnown, IsKnown, IsOfSlave, dec_known, dec_of_slave, is_known}

-- each pseudo file system is a slave, or its elements were drawn
pub known_each : (last : ℕ) (es : List FullElement) → IsTrue (is_known last es) → AreKnown last es
unfolding is_known
known_each last es known pfs = by (dec_of_slave es pfs)
  where
    all : (x : FullElement) → Contains es x → IsKnown last es x
    all x there = All-contains (IsKnown last es) es x (from_holds (dec_all (dec_known last es) es) known) there

    by : Dec (IsOfSlave es pfs) → IsOfSlave es pfs ⊎ WereDrawn last es pfs
    by (yes slave) = inl slave
    by (no not) = inr (λ x there is. ⊎_elim (λ slave. absurd (not (subst (IsOfSlave es) is slave))) (λ drawn. drawn) (all x there))

-- and the other way
pub known_from_each : (last : ℕ) (es : List FullElement) → AreKnown last es → IsTrue (is_known last es)
unfolding is_known
known_from_each last es each = to_holds (dec_all (dec_known last es) es) (λ k d lt. at (slice_index_or es k d) (Contains-get_or es k d lt))
  where
    at : (x : FullElement) → Contains es x → IsKnown last es x
    at x there = ⊎_elim inl (λ drawn. inr (drawn x there refl)) (each (pfs_of x.key.localization))
