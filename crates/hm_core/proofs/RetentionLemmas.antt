-- A space keeps of a pseudo file system what its record says, so all volumes that it holds agree in that.
use Rattle.std.proofs.Common.{◌≡◌, ℕ, List, [], refl, sym, ap, subst, ◌∙◌}
use Rattle.std.specs.Prelude.{Option, None, Some}
use Rattle.std.specs.Option.{option_map_or}
use Rattle.hm_types.specs.Elements.{FullElement}
use Rattle.hm_image.specs.StandFor.{StandFor}
use Rattle.hm_model.specs.Volume.{PseudoFileSystem, Volume, system_of}
use Rattle.hm_state.specs.Volume.{HoldsVolume}
use Rattle.hm_step.proofs.KnownLemmas.{record_at}
use Rattle.hm_stored.specs.Heap.{Heap}
use Rattle.hm_volume.proofs.RecordLemmas.{system_some}
use Rattle.hm_core.specs.Open.{retention_in}
use Rattle.hm_core.proofs.OpenLemmas.{held_once}

module _ (es : List FullElement) (a b : Volume) (stand : StandFor es a) (stand' : StandFor es b) (pfs : ℕ) where
  -- a PFS of the one is in the other, and keeps the same
  same_there : (s : PseudoFileSystem) → system_of a pfs ≡ Some s
      → (s' : PseudoFileSystem) × (system_of b pfs ≡ Some s') × (s.retention ≡ s'.retention)
  same_there s is =
      let (r, has, for) = record_at es a stand pfs s is in
      let (s', there, for') = system_some es b pfs stand'.records r stand'.keys has in
      (s', there, sym for.3 ∙ for'.3)

abbrev retained : Option PseudoFileSystem → List (ℕ × ℕ)
retained found = option_map_or (λ (s : PseudoFileSystem). s.retention) found []

module _ (es : List FullElement) (a b : Volume) (stand : StandFor es a) (stand' : StandFor es b) (pfs : ℕ) where
  retention_once : retention_in pfs a ≡ retention_in pfs b
  retention_once = by (system_of a pfs) refl (system_of b pfs) refl where
    by : (m : Option PseudoFileSystem) → system_of a pfs ≡ m → (n : Option PseudoFileSystem) → system_of b pfs ≡ n → retained m ≡ retained n
    by (Some s) is n is' =
        let (s', there, same) = same_there es a b stand stand' pfs s is in
        same ∙ ap retained (sym there ∙ is')
    by None none None none' = refl
    by None none (Some s) is =
        let (s', there, same) = same_there es b a stand' stand pfs s is in
        absurd (cc)

pub held_retention : (h : Heap) (root last : ℕ) (a b : Volume) (pfs : ℕ) → HoldsVolume h root last a → HoldsVolume h root last b
    → retention_in pfs a ≡ retention_in pfs b
held_retention h root last a b pfs first second =
    retention_once first.elements.0 a b first.elements.2
    (subst (λ (l : List FullElement). StandFor l b)
    (held_once h root second.elements.0 first.elements.0 second.elements.1 first.elements.1) second.elements.2) pfs
