-- A store stays balanced where a pseudo file system is made.
use Rattle.std.proofs.Common.{◌≡◌, ℕ, List, Option, Some, None, false, true, true≢false}
use Rattle.std.specs.Prelude.{is_some}
use Rattle.std.proofs.lemmas.Bool.{false≢true}
use Rattle.hm_types.specs.Elements.{Key}
use Rattle.hm_types.specs.declared.id.Pfs.{Pfs}
use Rattle.hm_key.specs.Balance.{Balanced}
use Rattle.hm_key.specs.Extents.{Extent}
use Rattle.hm_key.specs.declared.element.Element.{Element}
use Rattle.hm_model.specs.declared.reply.Reply.{Reply}
use Rattle.hm_calls.specs.NewSystems.{IsFounded, MakesSystems}
use Rattle.hm_calls.specs.declared.new_systems.NewSystem.{NewSystem}
use Rattle.hm_calls_tests.proofs.TestLemmas.{balanced_after}

module _ {S : Type 0} (elements_of : S → Option (List Element)) (mark_of : S → Key → ℕ) (extents_of : S → Option (List Extent)) (room_of : S → ℕ → ℕ)
    (free_of : S → ℕ) (hash : List ℕ → ℕ) (id numbers : ℕ) (new : NewSystem) (path : List ℕ) (shared : ℕ) (old now : S) where
  pub founded_balanced : (told : Reply × Option Pfs)
      → IsFounded elements_of mark_of extents_of room_of free_of hash id numbers new path shared old now told
      → is_some (elements_of now) ≡ is_some (elements_of old) → is_some (extents_of now) ≡ is_some (extents_of old)
      → Balanced (elements_of old) (extents_of old) → Balanced (elements_of now) (extents_of now)
  founded_balanced (reply, None) done elements extents balanced =
      balanced_after elements_of extents_of (MakesSystems hash id numbers new path shared) false old now elements extents balanced
      (λ _. (done.1.elements, done.1.extents)) (λ no. absurd (false≢true no))
  founded_balanced (reply, Some pfs) done elements extents balanced =
      balanced_after elements_of extents_of (MakesSystems hash id numbers new path shared) true old now elements extents balanced
      (λ no. absurd (true≢false no)) (λ _. done.1.1)
