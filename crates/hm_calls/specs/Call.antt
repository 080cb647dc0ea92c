-- The calls that the elements of a store may be asked.
use Rattle.std.specs.Prelude.{◌≡◌, ℕ, List, Option}
use Rattle.hm_types.specs.Elements.{FullElement}
use Rattle.hm_key.specs.Extents.{Extent}
use Rattle.hm_key.specs.declared.element.Element.{Element}
use Rattle.hm_cursor.specs.Told.{OnBalanced, fulls}
use Rattle.hm_model.specs.Call.{Call, own_id}
use Rattle.hm_model.specs.Due.{ReadsPaths}
use Rattle.hm_records.specs.KeysFit.{KeysFit}
use Rattle.hm_volume.specs.Shown.{ShowsAs}

-- A call by this id, which finds these elements: they show its volume in its trees, by its hash, and its path words are
-- read as they must.
pub record IsCall (hash : List ℕ → ℕ) (id : ℕ) (es : List FullElement) (call : Call) : Type 0 where
  pub own : own_id call ≡ id
  pub hash_is : call.hash ≡ hash
  pub shows : ShowsAs es call.volume call.view
  pub keys : KeysFit hash es
  pub words : ReadsPaths call

-- a fact of each call by this id over a store that tells a balanced content
abbrev pub OnCalls : (List ℕ → ℕ) → ℕ → Option (List Element) → Option (List Extent) → (List FullElement → Call → Type 0) → Type 0
OnCalls hash id es xs P = OnBalanced es xs (λ lists. (call : Call) → IsCall hash id (fulls lists) call → P (fulls lists) call)
