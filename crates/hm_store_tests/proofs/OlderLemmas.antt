-- What the tests keep of a store.
use Rattle.std.proofs.Common.{◌≡◌, ℕ, ◌<◌, ◌≤◌, List, subst}
use Rattle.std.specs.List.{All, Contains}
use Rattle.std.proofs.lemmas.List.Elements.{All-contains}
use Rattle.hm_types.specs.Elements.{FullElement}
use Rattle.hm_key.specs.Balance.{full_elements, full_of}
use Rattle.hm_key.specs.Extents.{Extent}
use Rattle.hm_key.specs.declared.element.Element.{Element}
use Rattle.hm_records.proofs.MemberLemmas.{map_has}
use Rattle.hm_files.specs.Close.{AreOlder}

-- where all elements are older than an id, the bytes of each file are
pub all_older : (es : List Element) (xs : List Extent) (i : ℕ) → All (λ (e : Element). (e.base.create < i) × (e.base.delete ≤ i)) es
    → (pfs obj first : ℕ) → AreOlder pfs obj i first (full_elements es xs)
all_older es xs i all pfs obj first n from = record {
  made = λ x has about. (each x (map_has (full_of xs) es x has)).0;
  closed = λ x has about. (each x (map_has (full_of xs) es x has)).1;
} where
  each : (x : FullElement) → (e : Element) × Contains es e × (full_of xs e ≡ x) → (x.key.create < i) × (x.delete ≤ i)
  each x (e, there, is) =
      subst (λ (z : FullElement). (z.key.create < i) × (z.delete ≤ i)) is
      (All-contains (λ (e : Element). (e.base.create < i) × (e.base.delete ≤ i)) es e all there)
