-- The extents of the payloads of some elements are live ones, and these elements are balanced with them.
use Rattle.std.proofs.Common.{◌≡◌, ◌≢◌, ◌⊎◌, inl, inr, ℕ, ◌+◌, ◌-◌, ◌≤◌, List, [], ◌∷◌, Option, Some, None}
use Rattle.std.proofs.Common.{refl, sym, ap, ◌∙◌, arith, length, map, take, drop, length-take, length-drop}
use Rattle.std.specs.Prelude.{if◌then◌else◌, is_some}
use Rattle.std.specs.List.{All, AllByRecursion, Contains}
use Rattle.std.proofs.lemmas.List.{take-take}
use Rattle.std.proofs.lemmas.List.Elements.{All-contains, All-contains_itself, All-from_recursion, All-weaker, recursion_from_All}
use Rattle.hm_types.specs.Elements.{FullElement}
use Rattle.hm_types.specs.Offset.{byte_of}
use Rattle.hm_types.specs.References.{AreFew, DoNotOverlap, IsPlaced, NoneOverlap, Reference}
use Rattle.hm_types.specs.Space.{rounded}
use Rattle.hm_freemap.proofs.BoundLemmas.{placed_high}
use Rattle.hm_key.specs.Balance.{IsBalanced, IsHeld, first_bytes, full_elements, references}
use Rattle.hm_key.specs.Elements.{element_key}
use Rattle.hm_key.specs.Extents.{AreExtents, Extent, IsExtent, extent_at, shared_at, with_extent}
use Rattle.hm_key.specs.declared.element.Element.{Element}
use Rattle.hm_key.proofs.BalanceLemmas.{extent_each, refer_to}
use Rattle.hm_key.proofs.ExtentLemmas.{extents_none, extents_shared}
use Rattle.hm_search.proofs.ListLemmas.{each_both, each_so}
use Rattle.hm_image.specs.Extents.{HavePlaces, extent_of, extents_of}
use Rattle.hm_image.specs.Image.{bytes_at, full_of, to_payload}
use Rattle.hm_image.specs.Sound.{IsAmongPayloads}
use Rattle.hm_image.proofs.ApartLemmas.{no_two_overlap}
use Rattle.hm_image.proofs.CountedLemmas.{counted_at, each_extent, few_at, few_later, referred, refs_of}
use Rattle.hm_image.proofs.FoundLemmas.{AreBeside, apart_with, each_found, each_with, none_stands}
use Rattle.hm_image.proofs.ListLemmas.{contains_map, each_from_map, map_alike}

module _ (image : List ℕ) where
  -- an element's payload may be an extent
  abbrev pub IsGood : Element → Type 0
  IsGood e = IsExtent (extent_of image e)

  -- ---- the extents are live

  -- what begins at another place than a payload shares no byte with it
  abbrev IsElsewhere : Element → ℕ → ℕ → Type 0
  IsElsewhere e at len = (at ≡ e.payload) ⊎ (byte_of e.payload + rounded e.len ≤ byte_of at) ⊎ (byte_of at + len ≤ byte_of e.payload)

  elsewhere : (e : Element) (r : Reference) → DoNotOverlap (to_payload e) r → IsElsewhere e r.at (rounded r.len)
  elsewhere e r (inl same) = inl (sym same.place)
  elsewhere e r (inr apart) = inr apart

  beside : (e : Element) (x : Extent) → IsElsewhere e x.at x.len → x.at ≢ e.payload → AreBeside (extent_of image e) x
  beside e x (inl same) other = absurd (other same)
  beside e x (inr apart) other = apart

  module _ (e : Element) (es : List Element) (apart : NoneOverlap (map to_payload (e ∷ es))) where
    abbrev xs : List Extent
    xs = extents_of image es

    places : AllByRecursion (λ x. IsElsewhere e x.at x.len) xs
    places =
        let Place : Reference → Type 0 = λ r. IsElsewhere e r.at (rounded r.len) in
        each_extent image (λ at len bytes. IsElsewhere e at len) es
        (each_from_map Place to_payload es (All-weaker (DoNotOverlap (to_payload e)) Place (elsewhere e) (map to_payload es) apart.0))

    others : extent_at e.payload xs ≡ None → AllByRecursion (AreBeside (extent_of image e)) xs
    others none =
        let Elsewhere : Extent → Type 0 = λ x. IsElsewhere e x.at x.len in
        let Other : Extent → Type 0 = λ x. x.at ≢ e.payload in
        each_so (λ x. Elsewhere x × Other x) (AreBeside (extent_of image e)) xs (λ x both. beside e x both.0 both.1)
        (each_both Elsewhere Other xs places (none_stands e.payload xs none))

    one_live : IsGood e → AreFew (map to_payload (e ∷ es)) → AreExtents xs → (o : Option Extent) → extent_at e.payload xs ≡ o
        → AreExtents (if is_some o then shared_at e.payload xs else with_extent (extent_of image e) xs)
    one_live good few live (Some x) some =
        let count : x.refs ≡ refer_to e.payload es = ap refs_of (sym some) ∙ counted_at image es e.payload in
        extents_shared e.payload xs (rw some (omega (arith, count, few_at e es few))) live
    one_live good few live None none =
        let each = recursion_from_All IsExtent xs live.each in
        let long = each_so IsExtent (λ x. 1 ≤ x.len) xs (λ x is. is.some) each in
        record {
          apart = apart_with 0 (extent_of image e) xs (omega arith) good.some long (others none) live.apart;
          each = All-from_recursion IsExtent (with_extent (extent_of image e) xs) (each_with IsExtent (extent_of image e) xs good each);
        }

  pub extents_live : (es : List Element) → AllByRecursion IsGood es → NoneOverlap (map to_payload es) → AreFew (map to_payload es)
      → AreExtents (extents_of image es)
  extents_live [] good apart few = extents_none
  extents_live (e ∷ es) good apart few =
      let live = extents_live es good.1 apart.1 (few_later e es few) in
      one_live e es apart good.0 few live (extent_at e.payload (extents_of image es)) refl

  -- ---- the extent of an element

  module _ (es : List Element) (good : AllByRecursion IsGood es) (apart : NoneOverlap (map to_payload es)) where
    abbrev all : List Extent
    all = extents_of image es

    long : (e : Element) → Contains es e → 1 ≤ rounded e.len
    long e there = (All-contains IsGood es e (All-from_recursion IsGood es good) there).some

    -- payloads at one place are as long
    as_long : (e d : Element) → Contains es e → Contains es d → d.payload ≡ e.payload → rounded d.len ≡ rounded e.len
    as_long e d first second same = by_overlap (no_two_overlap (map to_payload es) (to_payload e) (to_payload d) apart (has e first) (has d second)) where
      has : (c : Element) → Contains es c → Contains (map to_payload es) (to_payload c)
      has c there = contains_map to_payload es c there

      bytes : byte_of d.payload ≡ byte_of e.payload
      bytes = ap byte_of same

      by_overlap : DoNotOverlap (to_payload e) (to_payload d) → rounded d.len ≡ rounded e.len
      by_overlap (inl one) = sym one.size
      by_overlap (inr (inl before)) = absurd (omega (arith, before, bytes, long e first))
      by_overlap (inr (inr after)) = absurd (omega (arith, after, bytes, long d second))

    -- the extent that is found at an element's payload
    record IsFoundFor (e : Element) : Type 0 where
      pub extent : Extent
      pub found : extent_at e.payload all ≡ Some extent
      pub long : extent.len ≡ rounded e.len
      pub bytes : extent.bytes ≡ bytes_at image e.payload (rounded e.len)

    -- what begins where a payload does is as long, and has the bytes there
    abbrev IsOf : Element → ℕ → ℕ → List ℕ → Type 0
    IsOf e at len bytes = (at ≡ e.payload → len ≡ rounded e.len) × (bytes ≡ bytes_at image at len)

    found_for : (e : Element) → Contains es e → IsFoundFor e
    found_for e there = by_found (extent_at e.payload all) refl where
      each : AllByRecursion (λ x. IsOf e x.at x.len x.bytes) all
      each =
          let Same : Element → Type 0 = λ d. IsOf e d.payload (rounded d.len) (bytes_at image d.payload (rounded d.len)) in
          each_extent image (IsOf e) es
          (recursion_from_All Same es (All-weaker (Contains es) Same (λ d has. (as_long e d there has, refl)) es (All-contains_itself es)))

      by_found : (o : Option Extent) → extent_at e.payload all ≡ o → IsFoundFor e
      by_found None none =
          let count : 0 ≡ refer_to e.payload es = ap refs_of (sym none) ∙ counted_at image es e.payload in
          absurd (omega (arith, count, referred e es there))
      by_found (Some x) some =
          let fact = extent_each (λ y. IsOf e y.at y.len y.bytes) e.payload x all each some in
          let size = fact.0.0 fact.1 in
          record {
            extent = x;
            found = some;
            long = size;
            bytes = fact.0.1 ∙ ap (λ (at : ℕ). bytes_at image at x.len) fact.1 ∙ ap (bytes_at image e.payload) size;
          }

    all_found : (P : Element → Type 0) → ((e : Element) → IsFoundFor e → P e) → All P es
    all_found P so = All-weaker (Contains es) P (λ e there. so e (found_for e there)) es (All-contains_itself es)

    -- the first bytes of an extent are those of its payload
    first_part : (at len : ℕ) → take len (bytes_at image at (rounded len)) ≡ bytes_at image at len
    first_part at len =
        let whole : byte_of at + rounded len - byte_of at ≡ rounded len = omega arith in
        let part : byte_of at + len - byte_of at ≡ len = omega arith in
        let rest = drop (byte_of at) image in
        ap (λ (n : ℕ). take len (take n rest)) whole
        ∙ take-take len (rounded len) rest (omega arith)
        ∙ ap (λ (n : ℕ). take n rest) (sym part)

    -- an element with the bytes of an extent
    abbrev filled_of : Option Extent → Element → FullElement
    filled_of o e = record { key = element_key e; delete = e.base.delete; obj_type = e.base.obj_type; bytes = first_bytes e.len o }

    filled_found : (e : Element) → IsFoundFor e → filled_of (extent_at e.payload all) e ≡ full_of image e
    filled_found e is =
        let bytes = ap (take e.len) is.bytes ∙ first_part e.payload e.len in
        rw is.found (ap (λ (bs : List ℕ). record (full_of image e) { bytes = bs }) bytes)

    pub payloads_found : full_elements es all ≡ map (full_of image) es
    payloads_found =
        let Same : Element → Type 0 = λ e. filled_of (extent_at e.payload all) e ≡ full_of image e in
        map_alike (λ e. filled_of (extent_at e.payload all) e) (full_of image) es (recursion_from_All Same es (all_found Same filled_found))

    pub balanced : AreFew (map to_payload es) → IsBalanced es all
    balanced few =
        let live = extents_live es good apart few in
        let found = each_found 0 all live.apart (recursion_from_All IsExtent all live.each) in
        let count = λ (x : Extent) (is : extent_at x.at all ≡ Some x). ap refs_of (sym is) ∙ counted_at image es x.at in
        record {
          held = all_found (IsHeld all) (λ e is. rw is.found is.long);
          counted = All-from_recursion (λ x. x.refs ≡ references es x) all
              (each_so (λ x. extent_at x.at all ≡ Some x) (λ x. x.refs ≡ references es x) all count found);
        }

-- ---- payloads that may stand where they do

-- bytes within an image are as many as are asked for
part_long : (image : List ℕ) (at len : ℕ) → byte_of at + len ≤ length image → length (bytes_at image at len) ≡ len
part_long image at len within = simp (length-take, length-drop) (omega arith)

module _ (image : List ℕ) (bigblocks : ℕ) (es : List Element) (have : HavePlaces image bigblocks es) where
  abbrev IsInPlace : Element → Type 0
  IsInPlace e = IsPlaced bigblocks (to_payload e)

  extent_good : (e : Element) → IsAmongPayloads e × IsInPlace e → IsGood image e
  extent_good e is =
      let placed = is.1 in
      let ends = placed_high bigblocks (to_payload e) placed in
      record {
        volume = placed.volume;
        zone = is.0;
        some = let some = placed.some in omega arith;
        whole = omega arith;
        bytes = part_long image e.payload (rounded e.len) (omega (arith, ends, placed.pool, have.room));
        shared = (omega arith, omega arith);
      }

  good_each : AllByRecursion (IsGood image) es
  good_each =
      let zones = recursion_from_All IsAmongPayloads es have.zones in
      let placed = each_from_map (IsPlaced bigblocks) to_payload es have.placed in
      each_so (λ e. IsAmongPayloads e × IsInPlace e) (IsGood image) es extent_good (each_both IsAmongPayloads IsInPlace es zones placed)

  pub placed_live : AreExtents (extents_of image es)
  placed_live = extents_live image es good_each have.apart have.few

  pub placed_balanced : IsBalanced es (extents_of image es)
  placed_balanced = balanced image es good_each have.apart have.few

  pub placed_payloads : full_elements es (extents_of image es) ≡ map (full_of image) es
  placed_payloads = payloads_found image es good_each have.apart
