-- Bytes of payloads, and what bytes a file has.
use Rattle.std.proofs.Common.{◌≡◌, ℕ, ◌+◌, ◌-◌, ◌<◌, ◌≤◌, List, ◌++◌, Option, None, Some, Result, Ok, Err, ap, drop, length, min, sym, take, ◌∙◌, arith}
use Rattle.std.specs.Prelude.{IfSome, IsSomeAnd, OnOk, slice_index}
use Rattle.std.proofs.Math.Seq.{take-append-add}
use Rattle.std.proofs.lemmas.List.{drop-take, ext_get_or, get_or-drop, get_or-take, length-drop, length-take, length-take-le}
use Rattle.std.proofs.lemmas.Slice.{take-put_mid}
use borrow.Rule.Slice.PartMut.{put_mid}
use Rattle.hm_types.specs.Space.{rounded}
use Rattle.hm_types.specs.declared.fault.Fault.{Fault}
use Rattle.hm_key.specs.Balance.{IsHeld, first_bytes, payload_of}
use Rattle.hm_key.specs.Counts.{Content}
use Rattle.hm_key.specs.Extents.{Extent, extent_at}
use Rattle.hm_key.specs.declared.element.Element.{Element}
use Rattle.hm_records.specs.Changes.{IsSettled}
use Rattle.hm_records.specs.View.{AreFileBytes}
use Rattle.hm_records.proofs.ObjectLemmas.{byte_one}
use Rattle.hm_files.specs.Bytes.{AreBytesFrom}

-- ---- a part of a payload

-- a part of the first bytes is that part of all
part_of_front : (xs : List ℕ) (len skip n : ℕ) → skip + n ≤ len → take n (drop skip (take len xs)) ≡ take n (drop skip xs)
part_of_front xs len skip n within =
    ext_get_or 0 (take n (drop skip (take len xs))) (take n (drop skip xs))
    (omega (
      arith,
      length-take n (drop skip (take len xs)),
      length-take n (drop skip xs),
      length-drop skip (take len xs),
      length-drop skip xs,
      length-take len xs,
    ))
    (λ i below.
    let small : i < n = omega (arith, below, length-take n (drop skip (take len xs))) in
    get_or-take n (drop skip (take len xs)) i 0 small ∙ get_or-drop skip (take len xs) i 0 ∙ get_or-take len xs (skip + i) 0 (omega (arith, small, within))
    ∙ sym (get_or-drop skip xs i 0) ∙ sym (get_or-take n (drop skip xs) i 0 small))

-- what was fetched of an extent is a part of the payload there
pub part_fetched : (xs : Option (List Extent)) (e : Element) (skip n : ℕ) (result : Result (Unit {0}) Fault) (new : List ℕ)
    → skip + n ≤ e.len → IfSome xs (λ list. IsHeld list e)
    → IfSome xs (λ list. IfSome (extent_at e.payload list) (λ x. OnOk result (new ≡ take n (drop skip x.bytes))))
    → IfSome xs (λ list. OnOk result (new ≡ take n (drop skip (payload_of list e))))
part_fetched None e skip n result new within held read = tt
part_fetched (Some list) e skip n (Err fault) new within held read = tt
part_fetched (Some list) e skip n (Ok done) new within held read = by_extent (extent_at e.payload list) held read where
  by_extent : (o : Option Extent) → IsSomeAnd o (λ x. x.len ≡ rounded e.len) → IfSome o (λ x. new ≡ take n (drop skip x.bytes))
      → new ≡ take n (drop skip (first_bytes e.len o))
  by_extent None held read = absurd held
  by_extent (Some x) held read = read ∙ sym (part_of_front x.bytes e.len skip n within)

-- so it is where the rest of what was fetched was taken
pub part_of_fetched : (xs : Option (List Extent)) (e : Element) (skip n len : ℕ) (front new : List ℕ)
    → skip + n ≤ e.len → len ≡ skip + n → new ≡ drop skip front → IfSome xs (λ list. IsHeld list e)
    → IfSome xs (λ list. IfSome (extent_at e.payload list) (λ x. front ≡ take len x.bytes))
    → IfSome xs (λ list. new ≡ take n (drop skip (payload_of list e)))
part_of_fetched None e skip n len front new within sized rest held read = tt
part_of_fetched (Some list) e skip n len front new within sized rest held read = by_extent (extent_at e.payload list) held read where
  by_extent : (o : Option Extent) → IsSomeAnd o (λ x. x.len ≡ rounded e.len) → IfSome o (λ x. front ≡ take len x.bytes)
      → new ≡ take n (drop skip (first_bytes e.len o))
  by_extent None held read = absurd held
  by_extent (Some x) held read =
      rest ∙ ap (λ (bs : List ℕ). drop skip bs) read ∙ ap (λ (k : ℕ). drop skip (take k x.bytes)) sized ∙ drop-take skip n x.bytes
      ∙ sym (part_of_front x.bytes e.len skip n within)

-- the front of a list in which the rest was written
pub front_put : (a k : ℕ) (xs ys : List ℕ) (n : ℕ) → length ys ≡ k → a ≤ length xs → n ≤ k
    → take (a + n) (put_mid a k xs ys) ≡ take a xs ++ take n ys
front_put a k xs ys n sized within less =
    sym (take_less (a + n) (a + k) (put_mid a k xs ys) (omega (arith, less)))
    ∙ ap (λ (zs : List ℕ). take (a + n) zs) (take-put_mid a k xs ys (a + k) (omega (arith, sized)) within)
    ∙ ap (λ (m : ℕ). take (m + n) (take a xs ++ ys)) (sym (length-take-le a xs within))
    ∙ take-append-add (take a xs) ys n
  where
    take_less : (m l : ℕ) (zs : List ℕ) → m ≤ l → take m (take l zs) ≡ take m zs
    take_less m l zs below =
        ext_get_or 0 (take m (take l zs)) (take m zs) (omega (arith, length-take m (take l zs), length-take m zs, length-take l zs, below))
        (λ i here.
        let small : i < m = omega (arith, here, length-take m (take l zs)) in
        get_or-take m (take l zs) i 0 small ∙ get_or-take l zs i 0 (omega (arith, small, below)) ∙ sym (get_or-take m zs i 0 small))

-- ---- a file has one list of bytes

-- bytes from an offset on, as many as are there of those asked for, are those of the whole file
pub bytes_of_file : (pfs obj size offset asked : ℕ) (bytes content : List ℕ) (C : Content) → IsSettled C → length bytes ≡ min asked (size - offset)
    → AreBytesFrom C pfs obj size offset bytes → AreFileBytes C pfs obj size content → bytes ≡ take asked (drop offset content)
bytes_of_file pfs obj size offset asked bytes content C settled sized are file =
    ext_get_or 0 bytes (take asked (drop offset content))
    (omega (arith, sized, length-take asked (drop offset content), length-drop offset content, file.sized))
    (λ i below.
    let small : i < asked = omega (arith, below, sized) in
    let there : offset + i < size = omega (arith, below, sized) in
    byte_one pfs obj size (offset + i) (slice_index bytes i) (slice_index content (offset + i)) C settled (are.each i below) (file.each (offset + i) there)
    ∙ sym (get_or-drop offset content i 0) ∙ sym (get_or-take asked (drop offset content) i 0 small))
