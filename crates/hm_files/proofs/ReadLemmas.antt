-- What is read of a file, where a store tells its content.
use Rattle.std.proofs.Common.{◌≡◌, ℕ, ◌+◌, ◌-◌, ◌<◌, ◌≤◌, List, ◌++◌, Option, None, Some, Result, Ok, Err, ap, length, min, subst}
use Rattle.std.proofs.Common.{sym, take, arith, inl, inr, length-append}
use Rattle.std.specs.Prelude.{IfOk, IfSome, slice_index}
use Rattle.std.proofs.lemmas.Bool.{cases_lt}
use Rattle.std.proofs.lemmas.List.{get_or_append_left, get_or-append_right}
use Rattle.hm_types.specs.Elements.{Key}
use Rattle.hm_types.specs.declared.fault.Fault.{Fault}
use Rattle.hm_key.specs.Balance.{IsBalanced, full_elements, payload_of}
use Rattle.hm_key.specs.Counts.{Content, Counts}
use Rattle.hm_key.specs.Elements.{IsContent}
use Rattle.hm_key.specs.Extents.{AreExtents, Extent}
use Rattle.hm_key.specs.declared.element.Element.{Element}
use Rattle.hm_records.specs.View.{IsFileByte}
use Rattle.hm_records.proofs.CountsLemmas.{own_keys-sorted, settled}
use Rattle.hm_cursor.specs.Told.{Lists, OnBalanced, fulls}
use Rattle.hm_cursor.proofs.PayloadLemmas.{full_sorted}
use Rattle.hm_files.specs.Bytes.{AreBytesFrom, AreOf, AreBytesRead, AreShown, IsReached}
use Rattle.hm_files.specs.Nearest.{FindsNearest}
use Rattle.hm_files.proofs.ByteLemmas.{bytes_of_file}

-- what a search found is known of a store that tells its content
pub piece_told : (es : Option (List Element)) (xs : Option (List Extent)) (at : Key) (near last t : ℕ) (found : Option Element) (P : Lists → Type 0)
    → IfSome es IsContent → IfSome xs AreExtents → IfSome es (λ list. FindsNearest list at near last t found)
    → ((list : List Element) (extents : List Extent) → IsContent list → AreExtents extents → IsBalanced list extents
    → FindsNearest list at near last t found → P (list, extents)) → OnBalanced es xs P
piece_told None xs at near last t found P content live is step = tt
piece_told (Some es) None at near last t found P content live is step = tt
piece_told (Some es) (Some xs) at near last t found P content live is step = λ balanced. step es xs content live balanced is

-- so it is with what was read of it
pub piece_read : (es : Option (List Element)) (xs read : Option (List Extent)) (at : Key) (near last t : ℕ) (found : Option Element) (e : Element)
    (offset : ℕ) (result : Result ℕ Fault) (buffer : List ℕ) (P : ℕ → Lists → Type 0)
    → IfSome es IsContent → IfSome xs AreExtents → IfSome es (λ list. FindsNearest list at near last t found) → read ≡ xs
    → IfSome read (λ list. IfOk result (λ count. AreOf e.base.key e.len (payload_of list e) offset (take count buffer)))
    → ((count : ℕ) (list : List Element) (extents : List Extent) → IsContent list → AreExtents extents → IsBalanced list extents
    → FindsNearest list at near last t found → AreOf e.base.key e.len (payload_of extents e) offset (take count buffer) → P count (list, extents))
    → IfOk result (λ count. OnBalanced es xs (P count))
piece_read es xs read at near last t found e offset (Err fault) buffer P content live is same are step = tt
piece_read None xs read at near last t found e offset (Ok count) buffer P content live is same are step = tt
piece_read (Some es) None read at near last t found e offset (Ok count) buffer P content live is same are step = tt
piece_read (Some es) (Some xs) read at near last t found e offset (Ok count) buffer P content live is same are step = λ balanced.
    step count es xs content live balanced is
    (subst (λ (o : Option (List Extent)). IfSome o (λ list. AreOf e.base.key e.len (payload_of list e) offset (take count buffer))) same are)

-- one piece more
pub read_more : (es : Option (List Element)) (xs : Option (List Extent)) (t pfs obj size offset done : ℕ) (front piece all : List ℕ)
    → length front ≡ done → all ≡ front ++ piece → OnBalanced es xs (AreBytesRead t pfs obj size offset front)
    → OnBalanced es xs (AreBytesRead t pfs obj size (offset + done) piece) → OnBalanced es xs (AreBytesRead t pfs obj size offset all)
read_more None xs t pfs obj size offset done front piece all sized is one other = tt
read_more (Some es) None t pfs obj size offset done front piece all sized is one other = tt
read_more (Some es) (Some xs) t pfs obj size offset done front piece all sized is one other = λ balanced reached.
    rw is (joined (Counts (fulls (es, xs)) t) pfs obj size offset done front piece sized
    (one balanced (reached_less es (offset + length front) (offset + length all) (omega (arith, length-append front piece, ap length is)) reached))
    (other balanced (reached_less es (offset + done + length piece) (offset + length all)
    (omega (arith, length-append front piece, ap length is, sized)) reached)))
  where
    reached_less : (es : List Element) (end end' : ℕ) → end ≤ end' → IsReached es end' → IsReached es end
    reached_less es end end' less (inl near) = inl (omega (arith, less, near))
    reached_less es end end' less (inr all) = inr all

    joined : (C : Content) (pfs obj size offset done : ℕ) (front piece : List ℕ) → length front ≡ done → AreBytesFrom C pfs obj size offset front
        → AreBytesFrom C pfs obj size (offset + done) piece → AreBytesFrom C pfs obj size offset (front ++ piece)
    joined C pfs obj size offset done front piece sized one other = record {
      each = λ i below. elim (cases_lt i done) [
        | inl less ↦
            let in_front : i < length front = omega (arith, less, sized) in
            subst (λ (b : ℕ). IsFileByte C pfs obj size (offset + i) b) (sym (get_or_append_left front piece 0 i in_front)) (one.each i in_front)
        | inr past ↦
            let k : ℕ = i - done in
            let in_piece : k < length piece = omega (arith, below, past, sized, length-append front piece) in
            let place : offset + done + k ≡ offset + i = omega (arith, past) in
            let byte : slice_index (front ++ piece) i ≡ slice_index piece k = get_or-append_right front piece done i 0 sized past in
            subst (λ (x : ℕ). IsFileByte C pfs obj size x (slice_index (front ++ piece) i)) place
            (subst (λ (b : ℕ). IsFileByte C pfs obj size (offset + done + k) b) (sym byte) (other.each k in_piece))
      ];
    }

-- what is read is that of the file that the elements show
pub read_shown : (es : Option (List Element)) (xs : Option (List Extent)) (t pfs obj size offset asked : ℕ) (bytes : List ℕ)
    → IfSome es IsContent → length bytes ≡ min asked (size - offset) → OnBalanced es xs (AreBytesRead t pfs obj size offset bytes)
    → OnBalanced es xs (AreShown t pfs obj size offset asked bytes)
read_shown None xs t pfs obj size offset asked bytes content sized read = tt
read_shown (Some es) None t pfs obj size offset asked bytes content sized read = tt
read_shown (Some es) (Some xs) t pfs obj size offset asked bytes content sized read = λ balanced reached file are.
    bytes_of_file pfs obj size offset asked bytes file (Counts (fulls (es, xs)) t)
    (settled (full_elements es xs) t (own_keys-sorted (full_elements es xs) (full_sorted es xs content.rising))) sized (read balanced reached) are

-- what is known of balanced content that stayed
pub still_read : (now was : Option (List Element)) (xs before : Option (List Extent)) (P : Lists → Type 0) → now ≡ was → xs ≡ before
    → OnBalanced now xs P → OnBalanced was before P
still_read now was xs before P same stay known =
    subst (λ (o : Option (List Extent)). OnBalanced was o P) stay (subst (λ (o : Option (List Element)). OnBalanced o xs P) same known)
