-- The bytes that a call reads of a file.
use Rattle.std.proofs.Common.{◌≡◌, ℕ, ◌-◌, ◌^◌, ◌<◌, ◌≤◌, List, [], ◌++◌, drop, length, min, take, sym, ap, ◌∙◌, inl, inr, arith, rules}
use Rattle.std.specs.Prelude.{◌⊎◌, Option}
use Rattle.std.proofs.lemmas.Bool.{cases_lt}
use Rattle.std.proofs.Math.Seq.{take-append_seam}
use Rattle.std.proofs.lemmas.List.{length-drop, length-take, take_all, take_min}
use Rattle.hm_types.specs.declared.limits.TheConstants.{MOST_FILE_BYTES}
use Rattle.hm_key.specs.Counts.{Counts}
use Rattle.hm_key.specs.Extents.{Extent}
use Rattle.hm_key.specs.declared.element.Element.{Element}
use Rattle.hm_cursor.specs.Told.{Lists, OnBalanced, fulls}
use Rattle.hm_model.specs.Bytes.{read_at}
use Rattle.hm_records.specs.View.{AreFileBytes}
use Rattle.hm_dirs.specs.declared.position.Stand.{Stand}
use Rattle.hm_files.specs.Bytes.{AreShown}
use Rattle.hm_calls.specs.Bytes.{AreAsked}
use Rattle.hm_calls.proofs.StageLemmas.{on_balanced}

none_of : (bytes : List ℕ) → length bytes ≡ 0 → bytes ≡ []
none_of bytes none = sym (take_all 0 bytes (omega (arith, none))) ∙ nothing bytes where
  nothing : (xs : List ℕ) → take 0 xs ≡ []
  nothing xs = search rules

-- the front of a list that a buffer fills
pub front_is : (len : ℕ) (buffer rest : List ℕ) → length buffer ≡ len → take len (buffer ++ rest) ≡ buffer
front_is len buffer rest long = ap (λ (n : ℕ). take n (buffer ++ rest)) (sym long) ∙ take-append_seam buffer rest

-- a buffer as long as what the file has from the offset on, at most so much, is filled with what was asked for
pub asked_bytes : (es : Option (List Element)) (xs : Option (List Extent)) (file : Stand) (size offset count n : ℕ) (buffer got : List ℕ) → got ≡ buffer
    → length buffer ≡ min (size - offset) count → n ≡ min (length buffer) (size - offset) → min offset size ≤ MOST_FILE_BYTES → count < 2 ^ 32
    → OnBalanced es xs (AreShown file.as_of.0 file.at.pfs.0 file.at.object.0 size offset (length buffer) (take n buffer))
    → OnBalanced es xs (AreAsked file size offset count got)
asked_bytes es xs file size offset count n buffer got same long all low few told =
    on_balanced es xs (AreShown file.as_of.0 file.at.pfs.0 file.at.object.0 size offset (length buffer) (take n buffer)) (AreAsked file size offset count got)
    (λ lists shown content are. by_place lists shown content are (cases_lt offset size)) told
  where
    whole : take n buffer ≡ buffer
    whole = take_all n buffer (omega (arith, all, long))

    rest_long : (content : List ℕ) → length content ≡ size → length (drop offset content) ≡ size - offset
    rest_long content sized = omega (arith, length-drop offset content, sized)

    as_min : (content : List ℕ) → length content ≡ size → length buffer ≡ min count (length (drop offset content))
    as_min content sized = omega (arith, long, rest_long content sized)

    by_place : (lists : Lists) → AreShown file.as_of.0 file.at.pfs.0 file.at.object.0 size offset (length buffer) (take n buffer) lists
        → (content : List ℕ) → AreFileBytes (Counts (fulls lists) file.as_of.0) file.at.pfs.0 file.at.object.0 size content
        → (offset < size) ⊎ (size ≤ offset) → got ≡ read_at offset count content
    by_place lists shown content are (inl inside) =
        let sized : length (take n buffer) ≡ length buffer = ap length whole in
        let read : take n buffer ≡ take (length buffer) (drop offset content) =
        shown (inl (omega (arith, sized, long, inside, low, few))) content are in
        same ∙ sym whole ∙ read
        ∙ ap (λ (k : ℕ). take k (drop offset content)) (as_min content are.sized)
        ∙ take_min count (drop offset content)
    by_place lists shown content are (inr past) =
        same ∙ none_of buffer (omega (arith, long, past))
        ∙ sym (none_of (take count (drop offset content))
        (omega (arith, length-take count (drop offset content), rest_long content are.sized, past)))
