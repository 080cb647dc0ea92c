-- Which bytes stand where pages are put back.
use Rattle.std.proofs.Common.{◌≡◌, ◌⊎◌, inl, inr, ⊎_elim, ℕ, ◌+◌, ◌-◌, ◌<◌, ◌≤◌, List}
use Rattle.std.proofs.Common.{[], ◌∷◌, ◌++◌, refl, sym, ap, subst, ◌∙◌, arith, length, get_or, slice_range}
use Rattle.std.proofs.lemmas.List.{ext_get_or}
use Rattle.std.proofs.lemmas.Bool.{cases_lt}
use Rattle.hm_types.specs.Offset.{byte_of}
use Rattle.hm_disk.specs.Crash.{MayLeave, Outside}
use Rattle.hm_disk.proofs.OverwriteLemmas.{get_or-overwritten_in, get_or-overwritten_out, length-overwritten}
use Rattle.hm_header.proofs.SliceLemmas.{length-slice, slice-byte}
use Rattle.hm_undo.specs.Range.{Fit, OldPage, old_places_of, put_back}

pub length-put_back : (image : List ℕ) (olds : List OldPage) → Fit (length image) olds → length (put_back image olds) ≡ length image
length-put_back image [] fit = refl
length-put_back image (old ∷ olds) fit =
    let more = length-put_back image olds fit.1 in
    length-overwritten (put_back image olds) (byte_of old.at) old.bytes (omega (arith, fit.0, more)) ∙ more

-- each byte outside the pages is as before
pub put_back-outside : (image : List ℕ) (olds : List OldPage) → Fit (length image) olds → (byte : ℕ) → byte < length image
    → Outside (old_places_of olds) byte → get_or (put_back image olds) byte 0 ≡ get_or image byte 0
put_back-outside image [] fit byte below outside = refl
put_back-outside image (old ∷ olds) fit byte below outside =
    let more = length-put_back image olds fit.1 in
    get_or-overwritten_out (put_back image olds) (byte_of old.at) old.bytes byte (omega (arith, fit.0, more)) (omega (arith, below, more)) outside.0
    ∙ put_back-outside image olds fit.1 byte below outside.1

pub put_back-leaves : (image : List ℕ) (olds : List OldPage) → Fit (length image) olds → MayLeave image (old_places_of olds) (put_back image olds)
put_back-leaves image olds fit = record { size = length-put_back image olds fit; same = put_back-outside image olds fit }

-- a byte of a page is that of the first page with it
pub put_back-first : (image : List ℕ) (before : List OldPage) (old : OldPage) (after : List OldPage)
    → Fit (length image) (before ++ old ∷ after) → (byte : ℕ) → byte_of old.at ≤ byte → byte < byte_of old.at + length old.bytes
    → Outside (old_places_of before) byte
    → get_or (put_back image (before ++ old ∷ after)) byte 0 ≡ get_or old.bytes (byte - byte_of old.at) 0
put_back-first image [] old after fit byte from to outside =
    let more = length-put_back image after fit.1 in
    get_or-overwritten_in (put_back image after) (byte_of old.at) old.bytes byte (omega (arith, fit.0, more)) from to
put_back-first image (one ∷ before) old after fit byte from to outside =
    let more = length-put_back image (before ++ old ∷ after) fit.1 in
    get_or-overwritten_out (put_back image (before ++ old ∷ after)) (byte_of one.at) one.bytes byte (omega (arith, fit.0, more))
    (omega (arith, to, more, inside before fit.1)) outside.0
    ∙ put_back-first image before old after fit.1 byte from to outside.1
  where
    inside : (before : List OldPage) → Fit (length image) (before ++ old ∷ after) → byte_of old.at + length old.bytes ≤ length image
    inside [] fit = fit.0
    inside (one ∷ before) fit = inside before fit.1

-- so a page stands whole that no page before it meets
pub put_back-page : (image : List ℕ) (before : List OldPage) (old : OldPage) (after : List OldPage)
    → Fit (length image) (before ++ old ∷ after)
    → ((byte : ℕ) → byte_of old.at ≤ byte → byte < byte_of old.at + length old.bytes → Outside (old_places_of before) byte)
    → slice_range (put_back image (before ++ old ∷ after)) (byte_of old.at) (byte_of old.at + length old.bytes) ≡ old.bytes
put_back-page image before old after fit apart =
    ext_get_or 0 (slice_range back place (place + length old.bytes)) old.bytes sized (λ i below. each i (omega (arith, below, sized)))
  where
    back : List ℕ
    back = put_back image (before ++ old ∷ after)

    place : ℕ
    place = byte_of old.at

    inside : (before : List OldPage) → Fit (length image) (before ++ old ∷ after) → byte_of old.at + length old.bytes ≤ length image
    inside [] fit = fit.0
    inside (one ∷ before) fit = inside before fit.1

    sized : length (slice_range back place (place + length old.bytes)) ≡ length old.bytes
    sized =
        length-slice back place (place + length old.bytes) (omega (arith, inside before fit, length-put_back image (before ++ old ∷ after) fit)) ∙ omega arith

    each : (i : ℕ) → i < length old.bytes → get_or (slice_range back place (place + length old.bytes)) i 0 ≡ get_or old.bytes i 0
    each i below =
        let at : place + i - place ≡ i = omega arith in
        slice-byte back place (place + length old.bytes) i (omega (arith, below))
        ∙ (put_back-first image before old after fit (place + i) (omega arith) (omega (arith, below)) (apart (place + i) (omega arith) (omega (arith, below)))
        ∙ ap (λ (k : ℕ). get_or old.bytes k 0) at)

-- What stands in the pages before they are put back changes nothing.
pub same-byte : (a b : List ℕ) (olds : List OldPage) → length b ≡ length a → Fit (length a) olds → (byte : ℕ) → byte < length a
    → (Outside (old_places_of olds) byte → get_or b byte 0 ≡ get_or a byte 0)
    → get_or (put_back b olds) byte 0 ≡ get_or (put_back a olds) byte 0
same-byte a b [] size fit byte below same = same tt
same-byte a b (old ∷ olds) size fit byte below same =
    let more = λ (away : (byte < byte_of old.at) ⊎ (byte_of old.at + length old.bytes ≤ byte)).
    same-byte a b olds size fit.1 byte below (λ outside. same (away, outside)) in
    ⊎_elim (λ low. out (inl low) (more (inl low)))
    (λ from. ⊎_elim (λ to. inside from to) (λ above. out (inr above) (more (inr above))) (cases_lt byte (byte_of old.at + length old.bytes)))
    (cases_lt byte (byte_of old.at))
  where
    fits : Fit (length b) olds
    fits = subst (λ (n : ℕ). Fit n olds) (sym size) fit.1

    left : length (put_back a olds) ≡ length a
    left = length-put_back a olds fit.1

    right : length (put_back b olds) ≡ length b
    right = length-put_back b olds fits

    out : (byte < byte_of old.at) ⊎ (byte_of old.at + length old.bytes ≤ byte)
        → get_or (put_back b olds) byte 0 ≡ get_or (put_back a olds) byte 0
        → get_or (put_back b (old ∷ olds)) byte 0 ≡ get_or (put_back a (old ∷ olds)) byte 0
    out away more =
        get_or-overwritten_out (put_back b olds) (byte_of old.at) old.bytes byte (omega (arith, fit.0, right, size)) (omega (arith, below, right, size)) away
        ∙ (more
        ∙ sym (get_or-overwritten_out (put_back a olds) (byte_of old.at) old.bytes byte (omega (arith, fit.0, left)) (omega (arith, below, left)) away))

    inside : byte_of old.at ≤ byte → byte < byte_of old.at + length old.bytes
        → get_or (put_back b (old ∷ olds)) byte 0 ≡ get_or (put_back a (old ∷ olds)) byte 0
    inside from to =
        get_or-overwritten_in (put_back b olds) (byte_of old.at) old.bytes byte (omega (arith, fit.0, right, size)) from to
        ∙ sym (get_or-overwritten_in (put_back a olds) (byte_of old.at) old.bytes byte (omega (arith, fit.0, left)) from to)

pub put_back-hides : (a b : List ℕ) (olds : List OldPage) → Fit (length a) olds → MayLeave a (old_places_of olds) b → put_back b olds ≡ put_back a olds
put_back-hides a b olds fit change =
    ext_get_or 0 (put_back b olds) (put_back a olds) (right ∙ (change.size ∙ sym left))
    (λ byte below. let inside : byte < length a = omega (arith, below, right, change.size) in
    same-byte a b olds change.size fit byte inside (λ outside. change.same byte inside outside))
  where
    left : length (put_back a olds) ≡ length a
    left = length-put_back a olds fit

    right : length (put_back b olds) ≡ length b
    right = length-put_back b olds (subst (λ (n : ℕ). Fit n olds) (sym change.size) fit)
