-- The bytes of written pages.
use Rattle.std.proofs.Common.{◌≡◌, ℕ, ◌+◌, ◌<◌, ◌≤◌, ◌/◌, ◌%◌, List, Option, Some, None, Box, sym, ◌∙◌, ◌⊎◌, inl, inr, ⊎_elim, ◌-◌, take, slice_range}
use Rattle.std.proofs.Common.{ap, arith, length, get_or, replicate}
use Rattle.std.proofs.lemmas.List.{get_or-replicate, places}
use Rattle.std.proofs.lemmas.Bool.{cases_lt, cases_eq}
use Rattle.std.specs.declared.alloc.Global.{Global}
use Rattle.hm_disk.specs.Disk.{overwritten}
use Rattle.hm_disk_forms.specs.Pages.{byte_in, Overwrites}
use Rattle.hm_disk.proofs.OverwriteLemmas.{get_or-overwritten_in, get_or-overwritten_out}

-- a page of zeros reads as no page
pub byte_in-zeros : (before after : Option (Box (List ℕ) Global)) (page : Box (List ℕ) Global) (at : ℕ)
    → before ≡ None → after ≡ Some page → page.value ≡ replicate 4096 0 → at < 4096 → byte_in after at ≡ byte_in before at
byte_in-zeros before after page at absent made zeros within =
    ap (λ p. byte_in p at) made ∙ (ap (λ xs. get_or xs at 0) zeros ∙ (get_or-replicate 4096 at 0 0 within ∙ sym (ap (λ p. byte_in p at) absent)))

-- one piece more of what is written
pub Overwrites-more : (before middle after : ℕ → ℕ) (place done count : ℕ) (bytes : List ℕ) → done + count ≤ length bytes
    → Overwrites before middle place (take done bytes) → Overwrites middle after (place + done) (slice_range bytes done (done + count))
    → Overwrites before after place (take (done + count) bytes)
Overwrites-more before middle after place done count bytes within first then = record {
  inside = λ i below. ⊎_elim (earlier i below) (piece i below) (cases_lt i done);
  outside = λ byte out. then.outside byte (apart byte out.0, tt) ∙ first.outside byte (wider byte out.0, tt);
}
  where
    whole : length (take (done + count) bytes) ≡ done + count
    whole = grind (arith, places)

    part : length (take done bytes) ≡ done
    part = grind (arith, places)

    range : length (slice_range bytes done (done + count)) ≡ count
    range = grind (arith, places)

    earlier : (i : ℕ) → i < length (take (done + count) bytes) → i < done → after (place + i) ≡ get_or (take (done + count) bytes) i 0
    earlier i below early = then.outside (place + i) (inl (omega arith), tt) ∙ (first.inside i (omega (arith, part)) ∙ grind (arith, places))

    piece : (i : ℕ) → i < length (take (done + count) bytes) → done ≤ i → after (place + i) ≡ get_or (take (done + count) bytes) i 0
    piece i below late =
        let at : place + i ≡ place + done + (i - done) = omega arith in
        ap after at ∙ (then.inside (i - done) (omega (arith, whole, range)) ∙ grind (arith, places))

    apart : (byte : ℕ) → (byte < place) ⊎ (place + length (take (done + count) bytes) ≤ byte)
        → (byte < place + done) ⊎ (place + done + length (slice_range bytes done (done + count)) ≤ byte)
    apart byte (inl low) = inl (omega arith)
    apart byte (inr high) = inr (omega (arith, whole, range))

    wider : (byte : ℕ) → (byte < place) ⊎ (place + length (take (done + count) bytes) ≤ byte) → (byte < place) ⊎ (place + length (take done bytes) ≤ byte)
    wider byte (inl low) = inl low
    wider byte (inr high) = inr (omega (arith, whole, part))

-- bytes that are written into one page
module _ (before after : ℕ → Option (Box (List ℕ) Global)) (place : ℕ) (bytes : List ℕ) (page changed : Box (List ℕ) Global)
    (was : before (place / 4096) ≡ Some page) (now : after (place / 4096) ≡ Some changed)
    (others : (number : ℕ) → (place / 4096 ≡ number → ⊥) → after number ≡ before number)
    (sized : length page.value ≡ 4096) (within : place % 4096 + length bytes ≤ 4096)
    (is : changed.value ≡ overwritten page.value (place % 4096) bytes) where
  same : (byte : ℕ) → (byte < place) ⊎ (place + length bytes ≤ byte) → place / 4096 ≡ byte / 4096
      → byte_in (after (byte / 4096)) (byte % 4096) ≡ byte_in (before (byte / 4096)) (byte % 4096)
  same byte out here =
      ap (λ p. byte_in p (byte % 4096)) (ap after (sym here) ∙ now)
      ∙ (ap (λ xs. get_or xs (byte % 4096) 0) is
      ∙ (get_or-overwritten_out page.value (place % 4096) bytes (byte % 4096) (omega (arith, sized)) (omega (arith, sized)) (apart out)
      ∙ sym (ap (λ p. byte_in p (byte % 4096)) (ap before (sym here) ∙ was))))
    where
      apart : (byte < place) ⊎ (place + length bytes ≤ byte) → (byte % 4096 < place % 4096) ⊎ (place % 4096 + length bytes ≤ byte % 4096)
      apart (inl low) = inl (omega arith)
      apart (inr high) = inr (omega arith)

  pub Overwrites-page : Overwrites (λ byte. byte_in (before (byte / 4096)) (byte % 4096)) (λ byte. byte_in (after (byte / 4096)) (byte % 4096)) place bytes
  Overwrites-page = record {
    inside = λ i below.
        let number : (place + i) / 4096 ≡ place / 4096 = omega arith in
        let at : (place + i) % 4096 ≡ place % 4096 + i = omega arith in
        let back : place % 4096 + i - place % 4096 ≡ i = omega arith in
        ap (λ n. byte_in (after n) ((place + i) % 4096)) number
        ∙ (ap (λ p. byte_in p ((place + i) % 4096)) now
        ∙ (ap (λ xs. get_or xs ((place + i) % 4096) 0) is
        ∙ (ap (λ n. get_or (overwritten page.value (place % 4096) bytes) n 0) at
        ∙ (get_or-overwritten_in page.value (place % 4096) bytes (place % 4096 + i) (omega (arith, sized)) (omega arith) (omega arith)
        ∙ ap (λ n. get_or bytes n 0) back))));
    outside = λ byte out. ⊎_elim (λ here. same byte out.0 here) (λ elsewhere. ap (λ p. byte_in p (byte % 4096)) (others (byte / 4096) elsewhere))
        (cases_eq (place / 4096) (byte / 4096));
  }
