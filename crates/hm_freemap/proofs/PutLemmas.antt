-- What a page that is put makes of the entries of a map.
use Rattle.std.proofs.Common.{◌≡◌, ◌≢◌, Bool, true, false, ℕ, ◌+◌, ◌≤◌, ⊎_elim, List, refl, sym, ap, subst, ◌∙◌, nat_eq, eqb-true, eq-eqb, Option}
use Rattle.std.proofs.Common.{Some, None, Result, Ok, Err, arith}
use Rattle.std.proofs.Common.{◌-◌, ◌<◌, drop, length, length-take, length-drop}
use Rattle.std.specs.Prelude.{slice_range}
use Rattle.std.proofs.lemmas.Bool.{cases_eq}
use Rattle.std.specs.Prelude.{IfSome, OnOk}
use Rattle.hm_types.specs.Told.{BothTell}
use Rattle.hm_types.specs.declared.fault.Fault.{Fault}
use Rattle.hm_fields.specs.Fields.{Apart, get}
use Rattle.hm_fields.specs.Pages.{PageMap, HasPut, page_in}
use Rattle.hm_freemap.specs.Entry.{entry_in}
use Rattle.hm_freemap.specs.Places.{page_of, place_of}
use Rattle.hm_freemap.specs.Stand.{EntryPut, entry_page, entry_part}
use Rattle.hm_freemap.specs.declared.entry.Entry.{Entry}
use Rattle.hm_freemap.proofs.PlaceLemmas.{places_apart}
use Rattle.hm_freemap.proofs.SpellLemmas.{get_part}
use Rattle.hm_fields.proofs.ByteLemmas.{same_page}

pub same_test : (x : ℕ) → nat_eq x x ≡ true
same_test x = eq-eqb x x refl

pub fails : (b : Bool) → (b ≡ true → ⊥) → b ≡ false
fails true refuted = absurd (refuted refl)
fails false _ = refl

pub other_test : (x y : ℕ) → x ≢ y → nat_eq x y ≡ false
other_test x y other = fails (nat_eq x y) (λ is. other (eqb-true x y is))

module _ (at : ℕ) (bytes : List ℕ) (old new : PageMap) (put : HasPut at bytes old new) where
  pub put_at : new at ≡ Some bytes
  put_at = put at ∙ rw (same_test at) refl

  pub put_other : (x : ℕ) → x ≢ at → new x ≡ old x
  put_other x other = put x ∙ rw (other_test x at other) refl

-- a part of a page is what its bytes are
same_part : (p q : List ℕ) (at n : ℕ) → length p ≡ length q → ((k : ℕ) → k < n → get p (at + k) 1 ≡ get q (at + k) 1)
    → slice_range p at (at + n) ≡ slice_range q at (at + n)
same_part p q at n sized each =
    let part : List ℕ → List ℕ = λ page. slice_range page at (at + n) in
    let long : (page : List ℕ) → length (part page) ≤ n = λ page. omega (arith, length-take (at + n - at) (drop at page)) in
    let same : length (part p) ≡ length (part q) = simp (length-take, length-drop) (omega (arith, sized)) in
    same_page (part p) (part q) same
    (λ k low. let few : k < n = omega (arith, low, long p) in
    sym (get_part p (part p) at n k 1 refl (omega (arith, few))) ∙ (each k few ∙ get_part q (part q) at n k 1 refl (omega (arith, few))))

-- an entry is what its three fields are
pub same_entry : (p q : List ℕ) (at : ℕ) → get p at 4 ≡ get q at 4 → get p (at + 4) 4 ≡ get q (at + 4) 4 → get p (at + 8) 4 ≡ get q (at + 8) 4
    → entry_in p at ≡ entry_in q at
unfolding entry_in
same_entry p q at zone append free = rw (zone, append, free) refl

module _ (block : ℕ) (entry : Entry) (was is : List ℕ) (old new : PageMap)
    (read : old (page_of block) ≡ Some was)
    (put : HasPut (page_of block) is old new)
    (value : entry_in is (place_of block) ≡ entry)
    (zero : get is (place_of block + 12) 4 ≡ 0)
    (others : (at width : ℕ) → Apart (place_of block) 16 at width → get is at width ≡ get was at width)
    (sized : length is ≡ length was) where
  here : entry_page new block ≡ is
  here = ap page_in (put_at (page_of block) is old new put)

  -- a field of another entry
  field : (other k size : ℕ) → other ≢ block → k + size ≤ 16 → get (entry_page new other) (place_of other + k) size ≡ get (entry_page old other)
      (place_of other + k) size
  field other k size apart within = ⊎_elim
      (λ (same : page_of other ≡ page_of block).
      let now : entry_page new other ≡ is = ap page_in (ap new same ∙ put_at (page_of block) is old new put) in
      let before : entry_page old other ≡ was = ap page_in (ap old same ∙ read) in
      rw (now, before) (others (place_of other + k) size (places_apart block other k size (λ e. apart (sym e)) (sym same) within)))
      (λ elsewhere. ap (λ (o : Option (List ℕ)). get (page_in o) (place_of other + k) size)
      (put_other (page_of block) is old new put (page_of other) elsewhere))
      (cases_eq (page_of other) (page_of block))

  first : (other : ℕ) → other ≢ block → get (entry_page new other) (place_of other) 4 ≡ get (entry_page old other) (place_of other) 4
  first other apart =
      let at : place_of other + 0 ≡ place_of other = omega arith in
      subst (λ (place : ℕ). get (entry_page new other) place 4 ≡ get (entry_page old other) place 4) at (field other 0 4 apart (omega arith))

  -- and its bytes
  part : (other : ℕ) → other ≢ block → entry_part new other ≡ entry_part old other
  part other apart = ⊎_elim
      (λ (same : page_of other ≡ page_of block).
      let now : entry_page new other ≡ is = ap page_in (ap new same ∙ put_at (page_of block) is old new put) in
      let before : entry_page old other ≡ was = ap page_in (ap old same ∙ read) in
      rw (now, before) (same_part is was (place_of other) 16 sized
      (λ k low. others (place_of other + k) 1 (places_apart block other k 1 (λ e. apart (sym e)) (sym same) (omega (arith, low))))))
      (λ elsewhere. ap (λ (o : Option (List ℕ)). slice_range (page_in o) (place_of other) (place_of other + 16))
      (put_other (page_of block) is old new put (page_of other) elsewhere))
      (cases_eq (page_of other) (page_of block))

  pub entry_is_put : EntryPut block entry old new
  entry_is_put = record {
    put = rw here value;
    zero = rw here zero;
    others = λ other apart. same_entry (entry_page new other) (entry_page old other) (place_of other) (first other apart)
        (field other 4 4 apart (omega arith)) (field other 8 4 apart (omega arith));
    zeros = λ other apart. field other 12 4 apart (omega arith);
    bytes = part;
    pages = put_other (page_of block) is old new put;
  }

-- the same where the map is told, and the put succeeds
pub told_put : {T : Type 0} (block : ℕ) (entry : Entry) (was is : List ℕ) (old new : Option PageMap) (result : Result T Fault)
    → IfSome old (λ map. map (page_of block) ≡ Some was) → OnOk result (BothTell old new (HasPut (page_of block) is))
    → entry_in is (place_of block) ≡ entry → get is (place_of block + 12) 4 ≡ 0
    → ((at width : ℕ) → Apart (place_of block) 16 at width → get is at width ≡ get was at width)
    → length is ≡ length was → OnOk result (BothTell old new (EntryPut block entry))
told_put block entry was is old new (Err fault) read put value zero others sized = tt
told_put block entry was is None None (Ok x) read put value zero others sized = tt
told_put block entry was is None (Some new) (Ok x) read put value zero others sized = put
told_put block entry was is (Some old) None (Ok x) read put value zero others sized = put
told_put block entry was is (Some old) (Some new) (Ok x) read put value zero others sized =
    entry_is_put block entry was is old new read put value zero others sized
