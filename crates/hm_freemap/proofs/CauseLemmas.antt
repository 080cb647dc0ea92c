-- Why calls of a freemap fail, from why the calls of its pages do.
use Rattle.std.proofs.Common.{◌≡◌, ℕ, ◌-◌, ◌≤◌, inr, List, refl, sym, ap, subst, ◌∙◌, arith, Option, Some, None, Result, Ok, Err}
use Rattle.std.specs.Prelude.{IfSome}
use Rattle.hm_types.specs.Faults.{HasStoreCause, IsCaused, IsUndamaged}
use Rattle.hm_types.specs.declared.fault.Fault.{Fault}
use Rattle.hm_types.specs.declared.fault.Fault.TheVariants.{Media, Damaged, NoMemory}
use Rattle.hm_types.specs.declared.damage.TheConstants.{BAD_FREEMAP}
use Rattle.hm_types.specs.declared.zone.TheConstants.{TREE_ZONE, SMALL_ZONE}
use Rattle.hm_fields.specs.Pages.{PageMap, page_in}
use Rattle.hm_freemap.specs.Admit.{IsLookedAt}
use Rattle.hm_freemap.specs.Change.{MayHold}
use Rattle.hm_freemap.specs.Entry.{entry_in}
use Rattle.hm_freemap.specs.Places.{page_of, place_of}
use Rattle.hm_freemap.specs.declared.entry.Entry.{Entry}
use Rattle.hm_freemap.specs.Faults.{HasExtentCause, HasFreemapCause, IsExtentDamage, IsFreemapDamage, IsGoodBlock}
use Rattle.hm_freemap.specs.Stand.{Maps, WhereTold, append_of, entry_of}
use Rattle.hm_freemap.proofs.ToldLemmas.{where_all, where_map}

caused_later : (old mid new : ℕ) (fault : Fault) → old ≤ mid → IsCaused mid new fault → IsCaused old new fault
caused_later old mid new (Media before after) grows cause = record { begin = omega (arith, grows, cause.begin); rose = cause.rose; end = cause.end }
caused_later old mid new (Damaged at kind) grows cause = tt
caused_later old mid new NoMemory grows cause = tt

undamaged : (bigblocks : ℕ) (append : List ℕ) (Looked : ℕ → Type 0) (maps : Maps) (fault : Fault) → IsUndamaged fault
    → IsFreemapDamage bigblocks append Looked maps fault
undamaged bigblocks append Looked maps (Media before after) none = tt
undamaged bigblocks append Looked maps (Damaged at kind) none = absurd none
undamaged bigblocks append Looked maps NoMemory none = tt

-- a call of the pages, after others that only read
pub cause_later : {T : Type 0} (bigblocks : ℕ) (append : List ℕ) (Looked : ℕ → Type 0) (c f u told : Option PageMap) (old mid new : ℕ) (result : Result T Fault)
    → old ≤ mid → told ≡ u → HasStoreCause told mid new result → HasFreemapCause bigblocks append Looked c f u old new result
cause_later bigblocks append Looked c f u told old mid new (Ok x) grows same cause = record {
  counted = record { never_falls = omega (arith, grows, cause.counted.never_falls); caused = tt };
  damage = where_all c f u (λ maps. Unit {0}) (λ maps. tt);
}
cause_later bigblocks append Looked c f u told old mid new (Err fault) grows same cause = record {
  counted = record { never_falls = omega (arith, grows, cause.counted.never_falls); caused = caused_later old mid new fault grows cause.counted.caused };
  damage = by_told c f u (subst (λ (o : Option PageMap). IfSome o (λ _. IsUndamaged fault)) same cause.undamaged);
} where
  by_told : (a b o : Option PageMap) → IfSome o (λ _. IsUndamaged fault) → WhereTold a b o (λ maps. IsFreemapDamage bigblocks append Looked maps fault)
  by_told None b o none = tt
  by_told (Some x) None o none = tt
  by_told (Some x) (Some y) None none = tt
  by_told (Some x) (Some y) (Some z) none = undamaged bigblocks append Looked (record { committed = x; frozen = y; current = z }) fault none

-- a fault that is handed on, which looked at one big-block
pub cause_on : {T S : Type 0} (bigblocks : ℕ) (append : List ℕ) (block block' : ℕ) (c f u : Option PageMap) (old new : ℕ)
    (fault : Fault) (result : Result S Fault)
    → block ≡ block' → result ≡ Err fault → HasFreemapCause {T = T} bigblocks append (λ one. one ≡ block) c f u old new (Err fault)
    → HasFreemapCause bigblocks append (λ one. one ≡ block') c f u old new result
cause_on bigblocks append block block' c f u old new fault result at is cause = rw (is, ← at) (record {
  counted = record { never_falls = cause.counted.never_falls; caused = cause.counted.caused };
  damage = cause.damage;
})

-- a call that succeeded
pub cause_ok : {T : Type 0} (bigblocks : ℕ) (append : List ℕ) (Looked : ℕ → Type 0) (c f u : Option PageMap) (old new : ℕ) (x : T) → old ≤ new
    → HasFreemapCause bigblocks append Looked c f u old new (Ok x)
cause_ok bigblocks append Looked c f u old new x grows = record {
  counted = record { never_falls = grows; caused = tt };
  damage = where_all c f u (λ maps. Unit {0}) (λ maps. tt);
}

-- a fault that is handed on by a call that looked at more
pub cause_wide : {T S : Type 0} (bigblocks : ℕ) (append : List ℕ) (Looked Looked' : ℕ → Type 0) (c f u : Option PageMap) (old new : ℕ)
    (fault : Fault) (result : Result S Fault)
    → ((block : ℕ) → Looked block → Looked' block) → result ≡ Err fault → HasFreemapCause {T = T} bigblocks append Looked c f u old new (Err fault)
    → HasFreemapCause bigblocks append Looked' c f u old new result
cause_wide bigblocks append Looked Looked' c f u old new fault result widen is cause = rw is (record {
  counted = record { never_falls = cause.counted.never_falls; caused = cause.counted.caused };
  damage = where_map c f u (λ maps. IsFreemapDamage bigblocks append Looked maps fault) (λ maps. IsFreemapDamage bigblocks append Looked' maps fault)
      (λ maps damage. widened maps fault damage) cause.damage;
}) where
  widened : (maps : Maps) (one : Fault) → IsFreemapDamage bigblocks append Looked maps one → IsFreemapDamage bigblocks append Looked' maps one
  widened maps (Media before after) damage = tt
  widened maps (Damaged at kind) damage = record {
    block = damage.block;
    looked = widen damage.block damage.looked;
    place = damage.place;
    number = damage.number;
    bad = damage.bad;
  }
  widened maps NoMemory damage = tt

-- the append big-block of a zone is one that is looked at
pub looked_append : (bigblocks : ℕ) (append : List ℕ) (zone block : ℕ) → TREE_ZONE ≤ zone → zone ≤ SMALL_ZONE → block ≡ append_of append zone
    → IsLookedAt bigblocks append block
looked_append bigblocks append zone block low high one = inr (zone - TREE_ZONE, omega (arith, low, high), sym one)

-- damage of the append big-block of a zone that belongs to another one
pub bad_zone : {T : Type 0} (bigblocks : ℕ) (append : List ℕ) (zone block : ℕ) (page : List ℕ) (c f u : Option PageMap) (old new : ℕ) (fault : Fault)
    → TREE_ZONE ≤ zone → zone ≤ SMALL_ZONE → block ≡ append_of append zone
    → IfSome u (λ map. map (page_of block) ≡ Some page) → ((entry_in page (place_of block)).zone ≡ zone → ⊥)
    → fault ≡ Damaged (page_of block) BAD_FREEMAP → old ≤ new
    → HasFreemapCause {T = T} bigblocks append (IsLookedAt bigblocks append) c f u old new (Err fault)
bad_zone bigblocks append zone block page c f u old new fault low high one read other is grows = record {
  counted = record { never_falls = grows; caused = subst (IsCaused old new) (sym is) tt };
  damage = by_told c f u read;
} where
  by_told : (c f o : Option PageMap) → IfSome o (λ map. map (page_of block) ≡ Some page)
      → WhereTold c f o (λ maps. IsFreemapDamage bigblocks append (IsLookedAt bigblocks append) maps fault)
  by_told None f o read = tt
  by_told (Some c) None o read = tt
  by_told (Some c) (Some f) None read = tt
  by_told (Some c) (Some f) (Some map) read =
      let maps : Maps = record { committed = c; frozen = f; current = map } in
      let here : entry_of map block ≡ entry_in page (place_of block) = ap (λ (o : Option (List ℕ)). entry_in (page_in o) (place_of block)) read in
      subst (IsFreemapDamage bigblocks append (IsLookedAt bigblocks append) maps) (sym is) (record {
        block = block;
        looked = looked_append bigblocks append zone block low high one;
        place = refl;
        number = refl;
        bad = λ (good : IsGoodBlock bigblocks append maps block).
            other (ap (λ (e : Entry). e.zone) (sym here) ∙ good.zone (zone - TREE_ZONE) (omega (arith, low, high)) (sym one) ∙ omega (arith, low));
      })

-- what a call that looked at one big-block says of an extent in it
pub extent_cause : {T : Type 0} (bigblocks : ℕ) (append : List ℕ) (block size : ℕ) (c f u : Option PageMap) (old new : ℕ) (result : Result T Fault)
    → HasFreemapCause bigblocks append (λ one. one ≡ block) c f u old new result → HasExtentCause bigblocks append block size c f u old new result
extent_cause bigblocks append block size c f u old new (Ok x) cause = record {
  counted = cause.counted;
  damage = where_all c f u (λ maps. Unit {0}) (λ maps. tt);
}
extent_cause bigblocks append block size c f u old new (Err fault) cause = record {
  counted = cause.counted;
  damage = where_map c f u (λ maps. IsFreemapDamage bigblocks append (λ one. one ≡ block) maps fault)
      (λ maps. IsExtentDamage bigblocks append block size maps fault)
      (λ maps damage. here maps fault damage) cause.damage;
} where
  here : (maps : Maps) (one : Fault) → IsFreemapDamage bigblocks append (λ one. one ≡ block) maps one → IsExtentDamage bigblocks append block size maps one
  here maps (Media before after) damage = tt
  here maps (Damaged at kind) damage = record {
    place = damage.place ∙ ap page_of damage.looked;
    number = damage.number;
    bad = λ good holds. damage.bad (subst (IsGoodBlock bigblocks append maps) (sym damage.looked) good);
  }
  here maps NoMemory damage = tt

-- a fault of a call on an extent that is handed on
pub extent_on : {T S : Type 0} (bigblocks : ℕ) (append : List ℕ) (block block' size size' : ℕ) (c f u : Option PageMap) (old new : ℕ)
    (fault : Fault) (result : Result S Fault)
    → block ≡ block' → size ≡ size' → result ≡ Err fault → HasExtentCause {T = T} bigblocks append block size c f u old new (Err fault)
    → HasExtentCause bigblocks append block' size' c f u old new result
extent_on bigblocks append block block' size size' c f u old new fault result at long is cause = rw (is, ← at, ← long) (record {
  counted = record { never_falls = cause.counted.never_falls; caused = cause.counted.caused };
  damage = cause.damage;
})

-- damage of an entry that tells more free bytes than an extent leaves
pub too_free : {T : Type 0} (bigblocks : ℕ) (append : List ℕ) (block size : ℕ) (page : List ℕ) (c f u : Option PageMap) (old new : ℕ) (fault : Fault)
    → IfSome u (λ map. map (page_of block) ≡ Some page) → (MayHold size (entry_in page (place_of block)) → ⊥)
    → fault ≡ Damaged (page_of block) BAD_FREEMAP → old ≤ new → HasExtentCause {T = T} bigblocks append block size c f u old new (Err fault)
too_free bigblocks append block size page c f u old new fault read none is grows = record {
  counted = record { never_falls = grows; caused = subst (IsCaused old new) (sym is) tt };
  damage = by_told c f u read;
} where
  by_told : (c f o : Option PageMap) → IfSome o (λ map. map (page_of block) ≡ Some page)
      → WhereTold c f o (λ maps. IsExtentDamage bigblocks append block size maps fault)
  by_told None f o read = tt
  by_told (Some c) None o read = tt
  by_told (Some c) (Some f) None read = tt
  by_told (Some c) (Some f) (Some map) read =
      let maps : Maps = record { committed = c; frozen = f; current = map } in
      let here : entry_of map block ≡ entry_in page (place_of block) = ap (λ (o : Option (List ℕ)). entry_in (page_in o) (place_of block)) read in
      subst (IsExtentDamage bigblocks append block size maps) (sym is) (record {
        place = refl;
        number = refl;
        bad = λ (good : IsGoodBlock bigblocks append maps block) holds. none (subst (MayHold size) here holds);
      })
