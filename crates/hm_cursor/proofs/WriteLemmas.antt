-- What writing calls do to a store, over what it may tell.
use Rattle.std.proofs.Common.{◌≡◌, ◌≢◌, ℕ, ◌≤◌, List, true≢false, Option, Some, None, refl, ap, sym, ◌∙◌, inl, inr, arith, length, ◌<◌, subst}
use Rattle.std.specs.Prelude.{IfSome, IsNone, IsSomeAnd, OnOk, Result, Ok, Err, is_some, option_map, if◌then◌else◌, ◌==◌, Bool, true, false}
use Rattle.std.specs.List.{Contains}
use Rattle.hm_types.specs.Elements.{FullElement, Key}
use Rattle.hm_types.specs.Told.{BothTell}
use Rattle.hm_key.specs.Balance.{Balanced, IsBalanced, content_of, full_of}
use Rattle.hm_key.specs.Counts.{Subject, subject_of}
use Rattle.hm_key.specs.Elements.{element_at, element_key, inserted, with_delete, IsContent, closed_at}
use Rattle.hm_key.specs.Extents.{AreExtents, Extent, PlacesAt}
use Rattle.hm_key.specs.Key.{key_of}
use Rattle.hm_key.specs.Stores.{ElementsChange, ExtentsChange}
use Rattle.hm_key.specs.Versions.{Adds}
use Rattle.hm_key.specs.declared.base.Base.{Base}
use Rattle.hm_key.specs.declared.element.Element.{Element}
use Rattle.hm_key.proofs.AddLemmas.{balanced_added}
use Rattle.hm_records.proofs.MemberLemmas.{has_map, map_has}
use Rattle.hm_cursor.specs.Told.{fulls}
use Rattle.hm_cursor.specs.Write.{IsFresh, IsFreshFor, KeepPlaces, Rewrites, Writes, full_with, IsClosedIn}
use Rattle.hm_cursor.proofs.RewriteLemmas.{Shuts, rewrites_added, shuts_none}
use Rattle.hm_cursor.proofs.FullLemmas.{adds_placed, balanced_closed, closed_has, element_at-has, shuts_closed, element_at-changed}
use Rattle.hm_cursor.proofs.SearchLemmas.{one_at_key}

-- what became of balanced lists that are told: others, balanced too, with this change of the full elements
abbrev pub Became : (List FullElement → List FullElement → Type 0) → Option (List Element) → Option (List Extent) → Option (List Element)
    → Option (List Extent) → Type 0
Became Change es xs es' xs' =
    IfSome (content_of es xs) (λ was. IsBalanced was.0 was.1
    → IsSomeAnd (content_of es' xs') (λ now. IsBalanced now.0 now.1 × Change (fulls was) (fulls now)))

-- ---- one more element

-- an element with this base, whose payload stands at this place and is so long
abbrev placed_element : Base → ℕ → ℕ → Element
placed_element base at len = record { base = base; payload = at; len = len }

added : (base : Base) (bytes : List ℕ) (at : ℕ) (es mid_es new_es : Option (List Element)) (xs mid_xs new_xs : Option (List Extent)) → mid_es ≡ es
    → BothTell xs mid_xs (PlacesAt at bytes) → new_es ≡ option_map (inserted (placed_element base at (length bytes))) mid_es → new_xs ≡ mid_xs
    → IfSome mid_xs AreExtents → 1 ≤ length bytes → Became (Adds (full_with base bytes)) es xs new_es new_xs
added base bytes at None mid_es new_es xs mid_xs new_xs kept placed list others live some = tt
added base bytes at (Some es) mid_es new_es None mid_xs new_xs kept placed list others live some = tt
added base bytes at (Some es) mid_es new_es (Some xs) None new_xs kept placed list others live some = absurd placed
added base bytes at (Some es) mid_es new_es (Some xs) (Some ys) new_xs kept placed list others live some = λ balanced. rw (list, kept, others) (
  balanced_added (placed_element base at (length bytes)) es xs ys bytes placed some refl live balanced,
  adds_placed (placed_element base at (length bytes)) es xs ys bytes placed some refl live balanced,
)

pub inserted_ok : {S A E : Type 0} (elements_of : S → Option (List Element)) (mark_of : S → Key → ℕ) (extents_of : S → Option (List Extent)) (base : Base)
    (bytes : List ℕ) (at : ℕ) (Marked : (Key → ℕ) → (Key → ℕ) → Type 0) (old mid new : S) (result : Result A E)
    → ExtentsChange elements_of mark_of extents_of (PlacesAt at bytes) old mid
    → OnOk result (ElementsChange elements_of mark_of extents_of (inserted (placed_element base at (length bytes))) Marked mid new)
    → IfSome (extents_of mid) AreExtents → 1 ≤ length bytes → OnOk result (Writes elements_of extents_of (Adds (full_with base bytes)) old new)
inserted_ok elements_of mark_of extents_of base bytes at Marked old mid new (Err error) placed done live some = tt
inserted_ok elements_of mark_of extents_of base bytes at Marked old mid new (Ok value) placed done live some =
    added base bytes at (elements_of old) (elements_of mid) (elements_of new) (extents_of old) (extents_of mid) (extents_of new) placed.elements placed.extents
    done.elements done.extents live some

-- ---- a key that no element has

none_at : (at : Key) (es : List Element) → ((x : Element) → Contains es x → element_key x ≢ at) → IsNone (element_at at es)
none_at at es lacks = by_found (element_at at es) refl where
  by_found : (o : Option Element) → element_at at es ≡ o → IsNone o
  by_found None is = refl
  by_found (Some e) is = let found = element_at-has at e es is in absurd (lacks e found.0 found.1)

-- where all versions of a subject are older, none has a key
older_lacks : (at : Key) (es : List Element) (xs : List Extent) → IsFreshFor (subject_of at) at.create (fulls (es, xs)) → (x : Element) → Contains es x
    → element_key x ≢ at
older_lacks at es xs fresh x has same =
    let made = fresh.made (full_of xs x) (has_map (full_of xs) es x has) (ap subject_of same) in
    omega (arith, made, ap (λ (k : Key). k.create) same)

pub fresh_lacks : (at : Key) (es : Option (List Element)) (xs : Option (List Extent)) → is_some xs ≡ is_some es → IsFresh es xs (subject_of at) at.create
    → IfSome es (λ list. IsNone (element_at at list))
fresh_lacks at None xs together fresh = tt
fresh_lacks at (Some es) None together fresh = absurd (true≢false (sym together))
fresh_lacks at (Some es) (Some xs) together fresh = none_at at es (older_lacks at es xs fresh)

-- ---- the element at a key is closed

-- an open element stands at a key
abbrev pub IsOpenAt : Key → List Element → Type 0
IsOpenAt at es = IsSomeAnd (element_at at es) (λ e. e.base.delete ≡ 0)

module _ (at : Key) (i : ℕ) where
  became_closed_list : (es : List Element) (xs : List Extent) → IsOpenAt at es → IsBalanced es xs
      → IsBalanced (with_delete at i es) xs × Shuts (subject_of at) i (fulls (es, xs)) (fulls (with_delete at i es, xs))
  became_closed_list es xs open' balanced = by_found (element_at at es) refl open' where
    by_found : (o : Option Element) → element_at at es ≡ o → IsSomeAnd o (λ e. e.base.delete ≡ 0)
        → IsBalanced (with_delete at i es) xs × Shuts (subject_of at) i (fulls (es, xs)) (fulls (with_delete at i es, xs))
    by_found None is open' = absurd open'
    by_found (Some e) is open' = (balanced_closed at i es xs balanced, shuts_closed at i e es xs is open')

  pub became_closed : (es es' : Option (List Element)) (xs xs' : Option (List Extent)) → es' ≡ option_map (with_delete at i) es → xs' ≡ xs
      → IfSome es (IsOpenAt at)
      → Became (Shuts (subject_of at) i) es xs es' xs'
  became_closed None es' xs xs' list others open' = tt
  became_closed (Some es) es' None xs' list others open' = tt
  became_closed (Some es) es' (Some xs) xs' list others open' = λ balanced. rw (list, others) (became_closed_list es xs open' balanced)

  pub still_balanced : (es es' : Option (List Element)) (xs xs' : Option (List Extent)) → es' ≡ option_map (with_delete at i) es → xs' ≡ xs
      → Balanced es xs → Balanced es' xs'
  still_balanced None es' xs xs' list others balanced = rw list tt
  still_balanced (Some es) es' None xs' list others balanced = rw (list, others) tt
  still_balanced (Some es) es' (Some xs) xs' list others balanced = rw (list, others) (balanced_closed at i es xs balanced)

  -- a key that no element had none has
  closed_lacks : (new : Key) (es : List Element) → IsOpenAt at es → ((x : Element) → Contains es x → element_key x ≢ new)
      → (x : Element) → Contains (with_delete at i es) x → element_key x ≢ new
  closed_lacks new es open' lacks x has = by_found (element_at at es) refl open' where
    by_found : (o : Option Element) → element_at at es ≡ o → IsSomeAnd o (λ e. e.base.delete ≡ 0) → element_key x ≢ new
    by_found None is open' = absurd open'
    by_found (Some e) is open' = elim (closed_has at i e x es is has) [
      | inl old ↦ lacks x old
      | inr now ↦ λ same. lacks e (element_at-has at e es is).0 (ap element_key (sym now) ∙ same)
    ]

  pub fresh_lacks_closed : (new : Key) (es es' : Option (List Element)) (xs : Option (List Extent)) → is_some xs ≡ is_some es
      → es' ≡ option_map (with_delete at i) es
      → IfSome es (IsOpenAt at) → IsFresh es xs (subject_of new) new.create → IfSome es' (λ list. IsNone (element_at new list))
  fresh_lacks_closed new None es' xs together list open' fresh = rw list tt
  fresh_lacks_closed new (Some es) es' None together list open' fresh = absurd (true≢false (sym together))
  fresh_lacks_closed new (Some es) es' (Some xs) together list open' fresh =
      rw list (none_at new (with_delete at i es) (closed_lacks new es open' (older_lacks new es xs fresh)))

-- ---- a new version

pub became_none : (s : Subject) (i : ℕ) (es : Option (List Element)) (xs : Option (List Extent)) → Became (Shuts s i) es xs es xs
became_none s i None xs = tt
became_none s i (Some es) None = tt
became_none s i (Some es) (Some xs) = λ balanced. (balanced, shuts_none s i (fulls (es, xs)))

renewed : (base : Base) (bytes : List ℕ) (es mid_es new_es : Option (List Element)) (xs mid_xs new_xs : Option (List Extent)) → base.delete ≡ 0
    → IsFresh es xs (subject_of (key_of base)) base.create → Became (Shuts (subject_of (key_of base)) base.create) es xs mid_es mid_xs
    → Became (Adds (full_with base bytes)) mid_es mid_xs new_es new_xs
    → Became (Rewrites (subject_of (key_of base)) (Some bytes) base.create) es xs new_es new_xs
renewed base bytes None mid_es new_es xs mid_xs new_xs open' fresh first second = tt
renewed base bytes (Some es) mid_es new_es None mid_xs new_xs open' fresh first second = tt
renewed base bytes (Some es) mid_es new_es (Some xs) mid_xs new_xs open' fresh first second =
    λ balanced. by_content (content_of mid_es mid_xs) (content_of new_es new_xs) (first balanced) second where
      by_content : (mid new : Option (List Element × List Extent))
          → IsSomeAnd mid (λ now. IsBalanced now.0 now.1 × Shuts (subject_of (key_of base)) base.create (fulls (es, xs)) (fulls now))
          → IfSome mid (λ was. IsBalanced was.0 was.1 → IsSomeAnd new (λ now. IsBalanced now.0 now.1 × Adds (full_with base bytes) (fulls was) (fulls now)))
          → IsSomeAnd new (λ now. IsBalanced now.0 now.1 × Rewrites (subject_of (key_of base)) (Some bytes) base.create (fulls (es, xs)) (fulls now))
      by_content None new first second = absurd first
      by_content (Some mid) None first second = absurd (second first.0)
      by_content (Some mid) (Some now) first second =
          let done = second first.0 in (done.0, rewrites_added (full_with base bytes) (fulls (es, xs)) (fulls mid) (fulls now) first.1 done.1 open' fresh)

module _ {S A E : Type 0} (elements_of : S → Option (List Element)) (extents_of : S → Option (List Extent)) (base : Base) (bytes : List ℕ) where
  -- some open versions were closed, and one was added
  pub renewed_ok : (old mid new : S) (result : Result A E) → base.delete ≡ 0
      → IsFresh (elements_of old) (extents_of old) (subject_of (key_of base)) base.create
      → Writes elements_of extents_of (Shuts (subject_of (key_of base)) base.create) old mid
      → OnOk result (Writes elements_of extents_of (Adds (full_with base bytes)) mid new)
      → OnOk result (Writes elements_of extents_of (Rewrites (subject_of (key_of base)) (Some bytes) base.create) old new)
  renewed_ok old mid new (Err error) open' fresh first second = tt
  renewed_ok old mid new (Ok value) open' fresh first second =
      renewed base bytes (elements_of old) (elements_of mid) (elements_of new) (extents_of old) (extents_of mid) (extents_of new) open' fresh first second

  pub added_ok : (old new : S) (result : Result A E) → base.delete ≡ 0 → IsFresh (elements_of old) (extents_of old) (subject_of (key_of base)) base.create
      → OnOk result (Writes elements_of extents_of (Adds (full_with base bytes)) old new)
      → OnOk result (Writes elements_of extents_of (Rewrites (subject_of (key_of base)) (Some bytes) base.create) old new)
  added_ok old new result open' fresh added =
      renewed_ok old old new result open' fresh (became_none (subject_of (key_of base)) base.create (elements_of old) (extents_of old)) added

-- ---- an older version is closed

-- a version that is there is older than an id that all versions of its subject are older than
pub there_older : (at : Key) (i : ℕ) (s : Subject) (es : Option (List Element)) (xs : Option (List Extent)) → is_some xs ≡ is_some es
    → subject_of at ≡ s → IfSome es (IsOpenAt at) → IsFresh es xs s i → IfSome es (λ _. at.create < i)
there_older at i s None xs together about open' fresh = tt
there_older at i s (Some es) None together about open' fresh = absurd (true≢false (sym together))
there_older at i s (Some es) (Some xs) together about open' fresh = by_found (element_at at es) refl open' where
  by_found : (o : Option Element) → element_at at es ≡ o → IsSomeAnd o (λ e. e.base.delete ≡ 0) → at.create < i
  by_found None is open' = absurd open'
  by_found (Some e) is open' =
      let found = element_at-has at e es is in
      let made = fresh.made (full_of xs e) (has_map (full_of xs) es e found.0) (ap subject_of found.1 ∙ about) in
      omega (arith, made, ap (λ (k : Key). k.create) found.1)

-- ---- payloads stay where they stand

-- the same of what two moments of a store tell
abbrev pub Placed : Option (List Element) → Option (List Extent) → Option (List Element) → Option (List Extent) → Type 0
Placed es xs es' xs' = IfSome (content_of es xs) (λ was. IsSomeAnd (content_of es' xs') (KeepPlaces was))

pub placed_same : (es es' : Option (List Element)) (xs xs' : Option (List Extent)) → es' ≡ es → xs' ≡ xs → Placed es xs es' xs'
placed_same None es' xs xs' same others = tt
placed_same (Some es) es' None xs' same others = tt
placed_same (Some es) es' (Some xs) xs' same others = rw (same, others) (record { extents = refl; elements = λ x has. (x, has, refl, refl, refl) })

pub placed_twice : (es mid es' : Option (List Element)) (xs mid_xs xs' : Option (List Extent)) → Placed es xs mid mid_xs → Placed mid mid_xs es' xs'
    → Placed es xs es' xs'
placed_twice None mid es' xs mid_xs xs' first second = tt
placed_twice (Some es) mid es' None mid_xs xs' first second = tt
placed_twice (Some es) None es' (Some xs) mid_xs xs' first second = absurd first
placed_twice (Some es) (Some mid) es' (Some xs) None xs' first second = absurd first
placed_twice (Some es) (Some mid) None (Some xs) (Some mid_xs) xs' first second = absurd second
placed_twice (Some es) (Some mid) (Some es') (Some xs) (Some mid_xs) None first second = absurd second
placed_twice (Some es) (Some mid) (Some es') (Some xs) (Some mid_xs) (Some xs') first second = record {
  extents = second.extents ∙ first.extents;
  elements = λ x has.
      let (e, there, key, payload, len) = second.elements x has in
      let (f, there', key', payload', len') = first.elements e there in
      (f, there', key ∙ key', payload ∙ payload', len ∙ len');
}

-- a version that is closed, where it is open, stays where it stands
pub placed_closed : (this : Element) (i : ℕ) (es es' : Option (List Element)) (xs xs' : Option (List Extent))
    → es' ≡ option_map (λ list. if this.base.delete == 0 then with_delete (element_key this) i list else list) es → xs' ≡ xs
    → IfSome es (λ list. element_at (element_key this) list ≡ Some this) → Placed es xs es' xs'
placed_closed this i None es' xs xs' list others there = tt
placed_closed this i (Some es) es' None xs' list others there = tt
placed_closed this i (Some es) es' (Some xs) xs' list others there =
    rw (list, others) (record { extents = refl; elements = by_test (this.base.delete == 0) }) where
      by_test : (b : Bool) (x : Element) → Contains (if b then with_delete (element_key this) i es else es) x
          → (e : Element) × Contains es e × (element_key x ≡ element_key e) × (x.payload ≡ e.payload) × (x.len ≡ e.len)
      by_test false x has = (x, has, refl, refl, refl)
      by_test true x has = elim (closed_has (element_key this) i this x es there has) [
        | inl old ↦ (x, old, refl, refl, refl)
        | inr new ↦ (
          this,
          (element_at-has (element_key this) this es there).0,
          ap element_key new,
          ap (λ (e : Element). e.payload) new,
          ap (λ (e : Element). e.len) new,
        )
      ]

-- ---- the version that was replaced is closed

module _ (at : Key) (i : ℕ) (e : FullElement) where
  -- the element at a key was closed, and a new one stands at another key
  closed_among : (es list : List Element) (xs new_xs : List Extent) → IsOpenAt at es → IsContent (with_delete at i es)
      → Adds e (fulls (with_delete at i es, xs)) (fulls (list, new_xs)) → e.key ≢ at
      → (x : Element) → Contains list x → element_key x ≡ at → x.base.delete ≡ i
  closed_among es list xs new_xs open' content adds other x has same = by_found (element_at at es) refl open' where
    by_found : (o : Option Element) → element_at at es ≡ o → IsSomeAnd o (λ old. old.base.delete ≡ 0) → x.base.delete ≡ i
    by_found None is open' = absurd open'
    by_found (Some old) is open' =
        let found = element_at-has at (closed_at i old) (with_delete at i es) (element_at-changed at (closed_at i) old es (λ y. refl) is) in
        elim ((adds (full_of new_xs x)).0 (has_map (full_of new_xs) list x has)) [
          | inl new ↦ absurd (other (ap (λ (f : FullElement). f.key) (sym new) ∙ same))
          | inr was ↦
              let (f, there, alike) = map_has (full_of xs) (with_delete at i es) (full_of new_xs x) was in
              let key : element_key f ≡ at = ap (λ (g : FullElement). g.key) alike ∙ same in
              let one : f ≡ closed_at i old = one_at_key (with_delete at i es) f (closed_at i old) content.rising there found.0 (key ∙ sym found.1) in
              ap (λ (g : FullElement). g.delete) (sym alike) ∙ ap (λ (g : Element). g.base.delete) one
        ]

  pub closed_there : (es mid new : Option (List Element)) (mid_xs new_xs : Option (List Extent)) → mid ≡ option_map (with_delete at i) es
      → IfSome es (IsOpenAt at) → IfSome mid IsContent → is_some mid_xs ≡ is_some mid → is_some new ≡ is_some mid → Balanced mid mid_xs
      → Became (Adds e) mid mid_xs new new_xs → IfSome es (λ _. at.create < e.key.create) → IsClosedIn new at i
  closed_there None mid new mid_xs new_xs list open' content together kept balanced became older = none_told new (kept ∙ ap is_some list) where
    none_told : (told : Option (List Element)) → is_some told ≡ false → IsClosedIn told at i
    none_told None is = tt
    none_told (Some es) is = absurd (true≢false is)
  closed_there (Some es) mid new mid_xs new_xs list open' content together kept balanced became older =
      by_lists mid_xs new new_xs (together ∙ ap is_some list) (subst (λ (o : Option (List Element)). Balanced o mid_xs) list balanced)
      (subst (λ (o : Option (List Element)). Became (Adds e) o mid_xs new new_xs) list became)
    where
      by_lists : (mid_xs : Option (List Extent)) (new : Option (List Element)) (new_xs : Option (List Extent)) → is_some mid_xs ≡ true
          → Balanced (Some (with_delete at i es)) mid_xs → Became (Adds e) (Some (with_delete at i es)) mid_xs new new_xs → IsClosedIn new at i
      by_lists mid_xs None new_xs there balanced became = tt
      by_lists None (Some new) new_xs there balanced became = absurd (true≢false (sym there))
      by_lists (Some xs) (Some new) None there balanced became = absurd (became balanced)
      by_lists (Some xs) (Some new) (Some new_xs) there balanced became =
          closed_among es new xs new_xs open' (subst (λ (o : Option (List Element)). IfSome o IsContent) list content) (became balanced).1
          (λ is. absurd (omega (arith, older, ap (λ (k : Key). k.create) is)))

pub renewed_closed : {S A E : Type 0} (elements_of : S → Option (List Element)) (extents_of : S → Option (List Extent)) (at : Key) (base : Base)
    (bytes : List ℕ)
    (old mid new : S) (result : Result A E) → elements_of mid ≡ option_map (with_delete at base.create) (elements_of old)
    → IfSome (elements_of old) (IsOpenAt at) → IfSome (elements_of mid) IsContent → is_some (extents_of mid) ≡ is_some (elements_of mid)
    → OnOk result (is_some (elements_of new) ≡ is_some (elements_of mid)) → Balanced (elements_of mid) (extents_of mid)
    → OnOk result (Writes elements_of extents_of (Adds (full_with base bytes)) mid new) → IfSome (elements_of old) (λ _. at.create < base.create)
    → OnOk result (IsClosedIn (elements_of new) at base.create)
renewed_closed elements_of extents_of at base bytes old mid new (Err error) list open' content together kept balanced added older = tt
renewed_closed elements_of extents_of at base bytes old mid new (Ok value) list open' content together kept balanced added older =
    closed_there at base.create (full_with base bytes) (elements_of old) (elements_of mid) (elements_of new) (extents_of mid) (extents_of new)
    list open' content together kept balanced added older
