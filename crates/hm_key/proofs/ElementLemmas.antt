-- Lists of elements that stay in order when one comes, goes or changes.
use Rattle.std.proofs.Common.{◌≡◌, ℕ, ◌<◌, List, [], ◌∷◌, true, false, true≢false, Some, refl, ap, sym, subst, ◌∙◌}
use Rattle.std.specs.Prelude.{◌⊎◌, if◌then◌else◌, Bool, IsNone, insert}
use Rattle.std.specs.List.{AllByRecursion}
use Rattle.std.specs.List.Sorted.{IsStrictlySortedBy}
use Rattle.std.specs.Cmp.{Equal-is}
use Rattle.std.specs.Ordering.{is_lt, is_eq}
use Rattle.std.specs.declared.cmp.Ordering.{Ordering}
use Rattle.std.specs.declared.cmp.Ordering.TheVariants.{Less, Equal, Greater}
use Rattle.std.proofs.lemmas.List.Elements.{All-from_recursion, recursion_from_All, All-nil}
use Rattle.hm_types.specs.Elements.{Key, key_cmp}
use Rattle.hm_key.specs.Element.{FitsType, IsElement}
use Rattle.hm_key.specs.Elements.{element_key, element_cmp, stands_at, stands_before, element_at, inserted, removed, changed, closed_at, moved_to, IsContent}
use Rattle.hm_key.specs.declared.element.Element.{Element}
use Rattle.hm_key.specs.Places.{leading}
use Rattle.hm_key.proofs.KeyLemmas.{key_total, key_same, key_before}
use Rattle.hm_key.proofs.PlaceLemmas.{inserted_here}

-- what stands at a key has it
pub stands_same : (at : Key) (e : Element) → stands_at at e ≡ true → element_key e ≡ at
stands_same at e stands = key_same (element_key e) at ((Equal-is (key_cmp (element_key e) at)).0 stands)

module _ (P : Element → Type 0) where
  -- a fact of each element and of a new one
  pub each_inserted : (new : Element) (es : List Element) → P new → AllByRecursion P es → AllByRecursion P (inserted new es)
  each_inserted new [] fact each = (fact, tt)
  each_inserted new (e ∷ es) fact each = by_test (stands_before (element_key new) e) (each_inserted new es fact each.1) where
    by_test : (b : Bool) → AllByRecursion P (inserted new es) → AllByRecursion P (if b then e ∷ inserted new es else new ∷ e ∷ es)
    by_test true more = (each.0, more)
    by_test false more = (fact, each)

  -- a fact of each element but one
  pub each_removed : (at : Key) (es : List Element) → AllByRecursion P es → AllByRecursion P (removed at es)
  each_removed at [] each = tt
  each_removed at (e ∷ es) each = by_test (stands_at at e) (each_removed at es each.1) where
    by_test : (b : Bool) → AllByRecursion P (removed at es) → AllByRecursion P (if b then es else e ∷ removed at es)
    by_test true more = each.1
    by_test false more = (each.0, more)

  -- a fact of each element that holds of the changed one too
  pub each_changed : (at : Key) (change : Element → Element) (es : List Element) → ((e : Element) → stands_at at e ≡ true → P e → P (change e))
      → AllByRecursion P es → AllByRecursion P (changed at change es)
  each_changed at change [] still each = tt
  each_changed at change (e ∷ es) still each = by_test (stands_at at e) refl (each_changed at change es still each.1) where
    by_test : (b : Bool) → stands_at at e ≡ b → AllByRecursion P (changed at change es)
        → AllByRecursion P (if b then change e ∷ es else e ∷ changed at change es)
    by_test true is more = (still e is each.0, each.1)
    by_test false is more = (each.0, more)

-- all that stand after an element stand after one before it
all_after : (a b : Element) (es : List Element) → element_cmp a b ≡ Less → AllByRecursion (λ y. element_cmp b y ≡ Less) es
    → AllByRecursion (λ y. element_cmp a y ≡ Less) es
all_after a b [] before each = tt
all_after a b (e ∷ es) before each = (key_total.trans (element_key a) (element_key b) (element_key e) before each.0, all_after a b es before each.1)

rising_inserted : (new : Element) (es : List Element) → IsNone (element_at (element_key new) es) → IsStrictlySortedBy element_cmp es
    → IsStrictlySortedBy element_cmp (inserted new es)
unfolding IsStrictlySortedBy
rising_inserted new [] lacks rising = (tt, tt)
rising_inserted new (e ∷ es) lacks rising = by_order (element_cmp e new) refl lacks (λ less. rising_inserted new es less rising.1) where
  by_order : (o : Ordering) → element_cmp e new ≡ o → IsNone (if is_eq o then Some e else element_at (element_key new) es)
      → (IsNone (element_at (element_key new) es) → IsStrictlySortedBy element_cmp (inserted new es))
      → IsStrictlySortedBy element_cmp (if is_lt o then e ∷ inserted new es else new ∷ e ∷ es)
  by_order Less is lacks more = (each_inserted (λ y. element_cmp e y ≡ Less) new es is rising.0, more lacks)
  by_order Equal is lacks more = absurd (true≢false lacks)
  by_order Greater is lacks more =
      let before : element_cmp new e ≡ Less = key_before (element_key new) (element_key e) is in
      ((before, all_after new e es before rising.0), rising)

rising_removed : (at : Key) (es : List Element) → IsStrictlySortedBy element_cmp es → IsStrictlySortedBy element_cmp (removed at es)
unfolding IsStrictlySortedBy
rising_removed at [] rising = tt
rising_removed at (e ∷ es) rising = by_test (stands_at at e) (rising_removed at es rising.1) where
  by_test : (b : Bool) → IsStrictlySortedBy element_cmp (removed at es) → IsStrictlySortedBy element_cmp (if b then es else e ∷ removed at es)
  by_test true more = rising.1
  by_test false more = (each_removed (λ y. element_cmp e y ≡ Less) at es rising.0, more)

rising_changed : (at : Key) (change : Element → Element) (es : List Element) → ((e : Element) → element_key (change e) ≡ element_key e)
    → IsStrictlySortedBy element_cmp es → IsStrictlySortedBy element_cmp (changed at change es)
unfolding IsStrictlySortedBy
rising_changed at change [] same rising = tt
rising_changed at change (e ∷ es) same rising = by_test (stands_at at e) (rising_changed at change es same rising.1) where
  by_test : (b : Bool) → IsStrictlySortedBy element_cmp (changed at change es)
      → IsStrictlySortedBy element_cmp (if b then change e ∷ es else e ∷ changed at change es)
  by_test true more = (subst (λ (k : Key). AllByRecursion (λ y. key_cmp k (element_key y) ≡ Less) es) (sym (same e)) rising.0, rising.1)
  by_test false more =
      (each_changed (λ y. element_cmp e y ≡ Less) at change es (λ y stands less. ap (λ (k : Key). key_cmp (element_key e) k) (same y) ∙ less) rising.0, more)

-- nothing is in order
pub content_none : IsContent []
unfolding IsStrictlySortedBy
content_none = record { rising = tt; each = All-nil IsElement }

-- a new element comes
pub content_inserted : (new : Element) (es : List Element) → IsElement new → IsNone (element_at (element_key new) es) → IsContent es
    → IsContent (inserted new es)
content_inserted new es is lacks content = record {
  rising = rising_inserted new es lacks content.rising;
  each = All-from_recursion IsElement (inserted new es) (each_inserted IsElement new es is (recursion_from_All IsElement es content.each));
}

-- an element goes
pub content_removed : (at : Key) (es : List Element) → IsContent es → IsContent (removed at es)
content_removed at es content = record {
  rising = rising_removed at es content.rising;
  each = All-from_recursion IsElement (removed at es) (each_removed IsElement at es (recursion_from_All IsElement es content.each));
}

-- an element changes and keeps its key
content_changed : (at : Key) (change : Element → Element) (es : List Element) → ((e : Element) → element_key (change e) ≡ element_key e)
    → ((e : Element) → stands_at at e ≡ true → IsElement e → IsElement (change e)) → IsContent es → IsContent (changed at change es)
content_changed at change es same still content = record {
  rising = rising_changed at change es same content.rising;
  each = All-from_recursion IsElement (changed at change es) (each_changed IsElement at change es still (recursion_from_All IsElement es content.each));
}

-- what a type asks for does not speak of delete ids and places
pub fits_changed : (e : Element) (delete payload : ℕ) → FitsType e → FitsType (closed_at delete (moved_to payload e))
fits_changed e delete payload fits = record {
  known = fits.known;
  inode_part = fits.inode_part;
  other_part = fits.other_part;
  inode = fits.inode;
  target = fits.target;
  file_bytes = fits.file_bytes;
  pfs_object = fits.pfs_object;
  snapshot_object = fits.snapshot_object;
  pfs_number = fits.pfs_number;
}

-- an element is closed or opened
pub content_closed : (at : Key) (delete : ℕ) (es : List Element) → (delete ≡ 0) ⊎ (at.create < delete) → IsContent es
    → IsContent (changed at (closed_at delete) es)
content_closed at delete es later content = content_changed at (closed_at delete) es (λ e. refl) still content where
  still : (e : Element) → stands_at at e ≡ true → IsElement e → IsElement (closed_at delete e)
  still e stands is =
      let made : e.base.create ≡ at.create = ap (λ (k : Key). k.create) (stands_same at e stands) in
      record { made = is.made; closed = rw made later; obj_type = is.obj_type; btype = is.btype; fits = fits_changed e delete e.payload is.fits }

-- an element's payload moves
pub content_moved : (at : Key) (to : ℕ) (es : List Element) → IsContent es → IsContent (changed at (moved_to to) es)
content_moved at to es content = content_changed at (moved_to to) es (λ e. refl) still content where
  still : (e : Element) → stands_at at e ≡ true → IsElement e → IsElement (moved_to to e)
  still e stands is = record { made = is.made; closed = is.closed; obj_type = is.obj_type; btype = is.btype; fits = fits_changed e e.base.delete to is.fits }

-- a new element comes, or the list stays
pub content_if : (b : Bool) (new : Element) (es fs : List Element) (place : ℕ) → IsElement new → IsNone (element_at (element_key new) es) → IsContent es
    → place ≡ leading (element_key new) es → fs ≡ (if b then insert es place new else es) → IsContent fs
content_if true new es fs place is lacks content found items = rw (items, inserted_here new es place found) (content_inserted new es is lacks content)
content_if false new es fs place is lacks content found items = rw items content
