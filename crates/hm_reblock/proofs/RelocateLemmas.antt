-- Elements that move from one extent to another.
use Rattle.std.proofs.Common.{◌≡◌, ℕ, ◌<◌, ◌≤◌, List, true≢false, Option, Some, None, refl, ap, sym, ◌∙◌, subst, arith}
use Rattle.std.specs.Prelude.{IfSome, IsSomeAnd, OnOk, OnSome, Result, Err, Ok, is_some, option_map}
use Rattle.std.proofs.lemmas.List.Elements.{recursion_from_All}
use Rattle.hm_types.specs.Elements.{Key}
use Rattle.hm_types.specs.Space.{rounded}
use Rattle.hm_types.specs.Told.{BothTell}
use Rattle.hm_key.specs.Balance.{Balanced, IsBalanced, IsHeld, content_of}
use Rattle.hm_key.specs.Elements.{element_at, element_key, with_payload}
use Rattle.hm_key.specs.Extents.{AreExtents, Extent, IsExtent, extent_at, given_back_at, shared_at}
use Rattle.hm_key.specs.Marks.{MarksStay}
use Rattle.hm_key.specs.Stores.{Same}
use Rattle.hm_key.specs.declared.element.Element.{Element}
use Rattle.hm_key.proofs.BalanceLemmas.{extent_each}
use Rattle.hm_reblock.specs.Moving.{AreTwins, HasMovedTo, IsCopy, IsFreshPlace, IsTwin, MovesElement, MovesExtent, MovesPayloads, Relocates}
use Rattle.hm_reblock.proofs.TwinLemmas.{all_stay, held_still, moved, moves_both, shared_copy}

-- The same by what a store tells: a reference came to a twin of an element's extent, and then the element moved there.
module _ {S : Type 0} (elements_of : S → Option (List Element)) (mark_of : S → Key → ℕ) (extents_of : S → Option (List Extent)) (e : Element) (to : ℕ)
    (old mid new : S) (same : elements_of mid ≡ elements_of old) (marks : mark_of mid ≡ mark_of old)
    (came : IfSome (extents_of old) (λ xs. IsSomeAnd (extents_of mid) (IsCopy e to xs))) (told : is_some (extents_of mid) ≡ is_some (extents_of old))
    (there : IfSome (elements_of old) (λ es. element_at (element_key e) es ≡ Some e)) (was : IfSome (extents_of old) AreExtents)
    (live : IfSome (extents_of mid) AreExtents) (moves : MovesElement elements_of mark_of extents_of e to mid new) where
  content : (a b c : Option (List Element)) (o m n : Option (List Extent)) → b ≡ a → c ≡ option_map (with_payload (element_key e) to) b
      → n ≡ option_map (given_back_at e.payload) m → IfSome o (λ xs. IsSomeAnd m (IsCopy e to xs)) → IfSome a (λ es. element_at (element_key e) es ≡ Some e)
      → IfSome o AreExtents → IfSome m AreExtents
      → IfSome (content_of a o) (λ was. IsBalanced was.0 was.1 → IsSomeAnd (content_of c n) (HasMovedTo e.payload to was))
  content None b c o m n before after less came there was live = tt
  content (Some es) b c None m n before after less came there was live = tt
  content (Some es) b c (Some xs) None n before after less came there was live = absurd came
  content (Some es) b c (Some xs) (Some ys) n before after less came there was live =
      λ balanced. rw (after, before, less) (moved e to es xs ys there came was live balanced)

  mapped : {A : Type 0} (change : A → A) (o : Option A) → is_some (option_map change o) ≡ is_some o
  mapped change None = refl
  mapped change (Some x) = refl

  still : (a b : Option (List Element)) (m n : Key → ℕ) (k : Key → ℕ) → b ≡ a → n ≡ m → OnSome b (MarksStay n k) → OnSome a (MarksStay m k)
  still None b m n k before is kept = tt
  still (Some es) b m n k before is kept = rw (before, is) at kept

  pub relocates : Relocates elements_of mark_of extents_of e.payload to old new
  relocates = record {
    content = content (elements_of old) (elements_of mid) (elements_of new) (extents_of old) (extents_of mid) (extents_of new) same moves.elements
        moves.extents came there was live;
    elements = ap is_some moves.elements ∙ mapped (with_payload (element_key e) to) (elements_of mid) ∙ ap is_some same;
    extents = ap is_some moves.extents ∙ mapped (given_back_at e.payload) (extents_of mid) ∙ told;
    marks = still (elements_of old) (elements_of mid) (mark_of old) (mark_of mid) (mark_of new) same marks moves.marks;
  }

-- where such a reference came the extent of the element is held
pub held_told : (e : Element) (to : ℕ) (o m : Option (List Extent)) → is_some m ≡ is_some o → IfSome o (λ xs. IsHeld xs e)
    → IfSome o (λ xs. IsSomeAnd m (IsCopy e to xs)) → IfSome m (λ ys. IsHeld ys e)
held_told e to None None told held came = tt
held_told e to None (Some ys) told held came = absurd (true≢false told)
held_told e to (Some xs) None told held came = tt
held_told e to (Some xs) (Some ys) told held came = held_still e to xs ys came held

-- the same by what the call answered
pub relocates_given : {S A E : Type 0} (elements_of : S → Option (List Element)) (mark_of : S → Key → ℕ) (extents_of : S → Option (List Extent)) (e : Element)
    (to : ℕ) (old mid new : S) (result : Result A E) → elements_of mid ≡ elements_of old → mark_of mid ≡ mark_of old
    → IfSome (extents_of old) (λ xs. IsSomeAnd (extents_of mid) (IsCopy e to xs)) → is_some (extents_of mid) ≡ is_some (extents_of old)
    → IfSome (elements_of old) (λ es. element_at (element_key e) es ≡ Some e) → IfSome (extents_of old) AreExtents → IfSome (extents_of mid) AreExtents
    → OnOk result (MovesElement elements_of mark_of extents_of e to mid new) → OnOk result (Relocates elements_of mark_of extents_of e.payload to old new)
relocates_given elements_of mark_of extents_of e to old mid new (Err error) same marks came told there was live moves = tt
relocates_given elements_of mark_of extents_of e to old mid new (Ok value) same marks came told there was live moves =
    relocates elements_of mark_of extents_of e to old mid new same marks came told there was live moves

-- a twin may be shared
pub twin_live : (e : Element) (to : ℕ) (o : Option (List Extent)) → IfSome o AreExtents → IfSome o (λ xs. IsHeld xs e) → IfSome o (AreTwins 64 e.payload to)
    → IfSome o (λ xs. IsSomeAnd (extent_at to xs) (λ x. (x.len ≡ rounded e.len) × (x.refs < 64)))
twin_live e to None live held twins = tt
twin_live e to (Some xs) live held twins = by_extent (extent_at e.payload xs) refl held twins.twin where
  by_twin : (x : Extent) → 1 ≤ x.refs → x.len ≡ rounded e.len → (o : Option Extent) → IsSomeAnd o (IsTwin 64 x)
      → IsSomeAnd o (λ y. (y.len ≡ rounded e.len) × (y.refs < 64))
  by_twin x some size None twin = twin
  by_twin x some size (Some y) twin = let few = twin.few in (twin.len ∙ size, omega (arith, few, some))

  by_extent : (o : Option Extent) → extent_at e.payload xs ≡ o → IsSomeAnd o (λ x. x.len ≡ rounded e.len)
      → IfSome o (λ x. IsSomeAnd (extent_at to xs) (IsTwin 64 x)) → IsSomeAnd (extent_at to xs) (λ y. (y.len ≡ rounded e.len) × (y.refs < 64))
  by_extent None found held twin = absurd held
  by_extent (Some x) found held twin =
      let is = (extent_each IsExtent e.payload x xs (recursion_from_All IsExtent xs live.each) found).0 in
      by_twin x is.shared.0 held (extent_at to xs) twin

-- and where it was, a reference came to it
pub shared_told : (e : Element) (to : ℕ) (o m : Option (List Extent)) → BothTell o m (λ xs ys. ys ≡ shared_at to xs) → IfSome o (λ xs. IsHeld xs e)
    → IfSome o (AreTwins 64 e.payload to) → (is_some m ≡ is_some o) × IfSome o (λ xs. IsSomeAnd m (IsCopy e to xs))
shared_told e to None None shared held twins = (refl, tt)
shared_told e to None (Some ys) shared held twins = absurd shared
shared_told e to (Some xs) None shared held twins = absurd shared
shared_told e to (Some xs) (Some ys) shared held twins = (refl, subst (IsCopy e to xs) (sym shared) (shared_copy e to xs twins held))

module _ {S : Type 0} (elements_of : S → Option (List Element)) (mark_of : S → Key → ℕ) (extents_of : S → Option (List Extent)) (from to : ℕ) where
  -- nothing moved where nothing changed
  pub relocates_none : {room_of : S → ℕ → ℕ} {free_of : S → ℕ} (old new : S) → Same elements_of mark_of extents_of room_of free_of old new
      → IfSome (extents_of old) (AreTwins 64 from to) → Relocates elements_of mark_of extents_of from to old new
  relocates_none old new same twins = record {
    content = content (elements_of old) (elements_of new) (extents_of old) (extents_of new) same.elements same.extents twins;
    elements = ap is_some same.elements;
    extents = ap is_some same.extents;
    marks = marks (elements_of old) (mark_of old) (mark_of new) same.mark;
  } where
    content : (a b : Option (List Element)) (o n : Option (List Extent)) → b ≡ a → n ≡ o → IfSome o (AreTwins 64 from to)
        → IfSome (content_of a o) (λ was. IsBalanced was.0 was.1 → IsSomeAnd (content_of b n) (HasMovedTo from to was))
    content None b o n same stays twins = tt
    content (Some es) b None n same stays twins = tt
    content (Some es) b (Some xs) n same stays twins =
        λ balanced. rw (same, stays) (record {
          balanced = balanced;
          full = refl;
          elements = all_stay from to es;
          others = λ at away other. refl;
          twins = twins;
        })

    marks : (a : Option (List Element)) (m n : Key → ℕ) → n ≡ m → OnSome a (MarksStay m n)
    marks None m n same = tt
    marks (Some es) m n same = λ key. ap (λ (mark : Key → ℕ). mark key) same

  -- what moved in two steps moved
  moved_both : (a b c : List Element × List Extent) → HasMovedTo from to a b → HasMovedTo from to b c → HasMovedTo from to a c
  moved_both a b c first second = record {
    balanced = second.balanced;
    full = second.full ∙ first.full;
    elements = moves_both first.elements second.elements;
    others = λ at away other. second.others at away other ∙ first.others at away other;
    twins = second.twins;
  }

  pub relocates_both : (old mid new : S) → Relocates elements_of mark_of extents_of from to old mid → Relocates elements_of mark_of extents_of from to mid new
      → Relocates elements_of mark_of extents_of from to old new
  relocates_both old mid new first second = record {
    content =
        both (content_of (elements_of old) (extents_of old)) (content_of (elements_of mid) (extents_of mid)) (content_of (elements_of new) (extents_of new))
        first.content second.content;
    elements = second.elements ∙ first.elements;
    extents = second.extents ∙ first.extents;
    marks = marks (elements_of old) (elements_of mid) (mark_of old) (mark_of mid) (mark_of new) first.elements first.marks second.marks;
  } where
    both : (a b c : Option (List Element × List Extent)) → IfSome a (λ was. IsBalanced was.0 was.1 → IsSomeAnd b (HasMovedTo from to was))
        → IfSome b (λ was. IsBalanced was.0 was.1 → IsSomeAnd c (HasMovedTo from to was))
        → IfSome a (λ was. IsBalanced was.0 was.1 → IsSomeAnd c (HasMovedTo from to was))
    both None b c one two = tt
    both (Some x) None c one two = λ balanced. absurd (one balanced)
    both (Some x) (Some y) None one two = λ balanced. two (one balanced).balanced
    both (Some x) (Some y) (Some z) one two = λ balanced. let early = one balanced in moved_both x y z early (two early.balanced)

    marks : (a b : Option (List Element)) (m n k : Key → ℕ) → is_some b ≡ is_some a → OnSome a (MarksStay m n) → OnSome b (MarksStay n k)
        → OnSome a (MarksStay m k)
    marks None b m n k told one two = tt
    marks (Some es) None m n k told one two = absurd (true≢false (sym told))
    marks (Some es) (Some fs) m n k told one two = λ key. two key ∙ one key

  -- of a balanced content the one that is left is balanced, with the twins
  left_told : (a b : Option (List Element)) (o n : Option (List Extent)) → is_some b ≡ is_some a → is_some n ≡ is_some o → is_some o ≡ is_some a
      → IfSome (content_of a o) (λ was. IsBalanced was.0 was.1 → IsSomeAnd (content_of b n) (HasMovedTo from to was)) → Balanced a o
      → Balanced b n × IfSome n (AreTwins 64 from to)
  left_told None None None None told also together moved balanced = (tt, tt)
  left_told None None None (Some ys) told also together moved balanced = absurd (true≢false also)
  left_told None None (Some xs) n told also together moved balanced = absurd (true≢false together)
  left_told None (Some fs) o n told also together moved balanced = absurd (true≢false told)
  left_told (Some es) b None n told also together moved balanced = absurd (true≢false (sym together))
  left_told (Some es) None (Some xs) n told also together moved balanced = absurd (true≢false (sym told))
  left_told (Some es) (Some fs) (Some xs) None told also together moved balanced = absurd (true≢false (sym also))
  left_told (Some es) (Some fs) (Some xs) (Some ys) told also together moved balanced = let now = moved balanced in (now.balanced, now.twins)

  pub relocates_left : (old new : S) → is_some (extents_of old) ≡ is_some (elements_of old) → Relocates elements_of mark_of extents_of from to old new
      → Balanced (elements_of old) (extents_of old) → Balanced (elements_of new) (extents_of new) × IfSome (extents_of new) (AreTwins 64 from to)
  relocates_left old new together relocates =
      left_told (elements_of old) (elements_of new) (extents_of old) (extents_of new) relocates.elements relocates.extents together relocates.content

  -- so one extent moved
  pub moves_extent : (old new : S) → Relocates elements_of mark_of extents_of from to old new → IsFreshPlace (extents_of old) from to
      → MovesPayloads elements_of mark_of extents_of old new
  moves_extent old new relocates place = record {
    content = content (elements_of old) (extents_of old) (content_of (elements_of new) (extents_of new)) place.apart relocates.content;
    elements = relocates.elements;
    extents = relocates.extents;
    marks = relocates.marks;
  } where
    extent : (was now : List Element × List Extent) → extent_at to was.1 ≡ None → HasMovedTo from to was now → MovesExtent was now
    extent was now apart moved = record {
      balanced = moved.balanced;
      full = moved.full;
      from = from;
      to = to;
      zone = place.zone;
      new = λ _. apart;
      elements = moved.elements;
      others = moved.others;
    }

    by_new : (was : List Element × List Extent) (c : Option (List Element × List Extent)) → extent_at to was.1 ≡ None → IsSomeAnd c (HasMovedTo from to was)
        → IsSomeAnd c (MovesExtent was)
    by_new was None apart moved = moved
    by_new was (Some now) apart moved = extent was now apart moved

    content : (a : Option (List Element)) (o : Option (List Extent)) (c : Option (List Element × List Extent)) → IfSome o (λ xs. extent_at to xs ≡ None)
        → IfSome (content_of a o) (λ was. IsBalanced was.0 was.1 → IsSomeAnd c (HasMovedTo from to was))
        → IfSome (content_of a o) (λ was. IsBalanced was.0 was.1 → IsSomeAnd c (MovesExtent was))
    content None o c apart moved = tt
    content (Some es) None c apart moved = tt
    content (Some es) (Some xs) c apart moved = λ balanced. by_new (es, xs) c apart (moved balanced)

-- nothing moved where nothing changed
pub moves_none : {S : Type 0} (elements_of : S → Option (List Element)) (mark_of : S → Key → ℕ) (extents_of : S → Option (List Extent)) (old new : S)
    → elements_of new ≡ elements_of old → mark_of new ≡ mark_of old → extents_of new ≡ extents_of old → MovesPayloads elements_of mark_of extents_of old new
moves_none elements_of mark_of extents_of old new same kept stays = record {
  content = content (elements_of old) (elements_of new) (extents_of old) (extents_of new) same stays;
  elements = ap is_some same;
  extents = ap is_some stays;
  marks = marks (elements_of old) (mark_of old) (mark_of new) kept;
} where
  content : (a b : Option (List Element)) (o n : Option (List Extent)) → b ≡ a → n ≡ o
      → IfSome (content_of a o) (λ was. IsBalanced was.0 was.1 → IsSomeAnd (content_of b n) (MovesExtent was))
  content None b o n same stays = tt
  content (Some es) b None n same stays = tt
  content (Some es) b (Some xs) n same stays =
      λ balanced. rw (same, stays) (record {
        balanced = balanced;
        full = refl;
        from = 0;
        to = 0;
        zone = refl;
        new = λ other. absurd (other refl);
        elements = all_stay 0 0 es;
        others = λ at away other. refl;
      })

  marks : (a : Option (List Element)) (m n : Key → ℕ) → n ≡ m → OnSome a (MarksStay m n)
  marks None m n same = tt
  marks (Some es) m n same = λ key. ap (λ (mark : Key → ℕ). mark key) same
