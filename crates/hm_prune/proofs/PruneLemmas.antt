-- What is dead, and what a prune leaves of what a store tells.
use Rattle.std.proofs.Common.{◌≡◌, ap, ℕ, List, true, false, true≢false, Option, Some, None, refl, sym, ◌∙◌, subst, arith, inl, inr}
use Rattle.std.specs.Prelude.{◌+◌, ◌≤◌, length, IfSome, IsSomeAnd, OnOk, OnSome, Bool, Result, Err, Ok, if◌then◌else◌, [], ◌∷◌, is_some, option_map}
use Rattle.std.specs.List.{AllByRecursion}
use Rattle.std.specs.List.Sorted.{IsStrictlySortedBy}
use Rattle.std.specs.declared.cmp.Ordering.TheVariants.{Less}
use Rattle.std.proofs.lemmas.Bool.{eq-eqb}
use Rattle.hm_types.specs.Elements.{Key, key_cmp}
use Rattle.hm_types.specs.Space.{Spends, nothing}
use Rattle.hm_key.specs.Balance.{Balanced, IsBalanced, MayGo, Works, content_of, full_of}
use Rattle.hm_key.specs.Calls.{UnitDone}
use Rattle.hm_key.specs.Elements.{IsContent, element_at, element_cmp, element_key, removed, stands_at}
use Rattle.hm_key.specs.Extents.{AreExtents, Extent, given_back_at}
use Rattle.hm_key.specs.Job.{ComesFurther, HasTouched}
use Rattle.hm_key.specs.Key.{key_of}
use Rattle.hm_key.specs.Marks.{NoneFall}
use Rattle.hm_key.specs.Stores.{Same}
use Rattle.hm_key.specs.Sweep.{Clears, place_from}
use Rattle.hm_key.specs.declared.base.Base.{Base}
use Rattle.hm_key.specs.declared.element.Element.{Element}
use Rattle.hm_key.proofs.BalanceLemmas.{LosesDead-trans}
use Rattle.hm_key.proofs.ElementLemmas.{stands_same}
use Rattle.hm_key.proofs.KeyLemmas.{key_not_before, key_total}
use Rattle.hm_key.proofs.SweepLemmas.{marks_stay, works_balanced, works_cleared, works_same}
use Rattle.hm_prune.specs.Dead.{IsDeadIn, IsFirstDead, NoneDead, keeps_in}
use Rattle.hm_prune.specs.Prunes.{LosesAtMost, Prunes, Removes}

-- a dead element of the pseudo file system may go
pub may_go : (pfs : ℕ) (kept : List (ℕ × ℕ)) (e : Element) (xs : List Extent) → IsDeadIn pfs kept e.base → MayGo (keeps_in pfs kept) (full_of xs e)
may_go pfs kept e xs is = rw (eq-eqb _ pfs is.here) is.dead

module _ {S : Type 0} (elements_of : S → Option (List Element)) (mark_of : S → Key → ℕ) (extents_of : S → Option (List Extent))
    (kept : ℕ → Option (List (ℕ × ℕ))) where
  -- where nothing changed nothing went
  pub prunes_none : {room_of : S → ℕ → ℕ} {free_of : S → ℕ} (old new : S) → Same elements_of mark_of extents_of room_of free_of old new
      → Prunes elements_of mark_of extents_of kept old new
  prunes_none old new same = record {
    content = works_same kept (elements_of old) (elements_of new) (extents_of old) (extents_of new) same.elements same.extents;
    elements = ap is_some same.elements;
    extents = ap is_some same.extents;
    marks = marks_stay (elements_of old) (mark_of old) (mark_of new) same.mark;
  }

  -- what is left of a balanced store is balanced
  pub prunes_balanced : (old new : S) → Prunes elements_of mark_of extents_of kept old new
      → Balanced (elements_of old) (extents_of old) → Balanced (elements_of new) (extents_of new)
  prunes_balanced old new prunes =
      works_balanced kept (elements_of old) (elements_of new) (extents_of old) (extents_of new) prunes.elements prunes.extents prunes.content

  -- what went in two steps went
  pub prunes_both : (old mid new : S) → Prunes elements_of mark_of extents_of kept old mid
      → Prunes elements_of mark_of extents_of kept mid new → Prunes elements_of mark_of extents_of kept old new
  prunes_both old mid new first second = record {
    content =
        both (content_of (elements_of old) (extents_of old)) (content_of (elements_of mid) (extents_of mid)) (content_of (elements_of new) (extents_of new))
        first.content second.content;
    elements = second.elements ∙ first.elements;
    extents = second.extents ∙ first.extents;
    marks = fall (elements_of old) (elements_of mid) (mark_of old) (mark_of mid) (mark_of new) first.elements first.marks second.marks;
  } where
    both : (a b c : Option (List Element × List Extent)) → IfSome a (λ was. IsBalanced was.0 was.1 → IsSomeAnd b (Works kept was))
        → IfSome b (λ was. IsBalanced was.0 was.1 → IsSomeAnd c (Works kept was)) → IfSome a (λ was. IsBalanced was.0 was.1 → IsSomeAnd c (Works kept was))
    both None b c one two = tt
    both (Some x) None c one two = λ balanced. absurd (one balanced)
    both (Some x) (Some y) None one two = λ balanced. two (one balanced).balanced
    both (Some x) (Some y) (Some z) one two = λ balanced. let early = one balanced in let late = two early.balanced in
        record { balanced = late.balanced; elements = LosesDead-trans kept early.elements late.elements }

    fall : (es fs : Option (List Element)) (a b c : Key → ℕ) → is_some fs ≡ is_some es → OnSome es (NoneFall a b) → OnSome fs (NoneFall b c)
        → OnSome es (NoneFall a c)
    fall None fs a b c told one two = tt
    fall (Some es) None a b c told one two = absurd (true≢false (sym told))
    fall (Some es) (Some fs) a b c told one two = λ key. omega (arith, one key, two key)

  -- an element that may go went with its reference
  pub prunes_one : (e : Element) (old new : S) → Clears elements_of mark_of extents_of true e old new
      → IfSome (elements_of old) (λ list. element_at (element_key e) list ≡ Some e)
      → IfSome (extents_of old) AreExtents → ((list : List Extent) → MayGo kept (full_of list e))
      → Prunes elements_of mark_of extents_of kept old new
  prunes_one e old new cleared there live may = record {
    content =
        works_cleared kept true e (elements_of old) (elements_of new) (extents_of old) (extents_of new) cleared.elements cleared.extents there live (λ _. may);
    elements = ap is_some cleared.elements ∙ told (removed (element_key e)) (elements_of old);
    extents = ap is_some cleared.extents ∙ told (given_back_at e.payload) (extents_of old);
    marks = cleared.marks;
  } where
    told : {A : Type 0} (change : A → A) (o : Option A) → is_some (option_map change o) ≡ is_some o
    told change None = refl
    told change (Some x) = refl

  -- the same by what a call answered
  pub prunes_given : {A E : Type 0} (result : Result A E) (e : Element) (old new : S) → OnOk result (Clears elements_of mark_of extents_of true e old new)
      → IfSome (elements_of old) (λ list. element_at (element_key e) list ≡ Some e) → IfSome (extents_of old) AreExtents
      → ((list : List Extent) → MayGo kept (full_of list e)) → OnOk result (Prunes elements_of mark_of extents_of kept old new)
  prunes_given (Err error) e old new cleared there live may = tt
  prunes_given (Ok value) e old new cleared there live may = prunes_one e old new cleared there live may

  -- so a unit did what a job may
  pub unit_done : {A : Type 0} {room_of : S → ℕ → ℕ} {free_of : S → ℕ} (value : A) (old new : S) → Prunes elements_of mark_of extents_of kept old new
      → Spends room_of free_of nothing old new → UnitDone elements_of mark_of extents_of room_of free_of kept false old new (Ok value)
  unit_done value old new prunes space = record {
    content = prunes.content;
    keeps = record { elements = prunes.elements; extents = prunes.extents };
    marks = prunes.marks;
    free = space.free;
    room = λ _ zone. omega (arith, space.room zone);
  }

module _ {S : Type 0} {room_of : S → ℕ → ℕ} {free_of : S → ℕ} where
  -- nothing was spent where nothing changed
  pub spends_none : {elements_of : S → Option (List Element)} {mark_of : S → Key → ℕ} {extents_of : S → Option (List Extent)} (old new : S)
      → Same elements_of mark_of extents_of room_of free_of old new → Spends room_of free_of nothing old new
  spends_none old new same = record {
    room = λ zone. omega (arith, ap (λ (room : ℕ → ℕ). room zone) same.room);
    free = omega (arith, same.free);
  }

  -- nor in two steps in which nothing was
  pub spends_both : (old mid new : S) → Spends room_of free_of nothing old mid → Spends room_of free_of nothing mid new
      → Spends room_of free_of nothing old new
  spends_both old mid new first second = record {
    room = λ zone. omega (arith, first.room zone, second.room zone);
    free = omega (arith, first.free, second.free);
  }

-- a walk that came further twice came further
pub further_both : (a b : Base) (next : Option Base) → ComesFurther (place_from (Some a)) (place_from (Some b))
    → ComesFurther (place_from (Some b)) (place_from next) → ComesFurther (place_from (Some a)) (place_from next)
further_both a b None one two = inl (omega arith)
further_both a b (Some c) (inl up) two = absurd (omega arith)
further_both a b (Some c) (inr one) (inl up) = absurd (omega arith)
further_both a b (Some c) (inr one) (inr two) = inr (refl, key_total.trans (key_of a) (key_of b) (key_of c) one.1 two.1)

-- nothing else stands at the key of an element before all others
none_at : (key : Key) (first : Element) (es : List Element) → element_key first ≡ key → AllByRecursion (λ y. element_cmp first y ≡ Less) es
    → element_at key es ≡ None
none_at key first [] here after = refl
none_at key first (e ∷ es) here after = by_test (stands_at key e) refl (none_at key first es here after.1) where
  by_test : (b : Bool) → stands_at key e ≡ b → element_at key es ≡ None → (if b then Some e else element_at key es) ≡ None
  by_test true is none =
      let same : element_key first ≡ element_key e = here ∙ sym (stands_same key e is) in
      absurd (key_not_before (element_key e) (subst (λ (k : Key). key_cmp k (element_key e) ≡ Less) same after.0))
  by_test false is none = none

-- what was taken out of a list in order stands there no more
gone_at : (key : Key) (es : List Element) → IsStrictlySortedBy element_cmp es → element_at key (removed key es) ≡ None
unfolding IsStrictlySortedBy
gone_at key [] rising = refl
gone_at key (e ∷ es) rising = by_test (stands_at key e) refl (gone_at key es rising.1) where
  by_test : (b : Bool) → stands_at key e ≡ b → element_at key (removed key es) ≡ None → element_at key (if b then es else e ∷ removed key es) ≡ None
  by_test true is none = none_at key e es (stands_same key e is) rising.0
  by_test false is none = rw is none

-- an element went
pub touched : (e : Element) (was now new : Option (List Element)) → now ≡ was → Removes e now new → IfSome was IsContent
    → IfSome was (λ es. element_at (element_key e) es ≡ Some e) → IfSome was (λ es. IsSomeAnd new (HasTouched es))
touched e None now new same removes content there = tt
touched e (Some es) now new same removes content there =
    subst (λ (o : Option (List Element)). IsSomeAnd o (HasTouched es)) (sym (removes ∙ ap (option_map (removed (element_key e))) same))
    (record { element = e; there = there; touched = rw (gone_at (element_key e) es content.rising) tt })

-- what a look through the whole found stands there still
pub first_there : (pfs : ℕ) (kept : List (ℕ × ℕ)) (e : Element) (was now : Option (List Element)) (found : Option Element) → now ≡ was → found ≡ Some e
    → IfSome was (λ es. IsFirstDead pfs kept es found) → IfSome now (λ es. element_at (element_key e) es ≡ Some e)
first_there pfs kept e was now found same is look =
    subst (λ (o : Option (List Element)). IfSome o (λ es. element_at (element_key e) es ≡ Some e)) (sym same)
    (subst (λ (f : Option Element). IfSome was (λ es. IsFirstDead pfs kept es f)) is look)

-- and where it found nothing nothing is dead
pub none_dead : (pfs : ℕ) (kept : List (ℕ × ℕ)) (was now : Option (List Element)) (found : Option Element) → now ≡ was → found ≡ None
    → IfSome was (λ es. IsFirstDead pfs kept es found) → IfSome now (NoneDead pfs kept)
none_dead pfs kept was now found same is look =
    subst (λ (o : Option (List Element)). IfSome o (NoneDead pfs kept)) (sym same)
    (subst (λ (f : Option Element). IfSome was (λ es. IsFirstDead pfs kept es f)) is look)

-- what is taken out of a list is one element at most
removed_one : (key : Key) (es : List Element) → length es ≤ length (removed key es) + 1
removed_one key [] = omega arith
removed_one key (e ∷ es) = by_test (stands_at key e) (removed_one key es) where
  by_test : (b : Bool) → length es ≤ length (removed key es) + 1 → length (e ∷ es) ≤ length (if b then es else e ∷ removed key es) + 1
  by_test true rest = omega arith
  by_test false rest = omega (arith, rest)

-- none went where nothing changed
pub loses_none : (was now : Option (List Element)) → now ≡ was → LosesAtMost 0 was now
loses_none None now same = tt
loses_none (Some es) now same = subst (λ (o : Option (List Element)). LosesAtMost 0 (Some es) o) (sym same) (omega arith)

-- one went
pub loses_one : (e : Element) (was now new : Option (List Element)) → now ≡ was → Removes e now new → LosesAtMost 1 was new
loses_one e None now new same removes = tt
loses_one e (Some es) now new same removes =
    subst (λ (o : Option (List Element)). LosesAtMost 1 (Some es) o) (sym (removes ∙ ap (option_map (removed (element_key e))) same))
    (removed_one (element_key e) es)

-- what went in two steps is no more than the sum
pub loses_both : (m n sum : ℕ) (a b c : Option (List Element)) → LosesAtMost m a b → LosesAtMost n b c → m + n ≤ sum → LosesAtMost sum a c
loses_both m n sum None b c one two most = tt
loses_both m n sum (Some es) None c one two most = absurd one
loses_both m n sum (Some es) (Some fs) None one two most = absurd two
loses_both m n sum (Some es) (Some fs) (Some gs) one two most = omega (arith, one, two, most)

-- nor more than a bound of it
pub loses_within : (m most : ℕ) (a b : Option (List Element)) → LosesAtMost m a b → m ≤ most → LosesAtMost most a b
loses_within m most None b one bound = tt
loses_within m most (Some es) None one bound = absurd one
loses_within m most (Some es) (Some fs) one bound = omega (arith, one, bound)
