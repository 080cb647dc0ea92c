-- Calls that write, one after another.
use Rattle.std.proofs.Common.{◌≡◌, List, Option, Some, None, refl, true≢false, subst, sym}
use Rattle.std.specs.Prelude.{is_some, Err, IfSome, IsSomeAnd, Ok, OnOk, Result}
use Rattle.hm_types.specs.Elements.{FullElement}
use Rattle.hm_key.specs.Balance.{IsBalanced, content_of}
use Rattle.hm_key.specs.Extents.{Extent}
use Rattle.hm_key.specs.declared.element.Element.{Element}
use Rattle.hm_cursor.specs.Told.{Lists, fulls}
use Rattle.hm_cursor.specs.Write.{Writes}

-- what a call does to the elements of a store that tells them
abbrev pub Change : Type 1
Change = List FullElement → List FullElement → Type 0

-- two changes after one another
abbrev pub Then : Change → Change → List FullElement → List FullElement → Type 0
Then A B es es' = (mid : List FullElement) × A es mid × B mid es'

-- With what is known of an old content, one change is another.
abbrev pub IsAlso : (Lists → Type 0) → Change → Change → Type 0
IsAlso Known A B = (was : Lists) (es' : List FullElement) → Known was → A (fulls was) es' → B (fulls was) es'

-- What is known of an old content leaves something known of the new one.
abbrev pub Leaves : (Lists → Type 0) → Change → (List FullElement → Type 0) → Type 0
Leaves Known A Left = (was : Lists) (es' : List FullElement) → Known was → A (fulls was) es' → Left es'

-- what a call does from one content to another
abbrev Does : Change → Option Lists → Option Lists → Type 0
Does A o p = IfSome o (λ was. IsBalanced was.0 was.1 → IsSomeAnd p (λ now. IsBalanced now.0 now.1 × A (fulls was) (fulls now)))

does_so : (A B : Change) (Known : Lists → Type 0) (o p : Option Lists) → IfSome o Known → IsAlso Known A B → Does A o p → Does B o p
does_so A B Known None p known also does = tt
does_so A B Known (Some was) None known also does = does
does_so A B Known (Some was) (Some now) known also does = λ balanced. ((does balanced).0, also was (fulls now) known (does balanced).1)

does_both : (A B : Change) (o m p : Option Lists) → Does A o m → Does B m p → Does (Then A B) o p
does_both A B None m p first second = tt
does_both A B (Some was) None p first second = λ balanced. absurd (first balanced)
does_both A B (Some was) (Some mid) None first second = λ balanced. second (first balanced).0
does_both A B (Some was) (Some mid) (Some now) first second =
    λ balanced. ((second (first balanced).0).0, (fulls mid, (first balanced).1, (second (first balanced).0).1))

does_and : (A B : Change) (o p : Option Lists) → Does A o p → Does B o p → Does (λ es es'. A es es' × B es es') o p
does_and A B None p one other = tt
does_and A B (Some was) None one other = one
does_and A B (Some was) (Some now) one other = λ balanced. ((one balanced).0, ((one balanced).1, (other balanced).1))

does_leave : (A : Change) (Known : Lists → Type 0) (Left : List FullElement → Type 0) (o m : Option Lists) → is_some m ≡ is_some o
    → IfSome o (λ was. IsBalanced was.0 was.1) → IfSome o Known → Leaves Known A Left → Does A o m → IfSome m (λ now. Left (fulls now))
does_leave A Known Left o None told balanced known leaves does = tt
does_leave A Known Left None (Some now) told balanced known leaves does = absurd (true≢false told)
does_leave A Known Left (Some was) (Some now) told balanced known leaves does = leaves was (fulls now) known (does balanced).1

does_none : (A : Change) (Known : Lists → Type 0) (o : Option Lists) → IfSome o Known
    → ((was : Lists) → Known was → A (fulls was) (fulls was)) → Does A o o
does_none A Known None known stays = tt
does_none A Known (Some was) known stays = λ balanced. (balanced, stays was known)

-- a call that keeps whether both lists are told keeps whether the content is
content_told : (es es' : Option (List Element)) (xs xs' : Option (List Extent)) → is_some es' ≡ is_some es → is_some xs' ≡ is_some xs
    → is_some (content_of es' xs') ≡ is_some (content_of es xs)
content_told None None xs xs' elements extents = refl
content_told None (Some _) xs xs' elements extents = absurd (true≢false elements)
content_told (Some _) None xs xs' elements extents = absurd (true≢false (sym elements))
content_told (Some _) (Some _) None None elements extents = refl
content_told (Some _) (Some _) None (Some _) elements extents = absurd (true≢false extents)
content_told (Some _) (Some _) (Some _) None elements extents = absurd (true≢false (sym extents))
content_told (Some _) (Some _) (Some _) (Some _) elements extents = refl

-- two facts of a content that may be told
pub known_both : {P Q R : Lists → Type 0} (o : Option Lists) → ((x : Lists) → P x → Q x → R x) → IfSome o P → IfSome o Q → IfSome o R
known_both None both first second = tt
known_both (Some x) both first second = both x first second

module _ {S : Type 0} (elements_of : S → Option (List Element)) (extents_of : S → Option (List Extent)) where
  -- the content that a store tells
  abbrev pub told_by : S → Option Lists
  told_by s = content_of (elements_of s) (extents_of s)

  -- nothing is asked of an old content
  pub unknown : (old : S) → IfSome (told_by old) (λ _. Unit {0})
  unknown old = any (told_by old) where
    any : (o : Option Lists) → IfSome o (λ _. Unit {0})
    any None = tt
    any (Some lists) = tt

  pub writes_so : (A B : Change) (Known : Lists → Type 0) (old new : S) → IfSome (told_by old) Known → IsAlso Known A B
      → Writes elements_of extents_of A old new → Writes elements_of extents_of B old new
  writes_so A B Known old new = does_so A B Known (told_by old) (told_by new)

  pub writes_both : (A B : Change) (old mid new : S) → Writes elements_of extents_of A old mid → Writes elements_of extents_of B mid new
      → Writes elements_of extents_of (Then A B) old new
  writes_both A B old mid new = does_both A B (told_by old) (told_by mid) (told_by new)

  -- two facts of one call
  writes_and : (A B : Change) (old new : S) → Writes elements_of extents_of A old new → Writes elements_of extents_of B old new
      → Writes elements_of extents_of (λ es es'. A es es' × B es es') old new
  writes_and A B old new = does_and A B (told_by old) (told_by new)

  pub writes_ok : {T E : Type 0} (A B : Change) (old new : S) (result : Result T E) → OnOk result (Writes elements_of extents_of A old new)
      → OnOk result (Writes elements_of extents_of B old new) → OnOk result (Writes elements_of extents_of (λ es es'. A es es' × B es es') old new)
  writes_ok A B old new (Ok value) one other = writes_and A B old new one other
  writes_ok A B old new (Err error) one other = tt

  -- what the next call may know
  pub known_after : (A : Change) (Known : Lists → Type 0) (Left : List FullElement → Type 0) (old mid : S)
      → is_some (elements_of mid) ≡ is_some (elements_of old) → is_some (extents_of mid) ≡ is_some (extents_of old)
      → IfSome (told_by old) (λ was. IsBalanced was.0 was.1) → IfSome (told_by old) Known → Leaves Known A Left
      → Writes elements_of extents_of A old mid → IfSome (told_by mid) (λ now. Left (fulls now))
  known_after A Known Left old mid elements extents =
      does_leave A Known Left (told_by old) (told_by mid)
      (content_told (elements_of old) (elements_of mid) (extents_of old) (extents_of mid) elements extents)

  -- A call that only read before has written from what it found.
  pub writes_from : (A : Change) (old mid new : S) → elements_of mid ≡ elements_of old → extents_of mid ≡ extents_of old
      → Writes elements_of extents_of A mid new → Writes elements_of extents_of A old new
  writes_from A old mid new elements extents =
      subst (λ (o : Option Lists). Does A o (told_by new)) (λ i. content_of (elements i) (extents i))

  -- A call that wrote nothing left what it found.
  pub writes_none : (A : Change) (Known : Lists → Type 0) (old new : S) → elements_of new ≡ elements_of old → extents_of new ≡ extents_of old
      → IfSome (told_by old) Known → ((was : Lists) → Known was → A (fulls was) (fulls was)) → Writes elements_of extents_of A old new
  writes_none A Known old new elements extents known stays =
      subst (λ (o : Option Lists). Does A (told_by old) o) (sym (λ i. content_of (elements i) (extents i)))
      (does_none A Known (told_by old) known stays)
