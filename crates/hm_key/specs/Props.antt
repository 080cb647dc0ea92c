-- Facts of ghost fields have one proof at most.
use Rattle.std.specs.Prelude.{◌≡◌, ◌⊎◌, ℕ, ◌+◌, ◌<◌, List, [], ◌∷◌, All}
use Rattle.std.specs.List.Sorted.{IsStrictlySortedBy-prop}
use Rattle.std.proofs.Common.{inl, inr, ap, arith}
use Rattle.std.proofs.Props.{props}
use Rattle.std.specs.Coded.{×_prop, le_prop}
use Rattle.hm_types.specs.Elements.{Key}
use Rattle.hm_types.specs.Offset.{byte_of}
use Rattle.hm_key.specs.Extents.{Extent, AreApart, AreExtents}
use Rattle.hm_key.specs.Memory.{EndBy}
use Rattle.hm_key.specs.Element.{IsRecType, IsElement}
use Rattle.hm_key.specs.Elements.{IsContent}
use Rattle.hm_key.specs.Marks.{IsMarked}
use Rattle.hm_key.specs.declared.element.Element.{Element}

-- one of two facts that exclude each other
pub disjoint_prop : {A B : Type 0} → IsProp A → IsProp B → (A → B → ⊥) → IsProp (A ⊎ B)
disjoint_prop a b apart (inl x) (inl y) = ap inl (a x y)
disjoint_prop a b apart (inl x) (inr y) = absurd (apart x y)
disjoint_prop a b apart (inr x) (inl y) = absurd (apart y x)
disjoint_prop a b apart (inr x) (inr y) = ap inr (b x y)

closed_prop : (create delete : ℕ) → IsProp ((delete ≡ 0) ⊎ (create < delete))
closed_prop create delete = disjoint_prop (hlevel props) (hlevel props) (λ is less. omega arith)

IsRecType-prop : (rec_type : ℕ) → IsProp (IsRecType rec_type)
IsRecType-prop rec_type =
    disjoint_prop (hlevel props) (disjoint_prop (hlevel props) (disjoint_prop (hlevel props) (disjoint_prop (hlevel props)
    (disjoint_prop (hlevel props) (hlevel props) (λ is other. omega arith)) (λ is other. omega arith)) (λ is other. omega arith))
    (λ is other. omega arith)) (λ is other. omega arith)

pub IsElement-prop : (e : Element) → IsProp (IsElement e)
IsElement-prop e = hlevel (closed_prop, IsRecType-prop, props)

pub IsContent-prop : (es : List Element) → IsProp (IsContent es)
IsContent-prop es = hlevel (IsElement-prop, IsStrictlySortedBy-prop, props)

AreApart-prop : (low : ℕ) (xs : List Extent) → IsProp (AreApart low xs)
AreApart-prop low [] = hlevel props
AreApart-prop low (x ∷ xs) = ×_prop le_prop (AreApart-prop (byte_of x.at + x.len) xs)

pub AreExtents-prop : (xs : List Extent) → IsProp (AreExtents xs)
AreExtents-prop xs = hlevel (AreApart-prop, props)

pub EndBy-prop : (next : ℕ) (xs : List Extent) → IsProp (EndBy next xs)
EndBy-prop next [] = hlevel props
EndBy-prop next (x ∷ xs) = ×_prop le_prop (EndBy-prop next xs)

pub AllMarked-prop : (mark : Key → ℕ) (es : List Element) → IsProp (All (IsMarked mark) es)
AllMarked-prop mark es = hlevel props
