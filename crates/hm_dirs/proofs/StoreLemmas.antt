-- What is known of a store that tells a balanced content.
use Rattle.std.proofs.Common.{◌≡◌, ℕ, List, Option, Some, None, subst}
use Rattle.std.specs.Prelude.{IfSome}
use Rattle.hm_key.specs.Elements.{IsContent}
use Rattle.hm_key.specs.Extents.{Extent}
use Rattle.hm_key.specs.declared.element.Element.{Element}
use Rattle.hm_records.specs.KeysFit.{KeysFit}
use Rattle.hm_cursor.specs.Told.{Lists, OnBalanced, fulls}
use Rattle.hm_dirs.specs.Names.{OnNamed}

-- nothing needs to be known of balanced content
pub nothing_balanced : (es : Option (List Element)) (xs : Option (List Extent)) → OnBalanced es xs (λ _. Unit {0})
nothing_balanced None xs = tt
nothing_balanced (Some es) None = tt
nothing_balanced (Some es) (Some xs) = λ balanced. tt

-- what follows on content in which keys fit from two facts of it
pub on_content : (hash : List ℕ → ℕ) (es : Option (List Element)) (xs : Option (List Extent)) (A B R : Lists → Type 0)
    → ((lists : Lists) → IsContent lists.0 → KeysFit hash (fulls lists) → A lists → B lists → R lists) → IfSome es IsContent → OnNamed hash es xs A
    → OnNamed hash es xs B → OnNamed hash es xs R
on_content hash None xs A B R step content a b = tt
on_content hash (Some es) None A B R step content a b = tt
on_content hash (Some es) (Some xs) A B R step content a b = λ balanced fit. step (es, xs) content fit (a balanced fit) (b balanced fit)

-- the same, where the order of its elements is not needed
pub on_fit : (hash : List ℕ → ℕ) (es : Option (List Element)) (xs : Option (List Extent)) (A B R : Lists → Type 0)
    → ((lists : Lists) → KeysFit hash (fulls lists) → A lists → B lists → R lists) → OnNamed hash es xs A → OnNamed hash es xs B → OnNamed hash es xs R
on_fit hash None xs A B R step a b = tt
on_fit hash (Some es) None A B R step a b = tt
on_fit hash (Some es) (Some xs) A B R step a b = λ balanced fit. step (es, xs) fit (a balanced fit) (b balanced fit)

-- keys need not fit
pub named_balanced : (hash : List ℕ → ℕ) (es : Option (List Element)) (xs : Option (List Extent)) (P : Lists → Type 0) → OnBalanced es xs P
    → OnNamed hash es xs P
named_balanced hash None xs P is = tt
named_balanced hash (Some es) None P is = tt
named_balanced hash (Some es) (Some xs) P is = λ balanced fit. is balanced

-- a fact of a store that stayed
pub named_still : (hash : List ℕ → ℕ) (now was : Option (List Element)) (now' was' : Option (List Extent)) (P : Lists → Type 0) → now ≡ was → now' ≡ was'
    → OnNamed hash now now' P → OnNamed hash was was' P
named_still hash now was now' was' P same same' is =
    subst (λ (o : Option (List Element)). OnNamed hash o was' P) same (subst (λ (o : Option (List Extent)). OnNamed hash now o P) same' is)
