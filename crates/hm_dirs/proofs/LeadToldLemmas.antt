-- Entries that lead, in stores that may tell their content.
use Rattle.std.proofs.Common.{◌≡◌, ℕ, ◌+◌, ◌-◌, ◌<◌, ◌≤◌, Bool, true, false, List, [], ◌∷◌, length, length-append, Option, None, Some, ap, subst, sym}
use Rattle.std.proofs.Common.{◌∙◌, inr, arith}
use Rattle.std.specs.Prelude.{IfSome}
use Rattle.hm_types.specs.Tree.{FileTree}
use Rattle.hm_types.specs.declared.id.Obj.{Obj}
use Rattle.hm_key.specs.Counts.{Counts}
use Rattle.hm_key.specs.Elements.{IsContent}
use Rattle.hm_key.specs.Extents.{Extent}
use Rattle.hm_key.specs.declared.element.Element.{Element}
use Rattle.hm_records.specs.KeysFit.{KeysFit}
use Rattle.hm_records.specs.View.{IsViewOf}
use Rattle.hm_cursor.specs.Told.{Lists, OnBalanced, fulls}
use Rattle.hm_dirs.specs.Entries.{AreFewer, AreMany, AreTaken, HaveAtLeast, HaveAtMost, IsFewNames, IsFreeKey, IsHiddenKey, IsLeastKey, IsNextName, IsNoted}
use Rattle.hm_dirs.specs.Names.{IsSpotFor, OnNamed, first_key, names_of_hash}
use Rattle.hm_dirs.specs.declared.spot.Spot.{Spot}
use Rattle.hm_dirs.proofs.LeadLemmas.{AreKnown, at_least, at_most, keys_from, known_behind, known_more, known_past, least_on, most_on, next_taken, none_known}
use Rattle.hm_cursor.proofs.NameLemmas.{settled_content}
use Rattle.hm_dirs.proofs.StoreLemmas.{named_balanced, named_still, on_content, on_fit}

-- what is known of the names of a store's entries
abbrev pub KnownTold : (List ℕ → ℕ) → Option (List Element) → Option (List Extent) → ℕ → ℕ → Obj → ℕ → ℕ → List (List ℕ) → Type 0
KnownTold hash es xs t pfs directory first key names =
    OnNamed hash es xs (λ lists. AreKnown (Counts (fulls lists) t) pfs directory first key names)

pub none_told : (hash : List ℕ → ℕ) (es : Option (List Element)) (xs : Option (List Extent)) (t pfs : ℕ) (directory : Obj) (first : ℕ)
    → KnownTold hash es xs t pfs directory first first []
none_told hash None xs t pfs directory first = tt
none_told hash (Some es) None t pfs directory first = tt
none_told hash (Some es) (Some xs) t pfs directory first = λ balanced fit. none_known (Counts (fulls (es, xs)) t) pfs directory first

module _ (hash : List ℕ → ℕ) (es es' : Option (List Element)) (xs xs' : Option (List Extent)) (t pfs : ℕ) (directory : Obj) (first key last : ℕ)
    (names : List (List ℕ)) (answer : Option (ℕ × List ℕ)) (same : es' ≡ es) (same' : xs' ≡ xs)
    (read : OnBalanced es' xs' (IsNextName t pfs directory key last answer)) (known : KnownTold hash es xs t pfs directory first key names) where
  next : (found : Option (ℕ × List ℕ)) → answer ≡ found → OnNamed hash es xs (IsNextName t pfs directory key last found)
  next found is =
      named_still hash es' es xs' xs (IsNextName t pfs directory key last found) same same'
      (named_balanced hash es' xs' (IsNextName t pfs directory key last found)
      (subst (λ (o : Option (ℕ × List ℕ)). OnBalanced es' xs' (IsNextName t pfs directory key last o)) is read))

  -- a search found an entry, whose name was noted
  pub told_noted : (at : ℕ) (name : List ℕ) (now : List (List ℕ)) (new : Bool) → IfSome es IsContent → answer ≡ Some (at, name) → IsLeastKey first
      → first ≤ key → key ≤ at → at < first + 65536 → IsNoted names name now new → KnownTold hash es xs t pfs directory first (at + 1) now
  told_noted at name now new content is least from onward below noted =
      on_content hash es xs (IsNextName t pfs directory key last (Some (at, name))) (λ lists. AreKnown (Counts (fulls lists) t) pfs directory first key names)
      (λ lists. AreKnown (Counts (fulls lists) t) pfs directory first (at + 1) now) (by_test new noted) content (next (Some (at, name)) is) known
    where
      by_test : (b : Bool) → IsNoted names name now b → (lists : Lists) → IsContent lists.0 → KeysFit hash (fulls lists)
          → IsNextName t pfs directory key last (Some (at, name)) lists → AreKnown (Counts (fulls lists) t) pfs directory first key names
          → AreKnown (Counts (fulls lists) t) pfs directory first (at + 1) now
      by_test true (grown, lacked) lists held fit (free, (object, there)) known =
          subst (λ (l : List (List ℕ)). AreKnown (Counts (fulls lists) t) pfs directory first (at + 1) l) (sym grown)
          (known_more (Counts (fulls lists) t) pfs directory first key at names name object (settled_content lists.0 lists.1 t held) from onward free
          (keys_from hash (fulls lists) t pfs directory first at name object least (omega (arith, from, onward)) below fit there) known there lacked)
      by_test false (stayed, had) lists held fit (free, (object, there)) known =
          subst (λ (l : List (List ℕ)). AreKnown (Counts (fulls lists) t) pfs directory first (at + 1) l) (sym stayed)
          (known_past (Counts (fulls lists) t) pfs directory first key at names name object (settled_content lists.0 lists.1 t held) onward free known there
          had)

  -- it found none: fewer lead than there are collision numbers, where fewer were noted
  pub told_few : answer ≡ None → length names < 1024 → last ≡ first + 65535 → OnNamed hash es xs (IsFewNames t pfs directory first true)
  told_few is few wide =
      on_fit hash es xs (IsNextName t pfs directory key last None) (λ lists. AreKnown (Counts (fulls lists) t) pfs directory first key names)
      (IsFewNames t pfs directory first true)
      (λ lists fit none known. (
        length names,
        few,
        most_on (Counts (fulls lists) t) pfs directory first key (first + 65536) (length names)
            (λ k from below. none k from (omega (arith, below, wide))) known.just.0,
      ))
      (next None is) known

  -- it found none, so that not each key with a collision number is taken
  pub told_untaken : answer ≡ None → first ≤ key → key < first + 1024 → last ≡ first + 1024 - 1
      → OnNamed hash es xs (IsHiddenKey t pfs directory first None)
  told_untaken is from below wide =
      on_fit hash es xs (IsNextName t pfs directory key last None) (IsNextName t pfs directory key last None) (IsHiddenKey t pfs directory first None)
      (λ lists fit none again taken. absurd (taken key from below (none key (omega arith) (omega (arith, below, wide)))))
      (next None is) (next None is)

  -- it found an entry whose name was there
  pub told_hidden : (at : ℕ) (name : List ℕ) (now : List (List ℕ)) → answer ≡ Some (at, name) → first ≤ key → key ≤ at → at ≤ last
      → last ≡ first + 1024 - 1 → IsNoted names name now false → OnNamed hash es xs (IsHiddenKey t pfs directory first (Some at))
  told_hidden at name now is from onward to wide noted =
      on_fit hash es xs (IsNextName t pfs directory key last (Some (at, name))) (λ lists. AreKnown (Counts (fulls lists) t) pfs directory first key names)
      (IsHiddenKey t pfs directory first (Some at))
      (λ lists fit found known.
      let (free, (object, there)) = found in (
        omega (arith, from, onward),
        omega (arith, to, wide),
        known_behind (Counts (fulls lists) t) pfs directory first key at names name object onward known there noted.1,
      ))
      (next (Some (at, name)) is) known

  -- where each key is taken, as many names are noted as keys were looked at
  pub told_taken : (at : ℕ) (name : List ℕ) (now : List (List ℕ)) → answer ≡ Some (at, name) → first ≤ key → key < first + 1024 → key ≤ at
      → IsNoted names name now true
      → OnNamed hash es xs (λ lists. AreTaken (Counts (fulls lists) t) pfs directory first (first + 1024) → length names ≡ key - first)
      → OnNamed hash es xs (λ lists. AreTaken (Counts (fulls lists) t) pfs directory first (first + 1024) → length now ≡ at + 1 - first)
  told_taken at name now is from below onward noted sized =
      on_fit hash es xs (IsNextName t pfs directory key last (Some (at, name)))
      (λ lists. AreTaken (Counts (fulls lists) t) pfs directory first (first + 1024) → length names ≡ key - first)
      (λ lists. AreTaken (Counts (fulls lists) t) pfs directory first (first + 1024) → length now ≡ at + 1 - first)
      (λ lists fit found sized taken.
      let here = next_taken (Counts (fulls lists) t) pfs directory first key at (first + 1024) from below onward taken found.0 in
      let many = sized taken in
      let grown : length now ≡ length names + 1 = ap length noted.0 ∙ length-append names (name ∷ []) in
      omega (arith, here, many, grown, from))
      (next (Some (at, name)) is) sized

-- a list to which a name was noted has one more at most
pub noted_length : (old : List (List ℕ)) (name : List ℕ) (now : List (List ℕ)) (new : Bool) → IsNoted old name now new → length now ≤ length old + 1
noted_length old name now true noted = let grown : length now ≡ length old + 1 = ap length noted.0 ∙ length-append old (name ∷ []) in omega (arith, grown)
noted_length old name now false noted = omega (arith, ap length noted.0)

-- all keys of the hash were looked at
pub told_few_at : (hash : List ℕ → ℕ) (es : Option (List Element)) (xs : Option (List Extent)) (t pfs : ℕ) (directory : Obj) (first key : ℕ)
    (names : List (List ℕ)) → key ≡ first + 65536 → length names < 1024 → KnownTold hash es xs t pfs directory first key names
    → OnNamed hash es xs (IsFewNames t pfs directory first true)
told_few_at hash es xs t pfs directory first key names end few known =
    let Known : Lists → Type 0 = λ lists. AreKnown (Counts (fulls lists) t) pfs directory first key names in
    on_fit hash es xs Known Known (IsFewNames t pfs directory first true)
    (λ lists fit known again. (
      length names,
      few,
      subst (λ (n : ℕ). HaveAtMost (Counts (fulls lists) t) pfs directory first n (length names)) end known.just.0,
    ))
    known known

-- as many were noted as there are collision numbers
pub told_many : (hash : List ℕ → ℕ) (es : Option (List Element)) (xs : Option (List Extent)) (t pfs : ℕ) (directory : Obj) (first end : ℕ)
    (names : List (List ℕ)) → length names ≡ 1024 → end ≤ first + 65536 → KnownTold hash es xs t pfs directory first end names
    → OnNamed hash es xs (IsFewNames t pfs directory first false)
told_many hash es xs t pfs directory first end names many to known =
    let Known : Lists → Type 0 = λ lists. AreKnown (Counts (fulls lists) t) pfs directory first end names in
    on_fit hash es xs Known Known (IsFewNames t pfs directory first false)
    (λ lists fit known again. subst (λ (n : ℕ). HaveAtLeast (Counts (fulls lists) t) pfs directory first (first + 65536) n) many
    (least_on (Counts (fulls lists) t) pfs directory first end (first + 65536) (length names) to known.just.1))
    known known

-- each key with a collision number was looked at
pub told_all : (hash : List ℕ → ℕ) (es : Option (List Element)) (xs : Option (List Extent)) (t pfs : ℕ) (directory : Obj) (first key : ℕ)
    (names : List (List ℕ)) → key ≡ first + 1024 → KnownTold hash es xs t pfs directory first key names
    → OnNamed hash es xs (λ lists. AreTaken (Counts (fulls lists) t) pfs directory first (first + 1024) → length names ≡ key - first)
    → OnNamed hash es xs (IsHiddenKey t pfs directory first None)
told_all hash es xs t pfs directory first key names end known sized =
    on_fit hash es xs (λ lists. AreKnown (Counts (fulls lists) t) pfs directory first key names)
    (λ lists. AreTaken (Counts (fulls lists) t) pfs directory first (first + 1024) → length names ≡ key - first) (IsHiddenKey t pfs directory first None)
    (λ lists fit known sized taken.
    let many = sized taken in
    subst (λ (n : ℕ). HaveAtLeast (Counts (fulls lists) t) pfs directory first (first + 65536) n) (omega (arith, many, end))
    (least_on (Counts (fulls lists) t) pfs directory first key (first + 65536) (length names) (omega (arith, end)) known.just.1))
    known sized

-- ---- the answer

module _ (hash : List ℕ → ℕ) (es : Option (List Element)) (xs : Option (List Extent)) (t pfs : ℕ) (directory : Obj) (name : List ℕ) (first : ℕ)
    (number : first ≡ first_key (hash name)) where
  -- a spot is found for the name, in whatever tree the content shows
  abbrev pub IsFound : Option Spot → Lists → Type 0
  IsFound found lists =
      (tree : FileTree) → IsViewOf (fulls lists) pfs t tree → IsSpotFor hash (Counts (fulls lists) t) tree pfs directory name found

  many_names : (lists : Lists) → KeysFit hash (fulls lists) → AreMany (Counts (fulls lists) t) pfs directory first → IsFound None lists
  many_names lists fit many tree view = at_least hash (fulls lists) t pfs tree directory name fit view first 1024 number many

  few_names : (lists : Lists) → KeysFit hash (fulls lists) → AreFewer (Counts (fulls lists) t) pfs directory first → (tree : FileTree)
      → IsViewOf (fulls lists) pfs t tree → names_of_hash hash tree directory name < 1024
  few_names lists fit (count, few, most) tree view =
      let some = at_most hash (fulls lists) t pfs tree directory name fit view first count number most in omega (arith, some, few)

  pub spot_full : OnNamed hash es xs (IsFewNames t pfs directory first false) → OnNamed hash es xs (IsFound None)
  spot_full many =
      on_fit hash es xs (IsFewNames t pfs directory first false) (IsFewNames t pfs directory first false) (IsFound None)
      (λ lists fit many again. many_names lists fit many) many many

  pub spot_free : (key : ℕ) → OnNamed hash es xs (IsFewNames t pfs directory first true) → OnNamed hash es xs (IsFreeKey t pfs directory first (Some key))
      → OnNamed hash es xs (IsFound (Some (record { key = key; hidden = false })))
  spot_free key few free =
      on_fit hash es xs (IsFewNames t pfs directory first true) (IsFreeKey t pfs directory first (Some key))
      (IsFound (Some (record { key = key; hidden = false })))
      (λ lists fit few free tree view. (
        few_names lists fit few tree view,
        record { from = omega (arith, free.0, number); to = omega (arith, free.1, number); takes = free.2 },
      ))
      few free

  pub spot_hidden : (key : ℕ) → OnNamed hash es xs (IsFewNames t pfs directory first true)
      → OnNamed hash es xs (IsHiddenKey t pfs directory first (Some key)) → OnNamed hash es xs (IsFound (Some (record { key = key; hidden = true })))
  spot_hidden key few hidden =
      on_fit hash es xs (IsFewNames t pfs directory first true) (IsHiddenKey t pfs directory first (Some key))
      (IsFound (Some (record { key = key; hidden = true })))
      (λ lists fit few hidden tree view. (
        few_names lists fit few tree view,
        record { from = omega (arith, hidden.0, number); to = omega (arith, hidden.1, number); takes = inr hidden.2 },
      ))
      few hidden

  pub spot_none : OnNamed hash es xs (IsFreeKey t pfs directory first None) → OnNamed hash es xs (IsHiddenKey t pfs directory first None)
      → OnNamed hash es xs (IsFound None)
  spot_none taken least =
      on_fit hash es xs (IsFreeKey t pfs directory first None) (IsHiddenKey t pfs directory first None) (IsFound None)
      (λ lists fit taken least. many_names lists fit (least taken)) taken least
