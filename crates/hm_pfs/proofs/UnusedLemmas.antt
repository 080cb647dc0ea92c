-- Which numbers have a record, over what a store may tell.
use Rattle.std.proofs.Common.{◌≡◌, ℕ, ◌+◌, ◌<◌, ◌≤◌, ◌^◌, List, Option, Some, None, true, false, true≢false, sym, subst, inl, inr, arith}
use Rattle.std.specs.Prelude.{IfSome, is_some}
use Rattle.std.proofs.lemmas.Bool.{cases_lt}
use Rattle.hm_types.specs.Elements.{FullElement}
use Rattle.hm_types.specs.declared.id.Pfs.{Pfs}
use Rattle.hm_key.specs.Balance.{content_of, full_elements, payload_of}
use Rattle.hm_key.specs.Counts.{Counts, Subject, record_subject}
use Rattle.hm_key.specs.Extents.{Extent}
use Rattle.hm_key.specs.declared.element.Element.{Element}
use Rattle.hm_records.specs.Changes.{CountsNothing}
use Rattle.hm_types.specs.Intervals.{open_end}
use Rattle.hm_cursor.specs.Told.{fulls}
use Rattle.hm_cursor.specs.Version.{IsVersion}
use Rattle.hm_cursor.proofs.ToldLemmas.{counts_newest, counts_none}
use Rattle.hm_pfs.specs.Records.{IsLeastUnused, IsUsed}

-- each number from one on to before another has a record
abbrev pub AllUsed : List FullElement → ℕ → ℕ → Type 0
AllUsed es from end = (other : ℕ) → from ≤ other → other < end → IsUsed es other

-- the same of what a store tells
abbrev pub AllUsedIn : Option (List Element) → Option (List Extent) → ℕ → ℕ → Type 0
AllUsedIn es xs from end = IfSome (content_of es xs) (λ lists. AllUsed (fulls lists) from end)

pub none_used : (es : Option (List Element)) (xs : Option (List Extent)) (from : ℕ) → AllUsedIn es xs from from
none_used None xs from = tt
none_used (Some es) None from = tt
none_used (Some es) (Some xs) from = λ other start end. absurd (omega (arith, start, end))

-- the next number has one
pub one_used : (es now : Option (List Element)) (xs : Option (List Extent)) (s : Subject) (from number : ℕ) (found : Option Element)
    → now ≡ es → s ≡ record_subject number → is_some found ≡ true → IfSome now (λ list. IsVersion list s open_end found) → AllUsedIn es xs from number
    → AllUsedIn es xs from (number + 1)
one_used None now xs s from number found same about is told used = tt
one_used (Some es) now None s from number found same about is told used = tt
one_used (Some es) now (Some xs) s from number found same about is told used = λ other start end. elim (cases_lt other number) [
  | inl before ↦ used other start before
  | inr not ↦ subst (IsUsed (full_elements es xs)) (omega (arith, not, end)) here
] where
  version : IsVersion es s open_end found
  version = subst (λ (o : Option (List Element)). IfSome o (λ list. IsVersion list s open_end found)) same told

  by_found : (o : Option Element) → is_some o ≡ true → IsVersion es s open_end o → IsUsed (full_elements es xs) number
  by_found None there version = absurd (true≢false (sym there))
  by_found (Some e) there version = record {
    bytes = payload_of xs e;
    counts = subst (λ (u : Subject). Counts (full_elements es xs) open_end u (payload_of xs e)) about (counts_newest es xs s open_end e version);
  }

  here : IsUsed (full_elements es xs) number
  here = by_found found is version

-- it has none
pub first_unused : (es now : Option (List Element)) (xs : Option (List Extent)) (s : Subject) (from : ℕ) (pfs : Pfs) (found : Option Element)
    → now ≡ es → s ≡ record_subject pfs.0 → is_some found ≡ false → IfSome now (λ list. IsVersion list s open_end found) → from ≤ pfs.0
    → pfs.0 < 2 ^ 16 → AllUsedIn es xs from pfs.0 → IfSome (content_of es xs) (λ lists. IsLeastUnused (fulls lists) from (Some pfs))
first_unused None now xs s from pfs found same about is told start few used = tt
first_unused (Some es) now None s from pfs found same about is told start few used = tt
first_unused (Some es) now (Some xs) s from pfs found same about is told start few used = record {
  onward = start;
  few = few;
  unused = by_found found is version;
  used = used;
} where
  version : IsVersion es s open_end found
  version = subst (λ (o : Option (List Element)). IfSome o (λ list. IsVersion list s open_end found)) same told

  by_found : (o : Option Element) → is_some o ≡ false → IsVersion es s open_end o
      → CountsNothing (Counts (full_elements es xs) open_end) (record_subject pfs.0)
  by_found None there version = subst (CountsNothing (Counts (full_elements es xs) open_end)) about (counts_none es xs s open_end version)
  by_found (Some e) there version = absurd (true≢false there)

-- all have one
pub all_used : (es : Option (List Element)) (xs : Option (List Extent)) (from end : ℕ) → 2 ^ 16 ≤ end → AllUsedIn es xs from end
    → IfSome (content_of es xs) (λ lists. IsLeastUnused (fulls lists) from None)
all_used None xs from end late used = tt
all_used (Some es) None from end late used = tt
all_used (Some es) (Some xs) from end late used = λ other start before. used other start (omega (arith, late, before))
