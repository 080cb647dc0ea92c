-- The entries of a directory under a span of keys, by what a search for the first one of them answers.
use Rattle.std.proofs.Common.{◌≡◌, ℕ, ◌<◌, ◌≤◌, List, Option, Err, None, Some, length, ap, sym, subst, ◌∙◌, true≢false, arith}
use Rattle.std.specs.Prelude.{IfSome, is_some}
use Rattle.std.proofs.lemmas.List.Elements.{All-contains}
use Rattle.hm_types.specs.Elements.{Key}
use Rattle.hm_types.specs.Faults.{IsCaused}
use Rattle.hm_types.specs.declared.fault.Fault.{Fault}
use Rattle.hm_types.specs.declared.fault.Fault.TheVariants.{Media, Damaged, NoMemory}
use Rattle.hm_types.specs.declared.id.Obj.{Obj}
use Rattle.hm_key.specs.Balance.{Balanced, IsHeld, full_elements, payload_of}
use Rattle.hm_key.specs.Counts.{Counts, Subject, entry_subject, subject_of}
use Rattle.hm_key.specs.Elements.{element_key}
use Rattle.hm_key.specs.Extents.{AreExtents, Extent}
use Rattle.hm_key.specs.declared.element.Element.{Element}
use Rattle.hm_records.specs.Changes.{CountsNothing}
use Rattle.hm_records.specs.Payload.{SpellsEntry}
use Rattle.hm_records.proofs.EntryLemmas.{length-entry}
use Rattle.hm_cursor.specs.Names.{IsNoEntry}
use Rattle.hm_cursor.specs.Read.{IsTooLong}
use Rattle.hm_cursor.specs.Told.{HasReadingCause, IsPayloadDamage, OnBalanced}
use Rattle.hm_cursor.specs.Version.{IsCountedIn, IsFirst, IsFirstIn, IsFoundIn, IsInSpan, IsLastIn, IsNewestOf, numbered}
use Rattle.hm_cursor.proofs.PayloadLemmas.{length-payload}
use Rattle.hm_cursor.proofs.ToldLemmas.{counts_newest, newest_counted}

-- an element that a search found has a number in the span, whatever the store tells
pub found_between : (at : Key) (pfs : ℕ) (directory : Obj) (key last t : ℕ) (found : Option Element) (e : Element)
    → subject_of at ≡ entry_subject pfs directory.0 key → found ≡ Some e → IfSome found (IsFoundIn at last t)
    → (key ≤ e.base.key) × (e.base.key ≤ last)
found_between at pfs directory key last t found e here is known =
    let place = (subst (λ (o : Option Element). IfSome o (IsFoundIn at last t)) is known).seen.place in
    (omega (arith, place.from, ap (λ (s : Subject). s.key) here), place.to)

pub found_down : (at : Key) (pfs : ℕ) (directory : Obj) (key first t : ℕ) (found : Option Element) (e : Element)
    → subject_of at ≡ entry_subject pfs directory.0 key → found ≡ Some e → IfSome found (IsFoundIn (numbered at first) at.key t)
    → (first ≤ e.base.key) × (e.base.key ≤ key)
found_down at pfs directory key first t found e here is known =
    let place = (subst (λ (o : Option Element). IfSome o (IsFoundIn (numbered at first) at.key t)) is known).seen.place in
    (place.from, omega (arith, place.to, ap (λ (s : Subject). s.key) here))

module _ (es : List Element) (xs : List Extent) (at : Key) (pfs : ℕ) (directory : Obj) (key last t : ℕ)
    (here : subject_of at ≡ entry_subject pfs directory.0 key) where
  -- an element in the span is an entry of the directory
  pub about_entry : (e : Element) → IsInSpan at last (element_key e) → subject_of (element_key e) ≡ entry_subject pfs directory.0 e.base.key
  about_entry e place = λ i. record {
    localization = (place.localization ∙ ap (λ (s : Subject). s.localization) here) i;
    obj = (place.obj ∙ ap (λ (s : Subject). s.obj) here) i;
    rec_type = (place.rec_type ∙ ap (λ (s : Subject). s.rec_type) here) i;
    key = e.base.key;
  }

  pub from_key : (e : Element) → IsInSpan at last (element_key e) → key ≤ e.base.key
  from_key e place = omega (arith, place.from, ap (λ (s : Subject). s.key) here)

  -- what counts under a key of the span is an element's there
  counted_in : (k : ℕ) → key ≤ k → k ≤ last → (bytes : List ℕ) → Counts (full_elements es xs) t (entry_subject pfs directory.0 k) bytes
      → (e : Element) × IsCountedIn es at last t e × (e.base.key ≡ k)
  counted_in k from to bytes counts =
      let (e, newest, same) = newest_counted es xs (entry_subject pfs directory.0 k) t bytes counts in
      let about : subject_of (element_key e) ≡ entry_subject pfs directory.0 k = newest.version.about in
      let number : e.base.key ≡ k = ap (λ (s : Subject). s.key) about in (
        e,
        record {
          counts = subst (λ (s : Subject). IsNewestOf es s t e) (sym about) newest;
          place = record {
            localization = ap (λ (s : Subject). s.localization) about ∙ sym (ap (λ (s : Subject). s.localization) here);
            obj = ap (λ (s : Subject). s.obj) about ∙ sym (ap (λ (s : Subject). s.obj) here);
            rec_type = ap (λ (s : Subject). s.rec_type) about ∙ sym (ap (λ (s : Subject). s.rec_type) here);
            from = omega (arith, number, from, ap (λ (s : Subject). s.key) here);
            to = omega (arith, number, to);
          };
        },
        number,
      )

  -- where no element is found, none counts in the span
  pub none_in : IsFirst es at last t None → (k : ℕ) → key ≤ k → k ≤ last
      → CountsNothing (Counts (full_elements es xs) t) (entry_subject pfs directory.0 k)
  none_in none k from to bytes counts = let s = counted_in k from to bytes counts in none s.0 s.1

  -- none counts before the first one
  pub none_before : (e : Element) → IsFirstIn es at last t e → (k : ℕ) → key ≤ k → k < e.base.key
      → CountsNothing (Counts (full_elements es xs) t) (entry_subject pfs directory.0 k)
  none_before e is k from before bytes counts =
      let s = counted_in k from (omega (arith, is.place.to, before)) bytes counts in
      absurd (omega (arith, is.first s.0 s.1, s.2, before))

  -- none counts after the last one
  pub none_after : (e : Element) → IsLastIn es at last t e → (k : ℕ) → e.base.key < k → k ≤ last
      → CountsNothing (Counts (full_elements es xs) t) (entry_subject pfs directory.0 k)
  none_after e is k after to bytes counts =
      let s = counted_in k (omega (arith, from_key e is.place, after)) to bytes counts in
      absurd (omega (arith, is.most s.0 s.1, s.2, after))

  -- and the payload of one that counts in the span does
  pub placed_counts : (e : Element) → IsInSpan at last (element_key e) → IsNewestOf es (subject_of (element_key e)) t e
      → Counts (full_elements es xs) t (entry_subject pfs directory.0 e.base.key) (payload_of xs e)
  placed_counts e place counts =
      subst (λ (s : Subject). Counts (full_elements es xs) t s (payload_of xs e)) (about_entry e place)
      (counts_newest es xs (subject_of (element_key e)) t e counts)

  pub first_counts : (e : Element) → IsFirstIn es at last t e
      → Counts (full_elements es xs) t (entry_subject pfs directory.0 e.base.key) (payload_of xs e)
  first_counts e is = placed_counts e is.place is.counts

-- a key of an entry's kind is about the entry with its number
pub numbered_entry : (at : Key) (pfs : ℕ) (directory : Obj) (key first : ℕ) → subject_of at ≡ entry_subject pfs directory.0 key
    → subject_of (numbered at first) ≡ entry_subject pfs directory.0 first
numbered_entry at pfs directory key first here = λ i. record {
  localization = (here i).localization;
  obj = (here i).obj;
  rec_type = (here i).rec_type;
  key = first;
}

-- a payload that is longer than any entry spells none
pub long_entry : (read : Option (List Extent)) (e : Element) (fault : Fault) → IfSome read AreExtents → IfSome read (λ xs. IsHeld xs e)
    → IfSome read (λ _. IsTooLong e 263 fault) → IfSome read (λ xs. IsNoEntry xs e fault)
long_entry None e fault live held long = tt
long_entry (Some xs) e (Media before after) live held long = tt
long_entry (Some xs) e (Damaged at kind) live held long = (
  long.0,
  long.1,
  λ (spelled : SpellsEntry (payload_of xs e)).
      omega (arith, long.2, length-payload xs e live held, ap length spelled.2, length-entry spelled.0, spelled.1.name.size),
)
long_entry (Some xs) e NoMemory live held long = tt

-- the payload of an element that counts in a balanced store is held
pub held_newest : (es : Option (List Element)) (xs : Option (List Extent)) (s : Subject) (t : ℕ) (e : Element) → is_some xs ≡ is_some es → Balanced es xs
    → IfSome es (λ list. IsNewestOf list s t e) → IfSome xs (λ extents. IsHeld extents e)
held_newest es None s t e together balanced newest = tt
held_newest None (Some xs) s t e together balanced newest = absurd (true≢false together)
held_newest (Some es) (Some xs) s t e together balanced newest = All-contains (IsHeld xs) es e balanced.held newest.there

-- a fault of the payload of an entry that counts has its cause, where that spells none
pub entry_fault : {B : Type 0} (es : Option (List Element)) (xs : Option (List Extent)) (old new pfs directory key t : ℕ) (e : Element) (fault : Fault)
    → old ≤ new → IsCaused old new fault → IfSome es (λ list. IsNewestOf list (entry_subject pfs directory key) t e)
    → IfSome xs (λ extents. IsNoEntry extents e fault) → HasReadingCause {T = B} es xs old new (Err fault)
entry_fault {B} es xs old new pfs directory key t e fault rises caused newest none = record {
  counted = record { never_falls = rises; caused = caused };
  damage = by_told es xs newest none;
} where
  damage : (list : List Element) (extents : List Extent) (fault : Fault) → IsNewestOf list (entry_subject pfs directory key) t e → IsNoEntry extents e fault
      → IsPayloadDamage (list, extents) fault
  damage list extents (Media before after) newest none = tt
  damage list extents NoMemory newest none = tt
  damage list extents (Damaged at kind) newest none = (
    none.1,
    record {
      element = e;
      there = newest.there;
      place = sym none.0;
      broken = λ payload. none.2 (payload.entry (ap (λ (s : Subject). s.rec_type) newest.version.about));
    },
  )

  by_told : (es : Option (List Element)) (xs : Option (List Extent)) → IfSome es (λ list. IsNewestOf list (entry_subject pfs directory key) t e)
      → IfSome xs (λ extents. IsNoEntry extents e fault) → OnBalanced es xs (λ lists. IsPayloadDamage lists fault)
  by_told None xs newest none = tt
  by_told (Some list) None newest none = tt
  by_told (Some list) (Some extents) newest none = λ balanced. damage list extents fault newest none
