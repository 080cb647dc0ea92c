-- What counts over elements with their payloads, and which payloads are broken.
use Rattle.std.proofs.Common.{◌≡◌, ◌∙◌, ℕ, ◌≤◌, List, Option, Some, None, ap, refl, sym, subst, take}
use Rattle.std.specs.Prelude.{IfSome}
use Rattle.hm_types.specs.Elements.{FullElement}
use Rattle.hm_key.specs.Balance.{full_elements, full_of, payload_of}
use Rattle.hm_key.specs.Counts.{Counts, IsSeen, Subject, inode_subject, record_subject, subject_of}
use Rattle.hm_key.specs.Extents.{Extent}
use Rattle.hm_key.specs.declared.element.Element.{Element}
use Rattle.hm_records.specs.Changes.{CountsNothing}
use Rattle.hm_records.specs.PfsRecord.{IsPfsRecord, pfs_bytes}
use Rattle.hm_types.specs.Intervals.{open_end}
use Rattle.hm_records.specs.declared.pfs_record.PfsRecord.{PfsRecord}
use Rattle.hm_records.proofs.MemberLemmas.{has_map, map_has}
use Rattle.hm_cursor.specs.Read.{IsReadInto}
use Rattle.hm_cursor.specs.Told.{CountsBytes, IsInodeThen, IsRecordNow, OnBalanced}
use Rattle.hm_cursor.specs.Version.{IsNewestOf, IsVersion}

module _ (es : List Element) (xs : List Extent) (s : Subject) (t : ℕ) where
  -- the payload of the newest version counts
  pub counts_newest : (e : Element) → IsNewestOf es s t e → Counts (full_elements es xs) t s (payload_of xs e)
  counts_newest e is = record {
    element = full_of xs e;
    there = has_map (full_of xs) es e is.there;
    about = is.version.about;
    holds = refl;
    seen = is.version.seen;
    newest = λ other has. let x = map_has (full_of xs) es other has in
        subst (λ (f : FullElement). subject_of f.key ≡ s → f.key.create ≤ t → f.key.create ≤ e.base.create) x.2
        (λ about made. is.newest x.0 x.1 about made);
  }

  -- what counts is the payload of a newest version
  pub newest_counted : (bytes : List ℕ) → Counts (full_elements es xs) t s bytes → (e : Element) × IsNewestOf es s t e × (payload_of xs e ≡ bytes)
  newest_counted bytes counts =
      let x = map_has (full_of xs) es counts.element counts.there in (
        x.0,
        record {
          there = x.1;
          version = record {
            about = subst (λ (f : FullElement). subject_of f.key ≡ s) (sym x.2) counts.about;
            seen = subst (λ (f : FullElement). IsSeen t f) (sym x.2) counts.seen;
          };
          newest = λ other has about made.
              subst (λ (f : FullElement). other.base.create ≤ f.key.create) (sym x.2)
              (counts.newest (full_of xs other) (has_map (full_of xs) es other has) about made);
        },
        ap (λ (f : FullElement). f.bytes) x.2 ∙ counts.holds,
      )

  -- where no version counts, nothing does
  pub counts_none : IsVersion es s t None → CountsNothing (Counts (full_elements es xs) t) s
  counts_none none bytes counts = let (e, newest, same) = newest_counted bytes counts in none e newest

-- what a search for a payload answers where nothing counts
pub searched_none : (es : Option (List Element)) (xs : Option (List Extent)) (s : Subject) (t : ℕ) (buffer : List ℕ) (found : Option Element)
    → found ≡ None → IfSome es (λ list. IsVersion list s t found) → OnBalanced es xs (λ lists. CountsBytes lists t s buffer None)
searched_none None xs s t buffer found is told = tt
searched_none (Some es) None s t buffer found is told = tt
searched_none (Some es) (Some xs) s t buffer found is told =
    λ balanced. counts_none es xs s t (subst (λ (o : Option Element). IsVersion es s t o) is told)

-- what it answers where an element was found and its payload read
pub searched_some : (es : Option (List Element)) (xs read : Option (List Extent)) (s : Subject) (t : ℕ)
    (buffer : List ℕ) (found : Option Element) (e : Element) (len : ℕ)
    → found ≡ Some e → read ≡ xs → IfSome es (λ list. IsVersion list s t found) → IfSome read (λ list. IsReadInto list e buffer len)
    → OnBalanced es xs (λ lists. CountsBytes lists t s buffer (Some (e, len)))
searched_some None xs read s t buffer found e len is same told into = tt
searched_some (Some es) None read s t buffer found e len is same told into = tt
searched_some (Some es) (Some xs) read s t buffer found e len is same told into =
    let newest : IsNewestOf es s t e = subst (λ (o : Option Element). IsVersion es s t o) is told in
    let there : IsReadInto xs e buffer len = subst (λ (o : Option (List Extent)). IfSome o (λ list. IsReadInto list e buffer len)) same into in
    λ balanced. (newest, subst (λ (bytes : List ℕ). Counts (full_elements es xs) t s bytes) (sym there.bytes) (counts_newest es xs s t e newest))

-- the inode of an object where nothing was found
pub inode_none : (es : Option (List Element)) (xs : Option (List Extent)) (s : Subject) (t pfs obj : ℕ) (buffer : List ℕ) (found : Option (Element × ℕ))
    → s ≡ inode_subject pfs obj → found ≡ None → OnBalanced es xs (λ lists. CountsBytes lists t s buffer found)
    → OnBalanced es xs (λ lists. IsInodeThen lists t pfs obj None)
inode_none None xs s t pfs obj buffer found about is told = tt
inode_none (Some es) None s t pfs obj buffer found about is told = tt
inode_none (Some es) (Some xs) s t pfs obj buffer found about is told =
    λ balanced. subst (CountsNothing (Counts (full_elements es xs) t)) about
    (subst (λ (o : Option (Element × ℕ)). CountsBytes (es, xs) t s buffer o) is (told balanced))

-- the record of a pseudo file system where nothing was found
pub record_none : (es : Option (List Element)) (xs : Option (List Extent)) (s : Subject) (pfs : ℕ) (found : Option Element)
    → s ≡ record_subject pfs → found ≡ None → IfSome es (λ list. IsVersion list s open_end found)
    → OnBalanced es xs (λ lists. IsRecordNow lists pfs None)
record_none None xs s pfs found about is told = tt
record_none (Some es) None s pfs found about is told = tt
record_none (Some es) (Some xs) s pfs found about is told =
    λ balanced. subst (CountsNothing (Counts (full_elements es xs) open_end)) about
    (counts_none es xs s open_end (subst (λ (o : Option Element). IsVersion es s open_end o) is told))

-- the record where one was found and read
pub record_some : (es : Option (List Element)) (xs read : Option (List Extent)) (s : Subject) (pfs : ℕ)
    (buffer : List ℕ) (found : Option Element) (e : Element) (len : ℕ) (r : PfsRecord)
    → s ≡ record_subject pfs → found ≡ Some e → read ≡ xs → IfSome es (λ list. IsVersion list s open_end found)
    → IfSome read (λ list. IsReadInto list e buffer len) → IsPfsRecord r → take len buffer ≡ pfs_bytes r
    → OnBalanced es xs (λ lists. IsRecordNow lists pfs (Some r))
record_some None xs read s pfs buffer found e len r about is same told into range spelled = tt
record_some (Some es) None read s pfs buffer found e len r about is same told into range spelled = tt
record_some (Some es) (Some xs) read s pfs buffer found e len r about is same told into range spelled =
    let searched = searched_some (Some es) (Some xs) read s open_end buffer found e len is same told into in
    λ balanced. (
      range,
      subst (λ (s : Subject). Counts (full_elements es xs) open_end s (pfs_bytes r)) about
          (subst (λ (bytes : List ℕ). Counts (full_elements es xs) open_end s bytes) spelled (searched balanced).1),
    )
