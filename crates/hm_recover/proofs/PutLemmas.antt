-- How the pages of a range are put back, one after another.
use Rattle.std.proofs.Common.{◌≡◌, ◌⊎◌, inl, inr, ⊎_elim, ℕ, ◌+◌, ◌<◌, ◌≤◌, List, [], ◌∷◌}
use Rattle.std.proofs.Common.{sym, ap, subst, ◌∙◌, arith, length, get_or, drop, Option, None, Some, IfSome, Result, Ok, Err, OnOk, OnErr}
use Rattle.std.proofs.lemmas.List.{drop_all, drop_more}
use Rattle.hm_types.specs.Offset.{byte_of}
use Rattle.hm_disk.specs.Crash.{Told, MayLeave, Outside}
use Rattle.hm_disk.specs.Disk.{MayBeTorn, Written, overwritten}
use Rattle.hm_disk.specs.Moments.{CallElapses, Elapses, LeftSince, SameLeft, WriteElapses}
use Rattle.hm_disk.specs.Transfer.{TornAll}
use Rattle.hm_disk.proofs.CrashLemmas.{MayLeave-same, MayLeave-through}
use Rattle.hm_disk.proofs.MomentLemmas.{Elapses-more, Elapses-none}
use Rattle.hm_disk.proofs.OverwriteLemmas.{MayLeave-overwritten}
use Rattle.hm_header.specs.declared.header.Header.{Header}
use Rattle.hm_undo.specs.Log.{entry_at}
use Rattle.hm_undo.specs.Range.{HasUndoEntry, HasRange, OldPage, old_places_of, put_back}
use Rattle.hm_undo.proofs.RangeLemmas.{entry-one, entry-same, range-entry}
use Rattle.hm_types.specs.Told.{BothTell}
use Rattle.hm_disk.proofs.DiskLemmas.{BothTell-and, BothTell-map}
use Rattle.hm_recover.specs.Damage.{IsWholeEntry, old_page}
use Rattle.hm_recover.specs.Put.{HasPutPage, MayPut, MayPutPage, MayPutPages}
use Rattle.hm_recover.proofs.PageLemmas.{entry-small, outside-page, range-out}

-- a page that was written, or not, or in part
pub torn-written : (place : ℕ) (bytes : List ℕ) (s t : Told) → place + length bytes ≤ length s.bytes → Written place bytes s t
    → TornAll place (length bytes) s t
torn-written place bytes s t fits written = record {
  bytes_are = subst (λ (bs : List ℕ). MayLeave s.bytes ((place, length bytes) ∷ []) bs) (sym written.bytes_are)
      (MayLeave-overwritten s.bytes place (length bytes) bytes (omega arith) fits);
  unsettled_are = λ byte outside. subst (λ (ranges : List (ℕ × ℕ)). Outside ranges byte) (sym written.unsettled_are) outside;
  moment_is = written.moment_is;
}

pub torn-failed : (place count : ℕ) (s t : Told) → MayBeTorn place count s t → TornAll place count s t
torn-failed place count s t (inl torn) = record {
  bytes_are = torn.bytes_are;
  unsettled_are = λ byte outside. subst (λ (ranges : List (ℕ × ℕ)). Outside ranges byte) (sym torn.unsettled_are) outside;
  moment_is = torn.moment_is;
}
torn-failed place count s t (inr same) = record {
  bytes_are = subst (λ (bs : List ℕ). MayLeave s.bytes ((place, count) ∷ []) bs) (sym same.bytes_are) (MayLeave-same s.bytes ((place, count) ∷ []));
  unsettled_are = λ byte outside. subst (λ (ranges : List (ℕ × ℕ)). Outside ranges byte) (sym same.unsettled_are) outside.1;
  moment_is = same.moment_is;
}

-- a read before a call
pub elapses-after-read : (Within : List ℕ → Type 0) (past middle since : LeftSince) (old new : Told) → SameLeft past middle
    → Elapses Within middle since old new → Elapses Within past since old new
elapses-after-read Within past middle since old new same time = record {
  later = time.later;
  size = time.size;
  only = λ moment image early left. ⊎_elim (λ was. inl ((same moment image).1 was)) (λ within. inr within) (time.only moment image early left);
  keeps = λ moment image early left. time.keeps moment image early ((same moment image).0 left);
}

-- so many pages are put back: all from this one on
pub record PutSoFar (olds : List OldPage) (left : ℕ) (past since : LeftSince) (old new : Told) : Type 0 where
  pub bytes_are : new.bytes ≡ put_back old.bytes (drop left olds)
  pub rest : MayPutPages olds past since old new

-- before the first
pub so-far-none : (olds : List OldPage) (left : ℕ) (past : LeftSince) (s : Told) → length olds ≡ left → PutSoFar olds left past past s s
so-far-none olds left past s count = record {
  bytes_are = sym (ap (λ (rest : List OldPage). put_back s.bytes rest) (drop_all left olds (omega (arith, count))));
  rest = record {
    bytes_are = MayLeave-same s.bytes (old_places_of olds);
    unsettled_are = λ byte outside settled. settled;
    time = λ none. Elapses-none (MayLeave s.bytes (old_places_of olds)) past s;
  };
}

-- one page more, or a part of it
pub pages-more : (olds : List OldPage) (page : OldPage) (past middle since : LeftSince) (s t u : Told)
    → ((byte : ℕ) → Outside (old_places_of olds) byte → (byte < byte_of page.at) ⊎ (byte_of page.at + length page.bytes ≤ byte))
    → MayPutPages olds past middle s t → MayPutPage page middle since t u → MayPutPages olds past since s u
pages-more olds page past middle since s t u away first then = record {
  bytes_are = MayLeave-through s.bytes t.bytes u.bytes (old_places_of olds) ((byte_of page.at, length page.bytes) ∷ []) first.bytes_are
      (λ byte outside. (away byte outside, tt)) then.torn.bytes_are;
  unsettled_are = λ byte outside settled. then.torn.unsettled_are byte (away byte outside, first.unsettled_are byte outside settled);
  time = λ none. Elapses-more _ _ past middle since s t u (first.time none) then.time
      (λ image left. MayLeave-through s.bytes t.bytes image (old_places_of olds) ((byte_of page.at, length page.bytes) ∷ t.unsettled) first.bytes_are
      (λ byte outside. (
        away byte outside,
        first.unsettled_are byte outside (subst (λ (ranges : List (ℕ × ℕ)). Outside ranges byte) (sym none) tt),
      )) left);
}

abbrev pub none-old : OldPage
none-old = record { at = 0; bytes = [] }

module _ (header : Header) (olds : List OldPage) (s : Told) (range : HasRange s.bytes header olds) (past middle since : LeftSince) (t u : Told) (i : ℕ)
    (below : i < header.undo_count) (first : PutSoFar olds (i + 1) past middle s t) where
  abbrev pub page-here : OldPage
  page-here = get_or olds i none-old

  inside : i < length olds
  inside = omega (arith, below, range.count)

  -- the entry has its page still
  pub still-entry : HasUndoEntry t.bytes header (entry_at header.undo_first i) page-here
  still-entry =
      entry-same s.bytes t.bytes header (entry_at header.undo_first i) page-here first.rest.bytes_are.size
      (λ byte within fits. first.rest.bytes_are.same byte fits
      (range-out s.bytes header olds range (entry_at header.undo_first i) byte (entry-small header.undo_first i) within))
      (range-entry s.bytes header olds range i none-old inside)

  pub may-more : MayPut header (entry_at header.undo_first i) middle since t u → MayPutPages olds past since s u
  may-more put =
      pages-more olds page-here past middle since s t u (outside-page olds i none-old inside) first.rest (put page-here still-entry)

  pub so-far-more : HasPutPage header (entry_at header.undo_first i) t u → MayPut header (entry_at header.undo_first i) middle since t u
      → PutSoFar olds i past since s u
  so-far-more has put = record {
    bytes_are =
        (has page-here still-entry).bytes_are
        ∙ (ap (λ (bs : List ℕ). overwritten bs (byte_of page-here.at) page-here.bytes) first.bytes_are
        ∙ ap (λ (rest : List OldPage). put_back s.bytes rest) (sym (drop_more olds i none-old inside)));
    rest = may-more put;
  }

pub still-whole : (header : Header) (olds : List OldPage) (s : Told) → HasRange s.bytes header olds → (past middle : LeftSince) (t : Told) (i : ℕ)
    → i < header.undo_count → PutSoFar olds (i + 1) past middle s t → IsWholeEntry t.bytes header (entry_at header.undo_first i)
still-whole header olds s range past middle t i below first =
    (get_or olds i none-old, still-entry header olds s range past middle middle t t i below first)

-- the page that was read is the one that the entry has
pub page-put : (old new : Option Told) (header : Header) (entry at : ℕ) (bytes : List ℕ)
    → IfSome old (λ t. HasUndoEntry t.bytes header entry (old_page at bytes)) → BothTell old new (Written (byte_of at) bytes)
    → BothTell old new (HasPutPage header entry)
page-put old new header entry at bytes has written =
    BothTell-map old new (λ t. HasUndoEntry t.bytes header entry (old_page at bytes)) (Written (byte_of at) bytes) (HasPutPage header entry)
    (λ s t here put page there. subst (λ (o : OldPage). Written (byte_of o.at) o.bytes s t)
    (entry-one s.bytes header entry (old_page at bytes) page here there) put) has written

pub page-may : (old new : Option Told) (header : Header) (entry at : ℕ) (bytes : List ℕ) (past since : LeftSince)
    → IfSome old (λ t. HasUndoEntry t.bytes header entry (old_page at bytes)) → BothTell old new (MayPutPage (old_page at bytes) past since)
    → BothTell old new (MayPut header entry past since)
page-may old new header entry at bytes past since has may =
    BothTell-map old new (λ t. HasUndoEntry t.bytes header entry (old_page at bytes)) (MayPutPage (old_page at bytes) past since)
    (MayPut header entry past since)
    (λ s t here put page there. subst (λ (o : OldPage). MayPutPage o past since s t)
    (entry-one s.bytes header entry (old_page at bytes) page here there) put) has may

-- a page was written, successfully or not
pub page-written : {T E : Type 0} (r : Result T E) (old new : Option Told) (at place : ℕ) (page bytes : List ℕ) (past since : LeftSince)
    → place ≡ byte_of at → bytes ≡ page → IfSome old (λ t. place + length bytes ≤ length t.bytes)
    → OnOk r (BothTell old new (Written place bytes)) → OnErr r (BothTell old new (MayBeTorn place (length bytes)))
    → BothTell old new (CallElapses place (length bytes) past since) → BothTell old new (MayPutPage (old_page at page) past since)
page-written r old new at place page bytes past since here same within ok err time =
    subst (λ (bs : List ℕ). BothTell old new (MayPutPage (old_page at bs) past since)) same
    (BothTell-map old new (λ t. place + length bytes ≤ length t.bytes)
    (λ s t. TornAll place (length bytes) s t × CallElapses place (length bytes) past since s t)
    (MayPutPage (old_page at bytes) past since)
    (λ s t fits both. record {
      torn = subst (λ (n : ℕ). TornAll n (length bytes) s t) here both.0;
      time = subst (λ (n : ℕ). WriteElapses n (length bytes) past since s t) here both.1.begun;
    }) within (BothTell-and old new _ _ (torn r ok err) time))
  where
    torn : {T E : Type 0} (r : Result T E) → OnOk r (BothTell old new (Written place bytes)) → OnErr r (BothTell old new (MayBeTorn place (length bytes)))
        → BothTell old new (TornAll place (length bytes))
    torn (Ok x) ok err =
        BothTell-map old new (λ t. place + length bytes ≤ length t.bytes) (Written place bytes) (TornAll place (length bytes))
        (λ s t fits written. torn-written place bytes s t fits written) within ok
    torn (Err e) ok err =
        BothTell-map old new (λ t. place + length bytes ≤ length t.bytes) (MayBeTorn place (length bytes)) (TornAll place (length bytes))
        (λ s t fits may. torn-failed place (length bytes) s t may) within err

-- after a read
pub may-put : (old new : Option Told) (page : OldPage) (past middle since : LeftSince) → SameLeft past middle → BothTell old new (MayPutPage page middle since)
    → BothTell old new (MayPutPage page past since)
may-put None None page past middle since same may = tt
may-put (Some s) (Some t) page past middle since same may =
    record { torn = may.torn; time = elapses-after-read _ past middle since s t same may.time }
may-put None (Some t) page past middle since same may = absurd may
may-put (Some s) None page past middle since same may = absurd may
