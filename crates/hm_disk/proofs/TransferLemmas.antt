-- What several writes of one transfer come to.
use Rattle.std.proofs.Common.{◌≡◌, ◌⊎◌, inl, inr, ⊎_elim, ℕ, ◌+◌, ◌-◌, ◌<◌, ◌≤◌, List, [], ◌∷◌, ◌++◌, sym, ◌∙◌, ap, subst, arith, length, take}
use Rattle.std.proofs.Common.{get_or, slice_range, Option, Some, None, IfSome}
use Rattle.std.proofs.lemmas.List.{places, ext_get_or, get_or-append_right}
use Rattle.std.proofs.lemmas.Slice.{take-put_mid}
use borrow.Rule.Slice.PartMut.{put_mid}
use Rattle.std.proofs.lemmas.Bool.{cases_lt}
use Rattle.hm_disk.specs.Crash.{Told, Outside, MayLeave}
use Rattle.hm_disk.specs.Disk.{overwritten, Written}
use Rattle.hm_disk.specs.Moments.{CallElapses, LeftSince, WriteElapses, SyncElapses}
use Rattle.hm_disk.specs.Transfer.{UnsettlesAtMost, WrittenAll}
use Rattle.hm_disk.proofs.CrashLemmas.{MayLeave-through, MayLeave-fewer}
use Rattle.hm_disk.proofs.MomentLemmas.{Elapses-more}
use Rattle.hm_disk.proofs.OverwriteLemmas.{MayLeave-overwritten, overwritten-more}

-- so many of the bytes are written
pub record WrittenSoFar (place : ℕ) (bytes : List ℕ) (done : ℕ) (past since : LeftSince) (old new : Told) : Type 0 where
  pub bytes_are : new.bytes ≡ overwritten old.bytes place (take done bytes)
  pub unsettled_are : UnsettlesAtMost place (length bytes) old new
  pub moment_is : new.moment ≡ old.moment
  pub elapses : WriteElapses place (length bytes) past since old new

-- a write of many pieces
module _ (place : ℕ) (bytes : List ℕ) (past : LeftSince) where
  module _ (done count : ℕ) (within : done + count ≤ length bytes) (middle since : LeftSince) (s t u : Told) (fits : place + length bytes ≤ length s.bytes)
      (first : WrittenSoFar place bytes done past middle s t) where
    -- the range of the piece lies in the whole range
    narrower : (byte : ℕ) → Outside ((place, length bytes) ∷ s.unsettled) byte → Outside ((place + done, count) ∷ t.unsettled) byte
    narrower byte outside = (apart outside.0, first.unsettled_are byte outside)
      where
        apart : (byte < place) ⊎ (place + length bytes ≤ byte) → (byte < place + done) ⊎ (place + done + count ≤ byte)
        apart (inl low) = inl (omega arith)
        apart (inr high) = inr (omega arith)

    front : length (take done bytes) ≡ done
    front = grind (arith, places)

    changed : MayLeave s.bytes ((place, length bytes) ∷ []) t.bytes
    changed = subst (λ (bs : List ℕ). MayLeave s.bytes ((place, length bytes) ∷ []) bs) (sym first.bytes_are)
        (MayLeave-overwritten s.bytes place (length bytes) (take done bytes) (omega (arith, front)) fits)

    -- a crash within the piece leaves only what one within the whole write may leave
    elapses : WriteElapses (place + done) count middle since t u → WriteElapses place (length bytes) past since s u
    elapses then = Elapses-more _ _ past middle since s t u first.elapses then
        (λ image left. MayLeave-through s.bytes t.bytes image ((place, length bytes) ∷ s.unsettled) ((place + done, count) ∷ t.unsettled)
        (MayLeave-fewer s.bytes t.bytes ((place, length bytes) ∷ s.unsettled) ((place, length bytes) ∷ []) (λ byte outside. (outside.0, tt)) changed)
        narrower left)

    -- one piece more
    pub WrittenSoFar-more : Written (place + done) (slice_range bytes done (done + count)) t u → CallElapses (place + done) count middle since t u
        → WrittenSoFar place bytes (done + count) past since s u
    WrittenSoFar-more then time = record {
      bytes_are = then.bytes_are ∙ (ap (λ bs. overwritten bs (place + done) (slice_range bytes done (done + count))) first.bytes_are
          ∙ overwritten-more s.bytes place bytes done count fits within);
      unsettled_are = λ byte outside. subst (λ (ranges : List (ℕ × ℕ)). Outside ranges byte) (sym then.unsettled_are)
          (subst (λ (n : ℕ). Outside ((place + done, n) ∷ t.unsettled) byte) (sym range) (narrower byte outside));
      moment_is = then.moment_is ∙ first.moment_is;
      elapses = elapses time.begun;
    }
      where
        range : length (slice_range bytes done (done + count)) ≡ count
        range = grind (arith, places)

-- a sync after all pieces
pub WriteElapses-synced : (place : ℕ) (bytes : List ℕ) (past middle since : LeftSince) (s t u : Told) → place + length bytes ≤ length s.bytes
    → WrittenAll place bytes s t → WriteElapses place (length bytes) past middle s t → SyncElapses middle since t u
    → WriteElapses place (length bytes) past since s u
WriteElapses-synced place bytes past middle since s t u fits written first then = Elapses-more _ _ past middle since s t u first then
    (λ image left. MayLeave-through s.bytes t.bytes image ((place, length bytes) ∷ s.unsettled) t.unsettled
    (MayLeave-fewer s.bytes t.bytes ((place, length bytes) ∷ s.unsettled) ((place, length bytes) ∷ []) (λ byte outside. (outside.0, tt))
    (subst (λ (bs : List ℕ). MayLeave s.bytes ((place, length bytes) ∷ []) bs) (sym written.bytes_are)
    (MayLeave-overwritten s.bytes place (length bytes) bytes (omega arith) fits)))
    written.unsettled_are left)

range-more : (bytes : List ℕ) (place done count : ℕ) → place + (done + count) ≤ length bytes
    → slice_range bytes place (place + done) ++ slice_range bytes (place + done) (place + done + count) ≡ slice_range bytes place (place + (done + count))
range-more bytes place done count within =
    ext_get_or 0 (slice_range bytes place (place + done) ++ slice_range bytes (place + done) (place + done + count))
    (slice_range bytes place (place + (done + count)))
    (grind (arith, places)) (λ i below. ⊎_elim (λ early. early_byte i early) (λ late. late_byte i (omega (arith, below, both)) late) (cases_lt i done))
  where
    front : length (slice_range bytes place (place + done)) ≡ done
    front = grind (arith, places)

    both : length (slice_range bytes place (place + done) ++ slice_range bytes (place + done) (place + done + count)) ≡ done + count
    both = grind (arith, places)

    early_byte : (i : ℕ) → i < done → get_or (slice_range bytes place (place + done) ++ slice_range bytes (place + done) (place + done + count)) i
        0 ≡ get_or (slice_range bytes place (place + (done + count))) i 0
    early_byte i early = grind (arith, places)

    late_byte : (i : ℕ) → i < done + count → done ≤ i → get_or (slice_range bytes place (place + done) ++ slice_range bytes (place + done)
        (place + done + count)) i 0 ≡ get_or (slice_range bytes place (place + (done + count))) i 0
    late_byte i below late = get_or-append_right _ _ done i 0 front late ∙ grind (arith, places)

-- one piece more is filled in
pub filled-more : (told : Option Told) (place done count : ℕ) (buf piece : List ℕ) → length piece ≡ count → done + count ≤ length buf
    → IfSome told (λ t. place + length buf ≤ length t.bytes) → IfSome told (λ t. take done buf ≡ slice_range t.bytes place (place + done))
    → IfSome told (λ t. piece ≡ slice_range t.bytes (place + done) (place + done + count))
    → IfSome told (λ t. take (done + count) (put_mid done (done + count - done) buf piece) ≡ slice_range t.bytes place (place + (done + count)))
filled-more None place done count buf piece long within fits front next = tt
filled-more (Some t) place done count buf piece long within fits front next =
    take-put_mid done (done + count - done) buf piece (done + count) (omega (arith, long)) (omega arith)
    ∙ (ap (λ bs. bs ++ piece) front ∙ (ap (λ bs. slice_range t.bytes place (place + done) ++ bs) next ∙ range-more t.bytes place done count (omega arith)))
