-- What an image recovers to while the pages of its range are put back, and while the next header is written.
use Rattle.std.proofs.Common.{◌≡◌, ◌⊎◌, inl, inr, ⊎_elim, ℕ, ◌+◌, ◌-◌, ◌<◌, ◌≤◌, List, [], ◌∷◌, ◌++◌}
use Rattle.std.proofs.Common.{refl, sym, ap, subst, ◌∙◌, arith, length, take, drop, get_or, slice_index, slice_range, length-append, ◌%◌, Option}
use Rattle.std.proofs.Common.{None, Some, IfSome}
use Rattle.std.proofs.lemmas.Bool.{cases_lt}
use Rattle.std.proofs.lemmas.List.{drop_all, drop_more, ext_get_or, take-append-drop}
use Rattle.hm_disk.specs.Crash.{Told, MayLeave, Outside}
use Rattle.hm_disk.specs.Disk.{Synced, overwritten}
use Rattle.hm_disk.specs.Moments.{Elapses, LeftSince, SameLeft, SyncElapses}
use Rattle.hm_disk.proofs.CrashLemmas.{MayLeave-fewer, MayLeave-through}
use Rattle.hm_disk.proofs.MomentLemmas.{Elapses-more, Elapses-none, Elapses-read, SameLeft-then}
use Rattle.hm_disk.proofs.DiskLemmas.{BothTell-and, BothTell-then, IfSome-then}
use Rattle.hm_types.specs.Told.{BothTell}
use Rattle.hm_disk.proofs.OverwriteLemmas.{get_or-overwritten_in, get_or-overwritten_out, length-overwritten}
use Rattle.hm_header.specs.declared.header.Header.{Header}
use Rattle.hm_header.specs.declared.header.TheConstants.{GATE_OPEN, SLOT_BYTES}
use Rattle.hm_header.specs.Change.{AnyCrash, ChangeElapses, Changes, IsCounting, MayChange}
use Rattle.hm_header.specs.Layout.{body_of}
use Rattle.hm_header.specs.OnDisk.{HasHeader, HasSlots, slot_in, slot_place}
use Rattle.hm_header.proofs.ChangeLemmas.{settled-any}
use Rattle.hm_header.proofs.HeaderLemmas.{header-held, header-slots}
use Rattle.hm_header.proofs.OnDiskLemmas.{length-slot, slot-range}
use Rattle.hm_header.proofs.SliceLemmas.{length-slice, slice-byte}
use Rattle.hm_header.proofs.SlotLemmas.{length-body}
use Rattle.hm_header.proofs.StageLemmas.{Elapses-within}
use Rattle.hm_undo.specs.Range.{Fit, HasRange, OldPage, old_places_of, put_back}
use Rattle.hm_undo.specs.Recovered.{RecoversTo, recovered_header, with_slot}
use Rattle.hm_undo.proofs.LogLemmas.{entry-past_slots}
use Rattle.hm_undo.proofs.PutBackLemmas.{length-put_back, put_back-leaves, same-byte}
use Rattle.hm_undo.proofs.RangeLemmas.{range-same}
use Rattle.hm_undo.proofs.RecoveredLemmas.{pages-fit, recovered-again, recovery-is-one}
use Rattle.hm_recover.specs.Put.{HasPutAll, MayPutAll}
use Rattle.hm_recover.specs.Recovery.{HasWholeRange, IsRangeReady, IsRecovered, IsUntouched, KeepsRecovery, StillRecovers}
use Rattle.hm_recover.specs.Stop.{IsFailed, IsStopped}
use Rattle.hm_recover.specs.declared.opened.Opened.{Opened}
use Rattle.hm_recover.specs.declared.stop.RecoveryStop.{RecoveryStop}
use Rattle.hm_recover.specs.declared.stop.RecoveryStop.TheVariants.{Failed, Refused}
use Rattle.hm_recover.proofs.PutLemmas.{elapses-after-read}
use Rattle.hm_recover.proofs.PageLemmas.{entry-small, header-stays, range-out}

-- what is overwritten hides what stood there
same-under : (a b : List ℕ) (place : ℕ) (bytes : List ℕ) → length b ≡ length a → place + length bytes ≤ length a
    → ((byte : ℕ) → byte < length a → (byte < place) ⊎ (place + length bytes ≤ byte) → get_or b byte 0 ≡ get_or a byte 0)
    → overwritten b place bytes ≡ overwritten a place bytes
same-under a b place bytes size within same =
    ext_get_or 0 (overwritten b place bytes) (overwritten a place bytes) (right ∙ (size ∙ sym left))
    (λ byte below. each byte (omega (arith, below, right, size)))
  where
    left : length (overwritten a place bytes) ≡ length a
    left = length-overwritten a place bytes within

    right : length (overwritten b place bytes) ≡ length b
    right = length-overwritten b place bytes (omega (arith, within, size))

    out : (byte : ℕ) → byte < length a → (byte < place) ⊎ (place + length bytes ≤ byte)
        → get_or (overwritten b place bytes) byte 0 ≡ get_or (overwritten a place bytes) byte 0
    out byte below away =
        get_or-overwritten_out b place bytes byte (omega (arith, within, size)) (omega (arith, below, size)) away
        ∙ (same byte below away ∙ sym (get_or-overwritten_out a place bytes byte within below away))

    inside : (byte : ℕ) → place ≤ byte → byte < place + length bytes
        → get_or (overwritten b place bytes) byte 0 ≡ get_or (overwritten a place bytes) byte 0
    inside byte from to =
        get_or-overwritten_in b place bytes byte (omega (arith, within, size)) from to
        ∙ sym (get_or-overwritten_in a place bytes byte within from to)

    each : (byte : ℕ) → byte < length a → get_or (overwritten b place bytes) byte 0 ≡ get_or (overwritten a place bytes) byte 0
    each byte below =
        ⊎_elim (λ low. out byte below (inl low))
        (λ from. ⊎_elim (λ to. inside byte from to) (λ high. out byte below (inr high)) (cases_lt byte (place + length bytes)))
        (cases_lt byte place)

-- bytes that changed in a range are the old ones with this range overwritten
range-changed : (old new : List ℕ) (place count : ℕ) → place + count ≤ length old → MayLeave old ((place, count) ∷ []) new
    → new ≡ overwritten old place (slice_range new place (place + count))
range-changed old new place count within change =
    ext_get_or 0 new (overwritten old place piece) (change.size ∙ sym whole) (λ byte below. each byte (omega (arith, below, change.size)))
  where
    piece : List ℕ
    piece = slice_range new place (place + count)

    long : length piece ≡ count
    long =
        let cut : place + count - place ≡ count = omega arith in
        length-slice new place (place + count) (omega (arith, within, change.size)) ∙ cut

    fits : place + length piece ≤ length old
    fits = omega (arith, within, long)

    whole : length (overwritten old place piece) ≡ length old
    whole = length-overwritten old place piece fits

    out : (byte : ℕ) → byte < length old → (byte < place) ⊎ (place + count ≤ byte) → get_or new byte 0 ≡ get_or (overwritten old place piece) byte 0
    out byte below (inl low) = change.same byte below (inl low, tt) ∙ sym (get_or-overwritten_out old place piece byte fits below (inl low))
    out byte below (inr high) =
        change.same byte below (inr high, tt) ∙ sym (get_or-overwritten_out old place piece byte fits below (inr (omega (arith, high, long))))

    inside : (byte : ℕ) → place ≤ byte → byte < place + count → get_or new byte 0 ≡ get_or (overwritten old place piece) byte 0
    inside byte from to =
        let at : place + (byte - place) ≡ byte = omega (arith, from) in
        sym (get_or-overwritten_in old place piece byte fits from (omega (arith, to, long))
        ∙ (slice-byte new place (place + count) (byte - place) (omega (arith, from, to)) ∙ ap (λ (k : ℕ). get_or new k 0) at))

    each : (byte : ℕ) → byte < length old → get_or new byte 0 ≡ get_or (overwritten old place piece) byte 0
    each byte below =
        ⊎_elim (λ low. out byte below (inl low))
        (λ from. ⊎_elim (λ to. inside byte from to) (λ high. out byte below (inr high)) (cases_lt byte (place + count)))
        (cases_lt byte place)

-- a slot is its body and its gate
slot-whole : (slot body : List ℕ) (gate : ℕ) → length slot ≡ 16384 → take 16383 slot ≡ body → slice_index slot 16383 ≡ gate → slot ≡ body ++ gate ∷ []
slot-whole slot body gate size front last =
    let rest : drop 16383 slot ≡ gate ∷ [] =
    drop_more slot 16383 0 (omega (arith, size))
    ∙ (ap (λ (n : ℕ). n ∷ drop 16384 slot) last ∙ ap (λ (ns : List ℕ). gate ∷ ns) (drop_all 16384 slot (omega (arith, size)))) in
    sym (take-append-drop 16383 slot) ∙ (ap (λ (ns : List ℕ). ns ++ drop 16383 slot) front ∙ ap (λ (ns : List ℕ). body ++ ns) rest)

length-written : (header : Header) → length (body_of header ++ GATE_OPEN ∷ []) ≡ 16384
length-written header = omega (arith, length-append (body_of header) (GATE_OPEN ∷ []), length-body header)

-- where a header counts in a slot that alone changed, it was written there
slot-is-written : (old new : List ℕ) (header : Header) (slot : ℕ) → slot ≤ 1 → HasSlots old → MayLeave old ((slot_place slot, SLOT_BYTES) ∷ []) new
    → HasHeader new header slot → new ≡ with_slot old slot header
slot-is-written old new header slot small both change counts =
    let held = header-held new header slot counts in
    let whole : slot_in new slot ≡ body_of header ++ GATE_OPEN ∷ [] =
    slot-whole (slot_in new slot) (body_of header) GATE_OPEN (length-slot slot new small (omega (arith, both, change.size))) held.spelled held.part.open_gate in
    range-changed old new (slot_place slot) SLOT_BYTES (omega (arith, small, both)) change
    ∙ ap (λ (bytes : List ℕ). overwritten old (slot_place slot) bytes) (sym (slot-range slot new small) ∙ whole)

module _ (image : List ℕ) (header : Header) (slot : ℕ) (small : slot ≤ 1) (counts : HasHeader image header slot) (some : 0 < header.undo_count)
    (olds : List OldPage) (range : HasRange image header olds) where
  both : HasSlots image
  both = header-slots image header slot counts

  fit : Fit (length image) olds
  fit = pages-fit image header slot counts olds range

  abbrev back : List ℕ
  back = put_back image olds

  abbrev pub result : List ℕ
  result = with_slot back (1 - slot) (recovered_header header)

  back-leaves : MayLeave image (old_places_of olds) back
  back-leaves = put_back-leaves image olds fit

  pub recovers : RecoversTo image result
  recovers = record {
    header = header;
    slot = slot;
    counts = counts;
    how = inr (record { olds = olds; some = some; range = range; result_is = refl });
  }

  -- an image that differs in the pages and in the other slot, and whose header counts still
  kept-recovers : (other : List ℕ) → MayLeave image ((slot_place (1 - slot), SLOT_BYTES) ∷ old_places_of olds) other → HasHeader other header slot
      → RecoversTo other result
  kept-recovers other change still = record {
    header = header;
    slot = slot;
    counts = still;
    how = inr (record { olds = olds; some = some; range = entries; result_is = sym under });
  }
    where
      entries : HasRange other header olds
      entries = range-same image other header olds change.size
          (λ i byte below inside within. change.same byte within (
            inr (let past = entry-past_slots header.bigblocks ((header.undo_first + i) % 16256) in omega (arith, past, inside, small)),
            range-out image header olds range ((header.undo_first + i) % 16256) byte (entry-small header.undo_first i) inside,
          )) range

      sized : length (put_back other olds) ≡ length image
      sized = length-put_back other olds (subst (λ (n : ℕ). Fit n olds) (sym change.size) fit) ∙ change.size

      written : List ℕ
      written = body_of (recovered_header header) ++ GATE_OPEN ∷ []

      long : length written ≡ 16384
      long = length-written (recovered_header header)

      away : (byte : ℕ) → (byte < slot_place (1 - slot)) ⊎ (slot_place (1 - slot) + length written ≤ byte)
          → (byte < slot_place (1 - slot)) ⊎ (slot_place (1 - slot) + SLOT_BYTES ≤ byte)
      away byte (inl low) = inl low
      away byte (inr high) = inr (omega (arith, high, long))

      under : with_slot (put_back other olds) (1 - slot) (recovered_header header) ≡ result
      under = same-under back (put_back other olds) (slot_place (1 - slot)) written (sized ∙ sym back-leaves.size)
          (omega (arith, long, back-leaves.size, both))
          (λ byte below out. let inside : byte < length image = omega (arith, below, back-leaves.size) in
          same-byte image other olds change.size fit byte inside (λ outside. change.same byte inside (away byte out, outside)))

  -- an image that differs in the pages alone
  pub pages-recover : (other : List ℕ) → MayLeave image (old_places_of olds) other → RecoversTo other result
  pages-recover other change =
      kept-recovers other
      (MayLeave-fewer image other ((slot_place (1 - slot), SLOT_BYTES) ∷ old_places_of olds) (old_places_of olds) (λ byte outside. outside.1) change)
      (header-stays image other header slot olds counts range change)

  -- one in which the pages are put back, and the next header may count
  pub change-recovers : (other : List ℕ) → MayChange header slot (recovered_header header) back [] other → RecoversTo other result
  change-recovers other may =
      ⊎_elim
      (λ still. kept-recovers other
      (MayLeave-through image back other ((slot_place (1 - slot), SLOT_BYTES) ∷ old_places_of olds) ((slot_place (1 - slot), SLOT_BYTES) ∷ [])
      (MayLeave-fewer image back ((slot_place (1 - slot), SLOT_BYTES) ∷ old_places_of olds) (old_places_of olds) (λ byte outside. outside.1) back-leaves)
      (λ byte outside. (outside.0, tt)) may.others) still)
      (λ next. subst (λ (bytes : List ℕ). RecoversTo bytes result) (sym (changed-is other may.others next)) (recovered-again image result recovers))
      may.header_is
    where
      changed-is : (other : List ℕ) → MayLeave back ((slot_place (1 - slot), SLOT_BYTES) ∷ []) other → HasHeader other (recovered_header header) (1 - slot)
          → other ≡ result
      changed-is other change next =
          slot-is-written back other (recovered_header header) (1 - slot) (omega arith) (omega (arith, both, back-leaves.size)) change next

  pub changed-is-result : (other : List ℕ) → MayLeave back ((slot_place (1 - slot), SLOT_BYTES) ∷ []) other
      → HasHeader other (recovered_header header) (1 - slot) → other ≡ result
  changed-is-result other change next =
      slot-is-written back other (recovered_header header) (1 - slot) (omega arith) (omega (arith, both, back-leaves.size)) change next

-- what is shown of one image to which a disk recovers is shown of each
keeps-one : (past since : LeftSince) (s t : Told) (one : List ℕ) → RecoversTo s.bytes one → StillRecovers one past since s t → KeepsRecovery past since s t
keeps-one past since s t one is still =
    λ result other. subst (λ (bytes : List ℕ). StillRecovers bytes past since s t) (recovery-is-one s.bytes one result is other) still

-- nothing was written
pub untouched-keeps : (past since : LeftSince) (s t : Told) → IsUntouched past since s t → KeepsRecovery past since s t
untouched-keeps past since s t same =
    λ result is. record {
      now = subst (λ (u : Told). RecoversTo u.bytes result) (sym same.told) is;
      time = λ none. subst (λ (u : Told). Elapses (λ image. RecoversTo image result) past since s u) (sym same.told)
          (Elapses-read _ past past since s s (Elapses-none _ past s) same.left);
    }

-- the range that is undone is whole
whole-range : (header : Header) (slot : ℕ) (t : Told) → IsRangeReady header slot t → HasWholeRange t.bytes
whole-range header slot t ready =
    record { header = header; slot = slot; counts = ready.counts; some = ready.some; olds = ready.olds; range = ready.range }

module _ (header : Header) (slot : ℕ) (small : slot ≤ 1) (past : LeftSince) (s : Told) (ready : IsRangeReady header slot s) where
  abbrev at-last : List ℕ
  at-last = result s.bytes header slot small ready.counts ready.some ready.olds ready.range

  is-last : RecoversTo s.bytes at-last
  is-last = recovers s.bytes header slot small ready.counts ready.some ready.olds ready.range

  pages-of : (other : List ℕ) → MayLeave s.bytes (old_places_of ready.olds) other → RecoversTo other at-last
  pages-of = pages-recover s.bytes header slot small ready.counts ready.some ready.olds ready.range

  -- pages were put back, or some of them
  pub put-keeps : (since : LeftSince) (t : Told) → MayPutAll header past since s t → KeepsRecovery past since s t
  put-keeps since t put =
      let some_put = put ready.olds ready.range in
      keeps-one past since s t at-last is-last (record {
        now = pages-of t.bytes some_put.bytes_are;
        time = λ none. Elapses-within _ _ past since s t (λ image left. pages-of image left) (some_put.time none);
      })

  -- and then a sync, successful or not
  pub sync-keeps : (middle since : LeftSince) (t u : Told) → MayPutAll header past middle s t → u.bytes ≡ t.bytes → SyncElapses middle since t u
      → KeepsRecovery past since s u
  sync-keeps middle since t u put same then =
      let some_put = put ready.olds ready.range in
      keeps-one past since s u at-last is-last (record {
        now = subst (λ (bytes : List ℕ). RecoversTo bytes at-last) (sym same) (pages-of t.bytes some_put.bytes_are);
        time = λ none. Elapses-more _ _ past middle since s t u
            (Elapses-within _ _ past middle s t (λ image left. pages-of image left) (some_put.time none)) then
            (λ image left. pages-of image (MayLeave-through s.bytes t.bytes image (old_places_of ready.olds) t.unsettled some_put.bytes_are
            (λ byte outside. some_put.unsettled_are byte outside (subst (λ (ranges : List (ℕ × ℕ)). Outside ranges byte) (sym none) tt)) left));
      })

  -- and then a change of the header, successful or not
  pub change-keeps : (middle since : LeftSince) (u v : Told) → HasPutAll header s u → u.unsettled ≡ [] → KeepsRecovery past middle s u
      → MayChange header slot (recovered_header header) u.bytes [] v.bytes → ChangeElapses header slot (recovered_header header) middle since u v
      → KeepsRecovery past since s v
  change-keeps middle since u v put settled keeps may then =
      let back : u.bytes ≡ put_back s.bytes ready.olds = put ready.olds ready.range in
      let each : (image : List ℕ) → MayChange header slot (recovered_header header) u.bytes [] image → RecoversTo image at-last =
      λ image change. change-recovers s.bytes header slot small ready.counts ready.some ready.olds ready.range image
      (subst (λ (bytes : List ℕ). MayChange header slot (recovered_header header) bytes [] image) back change) in
      keeps-one past since s v at-last is-last (record {
        now = each v.bytes may;
        time = λ none. Elapses-more _ _ past middle since s u v ((keeps at-last is-last).time none) then
            (λ image left. each image
            (subst (λ (ranges : List (ℕ × ℕ)). MayChange header slot (recovered_header header) u.bytes ranges image) settled left));
      })

  -- which succeeded
  pub is-recovered : (since : LeftSince) (u v : Told) (opened : Opened) → opened.header ≡ recovered_header header → opened.slot ≡ 1 - slot
      → HasPutAll header s u → Changes (recovered_header header) (1 - slot) u v → IsRecovered opened past since s v
  is-recovered since u v opened header_is slot_is put changes =
      let back : u.bytes ≡ put_back s.bytes ready.olds = put ready.olds ready.range in
      let last : v.bytes ≡ at-last =
      changed-is-result s.bytes header slot small ready.counts ready.some ready.olds ready.range v.bytes
      (subst (λ (bytes : List ℕ). MayLeave bytes ((slot_place (1 - slot), SLOT_BYTES) ∷ []) v.bytes) back changes.others) changes.header_is in
      record {
        recovers = subst (λ (bytes : List ℕ). RecoversTo s.bytes bytes) (sym last) is-last;
        counts = subst (λ (n : ℕ). HasHeader v.bytes opened.header n) (sym slot_is)
            (subst (λ (h : Header). HasHeader v.bytes h (1 - slot)) (sym header_is) changes.header_is);
        how = inr (whole-range header slot s ready, changes.settled);
      }

-- the pages are put back and settled
pub record AfterPut (header : Header) (past since : LeftSince) (old new : Told) : Type 0 where
  pub put : HasPutAll header old new
  pub settled : new.unsettled ≡ []
  pub keeps : KeepsRecovery past since old new

module _ (header : Header) (slot : ℕ) (small : slot ≤ 1) where
  pub after-sync : (past middle since : LeftSince) (old told new : Option Told) → IfSome old (IsRangeReady header slot)
      → BothTell old told (HasPutAll header) → BothTell old told (MayPutAll header past middle) → BothTell told new Synced
      → BothTell told new (SyncElapses middle since) → BothTell old new (AfterPut header past since)
  after-sync past middle since old told new ready put may synced time =
      BothTell-then old told new (IsRangeReady header slot) (λ s t. HasPutAll header s t × MayPutAll header past middle s t)
      (λ t u. Synced t u × SyncElapses middle since t u) (AfterPut header past since)
      (λ s t u is first then. record {
        put = λ olds range. then.0.bytes_are ∙ first.0 olds range;
        settled = then.0.unsettled_are;
        keeps = sync-keeps header slot small past s is middle since t u first.1 then.0.bytes_are then.1;
      }) ready (BothTell-and old told _ _ put may) (BothTell-and told new _ _ synced time)

  -- the header counts still, whatever a crash leaves
  pub after-counts : (past since : LeftSince) (old new : Option Told) → IfSome old (IsRangeReady header slot) → BothTell old new (AfterPut header past since)
      → IfSome new (AnyCrash (IsCounting header slot))
  after-counts past since old new ready after =
      IfSome-then old new (IsRangeReady header slot) (AnyCrash (IsCounting header slot)) (AfterPut header past since)
      (λ s u is put. settled-any (IsCounting header slot) u put.settled
      (header-stays s.bytes u.bytes header slot is.olds is.counts is.range
      (subst (λ (bytes : List ℕ). MayLeave s.bytes (old_places_of is.olds) bytes) (sym (put.put is.olds is.range))
      (put_back-leaves s.bytes is.olds (pages-fit s.bytes header slot is.counts is.olds is.range))))) ready after

  pub after-change : (past middle since : LeftSince) (old told new : Option Told) → IfSome old (IsRangeReady header slot)
      → BothTell old told (AfterPut header past middle) → BothTell told new (λ u v. MayChange header slot (recovered_header header) u.bytes [] v.bytes)
      → BothTell told new (ChangeElapses header slot (recovered_header header) middle since) → BothTell old new (KeepsRecovery past since)
  after-change past middle since old told new ready after may time =
      BothTell-then old told new (IsRangeReady header slot) (AfterPut header past middle)
      (λ u v. MayChange header slot (recovered_header header) u.bytes [] v.bytes × ChangeElapses header slot (recovered_header header) middle since u v)
      (KeepsRecovery past since)
      (λ s u v is first then. change-keeps header slot small past s is middle since u v first.put first.settled first.keeps then.0 then.1)
      ready after (BothTell-and told new _ _ may time)

  pub changes-made : (told new : Option Told) → BothTell told new (Changes (recovered_header header) (1 - slot))
      → BothTell told new (λ u v. MayChange header slot (recovered_header header) u.bytes [] v.bytes)
  changes-made None None changes = tt
  changes-made (Some u) (Some v) changes = record { header_is = inr changes.header_is; others = changes.others }
  changes-made None (Some v) changes = absurd changes
  changes-made (Some u) None changes = absurd changes

  pub after-changed : (past middle since : LeftSince) (opened : Opened) (old told new : Option Told) → opened.header ≡ recovered_header header
      → opened.slot ≡ 1 - slot → IfSome old (IsRangeReady header slot) → BothTell old told (AfterPut header past middle)
      → BothTell told new (Changes (recovered_header header) (1 - slot)) → BothTell old new (IsRecovered opened past since)
  after-changed past middle since opened old told new header_is slot_is ready after changes =
      BothTell-then old told new (IsRangeReady header slot) (AfterPut header past middle) (Changes (recovered_header header) (1 - slot))
      (IsRecovered opened past since)
      (λ s u v is first then. is-recovered header slot small past s is since u v opened header_is slot_is first.put then) ready after changes

-- nothing was written
pub untouched : (past since : LeftSince) (old new : Option Told) → new ≡ old → SameLeft past since → BothTell old new (IsUntouched past since)
untouched past since old new same left =
    subst (λ (o : Option Told). BothTell old o (IsUntouched past since)) (sym same) (at old)
  where
    at : (o : Option Told) → BothTell o o (IsUntouched past since)
    at None = tt
    at (Some t) = record { told = refl; left = left }

pub untouched-all : (past since : LeftSince) (old new : Option Told) → new ≡ old → SameLeft past since → BothTell old new (KeepsRecovery past since)
untouched-all past since old new same left = both old new (untouched past since old new same left)
  where
    both : (old new : Option Told) → BothTell old new (IsUntouched past since) → BothTell old new (KeepsRecovery past since)
    both None None is = tt
    both (Some s) (Some t) is = untouched-keeps past since s t is
    both None (Some t) is = absurd is
    both (Some s) None is = absurd is

-- reads before a recovery
module _ (past middle since : LeftSince) (old told new : Option Told) (same : told ≡ old) (left : SameLeft past middle) where
  later : (P Q : Told → Told → Type 0) → ((s t : Told) → P s t → Q s t) → BothTell told new P → BothTell old new Q
  later P Q step both = both-map old new (subst (λ (o : Option Told). BothTell o new P) same both)
    where
      both-map : (o n : Option Told) → BothTell o n P → BothTell o n Q
      both-map None None p = tt
      both-map (Some s) (Some t) p = step s t p
      both-map None (Some t) p = absurd p
      both-map (Some s) None p = absurd p

  pub reads-keep : BothTell told new (KeepsRecovery middle since) → BothTell old new (KeepsRecovery past since)
  reads-keep both = later (KeepsRecovery middle since) (KeepsRecovery past since)
      (λ s t keeps result is. let still = keeps result is in
      record { now = still.now; time = λ none. elapses-after-read _ past middle since s t left (still.time none) }) both

  pub reads-recover : (opened : Opened) → BothTell told new (IsRecovered opened middle since) → BothTell old new (IsRecovered opened past since)
  reads-recover opened both = later (IsRecovered opened middle since) (IsRecovered opened past since)
      (λ s t is. record {
        recovers = is.recovers;
        counts = is.counts;
        how = ⊎_elim (λ same. inl (same.0, record { told = same.1.told; left = SameLeft-then past middle since left same.1.left })) (λ range. inr range) is.how;
      }) both

-- a header that counts names a range that was checked
pub checked-whole : (old told : Option Told) (header : Header) (slot : ℕ) → told ≡ old → 0 < header.undo_count
    → IfSome old (λ t. HasHeader t.bytes header slot) → IfSome told (λ t. (olds : List OldPage) × HasRange t.bytes header olds)
    → IfSome old (λ t. HasWholeRange t.bytes)
checked-whole old told header slot same some counts range =
    at old counts (subst (λ (o : Option Told). IfSome o (λ t. (olds : List OldPage) × HasRange t.bytes header olds)) same range)
  where
    at : (o : Option Told) → IfSome o (λ t. HasHeader t.bytes header slot) → IfSome o (λ t. (olds : List OldPage) × HasRange t.bytes header olds)
        → IfSome o (λ t. HasWholeRange t.bytes)
    at None counts range = tt
    at (Some t) counts range = record { header = header; slot = slot; counts = counts; some = some; olds = range.0; range = range.1 }

-- the disk failed while the pages of a whole range were put back
failed-stops : (past since : LeftSince) (s t : Told) (stop : RecoveryStop) → HasWholeRange s.bytes → IsFailed stop → IsStopped stop past since s t
failed-stops past since s t Failed whole failed = inr whole
failed-stops past since s t (Refused fault) whole failed = absurd failed

pub range-stops : (past middle since : LeftSince) (old told new : Option Told) (stop : RecoveryStop) → told ≡ old → IfSome old (λ t. HasWholeRange t.bytes)
    → BothTell told new (KeepsRecovery middle since) → IfSome told (λ _. IsFailed stop) → BothTell old new (IsStopped stop past since)
range-stops past middle since old told new stop same whole both failed =
    at old new (subst (λ (o : Option Told). BothTell o new (KeepsRecovery middle since)) same both) whole
    (subst (λ (o : Option Told). IfSome o (λ _. IsFailed stop)) same failed)
  where
    at : (o n : Option Told) → BothTell o n (KeepsRecovery middle since) → IfSome o (λ t. HasWholeRange t.bytes) → IfSome o (λ _. IsFailed stop)
        → BothTell o n (IsStopped stop past since)
    at None None both whole failed = tt
    at (Some s) (Some t) both whole failed = failed-stops past since s t stop whole failed
    at None (Some t) both whole failed = absurd both
    at (Some s) None both whole failed = absurd both
