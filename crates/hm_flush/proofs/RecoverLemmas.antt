-- What an image recovers to, by the header that counts in it.
use Rattle.std.proofs.Common.{◌≡◌, ◌⊎◌, inl, inr, ⊎_elim, ℕ, suc, zero, ◌+◌, ◌-◌, ◌*◌, ◌<◌, ◌≤◌, Bool, true, false, List, [], ◌∷◌, length, get_or}
use Rattle.std.proofs.Common.{refl, sym, ◌∙◌, ap, subst, arith, nat_eq, slice_index, slice_range, Some}
use Rattle.std.specs.Set.{is_member}
use Rattle.std.proofs.lemmas.Bool.{cases_lt}
use Rattle.hm_types.specs.declared.limits.TheConstants.{PAGE_BYTES}
use Rattle.hm_types.specs.Offset.{byte_of}
use Rattle.hm_disk.specs.Crash.{MayLeave}
use Rattle.hm_fields.specs.Pages.{PageMap}
use Rattle.hm_header.specs.declared.header.Header.{Header}
use Rattle.hm_header.specs.declared.header.TheConstants.{SLOT_BYTES}
use Rattle.hm_header.specs.OnDisk.{HasHeader, slot_place}
use Rattle.hm_header.specs.Slots.{Counts}
use Rattle.hm_pages.specs.Store.{Store}
use Rattle.hm_undo.specs.Range.{Fit, OldPage, old_places_of, put_back}
use Rattle.hm_undo.specs.Recovered.{RecoversTo, recovered_header, with_slot}
use Rattle.hm_undo.proofs.LogLemmas.{page-past_slots}
use Rattle.hm_undo.proofs.RangeLemmas.{HasEach, range-each}
use Rattle.hm_undo.proofs.RecoveredLemmas.{pages-fit, undone-counts, undone-leaves, undone-past}
use Rattle.hm_flush.specs.Guard.{ArePlaced, HasSaved, HoldsRest, IsSavedAt}
use Rattle.hm_flush.specs.Recoverable.{HasState, HasStateOf, HoldsPage, HoldsPages, IsInPages, RecoversToState}
use Rattle.hm_flush.proofs.PageLemmas.{member-at}
use Rattle.hm_flush.proofs.SavedLemmas.{outside-olds, put_back-holds, saved-none}

-- an image whose header names no range
pub recovers-itself : (header own : Header) (slot : ℕ) (map : PageMap) (image : List ℕ) → HasHeader image own slot → HasStateOf header own
    → own.undo_count ≡ 0 → HoldsPages map image → RecoversToState header map image
recovers-itself header own slot map image counts state none holds = record {
  result = image;
  recovers = record { header = own; slot = slot; counts = counts; how = inl (none, refl) };
  has = record {
    own = own;
    slot = slot;
    counts = counts;
    state = state;
    unarmed = none;
    pages = holds;
    size = refl;
    others = λ byte past below out. refl;
  };
}

-- the slot that counts is one of two
small-slot : (first second : List ℕ) (number : ℕ) → Counts first second number → number ≤ 1
small-slot first second zero counts = omega arith
small-slot first second (suc zero) counts = omega arith
small-slot first second (suc (suc number)) counts = absurd counts

module _ (header own : Header) (slot : ℕ) (s : Store) (image : List ℕ) (counts : HasHeader image own slot) (state : HasStateOf header own)
    (placed : ArePlaced own.bigblocks s.committed) (rest : HoldsRest s image) (saved : HasSaved own s (length s.frozen_group) image) where
  -- each committed page is one of the range, or stands
  saved-or-stands : (at : ℕ) (page : List ℕ) → s.committed at ≡ Some page → IsSavedAt at saved.olds ⊎ HoldsPage image at page
  saved-or-stands at page is = step (is_member nat_eq s.frozen_group at) refl
    where
      step : (b : Bool) → is_member nat_eq s.frozen_group at ≡ b → IsSavedAt at saved.olds ⊎ HoldsPage image at page
      step false none = inr (rest at page is none)
      step true found =
          let i = member-at s.frozen_group at found in
          let there : IsSavedAt (slice_index s.frozen_group i.0) saved.olds =
          saved.live i.0 i.1 page (ap (λ (k : ℕ). s.committed k) i.2 ∙ is) in
          inl (subst (λ (k : ℕ). IsSavedAt k saved.olds) i.2 there)

  -- no range: each stands
  itself : own.undo_count ≡ 0 → RecoversToState header s.committed image
  itself none =
      recovers-itself header own slot s.committed image counts state none
      (λ at page is.
      ⊎_elim (λ there. absurd (saved-none at saved.olds (saved.range.count ∙ none) there)) (λ stands. stands) (saved-or-stands at page is))

  undone : 0 < own.undo_count → RecoversToState header s.committed image
  undone some = record {
    result = after;
    recovers = record {
      header = own;
      slot = slot;
      counts = counts;
      how = inr (record { olds = saved.olds; some = some; range = saved.range; result_is = refl });
    };
    has = record {
      own = recovered_header own;
      slot = 1 - slot;
      counts = undone-counts image own slot counts saved.olds saved.range;
      state = record { version = state.version; bigblocks = state.bigblocks; last = state.last; root = state.root; append = state.append };
      unarmed = refl;
      pages = λ at page is.
          undone-past image own slot counts saved.olds saved.range (byte_of at) (byte_of at + PAGE_BYTES)
          (page-past_slots own.bigblocks at (placed at page is))
          ∙ put_back-holds s.committed own image placed image saved.olds each saved.committed fit at page is (saved-or-stands at page is);
      size = leaves.size;
      others = λ byte past below out.
          leaves.same byte below (inr (omega (arith, past, small)), outside-olds s.committed own image saved.olds each saved.committed byte out);
    };
  }
    where
      small : slot ≤ 1
      small = small-slot _ _ slot counts.counts

      after : List ℕ
      after = with_slot (put_back image saved.olds) (1 - slot) (recovered_header own)

      each : HasEach image own saved.olds
      each = range-each image own saved.olds saved.range

      fit : Fit (length image) saved.olds
      fit = pages-fit image own slot counts saved.olds saved.range

      leaves : MayLeave image ((slot_place (1 - slot), SLOT_BYTES) ∷ old_places_of saved.olds) after
      leaves = undone-leaves image own slot counts saved.olds saved.range

  -- an image whose header names the entries that were written
  pub recovers-armed : RecoversToState header s.committed image
  recovers-armed = ⊎_elim (λ some. undone some) (λ none. itself (omega (arith, none))) (cases_lt 0 own.undo_count)
