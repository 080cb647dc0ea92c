-- What a crash may have left of the disk of a core, and what that recovers to.
use Rattle.std.proofs.Common.{◌≡◌, ◌≢◌, ◌⊎◌, inl, inr, ℕ, ◌-◌, ◌≤◌, List, Option, true, false, refl, sym, ap, subst, ◌∙◌, arith}
use Rattle.std.proofs.lemmas.Bool.{cases_lt}
use Rattle.hm_types.specs.declared.id.Id.{Id}
use Rattle.hm_disk.specs.Crash.{MayLeave, Told}
use Rattle.hm_disk.specs.Moments.{Each, Elapses, LeftSince}
use Rattle.hm_disk.proofs.CrashLemmas.{MayLeave-same}
use Rattle.hm_header.specs.declared.header.Header.{Header}
use Rattle.hm_header.specs.Change.{AnyCrash, HasNextBody, IsBodyWritten, IsClosedBeside, IsCounting}
use Rattle.hm_header.specs.OnDisk.{HasHeader}
use Rattle.hm_undo.specs.Recovered.{RecoversTo}
use Rattle.hm_flush.specs.declared.change.Change.{Change}
use Rattle.hm_flush.specs.declared.change.Change.TheVariants.{Close, Write, Open}
use Rattle.hm_flush.specs.declared.flush.Flush.{Flush}
use Rattle.hm_flush.specs.declared.flush.Position.{Position}
use Rattle.hm_flush.specs.declared.flush.Position.TheVariants.{Idle, Undoing, Arming, Placing, Committing}
use Rattle.hm_flush.specs.Calls.{HeaderStands, StandsForChange}
use Rattle.hm_flush.specs.Ends.{as_read}
use Rattle.hm_flush.specs.Flush.{IsFlush, header_to_write, tried, tried_at}
use Rattle.hm_image.specs.Stands.{StandsFor}
use Rattle.hm_model.specs.After.{Event}
use Rattle.hm_model.specs.Foreign.{Foreigners}
use Rattle.hm_model.specs.Volume.{Volume}
use Rattle.hm_recover.proofs.BoundaryLemmas.{boundary-kept}
use Rattle.hm_pages.specs.Sound.{IsSound}
use Rattle.hm_stored.specs.Flushed.{IsFlushedBy}
use Rattle.hm_stored.specs.Heap.{Heap}
use Rattle.hm_state.specs.Flushing.{HoldsFlush, RecoversToVolume}
use Rattle.hm_state.proofs.RecoveredVolumeLemmas.{left_recovers}
use Rattle.hm_state.proofs.SettledLemmas.{live_settled}
use Rattle.hm_core.specs.Core.{HoldsUpTo, IsCausedRun, IsSoundCore}
use Rattle.hm_core.specs.Crash.{HasHeaderOf, IsBetween, IsLeftBoundary, LeavesNow, LeavesPrefixes, MayHaveChanged, RecoversToPrefix}
use Rattle.hm_core.specs.History.{up_to, volume_of}
use Rattle.hm_core.specs.Inside.{AreUpTo}
use Rattle.hm_core.specs.State.{CoreState}
use Rattle.hm_core.proofs.KeptLemmas.{if_told}

-- an image's boundary is the last id of the volume for which it stands once it was recovered
boundary_is : (image result : List ℕ) (recovers : RecoversTo image result) (volume : Volume) → StandsFor result volume
    → (last : ℕ) → last ≡ volume.last → recovers.header.last.0 ≡ last
boundary_is image result recovers volume stands last is =
    ap (λ (id : Id). id.0) (sym (boundary-kept image result recovers.header stands.header recovers.slot stands.sound.slot recovers recovers.counts
    stands.sound.counts)) ∙ stands.last ∙ sym is

-- The volumes that a flush holds are those up to its ids: what recovers to them recovers to a prefix, up to a boundary that is left.
module _ (f : Flush) (h : Heap) (t : Told) (opening : Volume) (foreigners : Foreigners) (events : List Event)
    (held : HoldsFlush f h t (volume_of opening foreigners (up_to f.header.last.0 events))
    (volume_of opening foreigners (up_to f.target.last.0 events))) where
  -- where it stands for the volume up to the last id of a header
  recovered_up_to : (IsBoundary : ℕ → Type 0) (header : Header) (image result : List ℕ) → RecoversTo image result → IsBoundary header.last.0
      → StandsFor result (volume_of opening foreigners (up_to header.last.0 events))
      → header.last.0 ≡ (volume_of opening foreigners (up_to header.last.0 events)).last
      → RecoversToPrefix IsBoundary opening foreigners events image
  recovered_up_to IsBoundary header image result recovers boundary stands last =
      let volume = volume_of opening foreigners (up_to header.last.0 events) in
      let is : header.last.0 ≡ recovers.header.last.0 = sym (boundary_is image result recovers volume stands header.last.0 last) in
      record {
        result = result;
        recovers = recovers;
        boundary = subst IsBoundary is boundary;
        stands = subst (λ (id : ℕ). StandsFor result (volume_of opening foreigners (up_to id events))) is stands;
      }

  -- also once the last stage was tried: `g` is the flush itself, or as tried
  pub volume_is_prefix : (g : Flush) → g.header ≡ f.header → g.target ≡ f.target → (g.at ≡ Committing (Open true) → f.at ≢ Idle)
      → (image : List ℕ) → RecoversToVolume g (volume_of opening foreigners (up_to f.header.last.0 events))
      (volume_of opening foreigners (up_to f.target.last.0 events)) image
      → RecoversToPrefix (IsLeftBoundary g) opening foreigners events image
  volume_is_prefix g header target flies image recovers = elim recovers.stands [
    | inl stands ↦
        recovered_up_to (IsLeftBoundary g) f.header image recovers.result recovers.recovers (inl (ap (λ (h : Header). h.last.0) (sym header))) stands
        held.committed_is.holds.last_is
    | inr (opened, stands) ↦
        recovered_up_to (IsLeftBoundary g) f.target image recovers.result recovers.recovers
        (inr (opened, ap (λ (h : Header). h.last.0) (sym target))) stands (held.frozen_is (flies opened)).holds.last_is
  ]

-- each image that a crash now may leave
pub now_is_prefix : (core : CoreState) → IsFlush core.flush → (opening : Volume) (foreigners : Foreigners) (events : List Event) (t : Told)
    → HoldsUpTo core opening foreigners events t
    → Each (MayLeave t.bytes t.unsettled) (RecoversToPrefix (IsLeftBoundary core.flush) opening foreigners events)
now_is_prefix core flush opening foreigners events t held image left =
    volume_is_prefix core.flush core.heap t opening foreigners events held core.flush refl refl (λ opened idle. absurd cc) image
    (left_recovers core.flush flush core.heap t (volume_of opening foreigners (up_to core.flush.header.last.0 events))
    (volume_of opening foreigners (up_to core.flush.target.last.0 events)) held image left)

-- each boundary that may be left, also within a stage, is drawn
pub left_between : (f : Flush) (last : ℕ) → f.header.last.0 ≤ last
    → (f.at ≢ Idle → (f.header.last.0 ≤ f.target.last.0) × (f.target.last.0 ≤ last))
    → (boundary : ℕ) → IsLeftBoundary (tried f) boundary → IsBetween f.header.last.0 last boundary
left_between f last later target boundary (inl is) = (omega (arith, is), omega (arith, is, later))
left_between f last later target boundary (inr (opened, is)) =
    let between = target (λ idle. let stays = ap tried_at idle in absurd cc) in
    let from = between.0 in
    let to = between.1 in
    (omega (arith, is, from), omega (arith, is, to))

-- what was tried may be left by all the more
pub left_tried : (f : Flush) (boundary : ℕ) → IsLeftBoundary f boundary → IsLeftBoundary (tried f) boundary
left_tried f boundary (inl is) = inl is
left_tried f boundary (inr (opened, is)) = inr (ap tried_at opened, is)

-- what each image has that a crash may leave, the disk has as it reads
as_it_reads : (t : Told) (Has : List ℕ → Type 0) → AnyCrash Has t → Has t.bytes
as_it_reads t Has each = each t.bytes (MayLeave-same t.bytes t.unsettled)

-- A change of the header that is due: the header counts, or, once the last stage was tried, the next one may.
header_of_change : (change : Change) (f : Flush) (t : Told) (P : Type 0) → (change ≡ Open true → P) → StandsForChange change f t
    → HasHeader t.bytes f.header f.slot ⊎ (P × HasHeader t.bytes (header_to_write f) (1 - f.slot))
header_of_change Close f t P opened stands = inl (as_it_reads t (IsCounting f.header f.slot) stands)
header_of_change Write f t P opened stands = inl (as_it_reads t (IsClosedBeside f.header f.slot) stands).header_is
header_of_change (Open false) f t P opened stands =
    inl (as_it_reads t (IsBodyWritten f.header f.slot (header_to_write f)) (stands.1 refl)).0.header_is
header_of_change (Open true) f t P opened stands =
    elim (as_it_reads t (HasNextBody f.header f.slot (header_to_write f)) stands.0).header_is [
      | inl counts ↦ inl counts
      | inr counts ↦ inr (opened refl, counts)
    ]

-- whatever stage is due
header_at : (at : Position) (f : Flush) (t : Told) → f.at ≡ at → HeaderStands at f t → HasHeaderOf f t.bytes
header_at Idle f t is stands = inl stands
header_at (Undoing from) f t is stands = inl stands
header_at (Arming change) f t is stands =
    header_of_change change f t (MayHaveChanged f) (λ opened. inl (is ∙ ap Arming opened)) stands
header_at (Placing i) f t is stands = inl (as_it_reads t (IsCounting f.header f.slot) stands)
header_at (Committing change) f t is stands =
    header_of_change change f t (MayHaveChanged f) (λ opened. inr (is ∙ ap Committing opened)) stands

-- what is so of every core
pub sound_core : (core : CoreState) → IsFlush core.flush → core.boundary ≡ core.flush.header.last.0 → core.flush.header.last.0 ≤ core.last
    → (core.flush.at ≢ Idle → (core.flush.header.last.0 ≤ core.flush.target.last.0) × (core.flush.target.last.0 ≤ core.last))
    → IsCausedRun core → AreUpTo core.boundary core.history → IsFlushedBy core.flush core.heap → IsSound core.heap.pages → IsSoundCore core
sound_core core flush boundary later target caused told ready sound = record {
  caused = caused;
  told = told;
  between = λ at left. subst (λ (least : ℕ). IsBetween least core.last at) (sym boundary) (left_between core.flush core.last later target at left);
  header = if_told core.heap.disk (λ t stands. header_at core.flush.at core.flush t refl stands.header) ready.stands;
  read = λ opening foreigners events stands.
      if_told core.heap.disk
      (λ t held. now_is_prefix core flush opening foreigners events (as_read t) held t.bytes (MayLeave-same t.bytes (as_read t).unsettled)) stands.read;
  now = λ opening foreigners events guarded. if_told core.heap.disk (now_is_prefix core flush opening foreigners events) guarded;
  settled = λ opening foreigners events guarded.
      if_told core.heap.disk
      (λ t held. live_settled core.flush core.heap t (volume_of opening foreigners (up_to core.flush.header.last.0 events))
      (volume_of opening foreigners (up_to core.flush.target.last.0 events)) sound held) guarded;
}

-- a prefix up to a boundary of one kind is one up to a boundary of another, by more events
pub prefix_weaker : (P Q : ℕ → Type 0) (opening : Volume) (foreigners : Foreigners) (events more : List Event)
    → ((boundary : ℕ) → P boundary → Q boundary) → ((boundary : ℕ) → P boundary → up_to boundary more ≡ up_to boundary events)
    → (image : List ℕ) → RecoversToPrefix P opening foreigners events image → RecoversToPrefix Q opening foreigners more image
prefix_weaker P Q opening foreigners events more weaker same image is = record {
  result = is.result;
  recovers = is.recovers;
  boundary = weaker is.recovers.header.last.0 is.boundary;
  stands = subst (λ (es : List Event). StandsFor is.result (volume_of opening foreigners es))
      (sym (same is.recovers.header.last.0 is.boundary)) is.stands;
}

-- the same of all that a crash may leave over a step
pub leaves_weaker : (P Q : ℕ → Type 0) (past since : LeftSince) (opening : Volume) (foreigners : Foreigners) (events more : List Event)
    → ((boundary : ℕ) → P boundary → Q boundary) → ((boundary : ℕ) → P boundary → up_to boundary more ≡ up_to boundary events)
    → LeavesPrefixes past since P opening foreigners events → LeavesPrefixes past since Q opening foreigners more
leaves_weaker P Q past since opening foreigners events more weaker same leaves moment image left = elim (leaves moment image left) [
  | inl was ↦ inl was
  | inr is ↦ inr (prefix_weaker P Q opening foreigners events more weaker same image is)
]

-- and of two steps, one after the other
pub leaves_then : (P : ℕ → Type 0) (past mid since : LeftSince) (opening : Volume) (foreigners : Foreigners) (events : List Event)
    → LeavesPrefixes past mid P opening foreigners events → LeavesPrefixes mid since P opening foreigners events
    → LeavesPrefixes past since P opening foreigners events
leaves_then P past mid since opening foreigners events first second moment image left = elim (second moment image left) [
  | inl was ↦ first moment image was
  | inr is ↦ inr is
]

-- Code that leaves the disk leaves what a crash may leave. Around other code it adds nothing.
module _ {D : Type 0} (left_since : D → LeftSince) (told : D → Option Told) where
  pub leaves_same : (old new : D) → new ≡ old → LeavesNow (left_since old) (left_since new) (told new)
  leaves_same old new same =
      subst (λ (d : D). LeavesNow (left_since old) (left_since d) (told d)) (sym same) (λ moment image left. inl left)

  pub leaves_around : (old first last new : D) → first ≡ old → new ≡ last → LeavesNow (left_since first) (left_since last) (told last)
      → LeavesNow (left_since old) (left_since new) (told new)
  leaves_around old first last new begun ended within =
      subst (λ (d : D). LeavesNow (left_since old) (left_since d) (told d)) (sym ended)
      (subst (λ (d : D). LeavesNow (left_since d) (left_since last) (told last)) begun within)

-- What may be left within a call or stage is one of these, from whatever moment on: a moment after the step's start leaves what its start
-- leaves, and of that all that was left before is left by a crash at the start.
module _ (Within : List ℕ → Type 0) (past since : LeftSince) (s t : Told)
    (earlier : (first moment : ℕ) (image : List ℕ) → first ≤ moment → since moment image → since first image)
    (only : (image : List ℕ) → past s.moment image → MayLeave s.bytes s.unsettled image)
    (start : Each (MayLeave s.bytes s.unsettled) Within) where
  pub all_moments : Elapses Within past since s t → (moment : ℕ) (image : List ℕ) → since moment image → past moment image ⊎ Within image
  all_moments elapses moment image left = elim (cases_lt s.moment moment) [
    | inl after ↦ elim (elapses.only s.moment image (omega arith) (earlier s.moment moment image (omega (arith, after)) left)) [
      | inl was ↦ inr (start image (only image was))
      | inr within ↦ inr within
    ]
    | inr before ↦ elapses.only moment image before left
  ]
