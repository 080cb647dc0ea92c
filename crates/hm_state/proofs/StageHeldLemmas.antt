-- What a flush holds of a space it holds still after a stage.
use Rattle.std.proofs.Common.{◌≡◌, ◌≢◌, ◌⊎◌, inl, inr, ℕ, ◌*◌, ◌<◌, ◌≤◌, true, true≢false, List, [], ◌∷◌, None, Option, Some}
use Rattle.std.proofs.Common.{refl, sym, ap, subst, ◌∙◌, ◌&&◌, Bool, arith, eq-eqb, is_some, map}
use Rattle.std.specs.Prelude.{Result, Ok, Err}
use Rattle.std.specs.List.{All, Contains}
use Rattle.std.proofs.lemmas.List.Elements.{All-contains, All-contains_itself, All-weaker}
use Rattle.hm_types.specs.Layout.{blocks_per_layer2, first_undo, layer2_blocks, start_of}
use Rattle.hm_types.specs.Offset.{zone_of}
use Rattle.hm_types.specs.References.{Reference}
use Rattle.hm_types.specs.declared.fault.Fault.{Fault}
use Rattle.hm_types.specs.declared.zone.TheConstants.{FREEMAP_ZONE}
use Rattle.hm_disk.specs.Crash.{MayLeave, Outside, Told}
use Rattle.hm_disk.specs.Transfer.{UnsettlesAtMost}
use Rattle.hm_fields.specs.Pages.{PageMap}
use Rattle.hm_freemap.specs.Places.{page_of}
use Rattle.hm_freemap.proofs.PlaceLemmas.{page_zone}
use Rattle.hm_header.specs.Range.{IsSize}
use Rattle.hm_header.specs.declared.header.Header.{Header}
use Rattle.hm_flush.specs.declared.flush.Flush.{Flush}
use Rattle.hm_flush.specs.declared.flush.Position.TheVariants.{Idle}
use Rattle.hm_flush.specs.declared.stage.Stage.{Stage}
use Rattle.hm_flush.specs.Ends.{StageDoes, as_read}
use Rattle.hm_flush.specs.Flush.{committed_header}
use Rattle.hm_flush.specs.Group.{Group, group_of}
use Rattle.hm_flush.specs.Guard.{ArePlaced, Guards}
use Rattle.hm_flush.specs.Recoverable.{HasStateOf, IsInPages}
use Rattle.hm_flush.specs.Stages.{range_of}
use Rattle.hm_search.specs.Tree.{elements_of}
use Rattle.hm_image.specs.Image.{to_payload}
use Rattle.hm_image.specs.Same.{HasSameBytes}
use Rattle.hm_model.specs.Volume.{Volume}
use Rattle.hm_pages.specs.Sets.{in_freemap}
use Rattle.hm_pages.specs.Store.{Store, layer2}
use Rattle.hm_stored.specs.declared.roots.Roots.{Roots}
use Rattle.hm_stored.specs.Basis.{entry_outside, nodes}
use Rattle.hm_stored.specs.Flushed.{FlushesSpace}
use Rattle.hm_stored.specs.Heap.{Heap}
use Rattle.hm_stored.specs.Held.{AreOnlyOf}
use Rattle.hm_state.specs.AtRest.{HoldsAtRest, at_rest}
use Rattle.hm_state.specs.Flushing.{ArePayloadsSettled, HoldsFlush, HoldsOutside, IsLogged, IsSettledAt, IsWholeState, committed_after, frozen_after}
use Rattle.hm_state.specs.Volume.{HoldsVolume}
use Rattle.hm_state.specs.Written.{IsHeaderOf}
use Rattle.hm_state.proofs.AtRestLemmas.{rest_held}
use Rattle.hm_state.proofs.BesideLemmas.{layer1_left, named_left, past_left}
use Rattle.hm_state.proofs.CourseLemmas.{Commits, Course, EndsSynced, Freezes, Stays, commits, course, freezes, logged_flies, same_state, stays}
use Rattle.hm_state.proofs.MovedLemmas.{bigblocks_same}
use Rattle.hm_state.proofs.SameLemmas.{holds_same}
use Rattle.hm_state.proofs.StageRangeLemmas.{IsBesideRange, committed_beside, current_beside, freemap_beside, frozen_beside}

-- What a stage does to a disk, so far as it matters here: nothing outside its range, and some end with a sync.
pub record Touches (f : Flush) (g : Group) (result : Result Stage Fault) (s t : Told) : Type 0 where
  pub bytes : MayLeave s.bytes (range_of f g ∷ []) t.bytes
  pub unsettled : UnsettlesAtMost (range_of f g).0 (range_of f g).1 s t
  pub settled : EndsSynced f g result → t.unsettled ≡ []

pub stage_touches : (f : Flush) (g : Group) (result : Result Stage Fault) (s t : Told) → StageDoes f g result s t → Touches f g result s t
stage_touches f g (Ok stage) s t does = record { bytes = does.others; unsettled = does.unsettled; settled = does.settled }
stage_touches f g (Err fault) s t does =
    record { bytes = does.torn.bytes_are; unsettled = does.torn.unsettled_are; settled = λ none. absurd none }

-- the same, as if all were settled before and after
pub touches_as_read : (f : Flush) (g : Group) (result : Result Stage Fault) (s t : Told) → Touches f g result s t
    → Touches f g result (as_read s) (as_read t)
touches_as_read f g result s t touches = record { bytes = touches.bytes; unsettled = λ byte out. tt; settled = λ _. refl }

-- what stands beside its range has the same bytes
pub same_beside : (f : Flush) (g : Group) (result : Result Stage Fault) (s t : Told) → Touches f g result s t → (rs : List Reference)
    → All (IsBesideRange (range_of f g)) rs → All (HasSameBytes s.bytes t.bytes) rs
same_beside f g result s t touches rs beside = named_left s.bytes t.bytes (range_of f g ∷ []) touches.bytes rs beside

-- ---- one state

-- the payloads of a tree
abbrev pub payloads : PageMap → ℕ → List Reference
payloads pages root = map to_payload (elements_of (nodes pages) root)

-- A state by itself is the same under each header that tells of it, and over each disk with its payloads.
module _ (s t : Told) (header header' : Header) (pages : PageMap) (volume : Volume) (state : HasStateOf header header')
    (same : All (HasSameBytes s.bytes t.bytes) (payloads pages header.root)) (whole : IsWholeState s header pages volume) where
  moved_disk : HoldsAtRest t header pages volume
  moved_disk =
      let holds = whole.holds in
      record {
        bigblocks = holds.bigblocks;
        last_is = holds.last_is;
        elements = (
          holds.elements.0,
          holds_same (at_rest (Some s) header pages) header.root holds.elements.0 s t refl same holds.elements.1,
          holds.elements.2,
        );
      }

  header_is : header ≡ record header { bigblocks = header'.bigblocks; last = header'.last; root = header'.root; append = header'.append }
  header_is = λ i. record header {
    bigblocks = sym state.bigblocks i;
    last = sym state.last i;
    root = sym state.root i;
    append = sym state.append i;
  }

  pub whole_moved : IsWholeState t header' pages volume
  whole_moved = record {
    holds = subst (λ (x : Header). HoldsAtRest t x pages volume) header_is moved_disk;
    only = subst (λ (n : ℕ). AreOnlyOf n pages) (sym state.bigblocks) whole.only;
    bytes = whole.bytes;
  }

pub all_settled : (t : Told) (rs : List Reference) → t.unsettled ≡ [] → All (IsSettledAt t) rs
all_settled t rs none =
    All-weaker (Contains rs) (IsSettledAt t) (λ r _ byte _ _. subst (λ (ranges : List (ℕ × ℕ)). Outside ranges byte) (sym none) tt)
    rs (All-contains_itself rs)

-- ---- all of a flush

module _ (now : Header) (f f' : Flush) (old new : Heap) (result : Result Stage Fault) (flushes : FlushesSpace now f f' old new result)
    (root last : ℕ) (volume : Volume) (is_header : IsHeaderOf old root last now) (held : HoldsVolume old root last volume)
    (r s t : Told) (disk : old.disk ≡ Some r) (read : r.bytes ≡ s.bytes) (committed frozen : Volume) (holds : HoldsFlush f old s committed frozen)
    (touches : Touches f (group_of old.pages) result s t) where
  abbrev range : ℕ × ℕ
  range = range_of f (group_of old.pages)

  -- payloads beside the range have the same bytes, settled where they were
  same_payloads : (rs : List Reference) → All (IsBesideRange range) rs → All (HasSameBytes s.bytes t.bytes) rs
  same_payloads = same_beside f (group_of old.pages) result s t touches

  stay_settled : (rs : List Reference) → All (IsBesideRange range) rs → All (IsSettledAt s) rs → All (IsSettledAt t) rs
  stay_settled rs beside settled =
      All-weaker (Contains rs) (IsSettledAt t)
      (λ x there byte from to.
      let out = All-contains (IsBesideRange range) rs x beside there byte from to in
      touches.unsettled byte (out.0, All-contains (IsSettledAt s) rs x settled there byte from to))
      rs (All-contains_itself rs)

  beside_committed : All (IsBesideRange range) (payloads old.pages.committed f.header.root)
  beside_committed = committed_beside f old flushes.flush flushes.ready flushes.before s committed frozen holds root last volume held

  beside_frozen : f.at ≢ Idle → All (IsBesideRange range) (payloads old.pages.frozen f.target.root)
  beside_frozen = frozen_beside f old flushes.flush flushes.ready flushes.before s committed frozen holds root last volume held

  beside_current : All (IsBesideRange range) (payloads old.pages.current root)
  beside_current = current_beside f old flushes.flush flushes.ready flushes.before s committed frozen holds root last volume held

  committed_stays : (header : Header) → HasStateOf f.header header → IsWholeState t header old.pages.committed committed
  committed_stays header state =
      whole_moved s t f.header header old.pages.committed committed state
      (same_payloads (payloads old.pages.committed f.header.root) beside_committed) holds.committed_is

  frozen_stays : f.at ≢ Idle → (header : Header) → HasStateOf f.target header → IsWholeState t header old.pages.frozen frozen
  frozen_stays flies header state =
      whole_moved s t f.target header old.pages.frozen frozen state
      (same_payloads (payloads old.pages.frozen f.target.root) (beside_frozen flies)) (holds.frozen_is flies)

  committed_settles : ArePayloadsSettled t old.pages.committed f.header.root
  committed_settles = stay_settled (payloads old.pages.committed f.header.root) beside_committed holds.committed_settled

  frozen_settles : IsLogged f.at → ArePayloadsSettled t old.pages.frozen f.target.root
  frozen_settles logged =
      stay_settled (payloads old.pages.frozen f.target.root) (beside_frozen (logged_flies f.at logged)) (holds.frozen_settled logged)

  -- the state of calls is one by itself
  current_whole : IsWholeState t now old.pages.current volume
  current_whole =
      let at_read : HoldsAtRest r now old.pages.current volume =
      subst (λ (o : Option Told). HoldsVolume (at_rest o now old.pages.current) now.root now.last.0 volume) disk
      (rest_held old root last volume now held is_header) in
      let same : All (HasSameBytes r.bytes t.bytes) (payloads old.pages.current now.root) =
      subst (λ (x : ℕ). All (HasSameBytes r.bytes t.bytes) (payloads old.pages.current x)) (sym is_header.root_is)
      (subst (λ (bytes : List ℕ). All (HasSameBytes bytes t.bytes) (payloads old.pages.current root)) (sym read)
      (same_payloads (payloads old.pages.current root) beside_current)) in
      whole_moved r t now now old.pages.current volume (same_state now) same
      record {
        holds = at_read;
        only = subst (λ (n : ℕ). AreOnlyOf n old.pages.current) (sym is_header.bigblocks) flushes.before.only;
        bytes = flushes.before.current;
      }

  -- what stands outside the committed pages
  freemap_apart : (byte : ℕ) → start_of 1 ≤ byte → byte < start_of (first_undo old.bigblocks) → ¬ IsInPages old.pages.committed byte
      → Outside (range ∷ []) byte
  freemap_apart = freemap_beside f old flushes.flush flushes.ready flushes.before s committed frozen holds root last volume held

  outside_stays : HoldsOutside t old.bigblocks old.pages.committed
  outside_stays =
      let outside = holds.outside in
      let n = old.bigblocks in
      let size = subst IsSize (sym holds.bigblocks) flushes.flush.header.bigblocks in
      let placed = subst (λ (m : ℕ). ArePlaced m old.pages.committed) (sym holds.bigblocks) holds.guarded.committed in
      record {
        size = omega (arith, outside.size, touches.bytes.size);
        layer1 = layer1_left s.bytes t.bytes (range ∷ []) touches.bytes n size old.pages.committed placed freemap_apart outside.layer1;
        past = λ block low none.
            past_left s.bytes t.bytes (range ∷ []) touches.bytes n size old.pages.committed placed freemap_apart block (entry_outside n block) low none
            (outside.past block low none);
        settled = λ byte from to none. touches.unsettled byte ((freemap_apart byte from to none).0, outside.settled byte from to none);
      }

  -- each page of layer 2 stands in the zone of the freemap
  in_zone : (block : ℕ) → block < layer2_blocks old.bigblocks * blocks_per_layer2 → in_freemap (page_of block) ≡ true
  in_zone block low =
      let size = flushes.flush.header.bigblocks in
      eq-eqb (zone_of (page_of block)) FREEMAP_ZONE (page_zone block (omega (arith, low, size.1, holds.bigblocks)))

  -- where all is settled and the frozen pages are committed
  outside_frozen : t.unsettled ≡ [] → HoldsOutside t old.bigblocks old.pages.frozen
  outside_frozen none =
      let outside = outside_stays in
      record {
        size = outside.size;
        layer1 = outside.layer1;
        past = λ block low missing. outside.past block low (uncommitted block low missing (old.pages.committed (page_of block)) refl);
        settled = λ byte _ _ _. subst (λ (ranges : List (ℕ × ℕ)). Outside ranges byte) (sym none) tt;
      } where
        uncommitted : (block : ℕ) → block < layer2_blocks old.bigblocks * blocks_per_layer2 → old.pages.frozen (page_of block) ≡ None
            → (o : Option (List ℕ)) → old.pages.committed (page_of block) ≡ o → old.pages.committed (page_of block) ≡ None
        uncommitted block low missing None is = is
        uncommitted block low missing (Some page) is =
            let there : layer2 old.pages (page_of block) ≡ true =
            ap (λ (o : Option (List ℕ)). in_freemap (page_of block) && is_some o) is ∙ ap (λ (b : Bool). b && true) (in_zone block low) in
            let frozen_there = (flushes.before.sound.layer2 (page_of block) there).0 in
            absurd (true≢false (sym frozen_there ∙ ap (λ (o : Option (List ℕ)). is_some o) missing))

  -- ---- after each kind of stage

  held_stays : Guards f' new.pages t → Stays f f' old new result → HoldsFlush f' new t committed frozen
  held_stays guards is = record {
    bigblocks = bigblocks_same now f f' old new result flushes ∙ holds.bigblocks ∙ sym is.header.bigblocks;
    guarded = guards;
    committed_is = subst (λ (p : Store). IsWholeState t f'.header p.committed committed) (sym is.pages) (committed_stays f'.header is.header);
    committed_root = ap (λ (x : Roots). x.committed) is.roots ∙ holds.committed_root ∙ sym is.header.root;
    committed_settled =
        subst (λ (x : ℕ). ArePayloadsSettled t new.pages.committed x) (sym is.header.root)
        (subst (λ (p : Store). ArePayloadsSettled t p.committed f.header.root) (sym is.pages) committed_settles);
    frozen_is = λ flies.
        subst (λ (x : Header). IsWholeState t x new.pages.frozen frozen) (sym is.target)
        (subst (λ (p : Store). IsWholeState t f.target p.frozen frozen) (sym is.pages) (frozen_stays (is.flight flies) f.target (same_state f.target)));
    frozen_root = λ flies. ap (λ (x : Roots). x.frozen) is.roots ∙ holds.frozen_root (is.flight flies) ∙ ap (λ (x : Header). x.root) (sym is.target);
    frozen_settled = λ logged.
        subst (λ (x : Header). ArePayloadsSettled t new.pages.frozen x.root) (sym is.target)
        (subst (λ (p : Store). ArePayloadsSettled t p.frozen f.target.root) (sym is.pages) (by_logged (is.logged logged)));
    outside =
        subst (λ (n : ℕ). HoldsOutside t n new.pages.committed) (sym (bigblocks_same now f f' old new result flushes))
        (subst (λ (p : Store). HoldsOutside t old.bigblocks p.committed) (sym is.pages) outside_stays);
  } where
    by_logged : IsLogged f.at ⊎ EndsSynced f (group_of old.pages) result → ArePayloadsSettled t old.pages.frozen f.target.root
    by_logged (inl logged) = frozen_settles logged
    by_logged (inr synced) = all_settled t (payloads old.pages.frozen f.target.root) (touches.settled synced)

  held_freezes : Guards f' new.pages t → Freezes now f f' old new result → HoldsFlush f' new t committed volume
  held_freezes guards is = record {
    bigblocks = bigblocks_same now f f' old new result flushes ∙ holds.bigblocks ∙ ap (λ (x : Header). x.bigblocks) (sym is.header);
    guarded = guards;
    committed_is =
        subst (λ (x : Header). IsWholeState t x new.pages.committed committed) (sym is.header)
        (subst (λ (p : PageMap). IsWholeState t f.header p committed) (sym is.pages.committed) (committed_stays f.header (same_state f.header)));
    committed_root = ap (λ (x : Roots). x.committed) is.roots ∙ holds.committed_root ∙ ap (λ (x : Header). x.root) (sym is.header);
    committed_settled =
        subst (λ (x : Header). ArePayloadsSettled t new.pages.committed x.root) (sym is.header)
        (subst (λ (p : PageMap). ArePayloadsSettled t p f.header.root) (sym is.pages.committed) committed_settles);
    frozen_is = λ flies.
        subst (λ (x : Header). IsWholeState t x new.pages.frozen volume) (sym is.target)
        (subst (λ (p : PageMap). IsWholeState t now p volume) (sym is.pages.frozen) current_whole);
    frozen_root = λ flies. ap (λ (x : Roots). x.frozen) is.roots ∙ ap (λ (x : Header). x.root) (sym is.target);
    frozen_settled = λ logged. absurd (is.logged logged);
    outside =
        subst (λ (n : ℕ). HoldsOutside t n new.pages.committed) (sym (bigblocks_same now f f' old new result flushes))
        (subst (λ (p : PageMap). HoldsOutside t old.bigblocks p) (sym is.pages.committed) outside_stays);
  }

  held_commits : Guards f' new.pages t → Commits f f' old new result → (other : Volume) → HoldsFlush f' new t frozen other
  held_commits guards is other =
      let next = committed_header f.header f.target in
      let state : HasStateOf f.target next =
      record { version = refl; bigblocks = sym flushes.flush.bigblocks; last = refl; root = refl; append = refl } in
      let none = touches.settled is.synced in
      record {
        bigblocks = bigblocks_same now f f' old new result flushes ∙ holds.bigblocks ∙ ap (λ (x : Header). x.bigblocks) (sym is.header);
        guarded = guards;
        committed_is =
            subst (λ (x : Header). IsWholeState t x new.pages.committed frozen) (sym is.header)
            (subst (λ (p : PageMap). IsWholeState t next p frozen) (sym is.pages.committed) (frozen_stays is.flight next state));
        committed_root =
            ap (λ (x : Roots). x.committed) is.roots ∙ holds.frozen_root is.flight ∙ ap (λ (x : Header). x.root) (sym is.header);
        committed_settled = all_settled t (payloads new.pages.committed f'.header.root) none;
        frozen_is = λ flies. absurd (flies is.idle);
        frozen_root = λ flies. absurd (flies is.idle);
        frozen_settled = λ logged. absurd (subst IsLogged is.idle logged);
        outside =
            subst (λ (n : ℕ). HoldsOutside t n new.pages.committed) (sym (bigblocks_same now f f' old new result flushes))
            (subst (λ (p : PageMap). HoldsOutside t old.bigblocks p) (sym is.pages.committed) (outside_frozen none));
      }

  pub held_after : Guards f' new.pages t → HoldsFlush f' new t (committed_after f.at result committed frozen) (frozen_after f.at result volume frozen)
  held_after guards = by_course (course now f f' old new result flushes) where
    made : (c c' x x' : Volume) → c ≡ c' → x ≡ x' → HoldsFlush f' new t c' x' → HoldsFlush f' new t c x
    made c c' x x' first second is =
        subst (λ (y : Volume). HoldsFlush f' new t y x) (sym first) (subst (λ (y : Volume). HoldsFlush f' new t c' y) (sym second) is)

    by_course : Course now f f' old new result
        → HoldsFlush f' new t (committed_after f.at result committed frozen) (frozen_after f.at result volume frozen)
    by_course (stays is) = made _ committed _ frozen (is.committed_is committed frozen) (is.frozen_is volume frozen) (held_stays guards is)
    by_course (freezes is) = made _ committed _ volume (is.committed_is committed frozen) (is.frozen_is volume frozen) (held_freezes guards is)
    by_course (commits is) =
        let other = frozen_after f.at result volume frozen in
        made _ frozen other other (is.committed_is committed frozen) refl (held_commits guards is other)
