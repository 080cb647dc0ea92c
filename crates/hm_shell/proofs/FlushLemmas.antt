-- How many stages a core is at most away from one that waits for no flush: each stage that is made lowers the number.
use Rattle.std.proofs.Common.{◌≡◌, ◌≢◌, ℕ, ◌+◌, ◌-◌, ◌*◌, ◌<◌, ◌≤◌, ◌&&◌, Bool, true, false, if◌then◌else◌}
use Rattle.std.proofs.Common.{length, nat_eq, nat_lt, refl, sym, ◌∙◌, ap, subst, inl, inr, arith}
use Rattle.std.specs.Prelude.{◌⊎◌}
use Rattle.std.proofs.lemmas.Bool.{eq-eqb, le-ltb, ne_eqb}
use Rattle.hm_types.specs.declared.limits.TheConstants.{FULL_GROUP_PAGES}
use Rattle.hm_header.specs.declared.header.Header.{Header}
use Rattle.hm_pages.specs.Calls.{IsFrozen}
use Rattle.hm_pages.specs.Sets.{ChangeSet}
use Rattle.hm_pages.specs.Store.{Store}
use Rattle.hm_flush.specs.Calls.{IsMoved, LeftFalls, PagesMove, StageSucceeds}
use Rattle.hm_flush.specs.Flush.{begun_flush, header_to_write_at, left, left_at}
use Rattle.hm_flush.specs.Group.{Group, group_of, live_before, next_live}
use Rattle.hm_flush.specs.Stages.{committed, armed, due_stage_at, moved_flush}
use Rattle.hm_flush.specs.declared.change.Change.{Change}
use Rattle.hm_flush.specs.declared.change.Change.TheVariants.{Close, Open, Write}
use Rattle.hm_flush.specs.declared.flush.Flush.{Flush}
use Rattle.hm_flush.specs.declared.flush.Position.{Position}
use Rattle.hm_flush.specs.declared.flush.Position.TheVariants.{Arming, Committing, Idle, Placing, Undoing}
use Rattle.hm_flush.specs.declared.stage.Stage.{Stage}
use Rattle.hm_flush.specs.declared.stage.Stage.TheVariants.{Place, PlaceSync, Undo, UndoSync}
use Rattle.hm_model.specs.declared.command.Command.{Command}
use Rattle.hm_core.specs.Core.{NeedsFlush}
use Rattle.hm_core.specs.Staged.{IsFlushed, MakesStage, header_now}
use Rattle.hm_core.specs.State.{CoreState}

-- the last id that is committed once no flush is in flight, at each position
abbrev pub frontier_at : Position → Flush → ℕ
frontier_at Idle f = f.header.last.0
frontier_at (Undoing from) f = f.target.last.0
frontier_at (Arming change) f = f.target.last.0
frontier_at (Placing i) f = f.target.last.0
frontier_at (Committing change) f = f.target.last.0

abbrev pub frontier : Flush → ℕ
frontier f = frontier_at f.at f

-- By then all is committed, and the group of so many pages does not fill one.
abbrev pub is_covered : ℕ → Flush → ℕ → Bool
is_covered last f pages = nat_eq (frontier f) last && nat_lt pages FULL_GROUP_PAGES

-- the stages of the flush that follows, where one does
abbrev pub following : Bool → ℕ → ℕ
following true pages = 0
following false pages = 2 * pages + 9

abbrev pub stages_left : CoreState → ℕ
stages_left core = left core.flush + following (is_covered core.last core.flush core.heap.pages.group.pages) core.heap.pages.group.pages

-- in flight it is that of the target, before a stage and after it
flying : (at : Position) (f : Flush) → at ≢ Idle → frontier_at at f ≡ f.target.last.0
flying Idle f flight = absurd (flight refl)
flying (Undoing from) f flight = refl
flying (Arming change) f flight = refl
flying (Placing i) f flight = refl
flying (Committing change) f flight = refl

armed_flies : (change : Change) (f : Flush) → frontier (armed change f) ≡ f.target.last.0
armed_flies Close f = refl
armed_flies Write f = refl
armed_flies (Open tried) f = refl

committed_flies : (change due : Change) (f : Flush) → f.at ≡ Committing due → frontier (committed change f) ≡ f.target.last.0
committed_flies Close due f at = refl
committed_flies Write due f at = refl
committed_flies (Open tried) due f at = ap (λ (p : Position). (header_to_write_at p f).last.0) at

undone_flies : (more : Bool) (i : ℕ) (f : Flush) → frontier (moved_flush (if more then Undo i else UndoSync) f) ≡ f.target.last.0
undone_flies true i f = refl
undone_flies false i f = refl

placed_flies : (more : Bool) (i : ℕ) (f : Flush) → frontier (moved_flush (if more then Place i else PlaceSync) f) ≡ f.target.last.0
placed_flies true i f = refl
placed_flies false i f = refl

moved_flies : (at : Position) (f : Flush) (g : Group) → f.at ≡ at → at ≢ Idle → frontier (moved_flush (due_stage_at at f g) f) ≡ f.target.last.0
moved_flies Idle f g is flight = absurd (flight refl)
moved_flies (Undoing from) f g is flight =
    undone_flies (nat_lt (next_live g.was_live from (f.pages - from)) f.pages) (next_live g.was_live from (f.pages - from)) f
moved_flies (Arming change) f g is flight = armed_flies _ f
moved_flies (Placing i) f g is flight = placed_flies (nat_lt i f.pages) i f
moved_flies (Committing change) f g is flight = committed_flies _ change f is

is_moved : (at : Position) (now : Header) (stage : Stage) (s : Store) (old new : Flush) → at ≢ Idle → IsMoved at now stage s old new
    → new ≡ moved_flush stage old
is_moved Idle now stage s old new flight moved = absurd (flight refl)
is_moved (Undoing from) now stage s old new flight moved = moved
is_moved (Arming change) now stage s old new flight moved = moved
is_moved (Placing i) now stage s old new flight moved = moved
is_moved (Committing change) now stage s old new flight moved = moved

-- no stage in flight changes the current group, and each lowers the number of those that are left
group_stays : (at : Position) (now : Header) (s s' : Store) → at ≢ Idle → PagesMove at now s s' → s'.group ≡ s.group
group_stays Idle now s s' flight store = absurd (flight refl)
group_stays (Undoing from) now s s' flight store = ap (λ (x : Store). x.group) store
group_stays (Arming change) now s s' flight store = ap (λ (x : Store). x.group) store
group_stays (Placing i) now s s' flight store = ap (λ (x : Store). x.group) store
group_stays (Committing Close) now s s' flight store = ap (λ (x : Store). x.group) store
group_stays (Committing Write) now s s' flight store = ap (λ (x : Store). x.group) store
group_stays (Committing (Open tried)) now s s' flight store = store.group

left_less : (at : Position) (s : Store) (old new : Flush) → at ≢ Idle → LeftFalls at s old new → left new + 1 ≡ left old
left_less Idle s old new flight falls = absurd (flight refl)
left_less (Undoing from) s old new flight falls = falls
left_less (Arming change) s old new flight falls = falls
left_less (Placing i) s old new flight falls = falls
left_less (Committing change) s old new flight falls = falls

module _ (old new : CoreState) (makes : MakesStage old new) where
  frontier_stays : old.flush.at ≢ Idle → frontier new.flush ≡ frontier old.flush
  frontier_stays flight =
      let f = old.flush in
      let g = group_of old.heap.pages in
      let moved = is_moved f.at (header_now old) makes.stage new.heap.pages f new.flush flight makes.made.flush in
      ap frontier (moved ∙ ap (λ (s : Stage). moved_flush s f) makes.made.stage_is) ∙ moved_flies f.at f g refl flight ∙ sym (flying f.at f flight)

  falls_flying : old.flush.at ≢ Idle → stages_left new < stages_left old
  falls_flying flight =
      let pages = ap (λ (g : ChangeSet). g.pages)
      (group_stays old.flush.at (header_now old) old.heap.pages new.heap.pages flight makes.made.store) in
      let less = left_less old.flush.at new.heap.pages old.flush new.flush flight makes.made.left in
      let same : following (is_covered new.last new.flush new.heap.pages.group.pages) new.heap.pages.group.pages
      ≡ following (is_covered old.last old.flush old.heap.pages.group.pages) old.heap.pages.group.pages =
      ap (λ n. following (nat_eq (frontier new.flush) new.last && nat_lt n FULL_GROUP_PAGES) n) pages
      ∙ ap (λ n. following (nat_eq n new.last && nat_lt old.heap.pages.group.pages FULL_GROUP_PAGES) old.heap.pages.group.pages)
      (frontier_stays flight)
      ∙ ap (λ n. following (nat_eq (frontier old.flush) n && nat_lt old.heap.pages.group.pages FULL_GROUP_PAGES) old.heap.pages.group.pages)
      makes.waits.last in
      omega (arith, less, same)

  -- Freeze begins the flush that was to follow
  falls_idle : old.flush.at ≡ Idle → is_covered old.last old.flush old.heap.pages.group.pages ≡ false → stages_left new < stages_left old
  falls_idle idle uncovered =
      let now = header_now old in
      let frozen : IsFrozen now.last old.heap.pages new.heap.pages =
      subst (λ (p : Position). PagesMove p now old.heap.pages new.heap.pages) idle makes.made.store in
      let count = length new.heap.pages.frozen_group in
      let live = live_before (group_of new.heap.pages).was_live count in
      let begun : new.flush ≡ begun_flush now count live old.flush =
      subst (λ (p : Position). IsMoved p now makes.stage new.heap.pages old.flush new.flush) idle makes.made.flush in
      let few : left new.flush ≤ 2 * count + 8 = subst (λ (p : Position). LeftFalls p new.heap.pages old.flush new.flush) idle makes.made.left in
      let none : left old.flush ≡ 0 = ap (λ (p : Position). left_at p old.flush) idle in
      let pages : new.heap.pages.group.pages ≡ 0 = ap (λ (g : ChangeSet). g.pages) frozen.group in
      let reached : frontier new.flush ≡ new.last = ap frontier begun ∙ sym makes.waits.last in
      let closed : following (is_covered new.last new.flush new.heap.pages.group.pages) new.heap.pages.group.pages ≡ 0 =
      ap (λ n. following (nat_eq (frontier new.flush) new.last && nat_lt n FULL_GROUP_PAGES) n) pages
      ∙ ap (λ b. following (b && nat_lt 0 FULL_GROUP_PAGES) 0) (eq-eqb (frontier new.flush) new.last reached) in
      let was = ap (λ b. following b old.heap.pages.group.pages) uncovered in
      let len = frozen.len in
      omega (arith, few, none, closed, was, len)

  pub stages_fall : (old.flush.at ≡ Idle → is_covered old.last old.flush old.heap.pages.group.pages ≡ false) → stages_left new < stages_left old
  stages_fall uncovered = by old.flush.at refl where
    by : (at : Position) → old.flush.at ≡ at → stages_left new < stages_left old
    by Idle is = falls_idle is (uncovered is)
    by (Undoing from) is = falls_flying (λ idle. absurd (cc))
    by (Arming change) is = falls_flying (λ idle. absurd (cc))
    by (Placing i) is = falls_flying (λ idle. absurd (cc))
    by (Committing change) is = falls_flying (λ idle. absurd (cc))

-- a core that waits for a flush, or that is not flushed, is not covered while none is in flight
and_false : (b : Bool) → (b && false) ≡ false
and_false true = refl
and_false false = refl

module _ (core : CoreState) (boundary_is : core.boundary ≡ core.flush.header.last.0) where
  before_last : (core.boundary ≢ core.last) → core.flush.at ≡ Idle → is_covered core.last core.flush core.heap.pages.group.pages ≡ false
  before_last before idle =
      let at : frontier core.flush ≡ core.boundary = ap (λ (p : Position). frontier_at p core.flush) idle ∙ sym boundary_is in
      ap (λ b. b && nat_lt core.heap.pages.group.pages FULL_GROUP_PAGES)
      (ne_eqb (frontier core.flush) core.last (λ same. before (sym at ∙ same)))

  pub waiting_open : (since : ℕ) (command : Command) → since ≡ core.last → NeedsFlush core since command → core.flush.at ≡ Idle
      → is_covered core.last core.flush core.heap.pages.group.pages ≡ false
  waiting_open since command same (inl full) idle =
      ap (λ b. nat_eq (frontier core.flush) core.last && b) (le-ltb core.heap.pages.group.pages FULL_GROUP_PAGES full)
      ∙ and_false (nat_eq (frontier core.flush) core.last)
  waiting_open since command same (inr sync) idle = (let below = sync.1 in before_last (λ is. absurd (omega (arith, below, same, is))) idle)

  pub unflushed_open : ¬ IsFlushed core → core.flush.at ≡ Idle → is_covered core.last core.flush core.heap.pages.group.pages ≡ false
  unflushed_open unflushed idle = before_last (λ is. unflushed (record { idle = idle; last = is })) idle
