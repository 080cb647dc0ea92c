-- How a stage of a flush leaves a space: as it was but for its disk, or with the current state frozen, or with the frozen one committed.
use Rattle.std.proofs.Common.{◌≡◌, ◌≢◌, ◌⊎◌, inl, inr, ℕ, ◌-◌, Bool, true, false, refl, sym, ap, subst, ◌∙◌, nat_lt, cond}
use Rattle.std.specs.Prelude.{Result, Ok, Err}
use Rattle.hm_types.specs.declared.fault.Fault.{Fault}
use Rattle.hm_header.specs.declared.header.Header.{Header}
use Rattle.hm_model.specs.Volume.{Volume}
use Rattle.hm_pages.specs.Calls.{IsCommitted, IsFrozen}
use Rattle.hm_flush.specs.declared.change.Change.{Change}
use Rattle.hm_flush.specs.declared.change.Change.TheVariants.{Close, Write, Open}
use Rattle.hm_flush.specs.declared.flush.Flush.{Flush}
use Rattle.hm_flush.specs.declared.flush.Position.{Position}
use Rattle.hm_flush.specs.declared.flush.Position.TheVariants.{Idle, Undoing, Arming, Placing, Committing}
use Rattle.hm_flush.specs.declared.stage.Stage.{Stage}
use Rattle.hm_flush.specs.declared.stage.Stage.TheVariants.{UndoSync, Undo, Place, PlaceSync}
use Rattle.hm_flush.specs.Calls.{IsMoved, PagesMove, StageFails}
use Rattle.hm_flush.specs.Ends.{StageEnds}
use Rattle.hm_flush.specs.Flush.{committed_header, due_change, header_to_write, header_to_write_at, tried, tried_at}
use Rattle.hm_flush.specs.Group.{Group, group_of, next_live}
use Rattle.hm_flush.specs.Recoverable.{HasStateOf}
use Rattle.hm_flush.specs.Stages.{armed, committed, due_stage, due_stage_at, is_synced, moved_flush}
use Rattle.hm_stored.specs.Flushed.{FlushesSpace, roots_after, roots_made}
use Rattle.hm_stored.specs.Heap.{Heap}
use Rattle.hm_state.specs.Flushing.{IsLogged, committed_after, committed_made, frozen_after, frozen_made}

-- a stage succeeded that ends with a sync
abbrev pub EndsSynced : Flush → Group → Result Stage Fault → Type 0
EndsSynced f g (Ok stage) = is_synced (due_stage f g) ≡ true
EndsSynced f g (Err fault) = ⊥

pub record Stays (f f' : Flush) (old new : Heap) (result : Result Stage Fault) : Type 0 where
  pub pages : new.pages ≡ old.pages
  pub roots : new.roots ≡ old.roots
  pub header : HasStateOf f.header f'.header
  pub target : f'.target ≡ f.target
  pub flight : f'.at ≢ Idle → f.at ≢ Idle
  pub logged : IsLogged f'.at → IsLogged f.at ⊎ EndsSynced f (group_of old.pages) result
  pub committed_is : (committed frozen : Volume) → committed_after f.at result committed frozen ≡ committed
  pub frozen_is : (now frozen : Volume) → frozen_after f.at result now frozen ≡ frozen

pub record Freezes (now : Header) (f f' : Flush) (old new : Heap) (result : Result Stage Fault) : Type 0 where
  pub pages : IsFrozen now.last old.pages new.pages
  pub roots : new.roots ≡ record old.roots { frozen = now.root }
  pub header : f'.header ≡ f.header
  pub target : f'.target ≡ now
  pub logged : ¬ IsLogged f'.at
  pub committed_is : (committed frozen : Volume) → committed_after f.at result committed frozen ≡ committed
  pub frozen_is : (now frozen : Volume) → frozen_after f.at result now frozen ≡ now

pub record Commits (f f' : Flush) (old new : Heap) (result : Result Stage Fault) : Type 0 where
  pub pages : IsCommitted old.pages new.pages
  pub roots : new.roots ≡ record old.roots { committed = old.roots.frozen }
  pub header : f'.header ≡ committed_header f.header f.target
  pub target : f'.target ≡ f.target
  pub flight : f.at ≢ Idle
  pub idle : f'.at ≡ Idle
  pub synced : EndsSynced f (group_of old.pages) result
  pub committed_is : (committed frozen : Volume) → committed_after f.at result committed frozen ≡ frozen

pub data Course (now : Header) (f f' : Flush) (old new : Heap) (result : Result Stage Fault) : Type 0 where
  stays : Stays f f' old new result → Course now f f' old new result
  freezes : Freezes now f f' old new result → Course now f f' old new result
  commits : Commits f f' old new result → Course now f f' old new result

pub same_state : (header : Header) → HasStateOf header header
same_state header = record { version = refl; bigblocks = refl; last = refl; root = refl; append = refl }

-- ---- what a stage that was tried leaves

pub logged_tried : (at : Position) → IsLogged (tried_at at) → IsLogged at
logged_tried Idle is = is
logged_tried (Undoing from) is = is
logged_tried (Arming change) is = tt
logged_tried (Placing i) is = tt
logged_tried (Committing change) is = tt

-- a flush whose frozen tree is settled is in flight
pub logged_flies : (at : Position) → IsLogged at → at ≢ Idle
logged_flies Idle is same = is
logged_flies (Undoing from) is same = is
logged_flies (Arming change) is same = absurd cc
logged_flies (Placing i) is same = absurd cc
logged_flies (Committing change) is same = absurd cc

module _ (now : Header) (f f' : Flush) (old new : Heap) where
  abbrev g : Group
  g = group_of old.pages

  failed : (fault : Fault) → StageFails f f' old.pages new.pages → new.roots ≡ old.roots → Course now f f' old new (Err fault)
  failed fault fails roots = stays record {
    pages = fails.store;
    roots = roots;
    header = subst (λ (x : Flush). HasStateOf f.header x.header) (sym fails.flush) (same_state f.header);
    target = ap (λ (x : Flush). x.target) fails.flush;
    flight = λ flies idle. flies (ap (λ (x : Flush). x.at) fails.flush ∙ ap tried_at idle);
    logged = λ is. inl (logged_tried f.at (subst (λ (x : Flush). IsLogged x.at) fails.flush is));
    committed_is = λ committed frozen. refl;
    frozen_is = λ now frozen. refl;
  }

  module _ (stage : Stage) (stage_is : stage ≡ due_stage f g) where
    abbrev result : Result Stage Fault
    result = Ok stage

    -- the flush went on, and the pages are as they were
    goes_on : (at : Position) → f.at ≡ at → (x : Flush) → f' ≡ x → new.pages ≡ old.pages → new.roots ≡ old.roots → HasStateOf f.header x.header
        → x.target ≡ f.target → at ≢ Idle → (IsLogged x.at → IsLogged at ⊎ EndsSynced f g result)
        → ((committed frozen : Volume) → committed_made at committed frozen ≡ committed) → ((now frozen : Volume) → frozen_made at now frozen ≡ frozen)
        → Course now f f' old new result
    goes_on at here x is pages roots header target flies logged committed_is frozen_is = stays record {
      pages = pages;
      roots = roots;
      header = subst (λ (y : Flush). HasStateOf f.header y.header) (sym is) header;
      target = ap (λ (y : Flush). y.target) is ∙ target;
      flight = λ _ idle. flies (sym here ∙ idle);
      logged = λ logs.
          subst (λ (p : Position). IsLogged p ⊎ EndsSynced f g result) (sym here) (logged (subst (λ (y : Flush). IsLogged y.at) is logs));
      committed_is = λ committed frozen. ap (λ (p : Position). committed_made p committed frozen) here ∙ committed_is committed frozen;
      frozen_is = λ now frozen. ap (λ (p : Position). frozen_made p now frozen) here ∙ frozen_is now frozen;
    }

    -- the stage that is due is one that ends with a sync
    synced_at : (at : Position) → f.at ≡ at → is_synced (due_stage_at at f g) ≡ true → EndsSynced f g result
    synced_at at here is = ap (λ (p : Position). is_synced (due_stage_at p f g)) here ∙ is

    armed_state : (change : Change) → f.at ≡ Arming change → HasStateOf f.header (header_to_write f)
    armed_state change here =
        subst (λ (p : Position). HasStateOf f.header (header_to_write_at p f)) (sym here)
        record { version = refl; bigblocks = refl; last = refl; root = refl; append = refl }

    -- the next page that is to be saved, if any is
    abbrev next_from : ℕ → ℕ
    next_from from = next_live g.was_live from (f.pages - from)

    undone : (from : ℕ) → f.at ≡ Undoing from → (b : Bool) → nat_lt (next_from from) f.pages ≡ b
        → f' ≡ moved_flush (cond b (Undo (next_from from)) UndoSync) f → new.pages ≡ old.pages → new.roots ≡ old.roots → Course now f f' old new result
    undone from here true more moved pages roots =
        goes_on (Undoing from) here (moved_flush (Undo (next_from from)) f) moved pages roots (same_state f.header) refl (λ same. absurd cc)
        (λ logs. absurd logs) (λ _ _. refl) (λ _ _. refl)
    undone from here false none moved pages roots =
        goes_on (Undoing from) here (moved_flush UndoSync f) moved pages roots (same_state f.header) refl (λ same. absurd cc)
        (λ logs. inr (synced_at (Undoing from) here (ap (λ (b : Bool). is_synced (cond b (Undo (next_from from)) UndoSync)) none)))
        (λ _ _. refl) (λ _ _. refl)

    placed : (i : ℕ) → f.at ≡ Placing i → (b : Bool) → f' ≡ moved_flush (cond b (Place i) PlaceSync) f → new.pages ≡ old.pages → new.roots ≡ old.roots
        → Course now f f' old new result
    placed i here true moved pages roots =
        goes_on (Placing i) here (moved_flush (Place i) f) moved pages roots (same_state f.header) refl (λ same. absurd cc)
        (λ logs. inl tt) (λ _ _. refl) (λ _ _. refl)
    placed i here false moved pages roots =
        goes_on (Placing i) here (moved_flush PlaceSync f) moved pages roots (same_state f.header) refl (λ same. absurd cc)
        (λ logs. inl tt) (λ _ _. refl) (λ _ _. refl)

    changed : (change : Change) → f.at ≡ Arming change → f' ≡ armed change f → new.pages ≡ old.pages → new.roots ≡ old.roots
        → Course now f f' old new result
    changed Close here moved pages roots =
        goes_on (Arming Close) here (armed Close f) moved pages roots (same_state f.header) refl (λ same. absurd cc)
        (λ logs. inl tt) (λ _ _. refl) (λ _ _. refl)
    changed Write here moved pages roots =
        goes_on (Arming Write) here (armed Write f) moved pages roots (same_state f.header) refl (λ same. absurd cc)
        (λ logs. inl tt) (λ _ _. refl) (λ _ _. refl)
    changed (Open tried) here moved pages roots =
        goes_on (Arming (Open tried)) here (armed (Open tried) f) moved pages roots (armed_state (Open tried) here) refl (λ same. absurd cc)
        (λ logs. inl tt) (λ _ _. refl) (λ _ _. refl)

    ended : (change : Change) → f.at ≡ Committing change → f' ≡ committed change f → PagesMove (Committing change) now old.pages new.pages
        → new.roots ≡ roots_made (Committing change) now old.roots → Course now f f' old new result
    ended Close here moved pages roots =
        goes_on (Committing Close) here (committed Close f) moved pages roots (same_state f.header) refl (λ same. absurd cc)
        (λ logs. inl tt) (λ _ _. refl) (λ _ _. refl)
    ended Write here moved pages roots =
        goes_on (Committing Write) here (committed Write f) moved pages roots (same_state f.header) refl (λ same. absurd cc)
        (λ logs. inl tt) (λ _ _. refl) (λ _ _. refl)
    ended (Open tried) here moved pages roots = commits record {
      pages = pages;
      roots = roots;
      header = ap (λ (x : Flush). x.header) moved ∙ ap (λ (p : Position). header_to_write_at p f) here;
      target = ap (λ (x : Flush). x.target) moved;
      flight = λ idle. absurd (flies (sym here ∙ idle));
      idle = ap (λ (x : Flush). x.at) moved;
      synced = synced_at (Committing (Open tried)) here refl;
      committed_is = λ committed frozen. ap (λ (p : Position). committed_made p committed frozen) here;
    } where
      flies : Committing (Open tried) ≢ Idle
      flies same = absurd cc

    succeeded : (at : Position) → f.at ≡ at → IsMoved at now stage new.pages f f' → PagesMove at now old.pages new.pages
        → new.roots ≡ roots_made at now old.roots → Course now f f' old new result
    succeeded Idle here moved pages roots = freezes record {
      pages = pages;
      roots = roots;
      header = ap (λ (x : Flush). x.header) moved;
      target = ap (λ (x : Flush). x.target) moved;
      logged = λ is. subst (λ (x : Flush). IsLogged x.at) moved is;
      committed_is = λ committed frozen. ap (λ (p : Position). committed_made p committed frozen) here;
      frozen_is = λ now frozen. ap (λ (p : Position). frozen_made p now frozen) here;
    }
    succeeded (Undoing from) here moved pages roots =
        let n = next_from from in
        let due : stage ≡ cond (nat_lt n f.pages) (Undo n) UndoSync = stage_is ∙ ap (λ (p : Position). due_stage_at p f g) here in
        undone from here (nat_lt n f.pages) refl (moved ∙ ap (λ (x : Stage). moved_flush x f) due) pages roots
    succeeded (Arming change) here moved pages roots =
        let due = stage_is ∙ ap (λ (p : Position). due_stage_at p f g) here in
        changed change here (moved ∙ ap (λ (x : Stage). moved_flush x f) due ∙ ap (λ (p : Position). armed (due_change p) f) here) pages roots
    succeeded (Placing i) here moved pages roots =
        let due : stage ≡ cond (nat_lt i f.pages) (Place i) PlaceSync = stage_is ∙ ap (λ (p : Position). due_stage_at p f g) here in
        placed i here (nat_lt i f.pages) (moved ∙ ap (λ (x : Stage). moved_flush x f) due) pages roots
    succeeded (Committing change) here moved pages roots =
        let due = stage_is ∙ ap (λ (p : Position). due_stage_at p f g) here in
        ended change here (moved ∙ ap (λ (x : Stage). moved_flush x f) due ∙ ap (λ (p : Position). committed (due_change p) f) here) pages roots

  by_result : (result : Result Stage Fault) → StageEnds now f f' old.pages new.pages result → new.roots ≡ roots_after f.at now result old.roots
      → Course now f f' old new result
  by_result (Ok stage) ends roots = succeeded stage ends.stage_is f.at refl ends.flush ends.store roots
  by_result (Err fault) ends roots = failed fault ends roots

  pub course : (result : Result Stage Fault) → FlushesSpace now f f' old new result → Course now f f' old new result
  course result flushes = by_result result flushes.ends (ap (λ (h : Heap). h.roots) flushes.rest)
