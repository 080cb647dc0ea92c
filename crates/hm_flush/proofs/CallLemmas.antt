-- The guard over a call of the flusher, where the disk tells.
use Rattle.std.proofs.Common.{◌≡◌, ◌≢◌, ℕ, Bool, true, false, List, [], length, refl, sym, ◌∙◌, ap, subst, arith, is_some, Option, Some, None, IfSome}
use Rattle.std.proofs.Common.{IfOk, OnOk, OnErr, Result, Ok, Err, ◌∷◌}
use Rattle.std.proofs.lemmas.Bool.{true≢false}
use Rattle.hm_types.specs.declared.fault.Fault.{Fault}
use Rattle.hm_types.specs.declared.id.Id.{Id}
use Rattle.hm_types.specs.Told.{BothTell}
use Rattle.hm_disk.specs.Crash.{Told}
use Rattle.hm_disk.specs.Moments.{LeftSince}
use Rattle.hm_disk.proofs.CrashLemmas.{MayLeave-same}
use Rattle.hm_disk.proofs.DiskLemmas.{BothTell-map}
use Rattle.hm_disk.proofs.MomentLemmas.{Elapses-none}
use Rattle.hm_fields.specs.Pages.{PageMap}
use Rattle.hm_header.specs.declared.header.Header.{Header}
use Rattle.hm_header.specs.Change.{AnyCrash, StageElapses, StageFailed}
use Rattle.hm_header.proofs.StageLemmas.{failed-same}
use Rattle.hm_pages.specs.Calls.{IsFrozen}
use Rattle.hm_pages.specs.Sound.{IsSound}
use Rattle.hm_pages.specs.Store.{Store}
use Rattle.hm_undo.specs.Entry.{IsUndoPageOf}
use Rattle.hm_flush.specs.declared.flush.Flush.{Flush}
use Rattle.hm_flush.specs.declared.flush.Position.{Position}
use Rattle.hm_flush.specs.declared.flush.Position.TheVariants.{Idle}
use Rattle.hm_flush.specs.declared.stage.Stage.{Stage}
use Rattle.hm_flush.specs.Calls.{AreFlushPlaces, FlushStands, HeaderStands, PagesMove, StageFails, StageSucceeds}
use Rattle.hm_flush.specs.Ends.{StageDoes, StageEnds, StageTells}
use Rattle.hm_flush.specs.Flush.{IsFlush, IsGroupOf, armed_header, begun_flush, tried}
use Rattle.hm_flush.specs.Group.{Group, group_of}
use Rattle.hm_flush.specs.Guard.{ArePlaced, ElapsesRecoverable, Guards, GuardsOn, HasSaved, IsUnarmedAt, guarded_at}
use Rattle.hm_flush.specs.Recoverable.{HoldsPages}
use Rattle.hm_flush.specs.Stages.{DueStageMade, MakesStage, asks, asks_at, due_stage, due_stage_at, moved_flush, range_of}
use Rattle.hm_flush.proofs.StandLemmas.{group-len, lies-past, stands-on, stands-tried}
use Rattle.hm_flush.proofs.StepLemmas.{Fits, elapses-recoverable, guards-on, guards-tried}

module _ (f : Flush) (s : Store) (sound : IsFlush f) (group : IsGroupOf f s) (placed : AreFlushPlaces f.header.bigblocks s) (store : IsSound s)
    (flight : f.at ≢ Idle) (old new : Option Told) (stands : IfSome old (FlushStands f)) where
  fits : Fits f s
  fits = record { sound = sound; len = λ flight. group-len f.at f s flight group; placed = placed; store = store.flush }

  pub guards-then : (s' : Store) (now : Header) → PagesMove f.at now s s' → BothTell old new (DueStageMade f (group_of s))
      → BothTell old new (GuardsOn f s (moved_flush (due_stage f (group_of s)) f) s')
  guards-then s' now move made =
      BothTell-map old new (FlushStands f) (DueStageMade f (group_of s)) (GuardsOn f s (moved_flush (due_stage f (group_of s)) f) s')
      (λ a b here did guards. guards-on f s s' now flight fits move a b guards did
      (stands-on f (group_of s) a b flight here (lies-past f s (length a.bytes) flight sound group placed here.room) did)) stands made

  pub guards-still : BothTell old new (StageFailed (asks f) (range_of f (group_of s)).0 (range_of f (group_of s)).1)
      → BothTell old new (GuardsOn f s (tried f) s)
  guards-still failed =
      BothTell-map old new (FlushStands f) (StageFailed (asks f) (range_of f (group_of s)).0 (range_of f (group_of s)).1) (GuardsOn f s (tried f) s)
      (λ a b here did guards. guards-tried f s fits a b guards did
      (stands-tried f (group_of s) a b flight here (lies-past f s (length a.bytes) flight sound group placed here.room) did)) stands failed

  pub recoverable-within : (past since : LeftSince)
      → BothTell old new (StageElapses (asks f) (range_of f (group_of s)).0 (range_of f (group_of s)).1 past since)
      → BothTell old new (ElapsesRecoverable f s past since)
  recoverable-within past since time =
      BothTell-map old new (FlushStands f) (StageElapses (asks f) (range_of f (group_of s)).0 (range_of f (group_of s)).1 past since)
      (ElapsesRecoverable f s past since) (λ a b here did guards. elapses-recoverable f s fits a guards past since b did) stands time

-- a group that is frozen
none-saved : (header : Header) (s : Store) (bytes : List ℕ) → HasSaved (armed_header header 0) s 0 bytes
none-saved header s bytes = record {
  olds = [];
  range = record { count = refl; each = λ i. tt };
  committed = tt;
  live = λ i below. absurd (omega (arith, below));
}

frozen-placed : (bigblocks : ℕ) (boundary : Id) (s s' : Store) → IsSound s → s.begin ≡ None → AreFlushPlaces bigblocks s → IsFrozen boundary s s'
    → ArePlaced bigblocks s.frozen → ArePlaced bigblocks s'.frozen
frozen-placed bigblocks boundary s s' sound closed placed frozen was at page is = step (s.group.changed at) refl
  where
    here : s.current at ≡ Some page
    here = ap (λ (map : PageMap). map at) (sym frozen.frozen) ∙ is

    step : (c : Bool) → s.group.changed at ≡ c → IsUndoPageOf bigblocks at
    step true changed = placed.current at changed (ap is_some here)
    step false same = was at page (sym ((sound.closed closed).1 at same) ∙ here)

pub guards-begun : (f new : Flush) (now : Header) (n live : ℕ) (boundary : Id) (s s' : Store) → f.at ≡ Idle → IsSound s → s.begin ≡ None
    → AreFlushPlaces f.header.bigblocks s → IsFrozen boundary s s' → new ≡ begun_flush now n live f → (t : Told) → Guards f s t → Guards new s' t
guards-begun f new now n live boundary s s' idle sound closed placed frozen is t guards = subst (λ (x : Flush). Guards x s' t) (sym is) (record {
  stands = record {
    room = guards.stands.room;
    header = subst (λ (p : Position). HeaderStands p f t) idle guards.stands.header;
  };
  committed = subst (λ (map : PageMap). ArePlaced f.header.bigblocks map) (sym frozen.committed) guards.committed;
  frozen = frozen-placed f.header.bigblocks boundary s s' sound closed placed frozen guards.frozen;
  unarmed = subst (λ (p : Position). IsUnarmedAt p f.header) idle guards.unarmed;
  crash = λ image left.
      let was = subst (λ (p : Position). AnyCrash (guarded_at p f s) t) idle guards.crash image left in
      (was.0, subst (λ (map : PageMap). HoldsPages map image) (sym frozen.committed) was.1);
  read = none-saved f.header s' t.bytes;
})

-- how a stage ended, told apart by its result
pub stage-ends : (now : Header) (f new : Flush) (s s' : Store) (result : Result Stage Fault) → IfOk result (λ stage. StageSucceeds now stage f new s s')
    → OnErr result (StageFails f new s s') → StageEnds now f new s s' result
stage-ends now f new s s' (Ok stage) ok err = ok
stage-ends now f new s s' (Err fault) ok err = err

pub stage-does : (f : Flush) (s : Store) (result : Result Stage Fault) (old new : Option Told) → OnOk result (BothTell old new (DueStageMade f (group_of s)))
    → OnErr result (BothTell old new (StageFailed (asks f) (range_of f (group_of s)).0 (range_of f (group_of s)).1))
    → BothTell old new (StageDoes f (group_of s) result)
stage-does f s (Ok stage) old new made failed = made
stage-does f s (Err fault) old new made failed = failed

pub stage-tells : (f f' : Flush) (s s' : Store) (result : Result Stage Fault) (past since : LeftSince) (old new : Option Told)
    → BothTell old new (StageDoes f (group_of s) result)
    → BothTell old new (StageElapses (asks f) (range_of f (group_of s)).0 (range_of f (group_of s)).1 past since)
    → BothTell old new (GuardsOn f s f' s') → BothTell old new (ElapsesRecoverable f s past since)
    → BothTell old new (StageTells f f' s s' result past since)
stage-tells f f' s s' result past since None None does time guards recoverable = tt
stage-tells f f' s s' result past since (Some a) (Some b) does time guards recoverable =
    record { does = does; any_moment = time; guards = guards; recoverable = recoverable }
stage-tells f f' s s' result past since None (Some b) does time guards recoverable = absurd does
stage-tells f f' s s' result past since (Some a) None does time guards recoverable = absurd does

-- Freeze makes no call of the disk
idle-does : (f : Flush) (g : Group) (result : Result Stage Fault) (t : Told) → f.at ≡ Idle → StageDoes f g result t t
idle-does f g (Ok stage) t idle = subst (λ (st : Stage). MakesStage st f g t t) (sym (ap (λ (p : Position). due_stage_at p f g) idle)) (record {
  made = refl;
  others = MayLeave-same t.bytes ((0, 0) ∷ []);
  unsettled = λ byte outside. outside.1;
  settled = λ synced. absurd (true≢false (sym synced));
})
idle-does f g (Err fault) t idle =
    failed-same (asks f) (range_of f g).0 (range_of f g).1 t (subst (λ (p : Position). AnyCrash (asks_at p f) t) (sym idle) (λ image left. tt))

pub freeze-tells : (f f' : Flush) (s s' : Store) (result : Result Stage Fault) (past : LeftSince) (old : Option Told) → f.at ≡ Idle
    → ((t : Told) → Guards f s t → Guards f' s' t) → BothTell old old (StageTells f f' s s' result past past)
freeze-tells f f' s s' result past None idle step = tt
freeze-tells f f' s s' result past (Some t) idle step = record {
  does = idle-does f (group_of s) result t idle;
  any_moment = Elapses-none _ past t;
  guards = step t;
  recoverable = λ guards. Elapses-none _ past t;
}
