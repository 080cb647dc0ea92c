-- The openings of prunes: what they are due, and what they do to the record of a pseudo file system.
use Rattle.std.specs.Prelude.{◌≡◌, ℕ, ◌^◌, true, false, List, [], ◌∷◌, Option, None, Some, Result, Ok, Err}
use Rattle.hm_types.specs.Elements.{FullElement, Key}
use Rattle.hm_key.specs.Counts.{Counts, record_subject}
use Rattle.hm_key.specs.Extents.{Extent}
use Rattle.hm_key.specs.Stores.{Same}
use Rattle.hm_key.specs.declared.element.Element.{Element}
use Rattle.hm_model.specs.After.{present_only, retaining}
use Rattle.hm_model.specs.Call.{Call, first_site, own_id}
use Rattle.hm_model.specs.Cut.{pruned}
use Rattle.hm_model.specs.Due.{kept_ids}
use Rattle.hm_model.specs.Volume.{PseudoFileSystem, Volume, system_of}
use Rattle.hm_model.specs.Walk.{Follow as Mode, Follows, TakesPfs}
use Rattle.hm_model.specs.declared.command.Command.{Command}
use Rattle.hm_model.specs.declared.command.Command.TheVariants.{Prune, PruneAll}
use Rattle.hm_model.specs.declared.reply.Reply.{Reply}
use Rattle.hm_model.specs.declared.reply.Reply.TheVariants.{Done}
use Rattle.hm_retain.specs.Retention.{IsCut}
use Rattle.hm_records.specs.Changes.{CountsNothing}
use Rattle.hm_records.specs.PfsRecord.{IsPfsRecord, pfs_bytes}
use Rattle.hm_types.specs.Intervals.{open_end}
use Rattle.hm_records.specs.declared.pfs_record.PfsRecord.{PfsRecord}
use Rattle.hm_cursor.specs.Write.{Writes}
use Rattle.hm_pfs.specs.Records.{SetsRecord}
use Rattle.hm_calls.specs.Call.{IsCall, OnCalls}
use Rattle.hm_calls.specs.Due.{due_over}
use Rattle.hm_calls.specs.Possible.{IsGiven}
use Rattle.hm_calls.specs.Replies.{IsAcceptedBy, IsRefusalOf}
use Rattle.hm_calls.specs.Stop.{OfRefusal, TellsRefusal}
use Rattle.hm_calls.specs.declared.pruning.Led.{Led}
use Rattle.hm_calls.specs.declared.pruning.Opened.{Opened}
use Rattle.hm_calls.specs.declared.pruning.Opened.TheVariants as opened
use Rattle.hm_calls.specs.declared.pruning.Pruning.{Pruning}
use Rattle.hm_calls.specs.declared.pruning.Pruning.TheVariants.{Present, Snapshots}
use Rattle.hm_calls.specs.declared.stop.Stop.{Stop}
use Rattle.hm_calls.specs.declared.stop.Stop.TheVariants.{Failed, Refused}

-- ---- words of the model

-- the command that opens it at a path, and what becomes of a link there
abbrev pub command_of : Pruning → List ℕ → Command
command_of Snapshots path = Prune path
command_of Present path = PruneAll path

abbrev pub mode_by : Pruning → Mode
mode_by Snapshots = Follows
mode_by Present = TakesPfs

-- what becomes of the pseudo file system
abbrev pub system_after : Pruning → Call → PseudoFileSystem → PseudoFileSystem
system_after Snapshots call s = retaining (pruned s.retention (kept_ids call)) s
system_after Present call s = present_only (own_id call) s

-- ---- records

-- A record may take the place of the one that a pseudo file system has now: it tells of another retention, and of all else
-- the same.
pub record IsRetained (pfs : ℕ) (to : PfsRecord) (es : List FullElement) : Type 0 where
  pub was : PfsRecord
  pub ranges_before : IsPfsRecord was
  pub counts : Counts es open_end (record_subject pfs) (pfs_bytes was)
  pub rest : to ≡ record was { retention = to.retention }
  pub ranges : IsPfsRecord to

-- it tells of the retention that a change makes of that of a volume's pseudo file system, which the volume has
pub record IsRecordAfter (change : PseudoFileSystem → PseudoFileSystem) (volume : Volume) (pfs : ℕ) (to : PfsRecord) (es : List FullElement) : Type 0 where
  pub retained : IsRetained pfs to es
  pub system : PseudoFileSystem
  pub found : system_of volume pfs ≡ Some system
  pub kept : to.retention ≡ (change system).retention

-- there is no record to change
pub record HasNoRecord (volume : Volume) (pfs : ℕ) (es : List FullElement) : Type 0 where
  pub counts : CountsNothing (Counts es open_end) (record_subject pfs)
  pub none : system_of volume pfs ≡ None

-- the record that a pseudo file system is to have, if it has one
abbrev pub HasRecordAfter : (PseudoFileSystem → PseudoFileSystem) → Volume → ℕ → Option PfsRecord → List FullElement → Type 0
HasRecordAfter change volume pfs None = HasNoRecord volume pfs
HasRecordAfter change volume pfs (Some to) = IsRecordAfter change volume pfs to

-- the same of the elements alone
abbrev pub IsRetainedIn : ℕ → Option PfsRecord → List FullElement → Type 0
IsRetainedIn pfs None es = Unit {0}
IsRetainedIn pfs (Some to) es = IsRetained pfs to es

-- the ids that it keeps
abbrev pub kept_by : Option PfsRecord → List (ℕ × ℕ)
kept_by None = []
kept_by (Some to) = to.retention

-- it takes its place, and all else stays
abbrev pub SetsTo : ℕ → Option PfsRecord → List FullElement → List FullElement → Type 0
SetsTo pfs None es es' = es' ≡ es
SetsTo pfs (Some to) es es' = SetsRecord pfs (pfs_bytes to) es es'

-- what `prune-everything` by an id leaves of the retention in a record
pub record IsPresentOf (was : PfsRecord) (id : ℕ) (left : List (ℕ × ℕ)) : Type 0 where
  pub of_master : was.master ≡ true → IsCut was.retention [] id left
  pub of_slave : was.master ≡ false → IsCut was.retention (was.sync_end ∷ []) (2 ^ 64) left

-- ---- openings

-- The opening of a prune led to the pseudo file system in which the call's walk ends, and to what that keeps from now on: the
-- record tells so, and all else stays, as of every id. Where there is no record nothing is kept, and nothing changed.
pub record Cuts (pruning : Pruning) (call : Call) (led : Led) (es es' : List FullElement) : Type 0 where
  pub pfs : led.pfs.0 ≡ (first_site call).at.pfs
  pub to : Option PfsRecord
  pub after : HasRecordAfter (system_after pruning call) call.volume led.pfs.0 to es
  pub kept : led.kept ≡ kept_by to
  pub sets : SetsTo led.pfs.0 to es es'

-- the reply to an opening
abbrev pub reply_of : Opened → Reply
reply_of (opened.Refused reply) = reply
reply_of (opened.Led led) = Done

-- what was refused has a refusal as its reply
abbrev pub HasRefusal : Opened → Type 0
HasRefusal (opened.Refused reply) = TellsRefusal reply
HasRefusal (opened.Led led) = Unit {0}

-- such an opening may be refused so, by its words
pub record IsRefusedBy (id : ℕ) (command : Command) (reply : Reply) : Type 0 where
  pub given : IsGiven id command reply
  pub refuses : TellsRefusal reply

-- it may be answered so
abbrev pub GivesOpening : ℕ → Command → Result Led Stop → Type 0
GivesOpening id command (Ok led) = IsGiven id command Done
GivesOpening id command (Err stopped) = OfRefusal (IsRefusedBy id command) stopped

module _ {S : Type 0} (elements_of : S → Option (List Element)) (mark_of : S → Key → ℕ) (extents_of : S → Option (List Extent)) (room_of : S → ℕ → ℕ) (free_of : S → ℕ) where
  -- each such call by this id cut the record so
  abbrev pub CutsEach : (List ℕ → ℕ) → ℕ → Pruning → List ℕ → Led → List FullElement → List FullElement → Type 0
  CutsEach hash id pruning path led es es' =
      (call : Call) → IsCall hash id es call → call.command ≡ command_of pruning path → Cuts pruning call led es es'

  -- one that was accepted, and one that was refused, which left the store as it was
  abbrev pub Accepts : (List ℕ → ℕ) → ℕ → Pruning → List ℕ → S → S → Led → Type 0
  Accepts hash id pruning path old new led =
      IsAcceptedBy hash id (λ call. call.command ≡ command_of pruning path) (elements_of old) (extents_of old) (room_of old) (free_of old) Done
      × Writes elements_of extents_of (CutsEach hash id pruning path led) old new

  abbrev pub RefusesOpening : (List ℕ → ℕ) → ℕ → Pruning → List ℕ → S → S → Reply → Type 0
  RefusesOpening hash id pruning path old new reply =
      IsRefusalOf hash id (λ call. call.command ≡ command_of pruning path) (elements_of old) (extents_of old) (room_of old) (free_of old) reply
      × Same elements_of mark_of extents_of room_of free_of old new

  -- what a step tells of the opening
  abbrev pub OpeningLeadsTo : (List ℕ → ℕ) → ℕ → Pruning → List ℕ → S → S → Result Led Stop → Type 0
  OpeningLeadsTo hash id pruning path old new (Ok led) = Accepts hash id pruning path old new led
  OpeningLeadsTo hash id pruning path old new (Err (Refused reply)) = RefusesOpening hash id pruning path old new reply
  OpeningLeadsTo hash id pruning path old new (Err (Failed fault)) = Unit {0}

  -- what became of the opening
  abbrev pub EndsIn : (List ℕ → ℕ) → ℕ → Pruning → List ℕ → S → S → Opened → Type 0
  EndsIn hash id pruning path old new (opened.Led led) = Accepts hash id pruning path old new led
  EndsIn hash id pruning path old new (opened.Refused reply) = RefusesOpening hash id pruning path old new reply

  -- The reply to the opening is the one that the call is due, and what it does is what the model says.
  pub record OpensPrune (hash : List ℕ → ℕ) (id : ℕ) (pruning : Pruning) (path : List ℕ) (old new : S) (told : Opened) : Type 0 where
    pub due : OnCalls hash id (elements_of old) (extents_of old)
        (λ _ call. call.command ≡ command_of pruning path → reply_of told ≡ due_over call (room_of old) (free_of old))
    pub ends : EndsIn hash id pruning path old new told
