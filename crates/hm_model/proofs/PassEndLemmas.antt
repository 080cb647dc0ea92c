-- The ending of a pass into a slave that came to its end.
use Rattle.std.proofs.Common.{◌≡◌, ◌≢◌, ℕ, ◌<◌, ◌≤◌, true, false, List, [], refl, ◌∙◌, ap, sym}
use Rattle.std.specs.Prelude.{Option, Some, None, if◌then◌else◌}
use Rattle.std.specs.Option.{option_map_or}
use Rattle.hm_types.specs.declared.id.Id.{Id}
use Rattle.hm_model.specs.declared.command.Command.{Command}
use Rattle.hm_model.specs.declared.command.Command.TheVariants.{End, MirrorCopy, MirrorWrite}
use Rattle.hm_model.specs.declared.reply.Reply.{Reply}
use Rattle.hm_model.specs.declared.reply.Reply.TheVariants.{Passed}
use Rattle.hm_types.specs.declared.text.Text.{Text}
use Rattle.hm_model.specs.Foreign.{Feed, ForeignMaster, StreamEnd, brought}
use Rattle.hm_model.specs.After.{Event, Given, OpenCall, State, accepted_effect, after_event, after_pass, call_of, end_effect, end_of_pass, ended}
use Rattle.hm_model.specs.After.{given_by, given_in, no_hash, nothing_given, origin_of, end_effect_of}
use Rattle.hm_model.specs.Call.{Call}
use Rattle.hm_model.specs.Laws.{AreRising, EndsPass, merges, versions_of}
use Rattle.hm_model.specs.Legal.{IsAllowed, IsBrought, IsEnding, IsPassed, MayFollow, Setting, begin_of, call_after, enters_unclear, floor_after, state_after}
use Rattle.hm_model.specs.Command.{named_opening}
use Rattle.hm_model.specs.Reply.{is_refusal}
use Rattle.hm_types.specs.Tree.{no_tree}
use Rattle.hm_model.specs.Volume.{PseudoFileSystem, Volume, as_of, at, system_of}
use Rattle.hm_model.proofs.GrowthLemmas.{at-versions, changed_in, found-changed, found-other, found_in, versions_in}
use Rattle.hm_model.proofs.PassLemmas.{given-versions, given_in-versions, passed-after, passed-before}

-- an ending is read as one
pub ending_is : {X : Type 0} (ending : Id → X) (other : X) (call : Command) (opening : Id) → call ≡ End opening →
    (option_map_or ending (named_opening call) other) ≡ ending opening
ending_is ending other call opening is = rw is refl

merge_is : (volume : Volume) (o : OpenCall) (begin end : Id) (command : Command) → merges command ≡ true →
    (end_effect_of volume (Passed begin end) o command) ≡ end_of_pass volume o (Passed begin end)
merge_is volume o begin end (MirrorCopy master slave limit) is = refl
merge_is volume o begin end (MirrorWrite path) is = refl
merge_is volume o begin end command is = absurd (cc)

-- what the ending of a pass does
pub systems-pass : (state : State) (event : Event) (o : OpenCall) (begin end : Id) → EndsPass state event o begin end →
    (after_event state event).volume.systems ≡ changed_in o.pfs (after_pass (given_in state.volume o) begin.0 end.0) state.volume.systems
systems-pass state event o begin end ends =
    let reply : Reply = event.entry.reply in
    ap (λ (s : State). s.volume.systems) (ending_is (λ opening. ended state opening.0 reply)
    (if is_refusal reply then state else accepted_effect state (call_of no_hash state event)) event.entry.call ends.opening ends.call)
    ∙ (ap (λ (found : Option OpenCall). (option_map_or (end_effect state.volume reply) found state.volume).systems) ends.found
    ∙ (ap (λ (r : Reply). (end_effect state.volume r o).systems) ends.reply
    ∙ ap (λ (v : Volume). v.systems) (merge_is state.volume o begin end o.command ends.pass)))

-- the slave after it
pub slave-pass : (state : State) (event : Event) (o : OpenCall) (begin end : Id) → EndsPass state event o begin end →
    system_of (after_event state event).volume o.pfs ≡ option_map_or (λ (s : PseudoFileSystem). Some (after_pass (given_in state.volume o) begin.0 end.0 s))
    (system_of state.volume o.pfs) None
slave-pass state event o begin end ends =
    ap (λ (systems : List PseudoFileSystem). found_in systems o.pfs) (systems-pass state event o begin end ends)
    ∙ found-changed o.pfs (after_pass (given_in state.volume o) begin.0 end.0) state.volume.systems (λ s. refl)

-- no other PFS is changed
pub others-pass : (state : State) (event : Event) (o : OpenCall) (begin end : Id) (pfs : ℕ) → EndsPass state event o begin end → pfs ≢ o.pfs →
    system_of (after_event state event).volume pfs ≡ system_of state.volume pfs
others-pass state event o begin end pfs ends differ =
    ap (λ (systems : List PseudoFileSystem). found_in systems pfs) (systems-pass state event o begin end ends)
    ∙ found-other pfs o.pfs (after_pass (given_in state.volume o) begin.0 end.0) state.volume.systems (λ s. refl) (λ same. differ (sym same))

-- what the slave showed stays
pub at-before_pass : (state : State) (event : Event) (o : OpenCall) (begin end : Id) (id : ℕ) → EndsPass state event o begin end → id ≤ begin.0 →
    at (after_event state event).volume o.pfs id ≡ at state.volume o.pfs id
at-before_pass state event o begin end id ends by =
    at-versions (after_event state event).volume o.pfs id
    ∙ (ap (λ (found : Option PseudoFileSystem). as_of id no_tree (versions_in found)) (slave-pass state event o begin end ends)
    ∙ (each (system_of state.volume o.pfs) ∙ sym (at-versions state.volume o.pfs id)))
  where
    each : (found : Option PseudoFileSystem) → as_of id no_tree
        (versions_in (option_map_or (λ (s : PseudoFileSystem). Some (after_pass (given_in state.volume o) begin.0 end.0 s)) found None))
        ≡ as_of id no_tree (versions_in found)
    each None = refl
    each (Some s) = passed-before s.versions (given_in state.volume o) begin.0 end.0 id by

-- the master's trees come
pub at-after_pass : (state : State) (event : Event) (o : OpenCall) (begin end : Id) (slave : PseudoFileSystem) (id : ℕ) → EndsPass state event o begin end →
    system_of state.volume o.pfs ≡ Some slave → AreRising (given_in state.volume o).versions → begin.0 < id → id ≤ end.0 →
    at (after_event state event).volume o.pfs id ≡ (given_in state.volume o).tree id
at-after_pass state event o begin end slave id ends found rise after by =
    at-versions (after_event state event).volume o.pfs id
    ∙ (ap (λ (s : Option PseudoFileSystem). as_of id no_tree (versions_in s)) (slave-pass state event o begin end ends)
    ∙ (ap (λ (s : Option PseudoFileSystem). as_of id no_tree
    (versions_in (option_map_or (λ (s : PseudoFileSystem). Some (after_pass (given_in state.volume o) begin.0 end.0 s)) s None))) found
    ∙ passed-after slave.versions (given_in state.volume o) begin.0 end.0 id (given_in-versions state.volume o) rise after by))

-- an ending enters no PFS
ends_clear : (call : Call) (opening : Id) → call.command ≡ End opening → enters_unclear call ≡ false
ends_clear call opening is = rw is refl

-- the ids of a pass that ends in a legal history: it begins at the sync end, or at the id that was given
pub passed_legal : (run : Setting) (before : List Event) (event : Event) (o : OpenCall) (begin end : Id) → MayFollow run before event →
    EndsPass (state_after run before) event o begin end → IsPassed (state_after run before).volume o event.entry.id.0 begin.0 end.0
passed_legal run before event o begin end follows ends =
    let allowed : IsAllowed run before event = follows.allowed (ends_clear (call_after run before event) ends.opening ends.call) in
    let ended = rw ends.call at allowed in
    let same : ended.0 ≡ o = cc in
    let ending : IsEnding (floor_after run before) (state_after run before).volume o event.entry.id.0 event.entry.reply = rw same at ended.2 in
    rw ends.reply at ending

pub begin_legal : (run : Setting) (before : List Event) (event : Event) (o : OpenCall) (begin end : Id) → MayFollow run before event →
    EndsPass (state_after run before) event o begin end → begin.0 ≡ begin_of (state_after run before).volume o
begin_legal run before event o begin end follows ends = (passed_legal run before event o begin end follows ends).begins

-- what the stream of such a pass brought
pub brought_legal : (run : Setting) (before : List Event) (event : Event) (o : OpenCall) (begin end : Id) (into : Text) → MayFollow run before event →
    EndsPass (state_after run before) event o begin end → o.command ≡ MirrorWrite into → IsBrought o.stream end.0
brought_legal run before event o begin end into follows ends command =
    let passed : IsPassed (state_after run before).volume o event.entry.id.0 begin.0 end.0 = passed_legal run before event o begin end follows ends in
    (rw command at passed.ends).0

pub retention_brought : (volume : Volume) (o : OpenCall) (into : Text) (t : StreamEnd) → o.command ≡ MirrorWrite into → o.stream.term ≡ Some t →
    (given_in volume o).retention ≡ t.retention
retention_brought volume o into t command taken =
    let given : (given_in volume o).retention ≡ brought o.stream = rw command refl in
    given ∙ ap (λ (x : Option StreamEnd). option_map_or (λ (u : StreamEnd). u.retention) x []) taken

-- what a copy is given: its master's versions
pub given_copy : (volume : Volume) (o : OpenCall) (from into : Text) (limit : Option ℕ) → o.command ≡ MirrorCopy from into limit →
    given_in volume o ≡ given_by volume o.master
given_copy volume o from into limit command = rw command refl

-- what a stream is given: the versions of its master, and what its end brought
abbrev streamed : Feed → ForeignMaster → Given
streamed feed foreign = record (given_by foreign.volume foreign.master) { retention = brought feed }

given_write : (volume : Volume) (o : OpenCall) (into : Text) (foreign : ForeignMaster) → o.command ≡ MirrorWrite into → o.stream.master ≡ Some foreign →
    given_in volume o ≡ streamed o.stream foreign
given_write volume o into foreign command is = rw (command, is) refl

pub versions_given : (volume : Volume) (master : ℕ) → (given_by volume master).versions ≡ versions_of volume master
versions_given volume master = by (system_of volume master)
  where
    by : (found : Option PseudoFileSystem) →
        (option_map_or (λ (s : PseudoFileSystem). record { versions = s.versions; retention = s.retention; clear = s.clear; tree = at volume master }) found
        nothing_given).versions ≡ versions_in found
    by None = refl
    by (Some s) = refl

pub tree_given : (volume : Volume) (master id : ℕ) → (given_by volume master).tree id ≡ at volume master id
tree_given volume master id =
    given-versions volume master id
    ∙ (ap (as_of id no_tree) (versions_given volume master) ∙ sym (at-versions volume master id))

pub at-copied : (state : State) (event : Event) (o : OpenCall) (begin end : Id) (from into : Text) (limit : Option ℕ) (slave : PseudoFileSystem) (id : ℕ) →
    EndsPass state event o begin end → o.command ≡ MirrorCopy from into limit → system_of state.volume o.pfs ≡ Some slave →
    AreRising (versions_of state.volume o.master) → begin.0 < id → id ≤ end.0 → at (after_event state event).volume o.pfs id ≡ at state.volume o.master id
at-copied state event o begin end from into limit slave id ends command found rise after by =
    let given : given_in state.volume o ≡ given_by state.volume o.master = given_copy state.volume o from into limit command in
    let rising : AreRising (given_in state.volume o).versions = rw (given, versions_given state.volume o.master) rise in
    at-after_pass state event o begin end slave id ends found rising after by
    ∙ (ap (λ (g : Given). g.tree id) given ∙ tree_given state.volume o.master id)

pub at-streamed : (state : State) (event : Event) (o : OpenCall) (begin end : Id) (into : Text) (slave : PseudoFileSystem) (foreign : ForeignMaster)
    (id : ℕ) → EndsPass state event o begin end → o.command ≡ MirrorWrite into → system_of state.volume o.pfs ≡ Some slave →
    o.stream.master ≡ Some foreign → AreRising (versions_of foreign.volume foreign.master) → begin.0 < id → id ≤ end.0 →
    at (after_event state event).volume o.pfs id ≡ at foreign.volume foreign.master id
at-streamed state event o begin end into slave foreign id ends command found is rise after by =
    let given : given_in state.volume o ≡ streamed o.stream foreign = given_write state.volume o into foreign command is in
    let rising : AreRising (given_in state.volume o).versions = rw (given, versions_given foreign.volume foreign.master) rise in
    at-after_pass state event o begin end slave id ends found rising after by
    ∙ (ap (λ (g : Given). g.tree id) given ∙ tree_given foreign.volume foreign.master id)
