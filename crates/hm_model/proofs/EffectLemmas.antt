-- The effects of events, by the kinds of their calls.
use Rattle.std.proofs.Common.{◌≡◌, ◌≢◌, ℕ, ◌+◌, ◌^◌, true, false, List, [], ◌∷◌, refl, ap, arith, eqb}
use Rattle.std.specs.Prelude.{Bool, ◌&&◌, ◌||◌, Option, Some, None, find, if◌then◌else◌}
use Rattle.std.specs.List.{list_any}
use Rattle.std.specs.Option.{option_map_or}
use Rattle.std.proofs.lemmas.Bool.Decides.{nat_tests}
use Rattle.hm_model.specs.declared.command.Command.{Command}
use Rattle.hm_model.specs.declared.command.Command.TheVariants.{Prune, PruneAll, Reblock, PfsUpgrade, MirrorRead, MirrorWrite, MirrorCopy, End}
use Rattle.hm_model.specs.declared.reply.Reply.{Reply}
use Rattle.hm_model.specs.declared.reply.Reply.TheVariants.{Finished, Passed}
use Rattle.hm_model.specs.After.{Event, OpenCall, State, accepted_effect, after_event, after_pass, call_of, end_effect, end_of_pass, end_of_upgrade}
use Rattle.hm_model.specs.After.{end_of_write, ended, fed_from, feeding, given_in, later_streams, next_stream, no_hash, nothing_merged, of_pfs}
use Rattle.hm_model.specs.After.{on_volume, opened_with, origin_of, present_only, retaining, stream_origin, upgraded, with_opened, with_origin}
use Rattle.hm_model.specs.After.{accepted_effect_of, end_effect_of}
use Rattle.hm_types.specs.declared.id.Id.{Id}
use Rattle.hm_model.specs.Call.{Call, first_site, own_id, second_site}
use Rattle.hm_model.specs.Change.{change}
use Rattle.hm_model.specs.Cut.{cut, pruned}
use Rattle.hm_model.specs.Foreign.{no_feed}
use Rattle.hm_model.specs.Due.{is_tree_call, kept_ids}
use Rattle.hm_model.specs.Laws.{IsUnfed, is_rewriter, rewrites, versions_of}
use Rattle.hm_model.specs.Command.{named_opening}
use Rattle.hm_model.specs.Reply.{is_refusal}
use Rattle.hm_types.specs.Tree.{FileTree}
use Rattle.hm_model.specs.Volume.{Local, PseudoFileSystem, Role, Master, Slave, Volume, system_of}
use Rattle.hm_model.proofs.ChangeLemmas.{Grows-change}
use Rattle.hm_model.proofs.GrowthLemmas.{Grows, Grows-changed, Grows-same, KeepsNumber, found-other, versions_in}

-- what holds after each kind of call holds after an accepted one
pub accepted_cases : (P : State → Type 0) (state : State) (call : Call) (command : Command) →
    P (on_volume (with_opened state call (first_site call).at.pfs (first_site call).at.pfs no_feed)
    (of_pfs state.volume (first_site call).at.pfs (λ s. retaining (pruned s.retention (kept_ids call)) s))) →
    P (on_volume (with_opened state call (first_site call).at.pfs (first_site call).at.pfs no_feed)
    (of_pfs state.volume (first_site call).at.pfs (present_only (own_id call)))) →
    ((pfs : ℕ) → P (with_opened state call pfs pfs no_feed)) →
    P (record (feeding state call (first_site call).at.pfs (first_site call).at.pfs (stream_origin (next_stream state.streams)) (next_stream state.streams))
    { streams = later_streams state.streams }) →
    P (feeding state call (second_site call).at.pfs (first_site call).at.pfs (Local (first_site call).at.pfs) no_feed) →
    P (if is_tree_call command then on_volume state (change call) else state) →
    P (accepted_effect_of state call command)
accepted_cases P state call (Prune path) prune all opens write copy tree = prune
accepted_cases P state call (PruneAll path) prune all opens write copy tree = all
accepted_cases P state call (Reblock fill) prune all opens write copy tree = opens 0
accepted_cases P state call (PfsUpgrade path) prune all opens write copy tree = opens (first_site call).at.pfs
accepted_cases P state call (MirrorRead path begin) prune all opens write copy tree = opens (first_site call).at.pfs
accepted_cases P state call (MirrorWrite path) prune all opens write copy tree = write
accepted_cases P state call (MirrorCopy master slave limit) prune all opens write copy tree = copy
accepted_cases P state call other prune all opens write copy tree = tree

-- what holds of a state, of what an ending and of what an accepted call makes of it holds after an event
pub effect_cases : (P : State → Type 0) (state : State) (event : Event) (command : Command) → P state →
    ((opening : ℕ) → P (ended state opening event.entry.reply)) → P (accepted_effect state (call_of no_hash state event)) →
    P (option_map_or (λ (opening : Id). ended state opening.0 event.entry.reply) (named_opening command)
    (if is_refusal event.entry.reply then state else accepted_effect state (call_of no_hash state event)))
effect_cases P state event (End opening) same ends accepts = ends opening.0
effect_cases P state event other same ends accepts = by (is_refusal event.entry.reply)
  where
    by : (test : Bool) → P (if test then state else accepted_effect state (call_of no_hash state event))
    by true = same
    by false = accepts

-- the end of a call changes the one PFS that it works on
pass_other : (volume : Volume) (o : OpenCall) (reply : Reply) (pfs : ℕ) → o.pfs ≢ pfs → system_of (end_of_pass volume o reply) pfs ≡ system_of volume pfs
pass_other volume o (Passed begin end) pfs differ =
    found-other pfs o.pfs (after_pass (given_in volume o) begin.0 end.0) volume.systems (λ s. refl) (λ same. differ (same))
pass_other volume o reply pfs differ = refl

write_other : (volume : Volume) (o : OpenCall) (reply : Reply) (pfs : ℕ) → o.pfs ≢ pfs → system_of (end_of_write volume o reply) pfs ≡ system_of volume pfs
write_other volume o reply pfs differ = by (nothing_merged reply)
  where
    by : (test : Bool) → system_of (if test then of_pfs volume o.pfs (with_origin o.origin) else end_of_pass volume o reply) pfs ≡ system_of volume pfs
    by true = found-other pfs o.pfs (with_origin o.origin) volume.systems (λ s. refl) differ
    by false = pass_other volume o reply pfs differ

upgrade_other : (volume : Volume) (o : OpenCall) (reply : Reply) (pfs : ℕ) → o.pfs ≢ pfs → system_of (end_of_upgrade volume o reply) pfs ≡ system_of volume pfs
upgrade_other volume o Finished pfs differ = found-other pfs o.pfs upgraded volume.systems (λ s. refl) differ
upgrade_other volume o reply pfs differ = refl

and_true : (b : Bool) → (b && true) ≡ false → b ≡ false
and_true true is = is
and_true false is = is

pub apart : (a b : ℕ) → (eqb a b && true) ≡ false → a ≢ b
apart a b is = let no : eqb a b ≡ false = and_true (eqb a b) is in grind (arith, nat_tests, no)

-- at its end a call that does not rewrite a PFS leaves it
ended_unfed : (volume : Volume) (reply : Reply) (o : OpenCall) (pfs : ℕ) (command : Command) → (eqb o.pfs pfs && rewrites command) ≡ false →
    system_of (end_effect_of volume reply o command) pfs ≡ system_of volume pfs
ended_unfed volume reply o pfs (MirrorCopy master slave limit) unfed = pass_other volume o reply pfs (apart o.pfs pfs unfed)
ended_unfed volume reply o pfs (MirrorWrite path) unfed = write_other volume o reply pfs (apart o.pfs pfs unfed)
ended_unfed volume reply o pfs (PfsUpgrade path) unfed = upgrade_other volume o reply pfs (apart o.pfs pfs unfed)
ended_unfed volume reply o pfs other unfed = refl

pub or_false : (a b : Bool) → (a || b) ≡ false → (a ≡ false) × (b ≡ false)
or_false true b is = absurd (cc)
or_false false b is = (refl, is)

-- what is found among open calls fails a test that they all fail
pub found_fails : (test fails : OpenCall → Bool) (os : List OpenCall) (o : OpenCall) → find test os ≡ Some o → list_any fails os ≡ false → fails o ≡ false
found_fails test fails [] o found none = absurd (cc)
found_fails test fails (x ∷ xs) o found none = by (test x) refl (found_fails test fails xs o)
  where
    by : (here : Bool) → test x ≡ here → (find test xs ≡ Some o → list_any fails xs ≡ false → fails o ≡ false) → fails o ≡ false
    by true is rest = let same : Some x ≡ Some o = rw is at found in let one : x ≡ o = cc in rw (← one) (or_false (fails x) (list_any fails xs) none).0
    by false is rest = rest (rw is at found) (or_false (fails x) (list_any fails xs) none).1

pub ended_system : (state : State) (opening : ℕ) (reply : Reply) (pfs : ℕ) → IsUnfed state pfs →
    system_of (ended state opening reply).volume pfs ≡ system_of state.volume pfs
ended_system state opening reply pfs unfed = by (opened_with opening state.opened) refl
  where
    by : (found : Option OpenCall) → opened_with opening state.opened ≡ found →
        system_of (option_map_or (end_effect state.volume reply) found state.volume) pfs ≡ system_of state.volume pfs
    by None is = refl
    by (Some o) is =
        ended_unfed state.volume reply o pfs o.command (found_fails (λ (x : OpenCall). eqb x.opening opening) (is_rewriter pfs) state.opened o is unfed)

ended_versions : (state : State) (opening : ℕ) (reply : Reply) (pfs : ℕ) → IsUnfed state pfs →
    versions_of (ended state opening reply).volume pfs ≡ versions_of state.volume pfs
ended_versions state opening reply pfs unfed = ap versions_in (ended_system state opening reply pfs unfed)

-- a change of one PFS that keeps versions
kept_versions : (id pfs other : ℕ) (f : PseudoFileSystem → PseudoFileSystem) (volume : Volume) → KeepsNumber f →
    ((s : PseudoFileSystem) → (f s).versions ≡ s.versions) → Grows id (versions_of volume pfs) (versions_of (of_pfs volume other f) pfs)
kept_versions id pfs other f volume number versions = Grows-changed id pfs other f volume.systems number (λ s. rw (versions s) (Grows-same id s.versions))

pub by_role : {X : Type 0} (P : X → Type 0) (master slave : X) (role : Role) → P master → P slave → P (elim role [ Master ↦ master | Slave ↦ slave ])
by_role P master slave Master of_master of_slave = of_master
by_role P master slave Slave of_master of_slave = of_slave

present_keeps : (id : ℕ) (s : PseudoFileSystem) → ((present_only id s).number ≡ s.number) × ((present_only id s).versions ≡ s.versions)
present_keeps id s =
    by_role (λ (t : PseudoFileSystem). (t.number ≡ s.number) × (t.versions ≡ s.versions))
    (retaining (cut s.retention [] id) s) (retaining (cut s.retention (s.sync_end ∷ []) (2 ^ 64)) s) s.role (refl, refl) (refl, refl)

-- an accepted call lets the versions of each PFS grow
pub accepted_grows : (state : State) (call : Call) (pfs : ℕ) → call.volume ≡ state.volume →
    Grows (own_id call) (versions_of state.volume pfs) (versions_of (accepted_effect state call).volume pfs)
accepted_grows state call pfs same =
    let id : ℕ = own_id call in
    let before : List (ℕ × FileTree) = versions_of state.volume pfs in
    let as_before : Grows id before before = Grows-same id before in
    accepted_cases (λ (s : State). Grows id before (versions_of s.volume pfs)) state call call.command
    (kept_versions id pfs (first_site call).at.pfs (λ s. retaining (pruned s.retention (kept_ids call)) s) state.volume (λ s. refl) (λ s. refl))
    (kept_versions id pfs (first_site call).at.pfs (present_only id) state.volume (λ s. (present_keeps id s).0) (λ s. (present_keeps id s).1))
    (λ other. as_before)
    (kept_versions id pfs (first_site call).at.pfs
    (with_origin (fed_from (origin_of state.volume (first_site call).at.pfs) (stream_origin (next_stream state.streams)))) state.volume (λ s. refl)
    (λ s. refl))
    (kept_versions id pfs (second_site call).at.pfs
    (with_origin (fed_from (origin_of state.volume (second_site call).at.pfs) (Local (first_site call).at.pfs))) state.volume (λ s. refl) (λ s. refl))
    (by (is_tree_call call.command))
  where
    by : (test : Bool) → Grows (own_id call) (versions_of state.volume pfs) (versions_of (if test then on_volume state (change call) else state).volume pfs)
    by true = rw (← same) (Grows-change call pfs)
    by false = Grows-same (own_id call) (versions_of state.volume pfs)

-- so does each event, where no pass into the PFS is open and no upgrade of it
pub Grows-event : (state : State) (event : Event) (pfs : ℕ) → IsUnfed state pfs →
    Grows (state.volume.last + 1) (versions_of state.volume pfs) (versions_of (after_event state event).volume pfs)
Grows-event state event pfs unfed =
    let id : ℕ = state.volume.last + 1 in
    let before : List (ℕ × FileTree) = versions_of state.volume pfs in
    effect_cases (λ (s : State). Grows id before (versions_of s.volume pfs)) state event event.entry.call (Grows-same id before)
    (λ opening. rw (ended_versions state opening event.entry.reply pfs unfed) (Grows-same id before))
    (accepted_grows state (call_of no_hash state event) pfs refl)
