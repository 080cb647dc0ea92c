-- The reply of a call that ends no pass tells no ids of one.
use Rattle.std.proofs.Common.{◌≡◌, ℕ, true, inl, inr, List, refl, ap, ◌∙◌}
use Rattle.std.specs.Prelude.{Option, None, Some}
use Rattle.std.specs.Option.{option_map_or}
use Rattle.hm_types.specs.Tree.{FileTree}
use Rattle.hm_types.specs.declared.id.Id.{Id}
use Rattle.hm_types.specs.declared.object.Object.{Object}
use Rattle.hm_model.specs.After.{Event, OpenCall, opened_with}
use Rattle.hm_model.specs.Answer.{answer, answer_at, answer_there, file_bytes, kind_number, listing, record_of, size_of, target_of}
use Rattle.hm_model.specs.Bytes.{read_at}
use Rattle.hm_model.specs.Call.{Call, first_site, site_object, site_system}
use Rattle.hm_model.specs.Command.{named_opening}
use Rattle.hm_model.specs.Due.{Check, accepted, new_pfs, refusal}
use Rattle.hm_model.specs.Legal.{IsAllowed, IsDue, IsEnding, IsReply, IsSpace, IsSynced, Setting, call_after, floor_after, state_after}
use Rattle.hm_model.specs.Reply.{is_refusal, passed_ids}
use Rattle.hm_model.specs.declared.command.Command.{Command}
use Rattle.hm_model.specs.declared.command.Command.TheVariants.{Cat, Df, Ls, PfsMaster, PfsSlave, PfsStatus, Progress, Readlink, Stat, Sync, Synctid}
use Rattle.hm_model.specs.declared.reply.Reply.{Reply}
use Rattle.hm_model.specs.declared.reply.Reply.TheVariants.{Content as Bytes, Done, Listing, MadePfs, NotFound, Passed, Status, Target as Text}
use Rattle.hm_model.proofs.CheckLemmas.{refusal_refuses}
use Rattle.hm_model.proofs.DueLemmas.{of_option}

-- a reply tells no ids of a pass
abbrev TellsNone : Reply → Type 0
TellsNone reply = passed_ids reply ≡ None

at_tells : (call : Call) (tree : FileTree) (object : Object) → TellsNone (answer_at call tree object)
at_tells call tree object = by call.command where
  by : (command : Command) → TellsNone (elim command as (λ c. Reply) [
    | Ls path ↦ Listing (listing tree object.number)
    | Cat path offset count ↦ Bytes (read_at offset count (file_bytes object.content))
    | Stat path ↦ Status (kind_number object.kind) object.number (size_of tree object) object.links
    | Readlink path ↦ Text (target_of call.volume object.content)
    | other ↦ Done
  ])
  by (Ls path) = refl
  by (Cat path offset count) = refl
  by (Stat path) = refl
  by (Readlink path) = refl
  by other = refl

there_tells : (call : Call) → TellsNone (answer_there call)
there_tells call =
    let tree : FileTree = call.view (first_site call).at.pfs (first_site call).at.when in
    of_option TellsNone (answer_at call tree) (site_object call (first_site call)) NotFound (λ object. at_tells call tree object) refl

-- what a call that looks answers
answer_tells : (call : Call) → TellsNone (answer call)
answer_tells call = by call.command where
  by : (command : Command) → TellsNone (elim command as (λ c. Reply) [
    | PfsStatus path ↦ option_map_or record_of (site_system call (first_site call)) NotFound
    | other ↦ answer_there call
  ])
  by (PfsStatus path) = of_option TellsNone record_of (site_system call (first_site call)) NotFound (λ s. refl) refl
  by other = there_tells call

accepted_tells : (call : Call) → TellsNone (accepted call)
accepted_tells call = by call.command where
  by : (command : Command) → TellsNone (elim command as (λ c. Reply) [
    | Ls path ↦ answer call
    | Cat path offset count ↦ answer call
    | Stat path ↦ answer call
    | Readlink path ↦ answer call
    | PfsStatus path ↦ answer call
    | PfsMaster path shared ↦ MadePfs (record { 0 = new_pfs call.volume })
    | PfsSlave path shared ↦ MadePfs (record { 0 = new_pfs call.volume })
    | other ↦ Done
  ])
  by (Ls path) = answer_tells call
  by (Cat path offset count) = answer_tells call
  by (Stat path) = answer_tells call
  by (Readlink path) = answer_tells call
  by (PfsStatus path) = answer_tells call
  by (PfsMaster path shared) = refl
  by (PfsSlave path shared) = refl
  by other = refl

-- the reply of an accepted call, by its command
abbrev AcceptedAs : ℕ → Call → Reply → Command → Type 0
AcceptedAs least call reply command = elim command [
  | Sync ↦ IsSynced reply
  | Synctid ↦ IsSynced reply
  | Df ↦ IsSpace least call.volume reply
  | Progress ↦ ⊥
  | other ↦ reply ≡ accepted call
]

none_passed : (least : ℕ) (call : Call) (begin end : Id) (command : Command) → AcceptedAs least call (Passed begin end) command → ⊥
none_passed least call begin end Sync is = cc
none_passed least call begin end Synctid is = cc
none_passed least call begin end Df is = is
none_passed least call begin end Progress is = is
none_passed least call begin end other is = (let told : passed_ids (Passed begin end) ≡ None = ap passed_ids is ∙ accepted_tells call in cc)

module _ (least : ℕ) (call : Call) (begin end : Id) where
  by_refusal : (found : Check) → refusal call ≡ found → IsDue least call found (Passed begin end) → ⊥
  by_refusal (Some r) found same = (let refuses : is_refusal (Passed begin end) ≡ true = ap is_refusal same ∙ refusal_refuses call r found in cc)
  by_refusal None found accepts = none_passed least call begin end call.command accepts

  no_pass : IsReply least call (Passed begin end) → ⊥
  no_pass (inl due) = by_refusal (refusal call) refl due
  no_pass (inr exception) = exception

pub tells_no_pass : (least : ℕ) (call : Call) (reply : Reply) → IsReply least call reply → passed_ids reply ≡ None
tells_no_pass least call (Passed begin end) is = absurd (no_pass least call begin end is)
tells_no_pass least call other is = refl

-- what is allowed to a call that ends no other one
pub reply_allowed : (run : Setting) (before : List Event) (event : Event) → named_opening event.entry.call ≡ None → IsAllowed run before event
    → IsReply (floor_after run before) (call_after run before event) event.entry.reply
reply_allowed run before event = by (named_opening event.entry.call) where
  by : (o : Option Id) → o ≡ None → (elim o as (λ x. Type 0) [
    | Some opening ↦ (c : OpenCall) × (opened_with opening.0 (state_after run before).opened ≡ Some c)
        × IsEnding (floor_after run before) (state_after run before).volume c event.entry.id.0 event.entry.reply
    | None ↦ IsReply (floor_after run before) (call_after run before event) event.entry.reply
  ]) → IsReply (floor_after run before) (call_after run before event) event.entry.reply
  by None none is = is
  by (Some opening) none is = absurd (cc)
