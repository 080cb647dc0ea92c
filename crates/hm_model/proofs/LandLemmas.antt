-- An accepted call lands, where all trees are certain.
use Rattle.std.proofs.Common.{◌≡◌, ℕ, true, false, List, [], ◌∷◌, ◌++◌, map, refl, sym, subst, inl, inr}
use Rattle.std.specs.Prelude.{Bool, Option, Some, None, if◌then◌else◌}
use Rattle.std.specs.Option.{option_map_or}
use Rattle.hm_model.specs.declared.command.Command.{Command}
use Rattle.hm_model.specs.declared.command.Command.TheVariants.{Ls, Cat, Stat, Readlink, Sync, Synctid, PfsMaster, PfsSlave, PfsStatus, PfsUpgrade}
use Rattle.hm_model.specs.declared.command.Command.TheVariants.{MirrorRead, MirrorWrite, MirrorCopy, Df, Progress}
use Rattle.hm_types.specs.declared.object.Object.{Object}
use Rattle.hm_model.specs.declared.reply.Reply.{Reply}
use Rattle.hm_model.specs.declared.reply.Reply.TheVariants.{Content as Bytes, Done, Listing, MadePfs, Media, NoMemory, NoSpace, NotFound, Status}
use Rattle.hm_model.specs.declared.reply.Reply.TheVariants.{Target as Text}
use Rattle.hm_model.specs.Answer.{answer, answer_at, file_bytes, kind_number, listing, record_of, size_of, target_of}
use Rattle.hm_model.specs.Bytes.{read_at}
use Rattle.hm_model.specs.Call.{Call, all_located, first_site, second_site, site_object, site_system}
use Rattle.hm_model.specs.Due.{Check, accepted, early_checks, first_refusal, hash_left, ids_left, intervals_left, name_is_new, new_pfs, own_checks}
use Rattle.hm_model.specs.Due.{own_checks_of, pfs_left, record_checks_of, refusal, slaves_stay, walks}
use Rattle.hm_model.specs.Legal.{IsAccepted, IsDue, IsException, IsReply, IsSpace, IsSynced, Lands, NamesAdded}
use Rattle.hm_model.specs.Reply.{is_refusal}
use Rattle.hm_model.specs.Sites.{Site}
use Rattle.hm_types.specs.Tree.{FileTree}
use Rattle.hm_model.proofs.CheckLemmas.{no_first, no_rest, refusal_refuses}
use Rattle.hm_model.proofs.DueLemmas.{of_option}

-- an exception refuses
exception_refuses : (least : ℕ) (call : Call) (reply : Reply) → IsException least call reply → is_refusal reply ≡ true
exception_refuses least call (NoSpace free needed) is = refl
exception_refuses least call (Media before after) is = refl
exception_refuses least call NoMemory is = refl
exception_refuses least call reply is = absurd is

-- a call is accepted only where no check fails
accepted_passes : (least : ℕ) (call : Call) (reply : Reply) → IsReply least call reply → is_refusal reply ≡ false → refusal call ≡ None
accepted_passes least call reply is accepted = by (refusal call) refl
  where
    refused : (r : Reply) → refusal call ≡ Some r → is_refusal reply ≡ true
    refused r found = elim is [
      | inl due ↦ let same : reply ≡ r = subst (λ (x : Check). IsDue least call x reply) found due in rw same (refusal_refuses call r found)
      | inr exception ↦ exception_refuses least call reply exception
    ]

    by : (found : Check) → refusal call ≡ found → refusal call ≡ None
    by None found = found
    by (Some r) found = absurd (let no_way : is_refusal reply ≡ true = refused r found in cc)

-- so each part of the checks passes where all do
record Passes (call : Call) : Type 0 where
  pub walks_pass : first_refusal (map walks (all_located call)) ≡ None
  pub stays : slaves_stay call ≡ None
  pub own : first_refusal (own_checks call) ≡ None
  pub intervals : intervals_left call ≡ None

passes : (call : Call) → refusal call ≡ None → Passes call
passes call none =
    let early : List Check = early_checks call.volume.last call.busy call.command call.paths in
    let on_walks : List Check = map walks (all_located call) in
    let own : List Check = slaves_stay call ∷ own_checks call in
    let last : List Check = hash_left call ∷ intervals_left call ∷ [] in
    let after_ids : first_refusal (((early ++ on_walks) ++ own) ++ last) ≡ None = (no_rest (ids_left call) (((early ++ on_walks) ++ own) ++ last) none).1 in
    let parts = no_first ((early ++ on_walks) ++ own) last after_ids in
    let before_last = no_first (early ++ on_walks) own parts.0 in
    let of_own = no_rest (slaves_stay call) (own_checks call) before_last.1 in
    let of_last = no_rest (hash_left call) (intervals_left call ∷ []) parts.1 in
    record {
      walks_pass = (no_first early on_walks before_last.0).1;
      stays = of_own.0;
      own = of_own.1;
      intervals = (no_rest (intervals_left call) [] of_last.1).0;
    }

-- those of records pass with a command's own ones
records_pass : (call : Call) (a b : Site) (command : Command) → first_refusal (own_checks_of call a b command) ≡ None →
    first_refusal (record_checks_of call a b command) ≡ None
records_pass call a b (PfsMaster path shared) none = (no_rest (name_is_new call a) (pfs_left call ∷ []) none).1
records_pass call a b (PfsSlave path shared) none = (no_rest (name_is_new call a) (pfs_left call ∷ []) none).1
records_pass call a b (PfsUpgrade path) none = none
records_pass call a b (MirrorRead path begin) none = none
records_pass call a b (MirrorWrite path) none = none
records_pass call a b (MirrorCopy master slave limit) none = none
records_pass call a b other none = refl

-- no answer of a call that looks names a PFS that was made
looked_names : (call : Call) (tree : FileTree) (object : Object) → NamesAdded call (answer_at call tree object)
looked_names call tree object = by call.command
  where
    by : (command : Command) → NamesAdded call (elim command [
      | Ls path ↦ Listing (listing tree object.number)
      | Cat path offset count ↦ Bytes (read_at offset count (file_bytes object.content))
      | Stat path ↦ Status (kind_number object.kind) object.number (size_of tree object) object.links
      | Readlink path ↦ Text (target_of call.volume object.content)
      | other ↦ Done
    ])
    by (Ls path) = tt
    by (Cat path offset count) = tt
    by (Stat path) = tt
    by (Readlink path) = tt
    by other = tt

answer_names : (call : Call) → NamesAdded call (answer call)
answer_names call = by call.command
  where
    seen : NamesAdded call (option_map_or (answer_at call (call.view (first_site call).at.pfs (first_site call).at.when))
        (site_object call (first_site call)) NotFound)
    seen =
        let tree : FileTree = call.view (first_site call).at.pfs (first_site call).at.when in
        of_option (NamesAdded call) (answer_at call tree) (site_object call (first_site call)) NotFound (looked_names call tree) tt

    by : (command : Command) → NamesAdded call (elim command [
      | PfsStatus path ↦ option_map_or record_of (site_system call (first_site call)) NotFound
      | other ↦ option_map_or (answer_at call (call.view (first_site call).at.pfs (first_site call).at.when)) (site_object call (first_site call)) NotFound
    ])
    by (PfsStatus path) = of_option (NamesAdded call) record_of (site_system call (first_site call)) NotFound (λ s. tt) tt
    by other = seen

accepted_names : (call : Call) (command : Command) → NamesAdded call (elim command [
  | Ls path ↦ answer call
  | Cat path offset count ↦ answer call
  | Stat path ↦ answer call
  | Readlink path ↦ answer call
  | PfsStatus path ↦ answer call
  | PfsMaster path shared ↦ MadePfs (record { 0 = new_pfs call.volume })
  | PfsSlave path shared ↦ MadePfs (record { 0 = new_pfs call.volume })
  | other ↦ Done
])
accepted_names call (Ls path) = answer_names call
accepted_names call (Cat path offset count) = answer_names call
accepted_names call (Stat path) = answer_names call
accepted_names call (Readlink path) = answer_names call
accepted_names call (PfsStatus path) = answer_names call
accepted_names call (PfsMaster path shared) = refl
accepted_names call (PfsSlave path shared) = refl
accepted_names call other = tt

-- the replies that tell a boundary or space name none either
synced_names : (call : Call) (reply : Reply) → IsSynced reply → NamesAdded call reply
synced_names call (MadePfs number) is = absurd (cc)
synced_names call reply is = tt

space_names : (call : Call) (least : ℕ) (reply : Reply) → IsSpace least call.volume reply → NamesAdded call reply
space_names call least (MadePfs number) is = absurd is
space_names call least reply is = tt

reply_names : (least : ℕ) (call : Call) (reply : Reply) (command : Command) → (elim command as (λ x. Type 0) [
  | Sync ↦ IsSynced reply
  | Synctid ↦ IsSynced reply
  | Df ↦ IsSpace least call.volume reply
  | Progress ↦ ⊥
  | other ↦ reply ≡ accepted call
]) → NamesAdded call reply
reply_names least call reply Sync is = synced_names call reply is
reply_names least call reply Synctid is = synced_names call reply is
reply_names least call reply Df is = space_names call least reply is
reply_names least call reply Progress is = absurd is
reply_names least call reply other is = subst (NamesAdded call) (sym is) (accepted_names call call.command)

-- a reply that accepts a call where no check refuses is the one that is due
accepted_reply : (least : ℕ) (call : Call) (reply : Reply) → IsReply least call reply → is_refusal reply ≡ false → refusal call ≡ None →
    IsAccepted least call reply
accepted_reply least call reply is accepted none = elim is [
  | inl due ↦ subst (λ (x : Check). IsDue least call x reply) none due
  | inr exception ↦ absurd (let no_way : is_refusal reply ≡ true = exception_refuses least call reply exception in cc)
]

-- so a call that is accepted where all trees are certain lands
pub lands_accepted : (least : ℕ) (call : Call) (reply : Reply) → IsReply least call reply → is_refusal reply ≡ false → Lands call reply
lands_accepted least call reply is accepted =
    let none : refusal call ≡ None = accepted_passes least call reply is accepted in
    let all : Passes call = passes call none in
    record {
      ends = all.walks_pass;
      in_master = all.stays;
      records = records_pass call (first_site call) (second_site call) call.command all.own;
      fits = all.intervals;
      named = reply_names least call reply call.command (accepted_reply least call reply is accepted none);
    }
