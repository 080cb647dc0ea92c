-- The checks of a call each give a refusal where they fail.
use Rattle.std.proofs.Common.{◌≡◌, ℕ, ◌+◌, ◌-◌, ◌^◌, true, false, List, [], ◌∷◌, ◌++◌, length, map, min, refl, subst}
use Rattle.std.specs.Prelude.{Bool, ◌&&◌, ◌||◌, ◌==◌, Option, Some, None, if◌then◌else◌}
use Rattle.std.specs.Bool.{nat_le, nat_lt}
use Rattle.std.specs.List.{list_any}
use Rattle.std.specs.Option.{option_map_or}
use Rattle.hm_types.specs.declared.id.Obj.{Obj}
use Rattle.hm_types.specs.declared.limits.TheConstants.{GREATEST_ID, MOST_INTERVALS}
use Rattle.hm_model.specs.declared.command.Command.{Command}
use Rattle.hm_model.specs.declared.command.Command.TheVariants.{Mkdir, Touch, Symlink, Snapshot, Ln, Mv, Write, Fill, Truncate, Rm, Rmdir, Ls, Cat}
use Rattle.hm_model.specs.declared.command.Command.TheVariants.{Readlink, Prune, PfsMaster, PfsSlave, PfsUpgrade, MirrorRead, MirrorWrite, MirrorCopy}
use Rattle.hm_types.specs.declared.object.Object.{Object}
use Rattle.hm_model.specs.declared.reply.Reply.{Reply}
use Rattle.hm_model.specs.declared.reply.Reply.TheVariants.{BadPath, Busy, Exists, Future, HashFull, IdsSpent, NotMaster, NotSlave, ReadOnly}
use Rattle.hm_model.specs.declared.reply.Reply.TheVariants.{SharedDiffers, TooManyIntervals}
use Rattle.hm_model.specs.Answer.{is_master}
use Rattle.hm_model.specs.Call.{Call, all_located, first_site, second_site, site_object, site_system, standing}
use Rattle.hm_model.specs.Due.{Check, a_master, a_slave, checks, early_checks, first_refusal, good_path, good_paths, has_id, has_its_name}
use Rattle.hm_model.specs.Due.{hash_is_full, hash_left, ids_left, intervals_left, is_above, is_in_slave, is_pass, is_pfs_call, is_tree_call}
use Rattle.hm_model.specs.Due.{is_way_free, name_is_new, new_name, no_future, no_future_begin, none_open, of_system, one_shared, own_checks}
use Rattle.hm_model.specs.Due.{own_checks_of, parts_in, past_stays, pfs_left, pruned_count, record_checks, record_checks_of, refusal, refuse_if}
use Rattle.hm_model.specs.Due.{slaves_stay, walks, was_passed, way_is_free}
use Rattle.hm_model.specs.Reply.{is_refusal}
use Rattle.hm_model.specs.Sites.{BadAt, Parsed, Parts, Site, Use, uses_of}
use Rattle.hm_model.specs.Laws.{rewrites}
use Rattle.hm_model.specs.Volume.{PseudoFileSystem, system_of}
use Rattle.hm_model.proofs.DueLemmas.{AllRefuse, CheckRefuses, all_append, first_refuses, of_option, of_test, walks_refuse}

-- a check by a test
if_refuses : (test : Bool) (reply : Reply) → is_refusal reply ≡ true → CheckRefuses (refuse_if test reply)
if_refuses true reply refuses = refuses
if_refuses false reply refuses = tt

unless_refuses : (test : Bool) (reply : Reply) → is_refusal reply ≡ true → CheckRefuses (if test then None else Some reply)
unless_refuses true reply refuses = tt
unless_refuses false reply refuses = refuses

-- a check of a PFS
system_refuses : (call : Call) (site : Site) (check : PseudoFileSystem → Check) → ((s : PseudoFileSystem) → CheckRefuses (check s)) →
    CheckRefuses (of_system call site check)
system_refuses call site check each = of_option CheckRefuses check (site_system call site) None each tt

new_refuses : (call : Call) (site : Site) → CheckRefuses (name_is_new call site)
new_refuses call site = of_option CheckRefuses (λ (o : Obj). Some Exists) _ None (λ o. refl) tt

way_refuses : (call : Call) → CheckRefuses (way_is_free call)
way_refuses call =
    of_option CheckRefuses (λ (number : Obj). if is_way_free call then None else Some Exists) _ None
    (λ number. unless_refuses (is_way_free call) Exists refl) tt

-- the checks before the walks
good_refuses : (u : Use) (path : Parsed) → CheckRefuses (good_path u path)
good_refuses u (BadAt place) = refl
good_refuses u (Parts parts) = unless_refuses (has_its_name u parts) (BadPath 0) refl

goods_refuse : (uses : List (Use × List ℕ)) (paths : List Parsed) → AllRefuse (good_paths uses paths)
goods_refuse [] paths = tt
goods_refuse (u ∷ uses) [] = tt
goods_refuse (u ∷ uses) (path ∷ paths) = (good_refuses u.0 path, goods_refuse uses paths)

futures_refuse : (last : ℕ) (paths : List Parsed) → AllRefuse (map (no_future last) paths)
futures_refuse last [] = tt
futures_refuse last (path ∷ paths) = (if_refuses (list_any (is_above last) (parts_in path)) (Future (record { 0 = last })) refl, futures_refuse last paths)

begin_refuses : (last : ℕ) (command : Command) → CheckRefuses (no_future_begin last command)
begin_refuses last (MirrorRead path begin) = if_refuses (nat_lt last begin.0) (Future (record { 0 = last })) refl
begin_refuses last other = tt

open_refuses : (busy : Option ℕ) (command : Command) → CheckRefuses (none_open busy command)
open_refuses busy command =
    of_test CheckRefuses (is_pass command) (option_map_or (λ opening. Some (Busy (record { 0 = opening }))) busy None) None
    (of_option CheckRefuses (λ opening. Some (Busy (record { 0 = opening }))) busy None (λ opening. refl) tt) tt

early_refuse : (last : ℕ) (busy : Option ℕ) (command : Command) (paths : List Parsed) → AllRefuse (early_checks last busy command paths)
early_refuse last busy command paths = (
  open_refuses busy command,
  all_append (good_paths (uses_of command) paths ++ map (no_future last) paths) (no_future_begin last command ∷ past_stays command paths ∷ [])
      (all_append (good_paths (uses_of command) paths) (map (no_future last) paths) (goods_refuse (uses_of command) paths) (futures_refuse last paths))
      (begin_refuses last command, (if_refuses ((is_tree_call command || is_pfs_call command) && list_any has_id paths) ReadOnly refl, tt)),
)

slave_refuses : (call : Call) (site : Site) → CheckRefuses (a_slave call site)
slave_refuses call site = system_refuses call site (λ s. refuse_if (is_master s) NotSlave) (λ s. if_refuses (is_master s) NotSlave refl)

master_refuses : (call : Call) (site : Site) → CheckRefuses (a_master call site)
master_refuses call site = system_refuses call site (λ s. if is_master s then None else Some NotMaster) (λ s. unless_refuses (is_master s) NotMaster refl)

shared_refuses : (call : Call) → CheckRefuses (one_shared call)
shared_refuses call =
    system_refuses call (first_site call) (λ m. of_system call (second_site call)
    (λ s. if s.shared == m.shared then None else Some (SharedDiffers s.shared m.shared)))
    (λ m. system_refuses call (second_site call) (λ s. if s.shared == m.shared then None else Some (SharedDiffers s.shared m.shared))
    (λ s. unless_refuses (s.shared == m.shared) (SharedDiffers s.shared m.shared) refl))

-- a command's own checks, for two sites
own_refuse : (call : Call) (a b : Site) (command : Command) → AllRefuse (own_checks_of call a b command)
own_refuse call a b (Mkdir path) = (new_refuses call a, tt)
own_refuse call a b (Touch path) = (new_refuses call a, tt)
own_refuse call a b (Symlink target path) = (new_refuses call a, tt)
own_refuse call a b (Snapshot path) = (new_refuses call a, tt)
own_refuse call a b (Ln old new) = (if_refuses _ _ refl, (if_refuses _ _ refl, (unless_refuses _ _ refl, (new_refuses call b, (if_refuses _ _ refl, tt)))))
own_refuse call a b (Write path offset bytes) = (if_refuses _ _ refl, (if_refuses _ _ refl, (if_refuses _ _ refl, tt)))
own_refuse call a b (Fill path offset count byte) = (if_refuses _ _ refl, (if_refuses _ _ refl, (if_refuses _ _ refl, tt)))
own_refuse call a b (Truncate path size) = (if_refuses _ _ refl, (if_refuses _ _ refl, (if_refuses _ _ refl, tt)))
own_refuse call a b (Rm path) = (if_refuses _ _ refl, tt)
own_refuse call a b (Rmdir path) = (unless_refuses _ _ refl, (if_refuses _ _ refl, tt))
own_refuse call a b (Mv old new) = (unless_refuses _ _ refl, (if_refuses _ _ refl, (way_refuses call, tt)))
own_refuse call a b (Ls path) = (unless_refuses _ _ refl, tt)
own_refuse call a b (Cat path offset count) = (if_refuses _ _ refl, (if_refuses _ _ refl, tt))
own_refuse call a b (Readlink path) = (unless_refuses _ _ refl, tt)
own_refuse call a b (Prune path) = (unless_refuses _ _ refl, (if_refuses _ _ refl, tt))
own_refuse call a b (PfsMaster path shared) = (new_refuses call a, (if_refuses _ _ refl, tt))
own_refuse call a b (PfsSlave path shared) = (new_refuses call a, (if_refuses _ _ refl, tt))
own_refuse call a b (PfsUpgrade path) = (slave_refuses call a, (system_refuses call a _ (λ s. if_refuses _ _ refl), tt))
own_refuse call a b (MirrorRead path begin) = (master_refuses call a, tt)
own_refuse call a b (MirrorWrite path) = (slave_refuses call a, tt)
own_refuse call a b (MirrorCopy master slave limit) = (master_refuses call a, (slave_refuses call b, (shared_refuses call, tt)))
own_refuse call a b other = tt

intervals_refuse : (call : Call) (command : Command) → CheckRefuses (elim command [
  | Prune path ↦
      refuse_if (nat_lt MOST_INTERVALS (pruned_count call)) (TooManyIntervals (min (pruned_count call) (2 ^ 32 - 1)))
  | other ↦ None
])
intervals_refuse call (Prune path) = if_refuses _ _ refl
intervals_refuse call other = tt

-- all checks of a call
all_refuse : (call : Call) → AllRefuse (checks call)
all_refuse call =
    let early : List Check = early_checks call.volume.last call.busy call.command call.paths in
    let on_walks : List Check = map walks (all_located call) in
    let own : List Check = slaves_stay call ∷ own_checks call in
    let last : List Check = hash_left call ∷ intervals_left call ∷ [] in (
      if_refuses (nat_le GREATEST_ID call.volume.last) IdsSpent refl,
      all_append ((early ++ on_walks) ++ own) last
          (all_append (early ++ on_walks) own
          (all_append early on_walks (early_refuse call.volume.last call.busy call.command call.paths) (walks_refuse call (uses_of call.command) call.paths)) (
            if_refuses (is_tree_call call.command && list_any (is_in_slave call) (all_located call)) ReadOnly refl,
            own_refuse call (first_site call) (second_site call) call.command,
          )) (
            of_option CheckRefuses (λ site. refuse_if (hash_is_full call site) HashFull) (new_name (uses_of call.command) (all_located call)) None
                (λ site. if_refuses (hash_is_full call site) HashFull refl) tt,
            (intervals_refuse call call.command, tt),
          ),
    )

-- the refusal that a call is due refuses it
pub refusal_refuses : (call : Call) (reply : Reply) → refusal call ≡ Some reply → is_refusal reply ≡ true
refusal_refuses call reply is = first_refuses (checks call) reply (all_refuse call) is

-- where none refuses, none of any part does
pub no_first : (xs ys : List Check) → first_refusal (xs ++ ys) ≡ None → (first_refusal xs ≡ None) × (first_refusal ys ≡ None)
no_first [] ys none = (refl, none)
no_first (None ∷ xs) ys none = no_first xs ys none
no_first (Some reply ∷ xs) ys none = absurd (cc)

pub no_rest : (x : Check) (xs : List Check) → first_refusal (x ∷ xs) ≡ None → (x ≡ None) × (first_refusal xs ≡ None)
no_rest None xs none = (refl, none)
no_rest (Some reply) xs none = absurd (cc)

-- which site a call that rewrites a PFS works on
abbrev pub written_site : Command → Site → Site → Site
written_site (MirrorCopy master slave limit) a b = b
written_site other a b = a

slave_checked : (call : Call) (a b : Site) (command : Command) → rewrites command ≡ true → first_refusal (record_checks_of call a b command) ≡ None →
    a_slave call (written_site command a b) ≡ None
slave_checked call a b (PfsUpgrade path) is none = (no_rest (a_slave call a) (was_passed call a ∷ []) none).0
slave_checked call a b (MirrorWrite path) is none = (no_rest (a_slave call a) [] none).0
slave_checked call a b (MirrorCopy master slave limit) is none =
    (no_rest (a_slave call b) (one_shared call ∷ []) (no_rest (a_master call a) (a_slave call b ∷ one_shared call ∷ []) none).1).0
slave_checked call a b command is none = absurd (cc)

-- a call that rewrites a PFS and lands works on no master
pub written_slave : (call : Call) (s : PseudoFileSystem) → first_refusal (record_checks call) ≡ None → rewrites call.command ≡ true →
    system_of call.volume (written_site call.command (first_site call) (second_site call)).at.pfs ≡ Some s → is_master s ≡ false
written_slave call s none writes found = by (is_master s) refl
  where
    checked : a_slave call (written_site call.command (first_site call) (second_site call)) ≡ None
    checked = slave_checked call (first_site call) (second_site call) call.command writes none

    here : refuse_if (is_master s) NotSlave ≡ None
    here = subst (λ (x : Option PseudoFileSystem). option_map_or (λ (y : PseudoFileSystem). refuse_if (is_master y) NotSlave) x None ≡ None) found checked

    by : (test : Bool) → is_master s ≡ test → is_master s ≡ false
    by true is = absurd (let refused : Some NotSlave ≡ None = rw is at here in cc)
    by false is = is
