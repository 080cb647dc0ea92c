-- While a reblock is open its opening stands in the history, so that tells no least number of free big-blocks.
use Rattle.std.proofs.Common.{◌≡◌, ℕ, ◌&&◌, ◌||◌, Bool, true, false, List, [], ◌∷◌, filter, refl, sym, subst, ◌∙◌, eqb}
use Rattle.std.specs.Prelude.{IsFalse, IsSomeAnd, None, Option, Some, find, if◌then◌else◌}
use Rattle.std.specs.Option.{option_map_or}
use Rattle.std.specs.List.{list_any}
use Rattle.std.proofs.Math.Logic.{∥∥₁_elim}
use Rattle.std.proofs.Props.{props}
use Rattle.std.proofs.lemmas.Bool.{false≢true}
use Rattle.hm_types.specs.declared.id.Id.{Id}
use Rattle.hm_model.specs.After.{Event}
use Rattle.hm_model.specs.Caused.{Counts, Known, is_housekeeping, known_after, known_after_entry, known_at, still_open}
use Rattle.hm_model.specs.Command.{named_opening}
use Rattle.hm_model.specs.Legal.{entries_of}
use Rattle.hm_model.specs.Needs.{moved_space, moves_space}
use Rattle.hm_model.specs.Reply.{is_refusal}
use Rattle.hm_model.specs.declared.command.Command.{Command}
use Rattle.hm_model.specs.declared.command.Command.TheVariants.{Reblock}
use Rattle.hm_model.specs.declared.entry.Entry.{Entry}
use Rattle.hm_stored.specs.Heap.{Heap, free_of, room_of}
use Rattle.hm_core.specs.Caused.{IsCausedWith}
use Rattle.hm_core.specs.Ledger.{IsPaid}
use Rattle.hm_core.specs.Open.{IsKnownOpen, IsOpenedBy, IsReblock}
use Rattle.hm_core.specs.State.{OpenJob, OpenWork, job_with, pruning, reblocking}
use Rattle.hm_core.specs.Unit.{IsPruning, KeepsPaid}
use Rattle.hm_core.proofs.CausedLemmas.{HasWork}
use Rattle.hm_core.proofs.RunningLemmas.{found_has}

reblock_moves : (command : Command) → IsReblock command → moves_space command ≡ true
reblock_moves (Reblock fill) is = refl
reblock_moves other is = absurd is

-- whether one of these calls moves space
abbrev any_moves : List (ℕ × Command) → Bool
any_moves opened = list_any (λ (o : ℕ × Command). moves_space o.1) opened

one_moves : (id : ℕ) (opened : List (ℕ × Command)) → HasWork reblocking id opened → any_moves opened ≡ true
one_moves id [] has = absurd has
one_moves id (o ∷ os) has = by (eqb o.0 id) has (one_moves id os) where
  later : (here : Bool) → any_moves os ≡ true → (here || any_moves os) ≡ true
  later true is = refl
  later false is = is

  by : (here : Bool) → IsSomeAnd (if here then Some o else find (λ (x : ℕ × Command). eqb x.0 id) os) (λ x. IsOpenedBy x.1 reblocking)
      → (HasWork reblocking id os → any_moves os ≡ true) → (moves_space o.1 || any_moves os) ≡ true
  by true is rest = rw (reblock_moves o.1 is) refl
  by false is rest = later (moves_space o.1) (rest is)

-- none of them does where some are taken out
none_left : (keeps : ℕ × Command → Bool) (opened : List (ℕ × Command)) → any_moves opened ≡ false → any_moves (filter keeps opened) ≡ false
none_left keeps [] none = refl
none_left keeps (o ∷ os) none = by (keeps o) (moves_space o.1) refl none (none_left keeps os) where
  by : (kept moves : Bool) → moves_space o.1 ≡ moves → (moves || any_moves os) ≡ false → (any_moves os ≡ false → any_moves (filter keeps os) ≡ false)
      → any_moves (if kept then o ∷ filter keeps os else filter keeps os) ≡ false
  by kept true is none rest = absurd cc
  by true false is none rest = rw is (rest none)
  by false false is none rest = rest none

-- an entry that moves no space opens no call that does
none_more : (known : Known) (e : Entry) → moved_space e ≡ false → any_moves known.opened ≡ false → any_moves (known_after_entry known e).opened ≡ false
none_more known e quiet none = by (is_housekeeping e.call) (is_refusal e.reply) (moves_space e.call) refl quiet where
  closed : (o : Option Id) → any_moves (option_map_or (λ (opening : Id). filter (λ (x : ℕ × Command). if eqb x.0 opening.0 then false else true)
      known.opened) o known.opened) ≡ false
  closed None = none
  closed (Some opening) = none_left (λ (x : ℕ × Command). if eqb x.0 opening.0 then false else true) known.opened none

  by : (housekeeping refuses moves : Bool) → moves_space e.call ≡ moves → (moves && (if refuses then false else true)) ≡ false
      → any_moves (if (if housekeeping then (if refuses then false else true) else false) then (e.id.0, e.call) ∷ known.opened
      else still_open e known.opened) ≡ false
  by true false true is quiet = absurd cc
  by true false false is quiet = rw is none
  by true true moves is quiet = closed (named_opening e.call)
  by false refuses moves is quiet = closed (named_opening e.call)

moved_by : (known : Known) (events : List Event) → any_moves known.opened ≡ false → any_moves (known_after known events).opened ≡ true
    → list_any moved_space (entries_of events) ≡ true
moved_by known [] none some = absurd (false≢true (sym none ∙ some))
moved_by known (e ∷ es) none some =
    by (moved_space e.entry) refl (λ quiet. moved_by (known_after_entry known e.entry) es (none_more known e.entry quiet none) some) where
      by : (moved : Bool) → moved_space e.entry ≡ moved → (moved_space e.entry ≡ false → list_any moved_space (entries_of es) ≡ true)
          → (moved || list_any moved_space (entries_of es)) ≡ true
      by true is rest = refl
      by false is rest = rest is

pub moved_open : (first : ℕ) (start counts : Counts) (last : ℕ) (running : List OpenJob) (history : List Entry)
    → ∥ IsCausedWith first start counts last running history ∥₁ → (id : ℕ) (p : OpenJob) → job_with id running ≡ Some p → p.work ≡ reblocking
    → list_any moved_space history ≡ true
moved_open first start counts last running history caused id p found reblocks = ∥∥₁_elim caused (hlevel props) (λ so_far.
    let known : Known = known_after (known_at first start) so_far.causes.events in
    let open_so = found_has (IsKnownOpen known) id running p found so_far.opened in
    subst (λ (l : List Entry). list_any moved_space l ≡ true) so_far.causes.entries
    (moved_by (known_at first start) so_far.causes.events refl
    (one_moves p.opening known.opened (subst (λ (w : OpenWork). HasWork w p.opening known.opened) reblocks open_so.has.opened))))

-- so what is paid for stays so over a unit of such work
pub unit_pays : (work : OpenWork) (h h' : Heap) (history : List Entry) → (work ≡ reblocking → list_any moved_space history ≡ true)
    → (IsPruning work → KeepsPaid h h') → (free calls : ℕ) → IsFalse (list_any moved_space history) → IsPaid free (free_of h) calls (room_of h)
    → IsPaid free (free_of h') calls (room_of h')
unit_pays (pruning pfs kept) h h' history moved pays free calls none paid = pays tt free calls paid
unit_pays reblocking h h' history moved pays free calls none paid = absurd (false≢true (sym none ∙ moved refl))
