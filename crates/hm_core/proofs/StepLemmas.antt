-- One step of a core.
use Rattle.std.proofs.Common.{inl, inr, ℕ, ◌+◌, ◌-◌, ◌≤◌, ◌<◌, Bool, true, false, List, [], ◌∷◌, ◌++◌}
use Rattle.std.proofs.Common.{length, length-append, refl, sym, subst, ◌∙◌, ◌≡◌, ◌≢◌, arith, cond}
use Rattle.std.specs.Option.{option_map_or}
use Rattle.std.specs.Prelude.{IfSome, IsFalse, None, Option, Some, Result, Err}
use Rattle.std.specs.List.{list_any}
use Rattle.std.proofs.Math.Logic.{∥∥₁_elim}
use Rattle.std.proofs.Props.{props}
use Rattle.std.proofs.lemmas.List.Elements.{Contains-append_cases}
use Rattle.hm_types.specs.Faults.{IsCaused}
use Rattle.hm_types.specs.declared.fault.Fault.{Fault}
use Rattle.hm_types.specs.declared.fault.Fault.TheVariants.{Damaged, Media, NoMemory}
use Rattle.hm_types.specs.declared.id.Id.{Id}
use Rattle.hm_types.specs.declared.limits.TheConstants.{BIGBLOCK_BYTES, GREATEST_ID}
use Rattle.hm_freemap.specs.Stand.{append_of, entry_of as entry_at, is_handed_out}
use Rattle.hm_fields.specs.Pages.{PageMap}
use Rattle.hm_pages.specs.Calls.{IsSameFlush}
use Rattle.hm_pages.specs.Store.{Store}
use Rattle.hm_flush.specs.declared.flush.Flush.{Flush}
use Rattle.hm_flush.specs.declared.flush.Position.{Position}
use Rattle.hm_flush.specs.declared.flush.Position.TheVariants.{Idle, Undoing, Arming, Placing, Committing}
use Rattle.hm_flush.specs.declared.stage.Stage.{Stage}
use Rattle.hm_flush.specs.Calls.{HasStageCause}
use Rattle.hm_flush.specs.Flush.{IsGroupAt, IsGroupOf}
use Rattle.hm_stored.specs.Flushed.{IsFlushedBy}
use Rattle.hm_image.proofs.ListLemmas.{only_one}
use Rattle.hm_model.specs.Caused.{boundary_in}
use Rattle.hm_model.specs.Needs.{floor, moved_space}
use Rattle.hm_model.specs.Reply.{told_boundary}
use Rattle.hm_model.specs.declared.command.Command.{Command}
use Rattle.hm_model.specs.declared.entry.Entry.{Entry}
use Rattle.hm_model.specs.declared.reply.Reply.{Reply}
use Rattle.hm_stored.specs.Heap.{Heap, free_of, room_of}
use Rattle.hm_stored.specs.Turn.{IsClosed}
use Rattle.hm_core.specs.Answer.{AnswersOver, IsEntryOf}
use Rattle.hm_core.specs.Core.{TellsBoundary}
use Rattle.hm_core.specs.Inside.{AreDrawnBy, AreUpTo, IsInOrder}
use Rattle.hm_core.specs.Ledger.{IsPaid}
use Rattle.hm_core.specs.Served.{IsSync}
use Rattle.hm_core.specs.State.{OpenWork}
use Rattle.hm_core.specs.Told.{TellsFailure, reply_to}
use Rattle.hm_core.proofs.FloorLemmas.{floor_paid, none_before}
use Rattle.hm_core.proofs.PropLemmas.{flushed_prop}
use Rattle.hm_core.proofs.TurnLemmas.{paid_later}

-- the entry of a call with these
abbrev pub entry_of : ℕ → ℕ → ℕ → Command → Reply → Entry
entry_of id lane line command reply = record { id = record { 0 = id }; lane = lane; line = line; call = command; reply = reply }

-- a boundary that a reply tells is the committed one, and a sync waits until that is no earlier than an id
pub told_since : (since boundary : ℕ) (command : Command) (reply : Reply) → (IsSync command → since ≤ boundary)
    → IfSome (told_boundary reply) (λ id. IsSync command × (id.0 ≡ boundary)) → TellsBoundary since boundary reply
told_since since boundary command reply waited told = by (told_boundary reply) told where
  by : (o : Option Id) → IfSome o (λ id. IsSync command × (id.0 ≡ boundary)) → IfSome o (λ told. (since ≤ told.0) × (told.0 ≤ boundary))
  by None told = tt
  by (Some id) told = (let here = waited told.0 in let same = told.1 in (omega (arith, here, same), omega (arith, same)))

told_in : (boundary : ℕ) (command : Command) (reply : Reply) → IfSome (told_boundary reply) (λ id. IsSync command × (id.0 ≡ boundary))
    → boundary_in reply ≤ boundary
told_in boundary command reply told = by (told_boundary reply) told where
  by : (o : Option Id) → IfSome o (λ id. IsSync command × (id.0 ≡ boundary)) → option_map_or (λ (id : Id). id.0) o 0 ≤ boundary
  by None told = omega arith
  by (Some id) told = (let same = told.1 in omega (arith, same))

-- a history with an entry more
module _ (history : List Entry) (entry : Entry) where
  -- of which each tells no later boundary
  up_to_more : (boundary : ℕ) → boundary_in entry.reply ≤ boundary → AreUpTo boundary history → AreUpTo boundary (history ++ entry ∷ [])
  up_to_more boundary here so_far e has = elim (Contains-append_cases history (entry ∷ []) e has) [
    | inl before ↦ so_far e before
    | inr there ↦ subst (λ (x : Entry). boundary_in x.reply ≤ boundary) (only_one entry e there) here
  ]

  -- and was drawn by now
  drawn_more : (last : ℕ) → entry.id.0 ≡ last + 1 → AreDrawnBy last history → AreDrawnBy (last + 1) (history ++ entry ∷ [])
  drawn_more last own so_far e has = elim (Contains-append_cases history (entry ∷ []) e has) [
    | inl before ↦ (let id = so_far e before in omega (arith, id))
    | inr there ↦ subst (λ (x : Entry). x.id.0 ≤ last + 1) (only_one entry e there) (omega (arith, own))
  ]

-- a flush is one over the pages of a space whose committed and frozen pages are the same
pub group_same : (f : Flush) (s s' : Store) → IsSameFlush s s' → IsGroupOf f s → IsGroupOf f s'
group_same f s s' same group =
    by s'.committed s'.frozen s'.frozen_group s'.boundary same.committed same.frozen same.frozen_group same.boundary where
      by : (c z : PageMap) (l : List ℕ) (b : Option Id) → c ≡ s.committed → z ≡ s.frozen → l ≡ s.frozen_group → b ≡ s.boundary
          → IsGroupOf f (record s' { committed = c; frozen = z; frozen_group = l; boundary = b })
      by c z l b first second third fourth = rw (first, second, third, fourth) (at_position f.at group) where
        at_position : (p : Position) → IsGroupAt p f s
            → IsGroupAt p f (record s' { committed = s.committed; frozen = s.frozen; frozen_group = s.frozen_group; boundary = s.boundary })
        at_position Idle g = g
        at_position (Undoing from) g = record { boundary = g.boundary; pages = g.pages; live = g.live; written = g.written }
        at_position (Arming change) g = record { boundary = g.boundary; pages = g.pages; live = g.live; written = g.written }
        at_position (Placing i) g = record { boundary = g.boundary; pages = g.pages; live = g.live; written = g.written }
        at_position (Committing change) g = record { boundary = g.boundary; pages = g.pages; live = g.live; written = g.written }

-- the boundary of a core is at least each that was told, and at most the last id
up_to_prop : (boundary : ℕ) (history : List Entry) → IsProp (AreUpTo boundary history)
up_to_prop boundary history = hlevel props

-- the room of a zone is that of a big-block at most
room_most : (h : Heap) (zone : ℕ) → room_of h zone ≤ BIGBLOCK_BYTES
room_most h zone = by h.whole (is_handed_out zone) (entry_at h.pages.current (append_of h.append zone)).append_off where
  by : (w b : Bool) (off : ℕ) → cond w (cond b (BIGBLOCK_BYTES - off) 0) (cond b BIGBLOCK_BYTES 0) ≤ BIGBLOCK_BYTES
  by true true off = omega arith
  by true false off = omega arith
  by false true off = omega arith
  by false false off = omega arith

drawn_prop : (last : ℕ) (history : List Entry) → IsProp (AreDrawnBy last history)
drawn_prop last history = hlevel props

module _ (f : Flush) (last free : ℕ) (h : Heap) (history : List Entry) where
  -- no fewer big-blocks are free than the least of the history
  pub least_left : ∥ IsInOrder f last free h history ∥₁ → floor free history ≤ free_of h
  least_left ordered = ∥∥₁_elim ordered (hlevel props) (λ o. floor_paid free (free_of h) history (room_of h) (room_most h) o.paid)

  pub boundary_told : ∥ IsInOrder f last free h history ∥₁ → AreUpTo f.header.last.0 history
  boundary_told ordered = ∥∥₁_elim ordered (up_to_prop f.header.last.0 history) (λ o. o.told)

  pub boundary_drawn : ∥ IsInOrder f last free h history ∥₁ → f.header.last.0 ≤ last
  boundary_drawn ordered = ∥∥₁_elim ordered (hlevel props) (λ o. o.later)

  pub target_drawn : ∥ IsInOrder f last free h history ∥₁ → f.at ≢ Idle → (f.header.last.0 ≤ f.target.last.0) × (f.target.last.0 ≤ last)
  target_drawn ordered = ∥∥₁_elim ordered (hlevel props) (λ o. o.target)

  pub greatest_drawn : ∥ IsInOrder f last free h history ∥₁ → last ≤ GREATEST_ID
  greatest_drawn ordered = ∥∥₁_elim ordered (hlevel props) (λ o. o.greatest)

  pub size_now : ∥ IsInOrder f last free h history ∥₁ → f.header.bigblocks ≡ h.bigblocks
  size_now ordered = ∥∥₁_elim ordered (hlevel props) (λ o. o.ready.bigblocks)

  pub flushed_now : ∥ IsInOrder f last free h history ∥₁ → IsFlushedBy f h
  flushed_now ordered = ∥∥₁_elim ordered (flushed_prop f h) (λ o. o.ready)

  pub closed_now : ∥ IsInOrder f last free h history ∥₁ → IsClosed h
  closed_now ordered = ∥∥₁_elim ordered (hlevel props) (λ o. o.ready.closed)

  pub each_drawn : ∥ IsInOrder f last free h history ∥₁ → AreDrawnBy last history
  each_drawn ordered = ∥∥₁_elim ordered (drawn_prop last history) (λ o. o.drawn)

  -- with an entry more all is in order, over a space that is
  pub ordered_more : (h' : Heap) (entry : Entry) → last < GREATEST_ID → entry.id.0 ≡ last + 1 → boundary_in entry.reply ≤ f.header.last.0
      → IsFlushedBy f h' → (IsFalse (list_any moved_space history) → IsPaid free (free_of h') (length history + 1) (room_of h'))
      → IsInOrder f last free h history
      → IsInOrder f (last + 1) free h' (history ++ entry ∷ [])
  ordered_more h' entry left own told ready paid o = record {
    ready = ready;
    told = up_to_more history entry f.header.last.0 told o.told;
    drawn = drawn_more history entry last own o.drawn;
    later = (let later = o.later in omega (arith, later));
    target = λ flies. (let old = o.target flies in let second = old.1 in (old.0, omega (arith, second)));
    greatest = omega (arith, left);
    paid = λ none. subst (λ (n : ℕ). IsPaid free (free_of h') n (room_of h')) (sym (length-append history (entry ∷ [])))
        (paid (none_before history entry none));
  }

  -- so it is after a call that a store answered
  pub ordered_next : (h' : Heap) (root root' numbers faults faults' : ℕ) (command : Command) (reply : Reply) (opened : Option OpenWork) (entry : Entry)
      → last < GREATEST_ID → IsEntryOf last command reply entry
      → AnswersOver numbers f.header.last.0 faults faults' last command h h' root root' reply opened → IsInOrder f last free h history
      → IsInOrder f (last + 1) free h' (history ++ entry ∷ [])
  ordered_next h' root root' numbers faults faults' command reply opened entry left is answers o =
      ordered_more h' entry left is.own
      (subst (λ (r : Reply). boundary_in r ≤ f.header.last.0) (sym is.reply_is) (told_in f.header.last.0 command reply answers.told)) (record {
        closed = answers.closed;
        bigblocks = o.ready.bigblocks ∙ sym answers.flush.bigblocks;
        group = group_same f h.pages h'.pages answers.flush.pages o.ready.group;
        stands = answers.flush.stands f o.ready.stands;
      }) (λ none. answers.paid free (length history) (o.paid none)) o

  -- and with the entry of a call that was refused over this space
  pub ordered_refused : (entry : Entry) → last < GREATEST_ID → entry.id.0 ≡ last + 1 → boundary_in entry.reply ≤ f.header.last.0
      → IsInOrder f last free h history → IsInOrder f (last + 1) free h (history ++ entry ∷ [])
  ordered_refused entry left own told o =
      ordered_more h entry left own told o.ready (λ none. paid_later free (free_of h) (length history) (room_of h) (o.paid none)) o

-- a fault tells no boundary
pub fault_untold : (boundary : ℕ) (fault : Fault) (reply : Reply) → reply ≡ reply_to fault → boundary_in reply ≤ boundary
fault_untold boundary fault reply is = subst (λ (r : Reply). boundary_in r ≤ boundary) (sym is) (by fault) where
  by : (fault : Fault) → boundary_in (reply_to fault) ≤ boundary
  by (Media before after) = omega arith
  by (Damaged at kind) = omega arith
  by NoMemory = omega arith

pub untold_since : (since boundary : ℕ) (fault : Fault) (reply : Reply) → reply ≡ reply_to fault → TellsBoundary since boundary reply
untold_since since boundary fault reply is = subst (TellsBoundary since boundary) (sym is) (by fault) where
  by : (fault : Fault) → TellsBoundary since boundary (reply_to fault)
  by (Media before after) = tt
  by (Damaged at kind) = tt
  by NoMemory = tt

-- a stage that failed is told as the device's failure, or as want of memory, and has its cause
pub record IsStageFault (old new : ℕ) (fault : Fault) (reply : Reply) : Type 0 where
  pub caused : IsCaused old new fault
  pub told : TellsFailure old new reply

pub stage_failure : (at : Position) (old new : ℕ) (result : Result Stage Fault) (fault : Fault) (reply : Reply) → result ≡ Err fault
    → HasStageCause at old new result → reply ≡ reply_to fault → IsStageFault old new fault reply
stage_failure at old new result fault reply is cause told =
    subst (λ (r : Reply). IsStageFault old new fault r) (sym told)
    (by fault (subst (λ (r : Result Stage Fault). HasStageCause at old new r) is cause)) where
      by : (fault : Fault) → HasStageCause {T = Stage} at old new (Err fault) → IsStageFault old new fault (reply_to fault)
      by (Media before after) cause = record { caused = cause.counted.caused; told = inl (before, after, refl, cause.counted.caused) }
      by (Damaged here kind) cause = absurd cause.faults
      by NoMemory cause = record { caused = tt; told = inr refl }
