-- A call over a store of a space, from one moment without an open call to another.
use Rattle.std.proofs.Common.{◌≡◌, inl, inr, ℕ, ◌+◌, ◌≤◌, ◌<◌, Bool, true, List, Option, None}
use Rattle.std.proofs.Common.{false, refl, sym, ap, subst, ◌∙◌, arith, cond}
use Rattle.std.proofs.Common.{Result, Err, nat_eq, eqb-true}
use Rattle.std.specs.Prelude.{IfSome, IsTrue}
use Rattle.hm_types.specs.Faults.{IsCaused}
use Rattle.hm_types.specs.Space.{reserve_of}
use Rattle.hm_types.specs.declared.fault.Fault.{Fault}
use Rattle.hm_types.specs.declared.id.Id.{Id}
use Rattle.hm_types.specs.declared.fault.Fault.TheVariants.{Damaged as damage, Media as device, NoMemory as no_memory}
use Rattle.hm_types.specs.declared.limits.TheConstants.{GREATEST_ID}
use Rattle.hm_btree.specs.Tree.{HoldsTree, told_elements}
use Rattle.hm_key.specs.Charges.{Charges}
use Rattle.hm_key.specs.Extents.{Extent}
use Rattle.hm_key.specs.declared.element.Element.{Element}
use Rattle.hm_calls.specs.Answered.{IsAnswerable, IsFormOf, is_prune, reply_in}
use Rattle.hm_calls.specs.Commands.{reserves_for}
use Rattle.hm_calls.specs.Edits.{all_reserves}
use Rattle.hm_calls.specs.Possible.{MayReply}
use Rattle.hm_calls.specs.Stop.{TellsRefusal}
use Rattle.hm_calls.specs.Writes.{reserves}
use Rattle.hm_calls.specs.declared.answered.Answered.{Answered}
use Rattle.hm_calls.specs.declared.answered.Answered.TheVariants.{Opened, Replied}
use Rattle.hm_cursor.specs.Told.{HasReadingCause}
use Rattle.hm_model.specs.Caused.{Counts}
use Rattle.hm_model.specs.Needs.{floor}
use Rattle.hm_model.specs.Reply.{told_boundary}
use Rattle.hm_model.specs.Volume.{Volume}
use Rattle.hm_model.specs.declared.command.Command.{Command}
use Rattle.hm_model.specs.declared.command.Command.TheVariants.{Fill, Reblock, Truncate, Write}
use Rattle.hm_model.specs.declared.entry.Entry.{Entry}
use Rattle.hm_model.specs.declared.reply.Reply.{Reply}
use Rattle.hm_state.specs.Volume.{HoldsVolume}
use Rattle.hm_step.specs.Next.{Asked, IsDueOver, IsStep}
use Rattle.hm_step.proofs.EarlyLemmas.{no_boundary}
use Rattle.hm_stored.specs.Content.{KeepsContent}
use Rattle.hm_stored.specs.Heap.{Heap, begun_content, extents_in, frame_of, free_of, pages_of, room_of}
use Rattle.hm_stored.specs.Held.{IsKept}
use Rattle.hm_stored.specs.Standing.{Holds}
use Rattle.hm_stored.specs.Turn.{IsClosed, IsDropped, IsKeptOf, IsOpened}
use Rattle.hm_core.specs.Answer.{AnswersOver, IsEntryOf, FitsOpening, led_work}
use Rattle.hm_core.specs.Calls.{IsNextCall, Serves}
use Rattle.hm_core.specs.Counts.{AreLater, with_disk}
use Rattle.hm_core.specs.Open.{opens_job}
use Rattle.hm_core.specs.Replied.{TellsMedia}
use Rattle.hm_core.specs.Served.{IsSync}
use Rattle.hm_core.specs.Told.{ArePages, HoldsTold, TellsFailure, TellsHeld, reply_to, told_beside}
use Rattle.hm_core.proofs.CallLemmas.{failed_call, served_call, served_leads}
use Rattle.hm_core.proofs.CausedLemmas.{answer_goes_on, fault_goes_on, fault_refuses}
use Rattle.hm_core.proofs.CountLemmas.{disk_later}
use Rattle.hm_core.proofs.FaultLemmas.{no_damage_told}
use Rattle.hm_core.proofs.LedgerLemmas.{paid_call}
use Rattle.hm_core.proofs.OpenLemmas.{kept_holds}
use Rattle.hm_core.proofs.RepliedLemmas.{due_held, fault_media, own_media, room_is}
use Rattle.hm_core.proofs.StateLemmas.{prune_is}
use Rattle.hm_core.proofs.TurnLemmas.{dropped_closed, dropped_flush, dropped_held, dropped_live, dropped_paid, dropped_size, free_begun}
use Rattle.hm_core.proofs.TurnLemmas.{kept_closed, kept_flush, kept_live, kept_paid, kept_size, paid_as, paid_later, room_begun, tells_begun}
use Rattle.hm_core.proofs.WordLemmas.{words_are_read}

-- no command may take more of a zone than its reserve
at_zone : (P : ℕ → Type 0) (one zone : ℕ) → P one → (nat_eq zone one ≡ false → P zone) → P zone
at_zone P one zone here other = by (nat_eq zone one) refl where
  by : (t : Bool) → nat_eq zone one ≡ t → P zone
  by true is = subst P (sym (eqb-true zone one is)) here
  by false is = other is

all_most : (zone : ℕ) → all_reserves zone ≤ reserve_of zone
all_most zone =
    at_zone (λ z. all_reserves z ≤ reserve_of z) 8 zone (omega arith) (λ p.
    at_zone (λ z. all_reserves z ≤ reserve_of z) 9 zone (omega arith) (λ q.
    at_zone (λ z. all_reserves z ≤ reserve_of z) 10 zone (omega arith) (λ r.
    at_zone (λ z. all_reserves z ≤ reserve_of z) 11 zone (omega arith) (λ s.
    none (nat_eq zone 8) (nat_eq zone 9) (nat_eq zone 10) (nat_eq zone 11) p q r s)))) where
      none : (a b c d : Bool) → a ≡ false → b ≡ false → c ≡ false → d ≡ false
          → cond a 1048576 0 + (cond b 131072 0 + (cond c 131072 0 + cond d 131072 0)) ≤ cond a 1048576 131072
      none a b c d p q r s = rw (p, q, r, s) (omega arith)

names_most : (zone : ℕ) → reserves zone ≤ reserve_of zone
names_most zone =
    at_zone (λ z. reserves z ≤ reserve_of z) 8 zone (omega arith) (λ p.
    at_zone (λ z. reserves z ≤ reserve_of z) 9 zone (omega arith) (λ q.
    none (nat_eq zone 8) (nat_eq zone 9) p q)) where
      none : (a b : Bool) → a ≡ false → b ≡ false → cond a 1048576 0 + cond b 131072 0 ≤ cond a 1048576 131072
      none a b p q = rw (p, q) (omega arith)

reserves_most : (command : Command) (zone : ℕ) → reserves_for command zone ≤ reserve_of zone
reserves_most (Write path offset bytes) zone = all_most zone
reserves_most (Fill path offset count byte) zone = all_most zone
reserves_most (Truncate path size) zone = all_most zone
reserves_most other zone = names_most zone

-- a cause in a part of a call over which a count was the same at both ends
pub caused_over : {T : Type 0} (es : Option (List Element)) (xs : Option (List Extent)) (n n' m m' : ℕ) (result : Result T Fault) → n ≡ m → m' ≡ n'
    → HasReadingCause es xs n n' result → HasReadingCause es xs m m' result
caused_over es xs n n' m m' result begin end cause =
    subst (λ (k : ℕ). HasReadingCause es xs k m' result) begin (subst (λ (k : ℕ). HasReadingCause es xs n k result) (sym end) cause)

-- a fault is told without a boundary
pub fault_silent : (fault : Fault) → told_boundary (reply_to fault) ≡ None
fault_silent (device before after) = refl
fault_silent (damage at kind) = refl
fault_silent no_memory = refl

-- so no other one than any
pub none_told : (boundary : ℕ) (command : Command) (reply : Reply) → told_boundary reply ≡ None
    → IfSome (told_boundary reply) (λ id. IsSync command × (id.0 ≡ boundary))
none_told boundary command reply silent = subst (λ (o : Option Id). IfSome o (λ id. IsSync command × (id.0 ≡ boundary))) (sym silent) tt

-- of what a store answers, prunes alone open anything
opens_prune : (command : Command) → IsAnswerable command → IsTrue (opens_job command) → IsTrue (is_prune command)
opens_prune (Reblock fill) answers opens = absurd answers
opens_prune other answers opens = opens

form_of : (command : Command) → IsAnswerable command → (answered : Answered) → IsFormOf command answered
    → FitsOpening command (reply_in answered) (led_work answered)
form_of command answers (Replied reply) form = λ opens. form (opens_prune command answers opens)
form_of command answers (Opened led) form = (prune_is command form, refl)

-- the store changed, and the call is closed
module _ {S : Type 0} (heap : S → Heap) (root_of : S → ℕ) (h : Heap) (root last : ℕ) (old new : S) (h' : Heap) (root' : ℕ) (command : Command)
    (numbers faults faults' : ℕ) (closed : IsClosed h) (kept : ∥ IsKept h ∥₁) (opens : IsOpened root last h (heap old)) (same : root_of old ≡ root)
    (frame : frame_of (heap new) ≡ frame_of (heap old)) (served : IsAnswerable command) (left : last < GREATEST_ID) (result : Result Answered Fault)
    (cause : HasReadingCause (told_elements true (pages_of (heap old)) (root_of old)) (extents_in (heap old)) faults faults' result) where
  abbrev elements : S → Option (List Element)
  elements s = told_elements true (pages_of (heap s)) (root_of s)

  abbrev extents : S → Option (List Extent)
  extents s = extents_in (heap s)

  abbrev free : S → ℕ
  free s = free_of (heap s)

  abbrev room : S → ℕ → ℕ
  room s = room_of (heap s)

  counted : faults ≤ faults'
  counted = cause.counted.never_falls

  later : (counts : Counts) → AreLater (with_disk counts faults) (with_disk counts faults')
  later counts = disk_later counts faults faults' counted

  tells : (volume : Volume) → HoldsVolume h root last volume → TellsHeld (elements old) (extents old) h root
  tells = tells_begun h (heap old) root (root_of old) last closed kept opens same

  free_old : free old ≡ free_of h
  free_old = free_begun h (heap old) root (root_of old) last closed kept opens same

  room_old : (zone : ℕ) → room old zone ≡ room_of h zone
  room_old = room_begun h (heap old) root (root_of old) last closed kept opens same

  rooms_old : room old ≡ room_of h
  rooms_old = room_is h (heap old) (ap (λ (x : Heap). x.whole) opens.rest) (ap (λ (x : Heap). x.append) opens.rest) opens.pages.current

  -- the entry of the call is the next one
  is_next : (reply : Reply) (entry : Entry) → IsEntryOf last command reply entry → IsNextCall last entry
  is_next reply entry is = record { served = subst IsAnswerable (sym is.call_is) served; left = left; own = is.own }

  -- it was served, and kept
  module _ (whole : (heap new).whole ≡ true) (keeps : IsKeptOf (heap new) h') (content : KeepsContent (heap new) h') (root_is : root' ≡ root_of new)
      (pages : ArePages h') (tree : HoldsTree (pages_of (heap new)) (root_of new)) (answered : Answered) where
    abbrev asked : Command → Asked
    asked of = record { command = of; last = last; beside = told_beside numbers }

    module _ (step : IsStep elements extents free (asked command) old new answered) (charges : Charges room free (reserves_for command) old new)
        (may : MayReply last None command (reply_in answered)) (due : IsDueOver elements extents room free (asked command) old answered)
        (form : IsFormOf command answered) where
      -- the store served the call of an entry
      serves : (entry : Entry) → IsEntryOf last command (reply_in answered) entry → (least : ℕ) → least ≤ free_of h
          → TellsHeld (elements old) (extents old) h root
          → Serves elements extents free least numbers last entry answered old new h h' root root'
      serves entry is least enough told = record {
        told = told;
        found = omega (arith, enough, free_old);
        reply_is = is.reply_is;
        step = subst (λ (c : Command). IsStep elements extents free (asked c) old new answered) (sym is.call_is) step;
        holds = subst (λ (n : ℕ). HoldsTold (elements new) (extents new) h' n) (sym root_is)
            (kept_holds (heap new) h' (root_of new) pages content tree);
        size = kept_size h (heap old) (heap new) h' root last closed kept opens frame whole keeps;
      }

      abbrev own_entry : Entry
      own_entry = record { id = record { 0 = last + 1 }; lane = 0; line = 0; call = command; reply = reply_in answered }

      own_is : IsEntryOf last command (reply_in answered) own_entry
      own_is = record { call_is = refl; reply_is = refl; own = refl }

      pub kept_answers : (boundary : ℕ) → AnswersOver numbers boundary faults faults' last command h h' root root' (reply_in answered) (led_work answered)
      kept_answers boundary = record {
        form = form_of command served answered form;
        closed = kept_closed h (heap old) (heap new) h' root last closed kept opens frame whole keeps;
        counted = counted;
        told = none_told boundary command (reply_in answered)
            (no_boundary last None command (words_are_read command).0 (reply_in answered) served (words_are_read command).1 may);
        replied = record {
          media = own_media faults faults' (reply_in answered) may.own;
          due = λ answers volume held call shown asks.
              inl (due_held last command (reply_in answered) numbers (elements old) (extents old) (room old) (free old) h root held.elements.0 rooms_old
              free_old
              closed held.elements.1 (tells volume held) due call shown asks);
          space = λ is. absurd (subst IsAnswerable is served);
          reblock = λ fill is. absurd (subst IsAnswerable is served);
        };
        caused = λ first start counts history running entry is told before so_far.
            answer_goes_on first start (with_disk counts faults) (with_disk counts faults') last running history so_far (later counts) entry left is.own
            (subst IsAnswerable (sym is.call_is) served) answered (subst (λ (c : Command). IsFormOf c answered) (sym is.call_is) form) is.reply_is
            (subst (λ (c : Command). MayReply last None c entry.reply) (sym is.call_is)
            (subst (λ (r : Reply). MayReply last None command r) (sym is.reply_is) may));
        flush = kept_flush h (heap old) (heap new) h' root last closed kept opens frame whole keeps;
        live = kept_live h (heap old) (heap new) h' root last closed kept opens frame whole keeps;
        paid = λ first calls paid.
            kept_paid h (heap old) (heap new) h' root last closed kept opens frame whole keeps first (calls + 1)
            (paid_call room free first calls (reserves_for command) old new (reserves_most command) charges
            (paid_as h (heap old) first calls free_old room_old paid));
        legal = λ first start counts history running opening foreigners events entry least is told before used so_far.
            served_call first start (with_disk counts faults) (with_disk counts faults') history h root last running opening foreigners events so_far
            (later counts) entry
            (is_next (reply_in answered) entry is) elements extents free numbers used answered old new h' root'
            (serves entry is (floor first history) least (tells _ so_far.held.holds))
            (subst (λ (c : Command). IsFormOf c answered) (sym is.call_is) form);
        leads = λ first start counts history running opening foreigners events least used so_far.
            served_leads first start (with_disk counts faults) (with_disk counts faults') history h root last running opening foreigners events so_far
            (later counts) own_entry (is_next (reply_in answered) own_entry own_is) elements extents free numbers used answered old new h' root'
            (serves own_entry own_is (floor first history) least (tells _ so_far.held.holds)) form;
      }

  -- it failed, and was dropped
  module _ (reply : Reply) (drops : IsDropped (heap new) h') (root_is : root' ≡ (heap new).roots.current)
      (held : IfSome (begun_content (heap new)) (Holds h' root')) (fails : (volume : Volume) → HoldsVolume h root last volume → TellsFailure faults faults'
      reply) (fault : Fault) (tells_fault : reply ≡ reply_to fault)
      (fault_is : IsCaused faults faults' fault) where
    pub dropped_answers : (boundary : ℕ) → AnswersOver numbers boundary faults faults' last command h h' root root' reply None
    dropped_answers boundary = record {
      form = λ opens. subst TellsRefusal (sym tells_fault) (fault_refuses fault);
      closed = dropped_closed h (heap old) (heap new) h' root last closed kept opens frame drops;
      counted = counted;
      told = none_told boundary command reply (ap told_boundary tells_fault ∙ fault_silent fault);
      replied = record {
        media = subst (TellsMedia faults faults') (sym tells_fault) (fault_media faults faults' fault fault_is);
        due = λ answers volume held call shown asks. inr (fails volume held);
        space = λ is volume held. inr (fails volume held);
        reblock = λ fill is volume held. inr (fails volume held);
      };
      caused = λ first start counts history running entry is told before so_far.
          fault_goes_on first start (with_disk counts faults) (with_disk counts faults') last running history so_far (later counts) entry left is.own
          (subst IsAnswerable (sym is.call_is) served) fault
          (is.reply_is ∙ tells_fault) fault_is;
      flush = dropped_flush h (heap old) (heap new) h' root last closed kept opens frame drops;
      live = dropped_live h (heap old) (heap new) h' root last closed kept opens frame drops;
      paid = λ first calls paid.
          paid_later first (free_of h') calls (room_of h') (dropped_paid h (heap old) (heap new) h' root last closed kept opens frame drops first calls paid);
      legal = λ first start counts history running opening foreigners events entry least is told before used so_far.
          failed_call first start (with_disk counts faults) (with_disk counts faults') history h root last running opening foreigners events so_far
          (later counts) entry
          (is_next reply entry is) h' root' (record {
            told = subst (TellsFailure faults faults') (sym is.reply_is) (fails _ so_far.held.holds);
            holds = dropped_held h (heap old) (heap new) h' root last closed kept opens frame drops root' root_is held _ so_far.held.holds;
            size = dropped_size h (heap old) (heap new) h' root last closed kept opens frame drops;
          });
      leads = λ first start counts history running opening foreigners events least used so_far volume holds. tt;
    }

  -- such a failure tells no damage
  pub fault_told : (fault : Fault) → result ≡ Err fault → (volume : Volume) → HoldsVolume h root last volume → TellsFailure faults faults' (reply_to fault)
  fault_told fault is volume holds =
      no_damage_told faults faults' (elements old) (extents old) h root last volume (Err fault) holds (tells volume holds)
      (subst (HasReadingCause (elements old) (extents old) faults faults') is cause)
