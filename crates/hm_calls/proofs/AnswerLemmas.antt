-- The reply of a call, by what its command does.
use Rattle.std.proofs.Common.{◌≡◌, ℕ, List, [], ◌∷◌, Bool, true, false, Option, Some, None, Ok, Err, refl, sym, ap, subst, ◌∙◌}
use Rattle.std.specs.Prelude.{◌&&◌, IfSome, IsTrue, IsFalse, if◌then◌else◌}
use Rattle.std.specs.Option.{option_map_or}
use Rattle.std.proofs.lemmas.Bool.{false≢true}
use Rattle.hm_types.specs.Elements.{Key}
use Rattle.hm_types.specs.declared.id.Id.{Id}
use Rattle.hm_key.specs.Balance.{Balanced, content_of}
use Rattle.hm_key.specs.Extents.{Extent}
use Rattle.hm_key.specs.Stores.{Same}
use Rattle.hm_key.specs.declared.element.Element.{Element}
use Rattle.hm_cursor.specs.Told.{Lists, fulls}
use Rattle.hm_cursor.proofs.CallLemmas.{known_both, writes_none, writes_so}
use Rattle.hm_model.specs.Call.{Call}
use Rattle.hm_model.specs.Due.{Check, accepted, checks, first_refusal, is_tree_call, refuse_if}
use Rattle.hm_model.specs.Reply.{is_refusal}
use Rattle.hm_model.specs.declared.command.Command.{Command}
use Rattle.hm_model.specs.declared.reply.Reply.{Reply}
use Rattle.hm_model.specs.declared.reply.Reply.TheVariants.{Done, NoSpace}
use Rattle.hm_model.proofs.CheckLemmas.{refusal_refuses}
use Rattle.hm_model.proofs.PlainCheckLemmas.{and_false, first_none, first_some}
use Rattle.hm_calls.specs.Call.{IsCall, OnCalls}
use Rattle.hm_calls.specs.Changes.{Changes}
use Rattle.hm_calls.specs.Due.{due_over, refusal_over, space_left}
use Rattle.hm_calls.specs.Replies.{Asks, IsAnswered, IsRefusalOf, Replies, is_change}
use Rattle.hm_calls.specs.declared.stop.Stop.TheVariants.{Refused}

-- ---- the reply that is due

due_accepted : (call : Call) (room : ℕ → ℕ) (free : ℕ) (reply : Reply) → refusal_over call room free ≡ None → accepted call ≡ reply
    → reply ≡ due_over call room free
due_accepted call room free reply none is =
    subst (λ (check : Check). reply ≡ option_map_or (λ r. r) check (accepted call)) (sym none) (sym is)

due_refused : (call : Call) (room : ℕ → ℕ) (free : ℕ) (reply : Reply) → refusal_over call room free ≡ Some reply → reply ≡ due_over call room free
due_refused call room free reply some = subst (λ (check : Check). reply ≡ option_map_or (λ r. r) check (accepted call)) (sym some) refl

-- a refusal is one of the model's, or tells want of space
space_refuses : (test : Bool) (free needed : ℕ) (reply : Reply) → first_refusal (refuse_if test (NoSpace free needed) ∷ []) ≡ Some reply
    → is_refusal reply ≡ true
space_refuses true free needed reply is =
    let same : NoSpace free needed ≡ reply = cc in
    subst (λ (r : Reply). is_refusal r ≡ true) same refl
space_refuses false free needed reply is = absurd (cc)

pub over_refuses : (call : Call) (room : ℕ → ℕ) (free : ℕ) (reply : Reply) → refusal_over call room free ≡ Some reply → is_refusal reply ≡ true
over_refuses call room free reply is = by_first (first_refusal (checks call)) refl where
  by_first : (first : Check) → first_refusal (checks call) ≡ first → is_refusal reply ≡ true
  by_first (Some other) some =
      let same : Some other ≡ Some reply = sym (first_some (checks call) (space_left call room free ∷ []) other some) ∙ is in
      let r : other ≡ reply = cc in
      refusal_refuses call reply (some ∙ ap Some r)
  by_first None none =
      let same : first_refusal (space_left call room free ∷ []) ≡ Some reply =
      sym (first_none (checks call) (space_left call room free ∷ []) none) ∙ is in
      space_refuses _ _ _ reply same

-- what holds of each call of a command holds of each one beside an opening
calls_beside : (hash : List ℕ → ℕ) (id : ℕ) (command : Command) (busy : Option Id) (es : Option (List Element)) (xs : Option (List Extent))
    (P Q : Call → Type 0) → ((call : Call) → P call → Q call) → OnCalls hash id es xs (λ _ call. call.command ≡ command → P call)
    → OnCalls hash id es xs (λ _ call. Asks command busy call → Q call)
calls_beside hash id command busy None xs P Q step told = tt
calls_beside hash id command busy (Some es) None P Q step told = tt
calls_beside hash id command busy (Some es) (Some xs) P Q step told = λ balanced call is asks. step call (told balanced call is asks.command_is)

not_true : (b : Bool) → b ≡ false → IsTrue b → ⊥
not_true b is holds = false≢true (sym is ∙ holds)

not_false : (b : Bool) → b ≡ true → IsFalse b → ⊥
not_false b is fails = false≢true (sym fails ∙ is)

changes_when : (command : Command) (reply : Reply) (changes : Bool) → is_tree_call command ≡ changes → is_change command reply
    ≡ (changes && (if is_refusal reply then false else true))
changes_when command reply changes is = ap (λ (b : Bool). b && (if is_refusal reply then false else true)) is

refusal_stays : (reply : Reply) → is_refusal reply ≡ true → (if is_refusal reply then false else true) ≡ false
refusal_stays reply is = subst (λ (b : Bool). (if b then false else true) ≡ false) (sym is) refl

-- the calls that find this content, if there are any, are refused
abbrev AllRefuse : (List ℕ → ℕ) → ℕ → Command → (ℕ → ℕ) → ℕ → Reply → Lists → Type 0
AllRefuse hash id command room free reply was =
    (call : Call) → IsCall hash id (fulls was) call → call.command ≡ command → refusal_over call room free ≡ Some reply

module _ {S : Type 0} (elements_of : S → Option (List Element)) (mark_of : S → Key → ℕ) (extents_of : S → Option (List Extent)) (room_of : S → ℕ → ℕ)
    (free_of : S → ℕ) (hash : List ℕ → ℕ) (id : ℕ) (command : Command) (busy : Option Id) (old new : S) (reply : Reply) where
  abbrev Ends : Type 0
  Ends = Replies elements_of mark_of extents_of room_of free_of hash id (Asks command busy) command old new reply

  abbrev Stays : Type 0
  Stays = Same elements_of mark_of extents_of room_of free_of old new

  -- an accepted call
  pub replies_accepted : IsAnswered elements_of mark_of extents_of room_of free_of hash id command old new (Ok reply)
      → (IsTrue (is_tree_call command) → reply ≡ Done) → Ends
  replies_accepted is done = by_kind (is_tree_call command) refl where
    due_is : (call : Call) → (refusal_over call (room_of old) (free_of old) ≡ None) × (accepted call ≡ reply)
        → reply ≡ due_over call (room_of old) (free_of old)
    due_is call both = due_accepted call (room_of old) (free_of old) reply both.0 both.1

    by_kind : (kind : Bool) → is_tree_call command ≡ kind → Ends
    by_kind true tree =
        let holds : IsTrue (is_tree_call command) = tree in
        let changed : is_change command reply ≡ true =
        changes_when command reply true tree
        ∙ subst (λ (r : Reply). (if is_refusal r then false else true) ≡ true) (sym (done holds)) refl in
        let acts = is.acts holds in
        record {
          due = calls_beside hash id command busy (elements_of old) (extents_of old)
              (λ call. (refusal_over call (room_of old) (free_of old) ≡ None) × (accepted call ≡ reply))
              (λ call. reply ≡ due_over call (room_of old) (free_of old)) due_is acts.0;
          stays = λ no. absurd (not_false (is_change command reply) changed no);
          changes = λ _. writes_so elements_of extents_of (Changes hash id (λ call. call.command ≡ command)) (Changes hash id (Asks command busy))
              (λ _. Unit {0}) old new (anything (content_of (elements_of old) (extents_of old)))
              (λ was list known changes call called asks. changes call called asks.command_is) acts.1;
        } where
          anything : (o : Option Lists) → IfSome o (λ _. Unit {0})
          anything None = tt
          anything (Some lists) = tt
    by_kind false look =
        let looks = is.looks (look) in
        record {
          due = calls_beside hash id command busy (elements_of old) (extents_of old)
              (λ call. (refusal_over call (room_of old) (free_of old) ≡ None) × (accepted call ≡ reply))
              (λ call. reply ≡ due_over call (room_of old) (free_of old)) due_is looks.0;
          stays = λ _. looks.1;
          changes = λ holds. absurd (not_true (is_change command reply) (changes_when command reply false look) holds);
        }

  -- a call that was refused
  pub replies_refused : Balanced (elements_of old) (extents_of old)
      → IsAnswered elements_of mark_of extents_of room_of free_of hash id command old new (Err (Refused reply)) → Ends
  replies_refused balanced is = by_kind (is_tree_call command) refl where
    both : (kind : Bool) → is_tree_call command ≡ kind
        → IsRefusalOf hash id (λ call. call.command ≡ command) (elements_of old) (extents_of old) (room_of old) (free_of old) reply × Stays
    both true tree = is.acts (tree)
    both false look = is.looks (look)

    by_kind : (kind : Bool) → is_tree_call command ≡ kind → Ends
    by_kind kind is_kind =
        let told = both kind is_kind in
        record {
          due = calls_beside hash id command busy (elements_of old) (extents_of old)
              (λ call. refusal_over call (room_of old) (free_of old) ≡ Some reply) (λ call. reply ≡ due_over call (room_of old) (free_of old))
              (λ call some. due_refused call (room_of old) (free_of old) reply some) told.0;
          stays = λ _. told.1;
          changes = λ holds. writes_none elements_of extents_of (Changes hash id (Asks command busy)) (AllRefuse hash id command (room_of old)
              (free_of old) reply)
              old new told.1.elements told.1.extents
              (known_both (content_of (elements_of old) (extents_of old)) (λ lists refuses balanced. refuses balanced) told.0 balanced)
              (λ was known call called asks.
              let refuses : is_refusal reply ≡ true =
              over_refuses call (room_of old) (free_of old) reply (known call called asks.command_is) in
              absurd (not_true (is_change command reply)
              (ap (λ (b : Bool). is_tree_call command && b) (refusal_stays reply refuses) ∙ and_false (is_tree_call command)) holds));
        }

  -- it left the store as it was
  pub refused_same : IsAnswered elements_of mark_of extents_of room_of free_of hash id command old new (Err (Refused reply)) → Stays
  refused_same is = by_kind (is_tree_call command) refl where
    by_kind : (kind : Bool) → is_tree_call command ≡ kind → Stays
    by_kind true tree = (is.acts tree).1
    by_kind false look = (is.looks look).1
