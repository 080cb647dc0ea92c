-- The reply that a call is due over a space is one that its history allows.
use Rattle.std.proofs.Common.{◌≡◌, ℕ, ◌-◌, ◌<◌, ◌≤◌, Bool, true, false, List, [], ◌∷◌, ◌++◌, length, refl, sym, ap, subst, ◌∙◌, inl, inr, arith}
use Rattle.std.specs.Prelude.{None, Some}
use Rattle.std.specs.Bool.{nat_lt}
use Rattle.std.specs.Option.{option_map_or}
use Rattle.std.proofs.lemmas.Bool.Decides.{nat_tests}
use Rattle.std.proofs.lemmas.List.Sums.{count_by-le-length}
use Rattle.hm_model.specs.Call.{Call}
use Rattle.hm_model.specs.Due.{Check, accepted, checks, first_refusal, refusal, refuse_if}
use Rattle.hm_model.specs.Legal.{IsDue, IsException, IsReply, IsSpace, IsSynced}
use Rattle.hm_model.specs.Needs.{MayLack, held_of, row_over, zones_of}
use Rattle.hm_model.specs.Reply.{is_refusal}
use Rattle.hm_model.specs.declared.command.Command.{Command}
use Rattle.hm_model.specs.declared.command.Command.TheVariants.{Df, Progress, Sync, Synctid}
use Rattle.hm_model.specs.declared.reply.Reply.{Reply}
use Rattle.hm_model.specs.declared.reply.Reply.TheVariants.{NoSpace}
use Rattle.hm_model.proofs.CheckLemmas.{refusal_refuses}
use Rattle.hm_records.proofs.MemberLemmas.{has_head}
use Rattle.hm_calls.specs.Due.{due_over, lacking, refusal_over, space_left}
use Rattle.hm_calls.specs.Answered.{IsAnswerable}

-- the first of some checks that fails is the first of more
pub first_front : (xs ys : List Check) (r : Reply) → first_refusal xs ≡ Some r → first_refusal (xs ++ ys) ≡ Some r
first_front [] ys r is = absurd (cc)
first_front (None ∷ xs) ys r is = first_front xs ys r is
first_front (Some reply ∷ xs) ys r is = is

passed_first : (xs : List Check) (space : Check) → first_refusal xs ≡ None → first_refusal (xs ++ space ∷ []) ≡ first_refusal (space ∷ [])
passed_first [] space none = refl
passed_first (None ∷ xs) space none = passed_first xs space none
passed_first (Some reply ∷ xs) space none = absurd (cc)

module _ (call : Call) (room : ℕ → ℕ) (free : ℕ) where
  abbrev zones : List ℕ
  zones = zones_of call

  abbrev held : ℕ
  held = held_of call.command

  abbrev needs : ℕ
  needs = lacking zones room

  -- the three ways in which a reply is due
  pub data Way : Type 0 where
    refused : (r : Reply) → refusal call ≡ Some r → due_over call room free ≡ r → Way
    lacks : refusal call ≡ None → free - held < needs → due_over call room free ≡ NoSpace free needs → Way
    serves : refusal call ≡ None → due_over call room free ≡ accepted call → Way

  pub way : Way
  way = by (refusal call) refl where
    by_space : (test : Bool) → nat_lt (free - held) needs ≡ test → refusal call ≡ None → Way
    by_space true less none =
        let over : refusal_over call room free ≡ Some (NoSpace free needs) =
        passed_first (checks call) (space_left call room free) none
        ∙ ap (λ (t : Bool). first_refusal (refuse_if t (NoSpace free needs) ∷ [])) less in
        lacks none (grind (arith, nat_tests, less)) (ap (λ (o : Check). option_map_or (λ r. r) o (accepted call)) over)
    by_space false enough none =
        let over : refusal_over call room free ≡ None =
        passed_first (checks call) (space_left call room free) none
        ∙ ap (λ (t : Bool). first_refusal (refuse_if t (NoSpace free needs) ∷ [])) enough in
        serves none (ap (λ (o : Check). option_map_or (λ r. r) o (accepted call)) over)

    by : (found : Check) → refusal call ≡ found → Way
    by (Some r) is =
        let over : refusal_over call room free ≡ Some r = first_front (checks call) (space_left call room free ∷ []) r is in
        refused r is (ap (λ (o : Check). option_map_or (λ x. x) o (accepted call)) over)
    by None none = by_space (nat_lt (free - held) needs) refl none

  -- the space that lacks is that of the call's zones
  may_lack : (zs : List ℕ) → free - held < lacking zs room → MayLack (row_over zs held) free (lacking zs room)
  may_lack [] less = absurd (omega (arith, less))
  may_lack (zone ∷ zs) less =
      let few : lacking (zone ∷ zs) room ≤ length (zone ∷ zs) = count_by-le-length _ (zone ∷ zs) in
      ((length (zone ∷ zs), held), has_head _ [], record { some = omega (arith, less); most = few; lack = less })

  -- a call that is answered is accepted with the reply that is due
  accepted_served : (least : ℕ) (command : Command) (reply : Reply) → IsAnswerable command → reply ≡ accepted call
      → (elim command as (λ c. Type 0) [
        | Sync ↦ IsSynced reply
        | Synctid ↦ IsSynced reply
        | Df ↦ IsSpace least call.volume reply
        | Progress ↦ ⊥
        | other ↦ reply ≡ accepted call
      ])
  accepted_served least Sync reply answers is = absurd answers
  accepted_served least Synctid reply answers is = absurd answers
  accepted_served least Df reply answers is = absurd answers
  accepted_served least Progress reply answers is = absurd answers
  accepted_served least other reply answers is = is

  pub reply_is_allowed : (least : ℕ) (reply : Reply) → IsAnswerable call.command → least ≤ free → reply ≡ due_over call room free
      → IsReply least call reply
  reply_is_allowed least reply answers enough due = elim way [
    | refused r is same ↦ inl (subst (λ (o : Check). IsDue least call o reply) (sym is) (due ∙ same))
    | lacks none less same ↦ inr (subst (IsException least call) (sym (due ∙ same)) (none, may_lack zones less, enough))
    | serves none same ↦ inl (subst (λ (o : Check). IsDue least call o reply) (sym none) (accepted_served least call.command reply answers (due ∙ same)))
  ]

  -- what is accepted, no check refuses
  pub none_refuses : (reply : Reply) → reply ≡ due_over call room free → is_refusal reply ≡ false → refusal call ≡ None
  none_refuses reply due accepts = elim way [
    | refused r is same ↦ absurd (let no_way : is_refusal reply ≡ true = ap is_refusal (due ∙ same) ∙ refusal_refuses call r is in cc)
    | lacks none less same ↦ none
    | serves none same ↦ none
  ]
