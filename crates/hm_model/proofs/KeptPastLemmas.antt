-- The trees that a slave keeps over the endings of calls.
use Rattle.std.proofs.Common.{◌≡◌, ℕ, ◌+◌, ◌≤◌, min, true, false, List, [], ◌∷◌, refl, ◌∙◌, ap, sym, inl, inr, arith}
use Rattle.std.specs.Prelude.{Bool, Option, Some, None, if◌then◌else◌}
use Rattle.std.specs.Bool.{nat_le}
use Rattle.std.specs.Option.{option_map_or}
use Rattle.std.proofs.lemmas.Bool.Decides.{nat_tests}
use Rattle.hm_types.specs.declared.id.Id.{Id}
use Rattle.hm_types.specs.declared.text.Text.{Text}
use Rattle.hm_retain.proofs.SetLemmas.{less_or_not}
use Rattle.hm_model.specs.declared.command.Command.{Command}
use Rattle.hm_model.specs.declared.command.Command.TheVariants.{End, MirrorCopy, MirrorWrite, PfsUpgrade}
use Rattle.hm_model.specs.declared.reply.Reply.{Reply}
use Rattle.hm_model.specs.declared.reply.Reply.TheVariants.{Cut, Finished}
use Rattle.hm_model.specs.After.{Event, OpenCall, State, accepted_effect, after_event, after_pass, call_of, effect, end_effect, end_of_pass}
use Rattle.hm_model.specs.After.{end_of_upgrade, end_of_write, ended, given_in, no_hash, nothing_merged, of_pfs, opened_with, upgraded, versions_to}
use Rattle.hm_model.specs.After.{with_origin, end_effect_of}
use Rattle.hm_model.specs.Caused.{is_ending}
use Rattle.hm_model.specs.Laws.{EndsPass, EndsUpgrade, merges}
use Rattle.hm_model.specs.Legal.{MayFollow, Setting, begin_of, state_after}
use Rattle.hm_model.specs.Reply.{is_refusal}
use Rattle.hm_types.specs.Tree.{FileTree, no_tree}
use Rattle.hm_model.specs.Volume.{PseudoFileSystem, Volume, as_of, at, system_of}
use Rattle.hm_model.proofs.EffectLemmas.{accepted_grows}
use Rattle.hm_model.proofs.GrowthLemmas.{KeepsNumber, at-grown, at-versions, found-changed, found-other, same_or_not, versions_in}
use Rattle.hm_model.proofs.KnownLemmas.{opening_of}
use Rattle.hm_model.proofs.PassEndLemmas.{begin_legal, ending_is}
use Rattle.hm_model.proofs.PassLemmas.{as_of-to, passed-before}
use Rattle.hm_model.proofs.RefusalLemmas.{not_ending}
use Rattle.hm_model.proofs.TwinEndLemmas.{end_by, pass_by, upgrade_by}

-- the tree as of an id of a PFS that is found, or of none
abbrev pub tree_in : ℕ → Option PseudoFileSystem → FileTree
tree_in id found = as_of id no_tree (versions_in found)

-- a change of a PFS that shows the same as of an id
pub at-changed : (volume : Volume) (pfs other id : ℕ) (f : PseudoFileSystem → PseudoFileSystem) → KeepsNumber f →
    ((s : PseudoFileSystem) → other ≡ pfs → system_of volume pfs ≡ Some s → as_of id no_tree (f s).versions ≡ as_of id no_tree s.versions) →
    at (of_pfs volume other f) pfs id ≡ at volume pfs id
at-changed volume pfs other id f keeps same = at-versions (of_pfs volume other f) pfs id ∙ (found ∙ sym (at-versions volume pfs id))
  where
    by : other ≡ pfs → (s : Option PseudoFileSystem) → system_of volume pfs ≡ s →
        tree_in id (option_map_or (λ (x : PseudoFileSystem). Some (f x)) s None) ≡ tree_in id s
    by is None found = refl
    by is (Some s) found = same s is found

    found : tree_in id (system_of (of_pfs volume other f) pfs) ≡ tree_in id (system_of volume pfs)
    found = elim (same_or_not other pfs) [
      | inl is ↦
          ap (λ (n : ℕ). tree_in id (system_of (of_pfs volume n f) pfs)) is
          ∙ (ap (tree_in id) (found-changed pfs f volume.systems keeps) ∙ by is (system_of volume pfs) refl)
      | inr differ ↦ ap (tree_in id) (found-other pfs other f volume.systems keeps differ)
    ]

-- a cut pass does nothing at its end
cut_leaves : (volume : Volume) (o : OpenCall) (items : ℕ) (command : Command) →
    (end_effect_of volume (Cut items) o command) ≡ volume
cut_leaves volume o items (MirrorCopy master slave limit) = refl
cut_leaves volume o items (MirrorWrite path) = refl
cut_leaves volume o items (PfsUpgrade path) = refl
cut_leaves volume o items command = refl

cut_ends : (volume : Volume) (items : ℕ) (found : Option OpenCall) → option_map_or (end_effect volume (Cut items)) found volume ≡ volume
cut_ends volume items None = refl
cut_ends volume items (Some o) = cut_leaves volume o items o.command

-- what an ending does
pub effect-ending : (state : State) (event : Event) (opening : Id) → event.entry.call ≡ End opening →
    effect state event ≡ ended state opening.0 event.entry.reply
effect-ending state event opening is =
    ending_is (λ o. ended state o.0 event.entry.reply) (if is_refusal event.entry.reply then state else accepted_effect state (call_of no_hash state event))
    event.entry.call opening is

pub systems-cut : (state : State) (event : Event) (items : ℕ) → is_ending event.entry.call ≡ true → event.entry.reply ≡ Cut items →
    (after_event state event).volume.systems ≡ state.volume.systems
systems-cut state event items ending reply =
    let named = opening_of event.entry.call ending in
    ap (λ (s : State). s.volume.systems) (effect-ending state event named.0 named.1)
    ∙ (ap (λ (r : Reply). (ended state named.0.0 r).volume.systems) reply
    ∙ ap (λ (v : Volume). v.systems) (cut_ends state.volume items (opened_with named.0.0 state.opened)))

-- at the end of a call a PFS shows what it showed as of an id up to its sync end, where a pass begins there
module _ (state : State) (event : Event) (opening : Id) (o : OpenCall) (slave id : ℕ) (s : PseudoFileSystem)
    (call : event.entry.call ≡ End opening) (found : opened_with opening.0 state.opened ≡ Some o) (of_slave : system_of state.volume slave ≡ Some s)
    (by : id ≤ s.sync_end)
    (begins : (begin end : Id) → EndsPass state event o begin end → begin.0 ≡ begin_of state.volume o) where
  own : (t : PseudoFileSystem) → system_of state.volume slave ≡ Some t → t ≡ s
  own t is = let same : Some t ≡ Some s = sym is ∙ of_slave in cc

  -- where the sync end is the begin id
  begin_copy : (from into : Text) (limit : Option ℕ) → o.command ≡ MirrorCopy from into limit → o.pfs ≡ slave → begin_of state.volume o ≡ s.sync_end
  begin_copy from into limit is same = rw (is, same, of_slave) refl

  begin_write : (into : Text) → o.command ≡ MirrorWrite into → o.pfs ≡ slave → begin_of state.volume o ≡ s.sync_end
  begin_write into is same = rw (is, same, of_slave) refl

  pass : merges o.command ≡ true → (o.pfs ≡ slave → begin_of state.volume o ≡ s.sync_end) →
      at (end_of_pass state.volume o event.entry.reply) slave id ≡ at state.volume slave id
  pass merging first =
      pass_by (λ (v : Volume). at v slave id ≡ at state.volume slave id) state.volume o event.entry.reply refl
      (λ begin end told. at-changed state.volume slave o.pfs id (after_pass (given_in state.volume o) begin.0 end.0) (λ x. refl)
      (λ t same is.
      let ends : EndsPass state event o begin end = record { opening = opening; call = call; reply = told; found = found; pass = merging } in
      let one : s.sync_end ≡ begin.0 = sym (begins begin end ends ∙ first same) in
      passed-before t.versions (given_in state.volume o) begin.0 end.0 id (omega (arith, by, one))))

  write : (into : Text) → o.command ≡ MirrorWrite into → at (end_of_write state.volume o event.entry.reply) slave id ≡ at state.volume slave id
  write into is = each (nothing_merged event.entry.reply)
    where
      each : (test : Bool) →
          at (if test then of_pfs state.volume o.pfs (with_origin o.origin) else end_of_pass state.volume o event.entry.reply) slave id
          ≡ at state.volume slave id
      each true = at-changed state.volume slave o.pfs id (with_origin o.origin) (λ x. refl) (λ t same found_t. refl)
      each false = pass (ap merges is) (begin_write into is)

  upgrade : at (end_of_upgrade state.volume o event.entry.reply) slave id ≡ at state.volume slave id
  upgrade = upgrade_by (λ (v : Volume). at v slave id ≡ at state.volume slave id) state.volume o event.entry.reply refl
      (at-changed state.volume slave o.pfs id upgraded (λ x. refl) (λ t same is.
      as_of-to id t.sync_end no_tree t.versions
      (let one : s.sync_end ≡ t.sync_end = ap (λ (x : PseudoFileSystem). x.sync_end) (sym (own t is)) in omega (arith, by, one))))

  pub at-end_call : at (end_effect state.volume event.entry.reply o) slave id ≡ at state.volume slave id
  at-end_call = end_by (λ (v : Volume). at v slave id ≡ at state.volume slave id) state.volume event.entry.reply o o.command refl refl
      (λ from into limit is. pass (ap merges is) (begin_copy from into limit is)) write (λ path is. upgrade)

-- so at an ending
at-ending : (run : Setting) (before : List Event) (event : Event) (opening : Id) (slave id : ℕ) (s : PseudoFileSystem) → MayFollow run before event →
    event.entry.call ≡ End opening → system_of (state_after run before).volume slave ≡ Some s → id ≤ s.sync_end →
    at (ended (state_after run before) opening.0 event.entry.reply).volume slave id ≡ at (state_after run before).volume slave id
at-ending run before event opening slave id s follows call found up = each (opened_with opening.0 state.opened) refl
  where
    state : State
    state = state_after run before

    each : (o : Option OpenCall) → opened_with opening.0 state.opened ≡ o →
        at (option_map_or (end_effect state.volume event.entry.reply) o state.volume) slave id ≡ at state.volume slave id
    each None none = refl
    each (Some o) some =
        at-end_call state event opening o slave id s call some found up (λ begin end ends. begin_legal run before event o begin end follows ends)

-- and at every event
pub at-kept : (run : Setting) (before : List Event) (event : Event) (slave id : ℕ) (s : PseudoFileSystem) → MayFollow run before event →
    system_of (state_after run before).volume slave ≡ Some s → id ≤ s.sync_end → s.sync_end ≤ (state_after run before).volume.last →
    at (after_event (state_after run before) event).volume slave id ≡ at (state_after run before).volume slave id
at-kept run before event slave id s follows found up drawn = each (is_ending event.entry.call) refl
  where
    state : State
    state = state_after run before

    each : (test : Bool) → is_ending event.entry.call ≡ test → at (effect state event).volume slave id ≡ at state.volume slave id
    each true is =
        let named = opening_of event.entry.call is in
        ap (λ (x : State). at x.volume slave id) (effect-ending state event named.0 named.1)
        ∙ at-ending run before event named.0 slave id s follows named.1 found up
    each false is =
        ap (λ (x : State). at x.volume slave id)
        (not_ending (λ o. ended state o.0 event.entry.reply)
        (if is_refusal event.entry.reply then state else accepted_effect state (call_of no_hash state event)) event.entry.call is)
        ∙ call (is_refusal event.entry.reply)
      where
        call : (test : Bool) → at (if test then state else accepted_effect state (call_of no_hash state event)).volume slave id ≡ at state.volume slave id
        call true = refl
        call false =
            at-grown state.volume (accepted_effect state (call_of no_hash state event)).volume slave id (state.volume.last + 1) (omega (arith, up, drawn))
            (accepted_grows state (call_of no_hash state event) slave refl)

-- the end of an upgrade
upgrade_is : (volume : Volume) (o : OpenCall) (path : Text) → o.command ≡ PfsUpgrade path → end_effect volume Finished o ≡ of_pfs volume o.pfs upgraded
upgrade_is volume o path is = rw is refl

pub system-upgrade : (state : State) (event : Event) (o : OpenCall) (s : PseudoFileSystem) → EndsUpgrade state event o →
    system_of state.volume o.pfs ≡ Some s → system_of (after_event state event).volume o.pfs ≡ Some (upgraded s)
system-upgrade state event o s ends found =
    ap (λ (x : State). system_of x.volume o.pfs) (effect-ending state event ends.opening ends.call)
    ∙ (ap (λ (x : Option OpenCall). system_of (option_map_or (end_effect state.volume event.entry.reply) x state.volume) o.pfs) ends.found
    ∙ (ap (λ (r : Reply). system_of (end_effect state.volume r o) o.pfs) ends.reply
    ∙ (ap (λ (v : Volume). system_of v o.pfs) (upgrade_is state.volume o ends.path ends.upgrade)
    ∙ (found-changed o.pfs upgraded state.volume.systems (λ x. refl)
    ∙ ap (λ (x : Option PseudoFileSystem). option_map_or (λ (y : PseudoFileSystem). Some (upgraded y)) x None) found))))

-- versions that begin by an id show as of later ones what they show as of it
as_of-least : (id end : ℕ) (tree : FileTree) (versions : List (ℕ × FileTree)) → as_of id tree (versions_to end versions) ≡ as_of (min id end) tree versions
as_of-least id end tree [] = refl
as_of-least id end tree (v ∷ vs) = elim (less_or_not end v.0) [
  | inl later ↦
      let dropped : nat_le v.0 end ≡ false = grind (arith, nat_tests, later) in
      let hidden : nat_le v.0 (min id end) ≡ false = grind (arith, nat_tests, later) in
      rw (dropped, hidden) (as_of-least id end tree vs)
  | inr from ↦
      let kept : nat_le v.0 end ≡ true = grind (arith, nat_tests, from) in
      rw kept (kept_least (as_of-least id end (if nat_le v.0 (min id end) then v.1 else tree) vs) (elim (less_or_not id v.0) [
        | inl above ↦
            let no : nat_le v.0 id ≡ false = grind (arith, nat_tests, above) in
            let also : nat_le v.0 (min id end) ≡ false = grind (arith, nat_tests, above) in
            no ∙ sym also
        | inr under ↦
            let yes : nat_le v.0 id ≡ true = grind (arith, nat_tests, under) in
            let also : nat_le v.0 (min id end) ≡ true = grind (arith, nat_tests, under, from) in
            yes ∙ sym also
      ]))
]
  where
    kept_least :
        as_of id (if nat_le v.0 (min id end) then v.1 else tree) (versions_to end vs) ≡ as_of (min id end) (if nat_le v.0 (min id end) then v.1 else tree) vs →
        nat_le v.0 id ≡ nat_le v.0 (min id end) →
        as_of id (if nat_le v.0 id then v.1 else tree) (versions_to end vs) ≡ as_of (min id end) (if nat_le v.0 (min id end) then v.1 else tree) vs
    kept_least rest same = ap (λ (test : Bool). as_of id (if test then v.1 else tree) (versions_to end vs)) same ∙ rest

pub at-upgrade : (state : State) (event : Event) (o : OpenCall) (s : PseudoFileSystem) (id : ℕ) → EndsUpgrade state event o →
    system_of state.volume o.pfs ≡ Some s → at (after_event state event).volume o.pfs id ≡ at state.volume o.pfs (min id s.sync_end)
at-upgrade state event o s id ends found =
    at-versions (after_event state event).volume o.pfs id
    ∙ (ap (tree_in id) (system-upgrade state event o s ends found)
    ∙ (as_of-least id s.sync_end no_tree s.versions
    ∙ (ap (tree_in (min id s.sync_end)) (sym found) ∙ sym (at-versions state.volume o.pfs (min id s.sync_end)))))
