-- What refused events leave as it was.
use Rattle.std.proofs.Common.{◌≡◌, ℕ, true, false, List, [], ◌∷◌, map, refl, ◌∙◌, ap, eqb}
use Rattle.std.specs.Prelude.{Bool, Option, Some, None, find, if◌then◌else◌}
use Rattle.std.specs.List.{AllZip}
use Rattle.std.specs.Option.{option_map_or}
use Rattle.hm_types.specs.declared.id.Id.{Id}
use Rattle.hm_model.specs.declared.command.Command.{Command}
use Rattle.hm_model.specs.declared.command.Command.TheVariants.{End, MirrorCopy, MirrorWrite, PfsUpgrade}
use Rattle.hm_model.specs.declared.reply.Reply.{Reply}
use Rattle.hm_model.specs.declared.reply.Reply.TheVariants.{Finished, Passed}
use Rattle.hm_model.specs.After.{Event, OpenCall, State, accepted_effect, call_of, effect, end_effect, end_of_pass, end_of_upgrade, end_of_write}
use Rattle.hm_model.specs.After.{ended, no_hash, nothing_merged, opened_with, with_origin, end_effect_of}
use Rattle.hm_model.specs.Caused.{is_ending}
use Rattle.hm_model.specs.Laws.{IsButOrigin}
use Rattle.hm_model.specs.Command.{named_opening}
use Rattle.hm_model.specs.Reply.{is_refusal}
use Rattle.hm_types.specs.Tree.{FileTree, no_tree}
use Rattle.hm_model.specs.Volume.{Origin, PseudoFileSystem, Volume, as_of}

-- a call that is no ending goes the other way
pub not_ending : {X : Type 0} (ending : Id → X) (other : X) (call : Command) → is_ending call ≡ false →
    (option_map_or ending (named_opening call) other) ≡ other
not_ending ending other (End opening) is = absurd (cc)
not_ending ending other call is = refl

-- a refused call has no effect
pub effect-refused : (state : State) (event : Event) → is_refusal event.entry.reply ≡ true → is_ending event.entry.call ≡ false → effect state event ≡ state
effect-refused state event refused call =
    not_ending (λ opening. ended state opening.0 event.entry.reply)
    (if is_refusal event.entry.reply then state else accepted_effect state (call_of no_hash state event)) event.entry.call call
    ∙ rw refused refl

-- each PFS is itself
but_origin-self : (systems : List PseudoFileSystem) → AllZip IsButOrigin systems systems
but_origin-self [] = tt
but_origin-self (s ∷ ss) = (refl, but_origin-self ss)

-- with another source of one PFS, each is what it was but for its source
but_origin-of_pfs : (pfs : ℕ) (origin : Origin) (systems : List PseudoFileSystem) →
    AllZip IsButOrigin systems (map (λ (s : PseudoFileSystem). if eqb s.number pfs then with_origin origin s else s) systems)
but_origin-of_pfs pfs origin [] = tt
but_origin-of_pfs pfs origin (s ∷ ss) = (either (eqb s.number pfs) s, but_origin-of_pfs pfs origin ss)
  where
    either : (test : Bool) (s : PseudoFileSystem) → IsButOrigin s (if test then with_origin origin s else s)
    either true s = refl
    either false s = refl

-- a refused ending of a pass or an upgrade does nothing
pass_refused : (volume : Volume) (o : OpenCall) (reply : Reply) → is_refusal reply ≡ true → end_of_pass volume o reply ≡ volume
pass_refused volume o (Passed begin end) refused = absurd (cc)
pass_refused volume o reply refused = refl

upgrade_refused : (volume : Volume) (o : OpenCall) (reply : Reply) → is_refusal reply ≡ true → end_of_upgrade volume o reply ≡ volume
upgrade_refused volume o Finished refused = absurd (cc)
upgrade_refused volume o reply refused = refl

-- what holds of the volume and of what each kind of ending makes of it holds after the ending
end_cases : (P : Volume → Type 0) (volume : Volume) (reply : Reply) (o : OpenCall) (command : Command) → P volume → P (end_of_pass volume o reply) →
    P (end_of_write volume o reply) → P (end_of_upgrade volume o reply) →
    P (end_effect_of volume reply o command)
end_cases P volume reply o (MirrorCopy master slave limit) same pass write upgrade = pass
end_cases P volume reply o (MirrorWrite path) same pass write upgrade = write
end_cases P volume reply o (PfsUpgrade path) same pass write upgrade = upgrade
end_cases P volume reply o other same pass write upgrade = same

opened_cases : (P : Volume → Type 0) (volume : Volume) (reply : Reply) (found : Option OpenCall) → P volume →
    ((o : OpenCall) → P (end_effect volume reply o)) → P (option_map_or (end_effect volume reply) found volume)
opened_cases P volume reply None same each = same
opened_cases P volume reply (Some o) same each = each o

ending_cases : (P : State → Type 0) (state : State) (reply : Reply) (call : Command) → is_ending call ≡ true →
    ((opening : Id) → P (ended state opening.0 reply)) → (other : State) →
    P (option_map_or (λ (opening : Id). ended state opening.0 reply) (named_opening call) other)
ending_cases P state reply (End opening) is each other = each opening
ending_cases P state reply call is each other = absurd (cc)

-- what holds of a volume and after each refused end of a call holds after a refused ending
refused_ending : (P : Volume → Type 0) (state : State) (event : Event) → is_refusal event.entry.reply ≡ true → is_ending event.entry.call ≡ true →
    P state.volume → ((o : OpenCall) → P (end_of_write state.volume o event.entry.reply)) → P (effect state event).volume
refused_ending P state event refused call same write =
    let reply : Reply = event.entry.reply in
    ending_cases (λ (s : State). P s.volume) state reply event.entry.call call (λ opening.
    opened_cases P state.volume reply (opened_with opening.0 state.opened) same (λ o.
    end_cases P state.volume reply o o.command same (rw (pass_refused state.volume o reply refused) same) (write o)
    (rw (upgrade_refused state.volume o reply refused) same)))
    (if is_refusal reply then state else accepted_effect state (call_of no_hash state event))

-- where the reply tells that something was merged, the end of a write does nothing either
write_refused : (volume : Volume) (o : OpenCall) (reply : Reply) → is_refusal reply ≡ true → nothing_merged reply ≡ false → end_of_write volume o reply ≡ volume
write_refused volume o reply refused merged = rw merged (pass_refused volume o reply refused)

write_but_origin : (volume : Volume) (o : OpenCall) (reply : Reply) → is_refusal reply ≡ true →
    AllZip IsButOrigin volume.systems (end_of_write volume o reply).systems
write_but_origin volume o reply refused = by (nothing_merged reply) refl
  where
    by : (test : Bool) → nothing_merged reply ≡ test → AllZip IsButOrigin volume.systems (end_of_write volume o reply).systems
    by true is = rw is (but_origin-of_pfs o.pfs o.origin volume.systems)
    by false is = rw (write_refused volume o reply refused is) (but_origin-self volume.systems)

pub systems-refused_ending : (state : State) (event : Event) → is_refusal event.entry.reply ≡ true → is_ending event.entry.call ≡ true →
    AllZip IsButOrigin state.volume.systems (effect state event).volume.systems
systems-refused_ending state event refused call =
    refused_ending (λ (v : Volume). AllZip IsButOrigin state.volume.systems v.systems) state event refused call (but_origin-self state.volume.systems)
    (λ o. write_but_origin state.volume o event.entry.reply refused)

pub same-refused_ending : (state : State) (event : Event) → is_refusal event.entry.reply ≡ true → is_ending event.entry.call ≡ true →
    nothing_merged event.entry.reply ≡ false → (effect state event).volume.systems ≡ state.volume.systems
same-refused_ending state event refused call merged =
    refused_ending (λ (v : Volume). v.systems ≡ state.volume.systems) state event refused call refl
    (λ o. ap (λ (v : Volume). v.systems) (write_refused state.volume o event.entry.reply refused merged))

-- the tree as of an id of the first PFS with a number among some
abbrev pub tree_among : List PseudoFileSystem → ℕ → ℕ → FileTree
tree_among systems pfs id =
    option_map_or (λ (s : PseudoFileSystem). as_of id no_tree s.versions) (find (λ (s : PseudoFileSystem). eqb s.number pfs) systems) no_tree

-- a change of sources alone leaves all trees
pub trees-but_origin : (pfs id : ℕ) (old new : List PseudoFileSystem) → AllZip IsButOrigin old new → tree_among new pfs id ≡ tree_among old pfs id
trees-but_origin pfs id [] [] same = refl
trees-but_origin pfs id [] (t ∷ ts) same = absurd same
trees-but_origin pfs id (s ∷ ss) [] same = absurd same
trees-but_origin pfs id (s ∷ ss) (t ∷ ts) same = rw same.0 (by (eqb s.number pfs) (trees-but_origin pfs id ss ts same.1))
  where
    by : (test : Bool) → tree_among ts pfs id ≡ tree_among ss pfs id →
        option_map_or (λ (u : PseudoFileSystem). as_of id no_tree u.versions)
        (if test then Some (record s { origin = t.origin }) else find (λ (u : PseudoFileSystem). eqb u.number pfs) ts) no_tree
        ≡ option_map_or (λ (u : PseudoFileSystem). as_of id no_tree u.versions)
        (if test then Some s else find (λ (u : PseudoFileSystem). eqb u.number pfs) ss) no_tree
    by true rest = refl
    by false rest = rest
