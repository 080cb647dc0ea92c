-- A slave shows the trees of one foreign source at the end of a legal history.
use Rattle.std.proofs.Common.{◌≡◌, ℕ, ◌+◌, List, [], ◌∷◌, ◌++◌, refl, ◌∙◌, ap, sym, subst, arith, append_assoc}
use Rattle.std.specs.Prelude.{Bool, None}
use Rattle.std.specs.List.{AllByRecursion}
use Rattle.hm_types.specs.declared.text.Text.{Text}
use Rattle.hm_model.specs.declared.command.Command.{Command}
use Rattle.hm_model.specs.declared.command.Command.TheVariants.{MirrorCopy, MirrorWrite, PfsSlave}
use Rattle.hm_model.specs.After.{Event, OpenCall, State, after_event, after_events, call_of, effect, no_hash, on_volume, opening_state}
use Rattle.hm_model.specs.Change.{change, new_slave}
use Rattle.hm_model.specs.Due.{new_pfs}
use Rattle.hm_model.specs.Laws.{FollowsForeign, IsThere, Makes, ShowsTrees, rewrites}
use Rattle.hm_model.specs.Legal.{IsLegal, Setting, state_after}
use Rattle.hm_types.specs.Tree.{FileTree}
use Rattle.hm_model.specs.Volume.{Origin, Nowhere, Local, Foreign, Mixed, PseudoFileSystem, Slave, Volume, at, system_of}
use Rattle.hm_model.proofs.EffectLemmas.{effect_cases}
use Rattle.hm_model.proofs.FollowLemmas.{at_found}
use Rattle.hm_model.proofs.MadeLemmas.{absent, effect_slave, made_slave, one_more, stands_before, state_pushed}
use Rattle.hm_model.proofs.NewPfsLemmas.{none-new}
use Rattle.hm_model.proofs.OpenLemmas.{NamesThere, StandsAfter}
use Rattle.hm_model.proofs.ForeignLemmas.{fed_history, FedAs, FedBy, Follows, IsFedIn, streams_accepted}

-- of a source of trees, which ids are spoken of, and the trees that are shown as of them
module _ (source : ℕ) (kept : ℕ → Bool) (trees : ℕ → FileTree) where
  -- what it says at the end
  fed_follows : (state : State) (slave : ℕ) → IsFedIn source kept trees state slave → FollowsForeign state.volume slave source kept trees
  fed_follows state slave is = record {
    own = is.own;
    found = is.found;
    drawn = is.drawn;
    unfed = λ role none. subst (Follows source kept trees is.own) none (is.follows role);
    same = λ role foreign id has some by. at_found state.volume slave id is.own is.found
        ∙ subst (Follows source kept trees is.own) foreign (is.follows role) refl id has some by;
  }

  follows_origin : (volume : Volume) (slave : ℕ) (f : FollowsForeign volume slave source kept trees) → f.own.role ≡ Slave → (origin : Origin) →
      f.own.origin ≡ origin → Follows source kept trees f.own origin
  follows_origin volume slave f role Nowhere is = f.unfed role is
  follows_origin volume slave f role (Local n) is = tt
  follows_origin volume slave f role (Foreign k) is =
      λ same id has some by. sym (at_found volume slave id f.own f.found) ∙ f.same role (is ∙ ap Foreign same) id has some by
  follows_origin volume slave f role Mixed is = tt

  pub FollowsForeign-legal : (run : Setting) (events : List Event) (slave : ℕ) → IsThere run.opening 0 → IsLegal run events →
      AllByRecursion (ShowsTrees source kept trees) run.foreigners.streams → FollowsForeign run.opening slave source kept trees →
      FollowsForeign (state_after run events).volume slave source kept trees
  FollowsForeign-legal run events slave root legal shown f =
      fed_follows (state_after run events) slave (fed_history source kept trees run [] events slave root legal
      (record {
        own = f.own;
        found = f.found;
        drawn = f.drawn;
        follows = λ role. follows_origin run.opening slave f role f.own.origin refl;
        fed = tt;
        one =
            tt;
        shown = shown;
      }))

  -- the feeds that are to come are among those of the start
  shown_effect : (state : State) (event : Event) → AllByRecursion (ShowsTrees source kept trees) state.streams →
      AllByRecursion (ShowsTrees source kept trees) (effect state event).streams
  shown_effect state event shown =
      effect_cases (λ (s : State). AllByRecursion (ShowsTrees source kept trees) s.streams) state event event.entry.call shown (λ opening. shown)
      (streams_accepted source kept trees state (call_of no_hash state event) shown)

  shown_after : (state : State) (es : List Event) → AllByRecursion (ShowsTrees source kept trees) state.streams →
      AllByRecursion (ShowsTrees source kept trees) (after_events state es).streams
  shown_after state [] shown = shown
  shown_after state (e ∷ es) shown = shown_after (after_event state e) es (shown_effect state e shown)

  -- calls that name PFS that are there feed no new one
  none_feed : (volume : Volume) (slave : ℕ) (s : PseudoFileSystem) (os : List OpenCall) → system_of volume slave ≡ None →
      AllByRecursion (NamesThere volume) os → AllByRecursion (FedBy source kept trees slave s) os
  none_feed volume slave s [] none named = tt
  none_feed volume slave s (o ∷ os) none named = (λ here. by o.command refl here, none_feed volume slave s os none named.1)
    where
      by : (command : Command) → o.command ≡ command → o.pfs ≡ slave → FedAs source kept trees s o.origin o.stream command
      by (MirrorCopy from into limit) is here = absurd (absent volume slave o none named.0 here (ap rewrites is))
      by (MirrorWrite into) is here = absurd (absent volume slave o none named.0 here (ap rewrites is))
      by command is here = tt

  -- a made slave
  pub FollowsForeign-made : (run : Setting) (before : List Event) (event : Event) (rest : List Event) (path : Text) (shared : ℕ) →
      IsThere run.opening 0 → IsLegal run (before ++ event ∷ rest) → Makes event (PfsSlave path shared) →
      AllByRecursion (ShowsTrees source kept trees) run.foreigners.streams →
      FollowsForeign (state_after run (before ++ event ∷ rest)).volume (new_pfs (state_after run before).volume) source kept trees
  FollowsForeign-made run before event rest path shared root legal makes shown =
      let state : State = state_after run before in
      let pfs : ℕ = new_pfs state.volume in
      let stands : StandsAfter run before = stands_before run before event rest root legal in
      let does : effect state event ≡ on_volume state (change (call_of no_hash state event)) = effect_slave state event path shared makes in
      let opened : (after_event state event).opened ≡ state.opened = ap (λ (s : State). s.opened) does in
      let now : IsFedIn source kept trees (after_event state event) pfs = record {
        own = new_slave pfs shared;
        found = made_slave state event path shared makes;
        drawn = omega arith;
        follows = λ role. refl;
        fed = rw opened (none_feed state.volume pfs (new_slave pfs shared) state.opened (none-new state.volume) stands.orderly.named);
        one = rw opened stands.orderly.one;
        shown = shown_effect state event (shown_after (opening_state run.opening run.foreigners) before shown);
      } in
      let later : IsFedIn source kept trees (state_after run ((before ++ event ∷ []) ++ rest)) pfs =
      fed_history source kept trees run (before ++ event ∷ []) rest pfs root (one_more run before event rest legal)
      (subst (λ (s : State). IsFedIn source kept trees s pfs) (sym (state_pushed run before event)) now) in
      fed_follows (state_after run (before ++ event ∷ rest)) pfs (rw append_assoc at later)
