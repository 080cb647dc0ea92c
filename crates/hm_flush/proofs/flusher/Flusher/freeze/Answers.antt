use Rattle.std.proofs.Common.{◌≡◌, ◌≤◌, ℕ, sym, ◌∙◌, ap, subst, arith, length}
use Rattle.hm_types.specs.declared.limits.TheConstants.{MOST_GROUP_PAGES}
use Rattle.hm_pages.specs.Store.{contents}
use Rattle.hm_flush.specs.declared.flush.Flush.{Flush}
use Rattle.hm_flush.specs.Calls.{IsTarget}
use Rattle.hm_flush.specs.Flush.{begun_flush}
use Rattle.hm_flush.specs.Group.{group_of, live_before}
use Rattle.hm_flush.proofs.CallLemmas.{guards-begun}
use Rattle.hm_flush.proofs.MoveLemmas.{moves-begun, sound-begun}
use Rattle.hm_flush.proofs.flusher.Flusher.freeze.Goals as goal

pub invariant_of-self : goal.invariant_of-self
invariant_of-self c =
    sound-begun c.self.inside.flush c.begun-self-inside.result c.args.now.now c.frozen_len.result c.count_live-live.result c.self.invariant
    (subst (λ (f : Flush). IsTarget f c.args.now.now) (sym c.self.view_is) c.requires.now)
    (omega (arith, c.frozen_len.ensures, c.store_is_sound-2.ensures.few_frozen)) (omega (arith, c.frozen_len.ensures, c.count_live-live.ensures.few))
    c.begun-self-inside.ensures

pub returns-clause-ok : goal.returns-clause-ok
returns-clause-ok c =
    let f = c.args.self.now in
    let now = c.args.now.now in
    let s' = contents c.freeze.new.self in
    let len = length s'.frozen_group in
    let count = live_before (group_of s').was_live len in
    let is : c.begun-self-inside.result ≡ begun_flush now len count f =
    c.begun-self-inside.ensures ∙ (ap (λ (n : ℕ). begun_flush now n c.count_live-live.result c.self.inside.flush) c.frozen_len.ensures
    ∙ (ap (λ (n : ℕ). begun_flush now len n c.self.inside.flush) c.count_live-live.ensures.value
    ∙ ap (λ (x : Flush). begun_flush now len count x) c.self.view_is)) in
    moves-begun f c.begun-self-inside.result now (contents c.args.pages.now) s' c.requires.idle c.requires.ready c.in_ok-freeze.ensures.ok
    (subst (λ (n : ℕ). n ≤ len) c.count_live-live.ensures.value c.count_live-live.ensures.few) is

pub returns-clause-guards : goal.returns-clause-guards
returns-clause-guards c =
    let f = c.args.self.now in
    let is : c.begun-self-inside.result ≡ begun_flush c.args.now.now c.frozen_len.result c.count_live-live.result f =
    c.begun-self-inside.ensures ∙ ap (λ (x : Flush). begun_flush c.args.now.now c.frozen_len.result c.count_live-live.result x) c.self.view_is in
    guards-begun f c.begun-self-inside.result c.args.now.now c.frozen_len.result c.count_live-live.result c.args.now.now.last (contents c.args.pages.now)
    (contents c.freeze.new.self) c.requires.idle c.store_is_sound.ensures c.requires.ready.closed c.requires.ready.placed c.in_ok-freeze.ensures.ok is
