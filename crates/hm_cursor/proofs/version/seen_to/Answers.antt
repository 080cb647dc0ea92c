use Rattle.std.proofs.Common.{sym, ◌∙◌, true≢false, refl}
use Rattle.hm_key.specs.Counts.{subject_of}
use Rattle.hm_key.specs.Key.{key_of}
use Rattle.hm_cursor.proofs.StoreLemmas.{told, told_both}
use Rattle.hm_cursor.proofs.VersionLemmas.{newest_closed, newest_counts}
use Rattle.hm_cursor.proofs.version.seen_to.Goals as goal

pub returns-then-is_seen-clause-ok : goal.returns-then-is_seen-clause-ok
returns-then-is_seen-clause-ok g c =
    let e = c.args.latest.now in
    told (g.T.HasElements.elements c.args.store.now)
    (λ es newest. newest_counts es (subject_of (key_of e.base)) c.args.as_of.0 e refl (c.is_seen.ensures.0 c.if-is_seen.true)
    (newest c.if-latest-as_of.false))
    c.requires.newest

pub returns-clause-ok : goal.returns-clause-ok
returns-clause-ok g c =
    let e = c.args.latest.now in
    told_both (g.T.HasElements.elements c.args.store.now)
    (λ es content newest. newest_closed es (subject_of (key_of e.base)) c.args.as_of.0 e content
    (record { element = c.requires.element; about = refl; made = c.if-latest-as_of.false })
    (λ sees. true≢false (sym (c.is_seen.ensures.1 sees) ∙ c.if-is_seen.false)) (newest c.if-latest-as_of.false))
    (g.met.T.ElementStore.sorted c.args.store.now) c.requires.newest
