use Rattle.std.proofs.Common.{Option, sym, subst, ◌∙◌, true≢false}
use Rattle.std.specs.Prelude.{IfSome}
use Rattle.hm_key.specs.Counts.{subject_of}
use Rattle.hm_key.specs.Key.{key_of}
use Rattle.hm_key.specs.declared.element.Element.{Element}
use Rattle.hm_cursor.specs.Version.{IsMadeUpTo, IsNewestMade}
use Rattle.hm_cursor.proofs.StoreLemmas.{told, told_both}
use Rattle.hm_cursor.proofs.VersionLemmas.{newest_closed, newest_counts, none_seen}
use Rattle.hm_cursor.proofs.version.version_at.Goals as goal

pub returns-in_default-clause-ok : goal.returns-in_default-clause-ok
returns-in_default-clause-ok g c =
    let s = subject_of (key_of c.args.at.now) in
    let read : IfSome (g.T.HasElements.elements c.args.store.now) (λ es. IsNewestMade es s c.args.as_of.0 c.in_ok-newest.field-0) = c.in_ok-newest.ensures.ok in
    told (g.T.HasElements.elements c.args.store.now)
    (λ es made. none_seen es s c.args.as_of.0 (subst (λ (o : Option Element). IsNewestMade es s c.args.as_of.0 o) c.in_default.is made)) read

pub returns-then-is_seen-clause-ok : goal.returns-then-is_seen-clause-ok
returns-then-is_seen-clause-ok g c =
    let s = subject_of (key_of c.args.at.now) in
    let t = c.args.as_of.0 in
    let read : IfSome (g.T.HasElements.elements c.args.store.now) (λ es. IsNewestMade es s t c.in_ok-newest.field-0) = c.in_ok-newest.ensures.ok in
    let found = subst (λ (o : Option Element). IfSome o (IsMadeUpTo s t)) c.in-Some.is c.in_ok-newest.ensures.found in
    told (g.T.HasElements.elements c.args.store.now)
    (λ es made. newest_counts es s t c.in-Some.newest found.about (c.is_seen.ensures.0 c.if-is_seen.true)
    (subst (λ (o : Option Element). IsNewestMade es s t o) c.in-Some.is made)) read

pub returns-clause-ok : goal.returns-clause-ok
returns-clause-ok g c =
    let s = subject_of (key_of c.args.at.now) in
    let t = c.args.as_of.0 in
    let read : IfSome (g.T.HasElements.elements c.args.store.now) (λ es. IsNewestMade es s t c.in_ok-newest.field-0) = c.in_ok-newest.ensures.ok in
    let found = subst (λ (o : Option Element). IfSome o (IsMadeUpTo s t)) c.in-Some.is c.in_ok-newest.ensures.found in
    told_both (g.T.HasElements.elements c.args.store.now)
    (λ es content made. newest_closed es s t c.in-Some.newest content found
    (λ sees. true≢false (sym (c.is_seen.ensures.1 sees) ∙ c.if-is_seen.false))
    (subst (λ (o : Option Element). IsNewestMade es s t o) c.in-Some.is made))
    (g.met.T.ElementStore.sorted c.args.store.now) read
