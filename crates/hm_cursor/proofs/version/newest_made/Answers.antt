use Rattle.std.proofs.Common.{◌≡◌, Option, Some, sym, subst, ◌∙◌, true≢false}
use Rattle.std.specs.Prelude.{IfSome}
use Rattle.hm_key.specs.Elements.{last_to}
use Rattle.hm_key.specs.Key.{key_of}
use Rattle.hm_key.specs.Stores.{IsFoundTo}
use Rattle.hm_key.specs.declared.element.Element.{Element}
use Rattle.hm_cursor.proofs.KeyLemmas.{create_rises}
use Rattle.hm_cursor.proofs.StoreLemmas.{told, told_both}
use Rattle.hm_cursor.proofs.VersionLemmas.{none_made, one_made, other_made}
use Rattle.hm_cursor.proofs.version.newest_made.Goals as goal

pub returns-in_default-clause-ok : goal.returns-in_default-clause-ok
returns-in_default-clause-ok g c =
    let at = record (key_of c.args.at.now) { create = c.args.as_of.0 } in
    let read : IfSome (g.T.HasElements.elements c.args.store.now) (λ es. c.in_ok-found.field-0 ≡ last_to at es) = c.in_ok-found.ensures.ok in
    told (g.T.HasElements.elements c.args.store.now) (λ es found. none_made at es (sym found ∙ c.in_default.is)) read

pub returns-then-not-is_about-clause-ok : goal.returns-then-not-is_about-clause-ok
returns-then-not-is_about-clause-ok g c =
    let at = record (key_of c.args.at.now) { create = c.args.as_of.0 } in
    let read : IfSome (g.T.HasElements.elements c.args.store.now) (λ es. c.in_ok-found.field-0 ≡ last_to at es) = c.in_ok-found.ensures.ok in
    told_both (g.T.HasElements.elements c.args.store.now)
    (λ es content found. other_made at es c.in-Some.found content (sym found ∙ c.in-Some.is)
    (λ same. true≢false (sym (c.is_about.ensures.1 same) ∙ c.if-not-is_about.true)))
    (g.met.T.ElementStore.sorted c.args.store.now) read

pub returns-clause-ok : goal.returns-clause-ok
returns-clause-ok g c =
    let at = record (key_of c.args.at.now) { create = c.args.as_of.0 } in
    let read : IfSome (g.T.HasElements.elements c.args.store.now) (λ es. c.in_ok-found.field-0 ≡ last_to at es) = c.in_ok-found.ensures.ok in
    told_both (g.T.HasElements.elements c.args.store.now)
    (λ es content found. one_made at es c.in-Some.found content (sym found ∙ c.in-Some.is) (c.is_about.ensures.0 c.if-not-is_about.false))
    (g.met.T.ElementStore.sorted c.args.store.now) read

pub returns-clause-found : goal.returns-clause-found
returns-clause-found g c =
    let at = record (key_of c.args.at.now) { create = c.args.as_of.0 } in
    let found : IfSome (Some c.in-Some.found) (IsFoundTo at) =
    subst (λ (o : Option Element). IfSome o (IsFoundTo at)) c.in-Some.is c.in_ok-found.ensures.found in
    let about = c.is_about.ensures.0 c.if-not-is_about.false in
    record { element = found.element; about = about; made = create_rises (key_of c.in-Some.found.base) at (sym about) found.place }
