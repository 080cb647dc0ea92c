use Rattle.std.proofs.Common.{◌≡◌, refl}
use Rattle.std.proofs.lemmas.Option.{IfSome_then}
use Rattle.std.specs.Prelude.{IfSome, Some}
use Rattle.hm_key.specs.Key.{key_of}
use Rattle.hm_search.proofs.WithinLemmas.{within_shown}
use Rattle.hm_search.proofs.near.first_in.Goals as goal

pub returns-in-Some-clause-ok : goal.returns-in-Some-clause-ok
returns-in-Some-clause-ok g c =
    let told = g.P.Pages.pages c.args.pages.now in
    let there : IfSome told (λ map. map c.args.near ≡ Some c.in-Some.page.now) =
    IfSome_then told c.in-Some.ensures.told (λ map there. there (c.if-not-is_node_offset.ensures.0 refl)) in
    within_shown told c.args.near c.in-Some.page.now (key_of c.args.at.now) c.first_within.result there c.first_within.ensures
