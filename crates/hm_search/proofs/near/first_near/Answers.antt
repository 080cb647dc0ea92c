use Rattle.std.proofs.Common.{ℕ, ◌∙◌}
use Rattle.std.specs.Prelude.{IfSome}
use Rattle.std.proofs.lemmas.Option.{IfSome_then}
use Rattle.hm_key.specs.Elements.{first_from}
use Rattle.hm_key.specs.Key.{key_of}
use Rattle.hm_search.specs.Near.{IsReached}
use Rattle.hm_search.specs.Tree.{elements_in, elements_of, height_of, node_at, root_place, IsStoredTree}
use Rattle.hm_search.proofs.NearLemmas.{reached_is}
use Rattle.hm_search.proofs.near.first_near.Goals as goal

pub returns-clause-ok : goal.returns-clause-ok
returns-clause-ok g c =
    let told = g.P.Pages.pages c.args.pages.now in
    let key = key_of c.args.at.now in
    let ok : IfSome told (λ map. (height : ℕ) → IsStoredTree map height (root_place c.args.root)
    → IsReached (first_from key (elements_in map height (node_at map c.args.root))) c.in_ok-reached.reached) =
    rw c.root.ensures at c.in_ok-reached.ensures.ok in
    IfSome_then told ok (λ map reached sound whole. c.element.ensures
    ∙ reached_is (first_from key (elements_of map c.args.root)) c.in_ok-reached.reached (reached (height_of (node_at map c.args.root)) sound))
