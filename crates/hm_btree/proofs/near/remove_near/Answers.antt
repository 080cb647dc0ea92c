use Rattle.std.proofs.Common.{◌≡◌, true, true≢false, ℕ, List, refl}
use Rattle.std.specs.Prelude.{IfSome, Some}
use Rattle.std.proofs.lemmas.Option.{IfSome_then}
use Rattle.hm_key.specs.Key.{key_of}
use Rattle.hm_node.specs.Node.{node_in}
use Rattle.hm_btree.specs.Space.{IsUpdated}
use Rattle.hm_btree.proofs.KeptLemmas.{kept_change}
use Rattle.hm_btree.proofs.NearLemmas.{near_told}
use Rattle.hm_btree.proofs.SpendLemmas.{spends_nothing}
use Rattle.hm_btree.proofs.near.remove_near.Goals as goal

pub returns-in_err-update_page-clause-spent : goal.returns-in_err-update_page-clause-spent
returns-in_err-update_page-clause-spent g c =
    let same = g.met.S.NodeSpace.rests c.args.space.now c.update_page.new.space c.update_page.ensures.rest in
    spends_nothing g.S.Counted g.S.HasRoom c.args.space.now c.update_page.new.space same c.update_page.ensures.stays.name c.update_page.ensures.stays.frame

pub returns-clause-spent : goal.returns-clause-spent
returns-clause-spent g c =
    let same = g.met.S.NodeSpace.rests c.args.space.now c.update_page.new.space c.update_page.ensures.rest in
    spends_nothing g.S.Counted g.S.HasRoom c.args.space.now c.update_page.new.space same c.update_page.ensures.stays.name c.update_page.ensures.stays.frame

pub returns-clause-done : goal.returns-clause-done
returns-clause-done g c =
    let told = g.S.Pages.pages c.args.space.now in
    let before : List ℕ = c.in-Some.page.now in
    let after : List ℕ = c.remove_in_leaf.new.page in
    let same = g.met.S.NodeSpace.rests c.args.space.now c.update_page.new.space c.update_page.ensures.rest in
    let there : IfSome told (λ map. map c.args.near ≡ Some before) =
    IfSome_then told c.in-Some.ensures.told (λ map there. there (c.if-not-is_node_offset.ensures.0 refl)) in
    record {
      removes = λ done root. record {
        tree = near_told (key_of c.args.at.now) told (g.S.Pages.pages c.update_page.new.space) c.args.near root before after there
            (c.if-not-is_large_leaf.ensures refl) c.remove_in_leaf.ensures.held (c.if-not-remove_in_leaf.ensures.some refl) c.in_ok-update_page.ensures.ok;
        kept = kept_change g.S.Pages g.S.HasRoom c.args.space.now c.update_page.new.space (IsUpdated true c.args.near (node_in after)) same.2
            c.in_ok-update_page.ensures.ok;
      };
      same = λ no. absurd (true≢false no);
    }
