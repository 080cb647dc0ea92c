use Rattle.std.proofs.Common.{ℕ, ap, subst, sym, arith, Result, Err}
use Rattle.std.specs.Prelude.{Option, IfSome, IsSome}
use Rattle.std.proofs.lemmas.Result.{err_from_is_err_and}
use Rattle.hm_types.specs.declared.fault.Fault.{Fault}
use Rattle.hm_types.specs.declared.zone.TheConstants.{TREE_ZONE}
use Rattle.hm_fields.specs.Pages.{PageMap}
use Rattle.hm_search.specs.Descent.{HasSearchCause}
use Rattle.hm_search.specs.Tree.{root_place}
use Rattle.hm_btree.specs.Calls.Move.{Exchanges}
use Rattle.hm_btree.specs.Marking.{Leaves}
use Rattle.hm_btree.specs.Tree.{ChangesTree, IsTreeSpace}
use Rattle.hm_btree.specs.declared.space.TheConstants.{NODE_BYTES}
use Rattle.hm_btree.proofs.ExchangeLemmas.{cause_in_sound}
use Rattle.hm_btree.proofs.InsertLemmas.{spends_add, spends_none}
use Rattle.hm_btree.proofs.KeptLemmas.{kept_read, kept_both}
use Rattle.hm_btree.proofs.move_node.move_from.Goals as goal

pub returns-in_err-key-clause-spent : goal.returns-in_err-key-clause-spent
returns-in_err-key-clause-spent g c =
    let same = g.met.S.NodeSpace.rests c.args.space.now c.key_at.new.space c.key_at.ensures.same.rest in
    spends_none g.S.Counted g.S.HasRoom c.args.space.now c.key_at.new.space NODE_BYTES same c.key_at.ensures.same.name c.key_at.ensures.same.frame

pub move_on_way-requires-clause-room : goal.move_on_way-requires-clause-room
move_on_way-requires-clause-room g c =
    let same = g.met.S.NodeSpace.rests c.args.space.now c.key_at.new.space c.key_at.ensures.same.rest in
    omega (arith, c.requires.room, ap (λ (f : ℕ → ℕ). f TREE_ZONE) same.0)

pub move_on_way-requires-clause-there : goal.move_on_way-requires-clause-there
move_on_way-requires-clause-there g c =
    subst (λ (o : Option PageMap). IfSome o (λ was. IsSome (was c.args.at))) (sym c.key_at.ensures.same.pages) c.requires.there

pub returns-in_err-below-clause-spent : goal.returns-in_err-below-clause-spent
returns-in_err-below-clause-spent g c =
    let same = g.met.S.NodeSpace.rests c.args.space.now c.key_at.new.space c.key_at.ensures.same.rest in
    spends_add g.S.Counted g.S.HasRoom c.args.space.now c.key_at.new.space c.move_on_way.new.space 0 NODE_BYTES NODE_BYTES (omega arith)
    (spends_none g.S.Counted g.S.HasRoom c.args.space.now c.key_at.new.space 0 same c.key_at.ensures.same.name c.key_at.ensures.same.frame)
    c.move_on_way.ensures.spent

pub returns-clause-spent : goal.returns-clause-spent
returns-clause-spent g c =
    let same = g.met.S.NodeSpace.rests c.args.space.now c.key_at.new.space c.key_at.ensures.same.rest in
    spends_add g.S.Counted g.S.HasRoom c.args.space.now c.key_at.new.space c.move_on_way.new.space 0 NODE_BYTES NODE_BYTES (omega arith)
    (spends_none g.S.Counted g.S.HasRoom c.args.space.now c.key_at.new.space 0 same c.key_at.ensures.same.name c.key_at.ensures.same.frame)
    c.move_on_way.ensures.spent

pub returns-in_err-below-clause-cause : goal.returns-in_err-below-clause-cause
returns-in_err-below-clause-cause g c =
    let told = g.S.Pages.pages c.args.space.now in
    let now = g.S.Pages.pages c.key_at.new.space in
    let old = g.S.Counted.faults c.args.space.now in
    let mid = g.S.Counted.faults c.key_at.new.space in
    let new = g.S.Counted.faults c.move_on_way.new.space in
    let fault = c.in_err-below.field-0.0 in
    let p = err_from_is_err_and c.from_residual-in_err-below.result c.from_residual-in_err-below.ensures.1 in
    let cause = subst (λ (o : Option PageMap). HasSearchCause {T = ℕ} o (root_place c.args.root) mid new (Err fault)) c.key_at.ensures.same.pages
    (subst (λ (r : Result ℕ Fault). HasSearchCause now (root_place c.args.root) mid new r) c.in_err-below.was c.move_on_way.ensures.cause) in
    let whole = cause_in_sound {T = ℕ} {U = ℕ × ℕ} told c.args.root old mid new fault
    (omega (arith, c.key_at.ensures.cause.counted.never_falls)) c.requires.tree cause in
    rw (p.1, p.2) whole

pub returns-clause-done : goal.returns-clause-done
returns-clause-done g c =
    let told = g.S.Pages.pages c.args.space.now in
    let last = g.S.Pages.pages c.move_on_way.new.space in
    let did = c.in_ok-below.ensures.done in
    let same = g.met.S.NodeSpace.rests c.args.space.now c.key_at.new.space c.key_at.ensures.same.rest in
    record {
      key = did.key;
      tree = subst (λ (o : Option PageMap). ChangesTree (λ es. es) did.key Leaves (λ _. Unit {0}) o last c.args.root c.args.root)
          c.key_at.ensures.same.pages did.tree;
      pages = subst (λ (o : Option PageMap). IfSome o (λ was. IsTreeSpace was c.args.root
          → IfSome last (Exchanges c.args.at c.in_ok-below.below was))) c.key_at.ensures.same.pages did.pages;
      kept = kept_both g.S.Pages g.S.HasRoom c.args.space.now c.key_at.new.space c.move_on_way.new.space
          (kept_read g.S.Pages g.S.HasRoom c.args.space.now c.key_at.new.space same.2 c.key_at.ensures.same.pages) did.kept;
      top = did.top;
    }
