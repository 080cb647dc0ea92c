use Rattle.std.proofs.Common.{ℕ, List, subst}
use Rattle.std.proofs.lemmas.Result.{on_ok_weaker}
use Rattle.hm_cursor.specs.Told.{fulls}
use Rattle.hm_cursor.proofs.CallLemmas.{Change, Then, writes_both, writes_so}
use Rattle.hm_dirs.specs.Names.{TakesName}
use Rattle.hm_key.specs.Balance.{IsBalanced}
use Rattle.hm_calls.specs.Writes.{PutsName, Renames, place_of_name}
use Rattle.hm_calls.proofs.NameStepLemmas.{name_moved}
use Rattle.hm_calls.proofs.rename.rename.Goals as goal

pub returns-clause-ok : goal.returns-clause-ok
returns-clause-ok g c =
    let hash = g.H.NameHash.hash_of c.args.hash.now in
    let i = c.args.id.0 in
    let old = place_of_name c.args.old in
    let new = place_of_name c.args.new in
    let One : Change = TakesName hash new.pfs old.directory c.bytes.result.now i in
    let Other : Change = PutsName new c.args.spot i c.args.moved.obj c.args.moved.kind in
    on_ok_weaker c.put_name.result
    (λ second. writes_so g.T.HasElements.elements g.T.HasRoom.extents (Then One Other)
    (Renames hash old new c.args.spot i c.args.moved.obj c.args.moved.kind)
    (λ lists. IsBalanced lists.0 lists.1) c.args.store.now c.put_name.new.store c.requires.balanced
    (λ was es' below steps.
    let (mid, first, then) = steps in
    name_moved hash old new c.args.spot i c.args.moved.obj c.args.moved.kind (fulls was) mid es'
    (subst (λ (name : List ℕ). TakesName hash new.pfs old.directory name i (fulls was) mid) c.bytes.ensures first) then)
    (writes_both g.T.HasElements.elements g.T.HasRoom.extents One Other c.args.store.now c.close_name.new.store c.put_name.new.store
    c.in_ok-close_name.ensures.ok second))
    c.put_name.ensures.ok
