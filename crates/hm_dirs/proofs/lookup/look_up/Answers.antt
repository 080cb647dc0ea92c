use Rattle.std.proofs.Common.{◌∙◌, ℕ, Option, ap}
use Rattle.std.proofs.lemmas.Result.{IfOk-weaker}
use Rattle.hm_types.specs.declared.id.Obj.{Obj}
use Rattle.hm_key.specs.Counts.{Counts}
use Rattle.hm_cursor.specs.Names.{IsNameIn}
use Rattle.hm_cursor.specs.Told.{OnBalanced, fulls}
use Rattle.hm_dirs.specs.Names.{IsLookedUp, OnNamed, first_key}
use Rattle.hm_dirs.proofs.NamedLemmas.{told_name}
use Rattle.hm_dirs.proofs.lookup.look_up.Goals as goal

pub returns-clause-ok : goal.returns-clause-ok
returns-clause-ok g c =
    let t = c.args.as_of.0 in
    let pfs = c.args.pfs.0 in
    let name = c.args.name.now in
    let first = c.keys_of-first.result.0 in
    let last = c.keys_of-first.result.1 in
    let es = g.T.HasElements.elements c.args.store.now in
    let xs = g.T.HasRoom.extents c.args.store.now in
    let hash = g.H.NameHash.hash_of c.args.hash.now in
    let keys = c.keys_of-first.ensures in
    IfOk-weaker c.find_name.result
    (λ (found : Option (ℕ × Obj)). OnBalanced es xs (λ lists. IsNameIn (Counts (fulls lists) t) pfs c.args.directory first last name found))
    (λ (found : Option (ℕ × Obj)). OnNamed hash es xs (IsLookedUp t pfs c.args.directory name found))
    (told_name hash t pfs c.args.directory name first last (keys.first ∙ ap first_key c.hash.ensures) keys.last es xs) c.find_name.ensures.ok
