use Rattle.std.proofs.Common.{ℕ, List}
use Rattle.std.proofs.lemmas.Result.{IfOk-weaker}
use Rattle.hm_dirs.specs.Entries.{IsFewNames}
use Rattle.hm_dirs.specs.Names.{OnNamed}
use Rattle.hm_dirs.proofs.StoreLemmas.{named_still}
use Rattle.hm_dirs.proofs.spot.has_few_names.Goals as goal

pub returns-clause-ok : goal.returns-clause-ok
returns-clause-ok g c =
    let es = g.T.HasElements.elements c.args.store.now in
    let xs = g.T.HasRoom.extents c.args.store.now in
    let es' = g.T.HasElements.elements c.has_few_entries.new.store in
    let xs' = g.T.HasRoom.extents c.has_few_entries.new.store in
    let counted = c.in_ok-has_few_entries.ensures in
    IfOk-weaker c.has_few_leading.result
    (λ few. (hash : List ℕ → ℕ) → OnNamed hash es' xs' (IsFewNames c.args.as_of.0 c.args.pfs.0 c.args.directory c.args.first few))
    (λ few. (hash : List ℕ → ℕ) → OnNamed hash es xs (IsFewNames c.args.as_of.0 c.args.pfs.0 c.args.directory c.args.first few))
    (λ few is hash. named_still hash es' es xs' xs (IsFewNames c.args.as_of.0 c.args.pfs.0 c.args.directory c.args.first few)
    counted.keeps.elements counted.keeps.extents (is hash))
    c.has_few_leading.ensures.ok
