use Rattle.std.proofs.Common.{◌≡◌, ◌∙◌, ℕ, Bool, Option, None, Some, ap, subst}
use Rattle.hm_cursor.specs.Told.{OnBalanced}
use Rattle.hm_dirs.specs.Entries.{IsFewNames, IsFreeKey, IsHiddenKey}
use Rattle.hm_dirs.specs.Names.{OnNamed, first_key}
use Rattle.hm_dirs.proofs.LeadToldLemmas.{spot_free, spot_full, spot_hidden, spot_none}
use Rattle.hm_dirs.proofs.StoreLemmas.{named_balanced, named_still}
use Rattle.hm_dirs.proofs.spot.find_spot.Goals as goal

pub returns-then-not-branch-clause-ok : goal.returns-then-not-branch-clause-ok
returns-then-not-branch-clause-ok g c =
    let es = g.T.HasElements.elements c.args.store.now in
    let xs = g.T.HasRoom.extents c.args.store.now in
    let hash = g.H.NameHash.hash_of c.args.hash.now in
    let first = c.keys_of-first.result.0 in
    let number : first ≡ first_key (hash c.args.name.now) = c.keys_of-first.ensures.first ∙ ap first_key c.hash.ensures in
    spot_full hash es xs c.args.as_of.0 c.args.pfs.0 c.args.directory c.args.name.now first number
    (subst (λ (b : Bool). OnNamed hash es xs (IsFewNames c.args.as_of.0 c.args.pfs.0 c.args.directory first b)) c.if-not-branch.true
    (c.in_ok-has_few_names.ensures.ok hash))

pub returns-in-Some-clause-ok : goal.returns-in-Some-clause-ok
returns-in-Some-clause-ok g c =
    let elements = g.T.HasElements.elements in
    let extents = g.T.HasRoom.extents in
    let es = elements c.args.store.now in
    let xs = extents c.args.store.now in
    let hash = g.H.NameHash.hash_of c.args.hash.now in
    let t = c.args.as_of.0 in
    let pfs = c.args.pfs.0 in
    let directory = c.args.directory in
    let first = c.keys_of-first.result.0 in
    let number : first ≡ first_key (hash c.args.name.now) = c.keys_of-first.ensures.first ∙ ap first_key c.hash.ensures in
    let counted = c.in_ok-has_few_names.ensures in
    let mid = c.has_few_names.new.store in
    spot_free hash es xs t pfs directory c.args.name.now first number c.in-Some.key
    (subst (λ (b : Bool). OnNamed hash es xs (IsFewNames t pfs directory first b)) c.if-not-branch.false (counted.ok hash))
    (named_still hash (elements mid) es (extents mid) xs (IsFreeKey t pfs directory first (Some c.in-Some.key)) counted.keeps.elements counted.keeps.extents
    (named_balanced hash (elements mid) (extents mid) (IsFreeKey t pfs directory first (Some c.in-Some.key))
    (subst (λ (o : Option ℕ). OnBalanced (elements mid) (extents mid) (IsFreeKey t pfs directory first o)) c.in-Some.is c.in_ok-key.ensures.ok)))

pub returns-in-Some-2-clause-ok : goal.returns-in-Some-2-clause-ok
returns-in-Some-2-clause-ok g c =
    let elements = g.T.HasElements.elements in
    let extents = g.T.HasRoom.extents in
    let es = elements c.args.store.now in
    let xs = extents c.args.store.now in
    let hash = g.H.NameHash.hash_of c.args.hash.now in
    let t = c.args.as_of.0 in
    let pfs = c.args.pfs.0 in
    let directory = c.args.directory in
    let first = c.keys_of-first.result.0 in
    let number : first ≡ first_key (hash c.args.name.now) = c.keys_of-first.ensures.first ∙ ap first_key c.hash.ensures in
    let counted = c.in_ok-has_few_names.ensures in
    let looked = c.in_ok-key.ensures in
    let mid = c.free_key.new.store in
    spot_hidden hash es xs t pfs directory c.args.name.now first number c.in-Some-2.key
    (subst (λ (b : Bool). OnNamed hash es xs (IsFewNames t pfs directory first b)) c.if-not-branch.false (counted.ok hash))
    (named_still hash (elements mid) es (extents mid) xs (IsHiddenKey t pfs directory first (Some c.in-Some-2.key))
    (looked.keeps.elements ∙ counted.keeps.elements) (looked.keeps.extents ∙ counted.keeps.extents)
    (subst (λ (o : Option ℕ). OnNamed hash (elements mid) (extents mid) (IsHiddenKey t pfs directory first o)) c.in-Some-2.is (c.in_ok-key-2.ensures.ok hash)))

pub returns-in-None-clause-ok : goal.returns-in-None-clause-ok
returns-in-None-clause-ok g c =
    let elements = g.T.HasElements.elements in
    let extents = g.T.HasRoom.extents in
    let es = elements c.args.store.now in
    let xs = extents c.args.store.now in
    let hash = g.H.NameHash.hash_of c.args.hash.now in
    let t = c.args.as_of.0 in
    let pfs = c.args.pfs.0 in
    let directory = c.args.directory in
    let first = c.keys_of-first.result.0 in
    let number : first ≡ first_key (hash c.args.name.now) = c.keys_of-first.ensures.first ∙ ap first_key c.hash.ensures in
    let counted = c.in_ok-has_few_names.ensures in
    let looked = c.in_ok-key.ensures in
    let mid = c.has_few_names.new.store in
    let later = c.free_key.new.store in
    spot_none hash es xs t pfs directory c.args.name.now first number
    (named_still hash (elements mid) es (extents mid) xs (IsFreeKey t pfs directory first None) counted.keeps.elements counted.keeps.extents
    (named_balanced hash (elements mid) (extents mid) (IsFreeKey t pfs directory first None)
    (subst (λ (o : Option ℕ). OnBalanced (elements mid) (extents mid) (IsFreeKey t pfs directory first o)) c.in_default.is looked.ok)))
    (named_still hash (elements later) es (extents later) xs (IsHiddenKey t pfs directory first None)
    (looked.keeps.elements ∙ counted.keeps.elements) (looked.keeps.extents ∙ counted.keeps.extents)
    (subst (λ (o : Option ℕ). OnNamed hash (elements later) (extents later) (IsHiddenKey t pfs directory first o)) c.in-None.is
    (c.in_ok-key-2.ensures.ok hash)))
