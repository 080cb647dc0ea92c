use Rattle.hm_key.specs.Counts.{subject_of}
use Rattle.hm_key.specs.Key.{key_of}
use Rattle.hm_cursor.proofs.StoreLemmas.{told}
use Rattle.hm_cursor.proofs.VersionLemmas.{none_yet}
use Rattle.hm_cursor.proofs.version.seen_from.Goals as goal

pub returns-then-oldest-as_of-clause-ok : goal.returns-then-oldest-as_of-clause-ok
returns-then-oldest-as_of-clause-ok g c =
    told (g.T.HasElements.elements c.args.store.now)
    (λ es first. none_yet es (subject_of (key_of c.args.oldest.now.base)) c.args.as_of.0 c.args.oldest.now first c.if-oldest-as_of.true) c.requires
