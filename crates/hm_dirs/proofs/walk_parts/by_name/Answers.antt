use Rattle.std.proofs.Common.{Some, ap, sym, ◌∙◌}
use Rattle.hm_dirs.proofs.WalkToldLemmas.{named_in_one, named_no_directory, unnamed}
use Rattle.hm_dirs.proofs.walk_parts.by_name.Goals as goal

pub returns-in_default-clause-ok : goal.returns-in_default-clause-ok
returns-in_default-clause-ok g c =
    unnamed (g.T.HasElements.elements c.args.store.now) (g.T.HasRoom.extents c.args.store.now) c.args.course (g.met.T.ElementStore.sorted c.args.store.now)
    (g.H.NameHash.hash_of c.args.hash.now) c.args.follow c.args.part.now.name c.args.stand c.in_default.is

pub returns-then-not-is_directory-clause-ok : goal.returns-then-not-is_directory-clause-ok
returns-then-not-is_directory-clause-ok g c =
    named_no_directory (g.T.HasElements.elements c.args.store.now) (g.T.HasRoom.extents c.args.store.now) c.args.course
    (g.met.T.ElementStore.sorted c.args.store.now)
    (g.H.NameHash.hash_of c.args.hash.now) c.args.follow c.args.part.now.name c.in-Some.name c.args.stand c.in-Some.is
    (sym c.is_directory.ensures ∙ c.if-not-is_directory.true)

pub returns-clause-ok : goal.returns-clause-ok
returns-clause-ok g c =
    named_in_one (g.T.HasElements.elements c.args.store.now) (g.T.HasRoom.extents c.args.store.now) c.args.course (g.met.T.ElementStore.sorted c.args.store.now)
    (g.H.NameHash.hash_of c.args.hash.now) c.args.follow c.args.part.now.name c.bytes.result.now c.args.stand c.to_name.result
    (c.in-Some.is ∙ ap Some (sym c.bytes.ensures))
    (sym c.is_directory.ensures ∙ c.if-not-is_directory.false) c.to_name.ensures.ok
