use Rattle.std.proofs.Common.{◌+◌, None, refl}
use Rattle.std.specs.Prelude.{IfOk}
use Rattle.hm_key.specs.Key.{key_of}
use Rattle.hm_cursor.specs.Version.{IsFirst, numbered}
use Rattle.hm_cursor.proofs.StoreLemmas.{last_still, told_both, told_still}
use Rattle.hm_files.proofs.NearLemmas.{past_answered}
use Rattle.hm_files.proofs.search.nearest_version.Goals as goal

pub returns-clause-ok : goal.returns-clause-ok
returns-clause-ok g c =
    let elements = g.T.HasElements.elements in
    let at = key_of c.args.at.now in
    let t = c.args.as_of.0 in
    let near = c.args.near in
    let down = c.in_ok-found.ensures in
    told_both (elements c.args.store.now) (λ es empty first. past_answered es at near c.args.last t c.first_version.result empty first)
    (last_still (elements c.args.store.now) (elements c.args.store.now) at near t c.in_ok-found.field-0 None refl c.in_default.is down.ok)
    (told_still (elements c.last_version.new.store) (elements c.args.store.now)
    (λ es. IfOk c.first_version.result (IsFirst es (numbered at (near + 1)) c.args.last t)) down.keeps.elements c.first_version.ensures.ok)
