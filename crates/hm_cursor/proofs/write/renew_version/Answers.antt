use Rattle.std.proofs.Common.{subst}
use Rattle.hm_key.specs.Counts.{Subject, subject_of}
use Rattle.hm_key.specs.Key.{key_of}
use Rattle.hm_cursor.specs.Write.{Writes}
use Rattle.hm_cursor.proofs.FollowLemmas.{renewed_follow}
use Rattle.hm_cursor.proofs.RewriteLemmas.{Shuts}
use Rattle.hm_cursor.proofs.WriteLemmas.{became_closed, fresh_lacks_closed, renewed_closed, renewed_ok, still_balanced, there_older}
use Rattle.hm_cursor.proofs.write.renew_version.Goals as goal

pub insert_with_payload-requires-clause-balanced : goal.insert_with_payload-requires-clause-balanced
insert_with_payload-requires-clause-balanced g c = let done = c.in_ok-close_older.ensures.ok in
    still_balanced (key_of c.args.old.now) c.args.base.now.create (g.T.HasElements.elements c.args.store.now) (g.T.HasElements.elements c.close_older.new.store)
    (g.T.HasRoom.extents c.args.store.now) (g.T.HasRoom.extents c.close_older.new.store) done.elements done.extents c.requires.balanced

pub insert_with_payload-requires-clause-lacks : goal.insert_with_payload-requires-clause-lacks
insert_with_payload-requires-clause-lacks g c =
    fresh_lacks_closed (key_of c.args.old.now) c.args.base.now.create (key_of c.args.base.now) (g.T.HasElements.elements c.args.store.now)
    (g.T.HasElements.elements c.close_older.new.store) (g.T.HasRoom.extents c.args.store.now) (g.met.T.Extents.together c.args.store.now)
    c.in_ok-close_older.ensures.ok.elements c.requires.there c.requires.fresh

pub returns-clause-ok : goal.returns-clause-ok
returns-clause-ok g c =
    let done = c.in_ok-close_older.ensures.ok in
    let i = c.args.base.now.create in
    let es = g.T.HasElements.elements in
    let xs = g.T.HasRoom.extents in
    let old = c.args.store.now in
    let mid = c.close_older.new.store in
    let closed = became_closed (key_of c.args.old.now) i (es old) (es mid) (xs old) (xs mid) done.elements done.extents c.requires.there in
    let shuts = subst (λ (s : Subject). Writes es xs (Shuts s i) old mid) c.requires.about closed in
    renewed_ok es xs c.args.base.now c.args.bytes.now old mid c.insert_with_payload.new.store c.insert_with_payload.result c.requires.new.unclosed
    c.requires.fresh shuts c.insert_with_payload.ensures.ok

pub close_older-requires-clause-older : goal.close_older-requires-clause-older
close_older-requires-clause-older g c =
    there_older (key_of c.args.old.now) c.args.base.now.create (subject_of (key_of c.args.base.now)) (g.T.HasElements.elements c.args.store.now)
    (g.T.HasRoom.extents c.args.store.now) (g.met.T.Extents.together c.args.store.now) c.requires.about c.requires.there c.requires.fresh

pub returns-clause-closed : goal.returns-clause-closed
returns-clause-closed g c =
    let done = c.in_ok-close_older.ensures.ok in
    let es = g.T.HasElements.elements in
    let xs = g.T.HasRoom.extents in
    let old = c.args.store.now in
    let mid = c.close_older.new.store in
    let i = c.args.base.now.create in
    let at = key_of c.args.old.now in
    let older = there_older at i (subject_of (key_of c.args.base.now)) (es old) (xs old) (g.met.T.Extents.together old) c.requires.about
    c.requires.there c.requires.fresh in
    let balanced = still_balanced at i (es old) (es mid) (xs old) (xs mid) done.elements done.extents c.requires.balanced in
    renewed_closed es xs at c.args.base.now c.args.bytes.now old mid c.insert_with_payload.new.store c.insert_with_payload.result done.elements
    c.requires.there (g.met.T.ElementStore.sorted mid) (g.met.T.Extents.together mid) c.insert_with_payload.ensures.keeps.elements balanced
    c.insert_with_payload.ensures.ok older

pub returns-clause-follows : goal.returns-clause-follows
returns-clause-follows g c =
    let done = c.in_ok-close_older.ensures.ok in
    let i = c.args.base.now.create in
    let es = g.T.HasElements.elements in
    let xs = g.T.HasRoom.extents in
    let old = c.args.store.now in
    let mid = c.close_older.new.store in
    let at = key_of c.args.old.now in
    let closed = became_closed at i (es old) (es mid) (xs old) (xs mid) done.elements done.extents c.requires.there in
    let shuts = subst (λ (s : Subject). Writes es xs (Shuts s i) old mid) c.requires.about closed in
    renewed_follow at c.args.base.now c.args.bytes.now c.requires.about es xs old mid c.insert_with_payload.new.store c.insert_with_payload.result
    c.requires.fresh c.requires.there shuts c.insert_with_payload.ensures.ok (returns-clause-closed g c)
