use Rattle.std.proofs.Common.{ap, inl, inr}
use Rattle.std.proofs.lemmas.Result.{on_ok_weaker}
use Rattle.hm_types.specs.Elements.{FullElement}
use Rattle.hm_key.specs.Key.{key_of}
use Rattle.hm_key.specs.Versions.{Adds}
use Rattle.hm_cursor.specs.Write.{AddsOfType, full_with}
use Rattle.hm_cursor.proofs.CallLemmas.{unknown, writes_so}
use Rattle.hm_cursor.proofs.WriteLemmas.{added_ok, fresh_lacks}
use Rattle.hm_cursor.proofs.write.add_version.Goals as goal

pub insert_with_payload-requires-clause-lacks : goal.insert_with_payload-requires-clause-lacks
insert_with_payload-requires-clause-lacks g c =
    fresh_lacks (key_of c.args.base.now) (g.T.HasElements.elements c.args.store.now) (g.T.HasRoom.extents c.args.store.now)
    (g.met.T.Extents.together c.args.store.now) c.requires.fresh

pub returns-clause-ok : goal.returns-clause-ok
returns-clause-ok g c =
    added_ok g.T.HasElements.elements g.T.HasRoom.extents c.args.base.now c.args.bytes.now c.args.store.now c.insert_with_payload.new.store
    c.insert_with_payload.result
    c.requires.new.unclosed c.requires.fresh c.insert_with_payload.ensures.ok

pub returns-clause-kind : goal.returns-clause-kind
returns-clause-kind g c =
    let elements = g.T.HasElements.elements in
    let extents = g.T.HasRoom.extents in
    let base = c.args.base.now in
    let bytes = c.args.bytes.now in
    on_ok_weaker c.insert_with_payload.result
    (λ added. writes_so elements extents (Adds (full_with base bytes)) (AddsOfType base.obj_type) (λ _. Unit {0})
    c.args.store.now c.insert_with_payload.new.store (unknown elements extents c.args.store.now)
    (λ was es' known adds x has. elim ((adds x).0 has) [
      | inl new ↦ inr (ap (λ (e : FullElement). e.obj_type) new)
      | inr old ↦ inl old
    ]) added)
    c.insert_with_payload.ensures.ok
