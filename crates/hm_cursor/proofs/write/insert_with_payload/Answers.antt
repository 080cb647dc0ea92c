use Rattle.hm_key.specs.Elements.{last_id}
use Rattle.hm_key.specs.Key.{key_of}
use Rattle.hm_key.specs.Marks.{Marks}
use Rattle.hm_key.specs.declared.element.Element.{Element}
use Rattle.std.proofs.Common.{length}
use Rattle.hm_cursor.proofs.WriteLemmas.{inserted_ok}
use Rattle.hm_cursor.proofs.write.insert_with_payload.Goals as goal

pub insert-requires-clause-element : goal.insert-requires-clause-element
insert-requires-clause-element g c = c.requires.new.element _

pub returns-clause-ok : goal.returns-clause-ok
returns-clause-ok g c =
    let e : Element = record { base = c.args.base.now; payload = c.in_ok-payload.payload; len = length c.args.bytes.now } in
    inserted_ok g.T.HasElements.elements g.T.HasElements.mark g.T.HasRoom.extents c.args.base.now c.args.bytes.now c.in_ok-payload.payload
    (Marks (key_of c.args.base.now) (last_id e))
    c.args.store.now c.place.new.self c.insert.new.self c.insert.result c.in_ok-payload.ensures.ok.extents c.insert.ensures.ok
    (g.met.T.Extents.live c.place.new.self) c.requires.new.some
