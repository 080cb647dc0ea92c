use Rattle.std.proofs.Common.{Bool, Option, Some, None, ap, sym, ◌∙◌}
use Rattle.std.specs.Prelude.{◌==◌, if◌then◌else◌}
use Rattle.hm_model.specs.Due.{Check}
use Rattle.hm_model.specs.declared.reply.Reply.TheVariants.{Exists as exists}
use Rattle.hm_records.specs.declared.inode.Inode.{Inode}
use Rattle.hm_calls.specs.Places.{gives_way_by}
use Rattle.hm_calls.proofs.KindLemmas.{nothing_gives, way_is}
use Rattle.hm_calls.proofs.kinds.check_way.Goals as goal

pub returns-in_default-clause-check : goal.returns-in_default-clause-check
returns-in_default-clause-check c = λ scene call o read found number.
    let check : Bool → Check = λ free. if free then None else Some exists in
    let by : Option Inode → Bool = λ i. gives_way_by c.args.moved.now.inode i (c.args.there.0 == c.args.moved.now.at.object.0) in
    ap check (way_is scene call c.args.moved.now c.args.there.0 o c.args.inode read found number ∙ ap by c.in_default.is
    ∙ nothing_gives c.args.moved.now.inode (c.args.there.0 == c.args.moved.now.at.object.0))

pub returns-then-gives_way-clause-check : goal.returns-then-gives_way-clause-check
returns-then-gives_way-clause-check c = λ scene call o read found number.
    let check : Bool → Check = λ free. if free then None else Some exists in
    let by : Option Inode → Bool = λ i. gives_way_by c.args.moved.now.inode i (c.args.there.0 == c.args.moved.now.at.object.0) in
    ap check (way_is scene call c.args.moved.now c.args.there.0 o c.args.inode read found number ∙ ap by c.in-Some.is
    ∙ sym c.gives_way.ensures ∙ c.if-gives_way.true)

pub returns-else-gives_way-clause-check : goal.returns-else-gives_way-clause-check
returns-else-gives_way-clause-check c = λ scene call o read found number.
    let check : Bool → Check = λ free. if free then None else Some exists in
    let by : Option Inode → Bool = λ i. gives_way_by c.args.moved.now.inode i (c.args.there.0 == c.args.moved.now.at.object.0) in
    ap check (way_is scene call c.args.moved.now c.args.there.0 o c.args.inode read found number ∙ ap by c.in-Some.is
    ∙ sym c.gives_way.ensures ∙ c.if-gives_way.false)
