use Rattle.std.proofs.Common.{◌≤◌, ◌+◌, ◌∙◌, ℕ, List, Option, length, arith, refl, subst}
use Rattle.std.specs.Prelude.{IfSome}
use Rattle.hm_dirs.proofs.LeadToldLemmas.{noted_length, told_few, told_few_at, told_many, told_noted}
use Rattle.hm_dirs.proofs.spot.has_few_leading.Goals as goal

pub returns-in_default-clause-ok : goal.returns-in_default-clause-ok
returns-in_default-clause-ok g c hash =
    let was = c.loop-key.invariant in
    let es = g.T.HasElements.elements c.args.store.now in
    let xs = g.T.HasRoom.extents c.args.store.now in
    let es' = g.T.HasElements.elements c.loop-key.store in
    let xs' = g.T.HasRoom.extents c.loop-key.store in
    let t = c.args.as_of.0 in
    let pfs = c.args.pfs.0 in
    let directory = c.args.directory in
    let first = c.args.first in
    let key = c.loop-key.key in
    let last = first + 65535 in
    let names = c.loop-key.names.items in
    told_few hash es es' xs xs' t pfs directory first key last names c.in_ok-at.field-0 was.keeps.elements was.keeps.extents c.in_ok-at.ensures.ok
    (was.known hash) c.in_default.is was.few refl

pub returns-then-len-clause-ok : goal.returns-then-len-clause-ok
returns-then-len-clause-ok g c hash =
    let was = c.loop-key.invariant in
    let es = g.T.HasElements.elements c.args.store.now in
    let xs = g.T.HasRoom.extents c.args.store.now in
    let es' = g.T.HasElements.elements c.loop-key.store in
    let xs' = g.T.HasRoom.extents c.loop-key.store in
    let t = c.args.as_of.0 in
    let pfs = c.args.pfs.0 in
    let directory = c.args.directory in
    let first = c.args.first in
    let key = c.loop-key.key in
    let last = first + 65535 in
    let names = c.loop-key.names.items in
    let now = c.add_new.new.names.items in
    let at = c.in-Some.at in
    let name = c.in-Some.name in
    let between = subst (λ (o : Option (ℕ × List ℕ)). IfSome o (λ pair. (key ≤ pair.0) × (pair.0 ≤ last))) c.in-Some.is c.in_ok-at.ensures.between in
    told_many hash es xs t pfs directory first (at + 1) now (omega (arith, c.len.ensures, c.if-len.true)) (omega (arith, between.1))
    (told_noted hash es es' xs xs' t pfs directory first key last names c.in_ok-at.field-0 was.keeps.elements was.keeps.extents c.in_ok-at.ensures.ok
    (was.known hash) at name now c.in_ok-add_new.field-0 (g.met.T.ElementStore.sorted c.args.store.now) c.in-Some.is c.requires.first was.from between.0
    (omega (arith, between.1)) c.in_ok-add_new.ensures)

pub returns-clause-ok : goal.returns-clause-ok
returns-clause-ok g c hash =
    let was = c.loop-key.invariant in
    told_few_at hash (g.T.HasElements.elements c.args.store.now) (g.T.HasRoom.extents c.args.store.now) c.args.as_of.0 c.args.pfs.0 c.args.directory
    c.args.first c.loop-key.key c.loop-key.names.items (omega (arith, was.to, c.loop-key-test.false)) was.few (was.known hash)

pub loop-key-preserved : goal.loop-key-preserved
loop-key-preserved g c =
    let was = c.loop-key.invariant in
    let es = g.T.HasElements.elements c.args.store.now in
    let xs = g.T.HasRoom.extents c.args.store.now in
    let es' = g.T.HasElements.elements c.loop-key.store in
    let xs' = g.T.HasRoom.extents c.loop-key.store in
    let t = c.args.as_of.0 in
    let pfs = c.args.pfs.0 in
    let directory = c.args.directory in
    let first = c.args.first in
    let key = c.loop-key.key in
    let last = first + 65535 in
    let names = c.loop-key.names.items in
    let now = c.add_new.new.names.items in
    let at = c.in-Some.at in
    let name = c.in-Some.name in
    let between = subst (λ (o : Option (ℕ × List ℕ)). IfSome o (λ pair. (key ≤ pair.0) × (pair.0 ≤ last))) c.in-Some.is c.in_ok-at.ensures.between in
    let read = c.in_ok-at.ensures in
    let grown : length now ≤ length names + 1 = noted_length names name now c.in_ok-add_new.field-0 c.in_ok-add_new.ensures in
    record {
      from = omega (arith, was.from, between.0);
      to = omega (arith, between.1);
      few = omega (arith, was.few, grown, c.len.ensures, c.if-len.false);
      known = λ hash. told_noted hash es es' xs xs' t pfs directory first key last names c.in_ok-at.field-0 was.keeps.elements was.keeps.extents
          c.in_ok-at.ensures.ok (was.known hash) at name now c.in_ok-add_new.field-0 (g.met.T.ElementStore.sorted c.args.store.now) c.in-Some.is
          c.requires.first was.from between.0
          (omega (arith, between.1)) c.in_ok-add_new.ensures;
      keeps = record {
        elements = read.keeps.elements ∙ was.keeps.elements;
        mark = read.keeps.mark ∙ was.keeps.mark;
        extents = read.keeps.extents ∙ was.keeps.extents;
        room = read.keeps.room ∙ was.keeps.room;
        free = read.keeps.free ∙ was.keeps.free;
      };
      name = read.borrowed.0 ∙ was.name;
      frame = read.borrowed.1 ∙ was.frame;
      faults = omega (arith, was.faults, read.cause.counted.never_falls);
    }
