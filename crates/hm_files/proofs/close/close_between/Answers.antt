use Rattle.std.proofs.Common.{◌≡◌, ◌≤◌, ◌<◌, ◌+◌, ◌-◌, ◌∙◌, ℕ, None, Some, Option, ap, arith, subst, sym}
use Rattle.std.specs.Prelude.{is_some, IfSome}
use Rattle.hm_key.specs.Counts.{Subject}
use Rattle.hm_key.specs.Key.{key_of}
use Rattle.hm_key.specs.declared.element.Element.{Element}
use Rattle.hm_cursor.specs.Version.{IsFoundIn, numbered}
use Rattle.hm_cursor.proofs.StoreLemmas.{last_still}
use Rattle.hm_files.proofs.CloseLemmas.{numbered_about}
use Rattle.hm_files.proofs.CloseToldLemmas.{ClosedTold, content_told, searched_from, told_all, told_closed, told_empty, told_fresh, told_moved}
use Rattle.hm_files.proofs.CloseToldLemmas.{told_placed, told_step}
use Rattle.hm_files.proofs.close.close_between.Given.{Over}
use Rattle.hm_files.proofs.close.close_between.Goals.{In_ok-close_versions}
use Rattle.hm_files.proofs.close.close_between.Goals as goal

pub returns-in_default-clause-ok : goal.returns-in_default-clause-ok
returns-in_default-clause-ok g c =
    let elements = g.T.HasElements.elements in
    let extents = g.T.HasRoom.extents in
    let was = c.loop-key.invariant in
    let old = c.args.store.now in
    let now = c.last_version.new.store in
    let pfs = c.args.pfs.0 in
    let obj = c.args.obj.0 in
    let i = c.args.id.0 in
    let key = c.loop-key.key in
    let at = key_of c.bytes_base-at.result in
    let about = c.bytes_base-at.ensures.about in
    let span = numbered at c.args.first in
    let searched = c.in_ok-element.ensures in
    let none = searched_from (elements now) at span pfs obj key i None about
    (last_still (elements c.loop-key.store) (elements now) span at.key i c.in_ok-element.field-0 None (sym searched.keeps.elements)
    c.in_default.is searched.ok) in
    told_closed pfs obj i c.args.last c.args.first (elements old) (elements now) (extents old) (extents now)
    (told_all pfs obj i c.args.last span c.args.first key (numbered_about at pfs obj key c.args.first about) was.high (elements old) (elements now)
    (extents old) (extents now) c.loop-key-test.true c.requires.older none
    (told_moved pfs obj i c.args.last (key + 1) (elements old) (elements c.loop-key.store) (elements now) (extents old) (extents c.loop-key.store)
    (extents now) searched.keeps.elements searched.keeps.extents was.closed))

pub returns-in_default-clause-placed : goal.returns-in_default-clause-placed
returns-in_default-clause-placed g c =
    let elements = g.T.HasElements.elements in
    let extents = g.T.HasRoom.extents in
    let was = c.loop-key.invariant in
    let old = c.args.store.now in
    let now = c.last_version.new.store in
    let searched = c.in_ok-element.ensures in
    told_placed c.args.pfs.0 c.args.obj.0 c.args.id.0 c.args.last (c.loop-key.key + 1) (elements old) (elements now) (extents old) (extents now)
    (told_moved c.args.pfs.0 c.args.obj.0 c.args.id.0 c.args.last (c.loop-key.key + 1) (elements old) (elements c.loop-key.store) (elements now)
    (extents old) (extents c.loop-key.store) (extents now) searched.keeps.elements searched.keeps.extents was.closed)

pub close_versions-requires-clause-fresh : goal.close_versions-requires-clause-fresh
close_versions-requires-clause-fresh g c =
    let elements = g.T.HasElements.elements in
    let extents = g.T.HasRoom.extents in
    let was = c.loop-key.invariant in
    let old = c.args.store.now in
    let mid = c.last_version.new.store in
    let pfs = c.args.pfs.0 in
    let obj = c.args.obj.0 in
    let i = c.args.id.0 in
    let key = c.loop-key.key in
    let at = key_of c.bytes_base-at.result in
    let about = c.bytes_base-at.ensures.about in
    let span = numbered at c.args.first in
    let searched = c.in_ok-element.ensures in
    let found = searched_from (elements mid) at span pfs obj key i (Some c.in-Some.element) about
    (last_still (elements c.loop-key.store) (elements mid) span at.key i c.in_ok-element.field-0 (Some c.in-Some.element)
    (sym searched.keeps.elements) c.in-Some.is searched.ok) in
    told_fresh pfs obj i c.args.last span c.args.first key (numbered_about at pfs obj key c.args.first about) was.high c.in-Some.element
    (elements old) (elements mid) (extents old) (extents mid) c.requires.older found
    (told_moved pfs obj i c.args.last (key + 1) (elements old) (elements c.loop-key.store) (elements mid) (extents old) (extents c.loop-key.store)
    (extents mid) searched.keeps.elements searched.keeps.extents was.closed)
    (content_told (elements old) (elements mid) (extents old) (extents mid) (ap is_some searched.keeps.elements ∙ was.elements)
    (ap is_some searched.keeps.extents ∙ was.extents))

-- what was found is closed
one_more : (g : Over) (c : In_ok-close_versions g)
    → ClosedTold c.args.pfs.0 c.args.obj.0 c.args.id.0 c.in-Some.element.base.key (c.args.last + 1) (g.T.HasElements.elements c.args.store.now)
    (g.T.HasRoom.extents c.args.store.now) (g.T.HasElements.elements c.close_versions.new.store) (g.T.HasRoom.extents c.close_versions.new.store)
one_more g c =
    let elements = g.T.HasElements.elements in
    let extents = g.T.HasRoom.extents in
    let was = c.loop-key.invariant in
    let old = c.args.store.now in
    let loop = c.loop-key.store in
    let mid = c.last_version.new.store in
    let now = c.close_versions.new.store in
    let pfs = c.args.pfs.0 in
    let obj = c.args.obj.0 in
    let i = c.args.id.0 in
    let key = c.loop-key.key in
    let at = key_of c.bytes_base-at.result in
    let about = c.bytes_base-at.ensures.about in
    let span = numbered at c.args.first in
    let searched = c.in_ok-element.ensures in
    let closed = c.in_ok-close_versions.ensures in
    told_step pfs obj i c.args.last span c.args.first key (numbered_about at pfs obj key c.args.first about) was.high
    c.in_ok-element.field-0 c.in-Some.element (elements old) (elements loop) (elements mid) (elements now)
    (extents old) (extents loop) (extents mid) (extents now)
    searched.keeps.elements searched.keeps.extents c.in-Some.is c.requires.older
    (searched_from (elements loop) at span pfs obj key i c.in_ok-element.field-0 about searched.ok) closed.ok closed.placed was.closed

pub returns-then-element-first-clause-ok : goal.returns-then-element-first-clause-ok
returns-then-element-first-clause-ok g c =
    let elements = g.T.HasElements.elements in
    let extents = g.T.HasRoom.extents in
    let old = c.args.store.now in
    let now = c.close_versions.new.store in
    let closed = subst (λ (n : ℕ). ClosedTold c.args.pfs.0 c.args.obj.0 c.args.id.0 n (c.args.last + 1)
    (elements old) (extents old) (elements now) (extents now))
    c.if-element-first.true (one_more g c.before) in
    told_closed c.args.pfs.0 c.args.obj.0 c.args.id.0 c.args.last c.args.first (elements old) (elements now) (extents old) (extents now) closed

pub returns-then-element-first-clause-placed : goal.returns-then-element-first-clause-placed
returns-then-element-first-clause-placed g c =
    told_placed c.args.pfs.0 c.args.obj.0 c.args.id.0 c.args.last c.in-Some.element.base.key (g.T.HasElements.elements c.args.store.now)
    (g.T.HasElements.elements c.close_versions.new.store) (g.T.HasRoom.extents c.args.store.now) (g.T.HasRoom.extents c.close_versions.new.store)
    (one_more g c.before)

room_of : (zone : ℕ) {a b : ℕ → ℕ} → a ≡ b → a zone ≡ b zone
room_of zone same = ap (λ (r : ℕ → ℕ). r zone) same

pub loop-key-preserved : goal.loop-key-preserved
loop-key-preserved g c =
    let elements = g.T.HasElements.elements in
    let extents = g.T.HasRoom.extents in
    let was = c.loop-key.invariant in
    let old = c.args.store.now in
    let now = c.close_versions.new.store in
    let at = key_of c.bytes_base-at.result in
    let span = numbered at c.args.first in
    let searched = c.in_ok-element.ensures in
    let closed = c.in_ok-close_versions.ensures in
    let found : IfSome (Some c.in-Some.element) (IsFoundIn span at.key c.args.id.0) =
    subst (λ (o : Option Element). IfSome o (IsFoundIn span at.key c.args.id.0)) c.in-Some.is searched.found in
    let place = found.seen.place in
    let down : c.in-Some.element.base.key ≤ c.loop-key.key = omega (arith, place.to, ap (λ (s : Subject). s.key) c.bytes_base-at.ensures.about) in
    let above : c.args.first < c.in-Some.element.base.key = omega (arith, place.from, c.if-element-first.false) in
    let next : c.in-Some.element.base.key ≡ c.in-Some.element.base.key - 1 + 1 = omega (arith, above) in
    record {
      low = omega (arith, above);
      high = omega (arith, down, was.high);
      closed = subst (λ (n : ℕ). ClosedTold c.args.pfs.0 c.args.obj.0 c.args.id.0 n (c.args.last + 1) (elements old) (extents old) (elements now) (extents now))
          next (one_more g c.before);
      elements = closed.keeps.elements ∙ ap is_some searched.keeps.elements ∙ was.elements;
      extents = closed.keeps.extents ∙ ap is_some searched.keeps.extents ∙ was.extents;
      space = record {
        room = λ zone. omega (arith, room_of zone searched.keeps.room, closed.space.room zone, was.space.room zone);
        free = omega (arith, searched.keeps.free, closed.space.free, was.space.free);
      };
      name = closed.borrowed.0 ∙ searched.borrowed.0 ∙ was.name;
      frame = closed.borrowed.1 ∙ searched.borrowed.1 ∙ was.frame;
      faults = omega (arith, was.faults, searched.cause.counted.never_falls, closed.cause.counted.never_falls);
    }

pub returns-clause-ok : goal.returns-clause-ok
returns-clause-ok g c =
    let elements = g.T.HasElements.elements in
    let extents = g.T.HasRoom.extents in
    let was = c.loop-key.invariant in
    let last = c.args.last in
    let old = c.args.store.now in
    let now = c.loop-key.store in
    let same : c.loop-key.key + 1 ≡ last + 1 = omega (arith, was.low, was.high, c.loop-key-test.false) in
    let closed : ClosedTold c.args.pfs.0 c.args.obj.0 c.args.id.0 (last + 1) (last + 1) (elements old) (extents old) (elements now) (extents now) =
    subst (λ (n : ℕ). ClosedTold c.args.pfs.0 c.args.obj.0 c.args.id.0 n (last + 1) (elements old) (extents old) (elements now) (extents now))
    same was.closed in
    told_closed c.args.pfs.0 c.args.obj.0 c.args.id.0 last c.args.first (elements old) (elements now) (extents old) (extents now)
    (told_empty c.args.pfs.0 c.args.obj.0 c.args.id.0 last c.args.first (elements old) (elements now) (extents old) (extents now)
    (omega (arith, was.low, was.high, c.loop-key-test.false)) closed)
