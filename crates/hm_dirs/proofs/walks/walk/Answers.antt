use Rattle.std.proofs.Common.{◌-◌, ◌∙◌, List, arith, drop, length, take}
use Rattle.hm_path.specs.declared.part.Part.{Part}
use Rattle.hm_dirs.specs.Walk.{mode_of}
use Rattle.hm_dirs.proofs.WalkLoopLemmas.{before_is, first_and_more, now_on, same_twice}
use Rattle.hm_dirs.proofs.WalkPartsLemmas.{loop_begins, loop_goes, loop_lost}
use Rattle.hm_dirs.proofs.walks.walk.Goals as goal

pub loop-rest-init : goal.loop-rest-init
loop-rest-init g c = record {
  over = loop_begins (g.T.HasElements.elements c.args.store.now) (g.T.HasRoom.extents c.args.store.now) c.args.course
      (g.met.T.ElementStore.sorted c.args.store.now)
      (g.H.NameHash.hash_of c.args.hash.now) c.args.follow c.args.parts.now c.in_ok-stand.stand c.in_ok-stand.ensures.ok;
  now = λ none. (none, c.in_ok-stand.ensures.now);
  keeps = c.in_ok-stand.ensures.keeps;
  name = c.in_ok-stand.ensures.borrowed.0;
  frame = c.in_ok-stand.ensures.borrowed.1;
  faults = c.in_ok-stand.ensures.cause.counted.never_falls;
}

pub returns-in-Err-clause-ok : goal.returns-in-Err-clause-ok
returns-in-Err-clause-ok g c =
    let more : List Part = take (length c.loop-rest.rest.now - 1) (drop 1 c.loop-rest.rest.now) in
    loop_lost (g.T.HasElements.elements c.args.store.now) (g.T.HasRoom.extents c.args.store.now) c.args.course (g.met.T.ElementStore.sorted c.args.store.now)
    (g.H.NameHash.hash_of c.args.hash.now) c.args.follow c.before-here.result c.args.parts.now c.loop-rest.rest.now more c.part-item.result c.loop-rest.stand
    c.in_ok-next.field-0 (g.T.HasElements.elements c.loop-rest.store) (g.T.HasRoom.extents c.loop-rest.store)
    c.loop-rest.invariant.keeps.elements c.loop-rest.invariant.keeps.extents
    (first_and_more c.loop-rest.rest.now c.part-item.result c.in-len1-up.len_at_least c.part-item.is)
    (c.before-here.ensures ∙ before_is
    (mode_of c.args.follow) more c.is_empty.result c.is_empty.ensures) c.loop-rest.invariant.over c.in_ok-next.ensures.ok c.in-Err.lost c.in-Err.is

pub returns-in-Err-clause-now : goal.returns-in-Err-clause-now
returns-in-Err-clause-now g c =
    let more : List Part = take (length c.loop-rest.rest.now - 1) (drop 1 c.loop-rest.rest.now) in
    λ none. rw c.in-Err.is at
    (now_on c.loop-rest.rest.now more c.part-item.result c.loop-rest.stand c.in_ok-next.field-0
    (first_and_more c.loop-rest.rest.now c.part-item.result c.in-len1-up.len_at_least c.part-item.is)
    (c.loop-rest.invariant.now none) c.in_ok-next.ensures.now).1

pub loop-rest-preserved : goal.loop-rest-preserved
loop-rest-preserved g c =
    let more : List Part = take (length c.loop-rest.rest.now - 1) (drop 1 c.loop-rest.rest.now) in
    record {
      over = loop_goes (g.T.HasElements.elements c.args.store.now) (g.T.HasRoom.extents c.args.store.now) c.args.course
          (g.met.T.ElementStore.sorted c.args.store.now)
          (g.H.NameHash.hash_of c.args.hash.now) c.args.follow c.before-here.result c.args.parts.now c.loop-rest.rest.now more c.part-item.result
          c.loop-rest.stand
          c.in_ok-next.field-0 (g.T.HasElements.elements c.loop-rest.store) (g.T.HasRoom.extents c.loop-rest.store)
          c.loop-rest.invariant.keeps.elements c.loop-rest.invariant.keeps.extents
          (first_and_more c.loop-rest.rest.now c.part-item.result c.in-len1-up.len_at_least c.part-item.is)
          (c.before-here.ensures ∙ before_is
          (mode_of c.args.follow) more c.is_empty.result c.is_empty.ensures) c.loop-rest.invariant.over c.in_ok-next.ensures.ok c.in-Ok.next c.in-Ok.is;
      now = λ none. rw c.in-Ok.is at
          (now_on c.loop-rest.rest.now more c.part-item.result c.loop-rest.stand c.in_ok-next.field-0
          (first_and_more c.loop-rest.rest.now c.part-item.result c.in-len1-up.len_at_least c.part-item.is)
          (c.loop-rest.invariant.now none) c.in_ok-next.ensures.now);
      keeps = same_twice c.loop-rest.invariant.keeps c.in_ok-next.ensures.keeps;
      name = c.in_ok-next.ensures.borrowed.0 ∙ c.loop-rest.invariant.name;
      frame = c.in_ok-next.ensures.borrowed.1 ∙ c.loop-rest.invariant.frame;
      faults = omega (arith, c.loop-rest.invariant.faults, c.in_ok-next.ensures.cause.counted.never_falls);
    }
