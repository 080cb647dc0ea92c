use Rattle.std.proofs.Common.{◌≡◌, ◌+◌, ◌∙◌, ℕ, None, Some, ap, arith, sym}
use Rattle.std.specs.Prelude.{is_some}
use Rattle.std.proofs.lemmas.Result.{err_from_is_err_and}
use Rattle.hm_key.specs.Key.{key_of}
use Rattle.hm_cursor.proofs.EntryLemmas.{found_between}
use Rattle.hm_cursor.proofs.StoreLemmas.{caused_later, first_still, read_still}
use Rattle.hm_dirs.specs.Names.{first_key}
use Rattle.hm_dirs.proofs.GoneToldLemmas.{none_of, some_of, told_all, told_damage, told_more, told_moved, told_past, told_placed, told_taken}
use Rattle.hm_dirs.proofs.close.close_name.Goals as goal
use Rattle.hm_dirs.proofs.close.close_name.Goals.{then-is_some+in_ok-close_versions, else-is_some}

pub returns-in_default-clause-ok : goal.returns-in_default-clause-ok
returns-in_default-clause-ok g c =
    let elements = g.T.HasElements.elements in
    let extents = g.T.HasRoom.extents in
    let was = c.loop-key.invariant in
    let old = c.args.store.now in
    let now = c.first_version.new.store in
    let at = key_of c.entry_base-at.result in
    let first = c.keys_of-key.result.0 in
    let last = c.keys_of-key.result.1 in
    let pfs = c.args.pfs.0 in
    let name = c.args.name.now in
    let i = c.args.id.0 in
    let hash = g.H.NameHash.hash_of c.args.hash.now in
    let searched = c.in_ok-entry.ensures in
    let number : first ≡ first_key (hash name) = c.keys_of-key.ensures.first ∙ ap first_key c.hash.ensures in
    let size : last + 1 ≡ first + 65536 = omega (arith, c.keys_of-key.ensures.last) in
    let none = first_still (elements c.loop-key.store) (elements now) at last i c.in_ok-entry.field-0 None (sym searched.keeps.elements)
    c.in_default.is searched.ok in
    told_taken pfs c.args.directory name i first hash (last + 1) (elements old) (elements now) (extents old) (extents now) number size
    (g.met.T.ElementStore.sorted old) (g.met.T.ElementStore.sorted now)
    (told_all pfs c.args.directory name i first at c.loop-key.key last c.entry_base-at.ensures (elements old) (elements now) (extents old) (extents now) none
    (told_moved pfs c.args.directory name i first c.loop-key.key (elements old) (elements c.loop-key.store) (elements now)
    (extents old) (extents c.loop-key.store) (extents now) searched.keeps.elements searched.keeps.extents was.gone))

pub returns-clause-ok : goal.returns-clause-ok
returns-clause-ok g c =
    let elements = g.T.HasElements.elements in
    let extents = g.T.HasRoom.extents in
    let was = c.loop-key.invariant in
    let old = c.args.store.now in
    let now = c.loop-key.store in
    let first = c.keys_of-key.result.0 in
    let name = c.args.name.now in
    let hash = g.H.NameHash.hash_of c.args.hash.now in
    let number : first ≡ first_key (hash name) = c.keys_of-key.ensures.first ∙ ap first_key c.hash.ensures in
    let size : c.loop-key.key ≡ first + 65536 = omega (arith, c.keys_of-key.ensures.last, was.to, c.loop-key-test.false) in
    told_taken c.args.pfs.0 c.args.directory name c.args.id.0 first hash c.loop-key.key (elements old) (elements now) (extents old) (extents now) number size
    (g.met.T.ElementStore.sorted old) (g.met.T.ElementStore.sorted now) was.gone

pub returns-in_default-clause-placed : goal.returns-in_default-clause-placed
returns-in_default-clause-placed g c =
    let elements = g.T.HasElements.elements in
    let extents = g.T.HasRoom.extents in
    let was = c.loop-key.invariant in
    let old = c.args.store.now in
    let now = c.first_version.new.store in
    let first = c.keys_of-key.result.0 in
    let searched = c.in_ok-entry.ensures in
    told_placed c.args.pfs.0 c.args.directory c.args.name.now c.args.id.0 first c.loop-key.key (elements old) (elements now) (extents old) (extents now)
    (told_moved c.args.pfs.0 c.args.directory c.args.name.now c.args.id.0 first c.loop-key.key (elements old) (elements c.loop-key.store) (elements now)
    (extents old) (extents c.loop-key.store) (extents now) searched.keeps.elements searched.keeps.extents was.gone)

pub returns-clause-placed : goal.returns-clause-placed
returns-clause-placed g c =
    let elements = g.T.HasElements.elements in
    let extents = g.T.HasRoom.extents in
    told_placed c.args.pfs.0 c.args.directory c.args.name.now c.args.id.0 c.keys_of-key.result.0 c.loop-key.key (elements c.args.store.now)
    (elements c.loop-key.store) (extents c.args.store.now) (extents c.loop-key.store) c.loop-key.invariant.gone

pub returns-in_err-object_named-clause-cause : goal.returns-in_err-object_named-clause-cause
returns-in_err-object_named-clause-cause g c =
    let elements = g.T.HasElements.elements in
    let extents = g.T.HasRoom.extents in
    let faults = g.T.Counted.faults in
    let was = c.loop-key.invariant in
    let old = c.args.store.now in
    let now = c.first_version.new.store in
    let at = key_of c.entry_base-at.result in
    let first = c.keys_of-key.result.0 in
    let last = c.keys_of-key.result.1 in
    let pfs = c.args.pfs.0 in
    let name = c.args.name.now in
    let i = c.args.id.0 in
    let e = c.in-Some.entry in
    let searched = c.in_ok-entry.ensures in
    let read = c.in_err-object_named.ensures in
    let fault = c.in_err-object_named.field-0.0 in
    let found = first_still (elements c.loop-key.store) (elements now) at last i c.in_ok-entry.field-0 (Some e) (sym searched.keeps.elements)
    c.in-Some.is searched.ok in
    let p = err_from_is_err_and c.from_residual-in_err-object_named.result c.from_residual-in_err-object_named.ensures.1 in
    rw (p.1, p.2) (record {
      counted = record {
        never_falls = omega (arith, was.faults, searched.cause.counted.never_falls, read.counted.never_falls);
        caused = caused_later (faults old) (faults now) (faults c.object_named.new.store) fault
            (omega (arith, was.faults, searched.cause.counted.never_falls)) read.counted.caused;
      };
      damage = told_damage pfs c.args.directory name i first at c.loop-key.key last c.entry_base-at.ensures e fault (elements old) (elements now)
          (extents old) (extents now) found read.damage
          (told_moved pfs c.args.directory name i first c.loop-key.key (elements old) (elements c.loop-key.store) (elements now)
          (extents old) (extents c.loop-key.store) (extents now) searched.keeps.elements searched.keeps.extents was.gone);
    })

room_of : (zone : ℕ) {a b : ℕ → ℕ} → a ≡ b → a zone ≡ b zone
room_of zone same = ap (λ (r : ℕ → ℕ). r zone) same

pub loop-key-preserved : goal.loop-key-preserved
loop-key-preserved g c =
    let elements = g.T.HasElements.elements in
    let extents = g.T.HasRoom.extents in
    let room = g.T.HasRoom.room in
    let free = g.T.HasRoom.free in
    let faults = g.T.Counted.faults in
    let was = c.loop-key.invariant in
    let old = c.args.store.now in
    let mid = c.object_named.new.store in
    let new = c.if-is_some.store in
    let at = key_of c.entry_base-at.result in
    let key = c.loop-key.key in
    let first = c.keys_of-key.result.0 in
    let last = c.keys_of-key.result.1 in
    let pfs = c.args.pfs.0 in
    let directory = c.args.directory in
    let name = c.args.name.now in
    let i = c.args.id.0 in
    let e = c.in-Some.entry in
    let here = c.entry_base-at.ensures in
    let searched = c.in_ok-entry.ensures in
    let read = c.in_ok-object_named.ensures in
    let object = c.in_ok-object_named.field-0 in
    let between = found_between at pfs directory key last i c.in_ok-entry.field-0 e here c.in-Some.is searched.found in
    let same = read.keeps.elements ∙ searched.keeps.elements in
    let stay = read.keeps.extents ∙ searched.keeps.extents in
    let content = g.met.T.ElementStore.sorted mid in
    let found = first_still (elements c.loop-key.store) (elements mid) at last i c.in_ok-entry.field-0 (Some e) (sym same) c.in-Some.is searched.ok in
    let gone = told_moved pfs directory name i first key (elements old) (elements c.loop-key.store) (elements mid)
    (extents old) (extents c.loop-key.store) (extents mid) same stay was.gone in
    record {
      from = omega (arith, was.from, between.0);
      to = omega (arith, between.1);
      gone = elim c.if-is_some.branch [
        | then-is_some+in_ok-close_versions w ↦
            let one = some_of object (sym c.is_some.ensures ∙ w.if-is_some.true) in
            let closed = w.in_ok-close_versions.ensures in
            let spelled = read_still (extents c.first_version.new.store) (extents mid) e name object (Some one.0) (sym read.keeps.extents) one.1 read.ok in
            let after = w.close_versions.new.store in
            told_moved pfs directory name i first (e.base.key + 1) (elements old) (elements after) (elements new) (extents old) (extents after) (extents new)
            (ap elements w.store-is) (ap extents w.store-is)
            (told_more pfs directory name i first at key last here e one.0 (elements old) (elements mid) (elements after)
            (extents old) (extents mid) (extents after) content found spelled closed.ok closed.placed gone)
        | else-is_some w ↦
            let none = none_of object (sym c.is_some.ensures ∙ w.if-is_some.false) in
            let other = read_still (extents c.first_version.new.store) (extents mid) e name object None (sym read.keeps.extents) none read.ok in
            told_moved pfs directory name i first (e.base.key + 1) (elements old) (elements mid) (elements new) (extents old) (extents mid) (extents new)
            (ap elements w.store-is) (ap extents w.store-is)
            (told_past pfs directory name i first at key last here e (elements old) (elements mid) (extents old) (extents mid) content found other gone)
      ];
      elements = elim c.if-is_some.branch [
        | then-is_some+in_ok-close_versions w ↦
            ap (λ s. is_some (elements s)) w.store-is ∙ w.in_ok-close_versions.ensures.keeps.elements ∙ ap is_some same ∙ was.elements
        | else-is_some w ↦ ap (λ s. is_some (elements s)) w.store-is ∙ ap is_some same ∙ was.elements
      ];
      extents = elim c.if-is_some.branch [
        | then-is_some+in_ok-close_versions w ↦
            ap (λ s. is_some (extents s)) w.store-is ∙ w.in_ok-close_versions.ensures.keeps.extents ∙ ap is_some stay ∙ was.extents
        | else-is_some w ↦ ap (λ s. is_some (extents s)) w.store-is ∙ ap is_some stay ∙ was.extents
      ];
      space = elim c.if-is_some.branch [
        | then-is_some+in_ok-close_versions w ↦
            let closed = w.in_ok-close_versions.ensures in
            record {
              room = λ zone. omega (
                arith,
                room_of zone searched.keeps.room,
                room_of zone read.keeps.room,
                ap (λ s. room s zone) w.store-is,
                closed.space.room zone,
                was.space.room zone,
              );
              free = omega (arith, searched.keeps.free, read.keeps.free, ap free w.store-is, closed.space.free, was.space.free);
            }
        | else-is_some w ↦ record {
          room = λ zone. omega (arith, room_of zone searched.keeps.room, room_of zone read.keeps.room, ap (λ s. room s zone) w.store-is, was.space.room zone);
          free = omega (arith, searched.keeps.free, read.keeps.free, ap free w.store-is, was.space.free);
        }
      ];
      name = elim c.if-is_some.branch [
        | then-is_some+in_ok-close_versions w ↦
            ap g.T.Counted.name w.store-is ∙ w.in_ok-close_versions.ensures.borrowed.0 ∙ read.borrowed.0 ∙ searched.borrowed.0 ∙ was.name
        | else-is_some w ↦ ap g.T.Counted.name w.store-is ∙ read.borrowed.0 ∙ searched.borrowed.0 ∙ was.name
      ];
      frame = elim c.if-is_some.branch [
        | then-is_some+in_ok-close_versions w ↦
            ap g.T.Counted.frame w.store-is ∙ w.in_ok-close_versions.ensures.borrowed.1 ∙ read.borrowed.1 ∙ searched.borrowed.1 ∙ was.frame
        | else-is_some w ↦ ap g.T.Counted.frame w.store-is ∙ read.borrowed.1 ∙ searched.borrowed.1 ∙ was.frame
      ];
      faults = elim c.if-is_some.branch [
        | then-is_some+in_ok-close_versions w ↦
            omega (
              arith,
              was.faults,
              searched.cause.counted.never_falls,
              read.counted.never_falls,
              ap faults w.store-is,
              w.in_ok-close_versions.ensures.cause.counted.never_falls,
            )
        | else-is_some w ↦ omega (arith, was.faults, searched.cause.counted.never_falls, read.counted.never_falls, ap faults w.store-is)
      ];
    }
