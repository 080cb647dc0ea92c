use Rattle.std.proofs.Common.{◌≡◌, ◌+◌, ◌-◌, ◌∙◌, ℕ, Option, None, Some, ap, inl, refl, subst, sym, arith}
use Rattle.std.specs.Prelude.{option_map}
use Rattle.std.specs.Option.{option_or}
use Rattle.hm_types.specs.declared.id.Obj.{Obj}
use Rattle.hm_key.specs.Counts.{Counts}
use Rattle.hm_key.specs.Elements.{IsContent}
use Rattle.hm_key.specs.Key.{key_of}
use Rattle.hm_key.specs.Balance.{payload_of}
use Rattle.hm_cursor.specs.Names.{IsNameIn, IsObjectNamed}
use Rattle.hm_cursor.specs.Told.{OnBalanced, fulls}
use Rattle.hm_cursor.specs.Version.{IsLast, numbered}
use Rattle.hm_cursor.proofs.EntryLemmas.{found_down}
use Rattle.hm_cursor.proofs.NameLemmas.{name_over, named_more, none_named}
use Rattle.hm_cursor.proofs.StoreLemmas.{both, last_still, nothing_known, on_told, read_still}
use Rattle.hm_cursor.proofs.names.find_name.Goals as goal
use Rattle.hm_cursor.proofs.names.find_name.Goals.{in-Some-2, in_default-2}

pub loop-key-preserved : goal.loop-key-preserved
loop-key-preserved g c =
    let was = c.loop-key.invariant in
    let at = key_of c.entry_base-at.result in
    let key = c.loop-key.key in
    let first = c.args.first in
    let last = c.args.last in
    let t = c.args.as_of.0 in
    let pfs = c.args.pfs.0 in
    let name = c.args.name.now in
    let es = g.T.HasElements.elements c.args.store.now in
    let xs = g.T.HasRoom.extents c.args.store.now in
    let e = c.in-Some.entry in
    let searched = c.in_ok-entry.ensures in
    let read = c.in_ok-object.ensures in
    let answer = c.in_ok-object.field-0 in
    let found = last_still (g.T.HasElements.elements c.loop-key.store) es (numbered at first) at.key t c.in_ok-entry.field-0 (Some e) was.keeps.elements
    c.in-Some.is searched.ok in
    let spelled = read_still (g.T.HasRoom.extents c.last_version.new.store) xs e name answer answer
    (searched.keeps.extents ∙ was.keeps.extents) refl read.ok in
    let more = on_told es xs (λ list. IsContent list × IsLast list (numbered at first) at.key t (Some e))
    (λ extents. IsObjectNamed (payload_of extents e) name answer)
    (λ lists. IsNameIn (Counts (fulls lists) t) pfs c.args.directory (key + 1) last name c.loop-key.found)
    (λ lists. IsNameIn (Counts (fulls lists) t) pfs c.args.directory e.base.key last name
    (option_or (option_map (λ (object : Obj). (e.base.key, object)) answer) c.loop-key.found))
    (λ list extents balanced is known named.
    named_more list extents at pfs c.args.directory first key last t c.entry_base-at.ensures name answer c.loop-key.found e was.to is.0 is.1 known named)
    (both es IsContent (λ list. IsLast list (numbered at first) at.key t (Some e)) (g.met.T.ElementStore.sorted c.args.store.now) found) spelled was.known in
    let with : Option Obj → Option (ℕ × Obj) = λ a. option_or (option_map (λ (object : Obj). (e.base.key, object)) a) c.loop-key.found in
    let now : c.match-branch-4.found ≡ with answer = elim c.match-branch-4.branch [
      | in-Some-2 w ↦ w.found-is ∙ sym (ap with w.in-Some-2.is)
      | in_default-2 w ↦ w.found-is ∙ sym (ap with w.in_default-2.is)
    ] in
    let between = found_down at pfs c.args.directory key first t c.in_ok-entry.field-0 e c.entry_base-at.ensures c.in-Some.is searched.found in
    let next : e.base.key ≡ e.base.key - 1 + 1 = omega (arith, between.0, c.if-entry-first.false) in
    record {
      to = omega (arith, was.to, between.1);
      inside = inl (omega (arith, between.0, c.if-entry-first.false));
      known = subst (λ (n : ℕ). OnBalanced es xs (λ lists. IsNameIn (Counts (fulls lists) t) pfs c.args.directory n last name c.match-branch-4.found)) next
          (subst (λ (o : Option (ℕ × Obj)). OnBalanced es xs (λ lists. IsNameIn (Counts (fulls lists) t) pfs c.args.directory e.base.key last name o))
          (sym now) more);
      keeps = record {
        elements = read.keeps.elements ∙ searched.keeps.elements ∙ was.keeps.elements;
        mark = read.keeps.mark ∙ searched.keeps.mark ∙ was.keeps.mark;
        extents = read.keeps.extents ∙ searched.keeps.extents ∙ was.keeps.extents;
        room = read.keeps.room ∙ searched.keeps.room ∙ was.keeps.room;
        free = read.keeps.free ∙ searched.keeps.free ∙ was.keeps.free;
      };
      name = read.borrowed.0 ∙ searched.borrowed.0 ∙ was.name;
      frame = read.borrowed.1 ∙ searched.borrowed.1 ∙ was.frame;
      faults = omega (arith, was.faults, searched.cause.counted.never_falls, read.counted.never_falls);
    }

pub returns-then-entry-first-clause-ok : goal.returns-then-entry-first-clause-ok
returns-then-entry-first-clause-ok g c =
    let was = c.loop-key.invariant in
    let at = key_of c.entry_base-at.result in
    let key = c.loop-key.key in
    let first = c.args.first in
    let last = c.args.last in
    let t = c.args.as_of.0 in
    let pfs = c.args.pfs.0 in
    let name = c.args.name.now in
    let es = g.T.HasElements.elements c.args.store.now in
    let xs = g.T.HasRoom.extents c.args.store.now in
    let e = c.in-Some.entry in
    let searched = c.in_ok-entry.ensures in
    let read = c.in_ok-object.ensures in
    let answer = c.in_ok-object.field-0 in
    let found = last_still (g.T.HasElements.elements c.loop-key.store) es (numbered at first) at.key t c.in_ok-entry.field-0 (Some e) was.keeps.elements
    c.in-Some.is searched.ok in
    let spelled = read_still (g.T.HasRoom.extents c.last_version.new.store) xs e name answer answer
    (searched.keeps.extents ∙ was.keeps.extents) refl read.ok in
    let more = on_told es xs (λ list. IsContent list × IsLast list (numbered at first) at.key t (Some e))
    (λ extents. IsObjectNamed (payload_of extents e) name answer)
    (λ lists. IsNameIn (Counts (fulls lists) t) pfs c.args.directory (key + 1) last name c.loop-key.found)
    (λ lists. IsNameIn (Counts (fulls lists) t) pfs c.args.directory e.base.key last name
    (option_or (option_map (λ (object : Obj). (e.base.key, object)) answer) c.loop-key.found))
    (λ list extents balanced is known named.
    named_more list extents at pfs c.args.directory first key last t c.entry_base-at.ensures name answer c.loop-key.found e was.to is.0 is.1 known named)
    (both es IsContent (λ list. IsLast list (numbered at first) at.key t (Some e)) (g.met.T.ElementStore.sorted c.args.store.now) found) spelled was.known in
    let with : Option Obj → Option (ℕ × Obj) = λ a. option_or (option_map (λ (object : Obj). (e.base.key, object)) a) c.loop-key.found in
    let now : c.match-branch-4.found ≡ with answer = elim c.match-branch-4.branch [
      | in-Some-2 w ↦ w.found-is ∙ sym (ap with w.in-Some-2.is)
      | in_default-2 w ↦ w.found-is ∙ sym (ap with w.in_default-2.is)
    ] in
    subst (λ (n : ℕ). OnBalanced es xs (λ lists. IsNameIn (Counts (fulls lists) t) pfs c.args.directory n last name c.match-branch-4.found))
    c.if-entry-first.true
    (subst (λ (o : Option (ℕ × Obj)). OnBalanced es xs (λ lists. IsNameIn (Counts (fulls lists) t) pfs c.args.directory e.base.key last name o))
    (sym now) more)

pub returns-in_default-clause-ok : goal.returns-in_default-clause-ok
returns-in_default-clause-ok g c =
    let was = c.loop-key.invariant in
    let at = key_of c.entry_base-at.result in
    let key = c.loop-key.key in
    let first = c.args.first in
    let last = c.args.last in
    let t = c.args.as_of.0 in
    let pfs = c.args.pfs.0 in
    let name = c.args.name.now in
    let es = g.T.HasElements.elements c.args.store.now in
    let xs = g.T.HasRoom.extents c.args.store.now in
    let found = last_still (g.T.HasElements.elements c.loop-key.store) es (numbered at first) at.key t c.in_ok-entry.field-0 None was.keeps.elements
    c.in_default.is c.in_ok-entry.ensures.ok in
    on_told es xs (λ list. IsLast list (numbered at first) at.key t None) (λ _. Unit {0})
    (λ lists. IsNameIn (Counts (fulls lists) t) pfs c.args.directory (key + 1) last name c.loop-key.found)
    (λ lists. IsNameIn (Counts (fulls lists) t) pfs c.args.directory first last name c.loop-key.found)
    (λ list extents balanced is known named.
    none_named list extents at pfs c.args.directory first key last t c.entry_base-at.ensures name c.loop-key.found c.loop-key-test.true is named)
    found (nothing_known xs) was.known

pub returns-clause-ok : goal.returns-clause-ok
returns-clause-ok g c =
    let was = c.loop-key.invariant in
    let t = c.args.as_of.0 in
    let pfs = c.args.pfs.0 in
    let name = c.args.name.now in
    let es = g.T.HasElements.elements c.args.store.now in
    let xs = g.T.HasRoom.extents c.args.store.now in
    on_told es xs (λ _. Unit {0}) (λ _. Unit {0})
    (λ lists. IsNameIn (Counts (fulls lists) t) pfs c.args.directory (c.loop-key.key + 1) c.args.last name c.loop-key.found)
    (λ lists. IsNameIn (Counts (fulls lists) t) pfs c.args.directory c.args.first c.args.last name c.loop-key.found)
    (λ list extents balanced is known named.
    name_over (Counts (fulls (list, extents)) t) pfs c.args.directory c.args.first c.loop-key.key c.args.last name c.loop-key.found was.inside
    (omega (arith, c.loop-key-test.false)) named)
    (nothing_known es) (nothing_known xs) was.known
