use Rattle.std.proofs.Common.{Option, List, None, Some, arith, subst}
use Rattle.std.specs.Prelude.{IfSome}
use Rattle.std.proofs.lemmas.Result.{err_from_is_err_and}
use Rattle.hm_key.specs.Balance.{payload_of}
use Rattle.hm_key.specs.Extents.{Extent}
use Rattle.hm_key.specs.Key.{key_of}
use Rattle.hm_cursor.specs.Told.{IsPayloadDamage}
use Rattle.hm_cursor.specs.Version.{IsFirst}
use Rattle.hm_dirs.specs.Entries.{IsNamed, IsNextName}
use Rattle.hm_dirs.proofs.SpanLemmas.{first_damage, spelled_there}
use Rattle.hm_dirs.proofs.StoreLemmas.{nothing_balanced}
use Rattle.hm_cursor.specs.Names.{IsNoEntry}
use Rattle.hm_cursor.proofs.EntryLemmas.{none_before, none_in}
use Rattle.hm_cursor.proofs.StoreLemmas.{caused_later, first_still, nothing_known, on_told}
use Rattle.hm_dirs.proofs.spot.next_name.Goals as goal

pub returns-in_default-clause-ok : goal.returns-in_default-clause-ok
returns-in_default-clause-ok g c =
    let at = key_of c.entry_base-at.result in
    let key = c.args.key in
    let last = c.args.last in
    let t = c.args.as_of.0 in
    let pfs = c.args.pfs.0 in
    let directory = c.args.directory in
    let es = g.T.HasElements.elements c.args.store.now in
    let xs = g.T.HasRoom.extents c.args.store.now in
    on_told es xs (λ list. IsFirst list at last t None) (λ _. Unit {0}) (λ _. Unit {0})
    (IsNextName t pfs directory key last None)
    (λ list extents balanced is known any. none_in list extents at pfs directory key last t c.entry_base-at.ensures is)
    (first_still es es at last t c.in_ok-entry.field-0 None (λ _. es) c.in_default.is c.in_ok-entry.ensures.ok) (nothing_known xs) (nothing_balanced es xs)

pub returns-in_err-name-clause-cause : goal.returns-in_err-name-clause-cause
returns-in_err-name-clause-cause g c =
    let at = key_of c.entry_base-at.result in
    let last = c.args.last in
    let t = c.args.as_of.0 in
    let es = g.T.HasElements.elements c.args.store.now in
    let xs = g.T.HasRoom.extents c.args.store.now in
    let e = c.in-Some.entry in
    let searched = c.in_ok-entry.ensures in
    let read = c.in_err-name.ensures in
    let fault = c.in_err-name.field-0.0 in
    let none : IfSome xs (λ extents. IsNoEntry extents e fault) =
    subst (λ (o : Option (List Extent)). IfSome o (λ extents. IsNoEntry extents e fault)) searched.keeps.extents read.damage in
    let p = err_from_is_err_and c.from_residual-in_err-name.result c.from_residual-in_err-name.ensures.1 in
    rw (p.1, p.2) (record {
      counted = record {
        never_falls = omega (arith, searched.cause.counted.never_falls, read.counted.never_falls);
        caused = caused_later (g.T.Counted.faults c.args.store.now) (g.T.Counted.faults c.first_version.new.store)
            (g.T.Counted.faults c.read_name.new.store) fault searched.cause.counted.never_falls read.counted.caused;
      };
      damage = on_told es xs (λ list. IsFirst list at last t (Some e)) (λ extents. IsNoEntry extents e fault) (λ _. Unit {0})
          (λ lists. IsPayloadDamage lists fault)
          (λ list extents balanced is known any.
          first_damage list extents at c.args.pfs.0 c.args.directory c.args.key last t c.entry_base-at.ensures e fault is known)
          (first_still es es at last t c.in_ok-entry.field-0 (Some e) (λ _. es) c.in-Some.is searched.ok) none (nothing_balanced es xs);
    })

pub returns-clause-ok : goal.returns-clause-ok
returns-clause-ok g c =
    let at = key_of c.entry_base-at.result in
    let key = c.args.key in
    let last = c.args.last in
    let t = c.args.as_of.0 in
    let pfs = c.args.pfs.0 in
    let directory = c.args.directory in
    let es = g.T.HasElements.elements c.args.store.now in
    let xs = g.T.HasRoom.extents c.args.store.now in
    let e = c.in-Some.entry in
    let name = c.in_ok-name.name in
    let searched = c.in_ok-entry.ensures in
    let read = c.in_ok-name.ensures in
    let here = c.entry_base-at.ensures in
    on_told es xs (λ list. IsFirst list at last t (Some e)) (λ extents. IsNamed (payload_of extents e) name) (λ _. Unit {0})
    (IsNextName t pfs directory key last (Some (e.base.key, name)))
    (λ list extents balanced is spelled any. (
      (λ k from below. none_before list extents at pfs directory key last t here e is k from below),
      (spelled.0, spelled_there list extents at pfs directory key last t here e name spelled.0 is spelled.1),
    ))
    (first_still es es at last t c.in_ok-entry.field-0 (Some e) (λ _. es) c.in-Some.is searched.ok)
    (subst (λ (o : Option (List Extent)). IfSome o (λ extents. IsNamed (payload_of extents e) name)) searched.keeps.extents read.ok)
    (nothing_balanced es xs)
