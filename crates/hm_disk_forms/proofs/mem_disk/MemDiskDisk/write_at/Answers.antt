use Rattle.std.proofs.Common.{◌≡◌, inl, inr, ⊎_elim, ◌≤◌, ◌/◌, ◌∙◌, ap, refl, arith, length, take}
use Rattle.std.proofs.lemmas.List.{length-take}
use Rattle.hm_disk.specs.Crash.{Told}
use Rattle.hm_disk_forms.specs.MemDisk.{DiskState, with_calls, with_change}
use Rattle.hm_disk_forms.specs.declared.change.Change.TheVariants.{Write}
use Rattle.hm_disk_forms.proofs.MemLemmas.{either, told-same, Written-write, Torn-write, moment-written, past-same, past-written, CallElapses-write}
use Rattle.hm_disk_forms.proofs.MemLemmas.{Unchanged-same, CallElapses-same}
use Rattle.hm_disk_forms.proofs.mem_disk.MemDiskDisk.write_at.Goals as goal

pub returns-in-Ok-clause-ok : goal.returns-in-Ok-clause-ok
returns-in-Ok-clause-ok c =
    let old = c.args.self.now in
    let bytes = c.args.bytes.now in
    let write = Write c.args.place (length bytes) bytes in
    let is : c.put-2.new.self ≡ with_change (with_calls old c.begin.new.self) write =
    c.in-Ok.ensures.ok ∙ ap (λ (d : DiskState). with_change (with_calls d c.begin.new.self) write) c.self.view_is in
    Written-write old c.put-2.new.self (ap (λ (d : DiskState). d.size) is) c.args.place (length bytes) bytes
    (ap (λ (d : DiskState). d.changes) is) (omega arith) c.requires.within refl

pub returns-in-Ok-clause-moment : goal.returns-in-Ok-clause-moment
returns-in-Ok-clause-moment c =
    let old = c.args.self.now in
    let bytes = c.args.bytes.now in
    let write = Write c.args.place (length bytes) bytes in
    let is : c.put-2.new.self ≡ with_change (with_calls old c.begin.new.self) write =
    c.in-Ok.ensures.ok ∙ ap (λ (d : DiskState). with_change (with_calls d c.begin.new.self) write) c.self.view_is in
    moment-written old c.put-2.new.self (ap (λ (d : DiskState). d.size) is) c.args.place (length bytes) bytes
    (ap (λ (d : DiskState). d.changes) is) (omega arith) c.requires.within

pub returns-in-Ok-clause-past : goal.returns-in-Ok-clause-past
returns-in-Ok-clause-past c =
    let old = c.args.self.now in
    let bytes = c.args.bytes.now in
    let write = Write c.args.place (length bytes) bytes in
    let is : c.put-2.new.self ≡ with_change (with_calls old c.begin.new.self) write =
    c.in-Ok.ensures.ok ∙ ap (λ (d : DiskState). with_change (with_calls d c.begin.new.self) write) c.self.view_is in
    past-written old c.put-2.new.self (ap (λ (d : DiskState). d.size) is) c.args.place (length bytes) bytes
    (ap (λ (d : DiskState). d.changes) is) (omega arith) c.requires.within

pub returns-in-Ok-clause-any_moment : goal.returns-in-Ok-clause-any_moment
returns-in-Ok-clause-any_moment c =
    let old = c.args.self.now in
    let bytes = c.args.bytes.now in
    let write = Write c.args.place (length bytes) bytes in
    let is : c.put-2.new.self ≡ with_change (with_calls old c.begin.new.self) write =
    c.in-Ok.ensures.ok ∙ ap (λ (d : DiskState). with_change (with_calls d c.begin.new.self) write) c.self.view_is in
    CallElapses-write old c.put-2.new.self (ap (λ (d : DiskState). d.size) is) c.args.place (length bytes) bytes
    (ap (λ (d : DiskState). d.changes) is) (omega arith) c.requires.within

-- a listed call: half of the bytes were put, or nothing was
pub returns-then-is_err-clause-err : goal.returns-then-is_err-clause-err
returns-then-is_err-clause-err c =
    let old = c.args.self.now in
    let new = c.put.new.self in
    let count = length c.args.bytes.now in
    let half = take (count / 2) c.args.bytes.now in
    let calls = c.begin.new.self in
    let front : length half ≤ count = omega (arith, length-take (count / 2) c.args.bytes.now) in
    ⊎_elim
    (λ (put : new ≡ with_change _ (Write c.args.place count half)).
    let is = put ∙ ap (λ (d : DiskState). with_change (with_calls d calls) (Write c.args.place count half)) c.self.view_is in
    inl (Torn-write old new (ap (λ (d : DiskState). d.size) is) c.args.place count half (ap (λ (d : DiskState). d.changes) is) front c.requires.within))
    (λ refused. let is = refused ∙ ap (λ (d : DiskState). with_calls d calls) c.self.view_is in
    inr (Unchanged-same old new (ap (λ (d : DiskState). d.size) is) (ap (λ (d : DiskState). d.changes) is)))
    (either c.put.result c.put.ensures.ok c.put.ensures.err)

pub returns-then-is_err-clause-moment : goal.returns-then-is_err-clause-moment
returns-then-is_err-clause-moment c =
    let old = c.args.self.now in
    let new = c.put.new.self in
    let count = length c.args.bytes.now in
    let half = take (count / 2) c.args.bytes.now in
    let calls = c.begin.new.self in
    let front : length half ≤ count = omega (arith, length-take (count / 2) c.args.bytes.now) in
    ⊎_elim
    (λ (put : new ≡ with_change _ (Write c.args.place count half)).
    let is = put ∙ ap (λ (d : DiskState). with_change (with_calls d calls) (Write c.args.place count half)) c.self.view_is in
    moment-written old new (ap (λ (d : DiskState). d.size) is) c.args.place count half (ap (λ (d : DiskState). d.changes) is) front c.requires.within)
    (λ refused. let is = refused ∙ ap (λ (d : DiskState). with_calls d calls) c.self.view_is in
    ap (λ (told : Told). told.moment) (told-same old new (ap (λ (d : DiskState). d.size) is) (ap (λ (d : DiskState). d.changes) is)))
    (either c.put.result c.put.ensures.ok c.put.ensures.err)

pub returns-then-is_err-clause-past : goal.returns-then-is_err-clause-past
returns-then-is_err-clause-past c =
    let old = c.args.self.now in
    let new = c.put.new.self in
    let count = length c.args.bytes.now in
    let half = take (count / 2) c.args.bytes.now in
    let calls = c.begin.new.self in
    let front : length half ≤ count = omega (arith, length-take (count / 2) c.args.bytes.now) in
    ⊎_elim
    (λ (put : new ≡ with_change _ (Write c.args.place count half)).
    let is = put ∙ ap (λ (d : DiskState). with_change (with_calls d calls) (Write c.args.place count half)) c.self.view_is in
    past-written old new (ap (λ (d : DiskState). d.size) is) c.args.place count half (ap (λ (d : DiskState). d.changes) is) front c.requires.within)
    (λ refused. let is = refused ∙ ap (λ (d : DiskState). with_calls d calls) c.self.view_is in
    past-same old new (ap (λ (d : DiskState). d.size) is) (ap (λ (d : DiskState). d.changes) is))
    (either c.put.result c.put.ensures.ok c.put.ensures.err)

pub returns-then-is_err-clause-any_moment : goal.returns-then-is_err-clause-any_moment
returns-then-is_err-clause-any_moment c =
    let old = c.args.self.now in
    let new = c.put.new.self in
    let count = length c.args.bytes.now in
    let half = take (count / 2) c.args.bytes.now in
    let calls = c.begin.new.self in
    let front : length half ≤ count = omega (arith, length-take (count / 2) c.args.bytes.now) in
    ⊎_elim
    (λ (put : new ≡ with_change _ (Write c.args.place count half)).
    let is = put ∙ ap (λ (d : DiskState). with_change (with_calls d calls) (Write c.args.place count half)) c.self.view_is in
    CallElapses-write old new (ap (λ (d : DiskState). d.size) is) c.args.place count half (ap (λ (d : DiskState). d.changes) is) front c.requires.within)
    (λ refused. let is = refused ∙ ap (λ (d : DiskState). with_calls d calls) c.self.view_is in
    CallElapses-same old new (ap (λ (d : DiskState). d.size) is) c.args.place count (ap (λ (d : DiskState). d.changes) is))
    (either c.put.result c.put.ensures.ok c.put.ensures.err)
