use Rattle.std.proofs.Common.{subst, Option}
use Rattle.hm_types.specs.Offset.{byte_of}
use Rattle.hm_types.specs.Told.{BothTell}
use Rattle.hm_disk.specs.Crash.{Told}
use Rattle.hm_disk.specs.Disk.{Written}
use Rattle.hm_recover.specs.Damage.{old_page}
use Rattle.hm_recover.specs.Put.{MayPutPage}
use Rattle.hm_recover.proofs.AnswerLemmas.{read-is}
use Rattle.hm_recover.proofs.PutLemmas.{may-put, page-may, page-put}
use Rattle.hm_recover.proofs.range.put_page.Goals as goal

pub returns-in_ok-write_page-in-Some-clause-ok : goal.returns-in_ok-write_page-in-Some-clause-ok
returns-in_ok-write_page-in-Some-clause-ok g c =
    let old = g.D.Disk.told c.args.disk.now in
    let new = g.D.Disk.told c.write_page.new.disk in
    page-put old new c.args.header.now c.args.entry c.in-Some.old.0 c.in-Some.old.1
    (read-is c.in_ok-old.field-0 old c.args.header.now c.args.entry c.in-Some.old.0 c.in-Some.old.1 c.in-Some.is c.in_ok-old.ensures.some)
    (subst (λ (o : Option Told). BothTell o new (Written (byte_of c.in-Some.old.0) c.in-Some.old.1)) c.in_ok-old.ensures.same
    c.in_ok-write_page-in-Some.ensures.ok)

pub returns-in_ok-write_page-in-Some-clause-any_moment : goal.returns-in_ok-write_page-in-Some-clause-any_moment
returns-in_ok-write_page-in-Some-clause-any_moment g c =
    let old = g.D.Disk.told c.args.disk.now in
    let new = g.D.Disk.told c.write_page.new.disk in
    let past = g.D.Disk.left_since c.args.disk.now in
    let middle = g.D.Disk.left_since c.read_entry.new.disk in
    let since = g.D.Disk.left_since c.write_page.new.disk in
    page-may old new c.args.header.now c.args.entry c.in-Some.old.0 c.in-Some.old.1 past since
    (read-is c.in_ok-old.field-0 old c.args.header.now c.args.entry c.in-Some.old.0 c.in-Some.old.1 c.in-Some.is c.in_ok-old.ensures.some)
    (may-put old new (old_page c.in-Some.old.0 c.in-Some.old.1) past middle since c.in_ok-old.ensures.any_moment
    (subst (λ (o : Option Told). BothTell o new (MayPutPage (old_page c.in-Some.old.0 c.in-Some.old.1) middle since)) c.in_ok-old.ensures.same
    c.in_ok-write_page-in-Some.ensures.any_moment))

pub returns-in_err-write_page-in-Some-clause-any_moment : goal.returns-in_err-write_page-in-Some-clause-any_moment
returns-in_err-write_page-in-Some-clause-any_moment g c =
    let old = g.D.Disk.told c.args.disk.now in
    let new = g.D.Disk.told c.write_page.new.disk in
    let past = g.D.Disk.left_since c.args.disk.now in
    let middle = g.D.Disk.left_since c.read_entry.new.disk in
    let since = g.D.Disk.left_since c.write_page.new.disk in
    page-may old new c.args.header.now c.args.entry c.in-Some.old.0 c.in-Some.old.1 past since
    (read-is c.in_ok-old.field-0 old c.args.header.now c.args.entry c.in-Some.old.0 c.in-Some.old.1 c.in-Some.is c.in_ok-old.ensures.some)
    (may-put old new (old_page c.in-Some.old.0 c.in-Some.old.1) past middle since c.in_ok-old.ensures.any_moment
    (subst (λ (o : Option Told). BothTell o new (MayPutPage (old_page c.in-Some.old.0 c.in-Some.old.1) middle since)) c.in_ok-old.ensures.same
    c.in_err-write_page-in-Some.ensures.any_moment))
