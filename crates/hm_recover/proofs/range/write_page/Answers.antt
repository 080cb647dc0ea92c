use Rattle.std.proofs.Common.{◌≡◌, ℕ, ◌+◌, ◌≤◌, List, subst, sym, ◌∙◌, ap, length, IfSome, OnOk}
use Rattle.hm_types.specs.Told.{BothTell}
use Rattle.hm_types.specs.Offset.{byte_of}
use Rattle.hm_types.specs.declared.limits.TheConstants.{PAGE_BYTES}
use Rattle.hm_disk.specs.Disk.{Written}
use Rattle.hm_recover.proofs.PutLemmas.{page-written}
use Rattle.hm_recover.proofs.range.write_page.Goals as goal

pub returns-clause-ok : goal.returns-clause-ok
returns-clause-ok g c =
    let old = g.D.Disk.told c.args.disk.now in
    let new = g.D.Disk.told c.write_at.new.self in
    subst (λ (n : ℕ). OnOk c.write_at.result (BothTell old new (Written n c.args.old.now.1))) c.byte.ensures.value
    (subst (λ (bs : List ℕ). OnOk c.write_at.result (BothTell old new (Written c.byte.result bs))) c.bytes.ensures.value c.write_at.ensures.ok)

pub returns-clause-any_moment : goal.returns-clause-any_moment
returns-clause-any_moment g c =
    let old = g.D.Disk.told c.args.disk.now in
    let long : length c.bytes.result.now ≡ PAGE_BYTES = ap (λ (bs : List ℕ). length bs) c.bytes.ensures.value ∙ c.bytes.ensures.sized in
    page-written c.write_at.result old (g.D.Disk.told c.write_at.new.self) c.args.old.now.0 c.byte.result c.args.old.now.1 c.bytes.result.now
    (g.D.Disk.left_since c.args.disk.now) (g.D.Disk.left_since c.write_at.new.self) c.byte.ensures.value c.bytes.ensures.value
    (subst (λ (n : ℕ). IfSome old (λ t. n + length c.bytes.result.now ≤ length t.bytes)) (sym c.byte.ensures.value)
    (subst (λ (n : ℕ). IfSome old (λ t. byte_of c.args.old.now.0 + n ≤ length t.bytes)) (sym long) c.requires.within))
    c.write_at.ensures.ok c.write_at.ensures.err c.write_at.ensures.any_moment
