use Rattle.std.proofs.Common.{◌≡◌, ℕ, ◌+◌, ◌-◌, ◌<◌, subst, arith, IfSome}
use Rattle.std.proofs.lemmas.Result.{err_from_is_err_and}
use Rattle.hm_types.specs.Told.{BothTell}
use Rattle.hm_disk.specs.Crash.{Told}
use Rattle.hm_disk.proofs.DiskLemmas.{BothTell-and, BothTell-then}
use Rattle.hm_undo.specs.Log.{entry_at}
use Rattle.hm_recover.specs.Put.{HasPutPage, MayPut}
use Rattle.hm_recover.specs.Recovery.{HasSpaceFor}
use Rattle.hm_recover.specs.Stop.{IsNoDamage, IsNoRange}
use Rattle.hm_recover.proofs.AnswerLemmas.{IfSome-back}
use Rattle.hm_recover.proofs.PutLemmas.{PutSoFar, may-more, so-far-more, still-whole}
use Rattle.hm_recover.proofs.range.put_back.Goals as goal

pub loop-i-preserved : goal.loop-i-preserved
loop-i-preserved g c =
    let header = c.args.header.now in
    let was = c.loop-i.invariant in
    let put = c.in_ok-put_page.ensures in
    let i = c.loop-i.i in
    let old = g.D.Disk.told c.args.disk.now in
    let told = g.D.Disk.told c.loop-i.disk in
    let new = g.D.Disk.told c.put_page.new.disk in
    let past = g.D.Disk.left_since c.args.disk.now in
    let middle = g.D.Disk.left_since c.loop-i.disk in
    let since = g.D.Disk.left_since c.put_page.new.disk in
    let next : i ≡ i - 1 + 1 = omega (arith, c.loop-i-test.true) in
    let below : i - 1 < header.undo_count = omega (arith, c.loop-i-test.true, c.loop-i.auto.i) in
    let Both : ℕ → Told → Told → Type 0 = λ n t u. HasPutPage header n t u × MayPut header n middle since t u in
    let both : BothTell told new (Both (entry_at header.undo_first (i - 1))) =
    subst (λ (n : ℕ). BothTell told new (Both n)) c.entry_at.ensures.value (BothTell-and told new _ _ put.ok put.any_moment) in
    record {
      told = BothTell-then old told new (HasSpaceFor header.bigblocks) _ (Both (entry_at header.undo_first (i - 1))) _
          (λ s t u fits first then olds range. so-far-more header olds s range past middle since t u (i - 1) below
          (subst (λ (n : ℕ). PutSoFar olds n past middle s t) next (first olds range)) then.0 then.1)
          c.requires.space was.told both;
      space = put.space;
      counted = omega (arith, was.counted, put.cause.never_falls);
    }

pub returns-in_err-put_page-clause-any_moment : goal.returns-in_err-put_page-clause-any_moment
returns-in_err-put_page-clause-any_moment g c =
    let header = c.args.header.now in
    let was = c.loop-i.invariant in
    let put = c.in_err-put_page.ensures in
    let i = c.loop-i.i in
    let old = g.D.Disk.told c.args.disk.now in
    let told = g.D.Disk.told c.loop-i.disk in
    let new = g.D.Disk.told c.put_page.new.disk in
    let past = g.D.Disk.left_since c.args.disk.now in
    let middle = g.D.Disk.left_since c.loop-i.disk in
    let since = g.D.Disk.left_since c.put_page.new.disk in
    let next : i ≡ i - 1 + 1 = omega (arith, c.loop-i-test.true) in
    let below : i - 1 < header.undo_count = omega (arith, c.loop-i-test.true, c.loop-i.auto.i) in
    BothTell-then old told new (HasSpaceFor header.bigblocks) _ (MayPut header (entry_at header.undo_first (i - 1)) middle since) _
    (λ s t u fits first then olds range. may-more header olds s range past middle since t u (i - 1) below
    (subst (λ (n : ℕ). PutSoFar olds n past middle s t) next (first olds range)) then)
    c.requires.space was.told (subst (λ (n : ℕ). BothTell told new (MayPut header n middle since)) c.entry_at.ensures.value put.any_moment)

pub returns-in_err-put_page-clause-err : goal.returns-in_err-put_page-clause-err
returns-in_err-put_page-clause-err g c =
    let header = c.args.header.now in
    let was = c.loop-i.invariant in
    let i = c.loop-i.i in
    let old = g.D.Disk.told c.args.disk.now in
    let told = g.D.Disk.told c.loop-i.disk in
    let past = g.D.Disk.left_since c.args.disk.now in
    let middle = g.D.Disk.left_since c.loop-i.disk in
    let stop = c.in_err-put_page.field-0.0 in
    let next : i ≡ i - 1 + 1 = omega (arith, c.loop-i-test.true) in
    let below : i - 1 < header.undo_count = omega (arith, c.loop-i-test.true, c.loop-i.auto.i) in
    let p = err_from_is_err_and c.from_residual.result c.from_residual.ensures.1 in
    rw (p.1, p.2) (IfSome-back old told (HasSpaceFor header.bigblocks) (IsNoDamage header (entry_at header.undo_first (i - 1)) stop) (IsNoRange header stop) _
    (λ s t fits first holds olds range. holds (still-whole header olds s range past middle t (i - 1) below
    (subst (λ (n : ℕ). PutSoFar olds n past middle s t) next (first olds range))))
    c.requires.space was.told
    (subst (λ (n : ℕ). IfSome told (IsNoDamage header n stop)) c.entry_at.ensures.value c.in_err-put_page.ensures.err))
