use Rattle.std.proofs.Common.{◌≡◌, ℕ, ◌+◌, ◌≤◌, ◌∙◌, arith, length, slice_range, subst}
use Rattle.std.proofs.lemmas.List.{places}
use Rattle.hm_types.specs.Told.{BothTell}
use Rattle.hm_disk.specs.Crash.{Told}
use Rattle.hm_disk.specs.Disk.{Written}
use Rattle.hm_disk.specs.Moments.{CallElapses}
use Rattle.hm_disk.proofs.DiskLemmas.{BothTell-and, BothTell-then}
use Rattle.hm_disk.proofs.TransferLemmas.{WrittenSoFar-more}
use Rattle.hm_disk.proofs.transfer.write_all_at.Goals as goal

pub loop-done-preserved : goal.loop-done-preserved
loop-done-preserved g c =
    let place = c.args.place in
    let bytes = c.args.bytes.now in
    let done = c.loop-done.done in
    let count = c.min-count.result in
    let middle = g.D.Disk.left_since c.loop-done.disk in
    let since = g.D.Disk.left_since c.write_at.new.self in
    let past = g.D.Disk.left_since c.args.disk.now in
    let old = g.D.Disk.told c.args.disk.now in
    let told = g.D.Disk.told c.loop-done.disk in
    let new = g.D.Disk.told c.write_at.new.self in
    let within : done + count ≤ length bytes = omega arith in
    let long : length (slice_range bytes done (done + count)) ≡ count = grind (arith, places) in
    let time = subst (λ (n : ℕ). BothTell told new (CallElapses (place + done) n middle since)) long c.in_ok-write_at.ensures.any_moment in
    record {
      within = within;
      told = BothTell-then old told new (λ t. place + length bytes ≤ length t.bytes) _
          (λ (t u : Told). Written (place + done) (slice_range bytes done (done + count)) t u × CallElapses (place + done) count middle since t u) _
          (λ s t u fits first then. WrittenSoFar-more place bytes past done count within middle since s t u fits first then.0 then.1)
          c.requires.within c.loop-done.invariant.told (BothTell-and told new _ _ c.in_ok-write_at.ensures.ok time);
      moment = c.in_ok-write_at.ensures.moment ∙ c.loop-done.invariant.moment;
      past = c.in_ok-write_at.ensures.past ∙ c.loop-done.invariant.past;
      counted = omega (arith, c.in_ok-write_at.ensures.cause.never_falls);
    }
