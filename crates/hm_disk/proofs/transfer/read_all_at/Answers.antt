use Rattle.std.proofs.Common.{◌≡◌, ℕ, ◌+◌, ◌≤◌, ◌∙◌, arith, rules, length, slice_range, subst, sym, IfSome, Option}
use Rattle.std.proofs.lemmas.List.{places}
use Rattle.hm_disk.specs.Crash.{Told}
use Rattle.hm_disk.proofs.MomentLemmas.{SameLeft-then}
use Rattle.hm_disk.proofs.TransferLemmas.{filled-more}
use Rattle.hm_disk.proofs.transfer.read_all_at.Goals as goal

pub loop-done-preserved : goal.loop-done-preserved
loop-done-preserved g c =
    let read = c.in_ok-read_at.ensures in
    let so_far = c.loop-done.invariant in
    let place = c.args.place in
    let buf = c.loop-done.buf in
    let done = c.loop-done.done in
    let count = c.min-count.result in
    let piece = c.read_at.new.buf in
    let within : done + count ≤ length buf = omega arith in
    let long : length piece ≡ count = search (rules, places) in
    let asked : length (slice_range buf done (done + count)) ≡ count = grind (arith, places) in
    let old = g.D.Disk.told c.args.disk.now in
    let fits = subst (λ (n : ℕ). IfSome old (λ t. place + n ≤ length t.bytes)) (sym so_far.sized) c.requires.within in
    let next = subst (λ (told : Option Told). IfSome told (λ t. piece ≡ slice_range t.bytes (place + done) (place + done + count))) so_far.same
    (subst (λ (n : ℕ). IfSome (g.D.Disk.told c.loop-done.disk) (λ t. piece ≡ slice_range t.bytes (place + done) (place + done + n))) asked read.ok) in
    record {
      sized = search (rules, places);
      within = search (rules, places);
      filled = filled-more old place done count buf piece long within fits so_far.filled next;
      same = read.same ∙ so_far.same;
      past = read.past ∙ so_far.past;
      any_moment = SameLeft-then _ _ _ so_far.any_moment read.any_moment;
      counted = omega (arith, read.cause.never_falls);
    }
