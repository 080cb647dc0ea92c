use Rattle.std.proofs.Common.{◌≡◌, ◌≢◌, ◌-◌, length, get_or, arith}
use Rattle.std.proofs.lemmas.Bool.Decides.{nat_tests}
use Rattle.hm_model.specs.Lines.{line_feed}
use Rattle.hm_shell.proofs.ReadLemmas.{feeds-append, lines_ended, lines_open}
use Rattle.hm_shell.proofs.read.count_on.Goals as goal

pub returns-then-is_ended : goal.returns-then-is_ended
returns-then-is_ended c = λ text is.
    let last : get_or c.args.piece.now (length c.args.piece.now - 1) 0 ≡ line_feed = grind (arith, nat_tests, c.if-is_ended.true) in (
      omega (arith, is, c.count_feeds.ensures.value, feeds-append text c.args.piece.now),
      omega (arith, is, c.count_feeds.ensures.value, lines_ended text c.args.piece.now (length c.args.piece.now - 1) 0 (omega (arith, c.requires.some)) last),
    )

pub returns-else-is_ended : goal.returns-else-is_ended
returns-else-is_ended c = λ text is.
    let last : get_or c.args.piece.now (length c.args.piece.now - 1) 0 ≢ line_feed = λ e. grind (arith, nat_tests, c.if-is_ended.false, e) in (
      omega (arith, is, c.count_feeds.ensures.value, feeds-append text c.args.piece.now),
      omega (arith, is, c.count_feeds.ensures.value, lines_open text c.args.piece.now (length c.args.piece.now - 1) 0 (omega (arith, c.requires.some)) last),
    )
