use Rattle.std.proofs.Common.{refl}
use Rattle.hm_model.specs.Words.{AreWords}
use Rattle.hm_script.specs.Texts.{texts}
use Rattle.hm_script.proofs.TextLemmas.{bad_text, no_words, no_command, one_command, found_none, found_one}
use Rattle.hm_script.proofs.reading.read_line.Goals as goal

pub returns-in_default : goal.returns-in_default
returns-in_default c = bad_text c.args.text.now c.requires (no_words c.args.text.now c.in_default.ensures)

pub returns-in_default-2 : goal.returns-in_default-2
returns-in_default-2 c =
    let are : AreWords c.args.text.now (texts c.list.result.now) = rw c.list.ensures c.in-Some.ensures in
    let none = found_none (texts c.cut_lane-lane.result.1.now) c.in_ok-command.field-0 c.in_default-2.is c.in_ok-command.ensures in
    bad_text c.args.text.now c.requires (no_command c.args.text.now (texts c.list.result.now) (texts c.cut_lane-lane.result.1.now)
    c.cut_lane-lane.result.0 are c.cut_lane-lane.ensures none)

pub returns : goal.returns
returns c =
    let are : AreWords c.args.text.now (texts c.list.result.now) = rw c.list.ensures c.in-Some.ensures in
    let one = found_one (texts c.cut_lane-lane.result.1.now) c.in_ok-command.field-0 c.in-Some-2.command c.in-Some-2.is c.in_ok-command.ensures in
    record {
      number_is = refl;
      gives = one_command c.args.text.now (texts c.list.result.now) (texts c.cut_lane-lane.result.1.now) c.cut_lane-lane.result.0 c.in-Some-2.command
          are c.cut_lane-lane.ensures one;
    }
