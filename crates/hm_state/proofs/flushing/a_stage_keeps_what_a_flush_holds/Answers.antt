use Rattle.std.proofs.Common.{refl}
use Rattle.hm_flush.specs.Ends.{as_read}
use Rattle.hm_flush.specs.Group.{group_of}
use Rattle.hm_state.proofs.CurrentLemmas.{current_held}
use Rattle.hm_state.proofs.MovedLemmas.{free_less, room_same}
use Rattle.hm_state.proofs.StageHeldLemmas.{held_after, stage_touches, touches_as_read}
use Rattle.hm_state.proofs.flushing.a_stage_keeps_what_a_flush_holds.Goals as goal

pub returns-clause-current : goal.returns-clause-current
returns-clause-current c = λ now f after old new result s t root last volume committed frozen flushes disk is does is_header holds held.
    let touches = stage_touches f (group_of old.pages) result s t does in
    current_held now f after old new result flushes root last volume is_header held s t disk is touches (as_read s) committed frozen holds

pub returns-clause-as_read : goal.returns-clause-as_read
returns-clause-as_read c = λ now f after old new result s t root last volume committed frozen flushes disk is does is_header held holds.
    let touches = touches_as_read f (group_of old.pages) result s t (stage_touches f (group_of old.pages) result s t does) in
    held_after now f after old new result flushes root last volume is_header held s (as_read s) (as_read t) disk refl committed frozen holds touches
    (c.what_is_guarded_as_read_stays_so.ensures now f after old.pages new.pages result s t flushes.flush flushes.ready flushes.before.sound flushes.ends does
    holds.guarded)

pub returns-clause-told : goal.returns-clause-told
returns-clause-told c = λ now f after old new result s t root last volume committed frozen flushes disk is does guards is_header held holds.
    let touches = stage_touches f (group_of old.pages) result s t does in
    held_after now f after old new result flushes root last volume is_header held s s t disk refl committed frozen holds touches (guards holds.guarded)

pub returns-clause-free : goal.returns-clause-free
returns-clause-free c = λ now f after old new result flushes. (free_less now f after old new result flushes, room_same now f after old new result flushes)
