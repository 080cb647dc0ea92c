use Rattle.std.proofs.Common.{◌≡◌, ◌+◌, ◌<◌, ◌∙◌, ℕ, List, [], ◌∷◌, ◌++◌, ap, sym, subst, arith, length, get_or, take}
use Rattle.std.proofs.lemmas.List.{take_more}
use Rattle.std.proofs.lemmas.List.Elements.{All-get_or}
use Rattle.hm_types.specs.Calls.{no_calls}
use Rattle.hm_disk_forms.specs.MemDisk.{DiskState, FitsIn, told_of, with_change}
use Rattle.hm_disk_forms.specs.declared.change.Change.{Change}
use Rattle.hm_disk_forms.proofs.SoundLemmas.{length-told}
use Rattle.hm_disk_forms.proofs.mem_disk.MemDisk.after_changes.Goals as goal

pub replay-requires : goal.replay-requires
replay-requires c =
    let size = c.self.inside.size in
    let changes = c.self.inside.changes.items in
    let index = c.loop-index.index in
    let change = c.index.result.now in
    let below : index < length changes =
    omega (arith, c.requires, c.loop-index-test.true, ap (λ (d : DiskState). length d.changes) c.self.view_is) in
    let disk_size : c.loop-index.disk.size ≡ size =
    ap (λ (d : DiskState). d.size) c.loop-index.invariant ∙ sym (ap (λ (d : DiskState). d.size) c.self.view_is) in
    let same : length (told_of c.loop-index.disk).bytes ≡ size = length-told c.loop-index.disk.size c.loop-index.disk.changes ∙ disk_size in
    subst (λ (n : ℕ). FitsIn n change) (sym same)
    (subst (λ (one : Change). FitsIn size one) (sym c.index.ensures) (All-get_or (FitsIn size) changes index change below c.self.invariant.fit))

pub loop-index-preserved : goal.loop-index-preserved
loop-index-preserved c =
    let old = c.args.self.now in
    let index = c.loop-index.index in
    let change = c.index.result.now in
    let below : index < length old.changes = omega (arith, c.requires, c.loop-index-test.true) in
    let is : get_or old.changes index change ≡ change =
    sym (c.index.ensures ∙ ap (λ (d : DiskState). get_or d.changes index change) c.self.view_is) in
    let more : take index old.changes ++ change ∷ [] ≡ take (index + 1) old.changes =
    sym (take_more old.changes index change below ∙ ap (λ (one : Change). take index old.changes ++ one ∷ []) is) in
    c.in_ok-replay.ensures.ok
    ∙ (ap (λ (d : DiskState). with_change d change) c.loop-index.invariant
    ∙ ap (λ (changes : List Change). record { size = old.size; changes = changes; calls = no_calls [] }) more)

pub returns-clause-sized : goal.returns-clause-sized
returns-clause-sized c =
    let old = c.args.self.now in
    let disk = c.loop-index.disk in
    let size : disk.size ≡ old.size = ap (λ (d : DiskState). d.size) c.loop-index.invariant in
    length-told disk.size disk.changes ∙ (size ∙ sym (length-told old.size old.changes))
