use Rattle.std.proofs.Common.{◌≡◌, ◌∙◌, sym, []}
use Rattle.std.proofs.lemmas.List.Elements.{All-nil}
use Rattle.hm_disk_forms.specs.MemDisk.{FitsIn}
use Rattle.hm_disk_forms.proofs.SoundLemmas.{get_or-zeros, length-told}
use Rattle.hm_disk_forms.proofs.mem_disk.MemDisk.of_size.Goals as goal

pub invariant_of-result : goal.invariant_of-result
invariant_of-result c =
    let size = c.args.size in
    let empty : c.new-2.result.items ≡ [] = c.new-2.ensures.items in
    record {
      fit = rw empty (All-nil (FitsIn size));
      sized = rw empty (length-told size []);
      reads = λ byte below. rw empty (c.new.ensures.zero byte ∙ sym (get_or-zeros size byte below));
    }
