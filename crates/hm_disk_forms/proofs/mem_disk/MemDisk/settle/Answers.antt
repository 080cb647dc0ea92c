use Rattle.std.proofs.Common.{◌≡◌, ◌∷◌, [], ◌++◌, ◌∙◌, sym, ap, get_or}
use Rattle.std.proofs.lemmas.List.Elements.{All-push}
use Rattle.hm_disk_forms.specs.MemDisk.{FitsIn}
use Rattle.hm_disk_forms.specs.declared.change.Change.TheVariants.{Sync}
use Rattle.hm_disk_forms.proofs.SoundLemmas.{bytes-sync, length-told}
use Rattle.hm_disk_forms.proofs.mem_disk.MemDisk.settle.Goals as goal

pub invariant_of-self-2 : goal.invariant_of-self-2
invariant_of-self-2 c =
    let same = bytes-sync c.self.inside.size c.self.inside.changes.items in
    let noted : c.push.new.self.items ≡ c.self.inside.changes.items ++ Sync ∷ [] = c.in_ok-push.ensures.items in
    record {
      fit = rw noted (All-push (FitsIn c.self.inside.size) c.self.inside.changes.items Sync c.self.invariant.fit tt);
      sized = rw noted (length-told c.self.inside.size (c.self.inside.changes.items ++ Sync ∷ []));
      reads = rw noted (λ byte below. c.self.invariant.reads byte below ∙ sym (ap (λ bs. get_or bs byte 0) same));
    }
