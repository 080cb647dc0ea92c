use Rattle.std.proofs.Common.{◌≡◌, ◌+◌, ◌≤◌, ◌∷◌, [], ◌++◌, ◌∙◌, ap, arith, rules, length}
use Rattle.std.proofs.lemmas.List.Elements.{All-push}
use Rattle.hm_disk_forms.specs.Pages.{byte_in_pages}
use Rattle.hm_disk_forms.specs.MemDisk.{DiskState, FitsIn, told_of}
use Rattle.hm_disk_forms.specs.MemLaws.{fits-from}
use Rattle.hm_disk_forms.specs.declared.change.Change.TheVariants.{Write}
use Rattle.hm_disk_forms.proofs.SoundLemmas.{length-told, reads-write}
use Rattle.hm_disk_forms.proofs.mem_disk.MemDisk.put.Goals as goal

pub invariant_of-self-2 : goal.invariant_of-self-2
invariant_of-self-2 c =
    let size = c.self.inside.size in
    let changes = c.self.inside.changes.items in
    let noted : c.push.new.self.items ≡ changes ++ Write c.args.place c.args.count c.args.bytes.now ∷ [] = search rules in
    let front : length c.args.bytes.now ≤ c.args.count = c.requires.front in
    let within : c.args.place + c.args.count ≤ size =
    omega (arith, length-told size changes, ap (λ (d : DiskState). length (told_of d).bytes) c.self.view_is) in
    record {
      fit = rw noted (All-push (FitsIn size) changes (Write c.args.place c.args.count c.args.bytes.now) c.self.invariant.fit
          (fits-from size c.args.place c.args.count c.args.bytes.now within front));
      sized = rw noted (length-told size (changes ++ Write c.args.place c.args.count c.args.bytes.now ∷ []));
      reads = rw noted (reads-write (byte_in_pages c.make_room.new.self) (byte_in_pages c.put.new.self) size changes c.args.place c.args.count c.args.bytes.now
          front within (λ byte below. c.in_ok-make_room.ensures.same byte ∙ c.self.invariant.reads byte below) c.put.ensures);
    }
