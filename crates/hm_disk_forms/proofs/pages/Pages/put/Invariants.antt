use Rattle.std.proofs.Common.{◌≤◌, ◌-◌, length, take}
use Rattle.hm_disk_forms.specs.Pages.{PagesAreThere, Overwrites, byte_in_pages}
use Rattle.hm_disk_forms.proofs.pages.Pages.put.Given as goal

-- so many bytes are written
abbrev pub invariant-loop-done : goal.invariant-loop-done
invariant-loop-done l = record {
  within : l.done ≤ length l.bytes;
  there : PagesAreThere l.self l.place (length l.bytes);
  written : Overwrites (byte_in_pages l.initial.self) (byte_in_pages l.self) l.place (take l.done l.bytes);
}

abbrev pub decreases-loop-done : goal.decreases-loop-done
decreases-loop-done l = length l.bytes - l.done
