use Rattle.std.proofs.Common.{◌≡◌, ◌<◌, ◌≤◌, ◌+◌, ◌-◌, ℕ, length, slice_index}
use Rattle.hm_disk_forms.specs.Pages.{byte_in_pages}
use Rattle.hm_disk_forms.proofs.pages.Pages.read.Given as goal

-- so many bytes are filled in
abbrev pub invariant-loop-done : goal.invariant-loop-done
invariant-loop-done l = record {
  sized : length l.buf ≡ length l.initial.buf;
  within : l.done ≤ length l.buf;
  filled : (i : ℕ) → i < l.done → slice_index l.buf i ≡ byte_in_pages l.self (l.place + i);
}

abbrev pub decreases-loop-done : goal.decreases-loop-done
decreases-loop-done l = length l.initial.buf - l.done
