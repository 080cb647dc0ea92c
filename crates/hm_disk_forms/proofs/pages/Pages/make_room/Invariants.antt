use Rattle.std.proofs.Common.{◌≡◌, ◌<◌, ◌≤◌, ◌/◌, ℕ, IsSome}
use Rattle.std.specs.Ordering.{nat_cmp}
use Rattle.std.specs.BTreeMap as tree
use Rattle.hm_disk_forms.specs.Pages.{byte_in_pages}
use Rattle.hm_disk_forms.proofs.pages.Pages.make_room.Given as goal

-- the pages before this number are there, and no byte has changed
abbrev pub invariant-loop-number : goal.invariant-loop-number
invariant-loop-number l = record {
  made : (k : ℕ) → l.place / 4096 ≤ k → k < l.number → IsSome (tree.get nat_cmp l.self.pages k);
  same : (byte : ℕ) → byte_in_pages l.self byte ≡ byte_in_pages l.initial.self byte;
}
