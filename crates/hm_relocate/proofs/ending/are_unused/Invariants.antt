use Rattle.std.proofs.Common.{◌≡◌, ℕ, take}
use Rattle.std.specs.List.{Contains}
use Rattle.hm_pages.specs.Store.{contents}
use Rattle.hm_stored.specs.Heap.{heap_of}
use Rattle.hm_stored.specs.Turn.{LooksSame}
use Rattle.hm_relocate.specs.Leaving.{HasNothingLive}
use Rattle.hm_relocate.proofs.ending.are_unused.Given as goal

abbrev pub invariant-loop-block : goal.invariant-loop-block
invariant-loop-block g l =
    let s = l.fn.stored.space in
    let t = l.stored.space in
    let now = heap_of (contents t.pages.store) (g.D.Disk.told t.disk) t.books in
    record {
      looks : LooksSame (heap_of (contents s.pages.store) (g.D.Disk.told s.disk) s.books) now;
      root : l.stored.root ≡ l.fn.stored.root;
      disk : t.disk ≡ s.disk;
      -- nothing is live in those before this one
      unused : (b : ℕ) → Contains (take l.block-index l.blocks) b → HasNothingLive now b;
    }
