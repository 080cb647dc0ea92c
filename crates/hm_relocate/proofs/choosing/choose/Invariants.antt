use Rattle.std.proofs.Common.{◌≡◌, ◌-◌, ◌<◌, ℕ}
use Rattle.std.specs.List.{Contains, filter, range_with_len}
use Rattle.std.specs.List.Sorted.{IsNonDecreasing}
use Rattle.hm_types.specs.Layout.{first_pool}
use Rattle.hm_types.specs.References.{References}
use Rattle.hm_freemap.specs.Stand.{StandBy}
use Rattle.hm_pages.specs.Store.{contents}
use Rattle.hm_stored.specs.Heap.{heap_of, maps_of}
use Rattle.hm_stored.specs.Turn.{LooksSame}
use Rattle.hm_relocate.specs.Chosen.{is_chosen}
use Rattle.hm_relocate.specs.Leaving.{AppendsToNone}
use Rattle.hm_relocate.proofs.choosing.choose.Given as goal

abbrev pub invariant-loop-block : goal.invariant-loop-block
invariant-loop-block g l =
    let s = l.fn.stored.space in
    let t = l.stored.space in
    let h = heap_of (contents s.pages.store) (g.D.Disk.told s.disk) s.books in
    record {
      looks : LooksSame h (heap_of (contents t.pages.store) (g.D.Disk.told t.disk) t.books);
      root : l.stored.root ≡ l.fn.stored.root;
      disk : t.disk ≡ s.disk;
      -- those before this one were looked at
      exact : (states : References) → StandBy s.books.bigblocks s.books.append (maps_of h) states
          → l.chosen.items ≡ filter (is_chosen l.fill s.books.append states.current)
          (range_with_len (first_pool s.books.bigblocks) (l.block - first_pool s.books.bigblocks));
      rising : IsNonDecreasing l.chosen.items;
      below : (b : ℕ) → Contains l.chosen.items b → b < l.block;
      apart : AppendsToNone s.books.append l.chosen.items;
    }
