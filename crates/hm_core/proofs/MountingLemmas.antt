-- The space of a volume that was read.
use Rattle.std.proofs.Common.{◌≡◌, ⊎_elim, ℕ, ◌≤◌, List, [], Option, Some, None, refl, sym, ap, subst, ◌∙◌, arith}
use Rattle.std.specs.Prelude.{IfSome}
use Rattle.hm_types.specs.Faults.{IsCaused}
use Rattle.hm_types.specs.Layout.{IsPool}
use Rattle.hm_types.specs.Told.{BothTell}
use Rattle.hm_types.specs.declared.fault.Fault.{Fault}
use Rattle.hm_types.specs.declared.fault.Fault.TheVariants.{Damaged, Media, NoMemory}
use Rattle.hm_disk.specs.Crash.{Told}
use Rattle.hm_disk.specs.Moments.{LeftSince}
use Rattle.hm_fields.specs.Fields.{AreBytes}
use Rattle.hm_fields.specs.Pages.{PageMap}
use Rattle.hm_fields.specs.declared.states.State.{State}
use Rattle.hm_fields.specs.declared.states.State.TheVariants.{Current}
use Rattle.hm_flush.specs.declared.flush.Flush.{Flush}
use Rattle.hm_flush.specs.Calls.{FlushStands}
use Rattle.hm_flush.specs.Ends.{as_read}
use Rattle.hm_flush.specs.Flush.{idle_flush}
use Rattle.hm_header.specs.OnDisk.{HasHeader}
use Rattle.hm_header.specs.Range.{IsHeader}
use Rattle.hm_header.specs.declared.header.Header.{Header}
use Rattle.hm_freemap.specs.Faults.{IsBadBlock, IsFreemapDamage, IsGoodBlock}
use Rattle.hm_freemap.specs.Stand.{HoldsPoolEntry, Maps, entry_page}
use Rattle.hm_pages.specs.Store.{Frame as PagesFrame, Store, in_state}
use Rattle.hm_model.specs.Caused.{Counts}
use Rattle.hm_model.specs.Foreign.{Foreigners}
use Rattle.hm_model.specs.Volume.{Volume}
use Rattle.hm_model.specs.declared.entry.Entry.{Entry}
use Rattle.hm_image.specs.Stands.{StandsFor}
use Rattle.hm_load.specs.Damage.{IsWhole}
use Rattle.hm_load.specs.Held.{HoldsImage}
use Rattle.hm_load.specs.Loaded.{IsLoaded}
use Rattle.hm_stored.specs.Flushed.{IsFlushedBy}
use Rattle.hm_stored.specs.Heap.{Heap, free_of, heap_of, maps_of, room_of}
use Rattle.hm_stored.specs.Mounted.{IsBooksOf}
use Rattle.hm_stored.specs.Turn.{IsClosed, LooksSame}
use Rattle.hm_stored.specs.declared.books.Books.{Books}
use Rattle.hm_state.specs.Flushing.{HoldsFlush}
use Rattle.hm_state.specs.Volume.{HoldsVolume}
use Rattle.hm_state.proofs.MountedFlushLemmas.{mounted_committed}
use Rattle.hm_state.proofs.MountedLemmas.{mounted, mounted_free}
use Rattle.hm_core.specs.Core.{HoldsUpTo, IsGuarded, IsSoundCore, StandsOver}
use Rattle.hm_core.specs.Counts.{AreLater}
use Rattle.hm_core.specs.Crash.{LeavesPrefixes}
use Rattle.hm_core.specs.History.{IsLegalOver, up_to}
use Rattle.hm_core.specs.Inside.{IsInOrder}
use Rattle.hm_core.specs.Ledger.{IsPaid}
use Rattle.hm_core.specs.Mounting.{CommitsWhatStands, CountsFree, HoldsWhatStands, IsHeaderOn, IsReadFrom}
use Rattle.hm_core.specs.Opened.{IsMounted, MountsDisk}
use Rattle.hm_core.specs.State.{CoreState, OpenJob}
use Rattle.hm_core.proofs.BeginLemmas.{first}
use Rattle.hm_core.proofs.LedgerLemmas.{paid_first}
use Rattle.hm_core.proofs.CountLemmas.{later_same}
use Rattle.hm_core.proofs.LookedLemmas.{looked_closed, looked_flush, looked_free, looked_held}
use Rattle.hm_core.proofs.RecoveredLemmas.{AfterReads}

abbrev maps_with : PageMap → PageMap → PageMap → Maps
maps_with committed frozen current = record { committed = committed; frozen = frozen; current = current }

-- each page of a store is bytes, in each of its states
abbrev ArePages : Store → Type 0
ArePages s = (state : State) (at : ℕ) (page : List ℕ) → in_state s state at ≡ Some page → AreBytes page

-- the space over the pages that were loaded from what a disk tells
module _ (header : Header) (s : Store) (books : Books) (loaded : IsLoaded header s) (of_header : IsBooksOf header books) where
  held_told : (told : Option Told) (h : Heap) → IfSome told (IsHeaderOn header) → IfSome told (λ t. HoldsImage t.bytes header s)
      → LooksSame (heap_of s told books) h → IfSome told (HoldsWhatStands h header)
  held_told None h counts image looks = tt
  held_told (Some t) h counts image looks = λ volume stands.
      looked_held (heap_of s (Some t) books) h looks header.root header.last.0 volume
      (mounted t header counts.0 s books volume stands counts.1 loaded image of_header)

  committed_told : (told : Option Told) (h : Heap) → ArePages s → header.undo_count ≡ 0 → IfSome told (λ t. HoldsImage t.bytes header s)
      → LooksSame (heap_of s told books) h → IfSome told (CommitsWhatStands h header)
  committed_told None h bytes unarmed image looks = tt
  committed_told (Some t) h bytes unarmed image looks = λ slot volume counts stands.
      let by : (u : Told) → u.bytes ≡ t.bytes → u.unsettled ≡ [] → HoldsFlush (idle_flush header slot) h u volume volume =
      λ u same settled.
      looked_flush (heap_of s (Some t) books) h looks (idle_flush header slot) u volume volume
      (mounted_committed u (Some t) header slot s books volume (subst (λ (bs : List ℕ). StandsFor bs volume) (sym same) stands)
      (subst (λ (bs : List ℕ). HasHeader bs header slot) (sym same) counts) unarmed settled loaded
      (subst (λ (bs : List ℕ). HoldsImage bs header s) (sym same) image) of_header (bytes Current)) in
      (by (as_read t) refl refl, λ settled. by t refl settled)

  bigblocks_read : (told : Option Told) (h : Heap) → LooksSame (heap_of s told books) h → header.bigblocks ≡ h.bigblocks
  unfolding heap_of
  bigblocks_read told h looks = sym of_header.bigblocks ∙ sym (ap (λ (x : Heap). x.bigblocks) looks.rest)

  idle_read : (told : Option Told) (h : Heap) → LooksSame (heap_of s told books) h → h.pages.boundary ≡ None
  unfolding heap_of
  idle_read told h looks = ap (λ (f : PagesFrame). f.boundary) looks.pages ∙ loaded.plain.flush.1

  pub closed_first : (told : Option Told) → IsClosed (heap_of s told books)
  unfolding heap_of
  closed_first told = record { begin = loaded.plain.begin; whole = of_header.closed.1 }

  disk_first : (told : Option Told) → (heap_of s told books).disk ≡ told
  unfolding heap_of
  disk_first told = refl

  opened_is : (told disk : Option Told) (opened : Heap) → disk ≡ told → opened ≡ heap_of s disk books → opened ≡ heap_of s told books
  opened_is told disk opened same is = subst (λ (o : Option Told). opened ≡ heap_of s o books) same is

  counted_told : (told : Option Told) (free : ℕ) → free ≡ free_of (heap_of s told books) → IfSome told (IsHeaderOn header)
      → IfSome told (λ t. HoldsImage t.bytes header s) → IfSome told (CountsFree free header)
  counted_told None free is counts image = tt
  counted_told (Some t) free is counts image = λ volume stands.
      is ∙ mounted_free t header counts.0 s books volume stands counts.1 loaded image of_header

  whole_told : (told : Option Told) → IfSome told (λ t. HoldsImage t.bytes header s) → IfSome told (λ t. IsWhole t.bytes header)
  whole_told None image = tt
  whole_told (Some t) image = image.whole

  pub read_from : (told disk : Option Told) (opened now : Heap) (free : ℕ) → ArePages s → header.undo_count ≡ 0
      → IfSome told (IsHeaderOn header) → IfSome told (λ t. HoldsImage t.bytes header s) → disk ≡ told → opened ≡ heap_of s disk books → LooksSame opened now
      → free ≡ free_of opened → IsReadFrom told header free now
  read_from told disk opened now free bytes unarmed counts image kept made looks counted =
      let is : opened ≡ heap_of s told books = opened_is told disk opened kept made in
      let same : LooksSame (heap_of s told books) now = subst (λ (h : Heap). LooksSame h now) is looks in
      record {
        closed = looked_closed (heap_of s told books) now same (closed_first told);
        disk = ap (λ (h : Heap). h.disk) same.rest ∙ disk_first told;
        free_is = counted ∙ ap free_of is ∙ sym (looked_free (heap_of s told books) now same);
        counted = counted_told told free (counted ∙ ap free_of is) counts image;
        holds = held_told told now counts image same;
        committed = committed_told told now bytes unarmed image same;
        whole = whole_told told image;
        bigblocks = bigblocks_read told now same;
        idle = idle_read told now same;
      }

  -- each big-block of its pool is good
  entry_kept : (block : ℕ) → IsPool header.bigblocks block → (map : PageMap) → s.current ≡ map
      → HoldsPoolEntry (entry_page map block) block
  entry_kept block pool map is =
      let entry = loaded.entries block pool.1 in
      subst (λ (m : PageMap). HoldsPoolEntry (entry_page m block) block) is (record { entry = entry.entry.pool pool; zero = entry.zero })

  good : (block : ℕ) → IsPool header.bigblocks block
      → IsGoodBlock header.bigblocks header.append (maps_with s.committed s.frozen s.current) block
  good block pool = record {
    pool = pool;
    committed = entry_kept block pool s.committed loaded.plain.current;
    frozen = entry_kept block pool s.frozen (loaded.plain.current ∙ sym loaded.plain.frozen);
    current = entry_kept block pool s.current refl;
    zone = (loaded.entries block pool.1).appended;
  }

  bad_nowhere : (told : Option Told) (at kind : ℕ)
      → IsBadBlock (heap_of s told books).bigblocks (heap_of s told books).append (IsPool (heap_of s told books).bigblocks)
      (maps_of (heap_of s told books)) at kind → ⊥
  unfolding heap_of
  bad_nowhere told at kind damage =
      damage.bad
      (subst (λ (n : ℕ). IsGoodBlock n books.append (maps_with s.committed s.frozen s.current) damage.block) (sym of_header.bigblocks)
      (subst (λ (l : List ℕ). IsGoodBlock header.bigblocks l (maps_with s.committed s.frozen s.current) damage.block)
      (sym of_header.append.1) (good damage.block (subst (λ (n : ℕ). IsPool n damage.block) of_header.bigblocks damage.looked))))

  -- so damage of its freemap is not told
  pub no_damage : (told : Option Told) (opened : Heap) (fault : Fault) → opened ≡ heap_of s told books
      → IsFreemapDamage opened.bigblocks opened.append (IsPool opened.bigblocks) (maps_of opened) fault → IsCaused 0 0 fault
      → fault ≡ NoMemory
  no_damage told opened (Media before after) is damage caused =
      let rose = caused.rose in
      let end = caused.end in
      absurd (omega (arith, rose, end))
  no_damage told opened (Damaged at kind) is damage caused =
      absurd (bad_nowhere told at kind (subst (λ (h : Heap). IsBadBlock h.bigblocks h.append (IsPool h.bigblocks) (maps_of h) at kind) is damage))
  no_damage told opened NoMemory is damage caused = refl

-- an idle flush stands on a disk where its header counts
module _ (header : Header) (slot : ℕ) where
  idle_stands : (told : Option Told) → IfSome told (λ t. HasHeader t.bytes header slot) → IfSome told (FlushStands (idle_flush header slot))
  idle_stands None counts = tt
  idle_stands (Some t) counts = record { room = counts.room; header = counts }

  idle_ready : (told : Option Told) (free : ℕ) (h : Heap) → IfSome told (λ t. HasHeader t.bytes header slot) → IsReadFrom told header free h
      → IsFlushedBy (idle_flush header slot) h
  idle_ready told free h chosen read = record {
    closed = read.closed;
    bigblocks = read.bigblocks;
    group = read.idle;
    stands = subst (λ (d : Option Told). IfSome d (FlushStands (idle_flush header slot))) (sym read.disk) (idle_stands told chosen);
  }

-- what always holds of a core, as it is mounted
pub ordered_first : (told : Option Told) (header : Header) (slot free : ℕ) (h : Heap) → IsHeader header
    → IfSome told (λ t. HasHeader t.bytes header slot) → IsReadFrom told header free h → IsInOrder (idle_flush header slot) header.last.0 free h []
ordered_first told header slot free h range chosen read = record {
  ready = idle_ready header slot told free h chosen read;
  told = λ e has. (let below = has.1 in absurd (omega (arith, below)));
  drawn = λ e has. (let below = has.1 in absurd (omega (arith, below)));
  later = omega arith;
  target = λ flight. absurd (flight refl);
  greatest = range.last.1;
  paid = λ none. subst (λ (n : ℕ). IsPaid free n 0 (room_of h)) read.free_is (paid_first free (room_of h));
}

-- a core over a space that was read, with no history, and with an idle flush
module _ (core : CoreState) (header : Header) (slot : ℕ) (flush : core.flush ≡ idle_flush header slot) (new : core.history ≡ [])
    (root : core.root ≡ header.root) (ids : (core.last ≡ header.last.0) × (core.mounted.first ≡ header.last.0))
    (boundary : core.boundary ≡ core.flush.header.last.0) (start : core.mounted.counts ≡ core.counts) (none : core.running ≡ []) where
  header_is : core.flush.header ≡ header
  header_is = ap (λ (f : Flush). f.header) flush

  bounded : core.boundary ≡ header.last.0
  bounded = boundary ∙ ap (λ (x : Header). x.last.0) header_is

  later : AreLater core.mounted.counts core.counts
  later = subst (λ (c : Counts). AreLater core.mounted.counts c) start (later_same core.mounted.counts)

  -- no event is committed or frozen: the flush holds the opening volume
  holds_first : (opening : Volume) (foreigners : Foreigners) (t : Told) → HoldsFlush (idle_flush header slot) core.heap t opening opening
      → HoldsUpTo core opening foreigners [] t
  unfolding up_to
  holds_first opening foreigners t holds = subst (λ (f : Flush). HoldsFlush f core.heap t opening opening) (sym flush) holds

  -- on a disk that tells
  module _ (t : Told) (disk : core.heap.disk ≡ Some t) (counts : HasHeader t.bytes header slot) (committed : CommitsWhatStands core.heap header t) where
    stands_over : HoldsWhatStands core.heap header t → (opening : Volume) (foreigners : Foreigners) → StandsFor t.bytes opening
        → StandsOver core opening foreigners []
    stands_over holds opening foreigners stands =
        let held : HoldsVolume core.heap core.root core.last opening =
        subst (λ (n : ℕ). HoldsVolume core.heap n core.last opening) (sym root)
        (subst (λ (n : ℕ). HoldsVolume core.heap header.root n opening) (sym ids.0) (holds opening stands)) in
        record {
          legal = subst (λ (x : List Entry × List OpenJob).
              IsLegalOver core.mounted.free core.mounted.counts core.counts x.0 core.heap core.root core.last x.1 opening foreigners [])
              (λ i. (sym new i, sym none i))
              (first core.mounted.free core.mounted.counts core.counts core.heap core.root core.last opening foreigners later held);
          read = subst (λ (d : Option Told). IfSome d (λ u. HoldsUpTo core opening foreigners [] (as_read u))) (sym disk)
              (holds_first opening foreigners (as_read t) (committed slot opening counts stands).0);
        }

    guarded_over : t.unsettled ≡ [] → (opening : Volume) (foreigners : Foreigners) → StandsFor t.bytes opening → IsGuarded core opening foreigners []
    guarded_over settled opening foreigners stands =
        subst (λ (d : Option Told). IfSome d (HoldsUpTo core opening foreigners [])) (sym disk)
        (holds_first opening foreigners t ((committed slot opening counts stands).1 settled))

  pub is_mounted : (told : Option Told) (faults : ℕ) → faults ≤ core.counts.disk → header.undo_count ≡ 0
      → IsReadFrom told header core.mounted.free core.heap → IsSoundCore core → IsMounted faults core
  is_mounted told faults counted unarmed read sound = record {
    history = new;
    running = none;
    counts = (counted, start);
    ids = (ids.0 ∙ sym bounded, ids.1 ∙ sym bounded, boundary);
    idle = (ap (λ (f : Flush). f.at) flush, ap (λ (x : Header). x.undo_count) header_is ∙ unarmed);
    free = read.free_is;
    sound = sound;
  }

  mounts_over : (past since : LeftSince) (s t : Told) → core.heap.disk ≡ Some t → AfterReads header slot past since s t
      → CommitsWhatStands core.heap header t → HoldsWhatStands core.heap header t → IsWhole t.bytes header → CountsFree core.mounted.free header t
      → MountsDisk core past since s t
  mounts_over past since s t disk after committed holds whole counted = record {
    recovers = after.recovers;
    written = after.written;
    counts = subst (λ (f : Flush). HasHeader t.bytes f.header f.slot) (sym flush) after.counts;
    whole = subst (IsWhole t.bytes) (sym header_is) whole;
    counted = subst (λ (x : Header). CountsFree core.mounted.free x t) (sym header_is) counted;
    stands = stands_over t disk after.counts committed holds;
    guarded = λ none. guarded_over t disk after.counts committed
        (⊎_elim (λ same. ap (λ (u : Told). u.unsettled) same ∙ none) (λ range. range.1) after.written);
    crashed = subst
        (λ (n : ℕ). s.unsettled ≡ [] → (opening : Volume) (foreigners : Foreigners) → StandsFor t.bytes opening
        → LeavesPrefixes past since (λ b. b ≡ n) opening foreigners []) (sym bounded) after.crashed;
  }

  pub mounts_disk : (past since : LeftSince) (old told : Option Told) → BothTell old told (AfterReads header slot past since)
      → IsReadFrom told header core.mounted.free core.heap → BothTell old core.heap.disk (MountsDisk core past since)
  mounts_disk past since old told after read =
      subst (λ (o : Option Told). BothTell old o (MountsDisk core past since)) (sym read.disk)
      (by old told read.disk after read.committed read.holds read.whole read.counted)
    where
      by : (o n : Option Told) → core.heap.disk ≡ n → BothTell o n (AfterReads header slot past since) → IfSome n (CommitsWhatStands core.heap header)
          → IfSome n (HoldsWhatStands core.heap header) → IfSome n (λ t. IsWhole t.bytes header) → IfSome n (CountsFree core.mounted.free header)
          → BothTell o n (MountsDisk core past since)
      by None None disk after committed holds whole counted = tt
      by None (Some t) disk after committed holds whole counted = absurd after
      by (Some s) None disk after committed holds whole counted = absurd after
      by (Some s) (Some t) disk after committed holds whole counted = mounts_over past since s t disk after committed holds whole counted
