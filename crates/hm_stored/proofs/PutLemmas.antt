-- What a space tells as bytes are put into a new extent, or were torn there.
use Rattle.std.proofs.Common.{◌≡◌, Bool, true, false, true≢false, ℕ, ◌+◌, ◌-◌, ◌*◌, ◌≤◌, List, [], ◌∷◌, ◌++◌, take, drop, Option, Some, None, refl, sym, ap}
use Rattle.std.proofs.Common.{subst, ◌∙◌, arith, cond, eq-eqb, is_some, length, slice_range}
use Rattle.std.specs.Prelude.{All, IfSome, IsTrue, option_map, ◌&&◌}
use Rattle.std.proofs.Math.Logic.{∥∥₁_elim}
use Rattle.std.proofs.Props.{props}
use Rattle.std.proofs.lemmas.List.{take-take}
use Rattle.std.proofs.lemmas.List.Elements.{All-append, All-nil}
use Rattle.hm_types.specs.Elements.{FullElement}
use Rattle.hm_types.specs.References.{Reference}
use Rattle.hm_types.specs.Layout.{first_pool, start_of}
use Rattle.hm_types.specs.Offset.{byte_of}
use Rattle.hm_types.specs.Space.{IsPayloadZone, Spends, in_zone, rounded}
use Rattle.hm_types.specs.declared.limits.TheConstants.{BIGBLOCK_BYTES, MOST_BIGBLOCKS}
use Rattle.hm_types.specs.declared.zone.TheConstants.{SMALL_ZONE, TREE_ZONE}
use Rattle.hm_disk.specs.Crash.{MayLeave, Told}
use Rattle.hm_disk.specs.Disk.{moment_of}
use Rattle.hm_fields.specs.Pages.{PageMap}
use Rattle.hm_key.specs.Extents.{PlacesAt, with_extent}
use Rattle.hm_freemap.specs.Change.{appended}
use Rattle.hm_freemap.specs.Extents.{IsApart, Takes, reference}
use Rattle.hm_freemap.specs.Stand.{AreBelow, AreDistinct, AreOfPool, append_of, entry_of, room_in}
use Rattle.hm_freemap.proofs.ListLemmas.{all_right}
use Rattle.hm_stored.specs.Basis.{Basis, fulls_in, states_of}
use Rattle.hm_stored.specs.Calls.{Alters, ChangesExtents}
use Rattle.hm_stored.specs.DecideFirm.{is_firm}
use Rattle.hm_stored.specs.Heap.{Heap, basis_with, bytes_of, content_by, begun_content, content_with, does_hold, does_tell, fixed_of, frame_of, free_of}
use Rattle.hm_stored.specs.Fixed.{refs_with}
use Rattle.hm_stored.specs.Heap.{is_firm_with, maps_of, places_in, refs_begun, room_of}
use Rattle.hm_stored.specs.Held.{AreNodes, HeldBy, IsKept, IsSafe, Safe, with_refs}
use Rattle.hm_stored.specs.Known.{is_known}
use Rattle.hm_freemap.proofs.TakeLemmas.{handed_out}
use Rattle.hm_stored.specs.Log.{filled, one_of}
use Rattle.hm_stored.proofs.ApartLemmas.{all_apart}
use Rattle.hm_stored.proofs.BasisLemmas.{SameBasis, bases_same, begin_same, beside, fixed_told, frame_told, held_map, tell_same}
use Rattle.hm_stored.proofs.BookLemmas.{grows_put, nodes_kept}
use Rattle.hm_stored.proofs.CauseLemmas.{on_books, tells_parts}
use Rattle.hm_stored.proofs.FixedByteLemmas.{fixed_altered}
use Rattle.hm_stored.proofs.LogLemmas.{content_kept}
use Rattle.hm_stored.proofs.NewNodeLemmas.{room_whole}
use Rattle.hm_stored.proofs.PageLemmas.{nodes_same}
use Rattle.hm_stored.proofs.PayloadCallLemmas.{SameTree, both_extents, spent_tree, tree_stays}
use Rattle.hm_stored.proofs.PayloadStepLemmas.{held_place, told_place}
use Rattle.hm_stored.proofs.SafeLemmas.{fewer_used, safe_after, safe_map, uses_put}

-- both disks tell, or none does
told_alike : (was is : Option Told) (place count : ℕ) → Alters place count was is → is_some is ≡ is_some was
told_alike None None place count both = refl
told_alike (Some t) (Some u) place count both = refl
told_alike None (Some u) place count both = absurd both
told_alike (Some t) None place count both = absurd both

-- the bytes that both tell differ only there
bytes_alter : (was is : Option Told) (place count : ℕ) → Alters place count was is → MayLeave (bytes_of was) ((place, count) ∷ []) (bytes_of is)
bytes_alter None None place count both = record { size = refl; same = λ byte low outside. refl }
bytes_alter (Some t) (Some u) place count both = both.bytes
bytes_alter None (Some u) place count both = absurd both
bytes_alter (Some t) None place count both = absurd both

firm_alike : (b : Option Basis) (was is : Option Told) → is_some is ≡ is_some was → is_firm_with b is ≡ is_firm_with b was
firm_alike None was is alike = refl
firm_alike (Some b) None None alike = refl
firm_alike (Some b) (Some t) (Some u) alike = refl
firm_alike (Some b) None (Some u) alike = absurd (true≢false alike)
firm_alike (Some b) (Some t) None alike = absurd (true≢false (sym alike))

-- an extent that is taken ends in the big-block of its zone
pub take_within : (h : Heap) (zone at len : ℕ) (now : PageMap) → AreBelow h.bigblocks h.append → TREE_ZONE ≤ zone → zone ≤ SMALL_ZONE → 1 ≤ len
    → Takes h.bigblocks h.append zone len at (maps_of h) now → rounded len ≤ room_in h.append h.pages.current zone
    → byte_of at + rounded len ≤ h.bigblocks * BIGBLOCK_BYTES
take_within h zone at len now below low high some takes room =
    let is : room_in h.append h.pages.current zone ≡ BIGBLOCK_BYTES - (entry_of h.pages.current (append_of h.append zone)).append_off =
    ap (λ (t : Bool). cond t (BIGBLOCK_BYTES - (entry_of h.pages.current (append_of h.append zone)).append_off) 0) (handed_out zone low high) in
    let one = below (zone - TREE_ZONE) (omega (arith, low, high)) in
    omega (arith, room, is, some, takes.begin, one)

-- where the books were not in order, there is no content
pub unfirm : (last : ℕ) (b : Basis) (bytes : List ℕ) → is_firm b ≡ false → content_by last b bytes ≡ None
unfolding content_by
unfirm last b bytes none = ap (λ (t : Bool). cond (t && is_known last (fulls_in b bytes)) (Some (fulls_in b bytes)) None) none

-- the first bytes of a longer range
pub cut_first : (bytes : List ℕ) (from size few : ℕ) → few ≤ size → take few (slice_range bytes from (from + size)) ≡ slice_range bytes from (from + few)
cut_first bytes from size few short =
    let long : (from + size) - from ≡ size = omega arith in
    let less : (from + few) - from ≡ few = omega arith in
    ap (λ (n : ℕ). take few (take n (drop from bytes))) long
    ∙ (take-take few size (drop from bytes) short ∙ ap (λ (n : ℕ). take n (drop from bytes)) (sym less))

cut : (bytes : List ℕ) (from size : ℕ) (given : List ℕ) → length given ≤ size → slice_range bytes from (from + length given) ≡ given
    → take (length given) (slice_range bytes from (from + size)) ≡ given
cut bytes from size given short is = cut_first bytes from size (length given) short ∙ is

module _ (h h' : Heap) (zone at len : ℕ) (few : h.bigblocks ≤ MOST_BIGBLOCKS) (below : AreBelow h.bigblocks h.append) (basis : SameBasis h h')
    (whole : h.whole ≡ true) (low : TREE_ZONE ≤ zone) (high : zone ≤ SMALL_ZONE) (some : 1 ≤ len)
    (takes : Takes h.bigblocks h.append zone len at (maps_of h) h'.pages.current) (room : rounded len ≤ room_in h.append h.pages.current zone)
    (alters : Alters (byte_of at) (rounded len) h.disk h'.disk) (kept : ∥ IsKept h ∥₁) where
  change : MayLeave (bytes_of h.disk) ((byte_of at, rounded len) ∷ []) (bytes_of h'.disk)
  change = bytes_alter h.disk h'.disk (byte_of at) (rounded len) alters

  fits : (entry_of h.pages.current (append_of h.append zone)).append_off + rounded len ≤ BIGBLOCK_BYTES
  fits = let left = room_is in omega (arith, room, left, some) where
    room_is : room_in h.append h.pages.current zone ≡ BIGBLOCK_BYTES - (entry_of h.pages.current (append_of h.append zone)).append_off
    room_is = ap (λ (t : Bool). cond t (BIGBLOCK_BYTES - (entry_of h.pages.current (append_of h.append zone)).append_off) 0) (handed_out zone low high)

  -- all that the tree referred to as the call began stands apart
  apart : (b : Basis) → IsSafe h b → All (IsApart (reference at len)) (states_of b).current
  apart b safe = all_apart h.bigblocks (append_of h.append zone) h.pages.current at len (states_of b).current some takes.begin fits safe.placed safe.below

  -- so the content is the same
  same_content : Safe h → begun_content h' ≡ begun_content h
  same_content safe =
      ap (λ (n : ℕ). content_with n (option_map (basis_with h') h'.pages.begin) h'.disk) basis.last
      ∙ (ap (λ (o : Option Basis). content_with h.last o h'.disk) (bases_same h h' basis)
      ∙ by_begin h.pages.begin refl h.disk h'.disk refl alters) where
        by_firm : (b : Basis) (t u : Told) → (is_firm b ≡ true → IsSafe h b) → MayLeave t.bytes ((byte_of at, rounded len) ∷ []) u.bytes
            → (f : Bool) → is_firm b ≡ f → content_by h.last b u.bytes ≡ content_by h.last b t.bytes
        by_firm b t u safe leave true is = content_kept h.last b t.bytes u.bytes at len leave (apart b (safe is))
        by_firm b t u safe leave false is = unfirm h.last b u.bytes is ∙ sym (unfirm h.last b t.bytes is)

        by_begin : (o : Option PageMap) → h.pages.begin ≡ o → (was is : Option Told) → h.disk ≡ was → Alters (byte_of at) (rounded len) was is
            → content_with h.last (option_map (basis_with h) o) is ≡ content_with h.last (option_map (basis_with h) o) was
        by_begin None begin was is disk both = refl
        by_begin (Some begin) there None None disk both = refl
        by_begin (Some begin) there None (Some u) disk both = absurd both
        by_begin (Some begin) there (Some t) None disk both = absurd both
        by_begin (Some begin) there (Some t) (Some u) disk both =
            by_firm (basis_with h begin) t u
            (λ firm. subst (λ (o : Option PageMap). IfSome o (λ m. IsSafe h (basis_with h m))) there
            (safe (holds_by there disk firm)))
            both.bytes (is_firm (basis_with h begin)) refl where
              holds_by : h.pages.begin ≡ Some begin → h.disk ≡ Some t → is_firm (basis_with h begin) ≡ true → does_hold h ≡ true
              holds_by begun told firm =
                  ap (λ (w : Bool). w && is_firm_with (option_map (basis_with h) h.pages.begin) h.disk) whole
                  ∙ (ap (λ (o : Option PageMap). is_firm_with (option_map (basis_with h) o) h.disk) begun
                  ∙ (ap (λ (d : Option Told). is_firm_with (Some (basis_with h begin)) d) told ∙ firm))

  -- and the frame is
  pub content_put : begun_content h' ≡ begun_content h
  content_put = ∥∥₁_elim kept (hlevel props) (λ k. same_content k.safe)

  -- the books were in order as the call began, where the content is known
  holds_known : is_some (begun_content h) ≡ true → does_hold h ≡ true
  holds_known known =
      ap (λ (w : Bool). w && is_firm_with (option_map (basis_with h) h.pages.begin) h.disk) whole
      ∙ by_parts (option_map (basis_with h) h.pages.begin) h.disk known where
        by_parts : (o : Option Basis) (d : Option Told) → is_some (content_with h.last o d) ≡ true → is_firm_with o d ≡ true
        by_parts None d is = absurd (true≢false (sym is))
        by_parts (Some b) None is = absurd (true≢false (sym is))
        by_parts (Some b) (Some t) is = by_test (is_firm b) refl where
          by_test : (f : Bool) → is_firm b ≡ f → f ≡ true
          by_test true firm = refl
          by_test false none = absurd (true≢false (sym is ∙ ap (λ (o : Option (List FullElement)). is_some o) (unfirm h.last b t.bytes none)))

  -- What the trees of the three states referred to then stands apart: of the current one for it lies below what its zone
  -- appends, of the others for the freemap stands for them.
  begun_apart : IsKept h → is_some (begun_content h) ≡ true → All (IsApart (reference at len)) (refs_begun h)
  begun_apart k known =
      by_begin h.pages.begin (k.held (ap (λ (w : Bool). w && is_some (begun_content h)) whole ∙ known)) (k.safe (holds_known known)) where
        by_begin : (o : Option PageMap) → IfSome o (λ begin. (refs : List Reference) × HeldBy h (basis_with h begin) refs)
            → IfSome o (λ begin. IsSafe h (basis_with h begin)) → All (IsApart (reference at len)) (refs_with (option_map (basis_with h) o))
        by_begin None held safe = All-nil (IsApart (reference at len))
        by_begin (Some begin) held safe =
            let states = states_of (basis_with h begin) in
            All-append (IsApart (reference at len)) states.current (states.frozen ++ states.committed) (apart (basis_with h begin) safe)
            (all_right (IsApart (reference at len)) held.0 (states.frozen ++ states.committed) (takes.dead (with_refs held.0 states) held.1.stand))

  in_pool : AreOfPool h.bigblocks h.append → start_of (first_pool h.bigblocks) ≤ byte_of at
  in_pool pool = let one = pool (zone - TREE_ZONE) (omega (arith, low, high)) in omega (arith, one.0, takes.begin)

  fixed_put : AreOfPool h.bigblocks h.append → fixed_of h' ≡ fixed_of h
  fixed_put pool = fixed_told h h' basis content_put
      ∙ ∥∥₁_elim kept (hlevel props) (λ k. fixed_altered h.bigblocks (is_some (begun_content h)) (refs_begun h) at len
      (in_pool pool) (begun_apart k) h.disk h'.disk alters)

  pub frame_put : AreOfPool h.bigblocks h.append → moment_of h'.disk ≡ moment_of h.disk → frame_of h' ≡ frame_of h
  frame_put pool moment = frame_told h h' basis (size_same h.disk h'.disk alters) moment content_put (fixed_put pool) where
    size_same : (was is : Option Told) → Alters (byte_of at) (rounded len) was is
        → option_map (λ (t : Told). length t.bytes) is ≡ option_map (λ (t : Told). length t.bytes) was
    size_same None None both = refl
    size_same (Some t) (Some u) both = ap Some both.bytes.size
    size_same None (Some u) both = absurd both
    size_same (Some t) None both = absurd both

  tells_put : h'.whole ≡ true → does_tell h' ≡ does_tell h
  tells_put whole' = tell_same h h' content_put (whole' ∙ sym whole)

  alike : is_some h'.disk ≡ is_some h.disk
  alike = told_alike h.disk h'.disk (byte_of at) (rounded len) alters

  size_put : IfSome h.disk (λ (t : Told). h.bigblocks * BIGBLOCK_BYTES ≤ length t.bytes)
      → IfSome h'.disk (λ (t : Told). h'.bigblocks * BIGBLOCK_BYTES ≤ length t.bytes)
  size_put size = subst (λ (n : ℕ). IfSome h'.disk (λ (t : Told). n * BIGBLOCK_BYTES ≤ length t.bytes)) (sym basis.bigblocks)
      (by_disk h.disk h'.disk alters size) where
        by_disk : (was is : Option Told) → Alters (byte_of at) (rounded len) was is → IfSome was (λ (t : Told). h.bigblocks * BIGBLOCK_BYTES ≤ length t.bytes)
            → IfSome is (λ (t : Told). h.bigblocks * BIGBLOCK_BYTES ≤ length t.bytes)
        by_disk None None both size = tt
        by_disk (Some t) (Some u) both size = omega (arith, both.bytes.size, size)
        by_disk None (Some u) both size = absurd both
        by_disk (Some t) None both size = absurd both

  holds_put : h'.whole ≡ true → does_hold h' ≡ does_hold h
  holds_put whole' =
      ap (λ (t : Bool). t && is_firm_with (option_map (basis_with h') h'.pages.begin) h'.disk) (whole' ∙ sym whole)
      ∙ (ap (λ (o : Option Basis). h.whole && is_firm_with o h'.disk) (bases_same h h' basis)
      ∙ ap (λ (t : Bool). h.whole && t) (firm_alike (option_map (basis_with h) h.pages.begin) h.disk h'.disk alike))

  same_tree : h'.append ≡ h.append → h'.whole ≡ true → SameTree h h'
  same_tree append whole' = record { basis = basis; append = append; whole = whole; whole' = whole'; pages = takes.pages }

  -- where it ends lies on the disk
  inside : IfSome h.disk (λ (t : Told). h.bigblocks * BIGBLOCK_BYTES ≤ length t.bytes) → is_some h.disk ≡ true
      → byte_of at + rounded len ≤ length (bytes_of h'.disk)
  inside size told = by_disk h.disk h'.disk alters size told where
    by_disk : (was is : Option Told) → Alters (byte_of at) (rounded len) was is
        → IfSome was (λ (t : Told). h.bigblocks * BIGBLOCK_BYTES ≤ length t.bytes) → is_some was ≡ true
        → byte_of at + rounded len ≤ length (bytes_of is)
    by_disk None is both size told = absurd (true≢false (sym told))
    by_disk (Some t) None both size told = absurd both
    by_disk (Some t) (Some u) both size told =
        let one = below (zone - TREE_ZONE) (omega (arith, low, high)) in
        omega (arith, both.bytes.size, size, takes.begin, fits, one)

  -- a space that tells has a disk that does
  tells_disk : IsTrue (does_tell h) → is_some h.disk ≡ true
  tells_disk told = by_parts (option_map (basis_with h) h.pages.begin) h.disk ((tells_parts h told).1) where
    by_parts : (o : Option Basis) (d : Option Told) → is_some (content_with h.last o d) ≡ true → is_some d ≡ true
    by_parts None d is = absurd (true≢false (sym is))
    by_parts (Some b) None is = absurd (true≢false (sym is))
    by_parts (Some b) (Some t) is = refl

  module _ (append : h'.append ≡ h.append) (whole' : h'.whole ≡ true) (gave_same : h.gave ≡ h'.gave)
      (places : places_in h' ≡ with_extent (one_of at len) (places_in h)) (payload : IsPayloadZone zone) where
    pub put_ok : (bytes : List ℕ) → len ≡ length bytes
        → (is_some h.disk ≡ true → slice_range (bytes_of h'.disk) (byte_of at) (byte_of at + length bytes) ≡ bytes)
        → ChangesExtents (PlacesAt at bytes) h h'
    put_ok bytes long written = record {
      tree = tree_stays h h' (same_tree append whole') (tells_put whole');
      extents = both_extents h h' (same_tree append whole') (tells_put whole') (PlacesAt at bytes) (λ told. record {
        extent = filled (bytes_of h'.disk) (one_of at len);
        place = refl;
        size = ap rounded long;
        begin = first_of told;
        one = refl;
        list = ∥∥₁_elim kept (hlevel props) (λ k. on_books h _ told k.held (λ b refs is.
            told_place h h' b refs zone at len h'.pages.current few (beside h h' basis append) is some refl payload takes places change));
      });
    } where
      first_of : IsTrue (does_tell h) → take (length bytes) (slice_range (bytes_of h'.disk) (byte_of at) (byte_of at + rounded len)) ≡ bytes
      first_of told = cut (bytes_of h'.disk) (byte_of at) (rounded len) bytes (let one = long in omega (arith, one)) (written (tells_disk told))

    pub put_kept : ∥ IsKept h' ∥₁
    put_kept = ∥∥₁_elim kept squash₁ (λ k. ∣ record {
      nodes = λ _. nodes_same h.pages.current h'.pages.current (k.nodes whole) (nodes_kept h.pages.current h'.pages.current takes.pages);
      begun = subst (λ (o : Option PageMap). IfSome o AreNodes) (sym (begin_same h h' basis)) k.begun;
      size = size_put k.size;
      safe = safe_map h h' basis (holds_put whole') (λ b safe. safe_after h h' b h'.pages.current few basis.bigblocks safe (λ other zone. refl)
          (grows_put h.pages.current h'.pages.current (append_of h.append zone) (appended (rounded len)) takes.put refl (omega arith))
          (λ none. (
            gave_same ∙ none,
            uses_put h.pages.current h'.pages.current (append_of h.append zone) (appended (rounded len)) takes.put
                (λ used. fewer_used (entry_of h.pages.current (append_of h.append zone)).bytes_free (rounded len) used),
          ))) k.safe;
      held = λ told'. let told = sym (tells_put whole') ∙ told' in
          held_map h h' basis (λ _. told) (λ b refs _ is. (
            reference at len ∷ refs,
            held_place h h' b refs zone at len h'.pages.current few (beside h h' basis append) is some refl payload takes places change
                (inside k.size (tells_disk told)),
          )) k.held told';
    } ∣₁)

  pub put_spent : h'.append ≡ h.append → h'.whole ≡ true → AreDistinct h.append
      → Spends room_of free_of (in_zone zone (rounded len)) h h' × (room_of h' zone + rounded len ≡ room_of h zone)
  put_spent append whole' distinct = (
    spent_tree h h' (same_tree append whole') (tells_put whole') (in_zone zone (rounded len)) (takes.spends distinct),
    (let was = room_whole h whole zone in
        let is = room_whole h' whole' zone in
        let one : room_in h'.append h'.pages.current zone ≡ room_in h.append h'.pages.current zone = ap
        (λ (a : List ℕ). room_in a h'.pages.current zone) append in
        let step = takes.room distinct zone in
        let here : in_zone zone (rounded len) zone ≡ rounded len = ap (λ (t : Bool). cond t (rounded len) 0) (eq-eqb zone zone refl) in
        omega (arith, was, is, one, step, here)),
  )
