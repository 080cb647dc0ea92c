-- A stage of a flush leaves the books of a space in order, and loses no room and no free big-block.
use Rattle.std.proofs.Common.{◌≡◌, ℕ, ◌-◌, ◌^◌, ◌≤◌, Bool, true, false, List, refl, sym, ap, subst, ◌∙◌, ◌&&◌, not, arith, cond}
use Rattle.std.specs.Prelude.{Result}
use Rattle.hm_types.specs.Layout.{first_pool}
use Rattle.hm_types.specs.References.{is_append}
use Rattle.hm_types.specs.declared.fault.Fault.{Fault}
use Rattle.hm_types.specs.declared.limits.TheConstants.{BIGBLOCK_BYTES}
use Rattle.hm_fields.specs.Pages.{PageMap}
use Rattle.hm_header.specs.declared.header.Header.{Header}
use Rattle.hm_freemap.specs.Stand.{Maps, entry_page, free_by, is_clear_in, is_free_by, is_handed_out, room_in}
use Rattle.hm_freemap.proofs.CountLemmas.{count_less}
use Rattle.hm_flush.specs.declared.flush.Flush.{Flush}
use Rattle.hm_flush.specs.declared.stage.Stage.{Stage}
use Rattle.hm_pages.specs.Store.{Store}
use Rattle.hm_stored.specs.Basis.{IsFirm}
use Rattle.hm_stored.specs.Flushed.{FlushesSpace}
use Rattle.hm_stored.specs.Heap.{Heap, free_of, maps_of, room_of}
use Rattle.hm_stored.specs.Standing.{basis_now}
use Rattle.hm_state.specs.Written.{IsHeaderOf}
use Rattle.hm_state.proofs.CourseLemmas.{Course, commits, course, freezes, stays}
use Rattle.hm_state.proofs.JointLemmas.{committed_basis, firm_committed, firm_frozen, frozen_basis}

-- ---- free big-blocks by three maps

abbrev frozen_maps : Maps → Maps
frozen_maps m = record m { frozen = m.current }

abbrev committed_maps : Maps → Maps
committed_maps m = record m { committed = m.frozen }

module _ (append : List ℕ) (m : Maps) (block : ℕ) where
  abbrev is_out : Bool
  is_out = not (is_append append block)

  abbrev clear : PageMap → Bool
  clear map = is_clear_in (entry_page map block) block

  free_frozen : is_free_by append m block ≡ true → is_free_by append (frozen_maps m) block ≡ true
  free_frozen = by_tests is_out (clear m.committed) (clear m.frozen) (clear m.current) where
    by_tests : (a c f u : Bool) → (a && (c && (f && u))) ≡ true → (a && (c && (u && u))) ≡ true
    by_tests true true true true is = refl
    by_tests true true true false is = is
    by_tests true true false true is = refl
    by_tests true true false false is = is
    by_tests true false f u is = is
    by_tests false c f u is = is

  free_committed : is_free_by append m block ≡ true → is_free_by append (committed_maps m) block ≡ true
  free_committed = by_tests is_out (clear m.committed) (clear m.frozen) (clear m.current) where
    by_tests : (a c f u : Bool) → (a && (c && (f && u))) ≡ true → (a && (f && (f && u))) ≡ true
    by_tests true true true u is = is
    by_tests true true false u is = is
    by_tests true false true true is = refl
    by_tests true false true false is = is
    by_tests true false false u is = is
    by_tests false c f u is = is

more_free : (bigblocks : ℕ) (append : List ℕ) (m m' : Maps)
    → ((block : ℕ) → is_free_by append m block ≡ true → is_free_by append m' block ≡ true) → free_by bigblocks append m ≤ free_by bigblocks append m'
more_free bigblocks append m m' passes =
    count_less (is_free_by append m) (is_free_by append m') (first_pool bigblocks) (bigblocks - first_pool bigblocks) passes

-- ---- what a stage leaves of a space

module _ (now : Header) (f f' : Flush) (old new : Heap) (result : Result Stage Fault) (flushes : FlushesSpace now f f' old new result) where
  pub bigblocks_same : new.bigblocks ≡ old.bigblocks
  bigblocks_same = ap (λ (h : Heap). h.bigblocks) flushes.rest

  pub append_same : new.append ≡ old.append
  append_same = ap (λ (h : Heap). h.append) flushes.rest

  whole_same : new.whole ≡ old.whole
  whole_same = ap (λ (h : Heap). h.whole) flushes.rest

  pub current_same : new.pages.current ≡ old.pages.current
  current_same = by_course (course now f f' old new result flushes) where
    by_course : Course now f f' old new result → new.pages.current ≡ old.pages.current
    by_course (stays is) = ap (λ (s : Store). s.current) is.pages
    by_course (freezes is) = is.pages.current
    by_course (commits is) = is.pages.current

  maps_less : free_by old.bigblocks old.append (maps_of old) ≤ free_by old.bigblocks old.append (maps_of new)
  maps_less = by_course (course now f f' old new result flushes) where
    to : Maps → Type 0
    to m = free_by old.bigblocks old.append (maps_of old) ≤ free_by old.bigblocks old.append m

    by_course : Course now f f' old new result → to (maps_of new)
    by_course (stays is) =
        let same : maps_of new ≡ maps_of old = ap (λ (s : Store). record { committed = s.committed; frozen = s.frozen; current = s.current }) is.pages in
        subst to (sym same) (omega arith)
    by_course (freezes is) =
        let p = is.pages in
        let same : maps_of new ≡ frozen_maps (maps_of old) = λ i. record { committed = p.committed i; frozen = p.frozen i; current = p.current i } in
        subst to (sym same) (more_free old.bigblocks old.append (maps_of old) (frozen_maps (maps_of old)) (free_frozen old.append (maps_of old)))
    by_course (commits is) =
        let p = is.pages in
        let same : maps_of new ≡ committed_maps (maps_of old) = λ i. record { committed = p.committed i; frozen = p.frozen i; current = p.current i } in
        subst to (sym same) (more_free old.bigblocks old.append (maps_of old) (committed_maps (maps_of old)) (free_committed old.append (maps_of old)))

  pub free_less : free_of old ≤ free_of new
  free_less = by_whole old.whole new.whole whole_same where
    by_append : free_by old.bigblocks old.append (maps_of old) ≤ free_by new.bigblocks new.append (maps_of new)
    by_append =
        subst (λ (n : ℕ). free_by old.bigblocks old.append (maps_of old) ≤ free_by n new.append (maps_of new)) (sym bigblocks_same)
        (subst (λ (a : List ℕ). free_by old.bigblocks old.append (maps_of old) ≤ free_by old.bigblocks a (maps_of new)) (sym append_same) maps_less)

    by_whole : (a b : Bool) → b ≡ a
        → cond a (free_by old.bigblocks old.append (maps_of old)) (2 ^ 32) ≤ cond b (free_by new.bigblocks new.append (maps_of new)) (2 ^ 32)
    by_whole true true is = by_append
    by_whole false false is = omega arith
    by_whole true false is = absurd cc
    by_whole false true is = absurd cc

  pub room_same : (zone : ℕ) → room_of new zone ≡ room_of old zone
  room_same zone = λ i. room_by (whole_same i) (append_same i) (current_same i) where
    room_by : Bool → List ℕ → PageMap → ℕ
    room_by whole append current = cond whole (room_in append current zone) (cond (is_handed_out zone) BIGBLOCK_BYTES 0)

  -- ---- the books of the three states

  module _ (root last : ℕ) (is_header : IsHeaderOf old root last now) where
    pub firm_after : IsFirm (basis_now old root) → IsFirm (basis_now new root)
    firm_after firm = by_course (course now f f' old new result flushes) where
      by_course : Course now f f' old new result → IsFirm (basis_now new root)
      by_course (stays is) =
          let same : basis_now new root ≡ basis_now old root =
          λ i. record {
            bigblocks = bigblocks_same i;
            append = append_same i;
            maps = record { committed = (is.pages i).committed; frozen = (is.pages i).frozen; current = (is.pages i).current };
            roots = record (is.roots i) { current = root };
          } in
          subst IsFirm (sym same) firm
      by_course (freezes is) =
          let p = is.pages in
          let roots : new.roots ≡ record old.roots { frozen = root } =
          is.roots ∙ ap (λ (r : ℕ). record old.roots { frozen = r }) is_header.root_is in
          let same : basis_now new root ≡ frozen_basis (basis_now old root) =
          λ i. record {
            bigblocks = bigblocks_same i;
            append = append_same i;
            maps = record { committed = p.committed i; frozen = p.frozen i; current = p.current i };
            roots = record (roots i) { current = root };
          } in
          subst IsFirm (sym same) (firm_frozen (basis_now old root) firm)
      by_course (commits is) =
          let p = is.pages in
          let same : basis_now new root ≡ committed_basis (basis_now old root) =
          λ i. record {
            bigblocks = bigblocks_same i;
            append = append_same i;
            maps = record { committed = p.committed i; frozen = p.frozen i; current = p.current i };
            roots = record (is.roots i) { current = root };
          } in
          subst IsFirm (sym same) (firm_committed (basis_now old root) firm)
