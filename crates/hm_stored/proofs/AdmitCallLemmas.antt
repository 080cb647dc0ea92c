-- What the call of a space that gives room to zones answers.
use Rattle.std.proofs.Common.{◌≡◌, Bool, true, false, ℕ, ◌^◌, Option, Result, Ok, Err, refl, sym, ap, ◌∙◌, arith, cond}
use Rattle.std.specs.Prelude.{IfErr, OnOk}
use Rattle.hm_types.specs.Space.{LacksSpace, needed}
use Rattle.hm_types.specs.declared.fault.Fault.{Fault}
use Rattle.hm_types.specs.declared.fault.SpaceFault.{SpaceFault}
use Rattle.hm_types.specs.declared.fault.SpaceFault.TheVariants.{NoSpace, Fault as of_store}
use Rattle.hm_types.specs.declared.zones.Zones.{Zones}
use Rattle.hm_disk.specs.Crash.{Told}
use Rattle.hm_freemap.specs.Stand.{free_by, room_in}
use Rattle.hm_pages.specs.Store.{Store, frame_of as pages_frame}
use Rattle.hm_stored.specs.Calls.{AnswersRoom, IsNotRenewed, RefusesRoom, Renews, SameBooks}
use Rattle.hm_stored.specs.Heap.{Heap, Rest, frame_of, free_of, heap_of, maps_of, room_of}
use Rattle.hm_stored.specs.Held.{IsKept}
use Rattle.hm_stored.specs.declared.books.Books.{Books}
use Rattle.hm_stored.proofs.AdmitLemmas.{admits, extents_admit, extents_still, kept_admit, kept_still, pages_admit, pages_still, rest_still}
use Rattle.hm_stored.proofs.AdmitLemmas.{room_admit, whole_admit}
use Rattle.hm_stored.proofs.BasisLemmas.{SameBasis, frame_same}
use Rattle.hm_stored.proofs.NewNodeLemmas.{room_whole}
use Rattle.hm_stored.proofs.NodeCallLemmas.{basis, kept_broken, spends_half}

module _ (old new : Store) (disk : Option Told) (books books' : Books) (zones : Zones) (most : ℕ) (frame : pages_frame new ≡ pages_frame old)
    (same : SameBooks books books') (whole : books.whole ≡ true) (none : books.gave ≡ false) (kept : ∥ IsKept (heap_of old disk books) ∥₁) where
  abbrev h : Heap
  h = heap_of old disk books

  abbrev h' : Heap
  h' = heap_of new disk books'

  based : SameBasis h h'
  based = basis old new disk disk books books' frame same

  framed : frame_of h' ≡ frame_of h
  unfolding heap_of
  framed = frame_same h h' based refl

  pub renewed : Renews zones most old new books books' → AnswersRoom zones most h h' (Ok tt) × ∥ IsKept h' ∥₁
  unfolding heap_of
  renewed renews =
      let log = ap (λ l. l.items) renews.log in
      let still = renews.whole ∙ whole in (
        record {
          ok = admits h h' zones most books.most based refl log renews.gave whole still none renews.admitted;
          whole = whole_admit h h' zones most books.most based refl log renews.gave whole still none renews.admitted;
          content = (
            pages_admit h h' zones most books.most based refl log renews.gave whole still none renews.admitted,
            extents_admit h h' zones most books.most based refl log renews.gave whole still none renews.admitted,
          );
          no_space = tt;
          unchanged = tt;
          room = room_admit h h' zones most books.most based refl log renews.gave whole still none renews.admitted;
          frame = framed;
        },
        kept_admit h h' zones most books.most based refl log renews.gave whole still none renews.admitted kept,
      )

  pub refused : (free needed : ℕ) → RefusesRoom zones most old new books books' free needed
      → AnswersRoom zones most h h' (Err (NoSpace free needed)) × ∥ IsKept h' ∥₁
  unfolding heap_of
  refused free need refuses =
      let append = ap (λ (b : Books). b.append) refuses.books in
      let log = ap (λ (b : Books). b.log.items) refuses.books in
      let gave = ap (λ (b : Books). b.gave) refuses.books in
      let still = ap (λ (b : Books). b.whole) refuses.books in
      let rest = rest_still h h' books.most books.below based refl append log gave still refuses.refused.same in (
        record {
          ok = tt;
          whole = tt;
          content = tt;
          no_space = lacks_here refuses.refused.lacks;
          unchanged = (
            pages_still h h' books.most books.below based refl append log gave still refuses.refused.same,
            extents_still h h' books.most books.below based refl append log gave still refuses.refused.same,
            rest,
          );
          room = λ zone. let one = ap (λ (r : Rest). r.room zone) rest in omega (arith, one);
          frame = framed;
        },
        kept_still h h' books.most books.below based refl append log gave still refuses.refused.same kept,
      ) where
        lacks_here : LacksSpace zones most (room_in books.append old.current) (free_by books.bigblocks books.append
            (record { committed = old.committed; frozen = old.frozen; current = old.current })) free need
            → LacksSpace zones most (room_of h) (free_of h) free need
        lacks_here lacks =
            let rooms : needed zones (room_of h) ≡ needed zones (room_in books.append old.current) = ap (needed zones)
            (λ i zone. room_whole h whole zone i) in
            let frees : free_of h ≡ free_by books.bigblocks books.append (maps_of h) = ap (λ (t : Bool). cond t
            (free_by books.bigblocks books.append (maps_of h)) (2 ^ 32)) whole in
            record { free = lacks.free ∙ sym frees; needed = lacks.needed ∙ sym rooms; lacks = omega (arith, frees, lacks.lacks) }

  pub failed : (fault : Fault) → books'.whole ≡ false → AnswersRoom zones most h h' (Err (of_store fault)) × ∥ IsKept h' ∥₁
  unfolding heap_of
  failed fault broken =
      let spends = spends_half old new disk disk books books' frame same (λ zone. 0) broken in (
        record {
          ok = tt;
          whole = tt;
          content = tt;
          no_space = tt;
          unchanged = tt;
          room = λ zone. let step = spends.room zone in omega (arith, step);
          frame = framed;
        },
        kept_broken old new disk disk books books' frame same broken (λ is. is) kept,
      )

  pub answers : (result : Result (Unit {0}) SpaceFault) → OnOk result (Renews zones most old new books books')
      → IfErr result (IsNotRenewed zones most old new books books')
      → AnswersRoom zones most h h' result × ∥ IsKept h' ∥₁
  answers (Ok done) renews missed = renewed renews
  answers (Err (NoSpace free need)) renews missed = refused free need missed
  answers (Err (of_store fault)) renews missed = failed fault missed
