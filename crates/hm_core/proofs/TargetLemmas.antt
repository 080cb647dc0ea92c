-- The header of the state of now may be committed.
use Rattle.std.proofs.Common.{◌≡◌, ◌≢◌, ℕ, zero, suc, ◌<◌, List, [], ◌∷◌, None, refl, sym, subst, ◌∙◌, arith, length, slice_index, take}
use Rattle.std.specs.List.{AllByRecursion}
use Rattle.std.proofs.Math.Logic.{∥∥₁_elim}
use Rattle.std.proofs.Props.{props}
use Rattle.hm_types.specs.Layout.{IsPool}
use Rattle.hm_freemap.specs.Stand.{AreDistinct}
use Rattle.hm_header.specs.Range.{IsRoot}
use Rattle.hm_header.specs.declared.header.Header.{Header}
use Rattle.hm_flush.specs.declared.flush.Flush.{Flush}
use Rattle.hm_flush.specs.Calls.{IsTarget}
use Rattle.hm_flush.specs.Flush.{IsFlush}
use Rattle.hm_model.specs.declared.entry.Entry.{Entry}
use Rattle.hm_stored.specs.Heap.{Heap}
use Rattle.hm_stored.specs.declared.books.Books.{Books}
use Rattle.hm_core.specs.Inside.{IsInOrder}
use Rattle.hm_core.proofs.PropLemmas.{header_prop}

target_prop : (f : Flush) (now : Header) → IsProp (IsTarget f now)
target_prop f now = hlevel (props, header_prop)

-- of four big-blocks that differ, each is none of those before it
none_before : (append : List ℕ) → length append ≡ 4 → AreDistinct append → (k : ℕ) → k < 4
    → AllByRecursion (λ other. slice_index append k ≢ other) (take k append)
none_before (a ∷ b ∷ c ∷ d ∷ []) four apart zero low = tt
none_before (a ∷ b ∷ c ∷ d ∷ []) four apart (suc zero) low = (λ same. absurd (omega (arith, apart 1 0 (omega arith) (omega arith) same)), tt)
none_before (a ∷ b ∷ c ∷ d ∷ []) four apart (suc (suc zero)) low = (
  λ same. absurd (omega (arith, apart 2 0 (omega arith) (omega arith) same)),
  (λ same. absurd (omega (arith, apart 2 1 (omega arith) (omega arith) same)), tt),
)
none_before (a ∷ b ∷ c ∷ d ∷ []) four apart (suc (suc (suc zero))) low = (
  λ same. absurd (omega (arith, apart 3 0 (omega arith) (omega arith) same)),
  (
    λ same. absurd (omega (arith, apart 3 1 (omega arith) (omega arith) same)),
    (λ same. absurd (omega (arith, apart 3 2 (omega arith) (omega arith) same)), tt),
  ),
)
none_before append four apart (suc (suc (suc (suc k)))) low = absurd (omega (arith, low))
none_before [] four apart k low = absurd (omega (arith, four))
none_before (a ∷ []) four apart k low = absurd (omega (arith, four))
none_before (a ∷ b ∷ []) four apart k low = absurd (omega (arith, four))
none_before (a ∷ b ∷ c ∷ []) four apart k low = absurd (omega (arith, four))
none_before (a ∷ b ∷ c ∷ d ∷ e ∷ es) four apart k low = absurd (omega (arith, four))

module _ (f : Flush) (last free root : ℕ) (h : Heap) (books : Books) (history : List Entry) (flush : IsFlush f) (four : length books.append ≡ 4)
    (size : h.bigblocks ≡ books.bigblocks) (placed : h.pages.begin ≡ None → IsRoot h.bigblocks root) where
  -- its header, whose other fields are those of the one that counts
  abbrev now : Header
  now = record f.header { last = record { 0 = last }; root = root; append = books.append }

  in_range : IsInOrder f last free h history → IsTarget f now
  in_range o =
      let is = flush.header in
      let later = o.later in
      record {
        header = record {
          version = is.version;
          bigblocks = is.bigblocks;
          generation = is.generation;
          last = (omega (arith, later, is.last.0), o.greatest);
          root = subst (λ (n : ℕ). IsRoot n root) (sym o.ready.bigblocks) (placed o.ready.closed.begin);
          undo_first = is.undo_first;
          undo_count = is.undo_count;
          undo_next = is.undo_next;
          four = four;
          append = λ k low. (
            subst (λ (n : ℕ). IsPool n (slice_index books.append k)) (sym (o.ready.bigblocks ∙ size)) (books.pool k low),
            none_before books.append four books.distinct k low,
          );
        };
        bigblocks = refl;
      }

  pub now_is_target : ∥ IsInOrder f last free h history ∥₁ → IsTarget f now
  now_is_target ordered = ∥∥₁_elim ordered (target_prop f now) in_range
