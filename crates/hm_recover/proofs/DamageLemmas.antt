-- Which entry is damaged, and which range is whole.
use Rattle.std.proofs.Common.{◌≡◌, ⊎_elim, ℕ, zero, suc, ◌+◌, ◌<◌, ◌≤◌, List, [], ◌∷◌}
use Rattle.std.proofs.Common.{refl, sym, ap, subst, ◌∙◌, arith, length, get_or, IfSome, slice_get}
use Rattle.std.proofs.lemmas.Bool.{cases_lt}
use Rattle.hm_header.specs.declared.fault.HeaderFault.{HeaderFault}
use Rattle.hm_header.specs.declared.header.Header.{Header}
use Rattle.hm_header.specs.OnDisk.{HasFault, HasHeader, first_slot, second_slot}
use Rattle.hm_header.proofs.SlotLemmas.{chosen_has_none, chosen_is_one}
use Rattle.hm_undo.specs.Entry.{IsBrokenEntry, IsUndoPageOf, SpellsUndoEntry}
use Rattle.hm_undo.specs.Log.{entry_at}
use Rattle.hm_undo.specs.Range.{HasUndoEntry, HasRange, OldPage}
use Rattle.hm_undo.specs.Recovered.{RecoversTo}
use Rattle.hm_undo.proofs.EntryLemmas.{broken-is-none, entry-is-one}
use Rattle.hm_undo.proofs.RangeLemmas.{range-entry}
use Rattle.hm_recover.specs.Damage.{HasRangeDamage, SpellsOldPage, IsRangeDamage, IsWholeEntry, entry_offset}

-- broken bytes hold no page
pub broken-holds-none : (bytes : List ℕ) (header : Header) → IsBrokenEntry bytes → (old : OldPage) → SpellsOldPage bytes header old → ⊥
broken-holds-none bytes header broken old holds = broken-is-none bytes old.at header.generation old.bytes broken holds.spelled

-- nor do those of another header, or of a page of no such volume
pub other-holds-none : (bytes : List ℕ) (header : Header) (at generation : ℕ) (page : List ℕ) → SpellsUndoEntry bytes at generation page
    → (generation ≡ header.generation → IsUndoPageOf header.bigblocks at → ⊥) → (old : OldPage) → SpellsOldPage bytes header old → ⊥
other-holds-none bytes header at generation page spelled other old holds =
    let same = entry-is-one bytes at generation page old.at header.generation old.bytes spelled holds.spelled in
    other same.1 (subst (λ (n : ℕ). IsUndoPageOf header.bigblocks n) (sym same.0) holds.page)

-- a range in which each entry is whole
module _ (image : List ℕ) (header : Header) where
  record From (n k : ℕ) : Type 0 where
    olds : List OldPage
    count : length olds ≡ n
    each : (i : ℕ) → IfSome (slice_get olds i) (HasUndoEntry image header (entry_at header.undo_first (k + i)))

  from : (n k : ℕ) → ((j : ℕ) → k ≤ j → j < k + n → IsWholeEntry image header (entry_at header.undo_first j)) → From n k
  from zero k whole = record { olds = []; count = refl; each = λ i. tt }
  from (suc n) k whole =
      let first = whole k (omega arith) (omega arith) in
      let more = from n (suc k) (λ j from to. whole j (omega (arith, from)) (omega (arith, to))) in
      record { olds = first.0 ∷ more.olds; count = ap (λ (m : ℕ). suc m) more.count; each = λ i. at first more i }
    where
      at : (first : IsWholeEntry image header (entry_at header.undo_first k)) (more : From n (suc k)) (i : ℕ)
          → IfSome (slice_get (first.0 ∷ more.olds) i) (HasUndoEntry image header (entry_at header.undo_first (k + i)))
      at first more zero = let here : k ≡ k + 0 = omega arith in
          subst (λ (j : ℕ). HasUndoEntry image header (entry_at header.undo_first j) first.0) here first.1
      at first more (suc i) = let next : suc k + i ≡ k + suc i = omega arith in
          subst (λ (j : ℕ). IfSome (slice_get more.olds i) (HasUndoEntry image header (entry_at header.undo_first j))) next (more.each i)

  pub range-of-wholes : ((j : ℕ) → 0 ≤ j → j < header.undo_count → IsWholeEntry image header (entry_at header.undo_first j))
      → (olds : List OldPage) × HasRange image header olds
  range-of-wholes whole =
      let all = from header.undo_count 0 (λ j low below. whole j low (omega (arith, below))) in (
        all.olds,
        record {
          count = all.count;
          each = λ i. let same : 0 + i ≡ i = omega arith in
              subst (λ (j : ℕ). IfSome (slice_get all.olds i) (HasUndoEntry image header (entry_at header.undo_first j))) same (all.each i);
        },
      )

  pub range-whole : (olds : List OldPage) → HasRange image header olds → (i : ℕ) → i < header.undo_count
      → IsWholeEntry image header (entry_at header.undo_first i)
  range-whole olds range i below =
      (get_or olds i none, range-entry image header olds range i none (omega (arith, below, range.count)))
    where
      none : OldPage
      none = record { at = 0; bytes = [] }

  -- one entry more is whole
  pub wholes-more : (i : ℕ) → ((j : ℕ) → i + 1 ≤ j → j < header.undo_count → IsWholeEntry image header (entry_at header.undo_first j))
      → IsWholeEntry image header (entry_at header.undo_first i)
      → (j : ℕ) → i ≤ j → j < header.undo_count → IsWholeEntry image header (entry_at header.undo_first j)
  wholes-more i later here j from to =
      ⊎_elim (λ (above : i < j). later j (omega (arith, above)) to)
      (λ (low : j ≤ i). let same : i ≡ j = omega (arith, from, low) in
      subst (λ (k : ℕ). IsWholeEntry image header (entry_at header.undo_first k)) same here) (cases_lt i j)

-- two damages of a range are one
damage-one : (image : List ℕ) (header : Header) (one other : ℕ) → IsRangeDamage image header one → IsRangeDamage image header other → one ≡ other
damage-one image header one other is is' =
    ⊎_elim (λ (below : is.i < is'.i). absurd (is'.damaged (is.later is'.i below is'.within)))
    (λ from. ⊎_elim (λ (above : is'.i < is.i). absurd (is.damaged (is'.later is.i above is.within)))
    (λ to. let same : is.i ≡ is'.i = omega (arith, from, to) in
    is.place ∙ (ap (λ (i : ℕ). entry_offset header.bigblocks (entry_at header.undo_first i)) same ∙ sym is'.place)) (cases_lt is'.i is.i))
    (cases_lt is.i is'.i)

pub same-header : (image : List ℕ) (a b : Header) (m n : ℕ) → HasHeader image a m → HasHeader image b n → a ≡ b
same-header image a b m n is is' = (chosen_is_one (first_slot image) (second_slot image) (length image) a b m n is is').0

pub damage-is-one : (image : List ℕ) (at kind at' kind' : ℕ) → HasRangeDamage image at kind → HasRangeDamage image at' kind' → (at ≡ at') × (kind ≡ kind')
damage-is-one image at kind at' kind' is is' =
    let same : is'.header ≡ is.header = same-header image is'.header is.header is'.slot is.slot is'.counts is.counts in
    (damage-one image is.header at at' is.damage (subst (λ (h : Header). IsRangeDamage image h at') same is'.damage), is.kind_is ∙ sym is'.kind_is)

-- what recovers is not damaged
pub recovers-whole : (image result : List ℕ) (at kind : ℕ) → RecoversTo image result → HasRangeDamage image at kind → ⊥
recovers-whole image result at kind is damaged =
    let same : damaged.header ≡ is.header = same-header image damaged.header is.header damaged.slot is.slot damaged.counts is.counts in
    let here : IsRangeDamage image is.header at = subst (λ (h : Header). IsRangeDamage image h at) same damaged.damage in
    ⊎_elim (λ none. omega (arith, none.0, here.within))
    (λ undone. here.damaged (range-whole image is.header undone.olds undone.range here.i here.within)) is.how

pub recovers-faultless : (image result : List ℕ) (fault : HeaderFault) → RecoversTo image result → HasFault image fault → ⊥
recovers-faultless image result fault is faulty =
    chosen_has_none (first_slot image) (second_slot image) (length image) is.header is.slot fault is.counts faulty
