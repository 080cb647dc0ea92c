-- Which big-blocks are free by the maps alone, and as the entry of one of them changes.
use Rattle.std.proofs.Common.{◌≡◌, ◌≢◌, Bool, true, false, true≢false, ℕ, zero, suc, ◌+◌, ◌-◌, ◌<◌, ◌≤◌, ⊎_elim, List, [], ◌∷◌, length, slice_index}
use Rattle.std.proofs.Common.{refl, sym, ap, subst, ◌∙◌, arith, not, ◌&&◌, ◌||◌, nat_eq, eqb-true, eq-eqb, ℤ, pos, negsuc, ◌+ℤ◌}
use Rattle.std.specs.Prelude.{◌≤ℤ◌}
use Rattle.std.proofs.lemmas.Bool.{cases_eq, not-true}
use Rattle.std.proofs.lemmas.Int.{ints}
use Rattle.hm_types.specs.Layout.{first_pool}
use Rattle.hm_types.specs.References.{is_append}
use Rattle.hm_types.specs.declared.limits.TheConstants.{BIGBLOCK_BYTES}
use Rattle.hm_fields.specs.Pages.{PageMap}
use Rattle.hm_freemap.specs.Change.{fewer, more}
use Rattle.hm_freemap.specs.Extents.{with_current}
use Rattle.hm_freemap.specs.Stand.{Maps, EntryPut, entry_page, is_clear_in, is_whole_block, is_free_by, free_by}
use Rattle.hm_freemap.specs.declared.entry.Entry.{Entry}
use Rattle.hm_freemap.proofs.CountLemmas.{count_less}
use Rattle.hm_freemap.proofs.EntryLemmas.{free_less, free_more}
use Rattle.hm_freemap.proofs.FreeLemmas.{whole_is_dead}
use Rattle.hm_freemap.proofs.ListLemmas.{and_left, and_right}
use Rattle.hm_freemap.proofs.PutLemmas.{same_test}

-- whether all its bytes are free in a map
abbrev pub is_clear_at : PageMap → ℕ → Bool
is_clear_at map block = is_clear_in (entry_page map block) block

-- what a big-block that is free by the maps is
pub record IsClear (append : List ℕ) (maps : Maps) (block : ℕ) : Type 0 where
  pub apart : is_append append block ≡ false
  pub committed : is_clear_at maps.committed block ≡ true
  pub frozen : is_clear_at maps.frozen block ≡ true
  pub current : is_clear_at maps.current block ≡ true

pub clear_block : (append : List ℕ) (maps : Maps) (block : ℕ) → is_free_by append maps block ≡ true → IsClear append maps block
clear_block append maps block is =
    let c = is_clear_at maps.committed block in
    let f = is_clear_at maps.frozen block in
    let u = is_clear_at maps.current block in
    let n = not (is_append append block) in
    let rest = and_right n (c && (f && u)) is in
    let both = and_right c (f && u) rest in
    record {
      apart = not-true (is_append append block) (and_left n (c && (f && u)) is);
      committed = and_left c (f && u) rest;
      frozen = and_left f u both;
      current = and_right f u both;
    }

pub clear_is_free : (append : List ℕ) (maps : Maps) (block : ℕ) → is_append append block ≡ false → is_clear_at maps.committed block ≡ true
    → is_clear_at maps.frozen block ≡ true → is_clear_at maps.current block ≡ true → is_free_by append maps block ≡ true
clear_is_free append maps block apart committed frozen current = rw (apart, committed, frozen) current

pub not_free_by : (append : List ℕ) (maps : Maps) (block : ℕ) → is_append append block ≡ true → is_free_by append maps block ≡ false
not_free_by append maps block is =
    ap (λ (b : Bool). not b && (is_clear_at maps.committed block && (is_clear_at maps.frozen block && is_clear_at maps.current block))) is

-- each of the append big-blocks is one
pub has_at : (xs : List ℕ) (k : ℕ) → k < length xs → is_append xs (slice_index xs k) ≡ true
has_at [] k low = absurd (omega arith)
has_at (y ∷ ys) zero low = rw (same_test y) refl
has_at (y ∷ ys) (suc k) low = or_true (nat_eq y (slice_index ys k)) (is_append ys (slice_index ys k)) (has_at ys k (omega arith)) where
  or_true : (a b : Bool) → b ≡ true → (a || b) ≡ true
  or_true true b is = refl
  or_true false b is = is

module _ (maps : Maps) (block : ℕ) (next : Entry) (now : PageMap) (put : EntryPut block next maps.current now) where
  pub clear_other : (x : ℕ) → x ≢ block → is_clear_at now x ≡ is_clear_at maps.current x
  clear_other x other = ap (λ (e : Entry). is_whole_block e.bytes_free) (put.others x other)

  clear_here : (x : ℕ) → x ≡ block → is_clear_at now x ≡ is_whole_block next.bytes_free
  clear_here x same = ap (is_clear_at now) same ∙ ap (λ (e : Entry). is_whole_block e.bytes_free) put.put

  -- no free big-block goes away, where the one of the entry stays free if it was
  pub free_kept : (bigblocks : ℕ) (append : List ℕ) → (is_free_by append maps block ≡ true → is_whole_block next.bytes_free ≡ true)
      → free_by bigblocks append maps ≤ free_by bigblocks append (with_current now maps)
  free_kept bigblocks append here =
      let first = first_pool bigblocks in
      count_less (is_free_by append maps) (is_free_by append (with_current now maps)) first (bigblocks - first) each where
        each : (x : ℕ) → is_free_by append maps x ≡ true → is_free_by append (with_current now maps) x ≡ true
        each x is =
            let clear = clear_block append maps x is in
            clear_is_free append (with_current now maps) x clear.apart clear.committed clear.frozen
            (⊎_elim
            (λ (same : x ≡ block). clear_here x same ∙ here (subst (λ (y : ℕ). is_free_by append maps y ≡ true) same is))
            (λ other. clear_other x other ∙ clear.current)
            (cases_eq x block))

whole_is : (free : ℤ) → is_whole_block free ≡ true → free ≡ pos BIGBLOCK_BYTES
whole_is (pos n) is = ap pos (eqb-true n BIGBLOCK_BYTES is)
whole_is (negsuc n) is = absurd (true≢false (sym is))

-- where an extent may be live in a big-block of which all bytes are free, it has no byte: all are free still
none_held : (free : ℤ) (size : ℕ) → (free +ℤ pos size) ≤ℤ pos BIGBLOCK_BYTES → is_whole_block free ≡ true → size ≡ 0
none_held free size held is = let all = whole_is free is in omega (arith, ints, all, held)

pub shared_whole : (free : ℤ) (size : ℕ) → (free +ℤ pos size) ≤ℤ pos BIGBLOCK_BYTES → is_whole_block free ≡ true → is_whole_block (fewer free size) ≡ true
shared_whole free size held is =
    let all = whole_is free is in
    let none = none_held free size held is in
    let sum = free_less free size 0 (omega (arith, ints, all)) (omega (arith, none)) in
    whole_is_dead (fewer free size) (size + 0) sum ∙ eq-eqb (size + 0) 0 (omega (arith, none))

pub given_whole : (free : ℤ) (size : ℕ) → (free +ℤ pos size) ≤ℤ pos BIGBLOCK_BYTES → is_whole_block free ≡ true → is_whole_block (more free size) ≡ true
given_whole free size held is =
    let all = whole_is free is in
    let none = none_held free size held is in
    let sum = free_more free size 0 (omega (arith, ints, all, none)) (omega (arith, none)) in
    whole_is_dead (more free size) 0 sum
