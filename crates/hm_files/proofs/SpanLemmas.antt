-- Bytes that are written over several blocks.
use Rattle.std.proofs.Common.{◌≡◌, ℕ, ◌+◌, ◌-◌, ◌*◌, ◌/◌, ◌<◌, ◌≤◌, List, ◌++◌, drop, take, replicate, length, length-append, max, min}
use Rattle.std.proofs.Common.{refl, ap, sym, subst, ◌∙◌, inl, inr, arith}
use Rattle.std.specs.Prelude.{◌⊎◌, Bool, true, false, if◌then◌else◌, nat_eq, slice_index}
use Rattle.std.proofs.lemmas.Bool.{cases_lt}
use Rattle.std.proofs.lemmas.List.{get_or-append_right, get_or-drop, get_or-replicate, get_or-take, get_or_append_left, length-drop, length-replicate}
use Rattle.std.proofs.lemmas.List.{length-take}
use Rattle.hm_types.specs.Elements.{FullElement}
use Rattle.hm_types.specs.Space.{Spends}
use Rattle.hm_types.specs.declared.limits.TheConstants.{BLOCK_BYTES}
use Rattle.hm_types.specs.declared.space.TheConstants.{INSERT_ROOM}
use Rattle.hm_types.specs.declared.zone.TheConstants.{LARGE_ZONE, SMALL_ZONE, TREE_ZONE}
use Rattle.hm_key.specs.Counts.{Counts}
use Rattle.hm_records.specs.View.{AreFileBytes, IsFileByte}
use Rattle.hm_cursor.proofs.FollowLemmas.{follow_twice}
use Rattle.hm_cursor.proofs.ViewsLemmas.{nothing_written, writes_again}
use Rattle.hm_files.specs.Bytes.{block_start}
use Rattle.hm_files.specs.Put.{CutsBytes, HasBlockRoom, IsBytesOf, block_space}
use Rattle.hm_files.specs.Write.{ClearsWay, PutsBefore, PutsPiece, WritesBytes, reach, written}
use Rattle.hm_files.proofs.PutLemmas.{steady}
use Rattle.hm_files.proofs.ShownLemmas.{byte_alike}

-- ---- what the size hid is cut off

module _ (pfs obj i size offset : ℕ) where
  -- where the size lies in a block before
  pub way_cut : (es es' : List FullElement) → size < block_start offset → CutsBytes pfs obj i size size (block_start offset) es es'
      → ClearsWay pfs obj i size offset es es'
  way_cut es es' before cuts = record {
    writes = cuts.writes;
    kept = λ t after x v late reaches below early is. cuts.kept t after x v late reaches below is;
    zero = λ t after x late past below. cuts.zero t after x late past (omega (arith, below));
    ahead = λ t x v late below from is. absurd (omega (arith, below, from, before));
    fresh = λ n above older. cuts.fresh n (λ is. absurd (omega (arith, above, before, is))) older;
    others = cuts.others;
    follows = cuts.follows;
  }

  -- and where it does not
  pub way_clear : (es : List FullElement) → block_start offset ≤ size → ClearsWay pfs obj i size offset es es
  way_clear es from = record {
    writes = nothing_written pfs i (IsBytesOf pfs obj i) es;
    kept = λ t after x v late reaches below early is.
        byte_alike pfs obj size after x v (Counts es t) (Counts es t) (inr (omega (arith, early, from), omega (arith, early, from, reaches)))
        (λ n bytes place. (λ h. h, λ h. h)) is;
    zero = λ t after x late past below. absurd (omega (arith, past, below, from));
    ahead = λ t x v late below above is. is;
    fresh = λ n above older. older;
    others = λ t s bytes differ. (λ h. h, λ h. h);
    follows = λ other t follow. follow;
  }

-- ---- the room of several blocks

-- what some blocks and some more take
blocks_add : (zone n k m : ℕ) → n + k ≤ m → block_space n zone + block_space k zone ≤ block_space m zone
blocks_add zone n k m le = by_test (nat_eq zone TREE_ZONE) (nat_eq zone LARGE_ZONE) (nat_eq zone SMALL_ZONE) where
  by_test : (a b c : Bool) → (if a then n * INSERT_ROOM else 0) + ((if b then n * BLOCK_BYTES else 0) + (if c then n * BLOCK_BYTES else 0))
      + ((if a then k * INSERT_ROOM else 0) + ((if b then k * BLOCK_BYTES else 0) + (if c then k * BLOCK_BYTES else 0)))
      ≤ (if a then m * INSERT_ROOM else 0) + ((if b then m * BLOCK_BYTES else 0) + (if c then m * BLOCK_BYTES else 0))
  by_test true true true = omega (arith, le)
  by_test true true false = omega (arith, le)
  by_test true false true = omega (arith, le)
  by_test true false false = omega (arith, le)
  by_test false true true = omega (arith, le)
  by_test false true false = omega (arith, le)
  by_test false false true = omega (arith, le)
  by_test false false false = omega (arith, le)

module _ {S : Type 0} (room : S → ℕ → ℕ) (free : S → ℕ) where
  pub spends_none : (x : S) (n : ℕ) → Spends room free (block_space n) x x
  spends_none x n = record { room = λ zone. omega arith; free = omega arith }

  pub spends_more : (x y z : S) (n k m : ℕ) → n + k ≤ m → Spends room free (block_space n) x y → Spends room free (block_space k) y z
      → Spends room free (block_space m) x z
  spends_more x y z n k m le first second = record {
    room = λ zone. omega (arith, first.room zone, second.room zone, blocks_add zone n k m le);
    free = omega (arith, first.free, second.free);
  }

  -- the room for one more
  pub room_left : (x y : S) (n m : ℕ) → n + 1 ≤ m → Spends room free (block_space n) x y → HasBlockRoom (room x) m → HasBlockRoom (room y) 1
  room_left x y n m le spent has =
      let tree : room x TREE_ZONE ≤ room y TREE_ZONE + (n * INSERT_ROOM + (0 + 0)) = spent.room TREE_ZONE in
      let large : room x LARGE_ZONE ≤ room y LARGE_ZONE + (0 + (n * BLOCK_BYTES + 0)) = spent.room LARGE_ZONE in
      let small : room x SMALL_ZONE ≤ room y SMALL_ZONE + (0 + (0 + n * BLOCK_BYTES)) = spent.room SMALL_ZONE in
      record {
        tree = omega (arith, le, tree, has.tree);
        large = omega (arith, le, large, has.large);
        small = omega (arith, le, small, has.small);
      }

-- ---- block by block

pub filled_long : (len to byte : ℕ) → to ≤ length (replicate len byte) → to ≤ len
filled_long len to byte inside =
    let long : length (replicate {A = ℕ} len byte) ≡ len = length-replicate {A = ℕ} len byte in
    omega (arith, inside, long)

-- a part of a block of one byte is a part of any number of it
pub filled_part : (block : List ℕ) (from to len k : ℕ) → block ≡ replicate BLOCK_BYTES (slice_index block 0) → to ≤ from + BLOCK_BYTES → to ≤ len
    → k < to - from → slice_index (take (to - from) block) k ≡ slice_index (replicate len (slice_index block 0)) (from + k)
filled_part block from to len k is few inside below =
    get_or-take (to - from) block k 0 below
    ∙ (ap (λ (b : List ℕ). slice_index b k) is
    ∙ (get_or-replicate BLOCK_BYTES k (slice_index block 0) 0 (omega (arith, below, few))
    ∙ sym (get_or-replicate len (from + k) (slice_index block 0) 0 (omega (arith, below, inside)))))

module _ (pfs obj i size after offset : ℕ) (new : List ℕ) where
  -- before the first one
  pub puts_none : (es : List FullElement) → PutsBefore pfs obj i size after offset new (offset / BLOCK_BYTES) es es
  puts_none es = record {
    writes = nothing_written pfs i (IsBytesOf pfs obj i) es;
    put = λ t x late from to. absurd (omega (arith, from, to));
    kept = λ t x v late below from to out is. absurd (omega (arith, from, to));
    zero = λ t x late some. absurd (omega (arith, some));
    beside = λ t any x v late out is. is;
    fresh = λ n above older. older;
    others = λ t s bytes differ. (λ h. h, λ h. h);
    follows = λ other t follow. follow;
  }

  -- one more
  module _ (block at to : ℕ) (piece : List ℕ) (es mid es' : List FullElement) (first : offset / BLOCK_BYTES ≤ block)
      (last : block * BLOCK_BYTES < offset + length new) (at_is : at ≡ max offset (block * BLOCK_BYTES))
      (to_is : to ≡ min (offset + length new) (block * BLOCK_BYTES + BLOCK_BYTES)) (sized : length piece ≡ to - at)
      (same : (k : ℕ) → k < length piece → slice_index piece k ≡ slice_index new (at - offset + k))
      (so_far : PutsBefore pfs obj i size after offset new block es mid) (puts : PutsPiece pfs obj i size after at piece mid es') where
    start : block_start at ≡ block * BLOCK_BYTES
    start = omega (arith, first, at_is)

    put_more : (t x : ℕ) → i ≤ t → offset ≤ x → x < reach offset (offset + length new) (block + 1)
        → IsFileByte (Counts es' t) pfs obj after x (slice_index new (x - offset))
    put_more t x late from below = elim (cases_lt x at) [
      | inl early ↦
          puts.beside t after x (slice_index new (x - offset)) late (inl (omega (arith, early, from, at_is, start)))
          (so_far.put t x late from (omega (arith, early, from, at_is, below)))
      | inr later ↦
          let inside : x - at < length piece = omega (arith, later, below, at_is, to_is, sized, first) in
          let place : at - offset + (x - at) ≡ x - offset = omega (arith, later, at_is) in
          subst (λ (b : ℕ). IsFileByte (Counts es' t) pfs obj after x b) (same (x - at) inside ∙ ap (slice_index new) place)
          (puts.put t x late later (omega (arith, inside, later)))
    ]

    kept_more : (t x v : ℕ) → i ≤ t → x < size → block_start offset ≤ x → x < (block + 1) * BLOCK_BYTES → (x < offset) ⊎ (offset + length new ≤ x)
        → IsFileByte (Counts es t) pfs obj size x v → IsFileByte (Counts es' t) pfs obj after x v
    kept_more t x v late below from to out is = elim (cases_lt x (block * BLOCK_BYTES)) [
      | inl early ↦
          puts.beside t after x v late (inl (omega (arith, early, start))) (so_far.kept t x v late below from early out is)
      | inr here ↦
          puts.kept t x v late below (omega (arith, here, start)) (omega (arith, to, start)) (outside out) (so_far.beside t size x v late (inr here) is)
    ] where
      outside : (x < offset) ⊎ (offset + length new ≤ x) → (x < at) ⊎ (at + length piece ≤ x)
      outside (inl early) = inl (omega (arith, early, at_is))
      outside (inr later) = inr (omega (arith, later, at_is, to_is, sized, first, last))

    zero_more : (t x : ℕ) → i ≤ t → size ≤ x → block_start offset ≤ x → x < offset → IsFileByte (Counts es' t) pfs obj after x 0
    zero_more t x late past from below = elim (cases_lt (offset / BLOCK_BYTES) block) [
      | inl done ↦ puts.beside t after x 0 late (inl (omega (arith, below, done, start))) (so_far.zero t x late done past from below)
      | inr now ↦ puts.zero t x late past (omega (arith, from, now, start)) (omega (arith, below, at_is))
    ]

    beside_more : (t any x v : ℕ) → i ≤ t → (x < block_start offset) ⊎ ((block + 1) * BLOCK_BYTES ≤ x) → IsFileByte (Counts es t) pfs obj any x v
        → IsFileByte (Counts es' t) pfs obj any x v
    beside_more t any x v late (inl early) is =
        puts.beside t any x v late (inl (omega (arith, early, first, start))) (so_far.beside t any x v late (inl early) is)
    beside_more t any x v late (inr later) is =
        puts.beside t any x v late (inr (omega (arith, later, start))) (so_far.beside t any x v late (inr (omega (arith, later))) is)

    pub puts_more : PutsBefore pfs obj i size after offset new (block + 1) es es'
    puts_more = record {
      writes = writes_again pfs i (IsBytesOf pfs obj i) es mid es' (steady pfs obj i) so_far.writes puts.writes;
      put = put_more;
      kept = kept_more;
      zero = λ t x late some past from below. zero_more t x late past from below;
      beside = beside_more;
      fresh = λ n above older. puts.fresh n (omega (arith, above, start)) (so_far.fresh n (omega (arith, above)) older);
      others = λ t s bytes differ.
          let one = so_far.others t s bytes differ in
          let two = puts.others t s bytes differ in
          (λ h. one.0 (two.0 h), λ h. two.1 (one.1 h));
      follows = follow_twice es mid es' so_far.follows puts.follows;
    }

-- ---- all of them

module _ (pfs obj i size offset : ℕ) (new : List ℕ) (es mid es' : List FullElement) (some : 1 ≤ length new) (way : ClearsWay pfs obj i size offset es mid)
    (puts : PutsBefore pfs obj i size (max size (offset + length new)) offset new ((offset + length new - 1) / BLOCK_BYTES + 1) mid es') where
  abbrev after : ℕ
  after = max size (offset + length new)

  module _ (t : ℕ) (late : i ≤ t) (content : List ℕ) (file : AreFileBytes (Counts es t) pfs obj size content) where
    abbrev zeros : List ℕ
    zeros = replicate (offset - length content) 0

    long : length (content ++ zeros) ≡ max size offset
    long = omega (arith, length-append content zeros, length-replicate {A = ℕ} (offset - length content) 0, file.sized)

    abbrev front : List ℕ
    front = take offset (content ++ zeros)

    front_long : length front ≡ offset
    front_long = omega (arith, length-take offset (content ++ zeros), long)

    abbrev rest : List ℕ
    rest = drop (offset + length new) content

    -- a byte of the file that is not written is as it was
    kept_byte : (x : ℕ) → x < size → (x < offset) ⊎ (offset + length new ≤ x) → IsFileByte (Counts es' t) pfs obj after x (slice_index content x)
    kept_byte x inside out = elim (cases_lt x (block_start offset)) [
      | inl early ↦
          puts.beside t after x (slice_index content x) late (inl early)
          (way.kept t after x (slice_index content x) late (omega arith) inside early (file.each x inside))
      | inr from ↦ elim (cases_lt x (((offset + length new - 1) / BLOCK_BYTES + 1) * BLOCK_BYTES)) [
        | inl within ↦
            puts.kept t x (slice_index content x) late inside from within out (way.ahead t x (slice_index content x) late inside from (file.each x inside))
        | inr beyond ↦
            let same : size ≡ after = omega (arith, beyond, inside) in
            subst (λ (n : ℕ). IsFileByte (Counts es' t) pfs obj n x (slice_index content x)) same
            (puts.beside t size x (slice_index content x) late (inr beyond)
            (way.ahead t x (slice_index content x) late inside from (file.each x inside)))
      ]
    ]

    early_byte : (x : ℕ) → x < offset → IsFileByte (Counts es' t) pfs obj after x (slice_index front x)
    early_byte x below =
        subst (λ (b : ℕ). IsFileByte (Counts es' t) pfs obj after x b) (sym (get_or-take offset (content ++ zeros) x 0 below)) (by_place (cases_lt x size))
      where
        is_zero : size ≤ x → slice_index (content ++ zeros) x ≡ 0
        is_zero past =
            get_or-append_right content zeros size x 0 file.sized past
            ∙ get_or-replicate (offset - length content) (x - size) 0 0 (omega (arith, past, below, file.sized))

        zero_there : size ≤ x → (x < block_start offset) ⊎ (block_start offset ≤ x) → IsFileByte (Counts es' t) pfs obj after x 0
        zero_there past (inl early) = puts.beside t after x 0 late (inl early) (way.zero t after x late past early)
        zero_there past (inr from) = puts.zero t x late (omega (arith, some)) past from below

        by_place : (x < size) ⊎ (size ≤ x) → IsFileByte (Counts es' t) pfs obj after x (slice_index (content ++ zeros) x)
        by_place (inl inside) =
            subst (λ (b : ℕ). IsFileByte (Counts es' t) pfs obj after x b)
            (sym (get_or_append_left content zeros 0 x (omega (arith, inside, file.sized)))) (kept_byte x inside (inl below))
        by_place (inr past) =
            subst (λ (b : ℕ). IsFileByte (Counts es' t) pfs obj after x b) (sym (is_zero past)) (zero_there past (cases_lt x (block_start offset)))

    later_byte : (x : ℕ) → offset ≤ x → x < after → IsFileByte (Counts es' t) pfs obj after x (slice_index (new ++ rest) (x - offset))
    later_byte x from below = elim (cases_lt x (offset + length new)) [
      | inl inside ↦
          subst (λ (b : ℕ). IsFileByte (Counts es' t) pfs obj after x b)
          (sym (get_or_append_left new rest 0 (x - offset) (omega (arith, from, inside))))
          (puts.put t x late from (omega (arith, from, inside)))
      | inr beyond ↦
          let place : offset + length new + (x - offset - length new) ≡ x = omega (arith, beyond) in
          subst (λ (b : ℕ). IsFileByte (Counts es' t) pfs obj after x b)
          (sym (get_or-append_right new rest (length new) (x - offset) 0 refl (omega (arith, beyond))
          ∙ get_or-drop (offset + length new) content (x - offset - length new) 0 ∙ ap (slice_index content) place))
          (kept_byte x (omega (arith, beyond, below)) (inr (omega (arith, beyond))))
    ]

    all_bytes : AreFileBytes (Counts es' t) pfs obj after (written offset new content)
    all_bytes = record {
      sized = omega (arith, length-append front (new ++ rest), front_long, length-append new rest, length-drop (offset + length new) content, file.sized);
      each = λ x below. by_place x below (cases_lt x offset);
    } where
      by_place : (x : ℕ) → x < after → (x < offset) ⊎ (offset ≤ x) → IsFileByte (Counts es' t) pfs obj after x (slice_index (written offset new content) x)
      by_place x below (inl early) =
          subst (λ (b : ℕ). IsFileByte (Counts es' t) pfs obj after x b)
          (sym (get_or_append_left front (new ++ rest) 0 x (omega (arith, early, front_long)))) (early_byte x early)
      by_place x below (inr from) =
          subst (λ (b : ℕ). IsFileByte (Counts es' t) pfs obj after x b)
          (sym (get_or-append_right front (new ++ rest) offset x 0 front_long from)) (later_byte x from below)

  pub bytes_written : WritesBytes pfs obj i size offset new es es'
  bytes_written = record {
    writes = writes_again pfs i (IsBytesOf pfs obj i) es mid es' (steady pfs obj i) way.writes puts.writes;
    holds = λ t content late file. all_bytes t late content file;
    others = λ t s bytes differ.
        let one = way.others t s bytes differ in
        let two = puts.others t s bytes differ in
        (λ h. one.0 (two.0 h), λ h. two.1 (one.1 h));
    follows = follow_twice es mid es' way.follows puts.follows;
  }
