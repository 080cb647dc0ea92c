-- Bytes that are cut off a file.
use Rattle.std.proofs.Common.{◌≡◌, ℕ, ◌+◌, ◌-◌, ◌%◌, ◌/◌, ◌^◌, ◌<◌, ◌≤◌, List, ◌++◌, length, length-append, min, replicate, refl, ap, sym, subst, ◌∙◌, inl}
use Rattle.std.proofs.Common.{inr, arith}
use Rattle.std.specs.Prelude.{◌↔◌, ◌⊎◌, slice_index}
use Rattle.std.specs.List.{Contains}
use Rattle.std.proofs.lemmas.Bool.{cases_eq, cases_lt}
use Rattle.std.proofs.lemmas.List.{get_or-append_right, get_or-replicate, get_or-take, get_or_append_left, length-replicate, length-take}
use Rattle.hm_types.specs.Elements.{FullElement, Key}
use Rattle.hm_types.specs.declared.limits.TheConstants.{BLOCK_BYTES, MOST_FILE_BYTES}
use Rattle.hm_key.specs.Counts.{Counts, Subject, bytes_subject}
use Rattle.hm_key.specs.Element.{IsInBlock}
use Rattle.hm_key.specs.declared.rec_type.TheConstants.{FILE_BYTES}
use Rattle.hm_records.specs.Changes.{IsSettled}
use Rattle.hm_records.specs.View.{AreFileBytes, IsFileByte, ShowsInBlock, beside, covered, none}
use Rattle.hm_records.proofs.ObjectLemmas.{byte_one}
use Rattle.hm_cursor.specs.Views.{CameAs, WritesIn}
use Rattle.hm_cursor.proofs.FollowLemmas.{follow_twice}
use Rattle.hm_cursor.proofs.ViewsLemmas.{fresh_later, writes_again}
use Rattle.hm_files.specs.Bytes.{AreBytesFrom, block_end}
use Rattle.hm_files.specs.Close.{AreOlder, ClosesBytes}
use Rattle.hm_files.specs.Put.{CutsBytes, IsBytesOf, KeepOthers, PutsBlock, ResizesBytes}
use Rattle.hm_types.specs.Bytes.{resized}
use Rattle.hm_files.proofs.PutLemmas.{closes_writes, steady}
use Rattle.hm_files.proofs.ShownLemmas.{byte_alike, byte_put, byte_zero}

-- the bytes of files lie in blocks
abbrev pub AreBlocks : List FullElement → Type 0
AreBlocks es = (x : FullElement) → Contains es x → x.key.rec_type ≡ FILE_BYTES → IsInBlock x.key.key (length x.bytes)

-- and they do after writing
pub blocks_still : (pfs obj i : ℕ) (es es' : List FullElement) → WritesIn pfs i (IsBytesOf pfs obj i) es es' → AreBlocks es → AreBlocks es'
blocks_still pfs obj i es es' writes blocks x has type = by_origin (writes.came x has) where
  by_origin : CameAs (IsBytesOf pfs obj i) es x → IsInBlock x.key.key (length x.bytes)
  by_origin (inl (e, there, key, kind, bytes)) =
      subst (λ (k : Key). IsInBlock k.key (length x.bytes)) (sym key)
      (subst (λ (b : List ℕ). IsInBlock e.key.key (length b)) (sym bytes)
      (blocks e there (sym (ap (λ (k : Key). k.rec_type) key) ∙ type)))
  by_origin (inr new) = new.payload.file_bytes type

module _ (pfs obj i size keep until : ℕ) (es mid : List FullElement) (within : keep ≤ size) (ahead : block_end keep ≤ until)
    (closes : ClosesBytes pfs obj i (keep + 1) (until + 1) es mid) where
  closed_writes : WritesIn pfs i (IsBytesOf pfs obj i) es mid
  closed_writes = closes_writes pfs obj i es mid closes.writes

  -- what ends by there counts as before
  same_low : (t n : ℕ) (bytes : List ℕ) → n ≤ keep → Counts mid t (bytes_subject pfs obj n) bytes ↔ Counts es t (bytes_subject pfs obj n) bytes
  same_low t n bytes low = closes.beside t (bytes_subject pfs obj n) bytes (λ m up down is. absurd (omega (arith, low, up, ap (λ (s : Subject). s.key) is)))

  -- what is left past it is beyond all offsets that are asked for
  left_low : (t n : ℕ) (bytes : List ℕ) → i ≤ t → Counts mid t (bytes_subject pfs obj n) bytes → n ≤ until → n ≤ keep
  left_low t n bytes late counts near = elim (cases_lt keep n) [
    | inl high ↦ absurd (closes.gone t n late (omega (arith, high)) (omega (arith, near)) bytes counts)
    | inr low ↦ low
  ]

  -- what is about no bytes of the file counts as before
  closed_others : KeepOthers pfs obj es mid
  closed_others t s bytes differ =
      closes.beside t s bytes (λ n up down is. differ (is ∙ ap (bytes_subject pfs obj) (sym (ap (λ (z : Subject). z.key) is))))

  -- a byte of a block before the one of the cut is as before, whatever size the file has from there on
  byte_closed : (t after x v : ℕ) → keep ≤ after → x / BLOCK_BYTES < keep / BLOCK_BYTES → IsFileByte (Counts es t) pfs obj size x v
      → IsFileByte (Counts mid t) pfs obj after x v
  byte_closed t after x v reaches earlier is =
      byte_alike pfs obj size after x v (Counts es t) (Counts mid t) (inr (omega (arith, earlier, within), omega (arith, earlier, reaches)))
      (λ n bytes place. same_low t n bytes (let to = place.to in omega (arith, to, earlier))) is

  -- what shows in the block of the cut, and ends by there, shows still
  shown_low : (t after block end : ℕ) (bytes : List ℕ) → i ≤ t → keep ≤ after → block ≡ keep / BLOCK_BYTES → end ≤ keep
      → ShowsInBlock (Counts es t) pfs obj size block end bytes → ShowsInBlock (Counts mid t) pfs obj after block end bytes
  shown_low t after block end bytes late reaches here low shown = record {
    there = (same_low t end bytes low).1 shown.there;
    place = shown.place;
    rather = λ other others counts place.
        let lower : other ≤ keep = left_low t other others late counts (let to = place.to in omega (arith, to, here, ahead)) in
        elim (shown.rather other others ((same_low t other others lower).0 counts) place) [
          | inl rather ↦ inl (omega (arith, low, reaches), inl (elim rather.1 [ inl last ↦ last | inr past ↦ absurd (omega (arith, past, lower, within)) ]))
          | inr past ↦ let above = past.0 in absurd (omega (arith, above, low, within))
        ];
  }

  -- where what shows in the block of the cut ends by there
  module _ (ends : (t x end : ℕ) (bytes : List ℕ) → i ≤ t → x < keep → x / BLOCK_BYTES ≡ keep / BLOCK_BYTES
      → ShowsInBlock (Counts es t) pfs obj size (x / BLOCK_BYTES) end bytes → end ≤ keep) where
    kept_here : (t after x v : ℕ) → i ≤ t → keep ≤ after → x < keep → x / BLOCK_BYTES ≡ keep / BLOCK_BYTES → IsFileByte (Counts es t) pfs obj size x v
        → IsFileByte (Counts mid t) pfs obj after x v
    kept_here t after x v late reaches below here (covered end bytes shown over long is) =
        covered end bytes (shown_low t after (x / BLOCK_BYTES) end bytes late reaches here (ends t x end bytes late below here shown) shown) over long is
    kept_here t after x v late reaches below here (beside end bytes shown out is) =
        beside end bytes (shown_low t after (x / BLOCK_BYTES) end bytes late reaches here (ends t x end bytes late below here shown) shown) out is
    kept_here t after x v late reaches below here (none nothing is) =
        none (λ n bytes counts place.
        let lower : n ≤ keep = left_low t n bytes late counts (let to = place.to in omega (arith, to, here, ahead)) in
        nothing n bytes ((same_low t n bytes lower).0 counts) place) is

    pub cut_closed : CutsBytes pfs obj i size keep until es mid
    cut_closed = record {
      writes = closed_writes;
      kept = λ t after x v late reaches below is. elim (cases_lt (x / BLOCK_BYTES) (keep / BLOCK_BYTES)) [
        | inl earlier ↦ byte_closed t after x v reaches earlier is
        | inr not ↦ kept_here t after x v late reaches below (omega (arith, not, below)) is
      ];
      zero = λ t after x late from near.
          byte_zero mid t pfs obj after x (λ n bytes counts place.
          let lower : n ≤ keep = left_low t n bytes late counts (let to = place.to in omega (arith, to, near)) in
          inl (omega (arith, lower, from)));
      fresh = λ n differ older. closes.writes.fresh (bytes_subject pfs obj n) (λ x new. absurd new) older;
      others = closed_others;
      follows = closes.follows;
    }

  -- where the block is put with what it had before the cut
  module _ (begin : ℕ) (front : List ℕ) (es' : List FullElement) (aligned : begin % BLOCK_BYTES ≡ 0) (sized : keep ≡ begin + length front)
      (some : 1 ≤ length front) (few : length front ≤ BLOCK_BYTES) (settled : IsSettled (Counts es i)) (older : AreOlder pfs obj i 0 es)
      (read : AreBytesFrom (Counts es i) pfs obj size begin front) (puts : PutsBlock pfs obj i begin front mid es') where
    -- what counts then ends by the cut
    put_low : (t n : ℕ) (bytes : List ℕ) → i ≤ t → Counts es' t (bytes_subject pfs obj n) bytes → n ≤ until → n ≤ keep
    put_low t n bytes late counts near = elim (cases_eq n (begin + length front)) [
      | inl is ↦ omega (arith, is, sized)
      | inr differ ↦ left_low t n bytes late (puts.less t n bytes late differ counts) near
    ]

    -- a byte of the block is the one that was read
    read_byte : (t x v : ℕ) → i ≤ t → begin ≤ x → x < keep → IsFileByte (Counts es t) pfs obj size x v → slice_index front (x - begin) ≡ v
    read_byte t x v late from to is =
        let k : ℕ = x - begin in
        let place : begin + k ≡ x = omega (arith, from) in
        let inside : k < length front = omega (arith, from, to, sized) in
        let there : IsFileByte (Counts es i) pfs obj size x (slice_index front k) =
        subst (λ (y : ℕ). IsFileByte (Counts es i) pfs obj size y (slice_index front k)) place (read.each k inside) in
        let now : IsFileByte (Counts es i) pfs obj size x v =
        byte_alike pfs obj size size x v (Counts es t) (Counts es i) (inl refl)
        (λ n bytes place.
        let fresh = fresh_later (bytes_subject pfs obj n) i t es bytes (older n (omega arith)) late in
        (λ h. fresh.1 h, λ h. fresh.0 h)) is in
        byte_one pfs obj size x (slice_index front k) v (Counts es i) settled there now

    kept_put : (t after x v : ℕ) → i ≤ t → keep ≤ after → x < keep → IsFileByte (Counts es t) pfs obj size x v
        → IsFileByte (Counts es' t) pfs obj after x v
    kept_put t after x v late reaches below is = elim (cases_lt x begin) [
      | inl early ↦
          byte_alike pfs obj after after x v (Counts mid t) (Counts es' t) (inl refl)
          (λ n bytes place. puts.beside t (bytes_subject pfs obj n) bytes
          (λ m up down same. absurd (let to = place.to in omega (arith, to, early, aligned, up, ap (λ (s : Subject). s.key) same))))
          (byte_closed t after x v reaches (omega (arith, early, aligned, sized)) is)
      | inr inside ↦
          subst (λ (b : ℕ). IsFileByte (Counts es' t) pfs obj after x b) (read_byte t x v late inside below is)
          (byte_put pfs obj begin after front (Counts es' t) some few (puts.there t late) (omega (arith, reaches, sized))
          (λ n other counts from to. inl (let low = put_low t n other late counts (omega (arith, to, sized, ahead, few)) in omega (arith, low, sized)))
          x (omega (arith, inside, below, aligned, sized, few)) (omega (arith, below, sized)))
    ]

    pub cut_put : CutsBytes pfs obj i size keep until es es'
    cut_put = record {
      writes = writes_again pfs i (IsBytesOf pfs obj i) es mid es' (steady pfs obj i) closed_writes puts.writes;
      kept = kept_put;
      zero = λ t after x late from near.
          byte_zero es' t pfs obj after x (λ n bytes counts place.
          let low : n ≤ keep = put_low t n bytes late counts (let to = place.to in omega (arith, to, near)) in
          inl (omega (arith, low, from)));
      fresh = λ n differ older'.
          puts.fresh n (λ is. differ (is ∙ sym sized)) (closes.writes.fresh (bytes_subject pfs obj n) (λ x new. absurd new) older');
      others = λ t s bytes differ.
          let one = closed_others t s bytes differ in
          let two = puts.beside t s bytes (λ n up down is. differ (is ∙ ap (bytes_subject pfs obj) (sym (ap (λ (z : Subject). z.key) is)))) in
          (λ h. one.0 (two.0 h), λ h. two.1 (one.1 h));
      follows = follow_twice es mid es' closes.follows puts.follows;
    }

-- ---- a file of another size

module _ (pfs obj i size new : ℕ) (es es' : List FullElement) (small : new ≤ MOST_FILE_BYTES)
    (cuts : CutsBytes pfs obj i size (min size new) (2 ^ 64 - 1) es es') where
  resized_each : (t : ℕ) (content : List ℕ) → i ≤ t → AreFileBytes (Counts es t) pfs obj size content → (x : ℕ) → x < new
      → IsFileByte (Counts es' t) pfs obj new x (slice_index (resized new content) x)
  resized_each t content late file x below =
      subst (λ (b : ℕ). IsFileByte (Counts es' t) pfs obj new x b) (sym (get_or-take new (content ++ replicate (new - length content) 0) x 0 below))
      (by_place (cases_lt x size))
    where
      by_place : (x < size) ⊎ (size ≤ x) → IsFileByte (Counts es' t) pfs obj new x (slice_index (content ++ replicate (new - length content) 0) x)
      by_place (inl inside) =
          subst (λ (b : ℕ). IsFileByte (Counts es' t) pfs obj new x b)
          (sym (get_or_append_left content (replicate (new - length content) 0) 0 x (omega (arith, inside, file.sized))))
          (cuts.kept t new x (slice_index content x) late (omega arith) (omega (arith, inside, below)) (file.each x inside))
      by_place (inr past') =
          let zero : slice_index (content ++ replicate (new - length content) 0) x ≡ 0 =
          get_or-append_right content (replicate (new - length content) 0) size x 0 file.sized past'
          ∙ get_or-replicate (new - length content) (x - size) 0 0 (omega (arith, past', below, file.sized)) in
          subst (λ (b : ℕ). IsFileByte (Counts es' t) pfs obj new x b) (sym zero)
          (cuts.zero t new x late (omega (arith, past')) (omega (arith, below, small)))

  pub bytes_resized : ResizesBytes pfs obj i size new es es'
  bytes_resized = record {
    writes = cuts.writes;
    resizes = λ t content late file. record {
      sized =
          let zeros : length (replicate {A = ℕ} (new - length content) 0) ≡ new - length content = length-replicate {A = ℕ} (new - length content) 0 in
          let all = length-append content (replicate (new - length content) 0) in
          omega (arith, length-take new (content ++ replicate (new - length content) 0), all, zeros, file.sized);
      each = λ x below. resized_each t content late file x below;
    };
    zero = λ t after x late from near. cuts.zero t after x late from (omega (arith, near));
    others = cuts.others;
    follows = cuts.follows;
  }
