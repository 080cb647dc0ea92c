-- A piece that is put into a file.
use Rattle.std.proofs.Common.{◌≡◌, ℕ, ◌+◌, ◌-◌, ◌<◌, ◌≤◌, List, length, min, refl, ap, sym, subst, ◌∙◌, inl, inr, arith}
use Rattle.std.specs.Prelude.{◌⊎◌, slice_index}
use Rattle.std.proofs.lemmas.Bool.{cases_lt}
use Rattle.hm_types.specs.Elements.{FullElement}
use Rattle.hm_types.specs.declared.limits.TheConstants.{BLOCK_BYTES}
use Rattle.hm_key.specs.Counts.{Counts, Subject, bytes_subject}
use Rattle.hm_records.specs.Changes.{IsSettled}
use Rattle.hm_records.specs.View.{IsFileByte}
use Rattle.hm_cursor.proofs.ViewsLemmas.{fresh_later}
use Rattle.hm_files.specs.Close.{AreOlder}
use Rattle.hm_files.specs.Put.{PutsBlock}
use Rattle.hm_files.specs.Bytes.{block_start}
use Rattle.hm_files.specs.Write.{PutsPiece}
use Rattle.hm_records.proofs.ObjectLemmas.{byte_one}
use Rattle.hm_files.proofs.ShownLemmas.{byte_alike, byte_put}

-- what stands at a place of the new bytes of a block: of the piece, of what the block had, or zero
pub record IsMerged (C : Subject → List ℕ → Type 0) (pfs obj size at begin : ℕ) (piece bytes : List ℕ) : Type 0 where
  pub put : (x : ℕ) → at ≤ x → x < at + length piece → slice_index bytes (x - begin) ≡ slice_index piece (x - at)
  pub kept : (x : ℕ) → begin ≤ x → x < size → x < begin + length bytes → (x < at) ⊎ (at + length piece ≤ x)
      → IsFileByte C pfs obj size x (slice_index bytes (x - begin))
  pub zero : (x : ℕ) → begin ≤ x → size ≤ x → x < at → slice_index bytes (x - begin) ≡ 0

module _ (pfs obj i size after at : ℕ) (piece bytes : List ℕ) (es es' : List FullElement) (settled : IsSettled (Counts es i))
    (older : AreOlder pfs obj i (block_start at + 1) es) (some : 1 ≤ length bytes) (few : length bytes ≤ BLOCK_BYTES) (larger : size ≤ after)
    (reaches : at + length piece ≤ block_start at + length bytes) (long : block_start at + length bytes ≡ min after (block_start at + BLOCK_BYTES))
    (merged : IsMerged (Counts es i) pfs obj size at (block_start at) piece bytes) (puts : PutsBlock pfs obj i (block_start at) bytes es es') where
  -- the new bytes of the block
  new_byte : (t x : ℕ) → i ≤ t → block_start at ≤ x → x < block_start at + length bytes
      → IsFileByte (Counts es' t) pfs obj after x (slice_index bytes (x - block_start at))
  new_byte t x late from to =
      byte_put pfs obj (block_start at) after bytes (Counts es' t) some few (puts.there t late) (omega (arith, long))
      (λ n other counts above within. elim (cases_lt (block_start at + length bytes) n) [
        | inl past ↦ inr (omega (arith, past, within, long))
        | inr low ↦ inl low
      ]) x (omega (arith, from, to, few)) to

  -- bytes of other blocks
  other_byte : (t any x v : ℕ) → i ≤ t → (x < block_start at) ⊎ (block_start at + BLOCK_BYTES ≤ x) → IsFileByte (Counts es t) pfs obj any x v
      → IsFileByte (Counts es' t) pfs obj any x v
  other_byte t any x v late out is =
      byte_alike pfs obj any any x v (Counts es t) (Counts es' t) (inl refl)
      (λ n other place. puts.beside t (bytes_subject pfs obj n) other (λ m up down same.
      let from = place.from in
      let to = place.to in
      elim out [
        | inl early ↦ absurd (omega (arith, early, to, up, ap (λ (s : Subject). s.key) same))
        | inr later ↦ absurd (omega (arith, later, from, down, ap (λ (s : Subject). s.key) same))
      ])) is

  kept_byte : (t x v : ℕ) → i ≤ t → x < size → block_start at ≤ x → x < block_start at + BLOCK_BYTES → (x < at) ⊎ (at + length piece ≤ x)
      → IsFileByte (Counts es t) pfs obj size x v → IsFileByte (Counts es' t) pfs obj after x v
  kept_byte t x v late below from to out is =
      let there : x < block_start at + length bytes = omega (arith, below, to, long, larger) in
      let now : IsFileByte (Counts es i) pfs obj size x v =
      byte_alike pfs obj size size x v (Counts es t) (Counts es i) (inl refl)
      (λ n other place.
      let fresh = fresh_later (bytes_subject pfs obj n) i t es other (older n (let above = place.from in omega (arith, from, to, above))) late in
      (λ h. fresh.1 h, λ h. fresh.0 h)) is in
      let same : slice_index bytes (x - block_start at) ≡ v =
      byte_one pfs obj size x (slice_index bytes (x - block_start at)) v (Counts es i) settled (merged.kept x from below there out) now in
      subst (λ (b : ℕ). IsFileByte (Counts es' t) pfs obj after x b) same (new_byte t x late from there)

  pub piece_put : PutsPiece pfs obj i size after at piece es es'
  piece_put = record {
    writes = puts.writes;
    put = λ t x late from to.
        subst (λ (b : ℕ). IsFileByte (Counts es' t) pfs obj after x b) (merged.put x from to)
        (new_byte t x late (omega (arith, from)) (omega (arith, to, reaches)));
    kept = kept_byte;
    zero = λ t x late past' from to.
        subst (λ (b : ℕ). IsFileByte (Counts es' t) pfs obj after x b) (merged.zero x from past' to)
        (new_byte t x late from (omega (arith, to, reaches)));
    beside = other_byte;
    fresh = λ n above fresh. puts.fresh n (λ is. absurd (omega (arith, is, above, few))) fresh;
    others = λ t s other differ.
        puts.beside t s other (λ n up down is. differ (is ∙ ap (bytes_subject pfs obj) (sym (ap (λ (z : Subject). z.key) is))));
    follows = puts.follows;
  }
