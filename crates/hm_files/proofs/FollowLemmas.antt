-- A block that is put: what else has bytes of it has ended, so that what followed before follows still.
use Rattle.std.proofs.Common.{◌≡◌, ◌≢◌, ◌∙◌, ℕ, ◌+◌, ◌%◌, ◌<◌, ◌≤◌, List, None, Some, ap, length, sym, subst, inl, inr, arith}
use Rattle.std.proofs.lemmas.Bool.{cases_lt}
use Rattle.hm_types.specs.Elements.{FullElement, Key}
use Rattle.hm_types.specs.declared.limits.TheConstants.{BLOCK_BYTES}
use Rattle.hm_key.specs.Counts.{Counts, IsSeen, Subject, bytes_subject, subject_of}
use Rattle.hm_key.specs.Element.{IsInBlock}
use Rattle.hm_records.specs.Changes.{CountsNothing}
use Rattle.hm_records.specs.Follows.{Follows, HasByte, IsClosedBy, Meet, StillFollow, bytes as shared, of_bytes, versions}
use Rattle.hm_records.proofs.MeetLemmas.{nothing_ended}
use Rattle.hm_cursor.specs.Told.{Lists, fulls}
use Rattle.hm_cursor.specs.Version.{IsVersion}
use Rattle.hm_cursor.specs.Write.{FollowWith, IsFreshFor, OthersEnded, Rewrites}
use Rattle.hm_cursor.proofs.ToldLemmas.{newest_counted}
use Rattle.hm_files.specs.Close.{AreOlder, ClearsBlock}
use Rattle.hm_files.proofs.CutLemmas.{AreBlocks, blocks_still}
use Rattle.hm_files.proofs.PutLemmas.{closes_writes}

-- where no version counts, a new one leaves none open
pub unseen_follows : (lists : Lists) (s : Subject) (bytes : List ℕ) (i : ℕ) (es' : List FullElement) → IsVersion lists.0 s i None
    → Rewrites s (Some bytes) i (fulls lists) es' → FollowWith s bytes i (fulls lists) es'
unseen_follows lists s bytes i es' none rewrites pfs t =
    rewrites.follows pfs t (inr (λ other counts. let (y, newest, same) = newest_counted lists.0 lists.1 s i other counts in none y newest))

same_some : (a b : List ℕ) → Some a ≡ Some b → a ≡ b
same_some a b is = cc

-- an element that ends in a block has the block's first byte
has_first : (pfs obj begin n t : ℕ) (bytes : List ℕ) (es : List FullElement) → AreBlocks es → begin % BLOCK_BYTES ≡ 0 → begin < n
    → n ≤ begin + BLOCK_BYTES → (counts : Counts es t (bytes_subject pfs obj n) bytes) → HasByte pfs obj begin counts.element
has_first pfs obj begin n t bytes es blocks aligned from to counts =
    let about = counts.about in
    let end : counts.element.key.key ≡ n = ap (λ (s : Subject). s.key) about in
    let block = blocks counts.element counts.there (ap (λ (s : Subject). s.rec_type) about) in
    record {
      about = about ∙ ap (bytes_subject pfs obj) (sym end);
      from = omega (arith, block.few, block.within, block.aligned, block.some, aligned, from, to, end);
      to = omega (arith, from, end);
    }

module _ (pfs obj i t begin a b : ℕ) (xs ys : List ℕ) (es : List FullElement) (blocks : AreBlocks es) (aligned : begin % BLOCK_BYTES ≡ 0) (late : i ≤ t)
    (follow : Follows pfs t es) (from_a : begin < a) (to_a : a ≤ begin + BLOCK_BYTES) (from_b : begin < b) (to_b : b ≤ begin + BLOCK_BYTES)
    (counts_a : Counts es i (bytes_subject pfs obj a) xs) (counts_b : Counts es i (bytes_subject pfs obj b) ys) where
  meet : Meet pfs counts_a.element counts_b.element
  meet = shared obj begin (has_first pfs obj begin a i xs es blocks aligned from_a to_a counts_a)
      (has_first pfs obj begin b i ys es blocks aligned from_b to_b counts_b)

  meet_back : Meet pfs counts_b.element counts_a.element
  meet_back = shared obj begin (has_first pfs obj begin b i ys es blocks aligned from_b to_b counts_b)
      (has_first pfs obj begin a i xs es blocks aligned from_a to_a counts_a)

  -- what was closed by `i` is not seen then
  unseen : (x y : FullElement) → IsClosedBy y.key.create x → IsSeen i x → IsSeen i y → ⊥
  unseen x y closed seen_x seen_y = elim seen_x.1 [
    | inl open' ↦ closed.closed open'
    | inr later ↦ omega (arith, later, closed.early, seen_y.0)
  ]

  -- where versions follow one another, only bytes of one end count in a block
  pub only_one : a ≡ b
  only_one = elim (cases_lt counts_a.element.key.create counts_b.element.key.create) [
    | inl older ↦ absurd (unseen counts_a.element counts_b.element
        (follow.closed counts_a.element counts_b.element counts_a.there counts_b.there meet older (omega (arith, counts_b.seen.0, late)))
        counts_a.seen counts_b.seen)
    | inr not_older ↦ elim (cases_lt counts_b.element.key.create counts_a.element.key.create) [
      | inl newer ↦ absurd (unseen counts_b.element counts_a.element
          (follow.closed counts_b.element counts_a.element counts_b.there counts_a.there meet_back newer (omega (arith, counts_a.seen.0, late)))
          counts_b.seen counts_a.seen)
      | inr not_newer ↦
          let same = follow.one counts_a.element counts_b.element counts_a.there counts_b.there meet (omega (arith, not_older, not_newer))
          (omega (arith, counts_a.seen.0, late)) in
          sym (ap (λ (s : Subject). s.key) counts_a.about) ∙ ap (λ (k : Key). k.key) same ∙ ap (λ (s : Subject). s.key) counts_b.about
    ]
  ]

module _ (pfs obj i begin : ℕ) (bytes : List ℕ) (es mid es' : List FullElement) (aligned : begin % BLOCK_BYTES ≡ 0)
    (some : 1 ≤ length bytes) (few : length bytes ≤ BLOCK_BYTES) (blocks : AreBlocks es) (older : AreOlder pfs obj i (begin + 1) es)
    (clears : ClearsBlock pfs obj i begin (begin + length bytes) es mid)
    (second : FollowWith (bytes_subject pfs obj (begin + length bytes)) bytes i mid es') where
  mid_blocks : AreBlocks mid
  mid_blocks = blocks_still pfs obj i es mid (closes_writes pfs obj i es mid clears.writes) blocks

  -- what ended in the block is older
  older_there : (n : ℕ) → begin < n → IsFreshFor (bytes_subject pfs obj n) i mid
  older_there n above = clears.writes.fresh (bytes_subject pfs obj n) (λ x new. absurd new) (older n (omega (arith, above)))

  -- an element of the file that has a byte of the block ends in it
  ends_there : (n len y : ℕ) → IsInBlock n len → n ≤ y + len → y < n → begin ≤ y → y < begin + length bytes → (begin < n) × (n ≤ begin + BLOCK_BYTES)
  ends_there n len y block from to low' high' = (
    omega (arith, to, low'),
    omega (arith, block.few, block.within, block.aligned, aligned, from, high', few),
  )

  others_ended : (p t : ℕ) → Follows p t es → Follows p t mid → i ≤ t → OthersEnded p (bytes_subject pfs obj (begin + length bytes)) (Some bytes) i mid
  others_ended p t was follow late e x about is has differ (versions of same) = absurd (differ (same ∙ about))
  others_ended p t was follow late e x about is has differ (shared obj' y mine its) =
      let here : bytes_subject p obj' e.key.key ≡ bytes_subject pfs obj (begin + length bytes) = sym mine.about ∙ about in
      let place = ap (λ (s : Subject). s.localization) here in
      let number = ap (λ (s : Subject). s.obj) here in
      let end = ap (λ (s : Subject). s.key) here in
      let long = ap length (same_some bytes e.bytes is) in
      let system : p ≡ pfs = omega (arith, place) in
      let there : subject_of x.key ≡ bytes_subject pfs obj x.key.key =
      its.about ∙ ap (λ (n : ℕ). bytes_subject n obj' x.key.key) system ∙ ap (λ (n : ℕ). bytes_subject pfs n x.key.key) number in
      let block = mid_blocks x has (ap (λ (s : Subject). s.rec_type) there) in
      let inside = ends_there x.key.key (length x.bytes) y block its.from its.to (omega (arith, mine.from, end, long)) (omega (arith, mine.to, end)) in
      let fresh = older_there x.key.key inside.0 in
      let apart : x.key.key ≢ begin + length bytes = λ same. differ (there ∙ ap (bytes_subject pfs obj) same) in
      nothing_ended p t i mid x follow late has (of_bytes obj' x.key.key its.about) (fresh.made x has there) (fresh.closed x has there)
      (subst (λ (s : Subject). CountsNothing (Counts mid i) s) (sym there)
      (clears.alone t late (subst (λ (n : ℕ). Follows n t es) system was) x.key.key inside.0 inside.1 apart))

  pub block_follows : StillFollow es es'
  block_follows p t follow =
      let between : Follows p t mid = clears.follows p t follow in
      second p t (others_ended p t follow between) between
