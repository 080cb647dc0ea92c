-- A record, and the bytes that spell it.
use Rattle.std.proofs.Common.{◌≡◌, ℕ, ◌+◌, ◌*◌, Bool, true, false, nat_eq, List, [], length, take, drop, slice_index, refl, sym, ap, ◌∙◌, arith, length-append}
use Rattle.std.proofs.lemmas.List.{take_at, drop_at, take-append-drop}
use Rattle.byteorder.specs.Endian.{little_number}
use Rattle.byteorder.specs.Numbers.{little_number-reads_back}
use Rattle.hm_records.specs.declared.pfs_record.PfsRecord.{PfsRecord}
use Rattle.hm_records.specs.PfsRecord.{AreIds, IsPfsRecord, IsPfsSize, head_bytes, intervals_bytes, pfs_bytes, role_of}
use Rattle.hm_records.proofs.IntervalLemmas.{length-intervals, retention_ids, same_intervals}

-- the record whose numbers stand where a record has them
abbrev pub head_in : List ℕ → List (ℕ × ℕ) → PfsRecord
head_in head retention = record {
  master = nat_eq (slice_index head 0) 1;
  shared = little_number 8 (take 8 (drop 8 head));
  sync_end = record { 0 = little_number 8 (take 8 (drop 16 head)) };
  retention = retention;
}

same_record : (a b : PfsRecord) → a.master ≡ b.master → a.shared ≡ b.shared → a.sync_end.0 ≡ b.sync_end.0
    → a.retention ≡ b.retention → a ≡ b
same_record a b master shared sync retention =
    let make : Bool → ℕ → ℕ → List (ℕ × ℕ) → PfsRecord =
    λ m s e r. record { master = m; shared = s; sync_end = record { 0 = e }; retention = r } in
    let all : make a.master a.shared a.sync_end.0 a.retention ≡ make b.master b.shared b.sync_end.0 b.retention =
    rw (master, shared, sync, retention) refl in
    all

role_back : (master : Bool) → nat_eq (role_of master) 1 ≡ master
role_back true = refl
role_back false = refl

-- it is the record that was written
pub head_back : (r : PfsRecord) → IsPfsRecord r → head_in (head_bytes r) r.retention ≡ r
unfolding head_bytes
head_back r is =
    same_record (head_in (head_bytes r) r.retention) r (role_back r.master)
    (little_number-reads_back 8 r.shared [] is.shared)
    (little_number-reads_back 8 r.sync_end.0 [] is.sync_end)
    refl

length-head : (r : PfsRecord) → length (head_bytes r) ≡ 32
unfolding head_bytes
length-head r = refl

pub pfs_head : (r : PfsRecord) → take 32 (pfs_bytes r) ≡ head_bytes r
unfolding pfs_bytes
pfs_head r = take_at (head_bytes r) (intervals_bytes r.retention) 32 (length-head r)

pub pfs_tail : (r : PfsRecord) → drop 32 (pfs_bytes r) ≡ intervals_bytes r.retention
unfolding pfs_bytes
pfs_tail r = drop_at (head_bytes r) (intervals_bytes r.retention) 32 (length-head r)

pub length-pfs : (r : PfsRecord) → length (pfs_bytes r) ≡ 32 + 16 * length r.retention
unfolding pfs_bytes
length-pfs r =
    omega (arith, length-append (head_bytes r) (intervals_bytes r.retention), length-head r, length-intervals r.retention)

-- a spelling has a size that a record may have
pub pfs_size : (r : PfsRecord) → IsPfsRecord r → IsPfsSize (length (pfs_bytes r))
pfs_size r is =
    let size = length-pfs r in
    record { least = omega arith; most = omega (arith, is.retention.few); whole = omega arith }

-- bytes whose head and whose rest are those of a record spell it
pub pfs_parts : (bytes : List ℕ) (r : PfsRecord) → take 32 bytes ≡ head_bytes r → drop 32 bytes ≡ intervals_bytes r.retention
    → bytes ≡ pfs_bytes r
unfolding pfs_bytes
pfs_parts bytes r head tail = sym (take-append-drop 32 bytes) ∙ rw (head, tail) refl

-- the intervals that were read from the rest of a spelling are the record's
pub intervals_back : (bytes rest : List ℕ) (list : List (ℕ × ℕ)) (r : PfsRecord) → IsPfsRecord r → bytes ≡ pfs_bytes r
    → rest ≡ drop 32 bytes → AreIds list → rest ≡ intervals_bytes list → list ≡ r.retention
intervals_back bytes rest list r is same back ids read =
    same_intervals list r.retention ids (retention_ids r.retention is.retention)
    (sym read ∙ back ∙ ap (λ (xs : List ℕ). drop 32 xs) same ∙ pfs_tail r)

-- and the head is the record's
pub head_is : (bytes : List ℕ) (r : PfsRecord) → bytes ≡ pfs_bytes r → take 32 bytes ≡ head_bytes r
head_is bytes r same = ap (λ (xs : List ℕ). take 32 xs) same ∙ pfs_head r

-- some bytes are those of one record
pub one_record : (a b : PfsRecord) → IsPfsRecord a → IsPfsRecord b → pfs_bytes a ≡ pfs_bytes b → a ≡ b
one_record a b is is' same =
    let list = same_intervals a.retention b.retention (retention_ids a.retention is.retention) (retention_ids b.retention is'.retention)
    (sym (pfs_tail a) ∙ ap (λ (xs : List ℕ). drop 32 xs) same ∙ pfs_tail b) in
    let head = sym (pfs_head a) ∙ head_is (pfs_bytes a) b same in
    sym (head_back a is) ∙ rw (head, list) (head_back b is')
