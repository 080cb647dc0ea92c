-- Whether the ids in a store are known: each element is older than what is drawn next, or its pseudo file system is a
-- slave, which may hold ids of the volume that it is fed from.
use Rattle.std.specs.Prelude.{◌≡◌, ◌⊎◌, ℕ, zero, suc, ◌+◌, ◌-◌, ◌/◌, ◌^◌, ◌<◌, ◌≤◌, Bool, false, IsFalse, List, [], ◌∷◌, ◌++◌, length, take, drop}
use Rattle.std.specs.Prelude.{slice_index_or, All}
use Rattle.std.specs.Int.{bytes_low_first}
use Rattle.std.specs.List.{Contains}
use Rattle.std.proofs.Common.{refl, sym, ap, ◌∙◌, subst, arith}
use Rattle.std.proofs.lemmas.List.Concat.{flat_map-cons}
use Rattle.std.proofs.lemmas.List.Elements.{All-contains, Contains-get_or}
use native.Mathlib.Decide.{ℕ_discrete, dec_le, dec_lt, map_dec}
use mathlib.Core.Bool.{Bool-discrete}
use mathlib.Core.List.{List-discrete}
use Rattle.hm_types.specs.Elements.{FullElement}
use Rattle.hm_types.specs.Intervals.{Keeps, open_end}
use Rattle.hm_types.specs.declared.limits.TheConstants.{MOST_INTERVALS}
use Rattle.hm_fields.specs.Fields.{get}
use Rattle.hm_key.specs.Counts.{Counts, IsSeen, Subject, record_subject, subject_of}
use Rattle.hm_key.specs.Element.{pfs_of}
use Rattle.hm_retain.specs.Intervals.{IsInterval, RiseFrom}
use Rattle.hm_retain.specs.Retention.{IsRetention}
use Rattle.hm_records.specs.PfsRecord.{AreIds, FitsRole, IsPfsRecord, interval_bytes, intervals_bytes, pfs_bytes}
use Rattle.hm_records.specs.declared.pfs_record.PfsRecord.{PfsRecord}
use Rattle.hm_records.proofs.IntervalLemmas.{retention_ids}
use Rattle.hm_records.proofs.NumberLemmas.{number_back}
use Rattle.hm_records.proofs.PfsLemmas.{head_back, head_in, length-pfs, pfs_head, pfs_tail}
use Rattle.hm_stored.specs.Decide.{dec_all, dec_and, dec_any, dec_given, dec_if, dec_not, dec_or, dec_true, holds}

-- so many intervals in some bytes: each is the number in the next 8 bytes, and the one in the 8 after them
unfoldable pub intervals_in : ℕ → List ℕ → List (ℕ × ℕ)
intervals_in zero bytes = []
intervals_in (suc n) bytes =
    (get (take 8 bytes) 0 8, get (take 8 (drop 8 bytes)) 0 8) ∷ intervals_in n (drop 8 (drop 8 bytes))

-- the record in some bytes: its fields stand in the first 32, and its intervals fill the others
unfoldable pub record_in : List ℕ → PfsRecord
record_in bytes = head_in (take 32 bytes) (intervals_in ((length bytes - 32) / 16) (drop 32 bytes))

-- intervals that were written are read again
first_back : (x : ℕ × ℕ) (rest : List ℕ) → x.0 < 2 ^ 64 → get (take 8 (interval_bytes x ++ rest)) 0 8 ≡ x.0
unfolding get interval_bytes
first_back x rest fits = number_back x.0 (bytes_low_first 0 8 x.1 ++ rest) fits

last_back : (x : ℕ × ℕ) (rest : List ℕ) → x.1 < 2 ^ 64 → get (take 8 (drop 8 (interval_bytes x ++ rest))) 0 8 ≡ x.1
unfolding get interval_bytes
last_back x rest fits = number_back x.1 rest fits

after_interval : (x : ℕ × ℕ) (rest : List ℕ) → drop 8 (drop 8 (interval_bytes x ++ rest)) ≡ rest
unfolding interval_bytes
after_interval x rest = refl

intervals_back : (list : List (ℕ × ℕ)) → AreIds list → intervals_in (length list) (intervals_bytes list) ≡ list
unfolding intervals_in
intervals_back [] ids = refl
intervals_back (x ∷ list) ids =
    let rest = intervals_bytes list in
    rw (flat_map-cons interval_bytes x list, first_back x rest ids.0.0, last_back x rest ids.0.1, after_interval x rest, intervals_back list ids.1) refl

-- and so is a record
record_back : (r : PfsRecord) → IsPfsRecord r → record_in (pfs_bytes r) ≡ r
unfolding record_in
record_back r is =
    let count : (length (pfs_bytes r) - 32) / 16 ≡ length r.retention = omega (arith, length-pfs r) in
    let list = intervals_back r.retention (retention_ids r.retention is.retention) in
    rw (count, pfs_head r, pfs_tail r, list) (head_back r is)

-- decisions of the rules of a record
dec_keeps : (list : List (ℕ × ℕ)) (id : ℕ) → Dec (Keeps list id)
dec_keeps [] id = no (λ h. h)
dec_keeps (interval ∷ more) id = dec_or (dec_and (dec_le interval.0 id) (dec_le id interval.1)) (dec_keeps more id)

dec_interval : (least : ℕ) (interval : ℕ × ℕ) → Dec (IsInterval least interval)
dec_interval least interval =
    dec_given (λ h. h.above) (dec_le least interval.0) λ above.
    dec_given (λ h. h.ordered) (dec_le interval.0 interval.1) λ ordered.
    dec_given (λ h. h.bounded) (dec_lt interval.1 (2 ^ 64)) λ bounded.
    yes (record { above = above; ordered = ordered; bounded = bounded })

dec_rise : (least : ℕ) (list : List (ℕ × ℕ)) → Dec (RiseFrom least list)
dec_rise least [] = yes tt
dec_rise least (interval ∷ more) = dec_and (dec_interval least interval) (dec_rise (interval.1 + 2) more)

dec_retention : (list : List (ℕ × ℕ)) → Dec (IsRetention list)
dec_retention list =
    dec_given (λ h. h.intervals) (dec_rise 0 list) λ intervals.
    dec_given (λ h. h.few) (dec_le (length list) MOST_INTERVALS) λ few.
    yes (record { intervals = intervals; few = few })

dec_role : (master : Bool) (sync_end : ℕ) (retention : List (ℕ × ℕ)) → Dec (FitsRole master sync_end retention)
dec_role master sync_end retention =
    dec_given (λ h. h.no_sync_end) (dec_if (dec_true master) (ℕ_discrete sync_end 0)) λ no_sync_end.
    dec_given (λ h. h.master_is_open) (dec_if (dec_true master) (dec_keeps retention open_end)) λ master_is_open.
    dec_given (λ h. h.slave_is_not) (dec_if (dec_not (dec_true master)) (dec_not (dec_keeps retention open_end))) λ slave_is_not.
    yes (record { no_sync_end = no_sync_end; master_is_open = master_is_open; slave_is_not = slave_is_not })

dec_record : (r : PfsRecord) → Dec (IsPfsRecord r)
dec_record r =
    dec_given (λ h. h.shared) (dec_lt r.shared (2 ^ 64)) λ shared.
    dec_given (λ h. h.sync_end) (dec_lt r.sync_end.0 (2 ^ 64)) λ sync_end.
    dec_given (λ h. h.retention) (dec_retention r.retention) λ retention.
    dec_given (λ h. h.role) (dec_role r.master r.sync_end.0 r.retention) λ role.
    yes (record { shared = shared; sync_end = sync_end; retention = retention; role = role })

-- some bytes spell the record of a slave
pub record SpellsSlave (bytes : List ℕ) : Type 0 where
  pub value : PfsRecord
  pub is : IsPfsRecord value
  pub spelled : bytes ≡ pfs_bytes value
  pub slave : IsFalse value.master

-- it is the one that is read from them
read_slave : (bytes : List ℕ) (h : SpellsSlave bytes) → record_in bytes ≡ h.value
read_slave bytes h = ap record_in h.spelled ∙ record_back h.value h.is

dec_slave : (bytes : List ℕ) → Dec (SpellsSlave bytes)
dec_slave bytes =
    let r = record_in bytes in
    let read = read_slave bytes in
    dec_given (λ h. subst IsPfsRecord (sym (read h)) h.is) (dec_record r) λ is.
    dec_given (λ h. h.spelled ∙ ap pfs_bytes (sym (read h))) (List-discrete ℕ_discrete bytes (pfs_bytes r)) λ spelled.
    dec_given (λ h. ap (λ (value : PfsRecord). value.master) (read h) ∙ h.slave) (Bool-discrete r.master false) λ slave.
    yes (record { value = r; is = is; spelled = spelled; slave = slave })

-- an element was made and closed by no later call than the one that drew this id
abbrev pub WasDrawn : ℕ → FullElement → Type 0
WasDrawn last x = (x.key.create < last + 1) × (x.delete < last + 1)

-- the elements of a pseudo file system were
abbrev pub WereDrawn : ℕ → List FullElement → ℕ → Type 0
WereDrawn last es pfs = (x : FullElement) → Contains es x → pfs_of x.key.localization ≡ pfs → WasDrawn last x

-- a pseudo file system is a slave, by its record of now
abbrev pub IsOfSlave : List FullElement → ℕ → Type 0
IsOfSlave es pfs =
    (r : PfsRecord) × IsPfsRecord r × Counts es open_end (record_subject pfs) (pfs_bytes r) × IsFalse r.master

-- where another element is about the subject, and was made by now, it is not newer than this one
abbrev pub IsNotPassedBy : Subject → FullElement → FullElement → Type 0
IsNotPassedBy subject x other = subject_of other.key ≡ subject → other.key.create ≤ open_end → other.key.create ≤ x.key.create

-- The ids of elements are known: each pseudo file system is a slave, or its elements were made and closed by then.
abbrev pub AreKnown : ℕ → List FullElement → Type 0
AreKnown last es = (pfs : ℕ) → IsOfSlave es pfs ⊎ WereDrawn last es pfs

-- an element is the record of now of a pseudo file system, and says that it is a slave
pub record TellsSlave (es : List FullElement) (pfs : ℕ) (x : FullElement) : Type 0 where
  pub about : subject_of x.key ≡ record_subject pfs
  pub seen : IsSeen open_end x
  pub newest : All (IsNotPassedBy (record_subject pfs) x) es
  pub slave : SpellsSlave x.bytes

same_subject : (a b : Subject) → a.localization ≡ b.localization → a.obj ≡ b.obj → a.rec_type ≡ b.rec_type → a.key ≡ b.key → a ≡ b
same_subject a b p q r s i = record { localization = p i; obj = q i; rec_type = r i; key = s i }

dec_subject : Discrete Subject
dec_subject a b =
    dec_given (λ e. cc) (ℕ_discrete a.localization b.localization) λ localization.
    dec_given (λ e. cc) (ℕ_discrete a.obj b.obj) λ obj.
    dec_given (λ e. cc) (ℕ_discrete a.rec_type b.rec_type) λ rec_type.
    dec_given (λ e. cc) (ℕ_discrete a.key b.key) λ key.
    yes (same_subject a b localization obj rec_type key)

dec_seen : (t : ℕ) (x : FullElement) → Dec (IsSeen t x)
dec_seen t x = dec_and (dec_le x.key.create t) (dec_or (ℕ_discrete x.delete 0) (dec_lt t x.delete))

dec_not_passed_by : (subject : Subject) (x other : FullElement) → Dec (IsNotPassedBy subject x other)
dec_not_passed_by subject x other =
    dec_if (dec_subject (subject_of other.key) subject)
    (dec_if (dec_le other.key.create open_end) (dec_le other.key.create x.key.create))

dec_tells_slave : (es : List FullElement) (pfs : ℕ) (x : FullElement) → Dec (TellsSlave es pfs x)
dec_tells_slave es pfs x =
    dec_given (λ h. h.about) (dec_subject (subject_of x.key) (record_subject pfs)) λ about.
    dec_given (λ h. h.seen) (dec_seen open_end x) λ seen.
    dec_given (λ h. h.newest) (dec_all (dec_not_passed_by (record_subject pfs) x) es) λ newest.
    dec_given (λ h. h.slave) (dec_slave x.bytes) λ slave.
    yes (record { about = about; seen = seen; newest = newest; slave = slave })

-- the record of now is that of a slave just where an element tells so
from_told : (es : List FullElement) (pfs : ℕ) (x : FullElement) → Contains es x → TellsSlave es pfs x → IsOfSlave es pfs
from_told es pfs x there tells =
    let counts : Counts es open_end (record_subject pfs) (pfs_bytes tells.slave.value) = record {
      element = x;
      there = there;
      about = tells.about;
      holds = tells.slave.spelled;
      seen = tells.seen;
      newest = λ other at. All-contains (IsNotPassedBy (record_subject pfs) x) es other tells.newest at;
    } in
    (tells.slave.value, tells.slave.is, counts, tells.slave.slave)

to_told : (es : List FullElement) (pfs : ℕ) → IsOfSlave es pfs → (x : FullElement) × Contains es x × TellsSlave es pfs x
to_told es pfs (r, is, counts, slave) =
    let tells : TellsSlave es pfs counts.element = record {
      about = counts.about;
      seen = counts.seen;
      newest = λ k d lt. counts.newest (slice_index_or es k d) (Contains-get_or es k d lt);
      slave = record { value = r; is = is; spelled = counts.holds; slave = slave };
    } in
    (counts.element, counts.there, tells)

pub dec_of_slave : (es : List FullElement) (pfs : ℕ) → Dec (IsOfSlave es pfs)
dec_of_slave es pfs = map_dec (λ h. from_told es pfs h.0 h.1 h.2) (to_told es pfs) (dec_any (dec_tells_slave es pfs) es)

-- an element is of a slave, or was drawn
abbrev pub IsKnown : ℕ → List FullElement → FullElement → Type 0
IsKnown last es x = IsOfSlave es (pfs_of x.key.localization) ⊎ WasDrawn last x

pub dec_known : (last : ℕ) (es : List FullElement) (x : FullElement) → Dec (IsKnown last es x)
dec_known last es x =
    dec_or (dec_of_slave es (pfs_of x.key.localization))
    (dec_and (dec_lt x.key.create (last + 1)) (dec_lt x.delete (last + 1)))

-- whether each element of a store is of a slave, or was made and closed by then: `last` is the last id that was drawn
unfoldable pub is_known : ℕ → List FullElement → Bool
is_known last es = holds (dec_all (dec_known last es) es)
