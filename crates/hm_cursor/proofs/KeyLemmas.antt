-- The order of keys, by the numbers in them.
use Rattle.std.proofs.Common.{◌≡◌, ◌≤◌, ap, sym, arith}
use Rattle.hm_types.specs.Elements.{Key}
use Rattle.hm_key.specs.Counts.{subject_of}
use Rattle.hm_key.specs.Key.{IsFrom}
use Rattle.hm_key.proofs.KeyLemmas.{key_from_fields}
use Rattle.hm_key.proofs.RiseLemmas.{from_rises}
use Rattle.hm_cursor.specs.Version.{AreOfOneKind}

-- a later id of one subject
pub subject_from : (a b : Key) → subject_of b ≡ subject_of a → a.create ≤ b.create → IsFrom a b
subject_from a b same later =
    key_from_fields a b (omega (arith, ap (λ s. s.localization) same)) (omega (arith, ap (λ s. s.obj) same))
    (omega (arith, ap (λ s. s.rec_type) same)) (omega (arith, ap (λ s. s.key) same)) later

-- keys with these fields alike are about one subject
pub subject_same : (a b : Key) → AreOfOneKind a b → a.key ≡ b.key → subject_of a ≡ subject_of b
subject_same a b kind key = λ i. record { localization = kind.localization i; obj = kind.obj i; rec_type = kind.rec_type i; key = key i }

-- keys about one subject are of one kind
pub kind_same : (a b : Key) → subject_of a ≡ subject_of b → AreOfOneKind a b
kind_same a b same = record { localization = ap (λ s. s.localization) same; obj = ap (λ s. s.obj) same; rec_type = ap (λ s. s.rec_type) same }

-- what stands between two keys of one kind is of that kind
pub kind_between : (a b c : Key) → AreOfOneKind a c → IsFrom a b → IsFrom b c → AreOfOneKind b c
kind_between a b c kind first second =
    let up = from_rises a b first in
    let on = from_rises b c second in
    record { localization = omega arith; obj = omega arith; rec_type = omega arith }

-- numbers do not fall within one kind
pub key_rises : (a b : Key) → AreOfOneKind a b → IsFrom a b → a.key ≤ b.key
key_rises a b kind from = let up = from_rises a b from in omega arith

-- what stands between two keys about one subject is about it
pub subject_between : (a b c : Key) → subject_of c ≡ subject_of a → IsFrom a b → IsFrom b c → subject_of b ≡ subject_of a
subject_between a b c same first second =
    let kind : AreOfOneKind a c = kind_same a c (sym same) in
    let between = kind_between a b c kind first second in
    let key : a.key ≡ c.key = ap (λ s. s.key) (sym same) in
    let up = from_rises a b first in
    let on = from_rises b c second in
    subject_same b a (record { localization = omega arith; obj = omega arith; rec_type = omega arith }) (omega arith)

-- ids do not fall within one subject
pub create_rises : (a b : Key) → subject_of b ≡ subject_of a → IsFrom a b → a.create ≤ b.create
create_rises a b same from =
    let up = from_rises a b from in
    omega (arith, ap (λ s. s.localization) same, ap (λ s. s.obj) same, ap (λ s. s.rec_type) same, ap (λ s. s.key) same)
