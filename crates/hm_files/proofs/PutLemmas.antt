-- A block that is put, and what counts in it.
use Rattle.std.proofs.Common.{◌≡◌, ℕ, ◌+◌, ◌%◌, ◌<◌, ◌≤◌, List, Some, length, refl, ap, sym, subst, ◌∙◌, inl, inr, arith}
use Rattle.std.specs.Prelude.{◌↔◌, ◌⊎◌, Bool, true, false, if◌then◌else◌, nat_lt}
use Rattle.std.proofs.lemmas.Bool.{cases_lt}
use Rattle.hm_types.specs.Elements.{FullElement, Key}
use Rattle.hm_types.specs.declared.limits.TheConstants.{BLOCK_BYTES}
use Rattle.hm_key.specs.Counts.{Counts, Subject, bytes_subject, subject_of}
use Rattle.hm_types.specs.Space.{IsPayloadZone}
use Rattle.hm_types.specs.declared.zone.TheConstants.{LARGE_ZONE, SMALL_ZONE}
use Rattle.hm_key.specs.Element.{IsInBlock, part_of}
use Rattle.hm_key.specs.Key.{key_of}
use Rattle.hm_key.specs.declared.base.Base.{Base}
use Rattle.hm_key.specs.declared.base.TheConstants.{ELEMENT}
use Rattle.hm_key.specs.declared.rec_type.TheConstants.{FILE_BYTES, OTHER_PART}
use Rattle.hm_records.specs.declared.kind.TheConstants.{FILE}
use Rattle.hm_records.specs.Follows.{StillFollow}
use Rattle.hm_records.specs.Payload.{IsPayload}
use Rattle.hm_cursor.specs.Views.{IsNothing, WritesIn}
use Rattle.hm_cursor.specs.Write.{IsNew, Rewrites}
use Rattle.hm_cursor.proofs.ViewsLemmas.{IsSteady, fresh_beside, writes_again, writes_wider, writes_within}
use Rattle.hm_files.specs.Close.{ClearsBlock, IsApart, IsOutside}
use Rattle.hm_files.specs.Put.{IsBytesOf, PutsBlock, zone_of}
use Rattle.hm_files.proofs.CloseLemmas.{bytes_within, ends_apart}

-- ---- new elements

-- bytes of one block are a payload
bytes_payload : (x : FullElement) → x.key.rec_type ≡ FILE_BYTES → IsInBlock x.key.key (length x.bytes) → IsPayload x
bytes_payload x is block = record {
  known = inr (inl is);
  inode = λ is'. absurd (omega (arith, is, is'));
  file_bytes = λ _. block;
  entry = λ is'. absurd (omega (arith, is, is'));
  target = λ is'. absurd (omega (arith, is, is'));
  pfs = λ is'. absurd (omega (arith, is, is'));
}

-- a new element that is closed stays one
pub steady : (pfs obj i : ℕ) → IsSteady (IsBytesOf pfs obj i)
steady pfs obj i x e key kind bytes new = record {
  about = ap subject_of key ∙ new.about ∙ ap (bytes_subject pfs obj) (sym (ap (λ (k : Key). k.key) key));
  made = ap (λ (k : Key). k.create) key ∙ new.made;
  payload = bytes_payload x (ap (λ (k : Key). k.rec_type) key ∙ type)
      (subst (λ (n : ℕ). IsInBlock n (length x.bytes)) (sym (ap (λ (k : Key). k.key) key))
      (subst (λ (b : List ℕ). IsInBlock e.key.key (length b)) (sym bytes) (new.payload.file_bytes type)));
} where
  type : e.key.rec_type ≡ FILE_BYTES
  type = ap (λ (s : Subject). s.rec_type) new.about

some_one : (a b : List ℕ) → Some a ≡ Some b → a ≡ b
some_one a b is = cc

-- bytes from where a block begins lie in it
pub in_its_block : (begin len : ℕ) → begin % BLOCK_BYTES ≡ 0 → 1 ≤ len → len ≤ BLOCK_BYTES → IsInBlock (begin + len) len
in_its_block begin len aligned some few = record { some = some; few = few; within = omega arith; aligned = omega (arith, aligned) }

makes_bytes : (pfs obj i end : ℕ) (bytes : List ℕ) (x : FullElement) → IsInBlock end (length bytes) → subject_of x.key ≡ bytes_subject pfs obj end
    → x.key.create ≡ i → Some bytes ≡ Some x.bytes → IsBytesOf pfs obj i x
makes_bytes pfs obj i end bytes x block about made now =
    let number : x.key.key ≡ end = ap (λ (s : Subject). s.key) about in
    record {
      about = about ∙ ap (bytes_subject pfs obj) (sym number);
      made = made;
      payload = bytes_payload x (ap (λ (s : Subject). s.rec_type) about)
          (subst (λ (n : ℕ). IsInBlock n (length x.bytes)) (sym number)
          (subst (λ (b : List ℕ). IsInBlock end (length b)) (some_one bytes x.bytes now) block));
    }

zone_fits : (b : Bool) → IsPayloadZone (if b then SMALL_ZONE else LARGE_ZONE)
zone_fits true = (omega arith, omega arith)
zone_fits false = (omega arith, omega arith)

-- an element with bytes of a block may be added
pub new_bytes : (base : Base) (pfs obj begin zone : ℕ) (bytes : List ℕ) → subject_of (key_of base) ≡ bytes_subject pfs obj (begin + length bytes)
    → 1 ≤ base.create → base.delete ≡ 0 → base.obj_type ≡ FILE → base.btype ≡ ELEMENT → begin % BLOCK_BYTES ≡ 0 → 1 ≤ length bytes
    → length bytes ≤ BLOCK_BYTES → zone ≡ zone_of (length bytes) → IsNew base zone bytes
new_bytes base pfs obj begin zone bytes about made unclosed kind type aligned some few zone_is = record {
  element = λ payload. record {
    made = made;
    closed = inl unclosed;
    obj_type = (omega (arith, kind), omega (arith, kind));
    btype = type;
    fits = record {
      known = inr (inl is);
      inode_part = λ other. absurd (omega (arith, is, other));
      other_part = λ _. part;
      inode = λ other. absurd (omega (arith, is, other));
      target = λ other. absurd (omega (arith, is, other));
      file_bytes = λ _. subst (λ (n : ℕ). IsInBlock n (length bytes)) (sym (ap (λ (s : Subject). s.key) about))
          (in_its_block begin (length bytes) aligned some few);
      pfs_object = λ other. absurd (omega (arith, is, other));
      snapshot_object = λ other. absurd (omega (arith, is, other));
      pfs_number = λ other. absurd (omega (arith, is, other));
    };
  };
  unclosed = unclosed;
  payload_zone = subst IsPayloadZone (sym zone_is) (zone_fits (nat_lt (length bytes) BLOCK_BYTES));
  some = some;
  few = omega (arith, few);
} where
  is : base.rec_type ≡ FILE_BYTES
  is = ap (λ (s : Subject). s.rec_type) about

  part : part_of base.localization ≡ OTHER_PART
  part = let place = ap (λ (s : Subject). s.localization) about in omega (arith, place)

-- a closing is a write of such elements too
pub closes_writes : (pfs obj i : ℕ) (es es' : List FullElement) → WritesIn pfs i IsNothing es es' → WritesIn pfs i (IsBytesOf pfs obj i) es es'
closes_writes pfs obj i es es' closes = writes_wider pfs i IsNothing (IsBytesOf pfs obj i) es es' (λ x new. absurd new) closes

-- ---- the block is put

-- what is about no bytes of a block is none of those that may be closed in it
outside_of : (pfs obj begin end : ℕ) (s : Subject) → IsApart pfs obj (begin + 1) (begin + BLOCK_BYTES + 1) s → IsOutside pfs obj begin end s
outside_of pfs obj begin end s apart n from to differ = apart n (omega (arith, from)) (omega (arith, to))

module _ (pfs obj i begin : ℕ) (bytes : List ℕ) (es mid es' : List FullElement) (aligned : begin % BLOCK_BYTES ≡ 0)
    (some : 1 ≤ length bytes) (few : length bytes ≤ BLOCK_BYTES) (clears : ClearsBlock pfs obj i begin (begin + length bytes) es mid)
    (second : Rewrites (bytes_subject pfs obj (begin + length bytes)) (Some bytes) i mid es') (follows : StillFollow es es') where
  pub block_put : PutsBlock pfs obj i begin bytes es es'
  block_put = record {
    writes = writes_again pfs i (IsBytesOf pfs obj i) es mid es' (steady pfs obj i) (closes_writes pfs obj i es mid clears.writes)
        (writes_within pfs i (bytes_subject pfs obj (begin + length bytes)) (Some bytes) (IsBytesOf pfs obj i) mid es'
        (bytes_within pfs obj (begin + length bytes))
        (λ x about made now. makes_bytes pfs obj i (begin + length bytes) bytes x (in_its_block begin (length bytes) aligned some few) about made now) second);
    there = λ t late. ((second.present t late).about bytes).1 refl;
    less = λ t n other late differ counts.
        clears.less t (bytes_subject pfs obj n) other
        (((second.present t late).elsewhere (bytes_subject pfs obj n) other (ends_apart pfs obj n (begin + length bytes) differ)).0 counts);
    beside = λ t s other apart. beside t s other apart (cases_lt t i);
    fresh = λ n differ is.
        fresh_beside (bytes_subject pfs obj (begin + length bytes)) (bytes_subject pfs obj n) (Some bytes) i i mid es' second
        (ends_apart pfs obj n (begin + length bytes) differ) (clears.writes.fresh (bytes_subject pfs obj n) (λ x new. absurd new) is);
    follows = follows;
  } where
    beside : (t : ℕ) (s : Subject) (other : List ℕ) → IsApart pfs obj (begin + 1) (begin + BLOCK_BYTES + 1) s → (t < i) ⊎ (i ≤ t)
        → Counts es' t s other ↔ Counts es t s other
    beside t s other apart time =
        let two = step time in
        (λ h. clears.less t s other (two.0 h), λ h. two.1 (clears.beside t s other (outside_of pfs obj begin (begin + length bytes) s apart) h))
      where
        step : (t < i) ⊎ (i ≤ t) → Counts es' t s other ↔ Counts mid t s other
        step (inl before) = second.past t before s other
        step (inr late) = (second.present t late).elsewhere s other (apart (begin + length bytes) (omega (arith, some)) (omega (arith, few)))
