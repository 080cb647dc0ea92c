-- New elements of a pseudo file system: they may stand in a leaf, where none stands, and have room.
use Rattle.std.proofs.Common.{◌≡◌, ◌≢◌, ℕ, ◌+◌, ◌*◌, ◌≤◌, List, length, true, false, true≢false, Option, Some, None, refl, sym, ap, subst, ◌∙◌, inl, inr, arith}
use Rattle.std.specs.Prelude.{Bool, IfSome, IsNone, if◌then◌else◌, is_some, nat_eq}
use Rattle.std.specs.List.{Contains}
use Rattle.hm_types.specs.Elements.{FullElement, Key}
use Rattle.hm_types.specs.Space.{Spends, in_zone, rounded}
use Rattle.hm_types.specs.declared.space.TheConstants.{INSERT_ROOM}
use Rattle.hm_types.specs.declared.zone.TheConstants.{META_ZONE, TREE_ZONE}
use Rattle.hm_key.specs.Balance.{content_of, full_elements, full_of}
use Rattle.hm_key.specs.Counts.{Subject, others_of, record_subject, subject_of}
use Rattle.hm_key.specs.Element.{FitsType, pfs_of}
use Rattle.hm_key.specs.Elements.{element_at, element_key}
use Rattle.hm_key.specs.Extents.{Extent}
use Rattle.hm_key.specs.Key.{key_of}
use Rattle.hm_key.specs.declared.base.Base.{Base}
use Rattle.hm_key.specs.declared.element.Element.{Element}
use Rattle.hm_key.specs.declared.rec_type.TheConstants.{PFS_RECORD}
use Rattle.hm_records.specs.PfsRecord.{pfs_bytes}
use Rattle.hm_records.specs.declared.kind.TheConstants.{DIRECTORY}
use Rattle.hm_records.specs.declared.pfs_record.PfsRecord.{PfsRecord}
use Rattle.hm_records.proofs.MemberLemmas.{has_map}
use Rattle.hm_records.proofs.PfsLemmas.{length-pfs}
use Rattle.hm_cursor.specs.Told.{fulls}
use Rattle.hm_cursor.specs.Write.{HasRoomFor, IsNew, full_with, most_payload, taken}
use Rattle.hm_cursor.proofs.FullLemmas.{element_at-has}
use Rattle.hm_objects.specs.Objects.{HasRooms, open_base, spent}
use Rattle.hm_pfs.specs.Systems.{IsUnmadeIn, LacksElement, made_about, master_record, slave_record}
use Rattle.hm_pfs.proofs.SystemLemmas.{new_key}

-- ---- their bases

pub record_fits : (pfs : ℕ) (e : Element) → subject_of (element_key e) ≡ record_subject pfs → FitsType e
record_fits pfs e about =
    let place : e.base.localization ≡ others_of pfs = ap (λ (s : Subject). s.localization) about in
    let type : e.base.rec_type ≡ PFS_RECORD = ap (λ (s : Subject). s.rec_type) about in
    let number : e.base.key ≡ pfs = ap (λ (s : Subject). s.key) about in
    record {
      known = inr (inr (inr (inr (inl type))));
      inode_part = λ is. absurd (omega (arith, is, type));
      other_part = λ _. omega (arith, place);
      inode = λ is. absurd (omega (arith, is, type));
      target = λ is. absurd (omega (arith, is, type));
      file_bytes = λ is. absurd (omega (arith, is, type));
      pfs_object = λ _. ap (λ (s : Subject). s.obj) about;
      snapshot_object = λ is. absurd (omega (arith, is, type));
      pfs_number = λ _. omega (arith, number, place);
    }

pub new_record : (pfs i : ℕ) (base open' : Base) (r : PfsRecord) (bytes : List ℕ) → 1 ≤ i → subject_of (key_of base) ≡ record_subject pfs
    → open' ≡ open_base base DIRECTORY i → bytes ≡ pfs_bytes r → length bytes ≤ most_payload → IsNew open' META_ZONE bytes
new_record pfs i base open' r bytes some about made is few =
    subst (λ (b : Base). IsNew b META_ZONE bytes) (sym made) (record {
      element = λ payload. record {
        made = some;
        closed = inl refl;
        obj_type = (omega arith, omega arith);
        btype = refl;
        fits = record_fits pfs (record { base = open_base base DIRECTORY i; payload = payload; len = length bytes }) about;
      };
      unclosed = refl;
      payload_zone = (omega arith, omega arith);
      some = omega (arith, ap length is, length-pfs r);
      few = few;
    })

-- what is added is the element that is meant
pub full_made : (s : Subject) (i : ℕ) (base open' : Base) (bytes spelled : List ℕ) → subject_of (key_of base) ≡ s
    → open' ≡ open_base base DIRECTORY i → bytes ≡ spelled → full_with open' bytes ≡ made_about s i spelled
full_made s i base open' bytes spelled about made is =
    ap (λ (b : Base). full_with b bytes) made ∙ ap (λ (u : Subject). made_about u i bytes) about ∙ ap (made_about s i) is

-- ---- their keys

lacks_key : (at : Key) (es : List Element) (xs : List Extent) → ((x : FullElement) → Contains (full_elements es xs) x → x.key ≢ at)
    → IsNone (element_at at es)
lacks_key at es xs none = by_found (element_at at es) refl where
  by_found : (o : Option Element) → element_at at es ≡ o → IsNone o
  by_found None is = refl
  by_found (Some e) is =
      let found = element_at-has at e es is in
      absurd (none (full_of xs e) (has_map (full_of xs) es e found.0) found.1)

-- where no element of a content has a key, none stands at it
pub told_lacks : (e : FullElement) (es : Option (List Element)) (xs : Option (List Extent)) → is_some xs ≡ is_some es
    → IfSome (content_of es xs) (λ lists. (x : FullElement) → Contains (fulls lists) x → x.key ≢ e.key) → LacksElement es e
told_lacks e None xs together none = tt
told_lacks e (Some es) None together none = absurd (true≢false (sym together))
told_lacks e (Some es) (Some xs) together none = lacks_key e.key es xs none

pub unmade_lacks : (pfs i : ℕ) (e : FullElement) (es : Option (List Element)) (xs : Option (List Extent)) → is_some xs ≡ is_some es
    → pfs_of e.key.localization ≡ pfs → e.key.create ≡ i → IsUnmadeIn es xs pfs i → LacksElement es e
unmade_lacks pfs i e None xs together here made unmade = tt
unmade_lacks pfs i e (Some es) None together here made unmade = absurd (true≢false (sym together))
unmade_lacks pfs i e (Some es) (Some xs) together here made unmade =
    lacks_key e.key es xs (new_key pfs i e (full_elements es xs) here made unmade)

pub lacks_at : (e f : FullElement) (es : Option (List Element)) → f ≡ e → LacksElement es e → LacksElement es f
lacks_at e f es same = subst (λ (x : FullElement). LacksElement es x) (sym same)

-- ---- their room

-- room for one element and its payload
pub room_for : (room : ℕ → ℕ) (bytes spelled : List ℕ) → bytes ≡ spelled → HasRooms room 1 (rounded (length spelled)) → HasRoomFor room META_ZONE bytes
room_for room bytes spelled is has = record {
  tree = has.tree;
  payload = subst (λ (b : List ℕ). rounded (length b) ≤ room META_ZONE) (sym is) has.meta;
}

pub spends_for : {S : Type 0} (room_of : S → ℕ → ℕ) (free_of : S → ℕ) (bytes spelled : List ℕ) (old new : S) → bytes ≡ spelled
    → Spends room_of free_of (taken META_ZONE bytes) old new → Spends room_of free_of (spent 1 (rounded (length spelled))) old new
spends_for room_of free_of bytes spelled old new is spends = record {
  room = λ zone.
      subst (λ (b : List ℕ). room_of old zone ≤ room_of new zone + (in_zone TREE_ZONE INSERT_ROOM zone + in_zone META_ZONE (rounded (length b)) zone))
      is (spends.room zone);
  free = spends.free;
}

-- the records of a new master and of a new slave take 48 and 32 bytes
master_size : (shared : ℕ) (r : PfsRecord) → r ≡ master_record shared → rounded (length (pfs_bytes r)) ≡ 48
master_size shared r is = ap (λ (z : PfsRecord). rounded (length (pfs_bytes z))) is ∙ ap rounded (length-pfs (master_record shared))

slave_size : (shared : ℕ) (r : PfsRecord) → r ≡ slave_record shared → rounded (length (pfs_bytes r)) ≡ 32
slave_size shared r is = ap (λ (z : PfsRecord). rounded (length (pfs_bytes z))) is ∙ ap rounded (length-pfs (slave_record shared))

pub slave_room : (shared : ℕ) (r : PfsRecord) (room : ℕ → ℕ) → r ≡ slave_record shared → HasRooms room 1 32 → HasRooms room 1 (rounded (length (pfs_bytes r)))
slave_room shared r room is = subst (HasRooms room 1) (sym (slave_size shared r is))

pub master_room : (shared : ℕ) (r : PfsRecord) (room : ℕ → ℕ) → r ≡ master_record shared → HasRooms room 2 80
    → HasRooms room 1 (rounded (length (pfs_bytes r)))
master_room shared r room is has =
    let size = master_size shared r is in
    record { tree = omega (arith, has.tree); meta = omega (arith, has.meta, size) }

module _ {S : Type 0} (room_of : S → ℕ → ℕ) (free_of : S → ℕ) (shared : ℕ) (r : PfsRecord) where
  pub slave_spends : (old new : S) → r ≡ slave_record shared → Spends room_of free_of (spent 1 (rounded (length (pfs_bytes r)))) old new
      → Spends room_of free_of (spent 1 32) old new
  slave_spends old new is = subst (λ (n : ℕ). Spends room_of free_of (spent 1 n) old new) (slave_size shared r is)

  -- the room that is left for the root directory
  pub root_room : (old mid : S) → r ≡ master_record shared → Spends room_of free_of (spent 1 (rounded (length (pfs_bytes r)))) old mid
      → HasRooms (room_of old) 2 80 → HasRooms (room_of mid) 1 32
  root_room old mid is spends has =
      let size = master_size shared r is in
      record { tree = omega (arith, has.tree, spends.room TREE_ZONE); meta = omega (arith, has.meta, size, spends.room META_ZONE) }

  pub master_spends : (old mid new : S) → r ≡ master_record shared → Spends room_of free_of (spent 1 (rounded (length (pfs_bytes r)))) old mid
      → Spends room_of free_of (spent 1 32) mid new → Spends room_of free_of (spent 2 80) old new
  master_spends old mid new is first second = record {
    room = λ zone. by_zone zone (nat_eq zone TREE_ZONE) (nat_eq zone META_ZONE)
        (subst (λ (n : ℕ). room_of old zone ≤ room_of mid zone + (in_zone TREE_ZONE (1 * INSERT_ROOM) zone + in_zone META_ZONE n zone))
        (master_size shared r is) (first.room zone))
        (second.room zone);
    free = omega (arith, first.free, second.free);
  } where
    by_zone : (zone : ℕ) (tree meta : Bool)
        → room_of old zone ≤ room_of mid zone + ((if tree then 1 * INSERT_ROOM else 0) + (if meta then 48 else 0))
        → room_of mid zone ≤ room_of new zone + ((if tree then 1 * INSERT_ROOM else 0) + (if meta then 32 else 0))
        → room_of old zone ≤ room_of new zone + ((if tree then 2 * INSERT_ROOM else 0) + (if meta then 80 else 0))
    by_zone zone true true one two = omega (arith, one, two)
    by_zone zone true false one two = omega (arith, one, two)
    by_zone zone false true one two = omega (arith, one, two)
    by_zone zone false false one two = omega (arith, one, two)

  -- the record takes no more than both
  pub master_spends_first : (old mid : S) → r ≡ master_record shared → Spends room_of free_of (spent 1 (rounded (length (pfs_bytes r)))) old mid
      → Spends room_of free_of (spent 2 80) old mid
  master_spends_first old mid is first =
      master_spends old mid mid is first (record { room = λ zone. omega arith; free = omega arith })
