-- Which bytes may be the payload of an element, by its type.
use Rattle.std.proofs.Common.{◌≡◌, ◌≢◌, ◌↔◌, ℕ, ◌+◌, ◌<◌, ◌≤◌, List, Some, slice_get, inl, inr, ap, sym, subst, ◌∙◌, arith, length, length-append}
use Rattle.std.proofs.Common.{length-drop, length-take}
use Rattle.std.proofs.lemmas.Bool.{cases_lt}
use Rattle.std.proofs.lemmas.List.{length-replicate}
use Rattle.std.proofs.lemmas.Option.{slice_get_within}
use Rattle.std.specs.List.{AllByRecursion}
use Rattle.hm_types.specs.Hash.{name_hash}
use Rattle.hm_types.specs.Layout.{start_of}
use Rattle.hm_types.specs.Offset.{byte_of}
use Rattle.hm_key.specs.Element.{IsInBlock}
use Rattle.hm_key.specs.declared.element.Element.{Element}
use Rattle.hm_node.specs.Leaf.{IsPlaced}
use Rattle.hm_records.specs.Payload.{HasGrammar, KeyFits, SpellsInode, SpellsPfs}
use Rattle.hm_records.specs.Target.{IsTarget}
use Rattle.hm_records.specs.declared.entry.DirEntry.{DirEntry}
use Rattle.hm_records.proofs.EntryLemmas.{one_entry}
use Rattle.hm_records.proofs.PayloadLemmas.{payload_short}
use Rattle.hm_load.specs.Payload.{HasPayload, IsEntryAt, IsOfRead, IsPayloadOf, with_payload_bytes}
use Rattle.hm_load.proofs.TreeLemmas.{each_of}
use Rattle.hm_load.specs.Reading.{volume_bytes}

module _ (e : Element) (bytes : List ℕ) where
  pub inode_payload : e.base.rec_type ≡ 1 → SpellsInode bytes ↔ IsPayloadOf e bytes
  inode_payload is = (
    λ spells. record {
      payload = record {
        known = inl is;
        inode = λ here. spells;
        file_bytes = λ other. absurd (omega (arith, is, other));
        entry = λ other. absurd (omega (arith, is, other));
        target = λ other. absurd (omega (arith, is, other));
        pfs = λ other. absurd (omega (arith, is, other));
      };
      key = λ entry other in_range spelled. absurd (omega (arith, is, other));
    },
    λ holds. holds.payload.inode is,
  )

  pub file_payload : e.base.rec_type ≡ 16 → IsInBlock e.base.key (length bytes) → IsPayloadOf e bytes
  file_payload is block = record {
    payload = record {
      known = inr (inl is);
      inode = λ other. absurd (omega (arith, is, other));
      file_bytes = λ here. block;
      entry = λ other. absurd (omega (arith, is, other));
      target = λ other. absurd (omega (arith, is, other));
      pfs = λ other. absurd (omega (arith, is, other));
    };
    key = λ entry other in_range spelled. absurd (omega (arith, is, other));
  }

  pub entry_payload : e.base.rec_type ≡ 17 → IsEntryAt e.base.key bytes ↔ IsPayloadOf e bytes
  entry_payload is = (
    λ at. record {
      payload = record {
        known = inr (inr (inl is));
        inode = λ other. absurd (omega (arith, is, other));
        file_bytes = λ other. absurd (omega (arith, is, other));
        entry = λ here. (at.entry, at.is, at.spelled);
        target = λ other. absurd (omega (arith, is, other));
        pfs = λ other. absurd (omega (arith, is, other));
      };
      key = λ entry here in_range spelled.
          subst (λ (x : DirEntry). KeyFits name_hash e.base.key x.name) (one_entry at.entry entry at.is in_range (sym at.spelled ∙ spelled)) at.fits;
    },
    λ holds.
        let s = holds.payload.entry is in
        record { entry = s.0; is = s.1; spelled = s.2; fits = holds.key s.0 is s.1 s.2 },
  )

  pub target_payload : e.base.rec_type ≡ 20 → IsTarget bytes ↔ IsPayloadOf e bytes
  target_payload is = (
    λ target. record {
      payload = record {
        known = inr (inr (inr (inl is)));
        inode = λ other. absurd (omega (arith, is, other));
        file_bytes = λ other. absurd (omega (arith, is, other));
        entry = λ other. absurd (omega (arith, is, other));
        target = λ here. target;
        pfs = λ other. absurd (omega (arith, is, other));
      };
      key = λ entry other in_range spelled. absurd (omega (arith, is, other));
    },
    λ holds. holds.payload.target is,
  )

  pub pfs_payload : e.base.rec_type ≡ 21 → SpellsPfs bytes ↔ IsPayloadOf e bytes
  pfs_payload is = (
    λ spells. record {
      payload = record {
        known = inr (inr (inr (inr is)));
        inode = λ other. absurd (omega (arith, is, other));
        file_bytes = λ other. absurd (omega (arith, is, other));
        entry = λ other. absurd (omega (arith, is, other));
        target = λ other. absurd (omega (arith, is, other));
        pfs = λ here. spells;
      };
      key = λ entry other in_range spelled. absurd (omega (arith, is, other));
    },
    λ holds. holds.payload.pfs is,
  )

  -- no other type has payloads
  pub no_payload : (HasGrammar e.base.rec_type → ⊥) → IsPayloadOf e bytes → ⊥
  no_payload none holds = none holds.payload.known

  pub long_payload : 65568 < length bytes → IsPayloadOf e bytes → ⊥
  long_payload long holds = let short = payload_short (with_payload_bytes e bytes) holds.payload in omega (arith, short.1, long)

-- how many bytes are read
pub volume_long : (image : List ℕ) (bigblocks place len : ℕ) → start_of bigblocks ≤ length image → length (volume_bytes image bigblocks place len) ≡ len
volume_long image bigblocks place len room = simp (length-append, length-take, length-drop, length-replicate) (omega arith)

module _ (image : List ℕ) (bigblocks : ℕ) (e : Element) (room : start_of bigblocks ≤ length image) where
  long : length (volume_bytes image bigblocks (byte_of e.payload) e.len) ≡ e.len
  long = volume_long image bigblocks (byte_of e.payload) e.len room

  -- the bytes of a file are any, as many as its element says
  pub has_file : IsPlaced e → e.base.rec_type ≡ 16 → HasPayload image bigblocks e
  has_file placed is = file_payload e (volume_bytes image bigblocks (byte_of e.payload) e.len) is
      (subst (λ (n : ℕ). IsInBlock e.base.key n) (sym long) (placed.element.fits.file_bytes is))

  pub has_target : e.base.rec_type ≡ 20 → ((1 ≤ e.len) × (e.len ≤ 1023)) ↔ HasPayload image bigblocks e
  has_target is =
      let both = target_payload e (volume_bytes image bigblocks (byte_of e.payload) e.len) is in (
        λ few. both.0 (omega (arith, few.0, long), omega (arith, few.1, long)),
        λ holds. let t = both.1 holds in
            (omega (arith, t.0, long), omega (arith, t.1, long)),
      )

  pub has_long : 65568 < e.len → HasPayload image bigblocks e → ⊥
  has_long more = long_payload e (volume_bytes image bigblocks (byte_of e.payload) e.len) (omega (arith, more, long))

-- bytes that were read at a payload's offset
pub read_payload : (image : List ℕ) (bigblocks : ℕ) (e : Element) (bytes : List ℕ) (place len : ℕ) (A : Type 0)
    → bytes ≡ volume_bytes image bigblocks place len → place ≡ byte_of e.payload → len ≡ e.len
    → A ↔ IsPayloadOf e bytes → A ↔ HasPayload image bigblocks e
read_payload image bigblocks e bytes place len A same here long both =
    let at : bytes ≡ volume_bytes image bigblocks (byte_of e.payload) e.len = same ∙ (ap (λ (p : ℕ). volume_bytes image bigblocks p len) here ∙ ap
    (λ (n : ℕ). volume_bytes image bigblocks (byte_of e.payload) n) long) in
    subst (λ (bs : List ℕ). A ↔ IsPayloadOf e bs) at both

-- a type that is read, and neither of an inode nor of a record
pub of_entry : (rec_type : ℕ) → IsOfRead rec_type → rec_type ≢ 1 → rec_type ≢ 21 → rec_type ≡ 17
of_entry rec_type (inl inode) one two = absurd (one inode)
of_entry rec_type (inr (inl entry)) one two = entry
of_entry rec_type (inr (inr pfs)) one two = absurd (two pfs)

-- one payload more
pub payloads_more : (image : List ℕ) (bigblocks count : ℕ) (es : List Element) (e : Element) → slice_get es count ≡ Some e
    → ((j : ℕ) (x : Element) → j < count → slice_get es j ≡ Some x → HasPayload image bigblocks x) → HasPayload image bigblocks e
    → (j : ℕ) (x : Element) → j < count + 1 → slice_get es j ≡ Some x → HasPayload image bigblocks x
payloads_more image bigblocks count es e is before here j x low at = elim (cases_lt j count) [
  | inl earlier ↦ before j x earlier at
  | inr from ↦
      let last : j ≡ count = omega arith in
      let mine : slice_get es count ≡ Some x = subst (λ (k : ℕ). slice_get es k ≡ Some x) last at in
      let same : e ≡ x = cc in
      subst (λ (y : Element). HasPayload image bigblocks y) same here
]

-- so is each
pub payloads_all : (image : List ℕ) (bigblocks count : ℕ) (es : List Element) → length es ≤ count
    → ((j : ℕ) (x : Element) → j < count → slice_get es j ≡ Some x → HasPayload image bigblocks x) → AllByRecursion (HasPayload image bigblocks) es
payloads_all image bigblocks count es all before = each_of (HasPayload image bigblocks) es
    (λ j x at. let low = slice_get_within es j x at in before j x (omega arith) at)
