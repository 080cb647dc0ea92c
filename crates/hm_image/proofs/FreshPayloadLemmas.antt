-- The payloads of a fresh volume: the inode of the root directory, and the record of PFS 0.
use Rattle.std.proofs.Common.{◌≡◌, ◌⊎◌, inl, inr, ℕ, List, [], ◌∷◌, refl, sym, ap, ◌∙◌, arith, map}
use Rattle.std.specs.List.{All, Contains}
use Rattle.hm_types.specs.Elements.{FullElement}
use Rattle.hm_types.specs.Hash.{name_hash}
use Rattle.hm_key.specs.Key.{key_of}
use Rattle.hm_key.specs.declared.element.Element.{Element}
use Rattle.hm_key.specs.declared.rec_type.TheConstants.{INODE, PFS_RECORD, INODE_PART, OTHER_PART}
use Rattle.hm_records.specs.Inode.{IsInode, inode_bytes}
use Rattle.hm_records.specs.KeysFit.{KeysFit}
use Rattle.hm_records.specs.Payload.{IsPayload}
use Rattle.hm_records.specs.PfsRecord.{IsPfsRecord, pfs_bytes}
use Rattle.hm_image.specs.Fresh.{IsFresh, fresh_base, fresh_elements, fresh_record, root_at, root_inode}
use Rattle.hm_image.specs.Image.{elements_from, full_of, pages_of}
use Rattle.hm_image.proofs.FreshTreeLemmas.{fresh_node, leaf_elements}
use Rattle.hm_image.proofs.ListLemmas.{all_two, one_of_two}

-- the two elements with their payloads
abbrev pub full_inode : FullElement
full_inode = record { key = key_of (fresh_base INODE INODE_PART); delete = 0; obj_type = 1; bytes = inode_bytes root_inode }

abbrev pub full_record : FullElement
full_record = record { key = key_of (fresh_base PFS_RECORD OTHER_PART); delete = 0; obj_type = 1; bytes = pfs_bytes fresh_record }

abbrev pub full_elements : List FullElement
full_elements = full_inode ∷ full_record ∷ []

-- the image has these
pub fresh_full : (bigblocks : ℕ) (image : List ℕ) → IsFresh bigblocks image → elements_from image (root_at bigblocks) ≡ full_elements
fresh_full bigblocks image fresh =
    let elements = leaf_elements (pages_of image) (root_at bigblocks) _ (fresh_node bigblocks image fresh) in
    let full : map (full_of image) (fresh_elements bigblocks) ≡ full_elements = rw (fresh.inode, fresh.pfs) refl in
    ap (λ (es : List Element). map (full_of image) es) elements ∙ full

pub root_inode_is : IsInode root_inode
root_inode_is = record {
  sized = record {
    known = (omega arith, omega arith);
    directory = λ is. refl;
    softlink = λ is. absurd (omega arith);
    pfs_link = λ is. refl;
  };
  size = omega arith;
  links = omega arith;
  pfs = omega arith;
  no_pfs = λ is. refl;
}

pub fresh_record_is : IsPfsRecord fresh_record
fresh_record_is = record {
  shared = omega arith;
  sync_end = omega arith;
  retention = record {
    intervals = (record { above = omega arith; ordered = omega arith; bounded = omega arith }, tt);
    few = omega arith;
  };
  role = record {
    no_sync_end = λ is. refl;
    master_is_open = λ is. inl (omega arith, omega arith);
    slave_is_not = λ is. absurd (is refl);
  };
}

inode_payload : IsPayload full_inode
inode_payload = record {
  known = inl refl;
  inode = λ is. (root_inode, root_inode_is, refl);
  file_bytes = λ is. absurd (omega arith);
  entry = λ is. absurd (omega arith);
  target = λ is. absurd (omega arith);
  pfs = λ is. absurd (omega arith);
}

record_payload : IsPayload full_record
record_payload = record {
  known = inr (inr (inr (inr refl)));
  inode = λ is. absurd (omega arith);
  file_bytes = λ is. absurd (omega arith);
  entry = λ is. absurd (omega arith);
  target = λ is. absurd (omega arith);
  pfs = λ is. (fresh_record, fresh_record_is, refl);
}

-- no element is an entry of a directory
no_entry : (e : FullElement) → Contains full_elements e → (e.key.rec_type ≡ 1) ⊎ (e.key.rec_type ≡ 21)
no_entry e there =
    elim (one_of_two full_inode full_record e there) [
      | inl is ↦ inl (sym (ap (λ (x : FullElement). x.key.rec_type) is))
      | inr is ↦ inr (sym (ap (λ (x : FullElement). x.key.rec_type) is))
    ]

pub full_payloads : All IsPayload full_elements
full_payloads = all_two IsPayload full_inode full_record inode_payload record_payload

pub full_keys : KeysFit name_hash full_elements
full_keys e entry there is ranges spelled = absurd (omega (arith, no_entry e there))
