-- A page that spells the root node of a fresh volume.
use Rattle.std.proofs.Common.{◌≡◌, inl, inr, ℕ, zero, suc, ◌+◌, ◌-◌, ◌<◌, List, [], ◌∷◌, ◌++◌, replicate, refl, subst, ◌∙◌, arith}
use Rattle.std.specs.Prelude.{slice_index}
use Rattle.std.proofs.lemmas.List.{get_or-append_right, get_or-replicate}
use Rattle.hm_types.specs.Layout.{first_pool, start_of}
use Rattle.hm_types.specs.Offset.{raw_of}
use Rattle.hm_types.specs.declared.zone.TheConstants.{META_ZONE}
use Rattle.hm_fields.specs.Fields.{get}
use Rattle.hm_fields.proofs.ByteLemmas.{zero_bytes}
use Rattle.hm_header.specs.Range.{IsSize}
use Rattle.hm_key.specs.declared.rec_type.TheConstants.{INODE, PFS_RECORD, INODE_PART, OTHER_PART}
use Rattle.hm_node.specs.Base.{base_in}
use Rattle.hm_node.specs.Leaf.{element_in}
use Rattle.hm_node.specs.Node.{Spells, node_in}
use Rattle.hm_node.specs.Places.{IsZero, first, place}
use Rattle.hm_node.specs.declared.node.Node.{Node}
use Rattle.hm_node.specs.declared.node.Node.TheVariants.{Leaf}
use Rattle.hm_image.specs.Fresh.{fresh_base, fresh_root}
use Rattle.hm_image.proofs.OffsetLemmas.{layer2_is}

-- the page written out, where the payloads stand in the big-block whose first byte has the numbers `low` and `high` as
-- its third and fourth byte
abbrev head_bytes : List ℕ
head_bytes = (1 ∷ 1 ∷ 2 ∷ 0 ∷ []) ++ (replicate 4 0 ++ ((1 ∷ []) ++ replicate 55 0))

abbrev inode_place : ℕ → ℕ → List ℕ
inode_place low high =
    (1 ∷ []) ++ (replicate 15 0 ++ ((1 ∷ []) ++ (replicate 15 0 ++ ((1 ∷ 0 ∷ 1 ∷ 1 ∷ 1 ∷ []) ++ (replicate 3 0
    ++ ((0 ∷ 0 ∷ low ∷ high ∷ 0 ∷ 0 ∷ 0 ∷ 0x90 ∷ []) ++ ((32 ∷ []) ++ replicate 15 0)))))))

abbrev record_place : ℕ → ℕ → List ℕ
record_place low high =
    (1 ∷ []) ++ (replicate 15 0 ++ ((1 ∷ []) ++ (replicate 15 0 ++ ((0x15 ∷ 0 ∷ 1 ∷ 1 ∷ 2 ∷ []) ++ (replicate 3 0
    ++ ((32 ∷ 0 ∷ low ∷ high ∷ 0 ∷ 0 ∷ 0 ∷ 0x90 ∷ []) ++ ((48 ∷ []) ++ replicate 15 0)))))))

abbrev front : ℕ → ℕ → List ℕ
front low high = head_bytes ++ (inode_place low high ++ record_place low high)

unfoldable pub page_bytes : ℕ → ℕ → List ℕ
page_bytes low high = front low high ++ replicate 3904 0

-- the root node, where the pool begins there
abbrev pub root_of : ℕ → Node
root_of p = Leaf (record {
  mirror = 1;
  places = record {
    items = record { base = fresh_base INODE INODE_PART; payload = raw_of META_ZONE (start_of (p + 1)); len = 32 }
        ∷ record { base = fresh_base PFS_RECORD OTHER_PART; payload = raw_of META_ZONE (start_of (p + 1) + 32); len = 48 } ∷ [];
  };
})

node_11 : node_in (page_bytes 0 6) ≡ root_of 11
unfolding page_bytes get base_in element_in first
node_11 = refl

node_12 : node_in (page_bytes 0x80 6) ≡ root_of 12
unfolding page_bytes get base_in element_in first
node_12 = refl

module _ (low high : ℕ) where
  zero_part : (from size : ℕ) → get (page_bytes low high) from size ≡ 0 → IsZero (page_bytes low high) from (from + size)
  zero_part from size is = record { each = zero_bytes (page_bytes low high) from size is }

  zero_rest : IsZero (page_bytes low high) 192 4096
  unfolding page_bytes get
  zero_rest = record {
    each = λ k after before.
        let byte : slice_index (page_bytes low high) k ≡ 0 =
        get_or-append_right (front low high) (replicate 3904 0) 192 k 0 refl after ∙ get_or-replicate 3904 (k - 192) 0 0 (omega arith) in
        omega arith;
  }

  zero_places : (i : ℕ) → i < 2 → IsZero (page_bytes low high) (place i + 52) (place i + 64)
  unfolding page_bytes get
  zero_places zero few = zero_part 116 12 refl
  zero_places (suc zero) few = zero_part 180 12 refl
  zero_places (suc (suc i)) few = absurd (omega arith)

  -- it spells the node that stands in it, where that is this one
  spelled : (p : ℕ) → node_in (page_bytes low high) ≡ root_of p → Spells (page_bytes low high) (root_of p)
  unfolding page_bytes get
  spelled p node = record {
    sized = refl;
    says = record { kind = refl; level = refl };
    value = node;
    zeros = record {
      outside = record { head = zero_part 4 4 refl; rest_of_head = zero_part 16 48 refl; rest = zero_rest };
      places = zero_places;
    };
  }

-- so there is a page with the root node of a fresh volume of each size
pub record HasPage (bigblocks : ℕ) : Type 0 where
  pub page : List ℕ
  pub spelled : Spells page (fresh_root bigblocks)

pub fresh_page : (bigblocks : ℕ) → IsSize bigblocks → HasPage bigblocks
fresh_page bigblocks size =
    elim (layer2_is bigblocks size) [
      | inl one ↦
          let pool : 11 ≡ first_pool bigblocks = omega arith in
          record { page = page_bytes 0 6; spelled = subst (λ (p : ℕ). Spells (page_bytes 0 6) (root_of p)) pool (spelled 0 6 11 node_11) }
      | inr two ↦
          let pool : 12 ≡ first_pool bigblocks = omega arith in
          record { page = page_bytes 0x80 6; spelled = subst (λ (p : ℕ). Spells (page_bytes 0x80 6) (root_of p)) pool (spelled 0x80 6 12 node_12) }
    ]
