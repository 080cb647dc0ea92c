-- The space that an inode takes.
use Rattle.std.proofs.Common.{◌≡◌, ℕ, ◌+◌, ◌≤◌, List, length, subst, sym, ap, ◌∙◌}
use Rattle.hm_types.specs.Space.{Spends, in_zone, rounded}
use Rattle.hm_types.specs.declared.space.TheConstants.{INSERT_ROOM}
use Rattle.hm_types.specs.declared.zone.TheConstants.{META_ZONE, TREE_ZONE}
use Rattle.hm_records.specs.declared.inode.Inode.{Inode}
use Rattle.hm_records.specs.Inode.{inode_bytes}
use Rattle.hm_records.proofs.InodeLemmas.{length-inode}
use Rattle.hm_cursor.specs.Write.{HasRoomFor, taken}
use Rattle.hm_objects.specs.Objects.{HasRooms, spent}

inode_size : (inode : Inode) (bytes : List ℕ) → bytes ≡ inode_bytes inode → rounded (length bytes) ≡ 32
inode_size inode bytes is = ap rounded (ap length is ∙ length-inode inode)

pub inode_room : (room : ℕ → ℕ) (inode : Inode) (bytes : List ℕ) → bytes ≡ inode_bytes inode → HasRooms room 1 32 → HasRoomFor room META_ZONE bytes
inode_room room inode bytes is has = record {
  tree = has.tree;
  payload = subst (λ (n : ℕ). n ≤ room META_ZONE) (sym (inode_size inode bytes is)) has.meta;
}

pub inode_spends : {S : Type 0} (room_of : S → ℕ → ℕ) (free_of : S → ℕ) (inode : Inode) (bytes : List ℕ) (old new : S) → bytes ≡ inode_bytes inode
    → Spends room_of free_of (taken META_ZONE bytes) old new → Spends room_of free_of (spent 1 32) old new
inode_spends room_of free_of inode bytes old new is spends = record {
  room = λ zone.
      subst (λ (n : ℕ). room_of old zone ≤ room_of new zone + (in_zone TREE_ZONE INSERT_ROOM zone + in_zone META_ZONE n zone))
      (inode_size inode bytes is) (spends.room zone);
  free = spends.free;
}

-- a call that only read before has spent what it spent after that
pub spends_from : {S : Type 0} (room_of : S → ℕ → ℕ) (free_of : S → ℕ) (most : ℕ → ℕ) (old mid new : S) → room_of mid ≡ room_of old
    → free_of mid ≡ free_of old → Spends room_of free_of most mid new → Spends room_of free_of most old new
spends_from room_of free_of most old mid new room free spends = record {
  room = λ zone. subst (λ (r : ℕ → ℕ). r zone ≤ room_of new zone + most zone) room (spends.room zone);
  free = subst (λ (n : ℕ). n ≤ free_of new) free spends.free;
}
