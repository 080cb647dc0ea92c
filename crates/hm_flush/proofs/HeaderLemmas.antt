-- The headers that a flush writes are in range, and follow the one that counts.
use Rattle.std.proofs.Common.{◌≡◌, ℕ, ◌+◌, ◌%◌, ◌^◌, ◌<◌, ◌≤◌, List, refl, sym, subst, arith, slice_index, take}
use Rattle.hm_types.specs.declared.limits.TheConstants.{MOST_GROUP_PAGES}
use Rattle.hm_header.specs.declared.header.Header.{Header}
use Rattle.hm_header.specs.Change.{IsNext}
use Rattle.hm_header.specs.Range.{IsAppend, IsHeader, IsRoot}
use Rattle.hm_flush.specs.Flush.{armed_header, committed_header}

pub armed-header : (header : Header) (entries : ℕ) → IsHeader header → entries ≤ MOST_GROUP_PAGES → IsHeader (armed_header header entries)
armed-header header entries sound few = record {
  version = sound.version;
  bigblocks = sound.bigblocks;
  generation = omega arith;
  last = sound.last;
  root = sound.root;
  undo_first = sound.undo_next;
  undo_count = few;
  undo_next = omega arith;
  four = sound.four;
  append = λ k below. sound.append k below;
}

pub armed-next : (header : Header) (entries : ℕ) → IsNext header (armed_header header entries)
armed-next header entries = record { bigblocks = refl; generation = refl }

pub committed-header : (header target : Header) → IsHeader header → IsHeader target → target.bigblocks ≡ header.bigblocks
    → IsHeader (committed_header header target)
committed-header header target sound next same = record {
  version = next.version;
  bigblocks = sound.bigblocks;
  generation = omega arith;
  last = next.last;
  root = subst (λ (b : ℕ). IsRoot b target.root) same next.root;
  undo_first = sound.undo_first;
  undo_count = omega arith;
  undo_next = sound.undo_next;
  four = next.four;
  append = λ k below.
      subst (λ (b : ℕ). IsAppend b (take k target.append) (slice_index target.append k)) same (next.append k below);
}

pub committed-next : (header target : Header) → IsNext header (committed_header header target)
committed-next header target = record { bigblocks = refl; generation = refl }
