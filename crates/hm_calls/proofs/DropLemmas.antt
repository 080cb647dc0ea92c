-- An object that goes, with all that is about it.
use Rattle.std.proofs.Common.{◌≡◌, ℕ, ◌^◌, List, ap, arith}
use Rattle.hm_types.specs.Elements.{FullElement}
use Rattle.hm_types.specs.Tree.{without_object}
use Rattle.hm_types.specs.declared.id.Obj.{Obj}
use Rattle.hm_key.specs.Counts.{Subject, bytes_subject, entry_subject, inode_subject, target_subject}
use Rattle.hm_key.specs.declared.rec_type.TheConstants.{FILE_BYTES}
use Rattle.hm_cursor.specs.Views.{IsNothing, WritesIn}
use Rattle.hm_cursor.proofs.FollowLemmas.{follow_twice}
use Rattle.hm_cursor.proofs.ViewsLemmas.{keys_fit_still, shows_twice, writes_again, writes_wider}
use Rattle.hm_objects.specs.Objects.{ChangesBy, IsGone, IsOfObject}
use Rattle.hm_objects.proofs.NewLemmas.{entries_twice, steady}
use Rattle.hm_files.specs.Close.{AreOlder, IsApart, RemovesBytes}
use Rattle.hm_calls.specs.Writes.{DropsObject}

-- ---- the bytes after the object

-- what is about no bytes is apart from them
apart_from_bytes : (pfs obj : ℕ) (s : Subject) → (s.rec_type ≡ FILE_BYTES → ⊥) → IsApart pfs obj 0 (2 ^ 64) s
apart_from_bytes pfs obj s other n from below is = other (ap (λ (z : Subject). z.rec_type) is)

pub object_dropped : (pfs i : ℕ) (obj : Obj) (es mid es' : List FullElement) → ChangesBy pfs obj.0 i (λ tree. without_object tree obj) es mid
    → IsGone pfs obj.0 i mid → RemovesBytes pfs obj.0 i (2 ^ 64) mid es' → DropsObject pfs i obj es es'
object_dropped pfs i obj es mid es' changes gone removes = record {
  changes = record {
    writes = writes_again pfs i (IsOfObject pfs obj.0 i) es mid es' (steady pfs obj.0 i) changes.writes
        (writes_wider pfs i IsNothing (IsOfObject pfs obj.0 i) mid es' (λ x new. absurd new) removes.closes.writes);
    shows = shows_twice pfs i (λ tree. without_object tree obj) (λ tree. tree) es mid es' changes.shows (removes.shows gone.inode);
    fits = λ hash keys.
        keys_fit_still pfs i IsNothing hash mid es' removes.closes.writes (λ x entry new type ranges spelled. absurd new) (changes.fits hash keys);
    entries = entries_twice pfs es mid es' changes.entries
        (λ t directory key bytes. removes.closes.beside t (entry_subject pfs directory key) bytes
        (apart_from_bytes pfs obj.0 (entry_subject pfs directory key) (λ is. omega (arith, is))));
    follows = follow_twice es mid es' changes.follows removes.closes.follows;
  };
  leaves = record {
    gone = record {
      inode = λ t late bytes counts. gone.inode t late bytes ((removes.closes.beside t (inode_subject pfs obj.0) bytes
          (apart_from_bytes pfs obj.0 (inode_subject pfs obj.0) (λ is. omega (arith, is)))).0 counts);
      target = λ t late bytes counts. gone.target t late bytes ((removes.closes.beside t (target_subject pfs obj.0) bytes
          (apart_from_bytes pfs obj.0 (target_subject pfs obj.0) (λ is. omega (arith, is)))).0 counts);
    };
    bytes = λ t n late below. removes.closes.gone t n late (omega arith) below;
  };
}

-- ---- the bytes before it goes

-- those that are older stay so, where nothing new is written
pub bytes_older_still : (pfs i obj : ℕ) (es es' : List FullElement) → WritesIn pfs i IsNothing es es' → AreOlder pfs obj i 0 es → AreOlder pfs obj i 0 es'
bytes_older_still pfs i obj es es' writes older n up = writes.fresh (bytes_subject pfs obj n) (λ x new is. new) (older n up)
