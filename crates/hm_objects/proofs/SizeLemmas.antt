-- What another size of a file does to what counts.
use Rattle.std.proofs.Common.{◌≡◌, ◌≢◌, ℕ, ◌^◌, ◌<◌, ◌≤◌, List, refl, sym, ap, subst, ◌∙◌, inl, inr, arith}
use Rattle.std.specs.Prelude.{Some}
use Rattle.std.proofs.lemmas.Bool.{cases_lt}
use Rattle.hm_types.specs.Elements.{FullElement}
use Rattle.hm_types.specs.declared.id.Obj.{Obj}
use Rattle.hm_key.specs.Counts.{Counts, inode_subject}
use Rattle.hm_records.specs.Changes.{CountsNothing, HasInode, IsSettled}
use Rattle.hm_records.specs.Inode.{IsInode, inode_bytes}
use Rattle.hm_records.specs.declared.inode.Inode.{Inode}
use Rattle.hm_records.specs.declared.kind.TheConstants.{FILE}
use Rattle.hm_records.proofs.ObjectLemmas.{inode_one}
use Rattle.hm_cursor.specs.Views.{WritesIn}
use Rattle.hm_cursor.specs.Write.{FollowWith, IsFreshFor}
use Rattle.hm_cursor.proofs.FollowLemmas.{renewing_follows}
use Rattle.hm_cursor.proofs.ViewsLemmas.{fresh_later, nothing_written, writes_within}
use Rattle.hm_objects.specs.Objects.{IsOfObject, ResizesObject, sized}
use Rattle.hm_objects.proofs.NewLemmas.{inode_within, keys_fit, makes_inode}
use Rattle.hm_objects.proofs.ShownLemmas.{NewInode, inode_no_bytes}

-- any size of a file is in range
pub sized_ranges : (size : ℕ) (inode : Inode) → size < 2 ^ 64 → inode.kind ≡ FILE → IsInode inode → IsInode (sized size inode)
sized_ranges size inode small kind ranges = record {
  sized = record {
    known = ranges.sized.known;
    directory = λ is. absurd (omega (arith, is, kind));
    softlink = λ is. absurd (omega (arith, is, kind));
    pfs_link = λ is. absurd (omega (arith, is, kind));
  };
  size = small;
  links = ranges.links;
  pfs = ranges.pfs;
  no_pfs = ranges.no_pfs;
}

module _ (pfs i : ℕ) (number : Obj) (size : ℕ) (es : List FullElement) (fresh : IsFreshFor (inode_subject pfs number.0) i es) where
  -- where nothing is written
  left : ((t : ℕ) (inode : Inode) → i ≤ t → IsSettled (Counts es t) → HasInode (Counts es t) pfs number.0 inode → inode.kind ≡ FILE → ⊥)
      → ResizesObject pfs number.0 i size es es
  left none = record {
    writes = nothing_written pfs i (IsOfObject pfs number.0 i) es;
    inode = λ t inode late settled has kind. absurd (none t inode late settled has kind);
    beside = λ t s bytes differ. (λ h. h, λ h. h);
    fits = λ hash keys. keys;
    follows = λ other t follow. follow;
  }

  pub size_of_none : CountsNothing (Counts es i) (inode_subject pfs number.0) → ResizesObject pfs number.0 i size es es
  size_of_none none =
      left (λ t inode late settled has kind.
      none (inode_bytes inode) ((fresh_later (inode_subject pfs number.0) i t es (inode_bytes inode) fresh late).0 has.there))

  module _ (old : Inode) (there : HasInode (Counts es i) pfs number.0 old) where
    -- the inode that counts later is the one that counts then
    same_one : (t : ℕ) (inode : Inode) → i ≤ t → IsSettled (Counts es t) → HasInode (Counts es t) pfs number.0 inode → inode ≡ old
    same_one t inode late settled has =
        inode_one inode old has.ranges there.ranges
        (settled (inode_subject pfs number.0) (inode_bytes inode) (inode_bytes old) has.there
        ((fresh_later (inode_subject pfs number.0) i t es (inode_bytes old) fresh late).1 there.there))

    pub size_of_other : old.kind ≢ FILE → ResizesObject pfs number.0 i size es es
    size_of_other other =
        left (λ t inode late settled has kind. other (ap (λ (n : Inode). n.kind) (sym (same_one t inode late settled has)) ∙ kind))

    pub size_given : old.kind ≡ FILE → size < 2 ^ 64 → (es' : List FullElement) → NewInode pfs number.0 i (sized size old) es es'
        → FollowWith (inode_subject pfs number.0) (inode_bytes (sized size old)) i es es' → ResizesObject pfs number.0 i size es es'
    size_given kind small es' new follows = record {
      writes = writes;
      inode = λ t inode late settled has is.
          subst (λ (n : Inode). HasInode (Counts es' t) pfs number.0 (sized size n)) (sym (same_one t inode late settled has))
          (record { ranges = ranges; there = ((new.present t late).about (inode_bytes (sized size old))).1 refl });
      beside = λ t s bytes differ. elim (cases_lt t i) [
        | inl before ↦ new.past t before s bytes
        | inr not ↦ (new.present t (omega (arith, not))).elsewhere s bytes differ
      ];
      fits = keys_fit pfs number.0 i es es' writes;
      follows = renewing_follows (inode_subject pfs number.0) (inode_bytes (sized size old)) i es es' (inode_no_bytes pfs number.0) follows;
    } where
      ranges : IsInode (sized size old)
      ranges = sized_ranges size old small kind there.ranges

      writes : WritesIn pfs i (IsOfObject pfs number.0 i) es es'
      writes = writes_within pfs i (inode_subject pfs number.0) (Some (inode_bytes (sized size old))) (IsOfObject pfs number.0 i) es es'
          (inode_within pfs number.0) (makes_inode pfs number.0 i (sized size old) ranges) new
