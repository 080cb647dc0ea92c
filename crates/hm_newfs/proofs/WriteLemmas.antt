-- What a write makes of the bytes that a step is to bring.
use Rattle.std.proofs.Common.{◌≡◌, inl, ℕ, ◌+◌, ◌*◌, ◌≤◌, List, ◌++◌, refl, sym, ap, subst, ◌∙◌, arith, length, slice_range, Option, Some, None}
use Rattle.hm_types.specs.Layout.{first_pool, start_of}
use Rattle.hm_types.specs.Told.{BothTell}
use Rattle.hm_disk.specs.Crash.{Told}
use Rattle.hm_disk.specs.Disk.{Written, overwritten}
use Rattle.hm_disk.specs.Moments.{CallElapses, LeftSince, WriteElapses}
use Rattle.hm_disk.specs.Transfer.{TornAll}
use Rattle.hm_disk.proofs.MomentLemmas.{Elapses-none}
use Rattle.hm_disk.proofs.OverwriteLemmas.{MayLeave-overwritten, length-overwritten}
use Rattle.hm_header.proofs.SliceLemmas.{slice-kept, slice-overwritten}
use Rattle.hm_header.proofs.SlotLemmas.{length-body}
use Rattle.hm_header.specs.Layout.{body_of}
use Rattle.hm_header.specs.Range.{IsSize}
use Rattle.hm_image.specs.Fresh.{fresh_header, fresh_record, fresh_root, root_inode}
use Rattle.hm_image.proofs.OffsetLemmas.{pool_is}
use Rattle.hm_node.specs.Node.{Spells}
use Rattle.hm_records.specs.Inode.{inode_bytes}
use Rattle.hm_records.specs.PfsRecord.{head_bytes, interval_bytes, pfs_bytes}
use Rattle.hm_newfs.specs.Contents.{HasBody, HasFreshTree, tree_bytes}
use Rattle.hm_newfs.specs.Layers.{HasPages}
use Rattle.hm_newfs.specs.Steps.{Fills, HasSpace}
use Rattle.hm_newfs.proofs.PageLemmas.{pages-more}
use Rattle.hm_newfs.proofs.RangeLemmas.{elapses-more, torn-more, torn-none, torn-written}

-- ---- pages

-- so many pages of a range are written
pub record PagesSoFar (Has : ℕ → List ℕ → Type 0) (from count done : ℕ) (past since : LeftSince) (old new : Told) : Type 0 where
  pub pages : HasPages Has from done new.bytes
  pub others : TornAll from count old new
  pub time : WriteElapses from count past since old new

pub so-far-none : (Has : ℕ → List ℕ → Type 0) (from count : ℕ) (past : LeftSince) (t : Told) → PagesSoFar Has from count 0 past past t t
so-far-none Has from count past t = record {
  pages = λ k few. absurd (omega arith);
  others = torn-none from count t;
  time = Elapses-none _ past t;
}

pub so-far-more : (Has : ℕ → List ℕ → Type 0) (from count done many place : ℕ) (bytes : List ℕ) (past middle since : LeftSince) (s t u : Told)
    → length bytes ≡ many * 4096 → place ≡ from + done * 4096 → place + length bytes ≤ from + count → from + count ≤ length s.bytes
    → PagesSoFar Has from count done past middle s t → HasPages (λ k. Has (done + k)) 0 many bytes
    → Written place bytes t u → WriteElapses place (length bytes) middle since t u → PagesSoFar Has from count (done + many) past since s u
so-far-more Has from count done many place bytes past middle since s t u long at inside fits so_far pages written then =
    let room : place + length bytes ≤ length t.bytes = omega (arith, so_far.time.size) in
    record {
      pages = subst (λ (bs : List ℕ). HasPages Has from (done + many) bs) (sym written.bytes_are)
          (pages-more Has from done many place t.bytes bytes long at room so_far.pages pages);
      others = torn-more from count place (length bytes) (omega arith) inside s t u so_far.others (torn-written place bytes t u room written);
      time = elapses-more from count place (length bytes) (omega arith) inside past middle since s t u so_far.others so_far.time then;
    }

-- ---- the body

length-payloads : length (inode_bytes root_inode ++ pfs_bytes fresh_record) ≡ 80
unfolding inode_bytes pfs_bytes head_bytes interval_bytes
length-payloads = refl

module _ (bigblocks : ℕ) (size : IsSize bigblocks) where
  pub body-written : (s t : Told) → HasSpace bigblocks s → Written 0 (body_of (fresh_header bigblocks)) s t → Fills (HasBody bigblocks) 0 16383 s t
  body-written s t room written =
      let body = body_of (fresh_header bigblocks) in
      let long = length-body (fresh_header bigblocks) in
      let fits : 0 + length body ≤ length s.bytes = omega (arith, room, size.0, long) in
      record {
        has = ap (λ (bs : List ℕ). slice_range bs 0 16383) written.bytes_are
            ∙ (ap (λ (n : ℕ). slice_range (overwritten s.bytes 0 body) 0 (0 + n)) (sym long) ∙ slice-overwritten s.bytes 0 body fits);
        others = subst (λ (n : ℕ). TornAll 0 n s t) long (torn-written 0 body s t fits written);
      }

  -- ---- the tree

  abbrev P : ℕ
  P = start_of (first_pool bigblocks)

  abbrev Q : ℕ
  Q = start_of (first_pool bigblocks + 1)

  -- the root node is written, and within that a crash left what one within the step leaves
  pub record WroteRoot (page : List ℕ) (past since : LeftSince) (s t : Told) : Type 0 where
    pub long : length page ≡ 4096
    pub written : Written P page s t
    pub time : WriteElapses P 4096 past since s t

  -- the same where the disk tells
  pub root-told : (page : List ℕ) → length page ≡ 4096 → (past since : LeftSince) (old new : Option Told) (place : ℕ) → place ≡ P
      → BothTell old new (Written place page) → BothTell old new (CallElapses place (length page) past since)
      → BothTell old new (WroteRoot page past since)
  root-told page long past since old new place at written then =
      subst (λ (from : ℕ). BothTell old new (Written from page) → BothTell old new (CallElapses from (length page) past since)
      → BothTell old new (WroteRoot page past since)) (sym at) (both old new) written then
    where
      both : (old new : Option Told) → BothTell old new (Written P page) → BothTell old new (CallElapses P (length page) past since)
          → BothTell old new (WroteRoot page past since)
      both None None written then = tt
      both (Some s) (Some t) written then =
          record { long = long; written = written; time = subst (λ (n : ℕ). WriteElapses P n past since s t) long then.begun }
      both None (Some t) written then = absurd written
      both (Some s) None written then = absurd written

  module _ (page payloads : List ℕ) (is : payloads ≡ inode_bytes root_inode ++ pfs_bytes fresh_record) (past middle since : LeftSince)
      (s t u : Told) (room : HasSpace bigblocks s) (root : WroteRoot page past middle s t) where
    long : length payloads ≡ 80
    long = ap (λ (xs : List ℕ). length xs) is ∙ length-payloads

    fits-root : P + length page ≤ length s.bytes
    fits-root = let pool = pool_is bigblocks size in omega (arith, room, root.long)

    size-t : length t.bytes ≡ length s.bytes
    size-t = ap (λ (bs : List ℕ). length bs) root.written.bytes_are ∙ length-overwritten s.bytes P page fits-root

    fits-payloads : Q + length payloads ≤ length t.bytes
    fits-payloads = let pool = pool_is bigblocks size in omega (arith, room, size-t, long)

    torn-root : TornAll P tree_bytes s t
    torn-root =
        torn-more P tree_bytes P (length page) (omega arith) (omega (arith, root.long)) s s t (torn-none P tree_bytes s)
        (torn-written P page s t fits-root root.written)

    pub tree-written : Spells page (fresh_root bigblocks) → Written Q payloads t u → Fills (HasFreshTree bigblocks) P tree_bytes s u
    tree-written spells written = record {
      has = record {
        root = subst (λ (p : List ℕ). Spells p (fresh_root bigblocks)) (sym page-is) spells;
        payloads = ap (λ (bs : List ℕ). slice_range bs Q (Q + 80)) written.bytes_are
            ∙ (ap (λ (n : ℕ). slice_range (overwritten t.bytes Q payloads) Q (Q + n)) (sym long) ∙ (slice-overwritten t.bytes Q payloads fits-payloads ∙ is));
      };
      others = torn-more P tree_bytes Q (length payloads) (omega arith) (omega (arith, long)) s t u torn-root
          (torn-written Q payloads t u fits-payloads written);
    } where
      page-is : slice_range u.bytes P (P + 4096) ≡ page
      page-is =
          ap (λ (bs : List ℕ). slice_range bs P (P + 4096)) written.bytes_are
          ∙ (slice-kept t.bytes (overwritten t.bytes Q payloads) Q (length payloads) P (P + 4096) (inl (omega arith))
          (MayLeave-overwritten t.bytes Q (length payloads) payloads (omega arith) fits-payloads)
          ∙ (ap (λ (bs : List ℕ). slice_range bs P (P + 4096)) root.written.bytes_are
          ∙ (ap (λ (n : ℕ). slice_range (overwritten s.bytes P page) P (P + n)) (sym root.long) ∙ slice-overwritten s.bytes P page fits-root)))

    root-elapses : WriteElapses P tree_bytes past middle s t
    root-elapses =
        elapses-more P tree_bytes P 4096 (omega arith) (omega arith) past past middle s s t (torn-none P tree_bytes s) (Elapses-none _ past s) root.time

    pub tree-elapses : CallElapses Q (length payloads) middle since t u → WriteElapses P tree_bytes past since s u
    tree-elapses then =
        elapses-more P tree_bytes Q (length payloads) (omega arith) (omega (arith, long)) past middle since s t u torn-root root-elapses then.begun
