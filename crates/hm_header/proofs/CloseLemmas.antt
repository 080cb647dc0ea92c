-- The first stage, by the gate that was read.
use Rattle.std.proofs.Common.{◌≡◌, ℕ, ◌+◌, ◌-◌, ◌≤◌, List, [], ◌∷◌, sym, ap, subst, ◌∙◌, get_or, slice_index, slice_range, Option, IfSome}
use Rattle.hm_disk.specs.Crash.{Told}
use Rattle.hm_disk.specs.Disk.{Synced}
use Rattle.hm_types.specs.Told.{BothTell}
use Rattle.hm_disk.specs.Moments.{LeftSince, SameLeft, SyncElapses, WriteElapses}
use Rattle.hm_disk.specs.Transfer.{TornAll, WrittenSynced}
use Rattle.hm_disk.proofs.DiskLemmas.{BothTell-map, BothTell-same}
use Rattle.hm_header.specs.declared.header.Header.{Header}
use Rattle.hm_header.specs.declared.header.TheConstants.{GATE_OPEN}
use Rattle.hm_header.specs.Change.{AnyCrash, IsClosedBeside, IsCounting, StageDone, StageElapses, StageFailed}
use Rattle.hm_header.specs.OnDisk.{gate_place}
use Rattle.hm_header.proofs.AnswerLemmas.{IfSome-both, IfSome-map}
use Rattle.hm_header.proofs.GateLemmas.{byte-read}
use Rattle.hm_header.proofs.StageLemmas.{close-already, close-leaves, close-written, failed-same, failed-write, read-elapses, synced-elapses, written-elapses}

module _ (header : Header) (slot : ℕ) (small : slot ≤ 1) (old told : Option Told) (safe : IfSome old (AnyCrash (IsCounting header slot)))
    (same : told ≡ old) where
  -- nothing was written
  pub unwritten : BothTell old told (StageFailed (IsCounting header slot) (gate_place (1 - slot)) 1)
  unwritten =
      subst (λ (o : Option Told). BothTell old o (StageFailed (IsCounting header slot) (gate_place (1 - slot)) 1)) (sym same)
      (BothTell-same old _ (IfSome-map old _ _ (λ t p. failed-same (IsCounting header slot) (gate_place (1 - slot)) 1 t p) safe))

  pub unwritten-elapses : (past since : LeftSince) → SameLeft past since
      → BothTell old told (StageElapses (IsCounting header slot) (gate_place (1 - slot)) 1 past since)
  unwritten-elapses past since left =
      subst (λ (o : Option Told). BothTell old o (StageElapses (IsCounting header slot) (gate_place (1 - slot)) 1 past since)) (sym same)
      (BothTell-same old _ (IfSome-map old _ _ (λ t p. read-elapses (IsCounting header slot) (gate_place (1 - slot)) 1 past since t left) safe))

  module _ (new : Option Told) (place : ℕ) (buf : List ℕ) (at : place ≡ gate_place (1 - slot))
      (read : IfSome old (λ t. buf ≡ slice_range t.bytes place (place + 1))) where
    -- the gate was read
    abbrev Seen : Told → Type 0
    Seen t = AnyCrash (IsCounting header slot) t × (get_or buf 0 0 ≡ slice_index t.bytes (gate_place (1 - slot)))

    seen : IfSome old Seen
    seen = IfSome-both old _ _ Seen
        (λ t p was. (p, byte-read t.bytes buf place was ∙ ap (λ (k : ℕ). slice_index t.bytes k) at)) safe read

    from-old : (Q : ℕ → Told → Told → Type 0) → BothTell told new (Q place) → BothTell old new (Q (gate_place (1 - slot)))
    from-old Q both = subst (λ (k : ℕ). BothTell old new (Q k)) at (subst (λ (o : Option Told). BothTell o new (Q place)) same both)

    pub open-done : BothTell told new (WrittenSynced place (0 ∷ [])) → BothTell old new (StageDone (IsClosedBeside header slot) (gate_place (1 - slot)) 1)
    open-done written =
        BothTell-map old new Seen _ _ (λ s t fits first. close-written header slot small s t fits.0 first) seen
        (from-old (λ k. WrittenSynced k (0 ∷ [])) written)

    pub open-failed : get_or buf 0 0 ≡ GATE_OPEN → BothTell told new (TornAll place 1)
        → BothTell old new (StageFailed (IsCounting header slot) (gate_place (1 - slot)) 1)
    open-failed was_open torn =
        BothTell-map old new Seen _ _
        (λ s t fits first. failed-write (IsCounting header slot) (gate_place (1 - slot)) 1 s t
        (close-leaves header slot small s fits.0 (sym fits.1 ∙ was_open)) first)
        seen (from-old (λ k. TornAll k 1) torn)

    pub open-elapses : (past middle since : LeftSince) → SameLeft past middle → get_or buf 0 0 ≡ GATE_OPEN
        → BothTell told new (WriteElapses place 1 middle since)
        → BothTell old new (StageElapses (IsCounting header slot) (gate_place (1 - slot)) 1 past since)
    open-elapses past middle since left was_open time =
        BothTell-map old new Seen _ _
        (λ s t fits first. written-elapses (IsCounting header slot) (gate_place (1 - slot)) 1 past middle since s t
        (close-leaves header slot small s fits.0 (sym fits.1 ∙ was_open)) left first)
        seen (from-old (λ k. WriteElapses k 1 middle since) time)

    pub closed-done : (get_or buf 0 0 ≡ GATE_OPEN → ⊥) → BothTell told new Synced
        → BothTell old new (StageDone (IsClosedBeside header slot) (gate_place (1 - slot)) 1)
    closed-done shut synced =
        BothTell-map old new Seen _ _
        (λ s t fits first. close-already header slot small s t fits.0 (λ is_open. shut (fits.1 ∙ is_open)) first) seen (from-old (λ k. Synced) synced)

    pub closed-elapses : (past middle since : LeftSince) → SameLeft past middle → BothTell told new (SyncElapses middle since)
        → BothTell old new (StageElapses (IsCounting header slot) (gate_place (1 - slot)) 1 past since)
    closed-elapses past middle since left time =
        BothTell-map old new Seen _ _
        (λ s t fits first. synced-elapses (IsCounting header slot) (gate_place (1 - slot)) 1 past middle since s t fits.0 left first)
        seen (from-old (λ k. SyncElapses middle since) time)
