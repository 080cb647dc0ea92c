-- The stages of a header change, one after the other.
use Rattle.std.proofs.Common.{◌≡◌, ◌⊎◌, inl, inr, ℕ, ◌+◌, ◌-◌, ◌<◌, ◌≤◌, List, [], ◌∷◌, sym, subst, arith, Option, IfSome}
use Rattle.hm_disk.specs.Crash.{Told, MayLeave, Outside}
use Rattle.hm_types.specs.Told.{BothTell}
use Rattle.hm_disk.specs.Moments.{LeftSince}
use Rattle.hm_disk.proofs.CrashLemmas.{MayLeave-fewer, MayLeave-same, MayLeave-settled, MayLeave-through}
use Rattle.hm_disk.proofs.DiskLemmas.{BothTell-and, BothTell-then}
use Rattle.hm_disk.proofs.MomentLemmas.{Elapses-more}
use Rattle.hm_header.specs.declared.header.Header.{Header}
use Rattle.hm_header.specs.declared.header.TheConstants.{SLOT_BYTES}
use Rattle.hm_header.specs.Change.{AnyCrash, ChangeElapses, ChangeFailed, Changes, HasNextBody, IsBodyWritten, IsChanged}
use Rattle.hm_header.specs.Change.{IsClosedBeside, IsCounting, KeepsOthers, StageDone, StageElapses, StageFailed}
use Rattle.hm_header.specs.OnDisk.{gate_place, slot_place}
use Rattle.hm_header.proofs.StageLemmas.{Elapses-within}

-- what holds of a disk on which all is settled, whatever a crash leaves
pub settled-any : (Has : List ℕ → Type 0) (t : Told) → t.unsettled ≡ [] → Has t.bytes → AnyCrash Has t
settled-any Has t settled has image left =
    subst Has (sym (MayLeave-settled t.bytes image (subst (λ (ranges : List (ℕ × ℕ)). MayLeave t.bytes ranges image) settled left))) has

-- a range of the slot changed
KeepsOthers-in : (number : ℕ) (old new : List ℕ) (place count : ℕ) → slot_place number ≤ place → place + count ≤ slot_place number + SLOT_BYTES
    → MayLeave old ((place, count) ∷ []) new → KeepsOthers number old new
KeepsOthers-in number old new place count from to change =
    MayLeave-fewer old new ((slot_place number, SLOT_BYTES) ∷ []) ((place, count) ∷ []) (λ byte outside. (in-slot byte outside.0, tt)) change
  where
    in-slot : (byte : ℕ) → (byte < slot_place number) ⊎ (slot_place number + SLOT_BYTES ≤ byte) → (byte < place) ⊎ (place + count ≤ byte)
    in-slot byte (inl low) = inl (omega (arith, low, from))
    in-slot byte (inr high) = inr (omega (arith, high, to))

KeepsOthers-then : (number : ℕ) (old new last : List ℕ) → KeepsOthers number old new → KeepsOthers number new last → KeepsOthers number old last
KeepsOthers-then number old new last first then =
    MayLeave-through old new last ((slot_place number, SLOT_BYTES) ∷ []) ((slot_place number, SLOT_BYTES) ∷ []) first (λ byte outside. outside) then

-- what a crash within a stage leaves, seen from before the change
left-in : (number : ℕ) (s : Told) (place count : ℕ) (image : List ℕ) → slot_place number ≤ place → place + count ≤ slot_place number + SLOT_BYTES
    → MayLeave s.bytes ((place, count) ∷ s.unsettled) image → MayLeave s.bytes ((slot_place number, SLOT_BYTES) ∷ s.unsettled) image
left-in number s place count image from to left =
    MayLeave-fewer s.bytes image ((slot_place number, SLOT_BYTES) ∷ s.unsettled) ((place, count) ∷ s.unsettled)
    (λ byte outside. (in-slot byte outside.0, outside.1)) left
  where
    in-slot : (byte : ℕ) → (byte < slot_place number) ⊎ (slot_place number + SLOT_BYTES ≤ byte) → (byte < place) ⊎ (place + count ≤ byte)
    in-slot byte (inl low) = inl (omega (arith, low, from))
    in-slot byte (inr high) = inr (omega (arith, high, to))

left-then : (number : ℕ) (s t : Told) (place count : ℕ) (image : List ℕ) → slot_place number ≤ place → place + count ≤ slot_place number + SLOT_BYTES
    → t.unsettled ≡ [] → KeepsOthers number s.bytes t.bytes → MayLeave t.bytes ((place, count) ∷ t.unsettled) image
    → MayLeave s.bytes ((slot_place number, SLOT_BYTES) ∷ s.unsettled) image
left-then number s t place count image from to settled kept left =
    MayLeave-through s.bytes t.bytes image ((slot_place number, SLOT_BYTES) ∷ s.unsettled) ((slot_place number, SLOT_BYTES) ∷ t.unsettled)
    (MayLeave-fewer s.bytes t.bytes ((slot_place number, SLOT_BYTES) ∷ s.unsettled) ((slot_place number, SLOT_BYTES) ∷ [])
    (λ byte outside. (outside.0, tt)) kept)
    (λ byte outside. (outside.0, subst (λ (ranges : List (ℕ × ℕ)). Outside ranges byte) (sym settled) tt))
    (left-in number t place count image from to left)

module _ (header next : Header) (slot : ℕ) (small : slot ≤ 1) where
  abbrev pub Closing : Told → Told → Type 0
  Closing s t = StageDone (IsClosedBeside header slot) (gate_place (1 - slot)) 1 s t

  abbrev pub Writing : Told → Told → Type 0
  Writing s t = StageDone (IsBodyWritten header slot next) (slot_place (1 - slot)) 16383 s t

  -- the first stage failed
  pub failed-close : (s t : Told) → StageFailed (IsCounting header slot) (gate_place (1 - slot)) 1 s t → ChangeFailed header slot next s t
  failed-close s t failed = record {
    header_is = inl (failed.crash t.bytes (MayLeave-same t.bytes t.unsettled));
    others = KeepsOthers-in (1 - slot) s.bytes t.bytes (gate_place (1 - slot)) 1 (omega arith) (omega arith) failed.torn.bytes_are;
  }

  pub close-elapses : (past since : LeftSince) (s t : Told) → StageElapses (IsCounting header slot) (gate_place (1 - slot)) 1 past since s t
      → ChangeElapses header slot next past since s t
  close-elapses past since s t time = Elapses-within _ _ past since s t
      (λ image left. record {
        header_is = inl left.has;
        others = left-in (1 - slot) s (gate_place (1 - slot)) 1 image (omega arith) (omega arith) left.others;
      }) time

  closed-others : (s t : Told) → Closing s t → KeepsOthers (1 - slot) s.bytes t.bytes
  closed-others s t closing = KeepsOthers-in (1 - slot) s.bytes t.bytes (gate_place (1 - slot)) 1 (omega arith) (omega arith) closing.others

  -- the second stage failed
  pub failed-body : (s t u : Told) → Closing s t → StageFailed (IsClosedBeside header slot) (slot_place (1 - slot)) 16383 t u
      → ChangeFailed header slot next s u
  failed-body s t u closing failed = record {
    header_is = inl (failed.crash u.bytes (MayLeave-same u.bytes u.unsettled)).header_is;
    others = KeepsOthers-then (1 - slot) s.bytes t.bytes u.bytes (closed-others s t closing)
        (KeepsOthers-in (1 - slot) t.bytes u.bytes (slot_place (1 - slot)) 16383 (omega arith) (omega arith) failed.torn.bytes_are);
  }

  pub body-elapses : (past middle since : LeftSince) (s t u : Told) → Closing s t
      → StageElapses (IsCounting header slot) (gate_place (1 - slot)) 1 past middle s t
      → StageElapses (IsClosedBeside header slot) (slot_place (1 - slot)) 16383 middle since t u → ChangeElapses header slot next past since s u
  body-elapses past middle since s t u closing first then = Elapses-more _ _ past middle since s t u (close-elapses past middle s t first) then
      (λ image left. record {
        header_is = inl left.has.header_is;
        others = left-then (1 - slot) s t (slot_place (1 - slot)) 16383 image (omega arith) (omega arith) closing.settled
            (closed-others s t closing) left.others;
      })

  -- two stages succeeded
  pub record Prepared (past since : LeftSince) (old new : Told) : Type 0 where
    pub others : KeepsOthers (1 - slot) old.bytes new.bytes
    pub settled : new.unsettled ≡ []
    pub body : HasNextBody header slot next new.bytes
    pub time : ChangeElapses header slot next past since old new

  pub prepared : (past middle since : LeftSince) (old told new : Option Told) → IfSome old (AnyCrash (IsCounting header slot))
      → BothTell old told Closing → BothTell old told (StageElapses (IsCounting header slot) (gate_place (1 - slot)) 1 past middle)
      → BothTell told new Writing → BothTell told new (StageElapses (IsClosedBeside header slot) (slot_place (1 - slot)) 16383 middle since)
      → BothTell old new (Prepared past since)
  prepared past middle since old told new before closing first writing then =
      BothTell-then old told new (AnyCrash (IsCounting header slot))
      (λ s t. Closing s t × StageElapses (IsCounting header slot) (gate_place (1 - slot)) 1 past middle s t)
      (λ t u. Writing t u × StageElapses (IsClosedBeside header slot) (slot_place (1 - slot)) 16383 middle since t u) (Prepared past since)
      (λ s t u safe p q. record {
        others = KeepsOthers-then (1 - slot) s.bytes t.bytes u.bytes (closed-others s t p.0)
            (KeepsOthers-in (1 - slot) t.bytes u.bytes (slot_place (1 - slot)) 16383 (omega arith) (omega arith) q.0.others);
        settled = q.0.settled;
        body = q.0.has.1;
        time = body-elapses past middle since s t u p.0 p.1 q.1;
      })
      before (BothTell-and old told _ _ closing first) (BothTell-and told new _ _ writing then)

  module _ (past middle : LeftSince) (s u v : Told) (p : Prepared past middle s u) where
    open-others : MayLeave u.bytes ((gate_place (1 - slot), 1) ∷ []) v.bytes → KeepsOthers (1 - slot) s.bytes v.bytes
    open-others change = KeepsOthers-then (1 - slot) s.bytes u.bytes v.bytes p.others
        (KeepsOthers-in (1 - slot) u.bytes v.bytes (gate_place (1 - slot)) 1 (omega arith) (omega arith) change)

    -- the third stage succeeded
    pub changes : StageDone (IsChanged slot next) (gate_place (1 - slot)) 1 u v → Changes next (1 - slot) s v
    changes opening = record { header_is = opening.has; others = open-others opening.others; settled = opening.settled }

    -- or it failed
    pub failed-open : StageFailed (HasNextBody header slot next) (gate_place (1 - slot)) 1 u v → ChangeFailed header slot next s v
    failed-open failed = record {
      header_is = (failed.crash v.bytes (MayLeave-same v.bytes v.unsettled)).header_is;
      others = open-others failed.torn.bytes_are;
    }

    pub open-elapses : (since : LeftSince) → StageElapses (HasNextBody header slot next) (gate_place (1 - slot)) 1 middle since u v
        → ChangeElapses header slot next past since s v
    open-elapses since then = Elapses-more _ _ past middle since s u v p.time then
        (λ image left. record {
          header_is = left.has.header_is;
          others = left-then (1 - slot) s u (gate_place (1 - slot)) 1 image (omega arith) (omega arith) p.settled p.others left.others;
        })
