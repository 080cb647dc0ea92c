-- The steps one after another, on a disk that tells what it holds, or does not.
use Rattle.std.proofs.Common.{◌≡◌, inl, inr, ℕ, List, [], ◌∷◌, sym, subst, arith, length, Option, IfSome}
use Rattle.hm_types.specs.Layout.{first_pool, start_of}
use Rattle.hm_types.specs.Told.{BothTell}
use Rattle.hm_disk.specs.Crash.{Told, MayLeave}
use Rattle.hm_disk.specs.Disk.{Synced}
use Rattle.hm_disk.specs.Moments.{Elapses, LeftSince, SyncElapses, WriteElapses}
use Rattle.hm_disk.proofs.DiskLemmas.{BothTell-and, BothTell-same, BothTell-then}
use Rattle.hm_header.specs.OnDisk.{HasSlots}
use Rattle.hm_header.specs.Range.{IsSize}
use Rattle.hm_header.proofs.AnswerLemmas.{IfSome-map}
use Rattle.hm_image.proofs.OffsetLemmas.{pool_is}
use Rattle.hm_newfs.specs.Contents.{HasBody, HasContents, HasFreshTree, tree_bytes}
use Rattle.hm_newfs.specs.Layers.{HasLayer, layer_bytes}
use Rattle.hm_newfs.specs.Steps.{Fills, HasClosedGates, HasSpace, AreGatesClosed, WritesContents}
use Rattle.hm_newfs.specs.declared.layer.Layer.TheVariants.{First, Second}
use Rattle.hm_newfs.proofs.ContentLemmas.{Beneath, IsClear, beneath-elapses, beneath-more, beneath-none, beneath-synced}
use Rattle.hm_newfs.proofs.ContentLemmas.{body-kept, first-kept, layer-clear, second-kept}

slots : (bigblocks : ℕ) → IsSize bigblocks → (t : Told) → HasSpace bigblocks t → HasSlots t.bytes
slots bigblocks size t room = omega (arith, room, size.0)

-- ---- one step

module _ (bigblocks : ℕ) (size : IsSize bigblocks) (Has : List ℕ → Type 0) (place count : ℕ) (clear : IsClear place count)
    (past middle since : LeftSince) (old told new : Option Told) (room : IfSome old (HasSpace bigblocks))
    (so_far : BothTell old told (Beneath Has past middle)) where
  -- it ended, one way or the other
  step-elapses : BothTell told new (WriteElapses place count middle since) → BothTell old new (Elapses AreGatesClosed past since)
  step-elapses then =
      BothTell-then old told new (HasSpace bigblocks) _ _ _
      (λ s t u room so_far then. beneath-elapses Has place count clear past middle since s t u (slots bigblocks size s room) so_far then) room so_far then

  -- it succeeded
  step-more : (Next : List ℕ → Type 0) → ((a b : List ℕ) → MayLeave a ((place, count) ∷ []) b → Has a → Has b)
      → BothTell told new (Fills Next place count) → BothTell told new (WriteElapses place count middle since)
      → BothTell old new (Beneath (λ bytes. Has bytes × Next bytes) past since)
  step-more Next keeps fills time =
      BothTell-then old told new (HasSpace bigblocks) _ (λ t u. Fills Next place count t u × WriteElapses place count middle since t u) _
      (λ s t u room so_far then. beneath-more Has place count clear past middle since s t u (slots bigblocks size s room) so_far Next
      (keeps t.bytes u.bytes) then.0 then.1) room so_far (BothTell-and told new _ _ fills time)

-- ---- all steps

module _ (bigblocks : ℕ) (size : IsSize bigblocks) where
  -- what is written after each
  abbrev WithNone : List ℕ → Type 0
  WithNone bytes = Unit {0}

  abbrev WithBody : List ℕ → Type 0
  WithBody bytes = WithNone bytes × HasBody bigblocks bytes

  abbrev WithFirst : List ℕ → Type 0
  WithFirst bytes = WithBody bytes × HasLayer bigblocks First bytes

  abbrev WithSecond : List ℕ → Type 0
  WithSecond bytes = WithFirst bytes × HasLayer bigblocks Second bytes

  abbrev WithTree : List ℕ → Type 0
  WithTree bytes = WithSecond bytes × HasFreshTree bigblocks bytes

  -- where the layers and the tree are
  abbrev layer2 : ℕ
  layer2 = layer_bytes bigblocks Second

  abbrev P : ℕ
  P = start_of (first_pool bigblocks)

  tree-clear : IsClear P tree_bytes
  tree-clear = let pool = pool_is bigblocks size in inr (omega arith)

  module _ (past : LeftSince) (old : Option Told) (room : IfSome old (HasSpace bigblocks)) where
    begun : IfSome old HasClosedGates → BothTell old old (Beneath WithNone past past)
    begun closed = BothTell-same old _ (IfSome-map old _ _ (λ t gates. beneath-none past t gates) closed)

    module _ (middle since : LeftSince) (told new : Option Told) where
      -- each ended, one way or the other
      pub body-ended : IfSome old HasClosedGates → BothTell old new (WriteElapses 0 16383 past since) → BothTell old new (Elapses AreGatesClosed past since)
      body-ended closed then = step-elapses bigblocks size WithNone 0 16383 (inl (omega arith)) past past since old old new room (begun closed) then

      pub first-ended : BothTell old told (Beneath WithBody past middle) → BothTell told new (WriteElapses (start_of 1) (start_of 1) middle since)
          → BothTell old new (Elapses AreGatesClosed past since)
      first-ended so_far then =
          step-elapses bigblocks size WithBody (start_of 1) (start_of 1) (layer-clear bigblocks size First) past middle since old told new room so_far then

      pub second-ended : BothTell old told (Beneath WithFirst past middle) → BothTell told new (WriteElapses (start_of 2) layer2 middle since)
          → BothTell old new (Elapses AreGatesClosed past since)
      second-ended so_far then =
          step-elapses bigblocks size WithFirst (start_of 2) layer2 (layer-clear bigblocks size Second) past middle since old told new room so_far then

      pub tree-ended : BothTell old told (Beneath WithSecond past middle) → BothTell told new (WriteElapses P tree_bytes middle since)
          → BothTell old new (Elapses AreGatesClosed past since)
      tree-ended so_far then = step-elapses bigblocks size WithSecond P tree_bytes tree-clear past middle since old told new room so_far then

      -- each succeeded
      pub body-done : IfSome old HasClosedGates → BothTell old new (Fills (HasBody bigblocks) 0 16383) → BothTell old new (WriteElapses 0 16383 past since)
          → BothTell old new (Beneath WithBody past since)
      body-done closed fills time =
          step-more bigblocks size WithNone 0 16383 (inl (omega arith)) past past since old old new room (begun closed)
          (HasBody bigblocks) (λ a b change has. tt) fills time

      pub first-done : BothTell old told (Beneath WithBody past middle)
          → BothTell told new (Fills (HasLayer bigblocks First) (start_of 1) (start_of 1))
          → BothTell told new (WriteElapses (start_of 1) (start_of 1) middle since)
          → BothTell old new (Beneath WithFirst past since)
      first-done so_far fills time =
          step-more bigblocks size WithBody (start_of 1) (start_of 1) (layer-clear bigblocks size First) past middle since old told new room so_far
          (HasLayer bigblocks First) (λ a b change has. (tt, body-kept bigblocks size (start_of 1) (start_of 1) a b (omega arith) change has.1)) fills time

      pub second-done : BothTell old told (Beneath WithFirst past middle)
          → BothTell told new (Fills (HasLayer bigblocks Second) (start_of 2) layer2) → BothTell told new (WriteElapses (start_of 2) layer2 middle since)
          → BothTell old new (Beneath WithSecond past since)
      second-done so_far fills time =
          step-more bigblocks size WithFirst (start_of 2) layer2 (layer-clear bigblocks size Second) past middle since old told new room so_far
          (HasLayer bigblocks Second)
          (λ a b change has. (
            (tt, body-kept bigblocks size (start_of 2) layer2 a b (omega arith) change has.0.1),
            first-kept bigblocks size (start_of 2) layer2 a b (inl (omega arith)) change has.1,
          )) fills time

      pub tree-done : BothTell old told (Beneath WithSecond past middle)
          → BothTell told new (Fills (HasFreshTree bigblocks) P tree_bytes) → BothTell told new (WriteElapses P tree_bytes middle since)
          → BothTell old new (Beneath WithTree past since)
      tree-done so_far fills time =
          step-more bigblocks size WithSecond P tree_bytes tree-clear past middle since old told new room so_far (HasFreshTree bigblocks)
          (λ a b change has.
          let pool = pool_is bigblocks size in (
            (
              (tt, body-kept bigblocks size P tree_bytes a b (omega arith) change has.0.0.1),
              first-kept bigblocks size P tree_bytes a b (inl (omega arith)) change has.0.1,
            ),
            second-kept bigblocks size P tree_bytes a b (inl (omega arith)) change has.1,
          )) fills time

      -- the sync
      pub all-ended : BothTell old told (Beneath WithTree past middle) → BothTell told new (SyncElapses middle since)
          → BothTell old new (Elapses AreGatesClosed past since)
      all-ended so_far then =
          BothTell-then old told new (HasSpace bigblocks) _ _ _
          (λ s t u room so_far then. beneath-synced WithTree past middle since s t u (slots bigblocks size s room) so_far then) room so_far then

      pub all-done : BothTell old told (Beneath WithTree past middle) → BothTell told new Synced → BothTell old new (WritesContents bigblocks)
      all-done so_far then = BothTell-then old told new (HasSpace bigblocks) _ _ _ (λ s t u room so_far synced. done s t u so_far synced) room so_far then
        where
          done : (s t u : Told) → Beneath WithTree past middle s t → Synced t u → WritesContents bigblocks s u
          done s t u so_far synced = record {
            contents = subst (HasContents bigblocks) (sym synced.bytes_are)
                (record { body = so_far.has.0.0.0.1; layer1 = so_far.has.0.0.1; layer2 = so_far.has.0.1; tree = so_far.has.1 });
            closed = subst AreGatesClosed (sym synced.bytes_are) so_far.gates.closed;
            settled = synced.unsettled_are;
            size = subst (λ (bs : List ℕ). length bs ≡ length s.bytes) (sym synced.bytes_are) so_far.time.size;
          }
