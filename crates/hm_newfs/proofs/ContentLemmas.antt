-- Writing all but the gates, which stay closed.
use Rattle.std.proofs.Common.{◌⊎◌, inl, inr, ℕ, ◌+◌, ◌*◌, ◌<◌, ◌≤◌, List, [], ◌∷◌, sym, subst, ◌∙◌, arith}
use Rattle.hm_types.specs.Layout.{first_pool, first_undo, layer2_blocks, start_of}
use Rattle.hm_disk.specs.Crash.{Told, MayLeave}
use Rattle.hm_disk.specs.Moments.{Each, Elapses, LeftSince, SyncElapses, WriteElapses}
use Rattle.hm_disk.proofs.MomentLemmas.{Elapses-more, Elapses-none}
use Rattle.hm_header.specs.OnDisk.{HasSlots, gate_place}
use Rattle.hm_header.specs.Range.{IsSize}
use Rattle.hm_header.proofs.SliceLemmas.{slice-kept}
use Rattle.hm_image.specs.Fresh.{fresh_root}
use Rattle.hm_image.proofs.OffsetLemmas.{layer2_is, pool_is}
use Rattle.hm_node.specs.Node.{Spells}
use Rattle.hm_newfs.specs.Contents.{HasBody, HasContents, HasFreshTree}
use Rattle.hm_newfs.specs.Layers.{HasLayer, HasPage, layer_bytes, layer_start}
use Rattle.hm_newfs.specs.Steps.{Fills, HasClosedGates, AreGatesClosed}
use Rattle.hm_newfs.specs.declared.layer.Layer.{Layer}
use Rattle.hm_newfs.specs.declared.layer.Layer.TheVariants.{First, Second}
use Rattle.hm_newfs.proofs.ClosingLemmas.{lacks-kept}
use Rattle.hm_newfs.proofs.PageLemmas.{pages-kept}

-- a range that has no gate: that of the first body, or one past the slots
abbrev pub IsClear : ℕ → ℕ → Type 0
IsClear place count = (place + count ≤ gate_place 0) ⊎ (gate_place 1 + 1 ≤ place)

clear-gate : (place count number : ℕ) → IsClear place count → number ≤ 1 → (gate_place number < place) ⊎ (place + count ≤ gate_place number)
clear-gate place count number (inl before) small = inr (omega arith)
clear-gate place count number (inr after) small = inl (omega arith)

-- so much is written, and within that a crash left no volume
pub record Beneath (Has : List ℕ → Type 0) (past since : LeftSince) (s t : Told) : Type 0 where
  pub has : Has t.bytes
  pub gates : HasClosedGates t
  pub time : Elapses AreGatesClosed past since s t

-- before the first step
pub beneath-none : (past : LeftSince) (s : Told) → HasClosedGates s → Beneath (λ bytes. Unit {0}) past past s s
beneath-none past s gates = record { has = tt; gates = gates; time = Elapses-none AreGatesClosed past s }

module _ (Has : List ℕ → Type 0) (place count : ℕ) (clear : IsClear place count) (past middle since : LeftSince) (s t u : Told)
    (both : HasSlots s.bytes) (so_far : Beneath Has past middle s t) where
  slots : HasSlots t.bytes
  slots = omega (arith, both, so_far.time.size)

  within : Each (MayLeave t.bytes ((place, count) ∷ t.unsettled)) AreGatesClosed
  within image left =
      lacks-kept t.bytes image ((place, count) ∷ t.unsettled) slots left
      (λ number small. (clear-gate place count number clear small, so_far.gates.settled number small)) so_far.gates.closed

  -- a step more, whether it succeeds or not
  pub beneath-elapses : WriteElapses place count middle since t u → Elapses AreGatesClosed past since s u
  beneath-elapses then = Elapses-more AreGatesClosed _ past middle since s t u so_far.time then within

  pub beneath-more : (Next : List ℕ → Type 0) → (MayLeave t.bytes ((place, count) ∷ []) u.bytes → Has t.bytes → Has u.bytes)
      → Fills Next place count t u → WriteElapses place count middle since t u → Beneath (λ bytes. Has bytes × Next bytes) past since s u
  beneath-more Next keeps fills then = record {
    has = (keeps fills.others.bytes_are so_far.has, fills.has);
    gates = record {
      closed = lacks-kept t.bytes u.bytes ((place, count) ∷ []) slots fills.others.bytes_are
          (λ number small. (clear-gate place count number clear small, tt)) so_far.gates.closed;
      settled = λ number small. fills.others.unsettled_are (gate_place number)
          (clear-gate place count number clear small, so_far.gates.settled number small);
    };
    time = beneath-elapses then;
  }

-- the sync after all steps
pub beneath-synced : (Has : List ℕ → Type 0) (past middle since : LeftSince) (s t u : Told) → HasSlots s.bytes
    → Beneath Has past middle s t → SyncElapses middle since t u → Elapses AreGatesClosed past since s u
beneath-synced Has past middle since s t u both so_far then =
    Elapses-more AreGatesClosed _ past middle since s t u so_far.time then
    (λ image left. lacks-kept t.bytes image t.unsettled (omega (arith, both, so_far.time.size)) left so_far.gates.settled so_far.gates.closed)

-- ---- what a later step keeps

module _ (bigblocks : ℕ) (size : IsSize bigblocks) where
  -- where the layers are
  pub layer-ends : (layer : Layer) → (start_of 1 ≤ layer_start layer)
      × (layer_start layer + layer_bytes bigblocks layer ≤ start_of (first_undo bigblocks))
      × (start_of (first_pool bigblocks) ≤ bigblocks * 8388608)
  layer-ends First = elim (layer2_is bigblocks size) [ inl one ↦ (omega arith, omega arith, omega arith) | inr two ↦ (omega arith, omega arith, omega arith) ]
  layer-ends Second = elim (layer2_is bigblocks size) [ inl one ↦ (omega arith, omega arith, omega arith) | inr two ↦ (omega arith, omega arith, omega arith) ]

  pub layer-clear : (layer : Layer) → IsClear (layer_start layer) (layer_bytes bigblocks layer)
  layer-clear layer = let ends = layer-ends layer in inr (omega arith)

  pub body-kept : (place count : ℕ) (old new : List ℕ) → 16383 ≤ place → MayLeave old ((place, count) ∷ []) new
      → HasBody bigblocks old → HasBody bigblocks new
  body-kept place count old new past change body = slice-kept old new place count 0 16383 (inl past) change ∙ body

  pub first-kept : (place count : ℕ) (old new : List ℕ) → (start_of 2 ≤ place) ⊎ (place + count ≤ start_of 1)
      → MayLeave old ((place, count) ∷ []) new → HasLayer bigblocks First old → HasLayer bigblocks First new
  first-kept place count old new apart change there = pages-kept (HasPage bigblocks First) (start_of 1) 2048 place count old new (outside apart) change there
    where
      outside : (start_of 2 ≤ place) ⊎ (place + count ≤ start_of 1) → (start_of 1 + 2048 * 4096 ≤ place) ⊎ (place + count ≤ start_of 1)
      outside (inl past) = inl (omega arith)
      outside (inr before) = inr before

  pub second-kept : (place count : ℕ) (old new : List ℕ) → (start_of (first_undo bigblocks) ≤ place) ⊎ (place + count ≤ start_of 2)
      → MayLeave old ((place, count) ∷ []) new → HasLayer bigblocks Second old → HasLayer bigblocks Second new
  second-kept place count old new apart change there =
      pages-kept (HasPage bigblocks Second) (start_of 2) (layer2_blocks bigblocks * 2048) place count old new (outside apart) change there
    where
      outside : (start_of (first_undo bigblocks) ≤ place) ⊎ (place + count ≤ start_of 2)
          → (start_of 2 + layer2_blocks bigblocks * 2048 * 4096 ≤ place) ⊎ (place + count ≤ start_of 2)
      outside (inl past) = inl (omega arith)
      outside (inr before) = inr before

  pub tree-kept : (place count : ℕ) (old new : List ℕ) → place + count ≤ start_of 1 → MayLeave old ((place, count) ∷ []) new
      → HasFreshTree bigblocks old → HasFreshTree bigblocks new
  tree-kept place count old new before change tree =
      let pool = pool_is bigblocks size in
      let P = start_of (first_pool bigblocks) in
      let Q = start_of (first_pool bigblocks + 1) in
      record {
        root = subst (λ (page : List ℕ). Spells page (fresh_root bigblocks))
            (sym (slice-kept old new place count P (P + 4096) (inr (omega arith)) change)) tree.root;
        payloads = slice-kept old new place count Q (Q + 80) (inr (omega arith)) change ∙ tree.payloads;
      }

  -- a gate alone changes
  pub contents-kept : (place : ℕ) (old new : List ℕ) → 16383 ≤ place → place + 1 ≤ start_of 1 → MayLeave old ((place, 1) ∷ []) new
      → HasContents bigblocks old → HasContents bigblocks new
  contents-kept place old new past before change all = record {
    body = body-kept place 1 old new past change all.body;
    layer1 = first-kept place 1 old new (inr before) change all.layer1;
    layer2 = second-kept place 1 old new (inr (omega arith)) change all.layer2;
    tree = tree-kept place 1 old new before change all.tree;
  }
