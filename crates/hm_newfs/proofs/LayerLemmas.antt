-- The pages of both layers: their fields, and their bytes.
use Rattle.std.proofs.Common.{◌≡◌, inl, inr, ℕ, zero, suc, ◌+◌, ◌-◌, ◌*◌, ◌<◌, ◌≤◌, List, nat_eq, nat_lt, refl, sym, ap, subst, ◌∙◌, arith, length}
use Rattle.std.specs.Prelude.{slice_index}
use Rattle.std.proofs.lemmas.Bool.{cond_both, cond-true, cond-false, ltb-true, ltb-false, ne_eqb}
use Rattle.hm_types.specs.Layout.{first_pool, first_undo, layer2_blocks}
use Rattle.hm_types.specs.declared.zone.TheConstants.{TREE_ZONE}
use Rattle.hm_fields.specs.Fields.{AreBytes}
use Rattle.hm_freemap.specs.Entry.{HoldsEntry, IsEntry, SpellsEntry, entry_in}
use Rattle.hm_freemap.specs.Fresh.{taken_entry, unused_entry}
use Rattle.hm_freemap.specs.Fresh.{fresh_entry as entry_made}
use Rattle.hm_freemap.specs.Layer1.{HoldsLayer1, IsLayer1, layer1_bytes, layer1_of}
use Rattle.hm_freemap.specs.declared.entry.Entry.{Entry}
use Rattle.hm_freemap.proofs.SpellLemmas.{entry_spelled, layer1_spelled}
use Rattle.hm_header.specs.Range.{IsSize}
use Rattle.hm_image.specs.Fresh.{fresh_entry, pool_entry}
use Rattle.hm_image.proofs.FreshSpaceLemmas.{fresh_entry_is, fresh_in_pool}
use Rattle.hm_image.proofs.OffsetLemmas.{layer2_is, pool_is}
use Rattle.hm_newfs.specs.Layers.{HasPage, HoldsLayerPage, taken_at_first}
use Rattle.hm_newfs.specs.declared.layer.Layer.{Layer}
use Rattle.hm_newfs.specs.declared.layer.Layer.TheVariants.{First, Second}

-- what stands in an entry of layer 1
layer1_is : (bigblocks i : ℕ) → IsSize bigblocks → IsLayer1 (layer1_of bigblocks i)
layer1_is bigblocks i size =
    let few : layer2_blocks bigblocks ≤ 2 = elim (layer2_is bigblocks size) [ inl one ↦ omega arith | inr two ↦ omega arith ] in
    cond_both (nat_lt i (layer2_blocks bigblocks)) _ _ IsLayer1
    (λ yes. let below = ltb-true i (layer2_blocks bigblocks) yes in
    inl (record { zone = omega arith; volume = omega arith; begin = omega arith }))
    (λ no. inr refl)

-- the entries of the first big-blocks of the pool
pool_taken : (k : ℕ) → k < 4 → taken_entry (TREE_ZONE + k) (slice_index taken_at_first k) ≡ pool_entry k
pool_taken zero few = refl
pool_taken (suc zero) few = refl
pool_taken (suc (suc zero)) few = refl
pool_taken (suc (suc (suc zero))) few = refl
pool_taken (suc (suc (suc (suc k)))) few = absurd (omega arith)

pool_unused : (k : ℕ) → 4 ≤ k → unused_entry ≡ pool_entry k
pool_unused k past =
    sym (cond-false (nat_eq k 0) _ _ (ne_eqb k 0 (λ at. omega arith))
    ∙ cond-false (nat_eq k 1) _ _ (ne_eqb k 1 (λ at. omega arith))
    ∙ cond-false (nat_eq k 2) _ _ (ne_eqb k 2 (λ at. omega arith))
    ∙ cond-false (nat_eq k 3) _ _ (ne_eqb k 3 (λ at. omega arith)))

-- both crates below say the same of a fresh entry
entries_agree : (bigblocks block : ℕ) → IsSize bigblocks → entry_made bigblocks taken_at_first block ≡ fresh_entry bigblocks block
entries_agree bigblocks block size =
    let pool = pool_is bigblocks size in
    let Same : Entry → Type 0 = λ e. e ≡ fresh_entry bigblocks block in
    cond_both (nat_eq block 0) _ _ Same
    (λ at. sym (cond-true (nat_eq block 0) _ _ at))
    (λ no. cond_both (nat_lt block (first_undo bigblocks)) _ _ Same
    (λ at. sym (cond-false (nat_eq block 0) _ _ no ∙ cond-true (nat_lt block (first_undo bigblocks)) _ _ at))
    (λ undo. cond_both (nat_lt block (first_pool bigblocks)) _ _ Same
    (λ at. sym (cond-false (nat_eq block 0) _ _ no ∙ cond-false (nat_lt block (first_undo bigblocks)) _ _ undo
    ∙ cond-true (nat_lt block (first_pool bigblocks)) _ _ at))
    (λ past. let from = ltb-false block (first_pool bigblocks) past in
    cond_both (nat_lt block (first_pool bigblocks + 4)) _ _ Same
    (λ at. let below = ltb-true block (first_pool bigblocks + 4) at in
    pool_taken (block - first_pool bigblocks) (omega arith) ∙ sym (fresh_in_pool bigblocks block size (from, omega arith)))
    (λ after. let four = ltb-false block (first_pool bigblocks + 4) after in
    cond_both (nat_lt block bigblocks) _ _ Same
    (λ at. let inside = ltb-true block bigblocks at in
    pool_unused (block - first_pool bigblocks) (omega arith) ∙ sym (fresh_in_pool bigblocks block size (from, inside)))
    (λ out. sym (cond-false (nat_eq block 0) _ _ no ∙ cond-false (nat_lt block (first_undo bigblocks)) _ _ undo
    ∙ cond-false (nat_lt block (first_pool bigblocks)) _ _ past ∙ cond-false (nat_lt block bigblocks) _ _ out))))))

-- a page that holds the fields of a page of a layer has its bytes
pub page-spelled : (bigblocks : ℕ) (layer : Layer) (number : ℕ) (page : List ℕ) → IsSize bigblocks → AreBytes page → length page ≡ 4096
    → HoldsLayerPage bigblocks layer number page → HasPage bigblocks layer number page
page-spelled bigblocks First number page size small long holds = λ i few.
    let is = layer1_is bigblocks (number * 128 + i) size in
    let held : HoldsLayer1 page (i * 32) = record { offset = subst IsLayer1 (sym (holds.offset i few)) is; zero = holds.zero i few } in
    layer1_spelled page (i * 32) small (omega arith) held ∙ ap layer1_bytes (holds.offset i few)
page-spelled bigblocks Second number page size small long holds = λ i few.
    let block = number * 256 + i in
    let value : entry_in page (i * 16) ≡ fresh_entry bigblocks block = holds.entry i few ∙ entries_agree bigblocks block size in
    let held : HoldsEntry page (i * 16) =
    record { entry = subst IsEntry (sym value) (fresh_entry_is bigblocks block size).entry; zero = holds.zero i few } in
    subst (SpellsEntry page (i * 16)) value (entry_spelled page (i * 16) small (omega arith) held)
