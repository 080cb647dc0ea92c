-- A freemap still stands for its states after the entry of one big-block and the current state changed together.
use Rattle.std.proofs.Common.{◌≡◌, ◌≢◌, ℕ, ◌+◌, ◌-◌, ◌≤◌, ⊎_elim, List, ◌++◌, slice_index, refl, sym, ap, subst, ◌∙◌, arith, cond, pos, ◌+ℤ◌}
use Rattle.std.specs.Prelude.{All}
use Rattle.std.proofs.lemmas.Bool.{cases_eq}
use Rattle.std.proofs.lemmas.List.Elements.{All-weaker}
use Rattle.hm_types.specs.References.{Reference, References, IsPlaced, NoneOverlap, AreFew, live_bytes}
use Rattle.hm_types.specs.declared.limits.TheConstants.{BIGBLOCK_BYTES}
use Rattle.hm_fields.specs.Fields.{get}
use Rattle.hm_fields.specs.Pages.{PageMap}
use Rattle.hm_freemap.specs.Entry.{IsPoolEntry}
use Rattle.hm_freemap.specs.Extents.{with_current}
use Rattle.hm_freemap.specs.Places.{place_of}
use Rattle.hm_freemap.specs.Stand.{Maps, StandBy, Tells, HoldsPoolEntry, IsBelow, AreAppended, EntryChanged, EntryPut, all_of, home_of, entry_of}
use Rattle.hm_freemap.specs.Stand.{entry_page, room_in, is_handed_out, append_of}
use Rattle.hm_freemap.specs.declared.entry.Entry.{Entry}

-- what was put in place of an entry that was read
pub changed_at : (next : Entry → Entry) (block other : ℕ) (entry : Entry) (was now : PageMap) → block ≡ other → entry ≡ entry_of was block
    → EntryPut block (next entry) was now → EntryChanged other next was now
changed_at next block other entry was now at read put =
    subst (λ (b : ℕ). EntryChanged b next was now) at (subst (λ (e : Entry). EntryPut block (next e) was now) read put)

module _ (block : ℕ) (next : Entry) (was now : PageMap) (put : EntryPut block next was now) where
  -- a fact of the entry of each big-block, where the changed one keeps it
  pub each_entry : (P : ℕ → Entry → Type 0) → P block next → (b : ℕ) → (b ≢ block → P b (entry_of was b)) → P b (entry_of now b)
  each_entry P here b there = ⊎_elim
      (λ (same : b ≡ block). subst (λ (x : ℕ). P x (entry_of now x)) (sym same) (subst (P block) (sym put.put) here))
      (λ other. subst (P b) (sym (put.others b other)) (there other))
      (cases_eq b block)

  pub zone_kept : next.zone ≡ (entry_of was block).zone → (b : ℕ) → (entry_of now b).zone ≡ (entry_of was b).zone
  zone_kept same b = each_entry (λ x e. e.zone ≡ (entry_of was x).zone) same b (λ other. refl)

  pub append_kept : next.append_off ≡ (entry_of was block).append_off → (b : ℕ) → (entry_of now b).append_off ≡ (entry_of was b).append_off
  append_kept same b = each_entry (λ x e. e.append_off ≡ (entry_of was x).append_off) same b (λ other. refl)

  pub append_grows : (entry_of was block).append_off ≤ next.append_off → (b : ℕ) → (entry_of was b).append_off ≤ (entry_of now b).append_off
  append_grows up b = each_entry (λ x e. (entry_of was x).append_off ≤ e.append_off) up b (λ other. omega arith)

  pub room_kept : (append : List ℕ) → next.append_off ≡ (entry_of was block).append_off → (zone : ℕ) → room_in append now zone ≡ room_in append was zone
  room_kept append same zone =
      ap (λ (off : ℕ). cond (is_handed_out zone) (BIGBLOCK_BYTES - off) 0) (append_kept same (append_of append zone))

  pub below_kept : next.zone ≡ (entry_of was block).zone → (entry_of was block).append_off ≤ next.append_off → (r : Reference) → IsBelow was r → IsBelow now r
  below_kept same up r below = record {
    zone = zone_kept same (home_of r) ∙ below.zone;
    end = omega (arith, below.end, append_grows up (home_of r));
  }

  -- the entry of another big-block of the pool is as it was
  pub holds_kept : (b : ℕ) → b ≢ block → HoldsPoolEntry (entry_page was b) b → HoldsPoolEntry (entry_page now b) b
  holds_kept b other holds = record {
    entry = subst IsPoolEntry (sym (put.others b other)) holds.entry;
    zero = put.zeros b other ∙ holds.zero;
  }

  pub holds_here : IsPoolEntry next → (b : ℕ) → b ≡ block → HoldsPoolEntry (entry_page now b) b
  holds_here entry b same = record {
    entry = subst (λ (x : ℕ). IsPoolEntry (entry_of now x)) (sym same) (subst IsPoolEntry (sym put.put) entry);
    zero = subst (λ (x : ℕ). get (entry_page now x) (place_of x + 12) 4 ≡ 0) (sym same) put.zero;
  }

  -- the current map tells the space that another list of references leaves free
  pub tells_after : (bigblocks : ℕ) (old new : List Reference) → IsPoolEntry next → next.bytes_free +ℤ pos (live_bytes new block) ≡ pos BIGBLOCK_BYTES
      → ((b : ℕ) → b ≢ block → live_bytes new b ≡ live_bytes old b) → Tells bigblocks was old → Tells bigblocks now new
  tells_after bigblocks old new entry free others tells b pool = ⊎_elim
      (λ (same : b ≡ block). record {
        entry = holds_here entry b same;
        free = subst (λ (x : ℕ). (entry_of now x).bytes_free +ℤ pos (live_bytes new x) ≡ pos BIGBLOCK_BYTES) (sym same)
            (subst (λ (e : Entry). e.bytes_free +ℤ pos (live_bytes new block) ≡ pos BIGBLOCK_BYTES) (sym put.put) free);
      })
      (λ other. record {
        entry = holds_kept b other (tells b pool).entry;
        free = subst (λ (e : Entry). e.bytes_free +ℤ pos (live_bytes new b) ≡ pos BIGBLOCK_BYTES) (sym (put.others b other))
            (subst (λ (n : ℕ). (entry_of was b).bytes_free +ℤ pos n ≡ pos BIGBLOCK_BYTES) (sym (others b other)) (tells b pool).free);
      })
      (cases_eq b block)

  pub appended_after : (bigblocks : ℕ) (append : List ℕ) → next.zone ≡ (entry_of was block).zone → AreAppended bigblocks append was
      → AreAppended bigblocks append now
  appended_after bigblocks append same appended = record {
    four = appended.four;
    pool = appended.pool;
    zone = λ k low. zone_kept same (slice_index append k) ∙ appended.zone k low;
  }

module _ (bigblocks : ℕ) (append : List ℕ) (maps : Maps) (states : References) (stand : StandBy bigblocks append maps states)
    (block : ℕ) (next : Entry) (now : PageMap) (put : EntryPut block next maps.current now)
    (zone : next.zone ≡ (entry_of maps.current block).zone)
    (up : (entry_of maps.current block).append_off ≤ next.append_off) where
  -- all that was below is so still
  pub all_below : All (IsBelow now) (all_of states)
  all_below = All-weaker (IsBelow maps.current) (IsBelow now) (below_kept block next maps.current now put zone up) (all_of states) stand.below

  pub stand_after : (current : List Reference) → IsPoolEntry next
      → next.bytes_free +ℤ pos (live_bytes current block) ≡ pos BIGBLOCK_BYTES
      → ((b : ℕ) → b ≢ block → live_bytes current b ≡ live_bytes states.current b)
      → All (IsPlaced bigblocks) (current ++ (states.frozen ++ states.committed))
      → All (IsBelow now) (current ++ (states.frozen ++ states.committed))
      → NoneOverlap (current ++ (states.frozen ++ states.committed))
      → AreFew current
      → StandBy bigblocks append (with_current now maps) (record states { current = current })
  stand_after current entry free others placed below apart few = record {
    committed = stand.committed;
    frozen = stand.frozen;
    current = tells_after block next maps.current now put bigblocks states.current current entry free others stand.current;
    appended = appended_after block next maps.current now put bigblocks append zone stand.appended;
    placed = placed;
    below = below;
    apart = apart;
    few = (stand.few.0, stand.few.1, few);
  }
