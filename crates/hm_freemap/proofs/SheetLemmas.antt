-- What three pages tell of the big-blocks that have their entries on them.
use Rattle.std.proofs.Common.{◌≡◌, ℕ, ◌+◌, ◌-◌, ◌*◌, ◌/◌, ◌<◌, ◌≤◌, List, [], refl, sym, ap, subst, ◌∙◌, arith, Err}
use Rattle.std.specs.Prelude.{Option}
use Rattle.std.specs.List.{range_with_len}
use Rattle.hm_types.specs.Faults.{IsCaused}
use Rattle.hm_types.specs.Layout.{IsPool, first_pool}
use Rattle.hm_types.specs.declared.damage.TheConstants.{BAD_FREEMAP}
use Rattle.hm_types.specs.declared.fault.Fault.{Fault}
use Rattle.hm_types.specs.declared.fault.Fault.TheVariants.{Damaged}
use Rattle.hm_fields.specs.Pages.{PageMap, page_in}
use Rattle.hm_freemap.specs.Faults.{IsGoodBlock, IsFreemapDamage, HasFreemapCause}
use Rattle.hm_freemap.specs.Places.{page_of}
use Rattle.hm_freemap.specs.Scan.{AreRead, AllHold, IsAgreed}
use Rattle.hm_freemap.specs.Stand.{Maps, WhereTold, HoldsPoolEntry, entry_page, is_free_by, is_free_in}
use Rattle.hm_freemap.specs.declared.sheets.Sheets.{Sheets}
use Rattle.hm_freemap.proofs.ToldLemmas.{where_map}

-- the big-blocks from one to the end of its page have one page
pub one_page : (from block : ℕ) → from ≤ block → block < (from / 256 + 1) * 256 → page_of block ≡ page_of from
unfolding page_of
one_page from block low high =
    let same : block / 256 ≡ from / 256 = omega arith in
    rw same refl

module _ (maps : Maps) (from block : ℕ) (sheets : Sheets) (read : AreRead maps from sheets) (low : from ≤ block) (high : block < (from / 256 + 1) * 256) where
  same : page_of block ≡ page_of from
  same = one_page from block low high

  in_committed : entry_page maps.committed block ≡ sheets.committed
  in_committed = ap (λ (at : ℕ). page_in (maps.committed at)) same ∙ ap page_in read.committed

  in_frozen : entry_page maps.frozen block ≡ sheets.frozen
  in_frozen = ap (λ (at : ℕ). page_in (maps.frozen at)) same ∙ ap page_in read.frozen

  in_current : entry_page maps.current block ≡ sheets.current
  in_current = ap (λ (at : ℕ). page_in (maps.current at)) same ∙ ap page_in read.current

  pub free_agreed : (append : List ℕ) → is_free_by append maps block ≡ is_free_in append sheets.committed sheets.frozen sheets.current block
  free_agreed append = rw (in_committed, in_frozen, in_current) refl

  -- a good big-block has its entries on the pages
  pub all_hold : (bigblocks : ℕ) (append : List ℕ) → IsGoodBlock bigblocks append maps block → AllHold sheets block
  all_hold bigblocks append good = record {
    committed = subst (λ (page : List ℕ). HoldsPoolEntry page block) in_committed good.committed;
    frozen = subst (λ (page : List ℕ). HoldsPoolEntry page block) in_frozen good.frozen;
    current = subst (λ (page : List ℕ). HoldsPoolEntry page block) in_current good.current;
  }

pub agreed : (maps : Maps) (append : List ℕ) (from to : ℕ) (sheets : Sheets) → AreRead maps from sheets → to ≤ (from / 256 + 1) * 256
    → IsAgreed (is_free_by append maps) append sheets from to
agreed maps append from to sheets read within block low high = free_agreed maps from block sheets read low (omega arith) append

pub range-none : (a : ℕ) → range_with_len a (a - a) ≡ []
range-none a = let none : a - a ≡ 0 = omega arith in ap (range_with_len a) none

-- damage is told of a big-block that has no entry on its pages
pub bad_block : {T : Type 0} (bigblocks : ℕ) (append : List ℕ) (c f u : Option PageMap) (from to block old new : ℕ) (sheets : Sheets) (fault : Fault)
    → fault ≡ Damaged (page_of block) BAD_FREEMAP → old ≤ new
    → WhereTold c f u (λ maps. AreRead maps from sheets) → first_pool bigblocks ≤ from → to ≤ bigblocks → to ≤ (from / 256 + 1) * 256
    → from ≤ block → block < to → (AllHold sheets block → ⊥)
    → HasFreemapCause {T = T} bigblocks append (IsPool bigblocks) c f u old new (Err fault)
bad_block bigblocks append c f u from to block old new sheets fault is grows read pool end within low high bad = record {
  counted = record { never_falls = grows; caused = subst (IsCaused old new) (sym is) tt };
  damage = where_map c f u (λ maps. AreRead maps from sheets) (λ maps. IsFreemapDamage bigblocks append (IsPool bigblocks) maps fault)
      (λ maps each. subst (IsFreemapDamage bigblocks append (IsPool bigblocks) maps) (sym is) (record {
        block = block;
        looked = (omega arith, omega arith);
        place = refl;
        number = refl;
        bad = λ good. bad (all_hold maps from block sheets each low (omega arith) bigblocks append good);
      }))
      read;
}
