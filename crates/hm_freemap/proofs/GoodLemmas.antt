-- Where the freemap stands, each big-block of the pool is good, so that no room is refused for damage.
use Rattle.std.proofs.Common.{◌≡◌, ℕ, ◌+◌, inl, inr, List, ap, arith, subst}
use Rattle.hm_types.specs.Faults.{IsSpaceUndamaged, IsUndamaged}
use Rattle.hm_types.specs.Layout.{IsPool}
use Rattle.hm_types.specs.References.{References}
use Rattle.hm_types.specs.declared.fault.Fault.{Fault}
use Rattle.hm_types.specs.declared.fault.Fault.TheVariants.{Media, Damaged, NoMemory}
use Rattle.hm_types.specs.declared.fault.SpaceFault.{SpaceFault}
use Rattle.hm_types.specs.declared.fault.SpaceFault.TheVariants.{NoSpace, Fault as of_store}
use Rattle.hm_types.specs.declared.zone.TheConstants.{TREE_ZONE}
use Rattle.hm_freemap.specs.Admit.{IsLookedAt, IsSpaceDamage}
use Rattle.hm_freemap.specs.Faults.{IsFreemapDamage, IsGoodBlock}
use Rattle.hm_freemap.specs.Stand.{Maps, StandBy, AreDistinct, entry_of}

pub good_block : (bigblocks : ℕ) (append : List ℕ) (maps : Maps) (states : References) → StandBy bigblocks append maps states → (block : ℕ)
    → IsPool bigblocks block → IsGoodBlock bigblocks append maps block
good_block bigblocks append maps states stand block is = record {
  pool = is;
  committed = (stand.committed block is).entry;
  frozen = (stand.frozen block is).entry;
  current = (stand.current block is).entry;
  zone = λ k low same. subst (λ (b : ℕ). (entry_of maps.current b).zone ≡ TREE_ZONE + k) same (stand.appended.zone k low);
}

-- no two zones append to one big-block, since each belongs to its zone
pub stand_distinct : (bigblocks : ℕ) (append : List ℕ) (maps : Maps) (states : References) → StandBy bigblocks append maps states → AreDistinct append
stand_distinct bigblocks append maps states stand j k less few same =
    let zones = ap (λ (b : ℕ). (entry_of maps.current b).zone) same in
    omega (arith, zones, stand.appended.zone j less, stand.appended.zone k few)

-- what is looked at for room is of the pool, since the append big-blocks are
looked_pool : (bigblocks : ℕ) (append : List ℕ) (maps : Maps) (states : References) → StandBy bigblocks append maps states → (block : ℕ)
    → IsLookedAt bigblocks append block → IsPool bigblocks block
looked_pool bigblocks append maps states stand block (inl pool) = pool
looked_pool bigblocks append maps states stand block (inr (k, low, same)) = subst (IsPool bigblocks) same (stand.appended.pool k low)

pub admission_undamaged : (bigblocks : ℕ) (append : List ℕ) (maps : Maps) (states : References) → StandBy bigblocks append maps states → (fault : SpaceFault)
    → IsSpaceDamage bigblocks append maps fault → IsSpaceUndamaged fault
admission_undamaged bigblocks append maps states stand (NoSpace free needed) damage = tt
admission_undamaged bigblocks append maps states stand (of_store fault) damage = here fault damage where
  here : (one : Fault) → IsFreemapDamage bigblocks append (IsLookedAt bigblocks append) maps one → IsUndamaged one
  here (Media before after) damage = tt
  here (Damaged at kind) damage =
      damage.bad (good_block bigblocks append maps states stand damage.block (looked_pool bigblocks append maps states stand damage.block damage.looked))
  here NoMemory damage = tt
