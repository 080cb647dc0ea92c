-- What left the choice of a reblock over a turn of its store.
use Rattle.std.proofs.Common.{◌≡◌, ℕ, inl, inr, true, List, [], ◌∷◌, filter, refl, sym, ap, subst, pos}
use Rattle.std.specs.List.{Contains}
use Rattle.hm_fields.specs.Pages.{PageMap}
use Rattle.hm_freemap.specs.Calls.{IsLive}
use Rattle.hm_freemap.specs.Stand.{Maps}
use Rattle.hm_relocate.specs.Leaving.{HasNothingLive, LeavesChoice, MayLeaveChoice}
use Rattle.hm_stored.specs.Heap.{Heap, maps_of}
use Rattle.hm_stored.specs.Turn.{IsKeptOf, IsOpened}

module _ (h h1 h2 h' : Heap) (root last : ℕ) (opens : IsOpened root last h h1) (keeps : IsKeptOf h2 h') where
  maps_kept : maps_of h' ≡ maps_of h2
  maps_kept = by h'.pages.committed h'.pages.frozen h'.pages.current keeps.pages.flush.committed keeps.pages.flush.frozen keeps.pages.current where
    by : (c f u : PageMap) → c ≡ h2.pages.committed → f ≡ h2.pages.frozen → u ≡ h2.pages.current
        → record { committed = c; frozen = f; current = u } ≡ maps_of h2
    by c f u first second third = rw (first, second, third) refl

  bigblocks_kept : h'.bigblocks ≡ h2.bigblocks
  bigblocks_kept = ap (λ (x : Heap). x.bigblocks) keeps.rest

  append_kept : h'.append ≡ h2.append
  append_kept = ap (λ (x : Heap). x.append) keeps.rest

  append_opened : h1.append ≡ h.append
  append_opened = ap (λ (x : Heap). x.append) opens.rest

  nothing_live : (block : ℕ) → HasNothingLive h2 block → HasNothingLive h' block
  nothing_live block = subst (λ (x : ℕ × List ℕ × Maps). IsLive x.0 x.1 x.2 block (pos 0))
      (λ i. (sym bigblocks_kept i, sym append_kept i, sym maps_kept i))

  may_leave : (block : ℕ) → MayLeaveChoice h1 h2 block → MayLeaveChoice h h' block
  may_leave block (inl was) = inl (subst (λ (l : List ℕ). Contains l block) append_opened was)
  may_leave block (inr (inl is)) = inr (inl (subst (λ (l : List ℕ). Contains l block) (sym append_kept) is))
  may_leave block (inr (inr none)) = inr (inr (nothing_live block none))

  pub left_kept : (was now : List ℕ) → LeavesChoice h1 h2 was now → LeavesChoice h h' was now
  left_kept was now left = record { stays = left.stays; left = left.left; may = λ block has gone. may_leave block (left.may block has gone) }

-- nothing may have left it
pub none_left : (h h' : Heap) (choice : List ℕ) → LeavesChoice h h' choice choice
none_left h h' choice = record { stays = λ block. true; left = all choice; may = λ block has gone. absurd (cc) } where
  all : (blocks : List ℕ) → blocks ≡ filter (λ block. true) blocks
  all [] = refl
  all (block ∷ blocks) = ap (λ (bs : List ℕ). block ∷ bs) (all blocks)
