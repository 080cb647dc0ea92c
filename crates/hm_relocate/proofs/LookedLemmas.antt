-- A look at a store leaves what that tells.
use Rattle.std.proofs.Common.{◌≡◌, ℕ, Bool, true, false, List, Option, None, Some, refl, sym, ap, subst, ◌∙◌, is_some, true≢false, ◌&&◌}
use Rattle.std.proofs.Math.Logic.{∥∥₁_elim}
use Rattle.std.specs.Prelude.{IfSome, if◌then◌else◌, option_map, pos}
use Rattle.hm_types.specs.Faults.{IsUndamaged}
use Rattle.hm_types.specs.Layout.{IsPool}
use Rattle.hm_types.specs.References.{Reference}
use Rattle.hm_types.specs.declared.fault.Fault.{Fault}
use Rattle.hm_types.specs.declared.fault.Fault.TheVariants.{Damaged, Media, NoMemory}
use Rattle.hm_fields.specs.Pages.{PageMap}
use Rattle.hm_freemap.specs.Calls.{IsLive}
use Rattle.hm_freemap.specs.Faults.{IsFreemapDamage}
use Rattle.hm_freemap.specs.Stand.{Maps}
use Rattle.hm_freemap.proofs.GoodLemmas.{good_block}
use Rattle.hm_pages.specs.Store.{Frame as PagesFrame}
use Rattle.hm_btree.specs.Tree.{told_elements}
use Rattle.hm_stored.specs.Basis.{nodes}
use Rattle.hm_stored.specs.Heap.{Heap, basis_with, begun_content, content_with, does_tell, extents_in, fixed_of, frame_of, free_of, maps_of, room_of}
use Rattle.hm_stored.specs.Held.{HeldBy, IsKept}
use Rattle.hm_stored.specs.Told.{elements_told, mark_told}
use Rattle.hm_stored.specs.Turn.{LooksSame}
use Rattle.hm_relocate.specs.Chosen.{TellsChosen}
use Rattle.hm_relocate.specs.Leaving.{HasNothingLive}
use Rattle.hm_relocate.specs.Unit.{LooksThrough}

-- two looks are one
pub looked_both : (a b c : Heap) → LooksSame a b → LooksSame b c → LooksSame a c
looked_both a b c first second = record {
  pages = second.pages ∙ first.pages;
  current = second.current ∙ first.current;
  rest = second.rest ∙ ap (λ (h : Heap). record h { pages = c.pages }) first.rest;
}

-- or none was made
pub looked_none : (a : Heap) → LooksSame a a
looked_none a = record { pages = refl; current = refl; rest = refl }

module _ (old new : Heap) (looks : LooksSame old new) where
  pub looked_bigblocks : new.bigblocks ≡ old.bigblocks
  looked_bigblocks = ap (λ (h : Heap). h.bigblocks) looks.rest

  pub looked_append : new.append ≡ old.append
  looked_append = ap (λ (h : Heap). h.append) looks.rest

  pub looked_maps : maps_of new ≡ maps_of old
  looked_maps = λ i. record {
    committed = ap (λ (f : PagesFrame). f.committed) looks.pages i;
    frozen = ap (λ (f : PagesFrame). f.frozen) looks.pages i;
    current = looks.current i;
  }

  -- what is live is the same
  pub looked_live : (block : ℕ) → HasNothingLive old block → HasNothingLive new block
  looked_live block =
      subst (λ (x : ℕ × List ℕ × Maps). IsLive x.0 x.1 x.2 block (pos 0)) (λ i. (sym looked_bigblocks i, sym looked_append i, sym looked_maps i))

  -- what it tells of any parts of its pages is the same
  parts : {A : Type 0} (f : Heap → A)
      → ((c z u : PageMap) (b : Option PageMap) → f (record old { pages = record new.pages { committed = c; frozen = z; current = u; begin = b } })
      ≡ f (record old { pages = record old.pages { committed = c; frozen = z; current = u; begin = b } }))
      → f new ≡ f old
  parts f same =
      ap f looks.rest
      ∙ (same new.pages.committed new.pages.frozen new.pages.current new.pages.begin
      ∙ (λ i. f (record old {
        pages = record old.pages {
          committed = ap (λ (f : PagesFrame). f.committed) looks.pages i;
          frozen = ap (λ (f : PagesFrame). f.frozen) looks.pages i;
          current = looks.current i;
          begin = ap (λ (f : PagesFrame). f.begin) looks.pages i;
        };
      })))

  pub looked_through : (root root' : ℕ) → root' ≡ root → LooksThrough old new root root'
  looked_through root root' same = record {
    elements = parts (λ h. elements_told h root') (λ c z u b. refl) ∙ ap (elements_told old) same;
    mark = parts (λ h. mark_told h root') (λ c z u b. refl) ∙ ap (mark_told old) same;
    extents = parts extents_in (λ c z u b. refl);
    room = parts room_of (λ c z u b. refl);
    free = parts free_of (λ c z u b. refl);
  }

  pub looked_frame : frame_of new ≡ frame_of old
  looked_frame =
      ap frame_of looks.rest
      ∙ (λ i. record {
        pages = looks.pages i;
        bigblocks = old.bigblocks;
        begun = old.begun;
        roots = old.roots;
        last = old.last;
        size = (frame_of old).size;
        moment = (frame_of old).moment;
        content = content i;
        fixed = fixed i;
      }) where
        content : begun_content (record old { pages = new.pages }) ≡ begun_content old
        content = ap begun_content (sym looks.rest) ∙ parts begun_content (λ c z u b. refl)

        fixed : fixed_of (record old { pages = new.pages }) ≡ fixed_of old
        fixed = ap fixed_of (sym looks.rest) ∙ parts fixed_of (λ c z u b. refl)

  -- what is told of the choice of a big-block after a look is told of it before
  pub looked_tells : (fill block : ℕ) (chosen : Bool) → TellsChosen fill new.bigblocks new.append (maps_of new) block chosen
      → TellsChosen fill old.bigblocks old.append (maps_of old) block chosen
  looked_tells fill block chosen =
      subst (λ (x : ℕ × List ℕ × Maps). TellsChosen fill x.0 x.1 x.2 block chosen) (λ i. (looked_bigblocks i, looked_append i, looked_maps i))

  -- damage of a big-block of the pool, as it is told after a look, is damage of the pool before it
  pub looked_damage : (block : ℕ) (fault : Fault) → IsPool old.bigblocks block
      → IsFreemapDamage new.bigblocks new.append (λ one. one ≡ block) (maps_of new) fault
      → IsFreemapDamage old.bigblocks old.append (IsPool old.bigblocks) (maps_of old) fault
  looked_damage block fault pool damage =
      by_fault fault
      (subst (λ (x : ℕ × List ℕ × Maps). IsFreemapDamage x.0 x.1 (λ one. one ≡ block) x.2 fault)
      (λ i. (looked_bigblocks i, looked_append i, looked_maps i)) damage) where
        by_fault : (fault : Fault) → IsFreemapDamage old.bigblocks old.append (λ one. one ≡ block) (maps_of old) fault
            → IsFreemapDamage old.bigblocks old.append (IsPool old.bigblocks) (maps_of old) fault
        by_fault (Media before after) is = tt
        by_fault (Damaged at kind) is = record {
          block = is.block;
          looked = subst (IsPool old.bigblocks) (sym is.looked) pool;
          place = is.place;
          number = is.number;
          bad = is.bad;
        }
        by_fault NoMemory is = tt

-- a space that tells its content has its freemap in order
module _ (h : Heap) (root block : ℕ) (pool : IsPool h.bigblocks block) where
  bad_begun : (at kind : ℕ) → IsFreemapDamage h.bigblocks h.append (λ one. one ≡ block) (maps_of h) (Damaged at kind) → does_tell h ≡ true
      → (o : Option PageMap) → h.pages.begin ≡ o → IfSome o (λ begin. (refs : List Reference) × HeldBy h (basis_with h begin) refs) → ⊥
  bad_begun at kind bad told None none is =
      let silent = ap (λ (o : Option PageMap). h.whole && is_some (content_with h.last (option_map (basis_with h) o) h.disk)) none in
      absurd (true≢false (sym told ∙ silent ∙ by_whole h.whole)) where
        by_whole : (t : Bool) → (t && false) ≡ false
        by_whole true = refl
        by_whole false = refl
  bad_begun at kind bad told (Some begin) there is =
      bad.bad (good_block h.bigblocks h.append (maps_of h) _ is.1.stand bad.block (subst (IsPool h.bigblocks) (sym bad.looked) pool))

  bad_never : (at kind : ℕ) → ∥ IsKept h ∥₁ → IsFreemapDamage h.bigblocks h.append (λ one. one ≡ block) (maps_of h) (Damaged at kind)
      → IfSome (elements_told h root) (λ _. ⊥)
  bad_never at kind kept bad = by_test (does_tell h) refl where
    by_test : (t : Bool) → does_tell h ≡ t → IfSome (told_elements true (if t then Some (nodes h.pages.current) else None) root) (λ _. ⊥)
    by_test false none = tt
    by_test true told = ∥∥₁_elim kept (λ x y. absurd x) (λ k. bad_begun at kind bad told h.pages.begin refl (k.held told))

  -- so a look at a big-block of the pool tells no damage
  pub looked_undamaged : (fault : Fault) → ∥ IsKept h ∥₁ → IsFreemapDamage h.bigblocks h.append (λ one. one ≡ block) (maps_of h) fault
      → IfSome (elements_told h root) (λ _. IsUndamaged fault)
  looked_undamaged (Media before after) kept bad = nothing (elements_told h root) where
    nothing : {A : Type 0} (o : Option A) → IfSome o (λ _. Unit {0})
    nothing None = tt
    nothing (Some x) = tt
  looked_undamaged (Damaged at kind) kept bad = bad_never at kind kept bad
  looked_undamaged NoMemory kept bad = nothing (elements_told h root) where
    nothing : {A : Type 0} (o : Option A) → IfSome o (λ _. Unit {0})
    nothing None = tt
    nothing (Some x) = tt
