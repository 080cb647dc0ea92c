-- Elements that stand for a volume show it in the trees that a call sees.
use Rattle.std.proofs.Common.{◌≡◌, ℕ, ◌≤◌, Bool, true, false, List, [], ◌∷◌, refl, sym, ap, subst, ◌∙◌, arith}
use Rattle.std.specs.Prelude.{None, Some}
use Rattle.std.specs.Bool.{nat_le}
use Rattle.std.specs.List.{All}
use Rattle.std.proofs.lemmas.Bool.Decides.{nat_tests}
use Rattle.std.proofs.lemmas.List.Elements.{All-head, All-tail}
use Rattle.hm_types.specs.Elements.{FullElement}
use Rattle.hm_types.specs.Intervals.{Keeps}
use Rattle.hm_types.specs.Tree.{FileTree, no_tree}
use Rattle.hm_model.specs.View.{AsOf, Now, Substitute, When, own_tree, view_of}
use Rattle.hm_model.specs.Volume.{Master, PseudoFileSystem, Slave, Volume, as_of, at, shown, shown_id, system_of}
use Rattle.hm_records.specs.View.{IsViewOf}
use Rattle.hm_volume.specs.Shown.{IsTreeNow, ShowsAs}
use Rattle.hm_step.specs.Seen.{AreGiven, IsGiven}
use Rattle.hm_image.specs.StandFor.{HasViews, StandFor}

-- versions that begin at 1 or later do not show at 0
none_yet : (tree : FileTree) (versions : List (ℕ × FileTree)) → All (λ v. 1 ≤ v.0) versions → as_of 0 tree versions ≡ tree
none_yet tree [] begun = refl
none_yet tree (v ∷ vs) begun =
    let first : 1 ≤ v.0 = All-head (λ (w : ℕ × FileTree). 1 ≤ w.0) v vs begun in
    let no : nat_le v.0 0 ≡ false = grind (arith, nat_tests, first) in
    rw no (none_yet tree vs (All-tail (λ (w : ℕ × FileTree). 1 ≤ w.0) v vs begun))

module _ (es : List FullElement) (volume : Volume) (substitutes : List Substitute) (stand : StandFor es volume)
    (given : AreGiven es volume substitutes) where
  module _ (pfs : ℕ) where
    -- without a PFS there are no trees
    view_none : (when : When) → system_of volume pfs ≡ None → view_of volume substitutes pfs when ≡ no_tree
    view_none Now is = rw is refl
    view_none (AsOf t) is = rw is refl

    module _ (s : PseudoFileSystem) (is : system_of volume pfs ≡ Some s) where
      -- trees that are certain are the volume's own
      view_own : (when : When) → s.clear ≡ true → view_of volume substitutes pfs when ≡ own_tree volume pfs when
      view_own when clear =
          rw (is, clear) refl

      shown_is : shown volume pfs ≡ as_of (shown_id volume.last s) no_tree s.versions
      shown_is = rw is refl

      at_is : (t : ℕ) → at volume pfs t ≡ as_of t no_tree s.versions
      at_is t = rw is refl

      -- as of when a PFS is shown, by its role
      shown_as : (t : ℕ) → shown_id volume.last s ≡ t → shown volume pfs ≡ at volume pfs t
      shown_as t at_t = shown_is ∙ (ap (λ (u : ℕ). as_of u no_tree s.versions) at_t ∙ sym (at_is t))

      by_master : s.role ≡ Master → shown_id volume.last s ≡ volume.last
      by_master role = rw role refl

      by_slave : s.role ≡ Slave → shown_id volume.last s ≡ s.sync_end
      by_slave role = rw role refl

      now_certain : s.clear ≡ true → HasViews es volume pfs s → IsTreeNow es volume.last pfs s (own_tree volume pfs Now)
      now_certain clear has = record {
        master = λ role.
            let keeps : Keeps s.retention volume.last = ((stand.ids pfs s is).master role).keeps volume.last (omega arith) (omega (arith, stand.drawn)) in
            subst (λ (tree : FileTree). IsViewOf es pfs volume.last tree) (sym (shown_as volume.last (by_master role)))
            (has.views volume.last (omega arith) keeps);
        slave = λ role synced.
            let ids = (stand.ids pfs s is).slave role in
            subst (λ (tree : FileTree). IsViewOf es pfs s.sync_end tree) (sym (shown_as s.sync_end (by_slave role)))
            (has.views s.sync_end ids.drawn (ids.keeps synced));
        unsynced = λ role none.
            shown_as 0 (by_slave role ∙ none) ∙ (at_is 0 ∙ none_yet no_tree s.versions (stand.begun pfs s is));
      }

      kept_certain : s.clear ≡ true → HasViews es volume pfs s → (t : ℕ) → Keeps s.retention t → t ≤ volume.last
          → IsViewOf es pfs t (own_tree volume pfs (AsOf t))
      kept_certain clear has t keeps drawn = has.views t drawn keeps

      -- so its trees are those that are seen
      seen : IsGiven es volume substitutes pfs s
      seen = by_clear s.clear refl where
        by_clear : (clear : Bool) → s.clear ≡ clear → IsGiven es volume substitutes pfs s
        by_clear true clear =
            let has : HasViews es volume pfs s = stand.views pfs s is clear in
            record {
              now = subst (λ (tree : FileTree). IsTreeNow es volume.last pfs s tree) (sym (view_own Now clear)) (now_certain clear has);
              kept = λ t keeps drawn.
                  subst (λ (tree : FileTree). IsViewOf es pfs t tree) (sym (view_own (AsOf t) clear)) (kept_certain clear has t keeps drawn);
            }
        by_clear false clear = given pfs s is clear

  pub shows_as : ShowsAs es volume (view_of volume substitutes)
  shows_as = record {
    ids = stand.fit;
    records = stand.records;
    own = stand.own;
    trees = record {
      now = λ pfs s is. (seen pfs s is).now;
      kept = λ pfs t s is keeps drawn. (seen pfs s is).kept t keeps drawn;
      none = λ pfs when is. view_none pfs when is;
    };
  }
