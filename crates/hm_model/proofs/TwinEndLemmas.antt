-- A slave that shows its master's trees, over the endings of calls.
use Rattle.std.proofs.Common.{◌≡◌, ◌≢◌, ℕ, ◌+◌, ◌≤◌, true, false, List, [], ◌∷◌, ◌++◌, refl, ◌∙◌, ap, subst, inl, inr, arith, eqb, sym}
use Rattle.std.specs.Prelude.{◌&&◌, Bool, Option, Some, None, find, if◌then◌else◌}
use Rattle.std.specs.List.{AllByRecursion}
use Rattle.std.specs.Option.{option_map_or}
use Rattle.hm_types.specs.declared.id.Id.{Id}
use Rattle.hm_types.specs.declared.text.Text.{Text}
use Rattle.hm_types.specs.Intervals.{Keeps}
use Rattle.hm_retain.proofs.SetLemmas.{less_or_not}
use Rattle.hm_model.specs.declared.command.Command.{Command}
use Rattle.hm_model.specs.declared.command.Command.TheVariants.{MirrorCopy, MirrorWrite, PfsUpgrade}
use Rattle.hm_model.specs.declared.reply.Reply.{Reply}
use Rattle.hm_model.specs.declared.reply.Reply.TheVariants.{Finished, Passed}
use Rattle.hm_model.specs.After.{Given, OpenCall, State, after_pass, end_effect, end_id, end_of_pass, end_of_upgrade, end_of_write, given_by}
use Rattle.hm_model.specs.After.{given_in, nothing_merged, of_pfs, upgraded, with_origin, end_effect_of}
use Rattle.hm_model.specs.Cut.{join, within}
use Rattle.hm_model.specs.Laws.{AreRising, is_rewriter, merges, rewrites}
use Rattle.hm_model.specs.Legal.{begin_of}
use Rattle.hm_types.specs.Tree.{no_tree}
use Rattle.hm_model.specs.Volume.{Origin, Nowhere, Local, Foreign, Mixed, PseudoFileSystem, Slave, Volume, as_of, system_of}
use Rattle.hm_model.proofs.EffectLemmas.{apart}
use Rattle.hm_model.proofs.GrowthLemmas.{KeepsNumber, at-versions, found-changed, found-other, same_or_not, versions_in}
use Rattle.hm_model.proofs.IntervalLemmas.{Keeps-append, Keeps-maximal, Keeps-within}
use Rattle.hm_model.proofs.PassEndLemmas.{given_copy, tree_given, versions_given}
use Rattle.hm_model.proofs.PassLemmas.{given_in-versions, passed-after, passed-before}
use Rattle.hm_model.proofs.SourceLemmas.{FedAs, Follows, HaveSame, IsOutside, IsSource, follows_with}
use Rattle.hm_model.proofs.TwinLemmas.{FedBy, Twin, origin_found}

-- what all open calls have, the one that is found has
pub found_holds : (P : OpenCall → Type 0) (test : OpenCall → Bool) (os : List OpenCall) (o : OpenCall) → find test os ≡ Some o → AllByRecursion P os → P o
found_holds P test [] o found all = absurd (cc)
found_holds P test (x ∷ xs) o found all = by (test x) refl (found_holds P test xs o)
  where
    by : (here : Bool) → test x ≡ here → (find test xs ≡ Some o → AllByRecursion P xs → P o) → P o
    by true is rest = let same : Some x ≡ Some o = rw is at found in let one : x ≡ o = cc in rw (← one) all.0
    by false is rest = rest (rw is at found) all.1

-- a slave and its master after an ending
pub record Ended (last : ℕ) (volume : Volume) (slave m : ℕ) (other : PseudoFileSystem) : Type 0 where
  pub own : PseudoFileSystem
  pub found : system_of volume slave ≡ Some own
  pub found_other : system_of volume m ≡ Some other
  pub drawn : own.sync_end ≤ last
  pub follows : own.role ≡ Slave → Follows m own other own.origin

-- by its kind, what an ending does
pub end_by : (P : Volume → Type 0) (volume : Volume) (reply : Reply) (o : OpenCall) (command : Command) → o.command ≡ command → P volume →
    ((from into : Text) (limit : Option ℕ) → o.command ≡ MirrorCopy from into limit → P (end_of_pass volume o reply)) →
    ((into : Text) → o.command ≡ MirrorWrite into → P (end_of_write volume o reply)) →
    ((path : Text) → o.command ≡ PfsUpgrade path → P (end_of_upgrade volume o reply)) →
    P (end_effect_of volume reply o command)
end_by P volume reply o (MirrorCopy from into limit) is same copy write upgrade = copy from into limit is
end_by P volume reply o (MirrorWrite into) is same copy write upgrade = write into is
end_by P volume reply o (PfsUpgrade path) is same copy write upgrade = upgrade path is
end_by P volume reply o command is same copy write upgrade = same

-- by its reply, what the end of a pass does
pub pass_by : (P : Volume → Type 0) (volume : Volume) (o : OpenCall) (reply : Reply) → P volume →
    ((begin end : Id) → reply ≡ Passed begin end → P (of_pfs volume o.pfs (after_pass (given_in volume o) begin.0 end.0))) → P (end_of_pass volume o reply)
pass_by P volume o (Passed begin end) same passed = passed begin end refl
pass_by P volume o reply same passed = same

pub upgrade_by : (P : Volume → Type 0) (volume : Volume) (o : OpenCall) (reply : Reply) → P volume → P (of_pfs volume o.pfs upgraded) →
    P (end_of_upgrade volume o reply)
upgrade_by P volume o Finished same finished = finished
upgrade_by P volume o reply same finished = same

-- a join keeps up to the begin id what the retention keeps
join_before : (retention other : List (ℕ × ℕ)) (begin end id : ℕ) → id ≤ begin → Keeps (join retention other begin end) id → Keeps retention id
join_before retention other begin end id by kept =
    elim ((Keeps-append (within (begin + 1) end other) retention id).0 ((Keeps-maximal (within (begin + 1) end other ++ retention) id).0 kept)) [
      | inl new ↦ let both = (Keeps-within (begin + 1) end other id).0 new in absurd (omega (arith, both.1, by))
      | inr old ↦ old
    ]

-- a slave that a copy fed shows its master's trees up to the end id
same_passed : (volume : Volume) (o : OpenCall) (begin end : ℕ) (m : ℕ) (s t : PseudoFileSystem) → given_in volume o ≡ given_by volume m →
    system_of volume m ≡ Some t → AreRising t.versions → begin ≡ s.sync_end → HaveSame s t → HaveSame (after_pass (given_in volume o) begin end s) t
same_passed volume o begin end m s t given found rising from same id by kept also = elim (less_or_not begin id) [
  | inl after ↦
      let rise : AreRising (given_in volume o).versions = rw (given, versions_given volume m, found) rising in
      passed-after s.versions (given_in volume o) begin end id (λ x. given_in-versions volume o x) rise after by
      ∙ (ap (λ (g : Given). g.tree id) given
      ∙ (tree_given volume m id ∙ (at-versions volume m id ∙ ap (λ (x : Option PseudoFileSystem). as_of id no_tree (versions_in x)) found)))
  | inr before ↦
      passed-before s.versions (given_in volume o) begin end id before
      ∙ same id (omega (arith, before, from)) (join_before s.retention (given_in volume o).retention begin end id before kept) also
]

-- the same, whatever the source, if it is not missing
follows_passed : (volume : Volume) (o : OpenCall) (begin end : ℕ) (m : ℕ) (s t : PseudoFileSystem) (origin : Origin) → s.origin ≡ origin →
    (origin ≡ Nowhere → ⊥) → ((n : ℕ) → origin ≡ Local n → given_in volume o ≡ given_by volume n) → system_of volume m ≡ Some t → AreRising t.versions →
    begin ≡ s.sync_end → Follows m s t origin → Follows m (after_pass (given_in volume o) begin end s) t origin
follows_passed volume o begin end m s t Nowhere is some given found rising from follows = absurd (some refl)
follows_passed volume o begin end m s t (Local n) is some given found rising from follows =
    λ same. same_passed volume o begin end m s t (given n refl ∙ ap (given_by volume) same) found rising from (follows same)
follows_passed volume o begin end m s t (Foreign k) is some given found rising from follows = tt
follows_passed volume o begin end m s t Mixed is some given found rising from follows = tt

-- a change of the PFS that an open call works on
ended_changed : (last now : ℕ) (volume : Volume) (opened : List OpenCall) (slave m pfs : ℕ) (f : PseudoFileSystem → PseudoFileSystem)
    (twin : Twin last volume opened slave m) → last ≤ now → KeepsNumber f → pfs ≢ m →
    (pfs ≡ slave → ((f twin.own).sync_end ≤ now) × ((f twin.own).role ≡ Slave → Follows m (f twin.own) twin.other (f twin.own).origin)) →
    Ended now (of_pfs volume pfs f) slave m twin.other
ended_changed last now volume opened slave m pfs f twin later keeps differ gives = elim (same_or_not pfs slave) [
  | inl same ↦ record {
    own = f twin.own;
    found = rw same (found-changed slave f volume.systems keeps ∙ ap
        (λ (x : Option PseudoFileSystem). option_map_or (λ (y : PseudoFileSystem). Some (f y)) x None) twin.found);
    found_other = found-other m pfs f volume.systems keeps differ ∙ twin.found_other;
    drawn = (gives same).0;
    follows = (gives same).1;
  }
  | inr apart_from ↦ record {
    own = twin.own;
    found = found-other slave pfs f volume.systems keeps apart_from ∙ twin.found;
    found_other = found-other m pfs f volume.systems keeps differ ∙ twin.found_other;
    drawn = omega (arith, twin.drawn, later);
    follows = twin.follows;
  }
]

-- the end of one open call
module _ (now : ℕ) (state : State) (reply : Reply) (o : OpenCall) (slave m : ℕ) (twin : Twin state.volume.last state.volume state.opened slave m)
    (later : state.volume.last ≤ now) (ending : end_id reply ≤ now) (fed : FedBy slave m twin.own twin.other o) (unfed : is_rewriter m o ≡ false)
    (begins : (begin end : Id) → reply ≡ Passed begin end → merges o.command ≡ true → begin.0 ≡ begin_of state.volume o) where
  unchanged : Ended now state.volume slave m twin.other
  unchanged = record { own = twin.own; found = twin.found; found_other = twin.found_other; drawn = omega (arith, twin.drawn, later); follows = twin.follows }

  by_end : (begin end : Id) → reply ≡ Passed begin end → end.0 ≤ now
  by_end begin end is = let told : end_id reply ≡ end.0 = ap end_id is in omega (arith, told, ending)

  begun_copy : (from into : Text) (limit : Option ℕ) → o.command ≡ MirrorCopy from into limit → system_of state.volume o.pfs ≡ Some twin.own →
      begin_of state.volume o ≡ twin.own.sync_end
  begun_copy from into limit is found = rw (is, found) refl

  begun_write : (into : Text) → o.command ≡ MirrorWrite into → system_of state.volume o.pfs ≡ Some twin.own → begin_of state.volume o ≡ twin.own.sync_end
  begun_write into is found = rw (is, found) refl

  end_copy : (from into : Text) (limit : Option ℕ) → o.command ≡ MirrorCopy from into limit → Ended now (end_of_pass state.volume o reply) slave m twin.other
  end_copy from into limit is =
      pass_by (λ (v : Volume). Ended now v slave m twin.other) state.volume o reply unchanged (λ begin end told.
      ended_changed state.volume.last now state.volume state.opened slave m o.pfs (after_pass (given_in state.volume o) begin.0 end.0) twin later (λ s. refl)
      (apart o.pfs m (subst (λ (c : Command). (eqb o.pfs m && rewrites c) ≡ false) is unfed))
      (λ same.
      let found : system_of state.volume o.pfs ≡ Some twin.own = rw same twin.found in
      let source : IsSource o.master twin.own.origin = subst (λ (c : Command). FedAs o.master m twin.own twin.other o.origin c) is (fed same) in
      let first : begin.0 ≡ twin.own.sync_end = begins begin end told (ap merges is) ∙ begun_copy from into limit is found in (
        by_end begin end told,
        λ role. follows_passed state.volume o begin.0 end.0 m twin.own twin.other twin.own.origin refl (λ none. subst (IsSource o.master) none source)
            (λ n local. given_copy state.volume o from into limit is ∙ ap (given_by state.volume) (sym (subst (IsSource o.master) local source)))
            twin.found_other twin.rising first (twin.follows role),
      )))

  end_write : (into : Text) → o.command ≡ MirrorWrite into → Ended now (end_of_write state.volume o reply) slave m twin.other
  end_write into is = by (nothing_merged reply)
    where
      not_master : o.pfs ≢ m
      not_master = apart o.pfs m (subst (λ (c : Command). (eqb o.pfs m && rewrites c) ≡ false) is unfed)

      as_fed : o.pfs ≡ slave → (twin.own.role ≡ Slave → Follows m twin.own twin.other o.origin) × IsOutside twin.own.origin
      as_fed same = subst (λ (c : Command). FedAs o.master m twin.own twin.other o.origin c) is (fed same)

      by : (test : Bool) → Ended now (if test then of_pfs state.volume o.pfs (with_origin o.origin) else end_of_pass state.volume o reply) slave m twin.other
      by true =
          ended_changed state.volume.last now state.volume state.opened slave m o.pfs (with_origin o.origin) twin later (λ s. refl) not_master
          (λ same. (omega (arith, twin.drawn, later), λ role. follows_with m twin.own twin.other o.origin o.origin ((as_fed same).0 role)))
      by false =
          pass_by (λ (v : Volume). Ended now v slave m twin.other) state.volume o reply unchanged (λ begin end told.
          ended_changed state.volume.last now state.volume state.opened slave m o.pfs (after_pass (given_in state.volume o) begin.0 end.0) twin later
          (λ s. refl) not_master
          (λ same.
          let found : system_of state.volume o.pfs ≡ Some twin.own = rw same twin.found in
          let outside : IsOutside twin.own.origin = (as_fed same).1 in
          let first : begin.0 ≡ twin.own.sync_end = begins begin end told (ap merges is) ∙ begun_write into is found in (
            by_end begin end told,
            λ role. follows_passed state.volume o begin.0 end.0 m twin.own twin.other twin.own.origin refl (λ none. subst IsOutside none outside)
                (λ n local. absurd (subst IsOutside local outside))
                twin.found_other twin.rising first (twin.follows role),
          )))

  end_upgrade : (path : Text) → o.command ≡ PfsUpgrade path → Ended now (end_of_upgrade state.volume o reply) slave m twin.other
  end_upgrade path is =
      upgrade_by (λ (v : Volume). Ended now v slave m twin.other) state.volume o reply unchanged
      (ended_changed state.volume.last now state.volume state.opened slave m o.pfs upgraded twin later (λ s. refl)
      (apart o.pfs m (subst (λ (c : Command). (eqb o.pfs m && rewrites c) ≡ false) is unfed))
      (λ same. (omega arith, λ role. absurd (cc))))

  pub end_call : Ended now (end_effect state.volume reply o) slave m twin.other
  end_call = end_by (λ (v : Volume). Ended now v slave m twin.other) state.volume reply o o.command refl unchanged end_copy end_write end_upgrade
