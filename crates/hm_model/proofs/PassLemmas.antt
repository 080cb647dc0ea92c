-- What a pass that came to its end makes of its slave.
use Rattle.std.proofs.Common.{◌≡◌, ℕ, ◌+◌, ◌<◌, ◌≤◌, true, false, List, [], ◌∷◌, ◌++◌, refl, ◌∙◌, ap, sym, inl, inr, arith}
use Rattle.std.specs.Prelude.{Bool, Option, Some, None, if◌then◌else◌}
use Rattle.std.specs.Bool.{nat_le}
use Rattle.std.specs.Option.{option_map_or}
use Rattle.std.proofs.lemmas.Bool.Decides.{nat_tests}
use Rattle.hm_retain.proofs.SetLemmas.{less_or_not}
use Rattle.hm_model.specs.declared.command.Command.{Command}
use Rattle.hm_model.specs.declared.command.Command.TheVariants.{MirrorWrite}
use Rattle.hm_model.specs.After.{Given, OpenCall, given_by, given_by_stream, given_in, nothing_given, origin_of, passed_versions, versions_between, versions_to}
use Rattle.hm_model.specs.Foreign.{ForeignMaster}
use Rattle.hm_model.specs.Laws.{AreRising, RiseFrom}
use Rattle.hm_types.specs.Tree.{FileTree, no_tree}
use Rattle.hm_model.specs.Volume.{PseudoFileSystem, Volume, as_of, at, system_of}
use Rattle.hm_model.proofs.GrowthLemmas.{at-versions, versions_in}

-- versions of two lists, one after the other
as_of-append : (t : ℕ) (tree : FileTree) (xs ys : List (ℕ × FileTree)) → as_of t tree (xs ++ ys) ≡ as_of t (as_of t tree xs) ys
as_of-append t tree [] ys = refl
as_of-append t tree (x ∷ xs) ys = as_of-append t (if nat_le x.0 t then x.1 else tree) xs ys

-- versions that begin later than an id do not show as of it
as_of-risen : (t least : ℕ) (tree : FileTree) (versions : List (ℕ × FileTree)) → RiseFrom least versions → t < least → as_of t tree versions ≡ tree
as_of-risen t least tree [] rise later = refl
as_of-risen t least tree (v ∷ vs) rise later =
    let no : nat_le v.0 t ≡ false = grind (arith, nat_tests, rise.0) in
    rw no (as_of-risen t v.0 tree vs rise.1 (omega (arith, rise.0)))

-- versions that begin after an id may be left out
pub as_of-to : (t begin : ℕ) (tree : FileTree) (versions : List (ℕ × FileTree)) → t ≤ begin → as_of t tree (versions_to begin versions) ≡ as_of t tree versions
as_of-to t begin tree [] by = refl
as_of-to t begin tree (v ∷ vs) by = elim (less_or_not begin v.0) [
  | inl later ↦
      let dropped : nat_le v.0 begin ≡ false = grind (arith, nat_tests, later) in
      let hidden : nat_le v.0 t ≡ false = grind (arith, nat_tests, later) in
      rw (dropped, hidden) (as_of-to t begin tree vs by)
  | inr from ↦
      let kept : nat_le v.0 begin ≡ true = grind (arith, nat_tests, from) in
      rw kept (as_of-to t begin (if nat_le v.0 t then v.1 else tree) vs by)
]

-- versions between two ids do not show before the first one
as_of-between : (t first last : ℕ) (tree : FileTree) (versions : List (ℕ × FileTree)) → t < first → as_of t tree (versions_between first last versions) ≡ tree
as_of-between t first last tree [] before = refl
as_of-between t first last tree (v ∷ vs) before = elim (less_or_not v.0 first) [
  | inl lower ↦
      let dropped : nat_le first v.0 ≡ false = grind (arith, nat_tests, lower) in
      rw dropped (as_of-between t first last tree vs before)
  | inr from ↦
      let above : nat_le first v.0 ≡ true = grind (arith, nat_tests, from) in
      let hidden : nat_le v.0 t ≡ false = grind (arith, nat_tests, from, before) in
      elim (less_or_not last v.0) [
        | inl later ↦
            let also : nat_le v.0 last ≡ false = grind (arith, nat_tests, later) in
            rw (above, also) (as_of-between t first last tree vs before)
        | inr kept ↦
            let within : nat_le v.0 last ≡ true = grind (arith, nat_tests, kept) in
            rw (above, within) (ap (λ (test : Bool). as_of t (if test then v.1 else tree) (versions_between first last vs)) hidden
            ∙ as_of-between t first last tree vs before)
      ]
]

-- of versions that begin after an id, those by a later one show as all do
as_of-up_to : (t first last : ℕ) (tree : FileTree) (versions : List (ℕ × FileTree)) → RiseFrom first versions → t ≤ last →
    as_of t tree (versions_between first last versions) ≡ as_of t tree versions
as_of-up_to t first last tree versions rise by = go first tree versions rise (omega arith)
  where
    go : (least : ℕ) (tree : FileTree) (versions : List (ℕ × FileTree)) → RiseFrom least versions → first ≤ least →
        as_of t tree (versions_between first last versions) ≡ as_of t tree versions
    go least tree [] rise from = refl
    go least tree (v ∷ vs) rise from = elim (less_or_not last v.0) [
      | inl later ↦
          let above : nat_le first v.0 ≡ true = grind (arith, nat_tests, rise.0) in
          let dropped : nat_le v.0 last ≡ false = grind (arith, nat_tests, later) in
          let hidden : nat_le v.0 t ≡ false = grind (arith, nat_tests, later) in
          rw (above, dropped, hidden) (go v.0 tree vs rise.1 (omega (arith, rise.0)))
      | inr kept ↦
          let above : nat_le first v.0 ≡ true = grind (arith, nat_tests, rise.0) in
          let within : nat_le v.0 last ≡ true = grind (arith, nat_tests, kept) in
          rw (above, within) (go v.0 (if nat_le v.0 t then v.1 else tree) vs rise.1 (omega (arith, rise.0)))
    ]

-- the tree as of an id and the versions that begin after it show as all versions do
as_of-from : (t begin first last least : ℕ) (tree : FileTree) (versions : List (ℕ × FileTree)) → RiseFrom least versions → first ≡ begin + 1 → begin ≤ t →
    t ≤ last → as_of t (as_of begin tree versions) (versions_between first last versions) ≡ as_of t tree versions
as_of-from t begin first last least tree [] rise next from by = refl
as_of-from t begin first last least tree (v ∷ vs) rise next from by = elim (less_or_not begin v.0) [
  | inl later ↦
      let risen : RiseFrom first (v ∷ vs) = (omega arith, rise.1) in
      ap (λ (x : FileTree). as_of t x (versions_between first last (v ∷ vs))) (as_of-risen begin first tree (v ∷ vs) risen (omega arith))
      ∙ as_of-up_to t first last tree (v ∷ vs) risen by
  | inr old ↦
      let shown : nat_le v.0 begin ≡ true = grind (arith, nat_tests, old) in
      let dropped : nat_le first v.0 ≡ false = grind (arith, nat_tests, old, next) in
      let also : nat_le v.0 t ≡ true = grind (arith, nat_tests, old) in
      rw (shown, dropped, also) (as_of-from t begin first last v.0 v.1 vs rise.1 next from by)
]

-- what is given is one list of versions
pub given-versions : (volume : Volume) (m id : ℕ) → (given_by volume m).tree id ≡ as_of id no_tree (given_by volume m).versions
given-versions volume m id = by (system_of volume m) (at-versions volume m id)
  where
    by : (found : Option PseudoFileSystem) → at volume m id ≡ as_of id no_tree (versions_in found) →
        (option_map_or (λ (s : PseudoFileSystem). record { versions = s.versions; retention = s.retention; clear = s.clear; tree = at volume m }) found
        nothing_given).tree id
        ≡ as_of id no_tree (option_map_or (λ (s : PseudoFileSystem).
        record { versions = s.versions; retention = s.retention; clear = s.clear; tree = at volume m }) found nothing_given).versions
    by None is = refl
    by (Some s) is = is

pub given_in-versions : (volume : Volume) (o : OpenCall) (id : ℕ) → (given_in volume o).tree id ≡ as_of id no_tree (given_in volume o).versions
given_in-versions volume o id =
    by (λ (g : Given). g.tree id ≡ as_of id no_tree g.versions) o.command (from_stream o.stream.master) (given-versions volume o.master id)
  where
    from_stream : (master : Option ForeignMaster) → (option_map_or (λ (m : ForeignMaster). given_by m.volume m.master) master nothing_given).tree id ≡ as_of
        id no_tree (option_map_or (λ (m : ForeignMaster). given_by m.volume m.master) master nothing_given).versions
    from_stream None = refl
    from_stream (Some f) = given-versions f.volume f.master id

    by : (P : Given → Type 0) (command : Command) → P (given_by_stream o.stream) → P (given_by volume o.master) →
        P (elim command [ MirrorWrite path ↦ given_by_stream o.stream | other ↦ given_by volume o.master ])
    by P (MirrorWrite path) write other = write
    by P command write other = other

-- a pass shows up to its begin id what the slave showed
pub passed-before : (versions : List (ℕ × FileTree)) (given : Given) (begin end id : ℕ) → id ≤ begin →
    as_of id no_tree (passed_versions versions given begin end) ≡ as_of id no_tree versions
passed-before versions given begin end id by =
    let shown : FileTree = as_of id no_tree (versions_to begin versions) in
    let hidden : nat_le (begin + 1) id ≡ false = grind (arith, nat_tests, by) in
    as_of-append id no_tree (versions_to begin versions) ((begin + 1, given.tree (begin + 1)) ∷ versions_between (begin + 2) end given.versions)
    ∙ (ap (λ (test : Bool). as_of id (if test then given.tree (begin + 1) else shown) (versions_between (begin + 2) end given.versions)) hidden
    ∙ (as_of-between id (begin + 2) end shown given.versions (omega arith)
    ∙ as_of-to id begin no_tree versions by))

-- and from then on what its master has
pub passed-after : (versions : List (ℕ × FileTree)) (given : Given) (begin end id : ℕ) → ((t : ℕ) → given.tree t ≡ as_of t no_tree given.versions) →
    AreRising given.versions → begin < id → id ≤ end → as_of id no_tree (passed_versions versions given begin end) ≡ given.tree id
passed-after versions given begin end id one rise after by =
    let before : FileTree = as_of id no_tree (versions_to begin versions) in
    let shown : nat_le (begin + 1) id ≡ true = grind (arith, nat_tests, after) in
    as_of-append id no_tree (versions_to begin versions) ((begin + 1, given.tree (begin + 1)) ∷ versions_between (begin + 2) end given.versions)
    ∙ (ap (λ (test : Bool). as_of id (if test then given.tree (begin + 1) else before) (versions_between (begin + 2) end given.versions)) shown
    ∙ (ap (λ (x : FileTree). as_of id x (versions_between (begin + 2) end given.versions)) (one (begin + 1))
    ∙ (as_of-from id (begin + 1) (begin + 2) end 0 no_tree given.versions rise (omega arith) (omega arith) by
    ∙ sym (one id))))
