-- The versions of a PFS go on by new ones alone.
use Rattle.std.proofs.Common.{◌≡◌, ◌≢◌, ℕ, ◌<◌, true, false, List, [], ◌∷◌, ◌++◌, map, refl, ◌∙◌, ap, sym, inl, inr, arith, eqb}
use Rattle.std.proofs.lemmas.List.{append-nil}
use Rattle.std.specs.Prelude.{◌⊎◌, Bool, Option, Some, None, find, if◌then◌else◌}
use Rattle.std.specs.Bool.{nat_le}
use Rattle.std.specs.List.{AllByRecursion}
use Rattle.std.specs.Option.{option_map_or}
use Rattle.std.proofs.lemmas.Bool.Decides.{nat_tests}
use Rattle.hm_model.specs.Laws.{versions_of}
use Rattle.hm_types.specs.Tree.{FileTree, no_tree}
use Rattle.hm_model.specs.Volume.{PseudoFileSystem, Volume, as_of, at, system_of}

-- the first PFS with a number among some, and its versions
abbrev pub found_in : List PseudoFileSystem → ℕ → Option PseudoFileSystem
found_in systems pfs = find (λ (s : PseudoFileSystem). eqb s.number pfs) systems

abbrev pub versions_in : Option PseudoFileSystem → List (ℕ × FileTree)
versions_in found = option_map_or (λ (s : PseudoFileSystem). s.versions) found []

-- a list of versions goes on by some that begin at an id
pub record Grows (id : ℕ) (old new : List (ℕ × FileTree)) : Type 0 where
  pub more : List (ℕ × FileTree)
  pub grown : new ≡ old ++ more
  pub begin : AllByRecursion (λ (v : ℕ × FileTree). v.0 ≡ id) more

pub Grows-same : (id : ℕ) (versions : List (ℕ × FileTree)) → Grows id versions versions
Grows-same id versions = record { more = []; grown = sym (append-nil versions); begin = tt }

-- the tree as of an id is that of the versions
pub at-versions : (volume : Volume) (pfs id : ℕ) → at volume pfs id ≡ as_of id no_tree (versions_of volume pfs)
at-versions volume pfs id = by (system_of volume pfs)
  where
    by : (found : Option PseudoFileSystem) → option_map_or (λ (s : PseudoFileSystem). as_of id no_tree s.versions) found no_tree ≡ as_of id no_tree
        (versions_in found)
    by None = refl
    by (Some s) = refl

-- versions that begin later do not show
as_of-after : (t id : ℕ) (tree : FileTree) (more : List (ℕ × FileTree)) → t < id → AllByRecursion (λ (v : ℕ × FileTree). v.0 ≡ id) more →
    as_of t tree more ≡ tree
as_of-after t id tree [] before all = refl
as_of-after t id tree (v ∷ vs) before all =
    let no : nat_le v.0 t ≡ false = grind (arith, nat_tests, all.0) in
    rw no (as_of-after t id tree vs before all.1)

pub as_of-grown : (t id : ℕ) (tree : FileTree) (old more : List (ℕ × FileTree)) → t < id → AllByRecursion (λ (v : ℕ × FileTree). v.0 ≡ id) more →
    as_of t tree (old ++ more) ≡ as_of t tree old
as_of-grown t id tree [] more before all = as_of-after t id tree more before all
as_of-grown t id tree (v ∷ vs) more before all = as_of-grown t id (if nat_le v.0 t then v.1 else tree) vs more before all

-- so the trees as of lower ids stay
pub at-grown : (old new : Volume) (pfs t id : ℕ) → t < id → Grows id (versions_of old pfs) (versions_of new pfs) → at new pfs t ≡ at old pfs t
at-grown old new pfs t id before grows =
    at-versions new pfs t
    ∙ (ap (as_of t no_tree) grows.grown
    ∙ (as_of-grown t id no_tree (versions_of old pfs) grows.more before grows.begin
    ∙ sym (at-versions old pfs t)))

-- a change of PFS that keeps their numbers
abbrev pub KeepsNumber : (PseudoFileSystem → PseudoFileSystem) → Type 0
KeepsNumber f = (s : PseudoFileSystem) → (f s).number ≡ s.number

-- the PFS after a change of those with one number
abbrev pub changed_in : ℕ → (PseudoFileSystem → PseudoFileSystem) → List PseudoFileSystem → List PseudoFileSystem
changed_in pfs f systems = map (λ (s : PseudoFileSystem). if eqb s.number pfs then f s else s) systems

-- a change of other PFS
pub found-other : (pfs other : ℕ) (f : PseudoFileSystem → PseudoFileSystem) (systems : List PseudoFileSystem) → KeepsNumber f → other ≢ pfs →
    found_in (changed_in other f systems) pfs ≡ found_in systems pfs
found-other pfs other f [] keeps differ = refl
found-other pfs other f (s ∷ ss) keeps differ = by (eqb s.number other) refl (found-other pfs other f ss keeps differ)
  where
    by : (test : Bool) → eqb s.number other ≡ test → found_in (changed_in other f ss) pfs ≡ found_in ss pfs →
        found_in (changed_in other f (s ∷ ss)) pfs ≡ found_in (s ∷ ss) pfs
    by true is rest =
        let no : eqb s.number pfs ≡ false = grind (arith, nat_tests, is, differ) in
        rw (is, keeps s, no) rest
    by false is rest = rw (is, rest) refl

-- a change of this PFS
pub found-changed : (pfs : ℕ) (f : PseudoFileSystem → PseudoFileSystem) (systems : List PseudoFileSystem) → KeepsNumber f →
    found_in (changed_in pfs f systems) pfs ≡ option_map_or (λ (s : PseudoFileSystem). Some (f s)) (found_in systems pfs) None
found-changed pfs f [] keeps = refl
found-changed pfs f (s ∷ ss) keeps = by (eqb s.number pfs) refl (found-changed pfs f ss keeps)
  where
    by : (test : Bool) → eqb s.number pfs ≡ test → found_in (changed_in pfs f ss) pfs ≡ option_map_or (λ (u : PseudoFileSystem). Some (f u))
        (found_in ss pfs) None → found_in (changed_in pfs f (s ∷ ss)) pfs ≡ option_map_or (λ (u : PseudoFileSystem). Some (f u)) (found_in (s ∷ ss) pfs) None
    by true is rest = rw (is, keeps s, is) refl
    by false is rest = rw (is, is) rest

-- of two numbers, they are one or differ
pub same_or_not : (a b : ℕ) → (a ≡ b) ⊎ (a ≢ b)
same_or_not a b = by (eqb a b) refl
  where
    by : (test : Bool) → eqb a b ≡ test → (a ≡ b) ⊎ (a ≢ b)
    by true is = inl (grind (arith, nat_tests, is))
    by false is = inr (grind (arith, nat_tests, is))

-- a change that lets versions grow
pub Grows-changed : (id pfs other : ℕ) (f : PseudoFileSystem → PseudoFileSystem) (systems : List PseudoFileSystem) → KeepsNumber f →
    ((s : PseudoFileSystem) → Grows id s.versions (f s).versions) →
    Grows id (versions_in (found_in systems pfs)) (versions_in (found_in (changed_in other f systems) pfs))
Grows-changed id pfs other f systems keeps grows = elim (same_or_not other pfs) [
  | inl same ↦ rw (same, found-changed pfs f systems keeps) (by (found_in systems pfs))
  | inr differ ↦ rw (found-other pfs other f systems keeps differ) (Grows-same id (versions_in (found_in systems pfs)))
]
  where
    by : (found : Option PseudoFileSystem) → Grows id (versions_in found) (versions_in (option_map_or (λ (s : PseudoFileSystem). Some (f s)) found None))
    by None = Grows-same id []
    by (Some s) = grows s

-- one more PFS is found only where none was
pub found-pushed : (systems : List PseudoFileSystem) (new : PseudoFileSystem) (pfs : ℕ) →
    found_in (systems ++ new ∷ []) pfs ≡ option_map_or (λ (s : PseudoFileSystem). Some s) (found_in systems pfs) (found_in (new ∷ []) pfs)
found-pushed [] new pfs = refl
found-pushed (s ∷ ss) new pfs = by (eqb s.number pfs) (found-pushed ss new pfs)
  where
    by : (test : Bool) → found_in (ss ++ new ∷ []) pfs ≡ option_map_or (λ (u : PseudoFileSystem). Some u) (found_in ss pfs) (found_in (new ∷ []) pfs) →
        (if test then Some s else found_in (ss ++ new ∷ []) pfs) ≡ option_map_or (λ (u : PseudoFileSystem). Some u)
        (if test then Some s else found_in ss pfs) (found_in (new ∷ []) pfs)
    by true rest = refl
    by false rest = rest

none_before : (old more : List (ℕ × FileTree)) → [] ≡ old ++ more → old ≡ []
none_before [] more is = refl
none_before (v ∷ vs) more is = absurd (cc)

-- one more PFS, whose versions begin at the id
pub Grows-pushed : (id pfs : ℕ) (old : List (ℕ × FileTree)) (systems : List PseudoFileSystem) (new : PseudoFileSystem) →
    AllByRecursion (λ (v : ℕ × FileTree). v.0 ≡ id) new.versions → Grows id old (versions_in (found_in systems pfs)) →
    Grows id old (versions_in (found_in (systems ++ new ∷ []) pfs))
Grows-pushed id pfs old systems new begin grows = rw (found-pushed systems new pfs) (by (found_in systems pfs) grows)
  where
    fresh : (test : Bool) → old ≡ [] → Grows id old (versions_in (if test then Some new else None))
    fresh true none = rw none (record { more = new.versions; grown = refl; begin = begin })
    fresh false none = rw none (Grows-same id [])

    by : (found : Option PseudoFileSystem) → Grows id old (versions_in found) →
        Grows id old (versions_in (option_map_or (λ (s : PseudoFileSystem). Some s) found (found_in (new ∷ []) pfs)))
    by None grown = fresh (eqb new.number pfs) (none_before old grown.more grown.grown)
    by (Some s) grown = grown
