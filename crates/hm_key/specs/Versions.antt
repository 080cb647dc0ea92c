-- What a call does to a list of elements with their payloads, as sets.
use Rattle.std.specs.Prelude.{◌≡◌, ◌≢◌, ◌↔◌, ◌⊎◌, ℕ, ◌<◌, Bool, ◌==◌, ◌&&◌, if◌then◌else◌, List}
use Rattle.std.specs.List.{Contains}
use Rattle.std.specs.List.Sorted.{IsStrictlySortedBy}
use Rattle.std.specs.Ordering.{on}
use Rattle.hm_types.specs.Elements.{FullElement, Key, key_cmp}
use Rattle.hm_key.specs.Counts.{Subject, subject_of}

-- the elements rise by their keys, as the leaves of a sound tree hold them
abbrev pub AreSorted : List FullElement → Type 0
AreSorted es = IsStrictlySortedBy (on (λ (e : FullElement). e.key) key_cmp) es

-- no two elements have one key
abbrev pub HaveOwnKeys : List FullElement → Type 0
HaveOwnKeys es = (x y : FullElement) → Contains es x → Contains es y → x.key ≡ y.key → x ≡ y

-- all ids in a list are below `i`: those that made its elements, and those that closed them
pub record IsBelow (i : ℕ) (es : List FullElement) : Type 0 where
  pub made : (x : FullElement) → Contains es x → x.key.create < i
  pub closed : (x : FullElement) → Contains es x → x.delete < i

-- one element more
abbrev pub Adds : FullElement → List FullElement → List FullElement → Type 0
Adds e es es' = (x : FullElement) → Contains es' x ↔ ((x ≡ e) ⊎ Contains es x)

-- one element less
abbrev pub TakesOut : FullElement → List FullElement → List FullElement → Type 0
TakesOut e es es' = (x : FullElement) → Contains es' x ↔ (Contains es x × (x ≢ e))

-- whether a key is about a subject
abbrev pub is_about : Subject → Key → Bool
is_about s k = (k.localization == s.localization) && (k.obj == s.obj) && (k.rec_type == s.rec_type) && (k.key == s.key)

-- an element as it is once the open ones about a subject were closed at `i`
abbrev pub closed_for : Subject → ℕ → FullElement → FullElement
closed_for s i e = if is_about s e.key && (e.delete == 0) then record e { delete = i } else e

-- the open elements about a subject are closed at `i`, and all else is as it was
abbrev pub Closes : Subject → ℕ → List FullElement → List FullElement → Type 0
Closes s i es es' = (x : FullElement) → Contains es' x ↔ ((e : FullElement) × Contains es e × (closed_for s i e ≡ x))

-- A new version of what an element is about, made by an id above all: the open one is closed at that id, where there
-- is one, and the element is added.
pub record Replaces (e : FullElement) (es es' : List FullElement) : Type 0 where
  pub below : IsBelow e.key.create es
  pub between : List FullElement
  pub closes : Closes (subject_of e.key) e.key.create es between
  pub adds : Adds e between es'
  pub unclosed : e.delete ≡ 0
