-- The elements of which everything in a file system is made, as plain data: a key, the id from which on it
-- is gone, and its payload.
use Rattle.std.specs.Prelude.{◌≡◌, ◌⊎◌, ℕ, ◌<◌, ◌≤◌, List}
use Rattle.std.specs.declared.cmp.Ordering.{Ordering}
use Rattle.std.specs.Ordering.{nat_cmp, on, then_cmp}
use Rattle.hm_types.specs.Intervals.{Keeps}

-- where an element stands in the order of all: its pseudo file system and whether it is an inode, its
-- object, its type, its key among those of that type, and the id that made it
pub record Key : Type 0 where
  pub localization : ℕ
  pub obj : ℕ
  pub rec_type : ℕ
  pub key : ℕ
  pub create : ℕ

-- the order of keys: the first of the five fields in which two differ decides
abbrev pub key_cmp : Key → Key → Ordering
key_cmp =
    then_cmp (on (λ (k : Key). k.localization) nat_cmp)
    (then_cmp (on (λ (k : Key). k.obj) nat_cmp)
    (then_cmp (on (λ (k : Key). k.rec_type) nat_cmp)
    (then_cmp (on (λ (k : Key). k.key) nat_cmp) (on (λ (k : Key). k.create) nat_cmp))))

-- an element with the bytes of its payload; `delete` is the id that closed it, or 0 while it is open, and
-- `obj_type` the kind of object that it speaks of
pub record FullElement : Type 0 where
  pub key : Key
  pub delete : ℕ
  pub obj_type : ℕ
  pub bytes : List ℕ

-- an element with these ids is seen as of id `t`: it was made by then, and is open, or closed later
abbrev pub Sees : ℕ → ℕ → ℕ → Type 0
Sees create delete t = (create ≤ t) × ((delete ≡ 0) ⊎ (t < delete))

-- An element with these ids is dead for the intervals of a retention: no kept id sees it, and some kept
-- id is not below the one that made it. So what an unfinished mirror pass brought is not dead.
pub record IsDead (kept : List (ℕ × ℕ)) (create delete : ℕ) : Type 0 where
  pub unseen : (t : ℕ) → Keeps kept t → Sees create delete t → ⊥
  pub reached : (t : ℕ) × Keeps kept t × (create ≤ t)
