-- Streams as plain items, and what it means that one was read from a master while that one changed.
use Rattle.std.specs.Prelude.{◌≡◌, ◌≢◌, ◌⊎◌, ℕ, ◌<◌, ◌≤◌, List, [], ◌∷◌, if◌then◌else◌}
use Rattle.std.specs.Bool.{nat_le}
use Rattle.std.specs.List.{Contains}
use Rattle.std.specs.List.Sorted.{IsStrictlySortedBy}
use Rattle.std.specs.Ordering.{on}
use Rattle.std.specs.declared.cmp.Ordering.TheVariants.{Less}
use Rattle.hm_types.specs.Elements.{FullElement, IsDead, Key, key_cmp}
use Rattle.hm_types.specs.Intervals.{Keeps}
use Rattle.hm_model.specs.Foreign.{MasterList}

-- one key stands before another
abbrev pub IsKeyBefore : Key → Key → Type 0
IsKeyBefore k l = key_cmp k l ≡ Less

-- what a list says of itself: its elements are in the order of their keys, and each mark is at least every id
-- at its key
pub record IsMasterList (list : MasterList) : Type 0 where
  pub rising : IsStrictlySortedBy (on (λ (e : FullElement). e.key) key_cmp) list.elements
  pub created : (e : FullElement) → Contains list.elements e → e.key.create ≤ list.mark e.key
  pub closed : (e : FullElement) → Contains list.elements e → e.delete ≤ list.mark e.key

-- a list has an element at a key
abbrev pub HasKey : MasterList → Key → Type 0
HasKey list key = (e : FullElement) × Contains list.elements e × (e.key ≡ key)

-- an element is in a later list with the same bytes, and was left as it was or closed above the end id
pub record Stays (end : ℕ) (later : MasterList) (e : FullElement) : Type 0 where
  pub now : FullElement
  pub has : Contains later.elements now
  pub key : now.key ≡ e.key
  pub bytes : now.bytes ≡ e.bytes
  pub deleted : (now.delete ≡ e.delete) ⊎ ((e.delete ≡ 0) × (end < now.delete))

-- the id at which an element that is gone counts as closed: the one that closed it, or where it was open some
-- id above the end id that the mark of its key has reached
abbrev pub IsClosing : ℕ → MasterList → FullElement → ℕ → Type 0
IsClosing end later e id =
    ((e.delete ≢ 0) × (id ≡ e.delete)) ⊎ ((e.delete ≡ 0) × (end < id) × (id ≤ later.mark e.key))

-- an element is gone from a later list: closed at some id, it was dead for what the master now keeps
pub record IsGoneFrom (end : ℕ) (later : MasterList) (e : FullElement) : Type 0 where
  pub gone : HasKey later e.key → ⊥
  pub closing : ℕ
  pub closed : IsClosing end later e closing
  pub dead : IsDead later.retention e.key.create closing

-- A later list of a master follows an earlier one, while a pass with this end id reads: each element stays or
-- is gone, each other one was created since, no mark falls, and no id is kept that was not.
pub record Follows (end : ℕ) (earlier later : MasterList) : Type 0 where
  pub each : (e : FullElement) → Contains earlier.elements e → Stays end later e ⊎ IsGoneFrom end later e
  pub others : (f : FullElement) → Contains later.elements f → HasKey earlier f.key ⊎ (end < f.key.create)
  pub marks : (key : Key) → earlier.mark key ≤ later.mark key
  pub retention : (id : ℕ) → Keeps later.retention id → Keeps earlier.retention id

-- each of these lists follows the one before it
abbrev pub AreFollowing : ℕ → List MasterList → Type 0
AreFollowing end [] = Unit {0}
AreFollowing end (list ∷ []) = Unit {0}
AreFollowing end (list ∷ next ∷ lists) = Follows end list next × AreFollowing end (next ∷ lists)

-- an element as a stream sends it: its key, the id that closed it, or 0, and the kind of object that it
-- speaks of
pub record Sent : Type 0 where
  pub key : Key
  pub delete : ℕ
  pub obj_type : ℕ

-- An item of a stream: the shared id, the begin id and the end id; an element that is new since the begin id,
-- with its bytes; one that is not, without them; the keys from one on and before another, at which nothing is
-- new; or the end, with the master's retention.
pub data Item : Type 0 where
  Begin : ℕ → ℕ → ℕ → Item
  Rec : Sent → List ℕ → Item
  Pass : Sent → Item
  Skip : Key → Key → Item
  Term : List (ℕ × ℕ) → Item

-- how far the items before have come: to no key yet, past this one, or to this one, which is still to come
pub data Reached : Type 0 where
  NoKey : Reached
  Past : Key → Reached
  Before : Key → Reached

-- a key is still to come
abbrev pub IsYetToCome : Reached → Key → Type 0
IsYetToCome NoKey key = Unit {0}
IsYetToCome (Past last) key = IsKeyBefore last key
IsYetToCome (Before next) key = IsKeyBefore key next → ⊥

-- it is the first of all keys to come
pub record IsFirstToCome (reached : Reached) (key : Key) : Type 0 where
  pub to_come : IsYetToCome reached key
  pub first : (other : Key) → IsYetToCome reached other → IsKeyBefore other key → ⊥

-- an element is the first to come of a list, among those that were created by the end id
pub record IsNext (end : ℕ) (list : MasterList) (reached : Reached) (e : FullElement) : Type 0 where
  pub has : Contains list.elements e
  pub to_come : IsYetToCome reached e.key
  pub created : e.key.create ≤ end
  pub first : (f : FullElement) → Contains list.elements f → IsYetToCome reached f.key → f.key.create ≤ end →
      IsKeyBefore f.key e.key → ⊥

-- an element as it is sent: an id that closed it above the end id is not told
abbrev pub sent : ℕ → FullElement → Sent
sent end e = record { key = e.key; delete = if nat_le e.delete end then e.delete else 0; obj_type = e.obj_type }

-- an id above the begin id stands in what is sent
abbrev pub IsAfterBegin : ℕ → Sent → Type 0
IsAfterBegin begin s = (begin < s.key.create) ⊎ (begin < s.delete)

-- it begins where the items before have come to, or at the next element
abbrev pub IsSkipStart : ℕ → MasterList → Reached → Key → Type 0
IsSkipStart end list reached first =
    IsFirstToCome reached first ⊎ ((e : FullElement) × IsNext end list reached e × (e.key ≡ first))

-- a range of keys in which nothing is new, by the marks of a list
pub record IsSkip (begin end : ℕ) (list : MasterList) (reached : Reached) (first next : Key) : Type 0 where
  pub start : IsSkipStart end list reached first
  pub order : IsKeyBefore first next
  pub old : (key : Key) → (IsKeyBefore key first → ⊥) → IsKeyBefore key next → list.mark key ≤ begin

-- no element of a list is left to send, and it keeps the end id: its retention is the last item
pub record IsTerm (end : ℕ) (list : MasterList) (reached : Reached) (retention : List (ℕ × ℕ)) : Type 0 where
  pub none : (e : FullElement) → Contains list.elements e → IsYetToCome reached e.key → end < e.key.create
  pub carried : retention ≡ list.retention
  pub kept : Keeps retention end

-- Items after the first one are read from these lists, each from its own, the items before having come so far.
-- Nothing comes after the last item, whose list is the last; before it a stream may break off.
abbrev pub AreRead : ℕ → ℕ → Reached → List Item → List MasterList → Type 0
AreRead begin end reached [] lists = Unit {0}
AreRead begin end reached (item ∷ items) [] = ⊥
AreRead begin end reached (Begin shared b e ∷ items) (list ∷ lists) = ⊥
AreRead begin end reached (Rec s bytes ∷ items) (list ∷ lists) =
    ((e : FullElement) × IsNext end list reached e × (s ≡ sent end e) × (bytes ≡ e.bytes))
    × IsAfterBegin begin s × AreRead begin end (Past s.key) items lists
AreRead begin end reached (Pass s ∷ items) (list ∷ lists) =
    ((e : FullElement) × IsNext end list reached e × (s ≡ sent end e))
    × (IsAfterBegin begin s → ⊥) × AreRead begin end (Past s.key) items lists
AreRead begin end reached (Skip first next ∷ items) (list ∷ lists) =
    IsSkip begin end list reached first next × AreRead begin end (Before next) items lists
AreRead begin end reached (Term retention ∷ items) (list ∷ lists) =
    IsTerm end list reached retention × (items ≡ []) × (lists ≡ [])

-- A stream, or a beginning of one, over these lists: its first item names the shared id, some begin id and
-- the end id, and the others are read from the lists.
abbrev pub IsStreamOver : ℕ → ℕ → List MasterList → List Item → Type 0
IsStreamOver shared end lists [] = Unit {0}
IsStreamOver shared end lists (Begin s b e ∷ items) =
    (s ≡ shared) × (e ≡ end) × (b ≤ end) × AreRead b end NoKey items lists
IsStreamOver shared end lists (item ∷ items) = ⊥
