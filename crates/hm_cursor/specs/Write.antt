-- What writing calls need of a store, and what they do to its elements with their payloads.
use Rattle.std.specs.Prelude.{◌↔◌, ◌≡◌, ◌≢◌, ◌⊎◌, ℕ, ◌+◌, ◌<◌, ◌≤◌, ◌==◌, if◌then◌else◌, List, Option, None, Some, length, option_map, IfSome, IsSomeAnd}
use Rattle.std.specs.List.{Contains}
use Rattle.hm_types.specs.Elements.{FullElement, Key}
use Rattle.hm_types.specs.Space.{IsPayloadZone, rounded, in_zone}
use Rattle.hm_types.specs.declared.space.TheConstants.{INSERT_ROOM}
use Rattle.hm_types.specs.declared.zone.TheConstants.{TREE_ZONE}
use Rattle.hm_key.specs.Balance.{IsBalanced, content_of}
use Rattle.hm_key.specs.Counts.{Counts, Subject, subject_of}
use Rattle.hm_key.specs.Element.{IsElement}
use Rattle.hm_key.specs.Elements.{element_key, with_delete}
use Rattle.hm_key.specs.Extents.{Extent}
use Rattle.hm_key.specs.Key.{key_of}
use Rattle.hm_key.specs.Members.{StoreMembers}
use Rattle.hm_key.specs.declared.base.Base.{Base}
use Rattle.hm_key.specs.declared.element.Element.{Element}
use Rattle.hm_records.specs.Changes.{CountSame, CountsNothing, Overrides}
use Rattle.hm_records.specs.Follows.{EndedBy, Follows, Meet}
use Rattle.hm_cursor.specs.Told.{Lists, fulls}

-- a subject's versions were made before `i`, and none was closed later than `i`
pub record IsFreshFor (s : Subject) (i : ℕ) (es : List FullElement) : Type 0 where
  pub made : (x : FullElement) → Contains es x → subject_of x.key ≡ s → x.key.create < i
  pub closed : (x : FullElement) → Contains es x → subject_of x.key ≡ s → x.delete ≤ i

-- no id of the elements of a localization is above `i`: neither one that made them nor one that closed them
pub record AreUpTo (localization i : ℕ) (es : List FullElement) : Type 0 where
  pub made : (x : FullElement) → Contains es x → x.key.localization ≡ localization → x.key.create ≤ i
  pub closed : (x : FullElement) → Contains es x → x.key.localization ≡ localization → x.delete ≤ i

-- an element of a changed list: a new one about the subject, made by `i`, or one that was there, perhaps closed since
abbrev pub CameFrom : Subject → Option (List ℕ) → ℕ → List FullElement → FullElement → Type 0
CameFrom s now i es x =
    ((subject_of x.key ≡ s) × (x.key.create ≡ i) × (now ≡ Some x.bytes))
    ⊎ ((e : FullElement) × Contains es e × (x.key ≡ e.key) × (x.obj_type ≡ e.obj_type) × (x.bytes ≡ e.bytes))

-- what meets a new element with these bytes and is about another subject has ended by `i`
abbrev pub OthersEnded : ℕ → Subject → Option (List ℕ) → ℕ → List FullElement → Type 0
OthersEnded pfs s now i es =
    (e x : FullElement) → subject_of e.key ≡ s → now ≡ Some e.bytes → Contains es x → subject_of x.key ≢ s → Meet pfs e x
    → EndedBy i x

-- From `i` on these bytes count for a subject, or nothing does. Before `i` there counts what counted, and for other
-- subjects at any time: their elements stay. What followed before follows still, where no open version is left behind.
pub record Rewrites (s : Subject) (now : Option (List ℕ)) (i : ℕ) (es es' : List FullElement) : Type 0 where
  pub past : (t : ℕ) → t < i → CountSame (Counts es t) (Counts es' t)
  pub present : (t : ℕ) → i ≤ t → Overrides s now (Counts es t) (Counts es' t)
  pub beside : (x : FullElement) → subject_of x.key ≢ s → Contains es' x ↔ Contains es x
  pub came : (x : FullElement) → Contains es' x → CameFrom s now i es x
  pub closed : now ≡ None → IsFreshFor s i es → IsFreshFor s i es'
  pub up_to : (localization : ℕ) → AreUpTo localization i es → AreUpTo localization i es'
  pub follows : (pfs t : ℕ) → (now ≡ None) ⊎ CountsNothing (Counts es i) s → (i ≤ t → OthersEnded pfs s now i es) → Follows pfs t es
      → Follows pfs t es'

-- a new version came by `i`, and what followed before follows still, whatever counted about its subject
abbrev pub FollowWith : Subject → List ℕ → ℕ → List FullElement → List FullElement → Type 0
FollowWith s bytes i es es' = (pfs t : ℕ) → (i ≤ t → OthersEnded pfs s (Some bytes) i es) → Follows pfs t es → Follows pfs t es'

-- what is new in a list has this type of object
abbrev pub AddsOfType : ℕ → List FullElement → List FullElement → Type 0
AddsOfType kind es es' = (x : FullElement) → Contains es' x → Contains es x ⊎ (x.obj_type ≡ kind)

-- A call that wrote left a balanced store that tells its content, where it found one, and did this to the elements with
-- their payloads.
abbrev pub Writes : {S : Type 0} → (S → Option (List Element)) → (S → Option (List Extent)) → (List FullElement → List FullElement → Type 0) → S → S → Type 0
Writes elements_of extents_of Change old new =
    IfSome (content_of (elements_of old) (extents_of old)) (λ was. IsBalanced was.0 was.1
    → IsSomeAnd (content_of (elements_of new) (extents_of new))
    (λ now. IsBalanced now.0 now.1 × Change (fulls was) (fulls now)))

-- the same of a store
abbrev pub WritesStore : {S : Type 0} → StoreMembers S → (List FullElement → List FullElement → Type 0) → S → S → Type 0
WritesStore g Change old new = Writes g.elements g.extents Change old new

-- the most bytes that a payload has
abbrev pub most_payload : ℕ
most_payload = 65568

-- an element with this base and so long a payload may be added: it is open, and its zone takes the payload
pub record IsNew (base : Base) (zone : ℕ) (bytes : List ℕ) : Type 0 where
  pub element : (payload : ℕ) → IsElement (record { base = base; payload = payload; len = length bytes })
  pub unclosed : base.delete ≡ 0
  pub payload_zone : IsPayloadZone zone
  pub some : 1 ≤ length bytes
  pub few : length bytes ≤ most_payload

-- a store has room for one more element and its payload
pub record HasRoomFor (room : ℕ → ℕ) (zone : ℕ) (bytes : List ℕ) : Type 0 where
  pub tree : INSERT_ROOM ≤ room TREE_ZONE
  pub payload : rounded (length bytes) ≤ room zone

-- an element with this base and these bytes for a payload
abbrev pub full_with : Base → List ℕ → FullElement
full_with base bytes = record { key = key_of base; delete = base.delete; obj_type = base.obj_type; bytes = bytes }

-- what one more element and its payload take of each zone at most
abbrev pub taken : ℕ → List ℕ → ℕ → ℕ
taken zone bytes other = in_zone TREE_ZONE INSERT_ROOM other + in_zone zone (rounded (length bytes)) other

-- where a store tells its content, the versions of a subject are older than `i`
abbrev pub IsFresh : Option (List Element) → Option (List Extent) → Subject → ℕ → Type 0
IsFresh es xs s i = IfSome (content_of es xs) (λ lists. IsFreshFor s i (fulls lists))

-- a version was closed at `i` if it was open, and all else stayed
pub record ClosesIfOpen {S : Type 0} (elements_of : S → Option (List Element)) (extents_of : S → Option (List Extent)) (version : Element) (i : ℕ) (old new : S) : Type 0 where
  pub elements : elements_of new
      ≡ option_map (λ es. if version.base.delete == 0 then with_delete (element_key version) i es else es) (elements_of old)
  pub extents : extents_of new ≡ extents_of old

-- the version at a key was closed at `i`, and all else stayed
pub record ClosesAt {S : Type 0} (elements_of : S → Option (List Element)) (extents_of : S → Option (List Extent)) (at : Key) (i : ℕ) (old new : S) : Type 0 where
  pub elements : elements_of new ≡ option_map (with_delete at i) (elements_of old)
  pub extents : extents_of new ≡ extents_of old

-- the extents stay, and each element stands for one that was there, whose key and whose payload's place and length it has
pub record KeepPlaces (was now : Lists) : Type 0 where
  pub extents : now.1 ≡ was.1
  pub elements : (x : Element) → Contains now.0 x
      → (e : Element) × Contains was.0 e × (element_key x ≡ element_key e) × (x.payload ≡ e.payload) × (x.len ≡ e.len)

-- a call that wrote left a store that tells its content, where it found one, and each payload where it stood
abbrev pub StayPlaced : {S : Type 0} → (S → Option (List Element)) → (S → Option (List Extent)) → S → S → Type 0
StayPlaced elements_of extents_of old new =
    IfSome (content_of (elements_of old) (extents_of old)) (λ was. IsSomeAnd (content_of (elements_of new) (extents_of new)) (KeepPlaces was))

-- where a store tells its elements, the one at a key is closed at `i`
abbrev pub IsClosedIn : Option (List Element) → Key → ℕ → Type 0
IsClosedIn told at i = IfSome told (λ es. (e : Element) → Contains es e → element_key e ≡ at → e.base.delete ≡ i)
