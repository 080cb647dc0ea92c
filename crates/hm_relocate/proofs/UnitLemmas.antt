-- A unit of a reblock from its parts.
use Rattle.std.proofs.Common.{◌≡◌, true≢false, ℕ, ◌≤◌, Bool, List, Option, None, Some, refl, sym, ap, subst, ◌∙◌, arith}
use Rattle.std.specs.Prelude.{IfErr, IfOk, IfSome, IsSome, IsSomeAnd, OnOk, OnSome, Result, Ok, Err, if◌then◌else◌, nat_eq, true, false}
use Rattle.std.specs.List.{Contains}
use Rattle.hm_types.specs.Elements.{Key}
use Rattle.hm_types.specs.Faults.{HasAdmitCause, HasStoreCause, IsCaused, IsSpaceCaused, IsSpaceUndamaged, IsUndamaged}
use Rattle.hm_types.specs.Offset.{zone_of}
use Rattle.hm_types.specs.Space.{IfNoSpace, LacksSpace, Spends, in_zone, nothing, reserve_of}
use Rattle.hm_types.specs.declared.space.TheConstants.{PAYLOAD_RESERVE, TREE_RESERVE}
use Rattle.hm_types.specs.declared.fault.Fault.{Fault}
use Rattle.hm_types.specs.declared.zones.Zones.{Zones}
use Rattle.hm_types.specs.declared.fault.SpaceFault.{SpaceFault}
use Rattle.hm_types.specs.declared.fault.SpaceFault.TheVariants.{NoSpace, Fault as of_store}
use Rattle.hm_fields.specs.Pages.{PageMap}
use Rattle.hm_search.specs.declared.subtree.Subtree.{Subtree}
use Rattle.hm_btree.specs.Calls.Choice.{FindsNode}
use Rattle.hm_btree.specs.declared.space.TheConstants.{NODE_BYTES}
use Rattle.hm_key.specs.Balance.{Balanced, IsBalanced, Works, content_of, full_elements}
use Rattle.hm_key.specs.Charges.{Charges}
use Rattle.hm_key.specs.Extents.{Extent}
use Rattle.hm_key.specs.Marks.{MarksStay, NoneFall}
use Rattle.hm_key.specs.declared.element.Element.{Element}
use Rattle.hm_key.proofs.BalanceLemmas.{LosesDead-refl}
use Rattle.hm_key.proofs.ChargeLemmas.{charges_spends, charges_spent}
use Rattle.hm_cursor.proofs.StoreLemmas.{caused_later}
use Rattle.hm_reblock.specs.Stages.{HasReserveFor, StandsOrComes, most_for}
use Rattle.hm_stored.specs.Heap.{Heap, extents_in, free_of, pages_of, room_of}
use Rattle.hm_stored.specs.Moving.{RelocatesNode, StandsIn}
use Rattle.hm_stored.specs.Told.{elements_told, mark_told}
use Rattle.hm_relocate.specs.Unit.{DoesPart, HasChosenNode, HasGotOn, IsToMove, LacksForOne, LooksOn, LooksThrough, NamesOne, Rearranges, Tries}
use Rattle.hm_relocate.specs.Unit.{Way, content_told}
use Rattle.hm_relocate.proofs.GotOnLemmas.{got_on_later, stands_both, to_move_more}

-- ---- results

pub on_ok : {A E P Q : Type 0} → (r : Result A E) → (P → Q) → OnOk r P → OnOk r Q
on_ok (Ok x) f is = f is
on_ok (Err e) f is = tt

pub if_ok : {A E : Type 0} {P Q : A → Type 0} → (r : Result A E) → ((x : A) → P x → Q x) → IfOk r P → IfOk r Q
if_ok (Ok x) f is = f x is
if_ok (Err e) f is = tt

pub if_err : {A E : Type 0} {P Q : E → Type 0} → (r : Result A E) → ((e : E) → P e → Q e) → IfErr r P → IfErr r Q
if_err (Ok x) f is = tt
if_err (Err e) f is = f e is

pub if_some : {A : Type 0} {P Q : A → Type 0} → (o : Option A) → ((x : A) → P x → Q x) → IfSome o P → IfSome o Q
if_some None f is = tt
if_some (Some x) f is = f x is

-- ---- causes

space_later : (old mid new : ℕ) (fault : SpaceFault) → old ≤ mid → IsSpaceCaused mid new fault → IsSpaceCaused old new fault
space_later old mid new (NoSpace free needed) grows cause = tt
space_later old mid new (of_store fault) grows cause = caused_later old mid new fault grows cause

-- a call as the last of some has its cause in all of them
pub cause_later : {A T : Type 0} (told told' : Option A) (old mid new : ℕ) (result : Result T SpaceFault) → told ≡ told' → old ≤ mid
    → HasAdmitCause told mid new result → HasAdmitCause told' old new result
cause_later {A = A} told told' old mid new result same grows cause = record {
  counted = record {
    never_falls = (let rest = cause.counted.never_falls in omega (arith, grows, rest));
    caused = if_err result (λ fault is. space_later old mid new fault grows is) cause.counted.caused;
  };
  undamaged = subst (λ (o : Option A). IfSome o (λ _. IfErr result IsSpaceUndamaged)) same cause.undamaged;
}

-- what is told of a content is told of its elements, and of its extents
pub content_elements : (es : Option (List Element)) (xs : Option (List Extent)) (P : Type 0) → IfSome es (λ _. P) → IfSome (content_of es xs) (λ _. P)
content_elements None xs P is = tt
content_elements (Some es) None P is = tt
content_elements (Some es) (Some xs) P is = is

pub content_extents : (es : Option (List Element)) (xs : Option (List Extent)) (P : Type 0) → IfSome xs (λ _. P) → IfSome (content_of es xs) (λ _. P)
content_extents None xs P is = tt
content_extents (Some es) None P is = tt
content_extents (Some es) (Some xs) P is = is

-- a fault of the store that was met in a call that takes space
pub cause_fault : {B T : Type 0} (told : Option B) (old new : ℕ) (fault : Fault) → old ≤ new → IsCaused old new fault → IfSome told (λ _. IsUndamaged fault)
    → HasAdmitCause {T = T} told old new (Err (of_store fault))
cause_fault told old new fault grows caused undamaged = record { counted = record { never_falls = grows; caused = caused }; undamaged = undamaged }

-- a part of a unit that ended well
pub cause_ok : {B T : Type 0} (told : Option B) (old new : ℕ) (value : T) → old ≤ new → HasAdmitCause told old new (Ok value)
cause_ok told old new value grows = record { counted = record { never_falls = grows; caused = tt }; undamaged = nothing told } where
  nothing : {A : Type 0} (o : Option A) → IfSome o (λ _. Unit {0})
  nothing None = tt
  nothing (Some x) = tt

-- how a part failed is how the unit failed
pub relocates_err : {A B : Type 0} (choice : List ℕ) (faults faults' : ℕ) (old new : Heap) (root root' : ℕ) (fault : SpaceFault)
    → DoesPart choice faults faults' old new root root' {A = A} (Err fault) → DoesPart choice faults faults' old new root root' {A = B} (Err fault)
relocates_err choice faults faults' old new root root' fault part = record {
  store = tt;
  cause = record {
    counted = record { never_falls = part.cause.counted.never_falls; caused = part.cause.counted.caused };
    undamaged = part.cause.undamaged;
  };
  no_space = part.no_space;
}

-- what is to move lies in a choice that has more
pub relocates_more : {A : Type 0} (some all : List ℕ) (faults faults' : ℕ) (old new : Heap) (root root' : ℕ) (result : Result A SpaceFault)
    → ((block : ℕ) → Contains some block → Contains all block) → DoesPart some faults faults' old new root root' result
    → DoesPart all faults faults' old new root root' result
relocates_more some all faults faults' old new root root' result within part = record {
  store = part.store;
  cause = part.cause;
  no_space = if_err result more part.no_space;
} where
  more : (fault : SpaceFault) → IfNoSpace (LacksForOne some (pages_of old) (elements_told old root) (room_of old) (free_of old)) fault
      → IfNoSpace (LacksForOne all (pages_of old) (elements_told old root) (room_of old) (free_of old)) fault
  more (NoSpace free needed) lacks = record {
    zones = lacks.zones;
    zone = lacks.zone;
    one = lacks.one;
    moved = to_move_more some all within (pages_of old) (elements_told old root) lacks.zone lacks.moved;
    lacks = lacks.lacks;
  }
  more (of_store fault) lacks = tt

-- ---- a part of a unit after a look

-- two looks are one
pub looks_both : (old mid new : Heap) (root root1 root' : ℕ) → LooksThrough old mid root root1 → LooksThrough mid new root1 root'
    → LooksThrough old new root root'
looks_both old mid new root root1 root' first second = record {
  elements = second.elements ∙ first.elements;
  mark = second.mark ∙ first.mark;
  extents = second.extents ∙ first.extents;
  room = second.room ∙ first.room;
  free = second.free ∙ first.free;
}

module _ (old mid : Heap) (root root1 : ℕ) (looks : LooksThrough old mid root root1) where
  pub content_same : content_told mid root1 ≡ content_told old root
  content_same = λ i. content_of (looks.elements i) (looks.extents i)

  pub balanced_later : Balanced (elements_told old root) (extents_in old) → Balanced (elements_told mid root1) (extents_in mid)
  balanced_later = subst (λ (c : Option (List Element × List Extent)). IfSome c (λ content. IsBalanced content.0 content.1)) (sym content_same)

  charges_later : (new : Heap) → Charges room_of free_of reserve_of mid new → Charges room_of free_of reserve_of old new
  charges_later new charged = record {
    begun = charged.begun;
    lacked = λ zone is. (let low = charged.lacked zone is in let same = ap (λ (r : ℕ → ℕ). r zone) looks.room in omega (arith, low, same));
    whole = charged.whole;
    others = λ zone is. (let kept = charged.others zone is in let same = ap (λ (r : ℕ → ℕ). r zone) looks.room in omega (arith, kept, same));
    paid = (let paid = charged.paid in let same = looks.free in omega (arith, paid, same));
  }

  pub rearranges_later : (new : Heap) (root' : ℕ) → Rearranges mid new root1 root' → Rearranges old new root root'
  rearranges_later new root' did = record {
    content = subst (λ (c : Option (List Element × List Extent)).
        IfSome c (λ was. IsBalanced was.0 was.1 → IsSomeAnd (content_told new root') (Works (λ _. None) was))) content_same did.content;
    marks = subst (λ (x : Option (List Element) × (Key → ℕ)). OnSome x.0 (NoneFall x.1 (mark_told new root')))
        (λ i. (looks.elements i, looks.mark i)) did.marks;
    charges = charges_later new did.charges;
  }

  relocates_later : {A : Type 0} (choice : List ℕ) (faults faults1 faults' : ℕ) (new : Heap) (root' : ℕ) (result : Result A SpaceFault)
      → pages_of mid ≡ pages_of old → faults ≤ faults1 → DoesPart choice faults1 faults' mid new root1 root' result
      → DoesPart choice faults faults' old new root root' result
  relocates_later choice faults faults1 faults' new root' result same grows part = record {
    store = on_ok result (rearranges_later new root') part.store;
    cause = cause_later (content_told mid root1) (content_told old root) faults faults1 faults' result content_same grows part.cause;
    no_space = subst (λ (x : Option PageMap × Option (List Element) × (ℕ → ℕ) × ℕ). IfErr result (IfNoSpace (LacksForOne choice x.0 x.1 x.2 x.3)))
        (λ i. (same i, looks.elements i, looks.room i, looks.free i)) part.no_space;
  }

  -- what a part tried after a look at the nodes
  pub tries_later : (from place to : Way) (choice : List ℕ) (faults faults1 faults' : ℕ) (new : Heap) (root' : ℕ) (result : Result Bool SpaceFault)
      → StandsOrComes from.payloads place.payloads → place.nodes ≡ from.nodes → pages_of mid ≡ pages_of old → faults ≤ faults1
      → Tries place to choice faults1 faults' mid new root1 root' result → Tries from to choice faults faults' old new root root' result
  tries_later from place to choice faults faults1 faults' new root' result stands turned same grows tries = record {
    part = relocates_later choice faults faults1 faults' new root' result same grows tries.part;
    moved = if_ok result (λ moved did is. got_on_later old mid root root1 looks from place to choice choice new root' stands turned same (did is)) tries.moved;
    none = if_ok result (λ moved looked is. (let after = looked is in (
      stands_both from.payloads place.payloads to.payloads stands after.0,
      after.1 ∙ turned,
      looks_both old mid new root root1 root' looks after.2,
    ))) tries.none;
  }

-- ---- what a part did of a store

-- a content that stayed is one with the same elements and payloads
same_works : (o c : Option (List Element × List Extent)) → c ≡ o
    → IfSome o (λ was. IsBalanced was.0 was.1 → IsSomeAnd c (Works (λ _. None) was))
same_works None c same = tt
same_works (Some was) c same = λ balanced.
    subst (λ (c : Option (List Element × List Extent)). IsSomeAnd c (Works (λ _. None) was)) (sym same)
    (record { balanced = balanced; elements = LosesDead-refl (λ _. None) (full_elements was.0 was.1) })

-- no mark fell where none changed
marks_same : (o : Option (List Element)) (m m' : Key → ℕ) → m' ≡ m → OnSome o (NoneFall m m')
marks_same None m m' same = tt
marks_same (Some es) m m' same = λ key. (let is = ap (λ (f : Key → ℕ). f key) same in omega (arith, is))

marks_stay : (o : Option (List Element)) (m m' : Key → ℕ) → IfSome o (λ _. MarksStay m m') → OnSome o (NoneFall m m')
marks_stay None m m' stay = tt
marks_stay (Some es) m m' stay = λ key. (let is = stay key in omega (arith, is))

-- a look alone takes nothing
pub looks_rearranges : (old new : Heap) (root root' : ℕ) → LooksThrough old new root root' → Rearranges old new root root'
looks_rearranges old new root root' looks = record {
  content = same_works (content_told old root) (content_told new root') (λ i. content_of (looks.elements i) (looks.extents i));
  marks = marks_same (elements_told old root) (mark_told old root) (mark_told new root') looks.mark;
  charges = charges_spends room_of free_of reserve_of old new (record {
    room = λ zone. (let same = ap (λ (r : ℕ → ℕ). r zone) looks.room in omega (arith, same));
    free = (let same = looks.free in omega (arith, same));
  });
}

-- what is spent is no more than the reserve of a zone
spends_payload : (zone other : ℕ) → in_zone zone PAYLOAD_RESERVE other ≤ reserve_of other
spends_payload zone other = by_zone (nat_eq other zone) refl (nat_eq other 8) refl where
  by_zone : (t : Bool) → nat_eq other zone ≡ t → (u : Bool) → nat_eq other 8 ≡ u
      → (if t then PAYLOAD_RESERVE else 0) ≤ (if u then TREE_RESERVE else PAYLOAD_RESERVE)
  by_zone true is true tree = omega arith
  by_zone true is false tree = omega arith
  by_zone false is true tree = omega arith
  by_zone false is false tree = omega arith

pub spends_next : (next : Option Element) (other : ℕ) → most_for next other ≤ reserve_of other
spends_next None other = omega arith
spends_next (Some e) other = spends_payload (zone_of e.payload) other

-- what a unit of a reblock finds in the zone of what it moves
pub reserve_for : (room : ℕ → ℕ) (next : Option Element) (zone : ℕ) → IfSome next (λ e. zone_of e.payload ≡ zone) → reserve_of zone ≤ room zone
    → HasReserveFor room next
reserve_for room None zone is reserve = tt
reserve_for room (Some e) zone is reserve =
    let most = least (nat_eq zone 8) in subst (λ (z : ℕ). PAYLOAD_RESERVE ≤ room z) (sym is) (omega (arith, most, reserve)) where
      least : (t : Bool) → PAYLOAD_RESERVE ≤ (if t then TREE_RESERVE else PAYLOAD_RESERVE)
      least true = omega arith
      least false = omega arith

pub spends_node : (other : ℕ) → in_zone 8 NODE_BYTES other ≤ reserve_of other
spends_node other = by_zone (nat_eq other 8) where
  by_zone : (t : Bool) → (if t then NODE_BYTES else 0) ≤ (if t then TREE_RESERVE else PAYLOAD_RESERVE)
  by_zone true = omega arith
  by_zone false = omega arith

pub spends_less : (most more : ℕ → ℕ) (old new : Heap) → ((zone : ℕ) → most zone ≤ more zone) → Spends room_of free_of most old new
    → Spends room_of free_of more old new
spends_less most more old new less spends = record {
  room = λ zone. (let low = less zone in let is = spends.room zone in omega (arith, low, is));
  free = spends.free;
}

-- a content that stayed is balanced where it was
pub balanced_same : (old new : Heap) (root root' : ℕ) → elements_told new root' ≡ elements_told old root → extents_in new ≡ extents_in old
    → Balanced (elements_told old root) (extents_in old) → Balanced (elements_told new root') (extents_in new)
balanced_same old new root root' elements extents =
    subst (λ (c : Option (List Element × List Extent)). IfSome c (λ content. IsBalanced content.0 content.1))
    (λ i. content_of (sym elements i) (sym extents i))

-- something was moved after a zone was given its reserve
module _ (old mid : Heap) (root root1 : ℕ) (elements : elements_told mid root1 ≡ elements_told old root) (extents : extents_in mid ≡ extents_in old)
    (mark : mark_told mid root1 ≡ mark_told old root) (admitted : Charges room_of free_of nothing old mid) where
  content_admitted : content_told mid root1 ≡ content_told old root
  content_admitted = λ i. content_of (elements i) (extents i)

  -- a payload, by a unit of a job that removes nothing
  pub moves_payload : (new : Heap) (root' : ℕ)
      → IfSome (content_told mid root1) (λ was. IsBalanced was.0 was.1 → IsSomeAnd (content_told new root') (Works (λ _. None) was))
      → OnSome (elements_told mid root1) (NoneFall (mark_told mid root1) (mark_told new root'))
      → Spends room_of free_of reserve_of mid new → Rearranges old new root root'
  moves_payload new root' content marks spends = record {
    content = subst (λ (c : Option (List Element × List Extent)).
        IfSome c (λ was. IsBalanced was.0 was.1 → IsSomeAnd (content_told new root') (Works (λ _. None) was))) content_admitted content;
    marks = subst (λ (x : Option (List Element) × (Key → ℕ)). OnSome x.0 (NoneFall x.1 (mark_told new root'))) (λ i. (elements i, mark i)) marks;
    charges = charges_spent room_of free_of reserve_of old mid new admitted spends;
  }

  -- a node
  pub moves_node : (new : Heap) (root' at to : ℕ) → RelocatesNode at mid new root1 root' to → Spends room_of free_of reserve_of mid new
      → Rearranges old new root root'
  moves_node new root' at to moved spends = record {
    content = same_works (content_told old root) (content_told new root')
        (λ i. content_of ((moved.elements ∙ elements) i) ((moved.extents ∙ extents) i));
    marks = subst (λ (x : Option (List Element) × (Key → ℕ)). OnSome x.0 (NoneFall x.1 (mark_told new root'))) (λ i. (elements i, mark i))
        (marks_stay (elements_told mid root1) (mark_told mid root1) (mark_told new root') moved.marks);
    charges = charges_spent room_of free_of reserve_of old mid new admitted spends;
  }

-- a node that was found stands there still
pub stands_still : (choice : List ℕ) (place : Subtree) (old new : Heap) → pages_of new ≡ pages_of old → StandsIn choice old place
    → IfSome (pages_of new) (λ map. IsSome (map place.at))
stands_still choice place old new same stands =
    subst (λ (o : Option PageMap). IfSome o (λ map. IsSome (map place.at))) (sym same) (if_some (pages_of old) (λ map found. found.0) stands)

-- so what is to move is a node, where the look that found it left the nodes
pub node_there : (choice : List ℕ) (old mid : Heap) (found : Option Subtree) (place : Subtree) → found ≡ Some place
    → pages_of mid ≡ pages_of old → IfSome found (StandsIn choice mid) → IfSome (pages_of old) (HasChosenNode choice)
node_there choice old mid found place is same stands =
    if_some (pages_of old) (λ map lies. (place.at, lies))
    (subst (λ (o : Option PageMap). IfSome o (λ map. FindsNode choice map (Some place.at))) same
    (subst (λ (f : Option Subtree). IfSome f (StandsIn choice mid)) is stands))

-- ---- how a part of a unit ended

-- a call of the store failed in it, which told the same elements then
pub part_fault : {T A : Type 0} (choice : List ℕ) (faults faults1 faults' : ℕ) (old mid new : Heap) (root root1 root' : ℕ) (fault : Fault)
    → faults ≤ faults1 → elements_told mid root1 ≡ elements_told old root
    → HasStoreCause {T = T} (elements_told mid root1) faults1 faults' (Err fault)
    → DoesPart choice faults faults' old new root root' {A = A} (Err (of_store fault))
part_fault choice faults faults1 faults' old mid new root root1 root' fault grows same cause = record {
  store = tt;
  cause = cause_fault (content_told old root) faults faults' fault (let rest = cause.counted.never_falls in omega (arith, grows, rest))
      (caused_later faults faults1 faults' fault grows cause.counted.caused)
      (content_elements (elements_told old root) (extents_in old) (IsUndamaged fault)
      (subst (λ (o : Option (List Element)). IfSome o (λ _. IsUndamaged fault)) same cause.undamaged));
  no_space = tt;
}

-- it looked at the store alone
pub part_looked : {A : Type 0} (choice : List ℕ) (faults faults' : ℕ) (old new : Heap) (root root' : ℕ) (value : A)
    → LooksThrough old new root root' → faults ≤ faults' → DoesPart choice faults faults' old new root root' (Ok value)
part_looked choice faults faults' old new root root' value looks grows = record {
  store = looks_rearranges old new root root' looks;
  cause = cause_ok (content_told old root) faults faults' value grows;
  no_space = tt;
}

-- ---- how an attempt to move something ended

module _ (from to : Way) (choice : List ℕ) (faults faults' : ℕ) (old new : Heap) (root root' : ℕ) where
  -- there was nothing to move
  pub tries_none : LooksOn from to old new root root' → faults ≤ faults'
      → Tries from to choice faults faults' old new root root' (Ok false)
  tries_none looks grows = record {
    part = part_looked choice faults faults' old new root root' false looks.2 grows;
    moved = λ is. absurd (true≢false (sym is));
    none = λ is. looks;
  }

  -- something moved
  pub tries_moved : faults ≤ faults' → Rearranges old new root root' → HasGotOn from to choice choice old new root root'
      → Tries from to choice faults faults' old new root root' (Ok true)
  tries_moved grows did got = record {
    part = record { store = did; cause = cause_ok (content_told old root) faults faults' true grows; no_space = tt };
    moved = λ is. got;
    none = λ is. absurd (true≢false is);
  }

  module _ (mid : Heap) (root1 faults1 : ℕ) (grows : faults ≤ faults1) where
    -- a call of the store failed, which told the same elements then
    pub tries_fault : {T : Type 0} (fault : Fault) → elements_told mid root1 ≡ elements_told old root
        → HasStoreCause {T = T} (elements_told mid root1) faults1 faults' (Err fault)
        → Tries from to choice faults faults' old new root root' (Err (of_store fault))
    tries_fault fault same cause = record {
      part = part_fault choice faults faults1 faults' old mid new root root1 root' fault grows same cause;
      moved = tt;
      none = tt;
    }

    -- a zone got no room, after a look
    pub tries_room : (zones : Zones) (zone : ℕ) (fault : SpaceFault) → LooksThrough old mid root root1 → NamesOne zones zone
        → IsToMove choice (pages_of old) (elements_told old root) zone → HasAdmitCause {T = Unit {0}} (extents_in mid) faults1 faults' (Err fault)
        → IfNoSpace (LacksSpace zones 0 (room_of mid) (free_of mid)) fault → Tries from to choice faults faults' old new root root' (Err fault)
    tries_room zones zone (NoSpace free needed) looks one moved cause lacks = record {
      part = record {
        store = tt;
        cause = record {
          counted = record { never_falls = (let rest = cause.counted.never_falls in omega (arith, grows, rest)); caused = tt };
          undamaged = nothing (content_told old root);
        };
        no_space = record {
          zones = zones;
          zone = zone;
          one = one;
          moved = moved;
          lacks = subst (λ (x : (ℕ → ℕ) × ℕ). LacksSpace zones 0 x.0 x.1 free needed) (λ i. (looks.room i, looks.free i)) lacks;
        };
      };
      moved = tt;
      none = tt;
    } where
      nothing : {A : Type 0} (o : Option A) → IfSome o (λ _. Unit {0})
      nothing None = tt
      nothing (Some x) = tt
    tries_room zones zone (of_store fault) looks one moved cause lacks = record {
      part = record {
        store = tt;
        cause = cause_fault (content_told old root) faults faults' fault (let rest = cause.counted.never_falls in omega (arith, grows, rest))
            (caused_later faults faults1 faults' fault grows cause.counted.caused)
            (content_extents (elements_told old root) (extents_in old) (IsUndamaged fault)
            (subst (λ (o : Option (List Extent)). IfSome o (λ _. IsUndamaged fault)) looks.extents cause.undamaged));
        no_space = tt;
      };
      moved = tt;
      none = tt;
    }

    -- or a payload could not be moved after that
    pub tries_job : {T : Type 0} (fault : Fault) → content_told mid root1 ≡ content_told old root
        → HasStoreCause {T = T} (content_told mid root1) faults1 faults' (Err fault)
        → Tries from to choice faults faults' old new root root' (Err (of_store fault))
    tries_job fault same cause = record {
      part = record {
        store = tt;
        cause = cause_fault (content_told old root) faults faults' fault (let rest = cause.counted.never_falls in omega (arith, grows, rest))
            (caused_later faults faults1 faults' fault grows cause.counted.caused)
            (subst (λ (o : Option (List Element × List Extent)). IfSome o (λ _. IsUndamaged fault)) same cause.undamaged);
        no_space = tt;
      };
      moved = tt;
      none = tt;
    }
