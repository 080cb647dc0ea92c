-- What writes do to the names of a directory.
use Rattle.std.proofs.Common.{◌≡◌, ◌≢◌, ℕ, ◌+◌, ◌≤◌, Bool, true, false, List, Option, None, Some, Result, Ok, Err, length, refl, ap, sym, subst, ◌∙◌, inl}
use Rattle.std.proofs.Common.{inr, arith, rules}
use Rattle.std.specs.Prelude.{◌↔◌, IfSome, IsSomeAnd, OnOk}
use Rattle.std.proofs.lemmas.Bool.{cases_lt}
use Rattle.hm_types.specs.Elements.{FullElement, Key}
use Rattle.hm_types.specs.Tree.{FileTree, with_name}
use Rattle.hm_types.specs.declared.id.Obj.{Obj}
use Rattle.hm_types.specs.declared.zone.TheConstants.{META_ZONE}
use Rattle.hm_key.specs.Balance.{IsBalanced, content_of}
use Rattle.hm_key.specs.Counts.{Content, Counts, Subject, entry_subject, subject_of}
use Rattle.hm_key.specs.Element.{part_of}
use Rattle.hm_key.specs.Extents.{Extent}
use Rattle.hm_key.specs.Key.{key_of}
use Rattle.hm_key.specs.declared.base.Base.{Base}
use Rattle.hm_key.specs.declared.base.TheConstants.{ELEMENT}
use Rattle.hm_key.specs.declared.element.Element.{Element}
use Rattle.hm_key.specs.declared.rec_type.TheConstants.{DIRECTORY_ENTRY, OTHER_PART}
use Rattle.hm_records.specs.Entry.{IsEntry, entry_bytes}
use Rattle.hm_records.specs.Changes.{CountSame, CountsNothing, LacksName, Overrides}
use Rattle.hm_records.specs.Follows.{StillFollow}
use Rattle.hm_records.specs.Laws.{HasView}
use Rattle.hm_records.specs.Payload.{KeyFits}
use Rattle.hm_records.specs.View.{HasEntry}
use Rattle.hm_records.specs.declared.entry.DirEntry.{DirEntry}
use Rattle.hm_records.proofs.EntryChangeLemmas.{later_gone, new_shown}
use Rattle.hm_records.proofs.NameLemmas.{name_one}
use Rattle.hm_records.proofs.SubjectLemmas.{same_subject}
use Rattle.hm_records.proofs.ViewLemmas.{view_same}
use Rattle.hm_records.proofs.EntryLemmas.{length-entry}
use Rattle.hm_cursor.specs.Told.{Lists, fulls}
use Rattle.hm_cursor.specs.Write.{AddsOfType, IsNew, Rewrites, Writes, most_payload}
use Rattle.hm_cursor.specs.Views.{Shows, WritesIn}
use Rattle.hm_cursor.proofs.FollowLemmas.{adding_follows, closing_follows, follow_twice}
use Rattle.hm_cursor.proofs.ViewsLemmas.{IsSteady, IsWithin, fresh_later, keys_fit_still, writes_again, writes_of_type, writes_within}
use Rattle.hm_dirs.specs.Entries.{Clears}
use Rattle.hm_dirs.specs.Names.{AddsName, AreOlder, CanTakeAt, IsEntryAt}
use Rattle.hm_dirs.specs.declared.spot.Spot.{Spot}

-- ---- calls that wrote

pub on_ok : {A E : Type 0} (result : Result A E) (P Q : Type 0) → (P → Q) → OnOk result P → OnOk result Q
on_ok (Ok x) P Q step is = step is
on_ok (Err e) P Q step is = is

-- what a call did, in other words
pub writes_as : {S : Type 0} (elements_of : S → Option (List Element)) (extents_of : S → Option (List Extent))
    (C D : List FullElement → List FullElement → Type 0) (old new : S) → ((a b : List FullElement) → C a b → D a b)
    → Writes elements_of extents_of C old new → Writes elements_of extents_of D old new
writes_as elements_of extents_of C D old new step =
    by_told (content_of (elements_of old) (extents_of old)) (content_of (elements_of new) (extents_of new)) where
      by_told : (was now : Option Lists)
          → IfSome was (λ w. IsBalanced w.0 w.1 → IsSomeAnd now (λ n. IsBalanced n.0 n.1 × C (fulls w) (fulls n)))
          → IfSome was (λ w. IsBalanced w.0 w.1 → IsSomeAnd now (λ n. IsBalanced n.0 n.1 × D (fulls w) (fulls n)))
      by_told None now wrote = tt
      by_told (Some w) None wrote = λ balanced. absurd (wrote balanced)
      by_told (Some w) (Some n) wrote = λ balanced. ((wrote balanced).0, step (fulls w) (fulls n) (wrote balanced).1)

-- ---- a new name

-- the base of an entry that an id made, of an object of a kind
abbrev pub open_base : Base → ℕ → ℕ → Base
open_base base i kind = record base { create = i; delete = 0; obj_type = kind; btype = ELEMENT }

-- a new entry may have any bytes that are not too many
pub new_bytes : (base : Base) (pfs : ℕ) (directory : Obj) (key i kind : ℕ) (bytes : List ℕ)
    → subject_of (key_of base) ≡ entry_subject pfs directory.0 key → 1 ≤ i → 1 ≤ kind → kind ≤ 4 → 1 ≤ length bytes → length bytes ≤ most_payload
    → IsNew (open_base base i kind) META_ZONE bytes
new_bytes base pfs directory key i kind bytes here made some few any most = record {
  element = λ payload. record {
    made = made;
    closed = inl refl;
    obj_type = (some, few);
    btype = refl;
    fits = record {
      known = inr (inr (inl type));
      inode_part = λ other. absurd (omega (arith, type, other));
      other_part = λ _. part;
      inode = λ other. absurd (omega (arith, type, other));
      target = λ other. absurd (omega (arith, type, other));
      file_bytes = λ other. absurd (omega (arith, type, other));
      pfs_object = λ other. absurd (omega (arith, type, other));
      snapshot_object = λ other. absurd (omega (arith, type, other));
      pfs_number = λ other. absurd (omega (arith, type, other));
    };
  };
  unclosed = refl;
  payload_zone = search rules;
  some = any;
  few = most;
} where
  type : base.rec_type ≡ DIRECTORY_ENTRY
  type = ap (λ (s : Subject). s.rec_type) here

  part : part_of base.localization ≡ OTHER_PART
  part = let place = ap (λ (s : Subject). s.localization) here in omega (arith, place)

pub new_entry : (base : Base) (pfs : ℕ) (directory : Obj) (key i kind : ℕ) (bytes : List ℕ) (entry : DirEntry)
    → subject_of (key_of base) ≡ entry_subject pfs directory.0 key → 1 ≤ i → IsEntry entry → 1 ≤ kind → kind ≤ 4 → bytes ≡ entry_bytes entry
    → IsNew (open_base base i kind) META_ZONE bytes
new_entry base pfs directory key i kind bytes entry here made is some few spelled =
    new_bytes base pfs directory key i kind bytes here made some few (omega (arith, size)) (omega (arith, size, is.name.size)) where
      size : length bytes ≡ 8 + length entry.name
      size = ap length spelled ∙ length-entry entry

-- an entry is of its pseudo file system, and no record
pub entry_within : (pfs directory key : ℕ) → IsWithin pfs (entry_subject pfs directory key)
entry_within pfs directory key = record { place = inr refl; no_record = λ is. absurd (omega (arith, is)) }

some_one : (a b : List ℕ) → Some a ≡ Some b → a ≡ b
some_one a b is = cc

none_some : (b : List ℕ) → None ≡ Some b → ⊥
none_some b is = cc

-- a new entry that is closed stays one
entry_steady : (pfs : ℕ) (directory : Obj) (key i : ℕ) (entry : DirEntry) (kind : ℕ) → IsSteady (IsEntryAt pfs directory key i entry kind)
entry_steady pfs directory key i entry kind x e key' type bytes new = record {
  about = ap subject_of key' ∙ new.about;
  made = ap (λ (k : Key). k.create) key' ∙ new.made;
  kind_is = type ∙ new.kind_is;
  entry_is = new.entry_is;
  bytes = bytes ∙ new.bytes;
}

-- where what counted about a subject is closed, nothing counts that did not
pub counts_less : (s : Subject) (C D : Content) → Overrides s None C D → (other : Subject) (bytes : List ℕ) → D other bytes → C other bytes
counts_less s C D over other bytes counts = elim (same_subject other s) [
  | inr differ ↦ (over.elsewhere other bytes differ).0 counts
  | inl same ↦ absurd (none_some bytes ((over.about bytes).0 (subst (λ (z : Subject). D z bytes) same counts)))
]

-- ---- entries that are older

-- an entry of a directory whose entries are older stays from `i` on
pub entry_later : (pfs : ℕ) (directory : Obj) (i t : ℕ) (es : List FullElement) (name : List ℕ) (key : ℕ) (object : Obj) → AreOlder pfs directory i es
    → i ≤ t → HasEntry (Counts es i) pfs directory key name object → HasEntry (Counts es t) pfs directory key name object
entry_later pfs directory i t es name key object older late has = record {
  ranges = has.ranges;
  there = (fresh_later (entry_subject pfs directory.0 key) i t es (entry_bytes (record { obj = object; name = name })) (older key) late).1 has.there;
}

-- and one that is there later was there as of `i`
pub entry_before : (pfs : ℕ) (directory : Obj) (i t : ℕ) (es : List FullElement) (name : List ℕ) (key : ℕ) (object : Obj) → AreOlder pfs directory i es
    → i ≤ t → HasEntry (Counts es t) pfs directory key name object → HasEntry (Counts es i) pfs directory key name object
entry_before pfs directory i t es name key object older late has = record {
  ranges = has.ranges;
  there = (fresh_later (entry_subject pfs directory.0 key) i t es (entry_bytes (record { obj = object; name = name })) (older key) late).0 has.there;
}

-- ---- a name that is added

module _ (pfs : ℕ) (directory : Obj) (key i : ℕ) (entry : DirEntry) (kind : ℕ) (is : IsEntry entry) (es mid es' : List FullElement)
    (wrote : Rewrites (entry_subject pfs directory.0 key) (Some (entry_bytes entry)) i mid es') (adds : AddsOfType kind mid es') where
  entry_writes : WritesIn pfs i (IsEntryAt pfs directory key i entry kind) mid es'
  entry_writes =
      writes_of_type pfs i kind (λ x. IsEntryAt pfs directory key i entry x.obj_type x) (IsEntryAt pfs directory key i entry kind) mid es'
      (λ x new. record { about = new.about; made = new.made; kind_is = refl; entry_is = new.entry_is; bytes = new.bytes })
      (λ x new type. record { about = new.about; made = new.made; kind_is = type; entry_is = new.entry_is; bytes = new.bytes })
      adds
      (writes_within pfs i (entry_subject pfs directory.0 key) (Some (entry_bytes entry)) (λ x. IsEntryAt pfs directory key i entry x.obj_type x) mid es'
      (entry_within pfs directory.0 key)
      (λ x about made now. record {
        about = about;
        made = made;
        kind_is = refl;
        entry_is = is;
        bytes = sym (some_one (entry_bytes entry) x.bytes now);
      }) wrote)

  entry_shows : (t : ℕ) (tree : FileTree) → i ≤ t → CountsNothing (Counts mid t) (entry_subject pfs directory.0 key)
      → LacksName (Counts mid t) pfs directory entry.name → HasView (Counts mid t) pfs tree
      → HasView (Counts es' t) pfs (with_name tree directory entry.name entry.obj)
  entry_shows t tree late unused lacks has =
      new_shown pfs directory key entry (Counts mid t) (Counts es' t)
      (record { ranges = is; unused = unused; counts = wrote.present t late }) tree has lacks

  all_writes : (hidden : Bool) → Clears hidden (entry_subject pfs directory.0 key) i es mid → WritesIn pfs i (IsEntryAt pfs directory key i entry kind) es es'
  all_writes false same = subst (λ (l : List FullElement). WritesIn pfs i (IsEntryAt pfs directory key i entry kind) l es') same entry_writes
  all_writes true closed =
      writes_again pfs i (IsEntryAt pfs directory key i entry kind) es mid es' (entry_steady pfs directory key i entry kind)
      (writes_within pfs i (entry_subject pfs directory.0 key) None (IsEntryAt pfs directory key i entry kind) es mid (entry_within pfs directory.0 key)
      (λ x about made now. absurd (none_some x.bytes now)) closed)
      entry_writes

  all_shows : (hidden : Bool) → Clears hidden (entry_subject pfs directory.0 key) i es mid → AreOlder pfs directory i es
      → CanTakeAt (Counts es i) pfs directory key hidden → LacksName (Counts es i) pfs directory entry.name
      → Shows pfs i (λ tree. with_name tree directory entry.name entry.obj) es es'
  all_shows false same older takes lacks t tree late has =
      entry_shows t tree late
      (λ bytes counts. takes bytes ((fresh_later (entry_subject pfs directory.0 key) i t es bytes (older key) late).0
      (subst (λ (l : List FullElement). Counts l t (entry_subject pfs directory.0 key) bytes) same counts)))
      (λ other object there. lacks other object (entry_before pfs directory i t es entry.name other object older late
      (subst (λ (l : List FullElement). HasEntry (Counts l t) pfs directory other entry.name object) same there)))
      (subst (λ (l : List FullElement). HasView (Counts l t) pfs tree) (sym same) has)
  all_shows true closed older (inl nothing) lacks t tree late has =
      entry_shows t tree late
      (λ bytes counts. none_some bytes ((over.about bytes).0 counts))
      (λ other object there. lacks other object (entry_before pfs directory i t es entry.name other object older late (record {
        ranges = there.ranges;
        there = (same (entry_subject pfs directory.0 other) (entry_bytes (record { obj = object; name = entry.name }))).0 there.there;
      })))
      (record {
        settled = λ s a b first second. has.settled s a b ((same s a).0 first) ((same s b).0 second);
        view = view_same pfs tree (Counts es t) (Counts mid t) same has.view;
      })
    where
      over : Overrides (entry_subject pfs directory.0 key) None (Counts es t) (Counts mid t)
      over = closed.present t late

      unused : CountsNothing (Counts es t) (entry_subject pfs directory.0 key)
      unused bytes counts = nothing bytes ((fresh_later (entry_subject pfs directory.0 key) i t es bytes (older key) late).0 counts)

      same : CountSame (Counts es t) (Counts mid t)
      same s bytes = elim (same_subject s (entry_subject pfs directory.0 key)) [
        | inr differ ↦ over.elsewhere s bytes differ
        | inl is ↦ (
          λ counts. absurd (none_some bytes ((over.about bytes).0 (subst (λ (z : Subject). Counts mid t z bytes) is counts))),
          λ counts. absurd (unused bytes (subst (λ (z : Subject). Counts es t z bytes) is counts)),
        )
      ]
  all_shows true closed older (inr takes) lacks t tree late has =
      entry_shows t tree late
      (λ bytes counts. none_some bytes ((over.about bytes).0 counts))
      (λ other object there. lacks other object (entry_before pfs directory i t es entry.name other object older late (less other object there)))
      (later_gone pfs directory key gone (Counts es t) (Counts mid t) (record {
        there = entry_later pfs directory i t es takes.name key takes.object older late takes.there;
        counts = over;
      }) tree has (record {
        other = takes.earlier.other;
        object = takes.earlier.object;
        there = entry_later pfs directory i t es takes.name takes.earlier.other takes.earlier.object older late takes.earlier.there;
        earlier = takes.earlier.earlier;
      }))
    where
      over : Overrides (entry_subject pfs directory.0 key) None (Counts es t) (Counts mid t)
      over = closed.present t late

      gone : DirEntry
      gone = record { obj = takes.object; name = takes.name }

      less : (other : ℕ) (object : Obj) → HasEntry (Counts mid t) pfs directory other entry.name object
          → HasEntry (Counts es t) pfs directory other entry.name object
      less other object there = record {
        ranges = there.ranges;
        there = counts_less (entry_subject pfs directory.0 key) (Counts es t) (Counts mid t) over (entry_subject pfs directory.0 other)
            (entry_bytes (record { obj = object; name = entry.name })) there.there;
      }

  -- for another subject the same counts, as of any id
  all_beside : (hidden : Bool) → Clears hidden (entry_subject pfs directory.0 key) i es mid → (t : ℕ) (s : Subject) (bytes : List ℕ)
      → s ≢ entry_subject pfs directory.0 key → Counts es' t s bytes ↔ Counts es t s bytes
  all_beside hidden clears t s bytes differ = (
    λ counts. (first hidden clears).0 ((since mid es' (Some (entry_bytes entry)) wrote).0 counts),
    λ counts. (since mid es' (Some (entry_bytes entry)) wrote).1 ((first hidden clears).1 counts),
  ) where
    since : (a b : List FullElement) (now : Option (List ℕ)) → Rewrites (entry_subject pfs directory.0 key) now i a b
        → Counts b t s bytes ↔ Counts a t s bytes
    since a b now rewrites = elim (cases_lt t i) [
      | inl below ↦ ((rewrites.past t below s bytes).0, (rewrites.past t below s bytes).1)
      | inr late ↦ (rewrites.present t late).elsewhere s bytes differ
    ]

    first : (hidden : Bool) → Clears hidden (entry_subject pfs directory.0 key) i es mid → Counts mid t s bytes ↔ Counts es t s bytes
    first false same = (
      subst (λ (l : List FullElement). Counts l t s bytes) same,
      subst (λ (l : List FullElement). Counts l t s bytes) (sym same),
    )
    first true closed = since es mid None closed

  -- what followed before follows still, since no open entry is left behind
  all_follow : (hidden : Bool) → Clears hidden (entry_subject pfs directory.0 key) i es mid → CanTakeAt (Counts es i) pfs directory key hidden
      → StillFollow es es'
  all_follow hidden clears takes =
      follow_twice es mid es' (first hidden clears)
      (adding_follows (entry_subject pfs directory.0 key) (Some (entry_bytes entry)) i mid es' (λ is. absurd (omega (arith, is)))
      (unused hidden clears takes) wrote)
    where
      first : (hidden : Bool) → Clears hidden (entry_subject pfs directory.0 key) i es mid → StillFollow es mid
      first false same = subst (λ (l : List FullElement). StillFollow es l) (sym same) (λ other t follow. follow)
      first true closed = closing_follows (entry_subject pfs directory.0 key) i es mid closed

      unused : (hidden : Bool) → Clears hidden (entry_subject pfs directory.0 key) i es mid → CanTakeAt (Counts es i) pfs directory key hidden
          → CountsNothing (Counts mid i) (entry_subject pfs directory.0 key)
      unused false same takes = subst (λ (l : List FullElement). CountsNothing (Counts l i) (entry_subject pfs directory.0 key)) (sym same) takes
      unused true closed takes = λ bytes counts. none_some bytes (((closed.present i (omega arith)).about bytes).0 counts)

pub adds_name : (pfs : ℕ) (directory : Obj) (spot : Spot) (i : ℕ) (entry : DirEntry) (kind : ℕ) (s : Subject) (bytes : List ℕ)
    (es mid es' : List FullElement) → s ≡ entry_subject pfs directory.0 spot.key → bytes ≡ entry_bytes entry → IsEntry entry
    → AreOlder pfs directory i es → Clears spot.hidden s i es mid → Rewrites s (Some bytes) i mid es' → AddsOfType kind mid es'
    → AddsName pfs directory spot i entry kind es es'
adds_name pfs directory spot i entry kind s bytes es mid es' here spelled is older clears rewrites adds = record {
  writes = writes;
  shows = all_shows pfs directory spot.key i entry kind is es mid es' wrote adds spot.hidden cleared older;
  fits = λ hash fit. keys_fit_still pfs i (IsEntryAt pfs directory spot.key i entry kind) hash es es' writes (new_fits hash fit);
  beside = all_beside pfs directory spot.key i entry kind is es mid es' wrote adds spot.hidden cleared;
  follows = all_follow pfs directory spot.key i entry kind is es mid es' wrote adds spot.hidden cleared;
} where
  wrote : Rewrites (entry_subject pfs directory.0 spot.key) (Some (entry_bytes entry)) i mid es'
  wrote =
      subst (λ (z : Subject). Rewrites z (Some (entry_bytes entry)) i mid es') here
      (subst (λ (b : List ℕ). Rewrites s (Some b) i mid es') spelled rewrites)

  cleared : Clears spot.hidden (entry_subject pfs directory.0 spot.key) i es mid
  cleared = subst (λ (z : Subject). Clears spot.hidden z i es mid) here clears

  writes : WritesIn pfs i (IsEntryAt pfs directory spot.key i entry kind) es es'
  writes = all_writes pfs directory spot.key i entry kind is es mid es' wrote adds spot.hidden cleared

  new_fits : (hash : List ℕ → ℕ) → KeyFits hash spot.key entry.name → (x : FullElement) (found : DirEntry)
      → IsEntryAt pfs directory spot.key i entry kind x → x.key.rec_type ≡ DIRECTORY_ENTRY → IsEntry found → x.bytes ≡ entry_bytes found
      → KeyFits hash x.key.key found.name
  new_fits hash fit x found new type ranges spelled' =
      subst (λ (k : ℕ). KeyFits hash k found.name) (sym (ap (λ (z : Subject). z.key) new.about))
      (subst (λ (n : List ℕ). KeyFits hash spot.key n) (name_one entry found (sym new.bytes ∙ spelled')) fit)
