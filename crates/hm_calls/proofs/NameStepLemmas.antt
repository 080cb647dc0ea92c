-- Names that come and go in steps, with what they lead to.
use Rattle.std.proofs.Common.{◌≡◌, ℕ, ◌-◌, ◌<◌, ◌≤◌, List, Bool, true, false, refl, sym, ap, subst, inl, inr, arith}
use Rattle.std.specs.Prelude.{◌⊎◌, if◌then◌else◌}
use Rattle.std.specs.Bool.{nat_lt}
use Rattle.std.proofs.lemmas.Bool.{lt-ltb, ltb-true}
use Rattle.hm_types.specs.Elements.{FullElement}
use Rattle.hm_types.specs.Tree.{FileTree, with_change, with_links, with_name, without_name, without_object}
use Rattle.hm_types.specs.declared.id.Obj.{Obj}
use Rattle.hm_types.specs.declared.object.Object.{Object}
use Rattle.hm_key.specs.Counts.{Counts, Subject, bytes_subject, entry_subject, inode_subject, target_subject}
use Rattle.hm_records.specs.Changes.{CountsNothing, LacksName}
use Rattle.hm_records.specs.Entry.{entry_bytes}
use Rattle.hm_records.specs.Follows.{StillFollow}
use Rattle.hm_records.specs.KeysFit.{KeysFit}
use Rattle.hm_records.specs.Laws.{HasView, with_inode}
use Rattle.hm_records.specs.View.{HasEntry, kind_number}
use Rattle.hm_records.specs.declared.kind.TheConstants.{FILE}
use Rattle.hm_records.proofs.NameLemmas.{Stands, same_obj, stands_or_not}
use Rattle.hm_cursor.specs.Views.{IsNothing, Shows, WritesIn}
use Rattle.hm_cursor.proofs.FollowLemmas.{follow_twice}
use Rattle.hm_cursor.proofs.ViewsLemmas.{shows_twice}
use Rattle.hm_objects.specs.Objects.{AddsObject, ChangesBy, IsGone, IsOfObject, KeepEntries}
use Rattle.hm_dirs.specs.Names.{CanTakeAt, IsEntryAt, IsHidden, TakesName}
use Rattle.hm_dirs.specs.declared.spot.Spot.{Spot}
use Rattle.hm_calls.specs.New.{kind_by, object_by}
use Rattle.hm_calls.specs.declared.new.New.{New}
use Rattle.hm_calls.specs.declared.new.New.TheVariants.{Directory, File, Softlink, Snapshot}
use Rattle.hm_calls.specs.Writes.{AllCame, DropsLink, DropsObject, IsNewIn, NamesNothing, IsOpen, NamesObject, LeavesNothing, Place, PutsLink, PutsName}
use Rattle.hm_calls.specs.Writes.{PutsObject, Renames, ReplacesName, TakesDirectory, TakesLink, less_link}
use Rattle.hm_calls.proofs.StepLemmas.{entry_leads, leads_then, new_entry, new_of_object, no_entries_then, no_entry_none, no_entry_of_object}
use Rattle.hm_calls.proofs.StepLemmas.{none_new, steps_twice}

-- ---- where a name may be added

-- entries that count as before are the same entries
entry_kept : (pfs t key : ℕ) (directory object : Obj) (name : List ℕ) (es es' : List FullElement) → KeepEntries pfs es es'
    → HasEntry (Counts es t) pfs directory key name object → HasEntry (Counts es' t) pfs directory key name object
entry_kept pfs t key directory object name es es' keep has =
    record { ranges = has.ranges; there = (keep t directory.0 key (entry_bytes (record { obj = object; name = name }))).1 has.there }

entry_before : (pfs t key : ℕ) (directory object : Obj) (name : List ℕ) (es es' : List FullElement) → KeepEntries pfs es es'
    → HasEntry (Counts es' t) pfs directory key name object → HasEntry (Counts es t) pfs directory key name object
entry_before pfs t key directory object name es es' keep has =
    record { ranges = has.ranges; there = (keep t directory.0 key (entry_bytes (record { obj = object; name = name }))).0 has.there }

pub lacks_kept : (pfs t : ℕ) (directory : Obj) (name : List ℕ) (es es' : List FullElement) → KeepEntries pfs es es'
    → LacksName (Counts es t) pfs directory name → LacksName (Counts es' t) pfs directory name
lacks_kept pfs t directory name es es' keep lacks key object has = lacks key object (entry_before pfs t key directory object name es es' keep has)

nothing_kept : (pfs t key directory : ℕ) (es es' : List FullElement) → KeepEntries pfs es es'
    → CountsNothing (Counts es t) (entry_subject pfs directory key) → CountsNothing (Counts es' t) (entry_subject pfs directory key)
nothing_kept pfs t key directory es es' keep nothing bytes there = nothing bytes ((keep t directory key bytes).0 there)

takes_kept : (pfs t key : ℕ) (hidden : Bool) (directory : Obj) (es es' : List FullElement) → KeepEntries pfs es es'
    → CanTakeAt (Counts es t) pfs directory key hidden → CanTakeAt (Counts es' t) pfs directory key hidden
takes_kept pfs t key false directory es es' keep nothing = nothing_kept pfs t key directory.0 es es' keep nothing
takes_kept pfs t key true directory es es' keep (inl nothing) = inl (nothing_kept pfs t key directory.0 es es' keep nothing)
takes_kept pfs t key true directory es es' keep (inr hidden) = inr (record {
  name = hidden.name;
  object = hidden.object;
  there = entry_kept pfs t key directory hidden.object hidden.name es es' keep hidden.there;
  earlier = record {
    other = hidden.earlier.other;
    object = hidden.earlier.object;
    there = entry_kept pfs t hidden.earlier.other directory hidden.earlier.object hidden.name es es' keep hidden.earlier.there;
    earlier = hidden.earlier.earlier;
  };
})

open_kept : (place : Place) (spot : Spot) (i : ℕ) (es es' : List FullElement) → KeepEntries place.pfs es es' → IsOpen place spot i es
    → IsOpen place spot i es'
open_kept place spot i es es' keep is = record {
  takes = takes_kept place.pfs i spot.key spot.hidden place.directory es es' keep is.takes;
  lacks = lacks_kept place.pfs i place.directory place.name es es' keep is.lacks;
}

-- ---- a name after a change of its object

-- the new entry of a name
abbrev NewEntry : Place → Spot → ℕ → Obj → ℕ → FullElement → Type 0
NewEntry place spot i obj kind = IsEntryAt place.pfs place.directory spot.key i (record { obj = obj; name = place.name }) kind

is_new_entry : (place : Place) (spot : Spot) (i : ℕ) (obj : Obj) (kind : ℕ) (x : FullElement) → NewEntry place spot i obj kind x → IsNewIn place.pfs i x
is_new_entry place spot i obj kind = new_entry place.pfs i spot.key place.directory (record { obj = obj; name = place.name }) kind

leads_there : (place : Place) (spot : Spot) (i : ℕ) (obj : Obj) (kind : ℕ) (x : FullElement) → NewEntry place spot i obj kind x → NamesObject obj kind x
leads_there place spot i obj kind = entry_leads place.pfs i spot.key place.directory (record { obj = obj; name = place.name }) kind

pub object_put : (hash : List ℕ → ℕ) (place : Place) (spot : Spot) (i : ℕ) (object : Object) (es mid es' : List FullElement)
    → AddsObject place.pfs i object es mid → PutsName place spot i object.number (kind_number object.kind) mid es'
    → PutsObject hash place spot i object es es'
object_put hash place spot i object es mid es' adds puts = record {
  steps = record {
    writes = steps_twice place.pfs i (IsOfObject place.pfs object.number.0 i) (NewEntry place spot i object.number (kind_number object.kind)) es mid es'
        (new_of_object place.pfs object.number.0 i) (is_new_entry place spot i object.number (kind_number object.kind)) adds.writes puts.writes;
    keys = λ fits keys. puts.fits hash fits (adds.fits hash keys);
  };
  shows = λ opens missing.
      let after = open_kept place spot i es mid adds.entries opens in
      shows_twice place.pfs i (λ tree. with_inode tree object) (λ tree. with_name tree place.directory place.name object.number) es mid es'
      (adds.shows missing) (puts.shows after.takes after.lacks);
  names = leads_then place.pfs i object.number (kind_number object.kind) (IsOfObject place.pfs object.number.0 i)
      (NewEntry place spot i object.number (kind_number object.kind)) es mid es' (no_entry_of_object place.pfs object.number.0 i)
      (leads_there place spot i object.number (kind_number object.kind)) adds.writes puts.writes;
  follows = λ opens missing.
      follow_twice es mid es' (adds.follows missing) (puts.follows (open_kept place spot i es mid adds.entries opens).takes);
}

-- a new object has the id for its number
pub made_number : (new : New) (i : ℕ) → (object_by new i).number ≡ record { 0 = i }
made_number Directory i = refl
made_number File i = refl
made_number (Softlink target) i = refl
made_number Snapshot i = refl

-- and the kind that its entry tells
pub made_kind : (new : New) (i : ℕ) → kind_by new ≡ kind_number (object_by new i).kind
made_kind Directory i = refl
made_kind File i = refl
made_kind (Softlink target) i = refl
made_kind Snapshot i = refl

pub link_put : (hash : List ℕ → ℕ) (place : Place) (spot : Spot) (i : ℕ) (obj : Obj) (links : ℕ) (es mid es' : List FullElement)
    → ChangesBy place.pfs obj.0 i (λ tree. with_change tree obj (with_links links)) es mid → PutsName place spot i obj FILE mid es'
    → PutsLink hash place spot i obj links es es'
link_put hash place spot i obj links es mid es' changes puts = record {
  steps = record {
    writes = steps_twice place.pfs i (IsOfObject place.pfs obj.0 i) (NewEntry place spot i obj FILE) es mid es'
        (new_of_object place.pfs obj.0 i) (is_new_entry place spot i obj FILE) changes.writes puts.writes;
    keys = λ fits keys. puts.fits hash fits (changes.fits hash keys);
  };
  shows = λ opens.
      let after = open_kept place spot i es mid changes.entries opens in
      shows_twice place.pfs i (λ tree. with_change tree obj (with_links links)) (λ tree. with_name tree place.directory place.name obj) es mid es'
      changes.shows (puts.shows after.takes after.lacks);
  names = leads_then place.pfs i obj FILE (IsOfObject place.pfs obj.0 i) (NewEntry place spot i obj FILE) es mid es'
      (no_entry_of_object place.pfs obj.0 i) (leads_there place spot i obj FILE) changes.writes puts.writes;
  follows = λ opens.
      follow_twice es mid es' changes.follows (puts.follows (open_kept place spot i es mid changes.entries opens).takes);
}

-- ---- a name that goes, and then its object

pub link_taken : (hash : List ℕ → ℕ) (place : Place) (i : ℕ) (obj : Obj) (links : ℕ) (es mid es' : List FullElement)
    → TakesName hash place.pfs place.directory place.name i es mid → DropsLink place.pfs i obj links mid es' → TakesLink hash place i obj links es es'
link_taken hash place i obj links es mid es' takes drops = record {
  steps = record {
    writes = steps_twice place.pfs i IsNothing (IsOfObject place.pfs obj.0 i) es mid es' (none_new place.pfs i)
        (new_of_object place.pfs obj.0 i) takes.writes drops.changes.writes;
    keys = λ _ keys. drops.changes.fits hash (takes.fits keys);
  };
  shows = λ keys.
      shows_twice place.pfs i (λ tree. without_name tree place.directory place.name) (λ tree. less_link links obj tree) es mid es'
      (takes.shows keys) drops.changes.shows;
  names = (no_entries_then place.pfs i IsNothing (IsOfObject place.pfs obj.0 i) es mid es' no_entry_none (no_entry_of_object place.pfs obj.0 i)
      takes.writes drops.changes.writes).came;
  leaves = drops.leaves;
  follows = follow_twice es mid es' takes.follows drops.changes.follows;
}

pub directory_taken : (hash : List ℕ → ℕ) (place : Place) (i : ℕ) (obj : Obj) (es mid es' : List FullElement)
    → TakesName hash place.pfs place.directory place.name i es mid → ChangesBy place.pfs obj.0 i (λ tree. without_object tree obj) mid es'
    → IsGone place.pfs obj.0 i es' → TakesDirectory hash place i obj es es'
directory_taken hash place i obj es mid es' takes removes gone = record {
  steps = record {
    writes = steps_twice place.pfs i IsNothing (IsOfObject place.pfs obj.0 i) es mid es' (none_new place.pfs i)
        (new_of_object place.pfs obj.0 i) takes.writes removes.writes;
    keys = λ _ keys. removes.fits hash (takes.fits keys);
  };
  shows = λ keys.
      shows_twice place.pfs i (λ tree. without_name tree place.directory place.name) (λ tree. without_object tree obj) es mid es'
      (takes.shows keys) removes.shows;
  names = (no_entries_then place.pfs i IsNothing (IsOfObject place.pfs obj.0 i) es mid es' no_entry_none (no_entry_of_object place.pfs obj.0 i)
      takes.writes removes.writes).came;
  leaves = gone;
  follows = follow_twice es mid es' takes.follows removes.follows;
}

-- ---- a name that gives way to another one

module _ (hash : List ℕ → ℕ) (pfs : ℕ) (from : Obj) (name : List ℕ) (i : ℕ) (es mid : List FullElement) (takes : TakesName hash pfs from name i es mid) where
  lacks_after : (directory : Obj) (other : List ℕ) → LacksName (Counts es i) pfs directory other → LacksName (Counts mid i) pfs directory other
  lacks_after directory other lacks key object has =
      lacks key object (record {
        ranges = has.ranges;
        there = takes.only i (entry_subject pfs directory.0 key) (entry_bytes (record { obj = object; name = other })) (omega arith) has.there;
      })

  nothing_after : (directory key : ℕ) → CountsNothing (Counts es i) (entry_subject pfs directory key)
      → CountsNothing (Counts mid i) (entry_subject pfs directory key)
  nothing_after directory key nothing bytes there = nothing bytes (takes.only i (entry_subject pfs directory key) bytes (omega arith) there)

  -- an entry that was hidden is so still, or is gone with the others of its name
  hidden_after : (directory : Obj) (key : ℕ) → KeysFit hash es → IsHidden (Counts es i) pfs directory key
      → CanTakeAt (Counts mid i) pfs directory key true
  hidden_after directory key keys hidden = by_name (stands_or_not from name (record {
    directory = directory;
    name = hidden.name;
    object =
        hidden.object;
  })) where
    by_name : Stands from name (record { directory = directory; name = hidden.name; object = hidden.object })
        ⊎ (Stands from name (record { directory = directory; name = hidden.name; object = hidden.object }) → ⊥)
        → CanTakeAt (Counts mid i) pfs directory key true
    by_name (inl (here, same)) =
        let has : HasEntry (Counts es i) pfs from key name hidden.object =
        subst (λ (n : List ℕ). HasEntry (Counts es i) pfs from key n hidden.object) same
        (subst (λ (d : Obj). HasEntry (Counts es i) pfs d key hidden.name hidden.object) (same_obj directory from here) hidden.there) in
        inl (subst (λ (d : ℕ). CountsNothing (Counts mid i) (entry_subject pfs d key)) (sym here)
        (takes.closed keys key hidden.object has i (omega arith)))
    by_name (inr differ) =
        let apart = λ (is : directory ≡ from) (same : hidden.name ≡ name). differ (ap (λ (o : Obj). o.0) is, same) in
        inr (record {
          name = hidden.name;
          object = hidden.object;
          there = takes.beside i key directory hidden.name hidden.object (omega arith) apart hidden.there;
          earlier = record {
            other = hidden.earlier.other;
            object = hidden.earlier.object;
            there = takes.beside i hidden.earlier.other directory hidden.name hidden.earlier.object (omega arith) apart hidden.earlier.there;
            earlier = hidden.earlier.earlier;
          };
        })

  takes_after : (directory : Obj) (key : ℕ) (hidden : Bool) → KeysFit hash es → CanTakeAt (Counts es i) pfs directory key hidden
      → CanTakeAt (Counts mid i) pfs directory key hidden
  takes_after directory key false keys nothing = nothing_after directory.0 key nothing
  takes_after directory key true keys (inl nothing) = inl (nothing_after directory.0 key nothing)
  takes_after directory key true keys (inr hidden) = hidden_after directory key keys hidden

pub name_moved : (hash : List ℕ → ℕ) (old new : Place) (spot : Spot) (i : ℕ) (obj : Obj) (kind : ℕ) (es mid es' : List FullElement)
    → TakesName hash new.pfs old.directory old.name i es mid → PutsName new spot i obj kind mid es' → Renames hash old new spot i obj kind es es'
name_moved hash old new spot i obj kind es mid es' takes puts = record {
  steps = record {
    writes = steps_twice new.pfs i IsNothing (NewEntry new spot i obj kind) es mid es' (none_new new.pfs i) (is_new_entry new spot i obj kind)
        takes.writes puts.writes;
    keys = λ fits keys. puts.fits hash fits (takes.fits keys);
  };
  shows = λ keys fits opens differ.
      shows_twice new.pfs i (λ tree. without_name tree old.directory old.name) (λ tree. with_name tree new.directory new.name obj) es mid es'
      (takes.shows keys)
      (puts.shows (takes_after hash new.pfs old.directory old.name i es mid takes new.directory spot.key spot.hidden keys opens.takes)
      (lacks_after hash new.pfs old.directory old.name i es mid takes new.directory new.name opens.lacks));
  names = leads_then new.pfs i obj kind IsNothing (NewEntry new spot i obj kind) es mid es' no_entry_none (leads_there new spot i obj kind) takes.writes
      puts.writes;
  follows = λ keys opens.
      follow_twice es mid es' takes.follows
      (puts.follows (takes_after hash new.pfs old.directory old.name i es mid takes new.directory spot.key spot.hidden keys opens.takes));
}

-- ---- links

pub link_less : (pfs i : ℕ) (obj : Obj) (links : ℕ) (es es' : List FullElement) → 1 < links
    → ChangesBy pfs obj.0 i (λ tree. with_change tree obj (with_links (links - 1))) es es' → DropsLink pfs i obj links es es'
link_less pfs i obj links es es' more changes = record {
  changes =
      subst (λ (b : Bool). ChangesBy pfs obj.0 i (λ tree. if b then with_change tree obj (with_links (links - 1)) else without_object tree obj) es es')
      (sym (lt-ltb 1 links more)) changes;
  leaves = λ few. absurd (omega (arith, few, more));
}

pub last_link : (pfs i : ℕ) (obj : Obj) (links : ℕ) (es es' : List FullElement) → links ≤ 1 → DropsObject pfs i obj es es'
    → DropsLink pfs i obj links es es'
last_link pfs i obj links es es' few drops = record { changes = by_test (nat_lt 1 links) refl; leaves = λ _. drops.leaves } where
  by_test : (b : Bool) → nat_lt 1 links ≡ b → ChangesBy pfs obj.0 i (λ tree. less_link links obj tree) es es'
  by_test true is = absurd (omega (arith, few, ltb-true 1 links is))
  by_test false is =
      subst (λ (b : Bool). ChangesBy pfs obj.0 i (λ tree. if b then with_change tree obj (with_links (links - 1)) else without_object tree obj) es es')
      (sym is) drops.changes

-- ---- a name that takes the place of another one

-- a name goes before a link or after it, and the tree is the same
name_and_link : (b : Bool) (links : ℕ) (obj directory : Obj) (name : List ℕ) (tree : FileTree)
    → (if b then with_change (without_name tree directory name) obj (with_links links) else without_object (without_name tree directory name) obj)
    ≡ without_name (if b then with_change tree obj (with_links links) else without_object tree obj) directory name
name_and_link true links obj directory name tree = refl
name_and_link false links obj directory name tree = refl

module _ (hash : List ℕ → ℕ) (old new : Place) (key i : ℕ) (obj : Obj) (kind : ℕ) (there : Obj) (links : ℕ)
    (es one two three es' : List FullElement)
    (first : TakesName hash new.pfs new.directory new.name i es one) (second : TakesName hash new.pfs old.directory old.name i one two)
    (third : DropsLink new.pfs i there links two three) (last : PutsName new (record { key = key; hidden = false }) i obj kind three es') where
  abbrev spot : Spot
  spot = record { key = key; hidden = false }

  replaced_writes : WritesIn new.pfs i (IsNewIn new.pfs i) es es'
  replaced_writes =
      steps_twice new.pfs i (IsNewIn new.pfs i) (NewEntry new spot i obj kind) es three es' (λ x is. is) (is_new_entry new spot i obj kind)
      (steps_twice new.pfs i (IsNewIn new.pfs i) (IsOfObject new.pfs there.0 i) es two three (λ x is. is) (new_of_object new.pfs there.0 i)
      (steps_twice new.pfs i IsNothing IsNothing es one two (none_new new.pfs i) (none_new new.pfs i) first.writes second.writes) third.changes.writes)
      last.writes

  -- the key of the entry is free, and the name as well
  replaced_opens : KeysFit hash es → HasEntry (Counts es i) new.pfs new.directory key new.name there → IsOpen new spot i three
  replaced_opens keys has = record {
    takes = nothing_kept new.pfs i key new.directory.0 two three third.changes.entries
        (nothing_after hash new.pfs old.directory old.name i one two second new.directory.0 key (first.closed keys key there has i (omega arith)));
    lacks = lacks_kept new.pfs i new.directory new.name two three third.changes.entries
        (lacks_after hash new.pfs old.directory old.name i one two second new.directory new.name (first.lacks keys i (omega arith)));
  }

  replaced_shows : KeysFit hash es → HasEntry (Counts es i) new.pfs new.directory key new.name there
      → Shows new.pfs i (λ tree. with_name (less_link links there (without_name (without_name tree new.directory new.name) old.directory old.name))
      new.directory new.name obj) es es'
  replaced_shows keys has =
      let opens = replaced_opens keys has in
      shows_twice new.pfs i (λ tree. less_link links there (without_name (without_name tree new.directory new.name) old.directory old.name))
      (λ tree. with_name tree new.directory new.name obj) es three es'
      (shows_twice new.pfs i (λ tree. without_name (without_name tree new.directory new.name) old.directory old.name)
      (λ tree. less_link links there tree) es two three
      (shows_twice new.pfs i (λ tree. without_name tree new.directory new.name) (λ tree. without_name tree old.directory old.name) es one two
      (first.shows keys) (second.shows (first.fits keys)))
      third.changes.shows)
      (last.shows opens.takes opens.lacks)

  -- what is left of the object that goes is left after the names
  replaced_leaves : links ≤ 1 → LeavesNothing new.pfs there.0 i es'
  replaced_leaves few =
      let left = third.leaves few in
      record {
        gone = record {
          inode = λ t late bytes counts. left.gone.inode t late bytes ((last.beside t (inode_subject new.pfs there.0) bytes
              (λ is. absurd (omega (arith, ap (λ (s : Subject). s.rec_type) is)))).0 counts);
          target = λ t late bytes counts. left.gone.target t late bytes ((last.beside t (target_subject new.pfs there.0) bytes
              (λ is. absurd (omega (arith, ap (λ (s : Subject). s.rec_type) is)))).0 counts);
        };
        bytes = λ t n late below bytes counts. left.bytes t n late below bytes ((last.beside t (bytes_subject new.pfs there.0 n) bytes
            (λ is. absurd (omega (arith, ap (λ (s : Subject). s.rec_type) is)))).0 counts);
      }

  replaced_names : AllCame (NamesObject obj kind) es es'
  replaced_names =
      leads_then new.pfs i obj kind NamesNothing (NewEntry new spot i obj kind) es three es' (λ x is. is) (leads_there new spot i obj kind)
      (no_entries_then new.pfs i NamesNothing (IsOfObject new.pfs there.0 i) es two three (λ x is. is) (no_entry_of_object new.pfs there.0 i)
      (no_entries_then new.pfs i IsNothing IsNothing es one two no_entry_none no_entry_none first.writes second.writes) third.changes.writes)
      last.writes

  replaced_follow : KeysFit hash es → HasEntry (Counts es i) new.pfs new.directory key new.name there → StillFollow es es'
  replaced_follow keys has =
      follow_twice es three es'
      (follow_twice es two three (follow_twice es one two first.follows second.follows) third.changes.follows)
      (last.follows (replaced_opens keys has).takes)

  pub name_replaced : ReplacesName hash old new key i obj kind there links es es'
  name_replaced = record {
    steps = record {
      writes = replaced_writes;
      keys = λ fits keys. last.fits hash fits (third.changes.fits hash (second.fits (first.fits keys)));
    };
    shows = λ keys fits has differ t tree late view.
        subst (λ (u : FileTree). HasView (Counts es' t) new.pfs (with_name u new.directory new.name obj))
        (name_and_link (nat_lt 1 links) (links - 1) there old.directory old.name (without_name tree new.directory new.name))
        (replaced_shows keys has t tree late view);
    names = replaced_names;
    leaves = replaced_leaves;
    follows = replaced_follow;
  }
