-- The triples that elements make, as a value with its fact, and so their tree.
use Rattle.std.proofs.Common.{◌≡◌, ℕ, ◌+◌, ◌<◌, List, [], ◌∷◌, length, get_or, take, refl, sym, ap, subst, ◌∙◌, inl, inr}
use Rattle.std.specs.Prelude.{Option, None, Some}
use Rattle.std.specs.List.{All}
use Rattle.std.specs.Str.{bytes_eq}
use Rattle.std.proofs.lemmas.List.Elements.{All-contains}
use Rattle.hm_types.specs.Elements.{FullElement}
use Rattle.hm_types.specs.Tree.{FileTree, insert_by, is_triple_before}
use Rattle.hm_types.specs.declared.id.Obj.{Obj}
use Rattle.hm_types.specs.declared.object.Triple.{Triple}
use Rattle.hm_key.specs.Counts.{Counts, Subject, entry_subject, subject_of}
use Rattle.hm_key.specs.Versions.{HaveOwnKeys}
use Rattle.hm_records.specs.Laws.{triple_of}
use Rattle.hm_records.specs.Payload.{IsPayload, SpellsEntry}
use Rattle.hm_records.specs.PlainView.{HasTriple, HoldsTriples, IsCounted, IsEarlierEntry, IsEntryAt, NameLeadsTo, IsFirstKey, IsLess, IsNewTriple, tree_of}
use Rattle.hm_records.specs.View.{HasEntry, IsViewOf}
use Rattle.hm_records.specs.declared.entry.DirEntry.{DirEntry}
use Rattle.hm_records.proofs.CountsLemmas.{settled}
use Rattle.hm_records.proofs.MemberLemmas.{has_cases, has_head, has_none, has_tail}
use Rattle.hm_records.proofs.NameLemmas.{stands_or_not}
use Rattle.hm_records.proofs.PlainTreeLemmas.{earlier_test, entry_none, first_none, first_some, first_there, key_passed, key_taken, no_entry_at}
use Rattle.hm_records.proofs.PlainTreeLemmas.{triple_known, triple_lacks, triple_new, triple_none, triples_added, triples_passed, view_held}
use Rattle.hm_records.proofs.SubjectLemmas.{same_subject}
use Rattle.hm_records.proofs.SearchLemmas.{Decided, counted_of, decided_by, less_or_not, walked}
use Rattle.hm_step.proofs.ObjectValueLemmas.{objects_of}

module _ (es : List FullElement) (t pfs : ℕ) (own : HaveOwnKeys es) (payloads : All IsPayload es) where
  -- ---- entries

  -- an entry that counts is spelled
  spelled : (directory : Obj) (key : ℕ) (bytes : List ℕ) → Counts es t (entry_subject pfs directory.0 key) bytes → SpellsEntry bytes
  spelled directory key bytes counts =
      let payload : IsPayload counts.element = All-contains IsPayload es counts.element payloads counts.there in
      subst SpellsEntry counts.holds (payload.entry (ap (λ (s : Subject). s.rec_type) counts.about))

  abbrev EntryAt : Obj → ℕ → Type 0
  EntryAt directory key = (entry : Option DirEntry) × IsEntryAt (Counts es t) pfs directory key entry

  entry_by : (directory : Obj) (key : ℕ) (bytes : Option (List ℕ)) → IsCounted es t (entry_subject pfs directory.0 key) bytes → EntryAt directory key
  entry_by directory key None none = (None, no_entry_at es t pfs directory key none)
  entry_by directory key (Some bytes) counts =
      let (entry, ranges, same) = spelled directory key bytes counts in (
        Some entry,
        record {
          ranges = ranges;
          there = subst (λ (b : List ℕ). Counts es t (entry_subject pfs directory.0 key) b) same counts;
        },
      )

  -- what a directory has under a key
  entry_at : (directory : Obj) (key : ℕ) → EntryAt directory key
  entry_at directory key = let (bytes, counts) = counted_of es t (entry_subject pfs directory.0 key) in entry_by directory key bytes counts

  -- ---- the first entry of a name

  module _ (directory : Obj) (name : List ℕ) where
    earlier_by : (first : Option ℕ) (e : FullElement) → subject_of e.key ≡ entry_subject pfs directory.0 e.key.key → IsLess e.key.key first
        → (entry : Option DirEntry) → IsEntryAt (Counts es t) pfs directory e.key.key entry → Decided (IsEarlierEntry (Counts es t) pfs directory name first e)
    earlier_by first e about before None none = inr (λ earlier. none name earlier.named.0 earlier.named.1)
    earlier_by first e about before (Some entry) has =
        decided_by (bytes_eq entry.name name) (earlier_test (Counts es t) pfs directory name first e entry (settled es t own) about before has)

    earlier_or_not : (first : Option ℕ) (e : FullElement) → Decided (IsEarlierEntry (Counts es t) pfs directory name first e)
    earlier_or_not first e = elim (same_subject (subject_of e.key) (entry_subject pfs directory.0 e.key.key)) [
      | inr other ↦ inr (λ earlier. other earlier.about)
      | inl about ↦ elim (less_or_not e.key.key first) [
        | inr later ↦ inr (λ earlier. later earlier.before)
        | inl before ↦ let (entry, has) = entry_at directory e.key.key in earlier_by first e about before entry has
      ]
    ]

    abbrev FirstKey : List FullElement → Type 0
    FirstKey xs = (first : Option ℕ) × IsFirstKey (Counts es t) pfs directory name xs first

    first_key : FirstKey es
    first_key = walked es FirstKey (None, λ e has about named. has_none e has) (λ i x below is so_far.
        elim (earlier_or_not so_far.0 x) [
          | inl earlier ↦ (Some x.key.key, key_taken (Counts es t) pfs directory name es i x below is so_far.0 so_far.1 earlier)
          | inr not ↦ (so_far.0, key_passed (Counts es t) pfs directory name es i x below is so_far.0 so_far.1 not)
        ])

    abbrev FirstEntry : Type 0
    FirstEntry = (object : Option Obj) × NameLeadsTo (Counts es t) pfs directory name object

    first_at : (key : ℕ) → IsFirstKey (Counts es t) pfs directory name es (Some key) → (entry : Option DirEntry)
        → IsEntryAt (Counts es t) pfs directory key entry → FirstEntry
    first_at key least None none = absurd (first_there (Counts es t) pfs directory name es key least none)
    first_at key least (Some entry) has = (Some entry.obj, first_some es t pfs directory name key entry own least has)

    first_by : (first : Option ℕ) → IsFirstKey (Counts es t) pfs directory name es first → FirstEntry
    first_by None none = (None, first_none es t pfs directory name none)
    first_by (Some key) least = let (entry, has) = entry_at directory key in first_at key least entry has

    -- the object to which a name leads
    first_entry : FirstEntry
    first_entry = let (first, is) = first_key in first_by first is

  -- ---- triples

  triple_or_not : (triples : List Triple) (directory : Obj) (name : List ℕ) → Decided (HasTriple triples directory name)
  triple_or_not [] directory name = inr (λ has. has_none has.0 has.1)
  triple_or_not (u ∷ us) directory name = elim (stands_or_not directory name u) [
    | inl here ↦ inl (u, has_head u us, here.0, here.1)
    | inr not ↦ elim (triple_or_not us directory name) [
      | inl later ↦ inl (later.0, has_tail u later.0 us later.1, later.2, later.3)
      | inr none ↦ inr (λ has. elim (has_cases u has.0 us has.1) [
        | inl first ↦ not (ap (λ (v : Triple). v.directory.0) (sym first) ∙ has.2, ap (λ (v : Triple). v.name) (sym first) ∙ has.3)
        | inr later ↦ none (has.0, later, has.2, has.3)
      ])
    ]
  ]

  abbrev NewTriple : FullElement → List Triple → Type 0
  NewTriple e triples = (new : Option Triple) × IsNewTriple (Counts es t) pfs e triples new

  module _ (e : FullElement) (directory : Obj) (triples : List Triple) (about : subject_of e.key ≡ entry_subject pfs directory.0 e.key.key) where
    new_with : (entry : DirEntry) → HasEntry (Counts es t) pfs directory e.key.key entry.name entry.obj → (HasTriple triples directory entry.name → ⊥)
        → (object : Option Obj) → NameLeadsTo (Counts es t) pfs directory entry.name object → NewTriple e triples
    new_with entry has new None lacks = (None, triple_lacks (Counts es t) pfs e directory entry triples has lacks)
    new_with entry has new (Some object) is =
        (Some (triple_of directory entry.name object), triple_new (Counts es t) pfs e directory object entry triples about has new is)

    new_by : (entry : Option DirEntry) → IsEntryAt (Counts es t) pfs directory e.key.key entry → NewTriple e triples
    new_by None none = (None, entry_none (Counts es t) pfs e directory triples about none)
    new_by (Some entry) has = elim (triple_or_not triples directory entry.name) [
      | inl known ↦ (None, triple_known (Counts es t) pfs e directory entry triples (settled es t own) about has known)
      | inr new ↦ let (object, is) = first_entry directory entry.name in new_with entry has new object is
    ]

  -- the triple of an element's entry that is not among these, if there is one
  new_triple : (e : FullElement) (triples : List Triple) → NewTriple e triples
  new_triple e triples =
      let directory : Obj = record { 0 = e.key.obj } in
      elim (same_subject (subject_of e.key) (entry_subject pfs directory.0 e.key.key)) [
        | inr other ↦ (None, triple_none (Counts es t) pfs e directory triples refl other)
        | inl about ↦ let (entry, has) = entry_at directory e.key.key in new_by e directory triples about entry has
      ]

  abbrev HeldTriples : List FullElement → Type 0
  HeldTriples xs = (triples : List Triple) × HoldsTriples (Counts es t) pfs xs triples

  module _ (i : ℕ) (x : FullElement) (below : i < length es) (is : x ≡ get_or es i x) where
    one_more : (triples : List Triple) → HoldsTriples (Counts es t) pfs (take i es) triples → (new : Option Triple)
        → IsNewTriple (Counts es t) pfs x triples new → HeldTriples (take (i + 1) es)
    one_more triples holds None none = (triples, triples_passed (Counts es t) pfs (settled es t own) es i x below is triples holds none)
    one_more triples holds (Some new) added =
        (insert_by is_triple_before new triples, triples_added (Counts es t) pfs (settled es t own) es i x below is triples new holds added)

  triples_none : HoldsTriples (Counts es t) pfs [] []
  triples_none = record { rise = tt; sound = λ u has. absurd (has_none u has); complete = λ e u has there of. absurd (has_none e has) }

  -- the triples that the elements make
  triples_of : HeldTriples es
  triples_of = walked es HeldTriples ([], triples_none) (λ i x below is so_far.
      let (new, is_new) = new_triple x so_far.0 in
      one_more i x below is so_far.0 so_far.1 new is_new)

-- elements with keys of their own, whose payloads keep their grammar, make a tree
pub tree_for : (es : List FullElement) → HaveOwnKeys es → All IsPayload es → (pfs t : ℕ) → (tree : FileTree) × IsViewOf es pfs t tree
tree_for es own payloads pfs t =
    let (objects, are_objects) = objects_of es t pfs own payloads in
    let (triples, are_triples) = triples_of es t pfs own payloads in
    (tree_of objects triples, view_held es t pfs objects triples are_objects are_triples)
