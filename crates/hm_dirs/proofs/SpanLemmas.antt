-- Which keys of a directory are taken, by what a search for the first entry of a span answers.
use Rattle.std.proofs.Common.{◌≡◌, ℕ, ◌+◌, ◌≤◌, List, Option, None, Some, refl, sym, ap, subst, inl, inr, arith}
use Rattle.std.proofs.lemmas.Bool.{cases_lt}
use Rattle.hm_types.specs.Elements.{Key}
use Rattle.hm_types.specs.declared.fault.Fault.{Fault}
use Rattle.hm_types.specs.declared.fault.Fault.TheVariants.{Media, Damaged, NoMemory}
use Rattle.hm_types.specs.declared.id.Obj.{Obj}
use Rattle.hm_key.specs.Balance.{full_elements, payload_of}
use Rattle.hm_key.specs.Counts.{Counts, Subject, entry_subject, subject_of}
use Rattle.hm_key.specs.Extents.{Extent}
use Rattle.hm_key.specs.declared.element.Element.{Element}
use Rattle.hm_records.specs.Changes.{CountsNothing}
use Rattle.hm_records.specs.Entry.{IsSpelled}
use Rattle.hm_records.specs.View.{HasEntry}
use Rattle.hm_cursor.specs.Names.{IsNoEntry}
use Rattle.hm_cursor.specs.Told.{IsPayloadDamage}
use Rattle.hm_cursor.specs.Version.{IsFirst, IsFirstIn}
use Rattle.hm_cursor.proofs.EntryLemmas.{about_entry, first_counts, from_key, none_before, none_in}
use Rattle.hm_dirs.specs.Entries.{AreTaken}

module _ (es : List Element) (xs : List Extent) (at : Key) (pfs : ℕ) (directory : Obj) (key last t : ℕ)
    (here : subject_of at ≡ entry_subject pfs directory.0 key) where
  -- the entry that the payload of the first one spells is there
  pub spelled_there : (e : Element) (name : List ℕ) (object : Obj) → IsFirstIn es at last t e → IsSpelled (payload_of xs e) object name
      → HasEntry (Counts (full_elements es xs) t) pfs directory e.base.key name object
  spelled_there e name object is spelled = record {
    ranges = spelled.0;
    there = subst (λ (bytes : List ℕ). Counts (full_elements es xs) t (entry_subject pfs directory.0 e.base.key) bytes) spelled.1
        (first_counts es xs at pfs directory key last t here e is);
  }

  -- where that spells no entry, it is damaged
  pub first_damage : (e : Element) (fault : Fault) → IsFirstIn es at last t e → IsNoEntry xs e fault → IsPayloadDamage (es, xs) fault
  first_damage e (Media before after) is none = tt
  first_damage e (Damaged place kind) is none = (
    none.1,
    record {
      element = e;
      there = is.counts.there;
      place = sym none.0;
      broken = λ payload. none.2 (payload.entry (ap (λ (s : Subject). s.rec_type) (about_entry es xs at pfs directory key last t here e is.place)));
    },
  )
  first_damage e NoMemory is none = tt

  -- an entry under the next key, after those that are taken
  pub taken_more : (first : ℕ) (e : Element) → IsFirstIn es at last t e → e.base.key ≡ key
      → AreTaken (Counts (full_elements es xs) t) pfs directory first key → AreTaken (Counts (full_elements es xs) t) pfs directory first (key + 1)
  taken_more first e is same taken k from below nothing = elim (cases_lt k key) [
    | inl before ↦ taken k from before nothing
    | inr not ↦ subst (λ (n : ℕ). CountsNothing (Counts (full_elements es xs) t) (entry_subject pfs directory.0 n)) (omega (arith, same, below, not)) nothing
        (payload_of xs e) (first_counts es xs at pfs directory key last t here e is)
  ]

  -- the key at which a search began is free, where an entry of another key was found, or none
  pub free_here : (found : Option Element) → IsFirst es at last t found → key ≤ last → ((e : Element) → found ≡ Some e → e.base.key ≡ key → ⊥)
      → CountsNothing (Counts (full_elements es xs) t) (entry_subject pfs directory.0 key)
  free_here None none to other = none_in es xs at pfs directory key last t here none key (omega arith) to
  free_here (Some e) is to other = elim (cases_lt key e.base.key) [
    | inl before ↦ none_before es xs at pfs directory key last t here e is key (omega arith) before
    | inr not ↦ absurd (other e refl (omega (arith, not, from_key es xs at pfs directory key last t here e is.place)))
  ]
