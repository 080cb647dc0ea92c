-- The entries of one name: under which keys they stand, which were looked at, and which one leads.
use Rattle.std.proofs.Common.{◌≡◌, ℕ, ◌+◌, ◌/◌, ◌^◌, ◌<◌, ◌≤◌, true, false, List, Option, None, Some, ap, sym, subst, ◌∙◌, inl, inr, arith}
use Rattle.std.specs.Prelude.{◌⊎◌, option_map}
use Rattle.std.specs.Option.{option_or}
use Rattle.std.proofs.lemmas.Bool.{cases_lt}
use Rattle.hm_types.specs.Elements.{FullElement, Key}
use Rattle.hm_types.specs.declared.id.Obj.{Obj}
use Rattle.hm_key.specs.Balance.{full_elements, payload_of}
use Rattle.hm_key.specs.Counts.{Content, Counts, Subject, entry_subject, subject_of}
use Rattle.hm_key.specs.Elements.{IsContent}
use Rattle.hm_key.specs.Extents.{Extent}
use Rattle.hm_key.specs.declared.element.Element.{Element}
use Rattle.hm_records.specs.Changes.{IsSettled}
use Rattle.hm_records.specs.Entry.{IsSpelled, entry_bytes}
use Rattle.hm_records.specs.KeysFit.{KeysFit}
use Rattle.hm_records.specs.View.{HasEntry}
use Rattle.hm_records.specs.declared.entry.DirEntry.{DirEntry}
use Rattle.hm_records.proofs.CountsLemmas.{own_keys-sorted, settled}
use Rattle.hm_records.proofs.NameLemmas.{name_one}
use Rattle.hm_cursor.specs.Names.{IsFirstEntry, IsBehind, LeadsAt, IsNameIn, IsObjectNamed, IsPreviousName, LacksNameIn}
use Rattle.hm_cursor.specs.Version.{IsFirst, IsFirstIn, IsLast, IsLastIn, IsNewestOf, numbered}
use Rattle.hm_cursor.proofs.EntryLemmas.{first_counts, none_after, none_before, none_in, numbered_entry, placed_counts}
use Rattle.hm_cursor.proofs.PayloadLemmas.{full_sorted}
use Rattle.hm_cursor.proofs.ToldLemmas.{counts_newest}

-- ---- what counts is settled

pub settled_content : (es : List Element) (xs : List Extent) (t : ℕ) → IsContent es → IsSettled (Counts (full_elements es xs) t)
settled_content es xs t content =
    settled (full_elements es xs) t (own_keys-sorted (full_elements es xs) (full_sorted es xs content.rising))

-- a key under which an entry of another name counts has none of this name
not_named : (es : List Element) (xs : List Extent) (t pfs : ℕ) (directory : Obj) (e : Element) (name : List ℕ) → IsContent es
    → Counts (full_elements es xs) t (entry_subject pfs directory.0 e.base.key) (payload_of xs e) → IsObjectNamed (payload_of xs e) name None
    → (k : ℕ) (object : Obj) → k ≡ e.base.key → HasEntry (Counts (full_elements es xs) t) pfs directory k name object → ⊥
not_named es xs t pfs directory e name content counts (entry, ranges, spelled, other) k object one has =
    let found : DirEntry = record { obj = object; name = name } in
    let there = subst (λ (n : ℕ). Counts (full_elements es xs) t (entry_subject pfs directory.0 n) (entry_bytes found)) one has.there in
    let same : payload_of xs e ≡ entry_bytes found =
    settled_content es xs t content (entry_subject pfs directory.0 e.base.key) (payload_of xs e) (entry_bytes found) counts there in
    other (name_one entry found (sym spelled ∙ same))

-- ---- the keys of a name

-- the key of an entry fits the hash of its name
pub entry_fits : (hash : List ℕ → ℕ) (es : List FullElement) (t pfs : ℕ) (directory : Obj) (key : ℕ) (name : List ℕ) (object : Obj) → KeysFit hash es
    → HasEntry (Counts es t) pfs directory key name object → key / 2 ^ 16 ≡ hash name / 2 / 2 ^ 16
entry_fits hash es t pfs directory key name object fit has =
    let x = has.there.element in
    let about = has.there.about in
    let number : x.key.key ≡ key = ap (λ (s : Subject). s.key) about in
    let fits : x.key.key / 2 ^ 16 ≡ hash name / 2 / 2 ^ 16 =
    fit x (record { obj = object; name = name }) has.there.there (ap (λ (s : Subject). s.rec_type) about) has.ranges has.there.holds in
    subst (λ (n : ℕ). n / 2 ^ 16 ≡ hash name / 2 / 2 ^ 16) number fits

-- ---- which were looked at

module _ (es : List Element) (xs : List Extent) (at : Key) (pfs : ℕ) (directory : Obj) (key last t : ℕ)
    (here : subject_of at ≡ entry_subject pfs directory.0 key) (name : List ℕ) (first : ℕ)
    (lacks : LacksNameIn (Counts (full_elements es xs) t) pfs directory name first key) where
  -- none is found any more
  pub none_lacks : IsFirst es at last t None → LacksNameIn (Counts (full_elements es xs) t) pfs directory name first (last + 1)
  none_lacks none k object from below has = elim (cases_lt k key) [
    | inl before ↦ lacks k object from before has
    | inr later ↦ none_in es xs at pfs directory key last t here none k later (omega (arith, below))
        (entry_bytes (record { obj = object; name = name })) has.there
  ]

  -- none stands before the one that is found
  pub lacks_before : (e : Element) → IsFirstIn es at last t e → LacksNameIn (Counts (full_elements es xs) t) pfs directory name first e.base.key
  lacks_before e is k object from below has = elim (cases_lt k key) [
    | inl before ↦ lacks k object from before has
    | inr later ↦ none_before es xs at pfs directory key last t here e is k later below
        (entry_bytes (record { obj = object; name = name })) has.there
  ]

  -- nor does one stand there, where that is an entry of another name
  pub lacks_more : (e : Element) → IsContent es → IsFirstIn es at last t e → IsObjectNamed (payload_of xs e) name None
      → LacksNameIn (Counts (full_elements es xs) t) pfs directory name first (e.base.key + 1)
  lacks_more e content is other k object from below has = elim (cases_lt k e.base.key) [
    | inl before ↦ lacks_before e is k object from before has
    | inr not ↦ not_named es xs t pfs directory e name content (first_counts es xs at pfs directory key last t here e is) other k object
        (omega (arith, below, not)) has
  ]

-- ---- which were looked at, from the greatest key down

-- what was found above a span that is passed
pub name_over : (counts : Content) (pfs : ℕ) (directory : Obj) (first key last : ℕ) (name : List ℕ) (found : Option (ℕ × Obj))
    → (first ≤ key) ⊎ (found ≡ None) → key < first → IsNameIn counts pfs directory (key + 1) last name found
    → IsNameIn counts pfs directory first last name found
name_over counts pfs directory first key last name None inside past known = λ k object from to has. known k object (omega arith) to has
name_over counts pfs directory first key last name (Some f) inside past known = elim inside [
  | inl low ↦ absurd (omega arith)
  | inr none ↦ absurd (cc)
]

-- what was found is the first of those further down too, where none of these has the name
name_down : (counts : Content) (pfs : ℕ) (directory : Obj) (low key last : ℕ) (name : List ℕ) → low ≤ key + 1
    → ((k : ℕ) (object : Obj) → low ≤ k → k ≤ key → HasEntry counts pfs directory k name object → ⊥)
    → (found : Option (ℕ × Obj)) → IsNameIn counts pfs directory (key + 1) last name found → IsNameIn counts pfs directory low last name found
name_down counts pfs directory low key last name near none None known = λ k object from to has. elim (cases_lt key k) [
  | inl above ↦ known k object (omega arith) to has
  | inr below ↦ none k object from below has
]
name_down counts pfs directory low key last name near none (Some f) known = record {
  there = known.there;
  from = omega (arith, known.from);
  to = known.to;
  least = λ other object from to has. elim (cases_lt key other) [
    | inl above ↦ known.least other object (omega arith) to has
    | inr below ↦ absurd (none other object from below has)
  ];
}

module _ (es : List Element) (xs : List Extent) (at : Key) (pfs : ℕ) (directory : Obj) (first key last t : ℕ)
    (here : subject_of at ≡ entry_subject pfs directory.0 key) (name : List ℕ) where
  start : subject_of (numbered at first) ≡ entry_subject pfs directory.0 first
  start = numbered_entry at pfs directory key first here

  number : at.key ≡ key
  number = ap (λ (s : Subject). s.key) here

  -- none is found any more
  pub none_named : (found : Option (ℕ × Obj)) → first ≤ key → IsLast es (numbered at first) at.key t None
      → IsNameIn (Counts (full_elements es xs) t) pfs directory (key + 1) last name found
      → IsNameIn (Counts (full_elements es xs) t) pfs directory first last name found
  none_named found low none =
      name_down (Counts (full_elements es xs) t) pfs directory first key last name (omega arith)
      (λ k object from to has. none_in es xs (numbered at first) pfs directory first at.key t start none k from (omega (arith, to, number))
      (entry_bytes (record { obj = object; name = name })) has.there)
      found

  -- an entry of another name is found
  other_named : (found : Option (ℕ × Obj)) (e : Element) → IsContent es → IsLastIn es (numbered at first) at.key t e
      → IsObjectNamed (payload_of xs e) name None → IsNameIn (Counts (full_elements es xs) t) pfs directory (key + 1) last name found
      → IsNameIn (Counts (full_elements es xs) t) pfs directory e.base.key last name found
  other_named found e content is other =
      name_down (Counts (full_elements es xs) t) pfs directory e.base.key key last name (omega (arith, is.place.to, number))
      (λ k object from to has. elim (cases_lt e.base.key k) [
        | inl after ↦ none_after es xs (numbered at first) pfs directory first at.key t start e is k after (omega (arith, to, number))
            (entry_bytes (record { obj = object; name = name })) has.there
        | inr not ↦ not_named es xs t pfs directory e name content
            (placed_counts es xs (numbered at first) pfs directory first at.key t start e is.place is.counts) other k object (omega (arith, from, not)) has
      ])
      found

  -- an entry of the name is found: of those from it on it is the first
  here_named : (e : Element) (object : Obj) → key ≤ last → IsLastIn es (numbered at first) at.key t e
      → IsObjectNamed (payload_of xs e) name (Some object)
      → IsNameIn (Counts (full_elements es xs) t) pfs directory e.base.key last name (Some (e.base.key, object))
  here_named e object high is spelled = record {
    there = record {
      ranges = spelled.0;
      there = subst (λ (bytes : List ℕ). Counts (full_elements es xs) t (entry_subject pfs directory.0 e.base.key) bytes) spelled.1
          (placed_counts es xs (numbered at first) pfs directory first at.key t start e is.place is.counts);
    };
    from = omega arith;
    to = omega (arith, is.place.to, number, high);
    least = λ other object' from to has. from;
  }

  -- one more entry was read
  pub named_more : (answer : Option Obj) (found : Option (ℕ × Obj)) (e : Element) → key ≤ last → IsContent es
      → IsLastIn es (numbered at first) at.key t e → IsObjectNamed (payload_of xs e) name answer
      → IsNameIn (Counts (full_elements es xs) t) pfs directory (key + 1) last name found
      → IsNameIn (Counts (full_elements es xs) t) pfs directory e.base.key last name
      (option_or (option_map (λ (object : Obj). (e.base.key, object)) answer) found)
  named_more None found e high content is other known = other_named found e content is other known
  named_more (Some object) found e high content is spelled known = here_named e object high is spelled

-- ---- which entry leads

module _ (es : List Element) (xs : List Extent) (t pfs : ℕ) (directory : Obj) (e : Element)
    (newest : IsNewestOf es (entry_subject pfs directory.0 e.base.key) t e) (name : List ℕ) (object : Obj)
    (spelled : IsSpelled (payload_of xs e) object name) where
  -- what it spells counts
  has_entry : HasEntry (Counts (full_elements es xs) t) pfs directory e.base.key name object
  has_entry = record {
    ranges = spelled.0;
    there = subst (λ (bytes : List ℕ). Counts (full_elements es xs) t (entry_subject pfs directory.0 e.base.key) bytes) spelled.1
        (counts_newest es xs (entry_subject pfs directory.0 e.base.key) t e newest);
  }

  -- it leads not, where an entry of its name stands before it
  pub hidden_leads : IsContent es → IsBehind (Counts (full_elements es xs) t) pfs directory e.base.key name true
      → LeadsAt (es, xs) t pfs directory e.base.key None
  hidden_leads content earlier name' object'' leads =
      let here : DirEntry = record { obj = object; name = name } in
      let there : DirEntry = record { obj = object''; name = name' } in
      let same : entry_bytes here ≡ entry_bytes there =
      settled_content es xs t content (entry_subject pfs directory.0 e.base.key) (entry_bytes here) (entry_bytes there) has_entry.there leads.there.there in
      let one : name ≡ name' = name_one here there same in
      let moved = subst (λ (n : List ℕ). HasEntry (Counts (full_elements es xs) t) pfs directory earlier.other n earlier.object) one earlier.there in
      absurd (omega (arith, earlier.earlier, leads.first earlier.other earlier.object moved))

  -- it leads, where none of its name stands before it under the keys of its hash
  pub entry_leads : IsBehind (Counts (full_elements es xs) t) pfs directory e.base.key name false
      → LeadsAt (es, xs) t pfs directory e.base.key (Some (record { obj = object; name = name }))
  entry_leads none = (
    spelled.0,
    λ hash fit. record {
      there = has_entry;
      first = λ other object' has. elim (cases_lt other e.base.key) [
        | inl before ↦
            let here = entry_fits hash (full_elements es xs) t pfs directory e.base.key name object fit has_entry in
            let there = entry_fits hash (full_elements es xs) t pfs directory other name object' fit has in
            absurd (none other object' (omega (arith, here, there)) before has)
        | inr later ↦ later
      ];
    },
  )

-- ---- which leads before others

-- no entry leads under any key after one up to another
abbrev pub NoneLeads : Content → ℕ → Obj → ℕ → ℕ → Type 0
NoneLeads counts pfs directory low last =
    (key : ℕ) (name : List ℕ) (object : Obj) → low < key → key ≤ last → IsFirstEntry counts pfs directory name key object → ⊥

-- none of the keys from the first one on has an entry that leads
pub none_from : (counts : Content) (pfs : ℕ) (directory : Obj) (first last low : ℕ) → low < first → NoneLeads counts pfs directory low last
    → IsPreviousName counts pfs directory first last None
none_from counts pfs directory first last low past passed key name object from to leads = passed key name object (omega arith) to leads

module _ (es : List Element) (xs : List Extent) (at : Key) (pfs : ℕ) (directory : Obj) (first key last t : ℕ)
    (here : subject_of at ≡ entry_subject pfs directory.0 key) (passed : NoneLeads (Counts (full_elements es xs) t) pfs directory key last) where
  -- none leads any more
  pub none_leads : IsLast es (numbered at first) at.key t None → IsPreviousName (Counts (full_elements es xs) t) pfs directory first last None
  none_leads none k name object from to leads = elim (cases_lt key k) [
    | inl after ↦ passed k name object after to leads
    | inr before ↦ none_in es xs (numbered at first) pfs directory first at.key t (numbered_entry at pfs directory key first here) none k from
        (omega (arith, before, ap (λ (s : Subject). s.key) here)) (entry_bytes (record { obj = object; name = name })) leads.there.there
  ]

  -- none that leads stands after the one that is found
  leads_after : (e : Element) → IsLastIn es (numbered at first) at.key t e → NoneLeads (Counts (full_elements es xs) t) pfs directory e.base.key last
  leads_after e is k name object after to leads = elim (cases_lt key k) [
    | inl above ↦ passed k name object above to leads
    | inr below ↦ none_after es xs (numbered at first) pfs directory first at.key t (numbered_entry at pfs directory key first here) e is k after
        (omega (arith, below, ap (λ (s : Subject). s.key) here)) (entry_bytes (record { obj = object; name = name })) leads.there.there
  ]

  -- nor does that one lead, where it is hidden
  pub leads_past : (e : Element) (low : ℕ) → low + 1 ≡ e.base.key → IsLastIn es (numbered at first) at.key t e
      → LeadsAt (es, xs) t pfs directory e.base.key None → NoneLeads (Counts (full_elements es xs) t) pfs directory low last
  leads_past e low next is hidden k name object after to leads = elim (cases_lt e.base.key k) [
    | inl above ↦ leads_after e is k name object above to leads
    | inr not ↦
        let one : k ≡ e.base.key = omega (arith, after, not, next) in
        hidden name object (subst (λ (n : ℕ). IsFirstEntry (Counts (full_elements es xs) t) pfs directory name n object) one leads)
  ]

  -- and none from the first key on does, where that is the one
  pub leads_over : (e : Element) → e.base.key ≡ first → IsLastIn es (numbered at first) at.key t e → LeadsAt (es, xs) t pfs directory e.base.key None
      → IsPreviousName (Counts (full_elements es xs) t) pfs directory first last None
  leads_over e least is hidden k name object from to leads = elim (cases_lt e.base.key k) [
    | inl above ↦ leads_after e is k name object above to leads
    | inr not ↦
        let one : k ≡ e.base.key = omega (arith, from, not, least) in
        hidden name object (subst (λ (n : ℕ). IsFirstEntry (Counts (full_elements es xs) t) pfs directory name n object) one leads)
  ]

  -- it is the last one, where it leads
  pub previous_leads : (e : Element) (entry : DirEntry) (hash : List ℕ → ℕ) → key ≤ last → IsLastIn es (numbered at first) at.key t e
      → LeadsAt (es, xs) t pfs directory e.base.key (Some entry) → KeysFit hash (full_elements es xs)
      → IsPreviousName (Counts (full_elements es xs) t) pfs directory first last (Some (e.base.key, entry))
  previous_leads e entry hash high is leading fit = record {
    leads = leading.1 hash fit;
    ranges = leading.0;
    from = is.place.from;
    to = omega (arith, high, is.place.to, ap (λ (s : Subject). s.key) here);
    most = λ other name object to leads. elim (cases_lt e.base.key other) [
      | inl above ↦ absurd (leads_after e is other name object above to leads)
      | inr below ↦ below
    ];
  }
