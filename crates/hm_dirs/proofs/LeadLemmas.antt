-- How many entries lead under some keys, and how many names a tree has by that.
use Rattle.std.proofs.Common.{◌≡◌, ℕ, ◌+◌, ◌/◌, ◌^◌, ◌<◌, ◌≤◌, List, [], ◌∷◌, ◌++◌, length, length-append, refl, sym, ap, subst, ◌∙◌, inl, inr, arith}
use Rattle.std.specs.Prelude.{◌==◌, filter, map}
use Rattle.std.specs.List.{Contains}
use Rattle.std.proofs.lemmas.Bool.{cases_lt, eqb-true, eq-eqb}
use Rattle.std.proofs.lemmas.List.{length-map}
use Rattle.std.proofs.lemmas.List.Elements.{Contains-append_cases, Contains-append_left, Contains-append_right}
use Rattle.std.proofs.lemmas.List.Sums.{length-filter}
use Rattle.hm_types.specs.Elements.{FullElement}
use Rattle.hm_types.specs.Tree.{FileTree, entries_in, is_triple_before}
use Rattle.hm_types.specs.declared.id.Obj.{Obj}
use Rattle.hm_types.specs.declared.object.Triple.{Triple}
use Rattle.hm_key.specs.Counts.{Content, Counts, entry_subject}
use Rattle.hm_records.specs.Changes.{CountsNothing, IsSettled}
use Rattle.hm_records.specs.Entry.{entry_bytes}
use Rattle.hm_records.specs.KeysFit.{KeysFit}
use Rattle.hm_records.specs.Laws.{triple_of}
use Rattle.hm_records.specs.View.{HasEntry, IsTriple, IsViewOf}
use Rattle.hm_records.specs.declared.entry.DirEntry.{DirEntry}
use Rattle.hm_records.proofs.EntryLemmas.{one_entry}
use Rattle.hm_records.proofs.MemberLemmas.{filter_has, has_cases, has_filter, has_head, has_map, has_none, has_tail, map_has, order_filter}
use Rattle.hm_records.proofs.NameLemmas.{name_one}
use Rattle.hm_records.proofs.OrderLemmas.{triple_strict}
use Rattle.hm_model.specs.Due.{same_hash}
use Rattle.hm_dirs.specs.Entries.{AreDistinct, AreTaken, HaveAtLeast, HaveAtMost, IsLeading, IsLeastKey, Leads}
use Rattle.hm_dirs.specs.Names.{IsHidden, first_key, names_of_hash}
use Rattle.hm_dirs.proofs.CountLemmas.{distinct_fewer, distinct_map, distinct_order}
use Rattle.hm_dirs.proofs.NamedLemmas.{entry_keys}

module _ (C : Content) (pfs : ℕ) (directory : Obj) where
  -- nothing counts under the keys from one to another
  abbrev pub AreFree : ℕ → ℕ → Type 0
  AreFree key end = (k : ℕ) → key ≤ k → k < end → CountsNothing C (entry_subject pfs directory.0 k)

  -- an entry that is hidden does not lead
  pub hidden_behind : (key : ℕ) (entry : DirEntry) → IsSettled C → IsHidden C pfs directory key → Leads C pfs directory key entry → ⊥
  hidden_behind key entry settled hidden leads =
      let there : DirEntry = record { obj = hidden.object; name = hidden.name } in
      let same : hidden.name ≡ entry.name =
      name_one there entry
      (settled (entry_subject pfs directory.0 key) (entry_bytes there) (entry_bytes entry) hidden.there.there leads.there.there) in
      let first = leads.first hidden.earlier.other hidden.earlier.object
      (subst (λ (n : List ℕ). HasEntry C pfs directory hidden.earlier.other n hidden.earlier.object) same hidden.earlier.there) in
      omega (arith, first, hidden.earlier.earlier)

  -- ---- at most so many

  pub none_most : (first : ℕ) → HaveAtMost C pfs directory first first 0
  none_most first = record { payloads = []; sized = refl; all = λ key entry from below leads. absurd (omega (arith, from, below)) }

  pub most_on : (first key end count : ℕ) → AreFree key end → HaveAtMost C pfs directory first key count → HaveAtMost C pfs directory first end count
  most_on first key end count free most = record {
    payloads = most.payloads;
    sized = most.sized;
    all = λ k entry from below leads. elim (cases_lt k key) [
      | inl before ↦ most.all k entry from before leads
      | inr later ↦ absurd (free k later below (entry_bytes entry) leads.there.there)
    ];
  }

  pub most_past : (first key count : ℕ) → ((entry : DirEntry) → Leads C pfs directory key entry → ⊥) → HaveAtMost C pfs directory first key count
      → HaveAtMost C pfs directory first (key + 1) count
  most_past first key count behind most = record {
    payloads = most.payloads;
    sized = most.sized;
    all = λ k entry from below leads. elim (cases_lt k key) [
      | inl before ↦ most.all k entry from before leads
      | inr later ↦
          let here : k ≡ key = omega (arith, later, below) in
          absurd (behind entry (subst (λ (n : ℕ). Leads C pfs directory n entry) here leads))
    ];
  }

  pub most_more : (first key count : ℕ) (bytes : List ℕ) → IsSettled C → C (entry_subject pfs directory.0 key) bytes
      → HaveAtMost C pfs directory first key count → HaveAtMost C pfs directory first (key + 1) (count + 1)
  most_more first key count bytes settled counts most = record {
    payloads = bytes ∷ most.payloads;
    sized = omega (arith, most.sized);
    all = λ k entry from below leads. elim (cases_lt k key) [
      | inl before ↦ has_tail bytes (entry_bytes entry) most.payloads (most.all k entry from before leads)
      | inr later ↦
          let here : k ≡ key = omega (arith, later, below) in
          let there = subst (λ (n : ℕ). Leads C pfs directory n entry) here leads in
          let same : bytes ≡ entry_bytes entry =
          settled (entry_subject pfs directory.0 key) bytes (entry_bytes entry) counts there.there.there in
          subst (λ (b : List ℕ). Contains (bytes ∷ most.payloads) b) same (has_head bytes most.payloads)
    ];
  }

  -- ---- at least so many

  pub none_least : (first : ℕ) → HaveAtLeast C pfs directory first first 0
  none_least first = record { payloads = []; sized = refl; distinct = tt; each = λ bytes has. absurd (has_none bytes has) }

  leading_on : (first key end : ℕ) (bytes : List ℕ) → key ≤ end → IsLeading C pfs directory first key bytes → IsLeading C pfs directory first end bytes
  leading_on first key end bytes onward is = record {
    key = is.key;
    entry = is.entry;
    from = is.from;
    below = let below = is.below in omega (arith, below, onward);
    leads = is.leads;
    spelled = is.spelled;
  }

  pub least_on : (first key end count : ℕ) → key ≤ end → HaveAtLeast C pfs directory first key count → HaveAtLeast C pfs directory first end count
  least_on first key end count onward least = record {
    payloads = least.payloads;
    sized = least.sized;
    distinct = least.distinct;
    each = λ bytes has. leading_on first key end bytes onward (least.each bytes has);
  }

  pub least_more : (first key count : ℕ) (entry : DirEntry) → first ≤ key → Leads C pfs directory key entry → HaveAtLeast C pfs directory first key count
      → HaveAtLeast C pfs directory first (key + 1) (count + 1)
  least_more first key count entry from leads least = record {
    payloads = entry_bytes entry ∷ least.payloads;
    sized = omega (arith, least.sized);
    distinct = (λ has. new (least.each (entry_bytes entry) has), least.distinct);
    each = λ bytes has. elim (has_cases (entry_bytes entry) bytes least.payloads has) [
      | inl here ↦ record { key = key; entry = entry; from = from; below = omega arith; leads = leads; spelled = here }
      | inr there ↦ leading_on first key (key + 1) bytes (omega arith) (least.each bytes there)
    ];
  } where
    new : IsLeading C pfs directory first key (entry_bytes entry) → ⊥
    new is =
        let same : is.entry.name ≡ entry.name = name_one is.entry entry (sym is.spelled) in
        let first' = leads.first is.key is.entry.obj
        (subst (λ (n : List ℕ). HasEntry C pfs directory is.key n is.entry.obj) same is.leads.there) in
        let below = is.below in
        omega (arith, first', below)

  -- ---- just so many

  abbrev pub HaveJust : ℕ → ℕ → ℕ → Type 0
  HaveJust first end count = HaveAtMost C pfs directory first end count × HaveAtLeast C pfs directory first end count

  just_more : (first key at count : ℕ) (entry : DirEntry) → IsSettled C → first ≤ key → key ≤ at → AreFree key at → Leads C pfs directory at entry
      → HaveJust first key count → HaveJust first (at + 1) (count + 1)
  just_more first key at count entry settled from onward free leads (most, least) = (
    most_more first at count (entry_bytes entry) settled leads.there.there (most_on first key at count free most),
    least_more first at count entry (omega (arith, from, onward)) leads (least_on first key at count onward least),
  )

  just_past : (first key at count : ℕ) → IsSettled C → key ≤ at → AreFree key at → IsHidden C pfs directory at → HaveJust first key count
      → HaveJust first (at + 1) count
  just_past first key at count settled onward free hidden (most, least) = (
    most_past first at count (λ entry leads. hidden_behind at entry settled hidden leads) (most_on first key at count free most),
    least_on first key (at + 1) count (omega (arith, onward)) least,
  )

  -- the names of the entries under the keys from one to another are known: each once
  pub record AreKnown (first key : ℕ) (names : List (List ℕ)) : Type 0 where
    pub just : HaveJust first key (length names)
    pub all : (k : ℕ) (name : List ℕ) (object : Obj) → first ≤ k → k < key → HasEntry C pfs directory k name object → Contains names name
    pub each : (name : List ℕ) → Contains names name → (k : ℕ) × (object : Obj) × (k < key) × HasEntry C pfs directory k name object

  pub none_known : (first : ℕ) → AreKnown first first []
  none_known first = record {
    just = (none_most first, none_least first);
    all = λ k name object from below has. absurd (omega (arith, from, below));
    each = λ name has. absurd (has_none name has);
  }

  -- the next entry has a name that is known: it is hidden
  pub known_behind : (first key at : ℕ) (names : List (List ℕ)) (name : List ℕ) (object : Obj) → key ≤ at → AreKnown first key names
      → HasEntry C pfs directory at name object → Contains names name → IsHidden C pfs directory at
  known_behind first key at names name object onward known there has =
      let (k, object', below, there') = known.each name has in
      record {
        name = name;
        object = object;
        there = there;
        earlier = record { other = k; object = object'; there = there'; earlier = omega (arith, below, onward) };
      }

  -- where an entry stands between the keys that were looked at and the next one, its name is known after that one
  known_all : (first key at : ℕ) (names now : List (List ℕ)) (name : List ℕ) (object : Obj) → IsSettled C → AreFree key at → AreKnown first key names
      → HasEntry C pfs directory at name object → Contains now name → ((n : List ℕ) → Contains names n → Contains now n) → (k : ℕ) (name' : List ℕ)
      (object' : Obj) → first ≤ k → k < at + 1 → HasEntry C pfs directory k name' object' → Contains now name'
  known_all first key at names now name object settled free known there mine wider k name' object' from below has = elim (cases_lt k key) [
    | inl before ↦ wider name' (known.all k name' object' from before has)
    | inr later ↦ elim (cases_lt k at) [
      | inl between ↦ absurd (free k later between (entry_bytes (record { obj = object'; name = name' })) has.there)
      | inr not ↦
          let here : k ≡ at = omega (arith, below, not) in
          let one : HasEntry C pfs directory at name' object' = subst (λ (n : ℕ). HasEntry C pfs directory n name' object') here has in
          let same : name ≡ name' =
          name_one (record { obj = object; name = name }) (record { obj = object'; name = name' })
          (settled (entry_subject pfs directory.0 at) (entry_bytes (record { obj = object; name = name }))
          (entry_bytes (record { obj = object'; name = name' })) there.there one.there) in
          subst (λ (n : List ℕ). Contains now n) same mine
    ]
  ]

  pub known_past : (first key at : ℕ) (names : List (List ℕ)) (name : List ℕ) (object : Obj) → IsSettled C → key ≤ at → AreFree key at
      → AreKnown first key names → HasEntry C pfs directory at name object → Contains names name → AreKnown first (at + 1) names
  known_past first key at names name object settled onward free known there has = record {
    just = just_past first key at (length names) settled onward free (known_behind first key at names name object onward known there has) known.just;
    all = known_all first key at names names name object settled free known there has (λ n is. is);
    each = λ n is. let (k, object', below, there') = known.each n is in (k, object', omega (arith, below, onward), there');
  }

  -- it has one that is not known, and entries of that name have keys from the first one on: it leads
  pub known_more : (first key at : ℕ) (names : List (List ℕ)) (name : List ℕ) (object : Obj) → IsSettled C → first ≤ key → key ≤ at → AreFree key at
      → ((k : ℕ) (object' : Obj) → HasEntry C pfs directory k name object' → first ≤ k) → AreKnown first key names
      → HasEntry C pfs directory at name object → (Contains names name → ⊥) → AreKnown first (at + 1) (names ++ (name ∷ []))
  known_more first key at names name object settled from onward free keys known there new = record {
    just = subst (λ (n : ℕ). HaveJust first (at + 1) n) (sym (length-append names (name ∷ [])))
        (just_more first key at (length names) entry settled from onward free (record { there = there; first = first_of }) known.just);
    all = known_all first key at names (names ++ (name ∷ [])) name object settled free known there
        (Contains-append_right names (name ∷ []) name (has_head name [])) (λ n is. Contains-append_left names (name ∷ []) n is);
    each = λ n is. elim (Contains-append_cases names (name ∷ []) n is) [
      | inl was ↦ let (k, object', below, there') = known.each n was in (k, object', omega (arith, below, onward), there')
      | inr one ↦ elim (has_cases name n [] one) [
        | inl same ↦ (at, object, omega arith, subst (λ (m : List ℕ). HasEntry C pfs directory at m object) (sym same) there)
        | inr none ↦ absurd (has_none n none)
      ]
    ];
  } where
    entry : DirEntry
    entry = record { obj = object; name = name }

    first_of : (other : ℕ) (object' : Obj) → HasEntry C pfs directory other name object' → at ≤ other
    first_of other object' has = elim (cases_lt other at) [
      | inr not ↦ not
      | inl before ↦ elim (cases_lt other key) [
        | inl looked ↦ absurd (new (known.all other name object' (keys other object' has) looked has))
        | inr later ↦ absurd (free other later before (entry_bytes (record { obj = object'; name = name })) has.there)
      ]
    ]

  -- where each key is taken, the next entry stands under the next key
  pub next_taken : (first key at end : ℕ) → first ≤ key → key < end → key ≤ at → AreTaken C pfs directory first end → AreFree key at → at ≡ key
  next_taken first key at end from below onward taken free = elim (cases_lt key at) [
    | inl before ↦ absurd (taken key from below (free key (omega arith) before))
    | inr not ↦ omega (arith, not, onward)
  ]

-- the entries of a name that has one under the keys of a hash have keys from the least one on
pub keys_from : (hash : List ℕ → ℕ) (es : List FullElement) (t pfs : ℕ) (directory : Obj) (first at : ℕ) (name : List ℕ) (object : Obj) → IsLeastKey first
    → first ≤ at → at < first + 65536 → KeysFit hash es → HasEntry (Counts es t) pfs directory at name object → (k : ℕ) (object' : Obj)
    → HasEntry (Counts es t) pfs directory k name object' → first ≤ k
keys_from hash es t pfs directory first at name object least from below fit there k object' has =
    let here = entry_keys hash es t pfs directory at name object fit there in
    let other = entry_keys hash es t pfs directory k name object' fit has in
    let whole = least.whole in
    omega (arith, whole, from, below, here.0, here.1, other.0)

-- ---- how many names a tree has

same_object : (a b : Obj) → a.0 ≡ b.0 → a ≡ b
same_object a b same = λ i. record { 0 = same i }

same_triple : (x y : Triple) → x.directory.0 ≡ y.directory.0 → x.name ≡ y.name → x.object ≡ y.object → x ≡ y
same_triple x y directory name object =
    λ i. record { directory = record { 0 = directory i }; name = name i; object = object i }

-- the payload of the entry of a triple
abbrev payload_for : Triple → List ℕ
payload_for t = entry_bytes (record { obj = t.object; name = t.name })

module _ (hash : List ℕ → ℕ) (es : List FullElement) (t pfs : ℕ) (tree : FileTree) (directory : Obj) (name : List ℕ) (fit : KeysFit hash es)
    (view : IsViewOf es pfs t tree) where
  -- the triples of the names with the hash
  abbrev triples : List Triple
  triples = filter (same_hash hash name) (entries_in tree directory)

  triples_sized : length (map payload_for triples) ≡ names_of_hash hash tree directory name
  triples_sized = length-map triples payload_for ∙ length-filter (same_hash hash name) (entries_in tree directory)

  -- what each of them is
  record IsOfHash (u : Triple) : Type 0 where
    here : u.directory.0 ≡ directory.0
    hashed : hash u.name / 2 ^ 17 ≡ hash name / 2 ^ 17
    is : IsTriple (Counts es t) pfs u

  of_hash : (u : Triple) → Contains triples u → IsOfHash u
  of_hash u has =
      let passes = filter_has (same_hash hash name) (entries_in tree directory) u has in
      let there = filter_has (λ (v : Triple). v.directory.0 == directory.0) tree.triples u passes.0 in
      record {
        here = eqb-true u.directory.0 directory.0 there.1;
        hashed = eqb-true (hash u.name / 2 ^ 17) (hash name / 2 ^ 17) passes.1;
        is = (view.triples u).0 there.0;
      }

  distinct : AreDistinct (map payload_for triples)
  distinct =
      distinct_map payload_for triples
      (λ x y has has' same.
      let a = of_hash x has in
      let b = of_hash y has' in
      let entry : record { obj = x.object; name = x.name } ≡ record { obj = y.object; name = y.name } =
      one_entry (record { obj = x.object; name = x.name }) (record { obj = y.object; name = y.name }) a.is.there.ranges b.is.there.ranges same in
      same_triple x y (a.here ∙ sym b.here) (ap (λ (e : DirEntry). e.name) entry) (ap (λ (e : DirEntry). e.obj) entry))
      (distinct_order is_triple_before triples (λ x before. triple_strict x x before before)
      (order_filter is_triple_before (same_hash hash name) (entries_in tree directory)
      (order_filter is_triple_before (λ (v : Triple). v.directory.0 == directory.0) tree.triples view.triples_rise)))

  pub at_most : (first count : ℕ) → first ≡ first_key (hash name) → HaveAtMost (Counts es t) pfs directory first (first + 65536) count
      → names_of_hash hash tree directory name ≤ count
  at_most first count number most =
      let fewer = distinct_fewer (map payload_for triples) most.payloads distinct (λ bytes has.
      let (u, there, same) = map_has payload_for triples bytes has in
      subst (λ (b : List ℕ). Contains most.payloads b) same (among u there)) in
      omega (arith, fewer, triples_sized, most.sized)
    where
      among : (u : Triple) → Contains triples u → Contains most.payloads (payload_for u)
      among u has =
          let is = of_hash u has in
          let place : u.directory ≡ directory = same_object u.directory directory is.here in
          let there : HasEntry (Counts es t) pfs directory is.is.key u.name u.object =
          subst (λ (d : Obj). HasEntry (Counts es t) pfs d is.is.key u.name u.object) place is.is.there in
          let keys = entry_keys hash es t pfs directory is.is.key u.name u.object fit there in
          most.all is.is.key (record { obj = u.object; name = u.name }) (omega (arith, keys.0, is.hashed, number)) (omega (arith, keys.1, is.hashed, number))
          (record {
            there = there;
            first = λ other object has'. is.is.first other object
                (subst (λ (d : Obj). HasEntry (Counts es t) pfs d other u.name object) (sym place) has');
          })

  pub at_least : (first count : ℕ) → first ≡ first_key (hash name) → HaveAtLeast (Counts es t) pfs directory first (first + 65536) count
      → count ≤ names_of_hash hash tree directory name
  at_least first count number least =
      let fewer = distinct_fewer least.payloads (map payload_for triples) least.distinct (λ bytes has. among bytes (least.each bytes has)) in
      omega (arith, fewer, triples_sized, least.sized)
    where
      among : (bytes : List ℕ) → IsLeading (Counts es t) pfs directory first (first + 65536) bytes → Contains (map payload_for triples) bytes
      among bytes is =
          let u = triple_of directory is.entry.name is.entry.obj in
          let there : Contains tree.triples u =
          (view.triples u).1 (record { key = is.key; there = is.leads.there; first = is.leads.first }) in
          let keys = entry_keys hash es t pfs directory is.key is.entry.name is.entry.obj fit is.leads.there in
          let from = is.from in
          let below = is.below in
          let hashed : hash is.entry.name / 2 ^ 17 ≡ hash name / 2 ^ 17 = omega (arith, keys.0, keys.1, from, below, number) in
          let member : Contains triples u =
          has_filter (same_hash hash name) (entries_in tree directory) u
          (has_filter (λ (v : Triple). v.directory.0 == directory.0) tree.triples u there (eq-eqb directory.0 directory.0 refl))
          (eq-eqb (hash is.entry.name / 2 ^ 17) (hash name / 2 ^ 17) hashed) in
          subst (λ (b : List ℕ). Contains (map payload_for triples) b) (sym is.spelled) (has_map payload_for triples u member)
