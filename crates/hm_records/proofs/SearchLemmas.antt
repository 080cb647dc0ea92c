-- What a search through elements finds, as a value with its fact. No two elements need have different keys.
use Rattle.std.proofs.Common.{◌≡◌, ℕ, zero, suc, ◌+◌, ◌-◌, ◌*◌, ◌/◌, ◌<◌, ◌≤◌, Bool, true, false, List, [], ◌∷◌, ◌++◌, length, get_or, slice_index, take, refl}
use Rattle.std.proofs.Common.{subst, inl, inr, arith}
use Rattle.std.specs.List.{Contains}
use Rattle.std.specs.Prelude.{◌⊎◌, ◌↔◌, IsTrue, Option, None, Some}
use Rattle.std.proofs.lemmas.Bool.{cases_eq, cases_lt, false≢true}
use Rattle.std.proofs.lemmas.List.{take_all}
use Rattle.hm_types.specs.Elements.{FullElement}
use Rattle.hm_key.specs.Counts.{Counts, IsSeen, Subject, bytes_subject, subject_of}
use Rattle.hm_types.specs.declared.limits.TheConstants.{BLOCK_BYTES}
use Rattle.hm_records.specs.View.{AreFileBytes, EndsInBlock, HasNoBytes, IsFileByte, ShowsInBlock, beside, covered, none as empty}
use Rattle.hm_records.specs.PlainView.{AreFirstBytes, HasSome, IsAtLeast, IsBetterEnd, IsCounted, IsLess, IsNewerVersion, IsNewest, IsNewestSince}
use Rattle.hm_records.specs.PlainView.{IsShownEnd, ShowsFirst}
use Rattle.hm_records.proofs.MemberLemmas.{has_cases, has_head, has_none, has_tail}
use Rattle.hm_records.proofs.PlainLemmas.{bytes_all, bytes_begin, bytes_more, end_passed, end_taken, newest_none, newest_passed, newest_taken, none_in_block}
use Rattle.hm_records.proofs.PlainLemmas.{rather_or_not, shown_of, unmade_none}
use Rattle.hm_records.proofs.SubjectLemmas.{same_subject}

-- ---- a walk through a list

module _ {X : Type 0} where
  pub element_at : (xs : List X) (i : ℕ) → i < length xs → (x : X) × (x ≡ get_or xs i x)
  element_at [] i below = absurd (omega (arith, below))
  element_at (x ∷ xs) zero below = (x, refl)
  element_at (x ∷ xs) (suc i) below = element_at xs i (omega (arith, below))

  module _ (xs : List X) (S : List X → Type 0) (none : S [])
      (more : (i : ℕ) (x : X) → i < length xs → x ≡ get_or xs i x → S (take i xs) → S (take (i + 1) xs)) where
    walked_to : (i : ℕ) → i ≤ length xs → S (take i xs)
    walked_to zero within = none
    walked_to (suc i) within =
        let (x, is) = element_at xs i (omega (arith, within)) in
        let here : i + 1 ≡ suc i = omega arith in
        subst (λ (k : ℕ). S (take k xs)) here (more i x (omega (arith, within)) is (walked_to i (omega (arith, within))))

    -- what holds of no element, and of one more than some of which it holds, holds of all
    pub walked : S xs
    walked = subst S (take_all (length xs) xs (omega arith)) (walked_to (length xs) (omega arith))

-- ---- decisions

-- a statement holds or does not
abbrev pub Decided : Type 0 → Type 0
Decided P = P ⊎ (P → ⊥)

pub decided_by : {P : Type 0} (test : Bool) → IsTrue test ↔ P → Decided P
decided_by true is = inl (is.0 refl)
decided_by false is = inr (λ holds. false≢true (is.1 holds))

pub seen_or_not : (t : ℕ) (e : FullElement) → Decided (IsSeen t e)
seen_or_not t e = elim (cases_lt t e.key.create) [
  | inl early ↦ inr (λ seen. absurd (omega (arith, seen.0, early)))
  | inr made ↦ elim (cases_eq e.delete 0) [
    | inl open' ↦ inl (made, inl open')
    | inr closed ↦ elim (cases_lt t e.delete) [
      | inl later ↦ inl (made, inr later)
      | inr gone ↦ inr (λ seen. elim seen.1 [
        | inl open' ↦ closed open'
        | inr later ↦ absurd (omega (arith, gone, later))
      ])
    ]
  ]
]

at_least_or_not : (n : ℕ) (other : Option ℕ) → Decided (IsAtLeast n other)
at_least_or_not n None = inl tt
at_least_or_not n (Some other) = elim (cases_lt n other) [
  | inl less ↦ inr (λ least. absurd (omega (arith, less, least)))
  | inr least ↦ inl least
]

pub less_or_not : (n : ℕ) (other : Option ℕ) → Decided (IsLess n other)
less_or_not n None = inl tt
less_or_not n (Some other) = elim (cases_lt n other) [
  | inl less ↦ inl less
  | inr least ↦ inr (λ less. absurd (omega (arith, less, least)))
]

-- one of a list's elements is so, or none is
pub any_or_none : {X : Type 0} (P : X → Type 0) → ((x : X) → Decided (P x)) → (xs : List X)
    → ((x : X) × Contains xs x × P x) ⊎ ((x : X) → Contains xs x → P x → ⊥)
any_or_none P decide [] = inr (λ x has is. has_none x has)
any_or_none P decide (x ∷ xs) = elim (decide x) [
  | inl is ↦ inl (x, has_head x xs, is)
  | inr not ↦ elim (any_or_none P decide xs) [
    | inl later ↦ inl (later.0, has_tail x later.0 xs later.1, later.2)
    | inr none ↦ inr (λ y has is. elim (has_cases x y xs has) [
      | inl same ↦ not (subst P same is)
      | inr rest ↦ none y rest is
    ])
  ]
]

-- ---- the newest version

newer_or_not : (t : ℕ) (s : Subject) (since : Option ℕ) (e : FullElement) → Decided (IsNewerVersion t s since e)
newer_or_not t s since e = elim (same_subject (subject_of e.key) s) [
  | inr other ↦ inr (λ newer. other newer.about)
  | inl about ↦ elim (cases_lt t e.key.create) [
    | inl later ↦ inr (λ newer. absurd (omega (arith, later, newer.made)))
    | inr made ↦ elim (at_least_or_not e.key.create since) [
      | inr older ↦ inr (λ newer. older newer.newer)
      | inl newer ↦ inl (record { about = about; made = made; newer = newer })
    ]
  ]
]

module _ (es : List FullElement) (t : ℕ) (s : Subject) where
  abbrev Newest : List FullElement → Type 0
  Newest xs = (e : Option FullElement) × (since : Option ℕ) × IsNewestSince xs t s e since

  newest_walked : Newest es
  newest_walked = walked es Newest (None, None, newest_none t s) (λ i x below is so_far.
      elim (newer_or_not t s so_far.1 x) [
        | inl newer ↦ (Some x, Some x.key.create, newest_taken es i t s x below is so_far.0 so_far.1 so_far.2 newer)
        | inr not ↦ (so_far.0, so_far.1, newest_passed es i t s x below is so_far.0 so_far.1 so_far.2 not)
      ])

  pub newest_of : (e : Option FullElement) × IsNewest es t s e
  newest_of = let (e, since, is) = newest_walked in (e, is.newest)

  -- a version that is as old as the newest one and is seen
  record IsSeenAs (e x : FullElement) : Type 0 where
    pub about : subject_of x.key ≡ s
    pub age : x.key.create ≡ e.key.create
    pub seen : IsSeen t x

  seen_as : (e x : FullElement) → Decided (IsSeenAs e x)
  seen_as e x = elim (same_subject (subject_of x.key) s) [
    | inr other ↦ inr (λ is. other is.about)
    | inl about ↦ elim (cases_eq x.key.create e.key.create) [
      | inr differ ↦ inr (λ is. differ is.age)
      | inl age ↦ elim (seen_or_not t x) [
        | inr unseen ↦ inr (λ is. unseen is.seen)
        | inl seen ↦ inl (record { about = about; age = age; seen = seen })
      ]
    ]
  ]

  counted_by : (e : Option FullElement) → IsNewest es t s e → (bytes : Option (List ℕ)) × IsCounted es t s bytes
  counted_by None is = (None, unmade_none es t s is)
  counted_by (Some e) is = elim (any_or_none (IsSeenAs e) (seen_as e) es) [
    | inl (x, has, like) ↦ (
      Some x.bytes,
      record {
        element = x;
        there = has;
        about = like.about;
        holds = refl;
        seen = like.seen;
        newest = λ other there about made. omega (arith, is.newest other there about made, like.age);
      },
    )
    | inr none ↦ (
      None,
      λ bytes counts. none counts.element counts.there (record {
        about = counts.about;
        age = omega (arith, counts.newest e is.there is.about is.made, is.newest counts.element counts.there counts.about counts.seen.0);
        seen = counts.seen;
      }),
    )
  ]

  -- the bytes that count for a subject, if any do
  pub counted_of : (bytes : Option (List ℕ)) × IsCounted es t s bytes
  counted_of = let (e, is) = newest_of in counted_by e is

  pub some_or_not : Decided (HasSome (Counts es t) s)
  some_or_not = by_counted counted_of.0 counted_of.1 where
    by_counted : (bytes : Option (List ℕ)) → IsCounted es t s bytes → Decided (HasSome (Counts es t) s)
    by_counted None none = inr (λ has. none has.0 has.1)
    by_counted (Some bytes) counts = inl (bytes, counts)

-- ---- the bytes that show in a block

ends_in_or_not : (block end : ℕ) → Decided (EndsInBlock block end)
ends_in_or_not block end = elim (cases_lt (block * BLOCK_BYTES) end) [
  | inr before ↦ inr (λ ends. absurd (omega (arith, before, ends.from)))
  | inl from ↦ elim (cases_lt (block * BLOCK_BYTES + BLOCK_BYTES) end) [
    | inl after ↦ inr (λ ends. absurd (omega (arith, after, ends.to)))
    | inr to ↦ inl (record { from = from; to = to })
  ]
]

shows_first_or_not : (size end : ℕ) (best : Option ℕ) → Decided (ShowsFirst size end best)
shows_first_or_not size end None = inl tt
shows_first_or_not size end (Some other) = rather_or_not size end other

module _ (es : List FullElement) (t pfs obj : ℕ) where
  better_or_not : (size block : ℕ) (best : Option ℕ) (e : FullElement) → Decided (IsBetterEnd (Counts es t) pfs obj size block best e)
  better_or_not size block best e = elim (ends_in_or_not block e.key.key) [
    | inr elsewhere ↦ inr (λ better. elsewhere better.place)
    | inl place ↦ elim (same_subject (subject_of e.key) (bytes_subject pfs obj e.key.key)) [
      | inr other ↦ inr (λ better. other better.about)
      | inl about ↦ elim (some_or_not es t (bytes_subject pfs obj e.key.key)) [
        | inr none ↦ inr (λ better. none better.there)
        | inl there ↦ elim (shows_first_or_not size e.key.key best) [
          | inr worse ↦ inr (λ better. worse better.rather)
          | inl rather ↦ inl (record { place = place; about = about; rather = rather; there = there })
        ]
      ]
    ]
  ]

  -- where the bytes that show in a block of a file of a size end, if any count there
  pub shown_end_of : (size block : ℕ) → (best : Option ℕ) × IsShownEnd (Counts es t) pfs obj size block es best
  shown_end_of size block =
      walked es (λ (xs : List FullElement). (best : Option ℕ) × IsShownEnd (Counts es t) pfs obj size block xs best)
      (None, λ e has of. has_none e has)
      (λ i x below is so_far. elim (better_or_not size block so_far.0 x) [
        | inl better ↦ (Some x.key.key, end_taken (Counts es t) es i pfs obj size block x below is so_far.0 so_far.1 better)
        | inr not ↦ (so_far.0, end_passed (Counts es t) es i pfs obj size block x below is so_far.0 so_far.1 not)
      ])

  -- the bytes that show in a block of a file of a size, if any count there
  pub shown_or_none : (size block : ℕ) → HasNoBytes (Counts es t) pfs obj block
      ⊎ ((end : ℕ) × (bytes : List ℕ) × ShowsInBlock (Counts es t) pfs obj size block end bytes)
  shown_or_none size block = by_end (shown_end_of size block).0 (shown_end_of size block).1 where
    by_end : (best : Option ℕ) → IsShownEnd (Counts es t) pfs obj size block es best → HasNoBytes (Counts es t) pfs obj block
        ⊎ ((end : ℕ) × (bytes : List ℕ) × ShowsInBlock (Counts es t) pfs obj size block end bytes)
    by_end None none = inl (none_in_block es t pfs obj size block none)
    by_end (Some end) best = inr (end, best.there.0, shown_of es t pfs obj size block end best.there.0 best best.there.1)

  byte_of : (size place : ℕ) → (byte : ℕ) × IsFileByte (Counts es t) pfs obj size place byte
  byte_of size place = elim (shown_or_none size (place / BLOCK_BYTES)) [
    | inl nothing ↦ (0, empty nothing refl)
    | inr (end, bytes, shown) ↦ elim (cases_lt place end) [
      | inr ended ↦ (0, beside end bytes shown (inl ended) refl)
      | inl after ↦ elim (cases_lt (place + length bytes) end) [
        | inl short ↦ (0, beside end bytes shown (inr short) refl)
        | inr enough ↦ (slice_index bytes (place + length bytes - end), covered end bytes shown after enough refl)
      ]
    ]
  ]

  first_bytes_of : (size n : ℕ) → (bytes : List ℕ) × AreFirstBytes (Counts es t) pfs obj size n bytes
  first_bytes_of size zero = ([], bytes_begin es t pfs obj size)
  first_bytes_of size (suc n) =
      let (bytes, are) = first_bytes_of size n in
      let (byte, is) = byte_of size n in
      let next : n + 1 ≡ suc n = omega arith in
      subst (λ (m : ℕ). (bytes : List ℕ) × AreFirstBytes (Counts es t) pfs obj size m bytes) next
      (bytes ++ byte ∷ [], bytes_more es t pfs obj size n byte bytes are is)

  -- the bytes of a file of a size
  pub bytes_of : (size : ℕ) → (bytes : List ℕ) × AreFileBytes (Counts es t) pfs obj size bytes
  bytes_of size = let (bytes, are) = first_bytes_of size size in (bytes, bytes_all es t pfs obj size size bytes refl are)
