-- Which element is the newest of several, and which bytes of a block show.
use Rattle.std.proofs.Common.{◌≡◌, ℕ, ◌+◌, ◌-◌, ◌/◌, ◌<◌, ◌≤◌, true, false, List, [], ◌∷◌, ◌++◌, length, get_or, slice_index, take, refl, sym, ap, subst}
use Rattle.std.proofs.Common.{◌∙◌, inl, inr, arith, length-append}
use Rattle.std.specs.Prelude.{◌⊎◌, Option, None, Some}
use Rattle.std.specs.List.{Contains, list_any}
use Rattle.std.specs.Ordering.{is_eq}
use Rattle.hm_key.proofs.KeyLemmas.{key_itself}
use Rattle.hm_records.proofs.LookupLemmas.{any_none, find_none}
use Rattle.std.proofs.lemmas.Bool.{cases_lt}
use Rattle.std.proofs.lemmas.List.{get_or_append_left, get_or_push, take_more}
use Rattle.std.proofs.lemmas.List.Elements.{Contains-append_cases, Contains-append_left, Contains-append_right}
use Rattle.hm_types.specs.Elements.{FullElement, Key, key_cmp}
use Rattle.hm_key.specs.Counts.{Content, Counts, IsSeen, Subject, bytes_subject, inode_subject, subject_of}
use Rattle.hm_types.specs.declared.id.Obj.{Obj}
use Rattle.hm_types.specs.declared.limits.TheConstants.{BLOCK_BYTES}
use Rattle.hm_types.specs.declared.object.Kind.{Kind}
use Rattle.hm_types.specs.declared.object.Content.{Content as Held}
use Rattle.hm_records.specs.declared.inode.Inode.{Inode}
use Rattle.hm_records.specs.Inode.{IsInode, inode_bytes}
use Rattle.hm_key.specs.Versions.{HaveOwnKeys}
use Rattle.hm_records.specs.Changes.{CountsNothing}
use Rattle.hm_records.specs.Laws.{made_of}
use Rattle.hm_records.specs.View.{AreFileBytes, EndsInBlock, HasNoBytes, IsFileByte, IsObject, ShowsInBlock, ShowsRather, beside, covered, none as empty}
use Rattle.hm_records.specs.PlainView.{is_at_key, AreFirstBytes, IsBestEnd, IsBetterEnd, IsHeldAs, IsNewerVersion, IsNewestSince, IsNewestVersionOf}
use Rattle.hm_records.specs.PlainView.{IsObjectAt, IsOfBlock, IsShownEnd, IsUnmade, ShowsFirst}
use Rattle.hm_records.proofs.CountsLemmas.{same_key, settled}
use Rattle.hm_records.proofs.MadeLemmas.{object_made}
use Rattle.hm_records.proofs.MemberLemmas.{has_cases, has_head, has_none}

-- ---- one more element was looked at

module _ {X : Type 0} (xs : List X) (i : ℕ) (x : X) (below : i < length xs) (is : x ≡ get_or xs i x) where
  taken : take (i + 1) xs ≡ take i xs ++ x ∷ []
  taken = take_more xs i x below ∙ ap (λ (y : X). take i xs ++ y ∷ []) (sym is)

  pub more_cases : (z : X) → Contains (take (i + 1) xs) z → Contains (take i xs) z ⊎ (z ≡ x)
  more_cases z has = elim (Contains-append_cases (take i xs) (x ∷ []) z (subst (λ (ys : List X). Contains ys z) taken has)) [
    | inl old ↦ inl old
    | inr new ↦ elim (has_cases x z [] new) [
      | inl e ↦ inr e
      | inr none ↦ absurd (has_none z none)
    ]
  ]

  pub more_old : (z : X) → Contains (take i xs) z → Contains (take (i + 1) xs) z
  more_old z has = subst (λ (ys : List X). Contains ys z) (sym taken) (Contains-append_left (take i xs) (x ∷ []) z has)

  pub more_new : Contains (take (i + 1) xs) x
  more_new = subst (λ (ys : List X). Contains ys x) (sym taken) (Contains-append_right (take i xs) (x ∷ []) x (has_head x []))

-- ---- the newest version

none_some : {X : Type 0} (b : X) → None ≡ Some b → ⊥
none_some b is = cc

module _ (es : List FullElement) (i t : ℕ) (s : Subject) (x : FullElement) (below : i < length es) (is : x ≡ get_or es i x) where
  pub newest_taken : (e : Option FullElement) (since : Option ℕ) → IsNewestSince (take i es) t s e since → IsNewerVersion t s since x
      → IsNewestSince (take (i + 1) es) t s (Some x) (Some x.key.create)
  newest_taken None since held newer = record {
    newest = record {
      there = more_new es i x below is;
      about = newer.about;
      made = newer.made;
      newest = λ other has about made. elim (more_cases es i x below is other has) [
        | inl old ↦ absurd (held.newest other old about made)
        | inr e ↦ omega (arith, ap (λ (z : FullElement). z.key.create) e)
      ];
    };
    since_is = refl;
  }
  newest_taken (Some f) since held newer = record {
    newest = record {
      there = more_new es i x below is;
      about = newer.about;
      made = newer.made;
      newest = λ other has about made. elim (more_cases es i x below is other has) [
        | inl old ↦
            let low : f.key.create ≤ x.key.create = rw held.since_is at newer.newer in
            omega (arith, low, held.newest.newest other old about made)
        | inr e ↦ omega (arith, ap (λ (z : FullElement). z.key.create) e)
      ];
    };
    since_is = refl;
  }

  pub newest_passed : (e : Option FullElement) (since : Option ℕ) → IsNewestSince (take i es) t s e since → (IsNewerVersion t s since x → ⊥)
      → IsNewestSince (take (i + 1) es) t s e since
  newest_passed None since held not = record {
    newest = λ other has about made. elim (more_cases es i x below is other has) [
      | inl old ↦ held.newest other old about made
      | inr e ↦ not (record {
        about = subst (λ (z : FullElement). subject_of z.key ≡ s) e about;
        made = subst (λ (z : FullElement). z.key.create ≤ t) e made;
        newer = rw held.since_is tt;
      })
    ];
    since_is = held.since_is;
  }
  newest_passed (Some f) since held not = record {
    newest = record {
      there = more_old es i x below is f held.newest.there;
      about = held.newest.about;
      made = held.newest.made;
      newest = λ other has about made. elim (more_cases es i x below is other has) [
        | inl old ↦ held.newest.newest other old about made
        | inr e ↦ elim (cases_lt f.key.create x.key.create) [
          | inl less ↦ absurd (not (record {
            about = subst (λ (z : FullElement). subject_of z.key ≡ s) e about;
            made = subst (λ (z : FullElement). z.key.create ≤ t) e made;
            newer = rw held.since_is (omega (arith, less));
          }))
          | inr le ↦ omega (arith, le, ap (λ (z : FullElement). z.key.create) e)
        ]
      ];
    };
    since_is = held.since_is;
  }

pub newest_none : (t : ℕ) (s : Subject) → IsNewestSince [] t s None None
newest_none t s = record { newest = λ other has about made. has_none other has; since_is = refl }

-- what counts is the newest version, where it is seen
pub newest_counts : (es : List FullElement) (t : ℕ) (s : Subject) (e : FullElement) → IsNewestVersionOf es t s e → IsSeen t e → Counts es t s e.bytes
newest_counts es t s e is seen = record {
  element = e;
  there = is.there;
  about = is.about;
  holds = refl;
  seen = seen;
  newest = is.newest;
}

-- where it is not, nothing does
pub newest_unseen : (es : List FullElement) (t : ℕ) (s : Subject) (e : FullElement) → HaveOwnKeys es → IsNewestVersionOf es t s e → (IsSeen t e → ⊥)
    → CountsNothing (Counts es t) s
newest_unseen es t s e own is unseen bytes counts =
    let create : counts.element.key.create ≡ e.key.create =
    omega (arith, counts.newest e is.there is.about is.made, is.newest counts.element counts.there counts.about counts.seen.0) in
    let key : counts.element.key ≡ e.key = same_key counts.element.key e.key (counts.about ∙ sym is.about) create in
    unseen (subst (λ (z : FullElement). IsSeen t z) (own counts.element e counts.there is.there key) counts.seen)

pub unmade_none : (es : List FullElement) (t : ℕ) (s : Subject) → IsUnmade es t s → CountsNothing (Counts es t) s
unmade_none es t s none bytes counts = none counts.element counts.there counts.about counts.seen.0

-- ---- the bytes that show

pub rather_or_not : (size a b : ℕ) → ShowsRather size a b ⊎ (ShowsRather size a b → ⊥)
rather_or_not size a b = elim (cases_lt size a) [
  | inl past ↦ elim (cases_lt b a) [
    | inl less ↦ inr (λ rather. omega (arith, past, less, rather))
    | inr le ↦ inl (inr (past, le))
  ]
  | inr within ↦ elim (cases_lt a b) [
    | inr le ↦ inl (inl (within, inl le))
    | inl less ↦ elim (cases_lt size b) [
      | inl past ↦ inl (inl (within, inr past))
      | inr both ↦ inr (λ rather. omega (arith, within, less, both, rather))
    ]
  ]
]

pub rather_itself : (size a b : ℕ) → a ≡ b → ShowsRather size a b
rather_itself size a b same = elim (cases_lt size a) [
  | inl past ↦ inr (past, omega (arith, same))
  | inr within ↦ inl (within, inl (omega (arith, same)))
]

-- of two places the one shows rather or the other
pub rather_back : (size a b : ℕ) → (ShowsRather size a b → ⊥) → ShowsRather size b a
rather_back size a b not = elim (rather_or_not size b a) [
  | inl rather ↦ rather
  | inr neither ↦ elim (cases_lt size a) [
    | inl past ↦ elim (cases_lt b a) [
      | inr le ↦ absurd (not (inr (past, le)))
      | inl less ↦ elim (cases_lt size b) [
        | inl both ↦ inr (both, omega (arith, less))
        | inr within ↦ inl (within, inr past)
      ]
    ]
    | inr within ↦ elim (cases_lt size b) [
      | inl past ↦ absurd (not (inl (within, inr past)))
      | inr both ↦ elim (cases_lt a b) [
        | inr le ↦ absurd (not (inl (within, inl le)))
        | inl less ↦ inl (both, inl (omega (arith, less)))
      ]
    ]
  ]
]

pub rather_on : (size a b c : ℕ) → ShowsRather size a b → ShowsRather size b c → ShowsRather size a c
rather_on size a b c first second = elim (rather_or_not size a c) [
  | inl rather ↦ rather
  | inr not ↦ elim (cases_lt size a) [
    | inl past ↦ absurd (not (inr (past, omega (arith, past, first, second))))
    | inr within ↦ elim (cases_lt size c) [
      | inl out ↦ inl (within, inr out)
      | inr both ↦ inl (within, inl (omega (arith, within, both, first, second)))
    ]
  ]
]

module _ (C : Content) (es : List FullElement) (i pfs obj size block : ℕ) (x : FullElement) (below : i < length es) (is : x ≡ get_or es i x) where
  itself : (e : FullElement) → e ≡ x → ShowsRather size x.key.key e.key.key
  itself e same = rather_itself size x.key.key e.key.key (ap (λ (z : FullElement). z.key.key) (sym same))

  pub end_taken : (best : Option ℕ) → IsShownEnd C pfs obj size block (take i es) best → IsBetterEnd C pfs obj size block best x
      → IsShownEnd C pfs obj size block (take (i + 1) es) (Some x.key.key)
  end_taken None held better = record {
    there = better.there;
    place = better.place;
    rather = λ e has of. elim (more_cases es i x below is e has) [
      | inl old ↦ absurd (held e old of)
      | inr same ↦ itself e same
    ];
  }
  end_taken (Some end) held better = record {
    there = better.there;
    place = better.place;
    rather = λ e has of. elim (more_cases es i x below is e has) [
      | inl old ↦ rather_on size x.key.key end e.key.key better.rather (held.rather e old of)
      | inr same ↦ itself e same
    ];
  }

  -- the element, as one that shows rather than the best ones so far
  better_is : (best : Option ℕ) (e : FullElement) → e ≡ x → IsOfBlock C pfs obj block e → ShowsFirst size x.key.key best
      → IsBetterEnd C pfs obj size block best x
  better_is best e same of rather =
      let of_x : IsOfBlock C pfs obj block x = subst (λ (z : FullElement). IsOfBlock C pfs obj block z) same of in
      record { place = of_x.place; about = of_x.about; rather = rather; there = of_x.there }

  pub end_passed : (best : Option ℕ) → IsShownEnd C pfs obj size block (take i es) best → (IsBetterEnd C pfs obj size block best x → ⊥)
      → IsShownEnd C pfs obj size block (take (i + 1) es) best
  end_passed None held not = λ e has of. elim (more_cases es i x below is e has) [
    | inl old ↦ held e old of
    | inr same ↦ not (better_is None e same of tt)
  ]
  end_passed (Some end) held not = record {
    there = held.there;
    place = held.place;
    rather = λ e has of. elim (more_cases es i x below is e has) [
      | inl old ↦ held.rather e old of
      | inr same ↦
          let worse : ShowsRather size end x.key.key =
          rather_back size x.key.key end (λ rather. not (better_is (Some end) e same of rather)) in
          subst (λ (z : FullElement). ShowsRather size end z.key.key) (sym same) worse
    ];
  }

-- ---- bytes

module _ (es : List FullElement) (t pfs obj size : ℕ) where
  -- what counts in a block is an element's
  element_of : (P : Type 0) (block other : ℕ) (bytes : List ℕ) → Counts es t (bytes_subject pfs obj other) bytes → EndsInBlock block other
      → ((e : FullElement) → Contains es e → IsOfBlock (Counts es t) pfs obj block e → e.key.key ≡ other → P) → P
  element_of P block other bytes counts place on =
      let key : counts.element.key.key ≡ other = ap (λ (s : Subject). s.key) counts.about in
      on counts.element counts.there
      (record {
        about = counts.about ∙ ap (bytes_subject pfs obj) (sym key);
        place = subst (λ (n : ℕ). EndsInBlock block n) (sym key) place;
        there = (bytes, subst (λ (n : ℕ). Counts es t (bytes_subject pfs obj n) bytes) (sym key) counts);
      })
      key

  pub shown_of : (block end : ℕ) (bytes : List ℕ) → IsBestEnd (Counts es t) pfs obj size block es end
      → Counts es t (bytes_subject pfs obj end) bytes → ShowsInBlock (Counts es t) pfs obj size block end bytes
  shown_of block end bytes best counts = record {
    there = counts;
    place = best.place;
    rather = λ other others there place.
        element_of (ShowsRather size end other) block other others there place
        (λ e has of key. subst (λ (n : ℕ). ShowsRather size end n) key (best.rather e has of));
  }

  -- where no end shows in a block, nothing counts there
  pub none_in_block : (block : ℕ) → IsShownEnd (Counts es t) pfs obj size block es None → HasNoBytes (Counts es t) pfs obj block
  none_in_block block nothing end bytes there place =
      element_of ⊥ block end bytes there place (λ e has of key. nothing e has of)

  -- where bytes show, some count
  pub end_counts : (block end : ℕ) → IsBestEnd (Counts es t) pfs obj size block es end → CountsNothing (Counts es t) (bytes_subject pfs obj end) → ⊥
  end_counts block end best nothing = nothing best.there.0 best.there.1

  module _ (place : ℕ) where
    pub byte_in_none : IsShownEnd (Counts es t) pfs obj size (place / BLOCK_BYTES) es None → IsFileByte (Counts es t) pfs obj size place 0
    byte_in_none nothing = empty (none_in_block (place / BLOCK_BYTES) nothing) refl

    module _ (end : ℕ) (bytes : List ℕ) (best : IsBestEnd (Counts es t) pfs obj size (place / BLOCK_BYTES) es end)
        (counts : Counts es t (bytes_subject pfs obj end) bytes) where
      shown : ShowsInBlock (Counts es t) pfs obj size (place / BLOCK_BYTES) end bytes
      shown = shown_of (place / BLOCK_BYTES) end bytes best counts

      pub byte_covered : place < end → end - place ≤ length bytes
          → IsFileByte (Counts es t) pfs obj size place (slice_index bytes (length bytes - (end - place)))
      byte_covered after enough =
          let same : length bytes - (end - place) ≡ place + length bytes - end = omega (arith, after, enough) in
          covered end bytes shown after (omega (arith, after, enough)) (ap (slice_index bytes) same)

      pub byte_before : length bytes < end - place → IsFileByte (Counts es t) pfs obj size place 0
      byte_before short = beside end bytes shown (inr (omega (arith, short))) refl

      pub byte_behind : end ≤ place → IsFileByte (Counts es t) pfs obj size place 0
      byte_behind ended = beside end bytes shown (inl ended) refl

-- no byte yet, and one byte more
pub bytes_begin : (es : List FullElement) (t pfs obj size : ℕ) → AreFirstBytes (Counts es t) pfs obj size 0 []
bytes_begin es t pfs obj size = record { sized = refl; each = λ x below. absurd (omega (arith, below)) }

pub bytes_more : (es : List FullElement) (t pfs obj size n b : ℕ) (xs : List ℕ) → AreFirstBytes (Counts es t) pfs obj size n xs
    → IsFileByte (Counts es t) pfs obj size n b → AreFirstBytes (Counts es t) pfs obj size (n + 1) (xs ++ b ∷ [])
bytes_more es t pfs obj size n b xs are byte = record {
  sized = omega (arith, are.sized, length-append xs (b ∷ []));
  each = λ x below. elim (cases_lt x n) [
    | inl less ↦
        let same : slice_index (xs ++ b ∷ []) x ≡ slice_index xs x = get_or_append_left xs (b ∷ []) 0 x (omega (arith, less, are.sized)) in
        subst (λ (k : ℕ). IsFileByte (Counts es t) pfs obj size x k) (sym same) (are.each x less)
    | inr le ↦
        let here : x ≡ n = omega (arith, le, below) in
        let same : slice_index (xs ++ b ∷ []) n ≡ b = get_or_push xs b 0 n are.sized in
        subst (λ (k : ℕ). IsFileByte (Counts es t) pfs obj size k (slice_index (xs ++ b ∷ []) k)) (sym here)
        (subst (λ (k : ℕ). IsFileByte (Counts es t) pfs obj size n k) (sym same) byte)
  ];
}

-- as many as the file has are its bytes
pub bytes_all : (es : List FullElement) (t pfs obj size n : ℕ) (xs : List ℕ) → n ≡ size → AreFirstBytes (Counts es t) pfs obj size n xs
    → AreFileBytes (Counts es t) pfs obj size xs
bytes_all es t pfs obj size n xs done are = record { sized = are.sized ∙ done; each = λ x below. are.each x (omega (arith, below, done)) }

-- ---- objects

pub no_object_at : (es : List FullElement) (t pfs number : ℕ) → CountsNothing (Counts es t) (inode_subject pfs number)
    → IsObjectAt (Counts es t) pfs number None
no_object_at es t pfs number none o is same =
    none (inode_bytes is.inode)
    (subst (λ (n : ℕ). Counts es t (inode_subject pfs n) (inode_bytes is.inode)) same is.there)

-- bytes that spell no inode make no object
pub no_inode_at : (es : List FullElement) (t pfs number : ℕ) (bytes : List ℕ) → HaveOwnKeys es → Counts es t (inode_subject pfs number) bytes
    → ((inode : Inode) → IsInode inode → bytes ≡ inode_bytes inode → ⊥) → IsObjectAt (Counts es t) pfs number None
no_inode_at es t pfs number bytes own counts not o is same =
    not is.inode is.ranges
    (settled es t own (inode_subject pfs number) bytes (inode_bytes is.inode) counts
    (subst (λ (n : ℕ). Counts es t (inode_subject pfs n) (inode_bytes is.inode)) same is.there))

pub object_at_is : (es : List FullElement) (t pfs : ℕ) (number : Obj) (bytes : List ℕ) (inode : Inode) (kind : Kind) (content : Held)
    → Counts es t (inode_subject pfs number.0) bytes → IsInode inode → bytes ≡ inode_bytes inode → IsHeldAs (Counts es t) pfs number.0 inode kind content
    → IsObject (Counts es t) pfs (made_of number kind content inode)
object_at_is es t pfs number bytes inode kind content counts ranges same held =
    object_made pfs number kind content inode (Counts es t)
    (record { ranges = ranges; there = subst (λ (b : List ℕ). Counts es t (inode_subject pfs number.0) b) same counts }) held.kind_is held.holds

-- ---- keys

pub own_more : (es : List FullElement) (i : ℕ) (x : FullElement) → i < length es → x ≡ get_or es i x → HaveOwnKeys (take i es)
    → list_any (is_at_key x.key) (take i es) ≡ false → HaveOwnKeys (take (i + 1) es)
own_more es i x below is own none y z has has' alike = by_place (more_cases es i x below is y has) (more_cases es i x below is z has') where
  apart : (e : FullElement) → Contains (take i es) e → e.key ≡ x.key → ⊥
  apart e there same =
      let hit : is_at_key x.key e ≡ true = ap is_eq (ap (λ (k : Key). key_cmp k x.key) same ∙ key_itself x.key) in
      find_none (is_at_key x.key) (take i es) e (any_none (is_at_key x.key) (take i es) none) there hit

  by_place : Contains (take i es) y ⊎ (y ≡ x) → Contains (take i es) z ⊎ (z ≡ x) → y ≡ z
  by_place (inl old) (inl old') = own y z old old' alike
  by_place (inl old) (inr e) = absurd (apart y old (alike ∙ ap (λ (w : FullElement). w.key) e))
  by_place (inr e) (inl old) = absurd (apart z old (sym alike ∙ ap (λ (w : FullElement). w.key) e))
  by_place (inr e) (inr e') = e ∙ sym e'
