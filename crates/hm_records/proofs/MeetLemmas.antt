-- Elements that meet, and what leaves lists following: closing, adding, and ids that rise.
use Rattle.std.proofs.Common.{◌≡◌, ◌≢◌, ◌∙◌, ℕ, ◌<◌, ◌≤◌, List, ap, length, sym, subst, inl, inr, arith}
use Rattle.std.specs.Prelude.{◌⊎◌}
use Rattle.std.specs.List.{Contains}
use Rattle.std.proofs.lemmas.Bool.{cases_lt}
use Rattle.hm_types.specs.Elements.{FullElement, Key}
use Rattle.hm_key.specs.declared.rec_type.TheConstants.{FILE_BYTES}
use Rattle.hm_key.specs.Counts.{Counts, IsSeen, Subject, bytes_subject, inodes_of, others_of, subject_of}
use Rattle.hm_key.specs.Versions.{Adds, HaveOwnKeys}
use Rattle.hm_records.specs.Changes.{CountsNothing}
use Rattle.hm_records.specs.Follows.{AreMadeBy, Follows, HasByte, HasWay, HaveAged, IsClosedBy, IsOf, EndedBy, Meet, StillFollow, VersionsFollow}
use Rattle.hm_records.specs.Follows.{bytes, of_bytes, of_entry, of_inode, of_target, versions}
use Rattle.hm_records.proofs.ChangeLemmas.{not_closed}

-- ---- elements that meet

pub meet_back : (pfs : ℕ) (a b : FullElement) → Meet pfs a b → Meet pfs b a
meet_back pfs a b (versions of about) = versions (subst (IsOf pfs) (sym about) of) (sym about)
meet_back pfs a b (bytes obj x first second) = bytes obj x second first

-- an element has the bytes that one with its key and its payload has
byte_as : (pfs obj x : ℕ) (e f : FullElement) → f.key ≡ e.key → f.bytes ≡ e.bytes → HasByte pfs obj x f → HasByte pfs obj x e
byte_as pfs obj x e f key same has = record {
  about = subst (λ (k : Key). subject_of k ≡ bytes_subject pfs obj k.key) key has.about;
  from = omega (arith, has.from, ap (λ (k : Key). k.key) key, ap length same);
  to = omega (arith, has.to, ap (λ (k : Key). k.key) key);
}

-- and meets what that one meets
meet_as : (pfs : ℕ) (a b e f : FullElement) → a.key ≡ e.key → a.bytes ≡ e.bytes → b.key ≡ f.key → b.bytes ≡ f.bytes → Meet pfs a b → Meet pfs e f
meet_as pfs a b e f key same key' same' (versions of about) =
    versions (subst (IsOf pfs) (ap subject_of key) of) (ap subject_of (sym key') ∙ about ∙ ap subject_of key)
meet_as pfs a b e f key same key' same' (bytes obj x first second) =
    bytes obj x (byte_as pfs obj x e a key same first) (byte_as pfs obj x f b key' same' second)

-- what meets an element is of its pseudo file system
pub of_place : (pfs : ℕ) (s : Subject) → IsOf pfs s → (s.localization ≡ inodes_of pfs) ⊎ (s.localization ≡ others_of pfs)
of_place pfs s (of_inode obj is) = inl (ap (λ (z : Subject). z.localization) is)
of_place pfs s (of_bytes obj end is) = inr (ap (λ (z : Subject). z.localization) is)
of_place pfs s (of_target obj is) = inr (ap (λ (z : Subject). z.localization) is)
of_place pfs s (of_entry directory key is) = inr (ap (λ (z : Subject). z.localization) is)

pub meet_of : (pfs : ℕ) (a b : FullElement) → Meet pfs a b → IsOf pfs (subject_of a.key)
meet_of pfs a b (versions of about) = of
meet_of pfs a b (bytes obj x first second) = of_bytes obj a.key.key first.about

-- elements that are about two subjects have bytes, where they meet
pub meet_bytes : (pfs : ℕ) (a b : FullElement) → Meet pfs a b → subject_of b.key ≢ subject_of a.key → a.key.rec_type ≡ FILE_BYTES
meet_bytes pfs a b (versions of about) differ = absurd (differ about)
meet_bytes pfs a b (bytes obj x first second) differ = ap (λ (s : Subject). s.rec_type) first.about

-- ---- what follows

-- the versions of each subject do
pub follows_versions : (pfs t : ℕ) (es : List FullElement) → Follows pfs t es → (s : Subject) → IsOf pfs s → VersionsFollow s t es
follows_versions pfs t es follow s of old new has has' about about' =
    follow.closed old new has has' (versions (subst (IsOf pfs) (sym about) of) (about' ∙ sym about))

-- of elements that meet one is seen at most
pub meet_once : (pfs t u : ℕ) (es : List FullElement) (x y : FullElement) → HaveOwnKeys es → Follows pfs t es → u ≤ t → Contains es x → Contains es y
    → Meet pfs x y → IsSeen u x → IsSeen u y → x ≡ y
meet_once pfs t u es x y own follow within has has' meet seen seen' = elim (cases_lt x.key.create y.key.create) [
  | inl later ↦
      absurd (not_closed u y.key.create x seen'.0 seen (follow.closed x y has has' meet later (let made = seen'.0 in omega (arith, made, within))))
  | inr from ↦ elim (cases_lt y.key.create x.key.create) [
    | inl later ↦ absurd (not_closed u x.key.create y seen.0 seen' (follow.closed y x has' has (meet_back pfs x y meet) later
        (let made = seen.0 in omega (arith, made, within))))
    | inr to ↦ own x y has has' (follow.one x y has has' meet (omega (arith, from, to)) (let made = seen.0 in omega (arith, made, within)))
  ]
]

-- an open version counts, where all of its subject were made by the id
pub open_counts : (pfs t i : ℕ) (es : List FullElement) (x : FullElement) → Follows pfs t es → i ≤ t → Contains es x → IsOf pfs (subject_of x.key)
    → x.key.create ≤ i → x.delete ≡ 0 → Counts es i (subject_of x.key) x.bytes
open_counts pfs t i es x follow within has of made open' = record {
  element = x;
  there = has;
  about = λ j. subject_of x.key;
  holds = λ j. x.bytes;
  seen = (made, inl open');
  newest = λ other has' about by. elim (cases_lt x.key.create other.key.create) [
    | inl later ↦ absurd ((follow.closed x other has has' (versions of about) later (omega (arith, by, within))).closed open')
    | inr from ↦ from
  ];
}

-- where nothing counts about a subject, each version that was made before the id and closed by then has ended
pub nothing_ended : (pfs t i : ℕ) (es : List FullElement) (x : FullElement) → Follows pfs t es → i ≤ t → Contains es x → IsOf pfs (subject_of x.key)
    → x.key.create < i → x.delete ≤ i → CountsNothing (Counts es i) (subject_of x.key) → EndedBy i x
nothing_ended pfs t i es x follow within has of made early none = record {
  made = made;
  closed = record {
    closed = λ open'. none x.bytes (open_counts pfs t i es x follow within has of (omega (arith, made)) open');
    early = early;
  };
}

-- ids up to which nothing more was made
pub follows_later : (pfs t u : ℕ) (es : List FullElement) → AreMadeBy pfs t es → Follows pfs t es → Follows pfs u es
follows_later pfs t u es made follow = record {
  closed = λ old new has has' meet less early.
      follow.closed old new has has' meet less (made new has' (of_place pfs (subject_of new.key) (meet_of pfs new old (meet_back pfs old new meet))));
  one = λ a b has has' meet same early. follow.one a b has has' meet same (made a has (of_place pfs (subject_of a.key) (meet_of pfs a b meet)));
}

-- ---- closing

pub aged_follow : (i : ℕ) (es es' : List FullElement) → HaveAged i es es' → StillFollow es es'
aged_follow i es es' aged pfs t follow = record {
  closed = λ old new has has' meet less early.
      let (e, there, was) = aged old has in
      let (f, there', was') = aged new has' in
      let create = ap (λ (k : Key). k.create) was.key in
      let create' = ap (λ (k : Key). k.create) was'.key in
      let gone = follow.closed e f there there' (meet_as pfs old new e f was.key was.bytes was'.key was'.bytes meet) (omega (arith, less, create, create'))
      (omega (arith, early, create')) in
      elim was.delete [
        | inl same ↦ record { closed = λ open'. gone.closed (sym same ∙ open'); early = omega (arith, gone.early, same, create') }
        | inr now ↦ absurd (gone.closed now.0)
      ];
  one = λ a b has has' meet same early.
      let (e, there, was) = aged a has in
      let (f, there', was') = aged b has' in
      let create = ap (λ (k : Key). k.create) was.key in
      let create' = ap (λ (k : Key). k.create) was'.key in
      was.key
      ∙ follow.one e f there there' (meet_as pfs a b e f was.key was.bytes was'.key was'.bytes meet) (omega (arith, same, create, create'))
      (omega (arith, early, create))
      ∙ sym was'.key;
}

pub aged_none : (i : ℕ) (es : List FullElement) → HaveAged i es es
aged_none i es x has = (x, has, record { key = λ j. x.key; bytes = λ j. x.bytes; delete = inl (λ j. x.delete) })

-- ---- adding

module _ (e : FullElement) (es es' : List FullElement) (adds : Adds e es es') (pfs t : ℕ) (follow : Follows pfs t es) where
  -- up to an id before the new one
  pub follows_past : t < e.key.create → Follows pfs t es'
  follows_past before = record {
    closed = λ old new has has' meet less early. elim ((adds old).0 has) [
      | inl is ↦ absurd (omega (arith, before, less, early, create is))
      | inr there ↦ elim ((adds new).0 has') [
        | inl is ↦ absurd (omega (arith, before, early, create is))
        | inr there' ↦ follow.closed old new there there' meet less early
      ]
    ];
    one = λ a b has has' meet same early. elim ((adds a).0 has) [
      | inl is ↦ absurd (omega (arith, before, early, create is))
      | inr there ↦ elim ((adds b).0 has') [
        | inl is ↦ absurd (omega (arith, before, same, early, create is))
        | inr there' ↦ follow.one a b there there' meet same early
      ]
    ];
  } where
    create : {x : FullElement} → x ≡ e → x.key.create ≡ e.key.create
    create is = ap (λ (z : FullElement). z.key.create) is

  -- where all that it meets has ended
  pub follows_way : HasWay pfs e es → Follows pfs t es'
  follows_way way = record {
    closed = λ old new has has' meet less early. elim ((adds old).0 has) [
      | inl is ↦ elim ((adds new).0 has') [
        | inl is' ↦ absurd (omega (arith, less, create is, create is'))
        | inr there' ↦ absurd (omega (arith, less, create is, (way new there' (subst (λ (z : FullElement). Meet pfs z new) is meet)).made))
      ]
      | inr there ↦ elim ((adds new).0 has') [
        | inl is' ↦ subst (λ (n : ℕ). IsClosedBy n old) (sym (create is'))
            (way old there (subst (λ (z : FullElement). Meet pfs z old) is' (meet_back pfs old new meet))).closed
        | inr there' ↦ follow.closed old new there there' meet less early
      ]
    ];
    one = λ a b has has' meet same early. elim ((adds a).0 has) [
      | inl is ↦ elim ((adds b).0 has') [
        | inl is' ↦ ap (λ (z : FullElement). z.key) (is ∙ sym is')
        | inr there' ↦ absurd (omega (arith, same, create is, (way b there' (subst (λ (z : FullElement). Meet pfs z b) is meet)).made))
      ]
      | inr there ↦ elim ((adds b).0 has') [
        | inl is' ↦ absurd (omega (
          arith,
          same,
          create is',
          (way a there (subst (λ (z : FullElement). Meet pfs z a) is' (meet_back pfs a b meet))).made,
        ))
        | inr there' ↦ follow.one a b there there' meet same early
      ]
    ];
  } where
    create : {x : FullElement} → x ≡ e → x.key.create ≡ e.key.create
    create is = ap (λ (z : FullElement). z.key.create) is
