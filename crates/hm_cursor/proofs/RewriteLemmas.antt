-- What counts after some open versions of a subject were closed, and after a new one was added.
use Rattle.std.proofs.Common.{◌≡◌, ◌≢◌, ℕ, ◌<◌, ◌≤◌, List, refl, sym, ap, subst, ◌∙◌, inl, inr, arith}
use Rattle.std.specs.Prelude.{◌↔◌, ◌⊎◌, Option, Some, None}
use Rattle.std.specs.List.{Contains}
use Rattle.std.proofs.lemmas.Bool.{cases_lt}
use Rattle.hm_types.specs.Elements.{FullElement, Key}
use Rattle.hm_key.specs.Counts.{Counts, IsSeen, Subject, subject_of}
use Rattle.hm_key.specs.Versions.{Adds}
use Rattle.hm_records.specs.Changes.{CountSame, CountsNothing, Overrides}
use Rattle.hm_records.specs.Follows.{EndedBy, Follows, HasWay, HaveAged, IsAged, IsOf}
use Rattle.hm_records.proofs.ChangeLemmas.{Shows, StandsFor, itself, shown}
use Rattle.hm_records.proofs.MeetLemmas.{aged_follow, follows_past, follows_way, meet_back, meet_of, nothing_ended}
use Rattle.hm_records.proofs.SubjectLemmas.{same_subject}
use Rattle.hm_cursor.specs.Write.{AreUpTo, CameFrom, OthersEnded, IsFreshFor, Rewrites}

-- ---- closing

-- an open element about a subject was closed at an id, or an element stayed
pub data Shut (s : Subject) (i : ℕ) (e : FullElement) : FullElement → Type 0 where
  closed : subject_of e.key ≡ s → e.delete ≡ 0 → Shut s i e (record e { delete = i })
  stays : Shut s i e e

-- some open elements about a subject were closed at an id, and all others stayed
pub record Shuts (s : Subject) (i : ℕ) (es es' : List FullElement) : Type 0 where
  pub on : (x : FullElement) → Contains es x → (y : FullElement) × Contains es' y × Shut s i x y
  pub back : (y : FullElement) → Contains es' y → (x : FullElement) × Contains es x × Shut s i x y

pub shuts_none : (s : Subject) (i : ℕ) (es : List FullElement) → Shuts s i es es
shuts_none s i es = record { on = λ x has. (x, has, stays); back = λ y has. (y, has, stays) }

twice : (s : Subject) (i : ℕ) (x y z : FullElement) → Shut s i x y → Shut s i y z → Shut s i x z
twice s i x _ z stays second = second
twice s i x _ _ (closed about open') stays = closed about open'
twice s i x _ _ (closed about open') (closed about' open'') = closed about open'

pub shuts_twice : (s : Subject) (i : ℕ) (es mid es' : List FullElement) → Shuts s i es mid → Shuts s i mid es' → Shuts s i es es'
shuts_twice s i es mid es' first second = record {
  on = λ x has.
      let (y, there, step) = first.on x has in
      let (z, there', step') = second.on y there in
      (z, there', twice s i x y z step step');
  back = λ z has.
      let (y, there, step) = second.back z has in
      let (x, there', step') = first.back y there in
      (x, there', twice s i x y z step' step);
}

-- an element keeps all but its delete id
pub record IsLike (e f : FullElement) : Type 0 where
  pub key : f.key ≡ e.key
  pub obj_type : f.obj_type ≡ e.obj_type
  pub bytes : f.bytes ≡ e.bytes

pub like : (s : Subject) (i : ℕ) (e f : FullElement) → Shut s i e f → IsLike e f
like s i e _ (closed about open') = record { key = refl; obj_type = refl; bytes = refl }
like s i e _ stays = record { key = refl; obj_type = refl; bytes = refl }

elsewhere_stays : (s : Subject) (i : ℕ) (e f : FullElement) → Shut s i e f → subject_of e.key ≢ s → f ≡ e
elsewhere_stays s i e _ (closed about open') not = absurd (not about)
elsewhere_stays s i e _ stays not = refl

-- the delete id is another one only if it is the given one
deleted : (s : Subject) (i : ℕ) (e f : FullElement) → Shut s i e f → (f.delete ≡ i) ⊎ (f.delete ≡ e.delete)
deleted s i e _ (closed about open') = inl refl
deleted s i e _ stays = inr refl

seen_stays : (s : Subject) (i t : ℕ) (e f : FullElement) → t < i → Shut s i e f → IsSeen t e → IsSeen t f
seen_stays s i t e _ below (closed about open') seen = (seen.0, inr below)
seen_stays s i t e _ below stays seen = seen

seen_was : (s : Subject) (i t : ℕ) (e f : FullElement) → Shut s i e f → IsSeen t f → IsSeen t e
seen_was s i t e _ (closed about open') seen = (seen.0, inl open')
seen_was s i t e _ stays seen = seen

-- an element stands in place of another one that is like it
in_place : (t : ℕ) (fs : List FullElement) (x y : FullElement) → Contains fs y → x.key.create ≤ t → y.key ≡ x.key → y.bytes ≡ x.bytes
    → (IsSeen t x → IsSeen t y) → StandsFor t fs t x y
in_place t fs x y there made key bytes seen = record {
  there = there;
  made = omega (arith, made, ap (λ (k : Key). k.create) key);
  key = key;
  bytes = bytes;
  seen = seen;
}

module _ (s : Subject) (i : ℕ) (es es' : List FullElement) (shuts : Shuts s i es es') where
  -- as of an id below, the same counts
  shuts_past : (t : ℕ) → t < i → CountSame (Counts es t) (Counts es' t)
  shuts_past t below s' bytes = (shown s' es' es t t bytes back on, shown s' es es' t t bytes on back) where
    on : Shows s' es t es' t
    on x has about made =
        let (y, there, step) = shuts.on x has in
        let alike = like s i x y step in
        (y, in_place t es' x y there made alike.key alike.bytes (seen_stays s i t x y below step))

    back : Shows s' es' t es t
    back y has about made =
        let (x, there, step) = shuts.back y has in
        let alike = like s i x y step in
        (x, in_place t es y x there made (sym alike.key) (sym alike.bytes) (seen_was s i t x y step))

  -- for other subjects the same counts
  shuts_elsewhere : (t : ℕ) (other : Subject) (bytes : List ℕ) → other ≢ s
      → (Counts es' t other bytes → Counts es t other bytes) × (Counts es t other bytes → Counts es' t other bytes)
  shuts_elsewhere t other bytes not = (shown other es' es t t bytes back on, shown other es es' t t bytes on back) where
    on : Shows other es t es' t
    on x has about made =
        let (y, there, step) = shuts.on x has in
        let same : y ≡ x = elsewhere_stays s i x y step (λ is. not (sym about ∙ is)) in
        (x, itself t es' x (subst (Contains es') same there) made)

    back : Shows other es' t es t
    back y has about made =
        let (x, there, step) = shuts.back y has in
        let alike = like s i x y step in
        let about' : subject_of x.key ≡ other = ap subject_of (sym alike.key) ∙ about in
        let same : y ≡ x = elsewhere_stays s i x y step (λ is. not (sym about' ∙ is)) in
        (y, itself t es y (subst (Contains es) (sym same) there) made)

  -- versions were made when they were made
  pub shuts_made : ((x : FullElement) → Contains es x → subject_of x.key ≡ s → x.key.create < i)
      → (y : FullElement) → Contains es' y → subject_of y.key ≡ s → y.key.create < i
  shuts_made made y has about =
      let (x, there, step) = shuts.back y has in
      let key = (like s i x y step).key in
      let before = made x there (ap subject_of (sym key) ∙ about) in
      omega (arith, before, ap (λ (k : Key). k.create) key)

  -- what is about other subjects stays
  shuts_beside : (x : FullElement) → subject_of x.key ≢ s → Contains es' x ↔ Contains es x
  shuts_beside x not = (back, on) where
    back : Contains es' x → Contains es x
    back has =
        let (e, there, step) = shuts.back x has in
        let other = λ (is : subject_of e.key ≡ s). not (ap subject_of (like s i e x step).key ∙ is) in
        subst (Contains es) (sym (elsewhere_stays s i e x step other)) there

    on : Contains es x → Contains es' x
    on has =
        let (f, there, step) = shuts.on x has in
        subst (Contains es') (elsewhere_stays s i x f step not) there

  -- the versions of the subject stay as old as they were
  shuts_closed : IsFreshFor s i es → IsFreshFor s i es'
  shuts_closed fresh = record {
    made = shuts_made fresh.made;
    closed = λ y has about.
        let (x, there, step) = shuts.back y has in
        let gone = fresh.closed x there (ap subject_of (sym (like s i x y step).key) ∙ about) in
        elim (deleted s i x y step) [
          | inl now ↦ omega (arith, now)
          | inr was ↦ omega (arith, was, gone)
        ];
  }

  -- all ids stay up to this one
  shuts_up_to : (localization : ℕ) → AreUpTo localization i es → AreUpTo localization i es'
  shuts_up_to localization below = record {
    made = λ y has place.
        let (x, there, step) = shuts.back y has in
        let made = below.made x there (ap (λ (k : Key). k.localization) (sym (like s i x y step).key) ∙ place) in
        omega (arith, made, ap (λ (k : Key). k.create) (like s i x y step).key);
    closed = λ y has place.
        let (x, there, step) = shuts.back y has in
        let gone = below.closed x there (ap (λ (k : Key). k.localization) (sym (like s i x y step).key) ∙ place) in
        elim (deleted s i x y step) [
          | inl now ↦ omega (arith, now)
          | inr was ↦ omega (arith, was, gone)
        ];
  }

  shuts_came : (now : Option (List ℕ)) (y : FullElement) → Contains es' y → CameFrom s now i es y
  shuts_came now y has =
      let (x, there, step) = shuts.back y has in
      let alike = like s i x y step in
      inr (x, there, alike.key, alike.obj_type, alike.bytes)

  -- no version that was closed is seen from the id on
  shut_unseen : IsFreshFor s i es → (t : ℕ) → i ≤ t → (y : FullElement) → Contains es' y → subject_of y.key ≡ s → y.delete ≢ 0 → IsSeen t y → ⊥
  shut_unseen fresh t late y has about gone seen =
      let (x, there, step) = shuts.back y has in
      let about' : subject_of x.key ≡ s = ap subject_of (sym (like s i x y step).key) ∙ about in
      let before = fresh.closed x there about' in
      elim seen.1 [
        | inl open' ↦ gone open'
        | inr later ↦ elim (deleted s i x y step) [
          | inl now ↦ absurd (omega (arith, now, later))
          | inr was ↦ absurd (omega (arith, was, later, before))
        ]
      ]

none_some : (b : List ℕ) → None ≡ Some b → ⊥
none_some b is = cc

-- ---- what followed before

aged : (s : Subject) (i : ℕ) (e x : FullElement) → Shut s i e x → IsAged i e x
aged s i e _ (closed about open') = record { key = refl; bytes = refl; delete = inr (open', refl) }
aged s i e _ stays = record { key = refl; bytes = refl; delete = inl refl }

pub shuts_aged : (s : Subject) (i : ℕ) (es es' : List FullElement) → Shuts s i es es' → HaveAged i es es'
shuts_aged s i es es' shuts x has =
    let (e, there, step) = shuts.back x has in
    (e, there, aged s i e x step)

-- a version that was closed had not been open
pub closed_stays : (s : Subject) (i : ℕ) (e x : FullElement) → Shut s i e x → e.delete ≢ 0 → e ≡ x
closed_stays s i e _ (closed about open') not = absurd (not open')
closed_stays s i e _ stays not = refl

module _ (e : FullElement) (es mid es' : List FullElement) (shuts : Shuts (subject_of e.key) e.key.create es mid) (adds : Adds e mid es')
    (pfs t : ℕ) (others : e.key.create ≤ t → OthersEnded pfs (subject_of e.key) (Some e.bytes) e.key.create es) (follow : Follows pfs t es) where
  -- Versions of the subject that were there have ended, where each of them has that stays in the list.
  pub follows_added : (e.key.create ≤ t → (x y : FullElement) → Contains es x → Contains mid y → Shut (subject_of e.key) e.key.create x y
      → subject_of y.key ≡ subject_of e.key → IsOf pfs (subject_of x.key) → EndedBy e.key.create y) → Follows pfs t es'
  follows_added ended =
      let after = aged_follow e.key.create es mid (shuts_aged (subject_of e.key) e.key.create es mid shuts) pfs t follow in
      elim (cases_lt t e.key.create) [
        | inl before ↦ follows_past e mid es' adds pfs t after before
        | inr within ↦ follows_way e mid es' adds pfs t after (way within)
      ]
    where
      way : e.key.create ≤ t → HasWay pfs e mid
      way within x has meet = elim (same_subject (subject_of x.key) (subject_of e.key)) [
        | inr differ ↦ others within e x refl refl ((shuts_beside (subject_of e.key) e.key.create es mid shuts x differ).0 has) differ meet
        | inl about ↦
            let (y, there, step) = shuts.back x has in
            let of = subst (IsOf pfs) (ap subject_of (like (subject_of e.key) e.key.create y x step).key) (meet_of pfs x e (meet_back pfs e x meet)) in
            ended within y x there has step about of
      ]

  -- where nothing counted about it
  pub follows_unused : CountsNothing (Counts es e.key.create) (subject_of e.key) → IsFreshFor (subject_of e.key) e.key.create es → Follows pfs t es'
  follows_unused none fresh = follows_added (λ within x y there has step about of.
      let about' = ap subject_of (sym (like (subject_of e.key) e.key.create x y step).key) ∙ about in
      let over = nothing_ended pfs t e.key.create es x follow within there of (fresh.made x there about') (fresh.closed x there about')
      (subst (λ (s : Subject). CountsNothing (Counts es e.key.create) s) (sym about') none) in
      subst (EndedBy e.key.create) (closed_stays (subject_of e.key) e.key.create x y step over.closed.closed) over)

-- of the versions of a subject none was made after this one
abbrev pub IsLatest : List FullElement → Subject → FullElement → Type 0
IsLatest es s y = (other : FullElement) → Contains es other → subject_of other.key ≡ s → other.key.create ≤ y.key.create

-- where the newest version is closed, nothing counts from the id on
pub rewrites_shut : (s : Subject) (i : ℕ) (es es' : List FullElement) → Shuts s i es es' → IsFreshFor s i es
    → ((y : FullElement) → Contains es' y → subject_of y.key ≡ s → IsLatest es' s y → y.delete ≢ 0) → Rewrites s None i es es'
rewrites_shut s i es es' shuts fresh gone = record {
  past = shuts_past s i es es' shuts;
  present = λ t late. record {
    about = λ bytes. (λ c. absurd (none t late bytes c), λ is. absurd (none_some bytes is));
    elsewhere = λ other bytes not. shuts_elsewhere s i es es' shuts t other bytes not;
  };
  beside = shuts_beside s i es es' shuts;
  closed = λ _ was. shuts_closed s i es es' shuts was;
  up_to = shuts_up_to s i es es' shuts;
  came = shuts_came s i es es' shuts None;
  follows = λ pfs t unused others. aged_follow i es es' (shuts_aged s i es es' shuts) pfs t;
} where
  none : (t : ℕ) → i ≤ t → (bytes : List ℕ) → Counts es' t s bytes → ⊥
  none t late bytes c =
      let latest : IsLatest es' s c.element = λ other has about.
      c.newest other has about (let made = shuts_made s i es es' shuts fresh.made other has about in omega (arith, made, late)) in
      shut_unseen s i es es' shuts fresh t late c.element c.there c.about (gone c.element c.there c.about latest) c.seen

-- ---- adding

some_none : (a : List ℕ) → Some a ≡ None → ⊥
some_none a is = cc

same_some : (a b : List ℕ) → Some a ≡ Some b → a ≡ b
same_some a b is = cc

module _ (e : FullElement) (es es' : List FullElement) (adds : Adds e es es') where
  adds_past : (t : ℕ) → t < e.key.create → CountSame (Counts es t) (Counts es' t)
  adds_past t below s bytes = (shown s es' es t t bytes back on, shown s es es' t t bytes on back) where
    on : Shows s es t es' t
    on x has about made = (x, itself t es' x ((adds x).1 (inr has)) made)

    back : Shows s es' t es t
    back x has about made = elim ((adds x).0 has) [
      | inl new ↦ let made' : e.key.create ≤ t = subst (λ (z : FullElement). z.key.create ≤ t) new made in absurd (omega (arith, made'))
      | inr old ↦ (x, itself t es x old made)
    ]

  -- from its id on the new version counts, if it is the newest one of its subject
  adds_present : (t : ℕ) → e.delete ≡ 0 → e.key.create ≤ t
      → ((x : FullElement) → Contains es x → subject_of x.key ≡ subject_of e.key → x.key.create < e.key.create)
      → Overrides (subject_of e.key) (Some e.bytes) (Counts es t) (Counts es' t)
  adds_present t open' late older = record {
    about = λ bytes. (only bytes, λ is. counts bytes (same_some e.bytes bytes is));
    elsewhere = λ other bytes not. (shown other es' es t t bytes (back other not) (on other), shown other es es' t t bytes (on other) (back other not));
  } where
    on : (other : Subject) → Shows other es t es' t
    on other x has about made = (x, itself t es' x ((adds x).1 (inr has)) made)

    back : (other : Subject) → other ≢ subject_of e.key → Shows other es' t es t
    back other not x has about made = elim ((adds x).0 has) [
      | inl new ↦ absurd (not (sym about ∙ ap (λ (z : FullElement). subject_of z.key) new))
      | inr old ↦ (x, itself t es x old made)
    ]

    only : (bytes : List ℕ) → Counts es' t (subject_of e.key) bytes → Some e.bytes ≡ Some bytes
    only bytes c = elim ((adds c.element).0 c.there) [
      | inl new ↦ ap Some (ap (λ (z : FullElement). z.bytes) (sym new) ∙ c.holds)
      | inr old ↦ absurd (omega (arith, older c.element old c.about, c.newest e ((adds e).1 (inl refl)) refl late))
    ]

    counts : (bytes : List ℕ) → e.bytes ≡ bytes → Counts es' t (subject_of e.key) bytes
    counts bytes is = record {
      element = e;
      there = (adds e).1 (inl refl);
      about = refl;
      holds = is;
      seen = (late, inl open');
      newest = λ other has about made. elim ((adds other).0 has) [
        | inl new ↦ omega (arith, ap (λ (z : FullElement). z.key.create) new)
        | inr old ↦ omega (arith, older other old about)
      ];
    }

  adds_beside : (x : FullElement) → subject_of x.key ≢ subject_of e.key → Contains es' x ↔ Contains es x
  adds_beside x not = (
    λ has. elim ((adds x).0 has) [
      | inl new ↦ absurd (not (ap (λ (z : FullElement). subject_of z.key) new))
      | inr old ↦ old
    ],
    λ has. (adds x).1 (inr has),
  )

  adds_up_to : e.delete ≡ 0 → (localization : ℕ) → AreUpTo localization e.key.create es → AreUpTo localization e.key.create es'
  adds_up_to open' localization below = record {
    made = λ x has place. elim ((adds x).0 has) [
      | inl new ↦ omega (arith, ap (λ (z : FullElement). z.key.create) new)
      | inr old ↦ below.made x old place
    ];
    closed = λ x has place. elim ((adds x).0 has) [
      | inl new ↦ omega (arith, open', ap (λ (z : FullElement). z.delete) new)
      | inr old ↦ below.closed x old place
    ];
  }

  -- an element of the new list, where those of the old one came from an older one
  adds_came : (was : List FullElement) → ((x : FullElement) → Contains es x → CameFrom (subject_of e.key) (Some e.bytes) e.key.create was x)
      → (x : FullElement) → Contains es' x → CameFrom (subject_of e.key) (Some e.bytes) e.key.create was x
  adds_came was came x has = elim ((adds x).0 has) [
    | inl new ↦
        inl (ap (λ (z : FullElement). subject_of z.key) new, ap (λ (z : FullElement). z.key.create) new, ap (λ (z : FullElement). Some z.bytes) (sym new))
    | inr old ↦ came x old
  ]

-- some open versions were closed as a new one was made
pub rewrites_added : (e : FullElement) (es mid es' : List FullElement) → Shuts (subject_of e.key) e.key.create es mid → Adds e mid es' → e.delete ≡ 0
    → IsFreshFor (subject_of e.key) e.key.create es → Rewrites (subject_of e.key) (Some e.bytes) e.key.create es es'
rewrites_added e es mid es' shuts adds open' fresh = record {
  past = λ t below s bytes.
      let first = shuts_past (subject_of e.key) e.key.create es mid shuts t below s bytes in
      let second = adds_past e mid es' adds t below s bytes in
      (λ c. first.0 (second.0 c), λ c. second.1 (first.1 c));
  present = λ t late.
      let now = adds_present e mid es' adds t open' late (shuts_made (subject_of e.key) e.key.create es mid shuts fresh.made) in
      record {
        about = now.about;
        elsewhere = λ other bytes not.
            let first = shuts_elsewhere (subject_of e.key) e.key.create es mid shuts t other bytes not in
            let second = now.elsewhere other bytes not in
            (λ c. first.0 (second.0 c), λ c. second.1 (first.1 c));
      };
  beside = λ x not.
      let first = shuts_beside (subject_of e.key) e.key.create es mid shuts x not in
      let second = adds_beside e mid es' adds x not in
      (λ has. first.0 (second.0 has), λ has. second.1 (first.1 has));
  closed = λ is. absurd (some_none e.bytes is);
  up_to = λ localization below.
      adds_up_to e mid es' adds open' localization (shuts_up_to (subject_of e.key) e.key.create es mid shuts localization below);
  came = adds_came e mid es' adds es (shuts_came (subject_of e.key) e.key.create es mid shuts (Some e.bytes));
  follows = λ pfs t unused others follow. elim unused [
    | inl is ↦ absurd (some_none e.bytes is)
    | inr none ↦ follows_unused e es mid es' shuts adds pfs t others follow none fresh
  ];
}
