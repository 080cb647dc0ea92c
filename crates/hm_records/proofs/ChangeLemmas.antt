-- What a change of a list does to what counts, as of an id before it and as of one from it on.
use Rattle.std.proofs.Common.{◌≡◌, ◌≢◌, ℕ, ◌+◌, ◌<◌, ◌≤◌, Bool, true, false, List, refl, sym, ap, subst, ◌∙◌, inl, inr, arith}
use Rattle.std.specs.Prelude.{◌⊎◌, ◌==◌, ◌&&◌, if◌then◌else◌, Option, Some, None}
use Rattle.std.specs.List.{Contains}
use Rattle.std.proofs.lemmas.Bool.{false≢true, cases_lt, eqb-true, eq-eqb, and_parts}
use Rattle.hm_types.specs.Elements.{FullElement, Key}
use Rattle.hm_key.specs.Counts.{Content, Counts, IsSeen, Subject, subject_of}
use Rattle.hm_key.specs.Versions.{Adds, Closes, HaveOwnKeys, IsBelow, TakesOut, closed_for, is_about}
use Rattle.hm_records.specs.Changes.{CountSame, Overrides}
use Rattle.hm_records.specs.Follows.{IsClosedBy, VersionsFollow}
use Rattle.hm_records.proofs.CountsLemmas.{open-seen, seen-open}

-- an element stands in a list in place of another one: it has its key and its bytes, and is seen where that one is
pub record StandsFor (t : ℕ) (fs : List FullElement) (u : ℕ) (x y : FullElement) : Type 0 where
  pub there : Contains fs y
  pub made : y.key.create ≤ u
  pub key : y.key ≡ x.key
  pub bytes : y.bytes ≡ x.bytes
  pub seen : IsSeen t x → IsSeen u y

-- what one list has about a subject by an id, another has by another id
abbrev pub Shows : Subject → List FullElement → ℕ → List FullElement → ℕ → Type 0
Shows s es t fs u =
    (x : FullElement) → Contains es x → subject_of x.key ≡ s → x.key.create ≤ t → (y : FullElement) × StandsFor t fs u x y

-- an element stands for itself
pub itself : (t : ℕ) (fs : List FullElement) (x : FullElement) → Contains fs x → x.key.create ≤ t → StandsFor t fs t x x
itself t fs x has made = record { there = has; made = made; key = refl; bytes = refl; seen = λ seen. seen }

-- and if the other shows no more, the same counts
pub shown : (s : Subject) (es fs : List FullElement) (t u : ℕ) (bytes : List ℕ) → Shows s es t fs u → Shows s fs u es t → Counts es t s bytes
    → Counts fs u s bytes
shown s es fs t u bytes to from counts =
    let (y, here) = to counts.element counts.there counts.about counts.seen.0 in
    record {
      element = y;
      there = here.there;
      about = ap subject_of here.key ∙ counts.about;
      holds = here.bytes ∙ counts.holds;
      seen = here.seen counts.seen;
      newest = λ other has about' made.
          let (z, back) = from other has about' made in
          let newest = counts.newest z back.there (ap subject_of back.key ∙ about') back.made in
          omega (arith, newest, ap (λ (k : Key). k.create) here.key, ap (λ (k : Key). k.create) back.key);
    }

-- ---- before the change

pub adds_below : (e : FullElement) (es es' : List FullElement) (t : ℕ) → Adds e es es' → t < e.key.create → CountSame (Counts es t) (Counts es' t)
adds_below e es es' t adds below s bytes = (shown s es' es t t bytes back on, shown s es es' t t bytes on back) where
  on : Shows s es t es' t
  on x has about made = (x, itself t es' x ((adds x).1 (inr has)) made)

  back : Shows s es' t es t
  back x has about made = elim ((adds x).0 has) [
    | inl new ↦ let made' : e.key.create ≤ t = subst (λ (z : FullElement). z.key.create ≤ t) new made in absurd (omega (arith, made'))
    | inr old ↦ (x, itself t es x old made)
  ]

-- where an element is seen, no later version that was made by then closed it
pub not_closed : (t i : ℕ) (e : FullElement) → i ≤ t → IsSeen t e → IsClosedBy i e → ⊥
not_closed t i e late seen closed = elim seen.1 [
  | inl open' ↦ closed.closed open'
  | inr before ↦ absurd (omega (arith, before, late, closed.early))
]

pub takes_out_unseen : (e : FullElement) (es es' : List FullElement) (t : ℕ) → VersionsFollow (subject_of e.key) t es → TakesOut e es es'
    → (IsSeen t e → ⊥) → CountSame (Counts es t) (Counts es' t)
takes_out_unseen e es es' t follow takes unseen s bytes = (was, stays) where
  stays : Counts es t s bytes → Counts es' t s bytes
  stays c = record {
    element = c.element;
    there = (takes c.element).1 (c.there, λ same. unseen (subst (λ (z : FullElement). IsSeen t z) same c.seen));
    about = c.about;
    holds = c.holds;
    seen = c.seen;
    newest = λ other has about made. c.newest other ((takes other).0 has).0 about made;
  }

  -- a newer version than the one that is seen is not the one that went
  newer : (c : Counts es' t s bytes) (other : FullElement) → Contains es other → subject_of other.key ≡ s → other.key.create ≤ t
      → c.element.key.create < other.key.create → ⊥
  newer c other has about made later =
      let apart : other ≢ e = λ same.
      not_closed t other.key.create c.element made c.seen
      (subst (λ (u : Subject). VersionsFollow u t es) (ap (λ (z : FullElement). subject_of z.key) (sym same) ∙ about) follow
      c.element other ((takes c.element).0 c.there).0 has c.about about later made) in
      let newest = c.newest other ((takes other).1 (has, apart)) about made in
      absurd (omega (arith, newest, later))

  was : Counts es' t s bytes → Counts es t s bytes
  was c = record {
    element = c.element;
    there = ((takes c.element).0 c.there).0;
    about = c.about;
    holds = c.holds;
    seen = c.seen;
    newest = λ other has about made. elim (cases_lt c.element.key.create other.key.create) [
      | inl later ↦ absurd (newer c other has about made later)
      | inr from ↦ from
    ];
  }

-- ---- closing

pub about_is : (s : Subject) (k : Key) → is_about s k ≡ true → subject_of k ≡ s
about_is s k is =
    let last = and_parts _ _ is in
    let third = and_parts _ _ last.0 in
    let first = and_parts _ _ third.0 in
    let l : k.localization ≡ s.localization = eqb-true k.localization s.localization first.0 in
    let o : k.obj ≡ s.obj = eqb-true k.obj s.obj first.1 in
    let r : k.rec_type ≡ s.rec_type = eqb-true k.rec_type s.rec_type third.1 in
    let n : k.key ≡ s.key = eqb-true k.key s.key last.1 in
    λ i. record { localization = l i; obj = o i; rec_type = r i; key = n i }

pub is_about_of : (s : Subject) (k : Key) → subject_of k ≡ s → is_about s k ≡ true
is_about_of s k same =
    let l : (k.localization == s.localization) ≡ true = eq-eqb k.localization s.localization (ap (λ (z : Subject). z.localization) same) in
    let o : (k.obj == s.obj) ≡ true = eq-eqb k.obj s.obj (ap (λ (z : Subject). z.obj) same) in
    let r : (k.rec_type == s.rec_type) ≡ true = eq-eqb k.rec_type s.rec_type (ap (λ (z : Subject). z.rec_type) same) in
    let n : (k.key == s.key) ≡ true = eq-eqb k.key s.key (ap (λ (z : Subject). z.key) same) in
    rw (l, o, r, n) refl

-- either an open element about the subject was closed, or nothing became of the element
data Closing (s : Subject) (i : ℕ) (e : FullElement) : FullElement → Type 0 where
  closed : subject_of e.key ≡ s → e.delete ≡ 0 → Closing s i e (record e { delete = i })
  same : (subject_of e.key ≡ s → e.delete ≡ 0 → ⊥) → Closing s i e e

closing : (s : Subject) (i : ℕ) (e : FullElement) → Closing s i e (closed_for s i e)
closing s i e = by_test (is_about s e.key) (e.delete == 0) refl refl where
  by_test : (a b : Bool) → is_about s e.key ≡ a → (e.delete == 0) ≡ b → Closing s i e (if a && b then record e { delete = i } else e)
  by_test true true is is' = closed (about_is s e.key is) (eqb-true e.delete 0 is')
  by_test true false is is' = same (λ about open'. false≢true (sym is' ∙ eq-eqb e.delete 0 open'))
  by_test false b is is' = same (λ about open'. false≢true (sym is ∙ is_about_of s e.key about))

key_stays : (s : Subject) (i : ℕ) (e f : FullElement) → Closing s i e f → (f.key ≡ e.key) × (f.bytes ≡ e.bytes)
key_stays s i e _ (closed about open') = (refl, refl)
key_stays s i e _ (same not) = (refl, refl)

seen_stays : (s : Subject) (i t : ℕ) (e f : FullElement) → t < i → Closing s i e f → IsSeen t e → IsSeen t f
seen_stays s i t e _ below (closed about open') seen = (seen.0, inr below)
seen_stays s i t e _ below (same not) seen = seen

seen_was : (s : Subject) (i t : ℕ) (e f : FullElement) → Closing s i e f → IsSeen t f → i ≢ 0 → IsSeen t e
seen_was s i t e _ (closed about open') seen some = (seen.0, inl open')
seen_was s i t e _ (same not) seen some = seen

elsewhere_stays : (s : Subject) (i : ℕ) (e f : FullElement) → Closing s i e f → subject_of e.key ≢ s → f ≡ e
elsewhere_stays s i e _ (closed about open') not = absurd (not about)
elsewhere_stays s i e _ (same not') not = refl

closed_unseen : (s : Subject) (i t : ℕ) (e f : FullElement) → e.key.create < i → e.delete < i → i ≤ t → Closing s i e f → subject_of e.key ≡ s → IsSeen t f → ⊥
closed_unseen s i t e _ made gone late (closed about' open') about seen = elim seen.1 [
  | inl zero' ↦ absurd (omega (arith, zero'))
  | inr later ↦ absurd (omega (arith, later))
]
closed_unseen s i t e _ made gone late (same not) about seen = elim seen.1 [
  | inl open' ↦ not about open'
  | inr later ↦ absurd (omega (arith, later))
]

pub closes_below : (s : Subject) (i : ℕ) (es es' : List FullElement) (t : ℕ) → Closes s i es es' → t < i → CountSame (Counts es t) (Counts es' t)
closes_below s i es es' t closes below s' bytes = (shown s' es' es t t bytes back on, shown s' es es' t t bytes on back) where
  on : Shows s' es t es' t
  on x has about made =
      let step = closing s i x in
      let kept = key_stays s i x (closed_for s i x) step in (
        closed_for s i x,
        record {
          there = (closes (closed_for s i x)).1 (x, has, refl);
          made = omega (arith, made, ap (λ (k : Key). k.create) kept.0);
          key = kept.0;
          bytes = kept.1;
          seen = seen_stays s i t x (closed_for s i x) below step;
        },
      )

  back : Shows s' es' t es t
  back y has about made =
      let (x, there, is) = (closes y).0 has in
      let step : Closing s i x y = subst (λ (f : FullElement). Closing s i x f) is (closing s i x) in
      let kept = key_stays s i x y step in (
        x,
        record {
          there = there;
          made = omega (arith, made, ap (λ (k : Key). k.create) kept.0);
          key = sym kept.0;
          bytes = sym kept.1;
          seen = λ seen. seen_was s i t x y step seen (omega arith);
        },
      )

-- ---- from the change on

same_some : (a b : List ℕ) → Some a ≡ Some b → a ≡ b
same_some a b is = cc

none_some : (b : List ℕ) → None ≡ Some b → ⊥
none_some b is = cc

pub adds_from : (e : FullElement) (es es' : List FullElement) (t : ℕ) → Adds e es es' → e.delete ≡ 0 → e.key.create ≤ t
    → ((x : FullElement) → Contains es x → x.key.create < e.key.create) → Overrides (subject_of e.key) (Some e.bytes) (Counts es t) (Counts es' t)
adds_from e es es' t adds open' late older = record {
  about = λ bytes. (only bytes, λ is. counts bytes (same_some e.bytes bytes is));
  elsewhere = λ other bytes not. (shown other es' es t t bytes (back other not) (on other), shown other es es' t t bytes (on other) (back other not));
} where
  on : (other : Subject) → Shows other es t es' t
  on other x has about made = (x, itself t es' x ((adds x).1 (inr has)) made)

  back : (other : Subject) → other ≢ subject_of e.key → Shows other es' t es t
  back other not x has about made = elim ((adds x).0 has) [
    | inl new ↦ absurd (not (sym about ∙ ap (λ (z : FullElement). subject_of z.key) new))
    | inr old ↦ (x, itself t es x old made)
  ]

  only : (bytes : List ℕ) → Counts es' t (subject_of e.key) bytes → Some e.bytes ≡ Some bytes
  only bytes c = elim ((adds c.element).0 c.there) [
    | inl new ↦ ap Some (ap (λ (z : FullElement). z.bytes) (sym new) ∙ c.holds)
    | inr old ↦ absurd (omega (arith, older c.element old, c.newest e ((adds e).1 (inl refl)) refl late))
  ]

  counts : (bytes : List ℕ) → e.bytes ≡ bytes → Counts es' t (subject_of e.key) bytes
  counts bytes is = record {
    element = e;
    there = (adds e).1 (inl refl);
    about = refl;
    holds = is;
    seen = (late, inl open');
    newest = λ other has about made. elim ((adds other).0 has) [
      | inl new ↦ omega (arith, ap (λ (z : FullElement). z.key.create) new)
      | inr old ↦ omega (arith, older other old)
    ];
  }

pub closes_from : (s : Subject) (i : ℕ) (es es' : List FullElement) (t : ℕ) → Closes s i es es' → IsBelow i es → i ≤ t
    → Overrides s None (Counts es t) (Counts es' t)
closes_from s i es es' t closes below late = record {
  about = λ bytes. (λ c. absurd (none bytes c), λ is. absurd (none_some bytes is));
  elsewhere = λ other bytes not. (shown other es' es t t bytes (back other not) (on other not), shown other es es' t t bytes (on other not) (back other not));
} where
  from_old : (y : FullElement) → Contains es' y → (x : FullElement) × Contains es x × Closing s i x y
  from_old y has =
      let (x, there, is) = (closes y).0 has in
      (x, there, subst (λ (f : FullElement). Closing s i x f) is (closing s i x))

  none : (bytes : List ℕ) → Counts es' t s bytes → ⊥
  none bytes c =
      let (x, there, step) = from_old c.element c.there in
      closed_unseen s i t x c.element (below.made x there) (below.closed x there) late step
      (ap subject_of (sym (key_stays s i x c.element step).0) ∙ c.about) c.seen

  on : (other : Subject) → other ≢ s → Shows other es t es' t
  on other not x has about made =
      let stays : closed_for s i x ≡ x = elsewhere_stays s i x (closed_for s i x) (closing s i x) (λ is. not (sym about ∙ is)) in
      (x, itself t es' x ((closes x).1 (x, has, stays)) made)

  back : (other : Subject) → other ≢ s → Shows other es' t es t
  back other not y has about made =
      let (x, there, step) = from_old y has in
      let stays : y ≡ x = elsewhere_stays s i x y step (λ is. not (sym about ∙ ap subject_of (key_stays s i x y step).0 ∙ is)) in
      (y, itself t es y (subst (λ (z : FullElement). Contains es z) (sym stays) there) made)

-- what was closed keeps the ids that made it
closes_older : (s : Subject) (i : ℕ) (es es' : List FullElement) → Closes s i es es' → IsBelow i es → (y : FullElement) → Contains es' y → y.key.create < i
closes_older s i es es' closes below y has =
    let (x, there, is) = (closes y).0 has in
    let step : Closing s i x y = subst (λ (f : FullElement). Closing s i x f) is (closing s i x) in
    omega (arith, below.made x there, ap (λ (k : Key). k.create) (key_stays s i x y step).0)

overrides_twice : (s : Subject) (first second : Option (List ℕ)) (C D E : Content) → Overrides s first C D → Overrides s second D E → Overrides s second C E
overrides_twice s first second C D E one two = record {
  about = two.about;
  elsewhere = λ other bytes not. (
    λ c. (one.elsewhere other bytes not).0 ((two.elsewhere other bytes not).0 c),
    λ c. (two.elsewhere other bytes not).1 ((one.elsewhere other bytes not).1 c),
  );
}

-- a version is closed as its successor is made
pub replaces_from : (e : FullElement) (es mid es' : List FullElement) (t : ℕ) → IsBelow e.key.create es
    → Closes (subject_of e.key) e.key.create es mid → Adds e mid es' → e.delete ≡ 0 → e.key.create ≤ t
    → Overrides (subject_of e.key) (Some e.bytes) (Counts es t) (Counts es' t)
replaces_from e es mid es' t below closes adds open' late =
    overrides_twice (subject_of e.key) None (Some e.bytes) (Counts es t) (Counts mid t) (Counts es' t)
    (closes_from (subject_of e.key) e.key.create es mid t closes below late)
    (adds_from e mid es' t adds open' late (closes_older (subject_of e.key) e.key.create es mid closes below))

-- as of all ids that no id of the list is above, the same counts
pub counts_from : (es : List FullElement) (t u : ℕ) → IsBelow (t + 1) es → IsBelow (u + 1) es → CountSame (Counts es t) (Counts es u)
counts_from es t u up up' s bytes = (shown s es es u t bytes (on u t up' up) (on t u up up'), shown s es es t u bytes (on t u up up') (on u t up' up)) where
  on : (t u : ℕ) → IsBelow (t + 1) es → IsBelow (u + 1) es → Shows s es t es u
  on t u up up' x has about made = (
    x,
    record {
      there = has;
      made = omega (arith, up'.made x has);
      key = refl;
      bytes = refl;
      seen = λ seen. open-seen es (u + 1) u x up' (omega arith) has (seen-open es (t + 1) t x up (omega arith) has seen);
    },
  )

-- ---- ids and keys

pub below_adds : (e : FullElement) (es es' : List FullElement) (i : ℕ) → Adds e es es' → IsBelow i es → e.key.create ≤ i → e.delete ≤ i → IsBelow (i + 1) es'
below_adds e es es' i adds below made gone = record {
  made = λ x has. elim ((adds x).0 has) [
    | inl new ↦ omega (arith, ap (λ (z : FullElement). z.key.create) new)
    | inr old ↦ omega (arith, below.made x old)
  ];
  closed = λ x has. elim ((adds x).0 has) [
    | inl new ↦ omega (arith, ap (λ (z : FullElement). z.delete) new)
    | inr old ↦ omega (arith, below.closed x old)
  ];
}

closing_below : (s : Subject) (i : ℕ) (e f : FullElement) → Closing s i e f → e.delete < i → f.delete < i + 1
closing_below s i e _ (closed about open') below = omega arith
closing_below s i e _ (same not) below = omega arith

pub below_closes : (s : Subject) (i : ℕ) (es es' : List FullElement) → Closes s i es es' → IsBelow i es → IsBelow (i + 1) es'
below_closes s i es es' closes below = record {
  made = λ y has. let made = closes_older s i es es' closes below y has in omega (arith, made);
  closed = λ y has.
      let (x, there, is) = (closes y).0 has in
      closing_below s i x y (subst (λ (f : FullElement). Closing s i x f) is (closing s i x)) (below.closed x there);
}

pub below_takes_out : (e : FullElement) (es es' : List FullElement) (i : ℕ) → TakesOut e es es' → IsBelow i es → IsBelow i es'
below_takes_out e es es' i takes below = record {
  made = λ x has. below.made x ((takes x).0 has).0;
  closed = λ x has. below.closed x ((takes x).0 has).0;
}

pub below_later : (es : List FullElement) (i j : ℕ) → i ≤ j → IsBelow i es → IsBelow j es
below_later es i j later below = record {
  made = λ x has. let made = below.made x has in omega (arith, made);
  closed = λ x has. let closed = below.closed x has in omega (arith, closed);
}

pub own_keys_adds : (e : FullElement) (es es' : List FullElement) → Adds e es es' → ((x : FullElement) → Contains es x → x.key ≢ e.key)
    → HaveOwnKeys es → HaveOwnKeys es'
own_keys_adds e es es' adds new own x y has has' alike = by_place ((adds x).0 has) ((adds y).0 has') where
  by_place : ((x ≡ e) ⊎ Contains es x) → ((y ≡ e) ⊎ Contains es y) → x ≡ y
  by_place (inl is) (inl is') = is ∙ sym is'
  by_place (inl is) (inr old) = absurd (new y old (sym alike ∙ ap (λ (z : FullElement). z.key) is))
  by_place (inr old) (inl is) = absurd (new x old (alike ∙ ap (λ (z : FullElement). z.key) is))
  by_place (inr old) (inr old') = own x y old old' alike

pub own_keys_closes : (s : Subject) (i : ℕ) (es es' : List FullElement) → Closes s i es es' → HaveOwnKeys es → HaveOwnKeys es'
own_keys_closes s i es es' closes own x y has has' alike =
    let (a, there, is) = (closes x).0 has in
    let (b, there', is') = (closes y).0 has' in
    let keys : a.key ≡ b.key =
    sym (key_stays s i a (closed_for s i a) (closing s i a)).0 ∙ ap (λ (z : FullElement). z.key) is ∙ alike
    ∙ ap (λ (z : FullElement). z.key) (sym is') ∙ (key_stays s i b (closed_for s i b) (closing s i b)).0 in
    sym is ∙ ap (closed_for s i) (own a b there there' keys) ∙ is'

pub own_keys_takes_out : (e : FullElement) (es es' : List FullElement) → TakesOut e es es' → HaveOwnKeys es → HaveOwnKeys es'
own_keys_takes_out e es es' takes own x y has has' = own x y ((takes x).0 has).0 ((takes y).0 has').0
