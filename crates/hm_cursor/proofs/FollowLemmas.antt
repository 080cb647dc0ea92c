-- A version that is renewed is closed as the next one is made, so that what followed before follows still.
use Rattle.std.proofs.Common.{◌≡◌, ◌≢◌, ◌∙◌, ℕ, List, Option, None, Some, ap, refl, sym, subst, inl, inr, arith}
use Rattle.std.specs.Prelude.{IfSome, IsSomeAnd, OnOk, Result, Ok, Err}
use Rattle.std.specs.List.{Contains}
use Rattle.std.proofs.lemmas.Bool.{cases_lt}
use Rattle.hm_types.specs.Elements.{FullElement, Key}
use Rattle.hm_key.specs.Balance.{full_of}
use Rattle.hm_key.specs.declared.rec_type.TheConstants.{FILE_BYTES}
use Rattle.hm_key.specs.Counts.{Counts, Subject, subject_of}
use Rattle.hm_key.specs.Elements.{element_at, element_key}
use Rattle.hm_key.specs.Extents.{Extent}
use Rattle.hm_key.specs.Key.{key_of}
use Rattle.hm_key.specs.Versions.{Adds}
use Rattle.hm_key.specs.declared.base.Base.{Base}
use Rattle.hm_key.specs.declared.element.Element.{Element}
use Rattle.hm_records.specs.Changes.{CountsNothing}
use Rattle.hm_records.specs.Follows.{StillFollow, EndedBy, IsClosedBy, IsOf, versions}
use Rattle.hm_records.proofs.CountsLemmas.{same_key}
use Rattle.hm_records.proofs.MeetLemmas.{meet_bytes}
use Rattle.hm_records.proofs.MemberLemmas.{has_map, map_has}
use Rattle.hm_cursor.specs.Told.{Lists, fulls}
use Rattle.hm_cursor.specs.Write.{FollowWith, IsClosedIn, IsFresh, IsFreshFor, OthersEnded, Rewrites, Writes, full_with}
use Rattle.hm_cursor.proofs.FullLemmas.{element_at-has}
use Rattle.hm_cursor.proofs.RewriteLemmas.{Shuts, closed_stays, follows_added, like}
use Rattle.hm_cursor.proofs.WriteLemmas.{Became, IsOpenAt}

-- the version at a key was open, and is closed at the id that made the new one
pub follows_renewed : (e old : FullElement) (es mid es' : List FullElement) → Shuts (subject_of e.key) e.key.create es mid → Adds e mid es'
    → IsFreshFor (subject_of e.key) e.key.create es → Contains es old → subject_of old.key ≡ subject_of e.key → old.delete ≡ 0
    → ((y : FullElement) → Contains es' y → y.key ≡ old.key → y.delete ≡ e.key.create) → FollowWith (subject_of e.key) e.bytes e.key.create es es'
follows_renewed e old es mid es' shuts adds fresh has about open' closed pfs t others follow =
    follows_added e es mid es' shuts adds pfs t others follow (λ within x y there here step about' of.
    let alike = like (subject_of e.key) e.key.create x y step in
    let same : subject_of x.key ≡ subject_of e.key = ap subject_of (sym alike.key) ∙ about' in
    let made = fresh.made x there same in
    let early = fresh.made old has about in
    elim (cases_lt x.key.create old.key.create) [
      | inl older ↦
          let gone : IsClosedBy old.key.create x = follow.closed x old there has (versions of (about ∙ sym same)) older (omega (arith, early, within)) in
          subst (EndedBy e.key.create) (closed_stays (subject_of e.key) e.key.create x y step gone.closed)
          (record { made = made; closed = record { closed = gone.closed; early = fresh.closed x there same } })
      | inr from ↦ elim (cases_lt old.key.create x.key.create) [
        | inl newer ↦
            let meet = versions (subst (IsOf pfs) (same ∙ sym about) of) (same ∙ sym about) in
            absurd ((follow.closed old x has there meet newer (omega (arith, made, within))).closed open')
        | inr to ↦
            let key : y.key ≡ old.key = alike.key ∙ same_key x.key old.key (same ∙ sym about) (omega (arith, from, to)) in
            let now = closed y ((adds y).1 (inr here)) key in
            let create = ap (λ (k : Key). k.create) alike.key in
            record { made = omega (arith, made, create); closed = record { closed = λ zero'. omega (arith, zero', now, made); early = omega (arith, now) } }
      ]
    ])

-- the same of lists that a store tells
module _ (at : Key) (base : Base) (bytes : List ℕ) (about : subject_of at ≡ subject_of (key_of base)) where
  renewed_among : (es : List Element) (xs : List Extent) (mid now : Lists) → IsFreshFor (subject_of (key_of base)) base.create (fulls (es, xs))
      → Shuts (subject_of (key_of base)) base.create (fulls (es, xs)) (fulls mid) → Adds (full_with base bytes) (fulls mid) (fulls now)
      → IsOpenAt at es → ((x : Element) → Contains now.0 x → element_key x ≡ at → x.base.delete ≡ base.create)
      → FollowWith (subject_of (key_of base)) bytes base.create (fulls (es, xs)) (fulls now)
  renewed_among es xs mid now fresh shuts adds open' closed = by_found (element_at at es) refl open' where
    by_found : (o : Option Element) → element_at at es ≡ o → IsSomeAnd o (λ old. old.base.delete ≡ 0)
        → FollowWith (subject_of (key_of base)) bytes base.create (fulls (es, xs)) (fulls now)
    by_found None is unclosed = absurd unclosed
    by_found (Some old) is unclosed =
        let found = element_at-has at old es is in
        follows_renewed (full_with base bytes) (full_of xs old) (fulls (es, xs)) (fulls mid) (fulls now) shuts adds fresh
        (has_map (full_of xs) es old found.0) (ap subject_of found.1 ∙ about) unclosed
        (λ y has key.
        let (x, there, is) = map_has (full_of now.1) now.0 y has in
        ap (λ (f : FullElement). f.delete) (sym is) ∙ closed x there (ap (λ (f : FullElement). f.key) is ∙ key ∙ found.1))

  renewed_told : (es mid_es new_es : Option (List Element)) (xs mid_xs new_xs : Option (List Extent)) → IsFresh es xs (subject_of (key_of base)) base.create
      → IfSome es (IsOpenAt at) → Became (Shuts (subject_of (key_of base)) base.create) es xs mid_es mid_xs
      → Became (Adds (full_with base bytes)) mid_es mid_xs new_es new_xs → IsClosedIn new_es at base.create
      → Became (FollowWith (subject_of (key_of base)) bytes base.create) es xs new_es new_xs
  renewed_told None mid_es new_es xs mid_xs new_xs fresh open' first second closed = tt
  renewed_told (Some es) mid_es new_es None mid_xs new_xs fresh open' first second closed = tt
  renewed_told (Some es) None new_es (Some xs) mid_xs new_xs fresh open' first second closed = λ balanced. absurd (first balanced)
  renewed_told (Some es) (Some mid) new_es (Some xs) None new_xs fresh open' first second closed = λ balanced. absurd (first balanced)
  renewed_told (Some es) (Some mid) None (Some xs) (Some mid_xs) new_xs fresh open' first second closed = λ balanced. second (first balanced).0
  renewed_told (Some es) (Some mid) (Some new) (Some xs) (Some mid_xs) None fresh open' first second closed = λ balanced. second (first balanced).0
  renewed_told (Some es) (Some mid) (Some new) (Some xs) (Some mid_xs) (Some new_xs) fresh open' first second closed = λ balanced.
      let shut = first balanced in
      let added = second shut.0 in
      (added.0, renewed_among es xs (mid, mid_xs) (new, new_xs) fresh shut.1 added.1 open' closed)

  pub renewed_follow : {S A E : Type 0} (elements_of : S → Option (List Element)) (extents_of : S → Option (List Extent)) (old mid new : S)
      (result : Result A E) → IsFresh (elements_of old) (extents_of old) (subject_of (key_of base)) base.create → IfSome (elements_of old) (IsOpenAt at)
      → Writes elements_of extents_of (Shuts (subject_of (key_of base)) base.create) old mid
      → OnOk result (Writes elements_of extents_of (Adds (full_with base bytes)) mid new) → OnOk result (IsClosedIn (elements_of new) at base.create)
      → OnOk result (Writes elements_of extents_of (FollowWith (subject_of (key_of base)) bytes base.create) old new)
  renewed_follow elements_of extents_of old mid new (Err error) fresh open' first second closed = tt
  renewed_follow elements_of extents_of old mid new (Ok value) fresh open' first second closed =
      renewed_told (elements_of old) (elements_of mid) (elements_of new) (extents_of old) (extents_of mid) (extents_of new) fresh open' first second closed

-- ---- what the calls above this crate use

none_new : (bytes : List ℕ) → None ≡ Some bytes → ⊥
none_new bytes is = cc

-- elements that are no bytes of a file meet versions of their subject alone
pub no_others : (pfs i : ℕ) (s : Subject) (now : Option (List ℕ)) (es : List FullElement) → s.rec_type ≢ FILE_BYTES → OthersEnded pfs s now i es
no_others pfs i s now es other e x about is has differ meet =
    absurd (other (ap (λ (z : Subject). z.rec_type) (sym about) ∙ meet_bytes pfs e x meet (λ same. differ (same ∙ about))))

pub closing_follows : (s : Subject) (i : ℕ) (es es' : List FullElement) → Rewrites s None i es es' → StillFollow es es'
closing_follows s i es es' rewrites pfs t = rewrites.follows pfs t (inl refl) (λ within e x about is. absurd (none_new e.bytes is))

pub adding_follows : (s : Subject) (now : Option (List ℕ)) (i : ℕ) (es es' : List FullElement) → s.rec_type ≢ FILE_BYTES → CountsNothing (Counts es i) s
    → Rewrites s now i es es' → StillFollow es es'
adding_follows s now i es es' other none rewrites pfs t = rewrites.follows pfs t (inr none) (λ within. no_others pfs i s now es other)

pub renewing_follows : (s : Subject) (bytes : List ℕ) (i : ℕ) (es es' : List FullElement) → s.rec_type ≢ FILE_BYTES → FollowWith s bytes i es es'
    → StillFollow es es'
renewing_follows s bytes i es es' other follows pfs t = follows pfs t (λ within. no_others pfs i s (Some bytes) es other)

pub follow_twice : (es mid es' : List FullElement) → StillFollow es mid → StillFollow mid es' → StillFollow es es'
follow_twice es mid es' first second pfs t follow = second pfs t (first pfs t follow)
