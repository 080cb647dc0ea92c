-- What elements that follow one another are about, and which lists follow because others do.
use Rattle.std.proofs.Common.{◌≡◌, ◌≢◌, ◌∙◌, ℕ, ◌≤◌, List, ap, inl, inr, arith}
use Rattle.std.specs.List.{Contains}
use Rattle.hm_types.specs.Elements.{FullElement, Key}
use Rattle.hm_key.specs.Counts.{Subject, inodes_of, others_of, subject_of}
use Rattle.hm_key.specs.Element.{pfs_of}
use Rattle.hm_key.specs.declared.rec_type.TheConstants.{PFS_RECORD}
use Rattle.hm_records.specs.Follows.{Follows, IsOf, Meet, of_bytes, of_entry, of_inode, of_target}
use Rattle.hm_records.proofs.MeetLemmas.{follows_later as made_later, meet_back, meet_of}

-- a localization names its PFS
pub inodes_named : (pfs : ℕ) → pfs_of (inodes_of pfs) ≡ pfs
inodes_named pfs = omega arith

pub others_named : (pfs : ℕ) → pfs_of (others_of pfs) ≡ pfs
others_named pfs = omega arith

-- what is about an object of a PFS or an entry in it is of the PFS
pub of_place : (pfs : ℕ) (s : Subject) → IsOf pfs s → pfs_of s.localization ≡ pfs
of_place pfs s (of_inode obj is) = ap (λ (about : Subject). pfs_of about.localization) is ∙ inodes_named pfs
of_place pfs s (of_bytes obj end is) = ap (λ (about : Subject). pfs_of about.localization) is ∙ others_named pfs
of_place pfs s (of_target obj is) = ap (λ (about : Subject). pfs_of about.localization) is ∙ others_named pfs
of_place pfs s (of_entry directory key is) = ap (λ (about : Subject). pfs_of about.localization) is ∙ others_named pfs

-- and is no record
pub of_no_record : (pfs : ℕ) (s : Subject) → IsOf pfs s → s.rec_type ≢ PFS_RECORD
of_no_record pfs s (of_inode obj is) type = absurd (omega (arith, type, ap (λ (about : Subject). about.rec_type) is))
of_no_record pfs s (of_bytes obj end is) type = absurd (omega (arith, type, ap (λ (about : Subject). about.rec_type) is))
of_no_record pfs s (of_target obj is) type = absurd (omega (arith, type, ap (λ (about : Subject). about.rec_type) is))
of_no_record pfs s (of_entry directory key is) type = absurd (omega (arith, type, ap (λ (about : Subject). about.rec_type) is))

-- elements of a PFS that were there before
pub follows_where : (pfs t : ℕ) (es es' : List FullElement) → ((x : FullElement) → Contains es' x → IsOf pfs (subject_of x.key) → Contains es x)
    → Follows pfs t es → Follows pfs t es'
follows_where pfs t es es' there follow = record {
  closed = λ old new has has' meet. follow.closed old new (first old new has meet) (second old new has' meet) meet;
  one = λ a b has has' meet. follow.one a b (first a b has meet) (second a b has' meet) meet;
} where
  first : (a b : FullElement) → Contains es' a → Meet pfs a b → Contains es a
  first a b has meet = there a has (meet_of pfs a b meet)

  second : (a b : FullElement) → Contains es' b → Meet pfs a b → Contains es b
  second a b has meet = there b has (meet_of pfs b a (meet_back pfs a b meet))

-- elements of which one alone may have versions
pub follows_one : (pfs t : ℕ) (es : List FullElement)
    → ((x y : FullElement) → Contains es x → Contains es y → IsOf pfs (subject_of x.key) → IsOf pfs (subject_of y.key) → x.key ≡ y.key) → Follows pfs t es
follows_one pfs t es one = record {
  closed = λ old new has has' meet older made. absurd (omega (arith, older, ap (λ (k : Key). k.create) (same old new has has' meet)));
  one = λ a b has has' meet created made. same a b has has' meet;
} where
  same : (a b : FullElement) → Contains es a → Contains es b → Meet pfs a b → a.key ≡ b.key
  same a b has has' meet = one a b has has' (meet_of pfs a b meet) (meet_of pfs b a (meet_back pfs a b meet))

-- ids by which nothing more was made
pub follows_later : (pfs t u : ℕ) (es : List FullElement)
    → ((x : FullElement) → Contains es x → pfs_of x.key.localization ≡ pfs → x.key.create ≤ t) → Follows pfs t es → Follows pfs u es
follows_later pfs t u es made = made_later pfs t u es (λ x has place. made x has (elim place [
  | inl is ↦ ap pfs_of is ∙ inodes_named pfs
  | inr is ↦ ap pfs_of is ∙ others_named pfs
]))
