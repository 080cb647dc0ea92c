-- For each subject one payload counts at most, and a pseudo file system has one record at most.
use Rattle.std.proofs.Common.{◌≡◌, ◌≢◌, ℕ, ◌+◌, ◌≤◌, List, [], ◌∷◌, sym, ap, ◌∙◌, inl, inr, true≢false, arith}
use Rattle.std.specs.Prelude.{◌↔◌, ◌⊎◌}
use Rattle.std.specs.List.{Contains, AllByRecursion}
use Rattle.std.specs.List.Sorted.{IsStrictlySortedBy}
use Rattle.std.specs.Ordering.{is_lt}
use Rattle.std.specs.declared.cmp.Ordering.TheVariants.{Less, Equal}
use Rattle.std.proofs.lemmas.List.Elements.{All-contains, All-from_recursion}
use Rattle.hm_types.specs.Elements.{FullElement, Key, key_cmp}
use Rattle.hm_key.proofs.KeyLemmas.{key_itself}
use Rattle.hm_key.specs.Counts.{Counts, IsRecordOf, IsSeen, record_subject, subject_of}
use Rattle.hm_key.specs.Versions.{AreSorted, HaveOwnKeys, IsBelow}
use Rattle.hm_records.specs.Changes.{IsSettled}
use Rattle.hm_records.proofs.MemberLemmas.{has_cases, has_none}

-- an element stands before all that follow it, so at another key
after_first : (x y : FullElement) (xs : List FullElement) → AllByRecursion (λ (y : FullElement). key_cmp x.key y.key ≡ Less) xs
    → Contains xs y → x.key ≡ y.key → ⊥
after_first x y xs all has same =
    let less : key_cmp x.key y.key ≡ Less =
    All-contains (λ (y : FullElement). key_cmp x.key y.key ≡ Less) xs y (All-from_recursion (λ (y : FullElement). key_cmp x.key y.key ≡ Less) xs all) has in
    let equal : key_cmp x.key y.key ≡ Equal = ap (λ (k : Key). key_cmp x.key k) (sym same) ∙ key_itself x.key in
    true≢false (ap is_lt (sym less ∙ equal))

pub own_keys-sorted : (es : List FullElement) → AreSorted es → HaveOwnKeys es
unfolding IsStrictlySortedBy
own_keys-sorted [] sorted x y has has' same = absurd (has_none x has)
own_keys-sorted (e ∷ es) sorted x y has has' same =
    by_place (has_cases e x es has) (has_cases e y es has') (own_keys-sorted es sorted.1 x y) where
      by_place : ((x ≡ e) ⊎ Contains es x) → ((y ≡ e) ⊎ Contains es y) → (Contains es x → Contains es y → x.key ≡ y.key → x ≡ y) → x ≡ y
      by_place (inl first) (inl first') rest = first ∙ sym first'
      by_place (inl first) (inr later') rest = absurd (after_first e y es sorted.0 later' (ap (λ (z : FullElement). z.key) (sym first) ∙ same))
      by_place (inr later) (inl first') rest = absurd (after_first e x es sorted.0 later (ap (λ (z : FullElement). z.key) (sym first') ∙ sym same))
      by_place (inr later) (inr later') rest = rest later later' same

-- versions of one subject that one id made have one key
pub same_key : (a b : Key) → subject_of a ≡ subject_of b → a.create ≡ b.create → a ≡ b
same_key a b subject create = λ i. record {
  localization = (subject i).localization;
  obj = (subject i).obj;
  rec_type = (subject i).rec_type;
  key = (subject i).key;
  create = create i;
}

pub settled : (es : List FullElement) (t : ℕ) → HaveOwnKeys es → IsSettled (Counts es t)
settled es t own s a b counts counts' =
    let one : counts.element.key.create ≡ counts'.element.key.create = omega (
      arith,
      counts.newest counts'.element counts'.there counts'.about counts'.seen.0,
      counts'.newest counts.element counts.there counts.about counts.seen.0,
    ) in
    let key : counts.element.key ≡ counts'.element.key =
    same_key counts.element.key counts'.element.key (counts.about ∙ sym counts'.about) one in
    sym counts.holds ∙ ap (λ (z : FullElement). z.bytes) (own counts.element counts'.element counts.there counts'.there key) ∙ counts'.holds

pub record_one : (es : List FullElement) (pfs : ℕ) (a b : List ℕ) → HaveOwnKeys es → IsRecordOf es pfs a → IsRecordOf es pfs b → a ≡ b
record_one es pfs a b own is is' =
    let one : is.element.key.create ≡ is'.element.key.create = omega (
      arith,
      is.newest is'.element is'.there is'.about,
      is'.newest is.element is.there is.about,
    ) in
    let key : is.element.key ≡ is'.element.key = same_key is.element.key is'.element.key (is.about ∙ sym is'.about) one in
    sym is.holds ∙ ap (λ (z : FullElement). z.bytes) (own is.element is'.element is.there is'.there key) ∙ is'.holds

-- as of an id that no id of the list is above, an element is seen exactly while it is open
pub seen-open : (es : List FullElement) (i t : ℕ) (x : FullElement) → IsBelow i es → i ≤ t + 1 → Contains es x → IsSeen t x → x.delete ≡ 0
seen-open es i t x below late has seen = elim seen.1 [
  | inl open' ↦ open'
  | inr closed ↦ absurd (omega (arith, below.closed x has, closed))
]

pub open-seen : (es : List FullElement) (i t : ℕ) (x : FullElement) → IsBelow i es → i ≤ t + 1 → Contains es x → x.delete ≡ 0 → IsSeen t x
open-seen es i t x below late has open' = (omega (arith, below.made x has), inl open')

-- so the record is what counts as of such an id
pub record_counts : (es : List FullElement) (pfs i t : ℕ) (bytes : List ℕ) → IsBelow i es → i ≤ t + 1
    → IsRecordOf es pfs bytes ↔ Counts es t (record_subject pfs) bytes
record_counts es pfs i t bytes below late = (
  λ is. record {
    element = is.element;
    there = is.there;
    about = is.about;
    holds = is.holds;
    seen = open-seen es i t is.element below late is.there is.unclosed;
    newest = λ other has about made. is.newest other has about;
  },
  λ counts. record {
    element = counts.element;
    there = counts.there;
    about = counts.about;
    holds = counts.holds;
    unclosed = seen-open es i t counts.element below late counts.there counts.seen;
    newest = λ other has about. counts.newest other has about (omega (arith, below.made other has, late));
  },
)

pub closed_none : (es : List FullElement) (pfs : ℕ) (bytes : List ℕ)
    → ((x : FullElement) → Contains es x → subject_of x.key ≡ record_subject pfs → x.delete ≢ 0) → IsRecordOf es pfs bytes → ⊥
closed_none es pfs bytes closed is = closed is.element is.there is.about is.unclosed
