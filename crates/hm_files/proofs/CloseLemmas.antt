-- The bytes of a file, as they are closed one after another.
use Rattle.std.proofs.Common.{◌≡◌, ◌≢◌, ℕ, ◌+◌, ◌<◌, ◌≤◌, List, None, Some, refl, ap, sym, subst, ◌∙◌, inl, inr, arith}
use Rattle.std.specs.Prelude.{◌↔◌, ◌⊎◌}
use Rattle.std.proofs.lemmas.Bool.{cases_lt}
use Rattle.hm_types.specs.Elements.{FullElement, Key}
use Rattle.hm_types.specs.declared.object.Object.{Object}
use Rattle.hm_key.specs.Balance.{IsBalanced}
use Rattle.hm_key.specs.Counts.{Content, Counts, Subject, bytes_subject, entry_subject, inode_subject, subject_of, target_subject}
use Rattle.hm_key.specs.Elements.{element_key}
use Rattle.hm_key.specs.declared.element.Element.{Element}
use Rattle.hm_records.specs.Changes.{AgreeButObject, CountsNothing, IsSettled}
use Rattle.hm_records.specs.Inode.{inode_bytes}
use Rattle.hm_records.specs.View.{IsObject}
use Rattle.hm_records.proofs.ObjectChangeLemmas.{object_same_view}
use Rattle.hm_records.proofs.SubjectLemmas.{same_subject}
use Rattle.hm_cursor.specs.Told.{Lists, fulls}
use Rattle.hm_cursor.specs.Version.{IsCountedIn, IsLast, numbered}
use Rattle.hm_cursor.specs.Write.{IsFreshFor, KeepPlaces, Rewrites}
use Rattle.hm_cursor.proofs.FollowLemmas.{closing_follows, follow_twice}
use Rattle.hm_cursor.proofs.ToldLemmas.{newest_counted}
use Rattle.hm_cursor.proofs.ViewsLemmas.{IsWithin, fresh_later, nothing_written, writes_again, writes_within}
use Rattle.hm_files.specs.Close.{AreOlder, ClosesBytes, IsApart, RemovesBytes}
use Rattle.hm_cursor.specs.Views.{IsNothing}
use Rattle.hm_files.proofs.PieceLemmas.{counted_in, span_about}

-- bytes are of their pseudo file system, and no record
pub bytes_within : (pfs obj n : ℕ) → IsWithin pfs (bytes_subject pfs obj n)
bytes_within pfs obj n = record { place = inr refl; no_record = λ is. absurd (omega (arith, is)) }

-- bytes that end elsewhere are another subject
pub ends_apart : (pfs obj n m : ℕ) → n ≢ m → bytes_subject pfs obj n ≢ bytes_subject pfs obj m
ends_apart pfs obj n m differ is = differ (ap (λ (s : Subject). s.key) is)

pub none_some : (bytes : List ℕ) → None ≡ Some bytes → ⊥
none_some bytes is = cc

-- of a file's bytes those that end from `first` on and before `end` are closed at `i`, and all else is as it was
pub record HaveClosed (pfs obj i first end : ℕ) (was now : Lists) : Type 0 where
  pub balanced : IsBalanced now.0 now.1
  pub placed : KeepPlaces was now
  pub closes : ClosesBytes pfs obj i first end (fulls was) (fulls now)

pub none_closed : (pfs obj i first : ℕ) (was : Lists) → IsBalanced was.0 was.1 → HaveClosed pfs obj i first first was was
none_closed pfs obj i first was balanced = record {
  balanced = balanced;
  placed = record { extents = refl; elements = λ x has. (x, has, refl, refl, refl) };
  closes = record {
    writes = nothing_written pfs i IsNothing (fulls was);
    gone = λ t n late from below. absurd (omega (arith, from, below));
    beside = λ t s bytes apart. (λ h. h, λ h. h);
    follows = λ other t follow. follow;
  };
}

placed_both : (was mid now : Lists) → KeepPlaces was mid → KeepPlaces mid now → KeepPlaces was now
placed_both was mid now first second = record {
  extents = second.extents ∙ first.extents;
  elements = λ x has.
      let m = second.elements x has in
      let e = first.elements m.0 m.1 in
      (e.0, e.1, m.2 ∙ e.2, m.3 ∙ e.3, m.4 ∙ e.4);
}

-- a key with another number is about bytes that end there
pub numbered_about : (at : Key) (pfs obj key first : ℕ) → subject_of at ≡ bytes_subject pfs obj key
    → subject_of (numbered at first) ≡ bytes_subject pfs obj first
numbered_about at pfs obj key first here = ap (λ (s : Subject). record s { key = first }) here

-- The bytes that end up to `last` are closed from the greatest offset down: so far those that end above `key`.
module _ (at : Key) (pfs obj first key last i : ℕ) (here : subject_of at ≡ bytes_subject pfs obj first) (was mid : Lists)
    (older : AreOlder pfs obj i first (fulls was)) (gone : HaveClosed pfs obj i (key + 1) (last + 1) was mid) where
  -- what is not closed yet is older still
  still_older : (n : ℕ) → first ≤ n → IsFreshFor (bytes_subject pfs obj n) i (fulls mid)
  still_older n from = gone.closes.writes.fresh (bytes_subject pfs obj n) (λ x new. absurd new) (older n from)

  -- where nothing that counts in the span ends at an offset, nothing that ends there counts later
  nothing_at : (t n : ℕ) → i ≤ t → first ≤ n → n ≤ key → ((y : Element) → IsCountedIn mid.0 at key i y → y.base.key ≡ n → ⊥)
      → CountsNothing (Counts (fulls mid) t) (bytes_subject pfs obj n)
  nothing_at t n late from to none bytes counts =
      let now = (fresh_later (bytes_subject pfs obj n) i t (fulls mid) bytes (still_older n from) late).0 counts in
      let (y, newest, same) = newest_counted mid.0 mid.1 (bytes_subject pfs obj n) i bytes now in
      none y (counted_in mid.0 at key i pfs obj first n y here newest from to) (ap (λ (s : Subject). s.key) newest.version.about)

  module _ (e : Element) (found : IsLast mid.0 at key i (Some e)) where
    low : first ≤ e.base.key
    low = omega (arith, found.place.from, ap (λ (s : Subject). s.key) here)

    about : subject_of (element_key e) ≡ bytes_subject pfs obj e.base.key
    about = span_about at key pfs obj first e here found.place

    -- what was found may be closed
    pub closed_fresh : IsFreshFor (subject_of (element_key e)) i (fulls mid)
    closed_fresh = subst (λ (s : Subject). IsFreshFor s i (fulls mid)) (sym about) (still_older e.base.key low)

    -- one more is closed
    pub closed_more : (now : Lists) → key ≤ last → IsBalanced now.0 now.1 → KeepPlaces mid now
        → Rewrites (subject_of (element_key e)) None i (fulls mid) (fulls now) → HaveClosed pfs obj i e.base.key (last + 1) was now
    closed_more now within balanced placed rewrites = record {
      balanced = balanced;
      placed = placed_both was mid now gone.placed placed;
      closes = record {
        writes = writes_again pfs i IsNothing (fulls was) (fulls mid) (fulls now) (λ x y same kind bytes new. new) gone.closes.writes
            (writes_within pfs i (bytes_subject pfs obj e.base.key) None IsNothing (fulls mid) (fulls now) (bytes_within pfs obj e.base.key)
            (λ x about made now. none_some x.bytes now) wrote);
        gone = λ t n late from below. by_place t n late from (cases_lt key n) (cases_lt e.base.key n) below;
        beside = λ t s bytes apart. both t s bytes apart (cases_lt t i);
        follows = follow_twice (fulls was) (fulls mid) (fulls now) gone.closes.follows
            (closing_follows (bytes_subject pfs obj e.base.key) i (fulls mid) (fulls now) wrote);
      };
    } where
      down : e.base.key ≤ key
      down = found.place.to

      wrote : Rewrites (bytes_subject pfs obj e.base.key) None i (fulls mid) (fulls now)
      wrote = subst (λ (s : Subject). Rewrites s None i (fulls mid) (fulls now)) about rewrites

      stays : (t n : ℕ) → i ≤ t → n ≢ e.base.key → CountsNothing (Counts (fulls mid) t) (bytes_subject pfs obj n)
          → CountsNothing (Counts (fulls now) t) (bytes_subject pfs obj n)
      stays t n late differ nothing bytes counts =
          nothing bytes (((wrote.present t late).elsewhere (bytes_subject pfs obj n) bytes (ends_apart pfs obj n e.base.key differ)).0 counts)

      by_place : (t n : ℕ) → i ≤ t → e.base.key ≤ n → (key < n) ⊎ (n ≤ key) → (e.base.key < n) ⊎ (n ≤ e.base.key) → n < last + 1
          → CountsNothing (Counts (fulls now) t) (bytes_subject pfs obj n)
      by_place t n late from (inl after) more below =
          stays t n late (λ is. absurd (omega (arith, after, down, is))) (gone.closes.gone t n late (omega (arith, after)) below)
      by_place t n late from (inr to) (inl more) below =
          stays t n late (λ is. absurd (omega (arith, more, is)))
          (nothing_at t n late (omega (arith, low, from)) to (λ y is ends. absurd (let most = found.most y is in omega (arith, most, ends, more))))
      by_place t n late from (inr to) (inr there) below =
          let same : n ≡ e.base.key = omega (arith, there, from) in
          λ bytes counts. none_some bytes (((wrote.present t late).about bytes).0
          (subst (λ (m : ℕ). Counts (fulls now) t (bytes_subject pfs obj m) bytes) same counts))

      both : (t : ℕ) (s : Subject) (bytes : List ℕ) → IsApart pfs obj e.base.key (last + 1) s → (t < i) ⊎ (i ≤ t)
          → Counts (fulls now) t s bytes ↔ Counts (fulls was) t s bytes
      both t s bytes apart time =
          let one = gone.closes.beside t s bytes (λ n from below. apart n (omega (arith, from, down)) below) in
          let other = step time in
          (λ h. one.0 (other.0 h), λ h. other.1 (one.1 h))
        where
          step : (t < i) ⊎ (i ≤ t) → Counts (fulls now) t s bytes ↔ Counts (fulls mid) t s bytes
          step (inl before) = wrote.past t before s bytes
          step (inr late) = (wrote.present t late).elsewhere s bytes (apart e.base.key (omega arith) (omega (arith, down, within)))

  -- none is left
  pub closed_all : IsLast mid.0 at key i None → first ≤ key → key ≤ last → HaveClosed pfs obj i first (last + 1) was mid
  closed_all none more within = record {
    balanced = gone.balanced;
    placed = gone.placed;
    closes = record {
      writes = gone.closes.writes;
      gone = λ t n late from below. by_place t n late from (cases_lt key n) below;
      beside = λ t s bytes apart. gone.closes.beside t s bytes (λ n from below. apart n (omega (arith, from, more)) below);
      follows = gone.closes.follows;
    };
  } where
    by_place : (t n : ℕ) → i ≤ t → first ≤ n → (key < n) ⊎ (n ≤ key) → n < last + 1 → CountsNothing (Counts (fulls mid) t) (bytes_subject pfs obj n)
    by_place t n late from (inl after) below = gone.closes.gone t n late (omega (arith, after)) below
    by_place t n late from (inr to) below = nothing_at t n late from to (λ y is ends. absurd (none y is))

-- ---- an object without an inode

module _ (pfs obj i end : ℕ) (es es' : List FullElement) (closes : ClosesBytes pfs obj i 0 end es es') where
  -- what is about no bytes of the object counts as before
  apart_of : (s : Subject) → s ≢ bytes_subject pfs obj s.key → IsApart pfs obj 0 end s
  apart_of s differ n from below is = differ (is ∙ ap (bytes_subject pfs obj) (sym (ap (λ (z : Subject). z.key) is)))

  same_apart : (t : ℕ) (s : Subject) (bytes : List ℕ) → s ≢ bytes_subject pfs obj s.key → Counts es' t s bytes ↔ Counts es t s bytes
  same_apart t s bytes differ = closes.beside t s bytes (apart_of s differ)

  settled_still : (t : ℕ) → i ≤ t → IsSettled (Counts es t) → IsSettled (Counts es' t)
  settled_still t late settled s a b first second = elim (same_subject s (bytes_subject pfs obj s.key)) [
    | inr differ ↦ settled s a b ((same_apart t s a differ).0 first) ((same_apart t s b differ).0 second)
    | inl same ↦ elim (cases_lt s.key end) [
      | inl below ↦ absurd (closes.gone t s.key late (omega arith) below a (subst (λ (z : Subject). Counts es' t z a) same first))
      | inr past ↦
          let far : IsApart pfs obj 0 end s = λ n from below is. absurd (omega (arith, past, below, ap (λ (z : Subject). z.key) is)) in
          settled s a b ((closes.beside t s a far).0 first) ((closes.beside t s b far).0 second)
    ]
  ]

  agree_still : (t : ℕ) → AgreeButObject pfs obj (Counts es t) (Counts es' t)
  agree_still t = record {
    objects = λ other differ. record {
      inode = λ bytes. same_apart t (inode_subject pfs other) bytes (λ is. absurd (omega (arith, ap (λ (z : Subject). z.rec_type) is)));
      bytes = λ n bytes. same_apart t (bytes_subject pfs other n) bytes (λ is. differ (ap (λ (z : Subject). z.obj) is));
      target = λ bytes. same_apart t (target_subject pfs other) bytes (λ is. absurd (omega (arith, ap (λ (z : Subject). z.rec_type) is)));
    };
    entries = λ directory name key object. (
      λ has. record { ranges = has.ranges; there = (entry_same directory.0 key _).0 has.there },
      λ has. record { ranges = has.ranges; there = (entry_same directory.0 key _).1 has.there },
    );
  } where
    entry_same : (directory key : ℕ) (bytes : List ℕ)
        → Counts es' t (entry_subject pfs directory key) bytes ↔ Counts es t (entry_subject pfs directory key) bytes
    entry_same directory key bytes =
        same_apart t (entry_subject pfs directory key) bytes (λ is. absurd (omega (arith, ap (λ (z : Subject). z.rec_type) is)))

  inode_same : (t : ℕ) (bytes : List ℕ) → Counts es' t (inode_subject pfs obj) bytes ↔ Counts es t (inode_subject pfs obj) bytes
  inode_same t bytes = same_apart t (inode_subject pfs obj) bytes (λ is. absurd (omega (arith, ap (λ (z : Subject). z.rec_type) is)))

  no_object : (C : Content) → CountsNothing C (inode_subject pfs obj) → (o : Object) → o.number.0 ≡ obj → IsObject C pfs o → ⊥
  no_object C none o same is = none (inode_bytes is.inode) (subst (λ (n : ℕ). C (inode_subject pfs n) (inode_bytes is.inode)) same is.there)

  pub bytes_removed : RemovesBytes pfs obj i end es es'
  bytes_removed = record {
    closes = closes;
    shows = λ missing t tree late has.
        object_same_view pfs obj tree (Counts es t) (Counts es' t) has
        (record { agree = agree_still t; settled = settled_still t late has.settled })
        (λ o same. (
          λ is. absurd (no_object (Counts es t) (missing t late) o same is),
          λ is. absurd (no_object (Counts es' t) (λ bytes counts. missing t late bytes ((inode_same t bytes).0 counts)) o same is),
        ));
  }
