-- What is left where the record of a pseudo file system gets other bytes.
use Rattle.std.proofs.Common.{◌≡◌, ◌≢◌, ℕ, ◌^◌, ◌<◌, ◌≤◌, List, length, Option, Some, None, refl, sym, ap, subst, ◌∙◌, inl, inr, arith}
use Rattle.std.specs.Prelude.{◌↔◌, ◌⊎◌, IfSome}
use Rattle.std.specs.List.{Contains}
use Rattle.hm_types.specs.Elements.{FullElement}
use Rattle.hm_types.specs.Tree.{FileTree}
use Rattle.hm_types.specs.declared.zone.TheConstants.{META_ZONE}
use Rattle.hm_key.specs.Balance.{content_of, full_elements, full_of}
use Rattle.hm_key.specs.Counts.{Counts, Subject, record_subject, subject_of}
use Rattle.hm_key.specs.Elements.{IsContent, element_at, element_key}
use Rattle.hm_key.specs.Extents.{Extent}
use Rattle.hm_key.specs.declared.element.Element.{Element}
use Rattle.hm_key.specs.Versions.{Adds, HaveOwnKeys, IsBelow}
use Rattle.hm_records.specs.Changes.{CountsNothing, IsBeside}
use Rattle.hm_records.specs.Laws.{HasView}
use Rattle.hm_records.specs.PfsRecord.{pfs_bytes}
use Rattle.hm_types.specs.Intervals.{open_end}
use Rattle.hm_records.specs.declared.pfs_record.PfsRecord.{PfsRecord}
use Rattle.hm_records.proofs.ChangeLemmas.{Shows, itself, own_keys_adds, shown}
use Rattle.hm_records.proofs.CountsLemmas.{own_keys-sorted, same_key, settled}
use Rattle.hm_records.proofs.MemberLemmas.{has_map, map_has}
use Rattle.hm_records.proofs.PfsLemmas.{length-pfs}
use Rattle.hm_records.proofs.SubjectLemmas.{beside_name, beside_object, beside_type}
use Rattle.hm_records.proofs.ViewLemmas.{view_kept}
use Rattle.hm_cursor.specs.Told.{Lists, fulls}
use Rattle.hm_cursor.specs.Version.{IsFoundAbout, IsNewestOf, IsVersion}
use Rattle.hm_cursor.specs.Write.{IsNew, full_with, most_payload}
use Rattle.hm_cursor.proofs.CallLemmas.{Then}
use Rattle.hm_cursor.proofs.FullLemmas.{has-element_at}
use Rattle.hm_cursor.proofs.PayloadLemmas.{full_sorted}
use Rattle.hm_cursor.proofs.ToldLemmas.{counts_none}
use Rattle.hm_pfs.proofs.MadeLemmas.{record_fits}
use Rattle.hm_pfs.specs.Records.{Becomes, IsRecordElement, LosesKey, SetsRecord, rewritten, stays}

-- a record is about no object and no entry of any pseudo file system
pub record_beside : (pfs other : ℕ) → IsBeside other (record_subject pfs)
record_beside pfs other =
    beside_type other (record_subject pfs) (λ is. absurd (omega (arith, is))) (λ is. absurd (omega (arith, is)))
    (λ is. absurd (omega (arith, is))) (λ is. absurd (omega (arith, is)))

-- the element of what counts is the record
pub counted_element : (es : List FullElement) (pfs : ℕ) (bytes : List ℕ) (c : Counts es open_end (record_subject pfs) bytes)
    → IsRecordElement es pfs c.element
counted_element es pfs bytes c = record { there = c.there; about = c.about; seen = c.seen; newest = c.newest }

pub element_counts : (es : List FullElement) (pfs : ℕ) (e : FullElement) → IsRecordElement es pfs e
    → Counts es open_end (record_subject pfs) e.bytes
element_counts es pfs e is = record {
  element = e;
  there = is.there;
  about = is.about;
  holds = refl;
  seen = is.seen;
  newest = is.newest;
}

-- a pseudo file system has one record at most
one_key : (es : List FullElement) (pfs : ℕ) (a b : FullElement) → IsRecordElement es pfs a → IsRecordElement es pfs b → a.key ≡ b.key
one_key es pfs a b is is' =
    same_key a.key b.key (is.about ∙ sym is'.about)
    (omega (arith, is.newest b is'.there is'.about is'.seen.0, is'.newest a is.there is.about is.seen.0))

-- nothing is set where there is none
pub sets_none : (pfs : ℕ) (bytes : List ℕ) (es : List FullElement) → CountsNothing (Counts es open_end) (record_subject pfs)
    → SetsRecord pfs bytes es es
sets_none pfs bytes es nothing = record {
  elements = λ y. (λ has. (y, has, stays (no_record y)), λ came. back y came.0 came.1 came.2);
  record_now = λ was held counts. absurd (nothing was counts);
  none = λ none. none;
  elsewhere = λ t s held not. (λ h. h, λ h. h);
  views = λ t other tree has. has;
  ids = λ i below. below;
} where
  no_record : (x : FullElement) → IsRecordElement es pfs x → ⊥
  no_record x is = nothing x.bytes (element_counts es pfs x is)

  back : (y x : FullElement) → Contains es x → Becomes pfs bytes es x y → Contains es y
  back _ x has (rewritten is) = absurd (no_record x is)
  back _ x has (stays not) = has

module _ (pfs : ℕ) (bytes : List ℕ) (es mid es' : List FullElement) (e : FullElement) (is : IsRecordElement es pfs e) (own : HaveOwnKeys es)
    (gone : LosesKey e.key es mid) (adds : Adds (record e { bytes = bytes }) mid es') where
  -- the element with the new bytes
  now : FullElement
  now = record e { bytes = bytes }

  there : Contains es' (record e { bytes = bytes })
  there = (adds (record e { bytes = bytes })).1 (inl refl)

  -- an element at another key stays
  other_stays : (x : FullElement) → Contains es x → x.key ≢ e.key → Contains es' x
  other_stays x has differ = (adds x).1 (inr ((gone x).1 (has, differ)))

  -- what is there now is the new element, or was there at another key
  came : (y : FullElement) → Contains es' y → (y ≡ record e { bytes = bytes }) ⊎ (Contains es y × (y.key ≢ e.key))
  came y has = elim ((adds y).0 has) [
    | inl new ↦ inl new
    | inr old ↦ inr ((gone y).0 old)
  ]

  elements_to : (y : FullElement) → Contains es' y → (x : FullElement) × Contains es x × Becomes pfs bytes es x y
  elements_to y has = elim (came y has) [
    | inl new ↦ (e, is.there, subst (Becomes pfs bytes es e) (sym new) (rewritten is))
    | inr old ↦ (y, old.0, stays (λ is'. old.1 (one_key es pfs y e is' is)))
  ]

  elements_from : (y x : FullElement) → Contains es x → Becomes pfs bytes es x y → Contains es' y
  elements_from _ x has (rewritten is') =
      let same : x ≡ e = own x e has is.there (one_key es pfs x e is' is) in
      subst (λ (z : FullElement). Contains es' (record z { bytes = bytes })) (sym same) there
  elements_from _ x has (stays not) =
      other_stays x has (λ same. not (subst (IsRecordElement es pfs) (sym (own x e has is.there same)) is))

  -- for other subjects the same counts
  else_same : (t : ℕ) (s : Subject) (held : List ℕ) → s ≢ record_subject pfs → Counts es' t s held ↔ Counts es t s held
  else_same t s held not = (shown s es' es t t held back on, shown s es es' t t held on back) where
    on : Shows s es t es' t
    on x has about made = (x, itself t es' x (other_stays x has (λ same. not (sym about ∙ ap subject_of same ∙ is.about))) made)

    back : Shows s es' t es t
    back y has about made = elim (came y has) [
      | inl new ↦ absurd (not (sym about ∙ ap (λ (z : FullElement). subject_of z.key) new ∙ is.about))
      | inr old ↦ (y, itself t es y old.0 made)
    ]

  own_mid : HaveOwnKeys mid
  own_mid x y has has' = own x y ((gone x).0 has).0 ((gone y).0 has').0

  own_now : HaveOwnKeys es'
  own_now = own_keys_adds (record e { bytes = bytes }) mid es' adds (λ x has. ((gone x).0 has).1) own_mid

  views_stay : (t other : ℕ) (tree : FileTree) → HasView (Counts es t) other tree → HasView (Counts es' t) other tree
  views_stay t other tree has = record {
    settled = settled es' t own_now;
    view = view_kept other tree (Counts es t) (Counts es' t)
        (λ obj. beside_object other obj (record_subject pfs) (Counts es t) (Counts es' t) (record_beside pfs other) (else_same t))
        (λ directory name. beside_name other directory name (record_subject pfs) (Counts es t) (Counts es' t) (record_beside pfs other) (else_same t))
        has.view;
  }

  -- the new bytes count, and no others
  only : (held : List ℕ) → Counts es' open_end (record_subject pfs) held → held ≡ bytes
  only held c = elim (came c.element c.there) [
    | inl new ↦ sym c.holds ∙ ap (λ (z : FullElement). z.bytes) new
    | inr old ↦
        let late = c.newest (record e { bytes = bytes }) there is.about is.seen.0 in
        let early = is.newest c.element old.0 c.about c.seen.0 in
        absurd (old.1 (same_key c.element.key e.key (c.about ∙ sym is.about) (omega (arith, late, early))))
  ]

  counts_now : (held : List ℕ) → held ≡ bytes → Counts es' open_end (record_subject pfs) held
  counts_now held same = record {
    element = record e { bytes = bytes };
    there = there;
    about = is.about;
    holds = sym same;
    seen = is.seen;
    newest = λ other has about made. elim (came other has) [
      | inl new ↦ omega (arith, ap (λ (z : FullElement). z.key.create) new)
      | inr old ↦ is.newest other old.0 about made
    ];
  }

  ids_below : (i : ℕ) → IsBelow i es → IsBelow i es'
  ids_below i below = record {
    made = λ x has. elim (came x has) [
      | inl new ↦ omega (arith, ap (λ (z : FullElement). z.key.create) new, below.made e is.there)
      | inr old ↦ below.made x old.0
    ];
    closed = λ x has. elim (came x has) [
      | inl new ↦ omega (arith, ap (λ (z : FullElement). z.delete) new, below.closed e is.there)
      | inr old ↦ below.closed x old.0
    ];
  }

  pub sets_record : SetsRecord pfs bytes es es'
  sets_record = record {
    elements = λ y. (elements_to y, λ from. elements_from y from.0 from.1 from.2);
    record_now = λ was held counts. (only held, counts_now held);
    none = λ none. absurd (none e.bytes (element_counts es pfs e is));
    elsewhere = else_same;
    views = views_stay;
    ids = ids_below;
  }

-- ---- over what a store tells

-- the newest version that counts is the record
record_found : (es : List Element) (xs : List Extent) (pfs : ℕ) (e : Element) → IsNewestOf es (record_subject pfs) open_end e
    → IsRecordElement (full_elements es xs) pfs (full_of xs e)
record_found es xs pfs e is = record {
  there = has_map (full_of xs) es e is.there;
  about = is.version.about;
  seen = is.version.seen;
  newest = λ other has. let x = map_has (full_of xs) es other has in
      subst (λ (f : FullElement). subject_of f.key ≡ record_subject pfs → f.key.create ≤ open_end → f.key.create ≤ e.base.create) x.2
      (λ about made. is.newest x.0 x.1 about made);
}

-- what is known of the element of a record that was found
pub record IsFoundRecord (pfs : ℕ) (e : Element) (lists : Lists) : Type 0 where
  pub content : IsContent lists.0
  pub newest : IsNewestOf lists.0 (record_subject pfs) open_end e

-- the element goes and comes back with other bytes
pub record_set : (pfs : ℕ) (bytes : List ℕ) (e : Element) (was : Lists) (es' : List FullElement) → IsFoundRecord pfs e was
    → Then (LosesKey (element_key e)) (Adds (full_with e.base bytes)) (fulls was) es' → SetsRecord pfs bytes (fulls was) es'
record_set pfs bytes e was es' known steps =
    let (mid, gone, adds) = steps in
    sets_record pfs bytes (fulls was) mid es' (full_of was.1 e) (record_found was.0 was.1 pfs e known.newest)
    (own_keys-sorted (fulls was) (full_sorted was.0 was.1 known.content.rising)) gone adds

-- what was found, over what a store tells
pub found_record : (pfs : ℕ) (s : Subject) (e : Element) (es : Option (List Element)) (xs : Option (List Extent)) (found : Option Element)
    → s ≡ record_subject pfs → found ≡ Some e → IfSome es IsContent → IfSome es (λ list. IsVersion list s open_end found)
    → IfSome (content_of es xs) (IsFoundRecord pfs e)
found_record pfs s e None xs found about is content told = tt
found_record pfs s e (Some es) None found about is content told = tt
found_record pfs s e (Some es) (Some xs) found about is content told = record {
  content = content;
  newest = subst (λ (u : Subject). IsNewestOf es u open_end e) about (subst (λ (o : Option Element). IsVersion es s open_end o) is told);
}

-- where none was found there is none
pub no_record : (pfs : ℕ) (s : Subject) (es : Option (List Element)) (xs : Option (List Extent)) (found : Option Element)
    → s ≡ record_subject pfs → found ≡ None → IfSome es (λ list. IsVersion list s open_end found)
    → IfSome (content_of es xs) (λ lists. CountsNothing (Counts (fulls lists) open_end) (record_subject pfs))
no_record pfs s None xs found about is told = tt
no_record pfs s (Some es) None found about is told = tt
no_record pfs s (Some es) (Some xs) found about is told =
    subst (CountsNothing (Counts (full_elements es xs) open_end)) about
    (counts_none es xs s open_end (subst (λ (o : Option Element). IsVersion es s open_end o) is told))

-- it stands in the store
pub found_stands : (s : Subject) (e : Element) (es now : Option (List Element)) (found : Option Element) → now ≡ es → found ≡ Some e
    → IfSome es IsContent → IfSome es (λ list. IsVersion list s open_end found) → IfSome now (λ list. element_at (element_key e) list ≡ Some e)
found_stands s e None now found same is content told = rw same tt
found_stands s e (Some es) now found same is content told =
    let newest : IsNewestOf es s open_end e = subst (λ (o : Option Element). IsVersion es s open_end o) is told in
    rw same (has-element_at e es content.rising newest.there)

-- an element that was found may be added again, with the bytes of a record
pub found_new : (s : Subject) (pfs : ℕ) (e : Element) (found : Option Element) (r : PfsRecord) (bytes : List ℕ) → s ≡ record_subject pfs
    → found ≡ Some e → IfSome found (IsFoundAbout s open_end) → e.base.delete < 2 ^ 64 → bytes ≡ pfs_bytes r → length bytes ≤ most_payload
    → IsNew e.base META_ZONE bytes
found_new s pfs e found r bytes about is sound small same few = record {
  element = λ payload. record {
    made = it.element.made;
    closed = it.element.closed;
    obj_type = it.element.obj_type;
    btype = it.element.btype;
    fits = record_fits pfs (record { base = e.base; payload = payload; len = length bytes }) (it.version.about ∙ about);
  };
  unclosed = unclosed;
  payload_zone = (omega arith, omega arith);
  some = omega (arith, ap length same, length-pfs r);
  few = few;
} where
  it : IsFoundAbout s open_end e
  it = subst (λ (o : Option Element). IfSome o (IsFoundAbout s open_end)) is sound

  unclosed : e.base.delete ≡ 0
  unclosed = elim it.version.seen.1 [
    | inl open' ↦ open'
    | inr later ↦ absurd (omega (arith, later, small))
  ]
