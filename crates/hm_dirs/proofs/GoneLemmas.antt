-- The entries of one name, as they are closed one after another.
use Rattle.std.proofs.Common.{◌≡◌, ◌≢◌, ℕ, ◌+◌, ◌≤◌, List, None, Some, refl, ap, sym, subst, ◌∙◌, inl, inr, arith}
use Rattle.std.specs.Prelude.{◌↔◌}
use Rattle.std.proofs.lemmas.Bool.{cases_lt}
use Rattle.hm_types.specs.Elements.{FullElement, Key}
use Rattle.hm_types.specs.declared.fault.Fault.{Fault}
use Rattle.hm_types.specs.declared.fault.Fault.TheVariants.{Media, Damaged, NoMemory}
use Rattle.hm_types.specs.declared.id.Obj.{Obj}
use Rattle.hm_key.specs.Balance.{IsBalanced, first_bytes, payload_of}
use Rattle.hm_key.specs.Counts.{Content, Counts, Subject, entry_subject, subject_of}
use Rattle.hm_key.specs.Elements.{IsContent, element_key}
use Rattle.hm_key.specs.Extents.{Extent, extent_at}
use Rattle.hm_key.specs.declared.element.Element.{Element}
use Rattle.hm_key.specs.declared.rec_type.TheConstants.{DIRECTORY_ENTRY}
use Rattle.hm_records.specs.Changes.{AgreeOnObject, LacksName, Overrides}
use Rattle.hm_records.specs.Entry.{entry_bytes}
use Rattle.hm_records.specs.Follows.{StillFollow}
use Rattle.hm_records.specs.KeysFit.{KeysFit}
use Rattle.hm_records.specs.Laws.{LosesEntry, triple_of}
use Rattle.hm_records.specs.Payload.{SpellsEntry}
use Rattle.hm_records.specs.View.{HasEntry}
use Rattle.hm_records.specs.declared.entry.DirEntry.{DirEntry}
use Rattle.hm_records.proofs.EntryChangeLemmas.{agree_loses, objects_loses}
use Rattle.hm_records.proofs.NameLemmas.{OthersAgree, name_gone}
use Rattle.hm_records.proofs.SubjectLemmas.{same_subject}
use Rattle.hm_cursor.specs.Told.{IsPayloadDamage, Lists, fulls}
use Rattle.hm_cursor.specs.Names.{IsNoEntry, IsObjectNamed, LacksNameIn}
use Rattle.hm_cursor.specs.Version.{IsFirst}
use Rattle.hm_cursor.specs.Views.{IsNothing, WritesIn}
use Rattle.hm_cursor.specs.Write.{IsFreshFor, KeepPlaces, Rewrites}
use Rattle.hm_cursor.proofs.EntryLemmas.{about_entry, first_counts}
use Rattle.hm_cursor.proofs.FollowLemmas.{closing_follows, follow_twice}
use Rattle.hm_cursor.proofs.NameLemmas.{lacks_before, lacks_more, none_lacks, settled_content}
use Rattle.hm_cursor.proofs.ViewsLemmas.{fresh_beside, fresh_later, keys_fit_still, nothing_written, writes_again, writes_within}
use Rattle.hm_dirs.specs.Names.{AreOlder, TakesName, first_key}
use Rattle.hm_dirs.proofs.NamedLemmas.{lacks_all}
use Rattle.hm_dirs.proofs.WriteLemmas.{counts_less, entry_before, entry_later, entry_within}

-- of a name's entries those under the keys from `first` to `end` are closed at `i`, and all else is as it was
pub record HaveGone (pfs : ℕ) (directory : Obj) (name : List ℕ) (i first end : ℕ) (was now : Lists) : Type 0 where
  pub balanced : IsBalanced now.0 now.1
  pub placed : KeepPlaces was now
  pub writes : WritesIn pfs i IsNothing (fulls was) (fulls now)
  pub follows : StillFollow (fulls was) (fulls now)
  pub older : AreOlder pfs directory i (fulls now)
  pub others : (t : ℕ) → i ≤ t → OthersAgree pfs directory name (Counts (fulls was) t) (Counts (fulls now) t)
  pub objects : (t : ℕ) → i ≤ t → (obj : ℕ) → AgreeOnObject pfs obj (Counts (fulls was) t) (Counts (fulls now) t)
  pub less : (t : ℕ) → i ≤ t → (s : Subject) (bytes : List ℕ) → Counts (fulls now) t s bytes → Counts (fulls was) t s bytes
  pub lacks : LacksNameIn (Counts (fulls now) i) pfs directory name first end

pub none_gone : (pfs : ℕ) (directory : Obj) (name : List ℕ) (i first : ℕ) (was : Lists) → IsBalanced was.0 was.1
    → AreOlder pfs directory i (fulls was) → HaveGone pfs directory name i first first was was
none_gone pfs directory name i first was balanced older = record {
  balanced = balanced;
  placed = record { extents = refl; elements = λ x has. (x, has, refl, refl, refl) };
  writes = nothing_written pfs i IsNothing (fulls was);
  follows = λ other t follow. follow;
  older = older;
  others = λ t late triple not key object. (λ h. h, λ h. h);
  objects = λ t late obj. record {
    inode = λ bytes. (λ h. h, λ h. h);
    bytes = λ end bytes. (λ h. h, λ h. h);
    target = λ bytes. (λ h. h, λ h. h);
  };
  less = λ t late s bytes counts. counts;
  lacks = λ key object from below has. absurd (omega (arith, from, below));
}

-- ---- what two changes in turn keep

iff : {A B C : Type 0} → B ↔ A → C ↔ B → C ↔ A
iff first second = (λ h. first.0 (second.0 h), λ h. second.1 (first.1 h))

others_both : (pfs : ℕ) (directory : Obj) (name : List ℕ) (C D E : Content) → OthersAgree pfs directory name C D → OthersAgree pfs directory name D E
    → OthersAgree pfs directory name C E
others_both pfs directory name C D E first second t not key object = iff (first t not key object) (second t not key object)

object_both : (pfs obj : ℕ) (C D E : Content) → AgreeOnObject pfs obj C D → AgreeOnObject pfs obj D E → AgreeOnObject pfs obj C E
object_both pfs obj C D E first second = record {
  inode = λ bytes. iff (first.inode bytes) (second.inode bytes);
  bytes = λ end bytes. iff (first.bytes end bytes) (second.bytes end bytes);
  target = λ bytes. iff (first.target bytes) (second.target bytes);
}

placed_both : (was mid now : Lists) → KeepPlaces was mid → KeepPlaces mid now → KeepPlaces was now
placed_both was mid now first second = record {
  extents = second.extents ∙ first.extents;
  elements = λ x has.
      let m = second.elements x has in
      let e = first.elements m.0 m.1 in
      (e.0, e.1, m.2 ∙ e.2, m.3 ∙ e.3, m.4 ∙ e.4);
}

-- a payload that stays where it was
same_payload : (xs ys : List Extent) (e x : Element) → ys ≡ xs → x.payload ≡ e.payload → x.len ≡ e.len → payload_of xs e ≡ payload_of ys x
same_payload xs ys e x same place len = λ j. first_bytes ((sym len) j) (extent_at ((sym place) j) ((sym same) j))

-- ---- one entry

none_some : (bytes : List ℕ) → None ≡ Some bytes → ⊥
none_some bytes is = cc

module _ (pfs : ℕ) (directory : Obj) (key i : ℕ) (es es' : List FullElement) (rewrites : Rewrites (entry_subject pfs directory.0 key) None i es es') where
  over : Overrides (entry_subject pfs directory.0 key) None (Counts es i) (Counts es' i)
  over = rewrites.present i (omega arith)

  -- an entry that is closed is no new element
  closed_writes : WritesIn pfs i IsNothing es es'
  closed_writes =
      writes_within pfs i (entry_subject pfs directory.0 key) None IsNothing es es' (entry_within pfs directory.0 key)
      (λ x about made now. none_some x.bytes now) rewrites

  closed_older : AreOlder pfs directory i es → AreOlder pfs directory i es'
  closed_older older k = elim (same_subject (entry_subject pfs directory.0 k) (entry_subject pfs directory.0 key)) [
    | inr differ ↦ fresh_beside (entry_subject pfs directory.0 key) (entry_subject pfs directory.0 k) None i i es es' rewrites differ (older k)
    | inl same ↦ subst (λ (s : Subject). IsFreshFor s i es') (sym same) (rewrites.closed refl (older key))
  ]

  closed_lacks : (name : List ℕ) (first : ℕ) → LacksNameIn (Counts es i) pfs directory name first key
      → LacksNameIn (Counts es' i) pfs directory name first (key + 1)
  closed_lacks name first lacks k object from below has = elim (cases_lt k key) [
    | inl before ↦
        let differ : entry_subject pfs directory.0 k ≢ entry_subject pfs directory.0 key =
        λ is. absurd (omega (arith, before, ap (λ (s : Subject). s.key) is)) in
        lacks k object from before (record {
          ranges = has.ranges;
          there = (over.elsewhere (entry_subject pfs directory.0 k) bytes differ).0 has.there;
        })
    | inr not ↦
        let one : k ≡ key = omega (arith, below, not) in
        none_some bytes ((over.about bytes).0 (subst (λ (n : ℕ). Counts es' i (entry_subject pfs directory.0 n) bytes) one has.there))
  ] where
    bytes : List ℕ
    bytes = entry_bytes (record { obj = object; name = name })

  closed_loses : (name : List ℕ) (object : Obj) (t : ℕ) → AreOlder pfs directory i es → i ≤ t → HasEntry (Counts es i) pfs directory key name object
      → LosesEntry pfs directory key (record { obj = object; name = name }) (Counts es t) (Counts es' t)
  closed_loses name object t older late has = record {
    there = entry_later pfs directory i t es name key object older late has;
    counts = rewrites.present t late;
  }

module _ (at : Key) (pfs : ℕ) (directory : Obj) (key last i : ℕ) (here : subject_of at ≡ entry_subject pfs directory.0 key)
    (name : List ℕ) (first : ℕ) (was mid : Lists) (gone : HaveGone pfs directory name i first key was mid) where
  -- an entry of another name stays
  pub gone_past : (e : Element) → IsContent mid.0 → IsFirst mid.0 at last i (Some e) → IsObjectNamed (payload_of mid.1 e) name None
      → HaveGone pfs directory name i first (e.base.key + 1) was mid
  gone_past e content found other = record {
    balanced = gone.balanced;
    placed = gone.placed;
    writes = gone.writes;
    follows = gone.follows;
    older = gone.older;
    others = gone.others;
    objects = gone.objects;
    less = gone.less;
    lacks = lacks_more mid.0 mid.1 at pfs directory key last i here name first gone.lacks e content found other;
  }

  -- one of the name is closed
  pub gone_more : (e : Element) (object : Obj) (now : Lists) → IsContent mid.0 → IsFirst mid.0 at last i (Some e)
      → IsObjectNamed (payload_of mid.1 e) name (Some object) → IsBalanced now.0 now.1 → KeepPlaces mid now
      → Rewrites (subject_of (element_key e)) None i (fulls mid) (fulls now) → HaveGone pfs directory name i first (e.base.key + 1) was now
  gone_more e object now content found spelled balanced placed rewrites = record {
    balanced = balanced;
    placed = placed_both was mid now gone.placed placed;
    writes = writes_again pfs i IsNothing (fulls was) (fulls mid) (fulls now) (λ x y same kind bytes new. new) gone.writes
        (closed_writes pfs directory e.base.key i (fulls mid) (fulls now) wrote);
    follows = follow_twice (fulls was) (fulls mid) (fulls now) gone.follows
        (closing_follows (entry_subject pfs directory.0 e.base.key) i (fulls mid) (fulls now) wrote);
    older = closed_older pfs directory e.base.key i (fulls mid) (fulls now) wrote gone.older;
    others = λ t late. others_both pfs directory name (Counts (fulls was) t) (Counts (fulls mid) t) (Counts (fulls now) t) (gone.others t late)
        (agree_loses pfs directory e.base.key entry (Counts (fulls mid) t) (Counts (fulls now) t) (loses t late) (settled_content mid.0 mid.1 t content));
    objects = λ t late obj. object_both pfs obj (Counts (fulls was) t) (Counts (fulls mid) t) (Counts (fulls now) t) (gone.objects t late obj)
        (objects_loses pfs directory e.base.key entry (Counts (fulls mid) t) (Counts (fulls now) t) (loses t late) obj);
    less = λ t late s bytes counts. gone.less t late s bytes
        (counts_less (entry_subject pfs directory.0 e.base.key) (Counts (fulls mid) t) (Counts (fulls now) t) (wrote.present t late) s bytes counts);
    lacks = closed_lacks pfs directory e.base.key i (fulls mid) (fulls now) wrote name first
        (lacks_before mid.0 mid.1 at pfs directory key last i here name first gone.lacks e found);
  } where
    entry : DirEntry
    entry = record { obj = object; name = name }

    wrote : Rewrites (entry_subject pfs directory.0 e.base.key) None i (fulls mid) (fulls now)
    wrote =
        subst (λ (s : Subject). Rewrites s None i (fulls mid) (fulls now)) (about_entry mid.0 mid.1 at pfs directory key last i here e found.place)
        rewrites

    loses : (t : ℕ) → i ≤ t → LosesEntry pfs directory e.base.key entry (Counts (fulls mid) t) (Counts (fulls now) t)
    loses t late =
        closed_loses pfs directory e.base.key i (fulls mid) (fulls now) wrote name object t gone.older late (record {
          ranges = spelled.0;
          there = subst (λ (bytes : List ℕ). Counts (fulls mid) i (entry_subject pfs directory.0 e.base.key) bytes) spelled.1
              (first_counts mid.0 mid.1 at pfs directory key last i here e found);
        })

  -- none is left
  pub gone_all : IsFirst mid.0 at last i None → HaveGone pfs directory name i first (last + 1) was mid
  gone_all none = record {
    balanced = gone.balanced;
    placed = gone.placed;
    writes = gone.writes;
    follows = gone.follows;
    older = gone.older;
    others = gone.others;
    objects = gone.objects;
    less = gone.less;
    lacks = none_lacks mid.0 mid.1 at pfs directory key last i here name first gone.lacks none;
  }

  -- an entry that is found may be closed
  pub gone_fresh : (e : Element) → IsFirst mid.0 at last i (Some e) → IsFreshFor (subject_of (element_key e)) i (fulls mid)
  gone_fresh e found =
      subst (λ (s : Subject). IsFreshFor s i (fulls mid))
      (sym (about_entry mid.0 mid.1 at pfs directory key last i here e found.place)) (gone.older e.base.key)

  -- a payload that spells no entry was there before
  pub gone_damage : (e : Element) (fault : Fault) → IsFirst mid.0 at last i (Some e) → IsNoEntry mid.1 e fault → IsPayloadDamage was fault
  gone_damage e (Media before after) found none = tt
  gone_damage e (Damaged at' kind) found none =
      let old = gone.placed.elements e found.counts.there in
      let type : old.0.base.rec_type ≡ DIRECTORY_ENTRY =
      ap (λ (k : Key). k.rec_type) (sym old.2)
      ∙ ap (λ (s : Subject). s.rec_type) (about_entry mid.0 mid.1 at pfs directory key last i here e found.place) in
      let same : payload_of was.1 old.0 ≡ payload_of mid.1 e =
      same_payload was.1 mid.1 old.0 e gone.placed.extents old.3 old.4 in (
        none.1,
        record {
          element = old.0;
          there = old.1;
          place = sym old.3 ∙ sym none.0;
          broken = λ is. none.2 (subst SpellsEntry same (is.entry type));
        },
      )
  gone_damage e NoMemory found none = tt

-- ---- the name

-- where all entries of a name are closed, the tree has lost it
pub name_taken : (hash : List ℕ → ℕ) (pfs : ℕ) (directory : Obj) (name : List ℕ) (i first end : ℕ) (was now : Lists) → first ≡ first_key (hash name)
    → end ≡ first + 65536 → IsContent was.0 → IsContent now.0 → HaveGone pfs directory name i first end was now
    → TakesName hash pfs directory name i (fulls was) (fulls now)
name_taken hash pfs directory name i first end was now number size before after gone = record {
  writes = gone.writes;
  follows = gone.follows;
  shows = λ fit t tree late has. record {
    settled = settled_content now.0 now.1 t after;
    view = name_gone pfs tree (Counts (fulls was) t) (Counts (fulls now) t) directory name has.view (gone.others t late) (gone.objects t late)
        (lacks_then fit t late);
  };
  lacks = lacks_then;
  fits = fits;
  closed = λ fit key object has t late bytes counts.
      let entry : DirEntry = record { obj = object; name = name } in
      let still : Counts (fulls now) i (entry_subject pfs directory.0 key) bytes =
      (fresh_later (entry_subject pfs directory.0 key) i t (fulls now) bytes (gone.older key) late).0 counts in
      let same : bytes ≡ entry_bytes entry =
      settled_content was.0 was.1 i before (entry_subject pfs directory.0 key) bytes (entry_bytes entry)
      (gone.less i (omega arith) (entry_subject pfs directory.0 key) bytes still) has.there in
      lacks_now fit key object (record {
        ranges = has.ranges;
        there = subst (λ (b : List ℕ). Counts (fulls now) i (entry_subject pfs directory.0 key) b) same still;
      });
  only = λ t s bytes late counts. gone.less t late s bytes counts;
  beside = λ t key other name' object late apart has.
      (gone.others t late (triple_of other name' object) (λ stands. apart (λ j. record { 0 = stands.0 j }) stands.1) key object).1 has;
} where
  fits : KeysFit hash (fulls was) → KeysFit hash (fulls now)
  fits = keys_fit_still pfs i IsNothing hash (fulls was) (fulls now) gone.writes (λ x entry new. absurd new)

  lacks_now : KeysFit hash (fulls was) → LacksName (Counts (fulls now) i) pfs directory name
  lacks_now fit = lacks_all hash (fulls now) i pfs directory name first end number size gone.lacks (fits fit)

  lacks_then : KeysFit hash (fulls was) → (t : ℕ) → i ≤ t → LacksName (Counts (fulls now) t) pfs directory name
  lacks_then fit t late key object has =
      lacks_now fit key object (entry_before pfs directory i t (fulls now) name key object gone.older late has)
