-- From what counts for one subject after a call that wrote, to the trees of all pseudo file systems.
use Rattle.std.proofs.Common.{◌≡◌, ◌≢◌, ℕ, ◌+◌, ◌≤◌, List, refl, sym, ap, subst, ◌∙◌, inl, inr, arith}
use Rattle.std.specs.Prelude.{◌↔◌, ◌⊎◌, Option, None, Some}
use Rattle.std.specs.List.{Contains}
use Rattle.hm_types.specs.Elements.{FullElement, Key}
use Rattle.hm_types.specs.Tree.{FileTree}
use Rattle.hm_key.specs.declared.rec_type.TheConstants.{DIRECTORY_ENTRY, PFS_RECORD}
use Rattle.hm_key.specs.Versions.{IsBelow}
use Rattle.hm_key.specs.Counts.{Counts, IsRecordOf, IsSeen, Subject, inodes_of, others_of, record_subject, subject_of}
use Rattle.hm_key.specs.Element.{pfs_of}
use Rattle.hm_records.specs.Changes.{IsBeside}
use Rattle.hm_records.specs.Entry.{IsEntry, entry_bytes}
use Rattle.hm_records.specs.KeysFit.{KeysFit}
use Rattle.hm_records.specs.Payload.{KeyFits}
use Rattle.hm_records.specs.declared.entry.DirEntry.{DirEntry}
use Rattle.hm_records.proofs.MadeLemmas.{beside_alone}
use Rattle.hm_records.proofs.SubjectLemmas.{beside_other, same_subject}
use Rattle.hm_cursor.specs.Views.{CameAs, Shows, WritesIn}
use Rattle.hm_cursor.specs.Write.{AddsOfType, AreUpTo, CameFrom, IsFreshFor, Rewrites}

-- a subject is of a pseudo file system, and is none of the records
pub record IsWithin (pfs : ℕ) (s : Subject) : Type 0 where
  pub place : (s.localization ≡ inodes_of pfs) ⊎ (s.localization ≡ others_of pfs)
  pub no_record : s.rec_type ≢ PFS_RECORD

pub beside_others : (pfs other : ℕ) (s : Subject) → IsWithin pfs s → other ≢ pfs → IsBeside other s
beside_others pfs other s within differ = elim within.place [
  | inl is ↦ beside_other other s (λ is'. differ (omega (arith, is, is'))) (λ is'. absurd (omega (arith, is, is')))
  | inr is ↦ beside_other other s (λ is'. absurd (omega (arith, is, is'))) (λ is'. differ (omega (arith, is, is')))
]

-- and its elements are of that pseudo file system
within_place : (pfs : ℕ) (s : Subject) (x : FullElement) → IsWithin pfs s → subject_of x.key ≡ s → pfs_of x.key.localization ≡ pfs
within_place pfs s x within about = elim within.place [
  | inl is ↦ ap (λ (z : Subject). pfs_of z.localization) about ∙ ap pfs_of is ∙ omega arith
  | inr is ↦ ap (λ (z : Subject). pfs_of z.localization) about ∙ ap pfs_of is ∙ omega arith
]

-- what makes a new element one: it is about a subject, was made by `i`, and has the bytes that count now
abbrev pub Makes : Subject → Option (List ℕ) → ℕ → (FullElement → Type 0) → Type 0
Makes s now i New = (x : FullElement) → subject_of x.key ≡ s → x.key.create ≡ i → now ≡ Some x.bytes → New x

-- one such element
abbrev sample : Subject → ℕ → List ℕ → FullElement
sample s i bytes = record {
  key = record { localization = s.localization; obj = s.obj; rec_type = s.rec_type; key = s.key; create = i };
  delete = 0;
  obj_type = 0;
  bytes = bytes;
}

-- elements about another subject stay, so their ids do
pub fresh_beside : (s other : Subject) (now : Option (List ℕ)) (i j : ℕ) (es es' : List FullElement) → Rewrites s now i es es' → other ≢ s
    → IsFreshFor other j es → IsFreshFor other j es'
fresh_beside s other now i j es es' rewrites differ fresh = record {
  made = λ x has about. fresh.made x (was x has about) about;
  closed = λ x has about. fresh.closed x (was x has about) about;
} where
  was : (x : FullElement) → Contains es' x → subject_of x.key ≡ other → Contains es x
  was x has about = (rewrites.beside x (λ is. differ (sym about ∙ is))).0 has

-- the records are about other subjects
records_stay : (pfs i : ℕ) (s : Subject) (now : Option (List ℕ)) (es es' : List FullElement) → IsWithin pfs s → Rewrites s now i es es'
    → (other : ℕ) (bytes : List ℕ) → IsRecordOf es' other bytes ↔ IsRecordOf es other bytes
records_stay pfs i s now es es' within rewrites other bytes = (
  on es' es (λ x about. (same x about).0) (λ x about. (same x about).1),
  on es es' (λ x about. (same x about).1) (λ x about. (same x about).0),
) where
  same : (x : FullElement) → subject_of x.key ≡ record_subject other → Contains es' x ↔ Contains es x
  same x about = rewrites.beside x (λ is. within.no_record (ap (λ (z : Subject). z.rec_type) (sym is ∙ about)))

  on : (xs ys : List FullElement) → ((x : FullElement) → subject_of x.key ≡ record_subject other → Contains xs x → Contains ys x)
      → ((x : FullElement) → subject_of x.key ≡ record_subject other → Contains ys x → Contains xs x) → IsRecordOf xs other bytes
      → IsRecordOf ys other bytes
  on xs ys to from is = record {
    element = is.element;
    there = to is.element is.about is.there;
    about = is.about;
    holds = is.holds;
    unclosed = is.unclosed;
    newest = λ x has about. is.newest x (from x about has) about;
  }

-- and so what counts for them does, as of any id
records_counted : (pfs i : ℕ) (s : Subject) (now : Option (List ℕ)) (es es' : List FullElement) → IsWithin pfs s → Rewrites s now i es es'
    → (t other : ℕ) (bytes : List ℕ) → Counts es' t (record_subject other) bytes ↔ Counts es t (record_subject other) bytes
records_counted pfs i s now es es' within rewrites t other bytes = (
  on es' es (λ x about. (same x about).0) (λ x about. (same x about).1),
  on es es' (λ x about. (same x about).1) (λ x about. (same x about).0),
) where
  same : (x : FullElement) → subject_of x.key ≡ record_subject other → Contains es' x ↔ Contains es x
  same x about = rewrites.beside x (λ is. within.no_record (ap (λ (z : Subject). z.rec_type) (sym is ∙ about)))

  on : (xs ys : List FullElement) → ((x : FullElement) → subject_of x.key ≡ record_subject other → Contains xs x → Contains ys x)
      → ((x : FullElement) → subject_of x.key ≡ record_subject other → Contains ys x → Contains xs x)
      → Counts xs t (record_subject other) bytes → Counts ys t (record_subject other) bytes
  on xs ys to from counts = record {
    element = counts.element;
    there = to counts.element counts.about counts.there;
    about = counts.about;
    holds = counts.holds;
    seen = counts.seen;
    newest = λ x has about made. counts.newest x (from x about has) about made;
  }

-- Writing about a subject within a pseudo file system is writing in it.
pub writes_within : (pfs i : ℕ) (s : Subject) (now : Option (List ℕ)) (New : FullElement → Type 0) (es es' : List FullElement) → IsWithin pfs s
    → Makes s now i New → Rewrites s now i es es' → WritesIn pfs i New es es'
writes_within pfs i s now New es es' within makes rewrites = record {
  past = rewrites.past;
  others = λ t other tree late differ has.
      beside_alone other s now tree (Counts es t) (Counts es' t) has (beside_others pfs other s within differ) (rewrites.present t late);
  elsewhere = λ x differ. rewrites.beside x (λ about. differ (within_place pfs s x within about));
  records = records_stay pfs i s now es es' within rewrites;
  records_then = records_counted pfs i s now es es' within rewrites;
  came = λ x has. came x (rewrites.came x has);
  fresh = fresh;
  up_to = rewrites.up_to;
} where
  came : (x : FullElement) → CameFrom s now i es x → CameAs New es x
  came x (inl (about, made, is)) = inr (makes x about made is)
  came x (inr was) = inl was

  fresh : (other : Subject) → ((x : FullElement) → New x → subject_of x.key ≢ other) → IsFreshFor other i es → IsFreshFor other i es'
  fresh other apart is = elim (same_subject other s) [
    | inr differ ↦ fresh_beside s other now i i es es' rewrites differ is
    | inl same ↦ about same now refl
  ] where
    about : other ≡ s → (is_now : Option (List ℕ)) → now ≡ is_now → IsFreshFor other i es'
    about same None none =
        subst (λ (z : Subject). IsFreshFor z i es') (sym same) (rewrites.closed none (subst (λ (z : Subject). IsFreshFor z i es) same is))
    about same (Some bytes) some = absurd (apart (sample s i bytes) (makes (sample s i bytes) refl refl some) (sym same))

-- ---- several writes

-- nothing was written
pub nothing_written : (pfs i : ℕ) (New : FullElement → Type 0) (es : List FullElement) → WritesIn pfs i New es es
nothing_written pfs i New es = record {
  past = λ t below s bytes. (λ h. h, λ h. h);
  others = λ t other tree late differ has. has;
  elsewhere = λ x differ. (λ h. h, λ h. h);
  records = λ other bytes. (λ h. h, λ h. h);
  records_then = λ t other bytes. (λ h. h, λ h. h);
  came = λ x has. inl (x, has, refl, refl, refl);
  fresh = λ s apart is. is;
  up_to = λ localization below. below;
}

-- an element that is closed stays new
abbrev pub IsSteady : (FullElement → Type 0) → Type 0
IsSteady New = (x e : FullElement) → x.key ≡ e.key → x.obj_type ≡ e.obj_type → x.bytes ≡ e.bytes → New e → New x

-- Two writes after one another are one: what is new is so by either.
pub writes_twice : (pfs i : ℕ) (First Second : FullElement → Type 0) (es mid es' : List FullElement) → IsSteady First
    → WritesIn pfs i First es mid → WritesIn pfs i Second mid es' → WritesIn pfs i (λ x. First x ⊎ Second x) es es'
writes_twice pfs i First Second es mid es' steady first second = record {
  past = λ t below s bytes. (
    λ h. (first.past t below s bytes).0 ((second.past t below s bytes).0 h),
    λ h. (second.past t below s bytes).1 ((first.past t below s bytes).1 h),
  );
  others = λ t other tree late differ has. second.others t other tree late differ (first.others t other tree late differ has);
  elsewhere = λ x differ. (
    λ h. (first.elsewhere x differ).0 ((second.elsewhere x differ).0 h),
    λ h. (second.elsewhere x differ).1 ((first.elsewhere x differ).1 h),
  );
  records = λ other bytes. (
    λ h. (first.records other bytes).0 ((second.records other bytes).0 h),
    λ h. (second.records other bytes).1 ((first.records other bytes).1 h),
  );
  records_then = λ t other bytes. (
    λ h. (first.records_then t other bytes).0 ((second.records_then t other bytes).0 h),
    λ h. (second.records_then t other bytes).1 ((first.records_then t other bytes).1 h),
  );
  came = λ x has. later x (second.came x has);
  fresh = λ s apart is. second.fresh s (λ x new. apart x (inr new)) (first.fresh s (λ x new. apart x (inl new)) is);
  up_to = λ localization below. second.up_to localization (first.up_to localization below);
} where
  earlier : (x e : FullElement) → x.key ≡ e.key → x.obj_type ≡ e.obj_type → x.bytes ≡ e.bytes → CameAs First es e
      → CameAs (λ x. First x ⊎ Second x) es x
  earlier x e key kind bytes (inl (d, there, key', kind', bytes')) = inl (d, there, key ∙ key', kind ∙ kind', bytes ∙ bytes')
  earlier x e key kind bytes (inr new) = inr (inl (steady x e key kind bytes new))

  later : (x : FullElement) → CameAs Second mid x → CameAs (λ x. First x ⊎ Second x) es x
  later x (inl (e, there, key, kind, bytes)) = earlier x e key kind bytes (first.came e there)
  later x (inr new) = inr (inr new)

-- What is new may be said in wider words.
pub writes_wider : (pfs i : ℕ) (New Wider : FullElement → Type 0) (es es' : List FullElement) → ((x : FullElement) → New x → Wider x)
    → WritesIn pfs i New es es' → WritesIn pfs i Wider es es'
writes_wider pfs i New Wider es es' wider writes = record {
  past = writes.past;
  others = writes.others;
  elsewhere = writes.elsewhere;
  records = writes.records;
  records_then = writes.records_then;
  came = λ x has. widened x (writes.came x has);
  fresh = λ s apart is. writes.fresh s (λ x new. apart x (wider x new)) is;
  up_to = writes.up_to;
} where
  widened : (x : FullElement) → CameAs New es x → CameAs Wider es x
  widened x (inl was) = inl was
  widened x (inr new) = inr (wider x new)

-- What is new has the type of object of which elements were added, where it may have any.
pub writes_of_type : (pfs i kind : ℕ) (New Typed : FullElement → Type 0) (es es' : List FullElement)
    → ((x : FullElement) → New x → New (record x { obj_type = kind })) → ((x : FullElement) → New x → x.obj_type ≡ kind → Typed x)
    → AddsOfType kind es es' → WritesIn pfs i New es es' → WritesIn pfs i Typed es es'
writes_of_type pfs i kind New Typed es es' any typed adds writes = record {
  past = writes.past;
  others = writes.others;
  elsewhere = writes.elsewhere;
  records = writes.records;
  records_then = writes.records_then;
  came = λ x has. elim (writes.came x has) [
    | inl was ↦ inl was
    | inr new ↦ elim (adds x has) [
      | inl old ↦ inl (x, old, refl, refl, refl)
      | inr is ↦ inr (typed x new is)
    ]
  ];
  fresh = λ s apart is. writes.fresh s (λ x new. apart (record x { obj_type = kind }) (typed (record x { obj_type = kind }) (any x new) refl)) is;
  up_to = writes.up_to;
}

-- Two writes of one kind of elements are one.
pub writes_again : (pfs i : ℕ) (New : FullElement → Type 0) (es mid es' : List FullElement) → IsSteady New
    → WritesIn pfs i New es mid → WritesIn pfs i New mid es' → WritesIn pfs i New es es'
writes_again pfs i New es mid es' steady first second =
    writes_wider pfs i (λ x. New x ⊎ New x) New es es' either (writes_twice pfs i New New es mid es' steady first second)
  where
    either : (x : FullElement) → New x ⊎ New x → New x
    either x (inl new) = new
    either x (inr new) = new

-- and their changes of the tree are one
pub shows_twice : (pfs i : ℕ) (first second : FileTree → FileTree) (es mid es' : List FullElement) → Shows pfs i first es mid
    → Shows pfs i second mid es' → Shows pfs i (λ tree. second (first tree)) es es'
shows_twice pfs i first second es mid es' one two t tree late has = two t (first tree) late (one t tree late has)

-- where no id of any localization rises above `i`, none of all does
pub below_still : {i : ℕ} {es es' : List FullElement} → ((localization : ℕ) → AreUpTo localization i es → AreUpTo localization i es')
    → IsBelow (i + 1) es → IsBelow (i + 1) es'
below_still {i} {es} {es'} still below = record {
  made = λ x has. let made = (after x).made x has refl in omega (arith, made);
  closed = λ x has. let gone = (after x).closed x has refl in omega (arith, gone);
} where
  after : (x : FullElement) → AreUpTo x.key.localization i es'
  after x = still x.key.localization (record {
    made = λ y has place. let made = below.made y has in omega (arith, made);
    closed = λ y has place. let gone = below.closed y has in omega (arith, gone);
  })

-- ---- a subject that is older than an id

-- As of that id and of all later ones the same counts for it.
pub fresh_later : (s : Subject) (i t : ℕ) (es : List FullElement) (bytes : List ℕ) → IsFreshFor s i es → i ≤ t → Counts es t s bytes ↔ Counts es i s bytes
fresh_later s i t es bytes fresh late = (counted t i late (omega arith), counted i t (omega arith) late) where
  seen_then : (t u : ℕ) → i ≤ t → i ≤ u → (x : FullElement) → Contains es x → subject_of x.key ≡ s → IsSeen t x → IsSeen u x
  seen_then t u late later x has about seen = (
    let made = fresh.made x has about in omega (arith, made, later),
    elim seen.1 [
      | inl unclosed ↦ inl unclosed
      | inr closed ↦ let gone = fresh.closed x has about in absurd (omega (arith, gone, closed, late))
    ],
  )

  counted : (t u : ℕ) → i ≤ t → i ≤ u → Counts es t s bytes → Counts es u s bytes
  counted t u late later counts = record {
    element = counts.element;
    there = counts.there;
    about = counts.about;
    holds = counts.holds;
    seen = seen_then t u late later counts.element counts.there counts.about counts.seen;
    newest = λ other has about _. counts.newest other has about (let made = fresh.made other has about in omega (arith, made, late));
  }

-- ---- the keys of entries

-- they fit their names after writing, where those of new entries do
pub keys_fit_still : (pfs i : ℕ) (New : FullElement → Type 0) (hash : List ℕ → ℕ) (es es' : List FullElement) → WritesIn pfs i New es es'
    → ((x : FullElement) (entry : DirEntry) → New x → x.key.rec_type ≡ DIRECTORY_ENTRY → IsEntry entry → x.bytes ≡ entry_bytes entry
    → KeyFits hash x.key.key entry.name) → KeysFit hash es → KeysFit hash es'
keys_fit_still pfs i New hash es es' writes new fit x entry has type ranges spelled = by_origin (writes.came x has) where
  by_origin : CameAs New es x → KeyFits hash x.key.key entry.name
  by_origin (inl (e, there, key, kind, bytes)) =
      subst (λ (k : Key). KeyFits hash k.key entry.name) (sym key)
      (fit e entry there (sym (ap (λ (k : Key). k.rec_type) key) ∙ type) ranges (sym bytes ∙ spelled))
  by_origin (inr is) = new x entry is type ranges spelled
