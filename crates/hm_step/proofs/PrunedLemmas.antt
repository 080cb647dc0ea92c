-- Elements that stand for a volume, from which dead ones went.
use Rattle.std.proofs.Common.{◌≡◌, ◌∙◌, ℕ, ◌≤◌, List, ◌∷◌, Option, Some, None, ap, sym, subst, refl, inl, inr, arith}
use Rattle.std.specs.Prelude.{◌↔◌, ◌⊎◌, IfSome, IsSomeAnd}
use Rattle.std.specs.List.{All, Contains}
use Rattle.std.proofs.lemmas.List.Elements.{All-contains}
use Rattle.hm_types.specs.Elements.{FullElement, IsDead}
use Rattle.hm_types.specs.Intervals.{Keeps}
use Rattle.hm_types.specs.Tree.{FileTree}
use Rattle.hm_key.specs.Balance.{LosesDead, MayGo, keep, lose, none}
use Rattle.hm_key.specs.Counts.{Counts, IsRecordOf, IsSeen, Subject, bytes_subject, entry_subject, inode_subject, record_subject, target_subject}
use Rattle.hm_key.specs.Element.{pfs_of}
use Rattle.hm_model.specs.Volume.{PseudoFileSystem, Volume, at, shown_id, system_of}
use Rattle.hm_records.specs.Entry.{entry_bytes}
use Rattle.hm_records.specs.Follows.{Follows, IsAbove, IsOf, VersionsFollow, of_bytes, of_entry, of_inode, of_target}
use Rattle.hm_records.specs.Payload.{IsPayload}
use Rattle.hm_records.specs.PfsRecord.{pfs_bytes}
use Rattle.hm_records.specs.View.{IsViewOf}
use Rattle.hm_records.specs.declared.pfs_record.PfsRecord.{PfsRecord}
use Rattle.hm_records.proofs.FollowLemmas.{follows_counts, follows_still}
use Rattle.hm_records.proofs.MeetLemmas.{follows_versions}
use Rattle.hm_records.proofs.MemberLemmas.{All-from_has, has_cases, has_head, has_tail}
use Rattle.hm_records.proofs.ViewLemmas.{view_kept}
use Rattle.hm_volume.specs.Records.{HasRecord, HaveRecords, IsRecordFor}
use Rattle.hm_image.specs.StandFor.{HasIds, HasViews, IsSourceless, StandFor}
use Rattle.hm_step.specs.Pruned.{KeepsWithin}
use Rattle.hm_step.proofs.NextLemmas.{kept_shown}

-- an element that is the head of a list stands in it
has_first : (e x : FullElement) (es : List FullElement) → x ≡ e → Contains (e ∷ es) x
has_first e x es same = subst (λ (y : FullElement). Contains (e ∷ es) y) (sym same) (has_head e es)

-- what is left was there
pub fewer : (kept : ℕ → Option (List (ℕ × ℕ))) {es es' : List FullElement} → LosesDead kept es es' → (x : FullElement) → Contains es' x → Contains es x
fewer kept none x has = has
fewer kept (keep loses) x has = elim (has_cases _ x _ has) [
  | inl first ↦ has_first _ x _ first
  | inr later ↦ has_tail _ x _ (fewer kept loses x later)
]
fewer kept (lose dead loses) x has = has_tail _ x _ (fewer kept loses x has)

-- what was there is left, or may go
pub gone : (kept : ℕ → Option (List (ℕ × ℕ))) {es es' : List FullElement} → LosesDead kept es es' → (x : FullElement) → Contains es x
    → Contains es' x ⊎ MayGo kept x
gone kept none x has = inl has
gone kept (keep loses) x has = elim (has_cases _ x _ has) [
  | inl first ↦ inl (has_first _ x _ first)
  | inr later ↦ elim (gone kept loses x later) [
    | inl left ↦ inl (has_tail _ x _ left)
    | inr may ↦ inr may
  ]
]
gone kept (lose dead loses) x has = elim (has_cases _ x _ has) [
  | inl first ↦ inr (subst (λ (y : FullElement). MayGo kept y) (sym first) dead)
  | inr later ↦ gone kept loses x later
]

-- what may go was closed
gone_closed : (kept : ℕ → Option (List (ℕ × ℕ))) (x : FullElement) → MayGo kept x → x.delete ≡ 0 → ⊥
gone_closed kept x may open' = by_kept (kept (pfs_of x.key.localization)) may where
  by_kept : (o : Option (List (ℕ × ℕ))) → IsSomeAnd o (λ ids. IsDead ids x.key.create x.delete) → ⊥
  by_kept None dead = dead
  by_kept (Some ids) dead = dead.unseen dead.reached.0 dead.reached.1 (dead.reached.2, inl open')

-- what is dead is seen neither as of a kept id nor as of one above all of these
dead_hidden : (ids : List (ℕ × ℕ)) (t : ℕ) (x : FullElement) → IsDead ids x.key.create x.delete → Keeps ids t ⊎ IsAbove ids t → IsSeen t x → ⊥
dead_hidden ids t x dead (inl keeps) seen = dead.unseen t keeps seen
dead_hidden ids t x dead (inr above) seen = dead.unseen dead.reached.0 dead.reached.1 (
  dead.reached.2,
  elim seen.1 [
    | inl open' ↦ inl open'
    | inr later ↦ inr (let up = above dead.reached.0 dead.reached.1 in omega (arith, up, later))
  ],
)

module _ (kept : ℕ → Option (List (ℕ × ℕ))) (es es' : List FullElement) (volume : Volume) (stand : StandFor es volume) (loses : LosesDead kept es es')
    (within : KeepsWithin kept volume) where
  left : (x : FullElement) → Contains es' x → Contains es x
  left = fewer kept loses

  left_all : (P : FullElement → Type 0) → All P es → All P es'
  left_all P each = All-from_has P es' (λ x has. All-contains P es x each (left x has))

  -- what is seen as of a kept id stays
  seen_stays : (pfs : ℕ) (s : PseudoFileSystem) (t : ℕ) → system_of volume pfs ≡ Some s → Keeps s.retention t → (x : FullElement) → Contains es x
      → pfs_of x.key.localization ≡ pfs → IsSeen t x → Contains es' x
  seen_stays pfs s t found keeps x has here seen = elim (gone kept loses x has) [
    | inl there ↦ there
    | inr may ↦ absurd (by_kept (kept pfs) (within pfs s found) (subst (λ (n : ℕ). IsSomeAnd (kept n) (λ ids. IsDead ids x.key.create x.delete)) here may))
  ] where
    by_kept : (o : Option (List (ℕ × ℕ))) → IfSome o (λ ids. (u : ℕ) → Keeps s.retention u → Keeps ids u ⊎ IsAbove ids u)
        → IsSomeAnd o (λ ids. IsDead ids x.key.create x.delete) → ⊥
    by_kept None all dead = dead
    by_kept (Some ids) all dead = dead_hidden ids t x dead (all t keeps) seen

  module _ (pfs : ℕ) (s : PseudoFileSystem) (t : ℕ) (found : system_of volume pfs ≡ Some s) (keeps : Keeps s.retention t)
      (until : ℕ) (follow : Follows pfs until es) (early : t ≤ until) where
    -- for what is in the PFS the same counts
    same_counts : (subject : Subject) → pfs_of subject.localization ≡ pfs → VersionsFollow subject until es → (bytes : List ℕ)
        → Counts es' t subject bytes ↔ Counts es t subject bytes
    same_counts subject here follows bytes = (
      λ c. (follows_counts subject until t es bytes follows early).1
          (record { element = c.element; there = left c.element c.there; about = c.about; holds = c.holds; seen = c.seen }),
      λ c. (follows_counts subject until t es' bytes (λ old new has has'. follows old new (left old has) (left new has')) early).1
          (record {
            element = c.element;
            there = seen_stays pfs s t found keeps c.element c.there (ap (λ (about : Subject). pfs_of about.localization) c.about ∙ here) c.seen;
            about = c.about;
            holds = c.holds;
            seen = c.seen;
          }),
    )

    versions : (subject : Subject) → IsOf pfs subject → VersionsFollow subject until es
    versions = follows_versions pfs until es follow

    same_inode : (obj : ℕ) (bytes : List ℕ) → Counts es' t (inode_subject pfs obj) bytes ↔ Counts es t (inode_subject pfs obj) bytes
    same_inode obj = same_counts (inode_subject pfs obj) (omega arith) (versions (inode_subject pfs obj) (of_inode obj refl))

    same_bytes : (obj end : ℕ) (bytes : List ℕ) → Counts es' t (bytes_subject pfs obj end) bytes ↔ Counts es t (bytes_subject pfs obj end) bytes
    same_bytes obj end = same_counts (bytes_subject pfs obj end) (omega arith) (versions (bytes_subject pfs obj end) (of_bytes obj end refl))

    same_target : (obj : ℕ) (bytes : List ℕ) → Counts es' t (target_subject pfs obj) bytes ↔ Counts es t (target_subject pfs obj) bytes
    same_target obj = same_counts (target_subject pfs obj) (omega arith) (versions (target_subject pfs obj) (of_target obj refl))

    same_entry : (directory key : ℕ) (bytes : List ℕ)
        → Counts es' t (entry_subject pfs directory key) bytes ↔ Counts es t (entry_subject pfs directory key) bytes
    same_entry directory key =
        same_counts (entry_subject pfs directory key) (omega arith) (versions (entry_subject pfs directory key) (of_entry directory key refl))

    view_left : (tree : FileTree) → IsViewOf es pfs t tree → IsViewOf es' pfs t tree
    view_left tree = view_kept pfs tree (Counts es t) (Counts es' t)
        (λ obj. record { inode = same_inode obj; bytes = same_bytes obj; target = same_target obj })
        (λ directory name key object. (
          λ has. record { ranges = has.ranges; there = (same_entry directory.0 key (entry_bytes (record { obj = object; name = name }))).0 has.there },
          λ has. record { ranges = has.ranges; there = (same_entry directory.0 key (entry_bytes (record { obj = object; name = name }))).1 has.there },
        ))

  -- a record is open, and stays
  record_left : (pfs : ℕ) (bytes : List ℕ) → IsRecordOf es pfs bytes → IsRecordOf es' pfs bytes
  record_left pfs bytes was = record {
    element = was.element;
    there = elim (gone kept loses was.element was.there) [
      | inl there ↦ there
      | inr may ↦ absurd (gone_closed kept was.element may was.unclosed)
    ];
    about = was.about;
    holds = was.holds;
    unclosed = was.unclosed;
    newest = λ other has. was.newest other (left other has);
  }

  -- a PFS has a record that says what the volume does
  abbrev Recorded : List FullElement → PseudoFileSystem → Type 0
  Recorded list s = (r : PfsRecord) × HasRecord list s.number r × IsRecordFor s r

  -- an element is of a PFS of the volume
  abbrev OfSystem : FullElement → Type 0
  OfSystem e = (s : PseudoFileSystem) × (system_of volume (pfs_of e.key.localization) ≡ Some s)

  recorded_left : (s : PseudoFileSystem) → Recorded es s → Recorded es' s
  recorded_left s was = (was.0, record { ranges = was.1.ranges; there = record_left s.number (pfs_bytes was.0) was.1.there }, was.2)

  other_left : (pfs : ℕ) (r : PfsRecord) → HasRecord es' pfs r → (s : PseudoFileSystem) × (system_of volume pfs ≡ Some s)
  other_left pfs r is =
      let e = is.there.element in
      let record_at : pfs_of (record_subject pfs).localization ≡ pfs = omega arith in
      let here : pfs_of e.key.localization ≡ pfs = ap (λ (about : Subject). pfs_of about.localization) is.there.about ∙ record_at in
      subst (λ (n : ℕ). (s : PseudoFileSystem) × (system_of volume n ≡ Some s)) here (All-contains OfSystem es e stand.of_systems (left e is.there.there))

  records_left : HaveRecords es' volume
  records_left = record {
    each = All-from_has (Recorded es') volume.systems
        (λ s has. recorded_left s (All-contains (Recorded es) volume.systems s stand.records.each has));
    no_other = other_left;
  }

  ids_left : (pfs : ℕ) (s : PseudoFileSystem) → HasIds es volume.last pfs s → HasIds es' volume.last pfs s
  ids_left pfs s ids = record {
    master = λ role. let was = ids.master role in record {
      elements = record {
        made = λ e has. was.elements.made e (left e has);
        closed = λ e has. was.elements.closed e (left e has);
      };
      versions = was.versions;
      keeps = was.keeps;
    };
    slave = ids.slave;
  }

  views_left : (pfs : ℕ) (s : PseudoFileSystem) → system_of volume pfs ≡ Some s → HasViews es volume pfs s → HasViews es' volume pfs s
  views_left pfs s found was = record {
    numbered = was.numbered;
    views = λ t early keeps.
        view_left pfs s t found keeps (shown_id volume.last s) was.follows (kept_shown es volume stand pfs s found t early keeps)
        (at volume pfs t) (was.views t early keeps);
    follows = follows_still pfs (shown_id volume.last s) es es' left was.follows;
  }

  unfed_left : (pfs : ℕ) (s : PseudoFileSystem) → IsSourceless es pfs s → IsSourceless es' pfs s
  unfed_left pfs s was = record { unsynced = was.unsynced; alone = λ e has. was.alone e (left e has) }

  pub stand_pruned : StandFor es' volume
  stand_pruned = record {
    keys = λ x y has has'. stand.keys x y (left x has) (left y has');
    fit = record { made = λ x has. stand.fit.made x (left x has); closed = λ x has. stand.fit.closed x (left x has) };
    payloads = left_all IsPayload stand.payloads;
    names = λ e entry has. stand.names e entry (left e has);
    records = records_left;
    drawn = stand.drawn;
    own = stand.own;
    numbers = stand.numbers;
    of_systems = left_all OfSystem stand.of_systems;
    ids = λ pfs s found. ids_left pfs s (stand.ids pfs s found);
    begun = stand.begun;
    views = λ pfs s found clear. views_left pfs s found (stand.views pfs s found clear);
    sourceless = λ pfs s found slave none. unfed_left pfs s (stand.sourceless pfs s found slave none);
  }
