-- Versions that follow one another: what counts is what is seen, and what is not seen is not missed.
use Rattle.std.proofs.Common.{◌≡◌, ◌∙◌, ℕ, ◌≤◌, List, sym, inl, inr, arith}
use Rattle.std.specs.Prelude.{◌↔◌, ◌⊎◌}
use Rattle.std.specs.List.{Contains}
use Rattle.std.proofs.lemmas.Bool.{cases_lt}
use Rattle.hm_types.specs.Elements.{FullElement}
use Rattle.hm_types.specs.Intervals.{Keeps}
use Rattle.hm_types.specs.Tree.{FileTree}
use Rattle.hm_key.specs.Counts.{Counts, IsSeen, Subject, bytes_subject, entry_subject, inode_subject, subject_of, target_subject}
use Rattle.hm_key.specs.Versions.{HaveOwnKeys}
use Rattle.hm_records.specs.Entry.{entry_bytes}
use Rattle.hm_records.specs.Follows.{Follows, IsAbove, IsSeenWith, LosesDead, LosesUnseen, VersionsFollow, of_bytes, of_entry, of_inode, of_target}
use Rattle.hm_records.specs.View.{IsViewOf}
use Rattle.hm_records.proofs.ChangeLemmas.{not_closed}
use Rattle.hm_records.proofs.CountsLemmas.{same_key}
use Rattle.hm_records.proofs.MeetLemmas.{follows_versions}
use Rattle.hm_records.proofs.ViewLemmas.{view_kept}

-- what is seen is the newest that was made by then
seen_newest : (s : Subject) (t u : ℕ) (es : List FullElement) (e : FullElement) → VersionsFollow s t es → u ≤ t → Contains es e → subject_of e.key ≡ s
    → IsSeen u e → (other : FullElement) → Contains es other → subject_of other.key ≡ s → other.key.create ≤ u → other.key.create ≤ e.key.create
seen_newest s t u es e follow within has about seen other has' about' made = elim (cases_lt e.key.create other.key.create) [
  | inl later ↦ absurd (not_closed u other.key.create e made seen (follow e other has has' about about' later (omega (arith, made, within))))
  | inr from ↦ from
]

pub follows_counts : (s : Subject) (t u : ℕ) (es : List FullElement) (bytes : List ℕ) → VersionsFollow s t es → u ≤ t
    → Counts es u s bytes ↔ IsSeenWith es u s bytes
follows_counts s t u es bytes follow within = (
  λ c. record { element = c.element; there = c.there; about = c.about; holds = c.holds; seen = c.seen },
  λ h. record {
    element = h.element;
    there = h.there;
    about = h.about;
    holds = h.holds;
    seen = h.seen;
    newest = seen_newest s t u es h.element follow within h.there h.about h.seen;
  },
)

pub seen_once : (s : Subject) (t u : ℕ) (es : List FullElement) (x y : FullElement) → HaveOwnKeys es → VersionsFollow s t es → u ≤ t
    → Contains es x → Contains es y → subject_of x.key ≡ s → subject_of y.key ≡ s → IsSeen u x → IsSeen u y → x ≡ y
seen_once s t u es x y own follow within has has' about about' seen seen' =
    let below = seen_newest s t u es x follow within has about seen y has' about' seen'.0 in
    let above = seen_newest s t u es y follow within has' about' seen' x has about seen.0 in
    own x y has has' (same_key x.key y.key (about ∙ sym about') (omega (arith, below, above)))

pub follows_still : (pfs t : ℕ) (es es' : List FullElement) → ((x : FullElement) → Contains es' x → Contains es x) → Follows pfs t es → Follows pfs t es'
follows_still pfs t es es' kept follow = record {
  closed = λ old new has has'. follow.closed old new (kept old has) (kept new has');
  one = λ a b has has'. follow.one a b (kept a has) (kept b has');
}

module _ (pfs t u : ℕ) (es es' : List FullElement) (loses : LosesUnseen u es es') (follow : Follows pfs t es) (within : u ≤ t) where
  -- for what follows the same counts
  same_counts : (s : Subject) → VersionsFollow s t es → (bytes : List ℕ) → Counts es' u s bytes ↔ Counts es u s bytes
  same_counts s follows bytes = (
    λ c. (follows_counts s t u es bytes follows within).1
        (record { element = c.element; there = loses.fewer c.element c.there; about = c.about; holds = c.holds; seen = c.seen }),
    λ c. (follows_counts s t u es' bytes (λ old new has has'. follows old new (loses.fewer old has) (loses.fewer new has')) within).1
        (record { element = c.element; there = loses.stays c.element c.there c.seen; about = c.about; holds = c.holds; seen = c.seen }),
  )

  same_inode : (obj : ℕ) (bytes : List ℕ) → Counts es' u (inode_subject pfs obj) bytes ↔ Counts es u (inode_subject pfs obj) bytes
  same_inode obj =
      same_counts (inode_subject pfs obj) (follows_versions pfs t es follow (inode_subject pfs obj) (of_inode obj (λ i. inode_subject pfs obj)))

  same_bytes : (obj end : ℕ) (bytes : List ℕ) → Counts es' u (bytes_subject pfs obj end) bytes ↔ Counts es u (bytes_subject pfs obj end) bytes
  same_bytes obj end =
      same_counts (bytes_subject pfs obj end) (follows_versions pfs t es follow (bytes_subject pfs obj end) (of_bytes obj end (λ i. bytes_subject pfs obj end)))

  same_target : (obj : ℕ) (bytes : List ℕ) → Counts es' u (target_subject pfs obj) bytes ↔ Counts es u (target_subject pfs obj) bytes
  same_target obj =
      same_counts (target_subject pfs obj) (follows_versions pfs t es follow (target_subject pfs obj) (of_target obj (λ i. target_subject pfs obj)))

  same_entry : (directory key : ℕ) (bytes : List ℕ) → Counts es' u (entry_subject pfs directory key) bytes ↔ Counts es u (entry_subject pfs directory key) bytes
  same_entry directory key =
      same_counts (entry_subject pfs directory key)
      (follows_versions pfs t es follow (entry_subject pfs directory key) (of_entry directory key (λ i. entry_subject pfs directory key)))

  unseen_on : (tree : FileTree) → IsViewOf es pfs u tree → IsViewOf es' pfs u tree
  unseen_on tree = view_kept pfs tree (Counts es u) (Counts es' u)
      (λ obj. record { inode = same_inode obj; bytes = same_bytes obj; target = same_target obj })
      (λ directory name key object. (
        λ has. record { ranges = has.ranges; there = (same_entry directory.0 key (entry_bytes (record { obj = object; name = name }))).0 has.there },
        λ has. record { ranges = has.ranges; there = (same_entry directory.0 key (entry_bytes (record { obj = object; name = name }))).1 has.there },
      ))

  unseen_back : (tree : FileTree) → IsViewOf es' pfs u tree → IsViewOf es pfs u tree
  unseen_back tree = view_kept pfs tree (Counts es' u) (Counts es u)
      (λ obj. record {
        inode = λ bytes. ((same_inode obj bytes).1, (same_inode obj bytes).0);
        bytes = λ end bytes. ((same_bytes obj end bytes).1, (same_bytes obj end bytes).0);
        target = λ bytes. ((same_target obj bytes).1, (same_target obj bytes).0);
      })
      (λ directory name key object. (
        λ has. record { ranges = has.ranges; there = (same_entry directory.0 key (entry_bytes (record { obj = object; name = name }))).1 has.there },
        λ has. record { ranges = has.ranges; there = (same_entry directory.0 key (entry_bytes (record { obj = object; name = name }))).0 has.there },
      ))

pub unseen_view : (pfs t u : ℕ) (es es' : List FullElement) (tree : FileTree) → LosesUnseen u es es' → Follows pfs t es → u ≤ t
    → IsViewOf es' pfs u tree ↔ IsViewOf es pfs u tree
unseen_view pfs t u es es' tree loses follow within =
    (unseen_back pfs t u es es' loses follow within tree, unseen_on pfs t u es es' loses follow within tree)

-- what is dead is seen neither as of a kept id nor as of one above all of these
pub dead_unseen : (kept : List (ℕ × ℕ)) (u : ℕ) (es es' : List FullElement) → LosesDead kept es es' → Keeps kept u ⊎ IsAbove kept u → LosesUnseen u es es'
dead_unseen kept u es es' loses when = record {
  fewer = loses.fewer;
  stays = λ x has seen. elim (loses.gone x has) [
    | inl there ↦ there
    | inr dead ↦ elim when [
      | inl keeps ↦ absurd (dead.unseen u keeps seen)
      | inr above ↦ absurd (dead.unseen dead.reached.0 dead.reached.1 (
        dead.reached.2,
        elim seen.1 [
          | inl open' ↦ inl open'
          | inr later ↦ inr (let up = above dead.reached.0 dead.reached.1 in omega (arith, up, later))
        ],
      ))
    ]
  ];
}
