-- Elements stand for a volume still when an id more is drawn and nothing else happens.
use Rattle.std.proofs.Common.{◌≡◌, ℕ, ◌+◌, ◌<◌, ◌≤◌, List, refl, sym, subst, ◌∙◌, inl, inr, arith}
use Rattle.std.specs.Prelude.{◌⊎◌, Some}
use Rattle.std.specs.List.{All, Contains}
use Rattle.std.proofs.lemmas.Bool.{cases_lt}
use Rattle.std.proofs.lemmas.List.Elements.{All-contains, All-weaker, recursion_from_All}
use Rattle.hm_types.specs.Elements.{FullElement}
use Rattle.hm_types.specs.Intervals.{Keeps}
use Rattle.hm_types.specs.Tree.{FileTree, no_tree}
use Rattle.hm_types.specs.declared.limits.TheConstants.{GREATEST_ID}
use Rattle.hm_key.specs.Element.{pfs_of}
use Rattle.hm_model.specs.Volume.{Master, PseudoFileSystem, Role, Slave, Volume, as_of, at, shown_id, system_of}
use Rattle.hm_model.proofs.VersionLemmas.{as_of-later}
use Rattle.hm_records.specs.Follows.{Follows}
use Rattle.hm_records.specs.View.{IsViewOf}
use Rattle.hm_volume.specs.Records.{AreOfSystems}
use Rattle.hm_calls.specs.Known.{AreBelow}
use Rattle.hm_calls.proofs.EffectLemmas.{view_then}
use Rattle.hm_image.specs.StandFor.{AreUpTo, HasIds, HasMasterIds, HasSlaveIds, HasViews, StandFor}
use Rattle.hm_image.proofs.FollowLemmas.{follows_later}
use Rattle.hm_step.specs.Pruned.{StandAfter}
use Rattle.hm_step.specs.Step.{drawn}

-- a master is no slave
pub role_is : (role : Role) → (role ≡ Master) ⊎ (role ≡ Slave)
role_is Master = inl refl
role_is Slave = inr refl

-- as of when a PFS is shown now
pub shown_of_master : (last : ℕ) (s : PseudoFileSystem) → s.role ≡ Master → shown_id last s ≡ last
shown_of_master last s role = rw role refl

pub shown_of_slave : (last : ℕ) (s : PseudoFileSystem) → s.role ≡ Slave → shown_id last s ≡ s.sync_end
shown_of_slave last s role = rw role refl

-- ids that were drawn are drawn still
pub up_to_later : (last later pfs : ℕ) (es : List FullElement) → last ≤ later → AreUpTo last pfs es → AreUpTo later pfs es
up_to_later last later pfs es le up_to = record {
  made = λ e has of_pfs. omega (arith, le, up_to.made e has of_pfs);
  closed = λ e has of_pfs. omega (arith, le, up_to.closed e has of_pfs);
}

pub versions_later : (last later : ℕ) (versions : List (ℕ × FileTree)) → last ≤ later → All (λ v. v.0 ≤ last) versions
    → All (λ v. v.0 ≤ later) versions
versions_later last later versions le all =
    All-weaker (λ (v : ℕ × FileTree). v.0 ≤ last) (λ (v : ℕ × FileTree). v.0 ≤ later) (λ v old. omega (arith, le, old)) versions all

-- the PFS of an element
pub system_at : (es : List FullElement) (volume : Volume) (x : FullElement) → AreOfSystems es volume → Contains es x
    → (s : PseudoFileSystem) × (system_of volume (pfs_of x.key.localization) ≡ Some s)
system_at es volume x all has =
    All-contains (λ (y : FullElement). (s : PseudoFileSystem) × (system_of volume (pfs_of y.key.localization) ≡ Some s)) es x all has

pub slave_later : (last later : ℕ) (s : PseudoFileSystem) → last ≤ later → HasSlaveIds last s → HasSlaveIds later s
slave_later last later s le ids = record {
  drawn = omega (arith, le, ids.drawn);
  keeps = ids.keeps;
  no_later = ids.no_later;
}

module _ (es : List FullElement) (volume : Volume) (stand : StandFor es volume) where
  -- the elements of a master are older than each id that is still to be drawn
  pub older : (pfs : ℕ) (s : PseudoFileSystem) → system_of volume pfs ≡ Some s → s.role ≡ Master → AreBelow pfs (volume.last + 1) es
  older pfs s is role x has of_pfs =
      let ids : HasMasterIds es volume.last pfs s = (stand.ids pfs s is).master role in
      record {
        made = omega (arith, ids.elements.made x has of_pfs);
        closed = omega (arith, ids.elements.closed x has of_pfs);
      }

  -- so what a master shows as of the last id it shows as of each later one
  pub view_later : (pfs : ℕ) (s : PseudoFileSystem) → system_of volume pfs ≡ Some s → s.role ≡ Master → (t : ℕ) → volume.last ≤ t
      → (tree : FileTree) → IsViewOf es pfs volume.last tree → IsViewOf es pfs t tree
  view_later pfs s is role t late tree view =
      view_then pfs (volume.last + 1) es (older pfs s is role) volume.last t (omega arith) (omega (arith, late)) tree view

  -- and so do its versions
  pub tree_later : (pfs : ℕ) (s : PseudoFileSystem) → system_of volume pfs ≡ Some s → s.role ≡ Master → (t : ℕ) → volume.last ≤ t
      → as_of t no_tree s.versions ≡ at volume pfs volume.last
  tree_later pfs s is role t late =
      let ids : HasMasterIds es volume.last pfs s = (stand.ids pfs s is).master role in
      let here : at volume pfs volume.last ≡ as_of volume.last no_tree s.versions = rw is refl in
      as_of-later volume.last t no_tree s.versions (recursion_from_All (λ (v : ℕ × FileTree). v.0 ≤ volume.last) s.versions ids.versions) late
      ∙ sym here

  -- the view of a PFS as of an id up to the next one, which it keeps
  pub view_next : (pfs : ℕ) (s : PseudoFileSystem) → system_of volume pfs ≡ Some s → HasViews es volume pfs s → (t : ℕ)
      → t ≤ volume.last + 1 → Keeps s.retention t → IsViewOf es pfs t (as_of t no_tree s.versions)
  view_next pfs s is has t le keeps = elim (role_is s.role) [
    | inl master ↦ elim (cases_lt volume.last t) [
      | inl later ↦
          let kept : Keeps s.retention volume.last =
          ((stand.ids pfs s is).master master).keeps volume.last (omega arith) (omega (arith, stand.drawn)) in
          let view : IsViewOf es pfs volume.last (at volume pfs volume.last) = has.views volume.last (omega arith) kept in
          subst (λ (tree : FileTree). IsViewOf es pfs t tree) (sym (tree_later pfs s is master t (omega (arith, later))))
          (view_later pfs s is master t (omega (arith, later)) (at volume pfs volume.last) view)
      | inr drawn ↦ before drawn
    ]
    | inr slave ↦
        let ids : HasSlaveIds volume.last s = (stand.ids pfs s is).slave slave in
        before (omega (arith, ids.drawn, ids.no_later t keeps))
  ] where
    here : at volume pfs t ≡ as_of t no_tree s.versions
    here = rw is refl

    before : t ≤ volume.last → IsViewOf es pfs t (as_of t no_tree s.versions)
    before drawn = subst (λ (tree : FileTree). IsViewOf es pfs t tree) here (has.views t drawn keeps)

  -- of the ids up to the last one a PFS keeps none above the one as of which it is shown
  pub kept_shown : (pfs : ℕ) (s : PseudoFileSystem) → system_of volume pfs ≡ Some s → (t : ℕ) → t ≤ volume.last → Keeps s.retention t
      → t ≤ shown_id volume.last s
  kept_shown pfs s is t le keeps = elim (role_is s.role) [
    | inl master ↦ omega (arith, le, shown_of_master volume.last s master)
    | inr slave ↦ omega (arith, ((stand.ids pfs s is).slave slave).no_later t keeps, shown_of_slave volume.last s slave)
  ]

  -- what follows up to the id as of which a PFS is shown does so with the next id drawn: by that a master made nothing more
  pub follows_next : (pfs : ℕ) (s : PseudoFileSystem) → system_of volume pfs ≡ Some s → HasViews es volume pfs s
      → Follows pfs (shown_id (volume.last + 1) s) es
  follows_next pfs s is has = elim (role_is s.role) [
    | inl master ↦
        let made = ((stand.ids pfs s is).master master).elements.made in
        follows_later pfs (shown_id volume.last s) (shown_id (volume.last + 1) s) es
        (λ x there here. omega (arith, made x there here, shown_of_master volume.last s master)) has.follows
    | inr slave ↦
        subst (λ (t : ℕ). Follows pfs t es) (shown_of_slave volume.last s slave ∙ sym (shown_of_slave (volume.last + 1) s slave)) has.follows
  ]

  ids_next : (pfs : ℕ) (s : PseudoFileSystem) → HasIds es volume.last pfs s → HasIds es (volume.last + 1) pfs s
  ids_next pfs s ids = record {
    master = λ role. record {
      elements = up_to_later volume.last (volume.last + 1) pfs es (omega arith) (ids.master role).elements;
      versions = versions_later volume.last (volume.last + 1) s.versions (omega arith) (ids.master role).versions;
      keeps = λ t from to. (ids.master role).keeps t (omega (arith, from)) to;
    };
    slave = λ role. slave_later volume.last (volume.last + 1) s (omega arith) (ids.slave role);
  }

  pub stand_next : volume.last < GREATEST_ID → StandFor es (drawn (volume.last + 1) volume)
  stand_next left = record {
    keys = stand.keys;
    fit = stand.fit;
    payloads = stand.payloads;
    names = stand.names;
    records = record { each = stand.records.each; no_other = stand.records.no_other };
    drawn = omega (arith, left);
    own = stand.own;
    numbers = stand.numbers;
    of_systems = stand.of_systems;
    ids = λ pfs s is. ids_next pfs s (stand.ids pfs s is);
    begun = stand.begun;
    views = λ pfs s is clear.
        let has : HasViews es volume pfs s = stand.views pfs s is clear in
        record {
          numbered = has.numbered;
          views = λ t le keeps.
              subst (λ (tree : FileTree). IsViewOf es pfs t tree) (sym (at_here pfs s is t)) (view_next pfs s is has t le keeps);
          follows = follows_next pfs s is has;
        };
    sourceless = stand.sourceless;
  } where
    at_here : (pfs : ℕ) (s : PseudoFileSystem) → system_of volume pfs ≡ Some s → (t : ℕ)
        → at (drawn (volume.last + 1) volume) pfs t ≡ as_of t no_tree s.versions
    at_here pfs s is t = rw is refl

  pub after_next : volume.last < GREATEST_ID → StandAfter volume es (drawn (volume.last + 1) volume)
  after_next left = record {
    stand = stand_next left;
    jobs = λ kept enough. record { within = enough.within; of_systems = enough.of_systems };
  }
