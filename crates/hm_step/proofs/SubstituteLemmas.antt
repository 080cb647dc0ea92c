-- Elements that stand for a volume make trees to look in where its own are not certain.
use Rattle.std.proofs.Common.{◌≡◌, ℕ, zero, suc, ◌≤◌, Bool, true, false, List, [], ◌∷◌, ◌++◌, cond, refl, sym, ap, subst, ◌∙◌, inl, inr, arith}
use Rattle.std.specs.Prelude.{Option, None, Some, ◌==◌, ◌&&◌, find, if◌then◌else◌, map}
use Rattle.std.specs.List.{All, Contains}
use Rattle.std.proofs.lemmas.Bool.{and_from, and_parts, cases_eq, eq-eqb, eqb-true, false≢true, true≢false}
use Rattle.std.proofs.lemmas.List.Elements.{All-append, All-head, All-map, All-nil, All-tail, Contains-append_left, Contains-append_right}
use Rattle.hm_types.specs.Elements.{FullElement}
use Rattle.hm_types.specs.Tree.{FileTree, no_tree}
use Rattle.hm_key.specs.Versions.{HaveOwnKeys}
use Rattle.hm_model.specs.View.{AsOf, Now, Substitute, When, is_when, own_tree, substituted, view_of}
use Rattle.hm_model.specs.Volume.{Master, PseudoFileSystem, Role, Slave, Volume, system_of}
use Rattle.hm_records.specs.Payload.{IsPayload}
use Rattle.hm_records.specs.View.{IsViewOf}
use Rattle.hm_records.proofs.MemberLemmas.{All-from_has, has_cases, has_head, has_map, has_none, has_tail}
use Rattle.hm_volume.specs.Shown.{IsTreeNow}
use Rattle.hm_volume.specs.Records.{is_master}
use Rattle.hm_image.specs.StandFor.{StandFor}
use Rattle.hm_step.specs.Seen.{AreGiven}
use Rattle.hm_step.proofs.TreeValueLemmas.{tree_for}

-- ---- moments

same_when : (a b : When) → is_when a b ≡ true → a ≡ b
same_when Now Now is = refl
same_when (AsOf t) (AsOf u) is = ap AsOf (eqb-true t u is)
same_when Now (AsOf u) is = absurd (false≢true is)
same_when (AsOf t) Now is = absurd (false≢true is)

is_itself : (when : When) → is_when when when ≡ true
is_itself Now = refl
is_itself (AsOf t) = eq-eqb t t refl

ids_to : ℕ → List When
ids_to zero = AsOf zero ∷ []
ids_to (suc last) = AsOf (suc last) ∷ ids_to last

has_id : (last t : ℕ) → t ≤ last → Contains (ids_to last) (AsOf t)
unfolding ids_to
has_id zero t drawn =
    let first : zero ≡ t = omega (arith, drawn) in
    subst (λ (u : ℕ). Contains (AsOf zero ∷ []) (AsOf u)) first (has_head (AsOf zero) [])
has_id (suc last) t drawn = elim (cases_eq t (suc last)) [
  | inl same ↦ subst (λ (u : ℕ). Contains (AsOf (suc last) ∷ ids_to last) (AsOf u)) (sym same) (has_head (AsOf (suc last)) (ids_to last))
  | inr earlier ↦ has_tail (AsOf (suc last)) (AsOf t) (ids_to last) (has_id last t (omega (arith, drawn, earlier)))
]

-- now, and each id that was drawn
moments : ℕ → List When
moments last = Now ∷ ids_to last

has_now : (last : ℕ) → Contains (moments last) Now
unfolding moments
has_now last = has_head Now (ids_to last)

has_drawn : (last t : ℕ) → t ≤ last → Contains (moments last) (AsOf t)
unfolding moments
has_drawn last t drawn = has_tail Now (AsOf t) (ids_to last) (has_id last t drawn)

-- ---- a tree for each

some_one : (s u : PseudoFileSystem) → Some s ≡ Some u → s ≡ u
some_one s u is = cc

none_some : (s : PseudoFileSystem) → None ≡ Some s → ⊥
none_some s is = cc

no_slave : Master ≡ Slave → ⊥
no_slave is = true≢false (ap is_master is)

module _ (es : List FullElement) (volume : Volume) where
  abbrev IsTreeWhen : ℕ → PseudoFileSystem → When → FileTree → Type 0
  IsTreeWhen pfs s Now tree = IsTreeNow es volume.last pfs s tree
  IsTreeWhen pfs s (AsOf t) tree = IsViewOf es pfs t tree

  -- a tree that may stand for that of a PFS as of when
  abbrev Fits : ℕ → When → FileTree → Type 0
  Fits pfs when tree = (s : PseudoFileSystem) → system_of volume pfs ≡ Some s → IsTreeWhen pfs s when tree

  abbrev FitsOwn : Substitute → Type 0
  FitsOwn x = Fits x.pfs x.when x.tree

  -- what is found among trees that fit does
  module _ (pfs : ℕ) (when : When) (tree : FileTree) where
    fits_moved : (x : Substitute) → ((x.pfs == pfs) && is_when x.when when) ≡ true → FitsOwn x → Fits pfs when x.tree
    fits_moved x is fits =
        let both = and_parts (x.pfs == pfs) (is_when x.when when) is in
        subst (λ (w : When). Fits pfs w x.tree) (same_when x.when when both.1)
        (subst (λ (n : ℕ). Fits n x.when x.tree) (eqb-true x.pfs pfs both.0) fits)

    substituted_fits : (xs : List Substitute) → All FitsOwn xs → (x : Substitute) → Contains xs x → ((x.pfs == pfs) && is_when x.when when) ≡ true
        → Fits pfs when (substituted xs pfs when tree)
    substituted_fits [] fit x has is = absurd (has_none x has)
    substituted_fits (y ∷ ys) fit x has is =
        by_test ((y.pfs == pfs) && is_when y.when when) refl (λ later. substituted_fits ys (All-tail FitsOwn y ys fit) x later is) where
          by_test : (b : Bool) → ((y.pfs == pfs) && is_when y.when when) ≡ b → (Contains ys x → Fits pfs when (substituted ys pfs when tree))
              → Fits pfs when (if b then y.tree else substituted ys pfs when tree)
          by_test true here rest = fits_moved y here (All-head FitsOwn y ys fit)
          by_test false not rest = elim (has_cases y x ys has) [
            | inl first ↦ absurd (false≢true (sym not ∙ ap (λ (z : Substitute). (z.pfs == pfs) && is_when z.when when) (sym first) ∙ is))
            | inr later ↦ rest later
          ]

  module _ (own : HaveOwnKeys es) (payloads : All IsPayload es) where
    now_of : (pfs : ℕ) (s : PseudoFileSystem) → (tree : FileTree) × IsTreeNow es volume.last pfs s tree
    now_of pfs s = by_role s.role refl where
      by_role : (role : Role) → s.role ≡ role → (tree : FileTree) × IsTreeNow es volume.last pfs s tree
      by_role Master is =
          let (tree, view) = tree_for es own payloads pfs volume.last in (
            tree,
            record {
              master = λ master. view;
              slave = λ slave synced. absurd (no_slave (sym is ∙ slave));
              unsynced = λ slave none. absurd (no_slave (sym is ∙ slave));
            },
          )
      by_role Slave is = elim (cases_eq s.sync_end 0) [
        | inl none ↦ (
          no_tree,
          record {
            master = λ master. absurd (no_slave (sym master ∙ is));
            slave = λ slave synced. absurd (omega (arith, synced, none));
            unsynced = λ slave never. refl;
          },
        )
        | inr synced ↦
            let (tree, view) = tree_for es own payloads pfs s.sync_end in (
              tree,
              record {
                master = λ master. absurd (no_slave (sym master ∙ is));
                slave = λ slave later. view;
                unsynced = λ slave none. absurd (synced none);
              },
            )
      ]

    tree_at : (pfs : ℕ) (when : When) → (tree : FileTree) × Fits pfs when tree
    tree_at pfs (AsOf t) = let (tree, view) = tree_for es own payloads pfs t in (tree, λ s found. view)
    tree_at pfs Now = by_system (system_of volume pfs) refl where
      by_system : (o : Option PseudoFileSystem) → system_of volume pfs ≡ o → (tree : FileTree) × Fits pfs Now tree
      by_system None is = (no_tree, λ s found. absurd (none_some s (sym is ∙ found)))
      by_system (Some s) is =
          let (tree, now) = now_of pfs s in
          (tree, λ u found. subst (λ (z : PseudoFileSystem). IsTreeNow es volume.last pfs z tree) (some_one s u (sym is ∙ found)) now)

    -- ---- the trees of all

    made : ℕ → When → Substitute
    made pfs when = record { pfs = pfs; when = when; tree = (tree_at pfs when).0 }

    made_of : List PseudoFileSystem → List Substitute
    made_of [] = []
    made_of (s ∷ ss) = map (made s.number) (moments volume.last) ++ made_of ss

    all_fit : (systems : List PseudoFileSystem) → All FitsOwn (made_of systems)
    unfolding made_of made
    all_fit [] = All-nil FitsOwn
    all_fit (s ∷ ss) =
        All-append FitsOwn (map (made s.number) (moments volume.last)) (made_of ss)
        (All-map FitsOwn (made s.number) (moments volume.last)
        (All-from_has (λ (when : When). FitsOwn (made s.number when)) (moments volume.last) (λ when has. (tree_at s.number when).1)))
        (all_fit ss)

    -- the one of a PFS as of when
    has_made : (pfs : ℕ) (when : When) → Contains (moments volume.last) when → (systems : List PseudoFileSystem) (s : PseudoFileSystem)
        → find (λ (u : PseudoFileSystem). u.number == pfs) systems ≡ Some s → Contains (made_of systems) (made pfs when)
    unfolding made_of
    has_made pfs when has [] s found = absurd (none_some s found)
    has_made pfs when has (u ∷ us) s found = by_test (u.number == pfs) refl found (has_made pfs when has us s) where
      by_test : (b : Bool) → (u.number == pfs) ≡ b → cond b (Some u) (find (λ (v : PseudoFileSystem). v.number == pfs) us) ≡ Some s
          → (find (λ (v : PseudoFileSystem). v.number == pfs) us ≡ Some s → Contains (made_of us) (made pfs when))
          → Contains (map (made u.number) (moments volume.last) ++ made_of us) (made pfs when)
      by_test true is here rest =
          subst (λ (n : ℕ). Contains (map (made u.number) (moments volume.last) ++ made_of us) (made n when)) (eqb-true u.number pfs is)
          (Contains-append_left (map (made u.number) (moments volume.last)) (made_of us) (made u.number when)
          (has_map (made u.number) (moments volume.last) when has))
      by_test false is here rest = Contains-append_right (map (made u.number) (moments volume.last)) (made_of us) (made pfs when) (rest here)

    module _ (pfs : ℕ) (s : PseudoFileSystem) (is : system_of volume pfs ≡ Some s) (unclear : s.clear ≡ false) where
      view_is : (when : When) → view_of volume (made_of volume.systems) pfs when
          ≡ substituted (made_of volume.systems) pfs when (own_tree volume pfs when)
      view_is when = rw (is, unclear) refl

      view_fits : (when : When) → Contains (moments volume.last) when → IsTreeWhen pfs s when (view_of volume (made_of volume.systems) pfs when)
      unfolding made
      view_fits when has =
          subst (λ (tree : FileTree). IsTreeWhen pfs s when tree) (sym (view_is when))
          (substituted_fits pfs when (own_tree volume pfs when) (made_of volume.systems) (all_fit volume.systems) (made pfs when)
          (has_made pfs when has volume.systems s is) (and_from (pfs == pfs) (is_when when when) (eq-eqb pfs pfs refl) (is_itself when)) s is)

    are_given : AreGiven es volume (made_of volume.systems)
    are_given pfs s is unclear = record {
      now = view_fits pfs s is unclear Now (has_now volume.last);
      kept = λ t keeps drawn. view_fits pfs s is unclear (AsOf t) (has_drawn volume.last t drawn);
    }

pub trees_given : (es : List FullElement) (volume : Volume) → StandFor es volume → (substitutes : List Substitute) × AreGiven es volume substitutes
trees_given es volume stand = (made_of es volume stand.keys stand.payloads volume.systems, are_given es volume stand.keys stand.payloads)
