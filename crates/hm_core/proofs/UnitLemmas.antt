-- A unit of a job over a store of a space, from one moment without an open call to another.
use Rattle.std.proofs.Common.{◌≡◌, ℕ, ◌+◌, ◌*◌, ◌/◌, ◌≤◌, Bool, true, false, List, [], Option, None, Some, inl, inr, is_some, true≢false}
use Rattle.std.proofs.Common.{nat_eq, eqb-true, refl, sym, ap, subst, ◌∙◌, arith, cond}
use Rattle.std.specs.Prelude.{◌&&◌, ◌⊎◌, Err, IfErr, IfSome, IsSomeAnd, Ok, Result}
use Rattle.std.specs.List.{Contains}
use Rattle.std.proofs.lemmas.Bool.{eq-eqb}
use Rattle.hm_types.specs.Elements.{FullElement, IsDead}
use Rattle.hm_types.specs.Faults.{HasAdmitCause, HasStoreCause}
use Rattle.hm_types.specs.Space.{IfNoSpace}
use Rattle.hm_types.specs.declared.fault.Fault.{Fault}
use Rattle.hm_types.specs.declared.fault.SpaceFault.{SpaceFault}
use Rattle.hm_types.specs.declared.fault.SpaceFault.TheVariants.{Fault as of_store, NoSpace}
use Rattle.hm_fields.specs.Pages.{PageMap}
use Rattle.hm_btree.specs.Calls.Choice.{FindsNode}
use Rattle.hm_btree.specs.Calls.Move.{Exchanges}
use Rattle.hm_btree.specs.Tree.{HoldsTree, told_elements}
use Rattle.hm_key.specs.Balance.{IsBalanced, LosesDead, Works, content_of, full_of}
use Rattle.hm_key.specs.Element.{pfs_of}
use Rattle.hm_key.specs.Extents.{Extent}
use Rattle.hm_key.specs.Key.{IsWide}
use Rattle.hm_key.specs.Job.{ComesFurther, HasMoreCause, HasTouched, IfProgress, Place}
use Rattle.hm_key.specs.declared.element.Element.{Element}
use Rattle.hm_key.specs.declared.job.Progress.{Progress}
use Rattle.hm_key.specs.declared.job.Progress.TheVariants.{Done, More}
use Rattle.hm_cursor.specs.Told.{Lists, fulls}
use Rattle.hm_model.specs.After.{Event, State}
use Rattle.hm_model.specs.Caused.{Counts, known_after, known_at}
use Rattle.hm_model.specs.Foreign.{Foreigners}
use Rattle.hm_model.specs.Volume.{Volume}
use Rattle.hm_model.specs.declared.entry.Entry.{Entry}
use Rattle.hm_prune.specs.Dead.{NoneDead, keeps_in}
use Rattle.hm_reblock.specs.Choice.{NoneChosen, SomeChosen, SomeChosenIn}
use Rattle.hm_relocate.specs.Unit.{HasChosenNode, HasGotOn, IsToMove, LacksForOne, MovesChosenNode, TurnsToNodes, Way}
use Rattle.hm_records.proofs.MemberLemmas.{map_has}
use Rattle.hm_step.specs.Pruned.{KeepsWithin}
use Rattle.hm_step.proofs.PrunedLemmas.{stand_pruned}
use Rattle.hm_stored.specs.Basis.{nodes}
use Rattle.hm_stored.specs.Content.{KeepsContent}
use Rattle.hm_stored.specs.Heap.{Frame, Heap, begun_content, does_tell, extents_in, frame_of, free_of, pages_of, room_of}
use Rattle.hm_stored.specs.Held.{IsKept}
use Rattle.hm_stored.specs.Standing.{Holds}
use Rattle.hm_stored.specs.Turn.{IsClosed, IsDropped, IsKeptOf, IsOpened}
use Rattle.hm_state.specs.Volume.{HoldsVolume}
use Rattle.hm_core.specs.Counts.{with_disk}
use Rattle.hm_core.specs.History.{IsLegalOver, setting_of}
use Rattle.hm_core.specs.Ledger.{IsPaid}
use Rattle.hm_core.specs.Open.{AreOpen, IsOpenIn, ids_kept_by}
use Rattle.hm_core.specs.State.{OpenJob, job_with}
use Rattle.hm_core.specs.Told.{ArePages}
use Rattle.hm_core.specs.Unit.{ClearsChoice, MayMoveFrom, IfMoreGetsOn, IfMoreMovesOn, KeepsPaid, LacksForChoice, LeavesNoneDead, NoneDeadIn}
use Rattle.hm_core.specs.Unit.{TakesNodeOut, TouchesElements, UnitLeaves, tree_elements}
use Rattle.hm_core.proofs.CountLemmas.{disk_later, later_still, legal_later}
use Rattle.hm_core.proofs.FitLemmas.{held_wide}
use Rattle.hm_core.proofs.LackLemmas.{lacks_one}
use Rattle.hm_core.proofs.OpenLemmas.{held_once, kept_holds}
use Rattle.hm_core.proofs.RunningLemmas.{found_has}
use Rattle.hm_core.proofs.TurnLemmas.{dropped_closed, dropped_flush, dropped_held, dropped_live, dropped_paid, dropped_size, free_begun}
use Rattle.hm_core.proofs.TurnLemmas.{kept_closed, kept_flush, kept_live, kept_paid, kept_size, room_begun, tells_begun}

-- where no room of a zone and no free big-block went, what was begun is paid for
paid_more : (first calls free free' : ℕ) (room room' : ℕ → ℕ) → free ≤ free' → ((zone : ℕ) → room zone ≤ room' zone)
    → IsPaid first free calls room → IsPaid first free' calls room'
paid_more first calls free free' room room' less most paid = record {
  begun = paid.begun;
  filled = λ zone. by (nat_eq zone 8) (paid.begun zone) (room zone) (room' zone) (most zone) (paid.filled zone);
  paid = (let was = paid.paid in omega (arith, was, less));
} where
  by : (tree : Bool) (begun old new : ℕ) → old ≤ new → begun * (8388608 / cond tree 1048576 131072) ≤ calls + old / cond tree 1048576 131072
      → begun * (8388608 / cond tree 1048576 131072) ≤ calls + new / cond tree 1048576 131072
  by true begun old new grows was = omega (arith, grows, was)
  by false begun old new grows was = omega (arith, grows, was)

-- ids that are kept in one PFS tell which one it is
pub same_kept : (pfs pfs' : ℕ) (kept kept' : List (ℕ × ℕ)) → keeps_in pfs' kept' ≡ keeps_in pfs kept → (pfs' ≡ pfs) × (kept' ≡ kept)
same_kept pfs pfs' kept kept' same =
    by (nat_eq pfs pfs') refl (ap (λ (f : ℕ → Option (List (ℕ × ℕ))). f pfs) same ∙ ap (λ (t : Bool). cond t (Some kept) None) (eq-eqb pfs pfs refl)) where
      by : (here : Bool) → nat_eq pfs pfs' ≡ here → cond here (Some kept') None ≡ Some kept → (pfs' ≡ pfs) × (kept' ≡ kept)
      by true is told = (let one : kept' ≡ kept = cc in (sym (eqb-true pfs pfs' is), one))
      by false is told = absurd cc

-- what holds after a unit that came to the end of its job
pub progress_done : (Goes Ends : Type 0) (progress : Progress) → progress ≡ Done → IfProgress Goes Ends progress → Ends
progress_done Goes Ends More is held = absurd cc
progress_done Goes Ends Done is held = held

-- what is so for the one is so for the other
pub none_dead_for : (pfs pfs' : ℕ) (kept kept' : List (ℕ × ℕ)) → (pfs' ≡ pfs) × (kept' ≡ kept) → (es : Option (List Element))
    → IfSome es (NoneDead pfs' kept') → IfSome es (NoneDead pfs kept)
none_dead_for pfs pfs' kept kept' same es =
    subst (λ (x : ℕ × List (ℕ × ℕ)). IfSome es (NoneDead pfs' kept') → IfSome es (NoneDead x.0 x.1)) (λ i. (same.0 i, same.1 i)) (λ none. none)

-- a cause in a part of a unit over which a count was the same at both ends
pub store_caused : {A T : Type 0} (told : Option A) (n n' m m' : ℕ) (result : Result T Fault) → n ≡ m → m' ≡ n'
    → HasStoreCause told n n' result → HasStoreCause told m m' result
store_caused told n n' m m' result begin end cause =
    subst (λ (k : ℕ). HasStoreCause told k m' result) begin (subst (λ (k : ℕ). HasStoreCause told n k result) (sym end) cause)

-- the same of one that takes space
pub admit_caused : {A T : Type 0} (told : Option A) (n n' m m' : ℕ) (result : Result T SpaceFault) → n ≡ m → m' ≡ n'
    → HasAdmitCause told n n' result → HasAdmitCause told m m' result
admit_caused told n n' m m' result begin end cause =
    subst (λ (k : ℕ). HasAdmitCause told k m' result) begin (subst (λ (k : ℕ). HasAdmitCause told n k result) (sym end) cause)

-- ---- what a unit did where there is more to do

and_more : {A : Type 0} {P Q : A → Type 0} (o : Option A) → ((x : A) → P x → Q x) → IsSomeAnd o P → IsSomeAnd o Q
and_more None step is = absurd is
and_more (Some x) step is = step x is

touched_alone : (P : List Element → Type 0) (o : Option (List Element)) → IsSomeAnd o (λ es. Unit {0} × P es) → IsSomeAnd o P
touched_alone P None is = absurd is
touched_alone P (Some es) is = is.1

if_more : {A : Type 0} {P Q : A → Type 0} (o : Option A) → ((x : A) → P x → Q x) → IfSome o P → IfSome o Q
if_more None step is = tt
if_more (Some x) step is = step x is

-- a space that tells its elements and extents tells its nodes
pub does_tell_lists : (h : Heap) (root : ℕ) (P : Lists → Type 0) → IsSomeAnd (content_of (told_elements true (pages_of h) root) (extents_in h)) P
    → does_tell h ≡ true
does_tell_lists h root P = by (does_tell h) refl where
  by : (t : Bool) → does_tell h ≡ t → IsSomeAnd (content_of (told_elements true (cond t (Some (nodes h.pages.current)) None) root) (extents_in h)) P
      → does_tell h ≡ true
  by true same is = same
  by false same is = absurd is

pages_told : (h : Heap) → does_tell h ≡ true → pages_of h ≡ Some (nodes h.pages.current)
pages_told h tells = ap (λ (t : Bool). cond t (Some (nodes h.pages.current)) None) tells

-- and so it does where none of its changes failed, and what it began with is the same
pub tells_still : (old new : Heap) → new.whole ≡ true → begun_content new ≡ begun_content old → does_tell old ≡ true → does_tell new ≡ true
tells_still old new whole same tells =
    ap (λ (t : Bool). t && is_some (begun_content new)) whole
    ∙ (ap (λ (o : Option (List FullElement)). is_some o) same ∙ right old.whole (is_some (begun_content old)) tells) where
      right : (a b : Bool) → (a && b) ≡ true → b ≡ true
      right true b is = is
      right false b is = absurd (true≢false (sym is))

-- what a store tells are the elements of its pages
told_from : (h : Heap) (root : ℕ) (P : List Element → Type 0) → IsSomeAnd (told_elements true (pages_of h) root) P
    → IsSomeAnd (tree_elements h root) P
told_from h root P = by (does_tell h) where
  by : (t : Bool) → IsSomeAnd (told_elements true (cond t (Some (nodes h.pages.current)) None) root) P → IsSomeAnd (tree_elements h root) P
  by true is = is
  by false is = absurd is

-- a store that tells its content tells its elements
content_some : (es : Option (List Element)) (xs : Option (List Extent)) (Q : Lists → Type 0) (P : List Element → Type 0) → IsSomeAnd (content_of es xs) Q
    → IfSome es P → IsSomeAnd es P
content_some None xs Q P told is = absurd told
content_some (Some es) xs Q P told is = is

-- two spaces with the same pages have the same elements
same_elements : (a b : Heap) (root root' : ℕ) → b.pages.current ≡ a.pages.current → root' ≡ root → tree_elements b root' ≡ tree_elements a root
same_elements a b root root' current same = λ i. told_elements true (Some (nodes (current i))) (same i)

module _ (ids : ℕ → Option (List (ℕ × ℕ))) (h h1 h2 h' : Heap) (root root1 root2 root' last faults faults' : ℕ) (closed : IsClosed h)
    (kept : ∥ IsKept h ∥₁) (opens : IsOpened root last h h1) (same : root1 ≡ root) (frame : frame_of h2 ≡ frame_of h1) (counted : faults ≤ faults') where
  abbrev lists : Heap → ℕ → Option Lists
  lists heap at = content_of (told_elements true (pages_of heap) at) (extents_in heap)

  -- what is told of the elements in the open call is so of the tree of the space before it
  tells_before : (P : List Element → Type 0) (volume : Volume) → HoldsVolume h root last volume → IfSome (told_elements true (pages_of h1) root1) P
      → IsSomeAnd (tree_elements h root) P
  tells_before P volume holds told =
      subst (λ (es : Option (List Element)). IsSomeAnd es P) (same_elements h h1 root root1 opens.pages.current same)
      (told_from h1 root1 P (content_some (told_elements true (pages_of h1) root1) (extents_in h1) _ P
      (tells_begun h h1 root root1 last closed kept opens same volume holds holds.elements.0 holds.elements.1) told))

  -- the store tells the nodes of the space before it
  pages_begun : (volume : Volume) → HoldsVolume h root last volume → pages_of h1 ≡ Some (nodes h.pages.current)
  pages_begun volume holds =
      let told = tells_begun h h1 root root1 last closed kept opens same volume holds holds.elements.0 holds.elements.1 in
      pages_told h1 (does_tell_lists h1 root1 _ told) ∙ ap (λ (m : PageMap). Some (nodes m)) opens.pages.current

  -- it was kept
  module _ (whole : h2.whole ≡ true) (keeps : IsKeptOf h2 h') (content : KeepsContent h2 h') (root_is : root' ≡ root2) (pages : ArePages h')
      (tree : HoldsTree (pages_of h2) root2)
      (works : IfSome (lists h1 root1) (λ was. IsBalanced was.0 was.1 → IsSomeAnd (lists h2 root2) (Works ids was))) where
    volume_kept : (volume : Volume) → KeepsWithin ids volume → HoldsVolume h root last volume → HoldsVolume h' root' last volume
    volume_kept volume within holds =
        by_old (lists h1 root1) (tells_begun h h1 root root1 last closed kept opens same volume holds holds.elements.0 holds.elements.1) works where
          by_new : (was : Lists) → fulls was ≡ holds.elements.0 → (o : Option Lists) → lists h2 root2 ≡ o → IsSomeAnd o (Works ids was)
              → HoldsVolume h' root' last volume
          by_new was full None told did = absurd did
          by_new was full (Some now) told did =
              let there = kept_holds h2 h' root2 pages content tree now told did.balanced in
              record {
                bigblocks = kept_size h h1 h2 h' root last closed kept opens frame whole keeps ∙ holds.bigblocks;
                last_is = holds.last_is;
                elements = (
                  fulls now,
                  subst (λ (n : ℕ). Holds h' n (fulls now)) (sym root_is) there.holds,
                  stand_pruned ids holds.elements.0 (fulls now) volume holds.elements.2
                      (subst (λ (es : List FullElement). LosesDead ids es (fulls now)) full did.elements) within,
                );
              }

          by_old : (o : Option Lists) → IsSomeAnd o (λ was. IsBalanced was.0 was.1 × (fulls was ≡ holds.elements.0))
              → IfSome o (λ was. IsBalanced was.0 was.1 → IsSomeAnd (lists h2 root2) (Works ids was)) → HoldsVolume h' root' last volume
          by_old None told did = absurd told
          by_old (Some was) told did = by_new was told.1 (lists h2 root2) refl (did told.0)

    -- where the store had no dead element, none is left
    module _ (pfs : ℕ) (dead_for : List (ℕ × ℕ)) (ends : IfSome (told_elements true (pages_of h2) root2) (NoneDead pfs dead_for)) where
      none_full : (now : Lists) → NoneDead pfs dead_for now.0 → ((x : FullElement) → Contains (fulls now) x → IsWide x.key)
          → NoneDeadIn pfs dead_for (fulls now)
      none_full now none wide e there here dead =
          let (x, has, is) = map_has (full_of now.1) now.0 e there in
          none x has (subst (λ (y : FullElement). IsWide y.key) (sym is) (wide e there)) (record {
            here = ap (λ (y : FullElement). pfs_of y.key.localization) is ∙ here;
            dead = subst (λ (y : FullElement). IsDead dead_for y.key.create y.delete) (sym is) dead;
          })

      pub kept_ends : LeavesNoneDead pfs dead_for last h h' root root'
      kept_ends volume holds es held =
          by_old (lists h1 root1) (tells_begun h h1 root root1 last closed kept opens same volume holds holds.elements.0 holds.elements.1) works where
            by_new : (o : Option (List Element)) (xs : Option (List Extent)) → told_elements true (pages_of h2) root2 ≡ o → extents_in h2 ≡ xs
                → IfSome o (NoneDead pfs dead_for) → (was : Lists) → IsSomeAnd (content_of o xs) (Works ids was) → NoneDeadIn pfs dead_for es
            by_new None xs told telling none was did = absurd did
            by_new (Some now) None told telling none was did = absurd did
            by_new (Some now) (Some extents) told telling none was did =
                let there = kept_holds h2 h' root2 pages content tree (now, extents) (rw (told, telling) refl) did.balanced in
                let holds_now = subst (λ (n : ℕ). Holds h' n (fulls (now, extents))) (sym root_is) there.holds in
                subst (NoneDeadIn pfs dead_for) (held_once h' root' (fulls (now, extents)) es holds_now held)
                (none_full (now, extents) none (held_wide h' root' pages (fulls (now, extents)) holds_now))

            by_old : (o : Option Lists) → IsSomeAnd o (λ was. IsBalanced was.0 was.1 × (fulls was ≡ holds.elements.0))
                → IfSome o (λ was. IsBalanced was.0 was.1 → IsSomeAnd (lists h2 root2) (Works ids was)) → NoneDeadIn pfs dead_for es
            by_old None told did = absurd told
            by_old (Some was) told did = by_new (told_elements true (pages_of h2) root2) (extents_in h2) refl refl ends was (did told.0)

    -- what is told of two contents in the open call is so of the trees of the space before it and after it
    tells_both : (A : List Element → Type 0) (B : List Element → List Element → Type 0) (volume : Volume) → HoldsVolume h root last volume
        → IfSome (told_elements true (pages_of h1) root1) (λ was. A was × IsSomeAnd (told_elements true (pages_of h2) root2) (B was))
        → IsSomeAnd (tree_elements h root) (λ was. A was × IsSomeAnd (tree_elements h' root') (B was))
    tells_both A B volume holds told =
        and_more {P = λ was. A was × IsSomeAnd (told_elements true (pages_of h2) root2) (B was)}
        {Q = λ was. A was × IsSomeAnd (tree_elements h' root') (B was)} (tree_elements h root) (λ was both. (
          both.0,
          subst (λ (es : Option (List Element)). IsSomeAnd es (B was)) (sym (same_elements h2 h' root2 root' keeps.pages.current root_is))
              (told_from h2 root2 (B was) both.1),
        ))
        (tells_before (λ was. A was × IsSomeAnd (told_elements true (pages_of h2) root2) (B was)) volume holds told)

    -- a node that moved in the open call moved in the space
    node_out : (choice : List ℕ) (volume : Volume) → HoldsVolume h root last volume → MovesChosenNode choice h1 h2 → TakesNodeOut choice h h'
    node_out choice volume holds node =
        let tells =
        does_tell_lists h1 root1 _ (tells_begun h h1 root root1 last closed kept opens same volume holds holds.elements.0 holds.elements.1) in
        let first : pages_of h1 ≡ Some (nodes h.pages.current) = pages_begun volume holds in
        let second : pages_of h2 ≡ Some (nodes h'.pages.current) =
        pages_told h2 (tells_still h1 h2 whole (ap (λ (f : Frame). f.content) frame) tells)
        ∙ ap (λ (m : PageMap). Some (nodes m)) (sym keeps.pages.current) in
        record {
          at = node.at;
          to = node.to;
          lies = subst (λ (o : Option PageMap). IfSome o (λ map. FindsNode choice map (Some node.at))) first node.lies;
          moves = subst (λ (x : Option PageMap × Option PageMap). IfSome x.0 (λ was. IfSome x.1 (Exchanges node.at node.to was)))
              (λ i. (first i, second i)) node.moves;
        }

    -- where there is more to do, a reblock got on
    pub moves_on : (from to : Way) (was now : List ℕ) (progress : Progress)
        → IfProgress (HasGotOn from to was now h1 h2 root1 root2) (now ≡ []) progress
        → IfMoreMovesOn from to was now last h h' root root' progress
    moves_on from to was now Done goes = tt
    moves_on from to was now More goes = λ volume holds. by volume holds goes where
      by : (volume : Volume) → HoldsVolume h root last volume → HasGotOn from to was now h1 h2 root1 root2
          → ComesFurther from.payloads to.payloads ⊎ TouchesElements h h' root root' ⊎ ClearsChoice was now h h' root root' ⊎ TakesNodeOut was h h'
          ⊎ TurnsToNodes from to
      by volume holds (inl further) = inl further
      by volume holds (inr (inl moved)) = inr (inl (touched_alone (λ es. IsSomeAnd (tree_elements h' root') (HasTouched es)) (tree_elements h root)
          (tells_both (λ es. Unit {0}) HasTouched volume holds
          (if_more (told_elements true (pages_of h1) root1) (λ es touched. (tt, touched)) moved))))
      by volume holds (inr (inr (inl cleared))) = inr (inr (inl (tells_both (SomeChosen was) (λ es. NoneChosen now) volume holds cleared)))
      by volume holds (inr (inr (inr (inl node)))) = inr (inr (inr (inl (node_out was volume holds node))))
      by volume holds (inr (inr (inr (inr turns)))) = inr (inr (inr (inr turns)))

    -- where there is more to do, a prune got on
    pub gets_on : (from to : Place) (progress : Progress)
        → HasMoreCause from to (told_elements true (pages_of h1) root1) (told_elements true (pages_of h2) root2) progress
        → IfMoreGetsOn from to last h h' root root' progress
    gets_on from to Done cause = tt
    gets_on from to More cause = λ volume holds. elim cause [
      | inl further ↦ inl further
      | inr touched ↦ inr (touched_alone (λ es. IsSomeAnd (tree_elements h' root') (HasTouched es)) (tree_elements h root)
          (tells_both (λ es. Unit {0}) HasTouched volume holds
          (if_more (told_elements true (pages_of h1) root1) (λ es went. (tt, went)) touched)))
    ]

    pub kept_unit : UnitLeaves ids faults faults' last h h' root root'
    kept_unit = record {
      closed = kept_closed h h1 h2 h' root last closed kept opens frame whole keeps;
      counted = counted;
      volume = volume_kept;
      flush = kept_flush h h1 h2 h' root last closed kept opens frame whole keeps;
      live = kept_live h h1 h2 h' root last closed kept opens frame whole keeps;
    }

  -- where no room went and no free big-block, what was begun is paid for
  pub kept_pays : h2.whole ≡ true → IsKeptOf h2 h' → free_of h1 ≤ free_of h2 → ((zone : ℕ) → room_of h1 zone ≤ room_of h2 zone) → KeepsPaid h h'
  kept_pays whole keeps free room first calls paid =
      kept_paid h h1 h2 h' root last closed kept opens frame whole keeps first calls
      (paid_more first calls (free_of h) (free_of h2) (room_of h) (room_of h2)
      (let begun = free_begun h h1 root root1 last closed kept opens same in omega (arith, begun, free))
      (λ zone. (let begun = room_begun h h1 root root1 last closed kept opens same zone in let more = room zone in omega (arith, begun, more))) paid)

  -- it was dropped
  pub dropped_unit : IsDropped h2 h' → root' ≡ h2.roots.current → IfSome (begun_content h2) (Holds h' root')
      → UnitLeaves ids faults faults' last h h' root root'
  dropped_unit drops root_is held = record {
    closed = dropped_closed h h1 h2 h' root last closed kept opens frame drops;
    counted = counted;
    volume = λ volume within holds. record {
      bigblocks = dropped_size h h1 h2 h' root last closed kept opens frame drops ∙ holds.bigblocks;
      last_is = holds.last_is;
      elements = (
        holds.elements.0,
        dropped_held h h1 h2 h' root last closed kept opens frame drops root' root_is held volume holds holds.elements.0 holds.elements.1,
        holds.elements.2,
      );
    };
    flush = dropped_flush h h1 h2 h' root last closed kept opens frame drops;
    live = dropped_live h h1 h2 h' root last closed kept opens frame drops;
  }

  pub dropped_pays : IsDropped h2 h' → KeepsPaid h h'
  dropped_pays drops = dropped_paid h h1 h2 h' root last closed kept opens frame drops

  -- what is so where the store tells its content is so where a volume was held
  pub told_so : (P : Type 0) → IfSome (lists h1 root1) (λ _. P) → (volume : Volume) → HoldsVolume h root last volume → P
  told_so P is volume holds =
      by (lists h1 root1) (tells_begun h h1 root root1 last closed kept opens same volume holds holds.elements.0 holds.elements.1) is where
        by : (o : Option Lists) → IsSomeAnd o (λ was. IsBalanced was.0 was.1 × (fulls was ≡ holds.elements.0)) → IfSome o (λ _. P) → P
        by None told is = absurd told
        by (Some was) told is = is

  -- from where the open call may move something, it may be moved before it
  moved_begun : (choice : List ℕ) (zone : ℕ) → IsToMove choice (pages_of h1) (told_elements true (pages_of h1) root1) zone
      → MayMoveFrom zone choice last h root
  moved_begun choice zone (inl node) volume holds =
      inl (node.0, subst (λ (o : Option PageMap). IfSome o (HasChosenNode choice)) (pages_begun volume holds) node.1)
  moved_begun choice zone (inr told) volume holds = inr (tells_before (SomeChosenIn zone choice) volume holds told)

  -- where a zone lacked its reserve in the open call, it did so before
  pub lacks_begun : {T : Type 0} (choice : List ℕ) (result : Result T SpaceFault)
      → IfErr result (IfNoSpace (LacksForOne choice (pages_of h1) (told_elements true (pages_of h1) root1) (room_of h1) (free_of h1)))
      → IfErr result (IfNoSpace (LacksForChoice choice last h root))
  lacks_begun choice (Ok x) is = tt
  lacks_begun choice (Err (of_store fault)) is = tt
  lacks_begun choice (Err (NoSpace free needed)) is =
      let one = lacks_one is.zones is.zone is.one (room_of h1) (free_of h1) free needed is.lacks in
      let begun = free_begun h h1 root root1 last closed kept opens same in
      let told = is.lacks.free in
      let none = one.none in
      record {
        room = record {
          zone = is.zone;
          lacks =
              (let there = room_begun h h1 root root1 last closed kept opens same is.zone in let lacks = one.lacks in omega (arith, there, lacks));
          free_is = (told ∙ begun, told ∙ none);
          needed_is = one.one;
        };
        moved = moved_begun choice is.zone is.moved;
      }

-- no more faults were counted at its end than at its start, if these are not looked at
pub uncounted : (ids : ℕ → Option (List (ℕ × ℕ))) (faults faults' last : ℕ) (h h' : Heap) (root root' : ℕ)
    → UnitLeaves ids faults faults' last h h' root root' → UnitLeaves ids faults faults last h h' root root'
uncounted ids faults faults' last h h' root root' leaves = record {
  closed = leaves.closed;
  counted = omega arith;
  volume = leaves.volume;
  flush = leaves.flush;
  live = leaves.live;
}

-- what is open in a state is enough for its volume
pub open_enough : (id : ℕ) (p : OpenJob) (running : List OpenJob) → job_with id running ≡ Some p → (state : State) → AreOpen running state
    → KeepsWithin (ids_kept_by p.work) state.volume
open_enough id p running found state opened = (found_has (IsOpenIn state) id running p found opened.each).has.enough.within

-- a history that was legal over a space stays so over what a unit leaves of a job that keeps enough
pub unit_legal : (ids : ℕ → Option (List (ℕ × ℕ))) (faults faults' last : ℕ) (h h' : Heap) (root root' : ℕ) (running : List OpenJob)
    → ((state : State) → AreOpen running state → KeepsWithin ids state.volume) → UnitLeaves ids faults faults' last h h' root root'
    → (free : ℕ) (start counts : Counts) (history : List Entry)
    (opening : Volume) (foreigners : Foreigners) (events : List Event)
    → IsLegalOver free start (with_disk counts faults) history h root last running opening foreigners events
    → IsLegalOver free start (with_disk counts faults') history h' root' last running opening foreigners events
unit_legal ids faults faults' last h h' root root' running enough leaves free start counts history opening foreigners events is =
    let later = disk_later counts faults faults' leaves.counted in
    record {
      entries = is.entries;
      legal = legal_later (setting_of free start (with_disk counts faults) opening foreigners) (with_disk counts faults') events later is.legal;
      counted = later_still (known_after (known_at opening.last start) events).counts (with_disk counts faults) (with_disk counts faults') is.counted later;
      held = record { holds = leaves.volume _ (enough _ is.held.opened) is.held.holds; opened = is.held.opened };
    }
