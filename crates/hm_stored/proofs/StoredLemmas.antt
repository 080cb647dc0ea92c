-- What a store of a volume tells after its calls.
use Rattle.std.proofs.Common.{◌≡◌, Bool, true, false, true≢false, ℕ, ◌≤◌, List, Option, Some, None, Result, Ok, Err, refl, sym, ap, subst, ◌∙◌, arith}
use Rattle.std.proofs.Common.{cond, is_some, map}
use Rattle.std.specs.Prelude.{IfOk, IfSome, IsTrue, OnOk, is_ok, option_map, ◌&&◌}
use Rattle.hm_types.specs.Elements.{Key}
use Rattle.hm_types.specs.Space.{Spends, nothing}
use Rattle.hm_types.specs.declared.fault.Fault.{Fault}
use Rattle.hm_types.specs.declared.fault.SpaceFault.{SpaceFault}
use Rattle.hm_types.specs.declared.fault.SpaceFault.TheVariants.{NoSpace, Fault as of_store}
use Rattle.hm_types.specs.declared.limits.TheConstants.{MOST_BIGBLOCKS}
use Rattle.hm_types.specs.declared.zones.Zones.{Zones}
use Rattle.hm_fields.specs.Pages.{PageMap}
use Rattle.hm_key.specs.Calls.{Admission}
use Rattle.hm_key.specs.Extents.{Extent}
use Rattle.hm_key.specs.Stores.{Keeps}
use Rattle.hm_key.specs.declared.element.Element.{Element}
use Rattle.hm_btree.specs.Tree.{HoldsTree, told_elements, told_mark}
use Rattle.hm_stored.specs.Basis.{nodes}
use Rattle.hm_stored.specs.Calls.{AnswersRoom, ChangesExtents, Places, Stays}
use Rattle.hm_stored.specs.Heap.{Heap, basis_with, bytes_of, begun_content, does_tell, extents_in, frame_of, free_of, is_firm_with, pages_of}
use Rattle.hm_stored.specs.Heap.{places_in, room_of}
use Rattle.hm_stored.specs.Held.{IsKept}
use Rattle.hm_stored.specs.Laws.{rests, told_together}
use Rattle.hm_stored.specs.Log.{filled}
use Rattle.hm_stored.specs.Told.{ReadsTree, WritesTree, elements_told, is_settled, mark_told}
use Rattle.hm_stored.specs.Turn.{IsEnded}
use Rattle.hm_stored.proofs.RoomLemmas.{spends_broken, spends_none}

-- ---- a change ended

and_true : (t : Bool) → (t && true) ≡ t
and_true true = refl
and_true false = refl

and_false : (t : Bool) → (t && false) ≡ false
and_false true = refl
and_false false = refl

-- where it was done, all is as it was
pub ended_done : (old new : Heap) → IsEnded true old new → new ≡ old
ended_done old new ends = ends ∙ ap (λ (w : Bool). record old { whole = w }) (and_true old.whole)

-- where it failed, nothing is told
pub ended_whole : (old new : Heap) → IsEnded false old new → new.whole ≡ false
ended_whole old new ends = ap (λ (h : Heap). h.whole) ends ∙ and_false old.whole

pub broken_silent : (h : Heap) → h.whole ≡ false → does_tell h ≡ false
broken_silent h broken = ap (λ (w : Bool). w && is_some (begun_content h)) broken

pub broken_tree : (h : Heap) (root : ℕ) → h.whole ≡ false → HoldsTree (pages_of h) root
broken_tree h root broken =
    let none : pages_of h ≡ None = ap (λ (t : Bool). cond t (Some (nodes h.pages.current)) None) (broken_silent h broken) in
    subst (λ (o : Option PageMap). HoldsTree o root) (sym none) ∣ tt ∣₁

-- what always holds of a space holds then
pub ended_kept : (done : Bool) (h : Heap) → IsKept h → IsKept (record h { whole = h.whole && done })
ended_kept true h kept = subst (λ (w : Bool). IsKept (record h { whole = w })) (sym (and_true h.whole)) kept
ended_kept false h kept = record {
  nodes = λ whole. absurd (true≢false (sym whole ∙ and_false h.whole));
  begun = kept.begun;
  size = kept.size;
  safe = λ holds. absurd (true≢false (sym holds
      ∙ ap (λ (w : Bool). w && is_firm_with (option_map (basis_with h) h.pages.begin) h.disk) (and_false h.whole)));
  held = λ told. absurd (true≢false (sym told ∙ ap (λ (w : Bool). w && is_some (begun_content h)) (and_false h.whole)));
}

-- the frame stays, and nothing was spent beside what the change took
pub ended_stays : (most : ℕ → ℕ) (old mid new : Heap) (done : Bool) → old.bigblocks ≤ MOST_BIGBLOCKS → Stays most old mid → IsEnded done mid new
    → Stays most old new
ended_stays most old mid new done few stays ends = record {
  frame = ap frame_of ends ∙ stays.frame;
  spent = by_done done ends;
} where
  by_done : (t : Bool) → IsEnded t mid new → Spends room_of free_of most old new
  by_done true ended = subst (Spends room_of free_of most old) (sym (ended_done mid new ended)) stays.spent
  by_done false ended = spends_broken old new most few (ended_whole mid new ended)

-- ---- a tree over the nodes of a space

-- Where a tree tells its elements just where its space tells extents, it is intact, or nothing is told.
module _ (intact : Bool) (h : Heap) (root : ℕ) (both : is_some (told_elements intact (pages_of h) root) ≡ is_some (extents_in h)) where
  pub told_so : told_elements intact (pages_of h) root ≡ elements_told h root
  told_so = by_test (does_tell h) (nodes h.pages.current) (map (filled (bytes_of h.disk)) (places_in h)) intact both where
    by_test : (t : Bool) (pages : PageMap) (xs : List Extent) (i : Bool)
        → is_some (told_elements i (cond t (Some pages) None) root) ≡ is_some (cond t (Some xs) None)
        → told_elements i (cond t (Some pages) None) root ≡ told_elements true (cond t (Some pages) None) root
    by_test true pages xs true same = refl
    by_test true pages xs false same = absurd (true≢false (sym same))
    by_test false pages xs true same = refl
    by_test false pages xs false same = refl

  pub tree_so : (IsTrue intact → HoldsTree (pages_of h) root) → HoldsTree (pages_of h) root
  tree_so tree = by_test (does_tell h) (nodes h.pages.current) (map (filled (bytes_of h.disk)) (places_in h)) intact both tree where
    by_test : (t : Bool) (pages : PageMap) (xs : List Extent) (i : Bool)
        → is_some (told_elements i (cond t (Some pages) None) root) ≡ is_some (cond t (Some xs) None)
        → (i ≡ true → HoldsTree (cond t (Some pages) None) root) → HoldsTree (cond t (Some pages) None) root
    by_test true pages xs true same tree = tree refl
    by_test true pages xs false same tree = absurd (true≢false (sym same))
    by_test false pages xs i same tree = ∣ tt ∣₁

mapped : {A : Type 0} (f : A → A) (o : Option A) → is_some (option_map f o) ≡ is_some o
mapped f None = refl
mapped f (Some x) = refl

-- What a tree over a space makes of it by a call that writes: the tree tells its elements while it is intact.
pub record TreeChange (change : List Element → List Element) (Marked : (Key → ℕ) → (Key → ℕ) → Type 0) (begun : Bool) (old new : Heap)
    (root root' : ℕ) (intact : Bool) : Type 0 where
  pub elements : told_elements intact (pages_of new) root' ≡ option_map change (told_elements begun (pages_of old) root)
  pub mark : IfSome (told_elements begun (pages_of old) root) (λ _. Marked (told_mark (pages_of old) root) (told_mark (pages_of new) root'))
  pub extents : extents_in new ≡ extents_in old

pub record TreeWrites (most : ℕ → ℕ) (change : List Element → List Element) (Marked : (Key → ℕ) → (Key → ℕ) → Type 0) (r : Result (Unit {0}) Fault)
    (begun : Bool) (old new : Heap) (root root' : ℕ) (intact : Bool) : Type 0 where
  pub ok : OnOk r (TreeChange change Marked begun old new root root' intact)
  pub stays : Stays most old new

pub on_ok : {T E P Q : Type 0} → (P → Q) → (r : Result T E) → OnOk r P → OnOk r Q
on_ok f (Ok x) is = f is
on_ok f (Err e) is = tt

module _ (most : ℕ → ℕ) (change : List Element → List Element) (Marked : (Key → ℕ) → (Key → ℕ) → Type 0) where
  -- after which its change was ended
  written : (old mid new : Heap) (root root' : ℕ) (intact done : Bool) → old.bigblocks ≤ MOST_BIGBLOCKS
      → (IsTrue intact → HoldsTree (pages_of mid) root') → (r : Result (Unit {0}) Fault) → done ≡ is_ok r → IsEnded done mid new
      → TreeWrites most change Marked r true old mid root root' intact → WritesTree most change Marked old new root root' r
  written old mid new root root' intact done few tree (Ok x) is ends wrote =
      let both : is_some (told_elements intact (pages_of mid) root') ≡ is_some (extents_in mid) =
      ap (λ (o : Option (List Element)). is_some o) wrote.ok.elements
      ∙ (mapped change (elements_told old root)
      ∙ (sym (told_together old root) ∙ ap (λ (o : Option (List Extent)). is_some o) (sym wrote.ok.extents))) in
      subst (λ (h : Heap). WritesTree most change Marked old h root root' (Ok x))
      (sym (ended_done mid new (subst (λ (t : Bool). IsEnded t mid new) is ends)))
      (record {
        tree = tree_so intact mid root' both tree;
        ok = record { elements = sym (told_so intact mid root' both) ∙ wrote.ok.elements; mark = wrote.ok.mark; extents = wrote.ok.extents };
        stays = wrote.stays;
      })
  written old mid new root root' intact done few tree (Err e) is ends wrote = record {
    tree = broken_tree new root' (ended_whole mid new (subst (λ (t : Bool). IsEnded t mid new) is ends));
    ok = tt;
    stays = ended_stays most old mid new done few wrote.stays ends;
  }

  -- The same of a space that was lent to the tree and came back.
  pub lent_written : {S : Type 0} (heap : S → Heap) (begin was mid back after : S) (final : Heap) (root from last root' : ℕ) (begun intact done : Bool)
      → (heap begin).bigblocks ≤ MOST_BIGBLOCKS → (r : Result (Unit {0}) Fault)
      → TreeWrites most change Marked r begun (heap was) (heap mid) from last intact
      → was ≡ begin → from ≡ root → begun ≡ true → back ≡ mid → root' ≡ last → final ≡ heap after
      → (IsTrue intact → HoldsTree (pages_of (heap back)) root') → done ≡ is_ok r → IsEnded done (heap back) (heap after)
      → WritesTree most change Marked (heap begin) final root root' r
  lent_written {S} heap begin was mid back after final root from last root' begun intact done few r wrote
      one two three four five six tree is ends =
      let Writes = λ (t : Bool) (old new : S) (at to : ℕ). TreeWrites most change Marked r t (heap old) (heap new) at to intact in
      let begun_here = subst (λ (t : Bool). Writes t begin mid root last) three (subst (λ (n : ℕ). Writes begun begin mid n last) two
      (subst (λ (s : S). Writes begun s mid from last) one wrote)) in
      let ended_here = subst (λ (n : ℕ). Writes true begin back root n) (sym five) (subst (λ (s : S). Writes true begin s root last) (sym four) begun_here) in
      subst (λ (h : Heap). WritesTree most change Marked (heap begin) h root root' r) (sym six)
      (written (heap begin) (heap back) (heap after) root root' intact done few tree r is ends ended_here)

-- A call that reads: what the tree tells is the same.
pub record TreeReads (begun : Bool) (old new : Heap) (root root' : ℕ) (intact : Bool) : Type 0 where
  pub elements : told_elements intact (pages_of new) root' ≡ told_elements begun (pages_of old) root
  pub mark : told_mark (pages_of new) root' ≡ told_mark (pages_of old) root
  pub extents : extents_in new ≡ extents_in old
  pub room : room_of new ≡ room_of old
  pub free : free_of new ≡ free_of old
  pub frame : frame_of new ≡ frame_of old

was_read : (old new : Heap) (root root' : ℕ) (intact : Bool) → (IsTrue intact → HoldsTree (pages_of new) root')
    → TreeReads true old new root root' intact → ReadsTree old new root root'
was_read old new root root' intact tree read =
    let both : is_some (told_elements intact (pages_of new) root') ≡ is_some (extents_in new) =
    ap (λ (o : Option (List Element)). is_some o) read.elements
    ∙ (sym (told_together old root) ∙ ap (λ (o : Option (List Extent)). is_some o) (sym read.extents)) in
    record {
      tree = tree_so intact new root' both tree;
      elements = sym (told_so intact new root' both) ∙ read.elements;
      mark = read.mark;
      extents = read.extents;
      room = read.room;
      free = read.free;
      frame = read.frame;
    }

pub lent_read : {S : Type 0} (heap : S → Heap) (begin was mid back : S) (final : Heap) (root from last root' : ℕ) (begun intact : Bool)
    → TreeReads begun (heap was) (heap mid) from last intact
    → was ≡ begin → from ≡ root → begun ≡ true → back ≡ mid → root' ≡ last → final ≡ heap back
    → (IsTrue intact → HoldsTree (pages_of (heap back)) root')
    → ReadsTree (heap begin) final root root'
lent_read {S} heap begin was mid back final root from last root' begun intact read first second third fourth fifth sixth tree =
    let Reads = λ (t : Bool) (old new : S) (at to : ℕ). TreeReads t (heap old) (heap new) at to intact in
    let begun_here = subst (λ (t : Bool). Reads t begin mid root last) third (subst (λ (n : ℕ). Reads begun begin mid n last) second
    (subst (λ (s : S). Reads begun s mid from last) first read)) in
    let ended_here = subst (λ (n : ℕ). Reads true begin back root n) (sym fifth) (subst (λ (s : S). Reads true begin s root last) (sym fourth) begun_here) in
    subst (λ (h : Heap). ReadsTree (heap begin) h root root') (sym sixth)
    (was_read (heap begin) (heap back) root root' intact tree ended_here)

-- ---- a store, which is a space and a root

-- where a change was done, all is as it was before it ended; where it failed, nothing is told
module _ (mid new : Heap) (root : ℕ) (done : Bool) (ends : IsEnded done mid new) where
  done_here : done ≡ true → new ≡ mid
  done_here is = ended_done mid new (subst (λ (t : Bool). IsEnded t mid new) is ends)

  tree_failed : done ≡ false → HoldsTree (pages_of new) root
  tree_failed is = broken_tree new root (ended_whole mid new (subst (λ (t : Bool). IsEnded t mid new) is ends))

  tree_done : (old : Heap) → done ≡ true → pages_of mid ≡ pages_of old → HoldsTree (pages_of old) root → HoldsTree (pages_of new) root
  tree_done old is pages tree = subst (λ (o : Option PageMap). HoldsTree o root) (sym (ap pages_of (done_here is) ∙ pages)) tree

  -- bytes were put into a new extent
  pub placed_tree : (old : Heap) (zone : ℕ) (bytes : List ℕ) (r : Result ℕ Fault) → done ≡ is_ok r → HoldsTree (pages_of old) root
      → IfOk r (Places zone bytes old mid) → HoldsTree (pages_of new) root
  placed_tree old zone bytes (Ok at) is tree ok = tree_done old is ok.changes.tree tree
  placed_tree old zone bytes (Err e) is tree ok = tree_failed is

  -- the extents changed
  pub changed_tree : (old : Heap) (Change : List Extent → List Extent → Type 0) (r : Result (Unit {0}) Fault) → done ≡ is_ok r
      → HoldsTree (pages_of old) root → OnOk r (ChangesExtents Change old mid) → HoldsTree (pages_of new) root
  changed_tree old Change (Ok x) is tree ok = tree_done old is ok.tree tree
  changed_tree old Change (Err e) is tree ok = tree_failed is

  -- zones got room, or there is none for them
  pub room_tree : (old : Heap) (zones : Zones) (held : ℕ) (r : Result (Unit {0}) SpaceFault) → done ≡ is_settled r → HoldsTree (pages_of old) root
      → AnswersRoom zones held old mid r → HoldsTree (pages_of new) root
  room_tree old zones held (Ok x) is tree answers = tree_done old is answers.content.0 tree
  room_tree old zones held (Err (NoSpace free needed)) is tree answers = tree_done old is answers.unchanged.0 tree
  room_tree old zones held (Err (of_store fault)) is tree answers = tree_failed is

-- where zones got room, each node stands where it stood
pub room_nodes : (old mid new : Heap) (zones : Zones) (held : ℕ) (done : Bool) → IsEnded done mid new → (r : Result (Unit {0}) SpaceFault)
    → done ≡ is_settled r → AnswersRoom zones held old mid r → OnOk r (pages_of new ≡ pages_of old)
room_nodes old mid new zones held done ends (Ok x) is answers =
    ap pages_of (ended_done mid new (subst (λ (t : Bool). IsEnded t mid new) is ends)) ∙ answers.content.0
room_nodes old mid new zones held done ends (Err fault) is answers = tt

-- what a store with these parts was asked for and answers of room
module _ {S : Type 0} (heap : S → Heap) (root : S → ℕ) where
  abbrev elements : S → Option (List Element)
  elements s = elements_told (heap s) (root s)

  abbrev mark : S → Key → ℕ
  mark s = mark_told (heap s) (root s)

  abbrev extents : S → Option (List Extent)
  extents s = extents_in (heap s)

  abbrev room : S → ℕ → ℕ
  room s = room_of (heap s)

  abbrev free : S → ℕ
  free s = free_of (heap s)

  module _ (zones : Zones) (held : ℕ) (old new : S) (mid : Heap) (done : Bool) (same : root new ≡ root old) (few : mid.bigblocks ≤ MOST_BIGBLOCKS)
      (ends : IsEnded done mid (heap new)) where
    room_rises : (zone : ℕ) → room_of (heap old) zone ≤ room_of mid zone → room old zone ≤ room new zone
    room_rises zone more =
        let spent = (ended_stays nothing mid mid (heap new) done few (record { frame = refl; spent = spends_none mid nothing }) ends).spent.room zone in
        omega (arith, spent, more)

    elements_stay : pages_of (heap new) ≡ pages_of (heap old) → elements new ≡ elements old
    elements_stay pages = ap (λ (o : Option PageMap). told_elements true o (root new)) pages ∙ ap (told_elements true (pages_of (heap old))) same

    mark_stays : pages_of (heap new) ≡ pages_of (heap old) → mark new ≡ mark old
    mark_stays pages = ap (λ (o : Option PageMap). told_mark o (root new)) pages ∙ ap (told_mark (pages_of (heap old))) same

    pub room_given : (r : Result (Unit {0}) SpaceFault) → done ≡ is_settled r → AnswersRoom zones held (heap old) mid r
        → Admission elements mark extents room free zones held old new r
    room_given (Ok x) is answers =
        let there = subst (λ (h : Heap). AnswersRoom zones held (heap old) h (Ok x)) (sym (done_here mid (heap new) 0 done ends is)) answers in
        record {
          ok = record {
            enough = there.ok.enough;
            no_more = there.ok.no_more;
            paid = there.ok.paid;
            reserve = there.ok.reserve;
          };
          whole = there.whole;
          content = record {
            elements = elements_stay there.content.0;
            mark = mark_stays there.content.0;
            extents = there.content.1;
          };
          no_space = tt;
          unchanged = tt;
          room = there.room;
        }
    room_given (Err (NoSpace number needed)) is answers =
        let there = subst (λ (h : Heap). AnswersRoom zones held (heap old) h (Err (NoSpace number needed)))
        (sym (done_here mid (heap new) 0 done ends is)) answers in
        let rest = rests (heap old) (heap new) there.unchanged.2 in
        record {
          ok = tt;
          whole = tt;
          content = tt;
          no_space = there.no_space;
          unchanged = record {
            elements = elements_stay there.unchanged.0;
            mark = mark_stays there.unchanged.0;
            extents = there.unchanged.1;
            room = rest.0;
            free = rest.1;
          };
          room = there.room;
        }
    room_given (Err (of_store fault)) is answers = record {
      ok = tt;
      whole = tt;
      content = tt;
      no_space = tt;
      unchanged = tt;
      room = λ zone. room_rises zone (answers.room zone);
    }

    pub room_keeps : (r : Result (Unit {0}) SpaceFault) → done ≡ is_settled r → AnswersRoom zones held (heap old) mid r
        → Keeps elements extents old new r
    room_keeps (Ok x) is answers =
        let given = room_given (Ok x) is answers in
        record {
          elements = ap (λ (o : Option (List Element)). is_some o) given.content.elements;
          extents = ap (λ (o : Option (List Extent)). is_some o) given.content.extents;
        }
    room_keeps (Err fault) is answers = record { elements = tt; extents = tt }
