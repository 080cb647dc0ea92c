-- A root above two nodes.
use Rattle.std.proofs.Common.{◌≡◌, Bool, false, true≢false, ◌||◌, ℕ, suc, ◌+◌, ◌≤◌, List, [], ◌∷◌, refl, sym, ap, subst, ◌∙◌, arith}
use Rattle.std.proofs.Common.{max, nat_eq, Some, Result, Ok, Err, append-nil}
use Rattle.std.specs.Prelude.{Option, is_some, IfSome, IfOk, IsNone, OnOk}
use Rattle.std.proofs.lemmas.List.Elements.{All-from_recursion}
use Rattle.hm_types.specs.Elements.{Key}
use Rattle.hm_types.specs.declared.fault.Fault.{Fault}
use Rattle.hm_fields.specs.declared.pages.Pages.{Ghosts as Tells}
use Rattle.hm_key.specs.declared.room.HasRoom.{Ghosts as Rooms}
use Rattle.hm_btree.specs.Calls.Insert.{InsertsFrom}
use Rattle.hm_btree.specs.Calls.Space.{HasKept}
use Rattle.hm_btree.proofs.KeptLemmas.{kept_change}
use Rattle.hm_fields.specs.Pages.{PageMap, page_in}
use Rattle.hm_types.specs.Told.{BothTell}
use Rattle.hm_key.specs.Elements.{element_at, inserted, last_id}
use Rattle.hm_key.specs.Extents.{Extent}
use Rattle.hm_key.specs.Key.{key_of}
use Rattle.hm_key.specs.declared.element.Element.{Element}
use Rattle.hm_node.specs.Node.{node_in, level_of}
use Rattle.hm_node.specs.Inner.{IsChild, IsBound}
use Rattle.hm_node.specs.declared.inner.Child.{Child}
use Rattle.hm_node.specs.declared.node.Node.{Node}
use Rattle.hm_search.specs.Place.{IsInside, mirror_of}
use Rattle.hm_search.specs.Tree.{node_at, elements_in, mark_in, reaches, height_of, root_place, IsTree, IsStoredTree, elements_of, mark_of}
use Rattle.hm_search.specs.declared.subtree.Subtree.{Subtree}
use Rattle.hm_search.proofs.FrameLemmas.{IsSameUnder}
use Rattle.hm_search.proofs.ReachLemmas.{not_below_itself}
use Rattle.hm_btree.specs.Marking.{Marking, MarksBy, Writes}
use Rattle.hm_btree.specs.Space.{AddsNode, HasAdded, HasWritten, IsSpot}
use Rattle.hm_btree.specs.Below.{mark_under, has_under, ChangedUnder, SpellsAt}
use Rattle.hm_btree.specs.Grow.{AddsTop, Split, Grows, HasTop, top_of}
use Rattle.hm_btree.specs.Tree.{IsTreeSpace, TreeChanged, ChangesTree}
use Rattle.hm_btree.specs.declared.upper.Upper.{Upper}
use Rattle.hm_btree.proofs.MarkLemmas.{same_marks, marks_whole}
use Rattle.hm_btree.proofs.PairLemmas.{split_written, stored_there}
use Rattle.hm_btree.proofs.PutLemmas.{put_at, put_other, replaces_new}
use Rattle.hm_btree.proofs.RootLemmas.{whole_after, spots_after, turned}
use Rattle.hm_btree.proofs.ToldLemmas.{IfSome_both, both_after, told_after}
use Rattle.hm_btree.proofs.UnderLemmas.{or_nil, under_there, under_elements, under_mark, under_has, under_stored}

module _ (f : List Element → List Element) (key : Key) (marking : Marking) (root : ℕ) (old mid new1 new3 : PageMap) (lower : Node)
    (upper : Upper) (top : ℕ) where
  pub root_split : IsTreeSpace old root → Split f key marking (root_place root) (height_of (node_at old root)) old mid
      (node_at old root) lower upper.node upper.left → HasWritten root lower mid new1
      → HasTop (root_place root) lower upper top new1 new3 → IsSpot top → level_of lower ≤ 8 → TreeChanged f key marking old new3 root top
  root_split tree split written (new2, at, spot, added, (page3, spells3, come3)) spot3 shallow =
      let h : ℕ = height_of (node_at old root) in
      let place : Subtree = root_place root in
      let c : Child = record { left = place.left; child = root; mirror = 0 } in
      let cs : List Child = record { left = place.left; child = root; mirror = mirror_of lower } ∷ record {
        left = upper.left;
        child = at;
        mirror = mirror_of upper.node;
      } ∷ [] in
      let high : level_of lower + 1 ≡ suc (suc h) = omega (arith, split.lower_tree.level) in
      let itself : reaches old h (node_at old root) root ≡ false = not_below_itself old h place (node_at old root) root tree.sound.tree refl in
      let bound : IsBound place.left = record { key = refl; not_closed = refl; no_kind = refl; btype = refl } in
      let change : ChangedUnder f key marking (level_of lower + 1) place.right h old new2 (c ∷ []) cs =
      split_written f key marking (level_of lower + 1) place.right h old mid new1 new2 place c lower upper.node upper.left at
      (record { left = bound; child = (tree.spots root tree.sound.there).node }) refl refl high tree.sound.there itself split written added spot in
      let same : IsSameUnder new2 new3 h cs = record {
        same = λ x is. put_other top page3 new2 new3 come3.put x (λ one.
            true≢false (sym (under_there new2 h x (level_of lower + 1) place.right cs change.stored is)
            ∙ ap (λ (o : Option (List ℕ)). is_some o) (ap new2 one ∙ come3.free)));
      } in
      let there : new3 top ≡ Some page3 = put_at top page3 new2 new3 come3.put in
      let node : Node = top_of place lower upper at in
      let here : node_at new3 top ≡ node = ap (λ (o : Option (List ℕ)). node_in (page_in o)) there ∙ spells3.value in
      let height : height_of (node_at new3 top) ≡ suc h = ap height_of here ∙ omega (arith, high) in
      let sound : IsTree new3 (suc h) (root_place top) node = record {
        sound = record {
          level = (omega (arith, high), omega (arith, shallow));
          count = (omega arith, omega arith);
          order = change.rising;
          fields = record {
            children = All-from_recursion IsChild cs change.fields;
            right = record {
              key = refl;
              not_closed = refl;
              no_kind = refl;
              btype = refl;
            };
          };
          mirror = All-from_recursion (λ d. d.mirror ≤ max (mirror_of lower) (mirror_of upper.node)) cs (omega arith, (omega arith, tt));
        };
        level = high;
        fits = record { level = tt; count = tt; bounds = (refl, refl); mirror = tt };
        below = under_stored new2 new3 h place.right cs same (level_of lower + 1) change.stored;
      } in
      let elements : elements_of new3 top ≡ f (elements_of old root) =
      ap (λ (n : ℕ). elements_in new3 n (node_at new3 top)) height ∙ ap (elements_in new3 (suc h)) here ∙ under_elements new2 new3
      h place.right cs same ∙ change.elements ∙ ap f (append-nil (elements_in old h (node_at old root))) in
      let marks : (k : Key) → mark_of new3 top k ≡ mark_under new2 h cs k = λ k.
      ap (λ (n : ℕ). mark_in new3 n (node_at new3 top) k) height ∙ ap (λ (n : Node). mark_in new3 (suc h) n k) here
      ∙ under_mark new2 new3 h place.right cs same k in
      let reached : (x : ℕ) → reaches new3 (height_of (node_at new3 top)) (node_at new3 top) x ≡ has_under new2 h cs x = λ x.
      ap (λ (n : ℕ). reaches new3 n (node_at new3 top) x) height ∙ ap (λ (n : Node). reaches new3 (suc h) n x) here
      ∙ under_has new2 new3 h place.right cs same x in
      let replaces = replaces_new top page3 (has_under old h (c ∷ [])) (has_under new2 h cs) old new2 new3 come3 spot3 change.pages in
      record {
        tree = record {
          sound = subst (λ (n : ℕ). IsStoredTree new3 n (root_place top)) (sym height)
              (stored_there new3 new3 (suc h) node top page3 (root_place top) refl there spells3 (record { same = λ x is. refl }) sound);
          whole = λ x some. ap (λ (b : Bool). b || reaches new3 (height_of (node_at new3 top)) (node_at new3 top) x)
              (turned x top) ∙ ap (λ (b : Bool). nat_eq top x || b) (reached x)
              ∙ whole_after (has_under old h (c ∷ [])) (λ y. nat_eq top y || has_under new2 h cs y) old new3 replaces
              (λ y was_there. or_nil (nat_eq root y || reaches old h (node_at old root) y)
              ∙ ap (λ (b : Bool). b || reaches old h (node_at old root) y) (turned root y) ∙ tree.whole y was_there) x some;
          spots = spots_after (has_under old h (c ∷ [])) (λ y. nat_eq top y || has_under new2 h cs y) old new3 replaces tree.spots;
        };
        elements = elements;
        mark = same_marks (MarksBy marking key (mark_of old root)) (mark_under new2 h cs) (mark_of new3 top) marks
            (marks_whole marking key place.left place.right (mark_of old root) (mark_under new2 h cs) change.mark);
      }

-- the same where the pages are told
pub root_grows : (f : List Element → List Element) (key : Key) (marking : Marking) (root : ℕ) (Needs : Option Element → Type 0)
    (p0 p1 p2 p3 p4 : Option PageMap) (node lower : Node) (upper : Upper) (top : ℕ)
    → ((old : PageMap) → IsTreeSpace old root → Needs (element_at key (elements_of old root)) → IsInside (root_place root).left (root_place root).right key)
    → p1 ≡ p0 → IfSome p0 (λ map. SpellsAt map (root_place root) node) → Grows f key marking Needs p1 p2 node lower (Some upper)
    → BothTell p2 p3 (HasWritten root lower)
    → BothTell p3 p4 (HasTop (root_place root) lower upper top) → IsSpot top → level_of lower ≤ 8
    → ChangesTree f key marking (λ es. Needs (element_at key es)) p0 p4 root top
root_grows f key marking root Needs p0 p1 p2 p3 p4 node lower upper top inside same here grows written added spot shallow =
    IfSome_both p0 here (subst (λ (p : Option PageMap). Grows f key marking Needs p p2 node lower (Some upper)) same grows) (λ old here grows tree needs.
    let read : node_at old root ≡ node = (here tree.sound.there).value in
    let h : ℕ = height_of (node_at old root) in
    let split : IfSome p2 (λ mid. Split f key marking (root_place root) h old mid node lower upper.node upper.left) =
    grows (root_place root) h (subst (λ (n : Node). IsTree old h (root_place root) n) read tree.sound.tree) (inside old tree needs)
    (subst (λ (n : Node). Needs (element_at key (elements_in old h n))) read needs) in
    let both : BothTell p2 p4 (λ mid new. (part : PageMap) × HasWritten root lower mid part × HasTop (root_place root) lower upper top part new) =
    both_after p2 p3 p4 written added (λ mid part new written added. (part, written, added)) in
    told_after p2 p4 both split (λ mid new pages split. root_split f key marking root old mid pages.0 new lower upper top tree
    (subst (λ (n : Node). Split f key marking (root_place root) h old mid n lower upper.node upper.left) (sym read) split)
    pages.1 pages.2 spot shallow))

-- the upper part and then the root were added
pub adds_top : {S : Type 0} (pages_of : S → Option PageMap) (extents_of : S → Option (List Extent)) (place : Subtree) (lower : Node) (upper : Upper)
    (old mid new : S) (at : ℕ) (top : Node) (r : Result ℕ Fault) → top ≡ top_of place lower upper at → level_of lower ≤ 8
    → AddsNode pages_of extents_of upper.node old mid at → IfOk r (AddsNode pages_of extents_of top mid new)
    → IfOk r (AddsTop pages_of extents_of place lower upper old new)
adds_top pages_of extents_of place lower upper old mid new at top (Ok here) is shallow first second = record {
  told = both_after (pages_of old) (pages_of mid) (pages_of new) first.told second.told
      (λ was part now a b. (part, at, first.spot, a, subst (λ (n : Node). HasAdded here n part now) is b));
  spot = second.spot;
  shallow = shallow;
  extents = second.extents ∙ first.extents;
}
adds_top pages_of extents_of place lower upper old mid new at top (Err fault) is shallow first second = tt

-- and where a root was added, or none
pub top_result : {S : Type 0} (p : Tells S) (g : Rooms S) (f : List Element → List Element) (key : Key) (marking : Marking) (root : ℕ)
    (Needs : Option Element → Type 0) (p0 p1 p2 : Option PageMap) (mid new : S) (node lower : Node) (upper : Upper)
    → ((old : PageMap) → IsTreeSpace old root → Needs (element_at key (elements_of old root)) → IsInside (root_place root).left (root_place root).right key)
    → p1 ≡ p0 → IfSome p0 (λ map. SpellsAt map (root_place root) node) → Grows f key marking Needs p1 p2 node lower (Some upper)
    → BothTell p2 (p.pages mid) (HasWritten root lower)
    → (place : Subtree) (r : Result ℕ Fault) → place ≡ root_place root → IfOk r (AddsTop p.pages g.extents place lower upper mid new)
    → IfOk r (λ at. ChangesTree f key marking (λ es. Needs (element_at key es)) p0 (p.pages new) root at)
top_result p g f key marking root Needs p0 p1 p2 mid new node lower upper inside same here grows written place (Ok at) is added =
    root_grows f key marking root Needs p0 p1 p2 (p.pages mid) (p.pages new) node lower upper at inside same here grows written
    (subst (λ (s : Subtree). BothTell (p.pages mid) (p.pages new) (HasTop s lower upper at)) is added.told) added.spot added.shallow
top_result p g f key marking root Needs p0 p1 p2 mid new node lower upper inside same here grows written place (Err fault) is added = tt

-- what is kept of what the space tells
pub top_kept : {S : Type 0} (p : Tells S) (g : Rooms S) (old new : S) (place : Subtree) (lower : Node) (upper : Upper) (r : Result ℕ Fault)
    → IfOk r (AddsTop p.pages g.extents place lower upper old new) → OnOk r (HasKept p.pages g.extents old new)
top_kept p g old new place lower upper (Ok at) added = kept_change p g old new (HasTop place lower upper at) added.extents added.told
top_kept p g old new place lower upper (Err fault) added = tt

-- and both
pub inserts_from : {S : Type 0} (p : Tells S) (g : Rooms S) (e : Element) (old new : S) (root : ℕ) (r : Result ℕ Fault)
    → IfOk r (ChangesTree (inserted e) (key_of e.base) (Writes (last_id e)) (λ es. IsNone (element_at (key_of e.base) es)) (p.pages old) (p.pages new) root)
    → OnOk r (HasKept p.pages g.extents old new) → IfOk r (InsertsFrom p.pages g.extents e old new root)
inserts_from p g e old new root (Ok at) tree kept = record { tree = tree; kept = kept }
inserts_from p g e old new root (Err fault) tree kept = tt
