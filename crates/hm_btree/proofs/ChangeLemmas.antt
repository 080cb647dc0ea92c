-- Children of which some change, while those before and after them stay.
use Rattle.std.proofs.Common.{◌≡◌, Bool, true, false, ◌||◌, ℕ, ◌≤◌, List, [], ◌∷◌, ◌++◌, length, refl, sym, ap, subst, ◌∙◌, arith, append-nil}
use Rattle.std.specs.Prelude.{if◌then◌else◌}
use Rattle.std.specs.List.{AllByRecursion}
use Rattle.std.specs.Ordering.{is_lt}
use Rattle.std.proofs.lemmas.Grind.{flat_map-append}
use Rattle.hm_types.specs.Elements.{Key, key_cmp}
use Rattle.hm_fields.specs.Pages.{PageMap}
use Rattle.hm_key.specs.Key.{key_of, IsBefore, IsFrom}
use Rattle.hm_key.specs.Elements.{element_key}
use Rattle.hm_key.specs.declared.base.Base.{Base}
use Rattle.hm_key.specs.declared.element.Element.{Element}
use Rattle.hm_key.proofs.KeyLemmas.{key_before_from, key_from_before}
use Rattle.hm_node.specs.Inner.{IsChild}
use Rattle.hm_node.specs.declared.inner.Child.{Child}
use Rattle.hm_search.specs.Place.{IsInside}
use Rattle.hm_search.specs.Tree.{node_at, elements_in, mark_in, holder, starts_after, next_left, child_place, places_of, IsStoredTree}
use Rattle.hm_search.proofs.ChildLemmas.{begins_before, later_sorted}
use Rattle.hm_search.proofs.ListLemmas.{each_so, each_append}
use Rattle.hm_search.proofs.OrderLemmas.{from_is, from_not, from_trans}
use Rattle.hm_search.proofs.ContentLemmas.{AreInside, from_next_on, elements_inside}
use Rattle.hm_search.proofs.FrameLemmas.{IsSameUnder}
use Rattle.hm_search.proofs.ReachLemmas.{is_under}
use Rattle.hm_btree.specs.Marking.{Marking, MarksWithin}
use Rattle.hm_btree.specs.Below.{elements_under, mark_under, has_under, AreStored, AreRising, IsLocal, ChangedUnder}
use Rattle.hm_btree.proofs.MarkLemmas.{as_marks, both_sides, marks_low, marks_high}
use Rattle.hm_btree.proofs.OrderLemmas.{before_before, ends_after, rising_cons, before_all, rising_append, rising_back}
use Rattle.hm_btree.proofs.UnderLemmas.{under_there, first_apart, later_apart, under_append, stored_append, stored_back, under_elements}
use Rattle.hm_btree.proofs.UnderLemmas.{under_mark, under_has, under_stored, replaces_same, replaces_front, replaces_back}

-- the elements under children, each inside its child's boundaries
pub inside_each : (map : PageMap) (height level : ℕ) (right : Base) (cs : List Child) → AreStored map height level right cs
    → AllByRecursion (λ s. AreInside s.left s.right (elements_in map height (node_at map s.at))) (places_of level right cs)
inside_each map height level right cs stored =
    each_so (IsStoredTree map height) (λ s. AreInside s.left s.right (elements_in map height (node_at map s.at))) (places_of level right cs)
    (λ s is. elements_inside map height s (node_at map s.at) is.tree) stored

pub inside_under : (map : PageMap) (height level : ℕ) (right : Base) (cs : List Child) → AreRising right cs
    → AreStored map height level right cs → AreInside (next_left right cs) right (elements_under map height cs)
inside_under map height level right cs rising stored =
    from_next_on (λ at. elements_in map height (node_at map at)) level right cs rising (inside_each map height level right cs stored)

-- of children and others after them, the one that holds a key
module _ (key : Key) where
  pub holder_front : (b d : Child) (bs ds : List Child) → starts_after key d ≡ true → holder key b (bs ++ d ∷ ds) ≡ holder key b bs
  holder_front b d [] ds after = rw after refl
  holder_front b d (q ∷ qs) ds after = by_test (starts_after key q) (holder_front q d qs ds after) where
    by_test : (t : Bool) → holder key q (qs ++ d ∷ ds) ≡ holder key q qs → (if t then b else holder key q (qs ++ d ∷ ds)) ≡ (if t then b else holder key q qs)
    by_test true more = refl
    by_test false more = more

  pub holder_back : (right : Base) (b d : Child) (bs ds : List Child) → AreRising right (b ∷ (bs ++ d ∷ ds))
      → starts_after key d ≡ false → holder key b (bs ++ d ∷ ds) ≡ holder key d ds
  holder_back right b d [] ds rising begun = rw begun refl
  holder_back right b d (q ∷ qs) ds rising begun =
      let later = later_sorted right b ((q ∷ qs) ++ d ∷ ds) rising in
      let before : IsBefore (key_of q.left) (key_of d.left) = between qs later in
      let here : starts_after key q ≡ false = from_not key (key_of q.left) (from_trans (key_of q.left) (key_of d.left) key
      (key_from_before (key_of q.left) (key_of d.left) before) (from_is key (key_of d.left) begun)) in
      rw here (holder_back right q d qs ds later begun) where
        between : (qs : List Child) → AreRising right (q ∷ (qs ++ d ∷ ds)) → IsBefore (key_of q.left) (key_of d.left)
        between [] rising = begins_before right q (d ∷ ds) rising
        between (p ∷ ps) rising = before_before (key_of q.left) (key_of p.left) (key_of d.left)
            (begins_before right q ((p ∷ ps) ++ d ∷ ds) rising) (further p ps (later_sorted right q ((p ∷ ps) ++ d ∷ ds) rising)) where
              further : (p : Child) (ps : List Child) → AreRising right (p ∷ (ps ++ d ∷ ds)) → IsBefore (key_of p.left) (key_of d.left)
              further p [] rising = begins_before right p (d ∷ ds) rising
              further p (r ∷ rs) rising = before_before (key_of p.left) (key_of r.left) (key_of d.left)
                  (begins_before right p ((r ∷ rs) ++ d ∷ ds) rising) (further r rs (later_sorted right p ((r ∷ rs) ++ d ∷ ds) rising))

-- the mark among a child and those after it
pub mark_cons : (map : PageMap) (height : ℕ) (k : Key) (c d : Child) (ds : List Child) → mark_under map height
    (c ∷ d ∷ ds) k ≡ (if starts_after k d then mark_under map height (c ∷ []) k else mark_under map height (d ∷ ds) k)
mark_cons map height k c d ds = by_test (starts_after k d) where
  by_test : (b : Bool) → mark_in map height (node_at map (if b then c else holder k d ds).child) k ≡ (if b then mark_in map height
      (node_at map c.child) k else mark_in map height (node_at map (holder k d ds).child) k)
  by_test true = refl
  by_test false = refl

-- the mark of a key among children that are cut in two
pub mark_cut : (map : PageMap) (height : ℕ) (right : Base) (k : Key) (cs : List Child) (c : Child) (hi : List Child)
    → 1 ≤ length cs → AreRising right (cs ++ c ∷ hi)
    → mark_under map height (cs ++ c ∷ hi) k ≡ (if is_lt (key_cmp k (key_of c.left)) then mark_under map height cs k else mark_under map height (c ∷ hi) k)
mark_cut map height right k [] c hi some rising = absurd (omega arith)
mark_cut map height right k (b ∷ bs) c hi some rising = by_test (starts_after k c) refl where
  by_test : (t : Bool) → starts_after k c ≡ t → mark_under map height ((b ∷ bs) ++ c ∷ hi) k ≡ (if t then mark_under map height
      (b ∷ bs) k else mark_under map height (c ∷ hi) k)
  by_test true is = ap (λ (x : Child). mark_in map height (node_at map x.child) k) (holder_front k b c bs hi is)
  by_test false is = ap (λ (x : Child). mark_in map height (node_at map x.child) k) (holder_back k right b c bs hi rising is)

-- what an `or` with `false` says
pub alone : (b c : Bool) → (b || false) ≡ (c || false) → b ≡ c
alone true true is = refl
alone true false is = is
alone false true is = is
alone false false is = refl

pub alone_true : (b : Bool) → (b || false) ≡ true → b ≡ true
alone_true true is = refl
alone_true false is = is

-- the marks of children that change, and of those after them that stay
mark_before : (right : Base) (height : ℕ) (old new : PageMap) (key : Key) (marking : Marking) (b c : Child)
    (bs cs ds : List Child) → IsSameUnder old new height ds
    → AreRising right ((b ∷ bs) ++ ds) → AreRising right ((c ∷ cs) ++ ds) → IsBefore key (key_of (next_left right ds))
    → MarksWithin marking key b.left (next_left right ds) (mark_under old height (b ∷ bs)) (mark_under new height (c ∷ cs))
    → MarksWithin marking key b.left right (mark_under old height ((b ∷ bs) ++ ds)) (mark_under new height ((c ∷ cs) ++ ds))
mark_before right height old new key marking b c bs cs [] same rising up before marks =
    as_marks (MarksWithin marking key b.left right) (mark_under old height (b ∷ bs)) (mark_under old height ((b ∷ bs) ++ []))
    (mark_under new height (c ∷ cs)) (mark_under new height ((c ∷ cs) ++ []))
    (λ k. ap (λ (l : List Child). mark_under old height (b ∷ l) k) (append-nil bs))
    (λ k. ap (λ (l : List Child). mark_under new height (c ∷ l) k) (append-nil cs)) marks
mark_before right height old new key marking b c bs cs (d ∷ ds) same rising up before marks =
    as_marks (MarksWithin marking key b.left right) (both_sides d.left (mark_under old height (b ∷ bs))
    (mark_under old height (d ∷ ds))) (mark_under old height ((b ∷ bs) ++ d ∷ ds))
    (both_sides d.left (mark_under new height (c ∷ cs)) (mark_under old height (d ∷ ds))) (mark_under new height ((c ∷ cs) ++ d ∷ ds))
    (λ k. mark_cut old height right k (b ∷ bs) d ds (omega arith) rising)
    (λ k. mark_cut new height right k (c ∷ cs) d ds (omega arith) up
    ∙ ap (λ (n : ℕ). if starts_after k d then mark_under new height (c ∷ cs) k else n) (under_mark old new height right (d ∷ ds) same k))
    (marks_low d.left (mark_under old height (b ∷ bs)) (mark_under new height (c ∷ cs)) (mark_under old height (d ∷ ds)) key
    before marking b.left right (ends_after right d ds (rising_back right (b ∷ bs) (d ∷ ds) rising)) marks)

module _ (f : List Element → List Element) (key : Key) (marking : Marking) (level : ℕ) (right : Base) (height : ℕ)
    (old new : PageMap) (local : IsLocal f key) where
  -- a child before those that change
  pub changed_later : (c d e : Child) (ds es : List Child) → IsChild c → AreRising right (c ∷ d ∷ ds) → AreStored old height level
      right (c ∷ d ∷ ds) → IsFrom (key_of d.left) key
      → ChangedUnder f key marking level right height old new (d ∷ ds) (e ∷ es) → ChangedUnder f key marking level right height
      old new (c ∷ d ∷ ds) (c ∷ e ∷ es)
  changed_later c d e ds es child rising stored from change =
      let same : IsSameUnder old new height (c ∷ []) = record {
        same = λ x is. change.pages.kept x
            (first_apart old height x level right c (d ∷ ds) rising stored (alone_true (is_under old height x c) is))
            (under_there old height x level d.left (c ∷ []) (stored.0, tt) is);
      } in
      let one : AreStored new height level d.left (c ∷ []) = under_stored old new height d.left (c ∷ []) same level (stored.0, tt) in
      let was : List Element = elements_in old height (node_at old c.child) in
      let begins : AllByRecursion (λ x. IsBefore (element_key x) key) was =
      each_so (λ x. IsInside c.left d.left (element_key x)) (λ x. IsBefore (element_key x) key) was
      (λ x inside. key_before_from (element_key x) (key_of d.left) key inside.before from)
      (elements_inside old height (child_place level d.left c) (node_at old c.child) stored.0.tree) in
      let first : elements_in new height (node_at new c.child) ≡ was =
      sym (append-nil (elements_in new height (node_at new c.child))) ∙ under_elements old new height d.left (c ∷ []) same ∙ append-nil was in
      let later : (k : Key) → starts_after k e ≡ starts_after k d = λ k. ap (λ (b : Base). is_lt (key_cmp k (key_of b))) change.left in
      record {
        stored = (subst (λ (b : Base). IsStoredTree new height (child_place level b c)) (sym change.left) one.0, change.stored);
        elements = ap (λ (l : List Element). l ++ elements_under new height (e ∷ es)) first ∙ ap (λ (l : List Element). was ++ l) change.elements
            ∙ sym (local.front was (elements_under old height (d ∷ ds)) begins);
        mark = as_marks (MarksWithin marking key c.left right) (both_sides d.left (mark_under old height (c ∷ []))
            (mark_under old height (d ∷ ds))) (mark_under old height (c ∷ d ∷ ds))
            (both_sides d.left (mark_under old height (c ∷ [])) (mark_under new height (e ∷ es))) (mark_under new height (c ∷ e ∷ es))
            (λ k. mark_cons old height k c d ds)
            (λ k. mark_cons new height k c e es ∙ ap (λ (t : Bool). if t then mark_under new height (c ∷ []) k else mark_under new height (e ∷ es) k) (later k)
            ∙ ap (λ (n : ℕ). if starts_after k d then n else mark_under new height (e ∷ es) k) (under_mark old new height d.left (c ∷ []) same k))
            (marks_high d.left (mark_under old height (c ∷ [])) (mark_under old height (d ∷ ds)) (mark_under new height (e ∷ es))
            key from marking c.left right (begins_before right c (d ∷ ds) rising) change.mark);
        pages = replaces_same old new (λ x. is_under old height x c || has_under old height (d ∷ ds) x)
            (λ x. is_under old height x c || has_under new height (e ∷ es) x)
            (has_under old height (c ∷ d ∷ ds)) (has_under new height (c ∷ e ∷ es)) (λ x. refl)
            (λ x. ap (λ (b : Bool). b || has_under new height (e ∷ es) x) (alone (is_under new height x c)
            (is_under old height x c) (under_has old new height d.left (c ∷ []) same x)))
            (replaces_front old new (λ x. is_under old height x c) (has_under old height (d ∷ ds)) (has_under new height (e ∷ es)) change.pages);
        left = refl;
        rising = rising_cons right c (e ∷ es) (before_all c.left right (e ∷ es) change.rising
            (subst (λ (b : Base). IsBefore (key_of c.left) (key_of b)) (sym change.left) (begins_before right c (d ∷ ds) rising))) change.rising;
        fields = (child, change.fields);
      }

  -- children after those that change
  pub changed_before : (b c : Child) (bs cs ds : List Child) → AllByRecursion IsChild ds → AreRising right ((b ∷ bs) ++ ds)
      → AreStored old height level right ((b ∷ bs) ++ ds) → IsBefore key (key_of (next_left right ds))
      → ChangedUnder f key marking level (next_left right ds) height old new (b ∷ bs) (c ∷ cs) → ChangedUnder f key marking level
      right height old new ((b ∷ bs) ++ ds) ((c ∷ cs) ++ ds)
  changed_before b c bs cs ds children rising stored before change =
      let after : AreStored old height level right ds = stored_back old height level right (b ∷ bs) ds stored in
      let sorted : AreRising right ds = rising_back right (b ∷ bs) ds rising in
      let same : IsSameUnder old new height ds = record {
        same = λ x is. change.pages.kept x
            (later_apart old height x level right (b ∷ bs) ds rising stored is) (under_there old height x level right ds after is);
      } in
      let was : List Element = elements_under old height ds in
      let ends : AllByRecursion (λ x. IsBefore key (element_key x)) was =
      each_so (λ x. IsInside (next_left right ds) right (element_key x)) (λ x. IsBefore key (element_key x)) was
      (λ x inside. key_before_from key (key_of (next_left right ds)) (element_key x) before inside.from)
      (inside_under old height level right ds sorted after) in
      let up : AreRising right ((c ∷ cs) ++ ds) = rising_append right (c ∷ cs) ds change.rising sorted in
      let one : Child → List Element = λ (x : Child). elements_in old height (node_at old x.child) in
      let other : Child → List Element = λ (x : Child). elements_in new height (node_at new x.child) in
      record {
        stored = stored_append new height level right (c ∷ cs) ds change.stored (under_stored old new height right ds same level after);
        elements = flat_map-append other (c ∷ cs) ds ∙ ap (λ (l : List Element). elements_under new height (c ∷ cs) ++ l)
            (under_elements old new height right ds same)
            ∙ ap (λ (l : List Element). l ++ was) change.elements ∙ sym (local.back (elements_under old height (b ∷ bs)) was ends)
            ∙ ap f (sym (flat_map-append one (b ∷ bs) ds));
        mark = mark_before right height old new key marking b c bs cs ds same rising up before change.mark;
        pages = replaces_same old new (λ x. has_under old height (b ∷ bs) x || has_under old height ds x)
            (λ x. has_under new height (c ∷ cs) x || has_under old height ds x)
            (has_under old height ((b ∷ bs) ++ ds)) (has_under new height ((c ∷ cs) ++ ds)) (λ x. under_append old height x (b ∷ bs) ds)
            (λ x. under_append new height x (c ∷ cs) ds ∙ ap (λ (t : Bool). has_under new height (c ∷ cs) x || t) (under_has old new height right ds same x))
            (replaces_back old new (has_under old height ds) (has_under old height (b ∷ bs)) (has_under new height (c ∷ cs)) change.pages);
        left = change.left;
        rising = up;
        fields = each_append IsChild (c ∷ cs) ds change.fields children;
      }
