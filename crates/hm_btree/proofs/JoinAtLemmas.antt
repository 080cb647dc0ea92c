-- Two neighbours of an inner node are joined and written.
use Rattle.std.proofs.Common.{◌≡◌, Bool, true, false, ℕ, zero, suc, ◌+◌, ◌<◌, List, [], ◌∷◌, ◌++◌, length, take, drop, remove, refl, sym}
use Rattle.std.proofs.Common.{ap, subst, ◌∙◌, arith, max, Some, None}
use Rattle.std.specs.Prelude.{Option, IsSome, IfSome, slice_get, slice_set, slice_index_or, ◌==◌, if◌then◌else◌}
use Rattle.std.proofs.lemmas.Option.{IfSome_then}
use Rattle.hm_fields.specs.Pages.{PageMap}
use Rattle.hm_types.specs.Told.{BothTell}
use Rattle.hm_node.specs.declared.inner.Child.{Child}
use Rattle.hm_node.specs.declared.inner.Inner.{Inner}
use Rattle.hm_node.specs.declared.node.Node.{Node}
use Rattle.hm_search.specs.Place.{mirror_of}
use Rattle.hm_btree.specs.Edits.{inner_of, with_mirror, with_left, ChildChange}
use Rattle.hm_btree.specs.Space.{HasWritten, HasLost}
use Rattle.hm_btree.specs.Shrink.{Joins, IsPairJoined}
use Rattle.hm_btree.specs.declared.upper.Upper.{Upper}
use Rattle.hm_btree.proofs.ToldLemmas.{both_after, both_then, told_after}
use Rattle.hm_btree.proofs.WorksLemmas.{inner_is}

-- a list at two places in turn
pair_at : {A : Type 0} (xs : List A) (i : ℕ) (a b : A) → slice_get xs i ≡ Some a → slice_get xs (suc i) ≡ Some b
    → (xs ≡ take i xs ++ a ∷ b ∷ drop (suc (suc i)) xs) × (length (take i xs) ≡ i)
pair_at [] i a b first second = absurd (cc)
pair_at (x ∷ []) zero a b first second = absurd (cc)
pair_at (x ∷ y ∷ ys) zero a b first second =
    let one : x ≡ a = cc in
    let two : y ≡ b = cc in
    (rw (one, two) refl, refl)
pair_at (x ∷ xs) (suc i) a b first second = let more = pair_at xs i a b first second in (ap (λ l. x ∷ l) more.0, ap suc more.1)

pub split_pair : {A : Type 0} (xs : List A) (i : ℕ) (a b : A) → slice_get xs i ≡ Some a → slice_get xs (i + 1) ≡ Some b
    → (xs ≡ take i xs ++ a ∷ b ∷ drop (i + 2) xs) × (length (take i xs) ≡ i)
split_pair xs i a b first second =
    let one : suc i ≡ i + 1 = omega arith in
    let two : suc (suc i) ≡ i + 2 = omega arith in
    let both = pair_at xs i a b first (subst (λ (n : ℕ). slice_get xs n ≡ Some b) (sym one) second) in
    (both.0 ∙ ap (λ (n : ℕ). take i xs ++ a ∷ b ∷ drop n xs) two, both.1)

-- what comes after the first of them
pub rest_pair : {A : Type 0} (xs : List A) (i : ℕ) (a b : A) → slice_get xs i ≡ Some a → slice_get xs (i + 1) ≡ Some b → drop (suc i) xs ≡ b ∷ drop (i + 2) xs
rest_pair {A = A} xs i a b first second =
    let one : suc i ≡ i + 1 = omega arith in
    let two : suc (suc i) ≡ i + 2 = omega arith in
    by_list xs i first (subst (λ (n : ℕ). slice_get xs n ≡ Some b) (sym one) second) ∙ ap (λ (n : ℕ). b ∷ drop n xs) two where
      by_list : (l : List A) (i : ℕ) → slice_get l i ≡ Some a → slice_get l (suc i) ≡ Some b → drop (suc i) l ≡ b ∷ drop (suc (suc i)) l
      by_list [] i first second = absurd (cc)
      by_list (x ∷ []) zero first second = absurd (cc)
      by_list (x ∷ y ∷ ys) zero first second = let same : y ≡ b = cc in ap (λ z. z ∷ ys) same
      by_list (x ∷ xs) (suc i) first second = by_list xs i first second

-- what stands at a place
pub at_place : {A : Type 0} (xs : List A) (i : ℕ) (d x : A) → slice_get xs i ≡ Some x → slice_index_or xs i d ≡ x
at_place [] i d x is = absurd (cc)
at_place (y ∷ ys) zero d x is = cc
at_place (y ∷ ys) (suc i) d x is = at_place ys i d x is

pub got_place : {A : Type 0} (xs : List A) (i : ℕ) → i < length xs → (x : A) × (slice_get xs i ≡ Some x)
got_place [] i low = absurd (omega arith)
got_place (x ∷ xs) zero low = (x, refl)
got_place (x ∷ xs) (suc i) low = got_place xs i (omega arith)

-- the value after some others and one more
module _ {A : Type 0} (x y : A) (ys : List A) where
  next_there : (xs : List A) → slice_get (xs ++ x ∷ y ∷ ys) (suc (length xs)) ≡ Some y
  next_there [] = refl
  next_there (z ∷ zs) = next_there zs

  next_gone : (xs : List A) → remove (xs ++ x ∷ y ∷ ys) (suc (length xs)) ≡ xs ++ x ∷ ys
  next_gone [] = refl
  next_gone (z ∷ zs) = ap (λ l. z ∷ l) (next_gone zs)

  next_set : (xs : List A) (w : A) → slice_set (xs ++ x ∷ y ∷ ys) (suc (length xs)) w ≡ xs ++ x ∷ w ∷ ys
  next_set [] w = refl
  next_set (z ∷ zs) w = ap (λ l. z ∷ l) (next_set zs w)

  module _ (xs : List A) (i : ℕ) (long : length xs ≡ i) where
    place_is : suc (length xs) ≡ i + 1
    place_is = omega (arith, long)

    pub second_there : slice_get (xs ++ x ∷ y ∷ ys) (i + 1) ≡ Some y
    second_there = subst (λ (n : ℕ). slice_get (xs ++ x ∷ y ∷ ys) n ≡ Some y) place_is (next_there xs)

    pub second_gone : remove (xs ++ x ∷ y ∷ ys) (i + 1) ≡ xs ++ x ∷ ys
    second_gone = subst (λ (n : ℕ). remove (xs ++ x ∷ y ∷ ys) n ≡ xs ++ x ∷ ys) place_is (next_gone xs)

    pub second_changed : (d : A) (change : A → A) → slice_set (xs ++ x ∷ y ∷ ys) (i + 1)
        (change (slice_index_or (xs ++ x ∷ y ∷ ys) (i + 1) d)) ≡ xs ++ x ∷ change y ∷ ys
    second_changed d change =
        ap (λ (w : A). slice_set (xs ++ x ∷ y ∷ ys) (i + 1) (change w)) (at_place (xs ++ x ∷ y ∷ ys) (i + 1) d y second_there)
        ∙ subst (λ (n : ℕ). slice_set (xs ++ x ∷ y ∷ ys) n (change y) ≡ xs ++ x ∷ change y ∷ ys) place_is (next_set xs (change y))

-- the value before it
pub first_changed : {A : Type 0} (xs : List A) (i : ℕ) (a b d : A) (change : A → A) → slice_get xs i ≡ Some a → slice_get xs
    (i + 1) ≡ Some b → slice_set xs i (change (slice_index_or xs i d)) ≡ take i xs ++ change a ∷ b ∷ drop (i + 2) xs
first_changed {A = A} xs i a b d change first second =
    let one : suc i ≡ i + 1 = omega arith in
    let two : suc (suc i) ≡ i + 2 = omega arith in
    ap (λ (w : A). slice_set xs i (change w)) (at_place xs i d a first) ∙ by_list xs i (change a) first
    (subst (λ (n : ℕ). slice_get xs n ≡ Some b) (sym one) second) ∙ ap (λ (n : ℕ). take i xs ++ change a ∷ b ∷ drop n xs) two where
      by_list : (l : List A) (i : ℕ) (w : A) → slice_get l i ≡ Some a → slice_get l (suc i) ≡ Some b → slice_set l i w ≡ take i l
          ++ w ∷ b ∷ drop (suc (suc i)) l
      by_list [] i w first second = absurd (cc)
      by_list (x ∷ []) zero w first second = absurd (cc)
      by_list (x ∷ y ∷ ys) zero w first second = let same : y ≡ b = cc in ap (λ z. w ∷ z ∷ ys) same
      by_list (x ∷ xs) (suc i) w first second = ap (λ l. x ∷ l) (by_list xs i w first second)

-- a page that is there stays when one is written
pub there_written : (p0 p1 : Option PageMap) (at x : ℕ) (node : Node) → IfSome p0 (λ map. IsSome (map x)) → BothTell p0 p1
    (HasWritten at node) → IfSome p1 (λ map. IsSome (map x))
there_written p0 p1 at x node there both = told_after p0 p1 both there (λ old new written there. by_test old new written.0 there (x == at) (written.2 x)) where
  by_test : (old new : PageMap) (page : List ℕ) → IsSome (old x) → (b : Bool) → new x ≡ (if b then Some page else old x) → IsSome (new x)
  by_test old new page there true is = rw is refl
  by_test old new page there false is = rw is there

module _ (before one : Inner) (i m : ℕ) (left right lower : Node) (d e : Child) (xs ys : List Child) (xs_is : xs ≡ before.places.items)
    (level : one.level ≡ before.level) (mirror : one.mirror ≡ max before.mirror m)
    (items : ChildChange (with_mirror m) before.places.items i one.places.items) (end : one.right ≡ before.right)
    (m_is : m ≡ mirror_of lower) (ys_is : ys ≡ one.places.items) where
  -- the children of which they are the nodes, as they are read
  abbrev pub first : Child
  first = slice_index_or xs i d

  abbrev pub second : Child
  second = slice_index_or ys (i + 1) e

  module _ (a b : Child) (a_at : slice_get before.places.items i ≡ Some a) (b_at : slice_get before.places.items (i + 1) ≡ Some b) where
    abbrev front : List Child
    front = take i before.places.items

    abbrev back : List Child
    back = drop (i + 2) before.places.items

    abbrev joined : Child
    joined = with_mirror (mirror_of lower) a

    long : length front ≡ i
    long = (split_pair before.places.items i a b a_at b_at).1

    one_items : one.places.items ≡ front ++ joined ∷ b ∷ back
    one_items = items d ∙ first_changed before.places.items i a b d (with_mirror m) a_at b_at ∙ ap (λ (n : ℕ). front ++ with_mirror n a ∷ b ∷ back) m_is

    first_child : first ≡ a
    first_child = ap (λ (l : List Child). slice_index_or l i d) xs_is ∙ at_place before.places.items i d a a_at

    second_child : second ≡ b
    second_child = ap (λ (l : List Child). slice_index_or l (i + 1) e) (ys_is ∙ one_items) ∙ at_place (front ++ joined ∷ b ∷ back)
        (i + 1) e b (second_there joined b back front i long)

  -- the page of the second one is there
  pub second_page : (p : Option PageMap) → i + 1 < length before.places.items
      → IfSome p (λ map. (c : Child) → slice_get before.places.items (i + 1) ≡ Some c → IsSome (map c.child)) → IfSome p (λ map. IsSome (map second.child))
  second_page p low there =
      let a = got_place before.places.items i (omega arith) in
      let b = got_place before.places.items (i + 1) low in
      IfSome_then p there (λ map there. subst (λ (c : Child). IsSome (map c.child)) (sym (second_child a.0 b.0 a.1 b.1)) (there b.0 b.1))

  -- they are one node
  pub joined_one : (after : Inner) (p0 p1 p2 : Option PageMap) → Joins left right lower None → BothTell p0 p1
      (HasWritten first.child lower) → BothTell p1 p2 (HasLost second.child)
      → after ≡ inner_of one.level one.mirror (remove one.places.items (i + 1)) one.right
      → IfSome p0 (λ old. IfSome p2 (λ new. IsPairJoined before i left right old new after))
  joined_one after p0 p1 p2 joins written lost is =
      let both : BothTell p0 p2 (λ old new. (mid : PageMap) × HasWritten first.child lower old mid × HasLost second.child mid new) =
      both_after p0 p1 p2 written lost (λ old mid new written lost. (mid, written, lost)) in
      both_then p0 p2 both (λ old new pages. record {
        lower = lower;
        upper = None;
        joins = joins;
        rejoined = λ a b a_at b_at.
            let pre : List Child = take i before.places.items in
            let post : List Child = drop (i + 2) before.places.items in
            let c : Child = with_mirror (mirror_of lower) a in
            let list : remove one.places.items (i + 1) ≡ pre ++ c ∷ post =
            ap (λ (l : List Child). remove l (i + 1)) (one_items a b a_at b_at) ∙ second_gone c b post pre i (long a b a_at b_at) in (
              (
                pages.0,
                subst (λ (x : Child). HasWritten x.child lower old pages.0) (first_child a b a_at b_at) pages.1,
                subst (λ (x : Child). HasLost x.child pages.0 new) (second_child a b a_at b_at) pages.2,
              ),
              inner_is after before.level (max before.mirror (mirror_of lower)) (pre ++ c ∷ post) before.right
                  (ap (λ (x : Inner). x.level) is ∙ level) (ap (λ (x : Inner). x.mirror) is ∙ mirror ∙ ap (max before.mirror) m_is)
                  (ap (λ (x : Inner). x.places.items) is ∙ list) (ap (λ (x : Inner). x.right) is ∙ end),
            );
      })

  -- they are two
  pub joined_two : (two after : Inner) (n : ℕ) (upper : Upper) (p0 p1 p2 : Option PageMap) → Joins left right lower (Some upper)
      → BothTell p0 p1 (HasWritten first.child lower) → BothTell p1 p2 (HasWritten second.child upper.node)
      → n ≡ mirror_of upper.node → two.level ≡ one.level → two.mirror ≡ max one.mirror n → ChildChange (with_mirror n)
      one.places.items (i + 1) two.places.items → two.right ≡ one.right
      → after.level ≡ two.level → after.mirror ≡ two.mirror → ChildChange (with_left upper.left) two.places.items
      (i + 1) after.places.items → after.right ≡ two.right
      → IfSome p0 (λ old. IfSome p2 (λ new. IsPairJoined before i left right old new after))
  joined_two two after n upper p0 p1 p2 joins written more n_is level2 mirror2 items2 end2 level3 mirror3 items3 end3 =
      let both : BothTell p0 p2 (λ old new. (mid : PageMap) × HasWritten first.child lower old mid × HasWritten second.child upper.node mid new) =
      both_after p0 p1 p2 written more (λ old mid new written more. (mid, written, more)) in
      both_then p0 p2 both (λ old new pages. record {
        lower = lower;
        upper = Some upper;
        joins = joins;
        rejoined = λ a b a_at b_at.
            let pre : List Child = take i before.places.items in
            let post : List Child = drop (i + 2) before.places.items in
            let c : Child = with_mirror (mirror_of lower) a in
            let b1 : Child = with_mirror n b in
            let list1 : two.places.items ≡ pre ++ c ∷ b1 ∷ post =
            items2 b ∙ ap (λ (l : List Child). slice_set l (i + 1) (with_mirror n (slice_index_or l (i + 1) b)))
            (one_items a b a_at b_at) ∙ second_changed c b post pre i (long a b a_at b_at) b (with_mirror n) in
            let list : after.places.items ≡ pre ++ c ∷ record { left = upper.left; child = b.child; mirror = mirror_of upper.node } ∷ post =
            items3 b ∙ ap (λ (l : List Child). slice_set l (i + 1) (with_left upper.left (slice_index_or l (i + 1) b))) list1
            ∙ second_changed c b1 post pre i (long a b a_at b_at) b (with_left upper.left)
            ∙ ap (λ (k : ℕ). pre ++ c ∷ record { left = upper.left; child = b.child; mirror = k } ∷ post) n_is in (
              (
                pages.0,
                subst (λ (x : Child). HasWritten x.child lower old pages.0) (first_child a b a_at b_at) pages.1,
                subst (λ (x : Child). HasWritten x.child upper.node pages.0 new) (second_child a b a_at b_at) pages.2,
              ),
              inner_is after before.level (max (max before.mirror (mirror_of lower)) (mirror_of upper.node))
                  (pre ++ c ∷ record { left = upper.left; child = b.child; mirror = mirror_of upper.node } ∷ post) before.right
                  (level3 ∙ level2 ∙ level) (mirror3 ∙ mirror2 ∙ ap (max one.mirror) n_is
                  ∙ ap (λ (k : ℕ). max k (mirror_of upper.node)) (mirror ∙ ap (max before.mirror) m_is)) list (end3 ∙ end2 ∙ end),
            );
      })
