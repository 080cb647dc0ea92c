-- Edits of an inner node in its page.
use Rattle.std.proofs.Common.{◌≡◌, Bool, false, ℕ, ◌+◌, ◌<◌, ◌≤◌, inl, inr, List, length, refl, sym, ap, subst, ◌∙◌, arith}
use Rattle.std.specs.Prelude.{max, slice_set, slice_index_or}
use Rattle.std.proofs.lemmas.Bool.{cases_lt}
use Rattle.hm_types.specs.declared.limits.TheConstants.{PAGE_BYTES, MOST_LEVELS}
use Rattle.hm_fields.specs.Fields.{Apart, get}
use Rattle.hm_node.specs.Base.{base_in}
use Rattle.hm_node.specs.Edits.{IsInnerPage, SetsMirror}
use Rattle.hm_node.specs.Head.{head_in}
use Rattle.hm_node.specs.Inner.{child_in, first_children, inner_in, AreChildPlaces, IsChildPlace, IsChild, IsBound}
use Rattle.hm_node.specs.Node.{node_in, HasLevel}
use Rattle.hm_node.specs.Places.{place, IsZeroOutside}
use Rattle.hm_node.specs.declared.head.TheConstants.{INNER}
use Rattle.hm_node.specs.declared.inner.Child.{Child}
use Rattle.hm_node.specs.declared.node.Node.TheVariants.{Inner as inner_node}
use Rattle.hm_node.proofs.EditLemmas.{cases_at, first_set}
use Rattle.hm_node.proofs.FieldLemmas.{same_base, same_child}
use Rattle.hm_node.proofs.InnerLemmas.{InnerHead, inner_level, inner_count, inner_fields}
use Rattle.hm_node.proofs.PlaceLemmas.{first_at}

-- what is known of the page of an inner node
pub record InnerBytes (page : List ℕ) (n : ℕ) : Type 0 where
  pub sized : length page ≡ PAGE_BYTES
  pub kind : get page 0 1 ≡ INNER
  pub level : (2 ≤ get page 1 1) × (get page 1 1 ≤ MOST_LEVELS)
  pub count : get page 2 2 ≡ n
  pub some : (1 ≤ n) × (n ≤ 62)
  pub bound : IsBound (base_in page (place n))
  pub places : AreChildPlaces page n
  pub zeros : IsZeroOutside page (place n + 40)

pub inner_bytes : (page : List ℕ) → IsInnerPage page → InnerBytes page (head_in page).count
inner_bytes page inner =
    let here : node_in page ≡ inner_node (inner_in page) = rw inner.kind refl in
    let h : InnerHead page (head_in page).level (head_in page).count (head_in page).mirror =
    record { kind = inner.kind; high = refl; count = refl; latest = refl } in
    let three = (inner_fields h).1 (inner.holds.fields, inner.holds.spelled.zeros) in
    record {
      sized = inner.holds.spelled.sized;
      kind = inner.kind;
      level = subst HasLevel here inner.holds.level;
      count = refl;
      some = (inner_count h).1 inner.holds.count;
      bound = three.0;
      places = three.1;
      zeros = three.2;
    }

pub bytes_inner : (page : List ℕ) (n : ℕ) → InnerBytes page n → IsInnerPage page
bytes_inner page n b =
    let h : InnerHead page (head_in page).level n (head_in page).mirror =
    record { kind = b.kind; high = refl; count = sym b.count; latest = refl } in
    let fields = (inner_fields h).0 (b.bound, b.places, b.zeros) in
    let level = (inner_level h).0 b.level in
    record {
      holds = record {
        spelled = record { sized = b.sized; says = level.0; value = refl; zeros = fields.1 };
        level = level.1;
        count = (inner_count h).0 b.some;
        fields = fields.0;
      };
      kind = b.kind;
    }

-- the `mirror` of a child was put
module _ (old new : List ℕ) (i n m : ℕ) (inner : InnerBytes old n) (low : i < n)
    (beside : (x size : ℕ) → Apart (place i + 48) 8 x size → Apart 8 8 x size → get new x size ≡ get old x size)
    (sized : length new ≡ PAGE_BYTES) (held : get new (place i + 48) 8 ≡ m) where
  child_here : child_in new (place i) ≡ record (child_in old (place i)) { mirror = m }
  unfolding child_in
  child_here =
      let left = same_base new old (place i) (record { each = λ x size a b. beside x size (inr (omega arith)) (inl (omega arith)) }) in
      let child = beside (place i + 40) 8 (inr (omega arith)) (inl (omega arith)) in
      rw (left, child, held) refl

  child_other : (j : ℕ) → j < n → (j ≡ i → ⊥) → child_in new (place j) ≡ child_in old (place j)
  child_other j less not = same_child new old (place j) (record {
    each = λ x size a b. elim (cases_lt j i) [
      | inl before ↦ beside x size (inr (omega arith)) (inl (omega arith))
      | inr after ↦ elim (cases_lt i j) [
        | inl more ↦ beside x size (inl (omega arith)) (inl (omega arith))
        | inr end ↦ absurd (not (omega arith))
      ]
    ];
  })

  right_kept : base_in new (place n) ≡ base_in old (place n)
  right_kept = same_base new old (place n) (record { each = λ x size a b. beside x size (inl (omega arith)) (inl (omega arith)) })

  -- a byte that is no part of a `mirror`
  byte : (k : ℕ) → Apart (place i + 48) 8 k 1 → Apart 8 8 k 1 → get old k 1 ≡ 0 → get new k 1 ≡ 0
  byte k a b was = beside k 1 a b ∙ was

  each_child : (j : ℕ) → j < n → IsChildPlace new (place j)
  each_child j less = elim (cases_at j i) [
    | inl is ↦ subst (λ (k : ℕ). IsChildPlace new (place k)) (sym is) (
        let was = inner.places i low in record {
          child = subst IsChild (sym child_here) (record { left = was.child.left; child = was.child.child });
          zero = record { each = λ k a b. byte k (inl (omega arith)) (inl (omega arith)) (was.zero.each k a b) };
        })
    | inr not ↦
        let was = inner.places j less in record {
          child = subst IsChild (sym (child_other j less not)) was.child;
          zero = record {
            each = λ k a b. elim (cases_lt j i) [
              | inl before ↦ byte k (inr (omega arith)) (inl (omega arith)) (was.zero.each k a b)
              | inr after ↦ byte k (inl (omega arith)) (inl (omega arith)) (was.zero.each k a b)
            ];
          };
        }
  ]

  bytes_mirror : InnerBytes new n
  bytes_mirror = record {
    sized = sized;
    kind = beside 0 1 (inr (omega arith)) (inr (omega arith)) ∙ inner.kind;
    level = rw (beside 1 1 (inr (omega arith)) (inr (omega arith))) inner.level;
    count = beside 2 2 (inr (omega arith)) (inr (omega arith)) ∙ inner.count;
    some = inner.some;
    bound = subst IsBound (sym right_kept) inner.bound;
    places = each_child;
    zeros = record {
      head = record { each = λ k a b. byte k (inr (omega arith)) (inr (omega arith)) (inner.zeros.head.each k a b) };
      rest_of_head = record { each = λ k a b. byte k (inr (omega arith)) (inl (omega arith)) (inner.zeros.rest_of_head.each k a b) };
      rest = record { each = λ k a b. byte k (inl (omega arith)) (inl (omega arith)) (inner.zeros.rest.each k a b) };
    };
  }

  pub mirror_set : (changed : Bool) → n ≡ (head_in old).count → get new 8 8 ≡ max (head_in old).mirror m → (changed ≡ false → new ≡ old)
      → SetsMirror i m old new changed
  mirror_set changed count up same =
      let f = λ (j : ℕ). child_in old (place j) in
      let bytes = bytes_mirror in
      record {
        held = bytes_inner new n bytes;
        level = beside 1 1 (inr (omega arith)) (inr (omega arith));
        mirror = up;
        items = λ d.
            let was : slice_index_or (first_children old n) i d ≡ f i = first_at f n i d low in
            let list : first_children new n ≡ slice_set (first_children old n) i (record (slice_index_or (first_children old n) i d) { mirror = m }) =
            first_set f (λ j. child_in new (place j)) n i (record (slice_index_or (first_children old n) i d) { mirror = m }) low
            (child_here ∙ ap (λ (c : Child). record c { mirror = m }) (sym was)) child_other in
            ap (first_children new) bytes.count ∙ list
            ∙ ap (λ (k : ℕ). slice_set (first_children old k) i (record (slice_index_or (first_children old k) i d) { mirror = m })) count;
        right = ap (λ (k : ℕ). base_in new (place k)) bytes.count ∙ right_kept ∙ ap (λ (k : ℕ). base_in old (place k)) count;
        same = same;
      }
