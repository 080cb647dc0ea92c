-- The rules of a page that says that it holds an inner node.
use Rattle.std.proofs.Common.{◌≡◌, ℕ, suc, ◌+◌, ◌≤◌, List, [], ◌∷◌, ◌++◌, length, map, refl, sym, ap, subst, ◌∙◌, ◌↔◌, arith}
use Rattle.std.specs.Prelude.{All}
use Rattle.std.specs.List.Sorted.{IsStrictlySortedBy}
use Rattle.hm_types.specs.declared.limits.TheConstants.{MOST_INNER_CHILDREN, MOST_LEVELS}
use Rattle.hm_key.specs.declared.base.Base.{Base}
use Rattle.hm_node.specs.Base.{base_in, base_cmp}
use Rattle.hm_node.specs.Head.{head_in}
use Rattle.hm_node.specs.Places.{place, first, bases_in, IsZeroOutside}
use Rattle.hm_node.specs.Inner.{child_in, first_children, inner_in, boundaries, IsBound, IsChild, AreChildPlaces}
use Rattle.hm_node.specs.Node.{node_in, HasLevel, HasCount, HasOrder, HasFields, HasMirror, SaysLevel, HasZeros}
use Rattle.hm_node.specs.Damage.{Keeps}
use Rattle.hm_node.specs.declared.head.Head.{Head}
use Rattle.hm_node.specs.declared.head.TheConstants.{INNER}
use Rattle.hm_node.specs.declared.inner.Child.{Child}
use Rattle.hm_node.specs.declared.node.Node.{Node}
use Rattle.hm_node.specs.declared.node.Node.TheVariants.{Inner}
use Rattle.hm_node.specs.declared.rule.Rule.TheVariants.{Level, Count, Order, Fields, Mirror}
use Rattle.hm_node.proofs.FieldLemmas.{child_left}
use Rattle.hm_node.proofs.PlaceLemmas.{first_length, first_map, first_same, first_all, all_first}

-- the left boundaries of the children
lefts_of_children : (page : List ℕ) (n : ℕ) → map (λ (c : Child). c.left) (first_children page n) ≡ bases_in page n
lefts_of_children page n =
    first_map (λ (c : Child). c.left) (λ i. child_in page (place i)) n
    ∙ first_same (λ i. (child_in page (place i)).left) (λ i. base_in page (place i)) n (λ i low. child_left page (place i))

-- all boundaries
all_boundaries : (page : List ℕ) (n : ℕ) → map (λ (c : Child). c.left) (first_children page n) ++ base_in page (place n) ∷ [] ≡ bases_in page (n + 1)
unfolding first
all_boundaries page n = let more : n + 1 ≡ suc n = omega arith in rw (more, lefts_of_children page n) refl

-- what the head of an inner node says: it has this level, so many children, and this `mirror`
pub record InnerHead (page : List ℕ) (level n mirror : ℕ) : Type 0 where
  pub kind : (head_in page).kind ≡ INNER
  pub high : level ≡ (head_in page).level
  pub count : n ≡ (head_in page).count
  pub latest : mirror ≡ (head_in page).mirror

pub inner_head : (page : List ℕ) (head : Head) (n : ℕ) → head ≡ head_in page → head.kind ≡ INNER → n ≡ head.count → InnerHead page head.level n head.mirror
inner_head page head n is kind count = record {
  kind = ap (λ (h : Head). h.kind) (sym is) ∙ kind;
  high = ap (λ (h : Head). h.level) is;
  count = count ∙ ap (λ (h : Head). h.count) is;
  latest = ap (λ (h : Head). h.mirror) is;
}

module _ {page : List ℕ} {level n mirror : ℕ} (h : InnerHead page level n mirror) where
  inner_here : node_in page ≡ Inner (inner_in page)
  inner_here = rw h.kind refl

  -- what holds of the inner node holds of the node
  of_inner : (P : Node → Type 0) → P (Inner (inner_in page)) → P (node_in page)
  of_inner P = subst P (sym inner_here)

  to_inner : (P : Node → Type 0) → P (node_in page) → P (Inner (inner_in page))
  to_inner P = subst P inner_here

  size : length (first_children page (head_in page).count) ≡ n
  size = first_length (λ i. child_in page (place i)) (head_in page).count ∙ sym h.count

  pub inner_level : ((2 ≤ level) × (level ≤ MOST_LEVELS)) ↔ Keeps page Level
  inner_level = (
    λ high. (of_inner (SaysLevel page) (record { kind = h.kind; level = refl }), of_inner HasLevel (rw (← h.high) high)),
    λ kept. rw h.high (to_inner HasLevel kept.1),
  )

  pub inner_count : ((1 ≤ n) × (n ≤ MOST_INNER_CHILDREN)) ↔ Keeps page Count
  inner_count = (λ some. of_inner HasCount (rw size some), λ kept. rw (← size) (to_inner HasCount kept))

  pub inner_order : IsStrictlySortedBy base_cmp (bases_in page (n + 1)) ↔ Keeps page Order
  inner_order =
      let same : boundaries (inner_in page) ≡ bases_in page (n + 1) = all_boundaries page (head_in page).count ∙ ap
      (λ (k : ℕ). bases_in page (k + 1)) (sym h.count) in (
        λ rising. of_inner HasOrder (subst (IsStrictlySortedBy base_cmp) (sym same) rising),
        λ kept. subst (IsStrictlySortedBy base_cmp) same (to_inner HasOrder kept),
      )

  pub inner_fields : (IsBound (base_in page (place n)) × AreChildPlaces page n × IsZeroOutside page (place n + 40)) ↔ Keeps page Fields
  inner_fields =
      let all = size in
      let counted = h.count in (
        λ three. (
          of_inner HasFields (record {
            children = first_all (λ i. child_in page (place i)) IsChild (head_in page).count (λ i low. (three.1 i (omega arith)).child);
            right = rw (← counted) three.0;
          }),
          of_inner (HasZeros page) (record {
            outside = rw all three.2;
            places = λ i low. (three.1 i (omega arith)).zero;
          }),
        ),
        λ kept.
            let fields = to_inner HasFields kept.0 in
            let children = all_first (λ i. child_in page (place i)) IsChild (head_in page).count fields.children in
            let zeros = to_inner (HasZeros page) kept.1 in
            (rw counted fields.right, λ i low. record { child = children i (omega arith); zero = zeros.places i (omega arith) }, rw (← all) zeros.outside),
      )

  pub inner_mirror : (cs : List Child) → cs ≡ first_children page n → All (λ c. c.mirror ≤ mirror) cs ↔ Keeps page Mirror
  inner_mirror cs read =
      let all : cs ≡ first_children page (head_in page).count = read ∙ ap (first_children page) h.count in
      (λ each. of_inner HasMirror (rw (← h.latest, ← all) each), λ kept. rw (h.latest, all) (to_inner HasMirror kept))

  -- the inner node that was read
  pub inner_read : (cs : List Child) (right : Base) → cs ≡ first_children page n → right ≡ base_in page (place n)
      → record { level = level; mirror = mirror; places = record { items = cs }; right = right } ≡ inner_in page
  inner_read cs right read last = rw (read ∙ ap (first_children page) h.count, last ∙ ap (λ (k : ℕ). base_in page (place k)) h.count, h.high, h.latest) refl
