-- The orders of objects and of triples.
use Rattle.std.proofs.Common.{◌≡◌, ◌≢◌, ℕ, true, false, refl, sym, ap, ◌∙◌, true≢false, arith}
use Rattle.std.specs.Prelude.{IsTrue}
use Rattle.std.specs.Cmp.{IsTotalOrder}
use Rattle.std.specs.Cmp.Lexicographic.{slice_cmp}
use Rattle.std.specs.Ordering.{nat_cmp, ordering_then, ordering_reverse, is_lt, is_gt, on, then_cmp}
use Rattle.std.specs.declared.cmp.Ordering.{Ordering}
use Rattle.std.specs.declared.cmp.Ordering.TheVariants.{Less, Equal, Greater}
use Rattle.std.proofs.lemmas.Bool.{false≢true}
use Rattle.std.proofs.lemmas.Bool.Decides.{nat_tests}
use Rattle.std.proofs.lemmas.Cmp.{nat_cmp_total, nat_list_cmp_total, on_total, then_total, ranked}
use Rattle.std.proofs.lemmas.Map.Lookups.{exact_bytes}
use Rattle.hm_types.specs.declared.object.Object.{Object}
use Rattle.hm_types.specs.declared.object.Triple.{Triple}
use Rattle.hm_types.specs.Tree.{is_object_before, is_triple_before}

-- ---- objects

pub object_trans : (o p q : Object) → IsTrue (is_object_before o p) → IsTrue (is_object_before p q) → IsTrue (is_object_before o q)
object_trans o p q first second = grind (arith, nat_tests, first, second)

pub object_strict : (o p : Object) → IsTrue (is_object_before o p) → IsTrue (is_object_before p o) → ⊥
object_strict o p first second = grind (arith, nat_tests, first, second)

pub object_apart : (o p : Object) → o.number.0 ≢ p.number.0 → is_object_before o p ≡ false → IsTrue (is_object_before p o)
object_apart o p differ not = grind (arith, nat_tests, differ, not)

-- ---- triples

abbrev pub triple_cmp : Triple → Triple → Ordering
triple_cmp =
    then_cmp (on (λ (t : Triple). t.directory.0) nat_cmp) (on (λ (t : Triple). t.name) (slice_cmp nat_cmp))

triple_total : IsTotalOrder triple_cmp
triple_total =
    then_total (on_total (λ (t : Triple). t.directory.0) nat_cmp_total) (on_total (λ (t : Triple). t.name) nat_list_cmp_total)

is_less : (r : Ordering) → is_lt r ≡ true → r ≡ Less
is_less Less is = refl
is_less Equal is = absurd (false≢true is)
is_less Greater is = absurd (false≢true is)

pub triple_trans : (t u v : Triple) → IsTrue (is_triple_before t u) → IsTrue (is_triple_before u v) → IsTrue (is_triple_before t v)
triple_trans t u v first second =
    ap is_lt (triple_total.trans t u v (is_less (triple_cmp t u) first) (is_less (triple_cmp u v) second))

pub triple_strict : (t u : Triple) → IsTrue (is_triple_before t u) → IsTrue (is_triple_before u t) → ⊥
triple_strict t u first second =
    let back : triple_cmp t u ≡ ordering_reverse (triple_cmp u t) = triple_total.antisymm t u in
    let there : triple_cmp u t ≡ Less = is_less (triple_cmp u t) second in
    let here : triple_cmp t u ≡ Less = is_less (triple_cmp t u) first in
    let both : Less ≡ Greater = sym here ∙ back ∙ ap ordering_reverse there in
    true≢false (ap is_lt both)

-- the order tells two triples apart by their directory and their name
both_equal : (r s : Ordering) → ordering_then r s ≡ Equal → (r ≡ Equal) × (s ≡ Equal)
both_equal Less s same = absurd (true≢false (ap is_lt same))
both_equal Equal s same = (refl, same)
both_equal Greater s same = absurd (true≢false (ap is_gt same))

same_number : (m n : ℕ) → nat_cmp m n ≡ Equal → m ≡ n
same_number m n same = rw same at (ranked m n (nat_cmp m n) refl)

pub triple_apart : (t u : Triple) → (t.directory.0 ≡ u.directory.0 → t.name ≡ u.name → ⊥) → is_triple_before t u ≡ false
    → IsTrue (is_triple_before u t)
triple_apart t u differ not = by_order (triple_cmp t u) refl where
  by_order : (r : Ordering) → triple_cmp t u ≡ r → IsTrue (is_triple_before u t)
  by_order Less is = absurd (true≢false (sym (ap is_lt is) ∙ not))
  by_order Equal is =
      let both = both_equal (nat_cmp t.directory.0 u.directory.0) (slice_cmp nat_cmp t.name u.name) is in
      absurd (differ (same_number t.directory.0 u.directory.0 both.0) (exact_bytes t.name u.name both.1))
  by_order Greater is =
      ap is_lt (triple_total.antisymm u t ∙ ap ordering_reverse is)
