-- How often the tree of a space refers to its nodes and to its extents, where its elements are balanced with these.
use Rattle.std.proofs.Common.{◌≡◌, Bool, true, false, ℕ, ◌≤◌, List, [], ◌++◌, map, Option, Some, None, refl, sym, ap, ◌∙◌, arith, cond}
use Rattle.std.proofs.Common.{append-nil, nat_eq, is_some}
use Rattle.std.specs.Prelude.{All, option_map, ◌&&◌}
use Rattle.std.specs.List.{Contains}
use Rattle.std.proofs.lemmas.List.Elements.{All-contains_itself, All-same, All-weaker}
use Rattle.std.proofs.lemmas.List.Sums.{get_or-le-sum_by}
use Rattle.hm_types.specs.References.{Reference}
use Rattle.hm_types.specs.Space.{rounded}
use Rattle.hm_fields.specs.Pages.{PageMap}
use Rattle.hm_btree.specs.Tree.{IsTreeSpace}
use Rattle.hm_freemap.specs.Extents.{is_extent}
use Rattle.hm_freemap.specs.Order.{IsReordered}
use Rattle.hm_freemap.proofs.CountLemmas.{bit}
use Rattle.hm_freemap.proofs.ExtentLemmas.{find_one}
use Rattle.hm_freemap.proofs.PutLemmas.{same_test}
use Rattle.hm_image.specs.Referred.{is_node, is_node_extent, one_if, references_of}
use Rattle.hm_image.proofs.NodeCountLemmas.{node_once, page_once}
use Rattle.hm_image.proofs.ReferredLemmas.{elements_counted, references_counted}
use Rattle.hm_key.specs.Balance.{IsBalanced}
use Rattle.hm_key.specs.Extents.{Extent, extent_at}
use Rattle.hm_search.specs.Tree.{elements_of}
use Rattle.hm_stored.specs.Basis.{nodes, refers}
use Rattle.hm_stored.specs.Held.{expected}
use Rattle.hm_stored.specs.Log.{filled}
use Rattle.hm_stored.proofs.PlaceLemmas.{at_filled}
use Rattle.hm_stored.proofs.ReferLemmas.{referred_where, times}

-- two tests that count alike are one
one_test : (s t : Bool) → one_if s ≡ one_if t → s ≡ t
one_test true true same = refl
one_test true false same = absurd (omega (arith, same))
one_test false true same = absurd (omega (arith, same))
one_test false false same = refl

same_uses : (bytes : List ℕ) (len : ℕ) (o : Option Extent) → references_of len (option_map (filled bytes) o) ≡ references_of len o
same_uses bytes len None = refl
same_uses bytes len (Some x) = refl

pub tree_counted : (pages : PageMap) (root : ℕ) (bytes : List ℕ) (xs : List Extent) (at len : ℕ) → IsTreeSpace (nodes pages) root
    → IsBalanced (elements_of (nodes pages) root) (map (filled bytes) xs) → times at len (refers pages root) ≡ expected (nodes pages) xs at len
tree_counted pages root bytes xs at len tree balanced =
    let mine = nodes pages in
    let all = references_counted at len mine root tree.sound in
    let uses = elements_counted at len (map (filled bytes) xs) (elements_of mine root) balanced in
    let found : references_of len (extent_at at (map (filled bytes) xs)) ≡ references_of len (extent_at at xs) =
    ap (references_of len) (at_filled bytes at xs) ∙ same_uses bytes len (extent_at at xs) in
    let once : is_node mine root at ≡ is_some (mine at) =
    one_test (is_node mine root at) (is_some (mine at))
    (sym (node_once mine root at tree.sound) ∙ page_once mine root at tree.sound tree.whole) in
    let node : one_if (is_node_extent mine root at len) ≡ cond (nat_eq (rounded len) 4096 && is_some (mine at)) 1 0 =
    ap (λ (t : Bool). one_if (t && nat_eq (rounded len) 4096)) once ∙ both (is_some (mine at)) (nat_eq (rounded len) 4096) in
    omega (arith, all, uses, found, node) where
      both : (s t : Bool) → one_if (s && t) ≡ cond (t && s) 1 0
      both true true = refl
      both true false = refl
      both false true = refl
      both false false = refl

-- a list that has each extent as often as another one refers to no empty extent, where that one refers to none
module _ (old new : List Reference) (some : All (λ r. 1 ≤ r.len) old) (counts : (at len : ℕ) → times at len new ≡ times at len old) where
  one_long : (r : Reference) → Contains new r → 1 ≤ r.len
  one_long r there =
      let itself : is_extent r r ≡ true = rw (same_test r.at) (same_test (rounded r.len)) in
      let one : bit (is_extent r r) ≡ 1 = ap bit itself in
      let here = ap (λ (s : Reference). bit (is_extent r s)) there.2 in
      let least = get_or-le-sum_by (λ s. bit (is_extent r s)) new there.0 r there.1 in
      let count = counts r.at r.len in
      let found = find_one r (λ s. 1 ≤ s.len) old [] (referred_where r old (omega (arith, count, one, here, least)))
      (All-same (λ s. 1 ≤ s.len) (old ++ []) old (append-nil old) some) in
      let size = found.same.size in
      let long = found.holds in
      omega (arith, size, long)

  pub is_reordered : IsReordered old new
  is_reordered = record { some = All-weaker (Contains new) (λ r. 1 ≤ r.len) one_long new (All-contains_itself new); counts = counts }
