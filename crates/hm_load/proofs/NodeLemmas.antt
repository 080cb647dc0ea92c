-- A node whose page comes into a store.
use Rattle.std.proofs.Common.{◌≡◌, ℕ, ◌^◌, ◌<◌, ◌≤◌, false, true≢false, List, Option, Some, None, is_some, inl, inr, refl, ap, sym, ◌∙◌}
use Rattle.std.proofs.Common.{arith, replicate}
use Rattle.std.proofs.lemmas.Bool.{cases_lt}
use Rattle.hm_types.specs.Layout.{start_of}
use Rattle.hm_types.specs.Offset.{byte_of}
use Rattle.hm_types.specs.declared.limits.TheConstants.{MOST_BIGBLOCKS, PAGE_BYTES}
use Rattle.hm_fields.specs.Fields.{get, zero_page}
use Rattle.hm_fields.proofs.FieldLemmas.{get_zero}
use Rattle.hm_node.specs.Inner.{IsNodeOffset}
use Rattle.hm_node.specs.Node.{Spells, kind_of}
use Rattle.hm_node.specs.declared.node.Node.{Node}
use Rattle.hm_node.specs.declared.node.Node.TheVariants.{Leaf as leaf_node, Inner as inner_node}
use Rattle.hm_pages.specs.Store.{Store}
use Rattle.hm_search.specs.Place.{SpellsHere}
use Rattle.hm_search.specs.declared.subtree.Subtree.{Subtree}
use Rattle.hm_load.specs.Loaded.{IsPlain, Puts}
use Rattle.hm_load.specs.Tree.{AddsNode}

-- a page of zeros
zeros : replicate PAGE_BYTES 0 ≡ zero_page
unfolding zero_page
zeros = refl

-- it spells no node
pub zero_no_node : (page : List ℕ) (node : Node) → page ≡ replicate PAGE_BYTES 0 → Spells page node → ⊥
zero_no_node page node zero spelled = by_kind node (sym spelled.says.kind ∙ (ap (λ (p : List ℕ). get p 0 1) (zero ∙ zeros) ∙ get_zero 0 1)) where
  by_kind : (n : Node) → kind_of n ≡ 0 → ⊥
  by_kind (leaf_node leaf) is = omega (arith, is)
  by_kind (inner_node inner) is = omega (arith, is)

none_there : (o : Option (List ℕ)) → is_some o ≡ false → o ≡ None
none_there None is = refl
none_there (Some page) is = absurd (true≢false is)

module _ (bigblocks : ℕ) (s : Subtree) (node : Node) (page : List ℕ) (old new : Store) (size : bigblocks ≤ MOST_BIGBLOCKS)
    (offset : IsNodeOffset s.at) (here : SpellsHere s page node) (past : start_of bigblocks ≤ byte_of s.at → page ≡ replicate PAGE_BYTES 0) where
  below : byte_of s.at < 2 ^ 43
  below = elim (cases_lt (byte_of s.at) (start_of bigblocks)) [
    | inl low ↦ omega arith
    | inr high ↦ absurd (zero_no_node page node (past high) here.spelled)
  ]

  pub node_added : is_some (old.current s.at) ≡ false → Puts s.at page old new → IsPlain new × AddsNode s node old.current new.current
  node_added none puts = (
    puts.plain,
    record {
      page = page;
      free = none_there (old.current s.at) none;
      put = puts.put;
      spot = record { node = offset; below = below };
      spelled = here.spelled;
      sound = here.sound;
      fits = here.fits;
    },
  )
