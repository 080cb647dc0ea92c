-- Whether the books of a volume are in order.
use Rattle.std.specs.Prelude.{ℕ, Bool, IsTrue, List, Option, None, Some, IfSome}
use Rattle.std.proofs.Common.{refl, arith}
use Rattle.std.proofs.lemmas.Bool.{ne_eqb}
use native.Mathlib.Decide.{ℕ_discrete, dec_le, dec_lt}
use mathlib.Core.List.{List-discrete}
use Rattle.hm_types.specs.Layout.{IsPool, first_pool}
use Rattle.hm_types.specs.Offset.{zone_of}
use Rattle.hm_types.specs.declared.zone.TheConstants.{META_ZONE, SMALL_ZONE, TREE_ZONE}
use Rattle.hm_fields.specs.Pages.{PageMap}
use Rattle.hm_key.specs.declared.element.Element.{Element}
use Rattle.hm_freemap.specs.Entry.{SpellsEntry}
use Rattle.hm_freemap.specs.Places.{page_of, place_of}
use Rattle.hm_freemap.specs.Stand.{StandBy}
use Rattle.hm_freemap.proofs.DecideLemmas.{standing_decided}
use Rattle.hm_image.specs.Sound.{IsAmongPayloads}
use Rattle.hm_stored.specs.Basis.{AreFixed, Basis, IsFirm, elements_in, entry_outside, nodes, states_of}
use Rattle.hm_stored.specs.Decide.{dec_all, dec_and, dec_below, dec_by_test, dec_given, dec_if, dec_not, from_holds, holds, to_holds}
use Rattle.hm_stored.specs.DecideTree.{EndsWithOffsets, dec_tree_space}

-- no node stands where no offset is, since nothing of its zone does
nodes_end : (pages : PageMap) → EndsWithOffsets (nodes pages)
nodes_end pages at beyond = rw (ne_eqb (zone_of at) TREE_ZONE (λ is. omega arith)) refl

dec_stand : (b : Basis) → Dec (StandBy b.bigblocks b.append b.maps (states_of b))
dec_stand b = dec_by_test (standing_decided b.bigblocks b.append b.maps (states_of b))

dec_payload : (e : Element) → Dec (IsAmongPayloads e)
dec_payload e = dec_and (dec_le META_ZONE (zone_of e.payload)) (dec_le (zone_of e.payload) SMALL_ZONE)

dec_pool : (bigblocks block : ℕ) → Dec (IsPool bigblocks block)
dec_pool bigblocks block = dec_and (dec_le (first_pool bigblocks) block) (dec_lt block bigblocks)

dec_spelled : (bigblocks block : ℕ) (page : Option (List ℕ))
    → Dec (IfSome page (λ page. SpellsEntry page (place_of block) (entry_outside bigblocks block)))
dec_spelled bigblocks block None = yes tt
dec_spelled bigblocks block (Some page) = List-discrete ℕ_discrete _ _

dec_fixed : (bigblocks : ℕ) (pages : PageMap) → Dec (AreFixed bigblocks pages)
dec_fixed bigblocks pages = dec_below (λ block. dec_if (dec_not (dec_pool bigblocks block)) (dec_spelled bigblocks block (pages (page_of block)))) _

pub dec_firm : (b : Basis) → Dec (IsFirm b)
dec_firm b =
    let pages = nodes b.maps.current in
    dec_given (λ h. h.tree) (dec_tree_space pages b.roots.current (nodes_end b.maps.current)) λ tree.
    dec_given (λ h. h.stand) (dec_stand b) λ stand.
    dec_given (λ h. h.zones) (dec_all dec_payload (elements_in b)) λ zones.
    dec_given (λ h. h.fixed) (dec_fixed b.bigblocks b.maps.current) λ fixed.
    yes (record { tree = tree; stand = stand; zones = zones; fixed = fixed })

-- whether the books are in order
unfoldable pub is_firm : Basis → Bool
is_firm b = holds (dec_firm b)

pub from_firm : (b : Basis) → IsTrue (is_firm b) → IsFirm b
unfolding is_firm
from_firm b firm = from_holds (dec_firm b) firm

pub to_firm : (b : Basis) → IsFirm b → IsTrue (is_firm b)
unfolding is_firm
to_firm b firm = to_holds (dec_firm b) firm
