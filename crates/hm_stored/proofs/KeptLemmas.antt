-- What a call leaves is in order again: once it was kept, a space holds the elements of its tree, where they are balanced
-- with its extents.
use Rattle.std.proofs.Common.{◌≡◌, Bool, true, false, true≢false, ℕ, ◌≤◌, List, [], ◌∷◌, map, take, Option, Some, None, refl, sym, ap, subst, ◌∙◌, arith, cond}
use Rattle.std.proofs.Common.{is_some}
use Rattle.std.specs.Prelude.{All, IfSome, IsSomeAnd, IsTrue, option_map}
use Rattle.std.proofs.Math.Logic.{∥∥₁_elim}
use Rattle.std.proofs.Props.{props}
use Rattle.std.specs.List.{AllByRecursion}
use Rattle.std.proofs.lemmas.List.Elements.{All-weaker, recursion_from_All}
use Rattle.hm_types.specs.Offset.{byte_of}
use Rattle.hm_types.specs.References.{IsPlaced, Reference}
use Rattle.hm_types.specs.Space.{rounded}
use Rattle.hm_disk.specs.Crash.{Told}
use Rattle.hm_fields.specs.Pages.{PageMap}
use Rattle.hm_btree.specs.Tree.{HoldsTree, IsTreeSpace}
use Rattle.hm_freemap.specs.Stand.{StandBy}
use Rattle.hm_freemap.proofs.ListLemmas.{all_left}
use Rattle.hm_freemap.proofs.OrderLemmas.{current_reordered}
use Rattle.hm_image.specs.Image.{bytes_at, full_of}
use Rattle.hm_image.specs.Sound.{IsAmongPayloads}
use Rattle.hm_image.proofs.ListLemmas.{map_alike}
use Rattle.hm_key.specs.Balance.{IsBalanced, IsHeld, first_bytes, full_elements, full_of as full_in}
use Rattle.hm_key.specs.Extents.{Extent, IsExtent, extent_at}
use Rattle.hm_key.specs.declared.element.Element.{Element}
use Rattle.hm_key.proofs.BalanceLemmas.{extent_each}
use Rattle.hm_search.proofs.ListLemmas.{each_so}
use Rattle.hm_stored.specs.Basis.{Basis, IsFirm, fulls_in, nodes, refers, states_of}
use Rattle.hm_stored.specs.Content.{KeepsContent, OfLists}
use Rattle.hm_stored.specs.DecideFirm.{from_firm, is_firm, to_firm}
use Rattle.hm_stored.specs.Heap.{Heap, basis_with, bytes_of, content_with, does_tell, maps_of, pages_of, places_in}
use Rattle.hm_stored.specs.Held.{HeldBy, IsKept, with_refs}
use Rattle.hm_stored.specs.Log.{filled}
use Rattle.hm_stored.specs.Standing.{Holds, HoldsBy, basis_now}
use Rattle.hm_stored.specs.Turn.{IsKeptOf}
use Rattle.hm_stored.specs.declared.roots.Roots.{Roots}
use Rattle.hm_stored.proofs.CauseLemmas.{on_begin, tells_parts}
use Rattle.hm_stored.proofs.PutLemmas.{cut_first}
use Rattle.hm_stored.proofs.ReferLemmas.{times}
use Rattle.hm_stored.proofs.ToldLemmas.{elements_at, live_in, of_lists}
use Rattle.hm_stored.proofs.TreeCountLemmas.{is_reordered, tree_counted}

-- an extent has the bytes that stand there
abbrev IsFilled : List ℕ → Extent → Type 0
IsFilled bytes x = x.bytes ≡ bytes_at bytes x.at x.len

all_filled : (bytes : List ℕ) (xs : List Extent) → AllByRecursion (IsFilled bytes) (map (filled bytes) xs)
all_filled bytes [] = tt
all_filled bytes (x ∷ xs) = (refl, all_filled bytes xs)

-- the payload of an element that is held: the bytes that stand at its place
payload_held : (bytes : List ℕ) (xs : List Extent) (e : Element) (o : Option Extent) → extent_at e.payload (map (filled bytes) xs) ≡ o
    → IsSomeAnd o (λ x. x.len ≡ rounded e.len) → first_bytes e.len o ≡ bytes_at bytes e.payload e.len
payload_held bytes xs e None found held = absurd held
payload_held bytes xs e (Some x) found held =
    let fact = extent_each (IsFilled bytes) e.payload x (map (filled bytes) xs) (all_filled bytes xs) found in
    let here : bytes_at bytes x.at x.len ≡ bytes_at bytes e.payload (rounded e.len) =
    ap (λ (at : ℕ). bytes_at bytes at x.len) fact.1 ∙ ap (bytes_at bytes e.payload) held in
    ap (take e.len) (fact.0 ∙ here) ∙ cut_first bytes (byte_of e.payload) (rounded e.len) e.len (omega arith)

full_held : (bytes : List ℕ) (xs : List Extent) (e : Element) → IsHeld (map (filled bytes) xs) e → full_in (map (filled bytes) xs) e ≡ full_of bytes e
full_held bytes xs e held =
    ap (λ (bs : List ℕ). record (full_of bytes e) { bytes = bs }) (payload_held bytes xs e (extent_at e.payload (map (filled bytes) xs)) refl held)

-- elements that are balanced with the extents have the payloads that stand at their places
pub fulls_held : (bytes : List ℕ) (xs : List Extent) (es : List Element) → IsBalanced es (map (filled bytes) xs)
    → full_elements es (map (filled bytes) xs) ≡ map (full_of bytes) es
fulls_held bytes xs es balanced =
    let held = recursion_from_All (IsHeld (map (filled bytes) xs)) es balanced.held in
    map_alike (full_in (map (filled bytes) xs)) (full_of bytes) es
    (each_so (IsHeld (map (filled bytes) xs)) (λ e. full_in (map (filled bytes) xs) e ≡ full_of bytes e) es (full_held bytes xs) held)

-- and stand in the zones of payloads
zone_held : (xs : List Extent) (e : Element) (o : Option Extent) → AllByRecursion IsExtent xs → extent_at e.payload xs ≡ o
    → IsSomeAnd o (λ x. x.len ≡ rounded e.len) → IsAmongPayloads e
zone_held xs e None each found held = absurd held
zone_held xs e (Some x) each found held =
    let fact = extent_each IsExtent e.payload x xs each found in
    subst (λ (at : ℕ). IsAmongPayloads (record e { payload = at })) fact.1 fact.0.zone

-- The books are in order for the tree from a root on.
module _ (h : Heap) (begin : PageMap) (refs : List Reference) (root : ℕ) (held : HeldBy h (basis_with h begin) refs)
    (tree : IsTreeSpace (nodes h.pages.current) root) (balanced : IsBalanced (elements_at h root) (live_in h)) where
  counts : (at len : ℕ) → times at len (refers h.pages.current root) ≡ times at len refs
  counts at len = tree_counted h.pages.current root _ _ at len tree balanced ∙ sym (held.counted at len)

  long : All (λ r. 1 ≤ r.len) refs
  long = All-weaker (IsPlaced h.bigblocks) (λ r. 1 ≤ r.len) (λ r placed. placed.some) refs (all_left (IsPlaced h.bigblocks) refs _ held.stand.placed)

  stands : StandBy h.bigblocks h.append (maps_of h) (with_refs (refers h.pages.current root) (states_of (basis_with h begin)))
  stands = current_reordered h.bigblocks h.append (maps_of h) (with_refs refs (states_of (basis_with h begin))) held.stand
      (refers h.pages.current root) (is_reordered refs (refers h.pages.current root) long counts)

  zones : All IsAmongPayloads (elements_at h root)
  zones = All-weaker (IsHeld (live_in h)) IsAmongPayloads
      (λ e is. zone_held (live_in h) e (extent_at e.payload (live_in h)) (recursion_from_All IsExtent (live_in h) held.extents.each) refl is)
      (elements_at h root) balanced.held

  pub firm_now : IsFirm (basis_now h root)
  firm_now = record { tree = tree; stand = stands; zones = zones; fixed = held.fixed }

-- The open call was kept.
module _ (h h' : Heap) (keeps : IsKeptOf h h') (kept : ∥ IsKept h ∥₁) (root : ℕ) where
  basis_is : basis_now h' root ≡ basis_now h root
  basis_is =
      by_parts h'.bigblocks h'.append h'.pages.committed h'.pages.frozen h'.pages.current h'.roots (ap (λ (x : Heap). x.bigblocks) keeps.rest)
      (ap (λ (x : Heap). x.append) keeps.rest) keeps.pages.flush.committed keeps.pages.flush.frozen keeps.pages.current (ap (λ (x : Heap). x.roots) keeps.rest)
    where
      by_parts : (n : ℕ) (a : List ℕ) (c f u : PageMap) (r : Roots) → n ≡ h.bigblocks → a ≡ h.append → c ≡ h.pages.committed → f ≡ h.pages.frozen
          → u ≡ h.pages.current → r ≡ h.roots
          → record {
            bigblocks = n;
            append = a;
            maps = record { committed = c; frozen = f; current = u };
            roots = record r { current = root };
          } ≡ basis_now h root
      by_parts n a c f u r first second third fourth fifth sixth = rw (first, second, third, fourth, fifth, sixth) refl

  -- its nodes are the tree
  told_tree : IsTrue (does_tell h) → HoldsTree (pages_of h) root → ∥ IsTreeSpace (nodes h.pages.current) root ∥₁
  told_tree told tree = subst (λ (t : Bool). ∥ IfSome (cond t (Some (nodes h.pages.current)) None) (λ pages. IsTreeSpace pages root) ∥₁) told tree

  -- so the books are in order
  is_firm_now : IsTrue (does_tell h) → ∥ IsTreeSpace (nodes h.pages.current) root ∥₁
      → IsBalanced (elements_at h root) (live_in h) → is_firm (basis_now h root) ≡ true
  is_firm_now told tree balanced =
      ∥∥₁_elim kept (hlevel props) (λ k. ∥∥₁_elim tree (hlevel props) (λ is. on_begin h (is_firm (basis_now h root) ≡ true) told k.held
      (λ begin refs held. to_firm (basis_now h root) (firm_now h begin refs root held is balanced))))

  by_disk : (d : Option Told) → h.disk ≡ d → is_some (content_with h.last (option_map (basis_with h) h.pages.begin) d) ≡ true
      → IsFirm (basis_now h' root) → IsBalanced (elements_at h root) (live_in h)
      → IsSomeAnd d (λ t. HoldsBy h' root t.bytes (full_elements (elements_at h root) (live_in h)))
  by_disk None is told firm balanced = absurd (true≢false (sym told ∙ by_begin (option_map (basis_with h) h.pages.begin))) where
    by_begin : (o : Option Basis) → is_some (content_with h.last o None) ≡ false
    by_begin None = refl
    by_begin (Some b) = refl
  by_disk (Some t) is told firm balanced = record {
    firm = firm;
    elements =
        ap (λ (b : Basis). fulls_in b t.bytes) basis_is ∙ sym (fulls_held (bytes_of h.disk) (places_in h) (elements_at h root) balanced
        ∙ ap (λ (d : Option Told). map (full_of (bytes_of d)) (elements_at h root)) is);
  }

  tells_kept : HoldsTree (pages_of h) root
      → OfLists h root (λ elements extents. IsBalanced elements extents → Holds h' root (full_elements elements extents))
  tells_kept tree =
      of_lists h root (λ elements extents. IsBalanced elements extents → Holds h' root (full_elements elements extents))
      (λ told balanced.
      let firm = ap is_firm basis_is ∙ is_firm_now told (told_tree told tree) balanced in
      subst (λ (d : Option Told). IsSomeAnd d (λ t. HoldsBy h' root t.bytes (full_elements (elements_at h root) (live_in h))))
      (sym (ap (λ (x : Heap). x.disk) keeps.rest))
      (by_disk h.disk refl (tells_parts h told).1 (from_firm (basis_now h' root) firm) balanced))

pub keeps_content : (h h' : Heap) → IsKeptOf h h' → ∥ IsKept h ∥₁ → KeepsContent h h'
keeps_content h h' keeps kept root tree = tells_kept h h' keeps kept root tree
