-- A node that is read where the disk tells its bytes.
use Rattle.std.proofs.Common.{◌≡◌, ℕ, ◌<◌, ◌≤◌, true, true≢false, List, Option, Some, None, is_some, inl, inr, refl, sym, ap, subst, ◌∙◌, arith, replicate}
use Rattle.std.proofs.lemmas.Bool.{cases_eq, cases_lt}
use Rattle.hm_types.specs.Layout.{start_of}
use Rattle.hm_types.specs.Offset.{byte_of}
use Rattle.hm_types.specs.declared.fault.Fault.{Fault}
use Rattle.hm_types.specs.declared.fault.Fault.TheVariants.{Media, Damaged, NoMemory}
use Rattle.hm_types.specs.declared.limits.TheConstants.{PAGE_BYTES}
use Rattle.hm_fields.specs.Pages.{PageMap}
use Rattle.hm_node.specs.Inner.{IsNodeOffset}
use Rattle.hm_node.specs.Node.{node_in}
use Rattle.hm_node.specs.declared.node.Node.{Node}
use Rattle.hm_pages.specs.Maps.{set_at}
use Rattle.hm_search.specs.Place.{IsLowestBroken, SpellsHere, TellsDamage}
use Rattle.hm_search.specs.declared.subtree.Subtree.{Subtree}
use Rattle.hm_load.specs.Damage.{IsNodeDamage, volume_page}
use Rattle.hm_load.specs.Faults.{Tells}
use Rattle.hm_load.specs.Held.{AreRead, IsApart, IsAboveOrBefore, IsRead}
use Rattle.hm_load.proofs.ApartLemmas.{not_beside}
use Rattle.hm_load.proofs.NodeLemmas.{zero_no_node}
use Rattle.hm_load.proofs.StoreLemmas.{set_here, set_other}

-- a page that breaks a rule there
pub broken_node : (image : List ℕ) (bigblocks : ℕ) (s : Subtree) (read : List ℕ) (fault : Fault) → read ≡ volume_page image bigblocks s.at
    → TellsDamage s (Some read) fault
    → Tells (IsNodeDamage image bigblocks s) fault
broken_node image bigblocks s read (Media before after) same tells = tt
broken_node image bigblocks s read NoMemory same tells = tt
broken_node image bigblocks s read (Damaged at kind) same tells =
    record { place = tells.0; lowest = subst (λ (p : List ℕ). IsLowestBroken s p kind) same tells.1 }

module _ (image : List ℕ) (bigblocks : ℕ) (s : Subtree) (node : Node) (read : List ℕ) (old : PageMap) (offset : IsNodeOffset s.at)
    (here : SpellsHere s read node) (same : read ≡ volume_page image bigblocks s.at) (pages : AreRead image bigblocks old) where
  -- it did not come before
  pub not_twice : IsApart s old → is_some (old s.at) ≡ true → ⊥
  not_twice apart there = go (old s.at) refl there where
    go : (o : Option (List ℕ)) → old s.at ≡ o → is_some o ≡ true → ⊥
    go None is there = true≢false (sym there)
    go (Some page) is there =
        let one : page ≡ read = (pages s.at page is).same ∙ sym same in
        let mine : node_in page ≡ node = ap node_in one ∙ here.spelled.value in
        not_beside s node here.sound here.fits (subst (λ (n : Node). IsAboveOrBefore s n) mine (apart s.at page is offset.zone))

  -- its page comes to those of the volume
  pub node_read : (new : PageMap) → (start_of bigblocks ≤ byte_of s.at → read ≡ replicate PAGE_BYTES 0) → new ≡ set_at s.at (Some read) old
      → AreRead image bigblocks new
  node_read new past put at page is = elim (cases_eq at s.at) [
    | inl place ↦
        let mine : new s.at ≡ Some read = ap (λ (map : PageMap). map s.at) put ∙ set_here s.at (Some read) old in
        let both : Some read ≡ Some page = sym mine ∙ (ap new (sym place) ∙ is) in
        let equal : read ≡ page = cc in
        let begin : byte_of s.at < start_of bigblocks = elim (cases_lt (byte_of s.at) (start_of bigblocks)) [
          | inl low ↦ low
          | inr high ↦ absurd (zero_no_node read node (past high) here.spelled)
        ] in
        let aligned = offset.aligned in
        subst (λ (a : ℕ). IsRead image bigblocks a page) (sym place) (record { within = omega arith; same = sym equal ∙ same })
    | inr apart ↦ pages at page (sym (ap (λ (map : PageMap). map at) put ∙ set_other s.at (Some read) old at apart) ∙ is)
  ]
