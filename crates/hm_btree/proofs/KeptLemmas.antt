-- What calls on a space keep of what it tells, one after the other.
use Rattle.std.proofs.Common.{◌≡◌, ◌∙◌, ap, Result, Ok, Err}
use Rattle.std.specs.Prelude.{Option, OnOk, is_some}
use Rattle.hm_types.specs.Told.{BothTell}
use Rattle.hm_types.specs.declared.fault.Fault.{Fault}
use Rattle.hm_fields.specs.Pages.{PageMap}
use Rattle.hm_fields.specs.declared.pages.Pages.{Ghosts as Tells}
use Rattle.hm_key.specs.declared.room.HasRoom.{Ghosts as Rooms}
use Rattle.hm_btree.specs.Calls.Space.{HasKept}
use Rattle.hm_btree.proofs.ToldLemmas.{both_alike}

module _ {S : Type 0} (p : Tells S) (g : Rooms S) where
  -- a read
  pub kept_read : (a b : S) → g.extents b ≡ g.extents a → p.pages b ≡ p.pages a → HasKept p.pages g.extents a b
  kept_read a b extents pages = record { told = ap (λ (o : Option PageMap). is_some o) pages; extents = extents }

  -- a call that changes pages
  pub kept_change : (a b : S) (R : PageMap → PageMap → Type 0) → g.extents b ≡ g.extents a
      → BothTell (p.pages a) (p.pages b) R → HasKept p.pages g.extents a b
  kept_change a b R extents both = record { told = both_alike (p.pages a) (p.pages b) R both; extents = extents }

  -- a call after another
  pub kept_both : (a b c : S) → HasKept p.pages g.extents a b → HasKept p.pages g.extents b c → HasKept p.pages g.extents a c
  kept_both a b c first second = record { told = second.told ∙ first.told; extents = second.extents ∙ first.extents }

  -- where the second may fail
  pub kept_then : {T : Type 0} (a b c : S) (r : Result T Fault) → HasKept p.pages g.extents a b → OnOk r (HasKept p.pages g.extents b c)
      → OnOk r (HasKept p.pages g.extents a c)
  kept_then a b c (Ok x) first second = kept_both a b c first second
  kept_then a b c (Err fault) first second = tt
