-- Lists of references in another order.
use Rattle.std.specs.Prelude.{◌≡◌, ℕ, ◌≤◌, List, All, count_by}
use Rattle.hm_types.specs.References.{Reference}
use Rattle.hm_freemap.specs.Extents.{is_extent, reference}

-- another list has each extent as often, and each of its references is to at least one byte
pub record IsReordered (old new : List Reference) : Type 0 where
  pub some : All (λ r. 1 ≤ r.len) new
  pub counts : (at len : ℕ) → count_by (is_extent (reference at len)) new ≡ count_by (is_extent (reference at len)) old
