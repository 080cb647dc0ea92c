-- What is known of an object of a view by the inode that counts for it.
use Rattle.std.specs.Prelude.{◌≡◌, ℕ, Option, None, Some}
use Rattle.hm_types.specs.declared.object.Object.{Object}
use Rattle.hm_key.specs.Counts.{Content}
use Rattle.hm_records.specs.View.{IsObject}
use Rattle.hm_records.specs.declared.inode.Inode.{Inode}

-- an inode makes this object of what counts
pub record IsMadeBy (counts : Content) (pfs : ℕ) (inode : Inode) (o : Object) : Type 0 where
  pub object : IsObject counts pfs o
  pub same : object.inode ≡ inode

-- what is found of an object of a view: its inode, and none exactly where there is no object
abbrev pub IsFoundBy : Content → ℕ → Option Object → Option Inode → Type 0
IsFoundBy counts pfs None None = Unit {0}
IsFoundBy counts pfs (Some o) (Some inode) = IsMadeBy counts pfs inode o
IsFoundBy counts pfs None (Some inode) = ⊥
IsFoundBy counts pfs (Some o) None = ⊥
