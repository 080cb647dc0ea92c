-- An inode, and the bytes that spell it.
use Rattle.std.proofs.Common.{ap, sym, ◌∙◌, ◌≡◌, ℕ, List, [], length, take, drop, slice_index, refl}
use Rattle.byteorder.specs.Endian.{little_number}
use Rattle.byteorder.specs.Numbers.{little_number-reads_back}
use Rattle.hm_records.specs.declared.inode.Inode.{Inode}
use Rattle.hm_records.specs.Inode.{IsInode, inode_bytes}

-- the numbers that stand where an inode has them
abbrev pub inode_in : List ℕ → Inode
inode_in bytes = record {
  kind = slice_index bytes 0;
  size = little_number 8 (take 8 (drop 8 bytes));
  links = little_number 4 (take 4 (drop 16 bytes));
  pfs = record { 0 = little_number 2 (take 2 (drop 20 bytes)) };
}

same_inode : (a b : Inode) → a.kind ≡ b.kind → a.size ≡ b.size → a.links ≡ b.links → a.pfs.0 ≡ b.pfs.0 → a ≡ b
same_inode a b kind size links pfs =
    let make : ℕ → ℕ → ℕ → ℕ → Inode = λ k s l p. record { kind = k; size = s; links = l; pfs = record { 0 = p } } in
    let all : make a.kind a.size a.links a.pfs.0 ≡ make b.kind b.size b.links b.pfs.0 = rw (kind, size, links, pfs) refl in
    all

pub length-inode : (inode : Inode) → length (inode_bytes inode) ≡ 32
unfolding inode_bytes
length-inode inode = refl

-- they are those of the inode that was written
pub inode_back : (inode : Inode) → IsInode inode → inode_in (inode_bytes inode) ≡ inode
unfolding inode_bytes
inode_back inode is =
    same_inode (inode_in (inode_bytes inode)) inode refl
    (little_number-reads_back 8 inode.size [] is.size)
    (little_number-reads_back 4 inode.links [] is.links)
    (little_number-reads_back 2 inode.pfs.0 [] is.pfs)

-- some bytes are those of one inode
pub one_inode : (a b : Inode) → IsInode a → IsInode b → inode_bytes a ≡ inode_bytes b → a ≡ b
one_inode a b is is' same = sym (inode_back a is) ∙ ap inode_in same ∙ inode_back b is'
