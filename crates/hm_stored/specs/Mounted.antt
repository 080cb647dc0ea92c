-- The books of a volume as it was mounted.
use Rattle.std.specs.Prelude.{◌≡◌, false, true, []}
use Rattle.hm_header.specs.declared.header.Header.{Header}
use Rattle.hm_stored.specs.declared.books.Books.{Books}

-- the books are those of the volume with this header: no call is open, and its trees in the three states are one
pub record IsBooksOf (header : Header) (books : Books) : Type 0 where
  pub bigblocks : books.bigblocks ≡ header.bigblocks
  pub append : (books.begun ≡ header.append) × (books.append ≡ header.append)
  pub roots : (books.roots.committed ≡ header.root) × (books.roots.frozen ≡ header.root) × (books.roots.current ≡ header.root)
  pub last : books.last ≡ header.last
  pub log : books.log.items ≡ []
  pub closed : (books.gave ≡ false) × (books.whole ≡ true)
