use Rattle.std.proofs.Common.{[]}
use Rattle.hm_records.specs.Laws.{counts_of}
use Rattle.hm_records.proofs.MadeLemmas.{directory_made, file_made, no_bytes, pfs_link_made, softlink_made}
use Rattle.hm_records.proofs.views.inodes.inodes_make_objects.Goals as goal

pub returns-clause-directory : goal.returns-clause-directory
returns-clause-directory c = λ shown pfs number inode has is. directory_made pfs number inode (counts_of shown) has is

pub returns-clause-file : goal.returns-clause-file
returns-clause-file c = λ shown pfs number inode bytes has is are. file_made pfs number inode bytes (counts_of shown) has is are

pub returns-clause-empty : goal.returns-clause-empty
returns-clause-empty c = λ shown pfs number inode has is none. file_made pfs number inode [] (counts_of shown) has is
    (no_bytes pfs number.0 inode.size (counts_of shown) none)

pub returns-clause-softlink : goal.returns-clause-softlink
returns-clause-softlink c = λ shown pfs number inode text has is leads. softlink_made pfs number inode text (counts_of shown) has is leads

pub returns-clause-pfs_link : goal.returns-clause-pfs_link
returns-clause-pfs_link c = λ shown pfs number inode has is. pfs_link_made pfs number inode (counts_of shown) has is
