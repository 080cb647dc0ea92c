use Rattle.hm_records.proofs.InodeLemmas.{length-inode}
use Rattle.hm_records.proofs.EntryLemmas.{length-entry}
use Rattle.hm_records.proofs.PfsLemmas.{length-pfs}
use Rattle.hm_records.proofs.laws.payloads_have_their_sizes.Goals as goal

pub returns : goal.returns
returns c = record { inode = length-inode; entry = length-entry; pfs = length-pfs }
