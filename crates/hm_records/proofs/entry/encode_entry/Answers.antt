use Rattle.std.proofs.Common.{rules}
use Rattle.hm_records.specs.Entry.{entry_bytes}
use Rattle.hm_records.proofs.entry.encode_entry.Goals as goal

pub returns : goal.returns
unfolding entry_bytes
returns c = search rules
