use Rattle.hm_state.proofs.MountedLemmas.{mounted, mounted_free, mounted_header, mounted_pages, mounted_written}
use Rattle.hm_state.proofs.laws.a_mounted_volume_is_held.Goals as goal

pub returns-clause-held : goal.returns-clause-held
returns-clause-held c = mounted

pub returns-clause-header : goal.returns-clause-header
returns-clause-header c = mounted_header

pub returns-clause-written : goal.returns-clause-written
returns-clause-written c = mounted_written

pub returns-clause-pages : goal.returns-clause-pages
returns-clause-pages c = mounted_pages

pub returns-clause-free : goal.returns-clause-free
returns-clause-free c = mounted_free
