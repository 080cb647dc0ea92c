use Rattle.hm_core.proofs.CoreLemmas.{follows_further, follows_itself}
use Rattle.hm_core.proofs.laws.a_core_follows_what_it_followed_before.Goals as goal

pub returns-clause-itself : goal.returns-clause-itself
returns-clause-itself g c = λ disk core sound. follows_itself (g.D.Disk.left_since disk) core sound

pub returns-clause-further : goal.returns-clause-further
returns-clause-further g c = λ one two three a b c.
    follows_further (g.D.Disk.left_since one) (g.D.Disk.left_since two) (g.D.Disk.left_since three) a b c
