use Rattle.hm_step.proofs.AddedLemmas.{master_stands, number_is_unused, slave_is_alone, slave_stands}
use Rattle.hm_step.proofs.laws.a_new_system_stands_with_the_others.Goals as goal

pub returns-clause-unused : goal.returns-clause-unused
returns-clause-unused c = λ es volume pfs stand none. number_is_unused es volume pfs stand none

pub returns-clause-master : goal.returns-clause-master
returns-clause-master c = λ es es' volume pfs shared i stand none small few some drawn adds.
    master_stands es es' volume pfs shared i stand none small few some drawn adds

pub returns-clause-slave : goal.returns-clause-slave
returns-clause-slave c = λ es es' volume pfs shared i stand none small few drawn adds.
    slave_stands es es' volume pfs shared i stand none small few drawn adds

pub returns-clause-alone : goal.returns-clause-alone
returns-clause-alone c = λ es es' volume pfs shared i stand none adds x has of_pfs.
    slave_is_alone es es' volume pfs shared i stand none adds x has of_pfs
