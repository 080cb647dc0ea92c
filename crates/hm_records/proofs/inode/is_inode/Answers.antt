use Rattle.std.proofs.Common.{arith, rules}
use Rattle.hm_records.proofs.inode.is_inode.Goals as goal

pub returns-then-inode-eq-PFS_LINK : goal.returns-then-inode-eq-PFS_LINK
returns-then-inode-eq-PFS_LINK c = (
  (λ yes. record {
    sized = search rules;
    size = search rules;
    links = search rules;
    pfs = omega arith;
    no_pfs = λ other. absurd (other c.if-inode-eq-PFS_LINK.true);
  }),
  λ is. search rules,
)

pub returns-else-inode-eq-PFS_LINK : goal.returns-else-inode-eq-PFS_LINK
returns-else-inode-eq-PFS_LINK c = (
  (λ yes. record {
    sized = search rules;
    size = search rules;
    links = omega arith;
    pfs = omega arith;
    no_pfs = λ other. search rules;
  }),
  λ is. search rules,
)
