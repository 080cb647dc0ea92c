use Rattle.std.proofs.Common.{◌≡◌, ◌+◌, ◌≤◌, ℕ, ap, arith}
use Rattle.hm_types.specs.declared.zone.TheConstants.{TREE_ZONE}
use Rattle.hm_btree.specs.declared.space.TheConstants.{NODE_BYTES}
use Rattle.hm_btree_tests.proofs.tests.told.Goals as goal

pub empty-requires-clause-room : goal.empty-requires-clause-room
empty-requires-clause-room c =
    let room : c.new.result.room ≡ 4_398_046_511_104 = ap (λ (f : ℕ → ℕ). f TREE_ZONE) c.new.ensures.room in
    omega (arith, room)

pub returns-in-Ok-clause-room : goal.returns-in-Ok-clause-room
returns-in-Ok-clause-room c =
    let room : c.new.result.room ≡ 4_398_046_511_104 = ap (λ (f : ℕ → ℕ). f TREE_ZONE) c.new.ensures.room in
    let spent : c.new.result.room ≤ c.in-Ok.tree.space.room + NODE_BYTES = c.in-Ok.ensures.spent.space.room TREE_ZONE in
    omega (arith, room, spent)
