use Rattle.std.proofs.Common.{◌≡◌, ℕ, ◌+◌, ◌*◌, List, length, sym, ap, subst, ◌∙◌, arith}
use Rattle.hm_types.specs.Layout.{first_pool, start_of}
use Rattle.hm_types.specs.Told.{BothTell}
use Rattle.hm_disk.specs.Disk.{Written}
use Rattle.hm_disk.specs.Moments.{CallElapses}
use Rattle.hm_disk.proofs.DiskLemmas.{BothTell-then}
use Rattle.hm_header.proofs.AnswerLemmas.{OnOk-map}
use Rattle.hm_node.specs.Node.{Spells}
use Rattle.hm_node.specs.declared.node.Node.{Node}
use Rattle.hm_newfs.specs.Steps.{HasSpace}
use Rattle.hm_newfs.proofs.WriteLemmas.{WroteRoot, root-told, tree-elapses, tree-written}
use Rattle.hm_newfs.proofs.tree.write_tree.Goals as goal

pub returns-clause-ok : goal.returns-clause-ok
returns-clause-ok g c =
    let b = c.args.bigblocks in
    let size = c.requires.size in
    let old = g.D.Disk.told c.args.disk.now in
    let told = g.D.Disk.told c.write_at.new.self in
    let new = g.D.Disk.told c.write_at-2.new.self in
    let past = g.D.Disk.left_since c.args.disk.now in
    let middle = g.D.Disk.left_since c.write_at.new.self in
    let page = c.bytes.result.now in
    let payloads = c.fresh_payloads.result in
    let long : length page ≡ 4096 = ap length c.bytes.ensures.value ∙ c.bytes.ensures.sized in
    let root-place : c.from-pool.result * 8388608 ≡ start_of (first_pool b) = omega (arith, c.from-pool.ensures, c.first_pool.ensures.value) in
    let payload-place : (c.from-pool.result + 1) * 8388608 ≡ start_of (first_pool b + 1) = omega (arith, c.from-pool.ensures, c.first_pool.ensures.value) in
    let spells = subst (λ (n : Node). Spells page n) c.fresh_root.ensures
    (subst (λ (p : List ℕ). Spells p c.fresh_root.result) (sym c.bytes.ensures.value) c.encode.ensures) in
    let root = root-told b size page long past middle old told _ root-place c.in_ok-write_at.ensures.ok c.in_ok-write_at.ensures.any_moment in
    OnOk-map _ _ _ (λ written. BothTell-then old told new (HasSpace b) (WroteRoot b size page past middle) _ _
    (λ s t u room wrote written. tree-written b size page payloads c.fresh_payloads.ensures past middle middle s t u room wrote spells written)
    c.requires.room root
    (subst (λ (place : ℕ). BothTell told new (Written place payloads)) payload-place written))
    c.write_at-2.ensures.ok

pub returns-clause-any_moment : goal.returns-clause-any_moment
returns-clause-any_moment g c =
    let b = c.args.bigblocks in
    let size = c.requires.size in
    let old = g.D.Disk.told c.args.disk.now in
    let told = g.D.Disk.told c.write_at.new.self in
    let new = g.D.Disk.told c.write_at-2.new.self in
    let past = g.D.Disk.left_since c.args.disk.now in
    let middle = g.D.Disk.left_since c.write_at.new.self in
    let since = g.D.Disk.left_since c.write_at-2.new.self in
    let page = c.bytes.result.now in
    let payloads = c.fresh_payloads.result in
    let long : length page ≡ 4096 = ap length c.bytes.ensures.value ∙ c.bytes.ensures.sized in
    let root-place : c.from-pool.result * 8388608 ≡ start_of (first_pool b) = omega (arith, c.from-pool.ensures, c.first_pool.ensures.value) in
    let payload-place : (c.from-pool.result + 1) * 8388608 ≡ start_of (first_pool b + 1) = omega (arith, c.from-pool.ensures, c.first_pool.ensures.value) in
    let root = root-told b size page long past middle old told _ root-place c.in_ok-write_at.ensures.ok c.in_ok-write_at.ensures.any_moment in
    BothTell-then old told new (HasSpace b) (WroteRoot b size page past middle) _ _
    (λ s t u room wrote then. tree-elapses b size page payloads c.fresh_payloads.ensures past middle since s t u room wrote then) c.requires.room root
    (subst (λ (place : ℕ). BothTell told new (CallElapses place (length payloads) middle since)) payload-place c.write_at-2.ensures.any_moment)
