use Rattle.std.proofs.Common.{◌≡◌, ◌<◌, ◌≤◌, length, sym, ◌∙◌, arith}
use Rattle.hm_key.proofs.HeldLemmas.{told_found, told_more, told_none}
use Rattle.hm_key.proofs.extent_list.ExtentList.extent.Goals as goal

pub returns-then-eq : goal.returns-then-eq
returns-then-eq c =
    let within : c.loop-held.held-index < length c.args.self.now.list.items = omega arith in
    let found = told_found c.args.at c.held-item.result c.args.self.now.list.items c.deref-held-items.result.now c.loop-held.held-index
    c.deref-held-items.ensures.value c.loop-held.invariant within (sym c.eq.ensures ∙ c.if-eq.true) c.held-item.is in
    let long : c.len.result ≡ length c.held-item.result.bytes.items = omega arith in
    rw long found

pub loop-held-preserved : goal.loop-held-preserved
loop-held-preserved c =
    let within : c.loop-held.held-index < length c.args.self.now.list.items = omega arith in
    told_more c.args.at c.held-item.result c.args.self.now.list.items c.deref-held-items.result.now c.loop-held.held-index c.deref-held-items.ensures.value
    c.loop-held.invariant within (sym c.eq.ensures ∙ c.if-eq.false) c.held-item.is

pub returns : goal.returns
returns c =
    let all : length c.args.self.now.list.items ≤ c.loop-held.held-index = omega arith in
    told_none c.args.at c.args.self.now.list.items c.loop-held.held-index c.loop-held.invariant all
