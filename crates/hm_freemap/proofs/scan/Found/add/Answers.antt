use Rattle.std.proofs.Common.{◌≡◌, refl, arith, slice_set, rules, length, ⊎_elim}
use Rattle.std.proofs.lemmas.Bool.{cases_eq}
use Rattle.std.proofs.lemmas.List.{get_or-set_same, get_or-set_other}
use Rattle.hm_freemap.proofs.ScanLemmas.{finds_one}
use Rattle.hm_freemap.proofs.scan.Found.add.Goals as goal
use Rattle.hm_freemap.proofs.scan.Found.add.Goals.{then-self-lt4, else-self-lt4}

pub returns-clause-found : goal.returns-clause-found
returns-clause-found c free blocks is finds =
    let first = c.args.self.now.first in
    let count = c.args.self.now.count in
    let four : length first ≡ 4 = search rules in
    elim c.if-self-lt4.branch [
      | then-self-lt4 w ↦ rw w.self-is
          (finds_one free c.args.limit blocks c.args.block c.args.self.now (slice_set first count c.args.block) is c.requires
          (λ i low few. get_or-set_other first count i c.args.block 0 (λ same. absurd (omega arith)))
          (λ few. get_or-set_same first count c.args.block 0 (omega arith))
          finds)
      | else-self-lt4 w ↦ rw w.self-is
          (finds_one free c.args.limit blocks c.args.block c.args.self.now first is c.requires (λ i low few. refl) (λ few. absurd (omega arith)) finds)
    ]

pub returns-clause-below : goal.returns-clause-below
returns-clause-below c bound inside below =
    let first = c.args.self.now.first in
    let count = c.args.self.now.count in
    elim c.if-self-lt4.branch [
      | then-self-lt4 w ↦ λ i low.
          let four : length first ≡ 4 = search rules in
          rw w.self-is (⊎_elim
          (λ (same : i ≡ count). rw (same, get_or-set_same first count c.args.block 0 (omega arith)) inside)
          (λ other. rw (get_or-set_other first count i c.args.block 0 other) (below i low))
          (cases_eq i count))
      | else-self-lt4 w ↦ λ i low. rw w.self-is (below i low)
    ]
