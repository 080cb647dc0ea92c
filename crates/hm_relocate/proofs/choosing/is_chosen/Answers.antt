-- It is told whether a big-block is chosen.
use Rattle.std.proofs.Common.{true≢false, sym, ◌∙◌, refl, rules}
use Rattle.std.proofs.lemmas.Int.{to_z-of_z}
use Rattle.std.specs.List.{Contains}
use Rattle.hm_types.specs.References.{live_bytes}
use Rattle.hm_stored.specs.Heap.{heap_of}
use Rattle.hm_relocate.proofs.ChosenLemmas.{has_append, none_append}
use Rattle.hm_relocate.proofs.choosing.is_chosen.Goals as goal
use mir.Syntax.{w64}
use mir.Val.{SFits}

pub returns-then-is_append-clause-ok : goal.returns-then-is_append-clause-ok
unfolding heap_of
returns-then-is_append-clause-ok g c =
    let has = has_append c.args.stored.now.space.books.append c.args.block (c.is_append.ensures.0 c.if-is_append.true) in
    record { exact = λ states stand. rw has refl; apart = λ is. absurd (true≢false (sym is)) }

pub returns-clause-ok : goal.returns-clause-ok
unfolding heap_of
returns-clause-ok g c =
    let append = c.args.stored.now.space.books.append in
    let apart : Contains append c.args.block → ⊥ = λ has. true≢false (sym (c.is_append.ensures.1 has) ∙ c.if-is_append.false) in
    let none = none_append append c.args.block apart in
    let fits : SFits w64 c.in_ok-live.live = search rules in
    record {
      exact = λ states stand.
          rw none (c.is_sparse.ensures (live_bytes states.current c.args.block)
          (to_z-of_z w64 c.in_ok-live.live fits ∙ c.in_ok-live.ensures.ok.exact states stand));
      apart = λ is has. apart has;
    }
