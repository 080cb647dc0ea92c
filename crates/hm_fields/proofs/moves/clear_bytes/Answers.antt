use Rattle.std.proofs.Common.{◌≡◌, ◌+◌, ◌-◌, ◌++◌, List, ℕ, length, take, drop, replicate, arith, rules, subst, sym, ap, ◌∙◌, length-drop, length-take-le}
use Rattle.std.proofs.lemmas.List.{drop-drop}
use borrow.Rule.Slice.PartMut.{mid_of, put_mid, same_len_mid}
use Rattle.hm_types.specs.declared.limits.TheConstants.{PAGE_BYTES}
use Rattle.hm_fields.proofs.MoveLemmas.{bytes_cleared}
use Rattle.hm_fields.proofs.moves.clear_bytes.Goals as goal

pub returns : goal.returns
returns c =
    let bytes = c.page.inside.bytes in
    let old = c.args.page.now in
    let from = c.args.from in
    let to = c.args.to in
    let long : length (mid_of from (to - from) bytes) ≡ to - from =
    length-take-le (to - from) (drop from bytes) (omega (arith, c.page.told, length-drop from bytes)) in
    let zeros : c.fill.new.self ≡ replicate (to - from) 0 =
    c.fill.ensures.after (λ y is. is) ∙ ap (λ (n : ℕ). replicate n 0) long in
    let end : drop (to - from) (drop from bytes) ≡ drop to bytes = drop-drop (to - from) from bytes ∙ ap (λ (k : ℕ). drop k bytes) (omega arith) in
    let whole : put_mid from (to - from) bytes c.fill.new.self ≡ take from old ++ (replicate (to - from) 0 ++ drop to old) =
    rw (zeros, end) (ap (λ (l : List ℕ). take from l ++ (replicate (to - from) 0 ++ drop to l)) c.page.view_is) in
    let sized : length (put_mid from (to - from) bytes c.fill.new.self) ≡ PAGE_BYTES =
    same_len_mid from (to - from) bytes c.fill.new.self c.fill.ensures.len ∙ c.page.told in
    bytes_cleared old (put_mid from (to - from) bytes c.fill.new.self) from to c.requires.order
    (omega (arith, c.page.told, c.requires.within, ap (λ (l : List ℕ). length l) c.page.view_is)) whole sized
