use Rattle.std.proofs.Common.{ℕ, ◌+◌, ◌≡◌, ◌∙◌, sym, ap, arith, max, inl, refl, true≢false, false}
use Rattle.hm_fields.specs.Fields.{Apart, get}
use Rattle.hm_fields.proofs.FieldLemmas.{get_put_apart, get_put_apart_two}
use Rattle.hm_node.specs.Head.{head_in}
use Rattle.hm_node.specs.Places.{place}
use Rattle.hm_node.specs.declared.head.Head.{Head}
use Rattle.hm_node.proofs.InnerEditLemmas.{inner_bytes, mirror_set}
use Rattle.hm_node.proofs.edit.set_mirror.Goals as goal

pub place-requires : goal.place-requires
place-requires c = omega (arith, c.requires.at, (inner_bytes c.args.page.now c.requires.inner).some.1)

pub get_u64-requires : goal.get_u64-requires
get_u64-requires c = omega (arith, c.place.ensures, c.requires.at, (inner_bytes c.args.page.now c.requires.inner).some.1)

pub place-requires-2 : goal.place-requires-2
place-requires-2 c = omega (arith, c.requires.at, (inner_bytes c.args.page.now c.requires.inner).some.1)

pub put_u64-requires : goal.put_u64-requires
put_u64-requires c = omega (arith, c.place-2.ensures, c.requires.at, (inner_bytes c.args.page.now c.requires.inner).some.1)

pub returns-then-get_u64-mirror : goal.returns-then-get_u64-mirror
returns-then-get_u64-mirror c =
    let old = c.args.page.now in
    let n = (head_in old).count in
    let bytes = inner_bytes old c.requires.inner in
    let high = ap (λ (h : Head). h.mirror) c.read-head.ensures.value in
    mirror_set old old c.args.at n c.args.mirror bytes c.requires.at (λ x size a b. refl) bytes.sized
    (ap (λ (k : ℕ). get old (k + 48) 8) (sym c.place.ensures) ∙ sym c.get_u64.ensures ∙ c.if-get_u64-mirror.true) false refl
    (omega (arith, high, c.if-mirror-head.true)) (λ no. refl)

pub returns : goal.returns
returns c =
    let old = c.args.page.now in
    let p1 = c.put_u64.new.page in
    let new = c.put_u64-2.new.page in
    let i = c.args.at in
    let n = (head_in old).count in
    let bytes = inner_bytes old c.requires.inner in
    let at : c.place-2.result ≡ place i = c.place-2.ensures in
    let beside : (x size : ℕ) → Apart (place i + 48) 8 x size → Apart 8 8 x size → get new x size ≡ get old x size = λ x size a b.
    rw (c.put_u64-2.ensures.change, c.put_u64.ensures.change, at) (get_put_apart_two old (place i + 48) 8 c.args.mirror 8 8 c.max.result x size a b) in
    let held : get new (place i + 48) 8 ≡ c.args.mirror =
    rw c.put_u64-2.ensures.change (get_put_apart p1 8 8 c.max.result (place i + 48) 8 (inl (omega arith)))
    ∙ ap (λ (k : ℕ). get p1 (k + 48) 8) (sym at) ∙ c.put_u64.ensures.held in
    mirror_set old new i n c.args.mirror bytes c.requires.at beside c.put_u64-2.ensures.sized held _ refl
    (c.put_u64-2.ensures.held ∙ c.max.ensures ∙ ap (λ (h : Head). max h.mirror c.args.mirror) c.read-head.ensures.value)
    (λ no. absurd (true≢false no))
