use Rattle.std.proofs.Common.{◌≡◌, ℕ, ◌+◌, ◌-◌, ◌^◌, ◌<◌, ◌≤◌, ◌∙◌, Option, ap, arith, length, min, replicate, rules, subst, take}
use Rattle.std.proofs.lemmas.List.{length-replicate, length-take}
use Rattle.hm_key.specs.Key.{key_of}
use Rattle.hm_key.specs.declared.element.Element.{Element}
use Rattle.hm_files.specs.Bytes.{AreBytesRead, IsReached, block_end}
use Rattle.hm_files.specs.Nearest.{FindsNearest}
use Rattle.hm_files.proofs.PieceLemmas.{before_bytes, element_bytes, ended_bytes, none_bytes}
use Rattle.hm_files.proofs.ReadLemmas.{piece_read, piece_told}
use Rattle.hm_files.proofs.read.read_piece.Goals as goal

pub returns-in_default-clause-ok : goal.returns-in_default-clause-ok
returns-in_default-clause-ok g c =
    let size = c.args.size in
    let offset = c.args.offset in
    let t = c.args.as_of.0 in
    let pfs = c.args.pfs.0 in
    let obj = c.args.obj.0 in
    let at = key_of c.bytes_base-at.result in
    let near = c.min-near.result in
    let last = c.end_of_block-last.result in
    let len = length c.args.buffer.now in
    let n = c.clear_to.result in
    let zeros = take n c.clear_to.new.buffer in
    let is : zeros ≡ replicate n 0 = c.clear_to.ensures.zeros in
    let few : n ≤ len = search rules in
    let near_is : near ≡ min size (min (block_end offset) (2 ^ 64 - 1)) = c.min-near.ensures ∙ ap (min size) c.end_of_block.ensures in
    let inside : offset < near = search rules in
    piece_told (g.T.HasElements.elements c.args.store.now) (g.T.HasRoom.extents c.args.store.now) at near last t c.in_ok-element.field-0
    (AreBytesRead t pfs obj size offset zeros) (g.met.T.ElementStore.sorted c.args.store.now) (g.met.T.Extents.live c.args.store.now) c.in_ok-element.ensures.ok
    (λ es xs content live balanced finds reached. rw is
    (none_bytes es xs at pfs obj size offset near last t len c.bytes_base-at.ensures.about near_is c.end_of_block-last.ensures c.requires.some
    content live balanced inside n few (subst (λ (k : ℕ). IsReached es (offset + k)) (ap length is ∙ length-replicate {A = ℕ} n 0) reached)
    (subst (λ (f : Option Element). FindsNearest es at near last t f) c.in_default.is finds)))

pub returns-then-offset-begin-clause-ok : goal.returns-then-offset-begin-clause-ok
returns-then-offset-begin-clause-ok g c =
    let size = c.args.size in
    let offset = c.args.offset in
    let t = c.args.as_of.0 in
    let pfs = c.args.pfs.0 in
    let obj = c.args.obj.0 in
    let at = key_of c.bytes_base-at.result in
    let near = c.min-near.result in
    let last = c.end_of_block-last.result in
    let len = length c.args.buffer.now in
    let e = c.in-Some.element in
    let n = c.clear_to-then-offset-begin.result in
    let zeros = take n c.clear_to-then-offset-begin.new.buffer in
    let is : zeros ≡ replicate n 0 = c.clear_to-then-offset-begin.ensures.zeros in
    let few : n ≤ len = search rules in
    let near_is : near ≡ min size (min (block_end offset) (2 ^ 64 - 1)) = c.min-near.ensures ∙ ap (min size) c.end_of_block.ensures in
    let inside : offset < near = search rules in
    piece_told (g.T.HasElements.elements c.args.store.now) (g.T.HasRoom.extents c.args.store.now) at near last t c.in_ok-element.field-0
    (AreBytesRead t pfs obj size offset zeros) (g.met.T.ElementStore.sorted c.args.store.now) (g.met.T.Extents.live c.args.store.now) c.in_ok-element.ensures.ok
    (λ es xs content live balanced finds reached.
    let found = subst (λ (f : Option Element). FindsNearest es at near last t f) c.in-Some.is finds in
    rw is
    (before_bytes es xs at pfs obj size offset near last t len c.bytes_base-at.ensures.about near_is c.end_of_block-last.ensures c.requires.some
    content live balanced inside n few (subst (λ (k : ℕ). IsReached es (offset + k)) (ap length is ∙ length-replicate {A = ℕ} n 0) reached)
    e found (omega (arith, c.if-offset-begin.true))))

pub returns-then-element-offset-clause-ok : goal.returns-then-element-offset-clause-ok
returns-then-element-offset-clause-ok g c =
    let size = c.args.size in
    let offset = c.args.offset in
    let t = c.args.as_of.0 in
    let pfs = c.args.pfs.0 in
    let obj = c.args.obj.0 in
    let at = key_of c.bytes_base-at.result in
    let near = c.min-near.result in
    let last = c.end_of_block-last.result in
    let len = length c.args.buffer.now in
    let e = c.in-Some.element in
    let n = c.clear_to-then-element-offset.result in
    let zeros = take n c.clear_to-then-element-offset.new.buffer in
    let is : zeros ≡ replicate n 0 = c.clear_to-then-element-offset.ensures.zeros in
    let few : n ≤ len = search rules in
    let near_is : near ≡ min size (min (block_end offset) (2 ^ 64 - 1)) = c.min-near.ensures ∙ ap (min size) c.end_of_block.ensures in
    let inside : offset < near = search rules in
    piece_told (g.T.HasElements.elements c.args.store.now) (g.T.HasRoom.extents c.args.store.now) at near last t c.in_ok-element.field-0
    (AreBytesRead t pfs obj size offset zeros) (g.met.T.ElementStore.sorted c.args.store.now) (g.met.T.Extents.live c.args.store.now) c.in_ok-element.ensures.ok
    (λ es xs content live balanced finds reached.
    let found = subst (λ (f : Option Element). FindsNearest es at near last t f) c.in-Some.is finds in
    rw is
    (ended_bytes es xs at pfs obj size offset near last t len c.bytes_base-at.ensures.about near_is c.end_of_block-last.ensures c.requires.some
    content live balanced inside n few (subst (λ (k : ℕ). IsReached es (offset + k)) (ap length is ∙ length-replicate {A = ℕ} n 0) reached)
    e found (omega arith) (omega arith) (omega arith) (omega arith)))

pub returns-clause-ok : goal.returns-clause-ok
returns-clause-ok g c =
    let size = c.args.size in
    let offset = c.args.offset in
    let t = c.args.as_of.0 in
    let pfs = c.args.pfs.0 in
    let obj = c.args.obj.0 in
    let at = key_of c.bytes_base-at.result in
    let near = c.min-near.result in
    let last = c.end_of_block-last.result in
    let len = length c.args.buffer.now in
    let e = c.in-Some.element in
    let buffer = c.read_element.new.buffer in
    let near_is : near ≡ min size (min (block_end offset) (2 ^ 64 - 1)) = c.min-near.ensures ∙ ap (min size) c.end_of_block.ensures in
    let inside : offset < near = search rules in
    let long : length buffer ≡ len = search rules in
    let from : e.base.key ≤ offset + e.len = omega (arith, c.if-offset-begin.false) in
    piece_read (g.T.HasElements.elements c.args.store.now) (g.T.HasRoom.extents c.args.store.now) (g.T.HasRoom.extents c.nearest_version.new.store)
    at near last t c.in_ok-element.field-0 e offset c.read_element.result buffer (λ count. AreBytesRead t pfs obj size offset (take count buffer))
    (g.met.T.ElementStore.sorted c.args.store.now) (g.met.T.Extents.live c.args.store.now) c.in_ok-element.ensures.ok c.in_ok-element.ensures.keeps.extents
    c.read_element.ensures.ok
    (λ count es xs content live balanced finds are reached.
    let found = subst (λ (f : Option Element). FindsNearest es at near last t f) c.in-Some.is finds in
    element_bytes es xs at pfs obj size offset near last t len c.bytes_base-at.ensures.about near_is c.end_of_block-last.ensures c.requires.some
    content live balanced inside e (take count buffer) found (omega (arith, length-take count buffer, long)) reached from are)
