use Rattle.std.proofs.Common.{◌≡◌, arith}
use Rattle.std.proofs.lemmas.Bool.{eqb-true}
use Rattle.hm_fields.specs.Fields.{get}
use Rattle.hm_freemap.specs.Layer1.{layer1_of}
use Rattle.hm_load.proofs.OffsetLemmas.{offset_word, words_of, zero_words}
use Rattle.hm_load.proofs.layer1.is_entry.Goals as goal

pub returns-then-word-raw : goal.returns-then-word-raw
returns-then-word-raw c =
    let raw : get c.args.bytes.now c.args.at 8 ≡ layer1_of c.args.bigblocks c.args.i =
    omega (arith, c.word.ensures, c.if-word-raw.true, c.raw.ensures.value, c.layer1_offset.ensures) in (
      λ is. words_of c.args.bytes.now c.args.at c.args.bigblocks c.args.i c.requires.size (λ k. omega (arith, c.type_inv.bytes k)) c.requires.within raw
          (c.are_zeros.ensures.0 is),
      λ has. c.are_zeros.ensures.1 (zero_words c.args.bytes.now c.args.at c.args.bigblocks c.args.i c.requires.size has),
    )

pub returns-else-word-raw : goal.returns-else-word-raw
returns-else-word-raw c = (
  λ is. absurd (c.if-word-raw.false (eqb-true c.word.result c.raw.result is)),
  λ has. absurd (c.if-word-raw.false
      (omega (
        arith,
        c.word.ensures,
        offset_word c.args.bytes.now c.args.at c.args.bigblocks c.args.i c.requires.size has,
        c.raw.ensures.value,
        c.layer1_offset.ensures,
      ))),
)
