-- What always holds of a store of pages.
use Rattle.hm_fields.specs.declared.states.State.TheVariants.{Committed, Current, Frozen}
use Rattle.hm_stored.proofs.flushing.pages_are_sound.Goals as goal

pub returns : goal.returns
returns c = record {
  sound = c.store_is_sound.ensures;
  layer2 = c.requires.layer2;
  committed = λ at page is. c.pages_are_bytes.ensures Committed at page is;
  frozen = λ at page is. c.pages_are_bytes.ensures Frozen at page is;
  current = λ at page is. c.pages_are_bytes.ensures Current at page is;
  only = c.requires.only;
}
