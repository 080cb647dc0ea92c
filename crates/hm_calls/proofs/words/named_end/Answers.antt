use Rattle.std.proofs.Common.{List, ap, refl, sym, ◌∙◌}
use Rattle.hm_path.specs.declared.part.Part.{Part}
use Rattle.hm_model.specs.Sites.{front_of, last_name}
use Rattle.hm_model.proofs.PlaceLemmas.{front_of-split, last_name-split}
use Rattle.hm_calls.proofs.WordLemmas.{is_last_name}
use Rattle.hm_calls.proofs.words.named_end.Goals as goal

pub returns-in-Some-name-clause-front : goal.returns-in-Some-name-clause-front
returns-in-Some-name-clause-front c =
    sym (ap (λ (parts : List Part). front_of parts) c.in-Some.ensures.cases.0 ∙ front_of-split c.in-Some.front.now c.in-Some.last.now)

pub returns-in-Some-name-clause-name : goal.returns-in-Some-name-clause-name
returns-in-Some-name-clause-name c =
    ap (λ (parts : List Part). last_name parts) c.in-Some.ensures.cases.0
    ∙ last_name-split c.in-Some.front.now c.in-Some.last.now
    ∙ c.in-Some-name.is

pub returns-in-Some-name-clause-is_name : goal.returns-in-Some-name-clause-is_name
returns-in-Some-name-clause-is_name c = λ word path.
    is_last_name word c.args.parts.now c.in-Some.front.now c.in-Some.last.now c.in-Some-name.name c.in-Some.ensures.cases.0 c.in-Some-name.is path

pub returns-in-None-clause-refused : goal.returns-in-None-clause-refused
returns-in-None-clause-refused c = (
  refl,
  ap (λ (parts : List Part). last_name parts) c.in-Some.ensures.cases.0
      ∙ last_name-split c.in-Some.front.now c.in-Some.last.now
      ∙ c.in-None.is,
)
