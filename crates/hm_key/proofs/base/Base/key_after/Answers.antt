use Rattle.std.proofs.Common.{◌+◌, refl, rules, subst}
use Rattle.hm_types.specs.Elements.{Key}
use Rattle.hm_key.specs.Key.{IsBoundary, IsNextKey, IsWide, key_of}
use Rattle.hm_key.proofs.RiseLemmas.{next_create}
use Rattle.hm_key.proofs.base.Base.key_after.Goals as goal

pub returns-then-at-lt18446744073709551615 : goal.returns-then-at-lt18446744073709551615
returns-then-at-lt18446744073709551615 c =
    let at = c.boundary-at.result in
    let is = c.boundary-at.ensures in
    let after : Key = record (key_of at) { create = at.create + 1 } in
    let wide : IsWide after = record {
      localization = search rules;
      obj = search rules;
      rec_type = search rules;
      number = search rules;
      create = search rules;
    } in (
      record { key = refl; not_closed = is.not_closed; no_kind = is.no_kind; btype = is.btype },
      subst (λ (a : Key). IsNextKey a after) is.key (next_create (key_of at) wide),
    )
