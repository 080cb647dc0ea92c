-- Which element of a span is found, where it was looked for from a place in it down first.
use Rattle.std.proofs.Common.{ℕ, ◌+◌, ◌≤◌, List, Option, None, Some, Result, Ok, Err, inl, inr, arith}
use Rattle.std.specs.Prelude.{IfOk, IfSome}
use Rattle.std.proofs.lemmas.Bool.{cases_lt}
use Rattle.hm_types.specs.Elements.{Key}
use Rattle.hm_types.specs.declared.fault.Fault.{Fault}
use Rattle.hm_key.specs.declared.element.Element.{Element}
use Rattle.hm_cursor.specs.Version.{IsFirst, IsFoundIn, IsLast, numbered}
use Rattle.hm_files.specs.Nearest.{FindsNearest, past}

module _ (es : List Element) (at : Key) (near last t : ℕ) where
  -- where none counts up to a number, the first past it is found
  pub past_found : (found : Option Element) → IsLast es at near t None → IsFirst es (numbered at (near + 1)) last t found
      → FindsNearest es at near last t found
  past_found (Some e) empty first = past empty first
  past_found None empty first = λ e is. elim (cases_lt near e.base.key) [
    | inl above ↦ first e (record {
      counts = is.counts;
      place = record {
        localization = is.place.localization;
        obj = is.place.obj;
        rec_type = is.place.rec_type;
        from = omega (arith, above);
        to = is.place.to;
      };
    })
    | inr low ↦ empty e (record {
      counts = is.counts;
      place = record { localization = is.place.localization; obj = is.place.obj; rec_type = is.place.rec_type; from = is.place.from; to = low };
    })
  ]

  -- so it is with what a search answers
  pub past_answered : (result : Result (Option Element) Fault) → IsLast es at near t None → IfOk result (IsFirst es (numbered at (near + 1)) last t)
      → IfOk result (FindsNearest es at near last t)
  past_answered (Err fault) empty first = tt
  past_answered (Ok found) empty first = past_found found empty first

-- what was found in a part of a span was found in it
pub found_wider : (at : Key) (first key last t : ℕ) (found : Option Element) → at.key ≤ first → key ≤ last
    → IfSome found (IsFoundIn (numbered at first) key t) → IfSome found (IsFoundIn at last t)
found_wider at first key last t None low within there = tt
found_wider at first key last t (Some e) low within there = record {
  element = there.element;
  seen = record {
    place = record {
      localization = there.seen.place.localization;
      obj = there.seen.place.obj;
      rec_type = there.seen.place.rec_type;
      from = omega (arith, low, there.seen.place.from);
      to = omega (arith, within, there.seen.place.to);
    };
    seen = there.seen.seen;
  };
}
