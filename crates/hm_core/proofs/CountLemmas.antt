-- A history that is legal with some counts of faults is legal with later ones.
use Rattle.std.proofs.Common.{ℕ, ◌<◌, ◌≤◌, max, Bool, true, false, List, arith}
use Rattle.hm_types.specs.Faults.{IsMedia}
use Rattle.hm_model.specs.After.{Event}
use Rattle.hm_model.specs.Caused.{Counts, HasCause, HasNumbers, IsCutAt, Known, ended_command, is_output}
use Rattle.hm_model.specs.Caused.{counts_after, known_after, known_at, stream_count, stream_told}
use Rattle.hm_model.specs.Legal.{IsLegal, MayFollow, Setting}
use Rattle.hm_model.specs.declared.entry.Entry.{Entry}
use Rattle.hm_model.specs.declared.reply.Reply.{Reply}
use Rattle.hm_model.specs.declared.reply.Reply.TheVariants.{Cut, Media, StreamFault, Synced}
use Rattle.hm_core.specs.Counts.{AreLater, with_disk}

pub later_still : (a b c : Counts) → AreLater a b → AreLater b c → AreLater a c
later_still a b c first second =
    let d = first.disk in let i = first.input in let o = first.output in
    let e = second.disk in let j = second.input in let p = second.output in
    record { disk = omega (arith, d, e); input = omega (arith, i, j); output = omega (arith, o, p) }

pub later_same : (counts : Counts) → AreLater counts counts
later_same counts = record { disk = omega arith; input = omega arith; output = omega arith }

pub disk_later : (counts : Counts) (old new : ℕ) → old ≤ new → AreLater (with_disk counts old) (with_disk counts new)
disk_later counts old new le = record { disk = le; input = omega arith; output = omega arith }

media_later : (from now later before after : ℕ) → now ≤ later → IsMedia from now before after → IsMedia from later before after
media_later from now later before after le is = (let end = is.end in record { begin = is.begin; rose = is.rose; end = omega (arith, le, end) })

stream_later : (output : Bool) (now later : Counts) → AreLater now later → stream_count output now ≤ stream_count output later
stream_later true now later le = le.output
stream_later false now later le = le.input

-- the numbers of a reply have their cause
abbrev pub NumbersOf : Counts → Known → Entry → Reply → Type 0
NumbersOf now known e reply = elim reply [
  | Synced boundary ↦ (known.boundary ≤ boundary.0) × (boundary.0 < e.id.0)
  | Media before after ↦ IsMedia known.counts.disk now.disk before after
  | StreamFault before after ↦
      let output : Bool = is_output known.opened e.call in
      IsMedia (stream_count output known.counts) (stream_count output now) before after
  | Cut items ↦ IsCutAt (ended_command known.opened e.call) items
  | other ↦ Unit {0}
]

numbers_later : (now later : Counts) (known : Known) (e : Entry) → AreLater now later → HasNumbers now known e → HasNumbers later known e
numbers_later now later known e le numbers = by e.reply numbers where
  by : (reply : Reply) → NumbersOf now known e reply → NumbersOf later known e reply
  by (Synced boundary) is = is
  by (Media before after) is = media_later known.counts.disk now.disk later.disk before after le.disk is
  by (StreamFault before after) is =
      let output : Bool = is_output known.opened e.call in
      media_later (stream_count output known.counts) (stream_count output now) (stream_count output later) before after
      (stream_later output now later le) is
  by (Cut items) is = is
  by other is = tt

pub cause_later : (now later : Counts) (known : Known) (event : Event) → AreLater now later → HasCause now known event → HasCause later known event
cause_later now later known event le cause = record {
  id = cause.id;
  drawn = cause.drawn;
  read = cause.read;
  possible = cause.possible;
  numbers = numbers_later now later known event.entry le cause.numbers;
}

-- the same run, with other counts now
abbrev pub counted_to : Setting → Counts → Setting
counted_to run later = record run { now = later }

pub follows_later : (run : Setting) (later : Counts) (before : List Event) (event : Event) → AreLater run.now later
    → MayFollow run before event → MayFollow (counted_to run later) before event
follows_later run later before event le follows = record {
  caused = cause_later run.now later (known_after (known_at run.opening.last run.start) before) event le follows.caused;
  allowed = follows.allowed;
  lands = follows.lands;
  fed = follows.fed;
  undamaged = follows.undamaged;
}

pub legal_later : (run : Setting) (later : Counts) (events : List Event) → AreLater run.now later → IsLegal run events
    → IsLegal (counted_to run later) events
legal_later run later events le legal before event rest is = follows_later run later before event le (legal before event rest is)

-- A reply told no more faults than were counted: so none of a history did.
abbrev CountsTold : Known → Entry → Reply → Counts
CountsTold known e reply = elim reply as (λ r. Counts) [
  | Media before after ↦ record known.counts { disk = max known.counts.disk after }
  | StreamFault before after ↦ stream_told (is_output known.opened e.call) after known.counts
  | other ↦ known.counts
]

stream_most : (output : Bool) (after : ℕ) (counts now : Counts) → AreLater counts now → after ≤ stream_count output now
    → AreLater (stream_told output after counts) now
stream_most true after counts now le end =
    let least = le.output in record { disk = le.disk; input = le.input; output = omega (arith, least, end) }
stream_most false after counts now le end =
    let least = le.input in record { disk = le.disk; input = omega (arith, least, end); output = le.output }

pub told_most : (now : Counts) (known : Known) (e : Entry) → AreLater known.counts now → HasNumbers now known e → AreLater (counts_after known e) now
told_most now known e le numbers = by e.reply numbers where
  by : (reply : Reply) → NumbersOf now known e reply → AreLater (CountsTold known e reply) now
  by (Media before after) is =
      let least = le.disk in let end = is.end in
      record { disk = omega (arith, least, end); input = le.input; output = le.output }
  by (StreamFault before after) is = stream_most (is_output known.opened e.call) after known.counts now le is.end
  by other is = le
