-- Where the paths of a call lead, and why they do not.
use Rattle.std.proofs.Common.{◌≡◌, ℕ, ◌<◌, List, [], ◌∷◌, ◌++◌, Bool, true, false, Option, Some, None, map, refl, ◌∙◌, sym, ap, subst}
use Rattle.std.specs.List.{AllZip, list_any}
use Rattle.hm_types.specs.declared.limits.TheConstants.{GREATEST_ID}
use Rattle.hm_path.specs.declared.part.Part.{Part}
use Rattle.hm_model.specs.declared.command.Command.{Command}
use Rattle.hm_model.specs.declared.paths.Use.{Use as Purpose}
use Rattle.hm_model.specs.declared.paths.Use.TheVariants.{New, Named, End}
use Rattle.hm_model.specs.declared.place.Place.{Place}
use Rattle.hm_model.specs.declared.reply.Reply.{Reply}
use Rattle.hm_model.specs.declared.stop.PlainStop.{PlainStop}
use Rattle.hm_model.specs.declared.stop.PlainStop.TheVariants.{Refused, NoMemory}
use Rattle.hm_types.specs.Tree.{FileTree}
use Rattle.hm_model.specs.Volume.{fresh_with}
use Rattle.hm_model.specs.Sites.{Use, MakesName, Parsed, Parts, IsParsed, Site, At, locate, no_site, uses_of}
use Rattle.hm_model.specs.Call.{Call, all_located, each_located}
use Rattle.hm_model.specs.Due.{Check, early_checks, first_refusal, good_path, good_paths, has_id, hash_left, ids_left, intervals_left, own_checks}
use Rattle.hm_model.specs.Due.{refusal, slaves_stay, walks}
use Rattle.hm_model.specs.Plain.{IsRead, IsUnread, LeadsNowhere, LeadsTo, locate_in, plain_view, site_of, use_needing}
use Rattle.hm_model.specs.PlainCall.{IsDueRefusal, IsPlaced, IsServed, ReadsNow, StopsCall, inner_call, located_at, needs_name, use_of}
use Rattle.hm_model.proofs.PlainCheckLemmas.{early_fail, early_pass, first_none, first_some, or_false}
use Rattle.hm_model.proofs.ReadLemmas.{read_once}

-- only the last name counts in a path that is good
pub good_by_name : (u : Purpose) (path : Parsed) → good_path (use_of u) path ≡ good_path (use_needing (needs_name u)) path
good_by_name New path = refl
good_by_name Named (Parts parts) = refl
good_by_name Named path = refl
good_by_name (End follows) (Parts parts) = refl
good_by_name (End follows) path = refl

-- a path leads to the same place whatever the volume's size and last id
locate_same : (size last : ℕ) (tree : FileTree) (u : Use) (parts : List Part) →
    locate (fresh_with size last tree) (plain_view tree) u parts ≡ locate_in tree u parts
locate_same size last tree u parts = refl

-- the one path of a call, and its two
paths_one : (u : Use) (word : List ℕ) (paths : List Parsed) → AllZip (λ (v : Use × List ℕ) (path : Parsed). IsParsed v.1 path) ((u, word) ∷ []) paths →
    list_any has_id paths ≡ false → (path : Parsed) × (paths ≡ path ∷ []) × IsParsed word path × (has_id path ≡ false)
paths_one u word [] each none = absurd each
paths_one u word (path ∷ []) each none = (path, refl, each.0, (or_false (has_id path) false none).0)
paths_one u word (path ∷ next ∷ more) each none = absurd each.1

reads_one : (command : Command) (u : Use) (word : List ℕ) (paths : List Parsed) → uses_of command ≡ (u, word) ∷ [] → ReadsNow command paths →
    (path : Parsed) × (paths ≡ path ∷ []) × IsParsed word path × (has_id path ≡ false)
reads_one command u word paths uses reads =
    let P : List (Use × List ℕ) → Type 0 = λ us. AllZip (λ (v : Use × List ℕ) (path : Parsed). IsParsed v.1 path) us paths in
    paths_one u word paths (subst P uses reads.each) reads.no_ids

paths_two : (u v : Use) (word other : List ℕ) (paths : List Parsed) →
    AllZip (λ (v : Use × List ℕ) (path : Parsed). IsParsed v.1 path) ((u, word) ∷ (v, other) ∷ []) paths → list_any has_id paths ≡ false → (path : Parsed)
    × (next : Parsed) × (paths ≡ path ∷ next ∷ []) × IsParsed word path × (has_id path ≡ false) × IsParsed other next × (has_id next ≡ false)
paths_two u v word other [] each none = absurd each
paths_two u v word other (path ∷ []) each none = absurd each.1
paths_two u v word other (path ∷ next ∷ []) each none =
    let both = or_false (has_id path) (list_any has_id (next ∷ [])) none in
    (path, next, refl, each.0, both.0, each.1.0, (or_false (has_id next) false both.1).0)
paths_two u v word other (path ∷ next ∷ third ∷ more) each none = absurd each.1.1

reads_two : (command : Command) (u v : Use) (word other : List ℕ) (paths : List Parsed) → uses_of command ≡ (u, word) ∷ (v, other) ∷ [] →
    ReadsNow command paths → (path : Parsed) × (next : Parsed) × (paths ≡ path ∷ next ∷ []) × IsParsed word path × (has_id path ≡ false)
    × IsParsed other next × (has_id next ≡ false)
reads_two command u v word other paths uses reads =
    let P : List (Use × List ℕ) → Type 0 = λ us. AllZip (λ (v : Use × List ℕ) (path : Parsed). IsParsed v.1 path) us paths in
    paths_two u v word other paths (subst P uses reads.each) reads.no_ids

-- a refusal before the walks, and one of a walk
pub early_stops : (call : Call) (reply : Reply) → first_refusal (ids_left call ∷ early_checks call.volume.last call.busy call.command call.paths) ≡ Some
    reply → refusal call ≡ Some reply
early_stops call reply early =
    first_some (((ids_left call ∷ early_checks call.volume.last call.busy call.command call.paths) ++ map walks (all_located call)) ++ slaves_stay call
    ∷ own_checks call) (hash_left call ∷ intervals_left call ∷ []) reply
    (first_some ((ids_left call ∷ early_checks call.volume.last call.busy call.command call.paths) ++ map walks (all_located call))
    (slaves_stay call ∷ own_checks call) reply
    (first_some (ids_left call ∷ early_checks call.volume.last call.busy call.command call.paths) (map walks (all_located call)) reply early))

pub walk_stops : (call : Call) (reply : Reply) → first_refusal (ids_left call ∷ early_checks call.volume.last call.busy call.command call.paths) ≡ None →
    first_refusal (map walks (all_located call)) ≡ Some reply → refusal call ≡ Some reply
walk_stops call reply early walked =
    first_some (((ids_left call ∷ early_checks call.volume.last call.busy call.command call.paths) ++ map walks (all_located call)) ++ slaves_stay call
    ∷ own_checks call) (hash_left call ∷ intervals_left call ∷ []) reply
    (first_some ((ids_left call ∷ early_checks call.volume.last call.busy call.command call.paths) ++ map walks (all_located call))
    (slaves_stay call ∷ own_checks call) reply
    (first_none (ids_left call ∷ early_checks call.volume.last call.busy call.command call.paths) (map walks (all_located call)) early ∙ walked))

-- a call of one path: its word is no good, its walk is refused, or it comes to its place
pub unread_one : (tree : FileTree) (command : Command) (u : Purpose) (word : List ℕ) (stop : PlainStop) → uses_of command ≡ (use_of u, word) ∷ [] →
    IsUnread (needs_name u) word stop → StopsCall tree command stop
unread_one tree command u word NoMemory uses unread = tt
unread_one tree command u word (Refused reply) uses unread = record {
  refused = λ size last paths served less reads.
      let one = reads_one command (use_of u) word paths uses reads in
      let bad : good_path (use_of u) one.0 ≡ Some reply = good_by_name u one.0 ∙ unread one.0 one.2 one.3 in
      early_stops (inner_call size last tree command paths) reply
      (early_fail size last tree command paths reply less (rw (uses, one.1, bad) refl));
}

good_one : (command : Command) (u : Purpose) (word : List ℕ) (parts : List Part) (paths : List Parsed) → uses_of command ≡ (use_of u, word) ∷ [] →
    IsRead (needs_name u) word parts → paths ≡ Parts parts ∷ [] → first_refusal (good_paths (uses_of command) paths) ≡ None
good_one command u word parts paths uses read is =
    let good : good_path (use_of u) (Parts parts) ≡ None = good_by_name u (Parts parts) ∙ read.good in
    rw (uses, is, good) refl

only_one : (command : Command) (u : Purpose) (word : List ℕ) (parts : List Part) (paths : List Parsed) → uses_of command ≡ (use_of u, word) ∷ [] →
    IsRead (needs_name u) word parts → ReadsNow command paths → paths ≡ Parts parts ∷ []
only_one command u word parts paths uses read reads =
    let one = reads_one command (use_of u) word paths uses reads in
    one.1 ∙ ap (λ p. p ∷ []) (read_once word parts one.0 read.path one.2)

pub nowhere_one : (tree : FileTree) (command : Command) (u : Purpose) (word : List ℕ) (parts : List Part) (stop : PlainStop) →
    uses_of command ≡ (use_of u, word) ∷ [] → IsRead (needs_name u) word parts → LeadsNowhere (locate_in tree (use_of u) parts) stop →
    StopsCall tree command stop
nowhere_one tree command u word parts NoMemory uses read nowhere = tt
nowhere_one tree command u word parts (Refused reply) uses read nowhere = record {
  refused = λ size last paths served less reads.
      let is : paths ≡ Parts parts ∷ [] = only_one command u word parts paths uses read reads in
      walk_stops (inner_call size last tree command paths) reply
      (early_pass size last tree command paths served less reads.no_ids (good_one command u word parts paths uses read is))
      (rw (uses, is, locate_same size last tree (use_of u) parts, nowhere) refl);
}

pub placed_one : (tree : FileTree) (command : Command) (u : Purpose) (word : List ℕ) (parts : List Part) (a b : Place) →
    uses_of command ≡ (use_of u, word) ∷ [] → IsRead (needs_name u) word parts → LeadsTo (locate_in tree (use_of u) parts) a → site_of b ≡ no_site →
    IsPlaced tree command a b
placed_one tree command u word parts a b uses read leads none = record {
  early = λ size last paths served less reads.
      let is : paths ≡ Parts parts ∷ [] = only_one command u word parts paths uses read reads in
      early_pass size last tree command paths served less reads.no_ids (good_one command u word parts paths uses read is);
  located = λ size last paths reads.
      let is : paths ≡ Parts parts ∷ [] = only_one command u word parts paths uses read reads in
      rw (uses, is, locate_same size last tree (use_of u) parts, leads) refl;
  first = rw uses refl;
  second = rw uses (sym none);
}

-- a call of two paths
pub unread_first : (tree : FileTree) (command : Command) (u v : Purpose) (word other : List ℕ) (stop : PlainStop) →
    uses_of command ≡ (use_of u, word) ∷ (use_of v, other) ∷ [] → IsUnread (needs_name u) word stop → StopsCall tree command stop
unread_first tree command u v word other NoMemory uses unread = tt
unread_first tree command u v word other (Refused reply) uses unread = record {
  refused = λ size last paths served less reads.
      let two = reads_two command (use_of u) (use_of v) word other paths uses reads in
      let bad : good_path (use_of u) two.0 ≡ Some reply = good_by_name u two.0 ∙ unread two.0 two.3 two.4 in
      early_stops (inner_call size last tree command paths) reply
      (early_fail size last tree command paths reply less (rw (uses, two.2, bad) refl));
}

first_is : (command : Command) (u v : Purpose) (word other : List ℕ) (parts : List Part) (paths : List Parsed) →
    uses_of command ≡ (use_of u, word) ∷ (use_of v, other) ∷ [] → IsRead (needs_name u) word parts → ReadsNow command paths → (next : Parsed)
    × (paths ≡ Parts parts ∷ next ∷ []) × IsParsed other next × (has_id next ≡ false)
first_is command u v word other parts paths uses read reads =
    let two = reads_two command (use_of u) (use_of v) word other paths uses reads in
    (two.1, two.2 ∙ ap (λ p. p ∷ two.1 ∷ []) (read_once word parts two.0 read.path two.3), two.5, two.6)

pub unread_second : (tree : FileTree) (command : Command) (u v : Purpose) (word other : List ℕ) (parts : List Part) (stop : PlainStop) →
    uses_of command ≡ (use_of u, word) ∷ (use_of v, other) ∷ [] → IsRead (needs_name u) word parts → IsUnread (needs_name v) other stop →
    StopsCall tree command stop
unread_second tree command u v word other parts NoMemory uses read unread = tt
unread_second tree command u v word other parts (Refused reply) uses read unread = record {
  refused = λ size last paths served less reads.
      let one = first_is command u v word other parts paths uses read reads in
      let good : good_path (use_of u) (Parts parts) ≡ None = good_by_name u (Parts parts) ∙ read.good in
      let bad : good_path (use_of v) one.0 ≡ Some reply = good_by_name v one.0 ∙ unread one.0 one.2 one.3 in
      early_stops (inner_call size last tree command paths) reply
      (early_fail size last tree command paths reply less (rw (uses, one.1, good, bad) refl));
}

good_two : (command : Command) (u v : Purpose) (word other : List ℕ) (parts more : List Part) (paths : List Parsed) →
    uses_of command ≡ (use_of u, word) ∷ (use_of v, other) ∷ [] → IsRead (needs_name u) word parts → IsRead (needs_name v) other more →
    paths ≡ Parts parts ∷ Parts more ∷ [] → first_refusal (good_paths (uses_of command) paths) ≡ None
good_two command u v word other parts more paths uses read next is =
    let good : good_path (use_of u) (Parts parts) ≡ None = good_by_name u (Parts parts) ∙ read.good in
    let fine : good_path (use_of v) (Parts more) ≡ None = good_by_name v (Parts more) ∙ next.good in
    rw (uses, is, good, fine) refl

both_are : (command : Command) (u v : Purpose) (word other : List ℕ) (parts more : List Part) (paths : List Parsed) →
    uses_of command ≡ (use_of u, word) ∷ (use_of v, other) ∷ [] → IsRead (needs_name u) word parts → IsRead (needs_name v) other more →
    ReadsNow command paths → paths ≡ Parts parts ∷ Parts more ∷ []
both_are command u v word other parts more paths uses read next reads =
    let one = first_is command u v word other parts paths uses read reads in
    one.1 ∙ ap (λ p. Parts parts ∷ p ∷ []) (read_once other more one.0 next.path one.2)

pub nowhere_first : (tree : FileTree) (command : Command) (u v : Purpose) (word other : List ℕ) (parts more : List Part) (stop : PlainStop) →
    uses_of command ≡ (use_of u, word) ∷ (use_of v, other) ∷ [] → IsRead (needs_name u) word parts → IsRead (needs_name v) other more →
    LeadsNowhere (locate_in tree (use_of u) parts) stop → StopsCall tree command stop
nowhere_first tree command u v word other parts more NoMemory uses read next nowhere = tt
nowhere_first tree command u v word other parts more (Refused reply) uses read next nowhere = record {
  refused = λ size last paths served less reads.
      let is : paths ≡ Parts parts ∷ Parts more ∷ [] = both_are command u v word other parts more paths uses read next reads in
      walk_stops (inner_call size last tree command paths) reply
      (early_pass size last tree command paths served less reads.no_ids (good_two command u v word other parts more paths uses read next is))
      (rw (uses, is, locate_same size last tree (use_of u) parts, nowhere) refl);
}

pub nowhere_second : (tree : FileTree) (command : Command) (u v : Purpose) (word other : List ℕ) (parts more : List Part) (a : Place) (stop : PlainStop) →
    uses_of command ≡ (use_of u, word) ∷ (use_of v, other) ∷ [] → IsRead (needs_name u) word parts → IsRead (needs_name v) other more →
    LeadsTo (locate_in tree (use_of u) parts) a → LeadsNowhere (locate_in tree (use_of v) more) stop → StopsCall tree command stop
nowhere_second tree command u v word other parts more a NoMemory uses read next leads nowhere = tt
nowhere_second tree command u v word other parts more a (Refused reply) uses read next leads nowhere = record {
  refused = λ size last paths served less reads.
      let is : paths ≡ Parts parts ∷ Parts more ∷ [] = both_are command u v word other parts more paths uses read next reads in
      walk_stops (inner_call size last tree command paths) reply
      (early_pass size last tree command paths served less reads.no_ids (good_two command u v word other parts more paths uses read next is))
      (rw (uses, is, locate_same size last tree (use_of u) parts, locate_same size last tree (use_of v) more, leads, nowhere) refl);
}

pub placed_two : (tree : FileTree) (command : Command) (u v : Purpose) (word other : List ℕ) (parts more : List Part) (a b : Place) →
    uses_of command ≡ (use_of u, word) ∷ (use_of v, other) ∷ [] → IsRead (needs_name u) word parts → IsRead (needs_name v) other more →
    LeadsTo (locate_in tree (use_of u) parts) a → LeadsTo (locate_in tree (use_of v) more) b → IsPlaced tree command a b
placed_two tree command u v word other parts more a b uses read next leads onward = record {
  early = λ size last paths served less reads.
      let is : paths ≡ Parts parts ∷ Parts more ∷ [] = both_are command u v word other parts more paths uses read next reads in
      early_pass size last tree command paths served less reads.no_ids (good_two command u v word other parts more paths uses read next is);
  located = λ size last paths reads.
      let is : paths ≡ Parts parts ∷ Parts more ∷ [] = both_are command u v word other parts more paths uses read next reads in
      rw (uses, is, locate_same size last tree (use_of u) parts, locate_same size last tree (use_of v) more, leads, onward) refl;
  first = rw uses refl;
  second = rw uses refl;
}

-- a command that is not served is not asked of
pub unserved : (tree : FileTree) (command : Command) (reply : Reply) → (IsServed command → ⊥) → IsDueRefusal tree command reply
unserved tree command reply never = record { refused = λ size last paths served less reads. absurd (never served) }
