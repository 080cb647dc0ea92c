-- Where paths lead, by their last part.
use Rattle.std.proofs.Common.{◌≡◌, ℕ, ◌+◌, ◌<◌, List, [], ◌∷◌, ◌++◌, Bool, true, false, Option, Some, None, All, get_or, length, length-append, refl}
use Rattle.std.proofs.Common.{◌∙◌, sym, ap, subst, arith}
use Rattle.std.proofs.lemmas.List.{get_or_append_left}
use Rattle.std.specs.Option.{option_map_or, is_some}
use Rattle.hm_types.specs.declared.id.Obj.{Obj}
use Rattle.hm_path.specs.declared.part.Part.{Part}
use Rattle.hm_model.specs.declared.reply.Reply.{Reply}
use Rattle.hm_model.specs.declared.reply.Reply.TheVariants.{NotDir, BadPath}
use Rattle.hm_model.specs.declared.stop.PlainStop.{PlainStop}
use Rattle.hm_model.specs.declared.stop.PlainStop.TheVariants.{Refused, NoMemory}
use Rattle.hm_model.specs.declared.walk.Walk.{Walk}
use Rattle.hm_types.specs.Tree.{FileTree, object_in}
use Rattle.hm_model.specs.View.{Position}
use Rattle.hm_model.specs.Walk.{Walked, Reaches, Refuses, Stays, Follows, is_directory}
use Rattle.hm_model.specs.Sites.{MakesName, TakesName, Walks, Parts, Located, At, Nowhere, at_end, front_of, in_directory, last_name, standing_name}
use Rattle.hm_model.specs.Due.{good_path, walks}
use Rattle.hm_model.specs.Plain.{EndsWalk, IsOfNow, LeadsNowhere, StopsWalk, follow_of, locate_in, pairs, place, plain_view, step_in, walk_in}
use Rattle.hm_model.proofs.WalkLemmas.{walk_in-last, walk_in-stops}

pub last_name-split : (front : List Part) (last : Part) → last_name (front ++ last ∷ []) ≡ last.name
last_name-split [] last = refl
last_name-split (part ∷ []) last = refl
last_name-split (part ∷ next ∷ parts) last = last_name-split (next ∷ parts) last

pub front_of-split : (front : List Part) (last : Part) → front_of (front ++ last ∷ []) ≡ front
front_of-split [] last = refl
front_of-split (part ∷ []) last = refl
front_of-split (part ∷ next ∷ parts) last = ap (λ rest. part ∷ rest) (front_of-split (next ∷ parts) last)

-- whether there is a last name
pub has-split : (parts front : List Part) (last : Part) → parts ≡ front ++ last ∷ [] → option_map_or (λ name. true) (last_name parts) false ≡ is_some last.name
has-split parts front last split = rw (split, last_name-split front last) (known last.name)
  where
    known : (name : Option (List ℕ)) → option_map_or (λ n. true) name false ≡ is_some name
    known None = refl
    known (Some n) = refl

named-split : (parts front : List Part) (last : Part) (name : List ℕ) → parts ≡ front ++ last ∷ [] → last.name ≡ Some name → last_name parts ≡ Some name
named-split parts front last name split named = rw (split, last_name-split front last) named

front-split : (parts front : List Part) (last : Part) → parts ≡ front ++ last ∷ [] → front_of parts ≡ front
front-split parts front last split = rw split (front_of-split front last)

-- the place of a new name
pub new_at : (tree : FileTree) (parts front : List Part) (last : Part) (name : List ℕ) (w : Walk) → parts ≡ front ++ last ∷ [] → last.name ≡ Some name →
    EndsWalk (walk_in tree true front) w → option_map_or is_directory (object_in tree w.here) false ≡ true →
    locate_in tree MakesName parts ≡ At (record { at = place w.here; directory = place w.here; name = name; passed = pairs w.passed.items })
new_at tree parts front last name w split named ends is = rw (named-split parts front last name split named, front-split parts front last split, ends, is) refl

pub new_not_in : (tree : FileTree) (parts front : List Part) (last : Part) (name : List ℕ) (w : Walk) → parts ≡ front ++ last ∷ [] → last.name ≡ Some name →
    EndsWalk (walk_in tree true front) w → option_map_or is_directory (object_in tree w.here) false ≡ false →
    walks (locate_in tree MakesName parts) ≡ Some NotDir
new_not_in tree parts front last name w split named ends is =
    rw (named-split parts front last name split named, front-split parts front last split, ends, is) refl

in_directory-stops : (tree : FileTree) (name : List ℕ) (walked : Walked) (stop : PlainStop) → StopsWalk walked stop →
    LeadsNowhere (in_directory (plain_view tree) (Some name) walked) stop
in_directory-stops tree name (Reaches here passed) (Refused reply) stops = absurd (cc)
in_directory-stops tree name (Refuses other passed) (Refused reply) stops = stops
in_directory-stops tree name walked NoMemory stops = tt

pub new_stops : (tree : FileTree) (parts front : List Part) (last : Part) (name : List ℕ) (stop : PlainStop) → parts ≡ front ++ last ∷ [] →
    last.name ≡ Some name → StopsWalk (walk_in tree true front) stop → LeadsNowhere (locate_in tree MakesName parts) stop
new_stops tree parts front last name stop split named stops =
    rw (named-split parts front last name split named, front-split parts front last split) (in_directory-stops tree name (walk_in tree true front) stop stops)

-- the place of a name that stands there
pub name_at : (tree : FileTree) (parts front : List Part) (last : Part) (name : List ℕ) (before whole : Walk) → parts ≡ front ++ last ∷ [] →
    last.name ≡ Some name → EndsWalk (walk_in tree true front) before → EndsWalk (step_in tree false last before) whole →
    locate_in tree TakesName parts ≡ At (record { at = place whole.here; directory = place before.here; name = name; passed = pairs before.passed.items })
name_at tree parts front last name before whole split named ends steps =
    rw (
      named-split parts front last name split named,
      front-split parts front last split,
      ends,
      walk_in-last tree false parts front last before split ends,
      steps,
    ) refl

standing-stops : (name : List ℕ) (walked whole : Walked) (stop : PlainStop) → StopsWalk walked stop → LeadsNowhere (standing_name (Some name) walked whole) stop
standing-stops name (Reaches here passed) whole (Refused reply) stops = absurd (cc)
standing-stops name (Refuses other passed) whole (Refused reply) stops = stops
standing-stops name walked whole NoMemory stops = tt

pub name_stops : (tree : FileTree) (parts front : List Part) (last : Part) (name : List ℕ) (stop : PlainStop) → parts ≡ front ++ last ∷ [] →
    last.name ≡ Some name → StopsWalk (walk_in tree true front) stop → LeadsNowhere (locate_in tree TakesName parts) stop
name_stops tree parts front last name stop split named stops =
    rw (named-split parts front last name split named, front-split parts front last split)
    (standing-stops name (walk_in tree true front) (walk_in tree false parts) stop stops)

standing-ends : (name : List ℕ) (here : Position) (passed : List (ℕ × ℕ)) (whole : Walked) (stop : PlainStop) → StopsWalk whole stop →
    LeadsNowhere (standing_name (Some name) (Reaches here passed) whole) stop
standing-ends name here passed (Reaches there more) (Refused reply) stops = absurd (cc)
standing-ends name here passed (Refuses other more) (Refused reply) stops = stops
standing-ends name here passed whole NoMemory stops = tt

pub name_ends : (tree : FileTree) (parts front : List Part) (last : Part) (name : List ℕ) (before : Walk) (stop : PlainStop) → parts ≡ front ++ last ∷ [] →
    last.name ≡ Some name → EndsWalk (walk_in tree true front) before → StopsWalk (step_in tree false last before) stop →
    LeadsNowhere (locate_in tree TakesName parts) stop
name_ends tree parts front last name before stop split named ends stops =
    rw (named-split parts front last name split named, front-split parts front last split, ends, walk_in-last tree false parts front last before split ends)
    (standing-ends name (place before.here) (pairs before.passed.items) (step_in tree false last before) stop stops)

-- the place of a path's end
pub end_stops : (walked : Walked) (stop : PlainStop) → StopsWalk walked stop → LeadsNowhere (at_end walked) stop
end_stops (Reaches here passed) (Refused reply) stops = absurd (cc)
end_stops (Refuses other passed) (Refused reply) stops = stops
end_stops walked NoMemory stops = tt

-- no part of the front has an id
pub front_of_now : (parts front : List Part) (last : Part) → parts ≡ front ++ last ∷ [] → All IsOfNow parts → All IsOfNow front
front_of_now parts front last split now k d within =
    let P : Part → Type 0 = IsOfNow in
    let there : get_or parts k d ≡ get_or front k d = rw split (get_or_append_left front (last ∷ []) d k within) in
    subst P there (now k d (rw split (simp length-append (omega arith))))

-- a path that has its name has it in its last part
pub named_last : (parts front : List Part) (last : Part) → parts ≡ front ++ last ∷ [] → last.name ≡ None → good_path MakesName (Parts parts) ≡ None → ⊥
named_last parts front last split none good =
    let no : last_name parts ≡ None = rw (split, last_name-split front last) none in
    let both : good_path MakesName (Parts parts) ≡ Some (BadPath 0) = rw no refl in
    cc
