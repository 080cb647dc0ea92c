-- Walks over parts, one after another.
use Rattle.std.proofs.Common.{◌≡◌, ℕ, suc, ◌+◌, ◌<◌, List, [], ◌∷◌, ◌++◌, Option, Some, None, length, get_or, drop, refl, ◌∙◌, sym, ap, arith, Bool, true}
use Rattle.std.proofs.Math.Seq.{drop-cons}
use Rattle.hm_path.specs.declared.part.Part.{Part}
use Rattle.hm_model.specs.declared.reply.Reply.{Reply}
use Rattle.hm_model.specs.declared.stop.PlainStop.{PlainStop}
use Rattle.hm_model.specs.declared.stop.PlainStop.TheVariants.{Refused, NoMemory}
use Rattle.hm_model.specs.declared.walk.Walk.{Walk}
use Rattle.hm_types.specs.Tree.{FileTree}
use Rattle.hm_model.specs.Volume.{Volume}
use Rattle.hm_model.specs.View.{View, Position}
use Rattle.hm_model.specs.Walk.{Follow, Follows, Walked, Reaches, Refuses, Passed, and_then, follow_before, start, step, walk_on}
use Rattle.hm_model.specs.Plain.{EndsWalk, StopsWalk, follow_of, pairs, place, plain_view, plain_volume, step_in, walk_in}

follow_before-Follows : (parts : List Part) → follow_before Follows parts ≡ Follows
follow_before-Follows [] = refl
follow_before-Follows (part ∷ parts) = refl

follow_before-more : (follow : Follow) (parts : List Part) (last : Part) → follow_before follow (parts ++ last ∷ []) ≡ Follows
follow_before-more follow [] last = refl
follow_before-more follow (part ∷ parts) last = refl

and_then-end : (walked : Walked) → and_then walked (λ there more. Reaches there more) ≡ walked
and_then-end (Reaches here passed) = refl
and_then-end (Refuses reply passed) = refl

two_steps : (walked : Walked) (k l m : Position → Passed → Walked) → ((there : Position) (more : Passed) → k there more ≡ and_then (l there more) m) →
    and_then walked k ≡ and_then (and_then walked l) m
two_steps (Reaches here passed) k l m same = same here passed
two_steps (Refuses reply passed) k l m same = refl

-- the last part of a path is walked after the others, over which all links are followed
pub walk_on-last : (volume : Volume) (view : View) (follow : Follow) (front : List Part) (last : Part) (here : Position) (passed : Passed) →
    walk_on volume view follow (front ++ last ∷ []) here passed ≡ and_then (walk_on volume view Follows front here passed) (step volume view follow last)
walk_on-last volume view follow [] last here passed = and_then-end (step volume view follow last here passed)
walk_on-last volume view follow (part ∷ parts) last here passed =
    rw (follow_before-more follow parts last, follow_before-Follows parts)
    (two_steps (step volume view Follows part here passed) (λ there more. walk_on volume view follow (parts ++ last ∷ []) there more)
    (λ there more. walk_on volume view Follows parts there more) (step volume view follow last)
    (λ there more. walk_on-last volume view follow parts last there more))

-- the next part
pub walk_on-next : (volume : Volume) (view : View) (parts : List Part) (i : ℕ) (d : Part) (here : Position) (passed : Passed) → i < length parts →
    walk_on volume view Follows (drop i parts) here passed ≡ and_then (step volume view Follows (get_or parts i d) here passed)
    (λ there more. walk_on volume view Follows (drop (suc i) parts) there more)
walk_on-next volume view parts i d here passed within =
    rw (drop-cons parts i d within, follow_before-Follows (drop (suc i) parts)) refl

-- what stops a step stops the walk
pub stops-first : (walked : Walked) (k : Position → Passed → Walked) (stop : PlainStop) → StopsWalk walked stop → StopsWalk (and_then walked k) stop
stops-first (Reaches here passed) k (Refused reply) stops = absurd (cc)
stops-first (Refuses other passed) k (Refused reply) stops = stops
stops-first walked k NoMemory stops = tt

-- a walk whose parts but the last one were walked
pub walk_in-last : (tree : FileTree) (follows : Bool) (parts front : List Part) (last : Part) (before : Walk) → parts ≡ front ++ last ∷ [] →
    EndsWalk (walk_in tree true front) before → walk_in tree follows parts ≡ step_in tree follows last before
walk_in-last tree follows parts front last before split ends =
    rw (split, walk_on-last (plain_volume tree) (plain_view tree) (follow_of follows) front last start ((0, 1) ∷ []), ends) refl

pub walk_in-stops : (tree : FileTree) (follows : Bool) (parts front : List Part) (last : Part) (stop : PlainStop) → parts ≡ front ++ last ∷ [] →
    StopsWalk (walk_in tree true front) stop → StopsWalk (walk_in tree follows parts) stop
walk_in-stops tree follows parts front last stop split stops =
    rw (split, walk_on-last (plain_volume tree) (plain_view tree) (follow_of follows) front last start ((0, 1) ∷ []))
    (stops-first (walk_in tree true front) (step (plain_volume tree) (plain_view tree) (follow_of follows) last) stop stops)

-- a part of a walk that stops
pub walk_on-stops : (tree : FileTree) (parts : List Part) (i : ℕ) (d : Part) (here : Walk) (stop : PlainStop) → i < length parts →
    walk_in tree true parts ≡ walk_on (plain_volume tree) (plain_view tree) Follows (drop i parts) (place here.here) (pairs here.passed.items) →
    StopsWalk (step_in tree true (get_or parts i d) here) stop → StopsWalk (walk_in tree true parts) stop
walk_on-stops tree parts i d here stop within same stops =
    rw (same, walk_on-next (plain_volume tree) (plain_view tree) parts i d (place here.here) (pairs here.passed.items) within)
    (stops-first (step_in tree true (get_or parts i d) here)
    (λ there more. walk_on (plain_volume tree) (plain_view tree) Follows (drop (suc i) parts) there more) stop stops)
