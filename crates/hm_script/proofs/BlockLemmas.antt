-- The blocks of lines that are gathered one by one are those of the lines together.
use Rattle.std.proofs.Common.{◌≡◌, List, [], ◌∷◌, ◌++◌, Option, Some, None, Bool, true, false, refl, sym, ◌∙◌, ap}
use Rattle.std.specs.Prelude.{◌&&◌}
use mathlib.Core.List.{append_assoc}
use Rattle.std.proofs.lemmas.List.{append-nil}
use Rattle.hm_model.specs.declared.line.Line.{Line}
use Rattle.hm_model.specs.Script.{has_lane, goes_on, with_line, blocks_of}
use Rattle.hm_script.specs.Gathering.{closed, gather_line}
use Rattle.hm_script.specs.Reading.{gathered_from}

-- whether a line with a lane comes first
next_laned : List (Option Line) → Bool
next_laned [] = false
next_laned (None ∷ lines) = false
next_laned (Some line ∷ lines) = has_lane line

-- the blocks with more lines in front, in the first block or in one of their own
joined : Bool → List Line → List (List Line) → List (List Line)
joined true first (block ∷ blocks) = (first ++ block) ∷ blocks
joined true first [] = first ∷ []
joined false first blocks = first ∷ blocks

and_false : (b : Bool) → (b && false) ≡ false
and_false true = refl
and_false false = refl

-- a block goes on where both lines have lanes
goes_on-is : (line : Line) (lines : List (Option Line)) → goes_on line lines ≡ (has_lane line && next_laned lines)
unfolding next_laned
goes_on-is line [] = sym (and_false (has_lane line))
goes_on-is line (None ∷ lines) = sym (and_false (has_lane line))
goes_on-is line (Some next ∷ lines) = refl

-- one line in front
with_line-is : (b : Bool) (line : Line) (blocks : List (List Line)) → with_line b line blocks ≡ joined b (line ∷ []) blocks
unfolding joined
with_line-is true line [] = refl
with_line-is true line (block ∷ blocks) = refl
with_line-is false line blocks = refl

-- lines in front of a line in front
joined-line : (b : Bool) (first : List Line) (line : Line) (blocks : List (List Line))
    → joined true first (with_line b line blocks) ≡ joined b (first ++ line ∷ []) blocks
unfolding joined
joined-line true first line [] = refl
joined-line true first line (block ∷ blocks) = rw append_assoc refl
joined-line false first line blocks = refl

-- what lines make after blocks that are done, where no block of lanes is open and where one is
AllGathered : List (Option Line) → Type 0
AllGathered lines =
    ((done : List (List Line)) → closed (gathered_from (done, []) lines) ≡ done ++ blocks_of lines)
    × ((done : List (List Line)) (line : Line) (lanes : List Line)
    → closed (gathered_from (done, line ∷ lanes) lines) ≡ done ++ joined (next_laned lines) (line ∷ lanes) (blocks_of lines))

-- one more line in front, where no block is open
step-closed : (b : Bool) (next : Line) (lines : List (Option Line)) → AllGathered lines → (done : List (List Line))
    → closed (gathered_from (gather_line b (done, []) next) lines) ≡ done ++ with_line (b && next_laned lines) next (blocks_of lines)
unfolding AllGathered
step-closed true next lines all done = all.1 done next [] ∙ ap (λ bs. done ++ bs) (sym (with_line-is (next_laned lines) next (blocks_of lines)))
step-closed false next lines all done = all.0 (done ++ (next ∷ []) ∷ []) ∙ append_assoc done ((next ∷ []) ∷ []) (blocks_of lines)

-- one more line in front, where a block is open
step-open : (b : Bool) (next : Line) (lines : List (Option Line)) → AllGathered lines → (done : List (List Line)) (line : Line) (lanes : List Line)
    → closed (gathered_from (gather_line b (done, line ∷ lanes) next) lines) ≡ done ++ joined b (line ∷ lanes)
    (with_line (b && next_laned lines) next (blocks_of lines))
unfolding AllGathered joined
step-open true next lines all done line lanes =
    all.1 done line (lanes ++ next ∷ []) ∙ ap (λ bs. done ++ bs) (sym (joined-line (next_laned lines) (line ∷ lanes) next (blocks_of lines)))
step-open false next lines all done line lanes =
    all.0 ((done ++ (line ∷ lanes) ∷ []) ++ (next ∷ []) ∷ []) ∙ (append_assoc (done ++ (line ∷ lanes) ∷ []) ((next ∷ []) ∷ []) (blocks_of lines)
    ∙ append_assoc done ((line ∷ lanes) ∷ []) ((next ∷ []) ∷ blocks_of lines))

all_gathered : (lines : List (Option Line)) → AllGathered lines
unfolding AllGathered joined next_laned
all_gathered [] = (λ done. sym (append-nil done), λ done line lanes. refl)
all_gathered (None ∷ lines) =
    let all = all_gathered lines in
    (all.0, λ done line lanes. all.0 (done ++ (line ∷ lanes) ∷ []) ∙ append_assoc done ((line ∷ lanes) ∷ []) (blocks_of lines))
all_gathered (Some next ∷ lines) =
    let all = all_gathered lines in (
      λ done. rw goes_on-is (step-closed (has_lane next) next lines all done),
      λ done line lanes. rw goes_on-is (step-open (has_lane next) next lines all done line lanes),
    )

-- the blocks of lines that were gathered from nothing
pub gathered_blocks : (lines : List (Option Line)) → closed (gathered_from ([], []) lines) ≡ blocks_of lines
unfolding AllGathered
gathered_blocks lines = (all_gathered lines).0 []
