-- The blocks of a script, made line by line.
use Rattle.std.specs.Prelude.{List, [], ◌∷◌, ◌++◌, Option, Some, None, Bool, true, false}
use Rattle.hm_model.specs.declared.line.Line.{Line}
use Rattle.hm_model.specs.Script.{has_lane}

-- the blocks that are done, and the lines of the block of lanes that is open
abbrev pub Gathered : Type 0
Gathered = List (List Line) × List Line

-- the blocks where no line follows: the open one is a block if it has lines
abbrev pub closed : Gathered → List (List Line)
closed (done, []) = done
closed (done, line ∷ lines) = done ++ (line ∷ lines) ∷ []

-- a line with a lane joins the open block; one without is a block by itself
abbrev pub gather_line : Bool → Gathered → Line → Gathered
gather_line true gathered line = (gathered.0, gathered.1 ++ line ∷ [])
gather_line false gathered line = (closed gathered ++ (line ∷ []) ∷ [], [])

-- what there is after one more text: a line, or one that answers nothing and ends the open block
abbrev pub gather : Gathered → Option Line → Gathered
gather gathered None = (closed gathered, [])
gather gathered (Some line) = gather_line (has_lane line) gathered line
