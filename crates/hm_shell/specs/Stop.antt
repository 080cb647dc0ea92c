-- How a run that stops before its end tells so.
use Rattle.std.specs.Prelude.{ℕ, List, [], ◌∷◌, ◌++◌, codes, decimal}
use Rattle.hm_types.specs.Id.{hex16}
use Rattle.hm_types.specs.declared.fault.Fault.{Fault}
use Rattle.hm_types.specs.declared.fault.Fault.TheVariants.{Media as media, Damaged as damage, NoMemory as no_memory}
use Rattle.hm_model.specs.Lines.{line_feed}
use Rattle.hm_recover.specs.declared.fault.OpenFault.{OpenFault}
use Rattle.hm_recover.specs.declared.fault.OpenFault.TheVariants.{NotVolume as no_volume, BadField as bad_field, Fault as of_disk}
use Rattle.hm_shell.specs.declared.stop.RunStop.{RunStop}
use Rattle.hm_shell.specs.declared.stop.RunStop.TheVariants.{Usage, NotVolume, BadField, DiskFault, Damaged, ScriptFault, OutFault, NoMemory, BadLine, TooLong}

-- the exit status
abbrev pub status_of : RunStop → ℕ
status_of Usage = 2
status_of NotVolume = 3
status_of (BadField place) = 3
status_of (DiskFault before after) = 4
status_of (ScriptFault before after) = 5
status_of OutFault = 6
status_of NoMemory = 7
status_of (BadLine number why) = 8
status_of TooLong = 9
status_of (Damaged at kind) = 10

-- some words and two counts
abbrev pub counts_line : List ℕ → ℕ → ℕ → List ℕ
counts_line words before after =
    words ++ (decimal before ++ (codes " " ++ (decimal after ++ line_feed ∷ [])))

-- the offset that is damaged, and the number of the rule that is broken there
abbrev pub damage_line : ℕ → ℕ → List ℕ
damage_line at kind =
    codes "damaged 0x" ++ (hex16 at ++ (codes " " ++ (decimal kind ++ line_feed ∷ [])))

-- the line that is printed last; none where the sink itself failed
abbrev pub last_line : RunStop → List ℕ
last_line Usage = codes "usage: hammer VOLUME [--newfs BIGBLOCKS] [--stream-in FILE] [--stream-out FILE] [--generate N]" ++ line_feed ∷ []
last_line NotVolume = codes "not a volume" ++ line_feed ∷ []
last_line (BadField place) = codes "bad header field " ++ (decimal place ++ line_feed ∷ [])
last_line (DiskFault before after) = counts_line (codes "media ") before after
last_line (Damaged at kind) = damage_line at kind
last_line (ScriptFault before after) = counts_line (codes "script fault ") before after
last_line OutFault = []
last_line NoMemory = codes "no memory" ++ line_feed ∷ []
last_line (BadLine number why) = codes "bad line " ++ (decimal number ++ line_feed ∷ [])
last_line TooLong = codes "script too long" ++ line_feed ∷ []

-- the stop that a fault of a disk, of what it holds, or of memory makes
abbrev pub of_fault : Fault → RunStop
of_fault (media before after) = DiskFault before after
of_fault (damage at kind) = Damaged at kind
of_fault no_memory = NoMemory

-- the stop that a volume makes which was not made or not opened
abbrev pub of_open : OpenFault → RunStop
of_open no_volume = NotVolume
of_open (bad_field place) = BadField place
of_open (of_disk fault) = of_fault fault
