-- The reply that a call is due over a space: that of the model, or that space lacks.
use Rattle.std.specs.Prelude.{ℕ, ◌-◌, ◌==◌, ◌&&◌, List, [], ◌∷◌, ◌++◌, if◌then◌else◌}
use Rattle.std.specs.Bool.{nat_lt}
use Rattle.std.specs.List.{count_by}
use Rattle.std.specs.Option.{option_map_or}
use Rattle.hm_types.specs.Space.{reserve_of}
use Rattle.hm_model.specs.Call.{Call}
use Rattle.hm_model.specs.Due.{Check, accepted, checks, first_refusal, refuse_if}
use Rattle.hm_model.specs.Needs.{held_of, names_zones, zones_of}
use Rattle.hm_model.specs.declared.reply.Reply.{Reply}
use Rattle.hm_model.specs.declared.reply.Reply.TheVariants.{NoSpace}
use Rattle.hm_records.specs.declared.inode.Inode.{Inode}
use Rattle.hm_records.specs.declared.kind.TheConstants.{FILE}

-- how many of these zones have less room than a call finds there
abbrev pub lacking : List ℕ → (ℕ → ℕ) → ℕ
lacking zones room = count_by (λ zone. nat_lt (room zone) (reserve_of zone)) zones

-- Each zone of a call that has less room than its reserve needs a free big-block, while some are held back.
abbrev pub space_left : Call → (ℕ → ℕ) → ℕ → Check
space_left call room free =
    refuse_if (nat_lt (free - held_of call.command) (lacking (zones_of call) room)) (NoSpace free (lacking (zones_of call) room))

-- the refusal that a call is due over a space: the check on space is the last one
abbrev pub refusal_over : Call → (ℕ → ℕ) → ℕ → Check
refusal_over call room free = first_refusal (checks call ++ space_left call room free ∷ [])

-- the reply that it is due
abbrev pub due_over : Call → (ℕ → ℕ) → ℕ → Reply
due_over call room free = option_map_or (λ r. r) (refusal_over call room free) (accepted call)

-- the check on space of these zones, while so many big-blocks are held back
abbrev pub space_for : List ℕ → ℕ → (ℕ → ℕ) → ℕ → Check
space_for zones held room free = refuse_if (nat_lt (free - held) (lacking zones room)) (NoSpace free (lacking zones room))

-- the zones of a call that takes away a link of an object with this inode: those of a file that has another one
abbrev pub zones_beside : Inode → List ℕ
zones_beside inode = if (inode.kind == FILE) && nat_lt 1 inode.links then names_zones else []
