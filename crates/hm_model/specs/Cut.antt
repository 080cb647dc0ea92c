-- What is cut from a retention and joined to it, and which ids a directory's softlinks name.
use Rattle.std.specs.Prelude.{ℕ, ◌+◌, List, [], ◌∷◌, ◌++◌, Option, Some, None, ◌==◌, ◌&&◌, if◌then◌else◌, codes, drop, filter, length, map, max, min, take}
use Rattle.std.specs.Bool.{nat_le, nat_lt}
use Rattle.std.specs.List.{filter_map, list_all, list_any, starts_with}
use Rattle.std.specs.Option.{option_map_or}
use Rattle.std.specs.Str.Parse.{digits_value}
use Rattle.hex.specs.Hex.{is_hex_digit}
use Rattle.hm_types.specs.declared.object.Content.{Content}
use Rattle.hm_types.specs.declared.object.Content.TheVariants.{Target, Nothing, File, Linked}
use Rattle.hm_types.specs.declared.object.Object.{Object}
use Rattle.hm_types.specs.declared.object.Triple.{Triple}
use Rattle.hm_types.specs.declared.id.Obj.{Obj}
use Rattle.hm_types.specs.Tree.{FileTree, entries_in, object_in}
use Rattle.hm_types.specs.Intervals.{open_end}
use Rattle.hm_model.specs.Walk.{holds}

-- with one more interval, made one with those that it meets or touches
abbrev pub with_interval : ℕ × ℕ → List (ℕ × ℕ) → List (ℕ × ℕ)
with_interval new [] = new ∷ []
with_interval new (old ∷ more) =
    if nat_lt (new.1 + 1) old.0 then new ∷ old ∷ more
    else if nat_lt (old.1 + 1) new.0 then old ∷ with_interval new more
    else with_interval (min new.0 old.0, max new.1 old.1) more

-- the maximal intervals of the ids that lie in one of these
abbrev pub maximal : List (ℕ × ℕ) → List (ℕ × ℕ)
maximal [] = []
maximal (interval ∷ more) = with_interval interval (maximal more)

-- the part of an interval that lies from `first` on and not after `last`, if there is one
abbrev pub clipped : ℕ → ℕ → ℕ × ℕ → Option (ℕ × ℕ)
clipped first last interval =
    if nat_le (max first interval.0) (min last interval.1)
    then Some (max first interval.0, min last interval.1)
    else None

-- what a list of intervals has from `first` to `last`
abbrev pub within : ℕ → ℕ → List (ℕ × ℕ) → List (ℕ × ℕ)
within first last list = filter_map (clipped first last) list

-- each of these ids that the list holds, as an interval
abbrev pub single : List (ℕ × ℕ) → List ℕ → List (ℕ × ℕ)
single list ids = map (λ id. (id, id)) (filter (λ id. list_any (holds id) list) ids)

-- a cut keeps of a retention the listed ids, and all from `from` on
abbrev pub cut : List (ℕ × ℕ) → List ℕ → ℕ → List (ℕ × ℕ)
cut retention ids from = maximal (single retention ids ++ within from open_end retention)

-- a join adds to a retention what another has from `begin` + 1 to `end`
abbrev pub join : List (ℕ × ℕ) → List (ℕ × ℕ) → ℕ → ℕ → List (ℕ × ℕ)
join retention other begin end = maximal (within (begin + 1) end other ++ retention)

-- the first of two, or else the second
abbrev pub or_else : {X : Type 0} → Option X → Option X → Option X
or_else (Some x) other = Some x
or_else None other = other

-- the id that a text begins with: `@@0x` and sixteen hexadecimal digits of either case
abbrev pub begins_with_id : List ℕ → Option ℕ
begins_with_id text =
    if starts_with (λ a b. a == b) text (codes "@@0x") && (length (take 16 (drop 4 text)) == 16)
    && list_all is_hex_digit (take 16 (drop 4 text))
    then Some (digits_value 16 (take 16 (drop 4 text)))
    else None

-- the first id in a target
abbrev pub named_id : List ℕ → Option ℕ
named_id [] = None
named_id (b ∷ bs) = or_else (begins_with_id (b ∷ bs)) (named_id bs)

-- the id that an object names: the first one in the target of a softlink
abbrev pub id_in : Content → Option ℕ
id_in (Target text) = named_id text
id_in Nothing = None
id_in (File bytes) = None
id_in (Linked pfs) = None

-- the id that an entry's object names
abbrev pub entry_id : FileTree → Triple → Option ℕ
entry_id tree t = option_map_or (λ (o : Object). id_in o.content) (object_in tree t.object) None

-- the ids that the softlinks of a directory name, but for those above the shown id
abbrev pub snapshot_ids : FileTree → Obj → ℕ → List ℕ
snapshot_ids tree directory shown = filter (λ id. nat_le id shown) (filter_map (entry_id tree) (entries_in tree directory))

-- the greatest of some ids
abbrev pub greatest : List ℕ → ℕ
greatest [] = 0
greatest (id ∷ ids) = max id (greatest ids)

-- the retention that a prune leaves: these ids, and all from the greatest of them on
abbrev pub pruned : List (ℕ × ℕ) → List ℕ → List (ℕ × ℕ)
pruned retention ids = cut retention ids (greatest ids)
