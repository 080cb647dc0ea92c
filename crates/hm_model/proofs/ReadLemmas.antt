-- How path words are read.
use Rattle.std.proofs.Common.{◌≡◌, ℕ, List, Bool, true, false, Option, Some, None, refl, ◌∙◌, sym, ap, subst}
use Rattle.std.specs.Option.{option_map_or}
use Rattle.hm_path.specs.declared.fault.PathFault.{PathFault}
use Rattle.hm_path.specs.declared.fault.PathFault.TheVariants.{BadPath as BadHere, NoMemory as NoSpare}
use Rattle.hm_path.specs.declared.part.Part.{Part}
use Rattle.hm_path.specs.Path.{IsPath, IsPathFault}
use Rattle.hm_path.proofs.PathLemmas.{bad_place_is_one, no_bad_path, path_is_one}
use Rattle.hm_model.specs.declared.reply.Reply.{Reply}
use Rattle.hm_model.specs.declared.reply.Reply.TheVariants.{BadPath}
use Rattle.hm_model.specs.declared.stop.PlainStop.TheVariants.{Refused}
use Rattle.hm_model.specs.Sites.{Parsed, Parts, BadAt, IsParsed, last_name}
use Rattle.hm_model.specs.Stop.{stop_of}
use Rattle.hm_model.specs.Due.{good_path, has_id}
use Rattle.hm_model.specs.Plain.{IsUnread, use_needing}

-- a word that is a path of these parts is read in no other way
pub read_once : (word : List ℕ) (parts : List Part) (path : Parsed) → IsPath word parts → IsParsed word path → path ≡ Parts parts
read_once word parts (Parts others) is reads = ap (λ p. Parts p) (path_is_one word others parts reads is)
read_once word parts (BadAt place) is reads = absurd (no_bad_path word parts place is reads)

-- a word that is no path
unread_at : (named : Bool) (word : List ℕ) (place : ℕ) (path : Parsed) → IsPathFault word (BadHere place) → IsParsed word path →
    good_path (use_needing named) path ≡ Some (BadPath place)
unread_at named word place (Parts parts) bad reads = absurd (no_bad_path word parts place reads bad)
unread_at named word place (BadAt other) bad reads = ap (λ p. Some (BadPath p)) (bad_place_is_one word other place reads bad)

pub unread : (named : Bool) (word : List ℕ) (fault : PathFault) → IsPathFault word fault → IsUnread named word (stop_of fault)
unread named word (BadHere place) bad = λ path reads now. unread_at named word place path bad reads
unread named word NoSpare bad = tt

-- a path with an id is not asked of
pub read_with_id : (named : Bool) (word : List ℕ) (parts : List Part) (reply : Reply) → IsPath word parts → has_id (Parts parts) ≡ true →
    IsUnread named word (Refused reply)
read_with_id named word parts reply is has path reads now =
    let same : path ≡ Parts parts = read_once word parts path is reads in
    let no : has_id (Parts parts) ≡ false = rw same at now in
    absurd (cc)

-- a path without the last name that is needed
pub read_without_name : (word : List ℕ) (parts : List Part) → IsPath word parts → option_map_or (λ name. true) (last_name parts) false ≡ false →
    IsUnread true word (Refused (BadPath 0))
read_without_name word parts is none path reads now =
    let same : path ≡ Parts parts = read_once word parts path is reads in
    rw (same, none) refl
