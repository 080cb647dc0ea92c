-- Single calls, for laws that say what may be answered to them.
use Rattle.std.specs.Prelude.{ℕ, List, [], ◌∷◌, false, Some, None, codes}
use Rattle.hm_path.specs.declared.part.Part.{Part}
use Rattle.hm_model.specs.declared.command.Command.TheVariants.{Mkdir, Touch}
use Rattle.hm_types.specs.declared.object.Kind.TheVariants.{PfsLink}
use Rattle.hm_types.specs.declared.object.Content.TheVariants.{Linked}
use Rattle.hm_model.specs.declared.reply.Reply.TheVariants.{BadPath}
use Rattle.hm_model.specs.After.{Event}
use Rattle.hm_model.specs.Call.{Call}
use Rattle.hm_model.specs.Change.{made}
use Rattle.hm_types.specs.Hash.{name_hash}
use Rattle.hm_model.specs.Sites.{BadAt, Parts}
use Rattle.hm_types.specs.Tree.{FileTree, root_number, root_tree, with_object}
use Rattle.hm_model.specs.View.{Now, Substitute, view_of}
use Rattle.hm_model.specs.Volume.{Mixed, Volume, new_master}

-- a tree whose root has a link to PFS 1, by the name `m`
abbrev pub linking_tree : FileTree
linking_tree = with_object root_tree root_number (codes "m") (made 2 PfsLink (Linked (record { 0 = 1 })))

-- a volume with this tree, and with a master of which no tree is known: it was a slave of two sources
abbrev pub with_unclear_master : Volume
with_unclear_master = record {
  bigblocks = 100;
  last = 9;
  systems = new_master 0 0 ((1, linking_tree) ∷ []) ∷ record (new_master 1 7 []) { origin = Mixed; clear = false } ∷ [];
}

-- a name as a part of a path
abbrev pub named : List ℕ → Part
named name = record { name = Some name; as_of = None }

-- `touch /m/f` there, with trees that it saw
abbrev pub touching : List Substitute → Call
touching substitutes = record {
  volume = with_unclear_master;
  view = view_of with_unclear_master substitutes;
  busy = None;
  hash = name_hash;
  command = Touch (codes "/m/f");
  paths = Parts (named (codes "m") ∷ named (codes "f") ∷ []) ∷ [];
}

-- a root in the place of what PFS 1 shows now
abbrev pub a_root : Substitute
a_root = record { pfs = 1; when = Now; tree = root_tree }

-- `mkdir a` as the first call after newfs, answered that its path is bad at this place
abbrev pub bad_at : ℕ → Event
bad_at place = record {
  entry = record {
    id = record { 0 = 2 };
    lane = 0;
    line = 1;
    call = Mkdir (codes "a");
    reply = BadPath place;
  };
  paths = BadAt place ∷ [];
  substitutes = [];
}
