-- A call that changes a tree changes that of a master.
use Rattle.std.proofs.Common.{◌≡◌, ℕ, Bool, true, false, List, [], ◌∷◌, ◌++◌, map, refl, sym, subst, ◌∙◌}
use Rattle.std.specs.Prelude.{◌&&◌, Option, None, Some, if◌then◌else◌}
use Rattle.std.specs.List.{AllZip, list_any}
use Rattle.std.specs.Option.{option_map_or}
use Rattle.hm_model.specs.Answer.{is_master}
use Rattle.hm_model.specs.Call.{Call, all_located, each_located, first_of, located, second_of, site_in}
use Rattle.hm_model.specs.Change.{changed_pfs}
use Rattle.hm_model.specs.Due.{Check, ReadsPaths, early_checks, first_refusal, hash_left, ids_left, intervals_left, is_in_slave, is_tree_call}
use Rattle.hm_model.specs.Due.{own_checks, refusal, refuse_if, slaves_stay, walks}
use Rattle.hm_model.specs.Sites.{At, IsParsed, Located, MakesName, Nowhere, Parsed, Site, TakesName, Use, Walks, uses_of}
use Rattle.hm_model.specs.Volume.{Master, PseudoFileSystem, Role, Slave, Volume, system_of}
use Rattle.hm_model.specs.Walk.{Follows, Stays}
use Rattle.hm_model.specs.declared.command.Command.{Command}
use Rattle.hm_model.specs.declared.command.Command.TheVariants.{Cat, Fill, Ln, Ls, Mkdir, Mv, PfsMaster, PfsSlave, PfsStatus, Prune, PruneAll}
use Rattle.hm_model.specs.declared.command.Command.TheVariants.{Readlink, Rm, Rmdir, Snapshot, Stat, Symlink, Touch, Truncate, Write}
use Rattle.hm_model.specs.declared.reply.Reply.TheVariants.{ReadOnly}
use Rattle.hm_model.proofs.CheckLemmas.{no_first, no_rest}
use Rattle.hm_model.proofs.EffectLemmas.{or_false}
use Rattle.hm_calls.specs.Changes.{HasSystem}
use Rattle.hm_calls.specs.Answered.{IsAnswerable}

module _ (call : Call) where
  abbrev volume : Volume
  volume = call.volume

  -- a pseudo file system of this number is a master
  abbrev pub HasMaster : ℕ → Type 0
  HasMaster pfs = (s : PseudoFileSystem) × (system_of volume pfs ≡ Some s) × (s.role ≡ Master)

  -- it is one, if it is there
  abbrev IsNoSlave : ℕ → Type 0
  IsNoSlave pfs = (s : PseudoFileSystem) → system_of volume pfs ≡ Some s → s.role ≡ Master

  -- so is that of a site in no slave
  master_of : (site : Site) → is_in_slave call (At site) ≡ false → IsNoSlave site.at.pfs
  master_of site stays s is = by_role s.role (subst InNoSlave is stays) where
    InNoSlave : Option PseudoFileSystem → Type 0
    InNoSlave found = option_map_or (λ s. if is_master s then false else true) found false ≡ false

    by_role : (role : Role) → (if (elim role [ Master ↦ true | Slave ↦ false ]) then false else true) ≡ false → role ≡ Master
    by_role Master is = refl
    by_role Slave is = absurd (cc)

  lands : (u : Use) (path : Parsed) → walks (located call u path) ≡ None → is_in_slave call (located call u path) ≡ false
      → IsNoSlave (site_in (located call u path)).at.pfs
  lands u path ends stays = by (located call u path) ends stays where
    by : (l : Located) → walks l ≡ None → is_in_slave call l ≡ false → IsNoSlave (site_in l).at.pfs
    by (At site) ends stays = master_of site stays
    by (Nowhere reply passed) ends stays = absurd (cc)

  -- ---- the commands

  -- what is known of a list of paths
  record Passes (uses : List (Use × List ℕ)) (paths : List Parsed) : Type 0 where
    pub ends : first_refusal (map walks (each_located call uses paths)) ≡ None
    pub stays : list_any (is_in_slave call) (each_located call uses paths) ≡ false

  one_lands : (u : Use) (word : List ℕ) (paths : List Parsed)
      → AllZip (λ (v : Use × List ℕ) (path : Parsed). IsParsed v.1 path) ((u, word) ∷ []) paths → Passes ((u, word) ∷ []) paths
      → IsNoSlave (first_of (each_located call ((u, word) ∷ []) paths)).at.pfs
  one_lands u word [] reads passes = absurd reads
  one_lands u word (path ∷ paths) reads passes =
      lands u path (no_rest (walks (located call u path)) _ passes.ends).0 (or_false (is_in_slave call (located call u path)) _ passes.stays).0

  second_lands : (u v : Use) (word other : List ℕ) (paths : List Parsed)
      → AllZip (λ (w : Use × List ℕ) (path : Parsed). IsParsed w.1 path) ((u, word) ∷ (v, other) ∷ []) paths
      → Passes ((u, word) ∷ (v, other) ∷ []) paths → IsNoSlave (second_of (each_located call ((u, word) ∷ (v, other) ∷ []) paths)).at.pfs
  second_lands u v word other [] reads passes = absurd reads
  second_lands u v word other (path ∷ paths) reads passes = one_lands v other paths reads.1 (record {
    ends = (no_rest (walks (located call u path)) _ passes.ends).1;
    stays = (or_false (is_in_slave call (located call u path)) _ passes.stays).1;
  })

  -- the PFS that a command changes
  abbrev pfs_by : Command → Site → Site → ℕ
  pfs_by command a b = elim command [
    | Ln old new ↦ b.at.pfs
    | Mv old new ↦ b.at.pfs
    | other ↦ a.at.pfs
  ]

  by_command : (command : Command) (paths : List Parsed) → IsAnswerable command → is_tree_call command ≡ true
      → AllZip (λ (w : Use × List ℕ) (path : Parsed). IsParsed w.1 path) (uses_of command) paths → Passes (uses_of command) paths
      → IsNoSlave (pfs_by command (first_of (each_located call (uses_of command) paths)) (second_of (each_located call (uses_of command) paths)))
  by_command (Mkdir path) paths served tree reads passes = one_lands MakesName _ paths reads passes
  by_command (Touch path) paths served tree reads passes = one_lands MakesName _ paths reads passes
  by_command (Symlink target path) paths served tree reads passes = one_lands MakesName _ paths reads passes
  by_command (Snapshot path) paths served tree reads passes = one_lands MakesName _ paths reads passes
  by_command (Ln old new) paths served tree reads passes = second_lands (Walks Stays) MakesName _ _ paths reads passes
  by_command (Mv old new) paths served tree reads passes = second_lands TakesName MakesName _ _ paths reads passes
  by_command (Write path offset bytes) paths served tree reads passes = one_lands (Walks Follows) _ paths reads passes
  by_command (Fill path offset count byte) paths served tree reads passes = one_lands (Walks Follows) _ paths reads passes
  by_command (Truncate path size) paths served tree reads passes = one_lands (Walks Follows) _ paths reads passes
  by_command (Rm path) paths served tree reads passes = one_lands TakesName _ paths reads passes
  by_command (Rmdir path) paths served tree reads passes = one_lands TakesName _ paths reads passes
  by_command (Ls path) paths served tree reads passes = absurd (cc)
  by_command (Cat path offset count) paths served tree reads passes = absurd (cc)
  by_command (Stat path) paths served tree reads passes = absurd (cc)
  by_command (Readlink path) paths served tree reads passes = absurd (cc)
  by_command (PfsMaster path shared) paths served tree reads passes = one_lands MakesName _ paths reads passes
  by_command (PfsSlave path shared) paths served tree reads passes = one_lands MakesName _ paths reads passes
  by_command (PfsStatus path) paths served tree reads passes = absurd (cc)
  by_command (Prune path) paths served tree reads passes = absurd (cc)
  by_command (PruneAll path) paths served tree reads passes = absurd (cc)
  by_command other paths served tree reads passes = absurd served

  -- a call that no check refuses changes the tree of a master, if that is there
  pub lands_in_master : IsAnswerable call.command → is_tree_call call.command ≡ true → ReadsPaths call → refusal call ≡ None
      → HasSystem volume (changed_pfs call) → HasMaster (changed_pfs call)
  lands_in_master served tree reads none (s, is) = (s, is, by_command call.command call.paths served tree reads passes s is) where
    early : List Check
    early = early_checks volume.last call.busy call.command call.paths

    on_walks : List Check
    on_walks = map walks (all_located call)

    own : List Check
    own = slaves_stay call ∷ own_checks call

    last : List Check
    last = hash_left call ∷ intervals_left call ∷ []

    all : first_refusal (((early ++ on_walks) ++ own) ++ last) ≡ None
    all = (no_rest (ids_left call) (((early ++ on_walks) ++ own) ++ last) none).1

    before_own : (first_refusal (early ++ on_walks) ≡ None) × (first_refusal own ≡ None)
    before_own = no_first (early ++ on_walks) own (no_first ((early ++ on_walks) ++ own) last all).0

    not_refused : (test : Bool) → refuse_if test ReadOnly ≡ None → test ≡ false
    not_refused true is = absurd (cc)
    not_refused false is = refl

    in_no_slave : list_any (is_in_slave call) (all_located call) ≡ false
    in_no_slave =
        let passed = not_refused (is_tree_call call.command && list_any (is_in_slave call) (all_located call))
        (no_rest (slaves_stay call) (own_checks call) before_own.1).0 in
        (λ t. (sym tree t) && list_any (is_in_slave call) (all_located call)) ∙ passed

    passes : Passes (uses_of call.command) call.paths
    passes = record { ends = (no_first early on_walks before_own.0).1; stays = in_no_slave }
