-- What the checks that look into a store tell of the trees.
use Rattle.std.proofs.Common.{◌≡◌, ℕ, ◌^◌, ◌<◌, arith, Bool, true, false, List, [], ◌∷◌, length, Option, Some, None, Result, Ok, Err, refl}
use Rattle.std.proofs.Common.{true≢false, inl, inr, sym, ap, subst, ◌∙◌}
use Rattle.std.specs.Prelude.{◌==◌, ◌-◌, IfOk, IfSome, if◌then◌else◌, is_some, option_map}
use Rattle.std.specs.Bool.{nat_le, nat_lt}
use Rattle.std.specs.List.{Contains}
use Rattle.std.specs.Option.{option_map_or}
use Rattle.std.proofs.lemmas.Bool.{eqb-true, eq-eqb, le-leb, lt-leb, lt-ltb}
use Rattle.hm_types.specs.Elements.{FullElement}
use Rattle.hm_types.specs.Tree.{FileTree, entries_in, named_in}
use Rattle.hm_types.specs.declared.fault.Fault.{Fault}
use Rattle.hm_types.specs.declared.id.Obj.{Obj}
use Rattle.hm_types.specs.declared.object.Triple.{Triple}
use Rattle.hm_key.specs.Balance.{Balanced, full_elements}
use Rattle.hm_key.specs.Counts.{Counts, Subject, record_subject}
use Rattle.hm_key.specs.Elements.{IsContent}
use Rattle.hm_key.specs.Extents.{Extent}
use Rattle.hm_key.specs.Versions.{HaveOwnKeys}
use Rattle.hm_key.specs.declared.element.Element.{Element}
use Rattle.hm_model.specs.Answer.{is_master}
use Rattle.hm_model.specs.Due.{Check, refuse_if}
use Rattle.hm_model.specs.View.{View}
use Rattle.hm_model.specs.Volume.{PseudoFileSystem, Role, Volume, Master, Slave, system_of}
use Rattle.hm_model.specs.declared.reply.Reply.TheVariants.{HashFull as hash_full, NotEmpty as not_empty, ReadOnly as read_only}
use Rattle.hm_records.specs.KeysFit.{KeysFit}
use Rattle.hm_records.specs.PfsRecord.{pfs_bytes}
use Rattle.hm_types.specs.Intervals.{open_end}
use Rattle.hm_records.specs.View.{HasEntry, IsTriple, IsViewOf}
use Rattle.hm_records.specs.declared.entry.DirEntry.{DirEntry}
use Rattle.hm_records.specs.declared.pfs_record.PfsRecord.{PfsRecord}
use Rattle.hm_records.proofs.CountsLemmas.{own_keys-sorted, record_counts, settled}
use Rattle.hm_records.proofs.LookupLemmas.{lacks_none, triple_is_named}
use Rattle.hm_records.proofs.MemberLemmas.{filter_has, has_filter, has_head, has_none}
use Rattle.hm_records.proofs.PfsLemmas.{one_record}
use Rattle.hm_volume.specs.Records.{is_master as is_master_role}
use Rattle.hm_volume.specs.Shown.{ShowsAs}
use Rattle.hm_volume.proofs.RecordLemmas.{system_none, system_some}
use Rattle.hm_cursor.specs.Names.{IsFirstEntry, IsHash, IsPreviousName}
use Rattle.hm_cursor.specs.Told.{IsRecordNow, Lists, OnBalanced, fulls}
use Rattle.hm_cursor.proofs.PayloadLemmas.{full_sorted}
use Rattle.hm_dirs.specs.Names.{IsLookedUp, IsSpot, IsSpotFor, OnNamed, first_key, names_of_hash}
use Rattle.hm_dirs.specs.declared.spot.Spot.{Spot}
use Rattle.hm_calls.specs.Known.{AreBelowIn, AreKnown, IsSlaves}

-- from what a store tells of its lists to what follows, where no two elements have one key
pub told_next : (es : Option (List Element)) (xs : Option (List Extent)) (P Q : Lists → Type 0) → IfSome es IsContent → OnBalanced es xs P
    → ((lists : Lists) → HaveOwnKeys (fulls lists) → P lists → Q lists) → OnBalanced es xs Q
told_next None xs P Q content told next = tt
told_next (Some es) None P Q content told next = tt
told_next (Some es) (Some xs) P Q content told next = λ balanced.
    next (es, xs) (own_keys-sorted (full_elements es xs) (full_sorted es xs content.rising)) (told balanced)

-- the same where nothing is needed of keys
pub told_step : (es : Option (List Element)) (xs : Option (List Extent)) (P Q : Lists → Type 0) → OnBalanced es xs P
    → ((lists : Lists) → P lists → Q lists) → OnBalanced es xs Q
told_step None xs P Q told next = tt
told_step (Some es) None P Q told next = tt
told_step (Some es) (Some xs) P Q told next = λ balanced. next (es, xs) (told balanced)

-- ---- masters and slaves

-- whether a record is that of a slave
abbrev pub is_slave_by : Option PfsRecord → Bool
is_slave_by found = option_map_or (λ (r : PfsRecord). if r.master then false else true) found false

abbrev is_slave_of : Option PseudoFileSystem → Bool
is_slave_of system = option_map_or (λ (s : PseudoFileSystem). if is_master s then false else true) system false

master_is : (s : PseudoFileSystem) → is_master_role s.role ≡ is_master s
master_is s = by_role s.role where
  by_role : (role : Role) → is_master_role role ≡ elim role [ Master ↦ true | Slave ↦ false ]
  by_role Master = refl
  by_role Slave = refl

pub slave_told : (lists : Lists) (volume : Volume) (view : View) (pfs : ℕ) (found : Option PfsRecord) → HaveOwnKeys (fulls lists)
    → ShowsAs (fulls lists) volume view → IsRecordNow lists pfs found
    → option_map_or (λ (s : PseudoFileSystem). if is_master s then false else true) (system_of volume pfs) false ≡ is_slave_by found
slave_told lists volume view pfs None own shows none =
    ap is_slave_of (system_none (fulls lists) volume pfs shows.records (λ bytes has.
    none bytes ((record_counts (fulls lists) pfs (2 ^ 64) open_end bytes shows.ids (omega arith)).0 has)))
slave_told lists volume view pfs (Some r) own shows now =
    let (s, there, for) = system_some (fulls lists) volume pfs shows.records r own (record {
      ranges = now.0;
      there = (record_counts (fulls lists) pfs (2 ^ 64) open_end (pfs_bytes r) shows.ids (omega arith)).1 now.1;
    }) in
    ap is_slave_of there ∙ ap (λ (b : Bool). if b then false else true) (sym (for.0 ∙ master_is s))

-- a number whose record is not that of a slave is no slave's
no_slave : (lists : Lists) (pfs : ℕ) (found : Option PfsRecord) → HaveOwnKeys (fulls lists) → IsRecordNow lists pfs found → is_slave_by found ≡ false
    → IsSlaves (fulls lists) pfs → ⊥
no_slave lists pfs found own now master (slave, range, here, is) = by_found found now master where
  is_slave : (b : Bool) → (if b then false else true) ≡ false → b ≡ false → ⊥
  is_slave true is told = true≢false told
  is_slave false is told = true≢false is

  by_found : (found : Option PfsRecord) → IsRecordNow lists pfs found → is_slave_by found ≡ false → ⊥
  by_found None none master = none (pfs_bytes slave) here
  by_found (Some r) now master =
      let same : r ≡ slave = one_record r slave now.0 range
      (settled (fulls lists) open_end own (record_subject pfs) (pfs_bytes r) (pfs_bytes slave) now.1 here) in
      is_slave r.master master (ap (λ (q : PfsRecord). q.master) same ∙ is)

-- the elements of a master, or of a number without a record, are older than `id` where those of all masters are
pub known_below : (es : Option (List Element)) (xs : Option (List Extent)) (pfs : ℕ) (found : Option PfsRecord) → IfSome es IsContent → Balanced es xs
    → OnBalanced es xs (λ lists. IsRecordNow lists pfs found) → is_slave_by found ≡ false → (id : ℕ) → AreKnown es xs id
    → AreBelowIn es xs pfs id
known_below None xs pfs found content balanced told master id known = tt
known_below (Some es) None pfs found content balanced told master id known = tt
known_below (Some es) (Some xs) pfs found content balanced told master id known = elim (known pfs) [
  | inl slave ↦ absurd (no_slave (es, xs) pfs found (own_keys-sorted (full_elements es xs) (full_sorted es xs content.rising)) (told balanced) master slave)
  | inr below ↦ below
]

-- whether a slave is refused
pub refuses_slave : (es : Option (List Element)) (xs : Option (List Extent)) (pfs : ℕ) (found : Option PfsRecord) (slave : Bool) → IfSome es IsContent
    → OnBalanced es xs (λ lists. IsRecordNow lists pfs found) → is_slave_by found ≡ slave
    → OnBalanced es xs (λ lists. (volume : Volume) (view : View) → ShowsAs (fulls lists) volume view
    → refuse_if (option_map_or (λ (s : PseudoFileSystem). if is_master s then false else true) (system_of volume pfs) false) read_only
    ≡ refuse_if slave read_only)
refuses_slave es xs pfs found slave content told is =
    told_next es xs (λ lists. IsRecordNow lists pfs found)
    (λ lists. (volume : Volume) (view : View) → ShowsAs (fulls lists) volume view
    → refuse_if (option_map_or (λ (s : PseudoFileSystem). if is_master s then false else true) (system_of volume pfs) false) read_only
    ≡ refuse_if slave read_only) content told
    (λ lists own now volume view shows.
    ap (λ (b : Bool). refuse_if b read_only) (slave_told lists volume view pfs found own shows now ∙ is))

-- ---- names

-- where a name leads in a tree
pub named_there : (lists : Lists) (t pfs : ℕ) (directory : Obj) (name : List ℕ) (found : Option (ℕ × Obj)) (tree : FileTree)
    → HaveOwnKeys (fulls lists) → IsViewOf (fulls lists) pfs t tree → IsLookedUp t pfs directory name found lists
    → named_in tree directory name ≡ option_map (λ (f : ℕ × Obj). f.1) found
named_there lists t pfs directory name None tree own view lacks =
    lacks_none pfs tree (Counts (fulls lists) t) (record { settled = settled (fulls lists) t own; view = view }) directory name lacks
named_there lists t pfs directory name (Some found) tree own view first =
    triple_is_named pfs tree (Counts (fulls lists) t) (record { settled = settled (fulls lists) t own; view = view }) directory name found.1
    (record { key = found.0; there = first.there; first = first.first })

-- ---- whether a directory has names

filled : {X : Type 0} (xs : List X) (x : X) → Contains xs x → nat_lt 0 (length xs) ≡ true
filled [] x has = absurd (has_none x has)
filled (y ∷ ys) x has = lt-ltb 0 (length (y ∷ ys)) (omega arith)

unfilled : {X : Type 0} (xs : List X) → ((x : X) → Contains xs x → ⊥) → nat_lt 0 (length xs) ≡ false
unfilled [] none = refl
unfilled (y ∷ ys) none = absurd (none y (has_head y ys))

-- an entry's key is one of 8 bytes
key_below : (hash : List ℕ → ℕ) (es : List FullElement) (t pfs key : ℕ) (directory : Obj) (name : List ℕ) (object : Obj) → IsHash hash
    → KeysFit hash es → HasEntry (Counts es t) pfs directory key name object → key < 2 ^ 64
key_below hash es t pfs key directory name object hashes fit has =
    let fits = fit has.there.element (record { obj = object; name = name }) has.there.there (ap (λ (s : Subject). s.rec_type) has.there.about) has.ranges
    has.there.holds in
    let same : has.there.element.key.key ≡ key = ap (λ (s : Subject). s.key) has.there.about in
    omega (arith, fits, same, hashes name)

pub names_told : (lists : Lists) (hash : List ℕ → ℕ) (t pfs : ℕ) (directory : Obj) (tree : FileTree) (found : Option (ℕ × DirEntry)) → IsHash hash
    → KeysFit hash (fulls lists) → IsViewOf (fulls lists) pfs t tree
    → IsPreviousName (Counts (fulls lists) t) pfs directory 0 (2 ^ 64 - 1) found
    → nat_lt 0 (length (entries_in tree directory)) ≡ is_some found
names_told lists hash t pfs directory tree None hashes fit view none =
    unfilled (entries_in tree directory) (λ u has.
    let (there, at) = filter_has (λ (u : Triple). u.directory.0 == directory.0) tree.triples u has in
    let is : IsTriple (Counts (fulls lists) t) pfs u = (view.triples u).0 there in
    let same : u.directory ≡ directory = ap (λ (n : ℕ). let o : Obj = record { 0 = n } in o) (eqb-true u.directory.0 directory.0 at) in
    let first : IsFirstEntry (Counts (fulls lists) t) pfs directory u.name is.key u.object = subst (λ (d : Obj).
    IsFirstEntry (Counts (fulls lists) t) pfs d u.name is.key u.object) same (record { there = is.there; first = is.first }) in
    none is.key u.name u.object (omega arith)
    (omega (arith, key_below hash (fulls lists) t pfs is.key directory u.name u.object hashes fit first.there)) first)
names_told lists hash t pfs directory tree (Some found) hashes fit view next =
    let u : Triple = record { directory = directory; name = found.1.name; object = found.1.obj } in
    filled (entries_in tree directory) u (has_filter (λ (u : Triple). u.directory.0 == directory.0) tree.triples u
    ((view.triples u).1 (record { key = found.0; there = next.leads.there; first = next.leads.first })) (eq-eqb directory.0 directory.0 refl))

-- what a look for a name tells of the tree
pub looked_named : (es : Option (List Element)) (xs : Option (List Extent)) → IfSome es IsContent → (hash : List ℕ → ℕ) (t pfs : ℕ) (directory : Obj)
    (name : List ℕ) (result : Result (Option (ℕ × Obj)) Fault) → IfOk result (λ found. OnNamed hash es xs (IsLookedUp t pfs directory name found))
    → IfOk result (λ found. OnNamed hash es xs (λ lists. IsLookedUp t pfs directory name found lists
    × ((tree : FileTree) → IsViewOf (fulls lists) pfs t tree → named_in tree directory name ≡ option_map (λ (f : ℕ × Obj). f.1) found)))
looked_named es xs content hash t pfs directory name (Err fault) told = tt
looked_named es xs content hash t pfs directory name (Ok found) told =
    told_next es xs (λ lists. KeysFit hash (fulls lists) → IsLookedUp t pfs directory name found lists)
    (λ lists. KeysFit hash (fulls lists) → IsLookedUp t pfs directory name found lists
    × ((tree : FileTree) → IsViewOf (fulls lists) pfs t tree → named_in tree directory name ≡ option_map (λ (f : ℕ × Obj). f.1) found)) content told
    (λ lists own looks fit. (looks fit, λ tree view. named_there lists t pfs directory name found tree own view (looks fit)))

-- whether a directory with names is refused
pub refuses_names : (es : Option (List Element)) (xs : Option (List Extent)) (t pfs : ℕ) (directory : Obj) (found : Option (ℕ × DirEntry)) (some : Bool)
    → OnBalanced es xs (λ lists. (hash : List ℕ → ℕ) → KeysFit hash (fulls lists)
    → IsPreviousName (Counts (fulls lists) t) pfs directory 0 (2 ^ 64 - 1) found)
    → is_some found ≡ some
    → OnBalanced es xs (λ lists. (hash : List ℕ → ℕ) (tree : FileTree) → IsHash hash → KeysFit hash (fulls lists) → IsViewOf (fulls lists) pfs t tree
    → refuse_if (nat_lt 0 (length (entries_in tree directory))) not_empty ≡ refuse_if some not_empty)
refuses_names es xs t pfs directory found some told is =
    told_step es xs (λ lists. (hash : List ℕ → ℕ) → KeysFit hash (fulls lists) → IsPreviousName (Counts (fulls lists) t) pfs directory 0 (2 ^ 64 - 1) found)
    (λ lists. (hash : List ℕ → ℕ) (tree : FileTree) → IsHash hash → KeysFit hash (fulls lists) → IsViewOf (fulls lists) pfs t tree
    → refuse_if (nat_lt 0 (length (entries_in tree directory))) not_empty ≡ refuse_if some not_empty) told
    (λ lists next hash tree hashes fit view.
    ap (λ (b : Bool). refuse_if b not_empty) (names_told lists hash t pfs directory tree found hashes fit view (next hash fit) ∙ is))

-- ---- spots for new names

module _ (es : Option (List Element)) (xs : Option (List Extent)) (hash : List ℕ → ℕ) (t pfs : ℕ) (directory : Obj) (name : List ℕ) where
  abbrev pub Spotted : Option Spot → Lists → Type 0
  Spotted found lists =
      KeysFit hash (fulls lists) → (tree : FileTree) → IsViewOf (fulls lists) pfs t tree
      → IsSpotFor hash (Counts (fulls lists) t) tree pfs directory name found

  -- the store as it is spotted by a name that is this one
  pub spotted : (other : List ℕ) (found found' : Option Spot) → other ≡ name → found ≡ found'
      → OnNamed hash es xs (λ lists. (tree : FileTree) → IsViewOf (fulls lists) pfs t tree
      → IsSpotFor hash (Counts (fulls lists) t) tree pfs directory other found)
      → OnBalanced es xs (Spotted found')
  spotted other found found' same is told =
      subst (λ (f : Option Spot). OnBalanced es xs (Spotted f)) is
      (subst (λ (n : List ℕ). OnNamed hash es xs (λ lists. (tree : FileTree) → IsViewOf (fulls lists) pfs t tree
      → IsSpotFor hash (Counts (fulls lists) t) tree pfs directory n found)) same told)

  abbrev Checked : Check → Lists → Type 0
  Checked check lists =
      KeysFit hash (fulls lists) → (tree : FileTree) → IsViewOf (fulls lists) pfs t tree
      → refuse_if (nat_le 1024 (names_of_hash hash tree directory name)) hash_full ≡ check

  pub spot_passes : (spot : Spot) → OnBalanced es xs (Spotted (Some spot)) → OnBalanced es xs (Checked None)
  spot_passes spot told =
      told_step es xs (Spotted (Some spot)) (Checked None) told
      (λ lists spots fit tree view.
      ap (λ (b : Bool). refuse_if b hash_full) (lt-leb 1024 (names_of_hash hash tree directory name) (spots fit tree view).0))

  pub spot_refused : OnBalanced es xs (Spotted None) → OnBalanced es xs (Checked (Some hash_full))
  spot_refused told =
      told_step es xs (Spotted None) (Checked (Some hash_full)) told
      (λ lists full fit tree view.
      ap (λ (b : Bool). refuse_if b hash_full) (le-leb 1024 (names_of_hash hash tree directory name) (full fit tree view)))

  pub spot_is : (spot : Spot) → OnBalanced es xs (Spotted (Some spot))
      → OnNamed hash es xs (λ lists. (tree : FileTree) → IsViewOf (fulls lists) pfs t tree
      → IsSpot (Counts (fulls lists) t) pfs directory (first_key (hash name)) spot)
  spot_is spot told =
      told_step es xs (Spotted (Some spot)) (λ lists. KeysFit hash (fulls lists) → (tree : FileTree) → IsViewOf (fulls lists) pfs t tree
      → IsSpot (Counts (fulls lists) t) pfs directory (first_key (hash name)) spot) told
      (λ lists spots fit tree view. (spots fit tree view).1)
