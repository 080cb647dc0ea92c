-- What inodes tell of the kinds of their objects.
use Rattle.std.proofs.Common.{◌≡◌, ℕ, Bool, true, false, List, [], ◌∷◌, Option, Some, None, cond, refl, sym, ap, subst, ◌∙◌, ◌≤◌, arith}
use Rattle.std.specs.Prelude.{◌==◌, ◌&&◌, ◌||◌, IfSome, find, if◌then◌else◌}
use Rattle.std.specs.Option.{option_map_or}
use Rattle.std.proofs.lemmas.Bool.{eqb-true, eq-eqb, false≢true}
use Rattle.hm_types.specs.Tree.{FileTree, object_in}
use Rattle.hm_types.specs.declared.id.Obj.{Obj}
use Rattle.hm_types.specs.declared.object.Kind.{Kind}
use Rattle.hm_types.specs.declared.object.Kind.TheVariants.{Directory, File, Softlink, PfsLink}
use Rattle.hm_types.specs.declared.object.Object.{Object}
use Rattle.hm_key.specs.Counts.{Content, Counts}
use Rattle.hm_model.specs.Call.{Call}
use Rattle.hm_model.specs.Due.{gives_way, is_dir, is_dir_or_link, is_softlink, refuse_if}
use Rattle.hm_model.specs.View.{object_at}
use Rattle.hm_records.specs.View.{kind_number}
use Rattle.hm_records.specs.declared.inode.Inode.{Inode}
use Rattle.hm_records.specs.declared.kind.TheConstants.{DIRECTORY, PFS_LINK}
use Rattle.hm_volume.specs.Found.{IsFoundBy, IsMadeBy}
use Rattle.hm_dirs.specs.Walk.{IsRead, Scene, place_of, when_of}
use Rattle.hm_dirs.specs.declared.position.Stand.{Stand}
use Rattle.hm_calls.specs.Places.{gives_way_by, IsKindOf, ask_kind}
use Rattle.hm_model.specs.declared.reply.Reply.TheVariants.{IsDir, NotDir, NotFile}

-- the kind of an object is that of its inode
pub kind_is : (counts : Content) (pfs : ℕ) (inode : Inode) (o : Object) → IsMadeBy counts pfs inode o → inode.kind ≡ kind_number o.kind
kind_is counts pfs inode o made = ap (λ (i : Inode). i.kind) (sym made.same) ∙ made.object.kind

-- a number that is that of the kind that an inode tells is that of its object
pub told_kind : (counts : Content) (pfs : ℕ) (found : Option Object) (inode : Option Inode) (o : Object) (kind : ℕ) → found ≡ Some o
    → IsFoundBy counts pfs found inode → IsKindOf kind inode → kind ≡ kind_number o.kind
told_kind counts pfs None inode o kind there by is = absurd (cc)
told_kind counts pfs (Some p) None o kind there by is = absurd by
told_kind counts pfs (Some p) (Some inode) o kind there by is =
    let same : p ≡ o = cc in
    let tells = kind_is counts pfs inode p by in
    let range = in_range p.kind in
    is (omega (arith, tells, range.0)) (omega (arith, tells, range.1)) ∙ tells ∙ ap (λ (x : Object). kind_number x.kind) same
  where
    in_range : (k : Kind) → (1 ≤ kind_number k) × (kind_number k ≤ 4)
    in_range Directory = (omega arith, omega arith)
    in_range File = (omega arith, omega arith)
    in_range Softlink = (omega arith, omega arith)
    in_range PfsLink = (omega arith, omega arith)

-- what is neither a directory nor a link is a file
pub file_left : (kind : Kind) → refuse_if (is_dir_or_link kind) IsDir ≡ None → refuse_if (is_softlink kind) NotFile ≡ None → kind ≡ File
file_left Directory no_dir no_link = absurd (cc)
file_left File no_dir no_link = refl
file_left Softlink no_dir no_link = absurd (cc)
file_left PfsLink no_dir no_link = absurd (cc)

-- what was asked to be a directory is one
pub directory_asked : (object : Option Object) (o : Object) → object ≡ Some o → ask_kind is_dir NotDir object ≡ None → o.kind ≡ Directory
directory_asked object o there asked = by_kind o.kind (subst (λ (x : Option Object). ask_kind is_dir NotDir x ≡ None) there asked) where
  by_kind : (kind : Kind) → (if is_dir kind then None else Some NotDir) ≡ None → kind ≡ Directory
  by_kind Directory is = refl
  by_kind File is = absurd (cc)
  by_kind Softlink is = absurd (cc)
  by_kind PfsLink is = absurd (cc)

dir_is : (kind : Kind) → (kind_number kind == DIRECTORY) ≡ is_dir kind
dir_is Directory = refl
dir_is File = refl
dir_is Softlink = refl
dir_is PfsLink = refl

dir_or_link_is : (kind : Kind) → ((kind_number kind == DIRECTORY) || (kind_number kind == PFS_LINK)) ≡ is_dir_or_link kind
dir_or_link_is Directory = refl
dir_or_link_is File = refl
dir_or_link_is Softlink = refl
dir_or_link_is PfsLink = refl

-- what is found passes
found_passes : {X : Type 0} (p : X → Bool) (xs : List X) (x : X) → find p xs ≡ Some x → p x ≡ true
found_passes p [] x is = absurd (cc)
found_passes {X} p (y ∷ xs) x is = by_test (p y) refl is (found_passes p xs x) where
  by_test : (b : Bool) → p y ≡ b → cond b (Some y) (find p xs) ≡ Some x → (find p xs ≡ Some x → p x ≡ true) → p x ≡ true
  by_test true passes here rest =
      let e : y ≡ x = cc in
      subst (λ (z : X). p z ≡ true) e passes
  by_test false fails here rest = rest here

-- an object that is found has the number that it was looked for by
pub number_found : (tree : FileTree) (number : Obj) (o : Object) → object_in tree number ≡ Some o → o.number.0 ≡ number.0
number_found tree number o is = eqb-true o.number.0 number.0 (found_passes (λ (p : Object). p.number.0 == number.0) tree.objects o is)

eqb_sym : (a b : ℕ) → (a == b) ≡ (b == a)
eqb_sym a b = by_test (a == b) (b == a) refl refl where
  by_test : (p q : Bool) → (a == b) ≡ p → (b == a) ≡ q → p ≡ q
  by_test true true one two = refl
  by_test false false one two = refl
  by_test true false one two = absurd (false≢true (sym two ∙ eq-eqb b a (sym (eqb-true a b one))))
  by_test false true one two = absurd (false≢true (sym one ∙ eq-eqb a b (sym (eqb-true b a two))))

-- nothing gives way
pub nothing_gives : (moved : Option Inode) (same : Bool) → gives_way_by moved None same ≡ false
nothing_gives None same = refl
nothing_gives (Some moved) same = refl

-- whether an object gives way is told by its inode and that of the moved one
pub way_is : (scene : Scene) (call : Call) (stand : Stand) (there : ℕ) (o : Option Object) (i : Option Inode) → IsRead scene stand
    → IsFoundBy (Counts scene.elements stand.as_of.0) stand.at.pfs.0 o i → IfSome o (λ found. found.number.0 ≡ there)
    → option_map_or (λ (found : Object). option_map_or (λ (m : Object). gives_way call m found) (object_at scene.view (place_of stand.at)) false) o false
    ≡ gives_way_by stand.inode i (there == stand.at.object.0)
way_is scene call stand there o i read found number =
    by_both (object_at scene.view (place_of stand.at)) stand.inode o i refl read.inode found number
  where
    by_both : (m : Option Object) (mi : Option Inode) (o : Option Object) (i : Option Inode) → object_at scene.view (place_of stand.at) ≡ m
        → IsFoundBy (Counts scene.elements stand.as_of.0) stand.at.pfs.0 m mi → IsFoundBy (Counts scene.elements stand.as_of.0) stand.at.pfs.0 o i
        → IfSome o (λ found. found.number.0 ≡ there)
        → option_map_or (λ (found : Object). option_map_or (λ (m : Object). gives_way call m found) m false) o false
        ≡ gives_way_by mi i (there == stand.at.object.0)
    by_both None None None None is made found number = refl
    by_both None None (Some o) (Some i) is made found number = refl
    by_both (Some m) (Some mi) None None is made found number = refl
    by_both (Some m) (Some mi) (Some o) (Some i) is made found number =
        let counts : Content = Counts scene.elements stand.as_of.0 in
        let same : (m.number.0 == o.number.0) ≡ (there == stand.at.object.0) =
        ap (λ (n : ℕ). n == o.number.0) (number_found (scene.view stand.at.pfs.0 (when_of stand.at.when)) stand.at.object m is)
        ∙ ap (λ (n : ℕ). stand.at.object.0 == n) number
        ∙ eqb_sym stand.at.object.0 there in
        let dir : is_dir m.kind ≡ (mi.kind == DIRECTORY) =
        sym (ap (λ (n : ℕ). n == DIRECTORY) (kind_is counts stand.at.pfs.0 mi m made) ∙ dir_is m.kind) in
        let link : is_dir_or_link o.kind ≡ ((i.kind == DIRECTORY) || (i.kind == PFS_LINK)) =
        sym (ap (λ (n : ℕ). (n == DIRECTORY) || (n == PFS_LINK)) (kind_is counts stand.at.pfs.0 i o found) ∙ dir_or_link_is o.kind) in
        ap (λ (b : Bool). b || ((if is_dir_or_link o.kind then false else true) && (if is_dir m.kind then false else true))) same
        ∙ ap (λ (b : Bool). (there == stand.at.object.0) || ((if b then false else true) && (if is_dir m.kind then false else true))) link
        ∙ ap (λ (b : Bool). (there == stand.at.object.0)
        || ((if (i.kind == DIRECTORY) || (i.kind == PFS_LINK) then false else true) && (if b then false else true))) dir
    by_both None (Some mi) o i is made found number = absurd made
    by_both (Some m) None o i is made found number = absurd made
    by_both m mi None (Some i) is made found number = absurd found
    by_both m mi (Some o) None is made found number = absurd found
