-- The ids that the softlinks of a directory name, over what a store may tell.
use Rattle.std.proofs.Common.{◌≡◌, ◌≢◌, ℕ, ◌^◌, List, [], ◌∷◌, ◌++◌, append-nil, filter, map, Bool, true, false, Option, None, Some, refl, sym, ap, subst, ◌∙◌}
use Rattle.std.specs.Prelude.{IfSome, if◌then◌else◌}
use Rattle.std.specs.Bool.{nat_le}
use Rattle.std.specs.List.{filter_map}
use Rattle.std.specs.Option.{option_map_or}
use Rattle.std.specs.List.Sorted.{IsPermutation}
use Rattle.std.proofs.lemmas.List.{map-append}
use Rattle.std.proofs.lemmas.List.Sorted.{IsPermutation-cons, IsPermutation-middle, IsPermutation-refl}
use Rattle.std.proofs.lemmas.List.Sorted.{IsPermutation-sym, IsPermutation-to_front, IsPermutation-trans}
use Rattle.hm_types.specs.Tree.{FileTree, entries_in, insert_by, is_triple_before}
use Rattle.hm_types.specs.declared.id.Id.{Id}
use Rattle.hm_types.specs.declared.id.Obj.{Obj}
use Rattle.hm_types.specs.declared.object.Content.{Content as Held}
use Rattle.hm_types.specs.declared.object.Content.TheVariants.{Nothing, File as of_file, Target, Linked}
use Rattle.hm_types.specs.declared.object.Object.{Object}
use Rattle.hm_types.specs.declared.object.Triple.{Triple}
use Rattle.hm_key.specs.Counts.{Content, Counts}
use Rattle.hm_key.specs.Elements.{IsContent}
use Rattle.hm_key.specs.Extents.{Extent}
use Rattle.hm_key.specs.declared.element.Element.{Element}
use Rattle.hm_model.specs.Cut.{entry_id, id_in, named_id, snapshot_ids}
use Rattle.hm_records.specs.Changes.{IsSettled}
use Rattle.hm_records.specs.Laws.{triple_of}
use Rattle.hm_records.specs.View.{IsHeld, IsTargetOf, held, missing}
use Rattle.hm_records.specs.declared.entry.DirEntry.{DirEntry}
use Rattle.hm_records.specs.declared.inode.Inode.{Inode}
use Rattle.hm_records.specs.declared.kind.TheConstants.{SOFTLINK}
use Rattle.hm_records.proofs.LookupLemmas.{found_is_object}
use Rattle.hm_volume.specs.Found.{IsMadeBy}
use Rattle.hm_volume.proofs.MadeLemmas.{found, not_found}
use Rattle.hm_cursor.specs.Told.{IsInodeThen, OnBalanced, fulls}
use Rattle.hm_view.specs.Pass.{ArePassed, Passes}
use Rattle.hm_view.specs.Snapshots.{id_number, object_id, visible_id}
use Rattle.hm_view.specs.Trees.{OnTrees}
use Rattle.hm_view.proofs.PassLemmas.{none_passed}
use Rattle.hm_view.proofs.SizeLemmas.{held_by, softlink_held}
use Rattle.hm_view.proofs.ListingLemmas.{Step, no_keys_above, step_on, step_over}
use Rattle.hm_view.proofs.TreesLemmas.{OnTree, nothing_told, on_both, own_keys, settled_told, still, trees_both, trees_of}

-- ---- the id of one object

-- a target is one
target_one : (counts : Content) (pfs obj : ℕ) (a b : List ℕ) → IsSettled counts → IsTargetOf counts pfs obj a → IsTargetOf counts pfs obj b → a ≡ b
target_one counts pfs obj a b one (held x) (held y) = one _ a b x y
target_one counts pfs obj a b one (held x) (missing none is) = absurd (none a x)
target_one counts pfs obj a b one (missing none is) (held y) = absurd (none b y)
target_one counts pfs obj a b one (missing none is) (missing none' is') = is ∙ sym is'

-- what is no softlink names no id
no_link : (counts : Content) (pfs : ℕ) (inode : Inode) (o : Object) → IsMadeBy counts pfs inode o → inode.kind ≢ SOFTLINK → id_in o.content ≡ None
no_link counts pfs inode o made not = by_content o.content (held_by counts pfs inode o made) where
  by_content : (content : Held) → IsHeld counts pfs o.number.0 inode content → id_in content ≡ None
  by_content Nothing holds = refl
  by_content (of_file bytes) holds = refl
  by_content (Target text) holds = absurd (not holds.0)
  by_content (Linked other) holds = refl

module _ (es : Option (List Element)) (xs : Option (List Extent)) (pfs t : ℕ) (object : Obj) (shown : ℕ) (content : IfSome es IsContent) where
  -- this is told of the object
  abbrev pub Names : Option ℕ → Type 0
  Names id = OnTrees es xs pfs t (λ lists tree. id ≡ visible_id shown (object_id tree object))

  pub names_none : (answer : Option Inode) → answer ≡ None → OnBalanced es xs (λ lists. IsInodeThen lists t pfs object.0 answer) → Names None
  names_none answer is told =
      trees_of es xs pfs t content (λ lists. IsInodeThen lists t pfs object.0 None) (λ lists tree. None ≡ visible_id shown (object_id tree object))
      (λ lists tree content balanced hash small fit view none.
      sym (ap (λ (p : Option Object). visible_id shown (option_map_or (λ (o : Object). id_in o.content) p None))
      (not_found (fulls lists) t pfs tree object (own_keys lists content) view none)))
      (subst (λ (a : Option Inode). OnBalanced es xs (λ lists. IsInodeThen lists t pfs object.0 a)) is told)

  pub names_other : (answer : Option Inode) (inode : Inode) → answer ≡ Some inode → inode.kind ≢ SOFTLINK
      → OnBalanced es xs (λ lists. IsInodeThen lists t pfs object.0 answer) → Names None
  names_other answer inode is not told =
      trees_of es xs pfs t content (λ lists. IsInodeThen lists t pfs object.0 (Some inode)) (λ lists tree. None ≡ visible_id shown (object_id tree object))
      (λ lists tree content balanced hash small fit view has.
      let o = found (fulls lists) t pfs tree object (own_keys lists content) view inode has in
      sym (ap (λ (p : Option Object). visible_id shown (option_map_or (λ (o : Object). id_in o.content) p None)) o.1
      ∙ ap (visible_id shown) (no_link (Counts (fulls lists) t) pfs inode o.0 o.2 not)))
      (subst (λ (a : Option Inode). OnBalanced es xs (λ lists. IsInodeThen lists t pfs object.0 a)) is told)

  pub names_link : (answer : Option Inode) (inode : Inode) (text : List ℕ) (id : Option ℕ) (es' : Option (List Element)) (xs' : Option (List Extent))
      → es' ≡ es → xs' ≡ xs → answer ≡ Some inode → inode.kind ≡ SOFTLINK → id ≡ visible_id shown (named_id text)
      → OnBalanced es xs (λ lists. IsInodeThen lists t pfs object.0 answer)
      → OnBalanced es' xs' (λ lists. IsTargetOf (Counts (fulls lists) t) pfs object.0 text) → Names id
  names_link answer inode text id es' xs' same same' is link named told read =
      trees_of es xs pfs t content
      (λ lists. IsInodeThen lists t pfs object.0 (Some inode) × IsTargetOf (Counts (fulls lists) t) pfs object.0 text)
      (λ lists tree. id ≡ visible_id shown (object_id tree object))
      (λ lists tree content balanced hash small fit view both.
      let o = found (fulls lists) t pfs tree object (own_keys lists content) view inode both.0 in
      let number : o.0.number.0 ≡ object.0 =
      (found_is_object pfs tree (Counts (fulls lists) t) (record { settled = settled_told lists t content; view = view }) object o.0 o.1).1 in
      let (other, holds, leads) = softlink_held (Counts (fulls lists) t) pfs inode o.0 o.2 link in
      let one : other ≡ text =
      target_one (Counts (fulls lists) t) pfs o.0.number.0 other text (settled_told lists t content) leads
      (subst (λ (n : ℕ). IsTargetOf (Counts (fulls lists) t) pfs n text) (sym number) both.1) in
      named ∙ sym (ap (λ (p : Option Object). visible_id shown (option_map_or (λ (o : Object). id_in o.content) p None)) o.1
      ∙ ap (λ (c : Held). visible_id shown (id_in c)) holds ∙ ap (λ (l : List ℕ). visible_id shown (named_id l)) one))
      (on_both es xs (λ lists. IsInodeThen lists t pfs object.0 (Some inode)) (λ lists. IsTargetOf (Counts (fulls lists) t) pfs object.0 text)
      (λ lists. IsInodeThen lists t pfs object.0 (Some inode) × IsTargetOf (Counts (fulls lists) t) pfs object.0 text) content
      (λ lists content balanced inode target. (inode, target))
      (subst (λ (a : Option Inode). OnBalanced es xs (λ lists. IsInodeThen lists t pfs object.0 a)) is told)
      (still es es' xs xs' (λ lists. IsTargetOf (Counts (fulls lists) t) pfs object.0 text) same same' read))

-- ---- the ids of names

-- those of some names, but for ids above the shown one
abbrev ids_of : FileTree → ℕ → List Triple → List ℕ
ids_of tree shown ts = filter (λ id. nat_le id shown) (filter_map (entry_id tree) ts)

-- an id more, if there is one
abbrev with_id : Option ℕ → List ℕ → List ℕ
with_id None ids = ids
with_id (Some id) ids = id ∷ ids

ids_cons : (tree : FileTree) (shown : ℕ) (t : Triple) (ts : List Triple)
    → ids_of tree shown (t ∷ ts) ≡ with_id (visible_id shown (object_id tree t.object)) (ids_of tree shown ts)
ids_cons tree shown t ts = by_id (object_id tree t.object) refl where
  by_id : (o : Option ℕ) → object_id tree t.object ≡ o
      → ids_of tree shown (t ∷ ts) ≡ with_id (visible_id shown (object_id tree t.object)) (ids_of tree shown ts)
  by_id None is = rw is refl
  by_id (Some id) is = rw is (by_test (nat_le id shown) refl) where
    by_test : (b : Bool) → nat_le id shown ≡ b
        → filter (λ id. nat_le id shown) (id ∷ filter_map (entry_id tree) ts)
        ≡ with_id (if nat_le id shown then Some id else None) (ids_of tree shown ts)
    by_test true test = rw test refl
    by_test false test = rw test refl

with_mixed : (o : Option ℕ) (xs ys : List ℕ) → IsPermutation xs ys → IsPermutation (with_id o xs) (with_id o ys)
with_mixed None xs ys mixed = mixed
with_mixed (Some id) xs ys mixed = IsPermutation-cons id xs ys mixed

with_both : (o p : Option ℕ) (xs : List ℕ) → IsPermutation (with_id o (with_id p xs)) (with_id p (with_id o xs))
with_both None p xs = IsPermutation-refl (with_id p xs)
with_both (Some a) None xs = IsPermutation-refl (a ∷ xs)
with_both (Some a) (Some b) xs = IsPermutation-middle (a ∷ []) b xs

with_end : (o : Option ℕ) (items : List ℕ) → IsPermutation (with_id o items) (items ++ with_id o [])
with_end None items = subst (IsPermutation items) (sym (append-nil items)) (IsPermutation-refl items)
with_end (Some id) items = IsPermutation-sym (items ++ id ∷ []) (id ∷ items) (IsPermutation-to_front items id)

ids_mixed : (tree : FileTree) (shown : ℕ) (t : Triple) (ts : List Triple)
    → IsPermutation (with_id (visible_id shown (object_id tree t.object)) (ids_of tree shown ts)) (ids_of tree shown (insert_by is_triple_before t ts))
ids_mixed tree shown t [] =
    subst (IsPermutation (with_id (visible_id shown (object_id tree t.object)) [])) (sym (ids_cons tree shown t []))
    (IsPermutation-refl (with_id (visible_id shown (object_id tree t.object)) []))
ids_mixed tree shown t (u ∷ us) = by_test (is_triple_before t u) (ids_mixed tree shown t us) where
  by_test : (b : Bool)
      → IsPermutation (with_id (visible_id shown (object_id tree t.object)) (ids_of tree shown us)) (ids_of tree shown (insert_by is_triple_before t us))
      → IsPermutation (with_id (visible_id shown (object_id tree t.object)) (ids_of tree shown (u ∷ us)))
      (ids_of tree shown (if b then t ∷ u ∷ us else u ∷ insert_by is_triple_before t us))
  by_test true rest =
      subst (IsPermutation (with_id (visible_id shown (object_id tree t.object)) (ids_of tree shown (u ∷ us)))) (sym (ids_cons tree shown t (u ∷ us)))
      (IsPermutation-refl (with_id (visible_id shown (object_id tree t.object)) (ids_of tree shown (u ∷ us))))
  by_test false rest =
      subst (λ (l : List ℕ). IsPermutation (with_id (visible_id shown (object_id tree t.object)) l)
      (ids_of tree shown (u ∷ insert_by is_triple_before t us))) (sym (ids_cons tree shown u us))
      (subst (IsPermutation (with_id (visible_id shown (object_id tree t.object))
      (with_id (visible_id shown (object_id tree u.object)) (ids_of tree shown us))))
      (sym (ids_cons tree shown u (insert_by is_triple_before t us)))
      (IsPermutation-trans _ _ _ (with_both (visible_id shown (object_id tree t.object)) (visible_id shown (object_id tree u.object)) (ids_of tree shown us))
      (with_mixed (visible_id shown (object_id tree u.object)) _ _ rest)))

-- the numbers of ids, with one more or none
pub pushed : (items new : List Id) (o : Option Id) (id : Id) → o ≡ Some id → new ≡ items ++ id ∷ []
    → map (λ (i : Id). i.0) items ++ with_id (id_number o) [] ≡ map (λ (i : Id). i.0) new
pushed items new o id is same = rw (is, same) (sym (map-append (λ (i : Id). i.0) items (id ∷ [])))

pub kept : (items new : List Id) (o : Option Id) → o ≡ None → new ≡ items
    → map (λ (i : Id). i.0) items ++ with_id (id_number o) [] ≡ map (λ (i : Id). i.0) new
kept items new o is same = rw (is, same) (append-nil (map (λ (i : Id). i.0) items))

-- ---- what a store tells

-- the ids of the names from a key on, in some order
pub record HasNamed (counts : Content) (pfs : ℕ) (directory : Obj) (shown first : ℕ) (ids : List ℕ) (tree : FileTree) : Type 0 where
  pub passed : List Triple
  pub are : ArePassed counts pfs directory first passed
  pub is : IsPermutation (ids_of tree shown passed) ids

module _ (es : Option (List Element)) (xs : Option (List Extent)) (pfs t : ℕ) (directory : Obj) (shown : ℕ) (content : IfSome es IsContent) where
  abbrev pub Named : ℕ → List ℕ → Type 0
  Named first ids = OnTrees es xs pfs t (λ lists tree. HasNamed (Counts (fulls lists) t) pfs directory shown first ids tree)

  pub named_none : Named (2 ^ 63) []
  named_none =
      trees_of es xs pfs t content (λ _. Unit {0}) (λ lists tree. HasNamed (Counts (fulls lists) t) pfs directory shown (2 ^ 63) [] tree)
      (λ lists tree told balanced hash small fit view _.
      let few = no_keys_above es xs pfs t directory content hash lists small fit in
      record { passed = []; are = none_passed (Counts (fulls lists) t) pfs directory few; is = IsPermutation-refl [] })
      (nothing_told es xs)

  pub named_more : (first next : ℕ) (ids : List ℕ) (id : Option ℕ) (entry : DirEntry) (answer : Option (ℕ × DirEntry))
      (es' es'' : Option (List Element)) (xs' xs'' : Option (List Extent)) → es' ≡ es → xs' ≡ xs → es'' ≡ es → xs'' ≡ xs
      → answer ≡ Some (next, entry) → Step es xs pfs t directory content first answer es' xs'
      → OnTrees es'' xs'' pfs t (λ lists tree. id ≡ visible_id shown (object_id tree entry.obj))
      → Named first ids → Named next (ids ++ with_id id [])
  named_more first next ids id entry answer es' es'' xs' xs'' same same' stay stay' is step told named =
      trees_both es xs pfs t content
      (λ lists tree. (o : Option ℕ) → o ≡ visible_id shown (object_id tree entry.obj)
      → HasNamed (Counts (fulls lists) t) pfs directory shown next (ids ++ with_id o []) tree)
      (λ lists tree. id ≡ visible_id shown (object_id tree entry.obj))
      (λ lists tree. HasNamed (Counts (fulls lists) t) pfs directory shown next (ids ++ with_id id []) tree)
      (λ lists tree content view more here. more id here)
      (trees_both es xs pfs t content (λ lists tree. HasNamed (Counts (fulls lists) t) pfs directory shown first ids tree)
      (λ lists tree. (passed : List Triple) → ArePassed (Counts (fulls lists) t) pfs directory first passed
      → Passes (Counts (fulls lists) t) pfs directory tree passed (Some (next, entry)))
      (λ lists tree. (o : Option ℕ) → o ≡ visible_id shown (object_id tree entry.obj)
      → HasNamed (Counts (fulls lists) t) pfs directory shown next (ids ++ with_id o []) tree)
      (λ lists tree content view was passes o here. record {
        passed = insert_by is_triple_before (triple_of directory entry.name entry.obj) was.passed;
        are = passes was.passed was.are;
        is = subst (λ (p : Option ℕ). IsPermutation
            (ids_of tree shown (insert_by is_triple_before (triple_of directory entry.name entry.obj) was.passed)) (ids ++ with_id p [])) (sym here)
            (IsPermutation-trans _ _ _
            (IsPermutation-sym _ _ (ids_mixed tree shown (triple_of directory entry.name entry.obj) was.passed))
            (IsPermutation-trans _ _ _ (with_mixed (visible_id shown (object_id tree entry.obj)) _ _ was.is)
            (with_end (visible_id shown (object_id tree entry.obj)) ids)));
      })
      named (step_on es xs pfs t directory content first next entry answer es' xs' same same' is step))
      (still es es'' xs xs'' (OnTree pfs t (λ lists tree. id ≡ visible_id shown (object_id tree entry.obj))) stay stay' told)

  pub named_all : (first : ℕ) (ids : List ℕ) (answer : Option (ℕ × DirEntry)) (es' : Option (List Element)) (xs' : Option (List Extent))
      → es' ≡ es → xs' ≡ xs → answer ≡ None → Step es xs pfs t directory content first answer es' xs' → Named first ids
      → OnTrees es xs pfs t (λ lists tree. IsPermutation (snapshot_ids tree directory shown) ids)
  named_all first ids answer es' xs' same same' is step named =
      trees_both es xs pfs t content (λ lists tree. HasNamed (Counts (fulls lists) t) pfs directory shown first ids tree)
      (λ lists tree. (passed : List Triple) → ArePassed (Counts (fulls lists) t) pfs directory first passed → passed ≡ entries_in tree directory)
      (λ lists tree. IsPermutation (snapshot_ids tree directory shown) ids)
      (λ lists tree content view was all.
      subst (λ (ts : List Triple). IsPermutation (ids_of tree shown ts) ids) (all was.passed was.are) was.is)
      named (step_over es xs pfs t directory content first answer es' xs' same same' is step)
