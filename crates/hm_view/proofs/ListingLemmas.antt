-- The names of a directory, with the kinds of their objects.
use Rattle.std.proofs.Common.{◌≡◌, ℕ, ◌+◌, ◌^◌, ◌<◌, List, [], ◌∷◌, ◌++◌, length, map, Bool, true, false, Option, None, Some, refl, sym, ap, subst, ◌∙◌, arith}
use Rattle.std.specs.Prelude.{◌==◌, IfSome, if◌then◌else◌}
use Rattle.std.specs.Option.{option_map_or}
use Rattle.std.specs.List.Sorted.{IsPermutation, IsSortedBy}
use Rattle.std.proofs.lemmas.Bool.{eqb-true}
use Rattle.std.proofs.lemmas.List.Sorted.{IsPermutation-cons, IsPermutation-map, IsPermutation-middle, IsPermutation-refl, IsPermutation-sym}
use Rattle.std.proofs.lemmas.List.Sorted.{IsPermutation-to_front, IsPermutation-trans, length_permutation}
use Rattle.hm_types.specs.Tree.{FileTree, entries_in, insert_by, is_triple_before}
use Rattle.hm_types.specs.declared.id.Obj.{Obj}
use Rattle.hm_types.specs.declared.object.Kind.{Kind}
use Rattle.hm_types.specs.declared.object.Kind.TheVariants.{Directory, File, Softlink, PfsLink}
use Rattle.hm_types.specs.declared.object.Object.{Object}
use Rattle.hm_types.specs.declared.object.Triple.{Triple}
use Rattle.hm_key.specs.Counts.{Content, Counts}
use Rattle.hm_key.specs.Elements.{IsContent}
use Rattle.hm_key.specs.Extents.{Extent}
use Rattle.hm_key.specs.declared.element.Element.{Element}
use Rattle.hm_model.specs.Answer.{entry_kind, kind_number, listing}
use Rattle.hm_records.specs.Laws.{triple_of}
use Rattle.hm_records.specs.KeysFit.{KeysFit}
use Rattle.hm_records.specs.View.{AreInOrder, HasEntry, IsView, kind_number as stored_kind}
use Rattle.hm_records.specs.declared.entry.DirEntry.{DirEntry}
use Rattle.hm_records.specs.declared.inode.Inode.{Inode}
use Rattle.hm_records.proofs.MemberLemmas.{filter_has, order_filter}
use Rattle.hm_volume.proofs.MadeLemmas.{found, not_found}
use Rattle.hm_cursor.specs.Names.{IsHash}
use Rattle.hm_cursor.specs.Told.{IsInodeThen, Lists, OnBalanced, fulls}
use Rattle.hm_view.specs.Pass.{ArePassed, Passes}
use Rattle.hm_view.specs.Trees.{OnTrees}
use Rattle.hm_view.proofs.OrderLemmas.{Item, is_name_before, sorted_names, triples_rise}
use Rattle.hm_view.proofs.PassLemmas.{few_keys, none_passed}
use Rattle.hm_view.proofs.TreesLemmas.{OnTree, nothing_told, own_keys, still, trees_both, trees_of, trees_one}

-- ---- the kind of an object

same_kind : (kind : Kind) → stored_kind kind ≡ kind_number kind
same_kind Directory = refl
same_kind File = refl
same_kind Softlink = refl
same_kind PfsLink = refl

module _ (es : Option (List Element)) (xs : Option (List Extent)) (pfs t : ℕ) (object : Obj) (content : IfSome es IsContent) where
  pub kind_some : (answer : Option Inode) (inode : Inode) → answer ≡ Some inode → OnBalanced es xs (λ lists. IsInodeThen lists t pfs object.0 answer)
      → OnTrees es xs pfs t (λ lists tree. inode.kind ≡ entry_kind tree object)
  kind_some answer inode is told =
      trees_of es xs pfs t content (λ lists. IsInodeThen lists t pfs object.0 (Some inode)) (λ lists tree. inode.kind ≡ entry_kind tree object)
      (λ lists tree content balanced hash small fit view has.
      let o = found (fulls lists) t pfs tree object (own_keys lists content) view inode has in
      sym (ap (λ (i : Inode). i.kind) o.2.same) ∙ o.2.object.kind ∙ same_kind o.0.kind
      ∙ sym (ap (λ (p : Option Object). option_map_or (λ (p : Object). kind_number p.kind) p 0) o.1))
      (subst (λ (a : Option Inode). OnBalanced es xs (λ lists. IsInodeThen lists t pfs object.0 a)) is told)

  pub kind_none : (answer : Option Inode) → answer ≡ None → OnBalanced es xs (λ lists. IsInodeThen lists t pfs object.0 answer)
      → OnTrees es xs pfs t (λ lists tree. 0 ≡ entry_kind tree object)
  kind_none answer is told =
      trees_of es xs pfs t content (λ lists. IsInodeThen lists t pfs object.0 None) (λ lists tree. 0 ≡ entry_kind tree object)
      (λ lists tree content balanced hash small fit view none.
      sym (ap (λ (p : Option Object). option_map_or (λ (p : Object). kind_number p.kind) p 0)
      (not_found (fulls lists) t pfs tree object (own_keys lists content) view none)))
      (subst (λ (a : Option Inode). OnBalanced es xs (λ lists. IsInodeThen lists t pfs object.0 a)) is told)

-- ---- names that were passed

-- what a listing has for a name
abbrev pub item_of : FileTree → Triple → Item
item_of tree t = (entry_kind tree t.object, t.name)

-- the names from a key on, with the kinds of their objects, in some order
pub record HasListed (counts : Content) (pfs : ℕ) (directory : Obj) (first : ℕ) (items : List Item) (tree : FileTree) : Type 0 where
  pub passed : List Triple
  pub are : ArePassed counts pfs directory first passed
  pub is : IsPermutation (map (item_of tree) passed) items

-- the number of names from a key on
pub record HasCounted (counts : Content) (pfs : ℕ) (directory : Obj) (first count : ℕ) : Type 0 where
  pub passed : List Triple
  pub are : ArePassed counts pfs directory first passed
  pub is : count ≡ length passed

insert_mixes : (t : Triple) (ts : List Triple) → IsPermutation (t ∷ ts) (insert_by is_triple_before t ts)
insert_mixes t [] = IsPermutation-refl (t ∷ [])
insert_mixes t (u ∷ ts) = by_test (is_triple_before t u) (insert_mixes t ts) where
  by_test : (b : Bool) → IsPermutation (t ∷ ts) (insert_by is_triple_before t ts)
      → IsPermutation (t ∷ u ∷ ts) (if b then t ∷ u ∷ ts else u ∷ insert_by is_triple_before t ts)
  by_test true rest = IsPermutation-refl (t ∷ u ∷ ts)
  by_test false rest =
      IsPermutation-trans (t ∷ u ∷ ts) (u ∷ t ∷ ts) (u ∷ insert_by is_triple_before t ts)
      (IsPermutation-sym (u ∷ t ∷ ts) (t ∷ u ∷ ts) (IsPermutation-middle (u ∷ []) t ts))
      (IsPermutation-cons u (t ∷ ts) (insert_by is_triple_before t ts) rest)

-- a name more
more_mixed : (f : Triple → Item) (t : Triple) (ts : List Triple) (items : List Item) → IsPermutation (map f ts) items
    → IsPermutation (map f (insert_by is_triple_before t ts)) (items ++ f t ∷ [])
more_mixed f t ts items mixed =
    IsPermutation-trans (map f (insert_by is_triple_before t ts)) (f t ∷ map f ts) (items ++ f t ∷ [])
    (IsPermutation-sym (f t ∷ map f ts) (map f (insert_by is_triple_before t ts))
    (IsPermutation-map f (t ∷ ts) (insert_by is_triple_before t ts) (insert_mixes t ts)))
    (IsPermutation-trans (f t ∷ map f ts) (f t ∷ items) (items ++ f t ∷ []) (IsPermutation-cons (f t) (map f ts) items mixed)
    (IsPermutation-sym (items ++ f t ∷ []) (f t ∷ items) (IsPermutation-to_front items (f t))))

-- the names of a directory rise
listing_rises : (counts : Content) (pfs : ℕ) (tree : FileTree) (directory : Obj) → IsView counts pfs tree
    → AreInOrder is_name_before (listing tree directory)
listing_rises counts pfs tree directory view =
    triples_rise directory.0 (λ (t : Triple). entry_kind tree t.object) (entries_in tree directory)
    (λ t has. eqb-true t.directory.0 directory.0 (filter_has (λ (t : Triple). t.directory.0 == directory.0) tree.triples t has).1)
    (order_filter is_triple_before (λ (t : Triple). t.directory.0 == directory.0) tree.triples view.triples_rise)

-- ---- what a store tells

module _ (es : Option (List Element)) (xs : Option (List Extent)) (pfs t : ℕ) (directory : Obj) (content : IfSome es IsContent) where
  abbrev pub Listed : ℕ → List Item → Type 0
  Listed first items = OnTrees es xs pfs t (λ lists tree. HasListed (Counts (fulls lists) t) pfs directory first items tree)

  abbrev pub Counted : ℕ → ℕ → Type 0
  Counted first count = OnTrees es xs pfs t (λ lists tree. HasCounted (Counts (fulls lists) t) pfs directory first count)

  -- what the name before makes of those from its key on
  abbrev pub Step : ℕ → Option (ℕ × DirEntry) → Option (List Element) → Option (List Extent) → Type 0
  Step first answer es' xs' = OnTrees es' xs' pfs t (λ lists tree. (passed : List Triple)
      → ArePassed (Counts (fulls lists) t) pfs directory first passed → Passes (Counts (fulls lists) t) pfs directory tree passed answer)

  pub step_on : (first next : ℕ) (entry : DirEntry) (answer : Option (ℕ × DirEntry)) (es' : Option (List Element)) (xs' : Option (List Extent))
      → es' ≡ es → xs' ≡ xs → answer ≡ Some (next, entry) → Step first answer es' xs' → Step first (Some (next, entry)) es xs
  step_on first next entry answer es' xs' same same' is step =
      subst (λ (o : Option (List Extent)). Step first (Some (next, entry)) es o) same'
      (subst (λ (o : Option (List Element)). Step first (Some (next, entry)) o xs') same
      (subst (λ (a : Option (ℕ × DirEntry)). Step first a es' xs') is step))

  pub step_over : (first : ℕ) (answer : Option (ℕ × DirEntry)) (es' : Option (List Element)) (xs' : Option (List Extent)) → es' ≡ es → xs' ≡ xs
      → answer ≡ None → Step first answer es' xs' → Step first None es xs
  step_over first answer es' xs' same same' is step =
      subst (λ (o : Option (List Extent)). Step first None es o) same'
      (subst (λ (o : Option (List Element)). Step first None o xs') same
      (subst (λ (a : Option (ℕ × DirEntry)). Step first a es' xs') is step))

  pub no_keys_above : (hash : List ℕ → ℕ) (lists : Lists) → IsHash hash → KeysFit hash (fulls lists) → (key : ℕ) (name : List ℕ) (object : Obj)
      → HasEntry (Counts (fulls lists) t) pfs directory key name object → key < 2 ^ 63
  no_keys_above hash lists small fit key name object = few_keys hash (fulls lists) t pfs directory key name object small fit

  -- ---- a list of them

  pub listed_none : Listed (2 ^ 63) []
  listed_none =
      trees_of es xs pfs t content (λ _. Unit {0}) (λ lists tree. HasListed (Counts (fulls lists) t) pfs directory (2 ^ 63) [] tree)
      (λ lists tree content balanced hash small fit view _.
      let few = no_keys_above hash lists small fit in
      record { passed = []; are = none_passed (Counts (fulls lists) t) pfs directory few; is = IsPermutation-refl [] })
      (nothing_told es xs)

  pub listed_more : (first next kind : ℕ) (items : List Item) (entry : DirEntry) (answer : Option (ℕ × DirEntry))
      (es' es'' : Option (List Element)) (xs' xs'' : Option (List Extent)) → es' ≡ es → xs' ≡ xs → es'' ≡ es → xs'' ≡ xs
      → answer ≡ Some (next, entry) → Step first answer es' xs' → OnTrees es'' xs'' pfs t (λ lists tree. kind ≡ entry_kind tree entry.obj)
      → Listed first items → Listed next (items ++ (kind, entry.name) ∷ [])
  listed_more first next kind items entry answer es' es'' xs' xs'' same same' stay stay' is step told listed =
      trees_both es xs pfs t content
      (λ lists tree. (k : ℕ) → k ≡ entry_kind tree entry.obj
      → HasListed (Counts (fulls lists) t) pfs directory next (items ++ (k, entry.name) ∷ []) tree)
      (λ lists tree. kind ≡ entry_kind tree entry.obj)
      (λ lists tree. HasListed (Counts (fulls lists) t) pfs directory next (items ++ (kind, entry.name) ∷ []) tree)
      (λ lists tree content view more here. more kind here)
      (trees_both es xs pfs t content (λ lists tree. HasListed (Counts (fulls lists) t) pfs directory first items tree)
      (λ lists tree. (passed : List Triple) → ArePassed (Counts (fulls lists) t) pfs directory first passed
      → Passes (Counts (fulls lists) t) pfs directory tree passed (Some (next, entry)))
      (λ lists tree. (k : ℕ) → k ≡ entry_kind tree entry.obj
      → HasListed (Counts (fulls lists) t) pfs directory next (items ++ (k, entry.name) ∷ []) tree)
      (λ lists tree content view was passes k here. record {
        passed = insert_by is_triple_before (triple_of directory entry.name entry.obj) was.passed;
        are = passes was.passed was.are;
        is = subst (λ (n : ℕ). IsPermutation
            (map (item_of tree) (insert_by is_triple_before (triple_of directory entry.name entry.obj) was.passed))
            (items ++ (n, entry.name) ∷ [])) (sym here)
            (more_mixed (item_of tree) (triple_of directory entry.name entry.obj) was.passed items was.is);
      })
      listed (step_on first next entry answer es' xs' same same' is step))
      (still es es'' xs xs'' (OnTree pfs t (λ lists tree. kind ≡ entry_kind tree entry.obj)) stay stay' told)

  pub listed_all : (first : ℕ) (items : List Item) (answer : Option (ℕ × DirEntry)) (es' : Option (List Element)) (xs' : Option (List Extent))
      → es' ≡ es → xs' ≡ xs → answer ≡ None → Step first answer es' xs' → Listed first items
      → OnTrees es xs pfs t (λ lists tree. IsPermutation (listing tree directory) items)
  listed_all first items answer es' xs' same same' is step listed =
      trees_both es xs pfs t content (λ lists tree. HasListed (Counts (fulls lists) t) pfs directory first items tree)
      (λ lists tree. (passed : List Triple) → ArePassed (Counts (fulls lists) t) pfs directory first passed → passed ≡ entries_in tree directory)
      (λ lists tree. IsPermutation (listing tree directory) items)
      (λ lists tree content view was all.
      subst (λ (ts : List Triple). IsPermutation (map (item_of tree) ts) items) (all was.passed was.are) was.is)
      listed (step_over first answer es' xs' same same' is step)

  pub listed_sorted : (was now : List Item) → IsPermutation was now → IsSortedBy is_name_before now
      → OnTrees es xs pfs t (λ lists tree. IsPermutation (listing tree directory) was) → OnTrees es xs pfs t (λ lists tree. now ≡ listing tree directory)
  listed_sorted was now mixed up =
      trees_one es xs pfs t content (λ lists tree. IsPermutation (listing tree directory) was) (λ lists tree. now ≡ listing tree directory)
      (λ lists tree content view all.
      sorted_names (listing tree directory) was now (listing_rises (Counts (fulls lists) t) pfs tree directory view) all mixed up)

  -- ---- their number

  pub counted_none : Counted (2 ^ 63) 0
  counted_none =
      trees_of es xs pfs t content (λ _. Unit {0}) (λ lists tree. HasCounted (Counts (fulls lists) t) pfs directory (2 ^ 63) 0)
      (λ lists tree content balanced hash small fit view _.
      let few = no_keys_above hash lists small fit in
      record { passed = []; are = none_passed (Counts (fulls lists) t) pfs directory few; is = refl })
      (nothing_told es xs)

  pub counted_more : (first next count : ℕ) (entry : DirEntry) (answer : Option (ℕ × DirEntry)) (es' : Option (List Element)) (xs' : Option (List Extent))
      → es' ≡ es → xs' ≡ xs → answer ≡ Some (next, entry) → Step first answer es' xs' → Counted first count → Counted next (count + 1)
  counted_more first next count entry answer es' xs' same same' is step counted =
      trees_both es xs pfs t content (λ lists tree. HasCounted (Counts (fulls lists) t) pfs directory first count)
      (λ lists tree. (passed : List Triple) → ArePassed (Counts (fulls lists) t) pfs directory first passed
      → Passes (Counts (fulls lists) t) pfs directory tree passed (Some (next, entry)))
      (λ lists tree. HasCounted (Counts (fulls lists) t) pfs directory next (count + 1))
      (λ lists tree content view was passes.
      let new = triple_of directory entry.name entry.obj in
      let long = length_permutation (new ∷ was.passed) (insert_by is_triple_before new was.passed) (insert_mixes new was.passed) in
      record { passed = insert_by is_triple_before new was.passed; are = passes was.passed was.are; is = omega (arith, was.is, long) })
      counted (step_on first next entry answer es' xs' same same' is step)

  pub counted_all : (first count : ℕ) (answer : Option (ℕ × DirEntry)) (es' : Option (List Element)) (xs' : Option (List Extent))
      → es' ≡ es → xs' ≡ xs → answer ≡ None → Step first answer es' xs' → Counted first count
      → OnTrees es xs pfs t (λ lists tree. count ≡ length (entries_in tree directory))
  counted_all first count answer es' xs' same same' is step counted =
      trees_both es xs pfs t content (λ lists tree. HasCounted (Counts (fulls lists) t) pfs directory first count)
      (λ lists tree. (passed : List Triple) → ArePassed (Counts (fulls lists) t) pfs directory first passed → passed ≡ entries_in tree directory)
      (λ lists tree. count ≡ length (entries_in tree directory))
      (λ lists tree content view was all. was.is ∙ ap (λ (ts : List Triple). length ts) (all was.passed was.are))
      counted (step_over first answer es' xs' same same' is step)
