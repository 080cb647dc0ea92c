-- A pass over the names of a directory: what the next one makes of those that were passed.
use Rattle.std.proofs.Common.{◌≡◌, ℕ, ◌+◌, ◌/◌, ◌^◌, ◌<◌, ◌≤◌, false, List, [], Option, None, Some, refl, ap, sym, subst, inl, inr, arith}
use Rattle.std.specs.Prelude.{◌≡◌, ◌==◌, ◌⊎◌, IfSome, IsTrue}
use Rattle.std.specs.List.{Contains}
use Rattle.std.proofs.lemmas.Bool.{cases_lt, eq-eqb, eqb-true}
use Rattle.hm_types.specs.Elements.{FullElement}
use Rattle.hm_types.specs.Tree.{FileTree, entries_in, insert_by, is_triple_before}
use Rattle.hm_types.specs.declared.id.Obj.{Obj}
use Rattle.hm_types.specs.declared.object.Triple.{Triple}
use Rattle.hm_key.specs.Counts.{Content, Counts, Subject, entry_subject}
use Rattle.hm_key.specs.Elements.{IsContent}
use Rattle.hm_key.specs.Extents.{Extent}
use Rattle.hm_key.specs.declared.element.Element.{Element}
use Rattle.hm_records.specs.Changes.{IsSettled}
use Rattle.hm_records.specs.Entry.{entry_bytes}
use Rattle.hm_records.specs.KeysFit.{KeysFit}
use Rattle.hm_records.specs.Laws.{triple_of}
use Rattle.hm_records.specs.View.{HasEntry, IsTriple, IsView}
use Rattle.hm_records.specs.declared.entry.DirEntry.{DirEntry}
use Rattle.hm_records.proofs.MemberLemmas.{filter_has, has_filter, has_insert, has_none, insert_has, order_filter, order_insert, order_one}
use Rattle.hm_records.proofs.NameLemmas.{entry_one, same_obj}
use Rattle.hm_records.proofs.OrderLemmas.{triple_apart, triple_strict, triple_trans}
use Rattle.hm_cursor.specs.Names.{IsFirstEntry, IsHash, IsPreviousName}
use Rattle.hm_cursor.specs.Told.{Lists, OnBalanced, fulls}
use Rattle.hm_view.specs.Pass.{ArePassed, IsPassed, Passes}
use Rattle.hm_view.specs.Trees.{OnTrees}
use Rattle.hm_view.proofs.TreesLemmas.{settled_told, trees_of, nothing_told}

-- the key of an entry has no highest bit
pub few_keys : (hash : List ℕ → ℕ) (es : List FullElement) (t pfs : ℕ) (directory : Obj) (key : ℕ) (name : List ℕ) (object : Obj) → IsHash hash
    → KeysFit hash es → HasEntry (Counts es t) pfs directory key name object → key < 2 ^ 63
few_keys hash es t pfs directory key name object few fit has =
    let x = has.there.element in
    let about = has.there.about in
    let number : x.key.key ≡ key = ap (λ (s : Subject). s.key) about in
    let fits : x.key.key / 2 ^ 16 ≡ hash name / 2 / 2 ^ 16 =
    fit x (record { obj = object; name = name }) has.there.there (ap (λ (s : Subject). s.rec_type) about) has.ranges has.there.holds in
    let small : hash name < 2 ^ 64 = few name in
    omega (arith, number, fits, small)

module _ (counts : Content) (pfs : ℕ) (directory : Obj) where
  -- nothing stands above the keys
  pub none_passed : ((key : ℕ) (name : List ℕ) (object : Obj) → HasEntry counts pfs directory key name object → key < 2 ^ 63)
      → ArePassed counts pfs directory (2 ^ 63) []
  none_passed few = record {
    rise = tt;
    each = λ t. (λ has. absurd (has_none t has), λ is. absurd (omega (arith, is.from, few is.key t.name t.object is.leads.there)));
  }

  module _ (first key : ℕ) (name : List ℕ) (object : Obj) (passed : List Triple) (settled : IsSettled counts)
      (are : ArePassed counts pfs directory first passed) (leads : IsFirstEntry counts pfs directory name key object) (before : key < first)
      (most : (k : ℕ) (n : List ℕ) (o : Obj) → k < first → IsFirstEntry counts pfs directory n k o → k ≤ key) where
    abbrev new : Triple
    new = triple_of directory name object

    -- the name was not passed before
    apart : (y : Triple) → Contains passed y → is_triple_before new y ≡ false → IsTrue (is_triple_before y new)
    apart y has = triple_apart new y (λ here same.
        let p = (are.each y).0 has in
        let there = subst (λ (n : List ℕ). HasEntry counts pfs directory key n object) same leads.there in
        omega (arith, p.leads.first key object there, p.from, before))

    to_passed : (z : Triple) → (z ≡ new) ⊎ Contains passed z → IsPassed counts pfs directory key z
    to_passed z (inl one) =
        subst (λ (t : Triple). IsPassed counts pfs directory key t) (sym one)
        (record { key = key; leads = leads; is_of = refl; from = omega arith })
    to_passed z (inr has) =
        let p = (are.each z).0 has in
        record { key = p.key; leads = p.leads; is_of = p.is_of; from = omega (arith, p.from, before) }

    -- under one key stands one entry
    same_name : (z : Triple) → (p : IsPassed counts pfs directory key z) → p.key ≡ key → z ≡ new
    same_name z p one =
        let mine : DirEntry = record { obj = z.object; name = z.name } in
        let other : DirEntry = record { obj = object; name = name } in
        let there = subst (λ (n : ℕ). counts (entry_subject pfs directory.0 n) (entry_bytes mine)) one p.leads.there.there in
        let same : mine ≡ other =
        entry_one mine other p.leads.there.ranges leads.there.ranges
        (settled (entry_subject pfs directory.0 key) (entry_bytes mine) (entry_bytes other) there leads.there.there) in
        λ i. record { directory = p.is_of i; name = (same i).name; object = (same i).obj }

    of_passed : (z : Triple) → IsPassed counts pfs directory key z → (z ≡ new) ⊎ Contains passed z
    of_passed z p = elim (cases_lt p.key first) [
      | inl below ↦ inl (same_name z p (omega (arith, most p.key z.name z.object below p.leads, p.from)))
      | inr later ↦ inr ((are.each z).1 (record { key = p.key; leads = p.leads; is_of = p.is_of; from = later }))
    ]

    -- with the name before they are those from its key on
    pub passed_more : ArePassed counts pfs directory key (insert_by is_triple_before new passed)
    passed_more = record {
      rise = order_insert is_triple_before triple_trans new passed are.rise apart;
      each = λ t. (
        λ has. to_passed t (insert_has is_triple_before new passed t has),
        λ is. has_insert is_triple_before new passed t (of_passed t is),
      );
    }

  -- ---- all names

  module _ (tree : FileTree) (view : IsView counts pfs tree) (first : ℕ) (passed : List Triple) (are : ArePassed counts pfs directory first passed)
      (few : (t : Triple) → IsTriple counts pfs t → t.directory ≡ directory → Contains passed t) where
    triple_there : (t : Triple) → IsPassed counts pfs directory first t → IsTriple counts pfs t
    triple_there t p = record {
      key = p.key;
      there = subst (λ (d : Obj). HasEntry counts pfs d p.key t.name t.object) (sym p.is_of) p.leads.there;
      first = λ other object has. p.leads.first other object (subst (λ (d : Obj). HasEntry counts pfs d other t.name object) p.is_of has);
    }

    pub passed_all : passed ≡ entries_in tree directory
    passed_all =
        order_one is_triple_before triple_strict passed (entries_in tree directory) are.rise
        (order_filter is_triple_before (λ (t : Triple). t.directory.0 == directory.0) tree.triples view.triples_rise)
        (λ t has.
        let p = (are.each t).0 has in
        has_filter (λ (t : Triple). t.directory.0 == directory.0) tree.triples t ((view.triples t).1 (triple_there t p))
        (eq-eqb t.directory.0 directory.0 (ap (λ (o : Obj). o.0) p.is_of)))
        (λ t has.
        let f = filter_has (λ (t : Triple). t.directory.0 == directory.0) tree.triples t has in
        few t ((view.triples t).0 f.0) (same_obj t.directory directory (eqb-true t.directory.0 directory.0 f.1)))

  -- the entry of a triple of the directory
  pub leads_of : (t : Triple) → t.directory ≡ directory → (is : IsTriple counts pfs t) → IsFirstEntry counts pfs directory t.name is.key t.object
  leads_of t same is = record {
    there = subst (λ (d : Obj). HasEntry counts pfs d is.key t.name t.object) same is.there;
    first = λ other object has. is.first other object (subst (λ (d : Obj). HasEntry counts pfs d other t.name object) (sym same) has);
  }

-- ---- what a store tells

module _ (es : Option (List Element)) (xs : Option (List Extent)) (pfs t : ℕ) (directory : Obj) (end last : ℕ) (content : IfSome es IsContent) where
  -- what follows from the name before, or from there being none
  abbrev pub Goes : Option (ℕ × DirEntry) → Type 0
  Goes found = OnTrees es xs pfs t (λ lists tree. (passed : List Triple) → ArePassed (Counts (fulls lists) t) pfs directory end passed
      → Passes (Counts (fulls lists) t) pfs directory tree passed found)

  abbrev pub PreviousIn : Option (ℕ × DirEntry) → Lists → Type 0
  PreviousIn found lists = (hash : List ℕ → ℕ) → KeysFit hash (fulls lists) → IsPreviousName (Counts (fulls lists) t) pfs directory 0 last found

  abbrev pub Previous : Option (ℕ × DirEntry) → Type 0
  Previous found = OnBalanced es xs (PreviousIn found)

  -- no key is left
  pub goes_over : end ≡ 0 → Goes None
  goes_over over =
      trees_of es xs pfs t content (λ _. Unit {0})
      (λ lists tree. (passed : List Triple) → ArePassed (Counts (fulls lists) t) pfs directory end passed → passed ≡ entries_in tree directory)
      (λ lists tree content balanced hash small fit view _ passed are.
      passed_all (Counts (fulls lists) t) pfs directory tree view end passed are (λ u is same.
      let leads = leads_of (Counts (fulls lists) t) pfs directory u same is in
      (are.each u).1 (record { key = is.key; leads = leads; is_of = same; from = omega (arith, over) })))
      (nothing_told es xs)

  -- no name is left
  pub goes_none : (found : Option (ℕ × DirEntry)) → last + 1 ≡ end → found ≡ None → Previous found → Goes None
  goes_none found whole is told =
      trees_of es xs pfs t content (PreviousIn None)
      (λ lists tree. (passed : List Triple) → ArePassed (Counts (fulls lists) t) pfs directory end passed → passed ≡ entries_in tree directory)
      (λ lists tree content balanced hash small fit view none passed are.
      passed_all (Counts (fulls lists) t) pfs directory tree view end passed are (λ u is same.
      let leads = leads_of (Counts (fulls lists) t) pfs directory u same is in
      elim (cases_lt is.key end) [
        | inl below ↦ absurd (none hash fit is.key u.name u.object (omega arith) (omega (arith, whole, below)) leads)
        | inr later ↦ (are.each u).1 (record { key = is.key; leads = leads; is_of = same; from = later })
      ]))
      (subst Previous is told)

  -- a name is left
  pub goes_on : (found : Option (ℕ × DirEntry)) (key first : ℕ) (entry : DirEntry) → last + 1 ≡ end → (key ≤ last → first ≡ key)
      → found ≡ Some (key, entry) → Previous found → Goes (Some (first, entry))
  goes_on found key first entry whole after is told =
      trees_of es xs pfs t content
      (PreviousIn (Some (key, entry)))
      (λ lists tree. (passed : List Triple) → ArePassed (Counts (fulls lists) t) pfs directory end passed
      → ArePassed (Counts (fulls lists) t) pfs directory first (insert_by is_triple_before (triple_of directory entry.name entry.obj) passed))
      (λ lists tree content balanced hash small fit view previous passed are.
      let one = previous hash fit in
      subst (λ (n : ℕ). ArePassed (Counts (fulls lists) t) pfs directory n (insert_by is_triple_before (triple_of directory entry.name entry.obj) passed))
      (sym (after one.to))
      (passed_more (Counts (fulls lists) t) pfs directory end key entry.name entry.obj passed (settled_told lists t content) are
      one.leads (omega (arith, one.to, whole)) (λ k n o below leads. one.most k n o (omega (arith, whole, below)) leads)))
      (subst Previous is told)
