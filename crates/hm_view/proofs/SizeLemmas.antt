-- The sizes of objects, by their inodes.
use Rattle.std.proofs.Common.{◌≡◌, ◌≢◌, ℕ, List, length, Option, None, Some, refl, sym, ap, subst, ◌∙◌, arith}
use Rattle.std.specs.Prelude.{IfOk, IfSome, Result, Ok, Err}
use Rattle.std.proofs.lemmas.List.Elements.{All-contains}
use Rattle.hm_types.specs.Tree.{FileTree, entries_in}
use Rattle.hm_types.specs.declared.fault.Fault.{Fault}
use Rattle.hm_types.specs.declared.id.Obj.{Obj}
use Rattle.hm_types.specs.declared.object.Content.{Content as Held}
use Rattle.hm_types.specs.declared.object.Content.TheVariants.{Nothing, File as of_file, Target, Linked}
use Rattle.hm_types.specs.declared.object.Object.{Object}
use Rattle.hm_key.specs.Balance.{IsHeld as IsHeldIn, payload_of}
use Rattle.hm_key.specs.Counts.{Content, Counts, Subject, target_subject}
use Rattle.hm_key.specs.Elements.{IsContent}
use Rattle.hm_key.specs.Extents.{AreExtents, Extent}
use Rattle.hm_key.specs.declared.element.Element.{Element}
use Rattle.hm_model.specs.Answer.{size_of}
use Rattle.hm_records.specs.View.{IsHeld, IsTargetOf, held, missing}
use Rattle.hm_records.specs.declared.inode.Inode.{Inode}
use Rattle.hm_records.specs.declared.kind.TheConstants.{DIRECTORY, PFS_LINK, SOFTLINK}
use Rattle.hm_volume.specs.Found.{IsMadeBy}
use Rattle.hm_cursor.specs.Told.{Lists, OnBalanced, fulls}
use Rattle.hm_cursor.specs.Version.{IsNewestOf, IsVersion}
use Rattle.hm_cursor.proofs.PayloadLemmas.{length-payload}
use Rattle.hm_cursor.proofs.ToldLemmas.{counts_newest, counts_none}
use Rattle.hm_view.specs.Trees.{IsSize, OnTrees}
use Rattle.hm_view.proofs.TreesLemmas.{nothing_told, settled_told, trees_of, trees_one}

-- ---- the length of a target

module _ (lists : Lists) (s : Subject) (t pfs object : ℕ) (content : IsContent lists.0) (about : s ≡ target_subject pfs object) where
  newest_length : (live : AreExtents lists.1) (e : Element) → length (payload_of lists.1 e) ≡ e.len → IsNewestOf lists.0 s t e → (text : List ℕ)
      → IsTargetOf (Counts (fulls lists) t) pfs object text → e.len ≡ length text
  newest_length live e long newest text is = by_target is where
    there : Counts (fulls lists) t (target_subject pfs object) (payload_of lists.1 e)
    there = subst (λ (s : Subject). Counts (fulls lists) t s (payload_of lists.1 e)) about (counts_newest lists.0 lists.1 s t e newest)

    by_target : IsTargetOf (Counts (fulls lists) t) pfs object text → e.len ≡ length text
    by_target (held here) =
        sym long ∙ ap (λ (bytes : List ℕ). length bytes)
        (settled_told lists t content (target_subject pfs object) (payload_of lists.1 e) text there here)
    by_target (missing none is) = absurd (none (payload_of lists.1 e) there)

  none_length : IsVersion lists.0 s t None → (text : List ℕ) → IsTargetOf (Counts (fulls lists) t) pfs object text → 0 ≡ length text
  none_length none text (held here) =
      absurd (counts_none lists.0 lists.1 s t none text (subst (λ (s : Subject). Counts (fulls lists) t s text) (sym about) here))
  none_length none text (missing not is) = ap (λ (bytes : List ℕ). length bytes) (sym is)

module _ (es : Option (List Element)) (xs : Option (List Extent)) (s : Subject) (t pfs object : ℕ) (content : IfSome es IsContent)
    (about : s ≡ target_subject pfs object) (answer : Option Element) (told : IfSome es (λ list. IsVersion list s t answer)) where
  pub length_some : (e : Element) → IfSome xs AreExtents → answer ≡ Some e
      → OnBalanced es xs (λ lists. (text : List ℕ) → IsTargetOf (Counts (fulls lists) t) pfs object text → e.len ≡ length text)
  length_some e live is = by_told es xs content live told where
    by_told : (es : Option (List Element)) (xs : Option (List Extent)) → IfSome es IsContent → IfSome xs AreExtents
        → IfSome es (λ list. IsVersion list s t answer)
        → OnBalanced es xs (λ lists. (text : List ℕ) → IsTargetOf (Counts (fulls lists) t) pfs object text → e.len ≡ length text)
    by_told None xs content live told = tt
    by_told (Some es) None content live told = tt
    by_told (Some es) (Some xs) content live told = λ balanced text.
        let newest : IsNewestOf es s t e = subst (λ (o : Option Element). IsVersion es s t o) is told in
        let long : length (payload_of xs e) ≡ e.len = length-payload xs e live (All-contains (IsHeldIn xs) es e balanced.held newest.there) in
        newest_length (es, xs) s t pfs object content about live e long newest text

  pub length_none : answer ≡ None
      → OnBalanced es xs (λ lists. (text : List ℕ) → IsTargetOf (Counts (fulls lists) t) pfs object text → 0 ≡ length text)
  length_none is = by_told es xs content told where
    by_told : (es : Option (List Element)) (xs : Option (List Extent)) → IfSome es IsContent → IfSome es (λ list. IsVersion list s t answer)
        → OnBalanced es xs (λ lists. (text : List ℕ) → IsTargetOf (Counts (fulls lists) t) pfs object text → 0 ≡ length text)
    by_told None xs content told = tt
    by_told (Some es) None content told = tt
    by_told (Some es) (Some xs) content told = λ balanced text.
        none_length (es, xs) s t pfs object content about (subst (λ (o : Option Element). IsVersion es s t o) is told) text

-- ---- what an object holds

-- what the inode in hand says of it
pub held_by : (counts : Content) (pfs : ℕ) (inode : Inode) (o : Object) → IsMadeBy counts pfs inode o → IsHeld counts pfs o.number.0 inode o.content
held_by counts pfs inode o made = subst (λ (i : Inode). IsHeld counts pfs o.number.0 i o.content) made.same made.object.holds

module _ (counts : Content) (pfs : ℕ) (inode : Inode) (o : Object) (made : IsMadeBy counts pfs inode o) where
  pub directory_held : inode.kind ≡ DIRECTORY → o.content ≡ Nothing
  directory_held is = by_content o.content (held_by counts pfs inode o made) where
    by_content : (content : Held) → IsHeld counts pfs o.number.0 inode content → content ≡ Nothing
    by_content Nothing holds = refl
    by_content (of_file bytes) holds = absurd (omega (arith, is, holds.0))
    by_content (Target text) holds = absurd (omega (arith, is, holds.0))
    by_content (Linked other) holds = absurd (omega (arith, is, holds.0))

  pub softlink_held : inode.kind ≡ SOFTLINK → (text : List ℕ) × (o.content ≡ Target text) × IsTargetOf counts pfs o.number.0 text
  softlink_held is = by_content o.content (held_by counts pfs inode o made) where
    by_content : (content : Held) → IsHeld counts pfs o.number.0 inode content
        → (text : List ℕ) × (content ≡ Target text) × IsTargetOf counts pfs o.number.0 text
    by_content Nothing holds = absurd (omega (arith, is, holds))
    by_content (of_file bytes) holds = absurd (omega (arith, is, holds.0))
    by_content (Target text) holds = (text, refl, holds.1)
    by_content (Linked other) holds = absurd (omega (arith, is, holds.0))

  pub pfs_link_held : inode.kind ≡ PFS_LINK → o.content ≡ Linked inode.pfs
  pfs_link_held is = by_content o.content (held_by counts pfs inode o made) where
    by_content : (content : Held) → IsHeld counts pfs o.number.0 inode content → content ≡ Linked inode.pfs
    by_content Nothing holds = absurd (omega (arith, is, holds))
    by_content (of_file bytes) holds = absurd (omega (arith, is, holds.0))
    by_content (Target text) holds = absurd (omega (arith, is, holds.0))
    by_content (Linked other) holds = ap Linked holds.1

  pub file_held : inode.kind ≢ DIRECTORY → inode.kind ≢ SOFTLINK → inode.kind ≢ PFS_LINK
      → (bytes : List ℕ) × (o.content ≡ of_file bytes) × (length bytes ≡ inode.size)
  file_held no_directory no_softlink no_link = by_content o.content (held_by counts pfs inode o made) where
    by_content : (content : Held) → IsHeld counts pfs o.number.0 inode content
        → (bytes : List ℕ) × (content ≡ of_file bytes) × (length bytes ≡ inode.size)
    by_content Nothing holds = absurd (no_directory holds)
    by_content (of_file bytes) holds = (bytes, refl, holds.1.sized)
    by_content (Target text) holds = absurd (no_softlink holds.0)
    by_content (Linked other) holds = absurd (no_link holds.0)

-- ---- sizes

-- the size of an object that holds this
abbrev size_by : FileTree → Object → Held → ℕ
size_by tree o content = size_of tree (record o { content = content })

module _ (es : Option (List Element)) (xs : Option (List Extent)) (pfs t : ℕ) (object : Obj) (inode : Inode) (content : IfSome es IsContent) where
  abbrev pub Told : ℕ → Type 0
  Told size = OnTrees es xs pfs t (IsSize t pfs object inode size)

  pub size_file : inode.kind ≢ DIRECTORY → inode.kind ≢ SOFTLINK → inode.kind ≢ PFS_LINK → Told inode.size
  size_file no_directory no_softlink no_link =
      trees_of es xs pfs t content (λ _. Unit {0}) (IsSize t pfs object inode inode.size)
      (λ lists tree content balanced hash small fit view _ o same made.
      let (bytes, is, long) = file_held (Counts (fulls lists) t) pfs inode o made no_directory no_softlink no_link in
      sym long ∙ sym (ap (size_by tree o) is))
      (nothing_told es xs)

  pub size_link : inode.kind ≡ PFS_LINK → (n : ℕ) → n ≡ inode.pfs.0 → Told n
  size_link link n number =
      trees_of es xs pfs t content (λ _. Unit {0}) (IsSize t pfs object inode n)
      (λ lists tree content balanced hash small fit view _ o same made.
      number ∙ sym (ap (size_by tree o) (pfs_link_held (Counts (fulls lists) t) pfs inode o made link)))
      (nothing_told es xs)

  pub size_directory : inode.kind ≡ DIRECTORY → (result : Result ℕ Fault)
      → IfOk result (λ n. OnTrees es xs pfs t (λ lists tree. n ≡ length (entries_in tree object))) → IfOk result Told
  size_directory directory (Err fault) counted = tt
  size_directory directory (Ok n) counted =
      trees_one es xs pfs t content (λ lists tree. n ≡ length (entries_in tree object)) (IsSize t pfs object inode n)
      (λ lists tree content view here o same made.
      here ∙ ap (λ (d : Obj). length (entries_in tree d)) (sym same)
      ∙ sym (ap (size_by tree o) (directory_held (Counts (fulls lists) t) pfs inode o made directory)))
      counted

  pub size_softlink : inode.kind ≡ SOFTLINK → (result : Result ℕ Fault)
      → IfOk result (λ n. OnBalanced es xs (λ lists. (text : List ℕ) → IsTargetOf (Counts (fulls lists) t) pfs object.0 text → n ≡ length text))
      → IfOk result Told
  size_softlink softlink (Err fault) read = tt
  size_softlink softlink (Ok n) read =
      trees_of es xs pfs t content (λ lists. (text : List ℕ) → IsTargetOf (Counts (fulls lists) t) pfs object.0 text → n ≡ length text)
      (IsSize t pfs object inode n)
      (λ lists tree content balanced hash small fit view long o same made.
      let (text, is, leads) = softlink_held (Counts (fulls lists) t) pfs inode o made softlink in
      long text (subst (λ (d : Obj). IsTargetOf (Counts (fulls lists) t) pfs d.0 text) same leads) ∙ sym (ap (size_by tree o) is))
      read
