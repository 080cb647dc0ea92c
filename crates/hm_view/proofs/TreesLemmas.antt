-- What is told of the trees that a store shows, from what is known of its content.
use Rattle.std.proofs.Common.{◌≡◌, ℕ, List, Option, None, Some, subst}
use Rattle.std.specs.Prelude.{IfSome}
use Rattle.hm_types.specs.Tree.{FileTree}
use Rattle.hm_key.specs.Balance.{IsBalanced}
use Rattle.hm_key.specs.Counts.{Counts}
use Rattle.hm_key.specs.Elements.{IsContent}
use Rattle.hm_key.specs.Extents.{Extent}
use Rattle.hm_key.specs.Versions.{HaveOwnKeys}
use Rattle.hm_key.specs.declared.element.Element.{Element}
use Rattle.hm_model.specs.View.{View}
use Rattle.hm_model.specs.Volume.{Volume}
use Rattle.hm_records.specs.Changes.{IsSettled}
use Rattle.hm_records.specs.KeysFit.{KeysFit}
use Rattle.hm_records.specs.View.{IsViewOf}
use Rattle.hm_records.proofs.CountsLemmas.{own_keys-sorted, settled}
use Rattle.hm_volume.specs.Shown.{ShowsAs}
use Rattle.hm_cursor.specs.Told.{Lists, OnBalanced, fulls}
use Rattle.hm_cursor.proofs.PayloadLemmas.{full_sorted}
use Rattle.hm_view.specs.Trees.{OnTrees}
use Rattle.hm_cursor.specs.Names.{IsHash}
use Rattle.hm_view.specs.Volumes.{OnVolumes}

-- ---- what a store tells

pub own_keys : (lists : Lists) → IsContent lists.0 → HaveOwnKeys (fulls lists)
own_keys lists content = own_keys-sorted (fulls lists) (full_sorted lists.0 lists.1 content.rising)

pub settled_told : (lists : Lists) (t : ℕ) → IsContent lists.0 → IsSettled (Counts (fulls lists) t)
settled_told lists t content = settled (fulls lists) t (own_keys lists content)

-- what is known of a store that tells the same
pub still : (es es' : Option (List Element)) (xs xs' : Option (List Extent)) (P : Lists → Type 0) → es' ≡ es → xs' ≡ xs → OnBalanced es' xs' P
    → OnBalanced es xs P
still es es' xs xs' P same same' told =
    subst (λ (o : Option (List Extent)). OnBalanced es o P) same' (subst (λ (o : Option (List Element)). OnBalanced o xs' P) same told)

pub nothing_told : (es : Option (List Element)) (xs : Option (List Extent)) → OnBalanced es xs (λ _. Unit {0})
nothing_told None xs = tt
nothing_told (Some es) None = tt
nothing_told (Some es) (Some xs) = λ balanced. tt

-- what follows on balanced content from two facts of it
pub on_both : (es : Option (List Element)) (xs : Option (List Extent)) (P P' Q : Lists → Type 0) → IfSome es IsContent
    → ((lists : Lists) → IsContent lists.0 → IsBalanced lists.0 lists.1 → P lists → P' lists → Q lists) → OnBalanced es xs P → OnBalanced es xs P'
    → OnBalanced es xs Q
on_both None xs P P' Q content step p p' = tt
on_both (Some es) None P P' Q content step p p' = tt
on_both (Some es) (Some xs) P P' Q content step p p' = λ balanced. step (es, xs) content balanced (p balanced) (p' balanced)

-- ---- what it tells of trees

-- a fact of a content and of a tree that it shows
abbrev pub OnTree : ℕ → ℕ → (Lists → FileTree → Type 0) → Lists → Type 0
OnTree pfs t P lists =
    (hash : List ℕ → ℕ) → IsHash hash → KeysFit hash (fulls lists) → (tree : FileTree) → IsViewOf (fulls lists) pfs t tree → P lists tree

module _ (es : Option (List Element)) (xs : Option (List Extent)) (pfs t : ℕ) (content : IfSome es IsContent) where
  -- from two facts of trees
  pub trees_both : (P P' Q : Lists → FileTree → Type 0)
      → ((lists : Lists) (tree : FileTree) → IsContent lists.0 → IsViewOf (fulls lists) pfs t tree → P lists tree → P' lists tree → Q lists tree)
      → OnTrees es xs pfs t P → OnTrees es xs pfs t P' → OnTrees es xs pfs t Q
  trees_both P P' Q step =
      on_both es xs (OnTree pfs t P) (OnTree pfs t P') (OnTree pfs t Q) content
      (λ lists content balanced p p' hash few fit tree view. step lists tree content view (p hash few fit tree view) (p' hash few fit tree view))

  pub trees_one : (P Q : Lists → FileTree → Type 0)
      → ((lists : Lists) (tree : FileTree) → IsContent lists.0 → IsViewOf (fulls lists) pfs t tree → P lists tree → Q lists tree)
      → OnTrees es xs pfs t P → OnTrees es xs pfs t Q
  trees_one P Q step p = trees_both P P Q (λ lists tree content view here _. step lists tree content view here) p p

  -- from a fact of the content
  pub trees_of : (R : Lists → Type 0) (Q : Lists → FileTree → Type 0)
      → ((lists : Lists) (tree : FileTree) → IsContent lists.0 → IsBalanced lists.0 lists.1 → (hash : List ℕ → ℕ) → IsHash hash
      → KeysFit hash (fulls lists) → IsViewOf (fulls lists) pfs t tree → R lists → Q lists tree)
      → OnBalanced es xs R → OnTrees es xs pfs t Q
  trees_of R Q step r =
      on_both es xs R R (OnTree pfs t Q) content
      (λ lists content balanced known _ hash few fit tree view. step lists tree content balanced hash few fit view known) r r

-- ---- what it tells of volumes

pub volumes_of : (es : Option (List Element)) (xs : Option (List Extent)) (R : Lists → Type 0) (Q : Lists → Volume → Type 0) → IfSome es IsContent
    → ((lists : Lists) (volume : Volume) (view : View) → IsContent lists.0 → ShowsAs (fulls lists) volume view → R lists → Q lists volume)
    → OnBalanced es xs R → OnVolumes es xs Q
volumes_of es xs R Q content step r =
    on_both es xs R R (λ lists. (volume : Volume) (view : View) → ShowsAs (fulls lists) volume view → Q lists volume) content
    (λ lists content balanced known _ volume view shows. step lists volume view content shows known) r r
