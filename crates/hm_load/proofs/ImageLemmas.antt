-- What a store holds of an image once a volume is loaded, and which damage of it comes first.
use Rattle.std.proofs.Common.{◌≡◌, ℕ, ◌+◌, ◌*◌, ◌≤◌, List, Option, Some, None, IfSome, IfErr, OnOk, Result, Ok, Err, ap, sym, subst, ◌∙◌, arith}
use Rattle.std.proofs.Common.{length, nat_le}
use Rattle.std.proofs.lemmas.Bool.{cond-true, le-leb}
use Rattle.hm_types.specs.Offset.{byte_of}
use Rattle.hm_types.specs.declared.fault.Fault.{Fault}
use Rattle.hm_types.specs.declared.limits.TheConstants.{PAGE_BYTES}
use Rattle.hm_disk.specs.Crash.{Told}
use Rattle.hm_fields.specs.Pages.{PageMap}
use Rattle.hm_header.specs.declared.header.Header.{Header}
use Rattle.hm_image.specs.Image.{pages_of}
use Rattle.hm_image.specs.Sound.{HasLayer1}
use Rattle.hm_pages.specs.Store.{Store}
use Rattle.hm_search.specs.Tree.{root_place}
use Rattle.hm_load.specs.Damage.{IsDamage, IsTreeDamage}
use Rattle.hm_load.specs.Damage.IsDamage.{of_layer1, of_layer2, of_tree}
use Rattle.hm_load.specs.Faults.{Tells}
use Rattle.hm_load.specs.Freemap.{IsLayer2Damage, layer2_pages}
use Rattle.hm_load.specs.Held.{HasFirstPages, HasFreemap, HoldsImage, IsRead, IsReadBelow}
use Rattle.hm_load.specs.Layer1.{IsLayer1Damage}
use Rattle.hm_load.specs.Loaded.{IsPlain}
use Rattle.hm_newfs.specs.Steps.{HasSpace}
use Rattle.hm_load.specs.Tree.{AddsTree}
use Rattle.hm_load.proofs.RangeLemmas.{all_inside}
use Rattle.hm_load.proofs.StoreLemmas.{tells_so}
use Rattle.hm_load.proofs.WholeLemmas.{whole_of}

-- a page of the volume is one of the image
pub page_of_image : (image : List ℕ) (bigblocks at : ℕ) (page : List ℕ) → bigblocks * 8388608 ≤ length image → IsRead image bigblocks at page
    → pages_of image at ≡ Some page
page_of_image image bigblocks at page room read =
    let within = read.within in
    cond-true (nat_le (byte_of at + PAGE_BYTES) (length image)) _ _ (le-leb (byte_of at + PAGE_BYTES) (length image) (omega arith))
    ∙ ap Some (sym (read.same ∙ all_inside image bigblocks (byte_of at) PAGE_BYTES within))

module _ (header : Header) (was : PageMap) (s : Store) where
  pub image_held : (told : Option Told) (r : Result (Unit {0}) Fault) → IfSome told (HasSpace header.bigblocks)
      → IfSome told (λ t. HasFreemap t.bytes header was)
      → OnOk r (IfSome told (λ t. IsReadBelow t.bytes header.bigblocks (root_place header.root) s.current))
      → OnOk r (IsPlain s × AddsTree (root_place header.root) was s.current) → IfSome told (λ t. OnOk r (HoldsImage t.bytes header s))
  image_held None r space freemap read adds = tt
  image_held (Some t) (Err e) space freemap read adds = tt
  image_held (Some t) (Ok x) space freemap read adds = record {
    pages = λ at page is. page_of_image t.bytes header.bigblocks at page space (read.pages at page is);
    whole = record {
      layer1 = freemap.layer1;
      layer2 = freemap.layer2.right;
      tree = whole_of t.bytes header.bigblocks s.current (root_place header.root) read.pages adds.1.tree read.payloads;
    };
  }

-- damage of the tree comes after none of the freemap
pub tree_damage : (image : List ℕ) (header : Header) (was : PageMap) {T : Type 0} (r : Result T Fault) → HasFreemap image header was
    → IfErr r (Tells (λ at kind. IsTreeDamage image header.bigblocks at kind (root_place header.root))) → IfErr r (Tells (IsDamage image header))
tree_damage image header was (Ok x) freemap tells = tt
tree_damage image header was (Err fault) freemap tells =
    tells_so (λ at kind. IsTreeDamage image header.bigblocks at kind (root_place header.root)) (IsDamage image header) fault
    (λ at kind damage. of_tree freemap.layer1 freemap.layer2.right damage) tells

-- damage of the layers comes before
pub layer1_damage : (image : List ℕ) (header : Header) (bigblocks : ℕ) (fault : Fault) → bigblocks ≡ header.bigblocks
    → Tells (IsLayer1Damage image bigblocks) fault → Tells (IsDamage image header) fault
layer1_damage image header bigblocks fault same tells =
    tells_so (IsLayer1Damage image bigblocks) (IsDamage image header) fault
    (λ at kind damage. of_layer1 (subst (λ (b : ℕ). IsLayer1Damage image b at kind) same damage)) tells

pub layer2_damage : (image : List ℕ) (header : Header) (bigblocks : ℕ) {T : Type 0} (r : Result T Fault) → bigblocks ≡ header.bigblocks
    → HasLayer1 image bigblocks
    → IfErr r (Tells (IsLayer2Damage image header)) → IfErr r (Tells (IsDamage image header))
layer2_damage image header bigblocks (Ok x) same layer1 tells = tt
layer2_damage image header bigblocks (Err fault) same layer1 tells =
    tells_so (IsLayer2Damage image header) (IsDamage image header) fault
    (λ at kind damage. of_layer2 (subst (λ (b : ℕ). HasLayer1 image b) same layer1) damage) tells

-- both layers were read
pub freemap_read : (image : List ℕ) (header : Header) (bigblocks : ℕ) (map : PageMap) → bigblocks ≡ header.bigblocks → HasLayer1 image bigblocks
    → HasFirstPages image header (layer2_pages header.bigblocks) map → HasFreemap image header map
freemap_read image header bigblocks map same layer1 layer2 = record { layer1 = subst (λ (b : ℕ). HasLayer1 image b) same layer1; layer2 = layer2 }
