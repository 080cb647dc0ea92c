-- Walks whose last part names a PFS link.
use Rattle.std.proofs.Common.{◌≡◌, ℕ, List, [], ◌∷◌, ◌++◌, refl, ◌∙◌, ap, sym}
use Rattle.std.specs.Prelude.{Some, None}
use Rattle.hm_types.specs.declared.object.Object.{Object}
use Rattle.hm_model.specs.Laws.{NamesLink}
use Rattle.hm_model.specs.View.{Position, View, object_at}
use Rattle.hm_model.specs.Volume.{Volume}
use Rattle.hm_model.specs.Walk.{Follow, Passed, Reaches, Walked, and_then, find_object, from_found, over_link, walk_on}

-- the object at a link's number is the link
link_found : (volume : Volume) (view : View) (mode : Follow) (link : Position) (object : Object) (pfs : ℕ) (passed : Passed) →
    object_at view link ≡ Some object →
    (from_found volume view mode object link (passed ++ (link.pfs, link.object.0) ∷ [])
    ≡ over_link volume view mode pfs link (passed ++ (link.pfs, link.object.0) ∷ [])) →
    find_object volume view mode link passed ≡ over_link volume view mode pfs link (passed ++ (link.pfs, link.object.0) ∷ [])
link_found volume view mode link object pfs passed found linked = rw found linked

pub ends-link : (volume : Volume) (view : View) (mode : Follow) (here link : Position) (name : List ℕ) (pfs : ℕ) (passed : Passed) →
    NamesLink view here name link pfs →
    walk_on volume view mode (record { name = Some name; as_of = None } ∷ []) here passed
    ≡ and_then (over_link volume view mode pfs link (passed ++ (link.pfs, link.object.0) ∷ [])) (λ there more. Reaches there more)
ends-link volume view mode here link name pfs passed names =
    let at : Position = record here { object = link.object } in
    let found : find_object volume view mode at passed ≡ over_link volume view mode pfs link (passed ++ (link.pfs, link.object.0) ∷ []) =
    ap (λ (p : Position). find_object volume view mode p passed) (sym names.beside)
    ∙ link_found volume view mode link names.object pfs passed names.found (rw names.linked refl) in
    rw (names.directory, names.named) (ap (λ (w : Walked). and_then w (λ there more. Reaches there more)) found)
