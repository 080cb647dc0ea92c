-- The last name of a path's parts.
use Rattle.std.proofs.Common.{◌≡◌, ℕ, List, [], ◌∷◌, ◌++◌, Option, Some, None, subst}
use Rattle.std.specs.List.{AllZip}
use Rattle.hm_types.specs.Name.{IsName}
use Rattle.hm_types.specs.declared.id.Id.{Id}
use Rattle.hm_path.specs.Component.{IsComponent, IsWritten}
use Rattle.hm_path.specs.Path.{IsPath}
use Rattle.hm_path.specs.declared.part.Part.{Part}

last_component : (texts : List (List ℕ)) (front : List Part) (last : Part) → AllZip IsComponent texts (front ++ last ∷ [])
    → (text : List ℕ) × IsComponent text last
last_component [] [] last each = absurd each
last_component [] (part ∷ front) last each = absurd each
last_component (text ∷ texts) [] last each = (text, each.0)
last_component (text ∷ texts) (part ∷ front) last each = last_component texts front last each.1

written_name : (text : List ℕ) (written : Option (List ℕ)) (as_of : Option Id) (name : List ℕ) → IsWritten text written as_of → written ≡ Some name
    → IsName name
written_name text None as_of name is same = absurd (cc)
written_name text (Some n) None name is same =
    let e : n ≡ name = cc in
    subst IsName e is.1
written_name text (Some n) (Some id) name is same =
    let e : n ≡ name = cc in
    subst IsName e is.0

-- the name of a path's last part is a name
pub is_last_name : (word : List ℕ) (parts front : List Part) (last : Part) (name : List ℕ) → parts ≡ front ++ last ∷ [] → last.name ≡ Some name
    → IsPath word parts → IsName name
is_last_name word parts front last name split named path =
    let spelled : IsPath word (front ++ last ∷ []) = subst (IsPath word) split path in
    let (text, is) = last_component _ front last spelled.spelled.each in
    written_name text last.name last.as_of name is named
