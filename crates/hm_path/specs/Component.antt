-- The components of a path.
use Rattle.std.specs.Prelude.{◌≡◌, ℕ, List, ◌++◌, Option, None, Some, codes, length}
use Rattle.std.specs.Str.Parse.{AllDigits, digits_value}
use Rattle.hm_types.specs.declared.id.Id.{Id}
use Rattle.hm_types.specs.Name.{IsName}
use Rattle.hm_path.specs.declared.part.Part.{Part}

-- 16 hexadecimal digits of either case, which spell this id
pub record IsHexId (digits : List ℕ) (id : Id) : Type 0 where
  pub size : length digits ≡ 16
  pub each : AllDigits 16 digits
  pub value : id.0 ≡ digits_value 16 digits

-- what stands before the digits of an id
abbrev pub id_sign : List ℕ
id_sign = codes "@@0x"

-- `@@0x` and the digits of this id
pub record IsIdText (text : List ℕ) (id : Id) : Type 0 where
  pub digits : List ℕ
  pub written : text ≡ id_sign ++ digits
  pub spelled : IsHexId digits id

-- no id is written so
abbrev pub IsNoIdText : List ℕ → Type 0
IsNoIdText text = (id : Id) → IsIdText text id → ⊥

-- the text is this front and this id
pub record EndsWithId (text front : List ℕ) (id : Id) : Type 0 where
  pub end : List ℕ
  pub text_is : text ≡ front ++ end
  pub id_is : IsIdText end id

-- how a component is written: its name, its name and its id, or its id alone
abbrev pub IsWritten : List ℕ → Option (List ℕ) → Option Id → Type 0
IsWritten text (Some name) None = (text ≡ name) × IsName name
IsWritten text (Some name) (Some id) = IsName name × EndsWithId text name id
IsWritten text None (Some id) = IsIdText text id
IsWritten text None None = ⊥

-- the text is a component that says this part
abbrev pub IsComponent : List ℕ → Part → Type 0
IsComponent text part = IsWritten text part.name part.as_of

-- the text is no component
abbrev pub IsNoComponent : List ℕ → Type 0
IsNoComponent text = (part : Part) → IsComponent text part → ⊥

-- what is left of the text without the id at its end, if one stands there
abbrev pub CutsId : List ℕ → List ℕ → Option Id → Type 0
CutsId text front (Some id) = EndsWithId text front id
CutsId text front None = (front ≡ text) × ((front : List ℕ) (id : Id) → EndsWithId text front id → ⊥)
