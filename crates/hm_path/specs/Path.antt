-- The texts that are paths, and where the others are bad.
use Rattle.std.specs.Prelude.{◌≡◌, ◌≢◌, ◌⊎◌, ℕ, ◌+◌, ◌<◌, ◌≤◌, ◌==◌, List, [], ◌∷◌, ◌++◌, drop, length, slice_index}
use Rattle.std.specs.List.{AllZip, slice_split}
use Rattle.hm_types.specs.declared.limits.TheConstants.{MOST_PATH_BYTES, MOST_PATH_PARTS}
use Rattle.hm_path.specs.declared.fault.PathFault.{PathFault}
use Rattle.hm_path.specs.declared.fault.PathFault.TheVariants.{BadPath, NoMemory}
use Rattle.hm_path.specs.declared.part.Part.{Part}
use Rattle.hm_path.specs.Component.{IsComponent, IsNoComponent}

-- a slash
abbrev pub slash : ℕ
slash = 0x2F

-- The texts of the components, between the slashes of what follows the path's first one. The path `/`
-- has none.
abbrev pub component_texts : List ℕ → List (List ℕ)
component_texts [] = []
component_texts (b ∷ bs) = slice_split (λ x. x == slash) (b ∷ bs)

-- these components say these parts, one each, and are not too many
pub record SpellsParts (texts : List (List ℕ)) (parts : List Part) : Type 0 where
  pub each : AllZip IsComponent texts parts
  pub few : length parts ≤ MOST_PATH_PARTS

-- the text is a path of these parts
pub record IsPath (text : List ℕ) (parts : List Part) : Type 0 where
  pub size : length text ≤ MOST_PATH_BYTES
  pub rooted : slice_index text 0 ≡ slash
  pub spelled : SpellsParts (component_texts (drop 1 text)) parts

-- the offset at which a component begins in the path, after these ones and a slash before each
abbrev pub offset_after : List (List ℕ) → ℕ
offset_after [] = 1
offset_after (text ∷ texts) = length text + 1 + offset_after texts

-- the first bad component, or the one past the greatest count if that stands first, begins here
pub record IsFirstBad (texts : List (List ℕ)) (place : ℕ) : Type 0 where
  pub before : List (List ℕ)
  pub bad : List ℕ
  pub rest : List (List ℕ)
  pub texts_are : texts ≡ before ++ bad ∷ rest
  pub parts : List Part
  pub good : SpellsParts before parts
  pub cause : IsNoComponent bad ⊎ (length before ≡ MOST_PATH_PARTS)
  pub place_is : place ≡ offset_after before

-- Where the text, which is no path, is bad: at its first byte too many; at its start, which is no slash;
-- or at its first bad component, or the one past the greatest count.
abbrev pub IsBadPlace : List ℕ → ℕ → Type 0
IsBadPlace text place =
    ((MOST_PATH_BYTES < length text) × (place ≡ MOST_PATH_BYTES))
    ⊎ ((length text ≤ MOST_PATH_BYTES) × (slice_index text 0 ≢ slash) × (place ≡ 0))
    ⊎ ((length text ≤ MOST_PATH_BYTES) × (slice_index text 0 ≡ slash)
    × IsFirstBad (component_texts (drop 1 text)) place)

-- why a text gave no path: it is bad at this place, or memory ran out, which only components take
abbrev pub IsPathFault : List ℕ → PathFault → Type 0
IsPathFault text (BadPath place) = IsBadPlace text place
IsPathFault text NoMemory =
    (1 < length text) × (length text ≤ MOST_PATH_BYTES) × (slice_index text 0 ≡ slash)

-- why components gave no parts
abbrev pub IsComponentFault : List (List ℕ) → PathFault → Type 0
IsComponentFault texts (BadPath place) = IsFirstBad texts place
IsComponentFault texts NoMemory = Unit {0}
