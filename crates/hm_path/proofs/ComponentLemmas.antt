-- The part that a component says.
use Rattle.std.proofs.Common.{◌≡◌, ℕ, List, [], ◌∷◌, false, Option, None, Some, length, refl, sym, ◌∙◌, ap, subst, arith}
use Rattle.std.specs.Bool.{◌==◌}
use Rattle.std.specs.Option.{MatchOption, is_some}
use Rattle.hm_types.specs.declared.id.Id.{Id}
use Rattle.hm_types.specs.Name.{IsName}
use Rattle.hm_path.specs.declared.part.Part.{Part}
use Rattle.hm_path.specs.Component.{IsIdText, EndsWithId, IsWritten, IsComponent, IsNoComponent, CutsId}
use Rattle.hm_path.proofs.IdLemmas.{end_is_one, no_id_in_name, id_is_one}

-- an id alone ends its text, after nothing
ends_alone : (text : List ℕ) (id : Id) → IsIdText text id → EndsWithId text [] id
ends_alone text id is = record { end = text; text_is = refl; id_is = is }

-- a name is not empty
no_empty_name : IsName [] → ⊥
no_empty_name named = absurd (omega (arith, named.size))

-- what ends in an id after a name is no id alone
no_alone : (text name : List ℕ) (a b : Id) → IsName name → EndsWithId text name a → IsIdText text b → ⊥
no_alone text name a b named ends alone =
    let same = end_is_one text name [] a b ends (ends_alone text b alone) in
    let P : List ℕ → Type 0 = λ n. IsName n in
    no_empty_name (subst P same.0 named)

-- a text is written for one name and id only
written_is_one : (text : List ℕ) (m n : Option (List ℕ)) (a b : Option Id) → IsWritten text m a → IsWritten text n b → (m ≡ n) × (a ≡ b)
written_is_one text None n None b p q = absurd p
written_is_one text m None a None p q = absurd q
written_is_one text (Some m) (Some n) None None p q = let same : m ≡ n = sym p.0 ∙ q.0 in (ap (λ x. Some x) same, refl)
written_is_one text (Some m) (Some n) None (Some b) p q = absurd (no_id_in_name text n b q.1 (rw p.0 p.1))
written_is_one text (Some m) None None (Some b) p q = absurd (no_id_in_name text [] b (ends_alone text b q) (rw p.0 p.1))
written_is_one text (Some m) (Some n) (Some a) None p q = absurd (no_id_in_name text m a p.1 (rw q.0 q.1))
written_is_one text None (Some n) (Some a) None p q = absurd (no_id_in_name text [] a (ends_alone text a p) (rw q.0 q.1))
written_is_one text (Some m) (Some n) (Some a) (Some b) p q =
    let same = end_is_one text m n a b p.1 q.1 in
    (ap (λ x. Some x) same.0, ap (λ x. Some x) same.1)
written_is_one text (Some m) None (Some a) (Some b) p q = absurd (no_alone text m a b p.0 p.1 q)
written_is_one text None (Some n) (Some a) (Some b) p q = absurd (no_alone text n b a q.0 q.1 p)
written_is_one text None None (Some a) (Some b) p q = (refl, ap (λ x. Some x) (id_is_one text a b p q))

-- a component says one part only
pub component_is_one : (text : List ℕ) (a b : Part) → IsComponent text a → IsComponent text b → a ≡ b
component_is_one text a b p q =
    let same = written_is_one text a.name b.name a.as_of b.as_of p q in
    let make : Option (List ℕ) → Option Id → Part = λ name as_of. record { name = name; as_of = as_of } in
    ap (λ name. make name a.as_of) same.0 ∙ ap (λ as_of. make b.name as_of) same.1

-- no part is written so, where what stands before the id is no name
no_written : (text name : List ℕ) (as_of : Option Id) → CutsId text name as_of → (IsName name → ⊥) → (length name ≡ 0 → as_of ≡ None)
    → (m : Option (List ℕ)) (a : Option Id) → IsWritten text m a → ⊥
no_written text name as_of cuts unnamed bare None None is = is
no_written text name None cuts unnamed bare (Some m) None is = unnamed (rw (cuts.0, is.0) is.1)
no_written text name None cuts unnamed bare (Some m) (Some a) is = cuts.1 m a is.1
no_written text name None cuts unnamed bare None (Some a) is = cuts.1 [] a (ends_alone text a is)
no_written text name (Some id) cuts unnamed bare (Some m) None is = no_id_in_name text name id cuts (rw is.0 is.1)
no_written text name (Some id) cuts unnamed bare (Some m) (Some a) is =
    let same = end_is_one text name m id a cuts is.1 in
    unnamed (rw same.0 is.0)
no_written text name (Some id) cuts unnamed bare None (Some a) is =
    let same = end_is_one text name [] id a cuts (ends_alone text a is) in
    let none : Some id ≡ None = bare (ap length same.0) in
    cc

-- the text is no component, where what stands before the id is no name, nor empty before an id
pub no_component : (text name : List ℕ) (as_of : Option Id) → CutsId text name as_of → (IsName name → ⊥) → (length name ≡ 0 → as_of ≡ None) → IsNoComponent text
no_component text name as_of cuts unnamed bare part = no_written text name as_of cuts unnamed bare part.name part.as_of

-- a value that tests as none
pub none_from_test : (o : Option Id) → false ≡ is_some o → o ≡ None
none_from_test None test = refl
none_from_test (Some id) test = cc

-- bytes that do not test as empty
pub some_from_test : (bytes : List ℕ) → false ≡ (length bytes == 0) → length bytes ≡ 0 → ⊥
some_from_test [] test none = cc
some_from_test (b ∷ bs) test none = omega (arith, none)

-- what a reading found: no component, or this part
pub no_part : (text : List ℕ) (found : Option Part) → MatchOption found (IsNoComponent text) (IsComponent text)
    → ((part : Part) → found ≡ Some part → ⊥) → IsNoComponent text
no_part text None read none = read
no_part text (Some part) read none = absurd (none part refl)

pub one_part : (text : List ℕ) (found : Option Part) (part : Part) → found ≡ Some part → MatchOption found (IsNoComponent text) (IsComponent text)
    → IsComponent text part
one_part text found part is read =
    let P : Option Part → Type 0 = λ o. MatchOption o (IsNoComponent text) (IsComponent text) in
    subst P is read
