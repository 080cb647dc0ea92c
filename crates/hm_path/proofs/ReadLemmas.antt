-- Every text is read: it is a path, or it is bad at a place.
use Rattle.std.proofs.Common.{◌≡◌, ◌⊎◌, inl, inr, ⊎_elim, ℕ, zero, suc, ◌-◌, ◌≤◌, List, [], ◌∷◌, ◌++◌, Option, None, Some, length, take, drop, refl}
use Rattle.std.proofs.Common.{sym, ◌∙◌, ap, subst, arith, add-one, length-append}
use Rattle.std.specs.Prelude.{codes, slice_index}
use Rattle.std.specs.List.{AllByRecursion, AllZip}
use Rattle.std.specs.Char.{digit_value}
use Rattle.std.specs.Str.Parse.{AllDigits, digits_value}
use Rattle.std.proofs.Math.Seq.{take-length}
use Rattle.std.proofs.lemmas.List.{length-drop, take-append-drop}
use Rattle.std.proofs.lemmas.List.Elements.{All-from_recursion, recursion_from_All}
use native.Mathlib.Decide.{ℕ_discrete, dec_le, dec_lt}
use mathlib.Core.List.{List-discrete}
use Rattle.hm_types.specs.declared.id.Id.{Id}
use Rattle.hm_types.specs.declared.limits.TheConstants.{MOST_NAME_BYTES, MOST_PATH_BYTES, MOST_PATH_PARTS}
use Rattle.hm_types.specs.Name.{IsName, IsNameByte, LacksId, at_sign}
use Rattle.hm_path.specs.declared.part.Part.{Part}
use Rattle.hm_path.specs.Component.{CutsId, IsComponent, IsIdText, IsNoComponent, IsNoIdText, id_sign}
use Rattle.hm_path.specs.Path.{IsBadPlace, IsPath, component_texts, offset_after, slash}
use Rattle.hm_path.proofs.ComponentLemmas.{no_component}
use Rattle.hm_path.proofs.IdLemmas.{length_id, no_id_at_end}

-- of a fact and its refutation one holds
abbrev Either : Type 0 → Type 0
Either P = P ⊎ (P → ⊥)

of_dec : {P : Type 0} → Dec P → Either P
of_dec (yes p) = inl p
of_dec (no not) = inr not

both : {P Q : Type 0} → Either P → Either Q → Either (P × Q)
both (inl p) (inl q) = inl (p, q)
both (inl p) (inr not) = inr (λ h. not h.1)
both (inr not) e = inr (λ h. not h.0)

refute : {P : Type 0} → Either P → Either (P → ⊥)
refute (inl p) = inr (λ not. not p)
refute (inr not) = inl not

either_digits : (ds : List ℕ) → Either (AllDigits 16 ds)
either_digits [] = inl tt
either_digits (d ∷ ds) = both (of_dec (dec_lt (digit_value d) 16)) (either_digits ds)

-- whether a text is an id
read_digits : (text digits : List ℕ) → text ≡ id_sign ++ digits → length digits ≡ 16 → ((id : Id) × IsIdText text id) ⊎ IsNoIdText text
read_digits text digits written long = ⊎_elim found none (either_digits digits) where
  found : AllDigits 16 digits → ((id : Id) × IsIdText text id) ⊎ IsNoIdText text
  found each = inl (
    record { 0 = digits_value 16 digits },
    record {
      digits = digits;
      written = written;
      spelled = record { size = long; each = each; value = refl };
    },
  )

  none : (AllDigits 16 digits → ⊥) → ((id : Id) × IsIdText text id) ⊎ IsNoIdText text
  none not = inr (λ id is. let same : is.digits ≡ digits = ap (drop 4) (sym is.written ∙ written) in not (subst (AllDigits 16) same is.spelled.each))

read_id_text : (text : List ℕ) → ((id : Id) × IsIdText text id) ⊎ IsNoIdText text
read_id_text text = ⊎_elim long (λ not. inr (λ id is. not (length_id text id is))) (of_dec (ℕ_discrete (length text) 20)) where
  long : length text ≡ 20 → ((id : Id) × IsIdText text id) ⊎ IsNoIdText text
  long size = ⊎_elim signed (λ not. inr (λ id is. not (ap (take 4) is.written))) (of_dec (List-discrete ℕ_discrete (take 4 text) id_sign)) where
    signed : take 4 text ≡ id_sign → ((id : Id) × IsIdText text id) ⊎ IsNoIdText text
    signed is =
        let written : text ≡ id_sign ++ drop 4 text = sym (take-append-drop 4 text) ∙ ap (λ front. front ++ drop 4 text) is in
        read_digits text (drop 4 text) written (omega (arith, length-drop 4 text, size))

-- what is left of a text without the id at its end
record Cut (text : List ℕ) : Type 0 where
  front : List ℕ
  as_of : Option Id
  cuts : CutsId text front as_of

cut_text : (text : List ℕ) → Cut text
cut_text text = ⊎_elim long short (of_dec (dec_le 20 (length text))) where
  short : (20 ≤ length text → ⊥) → Cut text
  short few = record {
    front = text;
    as_of = None;
    cuts = (refl, λ front id ends. few (omega (arith, ap length ends.text_is, length-append front ends.end, length_id ends.end id ends.id_is)));
  }

  long : 20 ≤ length text → Cut text
  long enough = ⊎_elim found none (read_id_text (drop start text)) where
    start : ℕ
    start = length text - 20

    found : (id : Id) × IsIdText (drop start text) id → Cut text
    found h = record {
      front = take start text;
      as_of = Some h.0;
      cuts = record { end = drop start text; text_is = sym (take-append-drop start text); id_is = h.1 };
    }

    none : IsNoIdText (drop start text) → Cut text
    none not = record {
      front = text;
      as_of = None;
      cuts = (refl, no_id_at_end text start (omega (arith, enough)) (subst IsNoIdText same not));
    } where
      same : drop start text ≡ take (length text - start) (drop start text)
      same = sym (rw (← length-drop start text) (take-length (drop start text)))

-- whether a text is a name
either_each : (P : ℕ → Type 0) → ((b : ℕ) → Either (P b)) → (bs : List ℕ) → Either (AllByRecursion P bs)
either_each P each [] = inl tt
either_each P each (b ∷ bs) = both (each b) (either_each P each bs)

either_byte : (b : ℕ) → Either (IsNameByte b)
either_byte b = ⊎_elim (λ h. inl (h.0, h.1.0, h.1.1)) (λ not. inr (λ h. not (h.0, (h.1, h.2))))
    (both (of_dec (dec_lt 0x20 b)) (both (refute (of_dec (ℕ_discrete b 0x2F))) (refute (of_dec (ℕ_discrete b 0x7F)))))

-- no two signs stand together
either_lacks : (bs : List ℕ) → Either (LacksId bs)
either_lacks [] = inl (λ k here next. absurd (omega (arith, here)))
either_lacks (b ∷ bs) = ⊎_elim rest (λ not. inr (λ lacks. not (λ k here next. lacks (suc k) here (rw add-one (rw add-one at next))))) (either_lacks bs) where
  rest : LacksId bs → Either (LacksId (b ∷ bs))
  rest lacks = ⊎_elim two (λ not. inl (other not)) (both (of_dec (ℕ_discrete b at_sign)) (of_dec (ℕ_discrete (slice_index bs 0) at_sign))) where
    two : (b ≡ at_sign) × (slice_index bs 0 ≡ at_sign) → Either (LacksId (b ∷ bs))
    two h = inr (λ all. all 0 h.0 h.1)

    other : ((b ≡ at_sign) × (slice_index bs 0 ≡ at_sign) → ⊥) → LacksId (b ∷ bs)
    other not zero here next = not (here, next)
    other not (suc k) here next = lacks k here (rw add-one (rw add-one at next))

either_name : (name : List ℕ) → Either (IsName name)
either_name name = ⊎_elim (λ h. inl (record { size = h.0; each = All-from_recursion IsNameByte name h.1.0; no_id = h.1.1.0; no_dot = h.1.1.1 }))
    (λ not. inr (λ is. not (is.size, (recursion_from_All IsNameByte name is.each, (is.no_id, is.no_dot)))))
    (both (both (of_dec (dec_le 1 (length name))) (of_dec (dec_le (length name) MOST_NAME_BYTES)))
    (both (either_each IsNameByte either_byte name) (both (either_lacks name)
    (both (refute (of_dec (List-discrete ℕ_discrete name (codes ".")))) (refute (of_dec (List-discrete ℕ_discrete name (codes ".."))))))))

-- the part that a text says, where it is a component
by_cut : (text front : List ℕ) (as_of : Option Id) → CutsId text front as_of → ((part : Part) × IsComponent text part) ⊎ IsNoComponent text
by_cut text [] (Some id) cuts =
    inl (record { name = None; as_of = Some id }, subst (λ t. IsIdText t id) (sym cuts.text_is) cuts.id_is)
by_cut text [] None cuts = inr (no_component text [] None cuts (λ is. let size = is.size in absurd (omega (arith, size))) (λ e. refl))
by_cut text (b ∷ bs) as_of cuts = ⊎_elim (λ is. inl (named as_of cuts is)) none (either_name (b ∷ bs)) where
  named : (o : Option Id) → CutsId text (b ∷ bs) o → IsName (b ∷ bs) → (part : Part) × IsComponent text part
  named None cuts is = (record { name = Some (b ∷ bs); as_of = None }, (sym cuts.0, is))
  named (Some id) cuts is = (record { name = Some (b ∷ bs); as_of = Some id }, (is, cuts))

  none : (IsName (b ∷ bs) → ⊥) → ((part : Part) × IsComponent text part) ⊎ IsNoComponent text
  none not = inr (no_component text (b ∷ bs) as_of cuts not (λ e. absurd (omega (arith, e))))

read_text : (text : List ℕ) → ((part : Part) × IsComponent text part) ⊎ IsNoComponent text
read_text text = let cut = cut_text text in by_cut text cut.front cut.as_of cut.cuts

-- The parts that texts say, at most so many; or the first of them that says none, or is one too many.
record Bad (texts : List (List ℕ)) (most : ℕ) : Type 0 where
  before : List (List ℕ)
  bad : List ℕ
  rest : List (List ℕ)
  texts_are : texts ≡ before ++ bad ∷ rest
  parts : List Part
  each : AllZip IsComponent before parts
  few : length parts ≤ most
  cause : IsNoComponent bad ⊎ (length before ≡ most)

abbrev Good : List (List ℕ) → ℕ → Type 0
Good texts most = (parts : List Part) × AllZip IsComponent texts parts × (length parts ≤ most)

read_all : (texts : List (List ℕ)) (most : ℕ) → Good texts most ⊎ Bad texts most
read_all [] most = inl ([], tt, omega arith)
read_all (text ∷ texts) zero = inr (record {
  before = [];
  bad = text;
  rest = texts;
  texts_are = refl;
  parts = [];
  each = tt;
  few = omega arith;
  cause = inr refl;
})
read_all (text ∷ texts) (suc most) = ⊎_elim (said (read_all texts most)) unsaid (read_text text) where
  unsaid : IsNoComponent text → Good (text ∷ texts) (suc most) ⊎ Bad (text ∷ texts) (suc most)
  unsaid none = inr (record {
    before = [];
    bad = text;
    rest = texts;
    texts_are = refl;
    parts = [];
    each = tt;
    few = omega arith;
    cause = inl none;
  })

  said : Good texts most ⊎ Bad texts most → (part : Part) × IsComponent text part → Good (text ∷ texts) (suc most) ⊎ Bad (text ∷ texts) (suc most)
  said others h = ⊎_elim good bad others where
    good : Good texts most → Good (text ∷ texts) (suc most) ⊎ Bad (text ∷ texts) (suc most)
    good g = inl (h.0 ∷ g.0, (h.1, g.1), omega (arith, g.2))

    bad : Bad texts most → Good (text ∷ texts) (suc most) ⊎ Bad (text ∷ texts) (suc most)
    bad g = inr (record {
      before = text ∷ g.before;
      bad = g.bad;
      rest = g.rest;
      texts_are = ap (λ ts. text ∷ ts) g.texts_are;
      parts = h.0 ∷ g.parts;
      each = (h.1, g.each);
      few = (let few = g.few in omega (arith, few));
      cause = ⊎_elim inl (λ e. inr (ap suc e)) g.cause;
    })

pub every_text : (text : List ℕ) → ((parts : List Part) × IsPath text parts) ⊎ ((place : ℕ) × IsBadPlace text place)
every_text text = ⊎_elim fits (λ long. inr (MOST_PATH_BYTES, inl (omega (arith, long), refl))) (of_dec (dec_le (length text) MOST_PATH_BYTES)) where
  fits : length text ≤ MOST_PATH_BYTES → ((parts : List Part) × IsPath text parts) ⊎ ((place : ℕ) × IsBadPlace text place)
  fits size = ⊎_elim rooted (λ bare. inr (0, inr (inl (size, bare, refl)))) (of_dec (ℕ_discrete (slice_index text 0) slash)) where
    rooted : slice_index text 0 ≡ slash → ((parts : List Part) × IsPath text parts) ⊎ ((place : ℕ) × IsBadPlace text place)
    rooted root = ⊎_elim good bad (read_all (component_texts (drop 1 text)) MOST_PATH_PARTS) where
      good : Good (component_texts (drop 1 text)) MOST_PATH_PARTS → ((parts : List Part) × IsPath text parts) ⊎ ((place : ℕ) × IsBadPlace text place)
      good g = inl (g.0, record { size = size; rooted = root; spelled = record { each = g.1; few = g.2 } })

      bad : Bad (component_texts (drop 1 text)) MOST_PATH_PARTS → ((parts : List Part) × IsPath text parts) ⊎ ((place : ℕ) × IsBadPlace text place)
      bad g = inr (
        offset_after g.before,
        inr (inr (
          size,
          root,
          record {
            before = g.before;
            bad = g.bad;
            rest = g.rest;
            texts_are = g.texts_are;
            parts = g.parts;
            good = record { each = g.each; few = g.few };
            cause = g.cause;
            place_is = refl;
          },
        )),
      )
