-- The id that a target names.
use Rattle.std.proofs.Common.{◌≡◌, ℕ, ◌-◌, ◌<◌, ◌≤◌, List, [], ◌∷◌, ◌++◌, length, length-append, take, take-append-drop}
use Rattle.std.proofs.Common.{drop, Bool, true, false, true≢false, Option, None, Some, refl, sym, ap, subst, ◌∙◌, arith}
use Rattle.std.specs.Bool.{nat_le}
use Rattle.std.specs.Prelude.{MatchOption, is_some, ◌==◌, ◌&&◌, if◌then◌else◌, codes}
use Rattle.std.specs.Char.{digit_value}
use Rattle.std.specs.List.{list_all, starts_with}
use Rattle.std.specs.Str.Parse.{AllDigits, digits_value}
use Rattle.std.proofs.lemmas.Bool.{and_parts, eq-eqb, eqb-true, leb-true}
use Rattle.std.proofs.lemmas.List.{length-drop, length-take}
use Rattle.std.proofs.Math.Seq.{take-append_seam, take-length}
use Rattle.hex.specs.Hex.{is_hex_digit}
use Rattle.hm_types.specs.declared.id.Id.{Id}
use Rattle.hm_path.specs.Component.{IsIdText, IsNoIdText, id_sign}
use Rattle.hm_path.proofs.IdLemmas.{length_id}
use Rattle.hm_model.specs.Cut.{begins_with_id, named_id}
use Rattle.hm_view.specs.Snapshots.{id_number}

-- ---- digits

digit_passes : (c : ℕ) → digit_value c < 16 → is_hex_digit c ≡ true
digit_passes c small = grind (arith)

upper_digit : (c : ℕ) → 65 ≤ c → c ≤ 70 → digit_value c < 16
upper_digit c from to = grind (arith)

lower_digit : (c : ℕ) → 97 ≤ c → c ≤ 102 → digit_value c < 16
lower_digit c from to = grind (arith)

decimal_digit : (c : ℕ) → 48 ≤ c → c ≤ 57 → digit_value c < 16
decimal_digit c from to = grind (arith)

passes_digit : (c : ℕ) → is_hex_digit c ≡ true → digit_value c < 16
passes_digit c passes =
    by_test (nat_le 65 c && nat_le c 70) (nat_le 97 c && nat_le c 102) (nat_le 48 c && nat_le c 57) refl refl refl passes where
      by_test : (a b d : Bool) → (nat_le 65 c && nat_le c 70) ≡ a → (nat_le 97 c && nat_le c 102) ≡ b → (nat_le 48 c && nat_le c 57) ≡ d
          → is_some (if a then Some (c - 55) else if b then Some (c - 87) else if d then Some (c - 48) else None) ≡ true → digit_value c < 16
      by_test true b d upper lower decimal passes =
          let range = and_parts (nat_le 65 c) (nat_le c 70) upper in
          upper_digit c (leb-true 65 c range.0) (leb-true c 70 range.1)
      by_test false true d upper lower decimal passes =
          let range = and_parts (nat_le 97 c) (nat_le c 102) lower in
          lower_digit c (leb-true 97 c range.0) (leb-true c 102 range.1)
      by_test false false true upper lower decimal passes =
          let range = and_parts (nat_le 48 c) (nat_le c 57) decimal in
          decimal_digit c (leb-true 48 c range.0) (leb-true c 57 range.1)
      by_test false false false upper lower decimal passes = absurd (true≢false (sym passes))

digits_pass : (ds : List ℕ) → AllDigits 16 ds → list_all is_hex_digit ds ≡ true
digits_pass [] all = refl
digits_pass (d ∷ ds) all = rw (digit_passes d all.0) (digits_pass ds all.1)

pass_digits : (ds : List ℕ) → list_all is_hex_digit ds ≡ true → AllDigits 16 ds
pass_digits [] all = tt
pass_digits (d ∷ ds) all = let both = and_parts _ _ all in (passes_digit d both.0, pass_digits ds both.1)

-- ---- a text that begins with an id

-- whether these are the digits of an id
abbrev are_digits : List ℕ → Bool
are_digits ds = (length ds == 16) && list_all is_hex_digit ds

abbrev id_by : List ℕ → Option ℕ
id_by ds = if are_digits ds then Some (digits_value 16 ds) else None

begins_as : (rest : List ℕ) → begins_with_id (id_sign ++ rest) ≡ id_by (take 16 rest)
begins_as rest = refl

begins_some : (text rest : List ℕ) (id : Id) (is : IsIdText text id) → begins_with_id (text ++ rest) ≡ Some id.0
begins_some text rest id is = ap begins_with_id whole ∙ begins_as (is.digits ++ rest) ∙ ap id_by taken ∙ spelled where
  whole : text ++ rest ≡ id_sign ++ (is.digits ++ rest)
  whole = ap (λ (t : List ℕ). t ++ rest) is.written

  taken : take 16 (is.digits ++ rest) ≡ is.digits
  taken = subst (λ (n : ℕ). take n (is.digits ++ rest) ≡ is.digits) is.spelled.size (take-append_seam is.digits rest)

  spelled : id_by is.digits ≡ Some id.0
  spelled = rw (eq-eqb (length is.digits) 16 is.spelled.size, digits_pass is.digits is.spelled.each) (ap Some (sym is.spelled.value))

last_false : (a b c : Bool) → (a && (b && (c && false))) ≡ true → ⊥
last_false true true true is = true≢false (sym is)
last_false true true false is = true≢false (sym is)
last_false true false c is = true≢false (sym is)
last_false false b c is = true≢false (sym is)

-- a text that begins with the sign
signed : (text : List ℕ) → starts_with (λ (a b : ℕ). a == b) text (codes "@@0x") ≡ true → text ≡ id_sign ++ drop 4 text
signed [] starts = absurd (true≢false (sym starts))
signed (a ∷ []) starts = absurd (true≢false (sym (and_parts (0x40 == a) false starts).1))
signed (a ∷ b ∷ []) starts = absurd (last_false (0x40 == a) (0x40 == b) true starts)
signed (a ∷ b ∷ c ∷ []) starts = absurd (last_false (0x40 == a) (0x40 == b) (0x30 == c) starts)
signed (a ∷ b ∷ c ∷ d ∷ rest) starts =
    let one = and_parts _ _ starts in
    let two = and_parts _ _ one.1 in
    let three = and_parts _ _ two.1 in
    let four = and_parts _ _ three.1 in
    let first : 0x40 ≡ a = eqb-true 0x40 a one.0 in
    let second : 0x40 ≡ b = eqb-true 0x40 b two.0 in
    let third : 0x30 ≡ c = eqb-true 0x30 c three.0 in
    let fourth : 0x78 ≡ d = eqb-true 0x78 d four.0 in
    rw (← first, ← second, ← third, ← fourth) refl

-- where no id text stands in front, none is begun
begins_none : (text : List ℕ) → IsNoIdText (take 20 text) → begins_with_id text ≡ None
begins_none text none =
    by_test (starts_with (λ (a b : ℕ). a == b) text (codes "@@0x")) (length (take 16 (drop 4 text)) == 16)
    (list_all is_hex_digit (take 16 (drop 4 text))) refl refl refl where
      by_test : (a b c : Bool) → starts_with (λ (a b : ℕ). a == b) text (codes "@@0x") ≡ a → (length (take 16 (drop 4 text)) == 16) ≡ b
          → list_all is_hex_digit (take 16 (drop 4 text)) ≡ c
          → (if a && b && c then Some (digits_value 16 (take 16 (drop 4 text))) else None) ≡ None
      by_test false b c starts long digits = refl
      by_test true false c starts long digits = refl
      by_test true true false starts long digits = refl
      by_test true true true starts long digits = absurd (none (record { 0 = digits_value 16 (take 16 (drop 4 text)) }) (record {
        digits = take 16 (drop 4 text);
        written = ap (take 20) (signed text starts);
        spelled = record {
          size = eqb-true (length (take 16 (drop 4 text))) 16 long;
          each = pass_digits (take 16 (drop 4 text)) digits;
          value = refl;
        };
      }))

-- ---- the first id in a text

pub named_here : (text front rest : List ℕ) (id : Id) → text ≡ front ++ rest → IsIdText front id → named_id text ≡ Some id.0
named_here [] front rest id whole is = absurd (omega (arith, ap length whole, length_id front id is, length-append front rest))
named_here (b ∷ bs) front rest id whole is =
    let here : begins_with_id (b ∷ bs) ≡ Some id.0 = ap begins_with_id whole ∙ begins_some front rest id is in
    rw here refl

pub named_later : (b : ℕ) (bs : List ℕ) → IsNoIdText (take 20 (b ∷ bs)) → named_id (b ∷ bs) ≡ named_id bs
named_later b bs none = rw (begins_none (b ∷ bs) none) refl

pub named_short : (text : List ℕ) → length text < 20 → named_id text ≡ None
named_short [] short = refl
named_short (b ∷ bs) short =
    let none : IsNoIdText (take 20 (b ∷ bs)) =
    λ id is. absurd (omega (arith, length_id (take 20 (b ∷ bs)) id is, length-take 20 (b ∷ bs), short)) in
    named_later b bs none ∙ named_short bs (omega (arith, short))

-- ---- a look for it, from the front on

pub some_named : (target rest : List ℕ) (found : Option Id) → named_id target ≡ named_id rest → is_some found ≡ true
    → MatchOption found (IsNoIdText (take 20 rest)) (IsIdText (take 20 rest)) → id_number found ≡ named_id target
some_named target rest None same there is = absurd (true≢false (sym there))
some_named target rest (Some id) same there is =
    sym (same ∙ named_here rest (take 20 rest) (drop 20 rest) id (sym (take-append-drop 20 rest)) is)

later : (rest : List ℕ) → 20 ≤ length rest → IsNoIdText (take 20 rest) → named_id rest ≡ named_id (drop 1 rest)
later [] long none = absurd (omega (arith, long))
later (b ∷ bs) long none = named_later b bs none

pub none_named : (target rest : List ℕ) (found : Option Id) → named_id target ≡ named_id rest → is_some found ≡ false
    → MatchOption found (IsNoIdText (take 20 rest)) (IsIdText (take 20 rest)) → 20 ≤ length rest
    → named_id target ≡ named_id (take (length rest - 1) (drop 1 rest))
none_named target rest (Some id) same there is long = absurd (true≢false there)
none_named target rest None same there is long =
    same ∙ later rest long is ∙ ap named_id (sym (ap (λ (n : ℕ). take n (drop 1 rest)) (sym (length-drop 1 rest)) ∙ take-length (drop 1 rest)))
