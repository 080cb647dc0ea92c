-- A script is one only, and so is its first bad line.
use Rattle.std.proofs.Common.{◌≡◌, inl, inr, ℕ, suc, ◌+◌, ◌<◌, List, [], ◌∷◌, ◌++◌, Option, Some, None, All, length, get_or, refl, sym, ◌∙◌, ap}
use Rattle.std.proofs.Common.{subst, arith, length-append}
use Rattle.std.proofs.lemmas.Fmt.{decimal_digit}
use Rattle.std.proofs.lemmas.List.Elements.{All-head, All-tail}
use Rattle.hm_model.specs.declared.command.Command.{Command}
use Rattle.hm_model.specs.declared.line.Line.{Line}
use Rattle.hm_model.specs.Words.{IsLaneWord}
use Rattle.hm_model.specs.Forms.{IsForm}
use Rattle.hm_model.specs.Lines.{texts_of}
use Rattle.hm_model.specs.Script.{IsLaned, Gives, Reads, ReadEach, IsGood, IsBad, IsScriptOf, IsFirstBadLine, blocks_of}
use Rattle.hm_script.proofs.FormLemmas.{no_form-lane}
use Rattle.hm_script.proofs.OneLemmas.{form_is_one}
use Rattle.hm_script.proofs.TextLemmas.{words_are_one}
use Rattle.hm_script.proofs.ReadingLemmas.{good_texts}
use Rattle.hm_script.proofs.WordLemmas.{element_after}

-- a word is one lane only
lane_is_one : (v w : List ℕ) (m n : ℕ) → v ≡ w → IsLaneWord v m → IsLaneWord w n → m ≡ n
lane_is_one v w m n same p q =
    let left : v ≡ (48 + m) ∷ 58 ∷ [] = rw (p.written, decimal_digit m (omega (arith, p.most))) refl in
    let right : w ≡ (48 + n) ∷ 58 ∷ [] = rw (q.written, decimal_digit n (omega (arith, q.most))) refl in
    omega (arith, ap (λ ds. get_or ds 0 0) (sym left ∙ (same ∙ right)))

-- the same words, in the same lane, where they are forms
laned_is_one : (text : List ℕ) (m n : ℕ) (v w : List (List ℕ)) (a b : Command) → IsForm v a → IsForm w b → IsLaned text m v → IsLaned text n w
    → (m ≡ n) × (v ≡ w)
laned_is_one text m n v w a b is is' (inl p) (inl q) = (p.0 ∙ sym q.0, words_are_one text v w p.1 q.1)
laned_is_one text m n v w a b is is' (inl p) (inr q) =
    let same : v ≡ q.0 ∷ w = words_are_one text v (q.0 ∷ w) p.1 q.2 in
    absurd (no_form-lane q.0 n w a q.1 (rw same at is))
laned_is_one text m n v w a b is is' (inr p) (inl q) =
    let same : w ≡ p.0 ∷ v = words_are_one text w (p.0 ∷ v) q.1 p.2 in
    absurd (no_form-lane p.0 m v b p.1 (rw same at is'))
laned_is_one text m n v w a b is is' (inr p) (inr q) =
    let same : p.0 ∷ v ≡ q.0 ∷ w = words_are_one text (p.0 ∷ v) (q.0 ∷ w) p.2 q.2 in
    let head : p.0 ≡ q.0 = cc in
    (lane_is_one p.0 q.0 m n head p.1 q.1, cc)

-- a line gives one command only, in one lane
pub gives_is_one : (text : List ℕ) (m n : ℕ) (a b : Command) → Gives text m a → Gives text n b → (m ≡ n) × (a ≡ b)
gives_is_one text m n a b p q =
    let same = laned_is_one text m n p.words q.words a b p.form q.form p.laned q.laned in
    (same.0, form_is_one p.words a b p.form (rw same.1 q.form))

-- a text gives one line only, or none
reads_is_one : (number : ℕ) (text : List ℕ) (a b : Option Line) → Reads number text a → Reads number text b → a ≡ b
reads_is_one number text None None p q = refl
reads_is_one number text None (Some b) p q = cc
reads_is_one number text (Some a) None p q = cc
reads_is_one number text (Some a) (Some b) p q =
    let same = gives_is_one text a.lane b.lane a.command b.command p.2 q.2 in
    let make : ℕ → ℕ → Command → Option Line = λ lane n command. Some (record { lane = lane; number = n; command = command }) in
    ap (λ lane. make lane a.number a.command) same.0 ∙ (ap (λ n. make b.lane n a.command) (p.1 ∙ sym q.1) ∙ ap (λ c. make b.lane b.number c) same.1)

-- texts give one list of lines only
each_is_one : (number : ℕ) (texts : List (List ℕ)) (a b : List (Option Line)) → ReadEach number texts a → ReadEach number texts b → a ≡ b
each_is_one number [] [] [] p q = refl
each_is_one number [] [] (y ∷ b) p q = absurd q
each_is_one number [] (x ∷ a) b p q = absurd p
each_is_one number (text ∷ texts) [] b p q = absurd p
each_is_one number (text ∷ texts) (x ∷ a) [] p q = absurd q
each_is_one number (text ∷ texts) (x ∷ a) (y ∷ b) p q =
    cc (reads_is_one number text x y p.0 q.0, each_is_one (number + 1) texts a b p.1 q.1)

-- bytes are one script only
pub script_is_one : (bytes : List ℕ) (a b : List (List Line)) → IsScriptOf bytes a → IsScriptOf bytes b → a ≡ b
script_is_one bytes a b p q =
    p.blocks_are ∙ (ap blocks_of (each_is_one 1 (texts_of bytes) p.lines q.lines p.read q.read) ∙ sym q.blocks_are)

-- texts that are all good before a bad one, in two ways
fronts_are_one : (f g : List (List ℕ)) (x y : List ℕ) (r s : List (List ℕ)) → f ++ x ∷ r ≡ g ++ y ∷ s → All IsGood f → All IsGood g → IsBad x
    → IsBad y → length f ≡ length g
fronts_are_one [] [] x y r s same good good' bad bad' = refl
fronts_are_one [] (t ∷ g) x y r s same good good' bad bad' =
    let head : t ≡ x = cc in
    absurd (bad (subst IsGood head (All-head IsGood t g good')))
fronts_are_one (t ∷ f) [] x y r s same good good' bad bad' =
    let head : t ≡ y = cc in
    absurd (bad' (subst IsGood head (All-head IsGood t f good)))
fronts_are_one (t ∷ f) (u ∷ g) x y r s same good good' bad bad' =
    let tail : f ++ x ∷ r ≡ g ++ y ∷ s = cc in
    ap suc (fronts_are_one f g x y r s tail (All-tail IsGood t f good) (All-tail IsGood u g good') bad bad')

-- bytes have one first bad line only
pub first_bad_is_one : (bytes : List ℕ) (a b : ℕ) → IsFirstBadLine bytes a → IsFirstBadLine bytes b → a ≡ b
first_bad_is_one bytes a b p q =
    omega (arith, p.place, q.place, fronts_are_one p.before q.before p.bad q.bad p.rest q.rest (sym p.texts ∙ q.texts) p.good q.good p.outside q.outside)

-- no bytes are a script and have a bad line
pub no_bad_script : (bytes : List ℕ) (blocks : List (List Line)) (number : ℕ) → IsScriptOf bytes blocks → IsFirstBadLine bytes number → ⊥
no_bad_script bytes blocks number script first =
    let good = good_texts 1 (texts_of bytes) script.lines script.read in
    let within : length first.before < length (texts_of bytes) = omega (arith, ap length first.texts, length-append first.before (first.bad ∷ first.rest)) in
    let here : get_or (texts_of bytes) (length first.before) [] ≡ first.bad =
    ap (λ ts. get_or ts (length first.before) []) first.texts ∙ element_after first.before first.bad first.rest in
    first.outside (subst IsGood here (good (length first.before) [] within))
