-- Marks that are raised, and how far none is above an id.
use Rattle.std.proofs.Common.{◌≡◌, ◌≢◌, ℕ, suc, ◌+◌, ◌<◌, ◌≤◌, max, List, [], ◌∷◌, ◌++◌, length, get_or, set, true, false, Bool, refl, ap, sym, subst, ◌∙◌}
use Rattle.std.proofs.Common.{arith}
use Rattle.std.specs.Prelude.{if◌then◌else◌, ◌⊎◌, All}
use Rattle.std.proofs.Common.{inl, inr}
use Rattle.std.specs.Cmp.{Equal-is}
use Rattle.std.specs.declared.cmp.Ordering.TheVariants.{Equal}
use Rattle.std.proofs.lemmas.List.Elements.{All-head, All-tail}
use Rattle.std.proofs.Math.Nat.{eq-or-lt_of_le}
use Rattle.std.proofs.lemmas.List.{get_or_default}
use Rattle.hm_types.specs.Elements.{Key, key_cmp}
use Rattle.hm_key.specs.Key.{IsBefore, IsFrom}
use Rattle.hm_key.specs.Memory.{mark_key, marks_key, mark_of, mark_place, IsPassed}
use Rattle.hm_key.specs.Marks.{Marks}
use Rattle.hm_key.specs.declared.mark_list.Mark.{Mark}
use Rattle.hm_key.proofs.KeyLemmas.{key_same, key_itself, key_before_from}
use Rattle.hm_key.proofs.RaiseLemmas.{marks_alone}

-- a mark with at least this id
abbrev raised : ℕ → Mark → Mark
raised id m = record m { id = max m.id id }

-- a mark is not for a key that is another
not_here : (key : Key) (m : Mark) → key_cmp key (mark_key m) ≢ Equal → marks_key key m ≡ false
not_here key m apart = by_test (marks_key key m) refl where
  by_test : (b : Bool) → marks_key key m ≡ b → b ≡ false
  by_test true is = absurd (apart (rw (sym (key_same (mark_key m) key ((Equal-is (key_cmp (mark_key m) key)).0 is))) (key_itself (mark_key m))))
  by_test false is = refl

-- no mark is for two keys
not_both : (at key : Key) (m : Mark) → key_cmp key at ≢ Equal → marks_key at m ≡ true → marks_key key m ≡ false
not_both at key m apart is =
    let same : mark_key m ≡ at = key_same (mark_key m) at ((Equal-is (key_cmp (mark_key m) at)).0 is) in
    not_here key m (subst (λ (k : Key). key_cmp key k ≢ Equal) (sym same) apart)

-- the mark of a key is read at its place
pub mark_of-place : (at : Key) (d : Mark) (ms : List Mark) → mark_place at ms < length ms → mark_of ms at ≡ (get_or ms (mark_place at ms) d).id
mark_of-place at d [] within = absurd (omega arith)
mark_of-place at d (m ∷ ms) within = by_test (marks_key at m) within (mark_of-place at d ms) where
  by_test : (b : Bool) → (if b then 0 else suc (mark_place at ms)) < suc (length ms)
      → (mark_place at ms < length ms → mark_of ms at ≡ (get_or ms (mark_place at ms) d).id)
      → (if b then m.id else mark_of ms at) ≡ (get_or (m ∷ ms) (if b then 0 else suc (mark_place at ms)) d).id
  by_test true within more = refl
  by_test false within more = more (omega arith)

-- a key without a place has the mark 0
pub mark_of-none : (at : Key) (ms : List Mark) → length ms ≤ mark_place at ms → mark_of ms at ≡ 0
mark_of-none at [] past = refl
mark_of-none at (m ∷ ms) past = by_test (marks_key at m) past (mark_of-none at ms) where
  by_test : (b : Bool) → suc (length ms) ≤ (if b then 0 else suc (mark_place at ms)) → (length ms ≤ mark_place at ms → mark_of ms at ≡ 0)
      → (if b then m.id else mark_of ms at) ≡ 0
  by_test true past more = absurd (omega arith)
  by_test false past more = more (omega arith)

-- a mark that rises at its place leaves that of each other key
pub set_others : (at key : Key) (id : ℕ) (d : Mark) (ms : List Mark) → key_cmp key at ≢ Equal
    → mark_of (set ms (mark_place at ms) (raised id (get_or ms (mark_place at ms) d))) key ≡ mark_of ms key
set_others at key id d [] apart = refl
set_others at key id d (m ∷ ms) apart = by_test (marks_key at m) refl (set_others at key id d ms apart) where
  other : marks_key at m ≡ true → marks_key key m ≡ false
  other is = not_both at key m apart is

  by_test : (b : Bool) → marks_key at m ≡ b → mark_of (set ms (mark_place at ms) (raised id (get_or ms (mark_place at ms) d))) key ≡ mark_of ms key
      → mark_of (set (m ∷ ms) (if b then 0 else suc (mark_place at ms)) (raised id (get_or (m ∷ ms) (if b then 0 else suc (mark_place at ms)) d))) key ≡ mark_of
      (m ∷ ms) key
  by_test true is more = rw (other is) refl
  by_test false is more = ap (λ (n : ℕ). if marks_key key m then m.id else n) more

-- the mark that rises becomes the greater of itself and the id
pub set_here : (at : Key) (id : ℕ) (d : Mark) (ms : List Mark) → mark_place at ms < length ms
    → mark_of (set ms (mark_place at ms) (raised id (get_or ms (mark_place at ms) d))) at ≡ max (mark_of ms at) id
set_here at id d [] within = absurd (omega arith)
set_here at id d (m ∷ ms) within = by_test (marks_key at m) refl within (set_here at id d ms) where
  by_test : (b : Bool) → marks_key at m ≡ b → (if b then 0 else suc (mark_place at ms)) < suc (length ms)
      → (mark_place at ms < length ms → mark_of (set ms (mark_place at ms) (raised id (get_or ms (mark_place at ms) d))) at ≡ max (mark_of ms at) id)
      → mark_of (set (m ∷ ms) (if b then 0 else suc (mark_place at ms)) (raised id (get_or (m ∷ ms) (if b then 0 else suc (mark_place at ms)) d))) at ≡ max
      (if b then m.id else mark_of ms at) id
  by_test true is within more = rw is refl
  by_test false is within more = rw is (more (omega arith))

-- a mark rises to an id at its place
pub marks_set : (at : Key) (id n : ℕ) (m : Mark) (ms : List Mark) (place : ℕ) → place ≡ mark_place at ms → place < length ms → m ≡ get_or ms place m
    → n ≡ max m.id id → Marks at id (mark_of ms) (mark_of (set ms place (record { at = m.at; id = n })))
marks_set at id n m ms place found within read most =
    let same : record { at = m.at; id = n } ≡ raised id (get_or ms place m) =
    ap (λ (k : ℕ). let x : Mark = record { at = m.at; id = k } in x) most ∙ ap (raised id) read in
    rw (same, found) (marks_alone at id (mark_of ms) (mark_of (set ms (mark_place at ms) (raised id (get_or ms (mark_place at ms) m))))
    (set_here at id m ms (omega arith)) (λ key apart. set_others at key id m ms apart))

-- a mark more, of a key that had none, is that key's, and leaves that of each other key
pub push_others : (new : Mark) (key : Key) (ms : List Mark) → key_cmp key (mark_key new) ≢ Equal → mark_of (ms ++ new ∷ []) key ≡ mark_of ms key
push_others new key [] apart = rw (not_here key new apart) refl
push_others new key (m ∷ ms) apart = ap (λ (n : ℕ). if marks_key key m then m.id else n) (push_others new key ms apart)

pub push_here : (new : Mark) (ms : List Mark) → length ms ≤ mark_place (mark_key new) ms → mark_of (ms ++ new ∷ []) (mark_key new) ≡ new.id
push_here new [] past = rw (key_itself (mark_key new)) refl
push_here new (m ∷ ms) past = by_test (marks_key (mark_key new) m) past (push_here new ms) where
  by_test : (b : Bool) → suc (length ms) ≤ (if b then 0 else suc (mark_place (mark_key new) ms))
      → (length ms ≤ mark_place (mark_key new) ms → mark_of (ms ++ new ∷ []) (mark_key new) ≡ new.id)
      → (if b then m.id else mark_of (ms ++ new ∷ []) (mark_key new)) ≡ new.id
  by_test true past more = absurd (omega arith)
  by_test false past more = more (omega arith)

-- a key without a mark gets one
pub marks_push : (new : Mark) (ms : List Mark) → length ms ≤ mark_place (mark_key new) ms → Marks (mark_key new) new.id (mark_of ms) (mark_of (ms ++ new ∷ []))
marks_push new ms past =
    let here : mark_of (ms ++ new ∷ []) (mark_key new) ≡ max (mark_of ms (mark_key new)) new.id =
    omega (arith, push_here new ms past, mark_of-none (mark_key new) ms past) in
    marks_alone (mark_key new) new.id (mark_of ms) (mark_of (ms ++ new ∷ [])) here (λ key apart. push_others new key ms apart)

-- where no mark above an id is for a key between two, the marks of all keys there are at most the id
pub passed_quiet : (at end : Key) (since : ℕ) (ms : List Mark) → All (IsPassed at since end) ms → (key : Key) → IsBefore at key → IsBefore key end
    → mark_of ms key ≤ since
passed_quiet at end since [] passed key after before = omega arith
passed_quiet at end since (m ∷ ms) passed key after before =
    by_test (marks_key key m) refl (passed_quiet at end since ms (All-tail (IsPassed at since end) m ms passed) key after before) where
      by_test : (b : Bool) → marks_key key m ≡ b → mark_of ms key ≤ since → (if b then m.id else mark_of ms key) ≤ since
      by_test true is more =
          let same : mark_key m ≡ key = key_same (mark_key m) key ((Equal-is (key_cmp (mark_key m) key)).0 is) in
          let not : since < m.id → ⊥ = λ above. All-head (IsPassed at since end) m ms passed above (subst (λ (k : Key). IsBefore at k) (sym same) after)
          (subst (λ (k : Key). IsBefore k end) (sym same) before) in
          omega arith
      by_test false is more = more

-- an end that comes earlier has passed what a later one has
pub passed_earlier : (at later end : Key) (since : ℕ) (m : Mark) → IsFrom end later → IsPassed at since later m → IsPassed at since end m
passed_earlier at later end since m earlier passed above after before = passed above after (key_before_from (mark_key m) end later before earlier)

less_or_same : (k i : ℕ) → k < i + 1 → (k < i) ⊎ (k ≡ i)
less_or_same k i less = elim (eq-or-lt_of_le {n = k} {m = i} (omega arith)) [ inl same ↦ inr same | inr before ↦ inl before ]

-- the marks that were looked at, and one more
pub passed_more : (at later end : Key) (since : ℕ) (e : Mark) (ms read : List Mark) (i : ℕ) → IsFrom end later
    → ((k : ℕ) (d : Mark) → k < i → IsPassed at since later (get_or ms k d)) → read ≡ ms → IsPassed at since end (get_or read i e) → i < length ms
    → (k : ℕ) (d : Mark) → k < i + 1 → IsPassed at since end (get_or ms k d)
passed_more at later end since e ms read i earlier passed is here within k d less = elim (less_or_same k i less) [
  | inl before ↦ passed_earlier at later end since (get_or ms k d) earlier (passed k d before)
  | inr same ↦
      let there : get_or read i e ≡ get_or ms k d =
      ap (λ (l : List Mark). get_or l i e) is ∙ get_or_default ms i e d within ∙ ap (λ (j : ℕ). get_or ms j d) (sym same) in
      subst (λ (x : Mark). IsPassed at since end x) there here
]

-- the mark of a key, which was read at its place
pub mark_of-read : (at : Key) (m : Mark) (ms : List Mark) (place : ℕ) → place ≡ mark_place at ms → place < length ms → m ≡ get_or ms place m
    → m.id ≡ mark_of ms at
mark_of-read at m ms place found within read = ap (λ (x : Mark). x.id) (read ∙ ap (λ (k : ℕ). get_or ms k m) found) ∙ sym (mark_of-place at m ms (omega arith))

-- all marks were looked at
pub passed_all : (at end : Key) (since : ℕ) (ms : List Mark) (i : ℕ) → ((k : ℕ) (d : Mark) → k < i → IsPassed at since end (get_or ms k d)) → length ms ≤ i
    → All (IsPassed at since end) ms
passed_all at end since ms i passed end_reached k d less = passed k d (omega arith)
