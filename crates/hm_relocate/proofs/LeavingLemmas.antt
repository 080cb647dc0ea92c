-- What leaves a choice, and what stays in it.
use Rattle.std.proofs.Common.{◌≡◌, ◌≢◌, ◌⊎◌, ℕ, Bool, true, false, true≢false, cond, not, ◌&&◌, List, [], ◌∷◌, refl, sym, ap, subst, ◌∙◌, inl, inr}
use Rattle.std.proofs.lemmas.Bool.{eq-eqb, eqb-true}
use Rattle.std.specs.Prelude.{◌==◌}
use Rattle.std.specs.List.{Contains, filter}
use Rattle.hm_records.proofs.MemberLemmas.{filter_all, filter_has, has_cases, has_filter, has_head, has_none, has_tail}
use Rattle.hm_reblock.specs.Choice.{without_block}
use Rattle.hm_stored.specs.Heap.{Heap}
use Rattle.hm_relocate.specs.Leaving.{AppendsToNone, HasNothingLive, LeavesChoice, MayLeaveChoice, apart_from}

-- a test that is not passed is not passed
not_both : (t : Bool) → t ≡ true → not t ≡ true → ⊥
not_both true is other = true≢false (sym other)
not_both false is other = true≢false (sym is)

-- what is in a choice without one of its big-blocks
without_has : (block : ℕ) (choice : List ℕ) (b : ℕ) → Contains (without_block block choice) b → Contains choice b × (b ≢ block)
without_has block choice b there =
    let both = filter_has (λ x. not (x == block)) choice b there in
    (both.0, λ same. not_both (b == block) (eq-eqb b block same) both.1)

-- a choice that has a big-block not is the same without it
pub without_none : (block : ℕ) (choice : List ℕ) → (Contains choice block → ⊥) → without_block block choice ≡ choice
without_none block choice none = filter_all (λ x. not (x == block)) choice (λ x has. other x has (x == block) refl) where
  other : (x : ℕ) → Contains choice x → (t : Bool) → (x == block) ≡ t → not t ≡ true
  other x has true is = absurd (none (subst (Contains choice) (eqb-true x block is) has))
  other x has false is = refl

-- what is in a choice apart from some big-blocks
pub apart_has : (blocks choice : List ℕ) (b : ℕ) → Contains (apart_from blocks choice) b → Contains choice b × (Contains blocks b → ⊥)
apart_has [] choice b there = (there, λ has. has_none b has)
apart_has (block ∷ blocks) choice b there =
    let inside = apart_has blocks (without_block block choice) b there in
    let both = without_has block choice b inside.0 in (
      both.0,
      λ is. elim (has_cases block b blocks is) [
        | inl same ↦ both.1 same
        | inr more ↦ inside.1 more
      ],
    )

pub apart_appends : (append choice : List ℕ) → AppendsToNone append (apart_from append choice)
apart_appends append choice block there = (apart_has append choice block there).1

-- whether a big-block stays in a choice apart from some
abbrev stays_apart : List ℕ → ℕ → Bool
stays_apart [] b = true
stays_apart (block ∷ blocks) b = not (b == block) && stays_apart blocks b

-- what passes two tests
filter_both : (p q : ℕ → Bool) (xs : List ℕ) → filter q (filter p xs) ≡ filter (λ x. p x && q x) xs
filter_both p q [] = refl
filter_both p q (x ∷ xs) = by_test (p x) (filter_both p q xs) where
  by_test : (t : Bool) → filter q (filter p xs) ≡ filter (λ x. p x && q x) xs
      → filter q (cond t (x ∷ filter p xs) (filter p xs)) ≡ cond (t && q x) (x ∷ filter (λ x. p x && q x) xs) (filter (λ x. p x && q x) xs)
  by_test true rest = ap (λ (ys : List ℕ). cond (q x) (x ∷ ys) ys) rest
  by_test false rest = rest

-- what passes no test
filter_none : (xs : List ℕ) → filter (λ x. false) xs ≡ []
filter_none [] = refl
filter_none (x ∷ xs) = filter_none xs

apart_is : (blocks choice : List ℕ) → apart_from blocks choice ≡ filter (stays_apart blocks) choice
apart_is [] choice = sym (filter_all (λ b. true) choice (λ b has. refl))
apart_is (block ∷ blocks) choice =
    apart_is blocks (without_block block choice) ∙ filter_both (λ b. not (b == block)) (stays_apart blocks) choice

-- what does not stay is one of them
apart_left : (blocks : List ℕ) (b : ℕ) → stays_apart blocks b ≡ false → Contains blocks b
apart_left [] b is = absurd (true≢false is)
apart_left (block ∷ blocks) b is = by_test (b == block) refl is (apart_left blocks b) where
  by_test : (t : Bool) → (b == block) ≡ t → (not t && stays_apart blocks b) ≡ false → (stays_apart blocks b ≡ false → Contains blocks b)
      → Contains (block ∷ blocks) b
  by_test true same is rest = subst (Contains (block ∷ blocks)) (sym (eqb-true b block same)) (has_head block blocks)
  by_test false same is rest = has_tail block b blocks (rest is)

module _ (old new : Heap) (was : List ℕ) where
  -- in a unit that failed those left to which a zone appended as it began
  pub leaves_once : (now : List ℕ) → now ≡ apart_from old.append was → LeavesChoice old new was now
  leaves_once now is = record {
    stays = stays_apart old.append;
    left = is ∙ apart_is old.append was;
    may = λ block has gone. inl (apart_left old.append block gone);
  }

  either_left : (s t : Bool) → (s && t) ≡ false → (s ≡ false) ⊎ (t ≡ false)
  either_left true t is = inr is
  either_left false t is = inl refl

  -- in one after which there is more to do those left besides to which one appends now
  pub leaves_both : (mid now : List ℕ) → mid ≡ apart_from old.append was → now ≡ apart_from new.append mid → LeavesChoice old new was now
  leaves_both mid now first second = record {
    stays = λ b. stays_apart old.append b && stays_apart new.append b;
    left = second ∙ (apart_is new.append mid ∙ (ap (filter (stays_apart new.append)) (first ∙ apart_is old.append was)
        ∙ filter_both (stays_apart old.append) (stays_apart new.append) was));
    may = λ block has gone. elim (either_left (stays_apart old.append block) (stays_apart new.append block) gone) [
      | inl before ↦ inl (apart_left old.append block before)
      | inr after ↦ inr (inl (apart_left new.append block after))
    ];
  }

  -- in the last one all left: in the others nothing was live
  pub leaves_all : (mid now : List ℕ) → mid ≡ apart_from old.append was → now ≡ []
      → ((block : ℕ) → Contains mid block → HasNothingLive new block) → LeavesChoice old new was now
  leaves_all mid now first none unused = record {
    stays = λ b. false;
    left = none ∙ sym (filter_none was);
    may = λ block has gone. by_test block has (stays_apart old.append block) refl;
  } where
    by_test : (block : ℕ) → Contains was block → (t : Bool) → stays_apart old.append block ≡ t → MayLeaveChoice old new block
    by_test block has true is =
        let there : Contains (apart_from old.append was) block =
        subst (λ (l : List ℕ). Contains l block) (sym (apart_is old.append was)) (has_filter (stays_apart old.append) was block has is) in
        inr (inr (unused block (subst (λ (l : List ℕ). Contains l block) (sym first) there)))
    by_test block has false is = inl (apart_left old.append block is)

-- apart from any big-blocks nothing is left of nothing
pub apart_nothing : (blocks : List ℕ) → apart_from blocks [] ≡ []
apart_nothing [] = refl
apart_nothing (block ∷ blocks) = apart_nothing blocks
