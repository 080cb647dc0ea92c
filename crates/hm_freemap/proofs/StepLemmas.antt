-- One zone after the other begins a big-block.
use Rattle.std.proofs.Common.{◌≡◌, ◌≢◌, Bool, true, false, true≢false, ℕ, ◌+◌, ◌^◌, ◌<◌, ◌≤◌, inl, inr, ◌⊎◌, ⊎_elim, List, length, slice_index}
use Rattle.std.proofs.Common.{slice_set, refl, sym, ap, subst, ◌∙◌, arith, cond, Option, Some, None}
use Rattle.std.proofs.lemmas.Bool.{cases_eq}
use Rattle.std.proofs.lemmas.List.{get_or-set_same, get_or-set_other, length-set}
use Rattle.std.proofs.lemmas.List.Sums.{count_by_more_yes, count_by_more_no, sum_by-take-le}
use Rattle.hm_types.specs.Offset.{zone_of}
use Rattle.hm_types.specs.Told.{BothTell}
use Rattle.hm_types.specs.declared.zone.TheConstants.{TREE_ZONE}
use Rattle.hm_fields.specs.Pages.{PageMap}
use Rattle.hm_freemap.specs.Admit.{entry_begun, free_before}
use Rattle.hm_freemap.specs.Renew.{Begins, Renewing, count_first, lacking_count, lacks_at, maps_of_states}
use Rattle.hm_freemap.specs.Stand.{EntryPut, is_free_by, is_whole_block, room_in}
use Rattle.hm_freemap.specs.declared.entry.Entry.{Entry}
use Rattle.hm_freemap.proofs.CountLemmas.{bit}
use Rattle.hm_freemap.proofs.MapsLemmas.{clear_block, clear_is_free, is_clear_at}
use Rattle.hm_freemap.proofs.PlaceLemmas.{page_zone}
use Rattle.hm_freemap.proofs.RenewLemmas.{set_none, begun_distinct, begun_pool, begun_stands, no_more, one_less, room_begun, room_other}

pub first_few : (lack : List Bool) (k : ℕ) → count_first lack k ≤ lacking_count lack
first_few lack k = sum_by-take-le (λ lacks. cond lacks 1 0) lack k

pub first_more : (lack : List Bool) (k : ℕ) → k < length lack → count_first lack (k + 1) ≡ count_first lack k + bit (lacks_at lack k)
first_more lack k low = by_test (lacks_at lack k) refl where
  by_test : (b : Bool) → lacks_at lack k ≡ b → count_first lack (k + 1) ≡ count_first lack k + bit b
  by_test true is = count_by_more_yes (λ lacks. lacks) lack k false low is
  by_test false is = let same = count_by_more_no (λ lacks. lacks) lack k false low is in omega (arith, same)

-- nothing has begun yet
pub renewing_none : (lack : List Bool) (fresh append : List ℕ) (map : PageMap) → length append ≡ 4 → Renewing lack fresh 0 0 append append map map
renewing_none lack fresh append map four = record {
  four = four;
  pages = λ at other. refl;
  entries = λ block apart. (refl, refl);
  elsewhere = λ at apart. refl;
  each = λ bigblocks c f facts. record {
    stand = λ states stand. stand;
    pool = λ pool. pool;
    distinct = λ distinct. distinct;
    no_more = omega arith;
    paid = omega arith;
    left = λ i low high. (clear_block append (maps_of_states c f map) (slice_index fresh i) (facts.each i high).free).apart;
    kept = λ i low high. refl;
    begun = λ j few early. absurd (omega arith);
    others = λ j few later. refl;
    done = λ j few early. absurd (omega arith);
    undone = λ j few later. refl;
  };
}

module _ (lack : List Bool) (fresh : List ℕ) (k : ℕ) (append0 append' : List ℕ) (old mid : PageMap) (low : k < 4) (four : length lack ≡ 4)
    (renewing : Renewing lack fresh k (count_first lack k) append0 append' old mid) where
  -- what is not reached before a step is not reached after it
  sooner : (j : ℕ) → (k + 1 ≤ j) ⊎ (lacks_at lack j ≡ false) → (k ≤ j) ⊎ (lacks_at lack j ≡ false)
  sooner j which = ⊎_elim (λ (later : k + 1 ≤ j). inl (omega (arith, later))) (λ none. inr none) which

  -- a zone that has room
  step_none : lacks_at lack k ≡ false → Renewing lack fresh (k + 1) (count_first lack (k + 1)) append0 append' old mid
  step_none has =
      let same : count_first lack (k + 1) ≡ count_first lack k = first_more lack k (omega (arith, four))
      ∙ (let zero : bit (lacks_at lack k) ≡ 0 = ap bit has in omega (arith, zero)) in
      let passed : (j : ℕ) → j < k + 1 → lacks_at lack j ≡ true → j < k = λ j early lacks. ⊎_elim
      (λ (here : j ≡ k). absurd (true≢false (sym lacks ∙ (ap (lacks_at lack) here ∙ has))))
      (λ other. omega (arith, early, other))
      (cases_eq j k) in
      record {
        four = renewing.four;
        pages = renewing.pages;
        entries = λ block apart. renewing.entries block (λ j few early lacks. apart j few (omega arith) lacks);
        elsewhere = λ at apart. renewing.elsewhere at (λ j few early lacks. apart j few (omega arith) lacks);
        each = λ bigblocks c f facts.
            let r = renewing.each bigblocks c f facts in
            record {
              stand = r.stand;
              pool = r.pool;
              distinct = r.distinct;
              no_more = r.no_more;
              paid = omega (arith, r.paid, same);
              left = λ i later high. r.left i (omega (arith, same, later)) high;
              kept = λ i later high. r.kept i (omega (arith, same, later)) high;
              begun = λ j few early lacks. r.begun j few (passed j early lacks) lacks;
              others = λ j few which. r.others j few (sooner j which);
              done = λ j few early lacks. r.done j few (passed j early lacks) lacks;
              undone = λ j few which. r.undone j few (sooner j which);
            };
      }

  -- a zone that has too little
  step_some : lacks_at lack k ≡ true → slice_index fresh (count_first lack k) < 2 ^ 32 → (now : PageMap)
      → EntryPut (slice_index fresh (count_first lack k)) (entry_begun (TREE_ZONE + k)) mid now
      → Renewing lack fresh (k + 1) (count_first lack (k + 1)) append0 (slice_set append' k (slice_index fresh (count_first lack k))) old now
  step_some lacks small now put =
      let next = count_first lack k in
      let block = slice_index fresh next in
      let one : count_first lack (k + 1) ≡ next + 1 = first_more lack k (omega (arith, four))
      ∙ (let bits : bit (lacks_at lack k) ≡ 1 = ap bit lacks in omega (arith, bits)) in
      let inside : next < lacking_count lack = omega (arith, one, first_few lack (k + 1)) in
      record {
        four = length-set append' k block ∙ renewing.four;
        pages = λ at other. put.pages at (λ same. other (ap zone_of same ∙ page_zone block small)) ∙ renewing.pages at other;
        entries = λ other apart.
            let here : other ≢ block = λ same. apart k low (omega arith) lacks (sym same) in
            let before = renewing.entries other (λ j few early needs. apart j few (omega (arith, early)) needs) in
            (put.others other here ∙ before.0, put.bytes other here ∙ before.1);
        elsewhere = λ at apart.
            put.pages at (λ same. apart k low (omega arith) lacks (sym same))
            ∙ renewing.elsewhere at (λ j few early needs. apart j few (omega (arith, early)) needs);
        each = λ bigblocks c f facts.
            let r = renewing.each bigblocks c f facts in
            let maps = maps_of_states c f mid in
            let four = renewing.four in
            let fact = facts.each next inside in
            let was = clear_block append0 (maps_of_states c f old) block fact.free in
            let clear : is_clear_at mid block ≡ true =
            ap (λ (e : Entry). is_whole_block e.bytes_free) (r.kept next (omega arith) inside) ∙ was.current in
            let free : is_free_by append' maps block ≡ true =
            clear_is_free append' maps block (r.left next (omega arith) inside) was.committed was.frozen clear in
            let pool = fact.pool in
            let apart : (i : ℕ) → next < i → i < lacking_count lack → block ≢ slice_index fresh i = λ i later high same.
            absurd (omega (
              arith,
              later,
              fact.lower,
              (facts.each i high).lower,
              ap (free_before bigblocks (is_free_by append0 (maps_of_states c f old))) same,
            )) in
            let after : (j : ℕ) → (k + 1 ≤ j) ⊎ (lacks_at lack j ≡ false) → j ≢ k = λ j which here.
            ⊎_elim (λ (later : k + 1 ≤ j). absurd (omega (arith, later, here)))
            (λ none. absurd (true≢false (sym (ap (lacks_at lack) here ∙ lacks) ∙ none))) which in
            let more = no_more bigblocks append' maps four k low block pool free now put in
            let less = one_less bigblocks append' maps four k low block pool free now put in
            record {
              stand = λ states stand. begun_stands bigblocks append' maps four k low block pool free now put states (r.stand states stand);
              pool = λ before. begun_pool bigblocks append' maps four k low block pool free now put (r.pool before);
              distinct = λ before. begun_distinct bigblocks append' maps four k low block pool free now put (r.distinct before);
              no_more = omega (arith, more, r.no_more);
              paid = omega (arith, less, r.paid, one);
              left = λ i later high.
                  let after_next : next < i = omega (arith, later, one) in
                  set_none append' k block (slice_index fresh i) (r.left i (omega arith) high) (apart i after_next high);
              kept = λ i later high.
                  let after_next : next < i = omega (arith, later, one) in
                  put.others (slice_index fresh i) (λ same. apart i after_next high (sym same)) ∙ r.kept i (omega arith) high;
              begun = λ j few early needs. ⊎_elim
                  (λ (here : j ≡ k). ap (slice_index (slice_set append' k block)) here
                  ∙ get_or-set_same append' k block 0 (omega (arith, low, four))
                  ∙ ap (λ (x : ℕ). slice_index fresh (count_first lack x)) (sym here))
                  (λ other. get_or-set_other append' k j block 0 other ∙ r.begun j few (omega (arith, early, other)) needs)
                  (cases_eq j k);
              others = λ j few which. get_or-set_other append' k j block 0 (after j which) ∙ r.others j few (sooner j which);
              done = λ j few early needs. ⊎_elim
                  (λ (here : j ≡ k). ap (λ (x : ℕ). room_in (slice_set append' k block) now (TREE_ZONE + x)) here
                  ∙ room_begun bigblocks append' maps four k low block pool free now put)
                  (λ other. room_other bigblocks append' maps four k low block pool free now put j few other
                  ∙ r.done j few (omega (arith, early, other)) needs)
                  (cases_eq j k);
              undone = λ j few which.
                  room_other bigblocks append' maps four k low block pool free now put j few (after j which)
                  ∙ r.undone j few (sooner j which);
            };
      }

-- a step of the loop over the four, where pages are told
pub told_step : (lack : List Bool) (fresh : List ℕ) (k next : ℕ) (append0 append' append'' : List ℕ) (lacks : Bool) (block : ℕ) (old mid now : Option PageMap)
    → k < 4 → length lack ≡ 4 → next ≡ count_first lack k → lacks ≡ lacks_at lack k → block ≡ slice_index fresh next → block < 2 ^ 32
    → BothTell old mid (Renewing lack fresh k next append0 append')
    → BothTell mid now (Begins lacks k block append' append'')
    → BothTell old now (Renewing lack fresh (k + 1) (next + bit lacks) append0 append'')
told_step lack fresh k next append0 append' append'' lacks block None None None low four at is one small before after = tt
told_step lack fresh k next append0 append' append'' lacks block None None (Some z) low four at is one small before after = after
told_step lack fresh k next append0 append' append'' lacks block None (Some y) z low four at is one small before after = absurd before
told_step lack fresh k next append0 append' append'' lacks block (Some x) None z low four at is one small before after = absurd before
told_step lack fresh k next append0 append' append'' lacks block (Some x) (Some y) None low four at is one small before after = after
told_step lack fresh k next append0 append' append'' lacks block (Some x) (Some y) (Some z) low four at is one small before after =
    by_test lacks is after where
      counted : (b : Bool) → b ≡ lacks_at lack k → count_first lack (k + 1) ≡ next + bit b
      counted b same = first_more lack k (omega (arith, four)) ∙ (let bits : bit b ≡ bit (lacks_at lack k) = ap bit same in omega (arith, bits, at))

      was : Renewing lack fresh k (count_first lack k) append0 append' x y
      was = subst (λ (n : ℕ). Renewing lack fresh k n append0 append' x y) at before

      place : block ≡ slice_index fresh (count_first lack k)
      place = one ∙ ap (slice_index fresh) at

      by_test : (b : Bool) → b ≡ lacks_at lack k → Begins b k block append' append'' y z → Renewing lack fresh (k + 1) (next + bit b) append0 append'' x z
      by_test false same begins =
          subst (λ (n : ℕ). Renewing lack fresh (k + 1) n append0 append'' x z) (counted false same)
          (rw (begins.0, begins.1) (step_none lack fresh k append0 append' x y low four was (sym same)))
      by_test true same begins =
          let put : EntryPut (slice_index fresh (count_first lack k)) (entry_begun (TREE_ZONE + k)) y z =
          subst (λ (b : ℕ). EntryPut b (entry_begun (TREE_ZONE + k)) y z) place begins.1 in
          let done = step_some lack fresh k append0 append' x y low four was (sym same) (subst (λ (b : ℕ). b < 2 ^ 32) place small) z put in
          subst (λ (n : ℕ). Renewing lack fresh (k + 1) n append0 append'' x z) (counted true same)
          (subst (λ (l : List ℕ). Renewing lack fresh (k + 1) (count_first lack (k + 1)) append0 l x z) (sym (begins.0 ∙ ap (slice_set append' k) place)) done)

pub told_none : (lack : List Bool) (fresh append : List ℕ) (told : Option PageMap) → length append ≡ 4
    → BothTell told told (Renewing lack fresh 0 0 append append)
told_none lack fresh append None four = tt
told_none lack fresh append (Some map) four = renewing_none lack fresh append map four
