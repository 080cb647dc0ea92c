-- Parts of a slot that are in range, and the first that is not.
use Rattle.std.proofs.Common.{◌≡◌, inl, inr, ℕ, zero, suc, ◌<◌, List, [], ◌∷◌, ◌++◌, take, drop, slice_index, refl, sym, ap, subst, ◌∙◌, lit<, arith}
use Rattle.hm_fields.specs.Fields.{get}
use Rattle.hm_header.specs.declared.fault.HeaderFault.{HeaderFault}
use Rattle.hm_header.specs.declared.fault.HeaderFault.TheVariants.{NotVolume, BadField}
use Rattle.hm_header.specs.declared.header.Header.{Header}
use Rattle.hm_header.specs.Layout.{zeros, body_of, header_in}
use Rattle.hm_header.specs.Parts.{AreInRange, IsBadField, IsFirstBad, IsPartInRange, Part, all_parts, append_parts, size_parts, state_parts, undo_parts}
use Rattle.hm_header.specs.Range.{HasRoom, IsAppendAt, IsHeader}
use Rattle.hm_header.specs.Parts.Part.{Rest}
use Rattle.hm_header.proofs.LayoutLemmas.{begins, gap_back, get_fits, header_back, rest_back}

-- parts of which the first ones are in range
both_in : (slot : List ℕ) (size : ℕ) (before after : List Part) → AreInRange slot size before
    → AreInRange slot size after → AreInRange slot size (before ++ after)
both_in slot size [] after p q = q
both_in slot size (part ∷ before) after p q = (p.0, both_in slot size before after p.1 q)

-- a part that is bad first is so with more parts after it
bad_before : (slot : List ℕ) (size : ℕ) (before after : List Part) (fault : HeaderFault)
    → IsBadField slot size before fault → IsBadField slot size (before ++ after) fault
bad_before slot size before after NotVolume bad = bad
bad_before slot size [] after (BadField place) bad = absurd bad
bad_before slot size (part ∷ before) after (BadField place) (inl here) = inl here
bad_before slot size (part ∷ before) after (BadField place) (inr later) =
    inr (later.0, bad_before slot size before after (BadField place) later.1)

-- and with more parts before it that are in range
bad_after : (slot : List ℕ) (size : ℕ) (before after : List Part) (fault : HeaderFault)
    → AreInRange slot size before → IsBadField slot size after fault → IsBadField slot size (before ++ after) fault
bad_after slot size before after NotVolume good bad = bad
bad_after slot size [] after (BadField place) good bad = bad
bad_after slot size (part ∷ before) after (BadField place) good bad =
    inr (good.0, bad_after slot size before after (BadField place) good.1 bad)

-- a slot that has parts in range has none that is bad
pub none_bad : (slot : List ℕ) (size : ℕ) (parts : List Part) (place : ℕ) → AreInRange slot size parts
    → IsFirstBad slot size parts place → ⊥
none_bad slot size [] place good bad = bad
none_bad slot size (part ∷ parts) place good (inl here) = here.1 good.0
none_bad slot size (part ∷ parts) place good (inr later) = none_bad slot size parts place good.1 later.1

-- one place is bad first
pub bad_is_one : (slot : List ℕ) (size : ℕ) (parts : List Part) (p q : ℕ) → IsFirstBad slot size parts p
    → IsFirstBad slot size parts q → p ≡ q
bad_is_one slot size [] p q bad other = absurd bad
bad_is_one slot size (part ∷ parts) p q (inl here) (inl here') = here.0 ∙ sym here'.0
bad_is_one slot size (part ∷ parts) p q (inl here) (inr later) = absurd (here.1 later.0)
bad_is_one slot size (part ∷ parts) p q (inr later) (inl here) = absurd (here.1 later.0)
bad_is_one slot size (part ∷ parts) p q (inr later) (inr later') = bad_is_one slot size parts p q later.1 later'.1

-- the first bad part of a slot, where those of the parts before are in range
pub bad_size : (slot : List ℕ) (size : ℕ) (fault : HeaderFault) → IsBadField slot size size_parts fault
    → IsBadField slot size all_parts fault
bad_size slot size fault bad =
    bad_before slot size size_parts (state_parts ++ undo_parts ++ append_parts ++ Rest ∷ []) fault bad

pub bad_state : (slot : List ℕ) (size : ℕ) (fault : HeaderFault) → AreInRange slot size size_parts
    → IsBadField slot size state_parts fault → IsBadField slot size all_parts fault
bad_state slot size fault sizes bad =
    bad_before slot size (size_parts ++ state_parts) (undo_parts ++ append_parts ++ Rest ∷ []) fault
    (bad_after slot size size_parts state_parts fault sizes bad)

pub bad_undo : (slot : List ℕ) (size : ℕ) (fault : HeaderFault) → AreInRange slot size size_parts
    → AreInRange slot size state_parts → IsBadField slot size undo_parts fault → IsBadField slot size all_parts
    fault
bad_undo slot size fault sizes state bad =
    let good = both_in slot size size_parts state_parts sizes state in
    bad_before slot size (size_parts ++ state_parts ++ undo_parts) (append_parts ++ Rest ∷ []) fault
    (bad_after slot size (size_parts ++ state_parts) undo_parts fault good bad)

pub bad_append : (slot : List ℕ) (size : ℕ) (fault : HeaderFault) → AreInRange slot size size_parts
    → AreInRange slot size state_parts → AreInRange slot size undo_parts
    → IsBadField slot size append_parts fault → IsBadField slot size all_parts fault
bad_append slot size fault sizes state undo bad =
    let good = both_in slot size size_parts state_parts sizes state in
    let more = both_in slot size (size_parts ++ state_parts) undo_parts good undo in
    bad_before slot size (size_parts ++ state_parts ++ undo_parts ++ append_parts) (Rest ∷ []) fault
    (bad_after slot size (size_parts ++ state_parts ++ undo_parts) append_parts fault more bad)

pub bad_rest : (slot : List ℕ) (size : ℕ) (fault : HeaderFault) → AreInRange slot size size_parts
    → AreInRange slot size state_parts → AreInRange slot size undo_parts → AreInRange slot size append_parts
    → ¬ IsPartInRange slot size Rest → fault ≡ BadField 72 → IsBadField slot size all_parts fault
bad_rest slot size fault sizes state undo append bad is =
    let good = both_in slot size size_parts state_parts sizes state in
    let more = both_in slot size (size_parts ++ state_parts) undo_parts good undo in
    let most = both_in slot size (size_parts ++ state_parts ++ undo_parts) append_parts more append in
    rw is
    (bad_after slot size (size_parts ++ state_parts ++ undo_parts ++ append_parts) (Rest ∷ []) (BadField 72)
    most (inl (refl, bad)))

pub all_in : (slot : List ℕ) (size : ℕ) → AreInRange slot size size_parts → AreInRange slot size state_parts
    → AreInRange slot size undo_parts → AreInRange slot size append_parts → IsPartInRange slot size Rest
    → AreInRange slot size all_parts
all_in slot size sizes state undo append rest =
    let good = both_in slot size size_parts state_parts sizes state in
    let more = both_in slot size (size_parts ++ state_parts) undo_parts good undo in
    let most = both_in slot size (size_parts ++ state_parts ++ undo_parts) append_parts more append in
    both_in slot size (size_parts ++ state_parts ++ undo_parts ++ append_parts) (Rest ∷ []) most (rest, tt)

-- what the parts of a slot are, one after the other
pub ruleset parts = (bad_size, bad_state, bad_undo, bad_append, bad_rest, all_in)

-- four facts, one for each append big-block
each_append : (P : ℕ → Type 0) → P 0 → P 1 → P 2 → P 3 → (k : ℕ) → k < 4 → P k
each_append P a b c d zero small = a
each_append P a b c d (suc zero) small = b
each_append P a b c d (suc (suc zero)) small = c
each_append P a b c d (suc (suc (suc zero))) small = d
each_append P a b c d (suc (suc (suc (suc k)))) small = absurd (omega (arith, small))

-- the header that is read from a slot whose parts are in range
pub header_in_range : (slot : List ℕ) (size : ℕ) → ((k : ℕ) → slice_index slot k < 256)
    → AreInRange slot size all_parts → IsHeader (header_in slot)
header_in_range slot size small good =
    let header = header_in slot in
    record {
      version = good.0;
      bigblocks = good.1.0.0;
      generation = get_fits slot 16 8 small;
      last = good.1.1.0;
      root = good.1.1.1.0;
      undo_first = good.1.1.1.1.0;
      undo_count = good.1.1.1.1.1.0;
      undo_next = good.1.1.1.1.1.1.0;
      four = refl;
      append = each_append (IsAppendAt header) good.1.1.1.1.1.1.1.1.0 good.1.1.1.1.1.1.1.1.1.0
          good.1.1.1.1.1.1.1.1.1.1.0 good.1.1.1.1.1.1.1.1.1.1.1.0;
    }

-- a slot with the body of a header in range has all parts in range
pub spelled_in_range : (slot : List ℕ) (size : ℕ) (header : Header) → take 16383 slot ≡ body_of header
    → IsHeader header → HasRoom size header.bigblocks → AreInRange slot size all_parts
spelled_in_range slot size header spelled is room =
    let here = begins slot header spelled in
    let more = drop 16383 slot in
    let read : header_in slot ≡ header = ap header_in here ∙ header_back header (zeros 16311 ++ more) is in
    let gap : get slot 52 4 ≡ 0 = ap (λ (xs : List ℕ). get xs 52 4) here ∙ gap_back header (zeros 16311 ++ more) in
    let rest : take 16311 (drop 72 slot) ≡ zeros 16311 =
    ap (λ (xs : List ℕ). take 16311 (drop 72 xs)) here ∙ rest_back header more in
    let h : IsHeader (header_in slot) = subst IsHeader (sym read) is in
    let P : Header → Type 0 = λ h. HasRoom size h.bigblocks in
    let r : HasRoom size (header_in slot).bigblocks = subst P (sym read) room in (
      h.version,
      (
        (h.bigblocks, r),
        (
          h.last,
          (
            h.root,
            (
              h.undo_first,
              (
                h.undo_count,
                (
                  h.undo_next,
                  (
                    gap,
                    (
                      h.append 0 (lit< tt),
                      (
                        h.append 1 (lit< tt),
                        (
                          h.append 2 (lit< tt),
                          (
                            h.append 3 (lit< tt),
                            (rest, tt),
                          ),
                        ),
                      ),
                    ),
                  ),
                ),
              ),
            ),
          ),
        ),
      ),
    )
