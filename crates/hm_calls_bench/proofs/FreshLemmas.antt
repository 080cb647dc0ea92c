-- What the first elements of a volume need of a store, and leave there.
use Rattle.std.proofs.Common.{◌≡◌, ℕ, ◌+◌, List, Option, Some, None, true, false, sym, subst, true≢false, arith}
use Rattle.std.specs.Prelude.{is_some, IfSome, IsSomeAnd}
use Rattle.hm_key.specs.Balance.{IsBalanced, content_of}
use Rattle.hm_key.specs.Counts.{Subject}
use Rattle.hm_key.specs.Extents.{Extent}
use Rattle.hm_key.specs.declared.element.Element.{Element}
use Rattle.hm_records.proofs.ChangeLemmas.{below_later}
use Rattle.hm_cursor.specs.Told.{fulls}
use Rattle.hm_cursor.specs.Write.{IsFresh, Rewrites}
use Rattle.hm_cursor.proofs.ViewsLemmas.{below_still}
use Rattle.hm_calls_tests.specs.Tests.{IsMade, IsReady}
use Rattle.hm_calls_tests.proofs.TestLemmas.{older_below}

-- a store that tells the same
pub made_same : {es es' : Option (List Element)} {xs xs' : Option (List Extent)} {i : ℕ} → es' ≡ es → xs' ≡ xs → IsMade es xs i → IsMade es' xs' i
made_same {es} {es'} {xs} {xs'} {i} elements extents made =
    subst (λ (o : Option (List Extent)). IsMade es' o i) (sym extents) (subst (λ (o : Option (List Element)). IsMade o xs i) (sym elements) made)

-- where all ids are below one, the versions of each subject are older
pub made_fresh : (es : Option (List Element)) (xs : Option (List Extent)) (s : Subject) (i : ℕ) → IsMade es xs i → IsFresh es xs s i
made_fresh None xs s i made = tt
made_fresh (Some es) None s i made = tt
made_fresh (Some es) (Some xs) s i made = record {
  made = λ x has about. made.below.made x has;
  closed = λ x has about. let gone = made.below.closed x has in omega (arith, gone);
}

-- and the store may be asked calls from that one on
pub made_ready : (es : Option (List Element)) (xs : Option (List Extent)) (i : ℕ) → IsMade es xs i → IsReady es xs i
made_ready None xs i made = record { balanced = tt; known = tt }
made_ready (Some es) None i made = record { balanced = tt; known = tt }
made_ready (Some es) (Some xs) i made = record { balanced = made.balanced; known = older_below i (fulls (es, xs)) made.below }

-- a version that was added by an id leaves all ids below the next one
pub made_written : (s : Subject) (bytes : Option (List ℕ)) (i : ℕ) (es es' : Option (List Element)) (xs xs' : Option (List Extent))
    → is_some es' ≡ is_some es → is_some xs' ≡ is_some xs → IsMade es xs i
    → IfSome (content_of es xs) (λ was. IsBalanced was.0 was.1
    → IsSomeAnd (content_of es' xs') (λ now. IsBalanced now.0 now.1 × Rewrites s bytes i (fulls was) (fulls now)))
    → IsMade es' xs' (i + 1)
made_written s bytes i es None xs xs' elements extents made does = record { balanced = tt; below = tt }
made_written s bytes i None (Some _) xs xs' elements extents made does = absurd (true≢false elements)
made_written s bytes i (Some _) (Some _) xs None elements extents made does = record { balanced = tt; below = tt }
made_written s bytes i (Some _) (Some _) None (Some _) elements extents made does = absurd (true≢false extents)
made_written s bytes i (Some es) (Some _) (Some xs) (Some _) elements extents made does =
    let wrote = does made.balanced in
    record {
      balanced = wrote.0;
      below = below_still wrote.1.up_to (below_later (fulls (es, xs)) i (i + 1) (omega arith) made.below);
    }
