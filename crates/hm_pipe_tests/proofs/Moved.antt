-- What several calls move from a source to a sink.
use Rattle.std.proofs.Common.{ℕ, List, ◌++◌, Option, Some, None, ap, sym, ◌∙◌, append_assoc}
use Rattle.std.specs.Prelude.{option_map}
use Rattle.hm_pipe.specs.Pipe.{Gives, Gains}

-- some bytes left a source and came to a sink, in order
pub record Moved (left_before left_after held_before held_after : Option (List ℕ)) : Type 0 where
  pub bytes : List ℕ
  pub gives : Gives left_before bytes left_after
  pub gains : Gains held_before bytes held_after

gives_more : (left next last : Option (List ℕ)) (xs ys : List ℕ)
    → Gives left xs next → Gives next ys last → Gives left (xs ++ ys) last
gives_more left next None xs ys p q = p ∙ ap (option_map (λ rest. xs ++ rest)) q
gives_more left next (Some rest) xs ys p q =
    p ∙ ap (option_map (λ rest. xs ++ rest)) q ∙ ap Some (sym (append_assoc xs ys rest))

gains_more : (held more most : Option (List ℕ)) (xs ys : List ℕ)
    → Gains held xs more → Gains more ys most → Gains held (xs ++ ys) most
gains_more None more most xs ys p q = q ∙ ap (option_map (λ front. front ++ ys)) p
gains_more (Some front) more most xs ys p q =
    q ∙ ap (option_map (λ front. front ++ ys)) p ∙ ap Some (append_assoc front xs ys)

-- one more piece
pub moved_more : (left next last held more most : Option (List ℕ)) (bytes : List ℕ)
    → Moved left next held more → Gives next bytes last → Gains more bytes most → Moved left last held most
moved_more left next last held more most bytes m gives gains = record {
  bytes = m.bytes ++ bytes;
  gives = gives_more left next last m.bytes bytes m.gives gives;
  gains = gains_more held more most m.bytes bytes m.gains gains;
}
