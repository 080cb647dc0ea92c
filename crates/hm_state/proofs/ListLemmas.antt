-- Lists of references of which three states have the same.
use Rattle.std.proofs.Common.{List, [], ◌∷◌, ◌++◌}
use Rattle.std.specs.List.{All, Contains}
use Rattle.std.proofs.lemmas.List.Elements.{All-append, All-contains_itself, All-head, All-tail, All-weaker}
use Rattle.hm_types.specs.References.{DoNotOverlap, NoneOverlap, Reference}
use Rattle.hm_image.proofs.ApartLemmas.{no_two_overlap}

-- references that stand in a list do not overlap where those of the list do not
pub apart_of : (xs ys : List Reference) → NoneOverlap xs → All (Contains xs) ys → NoneOverlap ys
apart_of xs [] apart each = tt
apart_of xs (y ∷ ys) apart each =
    let here = All-head (Contains xs) y ys each in
    let rest = All-tail (Contains xs) y ys each in
    (All-weaker (Contains xs) (DoNotOverlap y) (λ s there. no_two_overlap xs y s apart here there) ys rest, apart_of xs ys apart rest)

pub all_thrice : (P : Reference → Type 0) (xs : List Reference) → All P xs → All P (xs ++ (xs ++ xs))
all_thrice P xs all = All-append P xs (xs ++ xs) all (All-append P xs xs all all)

pub apart_thrice : (xs : List Reference) → NoneOverlap xs → NoneOverlap (xs ++ (xs ++ xs))
apart_thrice xs apart = apart_of xs (xs ++ (xs ++ xs)) apart (all_thrice (Contains xs) xs (All-contains_itself xs))
