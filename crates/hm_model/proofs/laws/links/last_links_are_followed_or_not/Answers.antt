use Rattle.std.proofs.Common.{◌≡◌, [], ◌∷◌, ◌++◌, refl, ◌∙◌, ap}
use Rattle.hm_model.specs.View.{Position, When}
use Rattle.hm_model.specs.Walk.{Follows, Reaches, Refuses, Stays, TakesPfs, Walked, and_then, enter, take_pfs}
use Rattle.hm_model.proofs.LinkLemmas.{ends-link}
use Rattle.hm_model.proofs.laws.links.last_links_are_followed_or_not.Goals as goal

-- a walk that goes nowhere further is what it was
whole : (walked : Walked) → and_then walked (λ there more. Reaches there more) ≡ walked
whole (Reaches here passed) = refl
whole (Refuses reply passed) = refl

pub returns-clause-stays : goal.returns-clause-stays
returns-clause-stays c volume view here link name pfs passed names = ends-link volume view Stays here link name pfs passed names

pub returns-clause-follows : goal.returns-clause-follows
returns-clause-follows c volume view here link name pfs passed names =
    ends-link volume view Follows here link name pfs passed names
    ∙ (whole (enter volume view pfs link.when (passed ++ (link.pfs, link.object.0) ∷ []))
    ∙ ap (λ (w : When). enter volume view pfs w (passed ++ (link.pfs, link.object.0) ∷ [])) (ap (λ (p : Position). p.when) names.beside))

pub returns-clause-takes : goal.returns-clause-takes
returns-clause-takes c volume view here link name pfs passed names =
    ends-link volume view TakesPfs here link name pfs passed names
    ∙ (whole (take_pfs volume pfs link.when (passed ++ (link.pfs, link.object.0) ∷ []))
    ∙ ap (λ (w : When). take_pfs volume pfs w (passed ++ (link.pfs, link.object.0) ∷ [])) (ap (λ (p : Position). p.when) names.beside))
