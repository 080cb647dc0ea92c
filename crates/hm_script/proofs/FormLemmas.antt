-- Which words are forms of commands.
use Rattle.std.proofs.Common.{◌≡◌, ℕ, ◌+◌, ◌≤◌, List, [], ◌∷◌, codes, length, refl, arith}
use Rattle.std.proofs.lemmas.Grind.{common_steps}
use Rattle.hm_model.specs.declared.command.Command.{Command}
use Rattle.hm_model.specs.declared.command.Command.TheVariants.{Mkdir, Touch, Snapshot, Rm, Rmdir, Ls, Stat, Readlink, Prune, PruneAll, PfsStatus}
use Rattle.hm_model.specs.declared.command.Command.TheVariants.{PfsUpgrade, MirrorRead, MirrorWrite}
use Rattle.std.proofs.lemmas.Fmt.{decimal_digit}
use Rattle.hm_model.specs.Words.{IsLaneWord}
use Rattle.hm_model.specs.Forms.{IsForm}
use Rattle.hm_script.specs.declared.path_form.PathForm.TheVariants as one
use Rattle.hm_script.specs.PathForms.{IsNoName}
use Rattle.hm_script.specs.Commands.{IsNoCommand}
use Rattle.hm_script.specs.Values.{IsNoIdWord}

-- no form is without a word
pub no_form-none : (command : Command) → IsForm [] command → ⊥
no_form-none = λ command is. grind (arith, common_steps)

-- no form has six words or more
no_form-many : (a b c d e f : List ℕ) (ws : List (List ℕ)) (command : Command) → IsForm (a ∷ b ∷ c ∷ d ∷ e ∷ f ∷ ws) command → ⊥
no_form-many = λ a b c d e f ws command is. grind (arith, common_steps)

-- `mirror-read` takes an id
pub no_mirror_read : (path word : List ℕ) → IsNoIdWord word → IsNoCommand (codes "mirror-read" ∷ path ∷ word ∷ [])
no_mirror_read path word none (MirrorRead p begin) is =
    let same : word ≡ is.form.0 = let e = is.form.1 in cc in
    none begin.0 (rw same is.form.2)
no_mirror_read path word none other is = grind (arith, common_steps, is.form)

-- `reblock` and the forms of one path are all that have two words
pub no_command-two : (name value : List ℕ) → (name ≡ codes "reblock" → ⊥) → IsNoName name → IsNoCommand (name ∷ value ∷ [])
no_command-two name value unlike none (Mkdir path) is = none one.Mkdir (let e = is.form in cc)
no_command-two name value unlike none (Touch path) is = none one.Touch (let e = is.form in cc)
no_command-two name value unlike none (Snapshot path) is = none one.Snapshot (let e = is.form in cc)
no_command-two name value unlike none (Rm path) is = none one.Rm (let e = is.form in cc)
no_command-two name value unlike none (Rmdir path) is = none one.Rmdir (let e = is.form in cc)
no_command-two name value unlike none (Ls path) is = none one.Ls (let e = is.form in cc)
no_command-two name value unlike none (Stat path) is = none one.Stat (let e = is.form in cc)
no_command-two name value unlike none (Readlink path) is = none one.Readlink (let e = is.form in cc)
no_command-two name value unlike none (Prune path) is = none one.Prune (let e = is.form in cc)
no_command-two name value unlike none (PruneAll path) is = none one.PruneAll (let e = is.form in cc)
no_command-two name value unlike none (PfsStatus path) is = none one.PfsStatus (let e = is.form in cc)
no_command-two name value unlike none (PfsUpgrade path) is = none one.PfsUpgrade (let e = is.form in cc)
no_command-two name value unlike none (MirrorWrite path) is = none one.MirrorWrite (let e = is.form in cc)
no_command-two name value unlike none other is = grind (arith, common_steps, is.form)

-- a form has five words at most
pub length_form : (words : List (List ℕ)) (command : Command) → IsForm words command → length words ≤ 5
length_form [] command is = omega arith
length_form (a ∷ []) command is = omega arith
length_form (a ∷ b ∷ []) command is = omega arith
length_form (a ∷ b ∷ c ∷ []) command is = omega arith
length_form (a ∷ b ∷ c ∷ d ∷ []) command is = omega arith
length_form (a ∷ b ∷ c ∷ d ∷ e ∷ []) command is = omega arith
length_form (a ∷ b ∷ c ∷ d ∷ e ∷ f ∷ ws) command is = absurd (no_form-many a b c d e f ws command is)

-- no form begins with a digit and a colon
no_form-digit : (lane : ℕ) (ws : List (List ℕ)) (command : Command) → lane ≤ 8 → IsForm (((48 + lane) ∷ 58 ∷ []) ∷ ws) command → ⊥
no_form-digit = λ lane ws command most is. grind (arith, common_steps)

-- no form begins with a lane
pub no_form-lane : (word : List ℕ) (lane : ℕ) (ws : List (List ℕ)) (command : Command) → IsLaneWord word lane → IsForm (word ∷ ws) command → ⊥
no_form-lane word lane ws command is form =
    let digit : word ≡ (48 + lane) ∷ 58 ∷ [] = rw (is.written, decimal_digit lane (omega (arith, is.most))) refl in
    no_form-digit lane ws command is.most (rw digit at form)
