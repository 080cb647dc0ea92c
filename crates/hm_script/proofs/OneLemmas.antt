-- Words are one command's only.
use Rattle.std.proofs.Common.{◌≡◌, inl, inr, ℕ, List, [], false, Some, None, codes, length, get_or, arith, refl, sym, ◌∙◌, ap}
use Rattle.std.specs.Str.{bytes_eq}
use Rattle.std.proofs.lemmas.Bool.{false≢true}
use Rattle.std.proofs.lemmas.Slice.Eq.{bytes_eq-Decides}
use Rattle.hex.proofs.HexLemmas.{decode_of-same}
use Rattle.hm_types.specs.declared.id.Id.{Id}
use Rattle.hm_model.specs.declared.command.Command.{Command}
use Rattle.hm_model.specs.declared.command.Command.TheVariants.{Mkdir, Touch, Symlink, Snapshot, Ln, Mv, Write, Fill, Truncate, Rm, Rmdir, Ls, Cat}
use Rattle.hm_model.specs.declared.command.Command.TheVariants.{Stat, Readlink, Sync, Synctid, Prune, PruneAll, Reblock, PfsMaster, PfsSlave}
use Rattle.hm_model.specs.declared.command.Command.TheVariants.{PfsStatus, PfsUpgrade, MirrorRead, MirrorWrite, MirrorCopy, Df, Progress, End}
use Rattle.hm_model.specs.Words.{IsNumber, IsHexNumber, IsIdWord, IsHexBytes}
use Rattle.hm_model.specs.Forms.{IsForm}
use Rattle.hm_script.proofs.NumberLemmas.{number_is_one, hex_number_is_one, id_is_one}

-- the word that begins a command's forms
abbrev name : Command → List ℕ
name (Mkdir p) = codes "mkdir"
name (Touch p) = codes "touch"
name (Symlink t p) = codes "symlink"
name (Snapshot p) = codes "snapshot"
name (Ln o n) = codes "ln"
name (Mv o n) = codes "mv"
name (Write p o h) = codes "write"
name (Fill p o c b) = codes "fill"
name (Truncate p s) = codes "truncate"
name (Rm p) = codes "rm"
name (Rmdir p) = codes "rmdir"
name (Ls p) = codes "ls"
name (Cat p o c) = codes "cat"
name (Stat p) = codes "stat"
name (Readlink p) = codes "readlink"
name Sync = codes "sync"
name Synctid = codes "synctid"
name (Prune p) = codes "prune"
name (PruneAll p) = codes "prune-everything"
name (Reblock f) = codes "reblock"
name (PfsMaster p s) = codes "pfs-master"
name (PfsSlave p s) = codes "pfs-slave"
name (PfsStatus p) = codes "pfs-status"
name (PfsUpgrade p) = codes "pfs-upgrade"
name (MirrorRead p b) = codes "mirror-read"
name (MirrorWrite p) = codes "mirror-write"
name (MirrorCopy m s l) = codes "mirror-copy"
name Df = codes "df"
name Progress = codes "progress"
name (End opening) = []

-- the word at an index
abbrev word_at : ℕ → List (List ℕ) → List ℕ
word_at i words = get_or words i []

-- words of a form begin with the command's name
begins : (words : List (List ℕ)) (command : Command) → IsForm words command → word_at 0 words ≡ name command
begins words (Mkdir p) is = ap (word_at 0) is
begins words (Touch p) is = ap (word_at 0) is
begins words (Symlink t p) is = ap (word_at 0) is
begins words (Snapshot p) is = ap (word_at 0) is
begins words (Ln o n) is = ap (word_at 0) is
begins words (Mv o n) is = ap (word_at 0) is
begins words (Write p o h) is = ap (word_at 0) is.2
begins words (Fill p o c b) is = ap (word_at 0) is.3
begins words (Truncate p s) is = ap (word_at 0) is.1
begins words (Rm p) is = ap (word_at 0) is
begins words (Rmdir p) is = ap (word_at 0) is
begins words (Ls p) is = ap (word_at 0) is
begins words (Cat p o c) is = ap (word_at 0) is.2
begins words (Stat p) is = ap (word_at 0) is
begins words (Readlink p) is = ap (word_at 0) is
begins words Sync is = ap (word_at 0) is
begins words Synctid is = ap (word_at 0) is
begins words (Prune p) is = ap (word_at 0) is
begins words (PruneAll p) is = ap (word_at 0) is
begins words (Reblock f) (inl is) = ap (word_at 0) is.0
begins words (Reblock f) (inr is) = ap (word_at 0) is.1
begins words (PfsMaster p s) is = ap (word_at 0) is.1
begins words (PfsSlave p s) is = ap (word_at 0) is.1
begins words (PfsStatus p) is = ap (word_at 0) is
begins words (PfsUpgrade p) is = ap (word_at 0) is
begins words (MirrorRead p b) is = ap (word_at 0) is.1
begins words (MirrorWrite p) is = ap (word_at 0) is
begins words (MirrorCopy m s None) is = ap (word_at 0) is
begins words (MirrorCopy m s (Some l)) is = ap (word_at 0) is.1
begins words Df is = ap (word_at 0) is
begins words Progress is = ap (word_at 0) is
begins words (End opening) is = absurd is

-- two texts that test as different
differ : (a b : List ℕ) → bytes_eq a b ≡ false → a ≡ b → ⊥
differ a b test same = false≢true (sym test ∙ (bytes_eq-Decides a b).1 same)

-- the same word in both forms
same_word : (i : ℕ) {words v w : List (List ℕ)} → words ≡ v → words ≡ w → word_at i v ≡ word_at i w
same_word i p q = ap (word_at i) (sym p ∙ q)

-- a word is one number, id or run of bytes only, also where it is told twice
number_of_same : (v w : List ℕ) (a b : ℕ) → v ≡ w → IsNumber v a → IsNumber w b → a ≡ b
number_of_same v w a b same p q = number_is_one v a b p (rw same q)

hex_of_same : (size : ℕ) (v w : List ℕ) (a b : ℕ) → v ≡ w → IsHexNumber size v a → IsHexNumber size w b → a ≡ b
hex_of_same size v w a b same p q = hex_number_is_one size v a b p (rw same q)

id_of_same : (v w : List ℕ) (a b : Id) → v ≡ w → IsIdWord v a.0 → IsIdWord w b.0 → a ≡ b
id_of_same v w a b same p q =
    let make : ℕ → Id = λ n. record { 0 = n } in
    ap make (id_is_one v a.0 b.0 p (rw same q))

bytes_of_same : (v w a b : List ℕ) → v ≡ w → IsHexBytes v a → IsHexBytes w b → a ≡ b
bytes_of_same v w a b same p q = decode_of-same v a b p (rw same q)

-- words are one command's only
pub form_is_one : (words : List (List ℕ)) (a b : Command) → IsForm words a → IsForm words b → a ≡ b
form_is_one words (Mkdir x) (Mkdir y) p q = ap (λ t. Mkdir t) (same_word 1 p q)
form_is_one words (Touch x) (Touch y) p q = ap (λ t. Touch t) (same_word 1 p q)
form_is_one words (Snapshot x) (Snapshot y) p q = ap (λ t. Snapshot t) (same_word 1 p q)
form_is_one words (Rm x) (Rm y) p q = ap (λ t. Rm t) (same_word 1 p q)
form_is_one words (Rmdir x) (Rmdir y) p q = ap (λ t. Rmdir t) (same_word 1 p q)
form_is_one words (Ls x) (Ls y) p q = ap (λ t. Ls t) (same_word 1 p q)
form_is_one words (Stat x) (Stat y) p q = ap (λ t. Stat t) (same_word 1 p q)
form_is_one words (Readlink x) (Readlink y) p q = ap (λ t. Readlink t) (same_word 1 p q)
form_is_one words (Prune x) (Prune y) p q = ap (λ t. Prune t) (same_word 1 p q)
form_is_one words (PruneAll x) (PruneAll y) p q = ap (λ t. PruneAll t) (same_word 1 p q)
form_is_one words (PfsStatus x) (PfsStatus y) p q = ap (λ t. PfsStatus t) (same_word 1 p q)
form_is_one words (PfsUpgrade x) (PfsUpgrade y) p q = ap (λ t. PfsUpgrade t) (same_word 1 p q)
form_is_one words (MirrorWrite x) (MirrorWrite y) p q = ap (λ t. MirrorWrite t) (same_word 1 p q)
form_is_one words (Symlink u v) (Symlink x y) p q = cc (same_word 1 p q, same_word 2 p q)
form_is_one words (Ln u v) (Ln x y) p q = cc (same_word 1 p q, same_word 2 p q)
form_is_one words (Mv u v) (Mv x y) p q = cc (same_word 1 p q, same_word 2 p q)
form_is_one words (Write u o x) (Write v o' y) p q =
    cc (same_word 1 p.2 q.2, number_of_same p.0 q.0 o o' (same_word 2 p.2 q.2) p.3 q.3, bytes_of_same p.1 q.1 x y (same_word 3 p.2 q.2) p.4 q.4)
form_is_one words (Fill u o c b) (Fill v o' c' b') p q =
    cc (
      same_word 1 p.3 q.3,
      number_of_same p.0 q.0 o o' (same_word 2 p.3 q.3) p.4 q.4,
      number_of_same p.1 q.1 c c' (same_word 3 p.3 q.3) p.5 q.5,
      hex_of_same 2 p.2 q.2 b b' (same_word 4 p.3 q.3) p.6 q.6,
    )
form_is_one words (Truncate u s) (Truncate v t) p q =
    cc (same_word 1 p.1 q.1, number_of_same p.0 q.0 s t (same_word 2 p.1 q.1) p.2 q.2)
form_is_one words (Cat u o c) (Cat v o' c') p q =
    cc (same_word 1 p.2 q.2, number_of_same p.0 q.0 o o' (same_word 2 p.2 q.2) p.3 q.3, number_of_same p.1 q.1 c c' (same_word 3 p.2 q.2) p.4 q.4)
form_is_one words Sync Sync p q = refl
form_is_one words Synctid Synctid p q = refl
form_is_one words Df Df p q = refl
form_is_one words Progress Progress p q = refl
form_is_one words (Reblock m) (Reblock n) (inl p) (inl q) = ap (λ f. Reblock f) (p.1 ∙ sym q.1)
form_is_one words (Reblock m) (Reblock n) (inl p) (inr q) = absurd (omega (arith, ap length (sym p.0 ∙ q.1)))
form_is_one words (Reblock m) (Reblock n) (inr p) (inl q) = absurd (omega (arith, ap length (sym q.0 ∙ p.1)))
form_is_one words (Reblock m) (Reblock n) (inr p) (inr q) =
    ap (λ f. Reblock f) (number_of_same p.0 q.0 m n (same_word 1 p.1 q.1) p.2 q.2)
form_is_one words (PfsMaster u m) (PfsMaster v n) p q =
    cc (same_word 1 p.1 q.1, hex_of_same 16 p.0 q.0 m n (same_word 2 p.1 q.1) p.2 q.2)
form_is_one words (PfsSlave u m) (PfsSlave v n) p q =
    cc (same_word 1 p.1 q.1, hex_of_same 16 p.0 q.0 m n (same_word 2 p.1 q.1) p.2 q.2)
form_is_one words (MirrorRead u a) (MirrorRead v b) p q =
    cc (same_word 1 p.1 q.1, id_of_same p.0 q.0 a b (same_word 2 p.1 q.1) p.2 q.2)
form_is_one words (MirrorCopy u v None) (MirrorCopy x y None) p q = cc (same_word 1 p q, same_word 2 p q)
form_is_one words (MirrorCopy u v (Some m)) (MirrorCopy x y None) p q = absurd (omega (arith, ap length (sym q ∙ p.1)))
form_is_one words (MirrorCopy u v None) (MirrorCopy x y (Some n)) p q = absurd (omega (arith, ap length (sym p ∙ q.1)))
form_is_one words (MirrorCopy u v (Some m)) (MirrorCopy x y (Some n)) p q =
    cc (same_word 1 p.1 q.1, same_word 2 p.1 q.1, number_of_same p.0 q.0 m n (same_word 3 p.1 q.1) p.2 q.2)
form_is_one words (End e) b p q = absurd p
form_is_one words a (End e) p q = absurd q
form_is_one words a b p q = absurd (differ (name a) (name b) refl (sym (begins words a p) ∙ begins words b q))
