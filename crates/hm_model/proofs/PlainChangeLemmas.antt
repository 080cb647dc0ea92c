-- What calls on one tree are due, and what they make of it.
use Rattle.std.proofs.Common.{◌≡◌, ℕ, suc, ◌+◌, ◌-◌, ◌<◌, ◌≤◌, List, [], ◌∷◌, ◌++◌, Bool, true, false, Option, Some, None, refl, ◌∙◌, sym, ap, subst, arith}
use Rattle.std.specs.Prelude.{if◌then◌else◌}
use Rattle.std.specs.Option.{option_map_or}
use Rattle.hm_types.specs.declared.limits.TheConstants.{GREATEST_ID}
use Rattle.hm_model.specs.declared.command.Command.{Command}
use Rattle.hm_model.specs.declared.command.Command.TheVariants.{Mkdir, Touch, Symlink, Snapshot, Ln, Mv, Write, Fill, Truncate, Rm, Rmdir}
use Rattle.hm_types.specs.declared.object.Object.{Object}
use Rattle.hm_model.specs.declared.place.Place.{Place}
use Rattle.hm_model.specs.declared.reply.Reply.{Reply}
use Rattle.hm_model.specs.declared.reply.Reply.TheVariants.{Done}
use Rattle.hm_model.specs.Reply.{is_refusal}
use Rattle.hm_types.specs.Tree.{FileTree, no_tree}
use Rattle.hm_model.specs.Volume.{as_of, at}
use Rattle.hm_model.specs.Sites.{Parsed, Site}
use Rattle.hm_model.specs.Call.{Call, first_site, second_site, site_object}
use Rattle.hm_model.specs.Due.{accepted, due, first_refusal, hash_left, intervals_left, refusal}
use Rattle.hm_model.specs.Change.{change, moved, of_object}
use Rattle.hm_model.specs.Plain.{site_of}
use Rattle.hm_model.specs.PlainCall.{IsApplied, IsDueRefusal, IsEdit, IsPlaced, IsServed, ReadsNow, inner_call, plain_call}
use Rattle.hm_model.specs.PlainChecks.{finds, new_hash_at, own_at}
use Rattle.hm_model.specs.PlainChange.{changed_at, moved_at}
use Rattle.hm_model.proofs.VersionLemmas.{as_of-push}
use Rattle.hm_model.proofs.OwnLemmas.{pass_last}
use Rattle.hm_model.proofs.PlainDueLemmas.{accepted_is, call_same, first_same, own_pass, refused_is, second_same}

served_edit : (command : Command) → IsEdit command → IsServed command
served_edit (Mkdir path) edit = tt
served_edit (Touch path) edit = tt
served_edit (Symlink target path) edit = tt
served_edit (Snapshot path) edit = tt
served_edit (Ln old new) edit = tt
served_edit (Mv old new) edit = tt
served_edit (Write path offset bytes) edit = tt
served_edit (Fill path offset count byte) edit = tt
served_edit (Truncate path size) edit = tt
served_edit (Rm path) edit = tt
served_edit (Rmdir path) edit = tt
served_edit other edit = absurd edit

-- the last checks are those of the hashes
hash_is : (size last : ℕ) (tree : FileTree) (command : Command) (paths : List Parsed) (a b : Place) → IsPlaced tree command a b → ReadsNow command paths →
    IsEdit command → first_refusal (hash_left (inner_call size last tree command paths) ∷ intervals_left (inner_call size last tree command paths) ∷ [])
    ≡ new_hash_at tree command (site_of a) (site_of b)
hash_is size last tree (Mkdir path) paths a b placed reads edit =
    rw (placed.located size last paths reads) (pass_last (new_hash_at tree (Mkdir path) (site_of a) (site_of b)))
hash_is size last tree (Touch path) paths a b placed reads edit =
    rw (placed.located size last paths reads) (pass_last (new_hash_at tree (Touch path) (site_of a) (site_of b)))
hash_is size last tree (Symlink target path) paths a b placed reads edit =
    rw (placed.located size last paths reads) (pass_last (new_hash_at tree (Symlink target path) (site_of a) (site_of b)))
hash_is size last tree (Snapshot path) paths a b placed reads edit =
    rw (placed.located size last paths reads) (pass_last (new_hash_at tree (Snapshot path) (site_of a) (site_of b)))
hash_is size last tree (Ln old new) paths a b placed reads edit =
    rw (placed.located size last paths reads) (pass_last (new_hash_at tree (Ln old new) (site_of a) (site_of b)))
hash_is size last tree (Mv old new) paths a b placed reads edit =
    rw (placed.located size last paths reads) (pass_last (new_hash_at tree (Mv old new) (site_of a) (site_of b)))
hash_is size last tree (Write path offset bytes) paths a b placed reads edit = rw (placed.located size last paths reads) refl
hash_is size last tree (Fill path offset count byte) paths a b placed reads edit = rw (placed.located size last paths reads) refl
hash_is size last tree (Truncate path n) paths a b placed reads edit = rw (placed.located size last paths reads) refl
hash_is size last tree (Rm path) paths a b placed reads edit = rw (placed.located size last paths reads) refl
hash_is size last tree (Rmdir path) paths a b placed reads edit = rw (placed.located size last paths reads) refl
hash_is size last tree other paths a b placed reads edit = absurd edit

done : (size last : ℕ) (tree : FileTree) (command : Command) (paths : List Parsed) → IsEdit command → accepted (inner_call size last tree command paths) ≡ Done
done size last tree (Mkdir path) paths edit = refl
done size last tree (Touch path) paths edit = refl
done size last tree (Symlink target path) paths edit = refl
done size last tree (Snapshot path) paths edit = refl
done size last tree (Ln old new) paths edit = refl
done size last tree (Mv old new) paths edit = refl
done size last tree (Write path offset bytes) paths edit = refl
done size last tree (Fill path offset count byte) paths edit = refl
done size last tree (Truncate path n) paths edit = refl
done size last tree (Rm path) paths edit = refl
done size last tree (Rmdir path) paths edit = refl
done size last tree other paths edit = absurd edit

-- a refused call
less_than_greatest : (id : ℕ) → 1 ≤ id → id ≤ GREATEST_ID → id - 1 < GREATEST_ID
less_than_greatest id least most = omega (arith)

pub apply_refused : (tree : FileTree) (command : Command) (id : ℕ) (reply : Reply) (after : FileTree) → 1 ≤ id → id ≤ GREATEST_ID →
    IsDueRefusal tree command reply → is_refusal reply ≡ true → after ≡ tree → IsApplied tree command id reply after
apply_refused tree command id reply after least most due_one refuses same = record {
  reply_is = λ size paths edit reads.
      refused_is (inner_call size (id - 1) tree command paths) reply
      (due_one.refused size (id - 1) paths (served_edit command edit) (less_than_greatest id least most) reads)
      ∙ ap due (sym (call_same size (id - 1) tree command paths));
  tree_is = λ size paths edit reads. rw refuses same;
}

pub hash_refuses : (tree : FileTree) (command : Command) (id : ℕ) (a b : Place) (reply : Reply) (after : FileTree) → 1 ≤ id → id ≤ GREATEST_ID →
    IsPlaced tree command a b → first_refusal (own_at tree command (site_of a) (site_of b)) ≡ None →
    new_hash_at tree command (site_of a) (site_of b) ≡ Some reply → is_refusal reply ≡ true → after ≡ tree → IsApplied tree command id reply after
hash_refuses tree command id a b reply after least most placed own full refuses same = record {
  reply_is = λ size paths edit reads.
      refused_is (inner_call size (id - 1) tree command paths) reply
      (own_pass size (id - 1) tree command paths a b placed own (served_edit command edit) (less_than_greatest id least most) reads
      ∙ hash_is size (id - 1) tree command paths a b placed reads edit ∙ full)
      ∙ ap due (sym (call_same size (id - 1) tree command paths));
  tree_is = λ size paths edit reads. rw refuses same;
}

-- a move
same_maps : (o : Option Object) (f g : Object → FileTree) (tree : FileTree) → ((object : Object) → f object ≡ g object) →
    option_map_or f o tree ≡ option_map_or g o tree
same_maps None f g tree same = refl
same_maps (Some object) f g tree same = same object

moved_same : (size last : ℕ) (tree : FileTree) (old new : List ℕ) (paths : List Parsed) (a b : Place) →
    first_site (inner_call size last tree (Mv old new) paths) ≡ site_of a → second_site (inner_call size last tree (Mv old new) paths) ≡ site_of b →
    (object : Object) → moved (inner_call size last tree (Mv old new) paths) tree object ≡ moved_at tree (site_of a) (site_of b) object
moved_same size last tree old new paths a b first second object = rw (first, second) refl

-- an accepted call
changed_next : (size last : ℕ) (tree : FileTree) (command : Command) (paths : List Parsed) (a b : Place) →
    first_site (inner_call size last tree command paths) ≡ site_of a → second_site (inner_call size last tree command paths) ≡ site_of b → IsEdit command →
    at (change (inner_call size last tree command paths)) 0 (last + 1) ≡ changed_at tree command (last + 1) (site_of a) (site_of b)
changed_next size last tree (Mkdir path) paths a b first second edit =
    rw first (as_of-push (last + 1) no_tree ((0, tree) ∷ []) (last + 1) (changed_at tree (Mkdir path) (last + 1) (site_of a) (site_of b)) (omega arith))
changed_next size last tree (Touch path) paths a b first second edit =
    rw first (as_of-push (last + 1) no_tree ((0, tree) ∷ []) (last + 1) (changed_at tree (Touch path) (last + 1) (site_of a) (site_of b)) (omega arith))
changed_next size last tree (Symlink target path) paths a b first second edit =
    rw first (as_of-push (last + 1) no_tree ((0, tree) ∷ []) (last + 1) (changed_at tree (Symlink target path) (last + 1) (site_of a) (site_of b))
    (omega arith))
changed_next size last tree (Snapshot path) paths a b first second edit =
    rw first (as_of-push (last + 1) no_tree ((0, tree) ∷ []) (last + 1) (changed_at tree (Snapshot path) (last + 1) (site_of a) (site_of b)) (omega arith))
changed_next size last tree (Ln old new) paths a b first second edit =
    rw (first, second) (as_of-push (last + 1) no_tree ((0, tree) ∷ []) (last + 1) (changed_at tree (Ln old new) (last + 1) (site_of a) (site_of b))
    (omega arith))
changed_next size last tree (Mv old new) paths a b first second edit =
    rw (first, second) (as_of-push (last + 1) no_tree ((0, tree) ∷ []) (last + 1)
    (of_object (finds tree) (site_of a) tree (moved (inner_call size last tree (Mv old new) paths) tree)) (omega arith))
    ∙ same_maps (site_object (finds tree) (site_of a)) (moved (inner_call size last tree (Mv old new) paths) tree) (moved_at tree (site_of a) (site_of b))
    tree (λ object. moved_same size last tree old new paths a b first second object)
changed_next size last tree (Write path offset bytes) paths a b first second edit =
    rw first (as_of-push (last + 1) no_tree ((0, tree) ∷ []) (last + 1) (changed_at tree (Write path offset bytes) (last + 1) (site_of a) (site_of b))
    (omega arith))
changed_next size last tree (Fill path offset count byte) paths a b first second edit =
    rw first (as_of-push (last + 1) no_tree ((0, tree) ∷ []) (last + 1) (changed_at tree (Fill path offset count byte) (last + 1) (site_of a) (site_of b))
    (omega arith))
changed_next size last tree (Truncate path n) paths a b first second edit =
    rw first (as_of-push (last + 1) no_tree ((0, tree) ∷ []) (last + 1) (changed_at tree (Truncate path n) (last + 1) (site_of a) (site_of b)) (omega arith))
changed_next size last tree (Rm path) paths a b first second edit =
    rw first (as_of-push (last + 1) no_tree ((0, tree) ∷ []) (last + 1) (changed_at tree (Rm path) (last + 1) (site_of a) (site_of b)) (omega arith))
changed_next size last tree (Rmdir path) paths a b first second edit =
    rw first (as_of-push (last + 1) no_tree ((0, tree) ∷ []) (last + 1) (changed_at tree (Rmdir path) (last + 1) (site_of a) (site_of b)) (omega arith))
changed_next size last tree other paths a b first second edit = absurd edit

change_is : (size last : ℕ) (tree : FileTree) (command : Command) (paths : List Parsed) (a b : Place) (id : ℕ) → id ≡ last + 1 →
    first_site (inner_call size last tree command paths) ≡ site_of a → second_site (inner_call size last tree command paths) ≡ site_of b → IsEdit command →
    at (change (inner_call size last tree command paths)) 0 id ≡ changed_at tree command id (site_of a) (site_of b)
change_is size last tree command paths a b id next first second edit =
    let P : ℕ → Type 0 = λ i. at (change (inner_call size last tree command paths)) 0 i ≡ changed_at tree command i (site_of a) (site_of b) in
    subst P (sym next) (changed_next size last tree command paths a b first second edit)

pub apply_done : (tree : FileTree) (command : Command) (id : ℕ) (a b : Place) (after : FileTree) → 1 ≤ id → id ≤ GREATEST_ID → IsPlaced tree command a b →
    first_refusal (own_at tree command (site_of a) (site_of b)) ≡ None → new_hash_at tree command (site_of a) (site_of b) ≡ None →
    after ≡ changed_at tree command id (site_of a) (site_of b) → IsApplied tree command id Done after
apply_done tree command id a b after least most placed own left changes = record {
  reply_is = λ size paths edit reads.
      accepted_is (inner_call size (id - 1) tree command paths) Done
      (own_pass size (id - 1) tree command paths a b placed own (served_edit command edit) (less_than_greatest id least most) reads
      ∙ hash_is size (id - 1) tree command paths a b placed reads edit ∙ left)
      (done size (id - 1) tree command paths edit)
      ∙ ap due (sym (call_same size (id - 1) tree command paths));
  tree_is = λ size paths edit reads.
      changes
      ∙ sym (change_is size (id - 1) tree command paths a b id (omega (arith, least)) (first_same size (id - 1) tree command paths a b placed reads)
      (second_same size (id - 1) tree command paths a b placed reads) edit)
      ∙ ap (λ (c : Call). at (change c) 0 id) (sym (call_same size (id - 1) tree command paths));
}
