-- What counts decides which objects and triples there are, and of one number there is at most one object.
use Rattle.std.proofs.Common.{◌≡◌, ℕ, ◌+◌, ◌/◌, ◌<◌, ◌≤◌, List, length, slice_index, refl, sym, ap, subst, ◌∙◌, arith}
use Rattle.std.specs.Prelude.{◌↔◌, ◌⊎◌}
use Rattle.std.proofs.lemmas.Grind.{same_number_lists}
use Rattle.hm_types.specs.declared.id.Obj.{Obj}
use Rattle.hm_types.specs.declared.limits.TheConstants.{BLOCK_BYTES}
use Rattle.hm_types.specs.declared.object.Object.{Object}
use Rattle.hm_types.specs.declared.object.Triple.{Triple}
use Rattle.hm_types.specs.declared.object.Kind.{Kind}
use Rattle.hm_types.specs.declared.object.Kind.TheVariants.{Directory, File, Softlink, PfsLink}
use Rattle.hm_types.specs.declared.object.Content.{Content as Held}
use Rattle.hm_types.specs.declared.object.Content.TheVariants.{Nothing, File as of_file, Target, Linked}
use Rattle.hm_records.specs.declared.inode.Inode.{Inode}
use Rattle.hm_records.specs.declared.kind.TheConstants.{FILE, SOFTLINK}
use Rattle.hm_records.specs.Inode.{IsInode, inode_bytes}
use Rattle.hm_key.specs.Counts.{Content, inode_subject, bytes_subject, target_subject}
use Rattle.hm_records.specs.View.{AreFileBytes, IsFileByte, beside, covered, none as empty, IsHeld, IsObject, ShowsInBlock, IsTargetOf, held, missing}
use Rattle.hm_records.specs.View.{IsTriple, ShowsRather, kind_number}
use Rattle.hm_records.specs.Changes.{AgreeOnName, AgreeOnObject, IsSettled}
use Rattle.hm_records.proofs.InodeLemmas.{inode_in, inode_back}

-- ---- agreement

pub object_back : (pfs obj : ℕ) (C D : Content) → AgreeOnObject pfs obj C D → AgreeOnObject pfs obj D C
object_back pfs obj C D agree = record {
  inode = λ bytes. ((agree.inode bytes).1, (agree.inode bytes).0);
  bytes = λ end bytes. ((agree.bytes end bytes).1, (agree.bytes end bytes).0);
  target = λ bytes. ((agree.target bytes).1, (agree.target bytes).0);
}

pub name_back : (pfs : ℕ) (directory : Obj) (name : List ℕ) (C D : Content) → AgreeOnName pfs directory name C D
    → AgreeOnName pfs directory name D C
name_back pfs directory name C D agree key object = ((agree key object).1, (agree key object).0)

-- the same bytes of a file count, and the same target
abbrev pub SameBytes : ℕ → ℕ → Content → Content → Type 0
SameBytes pfs obj C D = (end : ℕ) (bytes : List ℕ) → D (bytes_subject pfs obj end) bytes ↔ C (bytes_subject pfs obj end) bytes

abbrev pub SameTarget : ℕ → ℕ → Content → Content → Type 0
SameTarget pfs obj C D = (bytes : List ℕ) → D (target_subject pfs obj) bytes ↔ C (target_subject pfs obj) bytes

pub shown_kept : (pfs obj size block end : ℕ) (bytes : List ℕ) (C D : Content) → SameBytes pfs obj C D
    → ShowsInBlock C pfs obj size block end bytes → ShowsInBlock D pfs obj size block end bytes
shown_kept pfs obj size block end bytes C D same shown = record {
  there = (same end bytes).1 shown.there;
  place = shown.place;
  rather = λ other others there. shown.rather other others ((same other others).0 there);
}

pub byte_kept : (pfs obj size x byte : ℕ) (C D : Content) → SameBytes pfs obj C D → IsFileByte C pfs obj size x byte
    → IsFileByte D pfs obj size x byte
byte_kept pfs obj size x byte C D same (covered end bytes shown after reaches is) =
    covered end bytes (shown_kept pfs obj size (x / BLOCK_BYTES) end bytes C D same shown) after reaches is
byte_kept pfs obj size x byte C D same (beside end bytes shown apart is) =
    beside end bytes (shown_kept pfs obj size (x / BLOCK_BYTES) end bytes C D same shown) apart is
byte_kept pfs obj size x byte C D same (empty nothing is) = empty (λ end bytes there. nothing end bytes ((same end bytes).0 there)) is

pub bytes_kept : (pfs obj size : ℕ) (bytes : List ℕ) (C D : Content) → SameBytes pfs obj C D → AreFileBytes C pfs obj size bytes
    → AreFileBytes D pfs obj size bytes
bytes_kept pfs obj size bytes C D same are =
    record { sized = are.sized; each = λ x below. byte_kept pfs obj size x (slice_index bytes x) C D same (are.each x below) }

target_kept : (pfs obj : ℕ) (text : List ℕ) (C D : Content) → SameTarget pfs obj C D → IsTargetOf C pfs obj text → IsTargetOf D pfs obj text
target_kept pfs obj text C D same (held there) = held ((same text).1 there)
target_kept pfs obj text C D same (missing none is) = missing (λ bytes there. none bytes ((same bytes).0 there)) is

-- what an object holds needs its bytes only where it is a file, and its target only where it is a softlink
pub held_kept : (pfs obj : ℕ) (inode : Inode) (content : Held) (C D : Content) → (inode.kind ≡ FILE → SameBytes pfs obj C D)
    → (inode.kind ≡ SOFTLINK → SameTarget pfs obj C D) → IsHeld C pfs obj inode content → IsHeld D pfs obj inode content
held_kept pfs obj inode Nothing C D bytes target is = is
held_kept pfs obj inode (of_file b) C D bytes target is = (is.0, bytes_kept pfs obj inode.size b C D (bytes is.0) is.1)
held_kept pfs obj inode (Target text) C D bytes target is = (is.0, target_kept pfs obj text C D (target is.0) is.1)
held_kept pfs obj inode (Linked other) C D bytes target is = is

-- what counts of an object decides whether it is there
pub object_kept : (pfs : ℕ) (o : Object) (C D : Content) → AgreeOnObject pfs o.number.0 C D → IsObject C pfs o → IsObject D pfs o
object_kept pfs o C D agree is = record {
  inode = is.inode;
  ranges = is.ranges;
  there = (agree.inode (inode_bytes is.inode)).1 is.there;
  kind = is.kind;
  links = is.links;
  holds = held_kept pfs o.number.0 is.inode o.content C D (λ _. agree.bytes) (λ _. agree.target) is.holds;
}

-- and what counts of a name, which object it leads to
pub triple_kept : (pfs : ℕ) (t : Triple) (C D : Content) → AgreeOnName pfs t.directory t.name C D → IsTriple C pfs t → IsTriple D pfs t
triple_kept pfs t C D agree is = record {
  key = is.key;
  there = (agree is.key t.object).1 is.there;
  first = λ other object there. is.first other object ((agree other object).0 there);
}

-- ---- at most one

pub inode_one : (i j : Inode) → IsInode i → IsInode j → inode_bytes i ≡ inode_bytes j → i ≡ j
inode_one i j is is' same = sym (inode_back i is) ∙ ap inode_in same ∙ inode_back j is'

pub rather_both : (size a b : ℕ) → ShowsRather size a b → ShowsRather size b a → a ≡ b
rather_both size a b first second = omega (arith, first, second)

-- what shows in a block of a file of one size ends at one place, and is one
pub shown_one : (pfs obj size block end end' : ℕ) (bytes bytes' : List ℕ) (C : Content) → IsSettled C → ShowsInBlock C pfs obj size block end bytes
    → ShowsInBlock C pfs obj size block end' bytes' → (end ≡ end') × (bytes ≡ bytes')
shown_one pfs obj size block end end' bytes bytes' C settled a b =
    let same : end ≡ end' =
    rather_both size end end' (a.rather end' bytes' b.there b.place) (b.rather end bytes a.there a.place) in (
      same,
      settled (bytes_subject pfs obj end') bytes bytes' (subst (λ (n : ℕ). C (bytes_subject pfs obj n) bytes) same a.there) b.there,
    )

-- bytes do not reach over a place and end beside it
over_or_beside : (x end end' : ℕ) (bytes bytes' : List ℕ) → (end ≡ end') × (bytes ≡ bytes') → x < end → end ≤ x + length bytes
    → (end' ≤ x) ⊎ (x + length bytes' < end') → ⊥
over_or_beside x end end' bytes bytes' same after reaches apart = omega (arith, same.0, ap length same.1, after, reaches, apart)

pub byte_one : (pfs obj size x a b : ℕ) (C : Content) → IsSettled C → IsFileByte C pfs obj size x a → IsFileByte C pfs obj size x b → a ≡ b
byte_one pfs obj size x a b C settled (covered end bytes shown after reaches is) (covered end' bytes' shown' after' reaches' is') =
    let same = shown_one pfs obj size (x / BLOCK_BYTES) end end' bytes bytes' C settled shown shown' in
    let e : end ≡ end' = same.0 in
    let f : bytes ≡ bytes' = same.1 in
    is ∙ rw (e, f) (sym is')
byte_one pfs obj size x a b C settled (covered end bytes shown after reaches is) (beside end' bytes' shown' apart is') =
    absurd (over_or_beside x end end' bytes bytes'
    (shown_one pfs obj size (x / BLOCK_BYTES) end end' bytes bytes' C settled shown shown') after reaches apart)
byte_one pfs obj size x a b C settled (covered end bytes shown after reaches is) (empty nothing is') =
    absurd (nothing end bytes shown.there shown.place)
byte_one pfs obj size x a b C settled (beside end bytes shown apart is) (covered end' bytes' shown' after reaches is') =
    absurd (over_or_beside x end' end bytes' bytes
    (shown_one pfs obj size (x / BLOCK_BYTES) end' end bytes' bytes C settled shown' shown) after reaches apart)
byte_one pfs obj size x a b C settled (beside end bytes shown apart is) (beside end' bytes' shown' apart' is') = is ∙ sym is'
byte_one pfs obj size x a b C settled (beside end bytes shown apart is) (empty nothing is') = is ∙ sym is'
byte_one pfs obj size x a b C settled (empty nothing is) (covered end' bytes' shown' after reaches is') =
    absurd (nothing end' bytes' shown'.there shown'.place)
byte_one pfs obj size x a b C settled (empty nothing is) (beside end' bytes' shown' apart is') = is ∙ sym is'
byte_one pfs obj size x a b C settled (empty nothing is) (empty nothing' is') = is ∙ sym is'

pub bytes_one : (pfs obj size : ℕ) (a b : List ℕ) (C : Content) → IsSettled C → AreFileBytes C pfs obj size a
    → AreFileBytes C pfs obj size b → a ≡ b
bytes_one pfs obj size a b C settled is is' =
    same_number_lists a b (is.sized ∙ sym is'.sized)
    (λ k below. let k_below : k < size = omega (arith, below, is.sized) in
    byte_one pfs obj size k (slice_index a k) (slice_index b k) C settled (is.each k k_below) (is'.each k k_below))

target_one : (pfs obj : ℕ) (a b : List ℕ) (C : Content) → IsSettled C → IsTargetOf C pfs obj a → IsTargetOf C pfs obj b → a ≡ b
target_one pfs obj a b C settled (held there) (held there') = settled (target_subject pfs obj) a b there there'
target_one pfs obj a b C settled (held there) (missing none is) = absurd (none a there)
target_one pfs obj a b C settled (missing none is) (held there) = absurd (none b there)
target_one pfs obj a b C settled (missing none is) (missing none' is') = is ∙ sym is'

kind_one : (a b : Kind) → kind_number a ≡ kind_number b → a ≡ b
kind_one Directory Directory same = refl
kind_one File File same = refl
kind_one Softlink Softlink same = refl
kind_one PfsLink PfsLink same = refl
kind_one Directory File same = absurd (omega (arith, same))
kind_one Directory Softlink same = absurd (omega (arith, same))
kind_one Directory PfsLink same = absurd (omega (arith, same))
kind_one File Directory same = absurd (omega (arith, same))
kind_one File Softlink same = absurd (omega (arith, same))
kind_one File PfsLink same = absurd (omega (arith, same))
kind_one Softlink Directory same = absurd (omega (arith, same))
kind_one Softlink File same = absurd (omega (arith, same))
kind_one Softlink PfsLink same = absurd (omega (arith, same))
kind_one PfsLink Directory same = absurd (omega (arith, same))
kind_one PfsLink File same = absurd (omega (arith, same))
kind_one PfsLink Softlink same = absurd (omega (arith, same))

-- what an object of this inode holds
held_one : (pfs obj : ℕ) (inode : Inode) (a b : Held) (C : Content) → IsSettled C → IsHeld C pfs obj inode a
    → IsHeld C pfs obj inode b → a ≡ b
held_one pfs obj inode Nothing Nothing C settled is is' = refl
held_one pfs obj inode Nothing (of_file bytes) C settled is is' = absurd (omega (arith, is, is'.0))
held_one pfs obj inode Nothing (Target text) C settled is is' = absurd (omega (arith, is, is'.0))
held_one pfs obj inode Nothing (Linked other) C settled is is' = absurd (omega (arith, is, is'.0))
held_one pfs obj inode (of_file bytes) Nothing C settled is is' = absurd (omega (arith, is.0, is'))
held_one pfs obj inode (of_file bytes) (of_file bytes') C settled is is' = ap of_file (bytes_one pfs obj inode.size bytes bytes' C settled is.1 is'.1)
held_one pfs obj inode (of_file bytes) (Target text) C settled is is' = absurd (omega (arith, is.0, is'.0))
held_one pfs obj inode (of_file bytes) (Linked other) C settled is is' = absurd (omega (arith, is.0, is'.0))
held_one pfs obj inode (Target text) Nothing C settled is is' = absurd (omega (arith, is.0, is'))
held_one pfs obj inode (Target text) (of_file bytes) C settled is is' = absurd (omega (arith, is.0, is'.0))
held_one pfs obj inode (Target text) (Target text') C settled is is' = ap Target (target_one pfs obj text text' C settled is.1 is'.1)
held_one pfs obj inode (Target text) (Linked other) C settled is is' = absurd (omega (arith, is.0, is'.0))
held_one pfs obj inode (Linked other) Nothing C settled is is' = absurd (omega (arith, is.0, is'))
held_one pfs obj inode (Linked other) (of_file bytes) C settled is is' = absurd (omega (arith, is.0, is'.0))
held_one pfs obj inode (Linked other) (Target text) C settled is is' = absurd (omega (arith, is.0, is'.0))
held_one pfs obj inode (Linked other) (Linked other') C settled is is' = ap Linked (is.1 ∙ sym is'.1)

same_object : (o p : Object) → o.number.0 ≡ p.number.0 → o.kind ≡ p.kind → o.content ≡ p.content → o.links ≡ p.links → o ≡ p
same_object o p number kind content links =
    λ i. record { number = record { 0 = number i }; kind = kind i; content = content i; links = links i }

-- of one number there is at most one object
pub object_one : (pfs : ℕ) (o p : Object) (C : Content) → IsSettled C → IsObject C pfs o → IsObject C pfs p → o.number.0 ≡ p.number.0 → o ≡ p
object_one pfs o p C settled is is' number =
    let there : C (inode_subject pfs p.number.0) (inode_bytes is.inode) = subst (λ (n : ℕ). C (inode_subject pfs n) (inode_bytes is.inode)) number is.there in
    let same : is.inode ≡ is'.inode =
    inode_one is.inode is'.inode is.ranges is'.ranges (settled (inode_subject pfs p.number.0) (inode_bytes is.inode) (inode_bytes is'.inode) there is'.there) in
    let holds : IsHeld C pfs p.number.0 is.inode o.content = subst (λ (n : ℕ). IsHeld C pfs n is.inode o.content) number is.holds in
    let holds' : IsHeld C pfs p.number.0 is'.inode o.content = subst (λ (i : Inode). IsHeld C pfs p.number.0 i o.content) same holds in
    same_object o p number
    (kind_one o.kind p.kind (sym is.kind ∙ ap (λ (i : Inode). i.kind) same ∙ is'.kind))
    (held_one pfs p.number.0 is'.inode o.content p.content C settled holds' is'.holds)
    (is.links ∙ ap (λ (i : Inode). i.links) same ∙ sym is'.links)
