-- What is told before and after several calls.
use Rattle.std.proofs.Common.{◌≡◌, ℕ, List, Option, None, Some, IfSome, is_some, true, Result, Ok, Err, IfOk, subst, sym, refl}
use Rattle.hm_types.specs.Told.{BothTell}
use Rattle.hm_disk.specs.Crash.{Told}
use Rattle.hm_header.specs.declared.header.Header.{Header}
use Rattle.hm_undo.specs.Range.{HasUndoEntry}
use Rattle.hm_recover.specs.Damage.{IsWholeEntry, old_page}

-- what holds of the disk before a call, by what it is known to have been then and what is known after it
pub IfSome-back : (old new : Option Told) (Fits Holds Gives : Told → Type 0) (P : Told → Told → Type 0)
    → ((s t : Told) → Fits s → P s t → Holds t → Gives s) → IfSome old Fits → BothTell old new P → IfSome new Holds → IfSome old Gives
IfSome-back None new Fits Holds Gives P step fits both holds = tt
IfSome-back (Some s) (Some t) Fits Holds Gives P step fits both holds = step s t fits both holds
IfSome-back (Some s) None Fits Holds Gives P step fits both holds = absurd both

-- what was read of an entry is its page
pub read-whole : (read : Option (ℕ × List ℕ)) (told : Option Told) (header : Header) (entry : ℕ) → is_some read ≡ true
    → IfSome read (λ old. IfSome told (λ t. HasUndoEntry t.bytes header entry (old_page old.0 old.1))) → IfSome told (λ t. IsWholeEntry t.bytes header entry)
read-whole None told header entry some has = absurd cc
read-whole (Some old) None header entry some has = tt
read-whole (Some old) (Some t) header entry some has = (old_page old.0 old.1, has)

pub read-is : (read : Option (ℕ × List ℕ)) (told : Option Told) (header : Header) (entry at : ℕ) (page : List ℕ) → read ≡ Some (at, page)
    → IfSome read (λ old. IfSome told (λ t. HasUndoEntry t.bytes header entry (old_page old.0 old.1)))
    → IfSome told (λ t. HasUndoEntry t.bytes header entry (old_page at page))
read-is read told header entry at page is has =
    subst (λ (o : Option (ℕ × List ℕ)). IfSome o (λ old. IfSome told (λ t. HasUndoEntry t.bytes header entry (old_page old.0 old.1)))) is has

-- two facts of what is told
pub IfSome-two : (told : Option Told) (P Q R : Told → Type 0) → ((t : Told) → P t → Q t → R t) → IfSome told P → IfSome told Q → IfSome told R
IfSome-two None P Q R step p q = tt
IfSome-two (Some t) P Q R step p q = step t p q

-- nothing is owed
pub IfSome-unit : (told : Option Told) → IfSome told (λ _. Unit {0})
IfSome-unit None = tt
IfSome-unit (Some t) = tt

-- a disk that tells the same reads as it did
pub told-bytes : (old new : Option Told) → new ≡ old → BothTell old new (λ s t. t.bytes ≡ s.bytes)
told-bytes None new same = subst (λ (o : Option Told). BothTell None o (λ s t. t.bytes ≡ s.bytes)) (sym same) tt
told-bytes (Some s) new same = subst (λ (o : Option Told). BothTell (Some s) o (λ s t. t.bytes ≡ s.bytes)) (sym same) refl

pub IfOk-map : {T E : Type 0} (r : Result T E) (P Q : T → Type 0) → ((x : T) → P x → Q x) → IfOk r P → IfOk r Q
IfOk-map (Ok x) P Q step p = step x p
IfOk-map (Err e) P Q step p = p
