-- What an answer says, and what follows from it.
use Rattle.std.proofs.Common.{Option, Some, None, IfSome, Result, Ok, Err, IfOk, IfErr, OnOk, OnErr}
use Rattle.hm_disk.specs.Crash.{Told}

pub OnOk-map : {T E : Type 0} (r : Result T E) (P Q : Type 0) → (P → Q) → OnOk r P → OnOk r Q
OnOk-map (Ok value) P Q step p = step p
OnOk-map (Err error) P Q step p = p

pub OnErr-map : {T E : Type 0} (r : Result T E) (P Q : Type 0) → (P → Q) → OnErr r P → OnErr r Q
OnErr-map (Ok value) P Q step p = p
OnErr-map (Err error) P Q step p = step p

-- a fact that holds whatever the answer
pub OnErr-all : {T E : Type 0} (r : Result T E) (P : Type 0) → P → OnErr r P
OnErr-all (Ok value) P p = tt
OnErr-all (Err error) P p = p

-- what is told
pub IfSome-map : (told : Option Told) (P Q : Told → Type 0) → ((t : Told) → P t → Q t) → IfSome told P → IfSome told Q
IfSome-map None P Q step p = tt
IfSome-map (Some t) P Q step p = step t p

pub IfSome-both : (told : Option Told) (P Q R : Told → Type 0) → ((t : Told) → P t → Q t → R t) → IfSome told P → IfSome told Q → IfSome told R
IfSome-both None P Q R step p q = tt
IfSome-both (Some t) P Q R step p q = step t p q

-- what an answer says where the disk tells
pub IfOk-told : {T E : Type 0} (told : Option Told) (r : Result T E) (P : T → Told → Type 0)
    → IfSome told (λ t. IfOk r (λ value. P value t)) → IfOk r (λ value. IfSome told (λ t. P value t))
IfOk-told None (Ok value) P p = tt
IfOk-told None (Err error) P p = tt
IfOk-told (Some t) r P p = p

pub IfErr-told : {T E : Type 0} (told : Option Told) (r : Result T E) (P : E → Told → Type 0)
    → IfSome told (λ t. IfErr r (λ error. P error t)) → IfErr r (λ error. IfSome told (λ t. P error t))
IfErr-told None (Ok value) P p = tt
IfErr-told None (Err error) P p = tt
IfErr-told (Some t) r P p = p
