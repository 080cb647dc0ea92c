-- What is told before and after a call.
use Rattle.std.proofs.Common.{Option, Some, None, IfSome}
use Rattle.hm_types.specs.Told.{BothTell}
use Rattle.hm_disk.specs.Crash.{Told}

-- before the first call
pub BothTell-same : (told : Option Told) (P : Told → Told → Type 0) → IfSome told (λ t. P t t) → BothTell told told P
BothTell-same None P here = tt
BothTell-same (Some t) P here = here

-- two facts about one call
pub BothTell-and : (old new : Option Told) (P Q : Told → Told → Type 0) → BothTell old new P → BothTell old new Q → BothTell old new (λ s t. P s t × Q s t)
BothTell-and None None P Q p q = tt
BothTell-and (Some s) (Some t) P Q p q = (p, q)
BothTell-and None (Some t) P Q p q = absurd p
BothTell-and (Some s) None P Q p q = absurd p

-- one call after another, on a disk that meets a condition at the start
pub BothTell-then : (old told new : Option Told) (Fits : Told → Type 0) (P Q R : Told → Told → Type 0)
    → ((s t u : Told) → Fits s → P s t → Q t u → R s u)
    → IfSome old Fits → BothTell old told P → BothTell told new Q → BothTell old new R
BothTell-then None None None Fits P Q R step fits first then = tt
BothTell-then (Some s) (Some t) (Some u) Fits P Q R step fits first then = step s t u fits first then
BothTell-then None None (Some u) Fits P Q R step fits first then = absurd then
BothTell-then None (Some t) new Fits P Q R step fits first then = absurd first
BothTell-then (Some s) None new Fits P Q R step fits first then = absurd first
BothTell-then (Some s) (Some t) None Fits P Q R step fits first then = absurd then

-- what follows from what one call did
pub BothTell-map : (old new : Option Told) (Fits : Told → Type 0) (P Q : Told → Told → Type 0)
    → ((s t : Told) → Fits s → P s t → Q s t) → IfSome old Fits → BothTell old new P → BothTell old new Q
BothTell-map None None Fits P Q step fits first = tt
BothTell-map (Some s) (Some t) Fits P Q step fits first = step s t fits first
BothTell-map None (Some t) Fits P Q step fits first = absurd first
BothTell-map (Some s) None Fits P Q step fits first = absurd first

-- what holds afterwards of what is told, such as that a range lies inside the disk
pub IfSome-then : (old new : Option Told) (Fits Holds : Told → Type 0) (P : Told → Told → Type 0)
    → ((s t : Told) → Fits s → P s t → Holds t) → IfSome old Fits → BothTell old new P → IfSome new Holds
IfSome-then None None Fits Holds P step fits first = tt
IfSome-then (Some s) (Some t) Fits Holds P step fits first = step s t fits first
IfSome-then None (Some t) Fits Holds P step fits first = absurd first
IfSome-then (Some s) None Fits Holds P step fits first = absurd first
