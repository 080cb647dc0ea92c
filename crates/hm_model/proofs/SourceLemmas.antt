-- What the source of a slave says of its trees, and how that goes on.
use Rattle.std.proofs.Common.{◌≡◌, ℕ, ◌≤◌, true, false, refl, ◌∙◌, sym, inl, inr, arith, eqb}
use Rattle.std.proofs.lemmas.Bool.Decides.{nat_tests}
use Rattle.std.specs.Prelude.{Bool, Option, Some, None, if◌then◌else◌}
use Rattle.std.specs.Option.{option_map_or}
use Rattle.hm_types.specs.Intervals.{Keeps}
use Rattle.hm_model.specs.declared.command.Command.{Command}
use Rattle.hm_model.specs.declared.command.Command.TheVariants.{MirrorCopy, MirrorWrite}
use Rattle.hm_model.specs.After.{fed_from, is_origin, stream_origin, with_origin}
use Rattle.hm_model.specs.Due.{is_pass}
use Rattle.hm_model.specs.Foreign.{Feed, ForeignMaster}
use Rattle.hm_types.specs.Tree.{no_tree}
use Rattle.hm_model.specs.Volume.{Origin, Nowhere, Local, Foreign, Mixed, PseudoFileSystem, Slave, as_of}
use Rattle.hm_model.proofs.AgeLemmas.{Ages}

-- what a slave and a master both keep up to the sync end, both have with one tree
abbrev pub HaveSame : PseudoFileSystem → PseudoFileSystem → Type 0
HaveSame s t = (id : ℕ) → id ≤ s.sync_end → Keeps s.retention id → Keeps t.retention id → as_of id no_tree s.versions ≡ as_of id no_tree t.versions

-- what a source says: without one the slave keeps nothing, and with this master alone it has its trees
abbrev pub Follows : ℕ → PseudoFileSystem → PseudoFileSystem → Origin → Type 0
Follows m s t Nowhere = (id : ℕ) → Keeps s.retention id → ⊥
Follows m s t (Local n) = n ≡ m → HaveSame s t
Follows m s t (Foreign k) = Unit {0}
Follows m s t Mixed = Unit {0}

-- it still says so later
pub follows_later : (last m : ℕ) (s u t v : PseudoFileSystem) → Ages last s u → Ages last t v → s.sync_end ≤ last → (origin : Origin) →
    Follows m s t origin → Follows m u v origin
follows_later last m s u t v slave master drawn Nowhere follows = λ id kept. follows id (slave.keeps id kept)
follows_later last m s u t v slave master drawn (Local n) follows = λ same id by kept also.
    slave.trees id (omega (arith, slave.sync, by))
    ∙ (follows same id (omega (arith, slave.sync, by)) (slave.keeps id kept) (master.keeps id also) ∙ sym (master.trees id (omega (arith, slave.sync, by))))
follows_later last m s u t v slave master drawn (Foreign k) follows = tt
follows_later last m s u t v slave master drawn Mixed follows = tt

-- and where another source feeds the slave from then on
pub follows_fed : (m : ℕ) (s t : PseudoFileSystem) (old fed : Origin) → Follows m s t old → Follows m s t (fed_from old fed)
follows_fed m s t Nowhere Nowhere follows = follows
follows_fed m s t Nowhere (Local n) follows = λ same id by kept also. absurd (follows id kept)
follows_fed m s t Nowhere (Foreign k) follows = tt
follows_fed m s t Nowhere Mixed follows = tt
follows_fed m s t (Local n) Nowhere follows = tt
follows_fed m s t (Local n) (Local k) follows = by (eqb n k)
  where
    by : (test : Bool) → Follows m s t (if test then Local n else Mixed)
    by true = follows
    by false = tt
follows_fed m s t (Local n) (Foreign k) follows = tt
follows_fed m s t (Local n) Mixed follows = tt
follows_fed m s t (Foreign j) Nowhere follows = tt
follows_fed m s t (Foreign j) (Local n) follows = tt
follows_fed m s t (Foreign j) (Foreign k) follows = by (eqb j k)
  where
    by : (test : Bool) → Follows m s t (if test then Foreign j else Mixed)
    by true = tt
    by false = tt
follows_fed m s t (Foreign j) Mixed follows = tt
follows_fed m s t Mixed Nowhere follows = tt
follows_fed m s t Mixed (Local n) follows = tt
follows_fed m s t Mixed (Foreign k) follows = tt
follows_fed m s t Mixed Mixed follows = tt

-- the source that a slave has after a call
pub follows_source : (last m : ℕ) (s u t : PseudoFileSystem) (origin : Origin) → Ages last s u → Follows m u t s.origin → Follows m u t u.origin
follows_source last m s u t origin ages follows = elim ages.source [
  | inl same ↦ rw same follows
  | inr fed ↦ rw fed.1 (follows_fed m u t s.origin fed.0 follows)
]

-- what a source says is not about the source that is noted
pub follows_with : (m : ℕ) (s t : PseudoFileSystem) (other : Origin) (origin : Origin) → Follows m s t origin → Follows m (with_origin other s) t origin
follows_with m s t other Nowhere follows = follows
follows_with m s t other (Local n) follows = follows
follows_with m s t other (Foreign k) follows = tt
follows_with m s t other Mixed follows = tt

-- there is a source, which is this master where it is one of the volume; and there is one outside of it
abbrev pub IsSource : ℕ → Origin → Type 0
IsSource a Nowhere = ⊥
IsSource a (Local n) = n ≡ a
IsSource a (Foreign k) = Unit {0}
IsSource a Mixed = Unit {0}

abbrev pub IsOutside : Origin → Type 0
IsOutside Nowhere = ⊥
IsOutside (Local n) = ⊥
IsOutside (Foreign k) = Unit {0}
IsOutside Mixed = Unit {0}

-- of a test's two origins each is one
pub either_origin : (P : Origin → Type 0) (test : Bool) (a b : Origin) → P a → P b → P (if test then a else b)
either_origin P true a b of_a of_b = of_a
either_origin P false a b of_a of_b = of_b

pub source_fed : (a : ℕ) (old fed : Origin) → IsSource a old → IsSource a (fed_from old fed)
source_fed a Nowhere fed is = absurd is
source_fed a (Local n) fed is = either_origin (IsSource a) (is_origin (Local n) fed) (Local n) Mixed is tt
source_fed a (Foreign k) fed is = either_origin (IsSource a) (is_origin (Foreign k) fed) (Foreign k) Mixed tt tt
source_fed a Mixed fed is = either_origin (IsSource a) (is_origin Mixed fed) Mixed Mixed tt tt

pub outside_fed : (old fed : Origin) → IsOutside old → IsOutside (fed_from old fed)
outside_fed Nowhere fed is = absurd is
outside_fed (Local n) fed is = absurd is
outside_fed (Foreign k) fed is = either_origin IsOutside (is_origin (Foreign k) fed) (Foreign k) Mixed tt tt
outside_fed Mixed fed is = either_origin IsOutside (is_origin Mixed fed) Mixed Mixed tt tt

-- a copy gives a source, and a stream one outside
pub source_new : (old : Origin) (a : ℕ) → IsSource a (fed_from old (Local a))
source_new Nowhere a = refl
source_new (Local n) a = by (eqb n a) refl
  where
    by : (test : Bool) → eqb n a ≡ test → IsSource a (if test then Local n else Mixed)
    by true is = grind (arith, nat_tests, is)
    by false is = tt
source_new (Foreign k) a = tt
source_new Mixed a = tt

pub outside_new : (old : Origin) (feed : Feed) → IsOutside (fed_from old (stream_origin feed))
outside_new old feed = by old feed.master
  where
    by : (old : Origin) (master : Option ForeignMaster) → IsOutside (fed_from old (option_map_or (λ (m : ForeignMaster). Foreign m.source) master Mixed))
    by Nowhere None = tt
    by Nowhere (Some f) = tt
    by (Local n) None = tt
    by (Local n) (Some f) = tt
    by (Foreign k) None = tt
    by (Foreign k) (Some f) = either_origin IsOutside (is_origin (Foreign k) (Foreign f.source)) (Foreign k) Mixed tt tt
    by Mixed None = tt
    by Mixed (Some f) = tt

-- What an open call with this master says of the slave that it feeds, which had this source before: a copy
-- gave it a source; a stream one outside, and what the source before says holds still.
abbrev pub FedAs : ℕ → ℕ → PseudoFileSystem → PseudoFileSystem → Origin → Command → Type 0
FedAs a m s t before (MirrorCopy from into limit) = IsSource a s.origin
FedAs a m s t before (MirrorWrite into) = (s.role ≡ Slave → Follows m s t before) × IsOutside s.origin
FedAs a m s t before other = Unit {0}

-- a call that is no pass says nothing
pub fed_no_pass : (a m : ℕ) (s t : PseudoFileSystem) (before : Origin) (command : Command) → is_pass command ≡ false → FedAs a m s t before command
fed_no_pass a m s t before (MirrorCopy from into limit) is = absurd (cc)
fed_no_pass a m s t before (MirrorWrite into) is = absurd (cc)
fed_no_pass a m s t before command is = tt

aged_source : (P : Origin → Type 0) (last : ℕ) (s u : PseudoFileSystem) → Ages last s u → ((fed : Origin) → P (fed_from s.origin fed)) → P s.origin → P u.origin
aged_source P last s u ages fed same = elim ages.source [
  | inl is ↦ rw is same
  | inr new ↦ rw new.1 (fed new.0)
]

-- it says the same after another call
pub fed_later : (a last m : ℕ) (s u t v : PseudoFileSystem) (before : Origin) (command : Command) → Ages last s u → Ages last t v → s.sync_end ≤ last →
    FedAs a m s t before command → FedAs a m u v before command
fed_later a last m s u t v before (MirrorCopy from into limit) slave master drawn is =
    aged_source (IsSource a) last s u slave (λ fed. source_fed a s.origin fed is) is
fed_later a last m s u t v before (MirrorWrite into) slave master drawn is = (
  λ role. follows_later last m s u t v slave master drawn before (is.0 (sym slave.role ∙ role)),
  aged_source IsOutside last s u slave (λ fed. outside_fed s.origin fed is.1) is.1,
)
fed_later a last m s u t v before command slave master drawn is = tt

-- what the opening of a call does to the slave that it feeds
abbrev pub FedNew : ℕ → PseudoFileSystem → PseudoFileSystem → Origin → Command → Type 0
FedNew a s u before (MirrorCopy from into limit) = IsSource a u.origin
FedNew a s u before (MirrorWrite into) = (before ≡ s.origin) × IsOutside u.origin
FedNew a s u before other = Unit {0}

pub fed_new : (a m : ℕ) (s u v : PseudoFileSystem) (before : Origin) (command : Command) → FedNew a s u before command →
    (u.role ≡ Slave → Follows m u v s.origin) → FedAs a m u v before command
fed_new a m s u v before (MirrorCopy from into limit) is follows = is
fed_new a m s u v before (MirrorWrite into) is follows = (λ role. rw is.0 (follows role), is.1)
fed_new a m s u v before command is follows = tt
