-- Making and opening a volume.
use Rattle.std.proofs.Common.{◌≡◌, ℕ, ◌≤◌, List, [], refl, sym, ◌∙◌, ap, subst, arith, inl, inr, ⊎_elim}
use Rattle.std.specs.Prelude.{Err, IfSome, None, Ok, OnOk, Option, Result, Some}
use Rattle.hm_types.specs.Told.{BothTell}
use Rattle.hm_types.specs.declared.fault.Fault.TheVariants.{Media as media, Damaged as damage, NoMemory as no_memory}
use Rattle.hm_disk.specs.Crash.{MayLeave, Told}
use Rattle.hm_disk.specs.Moments.{LeftSince}
use Rattle.hm_disk.proofs.CrashLemmas.{MayLeave-settled}
use Rattle.hm_header.specs.declared.header.Header.{Header}
use Rattle.hm_model.specs.Volume.{fresh}
use Rattle.hm_recover.specs.Recovery.{HasWholeRange}
use Rattle.hm_recover.specs.declared.fault.OpenFault.{OpenFault}
use Rattle.hm_recover.specs.declared.fault.OpenFault.TheVariants.{NotVolume as no_volume, BadField as bad_field, Fault as of_disk}
use Rattle.hm_recover.proofs.DamageLemmas.{same-header}
use Rattle.hm_core.specs.Opened.{IsMade, IsNotMounted, IsOpenCaused, IsUnarmed}
use Rattle.hm_shell.specs.declared.stop.RunStop.{RunStop}
use Rattle.hm_shell.specs.Making.{MakesWhereAsked}
use Rattle.hm_shell.specs.Opening.{IsUnopened, StaysAsMade, StoppedOpening}
use Rattle.hm_shell.specs.Seen.{Seen}
use Rattle.hm_shell.specs.Stop.{of_open}

-- what did not fail has made a volume, where one was asked for
pub made_not_err : (newfs : Option ℕ) (old new : Option Told) (r : Result (Unit {0}) RunStop) → OnOk r (MakesWhereAsked newfs old new)
    → ((stop : RunStop) → r ≡ Err stop → ⊥) → MakesWhereAsked newfs old new
made_not_err newfs old new (Ok done) made not_err = made
made_not_err newfs old new (Err stop) made not_err = absurd (not_err stop refl)

-- what is caused within a call is caused within a longer one
caused_longer : (a b c : ℕ) (fault : OpenFault) → a ≤ b → IsOpenCaused b c fault → IsOpenCaused a c fault
caused_longer a b c no_volume earlier caused = tt
caused_longer a b c (bad_field place) earlier caused = tt
caused_longer a b c (of_disk (media before after)) earlier caused =
    (let begin = caused.begin in record { begin = omega (arith, earlier, begin); rose = caused.rose; end = caused.end })
caused_longer a b c (of_disk (damage at kind)) earlier caused = tt
caused_longer a b c (of_disk no_memory) earlier caused = tt

-- since the moment of a disk that tells this, only what a crash then might leave was left
abbrev pub LeavesOnly : LeftSince → Told → Type 0
LeavesOnly past t = (image : List ℕ) → past t.moment image → MayLeave t.bytes t.unsettled image

pub leaves_only : (o : Option Told) (past : LeftSince)
    → ((image : List ℕ) → IfSome o (λ t. past t.moment image → MayLeave t.bytes t.unsettled image)) → IfSome o (LeavesOnly past)
leaves_only None past only = tt
leaves_only (Some t) past only = only

-- a header that names no entries has no whole range
no_range : (bytes : List ℕ) → IsUnarmed bytes → ¬ HasWholeRange bytes
no_range bytes unarmed range =
    let same = ap (λ (h : Header). h.undo_count) (same-header bytes range.header unarmed.header range.slot unarmed.slot range.counts unarmed.counts) in
    let none = unarmed.none in
    let some = range.some in
    absurd (omega (arith, same, none, some))

module _ (past left since : LeftSince) (fault : OpenFault) where
  -- A new volume is opened, unless the disk or memory fails, and nothing is written to it then.
  module _ (size : ℕ) (s t u : Told) (made : IsMade size s t) (not_mounted : IsNotMounted fault left since t u) (only : LeavesOnly left t) where
    stays : u ≡ t
    stays = (not_mounted.untouched (no_range t.bytes made.unarmed)).0

    -- a settled disk leaves itself alone
    left_alone : (image : List ℕ) → MayLeave t.bytes t.unsettled image → image ≡ t.bytes
    left_alone image may =
        MayLeave-settled t.bytes image (subst (λ (ranges : List (ℕ × ℕ)). MayLeave t.bytes ranges image) made.stands.settled may)

    crashed_since : (image : List ℕ) → since t.moment image → image ≡ t.bytes
    crashed_since image was = elim ((not_mounted.untouched (no_range t.bytes made.unarmed)).1 t.moment image was) [
      | inl before ↦ left_alone image (only image before)
      | inr now ↦ left_alone image (subst (λ (x : Told). MayLeave x.bytes x.unsettled image) stays now)
    ]

    stays_as_made : StaysAsMade size fault since s u
    stays_as_made = record {
      made = t;
      makes = made;
      failed = not_mounted.whole (fresh size) (record {
        result = t.bytes;
        recovers = record {
          header = made.unarmed.header;
          slot = made.unarmed.slot;
          counts = made.unarmed.counts;
          how = inl (made.unarmed.none, refl);
        };
        stands = made.stands.stands;
      });
      unwritten = stays;
      crashed = crashed_since;
    }

  unmounted : (size : ℕ) (a b c : Option Told) → BothTell a b (IsMade size) → BothTell b c (IsNotMounted fault left since)
      → IfSome b (LeavesOnly left) → BothTell a c (StaysAsMade size fault since)
  unmounted size None None None made not_mounted only = tt
  unmounted size None None (Some u) made not_mounted only = absurd not_mounted
  unmounted size None (Some t) c made not_mounted only = absurd made
  unmounted size (Some s) None c made not_mounted only = absurd made
  unmounted size (Some s) (Some t) None made not_mounted only = absurd not_mounted
  unmounted size (Some s) (Some t) (Some u) made not_mounted only = stays_as_made size s t u made not_mounted only

  unopened : (newfs : Option ℕ) (a b c : Option Told) → MakesWhereAsked newfs a b → (newfs ≡ None → left ≡ past)
      → BothTell b c (IsNotMounted fault left since) → IfSome b (LeavesOnly left) → IsUnopened newfs past since a c fault
  unopened None a b c made as_was not_mounted only =
      subst (λ (before : LeftSince). BothTell a c (IsNotMounted fault before since)) (as_was refl)
      (subst (λ (o : Option Told). BothTell o c (IsNotMounted fault left since)) made not_mounted)
  unopened (Some size) a b c made as_was not_mounted only = inr (unmounted size a b c made not_mounted only)

  -- a disk on which a volume was made or not, and none was opened
  pub StoppedOpening-mount : (newfs : Option ℕ) (a b c : Seen Told) → MakesWhereAsked newfs a.told b.told → (newfs ≡ None → left ≡ past)
      → BothTell b.told c.told (IsNotMounted fault left since) → IfSome b.told (LeavesOnly left) → a.faults ≤ b.faults
      → IsOpenCaused b.faults c.faults fault → StoppedOpening newfs past since a c (of_open fault)
  StoppedOpening-mount newfs a b c made as_was not_mounted only earlier caused = record {
    fault = fault;
    stop_is = refl;
    unopened = unopened newfs a.told b.told c.told made as_was not_mounted only;
    caused = caused_longer a.faults b.faults c.faults fault earlier caused;
  }
