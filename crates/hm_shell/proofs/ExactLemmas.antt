-- Which status the words, the script and the disk bring.
use Rattle.std.proofs.Common.{◌≡◌, ℕ, Bool, true, false, if◌then◌else◌, List, [], ◌∷◌, ◌++◌, Option, Some, None, length}
use Rattle.std.proofs.Common.{refl, sym, ◌∙◌, ap, subst, inl, inr, arith, lit<, length-append, append-nil}
use Rattle.std.specs.Prelude.{◌==◌, Contains, IfSome}
use Rattle.std.specs.List.{AllByRecursion}
use Rattle.std.proofs.lemmas.List.Elements.{Contains-append_left, recursion_from_All}
use Rattle.hm_types.specs.Told.{BothTell}
use Rattle.hm_types.specs.declared.fault.Fault.TheVariants.{Damaged as damage, Media as media, NoMemory as no_memory}
use Rattle.hm_pipe.specs.Pipe.{Gives, IsAtEnd}
use Rattle.hm_disk.specs.Crash.{Told}
use Rattle.hm_disk.specs.Moments.{LeftSince}
use Rattle.hm_header.specs.OnDisk.{HasFault, first_slot, second_slot}
use Rattle.hm_header.specs.declared.fault.HeaderFault.{HeaderFault}
use Rattle.hm_header.specs.declared.fault.HeaderFault.TheVariants.{BadField as header_field, NotVolume as header_none}
use Rattle.hm_header.proofs.SlotLemmas.{chosen_has_none}
use Rattle.hm_load.specs.Damage.{IsDamage}
use Rattle.hm_load.proofs.OnceLemmas.{whole_is_undamaged}
use Rattle.hm_undo.specs.Recovered.{RecoversTo}
use Rattle.hm_undo.proofs.RecoveredLemmas.{recovery-is-one}
use Rattle.hm_recover.specs.Damage.{HasRangeDamage}
use Rattle.hm_recover.specs.declared.fault.OpenFault.{OpenFault}
use Rattle.hm_recover.specs.declared.fault.OpenFault.TheVariants.{BadField as bad_field, Fault as of_disk, NotVolume as no_volume}
use Rattle.hm_recover.proofs.DamageLemmas.{recovers-faultless, recovers-whole, same-header}
use Rattle.hm_model.specs.declared.line.Line.{Line}
use Rattle.hm_model.specs.Lines.{texts_of}
use Rattle.hm_model.specs.Script.{IsTooLong}
use Rattle.hm_model.specs.Volume.{Volume}
use Rattle.hm_core.specs.Crash.{StandsRecovered}
use Rattle.hm_core.specs.Opened.{HasDamage, IsMade, IsNotMade, IsNotMounted, IsTooSmall}
use Rattle.hm_shell.specs.declared.stop.RunStop.{RunStop}
use Rattle.hm_shell.specs.declared.stop.RunStop.TheVariants.{Usage, NotVolume, BadField, DiskFault, Damaged, ScriptFault, OutFault, NoMemory, BadLine, TooLong}
use Rattle.hm_shell.specs.Devices.{Sight}
use Rattle.hm_shell.specs.Exact.{Brings, DiskBrings, NewBrings, OldBrings, ScriptBrings}
use Rattle.hm_shell.specs.Lines.{IsFirstRefused, IsGoodScript, IsServedText}
use Rattle.hm_shell.specs.Making.{MakesWhereAsked}
use Rattle.hm_shell.specs.Opening.{HasWhole, IsUnopened, OpensDisk, StaysAsMade, StoppedOpening}
use Rattle.hm_shell.specs.Preparing.{IsPrepared, StoppedPreparing}
use Rattle.hm_shell.specs.Reading.{WasRead}
use Rattle.hm_shell.specs.Run.{Stops}
use Rattle.hm_shell.specs.Running.{StoppedRunning, StoppedUsing}
use Rattle.hm_shell.specs.Seen.{Seen}
use Rattle.hm_shell.specs.Stop.{of_open, status_of}
use Rattle.hm_shell.proofs.EndLemmas.{HasEnded}
use Rattle.hm_shell.proofs.ReadLemmas.{lines_of_front}

-- of a device that tells
told_gives : {A : Type 0} (o : Option A) (P : A → Type 0) → ((x : A) → o ≡ Some x → P x) → IfSome o P
told_gives None P gives = tt
told_gives (Some x) P gives = gives x refl

each_gives : {A : Type 0} (o : Option A) (P Q : A → Type 0) → ((x : A) → P x → Q x) → IfSome o P → IfSome o Q
each_gives None P Q gives p = tt
each_gives (Some x) P Q gives p = gives x p

both_gives : (old new : Option Told) (R : Told → Told → Type 0) (P : Told → Type 0) → ((s t : Told) → R s t → P s) → BothTell old new R → IfSome old P
both_gives None new R P gives both = tt
both_gives (Some s) None R P gives both = absurd both
both_gives (Some s) (Some t) R P gives both = gives s t both

-- what was read to the end is all that was told
read_is_told : (script bytes : List ℕ) (after : Option (List ℕ)) → Gives (Some bytes) script after → IsAtEnd after → bytes ≡ script
read_is_told script bytes None gave ended = absurd (cc)
read_is_told script bytes (Some rest) gave ended =
    let all : bytes ≡ script ++ rest = cc in all ∙ (ap (λ r. script ++ r) ended ∙ append-nil script)

same_script : (old new : Seen (List ℕ)) (script bytes : List ℕ) → WasRead old new script → old.told ≡ Some bytes → bytes ≡ script
same_script old new script bytes read is = read_is_told script bytes new.told (rw is at read.gave) read.ended

short_enough : (old new : Seen (List ℕ)) (script : List ℕ) → WasRead old new script → IsTooLong script → ⊥
short_enough old new script read (inl bytes) = absurd (omega (arith, read.bytes, bytes))
short_enough old new script read (inr lines) = absurd (omega (arith, read.lines, lines))

-- what was told is too long where what was taken of it is
too_long_told : (taken bytes : List ℕ) (after : Option (List ℕ)) → Gives (Some bytes) taken after → IsTooLong taken → IsTooLong bytes
too_long_told taken bytes None gave long = absurd (cc)
too_long_told taken bytes (Some rest) gave (inl long) =
    let all : bytes ≡ taken ++ rest = cc in inl (omega (arith, ap length all, length-append taken rest, long))
too_long_told taken bytes (Some rest) gave (inr long) =
    let all : bytes ≡ taken ++ rest = cc in inr (omega (arith, ap (λ b. length (texts_of b)) all, lines_of_front taken rest, long))

-- where all texts are served, none is bad
served_after : (texts more : List (List ℕ)) → AllByRecursion IsServedText (texts ++ more) → AllByRecursion IsServedText more
served_after [] more good = good
served_after (t ∷ ts) more good = served_after ts more good.1

no_bad : (script : List ℕ) (number : ℕ) → IsGoodScript script → IsFirstRefused script number → ⊥
no_bad script number good bad =
    let all : AllByRecursion IsServedText (bad.before ++ bad.bad ∷ bad.rest) =
    subst (AllByRecursion IsServedText) bad.texts (recursion_from_All IsServedText (texts_of script) good) in
    bad.outside (served_after bad.before (bad.bad ∷ bad.rest) all).0

-- a damaged range names a header that counts, and what is whole, once it is recovered, has no damage
range_has_header : (bytes : List ℕ) (at kind : ℕ) (fault : HeaderFault) → HasRangeDamage bytes at kind → HasFault bytes fault → ⊥
range_has_header bytes at kind fault damaged =
    chosen_has_none (first_slot bytes) (second_slot bytes) (length bytes) damaged.header damaged.slot fault damaged.counts

whole_has_none : (bytes result : List ℕ) (at kind : ℕ) → RecoversTo bytes result → HasWhole result → HasDamage bytes at kind → ⊥
whole_has_none bytes result at kind recovers whole damaged =
    let same : damaged.result ≡ result = recovery-is-one bytes damaged.result result damaged.recovers recovers in
    let here : HasWhole damaged.result = subst HasWhole (sym same) whole in
    let header : damaged.header ≡ here.header =
    same-header damaged.result damaged.header here.header damaged.slot here.slot damaged.counts here.counts in
    whole_is_undamaged damaged.result here.header at kind here.whole (subst (λ h. IsDamage damaged.result h at kind) header damaged.damage)

-- the statuses that a whole disk brings are some of those that any disk with a header does
wider : (status : ℕ) → Contains (0 ∷ 4 ∷ 5 ∷ 6 ∷ 7 ∷ []) status → Contains (0 ∷ 4 ∷ 5 ∷ 6 ∷ 7 ∷ 10 ∷ []) status
wider status has = Contains-append_left (0 ∷ 4 ∷ 5 ∷ 6 ∷ 7 ∷ []) (10 ∷ []) status has

-- a status that comes anyway
any_disk : (newfs : Option ℕ) (t : Told) (status : ℕ) → Contains (3 ∷ 4 ∷ 5 ∷ 7 ∷ []) status → Contains (0 ∷ 4 ∷ 5 ∷ 6 ∷ 7 ∷ []) status
    → Contains (10 ∷ 4 ∷ 5 ∷ 7 ∷ []) status → DiskBrings newfs t status
any_disk None t status three whole ten = record {
  none = λ _ _. three;
  range = λ _ _ _. ten;
  damaged = λ _ _ _. ten;
  stands = λ _ _. whole;
  whole = λ _ _ _. whole;
  recovers = λ _ _. wider status whole;
}
any_disk (Some size) t status three whole ten = record { small = λ _. three; made = λ _. whole }

four_anyway : (newfs : Option ℕ) (o : Option Told) → IfSome o (λ t. DiskBrings newfs t 4)
four_anyway newfs o = told_gives o (λ t. DiskBrings newfs t 4) (λ t _. any_disk newfs t 4 (1, lit< tt, refl) (1, lit< tt, refl) (1, lit< tt, refl))

five_anyway : (newfs : Option ℕ) (o : Option Told) → IfSome o (λ t. DiskBrings newfs t 5)
five_anyway newfs o = told_gives o (λ t. DiskBrings newfs t 5) (λ t _. any_disk newfs t 5 (2, lit< tt, refl) (2, lit< tt, refl) (2, lit< tt, refl))

seven_anyway : (newfs : Option ℕ) (o : Option Told) → IfSome o (λ t. DiskBrings newfs t 7)
seven_anyway newfs o = told_gives o (λ t. DiskBrings newfs t 7) (λ t _. any_disk newfs t 7 (3, lit< tt, refl) (4, lit< tt, refl) (3, lit< tt, refl))

-- with a volume that was opened
old_opened : (s t : Told) (status : ℕ) → OpensDisk s t → Contains (0 ∷ 4 ∷ 5 ∷ 6 ∷ 7 ∷ []) status → OldBrings s status
old_opened s t status opens has = record {
  none = λ fault is. absurd (recovers-faultless s.bytes t.bytes fault opens.recovers is);
  range = λ at kind is. absurd (recovers-whole s.bytes t.bytes at kind opens.recovers is);
  damaged = λ at kind is. absurd (whole_has_none s.bytes t.bytes at kind opens.recovers opens.whole is);
  stands = λ _ _. has;
  whole = λ _ _ _. has;
  recovers = λ _ _. wider status has;
}

opened_brings : (newfs : Option ℕ) (disk began opened : Option Told) (status : ℕ) → MakesWhereAsked newfs disk began → BothTell began opened OpensDisk
    → Contains (0 ∷ 4 ∷ 5 ∷ 6 ∷ 7 ∷ []) status → IfSome disk (λ t. DiskBrings newfs t status)
opened_brings None disk began opened status makes opens has =
    both_gives disk opened OpensDisk (λ t. OldBrings t status) (λ s t opens. old_opened s t status opens has)
    (subst (λ (o : Option Told). BothTell o opened OpensDisk) makes opens)
opened_brings (Some size) disk began opened status makes opens has =
    both_gives disk began (IsMade size) (λ t. NewBrings size t status) (λ s t made. record {
      small = λ small. absurd (made.room small);
      made = λ _. has;
    }) makes

-- with a disk that has no volume
none_brings : (t : Told) (fault : HeaderFault) → HasFault t.bytes fault → OldBrings t 3
none_brings t fault is = record {
  none = λ _ _. (0, lit< tt, refl);
  range = λ at kind damaged. absurd (range_has_header t.bytes at kind fault damaged is);
  damaged = λ at kind damaged. absurd (recovers-faultless t.bytes damaged.result fault damaged.recovers is);
  stands = λ volume stands. absurd (recovers-faultless t.bytes stands.result fault stands.recovers is);
  whole = λ result recovers whole. absurd (recovers-faultless t.bytes result fault recovers is);
  recovers = λ result recovers. absurd (recovers-faultless t.bytes result fault recovers is);
}

-- with one whose range is damaged
range_brings : (t : Told) (at kind : ℕ) → HasRangeDamage t.bytes at kind → OldBrings t 10
range_brings t at kind is = record {
  none = λ fault faulty. absurd (range_has_header t.bytes at kind fault is faulty);
  range = λ _ _ _. (0, lit< tt, refl);
  damaged = λ _ _ _. (0, lit< tt, refl);
  stands = λ volume stands. absurd (recovers-whole t.bytes stands.result at kind stands.recovers is);
  whole = λ result recovers whole. absurd (recovers-whole t.bytes result at kind recovers is);
  recovers = λ _ _. (5, lit< tt, refl);
}

-- with one that is damaged once it is recovered
damage_brings : (t : Told) (at kind : ℕ) → HasDamage t.bytes at kind → ((volume : Volume) → StandsRecovered t.bytes volume → ⊥) → OldBrings t 10
damage_brings t at kind damaged never = record {
  none = λ fault is. absurd (recovers-faultless t.bytes damaged.result fault damaged.recovers is);
  range = λ _ _ _. (0, lit< tt, refl);
  damaged = λ _ _ _. (0, lit< tt, refl);
  stands = λ volume stands. absurd (never volume stands);
  whole = λ result recovers whole. absurd (whole_has_none t.bytes result at kind recovers whole damaged);
  recovers = λ _ _. (5, lit< tt, refl);
}

small_brings : (size : ℕ) (t : Told) → IsTooSmall size t → NewBrings size t 3
small_brings size t small = record { small = λ _. (0, lit< tt, refl); made = λ fits. absurd (fits small) }

-- with one on which none was opened
unmounted_brings : (past since : LeftSince) (s t : Told) (fault : OpenFault) → IsNotMounted fault past since s t
    → OldBrings s (status_of (of_open fault))
unmounted_brings past since s t no_volume not = none_brings s header_none not.why
unmounted_brings past since s t (bad_field place) not = none_brings s (header_field place) not.why
unmounted_brings past since s t (of_disk (damage at kind)) not = elim not.why [
  | inl range ↦ range_brings s at kind range
  | inr damaged ↦ damage_brings s at kind damaged not.whole
]
unmounted_brings past since s t (of_disk (media before after)) not = any_disk None s 4 (1, lit< tt, refl) (1, lit< tt, refl) (1, lit< tt, refl)
unmounted_brings past since s t (of_disk no_memory) not = any_disk None s 7 (3, lit< tt, refl) (4, lit< tt, refl) (3, lit< tt, refl)

-- with one on which none was made
unmade_brings : (size : ℕ) (old new : Option Told) (fault : OpenFault) → IsNotMade size old new fault
    → IfSome old (λ t. NewBrings size t (status_of (of_open fault)))
unmade_brings size old new no_volume not = absurd not
unmade_brings size old new (bad_field place) not = each_gives old (IsTooSmall size) (λ t. NewBrings size t 3) (small_brings size) not.2
unmade_brings size old new (of_disk (media before after)) not = four_anyway (Some size) old
unmade_brings size old new (of_disk (damage at kind)) not = absurd not
unmade_brings size old new (of_disk no_memory) not = absurd not

-- with one on which a volume was made, and not opened
unopened_brings : (size : ℕ) (since : LeftSince) (old new : Option Told) (fault : OpenFault) → BothTell old new (StaysAsMade size fault since)
    → IfSome old (λ t. NewBrings size t (status_of (of_open fault)))
unopened_brings size since old new no_volume made =
    both_gives old new (StaysAsMade size no_volume since) (λ t. NewBrings size t 3) (λ s t made. absurd made.failed) made
unopened_brings size since old new (bad_field place) made =
    both_gives old new (StaysAsMade size (bad_field place) since) (λ t. NewBrings size t 3) (λ s t made. absurd made.failed) made
unopened_brings size since old new (of_disk (media before after)) made = four_anyway (Some size) old
unopened_brings size since old new (of_disk (damage at kind)) made =
    both_gives old new (StaysAsMade size (of_disk (damage at kind)) since) (λ t. NewBrings size t 10) (λ s t made. absurd made.failed) made
unopened_brings size since old new (of_disk no_memory) made = seven_anyway (Some size) old

not_opened_brings : (newfs : Option ℕ) (past since : LeftSince) (old new : Option Told) (fault : OpenFault) → IsUnopened newfs past since old new fault
    → IfSome old (λ t. DiskBrings newfs t (status_of (of_open fault)))
not_opened_brings None past since old new fault not =
    both_gives old new (IsNotMounted fault past since) (λ t. OldBrings t (status_of (of_open fault)))
    (λ s t not. unmounted_brings past since s t fault not) not
not_opened_brings (Some size) past since old new fault (inl not) = unmade_brings size old new fault not
not_opened_brings (Some size) past since old new fault (inr made) = unopened_brings size since old new fault made

abbrev MayCome : Option ℕ → Option Told → ℕ → Type 0
MayCome newfs disk status = Contains (0 ∷ 3 ∷ 4 ∷ 5 ∷ 6 ∷ 7 ∷ 10 ∷ []) status × IfSome disk (λ t. DiskBrings newfs t status)

open_status : (fault : OpenFault) → Contains (0 ∷ 3 ∷ 4 ∷ 5 ∷ 6 ∷ 7 ∷ 10 ∷ []) (status_of (of_open fault))
open_status no_volume = (1, lit< tt, refl)
open_status (bad_field place) = (1, lit< tt, refl)
open_status (of_disk (media before after)) = (2, lit< tt, refl)
open_status (of_disk (damage at kind)) = (6, lit< tt, refl)
open_status (of_disk no_memory) = (5, lit< tt, refl)

opening_brings : (newfs : Option ℕ) (past since : LeftSince) (old new : Seen Told) (stop : RunStop) → StoppedOpening newfs past since old new stop
    → MayCome newfs old.told (status_of stop)
opening_brings newfs past since old new stop stopped =
    subst (λ s. MayCome newfs old.told (status_of s)) (sym stopped.stop_is)
    (open_status stopped.fault, not_opened_brings newfs past since old.told new.told stopped.fault stopped.unopened)

module _ (newfs : Option ℕ) (lines : List Line) (past since : LeftSince) (old_disk new_disk : Seen Told) (old_out new_out : Seen (List ℕ)) where
  abbrev Used : RunStop → Type 0
  Used stop = StoppedUsing newfs lines since old_disk new_disk old_out new_out stop

  using_brings : (stop : RunStop) → Used stop → MayCome newfs old_disk.told (status_of stop)
  using_brings OutFault using =
      ((4, lit< tt, refl), opened_brings newfs old_disk.told using.began using.opened 6 using.makes using.opens (3, lit< tt, refl))
  using_brings NoMemory using = ((5, lit< tt, refl), seven_anyway newfs old_disk.told)
  using_brings (DiskFault before after) using = ((2, lit< tt, refl), four_anyway newfs old_disk.told)
  using_brings (Damaged at kind) using = elim using.stops [ inl line ↦ absurd line.cause | inr writing ↦ absurd writing.cause ]
  using_brings Usage using = elim using.stops [ inl line ↦ absurd line.cause | inr writing ↦ absurd writing.cause ]
  using_brings NotVolume using = elim using.stops [ inl line ↦ absurd line.cause | inr writing ↦ absurd writing.cause ]
  using_brings (BadField place) using = elim using.stops [ inl line ↦ absurd line.cause | inr writing ↦ absurd writing.cause ]
  using_brings (ScriptFault b a) using = elim using.stops [ inl line ↦ absurd line.cause | inr writing ↦ absurd writing.cause ]
  using_brings (BadLine number why) using = elim using.stops [ inl line ↦ absurd line.cause | inr writing ↦ absurd writing.cause ]
  using_brings TooLong using = elim using.stops [ inl line ↦ absurd line.cause | inr writing ↦ absurd writing.cause ]

  running_brings : (stop : RunStop) → StoppedRunning newfs lines past since old_disk new_disk old_out new_out stop
      → MayCome newfs old_disk.told (status_of stop)
  running_brings stop (inl opening) = opening_brings newfs past since old_disk new_disk stop opening.0
  running_brings stop (inr using) = using_brings stop using

-- a script that was found good
good_brings : (words : List (List ℕ)) (old : Sight) (new_script : Seen (List ℕ)) (newfs : Option ℕ) (lines : List Line) (status : ℕ)
    → IsPrepared words newfs lines old.script new_script → MayCome newfs old.disk.told status → Brings words old status
good_brings words old new_script newfs lines status prepared may plan = (
  prepared.volume,
  newfs,
  prepared.plan,
  told_gives old.script.told (λ bytes. ScriptBrings newfs old.disk.told bytes status)
      (λ bytes is. subst (λ b. ScriptBrings newfs old.disk.told b status)
      (sym (same_script old.script new_script prepared.script bytes prepared.read is)) (record {
        too_long = λ long. absurd (short_enough old.script new_script prepared.script prepared.read long);
        bad = λ number _ bad. absurd (no_bad prepared.script number prepared.good bad);
        good = λ _ _. may;
      })),
)

preparing_brings : (words : List (List ℕ)) (old : Sight) (new : Seen (List ℕ)) (stop : RunStop) → StoppedPreparing words old.script new stop
    → Brings words old (status_of stop)
preparing_brings words old new Usage stopped plan = absurd (stopped.0 plan.0 plan.1 plan.2)
preparing_brings words old new (ScriptFault before after) stopped plan = (
  plan.0,
  plan.1,
  plan.2,
  told_gives old.script.told (λ bytes. ScriptBrings plan.1 old.disk.told bytes 5) (λ bytes is. record {
    too_long = λ _. (1, lit< tt, refl);
    bad = λ _ _ _. (1, lit< tt, refl);
    good = λ _ _. ((3, lit< tt, refl), five_anyway plan.1 old.disk.told);
  }),
)
preparing_brings words old new NoMemory stopped plan = (
  plan.0,
  plan.1,
  plan.2,
  told_gives old.script.told (λ bytes. ScriptBrings plan.1 old.disk.told bytes 7) (λ bytes is. record {
    too_long = λ _. (2, lit< tt, refl);
    bad = λ _ _ _. (2, lit< tt, refl);
    good = λ _ _. ((5, lit< tt, refl), seven_anyway plan.1 old.disk.told);
  }),
)
preparing_brings words old new TooLong stopped plan = (
  plan.0,
  plan.1,
  plan.2,
  told_gives old.script.told (λ bytes. ScriptBrings plan.1 old.disk.told bytes 9) (λ bytes is.
      let long : IsTooLong bytes = too_long_told stopped.1.0 bytes new.told (rw is at stopped.1.1) stopped.1.2 in
      record {
        too_long = λ _. (0, lit< tt, refl);
        bad = λ _ short _. absurd (short long);
        good = λ short _. absurd (short long);
      }),
)
preparing_brings words old new (BadLine number why) stopped plan = (
  plan.0,
  plan.1,
  plan.2,
  told_gives old.script.told (λ bytes. ScriptBrings plan.1 old.disk.told bytes 8) (λ bytes is.
      subst (λ b. ScriptBrings plan.1 old.disk.told b 8) (sym (same_script old.script new stopped.1 bytes stopped.2 is)) (record {
        too_long = λ long. absurd (short_enough old.script new stopped.1 stopped.2 long);
        bad = λ _ _ _. (0, lit< tt, refl);
        good = λ _ good. absurd (no_bad stopped.1 number good stopped.3);
      })),
)
preparing_brings words old new NotVolume stopped plan = absurd stopped
preparing_brings words old new (BadField place) stopped plan = absurd stopped
preparing_brings words old new (DiskFault b a) stopped plan = absurd stopped
preparing_brings words old new (Damaged at kind) stopped plan = absurd stopped
preparing_brings words old new OutFault stopped plan = absurd stopped

module _ (words : List (List ℕ)) (past since : LeftSince) (old new : Sight) where
  stops_bring : (made : Sight) (stop : RunStop) → Stops words past since old made stop → Brings words old (status_of stop)
  stops_bring made stop (inl before) = preparing_brings words old made.script stop before.0
  stops_bring made stop (inr later) =
      good_brings words old made.script later.newfs later.lines (status_of stop) later.prepared
      (running_brings later.newfs later.lines past since old.disk made.disk old.out made.out stop later.stopped)

  -- what a run brings, however it ended
  pub Brings-ended : (status : ℕ) → HasEnded words past since old new status → Brings words old status
  Brings-ended status (inl done) =
      let runs = done.1.runs in
      subst (Brings words old) (sym done.0) (good_brings words old new.script done.1.newfs done.1.lines 0 done.1.prepared
      ((0, lit< tt, refl), opened_brings done.1.newfs old.disk.told runs.began runs.opened 0 runs.makes runs.opens (0, lit< tt, refl)))
  Brings-ended status (inr stopped) =
      subst (Brings words old) (sym stopped.1) (stops_bring (record new { out = stopped.2.out }) stopped.0 stopped.2.stops)
