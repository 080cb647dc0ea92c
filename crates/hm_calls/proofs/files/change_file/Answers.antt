use Rattle.std.proofs.Common.{ℕ, refl, sym, subst, ◌∙◌}
use Rattle.std.proofs.lemmas.Result.{on_ok_weaker}
use Rattle.hm_key.specs.Balance.{IsBalanced, content_of, full_elements}
use Rattle.hm_key.specs.Elements.{IsContent}
use Rattle.hm_key.specs.Versions.{HaveOwnKeys}
use Rattle.hm_records.proofs.CountsLemmas.{own_keys-sorted}
use Rattle.hm_cursor.specs.Told.{Lists, fulls}
use Rattle.hm_cursor.proofs.CallLemmas.{Change, Then, known_after, writes_both, writes_none}
use Rattle.hm_cursor.proofs.PayloadLemmas.{full_sorted}
use Rattle.hm_objects.specs.Objects.{ResizesObject}
use Rattle.hm_files.specs.Close.{AreOlder}
use Rattle.hm_files.proofs.TellLemmas.{known_elements, writes_with}
use Rattle.hm_calls.specs.Edits.{ChangesBytes, ChangesFile, edited, size_after}
use Rattle.hm_calls.specs.Known.{AreBelow}
use Rattle.hm_calls.proofs.CauseLemmas.{reading_cause, store_cause_after}
use Rattle.hm_calls.proofs.FileLemmas.{all_spent, block_room, blocks_spent, bytes_changed, bytes_older, bytes_older_beside, file_changed, inode_spent}
use Rattle.hm_calls.proofs.FileLemmas.{room_after, there_already}
use Rattle.hm_calls.proofs.StepLemmas.{object_older, told_so}
use Rattle.hm_calls.proofs.files.change_file.Goals as goal

own_of : (lists : Lists) → IsContent lists.0 → HaveOwnKeys (fulls lists)
own_of lists content = own_keys-sorted (full_elements lists.0 lists.1) (full_sorted lists.0 lists.1 content.rising)

pub returns-then-is_there-clause-ok : goal.returns-then-is_there-clause-ok
returns-then-is_there-clause-ok g c =
    let elements = g.T.HasElements.elements in
    let extents = g.T.HasRoom.extents in
    let at = c.args.file.now.at in
    let old = c.args.store.now in
    writes_none elements extents (ChangesFile at.pfs.0 at.object.0 c.args.id.0 c.args.size (edited c.args.edit)) (λ lists. IsContent lists.0) old old refl refl
    (known_elements (elements old) (extents old) IsContent (g.met.T.ElementStore.sorted old))
    (λ was content. there_already at.pfs.0 at.object.0 c.args.id.0 c.args.edit c.args.size (fulls was) (own_of was content)
    (sym c.is_there.ensures ∙ c.if-is_there.true))

pub put_edit-requires-clause-older : goal.put_edit-requires-clause-older
put_edit-requires-clause-older g c =
    let at = c.args.file.now.at in
    told_so (content_of (g.T.HasElements.elements c.args.store.now) (g.T.HasRoom.extents c.args.store.now))
    (λ lists below. bytes_older at.pfs.0 c.args.id.0 at.object.0 (fulls lists) below) c.requires.below

pub put_edit-requires-clause-room : goal.put_edit-requires-clause-room
put_edit-requires-clause-room g c =
    block_room (g.T.HasRoom.room c.args.store.now) (c.requires.room (sym c.is_there.ensures ∙ c.if-is_there.false))

pub returns-then-after-size-clause-ok : goal.returns-then-after-size-clause-ok
returns-then-after-size-clause-ok g c =
    let elements = g.T.HasElements.elements in
    let extents = g.T.HasRoom.extents in
    let at = c.args.file.now.at in
    let i = c.args.id.0 in
    let edit = c.args.edit in
    let size = c.args.size in
    let old = c.args.store.now in
    let new = c.put_edit.new.store in
    on_ok_weaker c.put_edit.result
    (λ wrote. writes_with elements extents (ChangesBytes at.pfs.0 at.object.0 i size (size_after edit size) (edited edit))
    (ChangesFile at.pfs.0 at.object.0 i size (edited edit)) (λ lists. IsBalanced lists.0 lists.1) (λ lists. IsContent lists.0) old new
    (λ was now known content balanced bytes. bytes_changed at.pfs.0 i size (size_after edit size) (edited edit) (fulls was) (fulls now) (own_of now content)
    at.object.0 (sym c.size_after-after.ensures ∙ c.if-after-size.true) bytes)
    c.requires.balanced (known_elements (elements new) (extents new) IsContent (g.met.T.ElementStore.sorted new)) wrote)
    c.put_edit.ensures.ok

pub returns-then-after-size-clause-space : goal.returns-then-after-size-clause-space
returns-then-after-size-clause-space g c =
    blocks_spent g.T.HasRoom.room g.T.HasRoom.free c.args.store.now c.put_edit.new.store c.put_edit.ensures.space

pub returns-then-after-size-clause-cause : goal.returns-then-after-size-clause-cause
returns-then-after-size-clause-cause g c =
    reading_cause (g.T.HasElements.elements c.args.store.now) (g.T.HasRoom.extents c.args.store.now) (g.T.Counted.faults c.args.store.now)
    (g.T.Counted.faults c.put_edit.new.store) c.put_edit.result c.put_edit.ensures.cause

pub set_size-requires-clause-older : goal.set_size-requires-clause-older
set_size-requires-clause-older g c =
    let at = c.args.file.now.at in
    told_so (content_of (g.T.HasElements.elements c.args.store.now) (g.T.HasRoom.extents c.args.store.now))
    (λ lists below. object_older at.pfs.0 c.args.id.0 at.object.0 (fulls lists) below) c.requires.below

pub put_edit-requires-2-clause-older : goal.put_edit-requires-2-clause-older
put_edit-requires-2-clause-older g c =
    let at = c.args.file.now.at in
    known_after g.T.HasElements.elements g.T.HasRoom.extents (ResizesObject at.pfs.0 at.object.0 c.args.id.0 c.size_after-after.result)
    (λ lists. AreBelow at.pfs.0 c.args.id.0 (fulls lists)) (AreOlder at.pfs.0 at.object.0 c.args.id.0 0) c.args.store.now c.set_size.new.store
    c.in_ok-set_size.ensures.keeps.elements c.in_ok-set_size.ensures.keeps.extents c.requires.balanced c.requires.below
    (λ was mid below resizes. bytes_older_beside at.pfs.0 c.args.id.0 at.object.0 (fulls was) mid resizes.writes
    (bytes_older at.pfs.0 c.args.id.0 at.object.0 (fulls was) below))
    c.in_ok-set_size.ensures.ok

pub put_edit-requires-2-clause-room : goal.put_edit-requires-2-clause-room
put_edit-requires-2-clause-room g c =
    room_after g.T.HasRoom.room g.T.HasRoom.free c.args.store.now c.set_size.new.store c.in_ok-set_size.ensures.space
    (c.requires.room (sym c.is_there.ensures ∙ c.if-is_there.false))

pub returns-clause-ok : goal.returns-clause-ok
returns-clause-ok g c =
    let elements = g.T.HasElements.elements in
    let extents = g.T.HasRoom.extents in
    let at = c.args.file.now.at in
    let pfs = at.pfs.0 in
    let obj = at.object.0 in
    let i = c.args.id.0 in
    let edit = c.args.edit in
    let size = c.args.size in
    let after = c.size_after-after.result in
    let old = c.args.store.now in
    let mid = c.set_size.new.store in
    let new = c.put_edit-2.new.store in
    let One : Change = ResizesObject pfs obj i after in
    let Two : Change = ChangesBytes pfs obj i size (size_after edit size) (edited edit) in
    on_ok_weaker c.put_edit-2.result
    (λ wrote. writes_with elements extents (Then One Two) (ChangesFile pfs obj i size (edited edit)) (λ lists. IsBalanced lists.0 lists.1)
    (λ lists. IsContent lists.0) old new
    (λ was now known content balanced steps.
    let (middle, first, second) = steps in
    file_changed pfs i size after (edited edit) (fulls was) middle (fulls now) (own_of now content) obj first
    (subst (λ (n : ℕ). ChangesBytes pfs obj i size n (edited edit) middle (fulls now)) (sym c.size_after-after.ensures) second))
    c.requires.balanced (known_elements (elements new) (extents new) IsContent (g.met.T.ElementStore.sorted new))
    (writes_both elements extents One Two old mid new c.in_ok-set_size.ensures.ok wrote))
    c.put_edit-2.ensures.ok

pub returns-clause-space : goal.returns-clause-space
returns-clause-space g c =
    all_spent g.T.HasRoom.room g.T.HasRoom.free c.args.store.now c.set_size.new.store c.put_edit-2.new.store c.in_ok-set_size.ensures.space
    c.put_edit-2.ensures.space

pub returns-in_err-set_size-clause-space : goal.returns-in_err-set_size-clause-space
returns-in_err-set_size-clause-space g c =
    inode_spent g.T.HasRoom.room g.T.HasRoom.free c.args.store.now c.set_size.new.store c.in_err-set_size.ensures.space

pub returns-clause-cause : goal.returns-clause-cause
returns-clause-cause g c =
    let at = c.args.file.now.at in
    store_cause_after g.T.HasElements.elements g.T.HasRoom.extents (ResizesObject at.pfs.0 at.object.0 c.args.id.0 c.size_after-after.result)
    c.args.store.now c.set_size.new.store (g.T.Counted.faults c.args.store.now) (g.T.Counted.faults c.set_size.new.store)
    (g.T.Counted.faults c.put_edit-2.new.store) c.put_edit-2.result c.in_ok-set_size.ensures.cause.counted.never_falls c.in_ok-set_size.ensures.ok
    c.put_edit-2.ensures.cause
