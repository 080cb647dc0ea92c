use Rattle.std.proofs.Common.{◌≡◌, Some}
use Rattle.std.proofs.lemmas.Result.{on_ok_weaker}
use Rattle.hm_key.specs.Counts.{subject_of}
use Rattle.hm_key.specs.Key.{key_of}
use Rattle.hm_records.specs.Entry.{entry_bytes}
use Rattle.hm_cursor.specs.Told.{fulls}
use Rattle.hm_cursor.specs.Write.{AddsOfType, Rewrites}
use Rattle.hm_cursor.proofs.CallLemmas.{Change, Then, writes_both, writes_ok, writes_so}
use Rattle.hm_dirs.specs.Entries.{Clears}
use Rattle.hm_dirs.specs.Names.{AddsName, AreOlder}
use Rattle.hm_dirs.proofs.WriteLemmas.{adds_name, new_entry}
use Rattle.hm_dirs.proofs.add.add_name.Goals as goal

pub add_version-requires-clause-new : goal.add_version-requires-clause-new
add_version-requires-clause-new g c =
    let ranges = c.requires.ranges in
    let spelled : c.deref.result.now ≡ entry_bytes c.args.entry.now = cc (c.in_ok-bytes.ensures) in
    new_entry c.entry_base-at.result c.args.pfs.0 c.args.directory c.args.spot.key c.args.id.0 c.args.kind c.deref.result.now c.args.entry.now
    c.entry_base-at.ensures c.requires.id ranges.0 ranges.1 ranges.2 spelled

pub returns-clause-ok : goal.returns-clause-ok
returns-clause-ok g c =
    let elements = g.T.HasElements.elements in
    let extents = g.T.HasRoom.extents in
    let s = subject_of (key_of c.entry_base-at.result) in
    let bytes = c.deref.result.now in
    let i = c.args.id.0 in
    let pfs = c.args.pfs.0 in
    let entry = c.args.entry.now in
    let spelled : bytes ≡ entry_bytes entry = cc (c.in_ok-bytes.ensures) in
    let One : Change = Clears c.args.spot.hidden s i in
    let kind = c.args.kind in
    let Other : Change = Rewrites s (Some bytes) i in
    let Both : Change = λ mid es'. Rewrites s (Some bytes) i mid es' × AddsOfType kind mid es' in
    on_ok_weaker c.add_version.result
    (λ added. writes_so elements extents (Then One Both) (AddsName pfs c.args.directory c.args.spot i entry kind)
    (λ lists. AreOlder pfs c.args.directory i (fulls lists)) c.args.store.now c.add_version.new.store c.requires.older
    (λ was es' older steps.
    let (mid, clears, (rewrites, adds)) = steps in
    adds_name pfs c.args.directory c.args.spot i entry kind s bytes (fulls was) mid es' c.entry_base-at.ensures spelled c.requires.ranges.0 older clears
    rewrites adds)
    (writes_both elements extents One Both c.args.store.now c.clear.new.store c.add_version.new.store c.in_ok-clear.ensures.ok added))
    (writes_ok elements extents Other (AddsOfType kind) c.clear.new.store c.add_version.new.store c.add_version.result c.add_version.ensures.ok
    c.add_version.ensures.kind)
