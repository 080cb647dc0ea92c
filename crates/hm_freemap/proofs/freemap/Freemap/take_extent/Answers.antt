use Rattle.std.proofs.Common.{◌≡◌, ◌∙◌, ◌<◌, ℕ, List, length, slice_index, sym, ap, subst, true≢false, refl, Ok, Err, rules, arith}
use Rattle.hm_fields.specs.Pages.{PageMap}
use Rattle.hm_types.specs.Space.{rounded}
use Rattle.hm_types.specs.declared.limits.TheConstants.{MOST_BIGBLOCKS}
use Rattle.hm_freemap.specs.Change.{HasRoomFor, appended}
use Rattle.hm_freemap.specs.Entry.{IsPoolEntry, entry_in}
use Rattle.hm_freemap.specs.Extents.{Takes}
use Rattle.hm_freemap.specs.Places.{place_of}
use Rattle.hm_freemap.specs.Stand.{Maps, EntryPut, append_of, entry_page}
use Rattle.hm_freemap.specs.declared.entry.Entry.{Entry}
use Rattle.hm_freemap.proofs.CauseLemmas.{cause_later, cause_ok, cause_on}
use Rattle.hm_freemap.proofs.TakeLemmas.{bad_append, take_takes, zone_of_room}
use Rattle.hm_freemap.proofs.ToldLemmas.{told_moves, moves_map}
use Rattle.hm_freemap.proofs.freemap.Freemap.take_extent.Goals as goal

pub returns-in_err-entry-clause-cause : goal.returns-in_err-entry-clause-cause
returns-in_err-entry-clause-cause g c =
    let self = c.args.self.now in
    let is : c.from_residual.result ≡ Err c.in_err-entry.field-0.0 = search rules in
    let one : c.from-block.result ≡ append_of self.append c.args.zone = c.from-block.ensures ∙ ap (slice_index self.append) c.from.ensures in
    cause_on {T = Entry} self.bigblocks self.append c.from-block.result (append_of self.append c.args.zone) (g.P.States.committed self.pages)
    (g.P.States.frozen self.pages) (g.P.Pages.pages self.pages)
    (g.P.Counted.faults self.pages) (g.P.Counted.faults c.read_entry.new.pages) c.in_err-entry.field-0.0 c.from_residual.result
    one is (c.in_err-entry.ensures.cause self.append)

pub returns-in_default-clause-cause : goal.returns-in_default-clause-cause
returns-in_default-clause-cause g c =
    let self = c.args.self.now in
    let size : c.rounded.result ≡ rounded c.args.len = c.rounded.ensures ∙ ap rounded c.from-2.ensures in
    let one : c.from-block.result ≡ append_of self.append c.args.zone = c.from-block.ensures ∙ ap (slice_index self.append) c.from.ensures in
    bad_append self.bigblocks self.append c.args.zone c.args.len c.from-block.result c.read_entry.new.page (g.P.States.committed self.pages)
    (g.P.States.frozen self.pages) (g.P.Pages.pages self.pages)
    (g.P.Counted.faults self.pages) (g.P.Counted.faults c.read_entry.new.pages) c.bad_entry.result
    c.requires.some c.requires.room one c.in_ok-entry.ensures.read
    (λ has. true≢false (sym (c.in_default.ensures.some.1 (rw (size, c.in_ok-entry.ensures.ok.0) has)))) c.bad_entry.ensures
    (c.in_ok-entry.ensures.cause self.append).counted.never_falls

pub returns-in_err-put_entry-clause-cause : goal.returns-in_err-put_entry-clause-cause
returns-in_err-put_entry-clause-cause g c =
    let self = c.args.self.now in
    let block = append_of self.append c.args.zone in
    let fault = c.in_err-put_entry.field-0.0 in
    let is : c.from_residual-in_err-put_entry.result ≡ Err fault = search rules in
    cause_on {T = Unit {0}} self.bigblocks self.append block block (g.P.States.committed self.pages) (g.P.States.frozen self.pages) (g.P.Pages.pages self.pages)
    (g.P.Counted.faults self.pages) (g.P.Counted.faults c.put_entry.new.pages) fault c.from_residual-in_err-put_entry.result refl is
    (cause_later self.bigblocks self.append (λ one. one ≡ block) (g.P.States.committed self.pages) (g.P.States.frozen self.pages) (g.P.Pages.pages self.pages)
    (g.P.Pages.pages c.read_entry.new.pages) (g.P.Counted.faults self.pages) (g.P.Counted.faults c.read_entry.new.pages)
    (g.P.Counted.faults c.put_entry.new.pages) (Err fault)
    (c.in_ok-entry.ensures.cause self.append).counted.never_falls c.in_ok-entry.ensures.same.0 c.in_err-put_entry.ensures.cause)

pub returns-clause-ok : goal.returns-clause-ok
returns-clause-ok g c =
    let self = c.args.self.now in
    let zone = c.args.zone in
    let len = c.args.len in
    let block = c.from-block.result in
    let entry = c.in_ok-entry.entry in
    let page = c.read_entry.new.page in
    let at = c.offset_of.result in
    let ok = c.in_ok-entry.ensures.ok in
    let committed = g.P.States.committed self.pages in
    let frozen = g.P.States.frozen self.pages in
    let current = g.P.Pages.pages self.pages in
    let new = g.P.Pages.pages c.put_entry.new.pages in
    let size : c.rounded.result ≡ rounded len = c.rounded.ensures ∙ ap rounded c.from-2.ensures in
    let one : block ≡ append_of self.append zone = c.from-block.ensures ∙ ap (slice_index self.append) c.from.ensures in
    let zones = zone_of_room self.append current zone len c.requires.some c.requires.room in
    let next : c.in-Some.next ≡ appended (rounded len) entry = c.in-Some.ensures.value ∙ ap (λ (n : ℕ). appended n entry) size in
    let room : HasRoomFor zone (rounded len) entry = subst (λ (n : ℕ). HasRoomFor zone n entry) size (c.in-Some.ensures.some.0 refl) in
    let four : length self.append ≡ 4 = search rules in
    let few : block < MOST_BIGBLOCKS = omega (arith, ok.2, self.most) in
    moves_map committed frozen current new
    (λ maps now. EntryPut block c.in-Some.next maps.current now × (entry_page maps.current block ≡ page))
    (Takes self.bigblocks self.append zone len at)
    (λ (maps : Maps) (now : PageMap) fact.
    take_takes self.bigblocks self.append zone len at maps now block entry four one zones.0 zones.1 few c.requires.some
    (ok.0 ∙ ap (λ (p : List ℕ). entry_in p (place_of block)) (sym fact.1))
    (subst IsPoolEntry (sym ok.0) ok.1.entry)
    room c.offset_of.ensures.value c.offset_of.ensures.parts.0 c.offset_of.ensures.parts.1
    (subst (λ (e : Entry). EntryPut block e maps.current now) next fact.0))
    (told_moves {T = Unit {0}} committed frozen current (g.P.Pages.pages c.read_entry.new.pages) new block page c.in-Some.next (Ok tt)
    c.in_ok-entry.ensures.same.0 c.in_ok-entry.ensures.read c.in_ok-put_entry.ensures.ok)

pub returns-clause-cause : goal.returns-clause-cause
returns-clause-cause g c =
    let self = c.args.self.now in
    let grows = (c.in_ok-entry.ensures.cause self.append).counted.never_falls in
    let further = c.in_ok-put_entry.ensures.cause.counted.never_falls in
    cause_ok self.bigblocks self.append (λ one. one ≡ append_of self.append c.args.zone) (g.P.States.committed self.pages)
    (g.P.States.frozen self.pages) (g.P.Pages.pages self.pages)
    (g.P.Counted.faults self.pages) (g.P.Counted.faults c.put_entry.new.pages) c.offset_of.result (omega (arith, grows, further))
