use Rattle.std.proofs.Common.{◌≡◌, ◌∙◌, ◌^◌, ◌<◌, ℕ, List, sym, ap, subst, Err, rules, arith}
use Rattle.hm_fields.specs.Pages.{PageMap}
use Rattle.hm_freemap.specs.Change.{MayHold, given}
use Rattle.hm_freemap.specs.Entry.{IsPoolEntry, entry_in}
use Rattle.hm_freemap.specs.Extents.{Changes, IsReferred, reference, unreferred}
use Rattle.hm_freemap.specs.Places.{place_of}
use Rattle.hm_freemap.specs.Stand.{Maps, EntryPut, entry_page}
use Rattle.hm_freemap.specs.declared.entry.Entry.{Entry}
use Rattle.hm_types.specs.Layout.{block_of}
use Rattle.hm_types.specs.Offset.{byte_of}
use Rattle.hm_types.specs.Space.{rounded}
use Rattle.hm_freemap.proofs.CauseLemmas.{cause_later, extent_cause, extent_on}
use Rattle.hm_freemap.proofs.ExtentLemmas.{give_changes}
use Rattle.hm_freemap.proofs.ToldLemmas.{told_moves, ok_moves}
use Rattle.hm_freemap.proofs.freemap.Freemap.give_extent.Goals as goal

pub returns-in_err-entry-clause-cause : goal.returns-in_err-entry-clause-cause
returns-in_err-entry-clause-cause g c =
    let self = c.args.self.now in
    let is : c.from_residual.result ≡ Err c.in_err-entry.field-0.0 = search rules in
    let size : c.rounded-size.result ≡ rounded c.args.len = c.rounded-size.ensures ∙ ap rounded c.from.ensures in
    extent_on {T = Entry} self.bigblocks self.append c.block_at-block.result (block_of (byte_of c.args.at)) c.rounded-size.result (rounded c.args.len)
    (g.P.States.committed self.pages) (g.P.States.frozen self.pages) (g.P.Pages.pages self.pages)
    (g.P.Counted.faults self.pages) (g.P.Counted.faults c.read_live.new.pages) c.in_err-entry.field-0.0 c.from_residual.result
    c.block_at-block.ensures.value size is (c.in_err-entry.ensures.cause self.append)

pub returns-clause-ok : goal.returns-clause-ok
returns-clause-ok g c =
    let self = c.args.self.now in
    let r = reference c.args.at c.args.len in
    let block = c.block_at-block.result in
    let entry = c.in_ok-entry.entry in
    let page = c.read_live.new.page in
    let ok = c.in_ok-entry.ensures.ok in
    let committed = g.P.States.committed self.pages in
    let frozen = g.P.States.frozen self.pages in
    let current = g.P.Pages.pages self.pages in
    let new = g.P.Pages.pages c.put_entry.new.pages in
    let size : c.rounded-size.result ≡ rounded c.args.len = c.rounded-size.ensures ∙ ap rounded c.from.ensures in
    let next : c.given-next.result ≡ given (rounded c.args.len) entry = c.given-next.ensures ∙ ap (λ (n : ℕ). given n entry) size in
    let small : block < 2 ^ 32 = omega (arith, c.block_at-block.ensures.few) in
    ok_moves committed frozen current new
    (λ maps now. EntryPut block c.given-next.result maps.current now × (entry_page maps.current block ≡ page))
    (Changes self.bigblocks self.append r (IsReferred r) (unreferred r) (given (rounded c.args.len)))
    c.put_entry.result
    (λ (maps : Maps) (now : PageMap) fact.
    give_changes self.bigblocks self.append r maps now block entry c.block_at-block.ensures.value small
    (ok.0 ∙ ap (λ (p : List ℕ). entry_in p (place_of block)) (sym fact.1))
    (subst IsPoolEntry (sym ok.0) ok.1.entry) (subst (λ (n : ℕ). MayHold n entry) size ok.2)
    (subst (λ (e : Entry). EntryPut block e maps.current now) next fact.0))
    (told_moves committed frozen current (g.P.Pages.pages c.read_live.new.pages) new block page c.given-next.result c.put_entry.result
    c.in_ok-entry.ensures.same.0 c.in_ok-entry.ensures.read c.put_entry.ensures.ok)

pub returns-clause-cause : goal.returns-clause-cause
returns-clause-cause g c =
    let self = c.args.self.now in
    let committed = g.P.States.committed self.pages in
    let frozen = g.P.States.frozen self.pages in
    let current = g.P.Pages.pages self.pages in
    let old = g.P.Counted.faults self.pages in
    let block = block_of (byte_of c.args.at) in
    extent_cause self.bigblocks self.append block (rounded c.args.len) committed frozen current old
    (g.P.Counted.faults c.put_entry.new.pages) c.put_entry.result
    (cause_later self.bigblocks self.append (λ one. one ≡ block) committed frozen current
    (g.P.Pages.pages c.read_live.new.pages) old (g.P.Counted.faults c.read_live.new.pages) (g.P.Counted.faults c.put_entry.new.pages) c.put_entry.result
    (c.in_ok-entry.ensures.cause self.append).counted.never_falls c.in_ok-entry.ensures.same.0 c.put_entry.ensures.cause)
