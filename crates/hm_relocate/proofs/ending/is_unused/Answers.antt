-- It is told whether nothing is live in a big-block.
use Rattle.std.proofs.Common.{◌≡◌, ap, sym, subst, ◌∙◌, ℕ, rules, pos}
use Rattle.std.proofs.lemmas.Bool.{eqb-true}
use Rattle.std.proofs.lemmas.Int.{to_z-of_z}
use Rattle.hm_types.specs.Layout.{IsPool}
use Rattle.hm_freemap.specs.Calls.{IsLive}
use Rattle.hm_pages.specs.Store.{contents}
use Rattle.hm_stored.specs.Heap.{heap_of, maps_of}
use Rattle.hm_stored.specs.declared.books.Books.{Books}
use Rattle.hm_relocate.proofs.LookedLemmas.{looked_live, looked_undamaged}
use Rattle.hm_relocate.proofs.ending.is_unused.Goals as goal
use mir.Syntax.{w64}
use mir.Val.{SFits, of_z, to_z}

pub returns-in_err-live-clause-undamaged : goal.returns-in_err-live-clause-undamaged
unfolding heap_of
returns-in_err-live-clause-undamaged g c =
    let s = c.args.stored.now in
    let h = heap_of (contents s.space.pages.store) (g.D.Disk.told s.space.disk) s.space.books in
    let blocks = ap (λ (b : Books). b.bigblocks) (c.books.ensures ∙ ap (λ s. s.books) c.space.ensures) in
    let pool : IsPool s.space.books.bigblocks c.args.block = subst (λ (n : ℕ). IsPool n c.args.block) blocks (search rules) in
    let undamaged = looked_undamaged h s.root c.args.block pool c.in_err-live.field-0.0 s.space.kept c.in_err-live.ensures.cause in
    search (rules, undamaged)

pub returns-clause-ok : goal.returns-clause-ok
unfolding heap_of
returns-clause-ok g c = λ none.
    let s = c.args.stored.now.space in
    let t = c.live_bytes.new.self.space in
    let h = heap_of (contents s.pages.store) (g.D.Disk.told s.disk) s.books in
    let k = heap_of (contents t.pages.store) (g.D.Disk.told t.disk) t.books in
    let live = c.in_ok-live.live in
    let fits : SFits w64 live = search rules in
    let is : live ≡ pos 0 = sym (to_z-of_z w64 live fits) ∙ ap (to_z w64) (eqb-true (of_z w64 live) 0 none) in
    looked_live h k c.live_bytes.ensures.same c.args.block
    (subst (IsLive s.books.bigblocks s.books.append (maps_of h) c.args.block) is c.in_ok-live.ensures.ok)
