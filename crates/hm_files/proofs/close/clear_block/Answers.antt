use Rattle.std.proofs.Common.{List, ◌+◌, ◌≤◌, None, Option, Some, refl, rules, subst}
use Rattle.std.specs.Prelude.{IfSome}
use Rattle.std.proofs.lemmas.Result.{on_ok_weaker}
use Rattle.hm_key.specs.Balance.{content_of}
use Rattle.hm_key.specs.Counts.{subject_of}
use Rattle.hm_key.specs.Elements.{element_key}
use Rattle.hm_key.specs.Key.{key_of}
use Rattle.hm_key.specs.declared.element.Element.{Element}
use Rattle.hm_cursor.specs.Told.{Lists, fulls}
use Rattle.hm_cursor.specs.Write.{Rewrites}
use Rattle.hm_cursor.proofs.CallLemmas.{Change, writes_from, writes_none, writes_so}
use Rattle.hm_files.specs.Close.{AreOlder, ClearsBlock}
use Rattle.hm_files.specs.Nearest.{FindsNearest}
use Rattle.hm_files.proofs.ClearLemmas.{clears_closed, clears_none, clears_same}
use Rattle.hm_files.proofs.CutLemmas.{AreBlocks}
use Rattle.hm_files.proofs.TellLemmas.{known_blocks, known_elements, known_two}
use Rattle.hm_files.proofs.close.clear_block.Goals as goal

pub returns-in_default-clause-ok : goal.returns-in_default-clause-ok
returns-in_default-clause-ok g c =
    let elements = g.T.HasElements.elements in
    let extents = g.T.HasRoom.extents in
    let pfs = c.args.pfs.0 in
    let obj = c.args.obj.0 in
    let i = c.args.id.0 in
    let begin = c.args.begin in
    let end = c.args.end in
    let at = key_of c.bytes_base-at.result in
    let near = c.clamp-near.result in
    let last = begin + 16384 in
    let old = c.args.store.now in
    let looked = c.nearest_version.new.store in
    let searched = c.in_ok-element.ensures in
    let from : begin ≤ near = search rules in
    let to : near ≤ last = search rules in
    let Old : Lists → Type 0 = λ lists. AreBlocks (fulls lists) × AreOlder pfs obj i (begin + 1) (fulls lists) in
    let Found : List Element → Type 0 = λ list. FindsNearest list at near last i None in
    let Known : Lists → Type 0 = λ lists. Old lists × Found lists.0 in
    let known = known_two Old (λ lists. Found lists.0) (content_of (elements old) (extents old))
    (known_two (λ lists. AreBlocks (fulls lists)) (λ lists. AreOlder pfs obj i (begin + 1) (fulls lists)) (content_of (elements old) (extents old))
    (known_blocks (elements old) (extents old) (g.met.T.ElementStore.sorted old) (g.met.T.Extents.live old) c.requires.balanced) c.requires.older)
    (known_elements (elements old) (extents old) Found
    (subst (λ (f : Option Element). IfSome (elements old) (λ list. FindsNearest list at near last i f)) c.in_default.is searched.ok)) in
    writes_none elements extents (ClearsBlock pfs obj i begin end) Known old looked searched.keeps.elements searched.keeps.extents known
    (λ was known. clears_none at pfs obj i begin near last end was c.bytes_base-at.ensures.about refl from to c.requires.block.0 known.0.0 known.1)

pub returns-then-element-end-clause-ok : goal.returns-then-element-end-clause-ok
returns-then-element-end-clause-ok g c =
    let elements = g.T.HasElements.elements in
    let extents = g.T.HasRoom.extents in
    let pfs = c.args.pfs.0 in
    let obj = c.args.obj.0 in
    let i = c.args.id.0 in
    let begin = c.args.begin in
    let end = c.args.end in
    let at = key_of c.bytes_base-at.result in
    let near = c.clamp-near.result in
    let last = begin + 16384 in
    let old = c.args.store.now in
    let looked = c.nearest_version.new.store in
    let searched = c.in_ok-element.ensures in
    let from : begin ≤ near = search rules in
    let to : near ≤ last = search rules in
    let Old : Lists → Type 0 = λ lists. AreBlocks (fulls lists) × AreOlder pfs obj i (begin + 1) (fulls lists) in
    let Found : List Element → Type 0 = λ list. FindsNearest list at near last i (Some c.in-Some.element) in
    let Known : Lists → Type 0 = λ lists. Old lists × Found lists.0 in
    let known = known_two Old (λ lists. Found lists.0) (content_of (elements old) (extents old))
    (known_two (λ lists. AreBlocks (fulls lists)) (λ lists. AreOlder pfs obj i (begin + 1) (fulls lists)) (content_of (elements old) (extents old))
    (known_blocks (elements old) (extents old) (g.met.T.ElementStore.sorted old) (g.met.T.Extents.live old) c.requires.balanced) c.requires.older)
    (known_elements (elements old) (extents old) Found
    (subst (λ (f : Option Element). IfSome (elements old) (λ list. FindsNearest list at near last i f)) c.in-Some.is searched.ok)) in
    writes_none elements extents (ClearsBlock pfs obj i begin end) Known old looked searched.keeps.elements searched.keeps.extents known
    (λ was known. clears_same at pfs obj i begin near last end was c.bytes_base-at.ensures.about refl from to c.requires.block.0 known.0.0
    c.in-Some.element known.1 c.if-element-end.true)

pub returns-clause-ok : goal.returns-clause-ok
returns-clause-ok g c =
    let elements = g.T.HasElements.elements in
    let extents = g.T.HasRoom.extents in
    let pfs = c.args.pfs.0 in
    let obj = c.args.obj.0 in
    let i = c.args.id.0 in
    let begin = c.args.begin in
    let end = c.args.end in
    let at = key_of c.bytes_base-at.result in
    let near = c.clamp-near.result in
    let last = begin + 16384 in
    let old = c.args.store.now in
    let looked = c.nearest_version.new.store in
    let searched = c.in_ok-element.ensures in
    let from : begin ≤ near = search rules in
    let to : near ≤ last = search rules in
    let Old : Lists → Type 0 = λ lists. AreBlocks (fulls lists) × AreOlder pfs obj i (begin + 1) (fulls lists) in
    let Found : List Element → Type 0 = λ list. FindsNearest list at near last i (Some c.in-Some.element) in
    let Known : Lists → Type 0 = λ lists. Old lists × Found lists.0 in
    let known = known_two Old (λ lists. Found lists.0) (content_of (elements old) (extents old))
    (known_two (λ lists. AreBlocks (fulls lists)) (λ lists. AreOlder pfs obj i (begin + 1) (fulls lists)) (content_of (elements old) (extents old))
    (known_blocks (elements old) (extents old) (g.met.T.ElementStore.sorted old) (g.met.T.Extents.live old) c.requires.balanced) c.requires.older)
    (known_elements (elements old) (extents old) Found
    (subst (λ (f : Option Element). IfSome (elements old) (λ list. FindsNearest list at near last i f)) c.in-Some.is searched.ok)) in
    let closed : Change = Rewrites (subject_of (element_key c.in-Some.element)) None i in
    on_ok_weaker c.close_versions.result
    (λ wrote. writes_so elements extents closed (ClearsBlock pfs obj i begin end) Known old c.close_versions.new.store known
    (λ was es' known rewrites. clears_closed at pfs obj i begin near last end was c.bytes_base-at.ensures.about refl from to c.requires.block.0 known.0.0
    c.in-Some.element known.1 es' c.if-element-end.false rewrites)
    (writes_from elements extents closed old looked c.close_versions.new.store searched.keeps.elements searched.keeps.extents wrote))
    c.close_versions.ensures.ok
