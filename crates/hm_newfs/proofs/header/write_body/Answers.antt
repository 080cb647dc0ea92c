use Rattle.std.proofs.Common.{◌≡◌, ℕ, List, ap, subst, ◌∙◌}
use Rattle.hm_types.specs.Told.{BothTell}
use Rattle.hm_disk.specs.Disk.{Written}
use Rattle.hm_disk.proofs.DiskLemmas.{BothTell-map}
use Rattle.hm_header.specs.Layout.{body_of}
use Rattle.hm_header.proofs.AnswerLemmas.{OnOk-map}
use Rattle.hm_image.specs.Fresh.{fresh_header}
use Rattle.hm_newfs.specs.Steps.{HasSpace}
use Rattle.hm_newfs.proofs.WriteLemmas.{body-written}
use Rattle.hm_newfs.proofs.header.write_body.Goals as goal

pub returns-clause-ok : goal.returns-clause-ok
returns-clause-ok g c =
    let told = g.D.Disk.told c.args.disk.now in
    let new = g.D.Disk.told c.write_at.new.self in
    let body : c.encode.new.body ≡ body_of (fresh_header c.args.bigblocks) = c.encode.ensures ∙ ap body_of c.fresh_header.ensures in
    OnOk-map _ _ _ (λ written. BothTell-map told new (HasSpace c.args.bigblocks) _ _
    (λ s t room first. body-written c.args.bigblocks c.requires.size s t room first) c.requires.room
    (subst (λ (bs : List ℕ). BothTell told new (Written 0 bs)) body
    (subst (λ (place : ℕ). BothTell told new (Written place c.encode.new.body)) c.slot_place.ensures written)))
    c.write_at.ensures.ok
