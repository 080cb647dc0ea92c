use Rattle.std.proofs.Common.{◌≡◌, ℕ, length, take, refl, rules, ◌∙◌, subst, sym}
use Rattle.std.specs.Prelude.{IfSome}
use Rattle.hm_types.specs.Space.{rounded}
use Rattle.hm_key.specs.Extents.{extent_at}
use Rattle.hm_key.specs.Balance.{IsHeld}
use Rattle.hm_key.proofs.SweepLemmas.{held_live}
use Rattle.hm_reblock.proofs.CopyLemmas.{copies_given, live_long}
use Rattle.hm_reblock.proofs.extent.copy_through.Goals as goal

pub fetch-requires : goal.fetch-requires
fetch-requires g c =
    let e = c.args.element.now in
    let was = c.args.store.now in
    record {
      live = live_long e.payload e.len (length c.args.buffer.now) (g.T.HasRoom.extents was) c.requires.long
          (held_live e (g.T.HasElements.elements was) (g.T.HasRoom.extents was) (g.T.HasRoom.extents was)
          (g.met.T.Extents.together was) refl c.requires.balanced c.requires.there);
    }

pub returns-clause-ok : goal.returns-clause-ok
returns-clause-ok g c =
    let e = c.args.element.now in
    let was = c.args.store.now in
    let same : length c.fetch.new.buf ≡ length c.args.buffer.now = search rules in
    let long : length c.fetch.new.buf ≡ rounded e.len = same ∙ c.requires.long in
    let held : IfSome (g.T.HasRoom.extents was) (λ xs. IsHeld xs e) =
    held_live e (g.T.HasElements.elements was) (g.T.HasRoom.extents was) (g.T.HasRoom.extents was)
    (g.met.T.Extents.together was) refl c.requires.balanced c.requires.there in
    let read : IfSome (g.T.HasRoom.extents was) (λ xs. IfSome (extent_at e.payload xs) (λ x. c.fetch.new.buf ≡ take (length c.fetch.new.buf) x.bytes)) =
    subst (λ (n : ℕ). IfSome (g.T.HasRoom.extents was) (λ xs. IfSome (extent_at e.payload xs) (λ x. c.fetch.new.buf ≡ take n x.bytes))) (sym same)
    c.in_ok-fetch.ensures.ok in
    copies_given g.T.HasElements.elements g.T.HasElements.mark g.T.HasRoom.extents e c.fetch.new.buf c.zone.result was c.fetch.new.self c.place.new.self
    c.in_ok-fetch.ensures.keeps c.zone.ensures.value long held read (g.met.T.Extents.live was) (g.met.T.Extents.live c.place.new.self) c.place.result
    c.place.ensures.ok
