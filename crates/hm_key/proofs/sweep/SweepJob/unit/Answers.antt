use Rattle.std.proofs.Common.{ℕ, List, refl, ap, ◌∙◌, inl, arith}
use Rattle.std.specs.Prelude.{if◌then◌else◌, option_map, is_some}
use Rattle.hm_key.specs.Elements.{element_key, removed}
use Rattle.hm_key.specs.Extents.{Extent, given_back_at}
use Rattle.hm_key.specs.Key.{key_of}
use Rattle.hm_key.specs.Sweep.{keeps_one}
use Rattle.hm_key.specs.declared.element.Element.{Element}
use Rattle.hm_key.proofs.SweepLemmas.{found_there, marks_over, marks_stay, works_same, works_cleared, works_balanced, over_dead, found_element, goes_further}
use Rattle.hm_key.proofs.sweep.SweepJob.unit.Goals as goal

pub returns-in_default-clause-store : goal.returns-in_default-clause-store
returns-in_default-clause-store g c = record {
  content =
      works_same (keeps_one c.args.self.now.pfs c.args.self.now.id) (g.T.HasElements.elements c.args.store.now) (g.T.HasElements.elements c.args.store.now)
      (g.T.HasRoom.extents c.args.store.now) (g.T.HasRoom.extents c.args.store.now) refl refl;
  keeps = record { elements = refl; extents = refl };
  marks = marks_stay (g.T.HasElements.elements c.args.store.now) (g.T.HasElements.mark c.args.store.now) (g.T.HasElements.mark c.args.store.now) refl;
  free = omega arith;
  room = λ places zone. omega arith;
}

pub returns-in_default-2-clause-store : goal.returns-in_default-2-clause-store
returns-in_default-2-clause-store g c = let same = c.first_at_or_after.ensures.keeps in record {
  content =
      works_same (keeps_one c.args.self.now.pfs c.args.self.now.id) (g.T.HasElements.elements c.args.store.now)
      (g.T.HasElements.elements c.first_at_or_after.new.self)
      (g.T.HasRoom.extents c.args.store.now) (g.T.HasRoom.extents c.first_at_or_after.new.self) same.elements same.extents;
  keeps = record { elements = ap is_some same.elements; extents = ap is_some same.extents };
  marks =
      marks_stay (g.T.HasElements.elements c.args.store.now) (g.T.HasElements.mark c.args.store.now)
      (g.T.HasElements.mark c.first_at_or_after.new.self) same.mark;
  free = omega (arith, same.free);
  room = λ places zone. omega (arith, ap (λ (room : ℕ → ℕ). room zone) same.room);
}

pub clear-requires-clause-there : goal.clear-requires-clause-there
clear-requires-clause-there g c =
    found_there (key_of c.in-Some.from) c.in-Some-2.element c.in_ok-element.field-0 (g.T.HasElements.elements c.args.store.now)
    (g.T.HasElements.elements c.first_at_or_after.new.self)
    c.first_at_or_after.ensures.keeps.elements (g.met.T.ElementStore.sorted c.args.store.now) c.in_ok-element.ensures.ok c.in-Some-2.is

pub returns-clause-store : goal.returns-clause-store
returns-clause-store g c =
    let same = c.first_at_or_after.ensures.keeps in
    let there = found_there (key_of c.in-Some.from) c.in-Some-2.element c.in_ok-element.field-0 (g.T.HasElements.elements c.args.store.now)
    (g.T.HasElements.elements c.args.store.now) refl (g.met.T.ElementStore.sorted c.args.store.now) c.in_ok-element.ensures.ok c.in-Some-2.is in
    let is = found_element (key_of c.in-Some.from) c.in-Some-2.element c.in_ok-element.field-0 c.in_ok-element.ensures.found c.in-Some-2.is in
    let change = λ (list : List Element). if c.is_over.result then removed (element_key c.in-Some-2.element) list else list in
    let others = λ (list : List Extent). if c.is_over.result then given_back_at c.in-Some-2.element.payload list else list in
    record {
      content =
          works_cleared (keeps_one c.args.self.now.pfs c.args.self.now.id) c.is_over.result c.in-Some-2.element (g.T.HasElements.elements c.args.store.now)
          (g.T.HasElements.elements c.clear.new.store)
          (g.T.HasRoom.extents c.args.store.now) (g.T.HasRoom.extents c.clear.new.store)
          (c.in_ok-clear.ensures.ok.elements ∙ ap (option_map change) c.first_at_or_after.ensures.keeps.elements)
          (c.in_ok-clear.ensures.ok.extents ∙ ap (option_map others) c.first_at_or_after.ensures.keeps.extents)
          there (g.met.T.Extents.live c.args.store.now)
          (λ over list. over_dead c.args.self.now.pfs c.args.self.now.id c.in-Some-2.element list (c.is_over.ensures.0 over) is);
      keeps =
          record {
            elements = c.in_ok-clear.ensures.keeps.elements ∙ ap is_some same.elements;
            extents = c.in_ok-clear.ensures.keeps.extents
                ∙ ap is_some same.extents;
          };
      marks =
          marks_over (g.T.HasElements.elements c.args.store.now) (g.T.HasElements.elements c.first_at_or_after.new.self) (g.T.HasElements.mark c.args.store.now)
          (g.T.HasElements.mark c.first_at_or_after.new.self)
          (g.T.HasElements.mark c.clear.new.store) same.elements same.mark c.in_ok-clear.ensures.ok.marks;
      free = omega (arith, same.free, c.in_ok-clear.ensures.space.free);
      room = λ places zone. omega (arith, ap (λ (room : ℕ → ℕ). room zone) same.room, c.in_ok-clear.ensures.space.room zone);
    }

pub returns-clause-progress : goal.returns-clause-progress
returns-clause-progress g c =
    works_balanced (keeps_one c.args.self.now.pfs c.args.self.now.id) (g.T.HasElements.elements c.args.store.now) (g.T.HasElements.elements c.clear.new.store)
    (g.T.HasRoom.extents c.args.store.now) (g.T.HasRoom.extents c.clear.new.store)
    (c.in_ok-clear.ensures.keeps.elements ∙ ap is_some c.first_at_or_after.ensures.keeps.elements)
    (c.in_ok-clear.ensures.keeps.extents ∙ ap is_some c.first_at_or_after.ensures.keeps.extents)
    (returns-clause-store g c).content c.requires.fits

pub returns-clause-more : goal.returns-clause-more
returns-clause-more g c =
    inl (goes_further c.args.self.now.from c.in-Some.from c.in-Some-2.element c.in_ok-element.field-0 c.key_after-self.result c.in-Some.is c.in-Some-2.is
    c.in_ok-element.ensures.found c.key_after-self.ensures)
