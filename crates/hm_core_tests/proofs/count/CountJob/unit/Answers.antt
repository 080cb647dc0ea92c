-- A unit of a count leaves what it looks at.
use Rattle.std.proofs.Common.{ℕ, None, ap, arith, inl, refl}
use Rattle.std.specs.Prelude.{is_some}
use Rattle.hm_key.proofs.SweepLemmas.{goes_further, marks_stay, works_same}
use Rattle.hm_core_tests.proofs.count.CountJob.unit.Goals as goal

pub returns-in_default-clause-store : goal.returns-in_default-clause-store
returns-in_default-clause-store g c = record {
  content =
      works_same (λ _. None) (g.T.HasElements.elements c.args.store.now) (g.T.HasElements.elements c.args.store.now)
      (g.T.HasRoom.extents c.args.store.now) (g.T.HasRoom.extents c.args.store.now) refl refl;
  keeps = record { elements = refl; extents = refl };
  marks = marks_stay (g.T.HasElements.elements c.args.store.now) (g.T.HasElements.mark c.args.store.now) (g.T.HasElements.mark c.args.store.now) refl;
  free = omega arith;
  room = λ places zone. omega arith;
}

pub returns-in_default-2-clause-store : goal.returns-in_default-2-clause-store
returns-in_default-2-clause-store g c = let same = c.first_at_or_after.ensures.keeps in record {
  content =
      works_same (λ _. None) (g.T.HasElements.elements c.args.store.now) (g.T.HasElements.elements c.first_at_or_after.new.self)
      (g.T.HasRoom.extents c.args.store.now) (g.T.HasRoom.extents c.first_at_or_after.new.self) same.elements same.extents;
  keeps = record { elements = ap is_some same.elements; extents = ap is_some same.extents };
  marks =
      marks_stay (g.T.HasElements.elements c.args.store.now) (g.T.HasElements.mark c.args.store.now)
      (g.T.HasElements.mark c.first_at_or_after.new.self) same.mark;
  free = omega (arith, same.free);
  room = λ places zone. omega (arith, ap (λ (room : ℕ → ℕ). room zone) same.room);
}

pub returns-clause-store : goal.returns-clause-store
returns-clause-store g c = let same = c.first_at_or_after.ensures.keeps in record {
  content =
      works_same (λ _. None) (g.T.HasElements.elements c.args.store.now) (g.T.HasElements.elements c.first_at_or_after.new.self)
      (g.T.HasRoom.extents c.args.store.now) (g.T.HasRoom.extents c.first_at_or_after.new.self) same.elements same.extents;
  keeps = record { elements = ap is_some same.elements; extents = ap is_some same.extents };
  marks =
      marks_stay (g.T.HasElements.elements c.args.store.now) (g.T.HasElements.mark c.args.store.now)
      (g.T.HasElements.mark c.first_at_or_after.new.self) same.mark;
  free = omega (arith, same.free);
  room = λ places zone. omega (arith, ap (λ (room : ℕ → ℕ). room zone) same.room);
}

pub returns-clause-more : goal.returns-clause-more
returns-clause-more g c =
    inl (goes_further c.args.self.now.from c.in-Some.from c.in-Some-2.element c.in_ok-element.field-0 c.key_after-self.result c.in-Some.is c.in-Some-2.is
    c.in_ok-element.ensures.found c.key_after-self.ensures)
