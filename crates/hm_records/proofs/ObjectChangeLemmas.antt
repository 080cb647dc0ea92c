-- A change of one object, and the view.
use Rattle.std.proofs.Common.{◌≡◌, ◌≢◌, ℕ, Bool, true, false, refl, sym, ap, subst, ◌∙◌, inl, inr}
use Rattle.std.specs.Prelude.{◌↔◌, ◌==◌, if◌then◌else◌, map}
use Rattle.std.specs.List.{Contains}
use Rattle.std.proofs.lemmas.Bool.{false≢true, eqb-true, eq-eqb, cases_eq, ne_eqb}
use Rattle.hm_types.specs.declared.id.Obj.{Obj}
use Rattle.hm_types.specs.declared.object.Object.{Object}
use Rattle.hm_types.specs.Tree.{FileTree, is_object_before, with_change, without, without_object}
use Rattle.hm_key.specs.Counts.{Content, inode_subject}
use Rattle.hm_records.specs.Inode.{inode_bytes}
use Rattle.hm_records.specs.View.{IsObject}
use Rattle.hm_records.specs.Changes.{ChangesObject, CountsNothing}
use Rattle.hm_records.specs.Laws.{HasView, with_inode}
use Rattle.hm_records.proofs.MemberLemmas.{filter_has, has_filter, has_insert, has_map, insert_has, map_has, order_filter, order_insert, order_map}
use Rattle.hm_records.proofs.NameLemmas.{opposite_false, opposite_true}
use Rattle.hm_records.proofs.ObjectLemmas.{object_back, object_kept, object_one}
use Rattle.hm_records.proofs.OrderLemmas.{object_apart, object_trans}
use Rattle.hm_records.proofs.ViewLemmas.{triples_kept}

-- whether an object has this number
abbrev numbered : ℕ → Object → Bool
numbered number o = o.number.0 == number

module _ (pfs number : ℕ) (tree : FileTree) (C D : Content) (has : HasView C pfs tree) (changes : ChangesObject pfs number C D) where
  -- all other objects are the same
  on : (o : Object) → o.number.0 ≢ number → IsObject C pfs o → IsObject D pfs o
  on o differ = object_kept pfs o C D (changes.agree.objects o.number.0 differ)

  back : (o : Object) → o.number.0 ≢ number → IsObject D pfs o → IsObject C pfs o
  back o differ = object_kept pfs o D C (object_back pfs o.number.0 C D (changes.agree.objects o.number.0 differ))

  -- no inode, no object
  no_object : (E : Content) → CountsNothing E (inode_subject pfs number) → (o : Object) → IsObject E pfs o → o.number.0 ≢ number
  no_object E none o is same = none (inode_bytes is.inode) (subst (λ (n : ℕ). E (inode_subject pfs n) (inode_bytes is.inode)) same is.there)

  pub object_gone : CountsNothing D (inode_subject pfs number) → HasView D pfs (without_object tree (record { 0 = number }))
  object_gone none = record {
    settled = changes.settled;
    view = record {
      objects_rise = order_filter is_object_before (λ o. if numbered number o then false else true) tree.objects has.view.objects_rise;
      objects = λ o. (
        λ there. kept o there,
        λ is. has_filter (λ o. if numbered number o then false else true) tree.objects o
            ((has.view.objects o).1 (back o (no_object D none o is) is))
            (opposite_false (numbered number) o (λ same. no_object D none o is (eqb-true o.number.0 number same))),
      );
      triples_rise = has.view.triples_rise;
      triples = triples_kept pfs tree C D changes.agree.entries has.view;
    };
  } where
    kept : (o : Object) → Contains (without (numbered number) tree.objects) o → IsObject D pfs o
    kept o there =
        let both = filter_has (λ o. if numbered number o then false else true) tree.objects o there in
        on o (λ same. false≢true (sym (opposite_true (numbered number) o both.1) ∙ eq-eqb o.number.0 number same)) ((has.view.objects o).0 both.0)

  pub object_added : (object : Object) → object.number.0 ≡ number → CountsNothing C (inode_subject pfs number) → IsObject D pfs object
      → HasView D pfs (with_inode tree object)
  object_added object same none new = record {
    settled = changes.settled;
    view = record {
      objects_rise = order_insert is_object_before object_trans object tree.objects has.view.objects_rise
          (λ o there. object_apart object o (λ e. no_object C none o ((has.view.objects o).0 there) (sym e ∙ same)));
      objects = λ o. (
        λ there. elim (insert_has is_object_before object tree.objects o there) [
          | inl is ↦ subst (λ (p : Object). IsObject D pfs p) (sym is) new
          | inr old ↦ let was = (has.view.objects o).0 old in on o (no_object C none o was) was
        ],
        λ is. has_insert is_object_before object tree.objects o (elim (cases_eq o.number.0 number) [
          | inl e ↦ inl (object_one pfs o object D changes.settled is new (e ∙ sym same))
          | inr differ ↦ inr ((has.view.objects o).1 (back o differ is))
        ]),
      );
      triples_rise = has.view.triples_rise;
      triples = triples_kept pfs tree C D changes.agree.entries has.view;
    };
  }

  -- the object of this number becomes another one
  pub object_changed : (change : Object → Object) → ((o : Object) → (change o).number ≡ o.number)
      → ((o : Object) → o.number.0 ≡ number → IsObject C pfs o → IsObject D pfs (change o))
      → ((o : Object) → o.number.0 ≡ number → IsObject D pfs o → (p : Object) × IsObject C pfs p × (p.number.0 ≡ number) × (change p ≡ o))
      → HasView D pfs (with_change tree (record { 0 = number }) change)
  object_changed change keeps made was = record {
    settled = changes.settled;
    view = record {
      objects_rise = order_map is_object_before each tree.objects
          (λ o p _ _. let a = each_number o in let b = each_number p in rw (a, b) refl) has.view.objects_rise;
      objects = λ o. (λ there. to o (map_has each tree.objects o there), λ is. from o is);
      triples_rise = has.view.triples_rise;
      triples = triples_kept pfs tree C D changes.agree.entries has.view;
    };
  } where
    each : Object → Object
    each o = if o.number.0 == number then change o else o

    each_is : (o : Object) → o.number.0 ≡ number → each o ≡ change o
    each_is o same = let test : (o.number.0 == number) ≡ true = eq-eqb o.number.0 number same in rw test refl

    each_stays : (o : Object) → o.number.0 ≢ number → each o ≡ o
    each_stays o differ = let test : (o.number.0 == number) ≡ false = ne_eqb o.number.0 number differ in rw test refl

    each_number : (o : Object) → (each o).number.0 ≡ o.number.0
    each_number o = elim (cases_eq o.number.0 number) [
      | inl same ↦ ap (λ (p : Object). p.number.0) (each_is o same) ∙ ap (λ (n : Obj). n.0) (keeps o)
      | inr differ ↦ ap (λ (p : Object). p.number.0) (each_stays o differ)
    ]

    to : (o : Object) → (p : Object) × Contains tree.objects p × (each p ≡ o) → IsObject D pfs o
    to o (p, there, is) = elim (cases_eq p.number.0 number) [
      | inl same ↦ subst (λ (q : Object). IsObject D pfs q) (sym (each_is p same) ∙ is) (made p same ((has.view.objects p).0 there))
      | inr differ ↦ subst (λ (q : Object). IsObject D pfs q) (sym (each_stays p differ) ∙ is) (on p differ ((has.view.objects p).0 there))
    ]

    from : (o : Object) → IsObject D pfs o → Contains (map each tree.objects) o
    from o is = elim (cases_eq o.number.0 number) [
      | inl same ↦
          let (p, was', number', becomes) = was o same is in
          subst (λ (q : Object). Contains (map each tree.objects) q) (each_is p number' ∙ becomes) (has_map each tree.objects p ((has.view.objects p).1 was'))
      | inr differ ↦ subst (λ (q : Object). Contains (map each tree.objects) q) (each_stays o differ)
          (has_map each tree.objects o ((has.view.objects o).1 (back o differ is)))
    ]

  -- where the object is known
  pub known_changed : (change : Object → Object) (held : Object) → ((o : Object) → (change o).number ≡ o.number) → Contains tree.objects held
      → held.number.0 ≡ number → IsObject D pfs (change held) → HasView D pfs (with_change tree (record { 0 = number }) change)
  known_changed change held keeps there same becomes =
      object_changed change keeps
      (λ o e is. subst (λ (p : Object). IsObject D pfs (change p)) (object_one pfs held o C has.settled was is (same ∙ sym e)) becomes)
      (λ o e is. (held, was, same, object_one pfs (change held) o D changes.settled becomes is (ap (λ (n : Obj). n.0) (keeps held) ∙ same ∙ sym e)))
    where
      was : IsObject C pfs held
      was = (has.view.objects held).0 there

  -- nothing becomes of it
  pub object_same_view : ((o : Object) → o.number.0 ≡ number → IsObject C pfs o ↔ IsObject D pfs o) → HasView D pfs tree
  object_same_view same = record {
    settled = changes.settled;
    view = record {
      objects_rise = has.view.objects_rise;
      objects = λ o. (
        λ there. elim (cases_eq o.number.0 number) [
          | inl e ↦ (same o e).0 ((has.view.objects o).0 there)
          | inr differ ↦ on o differ ((has.view.objects o).0 there)
        ],
        λ is. (has.view.objects o).1 (elim (cases_eq o.number.0 number) [
          | inl e ↦ (same o e).1 is
          | inr differ ↦ back o differ is
        ]),
      );
      triples_rise = has.view.triples_rise;
      triples = triples_kept pfs tree C D changes.agree.entries has.view;
    };
  }
