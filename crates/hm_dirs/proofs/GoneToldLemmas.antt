-- Entries that go, in stores that may tell their content.
use Rattle.std.proofs.Common.{◌≡◌, ℕ, ◌+◌, List, true, false, Option, None, Some, refl, sym, subst}
use Rattle.std.specs.Prelude.{IfSome, IsSomeAnd, is_some}
use Rattle.hm_types.specs.Elements.{Key}
use Rattle.hm_types.specs.declared.fault.Fault.{Fault}
use Rattle.hm_types.specs.declared.id.Obj.{Obj}
use Rattle.hm_key.specs.Balance.{IsBalanced, content_of, payload_of}
use Rattle.hm_key.specs.Counts.{entry_subject, subject_of}
use Rattle.hm_key.specs.Elements.{IsContent, element_key}
use Rattle.hm_key.specs.Extents.{Extent}
use Rattle.hm_key.specs.declared.element.Element.{Element}
use Rattle.hm_cursor.specs.Names.{IsNoEntry, IsObjectNamed}
use Rattle.hm_cursor.specs.Told.{IsPayloadDamage, Lists, OnBalanced, fulls}
use Rattle.hm_cursor.specs.Version.{IsFirst}
use Rattle.hm_cursor.specs.Write.{KeepPlaces, Rewrites}
use Rattle.hm_dirs.specs.Names.{TakesName, first_key}
use Rattle.hm_dirs.proofs.GoneLemmas.{HaveGone, gone_all, gone_damage, gone_more, gone_past, name_taken}

-- where a store told its content, it tells it still, and the entries of a name under some keys are closed in it
abbrev pub GoneTold : ℕ → Obj → List ℕ → ℕ → ℕ → ℕ → Option (List Element) → Option (List Extent) → Option (List Element) → Option (List Extent) → Type 0
GoneTold pfs directory name i first end es xs es' xs' =
    IfSome (content_of es xs) (λ was. IsSomeAnd (content_of es' xs') (HaveGone pfs directory name i first end was))

pub some_of : (o : Option Obj) → is_some o ≡ true → (x : Obj) × (o ≡ Some x)
some_of None is = absurd (cc)
some_of (Some x) is = (x, refl)

pub none_of : (o : Option Obj) → is_some o ≡ false → o ≡ None
none_of None is = refl
none_of (Some x) is = absurd (cc)

module _ (pfs : ℕ) (directory : Obj) (name : List ℕ) (i first : ℕ) where
  -- a store that stayed
  pub told_moved : (end : ℕ) (es es' es'' : Option (List Element)) (xs xs' xs'' : Option (List Extent)) → es'' ≡ es' → xs'' ≡ xs'
      → GoneTold pfs directory name i first end es xs es' xs' → GoneTold pfs directory name i first end es xs es'' xs''
  told_moved end es es' es'' xs xs' xs'' same stay gone =
      subst (λ (o : Option (List Element)). GoneTold pfs directory name i first end es xs o xs'') (sym same)
      (subst (λ (o : Option (List Extent)). GoneTold pfs directory name i first end es xs es' o) (sym stay) gone)

  -- where none is left, the name is taken away
  pub told_taken : (hash : List ℕ → ℕ) (end : ℕ) (es es' : Option (List Element)) (xs xs' : Option (List Extent)) → first ≡ first_key (hash name)
      → end ≡ first + 65536 → IfSome es IsContent → IfSome es' IsContent → GoneTold pfs directory name i first end es xs es' xs'
      → IfSome (content_of es xs) (λ was. IsBalanced was.0 was.1
      → IsSomeAnd (content_of es' xs') (λ now. IsBalanced now.0 now.1 × TakesName hash pfs directory name i (fulls was) (fulls now)))
  told_taken hash end None es' xs xs' number size before after gone = tt
  told_taken hash end (Some es) es' None xs' number size before after gone = tt
  told_taken hash end (Some es) None (Some xs) xs' number size before after gone = absurd gone
  told_taken hash end (Some es) (Some es') (Some xs) None number size before after gone = absurd gone
  told_taken hash end (Some es) (Some es') (Some xs) (Some xs') number size before after gone = λ balanced.
      (gone.balanced, name_taken hash pfs directory name i first end (es, xs) (es', xs') number size before after gone)

  -- each payload stands where it stood
  pub told_placed : (end : ℕ) (es es' : Option (List Element)) (xs xs' : Option (List Extent)) → GoneTold pfs directory name i first end es xs es' xs'
      → IfSome (content_of es xs) (λ was. IsSomeAnd (content_of es' xs') (KeepPlaces was))
  told_placed end None es' xs xs' gone = tt
  told_placed end (Some es) es' None xs' gone = tt
  told_placed end (Some es) None (Some xs) xs' gone = absurd gone
  told_placed end (Some es) (Some es') (Some xs) None gone = absurd gone
  told_placed end (Some es) (Some es') (Some xs) (Some xs') gone = gone.placed

  module _ (at : Key) (key last : ℕ) (here : subject_of at ≡ entry_subject pfs directory.0 key) where
    pub told_all : (es es' : Option (List Element)) (xs xs' : Option (List Extent)) → IfSome es' (λ list. IsFirst list at last i None)
        → GoneTold pfs directory name i first key es xs es' xs' → GoneTold pfs directory name i first (last + 1) es xs es' xs'
    told_all None es' xs xs' none gone = tt
    told_all (Some es) es' None xs' none gone = tt
    told_all (Some es) None (Some xs) xs' none gone = absurd gone
    told_all (Some es) (Some es') (Some xs) None none gone = absurd gone
    told_all (Some es) (Some es') (Some xs) (Some xs') none gone =
        gone_all at pfs directory key last i here name first (es, xs) (es', xs') gone none

    pub told_past : (e : Element) (es es' : Option (List Element)) (xs xs' : Option (List Extent)) → IfSome es' IsContent
        → IfSome es' (λ list. IsFirst list at last i (Some e)) → IfSome xs' (λ extents. IsObjectNamed (payload_of extents e) name None)
        → GoneTold pfs directory name i first key es xs es' xs' → GoneTold pfs directory name i first (e.base.key + 1) es xs es' xs'
    told_past e None es' xs xs' content found other gone = tt
    told_past e (Some es) es' None xs' content found other gone = tt
    told_past e (Some es) None (Some xs) xs' content found other gone = absurd gone
    told_past e (Some es) (Some es') (Some xs) None content found other gone = absurd gone
    told_past e (Some es) (Some es') (Some xs) (Some xs') content found other gone =
        gone_past at pfs directory key last i here name first (es, xs) (es', xs') gone e content found other

    pub told_more : (e : Element) (object : Obj) (es es' es'' : Option (List Element)) (xs xs' xs'' : Option (List Extent)) → IfSome es' IsContent
        → IfSome es' (λ list. IsFirst list at last i (Some e)) → IfSome xs' (λ extents. IsObjectNamed (payload_of extents e) name (Some object))
        → IfSome (content_of es' xs') (λ mid. IsBalanced mid.0 mid.1
        → IsSomeAnd (content_of es'' xs'') (λ now. IsBalanced now.0 now.1 × Rewrites (subject_of (element_key e)) None i (fulls mid) (fulls now)))
        → IfSome (content_of es' xs') (λ mid. IsSomeAnd (content_of es'' xs'') (KeepPlaces mid))
        → GoneTold pfs directory name i first key es xs es' xs' → GoneTold pfs directory name i first (e.base.key + 1) es xs es'' xs''
    told_more e object None es' es'' xs xs' xs'' content found spelled wrote placed gone = tt
    told_more e object (Some es) es' es'' None xs' xs'' content found spelled wrote placed gone = tt
    told_more e object (Some es) None es'' (Some xs) xs' xs'' content found spelled wrote placed gone = absurd gone
    told_more e object (Some es) (Some es') es'' (Some xs) None xs'' content found spelled wrote placed gone = absurd gone
    told_more e object (Some es) (Some es') es'' (Some xs) (Some xs') xs'' content found spelled wrote placed gone =
        by_now (content_of es'' xs'') (wrote gone.balanced) placed where
          by_now : (now : Option Lists)
              → IsSomeAnd now (λ now. IsBalanced now.0 now.1 × Rewrites (subject_of (element_key e)) None i (fulls (es', xs')) (fulls now))
              → IsSomeAnd now (KeepPlaces (es', xs')) → IsSomeAnd now (HaveGone pfs directory name i first (e.base.key + 1) (es, xs))
          by_now None wrote placed = absurd wrote
          by_now (Some now) wrote placed =
              gone_more at pfs directory key last i here name first (es, xs) (es', xs') gone e object now content found spelled wrote.0 placed wrote.1

    -- damage of what is read is damage of what was there before
    pub told_damage : (e : Element) (fault : Fault) (es es' : Option (List Element)) (xs xs' : Option (List Extent))
        → IfSome es' (λ list. IsFirst list at last i (Some e)) → IfSome xs' (λ extents. IsNoEntry extents e fault)
        → GoneTold pfs directory name i first key es xs es' xs' → OnBalanced es xs (λ lists. IsPayloadDamage lists fault)
    told_damage e fault None es' xs xs' found none gone = tt
    told_damage e fault (Some es) es' None xs' found none gone = tt
    told_damage e fault (Some es) None (Some xs) xs' found none gone = absurd gone
    told_damage e fault (Some es) (Some es') (Some xs) None found none gone = absurd gone
    told_damage e fault (Some es) (Some es') (Some xs) (Some xs') found none gone = λ balanced.
        gone_damage at pfs directory key last i here name first (es, xs) (es', xs') gone e fault found none
