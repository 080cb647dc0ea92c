-- What a flush holds of the committed and of the frozen state is settled, but for pages that are being placed.
use Rattle.std.proofs.Common.{◌≡◌, ◌≢◌, ◌⊎◌, inl, inr, ℕ, suc, ◌+◌, ◌-◌, ◌<◌, ◌≤◌, Bool, true, false, true≢false, List, ◌∷◌, Option, None, Some}
use Rattle.std.proofs.Common.{refl, sym, ap, subst, ◌∙◌, arith, get_or, is_some, length, nat_eq, set, slice_range}
use Rattle.std.specs.List.{All, Contains}
use Rattle.std.specs.Set.{is_member}
use Rattle.std.proofs.lemmas.List.{get_or-set_other, get_or-set_same, length-set}
use Rattle.std.proofs.lemmas.List.Elements.{All-contains, Contains-append_cases}
use Rattle.hm_types.specs.Layout.{start_of}
use Rattle.hm_types.specs.Offset.{byte_of}
use Rattle.hm_types.specs.References.{Reference, begin_of}
use Rattle.hm_types.specs.declared.limits.TheConstants.{PAGE_BYTES}
use Rattle.hm_disk.specs.Crash.{MayLeave, Outside, Told, is_outside}
use Rattle.hm_disk.proofs.CrashLemmas.{MayLeave-same, is_outside-from, is_outside-is}
use Rattle.hm_header.specs.Change.{AnyCrash}
use Rattle.hm_header.proofs.SliceLemmas.{slice-byte}
use Rattle.hm_undo.specs.Entry.{IsUndoPageOf}
use Rattle.hm_pages.specs.Sound.{IsSound}
use Rattle.hm_flush.specs.declared.flush.Flush.{Flush}
use Rattle.hm_flush.specs.declared.flush.Position.{Position}
use Rattle.hm_flush.specs.declared.flush.Position.TheVariants.{Idle, Undoing, Arming, Placing, Committing}
use Rattle.hm_flush.specs.Guard.{guarded_at}
use Rattle.hm_flush.specs.Recoverable.{HoldsPage, IsInPage, IsInPages}
use Rattle.hm_fields.specs.Pages.{PageMap}
use Rattle.hm_search.specs.Tree.{height_of, node_at}
use Rattle.hm_image.specs.Image.{nodes_below, to_node}
use Rattle.hm_model.specs.Volume.{Volume}
use Rattle.hm_stored.specs.Basis.{nodes, refers}
use Rattle.hm_stored.specs.Heap.{Heap}
use Rattle.hm_state.specs.Flushing.{ArePayloadsSettled, HoldsFlush, IsSettledAt}
use Rattle.hm_state.specs.Live.{AreLiveSettled, IsHeldByte, IsInGroup, IsNamedBy, IsPayloadByte}
use Rattle.hm_state.proofs.CourseLemmas.{logged_flies}
use Rattle.hm_state.proofs.KeptLemmas.{node_there}
use Rattle.hm_state.proofs.NodeLemmas.{IsToPage, nodes_are_pages}
use Rattle.hm_state.proofs.StageHeldLemmas.{payloads}

-- A range that each crash leaves alike is settled: a crash might leave any other byte where it is not.
module _ (t : Told) (from to : ℕ) (page : List ℕ) (within : to ≤ length t.bytes)
    (each : AnyCrash (λ image. slice_range image from to ≡ page) t) (byte : ℕ) (low : from ≤ byte) (high : byte < to) where
  abbrev other : List ℕ
  other = set t.bytes byte (suc (get_or t.bytes byte 0))

  -- where the byte is not settled
  other_left : is_outside t.unsettled byte ≡ false → MayLeave t.bytes t.unsettled other
  other_left doubt = record {
    size = length-set t.bytes byte (suc (get_or t.bytes byte 0));
    same = λ at below out. get_or-set_other t.bytes byte at (suc (get_or t.bytes byte 0)) 0 (elsewhere at out);
  } where
    elsewhere : (at : ℕ) → Outside t.unsettled at → at ≢ byte
    elsewhere at out same =
        absurd (true≢false (sym (is_outside-from t.unsettled at out) ∙ (ap (λ (n : ℕ). is_outside t.unsettled n) same ∙ doubt)))

  in_range : (image : List ℕ) → get_or (slice_range image from to) (byte - from) 0 ≡ get_or image byte 0
  in_range image =
      let here : from + (byte - from) ≡ byte = omega (arith, low) in
      slice-byte image from to (byte - from) (omega (arith, low, high)) ∙ ap (λ (n : ℕ). get_or image n 0) here

  settled_by : (b : Bool) → is_outside t.unsettled byte ≡ b → is_outside t.unsettled byte ≡ true
  settled_by true is = is
  settled_by false doubt =
      let same : slice_range other from to ≡ slice_range t.bytes from to =
      each other (other_left doubt) ∙ sym (each t.bytes (MayLeave-same t.bytes t.unsettled)) in
      let bytes : get_or other byte 0 ≡ get_or t.bytes byte 0 =
      sym (in_range other) ∙ (ap (λ (xs : List ℕ). get_or xs (byte - from) 0) same ∙ in_range t.bytes) in
      let more = get_or-set_same t.bytes byte (suc (get_or t.bytes byte 0)) 0 (omega (arith, high, within)) in
      absurd (omega (arith, bytes, more))

  pub alike_settled : Outside t.unsettled byte
  alike_settled = is_outside-is t.unsettled byte (settled_by (is_outside t.unsettled byte) refl)

module _ (f : Flush) (h : Heap) (t : Told) (committed frozen : Volume) (sound : IsSound h.pages) (holds : HoldsFlush f h t committed frozen) where
  -- the pages of the committed state lie on the disk
  page_within : (at : ℕ) (page : List ℕ) → h.pages.committed at ≡ Some page → byte_of at + PAGE_BYTES ≤ length t.bytes
  page_within at page is = by_zone (holds.guarded.committed at page is) where
    size : start_of h.bigblocks ≤ length t.bytes
    size = holds.outside.size

    by_zone : IsUndoPageOf f.header.bigblocks at → byte_of at + PAGE_BYTES ≤ length t.bytes
    by_zone one = elim one.zone [
      | inl pool ↦ omega (arith, pool.1.1, one.page, size, holds.bigblocks)
      | inr layer ↦
          let append = holds.committed_is.holds.elements.1.firm.stand.appended.pool 0 (omega arith) in
          omega (arith, layer.1.1, one.page, size, holds.bigblocks, append.0, append.1)
    ]

  -- so what each crash leaves there is settled
  held_settled : (at : ℕ) (page held : List ℕ) → h.pages.committed at ≡ Some page → AnyCrash (λ image. HoldsPage image at held) t → (byte : ℕ)
      → IsInPage at byte → Outside t.unsettled byte
  held_settled at page held is each byte inside =
      alike_settled t (byte_of at) (byte_of at + PAGE_BYTES) held (page_within at page is) each byte inside.0 inside.1

  page_settled : (p : Position) → AnyCrash (guarded_at p f h.pages) t → (at : ℕ) (page : List ℕ) → h.pages.committed at ≡ Some page → (byte : ℕ)
      → IsInPage at byte → ¬ IsInGroup p h.pages byte → Outside t.unsettled byte
  page_settled Idle crash at page is = λ byte inside none. held_settled at page page is (λ image left. (crash image left).1 at page is) byte inside
  page_settled (Undoing from) crash at page is =
      λ byte inside none. held_settled at page page is (λ image left. (crash image left).1 at page is) byte inside
  page_settled (Arming change) crash at page is =
      λ byte inside none. held_settled at page page is (λ image left. (crash image left).0 at page is) byte inside
  page_settled (Placing i) crash at page is = λ byte inside none. by_group byte inside none (is_member nat_eq h.pages.frozen_group at) refl where
    by_group : (byte : ℕ) → IsInPage at byte → ¬ IsInGroup (Placing i) h.pages byte → (b : Bool) → is_member nat_eq h.pages.frozen_group at ≡ b
        → Outside t.unsettled byte
    by_group byte inside none true member = absurd (none (at, member, inside))
    by_group byte inside none false beside = held_settled at page page is (λ image left. (crash image left).0 at page is beside) byte inside
  page_settled (Committing change) crash at page is =
      λ byte inside none. by_group byte inside (is_member nat_eq h.pages.frozen_group at) refl where
        by_frozen : (byte : ℕ) → IsInPage at byte → (o : Option (List ℕ)) → h.pages.frozen at ≡ o → is_some o ≡ true → Outside t.unsettled byte
        by_frozen byte inside None here there = absurd (true≢false (sym there))
        by_frozen byte inside (Some placed) here there =
            held_settled at page placed is (λ image left. (crash image left).2 at placed here) byte inside

        by_group : (byte : ℕ) → IsInPage at byte → (b : Bool) → is_member nat_eq h.pages.frozen_group at ≡ b → Outside t.unsettled byte
        by_group byte inside true member = by_frozen byte inside (h.pages.frozen at) refl (sound.flush.frozen at member)
        by_group byte inside false beside = held_settled at page page is (λ image left. (crash image left).0 at page is beside) byte inside

  payload_settled : (pages : PageMap) (root own : ℕ) → root ≡ own → ArePayloadsSettled t pages own → (byte : ℕ) → IsPayloadByte pages root byte
      → Outside t.unsettled byte
  payload_settled pages root own same settled byte (r, there, from, to) =
      All-contains (IsSettledAt t) (payloads pages own) r settled (subst (λ (x : ℕ). Contains (payloads pages x) r) same there) byte from to

  -- what the committed tree refers to is a page or a payload
  named_by : (byte : ℕ) → IsNamedBy (refers h.pages.committed h.roots.committed) byte
      → IsInPages h.pages.committed byte ⊎ IsPayloadByte h.pages.committed f.header.root byte
  named_by byte (r, there, from, to) = elim (Contains-append_cases own_nodes (payloads h.pages.committed f.header.root) r here) [
    | inl node ↦ inl (page_of_node r (All-contains (IsToPage (nodes h.pages.committed)) own_nodes r all_pages node) from to)
    | inr payload ↦ inr (r, payload, from, to)
  ] where
    own_nodes : List Reference
    own_nodes =
        let node = node_at (nodes h.pages.committed) f.header.root in
        to_node f.header.root ∷ nodes_below (nodes h.pages.committed) (height_of node) node

    here : Contains (refers h.pages.committed f.header.root) r
    here = subst (λ (x : ℕ). Contains (refers h.pages.committed x) r) holds.committed_root there

    all_pages : All (IsToPage (nodes h.pages.committed)) own_nodes
    all_pages = nodes_are_pages (nodes h.pages.committed) f.header.root holds.committed_is.holds.elements.1.firm.tree.sound

    page_of_node : (r : Reference) → IsToPage (nodes h.pages.committed) r → begin_of r ≤ byte → byte < begin_of r + r.len
        → IsInPages h.pages.committed byte
    page_of_node r is from to = by_page (nodes h.pages.committed r.at) refl is.there where
      by_page : (o : Option (List ℕ)) → nodes h.pages.committed r.at ≡ o → is_some o ≡ true → IsInPages h.pages.committed byte
      by_page None at there = absurd (true≢false (sym there))
      by_page (Some page) at there = (r.at, page, node_there h.pages.committed r.at page at, (from, omega (arith, to, is.len)))

  pub live_settled : AreLiveSettled f.at h t
  live_settled = record {
    committed = λ byte live none. by_kind byte none live;
    frozen = λ logged.
        payload_settled h.pages.frozen h.roots.frozen f.target.root (holds.frozen_root (logged_flies f.at logged)) (holds.frozen_settled logged);
  } where
    by_kind : (byte : ℕ) → ¬ IsInGroup f.at h.pages byte → IsHeldByte h.pages.committed h.roots.committed byte → Outside t.unsettled byte
    by_kind byte none (inr (at, page, is, inside)) = page_settled f.at holds.guarded.crash at page is byte inside none
    by_kind byte none (inl named) = elim (named_by byte named) [
      | inl (at, page, is, inside) ↦ page_settled f.at holds.guarded.crash at page is byte inside none
      | inr payload ↦ payload_settled h.pages.committed f.header.root f.header.root refl holds.committed_settled byte payload
    ]
