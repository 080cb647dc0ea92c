-- What elements keep where the record of a PFS gets other bytes.
use Rattle.std.proofs.Common.{◌≡◌, ◌≢◌, ◌∙◌, ℕ, ◌^◌, List, refl, ap, sym, subst, arith}
use Rattle.std.specs.List.{All, Contains}
use Rattle.std.proofs.lemmas.List.Elements.{All-contains}
use Rattle.hm_types.specs.Elements.{FullElement, Key}
use Rattle.hm_types.specs.Tree.{FileTree}
use Rattle.hm_key.specs.Counts.{IsRecordOf, Subject, record_subject, subject_of}
use Rattle.hm_key.specs.Element.{pfs_of}
use Rattle.hm_key.specs.Versions.{HaveOwnKeys, IsBelow}
use Rattle.hm_key.specs.declared.rec_type.TheConstants.{DIRECTORY_ENTRY, PFS_RECORD}
use Rattle.hm_records.specs.Entry.{entry_bytes}
use Rattle.hm_records.specs.Follows.{Follows}
use Rattle.hm_records.specs.KeysFit.{KeysFit}
use Rattle.hm_records.specs.Payload.{IsPayload, KeyFits}
use Rattle.hm_records.specs.PfsRecord.{IsPfsRecord, pfs_bytes}
use Rattle.hm_types.specs.Intervals.{open_end}
use Rattle.hm_records.specs.View.{IsViewOf}
use Rattle.hm_records.specs.declared.pfs_record.PfsRecord.{PfsRecord}
use Rattle.hm_records.proofs.CountsLemmas.{record_counts, settled}
use Rattle.hm_records.proofs.MemberLemmas.{All-from_has}
use Rattle.hm_pfs.specs.Records.{Becomes, IsRecordElement, SetsRecord, rewritten, stays}
use Rattle.hm_image.specs.StandFor.{AreUpTo, IsSourceless}
use Rattle.hm_image.proofs.FollowLemmas.{follows_where, of_no_record}
use Rattle.hm_model.specs.Volume.{PseudoFileSystem}

-- the type of a record's element
record_type : (es : List FullElement) (pfs : ℕ) (e : FullElement) → IsRecordElement es pfs e → e.key.rec_type ≡ (record_subject pfs).rec_type
record_type es pfs e is = ap (λ (s : Subject). s.rec_type) is.about

module _ (pfs : ℕ) (bytes : List ℕ) (es : List FullElement) where
  -- but for its bytes an element stays
  become_key : (x y : FullElement) → Becomes pfs bytes es x y → y.key ≡ x.key
  become_key x _ (rewritten is) = refl
  become_key x _ (stays not) = refl

  become_delete : (x y : FullElement) → Becomes pfs bytes es x y → y.delete ≡ x.delete
  become_delete x _ (rewritten is) = refl
  become_delete x _ (stays not) = refl

  become_one : (x y z : FullElement) → Becomes pfs bytes es x y → Becomes pfs bytes es x z → y ≡ z
  become_one x _ _ (rewritten is) (rewritten is') = refl
  become_one x _ _ (rewritten is) (stays not) = absurd (not is)
  become_one x _ _ (stays not) (rewritten is) = absurd (not is)
  become_one x _ _ (stays not) (stays not') = refl

  module _ (es' : List FullElement) (sets : SetsRecord pfs bytes es es') where
    -- what is there now was there, with its key and its delete id
    was : (y : FullElement) → Contains es' y → (x : FullElement) × Contains es x × (y.key ≡ x.key) × (y.delete ≡ x.delete)
    was y has =
        let (x, there, is) = (sets.elements y).0 has in
        (x, there, become_key x y is, become_delete x y is)

    pub set_keys : HaveOwnKeys es → HaveOwnKeys es'
    set_keys own y z has has' same =
        let (x, there, is) = (sets.elements y).0 has in
        let (w, there', is') = (sets.elements z).0 has' in
        let one : x ≡ w = own x w there there' (sym (become_key x y is) ∙ same ∙ become_key w z is') in
        become_one x y z is (subst (λ (v : FullElement). Becomes pfs bytes es v z) (sym one) is')

    pub set_of : (P : ℕ → Type 0) → ((x : FullElement) → Contains es x → P (pfs_of x.key.localization)) → (y : FullElement) → Contains es' y
        → P (pfs_of y.key.localization)
    set_of P each y has =
        let (x, there, key, delete) = was y has in
        subst (λ (k : Key). P (pfs_of k.localization)) (sym key) (each x there)

    pub set_names : (hash : List ℕ → ℕ) → KeysFit hash es → KeysFit hash es'
    set_names hash fit y entry has of_type is spelled =
        let (x, there, came) = (sets.elements y).0 has in by x y there came of_type spelled
      where
        by : (x y : FullElement) → Contains es x → Becomes pfs bytes es x y → y.key.rec_type ≡ DIRECTORY_ENTRY → y.bytes ≡ entry_bytes entry
            → KeyFits hash y.key.key entry.name
        by x _ there (rewritten found) of_type spelled = absurd (omega (arith, record_type es pfs x found, of_type))
        by x _ there (stays not) of_type spelled = fit x entry there of_type is spelled

    pub set_up_to : (last other : ℕ) → AreUpTo last other es → AreUpTo last other es'
    set_up_to last other old = record {
      made = λ y has of_pfs.
          let (x, there, key, delete) = was y has in
          omega (arith, ap (λ (k : Key). k.create) key, old.made x there (ap (λ (k : Key). pfs_of k.localization) (sym key) ∙ of_pfs));
      closed = λ y has of_pfs.
          let (x, there, key, delete) = was y has in
          omega (arith, delete, old.closed x there (ap (λ (k : Key). pfs_of k.localization) (sym key) ∙ of_pfs));
    }

    -- a slave into which nothing came is so still
    pub set_unfed : (other : ℕ) (s : PseudoFileSystem) → IsSourceless es other s → IsSourceless es' other s
    set_unfed other s old = record {
      unsynced = old.unsynced;
      alone = λ y has of_pfs.
          let (x, there, key, delete) = was y has in
          ap subject_of key ∙ old.alone x there (ap (λ (k : Key). pfs_of k.localization) (sym key) ∙ of_pfs);
    }

    -- what is no record was there
    set_there : (y : FullElement) → Contains es' y → y.key.rec_type ≢ PFS_RECORD → Contains es y
    set_there y has other = let (x, there, is) = (sets.elements y).0 has in by x y there is other where
      by : (x y : FullElement) → Contains es x → Becomes pfs bytes es x y → y.key.rec_type ≢ PFS_RECORD → Contains es y
      by x _ there (stays not) other = there
      by x _ there (rewritten found) other = absurd (other (record_type es pfs x found))

    pub set_follows : (other t : ℕ) → Follows other t es → Follows other t es'
    set_follows other t = follows_where other t es es' (λ x has of. set_there x has (of_no_record other (subject_of x.key) of))

    module _ (fit : IsBelow (2 ^ 64) es) where
      pub set_fit : IsBelow (2 ^ 64) es'
      set_fit = sets.ids (2 ^ 64) fit

      -- the new bytes are its record, and all other records stay
      pub set_record : (held : List ℕ) → IsRecordOf es pfs held → IsRecordOf es' pfs bytes
      set_record held is =
          let counted = (record_counts es pfs (2 ^ 64) open_end held fit (omega arith)).0 is in
          (record_counts es' pfs (2 ^ 64) open_end bytes set_fit (omega arith)).1 ((sets.record_now held bytes counted).1 refl)

      pub other_record : (other : ℕ) (held : List ℕ) → other ≢ pfs → IsRecordOf es other held → IsRecordOf es' other held
      other_record other held differ is =
          let counted = (record_counts es other (2 ^ 64) open_end held fit (omega arith)).0 is in
          let apart = λ (same : record_subject other ≡ record_subject pfs). differ (ap (λ (s : Subject). s.key) same) in
          (record_counts es' other (2 ^ 64) open_end held set_fit (omega arith)).1 ((sets.elsewhere open_end (record_subject other) held apart).1 counted)

    pub set_view : (t other : ℕ) (tree : FileTree) → HaveOwnKeys es → IsViewOf es other t tree → IsViewOf es' other t tree
    set_view t other tree own view = (sets.views t other tree (record { settled = settled es t own; view = view })).view

-- the payload of a record that was put in keeps its grammar
pub set_payloads : (pfs : ℕ) (r : PfsRecord) (es es' : List FullElement) → SetsRecord pfs (pfs_bytes r) es es' → IsPfsRecord r → All IsPayload es
    → All IsPayload es'
set_payloads pfs r es es' sets ranges all = All-from_has IsPayload es' (λ y has.
    let (x, there, came) = (sets.elements y).0 has in by x y came (All-contains IsPayload es x all there))
  where
    by : (x y : FullElement) → Becomes pfs (pfs_bytes r) es x y → IsPayload x → IsPayload y
    by x _ (stays not) is = is
    by x _ (rewritten found) is = record {
      known = is.known;
      inode = λ of_type. absurd (omega (arith, record_type es pfs x found, of_type));
      file_bytes = λ of_type. absurd (omega (arith, record_type es pfs x found, of_type));
      entry = λ of_type. absurd (omega (arith, record_type es pfs x found, of_type));
      target = λ of_type. absurd (omega (arith, record_type es pfs x found, of_type));
      pfs = λ of_type. (r, ranges, refl);
    }
