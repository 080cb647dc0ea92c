use Rattle.std.proofs.Common.{◌≡◌, ap, subst, sym, ◌∙◌, length, drop, Some, refl, rules}
use Rattle.std.proofs.lemmas.Bool.{false≢true}
use Rattle.hm_retain.specs.Intervals.{numbers_of}
use Rattle.hm_retain.specs.Retention.{IsRetention}
use Rattle.hm_records.specs.declared.pfs_record.PfsRecord.{PfsRecord}
use Rattle.hm_records.specs.PfsRecord.{FitsRole, IsPfsSize, head_bytes, intervals_bytes}
use Rattle.hm_records.proofs.PfsLemmas.{head_is, intervals_back, pfs_parts, pfs_size}
use Rattle.hm_records.proofs.pfs_record.spelled_by.Goals as goal

pub returns-then-not-is_size-clause-only : goal.returns-then-not-is_size-clause-only
returns-then-not-is_size-clause-only c = λ r is same.
    absurd (false≢true (c.if-not-is_size.ensures.1 (subst (λ xs. IsPfsSize (length xs)) (sym same) (pfs_size r is))))

pub returns-in_default-clause-only : goal.returns-in_default-clause-only
returns-in_default-clause-only c = λ r is same.
    let list = intervals_back c.args.bytes.now c.split_at.result.1.now (numbers_of c.in_ok-list.list.items) r is same
    c.split_at.ensures.back c.in_ok-list.ensures.ids c.in_ok-list.ensures.spelled in
    let kept : IsRetention (numbers_of c.in_ok-list.list.items) = subst IsRetention (sym list) is.retention in
    absurd (false≢true (c.in_default.ensures.exact.1 kept))

pub returns-then-spells-clause-some : goal.returns-then-spells-clause-some
returns-then-spells-clause-some c =
    let list : c.numbers_in-record.result.retention ≡ numbers_of c.in_ok-list.list.items = c.numbers_in-record.ensures.kept ∙ c.in-Some.ensures.value in
    let rest : drop 32 c.args.bytes.now ≡ intervals_bytes c.numbers_in-record.result.retention =
    sym c.split_at.ensures.back ∙ c.in_ok-list.ensures.spelled ∙ ap intervals_bytes (sym list) in
    let spelled = c.if-spells.ensures.0 (search rules) in (
      record {
        shared = c.numbers_in-record.ensures.fits.0;
        sync_end = c.numbers_in-record.ensures.fits.1;
        retention = subst IsRetention (sym list) (c.in-Some.ensures.exact.0 refl);
        role = spelled.0;
      },
      pfs_parts c.args.bytes.now c.numbers_in-record.result (sym c.split_at.ensures.front ∙ spelled.1) rest,
    )

pub returns-then-spells-clause-only : goal.returns-then-spells-clause-only
returns-then-spells-clause-only c = λ r is same.
    let list = intervals_back c.args.bytes.now c.split_at.result.1.now (numbers_of c.in_ok-list.list.items) r is same
    c.split_at.ensures.back c.in_ok-list.ensures.ids c.in_ok-list.ensures.spelled in
    ap (λ (x : PfsRecord). Some x)
    (c.numbers_in-record.ensures.only r is (sym list ∙ sym c.in-Some.ensures.value) (c.split_at.ensures.front ∙ head_is c.args.bytes.now r same))

pub returns-else-spells-clause-only : goal.returns-else-spells-clause-only
returns-else-spells-clause-only c = λ r is same.
    let list = intervals_back c.args.bytes.now c.split_at.result.1.now (numbers_of c.in_ok-list.list.items) r is same
    c.split_at.ensures.back c.in_ok-list.ensures.ids c.in_ok-list.ensures.spelled in
    let head = c.split_at.ensures.front ∙ head_is c.args.bytes.now r same in
    let one = c.numbers_in-record.ensures.only r is (sym list ∙ sym c.in-Some.ensures.value) head in
    let P : PfsRecord → Type 0 = λ x. FitsRole x.master x.sync_end.0 x.retention × (c.split_at.result.0.now ≡ head_bytes x) in
    absurd (false≢true (c.if-spells.ensures.1 (subst P (sym one) (is.role, head))))
