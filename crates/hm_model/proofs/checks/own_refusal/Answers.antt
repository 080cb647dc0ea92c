use Rattle.std.proofs.Common.{◌≡◌, ◌+◌, true, add-zero, length}
use Rattle.std.specs.Option.{option_or}
use Rattle.hm_model.specs.declared.reply.Reply.{Reply}
use Rattle.hm_model.specs.Reply.{is_refusal}
use Rattle.hm_model.specs.Due.{a_file, fits_file, links_left, name_is_new, no_dir}
use Rattle.hm_model.specs.Plain.{site_of}
use Rattle.hm_model.specs.PlainChecks.{finds, not_into_itself_at, way_at}
use Rattle.hm_model.proofs.OwnLemmas.{four_checks, some_or, three_checks, two_checks}
use Rattle.hm_model.proofs.checks.own_refusal.Goals as goal

abbrev IsRefused : Reply → Type 0
IsRefused r = is_refusal r ≡ true

pub returns-in-Ln-clause-check : goal.returns-in-Ln-clause-check
returns-in-Ln-clause-check c =
    rw (
      c.in-Ln.is,
      c.or-in-Ln-2.ensures,
      c.or-in-Ln.ensures,
      c.or.ensures,
      c.no_dir.ensures.check,
      c.a_file.ensures.check,
      c.name_is_new-in-Ln.ensures.check,
      c.links_left.ensures.check,
    )
    (four_checks (no_dir (finds c.args.tree.now) (site_of c.args.a.now)) (a_file (finds c.args.tree.now) (site_of c.args.a.now))
    (name_is_new (finds c.args.tree.now) (site_of c.args.b.now)) (links_left (finds c.args.tree.now) (site_of c.args.a.now)))

pub returns-in-Ln-clause-refuses : goal.returns-in-Ln-clause-refuses
returns-in-Ln-clause-refuses c =
    rw (c.or-in-Ln-2.ensures, c.or-in-Ln.ensures, c.or.ensures)
    (some_or IsRefused (option_or (option_or c.no_dir.result c.a_file.result) c.name_is_new-in-Ln.result) c.links_left.result
    (some_or IsRefused (option_or c.no_dir.result c.a_file.result) c.name_is_new-in-Ln.result
    (some_or IsRefused c.no_dir.result c.a_file.result c.no_dir.ensures.refuses c.a_file.ensures.refuses) c.name_is_new-in-Ln.ensures.refuses)
    c.links_left.ensures.refuses)

pub returns-in-Mv-clause-check : goal.returns-in-Mv-clause-check
returns-in-Mv-clause-check c =
    rw (c.in-Mv.is, c.or-in-Mv.ensures, c.not_into_itself.ensures.check, c.way_is_free.ensures.check)
    (two_checks (not_into_itself_at (site_of c.args.a.now) (site_of c.args.b.now)) (way_at c.args.tree.now (site_of c.args.a.now) (site_of c.args.b.now)))

pub returns-in-Mv-clause-refuses : goal.returns-in-Mv-clause-refuses
returns-in-Mv-clause-refuses c =
    rw (c.or-in-Mv.ensures)
    (some_or IsRefused c.not_into_itself.result c.way_is_free.result c.not_into_itself.ensures.refuses c.way_is_free.ensures.refuses)

pub returns-in-Write-clause-check : goal.returns-in-Write-clause-check
returns-in-Write-clause-check c =
    rw (
      c.in-Write.is,
      c.or-in-Write-2.ensures,
      c.or-in-Write.ensures,
      c.no_dir-in-Write.ensures.check,
      c.a_file-in-Write.ensures.check,
      c.fits_file.ensures.check,
      c.bytes.ensures,
    )
    (three_checks (no_dir (finds c.args.tree.now) (site_of c.args.a.now)) (a_file (finds c.args.tree.now) (site_of c.args.a.now))
    (fits_file (c.in-Write.offset + length c.in-Write.bytes)))

pub returns-in-Write-clause-refuses : goal.returns-in-Write-clause-refuses
returns-in-Write-clause-refuses c =
    rw (c.or-in-Write-2.ensures, c.or-in-Write.ensures)
    (some_or IsRefused (option_or c.no_dir-in-Write.result c.a_file-in-Write.result) c.fits_file.result
    (some_or IsRefused c.no_dir-in-Write.result c.a_file-in-Write.result c.no_dir-in-Write.ensures.refuses c.a_file-in-Write.ensures.refuses)
    c.fits_file.ensures.refuses)

pub returns-in-Fill-clause-check : goal.returns-in-Fill-clause-check
returns-in-Fill-clause-check c =
    rw (
      c.in-Fill.is,
      c.or-in-Fill-2.ensures,
      c.or-in-Fill.ensures,
      c.no_dir-in-Fill.ensures.check,
      c.a_file-in-Fill.ensures.check,
      c.fits_file-in-Fill.ensures.check,
      c.from.ensures,
    )
    (three_checks (no_dir (finds c.args.tree.now) (site_of c.args.a.now)) (a_file (finds c.args.tree.now) (site_of c.args.a.now))
    (fits_file (c.in-Fill.offset + c.in-Fill.count)))

pub returns-in-Fill-clause-refuses : goal.returns-in-Fill-clause-refuses
returns-in-Fill-clause-refuses c =
    rw (c.or-in-Fill-2.ensures, c.or-in-Fill.ensures)
    (some_or IsRefused (option_or c.no_dir-in-Fill.result c.a_file-in-Fill.result) c.fits_file-in-Fill.result
    (some_or IsRefused c.no_dir-in-Fill.result c.a_file-in-Fill.result c.no_dir-in-Fill.ensures.refuses c.a_file-in-Fill.ensures.refuses)
    c.fits_file-in-Fill.ensures.refuses)

pub returns-in-Truncate-clause-check : goal.returns-in-Truncate-clause-check
returns-in-Truncate-clause-check c =
    rw (
      c.in-Truncate.is,
      c.or-in-Truncate-2.ensures,
      c.or-in-Truncate.ensures,
      c.no_dir-in-Truncate.ensures.check,
      c.a_file-in-Truncate.ensures.check,
      c.fits_file-in-Truncate.ensures.check,
      add-zero c.in-Truncate.size,
    )
    (three_checks (no_dir (finds c.args.tree.now) (site_of c.args.a.now)) (a_file (finds c.args.tree.now) (site_of c.args.a.now))
    (fits_file c.in-Truncate.size))

pub returns-in-Truncate-clause-refuses : goal.returns-in-Truncate-clause-refuses
returns-in-Truncate-clause-refuses c =
    rw (c.or-in-Truncate-2.ensures, c.or-in-Truncate.ensures)
    (some_or IsRefused (option_or c.no_dir-in-Truncate.result c.a_file-in-Truncate.result) c.fits_file-in-Truncate.result
    (some_or IsRefused c.no_dir-in-Truncate.result c.a_file-in-Truncate.result c.no_dir-in-Truncate.ensures.refuses
    c.a_file-in-Truncate.ensures.refuses) c.fits_file-in-Truncate.ensures.refuses)

pub returns-in-Cat-clause-check : goal.returns-in-Cat-clause-check
returns-in-Cat-clause-check c =
    rw (c.in-Cat.is, c.or-in-Cat.ensures, c.no_dir-in-Cat.ensures.check, c.a_file-in-Cat.ensures.check)
    (two_checks (no_dir (finds c.args.tree.now) (site_of c.args.a.now)) (a_file (finds c.args.tree.now) (site_of c.args.a.now)))

pub returns-in-Cat-clause-refuses : goal.returns-in-Cat-clause-refuses
returns-in-Cat-clause-refuses c =
    rw (c.or-in-Cat.ensures)
    (some_or IsRefused c.no_dir-in-Cat.result c.a_file-in-Cat.result c.no_dir-in-Cat.ensures.refuses c.a_file-in-Cat.ensures.refuses)
