use Rattle.std.proofs.Common.{◌≡◌, sym, arith}
use Rattle.covering_file.proofs.HeadLines.{cover_in_1, cover_in_2, cover_in_3, job_in_1, job_in_2, job_in_3}
use Rattle.covering_file.proofs.form.first_line.Goals as goal

pub returns-in-Cover-eq1 : goal.returns-in-Cover-eq1
returns-in-Cover-eq1 c = rw (c.in-Cover-eq1.is-0, c.in-Cover-eq1.is-1) (sym cover_in_1)

pub returns-in-Cover-eq2 : goal.returns-in-Cover-eq2
returns-in-Cover-eq2 c = rw (c.in-Cover-eq2.is-0, c.in-Cover-eq2.is-1) (sym cover_in_2)

pub returns-in-Cover-default : goal.returns-in-Cover-default
returns-in-Cover-default c =
    let three : c.args.version ≡ 3 = omega (arith, c.requires, c.in-Cover-default.is-1) in
    rw (c.in-Cover-default.is-0, three) (sym cover_in_3)

pub returns-in-Job-eq1 : goal.returns-in-Job-eq1
returns-in-Job-eq1 c = rw (c.in-Job-eq1.is-0, c.in-Job-eq1.is-1) (sym job_in_1)

pub returns-in-Job-eq2 : goal.returns-in-Job-eq2
returns-in-Job-eq2 c = rw (c.in-Job-eq2.is-0, c.in-Job-eq2.is-1) (sym job_in_2)

pub returns-in-Job-default : goal.returns-in-Job-default
returns-in-Job-default c =
    let three : c.args.version ≡ 3 = omega (arith, c.requires, c.in-Job-default.is-1) in
    rw (c.in-Job-default.is-0, three) (sym job_in_3)
