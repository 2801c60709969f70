-- `checks::Draft::check_numbers`: the first request and the first pair that is refused, behind all that is not.
use Rattle.std.proofs.Common.{arith, ne_eqb}
use Rattle.std.proofs.lemmas.Result.{err_from_is_err_and}
use Rattle.job.proofs.Refusals.{refuses}
use Rattle.writer.proofs.Requests.{count_passes, fields_count}
use Rattle.writer.proofs.checks.Draft.check_numbers.Goals as goal

pub returns-in_err-check_requests : goal.returns-in_err-check_requests
returns-in_err-check_requests c =
    let p = err_from_is_err_and c.from_residual-in_err-check_requests.result c.from_residual-in_err-check_requests.ensures.1 in
    rw (
      p.1,
      p.2,
      ← c.in_ok-check_sizes.ensures,
      ← c.in_ok-check_rights.ensures,
      count_passes c.args.self.requests.now (omega arith),
      ← c.in_err-check_requests.ensures,
      ne_eqb _ 0 (refuses c.in_err-check_requests.field-0.0),
    )

pub returns-in_err-check_waits : goal.returns-in_err-check_waits
returns-in_err-check_waits c =
    let p = err_from_is_err_and c.from_residual-in_err-check_waits.result c.from_residual-in_err-check_waits.ensures.1 in
    rw (
      p.1,
      p.2,
      ← c.in_ok-check_sizes.ensures,
      ← c.in_ok-check_rights.ensures,
      count_passes c.args.self.requests.now (omega arith),
      ← c.in_ok-check_requests.ensures,
      fields_count c.args.self.requests.now,
      ← c.in_err-check_waits.ensures,
      ne_eqb _ 0 (refuses c.in_err-check_waits.field-0.0),
    )
