-- `checks::Draft::check`: the ways that a check ends; the length is refused for the pairs alone, or with the runs.
use Rattle.std.proofs.Common.{◌≡◌, ◌+◌, ◌*◌, ◌/◌, ◌≤◌, length, refl, arith}
use Rattle.job.specs.Job.{most_heads, most_requests}
use Rattle.jobfile.specs.Format.{wait_size, run_size, close_size}
use Rattle.jobfile.specs.Written.{written}
use Rattle.jobfile.specs.Draft.{job_of}
use Rattle.writer.specs.Write.{given}
use Rattle.writer.proofs.Answers.{few_rights, few_requests, length_file, answer_buffer, answer_written}
use Rattle.writer.proofs.checks.Draft.check.Goals as goal
use Rattle.writer.proofs.checks.Draft.check.Goals.{After-run_count-runs, After-request_place-front}

-- once the numbers are not refused, there are few rights and few requests,
few : (c : After-run_count-runs) → (length c.args.self.rights.now / 3 ≤ most_heads) × (length c.args.self.requests.now / 4 ≤ most_requests)
few c = (
  few_rights _ _ c.in_ok-check_numbers.ensures refl,
  few_requests _ _ c.in_ok-check_numbers.ensures refl,
)

-- and once its parts are counted, the length of the file is known too
counted : (c : After-request_place-front)
    → (length c.args.self.rights.now / 3 ≤ most_heads) × (length c.args.self.requests.now / 4 ≤ most_requests)
    × (length (written (job_of (given c.args.self.nodes c.args.self.heads c.args.self.rights.now c.args.self.requests.now
    c.args.self.waits.now c.args.self.grants.now)))
    ≡ c.request_place-front.result + close_size + wait_size * (length c.args.self.waits.now / 2) + run_size * c.run_count-runs.result)
counted c =
    let d = given c.args.self.nodes c.args.self.heads c.args.self.rights.now c.args.self.requests.now
    c.args.self.waits.now c.args.self.grants.now in (
      few_rights d _ c.in_ok-check_numbers.ensures refl,
      few_requests d _ c.in_ok-check_numbers.ensures refl,
      omega (arith, length_file d),
    )

pub overflow_cast-self : goal.overflow_cast-self
overflow_cast-self c =
    omega (arith, few (goal.at.overflow_cast-self c).After-run_count-runs)

pub overflow_cast-self-2 : goal.overflow_cast-self-2
overflow_cast-self-2 c =
    omega (arith, few (goal.at.overflow_cast-self-2 c).After-run_count-runs)

pub overflow_sub-ends : goal.overflow_sub-ends
overflow_sub-ends c =
    omega (arith, few (goal.at.overflow_sub-ends c).After-run_count-runs)

pub overflow_sub-others : goal.overflow_sub-others
overflow_sub-others c =
    omega (arith, few (goal.at.overflow_sub-others c).After-run_count-runs)

pub returns-then-room-bytes : goal.returns-then-room-bytes
returns-then-room-bytes c =
    let parts = counted (goal.at.returns-then-room-bytes c).After-request_place-front in
    answer_buffer _ _ c.in_ok-check_numbers.ensures refl _ (omega (arith, parts)) (omega (arith, parts))

pub overflow_cast-result : goal.overflow_cast-result
overflow_cast-result c =
    omega (arith, counted (goal.at.overflow_cast-result c).After-request_place-front)

pub returns : goal.returns
returns c =
    let parts = counted (goal.at.returns c).After-request_place-front in
    answer_written _ _ c.in_ok-check_numbers.ensures refl _ (omega (arith, parts)) _
    (omega (arith, parts)) (omega arith)
