-- `sections::read_runs`: a run that is refused, one that is not, one that is cut short, and the end of the runs.
use Rattle.std.proofs.Common.{sym, ◌∙◌, drop, arith}
use Rattle.job.proofs.Refusals.{refuses}
use Rattle.jobfile.specs.Format.{run_mark, run_size}
use Rattle.std.proofs.lemmas.Result.{err_from_is_err_and}
use Rattle.reader.proofs.Loops.{record_marked, run_short, runs_next, runs_refused, runs_end}
use Rattle.reader.proofs.sections.read_runs.Goals as goal

pub returns-in_err-check_run : goal.returns-in_err-check_run
returns-in_err-check_run c =
    let p = err_from_is_err_and c.from_residual.result c.from_residual.ensures.1 in
    let mark = record_marked run_size run_mark (drop c.loop-before.at c.args.file.now) (sym c.loop-before-test.ensures) in
    rw (p.1, p.2) (runs_refused c.loop-before.invariant _ mark
    c.in_err-check_run.ensures (refuses _))

pub loop-before-preserved : goal.loop-before-preserved
loop-before-preserved c =
    let mark = record_marked run_size run_mark (drop c.loop-before.at c.args.file.now) (sym c.loop-before-test.ensures) in
    rw c.from-grants.ensures (runs_next c.loop-before.invariant _ mark (sym c.in_ok-check_run.ensures)
    c.run_here-before.ensures (omega arith))

pub returns-then-word_at-eq-RUN_MARK : goal.returns-then-word_at-eq-RUN_MARK
returns-then-word_at-eq-RUN_MARK c =
    let mark = sym c.word_at.ensures ∙ c.if-word_at-eq-RUN_MARK.true in
    runs_refused c.loop-before.invariant 2 mark (run_short _ _ _ (sym c.loop-before-test.ensures) mark) (λ z. omega arith)

pub returns : goal.returns
returns c = runs_end c.loop-before.invariant (λ e. c.if-word_at-eq-RUN_MARK.false (c.word_at.ensures ∙ e))
