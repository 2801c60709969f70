-- `sections::read_waits`: a pair that is refused, one that is not, one that is cut short, and the end of the pairs.
use Rattle.std.proofs.Common.{sym, ◌∙◌, drop, arith}
use Rattle.job.proofs.Refusals.{refuses}
use Rattle.jobfile.specs.Format.{wait_mark, wait_size}
use Rattle.std.proofs.lemmas.Result.{err_from_is_err_and}
use Rattle.reader.proofs.Loops.{record_marked, wait_short, waits_next, records_refused, records_told}
use Rattle.reader.proofs.sections.read_waits.Goals as goal

pub returns-in_err-check_wait : goal.returns-in_err-check_wait
returns-in_err-check_wait c =
    let p = err_from_is_err_and c.from_residual.result c.from_residual.ensures.1 in
    let mark = record_marked wait_size wait_mark (drop c.loop-before.at c.args.file.now) (sym c.loop-before-test.ensures) in
    rw (p.1, p.2) (records_refused c.loop-before.invariant _ mark
    c.in_err-check_wait.ensures (refuses _))

pub loop-before-preserved : goal.loop-before-preserved
loop-before-preserved c =
    let mark = record_marked wait_size wait_mark (drop c.loop-before.at c.args.file.now) (sym c.loop-before-test.ensures) in
    waits_next _ c.loop-before.invariant _ mark (sym c.in_ok-check_wait.ensures)
    c.wait_here-before.ensures

pub returns-then-word_at-eq-WAIT_MARK : goal.returns-then-word_at-eq-WAIT_MARK
returns-then-word_at-eq-WAIT_MARK c =
    let mark = sym c.word_at.ensures ∙ c.if-word_at-eq-WAIT_MARK.true in
    records_refused c.loop-before.invariant 2 mark (wait_short _ _ _ (sym c.loop-before-test.ensures) mark) (λ z. omega arith)

pub returns : goal.returns
returns c = records_told c.loop-before.invariant (λ e. c.if-word_at-eq-WAIT_MARK.false (c.word_at.ensures ∙ e))
