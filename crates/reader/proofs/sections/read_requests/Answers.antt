-- `sections::read_requests`: a request that is refused, one that is not, and the end of the requests.
use Rattle.std.proofs.Common.{sym, ◌∙◌}
use Rattle.job.proofs.Refusals.{refuses}
use Rattle.std.proofs.lemmas.Result.{err_from_is_err_and}
use Rattle.reader.proofs.Loops.{read_next, records_refused, records_told}
use Rattle.reader.proofs.sections.read_requests.Goals as goal

pub returns-in_err-check_request : goal.returns-in_err-check_request
returns-in_err-check_request c =
    let p = err_from_is_err_and c.from_residual.result c.from_residual.ensures.1 in rw (p.1, p.2)
    (records_refused c.loop-nodes.invariant _ (sym c.word_at.ensures ∙ c.loop-nodes-test.true) c.in_err-check_request.ensures (refuses _))

pub loop-nodes-preserved : goal.loop-nodes-preserved
loop-nodes-preserved c =
    read_next c.loop-nodes.invariant (sym c.word_at.ensures ∙ c.loop-nodes-test.true) (sym c.in_ok-check_request.ensures)

pub returns : goal.returns
returns c = records_told c.loop-nodes.invariant (λ e. c.loop-nodes-test.false (c.word_at.ensures ∙ e))
