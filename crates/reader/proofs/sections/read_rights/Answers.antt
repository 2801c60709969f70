-- `sections::read_rights`: a right that is refused, one that is not, and one that is missing.
use Rattle.std.proofs.Common.{sym, ◌∙◌}
use Rattle.job.proofs.Refusals.{refuses}
use Rattle.std.proofs.lemmas.Result.{err_from_is_err_and}
use Rattle.reader.proofs.Loops.{read_next, rights_refused, rights_missing}
use Rattle.reader.proofs.sections.read_rights.Goals as goal

pub returns-in_err-check_right_record : goal.returns-in_err-check_right_record
returns-in_err-check_right_record c =
    let p = err_from_is_err_and c.from_residual.result c.from_residual.ensures.1 in rw (p.1, p.2)
    (rights_refused _ c.loop-heads.invariant _ (sym c.word_at.ensures ∙ c.loop-heads-test.true)
    c.in_err-check_right_record.ensures (refuses _))

pub loop-heads-preserved : goal.loop-heads-preserved
loop-heads-preserved c =
    read_next c.loop-heads.invariant (sym c.word_at.ensures ∙ c.loop-heads-test.true) (sym c.in_ok-check_right_record.ensures)

pub returns-in_err-check_missing : goal.returns-in_err-check_missing
returns-in_err-check_missing c =
    let p = err_from_is_err_and c.from_residual-in_err-check_missing.result c.from_residual-in_err-check_missing.ensures.1 in rw (p.1, p.2)
    (rights_missing _ c.loop-heads.invariant (λ e. c.loop-heads-test.false (c.word_at.ensures ∙ e)) _
    c.in_err-check_missing.ensures (refuses _))
