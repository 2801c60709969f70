-- Refused, nothing is written; else the loop keeps what the start laid out, and what the play promises holds of what it leaves.
use Rattle.std.proofs.Common.{ap, ◌∙◌, ◌+◌, arith}
use Rattle.std.proofs.lemmas.Result.{err_from_is_err_and}
use Rattle.player.proofs.Along.{entry, refused_end, along, lending_start, along_next, along_end}
use Rattle.player.proofs.play.Goals as goal

pub returns-in_err-job : goal.returns-in_err-job
returns-in_err-job c =
    let a = c.args in
    let p = err_from_is_err_and c.from_residual.result c.from_residual.ensures.1 in
    let end = refused_end (entry a.file.now a.table.now a.report.now a.linearization.now) _ c.in_err-job.ensures.told in
    rw (p.1, p.2) (record {
      exact = end.exact;
      linearized = end.linearized;
      lawful = end.lawful;
      waited = end.waited;
      bounded = end.bounded;
    })

pub loop-granted-init : goal.loop-granted-init
loop-granted-init c =
    let a = c.args in
    let job = c.in_ok-job.job in
    let laid = c.lay_out-progress in (
      lending_start (entry job.file.now a.table.now a.report.now a.linearization.now) job.counts c.in_ok-job.ensures.roomy _ _
          laid.result laid.ensures laid.auto.table laid.auto.report c.first_tally-tally.result c.first_tally-tally.ensures,
      ap (λ x. x.progress.number) laid.ensures,
    )

pub loop-granted-preserved : goal.loop-granted-preserved
loop-granted-preserved c =
    let made = c.turn_on-progress in
    let here = c.loop-granted.invariant in
    let next =
    along_next _ _ (along _ _ here.0) (omega (arith, here.1)) made.result _ _ _ c.counted-tally.result made.auto.table
    made.auto.report made.auto.linearization made.ensures c.counted-tally.ensures in (
      next.lending,
      (made.ensures _ _ here.0.going.standing).turned.number ∙ ap (λ k. k + 1) here.1,
    )

pub returns : goal.returns
returns c =
    let end =
    rw c.in_ok-job.ensures.same at
    (along_end _ _ (along _ _ c.loop-granted.invariant.0) (omega (arith, c.loop-granted.invariant.1)) _ c.closed.ensures) in
    record {
      exact = end.exact;
      linearized = end.linearized;
      lawful = end.lawful;
      waited = end.waited;
      bounded = end.bounded;
    }
