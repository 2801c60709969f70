-- Refused, nothing is written; else the loop keeps what the start laid out, and what the play promises holds of what it leaves.
use Rattle.std.proofs.Common.{refl, ap, ◌∙◌, ◌+◌, arith}
use Rattle.std.proofs.lemmas.Result.{err_from_is_err_and}
use Rattle.player.proofs.Along.{entry, along, lending_start, along_addable, along_still, along_next}
use Rattle.lent.proofs.Ended.{accepted_ended, refused_ended}
use Rattle.lent.proofs.grouping_play_lent.Goals as goal

pub returns-in_err-job : goal.returns-in_err-job
returns-in_err-job c =
    let a = c.args in
    let p = err_from_is_err_and c.from_residual.result c.from_residual.ensures.1 in
    let end =
    refused_ended (entry a.file.now a.table.now a.report.now a.linearization.now) a.tally.now _ c.in_err-job.ensures.told in
    rw (p.1, p.2) (record {
      exact = end.played.exact;
      counted = end.counted;
      linearized = end.played.linearized;
      lawful = end.played.lawful;
      waited = end.played.waited;
    })

pub loop-granted-init : goal.loop-granted-init
loop-granted-init c =
    let a = c.args in
    let job = c.in_ok-job.job in
    let laid = c.lay_out-progress in (
      lending_start (entry job.file.now a.table.now a.report.now a.linearization.now) job.counts c.in_ok-job.ensures.roomy _ _
          laid.result laid.ensures laid.auto.table laid.auto.report c.first_tally.result c.first_tally.ensures,
      ap (λ x. x.progress.number) laid.ensures,
    )

pub add-requires : goal.add-requires
add-requires c =
    let here = c.loop-granted.invariant in
    let on = along _ _ here.0 in
    let turned = c.turn_searching-progress in
    record {
      room = along_addable _ _ on (omega (arith, here.1));
      still =
          along_still _ _ on (omega (arith, here.1)) turned.result _ _ _ _ turned.auto.table turned.auto.report
          turned.auto.linearization turned.ensures refl;
    }

pub loop-granted-preserved : goal.loop-granted-preserved
loop-granted-preserved c =
    let here = c.loop-granted.invariant in
    let turned = c.turn_searching-progress in
    let next =
    along_next _ _ (along _ _ here.0) (omega (arith, here.1)) turned.result _ _ _ c.add.new.tally turned.auto.table
    turned.auto.report turned.auto.linearization turned.ensures c.add.ensures in (
      next.lending,
      (turned.ensures _ _ here.0.going.standing).turned.number ∙ ap (λ k. k + 1) here.1,
    )

pub returns : goal.returns
returns c =
    let end =
    rw c.in_ok-job.ensures.same at
    (accepted_ended _ c.args.tally.now _ (along _ _ c.loop-granted.invariant.0) (omega (arith, c.loop-granted.invariant.1)) _
    c.closed.ensures) in
    record {
      exact = end.played.exact;
      counted = end.counted;
      linearized = end.played.linearized;
      lawful = end.played.lawful;
      waited = end.played.waited;
    }
