-- The table's start, the report's zeros, and every head before its first request; the rest stays.
use Rattle.std.proofs.Common.{arith}
use Rattle.stepper.proofs.Reached.{playing_admitted}
use Rattle.player.proofs.Laid.{laid_nodes, laid}
use Rattle.player.proofs.lay_out.Goals as goal

pub fresh_table-requires : goal.fresh_table-requires
fresh_table-requires c =
    let asked = c.requires in
    let playing = c.args.job.playing in
    omega (
      arith,
      laid_nodes playing c.args.table.now c.args.report.now asked.nodes_in_bounds asked.requests_in_bounds,
      (playing_admitted playing).few_nodes,
    )

pub returns : goal.returns
returns c =
    let asked = c.requires in
    laid c.args.job.playing c.args.table.now c.args.report.now asked.nodes_in_bounds asked.requests_in_bounds
    c.first_requests-firsts.result c.first_tasks-tasks.result c.resting_heads-heads.result c.first_mask-mask.result _ _
    c.first_progress.result c.fresh_table.ensures c.clear_report.ensures c.first_requests-firsts.ensures
    c.first_tasks-tasks.ensures c.resting_heads-heads.ensures c.first_mask-mask.ensures c.first_progress.ensures
