-- One row more is filled, and at the end all that were found.
use Rattle.std.proofs.Common.{map, arith}
use Rattle.word.specs.Word.{decode}
use Rattle.page.specs.Rows.{group_rows}
use Rattle.page.proofs.Rows.{groups_count}
use Rattle.page.proofs.Pages.{rows_next, rows_done}
use Rattle.page.proofs.list.fill_rows.Goals as goal

pub loop-k-preserved : goal.loop-k-preserved
loop-k-preserved c =
    let count = groups_count c.args.table.admitted c.requires.gathered in
    rows_next _ c.args.rows.now c.loop-k.invariant c.row_at.ensures (omega (arith, count, c.loop-k-test.true))
    (omega (arith, count, c.requires.count_in_bounds))

pub returns : goal.returns
returns c =
    let count = groups_count c.args.table.admitted c.requires.gathered in
    rows_done (group_rows (map decode c.args.table.words.now)) c.args.rows.now _ c.loop-k.k
    (omega (arith, count, c.loop-k-test.false, c.loop-k.auto.k-end)) c.loop-k.invariant
