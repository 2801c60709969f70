-- The table or the room is refused; or the rows are filled and their lines written.
use Rattle.std.proofs.Common.{sym}
use Rattle.std.proofs.lemmas.Result.{err_from_is_err_and}
use Rattle.job.proofs.Refusals.{refuses}
use Rattle.page.proofs.Planning.{table_refused}
use Rattle.page.proofs.Paging.{page_refused, call_refused, call_ended}
use Rattle.page.proofs.grouping_page.Goals as goal

pub returns-in_err-table-clause-exact : goal.returns-in_err-table-clause-exact
returns-in_err-table-clause-exact c =
    let p = err_from_is_err_and c.from_residual.result c.from_residual.ensures.1 in
    let a = c.args in
    rw (p.1, p.2)
    (page_refused a.table.now a.rows.now a.page.now _
    (table_refused a.table.now _ _ _ (refuses _) c.in_err-table.ensures.told)).exact

pub returns-in_err-printed-clause-exact : goal.returns-in_err-printed-clause-exact
returns-in_err-printed-clause-exact c =
    let p = err_from_is_err_and c.from_residual-in_err-printed.result c.from_residual-in_err-printed.ensures.1 in
    let a = c.args in
    rw (p.1, p.2)
    (call_refused a.table.now a.rows.now a.page.now (sym c.in_ok-table.ensures.told)
    (rw c.in_ok-table.ensures.same at c.gathered-groups.ensures) _ c.in_err-printed.ensures).exact

pub returns-clause-exact : goal.returns-clause-exact
returns-clause-exact c =
    let a = c.args in
    let same = c.in_ok-table.ensures.same in
    (call_ended a.table.now a.rows.now a.page.now (sym c.in_ok-table.ensures.told) (rw same at c.gathered-groups.ensures)
    c.in_ok-printed.ensures (rw same at c.fill_rows.ensures) c.write_page.ensures).exact

pub returns-clause-grouped : goal.returns-clause-grouped
returns-clause-grouped c =
    let a = c.args in
    let same = c.in_ok-table.ensures.same in
    (call_ended a.table.now a.rows.now a.page.now (sym c.in_ok-table.ensures.told) (rw same at c.gathered-groups.ensures)
    c.in_ok-printed.ensures (rw same at c.fill_rows.ensures) c.write_page.ensures).grouped
