-- The heading where it is due, then the row.
use Rattle.page.specs.Page.{heading}
use Rattle.page.proofs.Columns.{lines_headed}
use Rattle.page.proofs.lines.put_lines.Goals as goal

pub returns-then-i-eq0 : goal.returns-then-i-eq0
unfolding heading
returns-then-i-eq0 c =
    lines_headed c.args.i c.args.row c.page_length-at.ensures c.if-i-eq0.true c.put_bytes-next.ensures c.put_row.ensures
