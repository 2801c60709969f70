-- The columns, then the line feed.
use Rattle.text.proofs.Writing.{wrote_append}
use Rattle.page.specs.Page.{row_line}
use Rattle.page.proofs.lines.put_row.Goals as goal

pub returns : goal.returns
unfolding row_line
returns c = wrote_append c.put_columns-end.ensures c.put_byte.ensures
